-- Proofs by cases: over registers, pages and the digits of an opcode.
use Rattle.std.proofs.Common.{◌≡◌, ℕ, zero, suc, ◌<◌, arith, subst, sym, inl, inr, ◌⊎◌}
use Rattle.std.proofs.lemmas.Bool.{cases_lt}
use Rattle.mcs51_isa.specs.declared.operands.Reg.{Reg}
use Rattle.mcs51_isa.specs.declared.operands.Reg.TheVariants.{R0, R1, R2, R3, R4, R5, R6, R7}
use Rattle.mcs51_isa.specs.declared.operands.Ind.{Ind}
use Rattle.mcs51_isa.specs.declared.operands.Ind.TheVariants.{At0, At1}
use Rattle.mcs51_isa.specs.declared.operands.Page.{Page}
use Rattle.mcs51_isa.specs.declared.operands.Page.TheVariants.{Page0, Page1, Page2, Page3, Page4, Page5, Page6, Page7}

pub each_reg : (P : Reg → Type 0) → P R0 → P R1 → P R2 → P R3 → P R4 → P R5 → P R6 → P R7 → (n : Reg) → P n
each_reg P p0 p1 p2 p3 p4 p5 p6 p7 R0 = p0
each_reg P p0 p1 p2 p3 p4 p5 p6 p7 R1 = p1
each_reg P p0 p1 p2 p3 p4 p5 p6 p7 R2 = p2
each_reg P p0 p1 p2 p3 p4 p5 p6 p7 R3 = p3
each_reg P p0 p1 p2 p3 p4 p5 p6 p7 R4 = p4
each_reg P p0 p1 p2 p3 p4 p5 p6 p7 R5 = p5
each_reg P p0 p1 p2 p3 p4 p5 p6 p7 R6 = p6
each_reg P p0 p1 p2 p3 p4 p5 p6 p7 R7 = p7

pub each_ind : (P : Ind → Type 0) → P At0 → P At1 → (n : Ind) → P n
each_ind P p0 p1 At0 = p0
each_ind P p0 p1 At1 = p1

pub each_page : (P : Page → Type 0) → P Page0 → P Page1 → P Page2 → P Page3 → P Page4 → P Page5 → P Page6 → P Page7 → (n : Page) → P n
each_page P p0 p1 p2 p3 p4 p5 p6 p7 Page0 = p0
each_page P p0 p1 p2 p3 p4 p5 p6 p7 Page1 = p1
each_page P p0 p1 p2 p3 p4 p5 p6 p7 Page2 = p2
each_page P p0 p1 p2 p3 p4 p5 p6 p7 Page3 = p3
each_page P p0 p1 p2 p3 p4 p5 p6 p7 Page4 = p4
each_page P p0 p1 p2 p3 p4 p5 p6 p7 Page5 = p5
each_page P p0 p1 p2 p3 p4 p5 p6 p7 Page6 = p6
each_page P p0 p1 p2 p3 p4 p5 p6 p7 Page7 = p7

-- a fact at each number below n
abbrev EachBelow : (ℕ → Type 0) → ℕ → Type 0
EachBelow P zero = Unit {0}
EachBelow P (suc n) = EachBelow P n × P n

eq_or_below : (k n : ℕ) → k < suc n → (k ≡ n) ⊎ (k < n)
eq_or_below k n h = elim (cases_lt k n) [ inl q ↦ inr q | inr q ↦ inl (omega arith) ]

each_below : (P : ℕ → Type 0) (n : ℕ) → EachBelow P n → (k : ℕ) → k < n → P k
each_below P zero each k h = absurd (omega arith)
each_below P (suc n) each k h =
    elim (eq_or_below k n (omega arith)) [ inl q ↦ subst P (sym q) each.1 | inr q ↦ each_below P n each.0 k q ]

-- a fact at each digit of a hexadecimal number
pub each_digit : (P : ℕ → Type 0) → P 0 → P 1 → P 2 → P 3 → P 4 → P 5 → P 6 → P 7 → P 8 → P 9 → P 10 → P 11 → P 12 → P 13 → P 14 → P 15 → (digit : ℕ) → digit < 16 → P digit
each_digit P p0 p1 p2 p3 p4 p5 p6 p7 p8 p9 p10 p11 p12 p13 p14 p15 =
    each_below P 16 ((((((((((((((((tt, p0), p1), p2), p3), p4), p5), p6), p7), p8), p9), p10), p11), p12), p13), p14), p15)
