-- The values of sums, differences, and operations on bits.
use Rattle.std.proofs.Common.{◌≡◌, ◌≢◌, ℕ, ◌+◌, ◌*◌, ◌-◌, ◌%◌, ◌<◌, ◌^◌, List, [], ◌∷◌, length, Bool, false, nat_lt, refl, sym, ap, ap₂, ◌∙◌, subst, arith}
use Rattle.std.specs.Prelude.{bit_and, bit_or, bit_xor}
use Rattle.std.proofs.Math.Nat.{mod-eq_of_lt, add-mod_right}
use Rattle.std.proofs.lemmas.Nat.{and_block, or_block, xor_block}
use Rattle.cerco_base.specs.Bytes.{sum_byte, carries, difference_byte, borrows, bytes_value, count_of_values, carry_value, sum_bytes, carry_out, difference_bytes, borrow_out, AreBytes}
use Rattle.cerco_base.proofs.ByteLaws.{sums_law, differences_law, sum_bytes_lt, difference_bytes_lt, bytes_value_lt, sum_left, difference_left, borrow_is, no_difference}
use Rattle.cerco_middle.specs.Operators.{negated, complement, operator_value}
use Rattle.cerco_middle.specs.declared.operators.CmOp.TheVariants as o
use Rattle.rtl.specs.declared.operations.Src.{Src}
use Rattle.rtl.specs.declared.operations.Src.TheVariants.{At}
use Rattle.rtl.specs.declared.operations.Arith.{Arith}
use Rattle.rtl.specs.declared.operations.Arith.TheVariants.{Add, Addc, Subb, And, Or, Xor}
use Rattle.rtl.specs.Operations.{ByteOp, Op, ClearCarry}
use Rattle.rtl.specs.Effects.{Storage, is_set}
use Rattle.byte_sequences.specs.Sequences.{ats, literals, chain, sum, difference}
use Rattle.byte_sequences.proofs.Machine.{Cpu, done, all_done, byte, carry, read, operands, value, Off, operands_off, operands_same, carry_same, at_past, made, results, last_carry}
use Rattle.byte_sequences.proofs.Chains.{Clear, chained, operands_ats, length_operands, length_read, HoldBytes, AreByteSources, operand_bytes, ats_bytes, literals_bytes}

-- The sequence puts the number v at ts, and changes nothing else but perhaps what is at s.
pub record Gives (ops : List (ByteOp ℕ)) (s : ℕ) (c : Cpu) (ts : List ℕ) (v : ℕ) : Type 0 where
  pub is : value ts (all_done ops c) ≡ v
  pub same : (r : ℕ) → Off r ts → r ≢ s → byte (all_done ops c) r ≡ byte c r
  pub world : (all_done ops c).world ≡ c.world

-- ---- sums

results_sums : (as' bs : List ℕ) (c : Bool) → results Addc as' bs c ≡ sum_bytes as' bs c
results_sums [] bs c = refl
results_sums (a ∷ as') [] c = refl
results_sums (a ∷ as') (b ∷ bs) c = ap (λ more. sum_byte a b c ∷ more) (results_sums as' bs (carries 256 a b c))

-- the bytes of a sum
pub sum_results : (t : ℕ) (ts : List ℕ) (u : ℕ) (us : List ℕ) (c : Cpu) → Clear (t ∷ ts) (ats (t ∷ ts)) (ats (u ∷ us))
    → read (t ∷ ts) (all_done (sum (t ∷ ts) (u ∷ us)) c).see ≡ sum_bytes (read (t ∷ ts) c.see) (read (u ∷ us) c.see) false
sum_results t ts u us c h =
    let c1 : Cpu = done (Op Add t (At t) (At u)) c in
    let one = made Add t (At t) (At u) c in
    let rest = chained Addc ts (ats ts) (ats us) c1 h.3 in
    let left = operands_off (ats ts) t c.see c1.see one.same h.1 ∙ operands_ats ts c.see in
    let right = operands_off (ats us) t c.see c1.see one.same h.2 ∙ operands_ats us c.see in
    ap₂ (λ b bs. b ∷ bs) (rest.same t h.0 ∙ one.at)
    (rest.values ∙ ap₂ (λ as' bs. results Addc as' bs (carry c1)) left right ∙ ap (results Addc (read ts c.see) (read us c.see)) one.carry_is ∙ results_sums (read ts c.see) (read us c.see) _)

read_bytes : (ts us : List ℕ) (see : Storage → ℕ) → Clear ts (ats ts) (ats us) → HoldBytes see → AreBytes (read ts see) (read us see)
read_bytes ts us see h hold =
    subst (λ as'. AreBytes as' (read us see)) (operands_ats ts see) (subst (AreBytes (operands (ats ts) see)) (operands_ats us see) (operand_bytes ts (ats ts) (ats us) see h (ats_bytes ts) (ats_bytes us) hold))

pub sum_gives : (s t : ℕ) (ts : List ℕ) (u : ℕ) (us : List ℕ) (c : Cpu) → Clear (t ∷ ts) (ats (t ∷ ts)) (ats (u ∷ us)) → HoldBytes c.see
    → Gives (sum (t ∷ ts) (u ∷ us)) s c (t ∷ ts) ((value (t ∷ ts) c + value (u ∷ us) c) % count_of_values (length (t ∷ ts)))
sum_gives s t ts u us c h hold =
    let xs : List ℕ = read (t ∷ ts) c.see in
    let ys : List ℕ = read (u ∷ us) c.see in
    let bytes = read_bytes (t ∷ ts) (u ∷ us) c.see h hold in
    let law : bytes_value (sum_bytes xs ys false) + carry_value (length xs) (carry_out xs ys false) ≡ bytes_value xs + bytes_value ys + 0 = sums_law xs ys false bytes in
    let law' : bytes_value (sum_bytes xs ys false) + carry_value (length xs) (carry_out xs ys false) ≡ bytes_value xs + bytes_value ys = omega (arith, law) in
    let left = sum_left (length xs) _ _ (carry_out xs ys false) (sum_bytes_lt xs ys false bytes) law' in
    let c1 : Cpu = done (Op Add t (At t) (At u)) c in
    let one = made Add t (At t) (At u) c in
    let rest = chained Addc ts (ats ts) (ats us) c1 h.3 in
    record {
      is = ap bytes_value (sum_results t ts u us c h) ∙ left ∙ ap (λ n. (bytes_value xs + bytes_value ys) % count_of_values n) (length_read (t ∷ ts) c.see);
      same = λ r off other. rest.same r off.1 ∙ one.same r off.0;
      world = rest.world;
    }

-- ---- differences

results_differences : (as' bs : List ℕ) (c : Bool) → results Subb as' bs c ≡ difference_bytes as' bs c
results_differences [] bs c = refl
results_differences (a ∷ as') [] c = refl
results_differences (a ∷ as') (b ∷ bs) c = ap (λ more. difference_byte a b c ∷ more) (results_differences as' bs (borrows 256 a b c))

last_borrow : (as' bs : List ℕ) (c : Bool) → last_carry Subb as' bs c ≡ borrow_out as' bs c
last_borrow [] bs c = refl
last_borrow (a ∷ as') [] c = refl
last_borrow (a ∷ as') (b ∷ bs) c = last_borrow as' bs (borrows 256 a b c)

-- A difference of any operands x and y: its value, its borrow, and when it is 0.
pub record Takes (ts : List ℕ) (xs ys : List (Src ℕ)) (c : Cpu) (x y : ℕ) : Type 0 where
  pub is : value ts (all_done (difference ts xs ys) c) ≡ (x + count_of_values (length ts) - y) % count_of_values (length ts)
  pub borrow : carry (all_done (difference ts xs ys) c) ≡ nat_lt x y
  pub none : value ts (all_done (difference ts xs ys) c) ≡ 0 → x ≡ y
  pub from_none : x ≡ y → value ts (all_done (difference ts xs ys) c) ≡ 0
  pub same : (r : ℕ) → Off r ts → byte (all_done (difference ts xs ys) c) r ≡ byte c r
  pub world : (all_done (difference ts xs ys) c).world ≡ c.world
  pub less_x : x < count_of_values (length ts)
  pub less_y : y < count_of_values (length ts)

pub takes : (ts : List ℕ) (xs ys : List (Src ℕ)) (c : Cpu) (x y : ℕ) → bytes_value (operands xs c.see) ≡ x → bytes_value (operands ys c.see) ≡ y
    → Clear ts xs ys → AreByteSources xs → AreByteSources ys → HoldBytes c.see → Takes ts xs ys c x y
takes ts xs ys c x y x_is y_is h f g hold =
    let c0 : Cpu = done ClearCarry c in
    let as' : List ℕ = operands xs c.see in
    let bs : List ℕ = operands ys c.see in
    let run = chained Subb ts xs ys c0 h in
    let start : carry c0 ≡ false = ap is_set (carry_same c.see 0) in
    let left = operands_same xs c.see c0.see (at_past c.see 0) in
    let right = operands_same ys c.see c0.see (at_past c.see 0) in
    let bytes = operand_bytes ts xs ys c.see h f g hold in
    let values : read ts (all_done (chain Subb ts xs ys) c0).see ≡ difference_bytes as' bs false =
    run.values ∙ ap₂ (λ p q. results Subb p q (carry c0)) left right ∙ ap (results Subb as' bs) start ∙ results_differences as' bs false in
    let borrows_is : carry (all_done (chain Subb ts xs ys) c0) ≡ borrow_out as' bs false =
    run.carry_is ∙ ap₂ (λ p q. last_carry Subb p q (carry c0)) left right ∙ ap (last_carry Subb as' bs) start ∙ last_borrow as' bs false in
    let n = length as' in
    let long : n ≡ length ts = length_operands ts xs ys c.see h in
    let d = bytes_value (difference_bytes as' bs false) in
    let law : d + bytes_value bs + 0 ≡ bytes_value as' + carry_value n (borrow_out as' bs false) = differences_law as' bs false bytes in
    let law' : d + bytes_value bs ≡ bytes_value as' + carry_value n (borrow_out as' bs false) = omega (arith, law) in
    let d_lt = difference_bytes_lt as' bs false bytes in
    let both_lt = bytes_value_lt as' bs bytes in
    let none = no_difference n d (bytes_value as') (bytes_value bs) d_lt both_lt.0 both_lt.1 (borrow_out as' bs false) law' in
    record {
      is = ap bytes_value values ∙ difference_left n d (bytes_value as') (bytes_value bs) d_lt both_lt.0 both_lt.1 (borrow_out as' bs false) law'
          ∙ ap (λ m. (bytes_value as' + count_of_values m - bytes_value bs) % count_of_values m) long ∙ ap₂ (λ p q. (p + count_of_values (length ts) - q) % count_of_values (length ts)) x_is y_is;
      borrow = borrows_is ∙ borrow_is n d (bytes_value as') (bytes_value bs) d_lt both_lt.0 both_lt.1 (borrow_out as' bs false) law' ∙ ap₂ nat_lt x_is y_is;
      none = λ z. sym x_is ∙ none.0 (sym (ap bytes_value values) ∙ z) ∙ y_is;
      from_none = λ e. ap bytes_value values ∙ none.1 (x_is ∙ e ∙ sym y_is);
      same = λ r off. run.same r off ∙ at_past c.see 0 r;
      world = run.world;
      less_x = subst (λ z. z < count_of_values (length ts)) x_is (subst (λ m. bytes_value as' < count_of_values m) long both_lt.0);
      less_y = subst (λ z. z < count_of_values (length ts)) y_is (subst (λ m. bytes_value bs < count_of_values m) long both_lt.1);
    }

-- the order of a sum and a difference
add_first : (x n y : ℕ) → y < n → x + n - y ≡ x + (n - y)
add_first x n y less = omega (arith, less)

pub difference_gives : (s : ℕ) (ts us : List ℕ) (c : Cpu) → Clear ts (ats ts) (ats us) → HoldBytes c.see
    → Gives (difference ts (ats ts) (ats us)) s c ts (operator_value (length ts) o.Sub (value ts c) (value us c))
unfolding operator_value
difference_gives s ts us c h hold =
    let t = takes ts (ats ts) (ats us) c (value ts c) (value us c) (ap bytes_value (operands_ats ts c.see)) (ap bytes_value (operands_ats us c.see)) h (ats_bytes ts) (ats_bytes us) hold in
    record { is = t.is ∙ ap (λ z. z % count_of_values (length ts)) (add_first (value ts c) (count_of_values (length ts)) (value us c) t.less_y); same = λ r off other. t.same r off; world = t.world }

-- ---- negatives and complements

zeros_value : (ts : List ℕ) (see : Storage → ℕ) → bytes_value (operands (literals 0 ts) see) ≡ 0
zeros_value [] see = refl
zeros_value (t ∷ ts) see = let rest = zeros_value ts see in omega (arith, rest)

ones_value : (ts : List ℕ) (see : Storage → ℕ) → bytes_value (operands (literals 255 ts) see) + 1 ≡ count_of_values (length ts)
ones_value [] see = refl
ones_value (t ∷ ts) see = let rest = ones_value ts see in omega (arith, rest)

pub negative_gives : (s : ℕ) (ts : List ℕ) (c : Cpu) → Clear ts (literals 0 ts) (ats ts) → HoldBytes c.see
    → Gives (difference ts (literals 0 ts) (ats ts)) s c ts (negated (length ts) (value ts c))
unfolding negated
negative_gives s ts c h hold =
    let t = takes ts (literals 0 ts) (ats ts) c 0 (value ts c) (zeros_value ts c.see) (ap bytes_value (operands_ats ts c.see)) h (literals_bytes 0 ts (omega arith)) (ats_bytes ts) hold in
    let less = t.less_y in
    let same_sum : 0 + count_of_values (length ts) - value ts c ≡ count_of_values (length ts) - value ts c = omega arith in
    record { is = t.is ∙ ap (λ z. z % count_of_values (length ts)) same_sum; same = λ r off other. t.same r off; world = t.world }

complement_left : (n x m : ℕ) → m + 1 ≡ n → x < n → (m + n - x) % n ≡ n - 1 - x
complement_left n x m ones less = let e : m + n - x ≡ (n - 1 - x) + n = omega (arith, ones, less) in
    ap (λ z. z % n) e ∙ left_over (n - 1 - x) (omega (arith, ones, less))
  where
    left_over : (y : ℕ) → y < n → (y + n) % n ≡ y
    left_over y small = add-mod_right y n ∙ mod-eq_of_lt small

pub complement_gives : (s : ℕ) (ts : List ℕ) (c : Cpu) → Clear ts (literals 255 ts) (ats ts) → HoldBytes c.see
    → Gives (difference ts (literals 255 ts) (ats ts)) s c ts (complement (length ts) (value ts c))
unfolding complement
complement_gives s ts c h hold =
    let ones = bytes_value (operands (literals 255 ts) c.see) in
    let t = takes ts (literals 255 ts) (ats ts) c ones (value ts c) refl (ap bytes_value (operands_ats ts c.see)) h (literals_bytes 255 ts (omega arith)) (ats_bytes ts) hold in
    record { is = t.is ∙ complement_left (count_of_values (length ts)) (value ts c) ones (ones_value ts c.see) t.less_y; same = λ r off other. t.same r off; world = t.world }

-- ---- operations on bits

turned : (b w : ℕ) → b + 256 * w ≡ w * 2 ^ 8 + b
turned b w = omega arith

ands_law : (as' bs : List ℕ) (c : Bool) → AreBytes as' bs → bytes_value (results And as' bs c) ≡ bit_and (bytes_value as') (bytes_value bs)
ands_law [] [] c h = refl
ands_law (a ∷ as') (b ∷ bs) c h = ap (λ k. bit_and a b + 256 * k) (ands_law as' bs c h.2) ∙ turned (bit_and a b) (bit_and (bytes_value as') (bytes_value bs)) ∙ sym (and_block 8 (bytes_value as') (bytes_value bs) a b h.0 h.1) ∙ sym (ap₂ bit_and (turned a (bytes_value as')) (turned b (bytes_value bs)))
ands_law [] (b ∷ bs) c h = absurd h
ands_law (a ∷ as') [] c h = absurd h

ors_law : (as' bs : List ℕ) (c : Bool) → AreBytes as' bs → bytes_value (results Or as' bs c) ≡ bit_or (bytes_value as') (bytes_value bs)
ors_law [] [] c h = refl
ors_law (a ∷ as') (b ∷ bs) c h = ap (λ k. bit_or a b + 256 * k) (ors_law as' bs c h.2) ∙ turned (bit_or a b) (bit_or (bytes_value as') (bytes_value bs)) ∙ sym (or_block 8 (bytes_value as') (bytes_value bs) a b h.0 h.1) ∙ sym (ap₂ bit_or (turned a (bytes_value as')) (turned b (bytes_value bs)))
ors_law [] (b ∷ bs) c h = absurd h
ors_law (a ∷ as') [] c h = absurd h

xors_law : (as' bs : List ℕ) (c : Bool) → AreBytes as' bs → bytes_value (results Xor as' bs c) ≡ bit_xor (bytes_value as') (bytes_value bs)
xors_law [] [] c h = refl
xors_law (a ∷ as') (b ∷ bs) c h = ap (λ k. bit_xor a b + 256 * k) (xors_law as' bs c h.2) ∙ turned (bit_xor a b) (bit_xor (bytes_value as') (bytes_value bs)) ∙ sym (xor_block 8 (bytes_value as') (bytes_value bs) a b h.0 h.1) ∙ sym (ap₂ bit_xor (turned a (bytes_value as')) (turned b (bytes_value bs)))
xors_law [] (b ∷ bs) c h = absurd h
xors_law (a ∷ as') [] c h = absurd h

-- an operation on the bytes of two values, by its law
bits_give : (operation : Arith) (f : ℕ → ℕ → ℕ) → ((as' bs : List ℕ) (c : Bool) → AreBytes as' bs → bytes_value (results operation as' bs c) ≡ f (bytes_value as') (bytes_value bs))
    → (s : ℕ) (ts us : List ℕ) (c : Cpu) → Clear ts (ats ts) (ats us) → HoldBytes c.see → Gives (chain operation ts (ats ts) (ats us)) s c ts (f (value ts c) (value us c))
bits_give operation f law s ts us c h hold =
    let run = chained operation ts (ats ts) (ats us) c h in
    let bytes = operand_bytes ts (ats ts) (ats us) c.see h (ats_bytes ts) (ats_bytes us) hold in
    record {
      is = ap bytes_value run.values ∙ law _ _ (carry c) bytes ∙ ap₂ (λ p q. f (bytes_value p) (bytes_value q)) (operands_ats ts c.see) (operands_ats us c.see);
      same = λ r off other. run.same r off;
      world = run.world;
    }

pub and_gives : (s : ℕ) (ts us : List ℕ) (c : Cpu) → Clear ts (ats ts) (ats us) → HoldBytes c.see → Gives (chain And ts (ats ts) (ats us)) s c ts (bit_and (value ts c) (value us c))
and_gives = bits_give And bit_and ands_law

pub or_gives : (s : ℕ) (ts us : List ℕ) (c : Cpu) → Clear ts (ats ts) (ats us) → HoldBytes c.see → Gives (chain Or ts (ats ts) (ats us)) s c ts (bit_or (value ts c) (value us c))
or_gives = bits_give Or bit_or ors_law

pub xor_gives : (s : ℕ) (ts us : List ℕ) (c : Cpu) → Clear ts (ats ts) (ats us) → HoldBytes c.see → Gives (chain Xor ts (ats ts) (ats us)) s c ts (bit_xor (value ts c) (value us c))
xor_gives = bits_give Xor bit_xor xors_law
