-- Instructions whose bytes stand in the code are what is read there.
use Rattle.std.proofs.Common.{◌≡◌, ℕ, zero, suc, ◌+◌, ◌<◌, ◌≤◌, List, [], ◌∷◌, ◌++◌, Some, refl, sym, ap, ap₂, ◌∙◌, arith, subst, length, get_or, append_assoc, length-append, mod-eq_of_lt, get_or-append-add}
use Rattle.std.proofs.lemmas.List.{get_or_append_left}
use Rattle.mcs51_isa.specs.declared.instr.Instr.{Instr}
use Rattle.mcs51_isa.specs.Table.{encode_of}
use Rattle.mcs51_isa.specs.Decoding.{decode_of}
use Rattle.mcs51_isa.proofs.Inverse.{decode_encode}
use Rattle.mcs51_isa.proofs.Bounds.{size_bounds}
use Rattle.sim51.specs.Effect.{code_at}
use Rattle.sim51.specs.Step.{instr_at, size}
use Rattle.sim51.specs.Placed.{code_of_instrs, bytes_of, Stands}

-- a read past the end gives the default
filled : (l : List ℕ) (k v : ℕ) → (k < length l → v ≡ get_or l k 0) → v ≡ get_or l k v
filled [] k v h = refl
filled (x ∷ l) zero v h = h (omega arith)
filled (x ∷ l) (suc k) v h = filled l k v (λ lt. h (omega arith))

-- a byte of an instruction, read where it stands
byte_there : (i : Instr) (before behind : List ℕ) (k : ℕ) → length before + size i ≤ 65536 → k < size i → code_at (before ++ (encode_of i ++ behind)) (length before + k) ≡ get_or (encode_of i) k 0
byte_there i before behind k fits lt =
    let small : length before + k < 65536 = omega arith in
    ap (λ a. get_or (before ++ (encode_of i ++ behind)) a 0) (mod-eq_of_lt small)
    ∙ get_or-append-add before (encode_of i ++ behind) k 0
    ∙ get_or_append_left (encode_of i) behind 0 k lt

-- whatever bytes stand behind it, an instruction is read where its bytes stand
pub instr_there : (i : Instr) (before behind : List ℕ) → length before + size i ≤ 65536 → instr_at (before ++ (encode_of i ++ behind)) (length before) ≡ Some i
unfolding instr_at
instr_there i before behind fits =
    let code = before ++ (encode_of i ++ behind) in
    let a = length before in
    let x = code_at code (a + 1) in
    let y = code_at code (a + 2) in
    let b0 : code_at code a ≡ get_or (encode_of i) 0 0 = ap (code_at code) (omega arith) ∙ byte_there i before behind 0 fits (size_bounds i).0 in
    let b1 : x ≡ get_or (encode_of i) 1 x = filled (encode_of i) 1 x (λ lt. byte_there i before behind 1 fits lt) in
    let b2 : y ≡ get_or (encode_of i) 2 y = filled (encode_of i) 2 y (λ lt. byte_there i before behind 2 fits lt) in
    ap (λ b. decode_of b x y) b0 ∙ ap₂ (λ p q. decode_of (get_or (encode_of i) 0 0) p q) b1 b2 ∙ decode_encode i x y

-- the bytes of a list of instructions, put behind some bytes and before others, stand where they were put
pub instrs_there : (is : List Instr) (before behind : List ℕ) → length before + length (code_of_instrs is) ≤ 65536 → Stands (before ++ (code_of_instrs is ++ behind)) (length before) is
instrs_there [] before behind fits = tt
instrs_there (i ∷ is) before behind fits =
    let total : length (code_of_instrs (i ∷ is)) ≡ size i + length (code_of_instrs is) = length-append (encode_of i) (code_of_instrs is) in
    let fits_first : length before + size i ≤ 65536 = omega (arith, total) in
    let passed : length (before ++ encode_of i) ≡ length before + size i = length-append before (encode_of i) in
    let first : before ++ (code_of_instrs (i ∷ is) ++ behind) ≡ before ++ (encode_of i ++ (code_of_instrs is ++ behind)) = ap (λ l. before ++ l) (append_assoc (encode_of i) (code_of_instrs is) behind) in
    let whole : (before ++ encode_of i) ++ (code_of_instrs is ++ behind) ≡ before ++ (code_of_instrs (i ∷ is) ++ behind) = append_assoc before (encode_of i) (code_of_instrs is ++ behind) ∙ sym first in
    let rest = instrs_there is (before ++ encode_of i) behind (omega (arith, total, passed)) in (
      ap (λ l. instr_at l (length before)) first ∙ instr_there i before (code_of_instrs is ++ behind) fits_first,
      fits_first,
      subst (λ a. Stands (before ++ (code_of_instrs (i ∷ is) ++ behind)) a is) passed (subst (λ l. Stands l (length (before ++ encode_of i)) is) whole rest),
    )

pub length-code_of_instrs : (is : List Instr) → length (code_of_instrs is) ≡ bytes_of is
length-code_of_instrs [] = refl
length-code_of_instrs (i ∷ is) = length-append (encode_of i) (code_of_instrs is) ∙ ap (λ n. size i + n) (length-code_of_instrs is)

pub code_of_instrs-append : (is js : List Instr) → code_of_instrs (is ++ js) ≡ code_of_instrs is ++ code_of_instrs js
code_of_instrs-append [] js = refl
code_of_instrs-append (i ∷ is) js = ap (λ l. encode_of i ++ l) (code_of_instrs-append is js) ∙ sym (append_assoc (encode_of i) (code_of_instrs is) (code_of_instrs js))

pub bytes_of-append : (is js : List Instr) → bytes_of (is ++ js) ≡ bytes_of is + bytes_of js
bytes_of-append [] js = omega arith
bytes_of-append (i ∷ is) js = omega (arith, bytes_of-append is js)

-- the front and the back of what stands somewhere
module _ (code : List ℕ) where
  pub stands_front : (is js : List Instr) (a : ℕ) → Stands code a (is ++ js) → Stands code a is
  stands_front [] js a there = tt
  stands_front (i ∷ is) js a there = (there.0, there.1, stands_front is js (a + size i) there.2)

  pub stands_back : (is js : List Instr) (a : ℕ) → Stands code a (is ++ js) → Stands code (a + bytes_of is) js
  stands_back [] js a there = let e : a ≡ a + 0 = omega arith in subst (λ n. Stands code n js) e there
  stands_back (i ∷ is) js a there =
      let e : a + size i + bytes_of is ≡ a + (size i + bytes_of is) = omega arith in
      subst (λ n. Stands code n js) e (stands_back is js (a + size i) there.2)
