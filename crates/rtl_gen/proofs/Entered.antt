-- What the new node after the entry does: the parameters take what was handed over, and the other variables stay 0.
use Rattle.std.proofs.Common.{◌≡◌, ℕ, zero, suc, ◌+◌, ◌*◌, ◌<◌, ◌≤◌, inl, inr, ⊎_elim, List, [], ◌∷◌, length, take, drop, Some, refl, sym, ap, ap₂, ◌∙◌, subst, arith}
use Rattle.std.specs.Prelude.{Contains, slice_get}
use Rattle.std.proofs.lemmas.Option.{none-some, get_or_from_slice_get}
use Rattle.std.proofs.lemmas.Bool.Decides.{eqb_tells}
use Rattle.cerco_base.specs.Bytes.{bytes_value}
use Rattle.cerco_traces.specs.Worlds.{update}
use Rattle.cerco_middle.specs.declared.operators.Held.{Held}
use Rattle.cerco_middle.specs.declared.operators.Held.TheVariants.{U8, I8, W16}
use Rattle.cerco_middle.specs.Operators.{held_bytes, all_held_bytes, read_from}
use Rattle.cerco_middle.specs.Calls.{Values, Argument, all_zero, arguments_from, taken_over, first_variables, variable_held}
use Rattle.rtl.specs.Operations.{ByteOp, Const}
use Rattle.rtl.specs.Effects.{Storage, Loc}
use Rattle.byte_sequences.specs.Words.{word_from, variable, argument}
use Rattle.byte_sequences.specs.Sequences.{held_part, moves, zeros}
use Rattle.byte_sequences.proofs.Machine.{Cpu, done, all_done, all_done_append, byte, Off, at_same, at_other}
use Rattle.byte_sequences.proofs.SoundBytes.{HasBytes, all_done_has_bytes}
use Rattle.byte_sequences.proofs.TouchedBytes.{AreCalm, calm_append, calm_bytes, calm_moves}
use Rattle.byte_sequences.proofs.OperationLaws.{number, moves_move}
use Rattle.rtl_gen.specs.Translation.{taken, cleared, entry_code}
use Rattle.rtl_gen.proofs.Related.{scalar_in, scalar_alike, off_scalar, some_bytes, Holds, holds_alike, holds_variable}
use Rattle.rtl_gen.proofs.Handing.{place_value, from_first}

-- ---- lists

abbrev Fits : List Held → ℕ → List Held → Type 0
Fits held x hs = (k : ℕ) (h : Held) → slice_get hs k ≡ Some h → variable_held held (x + k) ≡ h

fits_take : (n : ℕ) (held : List Held) (k : ℕ) (h : Held) → slice_get (take n held) k ≡ Some h → slice_get held k ≡ Some h
fits_take zero held k h is = absurd (none-some h is)
fits_take (suc n) [] k h is = absurd (none-some h is)
fits_take (suc n) (g ∷ held) zero h is = is
fits_take (suc n) (g ∷ held) (suc k) h is = fits_take n held k h is

fits_first : (n : ℕ) (held : List Held) → Fits held 0 (take n held)
fits_first n held k h is = let e : 0 + k ≡ k = omega arith in ap (variable_held held) e ∙ get_or_from_slice_get held k h W16 (fits_take n held k h is)

-- ---- the parameters

-- what comes after the parameters stays
abbrev Later : ℕ → Cpu → Cpu → Type 0
Later x c c' = (y r : ℕ) → x ≤ y → 25 + 4 * y ≤ r → byte c' r ≡ byte c r

record Taken (held : List Held) (hs : List Held) (x first : ℕ) (given vars : Values) (c : Cpu) : Type 0 where
  holds : Holds held all_zero (taken_over hs x first given vars) (all_done (taken number hs x first) c).see
  later : (y r : ℕ) → x + length hs ≤ y → 25 + 4 * y ≤ r → byte (all_done (taken number hs x first) c) r ≡ byte c r
  shared : (r : ℕ) → r < 25 → byte (all_done (taken number hs x first) c) r ≡ byte c r
  world : (all_done (taken number hs x first) c).world ≡ c.world

calm_taken : (hs : List Held) (x first : ℕ) → AreCalm (taken number hs x first)
calm_taken [] x first = tt
calm_taken (h ∷ hs) x first = calm_append (moves (held_part h (variable number x)) (held_part h (argument number first))) (taken number hs (x + 1) (first + held_bytes h)) (calm_moves h (25 + 4 * x) (12 + first)) (calm_taken hs (x + 1) (first + held_bytes h))

taken_is : (held hs : List Held) (x first : ℕ) (given vars : Values) (c : Cpu) → Fits held x hs → first + all_held_bytes hs ≤ 12
    → ((a : Argument) → Contains (arguments_from first hs) a → place_value a c.see ≡ given a.first_byte)
    → Holds held all_zero vars c.see → HasBytes c → Taken held hs x first given vars c
taken_is held [] x first given vars c fits few parameters holds has = record { holds = holds; later = λ y r from far. refl; shared = λ r near. refl; world = refl }
taken_is held (h ∷ hs) x first given vars c fits few parameters holds has =
    let ops : List (ByteOp ℕ) = moves (held_part h (variable number x)) (held_part h (argument number first)) in
    let more : List (ByteOp ℕ) = taken number hs (x + 1) (first + held_bytes h) in
    let c1 : Cpu = all_done ops c in
    let x_is : variable_held held x ≡ h = ap (variable_held held) no_more ∙ fits 0 h refl in
    let bytes = some_bytes h in
    let at_least = bytes.0 in
    let at_most = bytes.1 in
    let m = moves_move h (25 + 4 * x) (12 + first) c (λ e. omega (arith, e, few, at_least)) (λ e. omega (arith, e, few, at_least)) (λ e. omega (arith, e, few, at_least)) in
    let value_is : scalar_in h (25 + 4 * x) c1.see ≡ given first = ap (read_from h) m.0 ∙ parameters (record { held = h; first_byte = first }) (0, omega arith, refl) in
    let P : Held → Type 0 = λ k. scalar_in k (25 + 4 * x) c1.see ≡ given first in
    let Q : Held → Type 0 = λ k. (r : ℕ) → Off r (held_part k (variable number x)) → c1.see (Loc r) ≡ c.see (Loc r) in
    let holds1 = holds_variable held all_zero vars c.see c1.see holds x (given first) (subst P (sym x_is) value_is) (subst Q (sym x_is) m.1) in
    let has1 = all_done_has_bytes ops c (calm_bytes ops (calm_moves h (25 + 4 * x) (12 + first))) has in
    let near1 : (r : ℕ) → r < 25 → byte c1 r ≡ byte c r = λ r near. m.1 r (off_scalar h r (25 + 4 * x) (inl (omega (arith, near)))) in
    let rest = taken_is held hs (x + 1) (first + held_bytes h) given (update vars x (given first)) c1 fits_rest (omega (arith, few))
    (λ a is. let low = (from_first hs (first + held_bytes h) a is).1 in scalar_alike a.held (12 + a.first_byte) c.see c1.see (λ r from below. near1 r (omega (arith, low, few, below))) ∙ parameters a (contains_rest a is))
    holds1 has1 in
    let joined' : all_done (taken number (h ∷ hs) x first) c ≡ all_done more c1 = all_done_append ops more c in
    let R : Cpu → Type 0 = λ z. Holds held all_zero (taken_over hs (suc x) (first + held_bytes h) given (update vars x (given first))) z.see in
    record {
      holds = subst R (sym joined') (subst (λ n. Holds held all_zero (taken_over hs n (first + held_bytes h) given (update vars x (given first))) (all_done more c1).see) one_more rest.holds);
      later = λ y r from far. ap (λ (z : Cpu). byte z r) joined' ∙ rest.later y r (omega (arith, from)) far ∙ m.1 r (off_scalar h r (25 + 4 * x) (inr (omega (arith, from, far, at_most))));
      shared = λ r near. ap (λ (z : Cpu). byte z r) joined' ∙ rest.shared r near ∙ near1 r near;
      world = ap (λ (z : Cpu). z.world) joined' ∙ rest.world ∙ m.2;
    }
  where
    no_more : x ≡ x + 0
    no_more = omega arith

    one_more : x + 1 ≡ suc x
    one_more = omega arith

    fits_rest : Fits held (x + 1) hs
    fits_rest k g is = let e : x + 1 + k ≡ x + suc k = omega arith in ap (variable_held held) e ∙ fits (suc k) g is

    contains_rest : (a : Argument) → Contains (arguments_from (first + held_bytes h) hs) a → Contains (arguments_from first (h ∷ hs)) a
    contains_rest a is = let below = is.1 in (suc is.0, omega (arith, below), is.2)

-- ---- the other variables

zero_again : (d : ℕ) (c : Cpu) → byte c d ≡ 0 → (r : ℕ) → byte (done (Const d 0) c) r ≡ byte c r
zero_again d c is r =
    ⊎_elim
    (λ a. ap (λ z. byte (done (Const d 0) c) z) a.1 ∙ at_same c.see d 0 ∙ sym is ∙ ap (byte c) (sym a.1))
    (λ a. at_other c.see d 0 r a.1)
    (eqb_tells r d)

record Cleared (ops : List (ByteOp ℕ)) (c : Cpu) : Type 0 where
  same : (r : ℕ) → byte (all_done ops c) r ≡ byte c r
  world : (all_done ops c).world ≡ c.world

part_cleared : (h : Held) (a : ℕ) (c : Cpu) → byte c a ≡ 0 → byte c (a + 1) ≡ 0 → Cleared (zeros (held_part h (word_from number a))) c
part_cleared U8 a c low high = record { same = zero_again a c low; world = refl }
part_cleared I8 a c low high = record { same = zero_again a c low; world = refl }
part_cleared W16 a c low high =
    record { same = λ r. zero_again (a + 1) (done (Const a 0) c) (zero_again a c low (a + 1) ∙ high) r ∙ zero_again a c low r; world = refl }

cleared_is : (hs : List Held) (x : ℕ) (c : Cpu) → ((y r : ℕ) → x ≤ y → 25 + 4 * y ≤ r → byte c r ≡ 0) → Cleared (cleared number hs x) c
cleared_is [] x c none = record { same = λ r. refl; world = refl }
cleared_is (h ∷ hs) x c none =
    let ops : List (ByteOp ℕ) = zeros (held_part h (variable number x)) in
    let c1 : Cpu = all_done ops c in
    let first = part_cleared h (25 + 4 * x) c (none x (25 + 4 * x) (omega arith) (omega arith)) (none x (25 + 4 * x + 1) (omega arith) (omega arith)) in
    let rest = cleared_is hs (x + 1) c1 (λ y r from far. first.same r ∙ none y r (omega (arith, from)) far) in
    let joined' = all_done_append ops (cleared number hs (x + 1)) c in
    record { same = λ r. ap (λ (z : Cpu). byte z r) joined' ∙ rest.same r ∙ first.same r; world = ap (λ (z : Cpu). z.world) joined' ∙ rest.world ∙ first.world }

-- ---- the node

-- a fresh call's own bytes are 0
zero_scalar : (h : Held) (a : ℕ) (see : Storage → ℕ) → see (Loc a) ≡ 0 → see (Loc (a + 1)) ≡ 0 → scalar_in h a see ≡ 0
zero_scalar U8 a see low high = ap (λ p. read_from U8 (bytes_value (p ∷ []))) low
zero_scalar I8 a see low high = ap (λ p. read_from I8 (bytes_value (p ∷ []))) low
zero_scalar W16 a see low high = ap₂ (λ p q. read_from W16 (bytes_value (p ∷ q ∷ []))) low high

pub record Entered (held : List Held) (params : ℕ) (given : Values) (c : Cpu) : Type 0 where
  pub holds : Holds held all_zero (first_variables held params given) (all_done (entry_code number held params) c).see
  pub shared : (r : ℕ) → r < 25 → byte (all_done (entry_code number held params) c) r ≡ byte c r
  pub world : (all_done (entry_code number held params) c).world ≡ c.world

pub calm_entry : (held : List Held) (params : ℕ) → AreCalm (entry_code number held params)
calm_entry held params = calm_append (taken number (take params held) 0 0) (cleared number (drop params held) params) (calm_taken (take params held) 0 0) (calm_cleared (drop params held) params)
  where
    calm_zeros : (h : Held) (a : ℕ) → AreCalm (zeros (held_part h (word_from number a)))
    calm_zeros U8 a = (omega arith, tt)
    calm_zeros I8 a = (omega arith, tt)
    calm_zeros W16 a = (omega arith, (omega arith, tt))

    calm_cleared : (hs : List Held) (x : ℕ) → AreCalm (cleared number hs x)
    calm_cleared [] x = tt
    calm_cleared (h ∷ hs) x = calm_append (zeros (held_part h (variable number x))) (cleared number hs (x + 1)) (calm_zeros h (25 + 4 * x)) (calm_cleared hs (x + 1))

pub entered : (held : List Held) (params : ℕ) (given : Values) (c : Cpu) → all_held_bytes (take params held) ≤ 12
    → ((a : Argument) → Contains (arguments_from 0 (take params held)) a → place_value a c.see ≡ given a.first_byte)
    → ((r : ℕ) → 24 ≤ r → byte c r ≡ 0) → HasBytes c → Entered held params given c
entered held params given c few parameters none has =
    let first : List (ByteOp ℕ) = taken number (take params held) 0 0 in
    let last : List (ByteOp ℕ) = cleared number (drop params held) params in
    let start : Holds held all_zero all_zero c.see = record {
      temps_are = λ t. ap₂ (λ p q. bytes_value (p ∷ q ∷ [])) (none (27 + 4 * t) (omega arith)) (none (27 + 4 * t + 1) (omega arith));
      vars_are = λ x. zero_scalar (variable_held held x) (25 + 4 * x) c.see (none (25 + 4 * x) (omega arith)) (none (25 + 4 * x + 1) (omega arith));
    } in
    let t = taken_is held (take params held) 0 0 given all_zero c (fits_first params held) (omega (arith, few)) parameters start has in
    let c1 : Cpu = all_done first c in
    let short = length-take-le params held in
    let z = cleared_is (drop params held) params c1 (λ y r from far. t.later y r (omega (arith, from, short)) far ∙ none r (omega (arith, far))) in
    let joined' : all_done (entry_code number held params) c ≡ all_done last c1 = all_done_append first last c in
    let R : Cpu → Type 0 = λ s. Holds held all_zero (first_variables held params given) s.see in
    record {
      holds = subst R (sym joined') (holds_alike held all_zero (first_variables held params given) c1.see (all_done last c1).see t.holds (λ r far. z.same r));
      shared = λ r near. ap (λ (s : Cpu). byte s r) joined' ∙ z.same r ∙ t.shared r near;
      world = ap (λ (s : Cpu). s.world) joined' ∙ z.world ∙ t.world;
    }
  where
    length-take-le : (n : ℕ) (hs : List Held) → length (take n hs) ≤ n
    length-take-le zero hs = omega arith
    length-take-le (suc n) [] = omega arith
    length-take-le (suc n) (h ∷ hs) = let rest = length-take-le n hs in omega (arith, rest)
