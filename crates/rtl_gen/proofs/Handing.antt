-- How arguments lie in the argument places.
use Rattle.std.proofs.Common.{◌≡◌, ◌≢◌, ℕ, zero, suc, ◌+◌, ◌<◌, ◌≤◌, ◌⊎◌, inl, inr, ⊎_elim, List, [], ◌∷◌, ◌++◌, length, refl, sym, ap, ◌∙◌, subst, arith}
use Rattle.std.specs.Prelude.{Contains, IsPermutation, slice_index_or}
use Rattle.std.proofs.lemmas.List.Elements.{Contains-append_cases, Contains-append_left, Contains-append_right}
use Rattle.std.proofs.lemmas.List.Sorted.{Contains-permutation, IsPermutation-sym}
use Rattle.cerco_traces.specs.Worlds.{update}
use Rattle.cerco_traces.proofs.WorldLaws.{update_same, update_other}
use Rattle.cerco_middle.specs.declared.operators.Held.{Held}
use Rattle.cerco_middle.specs.Operators.{held_bytes, all_held_bytes}
use Rattle.cerco_middle.specs.Calls.{Values, Argument, arguments_from}
use Rattle.rtl.specs.Effects.{Storage, Loc}
use Rattle.byte_sequences.specs.Words.{argument}
use Rattle.byte_sequences.specs.Sequences.{held_part}
use Rattle.byte_sequences.proofs.Machine.{Off}
use Rattle.byte_sequences.proofs.OperationLaws.{number}
use Rattle.rtl_gen.proofs.Related.{scalar_in, scalar_alike, off_scalar, some_bytes}

-- ---- lists

pub contains_none : {A : Type 0} (x : A) → Contains [] x → ⊥
contains_none x c = let below = c.1 in omega (arith, below)

pub contains_cons : {A : Type 0} (y : A) (xs : List A) (x : A) → Contains (y ∷ xs) x → (y ≡ x) ⊎ Contains xs x
contains_cons y xs x c = by c.0 c.1 c.2
  where
    use_rest : (k : ℕ) → suc k < suc (length xs) → k < length xs
    use_rest k below = omega (arith, below)

    by : (k : ℕ) → k < suc (length xs) → slice_index_or (y ∷ xs) k x ≡ x → (y ≡ x) ⊎ Contains xs x
    by zero below is = inl is
    by (suc k) below is = inr (k, use_rest k below, is)

-- ---- arguments apart

-- they share no byte
abbrev pub Apart : Argument → Argument → Type 0
Apart a b = (a.first_byte + held_bytes a.held ≤ b.first_byte) ⊎ (b.first_byte + held_bytes b.held ≤ a.first_byte)

-- those from a first byte on
pub from_first : (hs : List Held) (first : ℕ) (a : Argument) → Contains (arguments_from first hs) a → (first ≤ a.first_byte) × (a.first_byte + held_bytes a.held ≤ first + all_held_bytes hs)
from_first [] first a is = absurd (contains_none a is)
from_first (h ∷ hs) first a is =
    ⊎_elim
    (λ e. let P : Argument → Type 0 = λ b. (first ≤ b.first_byte) × (b.first_byte + held_bytes b.held ≤ first + all_held_bytes (h ∷ hs)) in subst P e (omega arith, omega arith))
    (λ later. let rest = from_first hs (first + held_bytes h) a later in let low = rest.0 in let high = rest.1 in (omega (arith, low), omega (arith, high)))
    (contains_cons (record { held = h; first_byte = first }) (arguments_from (first + held_bytes h) hs) a is)

abbrev argument_of : Held → ℕ → Argument
argument_of h first = record { held = h; first_byte = first }

-- no two of them share a byte
pub arguments_apart : (hs : List Held) (first : ℕ) (a b : Argument) → Contains (arguments_from first hs) a → Contains (arguments_from first hs) b → (b ≡ a) ⊎ Apart a b
arguments_apart [] first a b is is' = absurd (contains_none a is)
arguments_apart (h ∷ hs) first a b is is' =
    by (contains_cons (argument_of h first) (arguments_from (first + held_bytes h) hs) a is) (contains_cons (argument_of h first) (arguments_from (first + held_bytes h) hs) b is') (λ later later'. arguments_apart hs (first + held_bytes h) a b later later')
  where
    by : ((argument_of h first ≡ a) ⊎ Contains (arguments_from (first + held_bytes h) hs) a) → ((argument_of h first ≡ b) ⊎ Contains (arguments_from (first + held_bytes h) hs) b)
        → (Contains (arguments_from (first + held_bytes h) hs) a → Contains (arguments_from (first + held_bytes h) hs) b → (b ≡ a) ⊎ Apart a b) → (b ≡ a) ⊎ Apart a b
    by (inl e) (inl e') rest = inl (sym e' ∙ e)
    by (inl e) (inr later) rest = inr (inl (subst (λ (c : Argument). c.first_byte + held_bytes c.held ≤ b.first_byte) e (from_first hs (first + held_bytes h) b later).0))
    by (inr later) (inl e) rest = inr (inr (subst (λ (c : Argument). c.first_byte + held_bytes c.held ≤ a.first_byte) e (from_first hs (first + held_bytes h) a later).0))
    by (inr later) (inr later') rest = rest later later'

-- ---- what is handed over

-- the argument in its places
abbrev pub place_value : Argument → (Storage → ℕ) → ℕ
place_value a shared = scalar_in a.held (12 + a.first_byte) shared

-- an argument that shares no byte with another one of these is in its places
abbrev pub AreHanded : List Argument → Values → (Storage → ℕ) → Type 0
AreHanded arguments slots shared =
    (a : Argument) → Contains arguments a → ((b : Argument) → Contains arguments b → (b ≡ a) ⊎ Apart a b) → place_value a shared ≡ slots a.first_byte

pub none_handed : (slots : Values) (shared : Storage → ℕ) → AreHanded [] slots shared
none_handed slots shared a is apart = absurd (contains_none a is)

pub handed_alike : (arguments : List Argument) (slots : Values) (shared shared' : Storage → ℕ) → ((a : Argument) → Contains arguments a → a.first_byte + held_bytes a.held ≤ 12)
    → ((r : ℕ) → r < 24 → shared' (Loc r) ≡ shared (Loc r)) → AreHanded arguments slots shared → AreHanded arguments slots shared'
handed_alike arguments slots shared shared' within alike handed a is apart =
    let few = within a is in
    scalar_alike a.held (12 + a.first_byte) shared shared' (λ r from below. alike r (omega (arith, below, few))) ∙ handed a is apart

-- one argument more
pub one_handed : (arguments : List Argument) (c : Argument) (v : ℕ) (slots : Values) (shared shared' : Storage → ℕ) → AreHanded arguments slots shared
    → place_value c shared' ≡ v → ((r : ℕ) → r < 24 → Off r (held_part c.held (argument number c.first_byte)) → shared' (Loc r) ≡ shared (Loc r))
    → ((a : Argument) → Contains arguments a → a.first_byte + held_bytes a.held ≤ 12)
    → AreHanded (arguments ++ c ∷ []) (update slots c.first_byte v) shared'
one_handed arguments c v slots shared shared' handed is same within a among apart =
    ⊎_elim
    (λ e. ap (λ b. place_value b shared') (sym e) ∙ is ∙ sym (update_same slots c.first_byte a.first_byte v (ap (λ b. b.first_byte) (sym e))))
    (λ away. ⊎_elim (λ earlier. kept' away earlier) (λ last. absurd (itself away (only last))) (Contains-append_cases arguments (c ∷ []) a among))
    (apart c (last_one))
  where
    use_append : Contains (c ∷ []) c
    use_append = (0, omega arith, refl)

    last_one : Contains (arguments ++ c ∷ []) c
    last_one = Contains-append_right arguments (c ∷ []) c use_append

    only : Contains (c ∷ []) a → c ≡ a
    only l = ⊎_elim (λ e. e) (λ n. absurd (contains_none a n)) (contains_cons c [] a l)

    itself : Apart a c → c ≡ a → ⊥
    itself (inl e) same' = let bytes = (some_bytes c.held).0 in let e' = subst (λ (b : Argument). b.first_byte + held_bytes b.held ≤ c.first_byte) (sym same') e in omega (arith, e', bytes)
    itself (inr e) same' = let bytes = (some_bytes c.held).0 in let e' = subst (λ (b : Argument). c.first_byte + held_bytes c.held ≤ b.first_byte) (sym same') e in omega (arith, e', bytes)

    differ : Apart a c → a.first_byte ≢ c.first_byte
    differ (inl e) f = let bytes = (some_bytes a.held).0 in omega (arith, e, f, bytes)
    differ (inr e) f = let bytes = (some_bytes c.held).0 in omega (arith, e, f, bytes)

    beside : Apart a c → (r : ℕ) → 12 + a.first_byte ≤ r → r < 12 + a.first_byte + held_bytes a.held → (r < 12 + c.first_byte) ⊎ (12 + c.first_byte + held_bytes c.held ≤ r)
    beside (inl e) r from below = inl (omega (arith, e, below))
    beside (inr e) r from below = inr (omega (arith, e, from))

    kept' : Apart a c → Contains arguments a → place_value a shared' ≡ update slots c.first_byte v a.first_byte
    kept' away earlier =
        let few = within a earlier in
        scalar_alike a.held (12 + a.first_byte) shared shared' (λ r from below. same r (omega (arith, below, few)) (off_scalar c.held r (12 + c.first_byte) (beside away r from below)))
        ∙ handed a earlier (λ b among'. apart b (Contains-append_left arguments (c ∷ []) b among'))
        ∙ sym (update_other slots c.first_byte a.first_byte v (differ away))

-- all that a call takes is in its places
pub all_handed : (hs : List Held) (arguments : List Argument) (slots : Values) (shared : Storage → ℕ) → IsPermutation (arguments_from 0 hs) arguments → AreHanded arguments slots shared
    → (a : Argument) → Contains (arguments_from 0 hs) a → place_value a shared ≡ slots a.first_byte
all_handed hs arguments slots shared permuted handed a is =
    handed a (Contains-permutation (arguments_from 0 hs) arguments a permuted is)
    (λ b among. arguments_apart hs 0 a b is (Contains-permutation arguments (arguments_from 0 hs) b (IsPermutation-sym (arguments_from 0 hs) arguments permuted) among))
