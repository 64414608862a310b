-- Where the values of a call of RTLabs are held in a call of RTL.
use Rattle.std.proofs.Common.{◌≡◌, ◌≢◌, ℕ, ◌+◌, ◌*◌, ◌<◌, ◌≤◌, ◌⊎◌, inl, inr, ⊎_elim, List, [], ◌∷◌, sym, ap, ap₂, ◌∙◌, arith}
use Rattle.std.proofs.lemmas.Bool.Decides.{eqb_tells}
use Rattle.cerco_base.specs.Bytes.{bytes_value}
use Rattle.cerco_traces.specs.Worlds.{update}
use Rattle.cerco_traces.proofs.WorldLaws.{update_same, update_other}
use Rattle.cerco_middle.specs.declared.operators.Held.{Held}
use Rattle.cerco_middle.specs.declared.operators.Held.TheVariants.{U8, I8, W16}
use Rattle.cerco_middle.specs.Operators.{held_bytes, read_from}
use Rattle.cerco_middle.specs.Calls.{Values, variable_held}
use Rattle.rtl.specs.Effects.{Storage, Loc}
use Rattle.byte_sequences.specs.Words.{word_from, temporary, variable}
use Rattle.byte_sequences.specs.Sequences.{held_part}
use Rattle.byte_sequences.proofs.Machine.{read, Off}
use Rattle.byte_sequences.proofs.OperationLaws.{number, off_part}

-- ---- words that are seen alike

-- the number at a word
abbrev pub word_in : ℕ → (Storage → ℕ) → ℕ
word_in a see = bytes_value (read (word_from number a) see)

-- what a word holds of a scalar, as it is read
abbrev pub scalar_in : Held → ℕ → (Storage → ℕ) → ℕ
scalar_in h a see = read_from h (bytes_value (read (held_part h (word_from number a)) see))

pub word_alike : (a : ℕ) (see see' : Storage → ℕ) → see' (Loc a) ≡ see (Loc a) → see' (Loc (a + 1)) ≡ see (Loc (a + 1)) → word_in a see' ≡ word_in a see
word_alike a see see' low high = ap₂ (λ p q. bytes_value (p ∷ q ∷ [])) low high

pub scalar_alike : (h : Held) (a : ℕ) (see see' : Storage → ℕ) → ((r : ℕ) → a ≤ r → r < a + held_bytes h → see' (Loc r) ≡ see (Loc r)) → scalar_in h a see' ≡ scalar_in h a see
scalar_alike U8 a see see' alike = ap (λ p. read_from U8 (bytes_value (p ∷ []))) (alike a (omega arith) (omega arith))
scalar_alike I8 a see see' alike = ap (λ p. read_from I8 (bytes_value (p ∷ []))) (alike a (omega arith) (omega arith))
scalar_alike W16 a see see' alike = ap₂ (λ p q. read_from W16 (bytes_value (p ∷ q ∷ []))) (alike a (omega arith) (omega arith)) (alike (a + 1) (omega arith) (omega arith))

-- what comes before or after a scalar is none of its locations
pub off_scalar : (h : Held) (r a : ℕ) → (r < a) ⊎ (a + held_bytes h ≤ r) → Off r (held_part h (word_from number a))
off_scalar U8 r a (inl e) = (λ same. omega (arith, e, same), tt)
off_scalar U8 r a (inr e) = (λ same. omega (arith, e, same), tt)
off_scalar I8 r a (inl e) = (λ same. omega (arith, e, same), tt)
off_scalar I8 r a (inr e) = (λ same. omega (arith, e, same), tt)
off_scalar W16 r a (inl e) = (λ same. omega (arith, e, same), (λ same. omega (arith, e, same), tt))
off_scalar W16 r a (inr e) = (λ same. omega (arith, e, same), (λ same. omega (arith, e, same), tt))

pub some_bytes : (h : Held) → (1 ≤ held_bytes h) × (held_bytes h ≤ 2)
some_bytes U8 = (omega arith, omega arith)
some_bytes I8 = (omega arith, omega arith)
some_bytes W16 = (omega arith, omega arith)

-- ---- the values of a call

-- the temporaries and the variables have these values
pub record Holds (held : List Held) (temps vars : Values) (see : Storage → ℕ) : Type 0 where
  pub temps_are : (t : ℕ) → word_in (27 + 4 * t) see ≡ temps t
  pub vars_are : (x : ℕ) → scalar_in (variable_held held x) (25 + 4 * x) see ≡ vars x

module _ (held : List Held) (temps vars : Values) (see see' : Storage → ℕ) (holds : Holds held temps vars see) where
  pub holds_alike : ((r : ℕ) → 24 < r → see' (Loc r) ≡ see (Loc r)) → Holds held temps vars see'
  holds_alike alike = record {
    temps_are = λ t. word_alike (27 + 4 * t) see see' (alike (27 + 4 * t) (omega arith)) (alike (27 + 4 * t + 1) (omega arith)) ∙ holds.temps_are t;
    vars_are = λ x. scalar_alike (variable_held held x) (25 + 4 * x) see see' (λ r from below. alike r (omega (arith, from))) ∙ holds.vars_are x;
  }

  -- a temporary gets a value, and nothing else changes but perhaps the byte to work with
  pub holds_temporary : (t v : ℕ) → word_in (27 + 4 * t) see' ≡ v → ((r : ℕ) → Off r (temporary number t) → r ≢ 24 → see' (Loc r) ≡ see (Loc r)) → Holds held (update temps t v) vars see'
  holds_temporary t v is same = record {
    temps_are = λ u. ⊎_elim
        (λ a. ap (λ z. word_in (27 + 4 * z) see') a.1 ∙ is ∙ sym (update_same temps t u v a.1))
        (λ a. other_word u a.1 ∙ holds.temps_are u ∙ sym (update_other temps t u v a.1))
        (eqb_tells u t);
    vars_are = λ x. scalar_alike (variable_held held x) (25 + 4 * x) see see' (λ r from below. off_variable x r (some_bytes (variable_held held x)) from below) ∙ holds.vars_are x;
  }
    where
      other_word : (u : ℕ) → u ≢ t → word_in (27 + 4 * u) see' ≡ word_in (27 + 4 * u) see
      other_word u other =
          word_alike (27 + 4 * u) see see'
          (same (27 + 4 * u) (λ e. other (omega (arith, e)), (λ e. omega (arith, e), tt)) (λ e. omega (arith, e)))
          (same (27 + 4 * u + 1) (λ e. omega (arith, e), (λ e. other (omega (arith, e)), tt)) (λ e. omega (arith, e)))

      off_variable : (x r : ℕ) → ((1 ≤ held_bytes (variable_held held x)) × (held_bytes (variable_held held x) ≤ 2)) → 25 + 4 * x ≤ r → r < 25 + 4 * x + held_bytes (variable_held held x) → see' (Loc r) ≡ see (Loc r)
      off_variable x r few from below =
          let most = few.1 in
          same r (λ e. omega (arith, e, from, below, most), (λ e. omega (arith, e, from, below, most), tt)) (λ e. omega (arith, e, from))

  -- a variable gets a value, and nothing else changes
  pub holds_variable : (x v : ℕ) → scalar_in (variable_held held x) (25 + 4 * x) see' ≡ v → ((r : ℕ) → Off r (held_part (variable_held held x) (variable number x)) → see' (Loc r) ≡ see (Loc r)) → Holds held temps (update vars x v) see'
  holds_variable x v is same = record {
    temps_are = λ t.
        word_alike (27 + 4 * t) see see'
        (same (27 + 4 * t) (off_part (variable_held held x) (27 + 4 * t) (25 + 4 * x) (λ e. omega (arith, e), (λ e. omega (arith, e), tt))))
        (same (27 + 4 * t + 1) (off_part (variable_held held x) (27 + 4 * t + 1) (25 + 4 * x) (λ e. omega (arith, e), (λ e. omega (arith, e), tt))))
        ∙ holds.temps_are t;
    vars_are = λ y. ⊎_elim
        (λ a. ap (λ z. scalar_in (variable_held held z) (25 + 4 * z) see') a.1 ∙ is ∙ sym (update_same vars x y v a.1))
        (λ a. scalar_alike (variable_held held y) (25 + 4 * y) see see' (λ r from below. off_other y r a.1 (some_bytes (variable_held held y)) from below) ∙ holds.vars_are y ∙ sym (update_other vars x y v a.1))
        (eqb_tells y x);
  }
    where
      off_other : (y r : ℕ) → y ≢ x → ((1 ≤ held_bytes (variable_held held y)) × (held_bytes (variable_held held y) ≤ 2)) → 25 + 4 * y ≤ r → r < 25 + 4 * y + held_bytes (variable_held held y) → see' (Loc r) ≡ see (Loc r)
      off_other y r other few from below =
          let most = few.1 in
          same r (off_part (variable_held held x) r (25 + 4 * x) (λ e. other (omega (arith, e, from, below, most)), (λ e. other (omega (arith, e, from, below, most)), tt)))
