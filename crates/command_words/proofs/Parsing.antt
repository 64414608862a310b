-- What a parse of words that may be operands answers.
use Rattle.std.proofs.Common.{◌≡◌, ◌∙◌, ◌≢◌, ◌<◌, List, [], ◌∷◌, length, sym, ap, ap₂, subst, arith, inl, inr, None, Some, true, codes, option_map, unwrap_or}
use Rattle.std.proofs.lemmas.Bool.{cases_lt}
use Rattle.clap.specs.Words.{App, HasKind, HasMatchesOf, Text, all_of, fault_of, first_of, first_value, found_of, is_simple, is_simple_and_free, kind_of, matched_of, matches_of, raw_values, rows_of}
use Rattle.clap.specs.declared.error.Error.{Error}
use Rattle.clap.specs.declared.error.kind.ErrorKind.TheVariants as kind
use Rattle.clap.specs.declared.parser.matches.ArgMatches.{ArgMatches}
use Rattle.clap.proofs.WalkLemmas.{first_value-rows, raw_values-rows}
use Rattle.command_words.specs.Lines.{are_operands}
use Rattle.command_words.specs.Code.Grammar.{grammar_app}
use Rattle.command_words.proofs.Walking.{name_found, operands_found, simple, simple_and_free, taken}

-- clap refuses more than five words alone
pub refused_is_long : (a : App) (words : List Text) (error : Error) → a ≡ grammar_app → are_operands words ≡ true → 0 < length words
    → (is_simple_and_free a ≡ true → HasKind (fault_of a words) error) → kind_of error ≢ kind.OutOfMemory → 5 < length words
refused_is_long a [] error is h some kinds memory = absurd (omega arith)
refused_is_long a (name ∷ operands) error is h some kinds memory = elim (cases_lt 4 (length operands)) [
  | inl many ↦ omega arith
  | inr few ↦
      let none : fault_of a (name ∷ operands) ≡ [] = ap (λ b. fault_of b (name ∷ operands)) is ∙ taken name operands h few in
      absurd (nothing (subst (λ ks. HasKind ks error) none (kinds (ap is_simple_and_free is ∙ simple_and_free))))
]
  where
    nothing : HasKind [] error → ⊥
    nothing (inl m) = memory m
    nothing (inr n) = n

pub some_is : {X : Type 0} (x y : X) → Some x ≡ Some y → x ≡ y
some_is x y e = ap (λ o. unwrap_or o x) e

-- the words of a parse are its name and its operands
module _ (a : App) (words : List Text) (matches : ArgMatches) (is : a ≡ grammar_app) (h : are_operands words ≡ true) (some : 0 < length words) (has : HasMatchesOf a words matches) where
  rows_are : rows_of (found_of matches) ≡ matches_of grammar_app words
  rows_are = (has (ap is_simple is ∙ simple)).0 ∙ ap (λ b. matches_of b words) is

  name_is : first_value (found_of matches) (codes "name") ≡ first_of (codes "name") (matches_of grammar_app words)
  name_is = first_value-rows (found_of matches) (codes "name") ∙ ap (first_of (codes "name")) rows_are

  operands_are : unwrap_or (option_map raw_values (matched_of (found_of matches) (codes "operands"))) [] ≡ unwrap_or (all_of (codes "operands") (matches_of grammar_app words)) []
  operands_are = ap (λ o. unwrap_or o []) (raw_values-rows (found_of matches) (codes "operands") ∙ ap (all_of (codes "operands")) rows_are)

  pub has_name : first_value (found_of matches) (codes "name") ≡ None → ⊥
  has_name none = go words h some (sym name_is ∙ none)
    where
      go : (ws : List Text) → are_operands ws ≡ true → 0 < length ws → first_of (codes "name") (matches_of grammar_app ws) ≡ None → ⊥
      go [] h some e = absurd (omega arith)
      go (w ∷ ws) h some e =
          let found : Some w ≡ None = sym (name_found w ws h) ∙ e in
          cc

  pub words_are : (name : Text) (operands : List Text) → first_value (found_of matches) (codes "name") ≡ Some name
      → operands ≡ unwrap_or (option_map raw_values (matched_of (found_of matches) (codes "operands"))) [] → words ≡ name ∷ operands
  words_are name operands first rest = go words h some (sym name_is ∙ first) (rest ∙ operands_are)
    where
      go : (ws : List Text) → are_operands ws ≡ true → 0 < length ws → first_of (codes "name") (matches_of grammar_app ws) ≡ Some name
          → operands ≡ unwrap_or (all_of (codes "operands") (matches_of grammar_app ws)) [] → ws ≡ name ∷ operands
      go [] h some e r = absurd (omega arith)
      go (w ∷ ws) h some e r = ap₂ (λ n os. n ∷ os) (some_is w name (sym (name_found w ws h) ∙ e)) (sym (r ∙ operands_found w ws h))
