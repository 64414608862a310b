-- What lines give with one more line behind them.
use Rattle.std.proofs.Common.{◌≡◌, ℕ, max, Bool, true, false, List, [], ◌∷◌, ◌++◌, Option, Some, None, refl, ap, sym, ◌∙◌, arith}
use Rattle.std.specs.Prelude.{◌||◌}
use Rattle.std.specs.Option.{option_or}
use Rattle.object_hex.specs.Records.{record_in}
use Rattle.object_hex.specs.HexMeaning.{byte_in, end_in, ends_file, given, highest_end, has_end}

or-none : (x : Option ℕ) → option_or x None ≡ x
or-none (Some x) = refl
or-none None = refl

or-assoc : (x y z : Option ℕ) → option_or (option_or x y) z ≡ option_or x (option_or y z)
or-assoc (Some x) y z = refl
or-assoc None y z = refl

or-bool : (a b c : Bool) → ((a || b) || c) ≡ (a || (b || c))
or-bool true b c = refl
or-bool false b c = refl

pub given-push : (before : List (List ℕ)) (line : List ℕ) (address : ℕ) → given (before ++ line ∷ []) address ≡ option_or (byte_in (record_in line) address) (given before address)
unfolding given
given-push [] line address = sym (or-none (byte_in (record_in line) address))
given-push (first ∷ more) line address =
    ap (λ byte. option_or byte (byte_in (record_in first) address)) (given-push more line address)
    ∙ or-assoc (byte_in (record_in line) address) (given more address) (byte_in (record_in first) address)

pub highest_end-push : (before : List (List ℕ)) (line : List ℕ) → highest_end (before ++ line ∷ []) ≡ max (highest_end before) (end_in (record_in line))
unfolding highest_end
highest_end-push [] line = refl
highest_end-push (first ∷ more) line = let rest = highest_end-push more line in omega arith

pub has_end-push : (before : List (List ℕ)) (line : List ℕ) → has_end (before ++ line ∷ []) ≡ (ends_file (record_in line) || has_end before)
unfolding has_end
has_end-push [] line = or_comm false (ends_file (record_in line))
  where
    or_comm : (a b : Bool) → (a || b) ≡ (b || a)
    or_comm true true = refl
    or_comm true false = refl
    or_comm false true = refl
    or_comm false false = refl
has_end-push (first ∷ more) line = ap (λ ends. ends || ends_file (record_in first)) (has_end-push more line) ∙ or-bool (ends_file (record_in line)) (has_end more) (ends_file (record_in first))
