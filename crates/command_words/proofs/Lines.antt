-- Words that are a command line have at most four operands.
use Rattle.std.proofs.Common.{◌≡◌, ◌∙◌, ℕ, ◌≤◌, List, [], ◌∷◌, length, map, refl, ap, subst, arith, Option, None, Some, Bool, true, false, ◌&&◌, cond, bytes_eq, Bor}
use Rattle.std.specs.Prelude.{find, option_map, nat_le, nat_eq}
use Rattle.std.specs.List.{list_all}
use Rattle.std.specs.Option.{option_map_or}
use Rattle.std.proofs.lemmas.Bool.{leb-true, eqb-true}
use Rattle.command_words.specs.Lines.{forms, operand_count, has_operands, are_operands, line_of}
use Rattle.command_words.proofs.Walking.{both}

-- what each form of a list has, the form that is found has
found_small : (p : List ℕ × ℕ → Bool) (fs : List (List ℕ × ℕ)) (n : ℕ) → list_all (λ form. nat_le form.1 4) fs ≡ true → option_map (λ form. form.1) (find p fs) ≡ Some n → n ≤ 4
found_small p [] n small e = absurd cc
found_small p (form ∷ fs) n small e =
    let b = both (nat_le form.1 4) _ small in
    go (p form) (leb-true form.1 4 b.0) (found_small p fs n b.1) e
  where
    go : (t : Bool) → form.1 ≤ 4 → (option_map (λ f. f.1) (find p fs) ≡ Some n → n ≤ 4) → option_map (λ f. f.1) (cond t (Some form) (find p fs)) ≡ Some n → n ≤ 4
    go true le later e =
        let is : form.1 ≡ n = cc in
        subst (λ m. m ≤ 4) is le
    go false le later e = later e

pub all_small : list_all (λ form. nat_le form.1 4) forms ≡ true
all_small = refl

pub few_operands : (name : List ℕ) (operands : List (List ℕ)) → has_operands name operands ≡ true → length operands ≤ 4
few_operands name operands h = go (operand_count name) refl h
  where
    go : (o : Option ℕ) → operand_count name ≡ o → option_map_or (λ count. nat_eq count (length operands)) o false ≡ true → length operands ≤ 4
    go None e h = absurd cc
    go (Some n) e h = subst (λ m. m ≤ 4) (eqb-true n (length operands) h) (found_small (λ form. bytes_eq form.0 name) forms n all_small e)

-- words with more operands than any command has are none
pub long_is_none : (name : List ℕ) (operands : List (List ℕ)) → 5 ≤ length operands → line_of (name ∷ operands) ≡ None
long_is_none name operands long = go (are_operands (name ∷ operands)) (has_operands name operands) refl
  where
    go : (a b : Bool) → has_operands name operands ≡ b → cond {A = Option (List ℕ × List (List ℕ))} (a && b) (Some (name, operands)) None ≡ None
    go false b e = refl
    go true false e = refl
    go true true e =
        let few = few_operands name operands e in
        absurd (omega arith)

pub all_mapped : {X Y : Type 0} (p : Y → Bool) (f : X → Y) (xs : List X) → list_all (λ x. p (f x)) xs ≡ list_all p (map f xs)
all_mapped p f [] = refl
all_mapped p f (x ∷ xs) = ap (λ b. p (f x) && b) (all_mapped p f xs)

-- a row of the program's table, as text
abbrev pub plain : Bor (List ℕ) × ℕ → List ℕ × ℕ
plain form = (form.0.now, form.1)

-- the row that the program finds is the one of its name
pub form_count : (all : List (Bor (List ℕ) × ℕ)) (name : List ℕ) (found : Option (Bor (Bor (List ℕ) × ℕ))) → option_map (λ form. form.now) found ≡ find (λ form. bytes_eq form.0.now name) all
    → map plain all ≡ forms → option_map (λ form. form.now.1) found ≡ operand_count name
form_count all name found is are = twice found ∙ ap (option_map (λ (form : Bor (List ℕ) × ℕ). form.1)) is ∙ by all ∙ ap (λ (fs : List (List ℕ × ℕ)). option_map (λ (form : List ℕ × ℕ). form.1) (find (λ form. bytes_eq form.0 name) fs)) are
  where
    twice : (o : Option (Bor (Bor (List ℕ) × ℕ))) → option_map (λ form. form.now.1) o ≡ option_map (λ (form : Bor (List ℕ) × ℕ). form.1) (option_map (λ form. form.now) o)
    twice None = refl
    twice (Some form) = refl

    by : (fs : List (Bor (List ℕ) × ℕ)) → option_map (λ (form : Bor (List ℕ) × ℕ). form.1) (find (λ form. bytes_eq form.0.now name) fs) ≡ option_map (λ (form : List ℕ × ℕ). form.1) (find (λ form. bytes_eq form.0 name) (map plain fs))
    by [] = refl
    by (form ∷ fs) = go (bytes_eq form.0.now name) (by fs)
      where
        go : (b : Bool) → option_map (λ (f : Bor (List ℕ) × ℕ). f.1) (find (λ f. bytes_eq f.0.now name) fs) ≡ option_map (λ (f : List ℕ × ℕ). f.1) (find (λ f. bytes_eq f.0 name) (map plain fs))
            → option_map (λ (f : Bor (List ℕ) × ℕ). f.1) (cond b (Some form) (find (λ f. bytes_eq f.0.now name) fs)) ≡ option_map (λ (f : List ℕ × ℕ). f.1) (cond b (Some (plain form)) (find (λ f. bytes_eq f.0 name) (map plain fs)))
        go true e = refl
        go false e = e
