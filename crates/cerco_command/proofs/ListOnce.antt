-- A code has one listing.
use Rattle.std.proofs.Common.{◌≡◌, ℕ, ◌+◌, ◌<◌, List, [], ◌∷◌, ◌++◌, length, Some, refl, sym, ap, subst, ◌∙◌, arith, append_assoc}
use Rattle.mcs51_isa.specs.declared.instr.Instr.{Instr}
use Rattle.mcs51_isa.specs.Table.{encode_of}
use Rattle.mcs51_isa.specs.Listing.{line_of}
use Rattle.cerco_command.specs.Disassembly.{listed_at, end_of, StandFrom, lines_from, Ends, ListsTo}
use Rattle.cerco_command.specs.declared.status.Status.{Status}
use Rattle.cerco_command.specs.declared.status.Status.TheVariants.{Done, Reserved}

module _ (code : List ℕ) where
  -- one end at an address
  one_end : (address : ℕ) (a b : Status) (x y : List ℕ) → Ends code address a x → Ends code address b y → (a ≡ b) × (x ≡ y)
  one_end address Done Done x y p q = (refl, p.1 ∙ sym q.1)
  one_end address Reserved Reserved x y p q = (refl, p.2 ∙ sym q.2)
  one_end address Done Reserved x y p q = let all = p.0 in let before = q.0 in absurd (omega arith)
  one_end address Reserved Done x y p q = let before = p.0 in let all = q.0 in absurd (omega arith)
  one_end address Done b x y p q = absurd q
  one_end address Reserved b x y p q = absurd q
  one_end address a b x y p q = absurd p

  -- a listing doesn't end where an instruction stands
  no_end : (address : ℕ) (a : Status) (x : List ℕ) (i : Instr) → Ends code address a x → address < length code → listed_at code address ≡ Some i → ⊥
  no_end address Done x i p before there = let all = p.0 in omega arith
  no_end address Reserved x i p before there = let none = p.1 in cc
  no_end address a x i p before there = p

  once_from : (address : ℕ) (is js : List Instr) (a b : Status) (x y : List ℕ) → StandFrom code address is → StandFrom code address js → Ends code (end_of address is) a x → Ends code (end_of address js) b y → (a ≡ b) × (lines_from address is ++ x ≡ lines_from address js ++ y)
  once_from address [] [] a b x y s t p q = one_end address a b x y p q
  once_from address [] (j ∷ js) a b x y s t p q = absurd (no_end address a x j p t.0 t.1)
  once_from address (i ∷ is) [] a b x y s t p q = absurd (no_end address b y i q s.0 s.1)
  once_from address (i ∷ is) (j ∷ js) a b x y s t p q =
      let there = s.1 in
      let there' = t.1 in
      let same : j ≡ i = cc in
      let S : Instr → Type 0 = λ k. StandFrom code (address + length (encode_of k)) js in
      let E : Instr → Type 0 = λ k. Ends code (end_of (address + length (encode_of k)) js) b y in
      let more = once_from (address + length (encode_of i)) is js a b x y s.2 (subst S same t.2) p (subst E same q) in (
        more.0,
        append_assoc (line_of address i) (lines_from (address + length (encode_of i)) is) x
            ∙ (ap (λ (l : List ℕ). line_of address i ++ l) more.1
            ∙ (sym (append_assoc (line_of address i) (lines_from (address + length (encode_of i)) js) y)
            ∙ ap (λ (k : Instr). lines_from address (k ∷ js) ++ y) (sym same))),
      )

  pub one_listing : (a b : Status) (x y : List ℕ) → ListsTo code a x → ListsTo code b y → (a ≡ b) × (x ≡ y)
  one_listing a b x y p q =
      let once = once_from 0 p.instructions q.instructions a b p.last q.last p.stand q.stand p.ends q.ends in
      (once.0, p.printed ∙ (once.1 ∙ sym q.printed))
