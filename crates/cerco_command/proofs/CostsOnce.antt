-- An object has one text of costs, or one first cost that is a fault, and the files determine what `costs` answers.
use Rattle.std.proofs.Common.{◌≡◌, ℕ, ◌+◌, List, [], ◌∷◌, Bool, Ok, Err, IsTrue, refl, sym, ap, ap₂, subst, ◌∙◌, inl, inr, ◌⊎◌}
use Rattle.cerco_pipeline.proofs.MarksAlike.{AreAlike, marks_alike, cost_alike, start_alike}
use Rattle.cerco_command.specs.Costs.{ObjectTexts, AreTextsOf, names_of, with_names, Told, told, labels_told, costs_told, Prints, PrintsCosts, PrintsCostsOf, CostsMeans, CostsMeansFor}
use Rattle.cerco_command.specs.Inputs.{IsFirstMissing, CannotRead, longest}
use Rattle.cerco_command.specs.Messages.{start_name, label_name, no_file}
use Rattle.cerco_command.specs.Once.{IsFirm, MeansOnce}
use Rattle.cerco_command.specs.Words.{ObjectFiles}
use Rattle.cerco_command.specs.declared.status.Status.{Status}
use Rattle.cerco_command.specs.declared.status.Status.TheVariants.{Done, BadInput, Uncosted, NoMemory}
use Rattle.cerco_command.proofs.OneCase.{one_code, one_map, map_or_fault, one_text, one_missing, unread, Cases, too_long, bad_hex_line, bad_map_line, works, one_case}

-- what is told goes by which addresses are marked
module _ (code : List ℕ) (m n : List Bool) (alike : AreAlike m n) where
  labels_alike : (number : ℕ) (addresses : List ℕ) → labels_told code m number addresses ≡ labels_told code n number addresses
  labels_alike number [] = refl
  labels_alike number (a ∷ addresses) = ap₂ (told (label_name number)) (cost_alike code m n alike a) (labels_alike (number + 1) addresses)

  told_alike : (labels : List ℕ) → costs_told code m labels ≡ costs_told code n labels
  told_alike labels = ap₂ (told start_name) (start_alike code m n alike) (labels_alike 0 labels)

one_print : (t : Told) (a b : Status) (x y : List ℕ) → Prints t a x → Prints t b y → (a ≡ b) × (x ≡ y)
one_print (Ok lines) Done Done x y p q = (refl, p ∙ sym q)
one_print (Err line) Uncosted Uncosted x y p q = (refl, p ∙ sym q)
one_print (Ok lines) Done b x y p q = absurd q
one_print (Err line) Uncosted b x y p q = absurd q
one_print t a b x y p q = absurd p

one_costs : (code labels : List ℕ) (a b : Status) (x y : List ℕ) → PrintsCosts code labels a x → PrintsCosts code labels b y → (a ≡ b) × (x ≡ y)
one_costs code labels a b x y p q =
    let P : Told → Type 0 = λ t. Prints t b y in
    one_print (costs_told code p.marks labels) a b x y p.prints (subst P (told_alike code q.marks p.marks (marks_alike labels q.marks p.marks q.are_marks p.are_marks) labels) q.prints)

one_text_of_costs : (texts : ObjectTexts) (a b : Status) (x y : List ℕ) → PrintsCostsOf texts a x → PrintsCostsOf texts b y → (a ≡ b) × (x ≡ y)
one_text_of_costs texts a b x y p q =
    let C : List ℕ → Type 0 = λ c. PrintsCosts c q.labels b y in
    let L : List ℕ → Type 0 = λ l. PrintsCosts p.code l b y in
    let code = one_code texts.hex q.code p.code q.object_read.is_code p.object_read.is_code in
    let labels = one_map texts.map q.labels p.labels q.object_read.are_labels p.object_read.are_labels in
    one_costs p.code p.labels a b x y p.costs (subst L labels (subst C code q.costs))

costs_case : (names : ObjectFiles) (texts : ObjectTexts) (a : Status) (x : List ℕ) → IsFirm a → CostsMeansFor names texts a x → Cases (with_names names texts) texts.hex texts.map (PrintsCostsOf texts) a x
costs_case names texts Done x firm m = works m.0 m.1.code m.1.object_read.is_code (λ f. map_or_fault texts.map m.1.labels f m.1.object_read.are_labels) m.1
costs_case names texts Uncosted x firm m = works m.0 m.1.code m.1.object_read.is_code (λ f. map_or_fault texts.map m.1.labels f m.1.object_read.are_labels) m.1
costs_case names texts BadInput x firm (inl m) = too_long refl m
costs_case names texts BadInput x firm (inr (m, inl bad)) = bad_hex_line refl m bad
costs_case names texts BadInput x firm (inr (m, inr bad)) = bad_map_line refl m bad.0.0 bad.0.1 bad.1
costs_case names texts NoMemory x firm m = absurd firm
costs_case names texts a x firm m = absurd m

pub costs_once : (names : ObjectFiles) → MeansOnce (CostsMeans names)
costs_once names s t u a b x y known fa fb p q = by p.means q.means
  where
    Read : ObjectTexts → Type 0
    Read texts = IsTrue s.known → AreTextsOf names s texts

    some_missing : (name : List ℕ) (texts : ObjectTexts) → IsFirstMissing s name (names_of names) → Read texts → ⊥
    some_missing name texts (inl m) r = let none = m.1 in let there = (r known).hex_read.1 in cc
    some_missing name texts (inr (there, inl m)) r = let none = m.1 in let there' = (r known).map_read.1 in cc
    some_missing name texts (inr (there, inr m)) r = m.1

    texts_same : (f g : ObjectTexts) → Read f → Read g → g ≡ f
    texts_same f g r w =
        let h = one_text (longest + 1) s names.hex g.hex f.hex (w known).hex_read (r known).hex_read in
        let m = one_text (longest + 1) s names.map g.map f.map (w known).map_read (r known).map_read in
        let made : List ℕ → List ℕ → ObjectTexts = λ i j. record { hex = i; map = j } in
        ap (λ (i : List ℕ). made i g.map) h ∙ ap (λ (j : List ℕ). made f.hex j) m

    by : CannotRead (names_of names) s t a x ⊎ ((texts : ObjectTexts) × Read texts × CostsMeansFor names texts a x) → CannotRead (names_of names) s u b y ⊎ ((texts : ObjectTexts) × Read texts × CostsMeansFor names texts b y) → (a ≡ b) × (x ≡ y)
    by (inl c) (inl d) =
        let m = unread (names_of names) s t a x known fa c in
        let n = unread (names_of names) s u b y known fb d in
        (m.0 ∙ sym n.0, m.1.1 ∙ (ap no_file (one_missing s m.1.0 n.1.0 (names_of names) m.1.2 n.1.2) ∙ sym n.1.1))
    by (inl c) (inr d) = let m = unread (names_of names) s t a x known fa c in absurd (some_missing m.1.0 d.0 m.1.2 d.1)
    by (inr c) (inl d) = let n = unread (names_of names) s u b y known fb d in absurd (some_missing n.1.0 c.0 n.1.2 c.1)
    by (inr c) (inr d) =
        let M : ObjectTexts → Type 0 = λ texts. CostsMeansFor names texts b y in
        let m = subst M (texts_same c.0 d.0 c.1 d.1) d.2 in
        one_case (with_names names c.0) c.0.hex c.0.map (PrintsCostsOf c.0) a b x y (one_text_of_costs c.0 a b x y) (costs_case names c.0 a x fa c.2) (costs_case names c.0 b y fb m)
