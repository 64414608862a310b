-- The files determine what a command answers.
use Rattle.std.proofs.Common.{◌≡◌, ℕ, ◌+◌, List, [], ◌∷◌, Option, Some, None, IsTrue, refl, sym, ap, subst, ◌∙◌, inl, inr, ◌⊎◌}
use Rattle.cerco_base.specs.Outside.IoStates.{FilesState}
use Rattle.cerco_command.specs.Building.{BuildMeans, SaysRefused, Refuses}
use Rattle.cerco_command.specs.Building as BuildDone
use Rattle.cerco_command.specs.Disassembly.{ListsTo, PrintsListing, ListMeans, ListMeansFor}
use Rattle.cerco_command.specs.Erasing.{EraseMeans, EraseMeansFor}
use Rattle.cerco_command.specs.Inputs.{IsFirstMissing, CannotRead, longest}
use Rattle.cerco_command.specs.Messages.{no_file, bad_file}
use Rattle.cerco_command.specs.Once.{IsFirm, MeansOnce}
use Rattle.cerco_command.specs.Running.{RunTexts, RunsTo, PrintsRun, AreTextsOf, names_of, with_names, RunMeans, RunMeansFor}
use Rattle.cerco_command.specs.Top.{Means, UsageMeans}
use Rattle.cerco_command.specs.Words.{BuildFiles, RunRequest, Request, Builds, Runs, Lists, GivesCosts, Erases, Tells}
use Rattle.cerco_command.specs.declared.status.Status.{Status}
use Rattle.cerco_command.specs.declared.status.Status.TheVariants.{Done, NoFile, Usage, Refused, NoRoom, FileFault, BadInput, Reserved, NoMemory}
use Rattle.cerco_command.proofs.CostsOnce.{costs_once}
use Rattle.cerco_command.proofs.Meanings.{meaning_once}
use Rattle.cerco_command.proofs.OneCase.{one_code, one_map, map_or_fault, no_map, one_text, one_missing, unread, one_too_long, none_too_long, Cases, too_long, bad_hex_line, bad_map_line, works, one_case, one_read}
use Rattle.cerco_command.proofs.RunOnce.{one_stop}
use Rattle.cerco_command.proofs.ListOnce.{one_listing}
use Rattle.cerco_command.proofs.OneTree.{program_or_reason, one_refusal}

-- the cases of `run`
run_case : (names : RunRequest) (texts : RunTexts) (a : Status) (x : List ℕ) → IsFirm a → RunMeansFor names texts a x → Cases (with_names names texts) texts.hex texts.map (PrintsRun names texts) a x
run_case names texts Done x firm m = works m.0 m.1.code m.1.object_read.is_code (λ f. map_or_fault texts.map m.1.labels f m.1.object_read.are_labels) m.1
run_case names texts Reserved x firm m = works m.0 m.1.code m.1.object_read.is_code (λ f. map_or_fault texts.map m.1.labels f m.1.object_read.are_labels) m.1
run_case names texts BadInput x firm (inl m) = too_long refl m
run_case names texts BadInput x firm (inr (m, inl bad)) = bad_hex_line refl m bad
run_case names texts BadInput x firm (inr (m, inr bad)) = bad_map_line refl m bad.0.0 bad.0.1 bad.1
run_case names texts NoMemory x firm m = absurd firm
run_case names texts a x firm m = absurd m

one_run : (names : RunRequest) (texts : RunTexts) (a b : Status) (x y : List ℕ) → PrintsRun names texts a x → PrintsRun names texts b y → (a ≡ b) × (x ≡ y)
one_run names texts a b x y p q =
    let codes_same = one_code texts.hex q.code p.code q.object_read.is_code p.object_read.is_code in
    let labels_same = one_map texts.map q.labels p.labels q.object_read.are_labels p.object_read.are_labels in
    let C : List ℕ → Type 0 = λ c. RunsTo (record { code = c; labels = q.labels; script = texts.script }) names.limit b y in
    let L : List ℕ → Type 0 = λ l. RunsTo (record { code = p.code; labels = l; script = texts.script }) names.limit b y in
    one_stop (record { code = p.code; labels = p.labels; script = texts.script }) names.limit a b x y p.runs (subst L labels_same (subst C codes_same q.runs))

run_once : (names : RunRequest) → MeansOnce (RunMeans names)
run_once names s t u a b x y known fa fb p q = by p.means q.means
  where
    Read : RunTexts → Type 0
    Read texts = IsTrue s.known → AreTextsOf names s texts

    some_missing : (name : List ℕ) (texts : RunTexts) → IsFirstMissing s name (names_of names) → Read texts → ⊥
    some_missing name texts (inl m) r = let none = m.1 in let there = (r known).hex_read.1 in cc
    some_missing name texts (inr (there, inl m)) r = let none = m.1 in let there' = (r known).map_read.1 in cc
    some_missing name texts (inr (there, inr (there', inl m))) r = let none = m.1 in let there'' = (r known).script_read.1 in cc
    some_missing name texts (inr (there, inr (there', inr m))) r = m.1

    texts_same : (f g : RunTexts) → Read f → Read g → g ≡ f
    texts_same f g r w =
        let h = one_text (longest + 1) s names.hex g.hex f.hex (w known).hex_read (r known).hex_read in
        let m = one_text (longest + 1) s names.map g.map f.map (w known).map_read (r known).map_read in
        let k = one_text (longest + 1) s names.script g.script f.script (w known).script_read (r known).script_read in
        let made : List ℕ → List ℕ → List ℕ → RunTexts = λ i j l. record { hex = i; map = j; script = l } in
        ap (λ (i : List ℕ). made i g.map g.script) h ∙ (ap (λ (j : List ℕ). made f.hex j g.script) m ∙ ap (λ (l : List ℕ). made f.hex f.map l) k)

    by : CannotRead (names_of names) s t a x ⊎ ((texts : RunTexts) × Read texts × RunMeansFor names texts a x) → CannotRead (names_of names) s u b y ⊎ ((texts : RunTexts) × Read texts × RunMeansFor names texts b y) → (a ≡ b) × (x ≡ y)
    by (inl c) (inl d) =
        let m = unread (names_of names) s t a x known fa c in
        let n = unread (names_of names) s u b y known fb d in
        (m.0 ∙ sym n.0, m.1.1 ∙ (ap no_file (one_missing s m.1.0 n.1.0 (names_of names) m.1.2 n.1.2) ∙ sym n.1.1))
    by (inl c) (inr d) = let m = unread (names_of names) s t a x known fa c in absurd (some_missing m.1.0 d.0 m.1.2 d.1)
    by (inr c) (inl d) = let n = unread (names_of names) s u b y known fb d in absurd (some_missing n.1.0 c.0 n.1.2 c.1)
    by (inr c) (inr d) =
        let M : RunTexts → Type 0 = λ texts. RunMeansFor names texts b y in
        let m = subst M (texts_same c.0 d.0 c.1 d.1) d.2 in
        one_case (with_names names c.0) c.0.hex c.0.map (PrintsRun names c.0) a b x y (one_run names c.0 a b x y) (run_case names c.0 a x fa c.2) (run_case names c.0 b y fb m)

-- the cases of `list`, which reads no MAP
list_case : (name hex : List ℕ) (a : Status) (x : List ℕ) → IsFirm a → ListMeansFor name hex a x → Cases ((name, hex) ∷ []) hex [] (PrintsListing hex) a x
list_case name hex Done x firm m = works (m.0, tt) m.1.code m.1.is_code no_map m.1
list_case name hex Reserved x firm m = works (m.0, tt) m.1.code m.1.is_code no_map m.1
list_case name hex BadInput x firm (inl m) = too_long refl m
list_case name hex BadInput x firm (inr m) = bad_hex_line refl (m.0, tt) m.1
list_case name hex NoMemory x firm m = absurd firm
list_case name hex a x firm m = absurd m

one_list : (hex : List ℕ) (a b : Status) (x y : List ℕ) → PrintsListing hex a x → PrintsListing hex b y → (a ≡ b) × (x ≡ y)
one_list hex a b x y p q =
    let C : List ℕ → Type 0 = λ c. ListsTo c b y in
    one_listing p.code a b x y p.lists (subst C (one_code hex q.code p.code q.is_code p.is_code) q.lists)

list_once : (name : List ℕ) → MeansOnce (ListMeans name)
list_once name s t u a b x y known fa fb p q =
    let M : List ℕ → Status → List ℕ → Type 0 = λ hex. ListMeansFor name hex in
    one_read name M s t u a b x y known fa fb
    (λ hex m n. one_case ((name, hex) ∷ []) hex [] (PrintsListing hex) a b x y (one_list hex a b x y) (list_case name hex a x fa m) (list_case name hex b y fb n)) p.means q.means

-- the answers of `erase` for a text
one_erase : (name text : List ℕ) (a b : Status) (x y : List ℕ) → IsFirm a → IsFirm b → EraseMeansFor name text a x → EraseMeansFor name text b y → (a ≡ b) × (x ≡ y)
one_erase name text Done Done x y fa fb p q = (refl, p.1 ∙ sym q.1)
one_erase name text BadInput BadInput x y fa fb p q = (refl, p.2 ∙ (ap bad_file (one_too_long p.0 q.0 ((name, text) ∷ []) p.1 q.1) ∙ sym q.2))
one_erase name text Done BadInput x y fa fb p q = absurd (none_too_long q.0 ((name, text) ∷ []) (p.0, tt) q.1)
one_erase name text BadInput Done x y fa fb p q = absurd (none_too_long p.0 ((name, text) ∷ []) (q.0, tt) p.1)
one_erase name text NoMemory b x y fa fb p q = absurd fa
one_erase name text Done NoMemory x y fa fb p q = absurd fb
one_erase name text BadInput NoMemory x y fa fb p q = absurd fb
one_erase name text Done b x y fa fb p q = absurd q
one_erase name text BadInput b x y fa fb p q = absurd q
one_erase name text a b x y fa fb p q = absurd p

erase_once : (name : List ℕ) → MeansOnce (EraseMeans name)
erase_once name s t u a b x y known fa fb p q =
    let M : List ℕ → Status → List ℕ → Type 0 = λ text. EraseMeansFor name text in
    one_read name M s t u a b x y known fa fb (λ text. one_erase name text a b x y fa fb) p.means q.means

-- a source isn't both compiled and refused
accepted_or_refused : (files : BuildFiles) (s t u : FilesState) (text line : List ℕ) → BuildDone.Builds files s t → SaysRefused text line → Refuses files s u text → ⊥
accepted_or_refused files s t u text line p says q =
    let here = p.read in
    let here' = q.read in
    let same : text ≡ p.source = cc in
    let h = subst (λ (x : List ℕ). SaysRefused x line) same says in
    program_or_reason p.source p.texts.compiled.program h.0 p.texts.compiled.is_program h.1

-- and it is refused in one way
refused_once : (files : BuildFiles) (s t u : FilesState) (text other x y : List ℕ) → SaysRefused text x → SaysRefused other y → Refuses files s t text → Refuses files s u other → x ≡ y
refused_once files s t u text other x y p q r w =
    let here = r.read in
    let here' = w.read in
    let same : other ≡ text = cc in
    one_refusal text x y p (subst (λ (z : List ℕ). SaysRefused z y) same q)

-- the answers of `build`
build_once : (files : BuildFiles) → MeansOnce (BuildMeans files)
build_once files s t u Done Done x y known fa fb p q = (refl, p.0 ∙ sym q.0)
build_once files s t u NoFile NoFile x y known fa fb p q = (refl, p.0 ∙ sym q.0)
build_once files s t u Refused Refused x y known fa fb p q = (refl, refused_once files s t u p.0 q.0 x y p.1 q.1 (p.2 known) (q.2 known))
build_once files s t u Done NoFile x y known fa fb p q = let there = (p.1 known).read in let none = (q.1 known).0 in absurd cc
build_once files s t u NoFile Done x y known fa fb p q = let none = (p.1 known).0 in let there = (q.1 known).read in absurd cc
build_once files s t u Refused NoFile x y known fa fb p q = let there = (p.2 known).read in let none = (q.1 known).0 in absurd cc
build_once files s t u NoFile Refused x y known fa fb p q = let none = (p.1 known).0 in let there = (q.2 known).read in absurd cc
build_once files s t u Done Refused x y known fa fb p q = absurd (accepted_or_refused files s t u q.0 y (p.1 known) q.1 (q.2 known))
build_once files s t u Refused Done x y known fa fb p q = absurd (accepted_or_refused files s u t p.0 x (q.1 known) p.1 (p.2 known))
build_once files s t u NoRoom b x y known fa fb p q = absurd fa
build_once files s t u FileFault b x y known fa fb p q = absurd fa
build_once files s t u NoMemory b x y known fa fb p q = absurd fa
build_once files s t u Done NoRoom x y known fa fb p q = absurd fb
build_once files s t u Done FileFault x y known fa fb p q = absurd fb
build_once files s t u Done NoMemory x y known fa fb p q = absurd fb
build_once files s t u NoFile NoRoom x y known fa fb p q = absurd fb
build_once files s t u NoFile FileFault x y known fa fb p q = absurd fb
build_once files s t u NoFile NoMemory x y known fa fb p q = absurd fb
build_once files s t u Refused NoRoom x y known fa fb p q = absurd fb
build_once files s t u Refused FileFault x y known fa fb p q = absurd fb
build_once files s t u Refused NoMemory x y known fa fb p q = absurd fb
build_once files s t u Done b x y known fa fb p q = absurd q
build_once files s t u NoFile b x y known fa fb p q = absurd q
build_once files s t u Refused b x y known fa fb p q = absurd q
build_once files s t u a b x y known fa fb p q = absurd p

usage_once : MeansOnce UsageMeans
usage_once s t u Usage Usage x y known fa fb p q = (refl, p.0 ∙ sym q.0)
usage_once s t u NoMemory b x y known fa fb p q = absurd fa
usage_once s t u Usage NoMemory x y known fa fb p q = absurd fb
usage_once s t u Usage b x y known fa fb p q = absurd q
usage_once s t u a b x y known fa fb p q = absurd p

-- each command answers in one way
pub means_once : (request : Option Request) → MeansOnce (Means request)
means_once (Some (Builds files)) = build_once files
means_once (Some (Runs names)) = run_once names
means_once (Some (Lists hex)) = list_once hex
means_once (Some (GivesCosts files)) = costs_once files
means_once (Some (Erases text)) = erase_once text
means_once (Some (Tells words)) = meaning_once words
means_once None = usage_once
