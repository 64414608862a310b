-- How `meaning` ends, from what its stages did, and that the files determine what it answers.
use Rattle.std.proofs.Common.{◌≡◌, ℕ, ◌≤◌, ◌<◌, ◌⊎◌, List, [], ◌∷◌, length, take, ◌+◌, Bool, true, false, IsTrue, Result, Ok, Err, refl, sym, ap, subst, ◌∙◌, arith, inl, inr}
use Rattle.std.proofs.lemmas.Bool.{true≢false}
use Rattle.cerco_base.specs.Outside.IoStates.{FilesState, SinkState, SameFiles}
use Rattle.cerco_base.specs.declared.outside.faults.IoFault.{IoFault}
use Rattle.cerco_base.specs.declared.reasons.Reason.{Reason}
use Rattle.cerco_pipeline.specs.Programs.{HasRoomByText}
use Rattle.cerco_pipeline.specs.Built.{IsRefused}
use Rattle.cerco_pipeline.specs.Told.{IsMeaningOf, PutsMeaning}
use Rattle.cerco_command.specs.Answers.{Says, Answers}
use Rattle.cerco_command.specs.Inputs.{CannotRead, IsFirstMissing, longest}
use Rattle.cerco_command.specs.Messages.{no_file, bad_file}
use Rattle.cerco_command.specs.Once.{IsFirm, MeansOnce}
use Rattle.cerco_command.specs.Refusals.{status_of_refusal}
use Rattle.cerco_command.specs.Refusals as line_of
use Rattle.cerco_command.specs.Status.{status_of}
use Rattle.cerco_command.specs.Telling.{MeaningTexts, names_of, AreTextsOf, MeaningMeansFor, MeaningMeans}
use Rattle.cerco_command.specs.Words.{MeaningRequest}
use Rattle.cerco_command.specs.Code.Stages.{Replies, SaysWhy}
use Rattle.cerco_command.specs.Code.Tellings.{AreReadOf}
use Rattle.cerco_command.specs.declared.status.Status.{Status}
use Rattle.cerco_command.specs.declared.status.Status.TheVariants.{Told, Refused, NoRoom, BadInput, NoMemory}
use Rattle.cerco_command.proofs.Answering.{answered, answers_by, cut, says_nothing}
use Rattle.cerco_command.proofs.Built.{says_why, whole, whole_refused, whole_no_room}
use Rattle.cerco_command.proofs.OneCase.{one_missing, one_text, one_too_long, unread}
use Rattle.cerco_command.proofs.OneTree.{one_refusal}

-- ---- the source that was read is the whole one

abbrev with_source : MeaningTexts → List ℕ → MeaningTexts
with_source texts all = record { source = all; script = texts.script }

whole_meaning : (source all script : List ℕ) (limit : ℕ) (line : List ℕ) → source ≡ take 65536 all → IsMeaningOf source script limit line → IsMeaningOf all script limit line
whole_meaning source all script limit line e m =
    let P : List ℕ → Type 0 = λ text. IsMeaningOf text script limit line in
    subst P (whole source all e m.is_program.is_tree.tokens.source.short) m

of_whole : (words : MeaningRequest) (texts : MeaningTexts) (all : List ℕ) (status : Status) (line : List ℕ) → texts.source ≡ take 65536 all → MeaningMeansFor words texts status line → MeaningMeansFor words (with_source texts all) status line
of_whole words texts all Told line e m = (m.0, whole_meaning texts.source all texts.script words.limit line e m.1)
of_whole words texts all Refused line e m = (m.0, whole_refused texts.source all line e m.1)
of_whole words texts all NoRoom line e m = (m.0, whole_no_room texts.source all line e m.1)
of_whole words texts all BadInput line e m = m
of_whole words texts all NoMemory line e m = m
of_whole words texts all status line e m = absurd m

module _ (words : MeaningRequest) (texts : MeaningTexts) (s t : FilesState) (read : IsTrue s.known → AreReadOf words s texts) (same : IsTrue s.known → SameFiles s t) where
  meant : (status : Status) (line : List ℕ) → MeaningMeansFor words texts status line → MeaningMeans words s t status line
  meant status line m = by s.known refl
    where
      by : (k : Bool) → s.known ≡ k → MeaningMeans words s t status line
      by true e =
          let r = read e in
          let all = r.source_read.0 in
          record {
            same = same;
            means = inr (with_source texts all, λ h. record { source_read = r.source_read.1; script_read = r.script_read }, of_whole words texts all status line r.source_read.2 m);
          }
      by false e = record { same = same; means = inr (texts, λ h. absurd (true≢false (sym h ∙ e)), m) }

  pub meaning_answered : (o p : SinkState) (status : Status) → Answers (MeaningMeansFor words texts) o p status → Answers (MeaningMeans words s t) o p status
  meaning_answered o p status a = answers_by (MeaningMeansFor words texts) (MeaningMeans words s t) o p status meant a

-- ---- answers for texts

pub told_answered : (words : MeaningRequest) (texts : MeaningTexts) (o p : SinkState) (r : Result (Unit {0}) IoFault) (x : Unit {0}) → length texts.script ≤ longest → r ≡ Ok x → PutsMeaning texts.source texts.script words.limit o p r → Answers (MeaningMeansFor words texts) o p Told
told_answered words texts o p (Ok y) x short is m =
    answered (MeaningMeansFor words texts) o p Told m.text Told (short, m.is_meaning) (record { keeps = m.puts.keeps; puts = inl (refl, m.puts.whole) })
told_answered words texts o p (Err fault) x short is m = absurd cc

pub told_short : (words : MeaningRequest) (texts : MeaningTexts) (o p : SinkState) (fault : IoFault) → length texts.script ≤ longest → PutsMeaning texts.source texts.script words.limit o p (Err fault) → Answers (MeaningMeansFor words texts) o p (status_of fault)
told_short words texts o p fault short m =
    answered (MeaningMeansFor words texts) o p Told m.text (status_of fault) (short, m.is_meaning) (cut o p Told m.text fault m.puts)

why_meant : (words : MeaningRequest) (texts : MeaningTexts) (status : Status) (line : List ℕ) → length texts.script ≤ longest → SaysWhy texts.source status line → MeaningMeansFor words texts status line
why_meant words texts Refused line short h = (short, h)
why_meant words texts NoRoom line short h = (short, h)
why_meant words texts status line short h = absurd h

-- a reply says what is meant, or there is no memory for it
replied : (words : MeaningRequest) (texts : MeaningTexts) (meant status : Status) (said line : List ℕ) → MeaningMeansFor words texts meant said → Replies meant said status line → MeaningMeansFor words texts status line
replied words texts meant status said line m (inl e) =
    subst (λ (st : Status). MeaningMeansFor words texts st line) (sym e.0) (subst (λ (l : List ℕ). MeaningMeansFor words texts meant l) (sym e.1) m)
replied words texts meant status said line m (inr e) = subst (λ (st : Status). MeaningMeansFor words texts st line) (sym e.0) e.1

pub refused_answered : (words : MeaningRequest) (texts : MeaningTexts) (o p q : SinkState) (reason : Reason) (replies status : Status) (line : List ℕ) → length texts.script ≤ longest → IsRefused texts.source reason → (HasRoomByText texts.source → ⊥) → Replies (status_of_refusal reason) (line_of.refused reason) replies line → p ≡ o → Says p q replies line status → Answers (MeaningMeansFor words texts) o q status
refused_answered words texts o p q reason replies status line short h free says same put =
    let P : SinkState → Type 0 = λ s. Says s q replies line status in
    answered (MeaningMeansFor words texts) o q replies line status
    (replied words texts (status_of_refusal reason) replies (line_of.refused reason) line (why_meant words texts (status_of_refusal reason) (line_of.refused reason) short (says_why texts.source reason h free)) says)
    (subst P same put)

pub unmade_answered : (words : MeaningRequest) (texts : MeaningTexts) (o p : SinkState) → p ≡ o → Answers (MeaningMeansFor words texts) o p NoMemory
unmade_answered words texts o p same =
    let P : SinkState → Type 0 = λ s. Says o s NoMemory [] NoMemory in
    answered (MeaningMeansFor words texts) o p NoMemory [] NoMemory refl (subst P (sym same) (says_nothing o NoMemory))

pub too_long_answered : (words : MeaningRequest) (texts : MeaningTexts) (o p : SinkState) (replies status : Status) (line : List ℕ) → longest < length texts.script → Replies BadInput (bad_file words.script) replies line → Says o p replies line status → Answers (MeaningMeansFor words texts) o p status
too_long_answered words texts o p replies status line long says put =
    answered (MeaningMeansFor words texts) o p replies line status
    (replied words texts BadInput replies (bad_file words.script) line (words.script, inl (refl, long), refl) says) put

-- ---- one answer

meant_once : (words : MeaningRequest) (texts : MeaningTexts) (a b : Status) (x y : List ℕ) → IsFirm a → IsFirm b → MeaningMeansFor words texts a x → MeaningMeansFor words texts b y → (a ≡ b) × (x ≡ y)
meant_once words texts Refused Refused x y fa fb p q = (refl, one_refusal texts.source x y p.1 q.1)
meant_once words texts BadInput BadInput x y fa fb p q = (refl, p.2 ∙ (ap bad_file (one_too_long p.0 q.0 ((words.script, texts.script) ∷ []) p.1 q.1) ∙ sym q.2))
meant_once words texts Refused BadInput x y fa fb p q = absurd (not_long p.0 q.1)
  where
    not_long : length texts.script ≤ longest → ((q.0 ≡ words.script) × (longest < length texts.script)) ⊎ ((length texts.script ≤ longest) × ⊥) → ⊥
    not_long short (inl h) = let long = h.1 in omega arith
    not_long short (inr h) = h.1
meant_once words texts BadInput Refused x y fa fb p q = absurd (not_long q.0 p.1)
  where
    not_long : length texts.script ≤ longest → ((p.0 ≡ words.script) × (longest < length texts.script)) ⊎ ((length texts.script ≤ longest) × ⊥) → ⊥
    not_long short (inl h) = let long = h.1 in omega arith
    not_long short (inr h) = h.1
meant_once words texts Told b x y fa fb p q = absurd fa
meant_once words texts NoRoom b x y fa fb p q = absurd fa
meant_once words texts NoMemory b x y fa fb p q = absurd fa
meant_once words texts Refused Told x y fa fb p q = absurd fb
meant_once words texts Refused NoRoom x y fa fb p q = absurd fb
meant_once words texts Refused NoMemory x y fa fb p q = absurd fb
meant_once words texts BadInput Told x y fa fb p q = absurd fb
meant_once words texts BadInput NoRoom x y fa fb p q = absurd fb
meant_once words texts BadInput NoMemory x y fa fb p q = absurd fb
meant_once words texts Refused b x y fa fb p q = absurd q
meant_once words texts BadInput b x y fa fb p q = absurd q
meant_once words texts a b x y fa fb p q = absurd p

pub meaning_once : (words : MeaningRequest) → MeansOnce (MeaningMeans words)
meaning_once words s t u a b x y known fa fb p q = by p.means q.means
  where
    Read : MeaningTexts → Type 0
    Read texts = IsTrue s.known → AreTextsOf words s texts

    some_missing : (name : List ℕ) (texts : MeaningTexts) → IsFirstMissing s name (names_of words) → Read texts → ⊥
    some_missing name texts (inl m) r = let none = m.1 in let there = (r known).source_read in cc
    some_missing name texts (inr (there, inl m)) r = let none = m.1 in let there' = (r known).script_read.1 in cc
    some_missing name texts (inr (there, inr m)) r = m.1

    texts_same : (f g : MeaningTexts) → Read f → Read g → g ≡ f
    texts_same f g r w =
        let here = (r known).source_read in
        let here' = (w known).source_read in
        let source : g.source ≡ f.source = cc in
        let script = one_text (longest + 1) s words.script g.script f.script (w known).script_read (r known).script_read in
        let made : List ℕ → List ℕ → MeaningTexts = λ i j. record { source = i; script = j } in
        ap (λ (i : List ℕ). made i g.script) source ∙ ap (λ (j : List ℕ). made f.source j) script

    by : CannotRead (names_of words) s t a x ⊎ ((texts : MeaningTexts) × Read texts × MeaningMeansFor words texts a x) → CannotRead (names_of words) s u b y ⊎ ((texts : MeaningTexts) × Read texts × MeaningMeansFor words texts b y) → (a ≡ b) × (x ≡ y)
    by (inl c) (inl d) =
        let m = unread (names_of words) s t a x known fa c in
        let n = unread (names_of words) s u b y known fb d in
        (m.0 ∙ sym n.0, m.1.1 ∙ (ap no_file (one_missing s m.1.0 n.1.0 (names_of words) m.1.2 n.1.2) ∙ sym n.1.1))
    by (inl c) (inr d) = let m = unread (names_of words) s t a x known fa c in absurd (some_missing m.1.0 d.0 m.1.2 d.1)
    by (inr c) (inl d) = let m = unread (names_of words) s u b y known fb d in absurd (some_missing m.1.0 c.0 m.1.2 c.1)
    by (inr c) (inr d) =
        let P : MeaningTexts → Type 0 = λ texts. MeaningMeansFor words texts b y in
        meant_once words c.0 a b x y fa fb c.2 (subst P (texts_same c.0 d.0 c.1 d.1) d.2)
