-- How `build` ends, from what its stages did.
use Rattle.std.proofs.Common.{◌≡◌, ℕ, ◌<◌, ◌≤◌, List, [], ◌∷◌, length, take, take_all, Bool, true, false, not, ◌&&◌, bytes_eq, IsTrue, Some, None, refl, sym, ap, subst, ◌∙◌, arith, inl, inr, ◌⊎◌}
use Rattle.std.proofs.lemmas.Bool.{true≢false}
use Rattle.std.proofs.lemmas.Slice.Eq.{bytes_eq-Decides}
use Rattle.std.proofs.lemmas.List.{length-take}
use Rattle.cerco_base.specs.Outside.IoStates.{FilesState, SameFiles}
use Rattle.cerco_base.proofs.Putting.{rose_since}
use Rattle.cerco_command.specs.Words.{BuildFiles, HaveDifferentNames}
use Rattle.cerco_base.specs.declared.reasons.Reason.{Reason}
use Rattle.cerco_base.specs.declared.reasons.Reason.TheVariants as r
use Rattle.clight_check.specs.Soundness.{HasUnsoundness}
use Rattle.clight_reader.specs.Reasons.{HasReason}
use Rattle.cerco_pipeline.specs.Programs.{HasFirstReason, HasRoomByText}
use Rattle.cerco_pipeline.specs.Built.{IsRefused}
use Rattle.cerco_command.specs.Refusals.{status_of_refusal}
use Rattle.cerco_command.specs.Refusals as line_of
use Rattle.cerco_command.specs.Answers.{AreWritten, ArePartlyWritten}
use Rattle.cerco_command.specs.Building.{AreCompiled, outputs, SaysRefused, SaysNoRoom, Builds, PartlyBuilds, IsOutput, BuildMeans}
use Rattle.cerco_command.specs.Inputs.{IsRead, CannotRead}
use Rattle.cerco_command.specs.Messages.{no_file}
use Rattle.cerco_command.specs.Code.Stages.{Replies, SaysWhy, IsNameOf, Finishes, BuildsOn}
use Rattle.cerco_command.proofs.Writing.{written_from, partly_from}
use Rattle.cerco_command.specs.declared.status.Status.{Status}
use Rattle.cerco_command.specs.declared.status.Status.TheVariants.{Done, NoFile, Refused, NoRoom, FileFault, NoMemory}

-- names that differ one way differ the other way
differ_back : (a b : List ℕ) → bytes_eq a b ≡ false → bytes_eq b a ≡ false
differ_back a b e = by_test (bytes_eq b a) refl
  where
    by_test : (t : Bool) → bytes_eq b a ≡ t → bytes_eq b a ≡ false
    by_test false f = f
    by_test true f = absurd (true≢false (sym ((bytes_eq-Decides a b).1 (sym ((bytes_eq-Decides b a).0 f))) ∙ e))

record Differ (files : BuildFiles) : Type 0 where
  map_hex : bytes_eq files.map files.hex ≡ false
  annotated_hex : bytes_eq files.annotated files.hex ≡ false
  annotated_map : bytes_eq files.annotated files.map ≡ false

both : (p q : Bool) → (p && q) ≡ true → (p ≡ true) × (q ≡ true)
both true q e = (refl, e)
both false q e = absurd cc

not_true : (p : Bool) → not p ≡ true → p ≡ false
not_true true e = absurd cc
not_true false e = refl

different : (files : BuildFiles) → HaveDifferentNames files → Differ files
different files h =
    let s = files.source in let x = files.hex in let m = files.map in let a = files.annotated in
    let p₁ = both (not (bytes_eq s x)) _ h in
    let p₂ = both (not (bytes_eq s m)) _ p₁.1 in
    let p₃ = both (not (bytes_eq s a)) _ p₂.1 in
    let p₄ = both (not (bytes_eq x m)) _ p₃.1 in
    let p₅ = both (not (bytes_eq x a)) _ p₄.1 in
    record {
      map_hex = differ_back x m (not_true (bytes_eq x m) p₄.0);
      annotated_hex = differ_back x a (not_true (bytes_eq x a) p₅.0);
      annotated_map = differ_back m a (not_true (bytes_eq m a) p₅.1);
    }

-- a source that is short enough was read whole
pub whole : (text all : List ℕ) → text ≡ take 65536 all → length text ≤ 65535 → text ≡ all
whole text all e short =
    let size : length text ≡ length (take 65536 all) = ap length e in
    let front = length-take 65536 all in
    e ∙ take_all 65536 all (omega arith)

-- a text with the reason is short, but where it is too long
short_or_long : (text : List ℕ) (reason : Reason) → HasReason text reason → (length text ≤ 65535) ⊎ ((reason ≡ r.TooLong) × (65535 < length text))
short_or_long text r.TooLong (inl h) = inr (refl, h)
short_or_long text (r.Byte at) (inl h) = inl h.0
short_or_long text (r.Marker at) (inl h) = inl h.0.short
short_or_long text (r.Token at) (inl h) = inl h.0.short
short_or_long text (r.Syntax at) (inl h) = absurd h
short_or_long text (r.Nesting at) (inl h) = absurd h
short_or_long text (r.Name at kind) (inl h) = absurd h
short_or_long text (r.Typing at kind) (inl h) = absurd h
short_or_long text (r.Recursion at) (inl h) = absurd h
short_or_long text (r.StackFull depth) (inl h) = absurd h
short_or_long text (r.DataFull total) (inl h) = absurd h
short_or_long text (r.CellsFull need) (inl h) = absurd h
short_or_long text (r.CodeFull len) (inl h) = absurd h
short_or_long text reason (inr h) = inl h.1.source.short

-- the whole source has the reason of its front that was read
whole_reason : (text all : List ℕ) (reason : Reason) → text ≡ take 65536 all → HasReason text reason → HasReason all reason
whole_reason text all reason e h = by_length (short_or_long text reason h)
  where
    by_length : (length text ≤ 65535) ⊎ ((reason ≡ r.TooLong) × (65535 < length text)) → HasReason all reason
    by_length (inl short) = subst (λ (t : List ℕ). HasReason t reason) (whole text all e short) h
    by_length (inr long) =
        let size : length text ≡ length (take 65536 all) = ap length e in
        let front = length-take 65536 all in
        let more = long.1 in
        let too_long : 65535 < length all = omega arith in
        subst (HasReason all) (sym long.0) (inl too_long)

whole_unsoundness : (text all : List ℕ) (reason : Reason) → text ≡ take 65536 all → HasUnsoundness text reason → HasUnsoundness all reason
whole_unsoundness text all reason e h = subst (λ (t : List ℕ). HasUnsoundness t reason) (whole text all e h.1.tokens.source.short) h

whole_first : (text all : List ℕ) (reason : Reason) → text ≡ take 65536 all → HasFirstReason text reason → HasFirstReason all reason
whole_first text all reason e (inl h) = inl (whole_reason text all reason e h)
whole_first text all reason e (inr h) = inr (whole_unsoundness text all reason e h)

pub whole_refused : (text all line : List ℕ) → text ≡ take 65536 all → SaysRefused text line → SaysRefused all line
whole_refused text all line e h = (h.0, whole_first text all h.0 e h.1, h.2)

pub whole_no_room : (text all line : List ℕ) → text ≡ take 65536 all → SaysNoRoom text line → SaysNoRoom all line
whole_no_room text all line e h = subst (λ (t : List ℕ). SaysNoRoom t line) (whole text all e h.is_program.is_tree.tokens.source.short) h

-- the texts of the source are made, and written or not
pub made : (files : BuildFiles) (source hex map annotated : List ℕ) (s t : FilesState) (status : Status) (line : List ℕ) → AreCompiled source hex map annotated → Finishes (outputs files hex map annotated) s t status line → BuildsOn files source s t status line
made files source hex map annotated s t Refused line texts f = absurd f.0
made files source hex map annotated s t NoRoom line texts f = absurd f.0
made files source hex map annotated s t NoMemory line texts f = inr (record { hex = hex; map = map; annotated = annotated; texts = texts; finishes = f })
made files source hex map annotated s t status line texts f = record { hex = hex; map = map; annotated = annotated; texts = texts; finishes = f }

module _ (files : BuildFiles) (text : List ℕ) (s t u : FilesState) (later : s.faults ≤ t.faults) (read : IsTrue s.known → IsRead 65536 s files.source text) (same : IsTrue s.known → SameFiles s t) (known : IsTrue s.known → IsTrue t.known) where
  source_read : (hex map annotated : List ℕ) → AreCompiled text hex map annotated → (h : IsTrue s.known) → s.file files.source ≡ Some text
  source_read hex map annotated c h = let r = read h in r.1 ∙ ap Some (sym (whole text r.0 r.2 c.compiled.is_program.is_tree.tokens.source.short))

  part : (hex map annotated : List ℕ) → AreCompiled text hex map annotated → (IsTrue t.known → ArePartlyWritten (outputs files hex map annotated) t u) → IsTrue s.known → PartlyBuilds files s u
  part hex map annotated a p h =
      record {
        source = text;
        hex = hex;
        map = map;
        annotated = annotated;
        read = source_read hex map annotated a h;
        texts = a;
        written = partly_from (outputs files hex map annotated) s t u (same h) (p (known h));
      }

  all : Differ files → (hex map annotated : List ℕ) → AreCompiled text hex map annotated → (IsTrue t.known → AreWritten (outputs files hex map annotated) t u) → IsTrue s.known → Builds files s u
  all d hex map annotated a w h =
      let p = written_from (outputs files hex map annotated) s t u (same h) (w (known h)) in
      let u₁ = p.0 in let u₂ = p.2.0 in let u₃ = p.2.2.0 in
      let first = p.1 in let second = p.2.1 in let third = p.2.2.1 in let last = p.2.2.2 in
      record {
        source = text;
        hex = hex;
        map = map;
        annotated = annotated;
        read = source_read hex map annotated a h;
        texts = a;
        hex_written = last files.hex ∙ (third.others files.hex d.annotated_hex ∙ (second.others files.hex d.map_hex ∙ first.here));
        map_written = last files.map ∙ (third.others files.map d.annotated_map ∙ second.here);
        annotated_written = last files.annotated ∙ third.here;
        others = λ q n₁ n₂ n₃. last q ∙ (third.others q n₃ ∙ (second.others q n₂ ∙ first.others q n₁));
      }

  is_output : (hex map annotated : List ℕ) → IsNameOf u.last_fault (outputs files hex map annotated) → IsOutput files u.last_fault
  is_output hex map annotated (inl e) = inl e
  is_output hex map annotated (inr (inl e)) = inr (inl e)
  is_output hex map annotated (inr (inr (inl e))) = inr (inr e)
  is_output hex map annotated (inr (inr (inr e))) = absurd e

  refused : (line : List ℕ) → SaysRefused text line → (IsTrue t.known → SameFiles t u) → (k : Bool) → s.known ≡ k → BuildMeans files s u Refused line
  refused line says rest true e = let r = read e in (r.0, whole_refused text r.0 line r.2 says, λ h. record { read = r.1; same = λ q. rest (known h) q ∙ same h q })
  refused line says rest false e = (text, says, λ h. absurd (true≢false (sym h ∙ e)))

  no_room : (line : List ℕ) → SaysNoRoom text line → (IsTrue t.known → SameFiles t u) → (k : Bool) → s.known ≡ k → BuildMeans files s u NoRoom line
  no_room line says rest true e = let r = read e in (r.0, whole_no_room text r.0 line r.2 says, λ h. record { read = r.1; same = λ q. rest (known h) q ∙ same h q })
  no_room line says rest false e = (text, says, λ h. absurd (true≢false (sym h ∙ e)))

  pub built : HaveDifferentNames files → (status : Status) (line : List ℕ) → BuildsOn files text t u status line → BuildMeans files s u status line
  built d Done line b = (b.finishes.0, all (different files d) b.hex b.map b.annotated b.texts b.finishes.1)
  built d Refused line b = refused line b.0 b.1 s.known refl
  built d NoRoom line b = no_room line b.0 b.1 s.known refl
  built d FileFault line b =
      let why = b.finishes.0 in
      (why.0, rose_since s.faults t.faults u.faults later why.1, inr (is_output b.hex b.map b.annotated why.2, part b.hex b.map b.annotated b.texts b.finishes.1))
  built d NoMemory line (inl b) = (b.0, λ h. inl (λ q. b.1 (known h) q ∙ same h q))
  built d NoMemory line (inr b) = (b.finishes.0, λ h. inr (part b.hex b.map b.annotated b.texts b.finishes.1 h))
  built d status line b = absurd b.finishes.0

-- a refusal is answered, or there is no memory for its line
answered_on : (files : BuildFiles) (text : List ℕ) (s : FilesState) (meant status : Status) (said line : List ℕ) → BuildsOn files text s s meant said → Replies meant said status line → BuildsOn files text s s status line
answered_on files text s meant status said line b (inl e) =
    subst (λ (st : Status). BuildsOn files text s s st line) (sym e.0) (subst (λ (l : List ℕ). BuildsOn files text s s meant l) (sym e.1) b)
answered_on files text s meant status said line b (inr e) = subst (λ (st : Status). BuildsOn files text s s st line) (sym e.0) (inl (e.1, λ known q. refl))

-- the source has a reason, or is too big
pub says_why : (text : List ℕ) (reason : Reason) → IsRefused text reason → (HasRoomByText text → ⊥) → SaysWhy text (status_of_refusal reason) (line_of.refused reason)
says_why text (r.CellsFull need) h free = record { program = h.0; is_program = h.1; reason = r.CellsFull need; lacks = h.2; line_is = refl; not_by_text = free }
says_why text (r.CodeFull len) h free = record { program = h.0; is_program = h.1; reason = r.CodeFull len; lacks = h.2; line_is = refl; not_by_text = free }
says_why text r.TooLong h free = (r.TooLong, h, refl)
says_why text (r.Byte at) h free = (r.Byte at, h, refl)
says_why text (r.Marker at) h free = (r.Marker at, h, refl)
says_why text (r.Token at) h free = (r.Token at, h, refl)
says_why text (r.Syntax at) h free = (r.Syntax at, h, refl)
says_why text (r.Nesting at) h free = (r.Nesting at, h, refl)
says_why text (r.Name at kind) h free = (r.Name at kind, h, refl)
says_why text (r.Typing at kind) h free = (r.Typing at kind, h, refl)
says_why text (r.Recursion at) h free = (r.Recursion at, h, refl)
says_why text (r.StackFull depth) h free = (r.StackFull depth, h, refl)
says_why text (r.DataFull total) h free = (r.DataFull total, h, refl)

refused_on : (files : BuildFiles) (text : List ℕ) (s : FilesState) (status : Status) (line : List ℕ) → SaysWhy text status line → BuildsOn files text s s status line
refused_on files text s Refused line h = (h, λ known q. refl)
refused_on files text s NoRoom line h = (h, λ known q. refl)
refused_on files text s status line h = absurd h

pub turned_down : (files : BuildFiles) (text : List ℕ) (reason : Reason) (s : FilesState) (status : Status) (line : List ℕ) → IsRefused text reason → (HasRoomByText text → ⊥) → Replies (status_of_refusal reason) (line_of.refused reason) status line → BuildsOn files text s s status line
turned_down files text reason s status line h free says = answered_on files text s (status_of_refusal reason) status (line_of.refused reason) line (refused_on files text s (status_of_refusal reason) (line_of.refused reason) (says_why text reason h free)) says

-- the source couldn't be read
pub not_built : (files : BuildFiles) (s t : FilesState) (status : Status) (line : List ℕ) → (IsTrue s.known → SameFiles s t) → CannotRead (files.source ∷ []) s t status line → BuildMeans files s t status line
not_built files s t NoFile line same c = (c.1 ∙ ap no_file (the_source c.2), λ h. (none (c.3 h), same h))
  where
    the_source : (c.0 ≡ files.source) ⊎ ⊥ → c.0 ≡ files.source
    the_source (inl e) = e
    the_source (inr e) = absurd e

    none : ((c.0 ≡ files.source) × (s.file files.source ≡ None)) ⊎ (((bytes : List ℕ) × (s.file files.source ≡ Some bytes)) × ⊥) → s.file files.source ≡ None
    none (inl m) = m.1
    none (inr m) = absurd m.1
not_built files s t FileFault line same c = (c.0, c.1, inl (the_source c.2, same))
  where
    the_source : (t.last_fault ≡ files.source) ⊎ ⊥ → t.last_fault ≡ files.source
    the_source (inl e) = e
    the_source (inr e) = absurd e
not_built files s t NoMemory line same c = (c, λ h. inl (same h))
not_built files s t status line same c = absurd c
