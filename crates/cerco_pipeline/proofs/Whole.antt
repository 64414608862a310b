-- A compiled text, from what the parts of the compiler promise of its program, its object and its costs.
use Rattle.std.proofs.Common.{◌≡◌, inl, inr, ℕ, suc, ◌<◌, ◌≤◌, ◌^◌, List, [], ◌∷◌, length, Bool, Some, Result, Ok, Err, refl, sym, ap, subst, ◌∙◌, arith}
use Rattle.std.specs.Prelude.{slice_get, slice_index}
use Rattle.cerco_base.specs.declared.events.Label.{Label}
use Rattle.cerco_base.specs.declared.reasons.Fault.{Fault}
use Rattle.cerco_base.specs.declared.reasons.Fault.TheVariants.{Refused}
use Rattle.cerco_base.specs.declared.reasons.Reason.{Reason}
use Rattle.cerco_base.specs.declared.reasons.Reason.TheVariants as r
use Rattle.cerco_traces.specs.Headline.{Headline}
use Rattle.cerco_traces.specs.Preservation.{PreservesSource}
use Rattle.cerco_middle.specs.Cminor.Trees.{CmFunction, Cminor}
use Rattle.cerco_middle.specs.Cminor.Trees as cm
use Rattle.cerco_middle.specs.Programs.{AreNumbered}
use Rattle.cerco_middle.specs.Cminor.Meaning.{cminor}
use Rattle.asm51.specs.Emission.{code_of, labels_of as addresses_of}
use Rattle.back_end.specs.Chain.{IsChain}
use Rattle.back_end.specs.declared.assembled.Assembled.{Assembled}
use Rattle.back_end.proofs.Composed.{assembly_keeps_to, length_of_code}
use Rattle.block_costs.specs.Ways.{AreMarks, cost, start_cost}
use Rattle.block_costs.specs.Sums.{cost_of_events}
use Rattle.object_costs.specs.Costs.{HaveCosts}
use Rattle.object_costs.proofs.HaveCosts.{objects_have_costs}
use Rattle.object_costs.proofs.RunCosts.{objects_keep_to_sources}
use Rattle.sim51.specs.Runs.{object, cycles_of_run}
use Rattle.clight_syntax.specs.Annotations.{Costs, AreNumberedInOrder, labels_in}
use Rattle.clight_syntax.specs.Labelling.{points_of}
use Rattle.clight_syntax.specs.TypedTrees.{Function, TypedProgram}
use Rattle.clight_syntax.specs.declared.points.Point.{Point}
use Rattle.clight_syntax.specs.declared.typed.Labelled.{Labelled}
use Rattle.clight_syntax.specs.Code.TypedViews.{labelled_of}
use Rattle.clight_meaning.specs.Meaning.{source as meaning}
use Rattle.clight_programs.specs.Labels.{labels_of}
use Rattle.clight_programs.specs.Programs.{IsChecked}
use Rattle.clight_layout.specs.Layout.{IsLayout}
use Rattle.checked_programs.specs.Limits.{IsWithinLimits}
use Rattle.checked_programs.proofs.Sound.{sound_checked}
use Rattle.checked_programs.proofs.Limits.{within_limits}
use Rattle.cminor_gen.specs.Promises.{KeepsFunction, KeepsProgram}
use Rattle.cminor_gen.proofs.Numbered.{numbered}
use Rattle.cerco_pipeline.specs.Programs.{IsProgramOf, HasFirstReason}
use Rattle.cerco_pipeline.specs.Built.{AreCostsOf, AreAnnotationsOf, LacksRoom, IsRefused}
use Rattle.cerco_pipeline.specs.Compiled.{IsRead, IsAssembled, HasCosts, IsCompiled}
use Rattle.cerco_pipeline.specs.declared.compiled.Compiled.{Compiled}
use Rattle.cerco_pipeline.proofs.CminorLabels.{stmt_more}
use Rattle.cerco_pipeline.proofs.LabelCounts.{points_count, function_count}

-- ---- the program

pub program_is_checked : (text : List ℕ) (p : TypedProgram Label) → IsProgramOf text p → IsChecked p
program_is_checked text p is = sound_checked is.tree is.laid_out p is.sound is.labelled

pub program_is_numbered : (text : List ℕ) (p : TypedProgram Label) → IsProgramOf text p → AreNumbered (labels_of p.functions)
program_is_numbered text p is = numbered is.laid_out p is.labelled

pub program_is_within_limits : (text : List ℕ) (p : TypedProgram Label) → IsProgramOf text p → IsWithinLimits p
program_is_within_limits text p is = within_limits p is.sound.typed (subst (IsLayout is.sound.typed) (sym is.labelled.typed_alone) is.sound.layout)

-- ---- the object

pub few : (c : Cminor) (a : Assembled) → IsChain c a → length a.object.code ≤ 65536
few c a chain = omega (arith, ap length chain.object.code, length_of_code a.asm a.layout.forms, chain.object.layout.fits)

have_costs : (c : Cminor) (a : Assembled) → IsChain c a → (marks : List Bool) → AreMarks a.object.labels marks → HaveCosts a.asm a.layout.forms marks
have_costs c a chain marks are =
    objects_have_costs a.asm a.layout marks chain.asm.selected chain.asm.ends chain.object.layout (subst (λ labels. AreMarks labels marks) chain.object.labels are)

start_has_cost : (code other : List ℕ) (marks : List Bool) → code ≡ other → (cycles : ℕ) × (start_cost other marks ≡ Ok cycles) → (cycles : ℕ) × (start_cost code marks ≡ Ok cycles)
start_has_cost code other marks same has = (has.0, ap (λ c. start_cost c marks) same ∙ has.1)

label_has_cost :
    (code other labels addresses : List ℕ) (marks : List Bool) (l : ℕ) → code ≡ other → labels ≡ addresses
    → (cycles : ℕ) × (cost other marks (slice_index addresses l) ≡ Ok cycles) × (1 ≤ cycles)
    → (cycles : ℕ) × (cost code marks (slice_index labels l) ≡ Ok cycles) × (1 ≤ cycles)
label_has_cost code other labels addresses marks l same are has =
    (has.0, ap (λ c. cost c marks (slice_index labels l)) same ∙ (ap (λ ls. cost other marks (slice_index ls l)) are ∙ has.1), has.2)

pub has_costs : (c : Cminor) (a : Assembled) → IsChain c a → HasCosts a.object.code a.object.labels
has_costs c a chain = record {
  start = λ marks are. start_has_cost a.object.code (code_of a.asm a.layout.forms) marks chain.object.code (have_costs c a chain marks are).start;
  each = λ marks are l within.
      label_has_cost a.object.code (code_of a.asm a.layout.forms) a.object.labels (addresses_of a.asm a.layout.forms) marks l chain.object.code chain.object.labels
      ((have_costs c a chain marks are).labels l (subst (λ n. l < n) (ap length chain.object.labels) within));
}

-- The object keeps to the meaning of the program, and costs what its costs say.
pub keeps_to_source :
    (p : TypedProgram Label) (c : Cminor) (a : Assembled) (costs : Costs) (marks : List Bool) → IsChecked p → PreservesSource (meaning p) (cminor c) p.data_bytes → IsChain c a
    → AreMarks a.object.labels marks → AreCostsOf a.object.code a.object.labels costs
    → Headline (meaning p) (object a.object.code a.object.labels) cycles_of_run (cost_of_events costs.start (slice_index costs.labels))
keeps_to_source p c a costs marks checked preserves chain marked are =
    let d = p.data_bytes in
    let short : d < 2 ^ 16 = omega (arith, checked.few_bytes) in
    let down = assembly_keeps_to (meaning p) c a d short chain preserves in
    let at_labels = subst (λ labels. AreMarks labels marks) chain.object.labels marked in
    let starts = ap (λ code. start_cost code marks) (sym chain.object.code) ∙ are.start marks marked in
    let each : (l : ℕ) → l < length (addresses_of a.asm a.layout.forms) → cost (code_of a.asm a.layout.forms) marks (slice_index (addresses_of a.asm a.layout.forms) l) ≡ Ok (slice_index costs.labels l) = λ l within.
    ap (λ code. cost code marks (slice_index (addresses_of a.asm a.layout.forms) l)) (sym chain.object.code)
    ∙ (ap (λ labels. cost a.object.code marks (slice_index labels l)) (sym chain.object.labels) ∙ are.each marks marked l (subst (λ n. l < n) (sym (ap length chain.object.labels)) within)) in
    let headline = objects_keep_to_sources _ (meaning p) a.asm a.layout marks costs.start (slice_index costs.labels) d down chain.asm.selected chain.asm.ends chain.object.layout at_labels (record { start_is = starts; labels_are = each }) in
    subst (λ code. Headline (meaning p) (object code a.object.labels) cycles_of_run (cost_of_events costs.start (slice_index costs.labels))) (sym chain.object.code)
    (subst (λ labels. Headline (meaning p) (object (code_of a.asm a.layout.forms) labels) cycles_of_run (cost_of_events costs.start (slice_index costs.labels))) (sym chain.object.labels) headline)

-- ---- the labels

-- functions that are kept have as many labels, one by one
labels_kept :
    (fs : List (Function Label)) (gs : List CmFunction) → length gs ≡ length fs
    → ((i : ℕ) (f : Function Label) (g : CmFunction) → slice_get fs i ≡ Some f → slice_get gs i ≡ Some g → KeepsFunction f g)
    → length (cm.labels_of gs) ≡ length (labels_of fs)
labels_kept [] [] count each = refl
labels_kept [] (g ∷ gs) count each = absurd cc
labels_kept (f ∷ fs) [] count each = absurd cc
labels_kept (f ∷ fs) (g ∷ gs) count each =
    let first = ap length (each 0 f g refl refl).labels in
    let rest = labels_kept fs gs (omega (arith, count)) (λ i x y at to. each (suc i) x y at to) in
    omega (arith, first, rest, function_count f (labels_of fs), function_count f [], stmt_more g.body (cm.labels_of gs))

pub labels_named : (p : TypedProgram Label) (c : Cminor) → KeepsProgram p c → length (cm.labels_of c.functions) ≡ length (labels_in (points_of p))
labels_named p c keeps = labels_kept p.functions c.functions keeps.count keeps.functions ∙ sym (points_count p)

-- ---- the whole

annotations : (text : List ℕ) (x : Labelled) (a : Assembled) (costs : Costs) → IsRead text x → IsAssembled (labelled_of x) a → AreCostsOf a.object.code a.object.labels costs → AreAnnotationsOf text x.points (length costs.labels)
annotations text x a costs read is are = record {
  in_order = read.in_order;
  begins = read.begins;
  numbered = subst (λ (points : List Point). AreNumberedInOrder (labels_in points)) (sym read.points) read.program.labelled.numbered;
  count = ap (λ points. length (labels_in points)) read.points ∙ (sym (labels_named (labelled_of x) is.source is.keeps) ∙ (sym is.labels ∙ sym are.count));
  no_marker = read.no_marker;
}

pub is_compiled :
    (text : List ℕ) (c : Compiled) → IsRead text c.labelled.value → IsAssembled (labelled_of c.labelled.value) c.assembled
    → AreCostsOf c.assembled.object.code c.assembled.object.labels (record { start = c.start; labels = c.costs.items }) → (marks : List Bool) × AreMarks c.assembled.object.labels marks
    → IsCompiled text c
is_compiled text c read is are marked =
    let p = labelled_of c.labelled.value in
    let costs : Costs = record { start = c.start; labels = c.costs.items } in
    record {
      program = read.program;
      points = read.points;
      annotations = annotations text c.labelled.value c.assembled costs read is are;
      assembled = is;
      costs = are;
      headline = keeps_to_source p is.source c.assembled costs marked.0 (program_is_checked text p read.program) is.preserves is.chain marked.1 are;
    }

-- ---- refusals

-- a reason that is passed on is the one that came
pub same_reason : {X : Type 0} (r : Result X Fault) (x e : Fault) (reason : Reason) → r ≡ Err x → x ≡ e → r ≡ Err (Refused reason) → e ≡ Refused reason
same_reason r x e reason is same refused = let passed : x ≡ Refused reason = cc in sym same ∙ passed

pub refused_first : (text : List ℕ) (reason : Reason) → HasFirstReason text reason → IsRefused text reason
refused_first text (r.CellsFull n) (inl (inl h)) = absurd h
refused_first text (r.CellsFull n) (inl (inr h)) = absurd h.2
refused_first text (r.CellsFull n) (inr h) = absurd h.2
refused_first text (r.CodeFull n) (inl (inl h)) = absurd h
refused_first text (r.CodeFull n) (inl (inr h)) = absurd h.2
refused_first text (r.CodeFull n) (inr h) = absurd h.2
refused_first text reason h = h

pub refused_for_room : (text : List ℕ) (p : TypedProgram Label) (reason : Reason) → IsProgramOf text p → LacksRoom p reason → IsRefused text reason
refused_for_room text p (r.CellsFull n) is lacks = (p, is, lacks)
refused_for_room text p (r.CodeFull n) is lacks = (p, is, lacks)
refused_for_room text p reason is lacks = absurd lacks.too_big
