-- An ERTL program of a source, from what the three passes over graphs promise.
use Rattle.std.proofs.Common.{◌≡◌, ℕ, ◌<◌, ◌≤◌, length, Some, ap, ◌∙◌, arith, inl, inr}
use Rattle.std.specs.Prelude.{slice_get, slice_index, Result, Ok, Err, IfOk}
use Rattle.std.proofs.lemmas.Option.{slice_get-map, slice_get_cases, get_or_from_slice_get}
use Rattle.cerco_base.specs.declared.no_memory.NoMemory.{NoMemory}
use Rattle.cerco_traces.specs.Preservation.{Preserves}
use Rattle.cerco_traces.proofs.Simulation.{preserves_trans}
use Rattle.cerco_middle.specs.Cminor.Trees.{CmFunction, Cminor, labels_of as labels_of_source}
use Rattle.cerco_middle.specs.Cminor.Meaning.{cminor}
use Rattle.cerco_middle.specs.Cminor.Sums as cm
use Rattle.cerco_middle.specs.RtLabs.Graphs.{RtFunction, RtLabs, labels_of}
use Rattle.cerco_middle.specs.RtLabs.Meaning.{rtlabs}
use Rattle.cerco_middle.specs.RtLabs.Sums as rt
use Rattle.rtlabs_gen.specs.Promises as labs
use Rattle.rtl.specs.declared.locations.Vreg.{Vreg}
use Rattle.rtl.specs.declared.graphs.Bytes.{Bytes as WrittenBytes}
use Rattle.rtl.specs.Programs.{Graph, Bytes}
use Rattle.rtl.specs.Locations.{vreg_number}
use Rattle.rtl.specs.Graphs.{graph_or, graph_at, numbered, AreSoundlyLabelled}
use Rattle.rtl.specs.Meaning.{rtl, ertl}
use Rattle.rtl.specs.WellFormed.{IsRtl, IsErtl}
use Rattle.rtl.specs.CallingConvention.{RespectsConvention}
use Rattle.rtl.specs.Lengths.{register_need, vreg_length}
use Rattle.rtl.specs.Code.Views.{program_of}
use Rattle.rtl_gen.specs.Promises as bytes
use Rattle.ertl_gen.specs.Translation.{KeepsOutline}
use Rattle.back_end.specs.Needs.{needs}
use Rattle.back_end.specs.Chain.{IsErtlOf}
use Rattle.back_end.proofs.Labels.{bytes_labels, kept_labels}

-- what each pass promises of its answer
pub record IsLabs (source : Cminor) (graphs : RtLabs) : Type 0 where
  pub preserves : Preserves (cminor source) (rtlabs graphs)
  pub same : labs.KeepsProgram source graphs
  pub labels : length (labels_of graphs.functions) ≡ length (labels_of_source source.functions)
  pub length : rt.long_length graphs ≡ cm.long_length source
  pub need : labs.NeedNoMore source graphs

pub record IsRtlOf (graphs : RtLabs) (program : Bytes Vreg) : Type 0 where
  pub preserves : Preserves (rtlabs graphs) (rtl program)
  pub formed : IsRtl program
  pub labelled : AreSoundlyLabelled program.graphs
  pub conventional : RespectsConvention 12 (graph_at (numbered vreg_number program))
  pub same : bytes.KeepsProgram graphs program
  pub length : vreg_length program ≤ rt.long_length graphs
  pub need : bytes.NeedNoMore graphs program

pub record IsExchanged (before after : Bytes Vreg) : Type 0 where
  pub preserves : Preserves (rtl before) (ertl after)
  pub formed : IsRtl before → IsErtl after
  pub labelled : AreSoundlyLabelled before.graphs → AreSoundlyLabelled after.graphs
  pub conventional : RespectsConvention 12 (graph_at (numbered vreg_number before)) → RespectsConvention 0 (graph_at (numbered vreg_number after))
  pub same : KeepsOutline before after
  pub length : vreg_length after ≤ vreg_length before
  pub need : (f : ℕ) → register_need (graph_at after.graphs f) ≤ register_need (graph_at before.graphs f)

module _ (source : Cminor) (graphs : RtLabs) (before after : Bytes Vreg) (l : IsLabs source graphs) (r : IsRtlOf graphs before) (e : IsExchanged before after) where
  count : length before.graphs ≡ length source.functions
  count = r.same.count ∙ l.same.count

  need_at : (f : ℕ) (function : CmFunction) (labelled : RtFunction) (graph : Graph Vreg) → slice_get source.functions f ≡ Some function → slice_get graphs.functions f ≡ Some labelled → slice_get before.graphs f ≡ Some graph → register_need (graph_at before.graphs f) ≤ slice_index (needs source) f
  need_at f function labelled graph at at' at'' =
      let bytes_need = r.need f labelled graph at' at'' in
      let labs_need = l.need f function labelled at at' in
      let here : graph_at before.graphs f ≡ graph = ap graph_or at'' in
      let same : register_need (graph_at before.graphs f) ≡ register_need graph = ap register_need here in
      let listed : slice_get (needs source) f ≡ Some (cm.register_need source.functions function) =
      slice_get-map (cm.register_need source.functions) source.functions f ∙ ap (Rattle.std.specs.Prelude.option_map (cm.register_need source.functions)) at in
      let value : slice_index (needs source) f ≡ cm.register_need source.functions function = get_or_from_slice_get (needs source) f (cm.register_need source.functions function) 0 listed in
      omega (arith, bytes_need, labs_need, same, value)

  need_before : (f : ℕ) → register_need (graph_at before.graphs f) ≤ slice_index (needs source) f
  need_before f =
      elim (slice_get_cases before.graphs f).1 [
        | inl there ↦ inside there.0 there.1 there.2
        | inr past ↦ let none : register_need (graph_at before.graphs f) ≡ 0 = ap (λ o. register_need (graph_or o)) past.1 in omega (arith, none)
      ]
    where
      inside : (graph : Graph Vreg) → f < length before.graphs → slice_get before.graphs f ≡ Some graph → register_need (graph_at before.graphs f) ≤ slice_index (needs source) f
      inside graph within at =
          elim (slice_get_cases source.functions f).1 [
            | inl function ↦ elim (slice_get_cases graphs.functions f).1 [
              | inl labelled ↦ need_at f function.0 labelled.0 graph function.2 labelled.2 at
              | inr past ↦ let less = past.0 in let same = r.same.count in absurd (omega (arith, less, same, within))
            ]
            | inr past ↦ let less = past.0 in let same = count in absurd (omega (arith, less, same, within))
          ]

  pub is_ertl : IsErtlOf source after
  is_ertl =
      record {
        preserves = preserves_trans l.preserves (preserves_trans r.preserves e.preserves);
        formed = e.formed r.formed;
        labelled = e.labelled r.labelled;
        conventional = e.conventional r.conventional;
        functions = e.same.functions ∙ count;
        calls = e.same.calls ∙ r.same.calls ∙ l.same.calls;
        labels = kept_labels before.graphs after.graphs e.same.labels ∙ bytes_labels graphs.functions before.graphs r.same.count (λ i f g is is'. (r.same.functions i f g is is').labels) ∙ l.labels;
        length = omega (arith, e.length, r.length, l.length);
        need = λ f. omega (arith, e.need f, need_before f);
      }

-- the clauses of a result together
pub exchanged_result :
    (before : Bytes Vreg) (result : Result (WrittenBytes Vreg) NoMemory)
    → IfOk result (λ x. Preserves (rtl before) (ertl (program_of x))) → IfOk result (λ x. IsRtl before → IsErtl (program_of x)) → IfOk result (λ x. AreSoundlyLabelled before.graphs → AreSoundlyLabelled (program_of x).graphs)
    → IfOk result (λ x. RespectsConvention 12 (graph_at (numbered vreg_number before)) → RespectsConvention 0 (graph_at (numbered vreg_number (program_of x))))
    → IfOk result (λ x. KeepsOutline before (program_of x)) → IfOk result (λ x. vreg_length (program_of x) ≤ vreg_length before)
    → IfOk result (λ x. (f : ℕ) → register_need (graph_at (program_of x).graphs f) ≤ register_need (graph_at before.graphs f)) → IfOk result (λ x. IsExchanged before (program_of x))
exchanged_result before (Ok x) p f l c s n m = record { preserves = p; formed = f; labelled = l; conventional = c; same = s; length = n; need = m }
exchanged_result before (Err x) p f l c s n m = tt
