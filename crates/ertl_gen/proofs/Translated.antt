-- What holds of the ERTL program of an RTL program.
use Rattle.std.proofs.Common.{◌≡◌, ℕ, ◌≤◌, List, map, refl, sym, ap, ◌∙◌, subst, arith}
use Rattle.cerco_base.specs.CallOrder.{Called}
use Rattle.cerco_traces.specs.Preservation.{Preserves}
use Rattle.rtl.specs.declared.locations.Vreg.{Vreg}
use Rattle.rtl.specs.Programs.{Graph, Bytes}
use Rattle.rtl.specs.Locations.{vreg_number}
use Rattle.rtl.specs.Graphs.{renamed_graph, graph_at, numbered, AreSoundlyLabelled}
use Rattle.rtl.specs.Meaning.{rtl, ertl, graph_system, shares_first}
use Rattle.rtl.specs.WellFormed.{IsRtl, IsErtl}
use Rattle.rtl.specs.CallingConvention.{RespectsConvention, CarryStaysInside}
use Rattle.rtl.specs.Lengths.{register_need}
use Rattle.byte_renaming.proofs.Programs.{same_function, graph_at_renamed, numbered_renamed}
use Rattle.byte_renaming.proofs.Formed.{are_renamed, all_labelled, still_formed}
use Rattle.ertl_gen.specs.Translation.{exchanged_number, exchanged, ertl_of}
use Rattle.ertl_gen.proofs.Preserved.{exchanged_graphs, exchange_preserves}
use Rattle.ertl_gen.proofs.Convention.{convention_kept, carry_kept}
use Rattle.ertl_gen.proofs.Needs.{need_same, names_of_ertl}

module _ (program : Bytes Vreg) where
  abbrev functions : ℕ → Graph ℕ
  functions = graph_at (numbered vreg_number program)

  -- the functions by number are those of RTL under the exchanged numbers
  function_is : (k : ℕ) → graph_at (numbered vreg_number (ertl_of program)) k ≡ renamed_graph exchanged_number (functions k)
  function_is k =
      graph_at_renamed vreg_number (map (renamed_graph exchanged) program.graphs) k
      ∙ ap (renamed_graph vreg_number) (graph_at_renamed exchanged program.graphs k)
      ∙ numbered_renamed vreg_number vreg_number exchanged exchanged_number (λ v. refl) (graph_at program.graphs k)
      ∙ ap (renamed_graph exchanged_number) (sym (graph_at_renamed vreg_number program.graphs k))

  functions_are : graph_at (numbered vreg_number (ertl_of program)) ≡ exchanged_graphs functions
  functions_are = same_function (graph_at (numbered vreg_number (ertl_of program))) (exchanged_graphs functions) function_is

  pub preserved : Preserves (rtl program) (ertl (ertl_of program))
  preserved = subst (λ gs. Preserves (rtl program) (graph_system shares_first gs program.main program.start)) (sym functions_are) (exchange_preserves functions program.main program.start)

  pub conventional : RespectsConvention 12 functions → RespectsConvention 0 (graph_at (numbered vreg_number (ertl_of program)))
  conventional conv = subst (RespectsConvention 0) (sym functions_are) (convention_kept functions conv)

  pub carry_inside : (k : ℕ) → CarryStaysInside 12 (functions k) → CarryStaysInside 0 (graph_at (numbered vreg_number (ertl_of program)) k)
  carry_inside k inside = subst (CarryStaysInside 0) (sym (function_is k)) (carry_kept (functions k) inside)

  pub well_formed : IsRtl program → IsErtl (ertl_of program)
  well_formed formed = (
    still_formed program.graphs (map (renamed_graph exchanged) program.graphs) program.calls program.main program.start (are_renamed exchanged program.graphs) formed.0,
    names_of_ertl program.graphs formed.1,
  )

  pub labelled : AreSoundlyLabelled program.graphs → AreSoundlyLabelled (ertl_of program).graphs
  labelled = all_labelled program.graphs (map (renamed_graph exchanged) program.graphs) (are_renamed exchanged program.graphs)

  pub need_less : (k : ℕ) → register_need (graph_at (ertl_of program).graphs k) ≤ register_need (graph_at program.graphs k)
  need_less k =
      let same : register_need (graph_at (ertl_of program).graphs k) ≡ register_need (graph_at program.graphs k) = ap register_need (graph_at_renamed exchanged program.graphs k) ∙ need_same (graph_at program.graphs k) in
      omega (arith, same)

-- what holds of the translation holds of a program of its parts
abbrev bytes_of : List (Graph Vreg) → List Called → ℕ → List (ℕ × ℕ) → Bytes Vreg
bytes_of graphs calls main start = record { graphs = graphs; calls = calls; main = main; start = start }

pub made :
    (program : Bytes Vreg) (P : Bytes Vreg → Type 0) (graphs : List (Graph Vreg)) (calls : List Called) (start : List (ℕ × ℕ))
    → graphs ≡ map (renamed_graph exchanged) program.graphs → calls ≡ program.calls → start ≡ program.start → P (ertl_of program) → P (bytes_of graphs calls program.main start)
made program P graphs calls start g c s law =
    subst (λ gs. P (bytes_of gs calls program.main start)) (sym g)
    (subst (λ cs. P (bytes_of (map (renamed_graph exchanged) program.graphs) cs program.main start)) (sym c)
    (subst (λ bs. P (bytes_of (map (renamed_graph exchanged) program.graphs) program.calls program.main bs)) (sym s) law))
