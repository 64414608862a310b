-- Lengths of a program, and what it keeps.
use Rattle.std.proofs.Common.{◌≤◌, List, [], ◌∷◌, map, refl, arith, subst, sym}
use Rattle.rtl.specs.declared.locations.Vreg.{Vreg}
use Rattle.rtl.specs.Programs.{Graph, Bytes}
use Rattle.rtl.specs.Locations.{vreg_number}
use Rattle.rtl.specs.Graphs.{renamed_graph}
use Rattle.rtl.specs.Lengths.{total, graph_length, vreg_length}
use Rattle.byte_renaming.proofs.Programs.{numbered_renamed}
use Rattle.byte_renaming.proofs.Formed.{are_renamed, counts_same, each_labels_same}
use Rattle.byte_renaming.proofs.Lengths.{graph_less}
use Rattle.ertl_gen.specs.Translation.{exchanged_number, exchanged, ertl_of, KeepsOutline}

graphs_less : (gs : List (Graph Vreg)) → total graph_length (map (renamed_graph vreg_number) (map (renamed_graph exchanged) gs)) ≤ total graph_length (map (renamed_graph vreg_number) gs)
graphs_less [] = omega arith
graphs_less (g ∷ gs) =
    let one : graph_length (renamed_graph vreg_number (renamed_graph exchanged g)) ≤ graph_length (renamed_graph vreg_number g) =
    subst (λ h. graph_length h ≤ graph_length (renamed_graph vreg_number g)) (sym (numbered_renamed vreg_number vreg_number exchanged exchanged_number (λ v. refl) g)) (graph_less exchanged_number (renamed_graph vreg_number g)) in
    let more = graphs_less gs in
    omega (arith, one, more)

pub length_less : (program : Bytes Vreg) → vreg_length (ertl_of program) ≤ vreg_length program
length_less program = let less = graphs_less program.graphs in omega (arith, less)

pub keeps_outline : (program : Bytes Vreg) → KeepsOutline program (ertl_of program)
keeps_outline program =
    let all = are_renamed exchanged program.graphs in
    record {
      functions = counts_same program.graphs (map (renamed_graph exchanged) program.graphs) all;
      labels = each_labels_same program.graphs (map (renamed_graph exchanged) program.graphs) all;
      calls = refl;
      main = refl;
      start = refl;
    }
