use Rattle.std.proofs.Common.{◌≡◌, map, take}
use Rattle.rtl.specs.Code.Views.{graph_of}
use Rattle.ltl_alloc.specs.Translation.{renamed_graphs}
use Rattle.ltl_alloc.proofs.renaming.rename_all.Given as goal

abbrev pub invariant-loop-f : goal.invariant-loop-f
invariant-loop-f l = map graph_of l.renamed ≡ renamed_graphs (map graph_of (take l.f l.graphs)) l.allocations l.firsts
