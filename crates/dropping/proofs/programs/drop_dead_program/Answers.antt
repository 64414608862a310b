-- The program that is made is the pruned one, of which each clause is a law.
use Rattle.std.proofs.Common.{map, refl, subst}
use Rattle.rtl.specs.declared.locations.Vreg.{Vreg}
use Rattle.rtl.specs.Programs.{Bytes}
use Rattle.rtl.specs.Code.Views.{graph_of, program_of}
use Rattle.pruned_graphs.specs.Pruning.{ArePruned, IsPrunedProgram}
use Rattle.pruned_graphs.proofs.Program as law
use Rattle.dropping.proofs.Pruned.{carry_each}
use Rattle.dropping.proofs.programs.drop_dead_program.Goals as goal

abbrev made : (c : goal.In_ok-graphs) → Bytes Vreg
made c = record { graphs = map graph_of c.in_ok-graphs.graphs; calls = c.in_ok-calls.calls; main = c.args.program.now.main; start = c.in_ok-start.start }

is_pruned : (c : goal.In_ok-graphs) → IsPrunedProgram (program_of c.args.program.now) (made c)
is_pruned c = record {
  graphs = subst (λ gs. ArePruned (map graph_of gs) (map graph_of c.in_ok-graphs.graphs)) c.as_slice.ensures c.in_ok-graphs.ensures;
  calls = c.in_ok-calls.ensures;
  main = refl;
  start = c.in_ok-start.ensures;
}

pub returns-clause-is : goal.returns-clause-is
returns-clause-is c = is_pruned c

pub returns-clause-preserves : goal.returns-clause-preserves
returns-clause-preserves c = λ formed conventional. law.preserved (program_of c.args.program.now) (made c) formed conventional (is_pruned c)

pub returns-clause-formed : goal.returns-clause-formed
returns-clause-formed c = λ formed. law.forms (program_of c.args.program.now) (made c) formed (is_pruned c)

pub returns-clause-labelled : goal.returns-clause-labelled
returns-clause-labelled c = λ labelled. law.labelled (program_of c.args.program.now) (made c) labelled (is_pruned c)

pub returns-clause-conventional : goal.returns-clause-conventional
returns-clause-conventional c = λ conventional. law.respects (program_of c.args.program.now) (made c) conventional (is_pruned c)

pub returns-clause-same : goal.returns-clause-same
returns-clause-same c = law.outline (program_of c.args.program.now) (made c) (is_pruned c)

pub returns-clause-length : goal.returns-clause-length
returns-clause-length c = law.no_longer (program_of c.args.program.now) (made c) (is_pruned c)

pub returns-clause-need : goal.returns-clause-need
returns-clause-need c = law.needs_no_more (program_of c.args.program.now) (made c) (is_pruned c)

pub returns-clause-none_dead : goal.returns-clause-none_dead
returns-clause-none_dead c = law.none_dead_after (program_of c.args.program.now) (made c) (is_pruned c)

pub returns-clause-carry : goal.returns-clause-carry
returns-clause-carry c = λ f carry. carry_each (program_of c.args.program.now).graphs (map graph_of c.in_ok-graphs.graphs) (is_pruned c).graphs f carry
