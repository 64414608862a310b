use Rattle.std.proofs.lemmas.Result.{IfOk-weaker}
use Rattle.rtl.specs.Code.Views.{program_of, lin_program_of}
use Rattle.ltl_alloc.specs.Allocations.{IsExact}
use Rattle.ltl_alloc.specs.Allocated.{Serves, PlacesAll}
use Rattle.back_end.specs.Chain.{IsPlainest, IsLinearCodeOf}
use Rattle.back_end.proofs.Placed.{each_weaker}
use Rattle.back_end.proofs.Linearised.{IsRenamed, IsLinear, linear_code_of, linear_result}
use Rattle.back_end.proofs.linear.linear_code.Goals as goal

pub to_ltl-requires-clause-allocations : goal.to_ltl-requires-clause-allocations
to_ltl-requires-clause-allocations c = each_weaker IsPlainest Serves (λ g a p. p.serves) (program_of c.args.ertl.now).graphs c.args.allocations.now c.requires.allocations

pub linearise_program-requires-clause-formed : goal.linearise_program-requires-clause-formed
linearise_program-requires-clause-formed c =
    let graphs = (program_of c.args.ertl.now).graphs in
    let allocations = c.args.allocations.now in
    c.in_ok-ltl.ensures.formed c.requires.formed (each_weaker IsPlainest PlacesAll (λ g a p. p.places) graphs allocations c.requires.allocations)
    (each_weaker IsPlainest (λ g a. IsExact a) (λ g a p. p.exact) graphs allocations c.requires.allocations)

pub returns : goal.returns
returns c =
    let program = program_of c.args.ertl.now in
    let allocations = c.args.allocations.now in
    let bases = c.args.bases.now in
    let places = program_of c.in_ok-ltl.ltl in
    let first = c.in_ok-ltl.ensures in
    let second = c.linearise_program.ensures in
    let renamed : IsRenamed program allocations bases places = record {
      is = first.is;
      preserves = first.preserves c.requires.formed c.requires.conventional;
      labelled = first.labelled c.requires.labelled;
      same = first.same;
      length = first.length;
    } in
    IfOk-weaker c.linearise_program.result (λ x. IsLinear places (lin_program_of x)) (λ x. IsLinearCodeOf program allocations bases (lin_program_of x)) (λ x l. linear_code_of program allocations bases places (lin_program_of x) renamed l)
    (linear_result places c.linearise_program.result second.is second.preserves second.formed second.length)
