use Rattle.std.proofs.Common.{◌≡◌, map, drop}
use Rattle.cerco_middle.specs.Code.Views.{stmts_of}
use Rattle.clight_syntax.specs.Code.TypedViews.{local_of, program_of}
use Rattle.cminor_gen.specs.Translation.Statements.{initialisers_after}
use Rattle.cminor_gen.proofs.functions.add_initialisers.Given as goal

abbrev pub invariant-loop-local : goal.invariant-loop-local
invariant-loop-local l =
    initialisers_after (program_of l.program) (map local_of (drop l.local-index l.locals)) l.number (stmts_of l.list.items)
    ≡ initialisers_after (program_of l.program) (map local_of l.locals) l.first (stmts_of l.fn.list.items)
