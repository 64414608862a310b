use Rattle.std.proofs.Common.{◌≡◌, ◌-◌, map, take}
use Rattle.cerco_middle.specs.Code.Views.{function_of, stmts_of}
use Rattle.rtlabs_gen.specs.Translation as t
use Rattle.rtlabs_gen.proofs.statements.+add_statement.Given as goal

-- What is still to be added gives the whole.
abbrev pub invariant-add_statements-loop-i : goal.invariant-add_statements-loop-i
invariant-add_statements-loop-i l =
    t.add_stmts (map function_of l.functions) l.nodes.items (stmts_of (take (l.count - l.i) l.statements)) l.entry l.exits
    ≡ t.add_stmts (map function_of l.functions) l.initial.nodes.items (stmts_of l.statements) l.fn.next l.exits
