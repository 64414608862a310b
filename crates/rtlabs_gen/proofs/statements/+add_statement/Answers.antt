use Rattle.std.proofs.Common.{◌≡◌, map, subst}
use Rattle.std.specs.Prelude.{IfOk}
use Rattle.cerco_middle.specs.Code.Views.{function_of}
use Rattle.rtlabs_gen.specs.Translation.{add_stmt}
use Rattle.rtlabs_gen.proofs.Translated.{sequence_is, statements_on}
use Rattle.rtlabs_gen.proofs.statements.+add_statement.Goals as goal

pub add_statement-returns-in-Seq-clause-nodes : goal.add_statement-returns-in-Seq-clause-nodes
add_statement-returns-in-Seq-clause-nodes t c =
    subst (λ s. IfOk c.add_statements.result (λ n. c.add_statements.new.nodes.items ≡ (add_stmt (map function_of c.args.functions.now) c.args.nodes.now.items s c.args.next c.args.exits).nodes))
    (sequence_is c.in-Seq.statements c.as_slice.result.now c.args.statement.now c.as_slice.ensures.value c.in-Seq.is) c.add_statements.ensures.nodes

pub add_statement-returns-in-Seq-clause-entry : goal.add_statement-returns-in-Seq-clause-entry
add_statement-returns-in-Seq-clause-entry t c =
    subst (λ s. IfOk c.add_statements.result (λ n. n ≡ (add_stmt (map function_of c.args.functions.now) c.args.nodes.now.items s c.args.next c.args.exits).entry))
    (sequence_is c.in-Seq.statements c.as_slice.result.now c.args.statement.now c.as_slice.ensures.value c.in-Seq.is) c.add_statements.ensures.entry

pub add_statements-loop-i-preserved : goal.add_statements-loop-i-preserved
add_statements-loop-i-preserved t c =
    statements_on (map function_of c.args.functions.now) c.loop-i.nodes.items c.add_statement.new.nodes.items c.args.statements.now c.loop-i.i c.loop-i.entry c.in_ok-entry.entry c.args.exits _ _
    c.loop-i-test.true c.index-statements-count.is c.in_ok-entry.ensures.nodes c.in_ok-entry.ensures.entry c.loop-i.invariant
