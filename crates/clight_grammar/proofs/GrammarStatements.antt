-- A token inside a statement leads from parts of the grammar to parts of the grammar.
use Rattle.std.proofs.Common.{List, [], ◌∷◌, arith}
use Rattle.std.specs.Prelude.{Option, Some, None}
use Rattle.std.proofs.lemmas.List.Elements.{All-nil}
use Rattle.clight_source.specs.declared.span.Span.{Span}
use Rattle.clight_source.specs.declared.symbol.Symbol.{Symbol}
use Rattle.clight_source.specs.declared.symbol.Symbol.TheVariants as s
use Rattle.clight_source.specs.declared.tree.Name.{Name}
use Rattle.clight_source.specs.declared.tree.Specifiers.{Specifiers}
use Rattle.clight_source.specs.declared.tree.CallTarget.{CallTarget}
use Rattle.clight_source.specs.Trees.{Stmt, Empty, Block, Return}
use Rattle.clight_source.specs.Spelling.{IsExpression, EndsClosed, IsStatement}
use Rattle.clight_nodes.specs.Code.Expressions.{first_word}
use Rattle.clight_grammar.specs.Code.Parts.{ForStart, ForMiddle}
use Rattle.clight_grammar.specs.Code.Forms.{AsStatement, AsFirst, AsStep, Form, InTarget, InArguments, InCondition, InReturn, InIf, InBlock, InLocals, InBody, Pending, CallPending, ReadPending, DoPending, BreakPending, ContinuePending, Mode, Statement, DoBody}
use Rattle.clight_grammar.specs.Code.Expressions.{operand}
use Rattle.clight_grammar.specs.Code.Statements.{finish, flush, ended, close_brace, local_words, local_tag, statement, do_while, again, else_arm, may_else, opened, for_word, for_first, for_condition, for_step, return_word, port_word, first_argument, statement_end}
use Rattle.clight_grammar.proofs.OpenForms.{IsStart, IsMiddle, HoldsStatement, HoldsExpression, IsPending, IsGood}
use Rattle.clight_grammar.proofs.GrammarExpressions.{flush_good, finish_good, operand_good}

-- ---- a token where a statement may begin

pub close_brace_good : (a : Span) (k : List Form) → HoldsStatement k → IsGood (close_brace a k)
close_brace_good a (InBlock left xs ∷ k) c = finish_good (Block left xs a) k c.0 tt c.1
close_brace_good a (InLocals front ∷ k) c = (c, tt)
close_brace_good a (InBody front xs ∷ k) c = c
close_brace_good a k c = tt

pub local_words_good : (type : Specifiers) (k : List Form) → HoldsStatement k → IsGood (local_words type k)
local_words_good type (InLocals front ∷ k) c = c
local_words_good type k c = tt

pub local_tag_good : (a : Span) (k : List Form) → HoldsStatement k → IsGood (local_tag a k)
local_tag_good a (InLocals front ∷ k) c = c
local_tag_good a k c = tt

pub maybe_local_good : (b : Option Specifiers) (k : List Form) (y : Symbol) (a : Span) → HoldsStatement k
    → IsGood (elim b [ None ↦ operand (InTarget AsStatement ∷ k) y a | Some type ↦ local_words type k ])
maybe_local_good None k y a c = operand_good (InTarget AsStatement ∷ k) y a (omega arith, tt, c)
maybe_local_good (Some type) k y a c = local_words_good type k c

pub statement_good : (k : List Form) (y : Symbol) (a : Span) → HoldsStatement k → IsGood (statement k y a)
statement_good k s.Semicolon a c = finish_good (Empty a) k tt tt c
statement_good k s.LeftBrace a c = (tt, c)
statement_good k s.RightBrace a c = close_brace_good a k c
statement_good k s.If a c = c
statement_good k s.While a c = c
statement_good k s.Do a c = c
statement_good k s.For a c = c
statement_good k s.Break a c = (tt, c)
statement_good k s.Continue a c = (tt, c)
statement_good k s.Return a c = c
statement_good k s.PortOne a c = c
statement_good k s.Struct a c = local_tag_good a k c
statement_good k y a c = maybe_local_good (first_word y a) k y a c

pub do_while_good : (word : Span) (x : Stmt) (k : List Form) (y : Symbol) (a : Span) → IsStatement x × HoldsStatement k → IsGood (do_while word x k y a)
do_while_good word x k s.While a c = c
do_while_good word x k y a c = tt

pub again_good : (m : Mode) (y : Symbol) (a : Span) → IsGood m → IsGood (again m y a)
again_good (Statement k) y a c = statement_good k y a c
again_good (DoBody word x k) y a c = do_while_good word x k y a c
again_good m y a c = tt

pub else_good : (x : Stmt) (k : List Form) (a : Span) → IsStatement x → EndsClosed x → HoldsStatement k → IsGood (else_arm x k a)
else_good x (InIf t ∷ k) a w v c = (c.0, w, v, c.1)
else_good x k a w v c = tt

pub may_else_good : (x : Stmt) (k : List Form) (y : Symbol) (a : Span) → IsStatement x → EndsClosed x → HoldsStatement k → IsGood (may_else x k y a)
may_else_good x k s.Else a w v c = else_good x k a w v c
may_else_good x k y a w v c = again_good (flush x k) y a (flush_good x k w c)

pub opened_good : (f : Form) (k : List Form) (y : Symbol) → HoldsExpression (f ∷ k) 13 → IsGood (opened f k y)
opened_good f k s.LeftParenthesis c = c
opened_good f k y c = tt

pub for_word_good : (word : Span) (k : List Form) (y : Symbol) (a : Span) → HoldsStatement k → IsGood (for_word word k y a)
for_word_good word k s.LeftParenthesis a c = c
for_word_good word k y a c = tt

pub for_first_good : (word left : Span) (k : List Form) (y : Symbol) (a : Span) → HoldsStatement k → IsGood (for_first word left k y a)
for_first_good word left k s.Semicolon a c = (tt, c)
for_first_good word left k y a c = operand_good (InTarget (AsFirst word left) ∷ k) y a (omega arith, tt, c)

pub for_condition_good : (start : ForStart) (k : List Form) (y : Symbol) (a : Span) → IsStart start × HoldsStatement k → IsGood (for_condition start k y a)
for_condition_good start k s.Semicolon a c = ((c.0, tt), c.1)
for_condition_good start k y a c = operand_good (InCondition start ∷ k) y a c

pub for_step_good : (middle : ForMiddle) (k : List Form) (y : Symbol) (a : Span) → IsMiddle middle × HoldsStatement k → IsGood (for_step middle k y a)
for_step_good middle k s.RightParenthesis a c = ((c.0.0, c.0.1, tt), c.1)
for_step_good middle k y a c = operand_good (InTarget (AsStep middle) ∷ k) y a (omega arith, c.0, c.1)

pub return_word_good : (word : Span) (k : List Form) (y : Symbol) (a : Span) → HoldsStatement k → IsGood (return_word word k y a)
return_word_good word k s.Semicolon a c = finish_good (Return word None a) k tt tt c
return_word_good word k y a c = operand_good (InReturn word ∷ k) y a c

pub port_word_good : (port : Span) (k : List Form) (y : Symbol) (a : Span) → HoldsStatement k → IsGood (port_word port k y a)
port_word_good port k s.Assign a c = c
port_word_good port k y a c = tt

pub first_argument_good : (g : Option CallTarget) (f : Name) (left : Span) (k : List Form) (y : Symbol) (a : Span) → HoldsStatement k
    → IsGood (first_argument g f left k y a)
first_argument_good g f left k s.RightParenthesis a c = (tt, c)
first_argument_good g f left k y a c = operand_good (InArguments g f left [] ∷ k) y a (All-nil (λ x. IsExpression x.value), c)

pub ended_good : (x : Pending) (k : List Form) (a : Span) → IsPending x × HoldsStatement k → IsGood (finish (ended x a) k)
ended_good (CallPending x) k a c = finish_good (ended (CallPending x) a) k c.0 tt c.1
ended_good (ReadPending target equals port) k a c = finish_good (ended (ReadPending target equals port) a) k c.0 tt c.1
ended_good (DoPending word x t) k a c = finish_good (ended (DoPending word x t) a) k c.0 tt c.1
ended_good (BreakPending word) k a c = finish_good (ended (BreakPending word) a) k tt tt c.1
ended_good (ContinuePending word) k a c = finish_good (ended (ContinuePending word) a) k tt tt c.1

pub statement_end_good : (x : Pending) (k : List Form) (y : Symbol) (a : Span) → IsPending x × HoldsStatement k → IsGood (statement_end x k y a)
statement_end_good x k s.Semicolon a c = ended_good x k a c
statement_end_good x k y a c = tt
