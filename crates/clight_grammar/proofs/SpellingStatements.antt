-- What the machine has read inside a statement is what its open forms and its mode spell.
use Rattle.std.proofs.Common.{◌≡◌, List, [], ◌∷◌, ◌++◌, refl, sym, ap, ◌∙◌, append_assoc, append-nil}
use Rattle.std.specs.Prelude.{Option, Some, None, flat_map}
use Rattle.clight_source.specs.declared.span.Span.{Span}
use Rattle.clight_source.specs.declared.symbol.Symbol.{Symbol}
use Rattle.clight_source.specs.declared.symbol.Symbol.TheVariants as s
use Rattle.clight_source.specs.declared.symbol.Terminal.{Terminal}
use Rattle.clight_source.specs.declared.tree.Name.{Name}
use Rattle.clight_source.specs.declared.tree.Specifiers.{Specifiers}
use Rattle.clight_source.specs.declared.tree.CallTarget.{CallTarget}
use Rattle.clight_source.specs.Trees.{Stmt, Empty, Block, Return}
use Rattle.clight_source.specs.Spelling.{terminal, name_terminal, type_terminals, expr_terminals, optional, test_terminals, target_terminals, call_terminals, stmt_terminals, stmts_terminals, header_terminals, local_terminals}
use Rattle.clight_nodes.specs.Code.Expressions.{first_word}
use Rattle.clight_grammar.specs.Code.Parts.{ForStart, ForMiddle}
use Rattle.clight_grammar.specs.Code.Forms.{Place, AsStatement, AsFirst, AsStep, Form, InTarget, InArguments, InCondition, InReturn, InIf, InBlock, InLocals, InBody, Pending, CallPending, ReadPending, DoPending, BreakPending, ContinuePending, Mode, Statement, DoBody}
use Rattle.clight_grammar.specs.Code.Expressions.{operand}
use Rattle.clight_grammar.specs.Code.Statements.{finish, flush, ended, close_brace, local_words, local_tag, statement, do_while, again, else_arm, may_else, opened, for_word, for_first, for_condition, for_step, return_word, port_word, first_argument, statement_end}
use Rattle.clight_grammar.proofs.OpenForms.{start_terminals, middle_terminals, front_terminals, spell, pending_terminals, HasRead}
use Rattle.clight_grammar.proofs.SpellingExpressions.{along, flush_read, finish_read, finished, words_or, first_word_is, operand_read, inner_shape, after_shape, head_is}

-- ---- a token where a statement may begin

pub body_shape : (h : List Terminal) (o : Terminal) (l x : List Terminal) (c : Terminal) → h ++ (o ∷ (l ++ (x ++ c ∷ []))) ≡ ((h ++ (o ∷ l)) ++ x) ++ c ∷ []
body_shape h o l x c = simp append_assoc

pub close_brace_read : (a : Span) (k : List Form) → HasRead (close_brace a k) (spell k ++ terminal s.RightBrace a ∷ [])
close_brace_read a (InBlock left xs ∷ k) = finished (Block left xs a) k _ (inner_shape (spell k) (stmts_terminals xs) (terminal s.LeftBrace left) (terminal s.RightBrace a))
close_brace_read a (InLocals front ∷ k) =
    body_shape (header_terminals front.header) (terminal s.LeftBrace front.left) (flat_map local_terminals front.locals) [] (terminal s.RightBrace a)
    ∙ ap (λ l. l ++ terminal s.RightBrace a ∷ []) (append-nil (front_terminals front))
close_brace_read a (InBody front xs ∷ k) =
    body_shape (header_terminals front.header) (terminal s.LeftBrace front.left) (flat_map local_terminals front.locals) (stmts_terminals xs) (terminal s.RightBrace a)
close_brace_read a k = tt

pub local_words_read : (type : Specifiers) (x : Terminal) (k : List Form) → type_terminals type ≡ x ∷ [] → HasRead (local_words type k) (spell k ++ x ∷ [])
local_words_read type x (InLocals front ∷ k) h = ap (λ l. front_terminals front ++ l) h
local_words_read type x k h = tt

pub local_tag_read : (a : Span) (k : List Form) → HasRead (local_tag a k) (spell k ++ terminal s.Struct a ∷ [])
local_tag_read a (InLocals front ∷ k) = refl
local_tag_read a k = tt

-- an operand in a form that spells nothing
pub operand_in : (place : Place) (k : List Form) (l : List Terminal) (y : Symbol) (a : Span) → spell (InTarget place ∷ k) ≡ l
    → HasRead (operand (InTarget place ∷ k) y a) (l ++ terminal y a ∷ [])
operand_in place k l y a h = along (operand (InTarget place ∷ k) y a) _ _ (ap (λ z. z ++ terminal y a ∷ []) h) (operand_read (InTarget place ∷ k) y a)

pub maybe_local_read : (b : Option Specifiers) (k : List Form) (y : Symbol) (a : Span) → words_or b (terminal y a ∷ []) ≡ terminal y a ∷ []
    → HasRead (elim b [ None ↦ operand (InTarget AsStatement ∷ k) y a | Some type ↦ local_words type k ]) (spell k ++ terminal y a ∷ [])
maybe_local_read None k y a h = operand_in AsStatement k (spell k) y a (append-nil (spell k))
maybe_local_read (Some type) k y a h = local_words_read type (terminal y a) k h

pub statement_read : (k : List Form) (y : Symbol) (a : Span) → HasRead (statement k y a) (spell k ++ terminal y a ∷ [])
statement_read k s.Semicolon a = finish_read (Empty a) k
statement_read k s.LeftBrace a = refl
statement_read k s.RightBrace a = close_brace_read a k
statement_read k s.If a = refl
statement_read k s.While a = refl
statement_read k s.Do a = refl
statement_read k s.For a = refl
statement_read k s.Break a = refl
statement_read k s.Continue a = refl
statement_read k s.Return a = refl
statement_read k s.PortOne a = refl
statement_read k s.Struct a = local_tag_read a k
statement_read k y a = maybe_local_read (first_word y a) k y a (first_word_is y a)

pub do_while_read : (word : Span) (x : Stmt) (k : List Form) (y : Symbol) (a : Span)
    → HasRead (do_while word x k y a) ((spell k ++ (terminal s.Do word ∷ stmt_terminals x)) ++ terminal y a ∷ [])
do_while_read word x k s.While a = inner_shape (spell k) (stmt_terminals x) (terminal s.Do word) (terminal s.While a)
do_while_read word x k y a = tt

pub again_read : (m : Mode) (l : List Terminal) (y : Symbol) (a : Span) → HasRead m l → HasRead (again m y a) (l ++ terminal y a ∷ [])
again_read (Statement k) l y a h = along (statement k y a) _ _ (ap (λ z. z ++ terminal y a ∷ []) h) (statement_read k y a)
again_read (DoBody word x k) l y a h = along (do_while word x k y a) _ _ (ap (λ z. z ++ terminal y a ∷ []) h) (do_while_read word x k y a)
again_read m l y a h = tt

pub else_arm_shape : (k h x : List Terminal) (m : Terminal) → k ++ (h ++ (x ++ m ∷ [])) ≡ ((k ++ h) ++ x) ++ m ∷ []
else_arm_shape k h x m = simp append_assoc

pub else_arm_read : (x : Stmt) (k : List Form) (a : Span) → HasRead (else_arm x k a) ((spell k ++ stmt_terminals x) ++ terminal s.Else a ∷ [])
else_arm_read x (InIf t ∷ k) a = else_arm_shape (spell k) (test_terminals s.If t) (stmt_terminals x) (terminal s.Else a)
else_arm_read x k a = tt

pub may_else_read : (x : Stmt) (k : List Form) (y : Symbol) (a : Span) → HasRead (may_else x k y a) ((spell k ++ stmt_terminals x) ++ terminal y a ∷ [])
may_else_read x k s.Else a = else_arm_read x k a
may_else_read x k y a = again_read (flush x k) (spell k ++ stmt_terminals x) y a (flush_read x k)

pub opened_read : (f : Form) (k : List Form) (l : List Terminal) (y : Symbol) (a : Span) → spell (f ∷ k) ≡ l ++ terminal s.LeftParenthesis a ∷ []
    → HasRead (opened f k y) (l ++ terminal y a ∷ [])
opened_read f k l s.LeftParenthesis a h = h
opened_read f k l y a h = tt

pub for_word_read : (word : Span) (k : List Form) (y : Symbol) (a : Span) → HasRead (for_word word k y a) ((spell k ++ terminal s.For word ∷ []) ++ terminal y a ∷ [])
for_word_read word k s.LeftParenthesis a = sym (append_assoc (spell k) (terminal s.For word ∷ []) (terminal s.LeftParenthesis a ∷ []))
for_word_read word k y a = tt

pub for_first_read : (word left : Span) (k : List Form) (y : Symbol) (a : Span)
    → HasRead (for_first word left k y a) ((spell k ++ (terminal s.For word ∷ (terminal s.LeftParenthesis left ∷ []))) ++ terminal y a ∷ [])
for_first_read word left k s.Semicolon a = sym (append_assoc (spell k) (terminal s.For word ∷ (terminal s.LeftParenthesis left ∷ [])) (terminal s.Semicolon a ∷ []))
for_first_read word left k y a = operand_read (InTarget (AsFirst word left) ∷ k) y a

pub for_condition_read : (start : ForStart) (k : List Form) (y : Symbol) (a : Span) → HasRead (for_condition start k y a) ((spell k ++ start_terminals start) ++ terminal y a ∷ [])
for_condition_read start k s.Semicolon a = sym (append_assoc (spell k) (start_terminals start) (terminal s.Semicolon a ∷ []))
for_condition_read start k y a = operand_read (InCondition start ∷ k) y a

pub for_step_read : (middle : ForMiddle) (k : List Form) (y : Symbol) (a : Span) → HasRead (for_step middle k y a) ((spell k ++ middle_terminals middle) ++ terminal y a ∷ [])
for_step_read middle k s.RightParenthesis a = ap (λ l. spell k ++ l) (head_is middle None a) ∙ sym (append_assoc (spell k) (middle_terminals middle) (terminal s.RightParenthesis a ∷ []))
for_step_read middle k y a = operand_read (InTarget (AsStep middle) ∷ k) y a

pub return_word_read : (word : Span) (k : List Form) (y : Symbol) (a : Span) → HasRead (return_word word k y a) ((spell k ++ terminal s.Return word ∷ []) ++ terminal y a ∷ [])
return_word_read word k s.Semicolon a = finished (Return word None a) k _ (sym (append_assoc (spell k) (terminal s.Return word ∷ []) (terminal s.Semicolon a ∷ [])))
return_word_read word k y a = operand_read (InReturn word ∷ k) y a

pub port_word_read : (port : Span) (k : List Form) (y : Symbol) (a : Span) → HasRead (port_word port k y a) ((spell k ++ terminal s.PortOne port ∷ []) ++ terminal y a ∷ [])
port_word_read port k s.Assign a = sym (append_assoc (spell k) (terminal s.PortOne port ∷ []) (terminal s.Assign a ∷ []))
port_word_read port k y a = tt

pub no_argument_shape : (k g : List Terminal) (n o c : Terminal) → k ++ (g ++ (n ∷ (o ∷ (c ∷ [])))) ≡ (k ++ (g ++ (n ∷ (o ∷ [])))) ++ c ∷ []
no_argument_shape k g n o c = simp append_assoc

pub first_argument_read : (g : Option CallTarget) (f : Name) (left : Span) (k : List Form) (y : Symbol) (a : Span)
    → HasRead (first_argument g f left k y a) ((spell k ++ (optional target_terminals g ++ (name_terminal f ∷ (terminal s.LeftParenthesis left ∷ [])))) ++ terminal y a ∷ [])
first_argument_read g f left k s.RightParenthesis a = no_argument_shape (spell k) (optional target_terminals g) (name_terminal f) (terminal s.LeftParenthesis left) (terminal s.RightParenthesis a)
first_argument_read g f left k y a = operand_read (InArguments g f left [] ∷ k) y a

pub read_port_shape : (k e : List Terminal) (q p m : Terminal) → k ++ (e ++ (q ∷ (p ∷ (m ∷ [])))) ≡ (k ++ (e ++ (q ∷ (p ∷ [])))) ++ m ∷ []
read_port_shape k e q p m = simp append_assoc

pub do_end_shape : (k x t : List Terminal) (d m : Terminal) → k ++ (d ∷ (x ++ (t ++ m ∷ []))) ≡ (k ++ (d ∷ (x ++ t))) ++ m ∷ []
do_end_shape k x t d m = simp append_assoc

pub ended_read : (x : Pending) (k : List Form) (a : Span) → HasRead (finish (ended x a) k) ((spell k ++ pending_terminals x) ++ terminal s.Semicolon a ∷ [])
ended_read (CallPending x) k a = finished (ended (CallPending x) a) k _ (after_shape (spell k) (call_terminals x) (terminal s.Semicolon a))
ended_read (ReadPending target equals port) k a =
    finished (ended (ReadPending target equals port) a) k _ (read_port_shape (spell k) (expr_terminals target) (terminal s.Assign equals) (terminal s.PortOne port) (terminal s.Semicolon a))
ended_read (DoPending word x t) k a =
    finished (ended (DoPending word x t) a) k _ (do_end_shape (spell k) (stmt_terminals x) (test_terminals s.While t) (terminal s.Do word) (terminal s.Semicolon a))
ended_read (BreakPending word) k a = finished (ended (BreakPending word) a) k _ (sym (append_assoc (spell k) (terminal s.Break word ∷ []) (terminal s.Semicolon a ∷ [])))
ended_read (ContinuePending word) k a = finished (ended (ContinuePending word) a) k _ (sym (append_assoc (spell k) (terminal s.Continue word ∷ []) (terminal s.Semicolon a ∷ [])))

pub statement_end_read : (x : Pending) (k : List Form) (y : Symbol) (a : Span) → HasRead (statement_end x k y a) ((spell k ++ pending_terminals x) ++ terminal y a ∷ [])
statement_end_read x k s.Semicolon a = ended_read x k a
statement_end_read x k y a = tt
