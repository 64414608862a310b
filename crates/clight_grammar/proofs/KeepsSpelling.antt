-- What the machine has read is what its open forms and its mode spell.
use Rattle.std.proofs.Common.{◌≡◌, List, [], ◌∷◌, ◌++◌, sym, append_assoc}
use Rattle.clight_source.specs.declared.span.Span.{Span}
use Rattle.clight_source.specs.declared.symbol.Symbol.{Symbol}
use Rattle.clight_source.specs.declared.symbol.Symbol.TheVariants as s
use Rattle.clight_source.specs.declared.symbol.Terminal.{Terminal}
use Rattle.clight_source.specs.Spelling.{terminal, stmt_terminals}
use Rattle.clight_grammar.specs.Code.Forms.{InIfTest, InWhileTest, InDoTest, InSource, Mode, Operand, AfterOperand, MemberName, CastTag, CastWords, Statement, MayElse, IfWord, WhileWord, DoBody, DoWhile, ForWord, ForFirst, ForCondition, ForStep, ReturnWord, PortWord, FirstArgument, StatementEnd, ItemStart, TypeStart, TagName, Words, Stars, Named, Lengths, LengthNumber, LengthEnd, Members, StructEnd, InitialiserStart, InitialiserNumber, InitialiserEnd, ListStart, ListNumber, ListEnd, HeaderEnd, Finished, Refused}
use Rattle.clight_grammar.specs.Code.Machine.{next}
use Rattle.clight_grammar.proofs.OpenForms.{spell, spelled, HasRead}
use Rattle.clight_grammar.proofs.SpellingExpressions.{operand_read, member_name_read, tag_of_cast_read, in_cast_read, after_read}
use Rattle.clight_grammar.proofs.SpellingStatements.{statement_read, do_while_read, may_else_read, opened_read, for_word_read, for_first_read, for_condition_read, for_step_read, return_word_read, port_word_read, first_argument_read, statement_end_read}
use Rattle.clight_grammar.proofs.SpellingDeclarations.{type_start_read, tag_name_read, words_read, stars_read, named_read, lengths_read, length_number_read, length_end_read, next_member_read, struct_end_read, initialiser_start_read, initialiser_number_read, initialiser_end_read, list_start_read, list_number_read, list_end_read, header_end_read}

-- ---- one token

do_open_shape : (k x : List Terminal) (d w o : Terminal) → k ++ (d ∷ (x ++ (w ∷ (o ∷ [])))) ≡ (k ++ (d ∷ (x ++ w ∷ []))) ++ o ∷ []
do_open_shape k x d w o = simp append_assoc

pub next_read : (m : Mode) (y : Symbol) (a : Span) → HasRead (next m y a) (spelled m ++ terminal y a ∷ [])
next_read (Operand k) y a = operand_read k y a
next_read (AfterOperand e k) y a = after_read y a e k
next_read (MemberName e operator i k) y a = member_name_read e operator i k y a
next_read (CastTag left word k) y a = tag_of_cast_read left word k y a
next_read (CastWords left type k) y a = in_cast_read left type k y a
next_read (Statement k) y a = statement_read k y a
next_read (MayElse x k) y a = may_else_read x k y a
next_read (IfWord word k) y a = opened_read (InIfTest word a) k (spell k ++ terminal s.If word ∷ []) y a (sym (append_assoc (spell k) (terminal s.If word ∷ []) (terminal s.LeftParenthesis a ∷ [])))
next_read (WhileWord word k) y a = opened_read (InWhileTest word a) k (spell k ++ terminal s.While word ∷ []) y a (sym (append_assoc (spell k) (terminal s.While word ∷ []) (terminal s.LeftParenthesis a ∷ [])))
next_read (DoBody word x k) y a = do_while_read word x k y a
next_read (DoWhile word x while' k) y a =
    opened_read (InDoTest word x while' a) k (spell k ++ (terminal s.Do word ∷ (stmt_terminals x ++ terminal s.While while' ∷ []))) y a
    (do_open_shape (spell k) (stmt_terminals x) (terminal s.Do word) (terminal s.While while') (terminal s.LeftParenthesis a))
next_read (ForWord word k) y a = for_word_read word k y a
next_read (ForFirst word left k) y a = for_first_read word left k y a
next_read (ForCondition start k) y a = for_condition_read start k y a
next_read (ForStep middle k) y a = for_step_read middle k y a
next_read (ReturnWord word k) y a = return_word_read word k y a
next_read (PortWord port k) y a = port_word_read port k y a
next_read (FirstArgument g f left k) y a = first_argument_read g f left k y a
next_read (StatementEnd x k) y a = statement_end_read x k y a
next_read ItemStart y a = type_start_read InSource y a
next_read (TypeStart owner) y a = type_start_read owner y a
next_read (TagName owner word) y a = tag_name_read owner word y a
next_read (Words owner type) y a = words_read owner type y a
next_read (Stars owner type stars) y a = stars_read owner type stars y a
next_read (Named owner x) y a = named_read owner x y a
next_read (Lengths owner x) y a = lengths_read owner x y a
next_read (LengthNumber owner x left) y a = length_number_read owner x left y a
next_read (LengthEnd owner x left n i) y a = length_end_read owner x left n i y a
next_read (Members front members) y a = next_member_read front members y a
next_read (StructEnd front members right) y a = struct_end_read front members right y a
next_read (InitialiserStart x equals) y a = initialiser_start_read x equals y a
next_read (InitialiserNumber x equals minus) y a = initialiser_number_read x equals minus y a
next_read (InitialiserEnd x i) y a = initialiser_end_read x i y a
next_read (ListStart l) y a = list_start_read l y a
next_read (ListNumber l minus) y a = list_number_read l minus y a
next_read (ListEnd l n) y a = list_end_read l n y a
next_read (HeaderEnd x) y a = header_end_read x y a
next_read (Finished x) y a = tt
next_read Refused y a = tt
