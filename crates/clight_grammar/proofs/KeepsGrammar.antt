-- A token leads from parts of the grammar to parts of the grammar.
use Rattle.clight_source.specs.declared.span.Span.{Span}
use Rattle.clight_source.specs.declared.symbol.Symbol.{Symbol}
use Rattle.clight_grammar.specs.Code.Forms.{InIfTest, InWhileTest, InDoTest, InSource, Mode, Operand, AfterOperand, MemberName, CastTag, CastWords, Statement, MayElse, IfWord, WhileWord, DoBody, DoWhile, ForWord, ForFirst, ForCondition, ForStep, ReturnWord, PortWord, FirstArgument, StatementEnd, ItemStart, TypeStart, TagName, Words, Stars, Named, Lengths, LengthNumber, LengthEnd, Members, StructEnd, InitialiserStart, InitialiserNumber, InitialiserEnd, ListStart, ListNumber, ListEnd, HeaderEnd, Finished, Refused}
use Rattle.clight_grammar.specs.Code.Machine.{next}
use Rattle.clight_grammar.proofs.OpenForms.{IsGood}
use Rattle.clight_grammar.proofs.GrammarExpressions.{operand_good, member_name_good, tag_of_cast_good, in_cast_good, after_good}
use Rattle.clight_grammar.proofs.GrammarStatements.{statement_good, do_while_good, may_else_good, opened_good, for_word_good, for_first_good, for_condition_good, for_step_good, return_word_good, port_word_good, first_argument_good, statement_end_good}
use Rattle.clight_grammar.proofs.GrammarDeclarations.{type_start_good, tag_name_good, words_good, stars_good, named_good, lengths_good, length_number_good, length_end_good, next_member_good, struct_end_good, initialiser_start_good, initialiser_number_good, initialiser_end_good, list_start_good, list_number_good, list_end_good, header_end_good}

-- ---- one token

pub next_good : (m : Mode) (y : Symbol) (a : Span) → IsGood m → IsGood (next m y a)
next_good (Operand k) y a c = operand_good k y a c
next_good (AfterOperand e k) y a c = after_good y a e k c.0 c.1
next_good (MemberName e operator i k) y a c = member_name_good e operator i k y a c
next_good (CastTag left word k) y a c = tag_of_cast_good left word k y a c
next_good (CastWords left type k) y a c = in_cast_good left type k y a c
next_good (Statement k) y a c = statement_good k y a c
next_good (MayElse x k) y a c = may_else_good x k y a c.0 c.1 c.2
next_good (IfWord word k) y a c = opened_good (InIfTest word a) k y c
next_good (WhileWord word k) y a c = opened_good (InWhileTest word a) k y c
next_good (DoBody word x k) y a c = do_while_good word x k y a c
next_good (DoWhile word x while' k) y a c = opened_good (InDoTest word x while' a) k y c
next_good (ForWord word k) y a c = for_word_good word k y a c
next_good (ForFirst word left k) y a c = for_first_good word left k y a c
next_good (ForCondition start k) y a c = for_condition_good start k y a c
next_good (ForStep middle k) y a c = for_step_good middle k y a c
next_good (ReturnWord word k) y a c = return_word_good word k y a c
next_good (PortWord port k) y a c = port_word_good port k y a c
next_good (FirstArgument g f left k) y a c = first_argument_good g f left k y a c
next_good (StatementEnd x k) y a c = statement_end_good x k y a c
next_good ItemStart y a c = type_start_good InSource y a tt
next_good (TypeStart owner) y a c = type_start_good owner y a c
next_good (TagName owner word) y a c = tag_name_good owner word y a c
next_good (Words owner type) y a c = words_good owner type y a c
next_good (Stars owner type stars) y a c = stars_good owner type stars y a c
next_good (Named owner x) y a c = named_good owner x y a c
next_good (Lengths owner x) y a c = lengths_good owner x y a c.0
next_good (LengthNumber owner x left) y a c = length_number_good owner x left y a c
next_good (LengthEnd owner x left n i) y a c = length_end_good owner x left n i y a c
next_good (Members front members) y a c = next_member_good front members y a c
next_good (StructEnd front members right) y a c = struct_end_good front members right y a c
next_good (InitialiserStart x equals) y a c = initialiser_start_good x equals y a
next_good (InitialiserNumber x equals minus) y a c = initialiser_number_good x equals minus y a
next_good (InitialiserEnd x i) y a c = initialiser_end_good x i y a
next_good (ListStart l) y a c = list_start_good l y a
next_good (ListNumber l minus) y a c = list_number_good l minus y a
next_good (ListEnd l n) y a c = list_end_good l n y a
next_good (HeaderEnd x) y a c = header_end_good x y a
next_good (Finished x) y a c = tt
next_good Refused y a c = tt
