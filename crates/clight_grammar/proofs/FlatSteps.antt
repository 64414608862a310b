-- The recogniser does what the machine over trees does.
use Rattle.std.proofs.Common.{◌≡◌, true, false, List, [], ◌∷◌, refl, sym, ap, ◌∙◌}
use Rattle.std.specs.Prelude.{Some, None}
use Rattle.clight_source.specs.declared.span.Span.{Span}
use Rattle.clight_source.specs.declared.symbol.Symbol.{Symbol}
use Rattle.clight_source.specs.declared.symbol.Terminal.{Terminal}
use Rattle.clight_source.specs.Trees.{Item}
use Rattle.clight_nodes.specs.declared.modes.Mode.TheVariants as m
use Rattle.clight_nodes.specs.declared.modes.DeclarationMode.TheVariants as d
use Rattle.clight_nodes.specs.declared.nodes.Node.{Node}
use Rattle.clight_nodes.specs.Code.Expressions.{binds}
use Rattle.clight_nodes.specs.Code.Statements as s
use Rattle.clight_nodes.specs.Code.Declarations.{declare}
use Rattle.clight_nodes.specs.Code.Recogniser as r
use Rattle.clight_nodes.specs.Code.Postfix.{add_item, out_items}
use Rattle.clight_grammar.specs.Code.Forms.{InIfTest, InWhileTest, InDoTest, InSource, Mode, Operand, AfterOperand, MemberName, CastTag, CastWords, Statement, MayElse, IfWord, WhileWord, DoBody, DoWhile, ForWord, ForFirst, ForCondition, ForStep, ReturnWord, PortWord, FirstArgument, StatementEnd, ItemStart, TypeStart, TagName, Words, Stars, Named, Lengths, LengthNumber, LengthEnd, Members, StructEnd, InitialiserStart, InitialiserNumber, InitialiserEnd, ListStart, ListNumber, ListEnd, HeaderEnd, Finished, Refused}
use Rattle.clight_grammar.specs.Code.Expressions.{settle}
use Rattle.clight_grammar.specs.Code.Machine.{next, State, gather, step, run, start, ends_in, ends, refused}
use Rattle.clight_grammar.specs.Code.Flat.{flat, flat_state}
use Rattle.clight_grammar.proofs.Lists.{onto-push}
use Rattle.clight_grammar.proofs.FlatExpressions.{settle_flat, binds_above, operand_flat, member_name_flat, tag_of_cast_flat, in_cast_flat}
use Rattle.clight_grammar.proofs.FlatStatements.{act_flat, statement_flat, do_while_flat, may_else_flat, opened_flat, for_word_flat, for_first_flat, for_condition_flat, for_step_flat, return_word_flat, port_word_flat, first_argument_flat, statement_end_flat}
use Rattle.clight_grammar.proofs.FlatDeclarations.{type_start_flat, tag_name_flat, words_flat, stars_flat, named_flat, lengths_flat, length_number_flat, length_end_flat, next_member_flat, struct_end_flat, initialiser_start_flat, initialiser_number_flat, initialiser_end_flat, list_start_flat, list_number_flat, list_end_flat, header_end_flat}

-- ---- one token

pub next_flat : (items : List Node) (x : Mode) (y : Symbol) (a : Span) → flat items (next x y a) ≡ r.next (flat items x) y a
next_flat items (Operand k) y a = operand_flat items k y a
next_flat items (AfterOperand e k) y a = act_flat items y a (settle (binds y) k e) ∙ ap (s.act y a) (settle_flat items (binds y) (binds_above y) k e)
next_flat items (MemberName e operator i k) y a = member_name_flat items e operator i k y a
next_flat items (CastTag left word k) y a = tag_of_cast_flat items left word k y a
next_flat items (CastWords left type k) y a = in_cast_flat items left type k y a
next_flat items (Statement k) y a = statement_flat items k y a
next_flat items (MayElse x k) y a = may_else_flat items x k y a
next_flat items (IfWord word k) y a = opened_flat items (InIfTest word a) k y
next_flat items (WhileWord word k) y a = opened_flat items (InWhileTest word a) k y
next_flat items (DoBody word x k) y a = do_while_flat items word x k y a
next_flat items (DoWhile word x while' k) y a = opened_flat items (InDoTest word x while' a) k y
next_flat items (ForWord word k) y a = for_word_flat items word k y a
next_flat items (ForFirst word left k) y a = for_first_flat items word left k y a
next_flat items (ForCondition begun k) y a = for_condition_flat items begun k y a
next_flat items (ForStep middle k) y a = for_step_flat items middle k y a
next_flat items (ReturnWord word k) y a = return_word_flat items word k y a
next_flat items (PortWord port k) y a = port_word_flat items port k y a
next_flat items (FirstArgument g h left k) y a = first_argument_flat items g h left k y a
next_flat items (StatementEnd x k) y a = statement_end_flat items x k y a
next_flat items ItemStart y a = type_start_flat items InSource y a
next_flat items (TypeStart owner) y a = type_start_flat items owner y a
next_flat items (TagName owner word) y a = tag_name_flat items owner word y a
next_flat items (Words owner type) y a = words_flat items owner type y a
next_flat items (Stars owner type stars) y a = stars_flat items owner type stars y a
next_flat items (Named owner x) y a = named_flat items owner x y a
next_flat items (Lengths owner x) y a = lengths_flat items owner x y a
next_flat items (LengthNumber owner x left) y a = length_number_flat items owner x left y a
next_flat items (LengthEnd owner x left number span) y a = length_end_flat items owner x left number span y a
next_flat items (Members front members) y a = next_member_flat items front members y a
next_flat items (StructEnd front members right) y a = struct_end_flat items front members right y a
next_flat items (InitialiserStart x equals) y a = initialiser_start_flat items x equals y a
next_flat items (InitialiserNumber x equals minus) y a = initialiser_number_flat items x equals minus y a
next_flat items (InitialiserEnd x initialiser) y a = initialiser_end_flat items x initialiser y a
next_flat items (ListStart l) y a = list_start_flat items l y a
next_flat items (ListNumber l minus) y a = list_number_flat items l minus y a
next_flat items (ListEnd l number) y a = list_end_flat items l number y a
next_flat items (HeaderEnd x) y a = header_end_flat items x y a
next_flat items (Finished x) y a = refl
next_flat items Refused y a = refl

pub gather_flat : (items : List Item) (x : Mode) → flat_state (gather items x) ≡ r.renewed (flat (out_items items) x)
gather_flat items (Finished x) = ap (declare d.ItemStart) (onto-push add_item [] items x)
gather_flat items x = refl

pub step_flat : (x : State) (t : Terminal) → flat_state (step x t) ≡ r.step (flat_state x) t
step_flat x t = gather_flat x.items (next x.mode t.symbol t.span) ∙ ap r.renewed (next_flat (out_items x.items) x.mode t.symbol t.span)

pub run_flat : (l : List Terminal) (x : State) → flat_state (run x l) ≡ r.run (flat_state x) l
run_flat [] x = refl
run_flat (t ∷ l) x = run_flat l (step x t) ∙ ap (λ z. r.run z l) (step_flat x t)

-- ---- whole lists

refused_in : (items : List Node) (x : Mode) → r.is_refused (flat items x).mode ≡ refused x
refused_in items Refused = refl
refused_in items x = refl

-- both refuse the same lists
pub refused_flat : (l : List Terminal) → refused (run start l).mode ≡ r.is_refused (r.run r.start l).mode
refused_flat l = sym (refused_in (out_items (run start l).items) (run start l).mode) ∙ ap (λ z. r.is_refused z.mode) (run_flat l start)

differ : false ≡ true → ⊥
differ h = cc

ends_at : (items : List Item) (x : Mode) → r.may_end (flat (out_items items) x).mode ≡ true → (ends_in items x ≡ Some items) × ((flat (out_items items) x).nodes ≡ out_items items)
ends_at items ItemStart h = (refl, refl)
ends_at items x h = absurd (differ h)

ends_not : (items : List Item) (x : Mode) → r.may_end (flat (out_items items) x).mode ≡ false → ends_in items x ≡ None
ends_not items ItemStart h = absurd (differ (sym h))
ends_not items x h = refl

-- where the recogniser may end, the machine over trees has the items of its nodes
pub ends_flat : (l : List Terminal) → r.may_end (r.run r.start l).mode ≡ true → (items : List Item) × (ends (run start l) ≡ Some items) × ((r.run r.start l).nodes ≡ out_items items)
ends_flat l h =
    let x = run start l in
    let e = run_flat l start in
    let a = ends_at x.items x.mode (ap (λ z. r.may_end z.mode) e ∙ h) in
    (x.items, a.0, sym (ap (λ z. z.nodes) e) ∙ a.1)

pub no_end_flat : (l : List Terminal) → r.may_end (r.run r.start l).mode ≡ false → ends (run start l) ≡ None
no_end_flat l h = let x = run start l in ends_not x.items x.mode (ap (λ z. r.may_end z.mode) (run_flat l start) ∙ h)
