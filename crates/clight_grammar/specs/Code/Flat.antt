-- What the recogniser holds where the machine over trees has a state: the forms without their parts, and the nodes of the items
-- that are whole and of all parts.
use Rattle.std.specs.Prelude.{List, [], ◌∷◌, Option, Some, None}
use Rattle.clight_source.specs.Trees.{Call, NoArguments, Arguments'}
use Rattle.clight_nodes.specs.declared.forms.Form.{Form as CForm}
use Rattle.clight_nodes.specs.declared.forms.Form.TheVariants as f
use Rattle.clight_nodes.specs.declared.forms.Place.{Place as CPlace}
use Rattle.clight_nodes.specs.declared.forms.Place.TheVariants as c
use Rattle.clight_nodes.specs.declared.forms.ForStart.{ForStart as CForStart}
use Rattle.clight_nodes.specs.declared.forms.ForMiddle.{ForMiddle as CForMiddle}
use Rattle.clight_nodes.specs.declared.modes.Owner.{Owner as COwner}
use Rattle.clight_nodes.specs.declared.modes.Owner.TheVariants as w
use Rattle.clight_nodes.specs.declared.modes.Pending.{Pending as CPending}
use Rattle.clight_nodes.specs.declared.modes.Pending.TheVariants as e
use Rattle.clight_nodes.specs.declared.modes.Mode.TheVariants as m
use Rattle.clight_nodes.specs.declared.modes.StatementMode.TheVariants as b
use Rattle.clight_nodes.specs.declared.modes.DeclarationMode.TheVariants as d
use Rattle.clight_nodes.specs.declared.modes.InitialiserMode.TheVariants as i
use Rattle.clight_nodes.specs.declared.nodes.Node.{Node}
use Rattle.clight_nodes.specs.declared.nodes.Node.TheVariants as n
use Rattle.clight_nodes.specs.Code.States.{at, refused}
use Rattle.clight_nodes.specs.Code.States as r
use Rattle.clight_nodes.specs.Code.Expressions as x
use Rattle.clight_nodes.specs.Code.Statements.{make_start, make_middle}
use Rattle.clight_nodes.specs.Code.Declarations.{declare, initialise}
use Rattle.clight_nodes.specs.Code.Postfix.{onto, out_expr, out_earlier, out_assignment, out_condition, out_head, middle_of, out_stmt, out_stmts, add_star, out_declared, out_declaration, out_members, out_numbers, out_initialiser, add_parameter, out_header, out_front, out_item, out_items}
use Rattle.clight_grammar.specs.Code.Parts.{ForStart, ForMiddle, FunctionFront}
use Rattle.clight_grammar.specs.Code.Forms.{Place, AsStatement, AsFirst, AsStep, Form, InBinary, InPrefix, InCast, InParenthesis, InIndex, InTarget, InValue, InPortValue, InArguments, InIfTest, InWhileTest, InDoTest, InCondition, InReturn, InLocalValue, InIf, InElse, InWhile, InDo, InFor, InBlock, InLocals, InBody, Owner, InSource, InStruct, InFirstParameter, InLaterParameter, InFunction, Pending, CallPending, ReadPending, DoPending, BreakPending, ContinuePending, Mode, Operand, AfterOperand, MemberName, CastTag, CastWords, Statement, MayElse, IfWord, WhileWord, DoBody, DoWhile, ForWord, ForFirst, ForCondition, ForStep, ReturnWord, PortWord, FirstArgument, StatementEnd, ItemStart, TypeStart, TagName, Words, Stars, Named, Lengths, LengthNumber, LengthEnd, Members, StructEnd, InitialiserStart, InitialiserNumber, InitialiserEnd, ListStart, ListNumber, ListEnd, HeaderEnd, Finished, Refused}
use Rattle.clight_grammar.specs.Code.Expressions.{Settled}
use Rattle.clight_grammar.specs.Code.Machine.{State}

-- ---- forms

abbrev pub flat_start : ForStart → CForStart
flat_start x = make_start x.keyword x.left x.semicolon

abbrev pub flat_middle : ForMiddle → CForMiddle
flat_middle x = make_middle (flat_start x.start) x.semicolon

abbrev pub flat_place : Place → CPlace
flat_place AsStatement = c.AsStatement
flat_place (AsFirst word left) = c.AsFirst word left
flat_place (AsStep middle) = c.AsStep (flat_middle middle)

abbrev pub flat_form : Form → CForm
flat_form (InBinary e operator a) = f.Binary operator a
flat_form (InPrefix operator a) = f.Prefix operator a
flat_form (InCast left type right) = f.Cast left type right
flat_form (InParenthesis left) = f.Parenthesis left
flat_form (InIndex base left) = f.Index left
flat_form (InTarget place) = f.Target (flat_place place)
flat_form (InValue place target equals) = f.Value (flat_place place) equals
flat_form (InPortValue port equals) = f.PortValue port equals
flat_form (InArguments g h left earlier) = f.Arguments g h left
flat_form (InIfTest word left) = f.IfTest word left
flat_form (InWhileTest word left) = f.WhileTest word left
flat_form (InDoTest word x while' left) = f.DoTest word while' left
flat_form (InCondition start) = f.Condition (flat_start start)
flat_form (InReturn word) = f.Return word
flat_form (InLocalValue front x equals) = f.LocalValue front.left equals
flat_form (InIf t) = f.If t.keyword t.left t.right
flat_form (InElse t x a) = f.Else t.keyword t.left t.right a
flat_form (InWhile t) = f.While t.keyword t.left t.right
flat_form (InDo word) = f.Do word
flat_form (InFor head) = f.For (middle_of head) head.right
flat_form (InBlock left xs) = f.Block left
flat_form (InLocals front) = f.Locals front.left
flat_form (InBody front xs) = f.Body front.left

abbrev pub flat_forms : List Form → List CForm
flat_forms [] = []
flat_forms (g ∷ k) = flat_form g ∷ flat_forms k

-- ---- the nodes of their parts

abbrev pub out_start : ForStart → List Node → List Node
out_start x z = out_assignment x.first z

abbrev pub out_middle : ForMiddle → List Node → List Node
out_middle x z = out_condition x.condition (out_start x.start z)

abbrev pub out_place : Place → List Node → List Node
out_place (AsStep middle) z = out_middle middle z
out_place _ z = z

abbrev pub front_nodes : FunctionFront → List Node → List Node
front_nodes x z = out_front x.header x.locals z

-- the nodes of the parts that an open form has, put on those of the forms around it; around a function there are the items
abbrev pub out_form : (items : List Node) → Form → List Node → List Node
out_form items (InBinary e operator a) z = out_expr e z
out_form items (InIndex base left) z = out_expr base z
out_form items (InTarget place) z = out_place place z
out_form items (InValue place target equals) z = out_expr target (out_place place z)
out_form items (InArguments g h left earlier) z = out_earlier earlier z
out_form items (InDoTest word x while' left) z = out_stmt x z
out_form items (InCondition start) z = out_start start z
out_form items (InLocalValue front x equals) z = out_declaration x (front_nodes front items)
out_form items (InIf t) z = out_expr t.condition z
out_form items (InElse t x a) z = out_stmt x (out_expr t.condition z)
out_form items (InWhile t) z = out_expr t.condition z
out_form items (InFor head) z = out_head head z
out_form items (InBlock left xs) z = out_stmts xs (n.NoStatements ∷ z)
out_form items (InLocals front) z = front_nodes front items
out_form items (InBody front xs) z = out_stmts xs (front_nodes front items)
out_form items _ z = z

abbrev pub out_forms : (items : List Node) → List Form → List Node
out_forms items [] = items
out_forms items (g ∷ k) = out_form items g (out_forms items k)

abbrev pub flat_settled : (items : List Node) → Settled → x.Settled
flat_settled items y = x.settled (flat_forms y.forms) (out_expr y.operand (out_forms items y.forms))

-- ---- simple statements

abbrev pub flat_call : Call → CPending
flat_call x = elim x.arguments [
  | NoArguments ↦ e.CallAlone x.target x.function x.left x.right
  | Arguments' earlier last ↦ e.Call x.target x.function x.left x.right
]

abbrev pub flat_pending : Pending → CPending
flat_pending (CallPending x) = flat_call x
flat_pending (ReadPending target equals port) = e.Read equals port
flat_pending (DoPending word x t) = e.Do word t.keyword t.left t.right
flat_pending (BreakPending word) = e.Break word
flat_pending (ContinuePending word) = e.Continue word

abbrev pub out_arguments : Call → List Node → List Node
out_arguments x z = elim x.arguments [ NoArguments ↦ z | Arguments' earlier last ↦ out_expr last (out_earlier earlier z) ]

abbrev pub out_pending : Pending → List Node → List Node
out_pending (CallPending x) z = out_arguments x z
out_pending (ReadPending target equals port) z = out_expr target z
out_pending (DoPending word x t) z = out_expr t.condition (out_stmt x z)
out_pending _ z = z

-- ---- declarations

abbrev pub flat_owner : Owner → COwner
flat_owner InSource = w.InSource
flat_owner (InStruct front members) = w.InStruct front
flat_owner (InFirstParameter x left) = w.InFirstParameter left
flat_owner (InLaterParameter x left earlier) = w.InLaterParameter left
flat_owner (InFunction front) = w.InFunction front.left

abbrev pub out_owner : (items : List Node) → Owner → List Node
out_owner items InSource = items
out_owner items (InStruct front members) = out_members members items
out_owner items (InFirstParameter x left) = n.NoParameters ∷ out_declared x items
out_owner items (InLaterParameter x left earlier) = onto add_parameter (n.NoParameters ∷ out_declared x items) earlier
out_owner items (InFunction front) = front_nodes front items

-- ---- modes

abbrev pub flat : (items : List Node) → Mode → r.State
flat items (Operand k) = at m.Operand (flat_forms k) (out_forms items k)
flat items (AfterOperand e k) = at m.AfterOperand (flat_forms k) (out_expr e (out_forms items k))
flat items (MemberName e operator a k) = at (m.MemberName operator a) (flat_forms k) (out_expr e (out_forms items k))
flat items (CastTag left word k) = at (m.CastTag left word) (flat_forms k) (out_forms items k)
flat items (CastWords left type k) = at (m.CastWords left type) (flat_forms k) (out_forms items k)
flat items (Statement k) = at (m.Statement b.Start) (flat_forms k) (out_forms items k)
flat items (MayElse x k) = at (m.Statement b.MayElse) (flat_forms k) (out_stmt x (out_forms items k))
flat items (IfWord word k) = at (m.Statement (b.IfWord word)) (flat_forms k) (out_forms items k)
flat items (WhileWord word k) = at (m.Statement (b.WhileWord word)) (flat_forms k) (out_forms items k)
flat items (DoBody word x k) = at (m.Statement (b.DoBody word)) (flat_forms k) (out_stmt x (out_forms items k))
flat items (DoWhile word x while' k) = at (m.Statement (b.DoWhile word while')) (flat_forms k) (out_stmt x (out_forms items k))
flat items (ForWord word k) = at (m.Statement (b.ForWord word)) (flat_forms k) (out_forms items k)
flat items (ForFirst word left k) = at (m.Statement (b.ForFirst word left)) (flat_forms k) (out_forms items k)
flat items (ForCondition start k) = at (m.Statement (b.ForCondition (flat_start start))) (flat_forms k) (out_start start (out_forms items k))
flat items (ForStep middle k) = at (m.Statement (b.ForStep (flat_middle middle))) (flat_forms k) (out_middle middle (out_forms items k))
flat items (ReturnWord word k) = at (m.Statement (b.ReturnWord word)) (flat_forms k) (out_forms items k)
flat items (PortWord port k) = at (m.Statement (b.PortWord port)) (flat_forms k) (out_forms items k)
flat items (FirstArgument g h left k) = at (m.Statement (b.FirstArgument g h left)) (flat_forms k) (out_forms items k)
flat items (StatementEnd x k) = at (m.Statement (b.End (flat_pending x))) (flat_forms k) (out_pending x (out_forms items k))
flat items ItemStart = declare d.ItemStart items
flat items (TypeStart owner) = declare (d.TypeStart (flat_owner owner)) (out_owner items owner)
flat items (TagName owner word) = declare (d.TagName (flat_owner owner) word) (out_owner items owner)
flat items (Words owner type) = declare (d.Words (flat_owner owner) type) (out_owner items owner)
flat items (Stars owner type stars) = declare (d.Stars (flat_owner owner) type) (onto add_star (n.NoStars ∷ out_owner items owner) stars)
flat items (Named owner x) = declare (d.Named (flat_owner owner)) (out_declared x (out_owner items owner))
flat items (Lengths owner x) = declare (d.Lengths (flat_owner owner)) (out_declaration x (out_owner items owner))
flat items (LengthNumber owner x left) = declare (d.LengthNumber (flat_owner owner) left) (out_declaration x (out_owner items owner))
flat items (LengthEnd owner x left number span) = declare (d.LengthEnd (flat_owner owner) left number span) (out_declaration x (out_owner items owner))
flat items (Members front members) = declare (d.Members front) (out_members members items)
flat items (StructEnd front members right) = declare (d.StructEnd front right) (out_members members items)
flat items (InitialiserStart x equals) = initialise (i.Start equals) (out_declaration x items)
flat items (InitialiserNumber x equals minus) = initialise (i.Number equals minus) (out_declaration x items)
flat items (InitialiserEnd x initialiser) = initialise i.End (out_initialiser initialiser (out_declaration x items))
flat items (ListStart l) = initialise (i.ListStart l.equals l.left) (out_numbers l.earlier (out_declaration l.declaration items))
flat items (ListNumber l minus) = initialise (i.ListNumber l.equals l.left minus) (out_numbers l.earlier (out_declaration l.declaration items))
flat items (ListEnd l number) = initialise (i.ListEnd l.equals l.left number) (out_numbers l.earlier (out_declaration l.declaration items))
flat items (HeaderEnd x) = declare d.HeaderEnd (out_header x items)
flat items (Finished x) = at m.Finished [] (out_item x items)
flat items Refused = refused

abbrev pub flat_state : State → r.State
flat_state x = flat (out_items x.items) x.mode
