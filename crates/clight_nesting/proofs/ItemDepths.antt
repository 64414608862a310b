-- The levels of the nodes of declarations and items, and what the fold over all nodes of a program gives.
use Rattle.std.proofs.Common.{◌≡◌, ℕ, ◌+◌, ◌≤◌, ◌<◌, min, Bool, true, false, List, [], ◌∷◌, ◌++◌, length, take, get_or, refl, sym, ap, ◌∙◌, arith}
use Rattle.std.specs.Prelude.{nat_le, nat_lt, Option, None}
use Rattle.std.specs.List.{flat_map}
use Rattle.std.proofs.lemmas.Bool.Decides.{nat_tests}
use Rattle.std.proofs.lemmas.List.{take_more, take_all}
use Rattle.clight_source.specs.declared.span.Span.{Span}
use Rattle.clight_source.specs.declared.tree.Name.{Name}
use Rattle.clight_source.specs.declared.tree.Specifiers.{Specifiers}
use Rattle.clight_source.specs.declared.tree.Length.{Length}
use Rattle.clight_source.specs.declared.tree.EarlierNumber.{EarlierNumber}
use Rattle.clight_source.specs.Trees.{Declared, Declaration, Member, Initialiser, NoInitialiser, Single, Listed, EarlierParameter, Parameters, NoParameters, Parameters', Header, LocalInitialiser, NoValue, Value, Local, Item, StructItem, GlobalItem, PrototypeItem, FunctionItem}
use Rattle.clight_source.specs.Depth.{node, declared_start, declaration_depth, expr_nodes, stmts_nodes, declared_nodes, declaration_nodes, member_nodes, earlier_parameter_nodes, parameters_nodes, header_nodes, local_initialiser_nodes, local_nodes, item_nodes}
use Rattle.clight_nodes.specs.declared.nodes.Node.{Node as Out}
use Rattle.clight_nodes.specs.declared.nodes.Node.TheVariants as n
use Rattle.clight_nodes.specs.Code.States.{newest}
use Rattle.clight_nodes.proofs.Newest.{newest-nil, newest-push}
use Rattle.clight_nodes.specs.Code.Postfix.{onto, add_star, out_declared, add_length, out_declaration, add_member, add_number, out_initialiser, add_parameter, out_parameters, out_header, out_local, add_local, out_front, out_item, add_item, out_items}
use Rattle.clight_nodes.specs.Code.Declarations.{make_front}
use Rattle.clight_nesting.specs.declared.levels.Level.{Level}
use Rattle.clight_nesting.specs.Code.Levels.{level, Levels, levels, least, more, begun, note, measure, measured}
use Rattle.clight_nesting.specs.Code.Nesting.{IsNesting}
use Rattle.clight_nesting.proofs.FirstDeep.{least_none, first_deep, first_deep-append, too_deep, low_is, high_is, low_test, high_test, nesting_by}
use Rattle.clight_nesting.proofs.Depths.{least_last, step, nothing_new, join, join_three, pass, put_expr, expr_levels, stmts_levels}

-- ---- stars and lengths

more_by : (b : Bool) (d : ℕ) → nat_lt (min d 65) 65 ≡ b → more (min d 65) ≡ min (1 + d) 65
more_by true d h = let l : min d 65 < 65 = grind (arith, nat_tests) in rw h (omega arith)
more_by false d h = let l : 65 ≤ min d 65 = grind (arith, nat_tests) in rw h (omega arith)

more_capped : (d : ℕ) → more (min d 65) ≡ min (1 + d) 65
more_capped d = more_by (nat_lt (min d 65) 65) d refl

not_first : (d : ℕ) → 1 ≤ d → nat_lt d 1 ≡ false
not_first d h = grind (arith, nat_tests)

begun_before : (d start first : ℕ) → 1 ≤ d → begun first (level d start) ≡ start
begun_before d start first h = rw (not_first d h) refl

-- a level of what is declared
abbrev put : ℕ → ℕ → List Level → Option ℕ → Levels
put d start k m = levels (level (min d 65) start ∷ k) m

-- stars after the first one
stars_after : (l : List Span) (d start : ℕ) (z : List Out) (k : List Level) (m : Option ℕ) → measured z ≡ put (1 + d) start k m
    → measured (onto add_star z l) ≡ put (1 + (d + length l)) start k m
stars_after [] d start z k m h = let e : 1 + d ≡ 1 + (d + 0) = omega arith in h ∙ ap (λ i. put i start k m) e
stars_after (a ∷ l) d start z k m h =
    let e : 1 + ((1 + d) + length l) ≡ 1 + (d + length (a ∷ l)) = omega arith in
    let p : 1 ≤ min (1 + d) 65 = omega arith in
    stars_after l (1 + d) start (add_star z a) k m
    (ap (step (n.Star a)) h
    ∙ (ap (λ i. levels (level i (begun a.from (level (min (1 + d) 65) start)) ∷ k) m) (more_capped (1 + d))
    ∙ ap (λ i. levels (level (min (1 + (1 + d)) 65) i ∷ k) m) (begun_before (min (1 + d) 65) start a.from p)))
    ∙ ap (λ i. put i start k m) e

declared_by : (type : Specifiers) (stars : List Span) (name : Name) (z : List Out)
    → measured (out_declared (record { specifiers = type; stars = stars; name = name }) z)
    ≡ put (length stars) (declared_start (record { specifiers = type; stars = stars; name = name })) (measured z).list (measured z).deep
declared_by type [] name z = refl
declared_by type (a ∷ l) name z =
    let e : 1 + (0 + length l) ≡ length (a ∷ l) = omega arith in
    let p : 1 ≤ min (1 + (0 + length l)) 65 = omega arith in
    ap (step (n.Declared type name)) (stars_after l 0 a.from (n.Star a ∷ (n.NoStars ∷ z)) (measured z).list (measured z).deep refl)
    ∙ (ap (λ i. levels (level (min (1 + (0 + length l)) 65) i ∷ (measured z).list) (measured z).deep) (begun_before (min (1 + (0 + length l)) 65) a.from name.span.from p)
    ∙ ap (λ i. put i a.from (measured z).list (measured z).deep) e)

declared_levels : (x : Declared) (z : List Out) → measured (out_declared x z) ≡ put (length x.stars) (declared_start x) (measured z).list (measured z).deep
declared_levels x z = declared_by x.specifiers x.stars x.name z

lengths_after : (l : List Length) (d start : ℕ) (z : List Out) (k : List Level) (m : Option ℕ) → measured z ≡ put d start k m → measured (onto add_length z l) ≡ put (d + length l) start k m
lengths_after [] d start z k m h = let e : d ≡ d + 0 = omega arith in h ∙ ap (λ i. put i start k m) e
lengths_after (a ∷ l) d start z k m h =
    let e : (1 + d) + length l ≡ d + length (a ∷ l) = omega arith in
    lengths_after l (1 + d) start (add_length z a) k m (ap (step (n.Length a)) h ∙ ap (λ i. levels (level i start ∷ k) m) (more_capped d)) ∙ ap (λ i. put i start k m) e

declaration_levels : (x : Declaration) (z : List Out) → measured (out_declaration x z) ≡ put (declaration_depth x) (declared_start x.declared) (measured z).list (measured z).deep
declaration_levels x z =
    lengths_after x.lengths (length x.declared.stars) (declared_start x.declared) (n.NoLengths ∷ out_declared x.declared z) (measured z).list (measured z).deep
    (ap (step n.NoLengths) (declared_levels x.declared z))

-- ---- a node

note_by : (b : Bool) (d start : ℕ) (m : Option ℕ) → nat_le d 64 ≡ b → note (level (min d 65) start) m ≡ least m (too_deep d start)
note_by true d start m h =
    let l = low_is d h in
    let e = low_test (min d 65) (omega arith) in
    rw (h, e) (sym (least_none m))
note_by false d start m h =
    let l = high_is d h in
    let e = high_test (min d 65) (omega arith) in
    rw (h, e) refl

note_is : (d start : ℕ) (m : Option ℕ) → note (level (min d 65) start) m ≡ least m (first_deep (node start d ∷ []))
note_is d start m = note_by (nat_le d 64) d start m refl ∙ ap (least m) (sym (least_none (too_deep d start)))

-- ---- structs and globals

member_levels : (x : Member) (z : List Out) → measured (add_member z x) ≡ pass (member_nodes x) (measured z)
member_levels x z =
    ap (step (n.Member x.semicolon)) (declaration_levels x.declaration z)
    ∙ ap (levels (measured z).list) (note_is (declaration_depth x.declaration) (declared_start x.declaration.declared) (measured z).deep)

members_levels : (l : List Member) (z : List Out) → measured (onto add_member z l) ≡ pass (flat_map member_nodes l) (measured z)
members_levels [] z = ap (levels (measured z).list) (nothing_new (measured z).deep)
members_levels (x ∷ l) z =
    members_levels l (add_member z x)
    ∙ (ap (pass (flat_map member_nodes l)) (member_levels x z) ∙ ap (levels (measured z).list) (join (measured z).deep (member_nodes x) (flat_map member_nodes l)))

numbers_levels : (l : List EarlierNumber) (z : List Out) → measured (onto add_number z l) ≡ measured z
numbers_levels [] z = refl
numbers_levels (x ∷ l) z = numbers_levels l (add_number z x)

initialiser_levels : (x : Initialiser) (z : List Out) → measured (out_initialiser x z) ≡ measured z
initialiser_levels NoInitialiser z = refl
initialiser_levels (Single equals number) z = refl
initialiser_levels (Listed equals left earlier last right) z = ap (step (n.Listed equals left last right)) (numbers_levels earlier (n.NoNumbers ∷ z))

-- ---- functions

parameter_levels : (x : EarlierParameter) (z : List Out) → measured (add_parameter z x) ≡ pass (earlier_parameter_nodes x) (measured z)
parameter_levels x z =
    ap (step (n.Parameter x.comma)) (declared_levels x.parameter z) ∙ ap (levels (measured z).list) (note_is (length x.parameter.stars) (declared_start x.parameter) (measured z).deep)

parameters_levels : (l : List EarlierParameter) (z : List Out) → measured (onto add_parameter z l) ≡ pass (flat_map earlier_parameter_nodes l) (measured z)
parameters_levels [] z = ap (levels (measured z).list) (nothing_new (measured z).deep)
parameters_levels (x ∷ l) z =
    parameters_levels l (add_parameter z x)
    ∙ (ap (pass (flat_map earlier_parameter_nodes l)) (parameter_levels x z) ∙ ap (levels (measured z).list) (join (measured z).deep (earlier_parameter_nodes x) (flat_map earlier_parameter_nodes l)))

-- the function itself
function_levels : (x : Declared) (z : List Out) → measured (n.NoParameters ∷ out_declared x z) ≡ pass (declared_nodes x) (measured z)
function_levels x z = ap (step n.NoParameters) (declared_levels x z) ∙ ap (levels (measured z).list) (note_is (length x.stars) (declared_start x) (measured z).deep)

header_by : (x : Declared) (left : Span) (parameters : Parameters) (right : Span) (z : List Out)
    → measured (out_parameters left parameters right (out_declared x z)) ≡ pass (declared_nodes x ++ parameters_nodes parameters) (measured z)
header_by x left (NoParameters void) right z = ap (step (n.VoidHeader left void right)) (function_levels x z)
header_by x left (Parameters' earlier last) right z =
    let l = flat_map earlier_parameter_nodes earlier in
    let w = onto add_parameter (n.NoParameters ∷ out_declared x z) earlier in
    let e = parameters_levels earlier (n.NoParameters ∷ out_declared x z) ∙ ap (pass l) (function_levels x z) in
    ap (step (n.Header left right)) (declared_levels last w ∙ ap (λ y. put (length last.stars) (declared_start last) y.list y.deep) e)
    ∙ (ap (levels (measured z).list) (note_is (length last.stars) (declared_start last) (least (least (measured z).deep (first_deep (declared_nodes x))) (first_deep l)))
    ∙ ap (levels (measured z).list) (join_three (measured z).deep (declared_nodes x) l (declared_nodes last)))

header_levels : (x : Header) (z : List Out) → measured (out_header x z) ≡ pass (header_nodes x) (measured z)
header_levels x z = header_by x.declared x.left x.parameters x.right z

local_by : (x : Declaration) (first : LocalInitialiser) (a : Span) (z : List Out)
    → measured (out_local x first a z) ≡ pass (declaration_nodes x ++ local_initialiser_nodes first) (measured z)
local_by x NoValue a z =
    ap (step (n.Local a)) (declaration_levels x z) ∙ ap (levels (measured z).list) (note_is (declaration_depth x) (declared_start x.declared) (measured z).deep)
local_by x (Value equals e) a z =
    ap (step (n.LocalValue equals a)) (expr_levels e (out_declaration x z) ∙ ap (put_expr e) (declaration_levels x z))
    ∙ ap (levels (measured z).list)
    (note_is (declaration_depth x) (declared_start x.declared) (least (measured z).deep (first_deep (expr_nodes e)))
    ∙ (least_last (measured z).deep (first_deep (expr_nodes e)) (first_deep (declaration_nodes x)) ∙ ap (least (measured z).deep) (sym (first_deep-append (declaration_nodes x) (expr_nodes e)))))

locals_levels : (l : List Local) (z : List Out) → measured (onto add_local z l) ≡ pass (flat_map local_nodes l) (measured z)
locals_levels [] z = ap (levels (measured z).list) (nothing_new (measured z).deep)
locals_levels (x ∷ l) z =
    locals_levels l (add_local z x)
    ∙ (ap (pass (flat_map local_nodes l)) (local_by x.declaration x.initialiser x.semicolon z) ∙ ap (levels (measured z).list) (join (measured z).deep (local_nodes x) (flat_map local_nodes l)))

front_levels : (x : Header) (l : List Local) (z : List Out)
    → measured (out_front x l z) ≡ levels (level 0 0 ∷ (measured z).list) (least (least (measured z).deep (first_deep (header_nodes x))) (first_deep (flat_map local_nodes l)))
front_levels x l z =
    locals_levels l (n.NoStatements ∷ (n.NoLocals ∷ out_header x z)) ∙ ap (λ y. pass (flat_map local_nodes l) (step n.NoStatements (step n.NoLocals y))) (header_levels x z)

-- ---- items

item_levels : (x : Item) (z : List Out) → measured (out_item x z) ≡ pass (item_nodes x) (measured z)
item_levels (StructItem x) z = ap (step (n.Struct (make_front x.keyword x.tag x.left) x.right x.semicolon)) (members_levels x.members (n.NoMembers ∷ z))
item_levels (GlobalItem x) z =
    ap (step (n.Global x.semicolon)) (initialiser_levels x.initialiser (out_declaration x.declaration z) ∙ declaration_levels x.declaration z)
    ∙ ap (levels (measured z).list) (note_is (declaration_depth x.declaration) (declared_start x.declaration.declared) (measured z).deep)
item_levels (PrototypeItem x) z = ap (step (n.Prototype x.semicolon)) (header_levels x.header z)
item_levels (FunctionItem x) z =
    ap (step (n.Function x.left x.right)) (stmts_levels x.body (out_front x.header x.locals z) (measured z).list _ (front_levels x.header x.locals z))
    ∙ ap (levels (measured z).list) (join_three (measured z).deep (header_nodes x.header) (flat_map local_nodes x.locals) (stmts_nodes x.body))

items_levels : (l : List Item) (z : List Out) → measured (onto add_item z l) ≡ pass (flat_map item_nodes l) (measured z)
items_levels [] z = ap (levels (measured z).list) (nothing_new (measured z).deep)
items_levels (x ∷ l) z =
    items_levels l (add_item z x)
    ∙ (ap (pass (flat_map item_nodes l)) (item_levels x z) ∙ ap (levels (measured z).list) (join (measured z).deep (item_nodes x) (flat_map item_nodes l)))

-- ---- the loop

pub no_levels : (l : List Level) → l ≡ [] → levels (newest l) None ≡ measured (newest [])
no_levels l h = ap (λ z. levels (newest z) None) h ∙ (ap (λ z. levels z None) newest-nil ∙ ap measured (sym newest-nil))

pub next_measured : (l : List Out) (i : ℕ) (d : Out) (x y : Levels) → i < length l → x ≡ measured (newest (take i l)) → y ≡ measure (get_or l i d) x.list x.deep → y ≡ measured (newest (take (i + 1) l))
next_measured l i d x y h e g = g ∙ (ap (step (get_or l i d)) e ∙ ap measured (sym (ap newest (take_more l i d h) ∙ newest-push (take i l) (get_or l i d))))

pub nesting_of : (l : List Out) (i : ℕ) (x : Levels) (items : List Item) → length l ≤ i → x ≡ measured (newest (take i l)) → newest l ≡ out_items items → IsNesting items x.deep
nesting_of l i x items h e g =
    nesting_by items x.deep (sym (ap (λ y. y.deep) (e ∙ (ap (λ y. measured (newest y)) (take_all i l h) ∙ (ap measured g ∙ items_levels items [])))))
