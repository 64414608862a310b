-- The fold over the nodes of declarations and items gives their trees.
use Rattle.std.proofs.Common.{◌≡◌, ℕ, ◌+◌, ◌<◌, ◌≤◌, List, [], ◌∷◌, ◌++◌, length, take, get_or, refl, sym, ap, ◌∙◌}
use Rattle.std.proofs.lemmas.List.{append_assoc, append-nil, take_more, take_all}
use Rattle.clight_source.specs.declared.span.Span.{Span}
use Rattle.clight_source.specs.declared.tree.Length.{Length}
use Rattle.clight_source.specs.declared.tree.EarlierNumber.{EarlierNumber}
use Rattle.clight_source.specs.Trees.{NoStmts, Declared, Declaration, Member, Initialiser, NoInitialiser, Single, Listed, EarlierParameter, Parameters, NoParameters, Parameters', Header, LocalInitialiser, NoValue, Value, Local, Item, StructItem, GlobalItem, PrototypeItem, FunctionItem}
use Rattle.clight_nodes.specs.declared.nodes.Node.{Node}
use Rattle.clight_nodes.specs.declared.nodes.Node.TheVariants as n
use Rattle.clight_nodes.specs.Code.States.{newest}
use Rattle.clight_nodes.specs.Code.Declarations.{make_front}
use Rattle.clight_nodes.specs.Code.Postfix.{onto, add_star, out_declared, add_length, out_declaration, add_member, add_number, out_initialiser, add_parameter, out_parameters, out_header, out_local, add_local, out_front, out_item, add_item, out_items}
use Rattle.clight_nodes.proofs.Newest.{newest-nil, newest-push}
use Rattle.clight_source.specs.declared.tree.Item.{Item as CItem}
use Rattle.clight_build.specs.Code.Stacks.{Stacks, no_stacks}
use Rattle.clight_build_items.specs.Code.Views.{items_in}
use Rattle.clight_build_items.specs.Code.Stacks.{Whole, whole, Declarations, declarations, no_declarations, make_header, add, added}
use Rattle.clight_build_items.proofs.Folds.{push_expr, push_list, fold_expr, fold_stmts}

-- ---- what is put on the stacks

abbrev pub push_stars : List Span → Whole → Whole
push_stars l s =
    let d = s.open_declarations in
    whole s.parts (declarations (l ∷ d.stars) d.declareds d.declarations d.members d.numbers d.initialisers d.parameters d.headers d.locals) s.items

abbrev pub push_declared : Declared → Whole → Whole
push_declared x s =
    let d = s.open_declarations in
    whole s.parts (declarations d.stars (x ∷ d.declareds) d.declarations d.members d.numbers d.initialisers d.parameters d.headers d.locals) s.items

abbrev pub push_declaration : Declaration → Whole → Whole
push_declaration x s =
    let d = s.open_declarations in
    whole s.parts (declarations d.stars d.declareds (x ∷ d.declarations) d.members d.numbers d.initialisers d.parameters d.headers d.locals) s.items

abbrev pub push_members : List Member → Whole → Whole
push_members l s =
    let d = s.open_declarations in
    whole s.parts (declarations d.stars d.declareds d.declarations (l ∷ d.members) d.numbers d.initialisers d.parameters d.headers d.locals) s.items

abbrev pub push_numbers : List EarlierNumber → Whole → Whole
push_numbers l s =
    let d = s.open_declarations in
    whole s.parts (declarations d.stars d.declareds d.declarations d.members (l ∷ d.numbers) d.initialisers d.parameters d.headers d.locals) s.items

abbrev pub push_initialiser : Initialiser → Whole → Whole
push_initialiser x s =
    let d = s.open_declarations in
    whole s.parts (declarations d.stars d.declareds d.declarations d.members d.numbers (x ∷ d.initialisers) d.parameters d.headers d.locals) s.items

abbrev pub push_parameters : List EarlierParameter → Whole → Whole
push_parameters l s =
    let d = s.open_declarations in
    whole s.parts (declarations d.stars d.declareds d.declarations d.members d.numbers d.initialisers (l ∷ d.parameters) d.headers d.locals) s.items

abbrev pub push_header : Header → Whole → Whole
push_header x s =
    let d = s.open_declarations in
    whole s.parts (declarations d.stars d.declareds d.declarations d.members d.numbers d.initialisers d.parameters (x ∷ d.headers) d.locals) s.items

abbrev pub push_locals : List Local → Whole → Whole
push_locals l s =
    let d = s.open_declarations in
    whole s.parts (declarations d.stars d.declareds d.declarations d.members d.numbers d.initialisers d.parameters d.headers (l ∷ d.locals)) s.items

abbrev pub push_item : Item → Whole → Whole
push_item x s = whole s.parts s.open_declarations (s.items ++ x ∷ [])

-- ---- what is declared

fold_stars : (l earlier : List Span) (z : List Node) (s : Whole) → added z ≡ push_stars earlier s → added (onto add_star z l) ≡ push_stars (earlier ++ l) s
fold_stars [] earlier z s h = h ∙ ap (λ k. push_stars k s) (sym (append-nil earlier))
fold_stars (a ∷ l) earlier z s h = fold_stars l (earlier ++ a ∷ []) (add_star z a) s (ap (add (n.Star a)) h) ∙ ap (λ k. push_stars k s) (append_assoc earlier (a ∷ []) l)

fold_declared : (x : Declared) (z : List Node) → added (out_declared x z) ≡ push_declared x (added z)
fold_declared x z = ap (add (n.Declared x.specifiers x.name)) (fold_stars x.stars [] (n.NoStars ∷ z) (added z) refl)

abbrev with_lengths : Declared → List Length → Declaration
with_lengths x l = record { declared = x; lengths = l }

fold_lengths : (l earlier : List Length) (x : Declared) (z : List Node) (s : Whole) → added z ≡ push_declaration (with_lengths x earlier) s
    → added (onto add_length z l) ≡ push_declaration (with_lengths x (earlier ++ l)) s
fold_lengths [] earlier x z s h = h ∙ ap (λ k. push_declaration (with_lengths x k) s) (sym (append-nil earlier))
fold_lengths (a ∷ l) earlier x z s h =
    fold_lengths l (earlier ++ a ∷ []) x (add_length z a) s (ap (add (n.Length a)) h) ∙ ap (λ k. push_declaration (with_lengths x k) s) (append_assoc earlier (a ∷ []) l)

fold_declaration : (x : Declaration) (z : List Node) → added (out_declaration x z) ≡ push_declaration x (added z)
fold_declaration x z = fold_lengths x.lengths [] x.declared (n.NoLengths ∷ out_declared x.declared z) (added z) (ap (add n.NoLengths) (fold_declared x.declared z))

-- ---- structs and globals

fold_members : (l earlier : List Member) (z : List Node) (s : Whole) → added z ≡ push_members earlier s → added (onto add_member z l) ≡ push_members (earlier ++ l) s
fold_members [] earlier z s h = h ∙ ap (λ k. push_members k s) (sym (append-nil earlier))
fold_members (x ∷ l) earlier z s h =
    fold_members l (earlier ++ x ∷ []) (add_member z x) s (ap (add (n.Member x.semicolon)) (fold_declaration x.declaration z ∙ ap (push_declaration x.declaration) h))
    ∙ ap (λ k. push_members k s) (append_assoc earlier (x ∷ []) l)

fold_numbers : (l earlier : List EarlierNumber) (z : List Node) (s : Whole) → added z ≡ push_numbers earlier s → added (onto add_number z l) ≡ push_numbers (earlier ++ l) s
fold_numbers [] earlier z s h = h ∙ ap (λ k. push_numbers k s) (sym (append-nil earlier))
fold_numbers (x ∷ l) earlier z s h =
    fold_numbers l (earlier ++ x ∷ []) (add_number z x) s (ap (add (n.EarlierNumber x.number x.comma)) h) ∙ ap (λ k. push_numbers k s) (append_assoc earlier (x ∷ []) l)

fold_initialiser : (x : Initialiser) (z : List Node) → added (out_initialiser x z) ≡ push_initialiser x (added z)
fold_initialiser NoInitialiser z = refl
fold_initialiser (Single equals number) z = refl
fold_initialiser (Listed equals left earlier last right) z = ap (add (n.Listed equals left last right)) (fold_numbers earlier [] (n.NoNumbers ∷ z) (added z) refl)

-- ---- functions

fold_parameters : (l earlier : List EarlierParameter) (z : List Node) (s : Whole) → added z ≡ push_parameters earlier s → added (onto add_parameter z l) ≡ push_parameters (earlier ++ l) s
fold_parameters [] earlier z s h = h ∙ ap (λ k. push_parameters k s) (sym (append-nil earlier))
fold_parameters (x ∷ l) earlier z s h =
    fold_parameters l (earlier ++ x ∷ []) (add_parameter z x) s (ap (add (n.Parameter x.comma)) (fold_declared x.parameter z ∙ ap (push_declared x.parameter) h))
    ∙ ap (λ k. push_parameters k s) (append_assoc earlier (x ∷ []) l)

header_by : (x : Declared) (left : Span) (parameters : Parameters) (right : Span) (z : List Node)
    → added (out_parameters left parameters right (out_declared x z)) ≡ push_header (make_header x left parameters right) (added z)
header_by x left (NoParameters void) right z = ap (λ s. add (n.VoidHeader left void right) (add n.NoParameters s)) (fold_declared x z)
header_by x left (Parameters' earlier last) right z =
    let w = n.NoParameters ∷ out_declared x z in
    ap (add (n.Header left right))
    (fold_declared last (onto add_parameter w earlier)
    ∙ ap (push_declared last) (fold_parameters earlier [] w (push_declared x (added z)) (ap (add n.NoParameters) (fold_declared x z))))

fold_header : (x : Header) (z : List Node) → added (out_header x z) ≡ push_header x (added z)
fold_header x z = header_by x.declared x.left x.parameters x.right z

fold_local : (x : Declaration) (first : LocalInitialiser) (a : Span) (earlier : List Local) (z : List Node) (s : Whole) → added z ≡ push_locals earlier s
    → added (out_local x first a z) ≡ push_locals (earlier ++ record { declaration = x; initialiser = first; semicolon = a } ∷ []) s
fold_local x NoValue a earlier z s h = ap (add (n.Local a)) (fold_declaration x z ∙ ap (push_declaration x) h)
fold_local x (Value equals e) a earlier z s h = ap (add (n.LocalValue equals a)) (fold_expr e (out_declaration x z) ∙ ap (push_expr e) (fold_declaration x z ∙ ap (push_declaration x) h))

fold_locals : (l earlier : List Local) (z : List Node) (s : Whole) → added z ≡ push_locals earlier s → added (onto add_local z l) ≡ push_locals (earlier ++ l) s
fold_locals [] earlier z s h = h ∙ ap (λ k. push_locals k s) (sym (append-nil earlier))
fold_locals (x ∷ l) earlier z s h =
    fold_locals l (earlier ++ x ∷ []) (add_local z x) s (fold_local x.declaration x.initialiser x.semicolon earlier z s h) ∙ ap (λ k. push_locals k s) (append_assoc earlier (x ∷ []) l)

fold_front : (x : Header) (l : List Local) (z : List Node) → added (out_front x l z) ≡ push_list NoStmts (push_locals l (push_header x (added z)))
fold_front x l z =
    fold_locals l [] (n.NoStatements ∷ (n.NoLocals ∷ out_header x z)) (push_list NoStmts (push_header x (added z))) (ap (λ s. add n.NoStatements (add n.NoLocals s)) (fold_header x z))

-- ---- items

fold_item : (x : Item) (z : List Node) → added (out_item x z) ≡ push_item x (added z)
fold_item (StructItem x) z = ap (add (n.Struct (make_front x.keyword x.tag x.left) x.right x.semicolon)) (fold_members x.members [] (n.NoMembers ∷ z) (added z) refl)
fold_item (GlobalItem x) z =
    ap (add (n.Global x.semicolon)) (fold_initialiser x.initialiser (out_declaration x.declaration z) ∙ ap (push_initialiser x.initialiser) (fold_declaration x.declaration z))
fold_item (PrototypeItem x) z = ap (add (n.Prototype x.semicolon)) (fold_header x.header z)
fold_item (FunctionItem x) z =
    ap (add (n.Function x.left x.right)) (fold_stmts x.body (out_front x.header x.locals z) (push_locals x.locals (push_header x.header (added z))) (fold_front x.header x.locals z))

abbrev more_items : List Item → Whole → Whole
more_items l s = whole s.parts s.open_declarations (s.items ++ l)

fold_items : (l : List Item) (z : List Node) → added (onto add_item z l) ≡ more_items l (added z)
fold_items [] z = ap (λ k. whole (added z).parts (added z).open_declarations k) (sym (append-nil (added z).items))
fold_items (x ∷ l) z =
    fold_items l (add_item z x)
    ∙ (ap (more_items l) (fold_item x z) ∙ ap (λ k. whole (added z).parts (added z).open_declarations k) (append_assoc (added z).items (x ∷ []) l))

-- ---- the loop

pub at_start : (x : Stacks) (d : Declarations) (l : List CItem) → x ≡ no_stacks → d ≡ no_declarations → l ≡ [] → whole x d (items_in l) ≡ added (newest [])
at_start x d l h g e =
    ap (λ y. whole y d (items_in l)) h
    ∙ (ap (λ y. whole no_stacks y (items_in l)) g ∙ (ap (λ y. whole no_stacks no_declarations (items_in y)) e ∙ ap added (sym newest-nil)))

pub next_added : (l : List Node) (i : ℕ) (d : Node) (x y : Whole) → i < length l → x ≡ added (newest (take i l)) → y ≡ add (get_or l i d) x → y ≡ added (newest (take (i + 1) l))
next_added l i d x y h e g = g ∙ (ap (add (get_or l i d)) e ∙ ap added (sym (ap newest (take_more l i d h) ∙ newest-push (take i l) (get_or l i d))))

pub built : (l : List Node) (i : ℕ) (x : Whole) (items : List Item) → length l ≤ i → x ≡ added (newest (take i l)) → newest l ≡ out_items items → x.items ≡ items
built l i x items h e g = ap (λ y. y.items) (e ∙ (ap (λ y. added (newest y)) (take_all i l h) ∙ (ap added g ∙ fold_items items [])))
