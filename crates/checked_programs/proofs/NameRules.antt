-- What it gives a program that none of its names is wrong.
use Rattle.std.proofs.Common.{◌≡◌, ℕ, Bool, true, false, IsTrue, ◌&&◌, ◌||◌, List, [], ◌∷◌, ◌++◌, Option, Some, None, refl, sym, ap, ap₂, ◌∙◌, append_assoc, append-nil}
use Rattle.std.specs.Prelude.{nat_eq, if◌then◌else◌}
use Rattle.std.specs.List.{flat_map}
use Rattle.std.proofs.lemmas.Bool.{false≢true, and_right}
use Rattle.std.proofs.lemmas.Option.{none-some}
use Rattle.std.proofs.lemmas.List.Folds.{list_any-append}
use Rattle.cerco_base.specs.declared.reasons.NameKind.{NameKind}
use Rattle.cerco_base.specs.declared.reasons.NameKind.TheVariants as k
use Rattle.clight_source.specs.declared.tree.Name.{Name}
use Rattle.clight_source.specs.declared.tree.Specifiers.{Specifiers}
use Rattle.clight_source.specs.declared.tree.Specifiers.TheVariants as w
use Rattle.clight_source.specs.Trees as s
use Rattle.clight_names.specs.declared.occurrences.Role.{Role}
use Rattle.clight_names.specs.declared.occurrences.Role.TheVariants as r
use Rattle.clight_names.specs.declared.occurrences.Occurrence.{Occurrence}
use Rattle.clight_names.specs.declared.regions.Region.TheVariants.{Tags, WholeFile}
use Rattle.clight_names.specs.Regions.{has_name, declares, defines, is_declared}
use Rattle.clight_names.specs.Occurrences.{occurs, words_names, expr_names, optional_names, assignment_names, earlier_names, arguments_names, target_names, call_names, for_names, stmt_names, stmts_names, declared_names, member_names, local_declared, earlier_parameter_names, parameters_names, first_value_names, local_names, is_starred}
use Rattle.clight_names.specs.NameFaults.{NameFault, name_fault, name_kind, first_wrong, is_twice, is_unknown, is_undefined, is_wrong_main, is_reserved, is_long, spelled}

-- ---- no name is wrong

no_wrong : (names : List (List ℕ)) (all earlier before : List Occurrence) (x : Occurrence) (after : List Occurrence) → first_wrong names all earlier (before ++ x ∷ after) ≡ None → name_kind names all (earlier ++ before) x ≡ None
no_wrong names all earlier [] x after e = ap (λ l. name_kind names all l x) (append-nil earlier) ∙ by (name_kind names all earlier x) e
  where
    by : (kind : Option NameKind) → ◌≡◌ {A = Option NameFault} (elim kind [ Some kind ↦ Some (name_fault x.name.span.from kind) | None ↦ first_wrong names all (earlier ++ x ∷ []) after ]) None → kind ≡ None
    by (Some kind) e = absurd (none-some _ (sym e))
    by None e = refl
no_wrong names all earlier (y ∷ before) x after e =
    ap (λ l. name_kind names all l x) (sym (append_assoc earlier (y ∷ []) before))
    ∙ no_wrong names all (earlier ++ y ∷ []) before x after (by (name_kind names all earlier y) e)
  where
    by : (kind : Option NameKind) → ◌≡◌ {A = Option NameFault} (elim kind [ Some kind ↦ Some (name_fault y.name.span.from kind) | None ↦ first_wrong names all (earlier ++ y ∷ []) (before ++ x ∷ after) ]) None → first_wrong names all (earlier ++ y ∷ []) (before ++ x ∷ after) ≡ None
    by (Some kind) e = absurd (none-some _ (sym e))
    by None e = e

pub record IsRight (names : List (List ℕ)) (all earlier : List Occurrence) (x : Occurrence) : Type 0 where
  pub once : is_twice earlier x ≡ false
  pub known : is_unknown earlier x ≡ false
  pub defined : is_undefined all x ≡ false
  pub main : is_wrong_main names x ≡ false

first_none : {K : Type 0} (b : Bool) (x : K) (rest : Option K) → (if b then Some x else rest) ≡ None → (b ≡ false) × (rest ≡ None)
first_none true x rest e = absurd (none-some x (sym e))
first_none false x rest e = (refl, e)

kinds : (names : List (List ℕ)) (all earlier : List Occurrence) (x : Occurrence) → name_kind names all earlier x ≡ None → IsRight names all earlier x
kinds names all earlier x e =
    let one = first_none (is_reserved (spelled names x.name.number)) k.Reserved _ e in
    let two = first_none (is_long (spelled names x.name.number)) k.Long _ one.1 in
    let three = first_none (is_twice earlier x) k.Twice _ two.1 in
    let four = first_none (is_unknown earlier x) k.Unknown _ three.1 in
    let five = first_none (is_undefined all x) k.Undefined _ four.1 in
    let six = first_none (is_wrong_main names x) k.Main _ five.1 in
    record { once = three.0; known = four.0; defined = five.0; main = six.0 }

-- each name of all, of which none is wrong, is right where it stands
pub right_at : (names : List (List ℕ)) (all : List Occurrence) → first_wrong names all [] all ≡ None → (earlier : List Occurrence) (x : Occurrence) (after : List Occurrence) → all ≡ earlier ++ x ∷ after → IsRight names all earlier x
right_at names all e earlier x after split = kinds names all earlier x (no_wrong names all [] earlier x after (sym (ap (first_wrong names all []) split) ∙ e))

-- ---- names in lists

pub has_append : (counts : Occurrence → Bool) (xs ys : List Occurrence) (name : ℕ) → has_name counts (xs ++ ys) name ≡ (has_name counts xs name || has_name counts ys name)
has_append counts xs ys name = list_any-append (λ (x : Occurrence). nat_eq x.name.number name && counts x) xs ys

or_second : (a b : Bool) → IsTrue b → IsTrue (a || b)
or_second true b e = refl
or_second false b e = e

or_first : (a b : Bool) → IsTrue a → IsTrue (a || b)
or_first true b e = refl
or_first false b e = absurd (false≢true e)

or_only : (a b : Bool) → b ≡ false → IsTrue (a || b) → IsTrue a
or_only true b f e = refl
or_only false b f e = absurd (false≢true (sym f ∙ e))

pub has_front : (counts : Occurrence → Bool) (xs ys : List Occurrence) (name : ℕ) → IsTrue (has_name counts xs name) → IsTrue (has_name counts (xs ++ ys) name)
has_front counts xs ys name e = has_append counts xs ys name ∙ or_first (has_name counts xs name) (has_name counts ys name) e

pub has_back : (counts : Occurrence → Bool) (xs ys : List Occurrence) (name : ℕ) → IsTrue (has_name counts ys name) → IsTrue (has_name counts (xs ++ ys) name)
has_back counts xs ys name e = has_append counts xs ys name ∙ or_second (has_name counts xs name) (has_name counts ys name) e

pub has_only_front : (counts : Occurrence → Bool) (xs ys : List Occurrence) (name : ℕ) → has_name counts ys name ≡ false → IsTrue (has_name counts (xs ++ ys) name) → IsTrue (has_name counts xs name)
has_only_front counts xs ys name f e = or_only (has_name counts xs name) (has_name counts ys name) f (sym (has_append counts xs ys name) ∙ e)

-- ---- names that declare nothing for other items

abbrev pub is_inner : Role → Bool
is_inner r.DefinesTag = false
is_inner r.DeclaresGlobal = false
is_inner (r.DeclaresPrototype plain) = false
is_inner (r.DefinesFunction plain) = false
is_inner role = true

abbrev pub AreInner : List Occurrence → Type 0
AreInner [] = Unit {0}
AreInner (x ∷ xs) = IsTrue (is_inner x.role) × AreInner xs

pub inner_append : (xs ys : List Occurrence) → AreInner xs → AreInner ys → AreInner (xs ++ ys)
inner_append [] ys a b = b
inner_append (x ∷ xs) ys a b = (a.0, inner_append xs ys a.1 b)

inner_flat : {A : Type 0} (f : A → List Occurrence) → ((x : A) → AreInner (f x)) → (xs : List A) → AreInner (flat_map f xs)
inner_flat f all [] = tt
inner_flat f all (x ∷ xs) = inner_append (f x) (flat_map f xs) (all x) (inner_flat f all xs)

pub inner_words : (starred : Bool) (around : Option ℕ) (words : Specifiers) → AreInner (words_names starred around words)
inner_words starred around (w.Struct a tag) = (refl, tt)
inner_words starred around words = tt

inner_expr : (item : ℕ) (e : s.Expr) → AreInner (expr_names item e)
inner_expr item (s.Variable name) = (refl, tt)
inner_expr item (s.Number number span) = tt
inner_expr item (s.Parenthesis left e right) = inner_expr item e
inner_expr item (s.Binary l operator at r) = inner_append (expr_names item l) (expr_names item r) (inner_expr item l) (inner_expr item r)
inner_expr item (s.Prefix operator at e) = inner_expr item e
inner_expr item (s.Cast left words right e) = inner_append (words_names false None words) (expr_names item e) (inner_words false None words) (inner_expr item e)
inner_expr item (s.Index base left index right) = inner_append (expr_names item base) (expr_names item index) (inner_expr item base) (inner_expr item index)
inner_expr item (s.Select e operator at member) = inner_append (expr_names item e) (occurs member r.Selects ∷ []) (inner_expr item e) (refl, tt)

inner_optional : {A : Type 0} (f : A → List Occurrence) → ((x : A) → AreInner (f x)) → (x : Option A) → AreInner (optional_names f x)
inner_optional f all None = tt
inner_optional f all (Some x) = all x

inner_assignment : (item : ℕ) (x : s.Assignment) → AreInner (assignment_names item x)
inner_assignment item x = inner_append (expr_names item x.target) (expr_names item x.value) (inner_expr item x.target) (inner_expr item x.value)

inner_arguments : (item : ℕ) (x : s.Arguments) → AreInner (arguments_names item x)
inner_arguments item s.NoArguments = tt
inner_arguments item (s.Arguments' earlier last) = inner_append (flat_map (earlier_names item) earlier) (expr_names item last) (inner_flat (earlier_names item) (λ x. inner_expr item x.value) earlier) (inner_expr item last)

inner_call : (item : ℕ) (x : s.Call) → AreInner (call_names item x)
inner_call item x = inner_append (optional_names (target_names item) x.target) (occurs x.function (r.Uses item) ∷ arguments_names item x.arguments) (inner_optional (target_names item) (λ t. (refl, tt)) x.target) (refl, inner_arguments item x.arguments)

inner_for : (item : ℕ) (x : s.ForHead) → AreInner (for_names item x)
inner_for item x =
    inner_append (optional_names (assignment_names item) x.first) (optional_names (expr_names item) x.condition ++ optional_names (assignment_names item) x.step) (inner_optional (assignment_names item) (inner_assignment item) x.first)
    (inner_append (optional_names (expr_names item) x.condition) (optional_names (assignment_names item) x.step) (inner_optional (expr_names item) (inner_expr item) x.condition) (inner_optional (assignment_names item) (inner_assignment item) x.step))

mutual
  inner_stmt : (item : ℕ) (x : s.Stmt) → AreInner (stmt_names item x)
  inner_stmt item (s.Empty a) = tt
  inner_stmt item (s.Block left body right) = inner_stmts item body
  inner_stmt item (s.Assign x a) = inner_assignment item x
  inner_stmt item (s.ReadPort target equals port a) = inner_expr item target
  inner_stmt item (s.WritePort port equals value a) = inner_expr item value
  inner_stmt item (s.CallOf x a) = inner_call item x
  inner_stmt item (s.If test x) = inner_append (expr_names item test.condition) (stmt_names item x) (inner_expr item test.condition) (inner_stmt item x)
  inner_stmt item (s.IfElse test x a y) =
      inner_append (expr_names item test.condition) (stmt_names item x ++ stmt_names item y) (inner_expr item test.condition) (inner_append (stmt_names item x) (stmt_names item y) (inner_stmt item x) (inner_stmt item y))
  inner_stmt item (s.While test x) = inner_append (expr_names item test.condition) (stmt_names item x) (inner_expr item test.condition) (inner_stmt item x)
  inner_stmt item (s.Do keyword x test a) = inner_append (stmt_names item x) (expr_names item test.condition) (inner_stmt item x) (inner_expr item test.condition)
  inner_stmt item (s.For head x) = inner_append (for_names item head) (stmt_names item x) (inner_for item head) (inner_stmt item x)
  inner_stmt item (s.Break keyword a) = tt
  inner_stmt item (s.Continue keyword a) = tt
  inner_stmt item (s.Return keyword value a) = inner_optional (expr_names item) (inner_expr item) value

  pub inner_stmts : (item : ℕ) (x : s.Stmts) → AreInner (stmts_names item x)
  inner_stmts item s.NoStmts = tt
  inner_stmts item (s.Then earlier last) = inner_append (stmts_names item earlier) (stmt_names item last) (inner_stmts item earlier) (inner_stmt item last)

pub inner_declared : (around : Option ℕ) (role : Role) → IsTrue (is_inner role) → (x : s.Declared) → AreInner (declared_names around role x)
inner_declared around role is x = inner_append (words_names (is_starred x.stars) around x.specifiers) (occurs x.name role ∷ []) (inner_words (is_starred x.stars) around x.specifiers) (is, tt)

pub inner_parameters : (item : ℕ) (x : s.Parameters) → AreInner (parameters_names item x)
inner_parameters item (s.NoParameters void) = tt
inner_parameters item (s.Parameters' earlier last) =
    inner_append (flat_map (earlier_parameter_names item) earlier) (local_declared item last) (inner_flat (earlier_parameter_names item) (λ x. inner_declared None (r.DeclaresLocal item) refl x.parameter) earlier)
    (inner_declared None (r.DeclaresLocal item) refl last)

pub inner_local : (item : ℕ) (x : s.Local) → AreInner (local_names item x)
inner_local item x = inner_append (local_declared item x.declaration.declared) (first_value_names item x.initialiser) (inner_declared None (r.DeclaresLocal item) refl x.declaration.declared) (inner_value x.initialiser)
  where
    inner_value : (v : s.LocalInitialiser) → AreInner (first_value_names item v)
    inner_value s.NoValue = tt
    inner_value (s.Value equals e) = inner_expr item e

pub inner_locals : (item : ℕ) (ls : List s.Local) → AreInner (flat_map (local_names item) ls)
inner_locals item ls = inner_flat (local_names item) (inner_local item) ls

pub inner_members : (item tag : ℕ) (ms : List s.Member) → AreInner (flat_map (member_names item tag) ms)
inner_members item tag ms = inner_flat (member_names item tag) (λ x. inner_declared (Some tag) (r.DeclaresMember item) refl x.declaration.declared) ms

-- what inner names don't do
none_inner : (counts : Occurrence → Bool) → ((x : Occurrence) → IsTrue (is_inner x.role) → counts x ≡ false) → (xs : List Occurrence) → AreInner xs → (name : ℕ) → has_name counts xs name ≡ false
none_inner counts none [] are name = refl
none_inner counts none (x ∷ xs) are name =
    ap₂ (λ a b. a || b) (and_right (nat_eq x.name.number name) (counts x) (none x are.0)) (none_inner counts none xs are.1 name)

no_tag : (role : Role) → IsTrue (is_inner role) → (name : Name) → declares Tags (record { name = name; role = role }) ≡ false
no_tag r.DefinesTag is name = absurd (false≢true is)
no_tag r.DeclaresGlobal is name = refl
no_tag (r.DeclaresPrototype plain) is name = refl
no_tag (r.DefinesFunction plain) is name = refl
no_tag (r.DeclaresMember item) is name = refl
no_tag (r.DeclaresLocal item) is name = refl
no_tag (r.NamesTag starred around) is name = refl
no_tag (r.Uses item) is name = refl
no_tag r.Selects is name = refl

no_file_name : (role : Role) → IsTrue (is_inner role) → (name : Name) → declares WholeFile (record { name = name; role = role }) ≡ false
no_file_name r.DefinesTag is name = refl
no_file_name r.DeclaresGlobal is name = absurd (false≢true is)
no_file_name (r.DeclaresPrototype plain) is name = absurd (false≢true is)
no_file_name (r.DefinesFunction plain) is name = absurd (false≢true is)
no_file_name (r.DeclaresMember item) is name = refl
no_file_name (r.DeclaresLocal item) is name = refl
no_file_name (r.NamesTag starred around) is name = refl
no_file_name (r.Uses item) is name = refl
no_file_name r.Selects is name = refl

no_definition : (role : Role) → IsTrue (is_inner role) → (name : Name) → defines (record { name = name; role = role }) ≡ false
no_definition r.DefinesTag is name = refl
no_definition r.DeclaresGlobal is name = refl
no_definition (r.DeclaresPrototype plain) is name = refl
no_definition (r.DefinesFunction plain) is name = absurd (false≢true is)
no_definition (r.DeclaresMember item) is name = refl
no_definition (r.DeclaresLocal item) is name = refl
no_definition (r.NamesTag starred around) is name = refl
no_definition (r.Uses item) is name = refl
no_definition r.Selects is name = refl

pub inner_no_tags : (xs : List Occurrence) → AreInner xs → (name : ℕ) → is_declared Tags xs name ≡ false
inner_no_tags xs are name = none_inner (declares Tags) (λ x is. no_tag x.role is x.name) xs are name

pub inner_no_names : (xs : List Occurrence) → AreInner xs → (name : ℕ) → is_declared WholeFile xs name ≡ false
inner_no_names xs are name = none_inner (declares WholeFile) (λ x is. no_file_name x.role is x.name) xs are name

pub inner_no_definitions : (xs : List Occurrence) → AreInner xs → (name : ℕ) → has_name defines xs name ≡ false
inner_no_definitions xs are name = none_inner defines (λ x is. no_definition x.role is x.name) xs are name
