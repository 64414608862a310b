-- A well-typed program none of whose names is wrong has the names that a compiler wants.
use Rattle.std.proofs.Common.{◌≡◌, ℕ, zero, suc, ◌+◌, ◌<◌, ◌⊎◌, Bool, true, false, not, IsTrue, ◌&&◌, ◌||◌, List, [], ◌∷◌, ◌++◌, length, map, Option, Some, None, refl, sym, ap, ap₂, subst, ◌∙◌, inl, inr, arith, append_assoc, append-nil, length-append, eq-eqb}
use Rattle.std.specs.Prelude.{slice_get, nat_eq, if◌then◌else◌}
use Rattle.std.specs.List.{flat_map}
use Rattle.std.proofs.lemmas.Bool.{false≢true, or_cases, eqb-true}
use Rattle.std.proofs.lemmas.Option.{none-some, same_Some}
use Rattle.clight_source.specs.declared.tree.Specifiers.{Specifiers}
use Rattle.clight_source.specs.declared.tree.Specifiers.TheVariants as w
use Rattle.clight_source.specs.Trees as s
use Rattle.c_types.specs.Types.{StructType}
use Rattle.clight_names.specs.declared.occurrences.Role.{Role}
use Rattle.clight_names.specs.declared.occurrences.Role.TheVariants as r
use Rattle.clight_names.specs.declared.occurrences.Occurrence.{Occurrence}
use Rattle.clight_names.specs.declared.regions.Region.TheVariants.{Tags, WholeFile}
use Rattle.clight_names.specs.Regions.{has_name, declares, declares_more, defines, is_declared}
use Rattle.clight_names.specs.Occurrences.{occurs, words_names, declared_names, local_declared, earlier_parameter_names, parameters_names, header_names, first_value_names, local_names, function_names, item_names, names_from, member_names, struct_names, is_starred, is_plain, stmts_names}
use Rattle.clight_names.specs.Spellings.{main_name}
use Rattle.clight_names.specs.NameFaults.{first_wrong, is_same}
use Rattle.clight_syntax.specs.TypedTrees.{Function, Item, FunctionItem, Local}
use Rattle.clight_types.specs.Scopes.{Meaning}
use Rattle.clight_types.specs.Declarations.{struct_number, struct_type, parameters_of}
use Rattle.clight_typing.specs.Sources.{function_source, item_source, local_source}
use Rattle.clight_typing.specs.Functions.{File, function_number}
use Rattle.clight_typing.specs.Programs.{after_struct, after_global, after_prototype, after_function, AreItems, over, a_struct, a_global, a_prototype, a_function, definitions}
use Rattle.checked_programs.specs.Named.{IsKnownTag, AreKnownTags, locals_declared, AreNamed}
use Rattle.checked_programs.proofs.NameRules.{IsRight, right_at, has_append, has_front, has_back, has_only_front, AreInner, inner_append, inner_words, inner_stmts, inner_declared, inner_parameters, inner_locals, inner_members, inner_no_tags, inner_no_definitions}

-- ---- numbers

eq_itself : (n : ℕ) → nat_eq n n ≡ true
eq_itself n = eq-eqb n n refl

-- ---- tags

-- a tag that was declared is that of a struct with a number below this one
abbrev pub TagsAreKnown : List Occurrence → List StructType → ℕ → Type 0
TagsAreKnown occ structs n = (tag : ℕ) → IsTrue (is_declared Tags occ tag) → struct_number structs tag < n

tags_inner : (occ xs : List Occurrence) (structs : List StructType) (n : ℕ) → AreInner xs → TagsAreKnown occ structs n → TagsAreKnown (occ ++ xs) structs n
tags_inner occ xs structs n inner known tag is = known tag (has_only_front (declares Tags) occ xs tag (inner_no_tags xs inner tag) is)

not_true : (b : Bool) → not b ≡ false → IsTrue b
not_true true e = refl
not_true false e = absurd (false≢true (sym e))

first_false : (a b : Bool) → (a || b) ≡ false → a ≡ false
first_false true b e = absurd (false≢true (sym e))
first_false false b e = refl

both_false : (a b : Bool) → (a && b) ≡ false → IsTrue a → b ≡ false
both_false true b e i = e
both_false false b e i = absurd (false≢true i)

module _ (names : List (List ℕ)) (all : List Occurrence) (right : first_wrong names all [] all ≡ None) where
  -- the words of a type at their place
  words_known : (earlier : List Occurrence) (starred : Bool) (around : Option ℕ) (words : Specifiers) (after : List Occurrence) (structs : List StructType) (n : ℕ) → all ≡ earlier ++ (words_names starred around words ++ after) → TagsAreKnown earlier structs n → IsKnownTag structs n words
  words_known earlier starred around (w.Struct a tag) after structs n split known =
      let at = right_at names all right earlier (occurs tag (r.NamesTag starred around)) after split in
      known tag.number (not_true (is_declared Tags earlier tag.number) (first_false (not (is_declared Tags earlier tag.number)) (not starred && is_same around tag.number) at.known))
  words_known earlier starred around words after structs n split known = tt

  declared_known : (earlier : List Occurrence) (role : Role) (x : s.Declared) (after : List Occurrence) (structs : List StructType) (n : ℕ) → all ≡ earlier ++ (declared_names None role x ++ after) → TagsAreKnown earlier structs n → IsKnownTag structs n x.specifiers
  declared_known earlier role x after structs n split known =
      words_known earlier (is_starred x.stars) None x.specifiers (occurs x.name role ∷ after) structs n
      (split ∙ ap (λ l. earlier ++ l) (append_assoc (words_names (is_starred x.stars) None x.specifiers) (occurs x.name role ∷ []) after)) known

  -- the declared name at its place
  name_right : (earlier : List Occurrence) (role : Role) (x : s.Declared) (after : List Occurrence) → all ≡ earlier ++ (declared_names None role x ++ after)
      → IsRight names all (earlier ++ words_names (is_starred x.stars) None x.specifiers) (occurs x.name role)
  name_right earlier role x after split =
      right_at names all right (earlier ++ words_names (is_starred x.stars) None x.specifiers) (occurs x.name role) after
      (split ∙ ap (λ l. earlier ++ l) (append_assoc (words_names (is_starred x.stars) None x.specifiers) (occurs x.name role ∷ []) after)
      ∙ sym (append_assoc earlier (words_names (is_starred x.stars) None x.specifiers) (occurs x.name role ∷ after)))

  -- ---- the tags of parameters and locals

  earlier_known : (item : ℕ) (earlier : List Occurrence) (xs : List s.EarlierParameter) (last : s.Declared) (after : List Occurrence) (structs : List StructType) (n : ℕ)
      → all ≡ earlier ++ ((flat_map (earlier_parameter_names item) xs ++ local_declared item last) ++ after) → TagsAreKnown earlier structs n → AreKnownTags structs n (parameters_of (s.Parameters' xs last))
  earlier_known item earlier [] last after structs n split known = (declared_known earlier (r.DeclaresLocal item) last after structs n split known, tt)
  earlier_known item earlier (x ∷ xs) last after structs n split known =
      let split' : all ≡ earlier ++ (local_declared item x.parameter ++ ((flat_map (earlier_parameter_names item) xs ++ local_declared item last) ++ after)) =
      split ∙ ap (λ l. earlier ++ (l ++ after)) (append_assoc (local_declared item x.parameter) (flat_map (earlier_parameter_names item) xs) (local_declared item last))
      ∙ ap (λ l. earlier ++ l) (append_assoc (local_declared item x.parameter) (flat_map (earlier_parameter_names item) xs ++ local_declared item last) after)
      in (
        declared_known earlier (r.DeclaresLocal item) x.parameter ((flat_map (earlier_parameter_names item) xs ++ local_declared item last) ++ after) structs n split' known,
        earlier_known item (earlier ++ local_declared item x.parameter) xs last after structs n
            (split' ∙ sym (append_assoc earlier (local_declared item x.parameter) ((flat_map (earlier_parameter_names item) xs ++ local_declared item last) ++ after)))
            (tags_inner earlier (local_declared item x.parameter) structs n (inner_declared None (r.DeclaresLocal item) refl x.parameter) known),
      )

  parameters_known : (item : ℕ) (earlier : List Occurrence) (x : s.Parameters) (after : List Occurrence) (structs : List StructType) (n : ℕ) → all ≡ earlier ++ (parameters_names item x ++ after) → TagsAreKnown earlier structs n → AreKnownTags structs n (parameters_of x)
  parameters_known item earlier (s.NoParameters void) after structs n split known = tt
  parameters_known item earlier (s.Parameters' xs last) after structs n split known = earlier_known item earlier xs last after structs n split known

  locals_known : (item : ℕ) (earlier : List Occurrence) (ls : List Local) (after : List Occurrence) (structs : List StructType) (n : ℕ) → all ≡ earlier ++ (flat_map (local_names item) (map local_source ls) ++ after) → TagsAreKnown earlier structs n → AreKnownTags structs n (locals_declared ls)
  locals_known item earlier [] after structs n split known = tt
  locals_known item earlier (x ∷ ls) after structs n split known =
      let split' : all ≡ earlier ++ (local_names item (local_source x) ++ (flat_map (local_names item) (map local_source ls) ++ after)) =
      split ∙ ap (λ l. earlier ++ l) (append_assoc (local_names item (local_source x)) (flat_map (local_names item) (map local_source ls)) after)
      in (
        declared_known earlier (r.DeclaresLocal item) x.declaration.declared (first_value_names item (local_source x).initialiser ++ (flat_map (local_names item) (map local_source ls) ++ after)) structs n
            (split' ∙ ap (λ l. earlier ++ l) (append_assoc (local_declared item x.declaration.declared) (first_value_names item (local_source x).initialiser) (flat_map (local_names item) (map local_source ls) ++ after))) known,
        locals_known item (earlier ++ local_names item (local_source x)) ls after structs n
            (split' ∙ sym (append_assoc earlier (local_names item (local_source x)) (flat_map (local_names item) (map local_source ls) ++ after)))
            (tags_inner earlier (local_names item (local_source x)) structs n (inner_locals_one (local_source x)) known),
      )
    where
      inner_locals_one : (y : s.Local) → AreInner (local_names item y)
      inner_locals_one y = subst AreInner (append-nil (local_names item y)) (inner_locals item (y ∷ []))

-- ---- the functions that are defined

no_definition_in : (role : Role) (x : s.Declared) → defines (occurs x.name role) ≡ false → (name : ℕ) → has_name defines (declared_names None role x) name ≡ false
no_definition_in role x none name =
    has_append defines (words_names (is_starred x.stars) None x.specifiers) (occurs x.name role ∷ []) name
    ∙ ap₂ (λ a b. a || b) (inner_no_definitions (words_names (is_starred x.stars) None x.specifiers) (inner_words (is_starred x.stars) None x.specifiers) name) (one (nat_eq x.name.number name) (defines (occurs x.name role)) none)
  where
    one : (a b : Bool) → b ≡ false → ((a && b) || false) ≡ false
    one true b e = ap (λ t. t || false) e
    one false b e = refl

-- a name that is defined is among the definitions
pub defined_listed : (i : ℕ) (items : List s.Item) (name : ℕ) → IsTrue (has_name defines (names_from i items) name) → (k : ℕ) × (slice_get (definitions items) k ≡ Some name)
defined_listed i [] name is = absurd (false≢true is)
defined_listed i (x ∷ items) name is = by (or_cases (has_name defines (item_names i x) name) (has_name defines (names_from (suc i) items) name) (sym (has_append defines (item_names i x) (names_from (suc i) items) name) ∙ is)) (defined_listed (suc i) items name)
  where
    none_then : (xs ys : List Occurrence) → has_name defines xs name ≡ false → AreInner ys → IsTrue (has_name defines (xs ++ ys) name) → ⊥
    none_then xs ys none inner t = false≢true (sym none ∙ has_only_front defines xs ys name (inner_no_definitions ys inner name) t)

    here : (f : s.Function) → IsTrue (has_name defines (declared_names None (r.DefinesFunction (is_plain f.header)) f.header.declared) name) → f.header.declared.name.number ≡ name
    here f t =
        let cases = or_cases (has_name defines (words_names (is_starred f.header.declared.stars) None f.header.declared.specifiers) name) _ (sym (has_append defines (words_names (is_starred f.header.declared.stars) None f.header.declared.specifiers) (occurs f.header.declared.name (r.DefinesFunction (is_plain f.header)) ∷ []) name) ∙ t) in
        last cases
      where
        last : IsTrue (has_name defines (words_names (is_starred f.header.declared.stars) None f.header.declared.specifiers) name) ⊎ IsTrue (has_name defines (occurs f.header.declared.name (r.DefinesFunction (is_plain f.header)) ∷ []) name) → f.header.declared.name.number ≡ name
        last (inl e) = absurd (false≢true (sym (inner_no_definitions (words_names (is_starred f.header.declared.stars) None f.header.declared.specifiers) (inner_words (is_starred f.header.declared.stars) None f.header.declared.specifiers) name) ∙ e))
        last (inr e) = eqb-true f.header.declared.name.number name (only (nat_eq f.header.declared.name.number name) e)
          where
            only : (a : Bool) → IsTrue ((a && true) || false) → IsTrue a
            only true e = refl
            only false e = e

    of_item : (x : s.Item) → IsTrue (has_name defines (item_names i x) name) → (k : ℕ) × (slice_get (definitions (x ∷ items)) k ≡ Some name)
    of_item (s.StructItem y) t =
        absurd (none_then (occurs y.tag r.DefinesTag ∷ []) (flat_map (member_names i y.tag.number) y.members) (one (nat_eq y.tag.number name)) (inner_members i y.tag.number y.members) t)
      where
        one : (a : Bool) → ((a && false) || false) ≡ false
        one true = refl
        one false = refl
    of_item (s.GlobalItem y) t = absurd (false≢true (sym (no_definition_in r.DeclaresGlobal y.declaration.declared refl name) ∙ t))
    of_item (s.PrototypeItem y) t =
        absurd (none_then (declared_names None (r.DeclaresPrototype (is_plain y.header)) y.header.declared) (parameters_names i y.header.parameters)
        (no_definition_in (r.DeclaresPrototype (is_plain y.header)) y.header.declared refl name) (inner_parameters i y.header.parameters) t)
    of_item (s.FunctionItem y) t =
        let header = has_only_front defines (header_names i (r.DefinesFunction (is_plain y.header)) y.header) (flat_map (local_names i) y.locals ++ stmts_names i y.body) name
        (inner_no_definitions (flat_map (local_names i) y.locals ++ stmts_names i y.body) (inner_append (flat_map (local_names i) y.locals) (stmts_names i y.body) (inner_locals i y.locals) (inner_stmts i y.body)) name) t
        in
        let declared = has_only_front defines (declared_names None (r.DefinesFunction (is_plain y.header)) y.header.declared) (parameters_names i y.header.parameters) name (inner_no_definitions (parameters_names i y.header.parameters) (inner_parameters i y.header.parameters) name) header in
        (0, ap Some (here y declared))

    later : (x : s.Item) → (k : ℕ) × (slice_get (definitions items) k ≡ Some name) → (k : ℕ) × (slice_get (definitions (x ∷ items)) k ≡ Some name)
    later (s.StructItem y) found = found
    later (s.GlobalItem y) found = found
    later (s.PrototypeItem y) found = found
    later (s.FunctionItem y) found = (suc found.0, found.1)

    by : IsTrue (has_name defines (item_names i x) name) ⊎ IsTrue (has_name defines (names_from (suc i) items) name) → (IsTrue (has_name defines (names_from (suc i) items) name) → (k : ℕ) × (slice_get (definitions items) k ≡ Some name)) → (k : ℕ) × (slice_get (definitions (x ∷ items)) k ≡ Some name)
    by (inl t) rest = of_item x t
    by (inr t) rest = later x (rest t)

-- the number of a name that is listed is a place of it
pub number_of_listed : (ds : List ℕ) (k name : ℕ) → slice_get ds k ≡ Some name → slice_get ds (function_number ds name) ≡ Some name
number_of_listed [] k name is = absurd (none-some name is)
number_of_listed (d ∷ ds) k name is = by (nat_eq d name) refl k is (number_of_listed ds)
  where
    by : (b : Bool) → nat_eq d name ≡ b → (k : ℕ) → slice_get (d ∷ ds) k ≡ Some name → ((k name : ℕ) → slice_get ds k ≡ Some name → slice_get ds (function_number ds name) ≡ Some name) → slice_get (d ∷ ds) (if b then 0 else suc (function_number ds name)) ≡ Some name
    by true e k is rest = ap Some (eqb-true d name e)
    by false e zero is rest = absurd (false≢true (sym e ∙ same_is (same_Some _ _ is)))
      where
        same_is : d ≡ name → nat_eq d name ≡ true
        same_is same = let at : (n : ℕ) → nat_eq n n ≡ true = λ n. eq_itself n in subst (λ n. nat_eq d n ≡ true) same (at d)
    by false e (suc k) is rest = rest k name is

-- the first place of a name is its number
number_at : (ds : List ℕ) (name : ℕ) (rest : List ℕ) → ((k : ℕ) → slice_get ds k ≡ Some name → ⊥) → function_number (ds ++ name ∷ rest) name ≡ length ds
number_at [] name rest none = ap (λ (b : Bool). if b then 0 else suc (function_number rest name)) (eq_itself name)
number_at (d ∷ ds) name rest none = by (nat_eq d name) refl (number_at ds name rest (λ k is. none (suc k) is))
  where
    by : (b : Bool) → nat_eq d name ≡ b → function_number (ds ++ name ∷ rest) name ≡ length ds → (if b then 0 else suc (function_number (ds ++ name ∷ rest) name)) ≡ suc (length ds)
    by true e later = absurd (none 0 (ap Some (eqb-true d name e)))
    by false e later = ap suc later

-- ---- the walk

-- what is known of the names of the items so far, which define these functions
pub record AreTold (file : File) (occ : List Occurrence) (ds : List ℕ) : Type 0 where
  pub tags : TagsAreKnown occ file.structs (length file.structs)
  pub names : (name : ℕ) (m : Meaning) → file.names name ≡ Some m → IsTrue (is_declared WholeFile occ name)
  pub functions : (k name : ℕ) → slice_get ds k ≡ Some name → IsTrue (has_name (declares_more WholeFile) occ name)

pub record NamesWalked (file : File) (items : List Item) (fs : List (Function (Unit {0}))) (defined : List ℕ) (all_functions : List (Function (Unit {0}))) (main : ℕ) : Type 0 where
  pub named : AreNamed file items fs
  pub count : length defined ≡ length all_functions
  pub plain : (k : ℕ) (f : Function (Unit {0})) → slice_get fs k ≡ Some f → f.header.declared.name.number ≡ main → IsTrue (is_plain f.header)

number_stays : (structs more : List StructType) (tag : ℕ) → struct_number structs tag < length structs → struct_number (structs ++ more) tag ≡ struct_number structs tag
number_stays [] more tag lt = absurd (omega arith)
number_stays (x ∷ structs) more tag lt = by (nat_eq x.tag tag) lt (number_stays structs more tag)
  where
    by : (b : Bool) → (if b then 0 else 1 + struct_number structs tag) < suc (length structs) → (struct_number structs tag < length structs → struct_number (structs ++ more) tag ≡ struct_number structs tag)
        → (if b then 0 else 1 + struct_number (structs ++ more) tag) ≡ (if b then 0 else 1 + struct_number structs tag)
    by true lt later = refl
    by false lt later = ap (λ n. 1 + n) (later (omega arith))

number_found : (structs : List StructType) (x : StructType) → struct_number (structs ++ x ∷ []) x.tag < suc (length structs)
number_found [] x = let e : struct_number (x ∷ []) x.tag ≡ 0 = ap (λ (b : Bool). if b then 0 else 1 + 0) (eq_itself x.tag) in omega arith
number_found (y ∷ structs) x = by (nat_eq y.tag x.tag) (number_found structs x)
  where
    by : (b : Bool) → struct_number (structs ++ x ∷ []) x.tag < suc (length structs) → (if b then 0 else 1 + struct_number (structs ++ x ∷ []) x.tag) < suc (suc (length structs))
    by true lt = omega arith
    by false lt = omega arith

-- the declared name is among its own
declares_itself : (counts : Occurrence → Bool) (role : Role) (x : s.Declared) → IsTrue (counts (occurs x.name role)) → IsTrue (has_name counts (declared_names None role x) x.name.number)
declares_itself counts role x is = has_back counts (words_names (is_starred x.stars) None x.specifiers) (occurs x.name role ∷ []) x.name.number (one (nat_eq x.name.number x.name.number) (counts (occurs x.name role)) (eq_itself x.name.number) is)
  where
    one : (a b : Bool) → IsTrue a → IsTrue b → IsTrue ((a && b) || false)
    one true true i j = refl
    one true false i j = absurd (false≢true j)
    one false b i j = absurd (false≢true i)

no_tag_in : (role : Role) (x : s.Declared) → declares Tags (occurs x.name role) ≡ false → (name : ℕ) → is_declared Tags (declared_names None role x) name ≡ false
no_tag_in role x none name =
    has_append (declares Tags) (words_names (is_starred x.stars) None x.specifiers) (occurs x.name role ∷ []) name
    ∙ ap₂ (λ a b. a || b) (inner_no_tags (words_names (is_starred x.stars) None x.specifiers) (inner_words (is_starred x.stars) None x.specifiers) name) (one (nat_eq x.name.number name) (declares Tags (occurs x.name role)) none)
  where
    one : (a b : Bool) → b ≡ false → ((a && b) || false) ≡ false
    one true b e = ap (λ t. t || false) e
    one false b e = refl

-- a name in the file's scope is new
new_name : (file : File) (occ words : List Occurrence) (name : ℕ) → ((name : ℕ) (m : Meaning) → file.names name ≡ Some m → IsTrue (is_declared WholeFile occ name)) → has_name (declares WholeFile) (occ ++ words) name ≡ false → file.names name ≡ None
new_name file occ words name told none = by (file.names name) refl
  where
    by : (m : Option Meaning) → file.names name ≡ m → m ≡ None
    by None e = refl
    by (Some m) e = absurd (false≢true (sym none ∙ has_front (declares WholeFile) occ words name (told name m e)))

-- one more declaration in the file's scope, and names that declare nothing for others
told_more : (file later : File) (occ : List Occurrence) (ds : List ℕ) (role : Role) (x : s.Declared) (inner : List Occurrence) (meaning : Meaning) → AreTold file occ ds → later.structs ≡ file.structs
    → ((name : ℕ) → later.names name ≡ (if nat_eq x.name.number name then Some meaning else file.names name)) → IsTrue (declares WholeFile (occurs x.name role)) → declares Tags (occurs x.name role) ≡ false → AreInner inner
    → AreTold later (occ ++ (declared_names None role x ++ inner)) ds
told_more file later occ ds role x inner meaning told structs names file_name no_tag are = record {
  tags = λ tag is.
      let before = has_only_front (declares Tags) occ (declared_names None role x ++ inner) tag
      (has_append (declares Tags) (declared_names None role x) inner tag ∙ ap₂ (λ a b. a || b) (no_tag_in role x no_tag tag) (inner_no_tags inner are tag)) is
      in
      subst (λ l. struct_number l tag < length l) (sym structs) (told.tags tag before);
  names = λ name m e. of_name name m (nat_eq x.name.number name) refl (sym (names name) ∙ e);
  functions = λ k name is. has_front (declares_more WholeFile) occ (declared_names None role x ++ inner) name (told.functions k name is);
}
  where
    of_name : (name : ℕ) (m : Meaning) (b : Bool) → nat_eq x.name.number name ≡ b → (if b then Some meaning else file.names name) ≡ Some m → IsTrue (is_declared WholeFile (occ ++ (declared_names None role x ++ inner)) name)
    of_name name m true same e =
        let itself = has_front (declares WholeFile) (declared_names None role x) inner x.name.number (declares_itself (declares WholeFile) role x file_name) in
        has_back (declares WholeFile) occ (declared_names None role x ++ inner) name (subst (λ n. IsTrue (is_declared WholeFile (declared_names None role x ++ inner) n)) (eqb-true x.name.number name same) itself)
    of_name name m false same e = has_front (declares WholeFile) occ (declared_names None role x ++ inner) name (told.names name m e)

-- a function by its number, as a source item
abbrev source_in : Option (Function (Unit {0})) → List s.Item
source_in (Some f) = s.FunctionItem (function_source f) ∷ []
source_in None = []

get_behind : {A : Type 0} (xs : List A) (x : A) (ys : List A) → slice_get (xs ++ x ∷ ys) (length xs) ≡ Some x
get_behind [] x ys = refl
get_behind (y ∷ xs) x ys = get_behind xs x ys

get_one_more : {A : Type 0} (xs : List A) (x : A) (k : ℕ) (y : A) → slice_get (xs ++ x ∷ []) k ≡ Some y → (slice_get xs k ≡ Some y) ⊎ (x ≡ y)
get_one_more [] x zero y is = inr (same_Some _ _ is)
get_one_more [] x (suc k) y is = absurd (none-some y is)
get_one_more (z ∷ xs) x zero y is = inl is
get_one_more (z ∷ xs) x (suc k) y is = get_one_more xs x k y is

module _ (names : List (List ℕ)) (all : List Occurrence) (right : first_wrong names all [] all ≡ None) (functions : List (Function (Unit {0}))) (defined : List ℕ)
    (listed : (name : ℕ) → IsTrue (has_name defines all name) → slice_get defined (function_number defined name) ≡ Some name) where
  pub walk_names : (file : File) (items : List Item) (fs : List (Function (Unit {0}))) (end : File) → AreItems file items fs end → file.definitions ≡ defined
      → (i : ℕ) (occ : List Occurrence) → all ≡ occ ++ names_from i (flat_map (item_source functions) items)
      → (ds : List ℕ) → defined ≡ ds ++ definitions (flat_map (item_source functions) items) → length ds ≡ file.functions
      → (before : List (Function (Unit {0}))) → functions ≡ before ++ fs → length before ≡ file.functions
      → AreTold file occ ds → NamesWalked file items fs defined functions (main_name names)
  walk_names file _ _ _ over same i occ split ds listed_are ds_many before fs_are many told =
      let all_ds : length defined ≡ length ds = ap length (listed_are ∙ append-nil ds) in
      let all_fs : length functions ≡ length before = ap length (fs_are ∙ append-nil before) in
      record { named = tt; count = omega arith; plain = λ k f is e. absurd (none-some f is) }
  walk_names file _ fs end (a_struct {x = x} {items = items} is rest) same i occ split ds listed_are ds_many before fs_are many told =
      let w = walk_names (after_struct file x) items fs end rest same (suc i) (occ ++ struct_names i x) (split ∙ sym (append_assoc occ (struct_names i x) (names_from (suc i) (flat_map (item_source functions) items)))) ds listed_are ds_many before fs_are many (record {
        tags = λ tag is. tag_of tag (or_cases (is_declared Tags occ tag) (is_declared Tags (struct_names i x) tag) (sym (has_append (declares Tags) occ (struct_names i x) tag) ∙ is));
        names = λ name m e. has_front (declares WholeFile) occ (struct_names i x) name (told.names name m e);
        functions = λ k name e. has_front (declares_more WholeFile) occ (struct_names i x) name (told.functions k name e);
      }) in
      record { named = w.named; count = w.count; plain = w.plain }
    where
      own : (tag : ℕ) (a : Bool) → nat_eq x.tag.number tag ≡ a → IsTrue ((a && true) || is_declared Tags (flat_map (member_names i x.tag.number) x.members) tag) → x.tag.number ≡ tag
      own tag true e t = eqb-true x.tag.number tag e
      own tag false e t = absurd (false≢true (sym (inner_no_tags (flat_map (member_names i x.tag.number) x.members) (inner_members i x.tag.number x.members) tag) ∙ t))

      size : length (file.structs ++ struct_type file.structs x ∷ []) ≡ suc (length file.structs)
      size = length-append file.structs (struct_type file.structs x ∷ []) ∙ omega arith

      tag_of : (tag : ℕ) → IsTrue (is_declared Tags occ tag) ⊎ IsTrue (is_declared Tags (struct_names i x) tag) → struct_number (file.structs ++ struct_type file.structs x ∷ []) tag < length (file.structs ++ struct_type file.structs x ∷ [])
      tag_of tag (inl t) =
          let lt = told.tags tag t in
          let e = number_stays file.structs (struct_type file.structs x ∷ []) tag lt in
          let z = size in
          omega arith
      tag_of tag (inr t) =
          let e = own tag (nat_eq x.tag.number tag) refl t in
          let lt = number_found file.structs (struct_type file.structs x) in
          subst (λ n. struct_number (file.structs ++ struct_type file.structs x ∷ []) n < length (file.structs ++ struct_type file.structs x ∷ [])) e (let z = size in omega arith)
  walk_names file _ fs end (a_global {x = x} {items = items} is rest) same i occ split ds listed_are ds_many before fs_are many told =
      let d = x.declaration.declared in
      let more = names_from (suc i) (flat_map (item_source functions) items) in
      let at = name_right names all right occ r.DeclaresGlobal x.declaration.declared (names_from (suc i) (flat_map (item_source functions) items)) split in
      let new = new_name file occ (words_names (is_starred x.declaration.declared.stars) None x.declaration.declared.specifiers) x.declaration.declared.name.number told.names at.once in
      let tag = declared_known names all right occ r.DeclaresGlobal x.declaration.declared (names_from (suc i) (flat_map (item_source functions) items)) file.structs (length file.structs) split told.tags in
      let told' = told_more file (after_global file x) occ ds r.DeclaresGlobal x.declaration.declared [] _ told refl (λ name. refl) refl refl tt in
      let w = walk_names (after_global file x) items fs end rest same (suc i) (occ ++ declared_names None r.DeclaresGlobal x.declaration.declared)
      (split ∙ sym (append_assoc occ (declared_names None r.DeclaresGlobal x.declaration.declared) (names_from (suc i) (flat_map (item_source functions) items)))) ds listed_are ds_many before fs_are many
      (subst (λ l. AreTold (after_global file x) (occ ++ l) ds) (append-nil (declared_names None r.DeclaresGlobal x.declaration.declared)) told')
      in
      record { named = (tag, new, w.named); count = w.count; plain = w.plain }
  walk_names file _ fs end (a_prototype {x = x} {items = items} is rest) same i occ split ds listed_are ds_many before fs_are many told =
      let more = names_from (suc i) (flat_map (item_source functions) items) in
      let split' : all ≡ occ ++ (declared_names None (r.DeclaresPrototype (is_plain x.header)) x.header.declared ++ (parameters_names i x.header.parameters ++ names_from (suc i) (flat_map (item_source functions) items))) =
      split ∙ ap (λ l. occ ++ l) (append_assoc (declared_names None (r.DeclaresPrototype (is_plain x.header)) x.header.declared) (parameters_names i x.header.parameters) (names_from (suc i) (flat_map (item_source functions) items)))
      in
      let at = name_right names all right occ (r.DeclaresPrototype (is_plain x.header)) x.header.declared (parameters_names i x.header.parameters ++ names_from (suc i) (flat_map (item_source functions) items)) split' in
      let new = new_name file occ (words_names (is_starred x.header.declared.stars) None x.header.declared.specifiers) x.header.declared.name.number told.names at.once in
      let there = listed x.header.declared.name.number (not_true (has_name defines all x.header.declared.name.number) at.defined) in
      let told' = told_more file (after_prototype file x.header) occ ds (r.DeclaresPrototype (is_plain x.header)) x.header.declared (parameters_names i x.header.parameters) _ told refl (λ name. refl) refl refl (inner_parameters i x.header.parameters) in
      let w = walk_names (after_prototype file x.header) items fs end rest same (suc i) (occ ++ header_names i (r.DeclaresPrototype (is_plain x.header)) x.header)
      (split ∙ sym (append_assoc occ (header_names i (r.DeclaresPrototype (is_plain x.header)) x.header) (names_from (suc i) (flat_map (item_source functions) items)))) ds listed_are ds_many before fs_are many told'
      in
      record { named = (new, subst (λ l. slice_get l (function_number l x.header.declared.name.number) ≡ Some x.header.declared.name.number) (sym same) there, w.named); count = w.count; plain = w.plain }
  walk_names file _ _ end (a_function {f = f} {items = items} {functions = fs} is rest) same i occ split ds listed_are ds_many before fs_are many told =
      let there : slice_get functions file.functions ≡ Some f = ap₂ (λ l k. slice_get l k) fs_are (sym many) ∙ get_behind before f fs in
      let source : flat_map (item_source functions) (FunctionItem file.functions ∷ items) ≡ s.FunctionItem (function_source f) ∷ flat_map (item_source functions) items = ap (λ o. source_in o ++ flat_map (item_source functions) items) there in
      let split0 : all ≡ occ ++ (function_names i (function_source f) ++ names_from (suc i) (flat_map (item_source functions) items)) = split ∙ ap (λ l. occ ++ names_from i l) source in
      let own_is : function_names i (function_source f) ≡ declared_names None (r.DefinesFunction (is_plain f.header)) f.header.declared ++ (parameters_names i f.header.parameters ++ (flat_map (local_names i) (map local_source f.locals) ++ stmts_names i (function_source f).body)) =
      append_assoc (declared_names None (r.DefinesFunction (is_plain f.header)) f.header.declared) (parameters_names i f.header.parameters) (flat_map (local_names i) (map local_source f.locals) ++ stmts_names i (function_source f).body)
      in
      let inner_is = inner_append (parameters_names i f.header.parameters) (flat_map (local_names i) (map local_source f.locals) ++ stmts_names i (function_source f).body) (inner_parameters i f.header.parameters)
      (inner_append (flat_map (local_names i) (map local_source f.locals)) (stmts_names i (function_source f).body) (inner_locals i (map local_source f.locals)) (inner_stmts i (function_source f).body))
      in
      finish there source split0 own_is inner_is (walk_names (after_function file f) items fs end rest same (suc i))
    where
      L0 : List Occurrence
      L0 = flat_map (local_names i) (map local_source f.locals)

      S0 : List Occurrence
      S0 = stmts_names i (function_source f).body

      P0 : List Occurrence
      P0 = parameters_names i f.header.parameters

      D0 : List Occurrence
      D0 = declared_names None (r.DefinesFunction (is_plain f.header)) f.header.declared

      M0 : List Occurrence
      M0 = names_from (suc i) (flat_map (item_source functions) items)

      X0 : List Occurrence
      X0 = P0 ++ (L0 ++ S0)

      name0 : ℕ
      name0 = f.header.declared.name.number

      rest0 : List ℕ
      rest0 = definitions (flat_map (item_source functions) items)

      W0 : List Occurrence
      W0 = words_names (is_starred f.header.declared.stars) None f.header.declared.specifiers

      Later : Type 0
      Later = (occ' : List Occurrence) → all ≡ occ' ++ M0 → (ds' : List ℕ) → defined ≡ ds' ++ definitions (flat_map (item_source functions) items) → length ds' ≡ suc file.functions
          → (before' : List (Function (Unit {0}))) → functions ≡ before' ++ fs → length before' ≡ suc file.functions → AreTold (after_function file f) occ' ds' → NamesWalked (after_function file f) items fs defined functions (main_name names)

      true_right : (a : Bool) → (a && true) ≡ false → a ≡ false
      true_right true e = e
      true_right false e = e

      finish : slice_get functions file.functions ≡ Some f → flat_map (item_source functions) (FunctionItem file.functions ∷ items) ≡ s.FunctionItem (function_source f) ∷ flat_map (item_source functions) items
          → all ≡ occ ++ (function_names i (function_source f) ++ M0) → function_names i (function_source f) ≡ D0 ++ X0 → AreInner X0 → Later → NamesWalked file (FunctionItem file.functions ∷ items) (f ∷ fs) defined functions (main_name names)
      finish there source split0 own_is inner_is later =
          let split1 : all ≡ occ ++ (D0 ++ (X0 ++ M0)) = split0 ∙ ap (λ l. occ ++ (l ++ M0)) own_is ∙ ap (λ l. occ ++ l) (append_assoc D0 X0 M0) in
          let at = name_right names all right occ (r.DefinesFunction (is_plain f.header)) f.header.declared (X0 ++ M0) split1 in
          let none : (k : ℕ) → slice_get ds k ≡ Some name0 → ⊥ = λ k e. false≢true (sym at.once ∙ has_front (declares_more WholeFile) occ W0 name0 (told.functions k name0 e)) in
          let dsplit : defined ≡ ds ++ name0 ∷ rest0 = listed_are ∙ ap (λ l. ds ++ definitions l) source in
          let name_at : slice_get file.definitions file.functions ≡ Some name0 = ap₂ (λ l k. slice_get l k) (same ∙ dsplit) (sym ds_many) ∙ get_behind ds name0 rest0 in
          let name_number : function_number file.definitions name0 ≡ file.functions = ap (λ l. function_number l name0) (same ∙ dsplit) ∙ number_at ds name0 rest0 none ∙ ds_many in
          let tags_d : TagsAreKnown (occ ++ D0) file.structs (length file.structs) =
          λ tag e. told.tags tag (has_only_front (declares Tags) occ D0 tag (no_tag_in (r.DefinesFunction (is_plain f.header)) f.header.declared refl tag) e)
          in
          let split2 : all ≡ (occ ++ D0) ++ (P0 ++ ((L0 ++ S0) ++ M0)) = split1 ∙ sym (append_assoc occ D0 (X0 ++ M0)) ∙ ap (λ l. (occ ++ D0) ++ l) (append_assoc P0 (L0 ++ S0) M0) in
          let tags_p : TagsAreKnown ((occ ++ D0) ++ P0) file.structs (length file.structs) = tags_inner (occ ++ D0) P0 file.structs (length file.structs) (inner_parameters i f.header.parameters) tags_d in
          let split3 : all ≡ ((occ ++ D0) ++ P0) ++ (L0 ++ (S0 ++ M0)) = split2 ∙ sym (append_assoc (occ ++ D0) P0 ((L0 ++ S0) ++ M0)) ∙ ap (λ l. ((occ ++ D0) ++ P0) ++ l) (append_assoc L0 S0 M0) in
          let parameters = parameters_known names all right i (occ ++ D0) f.header.parameters ((L0 ++ S0) ++ M0) file.structs (length file.structs) split2 tags_d in
          let locals = locals_known names all right i ((occ ++ D0) ++ P0) f.locals (S0 ++ M0) file.structs (length file.structs) split3 tags_p in
          let told' = told_more file (after_function file f) occ ds (r.DefinesFunction (is_plain f.header)) f.header.declared X0 _ told refl (λ name. refl) refl refl inner_is in
          let own : IsTrue (has_name (declares_more WholeFile) (occ ++ (D0 ++ X0)) name0) =
          has_back (declares_more WholeFile) occ (D0 ++ X0) name0 (has_front (declares_more WholeFile) D0 X0 name0 (declares_itself (declares_more WholeFile) (r.DefinesFunction (is_plain f.header)) f.header.declared refl))
          in
          let told'' : AreTold (after_function file f) (occ ++ (D0 ++ X0)) (ds ++ name0 ∷ []) = record {
            tags = told'.tags;
            names = told'.names;
            functions = λ k name e. of_place k name (get_one_more ds name0 k name e) told'.functions own;
          } in
          let ds_size = length-append ds (name0 ∷ []) in
          let fs_size = length-append before (f ∷ []) in
          let w = later (occ ++ (D0 ++ X0)) (split1 ∙ ap (λ l. occ ++ l) (sym (append_assoc D0 X0 M0)) ∙ sym (append_assoc occ (D0 ++ X0) M0)) (ds ++ name0 ∷ []) (dsplit ∙ sym (append_assoc ds (name0 ∷ []) rest0)) (omega arith)
          (before ++ f ∷ []) (fs_are ∙ sym (append_assoc before (f ∷ []) fs)) (omega arith) told''
          in
          record { named = (parameters, locals, name_at, name_number, w.named); count = w.count; plain = plain_of at.main w.plain }
        where
          of_place : (k name : ℕ) → (slice_get ds k ≡ Some name) ⊎ (name0 ≡ name) → ((k name : ℕ) → slice_get ds k ≡ Some name → IsTrue (has_name (declares_more WholeFile) (occ ++ (D0 ++ X0)) name)) → IsTrue (has_name (declares_more WholeFile) (occ ++ (D0 ++ X0)) name0)
              → IsTrue (has_name (declares_more WholeFile) (occ ++ (D0 ++ X0)) name)
          of_place k name (inl e) old own = old k name e
          of_place k name (inr e) old own = subst (λ m. IsTrue (has_name (declares_more WholeFile) (occ ++ (D0 ++ X0)) m)) e own

          plain_of : (not (is_plain f.header) && nat_eq name0 (main_name names)) ≡ false → ((k : ℕ) (g : Function (Unit {0})) → slice_get fs k ≡ Some g → g.header.declared.name.number ≡ main_name names → IsTrue (is_plain g.header))
              → (k : ℕ) (g : Function (Unit {0})) → slice_get (f ∷ fs) k ≡ Some g → g.header.declared.name.number ≡ main_name names → IsTrue (is_plain g.header)
          plain_of e rest zero g at main =
              let here : IsTrue (is_plain f.header) =
              not_true (is_plain f.header) (true_right (not (is_plain f.header)) (ap (λ t. not (is_plain f.header) && t) (sym (eq-eqb name0 (main_name names) (ap (λ (x : Function (Unit {0})). x.header.declared.name.number) (same_Some _ _ at) ∙ main))) ∙ e))
              in
              subst (λ (x : Function (Unit {0})). IsTrue (is_plain x.header)) (same_Some _ _ at) here
          plain_of e rest (suc k) g at main = rest k g at main
