-- How far types and structs nest, and the bytes of arrays and structs part by part.
use Rattle.std.proofs.Common.{◌≡◌, ℕ, zero, suc, ◌+◌, ◌<◌, List, [], ◌∷◌, ◌++◌, length, drop, map, get_or, Option, Some, None, sym, ap, ◌∙◌, lit<, arith, append_assoc}
use Rattle.std.proofs.lemmas.List.{append-nil, map-append}
use Rattle.std.specs.Prelude.{slice_get, option_map, option_copied}
use Rattle.std.specs.Borrow.{Bor}
use Rattle.std.proofs.lemmas.Option.{slice_get-map}
use Rattle.c_types.specs.Types.{CType, Void, Integer, Pointer, Array, Struct, Member, StructType, type_of, struct_type_of, member_of}
use Rattle.c_types.specs.declared.structs.StructType.{StructType as HeldStruct}
use Rattle.c_types.specs.declared.structs.MemberType.{MemberType}
use Rattle.c_types.specs.declared.types.Ty.{Ty}
use Rattle.c_types.specs.declared.types.Ty.TheVariants as t
use Rattle.clight_values.specs.Memory.{Cell, Kinds, repeated, kinds_by, kinds_of_members, kinds_of_struct, nested_kinds, unset}
use Rattle.clight_values.specs.Code.Views.{structs_held}
use Rattle.clight_values.proofs.Walks.{opened}

-- how often a walk goes further down in a type, where it does so this often in a struct
abbrev pub type_steps : (ℕ → ℕ) → CType → ℕ
type_steps struct Void = 0
type_steps struct (Integer size signed) = 0
type_steps struct (Pointer target) = 0
type_steps struct (Array element n) = suc (type_steps struct element)
type_steps struct (Struct number) = suc (struct number)

abbrev pub members_steps : (ℕ → ℕ) → List Member → ℕ
members_steps struct [] = 1
members_steps struct (m ∷ ms) = type_steps struct m.type + members_steps struct ms

abbrev pub struct_steps : (ℕ → ℕ) → Option StructType → ℕ
struct_steps struct None = 0
struct_steps struct (Some s) = members_steps struct s.members

abbrev pub nested_steps : List StructType → ℕ → ℕ → ℕ
nested_steps structs zero number = 0
nested_steps structs (suc depth) number = struct_steps (nested_steps structs depth) (slice_get structs number)

some_steps : (f : ℕ → ℕ) (ms : List Member) → 0 < members_steps f ms
some_steps f [] = lit< tt
some_steps f (m ∷ ms) = let h = some_steps f ms in omega arith

pub member_steps : (f : ℕ → ℕ) (ms : List MemberType) (i : ℕ) (m : MemberType) → i < length ms → m ≡ get_or ms i m → type_steps f (type_of m.ty) < members_steps f (map member_of ms)
member_steps f [] i m lt is = absurd (omega arith)
member_steps f (x ∷ xs) zero m lt is = let h = some_steps f (map member_of xs) in let e = ap (λ (y : MemberType). type_steps f (type_of y.ty)) is in omega arith
member_steps f (x ∷ xs) (suc i) m lt is = let h = member_steps f xs i m (omega arith) is in omega arith

-- the members of a struct that is found
pub found_steps : (structs : List HeldStruct) (number depth : ℕ) (s : Bor HeldStruct) → option_copied (Some s) ≡ slice_get structs number
    → nested_steps (structs_held structs) (suc depth) number ≡ members_steps (nested_steps (structs_held structs) depth) (map member_of s.now.members.items)
found_steps structs number depth s e =
    ap (struct_steps (nested_steps (structs_held structs) depth)) (slice_get-map struct_type_of structs number ∙ ap (option_map struct_type_of) (sym e))

pub found_kinds : (structs : List HeldStruct) (number depth : ℕ) (s : Bor HeldStruct) → option_copied (Some s) ≡ slice_get structs number
    → nested_kinds (structs_held structs) (suc depth) number ≡ kinds_of_members (nested_kinds (structs_held structs) depth) (map member_of s.now.members.items)
found_kinds structs number depth s e =
    ap (kinds_of_struct (nested_kinds (structs_held structs) depth)) (slice_get-map struct_type_of structs number ∙ ap (option_map struct_type_of) (sym e))

pub missing_kinds : (structs : List HeldStruct) (number depth : ℕ) (o : Option (Bor HeldStruct)) → o ≡ None → option_copied o ≡ slice_get structs number
    → nested_kinds (structs_held structs) (suc depth) number ≡ []
missing_kinds structs number depth o none e =
    ap (kinds_of_struct (nested_kinds (structs_held structs) depth)) (slice_get-map struct_type_of structs number ∙ ap (option_map struct_type_of) (sym e ∙ ap option_copied none))

-- one more of an array's elements
pub repeated_last : {A : Type 0} (n : ℕ) (xs : List A) → repeated n xs ++ xs ≡ repeated (suc n) xs
repeated_last zero xs = sym (append-nil xs)
repeated_last (suc n) xs = append_assoc xs (repeated n xs) xs ∙ ap (λ ys. xs ++ ys) (repeated_last n xs)

pub element_added : (n : ℕ) (kinds : Kinds) (old cells new : List Cell) → cells ≡ old ++ map unset (repeated n kinds) → new ≡ cells ++ map unset kinds → new ≡ old ++ map unset (repeated (n + 1) kinds)
element_added n kinds old cells new h e =
    let more : n + 1 ≡ suc n = omega arith in
    e ∙ ap (λ cs. cs ++ map unset kinds) h ∙ append_assoc old (map unset (repeated n kinds)) (map unset kinds)
    ∙ ap (λ cs. old ++ cs) (sym (map-append unset (repeated n kinds) kinds) ∙ ap (map unset) (repeated_last n kinds ∙ ap (λ m. repeated m kinds) (sym more)))

-- one more of a struct's members
pub member_added : (f : ℕ → Kinds) (ms : List MemberType) (i : ℕ) (m : MemberType) (all cells new : List Cell) → i < length ms → m ≡ get_or ms i m
    → all ≡ cells ++ map unset (kinds_of_members f (map member_of (drop i ms))) → new ≡ cells ++ map unset (kinds_by f (type_of m.ty))
    → all ≡ new ++ map unset (kinds_of_members f (map member_of (drop (i + 1) ms)))
member_added f ms i m all cells new lt is h e =
    h ∙ ap (λ xs. cells ++ map unset (kinds_of_members f (map member_of xs))) (opened ms i m lt is)
    ∙ ap (λ cs. cells ++ cs) (map-append unset (kinds_by f (type_of m.ty)) (kinds_of_members f (map member_of (drop (i + 1) ms))))
    ∙ sym (append_assoc cells (map unset (kinds_by f (type_of m.ty))) (map unset (kinds_of_members f (map member_of (drop (i + 1) ms)))))
    ∙ ap (λ cs. cs ++ map unset (kinds_of_members f (map member_of (drop (i + 1) ms)))) (sym e)

module _ (structs : List HeldStruct) (ty : Ty) (number depth less : ℕ) (is : ty ≡ t.Struct number) (deep : depth ≡ suc less) where
  type_is : kinds_by (nested_kinds (structs_held structs) depth) (type_of ty) ≡ nested_kinds (structs_held structs) (suc less) number
  type_is = ap (λ u. kinds_by (nested_kinds (structs_held structs) depth) (type_of u)) is ∙ ap (λ d. nested_kinds (structs_held structs) d number) deep

  pub struct_missing : (o : Option (Bor HeldStruct)) (cells : List Cell) → o ≡ None → option_copied o ≡ slice_get structs number
      → cells ≡ cells ++ map unset (kinds_by (nested_kinds (structs_held structs) depth) (type_of ty))
  struct_missing o cells none e = sym (append-nil cells) ∙ ap (λ kinds. cells ++ map unset kinds) (sym (type_is ∙ missing_kinds structs number less o none e))

  pub struct_found : (s : Bor HeldStruct) → option_copied (Some s) ≡ slice_get structs number
      → kinds_of_members (nested_kinds (structs_held structs) less) (map member_of s.now.members.items) ≡ kinds_by (nested_kinds (structs_held structs) depth) (type_of ty)
  struct_found s e = sym (type_is ∙ found_kinds structs number less s e)

  pub struct_found_steps : (s : Bor HeldStruct) → option_copied (Some s) ≡ slice_get structs number
      → members_steps (nested_steps (structs_held structs) less) (map member_of s.now.members.items) < type_steps (nested_steps (structs_held structs) depth) (type_of ty)
  struct_found_steps s e =
      let steps : type_steps (nested_steps (structs_held structs) depth) (type_of ty) ≡ suc (members_steps (nested_steps (structs_held structs) less) (map member_of s.now.members.items)) =
      ap (λ u. type_steps (nested_steps (structs_held structs) depth) (type_of u)) is ∙ ap (λ d. suc (nested_steps (structs_held structs) d number)) deep
      ∙ ap (λ n. suc n) (found_steps structs number less s e) in
      omega arith
