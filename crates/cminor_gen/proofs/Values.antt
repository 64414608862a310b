-- A value without a fault is the word of its translation, and only addresses of variables are read.
use Rattle.std.proofs.Common.{◌≡◌, ◌≢◌, ℕ, zero, suc, ◌+◌, ◌-◌, ◌*◌, ◌%◌, ◌^◌, ◌<◌, ◌≤◌, List, [], ◌++◌, Option, Some, None, Result, Ok, Err, Bool, true, false, not, refl, sym, ap, ◌∙◌, subst, arith, ◌⊎◌, inl, inr, eq-eqb, ne_eqb}
use Rattle.std.specs.Prelude.{slice_get, nat_lt, if◌then◌else◌, unwrap_or}
use Rattle.std.proofs.lemmas.Option.{none-some, same_Some}
use Rattle.cerco_base.specs.Bytes.{bit_value}
use Rattle.cerco_base.specs.declared.events.FaultKind.{FaultKind}
use Rattle.cerco_base.specs.declared.events.Label.{Label}
use Rattle.cerco_traces.specs.Systems.{EachWithin}
use Rattle.cerco_traces.specs.Worlds.{World}
use Rattle.cerco_middle.specs.declared.operators.CmOp.TheVariants as op
use Rattle.cerco_middle.specs.Operators.{operator_value, kept}
use Rattle.cerco_middle.proofs.OperatorLaws.{word_keeps}
use Rattle.cerco_middle.specs.Calls.{Values}
use Rattle.cerco_middle.specs.Cminor.Trees as m
use Rattle.cerco_middle.specs.Cminor.Meaning as c
use Rattle.clight_source.specs.declared.tree.BinaryOperator.{BinaryOperator}
use Rattle.clight_source.specs.declared.tree.BinaryOperator.TheVariants as o
use Rattle.clight_source.specs.declared.tree.PrefixOperator.TheVariants.{Negate, Complement, Not as NotPrefix, Dereference, AddressOf}
use Rattle.clight_source.specs.declared.tree.MemberOperator.TheVariants.{Dot, Arrow}
use Rattle.c_types.specs.declared.integers.IntegerType.{IntegerType}
use Rattle.c_types.specs.declared.integers.Size.{Size}
use Rattle.c_types.specs.declared.integers.Size.TheVariants.{One, Two, Four}
use Rattle.c_types.specs.Types.{CType, Void, Integer, Pointer, Array, Struct, size_of, bool_eq}
use Rattle.c_types.specs.Kinds.{integer_type, value_type, target_of}
use Rattle.c_types.specs.Conversions.{count, promoted, promoted_integer, common, common_integer, integer_of, int, unsigned_char}
use Rattle.clight_syntax.specs.declared.typed.Home.{Home}
use Rattle.clight_syntax.specs.declared.typed.Home.TheVariants as h
use Rattle.clight_syntax.specs.TypedTrees.{Expr, Variable, Number, Parenthesis, Binary, Prefix, Cast, Index, Select, type_at, Function, TypedProgram, variable_address, address_at}
use Rattle.clight_values.specs.declared.value.Value.{Value}
use Rattle.clight_values.specs.declared.value.Value.TheVariants as v
use Rattle.clight_values.specs.declared.value.Block.{Block}
use Rattle.clight_values.specs.Values.{is_negative, truth, combined}
use Rattle.clight_values.specs.Memory.{Answer, State, load, moved, stepped, equal, less}
use Rattle.clight_values.specs.Operators.{then_value, both, answer_of, opposite, of_integers, of_pointer_and_integer, of_integer_and_pointer, of_pointers, operated_by, operated, negated, complemented, indexed, as_pointer, assigned_value}
use Rattle.clight_meaning.specs.Expressions as e
use Rattle.clight_meaning.specs.Expressions.{Position, InCall, Behind, behind, pointer_to}
use Rattle.clight_programs.specs.Numbers.{as_number, shift_for}
use Rattle.clight_programs.specs.Scopes.{IsShort, IsShortInteger, IsAtHome, IsVariable, global_addresses, function_blocks, function_scalars}
use Rattle.clight_programs.specs.Expressions.{IsConstant, StepsOver, IsPointer, AreComparable, PointersFit, IntegersFit, OperandsFit, IsTyped}
use Rattle.clight_programs.proofs.Exponents.{shift_for_power, shift_for_is}
use Rattle.flat_memory.specs.HeldTypes.{held_of}
use Rattle.flat_memory.proofs.Lists.{by_option}
use Rattle.flat_memory.proofs.Ram.{held_at_is}
use Rattle.flat_memory.proofs.Shapes.{Shape, Points, Counts, Reps, Fits, Keeps, Means, block_ends, kept_points}
use Rattle.flat_memory.proofs.Loads.{load_ok}
use Rattle.flat_memory.proofs.Pointers.{PointsTo, Moves, MovesBy, Decides, moved_ok, stepped_ok, shift_moves, equal_ok, equal_zero_ok, zero_equal_ok, less_ok}
use Rattle.flat_memory.proofs.Integers.{type, CountsTo, AreFit, ShiftIs, result_signed, integers_ok, negated_ok, complemented_ok, converted_counts, word_is_word, truth_counts}
use Rattle.cminor_gen.specs.Translation.Operators as t
use Rattle.cminor_gen.specs.Translation.Expressions as x
use Rattle.cminor_gen.proofs.Words.{each_join, with_offset_reads, offset_moves, offset_by_moves, shift_step_word, product_step_word, step_reads, operation_reads, integers_word}

-- ---- what is owed for a value

pub then_ok : (S : Shape) (made d : ℕ) (T U : CType) (r : Answer) (go : Value → Answer) (n k : ℕ) (rs rs' : List ℕ) → Means S made d T r n rs → ((w : Value) → Reps S made T w n → EachWithin d rs → Means S made d U (go w) k rs')
    → Means S made d U (then_value r go) k rs'
then_ok S made d T U (Err k') go n k rs rs' h i = tt
then_ok S made d T U (Ok w) go n k rs rs' h i = i w h.0 h.1

same_answer : (r : Answer) (y z : Value) → r ≡ Ok y → r ≡ Ok z → y ≡ z
same_answer r y z e' f' = cc

pub both_ok : (S : Shape) (made d : ℕ) (T U W : CType) (q r : Answer) (go : Value → Value → Answer) (n l k : ℕ) (rs rs' ss : List ℕ) → Means S made d T q n rs → Means S made d U r l rs'
    → ((a b : Value) → q ≡ Ok a → r ≡ Ok b → Reps S made T a n → Reps S made U b l → EachWithin d rs → EachWithin d rs' → Means S made d W (go a b) k ss) → Means S made d W (both go q r) k ss
both_ok S made d T U W (Err k') r go n l k rs rs' ss h i f = tt
both_ok S made d T U W (Ok a) (Err k') go n l k rs rs' ss h i f = tt
both_ok S made d T U W (Ok a) (Ok b) go n l k rs rs' ss h i f = f a b refl refl h.0 i.0 h.1 i.1

pub more_reads : (S : Shape) (made d : ℕ) (T : CType) (r : Answer) (n : ℕ) (rs ss : List ℕ) → EachWithin d rs → Means S made d T r n ss → Means S made d T r n (rs ++ ss)
more_reads S made d T (Err k) n rs ss h i = tt
more_reads S made d T (Ok w) n rs ss h i = (i.0, each_join d rs ss h i.1)

pub in_type : (S : Shape) (made d : ℕ) (T U : CType) (r : Answer) (n : ℕ) (rs : List ℕ) → T ≡ U → Means S made d T r n rs → Means S made d U r n rs
in_type S made d T U r n rs is h = subst (λ V. Means S made d V r n rs) is h

points_means : (S : Shape) (made d : ℕ) (T : CType) (r : Answer) (n : ℕ) (rs : List ℕ) → EachWithin d rs → PointsTo S made r n → Means S made d (Pointer T) r n rs
points_means S made d T (Err k) n rs h i = tt
points_means S made d T (Ok w) n rs h i = (i, h)

counts_means : (S : Shape) (made d : ℕ) (s : Size) (g : Bool) (r : Answer) (n : ℕ) (rs : List ℕ) → EachWithin d rs → CountsTo s g r n → Means S made d (Integer s g) r n rs
counts_means S made d s g (Err k) n rs h i = tt
counts_means S made d s g (Ok w) n rs h i = (i, h)

-- ---- conversions

-- a value that is assigned: what is held of it
pub assigned_ok : (d : ℕ) (S : Shape) → Fits d S → (made : ℕ) (T U : CType) → IsShort U → (w : Value) (n : ℕ) → Reps S made (value_type T) w n → Means S made d U (assigned_value T U w) (kept (held_of U) n) []
assigned_ok d S fits made (Integer s g) (Integer One h') short (v.Integer y) n r = (converted_counts s g One h' (λ is. absurd cc) y n r, tt)
assigned_ok d S fits made (Integer s g) (Integer Two h') short (v.Integer y) n r = (converted_counts s g Two h' (λ is. absurd cc) y n r, tt)
assigned_ok d S fits made (Integer s g) (Integer Four h') short w n r = absurd short
assigned_ok d S fits made (Integer s g) (Integer One h') short v.Null n r = tt
assigned_ok d S fits made (Integer s g) (Integer Two h') short v.Null n r = tt
assigned_ok d S fits made (Integer s g) (Integer One h') short (v.Pointer at) n r = tt
assigned_ok d S fits made (Integer s g) (Integer Two h') short (v.Pointer at) n r = tt
assigned_ok d S fits made T (Pointer U) short w n r = as_pointer_ok T w r
  where
    zero_word : (s : Size) (g : Bool) → Counts s g (v.Integer zero) n → n ≡ 0
    zero_word One true q = q.1
    zero_word One false q = q.1
    zero_word Two g q = q.1
    zero_word Four g q = absurd q

    of_number : (s : Size) (g : Bool) (w : Value) → Counts s g w n → Means S made d (Pointer U) (as_pointer w) (kept (held_of (Pointer U)) n) []
    of_number s g (v.Integer zero) q = (kept_points d S fits made U v.Null n (zero_word s g q), tt)
    of_number s g (v.Integer (suc y)) q = tt
    of_number One g v.Null q = absurd q
    of_number Two g v.Null q = absurd q
    of_number Four g v.Null q = absurd q
    of_number One g (v.Pointer at) q = absurd q
    of_number Two g (v.Pointer at) q = absurd q
    of_number Four g (v.Pointer at) q = absurd q

    of_pointer : (w : Value) → Points S made w n → Means S made d (Pointer U) (as_pointer w) (kept (held_of (Pointer U)) n) []
    of_pointer (v.Integer y) q = absurd q
    of_pointer v.Null q = (kept_points d S fits made U v.Null n q, tt)
    of_pointer (v.Pointer at) q = (kept_points d S fits made U (v.Pointer at) n q, tt)

    as_pointer_ok : (T : CType) (w : Value) → Reps S made (value_type T) w n → Means S made d (Pointer U) (as_pointer w) (kept (held_of (Pointer U)) n) []
    as_pointer_ok Void w q = absurd q
    as_pointer_ok (Integer s g) w q = of_number s g w q
    as_pointer_ok (Pointer V) w q = of_pointer w q
    as_pointer_ok (Array V k) w q = of_pointer w q
    as_pointer_ok (Struct k) w q = absurd q
assigned_ok d S fits made Void (Integer One h') short w n r = tt
assigned_ok d S fits made Void (Integer Two h') short w n r = tt
assigned_ok d S fits made Void (Integer Four h') short w n r = tt
assigned_ok d S fits made (Pointer V) (Integer One h') short w n r = tt
assigned_ok d S fits made (Pointer V) (Integer Two h') short w n r = tt
assigned_ok d S fits made (Pointer V) (Integer Four h') short w n r = tt
assigned_ok d S fits made (Array V k) (Integer One h') short w n r = tt
assigned_ok d S fits made (Array V k) (Integer Two h') short w n r = tt
assigned_ok d S fits made (Array V k) (Integer Four h') short w n r = tt
assigned_ok d S fits made (Struct k) (Integer One h') short w n r = tt
assigned_ok d S fits made (Struct k) (Integer Two h') short w n r = tt
assigned_ok d S fits made (Struct k) (Integer Four h') short w n r = tt
assigned_ok d S fits made T Void short w n r = tt
assigned_ok d S fits made T (Array U k) short w n r = tt
assigned_ok d S fits made T (Struct k) short w n r = tt

-- ---- constants

constant_counts : (T : CType) (n : ℕ) → IsConstant T n → (S : Shape) (made : ℕ) → Reps S made (value_type T) (v.Integer n) (n % 65536 % 65536)
constant_counts T n (inl q) S made = let lt = q.1 in subst (λ U. Reps S made (value_type U) (v.Integer n) (n % 65536 % 65536)) (sym q.0) (lt, omega arith)
constant_counts T n (inr q) S made = let lt = q.1 in subst (λ U. Reps S made (value_type U) (v.Integer n) (n % 65536 % 65536)) (sym q.0) (omega arith, omega arith)

pub number_value : (p : TypedProgram Label) (st : State) (a : Expr) (n : ℕ) → as_number a ≡ Some n → e.value p a st ≡ Ok (v.Integer n)
number_value p st (Variable T k name) n is = absurd (none-some n is)
number_value p st (Number T number span) n is = ap (λ z. Ok (v.Integer z)) (same_Some _ _ is)
number_value p st (Parenthesis T left a right) n is = number_value p st a n is
number_value p st (Binary T l operator at r) n is = absurd (none-some n is)
number_value p st (Prefix T operator at a) n is = absurd (none-some n is)
number_value p st (Cast T left words right a) n is = absurd (none-some n is)
number_value p st (Index T base left index right) n is = absurd (none-some n is)
number_value p st (Select T a operator at name offset) n is = absurd (none-some n is)

-- an integer constant isn't negative
not_negative : (T : CType) (n : ℕ) → IsConstant T n → (s : Size) (g : Bool) → T ≡ Integer s g → (is_negative (type s g) n ≡ false)
not_negative T n (inl q) s g is = unsigned_is s g (sym q.0 ∙ is)
  where
    unsigned_is : (s : Size) (g : Bool) → Integer Two false ≡ Integer s g → is_negative (type s g) n ≡ false
    unsigned_is s true e = absurd cc
    unsigned_is s false e = refl
not_negative T n (inr q) s g is = signed_is s g (sym q.0 ∙ is)
  where
    signed_is : (s : Size) (g : Bool) → Integer Two true ≡ Integer s g → is_negative (type s g) n ≡ false
    signed_is One g e = absurd cc
    signed_is Four g e = absurd cc
    signed_is Two false e = refl
    signed_is Two true e = let lt = q.1 in grind arith

-- ---- where the variables of the running call are

pub record Located (p : TypedProgram Label) (f : Function Label) (S : Shape) (blocks call made : ℕ) : Type 0 where
  pub global : (b a : ℕ) → slice_get (global_addresses p p.items) b ≡ Some a → (bl : Block) → slice_get S.blocks b ≡ Some bl → bl.call ≡ 0 → S.address bl.begin ≡ a
  pub own : (b a : ℕ) → slice_get (function_blocks p f) b ≡ Some a → (bl : Block) → slice_get S.blocks (blocks + b) ≡ Some bl → bl.call ≡ call → S.address bl.begin ≡ a
  pub some : 0 < made
  pub mine : call < made

abbrev pub ScalarsStand : TypedProgram Label → Function Label → Shape → ℕ → List Value → Values → Type 0
ScalarsStand p f S made scalars vs = (k : ℕ) (T : CType) → slice_get (function_scalars p f) k ≡ Some T → Reps S made T (unwrap_or (slice_get scalars k) (v.Integer 0)) (vs k)

module _ (p : TypedProgram Label) (f : Function Label) (S : Shape) (d : ℕ) (fits : Fits d S) (st : State) (vs : Values) (w : World) (keeps : Keeps S st.made st.memory w.xram) (scalars : ScalarsStand p f S st.made st.frame.scalars vs)
    (located : Located p f S st.frame.blocks st.frame.call st.made) where
  abbrev V : m.CmExpr → ℕ
  V a = c.value a vs w

  abbrev R : m.CmExpr → List ℕ
  R a = c.reads a vs w

  -- what is owed for an address
  abbrev pub AddressIs : Answer → m.CmExpr → Type 0
  AddressIs r a = Means S st.made d (Pointer Void) r (V a) (R a)

  abbrev pub PlaceIs : Result Position FaultKind → m.CmExpr → Type 0
  PlaceIs (Err k) a = Unit {0}
  PlaceIs (Ok (InCall k)) a = Unit {0}
  PlaceIs (Ok (Behind q)) a = Points S st.made q (V a) × EachWithin d (R a)

  abbrev pub ValueIs : Expr → Type 0
  ValueIs a = Means S st.made d (value_type (type_at a)) (e.value p a st) (V (x.value p a)) (R (x.value p a))

  place_of : (r : Answer) (a : m.CmExpr) → AddressIs r a → PlaceIs (behind r) a
  place_of (Err k) a h = tt
  place_of (Ok q) a h = h

  address_of : (r : Result Position FaultKind) (a : m.CmExpr) → PlaceIs r a → AddressIs (pointer_to r) a
  address_of (Err k) a h = tt
  address_of (Ok (InCall k)) a h = tt
  address_of (Ok (Behind q)) a h = h

  -- ---- what is behind an address

  no_value : (T : CType) → ((q : Value) (n : ℕ) → Reps S st.made T q n → ⊥) → (r : Answer) (n k : ℕ) (rs ss : List ℕ) → Means S st.made d T r n rs → Means S st.made d T r k ss
  no_value T none (Err k') n k rs ss h = tt
  no_value T none (Ok q) n k rs ss h = absurd (none q n h.0)

  read_ok : (T : CType) (q : Value) (a : m.CmExpr) → Points S st.made q (V a) → EachWithin d (R a) → Means S st.made d T (load st.memory T q) (c.value (m.Load (held_of T) a) vs w) (R (m.Load (held_of T) a))
  read_ok T q a h i =
      subst (λ n. Means S st.made d T (load st.memory T q) n (R (m.Load (held_of T) a))) (sym (held_at_is (held_of T) w (V a)))
      (more_reads S st.made d T (load st.memory T q) _ (R a) _ i (load_ok S st.made d fits st.memory w.xram keeps T q (V a) h))

  pub value_at_ok : (T : CType) (r : Answer) (a : m.CmExpr) → AddressIs r a → Means S st.made d (value_type T) (e.value_at T (behind r) st) (V (t.read_at T a)) (R (t.read_at T a))
  value_at_ok Void (Err k) a h = tt
  value_at_ok (Integer s g) (Err k) a h = tt
  value_at_ok (Pointer U) (Err k) a h = tt
  value_at_ok (Array U k') (Err k) a h = tt
  value_at_ok (Struct k') (Err k) a h = tt
  value_at_ok Void (Ok q) a h = no_value Void (λ q n r. r) (load st.memory Void q) _ _ _ _ (read_ok Void q a h.0 h.1)
  value_at_ok (Integer s g) (Ok q) a h = read_ok (Integer s g) q a h.0 h.1
  value_at_ok (Pointer U) (Ok q) a h = read_ok (Pointer U) q a h.0 h.1
  value_at_ok (Array U k') (Ok q) a h = h
  value_at_ok (Struct k') (Ok q) a h = no_value (Struct k') (λ q n r. r) (load st.memory (Struct k') q) _ _ _ _ (read_ok (Struct k') q a h.0 h.1)

  -- ---- variables

  block_points : (slot call a : ℕ) → call < st.made → ((bl : Block) → slice_get S.blocks slot ≡ Some bl → bl.call ≡ call → S.address bl.begin ≡ a) → Points S st.made (v.Pointer (record { slot = slot; call = call; offset = 0 })) (a % 65536)
  block_points slot call a old at = (
    old,
    λ bl is same.
        let q = at bl is same in
        let b = (block_ends d S fits slot bl is).1 in
        (omega arith, omega arith),
  )

  pub home_place : (home : Home) (T : CType) (a : ℕ) → IsAtHome p f home T a → PlaceIs (Ok (e.home_position home st.frame)) (m.Const a)
  home_place (h.Global b) T a is = (block_points b 0 a located.some (λ bl i same. located.global b a is bl i same), tt)
  home_place (h.Block b) T a is = (block_points (st.frame.blocks + b) st.frame.call a located.mine (λ bl i same. located.own b a is bl i same), tt)
  home_place (h.Scalar k) T a is = tt

  own_scalar : (k : ℕ) (T : CType) (a : ℕ) → Reps S st.made T (unwrap_or (slice_get st.frame.scalars k) (v.Integer 0)) (vs k)
      → Means S st.made d (value_type T) (e.value_at T (Ok (InCall k)) st) (vs k) []
  own_scalar k Void a r = absurd r
  own_scalar k (Integer s g) a r = (r, tt)
  own_scalar k (Pointer U) a r = (r, tt)
  own_scalar k (Array U k') a r = absurd r
  own_scalar k (Struct k') a r = absurd r

  home_value : (home : Home) (T : CType) (a : ℕ) → IsAtHome p f home T a
      → Means S st.made d (value_type T) (e.value_at T (Ok (e.home_position home st.frame)) st) (V (x.variable_value (x.scalar_of home) T a)) (R (x.variable_value (x.scalar_of home) T a))
  home_value (h.Global b) T a is = value_at_ok T (Ok (v.Pointer (record { slot = b; call = 0; offset = 0 }))) (m.Const a) (home_place (h.Global b) T a is)
  home_value (h.Block b) T a is = value_at_ok T (Ok (v.Pointer (record { slot = st.frame.blocks + b; call = st.frame.call; offset = 0 }))) (m.Const a) (home_place (h.Block b) T a is)
  home_value (h.Scalar k) T a is = own_scalar k T a (scalars k T is)

  -- ---- steps

  near : (back : Bool) (s : Size) (g : Bool) (y size n n' : ℕ) → is_negative (type s g) y ≡ false → Moves back (y * size) n n' → MovesBy back s g y size n n'
  near back s g y size n n' sign moves = subst (λ z. Moves (not (bool_eq back z)) ((if z then count s - y else y) * size) n n') (sym sign) (by back moves)
    where
      by : (back : Bool) → Moves back (y * size) n n' → Moves (not (bool_eq back false)) (y * size) n n'
      by true moves = moves
      by false moves = moves

  byte_moves : (size : ℕ) (back : Bool) (s : Size) (g : Bool) → Integer One false ≡ Integer s g → (y : ℕ) (a b : m.CmExpr) → Counts s g (v.Integer y) (V b) → size < 256 → MovesBy back s g y size (V a) (V (t.step_over None size back a b))
  byte_moves size back One false is y a b hi few =
      let lt = hi.0 in
      let same : V b ≡ y = hi.1 in
      near back One false y size (V a) _ refl (subst (λ z. Moves back (z * size) (V a) (V (t.step_over None size back a b))) same (product_step_word vs w size back a b few (omega arith)))
  byte_moves size back One true is y a b hi few = absurd cc
  byte_moves size back Two g is y a b hi few = absurd cc
  byte_moves size back Four g is y a b hi few = absurd cc

  over_moves : (size : ℕ) (back : Bool) (T : CType) → StepsOver size T None → (s : Size) (g : Bool) → T ≡ Integer s g → (y : ℕ) (a b : m.CmExpr) → Counts s g (v.Integer y) (V b)
      → MovesBy back s g y size (V a) (V (t.step_over (shift_for size) size back a b))
  over_moves size back T over s g is y a b hi =
      by_option (λ k. MovesBy back s g y size (V a) (V (t.step_over k size back a b))) (shift_for size) (λ none. product none over.1) (λ k some.
      subst (λ z. MovesBy back s g y z (V a) (V (t.step_over (Some k) size back a b))) (shift_for_is size k some)
      (subst (λ r. MovesBy back s g y (2 ^ k) (V a) r) (sym (shift_step_word vs w k size back a b (word_is_word s g (v.Integer y) (V b) hi))) (shift_moves back s g y (V b) k (V a) hi)))
    where
      product : shift_for size ≡ None → (((n : ℕ) × (None ≡ Some n) × IsConstant T n) ⊎ ((k : ℕ) × (k < 16) × (2 ^ k ≡ size)) ⊎ ((T ≡ unsigned_char) × (size < 256))) → MovesBy back s g y size (V a) (V (t.step_over None size back a b))
      product none (inl q) = absurd (none-some q.0 q.1)
      product none (inr (inl q)) = absurd (none-some q.0 (sym none ∙ shift_for_power q.0 size q.1 q.2))
      product none (inr (inr q)) = byte_moves size back s g (sym q.0 ∙ is) y a b hi q.1

  integer_is : (s : Size) (g : Bool) (i : Value) (k : ℕ) → Counts s g i k → (P : Value → Type 0) → ((y : ℕ) → i ≡ v.Integer y → P (v.Integer y)) → P i
  integer_is One g (v.Integer y) k hi P f' = f' y refl
  integer_is Two g (v.Integer y) k hi P f' = f' y refl
  integer_is Four g i k hi P f' = absurd hi
  integer_is One g v.Null k hi P f' = absurd hi
  integer_is One g (v.Pointer at) k hi P f' = absurd hi
  integer_is Two g v.Null k hi P f' = absurd hi
  integer_is Two g (v.Pointer at) k hi P f' = absurd hi

  step_points : (size : ℕ) (back : Bool) (T : CType) (number : Option ℕ) → StepsOver size T number → ((n : ℕ) → number ≡ Some n → IsConstant T n) → (s : Size) (g : Bool) → T ≡ Integer s g → (q i : Value) (a b : m.CmExpr) → Points S st.made q (V a) → Counts s g i (V b)
      → ((n : ℕ) → number ≡ Some n → i ≡ v.Integer n) → PointsTo S st.made (stepped st.memory size back q (type s g) i) (V (t.step number size back a b))
  step_points size back T (Some n) over constant s g is q i a b hq hi known =
      stepped_ok S st.made d fits st.memory keeps.blocks size back q s g i (V a) (V b) _ hq hi (λ y iy.
      let e' : v.Integer n ≡ v.Integer y = sym (known n refl) ∙ iy in
      let same : n ≡ y = cc in
      subst (λ z. MovesBy back s g z size (V a) (V (t.with_offset a (t.offset_by back (n * size))))) same
      (near back s g n size (V a) _ (not_negative T n (constant n refl) s g is) (offset_by_moves vs w a back (n * size))))
  step_points size back T None over constant s g is q i a b hq hi known =
      stepped_ok S st.made d fits st.memory keeps.blocks size back q s g i (V a) (V b) _ hq hi (λ y iy. over_moves size back T over s g is y a b (subst (λ z. Counts s g z (V b)) iy hi))

  typed_number : (a : Expr) → IsTyped p f a → (n : ℕ) → as_number a ≡ Some n → IsConstant (type_at a) n
  typed_number (Variable T k name) ty n is = absurd (none-some n is)
  typed_number (Number T number span) ty n is = subst (IsConstant T) (same_Some _ _ is) ty
  typed_number (Parenthesis T left a right) ty n is = subst (λ U. IsConstant U n) (sym ty.0) (typed_number a ty.1 n is)
  typed_number (Binary T l operator at r) ty n is = absurd (none-some n is)
  typed_number (Prefix T operator at a) ty n is = absurd (none-some n is)
  typed_number (Cast T left words right a) ty n is = absurd (none-some n is)
  typed_number (Index T base left index right) ty n is = absurd (none-some n is)
  typed_number (Select T a operator at name offset) ty n is = absurd (none-some n is)

  any_pointer : (T U : CType) (r : Answer) (n : ℕ) (rs : List ℕ) → Means S st.made d (Pointer T) r n rs → Means S st.made d (Pointer U) r n rs
  any_pointer T U (Err k) n rs h = tt
  any_pointer T U (Ok q) n rs h = h

  -- ---- places behind addresses

  offset_address : (r : Answer) (a : m.CmExpr) (offset : ℕ) → AddressIs r a → AddressIs (then_value r (λ q. moved st.memory q false offset)) (t.with_offset a (offset % 65536))
  offset_address r a offset h =
      then_ok S st.made d (Pointer Void) (Pointer Void) r _ (V a) _ (R a) _ h (λ q hq rs.
      points_means S st.made d Void _ _ _ (with_offset_reads vs w d a (offset % 65536) rs) (moved_ok S st.made d fits st.memory keeps.blocks q false offset (V a) _ hq (offset_moves vs w a offset)))

  -- a pointer and an integer that steps it
  step_address : (size : ℕ) (back : Bool) (T : CType) (number : Option ℕ) (over : StepsOver size T number) → ((n : ℕ) → number ≡ Some n → IsConstant T n) → (q r : Answer) (a b : m.CmExpr) (go : Value → Value → Answer)
      → ((x y : Value) → go x y ≡ stepped st.memory size back x (type over.0.size over.0.signed) y) → ((n : ℕ) → number ≡ Some n → r ≡ Ok (v.Integer n)) → AddressIs q a → Means S st.made d (value_type T) r (V b) (R b)
      → AddressIs (both go q r) (t.step number size back a b)
  step_address size back T number over constant q r a b go is known hq hr =
      let in_size = ap value_type over.0.is in
      both_ok S st.made d (Pointer Void) (Integer over.0.size over.0.signed) (Pointer Void) q r go (V a) (V b) _ (R a) (R b) _ hq (in_type S st.made d _ _ r (V b) (R b) in_size hr) (λ x y ex ey hx hy rs rs'.
      points_means S st.made d Void (go x y) _ _ (step_reads vs w d number size back a b rs rs')
      (subst (λ z. PointsTo S st.made z (V (t.step number size back a b))) (sym (is x y))
      (step_points size back T number over constant over.0.size over.0.signed over.0.is x y a b hx hy (λ n en. same_answer r y (v.Integer n) ey (known n en)))))

  -- the integer first
  step_address_after : (size : ℕ) (back : Bool) (T : CType) (number : Option ℕ) (over : StepsOver size T number) → ((n : ℕ) → number ≡ Some n → IsConstant T n) → (q r : Answer) (a b : m.CmExpr) (go : Value → Value → Answer)
      → ((x y : Value) → go x y ≡ stepped st.memory size back y (type over.0.size over.0.signed) x) → ((n : ℕ) → number ≡ Some n → q ≡ Ok (v.Integer n)) → Means S st.made d (value_type T) q (V a) (R a) → AddressIs r b
      → AddressIs (both go q r) (t.step number size back b a)
  step_address_after size back T number over constant q r a b go is known hq hr =
      let in_size = ap value_type over.0.is in
      both_ok S st.made d (Integer over.0.size over.0.signed) (Pointer Void) (Pointer Void) q r go (V a) (V b) _ (R a) (R b) _ (in_type S st.made d _ _ q (V a) (R a) in_size hq) hr (λ x y ex ey hx hy rs rs'.
      points_means S st.made d Void (go x y) _ _ (step_reads vs w d number size back b a rs' rs)
      (subst (λ z. PointsTo S st.made z (V (t.step number size back b a))) (sym (is x y))
      (step_points size back T number over constant over.0.size over.0.signed over.0.is y x b a hy hx (λ n en. same_answer q x (v.Integer n) ex (known n en)))))

  -- ---- operators on one operand

  negate_ok : (L T : CType) → IsShortInteger L → T ≡ promoted L → (r : Answer) (a : m.CmExpr) → Means S st.made d (value_type L) r (V a) (R a) → Means S st.made d (value_type T) (then_value r (negated (integer_type L))) (V (m.Neg a)) (R (m.Neg a))
  negate_ok L T short is r a h =
      subst (λ U. Means S st.made d (value_type U) (then_value r (negated (integer_type L))) (V (m.Neg a)) (R a)) (sym is)
      (subst (λ K. Means S st.made d (value_type K) r (V a) (R a) → Means S st.made d (value_type (promoted K)) (then_value r (negated (integer_type K))) (V (m.Neg a)) (R a)) (sym short.is) (by short.size short.signed) h)
    where
      by : (s : Size) (g : Bool) → Means S st.made d (Integer s g) r (V a) (R a) → Means S st.made d (value_type (promoted (Integer s g))) (then_value r (negated (Some (type s g)))) (V (m.Neg a)) (R a)
      by One g h = then_ok S st.made d (Integer One g) (Integer Two true) r _ (V a) _ (R a) (R a) h (λ y hy rs. counts_means S st.made d Two true _ _ (R a) rs (negated_ok One g y (V a) hy))
      by Two g h = then_ok S st.made d (Integer Two g) (Integer Two g) r _ (V a) _ (R a) (R a) h (λ y hy rs. counts_means S st.made d Two g _ _ (R a) rs (negated_ok Two g y (V a) hy))
      by Four g h = then_ok S st.made d (Integer Four g) (Integer Four g) r _ (V a) _ (R a) (R a) h (λ y hy rs. absurd hy)

  complement_ok : (L T : CType) → IsShortInteger L → T ≡ promoted L → (r : Answer) (a : m.CmExpr) → Means S st.made d (value_type L) r (V a) (R a) → Means S st.made d (value_type T) (then_value r (complemented (integer_type L))) (V (m.Complement a)) (R (m.Complement a))
  complement_ok L T short is r a h =
      subst (λ U. Means S st.made d (value_type U) (then_value r (complemented (integer_type L))) (V (m.Complement a)) (R a)) (sym is)
      (subst (λ K. Means S st.made d (value_type K) r (V a) (R a) → Means S st.made d (value_type (promoted K)) (then_value r (complemented (integer_type K))) (V (m.Complement a)) (R a)) (sym short.is) (by short.size short.signed) h)
    where
      by : (s : Size) (g : Bool) → Means S st.made d (Integer s g) r (V a) (R a) → Means S st.made d (value_type (promoted (Integer s g))) (then_value r (complemented (Some (type s g)))) (V (m.Complement a)) (R a)
      by One g h = then_ok S st.made d (Integer One g) (Integer Two true) r _ (V a) _ (R a) (R a) h (λ y hy rs. counts_means S st.made d Two true _ _ (R a) rs (complemented_ok One g y (V a) hy))
      by Two g h = then_ok S st.made d (Integer Two g) (Integer Two g) r _ (V a) _ (R a) (R a) h (λ y hy rs. counts_means S st.made d Two g _ _ (R a) rs (complemented_ok Two g y (V a) hy))
      by Four g h = then_ok S st.made d (Integer Four g) (Integer Four g) r _ (V a) _ (R a) (R a) h (λ y hy rs. absurd hy)

  cast_ok : (L T : CType) → IsShortInteger T → IsShortInteger L → (r : Answer) (a : m.CmExpr) → Means S st.made d (value_type L) r (V a) (R a) → Means S st.made d (value_type T) (then_value r (assigned_value L T)) (V (t.cast_to T a)) (R (t.cast_to T a))
  cast_ok L T short from r a h =
      subst (λ K. Means S st.made d (value_type K) (then_value r (assigned_value L K)) (V (t.cast_to K a)) (R (t.cast_to K a))) (sym short.is) (by short.size short.signed short.short)
    where
      kept_ok : (t' : Size) (g : Bool) → IsShort (Integer t' g) → Means S st.made d (Integer t' g) (then_value r (assigned_value L (Integer t' g))) (kept (held_of (Integer t' g)) (V a)) (R a)
      kept_ok t' g sh = then_ok S st.made d (value_type L) (Integer t' g) r _ (V a) _ (R a) (R a) h (λ y hy rs. no_more (assigned_value L (Integer t' g) y) rs (assigned_ok d S fits st.made L (Integer t' g) sh y (V a) hy))
        where
          no_more : (q : Answer) → EachWithin d (R a) → Means S st.made d (Integer t' g) q (kept (held_of (Integer t' g)) (V a)) [] → Means S st.made d (Integer t' g) q (kept (held_of (Integer t' g)) (V a)) (R a)
          no_more (Err k) rs i = tt
          no_more (Ok y) rs i = (i.0, rs)

      by : (t' : Size) (g : Bool) → (t' ≡ Four → ⊥) → Means S st.made d (Integer t' g) (then_value r (assigned_value L (Integer t' g))) (V (t.cast_to (Integer t' g) a)) (R (t.cast_to (Integer t' g) a))
      by One true no' = kept_ok One true tt
      by One false no' = kept_ok One false tt
      by Two g no' = word r h (kept_ok Two g tt)
        where
          word : (r' : Answer) → Means S st.made d (value_type L) r' (V a) (R a) → Means S st.made d (Integer Two g) (then_value r' (assigned_value L (Integer Two g))) (kept (held_of (Integer Two g)) (V a)) (R a)
              → Means S st.made d (Integer Two g) (then_value r' (assigned_value L (Integer Two g))) (V a) (R a)
          word (Err k) h' i = tt
          word (Ok y) h' i = subst (λ n. Means S st.made d (Integer Two g) (assigned_value L (Integer Two g) y) n (R a)) (word_keeps (V a) (word_is_word from.size from.signed y (V a) (subst (λ K. Reps S st.made (value_type K) y (V a)) from.is h'.0))) i
      by Four g no' = absurd (no' refl)

  -- ---- operators on two integers

  AreFit_of : (operator : BinaryOperator) (T : CType) (s : Size) (g : Bool) (t' : Size) (h' : Bool) (rn : Option ℕ) → IntegersFit T operator (Integer s g) (Integer t' h') rn → AreFit operator (type s g) (type t' h')
  AreFit_of o.Multiply T s g t' h' rn fit = (ap integer_of fit.1, ap integer_of fit.2)
  AreFit_of o.Divide T s g t' h' rn fit = (ap integer_of fit.1, ap integer_of fit.2)
  AreFit_of o.Remainder T s g t' h' rn fit = (ap integer_of fit.1, ap integer_of fit.2)
  AreFit_of o.Add T s g t' h' rn fit = tt
  AreFit_of o.Subtract T s g t' h' rn fit = tt
  AreFit_of o.BitAnd T s g t' h' rn fit = tt
  AreFit_of o.BitOr T s g t' h' rn fit = tt
  AreFit_of o.BitXor T s g t' h' rn fit = tt
  AreFit_of o.ShiftLeft T s g t' h' rn fit = tt
  AreFit_of o.ShiftRight T s g t' h' rn fit = tt
  AreFit_of o.Equal T s g t' h' rn fit = tt
  AreFit_of o.NotEqual T s g t' h' rn fit = tt
  AreFit_of o.Less T s g t' h' rn fit = tt
  AreFit_of o.Greater T s g t' h' rn fit = tt
  AreFit_of o.LessOrEqual T s g t' h' rn fit = tt
  AreFit_of o.GreaterOrEqual T s g t' h' rn fit = tt
  AreFit_of o.LogicalAnd T s g t' h' rn fit = absurd fit
  AreFit_of o.LogicalOr T s g t' h' rn fit = absurd fit

  shift_bits : (rn : Option ℕ) (u : ℕ) → ((n : ℕ) → rn ≡ Some n → u ≡ n) → ((n : ℕ) × (rn ≡ Some n) × (n < 16)) → u ≡ t.bits_of rn
  shift_bits rn u known q =
      let few = q.2 in
      let low : q.0 % 256 ≡ q.0 = omega arith in
      known q.0 q.1 ∙ sym low ∙ sym (ap t.bits_of q.1)

  ShiftIs_of : (operator : BinaryOperator) (T L R : CType) (rn : Option ℕ) (u : ℕ) → ((n : ℕ) → rn ≡ Some n → u ≡ n) → IntegersFit T operator L R rn → ShiftIs operator u (t.bits_of rn)
  ShiftIs_of o.ShiftLeft T L R rn u known fit = shift_bits rn u known fit.1
  ShiftIs_of o.ShiftRight T L R rn u known fit = shift_bits rn u known fit.1
  ShiftIs_of o.Multiply T L R rn u known fit = tt
  ShiftIs_of o.Divide T L R rn u known fit = tt
  ShiftIs_of o.Remainder T L R rn u known fit = tt
  ShiftIs_of o.Add T L R rn u known fit = tt
  ShiftIs_of o.Subtract T L R rn u known fit = tt
  ShiftIs_of o.BitAnd T L R rn u known fit = tt
  ShiftIs_of o.BitOr T L R rn u known fit = tt
  ShiftIs_of o.BitXor T L R rn u known fit = tt
  ShiftIs_of o.Equal T L R rn u known fit = tt
  ShiftIs_of o.NotEqual T L R rn u known fit = tt
  ShiftIs_of o.Less T L R rn u known fit = tt
  ShiftIs_of o.Greater T L R rn u known fit = tt
  ShiftIs_of o.LessOrEqual T L R rn u known fit = tt
  ShiftIs_of o.GreaterOrEqual T L R rn u known fit = tt
  ShiftIs_of o.LogicalAnd T L R rn u known fit = absurd fit
  ShiftIs_of o.LogicalOr T L R rn u known fit = absurd fit

  common_is : (s : Size) (g : Bool) (t' : Size) (h' : Bool) → (s ≡ Four → ⊥) → (t' ≡ Four → ⊥) → common (Integer s g) (Integer t' h') ≡ Integer Two (common_integer (type s g) (type t' h')).signed
  common_is One g One h' a b = refl
  common_is One g Two h' a b = refl
  common_is Two g One h' a b = refl
  common_is Two g Two h' a b = refl
  common_is Four g t' h' a b = absurd (a refl)
  common_is One g Four h' a b = absurd (b refl)
  common_is Two g Four h' a b = absurd (b refl)

  promoted_is : (s : Size) (g : Bool) → (s ≡ Four → ⊥) → promoted (Integer s g) ≡ Integer Two (promoted_integer (type s g)).signed
  promoted_is One g a = refl
  promoted_is Two g a = refl
  promoted_is Four g a = absurd (a refl)

  -- the type of the result
  result_is : (operator : BinaryOperator) (T : CType) (s : Size) (g : Bool) (t' : Size) (h' : Bool) (rn : Option ℕ) → (s ≡ Four → ⊥) → (t' ≡ Four → ⊥) → IntegersFit T operator (Integer s g) (Integer t' h') rn → T ≡ Integer Two (result_signed operator (type s g) (type t' h'))
  result_is o.Add T s g t' h' rn a b fit = fit ∙ common_is s g t' h' a b
  result_is o.Subtract T s g t' h' rn a b fit = fit ∙ common_is s g t' h' a b
  result_is o.BitAnd T s g t' h' rn a b fit = fit ∙ common_is s g t' h' a b
  result_is o.BitOr T s g t' h' rn a b fit = fit ∙ common_is s g t' h' a b
  result_is o.BitXor T s g t' h' rn a b fit = fit ∙ common_is s g t' h' a b
  result_is o.Multiply T s g t' h' rn a b fit = fit.0
  result_is o.Divide T s g t' h' rn a b fit = fit.0
  result_is o.Remainder T s g t' h' rn a b fit = fit.0
  result_is o.ShiftLeft T s g t' h' rn a b fit = fit.0 ∙ promoted_is s g a
  result_is o.ShiftRight T s g t' h' rn a b fit = fit.0 ∙ promoted_is s g a
  result_is o.Equal T s g t' h' rn a b fit = fit
  result_is o.NotEqual T s g t' h' rn a b fit = fit
  result_is o.Less T s g t' h' rn a b fit = fit
  result_is o.Greater T s g t' h' rn a b fit = fit
  result_is o.LessOrEqual T s g t' h' rn a b fit = fit
  result_is o.GreaterOrEqual T s g t' h' rn a b fit = fit
  result_is o.LogicalAnd T s g t' h' rn a b fit = absurd fit
  result_is o.LogicalOr T s g t' h' rn a b fit = absurd fit

  abbrev BinaryIs : CType → BinaryOperator → CType → CType → Option ℕ → Option ℕ → Answer → Answer → m.CmExpr → m.CmExpr → Type 0
  BinaryIs T operator L K ln rn q r a b =
      Means S st.made d (value_type T) (both (operated p.structs st.memory operator L K) q r)
      (V (t.operation (x.step_size p.structs T) operator (record { integer = integer_type L; number = ln }) (record { integer = integer_type K; number = rn }) a b))
      (R (t.operation (x.step_size p.structs T) operator (record { integer = integer_type L; number = ln }) (record { integer = integer_type K; number = rn }) a b))

  two_integers : (operator : BinaryOperator) (T : CType) (s : Size) (g : Bool) (t' : Size) (h' : Bool) (ln rn : Option ℕ) → (s ≡ Four → ⊥) → (t' ≡ Four → ⊥) → IntegersFit T operator (Integer s g) (Integer t' h') rn
      → (q r : Answer) (a b : m.CmExpr) → ((n : ℕ) → rn ≡ Some n → r ≡ Ok (v.Integer n)) → Means S st.made d (Integer s g) q (V a) (R a) → Means S st.made d (Integer t' h') r (V b) (R b)
      → BinaryIs T operator (Integer s g) (Integer t' h') ln rn q r a b
  two_integers operator T s g t' h' ln rn sf tf fit q r a b known hq hr =
      subst (λ K. BinaryIs K operator (Integer s g) (Integer t' h') ln rn q r a b) (sym (result_is operator T s g t' h' rn sf tf fit))
      (both_ok S st.made d (Integer s g) (Integer t' h') (Integer Two (result_signed operator (type s g) (type t' h'))) q r (operated p.structs st.memory operator (Integer s g) (Integer t' h')) (V a) (V b) _ (R a) (R b) _ hq hr (λ y z ey ez hy hz rs rs'.
      counts_means S st.made d Two (result_signed operator (type s g) (type t' h')) _ _ _ (operation_reads vs w d None operator _ _ a b rs rs')
      (integer_is s g y (V a) hy (λ y'. CountsTo Two (result_signed operator (type s g) (type t' h')) (of_integers operator (type s g) (type t' h') y' z) (V (t.operation None operator (record { integer = Some (type s g); number = ln }) (record { integer = Some (type t' h'); number = rn }) a b))) (λ i iy.
      integer_is t' h' z (V b) hz (λ z'. CountsTo Two (result_signed operator (type s g) (type t' h')) (of_integers operator (type s g) (type t' h') (v.Integer i) z') (V (t.operation None operator (record { integer = Some (type s g); number = ln }) (record { integer = Some (type t' h'); number = rn }) a b))) (λ j jz.
      subst (CountsTo Two (result_signed operator (type s g) (type t' h')) (combined operator (type s g) (type t' h') i j)) (sym (integers_word vs w operator (type s g) (type t' h') ln rn a b))
      (integers_ok operator s g t' h' i j (V a) (V b) (t.bits_of rn) (subst (λ k. Counts s g k (V a)) iy hy) (subst (λ k. Counts t' h' k (V b)) jz hz) (AreFit_of operator T s g t' h' rn fit)
      (ShiftIs_of operator T (Integer s g) (Integer t' h') rn j (λ n en. let same = same_answer r (v.Integer j) (v.Integer n) (ez ∙ ap (λ k. Ok k) jz) (known n en) in cc) fit)))))))

  integers_case : (operator : BinaryOperator) (T L K : CType) (ln rn : Option ℕ) → IsShortInteger L → IsShortInteger K → IntegersFit T operator L K rn → (q r : Answer) (a b : m.CmExpr) → ((n : ℕ) → rn ≡ Some n → r ≡ Ok (v.Integer n))
      → Means S st.made d (value_type L) q (V a) (R a) → Means S st.made d (value_type K) r (V b) (R b) → BinaryIs T operator L K ln rn q r a b
  integers_case operator T L K ln rn sl sk fit q r a b known hq hr =
      subst (λ L'. BinaryIs T operator L' K ln rn q r a b) (sym sl.is)
      (subst (λ K'. IntegersFit T operator (Integer sl.size sl.signed) K' rn → Means S st.made d (value_type K') r (V b) (R b) → Means S st.made d (Integer sl.size sl.signed) q (V a) (R a) → BinaryIs T operator (Integer sl.size sl.signed) K' ln rn q r a b) (sym sk.is)
      (λ fit' hr' hq'. two_integers operator T sl.size sl.signed sk.size sk.signed ln rn sl.short sk.short fit' q r a b known hq' hr')
      (subst (λ L'. IntegersFit T operator L' K rn) sl.is fit) hr (subst (λ L'. Means S st.made d (value_type L') q (V a) (R a)) sl.is hq))

  -- ---- operators on pointers

  pointer_like : (K U : CType) → value_type K ≡ Pointer U → (integer_type K ≡ None) × (target_of K ≡ U)
  pointer_like Void U is = absurd cc
  pointer_like (Integer s g) U is = absurd cc
  pointer_like (Pointer V') U is = (refl, cc)
  pointer_like (Array V' k) U is = (refl, cc)
  pointer_like (Struct k) U is = absurd cc

  integer_like : (K : CType) (short : IsShortInteger K) → integer_type K ≡ Some (type short.size short.signed)
  integer_like K short = ap integer_type short.is

  abbrev BothIs : CType → BinaryOperator → CType → CType → Option IntegerType → Option IntegerType → Option ℕ → Option ℕ → Answer → Answer → m.CmExpr → m.CmExpr → Type 0
  BothIs T operator L K I J ln rn q r a b =
      Means S st.made d (value_type T) (both (operated_by p.structs st.memory operator L K I J) q r)
      (V (t.operation (x.step_size p.structs T) operator (record { integer = I; number = ln }) (record { integer = J; number = rn }) a b))
      (R (t.operation (x.step_size p.structs T) operator (record { integer = I; number = ln }) (record { integer = J; number = rn }) a b))

  -- a comparison whose answer is a test
  tested : (operator : BinaryOperator) (L K : CType) (I J : Option IntegerType) (ln rn : Option ℕ) (q r : Answer) (a b : m.CmExpr) (TL TK : CType) → Means S st.made d TL q (V a) (R a) → Means S st.made d TK r (V b) (R b)
      → ((y z : Value) → q ≡ Ok y → r ≡ Ok z → Reps S st.made TL y (V a) → Reps S st.made TK z (V b)
      → CountsTo Two true (operated_by p.structs st.memory operator L K I J y z) (V (t.operation None operator (record { integer = I; number = ln }) (record { integer = J; number = rn }) a b)))
      → BothIs int operator L K I J ln rn q r a b
  tested operator L K I J ln rn q r a b TL TK hq hr go =
      both_ok S st.made d TL TK int q r (operated_by p.structs st.memory operator L K I J) (V a) (V b) _ (R a) (R b) _ hq hr (λ y z ey ez hy hz rs rs'.
      counts_means S st.made d Two true _ _ _ (operation_reads vs w d None operator _ _ a b rs rs') (go y z ey ez hy hz))

  truth_is : (b : Bool) (n : ℕ) → n ≡ bit_value b → CountsTo Two true (Ok (truth b)) n
  truth_is b n is = subst (Counts Two true (truth b)) (sym is) (truth_counts b)

  eq_answer : (r : Result Bool FaultKind) (n n' : ℕ) → Decides r (n ≡ n') (n ≢ n') → CountsTo Two true (answer_of r) (operator_value 2 op.Eq n n')
  unfolding operator_value
  eq_answer (Err k) n n' h = tt
  eq_answer (Ok true) n n' h = truth_is true _ (ap bit_value (eq-eqb n n' h))
  eq_answer (Ok false) n n' h = truth_is false _ (ap bit_value (ne_eqb n n' h))

  ne_answer : (r : Result Bool FaultKind) (n n' : ℕ) → Decides r (n ≡ n') (n ≢ n') → CountsTo Two true (answer_of (opposite r)) (operator_value 2 op.Ne n n')
  unfolding operator_value
  ne_answer (Err k) n n' h = tt
  ne_answer (Ok true) n n' h = truth_is false _ (ap (λ z. bit_value (not z)) (eq-eqb n n' h))
  ne_answer (Ok false) n n' h = truth_is true _ (ap (λ z. bit_value (not z)) (ne_eqb n n' h))

  lt_true : (n n' : ℕ) → n < n' → nat_lt n n' ≡ true
  lt_true n n' h = grind arith

  lt_false : (n n' : ℕ) → n' ≤ n → nat_lt n n' ≡ false
  lt_false n n' h = grind arith

  lt_answer : (r : Result Bool FaultKind) (n n' : ℕ) → Decides r (n < n') (n' ≤ n) → CountsTo Two true (answer_of r) (operator_value 2 op.LtU n n')
  unfolding operator_value
  lt_answer (Err k) n n' h = tt
  lt_answer (Ok true) n n' h = truth_is true _ (ap bit_value (lt_true n n' h))
  lt_answer (Ok false) n n' h = truth_is false _ (ap bit_value (lt_false n n' h))

  le_answer : (r : Result Bool FaultKind) (n n' : ℕ) → Decides r (n < n') (n' ≤ n) → CountsTo Two true (answer_of (opposite r)) (operator_value 2 op.LeU n' n)
  unfolding operator_value
  le_answer (Err k) n n' h = tt
  le_answer (Ok true) n n' h = truth_is false _ (ap (λ z. bit_value (not z)) (lt_true n n' h))
  le_answer (Ok false) n n' h = truth_is true _ (ap (λ z. bit_value (not z)) (lt_false n n' h))

  -- two pointers
  two_pointers : (operator : BinaryOperator) (L K : CType) (ln rn : Option ℕ) (q r : Answer) (a b : m.CmExpr) → AddressIs q a → AddressIs r b
      → ((y z : Value) → Points S st.made y (V a) → Points S st.made z (V b) → CountsTo Two true (of_pointers st.memory operator y z) (V (t.operation None operator (record { integer = None; number = ln }) (record { integer = None; number = rn }) a b)))
      → BothIs int operator L K None None ln rn q r a b
  two_pointers operator L K ln rn q r a b hq hr go = tested operator L K None None ln rn q r a b (Pointer Void) (Pointer Void) hq hr (λ y z ey ez hy hz. go y z hy hz)

  -- the number 0 is the word 0
  zero_counts : (s : Size) (g : Bool) (n : ℕ) → Counts s g (v.Integer 0) n → n ≡ 0
  zero_counts One true n h' = h'.1
  zero_counts One false n h' = h'.1
  zero_counts Two g n h' = h'.1
  zero_counts Four g n h' = absurd h'

  pointer_and_zero : (operator : BinaryOperator) (L K : CType) (s : Size) (g : Bool) (ln rn : Option ℕ) (q r : Answer) (a b : m.CmExpr) → r ≡ Ok (v.Integer 0) → AddressIs q a → Means S st.made d (Integer s g) r (V b) (R b)
      → ((y : Value) → Points S st.made y (V a) → V b ≡ 0 → CountsTo Two true (of_pointer_and_integer st.memory operator (size_of p.structs (target_of L)) y (type s g) (v.Integer 0)) (V (t.operation None operator (record { integer = None; number = ln }) (record { integer = Some (type s g); number = rn }) a b)))
      → BothIs int operator L K None (Some (type s g)) ln rn q r a b
  pointer_and_zero operator L K s g ln rn q r a b zero' hq hr go =
      tested operator L K None (Some (type s g)) ln rn q r a b (Pointer Void) (Integer s g) hq hr (λ y z ey ez hy hz.
      let is = same_answer r z (v.Integer 0) ez zero' in
      subst (λ k. CountsTo Two true (of_pointer_and_integer st.memory operator (size_of p.structs (target_of L)) y (type s g) k) (V (t.operation None operator (record { integer = None; number = ln }) (record { integer = Some (type s g); number = rn }) a b))) (sym is)
      (go y hy (zero_counts s g (V b) (subst (λ k. Counts s g k (V b)) is hz))))

  zero_and_pointer : (operator : BinaryOperator) (L K : CType) (s : Size) (g : Bool) (ln rn : Option ℕ) (q r : Answer) (a b : m.CmExpr) → q ≡ Ok (v.Integer 0) → Means S st.made d (Integer s g) q (V a) (R a) → AddressIs r b
      → ((z : Value) → Points S st.made z (V b) → V a ≡ 0 → CountsTo Two true (of_integer_and_pointer st.memory operator (size_of p.structs (target_of K)) (type s g) (v.Integer 0) z) (V (t.operation None operator (record { integer = Some (type s g); number = ln }) (record { integer = None; number = rn }) a b)))
      → BothIs int operator L K (Some (type s g)) None ln rn q r a b
  zero_and_pointer operator L K s g ln rn q r a b zero' hq hr go =
      tested operator L K (Some (type s g)) None ln rn q r a b (Integer s g) (Pointer Void) hq hr (λ y z ey ez hy hz.
      let is = same_answer q y (v.Integer 0) ey zero' in
      subst (λ k. CountsTo Two true (of_integer_and_pointer st.memory operator (size_of p.structs (target_of K)) (type s g) k z) (V (t.operation None operator (record { integer = Some (type s g); number = ln }) (record { integer = None; number = rn }) a b))) (sym is)
      (go z hz (zero_counts s g (V a) (subst (λ k. Counts s g k (V a)) is hy))))

  -- as the types of the operands say
  abbrev Known : CType → CType → CType → Option IntegerType → Option IntegerType → Type 0
  Known T L K I J = (integer_type L ≡ I) × (integer_type K ≡ J)

  by_types : (operator : BinaryOperator) (T L K : CType) (I J : Option IntegerType) (ln rn : Option ℕ) (q r : Answer) (a b : m.CmExpr) → Known T L K I J → BothIs T operator L K I J ln rn q r a b → BinaryIs T operator L K ln rn q r a b
  by_types operator T L K I J ln rn q r a b k h' =
      subst (λ I'. BothIs T operator L K I' (integer_type K) ln rn q r a b) (sym k.0) (subst (λ J'. BothIs T operator L K I J' ln rn q r a b) (sym k.1) h')

  module _ (L K : CType) (ln rn : Option ℕ) (q r : Answer) (a b : m.CmExpr) (knownl : (n : ℕ) → ln ≡ Some n → q ≡ Ok (v.Integer n)) (knownr : (n : ℕ) → rn ≡ Some n → r ≡ Ok (v.Integer n))
      (constantl : (n : ℕ) → ln ≡ Some n → IsConstant L n) (constantr : (n : ℕ) → rn ≡ Some n → IsConstant K n) (hq : Means S st.made d (value_type L) q (V a) (R a)) (hr : Means S st.made d (value_type K) r (V b) (R b)) where
    as_address : (T U : CType) (r : Answer) (n : ℕ) (rs : List ℕ) → value_type T ≡ Pointer U → Means S st.made d (value_type T) r n rs → Means S st.made d (Pointer Void) r n rs
    as_address T U r n rs is h' = any_pointer U Void r n rs (in_type S st.made d _ _ r n rs is h')

    as_integer : (T : CType) (short : IsShortInteger T) (r : Answer) (n : ℕ) (rs : List ℕ) → Means S st.made d (value_type T) r n rs → Means S st.made d (Integer short.size short.signed) r n rs
    as_integer T short r n rs h' = in_type S st.made d _ _ r n rs (ap value_type short.is) h'

    -- both are pointers
    pointers : (operator : BinaryOperator) → IsPointer L → IsPointer K
        → ((y z : Value) → Points S st.made y (V a) → Points S st.made z (V b) → CountsTo Two true (of_pointers st.memory operator y z) (V (t.operation None operator (record { integer = None; number = ln }) (record { integer = None; number = rn }) a b)))
        → BinaryIs int operator L K ln rn q r a b
    pointers operator pl pk go =
        by_types operator int L K None None ln rn q r a b ((pointer_like L pl.0 pl.1).0, (pointer_like K pk.0 pk.1).0)
        (two_pointers operator L K ln rn q r a b (as_address L pl.0 q (V a) (R a) pl.1 hq) (as_address K pk.0 r (V b) (R b) pk.1 hr) go)

    eq_ok : (y z : Value) → Points S st.made y (V a) → Points S st.made z (V b) → Decides (equal st.memory y z) (V a ≡ V b) (V a ≢ V b)
    eq_ok y z hy hz = equal_ok S st.made d fits st.memory keeps.blocks y z (V a) (V b) hy hz

    comparable : (operator : BinaryOperator) → AreComparable L K ln rn
        → ((y z : Value) → Points S st.made y (V a) → Points S st.made z (V b) → CountsTo Two true (of_pointers st.memory operator y z) (V (t.operation None operator (record { integer = None; number = ln }) (record { integer = None; number = rn }) a b)))
        → ((s : Size) (g : Bool) (y : Value) → Points S st.made y (V a) → V b ≡ 0 → CountsTo Two true (of_pointer_and_integer st.memory operator (size_of p.structs (target_of L)) y (type s g) (v.Integer 0)) (V (t.operation None operator (record { integer = None; number = ln }) (record { integer = Some (type s g); number = rn }) a b)))
        → ((s : Size) (g : Bool) (z : Value) → Points S st.made z (V b) → V a ≡ 0 → CountsTo Two true (of_integer_and_pointer st.memory operator (size_of p.structs (target_of K)) (type s g) (v.Integer 0) z) (V (t.operation None operator (record { integer = Some (type s g); number = ln }) (record { integer = None; number = rn }) a b)))
        → BinaryIs int operator L K ln rn q r a b
    comparable operator (inl c') one two three = pointers operator c'.0 c'.1 one
    comparable operator (inr (inl c')) one two three =
        by_types operator int L K None (Some (type c'.1.size c'.1.signed)) ln rn q r a b ((pointer_like L c'.0.0 c'.0.1).0, integer_like K c'.1)
        (pointer_and_zero operator L K c'.1.size c'.1.signed ln rn q r a b (knownr 0 c'.2) (as_address L c'.0.0 q (V a) (R a) c'.0.1 hq) (as_integer K c'.1 r (V b) (R b) hr) (two c'.1.size c'.1.signed))
    comparable operator (inr (inr c')) one two three =
        by_types operator int L K (Some (type c'.0.size c'.0.signed)) None ln rn q r a b (integer_like L c'.0, (pointer_like K c'.2.0 c'.2.1).0)
        (zero_and_pointer operator L K c'.0.size c'.0.signed ln rn q r a b (knownl 0 c'.1) (as_integer L c'.0 q (V a) (R a) hq) (as_address K c'.2.0 r (V b) (R b) c'.2.1 hr) (three c'.0.size c'.0.signed))

    in_int : (operator : BinaryOperator) (T : CType) → T ≡ int → BinaryIs int operator L K ln rn q r a b → BinaryIs T operator L K ln rn q r a b
    in_int operator T is h' = subst (λ T'. BinaryIs T' operator L K ln rn q r a b) (sym is) h'

    -- a pointer steps by the integer after it, or before it
    step_right : (back : Bool) (operator : BinaryOperator) → ((size : ℕ) (J : IntegerType) (x y : Value) → of_pointer_and_integer st.memory operator size x J y ≡ stepped st.memory size back x J y)
        → ((size : ℕ) (J : IntegerType) → t.operation (Some size) operator (record { integer = None; number = ln }) (record { integer = Some J; number = rn }) a b ≡ t.step rn size back a b)
        → (target : CType) → value_type L ≡ Pointer target → StepsOver (size_of p.structs target) K rn → BinaryIs (Pointer target) operator L K ln rn q r a b
    step_right back operator is code target vl over =
        let J = type over.0.size over.0.signed in
        let like = pointer_like L target vl in
        by_types operator (Pointer target) L K None (Some J) ln rn q r a b (like.0, integer_like K over.0)
        (subst (λ z. Means S st.made d (Pointer target) (both (operated_by p.structs st.memory operator L K None (Some J)) q r) (V z) (R z)) (sym (code (size_of p.structs target) J))
        (any_pointer Void target _ _ _
        (step_address (size_of p.structs target) back K rn over constantr q r a b (operated_by p.structs st.memory operator L K None (Some J))
        (λ x y. is (size_of p.structs (target_of L)) J x y ∙ ap (λ U. stepped st.memory (size_of p.structs U) back x J y) like.1) knownr (as_address L target q (V a) (R a) vl hq) hr)))

    step_left : (target : CType) (over : StepsOver (size_of p.structs target) L ln) → value_type K ≡ Pointer target → BinaryIs (Pointer target) o.Add L K ln rn q r a b
    step_left target over vk =
        let I = type over.0.size over.0.signed in
        let like = pointer_like K target vk in
        by_types o.Add (Pointer target) L K (Some I) None ln rn q r a b (integer_like L over.0, like.0)
        (any_pointer Void target _ _ _
        (step_address_after (size_of p.structs target) false L ln over constantl q r a b (operated_by p.structs st.memory o.Add L K (Some I) None)
        (λ x y. ap (λ U. stepped st.memory (size_of p.structs U) false y I x) like.1) knownl hq (as_address K target r (V b) (R b) vk hr)))

    in_pointer : (operator : BinaryOperator) (T target : CType) → T ≡ Pointer target → BinaryIs (Pointer target) operator L K ln rn q r a b → BinaryIs T operator L K ln rn q r a b
    in_pointer operator T target is h' = subst (λ T'. BinaryIs T' operator L K ln rn q r a b) (sym is) h'

    lt_ok : (y z : Value) → Points S st.made y (V a) → Points S st.made z (V b) → Decides (less st.memory y z) (V a < V b) (V b ≤ V a)
    lt_ok y z hy hz = less_ok S st.made d fits st.memory keeps.blocks y z (V a) (V b) hy hz

    gt_ok : (y z : Value) → Points S st.made y (V a) → Points S st.made z (V b) → Decides (less st.memory z y) (V b < V a) (V a ≤ V b)
    gt_ok y z hy hz = less_ok S st.made d fits st.memory keeps.blocks z y (V b) (V a) hz hy

    pointers_case : (operator : BinaryOperator) (T : CType) → PointersFit p.structs T operator L K ln rn → BinaryIs T operator L K ln rn q r a b
    pointers_case o.Add T (inl fit) = in_pointer o.Add T fit.1.0 fit.1.1 (step_left fit.1.0 fit.1.3 (fit.1.2 ∙ fit.1.1))
    pointers_case o.Add T (inr fit) = in_pointer o.Add T fit.0 fit.1 (step_right false o.Add (λ size J x y. refl) (λ size J. refl) fit.0 (fit.2 ∙ fit.1) fit.3)
    pointers_case o.Subtract T fit = in_pointer o.Subtract T fit.0 fit.1 (step_right true o.Subtract (λ size J x y. refl) (λ size J. refl) fit.0 (fit.2 ∙ fit.1) fit.3)
    pointers_case o.Equal T fit =
        in_int o.Equal T fit.0 (comparable o.Equal fit.1 (λ y z hy hz. eq_answer _ (V a) (V b) (eq_ok y z hy hz))
        (λ s g y hy zero'. subst (λ n. CountsTo Two true (answer_of (equal st.memory y (v.Integer 0))) (operator_value 2 op.Eq (V a) n)) (sym zero') (eq_answer _ (V a) 0 (equal_zero_ok S st.made d fits st.memory keeps.blocks y 0 (V a) hy)))
        (λ s g z hz zero'. subst (λ n. CountsTo Two true (answer_of (equal st.memory (v.Integer 0) z)) (operator_value 2 op.Eq n (V b))) (sym zero') (eq_answer _ 0 (V b) (zero_equal_ok S st.made d fits st.memory keeps.blocks z 0 (V b) hz))))
    pointers_case o.NotEqual T fit =
        in_int o.NotEqual T fit.0 (comparable o.NotEqual fit.1 (λ y z hy hz. ne_answer _ (V a) (V b) (eq_ok y z hy hz))
        (λ s g y hy zero'. subst (λ n. CountsTo Two true (answer_of (opposite (equal st.memory y (v.Integer 0)))) (operator_value 2 op.Ne (V a) n)) (sym zero') (ne_answer _ (V a) 0 (equal_zero_ok S st.made d fits st.memory keeps.blocks y 0 (V a) hy)))
        (λ s g z hz zero'. subst (λ n. CountsTo Two true (answer_of (opposite (equal st.memory (v.Integer 0) z))) (operator_value 2 op.Ne n (V b))) (sym zero') (ne_answer _ 0 (V b) (zero_equal_ok S st.made d fits st.memory keeps.blocks z 0 (V b) hz))))
    pointers_case o.Less T fit = in_int o.Less T fit.0 (pointers o.Less fit.1 fit.2 (λ y z hy hz. lt_answer _ (V a) (V b) (lt_ok y z hy hz)))
    pointers_case o.Greater T fit = in_int o.Greater T fit.0 (pointers o.Greater fit.1 fit.2 (λ y z hy hz. lt_answer _ (V b) (V a) (gt_ok y z hy hz)))
    pointers_case o.LessOrEqual T fit = in_int o.LessOrEqual T fit.0 (pointers o.LessOrEqual fit.1 fit.2 (λ y z hy hz. le_answer _ (V b) (V a) (gt_ok y z hy hz)))
    pointers_case o.GreaterOrEqual T fit = in_int o.GreaterOrEqual T fit.0 (pointers o.GreaterOrEqual fit.1 fit.2 (λ y z hy hz. le_answer _ (V a) (V b) (lt_ok y z hy hz)))
    pointers_case o.Multiply T fit = absurd fit
    pointers_case o.Divide T fit = absurd fit
    pointers_case o.Remainder T fit = absurd fit
    pointers_case o.BitAnd T fit = absurd fit
    pointers_case o.BitOr T fit = absurd fit
    pointers_case o.BitXor T fit = absurd fit
    pointers_case o.ShiftLeft T fit = absurd fit
    pointers_case o.ShiftRight T fit = absurd fit
    pointers_case o.LogicalAnd T fit = absurd fit
    pointers_case o.LogicalOr T fit = absurd fit

    binary_case : (operator : BinaryOperator) (T : CType) → OperandsFit p.structs T operator L K ln rn → BinaryIs T operator L K ln rn q r a b
    binary_case operator T (inl fit) = integers_case operator T L K ln rn fit.0 fit.1 fit.2 q r a b knownr hq hr
    binary_case operator T (inr fit) = pointers_case operator T fit

  -- ---- all expressions

  variable_ok : (n : ℕ) (T : CType) → IsVariable p f n T → Means S st.made d (value_type T) (e.value_at T (Ok (e.variable_position p n st.frame)) st) (V (x.variable_value (x.scalar_in (slice_get p.variables n)) T (address_at p n))) (R (x.variable_value (x.scalar_in (slice_get p.variables n)) T (address_at p n)))
  variable_ok n T ty =
      subst (λ U. Means S st.made d (value_type U) (e.value_at U (Ok (e.variable_position p n st.frame)) st) (V (x.variable_value (x.scalar_in (slice_get p.variables n)) U (address_at p n))) (R (x.variable_value (x.scalar_in (slice_get p.variables n)) U (address_at p n)))) ty.typed
      (subst (λ z. Means S st.made d (value_type ty.variable.type) (e.value_at ty.variable.type (Ok (e.position_in z st.frame)) st) (V (x.variable_value (x.scalar_in z) ty.variable.type (variable_address z))) (R (x.variable_value (x.scalar_in z) ty.variable.type (variable_address z)))) (sym ty.is)
      (home_value ty.variable.home ty.variable.type ty.variable.address ty.home))

  pub variable_place : (n : ℕ) (T : CType) → IsVariable p f n T → PlaceIs (Ok (e.variable_position p n st.frame)) (m.Const (address_at p n))
  variable_place n T ty = subst (λ z. PlaceIs (Ok (e.position_in z st.frame)) (m.Const (variable_address z))) (sym ty.is) (home_place ty.variable.home ty.variable.type ty.variable.address ty.home)

  element_address : (T : CType) (base index : Expr) → IsTyped p f index → value_type (type_at base) ≡ Pointer T → StepsOver (size_of p.structs T) (type_at index) (as_number index) → ValueIs base → ValueIs index
      → AddressIs (both (λ y i. indexed p.structs st.memory T y (integer_type (type_at index)) i) (e.value p base st) (e.value p index st)) (t.step (as_number index) (size_of p.structs T) false (x.value p base) (x.value p index))
  element_address T base index ti pt over hb hi =
      step_address (size_of p.structs T) false (type_at index) (as_number index) over (λ n is. typed_number index ti n is) _ _ _ _ _
      (λ y i. ap (λ I. indexed p.structs st.memory T y I i) (ap integer_type over.0.is)) (λ n is. number_value p st index n is)
      (any_pointer T Void _ _ _ (in_type S st.made d _ _ _ _ _ pt hb)) hi

  mutual
    pub place_ok : (a : Expr) → IsTyped p f a → PlaceIs (e.position p a st) (x.place p a)
    place_ok (Variable T n name) ty = variable_place n T ty
    place_ok (Number T number span) ty = tt
    place_ok (Parenthesis T left a right) ty = place_ok a ty.1
    place_ok (Binary T l operator at r) ty = tt
    place_ok (Prefix T Negate at a) ty = tt
    place_ok (Prefix T Complement at a) ty = tt
    place_ok (Prefix T Dereference at a) ty = place_of (e.value p a st) (x.value p a) (any_pointer T Void _ _ _ (in_type S st.made d _ _ _ _ _ ty.1 (value_ok a ty.0)))
    place_ok (Prefix T AddressOf at a) ty = tt
    place_ok (Prefix T NotPrefix at a) ty = tt
    place_ok (Cast T left words right a) ty = tt
    place_ok (Index T base left index right) ty = place_of _ _ (element_address T base index ty.1 ty.2 ty.3 (value_ok base ty.0) (value_ok index ty.1))
    place_ok (Select T a Dot at name offset) ty = place_of _ _ (offset_address (pointer_to (e.position p a st)) (x.place p a) offset (address_of (e.position p a st) (x.place p a) (place_ok a ty)))
    place_ok (Select T a Arrow at name offset) ty = place_of _ _ (offset_address (e.value p a st) (x.value p a) offset (any_pointer ty.1.0 Void _ _ _ (in_type S st.made d _ _ _ _ _ ty.1.1 (value_ok a ty.0))))

    pub value_ok : (a : Expr) → IsTyped p f a → ValueIs a
    value_ok (Variable T n name) ty = variable_ok n T ty
    value_ok (Number T number span) ty = (constant_counts T number.value ty S st.made, tt)
    value_ok (Parenthesis T left a right) ty = in_type S st.made d _ _ _ _ _ (ap value_type (sym ty.0)) (value_ok a ty.1)
    value_ok (Binary T l operator at r) ty =
        binary_case (type_at l) (type_at r) (as_number l) (as_number r) (e.value p l st) (e.value p r st) (x.value p l) (x.value p r) (λ n is. number_value p st l n is) (λ n is. number_value p st r n is)
        (λ n is. typed_number l ty.0 n is) (λ n is. typed_number r ty.1 n is) (value_ok l ty.0) (value_ok r ty.1) operator T ty.2
    value_ok (Prefix T Negate at a) ty = negate_ok (type_at a) T ty.1 ty.2 (e.value p a st) (x.value p a) (value_ok a ty.0)
    value_ok (Prefix T Complement at a) ty = complement_ok (type_at a) T ty.1 ty.2 (e.value p a st) (x.value p a) (value_ok a ty.0)
    value_ok (Prefix T Dereference at a) ty = value_at_ok T (e.value p a st) (x.value p a) (any_pointer T Void _ _ _ (in_type S st.made d _ _ _ _ _ ty.1 (value_ok a ty.0)))
    value_ok (Prefix T AddressOf at a) ty = in_type S st.made d _ _ _ _ _ (ap value_type (sym ty.2)) (any_pointer Void (type_at a) _ _ _ (address_of (e.position p a st) (x.place p a) (place_ok a ty.0)))
    value_ok (Prefix T NotPrefix at a) ty = absurd ty
    value_ok (Cast T left words right a) ty = cast_ok (type_at a) T ty.1 ty.2 (e.value p a st) (x.value p a) (value_ok a ty.0)
    value_ok (Index T base left index right) ty = value_at_ok T _ _ (element_address T base index ty.1 ty.2 ty.3 (value_ok base ty.0) (value_ok index ty.1))
    value_ok (Select T a Dot at name offset) ty = value_at_ok T _ _ (offset_address (pointer_to (e.position p a st)) (x.place p a) offset (address_of (e.position p a st) (x.place p a) (place_ok a ty)))
    value_ok (Select T a Arrow at name offset) ty = value_at_ok T _ _ (offset_address (e.value p a st) (x.value p a) offset (any_pointer ty.1.0 Void _ _ _ (in_type S st.made d _ _ _ _ _ ty.1.1 (value_ok a ty.0))))
