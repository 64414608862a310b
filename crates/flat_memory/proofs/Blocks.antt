-- The blocks of a call come and go.
use Rattle.std.proofs.Common.{◌≡◌, ◌≢◌, ℕ, zero, suc, ◌+◌, ◌-◌, ◌<◌, ◌≤◌, List, [], ◌∷◌, ◌++◌, length, map, take, Option, Some, None, Result, Ok, Err, Bool, true, false, refl, sym, ap, ◌∙◌, subst, arith, ◌⊎◌, inl, inr, append_assoc, append-nil}
use Rattle.std.specs.Prelude.{slice_get, nat_eq, nat_lt, if◌then◌else◌}
use Rattle.std.proofs.lemmas.Option.{slice_get_within, none-some, same_Some}
use Rattle.std.proofs.lemmas.List.{length-append}
use Rattle.c_types.specs.Types.{CType, Void, Integer, Pointer, Array, Struct}
use Rattle.clight_values.specs.declared.value.Value.{Value}
use Rattle.clight_values.specs.declared.value.Value.TheVariants as v
use Rattle.clight_values.specs.declared.value.Block.{Block}
use Rattle.clight_values.specs.declared.value.Place.{Place}
use Rattle.clight_values.specs.Memory.{Cell, Memory, with_block, with_blocks, left}
use Rattle.flat_memory.proofs.Lists.{below, not_below, get_front, get_back, get_take, length_take, take_append}
use Rattle.flat_memory.proofs.Shapes.{Shape, Points, Reps, IsWide, IsIn, Fits, Holds, Keeps}

-- the older shape is in the newer one, whose further blocks are those of one call
pub record Extends (call : ℕ) (S S' : Shape) : Type 0 where
  pub more : List Block
  pub blocks : S'.blocks ≡ S.blocks ++ more
  pub count : S.count ≤ S'.count
  pub kind : (i : ℕ) → i < S.count → S'.kind i ≡ S.kind i
  pub address : (i : ℕ) → i < S.count → S'.address i ≡ S.address i
  pub fresh : (s : ℕ) (b : Block) → slice_get S'.blocks s ≡ Some b → (slice_get S.blocks s ≡ Some b) ⊎ (b.call ≡ call)

pub old_block : (call : ℕ) (S S' : Shape) → Extends call S S' → (s : ℕ) (b : Block) → slice_get S.blocks s ≡ Some b → slice_get S'.blocks s ≡ Some b
old_block call S S' x s b e = ap (λ bs. slice_get bs s) x.blocks ∙ get_front S.blocks x.more s (slice_get_within S.blocks s b e) ∙ e

pub extends_same : (call : ℕ) (S : Shape) → Extends call S S
extends_same call S = record { more = []; blocks = sym (append-nil S.blocks); count = omega arith; kind = λ i lt. refl; address = λ i lt. refl; fresh = λ s b e. inl e }

pub extends_trans : (call : ℕ) (S S' S'' : Shape) → Extends call S S' → Extends call S' S'' → Extends call S S''
extends_trans call S S' S'' a b =
    let ac = a.count in
    let bc = b.count in
    record {
      more = a.more ++ b.more;
      blocks = b.blocks ∙ ap (λ l. l ++ b.more) a.blocks ∙ append_assoc S.blocks a.more b.more;
      count = omega arith;
      kind = λ i lt. b.kind i (omega arith) ∙ a.kind i lt;
      address = λ i lt. b.address i (omega arith) ∙ a.address i lt;
      fresh = λ s bl e. either s bl (b.fresh s bl e);
    }
  where
    either : (s : ℕ) (bl : Block) → (slice_get S'.blocks s ≡ Some bl) ⊎ (bl.call ≡ call) → (slice_get S.blocks s ≡ Some bl) ⊎ (bl.call ≡ call)
    either s bl (inl e) = a.fresh s bl e
    either s bl (inr e) = inr e

module _ (d call : ℕ) (S S' : Shape) (fits : Fits d S) (x : Extends call S S') where
  pub same_begin : (s : ℕ) (b : Block) → slice_get S.blocks s ≡ Some b → S'.address b.begin ≡ S.address b.begin
  same_begin s b e = let w = fits.block s b e in let some = w.some in let ends = w.ends in x.address b.begin (omega arith)

  -- what a value is in the newer memory it is in the older one
  forget_points : (made : ℕ) (w : Value) (n : ℕ) → Points S' made w n → Points S made w n
  forget_points made (v.Integer y) n h = h
  forget_points made v.Null n h = h
  forget_points made (v.Pointer at) n h =
      (h.0, λ b e is. let q = h.1 b (old_block call S S' x at.slot b e) is in let q1 = q.1 in let same = same_begin at.slot b e in (q.0, omega arith))

  pub forget_reps : (made : ℕ) (T : CType) (w : Value) (n : ℕ) → Reps S' made T w n → Reps S made T w n
  forget_reps made Void w n h = h
  forget_reps made (Integer s g) w n h = h
  forget_reps made (Pointer T) w n h = forget_points made w n h
  forget_reps made (Array T k) w n h = h
  forget_reps made (Struct k) w n h = h

  -- and an older call's value stays what it was
  keep_points : (made : ℕ) → made ≤ call → (w : Value) (n : ℕ) → Points S made w n → Points S' made w n
  keep_points made le (v.Integer y) n h = h
  keep_points made le v.Null n h = h
  keep_points made le (v.Pointer at) n h = (h.0, λ b e is. by_age b is (x.fresh at.slot b e))
    where
      by_age : (b : Block) → b.call ≡ at.call → (slice_get S.blocks at.slot ≡ Some b) ⊎ (b.call ≡ call) → (at.offset ≤ b.size) × (n ≡ S'.address b.begin + at.offset)
      by_age b is (inl e) = let q = h.1 b e is in let q1 = q.1 in let same = same_begin at.slot b e in (q.0, omega arith)
      by_age b is (inr e) = let h0 = h.0 in absurd (omega arith)

  pub keep_reps : (made : ℕ) → made ≤ call → (T : CType) (w : Value) (n : ℕ) → Reps S made T w n → Reps S' made T w n
  keep_reps made le Void w n h = h
  keep_reps made le (Integer s g) w n h = h
  keep_reps made le (Pointer T) w n h = keep_points made le w n h
  keep_reps made le (Array T k) w n h = h
  keep_reps made le (Struct k) w n h = h

  pub keep_holds : (made : ℕ) → made ≤ call → (ram : ℕ → ℕ) (a : ℕ) (k : Option CType) (w : Option Value) → Holds S made ram a k w → Holds S' made ram a k w
  keep_holds made le ram a None w h = tt
  keep_holds made le ram a (Some T) None h = tt
  keep_holds made le ram a (Some T) (Some w) h = keep_reps made le T w _ h

  forget_holds : (made : ℕ) (ram : ℕ → ℕ) (a : ℕ) (k : Option CType) (w : Option Value) → Holds S' made ram a k w → Holds S made ram a k w
  forget_holds made ram a None w h = tt
  forget_holds made ram a (Some T) None h = tt
  forget_holds made ram a (Some T) (Some w) h = forget_reps made T w _ h

  -- when the call has returned
  pub left_keeps : (made : ℕ) (m' : Memory) (ram : ℕ → ℕ) → Keeps S' made m' ram → Keeps S made (left (length S.blocks) S.count m') ram
  left_keeps made m' ram k =
      let kc = k.count in
      let xc = x.count in
      record {
        blocks = ap (take (length S.blocks)) (k.blocks ∙ x.blocks) ∙ take_append S.blocks x.more;
        count = length_take m'.cells S.count (omega arith);
        cell = λ i c e.
            let t = get_take m'.cells S.count i c e in
            let lt = t.0 in
            let q = k.cell i c t.1 in
            (q.0 ∙ x.kind i lt, subst (λ a. Holds S made ram a c.kind c.value) (x.address i lt) (forget_holds made ram _ c.kind c.value q.1));
      }

-- ---- one block comes

abbrev pub kind_at : Option Cell → Option CType
kind_at None = None
kind_at (Some c) = c.kind

-- it has a byte, and a scalar of two bytes has its second one in it, at which no scalar begins
pub record IsBlock (cells : List Cell) : Type 0 where
  pub some : 1 ≤ length cells
  pub wide : (i : ℕ) (T : CType) → kind_at (slice_get cells i) ≡ Some T → IsWide T → (suc i < length cells) × (kind_at (slice_get cells (suc i)) ≡ None)

-- its cells are unset, or what external RAM holds from this address on
abbrev pub StartsAt : (ℕ → ℕ) → ℕ → List Cell → Type 0
StartsAt ram a cells = (S : Shape) (made i : ℕ) (c : Cell) → slice_get cells i ≡ Some c → Holds S made ram (a + i) c.kind c.value

module _ (d call : ℕ) (S : Shape) (fits : Fits d S) (cells : List Cell) (a : ℕ) (above : S.top ≤ a) (fit : a + length cells ≤ suc d) (ok : IsBlock cells) where
  abbrev pub the_block : Block
  the_block = record { call = call; begin = S.count; size = length cells }

  abbrev pub grown : Shape
  grown = record {
    kind = λ i. if nat_lt i S.count then S.kind i else kind_at (slice_get cells (i - S.count));
    count = S.count + length cells;
    blocks = S.blocks ++ the_block ∷ [];
    address = λ i. if nat_lt i S.count then S.address i else a + (i - S.count);
    top = a + length cells;
  }

  lt_true : (i : ℕ) → i < S.count → nat_lt i S.count ≡ true
  lt_true i h = grind arith

  lt_false : (o : ℕ) → nat_lt (S.count + o) S.count ≡ false
  lt_false o = grind arith

  address_old : (i : ℕ) → i < S.count → grown.address i ≡ S.address i
  address_old i h = ap (λ (t : Bool). if t then S.address i else a + (i - S.count)) (lt_true i h)

  address_new : (o : ℕ) → grown.address (S.count + o) ≡ a + o
  address_new o = ap (λ (t : Bool). if t then S.address (S.count + o) else a + (S.count + o - S.count)) (lt_false o) ∙ omega arith

  kind_old : (i : ℕ) → i < S.count → grown.kind i ≡ S.kind i
  kind_old i h = ap (λ (t : Bool). if t then S.kind i else kind_at (slice_get cells (i - S.count))) (lt_true i h)

  kind_new : (o : ℕ) → grown.kind (S.count + o) ≡ kind_at (slice_get cells o)
  kind_new o =
      let e : S.count + o - S.count ≡ o = omega arith in
      ap (λ (t : Bool). if t then S.kind (S.count + o) else kind_at (slice_get cells (S.count + o - S.count))) (lt_false o) ∙ ap (λ k. kind_at (slice_get cells k)) e

  split : (P : ℕ → Type 0) → ((i : ℕ) → i < S.count → P i) → ((o : ℕ) → o < length cells → P (S.count + o)) → (i : ℕ) → i < S.count + length cells → P i
  split P old new i h = by_case (nat_lt i S.count) refl
    where
      by_case : (t : Bool) → nat_lt i S.count ≡ t → P i
      by_case true e = old i (below i S.count e)
      by_case false e =
          let le = not_below i S.count e in
          let same : S.count + (i - S.count) ≡ i = omega arith in
          subst P same (new (i - S.count) (omega arith))

  -- a block of the grown list
  of_list : (P : ℕ → Block → Type 0) → ((s : ℕ) (b : Block) → s < length S.blocks → slice_get S.blocks s ≡ Some b → P s b) → P (length S.blocks) the_block → (s : ℕ) (b : Block) → slice_get grown.blocks s ≡ Some b → P s b
  of_list P old new s b e = by_case (nat_lt s (length S.blocks)) refl
    where
      by_case : (t : Bool) → nat_lt s (length S.blocks) ≡ t → P s b
      by_case true t = let lt = below s _ t in old s b lt (sym (get_front S.blocks (the_block ∷ []) s lt) ∙ e)
      by_case false t =
          let le = not_below s _ t in
          let w = slice_get_within grown.blocks s b e in
          let size = length-append S.blocks (the_block ∷ []) in
          let at : length S.blocks + 0 ≡ s = omega arith in
          let at' : length S.blocks ≡ s = omega arith in
          let is = same_Some _ _ (sym (get_back S.blocks (the_block ∷ []) 0) ∙ ap (slice_get grown.blocks) at ∙ e) in
          subst (λ k. P k b) at' (subst (P (length S.blocks)) is new)

  begin_old : (s : ℕ) (b : Block) → slice_get S.blocks s ≡ Some b → (o : ℕ) → o < b.size → b.begin + o < S.count
  begin_old s b e o lt = let w = fits.block s b e in let ends = w.ends in omega arith

  pub grown_fits : Fits d grown
  grown_fits = record {
    low = split (λ i. 1 ≤ grown.address i) (λ i lt. subst (λ k. 1 ≤ k) (sym (address_old i lt)) (fits.low i lt)) (λ o lt. let e = address_new o in let q : 1 ≤ a = a_low in omega arith);
    high = split (λ i. grown.address i < a + length cells) (λ i lt. let e = address_old i lt in let q = fits.high i lt in omega arith) (λ o lt. let e = address_new o in omega arith);
    apart = λ i j il jl. split (λ i. (j : ℕ) → j < S.count + length cells → grown.address i ≡ grown.address j → i ≡ j)
        (λ i lt. split (λ j. grown.address i ≡ grown.address j → i ≡ j)
        (λ j lt' e. fits.apart i j lt lt' (sym (address_old i lt) ∙ e ∙ address_old j lt'))
        (λ o lt' e. let e1 = address_old i lt in let e2 = address_new o in let q = fits.high i lt in absurd (omega arith)))
        (λ o lt. split (λ j. grown.address (S.count + o) ≡ grown.address j → S.count + o ≡ j)
        (λ j lt' e. let e1 = address_old j lt' in let e2 = address_new o in let q = fits.high j lt' in absurd (omega arith))
        (λ o' lt' e. let e1 = address_new o' in let e2 = address_new o in omega arith))
        i il j jl;
    first = let q : 1 ≤ a = a_low in omega arith;
    bound = fit;
    small = fits.small;
    wide = λ i T il is w. split (λ i. grown.kind i ≡ Some T → IsWide T → (suc i < grown.count) × (grown.address (suc i) ≡ suc (grown.address i)) × (grown.kind (suc i) ≡ None))
        (λ i lt is w.
        let q = fits.wide i T lt (sym (kind_old i lt) ∙ is) w in
        let q0 = q.0 in
        (omega arith, address_old (suc i) q.0 ∙ q.1 ∙ ap suc (sym (address_old i lt)), kind_old (suc i) q.0 ∙ q.2))
        (λ o lt is w.
        let q = ok.wide o T (sym (kind_new o) ∙ is) w in
        let q0 = q.0 in
        let e : S.count + suc o ≡ suc (S.count + o) = omega arith in
        let e1 = ap grown.address (sym e) ∙ address_new (suc o) in
        let e2 = address_new o in
        (omega arith, omega arith, ap grown.kind (sym e) ∙ kind_new (suc o) ∙ q.1))
        i il is w;
    block = of_list (λ s b. IsIn grown b) (λ s b lt e.
        let w = fits.block s b e in
        let ends = w.ends in
        let some = w.some in
        record {
          some = some;
          ends = omega arith;
          follow = λ o lt. let e1 = address_old (b.begin + o) (begin_old s b e o lt) in let e2 = address_old b.begin (omega arith) in let e3 = w.follow o lt in omega arith;
        })
        (record { some = ok.some; ends = omega arith; follow = λ o lt. let e1 = address_new o in let z : S.count + 0 ≡ S.count = omega arith in let e2 = ap grown.address (sym z) ∙ address_new 0 in omega arith });
    others = λ s s' b b' ne e e'. of_list (λ s b. (s' : ℕ) (b' : Block) → slice_get grown.blocks s' ≡ Some b' → s ≢ s' → (o o' : ℕ) → o < b.size → o' < b'.size → b.begin + o ≢ b'.begin + o')
        (λ s b lt e. of_list (λ s' b'. s ≢ s' → (o o' : ℕ) → o < b.size → o' < b'.size → b.begin + o ≢ b'.begin + o')
        (λ s' b' lt' e' ne. fits.others s s' b b' ne e e')
        (λ ne o o' l l' is. let q = begin_old s b e o l in absurd (omega arith)))
        (of_list (λ s' b'. length S.blocks ≢ s' → (o o' : ℕ) → o < length cells → o' < b'.size → S.count + o ≢ b'.begin + o')
        (λ s' b' lt' e' ne o o' l l' is. let q = begin_old s' b' e' o' l' in absurd (omega arith))
        (λ ne o o' l l' is. ne refl))
        s b e s' b' e' ne;
  }
    where
      a_low : 1 ≤ a
      a_low = let q = fits.first in omega arith

  pub grown_extends : Extends call S grown
  grown_extends = record {
    more = the_block ∷ [];
    blocks = refl;
    count = omega arith;
    kind = kind_old;
    address = address_old;
    fresh = of_list (λ s b. (slice_get S.blocks s ≡ Some b) ⊎ (b.call ≡ call)) (λ s b lt e. inl e) (inr refl);
  }

  pub grown_keeps : (made : ℕ) → made ≤ call → (m : Memory) (ram : ℕ → ℕ) → Keeps S made m ram → StartsAt ram a cells → Keeps grown made (with_block call cells m) ram
  grown_keeps made le m ram k starts =
      let kc = k.count in
      let size = length-append m.cells cells in
      record {
        blocks = ap (λ n. m.blocks ++ (record { call = call; begin = n; size = length cells }) ∷ []) k.count ∙ ap (λ bs. bs ++ the_block ∷ []) k.blocks;
        count = omega arith;
        cell = λ i c e.
            let w = slice_get_within (m.cells ++ cells) i c e in
            split (λ i. slice_get (m.cells ++ cells) i ≡ Some c → (c.kind ≡ grown.kind i) × Holds grown made ram (grown.address i) c.kind c.value)
            (λ i lt e.
            let in_old : i < length m.cells = omega arith in
            let q = k.cell i c (sym (get_front m.cells cells i in_old) ∙ e) in
            (q.0 ∙ sym (kind_old i lt), subst (λ z. Holds grown made ram z c.kind c.value) (sym (address_old i lt)) (keep_holds d call S grown fits grown_extends made le ram _ c.kind c.value q.1)))
            (λ o lt e.
            let is = sym (get_back m.cells cells o) ∙ ap (λ z. slice_get (m.cells ++ cells) (z + o)) kc ∙ e in
            (sym (ap kind_at is) ∙ sym (kind_new o), subst (λ z. Holds grown made ram z c.kind c.value) (sym (address_new o)) (starts grown made o c is)))
            i (omega arith) e;
      }

  pub grown_stands : (b : Block) → slice_get grown.blocks (length S.blocks) ≡ Some b → grown.address b.begin ≡ a
  grown_stands b e =
      let z : length S.blocks + 0 ≡ length S.blocks = omega arith in
      let is = same_Some _ _ (sym (get_back S.blocks (the_block ∷ []) 0) ∙ ap (slice_get grown.blocks) z ∙ e) in
      let y : S.count + 0 ≡ S.count = omega arith in
      ap (λ (q : Block). grown.address q.begin) (sym is) ∙ ap grown.address (sym y) ∙ address_new 0 ∙ omega arith

-- ---- all blocks of a call come

-- a block's cells, and its address
pub record Placed : Type 0 where
  pub cells : List Cell
  pub at : ℕ

abbrev pub cells_of : List Placed → List (List Cell)
cells_of [] = []
cells_of (b ∷ bs) = b.cells ∷ cells_of bs

-- blocks one after the other, between two addresses
abbrev pub Rising : ℕ → List Placed → ℕ → Type 0
Rising from [] to = from ≤ to
Rising from (b ∷ bs) to = (from ≤ b.at) × IsBlock b.cells × Rising (b.at + length b.cells) bs to

abbrev pub AllStart : (ℕ → ℕ) → List Placed → Type 0
AllStart ram [] = Unit {0}
AllStart ram (b ∷ bs) = StartsAt ram b.at b.cells × AllStart ram bs

pub rising_ends : (from : ℕ) (bs : List Placed) (to : ℕ) → Rising from bs to → from ≤ to
rising_ends from [] to h = h
rising_ends from (b ∷ bs) to h = let h0 = h.0 in let q = rising_ends (b.at + length b.cells) bs to h.2 in omega arith

pub record Enters (d call made : ℕ) (S : Shape) (m : Memory) (ram : ℕ → ℕ) (bs : List Placed) (to : ℕ) : Type 0 where
  pub shape : Shape
  pub extends : Extends call S shape
  pub fits : Fits d shape
  pub keeps : Keeps shape made (with_blocks call (cells_of bs) m) ram
  pub top : shape.top ≤ to
  pub stands : (b : ℕ) (x : Placed) → slice_get bs b ≡ Some x → (bl : Block) → slice_get shape.blocks (length S.blocks + b) ≡ Some bl → shape.address bl.begin ≡ x.at

pub enters : (d call made : ℕ) → made ≤ call → (bs : List Placed) (to : ℕ) → to ≤ suc d → (S : Shape) → Fits d S → (m : Memory) (ram : ℕ → ℕ) → Keeps S made m ram → Rising S.top bs to → AllStart ram bs → Enters d call made S m ram bs to
enters d call made le [] to low S fits m ram k rise starts = record {
  shape = S;
  extends = extends_same call S;
  fits = fits;
  keeps = k;
  top = rise;
  stands = λ b x e. absurd (none-some x e);
}
enters d call made le (x ∷ more) to low S fits m ram k rise starts =
    let last = rising_ends (x.at + length x.cells) more to rise.2 in
    let fit1 : x.at + length x.cells ≤ suc d = omega arith in
    let S1 = grown d call S fits x.cells x.at rise.0 fit1 rise.1 in
    let x1 = grown_extends d call S fits x.cells x.at rise.0 fit1 rise.1 in
    let f1 = grown_fits d call S fits x.cells x.at rise.0 fit1 rise.1 in
    let k1 = grown_keeps d call S fits x.cells x.at rise.0 fit1 rise.1 made le m ram k starts.0 in
    let e = enters d call made le more to low S1 f1 (with_block call x.cells m) ram k1 rise.2 starts.1 in
    record {
      shape = e.shape;
      extends = extends_trans call S S1 e.shape x1 e.extends;
      fits = e.fits;
      keeps = e.keeps;
      top = e.top;
      stands = at_block fit1 e (grown_stands d call S fits x.cells x.at rise.0 fit1 rise.1);
    }
  where
    at_block : (fit1 : x.at + length x.cells ≤ suc d) (e : Enters d call made (grown d call S fits x.cells x.at rise.0 fit1 rise.1) (with_block call x.cells m) ram more to)
        → ((b : Block) → slice_get (grown d call S fits x.cells x.at rise.0 fit1 rise.1).blocks (length S.blocks) ≡ Some b → (grown d call S fits x.cells x.at rise.0 fit1 rise.1).address b.begin ≡ x.at)
        → (b : ℕ) (y : Placed) → slice_get (x ∷ more) b ≡ Some y → (bl : Block) → slice_get e.shape.blocks (length S.blocks + b) ≡ Some bl → e.shape.address bl.begin ≡ y.at
    at_block fit1 e first zero y is bl is' =
        let z : length S.blocks + 0 ≡ length S.blocks = omega arith in
        let new : Block = record { call = call; begin = S.count; size = length x.cells } in
        let here = ap (slice_get (S.blocks ++ new ∷ [])) (sym z) ∙ get_back S.blocks (new ∷ []) 0 in
        let there = old_block call _ e.shape e.extends (length S.blocks) new here in
        let same = same_Some _ _ (sym there ∙ ap (slice_get e.shape.blocks) (sym z) ∙ is') in
        let some = rise.1.some in
        ap (λ (q : Block). e.shape.address q.begin) (sym same) ∙ e.extends.address S.count (omega arith) ∙ first new here ∙ ap (λ (q : Placed). q.at) (same_Some _ _ is)
    at_block fit1 e first (suc b) y is bl is' =
        let size = length-append S.blocks ((record { call = call; begin = S.count; size = length x.cells }) ∷ []) in
        let z : length S.blocks + suc b ≡ length (S.blocks ++ (record { call = call; begin = S.count; size = length x.cells }) ∷ []) + b = omega arith in
        e.stands b y is bl (ap (slice_get e.shape.blocks) (sym z) ∙ is')
