-- Loads and stores of scalars through pointers: the same in flat memory, and only at addresses of variables.
use Rattle.std.proofs.Common.{◌≡◌, ◌≢◌, ℕ, zero, suc, ◌+◌, ◌-◌, ◌%◌, ◌<◌, ◌≤◌, List, [], ◌∷◌, ◌++◌, length, Option, Some, None, Result, Ok, Err, Bool, true, false, refl, sym, ap, ◌∙◌, subst, arith, ◌⊎◌, inl, inr}
use Rattle.std.specs.Prelude.{slice_get, slice_set, nat_eq, nat_lt, ◌&&◌, if◌then◌else◌}
use Rattle.std.proofs.lemmas.Option.{slice_get_within, none-some, same_Some}
use Rattle.cerco_base.specs.declared.events.FaultKind.{FaultKind}
use Rattle.cerco_base.specs.declared.events.FaultKind.TheVariants.{Outside, Dead}
use Rattle.cerco_traces.specs.LabelledGraphs.{In}
use Rattle.cerco_traces.specs.Systems.{EachWithin}
use Rattle.c_types.specs.declared.integers.Size.{Size}
use Rattle.c_types.specs.declared.integers.Size.TheVariants.{One, Two, Four}
use Rattle.c_types.specs.Types.{CType, Void, Integer, Pointer, Array, Struct, type_eq, size_eq, bool_eq}
use Rattle.cerco_middle.specs.Operators.{kept, held_bytes, held_addresses}
use Rattle.clight_values.specs.declared.value.Value.{Value}
use Rattle.clight_values.specs.declared.value.Value.TheVariants as v
use Rattle.clight_values.specs.declared.value.Block.{Block}
use Rattle.clight_values.specs.declared.value.Place.{Place}
use Rattle.clight_values.specs.Memory.{Answer, Cell, Memory, live_in, live, cell_in, cell_of, is_kind, begins, accessed_in, accessed, value_set, value_in, loaded_at, load, put, stored_at, stored}
use Rattle.flat_memory.specs.HeldTypes.{held_of}
use Rattle.flat_memory.proofs.Lists.{same_number, not_same, below, not_below, by_test, by_option, get_set_same, get_set_other, length_set}
use Rattle.flat_memory.proofs.Ram.{in_ram, put_ram, ram_back, ram_stays}
use Rattle.flat_memory.proofs.Shapes.{Shape, Points, Counts, Reps, IsWide, IsIn, Fits, Holds, Keeps, Means, kept_reps}

-- ---- types that are the same

same_sizes : (s t : Size) (g h : Bool) → (size_eq s t && bool_eq g h) ≡ true → Integer s g ≡ Integer t h
same_sizes One One true true e = refl
same_sizes One One false false e = refl
same_sizes Two Two true true e = refl
same_sizes Two Two false false e = refl
same_sizes Four Four true true e = refl
same_sizes Four Four false false e = refl
same_sizes One One true false e = absurd cc
same_sizes One One false true e = absurd cc
same_sizes Two Two true false e = absurd cc
same_sizes Two Two false true e = absurd cc
same_sizes Four Four true false e = absurd cc
same_sizes Four Four false true e = absurd cc
same_sizes One Two g h e = absurd cc
same_sizes One Four g h e = absurd cc
same_sizes Two One g h e = absurd cc
same_sizes Two Four g h e = absurd cc
same_sizes Four One g h e = absurd cc
same_sizes Four Two g h e = absurd cc

both_true : (a b : Bool) → (a && b) ≡ true → (a ≡ true) × (b ≡ true)
both_true true true e = (refl, refl)
both_true true false e = absurd cc
both_true false b e = absurd cc

pub same_types : (T U : CType) → type_eq T U ≡ true → T ≡ U
same_types Void Void e = refl
same_types Void (Integer t h) e = absurd cc
same_types Void (Pointer U) e = absurd cc
same_types Void (Array U k) e = absurd cc
same_types Void (Struct k) e = absurd cc
same_types (Integer s g) Void e = absurd cc
same_types (Integer s g) (Integer t h) e = same_sizes s t g h e
same_types (Integer s g) (Pointer U) e = absurd cc
same_types (Integer s g) (Array U k) e = absurd cc
same_types (Integer s g) (Struct k) e = absurd cc
same_types (Pointer T) Void e = absurd cc
same_types (Pointer T) (Integer t h) e = absurd cc
same_types (Pointer T) (Pointer U) e = ap (λ V. Pointer V) (same_types T U e)
same_types (Pointer T) (Array U k) e = absurd cc
same_types (Pointer T) (Struct k) e = absurd cc
same_types (Array T i) Void e = absurd cc
same_types (Array T i) (Integer t h) e = absurd cc
same_types (Array T i) (Pointer U) e = absurd cc
same_types (Array T i) (Array U k) e =
    let b = both_true _ _ e in
    ap (λ V. Array V i) (same_types T U b.0) ∙ ap (λ n. Array U n) (same_number i k b.1)
same_types (Array T i) (Struct k) e = absurd cc
same_types (Struct i) Void e = absurd cc
same_types (Struct i) (Integer t h) e = absurd cc
same_types (Struct i) (Pointer U) e = absurd cc
same_types (Struct i) (Array U k) e = absurd cc
same_types (Struct i) (Struct k) e = ap (λ n. Struct n) (same_number i k e)

-- ---- the cell of a pointer

-- a block that lives, and a place in it or at its end
abbrev pub Lives : Shape → Place → ℕ → Result Block FaultKind → Type 0
Lives S at n (Err k) = Unit {0}
Lives S at n (Ok b) = (slice_get S.blocks at.slot ≡ Some b) × (at.offset ≤ b.size) × (n ≡ S.address b.begin + at.offset)

abbrev AtCell : Shape → ℕ → Result ℕ FaultKind → Type 0
AtCell S n (Err k) = Unit {0}
AtCell S n (Ok i) = (i < S.count) × (S.address i ≡ n)

pub lives : (S : Shape) (made : ℕ) (at : Place) (n : ℕ) → Points S made (v.Pointer at) n → Lives S at n (live_in (slice_get S.blocks at.slot) at.call)
lives S made at n h =
    by_option (λ x. Lives S at n (live_in x at.call)) (slice_get S.blocks at.slot) (λ e. tt) (λ b e.
    by_test (Lives S at n) (nat_eq b.call at.call) (Ok b) (Err Dead) (λ t.
    let k = h.1 b e (same_number b.call at.call t) in
    (e, k.0, k.1)) (λ t. tt))

module _ (S : Shape) (made d : ℕ) (fits : Fits d S) where
  cell_ok : (at : Place) (n : ℕ) (r : Result Block FaultKind) → Lives S at n r → AtCell S n (cell_in r at.offset)
  cell_ok at n (Err k) h = tt
  cell_ok at n (Ok b) h =
      by_test (AtCell S n) (nat_lt at.offset b.size) (Ok (b.begin + at.offset)) (Err Outside) (λ e.
      let lt = below at.offset b.size e in
      let w = fits.block at.slot b h.0 in
      let ends = w.ends in
      (omega arith, w.follow at.offset lt ∙ sym h.2)) (λ e. tt)

  -- an address of a scalar is that of its cell, or of the next one, at which no scalar begins
  byte_of : (i : ℕ) (T : CType) → i < S.count → S.kind i ≡ Some T → (a : ℕ) → In a (held_addresses (held_of T) (S.address i))
      → (j : ℕ) × (j < S.count) × (S.address j ≡ a) × ((j ≡ i) ⊎ ((j ≡ suc i) × (S.kind j ≡ None)))
  byte_of i T lt is a in' = by_width T (fits.wide i T lt is) in'
    where
      one : S.address i ≡ a → (j : ℕ) × (j < S.count) × (S.address j ≡ a) × ((j ≡ i) ⊎ ((j ≡ suc i) × (S.kind j ≡ None)))
      one e = (i, lt, e, inl refl)

      two : (suc i < S.count) × (S.address (suc i) ≡ suc (S.address i)) × (S.kind (suc i) ≡ None) → (S.address i + 1) % 65536 ≡ a → (j : ℕ) × (j < S.count) × (S.address j ≡ a) × ((j ≡ i) ⊎ ((j ≡ suc i) × (S.kind j ≡ None)))
      two w e =
          let w1 = w.1 in
          let hi = fits.high (suc i) w.0 in
          let bd = fits.bound in
          let sm = fits.small in
          (suc i, w.0, omega arith, inr (refl, w.2))

      by_width : (U : CType) → (IsWide U → (suc i < S.count) × (S.address (suc i) ≡ suc (S.address i)) × (S.kind (suc i) ≡ None)) → In a (held_addresses (held_of U) (S.address i))
          → (j : ℕ) × (j < S.count) × (S.address j ≡ a) × ((j ≡ i) ⊎ ((j ≡ suc i) × (S.kind j ≡ None)))
      by_width (Integer One true) w (inl e) = one e
      by_width (Integer One true) w (inr e) = absurd e
      by_width (Integer One false) w (inl e) = one e
      by_width (Integer One false) w (inr e) = absurd e
      by_width (Integer Two g) w (inl e) = one e
      by_width (Integer Two g) w (inr (inl e)) = two (w tt) e
      by_width (Integer Two g) w (inr (inr e)) = absurd e
      by_width (Integer Four g) w (inl e) = one e
      by_width (Integer Four g) w (inr (inl e)) = two (w tt) e
      by_width (Integer Four g) w (inr (inr e)) = absurd e
      by_width Void w (inl e) = one e
      by_width Void w (inr (inl e)) = two (w tt) e
      by_width Void w (inr (inr e)) = absurd e
      by_width (Pointer V) w (inl e) = one e
      by_width (Pointer V) w (inr (inl e)) = two (w tt) e
      by_width (Pointer V) w (inr (inr e)) = absurd e
      by_width (Array V k) w (inl e) = one e
      by_width (Array V k) w (inr (inl e)) = two (w tt) e
      by_width (Array V k) w (inr (inr e)) = absurd e
      by_width (Struct k) w (inl e) = one e
      by_width (Struct k) w (inr (inl e)) = two (w tt) e
      by_width (Struct k) w (inr (inr e)) = absurd e

  all_within : (as' : List ℕ) → ((a : ℕ) → In a as' → (1 ≤ a) × (a ≤ d)) → EachWithin d as'
  all_within [] h = tt
  all_within (a ∷ more) h = let h0 = h a (inl refl) in (h0.0, h0.1, all_within more (λ b e. h b (inr e)))

  pub each_byte : (i : ℕ) (T : CType) → i < S.count → S.kind i ≡ Some T → EachWithin d (held_addresses (held_of T) (S.address i))
  each_byte i T lt is = all_within _ (λ a e.
      let b = byte_of i T lt is a e in
      let at = b.2 in
      let lo = fits.low b.0 b.1 in
      let hi = fits.high b.0 b.1 in
      let bd = fits.bound in
      (omega arith, omega arith))

  -- two scalars at different cells have no address in common
  no_common : (i j : ℕ) (T U : CType) → i < S.count → j < S.count → S.kind i ≡ Some T → S.kind j ≡ Some U → j ≢ i → (a : ℕ) → In a (held_addresses (held_of U) (S.address j)) → In a (held_addresses (held_of T) (S.address i)) → ⊥
  no_common i j T U lt jt is js ne a ej ei =
      let x = byte_of i T lt is a ei in
      let y = byte_of j U jt js a ej in
      by_cells x.0 y.0 (fits.apart x.0 y.0 x.1 y.1 (x.2 ∙ sym y.2)) x.3 y.3
    where
      by_cells : (x y : ℕ) → x ≡ y → ((x ≡ i) ⊎ ((x ≡ suc i) × (S.kind x ≡ None))) → ((y ≡ j) ⊎ ((y ≡ suc j) × (S.kind y ≡ None))) → ⊥
      by_cells x y e (inl p) (inl q) = ne (sym q ∙ sym e ∙ p)
      by_cells x y e (inl p) (inr q) = none-some T (sym q.1 ∙ ap S.kind (sym e ∙ p) ∙ is)
      by_cells x y e (inr p) (inl q) = none-some U (sym p.1 ∙ ap S.kind (e ∙ q) ∙ js)
      by_cells x y e (inr p) (inr q) = let p0 = p.0 in let q0 = q.0 in ne (omega arith)

  module _ (m : Memory) (ram : ℕ → ℕ) (keeps : Keeps S made m ram) where
    accessed_ok : (T : CType) (at : Place) (n : ℕ) → Points S made (v.Pointer at) n → (P : Result ℕ FaultKind → Type 0) → ((k : FaultKind) → P (Err k))
        → ((i : ℕ) (c : Cell) → i < S.count → S.address i ≡ n → slice_get m.cells i ≡ Some c → c.kind ≡ Some T → S.kind i ≡ Some T → P (Ok i)) → P (accessed m T at)
    accessed_ok T at n h P fault found =
        at_cell (cell_in (live_in (slice_get m.blocks at.slot) at.call) at.offset)
        (subst (λ bs. AtCell S n (cell_in (live_in (slice_get bs at.slot) at.call) at.offset)) (sym keeps.blocks) (cell_ok at n _ (lives S made at n h)))
      where
        of_kind : (i : ℕ) (c : Cell) → i < S.count → S.address i ≡ n → slice_get m.cells i ≡ Some c → (k : Option CType) → c.kind ≡ k → P (if is_kind k T then Ok i else Err Outside)
        of_kind i c lt a e None ck = fault Outside
        of_kind i c lt a e (Some U) ck =
            by_test P (type_eq U T) (Ok i) (Err Outside) (λ t.
            let same = ck ∙ ap (λ V. Some V) (same_types U T t) in
            found i c lt a e same (sym (keeps.cell i c e).0 ∙ same)) (λ t. fault Outside)

        of_cell : (i : ℕ) → i < S.count → S.address i ≡ n → (o : Option Cell) → slice_get m.cells i ≡ o → P (if begins o T then Ok i else Err Outside)
        of_cell i lt a None e = fault Outside
        of_cell i lt a (Some c) e = of_kind i c lt a e c.kind refl

        at_cell : (r : Result ℕ FaultKind) → AtCell S n r → P (accessed_in m r T)
        at_cell (Err k) a = fault k
        at_cell (Ok i) a = of_cell i a.0 a.1 (slice_get m.cells i) refl

    pub load_ok : (T : CType) (p : Value) (n : ℕ) → Points S made p n → Means S made d T (load m T p) (in_ram (held_of T) ram n) (held_addresses (held_of T) n)
    load_ok T (v.Integer x) n h = absurd h
    load_ok T v.Null n h = tt
    load_ok T (v.Pointer at) n h =
        accessed_ok T at n h (λ r. Means S made d T (loaded_at m r) (in_ram (held_of T) ram n) (held_addresses (held_of T) n)) (λ k. tt) (λ i c lt a e ck is.
        subst (λ o. Means S made d T (value_in o) (in_ram (held_of T) ram n) (held_addresses (held_of T) n)) (sym e)
        (of_value c.value (subst (λ k. Holds S made ram (S.address i) k c.value) ck (keeps.cell i c e).1) lt a is))
      where
        of_value : {i : ℕ} (w : Option Value) → Holds S made ram (S.address i) (Some T) w → i < S.count → S.address i ≡ n → S.kind i ≡ Some T → Means S made d T (value_set w) (in_ram (held_of T) ram n) (held_addresses (held_of T) n)
        of_value None hold lt a is = tt
        of_value {i = i} (Some w) hold lt a is =
            (subst (λ b. Reps S made T w (in_ram (held_of T) ram b)) a hold, subst (λ b. EachWithin d (held_addresses (held_of T) b)) a (each_byte i T lt is))

    abbrev pub StoreOk : CType → ℕ → ℕ → Result Memory FaultKind → Type 0
    StoreOk T n x (Err k) = Unit {0}
    StoreOk T n x (Ok m') = Keeps S made m' (put_ram (held_of T) ram n x) × EachWithin d (held_addresses (held_of T) n)

    written : (T : CType) (w : Value) (n x i : ℕ) (c : Cell) → Reps S made T w x → i < S.count → S.address i ≡ n → slice_get m.cells i ≡ Some c → c.kind ≡ Some T → S.kind i ≡ Some T
        → StoreOk T n x (Ok (record m { cells = slice_set m.cells i (record c { value = Some w }) }))
    written T w n x i c hw lt a e ck is = (
      record {
        blocks = keeps.blocks;
        count = length_set m.cells i _ ∙ keeps.count;
        cell = λ j c' e'. by_place j c' e' (nat_eq j i) refl;
      },
      subst (λ b. EachWithin d (held_addresses (held_of T) b)) a (each_byte i T lt is),
    )
      where
        c2 : Cell
        c2 = record c { value = Some w }

        fit : n + held_bytes (held_of T) ≤ 65536
        fit = by_width T (fits.wide i T lt is)
          where
            one : n + 1 ≤ 65536
            one = let hi = fits.high i lt in let bd = fits.bound in let sm = fits.small in omega arith

            two : (suc i < S.count) × (S.address (suc i) ≡ suc (S.address i)) × (S.kind (suc i) ≡ None) → n + 2 ≤ 65536
            two q = let q1 = q.1 in let hi = fits.high (suc i) q.0 in let bd = fits.bound in let sm = fits.small in omega arith

            by_width : (U : CType) → (IsWide U → (suc i < S.count) × (S.address (suc i) ≡ suc (S.address i)) × (S.kind (suc i) ≡ None)) → n + held_bytes (held_of U) ≤ 65536
            by_width (Integer One true) q = one
            by_width (Integer One false) q = one
            by_width (Integer Two g) q = two (q tt)
            by_width (Integer Four g) q = two (q tt)
            by_width Void q = two (q tt)
            by_width (Pointer V) q = two (q tt)
            by_width (Array V k) q = two (q tt)
            by_width (Struct k) q = two (q tt)

        there : (c2.kind ≡ S.kind i) × Holds S made (put_ram (held_of T) ram n x) (S.address i) c2.kind (Some w)
        there = (
          ck ∙ sym is,
          subst (λ k. Holds S made (put_ram (held_of T) ram n x) (S.address i) k (Some w)) (sym ck)
              (subst (λ b. Reps S made T w (in_ram (held_of T) (put_ram (held_of T) ram n x) b)) (sym a)
              (subst (Reps S made T w) (sym (ram_back (held_of T) ram n x fit)) (kept_reps d S fits made T w x hw))),
        )

        others : (j : ℕ) → j < S.count → j ≢ i → (k : Option CType) (u : Option Value) → k ≡ S.kind j → Holds S made ram (S.address j) k u → Holds S made (put_ram (held_of T) ram n x) (S.address j) k u
        others j jt ne None u ke hold = tt
        others j jt ne (Some U) None ke hold = tt
        others j jt ne (Some U) (Some u) ke hold =
            subst (Reps S made U u) (sym (ram_stays (held_of U) (held_of T) ram (S.address j) n x (λ b bj bi. no_common i j T U lt jt is (sym ke) ne b bj (subst (λ z. In b (held_addresses (held_of T) z)) (sym a) bi)))) hold

        by_place : (j : ℕ) (c' : Cell) → slice_get (slice_set m.cells i c2) j ≡ Some c' → (t : Bool) → nat_eq j i ≡ t → (c'.kind ≡ S.kind j) × Holds S made (put_ram (held_of T) ram n x) (S.address j) c'.kind c'.value
        by_place j c' e' true t =
            let same = same_number j i t in
            let k = keeps.count in
            let lt' : i < length m.cells = omega arith in
            let is' = same_Some _ _ (sym (get_set_same m.cells i c2 lt') ∙ ap (slice_get (slice_set m.cells i c2)) (sym same) ∙ e') in
            subst (λ q. (c'.kind ≡ S.kind q) × Holds S made (put_ram (held_of T) ram n x) (S.address q) c'.kind c'.value) (sym same)
            (subst (λ (z : Cell). (z.kind ≡ S.kind i) × Holds S made (put_ram (held_of T) ram n x) (S.address i) z.kind z.value) is' there)
        by_place j c' e' false t =
            let ne = not_same j i t in
            let old = sym (get_set_other m.cells i j c2 ne) ∙ e' in
            let k = keeps.cell j c' old in
            let within = slice_get_within m.cells j c' old in
            let n' = keeps.count in
            let jt : j < S.count = omega arith in
            (k.0, others j jt ne c'.kind c'.value k.0 k.1)

    pub store_ok : (T : CType) (p w : Value) (n x : ℕ) → Points S made p n → Reps S made T w x → StoreOk T n x (stored m T p w)
    store_ok T (v.Integer q) w n x h hw = absurd h
    store_ok T v.Null w n x h hw = tt
    store_ok T (v.Pointer at) w n x h hw =
        accessed_ok T at n h (λ r. StoreOk T n x (stored_at m r w)) (λ k. tt) (λ i c lt a e ck is.
        subst (λ o. StoreOk T n x (Ok (put m i o w))) (sym e) (written T w n x i c hw lt a e ck is))
