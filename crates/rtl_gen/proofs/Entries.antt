-- Nothing of a call's own is live at an entry.
use Rattle.std.proofs.Common.{◌≡◌, ◌≢◌, ℕ, zero, suc, ◌+◌, ◌*◌, ◌≤◌, ◌⊎◌, inl, inr, ⊎_elim, List, [], ◌∷◌, ◌++◌, take, drop, Option, Some, refl, sym, ap, subst, arith, append_assoc}
use Rattle.std.proofs.lemmas.Bool.Decides.{eqb_tells}
use Rattle.cerco_traces.specs.LabelledGraphs.{In, SoundlyLabelled}
use Rattle.cerco_middle.specs.declared.operators.Held.{Held}
use Rattle.cerco_middle.specs.declared.operators.Held.TheVariants.{U8, I8, W16}
use Rattle.cerco_middle.specs.declared.operators.CmOp.TheVariants as o
use Rattle.cerco_middle.specs.declared.rtlabs.RtOp.{RtOp}
use Rattle.cerco_middle.specs.declared.rtlabs.RtOp.TheVariants as op
use Rattle.cerco_middle.specs.Operators.{held_bytes, all_held_bytes}
use Rattle.cerco_middle.specs.Calls.{variable_held}
use Rattle.cerco_middle.specs.RtLabs.Graphs.{RtFunction, RtLabs, flow_graph, used_by, written_by}
use Rattle.cerco_middle.specs.RtLabs.WellFormed.{IsWellFormedFunction, IsWithinTwelve, Unwritten, at_start, passing}
use Rattle.rtl.specs.Operations.{ByteOp}
use Rattle.rtl.specs.Programs.{Graph}
use Rattle.rtl.specs.Effects.{Loc, Carry}
use Rattle.rtl.specs.Graphs.{ops_at}
use Rattle.rtl.specs.Liveness.{IsAmong, IsArgument, Uses, LiveAt}
use Rattle.rtl.specs.WellFormed.{gathered, op_locations}
use Rattle.rtl.proofs.Points.{live_is_named}
use Rattle.byte_sequences.specs.Words.{word_from}
use Rattle.byte_sequences.specs.Sequences.{held_part, moves, zeros, reading}
use Rattle.byte_sequences.specs.Operations.{operation_code, operation_exit}
use Rattle.byte_sequences.proofs.OperationLaws.{number}
use Rattle.rtl_gen.specs.Translation.{entry_code, taken, cleared, translated_function}
use Rattle.rtl_gen.proofs.Named.{UsesWork, Part, named_code, named_entry, variable_bytes, in_first, in_second, in_either, own_far, location_cases, own_cases}
use Rattle.rtl_gen.proofs.LivePaths.{Free, none_first, Guarded, free_guarded}
use Rattle.rtl_gen.proofs.Fronts.{entry_dead}

-- ---- decisions

pub in_or_not : (v : ℕ) (xs : List ℕ) → In v xs ⊎ (In v xs → ⊥)
in_or_not v [] = inr (λ i. i)
in_or_not v (x ∷ xs) = ⊎_elim
    (λ e. inl (inl e.1))
    (λ e. ⊎_elim (λ i. inl (inr i)) (λ none. inr (λ i. ⊎_elim (λ same. e.1 same) (λ later. none later) i)) (in_or_not v xs))
    (eqb_tells x v)

-- ---- exits

pub uses_none : (g : Graph ℕ) (o : RtOp) (r p v : ℕ) → 24 ≢ v → (IsArgument 12 (Loc v) → ⊥) → Uses 12 (operation_exit number o r) g p (Loc v) → ⊥
uses_none g (op.Test t on_true on_false) r p v other far uses = other (same uses)
  where
    same : {m n : ℕ} → Loc m ≡ Loc n → m ≡ n
    same e = cc
uses_none g op.Return r p v other far uses = far uses.0
uses_none g (op.ReturnValue t) r p v other far uses = far uses.0
uses_none g (op.Call c) r p v other far uses = far uses.0
uses_none g (op.Const t n) r p v other far uses = uses
uses_none g (op.Get t x) r p v other far uses = uses
uses_none g (op.Put x t) r p v other far uses = uses
uses_none g (op.Neg t) r p v other far uses = uses
uses_none g (op.Not t) r p v other far uses = uses
uses_none g (op.Narrow h t) r p v other far uses = uses
uses_none g (op.Bin o t u) r p v other far uses = uses
uses_none g (op.Shl n t) r p v other far uses = uses
uses_none g (op.Shr n keeps_sign t) r p v other far uses = uses
uses_none g (op.Load h t) r p v other far uses = uses
uses_none g (op.Store h t u) r p v other far uses = uses
uses_none g (op.ReadPort t) r p v other far uses = uses
uses_none g (op.WritePort t) r p v other far uses = uses
uses_none g (op.Arg h first t) r p v other far uses = uses
uses_none g (op.Result h t) r p v other far uses = uses
uses_none g (op.Label l) r p v other far uses = uses

-- ---- temporaries

-- a read of one or of two other locations
pub one_read : {a v : ℕ} → v ≢ a → IsAmong (Loc v) (Loc a ∷ []) → ⊥
one_read other (inl e) = other (same (sym e))
  where
    same : {m n : ℕ} → Loc m ≡ Loc n → m ≡ n
    same e = cc
one_read other (inr n) = n

itself_read : {a v : ℕ} → v ≢ a → IsAmong (Loc v) (Carry ∷ Loc a ∷ Loc a ∷ []) → ⊥
itself_read other (inl e) = differ e
  where
    differ : {m : ℕ} → Carry ≡ Loc m → ⊥
    differ e = cc
itself_read other (inr (inl e)) = one_read other (inl e)
itself_read other (inr (inr i)) = one_read other i

pub two_read : {a b v : ℕ} → v ≢ a → v ≢ b → IsAmong (Loc v) (Loc a ∷ Loc b ∷ []) → ⊥
two_read other other' (inl e) = one_read other (inl e)
two_read other other' (inr i) = one_read other' i

-- v is one of the two bytes of a word
abbrev pub IsByteOf : ℕ → ℕ → Type 0
IsByteOf v a = (v ≡ a) ⊎ (v ≡ a + 1)

high_not_low : (v a : ℕ) → v ≡ a + 1 → v ≢ a
high_not_low v a e e' = omega (arith, e, e')

reading_kills : (h : Held) (a b v : ℕ) (E : Type 0) → IsByteOf v a → v ≢ b → v ≢ b + 1 → Guarded (Loc v) (reading h (word_from number a) (word_from number b)) E
reading_kills U8 a b v E (inl e) low high = (one_read low, inl (inl (ap Loc (sym e))))
reading_kills U8 a b v E (inr e) low high = (one_read low, inr (λ i. i, inl (inl (ap Loc (sym e)))))
reading_kills I8 a b v E (inl e) low high = (one_read low, inl (inl (ap Loc (sym e))))
reading_kills I8 a b v E (inr e) low high = (one_read low, inr (one_read (high_not_low v a e), inr (itself_read (high_not_low v a e), inl (inl (ap Loc (sym e))))))
reading_kills W16 a b v E (inl e) low high = (one_read low, inl (inl (ap Loc (sym e))))
reading_kills W16 a b v E (inr e) low high = (one_read low, inr (one_read high, inl (inl (ap Loc (sym e)))))

byte_far : (v a : ℕ) → IsByteOf v a → (a ≤ v) × (v ≤ a + 1)
byte_far v a (inl e) = (omega (arith, e), omega (arith, e))
byte_far v a (inr e) = (omega (arith, e), omega (arith, e))

-- a temporary that is written without being used
temporary_kills : (held : List Held) (result : Option Held) (o : RtOp) (t v : ℕ) (E : Type 0) → IsByteOf v (27 + 4 * t) → In t (written_by o) → (In t (used_by o) → ⊥) → Guarded (Loc v) (operation_code number held result o) E
temporary_kills held result (op.Const u n) t v E is (inl e) unused = by (subst (λ z. IsByteOf v (27 + 4 * z)) (sym e) is)
  where
    by : IsByteOf v (27 + 4 * u) → Guarded (Loc v) (operation_code number held result (op.Const u n)) E
    by (inl s) = (λ i. i, inl (inl (ap Loc (sym s))))
    by (inr s) = (λ i. i, inr (λ i. i, inl (inl (ap Loc (sym s)))))
temporary_kills held result (op.Get u x) t v E is (inl e) unused =
    let is' = subst (λ z. IsByteOf v (27 + 4 * z)) (sym e) is in
    let low = (byte_far v (27 + 4 * u) is').0 in
    let high = (byte_far v (27 + 4 * u) is').1 in
    reading_kills (variable_held held x) (27 + 4 * u) (25 + 4 * x) v E is' (λ s. omega (arith, low, high, s)) (λ s. omega (arith, low, high, s))
temporary_kills held result (op.Result h u) t v E is (inl e) unused =
    let is' = subst (λ z. IsByteOf v (27 + 4 * z)) (sym e) is in
    let low = (byte_far v (27 + 4 * u) is').0 in
    reading_kills h (27 + 4 * u) 12 v E is' (λ s. omega (arith, low, s)) (λ s. omega (arith, low, s))
temporary_kills held result (op.ReadPort u) t v E is (inl e) unused = by (subst (λ z. IsByteOf v (27 + 4 * z)) (sym e) is)
  where
    by : IsByteOf v (27 + 4 * u) → Guarded (Loc v) (operation_code number held result (op.ReadPort u)) E
    by (inl s) = (λ i. i, inl (inl (ap Loc (sym s))))
    by (inr s) = (λ i. i, inr (λ i. i, inl (inl (ap Loc (sym s)))))
temporary_kills held result (op.Const u n) t v E is (inr n') unused = absurd n'
temporary_kills held result (op.Get u x) t v E is (inr n') unused = absurd n'
temporary_kills held result (op.Result h u) t v E is (inr n') unused = absurd n'
temporary_kills held result (op.ReadPort u) t v E is (inr n') unused = absurd n'
temporary_kills held result (op.Put x u) t v E is written unused = absurd written
temporary_kills held result (op.Neg u) t v E is written unused = absurd (unused written)
temporary_kills held result (op.Not u) t v E is written unused = absurd (unused written)
temporary_kills held result (op.Narrow h u) t v E is written unused = absurd (unused written)
temporary_kills held result (op.Bin o u w) t v E is (inl e) unused = absurd (unused (inl e))
temporary_kills held result (op.Bin o u w) t v E is (inr n') unused = absurd n'
temporary_kills held result (op.Shl k u) t v E is written unused = absurd (unused written)
temporary_kills held result (op.Shr k keeps_sign u) t v E is written unused = absurd (unused written)
temporary_kills held result (op.Load h u) t v E is written unused = absurd (unused written)
temporary_kills held result (op.Store h u w) t v E is written unused = absurd written
temporary_kills held result (op.WritePort u) t v E is written unused = absurd written
temporary_kills held result (op.Arg h first u) t v E is written unused = absurd written
temporary_kills held result (op.Call g) t v E is written unused = absurd written
temporary_kills held result (op.Label l) t v E is written unused = absurd written
temporary_kills held result (op.Test u on_true on_false) t v E is written unused = absurd written
temporary_kills held result op.Return t v E is written unused = absurd written
temporary_kills held result (op.ReturnValue u) t v E is written unused = absurd written

in_both : (t : ℕ) (xs ys : List ℕ) → In t (xs ++ ys) → (In t xs → ⊥) → (In t ys → ⊥) → ⊥
in_both t xs ys i f g = ⊎_elim f g (in_either t xs ys i)

-- a part of a variable is none of a temporary's bytes
pub part_free : (v : ℕ) (h : Held) (a : ℕ) → a ≢ v → a + 1 ≢ v → Part number (λ w. w ≢ v) h a
part_free v U8 a low high = (low, tt)
part_free v I8 a low high = (low, tt)
part_free v W16 a low high = (low, (high, tt))

-- the bytes of a scalar in a word are written, or v is none of them
pub moves_enter : (v : ℕ) → (h : Held) (a b : ℕ) (more : List (ByteOp ℕ)) (E : Type 0) → v ≢ b → (held_bytes h ≡ 2 → v ≢ b + 1) → In v (held_part h (word_from number a)) ⊎ Guarded (Loc v) more E → Guarded (Loc v) (moves (held_part h (word_from number a)) (held_part h (word_from number b)) ++ more) E
moves_enter v U8 a b more E low high (inl (inl e)) = (one_read low, inl (inl (ap Loc e)))
moves_enter v U8 a b more E low high (inl (inr n)) = absurd n
moves_enter v U8 a b more E low high (inr guard) = (one_read low, inr guard)
moves_enter v I8 a b more E low high (inl (inl e)) = (one_read low, inl (inl (ap Loc e)))
moves_enter v I8 a b more E low high (inl (inr n)) = absurd n
moves_enter v I8 a b more E low high (inr guard) = (one_read low, inr guard)
moves_enter v W16 a b more E low high (inl (inl e)) = (one_read low, inl (inl (ap Loc e)))
moves_enter v W16 a b more E low high (inl (inr (inl e))) = (one_read low, inr (one_read (high refl), inl (inl (ap Loc e))))
moves_enter v W16 a b more E low high (inl (inr (inr n))) = absurd n
moves_enter v W16 a b more E low high (inr guard) = (one_read low, inr (one_read (high refl), inr guard))

pub zeros_enter : (v : ℕ) → (h : Held) (a : ℕ) (more : List (ByteOp ℕ)) (E : Type 0) → In v (held_part h (word_from number a)) ⊎ Guarded (Loc v) more E → Guarded (Loc v) (zeros (held_part h (word_from number a)) ++ more) E
zeros_enter v U8 a more E (inl (inl e)) = (λ i. i, inl (inl (ap Loc e)))
zeros_enter v U8 a more E (inl (inr n)) = absurd n
zeros_enter v U8 a more E (inr guard) = (λ i. i, inr guard)
zeros_enter v I8 a more E (inl (inl e)) = (λ i. i, inl (inl (ap Loc e)))
zeros_enter v I8 a more E (inl (inr n)) = absurd n
zeros_enter v I8 a more E (inr guard) = (λ i. i, inr guard)
zeros_enter v W16 a more E (inl (inl e)) = (λ i. i, inl (inl (ap Loc e)))
zeros_enter v W16 a more E (inl (inr (inl e))) = (λ i. i, inr (λ i. i, inl (inl (ap Loc e))))
zeros_enter v W16 a more E (inl (inr (inr n))) = absurd n
zeros_enter v W16 a more E (inr guard) = (λ i. i, inr (λ i. i, inr guard))

module _ (p : RtLabs) (f : RtFunction) (formed : IsWellFormedFunction p f) (labelled : SoundlyLabelled (flow_graph f) f.entry) where
  module _ (t v : ℕ) (is : IsByteOf v (27 + 4 * t)) where
    far_argument : IsArgument 12 (Loc v) → ⊥
    far_argument a = let low = (byte_far v (27 + 4 * t) is).0 in let near = a.1 in omega (arith, low, near)

    free_code : (o : RtOp) → (In t (used_by o) → ⊥) → (In t (written_by o) → ⊥) → IsWithinTwelve o → Free v (operation_code number f.held f.result o)
    free_code o unused unwritten within =
        let low = (byte_far v (27 + 4 * t) is).0 in
        let high = (byte_far v (27 + 4 * t) is).1 in
        named_code number (λ w. w ≢ v) f.held f.result o (record {
          temps = λ u named.
              let other : u ≢ t = λ e. in_both t (written_by o) (used_by o) (subst (λ z. In z (written_by o ++ used_by o)) e named) unwritten unused in
              (λ e. other (omega (arith, e, low, high)), λ e. other (omega (arith, e, low, high)));
          vars = λ x named. part_free v (variable_held f.held x) (25 + 4 * x) (λ e. omega (arith, e, low, high)) (λ e. omega (arith, e, low, high));
          places = λ uses n below e. omega (arith, e, low, below);
          work = λ uses e. omega (arith, e, low);
          within = within;
        })

    free_entry : Free v (entry_code number f.held f.params)
    free_entry =
        let low = (byte_far v (27 + 4 * t) is).0 in
        let high = (byte_far v (27 + 4 * t) is).1 in
        none_first v (gathered op_locations (entry_code number f.held f.params)) []
        (named_entry number (λ w. w ≢ v) f.held f.params 0 (λ k h at. part_free v h (25 + 4 * (0 + k)) (λ e. omega (arith, e, low, high)) (λ e. omega (arith, e, low, high))) (λ n below e. omega (arith, e, low, below)) formed.parameters_are_few)

    pub temporary_dead : LiveAt 12 (translated_function number f) (Loc v) f.entry → ⊥
    temporary_dead =
        let low = (byte_far v (27 + 4 * t) is).0 in
        let work : 24 ≢ v = λ e. omega (arith, e, low) in
        entry_dead f formed.nodes_exist formed.paths_go_on labelled v (Unwritten f t)
        (λ at other node is' r unwritten. ⊎_elim
        (λ uses. absurd (formed.written_before_use t at node is' uses unwritten))
        (λ unused. ⊎_elim
        (λ written. temporary_kills f.held f.result node.op t v _ is written unused)
        (λ not_written. free_guarded v (operation_code number f.held f.result node.op) _ (free_code node.op unused not_written (formed.arguments_are_within_twelve at node is')) (record {
          unused = λ uses. uses_none (translated_function number f) node.op r at v work far_argument uses;
          next = λ q not_over named. passing at q node unwritten is' not_written named;
        }))
        (in_or_not t (written_by node.op)))
        (in_or_not t (used_by node.op)))
        (free_guarded v (entry_code number f.held f.params) _ free_entry (λ l q is'. passing f.entry q (record { op = op.Label l; next = Some q }) at_start is' (λ n. n) (inl refl)))

  -- ---- the byte to work with

  abbrev NotTest : RtOp → Type 0
  NotTest (op.Test t on_true on_false) = ⊥
  NotTest _ = Unit {0}

  work_free : (o : RtOp) → (UsesWork o → ⊥) → IsWithinTwelve o → Free 24 (operation_code number f.held f.result o)
  work_free o no_work within = named_code number (λ w. w ≢ 24) f.held f.result o (record {
    temps = λ u named. (λ e. omega (arith, e), λ e. omega (arith, e));
    vars = λ x named. part_free 24 (variable_held f.held x) (25 + 4 * x) (λ e. omega (arith, e)) (λ e. omega (arith, e));
    places = λ uses n below e. omega (arith, e, below);
    work = λ uses. absurd (no_work uses);
    within = within;
  })

  work_guard : (o : RtOp) → IsWithinTwelve o → (E : Type 0) → (NotTest o → E) → Guarded (Loc 24) (operation_code number f.held f.result o) E
  work_guard (op.Test t on_true on_false) within E e = (two_read (λ s. omega (arith, s)) (λ s. omega (arith, s)), inl (inl refl))
  work_guard (op.Bin o.LtS t u) within E e = (one_read (λ s. omega (arith, s)), inl (inl refl))
  work_guard (op.Bin o.LeS t u) within E e = (one_read (λ s. omega (arith, s)), inl (inl refl))
  work_guard o within E e = free_guarded 24 (operation_code number f.held f.result o) E (work_free o (λ uses. uses) within) (e tt)

  work_exit : (g : Graph ℕ) (o : RtOp) (r at : ℕ) → NotTest o → Uses 12 (operation_exit number o r) g at (Loc 24) → ⊥
  work_exit g (op.Test t on_true on_false) r at not_test uses = not_test
  work_exit g (op.Call c) r at not_test uses = let near = uses.0.1 in omega (arith, near)
  work_exit g op.Return r at not_test uses = let near = uses.0.1 in omega (arith, near)
  work_exit g (op.ReturnValue t) r at not_test uses = let near = uses.0.1 in omega (arith, near)
  work_exit g _ r at not_test uses = uses

  pub work_dead : LiveAt 12 (translated_function number f) (Loc 24) f.entry → ⊥
  work_dead =
      let free : Free 24 (entry_code number f.held f.params) = none_first 24 (gathered op_locations (entry_code number f.held f.params)) []
      (named_entry number (λ w. w ≢ 24) f.held f.params 0 (λ k h at. part_free 24 h (25 + 4 * (0 + k)) (λ e. omega (arith, e)) (λ e. omega (arith, e))) (λ n below e. omega (arith, e, below)) formed.parameters_are_few) in
      entry_dead f formed.nodes_exist formed.paths_go_on labelled 24 (λ at. Unit {0})
      (λ at other node is' r unit. work_guard node.op (formed.arguments_are_within_twelve at node is') _ (λ not_test. record {
        unused = λ uses. work_exit (translated_function number f) node.op r at not_test uses;
        next = λ q not_over named. tt;
      }))
      (free_guarded 24 (entry_code number f.held f.params) _ free (λ l q is'. tt))

  -- ---- variables

  module _ (v : ℕ) (far : 24 ≤ v) where
    taken_enter : (hs : List Held) (x first : ℕ) (more : List (ByteOp ℕ)) (E : Type 0) → first + all_held_bytes hs ≤ 12 → In v (variable_bytes hs x) ⊎ Guarded (Loc v) more E → Guarded (Loc v) (taken number hs x first ++ more) E
    taken_enter [] x first more E within (inl i) = absurd i
    taken_enter [] x first more E within (inr guard) = guard
    taken_enter (h ∷ hs) x first more E within either =
        let part : List ℕ = held_part h (word_from number (25 + 4 * x)) in
        let ops : List (ByteOp ℕ) = moves part (held_part h (word_from number (12 + first))) in
        let later : List (ByteOp ℕ) = taken number hs (x + 1) (first + held_bytes h) in
        subst (λ os. Guarded (Loc v) os E) (sym (append_assoc ops later more))
        (moves_enter v h (25 + 4 * x) (12 + first) (later ++ more) E (λ e. omega (arith, e, far, within, low h)) (λ two e. omega (arith, e, far, within, two))
        (⊎_elim
        (λ i. ⊎_elim (λ here. inl here) (λ there. inr (taken_enter hs (x + 1) (first + held_bytes h) more E (omega (arith, within)) (inl there))) (in_either v part (variable_bytes hs (x + 1)) i))
        (λ guard. inr (taken_enter hs (x + 1) (first + held_bytes h) more E (omega (arith, within)) (inr guard)))
        either))
      where
        low : (k : Held) → 1 ≤ held_bytes k
        low U8 = omega arith
        low I8 = omega arith
        low W16 = omega arith

    cleared_enter : (hs : List Held) (x : ℕ) (E : Type 0) → In v (variable_bytes hs x) → Guarded (Loc v) (cleared number hs x) E
    cleared_enter [] x E i = absurd i
    cleared_enter (h ∷ hs) x E i =
        zeros_enter v h (25 + 4 * x) (cleared number hs (x + 1)) E (⊎_elim (λ here. inl here) (λ there. inr (cleared_enter hs (x + 1) E there)) (in_either v (held_part h (word_from number (25 + 4 * x))) (variable_bytes hs (x + 1)) i))

    split_variables : (n : ℕ) (hs : List Held) (x : ℕ) → In v (variable_bytes hs x) → In v (variable_bytes (take n hs) x) ⊎ In v (variable_bytes (drop n hs) (x + n))
    split_variables zero hs x i = let e : x ≡ x + 0 = omega arith in inr (subst (λ z. In v (variable_bytes hs z)) e i)
    split_variables (suc n) [] x i = absurd i
    split_variables (suc n) (h ∷ hs) x i =
        let part : List ℕ = held_part h (word_from number (25 + 4 * x)) in
        let e : x + 1 + n ≡ x + suc n = omega arith in
        ⊎_elim
        (λ here. inl (in_first v part (variable_bytes (take n hs) (x + 1)) here))
        (λ there. ⊎_elim
        (λ early. inl (in_second v part (variable_bytes (take n hs) (x + 1)) early))
        (λ late. inr (subst (λ z. In v (variable_bytes (drop n hs) z)) e late))
        (split_variables n hs (x + 1) there))
        (in_either v part (variable_bytes hs (x + 1)) i)

    pub variable_dead : In v (variable_bytes f.held 0) → LiveAt 12 (translated_function number f) (Loc v) f.entry → ⊥
    variable_dead among =
        let e : 0 + f.params ≡ f.params = omega arith in
        entry_dead f formed.nodes_exist formed.paths_go_on labelled v (λ at. ⊥)
        (λ at other node is' r none. absurd none)
        (⊎_elim
        (λ early. taken_enter (take f.params f.held) 0 0 (cleared number (drop f.params f.held) f.params) _ formed_few (inl early))
        (λ late. taken_enter (take f.params f.held) 0 0 (cleared number (drop f.params f.held) f.params) _ formed_few (inr (cleared_enter (drop f.params f.held) f.params _ (subst (λ z. In v (variable_bytes (drop f.params f.held) z)) e late))))
        (split_variables f.params f.held 0 among))
      where
        formed_few : 0 + all_held_bytes (take f.params f.held) ≤ 12
        formed_few = let few = formed.parameters_are_few in omega (arith, few)

  -- ---- all of a call's own

  pub entry_argument : (v : ℕ) → LiveAt 12 (translated_function number f) (Loc v) f.entry → IsArgument 12 (Loc v)
  entry_argument v live =
      let g = translated_function number f in
      let named = live_is_named 12 g v f.entry (ops_at g f.entry) ([], refl) live in
      ⊎_elim
      (λ place. (place.0, omega (arith, place.1)))
      (λ own. ⊎_elim
      (λ e. absurd (work_dead (subst (λ z. LiveAt 12 g (Loc z) f.entry) (sym e) live)))
      (λ more. ⊎_elim
      (λ variable. absurd (variable_dead v (own_far f v own) variable live))
      (λ temporary. absurd (temporary_dead temporary.0 v (⊎_elim (λ e. inl (sym e)) (λ e. inr (sym e)) temporary.1) live))
      more)
      (own_cases f v own))
      (location_cases p f formed v named)
