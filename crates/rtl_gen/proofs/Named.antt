-- Which virtual registers a translated function names: argument places, and one for each byte of its variables and temporaries, and
-- one more. So it needs no more than the function.
use Rattle.std.proofs.Common.{◌≡◌, ◌≢◌, ℕ, zero, suc, ◌+◌, ◌*◌, ◌<◌, ◌≤◌, ◌⊎◌, inl, inr, ⊎_elim, List, [], ◌∷◌, ◌++◌, map, length, take, drop, Option, Some, None, Bool, true, false, nat_eq, nat_lt, ◌||◌, if◌then◌else◌, refl, sym, ap, ap₂, ◌∙◌, subst, arith, length-append, eq-eqb, ltb-false}
use Rattle.std.specs.Prelude.{slice_get}
use Rattle.std.specs.List.{AllByRecursion}
use Rattle.std.proofs.lemmas.Option.{none-some, same_Some, slice_get-get_or}
use Rattle.std.proofs.lemmas.Bool.{cases_lt}
use Rattle.cerco_traces.specs.LabelledGraphs.{In}
use Rattle.cerco_middle.specs.declared.operators.Held.{Held}
use Rattle.cerco_middle.specs.declared.operators.Held.TheVariants.{U8, I8, W16}
use Rattle.cerco_middle.specs.declared.operators.CmOp.{CmOp}
use Rattle.cerco_middle.specs.declared.operators.CmOp.TheVariants as o
use Rattle.cerco_middle.specs.declared.rtlabs.RtOp.{RtOp}
use Rattle.cerco_middle.specs.declared.rtlabs.RtOp.TheVariants as op
use Rattle.cerco_middle.specs.declared.rtlabs.RtNode.{RtNode}
use Rattle.cerco_middle.specs.Operators.{held_bytes, all_held_bytes}
use Rattle.cerco_middle.specs.Calls.{variable_held}
use Rattle.cerco_middle.specs.RtLabs.Graphs.{RtFunction, RtLabs, used_by, written_by, variables_at}
use Rattle.cerco_middle.specs.RtLabs.Sums as labs
use Rattle.cerco_middle.specs.RtLabs.WellFormed.{IsWellFormed, IsWellFormedFunction, IsWithinTwelve}
use Rattle.rtl.specs.declared.locations.Vreg.{Vreg}
use Rattle.rtl.specs.Operations.{ByteOp}
use Rattle.rtl.specs.Locations.{vreg_number}
use Rattle.rtl.specs.Lengths.{stands_in, own_count, register_need}
use Rattle.rtl.specs.WellFormed.{gathered, op_locations, exit_locations, node_locations, locations_in, IsOfLanguage, NamesItsVregs}
use Rattle.byte_sequences.specs.Words.{word_from, temporary, variable, argument, vreg}
use Rattle.byte_sequences.specs.Sequences.{held_part, moves, zeros, extension, reading, load, store, sum, repeated, half}
use Rattle.byte_sequences.specs.Operations.{operator_code, result_code, operation_code, operation_exit, operation_node}
use Rattle.byte_sequences.proofs.OperationLaws.{number}
use Rattle.rtl_gen.specs.Translation.{next_of, entry_next, entry_code, entry_node, taken, cleared, nodes_from, translated_function, translated}
use Rattle.rtl_gen.specs.Promises.{NeedNoMore}
use Rattle.rtl.proofs.RenamedGraphs.{locations_renamed}
use Rattle.rtl_gen.proofs.Numbered.{function_numbered}
use Rattle.rtl_gen.proofs.Kept.{gathered_append, graph_of_function}

-- ---- lists

pub all_append : {A : Type 0} (P : A → Type 0) (xs ys : List A) → AllByRecursion P xs → AllByRecursion P ys → AllByRecursion P (xs ++ ys)
all_append P [] ys f g = g
all_append P (x ∷ xs) ys f g = (f.0, all_append P xs ys f.1 g)

pub all_mapped : {A : Type 0} (P Q : A → Type 0) → ((x : A) → P x → Q x) → (xs : List A) → AllByRecursion P xs → AllByRecursion Q xs
all_mapped P Q f [] all = tt
all_mapped P Q f (x ∷ xs) all = (f x all.0, all_mapped P Q f xs all.1)

-- the operation uses the byte to work with
abbrev pub UsesWork : RtOp → Type 0
UsesWork (op.Bin o.LtS t u) = Unit {0}
UsesWork (op.Bin o.LeS t u) = Unit {0}
UsesWork (op.Test t on_true on_false) = Unit {0}
UsesWork _ = ⊥

-- the operation uses argument places
abbrev pub UsesPlaces : RtOp → Type 0
UsesPlaces (op.Arg h first t) = Unit {0}
UsesPlaces (op.Result h t) = Unit {0}
UsesPlaces (op.ReturnValue t) = Unit {0}
UsesPlaces _ = ⊥

module _ {L : Type 0} (at : ℕ → L) (P : L → Type 0) where
  -- these operations name only such virtual registers
  abbrev pub AllNamed : List (ByteOp L) → Type 0
  AllNamed ops = AllByRecursion P (gathered op_locations ops)

  pub named_append : (ops more : List (ByteOp L)) → AllNamed ops → AllNamed more → AllNamed (ops ++ more)
  named_append ops more f g = subst (AllByRecursion P) (sym (gathered_append op_locations ops more)) (all_append P (gathered op_locations ops) (gathered op_locations more) f g)

  named_repeated : (k : ℕ) (ops : List (ByteOp L)) → AllNamed ops → AllNamed (repeated k ops)
  named_repeated zero ops f = tt
  named_repeated (suc k) ops f = named_append ops (repeated k ops) f (named_repeated k ops f)

  -- both bytes of a word, and those that hold a scalar
  abbrev pub Both : ℕ → Type 0
  Both a = P (at a) × P (at (a + 1))

  abbrev pub Part : Held → ℕ → Type 0
  Part h a = AllByRecursion P (held_part h (word_from at a))

  pub part_of_both : (h : Held) (a : ℕ) → Both a → Part h a
  part_of_both U8 a w = (w.0, tt)
  part_of_both I8 a w = (w.0, tt)
  part_of_both W16 a w = (w.0, (w.1, tt))

  pub named_moves : (h : Held) (a b : ℕ) → Part h a → Part h b → AllNamed (moves (held_part h (word_from at a)) (held_part h (word_from at b)))
  named_moves U8 a b f g = (f.0, (g.0, tt))
  named_moves I8 a b f g = (f.0, (g.0, tt))
  named_moves W16 a b f g = (f.0, (g.0, (f.1.0, (g.1.0, tt))))

  named_zeros : (h : Held) (a : ℕ) → Part h a → AllNamed (zeros (held_part h (word_from at a)))
  named_zeros U8 a f = (f.0, tt)
  named_zeros I8 a f = (f.0, tt)
  named_zeros W16 a f = (f.0, (f.1.0, tt))

  named_extension : (h : Held) (a : ℕ) → Both a → AllNamed (extension h (word_from at a))
  named_extension U8 a w = (w.1, tt)
  named_extension I8 a w = (w.0, (w.1, (w.0, (w.0, tt))))
  named_extension W16 a w = tt

  pub named_reading : (h : Held) (a b : ℕ) → Both a → Part h b → AllNamed (reading h (word_from at a) (word_from at b))
  named_reading h a b w g =
      named_append (moves (held_part h (word_from at a)) (held_part h (word_from at b))) (extension h (word_from at a)) (named_moves h a b (part_of_both h a w) g) (named_extension h a w)

  named_load : (h : Held) (a : ℕ) → Both a → AllNamed (load h (word_from at a))
  named_load U8 a w = (w.0, (w.1, (w.0, (w.1, tt))))
  named_load I8 a w = (w.0, (w.1, (w.0, (w.0, (w.1, (w.0, (w.0, tt)))))))
  named_load W16 a w = (w.0, (w.1, (w.0, (w.1, tt))))

  named_store : (h : Held) (a b : ℕ) → Both a → Both b → AllNamed (store h (word_from at a) (word_from at b))
  named_store U8 a b w v = (w.0, (w.1, (v.0, tt)))
  named_store I8 a b w v = (w.0, (w.1, (v.0, tt)))
  named_store W16 a b w v = (w.0, (w.1, (v.0, (v.1, tt))))

  -- a difference of two words, the carry as a word
  named_operator : (s : ℕ) (o : CmOp) (a b : ℕ) → (UsesWork (op.Bin o 0 0) → P (at s)) → Both a → Both b → AllNamed (operator_code (at s) o (word_from at a) (word_from at b))
  named_operator s o.Add a b p w v = (w.0, (w.0, (v.0, (w.1, (w.1, (v.1, tt))))))
  named_operator s o.Sub a b p w v = (w.0, (w.0, (v.0, (w.1, (w.1, (v.1, tt))))))
  named_operator s o.Mul a b p w v = (w.0, (w.1, (w.0, (v.0, tt))))
  named_operator s o.Div a b p w v = (w.0, (w.0, (v.0, (w.1, tt))))
  named_operator s o.Rem a b p w v = (w.0, (w.0, (v.0, (w.1, tt))))
  named_operator s o.And a b p w v = (w.0, (w.0, (v.0, (w.1, (w.1, (v.1, tt))))))
  named_operator s o.Or a b p w v = (w.0, (w.0, (v.0, (w.1, (w.1, (v.1, tt))))))
  named_operator s o.Xor a b p w v = (w.0, (w.0, (v.0, (w.1, (w.1, (v.1, tt))))))
  named_operator s o.Eq a b p w v = (w.0, (w.0, (v.0, (w.1, (w.1, (v.1, (w.0, (w.0, (w.1, (w.0, (w.0, (w.0, (w.1, tt)))))))))))))
  named_operator s o.Ne a b p w v = (w.0, (w.0, (v.0, (w.1, (w.1, (v.1, (w.0, (w.0, (w.1, (w.0, (w.0, (w.0, (w.1, tt)))))))))))))
  named_operator s o.LtS a b p w v = (p tt, (v.1, (w.1, (w.1, (w.0, (w.0, (v.0, (w.1, (w.1, (p tt, (w.0, (w.1, tt))))))))))))
  named_operator s o.LtU a b p w v = (w.0, (w.0, (v.0, (w.1, (w.1, (v.1, (w.0, (w.1, tt))))))))
  named_operator s o.LeS a b p w v = (p tt, (v.1, (w.1, (w.1, (w.0, (v.0, (w.0, (w.1, (p tt, (w.1, (w.0, (w.1, tt))))))))))))
  named_operator s o.LeU a b p w v = (w.0, (v.0, (w.0, (w.1, (v.1, (w.1, (w.0, (w.1, tt))))))))

  bin_work : (o : CmOp) (t u : ℕ) → (UsesWork (op.Bin o t u) → P (at 24)) → UsesWork (op.Bin o 0 0) → P (at 24)
  bin_work o.LtS t u work uses = work tt
  bin_work o.LeS t u work uses = work tt
  bin_work o.Add t u work uses = absurd uses
  bin_work o.Sub t u work uses = absurd uses
  bin_work o.Mul t u work uses = absurd uses
  bin_work o.Div t u work uses = absurd uses
  bin_work o.Rem t u work uses = absurd uses
  bin_work o.And t u work uses = absurd uses
  bin_work o.Or t u work uses = absurd uses
  bin_work o.Xor t u work uses = absurd uses
  bin_work o.Eq t u work uses = absurd uses
  bin_work o.Ne t u work uses = absurd uses
  bin_work o.LtU t u work uses = absurd uses
  bin_work o.LeU t u work uses = absurd uses

  named_half : (keeps_sign : Bool) (a : ℕ) → Both a → AllNamed (half keeps_sign (word_from at a))
  named_half true a w = (w.1, (w.1, (w.1, (w.0, (w.0, tt)))))
  named_half false a w = (w.1, (w.1, (w.0, (w.0, tt))))

  named_result : (result : Option Held) (a b : ℕ) → Both a → Both b → AllNamed (result_code (word_from at a) result (word_from at b))
  named_result None a b w v = tt
  named_result (Some h) a b w v = named_moves h a b (part_of_both h a w) (part_of_both h b v)

  -- what an operation asks for
  pub record Named (held : List Held) (o : RtOp) : Type 0 where
    pub temps : (t : ℕ) → In t (written_by o ++ used_by o) → Both (27 + 4 * t)
    pub vars : (x : ℕ) → In x (variables_at o) → Part (variable_held held x) (25 + 4 * x)
    pub places : UsesPlaces o → (n : ℕ) → n < 12 → P (at (12 + n))
    pub work : UsesWork o → P (at 24)
    pub within : IsWithinTwelve o

  first_places : ((n : ℕ) → n < 12 → P (at (12 + n))) → Both 12
  first_places places = (places 0 (omega arith), places 1 (omega arith))

  argument_part : (h : Held) (first : ℕ) → ((n : ℕ) → n < 12 → P (at (12 + n))) → first + held_bytes h ≤ 12 → Part h (12 + first)
  argument_part U8 first places within = (places first (omega (arith, within)), tt)
  argument_part I8 first places within = (places first (omega (arith, within)), tt)
  argument_part W16 first places within =
      let e : 12 + (first + 1) ≡ 12 + first + 1 = omega arith in
      (places first (omega (arith, within)), (subst (λ n. P (at n)) e (places (first + 1) (omega (arith, within))), tt))

  pub named_code : (held : List Held) (result : Option Held) (o : RtOp) → Named held o → AllNamed (operation_code at held result o)
  named_code held result (op.Const t n) a = let w = a.temps t (inl refl) in (w.0, (w.1, tt))
  named_code held result (op.Get t x) a = named_reading (variable_held held x) (27 + 4 * t) (25 + 4 * x) (a.temps t (inl refl)) (a.vars x (inl refl))
  named_code held result (op.Put x t) a = named_moves (variable_held held x) (25 + 4 * x) (27 + 4 * t) (a.vars x (inl refl)) (part_of_both (variable_held held x) (27 + 4 * t) (a.temps t (inl refl)))
  named_code held result (op.Neg t) a = let w = a.temps t (inl refl) in (w.0, (w.0, (w.1, (w.1, tt))))
  named_code held result (op.Not t) a = let w = a.temps t (inl refl) in (w.0, (w.0, (w.1, (w.1, tt))))
  named_code held result (op.Narrow h t) a = named_extension h (27 + 4 * t) (a.temps t (inl refl))
  named_code held result (op.Bin o t u) a = named_operator 24 o (27 + 4 * t) (27 + 4 * u) (bin_work o t u a.work) (a.temps t (inl refl)) (a.temps u (inr (inr (inl refl))))
  named_code held result (op.Shl k t) a = let w = a.temps t (inl refl) in named_repeated k (sum (temporary at t) (temporary at t)) (w.0, (w.0, (w.0, (w.1, (w.1, (w.1, tt))))))
  named_code held result (op.Shr k keeps_sign t) a = named_repeated k (half keeps_sign (temporary at t)) (named_half keeps_sign (27 + 4 * t) (a.temps t (inl refl)))
  named_code held result (op.Load h t) a = named_load h (27 + 4 * t) (a.temps t (inl refl))
  named_code held result (op.Store h t u) a = named_store h (27 + 4 * t) (27 + 4 * u) (a.temps t (inl refl)) (a.temps u (inr (inl refl)))
  named_code held result (op.ReadPort t) a = let w = a.temps t (inl refl) in (w.0, (w.1, tt))
  named_code held result (op.WritePort t) a = let w = a.temps t (inl refl) in (w.0, tt)
  named_code held result (op.Arg h first t) a = named_moves h (12 + first) (27 + 4 * t) (argument_part h first (a.places tt) a.within) (part_of_both h (27 + 4 * t) (a.temps t (inl refl)))
  named_code held result (op.Call g) a = tt
  named_code held result (op.Result h t) a = named_reading h (27 + 4 * t) (12 + 0) (a.temps t (inl refl)) (part_of_both h 12 (first_places (a.places tt)))
  named_code held result (op.Label l) a = tt
  named_code held result (op.Test t on_true on_false) a = let w = a.temps t (inl refl) in (a.work tt, (w.0, (w.1, tt)))
  named_code held result op.Return a = tt
  named_code held result (op.ReturnValue t) a = named_result result (12 + 0) (27 + 4 * t) (first_places (a.places tt)) (a.temps t (inl refl))

  named_exit : (o : RtOp) (r : ℕ) → (UsesWork o → P (at 24)) → AllByRecursion P (exit_locations (operation_exit at o r))
  named_exit (op.Test t on_true on_false) r work = (work tt, tt)
  named_exit (op.Const t n) r work = tt
  named_exit (op.Get t x) r work = tt
  named_exit (op.Put x t) r work = tt
  named_exit (op.Neg t) r work = tt
  named_exit (op.Not t) r work = tt
  named_exit (op.Narrow h t) r work = tt
  named_exit (op.Bin o t u) r work = tt
  named_exit (op.Shl n t) r work = tt
  named_exit (op.Shr n keeps_sign t) r work = tt
  named_exit (op.Load h t) r work = tt
  named_exit (op.Store h t u) r work = tt
  named_exit (op.ReadPort t) r work = tt
  named_exit (op.WritePort t) r work = tt
  named_exit (op.Arg h first t) r work = tt
  named_exit (op.Call g) r work = tt
  named_exit (op.Result h t) r work = tt
  named_exit (op.Label l) r work = tt
  named_exit op.Return r work = tt
  named_exit (op.ReturnValue t) r work = tt

  -- ---- the new node

  abbrev pub Parts : List Held → ℕ → Type 0
  Parts hs x = (k : ℕ) (h : Held) → slice_get hs k ≡ Some h → Part h (25 + 4 * (x + k))

  first_part : (h : Held) (hs : List Held) (x : ℕ) → Parts (h ∷ hs) x → Part h (25 + 4 * x)
  first_part h hs x parts = let e : x + 0 ≡ x = omega arith in subst (λ n. Part h (25 + 4 * n)) e (parts 0 h refl)

  rest_parts : (h : Held) (hs : List Held) (x : ℕ) → Parts (h ∷ hs) x → Parts hs (x + 1)
  rest_parts h hs x parts k g is = let e : x + suc k ≡ x + 1 + k = omega arith in subst (λ n. Part g (25 + 4 * n)) e (parts (suc k) g is)

  named_taken : (hs : List Held) (x first : ℕ) → Parts hs x → ((n : ℕ) → n < 12 → P (at (12 + n))) → first + all_held_bytes hs ≤ 12 → AllNamed (taken at hs x first)
  named_taken [] x first parts places within = tt
  named_taken (h ∷ hs) x first parts places within =
      named_append (moves (held_part h (variable at x)) (held_part h (argument at first))) (taken at hs (x + 1) (first + held_bytes h))
      (named_moves h (25 + 4 * x) (12 + first) (first_part h hs x parts) (argument_part h first places (omega (arith, within))))
      (named_taken hs (x + 1) (first + held_bytes h) (rest_parts h hs x parts) places (omega (arith, within)))

  pub named_cleared : (hs : List Held) (x : ℕ) → Parts hs x → AllNamed (cleared at hs x)
  named_cleared [] x parts = tt
  named_cleared (h ∷ hs) x parts =
      named_append (zeros (held_part h (variable at x))) (cleared at hs (x + 1)) (named_zeros h (25 + 4 * x) (first_part h hs x parts)) (named_cleared hs (x + 1) (rest_parts h hs x parts))

  taken_parts : (n : ℕ) (hs : List Held) (x : ℕ) → Parts hs x → Parts (take n hs) x
  taken_parts n hs x parts k h is = parts k h (get n hs k is)
    where
      get : (n : ℕ) (hs : List Held) (k : ℕ) → slice_get (take n hs) k ≡ Some h → slice_get hs k ≡ Some h
      get zero hs k is = absurd (none-some h is)
      get (suc n) [] k is = absurd (none-some h is)
      get (suc n) (g ∷ hs) zero is = is
      get (suc n) (g ∷ hs) (suc k) is = get n hs k is

  dropped_parts : (n : ℕ) (hs : List Held) → Parts hs 0 → Parts (drop n hs) n
  dropped_parts n hs parts k h is = let e : 0 + (n + k) ≡ n + k = omega arith in subst (λ m. Part h (25 + 4 * m)) e (parts (n + k) h (get n hs is))
    where
      get : (n : ℕ) (hs : List Held) → slice_get (drop n hs) k ≡ Some h → slice_get hs (n + k) ≡ Some h
      get zero hs is = let e : 0 + k ≡ k = omega arith in ap (slice_get hs) e ∙ is
      get (suc n) [] is = absurd (none-some h is)
      get (suc n) (g ∷ hs) is = let e : suc n + k ≡ suc (n + k) = omega arith in ap (slice_get (g ∷ hs)) e ∙ get n hs is

  pub named_entry : (held : List Held) (params next : ℕ) → Parts held 0 → ((n : ℕ) → n < 12 → P (at (12 + n))) → all_held_bytes (take params held) ≤ 12 → AllByRecursion P (node_locations (entry_node at held params next))
  named_entry held params next parts places within =
      all_append P (gathered op_locations (entry_code at held params)) []
      (named_append (taken at (take params held) 0 0) (cleared at (drop params held) params)
      (named_taken (take params held) 0 0 (taken_parts params held 0 parts) places (omega (arith, within)))
      (named_cleared (drop params held) params (dropped_parts params held parts)))
      tt

  -- ---- the graph

  named_nodes : (f : RtFunction) (new p : ℕ) (nodes : List RtNode) → ((i : ℕ) (node : RtNode) → slice_get nodes i ≡ Some node → Named f.held node.op) → AllByRecursion P (gathered node_locations (nodes_from at f new p nodes))
  named_nodes f new p [] each = tt
  named_nodes f new p (node ∷ nodes) each =
      all_append P (node_locations (operation_node at f.held f.result node.op (next_of f.entry new p node.next))) (gathered node_locations (nodes_from at f new (p + 1) nodes))
      (all_append P (gathered op_locations (operation_code at f.held f.result node.op)) (exit_locations (operation_exit at node.op (next_of f.entry new p node.next)))
      (named_code f.held f.result node.op (each 0 node refl)) (named_exit node.op (next_of f.entry new p node.next) (each 0 node refl).work))
      (named_nodes f new (p + 1) nodes (λ i n is. each (suc i) n is))

  pub named_graph : (f : RtFunction) → ((i : ℕ) (node : RtNode) → slice_get f.nodes i ≡ Some node → Named f.held node.op) → Parts f.held 0 → ((n : ℕ) → n < 12 → P (at (12 + n)))
      → all_held_bytes (take f.params f.held) ≤ 12 → AllByRecursion P (locations_in (translated_function at f))
  named_graph f each parts places within =
      subst (AllByRecursion P) (sym (gathered_append node_locations (nodes_from at f (length f.nodes) 0 f.nodes) (entry_node at f.held f.params (entry_next f) ∷ [])))
      (all_append P (gathered node_locations (nodes_from at f (length f.nodes) 0 f.nodes)) (gathered node_locations (entry_node at f.held f.params (entry_next f) ∷ []))
      (named_nodes f (length f.nodes) 0 f.nodes each)
      (all_append P (node_locations (entry_node at f.held f.params (entry_next f))) [] (named_entry f.held f.params (entry_next f) parts places within) tt))

-- ---- the virtual registers of a call's own

abbrev pub variable_bytes : List Held → ℕ → List ℕ
variable_bytes [] x = []
variable_bytes (h ∷ hs) x = held_part h (variable number x) ++ variable_bytes hs (x + 1)

abbrev temporary_bytes : ℕ → List ℕ
temporary_bytes zero = []
temporary_bytes (suc n) = (27 + 4 * n) ∷ (27 + 4 * n + 1) ∷ temporary_bytes n

abbrev pub own_bytes : RtFunction → List ℕ
own_bytes f = 24 ∷ (variable_bytes f.held 0 ++ temporary_bytes (labs.temporaries f.nodes))

pub in_first : (v : ℕ) (xs ys : List ℕ) → In v xs → In v (xs ++ ys)
in_first v [] ys i = absurd i
in_first v (x ∷ xs) ys (inl e) = inl e
in_first v (x ∷ xs) ys (inr i) = inr (in_first v xs ys i)

pub in_second : (v : ℕ) (xs ys : List ℕ) → In v ys → In v (xs ++ ys)
in_second v [] ys i = i
in_second v (x ∷ xs) ys i = inr (in_second v xs ys i)

pub in_either : (v : ℕ) (xs ys : List ℕ) → In v (xs ++ ys) → In v xs ⊎ In v ys
in_either v [] ys i = inr i
in_either v (x ∷ xs) ys (inl e) = inl (inl e)
in_either v (x ∷ xs) ys (inr i) = ⊎_elim (λ a. inl (inr a)) (λ b. inr b) (in_either v xs ys i)

length_part_bytes : (h : Held) (x : ℕ) → length (held_part h (variable number x)) ≡ held_bytes h
length_part_bytes U8 x = refl
length_part_bytes I8 x = refl
length_part_bytes W16 x = refl

variable_count : (hs : List Held) (x : ℕ) → length (variable_bytes hs x) ≡ all_held_bytes hs
variable_count [] x = refl
variable_count (h ∷ hs) x =
    let both = length-append (held_part h (variable number x)) (variable_bytes hs (x + 1)) in
    let one = length_part_bytes h x in
    let rest = variable_count hs (x + 1) in
    omega (arith, both, one, rest)

temporary_count : (n : ℕ) → length (temporary_bytes n) ≡ 2 * n
temporary_count zero = refl
temporary_count (suc n) = let rest = temporary_count n in omega (arith, rest)

pub own_bytes_count : (f : RtFunction) → length (own_bytes f) ≡ labs.register_need f
own_bytes_count f =
    let both = length-append (variable_bytes f.held 0) (temporary_bytes (labs.temporaries f.nodes)) in
    let vars = variable_count f.held 0 in
    let temps = temporary_count (labs.temporaries f.nodes) in
    omega (arith, both, vars, temps)

temporary_in : (t n : ℕ) → t < n → In (27 + 4 * t) (temporary_bytes n) × In (27 + 4 * t + 1) (temporary_bytes n)
temporary_in t zero below = absurd (omega (arith, below))
temporary_in t (suc n) below = ⊎_elim
    (λ e. (inl (ap (λ m. 27 + 4 * m) (sym e)), inr (inl (ap (λ m. 27 + 4 * m + 1) (sym e)))))
    (λ less. let rest = temporary_in t n less in (inr (inr rest.0), inr (inr rest.1)))
    (last_or t n below)
  where
    last_or : (t n : ℕ) → t < suc n → (t ≡ n) ⊎ (t < n)
    last_or t n below = ⊎_elim (λ less. inr less) (λ more. inl (omega (arith, below, more))) (cases_lt t n)

abbrev NamedOwn : RtFunction → Vreg → Type 0
NamedOwn f v = ((12 ≤ v.0) × (v.0 < 24)) ⊎ In v.0 (own_bytes f)

-- the bytes of a variable are among these
variable_parts : (f : RtFunction) (hs : List Held) (x : ℕ) → ((v : ℕ) → In v (variable_bytes hs x) → In v (own_bytes f)) → Parts vreg (NamedOwn f) hs x
variable_parts f [] x among k h is = absurd (none-some h is)
variable_parts f (g ∷ hs) x among zero h is =
    let e : x ≡ x + 0 = omega arith in
    subst (λ n. Part vreg (NamedOwn f) h (25 + 4 * n)) e (subst (λ z. Part vreg (NamedOwn f) z (25 + 4 * x)) (same_Some g h is) (part g (λ v i. among v (in_first v (held_part g (variable number x)) (variable_bytes hs (x + 1)) i))))
  where
    part : (z : Held) → ((v : ℕ) → In v (held_part z (variable number x)) → In v (own_bytes f)) → Part vreg (NamedOwn f) z (25 + 4 * x)
    part U8 each = (inr (each (25 + 4 * x) (inl refl)), tt)
    part I8 each = (inr (each (25 + 4 * x) (inl refl)), tt)
    part W16 each = (inr (each (25 + 4 * x) (inl refl)), (inr (each (25 + 4 * x + 1) (inr (inl refl))), tt))
variable_parts f (g ∷ hs) x among (suc k) h is =
    let e : x + 1 + k ≡ x + suc k = omega arith in
    subst (λ n. Part vreg (NamedOwn f) h (25 + 4 * n)) e (variable_parts f hs (x + 1) (λ v i. among v (in_second v (held_part g (variable number x)) (variable_bytes hs (x + 1)) i)) k h is)

-- the temporaries that a node names are below their number
up_to : (t : ℕ) (ts : List ℕ) → In t ts → t < labs.count_up_to ts
up_to t [] i = absurd i
up_to t (u ∷ ts) (inl e) = omega (arith, e)
up_to t (u ∷ ts) (inr i) = let rest = up_to t ts i in omega (arith, rest)

of_nodes : (nodes : List RtNode) (i : ℕ) (node : RtNode) → slice_get nodes i ≡ Some node → labs.count_up_to (written_by node.op ++ used_by node.op) ≤ labs.temporaries nodes
of_nodes [] i node is = absurd (none-some node is)
of_nodes (n ∷ nodes) zero node is = subst (λ (m : RtNode). labs.count_up_to (written_by m.op ++ used_by m.op) ≤ labs.temporaries (n ∷ nodes)) (same_Some n node is) (omega arith)
of_nodes (n ∷ nodes) (suc i) node is = let rest = of_nodes nodes i node is in omega (arith, rest)

module _ (p : RtLabs) (f : RtFunction) (formed : IsWellFormedFunction p f) where
  own_parts : Parts vreg (NamedOwn f) f.held 0
  own_parts = variable_parts f f.held 0 (λ v i. inr (in_first v (variable_bytes f.held 0) (temporary_bytes (labs.temporaries f.nodes)) i))

  own_variable : (x : ℕ) → x < length f.held → Part vreg (NamedOwn f) (variable_held f.held x) (25 + 4 * x)
  own_variable x below =
      let e : 0 + x ≡ x = omega arith in
      subst (λ n. Part vreg (NamedOwn f) (variable_held f.held x) (25 + 4 * n)) e (own_parts x (variable_held f.held x) (slice_get-get_or f.held x W16 below))

  node_named : (i : ℕ) (node : RtNode) → slice_get f.nodes i ≡ Some node → Named vreg (NamedOwn f) f.held node.op
  node_named i node is = record {
    temps = λ t named.
        let below = up_to t (written_by node.op ++ used_by node.op) named in
        let all = of_nodes f.nodes i node is in
        let both = temporary_in t (labs.temporaries f.nodes) (omega (arith, below, all)) in
        (inr (inr (in_second (27 + 4 * t) (variable_bytes f.held 0) (temporary_bytes (labs.temporaries f.nodes)) both.0)), inr (inr (in_second (27 + 4 * t + 1) (variable_bytes f.held 0) (temporary_bytes (labs.temporaries f.nodes)) both.1)));
    vars = λ x named. own_variable x (formed.variables_exist.1 i node is x named);
    places = λ uses n below. inl (omega arith, omega (arith, below));
    work = λ uses. inr (inl refl);
    within = formed.arguments_are_within_twelve i node is;
  }

  graph_named : AllByRecursion (NamedOwn f) (locations_in (translated_function vreg f))
  graph_named = named_graph vreg (NamedOwn f) f node_named own_parts (λ n below. inl (omega arith, omega (arith, below))) formed.parameters_are_few

-- ---- the language of RTL

pub own_far : (f : RtFunction) (v : ℕ) → In v (own_bytes f) → 24 ≤ v
own_far f v (inl e) = omega (arith, e)
own_far f v (inr i) = ⊎_elim (variable_far f.held 0 v) (temporary_far (labs.temporaries f.nodes) v) (in_either v (variable_bytes f.held 0) (temporary_bytes (labs.temporaries f.nodes)) i)
  where
    part_far : (h : Held) (x v : ℕ) → In v (held_part h (variable number x)) → 24 ≤ v
    part_far U8 x v (inl e) = omega (arith, e)
    part_far U8 x v (inr n) = absurd n
    part_far I8 x v (inl e) = omega (arith, e)
    part_far I8 x v (inr n) = absurd n
    part_far W16 x v (inl e) = omega (arith, e)
    part_far W16 x v (inr (inl e)) = omega (arith, e)
    part_far W16 x v (inr (inr n)) = absurd n

    variable_far : (hs : List Held) (x v : ℕ) → In v (variable_bytes hs x) → 24 ≤ v
    variable_far [] x v i = absurd i
    variable_far (h ∷ hs) x v i = ⊎_elim (part_far h x v) (variable_far hs (x + 1) v) (in_either v (held_part h (variable number x)) (variable_bytes hs (x + 1)) i)

    temporary_far : (n v : ℕ) → In v (temporary_bytes n) → 24 ≤ v
    temporary_far zero v i = absurd i
    temporary_far (suc n) v (inl e) = omega (arith, e)
    temporary_far (suc n) v (inr (inl e)) = omega (arith, e)
    temporary_far (suc n) v (inr (inr i)) = temporary_far n v i

pub names_its_vregs : (p : RtLabs) (f : RtFunction) → IsWellFormedFunction p f → NamesItsVregs 12 (translated_function vreg f)
names_its_vregs p f formed =
    all_mapped (NamedOwn f) (IsOfLanguage 12) (λ v named. ⊎_elim (λ place. inl place) (λ own. inr (own_far f v.0 own)) named) (locations_in (translated_function vreg f)) (graph_named p f formed)

-- ---- register need

-- a number taken out of a list
pub taken_out : (v : ℕ) (xs : List ℕ) → In v xs → (ys : List ℕ) × (suc (length ys) ≡ length xs) × ((w : ℕ) → w ≢ v → In w xs → In w ys)
taken_out v [] i = absurd i
taken_out v (x ∷ xs) (inl e) = (xs, refl, λ w other i. ⊎_elim (λ e'. absurd (other (sym e' ∙ e))) (λ later. later) i)
taken_out v (x ∷ xs) (inr i) =
    let rest = taken_out v xs i in
    (x ∷ rest.0, ap suc rest.1, λ w other j. ⊎_elim (λ e. inl e) (λ later. inr (rest.2 w other later)) j)

found : (v : ℕ) (xs : List ℕ) → In v xs → stands_in v xs ≡ true
found v [] i = absurd i
found v (x ∷ xs) (inl e) = ap (λ b. b || stands_in v xs) (eq-eqb x v e)
found v (x ∷ xs) (inr i) = ap (λ b. nat_eq x v || b) (found v xs i) ∙ or_true (nat_eq x v)
  where
    or_true : (b : Bool) → (b || true) ≡ true
    or_true true = refl
    or_true false = refl

-- what a number adds to the count
abbrev added : Bool → Bool → ℕ
added near twice = if near || twice then 0 else 1

counted : (xs all : List ℕ) → ((v : ℕ) → In v xs → 24 ≤ v → In v all) → own_count xs ≤ length all
counted [] all each = omega arith
counted (v ∷ vs) all each = by (nat_lt v 24) (stands_in v vs) refl refl (counted vs all (λ w i far. each w (inr i) far)) (λ less more. counted vs less more)
  where
    differ : true ≡ false → ⊥
    differ e = cc

    by : (near twice : Bool) → nat_lt v 24 ≡ near → stands_in v vs ≡ twice → own_count vs ≤ length all → ((less : List ℕ) → ((w : ℕ) → In w vs → 24 ≤ w → In w less) → own_count vs ≤ length less) → own_count (v ∷ vs) ≤ length all
    by true twice e e' rest rest' = let z : added (nat_lt v 24) (stands_in v vs) ≡ 0 = ap (λ b. added b (stands_in v vs)) e in omega (arith, z, rest)
    by false true e e' rest rest' = let z : added (nat_lt v 24) (stands_in v vs) ≡ 0 = ap₂ added e e' in omega (arith, z, rest)
    by false false e e' rest rest' =
        let z : added (nat_lt v 24) (stands_in v vs) ≡ 1 = ap₂ added e e' in
        let far : 24 ≤ v = ltb-false v 24 e in
        let out = taken_out v all (each v (inl refl) far) in
        let fewer = rest' out.0 (λ w i far'. out.2 w (λ same. differ (sym (found v vs (subst (λ z. In z vs) same i)) ∙ e')) (each w (inr i) far')) in
        let length_is = out.1 in
        omega (arith, z, fewer, length_is)

numbers_named : (f : RtFunction) (vs : List Vreg) → AllByRecursion (NamedOwn f) vs → (v : ℕ) → In v (map vreg_number vs) → 24 ≤ v → In v (own_bytes f)
numbers_named f [] all v i far = absurd i
numbers_named f (w ∷ vs) all v (inl e) far = ⊎_elim (λ place. let near = place.1 in absurd (omega (arith, e, far, near))) (λ own. subst (λ n. In n (own_bytes f)) e own) all.0
numbers_named f (w ∷ vs) all v (inr i) far = numbers_named f vs all.1 v i far

function_need : (p : RtLabs) (f : RtFunction) → IsWellFormedFunction p f → register_need (translated_function vreg f) ≤ labs.register_need f
function_need p f formed =
    let most = counted (map vreg_number (locations_in (translated_function vreg f))) (own_bytes f) (numbers_named f (locations_in (translated_function vreg f)) (graph_named p f formed)) in
    let count = own_bytes_count f in
    omega (arith, most, count)

-- each location of the graph over numbers is an argument place or one of these
pub location_cases : (p : RtLabs) (f : RtFunction) → IsWellFormedFunction p f → (v : ℕ) → In v (locations_in (translated_function number f)) → ((12 ≤ v) × (v < 24)) ⊎ In v (own_bytes f)
location_cases p f formed v among =
    by (locations_in (translated_function vreg f)) (graph_named p f formed) (subst (In v) (ap locations_in (sym (function_numbered f)) ∙ locations_renamed vreg_number (translated_function vreg f)) among)
  where
    by : (vs : List Vreg) → AllByRecursion (NamedOwn f) vs → In v (map vreg_number vs) → ((12 ≤ v) × (v < 24)) ⊎ In v (own_bytes f)
    by [] all i = absurd i
    by (w ∷ vs) all (inl e) = subst (λ n. ((12 ≤ n) × (n < 24)) ⊎ In n (own_bytes f)) e all.0
    by (w ∷ vs) all (inr i) = by vs all.1 i

pub own_cases : (f : RtFunction) (v : ℕ) → In v (own_bytes f) → (24 ≡ v) ⊎ (In v (variable_bytes f.held 0) ⊎ ((t : ℕ) × ((27 + 4 * t ≡ v) ⊎ (27 + 4 * t + 1 ≡ v))))
own_cases f v (inl e) = inl e
own_cases f v (inr i) = ⊎_elim (λ x. inr (inl x)) (λ t. inr (inr (temporary_of (labs.temporaries f.nodes) t))) (in_either v (variable_bytes f.held 0) (temporary_bytes (labs.temporaries f.nodes)) i)
  where
    temporary_of : (n : ℕ) → In v (temporary_bytes n) → (t : ℕ) × ((27 + 4 * t ≡ v) ⊎ (27 + 4 * t + 1 ≡ v))
    temporary_of zero i = absurd i
    temporary_of (suc n) (inl e) = (n, inl e)
    temporary_of (suc n) (inr (inl e)) = (n, inr e)
    temporary_of (suc n) (inr (inr i)) = temporary_of n i

-- the clause on the register need
pub translation_need : (p : RtLabs) → IsWellFormed p → NeedNoMore p (translated p)
translation_need p wf i f g is is' = subst (λ z. register_need z ≤ labs.register_need f) (graph_of_function p i f g is is') (function_need p f (wf.functions i f is))
