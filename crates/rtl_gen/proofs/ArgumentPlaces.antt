-- What is live of the argument places: nothing that wasn't handed over, but results and parameters.
use Rattle.std.proofs.Common.{◌≡◌, ◌≢◌, ℕ, suc, ◌+◌, ◌*◌, ◌<◌, ◌≤◌, ◌⊎◌, inl, inr, ⊎_elim, List, [], ◌∷◌, ◌++◌, length, take, drop, Option, Some, None, Bool, true, false, refl, sym, ap, ◌∙◌, subst, arith, append-nil}
use Rattle.std.specs.Prelude.{slice_get, Contains}
use Rattle.std.specs.List.{AllByRecursion}
use Rattle.std.proofs.lemmas.Bool.{cases_lt}
use Rattle.std.proofs.lemmas.List.Elements.{Contains-append_cases}
use Rattle.std.proofs.lemmas.List.Sorted.{Contains-permutation}
use Rattle.std.proofs.lemmas.Option.{slice_get-get_or, slice_get_within}
use Rattle.cerco_traces.specs.LabelledGraphs.{In, SoundlyLabelled}
use Rattle.cerco_middle.specs.declared.operators.Held.{Held}
use Rattle.cerco_middle.specs.declared.operators.Held.TheVariants.{U8, I8, W16}
use Rattle.cerco_middle.specs.declared.rtlabs.RtOp.{RtOp}
use Rattle.cerco_middle.specs.declared.rtlabs.RtOp.TheVariants as op
use Rattle.cerco_middle.specs.declared.rtlabs.RtNode.{RtNode}
use Rattle.cerco_middle.specs.Operators.{held_bytes}
use Rattle.cerco_middle.specs.Calls.{Argument, arguments_from, variable_held}
use Rattle.cerco_middle.specs.RtLabs.Graphs.{RtFunction, RtLabs, parameters_of, flow_graph, next_nodes}
use Rattle.cerco_middle.specs.RtLabs.WellFormed.{IsWellFormed, IsWellFormedFunction, IsAt, IsWithinTwelve, TakesOne, is_call, and_argument, HandsOver, at_entry, onward as further, CallFreePath, edge, longer}
use Rattle.rtl.specs.Operations.{ByteOp}
use Rattle.rtl.specs.Programs.{Node, Graph}
use Rattle.rtl.specs.Effects.{Loc, Carry, writes}
use Rattle.rtl.specs.Graphs.{exit_at}
use Rattle.rtl.specs.Liveness.{IsAmong, IsPoint, IsCall, Uses, Overwrites, GoesTo, WrittenBefore, written, past, through, LiveAt}
use Rattle.rtl.specs.WellFormed.{gathered, op_locations}
use Rattle.byte_sequences.specs.Words.{word_from, temporary, variable, argument}
use Rattle.byte_sequences.specs.Sequences.{held_part, moves}
use Rattle.byte_sequences.specs.Operations.{result_code, operation_code, operation_exit}
use Rattle.byte_sequences.proofs.OperationLaws.{number}
use Rattle.rtl_gen.specs.Translation.{next_of, entry_code, taken, cleared, translated_function}
use Rattle.rtl_gen.proofs.Nodes.{entry_is, next_other}
use Rattle.rtl_gen.proofs.Handing.{contains_none, contains_cons}
use Rattle.rtl_gen.proofs.Named.{UsesPlaces, Part, named_code, named_append, named_moves, named_cleared}
use Rattle.rtl_gen.proofs.States.{called_from, one_operation, leads}
use Rattle.rtl_gen.proofs.LivePaths.{none_first, none_second, not_written, Free, Guarded, free_guarded}
use Rattle.rtl_gen.proofs.Fronts.{entry_label, node_here, goes_named, RestEnds, entry_dead, rest_dead}
use Rattle.rtl_gen.proofs.Entries.{one_read, part_free, moves_enter}
use Rattle.rtl_gen.proofs.CarryInside.{NodeIs, of_operation, of_entry, of_none, node_cases}

-- ---- bytes of arguments

-- v is one of so many locations from a on
abbrev pub IsFrom : ℕ → ℕ → ℕ → Type 0
IsFrom v a n = (a ≤ v) × (v < a + n)

-- v is a byte of the argument's places
abbrev pub IsIn : ℕ → Argument → Type 0
IsIn v a = IsFrom v (12 + a.first_byte) (held_bytes a.held)

pub from_or_not : (v a n : ℕ) → IsFrom v a n ⊎ (IsFrom v a n → ⊥)
from_or_not v a n = ⊎_elim
    (λ below. inr (λ i. let low = i.0 in omega (arith, below, low)))
    (λ from. ⊎_elim (λ less. inl (from, less)) (λ more. inr (λ i. let high = i.1 in omega (arith, more, high))) (cases_lt v (a + n)))
    (cases_lt v a)

-- it is none of the locations of a scalar
pub part_not : (v : ℕ) (h : Held) (a : ℕ) → (IsFrom v a (held_bytes h) → ⊥) → Part number (λ w. w ≢ v) h a
part_not v U8 a f = (λ e. f (omega (arith, e), omega (arith, e)), tt)
part_not v I8 a f = (λ e. f (omega (arith, e), omega (arith, e)), tt)
part_not v W16 a f = (λ e. f (omega (arith, e), omega (arith, e)), (λ e. f (omega (arith, e), omega (arith, e)), tt))

-- or it is one of them
pub part_in : (v : ℕ) (h : Held) (a : ℕ) → IsFrom v a (held_bytes h) → In v (held_part h (word_from number a))
part_in v U8 a i = let low = i.0 in let high = i.1 in inl (omega (arith, low, high))
part_in v I8 a i = let low = i.0 in let high = i.1 in inl (omega (arith, low, high))
part_in v W16 a i = ⊎_elim (λ e. inl (sym e)) (λ more. let high = i.1 in inr (inl (omega (arith, more, high)))) (first_or (i.0))
  where
    first_or : a ≤ v → (v ≡ a) ⊎ (a < v)
    first_or low = ⊎_elim (λ less. inr less) (λ more. inl (omega (arith, low, more))) (cases_lt a v)

-- none of these arguments has it
abbrev pub NotIn : ℕ → List Argument → Type 0
NotIn v arguments = (a : Argument) → Contains arguments a → IsIn v a → ⊥

-- an argument has it, or none does
pub has_or_not : (v : ℕ) (arguments : List Argument) → ((a : Argument) × Contains arguments a × IsIn v a) ⊎ NotIn v arguments
has_or_not v [] = inr (λ a c i. contains_none a c)
has_or_not v (b ∷ arguments) = ⊎_elim
    (λ i. inl (b, (0, omega arith, refl), i))
    (λ not_b. ⊎_elim
    (λ h. let c = h.1 in let below = c.1 in inl (h.0, (suc c.0, omega (arith, below), c.2), h.2))
    (λ none. inr (λ a c i. ⊎_elim (λ e. not_b (subst (IsIn v) (sym e) i)) (λ later. none a later i) (contains_cons b arguments a c)))
    (has_or_not v arguments))
    (from_or_not v (12 + b.first_byte) (held_bytes b.held))

-- ---- operations that write argument places

-- the operation hands v over, as a byte of an argument or of a result
abbrev pub ResultHas : Option Held → ℕ → Type 0
ResultHas None v = ⊥
ResultHas (Some h) v = IsFrom v 12 (held_bytes h)

abbrev pub WritesPlace : Option Held → RtOp → ℕ → Type 0
WritesPlace result (op.Arg h first t) v = IsFrom v (12 + first) (held_bytes h)
WritesPlace result (op.ReturnValue t) v = ResultHas result v
WritesPlace result _ v = ⊥

-- no operation of these writes v
abbrev pub WritesNone : ℕ → List (ByteOp ℕ) → Type 0
WritesNone v ops = AllByRecursion (λ op. IsAmong (Loc v) (writes op) → ⊥) ops

free_writes : (v : ℕ) (ops : List (ByteOp ℕ)) → Free v ops → WritesNone v ops
free_writes v [] free = tt
free_writes v (op ∷ ops) free = (not_written v op (none_first v (op_locations op) (gathered op_locations ops) free), free_writes v ops (none_second v (op_locations op) (gathered op_locations ops) free))

-- an argument place, as a number
abbrev pub IsPlace : ℕ → Type 0
IsPlace v = (12 ≤ v) × (v < 24)

module _ (v : ℕ) (place : IsPlace v) where
  word_not : (a : ℕ) → 24 ≤ a → (a ≢ v) × (a + 1 ≢ v)
  word_not a far = let near = place.1 in (λ e. omega (arith, e, far, near), λ e. omega (arith, e, far, near))

  no_places : (held : List Held) (result : Option Held) (o : RtOp) → (UsesPlaces o → ⊥) → IsWithinTwelve o → Free v (operation_code number held result o)
  no_places held result o none within = named_code number (λ w. w ≢ v) held result o (record {
    temps = λ u named. word_not (27 + 4 * u) (omega arith);
    vars = λ x named. let w = word_not (25 + 4 * x) (omega arith) in part_free v (variable_held held x) (25 + 4 * x) w.0 w.1;
    places = λ uses. absurd (none uses);
    work = λ uses e. let near = place.1 in omega (arith, e, near);
    within = within;
  })

  moves_free : (h : Held) (a b : ℕ) → (IsFrom v a (held_bytes h) → ⊥) → 24 ≤ b → Free v (moves (held_part h (word_from number a)) (held_part h (word_from number b)))
  moves_free h a b none far = let w = word_not b far in named_moves number (λ w'. w' ≢ v) h a b (part_not v h a none) (part_free v h b w.0 w.1)

  result_writes : (held : List Held) (h : Held) (t : ℕ) → WritesNone v (operation_code number held None (op.Result h t))
  result_writes held U8 t = let w = word_not (27 + 4 * t) (omega arith) in (other w.0, (other w.1, tt))
    where
      other : {a : ℕ} → a ≢ v → IsAmong (Loc v) (Loc a ∷ []) → ⊥
      other n i = one_read (λ e. n (sym e)) i
  result_writes held I8 t = let w = word_not (27 + 4 * t) (omega arith) in (other w.0, (carry_only, (both w.1, tt)))
    where
      other : {a : ℕ} → a ≢ v → IsAmong (Loc v) (Loc a ∷ []) → ⊥
      other n i = one_read (λ e. n (sym e)) i

      differ : {m : ℕ} → Carry ≡ Loc m → ⊥
      differ e = cc

      carry_only : IsAmong (Loc v) (Carry ∷ []) → ⊥
      carry_only (inl e) = differ e
      carry_only (inr n) = n

      both : {a : ℕ} → a ≢ v → IsAmong (Loc v) (Loc a ∷ Carry ∷ []) → ⊥
      both n (inl e) = other n (inl e)
      both n (inr i) = carry_only i
  result_writes held W16 t = let w = word_not (27 + 4 * t) (omega arith) in (other w.0, (other w.1, tt))
    where
      other : {a : ℕ} → a ≢ v → IsAmong (Loc v) (Loc a ∷ []) → ⊥
      other n i = one_read (λ e. n (sym e)) i

  -- each operation hands v over, or doesn't write it
  pub place_writes : (held : List Held) (result : Option Held) (o : RtOp) → IsWithinTwelve o → WritesPlace result o v ⊎ WritesNone v (operation_code number held result o)
  place_writes held result (op.Arg h first t) within = ⊎_elim
      (λ i. inl i)
      (λ none. inr (free_writes v (operation_code number held result (op.Arg h first t)) (moves_free h (12 + first) (27 + 4 * t) none (omega arith))))
      (from_or_not v (12 + first) (held_bytes h))
  place_writes held None (op.ReturnValue t) within = inr tt
  place_writes held (Some h) (op.ReturnValue t) within = ⊎_elim
      (λ i. inl i)
      (λ none. inr (free_writes v (operation_code number held (Some h) (op.ReturnValue t)) (moves_free h 12 (27 + 4 * t) none (omega arith))))
      (from_or_not v 12 (held_bytes h))
  place_writes held result (op.Result h t) within = inr (result_writes held h t)
  place_writes held result o within = inr (free_writes v (operation_code number held result o) (no_places held result o (λ uses. uses) within))

  entry_places : (hs : List Held) (x first : ℕ) → NotIn v (arguments_from first hs) → Free v (taken number hs x first)
  entry_places [] x first none = tt
  entry_places (h ∷ hs) x first none =
      named_append number (λ w. w ≢ v) (moves (held_part h (variable number x)) (held_part h (argument number first))) (taken number hs (x + 1) (first + held_bytes h))
      (let w = word_not (25 + 4 * x) (omega arith) in
      named_moves number (λ w'. w' ≢ v) h (25 + 4 * x) (12 + first) (part_free v h (25 + 4 * x) w.0 w.1) (part_not v h (12 + first) (none (record { held = h; first_byte = first }) (0, omega arith, refl))))
      (entry_places hs (x + 1) (first + held_bytes h) (λ a c. let below = c.1 in none a (suc c.0, omega (arith, below), c.2)))

  cleared_free : (hs : List Held) (x : ℕ) → Free v (cleared number hs x)
  cleared_free hs x = named_cleared number (λ w. w ≢ v) hs x (λ k h is. let w = word_not (25 + 4 * (x + k)) (omega arith) in part_free v h (25 + 4 * (x + k)) w.0 w.1)

  -- the new node writes no argument place
  entry_writes : (hs : List Held) (x first : ℕ) → WritesNone v (taken number hs x first)
  entry_writes [] x first = tt
  entry_writes (h ∷ hs) x first = writes_append (moves (held_part h (variable number x)) (held_part h (argument number first))) (taken number hs (x + 1) (first + held_bytes h)) (moves_write h (25 + 4 * x) (12 + first) (omega arith)) (entry_writes hs (x + 1) (first + held_bytes h))
    where
      other : {a : ℕ} → a ≢ v → IsAmong (Loc v) (Loc a ∷ []) → ⊥
      other n i = one_read (λ e. n (sym e)) i

      moves_write : (k : Held) (a b : ℕ) → 24 ≤ a → WritesNone v (moves (held_part k (word_from number a)) (held_part k (word_from number b)))
      moves_write U8 a b far = let w = word_not a far in (other w.0, tt)
      moves_write I8 a b far = let w = word_not a far in (other w.0, tt)
      moves_write W16 a b far = let w = word_not a far in (other w.0, (other w.1, tt))

      writes_append : (ops more : List (ByteOp ℕ)) → WritesNone v ops → WritesNone v more → WritesNone v (ops ++ more)
      writes_append [] more f g = g
      writes_append (op ∷ ops) more f g = (f.0, writes_append ops more f.1 g)

  pub new_writes : (held : List Held) (params : ℕ) → WritesNone v (entry_code number held params)
  new_writes held params = writes_append (taken number (take params held) 0 0) (cleared number (drop params held) params) (entry_writes (take params held) 0 0) (free_writes v (cleared number (drop params held) params) (cleared_free (drop params held) params))
    where
      writes_append : (ops more : List (ByteOp ℕ)) → WritesNone v ops → WritesNone v more → WritesNone v (ops ++ more)
      writes_append [] more f g = g
      writes_append (op ∷ ops) more f g = (f.0, writes_append ops more f.1 g)

  -- ---- a function

  module _ (p : RtLabs) (wf : IsWellFormed p) (i : ℕ) (f : RtFunction) (f_is : slice_get p.functions i ≡ Some f) (formed : IsWellFormedFunction p f) (labelled : SoundlyLabelled (flow_graph f) f.entry) where
    abbrev g : Graph ℕ
    g = translated_function number f

    -- where v was handed over
    record Handed (at : ℕ) : Type 0 where
      from : ℕ
      held : Held
      first : ℕ
      temporary : ℕ
      next : Option ℕ
      is : IsAt f from (record { op = op.Arg held first temporary; next = next })
      has : IsFrom v (12 + first) (held_bytes held)
      path : CallFreePath f from at

    data Origin (at : ℕ) : Type 0 where
      earlier : Handed at → Origin at
      at_node : (node : RtNode) → IsAt f at node → WritesPlace f.result node.op v → Origin at

    path_more : (a b c : ℕ) (node : RtNode) → CallFreePath f a b → IsAt f b node → is_call node.op ≡ false → In c (next_nodes node) → CallFreePath f a c
    path_more a b c node (edge _ _ n is not_call next) is' not_call' next' = longer a b c n is not_call next (edge b c node is' not_call' next')
    path_more a b c node (longer _ q _ n is not_call next path) is' not_call' next' = longer a q c n is not_call next (path_more q b c node path is' not_call' next')

    path_end : (a b : ℕ) → CallFreePath f a b → (b ≢ f.entry) × (b < length f.nodes)
    path_end a b (edge _ _ n is not_call next) =
        (λ e. labelled.entry_alone a (leads f a f.entry n is (subst (λ z. In z (next_nodes n)) e next)), formed.nodes_exist.1 a n is b next)
    path_end a b (longer _ q _ n is not_call next path) = path_end q b path

    is_a_call : (o : RtOp) (r : ℕ) → is_call o ≡ true → IsCall (operation_exit number o r)
    is_a_call (op.Call c) r e = tt
    is_a_call _ r e = absurd (differ e)
      where
        differ : false ≡ true → ⊥
        differ e = cc

    no_call : (o : RtOp) (r : ℕ) → (IsCall (operation_exit number o r) → ⊥) → is_call o ≡ false
    no_call o r none = by (is_call o) refl
      where
        by : (b : Bool) → is_call o ≡ b → is_call o ≡ false
        by true e = absurd (none (is_a_call o r e))
        by false e = e

    -- what stands at a point is written by it
    at_point : (made : List (ByteOp ℕ)) (op : ByteOp ℕ) (ops all : List (ByteOp ℕ)) → WritesNone v all → made ++ (op ∷ ops) ≡ all → IsAmong (Loc v) (writes op) → ⊥
    at_point made op ops all none e among = by made (subst (WritesNone v) (sym e) none)
      where
        by : (before : List (ByteOp ℕ)) → WritesNone v (before ++ (op ∷ ops)) → ⊥
        by [] none' = none'.0 among
        by (x ∷ before) none' = by before none'.1

    record Found (at : ℕ) : Type 0 where
      other : at ≢ f.entry
      below : at < length f.nodes
      origin : Origin at

    entry_none : (x : ByteOp ℕ) (ops : List (ByteOp ℕ)) → IsPoint g f.entry (x ∷ ops) → IsAmong (Loc v) (writes x) → ⊥
    entry_none x ops point among =
        let l = entry_label f formed.nodes_exist formed.paths_go_on labelled in
        let is = entry_is f f.entry (op.Label l.label) l.next l.is refl in
        at_point point.0 x ops [] tt (point.1 ∙ ap (λ (n : Node ℕ). n.ops) is) among

    written_here : (at : ℕ) (op : ByteOp ℕ) (ops : List (ByteOp ℕ)) → IsPoint g at (op ∷ ops) → IsAmong (Loc v) (writes op) → Found at
    written_here at op ops point among = by (node_cases f at)
      where
        by : NodeIs f at → Found at
        by (of_operation node r at_it is) = record {
          other = λ e. entry_none op ops (subst (λ z. IsPoint g z (op ∷ ops)) e point) among;
          below = slice_get_within f.nodes at node at_it;
          origin = ⊎_elim
              (λ w. at_node node at_it w)
              (λ none. absurd (at_point point.0 op ops (operation_code number f.held f.result node.op) none (point.1 ∙ ap (λ (n : Node ℕ). n.ops) is) among))
              (place_writes f.held f.result node.op (formed.arguments_are_within_twelve at node at_it));
        }
        by (of_entry r last is) = absurd (at_point point.0 op ops (entry_code number f.held f.params) (new_writes f.held f.params) (point.1 ∙ ap (λ (n : Node ℕ). n.ops) is) among)
        by (of_none is) = absurd (at_point point.0 op ops [] tt (point.1 ∙ ap (λ (n : Node ℕ). n.ops) is) among)

    -- the node after one at which v was handed over, or after which it was
    found_next : (at q : ℕ) → Found at → (IsCall (exit_at g at) → ⊥) → GoesTo (exit_at g at) q → Found q
    found_next at q found none goes = by _ (slice_get-get_or f.nodes at (record { op = op.Return; next = None }) found.below)
      where
        next_found : (node : RtNode) → IsAt f at node → is_call node.op ≡ false → In q (next_nodes node) → Origin at → GoesTo (exit_at g at) q → Origin q
        next_found node is not_call named (earlier h) goes' = earlier (record { from = h.from; held = h.held; first = h.first; temporary = h.temporary; next = h.next; is = h.is; has = h.has; path = path_more h.from at q node h.path is not_call named })
        next_found node is not_call named (at_node n is' writes') goes' = of_op n.op n.next is' writes' goes'
          where
            of_op : (o : RtOp) (next : Option ℕ) → IsAt f at (record { op = o; next = next }) → WritesPlace f.result o v → GoesTo (exit_at g at) q → Origin q
            of_op (op.Arg h first t) next is'' has goes'' = earlier (record { from = at; held = h; first = first; temporary = t; next = next; is = is''; has = has; path = edge at q node is not_call named })
            of_op (op.ReturnValue t) next is'' has goes'' = absurd (subst (λ x. GoesTo x q) (ap (λ (n : Node ℕ). n.exit) (node_here f at (record { op = op.ReturnValue t; next = next }) is'')) goes'')
            of_op _ next is'' has goes'' = absurd has

        by : (node : RtNode) → IsAt f at node → Found q
        by node is =
            let r = next_of f.entry (length f.nodes) at node.next in
            let exit = ap (λ (n : Node ℕ). n.exit) (node_here f at node is) in
            let not_call = no_call node.op r (λ c. none (subst IsCall (sym exit) c)) in
            let named = goes_named node.op node.next at r q (formed.paths_go_on at node is) (next_other f.entry (length f.nodes) at node.next found.other) (subst (λ x. GoesTo x q) exit goes) in
            record {
              other = λ e. labelled.entry_alone at (leads f at f.entry node is (subst (λ z. In z (next_nodes node)) e named));
              below = formed.nodes_exist.1 at node is q named;
              origin = next_found node is not_call named found.origin goes;
            }

    found : (at : ℕ) (ops : List (ByteOp ℕ)) → WrittenBefore g (Loc v) at ops → Found at
    found at ops (written _ op _ point among) = written_here at op ops point among
    found at ops (past _ op _ before) = found at (op ∷ ops) before
    found at ops (through b _ none goes before) = found_next b at (found b [] before) none goes

    -- ---- no place is live that wasn't handed over

    -- an operation that a path from where v was handed over leads to, without a call between, takes it
    taken_by : (at : ℕ) (o : RtOp) (next : Option ℕ) → IsAt f at (record { op = o; next = next }) → (h : Handed at) → TakesOne p (record { held = h.held; first_byte = h.first }) o
    taken_by at o next is h = formed.arguments_are_taken h.from (record { op = op.Arg h.held h.first h.temporary; next = h.next }) h.is at (record { op = o; next = next }) is h.path

    abbrev pub NotAfterCall : ℕ → Type 0
    NotAfterCall at = (c g' : ℕ) → IsAt f c (record { op = op.Call g'; next = Some at }) → ⊥

    abbrev pub NotResult : ℕ → Type 0
    NotResult at = (h : Held) (t : ℕ) (next : Option ℕ) → IsAt f at (record { op = op.Result h t; next = next }) → ⊥

    pub record Cold (at : ℕ) : Type 0 where
      pub arguments : List Argument
      pub path : HandsOver f at arguments
      pub none : NotIn v arguments
      pub not_after : NotAfterCall at
      pub not_result : NotResult at

    -- the node after a node that is no call and no label after one
    pub cold_next : (at q : ℕ) (node : RtNode) → IsAt f at node → In q (next_nodes node) → is_call node.op ≡ false → NotAfterCall at → NotAfterCall q × NotResult q
    cold_next at q node is named not_call not_after = (
      λ c g' calls.
          let same = called_from p f labelled c g' q at node calls is named in
          differ (sym not_call ∙ ap is_call (one_operation f at node (record { op = op.Call g'; next = Some q }) is (subst (λ z. IsAt f z (record { op = op.Call g'; next = Some q })) (sym same) calls))),
      λ h t next result.
          let came = formed.results_follow_calls q (record { op = op.Result h t; next = next }) result in
          let same : at ≡ came.after = came.alone at node is named in
          not_after came.call came.callee (subst (λ z. IsAt f came.call (record { op = op.Call came.callee; next = Some z })) (sym same) came.calls),
    )
      where
        differ : false ≡ true → ⊥
        differ e = cc

    -- a call to which v was handed over takes it, and so it is among the arguments
    called_takes : (at c : ℕ) (next : Option ℕ) → IsAt f at (record { op = op.Call c; next = next }) → Handed at → Cold at → ⊥
    called_takes at c next is h cold =
        let below = wf.functions_exist.1 i f f_is at (record { op = op.Call c; next = next }) is c (inl refl) in
        let callee_is = slice_get-get_or p.functions c f below in
        let a : Argument = record { held = h.held; first_byte = h.first } in
        let taken' = taken_by at (op.Call c) next is h _ callee_is in
        let permuted = formed.arguments_meet_calls cold.arguments at (record { op = op.Call c; next = next }) is cold.path _ callee_is in
        cold.none a (Contains-permutation _ cold.arguments a permuted taken') h.has

    -- its exit doesn't use v, where it doesn't hand it over itself
    unused_at : (at : ℕ) (o : RtOp) (next : Option ℕ) (r : ℕ) → IsAt f at (record { op = o; next = next }) → Cold at → (WritesPlace f.result o v → ⊥) → Uses 12 (operation_exit number o r) g at (Loc v) → ⊥
    unused_at at o next r is cold here uses = by o is here uses (λ w. origin_is (found at [] w).origin)
      where
        same : {m n : ℕ} → Loc m ≡ Loc n → m ≡ n
        same e = cc

        origin_is : Origin at → Handed at ⊎ WritesPlace f.result o v
        origin_is (earlier h) = inl h
        origin_is (at_node n is' w) = inr (subst (λ z. WritesPlace f.result z v) (one_operation f at n (record { op = o; next = next }) is' is) w)

        by : (o' : RtOp) → IsAt f at (record { op = o'; next = next }) → (WritesPlace f.result o' v → ⊥) → Uses 12 (operation_exit number o' r) g at (Loc v) → (WrittenBefore g (Loc v) at [] → Handed at ⊎ WritesPlace f.result o v) → ⊥
        by (op.Test t a b) is' here' uses' origin = let near = place.1 in let e = same uses' in omega (arith, e, near)
        by (op.Call c) is' here' uses' origin = ⊎_elim (λ h. called_takes at c next is' h cold) (λ w. here w) (origin uses'.1)
        by op.Return is' here' uses' origin = ⊎_elim (λ h. taken_by at op.Return next is' h) (λ w. here w) (origin uses'.1)
        by (op.ReturnValue t) is' here' uses' origin = ⊎_elim (λ h. taken_by at (op.ReturnValue t) next is' h) (λ w. here w) (origin uses'.1)
        by _ is' here' uses' origin = uses'

    over_call : (o : RtOp) (r : ℕ) → is_call o ≡ true → Overwrites 12 (operation_exit number o r) (Loc v)
    over_call (op.Call c) r e = let near = place.1 in (place.0, omega (arith, near))
    over_call _ r e = absurd (differ e)
      where
        differ : false ≡ true → ⊥
        differ e = cc

    none_more : (arguments : List Argument) (o : RtOp) → NotIn v arguments → (WritesPlace f.result o v → ⊥) → NotIn v (and_argument arguments o)
    none_more arguments (op.Arg h first t) none here a c has = ⊎_elim
        (λ earlier. none a earlier has)
        (λ last. ⊎_elim (λ e. here (subst (IsIn v) (sym e) has)) (λ n. contains_none a n) (contains_cons (record { held = h; first_byte = first }) [] a last))
        (Contains-append_cases arguments (record { held = h; first_byte = first } ∷ []) a c)
    none_more arguments _ none here a c has = none a c has

    cold_on : (at q : ℕ) (o : RtOp) (next : Option ℕ) → IsAt f at (record { op = o; next = next }) → In q (next_nodes (record { op = o; next = next })) → is_call o ≡ false → Cold at → (WritesPlace f.result o v → ⊥) → Cold q
    cold_on at q o next is named not_call cold here =
        let node : RtNode = record { op = o; next = next } in
        let after = cold_next at q node is named not_call cold.not_after in
        record {
          arguments = and_argument cold.arguments o;
          path = further at q node cold.arguments cold.path is not_call named;
          none = none_more cold.arguments o cold.none here;
          not_after = after.0;
          not_result = after.1;
        }

    abbrev End : ℕ → RtNode → ℕ → Type 0
    End = RestEnds f formed.nodes_exist formed.paths_go_on labelled v Cold

    cold_ends : (at : ℕ) (o : RtOp) (next : Option ℕ) (r : ℕ) → IsAt f at (record { op = o; next = next }) → Cold at → (WritesPlace f.result o v → ⊥) → End at (record { op = o; next = next }) r
    cold_ends at o next r is cold here = record {
      unused = unused_at at o next r is cold here;
      next = λ q not_over named. by q not_over named (is_call o) refl;
    }
      where
        by : (q : ℕ) → (Overwrites 12 (operation_exit number o r) (Loc v) → ⊥) → In q (next_nodes (record { op = o; next = next })) → (b : Bool) → is_call o ≡ b → Cold q
        by q not_over named true e = absurd (not_over (over_call o r e))
        by q not_over named false e = cold_on at q o next is named e cold here

    -- moves into a scalar's places that have v
    moves_kill : (h : Held) (a b : ℕ) (E : Type 0) → IsFrom v a (held_bytes h) → 24 ≤ b → Guarded (Loc v) (moves (held_part h (word_from number a)) (held_part h (word_from number b))) E
    moves_kill h a b E has far =
        let near = place.1 in
        subst (λ ops. Guarded (Loc v) ops E) (append-nil (moves (held_part h (word_from number a)) (held_part h (word_from number b))))
        (moves_enter v h a b [] E (λ e. omega (arith, e, near, far)) (λ two e. omega (arith, e, near, far)) (inl (part_in v h a has)))

    result_guard : (result : Option Held) (t : ℕ) (E : Type 0) → ((ResultHas result v → ⊥) → E) → Guarded (Loc v) (result_code (word_from number 12) result (temporary number t)) E
    result_guard None t E e = e (λ n. n)
    result_guard (Some h) t E e = ⊎_elim
        (λ has. moves_kill h 12 (27 + 4 * t) E has (omega arith))
        (λ none. free_guarded v (moves (held_part h (word_from number 12)) (held_part h (temporary number t))) E (moves_free h 12 (27 + 4 * t) none (omega arith)) (e none))
        (from_or_not v 12 (held_bytes h))

    cold_guard : (at : ℕ) (o : RtOp) (next : Option ℕ) (r : ℕ) → IsAt f at (record { op = o; next = next }) → Cold at → Guarded (Loc v) (operation_code number f.held f.result o) (End at (record { op = o; next = next }) r)
    cold_guard at (op.Arg h first t) next r is cold = ⊎_elim
        (λ has. moves_kill h (12 + first) (27 + 4 * t) _ has (omega arith))
        (λ none. free_guarded v (operation_code number f.held f.result (op.Arg h first t)) _ (moves_free h (12 + first) (27 + 4 * t) none (omega arith)) (cold_ends at (op.Arg h first t) next r is cold none))
        (from_or_not v (12 + first) (held_bytes h))
    cold_guard at (op.ReturnValue t) next r is cold = result_guard f.result t _ (λ none. cold_ends at (op.ReturnValue t) next r is cold none)
    cold_guard at (op.Result h t) next r is cold = absurd (cold.not_result h t next is)
    cold_guard at o next r is cold = free_guarded v (operation_code number f.held f.result o) _ (no_places f.held f.result o (λ uses. uses) (formed.arguments_are_within_twelve at (record { op = o; next = next }) is)) (cold_ends at o next r is cold (λ w. w))

    -- a place that wasn't handed over isn't live
    pub cold_dead : (at : ℕ) → at ≢ f.entry → at < length f.nodes → Cold at → LiveAt 12 g (Loc v) at → ⊥
    cold_dead = rest_dead f formed.nodes_exist formed.paths_go_on labelled v Cold (λ at other node is r cold. cold_guard at node.op node.next r is cold)

    -- ---- the entry

    first_cold : (l : _) (q : ℕ) → IsAt f f.entry (record { op = op.Label l; next = Some q }) → Cold q
    first_cold l q is =
        let node : RtNode = record { op = op.Label l; next = Some q } in
        let after = cold_next f.entry q node is (inl refl) refl (λ c g' calls. labelled.entry_alone c (leads f c f.entry (record { op = op.Call g'; next = Some f.entry }) calls (inl refl))) in
        record {
          arguments = [];
          path = further f.entry q node [] at_entry is refl (inl refl);
          none = λ a c has. contains_none a c;
          not_after = after.0;
          not_result = after.1;
        }

    -- what is live there is of a parameter
    pub entry_parameter : LiveAt 12 g (Loc v) f.entry → (a : Argument) × Contains (parameters_of f) a × IsIn v a
    entry_parameter live = ⊎_elim
        (λ has. has)
        (λ none. absurd (entry_dead f formed.nodes_exist formed.paths_go_on labelled v Cold (λ at other node is r cold. cold_guard at node.op node.next r is cold)
        (free_guarded v (entry_code number f.held f.params) _
        (named_append number (λ w. w ≢ v) (taken number (take f.params f.held) 0 0) (cleared number (drop f.params f.held) f.params) (entry_places (take f.params f.held) 0 0 none) (cleared_free (drop f.params f.held) f.params))
        first_cold)
        live))
        (has_or_not v (parameters_of f))
