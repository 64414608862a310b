-- The nodes of an expression bring its value into its temporary, and leave those below alone.
use Rattle.std.proofs.Common.{◌≡◌, ◌≢◌, ℕ, suc, ◌+◌, ◌<◌, ◌≤◌, List, length, Option, Some, refl, sym, ap, ◌∙◌, subst, arith}
use Rattle.std.specs.Prelude.{slice_get}
use Rattle.cerco_traces.specs.Systems.{EachWithin, IsWithin, Run, here, onward}
use Rattle.cerco_traces.specs.Worlds.{World, update}
use Rattle.cerco_traces.proofs.Simulation.{joined, each_front, each_back}
use Rattle.cerco_traces.proofs.WorldLaws.{update_same, update_other}
use Rattle.cerco_middle.specs.declared.rtlabs.RtOp.{RtOp}
use Rattle.cerco_middle.specs.declared.rtlabs.RtOp.TheVariants as o
use Rattle.cerco_middle.specs.Operators.{word_bytes, as_word, kept, held_at, held_addresses, negated, complement, shifted_left, shifted_right, operator_value}
use Rattle.cerco_middle.specs.Calls.{Values}
use Rattle.cerco_middle.specs.Cminor.Trees.{CmExpr, Const, Var, Load, Neg, Complement, Narrow, Bin, Shl, Shr}
use Rattle.cerco_middle.specs.Cminor.Meaning.{value, reads}
use Rattle.cerco_middle.specs.RtLabs.Graphs.{RtFunction, RtLabs}
use Rattle.cerco_middle.specs.RtLabs.Meaning.{RtCall, RtState, at_node, op_step, node_step, op_touched, node_touched, rtlabs}
use Rattle.rtlabs_gen.specs.Stands.{At, ExprStands}

module _ (q : RtLabs) (d : ℕ) (f : RtFunction) where
  -- one node
  pub one_node : (p : ℕ) (op : RtOp) (next : Option ℕ) (ts vs : Values) (cs : List RtCall) (slots : Values) (r : ℕ) (w : World) (s' : RtState)
      → slice_get f.nodes p ≡ Some (record { op = op; next = next }) → EachWithin d (op_touched op ts)
      → op_step q.functions op next (at_node f p ts vs cs slots r w) f ts vs cs slots r w ≡ s' → length s'.calls ≤ 64
      → Run (rtlabs q) d (at_node f p ts vs cs slots r w) s'
  one_node p op next ts vs cs slots r w s' found touched e few =
      let stepped = ap (λ n. node_step q.functions n (at_node f p ts vs cs slots r w) f ts vs cs slots r w) found ∙ e in
      let within : IsWithin (rtlabs q) d (at_node f p ts vs cs slots r w) = record {
        bytes = subst (λ n. EachWithin d (node_touched n ts)) (sym found) touched;
        calls = subst (λ (s : RtState). length s.calls ≤ 64) (sym stepped) few;
      } in
      onward _ _ within (subst (λ s. Run (rtlabs q) d s s') (sym stepped) (here s'))

  module _ (vs : Values) (cs : List RtCall) (few : suc (length cs) ≤ 64) (slots : Values) (r : ℕ) (w : World) where
    -- from p to next the value v comes into t, and the temporaries below t stay
    pub record Gives (p next t v : ℕ) (ts : Values) : Type 0 where
      pub after : Values
      pub run : Run (rtlabs q) d (at_node f p ts vs cs slots r w) (at_node f next after vs cs slots r w)
      pub value_is : after t ≡ v
      pub same : (u : ℕ) → u < t → after u ≡ ts u

    -- the last node of an expression
    last : (p m next t v : ℕ) (ts ts1 : Values) (op : RtOp) (v' : ℕ) → Run (rtlabs q) d (at_node f p ts vs cs slots r w) (at_node f m ts1 vs cs slots r w)
        → ((u : ℕ) → u < t → ts1 u ≡ ts u) → At f.nodes m op next → EachWithin d (op_touched op ts1)
        → op_step q.functions op (Some next) (at_node f m ts1 vs cs slots r w) f ts1 vs cs slots r w ≡ at_node f next (update ts1 t v') vs cs slots r w → v' ≡ v
        → Gives p next t v ts
    last p m next t v ts ts1 op v' run same found touched e is_v = record {
      after = update ts1 t v';
      run = joined run (one_node m op (Some next) ts1 vs cs slots r w _ found touched e few);
      value_is = update_same ts1 t t v' refl ∙ is_v;
      same = λ u h. let ne : u ≢ t = omega arith in update_other ts1 t u v' ne ∙ same u h;
    }

    -- an operator on one value
    after_operand : (p m next t v : ℕ) (ts : Values) (op : RtOp) (on : ℕ → ℕ) → Gives p m t v ts → At f.nodes m op next
        → ((ts1 : Values) → EachWithin d (op_touched op ts1))
        → ((ts1 : Values) → op_step q.functions op (Some next) (at_node f m ts1 vs cs slots r w) f ts1 vs cs slots r w ≡ at_node f next (update ts1 t (on (ts1 t))) vs cs slots r w)
        → Gives p next t (on v) ts
    after_operand p m next t v ts op on g found touched e = last p m next t (on v) ts g.after op (on (g.after t)) g.run g.same found (touched g.after) (e g.after) (ap on g.value_is)

    pub expr_runs : (e : CmExpr) (t p next : ℕ) (ts : Values) → ExprStands f.nodes e t p next → EachWithin d (reads e vs w) → Gives p next t (value e vs w) ts
    expr_runs (Const number) t p next ts b ok = last p p next t (as_word number) ts ts (o.Const t number) (as_word number) (here _) (λ u h. refl) b tt refl refl
    expr_runs (Var x) t p next ts b ok = last p p next t (vs x) ts ts (o.Get t x) (vs x) (here _) (λ u h. refl) b tt refl refl
    expr_runs (Load h e) t p next ts b ok =
        let g = expr_runs e t p b.0 ts b.2 (each_front d (reads e vs w) _ ok) in
        let in_range = subst (λ a. EachWithin d (held_addresses h a)) (sym g.value_is) (each_back d (reads e vs w) _ ok) in
        last p b.0 next t _ ts g.after (o.Load h t) _ g.run g.same b.1 in_range refl (ap (held_at h w) g.value_is)
    expr_runs (Neg e) t p next ts b ok = after_operand p b.0 next t _ ts (o.Neg t) (negated word_bytes) (expr_runs e t p b.0 ts b.2 ok) b.1 (λ ts1. tt) (λ ts1. refl)
    expr_runs (Complement e) t p next ts b ok = after_operand p b.0 next t _ ts (o.Not t) (complement word_bytes) (expr_runs e t p b.0 ts b.2 ok) b.1 (λ ts1. tt) (λ ts1. refl)
    expr_runs (Narrow h e) t p next ts b ok = after_operand p b.0 next t _ ts (o.Narrow h t) (kept h) (expr_runs e t p b.0 ts b.2 ok) b.1 (λ ts1. tt) (λ ts1. refl)
    expr_runs (Bin op a e) t p next ts b ok =
        let g = expr_runs a t p b.1 ts b.4 (each_front d (reads a vs w) _ ok) in
        let g' = expr_runs e (t + 1) b.1 b.0 g.after b.3 (each_back d (reads a vs w) _ ok) in
        let low : t < t + 1 = omega arith in
        let left = g'.same t low ∙ g.value_is in
        last p b.0 next t _ ts g'.after (o.Bin op t (t + 1)) _ (joined g.run g'.run) (λ u h. let h' : u < t + 1 = omega arith in g'.same u h' ∙ g.same u h) b.2 tt refl
        (ap (λ x. operator_value word_bytes op x (g'.after (t + 1))) left ∙ ap (operator_value word_bytes op (value a vs w)) g'.value_is)
    expr_runs (Shl bits e) t p next ts b ok = after_operand p b.0 next t _ ts (o.Shl bits t) (shifted_left word_bytes bits) (expr_runs e t p b.0 ts b.2 ok) b.1 (λ ts1. tt) (λ ts1. refl)
    expr_runs (Shr bits arithmetic e) t p next ts b ok =
        after_operand p b.0 next t _ ts (o.Shr bits arithmetic t) (shifted_right word_bytes bits arithmetic) (expr_runs e t p b.0 ts b.2 ok) b.1 (λ ts1. tt) (λ ts1. refl)
