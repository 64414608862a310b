-- Two programs of one text have the same room: the order of calls doesn't count.
use Rattle.std.proofs.Common.{◌≡◌, ℕ, ◌≤◌, List, length, map, sym, ap, subst}
use Rattle.std.specs.Prelude.{◌↔◌}
use Rattle.cerco_base.specs.CallOrder.{Called}
use Rattle.cerco_base.specs.declared.events.Label.{Label}
use Rattle.call_graph.specs.CallPaths.{CallsIn, IsOrderOf}
use Rattle.call_graph.proofs.Consequences.{largest_along_calls}
use Rattle.clight_syntax.specs.Bounds.{register_need}
use Rattle.clight_syntax.specs.TypedTrees.{TypedProgram}
use Rattle.clight_typing.specs.TypedPrograms.{typed_program}
use Rattle.clight_layout.specs.Calls.{callees}
use Rattle.cerco_pipeline.specs.Programs.{IsProgramOf, HasRoom}
use Rattle.cerco_pipeline.proofs.SameBounds.{code_same}
use Rattle.cerco_pipeline.proofs.Unique.{one_tree, one_program_of}

with_calls : TypedProgram Label → List Called → TypedProgram Label
with_calls p calls = record p { calls = calls }

-- the order of calls is one of the functions that call
order_of : (text : List ℕ) (p : TypedProgram Label) (is : IsProgramOf text p) → IsOrderOf (callees is.sound.typed.functions) p.calls
order_of text p is = subst (IsOrderOf (callees is.sound.typed.functions)) (sym (ap (λ t. t.calls) is.labelled.typed_alone)) is.sound.layout.order

one_typed : (text : List ℕ) (p q : TypedProgram Label) (a : IsProgramOf text p) (b : IsProgramOf text q) → a.sound.typed ≡ b.sound.typed
one_typed text p q a b =
    let trees = ap typed_program (one_tree text a.tree b.tree a.is_tree b.is_tree) in
    let one = a.sound.typing in
    let other = b.sound.typing in
    cc

same_calls : (callees : List (List ℕ)) (one other : List Called) → IsOrderOf callees one → IsOrderOf callees other → (f g : ℕ) → CallsIn one f g ↔ CallsIn other f g
same_calls callees one other a b f g = (λ h. (b.calls f g).1 ((a.calls f g).0 h), λ h. (a.calls f g).1 ((b.calls f g).0 h))

pub room_of_other : (text : List ℕ) (p q : TypedProgram Label) → IsProgramOf text p → IsProgramOf text q → HasRoom q → HasRoom p
unfolding with_calls
room_of_other text p q a b room =
    let same : with_calls p q.calls ≡ q = ap (λ x. with_calls x q.calls) (one_program_of text p q a b) in
    let moved : HasRoom (with_calls p q.calls) = subst HasRoom (sym same) room in
    let order = subst (λ t. IsOrderOf (callees t.functions) q.calls) (sym (one_typed text p q a b)) (order_of text q b) in
    let calls = same_calls (callees a.sound.typed.functions) q.calls p.calls order (order_of text p a) in
    record {
      most = moved.most;
      need = largest_along_calls (length p.functions) (CallsIn q.calls) (CallsIn p.calls) calls (map (register_need p) p.functions) moved.most moved.need;
      cells = moved.cells;
      code = subst (λ n. n ≤ 65536) (code_same p q.calls) moved.code;
    }
