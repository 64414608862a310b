-- The graphs of small functions, node by node, and a run.
use Rattle.std.proofs.Common.{◌≡◌, ℕ, List, [], ◌∷◌, Some, None, refl}
use Rattle.cerco_base.specs.Events.{label}
use Rattle.cerco_base.specs.declared.events.Event.{Event}
use Rattle.cerco_base.specs.declared.events.Event.TheVariants.{Read, Write}
use Rattle.cerco_base.specs.declared.events.Port.TheVariants.{P1}
use Rattle.cerco_base.specs.declared.events.Label.{Label}
use Rattle.cerco_traces.specs.Headline.{after}
use Rattle.cerco_traces.specs.Worlds.{update}
use Rattle.cerco_middle.specs.declared.operators.Held.TheVariants.{U8}
use Rattle.cerco_middle.specs.declared.rtlabs.RtOp.TheVariants as o
use Rattle.cerco_middle.specs.declared.rtlabs.RtNode.{RtNode}
use Rattle.cerco_middle.specs.Operators.{kept}
use Rattle.cerco_middle.specs.Cminor.Trees.{Const, Var, Test, Both, CmStmt, Seq, Set, ReadPort, WritePort, If, Loop, Do, Break, Return, NoStmts, Then, CmFunction, Cminor}
use Rattle.cerco_middle.specs.RtLabs.Graphs.{labels_of_nodes}
use Rattle.cerco_middle.specs.RtLabs.Meaning.{rtlabs}
use Rattle.rtlabs_gen.specs.Translation.{add_body, translated}

abbrev mark : ℕ → Label
mark l = record { 0 = l }

abbrev main_of : CmStmt → CmFunction
main_of body = record { held = U8 ∷ U8 ∷ []; params = 0; result = None; label = mark 0; body = body }

abbrev nodes_of : CmStmt → List RtNode
nodes_of body = (add_body (main_of body ∷ []) (main_of body)).nodes

abbrev shows : CmStmt → List ℕ → List Event
shows body script =
    let p : Cminor = record { functions = main_of body ∷ []; calls = record { function = 0; callers = [] } ∷ []; main = 0; start = [] } in
    let X = rtlabs (translated p) in
    X.events (after X 60 (X.start script))

-- `a=P1;b=P1;do{if(a)break;}while(b);`: the exit label 4 is reached by the break and where the condition is false
abbrev leaves_early : CmStmt
leaves_early = Seq (Then (Then (Then NoStmts (ReadPort 0)) (ReadPort 1)) (Do (If (Test (Var 0)) (mark 1) Break (mark 2) (Seq NoStmts)) (Test (Var 1)) (mark 3) (mark 4)))

early_nodes : nodes_of leaves_early
    ≡ record { op = o.Return; next = None }
    ∷ record { op = o.Label (mark 4); next = Some 0 }
    ∷ record { op = o.Label (mark 3); next = Some 8 }
    ∷ record { op = o.Test 0 2 1; next = None }
    ∷ record { op = o.Get 0 1; next = Some 3 }
    ∷ record { op = o.Label (mark 2); next = Some 4 }
    ∷ record { op = o.Label (mark 1); next = Some 1 }
    ∷ record { op = o.Test 0 6 5; next = None }
    ∷ record { op = o.Get 0 0; next = Some 7 }
    ∷ record { op = o.Put 1 0; next = Some 8 }
    ∷ record { op = o.ReadPort 0; next = Some 9 }
    ∷ record { op = o.Put 0 0; next = Some 10 }
    ∷ record { op = o.ReadPort 0; next = Some 11 }
    ∷ record { op = o.Label (mark 0); next = Some 12 }
    ∷ []
early_nodes = refl

breaks : shows leaves_early (1 ∷ 0 ∷ []) ≡ label 0 ∷ Read P1 1 ∷ Read P1 0 ∷ label 1 ∷ label 4 ∷ []
unfolding update kept
breaks = refl

falls_through : shows leaves_early (0 ∷ 0 ∷ []) ≡ label 0 ∷ Read P1 0 ∷ Read P1 0 ∷ label 2 ∷ label 4 ∷ []
unfolding update kept
falls_through = refl

-- `a=P1;b=P1;while(a&&b){a=0;P1=b;}`: the right operand is only evaluated where the left one is true
abbrev while_both : CmStmt
while_both = Seq (Then (Then (Then NoStmts (ReadPort 0)) (ReadPort 1)) (Loop (Some (Both (Test (Var 0)) (mark 1) (mark 2) (Test (Var 1)))) (mark 3) (Seq (Then (Then NoStmts (Set 0 (Const 0))) (WritePort (Var 1)))) (Seq NoStmts) (mark 4)))

turns_once : shows while_both (1 ∷ 1 ∷ []) ≡ label 0 ∷ Read P1 1 ∷ Read P1 1 ∷ label 1 ∷ label 3 ∷ Write P1 1 ∷ label 2 ∷ label 4 ∷ []
unfolding update kept
turns_once = refl

-- `return;P1=1;while(1);`: labels in unreachable code stay
unreachable : labels_of_nodes (nodes_of (Seq (Then (Then (Then NoStmts (Return None)) (WritePort (Const 1))) (Loop (Some (Test (Const 1))) (mark 1) (Seq NoStmts) (Seq NoStmts) (mark 2))))) [] ≡ 2 ∷ 1 ∷ 0 ∷ []
unreachable = refl
