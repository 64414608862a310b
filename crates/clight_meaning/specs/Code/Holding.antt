-- What a run holds, as the definitions of an evaluation speak of it, and what a part of a step does to it.
use Rattle.std.specs.Prelude.{◌≡◌, List, [], ◌∷◌, map, Option, Some, None}
use Rattle.cerco_base.specs.declared.events.FaultKind.{FaultKind}
use Rattle.cerco_base.specs.declared.events.Label.{Label}
use Rattle.c_types.specs.Types.{type_of}
use Rattle.clight_syntax.specs.TypedTrees as t
use Rattle.clight_syntax.specs.Code.TypedViews.{stmt_of, cond_of}
use Rattle.clight_meaning.specs.declared.turn.Turn.{Turn}
use Rattle.clight_meaning.specs.declared.turn.Turn.TheVariants as turn
use Rattle.clight_meaning.specs.declared.running.Way.{Way}
use Rattle.clight_meaning.specs.declared.running.Way.TheVariants as way
use Rattle.clight_meaning.specs.declared.running.Task.{Task}
use Rattle.clight_meaning.specs.declared.running.Task.TheVariants as task
use Rattle.clight_meaning.specs.declared.running.Part.{Part}
use Rattle.clight_meaning.specs.declared.running.Part.TheVariants as part
use Rattle.clight_meaning.specs.declared.running.Work.{Work}
use Rattle.clight_meaning.specs.declared.running.Work.TheVariants as work
use Rattle.clight_meaning.specs.declared.running.Running.{Running}
use Rattle.clight_meaning.specs.Code.Evaluation as n
use Rattle.clight_values.specs.Memory.{State}
use Rattle.clight_meaning.specs.Code.Views.{frame_held, state_held}

abbrev pub way_held : Way → n.Way
way_held way.Break = n.ByBreak
way_held way.Continue = n.ByContinue
way_held (way.Return x) = n.ByReturn x

abbrev pub statement_held : Task → t.Stmt Label → n.Work
statement_held task.Run s = n.Run s
statement_held task.Turn s = n.Turn' s
statement_held task.Choose s = n.Wait (n.Chooser s)

abbrev pub condition_held : Part → t.Cond Label → n.Work
condition_held part.Check c = n.Check c
condition_held (part.AndThen t f) c = n.Wait (n.AndThen t f c)
condition_held (part.OrElse t f) c = n.Wait (n.OrElse t f c)

abbrev pub work_held : Work → n.Work
work_held (work.Statement task s) = statement_held task (stmt_of s.now)
work_held (work.All ss) = n.All (map stmt_of ss.now)
work_held (work.Condition part c) = condition_held part (cond_of c.now)
work_held (work.Outcome b) = n.Outcome' b
work_held work.Negation = n.Wait n.Negation
work_held (work.Pass l) = n.Pass l
work_held (work.Caller target ty back frame) = n.Caller target (type_of ty.now) back (frame_held frame)
work_held (work.Take target ty x) = n.Take target (type_of ty.now) x
work_held (work.Leave way) = n.Leave (way_held way)
work_held (work.Faulty kind) = n.Faulty kind

-- before work that is older
abbrev pub works_onto : List Work → List n.Work → List n.Work
works_onto [] older = older
works_onto (w ∷ ws) older = works_onto ws (work_held w ∷ older)

-- the newest first
unfoldable pub works_held : List Work → List n.Work
works_held ws = works_onto ws []

abbrev pub IsFaulty : FaultKind → List n.Work → Type 0
IsFaulty kind (n.Faulty k ∷ ws) = k ≡ kind
IsFaulty kind _ = ⊥

-- a move, its answer, and the work and the state after it
abbrev pub Matches : n.Move → Option Turn → List n.Work → State → Type 0
Matches (n.Silent ws st) answer new after = (answer ≡ None) × (new ≡ ws) × (after ≡ st)
Matches (n.Says e ws st) answer new after = (answer ≡ Some (turn.Event e)) × (new ≡ ws) × (after ≡ st)
Matches (n.SaysAndFails e kind) answer new after = (answer ≡ Some (turn.Event e)) × IsFaulty kind new
Matches (n.Fails kind) answer new after = (answer ≡ Some (turn.Fault kind)) × IsFaulty kind new
Matches n.Ends answer new after = (answer ≡ Some turn.Ended) × (new ≡ [])

pub record Does (move : n.Move) (answer : Option Turn) (old new : Running) : Type 0 where
  pub program : new.program.now ≡ old.program.now
  pub moves : Matches move answer (works_held new.work.items) (state_held new.state)

pub record Pushes (w : n.Work) (old new : Running) : Type 0 where
  pub program : new.program.now ≡ old.program.now
  pub works : works_held new.work.items ≡ w ∷ works_held old.work.items
  pub state : state_held new.state ≡ state_held old.state

pub record Enters (loop body : t.Stmt Label) (old new : Running) : Type 0 where
  pub program : new.program.now ≡ old.program.now
  pub works : works_held new.work.items ≡ n.Run body ∷ n.Turn' loop ∷ works_held old.work.items
  pub state : state_held new.state ≡ state_held old.state

abbrev pub PopsTo : Option Work → List n.Work → List n.Work → Type 0
PopsTo None old new = (old ≡ []) × (new ≡ [])
PopsTo (Some w) old new = old ≡ work_held w ∷ new

pub record Pops (answer : Option Work) (old new : Running) : Type 0 where
  pub program : new.program.now ≡ old.program.now
  pub works : PopsTo answer (works_held old.work.items) (works_held new.work.items)
  pub state : state_held new.state ≡ state_held old.state

pub record Announces (l : Label) (w : n.Work) (old new : Running) : Type 0 where
  pub program : new.program.now ≡ old.program.now
  pub works : works_held new.work.items ≡ n.Pass l ∷ w ∷ works_held old.work.items
  pub state : state_held new.state ≡ state_held old.state
