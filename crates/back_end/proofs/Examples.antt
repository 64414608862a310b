-- A countdown in the languages that it passes through, each run on the empty script up to several numbers of labels. It shows the same
-- events in each of them.
--
--     void main(void){unsigned char x;x=3;while(x)x=x-1;}
use Rattle.std.proofs.Common.{◌≡◌, ℕ, zero, suc, List, [], ◌∷◌, map, Some, None, refl}
use Rattle.std.specs.Prelude.{nat_eq, if◌then◌else◌, ◌&&◌, ◌||◌}
use Rattle.cerco_base.specs.Bytes.{difference_byte, borrows}
use Rattle.cerco_base.specs.Events.{label, label_count}
use Rattle.cerco_base.specs.declared.events.Event.{Event}
use Rattle.cerco_base.specs.declared.events.Label.{Label}
use Rattle.cerco_traces.specs.Systems.{System}
use Rattle.cerco_traces.specs.Worlds.{update}
use Rattle.cerco_middle.specs.declared.operators.Held.TheVariants.{U8}
use Rattle.cerco_middle.specs.declared.operators.CmOp.TheVariants.{Sub}
use Rattle.cerco_middle.specs.Operators.{kept, operator_value}
use Rattle.cerco_middle.specs.Cminor.Trees.{Const, Var, Bin, Test, CmStmt, Seq, Set, Loop, NoStmts, Then, Cminor}
use Rattle.cerco_middle.specs.Cminor.Meaning.{cminor}
use Rattle.cerco_middle.specs.RtLabs.Meaning.{rtlabs}
use Rattle.rtl.specs.Effects.{same_storage}
use Rattle.rtl.specs.Meaning.{with_value, rtl, ertl}
use Rattle.rtlabs_gen.specs.Translation.{translated as labs_of}
use Rattle.rtl_gen.specs.Translation.{translated as rtl_of}
use Rattle.ertl_gen.specs.Translation.{ertl_of}

abbrev mark : ℕ → Label
mark l = record { 0 = l }

abbrev counts : CmStmt
counts = Loop (Some (Test (Var 0))) (mark 1) (Set 0 (Bin Sub (Var 0) (Const 1))) (Seq NoStmts) (mark 2)

abbrev countdown : Cminor
countdown = record {
  functions = record { held = U8 ∷ []; params = 0; result = None; label = mark 0; body = Seq (Then (Then NoStmts (Set 0 (Const 3))) counts) } ∷ [];
  calls = record { function = 0; callers = [] } ∷ [];
  main = 0;
  start = [];
}

-- the state before the label that comes after so many, or the end, with at most so many steps
abbrev stop : {S : Type 0} → System S → ℕ → ℕ → S → S
stop X labels zero s = s
stop X labels (suc k) s = if X.ended s || (X.due s && nat_eq (label_count (X.events s)) labels) then s else stop X labels k (X.step s)

abbrev shows : {S : Type 0} → System S → ℕ → List Event
shows X labels = X.events (stop X labels 80 (X.start []))

abbrev bounds : List ℕ
bounds = 0 ∷ 1 ∷ 3 ∷ 9 ∷ []

abbrev seen : List (List Event)
seen = [] ∷ (label 0 ∷ []) ∷ (label 0 ∷ label 1 ∷ label 1 ∷ []) ∷ (label 0 ∷ label 1 ∷ label 1 ∷ label 1 ∷ label 2 ∷ []) ∷ []

in_cminor : map (shows (cminor countdown)) bounds ≡ seen
unfolding update kept operator_value
in_cminor = refl

in_rtlabs : map (shows (rtlabs (labs_of countdown))) bounds ≡ seen
unfolding update kept operator_value
in_rtlabs = refl

in_rtl : map (shows (rtl (rtl_of (labs_of countdown)))) bounds ≡ seen
unfolding with_value same_storage difference_byte borrows
in_rtl = refl

in_ertl : map (shows (ertl (ertl_of (rtl_of (labs_of countdown))))) bounds ≡ seen
unfolding with_value same_storage difference_byte borrows
in_ertl = refl
