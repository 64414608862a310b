-- What is asked of the items of a selected program of soundly labelled graphs.
use Rattle.std.proofs.Common.{◌≡◌, ℕ, ◌+◌, List, Some, refl, subst, arith, slice_get}
use Rattle.rtl.specs.declared.locations.Place.{Place}
use Rattle.rtl.specs.Programs.{Graph}
use Rattle.rtl.specs.Items.{LinProgram}
use Rattle.rtl.specs.Graphs.{AreSoundlyLabelled}
use Rattle.rtl.specs.WellFormed.{IsLinProgram}
use Rattle.asm51.specs.declared.items.AsmItem.{AsmItem}
use Rattle.asm51.specs.Numbered.{OfEachItem}
use Rattle.asm51.specs.WellFormed.{IsWellFormed}
use Rattle.asm51.specs.Selected.{SetsStack, TurnsBack, AreSelected}
use Rattle.asm51.specs.Ends.{LabelEnds, HasArms, LandsAtStop, HasEnds}
use Rattle.lin_gen.specs.Linearised.{AreOrderings}
use Rattle.asm51_select.specs.Translation.{selected}
use Rattle.asm51_select.proofs.Formed.{instructions_are_selectable}
use Rattle.asm51_select.proofs.Fitting.{each_numbered, item_fits, start_ends}

sets_stack : (program : LinProgram) → SetsStack (selected program)
unfolding selected
sets_stack program = refl

-- a fact of each place is one of each numbered item
of_each_item : (P : ℕ → AsmItem → Type 0) (items : List AsmItem) → ((j : ℕ) (x : AsmItem) → slice_get items j ≡ Some x → P j x) → OfEachItem P items
of_each_item P items h = each_numbered P 0 items (λ j x g. let z : j ≡ 0 + j = omega arith in subst (λ n. P n x) z (h j x g))

module _ (program : LinProgram) (graphs : List (Graph Place)) (are : AreOrderings graphs program.lins) (sound : AreSoundlyLabelled graphs) (formed : IsLinProgram program) (well : IsWellFormed (selected program)) where
  pub are_selected : AreSelected (selected program)
  are_selected = record {
    well_formed = well;
    stack = sets_stack program;
    instructions = instructions_are_selectable program formed;
    turns = of_each_item (TurnsBack (selected program)) (selected program) (λ j x g. (item_fits program graphs are sound formed well j x g).1.1.1);
  }

  pub have_ends : HasEnds (selected program)
  have_ends = record {
    start = start_ends program graphs are sound formed well;
    labels = of_each_item (LabelEnds (selected program)) (selected program) (λ j x g. (item_fits program graphs are sound formed well j x g).0);
    tests = of_each_item (HasArms (selected program)) (selected program) (λ j x g. (item_fits program graphs are sound formed well j x g).1.0);
    returns = of_each_item (LandsAtStop (selected program)) (selected program) (λ j x g. (item_fits program graphs are sound formed well j x g).1.1.0);
  }
