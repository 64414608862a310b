use Rattle.std.proofs.Common.{◌≡◌, ◌≤◌, ◌++◌, drop}
use Rattle.clight_source.specs.Code.Views.{initialiser_of}
use Rattle.clight_values.specs.Globals.{filled, numbers_of}
use Rattle.clight_values.specs.Code.Views.{cells_held, kinds_held}
use Rattle.clight_values.proofs.memory.Memory.push_filled.Given as goal

abbrev pub invariant-loop-cell : goal.invariant-loop-cell
invariant-loop-cell l = record {
  few : l.next ≤ l.cell-index;
  blocks : l.self.blocks.items ≡ l.fn.self.blocks.items;
  rest : cells_held l.fn.self.cells.items ++ filled (kinds_held l.unset) (numbers_of (initialiser_of l.initialiser)) 0
      ≡ cells_held l.self.cells.items ++ filled (kinds_held (drop l.cell-index l.unset)) (numbers_of (initialiser_of l.initialiser)) l.next;
}
