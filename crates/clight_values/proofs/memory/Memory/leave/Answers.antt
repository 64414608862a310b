use Rattle.std.proofs.Common.{ap, sym, ◌∙◌}
use Rattle.clight_values.specs.Code.Views.{cells_held}
use Rattle.clight_values.proofs.HeldCells.{left_is}
use Rattle.clight_values.proofs.memory.Memory.leave.Goals as goal

pub returns : goal.returns
returns c =
    ap (λ bs. record { cells = cells_held c.truncate-2.new.self.items; blocks = bs }) c.truncate.ensures.items
    ∙ sym (left_is c.args.self.now.cells.items c.truncate-2.new.self.items c.args.self.now.blocks.items c.args.blocks c.args.cells c.truncate-2.ensures.items)
