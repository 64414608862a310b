use Rattle.c_types.specs.Types.{type_of}
use Rattle.clight_values.proofs.HeldCells.{stored_is}
use Rattle.clight_values.proofs.memory.Memory.store.Goals as goal

pub returns-in-Ok : goal.returns-in-Ok
returns-in-Ok c =
    stored_is c.args.self.now.cells.items c.args.self.now.blocks.items (type_of c.args.ty.now) c.args.pointer c.args.value c.in-Pointer.at c.in-Ok.i c.index.result.now
    c.in-Pointer.is c.in-Ok.ensures.value c.in-Ok.ensures.within c.index.ensures
