use Rattle.std.proofs.Common.{◌≡◌, ◌++◌, drop, map}
use Rattle.rtl.specs.Code.Views.{item_of}
use Rattle.rtl.specs.WellFormed.{gathered}
use Rattle.asm51_select.specs.Translation.{item_code, function_code}
use Rattle.asm51_select.proofs.functions.add_function.Given as goal

abbrev pub invariant-loop-item : goal.invariant-loop-item
invariant-loop-item l = l.asm ++ gathered (item_code l.function) (map item_of (drop l.item-index l.lin)) ≡ l.fn.asm ++ function_code l.function (map item_of l.lin)
