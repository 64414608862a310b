use Rattle.std.proofs.Common.{◌≡◌, ◌++◌, drop, map}
use Rattle.rtl.specs.Code.Views.{item_of}
use Rattle.asm51_select.specs.Translation.{functions_code}
use Rattle.asm51_select.proofs.functions.add_functions.Given as goal

abbrev pub invariant-loop-function : goal.invariant-loop-function
invariant-loop-function l = l.asm ++ functions_code l.function (map (map item_of) (drop l.function l.lins)) ≡ l.fn.asm ++ functions_code 0 (map (map item_of) l.lins)
