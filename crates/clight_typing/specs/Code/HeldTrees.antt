-- The typed parts of statements that the checker holds in boxes, as definitions speak of them.
use Rattle.std.specs.declared.boxed.Box.{Box}
use Rattle.std.specs.Global.{Global}
use Rattle.clight_syntax.specs.TypedTrees as p
use Rattle.clight_syntax.specs.Code.TypedViews.{test_of, for_head_of, stmt_of}
use Rattle.clight_syntax.specs.declared.typed.Test.{Test}
use Rattle.clight_syntax.specs.declared.typed.ForHead.{ForHead}
use Rattle.clight_syntax.specs.declared.typed.Stmt.{Stmt}

abbrev pub test_in : Box (Test (Unit {0})) Global → p.Test (Unit {0})
test_in b = test_of b.value

abbrev pub for_head_in : Box (ForHead (Unit {0})) Global → p.ForHead (Unit {0})
for_head_in b = for_head_of b.value

abbrev pub stmt_in : Box (Stmt (Unit {0})) Global → p.Stmt (Unit {0})
stmt_in b = stmt_of b.value
