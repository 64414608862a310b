-- A part stands where it stood before it got labels.
use Rattle.std.proofs.Common.{◌≡◌, ℕ, refl, sym, ap, ◌∙◌}
use Rattle.clight_syntax.specs.TypedTrees.{Cond, Truth, InParentheses, Not, Both, Either, Stmt, Empty, Block, Assign, ReadPort, WritePort, CallOf, If, IfElse, While, Do, For, Break, Continue, Return}
use Rattle.clight_syntax.specs.Labelling.{cond_without, stmt_without, cond_from, stmt_from}

pub cond_from-without : {L : Type 0} (c : Cond L) → cond_from (cond_without c) ≡ cond_from c
cond_from-without (Truth e) = refl
cond_from-without (InParentheses left c right) = refl
cond_from-without (Not at c) = refl
cond_from-without (Both l at on_true on_false r) = cond_from-without l
cond_from-without (Either l at on_true on_false r) = cond_from-without l

pub stmt_from-without : {L : Type 0} (s : Stmt L) → stmt_from (stmt_without s) ≡ stmt_from s
stmt_from-without (Empty semicolon) = refl
stmt_from-without (Block left body right) = refl
stmt_from-without (Assign x semicolon) = refl
stmt_from-without (ReadPort target equals port semicolon) = refl
stmt_from-without (WritePort port equals value semicolon) = refl
stmt_from-without (CallOf call semicolon back) = refl
stmt_from-without (If test one arm other) = refl
stmt_from-without (IfElse test one arm else other otherwise) = refl
stmt_from-without (While test turn body after) = refl
stmt_from-without (Do keyword body test again semicolon after) = refl
stmt_from-without (For head turn body after) = refl
stmt_from-without (Break keyword semicolon) = refl
stmt_from-without (Continue keyword semicolon) = refl
stmt_from-without (Return keyword value semicolon) = refl

pub cond_from_is : {L : Type 0} (from : ℕ) (plain : Cond (Unit {0})) (c : Cond L) → from ≡ cond_from plain → cond_without c ≡ plain → from ≡ cond_from c
cond_from_is from plain c e alone = e ∙ ap cond_from (sym alone) ∙ cond_from-without c

pub stmt_from_is : {L : Type 0} (from : ℕ) (plain : Stmt (Unit {0})) (s : Stmt L) → from ≡ stmt_from plain → stmt_without s ≡ plain → from ≡ stmt_from s
stmt_from_is from plain s e alone = e ∙ ap stmt_from (sym alone) ∙ stmt_from-without s
