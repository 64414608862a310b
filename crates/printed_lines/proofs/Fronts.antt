-- What was put of a text that is put by pieces.
use Rattle.std.proofs.Common.{ℕ, List, ◌++◌, ap, ◌∙◌, append_assoc}
use Rattle.cerco_base.specs.Outside.IoStates.{SinkState}
use Rattle.cerco_base.proofs.Putting.{SoFar, keeps_on, adds_on}
use Rattle.printed_lines.specs.Pieces.{PutsFront}

-- a front of what is pending is put
pub front_put : (o p q : SinkState) (text before after : List ℕ) → SoFar o p text before → PutsFront p q before after → SoFar o q text after
front_put o p q text before after a f =
    record {
      keeps = keeps_on o p q a.keeps f.keeps;
      front = a.front ++ f.front;
      whole = append_assoc a.front f.front after ∙ (ap (λ (x : List ℕ). a.front ++ x) f.whole ∙ a.whole);
      added = adds_on o p q a.front f.front a.keeps a.added f.added;
    }
