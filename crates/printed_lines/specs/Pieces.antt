-- A text that is put by pieces. (This project's own; compare setvbuf, ISO/IEC 9899:1999, 7.19.5.6.)
use Rattle.std.specs.Prelude.{◌≡◌, ℕ, List, ◌++◌}
use Rattle.cerco_base.specs.Outside.IoStates.{SinkState}
use Rattle.cerco_base.specs.Outside.IoCalls.{Keeps, Adds}

-- of a pending text a front is put, and the rest is pending
pub record PutsFront (o p : SinkState) (before after : List ℕ) : Type 0 where
  pub keeps : Keeps o p
  pub front : List ℕ
  pub whole : front ++ after ≡ before
  pub added : Adds o p front
