-- How the states of a program without vain operations are related to those of the program: what is strongly live is seen alike.
use Rattle.std.proofs.Common.{◌≡◌, ℕ, ◌<◌, ◌≤◌, ◌⊎◌, List, [], ◌∷◌, length, refl, ap, suc}
use Rattle.rtl.specs.declared.graphs.Exit.TheVariants.{Call}
use Rattle.rtl.specs.Operations.{ByteOp}
use Rattle.rtl.specs.Programs.{Graph}
use Rattle.rtl.specs.Effects.{Storage, Loc}
use Rattle.rtl.specs.Graphs.{ops_at, exit_at}
use Rattle.rtl.specs.Meaning.{OpenCall, seen, shares_first}
use Rattle.rtl.specs.Liveness.{LiveAt}
use Rattle.rtl.specs.StrongLiveness.{StronglyLive}
use Rattle.rtl.specs.CallingConvention.{Path}
use Rattle.pruned_graphs.specs.Pruning.{Pruned}

-- of the virtual registers below 24 only argument places are live in front of a node
abbrev pub LivesOnlyErtl : Graph ℕ → Type 0
LivesOnlyErtl g = (v p : ℕ) → LiveAt 0 g (Loc v) p → (v < 12) ⊎ (24 ≤ v)

-- what the program without vain operations has of an open call
pub record Counterpart : Type 0 where
  pub left : List (ByteOp ℕ)
  pub own : Storage → ℕ

abbrev pub y_call : OpenCall → Counterpart → OpenCall
y_call c l = record { function = c.function; node = c.node; left = l.left; own = l.own }

abbrev pub y_calls : List OpenCall → List Counterpart → List OpenCall
y_calls [] ls = []
y_calls (c ∷ cs) [] = []
y_calls (c ∷ cs) (l ∷ ls) = y_call c l ∷ y_calls cs ls

module _ (gs hs : ℕ → Graph ℕ) where
  -- a call that waits for the function g
  pub record Waits (g : ℕ) (c : OpenCall) (l : Counterpart) : Type 0 where
    pub from : ℕ
    pub called : exit_at (gs c.function) from ≡ Call g c.node
    pub path : Path (gs c.function) from []
    pub left_is : c.left ≡ ops_at (gs c.function) c.node
    pub rest_is : l.left ≡ ops_at (hs c.function) c.node
    pub keeps : (v : ℕ) → 24 ≤ v → StronglyLive 0 (gs c.function) (Loc v) c.node (ops_at (gs c.function) c.node) → c.own (Loc v) ≡ l.own (Loc v)

  abbrev pub AllWait : ℕ → List OpenCall → List Counterpart → Type 0
  AllWait g [] ls = Unit {0}
  AllWait g (c ∷ cs) [] = ⊥
  AllWait g (c ∷ cs) (l ∷ ls) = Waits g c l × AllWait c.function cs ls

  -- the call on top
  pub record Runs (f p : ℕ) (ops rest : List (ByteOp ℕ)) (own m own' n : Storage → ℕ) : Type 0 where
    pub path : Path (gs f) p ops
    pub left : Pruned 0 (gs f) p ops rest
    pub alike : (s : Storage) → StronglyLive 0 (gs f) s p ops → seen shares_first m own s ≡ seen shares_first n own' s

  abbrev pub AllRun : List OpenCall → List Counterpart → (Storage → ℕ) → (Storage → ℕ) → Type 0
  AllRun [] ls m n = Unit {0}
  AllRun (c ∷ cs) [] m n = ⊥
  AllRun (c ∷ cs) (l ∷ ls) m n = Runs c.function c.node c.left l.left c.own m l.own n × AllWait c.function cs ls

  pub as_many : (g : ℕ) (cs : List OpenCall) (ls : List Counterpart) → AllWait g cs ls → length (y_calls cs ls) ≡ length cs
  as_many g [] ls wait = refl
  as_many g (c ∷ cs) [] wait = absurd wait
  as_many g (c ∷ cs) (l ∷ ls) wait = ap suc (as_many c.function cs ls wait.1)
