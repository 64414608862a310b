-- How the states of a program over places are related to those of the program over virtual registers: what is live is held in its
-- place, and what a waiting call needs later is in cells below those of the calls above it.
use Rattle.std.proofs.Common.{◌≡◌, ℕ, zero, suc, ◌+◌, ◌<◌, ◌≤◌, List, [], ◌∷◌, Bool, true, false, if◌then◌else◌, ◌⊎◌, inl, inr, refl, sym, ap, ◌∙◌, arith, lt-ltb, le-ltb}
use Rattle.rtl.specs.declared.locations.Place.{Place}
use Rattle.rtl.specs.declared.locations.Place.TheVariants.{Cell}
use Rattle.rtl.specs.declared.graphs.Exit.TheVariants.{Test, Call}
use Rattle.rtl.specs.Operations.{ByteOp}
use Rattle.rtl.specs.Programs.{Graph}
use Rattle.rtl.specs.Locations.{place_number}
use Rattle.rtl.specs.Effects.{Storage, Loc, Carry}
use Rattle.rtl.specs.Graphs.{renamed_graph, ops_at, exit_at}
use Rattle.rtl.specs.Meaning.{OpenCall, seen, shares_first, all_zero, branch}
use Rattle.rtl.specs.Liveness.{IsArgument, GoesTo, WrittenBefore, written, past, through, Live, LiveAt}
use Rattle.rtl.specs.CallingConvention.{Path, at_entry, IsWrittenOn}
use Rattle.rtl.specs.CallingConvention as On
use Rattle.rtl.specs.Interference.{IsCell}
use Rattle.rtl.proofs.Points.{path_to_point}
use Rattle.rtl.proofs.ValueLaws.{renamed_storage}
use Rattle.ltl_alloc.specs.Translation.{at_base}
use Rattle.ltl_alloc.proofs.Places.{cell_number}

-- ---- storage that calls share, and paths

pub seen_argument : (m o : Storage → ℕ) (s : Storage) → IsArgument 0 s → seen shares_first m o s ≡ m s
seen_argument m o Carry argument = absurd argument
seen_argument m o (Loc v) argument = let low : v < 24 = omega (arith, argument.1) in rw (lt-ltb v 24 low)

pub seen_own : (m o : Storage → ℕ) (v : ℕ) → 24 ≤ v → seen shares_first m o (Loc v) ≡ o (Loc v)
seen_own m o v high = rw (le-ltb v 24 high)

pub seen_zero : (s : Storage) → seen shares_first all_zero all_zero s ≡ all_zero s
seen_zero s = by_test (shares_first s)
  where
    by_test : (b : Bool) → (if b then all_zero s else all_zero s) ≡ all_zero s
    by_test true = refl
    by_test false = refl

pub branch_goes : (n v true_arm false_arm : ℕ) → GoesTo (Test v true_arm false_arm) (branch n true_arm false_arm)
branch_goes zero v true_arm false_arm = inr refl
branch_goes (suc n) v true_arm false_arm = inl refl

-- what is written on a path was written before its end
pub written_on : (g : Graph ℕ) (s : Storage) (p : ℕ) (ops : List (ByteOp ℕ)) (path : Path g p ops) → IsWrittenOn s path → WrittenBefore g s p ops
written_on g s p ops at_entry w = absurd w
written_on g s p ops (On.past p' op ops' path) (inl i) = written p op ops (path_to_point g p (op ∷ ops) path) i
written_on g s p ops (On.past p' op ops' path) (inr w) = past p op ops (written_on g s p (op ∷ ops) path w)
written_on g s q ops (On.through p q' goes path) w = through p q w.0 goes (written_on g s p [] path w.1)

-- ---- frames

-- the place of each function's virtual registers, by number, in its frame
abbrev pub number_at : (ℕ → ℕ → Place) → (ℕ → ℕ) → ℕ → ℕ → ℕ
number_at place base f v = place_number (at_base (base f) (place f v))

-- the functions over places
abbrev pub placed_graphs : (ℕ → Graph ℕ) → (ℕ → ℕ → Place) → (ℕ → ℕ) → ℕ → Graph ℕ
placed_graphs gs place base f = renamed_graph (number_at place base f) (gs f)

-- Each function's cells are those of its frame, and the frame of a called function begins after that of its caller.
pub record AreFramed (gs : ℕ → Graph ℕ) (place : ℕ → ℕ → Place) (base size : ℕ → ℕ) : Type 0 where
  pub cells : (f v n : ℕ) → place f v ≡ Cell n → n < size f
  pub stacked : (f g p q : ℕ) → exit_at (gs f) p ≡ Call g q → base f + size f ≤ base g

-- of the virtual registers below 24 only argument places are live in front of a node
abbrev pub LivesOnlyErtl : Graph ℕ → Type 0
LivesOnlyErtl g = (v p : ℕ) → LiveAt 0 g (Loc v) p → (v < 12) ⊎ (24 ≤ v)

-- ---- the relation

module _ (gs : ℕ → Graph ℕ) (place : ℕ → ℕ → Place) (base size : ℕ → ℕ) where
  -- a call that waits for the function g, where cells from b on may change
  pub record Waits (g b : ℕ) (c : OpenCall) (n : Storage → ℕ) : Type 0 where
    pub from : ℕ
    pub called : exit_at (gs c.function) from ≡ Call g c.node
    pub path : Path (gs c.function) from []
    pub left_is : c.left ≡ ops_at (gs c.function) c.node
    pub room : base c.function + size c.function ≤ b
    pub in_cell : (v : ℕ) → 24 ≤ v → LiveAt 0 (gs c.function) (Loc v) c.node → IsCell (place c.function v)
    pub keeps : (v : ℕ) → 24 ≤ v → LiveAt 0 (gs c.function) (Loc v) c.node → c.own (Loc v) ≡ n (Loc (number_at place base c.function v))

  abbrev pub AllWait : ℕ → ℕ → List OpenCall → (Storage → ℕ) → Type 0
  AllWait g b [] n = Unit {0}
  AllWait g b (c ∷ cs) n = Waits g b c n × AllWait c.function (base c.function) cs n

  -- the call on top
  pub record Runs (f p : ℕ) (ops : List (ByteOp ℕ)) (own m n : Storage → ℕ) : Type 0 where
    pub path : Path (gs f) p ops
    pub alike : (s : Storage) → Live 0 (gs f) s p ops → seen shares_first m own s ≡ n (renamed_storage (number_at place base f) s)

  abbrev pub AllRun : List OpenCall → (Storage → ℕ) → (Storage → ℕ) → Type 0
  AllRun [] m n = Unit {0}
  AllRun (c ∷ cs) m n = Runs c.function c.node c.left c.own m n × AllWait c.function (base c.function) cs n

  -- waiting calls see only cells below b
  pub still_waiting :
      ((f v k : ℕ) → place f v ≡ Cell k → k < size f) → (g b : ℕ) (cs : List OpenCall) (n n' : Storage → ℕ)
      → ((k : ℕ) → k < b → n' (Loc (place_number (Cell k))) ≡ n (Loc (place_number (Cell k)))) → AllWait g b cs n → AllWait g b cs n'
  still_waiting cells g b [] n n' same wait = tt
  still_waiting cells g b (c ∷ cs) n n' same wait =
      let w = wait.0 in
      let room : base c.function + size c.function ≤ b = w.room in (
        record {
          from = w.from;
          called = w.called;
          path = w.path;
          left_is = w.left_is;
          room = w.room;
          in_cell = w.in_cell;
          keeps = λ v high live.
              let cell = cell_number (place c.function v) (w.in_cell v high live) in
              let small : cell.0 < size c.function = cells c.function v cell.0 cell.1 in
              let is : number_at place base c.function v ≡ place_number (Cell (base c.function + cell.0)) = ap (λ p. place_number (at_base (base c.function) p)) cell.1 in
              let low : base c.function + cell.0 < b = omega (arith, small, room) in
              w.keeps v high live ∙ ap (λ k. n (Loc k)) is ∙ sym (same (base c.function + cell.0) low) ∙ sym (ap (λ k. n' (Loc k)) is);
        },
        still_waiting cells c.function (base c.function) cs n n' (λ k low. same k (omega (arith, low, room))) wait.1,
      )
