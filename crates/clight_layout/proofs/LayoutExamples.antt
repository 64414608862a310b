-- The calls and the layout of small programs, computed.
use Rattle.std.proofs.Common.{◌≡◌, ℕ, true, false, List, [], ◌∷◌, map, refl}
use Rattle.clight_source.specs.declared.span.Span.{Span}
use Rattle.clight_source.specs.declared.tree.Name.{Name}
use Rattle.clight_source.specs.declared.tree.Specifiers.TheVariants as t
use Rattle.clight_syntax.specs.declared.typed.Home.{Home}
use Rattle.clight_syntax.specs.declared.typed.Home.TheVariants as h
use Rattle.clight_source.specs.Trees.{NoParameters}
use Rattle.c_types.specs.declared.integers.Size.TheVariants.{One, Two}
use Rattle.c_types.specs.Types.{CType, Void, Integer, Pointer, Array}
use Rattle.clight_syntax.specs.TypedTrees.{Stmt, Block, CallOf, Stmts, NoStmts, Then, NoArguments, Function, Variable'}
use Rattle.clight_layout.specs.declared.sizes.Area.TheVariants.{Globals}
use Rattle.clight_layout.specs.Calls.{callees}
use Rattle.clight_layout.specs.Frames.{bytes_of, placed, frame_bytes, with_frames}
use Rattle.std.specs.Prelude.{None}

abbrev at : ℕ → Span
at n = record { from = n; to = n }

abbrev name : Name
name = record { number = 0; span = at 0 }

abbrev call : ℕ → Stmt (Unit {0})
call f = CallOf (record { target = None; function = f; name = name; left = at 0; arguments = NoArguments; right = at 0 }) (at 0) tt

abbrev block : Stmts (Unit {0}) → Stmt (Unit {0})
block body = Block (at 0) body (at 0)

-- a function whose variables begin at this number, with one parameter
abbrev function : ℕ → Stmts (Unit {0}) → Function (Unit {0})
function first body = record {
  header = record { declared = record { specifiers = t.Void (at 0); stars = []; name = name }; left = at 0; parameters = NoParameters (at 0); right = at 0 };
  result = Void;
  first_variable = first;
  parameters = 1;
  left = at 0;
  label = tt;
  locals = [];
  body = body;
  right = at 0;
}

-- each call counts, in the order of the text, but those of functions that don't exist
calls :
    callees (function 0 (Then (Then NoStmts (call 1)) (block (Then (Then NoStmts (call 7)) (call 1)))) ∷ function 1 NoStmts ∷ [])
    ≡ (1 ∷ 1 ∷ []) ∷ [] ∷ []
calls = refl

abbrev variable : CType → Home → Variable'
variable type home = record { name = name; type = type; home = home; address = 0 }

-- a global of 3 bytes, a scalar parameter, a global pointer, a parameter of 2 bytes whose address is taken
abbrev variables : List Variable'
variables =
    variable (Array (Integer One false) 3) (h.Global 0) ∷ variable (Integer Two true) (h.Scalar 0) ∷ variable (Pointer (Integer One false)) (h.Global 1) ∷ variable (Integer Two true) (h.Block 0) ∷ []

abbrev functions : List (Function (Unit {0}))
functions = function 1 NoStmts ∷ function 3 NoStmts ∷ []

sizes : map (frame_bytes [] variables) functions ≡ 0 ∷ 2 ∷ []
sizes = refl

globals : bytes_of Globals [] variables ≡ 5
globals = refl

addresses : map (λ x. x.address) (with_frames [] functions (6 ∷ 8 ∷ []) (placed Globals [] 1 variables)) ≡ 1 ∷ 0 ∷ 4 ∷ 8 ∷ []
addresses = refl
