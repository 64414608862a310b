-- A program of three functions, with a struct, frames of different sizes, and a parameter whose address is taken:
--
--     struct pair { unsigned char small; unsigned int large; };
--     unsigned int total = 5;
--     struct pair both;
--
--     void add(struct pair *to, unsigned char x) {
--       to->large = to->large + *&x;
--     }
--
--     unsigned int twice(unsigned int n) {
--       unsigned char cells[2];
--       cells[1] = n;
--       add(&both, cells[1]);
--       return n;
--     }
--
--     void main(void) {
--       unsigned int r = 0;
--       struct pair own;
--       r = twice(total);
--       own.large = r;
--       add(&own, 1);
--       while (own.large) {
--         P1 = own.small;
--         break;
--       }
--     }
use Rattle.std.proofs.Common.{ℕ, List, [], ◌∷◌, Some, None}
use Rattle.cerco_base.specs.CallOrder.{Called}
use Rattle.cerco_base.specs.declared.events.Label.{Label}
use Rattle.clight_source.specs.declared.tree.BinaryOperator.TheVariants.{Add}
use Rattle.clight_source.specs.Trees.{NoInitialiser, Single}
use Rattle.c_types.specs.Types.{CType, Void, Pointer, Array, Struct, StructType}
use Rattle.c_types.specs.Conversions.{int}
use Rattle.clight_syntax.specs.declared.typed.Home.{Home}
use Rattle.clight_syntax.specs.declared.typed.Home.TheVariants.{Global, Block, Scalar}
use Rattle.clight_syntax.specs.TypedTrees.{Item, FunctionItem, Function, Variable', TypedProgram}
use Rattle.clight_meaning.proofs.TreeForms.{nowhere, name, char', unsigned, var, number, binary, contents, address, at, member, arrow, truth, set, write, while, break, return, block, target, call, local, function, plain, global}

-- ---- the struct

abbrev pub pair : CType
pair = Struct 0

abbrev pub the_structs : List StructType
the_structs = record { tag = 0; members = record { name = 0; type = char'; offset = 0 } ∷ record { name = 0; type = unsigned; offset = 1 } ∷ []; size = 3 } ∷ []

-- ---- the variables: two globals, two parameters of `add`, a parameter and a local of `twice`, two locals of `main`

abbrev pub at_address : CType → Home → ℕ → Variable'
at_address T home a = record { name = name; type = T; home = home; address = a }

abbrev pub total : Variable'
total = at_address unsigned (Global 0) 1

abbrev pub both : Variable'
both = at_address pair (Global 1) 3

abbrev pub to : Variable'
to = at_address (Pointer pair) (Scalar 0) 0

abbrev pub x : Variable'
x = at_address char' (Block 0) 11

abbrev pub n : Variable'
n = at_address unsigned (Scalar 0) 0

abbrev pub cells : Variable'
cells = at_address (Array char' 2) (Block 0) 9

abbrev pub r : Variable'
r = at_address unsigned (Scalar 0) 0

abbrev pub own : Variable'
own = at_address pair (Block 0) 6

-- ---- the functions

abbrev pub add : Function Label
add = function Void 2 2 0 [] (set (arrow unsigned (var (Pointer pair) 2) 1) (binary unsigned (arrow unsigned (var (Pointer pair) 2) 1) Add (contents char' (address char' (var char' 3)))) ∷ [])

abbrev pub twice : Function Label
twice = function unsigned 4 1 1 (local None ∷ [])
    (set (at char' (var (Array char' 2) 5) (number int 1)) (var unsigned 4)
    ∷ call None 0 (address pair (var pair 1) ∷ at char' (var (Array char' 2) 5) (number int 1) ∷ []) 2
    ∷ return (Some (var unsigned 4))
    ∷ [])

abbrev pub main : Function Label
main = function Void 6 0 3 (local (Some (number int 0)) ∷ local None ∷ [])
    (call (target 6) 1 (var unsigned 0 ∷ []) 4
    ∷ set (member unsigned (var pair 7) 1) (var unsigned 6)
    ∷ call None 0 (address pair (var pair 7) ∷ number int 1 ∷ []) 5
    ∷ while (truth (member unsigned (var pair 7) 1)) 6 (block (write (member char' (var pair 7) 0) ∷ break ∷ [])) 7
    ∷ [])

-- ---- the program: `main` calls `twice` and `add`, and `twice` calls `add`

abbrev pub the_calls : List Called
the_calls = record { function = 2; callers = [] } ∷ record { function = 1; callers = 2 ∷ [] } ∷ record { function = 0; callers = 2 ∷ 1 ∷ [] } ∷ []

abbrev pub the_items : List Item
the_items = global (Single nowhere (plain 5)) 0 ∷ global NoInitialiser 1 ∷ FunctionItem 0 ∷ FunctionItem 1 ∷ FunctionItem 2 ∷ []

abbrev pub example : TypedProgram Label
example = record {
  names = [];
  items = the_items;
  span = nowhere;
  structs = the_structs;
  variables = total ∷ both ∷ to ∷ x ∷ n ∷ cells ∷ r ∷ own ∷ [];
  functions = add ∷ twice ∷ main ∷ [];
  main = 2;
  frames = 1 ∷ 2 ∷ 3 ∷ [];
  data_bytes = 11;
  calls = the_calls;
}
