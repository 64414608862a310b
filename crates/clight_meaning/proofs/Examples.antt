-- The meaning, computed on small programs.
use Rattle.std.proofs.Common.{◌≡◌, List, [], ◌∷◌, Some, None, refl}
use Rattle.cerco_base.specs.Events.{Stopped, Ended}
use Rattle.cerco_traces.specs.Preservation.{Stops, Faults}
use Rattle.cerco_base.specs.declared.events.FaultKind.TheVariants.{Unset, Outside, Dead, Zero, Compare}
use Rattle.clight_source.specs.declared.tree.BinaryOperator.TheVariants.{Add, Subtract, Multiply, Divide, Remainder, Less, LessOrEqual, Equal, NotEqual, ShiftLeft, ShiftRight}
use Rattle.clight_syntax.specs.declared.typed.Home.TheVariants.{Global, Block, Scalar}
use Rattle.c_types.specs.Types.{Void, Pointer, Array, Struct, StructType}
use Rattle.clight_syntax.specs.TypedTrees.{Expr, Stmt, TypedProgram}
use Rattle.cerco_base.specs.declared.events.Label.{Label}
use Rattle.clight_meaning.specs.Meaning.{again, calls, source}
use Rattle.c_types.specs.Conversions.{int, long}
use Rattle.clight_source.specs.Trees as tree
use Rattle.clight_meaning.proofs.TreeForms.{nowhere, plain, L, R, P, char', signed_char, unsigned, var, number, binary, minus, contents, address, cast, at, member, arrow, truth, both, nothing, assignment, set, read, write, when, when_else, while, do_while, for, break, continue, return, block, target, call, local, function, variable, global, program, main_alone}

-- unsigned char x; x=P1;
a_dead_reading : source (main_alone (variable char' (Scalar 0) ∷ []) (None ∷ []) (read (var char' 0) ∷ [])) (7 ∷ []) 9 ≡ Stops (L 0 ∷ R 7 ∷ []) Ended
unfolding again calls
a_dead_reading = refl

-- the label of `main` is due at once
no_budget : source (main_alone [] [] []) [] 0 ≡ Stops [] Stopped
unfolding again calls
no_budget = refl

-- unsigned char x; x=P1; P1=x; x=P1; P1=x;
script_ends : source (main_alone (variable char' (Scalar 0) ∷ []) (None ∷ []) (read (var char' 0) ∷ write (var char' 0) ∷ read (var char' 0) ∷ write (var char' 0) ∷ [])) (9 ∷ []) 9
    ≡ Stops (L 0 ∷ R 9 ∷ P 9 ∷ R 255 ∷ P 255 ∷ []) Ended
unfolding again calls
script_ends = refl

-- unsigned char a; a=P1; if(a); else P1=1;
abbrev two_arms : TypedProgram Label
two_arms = main_alone (variable char' (Scalar 0) ∷ []) (None ∷ []) (read (var char' 0) ∷ when_else (truth (var char' 0)) 1 nothing 2 (write (number int 1)) ∷ [])

first_arm : source two_arms (1 ∷ []) 9 ≡ Stops (L 0 ∷ R 1 ∷ L 1 ∷ []) Ended
unfolding again calls
first_arm = refl

second_arm : source two_arms (0 ∷ []) 9 ≡ Stops (L 0 ∷ R 0 ∷ L 2 ∷ P 1 ∷ []) Ended
unfolding again calls
second_arm = refl

-- unsigned char a; unsigned char b; a=P1; b=P1; do{if(a)break;}while(b);
abbrev turning_back : TypedProgram Label
turning_back = main_alone (variable char' (Scalar 0) ∷ variable char' (Scalar 1) ∷ []) (None ∷ None ∷ [])
    (read (var char' 0) ∷ read (var char' 1) ∷ do_while (block (when (truth (var char' 0)) 1 break 2 ∷ [])) (truth (var char' 1)) 3 4 ∷ [])

out_of_do : source turning_back (1 ∷ 0 ∷ []) 9 ≡ Stops (L 0 ∷ R 1 ∷ R 0 ∷ L 1 ∷ L 4 ∷ []) Ended
unfolding again calls
out_of_do = refl

once : source turning_back (0 ∷ 0 ∷ []) 9 ≡ Stops (L 0 ∷ R 0 ∷ R 0 ∷ L 2 ∷ L 4 ∷ []) Ended
unfolding again calls
once = refl

endless : source turning_back (0 ∷ 1 ∷ []) 5 ≡ Stops (L 0 ∷ R 0 ∷ R 1 ∷ L 2 ∷ L 3 ∷ L 2 ∷ L 3 ∷ []) Stopped
unfolding again calls
endless = refl

-- unsigned char a; unsigned char b; a=P1; b=P1; while(a&&b){a=0;P1=b;}
abbrev while_both : TypedProgram Label
while_both = main_alone (variable char' (Scalar 0) ∷ variable char' (Scalar 1) ∷ []) (None ∷ None ∷ [])
    (read (var char' 0) ∷ read (var char' 1)
    ∷ while (both (truth (var char' 0)) 1 2 (truth (var char' 1))) 3 (block (set (var char' 0) (number int 0) ∷ write (var char' 1) ∷ [])) 4 ∷ [])

both_true : source while_both (1 ∷ 1 ∷ []) 9 ≡ Stops (L 0 ∷ R 1 ∷ R 1 ∷ L 1 ∷ L 3 ∷ P 1 ∷ L 2 ∷ L 4 ∷ []) Ended
unfolding again calls
both_true = refl

right_false : source while_both (1 ∷ 0 ∷ []) 9 ≡ Stops (L 0 ∷ R 1 ∷ R 0 ∷ L 1 ∷ L 4 ∷ []) Ended
unfolding again calls
right_false = refl

left_false : source while_both (0 ∷ 1 ∷ []) 9 ≡ Stops (L 0 ∷ R 0 ∷ R 1 ∷ L 2 ∷ L 4 ∷ []) Ended
unfolding again calls
left_false = refl

-- signed char a; unsigned char b; a=P1; b=P1; if(a<1)P1=1; if(b<1)P1=2;
signs_of_bytes : source (main_alone (variable signed_char (Scalar 0) ∷ variable char' (Scalar 1) ∷ []) (None ∷ None ∷ [])
    (read (var signed_char 0) ∷ read (var char' 1) ∷ when (truth (binary int (var signed_char 0) Less (number int 1))) 1 (write (number int 1)) 2
    ∷ when (truth (binary int (var char' 1) Less (number int 1))) 3 (write (number int 2)) 4 ∷ [])) (255 ∷ 255 ∷ []) 9
    ≡ Stops (L 0 ∷ R 255 ∷ R 255 ∷ L 1 ∷ P 1 ∷ L 4 ∷ []) Ended
unfolding again calls
signs_of_bytes = refl

-- int c; unsigned int d; c=-1; d=0xFFFF; if(c<1)P1=1; if(d<1)P1=2; if(c==d)P1=3;
signs_of_words : source (main_alone (variable int (Scalar 0) ∷ variable unsigned (Scalar 1) ∷ []) (None ∷ None ∷ [])
    (set (var int 0) (minus int (number int 1)) ∷ set (var unsigned 1) (number unsigned 65535) ∷ when (truth (binary int (var int 0) Less (number int 1))) 1 (write (number int 1)) 2
    ∷ when (truth (binary int (var unsigned 1) Less (number int 1))) 3 (write (number int 2)) 4
    ∷ when (truth (binary int (var int 0) Equal (var unsigned 1))) 5 (write (number int 3)) 6 ∷ [])) [] 9
    ≡ Stops (L 0 ∷ L 1 ∷ P 1 ∷ L 4 ∷ L 5 ∷ P 3 ∷ []) Ended
unfolding again calls
signs_of_words = refl

-- unsigned char a; unsigned char b; a=P1; b=8; b=b/a; P1=b;
abbrev quotient_of_eight : TypedProgram Label
quotient_of_eight = main_alone (variable char' (Scalar 0) ∷ variable char' (Scalar 1) ∷ []) (None ∷ None ∷ [])
    (read (var char' 0) ∷ set (var char' 1) (number int 8) ∷ set (var char' 1) (binary int (var char' 1) Divide (var char' 0)) ∷ write (var char' 1) ∷ [])

by_zero : source quotient_of_eight (0 ∷ []) 9 ≡ Faults (L 0 ∷ R 0 ∷ []) Zero
unfolding again calls
by_zero = refl

by_two : source quotient_of_eight (2 ∷ []) 9 ≡ Stops (L 0 ∷ R 2 ∷ P 4 ∷ []) Ended
unfolding again calls
by_two = refl

remainder_by_zero : source (main_alone [] [] (write (binary int (number char' 8) Remainder (number char' 0)) ∷ [])) [] 9 ≡ Faults (L 0 ∷ []) Zero
unfolding again calls
remainder_by_zero = refl

-- ---- integers

-- the low and the high byte of an expression
abbrev bytes_written : Expr → List (Stmt Label)
bytes_written e = write e ∷ write (binary int e ShiftRight (number int 8)) ∷ []

-- 32767+1 wraps to -32768
signed_wrap : source (main_alone [] [] (bytes_written (binary int (number int 32767) Add (number int 1)))) [] 9 ≡ Stops (L 0 ∷ P 0 ∷ P 128 ∷ []) Ended
unfolding again calls
signed_wrap = refl

-- -7>>1 is -4
arithmetic_shift : source (main_alone [] [] (bytes_written (binary int (minus int (number int 7)) ShiftRight (number int 1)))) [] 9 ≡ Stops (L 0 ∷ P 252 ∷ P 255 ∷ []) Ended
unfolding again calls
arithmetic_shift = refl

-- (unsigned)-7>>1 is 32764
logical_shift : source (main_alone [] [] (bytes_written (binary unsigned (cast unsigned (minus int (number int 7))) ShiftRight (number int 1)))) [] 9 ≡ Stops (L 0 ∷ P 252 ∷ P 127 ∷ []) Ended
unfolding again calls
logical_shift = refl

-- (char)255*(char)255 is 65025, as an int -511
product_of_bytes : source (main_alone [] [] (bytes_written (binary int (cast char' (number int 255)) Multiply (cast char' (number int 255))))) [] 9 ≡ Stops (L 0 ∷ P 1 ∷ P 254 ∷ []) Ended
unfolding again calls
product_of_bytes = refl

-- a conversion keeps the sign: (long)(signed char)200 is -56
sign_extended : source (main_alone (variable long (Scalar 0) ∷ []) (Some (cast signed_char (number int 200)) ∷ [])
    (write (var long 0) ∷ write (binary long (var long 0) ShiftRight (number int 24)) ∷ [])) [] 9 ≡ Stops (L 0 ∷ P 200 ∷ P 255 ∷ []) Ended
unfolding again calls
sign_extended = refl

-- 1<<15 is negative, and so less than 0
shifted_into_sign : source (main_alone [] [] (write (binary int (binary int (number int 1) ShiftLeft (number int 15)) Less (number int 0)) ∷ [])) [] 9 ≡ Stops (L 0 ∷ P 1 ∷ []) Ended
unfolding again calls
shifted_into_sign = refl

-- ---- arrays and pointers

-- int a[2]; int *p; and statements
abbrev with_array : List (Stmt Label) → TypedProgram Label
with_array ss = main_alone (variable (Array int 2) (Block 0) ∷ variable (Pointer int) (Scalar 0) ∷ []) (None ∷ None ∷ []) ss

abbrev a : Expr
a = var (Array int 2) 0

abbrev p : Expr
p = var (Pointer int) 1

abbrev a_at : Expr → Expr
a_at e = at int a e

-- a[1]=258; P1=a[1];
set_and_read : source (with_array (set (a_at (number int 1)) (number int 258) ∷ bytes_written (a_at (number int 1)))) [] 9 ≡ Stops (L 0 ∷ P 2 ∷ P 1 ∷ []) Ended
unfolding again calls
set_and_read = refl

-- a[0]=1; P1=a[1];
unset_element : source (with_array (set (a_at (number int 0)) (number int 1) ∷ write (a_at (number int 1)) ∷ [])) [] 9 ≡ Faults (L 0 ∷ []) Unset
unfolding again calls
unset_element = refl

-- P1=1; P1=*a;
unset_first : source (with_array (write (number int 1) ∷ write (contents int a) ∷ [])) [] 9 ≡ Faults (L 0 ∷ P 1 ∷ []) Unset
unfolding again calls
unset_first = refl

-- a[2]=1; the place is at the array's end, where no scalar stands
behind_the_end : source (with_array (set (a_at (number int 2)) (number int 1) ∷ [])) [] 9 ≡ Faults (L 0 ∷ []) Outside
unfolding again calls
behind_the_end = refl

-- a[-1]=1;
before_the_begin : source (with_array (set (a_at (minus int (number int 1))) (number int 1) ∷ [])) [] 9 ≡ Faults (L 0 ∷ []) Outside
unfolding again calls
before_the_begin = refl

-- a[2]=1/0 in bytes: the place is formed, then the value faults
place_then_value : source (with_array (set (a_at (number int 2)) (binary int (number char' 1) Divide (number char' 0)) ∷ [])) [] 9 ≡ Faults (L 0 ∷ []) Zero
unfolding again calls
place_then_value = refl

-- a[3]=1/0: the place is none
no_place : source (with_array (set (a_at (number int 3)) (binary int (number char' 1) Divide (number char' 0)) ∷ [])) [] 9 ≡ Faults (L 0 ∷ []) Outside
unfolding again calls
no_place = refl

-- p=0; *p=1/0: forming the place is no access
null_then_zero : source (with_array (set p (number int 0) ∷ set (contents int p) (binary int (number char' 1) Divide (number char' 0)) ∷ [])) [] 9 ≡ Faults (L 0 ∷ []) Zero
unfolding again calls
null_then_zero = refl

-- p=0; p=&*p; if(p==0)P1=1; p=p+0;
null_pointer : source (with_array (set p (number int 0) ∷ set p (address int (contents int p)) ∷ when (truth (binary int p Equal (number int 0))) 1 (write (number int 1)) 2
    ∷ set p (binary (Pointer int) p Add (number int 0)) ∷ [])) [] 9 ≡ Faults (L 0 ∷ L 1 ∷ P 1 ∷ []) Outside
unfolding again calls
null_pointer = refl

-- a[1]=7; p=a+2; p=p-1; P1=*p; P1=p[1];
one_past_the_end : source (with_array (set (a_at (number int 1)) (number int 7) ∷ set p (binary (Pointer int) a Add (number int 2)) ∷ set p (binary (Pointer int) p Subtract (number int 1))
    ∷ write (contents int p) ∷ write (at int p (number int 1)) ∷ [])) [] 9 ≡ Faults (L 0 ∷ P 7 ∷ []) Outside
unfolding again calls
one_past_the_end = refl

-- p=a+3;
past_the_end : source (with_array (set p (binary (Pointer int) a Add (number int 3)) ∷ [])) [] 9 ≡ Faults (L 0 ∷ []) Outside
unfolding again calls
past_the_end = refl

-- P1=p<a, where p is null
order_of_null : source (with_array (write (binary int p Less a) ∷ [])) [] 9 ≡ Faults (L 0 ∷ []) Compare
unfolding again calls
order_of_null = refl

-- ---- two blocks

-- int a; int b; whose addresses are taken
abbrev two_blocks : List (Stmt Label) → TypedProgram Label
two_blocks ss = main_alone (variable int (Block 0) ∷ variable int (Block 1) ∷ []) (None ∷ Some (number int 5) ∷ []) ss

abbrev of_a : Expr
of_a = address int (var int 0)

abbrev of_b : Expr
of_b = address int (var int 1)

-- P1=a; P1=b; P1=&a==&b; P1=&a!=&b;
two_variables : source (two_blocks (write (var int 0) ∷ write (var int 1) ∷ write (binary int of_a Equal of_b) ∷ write (binary int of_a NotEqual of_b) ∷ [])) [] 9
    ≡ Stops (L 0 ∷ P 0 ∷ P 5 ∷ P 0 ∷ P 1 ∷ []) Ended
unfolding again calls
two_variables = refl

-- P1=&a<&b;
order_of_blocks : source (two_blocks (write (binary int of_a Less of_b) ∷ [])) [] 9 ≡ Faults (L 0 ∷ []) Compare
unfolding again calls
order_of_blocks = refl

-- P1=&a+1==&b;
end_of_a_block : source (two_blocks (write (binary int (binary (Pointer int) of_a Add (number int 1)) Equal of_b) ∷ [])) [] 9 ≡ Faults (L 0 ∷ []) Compare
unfolding again calls
end_of_a_block = refl

-- P1=&a<=&a; P1=&a+1==0;
order_in_a_block : source (two_blocks (write (binary int of_a LessOrEqual of_a) ∷ write (binary int (binary (Pointer int) of_a Add (number int 1)) Equal (number int 0)) ∷ [])) [] 9
    ≡ Stops (L 0 ∷ P 1 ∷ P 0 ∷ []) Ended
unfolding again calls
order_in_a_block = refl

-- ---- a struct

-- struct s { char c; int n; } and a local s
abbrev pair : StructType
pair = record { tag = 0; members = record { name = 0; type = char'; offset = 0 } ∷ record { name = 1; type = int; offset = 1 } ∷ []; size = 3 }

abbrev with_struct : List (Stmt Label) → TypedProgram Label
with_struct ss = program (pair ∷ []) [] (variable (Struct 0) (Block 0) ∷ []) (function Void 0 0 0 (local None ∷ []) ss ∷ []) 0

-- s.n=3; P1=(&s)->n; P1=s.c;
members : source (with_struct (set (member int (var (Struct 0) 0) 1) (number int 3) ∷ write (arrow int (address (Struct 0) (var (Struct 0) 0)) 1) ∷ write (member char' (var (Struct 0) 0) 0) ∷ [])) [] 9
    ≡ Faults (L 0 ∷ P 3 ∷ []) Unset
unfolding again calls
members = refl

-- a read of the bytes of n as those of a char: no scalar of that type begins there
wrong_type : source (with_struct (set (member char' (var (Struct 0) 0) 1) (number int 3) ∷ [])) [] 9 ≡ Faults (L 0 ∷ []) Outside
unfolding again calls
wrong_type = refl

-- ---- globals

-- int g[3]={1,2}; int *q; P1=g[1]; P1=g[2]; P1=q==0;
globals : source (program [] (global (tree.Listed nowhere nowhere (record { number = plain 1; comma = nowhere } ∷ []) (plain 2) nowhere) 0 ∷ global tree.NoInitialiser 1 ∷ [])
    (variable (Array int 3) (Global 0) ∷ variable (Pointer int) (Global 1) ∷ []) (function Void 2 0 0 []
    (write (at int (var (Array int 3) 0) (number int 1)) ∷ write (at int (var (Array int 3) 0) (number int 2)) ∷ write (binary int (var (Pointer int) 1) Equal (number int 0)) ∷ []) ∷ []) 0) [] 9
    ≡ Stops (L 0 ∷ P 2 ∷ P 0 ∷ P 1 ∷ []) Ended
unfolding again calls
globals = refl

-- ---- calls

-- unsigned char f(unsigned char x){return x+255;} int g(void){} main: unsigned char y; int z; y=f(300); P1=y; z=7; z=g(); P1=z;
results : source (program [] [] (variable char' (Scalar 0) ∷ variable char' (Scalar 0) ∷ variable int (Scalar 1) ∷ [])
    (function char' 0 1 0 [] (return (Some (binary int (var char' 0) Add (number int 255))) ∷ []) ∷ function int 1 0 1 [] [] ∷ function Void 1 0 2 (local None ∷ local None ∷ [])
    (call (target 1) 0 (number int 300 ∷ []) 3 ∷ write (var char' 1) ∷ set (var int 2) (number int 7) ∷ call (target 2) 1 [] 4 ∷ write (var int 2) ∷ []) ∷ []) 2) [] 9
    ≡ Stops (L 2 ∷ L 0 ∷ L 3 ∷ P 43 ∷ L 1 ∷ L 4 ∷ P 0 ∷ []) Ended
unfolding again calls
results = refl

-- int *f(void){int x; return &x;} main: int *p; int *q; p=f(); q=p; and a statement
abbrev with_dead : Stmt Label → TypedProgram Label
with_dead s = program [] [] (variable int (Block 0) ∷ variable (Pointer int) (Scalar 0) ∷ variable (Pointer int) (Scalar 1) ∷ [])
    (function (Pointer int) 0 0 0 (local None ∷ []) (return (Some (address int (var int 0))) ∷ []) ∷ function Void 1 0 1 (local None ∷ local None ∷ [])
    (call (target 1) 0 [] 2 ∷ set (var (Pointer int) 2) p ∷ s ∷ []) ∷ []) 1

-- P1=1;
copied : source (with_dead (write (number int 1))) [] 9 ≡ Stops (L 1 ∷ L 0 ∷ L 2 ∷ P 1 ∷ []) Ended
unfolding again calls
copied = refl

-- P1=p==q;
dead_compared : source (with_dead (write (binary int p Equal (var (Pointer int) 2)))) [] 9 ≡ Faults (L 1 ∷ L 0 ∷ L 2 ∷ []) Dead
unfolding again calls
dead_compared = refl

-- P1=p<q: dead comes before compare
dead_ordered : source (with_dead (write (binary int p Less (var (Pointer int) 2)))) [] 9 ≡ Faults (L 1 ∷ L 0 ∷ L 2 ∷ []) Dead
unfolding again calls
dead_ordered = refl

-- P1=*p;
dead_read : source (with_dead (write (contents int p))) [] 9 ≡ Faults (L 1 ∷ L 0 ∷ L 2 ∷ []) Dead
unfolding again calls
dead_read = refl

-- if(p);
dead_condition : source (with_dead (when (truth p) 3 nothing 4)) [] 9 ≡ Faults (L 1 ∷ L 0 ∷ L 2 ∷ []) Dead
unfolding again calls
dead_condition = refl

-- p=&*p; copies
dead_not_read : source (with_dead (set p (address int (contents int p)))) [] 9 ≡ Stops (L 1 ∷ L 0 ∷ L 2 ∷ []) Ended
unfolding again calls
dead_not_read = refl

-- void f(int x, int y){} main: int a[1]; f(a[0],1/0): the first argument comes first
first_argument : source (program [] [] (variable int (Scalar 0) ∷ variable int (Scalar 1) ∷ variable (Array int 1) (Block 0) ∷ [])
    (function Void 0 2 0 [] [] ∷ function Void 2 0 1 (local None ∷ [])
    (call None 0 (at int (var (Array int 1) 2) (number int 0) ∷ binary int (number char' 1) Divide (number char' 0) ∷ []) 2 ∷ []) ∷ []) 1) [] 9
    ≡ Faults (L 1 ∷ []) Unset
unfolding again calls
first_argument = refl

-- void f(int x){int *p; p=&x; *p=x+1; P1=x;} main: f(4);
parameter_in_a_block : source (program [] [] (variable int (Block 0) ∷ variable (Pointer int) (Scalar 1) ∷ [])
    (function Void 0 1 0 (local None ∷ []) (set p of_a ∷ set (contents int p) (binary int (var int 0) Add (number int 1)) ∷ write (var int 0) ∷ []) ∷ function Void 2 0 1 []
    (call None 0 (number int 4 ∷ []) 2 ∷ []) ∷ []) 1) [] 9
    ≡ Stops (L 1 ∷ L 0 ∷ P 5 ∷ L 2 ∷ []) Ended
unfolding again calls
parameter_in_a_block = refl

-- ---- loops

-- int i; for(i=0;i<3;i=i+1){if(i==1)continue; P1=i;}
counted : source (main_alone (variable int (Scalar 0) ∷ []) (None ∷ [])
    (for (Some (assignment (var int 0) (number int 0))) (Some (truth (binary int (var int 0) Less (number int 3)))) (Some (assignment (var int 0) (binary int (var int 0) Add (number int 1)))) 1
    (block (when (truth (binary int (var int 0) Equal (number int 1))) 2 continue 3 ∷ write (var int 0) ∷ [])) 4 ∷ [])) [] 20
    ≡ Stops (L 0 ∷ L 1 ∷ L 3 ∷ P 0 ∷ L 1 ∷ L 2 ∷ L 1 ∷ L 3 ∷ P 2 ∷ L 4 ∷ []) Ended
unfolding again calls
counted = refl

-- int f(void){for(;;){while(1){do{return 9;}while(1);}}} main: int x; while(1){for(;;){x=f();break;} P1=x;break;}
out_of_loops : source (program [] [] (variable int (Scalar 0) ∷ [])
    (function int 0 0 0 [] (for None None None 1 (block (while (truth (number int 1)) 2 (block (do_while (block (return (Some (number int 9)) ∷ [])) (truth (number int 1)) 3 4 ∷ [])) 5 ∷ [])) 6 ∷ [])
    ∷ function Void 0 0 7 (local None ∷ []) (while (truth (number int 1)) 8 (block (for None None None 9 (block (call (target 0) 0 [] 10 ∷ break ∷ [])) 11 ∷ write (var int 0) ∷ break ∷ [])) 12 ∷ []) ∷ []) 1) [] 20
    ≡ Stops (L 7 ∷ L 8 ∷ L 9 ∷ L 0 ∷ L 1 ∷ L 2 ∷ L 10 ∷ L 11 ∷ P 9 ∷ L 12 ∷ []) Ended
unfolding again calls
out_of_loops = refl
