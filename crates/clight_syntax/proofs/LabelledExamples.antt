-- Labelled programs written by hand, with their annotated texts written by hand. The declarations have no annotations and are left
-- out of the trees. The start costs 4 cycles, and the label with number n costs 100 + n.
use Rattle.std.proofs.Common.{◌≡◌, ℕ, false, [], ◌∷◌, Some, None, Option, codes, refl}
use Rattle.std.specs.Fmt.{digits}
use Rattle.std.specs.List.{range_with_len}
use Rattle.cerco_base.specs.declared.events.Label.{Label}
use Rattle.clight_source.specs.declared.span.Span.{Span}
use Rattle.clight_source.specs.declared.symbol.Literal.{Literal}
use Rattle.clight_source.specs.declared.symbol.Radix.TheVariants.{Decimal}
use Rattle.clight_source.specs.declared.tree.Name.{Name}
use Rattle.clight_source.specs.declared.tree.Specifiers.TheVariants as w
use Rattle.clight_source.specs.Trees.{NoParameters}
use Rattle.c_types.specs.Types.{CType, Integer, Void}
use Rattle.c_types.specs.declared.integers.Size.TheVariants.{One}
use Rattle.clight_syntax.specs.TypedTrees.{Variable, Number, Cond, Truth, InParentheses, Not, Both, Either, Assignment, Test, NoArguments, Call, ForHead, Empty, Block, Assign, ReadPort, WritePort, CallOf, If, IfElse, While, Do, For, Break, Continue, Return, Stmts, NoStmts, Then, TypedProgram}
use Rattle.clight_syntax.specs.Annotations.{Costs, annotated}
use Rattle.clight_syntax.specs.Labelling.{points_of, without_labels, IsLabelled}

abbrev at : ℕ → ℕ → Span
at from to = record { from = from; to = to }

abbrev byte : CType
byte = Integer One false

abbrev name : ℕ → ℕ → ℕ → Name
name number from to = record { number = number; span = at from to }

abbrev decimal_literal : ℕ → Literal
decimal_literal value = record { value = value; radix = Decimal; unsigned = false }

abbrev label : ℕ → Label
label number = record { 0 = number }

abbrev test : Span → Span → Cond Label → Span → Test Label
test keyword left condition right = record { keyword = keyword; left = left; condition = condition; right = right }

abbrev head : Span → Span → Option Assignment → Span → Option (Cond Label) → Span → Option Assignment → Span → ForHead Label
head keyword left first first_semicolon condition second_semicolon step right =
    record { keyword = keyword; left = left; first = first; first_semicolon = first_semicolon; condition = condition; second_semicolon = second_semicolon; step = step; right = right }

abbrev call : Name → Span → Span → Call
call function left right = record { target = None; function = 1; name = function; left = left; arguments = NoArguments; right = right }

-- `void main(void){` .. `}` with label 0 at its start
abbrev main_with : Stmts Label → Span → TypedProgram Label
main_with body right = record {
  names = codes "main" ∷ [];
  items = [];
  span = at 0 right.to;
  structs = [];
  variables = [];
  functions = record {
    header = record {
      declared = record { specifiers = w.Void (at 0 4); stars = []; name = name 0 5 9 };
      left = at 9 10;
      parameters = NoParameters (at 10 14);
      right = at 14 15;
    };
    result = Void;
    first_variable = 0;
    parameters = 0;
    left = at 15 16;
    label = label 0;
    locals = [];
    body = body;
    right = right;
  } ∷ [];
  main = 0;
  frames = 1 ∷ [];
  data_bytes = 0;
  calls = [];
}

abbrev hundreds : Costs
hundreds = record { start = 4; labels = range_with_len 100 200 }

-- an `if` with both arms, one of them empty
abbrev arms : TypedProgram Label
arms = main_with (Then (Then NoStmts (ReadPort (Variable byte 0 (name 0 32 33)) (at 33 34) (at 34 36) (at 36 37))) (IfElse (test (at 37 39) (at 39 40) (Truth (Variable byte 0 (name 0 40 41))) (at 41 42)) (label 1) (Empty (at 42 43)) (at 43 47) (label 2) (WritePort (at 48 50) (at 50 51) (Number byte (decimal_literal 1) (at 51 52)) (at 52 53)))) (at 53 54)

arms_annotated : annotated (codes "void main(void){unsigned char a;a=P1;if(a);else P1=1;}") (points_of arms) hundreds ≡ codes "/*@*/unsigned long __cost=4;/*@*/void main(void){/*@*/__cost+=100;/*@*/unsigned char a;a=P1;if(a)/*@*/{__cost+=101;/*@*/;/*@*/}/*@*/else /*@*/{__cost+=102;/*@*/P1=1;/*@*/}/*@*/}"
unfolding digits
arms_annotated = refl

arms_labelled : IsLabelled (without_labels arms) arms
arms_labelled = record { typed_alone = refl; numbered = refl }

-- a `do` with a `break`
abbrev do_loop : TypedProgram Label
do_loop = main_with (Then (Then (Then NoStmts (ReadPort (Variable byte 0 (name 0 48 49)) (at 49 50) (at 50 52) (at 52 53))) (ReadPort (Variable byte 1 (name 1 53 54)) (at 54 55) (at 55 57) (at 57 58))) (Do (at 58 60) (Block (at 60 61) (Then NoStmts (If (test (at 61 63) (at 63 64) (Truth (Variable byte 0 (name 0 64 65))) (at 65 66)) (label 1) (Break (at 66 71) (at 71 72)) (label 2))) (at 72 73)) (test (at 73 78) (at 78 79) (Truth (Variable byte 1 (name 1 79 80))) (at 80 81)) (label 3) (at 81 82) (label 4))) (at 82 83)

do_loop_annotated : annotated (codes "void main(void){unsigned char a;unsigned char b;a=P1;b=P1;do{if(a)break;}while(b);}") (points_of do_loop) hundreds ≡ codes "/*@*/unsigned long __cost=4;/*@*/void main(void){/*@*/__cost+=100;/*@*/unsigned char a;unsigned char b;a=P1;b=P1;do/*@*/{/*@*/{if(a)/*@*/{__cost+=101;/*@*/break;/*@*/}else{__cost+=102;}/*@*/}/*@*/}/*@*/while(/*@*/((/*@*/b/*@*/)?(__cost+=103,1):0)/*@*/);/*@*/__cost+=104;/*@*/}"
unfolding digits
do_loop_annotated = refl

do_loop_labelled : IsLabelled (without_labels do_loop) do_loop
do_loop_labelled = record { typed_alone = refl; numbered = refl }

-- a `while` with `&&`
abbrev while_loop : TypedProgram Label
while_loop = main_with (Then (Then (Then NoStmts (ReadPort (Variable byte 0 (name 0 48 49)) (at 49 50) (at 50 52) (at 52 53))) (ReadPort (Variable byte 1 (name 1 53 54)) (at 54 55) (at 55 57) (at 57 58))) (While (test (at 58 63) (at 63 64) (Both (Truth (Variable byte 0 (name 0 64 65))) (at 65 67) (label 1) (label 2) (Truth (Variable byte 1 (name 1 67 68)))) (at 68 69)) (label 3) (Block (at 69 70) (Then (Then NoStmts (Assign (record { target = (Variable byte 0 (name 0 70 71)); equals = (at 71 72); value = (Number byte (decimal_literal 0) (at 72 73)) }) (at 73 74))) (WritePort (at 74 76) (at 76 77) (Variable byte 1 (name 1 77 78)) (at 78 79))) (at 79 80)) (label 4))) (at 80 81)

while_loop_annotated : annotated (codes "void main(void){unsigned char a;unsigned char b;a=P1;b=P1;while(a&&b){a=0;P1=b;}}") (points_of while_loop) hundreds ≡ codes "/*@*/unsigned long __cost=4;/*@*/void main(void){/*@*/__cost+=100;/*@*/unsigned char a;unsigned char b;a=P1;b=P1;while(/*@*/((/*@*/a/*@*/)?(__cost+=101,1):(__cost+=102,0))/*@*/&&b)/*@*/{__cost+=103;/*@*/{a=0;P1=b;}/*@*/}__cost+=104;/*@*/}"
unfolding digits
while_loop_annotated = refl

while_loop_labelled : IsLabelled (without_labels while_loop) while_loop
while_loop_labelled = record { typed_alone = refl; numbered = refl }

-- statements in one another: at one place those that close come first, the inner before the outer
abbrev nested : TypedProgram Label
nested = main_with (Then NoStmts (While (test (at 16 21) (at 21 22) (Truth (Variable byte 0 (name 0 22 23))) (at 23 24)) (label 1) (IfElse (test (at 24 26) (at 26 27) (Truth (Variable byte 1 (name 1 27 28))) (at 28 29)) (label 2) (CallOf (call (name 9 29 30) (at 30 31) (at 31 32)) (at 32 33) (label 3)) (at 33 37) (label 4) (Do (at 38 40) (For (head (at 41 44) (at 44 45) None (at 45 46) (Some (Truth (Variable byte 2 (name 2 46 47)))) (at 47 48) None (at 48 49)) (label 5) (If (test (at 49 51) (at 51 52) (Both (Truth (Variable byte 0 (name 0 52 53))) (at 53 55) (label 6) (label 7) (Truth (Variable byte 1 (name 1 55 56)))) (at 56 57)) (label 8) (Block (at 57 58) (Then (Then NoStmts (CallOf (call (name 9 58 59) (at 59 60) (at 60 61)) (at 61 62) (label 9))) (Break (at 62 67) (at 67 68))) (at 68 69)) (label 10)) (label 11)) (test (at 69 74) (at 74 75) (Either (Not (at 75 76) (Truth (Variable byte 2 (name 2 76 77)))) (at 77 79) (label 12) (label 13) (Truth (Variable byte 0 (name 0 79 80)))) (at 80 81)) (label 14) (at 81 82) (label 15))) (label 16))) (at 82 83)

nested_annotated : annotated (codes "void main(void){while(a)if(b)f();else do for(;c;)if(a&&b){g();break;}while(!c||a);}") (points_of nested) hundreds ≡ codes "/*@*/unsigned long __cost=4;/*@*/void main(void){/*@*/__cost+=100;/*@*/while(a)/*@*/{__cost+=101;/*@*/if(b)/*@*/{__cost+=102;/*@*/f();/*@*/__cost+=103;/*@*//*@*/}/*@*/else /*@*/{__cost+=104;/*@*/do /*@*/{/*@*/for(;c;)/*@*/{__cost+=105;/*@*/if(/*@*/((/*@*/a/*@*/)?(__cost+=106,1):(__cost+=107,0))/*@*/&&b)/*@*/{__cost+=108;/*@*/{g();/*@*/__cost+=109;/*@*/break;}/*@*/}else{__cost+=110;}/*@*//*@*/}__cost+=111;/*@*//*@*/}/*@*/while(/*@*/((/*@*//*@*/((/*@*/!c/*@*/)?(__cost+=112,1):(__cost+=113,0))/*@*/||a/*@*/)?(__cost+=114,1):0)/*@*/);/*@*/__cost+=115;/*@*//*@*/}/*@*//*@*/}__cost+=116;/*@*/}"
unfolding digits
nested_annotated = refl

nested_labelled : IsLabelled (without_labels nested) nested
nested_labelled = record { typed_alone = refl; numbered = refl }

-- the same statements the other way round, and what opens at one place, the outer before the inner
abbrev nested_otherwise : TypedProgram Label
nested_otherwise = main_with (Then (Then (Then NoStmts (Do (at 16 18) (Block (at 18 19) (Then (Then NoStmts (IfElse (test (at 19 21) (at 21 22) (Truth (Variable byte 0 (name 0 22 23))) (at 23 24)) (label 1) (While (test (at 24 29) (at 29 30) (Truth (Variable byte 1 (name 1 30 31))) (at 31 32)) (label 2) (Continue (at 32 40) (at 40 41)) (label 3)) (at 41 45) (label 4) (Block (at 45 46) NoStmts (at 46 47)))) (For (head (at 47 50) (at 50 51) (Some (record { target = (Variable byte 0 (name 0 51 52)); equals = (at 52 53); value = (Number byte (decimal_literal 0) (at 53 54)) })) (at 54 55) (Some (Both (Truth (Variable byte 0 (name 0 55 56))) (at 56 58) (label 5) (label 6) (InParentheses (at 58 59) (Either (Truth (Variable byte 1 (name 1 59 60))) (at 60 62) (label 7) (label 8) (Truth (Variable byte 2 (name 2 62 63)))) (at 63 64)))) (at 64 65) (Some (record { target = (Variable byte 0 (name 0 65 66)); equals = (at 66 67); value = (Number byte (decimal_literal 1) (at 67 68)) })) (at 68 69)) (label 9) (Do (at 69 71) (If (test (at 72 74) (at 74 75) (Truth (Variable byte 0 (name 0 75 76))) (at 76 77)) (label 10) (For (head (at 77 80) (at 80 81) None (at 81 82) None (at 82 83) None (at 83 84)) (label 11) (Return (at 84 90) None (at 90 91)) (label 12)) (label 13)) (test (at 91 96) (at 96 97) (Not (at 97 98) (InParentheses (at 98 99) (Both (Truth (Variable byte 0 (name 0 99 100))) (at 100 102) (label 14) (label 15) (Truth (Variable byte 1 (name 1 102 103)))) (at 103 104))) (at 104 105)) (label 16) (at 105 106) (label 17)) (label 18))) (at 106 107)) (test (at 107 112) (at 112 113) (Both (InParentheses (at 113 114) (Either (Truth (Variable byte 0 (name 0 114 115))) (at 115 117) (label 19) (label 20) (Truth (Variable byte 1 (name 1 117 118)))) (at 118 119)) (at 119 121) (label 21) (label 22) (Truth (Variable byte 2 (name 2 121 122)))) (at 122 123)) (label 23) (at 123 124) (label 24))) (While (test (at 124 129) (at 129 130) (Truth (Variable byte 0 (name 0 130 131))) (at 131 132)) (label 25) (Do (at 132 134) (Empty (at 134 135)) (test (at 135 140) (at 140 141) (Truth (Variable byte 1 (name 1 141 142))) (at 142 143)) (label 26) (at 143 144) (label 27)) (label 28))) (If (test (at 144 146) (at 146 147) (Truth (Variable byte 0 (name 0 147 148))) (at 148 149)) (label 29) (If (test (at 149 151) (at 151 152) (Truth (Variable byte 1 (name 1 152 153))) (at 153 154)) (label 30) (Empty (at 154 155)) (label 31)) (label 32))) (at 155 156)

nested_otherwise_annotated : annotated (codes "void main(void){do{if(a)while(b)continue;else{}for(a=0;a&&(b||c);a=1)do if(a)for(;;)return;while(!(a&&b));}while((a||b)&&c);while(a)do;while(b);if(a)if(b);}") (points_of nested_otherwise) hundreds ≡ codes "/*@*/unsigned long __cost=4;/*@*/void main(void){/*@*/__cost+=100;/*@*/do/*@*/{/*@*/{if(a)/*@*/{__cost+=101;/*@*/while(b)/*@*/{__cost+=102;/*@*/continue;/*@*/}__cost+=103;/*@*//*@*/}/*@*/else/*@*/{__cost+=104;/*@*/{}/*@*/}/*@*/for(a=0;/*@*/((/*@*/a/*@*/)?(__cost+=105,1):(__cost+=106,0))/*@*/&&(/*@*/((/*@*/b/*@*/)?(__cost+=107,1):(__cost+=108,0))/*@*/||c);a=1)/*@*/{__cost+=109;/*@*/do /*@*/{/*@*/if(a)/*@*/{__cost+=110;/*@*/for(;;)/*@*/{__cost+=111;/*@*/return;/*@*/}__cost+=112;/*@*//*@*/}else{__cost+=113;}/*@*//*@*/}/*@*/while(/*@*/((/*@*/!(/*@*/((/*@*/a/*@*/)?(__cost+=114,1):(__cost+=115,0))/*@*/&&b)/*@*/)?(__cost+=116,1):0)/*@*/);/*@*/__cost+=117;/*@*//*@*/}__cost+=118;/*@*/}/*@*/}/*@*/while(/*@*/((/*@*//*@*/((/*@*/(/*@*/((/*@*/a/*@*/)?(__cost+=119,1):(__cost+=120,0))/*@*/||b)/*@*/)?(__cost+=121,1):(__cost+=122,0))/*@*/&&c/*@*/)?(__cost+=123,1):0)/*@*/);/*@*/__cost+=124;/*@*/while(a)/*@*/{__cost+=125;/*@*/do/*@*/{/*@*/;/*@*/}/*@*/while(/*@*/((/*@*/b/*@*/)?(__cost+=126,1):0)/*@*/);/*@*/__cost+=127;/*@*//*@*/}__cost+=128;/*@*/if(a)/*@*/{__cost+=129;/*@*/if(b)/*@*/{__cost+=130;/*@*/;/*@*/}else{__cost+=131;}/*@*//*@*/}else{__cost+=132;}/*@*/}"
unfolding digits
nested_otherwise_annotated = refl

nested_otherwise_labelled : IsLabelled (without_labels nested_otherwise) nested_otherwise
nested_otherwise_labelled = record { typed_alone = refl; numbered = refl }
