-- The definitions of the annotated text, computed on small texts.
use Rattle.std.proofs.Common.{◌≡◌, List, [], ◌∷◌, refl}
use Rattle.std.specs.Prelude.{codes, None}
use Rattle.std.specs.Fmt.{digits}
use Rattle.cerco_base.specs.declared.events.Event.TheVariants.{Label, Write}
use Rattle.cerco_base.specs.declared.events.Port.TheVariants.{P1}
use Rattle.clight_syntax.specs.declared.points.Piece.TheVariants.{Start, After}
use Rattle.clight_syntax.specs.declared.points.Point.{Point}
use Rattle.clight_syntax.specs.Annotations.{annotated}
use Rattle.annotate.specs.Erasure.{erased, parts}
use Rattle.annotate.specs.Numbers.{numbers, number, start_cost_in, label_cost_in, cost_at}

-- the annotations of `void main(void){}`
abbrev start_and_body : List Point
start_and_body = record { at = 0; piece = Start } ∷ record { at = 16; piece = After (record { 0 = 0 }) } ∷ []

annotated_main : annotated (codes "void main(void){}") start_and_body (record { start = 4; labels = 3 ∷ [] }) ≡ codes "/*@*/unsigned long __cost=4;/*@*/void main(void){/*@*/__cost+=3;/*@*/}"
unfolding digits
annotated_main = refl

erased_main : erased (codes "/*@*/unsigned long __cost=4;/*@*/void main(void){/*@*/__cost+=3;/*@*/}") ≡ codes "void main(void){}"
erased_main = refl

numbers_of_main : numbers (codes "/*@*/unsigned long __cost=4;/*@*/void main(void){/*@*/__cost+=3;/*@*/}") ≡ 4 ∷ 3 ∷ []
numbers_of_main = refl

-- the start, label 0 twice and a label that the text doesn't have
cost_of_run : cost_at (codes "/*@*/unsigned long __cost=4;/*@*/void main(void){/*@*/__cost+=3;/*@*/}") (Label (record { 0 = 0 }) ∷ Write P1 5 ∷ Label (record { 0 = 0 }) ∷ Label (record { 0 = 1 }) ∷ []) ≡ 10
cost_of_run = refl

-- two annotations at one place stand in the order of the list
two_at_one_place : annotated (codes "ab") (record { at = 1; piece = Start } ∷ record { at = 1; piece = After (record { 0 = 1 }) } ∷ []) (record { start = 0; labels = 7 ∷ 12 ∷ [] }) ≡ codes "a/*@*/unsigned long __cost=0;/*@*//*@*/__cost+=12;/*@*/b"
unfolding digits
two_at_one_place = refl

-- an annotation at the text's end
at_the_end : annotated (codes "a") (record { at = 1; piece = After (record { 0 = 0 }) } ∷ []) (record { start = 0; labels = 65535 ∷ [] }) ≡ codes "a/*@*/__cost+=65535;/*@*/"
unfolding digits
at_the_end = refl

-- a mark that is never closed: what stands behind it is taken out
unclosed : erased (codes "a/*@*/b") ≡ codes "a"
unclosed = refl

unclosed_at_the_end : parts (codes "a/*@*/") ≡ codes "a" ∷ [] ∷ []
unclosed_at_the_end = refl

-- half a mark is none
half_mark : erased (codes "a/*@*b/*@") ≡ codes "a/*@*b/*@"
half_mark = refl

-- of two marks that share a byte the left one counts
overlapping : parts (codes "/*@*/*@*/") ≡ [] ∷ codes "*@*/" ∷ []
overlapping = refl

erased_overlapping : erased (codes "/*@*/*@*/") ≡ []
erased_overlapping = refl

no_text : erased [] ≡ []
no_text = refl

-- a number with a leading zero is none, 0 is one
leading_zero : numbers (codes "/*@*/__cost+=007;__cost+=0;__cost=08;__cost=70;") ≡ 0 ∷ 70 ∷ []
leading_zero = refl

-- numbers outside of the annotations, and such that don't stand directly behind, don't count
elsewhere : numbers (codes "__cost=1;/*@*/__cost = 2;__cost= 3;__cost-=4;__cost+=x;__cost==5/*@*/__cost+=6") ≡ []
elsewhere = refl

-- several in one part, ended by any byte
several : numbers (codes "/*@*/)?(__cost+=12,1):(__cost+=3x") ≡ 12 ∷ 3 ∷ []
several = refl

missing : number (codes "/*@*/__cost=4;/*@*/") 1 ≡ None
missing = refl

costs_of_main : label_cost_in (codes "/*@*/__cost=4;/*@*//*@*/__cost+=3;") 0 ≡ 3
costs_of_main = refl

no_start : start_cost_in (codes "void main(void){}") ≡ 0
no_start = refl
