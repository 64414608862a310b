-- The texts of the generator: so many functions that each mix a value in a loop, and a `main` that calls one after the other and writes
-- each result to port 1. (The texts are the compiler's own; they are in the profile of C of `docs/language.md`.)
use Rattle.std.specs.Prelude.{ℕ, zero, suc, List, [], ◌++◌, codes, decimal}
use Rattle.sample_texts.specs.declared.draws.Numbers.{Numbers}
use Rattle.sample_texts.specs.Draws.{numbers_at, start_at}

-- a text, a number in decimal, and what comes after it
abbrev pub numbered : List ℕ → ℕ → List ℕ → List ℕ
numbered before number after = before ++ (decimal number ++ after)

-- the lists for the first so many numbers from 0 on, one after the other
abbrev pub each_below : {A : Type 0} → (ℕ → List A) → ℕ → List A
each_below one zero = []
each_below one (suc n) = each_below one n ++ one n

-- the line of the function with this number, ended by a line feed
abbrev pub function_text : Numbers → ℕ → List ℕ
function_text x function =
    numbered (codes "unsigned int f") function
    (numbered (codes "(unsigned int a){unsigned int b;unsigned char i;b=a;i=0;while(i<") x.turns
    (numbered (codes "){b=b+") x.added
    (numbered (codes "u^") x.mixed
    (numbered (codes "u;if(b&1)b=b^") x.mixed_odd
    (codes "u;i=i+1;}return b;}\n")))))

-- the lines of so many functions
abbrev pub functions_text : (seed functions : ℕ) → List ℕ
functions_text seed functions = each_below (λ function. function_text (numbers_at seed function) function) functions

-- the call of the function with this number in `main`, and the writing of its result
abbrev pub call_text : ℕ → List ℕ
call_text function = numbered (codes "x=f") function (codes "(x);P1=x;")

-- the line of `main`
abbrev pub main_text : (start functions : ℕ) → List ℕ
main_text start functions =
    numbered (codes "void main(void){unsigned int x;x=") start (codes "u;" ++ (each_below call_text functions ++ codes "}\n"))

-- the text for a seed, with so many functions
abbrev pub text_of : (seed size : ℕ) → List ℕ
text_of seed size = functions_text seed size ++ main_text (start_at seed size) size
