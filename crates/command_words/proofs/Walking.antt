-- What clap makes of words that may be operands: the first is the name, and the others are the operands, at most four.
use Rattle.std.proofs.Common.{◌≡◌, ◌∙◌, ℕ, ◌≤◌, List, [], ◌∷◌, ◌++◌, length, refl, sym, ap, ap₂, arith, None, Some, Bool, true, false, not, ◌&&◌, codes, append-nil, append_assoc, nat_lt, le-ltb}
use Rattle.std.specs.Prelude.{◌==◌, fold, unwrap_or, bytes_eq, option_and_then, if◌then◌else◌, cond}
use Rattle.std.specs.Option.{option_map_or}
use Rattle.clap.specs.Words.{Row, Text, Shape, all_of, first_of, built, is_simple, is_simple_and_free, matches_of, fault_of}
use Rattle.clap.specs.Lexer.{long_of, long_of_rest, short_of, short_of_rest, strip_byte}
use Rattle.clap.specs.Walk.{Held, Waiting, Walk, after_step, idle, long_or_other, nothing_held, option, plain_word, positional, short_or_plain, trailing, value, walk, walked, walk_from, word_met}
use Rattle.clap.specs.Faults.{walk_fault, turn_fault, defaults_fault, other_fault, flag_word_fault, bundle_fault, step_fault}
use Rattle.clap.specs.Kinds.{values_kinds, or_else}
use Rattle.clap.specs.declared.builder.value_parser.Reading.TheVariants.{AsWritten}
use Rattle.clap.specs.declared.builder.value_parser.ValueParser.TheVariants as vp
use Rattle.clap.specs.declared.parser.matches.ValueSource.TheVariants.{CommandLine}
use Rattle.clap.proofs.OnLiterals.{clap_on_literals}
use Rattle.command_words.specs.Lines.{is_operand, are_operands}
use Rattle.command_words.specs.Code.Grammar.{grammar_app}

abbrev pub top : Shape
top = (built grammar_app).top

pub both : (p q : Bool) → (p && q) ≡ true → (p ≡ true) × (q ≡ true)
both true q e = (refl, e)
both false q e = absurd cc

from_not : (p : Bool) → not p ≡ true → p ≡ false
from_not false e = refl
from_not true e = absurd cc

-- the walk after the name
abbrev pub after_name : Text → Walk
after_name name = record {
  held = record { rows = []; pending = Some (codes "name", name ∷ []); skip = 0 };
  waiting = idle;
  position = 2;
  is_trailing = false;
  stopped = None;
}

abbrev pub name_row : Text → Row
name_row name = record { id = codes "name"; values = name ∷ []; count = None; source = Some CommandLine; reading = AsWritten }

-- the walk after the name and operands
abbrev pub after_operands : Text → List Text → Walk
after_operands name operands = record {
  held = record { rows = name_row name ∷ []; pending = Some (codes "operands", operands); skip = 0 };
  waiting = positional;
  position = 2;
  is_trailing = false;
  stopped = None;
}

-- a word that can be an operand is no option, and no `--`
not_long : (x : ℕ) (xs : Text) → (x == 45) ≡ false → long_of (x ∷ xs) ≡ None
not_long x xs e = ap (λ b. option_and_then long_of_rest (option_and_then (strip_byte 45) (cond b (Some xs) None))) e

not_short : (x : ℕ) (xs : Text) → (x == 45) ≡ false → short_of (x ∷ xs) ≡ None
not_short x xs e = ap (λ b. option_and_then short_of_rest (cond b (Some xs) None)) e

not_dashes : (x : ℕ) (xs : Text) → (x == 45) ≡ false → bytes_eq (x ∷ xs) (45 ∷ 45 ∷ []) ≡ false
not_dashes x xs e = ap (λ b. b && bytes_eq xs (45 ∷ [])) e

-- it goes to a positional
is_value : (waiting : Waiting) (position : ℕ) (word : Text) (held : Held) → is_operand word ≡ true → plain_word top.rules waiting word held ≡ (held, value) → word_met top.rules [] false waiting position word held ≡ (held, value)
is_value waiting position [] held h plain = absurd cc
is_value waiting position (x ∷ xs) held h plain =
    let e : (x == 45) ≡ false = from_not (x == 45) h in
    none_named waiting (x ∷ xs) held position
    ∙ ap (λ b. if b then (held, trailing position) else long_or_other top.rules waiting (x ∷ xs) (long_of (x ∷ xs)) held) (not_dashes x xs e)
    ∙ ap (λ o. long_or_other top.rules waiting (x ∷ xs) o held) (not_long x xs e)
    ∙ ap (λ o. short_or_plain top.rules waiting (x ∷ xs) o held) (not_short x xs e)
    ∙ plain
  where
    none_named : (waiting : Waiting) (word : Text) (held : Held) (position : ℕ) → word_met top.rules [] false waiting position word held ≡ (if bytes_eq word (45 ∷ 45 ∷ []) then (held, trailing position) else long_or_other top.rules waiting word (long_of word) held)
    none_named idle word held position = refl
    none_named (option id) word held position = refl
    none_named positional word held position = refl

-- no flag of it is refused
no_refusal : (word : Text) (held : Held) → is_operand word ≡ true → other_fault top None word held ≡ []
no_refusal [] held h = absurd cc
no_refusal (x ∷ xs) held h =
    let e : (x == 45) ≡ false = from_not (x == 45) h in
    ap (λ b. if b then [] else flag_word_fault top.rules top.args_override_self (long_of (x ∷ xs)) (x ∷ xs) held) (not_dashes x xs e)
    ∙ ap (λ o. flag_word_fault top.rules top.args_override_self o (x ∷ xs) held) (not_long x xs e)
    ∙ ap (λ o. option_map_or (λ flags. bundle_fault top.rules top.args_override_self flags held) o []) (not_short x xs e)

name_walked : (word : Text) → is_operand word ≡ true → walked top.rules [] (walk_from nothing_held) word ≡ after_name word
unfolding walked
name_walked word h = ap (λ met. after_step top.rules word (walk_from nothing_held) met.0 met.1) (is_value idle 1 word nothing_held h refl)

first_walked : (name word : Text) → is_operand word ≡ true → walked top.rules [] (after_name name) word ≡ after_operands name (word ∷ [])
unfolding walked
first_walked name word h = ap (λ met. after_step top.rules word (after_name name) met.0 met.1) (is_value idle 2 word (after_name name).held h refl)

next_walked : (name word : Text) (before : List Text) → is_operand word ≡ true → walked top.rules [] (after_operands name before) word ≡ after_operands name (before ++ word ∷ [])
unfolding walked
next_walked name word before h = ap (λ met. after_step top.rules word (after_operands name before) met.0 met.1) (is_value positional 2 word (after_operands name before).held h refl)

name_turns : (word : Text) → is_operand word ≡ true → turn_fault top [] (walk_from nothing_held) word ≡ []
name_turns word h =
    ap₂ (λ refused met. or_else refused (step_fault top 1 met.0 met.1)) (no_refusal word nothing_held h) (is_value idle 1 word nothing_held h refl)

first_turns : (name word : Text) → is_operand word ≡ true → turn_fault top [] (after_name name) word ≡ []
first_turns name word h =
    ap₂ (λ refused met. or_else refused (step_fault top 2 met.0 met.1)) (no_refusal word (after_name name).held h) (is_value idle 2 word (after_name name).held h refl)

next_turns : (name word : Text) (before : List Text) → is_operand word ≡ true → turn_fault top [] (after_operands name before) word ≡ []
next_turns name word before h =
    ap₂ (λ refused met. or_else refused (step_fault top 2 met.0 met.1)) (no_refusal word (after_operands name before).held h)
    (is_value positional 2 word (after_operands name before).held h refl)

-- more operands
more_walked : (name : Text) (before words : List Text) → are_operands words ≡ true → fold (walked top.rules []) (after_operands name before) words ≡ after_operands name (before ++ words)
more_walked name before [] h = ap (after_operands name) (sym (append-nil before))
more_walked name before (word ∷ words) h =
    let b = both (is_operand word) (are_operands words) h in
    ap (λ w. fold (walked top.rules []) w words) (next_walked name word before b.0)
    ∙ more_walked name (before ++ word ∷ []) words b.1
    ∙ ap (after_operands name) (append_assoc before (word ∷ []) words)

more_turn : (name : Text) (before words : List Text) → are_operands words ≡ true → walk_fault top [] (after_operands name before) words ≡ []
unfolding walk_fault
more_turn name before [] h = refl
more_turn name before (word ∷ words) h =
    let b = both (is_operand word) (are_operands words) h in
    ap (λ k. or_else k (walk_fault top [] (walked top.rules [] (after_operands name before) word) words)) (next_turns name word before b.0)
    ∙ ap (λ w. walk_fault top [] w words) (next_walked name word before b.0)
    ∙ more_turn name (before ++ word ∷ []) words b.1

-- the walk over all the words
abbrev pub end : Text → List Text → Walk
end name [] = after_name name
end name (operand ∷ operands) = after_operands name (operand ∷ operands)

pub walks : (name : Text) (operands : List Text) → are_operands (name ∷ operands) ≡ true → walk top.rules [] nothing_held (name ∷ operands) ≡ end name operands
walks name [] h = name_walked name (both (is_operand name) _ h).0
walks name (operand ∷ operands) h =
    let b = both (is_operand name) _ h in
    let c = both (is_operand operand) (are_operands operands) b.1 in
    ap (λ w. fold (walked top.rules []) w (operand ∷ operands)) (name_walked name b.0)
    ∙ ap (λ w. fold (walked top.rules []) w operands) (first_walked name operand c.0)
    ∙ more_walked name (operand ∷ []) operands c.1

pub turns : (name : Text) (operands : List Text) → are_operands (name ∷ operands) ≡ true → walk_fault top [] (walk_from nothing_held) (name ∷ operands) ≡ []
unfolding walk_fault
turns name [] h = ap (λ k. or_else k []) (name_turns name (both (is_operand name) _ h).0)
turns name (operand ∷ operands) h =
    let b = both (is_operand name) _ h in
    let c = both (is_operand operand) (are_operands operands) b.1 in
    ap (λ k. or_else k (walk_fault top [] (walked top.rules [] (walk_from nothing_held) name) (operand ∷ operands))) (name_turns name b.0)
    ∙ ap (λ w. walk_fault top [] w (operand ∷ operands)) (name_walked name b.0)
    ∙ ap (λ k. or_else k (walk_fault top [] (walked top.rules [] (after_name name) operand) operands)) (first_turns name operand c.0)
    ∙ ap (λ w. walk_fault top [] w operands) (first_walked name operand c.0)
    ∙ more_turn name (operand ∷ []) operands c.1

-- each text is a value
all_texts : (words : List Text) → values_kinds false vp.String words ≡ []
all_texts [] = refl
all_texts (word ∷ words) = all_texts words

pub simple : is_simple grammar_app ≡ true
unfolding clap_on_literals
simple = refl

pub simple_and_free : is_simple_and_free grammar_app ≡ true
unfolding clap_on_literals
simple_and_free = refl

-- clap takes a name and at most four operands
pub taken : (name : Text) (operands : List Text) → are_operands (name ∷ operands) ≡ true → length operands ≤ 4 → fault_of grammar_app (name ∷ operands) ≡ []
unfolding defaults_fault
taken name [] h few = rw (turns name [] h, walks name [] h) refl
taken name (operand ∷ operands) h few =
    let at_least : nat_lt (length (operand ∷ operands)) 0 ≡ false = le-ltb (length (operand ∷ operands)) 0 (omega arith) in
    let at_most : nat_lt 4 (length (operand ∷ operands)) ≡ false = le-ltb 4 (length (operand ∷ operands)) few in
    rw (turns name (operand ∷ operands) h, walks name (operand ∷ operands) h, at_least, at_most, all_texts operands) refl

-- and it gives them as they stand
pub name_found : (name : Text) (operands : List Text) → are_operands (name ∷ operands) ≡ true → first_of (codes "name") (matches_of grammar_app (name ∷ operands)) ≡ Some name
name_found name [] h = rw (walks name [] h) refl
name_found name (operand ∷ operands) h = rw (walks name (operand ∷ operands) h) refl

pub operands_found : (name : Text) (operands : List Text) → are_operands (name ∷ operands) ≡ true → unwrap_or (all_of (codes "operands") (matches_of grammar_app (name ∷ operands))) [] ≡ operands
operands_found name [] h = rw (walks name [] h) refl
operands_found name (operand ∷ operands) h = rw (walks name (operand ∷ operands) h) refl
