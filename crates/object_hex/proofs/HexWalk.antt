-- The lines of a hex text, read one after another.
use Rattle.std.proofs.Common.{◌≡◌, ℕ, zero, suc, ◌+◌, ◌<◌, ◌≤◌, Bool, true, false, cond, List, [], ◌∷◌, ◌++◌, length, take, drop, map, Option, Some, None, unwrap_or, refl, ap, ap₂, sym, subst, ◌∙◌, inl, inr, arith}
use Rattle.std.specs.Prelude.{slice_get, Ok, Err}
use Rattle.std.proofs.lemmas.Bool.{cases_lt}
use Rattle.std.proofs.lemmas.Option.{none-some, slice_get_past}
use Rattle.std.proofs.lemmas.List.{length-drop, take_all}
use Rattle.object_hex.specs.declared.reading.faults.HexFault.{HexFault}
use Rattle.object_hex.specs.declared.reading.faults.HexKind.{HexKind}
use Rattle.object_hex.specs.declared.reading.faults.HexKind.TheVariants.{NoEnd}
use Rattle.object_hex.specs.declared.reading.faults.HexError.TheVariants.{Fault, OutOfMemory}
use Rattle.object_hex.specs.Lines.{lines}
use Rattle.object_hex.specs.HexMeaning.{code_of, fault_at, fault_behind, fault_here, has_end, IsHexText, IsFirstFault}
use Rattle.object_hex.specs.HexAnswer.{IsHexAnswer}
use Rattle.object_hex.specs.Code.Reading.{IsReadUpTo}
use Rattle.object_hex.proofs.Splits.{lines-nil}
use Rattle.object_hex.proofs.Places.{code_held}

-- the lines up to a number are read, and the rest of the text holds the others
pub record Walked (text rest : List ℕ) (number : ℕ) (places : List (Option ℕ)) (reach : ℕ) (ended : Bool) : Type 0 where
  pub others : drop number (lines text) ≡ lines rest
  pub few : number + length rest ≤ length text
  pub right : (place : ℕ) → place < number → fault_at (lines text) place ≡ None
  pub state : IsReadUpTo (take number (lines text)) places reach ended

pub record NextOf (all : List (List ℕ)) (number : ℕ) (line : List ℕ) (others : List (List ℕ)) : Type 0 where
  pub here : slice_get all number ≡ Some line
  pub taken : take (suc number) all ≡ take number all ++ line ∷ []
  pub left : drop (suc number) all ≡ others

pub next_line : (all : List (List ℕ)) (number : ℕ) (line : List ℕ) (others : List (List ℕ)) → drop number all ≡ line ∷ others → NextOf all number line others
next_line [] zero line others e = absurd (cc)
next_line [] (suc number) line others e = absurd (cc)
next_line (first ∷ more) zero line others e =
    let same : first ≡ line = cc in
    let rest : more ≡ others = cc in
    record { here = ap Some same; taken = ap (λ l. l ∷ []) same; left = rest }
next_line (first ∷ more) (suc number) line others e =
    let next = next_line more number line others e in
    record { here = next.here; taken = ap (λ l. first ∷ l) next.taken; left = next.left }

pub fault-line : (ls : List (List ℕ)) (place : ℕ) (line : List ℕ) → slice_get ls place ≡ Some line → fault_at ls place ≡ fault_behind (take place ls) line
unfolding fault_at
fault-line ls place line here = ap (fault_here ls place) here

pub fault-end : (ls : List (List ℕ)) (place : ℕ) (ended : Bool) → slice_get ls place ≡ None → has_end ls ≡ ended → fault_at ls place ≡ cond ended None (Some NoEnd)
unfolding fault_at
fault-end ls place ended past ends = ap (fault_here ls place) past ∙ ap (λ e. cond e None (Some NoEnd)) ends

pub walked_none : (text : List ℕ) (places : List (Option ℕ)) (reach : ℕ) (ended : Bool) → IsReadUpTo [] places reach ended → Walked text text 0 places reach ended
walked_none text places reach ended state = record {
  others = refl;
  few = omega arith;
  right = λ place within. absurd (omega arith);
  state = state;
}

pub walked_more : (text rest behind line : List ℕ) (number : ℕ) (places new : List (Option ℕ)) (reach to : ℕ) (ended ends : Bool) → Walked text rest number places reach ended → lines rest ≡ line ∷ lines behind → length behind < length rest
    → (fault_behind (take number (lines text)) line ≡ None) × IsReadUpTo (take number (lines text) ++ line ∷ []) new to ends
    → Walked text behind (number + 1) new to ends
walked_more text rest behind line number places new reach to ended ends walked split shorter taken =
    let next = next_line (lines text) number line (lines behind) (walked.others ∙ split) in
    let one : number + 1 ≡ suc number = omega arith in
    record {
      others = ap (λ n. drop n (lines text)) one ∙ next.left;
      few = let few = walked.few in omega arith;
      right = λ place within. elim (cases_lt place number) [
        | inl earlier ↦ walked.right place earlier
        | inr last ↦
            let here : place ≡ number = omega arith in
            ap (fault_at (lines text)) here ∙ fault-line (lines text) number line next.here ∙ taken.0
      ];
      state = let State : List (List ℕ) → Type 0 = λ ls. IsReadUpTo ls new to ends in subst State (sym (ap (λ n. take n (lines text)) one ∙ next.taken)) taken.1;
    }

pub walked_bad : (text rest behind line : List ℕ) (number : ℕ) (places : List (Option ℕ)) (reach : ℕ) (ended : Bool) (kind : HexKind) → Walked text rest number places reach ended → lines rest ≡ line ∷ lines behind
    → fault_behind (take number (lines text)) line ≡ Some kind → IsFirstFault text (record { line = number + 1; kind = kind })
walked_bad text rest behind line number places reach ended kind walked split bad =
    let next = next_line (lines text) number line (lines behind) (walked.others ∙ split) in
    record {
      place = number;
      line = refl;
      bad = fault-line (lines text) number line next.here ∙ bad;
      right_before = walked.right;
    }

-- behind the last line there is no other, and all are read
past_all : (text rest : List ℕ) (number : ℕ) (places : List (Option ℕ)) (reach : ℕ) (ended : Bool) → Walked text rest number places reach ended → rest ≡ [] → length (lines text) ≤ number
past_all text rest number places reach ended walked none =
    let left : length (drop number (lines text)) ≡ 0 = ap length (walked.others ∙ ap lines none ∙ lines-nil) in
    let rest_of = length-drop number (lines text) in
    omega arith

pub walked_open : (text rest : List ℕ) (number : ℕ) (places : List (Option ℕ)) (reach : ℕ) → Walked text rest number places reach false → rest ≡ [] → IsFirstFault text (record { line = number + 1; kind = NoEnd })
walked_open text rest number places reach walked none =
    let past = past_all text rest number places reach false walked none in
    let whole = take_all number (lines text) past in
    record {
      place = number;
      line = refl;
      bad = fault-end (lines text) number false (slice_get_past (lines text) number past) (ap has_end (sym whole) ∙ sym walked.state.ends);
      right_before = walked.right;
    }

pub walked_all : (text rest : List ℕ) (number : ℕ) (places : List (Option ℕ)) (reach : ℕ) (code : List ℕ) → Walked text rest number places reach true → rest ≡ [] → reach ≤ 65536 → length places ≡ 65536
    → code ≡ map (λ place. unwrap_or place 0) (take reach places) → IsHexText text code
walked_all text rest number places reach code walked none bounded room held =
    let past = past_all text rest number places reach true walked none in
    let whole = take_all number (lines text) past in
    record {
      right = λ place. elim (cases_lt place number) [
        | inl earlier ↦ walked.right place earlier
        | inr behind ↦ fault-end (lines text) place true (slice_get_past (lines text) place (omega arith)) (ap has_end (sym whole) ∙ sym walked.state.ends)
      ];
      code_given = held ∙ code_held (take number (lines text)) places reach walked.state.holds walked.state.reaches bounded room ∙ ap code_of whole;
    }

-- a text is a hex text, or has a first fault, and not both
not_both : (text code : List ℕ) (first : HexFault) → IsHexText text code → IsFirstFault text first → ⊥
not_both text code first means faulty = none-some first.kind (sym (means.right faulty.place) ∙ faulty.bad)

one_fault : (text : List ℕ) (a b : HexFault) → IsFirstFault text a → IsFirstFault text b → a ≡ b
one_fault text a b of_a of_b = elim (cases_lt of_a.place of_b.place) [
  | inl earlier ↦ absurd (none-some a.kind (sym (of_b.right_before of_a.place earlier) ∙ of_a.bad))
  | inr later ↦ elim (cases_lt of_b.place of_a.place) [
    | inl earlier ↦ absurd (none-some b.kind (sym (of_a.right_before of_b.place earlier) ∙ of_b.bad))
    | inr same ↦
        let place : of_a.place ≡ of_b.place = omega arith in
        let line : a.line ≡ b.line = of_a.line ∙ ap (λ p. p + 1) place ∙ sym of_b.line in
        let kinds : Some a.kind ≡ Some b.kind = sym of_a.bad ∙ ap (fault_at (lines text)) place ∙ of_b.bad in
        let kind : a.kind ≡ b.kind = cc in
        ap₂ (λ (l : ℕ) (k : HexKind). record { line = l; kind = k }) line kind
  ]
]

pub answer_code : (text code : List ℕ) → IsHexText text code → IsHexAnswer text (Ok code)
answer_code text code means = record {
  right = means;
  fault = λ first e. absurd (cc);
  accepts = λ other also. inl (ap Ok (means.code_given ∙ sym also.code_given));
  refuses = λ first faulty. absurd (not_both text code first means faulty);
}

pub answer_fault : (text : List ℕ) (found : HexFault) → IsFirstFault text found → IsHexAnswer text (Err (Fault found))
answer_fault text found faulty = record {
  right = tt;
  fault = λ first e. let same : found ≡ first = cc in let First : HexFault → Type 0 = λ f. IsFirstFault text f in subst First same faulty;
  accepts = λ code means. absurd (not_both text code found means faulty);
  refuses = λ first also. inl (ap (λ f. Err (Fault f)) (one_fault text found first faulty also));
}

pub answer_memory : (text : List ℕ) → IsHexAnswer text (Err OutOfMemory)
answer_memory text = record {
  right = tt;
  fault = λ first e. absurd (cc);
  accepts = λ code means. inr refl;
  refuses = λ first faulty. inr refl;
}
