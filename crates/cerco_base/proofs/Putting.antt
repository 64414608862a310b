-- Texts that are put piece by piece.
use Rattle.std.proofs.Common.{◌≡◌, ℕ, ◌+◌, ◌<◌, ◌≤◌, List, [], ◌++◌, length, take, drop, Result, Ok, Err, refl, sym, ap, subst, ◌∙◌, arith, append_assoc, append-nil, take-append-drop}
use Rattle.std.proofs.lemmas.List.{length-append}
use Rattle.cerco_base.specs.Outside.IoFaults.{Rose}
use Rattle.cerco_base.specs.Outside.IoStates.{SinkState}
use Rattle.cerco_base.specs.Outside.IoCalls.{Keeps, PutsSome, PutsText, Adds}
use Rattle.cerco_base.specs.declared.outside.faults.IoFault.{IoFault}

pub rose_since : (a b c : ℕ) → a ≤ b → Rose b c → Rose a c
rose_since a b c h r = omega arith

pub keeps_same : (s : SinkState) → Keeps s s
keeps_same s = record { later = omega arith; own_name = refl; reference = refl; known = λ h. h; beside_known = λ h. h; beside = λ h q. refl }

pub keeps_on : (s t u : SinkState) → Keeps s t → Keeps t u → Keeps s u
keeps_on s t u a b =
    record {
      later = let x = a.later in let y = b.later in omega arith;
      own_name = b.own_name ∙ a.own_name;
      reference = b.reference ∙ a.reference;
      known = λ h. b.known (a.known h);
      beside_known = λ h. b.beside_known (a.beside_known h);
      beside = λ h q. b.beside (a.beside_known h) q ∙ a.beside h q;
    }

-- what was put of a text, before the rest
pub record SoFar (s t : SinkState) (text rest : List ℕ) : Type 0 where
  pub keeps : Keeps s t
  pub front : List ℕ
  pub whole : front ++ rest ≡ text
  pub added : Adds s t front

pub begun : (s : SinkState) (text : List ℕ) → SoFar s s text text
begun s text = record { keeps = keeps_same s; front = []; whole = refl; added = λ h. sym (append-nil s.bytes) }

pub adds_on : (s t u : SinkState) (a b : List ℕ) → Keeps s t → Adds s t a → Adds t u b → Adds s u (a ++ b)
adds_on s t u a b k f g h = g (k.known h) ∙ ap (λ (x : List ℕ). x ++ b) (f h) ∙ append_assoc s.bytes a b

pub taken : (s t u : SinkState) (text rest : List ℕ) (n : ℕ) → SoFar s t text rest → PutsSome t u rest (Ok n) → SoFar s u text (drop n rest)
taken s t u text rest n a p =
    record {
      keeps = keeps_on s t u a.keeps p.keeps;
      front = a.front ++ take n rest;
      whole = append_assoc a.front (take n rest) (drop n rest) ∙ (ap (λ (x : List ℕ). a.front ++ x) (take-append-drop n rest) ∙ a.whole);
      added = adds_on s t u a.front (take n rest) a.keeps a.added p.added;
    }

pub all_put : {T : Type 0} (s t : SinkState) (text : List ℕ) (x : T) → SoFar s t text [] → PutsText s t text (Ok x)
all_put s t text x a =
    let same : a.front ≡ text = sym (append-nil a.front) ∙ a.whole in
    record {
      keeps = a.keeps;
      cause = record { later = a.keeps.later; rose = tt; named = tt };
      whole = subst (λ (f : List ℕ). Adds s t f) same a.added;
      front = (a.front, [], a.whole, a.added);
      some = tt;
    }

pub cut_short : {T : Type 0} (s t u : SinkState) (text rest : List ℕ) (e : IoFault) → 0 < length rest → SoFar s t text rest → PutsSome t u rest (Err e) → PutsText {T = T} s u text (Err e)
cut_short s t u text rest e l a p =
    let size : length text ≡ length a.front + length rest = ap length (sym a.whole) ∙ length-append a.front rest in
    record {
      keeps = keeps_on s t u a.keeps p.keeps;
      cause = record {
        later = (keeps_on s t u a.keeps p.keeps).later;
        rose = λ h. rose_since s.faults t.faults u.faults a.keeps.later (p.cause.rose h);
        named = λ h. p.cause.named h ∙ a.keeps.own_name;
      };
      whole = tt;
      front = (a.front, rest, a.whole, λ h. p.same (a.keeps.known h) ∙ a.added h);
      some = omega arith;
    }

-- two texts, one after the other
pub puts_two : {X Y : Type 0} (s t u : SinkState) (a b : List ℕ) (x : X) (r : Result Y IoFault) → PutsText s t a (Ok x) → PutsText t u b r → PutsText s u (a ++ b) r
puts_two s t u a b x (Ok y) p q =
    let l₁ = p.keeps.later in let l₂ = q.keeps.later in
    record {
      keeps = keeps_on s t u p.keeps q.keeps;
      cause = record { later = omega arith; rose = tt; named = tt };
      whole = adds_on s t u a b p.keeps p.whole q.whole;
      front = (a ++ b, [], append-nil (a ++ b), adds_on s t u a b p.keeps p.whole q.whole);
      some = tt;
    }
puts_two s t u a b x (Err e) p q =
    let size : length (a ++ b) ≡ length a + length b = length-append a b in
    let some : 0 < length b = q.some in
    record {
      keeps = keeps_on s t u p.keeps q.keeps;
      cause = record {
        later = (keeps_on s t u p.keeps q.keeps).later;
        rose = λ h. rose_since s.faults t.faults u.faults p.keeps.later (q.cause.rose h);
        named = λ h. q.cause.named h ∙ p.keeps.own_name;
      };
      whole = tt;
      front = (a ++ q.front.0, q.front.1, append_assoc a q.front.0 q.front.1 ∙ ap (λ (x : List ℕ). a ++ x) q.front.2, adds_on s t u a q.front.0 p.keeps p.whole q.front.3);
      some = omega arith;
    }

-- an empty text needs no put
pub puts_none : {X : Type 0} (s : SinkState) (x : X) → PutsText s s [] (Ok x)
puts_none s x = all_put s s [] x (begun s [])

-- a text whose put failed, with another one that was to follow
pub puts_first : {X Y : Type 0} (s t : SinkState) (a b : List ℕ) (e : IoFault) → PutsText {T = X} s t a (Err e) → PutsText {T = Y} s t (a ++ b) (Err e)
puts_first s t a b e p =
    let size : length (a ++ b) ≡ length a + length b = length-append a b in
    let some : 0 < length a = p.some in
    record {
      keeps = p.keeps;
      cause = record { later = p.cause.later; rose = p.cause.rose; named = p.cause.named };
      whole = tt;
      front = (p.front.0, p.front.1 ++ b, sym (append_assoc p.front.0 p.front.1 b) ∙ ap (λ (x : List ℕ). x ++ b) p.front.2, p.front.3);
      some = omega arith;
    }
