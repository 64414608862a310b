-- A text that is put by several calls, one for each of its pieces.
use Rattle.std.proofs.Common.{◌≡◌, ℕ, List, [], ◌++◌, Result, Ok, Err, subst, ◌∙◌, append_assoc, append-nil}
use Rattle.std.specs.Result.{IsErrAnd}
use Rattle.cerco_base.specs.Outside.IoStates.{SinkState}
use Rattle.cerco_base.specs.Outside.IoCalls.{PutsText}
use Rattle.cerco_base.specs.declared.outside.faults.IoFault.{IoFault}
use Rattle.cerco_base.proofs.Putting.{SoFar, begun, keeps_on, adds_on, puts_two, puts_first}

-- nothing is put yet of a text that is made of pieces
pub begun_as : (s : SinkState) (text pieces : List ℕ) → text ≡ pieces → SoFar s s text pieces
begun_as s text pieces e =
    let P : List ℕ → Type 0 = λ rest. SoFar s s text rest in
    subst P e (begun s text)

-- what was put of a text is a text that was put
front_put : (s t : SinkState) (text rest : List ℕ) (a : SoFar s t text rest) → PutsText {T = Unit {0}} s t a.front (Ok tt)
front_put s t text rest a =
    record {
      keeps = a.keeps;
      cause = record { later = a.keeps.later; rose = tt; named = tt };
      whole = a.added;
      front = (a.front, [], append-nil a.front, a.added);
      some = tt;
    }

-- the next piece of a text is put
pub piece_put : {X : Type 0} (s t u : SinkState) (text piece rest : List ℕ) (x : X) → SoFar s t text (piece ++ rest) → PutsText t u piece (Ok x) → SoFar s u text rest
piece_put s t u text piece rest x a p =
    record {
      keeps = keeps_on s t u a.keeps p.keeps;
      front = a.front ++ piece;
      whole = append_assoc a.front piece rest ∙ a.whole;
      added = adds_on s t u a.front piece a.keeps a.added p.whole;
    }

-- the last piece of a text is put, and its answer is the call's
pub last_put : {X : Type 0} (s t u : SinkState) (text piece : List ℕ) (r : Result X IoFault) → SoFar s t text piece → PutsText t u piece r → PutsText s u text r
last_put s t u text piece r a p =
    let P : List ℕ → Type 0 = λ whole. PutsText s u whole r in
    subst P a.whole (puts_two {X = Unit {0}} s t u a.front piece tt r (front_put s t text piece a) p)

-- the exit of a call at a piece whose put failed
pub piece_failed : {X Y : Type 0} (s t u : SinkState) (text piece rest : List ℕ) (e : IoFault) (r : Result Y IoFault) → SoFar s t text (piece ++ rest) → PutsText {T = X} t u piece (Err e) → IsErrAnd r (λ y. y ≡ e) → PutsText s u text r
piece_failed s t u text piece rest e (Ok x) a p h = absurd h
piece_failed s t u text piece rest e (Err y) a p h =
    rw h (last_put s t u text (piece ++ rest) (Err e) a (puts_first t u piece rest e p))
