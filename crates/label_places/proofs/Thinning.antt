-- What is left of places that stand one behind the other, where some are left out, still does.
use Rattle.std.proofs.Common.{ℕ, ◌≤◌, List, [], ◌∷◌, ◌++◌, arith}
use Rattle.clight_source.specs.declared.span.Span.{Span}
use Rattle.clight_syntax.specs.TypedSpans.{AreAscending}

-- the fewer places stand one behind the other wherever all of them do
abbrev pub IsThinned : List Span → List Span → Type 0
IsThinned few all = (from to : ℕ) → AreAscending from all to → AreAscending from few to

earlier : (from later to : ℕ) (spans : List Span) → from ≤ later → AreAscending later spans to → AreAscending from spans to
earlier from later to [] h a = omega arith
earlier from later to (span ∷ spans) h a = (let first = a.0 in omega arith, a.1, a.2)

pub front_left_out : (front few all : List Span) → IsThinned few all → IsThinned few (front ++ all)
front_left_out [] few all h from to a = h from to a
front_left_out (span ∷ front) few all h from to a =
    let size = a.1 in let first = a.0 in
    earlier from span.to to few (omega arith) (front_left_out front few all h span.to to a.2)

pub kept_first : (span : Span) (few all : List Span) → IsThinned few all → IsThinned (span ∷ few) (span ∷ all)
kept_first span few all h from to a = (a.0, a.1, h span.to to a.2)

-- two lists of places, one behind the other, and where the first ends
record AreSplit (from : ℕ) (xs ys : List Span) (to : ℕ) : Type 0 where
  seam : ℕ
  front : AreAscending from xs seam
  behind : AreAscending seam ys to

split : (from to : ℕ) (xs ys : List Span) → AreAscending from (xs ++ ys) to → AreSplit from xs ys to
split from to [] ys h = record { seam = from; front = omega arith; behind = h }
split from to (span ∷ xs) ys h =
    let rest = split span.to to xs ys h.2 in
    record { seam = rest.seam; front = (h.0, h.1, rest.front); behind = rest.behind }

join : (from seam to : ℕ) (xs ys : List Span) → AreAscending from xs seam → AreAscending seam ys to → AreAscending from (xs ++ ys) to
join from seam to [] ys a b = earlier from seam to ys a b
join from seam to (span ∷ xs) ys a b = (a.0, a.1, join span.to seam to xs ys a.2 b)

pub thinned_both : (few all less more : List Span) → IsThinned few all → IsThinned less more → IsThinned (few ++ less) (all ++ more)
thinned_both few all less more h k from to a =
    let s = split from to all more a in
    join from s.seam to few less (h from s.seam s.front) (k s.seam to s.behind)
