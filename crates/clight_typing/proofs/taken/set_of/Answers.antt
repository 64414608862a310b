use Rattle.std.proofs.Common.{◌≡◌, ◌∙◌, ℕ, suc, ◌+◌, ◌≤◌, Bool, true, false, ◌||◌, List, [], ◌∷◌, length, cond, drop, nat_eq, get_or, ap, sym, arith, add-one, drop-cons, refl}
use Rattle.std.proofs.Math.Path.{fun_ext}
use Rattle.std.proofs.lemmas.List.{drop_all}
use Rattle.clight_typing.specs.Statements.{is_among}
use Rattle.indexmap.specs.IndexSet.{contains}
use Rattle.clight_typing.proofs.taken.set_of.Goals as goal

one_more : (b old new more all : Bool) → new ≡ cond b true old → (old || elim b [ true ↦ true | false ↦ more ]) ≡ all → (new || more) ≡ all
one_more true true new more all e h = ap (λ b. b || more) e ∙ h
one_more true false new more all e h = ap (λ b. b || more) e ∙ h
one_more false old new more all e h = ap (λ b. b || more) e ∙ h

or_none : (b : Bool) → (b || false) ≡ b
or_none true = refl
or_none false = refl

number_here : (xs : List ℕ) (i : ℕ) → suc i ≤ length xs → drop i xs ≡ get_or xs i 0 ∷ drop (i + 1) xs
number_here xs i within = rw (add-one, drop-cons xs i 0 within) refl

pub loop-x-preserved : goal.loop-x-preserved
loop-x-preserved c = λ n.
    let xs = c.args.xs.now in
    let i = c.loop-x.x-index in
    one_more (nat_eq (get_or xs i 0) n) (contains nat_eq c.loop-x.set n) (contains nat_eq c.insert.new.self n) (is_among (drop (i + 1) xs) n) (is_among xs n)
    (c.in_ok-insert.ensures.updates.0 n)
    (ap (λ r. contains nat_eq c.loop-x.set n || is_among r n) (sym (number_here xs i (omega arith))) ∙ c.loop-x.invariant n)

pub returns : goal.returns
returns c =
    let xs = c.args.xs.now in
    let set = c.loop-x.set in
    fun_ext (λ n. sym (or_none (contains nat_eq set n))
    ∙ (ap (λ r. contains nat_eq set n || is_among r n) (sym (drop_all c.loop-x.x-index xs (omega arith))) ∙ c.loop-x.invariant n))
