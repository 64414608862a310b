-- The machine reads just what a program spells, and what it refuses first is the first fault.
use Rattle.std.proofs.Common.{◌≡◌, ℕ, suc, ◌≤◌, ◌<◌, Bool, true, false, List, [], ◌∷◌, ◌++◌, length, take, drop, refl, sym, ap, subst, ◌∙◌, append_assoc, append-nil, inl, inr}
use Rattle.std.specs.Prelude.{Some, None}
use Rattle.std.proofs.lemmas.Bool.{cases_lt}
use Rattle.std.proofs.lemmas.List.{take-append-drop}
use Rattle.std.proofs.lemmas.List.Elements.{All-head, All-tail, All-nil}
use Rattle.clight_source.specs.declared.symbol.Terminal.{Terminal}
use Rattle.clight_source.specs.Trees.{Item}
use Rattle.clight_source.specs.Spelling.{item_terminals, items_terminals, IsItem, AreItems, Spells, Begins}
use Rattle.clight_grammar.specs.Code.Forms.{Mode, ItemStart, Finished, Refused}
use Rattle.clight_grammar.specs.Code.Machine.{next, State, state, gather, step, run, start, ends_in, ends, refused}
use Rattle.clight_grammar.specs.Faults.{FaultAt}
use Rattle.clight_grammar.proofs.ReadExpressions.{read}
use Rattle.clight_grammar.proofs.ReadItems.{read_item}
use Rattle.clight_grammar.proofs.OpenForms.{spelled, HasRead, IsGood}
use Rattle.clight_grammar.proofs.GrammarExpressions.{All-push}
use Rattle.clight_grammar.proofs.KeepsGrammar.{next_good}
use Rattle.clight_grammar.proofs.SpellingExpressions.{flat_map-push}
use Rattle.clight_grammar.proofs.KeepsSpelling.{next_read}
use Rattle.clight_grammar.proofs.Continues.{fill}

-- ---- complete

read_refused : (l : List Terminal) → read Refused l ≡ Refused
read_refused [] = refl
read_refused (t ∷ l) = read_refused l

-- what is read as an item joins the items
whole : (l : List Terminal) (m : Mode) (items : List Item) (x : Item) (r : List Terminal) → read m l ≡ Finished x
    → run (gather items m) (l ++ r) ≡ run (state (items ++ x ∷ []) ItemStart) r
whole [] m items x r h = ap (λ z. run (gather items z) r) h
whole (t ∷ l) (Finished y) items x r h = let e = sym (read_refused l) ∙ h in cc
whole (t ∷ l) Refused items x r h = let e = sym (read_refused l) ∙ h in cc
whole (t ∷ l) m items x r h = whole l (next m t.symbol t.span) items x r h

read_items : (rest done : List Item) (r : List Terminal) → AreItems rest
    → run (state done ItemStart) (items_terminals rest ++ r) ≡ run (state (done ++ rest) ItemStart) r
read_items [] done r w = ap (λ l. run (state l ItemStart) r) (sym (append-nil done))
read_items (x ∷ rest) done r w =
    ap (run (state done ItemStart)) (append_assoc (item_terminals x) (items_terminals rest) r)
    ∙ (whole (item_terminals x) ItemStart done x (items_terminals rest ++ r) (read_item x (All-head IsItem x rest w))
    ∙ (read_items rest (done ++ x ∷ []) r (All-tail IsItem x rest w)
    ∙ ap (λ l. run (state l ItemStart) r) (append_assoc done (x ∷ []) rest)))

-- what items spell is read as these items
pub complete : (items : List Item) → AreItems items → run start (items_terminals items) ≡ state items ItemStart
complete items w = ap (run start) (sym (append-nil (items_terminals items))) ∙ read_items items [] [] w

-- ---- sound

abbrev GoodState : State → Type 0
GoodState x = AreItems x.items × IsGood x.mode

gather_good : (items : List Item) (m : Mode) → AreItems items → IsGood m → GoodState (gather items m)
gather_good items (Finished x) w g = (All-push IsItem items x w g, tt)
gather_good items m w g = (w, g)

run_good : (l : List Terminal) (x : State) → GoodState x → GoodState (run x l)
run_good [] x g = g
run_good (t ∷ l) x g = run_good l (step x t) (gather_good x.items (next x.mode t.symbol t.span) g.0 (next_good x.mode t.symbol t.span g.1))

-- the state has read the terminals, where it is no fault
abbrev StateRead : State → List Terminal → Type 0
StateRead x l = refused x.mode ≡ false → items_terminals x.items ++ spelled x.mode ≡ l

is_read : (m : Mode) (l : List Terminal) → HasRead m l → refused m ≡ false → spelled m ≡ l
is_read Refused l h g = cc
is_read m l h g = h

gather_read : (items : List Item) (m : Mode) (l : List Terminal) → (refused m ≡ false → items_terminals items ++ spelled m ≡ l) → StateRead (gather items m) l
gather_read items (Finished x) l h g = append-nil (items_terminals (items ++ x ∷ [])) ∙ (flat_map-push item_terminals items x ∙ h refl)
gather_read items m l h g = h g

refused_next : (m : Mode) (t : Terminal) → refused m ≡ true → refused (next m t.symbol t.span) ≡ true
refused_next Refused t h = refl
refused_next m t h = cc

step_read : (b : Bool) (x : State) (l : List Terminal) (t : Terminal) → refused x.mode ≡ b → StateRead x l → StateRead (step x t) (l ++ t ∷ [])
step_read true x l t e h = gather_read x.items (next x.mode t.symbol t.span) (l ++ t ∷ []) (λ g. let f = refused_next x.mode t e in cc)
step_read false x l t e h =
    gather_read x.items (next x.mode t.symbol t.span) (l ++ t ∷ [])
    (λ g. ap (λ z. items_terminals x.items ++ z) (is_read (next x.mode t.symbol t.span) _ (next_read x.mode t.symbol t.span) g)
    ∙ (sym (append_assoc (items_terminals x.items) (spelled x.mode) (t ∷ [])) ∙ ap (λ z. z ++ t ∷ []) (h e)))

run_read : (l : List Terminal) (x : State) (m : List Terminal) → StateRead x m → StateRead (run x l) (m ++ l)
run_read [] x m h = λ g. h g ∙ sym (append-nil m)
run_read (t ∷ l) x m h = λ g. run_read l (step x t) (m ++ t ∷ []) (step_read (refused x.mode) x m t refl h) g ∙ append_assoc m (t ∷ []) l

sound_end : (items : List Item) (m : Mode) (l : List Terminal) (p : List Item) → AreItems items → StateRead (state items m) l → ends_in items m ≡ Some p → Spells p l
sound_end items ItemStart l p g h e = let q : items ≡ p = cc in subst (λ z. Spells z l) q (g, sym (append-nil (items_terminals items)) ∙ h refl)
sound_end items m l p g h e = cc

-- items that the machine reads are spelled
pub sound : (l : List Terminal) (items : List Item) → ends (run start l) ≡ Some items → Spells items l
sound l items e =
    let x = run start l in
    sound_end x.items x.mode l items (run_good l start (All-nil IsItem, tt)).0 (run_read l start [] (λ g. refl)) e

-- items that are spelled are what the machine reads
pub again : (l : List Terminal) (items : List Item) → Spells items l → ends (run start l) ≡ Some items
again l items w = ap (λ z. ends (run start z)) (sym w.1) ∙ ap (ends) (complete items w.0)

-- a list of terminals spells at most one list of items
pub one_program : (l : List Terminal) (items others : List Item) → Spells items l → Spells others l → items ≡ others
one_program l items others a b = let e = again l items a in let f = again l others b in cc

-- ---- faults

pub run_append : (l m : List Terminal) (x : State) → run x (l ++ m) ≡ run (run x l) m
run_append [] m x = refl
run_append (t ∷ l) m x = run_append l m (step x t)

gather_refused : (items : List Item) (m : Mode) → refused m ≡ true → refused (gather items m).mode ≡ true
gather_refused items (Finished x) h = cc
gather_refused items m h = h

run_refused : (l : List Terminal) (x : State) → refused x.mode ≡ true → refused (run x l).mode ≡ true
run_refused [] x h = h
run_refused (t ∷ l) x h = run_refused l (step x t) (gather_refused x.items (next x.mode t.symbol t.span) (refused_next x.mode t h))

-- no program begins with what leads to a fault
pub no_program : (l : List Terminal) → refused (run start l).mode ≡ true → Begins l → ⊥
no_program l h b =
    let c : refused (run start (items_terminals b.0)).mode ≡ false = ap (λ z. refused z.mode) (complete b.0 b.2.0) in
    let e : refused (run start (items_terminals b.0)).mode ≡ true =
    ap (λ z. refused (run start z).mode) b.2.1 ∙ (ap (λ z. refused z.mode) (run_append l b.1 start) ∙ run_refused b.1 (run start l) h) in
    cc

begins_after : (items : List Item) (l m r : List Terminal) (x : Item) → AreItems items → IsItem x → items_terminals items ++ m ≡ l → item_terminals x ≡ m ++ r → Begins l
begins_after items l m r x w v e f = (
  items ++ x ∷ [],
  r,
  (
    All-push IsItem items x w v,
    flat_map-push item_terminals items x ∙ (ap (λ z. items_terminals items ++ z) f ∙ (sym (append_assoc (items_terminals items) m r) ∙ ap (λ z. z ++ r) e)),
  ),
)

-- some program begins with what leads to no fault
pub some_program : (l : List Terminal) → refused (run start l).mode ≡ false → Begins l
some_program l h =
    let x = run start l in
    let g = run_good l start (All-nil IsItem, tt) in
    let b = fill x.mode h g.1 in
    begins_after x.items l (spelled x.mode) b.1 b.0 g.0 b.2 (run_read l start [] (λ g. refl) h) b.3

no_end : (l : List Terminal) (items : List Item) → Spells items l → ends (run start l) ≡ None → ⊥
no_end l items w e = let c = again l items w in cc

-- a terminal that leads to a fault is the first that does
pub fault_at : (l : List Terminal) (i : ℕ) → i ≤ length l
    → refused (run start (take i l)).mode ≡ false
    → (i < length l → refused (run start (take (suc i) l)).mode ≡ true)
    → (length l ≤ i → ends (run start l) ≡ None)
    → FaultAt l i
fault_at l i a f h e = record {
  inside = a;
  within = λ b. no_program (take (suc i) l) (h b);
  before = some_program (take i l) f;
  none = λ p w. elim (cases_lt i (length l)) [
    | inl b ↦ no_program (take (suc i) l) (h b) (p, drop (suc i) l, (w.0, w.1 ∙ sym (take-append-drop (suc i) l)))
    | inr b ↦ no_end l p w (e b)
  ];
}
