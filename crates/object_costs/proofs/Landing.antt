-- Where returns land: the object follows the program step by step, and each return goes to an item after a call.
use Rattle.std.proofs.Common.{◌≡◌, ℕ, zero, suc, ◌%◌, List, [], ◌∷◌, Option, Some, None, Bool, true, false, cond, refl, sym, ap, ◌∙◌, subst, arith, slice_get}
use Rattle.cerco_traces.specs.Systems.{Run, here, onward}
use Rattle.cerco_traces.specs.Headline.{after}
use Rattle.mcs51_isa.specs.declared.instr.Instr.{Instr}
use Rattle.mcs51_isa.specs.declared.instr.Instr.TheVariants.{Sjmp, Ret}
use Rattle.mcs51_isa.specs.declared.instr.ReturnKind.{ReturnKind}
use Rattle.sim51.specs.Step.{instr_at}
use Rattle.sim51.specs.Runs.{Running, object}
use Rattle.asm51.specs.declared.items.AsmItem.{AsmItem}
use Rattle.asm51.specs.declared.items.AsmItem.TheVariants.{Plain, Mark, Enter, Here, Jump, Test, Call}
use Rattle.asm51.specs.declared.layouts.Form.{Form}
use Rattle.asm51.specs.Items.{target_of}
use Rattle.asm51.specs.Selected.{AreSelected}
use Rattle.asm51.specs.Meaning.{AsmState, executed, plain_step, returned, item_step, step_by, assembly}
use Rattle.objects51.specs.Stands.{IsFollowed}
use Rattle.objects51.proofs.Objects.{IsObject}
use Rattle.objects51.proofs.Courses.{Passes, rests, passes, Course, goes_on, comes_back}
use Rattle.objects51.proofs.Follows.{word}
use Rattle.objects51.proofs.Preserved.{first_step, next_step}
use Rattle.block_costs.specs.Ways.{is_closed}
use Rattle.block_costs.specs.Sound.{IsReturn}
use Rattle.block_costs.specs.Sums.{ReturnsLand}

return_kind : (i : Instr) → IsReturn (Some i) → (kind : ReturnKind) × (i ≡ Ret kind)
return_kind (Ret kind) h = (kind, refl)
return_kind _ h = absurd h

-- what is returned to is closed
abbrev pub AllClosed : List ℕ → List Bool → (ℕ → ℕ) → List ℕ → Type 0
AllClosed code marks at [] = Unit {0}
AllClosed code marks at (k ∷ ks) = (is_closed code marks (at k) ≡ true) × AllClosed code marks at ks

module _ (code labels : List ℕ) (marks : List Bool) where
  abbrev on : Running → Running
  on y = (object code labels).step y

  -- a part of a run in which each return lands
  data Lands : Running → Running → Type 0 where
    still : (y : Running) → Lands y y
    steps : (y z : Running) → (IsReturn (instr_at code y.state.pc) → is_closed code marks (on y).state.pc ≡ true) → Lands (on y) z → Lands y z

  lands_both : (y z w : Running) → Lands y z → Lands z w → Lands y w
  lands_both y z w (still y') more = more
  lands_both y z w (steps y' z' land first) more = steps y w land (lands_both (on y) z w first more)

  passes_land : (y z : Running) → Passes code labels y z → Lands y z
  passes_land y z (rests y') = still y
  passes_land y z (passes y' z' i there other more) =
      steps y z (λ back. (let kind = return_kind i (subst IsReturn there back) in absurd (other kind.0 kind.1))) (passes_land (on y) z more)

  course_lands : (at : ℕ → ℕ) (returns : List ℕ) (y z : Running) → AllClosed code marks at returns → Course code labels at returns y z → Lands y z
  course_lands at returns y z closed (goes_on y' z' p) = passes_land y z p
  course_lands at returns y z closed (comes_back y' z' k ks e step to) =
      let all : AllClosed code marks at (k ∷ ks) = subst (AllClosed code marks at) e closed in
      steps y z (λ back. ap (λ (r : Running). is_closed code marks r.state.pc) step ∙ ap (is_closed code marks) to ∙ all.0) (subst (λ (r : Running). Lands r z) (sym step) (still z))

  -- it is some number of steps
  pub record HasSteps (y z : Running) : Type 0 where
    pub count : ℕ
    pub end : after (object code labels) count y ≡ z
    pub lands : ReturnsLand code labels marks count y

  one_more : (k : ℕ) (y : Running) → (IsReturn (instr_at code y.state.pc) → is_closed code marks (on y).state.pc ≡ true) → ReturnsLand code labels marks k (on y) → ReturnsLand code labels marks (suc k) y
  one_more k y land more zero lt back = land back
  one_more k y land more (suc j) lt back = more j (omega arith) back

  has_steps : (y z : Running) → Lands y z → HasSteps y z
  has_steps y z (still y') = record { count = 0; end = refl; lands = λ j none back. absurd (omega arith) }
  has_steps y z (steps y' z' land more) =
      let m = has_steps (on y) z more in
      record { count = suc m.count; end = m.end; lands = one_more m.count y land m.lands }

module _ (items : List AsmItem) (forms : List (Option Form)) (code labels : List ℕ) (at : ℕ → ℕ) (d : ℕ) (sel : AreSelected items) (obj : IsObject items forms code labels at) (marks : List Bool)
    (calls_land : (k f : ℕ) → slice_get items k ≡ Some (Call f) → is_closed code marks (at (suc k) % 65536) ≡ true) where
  abbrev X_start : List ℕ → AsmState
  X_start script = (assembly items).start script

  abbrev Closed : List ℕ → Type 0
  Closed returns = AllClosed code marks (word at) returns

  returned_closed : (ks : List ℕ) (x : AsmState) → Closed ks → Closed x.returns → Closed (returned ks x).returns
  returned_closed [] x all whole = whole
  returned_closed (k ∷ ks) x all whole = all.1

  either_closed : (b : Bool) (i : Instr) (x : AsmState) → Closed x.returns → Closed (cond b x (executed i x)).returns
  either_closed true i x all = all
  either_closed false i x all = all

  plain_closed : (i : Instr) (x : AsmState) → Closed x.returns → Closed (plain_step i x).returns
  plain_closed (Ret kind) x all = returned_closed x.returns x all all
  plain_closed (Sjmp offset) x all = either_closed _ (Sjmp offset) x all
  plain_closed _ x all = all

  -- a step of the program keeps what is returned to closed
  item_closed : (x : AsmState) (item : AsmItem) → slice_get items x.at ≡ Some item → Closed x.returns → Closed (item_step (target_of items) item x).returns
  item_closed x (Plain i) e all = plain_closed i x all
  item_closed x (Mark l) e all = all
  item_closed x (Enter f) e all = all
  item_closed x (Here f n) e all = all
  item_closed x (Jump f n) e all = all
  item_closed x (Test f n) e all = all
  item_closed x (Call f) e all = (calls_land x.at f e, all)

  step_closed : (x : AsmState) → Closed x.returns → Closed ((assembly items).step x).returns
  step_closed x all = by_item (slice_get items x.at) refl
    where
      by_item : (o : Option AsmItem) → slice_get items x.at ≡ o → Closed (step_by (target_of items) o x).returns
      by_item None e = all
      by_item (Some item) e = item_closed x item e all

  -- The object follows, where all that is returned to is closed.
  pub record IsLanding (x : AsmState) (y : Running) : Type 0 where
    pub followed : IsFollowed items (word at) x y
    pub all : AllClosed code marks (word at) x.returns

  along : (x x' : AsmState) (y : Running) → Run (assembly items) d x x' → IsLanding x y → (z : Running) × Lands code labels marks y z × IsLanding x' z
  along x x' y (here s) r = (y, still y, r)
  along x x' y (onward s t within run) r =
      let f = next_step items forms code labels at d sel obj x y r.followed within in
      let more = along ((assembly items).step x) x' f.0 run (record { followed = f.2; all = step_closed x r.all }) in
      (more.0, lands_both code labels marks y f.0 more.0 (course_lands code labels marks (word at) x.returns y f.0 r.all f.1) more.1, more.2)

  -- From the start the program has made no step, or the object follows it.
  pub record Comes (script : List ℕ) (x : AsmState) : Type 0 where
    pub to : Running
    pub steps : HasSteps code labels marks ((object code labels).start script) to
    pub made : to.events ≡ x.made
    pub landing : (x ≡ X_start script → ⊥) → IsLanding x to

  from_by : (script : List ℕ) (s x : AsmState) → s ≡ X_start script → Run (assembly items) d s x → Comes script x
  from_by script s x e (here s') = record {
    to = (object code labels).start script;
    steps = has_steps code labels marks _ _ (still ((object code labels).start script));
    made = sym (ap (λ (x : AsmState). x.made) e);
    landing = λ other. absurd (other e);
  }
  from_by script s x e (onward s' t within run) =
      let f = first_step items forms code labels at d sel obj script in
      let closed : Closed s.returns = subst (λ (x : AsmState). Closed x.returns) (sym e) tt in
      let followed : IsFollowed items (word at) ((assembly items).step s) f.0 = subst (λ (x : AsmState). IsFollowed items (word at) ((assembly items).step x) f.0) (sym e) f.2 in
      let more = along ((assembly items).step s) x f.0 run (record { followed = followed; all = step_closed s closed }) in
      record {
        to = more.0;
        steps = has_steps code labels marks _ _ (lands_both code labels marks _ f.0 more.0 (course_lands code labels marks (word at) [] _ f.0 tt f.1) more.1);
        made = more.2.followed.matches.events;
        landing = λ other. more.2;
      }

  pub comes : (script : List ℕ) (x : AsmState) → Run (assembly items) d (X_start script) x → Comes script x
  comes script x run = from_by script (X_start script) x refl run
