-- Each step of the program is followed by the machine.
use Rattle.std.proofs.Common.{◌≡◌, ℕ, suc, ◌+◌, ◌%◌, ◌≤◌, List, [], ◌∷◌, Option, Some, None, cond, refl, sym, ap, subst, arith, length, slice_get}
use Rattle.std.proofs.lemmas.Bool.{eq-eqb}
use Rattle.cerco_traces.specs.Systems.{IsWithin}
use Rattle.mcs51_isa.specs.declared.instr.Instr.{Instr}
use Rattle.mcs51_isa.specs.declared.instr.Instr.TheVariants.{Sjmp, Ret}
use Rattle.mcs51_isa.specs.declared.instr.ReturnKind.{ReturnKind}
use Rattle.mcs51_isa.specs.declared.instr.FlagTest.TheVariants.{Jnz}
use Rattle.sim51.specs.Effect.{flag_holds}
use Rattle.sim51.specs.Runs.{Running}
use Rattle.sim51.specs.Straight.{IsStraight}
use Rattle.sim51.specs.StackApart.{SparesStack}
use Rattle.asm51.specs.declared.items.AsmItem.{AsmItem}
use Rattle.asm51.specs.declared.items.AsmItem.TheVariants.{Plain, Mark, Enter, Here, Jump, Test, Call}
use Rattle.asm51.specs.declared.layouts.Form.{Form}
use Rattle.asm51.specs.Items.{target_of}
use Rattle.asm51.specs.Places.{HasTargets}
use Rattle.asm51.specs.Selected.{AreSelected}
use Rattle.asm51.specs.Meaning.{AsmState, executed, plain_step, item_step, returned, step_by, assembly}
use Rattle.asm51.proofs.Addresses.{form_at}
use Rattle.asm51.proofs.Found.{targets_are_found}
use Rattle.asm51.proofs.StraightCode.{straight_executes}
use Rattle.objects51.specs.Stands.{IsPlace, ArePlaces, IsFollowed}
use Rattle.objects51.proofs.Selections.{Selected, is_straight, is_return, is_end, selected_at}
use Rattle.objects51.proofs.Objects.{IsObject}
use Rattle.objects51.proofs.Labels.{mark_at, none_at, label_here, outside, not_itself}
use Rattle.objects51.proofs.Places.{place_after, place_at, place_after_mark, place_by_flag}
use Rattle.objects51.proofs.Courses.{rests, Course, goes_on, comes_back}
use Rattle.objects51.proofs.Follows.{word, Comes, ComesByStep, nothing_follows, straight_follows, jump_follows, test_follows, call_follows, return_follows, mark_follows}

module _ (items : List AsmItem) (forms : List (Option Form)) (code labels : List ℕ) (at : ℕ → ℕ) (sel : AreSelected items) (obj : IsObject items forms code labels at) where
  -- The machine follows to a state of the program, from one with these open calls.
  abbrev pub Follows : List ℕ → AsmState → Running → Type 0
  Follows returns x y = (z : Running) × Course code labels (word at) returns y z × IsFollowed items (word at) x z

  targets : HasTargets items
  targets = targets_are_found items sel.well_formed

  followed : (returns : List ℕ) (x : AsmState) (y : Running) → IsPlace items x.at → ArePlaces items x.returns → Comes code labels at x y → Follows returns x y
  followed returns x y place places come = (come.0, goes_on y come.0 come.1, record { place = place; places = places; matches = come.2 })

  stays : (x : AsmState) (y : Running) → IsFollowed items (word at) x y → Follows x.returns x y
  stays x y r = (y, goes_on y y (rests y), r)

  straight_step : (x : AsmState) (y : Running) (i : Instr) → IsFollowed items (word at) x y → slice_get items x.at ≡ Some (Plain i) → IsStraight i → SparesStack i → Follows x.returns (plain_step i x) y
  straight_step x y i r e straight spares =
      let laid = obj.laid x.at (Plain i) e in
      let free = none_at items forms code labels at sel obj x.at (Plain i) r.place.free e in
      let next = straight_follows code labels at x y i straight spares laid.stands.0 free.0 (omega (arith, laid.next)) laid.stands.1 r.matches in
      subst (λ (s : AsmState). Follows x.returns s y) (sym (straight_executes i x straight))
      (followed x.returns (executed i x) y (place_after items sel x.at (Plain i) e refl) r.places next)

  came_back : (x : AsmState) (y : Running) (k : ℕ) (ks : List ℕ) → x.returns ≡ k ∷ ks → IsPlace items k → ArePlaces items ks → ComesByStep code labels at (record x { at = k; returns = ks }) y → Follows x.returns (record x { at = k; returns = ks }) y
  came_back x y k ks some place places come =
      (come.0, comes_back y come.0 k ks some come.1 come.2.place, record { place = place; places = places; matches = come.2 })

  return_step : (x : AsmState) (y : Running) (kind : ReturnKind) → IsFollowed items (word at) x y → slice_get items x.at ≡ Some (Plain (Ret kind)) → (ks : List ℕ) → x.returns ≡ ks → Follows x.returns (returned ks x) y
  return_step x y kind r e [] none = stays x y r
  return_step x y kind r e (k ∷ ks) some =
      let laid = obj.laid x.at (Plain (Ret kind)) e in
      let free = none_at items forms code labels at sel obj x.at (Plain (Ret kind)) r.place.free e in
      let places : ArePlaces items (k ∷ ks) = subst (ArePlaces items) some r.places in
      came_back x y k ks some places.0 places.1 (return_follows code labels at x y kind k ks some laid.stands.0 free.0 laid.stands.1 r.matches)

  end_step : (x : AsmState) (y : Running) (offset : ℕ) → IsFollowed items (word at) x y → offset ≡ 0xFE → Follows x.returns (plain_step (Sjmp offset) x) y
  end_step x y offset r e =
      let same : x ≡ plain_step (Sjmp offset) x = sym (ap (λ b. cond b x (executed (Sjmp offset) x)) (eq-eqb offset 0xFE e)) in
      subst (λ (s : AsmState). Follows x.returns s y) same (stays x y r)

  plain_follows : (x : AsmState) (y : Running) (i : Instr) → IsFollowed items (word at) x y → slice_get items x.at ≡ Some (Plain i) → Selected i → Follows x.returns (plain_step i x) y
  plain_follows x y i r e (is_straight i' straight spares) = straight_step x y i r e straight spares
  plain_follows x y i r e (is_return kind) = return_step x y kind r e x.returns refl
  plain_follows x y i r e (is_end offset same) = end_step x y offset r same

  -- what an item does, where at most 64 calls are open after it
  item_follows : (x : AsmState) (y : Running) (item : AsmItem) → IsFollowed items (word at) x y → slice_get items x.at ≡ Some item → length (item_step (target_of items) item x).returns ≤ 64 → Follows x.returns (item_step (target_of items) item x) y
  item_follows x y (Plain i) r e few = plain_follows x y i r e (selected_at items x.at i sel r.place.later e)
  item_follows x y (Mark l) r e few =
      let m = mark_at items forms code labels at sel obj x.at l e in
      followed x.returns (item_step (target_of items) (Mark l) x) y (place_after_mark items sel x.at l e) r.places
      (mark_follows code labels at x y l m.same m.next m.fits m.nop (label_here items forms code labels at sel obj x.at l e) r.matches)
  item_follows x y (Enter f) r e few =
      followed x.returns (record x { at = suc x.at }) y (place_after items sel x.at (Enter f) e refl) r.places (nothing_follows code labels at x y (obj.laid x.at (Enter f) e).next r.matches)
  item_follows x y (Here f n) r e few =
      followed x.returns (record x { at = suc x.at }) y (place_after items sel x.at (Here f n) e refl) r.places (nothing_follows code labels at x y (obj.laid x.at (Here f n) e).next r.matches)
  item_follows x y (Jump f n) r e few =
      let t = target_of items (Jump f n) in
      followed x.returns (record x { at = t }) y (place_at items sel t (Here f n) (targets.jumps x.at f n e) refl) r.places
      (jump_follows code labels at x y f n t (form_at forms x.at) (obj.laid x.at (Jump f n) e) (none_at items forms code labels at sel obj x.at (Jump f n) r.place.free e)
      (λ g h. obj.reach x.at (Jump f n) g e h) (obj.fits t) (not_itself items forms code labels at sel obj x.at f n r.place.later e) r.matches)
  item_follows x y (Test f n) r e few =
      let t = target_of items (Test f n) in
      let inside : at (suc x.at) ≡ at x.at + 7 → at t % 65536 ≡ at x.at + 4 → ⊥ =
      λ next q. outside items forms code labels at sel obj x.at t (at x.at + 4) (omega arith) (omega (arith, next)) (omega (arith, q, next, obj.fits t, obj.fits (suc x.at))) in
      followed x.returns (item_step (target_of items) (Test f n) x) y
      (place_by_flag items sel (flag_holds Jnz x.core) t (suc x.at) (place_at items sel t (Here f n) (targets.tests x.at f n e) refl) (place_after items sel x.at (Test f n) e refl)) r.places
      (test_follows code labels at x y f n t (form_at forms x.at) (obj.laid x.at (Test f n) e) (none_at items forms code labels at sel obj x.at (Test f n) r.place.free e)
      (λ g h. obj.reach x.at (Test f n) g e h) (obj.fits t) inside r.matches)
  item_follows x y (Call f) r e few =
      let t = target_of items (Call f) in
      let laid = obj.laid x.at (Call f) e in
      let free = none_at items forms code labels at sel obj x.at (Call f) r.place.free e in
      followed x.returns (record x { at = t; returns = suc x.at ∷ x.returns }) y (place_at items sel t (Enter f) (targets.calls x.at f e) refl) (place_after items sel x.at (Call f) e refl, r.places)
      (call_follows code labels at x y t laid.stands.0 free.0 (omega (arith, laid.next)) laid.stands.1 (omega (arith, few)) r.matches)

  step_on : (x : AsmState) (y : Running) (o : Option AsmItem) → IsFollowed items (word at) x y → slice_get items x.at ≡ o → length (step_by (target_of items) o x).returns ≤ 64 → Follows x.returns (step_by (target_of items) o x) y
  step_on x y None r e few = stays x y r
  step_on x y (Some item) r e few = item_follows x y item r e few

  -- a step within bounds
  pub step_follows : (d : ℕ) (x : AsmState) (y : Running) → IsFollowed items (word at) x y → IsWithin (assembly items) d x → Follows x.returns ((assembly items).step x) y
  step_follows d x y r within = step_on x y (slice_get items x.at) r refl within.calls
