-- The steps of a round and of the relaxation, over plain variables.
use Rattle.std.proofs.Common.{◌≡◌, ℕ, suc, ◌+◌, ◌-◌, ◌*◌, ◌<◌, ◌≤◌, List, Option, None, Bool, true, false, cond, refl, sym, ap, ap₂, ◌∙◌, arith, inl, inr, ◌⊎◌, length, slice_index, set}
use Rattle.std.proofs.lemmas.List.{get_or-set_same, get_or-set_other, ext_get_or, set-get_or}
use Rattle.std.proofs.lemmas.Bool.{cases_lt, cases_eq}
use Rattle.asm51.specs.declared.items.AsmItem.{AsmItem}
use Rattle.asm51.specs.declared.layouts.Form.{Form}
use Rattle.asm51.specs.Items.{is_jump, jump_count, target_of}
use Rattle.asm51.specs.Instructions.{item_size}
use Rattle.asm51.specs.Layouts.{address}
use Rattle.asm51.specs.Relaxation.{grown, round, rounds, IsRelaxed}
use Rattle.asm51.specs.JumpLayouts.{targets_of}
use Rattle.asm51.proofs.Addresses.{item_at, form_at}
use Rattle.asm51.proofs.Readings.{round_read, target_read, target_le}
use Rattle.asm51.proofs.Rounds.{score, score_le, round_score, round_length}
use Rattle.jump_expand.specs.declared.addresses.Addresses.{Addresses}
use Rattle.jump_expand.specs.Code.Blocks.{address_in, AreAddresses}
use Rattle.jump_expand.specs.Code.Rounds.{AreJumps, IsPartly}
use Rattle.jump_expand.proofs.Forms.{round_size, round_keeps}

pub target_at : (items : List AsmItem) (targets : List ℕ) (k : ℕ) → targets ≡ targets_of items → k < length items → slice_index targets k ≡ target_of items (item_at items k)
target_at items targets k e h = ap (λ l. slice_index l k) e ∙ target_read items k h

pub judge_is : (a : Addresses) (items : List AsmItem) (forms : List (Option Form)) (targets : List ℕ) (k next target : ℕ) → AreAddresses a items forms → targets ≡ targets_of items
    → length forms ≡ length items → k < length items → next ≡ address_in a k → target ≡ address_in a (slice_index targets k)
    → grown (next + 2) target (item_at items k) (form_at forms k) ≡ form_at (round items forms) k
judge_is a items forms targets k next target h t same lt n m =
    let item = item_at items k in
    let e : next ≡ address items forms k = n ∙ h.at k (omega arith) in
    let f : target ≡ address items forms (target_of items item) = m ∙ ap (address_in a) (target_at items targets k t lt) ∙ h.at (target_of items item) (target_le items item) in
    ap₂ (λ p q. grown (p + 2) q item (form_at forms k)) e f ∙ sym (round_read items forms k same lt)

pub size_grows : (items : List AsmItem) (old new : List (Option Form)) (k : ℕ) (form : Option Form) → length old ≡ length items → k < length items
    → (form_at new k ≡ form_at old k) ⊎ (form_at new k ≡ form_at (round items old) k) → form ≡ form_at (round items old) k
    → item_size (item_at items k) (form_at new k) ≤ item_size (item_at items k) form
size_grows items old new k form same lt (inl e) f = omega (arith, round_size items old k same lt, ap (item_size (item_at items k)) e, ap (item_size (item_at items k)) f)
size_grows items old new k form same lt (inr e) f = omega (arith, ap (item_size (item_at items k)) e, ap (item_size (item_at items k)) f)

pub start_partly : (items : List AsmItem) (ns : List ℕ) (old round : List (Option Form)) → IsPartly items ns old old round 0 false
start_partly items ns old round = record { each = λ k h. inl refl; done = λ i h. absurd (omega arith); same = λ e. refl; other = λ e. cc }

module _ (items : List AsmItem) (ns : List ℕ) (old new : List (Option Form)) (i k : ℕ) (form : Option Form) (in_range : k < length new) (at : slice_index ns i ≡ k) (is_new : form ≡ form_at (round items old) k) where
  at_set : (q : ℕ) → (form_at (set new k form) q ≡ form_at (round items old) q) ⊎ (form_at (set new k form) q ≡ form_at new q)
  at_set q =
      elim (cases_eq q k) [
        | inl e ↦ inl (ap (form_at (set new k form)) e ∙ get_or-set_same new k form None in_range ∙ is_new ∙ ap (form_at (round items old)) (sym e))
        | inr ne ↦ inr (get_or-set_other new k q form None ne)
      ]

  each_more : (q : ℕ) → (form_at new q ≡ form_at old q) ⊎ (form_at new q ≡ form_at (round items old) q) → (form_at (set new k form) q ≡ form_at old q) ⊎ (form_at (set new k form) q ≡ form_at (round items old) q)
  each_more q h =
      elim (at_set q) [
        | inl e ↦ inr e
        | inr e ↦ elim h [ inl f ↦ inl (e ∙ f) | inr f ↦ inr (e ∙ f) ]
      ]

  done_more : (m : ℕ) → (m < i → form_at new (slice_index ns m) ≡ form_at (round items old) (slice_index ns m)) → m < i + 1 → form_at (set new k form) (slice_index ns m) ≡ form_at (round items old) (slice_index ns m)
  done_more m h lt =
      elim (at_set (slice_index ns m)) [
        | inl e ↦ e
        | inr e ↦
            elim (cases_lt m i) [
              | inl less ↦ e ∙ h less
              | inr nless ↦
                  let m_is : m ≡ i = omega arith in
                  let q : slice_index ns m ≡ k = ap (slice_index ns) m_is ∙ at in
                  ap (form_at (set new k form)) q ∙ get_or-set_same new k form None in_range ∙ is_new ∙ ap (form_at (round items old)) (sym q)
            ]
      ]

  pub partly_grew : (changed : Bool) → IsPartly items ns old new (round items old) i changed → k < length items → (form_at new k ≡ form → ⊥) → IsPartly items ns old (set new k form) (round items old) (i + 1) true
  partly_grew changed p lt other =
      record {
        each = λ q h. each_more q (p.each q h);
        done = λ m h. done_more m (p.done m) h;
        same = λ e. cc;
        other = λ e. (
          k,
          lt,
          elim (p.each k lt) [
            | inl f ↦ λ g. other (f ∙ g ∙ sym is_new)
            | inr f ↦ λ g. other (f ∙ sym is_new)
          ],
        );
      }

  pub partly_stayed : (changed : Bool) → IsPartly items ns old new (round items old) i changed → form_at new k ≡ form → IsPartly items ns old (set new k form) (round items old) (i + 1) changed
  partly_stayed changed p same =
      record {
        each = λ q h. each_more q (p.each q h);
        done = λ m h. done_more m (p.done m) h;
        same = λ e. ap (set new k) (sym same) ∙ set-get_or new k None ∙ p.same e;
        other = p.other;
      }

-- all jumps have taken their forms
pub partly_all : (items : List AsmItem) (ns : List ℕ) (old new : List (Option Form)) (i : ℕ) (changed : Bool) → IsPartly items ns old new (round items old) i changed → AreJumps items ns
    → length old ≡ length items → length new ≡ length items → length ns ≤ i → new ≡ round items old
partly_all items ns old new i changed p js was len all =
    ext_get_or None new (round items old) (len ∙ sym (round_length items old)) (λ k h. one k (omega arith) (is_jump (item_at items k)) refl)
  where
    one : (k : ℕ) → k < length items → (b : Bool) → is_jump (item_at items k) ≡ b → form_at new k ≡ form_at (round items old) k
    one k lt true e =
        let j = js.all k lt e in
        let d : form_at new (slice_index ns j.0) ≡ form_at (round items old) (slice_index ns j.0) = p.done j.0 (omega (arith, j.1)) in
        ap (form_at new) (sym j.2) ∙ d ∙ ap (form_at (round items old)) j.2
    one k lt false e =
        elim (p.each k lt) [
          | inl f ↦ f ∙ sym (round_keeps items old k was lt e)
          | inr f ↦ f
        ]

pub partly_other : (items : List AsmItem) (ns : List ℕ) (old new : List (Option Form)) (i : ℕ) (changed : Bool) → IsPartly items ns old new (round items old) i changed
    → new ≡ round items old → changed ≡ true → new ≡ old → ⊥
partly_other items ns old new i changed p all e same =
    let o = p.other e in
    o.2 (ap (λ l. form_at l o.0) (sym same ∙ all))

pub relaxed : (items : List AsmItem) (forms : List (Option Form)) (n : ℕ) → forms ≡ rounds items n → n ≤ score items forms → round items forms ≡ forms → IsRelaxed items forms
relaxed items forms n made few stays = record { count = n; few = omega (arith, few, score_le items forms); made = made; stays = stays }

-- a round that changes a form raises the score
pub round_grows : (items : List AsmItem) (old new : List (Option Form)) → length old ≡ length items → new ≡ round items old → (new ≡ old → ⊥) → score items old < score items new
round_grows items old new same r other =
    elim (round_score items old same) [
      | inl e ↦ absurd (other (r ∙ e))
      | inr more ↦ omega (arith, more, ap (score items) r)
    ]

pub next_made : (items : List AsmItem) (old new : List (Option Form)) (n : ℕ) (changed : Bool) → length old ≡ length items → old ≡ rounds items n → n ≤ score items old → new ≡ round items old
    → (changed ≡ false → new ≡ old) → (changed ≡ true → new ≡ old → ⊥) → (m : ℕ) × (new ≡ rounds items m) × (m ≤ score items new)
next_made items old new n true len made few r same other = (suc n, r ∙ ap (round items) made, omega (arith, few, round_grows items old new len r (other refl)))
next_made items old new n false len made few r same other = (n, same refl ∙ made, omega (arith, few, ap (score items) (same refl)))

pub next_stays : (items : List AsmItem) (old new : List (Option Form)) (changed : Bool) → new ≡ round items old → (changed ≡ false → new ≡ old) → changed ≡ false → round items new ≡ new
next_stays items old new changed r same e = ap (round items) (same e) ∙ sym r

pub fewer_left : (items : List AsmItem) (old new : List (Option Form)) (was changed : Bool) → was ≡ true → length old ≡ length items → new ≡ round items old
    → (changed ≡ false → new ≡ old) → (changed ≡ true → new ≡ old → ⊥)
    → 2 * jump_count items - score items new + cond changed 1 0 < 2 * jump_count items - score items old + cond was 1 0
fewer_left items old new false changed w len r same other = cc
fewer_left items old new true true w len r same other = omega (arith, round_grows items old new len r (other refl), score_le items new)
fewer_left items old new true false w len r same other = omega (arith, ap (score items) (same refl))
