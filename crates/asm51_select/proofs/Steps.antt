-- What straight-line code comes to, one instruction after the other.
use Rattle.std.proofs.Common.{◌≡◌, ℕ, List, [], ◌∷◌, ◌++◌, Some, refl, sym, ap, ap₂, ◌∙◌, append_assoc}
use Rattle.cerco_base.specs.declared.events.Event.{Event}
use Rattle.mcs51_isa.specs.declared.instr.Instr.{Instr}
use Rattle.sim51.specs.State.{Core}
use Rattle.sim51.specs.Effect.{Effect, effect, goes_to}
use Rattle.sim51.specs.Runs.{read_events, write_events}
use Rattle.sim51.specs.Straight.{core_after, port_events}
use Rattle.asm51.specs.declared.items.AsmItem.TheVariants.{Plain}
use Rattle.asm51.specs.Meaning.{item_touches}
use Rattle.asm51.specs.StraightCode.{touched_by}

-- From c these instructions lead to d, make these port events, and touch these bytes of external RAM.
pub record Leads (is : List Instr) (c d : Core) (es : List Event) (ts : List ℕ) : Type 0 where
  pub core : core_after is c ≡ d
  pub events : port_events is c ≡ es
  pub touched : touched_by is c ≡ ts

-- An instruction that makes no event and touches no external RAM.
pub record IsQuiet (i : Instr) (c d : Core) : Type 0 where
  pub effect_is : effect [] i 0 c ≡ goes_to 0 d
  pub touches : item_touches (Some (Plain i)) c ≡ []

pub led : (c : Core) → Leads [] c c [] []
led c = record { core = refl; events = refl; touched = refl }

pub quiet : (i : Instr) (is : List Instr) (c c' d : Core) (es : List Event) (ts : List ℕ) → IsQuiet i c c' → Leads is c' d es ts → Leads (i ∷ is) c d es ts
quiet i is c c' d es ts q rest = record {
  core = ap (λ (e : Effect). core_after is e.core) q.effect_is ∙ rest.core;
  events = ap (λ (e : Effect). (read_events e.read ++ write_events e.write) ++ port_events is e.core) q.effect_is ∙ rest.events;
  touched = ap₂ (λ (xs : List ℕ) (e : Effect). xs ++ touched_by is e.core) q.touches q.effect_is ∙ rest.touched;
}

-- any instruction
pub onward : (i : Instr) (is : List Instr) (c d : Core) (es : List Event) (ts : List ℕ) → Leads is (effect [] i 0 c).core d es ts → Leads (i ∷ is) c d ((read_events (effect [] i 0 c).read ++ write_events (effect [] i 0 c).write) ++ es) (item_touches (Some (Plain i)) c ++ ts)
onward i is c d es ts rest = record {
  core = rest.core;
  events = ap (λ z. (read_events (effect [] i 0 c).read ++ write_events (effect [] i 0 c).write) ++ z) rest.events;
  touched = ap (λ z. item_touches (Some (Plain i)) c ++ z) rest.touched;
}

-- two pieces of code, one after the other
pub joined : (is js : List Instr) (c d e : Core) (es fs : List Event) (ts us : List ℕ) → Leads is c d es ts → Leads js d e fs us → Leads (is ++ js) c e (es ++ fs) (ts ++ us)
joined [] js c d e es fs ts us a b = record {
  core = ap (core_after js) a.core ∙ b.core;
  events = ap (port_events js) a.core ∙ b.events ∙ ap (λ z. z ++ fs) a.events;
  touched = ap (touched_by js) a.core ∙ b.touched ∙ ap (λ z. z ++ us) a.touched;
}
joined (i ∷ is) js c d e es fs ts us a b =
    let c' = (effect [] i 0 c).core in
    let now = read_events (effect [] i 0 c).read ++ write_events (effect [] i 0 c).write in
    let touch = item_touches (Some (Plain i)) c in
    let rest = joined is js c' d e (port_events is c') fs (touched_by is c') us (record { core = a.core; events = refl; touched = refl }) b in
    record {
      core = rest.core;
      events = ap (λ z. now ++ z) rest.events ∙ sym (append_assoc now (port_events is c') fs) ∙ ap (λ z. z ++ fs) a.events;
      touched = ap (λ z. touch ++ z) rest.touched ∙ sym (append_assoc touch (touched_by is c') us) ∙ ap (λ z. z ++ us) a.touched;
    }
