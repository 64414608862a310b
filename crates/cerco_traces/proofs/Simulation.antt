-- Runs join, trace preservation composes, and a forward simulation gives it.
use Rattle.std.proofs.Common.{◌≡◌, IsTrue, ℕ, ◌≤◌, List, [], ◌∷◌, ◌++◌, refl, sym, ap, ◌∙◌, subst, append_assoc, append-nil}
use Rattle.cerco_base.specs.declared.events.Event.{Event}
use Rattle.cerco_base.specs.Events.{label_count, IsPrefix, Stop, Stopped, Ended, IsScript}
use Rattle.cerco_traces.specs.Systems.{System, EachWithin, IsWithin, Run, here, onward, StopsAt, Arrives, Reaches}
use Rattle.cerco_traces.specs.Preservation.{PreservesFor, Preserves, Outcome, Stops, Faults, Source, Meets, PreservesSource}

pub joined : {S : Type 0} {X : System S} {d : ℕ} {s t u : S} → Run X d s t → Run X d t u → Run X d s u
joined (here s) v = v
joined (onward s t within w) v = onward s _ within (joined w v)

-- a run of one step
pub one_step : {S : Type 0} (X : System S) (d : ℕ) (s : S) → IsWithin X d s → Run X d s (X.step s)
one_step X d s within = onward s _ within (here (X.step s))

pub each_front : (d : ℕ) (xs ys : List ℕ) → EachWithin d (xs ++ ys) → EachWithin d xs
each_front d [] ys h = tt
each_front d (x ∷ xs) ys h = (h.0, h.1, each_front d xs ys h.2)

pub each_back : (d : ℕ) (xs ys : List ℕ) → EachWithin d (xs ++ ys) → EachWithin d ys
each_back d [] ys h = h
each_back d (x ∷ xs) ys h = each_back d xs ys h.2

pub each_both : (d : ℕ) (xs ys : List ℕ) → EachWithin d xs → EachWithin d ys → EachWithin d (xs ++ ys)
each_both d [] ys h k = k
each_both d (x ∷ xs) ys h k = (h.0, h.1, each_both d xs ys h.2 k)

pub prefix_refl : (es : List Event) → IsPrefix es es
prefix_refl es = record { rest = []; whole = sym (append-nil es) }

pub prefix_append : (es fs : List Event) → IsPrefix es (es ++ fs)
prefix_append es fs = record { rest = fs; whole = refl }

pub prefix_trans : {es fs gs : List Event} → IsPrefix es fs → IsPrefix fs gs → IsPrefix es gs
prefix_trans {es} {fs} {gs} a b = record { rest = a.rest ++ b.rest; whole = b.whole ∙ ap (λ l. l ++ b.rest) a.whole ∙ append_assoc es a.rest b.rest }

-- what reaches the events reaches their beginning
pub reaches_less : {S : Type 0} {X : System S} {d : ℕ} {script : List ℕ} {es fs : List Event} → IsPrefix es fs → Reaches X d script fs → Reaches X d script es
reaches_less p r = record { state = r.state; run = r.run; made = prefix_trans p r.made }

pub preserves_for_trans : {S T U : Type 0} {X : System S} {Y : System T} {Z : System U} {d e f : ℕ} → PreservesFor X Y d e → PreservesFor Y Z e f → PreservesFor X Z d f
preserves_for_trans a b = record {
  reaches = λ script ok x w.
      let y = a.reaches script ok x w in
      reaches_less y.made (b.reaches script ok y.state y.run);
  arrives = λ script ok n es stop at. b.arrives script ok n es stop (a.arrives script ok n es stop at);
}

pub preserves_trans : {S T U : Type 0} {X : System S} {Y : System T} {Z : System U} → Preserves X Y → Preserves Y Z → Preserves X Z
preserves_trans f g = λ d small. preserves_for_trans (f d small) (g d small)

pub meets_on : {Fault S T : Type 0} {X : System S} {Y : System T} {d e : ℕ} → PreservesFor X Y d e → (script : List ℕ) → IsScript script → (n : ℕ) (r : Outcome Fault) → Meets X d script n r → Meets Y e script n r
meets_on f script ok n (Stops es stop) m = f.arrives script ok n es stop m
meets_on f script ok n (Faults es fault) m = reaches_less m.made (f.reaches script ok m.state m.run)

pub preserves_source_trans : {Fault S T : Type 0} {source : Source Fault} {X : System S} {Y : System T} {d e : ℕ} → PreservesSource source X d → PreservesFor X Y d e → PreservesSource source Y e
preserves_source_trans {source = source} s f = record { meets = λ script ok n. meets_on f script ok n (source script n) (s.meets script ok n) }

-- A forward simulation: R relates states of X to states of Y. Related states are reached from the start, and each step within
-- bounds d from related states is matched by a run within bounds e. Y has made at least the events of X, and it goes on to a stop
-- with exactly these events wherever X stands at a stop.
pub record Simulates {S T : Type 0} (X : System S) (Y : System T) (d e : ℕ) (R : S → T → Type 0) : Type 0 where
  pub begins : (script : List ℕ) → IsScript script → (y : T) × Run Y e (Y.start script) y × R (X.start script) y
  pub steps : (x : S) (y : T) → R x y → IsWithin X d x → (y' : T) × Run Y e y y' × R (X.step x) y'
  pub ahead : (x : S) (y : T) → R x y → IsPrefix (X.events x) (Y.events y)
  pub stops : (x : S) (y : T) → R x y → IsTrue (X.due x) → (y' : T) × Run Y e y y' × IsTrue (Y.due y') × (Y.events y' ≡ X.events x)
  pub ends : (x : S) (y : T) → R x y → IsTrue (X.ended x) → (y' : T) × Run Y e y y' × IsTrue (Y.ended y') × (Y.events y' ≡ X.events x)

module _ {S T : Type 0} (X : System S) (Y : System T) (d e : ℕ) (R : S → T → Type 0) (sim : Simulates X Y d e R) where
  along : (x x' : S) (y : T) → Run X d x x' → R x y → (y' : T) × Run Y e y y' × R x' y'
  along x x' y (here s) r = (y, here y, r)
  along x x' y (onward s t within w) r =
      let a = sim.steps s y r within in
      let b = along _ _ a.0 w a.2 in
      (b.0, joined a.1 b.1, b.2)

  pub from_start : (script : List ℕ) → IsScript script → (x : S) → Run X d (X.start script) x → (y : T) × Run Y e (Y.start script) y × R x y
  from_start script ok x w =
      let a = sim.begins script ok in
      let b = along _ _ a.0 w a.2 in
      (b.0, joined a.1 b.1, b.2)

  stop_on : (script : List ℕ) (n : ℕ) (es : List Event) (stop : Stop) (x : S) (y : T) → Run Y e (Y.start script) y → R x y → StopsAt X n x stop → X.events x ≡ es → Arrives Y e script n es stop
  stop_on script n es Stopped x y w r st same =
      let a = sim.stops x y r st.0 in
      record { state = a.0; run = joined w a.1; stops = (a.2, ap label_count a.3 ∙ st.1); made = a.3 ∙ same }
  stop_on script n es Ended x y w r st same =
      let a = sim.ends x y r st.0 in
      let P : ℕ → Type 0 = λ k. k ≤ n in
      record { state = a.0; run = joined w a.1; stops = (a.2, subst P (sym (ap label_count a.3)) st.1); made = a.3 ∙ same }

  pub simulation_preserves : PreservesFor X Y d e
  simulation_preserves = record {
    reaches = λ script ok x w.
        let a = from_start script ok x w in
        record { state = a.0; run = a.1; made = sim.ahead x a.0 a.2 };
    arrives = λ script ok n es stop a.
        let b = from_start script ok a.state a.run in
        stop_on script n es stop a.state b.0 b.1 b.2 a.stops a.made;
  }
