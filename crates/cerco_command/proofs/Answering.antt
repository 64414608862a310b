-- What is answered where a text is put, whole or by pieces.
use Rattle.std.proofs.Common.{◌≡◌, ℕ, ◌+◌, ◌<◌, ◌≤◌, ◌⊎◌, List, [], ◌++◌, length, Err, refl, sym, ap, subst, ◌∙◌, arith, inl, inr, append_assoc, append-nil, length-append}
use Rattle.cerco_base.specs.Outside.IoStates.{SinkState}
use Rattle.cerco_base.specs.Outside.IoCalls.{Adds, AddsPrefix, PutsText}
use Rattle.cerco_base.specs.declared.outside.faults.IoFault.{IoFault}
use Rattle.cerco_base.specs.declared.outside.faults.IoFault.TheVariants as Io
use Rattle.cerco_base.proofs.Putting.{SoFar, keeps_on, adds_on, keeps_same, rose_since}
use Rattle.cerco_command.specs.Answers.{FellShort, Says, Answers}
pub use Rattle.printed_lines.proofs.Fronts.{front_put}
use Rattle.cerco_command.specs.Status.{status_of}
use Rattle.cerco_command.specs.declared.status.Status.{Status}
use Rattle.cerco_command.specs.declared.status.Status.TheVariants.{OutFault, NoMemory}

-- the status of a fault while a text is put
fell : {X : Type 0} (o p : SinkState) (text : List ℕ) (fault : IoFault) → PutsText {T = X} o p text (Err fault) → FellShort o p text (status_of fault)
fell o p text Io.Failed puts = (puts.cause.rose refl, puts.some)
fell o p text Io.OutOfMemory puts = puts.some

-- a text isn't put whole
pub cut : {X : Type 0} (o p : SinkState) (status : Status) (text : List ℕ) (fault : IoFault) → PutsText {T = X} o p text (Err fault) → Says o p status text (status_of fault)
cut o p status text fault puts = record { keeps = puts.keeps; puts = inr (fell o p text fault puts, puts.front) }

-- a status with its text is among those that a command may mean
pub answered : (Means : Status → List ℕ → Type 0) (o p : SinkState) (meant : Status) (text : List ℕ) (status : Status) → Means meant text → Says o p meant text status → Answers Means o p status
answered Means o p meant text status means says = record { meant = meant; text = text; means = means; says = says }

-- what one command may mean another one may
pub answers_by : (M N : Status → List ℕ → Type 0) (o p : SinkState) (status : Status) → ((s : Status) (l : List ℕ) → M s l → N s l) → Answers M o p status → Answers N o p status
answers_by M N o p status by a = record { meant = a.meant; text = a.text; means = by a.meant a.text a.means; says = a.says }

-- nothing is put for an answer without a line
pub says_nothing : (o : SinkState) (status : Status) → Says o o status [] status
says_nothing o status = record { keeps = keeps_same o; puts = inl (refl, λ h. sym (append-nil o.bytes)) }

later_fell : (o p q : SinkState) (text whole : List ℕ) (status : Status) → o.faults ≤ p.faults → length text ≤ length whole → FellShort p q text status → FellShort o q whole status
later_fell o p q text whole OutFault l n f = let some = f.1 in (rose_since o.faults p.faults q.faults l f.0, omega arith)
later_fell o p q text whole NoMemory l n f = omega arith
later_fell o p q text whole status l n f = absurd f

-- the rest of a text is put, with a status that is meant with the whole text
pub says_rest : (o p q : SinkState) (text rest : List ℕ) (meant status : Status) → SoFar o p text rest → Says p q meant rest status → Says o q meant text status
says_rest o p q text rest meant status a says = record { keeps = keeps_on o p q a.keeps says.keeps; puts = cases says.puts }
  where
    size : length text ≡ length a.front + length rest
    size = ap length (sym a.whole) ∙ length-append a.front rest

    cases : ((status ≡ meant) × Adds p q rest) ⊎ (FellShort p q rest status × AddsPrefix p q rest) → ((status ≡ meant) × Adds o q text) ⊎ (FellShort o q text status × AddsPrefix o q text)
    cases (inl s) = inl (s.0, subst (λ (x : List ℕ). Adds o q x) a.whole (adds_on o p q a.front rest a.keeps a.added s.1))
    cases (inr s) =
        let f = s.1 in
        let all = size in
        inr (
          later_fell o p q rest text status a.keeps.later (omega arith) s.0,
          (a.front ++ f.0, f.1, append_assoc a.front f.0 f.1 ∙ (ap (λ (x : List ℕ). a.front ++ x) f.2 ∙ a.whole), adds_on o p q a.front f.0 a.keeps a.added f.3),
        )

-- what was put of a text was put of a longer one
pub so_far_more : (o p : SinkState) (text pending more : List ℕ) → SoFar o p text pending → SoFar o p (text ++ more) (pending ++ more)
so_far_more o p text pending more a =
    record {
      keeps = a.keeps;
      front = a.front;
      whole = sym (append_assoc a.front pending more) ∙ ap (λ (x : List ℕ). x ++ more) a.whole;
      added = a.added;
    }

-- there is no memory for what is to be put
pub no_memory : (o p : SinkState) (text pending : List ℕ) (meant : Status) → SoFar o p text pending → 0 < length text → Says o p meant text NoMemory
no_memory o p text pending meant a some = record { keeps = a.keeps; puts = inr (some, (a.front, pending, a.whole, a.added)) }

-- the put of what is pending fails
pub pending_cut : {X : Type 0} (o p q : SinkState) (text pending more : List ℕ) (meant : Status) (fault : IoFault) → SoFar o p text pending → PutsText {T = X} p q pending (Err fault) → Says o q meant (text ++ more) (status_of fault)
pending_cut {X} o p q text pending more meant fault a puts =
    let f = puts.front in
    let longer : PutsText {T = X} p q (pending ++ more) (Err fault) = record {
      keeps = puts.keeps;
      cause = puts.cause;
      whole = tt;
      front = (f.0, f.1 ++ more, sym (append_assoc f.0 f.1 more) ∙ ap (λ (x : List ℕ). x ++ more) f.2, f.3);
      some = let l = length-append pending more in let some = puts.some in omega arith;
    } in
    says_rest o p q (text ++ more) (pending ++ more) meant (status_of fault) (so_far_more o p text pending more a) (cut p q meant (pending ++ more) fault longer)
