-- The meaning, computed on small programs.
use Rattle.std.proofs.Common.{◌≡◌, ℕ, List, [], ◌∷◌, true, refl}
use Rattle.cerco_base.specs.declared.events.Port.TheVariants.{P1}
use Rattle.cerco_base.specs.declared.events.Event.TheVariants.{Read, Write}
use Rattle.cerco_base.specs.Bytes.{sum_byte}
use Rattle.cerco_base.specs.Events.{label}
use Rattle.cerco_traces.specs.Headline.{after}
use Rattle.mcs51_isa.specs.declared.instr.Instr.TheVariants.{MovxDptr}
use Rattle.mcs51_isa.specs.declared.instr.Move.TheVariants.{FromAcc}
use Rattle.asm51.specs.declared.items.AsmItem.{AsmItem}
use Rattle.asm51.specs.declared.items.AsmItem.TheVariants.{Plain, Enter, Jump, Call}
use Rattle.asm51.specs.Meaning.{AsmState, assembly}
use Rattle.asm51.proofs.Samples.{return, nothing, countdown}

-- the state after so many steps
abbrev run : List AsmItem → List ℕ → ℕ → AsmState
run items script k = after (assembly items) k ((assembly items).start script)

nothing_happens : (run nothing [] 9).made ≡ label 0 ∷ []
nothing_happens = refl

-- a run stands before a label, and passes it with its NOP
before_the_label : (assembly nothing).due (run nothing [] 3) ≡ true
before_the_label = refl

after_the_label : (run nothing [] 4).at ≡ 6
after_the_label = refl

counted_down : (run countdown (2 ∷ []) 40).made
    ≡ label 0 ∷ Read P1 2 ∷ label 1 ∷ label 4 ∷ Write P1 2 ∷ label 2 ∷ label 1 ∷ label 4 ∷ Write P1 1 ∷ label 2 ∷ label 3 ∷ []
unfolding sum_byte
counted_down = refl

-- it ends at the start's jump to itself, where nothing changes
ended : (assembly countdown).ended (run countdown (2 ∷ []) 40) ≡ true
unfolding sum_byte
ended = refl

ended_there : (run countdown (2 ∷ []) 40).at ≡ 2
unfolding sum_byte
ended_there = refl

-- two calls are open in function 1
two_open : (run countdown (2 ∷ []) 9).returns ≡ 12 ∷ 2 ∷ []
two_open = refl

-- past the script's end a port shows FFH, so the loop goes on
no_script : (run countdown [] 20).made ≡ label 0 ∷ Read P1 255 ∷ label 1 ∷ label 4 ∷ Write P1 255 ∷ label 2 ∷ []
unfolding sum_byte
no_script = refl

-- a return without an open call stays, and so does what leads to a place that isn't there
no_call : (run (return ∷ []) [] 3).at ≡ 0
no_call = refl

no_place : (run (Jump 0 1 ∷ return ∷ []) [] 3).at ≡ 2
no_place = refl

-- a write to external RAM counts in a function, and not in the start
abbrev store : AsmItem
store = Plain (MovxDptr FromAcc)

in_the_start : (assembly (store ∷ [])).touched (run (store ∷ []) [] 0) ≡ []
in_the_start = refl

in_a_function : (assembly (Call 0 ∷ Enter 0 ∷ store ∷ [])).touched (run (Call 0 ∷ Enter 0 ∷ store ∷ []) [] 2) ≡ 0 ∷ []
in_a_function = refl
