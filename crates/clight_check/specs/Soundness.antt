-- Which programs are sound, and the first reason against each other one: wrong names come first, then parts without a type, calls
-- that lead back to a function, call paths that are too long, and data that are too many. (The reasons and their order are the
-- compiler's own: `docs/language.md`.)
use Rattle.std.specs.Prelude.{◌≡◌, ℕ, List, Some, None, Ok}
use Rattle.cerco_base.specs.declared.reasons.Fault.{Fault}
use Rattle.cerco_base.specs.declared.reasons.Fault.TheVariants.{Refused, OutOfMemory}
use Rattle.cerco_base.specs.declared.reasons.Reason.{Reason}
use Rattle.cerco_base.specs.declared.reasons.Reason.TheVariants.{Name, Typing, Recursion, StackFull, DataFull}
use Rattle.clight_tokens.specs.SourceTrees.{IsSourceTree}
use Rattle.clight_source.specs.Trees.{Program}
use Rattle.clight_syntax.specs.TypedTrees.{TypedProgram}
use Rattle.clight_names.specs.NameFaults.{first_name_fault, name_fault}
use Rattle.clight_types.specs.TypedExpressions.{fault}
use Rattle.clight_typing.specs.TypedPrograms.{typed_program}
use Rattle.clight_layout.specs.Layout.{IsLayout}
use Rattle.clight_layout.specs.Reasons.{IsReason}

-- p is sound: its names are right, and this is its typed tree with its layout and the order of its calls
pub record IsSound (p : Program) (t : TypedProgram (Unit {0})) : Type 0 where
  pub names : first_name_fault p ≡ None
  pub typed : TypedProgram (Unit {0})
  pub typing : typed_program p ≡ Ok typed
  pub layout : IsLayout typed t

-- names and types of p are right, and this is the first reason against a layout of its typed tree
pub record HasNoLayout (p : Program) (reason : Reason) : Type 0 where
  pub names : first_name_fault p ≡ None
  pub typed : TypedProgram (Unit {0})
  pub typing : typed_program p ≡ Ok typed
  pub reason_is : IsReason typed reason

-- this is the first of the reasons of names, types, calls and layout against p
abbrev pub IsUnsound : Program → Reason → Type 0
IsUnsound p (Name at kind) = first_name_fault p ≡ Some (name_fault at kind)
IsUnsound p (Typing at kind) = (first_name_fault p ≡ None) × (typed_program p ≡ fault at kind)
IsUnsound p (Recursion at) = HasNoLayout p (Recursion at)
IsUnsound p (StackFull depth) = HasNoLayout p (StackFull depth)
IsUnsound p (DataFull total) = HasNoLayout p (DataFull total)
IsUnsound p reason = ⊥

-- nothing is said of being out of memory
abbrev pub IsRefused : Program → Fault → Type 0
IsRefused p OutOfMemory = Unit {0}
IsRefused p (Refused reason) = IsUnsound p reason

-- the first of the reasons 7 to 11 that a text has: it has a tree that is unsound
abbrev pub HasUnsoundness : List ℕ → Reason → Type 0
HasUnsoundness text reason = (p : Program) × IsSourceTree text p × IsUnsound p reason
