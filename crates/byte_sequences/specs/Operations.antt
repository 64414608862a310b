-- The byte operations of each operation of RTLabs, over the locations of its variables and temporaries, and how its node is left
-- (CerCo, deliverable 4.2: from RTLabs to RTL).
use Rattle.std.specs.Prelude.{ℕ, List, [], Option, Some, None, true, false}
use Rattle.cerco_middle.specs.declared.operators.Held.{Held}
use Rattle.cerco_middle.specs.declared.operators.CmOp.{CmOp}
use Rattle.cerco_middle.specs.declared.operators.CmOp.TheVariants as o
use Rattle.cerco_middle.specs.declared.rtlabs.RtOp.{RtOp}
use Rattle.cerco_middle.specs.declared.rtlabs.RtOp.TheVariants as op
use Rattle.cerco_middle.specs.Calls.{variable_held}
use Rattle.rtl.specs.declared.operations.Arith.TheVariants.{And, Or, Xor}
use Rattle.rtl.specs.Operations.{ByteOp}
use Rattle.rtl.specs.declared.graphs.Exit.{Exit}
use Rattle.rtl.specs.declared.graphs.Exit.TheVariants as exit
use Rattle.rtl.specs.Programs.{Node}
use Rattle.byte_sequences.specs.Words.{scratch, variable, temporary, argument}
use Rattle.byte_sequences.specs.Sequences.{ats, literals, held_part, constants, moves, extension, reading, load, store, port_reading, port_writing, chain, sum, difference, product, quotient, remainder, order, inequality, signed_less, signed_up_to, joined, shift_left, shift_right}

-- the operator's value, of the values at ts and us, at ts
abbrev pub operator_code : {L : Type 0} → L → CmOp → List L → List L → List (ByteOp L)
operator_code s o.Add ts us = sum ts us
operator_code s o.Sub ts us = difference ts (ats ts) (ats us)
operator_code s o.Mul ts us = product ts us
operator_code s o.Div ts us = quotient ts us
operator_code s o.Rem ts us = remainder ts us
operator_code s o.And ts us = chain And ts (ats ts) (ats us)
operator_code s o.Or ts us = chain Or ts (ats ts) (ats us)
operator_code s o.Xor ts us = chain Xor ts (ats ts) (ats us)
operator_code s o.Eq ts us = inequality true ts us
operator_code s o.Ne ts us = inequality false ts us
operator_code s o.LtS ts us = signed_less s ts us
operator_code s o.LtU ts us = order false ts (ats ts) (ats us)
operator_code s o.LeS ts us = signed_up_to s ts us
operator_code s o.LeU ts us = order true ts (ats us) (ats ts)

-- the result of a function, if it has one
abbrev pub result_code : {L : Type 0} → List L → Option Held → List L → List (ByteOp L)
result_code ds None ts = []
result_code ds (Some h) ts = moves (held_part h ds) (held_part h ts)

-- over locations with these numbers
module _ {L : Type 0} (at : ℕ → L) where
  -- in a function with these variables and this result
  abbrev pub operation_code : List Held → Option Held → RtOp → List (ByteOp L)
  operation_code held result (op.Const t number) = constants (temporary at t) number
  operation_code held result (op.Get t x) = reading (variable_held held x) (temporary at t) (variable at x)
  operation_code held result (op.Put x t) = moves (held_part (variable_held held x) (variable at x)) (held_part (variable_held held x) (temporary at t))
  operation_code held result (op.Neg t) = difference (temporary at t) (literals 0 (temporary at t)) (ats (temporary at t))
  operation_code held result (op.Not t) = difference (temporary at t) (literals 255 (temporary at t)) (ats (temporary at t))
  operation_code held result (op.Narrow h t) = extension h (temporary at t)
  operation_code held result (op.Bin o t u) = operator_code (scratch at) o (temporary at t) (temporary at u)
  operation_code held result (op.Shl k t) = shift_left k (temporary at t)
  operation_code held result (op.Shr k keeps_sign t) = shift_right k keeps_sign (temporary at t)
  operation_code held result (op.Load h t) = load h (temporary at t)
  operation_code held result (op.Store h t u) = store h (temporary at t) (temporary at u)
  operation_code held result (op.ReadPort t) = port_reading (temporary at t)
  operation_code held result (op.WritePort t) = port_writing (temporary at t)
  operation_code held result (op.Arg h first_byte t) = moves (held_part h (argument at first_byte)) (held_part h (temporary at t))
  operation_code held result (op.Call g) = []
  operation_code held result (op.Result h t) = reading h (temporary at t) (argument at 0)
  operation_code held result (op.Label l) = []
  operation_code held result (op.Test t on_true on_false) = joined (scratch at) (temporary at t)
  operation_code held result op.Return = []
  operation_code held result (op.ReturnValue t) = result_code (argument at 0) result (temporary at t)

  -- with this node next
  abbrev pub operation_exit : RtOp → ℕ → Exit L
  operation_exit (op.Call g) next = exit.Call g next
  operation_exit (op.Label l) next = exit.Label l next
  operation_exit (op.Test t on_true on_false) next = exit.Test (scratch at) on_true on_false
  operation_exit op.Return next = exit.Return
  operation_exit (op.ReturnValue t) next = exit.Return
  operation_exit _ next = exit.Next next

  abbrev pub operation_node : List Held → Option Held → RtOp → ℕ → Node L
  operation_node held result o next = record { ops = operation_code held result o; exit = operation_exit o next }
