-- Which operations the code has virtual registers for: those whose variables, temporaries and argument bytes have numbers below 2 ^ 29.
use Rattle.std.specs.Prelude.{ℕ, ◌<◌, ◌^◌}
use Rattle.cerco_middle.specs.declared.rtlabs.RtOp.{RtOp}
use Rattle.cerco_middle.specs.declared.rtlabs.RtOp.TheVariants as op

abbrev pub IsSmall : ℕ → Type 0
IsSmall n = n < 2 ^ 29

abbrev pub HasSmallNumbers : RtOp → Type 0
HasSmallNumbers (op.Const t number) = IsSmall t
HasSmallNumbers (op.Get t x) = IsSmall t × IsSmall x
HasSmallNumbers (op.Put x t) = IsSmall x × IsSmall t
HasSmallNumbers (op.Neg t) = IsSmall t
HasSmallNumbers (op.Not t) = IsSmall t
HasSmallNumbers (op.Narrow h t) = IsSmall t
HasSmallNumbers (op.Bin o t u) = IsSmall t × IsSmall u
HasSmallNumbers (op.Shl k t) = IsSmall t
HasSmallNumbers (op.Shr k keeps_sign t) = IsSmall t
HasSmallNumbers (op.Load h t) = IsSmall t
HasSmallNumbers (op.Store h t u) = IsSmall t × IsSmall u
HasSmallNumbers (op.ReadPort t) = IsSmall t
HasSmallNumbers (op.WritePort t) = IsSmall t
HasSmallNumbers (op.Arg h p t) = IsSmall p × IsSmall t
HasSmallNumbers (op.Call g) = Unit {0}
HasSmallNumbers (op.Result h t) = IsSmall t
HasSmallNumbers (op.Label l) = Unit {0}
HasSmallNumbers (op.Test t on_true on_false) = IsSmall t
HasSmallNumbers op.Return = Unit {0}
HasSmallNumbers (op.ReturnValue t) = IsSmall t
