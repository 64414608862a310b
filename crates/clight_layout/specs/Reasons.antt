-- The first reason against the layout of a typed program: calls that lead back to a function, a call path that is too long, or too
-- many bytes.
use Rattle.std.specs.Prelude.{◌≡◌, ℕ, ◌<◌, ◌≤◌, length, Option, Some, None, slice_get}
use Rattle.cerco_base.specs.declared.reasons.Reason.{Reason}
use Rattle.cerco_base.specs.declared.reasons.Reason.TheVariants.{Recursion, StackFull, DataFull}
use Rattle.call_graph.specs.CallPaths.{Calls, IsFirstOnCycle}
use Rattle.clight_syntax.specs.TypedTrees.{Function, TypedProgram}
use Rattle.clight_layout.specs.Calls.{callees}
use Rattle.clight_layout.specs.Layout.{HasNoCycle, IsDepth, IsTotal, greatest_depth, greatest_data}

-- where the name of a function stands in its definition
abbrev pub defined_at : {L : Type 0} → Option (Function L) → ℕ
defined_at (Some f) = f.header.declared.name.span.from
defined_at None = 0

-- this is the first reason against a layout
abbrev pub IsReason : {L : Type 0} → TypedProgram L → Reason → Type 0
IsReason p (Recursion at) =
    (f : ℕ) × IsFirstOnCycle (length (callees p.functions)) (Calls (callees p.functions)) f × (at ≡ defined_at (slice_get p.functions f))
IsReason p (StackFull depth) = HasNoCycle (callees p.functions) × IsDepth (callees p.functions) depth × (greatest_depth < depth)
IsReason p (DataFull total) =
    HasNoCycle (callees p.functions) × ((n : ℕ) × IsDepth (callees p.functions) n × (n ≤ greatest_depth)) × IsTotal p total × (greatest_data < total)
IsReason p reason = ⊥
