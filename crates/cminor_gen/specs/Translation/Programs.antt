-- What becomes of a labelled program in Cminor (CerCo, deliverables 3.2 and 3.3): its functions by their numbers, with all labels, and
-- the bytes of its initialised globals.
use Rattle.std.specs.Prelude.{map}
use Rattle.cerco_base.specs.declared.events.Label.{Label}
use Rattle.cerco_middle.specs.Cminor.Trees.{Cminor}
use Rattle.clight_syntax.specs.TypedTrees.{TypedProgram}
use Rattle.cminor_gen.specs.Translation.Statements.{function}
use Rattle.cminor_gen.specs.Translation.Start.{items_bytes}

abbrev pub translated : TypedProgram Label → Cminor
translated p = record { functions = map (function p) p.functions; calls = p.calls; main = p.main; start = items_bytes p p.items }
