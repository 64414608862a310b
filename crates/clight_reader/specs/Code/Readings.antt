-- What the parser's answers say of terminals.
use Rattle.std.specs.Prelude.{List}
use Rattle.clight_source.specs.declared.symbol.Terminal.{Terminal}
use Rattle.clight_source.specs.Trees.{Item}
use Rattle.clight_source.specs.Spelling.{Spells}
use Rattle.clight_source.specs.Depth.{IsFirstDeep}
use Rattle.clight_grammar.specs.Faults.{FaultAt}
use Rattle.clight_reader.specs.declared.reading.ParseFault.{ParseFault}
use Rattle.clight_reader.specs.declared.reading.ParseFault.TheVariants.{Syntax, Nesting, OutOfMemory}

-- The terminals are no program, which shows first at terminal i; or they are one with a node that is too deep.
abbrev pub IsFault : ParseFault → List Terminal → Type 0
IsFault (Syntax i) l = FaultAt l i
IsFault (Nesting at) l = (items : List Item) × Spells items l × IsFirstDeep items at
IsFault OutOfMemory l = Unit {0}
