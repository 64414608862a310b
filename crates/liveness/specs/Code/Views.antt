-- How the code's storage, operations and graphs stand for those of the definitions, with numbers for virtual registers.
use Rattle.std.specs.Prelude.{◌≡◌, ℕ, List, [], map}
use Rattle.rtl.specs.declared.locations.Vreg.{Vreg}
use Rattle.rtl.specs.declared.operations.Src.{Src}
use Rattle.rtl.specs.declared.operations.ByteOp.{ByteOp as WrittenOp}
use Rattle.rtl.specs.declared.graphs.Graph.{Graph as WrittenGraph}
use Rattle.rtl.specs.declared.graphs.Exit.{Exit}
use Rattle.rtl.specs.Operations.{ByteOp}
use Rattle.rtl.specs.Programs.{Graph}
use Rattle.rtl.specs.Locations.{vreg_number}
use Rattle.rtl.specs.Effects.{Storage, Loc, Carry}
use Rattle.rtl.specs.Graphs.{renamed_operand, renamed_op, renamed_exit, renamed_graph}
use Rattle.rtl.specs.Code.Views.{op_of, graph_of}
use Rattle.liveness.specs.declared.storages.Storage.{Storage as WrittenStorage}
use Rattle.liveness.specs.declared.storages.Storage.TheVariants as Written
use Rattle.liveness.specs.declared.occurrences.Occurrences.{Occurrences}
use Rattle.liveness.specs.Code.Rows.{ways_of}

abbrev pub storage_of : WrittenStorage → Storage
storage_of (Written.Vreg v) = Loc v
storage_of Written.Carry = Carry

abbrev pub storages_of : List WrittenStorage → List Storage
storages_of list = map storage_of list

abbrev pub locs_of : List Vreg → List Storage
locs_of vregs = map Loc (map vreg_number vregs)

abbrev pub numbered_operand : Src Vreg → Src ℕ
numbered_operand a = renamed_operand vreg_number a

abbrev pub numbered_op : WrittenOp Vreg → ByteOp ℕ
numbered_op op = renamed_op vreg_number (op_of op)

abbrev pub numbered_ops : List (WrittenOp Vreg) → List (ByteOp ℕ)
numbered_ops ops = map numbered_op ops

abbrev pub numbered_exit : Exit Vreg → Exit ℕ
numbered_exit e = renamed_exit vreg_number e

abbrev pub numbered_graph : WrittenGraph Vreg → Graph ℕ
numbered_graph g = renamed_graph vreg_number (graph_of g)

-- where something occurs
abbrev pub occurrences_of : Occurrences → Storage → List ℕ
occurrences_of o (Loc v) = ways_of o.vregs.items v
occurrences_of o Carry = o.carry.to.items

abbrev pub NothingOccurs : Occurrences → Type 0
NothingOccurs o = (s : Storage) → occurrences_of o s ≡ []
