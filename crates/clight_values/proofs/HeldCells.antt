-- What the memory holds, after a write of a cell.
use Rattle.std.proofs.Common.{◌≡◌, ℕ, ◌<◌, List, length, get_or, Option, Some, Ok, sym, ap, ◌∙◌}
use Rattle.std.specs.Prelude.{slice_get, slice_set, option_map}
use Rattle.std.proofs.lemmas.List.{map-set, take-map}
use Rattle.std.proofs.lemmas.Option.{slice_get-map, slice_get-get_or}
use Rattle.std.proofs.Common.{take}
use Rattle.c_types.specs.Types.{CType}
use Rattle.clight_values.specs.declared.value.Value.{Value}
use Rattle.clight_values.specs.declared.value.Value.TheVariants as v
use Rattle.clight_values.specs.declared.value.Place.{Place}
use Rattle.clight_values.specs.declared.value.Block.{Block}
use Rattle.clight_values.specs.declared.memory.Cell.{Cell}
use Rattle.clight_values.specs.Memory.{Memory, left, accessed, stored, stored_at, put}
use Rattle.clight_values.specs.Code.Views.{cell_held, cells_held}

-- the cell that is held at a number
pub cell_at : (cells : List Cell) (i : ℕ) (c : Cell) → i < length cells → c ≡ get_or cells i c → slice_get (cells_held cells) i ≡ Some (cell_held c)
cell_at cells i c low is = slice_get-map cell_held cells i ∙ ap (option_map cell_held) (slice_get-get_or cells i c low ∙ ap (λ x. Some x) (sym is))

pub stored_is : (cells : List Cell) (blocks : List Block) (T : CType) (pointer w : Value) (at : Place) (i : ℕ) (c : Cell) → pointer ≡ v.Pointer at
    → Ok i ≡ accessed (record { cells = cells_held cells; blocks = blocks }) T at → i < length cells → c ≡ get_or cells i c
    → stored (record { cells = cells_held cells; blocks = blocks }) T pointer w
    ≡ Ok (record { cells = cells_held (slice_set cells i (record { kind = c.kind; value = Some w })); blocks = blocks })
stored_is cells blocks T pointer w at i c is found low held =
    let m : Memory = record { cells = cells_held cells; blocks = blocks } in
    ap (λ p. stored m T p w) is ∙ ap (λ r. stored_at m r w) (sym found)
    ∙ ap (λ o. Ok (put m i o w)) (cell_at cells i c low held)
    ∙ ap (λ cs. Ok (record { cells = cs; blocks = blocks })) (sym (map-set cell_held cells i (record { kind = c.kind; value = Some w })))

pub left_is : (cells kept : List Cell) (blocks : List Block) (m n : ℕ) → kept ≡ take n cells
    → left m n (record { cells = cells_held cells; blocks = blocks }) ≡ record { cells = cells_held kept; blocks = take m blocks }
left_is cells kept blocks m n e = ap (λ cs. record { cells = cs; blocks = take m blocks }) (take-map cell_held n cells ∙ ap cells_held (sym e))
