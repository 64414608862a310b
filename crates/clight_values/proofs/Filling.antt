-- The cells of a global have the bytes of its type.
use Rattle.std.proofs.Common.{◌≡◌, ℕ, suc, List, [], ◌∷◌, ◌++◌, length, map, Some, None, refl, sym, ap, ◌∙◌}
use Rattle.std.proofs.lemmas.List.{append-nil, length-map}
use Rattle.clight_source.specs.declared.tree.SignedNumber.{SignedNumber}
use Rattle.clight_values.specs.declared.value.Block.{Block}
use Rattle.clight_values.specs.declared.memory.Cell.{Cell as HeldCell}
use Rattle.clight_values.specs.Memory.{Cell, Kinds, unset, with_block}
use Rattle.clight_values.specs.Globals.{filled}
use Rattle.clight_values.specs.Code.Views.{cell_held, cells_held, kinds_held}

abbrev kinds_of_cells : List Cell → Kinds
kinds_of_cells cells = map (λ (c : Cell). c.kind) cells

kinds_unset : (kinds : Kinds) → kinds_of_cells (map unset kinds) ≡ kinds
kinds_unset [] = refl
kinds_unset (k ∷ ks) = ap (λ xs. k ∷ xs) (kinds_unset ks)

kinds_of_held : (cells : List HeldCell) → kinds_held cells ≡ kinds_of_cells (cells_held cells)
kinds_of_held [] = refl
kinds_of_held (c ∷ cs) = ap (λ xs. (cell_held c).kind ∷ xs) (kinds_of_held cs)

length_filled : (kinds : Kinds) (ns : List SignedNumber) (i : ℕ) → length (filled kinds ns i) ≡ length kinds
length_filled [] ns i = refl
length_filled (None ∷ ks) ns i = ap (λ m. suc m) (length_filled ks ns i)
length_filled (Some T ∷ ks) ns i = ap (λ m. suc m) (length_filled ks ns (suc i))

length_kinds : (cells : List HeldCell) → length (kinds_held cells) ≡ length cells
length_kinds [] = refl
length_kinds (c ∷ cs) = ap (λ m. suc m) (length_kinds cs)

-- the memory with a global's block, by the cells and the block that were added
pub global_is : (cells unset_cells now : List HeldCell) (blocks : List Block) (kinds : Kinds) (ns : List SignedNumber) (n size : ℕ) → cells_held unset_cells ≡ map unset kinds
    → cells_held now ≡ cells_held cells ++ filled (kinds_held unset_cells) ns 0 → n ≡ length (cells_held cells) → size ≡ length unset_cells
    → record { cells = cells_held now; blocks = blocks ++ record { call = 0; begin = n; size = size } ∷ [] } ≡ with_block 0 (filled kinds ns 0) (record { cells = cells_held cells; blocks = blocks })
global_is cells unset_cells now blocks kinds ns n size is made at many =
    let same : kinds_held unset_cells ≡ kinds = kinds_of_held unset_cells ∙ ap kinds_of_cells is ∙ kinds_unset kinds in
    let bytes : size ≡ length (filled kinds ns 0) = many ∙ sym (length_kinds unset_cells) ∙ ap length same ∙ sym (length_filled kinds ns 0) in
    ap (λ cs. record { cells = cs; blocks = blocks ++ record { call = 0; begin = n; size = size } ∷ [] }) (made ∙ ap (λ ks. cells_held cells ++ filled ks ns 0) same)
    ∙ ap (λ b. record { cells = cells_held cells ++ filled kinds ns 0; blocks = blocks ++ record { call = 0; begin = b; size = size } ∷ [] }) at
    ∙ ap (λ s. record { cells = cells_held cells ++ filled kinds ns 0; blocks = blocks ++ record { call = 0; begin = length (cells_held cells); size = s } ∷ [] }) bytes

-- the same of a block without bytes
pub empty_is : (cells : List HeldCell) (blocks now : List Block) (n : ℕ) → n ≡ length cells → now ≡ blocks ++ record { call = 0; begin = n; size = 0 } ∷ []
    → record { cells = cells_held cells; blocks = now } ≡ with_block 0 [] (record { cells = cells_held cells; blocks = blocks })
empty_is cells blocks now n at is =
    ap (λ bs. record { cells = cells_held cells; blocks = bs }) is
    ∙ ap (λ b. record { cells = cells_held cells; blocks = blocks ++ record { call = 0; begin = b; size = 0 } ∷ [] }) (at ∙ sym (length-map cells cell_held))
    ∙ ap (λ cs. record { cells = cs; blocks = blocks ++ record { call = 0; begin = length (cells_held cells); size = 0 } ∷ [] }) (sym (append-nil (cells_held cells)))
