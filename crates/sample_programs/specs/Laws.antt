-- What is promised of the texts of the generator: the compiler refuses none of them (the generator and its sizes are the compiler's own).
use Rattle.std.specs.Prelude.{ℕ, ◌≤◌, ◌<◌, ◌^◌}
use Rattle.sample_texts.specs.Texts.{text_of}
use Rattle.cerco_pipeline.specs.Programs.{HasRoomByText}

-- a text for any seed, with 1 to 64 functions, is sound, and its program has room
abbrev pub TextsHaveRoom : Type 0
TextsHaveRoom = (seed size : ℕ) → seed < 2 ^ 32 → 1 ≤ size → size ≤ 64 → HasRoomByText (text_of seed size)
