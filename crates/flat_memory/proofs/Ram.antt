-- External RAM alone, without the rest of a world.
use Rattle.std.proofs.Common.{◌≡◌, ℕ, ◌+◌, ◌/◌, ◌%◌, ◌<◌, ◌≤◌, [], refl, sym, ap, ◌∙◌, arith}
use Rattle.cerco_base.specs.Bytes.{bytes_value}
use Rattle.cerco_traces.specs.LabelledGraphs.{In}
use Rattle.cerco_traces.specs.Worlds.{World, update, next_address, bytes_at, with_number}
use Rattle.cerco_middle.specs.declared.operators.Held.TheVariants.{U8, I8, W16}
use Rattle.cerco_middle.specs.declared.operators.Held.{Held}
use Rattle.cerco_middle.specs.Operators.{held_bytes, read_from, kept, held_at, held_in, held_addresses}
use Rattle.cerco_middle.proofs.MemoryLaws.{held_back, held_stays}

-- what is held so at an address
unfoldable pub in_ram : Held → (ℕ → ℕ) → ℕ → ℕ
in_ram h ram a = read_from h (bytes_value (bytes_at (held_bytes h) ram a))

-- a value is held so at an address
abbrev pub put_ram : Held → (ℕ → ℕ) → ℕ → ℕ → (ℕ → ℕ)
put_ram h ram a x = with_number (held_bytes h) ram a x

world_of : (ℕ → ℕ) → World
world_of ram = record { xram = ram; script = []; made = [] }

pub held_at_is : (h : Held) (w : World) (a : ℕ) → held_at h w a ≡ in_ram h w.xram a
unfolding held_at in_ram
held_at_is h w a = refl

pub ram_back : (h : Held) (ram : ℕ → ℕ) (a x : ℕ) → a + held_bytes h ≤ 65536 → in_ram h (put_ram h ram a x) a ≡ kept h x
unfolding world_of held_at in_ram
ram_back h ram a x fit = held_back h (world_of ram) a x fit

pub ram_stays : (h k : Held) (ram : ℕ → ℕ) (a b x : ℕ) → ((c : ℕ) → In c (held_addresses h a) → In c (held_addresses k b) → ⊥) → in_ram h (put_ram k ram b x) a ≡ in_ram h ram a
unfolding world_of held_at in_ram
ram_stays h k ram a b x apart = held_stays h k (world_of ram) a b x apart

-- only what is kept of a value is written
pub put_kept : (h : Held) (ram : ℕ → ℕ) (a x : ℕ) → put_ram h ram a (kept h x) ≡ put_ram h ram a x
unfolding kept
put_kept U8 ram a x = let e : x % 256 % 256 ≡ x % 256 = omega arith in ap (update ram a) e
put_kept I8 ram a x = ap (update ram a) (low_kept x)
  where
    low_kept : (x : ℕ) → read_from I8 (x % 256) % 256 ≡ x % 256
    low_kept x = grind arith
put_kept W16 ram a x =
    let low : x % 65536 % 256 ≡ x % 256 = omega arith in
    let high : x % 65536 / 256 % 256 ≡ x / 256 % 256 = omega arith in
    ap (λ k. update (update ram a k) (next_address a) (x % 65536 / 256 % 256)) low ∙ ap (update (update ram a (x % 256)) (next_address a)) high
