-- External RAM after a store, and examples of the world's words.
use Rattle.std.proofs.Common.{◌≡◌, ◌≢◌, ℕ, List, [], ◌∷◌, refl, ap, eq-eqb, ne_eqb, if◌then◌else◌}
use Rattle.cerco_traces.specs.Worlds.{World, update, bytes_at, loaded, stored, after_reading, start_world}

pub update_same : (map : ℕ → ℕ) (a b value : ℕ) → b ≡ a → update map a value b ≡ value
unfolding update
update_same map a b value same = ap (λ found. if found then value else map b) (eq-eqb b a same)

pub update_other : (map : ℕ → ℕ) (a b value : ℕ) → b ≢ a → update map a value b ≡ map b
unfolding update
update_other map a b value other = ap (λ found. if found then value else map b) (ne_eqb b a other)

-- ---- examples

sample : World
sample = start_world ((1, 7) ∷ (2, 1) ∷ (1, 9) ∷ []) (5 ∷ [])

-- of two bytes at one address the later one counts; a number has its low byte first
reads_two_bytes : loaded 2 sample 1 ≡ 265
unfolding sample update
reads_two_bytes = refl

stores_two_bytes : bytes_at 3 (stored 2 sample 65535 0x1234).xram 65534 ≡ 0 ∷ 0x34 ∷ 0x12 ∷ []
unfolding sample update
stores_two_bytes = refl

script_ends : (after_reading (after_reading sample)).script ≡ []
unfolding sample
script_ends = refl
