-- External RAM of Cminor and RTLabs: what was stored is read back as far as it is held, and what is held elsewhere stays.
use Rattle.std.proofs.Common.{◌≡◌, inl, inr, ℕ, zero, suc, ◌+◌, ◌*◌, ◌/◌, ◌%◌, ◌<◌, ◌≤◌, ◌∷◌, refl, sym, ap, ◌∙◌, arith}
use Rattle.std.proofs.Math.Arith.{mod-mul}
use Rattle.cerco_base.specs.Bytes.{bytes_value, count_of_values}
use Rattle.cerco_traces.specs.LabelledGraphs.{In}
use Rattle.cerco_traces.specs.Worlds.{World, update, next_address, addresses_from, bytes_at, loaded, with_number, stored}
use Rattle.cerco_traces.proofs.WorldLaws.{update_same, update_other}
use Rattle.cerco_middle.specs.declared.operators.Held.{Held}
use Rattle.cerco_middle.specs.Operators.{held_bytes, read_from, kept, held_at, held_in, held_addresses}

-- n addresses below 65,536 are those from the first one on
pub addresses_between : (n a b : ℕ) → a + n ≤ 65536 → In b (addresses_from n a) → (a ≤ b) × (b < a + n)
addresses_between zero a b fit is = absurd is
addresses_between (suc n) a b fit (inl same) = (omega arith, omega arith)
addresses_between (suc zero) a b fit (inr is) = absurd is
addresses_between (suc (suc n)) a b fit (inr is) =
    let next : next_address a ≡ a + 1 = omega arith in
    let between = addresses_between (suc n) (next_address a) b (omega arith) is in
    (omega arith, omega arith)

-- a byte at no address that a number is written to stays
pub byte_stays : (n : ℕ) (map : ℕ → ℕ) (a value b : ℕ) → (In b (addresses_from n a) → ⊥) → with_number n map a value b ≡ map b
byte_stays zero map a value b elsewhere = refl
byte_stays (suc n) map a value b elsewhere =
    byte_stays n (update map a (value % 256)) (next_address a) (value / 256) b (λ is. elsewhere (inr is)) ∙ update_other map a b (value % 256) (λ same. elsewhere (inl (sym same)))

-- maps that agree at n addresses have the same bytes there
pub same_bytes : (n : ℕ) (f g : ℕ → ℕ) (a : ℕ) → ((b : ℕ) → In b (addresses_from n a) → f b ≡ g b) → bytes_at n f a ≡ bytes_at n g a
same_bytes zero f g a agree = refl
same_bytes (suc n) f g a agree = ap (λ x. x ∷ bytes_at n f (next_address a)) (agree a (inl refl)) ∙ ap (λ xs. g a ∷ xs) (same_bytes n f g (next_address a) (λ b is. agree b (inr is)))

pub some_values : (n : ℕ) → 0 < count_of_values n
some_values zero = omega arith
some_values (suc n) = let fewer = some_values n in omega (arith, fewer)

-- the low byte and the others are the whole number
pub low_byte_first : (x c : ℕ) → 0 < c → x % 256 + 256 * ((x / 256) % c) ≡ x % (256 * c)
low_byte_first x c some =
    let digits = mod-mul x {m = c} {c = 256} some (omega arith) in
    let turned : 256 * c ≡ c * 256 = omega arith in
    (omega (arith, digits)) ∙ sym (ap (λ m. x % m) turned)

-- a number is read back as far as its bytes go
pub number_back : (n : ℕ) (map : ℕ → ℕ) (a value : ℕ) → a + n ≤ 65536 → bytes_value (bytes_at n (with_number n map a value) a) ≡ value % count_of_values n
number_back zero map a value fit = omega arith
number_back (suc zero) map a value fit = let first = update_same map a a (value % 256) refl in omega (arith, first)
number_back (suc (suc n)) map a value fit =
    let next : next_address a ≡ a + 1 = omega arith in
    let inner = update map a (value % 256) in
    let first = byte_stays (suc n) inner (next_address a) (value / 256) a (λ is. let between = addresses_between (suc n) (next_address a) a (omega arith) is in omega (arith, between.0, next)) ∙ update_same map a a (value % 256) refl in
    let others = number_back (suc n) inner (next_address a) (value / 256) (omega arith) in
    ap (λ x. x + 256 * bytes_value (bytes_at (suc n) (with_number (suc n) inner (next_address a) (value / 256)) (next_address a))) first
    ∙ ap (λ x. value % 256 + 256 * x) others
    ∙ low_byte_first value (count_of_values (suc n)) (some_values (suc n))

pub loaded_back : (n : ℕ) (w : World) (a value : ℕ) → a + n ≤ 65536 → loaded n (stored n w a value) a ≡ value % count_of_values n
loaded_back n w a value fit = number_back n w.xram a value fit

-- what is held is read back as it is kept
pub held_back : (h : Held) (w : World) (a value : ℕ) → a + held_bytes h ≤ 65536 → held_at h (held_in h w a value) a ≡ kept h value
unfolding held_at kept
held_back h w a value fit = ap (read_from h) (loaded_back (held_bytes h) w a value fit)

-- what is held elsewhere stays
pub held_stays : (h k : Held) (w : World) (a b value : ℕ) → ((c : ℕ) → In c (held_addresses h a) → In c (held_addresses k b) → ⊥) → held_at h (held_in k w b value) a ≡ held_at h w a
unfolding held_at
held_stays h k w a b value apart =
    ap (λ bytes. read_from h (bytes_value bytes)) (same_bytes (held_bytes h) (with_number (held_bytes k) w.xram b value) w.xram a (λ c is. byte_stays (held_bytes k) w.xram b value c (apart c is)))
