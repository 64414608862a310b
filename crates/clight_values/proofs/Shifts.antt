-- Shifts by as many bits as a value has, or more.
use Rattle.std.proofs.Common.{◌≡◌, ℕ, ◌+◌, ◌-◌, ◌*◌, ◌/◌, ◌%◌, ◌^◌, ◌<◌, ◌≤◌, sym, ap, ◌∙◌, arith}
use Rattle.std.proofs.lemmas.Nat.{div_below, mod-mul-add, pow-add, pow_pos}
use Rattle.std.proofs.Math.Pow.{pow_mono}
use Rattle.c_types.specs.declared.integers.Size.TheVariants.{One, Two, Four}
use Rattle.c_types.specs.declared.integers.Size.{Size}
use Rattle.c_types.specs.Conversions.{count}
use Rattle.c_types.specs.declared.integers.IntegerType.{IntegerType}
use Rattle.clight_values.specs.Values.{shifted_left}

-- nothing is left of a value
pub shifted_out : (x by : ℕ) → x < 2 ^ 32 → 32 ≤ by → 0 ≡ x / 2 ^ by
shifted_out x by low far =
    let wide : 2 ^ 32 ≤ 2 ^ by = pow_mono far in let below = div_below x (2 ^ by) 1 (pow_pos by) (omega arith) in omega arith

multiple_of_pow : (x by k : ℕ) → k ≤ by → (x * 2 ^ by) % 2 ^ k ≡ 0
multiple_of_pow x by k le =
    let split : by ≡ (by - k) + k = omega arith in
    let whole : x * 2 ^ by ≡ (x * 2 ^ (by - k)) * 2 ^ k + 0 = (ap (λ n. x * 2 ^ n) split ∙ (let e = pow-add 2 (by - k) k in ap (λ n. x * n) e) ∙ (omega arith)) in
    ap (λ n. n % 2 ^ k) whole ∙ mod-mul-add (x * 2 ^ (by - k)) (2 ^ k) 0 (pow_pos k)

multiple_of_count : (s : Size) (x by : ℕ) → 32 ≤ by → (x * 2 ^ by) % count s ≡ 0
multiple_of_count One x by far = multiple_of_pow x by 8 (omega arith)
multiple_of_count Two x by far = multiple_of_pow x by 16 (omega arith)
multiple_of_count Four x by far = multiple_of_pow x by 32 (omega arith)

-- nothing is left of a value that is shifted to the left
pub shifted_left_out : (T : IntegerType) (x by : ℕ) → 32 ≤ by → 0 ≡ shifted_left T x by
shifted_left_out T x by far = sym (multiple_of_count T.size x by far)
