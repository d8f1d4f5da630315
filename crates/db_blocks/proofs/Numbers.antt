-- Numbers in four places.
use Rattle.std.proofs.Common.{◌≡◌, ℕ, ◌+◌, ◌*◌, ◌/◌, ◌%◌, ◌^◌, ◌<◌, [], ◌∷◌, ap, arith}
use Rattle.std.specs.Int.{w32, byte_at, from_be_bytes}
use Rattle.db_blocks.specs.Bytes.{number_word, word}

-- they tell each number
pub number_told : (n : ℕ) → from_be_bytes w32 (number_word n) ≡ n
number_told n =
    let low : n ≡ n / 256 * 256 + n % 256 = omega arith in
    let second : n / 256 ≡ n / 65536 * 256 + n / 256 % 256 = omega arith in
    let third : n / 65536 ≡ n / 16777216 * 256 + n / 65536 % 256 = omega arith in
    omega (arith, low, second, third)

-- and are the bytes of a word, where the number fits one
pub number_fits : (n : ℕ) → n < 2 ^ 32 → number_word n ≡ word n
number_fits n fits =
    let high : n / 16777216 ≡ n / 16777216 % 256 = omega arith in
    ap (λ (b : ℕ). b ∷ byte_at 2 n ∷ byte_at 1 n ∷ byte_at 0 n ∷ []) high
