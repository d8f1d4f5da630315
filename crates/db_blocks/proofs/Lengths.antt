-- How many bytes there are.
use Rattle.std.proofs.Common.{◌≡◌, ℕ, zero, suc, length, refl, ap}
use Rattle.db_blocks.specs.Bytes.{zeros}

pub length-zeros : (n : ℕ) → length (zeros n) ≡ n
unfolding zeros
length-zeros zero = refl
length-zeros (suc n) = ap suc (length-zeros n)
