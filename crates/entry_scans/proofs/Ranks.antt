-- Ids ascend as their ranks do.
use Rattle.std.proofs.Common.{◌≡◌, ℤ, pos, negsuc, zero, suc, ◌+◌, ◌-◌, ◌≤◌, ◌+ℤ◌, refl, ap, arith}
use Rattle.std.specs.Prelude.{◌≤ℤ◌}
use Rattle.std.proofs.lemmas.Int.{ints}
use Rattle.prdb_layout.specs.State.{IsId}
use Rattle.entry_scans.specs.Pages.{rank_of}

pub rank_up : (a b : ℤ) → a ≤ℤ b → rank_of a ≤ rank_of b
rank_up (pos n) (pos k) most = omega (arith, ints, most)
rank_up (pos n) (negsuc k) most = absurd (omega (arith, ints, most))
rank_up (negsuc n) (pos k) most = omega arith
rank_up (negsuc n) (negsuc k) most = omega (arith, ints, most)

pub rank_back : (a b : ℤ) → negsuc 2147483646 ≤ℤ a → rank_of a ≤ rank_of b → a ≤ℤ b
rank_back (pos n) (pos k) low most = omega (arith, ints, most)
rank_back (pos n) (negsuc k) low most = absurd (omega (arith, most))
rank_back (negsuc n) (pos k) low most = omega (arith, ints)
rank_back (negsuc n) (negsuc k) low most = omega (arith, ints, low, most)

pub id_low : (a : ℤ) → IsId a → negsuc 2147483646 ≤ℤ a
id_low (pos n) id = omega (arith, ints)
id_low (negsuc n) id = omega (arith, ints, id)

pub rank_next : (a : ℤ) → IsId a → rank_of (a +ℤ pos 1) ≡ rank_of a + 1
rank_next (pos n) id = omega arith
rank_next (negsuc zero) id = refl
rank_next (negsuc (suc n)) id =
    let next : (negsuc (suc n) +ℤ pos 1) ≡ negsuc n = omega (arith, ints) in
    let rank : rank_of (negsuc (suc n) +ℤ pos 1) ≡ 2147483647 - n = ap rank_of next in
    omega (arith, id, rank)

both_ways : (a b : ℤ) → a ≤ℤ b → b ≤ℤ a → a ≡ b
both_ways a b one two = omega (arith, ints, one, two)

pub rank_same : (a b : ℤ) → IsId a → IsId b → rank_of a ≡ rank_of b → a ≡ b
rank_same a b one two same =
    both_ways a b (rank_back a b (id_low a one) (omega (arith, same))) (rank_back b a (id_low b two) (omega (arith, same)))

pub low_next : (a : ℤ) → negsuc 2147483646 ≤ℤ a → negsuc 2147483646 ≤ℤ (a +ℤ pos 1)
low_next a low = omega (arith, ints, low)
