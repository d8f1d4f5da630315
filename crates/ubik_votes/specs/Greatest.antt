-- What a lease rests on, said of all numbers.
use Rattle.std.specs.Prelude.{◌≡◌, ℕ, ◌<◌, ◌^◌, max, if◌then◌else◌, Option, Some, None, IfSome, List, [], ◌∷◌}
use Rattle.ubik_types.specs.Quorum.{IsVoteQuorum, is_vote_quorum}
use Rattle.ubik_types.specs.Lease.{supporters, lease_from, lease_end}

-- of n servers, those whose greatest counted start is at least s are a vote quorum
abbrev pub IsSupported : ℕ → List (Option ℕ) → ℕ → Type 0
IsSupported n starts s = IsVoteQuorum n (supporters starts s)

-- `best` is supported and no greater number is; 0 stands for none
pub record IsGreatestSupported (n : ℕ) (starts : List (Option ℕ)) (best : ℕ) : Type 0 where
  pub supported : 0 < best → IsSupported n starts best
  pub no_greater : (s : ℕ) → best < s → ¬ IsSupported n starts s

-- the lease is that of the greatest start that is supported
abbrev pub RestsOnGreatest : ℕ → List (Option ℕ) → Type 0
RestsOnGreatest n starts = (s : ℕ) × IsGreatestSupported n starts s × (lease_end n starts ≡ lease_from s)

-- each start fits a moment
abbrev pub AreMoments : List (Option ℕ) → Type 0
AreMoments [] = Unit {0}
AreMoments (s ∷ starts) = IfSome s (λ start. start < 2 ^ 31) × AreMoments starts

-- the greater of two starts, of which the second counts only where it is supported
abbrev pub better_start : ℕ → List (Option ℕ) → ℕ → Option ℕ → ℕ
better_start n starts best None = best
better_start n starts best (Some s) = if is_vote_quorum n (supporters starts s) then max best s else best
