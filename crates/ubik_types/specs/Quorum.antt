-- Which sets of servers decide (Kazar, "Ubik": the lowest server has half a vote more).
-- A set of servers is the list of its marks, in the order of the servers.
use Rattle.std.specs.Prelude.{ℕ, ◌≡◌, true, Some, slice_get, ◌+◌, ◌*◌, ◌/◌, ◌<◌, ◌≤◌, Bool, List, [], ◌∷◌, count_by, nat_lt, nat_le, if◌then◌else◌, take}

-- how many servers are in the set
abbrev pub size : List Bool → ℕ
size set = count_by (λ marked. marked) set

-- 1 where the lowest server is in the set, else 0
abbrev pub lowest_bonus : List Bool → ℕ
lowest_bonus [] = 0
lowest_bonus (first ∷ _) = if first then 1 else 0

-- of n servers the set is a vote quorum: twice its size, with one more for the lowest server, exceeds n
abbrev pub is_vote_quorum : ℕ → List Bool → Bool
is_vote_quorum n set = nat_lt n (2 * size set + lowest_bonus set)

abbrev pub IsVoteQuorum : ℕ → List Bool → Type 0
IsVoteQuorum n set = n < 2 * size set + lowest_bonus set

-- of n servers the set has more than half
abbrev pub is_majority : ℕ → List Bool → Bool
is_majority n set = nat_le (n / 2 + 1) (size set)

abbrev pub IsMajority : ℕ → List Bool → Type 0
IsMajority n set = n / 2 + 1 ≤ size set

-- the set that marks make in a cell of n servers: later marks do not count
abbrev pub marked : ℕ → List Bool → List Bool
marked n marks = take n marks

-- some server is in both sets
abbrev pub SharesServer : List Bool → List Bool → Type 0
SharesServer a b = (k : ℕ) × (slice_get a k ≡ Some true) × (slice_get b k ≡ Some true)
