-- The lease of a server (Kazar, "Ubik": for 60 seconds after the start of votes of a quorum). A server keeps
-- for each server of the cell, in their order, the greatest start for which that one's yes was counted.
use Rattle.std.specs.Prelude.{ℕ, zero, suc, ◌+◌, Bool, false, ◌==◌, ◌&&◌, nat_lt, nat_le, max, if◌then◌else◌, Option, Some, None, List, [], ◌∷◌, map, replicate}
use Rattle.ubik_types.specs.declared.limits.TheConstants.{SMALLTIME}
use Rattle.ubik_types.specs.Quorum.{is_vote_quorum}

-- nothing is counted after an opening, in a cell of n servers
abbrev pub no_starts : ℕ → List (Option ℕ)
no_starts n = replicate n None

-- the greater start
abbrev pub counted : Option ℕ → ℕ → Option ℕ
counted None start = Some start
counted (Some before) start = Some (max before start)

-- Counted votes: a yes of a server for a start is counted
abbrev pub with_start : List (Option ℕ) → ℕ → ℕ → List (Option ℕ)
with_start [] server start = []
with_start (s ∷ starts) zero start = counted s start ∷ starts
with_start (s ∷ starts) (suc server) start = s ∷ with_start starts server start

abbrev pub is_from : ℕ → Option ℕ → Bool
is_from s None = false
is_from s (Some start) = nat_le s start

-- the start that stands for a server
abbrev pub start_of : List (Option ℕ) → ℕ → Option ℕ
start_of [] server = None
start_of (s ∷ starts) zero = s
start_of (s ∷ starts) (suc server) = start_of starts server

-- a yes for a start counts after the opening, and up to the last start that the server asked votes for: the
-- one for which its own yes was counted
abbrev pub is_counted : ℕ → ℕ → List (Option ℕ) → ℕ → Bool
is_counted opened me starts start = nat_lt opened start && is_from start (start_of starts me)

-- the starts after a vote: a no takes nothing away
abbrev pub vote_counted : ℕ → ℕ → List (Option ℕ) → ℕ → ℕ → Bool → List (Option ℕ)
vote_counted opened me starts from start vote =
    if vote && is_counted opened me starts start then with_start starts from start else starts

-- the servers whose greatest counted start is at least s
abbrev pub supporters : List (Option ℕ) → ℕ → List Bool
supporters starts s = map (is_from s) starts

-- the greatest of some starts that a vote quorum of n servers supports; 0 where there is none
abbrev pub quorum_start : ℕ → List (Option ℕ) → List (Option ℕ) → ℕ
quorum_start n starts [] = 0
quorum_start n starts (None ∷ among) = quorum_start n starts among
quorum_start n starts (Some s ∷ among) =
    if is_vote_quorum n (supporters starts s) then max s (quorum_start n starts among) else quorum_start n starts among

-- a lease of a start: 60 seconds more; of none: 0
abbrev pub lease_from : ℕ → ℕ
lease_from s = if s == 0 then 0 else SMALLTIME + s

-- the last moment of the lease; 0 where there is none. Moments begin at 1.
abbrev pub lease_end : ℕ → List (Option ℕ) → ℕ
lease_end n starts = lease_from (quorum_start n starts starts)

abbrev pub is_in_lease : ℕ → List (Option ℕ) → ℕ → Bool
is_in_lease n starts now = nat_le now (lease_end n starts)
