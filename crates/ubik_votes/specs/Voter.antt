-- What contracts see of a server's votes. Servers are their places in the cell, moments are whole seconds.
use Rattle.std.specs.Prelude.{ℕ, ◌<◌, Bool, List, Option, IfSome}
use Rattle.ubik_types.specs.Votes.{VoteState, fresh_votes, answered, beacon_is_due}
use Rattle.ubik_types.specs.Lease.{no_starts, with_start, lease_end, is_in_lease, vote_counted}

pub record Voter : Type 0 where
  -- how many servers the cell has, and which of them this is
  pub servers : ℕ
  pub me : ℕ
  -- the moment of its opening
  pub opened : ℕ
  -- the votes that it gives
  pub votes : VoteState
  -- for each server the greatest start for which its yes was counted
  pub starts : List (Option ℕ)

-- each server that a vote state names is one of the first n
pub record IsWithin (n : ℕ) (votes : VoteState) : Type 0 where
  pub yes_to : IfSome votes.yes_to (λ server. server < n)
  pub lowest : IfSome votes.lowest (λ heard. heard.server < n)
  pub sync : IfSome votes.sync (λ heard. heard.server < n)

-- a server that has just started has asked for no vote
abbrev pub fresh_voter : ℕ → ℕ → ℕ → Voter
fresh_voter n me now =
    record { servers = n; me = me; opened = now; votes = fresh_votes now; starts = no_starts n }

-- the server after it answered a beacon
abbrev pub after_beacon : Voter → ℕ → ℕ → Bool → Voter
after_beacon voter now from claim = record voter { votes = answered voter.votes now from claim }

-- the server after its own beacon: it voted for itself, and counted that
abbrev pub after_own_beacon : Voter → ℕ → Bool → Voter
after_own_beacon voter now claim =
    record voter { votes = answered voter.votes now voter.me claim; starts = with_start voter.starts voter.me now }

-- the server after a vote on its beacon
abbrev pub after_vote : Voter → ℕ → ℕ → Bool → Voter
after_vote voter from start vote =
    record voter { starts = vote_counted voter.opened voter.me voter.starts from start vote }

abbrev pub leased_until : Voter → ℕ
leased_until voter = lease_end voter.servers voter.starts

abbrev pub is_leased : Voter → ℕ → Bool
is_leased voter now = is_in_lease voter.servers voter.starts now

-- the server would vote for itself, its claim being that it is in lease
abbrev pub is_due : Voter → ℕ → Bool
is_due voter now = beacon_is_due voter.votes now voter.me (is_leased voter now)
