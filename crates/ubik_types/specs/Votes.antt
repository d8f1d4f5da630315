-- The vote state of a server (Kazar, "Ubik": a server votes for one host at a time, for 75 seconds; that it
-- prefers the sync site, and else the lowest host, is own). Servers are their places in the cell, moments
-- are whole seconds.
use Rattle.std.specs.Prelude.{ℕ, ◌+◌, Bool, false, ◌==◌, ◌&&◌, ◌||◌, nat_lt, if◌then◌else◌, Option, Some, None, option_map}
use Rattle.ubik_types.specs.declared.limits.TheConstants.{BIGTIME}

-- a server, and when it was heard
pub record Heard : Type 0 where
  pub server : ℕ
  pub at : ℕ

pub record VoteState : Type 0 where
  -- to whom the last yes went, and when; after a start: to nobody, at the start
  pub yes_to : Option ℕ
  pub yes_at : ℕ
  -- the lowest server heard
  pub lowest : Option Heard
  -- the server that was heard to claim the lease
  pub sync : Option Heard

-- Fresh votes: a server that starts may have voted just now, before it stopped.
abbrev pub fresh_votes : ℕ → VoteState
fresh_votes now = record { yes_to = None; yes_at = now; lowest = None; sync = None }

-- who was heard is forgotten after 75 seconds
abbrev pub still_heard : ℕ → Option Heard → Option Heard
still_heard now None = None
still_heard now (Some h) = if nat_lt (h.at + BIGTIME) now then None else Some h

-- a server not above the lowest takes its place
abbrev pub lowest_with : ℕ → ℕ → Option Heard → Option Heard
lowest_with now server None = Some (record { server = server; at = now })
lowest_with now server (Some h) = if nat_lt h.server server then Some h else Some (record { server = server; at = now })

-- a server that no longer claims is no sync host
abbrev pub sync_without : ℕ → Option Heard → Option Heard
sync_without server None = None
sync_without server (Some h) = if h.server == server then None else Some h

abbrev pub sync_with : ℕ → ℕ → Bool → Option Heard → Option Heard
sync_with now server claim kept = if claim then Some (record { server = server; at = now }) else sync_without server kept

-- Beacon heard: the state after a beacon of a server, which claims the lease or not.
abbrev pub beacon_heard : VoteState → ℕ → ℕ → Bool → VoteState
beacon_heard votes now server claim =
    record votes {
      lowest = lowest_with now server (still_heard now votes.lowest);
      sync = sync_with now server claim (still_heard now votes.sync);
    }

abbrev pub is_server : ℕ → Option ℕ → Bool
is_server server None = false
is_server server (Some other) = other == server

-- whom the votes go to: the sync host, or where there is none the lowest
abbrev pub prefers : Option Heard → Option Heard → ℕ → Bool
prefers None None server = false
prefers None (Some lowest) server = lowest.server == server
prefers (Some sync) _ server = sync.server == server

-- Vote: yes where the last yes is past or went to this server, and no other is preferred.
abbrev pub says_yes : VoteState → ℕ → ℕ → Bool
says_yes votes now server =
    (nat_lt (votes.yes_at + BIGTIME) now || is_server server votes.yes_to) && prefers votes.sync votes.lowest server

-- the answer to a beacon
abbrev pub answers_yes : VoteState → ℕ → ℕ → Bool → Bool
answers_yes votes now server claim = says_yes (beacon_heard votes now server claim) now server

-- the state after the beacon and its answer: a yes is kept
abbrev pub answered : VoteState → ℕ → ℕ → Bool → VoteState
answered votes now server claim =
    if answers_yes votes now server claim
    then record (beacon_heard votes now server claim) { yes_to = Some server; yes_at = now }
    else beacon_heard votes now server claim

-- Own beacon: due where the server would say yes to its own beacon, its claim being that it is in lease.
abbrev pub beacon_is_due : VoteState → ℕ → ℕ → Bool → Bool
beacon_is_due votes now me in_lease = answers_yes votes now me in_lease

-- the sync host that was heard within 75 seconds, and when
abbrev pub sync_heard : ℕ → VoteState → Option (ℕ × ℕ)
sync_heard now votes = option_map (λ (h : Heard). (h.server, h.at)) (still_heard now votes.sync)
