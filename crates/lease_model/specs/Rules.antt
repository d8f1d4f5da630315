-- The rules of leases, with their numbers as parameters (own).
use Rattle.std.specs.Prelude.{◌≡◌, ℕ, ◌+◌, ◌*◌, ◌≤◌, Bool, true, List, length}
use Rattle.ubik_types.specs.declared.limits.TheConstants.{SKEW, SMALLTIME, BIGTIME}
use Rattle.ubik_types.specs.Quorum.{is_vote_quorum, SharesServer}

pub record Rules : Type 0 where
  -- by how many seconds two clocks may differ
  pub skew : ℕ
  -- how many seconds a lease lasts after the start that it rests on
  pub lease : ℕ
  -- for how many seconds after a yes its voter says yes to no other server
  pub keep : ℕ
  -- whether a server that starts is bound as by a yes of that moment
  pub start_binds : Bool
  -- which sets of so many servers are a vote quorum
  pub suffices : ℕ → List Bool → Bool

-- the rules of a cell
abbrev pub cell_rules : Rules
cell_rules = record { skew = SKEW; lease = SMALLTIME; keep = BIGTIME; start_binds = true; suffices = is_vote_quorum }

-- two sets that suffice share a server
abbrev pub Overlap : (ℕ → List Bool → Bool) → Type 0
Overlap suffices =
    (n : ℕ) (a b : List Bool) → length a ≡ n → length b ≡ n →
    suffices n a ≡ true → suffices n b ≡ true → SharesServer a b

-- A yes binds its voter for as long as a lease that rests on it can last, by whatever clock, also through a restart; and two vote
-- quorums share a voter.
pub record AreSafe (r : Rules) : Type 0 where
  pub outlasts : r.lease + 2 * r.skew ≤ r.keep
  pub binds : r.start_binds ≡ true
  pub overlap : Overlap r.suffices
