-- How what the code keeps stands for a server's votes.
use Rattle.std.specs.Prelude.{◌≡◌, ◌<◌, ◌≤◌, take, length}
use Rattle.ubik_types.specs.declared.limits.TheConstants.{MAXSERVERS}
use Rattle.ubik_votes.specs.Voter.{Voter, IsWithin}
use Rattle.ubik_votes.specs.Answers.{vote_state}
use Rattle.ubik_votes.specs.Greatest.{AreMoments}
use Rattle.ubik_votes.specs.declared.voters.Votes.TheInside.{Inside}

abbrev pub voter_of : Inside → Voter
voter_of v = record {
  servers = v.servers;
  me = v.me;
  opened = v.opened;
  votes = vote_state v.given;
  starts = take v.servers v.starts;
}

-- the servers that are named are of the cell, and the starts are moments
pub record IsInOrder (v : Inside) : Type 0 where
  pub not_more : v.servers ≤ MAXSERVERS
  pub me : v.me < v.servers
  pub within : IsWithin v.servers (vote_state v.given)
  pub room : length v.starts ≡ MAXSERVERS
  pub moments : AreMoments v.starts
