-- What the code keeps of the votes that a server gives.
use Rattle.std.specs.Prelude.{Option, Some, None}
use Rattle.ubik_types.specs.Votes.{Heard, VoteState}
use Rattle.ubik_votes.specs.declared.answers.HeardAt.{HeardAt}
use Rattle.ubik_votes.specs.declared.answers.GivenVotes.{GivenVotes}

abbrev pub heard_of : Option HeardAt → Option Heard
heard_of None = None
heard_of (Some kept) = Some (record { server = kept.server; at = kept.at })

abbrev pub vote_state : GivenVotes → VoteState
vote_state given =
    record { yes_to = given.yes_to; yes_at = given.yes_at; lowest = heard_of given.lowest; sync = heard_of given.sync }
