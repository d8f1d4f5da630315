-- What a post in memory gives.
use Rattle.std.specs.Prelude.{◌≡◌, ◌⊎◌, ℕ, Option, None, Some, List, [], ◌∷◌, IfSome}
use Rattle.server_rounds.specs.declared.memory_posts.MemPost.{MemPost}
use Rattle.server_rounds.specs.declared.memory_posts.MemRound.{MemRound}
use Rattle.server_rounds.specs.declared.memory_posts.Given.{Given}
use Rattle.server_rounds.specs.declared.posts.Next.{Next}
use Rattle.server_rounds.specs.declared.posts.Next.TheVariants as next
use Rattle.server_rounds.specs.declared.records.Record.{Record}
use Rattle.server_rounds.specs.declared.sendings.Sending.{Sending}
use Rattle.server_rounds.specs.declared.turns.TurnEnd.{TurnEnd}
use Rattle.server_rounds.specs.declared.turns.TurnEnd.TheVariants as turn_end

-- the rounds that it has not given yet
abbrev pub rounds_left : MemPost → List MemRound
rounds_left post = post.rounds.items

-- what it has on record
abbrev pub told_by : MemPost → Record
told_by post = post.told.value

-- how the turn of the round that it gave last is to end
abbrev pub given_by : MemPost → Option Given
given_by post = post.given

-- what is given where these rounds are left
abbrev pub next_of : List MemRound → Next
next_of [] = next.Ended
next_of (round ∷ later) = next.Turn round.now round.turn

-- what the turn of that round leaves
abbrev pub given_of : List MemRound → Option Given
given_of [] = None
given_of (round ∷ later) = Some (record { end = round.end; gives = round.gives })

abbrev pub later_than : List MemRound → List MemRound
later_than [] = []
later_than (round ∷ later) = later

-- a turn ends as it is to end and leaves what it is to leave, or ends for want of memory and leaves nothing
abbrev pub IsGiven : TurnEnd → List Sending → Given → Type 0
IsGiven end gives given = ((end ≡ given.end) × (gives ≡ given.gives)) ⊎ ((end ≡ turn_end.NoMemory) × (gives ≡ []))
