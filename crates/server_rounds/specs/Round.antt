-- The rounds of a worker (own). A round begins with what is given to it, then one turn is made, then what the turn left is handed over.
use Rattle.std.specs.Prelude.{◌≡◌, ◌≢◌, ℕ, ◌<◌, ◌-◌, Option, None, Some, List, [], ◌∷◌, ◌++◌, length}
use Rattle.ubik_types.specs.Moment.{IsMoment}
use Rattle.server_rounds.specs.Clock.{IsOfClock}
use Rattle.server_rounds.specs.declared.posts.Next.{Next}
use Rattle.server_rounds.specs.declared.posts.Next.TheVariants as next
use Rattle.server_rounds.specs.declared.records.Made.{Made}
use Rattle.server_rounds.specs.declared.records.Record.{Record}
use Rattle.server_rounds.specs.declared.records.Round.{Round}
use Rattle.server_rounds.specs.declared.rounds.RoundEnd.{RoundEnd}
use Rattle.server_rounds.specs.declared.rounds.RoundEnd.TheVariants as round_end
use Rattle.server_rounds.specs.declared.sendings.Sending.{Sending}
use Rattle.server_rounds.specs.declared.turns.Turn.{Turn}
use Rattle.server_rounds.specs.declared.turns.TurnEnd.{TurnEnd}
use Rattle.server_rounds.specs.declared.turns.TurnEnd.TheVariants as turn_end

-- the round that an answer begins
abbrev pub begun : Next → List Round
begun (next.Turn now turn) = record { now = now; turn = turn; made = None; handed = [] } ∷ []
begun next.Ended = []
begun next.NoMemory = []

abbrev pub after_next : Next → Record → Record
after_next answer r = record { last = Some answer; rounds = begun answer ++ r.rounds }

-- the latest round, in which this was made
abbrev pub with_made : Made → List Round → List Round
with_made made [] = []
with_made made (round ∷ earlier) = record round { made = Some made } ∷ earlier

abbrev pub after_turn : ℕ → Turn → TurnEnd → List Sending → Record → Record
after_turn now turn end gives r =
    record r { rounds = with_made (record { now = now; turn = turn; end = end; gives = gives }) r.rounds }

-- the latest round, in which this was handed over too
abbrev pub with_handed : Sending → List Round → List Round
with_handed sending [] = []
with_handed sending (round ∷ earlier) = record round { handed = round.handed ++ sending ∷ [] } ∷ earlier

abbrev pub after_hand : Sending → Record → Record
after_hand sending r = record r { rounds = with_handed sending r.rounds }

-- the record after these were handed over, one after the other
abbrev pub after_hands : List Sending → Record → Record
after_hands [] r = r
after_hands (sending ∷ sendings) r = after_hands sendings (after_hand sending r)

-- nothing was made yet in the latest round
abbrev pub LatestAwaits : List Round → Type 0
LatestAwaits [] = ⊥
LatestAwaits (round ∷ earlier) = round.made ≡ None

abbrev pub AwaitsTurn : Record → Type 0
AwaitsTurn r = LatestAwaits r.rounds

-- fewer were handed over than were made
abbrev pub IsFewer : List Sending → Option Made → Type 0
IsFewer handed None = ⊥
IsFewer handed (Some made) = length handed < length made.gives

abbrev pub LatestHasMore : List Round → Type 0
LatestHasMore [] = ⊥
LatestHasMore (round ∷ earlier) = IsFewer round.handed round.made

abbrev pub HasMore : Record → Type 0
HasMore r = LatestHasMore r.rounds

-- what was made in the latest round is what was handed over, and then these
abbrev pub AreLeft : List Sending → List Sending → Option Made → Type 0
AreLeft sendings handed None = ⊥
AreLeft sendings handed (Some made) = handed ++ sendings ≡ made.gives

abbrev pub LatestHasLeft : List Sending → List Round → Type 0
LatestHasLeft sendings [] = ⊥
LatestHasLeft sendings (round ∷ earlier) = AreLeft sendings round.handed round.made

abbrev pub HasLeft : List Sending → Record → Type 0
HasLeft sendings r = LatestHasLeft sendings r.rounds

-- a turn is given at a moment
abbrev pub IsTimely : Next → Type 0
IsTimely (next.Turn now turn) = IsMoment now
IsTimely next.Ended = Unit {0}
IsTimely next.NoMemory = Unit {0}

-- and at one of a clock
abbrev pub IsClocked : (ℕ → Type 0) → Next → Type 0
IsClocked gave (next.Turn now turn) = IsOfClock gave now
IsClocked gave next.Ended = Unit {0}
IsClocked gave next.NoMemory = Unit {0}

-- The turn given was made, at the moment given. It ended so, and what it left was handed over, all of it and in its order.
abbrev pub whole_round : ℕ → Turn → TurnEnd → List Sending → Round
whole_round now turn end gives =
    record { now = now; turn = turn; made = Some (record { now = now; turn = turn; end = end; gives = gives }); handed = gives }

-- one such round was added
abbrev pub AddsRound : TurnEnd → Record → Record → Type 0
AddsRound end before after =
    (now : ℕ) × (turn : Turn) × (gives : List Sending)
    × (after ≡ record { last = Some (next.Turn now turn); rounds = whole_round now turn end gives ∷ before.rounds })

-- what the record is after a round that ended so
abbrev pub IsAfter : RoundEnd → Record → Record → Type 0
IsAfter round_end.Done before after = AddsRound turn_end.Done before after
IsAfter round_end.Ended before after = after ≡ record { last = Some next.Ended; rounds = before.rounds }
IsAfter round_end.NoMemory before after = after ≡ record { last = Some next.NoMemory; rounds = before.rounds }
IsAfter (round_end.Stopped end) before after = (end ≢ turn_end.Done) × AddsRound end before after

-- all that was handed over, in its order
abbrev pub handed_in : List Round → List Sending
handed_in [] = []
handed_in (round ∷ earlier) = handed_in earlier ++ round.handed

-- how much was made in the latest round and is not handed over
abbrev pub count_left : List Sending → Option Made → ℕ
count_left handed None = 0
count_left handed (Some made) = length made.gives - length handed

abbrev pub left_to_hand : List Round → ℕ
left_to_hand [] = 0
left_to_hand (round ∷ earlier) = count_left round.handed round.made
