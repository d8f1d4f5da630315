-- What every run keeps of the order, part by part: why each list that is announced begins each later one (own).
use Rattle.std.specs.Prelude.{◌≡◌, ℕ, ◌<◌, ◌≤◌, ◌⊎◌, Bool, true, Option, Some, None, List, [], ◌∷◌, length, slice_get}
use Rattle.ubik_types.specs.declared.hosts.Host.{Host}
use Rattle.ubik_types.specs.declared.versions.Version.{Version}
use Rattle.ubik_types.specs.Phase.{PhaseRecord, NoPhase, Poll, Fetch, Send, Ready}
use Rattle.ubik_types.specs.Quorum.{is_majority, is_vote_quorum}
use Rattle.ubik_types.specs.Version.{version_lt, zero_version}
use Rattle.ubik_types.specs.Votes.{VoteState}
use Rattle.ubik_calls.specs.declared.packets.Packet.{Packet}
use Rattle.ubik_calls.specs.declared.packets.Body.{Body}
use Rattle.ubik_calls.specs.declared.packets.Body.TheVariants as body
use Rattle.ubik_votes.specs.Greatest.{RestsOnGreatest}
use Rattle.lease_model.specs.Rules.{Overlap}
use Rattle.cell_model.specs.Book.{Book, list_of}
use Rattle.cell_model.specs.Durable.{Transaction}
use Rattle.cell_model.specs.NodeRule.{place_of}
use Rattle.cell_laws.specs.Invariant.{AllVersions}
use Rattle.cell_pages.specs.Parts.{AtMost}
use Rattle.cell_orders.specs.Histories.{number_of}

-- what is known of votes and leases
pub record Premises : Type 0 where
  pub overlap : Overlap is_vote_quorum
  pub rests : (n : ℕ) (starts : List (Option ℕ)) → RestsOnGreatest n starts

-- ---- announced versions

abbrev pub AllAnnounced : (Version → Type 0) → List Version → Type 0
AllAnnounced P [] = Unit {0}
AllAnnounced P (v ∷ announced) = P v × AllAnnounced P announced

-- the version that was announced last; before any the first one
abbrev pub last_announced : List Version → Version
last_announced [] = zero_version
last_announced (newest ∷ earlier) = newest

abbrev pub IsListed : Book → Version → Type 0
IsListed book v = (list : List Transaction) × (list_of book v ≡ Some list)

-- each version above this one goes on from this one or from one above it
abbrev pub FollowFrom : Book → Version → Type 0
FollowFrom book u = AllVersions (λ b. version_lt u b.version ≡ true → AtMost u b.before) book

-- announced versions, the newest first: none is below one before it
abbrev pub AnnouncedRise : List Version → Type 0
AnnouncedRise [] = Unit {0}
AnnouncedRise (newest ∷ earlier) = AllAnnounced (λ u. AtMost u newest) earlier × AnnouncedRise earlier

-- Announced: they have lists, they rise, and what is above one of them goes on from there.
pub record IsOrdered (book : Book) (announced : List Version) : Type 0 where
  pub listed : AllAnnounced (IsListed book) announced
  pub rise : AnnouncedRise announced
  pub follow : AllAnnounced (FollowFrom book) announced

-- A majority keeps: each of them has gone on from the last announced version. `V` tells the durable version of each server.
pub record HasMajority (n : ℕ) (V : ℕ → Version) (announced : List Version) : Type 0 where
  pub set : List Bool
  pub each : length set ≡ n
  pub most : is_majority n set ≡ true
  pub keeps : (j : ℕ) → slice_get set j ≡ Some true → AtMost (last_announced announced) (V j)

-- ---- packets

-- the packet is one of these
abbrev pub WasSent : List Packet → Packet → Type 0
WasSent [] p = ⊥
WasSent (q ∷ packets) p = (q ≡ p) ⊎ WasSent packets p

-- it asks under this number, or sends an image or a version under it
abbrev pub AsksUnder : ℕ → Body → Type 0
AsksUnder number (body.GetVersion poll) = poll ≡ number
AsksUnder number (body.GetPiece poll version offset) = poll ≡ number
AsksUnder number (body.SetVersion poll old new) = poll ≡ number
AsksUnder number (body.SendPiece poll version total offset bytes) = poll ≡ number
AsksUnder number _ = ⊥

-- server j has asked under this number
abbrev pub IsAsked : List Host → List Packet → ℕ → ℕ → Type 0
IsAsked hosts packets j number =
    (p : Packet) × WasSent packets p × (place_of hosts p.from ≡ Some j) × AsksUnder number p.body

-- server k has told server j of this version, under this number
abbrev pub IsAnswered : List Host → List Packet → ℕ → ℕ → ℕ → Version → Type 0
IsAnswered hosts packets j k number v =
    (p : Packet) × WasSent packets p × (place_of hosts p.from ≡ Some k) × (place_of hosts p.to ≡ Some j)
    × (p.body ≡ body.VersionIs number v)

abbrev pub NamesAtMost : Version → Body → Type 0
NamesAtMost v (body.VersionIs number x) = AtMost x v
NamesAtMost v (body.VersionKept x) = AtMost x v
NamesAtMost v _ = Unit {0}

-- Kept is kept: who said that it has a version has from then on that one or one above it.
abbrev pub KeptIsKept : List Host → List Packet → (ℕ → Version) → Type 0
KeptIsKept hosts packets V = (p : Packet) (j : ℕ) → WasSent packets p → place_of hosts p.from ≡ Some j → NamesAtMost (V j) p.body

abbrev pub IsTo : (ℕ → Type 0) → Body → Type 0
IsTo Asked (body.VersionIs number x) = Asked number
IsTo Asked _ = Unit {0}

-- each version that a server is told of has a number under which it asked
abbrev pub AnswersAsked : List Host → List Packet → Type 0
AnswersAsked hosts packets = (p : Packet) (j : ℕ) → WasSent packets p → place_of hosts p.to ≡ Some j → IsTo (IsAsked hosts packets j) p.body

-- Poll numbers: no server asked under one past its clock. `C` tells the clocks.
abbrev pub NumbersPast : List Host → List Packet → (ℕ → ℕ) → Type 0
NumbersPast hosts packets C = (j number : ℕ) → IsAsked hosts packets j number → number ≤ C j

-- ---- one server

-- Openings: the last yes is not before the opening, and after it where it went to somebody; starts are counted from after the opening.
pub record HasOpened (n now opened : ℕ) (votes : VoteState) (starts : List (Option ℕ)) : Type 0 where
  pub before : opened ≤ votes.yes_at
  pub past : votes.yes_at ≤ now
  pub given : (j : ℕ) → votes.yes_to ≡ Some j → opened < votes.yes_at
  pub counted : (v s : ℕ) → slice_get starts v ≡ Some (Some s) → (opened < s) × (s ≤ now)
  pub each : length starts ≡ n

-- Poll numbers of a server that is up: none is past that of the poll; without a phase each is past, or none is past the opening.
abbrev pub NumbersUpTo : (ℕ → Type 0) → (opened now : ℕ) → Option ℕ → Type 0
NumbersUpTo Asked opened now None = (number : ℕ) → Asked number → (number ≤ opened) ⊎ (number < now)
NumbersUpTo Asked opened now (Some poll) = (number : ℕ) → Asked number → number ≤ poll

-- Held phases: the poll is not past the clock, nor past the lease.
abbrev pub HeldSince : (now until : ℕ) → Option ℕ → Type 0
HeldSince now until None = Unit {0}
HeldSince now until (Some poll) = (poll ≤ now) × (poll ≤ until)

-- each holder has the version, or one above it
pub record HoldersKeep (n : ℕ) (V : ℕ → Version) (version : Version) (holders : List Bool) : Type 0 where
  pub each : length holders ≡ n
  pub keep : (j : ℕ) → slice_get holders j ≡ Some true → AtMost version (V j)

abbrev pub PhaseKeeps : ℕ → (ℕ → Version) → Version → PhaseRecord → Type 0
PhaseKeeps n V version (Poll poll) = length poll.answers ≡ n
PhaseKeeps n V version (Send poll spread) = HoldersKeep n V version spread.holders
PhaseKeeps n V version (Ready poll spread announced) = HoldersKeep n V version spread.holders
PhaseKeeps n V version _ = Unit {0}

-- a majority that keeps the last announced version, and no answer of theirs to this poll is below it
pub record AnswersKeep (n : ℕ) (V : ℕ → Version) (Answered : ℕ → Version → Type 0) (announced : List Version) : Type 0 where
  pub majority : HasMajority n V announced
  pub told : (j : ℕ) (v : Version) → slice_get majority.set j ≡ Some true → Answered j v → AtMost (last_announced announced) v

-- The poll: the own version is at least the last announced one, or the answers of a majority are.
abbrev pub PollKeeps : ℕ → (ℕ → Version) → (ℕ → ℕ → Version → Type 0) → List Version → Version → Option ℕ → Type 0
PollKeeps n V Answered announced version None = Unit {0}
PollKeeps n V Answered announced version (Some poll) =
    AtMost (last_announced announced) version ⊎ AnswersKeep n V (λ j. Answered j poll) announced

-- an answer that is counted: the own one, or one that was told
abbrev pub IsCounted : (me : ℕ) → Version → (ℕ → Version → Type 0) → ℕ → Version → Type 0
IsCounted me version Answered j v = ((j ≡ me) × AtMost v version) ⊎ Answered j v

-- Where the leader stands: from relabelling on its own version is at least the last announced one.
abbrev pub LeaderStands : (me : ℕ) → (ℕ → ℕ → Version → Type 0) → List Version → Version → PhaseRecord → Type 0
LeaderStands me Answered announced version NoPhase = Unit {0}
LeaderStands me Answered announced version (Poll poll) =
    (j : ℕ) (v : Version) → slice_get poll.answers j ≡ Some (Some v) → IsCounted me version (λ i. Answered i poll.number) j v
LeaderStands me Answered announced version (Fetch poll best host) = AtMost (last_announced announced) best
LeaderStands me Answered announced version _ = AtMost (last_announced announced) version

-- the version was announced last
abbrev pub IsLast : List Version → Version → Type 0
IsLast [] v = ⊥
IsLast (newest ∷ earlier) v = newest ≡ v

-- a server that serves has the version that was announced last
abbrev pub ServesLast : List Version → PhaseRecord → Type 0
ServesLast announced (Ready poll spread v) = IsLast announced v
ServesLast announced _ = Unit {0}

-- of a server that is in lease
pub record IsLeading (n me : ℕ) (V : ℕ → Version) (Answered : ℕ → ℕ → Version → Type 0) (announced : List Version) (version : Version)
    (phase : PhaseRecord) :
    Type 0 where
  pub poll : PollKeeps n V Answered announced version (number_of phase)
  pub stands : LeaderStands me Answered announced version phase
  pub serves : ServesLast announced phase
