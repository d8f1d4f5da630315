-- What the order rests on: of a server how it stands, and of the past the book, the announced versions and all packets (own).
use Rattle.std.specs.Prelude.{◌≡◌, ℕ, true, Option, Some, None, List, [], ◌∷◌, ◌++◌}
use Rattle.ubik_types.specs.declared.hosts.Host.{Host}
use Rattle.ubik_types.specs.declared.versions.Version.{Version}
use Rattle.ubik_types.specs.Phase.{PhaseRecord, NoPhase, Poll, Fetch, Relabel, Send, Ready}
use Rattle.ubik_types.specs.Votes.{VoteState}
use Rattle.ubik_calls.specs.declared.packets.Packet.{Packet}
use Rattle.ubik_calls.specs.declared.packets.Body.{Body}
use Rattle.ubik_calls.specs.declared.packets.Body.TheVariants as body
use Rattle.cell_model.specs.declared.events.Output.{Output}
use Rattle.cell_model.specs.declared.events.Output.TheVariants as output
use Rattle.cell_model.specs.Book.{Book, entered}
use Rattle.cell_model.specs.KeptLaws.{IsUngiven}
use Rattle.cell_model.specs.Node.{Server}
use Rattle.cell_model.specs.NodeRule.{place_of}
use Rattle.cell_model.specs.Step.{Member, Basis, Commit_on, Evaluation, Shown, Stepped, host_at}
use Rattle.cell_model.specs.World.{entries_from, packets_of}

-- how a server stands that is up
pub record Stand : Type 0 where
  pub version : Version
  pub votes : VoteState
  pub starts : List (Option ℕ)
  pub opened : ℕ
  pub phase : PhaseRecord

abbrev pub stand_of : Server → Stand
stand_of s = record { version = s.version; votes = s.votes; starts = s.starts; opened = s.opened; phase = s.phase }

-- the book, the versions that were announced, the newest first, and all packets that were sent
pub record History : Type 0 where
  pub book : Book
  pub announced : List Version
  pub packets : List Packet

abbrev pub announced_in : Output → List Version → List Version
announced_in (output.Announce version) before = version ∷ before
announced_in _ before = before

-- with the versions that are announced in what is shown
abbrev pub announced_with : List Shown → List Version → List Version
announced_with [] before = before
announced_with (one ∷ shown) before = announced_with shown (announced_in one.output before)

abbrev pub with_book : History → Book → History
with_book h book = record h { book = book }

abbrev pub with_shown : History → List Shown → History
with_shown h shown = record h { announced = announced_with shown h.announced; packets = h.packets ++ packets_of shown }

-- the history after a step of server k, which had this version
abbrev pub after : History → ℕ → Version → Stepped → History
after h k v t = with_shown (with_book h (entered h.book (entries_from k v t.calls))) t.shown

-- the number of the poll, where a phase is held
abbrev pub number_of : PhaseRecord → Option ℕ
number_of NoPhase = None
number_of (Poll poll) = Some poll.number
number_of (Fetch poll best host) = Some poll.number
number_of (Relabel poll) = Some poll.number
number_of (Send poll spread) = Some poll.number
number_of (Ready poll spread announced) = Some poll.number

abbrev pub IsNumbered : PhaseRecord → ℕ → Type 0
IsNumbered phase number = number_of phase ≡ Some number

-- calls are served under this version
abbrev pub IsServing : PhaseRecord → Version → Type 0
IsServing (Ready poll spread announced) v = announced ≡ v
IsServing _ v = ⊥

-- What a packet of a server tells of it: a ready beacon names the version under which calls are served; a question, or an image or version
-- that is sent, has the number of its poll; an answer names the own version, and the number under which that was asked.
abbrev pub BodyFits : (ℕ → Type 0) → Stand → Body → Type 0
BodyFits Asked c (body.GetVersion poll) = IsNumbered c.phase poll
BodyFits Asked c (body.GetPiece poll version offset) = IsNumbered c.phase poll
BodyFits Asked c (body.SetVersion poll old new) = IsNumbered c.phase poll
BodyFits Asked c (body.SendPiece poll version total offset bytes) = IsNumbered c.phase poll
BodyFits Asked c (body.VersionIs poll version) = (version ≡ c.version) × Asked poll
BodyFits Asked c (body.VersionKept version) = version ≡ c.version
BodyFits Asked c (body.Beacon start claim ready version) = ready ≡ true → IsServing c.phase version
BodyFits Asked c _ = Unit {0}

-- of a packet to a host: `Asked` says which server asked under which number
abbrev pub FitsTo : List Host → (ℕ → ℕ → Type 0) → Stand → Host → Body → Type 0
FitsTo hosts Asked c to b = BodyFits (λ number. (j : ℕ) → place_of hosts to ≡ Some j → Asked j number) c b

-- the reply is not for a commit
abbrev pub IsBeside : Basis → Type 0
IsBeside (Commit_on old new) = ⊥
IsBeside _ = Unit {0}

abbrev pub OutputFits : Member → (ℕ → ℕ → Type 0) → Stand → Output → Option Evaluation → Type 0
OutputFits m Asked c (output.Send packet) e = (packet.from ≡ host_at m.hosts m.me) × FitsTo m.hosts Asked c packet.to packet.body
OutputFits m Asked c (output.Reply id r) e = (e ≡ None) × IsUngiven r
OutputFits m Asked c (output.Announce version) e = ⊥

-- so of each packet that is shown; nothing is announced, and no reply is that of a database
abbrev pub AllFit : Member → (ℕ → ℕ → Type 0) → Stand → List Shown → Type 0
AllFit m Asked c [] = Unit {0}
AllFit m Asked c (one ∷ shown) = OutputFits m Asked c one.output one.evaluation × AllFit m Asked c shown

-- what a packet of server k brings: it asks under a number, answers a poll, or says that it keeps a version
abbrev pub Brings : (ℕ → ℕ → Type 0) → (ℕ → ℕ → Version → Type 0) → (ℕ → Version → Type 0) → ℕ → Body → Type 0
Brings Asked Answered Kept k (body.GetVersion poll) = Asked k poll
Brings Asked Answered Kept k (body.GetPiece poll version offset) = Asked k poll
Brings Asked Answered Kept k (body.SetVersion poll old new) = Asked k poll
Brings Asked Answered Kept k (body.SendPiece poll version total offset bytes) = Asked k poll
Brings Asked Answered Kept k (body.VersionIs poll version) = Answered k poll version × Kept k version
Brings Asked Answered Kept k (body.VersionKept version) = Kept k version
Brings Asked Answered Kept k _ = Unit {0}
