-- The wire grammar: how each frame is spelled, one case a kind (the layout is own).
use Rattle.std.specs.Prelude.{ℕ, ◌≤◌, Bool, true, false, List, [], ◌∷◌, ◌++◌, length}
use Rattle.std.specs.List.{AllByRecursion}
use Rattle.ubik_types.specs.declared.phases.Applied.{Applied}
use Rattle.ubik_types.specs.declared.phases.Applied.TheVariants.{No, Unknown}
use Rattle.ubik_calls.specs.declared.frames.Frame.{Frame}
use Rattle.ubik_calls.specs.declared.frames.Frame.TheVariants as frame
use Rattle.ubik_calls.specs.declared.packets.Body.{Body}
use Rattle.ubik_calls.specs.declared.packets.Body.TheVariants.{Beacon, Vote, GetVersion, VersionIs, GetPiece, Piece, SendPiece, PieceKept, SetVersion, Begin, PutPiece, Commit, Abort, VersionKept}
use Rattle.ubik_calls.specs.declared.replies.DebugIs.{DebugIs}
use Rattle.ubik_calls.specs.declared.replies.Reply.{Reply}
use Rattle.ubik_calls.specs.declared.replies.Reply.TheVariants as reply
use Rattle.xdr_base.specs.Spelling.{word}
use Rattle.ubik_calls.specs.Fields as field
use Rattle.ubik_calls.specs.Fields.{Field, Number, Long, Truth, VersionOf, PhaseOf, AsTheyAre, spelled, IsBounded, IsOfItsBits}

abbrev pub packet_kind : Body → ℕ
packet_kind (Beacon start claim ready version) = 1
packet_kind (Vote start granted) = 2
packet_kind (GetVersion poll) = 3
packet_kind (VersionIs poll version) = 4
packet_kind (GetPiece poll version offset) = 5
packet_kind (Piece poll version total offset bytes) = 6
packet_kind (SendPiece poll version total offset bytes) = 7
packet_kind (PieceKept poll version next) = 8
packet_kind (SetVersion poll old new) = 9
packet_kind (Begin old new pieces len) = 10
packet_kind (PutPiece new number bytes) = 11
packet_kind (Commit old new) = 12
packet_kind (Abort new) = 13
packet_kind (VersionKept version) = 14

abbrev pub body_fields : Body → List Field
body_fields (Beacon start claim ready version) = Number start ∷ Truth claim ∷ Truth ready ∷ VersionOf version ∷ []
body_fields (Vote start granted) = Number start ∷ Truth granted ∷ []
body_fields (GetVersion poll) = Number poll ∷ []
body_fields (VersionIs poll version) = Number poll ∷ VersionOf version ∷ []
body_fields (GetPiece poll version offset) = Number poll ∷ VersionOf version ∷ Number offset ∷ []
body_fields (Piece poll version total offset bytes) = Number poll ∷ VersionOf version ∷ Number total ∷ Number offset ∷ field.Piece bytes ∷ []
body_fields (SendPiece poll version total offset bytes) = Number poll ∷ VersionOf version ∷ Number total ∷ Number offset ∷ field.Piece bytes ∷ []
body_fields (PieceKept poll version next) = Number poll ∷ VersionOf version ∷ Number next ∷ []
body_fields (SetVersion poll old new) = Number poll ∷ VersionOf old ∷ VersionOf new ∷ []
body_fields (Begin old new pieces len) = VersionOf old ∷ VersionOf new ∷ Number pieces ∷ Number len ∷ []
body_fields (PutPiece new number bytes) = VersionOf new ∷ Number number ∷ field.Piece bytes ∷ []
body_fields (Commit old new) = VersionOf old ∷ VersionOf new ∷ []
body_fields (Abort new) = VersionOf new ∷ []
body_fields (VersionKept version) = VersionOf version ∷ []

abbrev pub is_unknown : Applied → Bool
is_unknown No = false
is_unknown Unknown = true

-- a reply: its tag, then its fields
abbrev pub reply_fields : Reply → List Field
reply_fields (reply.Ok answer) = Number 0 ∷ AsTheyAre answer ∷ []
reply_fields (reply.Rule number) = Number 1 ∷ Number number ∷ []
reply_fields (reply.NoQuorum now until phase applied) = Number 2 ∷ Number now ∷ Number until ∷ PhaseOf phase ∷ Truth (is_unknown applied) ∷ []
reply_fields (reply.NotSync host heard) = Number 3 ∷ Number host.0 ∷ Number heard ∷ []
reply_fields (reply.LineFull holder) = Number 4 ∷ Number holder ∷ []
reply_fields (reply.TooLarge bytes) = Number 5 ∷ Long bytes ∷ []
reply_fields reply.Malformed = Number 6 ∷ []
reply_fields reply.DiskFault = Number 7 ∷ []
reply_fields reply.NoMemory = Number 8 ∷ []
reply_fields (reply.BadRecord place) = Number 9 ∷ Number place ∷ []

abbrev pub debug_fields : DebugIs → List Field
debug_fields is =
    Number is.host.0 ∷ Number is.now ∷ VersionOf is.version ∷ PhaseOf is.phase
    ∷ Number is.until ∷ Number is.sync.0 ∷ Number is.voted.0 ∷ Number is.voted_at ∷ []

-- a frame: its kind, then its fields; an absent host and the end of an absent lease are 0
abbrev pub frame_fields : Frame → List Field
frame_fields (frame.Packet p) = Number 0 ∷ Number (packet_kind p.body) ∷ Number p.from.0 ∷ Number p.to.0 ∷ body_fields p.body
frame_fields (frame.Ask number call) = Number 1 ∷ Number number ∷ AsTheyAre call ∷ []
frame_fields (frame.Reply number reply) = Number 2 ∷ Number number ∷ reply_fields reply
frame_fields (frame.Debug number) = Number 3 ∷ Number number ∷ []
frame_fields (frame.DebugIs number is) = Number 4 ∷ Number number ∷ debug_fields is

-- what follows the length, and the whole frame
abbrev pub behind_length : Frame → List ℕ
behind_length f = spelled (frame_fields f)

abbrev pub spelling : Frame → List ℕ
spelling f = word (length (behind_length f)) ++ behind_length f

-- The frame has a spelling: its versions and pieces are bounded, and it has at most 2,097,152 bytes.
pub record HasSpelling (f : Frame) : Type 0 where
  pub bounded : AllByRecursion IsBounded (frame_fields f)
  pub bound : length (behind_length f) ≤ 2097148

abbrev pub HasItsBits : Frame → Type 0
HasItsBits f = AllByRecursion IsOfItsBits (frame_fields f)

abbrev pub answer_of : Reply → List ℕ
answer_of (reply.Ok answer) = answer
answer_of _ = []

-- the bytes at the end of a frame that are no field of a length of its own: a call, or the answer to one
abbrev pub as_it_is : Frame → List ℕ
as_it_is (frame.Ask number call) = call
as_it_is (frame.Reply number reply) = answer_of reply
as_it_is _ = []
