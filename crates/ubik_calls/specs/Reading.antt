-- What bytes are read as: a frame, or the first fault from left to right.
use Rattle.std.specs.Prelude.{◌∷◌, ◌≡◌, ℕ, ◌+◌, ◌-◌, ◌*◌, ◌^◌, Bool, true, false, List, [], ◌++◌, length, drop, Result, Ok, Err, nat_lt, ◌==◌, ◌&&◌, min, if◌then◌else◌}
use Rattle.std.specs.List.{AllByRecursion}
use Rattle.ubik_types.specs.declared.hosts.Host.{Host}
use Rattle.ubik_types.specs.declared.phases.Applied.{Applied}
use Rattle.ubik_types.specs.declared.phases.Applied.TheVariants.{No, Unknown}
use Rattle.ubik_types.specs.declared.phases.Phase.{Phase}
use Rattle.ubik_types.specs.declared.phases.Phase.TheVariants as phase
use Rattle.ubik_types.specs.declared.versions.Version.{Version}
use Rattle.xdr_base.specs.declared.faults.XdrFault.{XdrFault}
use Rattle.xdr_base.specs.declared.faults.XdrFault.TheVariants.{Rest}
use Rattle.xdr_base.specs.Reading.{Reading, at_start, word_at, truth_at, opaque_at}
use Rattle.ubik_calls.specs.declared.frames.Frame.{Frame}
use Rattle.ubik_calls.specs.declared.frames.Frame.TheVariants as frame
use Rattle.ubik_calls.specs.declared.frames.FrameFault.{FrameFault}
use Rattle.ubik_calls.specs.declared.frames.FrameFault.TheVariants as fault
use Rattle.ubik_calls.specs.declared.packets.Body.{Body}
use Rattle.ubik_calls.specs.declared.packets.Body.TheVariants as body
use Rattle.ubik_calls.specs.declared.packets.TheConstants.{MAX_PIECE}
use Rattle.ubik_calls.specs.declared.packets.Packet.{Packet}
use Rattle.ubik_calls.specs.declared.kinds.PacketKind.{PacketKind}
use Rattle.ubik_calls.specs.declared.kinds.PacketKind.TheVariants as kind
use Rattle.ubik_calls.specs.declared.replies.DebugIs.{DebugIs}
use Rattle.ubik_calls.specs.declared.replies.Reply.{Reply}
use Rattle.ubik_calls.specs.declared.replies.Reply.TheVariants as reply
use Rattle.ubik_calls.specs.Fields.{Field, Number, spelled, IsBounded}
use Rattle.ubik_calls.specs.WireGrammar.{reply_fields, frame_fields, behind_length}

infixl 10 ◌>>=◌
abbrev pub ◌>>=◌ : {A B : Type 0} → Result A FrameFault → (A → Result B FrameFault) → Result B FrameFault
(Ok x) >>= f = f x
(Err e) >>= f = Err e

-- what an item's reader gives
abbrev pub item : {A : Type 0} → Result A XdrFault → Result A FrameFault
item (Ok x) = Ok x
item (Err e) = Err (fault.Xdr e)

-- fields: a value, and the reader behind it
unfoldable pub number_at : Reading → Result (ℕ × Reading) FrameFault
number_at from = item (word_at from)

unfoldable pub long_at : Reading → Result (ℕ × Reading) FrameFault
long_at from = do
  high ← number_at from
  low ← number_at high.1
  Ok (high.0 * 2 ^ 32 + low.0, low.1)

unfoldable pub flag_at : Reading → Result (Bool × Reading) FrameFault
flag_at from = item (truth_at from)

unfoldable pub piece_at : Reading → Result (List ℕ × Reading) FrameFault
piece_at from = item (opaque_at MAX_PIECE from)

-- each word of a version is tried as it is read
unfoldable pub version_word_at : Reading → Result (ℕ × Reading) FrameFault
version_word_at from = do
  n ← number_at from
  if nat_lt 2147483647 n.0 then Err (fault.Version n.0) else Ok n

unfoldable pub version_at : Reading → Result (Version × Reading) FrameFault
version_at from = do
  epoch ← version_word_at from
  counter ← version_word_at epoch.1
  Ok (record { epoch = epoch.0; counter = counter.0 }, counter.1)

abbrev pub phase_of : ℕ → Result Phase FrameFault
phase_of n =
    if n == 0 then Ok phase.None else if n == 1 then Ok phase.Poll else if n == 2 then Ok phase.Fetch
    else if n == 3 then Ok phase.Relabel else if n == 4 then Ok phase.Send else if n == 5 then Ok phase.Ready
    else Err (fault.Kind n)

unfoldable pub phase_at : Reading → Result (Phase × Reading) FrameFault
phase_at from = do
  n ← number_at from
  p ← phase_of n.0
  Ok (p, n.1)

unfoldable pub host_at : Reading → Result (Host × Reading) FrameFault
host_at from = do
  n ← number_at from
  Ok (record { 0 = n.0 }, n.1)

abbrev pub applied_of : Bool → Applied
applied_of true = Unknown
applied_of false = No

-- that nothing is left
unfoldable pub end_at : Reading → Result (Unit {0}) FrameFault
end_at from = if length from.rest == 0 then Ok tt else Err (fault.Xdr (Rest (length from.rest)))

-- packets
abbrev pub packet_kind_of : ℕ → Result PacketKind FrameFault
packet_kind_of n =
    if n == 1 then Ok kind.Beacon else if n == 2 then Ok kind.Vote else if n == 3 then Ok kind.GetVersion
    else if n == 4 then Ok kind.VersionIs else if n == 5 then Ok kind.GetPiece else if n == 6 then Ok kind.Piece
    else if n == 7 then Ok kind.SendPiece else if n == 8 then Ok kind.PieceKept else if n == 9 then Ok kind.SetVersion
    else if n == 10 then Ok kind.Begin else if n == 11 then Ok kind.PutPiece else if n == 12 then Ok kind.Commit
    else if n == 13 then Ok kind.Abort else if n == 14 then Ok kind.VersionKept
    else Err (fault.Kind n)

abbrev pub kind_number : PacketKind → ℕ
kind_number kind.Beacon = 1
kind_number kind.Vote = 2
kind_number kind.GetVersion = 3
kind_number kind.VersionIs = 4
kind_number kind.GetPiece = 5
kind_number kind.Piece = 6
kind_number kind.SendPiece = 7
kind_number kind.PieceKept = 8
kind_number kind.SetVersion = 9
kind_number kind.Begin = 10
kind_number kind.PutPiece = 11
kind_number kind.Commit = 12
kind_number kind.Abort = 13
kind_number kind.VersionKept = 14

unfoldable pub packet_kind_at : Reading → Result (PacketKind × Reading) FrameFault
packet_kind_at from = do
  n ← number_at from
  k ← packet_kind_of n.0
  Ok (k, n.1)

unfoldable pub beacon_at : Reading → Result (Body × Reading) FrameFault
beacon_at from = do
  start ← number_at from
  claim ← flag_at start.1
  ready ← flag_at claim.1
  version ← version_at ready.1
  Ok (body.Beacon start.0 claim.0 ready.0 version.0, version.1)

unfoldable pub vote_at : Reading → Result (Body × Reading) FrameFault
vote_at from = do
  start ← number_at from
  granted ← flag_at start.1
  Ok (body.Vote start.0 granted.0, granted.1)

unfoldable pub get_version_at : Reading → Result (Body × Reading) FrameFault
get_version_at from = do
  poll ← number_at from
  Ok (body.GetVersion poll.0, poll.1)

unfoldable pub version_is_at : Reading → Result (Body × Reading) FrameFault
version_is_at from = do
  poll ← number_at from
  version ← version_at poll.1
  Ok (body.VersionIs poll.0 version.0, version.1)

unfoldable pub get_piece_at : Reading → Result (Body × Reading) FrameFault
get_piece_at from = do
  poll ← number_at from
  version ← version_at poll.1
  offset ← number_at version.1
  Ok (body.GetPiece poll.0 version.0 offset.0, offset.1)

unfoldable pub image_piece_at : Reading → Result (Body × Reading) FrameFault
image_piece_at from = do
  poll ← number_at from
  version ← version_at poll.1
  total ← number_at version.1
  offset ← number_at total.1
  bytes ← piece_at offset.1
  Ok (body.Piece poll.0 version.0 total.0 offset.0 bytes.0, bytes.1)

unfoldable pub send_piece_at : Reading → Result (Body × Reading) FrameFault
send_piece_at from = do
  poll ← number_at from
  version ← version_at poll.1
  total ← number_at version.1
  offset ← number_at total.1
  bytes ← piece_at offset.1
  Ok (body.SendPiece poll.0 version.0 total.0 offset.0 bytes.0, bytes.1)

unfoldable pub piece_kept_at : Reading → Result (Body × Reading) FrameFault
piece_kept_at from = do
  poll ← number_at from
  version ← version_at poll.1
  next ← number_at version.1
  Ok (body.PieceKept poll.0 version.0 next.0, next.1)

unfoldable pub set_version_at : Reading → Result (Body × Reading) FrameFault
set_version_at from = do
  poll ← number_at from
  old ← version_at poll.1
  new ← version_at old.1
  Ok (body.SetVersion poll.0 old.0 new.0, new.1)

unfoldable pub begin_at : Reading → Result (Body × Reading) FrameFault
begin_at from = do
  old ← version_at from
  new ← version_at old.1
  pieces ← number_at new.1
  len ← number_at pieces.1
  Ok (body.Begin old.0 new.0 pieces.0 len.0, len.1)

unfoldable pub put_piece_at : Reading → Result (Body × Reading) FrameFault
put_piece_at from = do
  new ← version_at from
  number ← number_at new.1
  bytes ← piece_at number.1
  Ok (body.PutPiece new.0 number.0 bytes.0, bytes.1)

unfoldable pub commit_at : Reading → Result (Body × Reading) FrameFault
commit_at from = do
  old ← version_at from
  new ← version_at old.1
  Ok (body.Commit old.0 new.0, new.1)

unfoldable pub abort_at : Reading → Result (Body × Reading) FrameFault
abort_at from = do
  new ← version_at from
  Ok (body.Abort new.0, new.1)

unfoldable pub version_kept_at : Reading → Result (Body × Reading) FrameFault
version_kept_at from = do
  version ← version_at from
  Ok (body.VersionKept version.0, version.1)

abbrev pub body_at : PacketKind → Reading → Result (Body × Reading) FrameFault
body_at kind.Beacon from = beacon_at from
body_at kind.Vote from = vote_at from
body_at kind.GetVersion from = get_version_at from
body_at kind.VersionIs from = version_is_at from
body_at kind.GetPiece from = get_piece_at from
body_at kind.Piece from = image_piece_at from
body_at kind.SendPiece from = send_piece_at from
body_at kind.PieceKept from = piece_kept_at from
body_at kind.SetVersion from = set_version_at from
body_at kind.Begin from = begin_at from
body_at kind.PutPiece from = put_piece_at from
body_at kind.Commit from = commit_at from
body_at kind.Abort from = abort_at from
body_at kind.VersionKept from = version_kept_at from

unfoldable pub packet_at : Reading → Result (Packet × Reading) FrameFault
packet_at start = do
  kind ← packet_kind_at start
  sender ← host_at kind.1
  receiver ← host_at sender.1
  said ← body_at kind.0 receiver.1
  Ok (record { from = sender.0; to = receiver.0; body = said.0 }, said.1)

-- replies but for an answer, which is the rest of the frame
unfoldable pub rule_at : Reading → Result (Reply × Reading) FrameFault
rule_at from = do
  number ← number_at from
  Ok (reply.Rule number.0, number.1)

unfoldable pub no_quorum_at : Reading → Result (Reply × Reading) FrameFault
no_quorum_at from = do
  now ← number_at from
  until ← number_at now.1
  phase ← phase_at until.1
  unknown ← flag_at phase.1
  Ok (reply.NoQuorum now.0 until.0 phase.0 (applied_of unknown.0), unknown.1)

unfoldable pub not_sync_at : Reading → Result (Reply × Reading) FrameFault
not_sync_at from = do
  host ← host_at from
  heard ← number_at host.1
  Ok (reply.NotSync host.0 heard.0, heard.1)

unfoldable pub line_full_at : Reading → Result (Reply × Reading) FrameFault
line_full_at from = do
  holder ← number_at from
  Ok (reply.LineFull holder.0, holder.1)

unfoldable pub too_large_at : Reading → Result (Reply × Reading) FrameFault
too_large_at from = do
  bytes ← long_at from
  Ok (reply.TooLarge bytes.0, bytes.1)

unfoldable pub bad_record_at : Reading → Result (Reply × Reading) FrameFault
bad_record_at from = do
  place ← number_at from
  Ok (reply.BadRecord place.0, place.1)

abbrev pub reply_at : ℕ → Reading → Result (Reply × Reading) FrameFault
reply_at tag from =
    if tag == 1 then rule_at from else if tag == 2 then no_quorum_at from else if tag == 3 then not_sync_at from
    else if tag == 4 then line_full_at from else if tag == 5 then too_large_at from
    else if tag == 6 then Ok (reply.Malformed, from) else if tag == 7 then Ok (reply.DiskFault, from)
    else if tag == 8 then Ok (reply.NoMemory, from) else if tag == 9 then bad_record_at from
    else Err (fault.Kind tag)

abbrev pub reply_tag : Reply → ℕ
reply_tag (reply.Ok answer) = 0
reply_tag (reply.Rule number) = 1
reply_tag (reply.NoQuorum now until phase applied) = 2
reply_tag (reply.NotSync host heard) = 3
reply_tag (reply.LineFull holder) = 4
reply_tag (reply.TooLarge bytes) = 5
reply_tag reply.Malformed = 6
reply_tag reply.DiskFault = 7
reply_tag reply.NoMemory = 8
reply_tag (reply.BadRecord place) = 9

-- the fields of a reply without its tag
abbrev pub behind_tag : Reply → List Field
behind_tag r = drop 1 (reply_fields r)

unfoldable pub debug_is_at : Reading → Result (DebugIs × Reading) FrameFault
debug_is_at from = do
  host ← host_at from
  now ← number_at host.1
  version ← version_at now.1
  phase ← phase_at version.1
  until ← number_at phase.1
  sync ← host_at until.1
  voted ← host_at sync.1
  voted_at ← number_at voted.1
  Ok (record { host = host.0; now = now.0; version = version.0; phase = phase.0; until = until.0; sync = sync.0; voted = voted.0; voted_at = voted_at.0 }, voted_at.1)

-- frames behind their kind, up to their last byte
unfoldable pub packet_frame : Reading → Result Frame FrameFault
packet_frame from = do
  packet ← packet_at from
  done ← end_at packet.1
  Ok (frame.Packet packet.0)

unfoldable pub ask_frame : Reading → Result Frame FrameFault
ask_frame from = do
  number ← number_at from
  Ok (frame.Ask number.0 number.1.rest)

abbrev pub answer_frame : ℕ → Reading → Result Frame FrameFault
answer_frame number from = Ok (frame.Reply number (reply.Ok from.rest))

unfoldable pub other_reply_frame : ℕ → ℕ → Reading → Result Frame FrameFault
other_reply_frame number tag from = do
  reply ← reply_at tag from
  done ← end_at reply.1
  Ok (frame.Reply number reply.0)

unfoldable pub reply_frame : Reading → Result Frame FrameFault
reply_frame from = do
  number ← number_at from
  tag ← number_at number.1
  if tag.0 == 0 then answer_frame number.0 tag.1 else other_reply_frame number.0 tag.0 tag.1

unfoldable pub debug_frame : Reading → Result Frame FrameFault
debug_frame from = do
  number ← number_at from
  done ← end_at number.1
  Ok (frame.Debug number.0)

unfoldable pub debug_is_frame : Reading → Result Frame FrameFault
debug_is_frame from = do
  number ← number_at from
  told ← debug_is_at number.1
  done ← end_at told.1
  Ok (frame.DebugIs number.0 told.0)

abbrev pub frame_at : ℕ → Reading → Result Frame FrameFault
frame_at kind from =
    if kind == 0 then packet_frame from else if kind == 1 then ask_frame from else if kind == 2 then reply_frame from
    else if kind == 3 then debug_frame from else if kind == 4 then debug_is_frame from
    else Err (fault.Kind kind)

-- the reader behind the length, which says how many bytes follow; a number of 2^32 bytes and more is told as 2^32 - 1
unfoldable pub length_at : List ℕ → Result Reading FrameFault
length_at bytes =
    if nat_lt (length bytes) 4 then Err (fault.Length 0 0)
    else do
      said ← number_at (at_start bytes)
      if said.0 == length bytes - 4 && nat_lt said.0 2097149 then Ok said.1 else Err (fault.Length said.0 (min (length bytes - 4) 4294967295))

-- all of the bytes
unfoldable pub frame_of : List ℕ → Result Frame FrameFault
frame_of bytes = do
  from ← length_at bytes
  kind ← number_at from
  frame_at kind.0 kind.1

-- What a function answered is what stands there, unless memory ran out.
abbrev pub Fails : {A : Type 0} → FrameFault → Result A FrameFault → Type 0
Fails fault.NoMemory there = Unit {0}
Fails e there = there ≡ Err e

abbrev pub Gives : {A : Type 0} → Result A FrameFault → Result A FrameFault → Type 0
Gives (Ok x) there = there ≡ Ok x
Gives (Err e) there = Fails e there

-- the same where a reader is left behind what was read
abbrev pub Gets : {A : Type 0} → Reading → Result A FrameFault → Result (A × Reading) FrameFault → Type 0
Gets new (Ok x) there = there ≡ Ok (x, new)
Gets new (Err e) there = Fails e there

-- The frame, of this kind, is spelled so behind its kind, up to the last byte.
pub record IsBehind (from : Reading) (kind : ℕ) (f : Frame) : Type 0 where
  pub text_is : spelled (Number kind ∷ []) ++ from.rest ≡ behind_length f
  pub bounded : AllByRecursion IsBounded (frame_fields f)

-- The frame is the reply of this number and tag, and is spelled so behind that tag, up to the last byte.
pub record IsReplyBehind (from : Reading) (number tag : ℕ) (f : Frame) : Type 0 where
  pub text_is : spelled (Number 2 ∷ Number number ∷ Number tag ∷ []) ++ from.rest ≡ behind_length f
  pub bounded : AllByRecursion IsBounded (frame_fields f)
