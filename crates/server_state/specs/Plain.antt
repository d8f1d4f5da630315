-- What has a spelling: versions that are versions, pieces and answers that are short.
use Rattle.std.specs.Prelude.{ℕ, ◌≤◌, List, length}
use Rattle.ubik_types.specs.Version.{IsVersion}
use Rattle.ubik_calls.specs.declared.packets.Body.{Body}
use Rattle.ubik_calls.specs.declared.packets.Body.TheVariants.{Beacon, Vote, GetVersion, VersionIs, GetPiece, Piece, SendPiece, PieceKept, SetVersion, Begin, PutPiece, Commit, Abort, VersionKept}
use Rattle.ubik_calls.specs.declared.packets.TheConstants.{MAX_PIECE}
use Rattle.ubik_calls.specs.declared.replies.Reply.{Reply}
use Rattle.ubik_calls.specs.declared.replies.Reply.TheVariants as reply

abbrev pub IsPiece : List ℕ → Type 0
IsPiece bytes = length bytes ≤ MAX_PIECE

-- no answer of a database has more bytes
abbrev pub IsAnswer : List ℕ → Type 0
IsAnswer answer = length answer ≤ 1048576

abbrev pub IsPlainBody : Body → Type 0
IsPlainBody (Beacon start claim ready version) = IsVersion version
IsPlainBody (Vote start granted) = Unit {0}
IsPlainBody (GetVersion poll) = Unit {0}
IsPlainBody (VersionIs poll version) = IsVersion version
IsPlainBody (GetPiece poll version offset) = IsVersion version
IsPlainBody (Piece poll version total offset bytes) = IsVersion version × IsPiece bytes
IsPlainBody (SendPiece poll version total offset bytes) = IsVersion version × IsPiece bytes
IsPlainBody (PieceKept poll version next) = IsVersion version
IsPlainBody (SetVersion poll old new) = IsVersion old × IsVersion new
IsPlainBody (Begin old new pieces len) = IsVersion old × IsVersion new
IsPlainBody (PutPiece new number bytes) = IsVersion new × IsPiece bytes
IsPlainBody (Commit old new) = IsVersion old × IsVersion new
IsPlainBody (Abort new) = IsVersion new
IsPlainBody (VersionKept version) = IsVersion version

abbrev pub IsPlainReply : Reply → Type 0
IsPlainReply (reply.Ok answer) = IsAnswer answer
IsPlainReply _ = Unit {0}
