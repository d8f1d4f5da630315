-- How many bytes the frame of a packet has on the wire (fields as RFC 4506 spells them; the layout is own).
use Rattle.std.specs.Prelude.{ℕ, ◌+◌, ◌<◌, ◌^◌, length}
use Rattle.xdr_base.specs.Spelling.{opaque_len}
use Rattle.ubik_calls.specs.declared.packets.Body.{Body}
use Rattle.ubik_calls.specs.declared.packets.Body.TheVariants.{Beacon, Vote, GetVersion, VersionIs, GetPiece, Piece, SendPiece, PieceKept, SetVersion, Begin, PutPiece, Commit, Abort, VersionKept}
use Rattle.ubik_calls.specs.declared.packets.Packet.{Packet}

-- the fields of a body: a number, a truth value and each number of a version are words of four bytes
abbrev pub body_length : Body → ℕ
body_length (Beacon start claim ready version) = 4 + 4 + 4 + 8
body_length (Vote start granted) = 4 + 4
body_length (GetVersion poll) = 4
body_length (VersionIs poll version) = 4 + 8
body_length (GetPiece poll version offset) = 4 + 8 + 4
body_length (Piece poll version total offset bytes) = 4 + 8 + 4 + 4 + opaque_len (length bytes)
body_length (SendPiece poll version total offset bytes) = 4 + 8 + 4 + 4 + opaque_len (length bytes)
body_length (PieceKept poll version next) = 4 + 8 + 4
body_length (SetVersion poll old new) = 4 + 8 + 8
body_length (Begin old new pieces len) = 8 + 8 + 4 + 4
body_length (PutPiece new number bytes) = 8 + 4 + opaque_len (length bytes)
body_length (Commit old new) = 8 + 8
body_length (Abort new) = 8
body_length (VersionKept version) = 8

-- a frame: its length, its kind, the packet's kind, the two hosts, and then the fields
abbrev pub packet_length : Packet → ℕ
packet_length p = 4 + 4 + 4 + 4 + 4 + body_length p.body

-- the bytes that a body carries have a length that a word can say
abbrev pub HasShortBytes : Body → Type 0
HasShortBytes (Piece poll version total offset bytes) = length bytes < 2 ^ 32
HasShortBytes (SendPiece poll version total offset bytes) = length bytes < 2 ^ 32
HasShortBytes (PutPiece new number bytes) = length bytes < 2 ^ 32
HasShortBytes _ = Unit {0}
