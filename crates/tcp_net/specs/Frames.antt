-- Where the first frame of some bytes ends: its first four bytes, the high byte first, count what follows them.
use Rattle.std.specs.Prelude.{ℕ, Bool, ◌+◌, ◌<◌, ◌≤◌, ◌⊎◌, ◌==◌, ◌&&◌, nat_le, List, length, take, drop}
use Rattle.std.specs.Int.{w32, from_be_bytes}
use Rattle.io_base.specs.declared.frames.TheConstants.{MAX_FRAME}

-- the length that the first word says, the word itself counted
abbrev pub said_len : List ℕ → ℕ
said_len bytes = 4 + from_be_bytes w32 (take 4 bytes)

-- the word came, and says a length that no frame has
pub record IsTooLong (bytes : List ℕ) : Type 0 where
  pub word : 4 ≤ length bytes
  pub long : MAX_FRAME < said_len bytes

-- the word came, and not all that it says
pub record LacksBytes (bytes : List ℕ) : Type 0 where
  pub word : 4 ≤ length bytes
  pub fits : said_len bytes ≤ MAX_FRAME
  pub short : length bytes < said_len bytes

-- no whole frame came yet
abbrev pub IsPart : List ℕ → Type 0
IsPart bytes = (length bytes < 4) ⊎ LacksBytes bytes

-- the kind of a packet to another server
abbrev pub packet_kind : ℕ
packet_kind = 0

-- the kind, the word behind the length, is that of a packet
abbrev pub is_packet : List ℕ → Bool
is_packet frame = nat_le 8 (length frame) && (from_be_bytes w32 (take 4 (drop 4 frame)) == packet_kind)
