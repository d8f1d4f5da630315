-- Laws of the wire grammar.
use Rattle.std.specs.Prelude.{◌≡◌, length}
use Rattle.xdr_base.specs.Laws.{NoneBeginsAnother}
use Rattle.ubik_calls.specs.declared.frames.Frame.{Frame}
use Rattle.ubik_calls.specs.declared.frames.Frame.TheVariants as frame
use Rattle.ubik_calls.specs.declared.packets.Packet.{Packet}
use Rattle.ubik_calls.specs.Length.{packet_length}
use Rattle.ubik_calls.specs.WireGrammar.{spelling, HasSpelling, HasItsBits}

-- A packet's spelling is as long as `packet_length` says.
abbrev pub PacketsAreSoLong : Type 0
PacketsAreSoLong = (p : Packet) → length (spelling (frame.Packet p)) ≡ packet_length p

abbrev pub IsFrame : Frame → Type 0
IsFrame f = HasSpelling f × HasItsBits f

-- No frame's spelling begins another's: the spellings of two frames begin one text only where the two are one.
abbrev pub NoFrameBeginsAnother : Type 0
NoFrameBeginsAnother = NoneBeginsAnother IsFrame spelling
