-- What came from a net.
use Rattle.std.specs.Prelude.{Bool, true, false}
use Rattle.io_base.specs.declared.nets.NetGot.{NetGot}
use Rattle.io_base.specs.declared.nets.NetGot.TheVariants.{Frame, Nothing, Closed, Ended, Failed, NoMemory}

-- whether a frame came
abbrev pub is_frame : NetGot → Bool
is_frame (Frame peer) = true
is_frame Nothing = false
is_frame Closed = false
is_frame Ended = false
is_frame Failed = false
is_frame NoMemory = false
