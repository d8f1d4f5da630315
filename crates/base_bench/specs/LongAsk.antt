-- The frame that is written and read back.
use Rattle.std.specs.Prelude.{ℕ, replicate}
use Rattle.ubik_calls.specs.declared.frames.Frame.{Frame}
use Rattle.ubik_calls.specs.declared.frames.Frame.TheVariants.{Ask}

-- ask 7, whose call has so many bytes
abbrev pub long_ask : ℕ → Frame
long_ask len = Ask 7 (replicate len 120)
