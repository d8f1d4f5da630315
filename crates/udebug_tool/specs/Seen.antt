-- What came of a question about a server (own).
use Rattle.std.specs.Prelude.{ℕ, ◌==◌, if◌then◌else◌, List, Option, Some, None, Result, Ok, Err}
use Rattle.io_base.specs.declared.links.Answer.{Answer}
use Rattle.io_base.specs.declared.links.Answer.TheVariants as link
use Rattle.ubik_calls.specs.declared.frames.Frame.{Frame}
use Rattle.ubik_calls.specs.declared.frames.Frame.TheVariants as frame
use Rattle.ubik_calls.specs.declared.frames.FrameFault.{FrameFault}
use Rattle.ubik_calls.specs.declared.replies.DebugIs.{DebugIs}
use Rattle.ubik_calls.specs.Reading.{frame_of}

-- a frame that is no answer to the question of this number counts as none
abbrev pub seen_frame : ℕ → Frame → Option DebugIs
seen_frame number (frame.DebugIs of_question is) = if of_question == number then Some is else None
seen_frame number _ = None

-- so do bytes that are no frame
abbrev pub seen_bytes : ℕ → Result Frame FrameFault → Option DebugIs
seen_bytes number (Ok f) = seen_frame number f
seen_bytes number (Err fault) = None

abbrev pub seen_answer : ℕ → Answer → List ℕ → Option DebugIs
seen_answer number link.Got bytes = seen_bytes number (frame_of bytes)
seen_answer number _ bytes = None
