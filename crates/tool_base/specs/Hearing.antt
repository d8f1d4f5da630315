-- What a client hears of a call: the host rule (own).
use Rattle.std.specs.Prelude.{ℕ, ◌==◌, Bool, true, false, if◌then◌else◌, List, Option, Some, None, Result, Ok, Err}
use Rattle.io_base.specs.declared.links.Answer.{Answer}
use Rattle.io_base.specs.declared.links.Answer.TheVariants as link
use Rattle.io_base.specs.declared.links.Exchange.{Exchange}
use Rattle.ubik_types.specs.declared.phases.Applied.{Applied}
use Rattle.ubik_types.specs.declared.phases.Applied.TheVariants as applied
use Rattle.ubik_calls.specs.declared.frames.Frame.{Frame}
use Rattle.ubik_calls.specs.declared.frames.Frame.TheVariants as frame
use Rattle.ubik_calls.specs.declared.frames.FrameFault.{FrameFault}
use Rattle.ubik_calls.specs.declared.replies.Reply.{Reply}
use Rattle.ubik_calls.specs.declared.replies.Reply.TheVariants as reply
use Rattle.ubik_calls.specs.Reading.{frame_of}
use Rattle.tool_base.specs.declared.hearing.Heard.{Heard}
use Rattle.tool_base.specs.declared.hearing.Heard.TheVariants.{Answer as Told, Refusal as Refuses, Elsewhere, Silence}
use Rattle.tool_base.specs.declared.stops.Refusal.TheVariants.{Rule, LineFull, TooLarge, Malformed, BadRecord}
use Rattle.tool_base.specs.declared.stops.Stop.{Stop}
use Rattle.tool_base.specs.declared.stops.Stop.TheVariants as stop

abbrev pub heard_of : Applied → Heard
heard_of applied.No = Elsewhere
heard_of applied.Unknown = Silence

-- A reply without a quorum that changed nothing, one of a server that is not the sync site, and one for want of memory: the call
-- may be asked elsewhere. Where the change may have been made, and after a fault of the disk, nothing is known.
abbrev pub heard_reply : Reply → Heard
heard_reply (reply.Ok answer) = Told answer
heard_reply (reply.Rule number) = Refuses (Rule number)
heard_reply (reply.NoQuorum now until phase applied) = heard_of applied
heard_reply (reply.NotSync host heard) = Elsewhere
heard_reply (reply.LineFull holder) = Refuses LineFull
heard_reply (reply.TooLarge bytes) = Refuses TooLarge
heard_reply reply.Malformed = Refuses Malformed
heard_reply reply.DiskFault = Silence
heard_reply reply.NoMemory = Elsewhere
heard_reply (reply.BadRecord place) = Refuses BadRecord

-- a frame that is no reply to the call of this number counts as none
abbrev pub heard_frame : ℕ → Frame → Heard
heard_frame number (frame.Reply of_call said) = if of_call == number then heard_reply said else Silence
heard_frame number _ = Silence

abbrev pub heard_bytes : ℕ → Result Frame FrameFault → Heard
heard_bytes number (Ok f) = heard_frame number f
heard_bytes number (Err fault) = Silence

abbrev pub heard_answer : ℕ → Answer → List ℕ → Heard
heard_answer number link.Got bytes = heard_bytes number (frame_of bytes)
heard_answer number link.NotSent bytes = Elsewhere
heard_answer number link.NoAnswer bytes = Silence
heard_answer number link.NoMemory bytes = Elsewhere

-- what an exchange brought for the call of this number
abbrev pub heard_in : ℕ → Exchange → Heard
heard_in number e = heard_answer number e.answer e.reply

-- after silence a call that only reads is asked elsewhere; of one that writes nothing is known
abbrev pub after_silence : {A : Type 0} → Bool → Result (Option A) Stop
after_silence true = Err stop.OutcomeUnknown
after_silence false = Ok None

-- an answer that is none of the call's counts as silence
abbrev pub taken : {A : Type 0} → Bool → Option A → Result (Option A) Stop
taken writes (Some x) = Ok (Some x)
taken writes None = after_silence writes

-- What follows for the call, where its answers are read so: its answer, an end, or that the next host is asked.
abbrev pub verdict : {A : Type 0} → Bool → (List ℕ → Option A) → Heard → Result (Option A) Stop
verdict writes read (Told answer) = taken writes (read answer)
verdict writes read (Refuses refusal) = Err (stop.Refused refusal)
verdict writes read Elsewhere = Ok None
verdict writes read Silence = after_silence writes
