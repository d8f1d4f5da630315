-- What a net in memory answers, by whether it was closed and by the frames that are left.
use Rattle.std.specs.Prelude.{ℕ, Bool, true, false, List, [], ◌∷◌, ◌++◌}
use Rattle.io_base.specs.declared.nets.NetGot.{NetGot}
use Rattle.io_base.specs.declared.nets.NetGot.TheVariants.{Frame, Closed, Ended}
use Rattle.io_base.specs.declared.nets.Paused.{Paused}
use Rattle.io_base.specs.declared.nets.Paused.TheVariants as paused
use Rattle.io_base.specs.declared.nets.NetPut.{NetPut}
use Rattle.io_base.specs.declared.nets.NetPut.TheVariants as put
use Rattle.io_base.specs.declared.memory_nets.MemFrame.{MemFrame}
use Rattle.io_base.specs.declared.memory_nets.MemSent.{MemSent}

-- what a recv answers
abbrev pub got_of : Bool → List MemFrame → NetGot
got_of true left = Ended
got_of false [] = Closed
got_of false (next ∷ left) = Frame next.peer

-- the bytes that stand in its buffer
abbrev pub frame_of : Bool → List MemFrame → List ℕ
frame_of true left = []
frame_of false [] = []
frame_of false (next ∷ left) = next.frame

-- the frames that it leaves
abbrev pub left_of : Bool → List MemFrame → List MemFrame
left_of true left = left
left_of false [] = []
left_of false (next ∷ left) = left

-- what a pause answers
abbrev pub paused_of : Bool → List MemFrame → Paused
paused_of true left = paused.Ended
paused_of false [] = paused.Closed
paused_of false (next ∷ left) = paused.Yes

-- what was sent, once an entry was answered so
abbrev pub sent_with : NetPut → List MemSent → MemSent → List MemSent
sent_with put.Sent sent entry = sent ++ entry ∷ []
sent_with put.Failed sent entry = sent
