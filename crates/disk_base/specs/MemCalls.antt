-- Which calls of a disk in memory fail, and in which it stops.
use Rattle.std.specs.Prelude.{◌≡◌, Bool, true, false, ◌||◌, ◌==◌, if◌then◌else◌}
use Rattle.disk_base.specs.declared.memory_calls.MemCalls.{MemCalls}
use Rattle.disk_base.specs.declared.memory_calls.StopState.{StopState}
use Rattle.disk_base.specs.declared.memory_calls.StopState.TheVariants as states
use Rattle.disk_base.specs.declared.memory_calls.Passage.{Passage}
use Rattle.disk_base.specs.declared.memory_calls.Passage.TheVariants.{Passes, Stops, Fails}
use Rattle.disk_base.specs.Plan.{fails_next}
use Rattle.disk_base.specs.Stops.{DiskStop}
use Rattle.disk_base.specs.Stops.DiskStop.{Unarmed, Armed, Stopped}

-- a state as the disk's meaning sees it
abbrev pub stop_in : StopState → DiskStop
stop_in states.Unarmed = Unarmed
stop_in (states.Armed calls fill) = Armed calls fill
stop_in (states.Stopped fill) = Stopped fill

abbrev pub stop_of : MemCalls → DiskStop
stop_of calls = stop_in calls.stop

-- whether the disk has stopped
abbrev pub is_stopped : DiskStop → Bool
is_stopped Unarmed = false
is_stopped (Armed _ _) = false
is_stopped (Stopped _) = true

-- whether the next call fails, if it changes no file
abbrev pub fails_now : MemCalls → Bool
fails_now calls = fails_next calls.plan || is_stopped (stop_of calls)

-- a call that the disk lets through passes, unless its number is to fail
abbrev pub unless : Bool → Passage
unless planned = if planned then Fails else Passes

-- what becomes of a changing call of which it is known whether its number is to fail
abbrev pub passage : DiskStop → Bool → Passage
passage Unarmed planned = unless planned
passage (Armed calls _) planned = if calls == 0 then Stops else unless planned
passage (Stopped _) planned = Fails

-- what becomes of the next call, if it changes a file
abbrev pub passage_of : MemCalls → Passage
passage_of calls = passage (stop_of calls) (fails_next calls.plan)

-- the counts of changing calls and of faults stay
pub record KeepsTallies (before after : MemCalls) : Type 0 where
  pub steps : after.steps ≡ before.steps
  pub faults : after.faults ≡ before.faults
  pub own_faults : after.own_faults ≡ before.own_faults
