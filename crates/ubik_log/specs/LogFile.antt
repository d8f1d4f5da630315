-- The log file of a disk: what its calls change, and what a crash leaves of it (own).
use Rattle.std.specs.Prelude.{◌≡◌, ◌⊎◌, ℕ, ◌+◌, ◌≤◌, List, length, IfSome}
use Rattle.std.specs.Option.{option_map}
use Rattle.disk_base.specs.declared.disks.Disk.{Ghosts}
use Rattle.disk_base.specs.declared.disks.FileNo.TheVariants.{Log}
use Rattle.disk_base.specs.Crash.{Follows, OnlyIn, IsSettled}
use Rattle.disk_base.specs.Files.{Files}
use Rattle.ubik_log.specs.Gate.{closed, with_gate}
use Rattle.ubik_log.specs.LogGrammar.{IsDiscarded}

-- the files with another log
abbrev pub with_log : List ℕ → Files → Files
with_log log fs = record fs { log = log }

-- the files with this byte at the gate of the log
abbrev pub gate_set : ℕ → Files → Files
gate_set byte fs = with_log (with_gate byte fs.log) fs

-- the files are as they were, or there is some byte at the gate of the log
abbrev pub HasAnyGate : Files → Files → Type 0
HasAnyGate before after = (after ≡ before) ⊎ ((byte : ℕ) × (after ≡ gate_set byte before))

-- the log is a discarded one, and the other files are as they were
abbrev pub HasDiscarded : Files → Files → Type 0
HasDiscarded before after = IsDiscarded after.log × (after ≡ with_log after.log before)

-- the log is this one or a discarded one, and the other files are as they were
abbrev pub HasLogOrNone : List ℕ → Files → Files → Type 0
HasLogOrNone log before after = ((after.log ≡ log) ⊎ IsDiscarded after.log) × (after ≡ with_log after.log before)

-- This byte stands at the gate of the log, and is synced.
pub record SetsGate {D : Type 0} (g : Ghosts D) (byte : ℕ) (old new : D) : Type 0 where
  pub files : g.files new ≡ option_map (gate_set byte) (g.files old)
  pub durable : IfSome (g.files old) (λ fs. OnlyIn Log (with_gate byte fs.log) (g.may_leave new))
  pub left : IfSome (g.files old) (λ _. Follows (λ d c. c ≡ gate_set byte d) (g.may_leave old) (g.may_leave new))
  pub settled : IsSettled (g.files old) (g.may_leave old) → IsSettled (g.files new) (g.may_leave new)
  pub steps : g.steps new ≡ g.steps old + 2

-- The log stands there with a closed gate, and is synced.
pub record KeepsLog {D : Type 0} (g : Ghosts D) (log : List ℕ) (old new : D) : Type 0 where
  pub files : g.files new ≡ option_map (with_log (closed log)) (g.files old)
  pub left : IfSome (g.files old) (λ _. Follows (λ d c. c ≡ with_log (closed log) d) (g.may_leave old) (g.may_leave new))
  pub settled : IsSettled (g.files old) (g.may_leave old) → IsSettled (g.files new) (g.may_leave new)
  pub steps : g.steps new ≡ g.steps old + 4
  pub reserved : length log ≤ g.room new Log
