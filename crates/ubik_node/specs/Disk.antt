-- What the disk of a server does in a step: how many changing calls it gets, and what a crash leaves of it (own).
use Rattle.std.specs.Prelude.{ℕ, ◌≡◌, ◌⊎◌, ◌+◌, ◌≤◌, Bool, true, not, nat_lt, List, [], ◌∷◌, length, take, IfSome, IsSome}
use Rattle.disk_base.specs.declared.disks.Disk.{Ghosts}
use Rattle.disk_base.specs.Crash.{LeavesOnly, LeavesSame, Narrows, Only}
use Rattle.disk_base.specs.Files.{Files}
use Rattle.disk_base.specs.Stops.{IsStopped, after_changes, armed}
use Rattle.disk_base.specs.Stops.DiskStop.{Unarmed}
use Rattle.disk_base.specs.declared.disks.Fill.{Fill}
use Rattle.page_file.specs.declared.label.TheConstants.{LABEL_LEN}
use Rattle.ubik_store.specs.Files.{StandsFor}
use Rattle.ubik_store.specs.Gaps.{CutsNoPut, IsPlain}
use Rattle.cell_model.specs.Durable.{Commit, Durable, DurableCall, Made, Reason, Received, durable_after_all, disk_calls}

-- files stand for a durable state
abbrev pub StandsAs : Durable → Files → Type 0
StandsAs d fs = StandsFor fs d.version d.image

-- files that stand for the state after the first so many of these durable calls: none, some or all of them
abbrev pub StandsWithin : Durable → List Made → Files → Type 0
StandsWithin d calls fs = (made : ℕ) × (made ≤ length calls) × StandsAs (durable_after_all d (take made calls)) fs

-- whether a database file has a label
abbrev pub has_label : List ℕ → Bool
has_label file = not (nat_lt (length file) LABEL_LEN)

-- how many changing calls durable calls make, one after the other; the first of them leaves a label
abbrev pub calls_made : Bool → List Made → ℕ
calls_made labelled [] = 0
calls_made labelled (made ∷ calls) = disk_calls labelled made.call + calls_made true calls

-- files that stand for the state after the first so many of these durable calls, or after one more
abbrev pub StandsBetween : Durable → List Made → ℕ → Files → Type 0
StandsBetween d calls whole fs = StandsAs (durable_after_all d (take whole calls)) fs ⊎ StandsAs (durable_after_all d (take (whole + 1) calls)) fs

-- changes that were taken from another server cut to nothing before where an earlier put of them begins
abbrev pub TakenCutsNoPut : Reason → DurableCall → Type 0
TakenCutsNoPut Received (Commit version changes image) = CutsNoPut changes
TakenCutsNoPut _ _ = Unit {0}

-- so of each of these durable calls
abbrev pub TakenCutNoPut : List Made → Type 0
TakenCutNoPut [] = Unit {0}
TakenCutNoPut (made ∷ calls) = TakenCutsNoPut made.reason made.call × TakenCutNoPut calls

-- A crash at any moment of a step with these durable calls leaves the state after the first so many of them. Plain files stay plain, so that
-- an opening over what is left may crash in turn: where changes are taken from another server, if they cut no put.
pub record LeavesWithin {D : Type 0} (g : Ghosts D) (d : Durable) (old new : D) (calls : List Made) : Type 0 where
  pub moments : IfSome (g.files old) (λ _. LeavesOnly g.steps g.left_since old new (StandsWithin d calls))
  pub plain : TakenCutNoPut calls → IfSome (g.files old) (λ fs. IsPlain fs → LeavesOnly g.steps g.left_since old new IsPlain)

-- The disk failed in a step with these durable calls: the first so many were made whole, and it failed before the end of the next one. Where it
-- stopped, it did so after the whole ones.
pub record FailsIn {D : Type 0} (g : Ghosts D) (d : Durable) (old new : D) (calls : List Made) : Type 0 where
  pub leaves : LeavesWithin g d old new calls
  pub whole : ℕ
  pub now : IfSome (g.files old) (λ _. Narrows (StandsBetween d calls whole) (g.may_leave new))
  pub least : IfSome (g.files old) (λ fs. g.steps old + calls_made (has_label fs.database) (take whole calls) ≤ g.steps new)
  pub most : IfSome (g.files old) (λ fs. g.steps new ≤ g.steps old + calls_made (has_label fs.database) (take (whole + 1) calls))
  pub running : IfSome (g.files old) (λ fs. ¬ IsStopped (after_changes (calls_made (has_label fs.database) (take whole calls)) (g.stop old)))

-- so it is, and the disk got just the changing calls that these durable calls make
pub record Serves {D : Type 0} (g : Ghosts D) (d : Durable) (old new : D) (calls : List Made) : Type 0 where
  pub leaves : LeavesWithin g d old new calls
  pub steps : IfSome (g.files old) (λ fs. g.steps new ≡ g.steps old + calls_made (has_label fs.database) calls)

-- the disk is to stop after so many further changing calls; nothing else of it changed
pub record IsArmed {D : Type 0} (g : Ghosts D) (calls : ℕ) (fill : Fill) (old new : D) : Type 0 where
  pub stop : g.stop new ≡ armed (g.stop old) calls fill
  pub files : g.files new ≡ g.files old
  pub steps : g.steps new ≡ g.steps old
  pub crash : LeavesSame (g.may_leave old) (g.may_leave new) (g.left_since old) (g.left_since new)
  pub tells : g.tells new ≡ g.tells old
  pub faults : g.faults new ≡ g.faults old

-- The files were opened anew: they are what a crash might leave, and all is synced.
pub record IsRevived {D : Type 0} (g : Ghosts D) (old new : D) : Type 0 where
  pub unarmed : g.stop new ≡ Unarmed
  pub left : IfSome (g.files new) (λ fs. g.may_leave old fs × Only fs (g.may_leave new))
  pub told : g.tells old ≡ true → IsSome (g.files new)
  pub tells : g.tells new ≡ g.tells old
  pub steps : g.steps new ≡ g.steps old
  pub faults : g.faults new ≡ g.faults old
