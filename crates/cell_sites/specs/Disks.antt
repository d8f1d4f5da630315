-- What the disks of a running cell read as, how often they failed, and how many changing calls they got.
use Rattle.std.specs.Prelude.{◌≤◌, ℕ, ◌+◌, Option, IsSomeAnd, All, List, [], ◌∷◌, map}
use Rattle.disk_base.specs.declared.disks.Disk.{Ghosts}
use Rattle.disk_base.specs.Crash.{IsSettled}
use Rattle.disk_base.specs.Files.{Files}
use Rattle.cell_model.specs.World.{Site}
use Rattle.cell_runs.specs.Trace.{TraceItem, fault_count}
use Rattle.ubik_node.specs.Disk.{StandsAs}

-- what a disk reads as, where it tells it, how often it has failed, and how many changing calls it got
pub record Held : Type 0 where
  pub files : Option Files
  pub faults : ℕ
  pub steps : ℕ

abbrev pub held : {D : Type 0} → Ghosts D → D → Held
held g disk = record { files = g.files disk; faults = g.faults disk; steps = g.steps disk }

abbrev pub all_held : {D : Type 0} → Ghosts D → List D → List Held
all_held g disks = map (held g) disks

-- the files stand for the durable state of a server, be it up, halted or down
abbrev pub IsReadBy : Site → Held → Type 0
IsReadBy site disk = IsSomeAnd disk.files (StandsAs site.durable)

-- so of each of these servers, one after the other
abbrev pub AreReadBy : List Site → List Held → Type 0
AreReadBy [] [] = Unit {0}
AreReadBy (site ∷ sites) (disk ∷ disks) = IsReadBy site disk × AreReadBy sites disks
AreReadBy _ _ = ⊥

-- nothing is pending on any of these disks: a crash leaves of each what a read gives, and nothing else
abbrev pub AreSettled : {D : Type 0} → Ghosts D → List D → Type 0
AreSettled g disks = All (λ disk. IsSettled (g.files disk) (g.may_leave disk)) disks

-- each disk failed at least as often as is told of its server, from server k on
abbrev pub AreCauses : ℕ → List TraceItem → List Held → Type 0
AreCauses k items [] = Unit {0}
AreCauses k items (disk ∷ disks) = (fault_count k items ≤ disk.faults) × AreCauses (k + 1) items disks

-- each disk failed since then at least as often as is told of its server, from server k on
abbrev pub AreRises : ℕ → List TraceItem → (before after : List Held) → Type 0
AreRises k items [] [] = Unit {0}
AreRises k items (old ∷ before) (new ∷ after) = (old.faults + fault_count k items ≤ new.faults) × AreRises (k + 1) items before after
AreRises k items _ _ = ⊥
