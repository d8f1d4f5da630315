-- The recovery of a server.
use Rattle.std.specs.Prelude.{◌≡◌, ◌≤◌, ℕ, Option, Some, List, length}
use Rattle.std.specs.Option.{ForSome}
use Rattle.ubik_types.specs.declared.limits.TheConstants.{MAX_IMAGE}
use Rattle.ubik_types.specs.declared.phases.Phase.TheVariants as phases
use Rattle.ubik_types.specs.declared.versions.Version.{Version}
use Rattle.ubik_types.specs.Version.{IsVersion}
use Rattle.cell_model.specs.Polls.{entry_at}
use Rattle.ubik_recovery.specs.Record.{RecoveryRecord}

-- the versions that were answered are versions
abbrev pub AreVersions : List (Option Version) → Type 0
AreVersions answers = (k : ℕ) (v : Version) → entry_at answers k ≡ Some v → IsVersion v

-- The recovery of a server in a cell of so many. What it receives of an image is no longer than one.
pub record IsOfCell (n : ℕ) (r : RecoveryRecord) : Type 0 where
  pub servers : r.servers ≡ n
  pub answers : AreVersions r.answers
  pub old : IsVersion r.old_version
  pub text : ForSome r.text (λ text. length text.bytes ≤ MAX_IMAGE)

-- calls are served
abbrev pub IsServing : RecoveryRecord → Type 0
IsServing r = r.phase ≡ phases.Ready
