-- What an opening has made out of the files, and what room it has, before it changes anything (own).
use Rattle.std.specs.Prelude.{◌≡◌, ◌↔◌, ℕ, ◌≤◌, Bool, IsTrue, List, Some, IfSome, length, take, drop}
use Rattle.std.specs.List.{All}
use Rattle.ubik_types.specs.declared.images.Change.{Change}
use Rattle.ubik_types.specs.declared.limits.TheConstants.{MAX_IMAGE}
use Rattle.ubik_types.specs.declared.versions.Version.{Version}
use Rattle.ubik_types.specs.Logged.{logged}
use Rattle.ubik_types.specs.Version.{IsVersion}
use Rattle.disk_base.specs.declared.disks.Disk.{Ghosts}
use Rattle.disk_base.specs.declared.disks.FileNo.TheVariants.{Database, Log, Incoming}
use Rattle.page_file.specs.declared.label.TheConstants.{LABEL_LEN}
use Rattle.page_file.specs.Label.{version_of_database}
use Rattle.page_file.specs.Pages.{Known, AgreesIn}
use Rattle.ubik_log.specs.LogGrammar.{IsTold, IsCommitted, IsDiscarded, new_record}
use Rattle.incoming_file.specs.Incoming.{IsIncoming}
use Rattle.incoming_file.specs.Reading.{IsText, FindsIgnored}
use Rattle.ubik_store.specs.declared.opening.LogPlan.{LogPlan}
use Rattle.ubik_store.specs.declared.opening.LogPlan.TheVariants.{Redo, Empty}
use Rattle.ubik_store.specs.declared.opening.Plan.{Plan}
use Rattle.ubik_store.specs.declared.opening.Plan.TheVariants.{Take, Treat}
use Rattle.ubik_store.specs.Redo.{Ends}

-- a log begins with the first record of one
abbrev pub IsBegun : List ℕ → Type 0
IsBegun log = take 4 log ≡ new_record

-- A committed log: its changes as they are made over the image that stands there, with room for them, for a label and for a gate.
pub record PlansRedo {D : Type 0} (g : Ghosts D) (disk : D) (pages : Known) (made : List Change) (v : Version) : Type 0 where
  pub told : List Change
  pub is_told : IsTold told v
  pub committed : IfSome (g.files disk) (λ fs. IsCommitted fs.log told v)
  pub made_is : made ≡ logged pages.len told
  pub agrees : AgreesIn pages (g.files disk)
  pub len : pages.len ≤ MAX_IMAGE
  pub fits : All (λ change. Ends change (g.room disk Database)) made
  pub head_fits : LABEL_LEN ≤ g.room disk Database
  pub gate_fits : 4 ≤ g.room disk Log

-- A discarded log, and the version and length of a database file with a label.
pub record PlansEmpty {D : Type 0} (g : Ghosts D) (disk : D) (pages : Known) (begun : Bool) : Type 0 where
  pub discarded : IfSome (g.files disk) (λ fs. IsDiscarded fs.log)
  pub begins : IfSome (g.files disk) (λ fs. IsTrue begun ↔ IsBegun fs.log)
  pub version : Version
  pub is_version : IsVersion version
  pub label : pages.version ≡ Some version
  pub labelled : IfSome (g.files disk) (λ fs. version_of_database fs.database ≡ Some version)
  pub agrees : AgreesIn pages (g.files disk)
  pub len : pages.len ≤ MAX_IMAGE
  pub gate_fits : IsTrue begun → 4 ≤ g.room disk Log

-- what stands in database and log is what the plan says
abbrev pub PlansLog : {D : Type 0} → Ghosts D → D → LogPlan → Type 0
PlansLog g disk (Redo pages made v) = PlansRedo g disk pages made v
PlansLog g disk (Empty pages begun) = PlansEmpty g disk pages begun

-- An open incoming file: the label and the image that it has, with room for them in the database file, and for a gate that is closed.
pub record PlansTake {D : Type 0} (g : Ghosts D) (disk : D) (pages : Known) (text : List ℕ) (v : Version) : Type 0 where
  pub is_text : IsText text v
  pub is_open : IfSome (g.files disk) (λ fs. IsIncoming fs.incoming v (drop LABEL_LEN text))
  pub agrees : AgreesIn pages (g.files disk)
  pub len : pages.len ≤ MAX_IMAGE
  pub fits : length text ≤ g.room disk Database
  pub gate_fits : LABEL_LEN ≤ g.room disk Incoming

-- one that is ignored, and what the log asks for
pub record PlansTreat {D : Type 0} (g : Ghosts D) (disk : D) (plan : LogPlan) (len : ℕ) (gated : Bool) : Type 0 where
  pub log : PlansLog g disk plan
  pub stale : FindsIgnored g disk len gated

-- what stands there is what the plan says
abbrev pub Plans : {D : Type 0} → Ghosts D → D → Plan → Type 0
Plans g disk (Take pages text v) = PlansTake g disk pages text v
Plans g disk (Treat plan len gated) = PlansTreat g disk plan len gated
