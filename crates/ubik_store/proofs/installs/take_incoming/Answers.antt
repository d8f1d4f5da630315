use Rattle.std.proofs.Common.{◌≡◌, ◌∙◌, List, ℕ, IfSome, length, drop, ap, refl, rules, arith}
use Rattle.std.proofs.lemmas.Bool.{false≢true}
use Rattle.std.specs.Option.{option_map}
use Rattle.std.specs.Result.{is_err}
use Rattle.ubik_types.specs.declared.versions.Version.{Version}
use Rattle.disk_base.specs.declared.disks.Disk.{Ghosts}
use Rattle.disk_base.specs.declared.disks.FileNo.TheVariants.{Database}
use Rattle.disk_base.specs.Crash.{InFile, LeavesOnly, IsSettled, After}
use Rattle.disk_base.specs.Files.{with_file}
use Rattle.disk_base.specs.Runs.{Syncs}
use Rattle.disk_base.proofs.Runs.{sync_changes}
use Rattle.incoming_file.specs.Incoming.{HasThisOrIgnored}
use Rattle.page_file.specs.Pages.{Known, IsNoLonger}
use Rattle.ubik_store.specs.Plans.{PlansTake}
use Rattle.ubik_store.specs.Rest.{HasNoLog}
use Rattle.ubik_store.proofs.Applied.{calls_of, calls_joined, calls_as}
use Rattle.ubik_store.proofs.Taking.{Takes, stands_throughout, takes_replaced, takes_synced, takes_ended, settled_text, gate_there, files_taken}
use Rattle.ubik_store.proofs.Treating.{take_not_long}
use Rattle.ubik_store.proofs.Unlogged.{Unlogged, unlogged_replaced, unlogged_synced, unlogged_ended}
use Rattle.ubik_store.proofs.installs.take_incoming.Goals as goal

-- a crash finds what the incoming file stands for, and no log
module _ {D : Type 0} (g : Ghosts D) (text : List ℕ) (v : Version) (old : D) (pages : Known) (plan : PlansTake g old pages text v)
    (none : IfSome (g.files old) HasNoLog) (settled : IsSettled (g.files old) (g.may_leave old)) (mid : D)
    (replaces : LeavesOnly g.steps g.left_since old mid (After (InFile Database (IsNoLonger (length text))) (g.may_leave old))) where
  abbrev Leaves : D → Type 0
  Leaves new = Takes text v plan.is_text g old new × Unlogged g old new

  replaced : Leaves mid
  replaced = (
    takes_replaced text v plan.is_text g old plan.is_open settled (take_not_long g old pages text v plan) mid replaces,
    unlogged_replaced g old none (length text) mid settled replaces,
  )

  module _ (next : D) {F : Type 0} (syncs : Syncs g Database mid next F) where
    synced : Leaves next
    synced = (takes_synced text v plan.is_text g old mid next replaced.0 syncs, unlogged_synced g old mid next replaced.1 syncs)

    ended : (new : D) → g.files next ≡ option_map (λ fs. with_file fs Database text) (g.files old)
        → IfSome (g.files next) (λ fs. LeavesOnly g.steps g.left_since next new (HasThisOrIgnored fs.incoming fs)) → Leaves new
    ended new files ends = (
      takes_ended text v plan.is_text g old plan.is_open settled next new none synced.0 files ends,
      unlogged_ended g old text next new none synced.1 files ends,
    )

pub returns-in_err-replace-clause-stands : goal.returns-in_err-replace-clause-stands
returns-in_err-replace-clause-stands g c =
    let is = c.requires in
    let run = replaced g.D.Disk c.args.text.now c.args.v c.args.disk.now c.args.pages.now is.plan is.no_log is.settled c.replace.new.disk
    c.replace.ensures.moments in
    stands_throughout c.args.text.now c.args.v is.plan.is_text g.D.Disk c.args.disk.now run.0
    (calls_as (omega arith) (search rules) (λ _. ap is_err c.in_err-replace.was) (calls_of c.replace.ensures.changes))

pub returns-in_err-replace-clause-log : goal.returns-in_err-replace-clause-log
returns-in_err-replace-clause-log g c =
    let is = c.requires in
    let run = replaced g.D.Disk c.args.text.now c.args.v c.args.disk.now c.args.pages.now is.plan is.no_log is.settled c.replace.new.disk
    c.replace.ensures.moments in
    run.1

pub returns-in_err-sync-clause-stands : goal.returns-in_err-sync-clause-stands
returns-in_err-sync-clause-stands g c =
    let is = c.requires in
    let run = synced g.D.Disk c.args.text.now c.args.v c.args.disk.now c.args.pages.now is.plan is.no_log is.settled c.replace.new.disk
    c.replace.ensures.moments c.sync.new.disk c.sync.ensures.syncs in
    stands_throughout c.args.text.now c.args.v is.plan.is_text g.D.Disk c.args.disk.now run.0
    (calls_as (omega arith) (λ _. c.from_residual-in_err-sync.ensures.0) (λ _. ap is_err c.in_err-sync.was)
    (calls_joined (calls_of c.in_ok-replace.ensures.changes) false≢true (calls_of (sync_changes c.sync.ensures.syncs))))

pub returns-in_err-sync-clause-log : goal.returns-in_err-sync-clause-log
returns-in_err-sync-clause-log g c =
    let is = c.requires in
    let run = synced g.D.Disk c.args.text.now c.args.v c.args.disk.now c.args.pages.now is.plan is.no_log is.settled c.replace.new.disk
    c.replace.ensures.moments c.sync.new.disk c.sync.ensures.syncs in
    run.1

pub end_incoming-requires-clause-open : goal.end_incoming-requires-clause-open
end_incoming-requires-clause-open g c =
    gate_there c.args.text.now c.args.v (drop 64 c.args.text.now) _ _
    (c.in_ok-sync.ensures.syncs.files false≢true ∙ c.in_ok-replace.ensures.files) c.requires.plan.is_open

pub end_incoming-requires-clause-settled : goal.end_incoming-requires-clause-settled
end_incoming-requires-clause-settled g c =
    settled_text c.args.text.now _ _ _ (g.D.Disk.may_leave c.args.disk.now) (g.D.Disk.may_leave c.replace.new.disk)
    (g.D.Disk.may_leave c.sync.new.disk)
    c.requires.settled c.in_ok-replace.ensures.files (c.in_ok-sync.ensures.syncs.files false≢true)
    c.replace.ensures.changes.others c.sync.ensures.syncs.change.others (c.in_ok-sync.ensures.syncs.durable false≢true)

pub returns-in-Done-clause-done : goal.returns-in-Done-clause-done
returns-in-Done-clause-done g c = record {
  files = files_taken c.args.text.now _ _ _ c.requires.no_log (c.in_ok-sync.ensures.syncs.files false≢true ∙ c.in_ok-replace.ensures.files)
      c.in-Done.ensures.files;
  settled = search rules;
  steps = search rules;
  label = search rules;
  len = search rules;
  agrees = search rules;
}

pub returns-in-Done-clause-stands : goal.returns-in-Done-clause-stands
returns-in-Done-clause-stands g c =
    let is = c.requires in
    let run = ended g.D.Disk c.args.text.now c.args.v c.args.disk.now c.args.pages.now is.plan is.no_log is.settled c.replace.new.disk
    c.replace.ensures.moments c.sync.new.disk c.sync.ensures.syncs c.end_incoming.new.disk
    (c.in_ok-sync.ensures.syncs.files false≢true ∙ c.in_ok-replace.ensures.files) c.end_incoming.ensures.moments in
    stands_throughout c.args.text.now c.args.v is.plan.is_text g.D.Disk c.args.disk.now run.0
    (calls_as (omega arith) (λ failed. absurd cc) (λ failed. absurd (false≢true failed))
    (calls_joined (calls_joined (calls_of c.in_ok-replace.ensures.changes) false≢true
    (calls_of (sync_changes c.in_ok-sync.ensures.syncs))) false≢true (calls_of c.in-Done.ensures.changes)))

pub returns-in-Done-clause-log : goal.returns-in-Done-clause-log
returns-in-Done-clause-log g c =
    let is = c.requires in
    let run = ended g.D.Disk c.args.text.now c.args.v c.args.disk.now c.args.pages.now is.plan is.no_log is.settled c.replace.new.disk
    c.replace.ensures.moments c.sync.new.disk c.sync.ensures.syncs c.end_incoming.new.disk
    (c.in_ok-sync.ensures.syncs.files false≢true ∙ c.in_ok-replace.ensures.files) c.end_incoming.ensures.moments in
    run.1

pub returns-in-Failed-clause-stands : goal.returns-in-Failed-clause-stands
returns-in-Failed-clause-stands g c =
    let is = c.requires in
    let run = ended g.D.Disk c.args.text.now c.args.v c.args.disk.now c.args.pages.now is.plan is.no_log is.settled c.replace.new.disk
    c.replace.ensures.moments c.sync.new.disk c.sync.ensures.syncs c.end_incoming.new.disk
    (c.in_ok-sync.ensures.syncs.files false≢true ∙ c.in_ok-replace.ensures.files) c.end_incoming.ensures.moments in
    stands_throughout c.args.text.now c.args.v is.plan.is_text g.D.Disk c.args.disk.now run.0
    (calls_as (omega arith) (λ _. refl) (λ _. cc)
    (calls_joined (calls_joined (calls_of c.in_ok-replace.ensures.changes) false≢true
    (calls_of (sync_changes c.in_ok-sync.ensures.syncs))) false≢true (calls_of c.in-Failed.ensures.changes)))

pub returns-in-Failed-clause-log : goal.returns-in-Failed-clause-log
returns-in-Failed-clause-log g c =
    let is = c.requires in
    let run = ended g.D.Disk c.args.text.now c.args.v c.args.disk.now c.args.pages.now is.plan is.no_log is.settled c.replace.new.disk
    c.replace.ensures.moments c.sync.new.disk c.sync.ensures.syncs c.end_incoming.new.disk
    (c.in_ok-sync.ensures.syncs.files false≢true ∙ c.in_ok-replace.ensures.files) c.end_incoming.ensures.moments in
    run.1
