use Rattle.std.proofs.Common.{◌↔◌, ◌∙◌, IsTrue, refl, sym}
use Rattle.std.proofs.lemmas.Bool.{false≢true}
use Rattle.disk_base.specs.declared.disks.FileNo.TheVariants.{Log}
use Rattle.disk_base.specs.Crash.{CutShort, InFile, LeavesOnly, After}
use Rattle.disk_base.proofs.Runs.{widened}
use Rattle.ubik_log.specs.LogFile.{HasDiscarded, HasLogOrNone}
use Rattle.ubik_log.specs.LogGrammar.{IsDiscarded}
use Rattle.ubik_store.specs.Plans.{IsBegun}
use Rattle.ubik_store.proofs.Closing.{LeavesLog}
use Rattle.ubik_store.proofs.Committing.{only_log, settled_at}
use Rattle.ubik_store.proofs.Emptying.{begun_is_open, discarded_by_cut, discarded_by_end, settled_empty}
use Rattle.ubik_store.proofs.Telling.{told, of_told}
use Rattle.ubik_store.proofs.opening.empty_discarded.Goals as goal

pub returns-in_err-end_log-clause-moments : goal.returns-in_err-end_log-clause-moments
returns-in_err-end_log-clause-moments g c =
    told _ (λ fs. LeavesOnly g.D.Disk.steps g.D.Disk.left_since c.args.disk.now c.end_log.new.disk (HasDiscarded fs)) (λ fs is.
    let only = settled_at _ fs _ is c.requires.settled in
    let none = of_told _ fs (λ fs. IsDiscarded fs.log) is c.requires.discarded in
    let begun = (of_told _ fs (λ fs. IsTrue c.args.begun ↔ IsBegun fs.log) is c.requires.begins).0 c.if-begun.true in
    widened g.D.Disk.steps g.D.Disk.left_since _ _ (After (HasLogOrNone fs.log) (g.D.Disk.may_leave c.args.disk.now)) (HasDiscarded fs)
    (discarded_by_end fs _ only none)
    (of_told _ fs (LeavesLog g.D.Disk c.args.disk.now c.end_log.new.disk) is c.end_log.ensures.moments (begun_is_open fs.log begun)
    (only_log fs fs.log _ refl only)))

pub returns-then-begun-clause-moments : goal.returns-then-begun-clause-moments
returns-then-begun-clause-moments g c =
    told _ (λ fs. LeavesOnly g.D.Disk.steps g.D.Disk.left_since c.args.disk.now c.end_log.new.disk (HasDiscarded fs)) (λ fs is.
    let only = settled_at _ fs _ is c.requires.settled in
    let none = of_told _ fs (λ fs. IsDiscarded fs.log) is c.requires.discarded in
    let begun = (of_told _ fs (λ fs. IsTrue c.args.begun ↔ IsBegun fs.log) is c.requires.begins).0 c.if-begun.true in
    widened g.D.Disk.steps g.D.Disk.left_since _ _ (After (HasLogOrNone fs.log) (g.D.Disk.may_leave c.args.disk.now)) (HasDiscarded fs)
    (discarded_by_end fs _ only none)
    (of_told _ fs (LeavesLog g.D.Disk c.args.disk.now c.end_log.new.disk) is c.end_log.ensures.moments (begun_is_open fs.log begun)
    (only_log fs fs.log _ refl only)))

pub returns-then-begun-clause-settled : goal.returns-then-begun-clause-settled
returns-then-begun-clause-settled g c =
    settled_empty _ _ _ _ c.requires.settled c.in_ok-end_log.ensures.files c.in_ok-end_log.ensures.changes.others
    c.in_ok-end_log.ensures.durable

pub returns-in-Done-clause-settled : goal.returns-in-Done-clause-settled
returns-in-Done-clause-settled g c =
    settled_empty _ _ _ _ c.requires.settled c.in-Done.ensures.files c.in-Done.ensures.changes.others c.in-Done.ensures.durable

pub returns-in-Done-clause-moments : goal.returns-in-Done-clause-moments
returns-in-Done-clause-moments g c =
    told _ (λ fs. LeavesOnly g.D.Disk.steps g.D.Disk.left_since c.args.disk.now c.empty_log_file.new.disk (HasDiscarded fs)) (λ fs is.
    let only = settled_at _ fs _ is c.requires.settled in
    let none = of_told _ fs (λ fs. IsDiscarded fs.log) is c.requires.discarded in
    let other : ¬ IsBegun fs.log = λ begun. false≢true
    (sym c.if-begun.false ∙ (of_told _ fs (λ fs. IsTrue c.args.begun ↔ IsBegun fs.log) is c.requires.begins).1 begun) in
    widened g.D.Disk.steps g.D.Disk.left_since _ _ (After (InFile Log (CutShort 0)) (g.D.Disk.may_leave c.args.disk.now))
    (HasDiscarded fs) (discarded_by_cut fs _ only none other)
    c.empty_log_file.ensures.moments)

pub returns-in-Failed-clause-moments : goal.returns-in-Failed-clause-moments
returns-in-Failed-clause-moments g c =
    told _ (λ fs. LeavesOnly g.D.Disk.steps g.D.Disk.left_since c.args.disk.now c.empty_log_file.new.disk (HasDiscarded fs)) (λ fs is.
    let only = settled_at _ fs _ is c.requires.settled in
    let none = of_told _ fs (λ fs. IsDiscarded fs.log) is c.requires.discarded in
    let other : ¬ IsBegun fs.log = λ begun. false≢true
    (sym c.if-begun.false ∙ (of_told _ fs (λ fs. IsTrue c.args.begun ↔ IsBegun fs.log) is c.requires.begins).1 begun) in
    widened g.D.Disk.steps g.D.Disk.left_since _ _ (After (InFile Log (CutShort 0)) (g.D.Disk.may_leave c.args.disk.now))
    (HasDiscarded fs) (discarded_by_cut fs _ only none other)
    c.empty_log_file.ensures.moments)
