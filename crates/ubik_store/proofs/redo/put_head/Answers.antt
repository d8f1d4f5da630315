use Rattle.std.proofs.Common.{◌≡◌, ◌+◌, ◌∙◌, ℕ, ap, refl, replicate, rules, arith}
use Rattle.std.proofs.lemmas.Bool.{false≢true}
use Rattle.disk_base.specs.declared.disks.DiskEnd.TheVariants as ends
use Rattle.disk_base.specs.declared.disks.FileNo.TheVariants.{Database}
use Rattle.disk_base.specs.declared.disks.LenEnd.TheVariants as lens
use Rattle.disk_base.specs.Runs.{OnlyReads, Writes}
use Rattle.disk_base.proofs.Runs.{called, rested, reads_change_none, write_changes, changes_joined, changes_as}
use Rattle.ubik_store.specs.Moments.{MayRedo}
use Rattle.ubik_store.proofs.Heads.{headed, few_none, few_head}
use Rattle.ubik_store.proofs.Redoing.{len_reads, rested_first, redo_head}
use Rattle.ubik_store.proofs.redo.put_head.Goals as goal

pub returns-in-Known-clause-redo : goal.returns-in-Known-clause-redo
returns-in-Known-clause-redo g c = λ kept told before.
    rested g.D.Disk.steps g.D.Disk.left_since _ _ (MayRedo kept told) _ _ c.len.ensures.steps c.len.ensures.crash
    (g.D.Disk.only_now c.args.disk.now) before

pub returns-in-Failed-clause-redo : goal.returns-in-Failed-clause-redo
returns-in-Failed-clause-redo g c = λ kept told before.
    rested g.D.Disk.steps g.D.Disk.left_since _ _ (MayRedo kept told) _ _ c.len.ensures.steps c.len.ensures.crash
    (g.D.Disk.only_now c.args.disk.now) before

pub returns-in-Done-clause-files : goal.returns-in-Done-clause-files
returns-in-Done-clause-files g c =
    headed _ _ _ _ _ c.in-Known.ensures.files c.in-Known.ensures.length (omega arith) refl c.in-Done.ensures.written

pub returns-in-Done-clause-redo : goal.returns-in-Done-clause-redo
returns-in-Done-clause-redo g c = λ kept told before.
    rested_first g.D.Disk (MayRedo kept told) c.len.ensures.steps c.len.ensures.crash before
    (λ mid. called g.D.Disk.steps g.D.Disk.left_since _ _ (MayRedo kept told) _ _ c.write_at.ensures.steps c.write_at.ensures.time
    (g.D.Disk.only_now c.len.new.self) mid
    (λ fs left. let from = c.write_at.ensures.crash fs left in redo_head kept told from.0 fs from.2 (mid from.0 from.1)))

pub returns-in-Failed-write_at-clause-redo : goal.returns-in-Failed-write_at-clause-redo
returns-in-Failed-write_at-clause-redo g c = λ kept told before.
    rested_first g.D.Disk (MayRedo kept told) c.len.ensures.steps c.len.ensures.crash before
    (λ mid. called g.D.Disk.steps g.D.Disk.left_since _ _ (MayRedo kept told) _ _ c.write_at.ensures.steps c.write_at.ensures.time
    (g.D.Disk.only_now c.len.new.self) mid
    (λ fs left. let from = c.write_at.ensures.crash fs left in redo_head kept told from.0 fs from.2 (mid from.0 from.1)))

pub returns-in-Known-clause-few : goal.returns-in-Known-clause-few
returns-in-Known-clause-few g c = few_none _ _ _ c.len.ensures.steps

pub returns-in-Done-clause-few : goal.returns-in-Done-clause-few
returns-in-Done-clause-few g c =
    few_head _ _ _ _ c.in-Known.ensures.length (omega arith) (c.write_at.ensures.steps ∙ ap (λ (n : ℕ). n + 1) c.len.ensures.steps)

pub returns-in-Failed-write_at-clause-few : goal.returns-in-Failed-write_at-clause-few
returns-in-Failed-write_at-clause-few g c =
    few_head _ _ _ _ c.in-Known.ensures.length (omega arith) (c.write_at.ensures.steps ∙ ap (λ (n : ℕ). n + 1) c.len.ensures.steps)

pub returns-in-Failed-clause-few : goal.returns-in-Failed-clause-few
returns-in-Failed-clause-few g c = few_none _ _ _ c.len.ensures.steps

pub returns-in-Known-clause-changes : goal.returns-in-Known-clause-changes
returns-in-Known-clause-changes g c =
    let reads : OnlyReads g.D.Disk c.args.disk.now c.len.new.self (c.len.result ≡ lens.Failed) =
    len_reads g.D.Disk c.len.result c.len.ensures.files c.len.ensures.room c.len.ensures.steps c.len.ensures.crash c.len.ensures.stop
    c.len.ensures.pending c.len.ensures.failed c.len.ensures.tells c.len.ensures.cause c.len.ensures.own in
    changes_as (omega arith) (λ failed. absurd cc) (λ failed. absurd (false≢true failed)) (reads_change_none reads)

pub returns-in-Done-clause-changes : goal.returns-in-Done-clause-changes
returns-in-Done-clause-changes g c =
    let reads : OnlyReads g.D.Disk c.args.disk.now c.len.new.self (c.len.result ≡ lens.Failed) =
    len_reads g.D.Disk c.len.result c.len.ensures.files c.len.ensures.room c.len.ensures.steps c.len.ensures.crash c.len.ensures.stop
    c.len.ensures.pending c.len.ensures.failed c.len.ensures.tells c.len.ensures.cause c.len.ensures.own in
    let write : Writes g.D.Disk Database 0 (replicate 64 0) c.len.new.self c.write_at.new.self
    (c.write_at.result ≡ ends.Failed) = search rules in
    changes_as (omega arith) (λ failed. absurd cc) (λ failed. absurd (false≢true failed))
    (changes_joined (reads_change_none reads) (λ failed. absurd cc) (write_changes write))

pub returns-in-Failed-write_at-clause-changes : goal.returns-in-Failed-write_at-clause-changes
returns-in-Failed-write_at-clause-changes g c =
    let reads : OnlyReads g.D.Disk c.args.disk.now c.len.new.self (c.len.result ≡ lens.Failed) =
    len_reads g.D.Disk c.len.result c.len.ensures.files c.len.ensures.room c.len.ensures.steps c.len.ensures.crash c.len.ensures.stop
    c.len.ensures.pending c.len.ensures.failed c.len.ensures.tells c.len.ensures.cause c.len.ensures.own in
    let write : Writes g.D.Disk Database 0 (replicate 64 0) c.len.new.self c.write_at.new.self
    (c.write_at.result ≡ ends.Failed) = search rules in
    changes_as (omega arith) (λ failed. refl) (λ failed. c.in-Failed-write_at.is)
    (changes_joined (reads_change_none reads) (λ failed. absurd cc) (write_changes write))

pub returns-in-Failed-clause-changes : goal.returns-in-Failed-clause-changes
returns-in-Failed-clause-changes g c =
    let reads : OnlyReads g.D.Disk c.args.disk.now c.len.new.self (c.len.result ≡ lens.Failed) =
    len_reads g.D.Disk c.len.result c.len.ensures.files c.len.ensures.room c.len.ensures.steps c.len.ensures.crash c.len.ensures.stop
    c.len.ensures.pending c.len.ensures.failed c.len.ensures.tells c.len.ensures.cause c.len.ensures.own in
    changes_as (omega arith) (λ failed. refl) (λ failed. cc) (reads_change_none reads)
