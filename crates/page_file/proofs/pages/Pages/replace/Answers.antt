use Rattle.std.proofs.Common.{◌≡◌, ap, refl, rules, arith}
use Rattle.disk_base.specs.declared.disks.FileNo.TheVariants.{Database}
use Rattle.disk_base.specs.declared.disks.DiskEnd.TheVariants.{Failed}
use Rattle.disk_base.specs.Runs.{Cuts, Writes}
use Rattle.disk_base.proofs.Runs.{changes_as}
use Rattle.page_file.specs.Kept.{Cached}
use Rattle.page_file.proofs.Replacing.{anew_agrees, files_anew, replaced_moments, replaced_changes}
use Rattle.page_file.proofs.pages.Pages.replace.Goals as goal

pub returns-in-Done-write_at-clause-agrees : goal.returns-in-Done-write_at-clause-agrees
returns-in-Done-write_at-clause-agrees g c =
    anew_agrees _ _ _ _ _ c.requires.version c.requires.labelled refl refl (ap (λ (kept : Cached). kept.pages) c.clear.ensures)
    (files_anew _ _ _ c.args.text.now c.in-Done.ensures.cut c.in-Done-write_at.ensures.written)

pub returns-in-Done-write_at-clause-moments : goal.returns-in-Done-write_at-clause-moments
returns-in-Done-write_at-clause-moments g c =
    let cut : Cuts g.D.Disk Database 0 c.args.disk.now c.cut.new.self (c.cut.result ≡ Failed) = search rules in
    let written : Writes g.D.Disk Database 0 c.args.text.now c.cut.new.self c.write_at.new.self
    (c.write_at.result ≡ Failed) = search rules in
    replaced_moments cut written

pub returns-in-Done-write_at-clause-changes : goal.returns-in-Done-write_at-clause-changes
returns-in-Done-write_at-clause-changes g c =
    let cut : Cuts g.D.Disk Database 0 c.args.disk.now c.cut.new.self (c.cut.result ≡ Failed) = search rules in
    let written : Writes g.D.Disk Database 0 c.args.text.now c.cut.new.self c.write_at.new.self
    (c.write_at.result ≡ Failed) = search rules in
    changes_as (omega arith) (λ failed. absurd cc) (λ failed. absurd cc) (replaced_changes cut written (λ failed. absurd cc))

pub returns-in-Failed-write_at-clause-moments : goal.returns-in-Failed-write_at-clause-moments
returns-in-Failed-write_at-clause-moments g c =
    let cut : Cuts g.D.Disk Database 0 c.args.disk.now c.cut.new.self (c.cut.result ≡ Failed) = search rules in
    let written : Writes g.D.Disk Database 0 c.args.text.now c.cut.new.self c.write_at.new.self
    (c.write_at.result ≡ Failed) = search rules in
    replaced_moments cut written

pub returns-in-Failed-write_at-clause-changes : goal.returns-in-Failed-write_at-clause-changes
returns-in-Failed-write_at-clause-changes g c =
    let cut : Cuts g.D.Disk Database 0 c.args.disk.now c.cut.new.self (c.cut.result ≡ Failed) = search rules in
    let written : Writes g.D.Disk Database 0 c.args.text.now c.cut.new.self c.write_at.new.self
    (c.write_at.result ≡ Failed) = search rules in
    changes_as (omega arith) (λ failed. refl) (λ failed. cc) (replaced_changes cut written (λ failed. absurd cc))
