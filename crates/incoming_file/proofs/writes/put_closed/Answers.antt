use Rattle.std.proofs.Common.{◌∙◌, length, ap, arith}
use Rattle.std.specs.Option.{option_map}
use Rattle.disk_base.specs.Crash.{LeavesOnly}
use Rattle.disk_base.specs.Files.{laid}
use Rattle.disk_base.proofs.Runs.{joined, widened, changes_joined, changes_as}
use Rattle.incoming_file.specs.Incoming.{shut, with_incoming, HasIgnored}
use Rattle.incoming_file.proofs.Keeping.{put_files, label_written, front_short, while_label}
use Rattle.incoming_file.proofs.Shutting.{settled_put}
use Rattle.incoming_file.proofs.Telling.{told, of_told, settled_at, on_done, on_done_both}
use Rattle.incoming_file.proofs.writes.put_closed.Goals as goal

pub returns-in-Done-clause-files : goal.returns-in-Done-clause-files
returns-in-Done-clause-files g c =
    on_done c.put_incoming.result _ _
    (λ rest. put_files c.args.text.now (shut c.args.text.now) 0 c.split_at.result.0.now _ _ _
    (label_written c.args.text.now c.split_at.result.0.now c.split_at.ensures.front (let long = c.requires.long in omega (arith, long)))
    c.in-Done.ensures.files rest)
    c.put_incoming.ensures.written

pub returns-in-Done-clause-settled : goal.returns-in-Done-clause-settled
returns-in-Done-clause-settled g c =
    on_done_both c.put_incoming.result _ _ _
    (λ files only. settled_put
    (λ file. laid file 0 c.split_at.result.0.now) _ _ _ _ c.in-Done.ensures.settled files c.put_incoming.ensures.changes.others only)
    c.put_incoming.ensures.written c.put_incoming.ensures.durable

pub returns-in-Done-clause-moments : goal.returns-in-Done-clause-moments
returns-in-Done-clause-moments g c =
    told _ (λ fs. LeavesOnly g.D.Disk.steps g.D.Disk.left_since c.args.disk.now c.put_incoming.new.disk (HasIgnored fs)) (λ fs is.
    let text = c.args.text.now in
    let there = c.in-Done.ensures.files ∙ ap (option_map (with_incoming (shut text))) is in
    joined g.D.Disk.steps g.D.Disk.left_since _ _ _ (HasIgnored fs)
    (of_told _ fs (λ fs. LeavesOnly g.D.Disk.steps g.D.Disk.left_since c.args.disk.now c.put_shut.new.disk (HasIgnored fs)) is
    c.put_shut.ensures.moments)
    (widened g.D.Disk.steps g.D.Disk.left_since _ _ _ (HasIgnored fs)
    (while_label fs _ text (length c.split_at.result.0.now)
    (front_short text c.split_at.result.0.now c.split_at.ensures.front) c.requires.zero
    (settled_at _ (with_incoming (shut text) fs) _ there c.in-Done.ensures.settled)) c.put_incoming.ensures.moments))

pub returns-in-Done-clause-changes : goal.returns-in-Done-clause-changes
returns-in-Done-clause-changes g c = changes_joined c.put_shut.ensures.changes (λ failed. absurd cc) c.put_incoming.ensures.changes

pub returns-in-Failed-clause-changes : goal.returns-in-Failed-clause-changes
returns-in-Failed-clause-changes g c = changes_as (omega arith) (λ failed. cc) (λ failed. cc) c.put_shut.ensures.changes
