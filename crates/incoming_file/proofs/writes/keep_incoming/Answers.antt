use Rattle.std.proofs.Common.{◌∙◌, [], ◌∷◌, ap, arith}
use Rattle.std.specs.Option.{option_map}
use Rattle.disk_base.specs.Crash.{LeavesOnly}
use Rattle.disk_base.specs.Files.{laid}
use Rattle.disk_base.proofs.Runs.{joined, widened, changes_joined, changes_as}
use Rattle.incoming_file.specs.Incoming.{opened, with_incoming, HasIgnored, HasThisOrIgnored}
use Rattle.incoming_file.proofs.Keeping.{put_files, opened_is, text_long, while_opened, or_ignored}
use Rattle.incoming_file.proofs.Shutting.{settled_put}
use Rattle.incoming_file.proofs.Telling.{told, of_told, settled_at, on_done, on_done_both}
use Rattle.incoming_file.proofs.writes.keep_incoming.Goals as goal

pub put_incoming-requires-clause-begins : goal.put_incoming-requires-clause-begins
put_incoming-requires-clause-begins g c =
    text_long c.args.text.now _ _ (let long = c.requires.long in omega (arith, long)) c.in-Done.ensures.files

pub returns-in-Done-clause-files : goal.returns-in-Done-clause-files
returns-in-Done-clause-files g c =
    on_done c.put_incoming.result _ _
    (λ rest. put_files (opened c.args.text.now) c.args.text.now 63 (101 ∷ []) _ _ _
    (opened_is c.args.text.now) c.in-Done.ensures.files rest)
    c.put_incoming.ensures.written

pub returns-in-Done-clause-settled : goal.returns-in-Done-clause-settled
returns-in-Done-clause-settled g c =
    on_done_both c.put_incoming.result _ _ _
    (λ files only. settled_put
    (λ file. laid file 63 (101 ∷ [])) _ _ _ _ c.in-Done.ensures.settled files c.put_incoming.ensures.changes.others only)
    c.put_incoming.ensures.written c.put_incoming.ensures.durable

pub returns-in-Done-clause-moments : goal.returns-in-Done-clause-moments
returns-in-Done-clause-moments g c =
    told _ (λ fs. LeavesOnly g.D.Disk.steps g.D.Disk.left_since c.args.disk.now c.put_incoming.new.disk
    (HasThisOrIgnored (opened c.args.text.now) fs)) (λ fs is.
    let text = c.args.text.now in
    let P = HasThisOrIgnored (opened text) fs in
    let there = c.in-Done.ensures.files ∙ ap (option_map (with_incoming text)) is in
    joined g.D.Disk.steps g.D.Disk.left_since _ _ _ P
    (widened g.D.Disk.steps g.D.Disk.left_since _ _ (HasIgnored fs) P (or_ignored (opened text) fs)
    (of_told _ fs (λ fs. LeavesOnly g.D.Disk.steps g.D.Disk.left_since c.args.disk.now c.put_closed.new.disk (HasIgnored fs)) is
    c.put_closed.ensures.moments))
    (widened g.D.Disk.steps g.D.Disk.left_since _ _ _ P
    (while_opened fs _ text c.requires.long (settled_at _ (with_incoming text fs) _ there c.in-Done.ensures.settled))
    c.put_incoming.ensures.moments))

pub returns-in-Failed-clause-moments : goal.returns-in-Failed-clause-moments
returns-in-Failed-clause-moments g c =
    told _ (λ fs. LeavesOnly g.D.Disk.steps g.D.Disk.left_since c.args.disk.now c.put_closed.new.disk
    (HasThisOrIgnored (opened c.args.text.now) fs)) (λ fs is.
    widened g.D.Disk.steps g.D.Disk.left_since _ _ (HasIgnored fs) (HasThisOrIgnored (opened c.args.text.now) fs)
    (or_ignored (opened c.args.text.now) fs)
    (of_told _ fs (λ fs. LeavesOnly g.D.Disk.steps g.D.Disk.left_since c.args.disk.now c.put_closed.new.disk (HasIgnored fs)) is
    c.put_closed.ensures.moments))

pub returns-in-Done-clause-changes : goal.returns-in-Done-clause-changes
returns-in-Done-clause-changes g c = changes_joined c.put_closed.ensures.changes (λ failed. absurd cc) c.put_incoming.ensures.changes

pub returns-in-Failed-clause-changes : goal.returns-in-Failed-clause-changes
returns-in-Failed-clause-changes g c = changes_as (omega arith) (λ failed. cc) (λ failed. cc) c.put_closed.ensures.changes
