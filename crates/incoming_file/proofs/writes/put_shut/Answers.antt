use Rattle.std.proofs.Common.{◌≡◌, ◌∙◌, [], replicate, ap, arith}
use Rattle.std.specs.Option.{option_map}
use Rattle.disk_base.specs.Crash.{LeavesOnly}
use Rattle.disk_base.specs.Files.{laid}
use Rattle.disk_base.proofs.Runs.{joined, widened, changes_joined, changes_as}
use Rattle.incoming_file.specs.Incoming.{shut, with_incoming, HasIgnored}
use Rattle.incoming_file.proofs.Keeping.{put_files, rest_written, while_zeros, while_rest, zeros_there, zeros_long}
use Rattle.incoming_file.proofs.Shutting.{settled_put}
use Rattle.incoming_file.proofs.Telling.{told, of_told, settled_at, on_done, on_done_both}
use Rattle.incoming_file.proofs.writes.put_shut.Goals as goal

pub put_incoming-requires-in-Done-clause-begins : goal.put_incoming-requires-in-Done-clause-begins
put_incoming-requires-in-Done-clause-begins g c = zeros_long _ _ c.requires.empty c.in-Done.ensures.written

pub returns-in-Done-clause-files : goal.returns-in-Done-clause-files
returns-in-Done-clause-files g c =
    on_done c.put_incoming-in-Done.result _ _
    (λ rest. put_files (shut c.args.text.now) (replicate 63 0) 63 c.split_at.result.1.now _ _ _
    (rest_written c.args.text.now c.split_at.result.1.now c.split_at.ensures.back)
    (zeros_there _ _ c.requires.empty c.in-Done.ensures.written) rest)
    c.put_incoming-in-Done.ensures.written

pub returns-in-Done-clause-settled : goal.returns-in-Done-clause-settled
returns-in-Done-clause-settled g c =
    let first = settled_put
    (λ file. laid file 0 (replicate 63 0)) _ _ _ _ c.requires.settled c.in-Done.ensures.written c.put_incoming.ensures.changes.others
    c.in-Done.ensures.durable in
    on_done_both c.put_incoming-in-Done.result _ _ _
    (λ files only. settled_put
    (λ file. laid file 63 c.split_at.result.1.now) _ _ _ _ first files c.put_incoming-in-Done.ensures.changes.others only)
    c.put_incoming-in-Done.ensures.written c.put_incoming-in-Done.ensures.durable

pub returns-in-Done-clause-moments : goal.returns-in-Done-clause-moments
returns-in-Done-clause-moments g c =
    told _ (λ fs. LeavesOnly g.D.Disk.steps g.D.Disk.left_since c.args.disk.now c.put_incoming-in-Done.new.disk (HasIgnored fs)) (λ fs is.
    let first = settled_put
    (λ file. laid file 0 (replicate 63 0)) _ _ _ _ c.requires.settled c.in-Done.ensures.written c.put_incoming.ensures.changes.others
    c.in-Done.ensures.durable in
    let there = zeros_there _ _ c.requires.empty c.in-Done.ensures.written ∙ ap (option_map (with_incoming (replicate 63 0))) is in
    joined g.D.Disk.steps g.D.Disk.left_since _ _ _ (HasIgnored fs)
    (widened g.D.Disk.steps g.D.Disk.left_since _ _ _ (HasIgnored fs)
    (while_zeros fs _ (settled_at _ fs _ is c.requires.settled) (of_told _ fs (λ fs. fs.incoming ≡ []) is c.requires.empty))
    c.put_incoming.ensures.moments)
    (widened g.D.Disk.steps g.D.Disk.left_since _ _ _ (HasIgnored fs)
    (while_rest fs _ _ (settled_at _ (with_incoming (replicate 63 0) fs) _ there first)) c.put_incoming-in-Done.ensures.moments))

pub returns-in-Failed-clause-moments : goal.returns-in-Failed-clause-moments
returns-in-Failed-clause-moments g c =
    told _ (λ fs. LeavesOnly g.D.Disk.steps g.D.Disk.left_since c.args.disk.now c.put_incoming.new.disk (HasIgnored fs)) (λ fs is.
    widened g.D.Disk.steps g.D.Disk.left_since _ _ _ (HasIgnored fs)
    (while_zeros fs _ (settled_at _ fs _ is c.requires.settled) (of_told _ fs (λ fs. fs.incoming ≡ []) is c.requires.empty))
    c.put_incoming.ensures.moments)

pub returns-in-Done-clause-changes : goal.returns-in-Done-clause-changes
returns-in-Done-clause-changes g c =
    changes_joined c.put_incoming.ensures.changes (λ failed. absurd cc) c.put_incoming-in-Done.ensures.changes

pub returns-in-Failed-clause-changes : goal.returns-in-Failed-clause-changes
returns-in-Failed-clause-changes g c = changes_as (omega arith) (λ failed. cc) (λ failed. cc) c.put_incoming.ensures.changes
