use Rattle.std.proofs.Common.{◌∙◌, [], ◌∷◌, ap, arith}
use Rattle.std.specs.Option.{option_map}
use Rattle.disk_base.specs.Crash.{LeavesOnly}
use Rattle.disk_base.specs.Files.{laid}
use Rattle.disk_base.proofs.Runs.{joined, widened, changes_joined, changes_as}
use Rattle.incoming_file.specs.Incoming.{IsGateOpen, with_incoming, HasThisOrIgnored}
use Rattle.incoming_file.proofs.Opens.{gate_there}
use Rattle.incoming_file.proofs.Shutting.{settled_put, while_shut, while_cut, emptied_files}
use Rattle.incoming_file.proofs.Telling.{told, of_told, settled_at, on_done, on_done_both}
use Rattle.incoming_file.proofs.writes.end_incoming.Goals as goal

pub put_incoming-requires-clause-begins : goal.put_incoming-requires-clause-begins
put_incoming-requires-clause-begins g c = told _ _ (λ fs is.
    let there = gate_there fs.incoming (of_told _ fs (λ fs. IsGateOpen fs.incoming) is c.requires.open) in omega (arith, there))

pub returns-in-Done-clause-files : goal.returns-in-Done-clause-files
returns-in-Done-clause-files g c =
    on_done c.empty_incoming.result _ _
    (λ empties. emptied_files (λ file. laid file 63 (0 ∷ [])) _ _ _ c.in-Done.ensures.written empties) c.empty_incoming.ensures.files

pub returns-in-Done-clause-settled : goal.returns-in-Done-clause-settled
returns-in-Done-clause-settled g c =
    let shut = settled_put
    (λ file. laid file 63 (0 ∷ [])) _ _ _ _ c.requires.settled c.in-Done.ensures.written c.put_incoming.ensures.changes.others
    c.in-Done.ensures.durable in
    on_done_both c.empty_incoming.result _ _ _
    (λ files only. settled_put (λ _. []) _ _ _ _ shut files c.empty_incoming.ensures.changes.others only)
    c.empty_incoming.ensures.files c.empty_incoming.ensures.durable

pub returns-in-Done-clause-moments : goal.returns-in-Done-clause-moments
returns-in-Done-clause-moments g c =
    told _ (λ fs. LeavesOnly g.D.Disk.steps g.D.Disk.left_since c.args.disk.now c.empty_incoming.new.disk
    (HasThisOrIgnored fs.incoming fs)) (λ fs is.
    let opens = of_told _ fs (λ fs. IsGateOpen fs.incoming) is c.requires.open in
    let shut = settled_put
    (λ file. laid file 63 (0 ∷ [])) _ _ _ _ c.requires.settled c.in-Done.ensures.written c.put_incoming.ensures.changes.others
    c.in-Done.ensures.durable in
    let there = c.in-Done.ensures.written ∙ ap (option_map (λ fs. with_incoming (laid fs.incoming 63 (0 ∷ [])) fs)) is in
    let only = settled_at _ (with_incoming (laid fs.incoming 63 (0 ∷ [])) fs) _ there shut in
    joined g.D.Disk.steps g.D.Disk.left_since _ _ _ (HasThisOrIgnored fs.incoming fs)
    (widened g.D.Disk.steps g.D.Disk.left_since _ _ _ (HasThisOrIgnored fs.incoming fs)
    (while_shut fs _ (settled_at _ fs _ is c.requires.settled) opens) c.put_incoming.ensures.moments)
    (widened g.D.Disk.steps g.D.Disk.left_since _ _ _ (HasThisOrIgnored fs.incoming fs)
    (while_cut fs _ only opens) c.empty_incoming.ensures.moments))

pub returns-in-Failed-clause-moments : goal.returns-in-Failed-clause-moments
returns-in-Failed-clause-moments g c =
    told _ (λ fs. LeavesOnly g.D.Disk.steps g.D.Disk.left_since c.args.disk.now c.put_incoming.new.disk
    (HasThisOrIgnored fs.incoming fs)) (λ fs is.
    widened g.D.Disk.steps g.D.Disk.left_since _ _ _ (HasThisOrIgnored fs.incoming fs)
    (while_shut fs _ (settled_at _ fs _ is c.requires.settled) (of_told _ fs (λ fs. IsGateOpen fs.incoming) is c.requires.open))
    c.put_incoming.ensures.moments)

pub returns-in-Done-clause-changes : goal.returns-in-Done-clause-changes
returns-in-Done-clause-changes g c = changes_joined c.put_incoming.ensures.changes (λ failed. absurd cc) c.empty_incoming.ensures.changes

pub returns-in-Failed-clause-changes : goal.returns-in-Failed-clause-changes
returns-in-Failed-clause-changes g c = changes_as (omega arith) (λ failed. cc) (λ failed. cc) c.put_incoming.ensures.changes
