use Rattle.std.proofs.Common.{◌≡◌, [], false, arith, sym, ◌∙◌}
use Rattle.disk_base.specs.Crash.{LeavesOnly}
use Rattle.disk_base.proofs.Runs.{widened, reads_nothing, reads_change_none, changes_as}
use Rattle.incoming_file.specs.Incoming.{IsIgnored, is_gated, HasIgnored}
use Rattle.incoming_file.proofs.Shutting.{settled_put, while_cleared}
use Rattle.incoming_file.proofs.Telling.{told, of_told, settled_at, on_done_both}
use Rattle.incoming_file.proofs.writes.clear_incoming.Goals as goal

pub returns-then-len-eq0-clause-changes : goal.returns-then-len-eq0-clause-changes
returns-then-len-eq0-clause-changes g c =
    changes_as (omega arith) (λ none. absurd none) (λ failed. absurd cc) (reads_change_none (reads_nothing c.args.disk.now))

pub returns-clause-settled : goal.returns-clause-settled
returns-clause-settled g c =
    on_done_both c.empty_incoming.result _ _ _
    (λ files only. settled_put (λ _. []) _ _ _ _ c.requires.settled files c.empty_incoming.ensures.changes.others only)
    c.empty_incoming.ensures.files c.empty_incoming.ensures.durable

pub returns-clause-moments : goal.returns-clause-moments
returns-clause-moments g c =
    told _ (λ fs. LeavesOnly g.D.Disk.steps g.D.Disk.left_since c.args.disk.now c.empty_incoming.new.disk (HasIgnored fs)) (λ fs is.
    let shut : is_gated fs.incoming ≡ false = sym (of_told _ fs (λ fs. c.args.gated ≡ is_gated fs.incoming) is c.requires.gated)
    ∙ c.if-gated.false in
    widened g.D.Disk.steps g.D.Disk.left_since _ _ _ (HasIgnored fs)
    (while_cleared fs _ (settled_at _ fs _ is c.requires.settled)
    (of_told _ fs (λ fs. IsIgnored fs.incoming) is c.requires.ignored) shut) c.empty_incoming.ensures.moments)
