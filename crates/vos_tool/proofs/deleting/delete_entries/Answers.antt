use Rattle.std.proofs.Common.{Ok, length, refl, ap}
use Rattle.tool_base.specs.Course.{◌>>=◌, gives}
use Rattle.tool_base.proofs.Walking.{ran_broken, ran_is, ran_lacks, ran_then}
use Rattle.vos_tool.specs.Deleting.{deleted_text, delentry_text}
use Rattle.vos_tool.proofs.deleting.delete_entries.Goals as goal

pub returns-in_err-delete_each : goal.returns-in_err-delete_each
unfolding delentry_text
returns-in_err-delete_each g c =
    ran_broken (λ (done : Unit {0}). gives (deleted_text (length c.args.volumes.now))) c.in_err-delete_each.field-0.0
    c.from_residual.result c.from_residual.ensures.1 refl c.in_err-delete_each.ensures

pub returns-in_err-text : goal.returns-in_err-text
unfolding delentry_text
returns-in_err-text g c =
    ran_lacks (λ (done : Unit {0}). gives (deleted_text (length c.args.volumes.now))) tt c.from_residual-in_err-text.result
    c.from_residual-in_err-text.ensures.1 refl c.in_ok-delete_each.ensures

pub returns : goal.returns
unfolding delentry_text
returns g c =
    ran_then (λ (done : Unit {0}). gives (deleted_text (length c.args.volumes.now))) tt refl c.in_ok-delete_each.ensures
    (ran_is _ _ (Ok (deleted_text (length c.args.volumes.now))) _ tt (ap Ok c.in_ok-text.ensures))
