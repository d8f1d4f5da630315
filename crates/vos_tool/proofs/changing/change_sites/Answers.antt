use Rattle.std.proofs.Common.{refl}
use Rattle.tool_base.specs.Course.{◌>>=◌}
use Rattle.tool_base.proofs.Walking.{ran_broken, ran_then}
use Rattle.vl_calls.specs.declared.calls.VlCall.TheVariants as call
use Rattle.vldb_entries.specs.declared.entries.VlEntry.{VlEntry}
use Rattle.vos_tool.specs.Asking.{asks_entry}
use Rattle.vos_tool.specs.Changing.{changes_sites, replaces_if}
use Rattle.vos_tool.specs.Sites.{changed_sites}
use Rattle.vos_tool.specs.Volumes.{any_type}
use Rattle.vos_tool.proofs.changing.change_sites.Goals as goal

pub returns-in_err-set_lock : goal.returns-in_err-set_lock
unfolding changes_sites
returns-in_err-set_lock g c =
    ran_broken (λ (done : Unit {0}). asks_entry (call.GetEntryById c.args.id any_type) >>= λ (e : VlEntry). replaces_if c.args.id e
    (changed_sites c.args.change c.args.place e.sites)) c.in_err-set_lock.field-0.0 c.from_residual.result c.from_residual.ensures.1 refl
    c.in_err-set_lock.ensures

pub returns-in_err-entry : goal.returns-in_err-entry
unfolding changes_sites
returns-in_err-entry g c =
    ran_then (λ (done : Unit {0}). asks_entry (call.GetEntryById c.args.id any_type) >>= λ (e : VlEntry). replaces_if c.args.id e
    (changed_sites c.args.change c.args.place e.sites)) tt refl c.in_ok-set_lock.ensures
    (ran_broken (λ (entry : VlEntry). replaces_if c.args.id entry (changed_sites c.args.change c.args.place entry.sites))
    c.in_err-entry.field-0.0 c.from_residual-in_err-entry.result c.from_residual-in_err-entry.ensures.1 refl c.in_err-entry.ensures.ran)

pub returns : goal.returns
unfolding changes_sites
returns g c =
    ran_then (λ (done : Unit {0}). asks_entry (call.GetEntryById c.args.id any_type) >>= λ (e : VlEntry). replaces_if c.args.id e
    (changed_sites c.args.change c.args.place e.sites)) tt refl c.in_ok-set_lock.ensures
    (ran_then (λ (entry : VlEntry). replaces_if c.args.id entry (changed_sites c.args.change c.args.place entry.sites))
    c.in_ok-entry.entry refl c.in_ok-entry.ensures.ran
    (c.replace_changed.ensures))
