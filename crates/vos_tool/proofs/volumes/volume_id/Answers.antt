use Rattle.std.proofs.Common.{ℕ, List, Ok, Some, None, Option, refl, ap}
use Rattle.tool_base.specs.Course.{◌>>=◌, gives}
use Rattle.tool_base.proofs.Walking.{ran_as, ran_broken, ran_still, ran_then}
use Rattle.vldb_entries.specs.declared.entries.VlEntry.{VlEntry}
use Rattle.vos_tool.specs.Volumes.{entry_named, id_of, id_or_named, volume_id}
use Rattle.vos_tool.proofs.Args.{ran_arg}
use Rattle.vos_tool.proofs.volumes.volume_id.Goals as goal

pub returns-in-Some : goal.returns-in-Some
unfolding volume_id
returns-in-Some g c =
    let w = c.args.volume.now in
    ran_as (id_or_named (Some c.in-Some.id) w) (id_or_named (id_of w) w) (ap (λ (o : Option ℕ). id_or_named o w) c.in-Some.ensures)
    (ran_still _ _ (Ok c.in-Some.id) tt)

pub returns-in_err-entry-in-None : goal.returns-in_err-entry-in-None
unfolding volume_id
returns-in_err-entry-in-None g c =
    let w = c.args.volume.now in
    ran_as (id_or_named None w) (id_or_named (id_of w) w) (ap (λ (o : Option ℕ). id_or_named o w) c.in-None.ensures)
    (ran_broken (λ (e : VlEntry). gives e.rw) c.in_err-entry-in-None.field-0.0 c.from_residual.result c.from_residual.ensures.1 refl
    (ran_arg (λ (name : List ℕ). entry_named name) _ _ c.word.ensures c.in_err-entry-in-None.ensures))

pub returns-in_ok-entry-in-None : goal.returns-in_ok-entry-in-None
unfolding volume_id
returns-in_ok-entry-in-None g c =
    let w = c.args.volume.now in
    ran_as (id_or_named None w) (id_or_named (id_of w) w) (ap (λ (o : Option ℕ). id_or_named o w) c.in-None.ensures)
    (ran_then (λ (e : VlEntry). gives e.rw) c.in_ok-entry-in-None.entry refl
    (ran_arg (λ (name : List ℕ). entry_named name) _ _ c.word.ensures c.in_ok-entry-in-None.ensures)
    (ran_still _ _ (Ok c.in_ok-entry-in-None.entry.rw) tt))
