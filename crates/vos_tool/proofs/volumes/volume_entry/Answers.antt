use Rattle.std.proofs.Common.{ℕ, List, Some, None, Option, ap}
use Rattle.tool_base.proofs.Walking.{ran_as}
use Rattle.vos_tool.specs.Volumes.{entry_by, entry_named, id_of, volume_entry}
use Rattle.vos_tool.proofs.Args.{ran_arg}
use Rattle.vos_tool.proofs.volumes.volume_entry.Goals as goal

pub returns-in-Some : goal.returns-in-Some
unfolding volume_entry
returns-in-Some g c =
    let w = c.args.volume.now in
    ran_as (entry_by (Some c.in-Some.id) w) (entry_by (id_of w) w) (ap (λ (o : Option ℕ). entry_by o w) c.in-Some.ensures) c.ask.ensures.ran

pub returns-in-None : goal.returns-in-None
unfolding volume_entry
returns-in-None g c =
    let w = c.args.volume.now in
    ran_as (entry_by None w) (entry_by (id_of w) w) (ap (λ (o : Option ℕ). entry_by o w) c.in-None.ensures)
    (ran_arg (λ (name : List ℕ). entry_named name) _ _ c.word.ensures c.entry_named.ensures)
