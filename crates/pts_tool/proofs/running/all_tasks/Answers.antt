use Rattle.std.proofs.Common.{◌≡◌, []}
use Rattle.pts_tool.specs.Plans.{tasks_for}
use Rattle.pts_tool.proofs.Made.{items_are, none_are}
use Rattle.pts_tool.proofs.running.all_tasks.Goals as goal

pub returns-in-Pts : goal.returns-in-Pts
returns-in-Pts c =
    let w = c.args.words.now in
    rw (items_are c.in-Pts.command w.operation w.switches (rw c.in-Pts.is at c.command.ensures)) at c.tasks_of.ensures

pub returns-in-Vos : goal.returns-in-Vos
returns-in-Vos c =
    let w = c.args.words.now in
    let none : [] ≡ tasks_for w.operation w.switches =
    none_are c.in-Vos.field-0 w.operation w.switches (rw c.in-Vos.is at c.command.ensures) in
    cc
