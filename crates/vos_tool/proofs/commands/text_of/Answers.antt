use Rattle.std.proofs.Common.{List, ℕ, [], Ok}
use Rattle.tool_base.specs.Course.{gives}
use Rattle.tool_base.proofs.Walking.{ran_as, ran_is}
use Rattle.vos_tool.specs.Command.{command_text, text_by, vos_text}
use Rattle.vos_tool.proofs.Made.{course_is, low_id, other_is}
use Rattle.vos_tool.proofs.commands.text_of.Goals as goal

pub command_text-requires : goal.command_text-requires
command_text-requires g c =
    let w = c.args.words.now in low_id c.in-Vos.command w.operation w.switches (rw c.in-Vos.is at c.command.ensures)

pub returns-in-Vos : goal.returns-in-Vos
unfolding vos_text
returns-in-Vos g c =
    let w = c.args.words.now in
    ran_as (command_text c.in-Vos.command) (text_by w.operation w.switches)
    (course_is c.in-Vos.command w.operation w.switches (rw c.in-Vos.is at c.command.ensures)) c.command_text.ensures

pub returns-in-Pts : goal.returns-in-Pts
unfolding vos_text
returns-in-Pts g c =
    let w = c.args.words.now in
    ran_as (gives {A = List ℕ} []) (text_by w.operation w.switches)
    (other_is c.in-Pts.field-0 w.operation w.switches (rw c.in-Pts.is at c.command.ensures)) (ran_is _ _ (Ok []) _ tt cc)
