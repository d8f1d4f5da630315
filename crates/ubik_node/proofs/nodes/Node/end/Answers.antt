use Rattle.std.proofs.Common.{◌∙◌, refl, ap}
use Rattle.cell_model.specs.Node.{Server}
use Rattle.cell_model.specs.Step.{Member}
use Rattle.server_state.specs.Lapsing.{returned}
use Rattle.ubik_node.specs.Node.{held}
use Rattle.server_state.specs.State.{member_of, server_of}
use Rattle.ubik_node.proofs.nodes.Node.end.Goals as goal

pub returns-in-Ok : goal.returns-in-Ok
returns-in-Ok g c = rw c.in-Ok.is (refl, refl, refl)

pub returns-in-DiskFault : goal.returns-in-DiskFault
returns-in-DiskFault g c =
    let n = c.args.self.now in
    let late = c.restore_phase.new.self in
    rw c.in-Err.is (
      λ _. (
        c.refuse.ensures.halted,
        (server_of late, ap (λ (m : Member). record (held n) { server = server_of late; member = m }) c.restore_phase.ensures.kept.member, c.restore_phase.ensures.back),
        c.refuse.ensures.out,
      ),
      λ other. absurd (other c.in-DiskFault.is),
    )

pub returns-in_default : goal.returns-in_default
returns-in_default g c =
    let n = c.args.self.now in
    let back = returned c.args.given n.state in
    rw c.in-Err.is (
      λ of_disk. absurd (c.in_default.not-DiskFault of_disk),
      λ _. (
        refl,
        ap (λ (s : Server). record (held n) { server = s; member = member_of c.restore.new.self }) c.restore.ensures.back
            ∙ ap (λ (m : Member). record (held n) { server = back; member = m }) c.restore.ensures.kept.member,
        c.clear.ensures,
      ),
    )
