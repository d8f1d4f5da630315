use Rattle.cell_model.specs.NodeRule.{received_from}
use Rattle.ubik_node.specs.Alike.{ActsAlike}
use Rattle.ubik_node.proofs.Alike.{act_alike, on_made}
use Rattle.std.proofs.Common.{◌∙◌, IsSome, length, ap}
use Rattle.ubik_types.specs.declared.versions.Version.{Version}
use Rattle.cell_model.specs.Durable.{durable}
use Rattle.server_state.specs.declared.state.State.{State}
use Rattle.server_state.specs.State.{member_of, server_of}
use Rattle.ubik_node.specs.Choices.{dbs_of, none_chosen}
use Rattle.ubik_node.specs.Node.{Knows, held}
use Rattle.ubik_node.proofs.Decided.{act_needs, decided_ends, fails_so, has_room, needs_there, stays_so}
use Rattle.ubik_node.proofs.Endings.{handed_ends}
use Rattle.ubik_node.proofs.Fronts.{short_back}
use Rattle.ubik_node.proofs.nodes.Node.heard.Goals as goal

pub returns-in_err-act-clause-ends : goal.returns-in_err-act-clause-ends
returns-in_err-act-clause-ends g c =
    let n = c.args.self.now in
    let err = c.in_err-act.ensures.err in
    let last = c.packet_heard.new.state in (
      none_chosen g.V.DraftService.standing,
      handed_ends g.D.Disk c.from_residual.result _ c.from_residual.ensures.1
          (short_back g.D.Disk (held n) (server_of last) (member_of last) c.args.self.now.stored c.requires.not_halted (ap (λ (st : State). server_of st) err) (ap (λ (st : State). member_of st) err)),
    )

pub returns-clause-ends : goal.returns-clause-ends
returns-clause-ends g c =
    let n = c.args.self.now in
    let mid = c.packet_heard.new.state in
    let files = g.D.Disk.files n.store.disk in
    let says = c.in_ok-act.ensures in
    let kept = says.leaves.kept in
    let act = c.in_ok-act.act in
    let needs = act_needs (Knows g.D.Disk n) (IsSome files) (λ told more. told) c.args.packet.now act says.need in
    let made = c.perform.ensures.ends in (
      made.0,
      decided_ends g.D.Disk (held n) (server_of mid) (member_of mid) c.perform.result (says.step (dbs_of made.0) made.0.short)
          (λ needed. needs_there files act kept.member (needs needed))
          (ap (λ (v : Version). durable v mid.image) kept.version ∙ ap (durable n.state.version) kept.image) kept.member
          (fails_so act c.perform.result _ c.perform.ensures.fine says.leaves.halts)
          (stays_so act c.perform.result _ c.perform.ensures.memory says.leaves.stays) made.1,
    )

pub perform-requires-clause-room : goal.perform-requires-clause-room
perform-requires-clause-room g c = has_room c.in_ok-act.act (length c.args.out.now) c.requires.few

pub returns-clause-alike : goal.returns-clause-alike
returns-clause-alike g c =
    let says = c.in_ok-act.ensures in
    let db = g.V.DraftService.standing.database in
    let act = c.in_ok-act.act in
    let st = c.args.self.now.state in
    let mid = c.packet_heard.new.state in
    on_made c.perform.result c.perform.ensures.alike
    (λ (so : ActsAlike db (member_of mid) c.args.now act (server_of mid) (server_of c.perform.new.self.state) c.args.out.now c.perform.new.out).
    act_alike db (member_of mid) c.args.now act (server_of st) (server_of mid) (λ dbs at short. received_from dbs (member_of st) at c.args.now c.args.host c.args.from c.args.packet.now short) says.leaves.kept.image says.step says.holder so)
