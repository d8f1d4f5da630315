use Rattle.ubik_node.specs.Alike.{ActsAlike}
use Rattle.ubik_node.proofs.Alike.{alike_behind, alike_same, no_turn, on_made}
use Rattle.std.proofs.Common.{◌∙◌, IsSome, [], refl, ap}
use Rattle.ubik_types.specs.declared.versions.Version.{Version}
use Rattle.cell_model.specs.Durable.{durable}
use Rattle.server_rules.specs.Acts.{act_need, stepped_by}
use Rattle.server_state.specs.declared.state.State.{State}
use Rattle.server_state.specs.State.{member_of, server_of}
use Rattle.ubik_node.specs.Choices.{dbs_of, none_chosen}
use Rattle.ubik_node.specs.Node.{Knows, held}
use Rattle.ubik_node.proofs.Decided.{decided_ends, fails_so, needs_less, needs_there, stays_so}
use Rattle.ubik_node.proofs.Endings.{behind_ends, handed_ends, same_ends}
use Rattle.ubik_node.proofs.Fronts.{short_back}
use Rattle.ubik_node.proofs.nodes.Node.recover.Goals as goal

pub returns-in_err-act-clause-ends : goal.returns-in_err-act-clause-ends
returns-in_err-act-clause-ends g c =
    let n = c.args.self.now in
    let err = c.in_err-act.ensures.err in
    let last = c.recovery_turn.new.state in (
      none_chosen g.V.DraftService.standing,
      handed_ends g.D.Disk c.from_residual.result _ c.from_residual.ensures.1
          (short_back g.D.Disk (held n) (server_of last) (member_of last) c.args.self.now.stored c.requires.not_halted (ap (λ (st : State). server_of st) err) (ap (λ (st : State). member_of st) err)),
    )

pub returns-clause-ends : goal.returns-clause-ends
returns-clause-ends g c =
    let n = c.args.self.now in
    let mid = c.recovery_turn.new.state in
    let files = g.D.Disk.files n.store.disk in
    let says = c.in_ok-act.ensures in
    let kept = says.leaves.kept in
    let act = c.in_ok-act.act in
    let made = c.perform.ensures.ends in
    let goes = says.step (dbs_of made.0) made.0.short in
    let needs = needs_less (Knows g.D.Disk n) (IsSome files) (λ told more. told) (act_need act) 1 says.need in (
      made.0,
      same_ends g.D.Disk goes.step (behind_ends g.D.Disk {t = stepped_by (dbs_of made.0) (member_of mid) c.args.now made.0.short (server_of mid) act} goes.shown c.perform.result goes.outputs
          (decided_ends g.D.Disk (held n) (server_of mid) (member_of mid) c.perform.result refl (λ needed. needs_there files act kept.member (needs needed))
          (ap (λ (v : Version). durable v mid.image) kept.version ∙ ap (durable n.state.version) kept.image) kept.member
          (fails_so act c.perform.result _ c.perform.ensures.fine says.leaves.halts)
          (stays_so act c.perform.result _ c.perform.ensures.memory says.leaves.stays) made.1)),
    )

pub returns-clause-alike : goal.returns-clause-alike
returns-clause-alike g c =
    let says = c.in_ok-act.ensures in
    let act = c.in_ok-act.act in
    let mid = c.recovery_turn.new.state in
    let goes = says.step (λ _. g.V.DraftService.standing.database) [] in
    on_made c.perform.result c.perform.ensures.alike
    (λ (so : ActsAlike g.V.DraftService.standing.database (member_of mid) c.args.now act (server_of mid) (server_of c.perform.new.self.state) c.recovery_turn.new.out c.perform.new.out).
    alike_same goes.step (alike_behind goes.shown goes.outputs (no_turn g.V.DraftService.standing.database (member_of mid) c.args.now act (server_of mid) says.need so (λ _. g.V.DraftService.standing.database) [])))
