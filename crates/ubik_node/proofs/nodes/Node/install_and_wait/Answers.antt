use Rattle.ubik_types.specs.Phase.{Relabel}
use Rattle.ubik_node.specs.Alike.{blank}
use Rattle.ubik_node.proofs.Alike.{blank_image}
use Rattle.std.proofs.Common.{◌∙◌, length, refl, sym, subst, ap}
use Rattle.cell_model.specs.Recovery.{installed}
use Rattle.cell_model.specs.Step.{Member, with_database, with_phase}
use Rattle.ubik_recovery.specs.Record.{polled_of}
use Rattle.server_state.specs.Recovering.{IsOfCell}
use Rattle.server_state.specs.Receiving.{received_in}
use Rattle.server_state.specs.State.{member_of, server_of}
use Rattle.ubik_node.specs.Node.{held}
use Rattle.ubik_node.proofs.Endings.{handed_ends}
use Rattle.ubik_node.proofs.Fetching.{waits_at}
use Rattle.ubik_node.proofs.Fronts.{fails_so, goes_on}
use Rattle.ubik_node.proofs.nodes.Node.install_and_wait.Goals as goal

pub returns-in_err-install-clause-ends : goal.returns-in_err-install-clause-ends
returns-in_err-install-clause-ends g c =
    let n = c.args.self.now in
    handed_ends g.D.Disk c.from_residual.result c.in_err-install.field-0.0 c.from_residual.ensures.1
    (fails_so g.D.Disk {t = installed (server_of n.state) c.args.version (received_in c.args.self.now.state)} (held n) (held c.install.new.self) refl c.in_err-install.field-0.0 c.in_err-install.ensures.ends)

pub returns-clause-ends : goal.returns-clause-ends
returns-clause-ends g c =
    let n = c.args.self.now in
    let mid = c.install.new.self in
    let last = c.wait.new.self in
    goes_on g.D.Disk {t = installed (server_of n.state) c.args.version (received_in c.args.self.now.state)} (held n) (held mid) refl (server_of last) (member_of last) c.wait.ensures.kept.member
    (λ server. (
      waits_at (server_of n.state) c.args.version (received_in c.args.self.now.state) (polled_of c.args.next) mid.state c.args.next server ∙ sym c.wait.ensures.after,
      refl,
    ))
    c.in_ok-install.ensures.ends

pub wait-requires-clause-of_cell : goal.wait-requires-clause-of_cell
wait-requires-clause-of_cell g c = subst (λ (m : Member). IsOfCell (length m.hosts) c.args.next) (sym c.in_ok-install.ensures.ends.member) c.requires.over.of_cell

pub returns-clause-alike : goal.returns-clause-alike
returns-clause-alike g c =
    let s = server_of c.args.self.now.state in
    let took = c.in_ok-install.ensures.bytes in
    let poll = polled_of c.args.next in
    record {
      server =
          blank_image (with_phase (with_database s c.args.version (received_in c.args.self.now.state)) (Relabel poll)) (received_in c.args.self.now.state) took.0 (sym took.1)
          ∙ ap blank (waits_at s c.args.version took.0 poll c.install.new.self.state c.args.next (sym took.2) ∙ sym c.wait.ensures.after);
      outputs = refl;
    }
