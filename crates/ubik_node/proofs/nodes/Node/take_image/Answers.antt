use Rattle.ubik_node.specs.Alike.{blank, blank_outputs}
use Rattle.ubik_node.proofs.Alike.{blank_database}
use Rattle.std.proofs.Common.{◌∙◌, ◌++◌, refl, ap, sym}
use Rattle.ubik_calls.specs.declared.packets.Body.TheVariants as body
use Rattle.cell_model.specs.Recovery.{installed}
use Rattle.cell_model.specs.Step.{Member, outputs_of, sends_to}
use Rattle.server_state.specs.Receiving.{received_in}
use Rattle.server_state.specs.State.{member_of, server_of}
use Rattle.ubik_node.specs.Node.{held}
use Rattle.ubik_node.proofs.Endings.{handed_ends}
use Rattle.ubik_node.proofs.Fronts.{fails_so, goes_on}
use Rattle.ubik_node.proofs.nodes.Node.take_image.Goals as goal

pub returns-in_err-install-clause-ends : goal.returns-in_err-install-clause-ends
returns-in_err-install-clause-ends g c =
    let n = c.args.self.now in
    handed_ends g.D.Disk c.from_residual.result c.in_err-install.field-0.0 c.from_residual.ensures.1
    (fails_so g.D.Disk {t = installed (server_of n.state) c.args.version (received_in c.args.self.now.state)} (held n) (held c.install.new.self) refl c.in_err-install.field-0.0 c.in_err-install.ensures.ends)

pub returns-clause-ends : goal.returns-clause-ends
returns-clause-ends g c =
    let n = c.args.self.now in
    let x = c.install.new.self.state in
    goes_on g.D.Disk {t = installed (server_of n.state) c.args.version (received_in c.args.self.now.state)} (held n) (held c.install.new.self) refl (server_of x) (member_of x) refl
    (λ server. (
      server,
      c.send.ensures.sent ∙ ap (λ (k : Member). c.args.out.now ++ outputs_of (sends_to k c.args.to (body.VersionKept c.args.version))) c.in_ok-install.ensures.ends.member,
    ))
    c.in_ok-install.ensures.ends

pub returns-clause-alike : goal.returns-clause-alike
returns-clause-alike g c =
    let s = server_of c.args.self.now.state in
    let took = c.in_ok-install.ensures.bytes in
    record {
      server = blank_database s c.args.version (received_in c.args.self.now.state) took.0 (sym took.1) ∙ ap blank (sym took.2);
      outputs = ap blank_outputs (c.send.ensures.sent ∙ ap (λ (k : Member). c.args.out.now ++ outputs_of (sends_to k c.args.to (body.VersionKept c.args.version))) c.in_ok-install.ensures.ends.member);
    }
