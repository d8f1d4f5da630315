use Rattle.std.proofs.Common.{sym, subst}
use Rattle.ubik_types.specs.Version.{IsVersion}
use Rattle.server_state.proofs.Plain.{own_version, spelled_debug}
use Rattle.ubik_node.proofs.nodes.Node.debug.Goals as goal

pub returns-clause-spelled : goal.returns-clause-spelled
returns-clause-spelled g c = λ number fits. spelled_debug _ (subst IsVersion (sym c.version.ensures) (own_version c.args.self.now.state)) number
