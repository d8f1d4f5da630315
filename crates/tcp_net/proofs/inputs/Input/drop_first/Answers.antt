use Rattle.tcp_net.proofs.Cuts.{rest_waits}
use Rattle.tcp_net.proofs.inputs.Input.drop_first.Goals as goal

pub returns-else-self : goal.returns-else-self
returns-else-self c =
    rest_waits c.args.self.now.bytes.items c.args.self.now.start c.args.self.now.end c.args.len
