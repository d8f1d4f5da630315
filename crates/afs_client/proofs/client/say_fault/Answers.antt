use Rattle.std.proofs.Common.{◌∙◌}
use Rattle.afs_client.specs.Client.{fault_line}
use Rattle.afs_client.proofs.Running.{says_fault}
use Rattle.afs_client.proofs.client.say_fault.Goals as goal

pub returns-clause-said : goal.returns-clause-said
returns-clause-said g c =
    says_fault (fault_line c.args.fault.now) c.as_bytes.result.now c.say.result _ _
    (c.as_bytes.ensures.value ∙ c.in_ok-text.ensures) c.say.ensures.said
