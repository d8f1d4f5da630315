use Rattle.ubik_node.proofs.Alike.{on_made, quiet_alike}
use Rattle.ubik_node.proofs.Endings.{quiet_ends}
use Rattle.ubik_node.proofs.nodes.Node.text_ended.Goals as goal

pub returns-in-Told-clause-ends : goal.returns-in-Told-clause-ends
returns-in-Told-clause-ends g c = rw c.in-Told.is c.take_image.ensures.ends

pub returns-in-Waits-clause-ends : goal.returns-in-Waits-clause-ends
returns-in-Waits-clause-ends g c = rw c.in-Waits.is (quiet_ends g.D.Disk c.args.out.now c.install_and_wait.ensures.ends)

pub returns-in-Relabelled-clause-ends : goal.returns-in-Relabelled-clause-ends
returns-in-Relabelled-clause-ends g c = rw c.in-Relabelled.is c.install_and_relabel.ensures.ends

pub install_and_wait-requires-clause-over : goal.install_and_wait-requires-clause-over
install_and_wait-requires-clause-over g c = rw c.in-Waits.is at c.requires.follow

pub install_and_relabel-requires-clause-over : goal.install_and_relabel-requires-clause-over
install_and_relabel-requires-clause-over g c = (rw c.in-Relabelled.is at c.requires.follow).0

pub install_and_relabel-requires-clause-new : goal.install_and_relabel-requires-clause-new
install_and_relabel-requires-clause-new g c = (rw c.in-Relabelled.is at c.requires.follow).1

pub install_and_relabel-requires-clause-newer : goal.install_and_relabel-requires-clause-newer
install_and_relabel-requires-clause-newer g c = (rw c.in-Relabelled.is at c.requires.follow).2

pub returns-in-Told-clause-alike : goal.returns-in-Told-clause-alike
returns-in-Told-clause-alike g c = rw c.in-Told.is c.take_image.ensures.alike

pub returns-in-Waits-clause-alike : goal.returns-in-Waits-clause-alike
returns-in-Waits-clause-alike g c = rw c.in-Waits.is (on_made c.install_and_wait.result c.install_and_wait.ensures.alike (quiet_alike c.args.out.now))

pub returns-in-Relabelled-clause-alike : goal.returns-in-Relabelled-clause-alike
returns-in-Relabelled-clause-alike g c = rw c.in-Relabelled.is c.install_and_relabel.ensures.alike
