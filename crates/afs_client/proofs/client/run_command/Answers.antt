use Rattle.afs_client.proofs.Running.{ran_pts, ran_vos}
use Rattle.afs_client.proofs.client.run_command.Goals as goal

pub returns-in-Vos-clause-ran : goal.returns-in-Vos-clause-ran
returns-in-Vos-clause-ran g c =
    ran_vos c.args.request.now c.as_slice-hosts.result.now _ _ _ _ _ _ _ c.in-Vos.is c.as_slice-hosts.ensures c.run_vos.ensures.command

pub returns-in-Pts-clause-ran : goal.returns-in-Pts-clause-ran
returns-in-Pts-clause-ran g c =
    ran_pts c.args.request.now c.as_slice-hosts.result.now _ _ _ _ _ _ _ c.in-Pts.is c.as_slice-hosts.ensures c.run_pts.ensures.commanded
