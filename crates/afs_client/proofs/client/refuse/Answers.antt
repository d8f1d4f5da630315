use Rattle.std.proofs.Common.{refl, inl}
use Rattle.afs_client.specs.Client.{fault_line}
use Rattle.afs_client.proofs.Running.{caused, declined}
use Rattle.afs_client.proofs.client.refuse.Goals as goal

pub returns-in-Ok-clause-said : goal.returns-in-Ok-clause-said
returns-in-Ok-clause-said g c = inl (refl, c.in-Ok.ensures.said)

pub returns-in-Err-clause-said : goal.returns-in-Err-clause-said
returns-in-Err-clause-said g c = declined (fault_line c.args.fault.now) c.in-Err.stop _ _ _ c.status.ensures c.in-Err.ensures.said

pub returns-in-Err-clause-write_fault : goal.returns-in-Err-clause-write_fault
returns-in-Err-clause-write_fault g c = caused _ _ c.in-Err.stop _ _ refl c.status.ensures c.in-Err.ensures.cause
