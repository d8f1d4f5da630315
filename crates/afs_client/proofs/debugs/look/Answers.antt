use Rattle.std.proofs.Common.{Ok, Err, refl}
use Rattle.afs_client.proofs.Debugging.{looked}
use Rattle.afs_client.proofs.Running.{caused}
use Rattle.afs_client.proofs.debugs.look.Goals as goal

pub returns-in-Ok-clause-looked : goal.returns-in-Ok-clause-looked
returns-in-Ok-clause-looked g c = record {
  end = Ok tt;
  status_is = refl;
  told = looked c.args.request.now c.as_slice-hosts.result.now _ _ _ _ _ c.as_slice-hosts.ensures c.in-Ok.ensures.told;
}

pub returns-in-Err-clause-looked : goal.returns-in-Err-clause-looked
returns-in-Err-clause-looked g c = record {
  end = Err c.in-Err.stop;
  status_is = c.status.ensures;
  told = looked c.args.request.now c.as_slice-hosts.result.now _ _ _ _ _ c.as_slice-hosts.ensures c.in-Err.ensures.told;
}

pub returns-in-Err-clause-write_fault : goal.returns-in-Err-clause-write_fault
returns-in-Err-clause-write_fault g c = caused _ _ c.in-Err.stop _ _ refl c.status.ensures c.in-Err.ensures.cause
