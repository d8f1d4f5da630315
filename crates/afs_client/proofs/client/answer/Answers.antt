use Rattle.std.proofs.Common.{map, string_bytes}
use Rattle.afs_client.specs.Requests.{request_of}
use Rattle.afs_client.proofs.Running.{ran_request, ran_short}
use Rattle.afs_client.proofs.client.answer.Goals as goal

pub returns-in-Ok-clause-ran : goal.returns-in-Ok-clause-ran
returns-in-Ok-clause-ran g c =
    ran_request (request_of (map string_bytes c.args.words.now)) c.in-Ok.request _ _ _ _ _ _ _
    (c.in-Ok.ensures (λ eq. cc)) c.run.ensures.ran

pub returns-in-Err-NoMemory-clause-ran : goal.returns-in-Err-NoMemory-clause-ran
returns-in-Err-NoMemory-clause-ran g c = ran_short (request_of (map string_bytes c.args.words.now)) _ _ _ _ c.status.ensures
