use Rattle.std.proofs.Common.{List, map, string_bytes, refl, inl, subst}
use Rattle.io_base.specs.declared.links.Exchange.{Exchange}
use Rattle.afs_client.specs.Client.{ClientRan}
use Rattle.afs_client.specs.Requests.{request_of}
use Rattle.client_shell.specs.Runs.{names_hosts}
use Rattle.client_shell.specs.declared.refusals.TheConstants.{BAD_HOSTS}
use Rattle.client_shell.proofs.Telling.{refused_at, runs_named, runs_refused, short_runs}
use Rattle.client_shell.proofs.runs.run_command.Goals as goal

pub returns-in-Ok : goal.returns-in-Ok
returns-in-Ok g c =
    let words = map string_bytes c.args.words.now in
    let ran = subst (λ (kept : List Exchange). ClientRan (request_of words) kept
    (g.L.Link.exchanges c.client_top.new.link) c.client_top.result
    (g.K.Sink.written c.args.out.now) (g.K.Sink.written c.client_top.new.out)
    (g.K.Sink.written c.args.err.now) (g.K.Sink.written c.client_top.new.err)) c.begin_command.ensures c.client_top.ensures.ran in
    runs_named g.L.CommandLink.begun (names_hosts words) c.args.tool words _ _ _ c.in-Ok.ensures.hosts
    (record { ran = ran; cause = c.client_top.ensures.write_fault })

pub returns-in-Err-Malformed : goal.returns-in-Err-Malformed
returns-in-Err-Malformed g c =
    let words = map string_bytes c.args.words.now in
    runs_refused g.L.CommandLink.begun (names_hosts words) c.args.tool words _ _ _ (c.judged_hosts.ensures.malformed (cc))
    (inl (refused_at c.args.tool BAD_HOSTS.now (g.L.Link.exchanges c.args.link.now) (g.K.Sink.written c.args.out.now) _ _
    (g.K.Sink.faults c.args.out.now) _ _ _ c.say_refused.ensures.said c.say_refused.ensures.cause))

pub returns-in-Err-NoMemory : goal.returns-in-Err-NoMemory
returns-in-Err-NoMemory g c =
    let words = map string_bytes c.args.words.now in
    short_runs g.L.CommandLink.begun (names_hosts words) c.args.tool words _ _ _ (c.status.ensures, refl)
