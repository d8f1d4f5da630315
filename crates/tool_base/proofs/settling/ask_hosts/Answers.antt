use Rattle.std.proofs.Common.{arith, rules}
use Rattle.tool_base.proofs.Walking.{led_start}
use Rattle.tool_base.proofs.Hosts.{ended_at, gave_at, next_at, none_left, stopped_at}
use Rattle.tool_base.proofs.settling.ask_hosts.Goals as goal

pub loop-host-init : goal.loop-host-init
loop-host-init g c = led_start _ _ _

pub returns-in_err-heard-clause-ran : goal.returns-in_err-heard-clause-ran
returns-in_err-heard-clause-ran g c =
    stopped_at c.args.writes
    (g.R.Reads.reads c.args.reader.now) c.args.frame.now c.args.hosts.now c.loop-host.host-index _ c.args.client.now _ _ _
    c.in_err-heard.field-0.0 c.from_residual.result (omega arith)
    (search rules) c.loop-host.invariant c.in_err-heard.ensures c.from_residual.ensures.1

pub returns-in_err-answer-clause-ran : goal.returns-in_err-answer-clause-ran
returns-in_err-answer-clause-ran g c =
    ended_at c.args.writes
    (g.R.Reads.reads c.args.reader.now) c.args.frame.now c.args.hosts.now c.loop-host.host-index _ c.args.client.now _ _ _
    c.in_ok-heard.heard c.settled.result c.in_err-answer.field-0.0 c.from_residual-in_err-answer.result (omega arith)
    (search rules) c.loop-host.invariant c.in_ok-heard.ensures c.in_err-answer.was c.settled.ensures.verdict
    c.from_residual-in_err-answer.ensures.1

pub returns-in-Some-clause-ran : goal.returns-in-Some-clause-ran
returns-in-Some-clause-ran g c =
    gave_at c.args.writes
    (g.R.Reads.reads c.args.reader.now) c.args.frame.now c.args.hosts.now c.loop-host.host-index _ c.args.client.now _ _ _
    c.in_ok-heard.heard c.settled.result c.in-Some.answer (omega arith) (search rules) c.loop-host.invariant c.in_ok-heard.ensures
    (cc) c.settled.ensures.verdict

pub loop-host-preserved : goal.loop-host-preserved
loop-host-preserved g c =
    next_at c.args.writes
    (g.R.Reads.reads c.args.reader.now) c.args.frame.now c.args.hosts.now c.loop-host.host-index _ c.args.client.now _ _ _
    c.in_ok-heard.heard c.settled.result (omega arith) (search rules) c.loop-host.invariant c.in_ok-heard.ensures
    (cc) c.settled.ensures.verdict

pub returns-clause-ran : goal.returns-clause-ran
returns-clause-ran g c =
    none_left c.args.writes
    (g.R.Reads.reads c.args.reader.now) c.args.frame.now c.args.hosts.now c.loop-host.host-index c.args.client.now _ _
    (omega arith) c.loop-host.invariant
