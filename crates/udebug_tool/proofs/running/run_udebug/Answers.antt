use Rattle.std.proofs.Common.{◌∙◌, ℕ, false, ap, arith, rules, subst, sym}
use Rattle.tool_base.specs.Course.{Asker}
use Rattle.tool_base.specs.Running.{Under}
use Rattle.tool_base.proofs.Working.{under_start}
use Rattle.udebug_tool.specs.Kinds.{kind_port}
use Rattle.udebug_tool.specs.Looking.{looks}
use Rattle.udebug_tool.proofs.Looked.{all_told, lacked_at, none_told, said_at, said_part_at, stopped_at}
use Rattle.udebug_tool.proofs.running.run_udebug.Goals as goal

pub loop-host-init : goal.loop-host-init
loop-host-init g c =
    let asker : ℕ → Asker = λ port. record { hosts = c.args.hosts.now; port = port; number = 0 } in
    let course = looks false c.args.hosts.now in
    let asked = g.L.Link.exchanges c.args.link.now in
    let written = g.K.Sink.written c.args.out.now in
    record {
      under = subst (λ (s : Asker). Under course (asker (kind_port c.args.kind)) course s asked asked written written)
          (sym (c.new-client.ensures ∙ ap asker c.port.ensures)) (under_start course (asker (kind_port c.args.kind)) asked written);
      falls = omega arith;
    }

pub returns-in_err-seen-clause-told : goal.returns-in_err-seen-clause-told
returns-in_err-seen-clause-told g c =
    stopped_at c.loop-host.any c.args.hosts.now c.loop-host.host-index _ _ _ _ _ _ _ _ _ _ c.in_err-seen.field-0.0 c.from_residual.result (omega arith) (search rules) c.loop-host.invariant.under c.in_err-seen.ensures c.from_residual.ensures.1

pub returns-in_err-text-clause-told : goal.returns-in_err-text-clause-told
returns-in_err-text-clause-told g c =
    lacked_at c.loop-host.any c.args.hosts.now c.loop-host.host-index _ _ _ _ _ _ _ _ _ _ c.in_ok-seen.seen c.from_residual-in_err-text.result (omega arith) (search rules) c.loop-host.invariant.under c.in_ok-seen.ensures c.from_residual-in_err-text.ensures.1

pub returns-in_err-say-clause-told : goal.returns-in_err-say-clause-told
returns-in_err-say-clause-told g c =
    said_part_at c.loop-host.any c.args.hosts.now c.loop-host.host-index _ _ _ _ _ _ _ _ _ _ _ c.in_ok-seen.seen c.as_bytes.result.now c.from_residual-in_err-say.result (omega arith) (search rules) c.loop-host.invariant.under c.in_ok-seen.ensures (c.as_bytes.ensures.value ∙ c.in_ok-text.ensures) c.in_err-say.ensures.said.1
    (rw c.in_err-say.ensures.said.0 at c.from_residual-in_err-say.ensures.1)

pub loop-host-preserved : goal.loop-host-preserved
loop-host-preserved g c =
    record {
      under = said_at c.loop-host.any _ c.args.hosts.now c.loop-host.host-index _ _ _ _ _ _ _ _ _ _ _ c.in_ok-seen.seen c.as_bytes.result.now (omega arith) (search rules) c.loop-host.invariant.under c.in_ok-seen.ensures (c.as_bytes.ensures.value ∙ c.in_ok-text.ensures) c.in_ok-say.ensures.said (search rules);
      falls = omega (arith, c.loop-host.invariant.falls, c.in_ok-say.ensures.cause.never_falls);
    }
