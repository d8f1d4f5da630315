use Rattle.std.proofs.Common.{List, String, Global, map, string_bytes, refl, ap, subst}
use Rattle.client_shell.specs.Runs.{CommandDone}
use Rattle.client_shell.specs.Standing.{stands}
use Rattle.client_shell.specs.declared.refusals.TheConstants.{NESTED}
use Rattle.client_shell.proofs.Telling.{plan_is, refused_at}
use Rattle.client_shell.proofs.runs.run_planned.Goals as goal

pub returns-in-Say : goal.returns-in-Say
returns-in-Say g c = plan_is g.L.CommandLink.begun c.args.tool c.args.plan.now _ _ _ _ c.in-Say.is (record {
  unasked = refl;
  to_out = λ well. (ap g.K.Sink.written (c.say_said.ensures.to_out well).0, (c.say_said.ensures.to_out well).1);
  to_err = λ bad. (ap g.K.Sink.written (c.say_said.ensures.to_err bad).0, (c.say_said.ensures.to_err bad).1);
  cause = c.say_said.ensures.cause;
})

pub returns-in-Command : goal.returns-in-Command
returns-in-Command g c =
    let before = stands g.L.Link.exchanges g.K.Sink.written g.K.Sink.faults c.args.link.now c.args.out.now c.args.err.now in
    let after = stands g.L.Link.exchanges g.K.Sink.written g.K.Sink.faults c.run_command.new.link c.run_command.new.out
    c.run_command.new.err in
    plan_is g.L.CommandLink.begun c.args.tool c.args.plan.now _ before after c.run_command.result c.in-Command.is
    (subst (λ (ws : List (String Global)). CommandDone g.L.CommandLink.begun c.args.tool
    (map string_bytes ws) before after c.run_command.result)
    c.deref.ensures.value c.run_command.ensures)

pub returns-in-Source : goal.returns-in-Source
returns-in-Source g c = plan_is g.L.CommandLink.begun c.args.tool c.args.plan.now _ _ _ _ c.in-Source.is
    (refused_at c.args.tool NESTED.now (g.L.Link.exchanges c.args.link.now) (g.K.Sink.written c.args.out.now) _ _
    (g.K.Sink.faults c.args.out.now) _ _ _ c.say_refused.ensures.said c.say_refused.ensures.cause)
