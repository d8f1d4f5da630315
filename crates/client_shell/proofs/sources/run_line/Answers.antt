use Rattle.std.proofs.Common.{refl, inl, inr}
use Rattle.command_lines.specs.Cuts.{is_passed_over}
use Rattle.client_shell.specs.declared.refusals.TheConstants.{NO_TEXT, OPEN_QUOTE}
use Rattle.client_shell.proofs.Telling.{not_passed, passed, refused_at}
use Rattle.client_shell.proofs.sources.run_line.Goals as goal

pub returns-then-is_passed_over : goal.returns-then-is_passed_over
returns-then-is_passed_over g c =
    passed g.L.CommandLink.begun (is_passed_over c.args.line.now) c.args.shell.now.tool c.args.shell.now.hosts.now c.args.line.now _ (cc)

pub returns-in-Ok : goal.returns-in-Ok
returns-in-Ok g c =
    not_passed g.L.CommandLink.begun
    (is_passed_over c.args.line.now) c.args.shell.now.tool c.args.shell.now.hosts.now c.args.line.now _ _ _ (cc)
    (inr (inr (inl (c.in-Ok.plan, c.in-Ok.ensures.plan, c.run_planned.ensures))))

pub returns-in-Err-NoMemory : goal.returns-in-Err-NoMemory
returns-in-Err-NoMemory g c =
    not_passed g.L.CommandLink.begun
    (is_passed_over c.args.line.now) c.args.shell.now.tool c.args.shell.now.hosts.now c.args.line.now _ _ _ (cc)
    (inr (inr (inr (c.status.ensures, refl))))

pub returns-in-Err-OpenQuote : goal.returns-in-Err-OpenQuote
returns-in-Err-OpenQuote g c =
    not_passed g.L.CommandLink.begun
    (is_passed_over c.args.line.now) c.args.shell.now.tool c.args.shell.now.hosts.now c.args.line.now _ _ _ (cc)
    (inl (
      c.line_plan.ensures.open_quote (cc),
      refused_at c.args.shell.now.tool OPEN_QUOTE.now (g.L.Link.exchanges c.args.link.now)
          (g.K.Sink.written c.args.out.now) _ _
          (g.K.Sink.faults c.args.out.now) _ _ _ c.say_refused.ensures.said c.say_refused.ensures.cause,
    ))

pub returns-in-Err-NotText : goal.returns-in-Err-NotText
returns-in-Err-NotText g c =
    not_passed g.L.CommandLink.begun
    (is_passed_over c.args.line.now) c.args.shell.now.tool c.args.shell.now.hosts.now c.args.line.now _ _ _ (cc)
    (inr (inl (
      c.line_plan.ensures.not_text (cc),
      refused_at c.args.shell.now.tool NO_TEXT.now (g.L.Link.exchanges c.args.link.now)
          (g.K.Sink.written c.args.out.now) _ _ (g.K.Sink.faults c.args.out.now) _ _ _
          c.say_refused-in-Err-NotText.ensures.said c.say_refused-in-Err-NotText.ensures.cause,
    )))
