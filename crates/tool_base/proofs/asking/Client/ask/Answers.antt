use Rattle.std.proofs.Common.{◌∙◌}
use Rattle.tool_base.proofs.Calling.{asked_call}
use Rattle.tool_base.proofs.asking.Client.ask.Goals as goal

pub returns-clause-ran : goal.returns-clause-ran
returns-clause-ran g c =
    asked_call _ _ _ c.as_slice.result.now _ c.count.new.self _ _ _ _ c.count.ensures (c.as_slice.ensures ∙ c.in_ok-frame.ensures)
    (rw c.hosts-hosts.ensures at c.ask_hosts.ensures.ran)
