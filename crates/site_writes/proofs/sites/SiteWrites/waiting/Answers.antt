use Rattle.std.proofs.Common.{◌∙◌, sym}
use Rattle.site_writes.proofs.Lines.{as_many}
use Rattle.site_writes.proofs.sites.SiteWrites.waiting.Goals as goal

pub returns-clause-len : goal.returns-clause-len
returns-clause-len c =
    rw (← c.self.view_is)
    (c.waiting.ensures.len ∙ sym (as_many c.self.inside.table.line c.self.inside.calls.items c.self.invariant.line))
