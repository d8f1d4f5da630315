use Rattle.std.proofs.Common.{◌-◌, []}
use Rattle.tool_base.specs.Running.{Led}
use Rattle.vos_tool.specs.Listing.{pages}
use Rattle.vos_tool.specs.declared.paging.TheConstants.{MOST_PAGES}
use Rattle.vos_tool.proofs.paging.entries_of.Given as goal

abbrev pub invariant-loop : goal.invariant-loop
invariant-loop g l =
    Led (pages MOST_PAGES l.filter 0 l.initial.found.items) l.initial.client (g.L.Link.exchanges l.initial.link) []
    (pages (MOST_PAGES - l.counter) l.filter l.after l.found.items) l.client (g.L.Link.exchanges l.link)
