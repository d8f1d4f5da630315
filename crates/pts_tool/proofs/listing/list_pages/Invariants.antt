use Rattle.std.proofs.Common.{◌-◌, [], negsuc}
use Rattle.tool_base.specs.Running.{Led}
use Rattle.pts_tool.specs.Courses.{lists_pages}
use Rattle.pts_tool.specs.declared.listing.TheConstants.{MOST_PAGES}
use Rattle.pts_tool.proofs.listing.list_pages.Given as goal

abbrev pub invariant-loop : goal.invariant-loop
invariant-loop g l =
    Led (lists_pages MOST_PAGES l.kinds (negsuc 2147483647) l.initial.text) l.initial.client (g.L.Link.exchanges l.initial.link) []
    (lists_pages (MOST_PAGES - l.counter) l.kinds l.after l.text) l.client (g.L.Link.exchanges l.link)
