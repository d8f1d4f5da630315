use Rattle.std.proofs.Common.{◌≡◌, drop}
use Rattle.pts_tool.specs.Pages.{is_page}
use Rattle.pts_tool.proofs.answers.is_page.Given as goal

abbrev pub invariant-loop-entry : goal.invariant-loop-entry
invariant-loop-entry l = is_page l.after l.entries ≡ is_page l.last (drop l.entry-index l.entries)
