use Rattle.std.proofs.Common.{refl}
use Rattle.pts_tool.specs.Courses.{lists_entries}
use Rattle.pts_tool.proofs.listing.list_entries.Goals as goal

pub returns : goal.returns
unfolding lists_entries
returns g c =
    rw c.in_ok-head.ensures at c.list_pages.ensures
