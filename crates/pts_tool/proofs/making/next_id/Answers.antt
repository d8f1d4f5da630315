use Rattle.std.proofs.Common.{refl, rules}
use Rattle.std.specs.Prelude.{FitsSigned}
use Rattle.std.specs.Int.{w32}
use Rattle.std.proofs.lemmas.Int.{to_z-of_z}
use Rattle.pts_tool.specs.Courses.{next_id}
use Rattle.pts_tool.proofs.making.next_id.Goals as goal

pub returns : goal.returns
unfolding next_id
returns g c =
    let fits0 : FitsSigned w32 c.args.owner = search rules in
    (rw (c.in_ok-name.ensures, c.as_slice.ensures, c.kind_of-kind.ensures, to_z-of_z w32 c.args.owner fits0) at c.ask.ensures)
