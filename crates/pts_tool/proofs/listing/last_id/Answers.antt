use Rattle.std.proofs.Common.{◌≡◌, refl, sym, ◌∙◌, rules}
use Rattle.std.specs.Prelude.{FitsSigned}
use Rattle.std.specs.Int.{w32}
use Rattle.std.proofs.lemmas.Int.{to_z-of_z}
use Rattle.pts_tool.proofs.Paged.{last_is}
use Rattle.pts_tool.proofs.listing.last_id.Goals as goal

pub returns-in-len1-up : goal.returns-in-len1-up
returns-in-len1-up c =
    let fits0 : FitsSigned w32 c.last-item.result.id = search rules in
    to_z-of_z w32 c.last-item.result.id fits0
    ∙ last_is c.args.after c.args.entries.now c.last-item.result c.in-len1-up.len_at_least c.last-item.is
