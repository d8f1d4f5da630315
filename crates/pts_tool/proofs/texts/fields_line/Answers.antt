use Rattle.std.proofs.Common.{refl, rules}
use Rattle.std.specs.Prelude.{FitsSigned}
use Rattle.std.specs.Int.{w32}
use Rattle.std.proofs.lemmas.Int.{to_z-of_z}
use Rattle.pts_tool.proofs.texts.fields_line.Goals as goal

pub returns : goal.returns
returns c =
    let fits : FitsSigned w32 c.args.entry.now.quota = search rules in
    rw (c.as_bytes.ensures.value, c.in_ok-count.ensures, c.flags_text-flags.ensures, c.as_bytes-2.ensures.value, c.in_ok-quota.ensures, to_z-of_z w32 c.args.entry.now.quota fits) at c.fields_of.ensures
