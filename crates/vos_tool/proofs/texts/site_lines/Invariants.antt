use Rattle.std.proofs.Common.{◌≡◌, take}
use Rattle.std.specs.List.{flat_map}
use Rattle.vos_tool.specs.Texts.{site_text}
use Rattle.vos_tool.proofs.texts.site_lines.Given as goal

abbrev pub invariant-loop-site : goal.invariant-loop-site
invariant-loop-site l = l.text.items ≡ flat_map site_text (take l.site-index l.sites)
