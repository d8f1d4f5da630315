use Rattle.std.proofs.Common.{◌≡◌, take}
use Rattle.std.specs.List.{flat_map}
use Rattle.vos_tool.specs.Texts.{entry_text}
use Rattle.vos_tool.proofs.listing.entry_texts.Given as goal

abbrev pub invariant-loop-entry : goal.invariant-loop-entry
invariant-loop-entry l = l.text.items ≡ flat_map entry_text (take l.entry-index l.entries)
