use Rattle.std.proofs.Common.{◌≡◌, map, take, string_bytes}
use Rattle.command_lines.proofs.cuts.texts.Given as goal

abbrev pub invariant-loop-word : goal.invariant-loop-word
invariant-loop-word l = map string_bytes l.texts.items ≡ take l.word-index l.words
