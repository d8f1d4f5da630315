use Rattle.std.proofs.Common.{◌≡◌, map, take, string_bytes}
use Rattle.afs_words.proofs.values.Values.of.Given as goal

abbrev pub invariant-loop-word : goal.invariant-loop-word
invariant-loop-word l = l.list.items ≡ map string_bytes (take l.word-index l.words)
