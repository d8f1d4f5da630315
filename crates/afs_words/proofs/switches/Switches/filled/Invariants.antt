use Rattle.std.proofs.Common.{◌≡◌, [], map, drop, string_bytes}
use Rattle.afs_words.specs.Meaning.{filled}
use Rattle.afs_words.proofs.switches.Switches.filled.Given as goal

abbrev pub invariant-loop-parameter : goal.invariant-loop-parameter
invariant-loop-parameter l =
    filled l.list.items (drop l.parameter-index l.parameters) (map string_bytes l.rest) ≡ filled [] l.parameters (map string_bytes l.words)
