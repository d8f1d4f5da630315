use Rattle.std.proofs.Common.{◌≡◌, length, map, string_bytes}
use Rattle.afs_words.specs.Meaning.{read_switches}
use Rattle.afs_words.proofs.switches.Switches.read.Given as goal

abbrev pub invariant-loop-rest : goal.invariant-loop-rest
invariant-loop-rest l =
    read_switches l.switches (map string_bytes l.rest) ≡ read_switches l.initial.switches (map string_bytes l.words)

abbrev pub decreases-loop-rest : goal.decreases-loop-rest
decreases-loop-rest l = length l.rest
