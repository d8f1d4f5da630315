use Rattle.std.proofs.Common.{◌≡◌, Some, map, take}
use Rattle.afs_commands.specs.Forms.{volume_in}
use Rattle.afs_words.proofs.given.volumes.Given as goal

abbrev pub invariant-loop-value : goal.invariant-loop-value
invariant-loop-value l = map Some l.list.items ≡ map volume_in (take l.value-index l.values)
