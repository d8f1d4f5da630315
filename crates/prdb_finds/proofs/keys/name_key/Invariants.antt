use Rattle.std.proofs.Common.{◌≡◌, ◌%◌, sum, take}
use Rattle.prdb_finds.proofs.keys.name_key.Given as goal

abbrev pub invariant-loop-byte : goal.invariant-loop-byte
invariant-loop-byte l = l.key ≡ sum (take l.byte-index l.name) % 256
