use Rattle.std.proofs.Common.{◌≡◌, map, take}
use Rattle.vldb_entries.specs.Forms.{entry_in}
use Rattle.vldb_records.proofs.listings.entries_in.Given as goal

abbrev pub invariant-loop-block : goal.invariant-loop-block
invariant-loop-block l = l.entries.items ≡ map (entry_in l.addresses) (take l.block-index l.blocks)
