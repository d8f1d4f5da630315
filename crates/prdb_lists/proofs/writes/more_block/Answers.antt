use Rattle.std.proofs.Common.{arith}
use Rattle.std.proofs.lemmas.Int.{to_z-of_z}
use Rattle.prdb_lists.proofs.Written.{block_made}
use Rattle.prdb_lists.proofs.writes.more_block.Goals as goal

pub returns : goal.returns
returns c =
    let fits = c.ranges.entry in
    let raw = c.cast_unsigned.ensures in
    let is_entry = simp to_z-of_z at raw in
    block_made c.in_ok-block.block.items c.push_words.new.out.items c.push_ids.new.out.items c.args.entry c.cast_unsigned.result c.args.next
    c.args.ids.now
    c.in_ok-block.ensures.items is_entry c.in_ok-push_words.ensures c.in_ok-push_ids.ensures (omega (arith, c.ranges.next))
