use Rattle.std.proofs.Common.{◌≡◌, ◌+◌, length, ap, ◌∙◌, arith}
use Rattle.std.proofs.lemmas.Int.{to_z-of_z}
use Rattle.prdb_lists.proofs.WithList.{length-more}
use Rattle.prdb_lists.proofs.Written.{put_costs, put_len}
use Rattle.prdb_lists.proofs.writes.write_one.Goals as goal

pub put-requires : goal.put-requires
put-requires g c =
    let fits = c.ranges.entry in
    let raw = c.in_ok-block.ensures in
    let made = simp to_z-of_z at raw in
    let long : length c.deref.result.now ≡ 192 = ap length (c.deref.ensures.value ∙ made)
    ∙ length-more c.args.entry c.link_to.result c.args.ids.now c.requires.ids in
    omega (arith, long, c.block_place.ensures, c.requires.within, c.requires.len)

pub returns-clause-len : goal.returns-clause-len
returns-clause-len g c =
    let fits = c.ranges.entry in
    let raw = c.in_ok-block.ensures in
    let made = simp to_z-of_z at raw in
    let long : length c.deref.result.now ≡ 192 = ap length (c.deref.ensures.value ∙ made)
    ∙ length-more c.args.entry c.link_to.result c.args.ids.now c.requires.ids in
    put_len c.put.result c.args.d.now c.put.new.self (c.block_place.result + length c.deref.result.now) c.put.ensures.len c.put.ensures.same
    (omega (arith, long, c.block_place.ensures, c.requires.within))

pub returns-clause-cost : goal.returns-clause-cost
returns-clause-cost g c =
    let fits = c.ranges.entry in
    let raw = c.in_ok-block.ensures in
    let made = simp to_z-of_z at raw in
    let long : length c.deref.result.now ≡ 192 = ap length (c.deref.ensures.value ∙ made)
    ∙ length-more c.args.entry c.link_to.result c.args.ids.now c.requires.ids in
    put_costs c.args.d.now.layout (length c.deref.result.now) (g.I.ImageRead.asked c.args.d.now.image)
    (g.I.ImageRead.asked c.put.new.self.image) long c.put.ensures.reads.asked
