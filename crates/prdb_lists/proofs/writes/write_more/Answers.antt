use Rattle.std.proofs.Common.{◌≡◌, ℕ, ◌+◌, ◌-◌, ◌≤◌, get_or, take, drop, length, ap, ◌∙◌, arith}
use Rattle.std.proofs.lemmas.Int.{to_z-of_z}
use Rattle.std.proofs.lemmas.List.Elements.{All-drop, All-take}
use Rattle.db_blocks.specs.Blocks.{block_place}
use Rattle.prdb_lists.proofs.Written.{drop_most, one_costs, parts_of, take_most, within_small, writing_all, writing_costs, writing_more, writing_none}
use Rattle.prdb_lists.proofs.writes.write_more.Goals as goal

pub loop-blocks-init : goal.loop-blocks-init
loop-blocks-init g c =
    let fits = c.ranges.entry in
    simp to_z-of_z (writing_none g.I.ImageRead c.args.d.now c.args.entry c.args.more.now c.args.ids.now c.requires.within)

pub write_one-requires-clause-within : goal.write_one-requires-clause-within
write_one-requires-clause-within g c =
    omega (arith, c.loop-blocks.invariant.within 0 0 c.in-len1-up.len_at_least, c.loop-blocks.invariant.len)

pub write_one-requires-clause-numbers : goal.write_one-requires-clause-numbers
write_one-requires-clause-numbers g c =
    within_small c.args.d.now.len (take (length c.loop-blocks.blocks.now - 1) (drop 1 c.loop-blocks.blocks.now))
    (All-take (λ k. block_place 2112 k + 192 ≤ c.args.d.now.len) (length c.loop-blocks.blocks.now - 1) (drop 1 c.loop-blocks.blocks.now)
    (All-drop (λ k. block_place 2112 k + 192 ≤ c.args.d.now.len) 1 c.loop-blocks.blocks.now c.loop-blocks.invariant.within)) c.requires.len

pub loop-blocks-preserved : goal.loop-blocks-preserved
loop-blocks-preserved g c =
    let fits = c.ranges.entry in
    let raw = c.loop-blocks.invariant in
    let w = simp to_z-of_z at raw in
    let bytes_raw = c.in_ok-write_one.ensures.bytes in
    let bytes = simp to_z-of_z at bytes_raw in
    simp to_z-of_z
    (writing_more g.I.ImageRead c.args.d.now c.loop-blocks.d c.write_one.new.d c.args.entry c.args.more.now c.loop-blocks.blocks.now
    c.args.ids.now c.loop-blocks.left.now
    (get_or c.loop-blocks.blocks.now 0 0)
    (take (length c.loop-blocks.blocks.now - 1) (drop 1 c.loop-blocks.blocks.now)) c.split_at.result.0.now c.split_at.result.1.now _ w
    (parts_of c.loop-blocks.blocks.now c.in-len1-up.len_at_least)
    (c.split_at.ensures.front ∙ ap (λ (n : ℕ). take n c.loop-blocks.left.now) c.min.ensures ∙ take_most 44 c.loop-blocks.left.now)
    (c.split_at.ensures.back ∙ ap (λ (n : ℕ). drop n c.loop-blocks.left.now) c.min.ensures ∙ drop_most 44 c.loop-blocks.left.now)
    bytes c.write_one.ensures.len c.write_one.ensures.frame c.write_one.ensures.cost)

pub returns-clause-bytes : goal.returns-clause-bytes
returns-clause-bytes g c =
    let fits = c.ranges.entry in
    let raw = c.loop-blocks.invariant in
    let w = simp to_z-of_z at raw in
    let none : length c.loop-blocks.blocks.now ≡ 0 = omega arith in
    writing_all g.I.ImageRead c.args.d.now c.loop-blocks.d c.args.entry c.args.more.now c.loop-blocks.blocks.now c.args.ids.now
    c.loop-blocks.left.now w none

pub returns-in_err-write_one-clause-cost : goal.returns-in_err-write_one-clause-cost
returns-in_err-write_one-clause-cost g c =
    let fits = c.ranges.entry in
    let raw = c.loop-blocks.invariant in
    let w = simp to_z-of_z at raw in
    one_costs g.I.ImageRead c.args.d.now c.loop-blocks.d c.write_one.new.d c.args.entry c.args.more.now c.loop-blocks.blocks.now
    c.args.ids.now c.loop-blocks.left.now w c.in-len1-up.len_at_least c.write_one.ensures.cost

pub returns-clause-cost : goal.returns-clause-cost
returns-clause-cost g c =
    let fits = c.ranges.entry in
    let raw = c.loop-blocks.invariant in
    let w = simp to_z-of_z at raw in
    writing_costs g.I.ImageRead c.args.d.now c.loop-blocks.d c.args.entry c.args.more.now c.loop-blocks.blocks.now c.args.ids.now
    c.loop-blocks.left.now w
