use Rattle.std.proofs.Common.{◌≡◌, ℕ, ◌+◌, take, drop, length, ap, ◌∙◌, rules, arith}
use Rattle.std.specs.Prelude.{FitsSigned}
use Rattle.std.specs.Int.{w32}
use Rattle.std.proofs.lemmas.Int.{to_z-of_z}
use Rattle.db_image.specs.Draft.{put_cost}
use Rattle.prdb_lists.proofs.Written.{drop_most, put_len, puts_most, relisted_ok, take_most, then_costs, within_small}
use Rattle.prdb_lists.proofs.sides.write_list.Goals as goal

pub with_list-requires : goal.with_list-requires
with_list-requires g c = within_small c.args.d.now.len c.args.more.now c.requires.more c.requires.len

pub put-requires : goal.put-requires
put-requires g c =
    let long : length c.deref.result.now ≡ 192 =
    ap length c.deref.ensures.value
    ∙ c.in_ok-block.ensures.len c.args.ids.now (omega arith)
    (c.split_at.ensures.front ∙ ap (λ (n : ℕ). take n c.args.ids.now) c.min.ensures ∙ take_most 19 c.args.ids.now) in
    omega (arith, long, c.block_place-at.ensures, c.requires.within, c.requires.len)

pub returns-clause-bytes : goal.returns-clause-bytes
returns-clause-bytes g c =
    let fits : FitsSigned w32 c.args.place.now.entry = search rules in
    let raw = c.in_ok-write_more.ensures.bytes in
    let bytes = simp to_z-of_z at raw in
    relisted_ok c.put.result c.args.d.now.bytes c.write_more.new.d.bytes c.put.new.self.bytes c.args.place.now.found.number
    c.args.place.now.entry c.args.place.now.found.block
    c.args.ids.now c.split_at.result.1.now c.args.more.now c.deref.result.now c.block_place-at.result
    (c.split_at.ensures.back ∙ ap (λ (n : ℕ). drop n c.args.ids.now) c.min.ensures ∙ drop_most 19 c.args.ids.now)
    (c.deref.ensures.value
    ∙ c.in_ok-block.ensures.made c.args.ids.now (omega arith)
    (c.split_at.ensures.front ∙ ap (λ (n : ℕ). take n c.args.ids.now) c.min.ensures ∙ take_most 19 c.args.ids.now))
    c.block_place-at.ensures bytes c.put.ensures.bytes

pub returns-clause-len : goal.returns-clause-len
returns-clause-len g c =
    let long : length c.deref.result.now ≡ 192 =
    ap length c.deref.ensures.value
    ∙ c.in_ok-block.ensures.len c.args.ids.now (omega arith)
    (c.split_at.ensures.front ∙ ap (λ (n : ℕ). take n c.args.ids.now) c.min.ensures ∙ take_most 19 c.args.ids.now) in
    put_len c.put.result c.write_more.new.d c.put.new.self
    (c.block_place-at.result + length c.deref.result.now) c.put.ensures.len c.put.ensures.same
    (omega (arith, long, c.block_place-at.ensures, c.requires.within, c.write_more.ensures.len))
    ∙ c.write_more.ensures.len

pub returns-in_err-write_more-clause-cost : goal.returns-in_err-write_more-clause-cost
returns-in_err-write_more-clause-cost g c =
    puts_most (put_cost c.args.d.now.layout 192) (length c.args.more.now) (length c.args.more.now + 1)
    (g.I.ImageRead.asked c.args.d.now.image) (g.I.ImageRead.asked c.write_more.new.d.image) (omega arith) c.write_more.ensures.cost

pub returns-in_err-block-clause-cost : goal.returns-in_err-block-clause-cost
returns-in_err-block-clause-cost g c =
    puts_most (put_cost c.args.d.now.layout 192) (length c.args.more.now) (length c.args.more.now + 1)
    (g.I.ImageRead.asked c.args.d.now.image) (g.I.ImageRead.asked c.write_more.new.d.image) (omega arith) c.write_more.ensures.cost

pub returns-clause-cost : goal.returns-clause-cost
returns-clause-cost g c =
    let long : length c.deref.result.now ≡ 192 =
    ap length c.deref.ensures.value
    ∙ c.in_ok-block.ensures.len c.args.ids.now (omega arith)
    (c.split_at.ensures.front ∙ ap (λ (n : ℕ). take n c.args.ids.now) c.min.ensures ∙ take_most 19 c.args.ids.now) in
    then_costs g.I.ImageRead c.args.d.now c.write_more.new.d c.put.new.self (length c.deref.result.now) (length c.args.more.now)
    c.write_more.ensures.frame.layout long c.write_more.ensures.cost c.put.ensures.reads.asked
