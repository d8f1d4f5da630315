use Rattle.std.proofs.Common.{◌≡◌, ℕ, ◌+◌, ◌≤◌, min, List, ℤ, length, take, drop, ap, sym, subst, inr, ◌∙◌, arith}
use Rattle.std.specs.List.{Contains}
use Rattle.std.proofs.lemmas.Int.{to_z-of_z}
use Rattle.std.proofs.lemmas.List.{length-take}
use Rattle.std.proofs.lemmas.List.Elements.{All-drop, All-take}
use Rattle.std.proofs.lemmas.Result.{err_from_is_err_and}
use Rattle.db_image.proofs.ReadSteps.{asks_none}
use Rattle.db_blocks.specs.Blocks.{block_place}
use Rattle.db_blocks.proofs.Scanned.{drafts_then}
use Rattle.prdb_lists.specs.Blocks.{AreWithin}
use Rattle.prdb_lists.specs.Lists.{ids_without}
use Rattle.prdb_lists.proofs.Ids.{of_without}
use Rattle.prdb_lists.proofs.Places.{list_at}
use Rattle.prdb_lists.proofs.Written.{within_more_len}
use Rattle.prdb_members.specs.Changes.{with_freed}
use Rattle.prdb_members.specs.Costs.{lose_cost}
use Rattle.prdb_members.proofs.Costs.{lose_freed, lose_written}
use Rattle.prdb_members.proofs.Places.{free_fault, list_err, lost_ok}
use Rattle.prdb_members.proofs.sides.remove_id.Goals as goal

pub free_first-requires-clause-within : goal.free_first-requires-clause-within
free_first-requires-clause-within g c =
    subst (AreWithin c.args.d.now.len)
    (sym (c.split_at.ensures.back ∙ ap (λ (l : List ℕ). drop c.min.result l) c.as_slice-more.ensures.value))
    (All-drop (λ k. block_place 2112 k + 192 ≤ c.args.d.now.len) c.min.result c.args.place.now.listed.more.items c.requires.more)

pub returns-in_err-free_first-clause-fault : goal.returns-in_err-free_first-clause-fault
returns-in_err-free_first-clause-fault g c =
    let p = err_from_is_err_and c.from_residual-in_err-free_first.result c.from_residual-in_err-free_first.ensures.1 in
    rw (p.1, p.2)
    (free_fault c.args.d.now.bytes c.args.place.now c.args.id c.in_err-free_first.field-0.0 c.in_err-free_first.ensures.fault)

pub write_list-requires-clause-more : goal.write_list-requires-clause-more
write_list-requires-clause-more g c =
    within_more_len c.args.d.now.len c.free_first.new.d.len c.split_at.result.0.now
    (subst (AreWithin c.args.d.now.len)
    (sym (c.split_at.ensures.front ∙ ap (λ (l : List ℕ). take c.min.result l) c.as_slice-more.ensures.value))
    (All-take (λ k. block_place 2112 k + 192 ≤ c.args.d.now.len) c.min.result c.args.place.now.listed.more.items c.requires.more))
    (omega (arith, c.free_first.ensures.len))

pub returns-clause-bytes : goal.returns-clause-bytes
returns-clause-bytes g c =
    let fits = c.ranges.id in
    let raw = c.in_ok-ids.ensures in
    let is = simp to_z-of_z at raw in
    lost_ok c.write_list.result c.args.d.now.bytes c.free_first.new.d.bytes c.write_list.new.d.bytes c.args.place.now.found.number
    c.args.place.now.entry c.args.place.now.found.block
    (list_at c.args.place.now) c.args.id c.as_slice-ids.result.now c.blocks_for.result c.split_at.result.0.now c.split_at.result.1.now
    (c.as_slice-ids.ensures.value ∙ is) c.blocks_for.ensures
    (c.split_at.ensures.front ∙ ap (λ (n : ℕ). take n c.as_slice-more.result.now) c.min.ensures
    ∙ ap (λ (l : List ℕ). take (min (length l) c.blocks_for.result) l) c.as_slice-more.ensures.value)
    (c.split_at.ensures.back ∙ ap (λ (n : ℕ). drop n c.as_slice-more.result.now) c.min.ensures
    ∙ ap (λ (l : List ℕ). drop (min (length l) c.blocks_for.result) l) c.as_slice-more.ensures.value)
    c.in_ok-free_first.ensures.bytes c.write_list.ensures.bytes

pub returns-clause-fault : goal.returns-clause-fault
returns-clause-fault g c =
    let fits = c.ranges.id in
    let raw = c.in_ok-ids.ensures in
    let is : c.in_ok-ids.ids ≡ ids_without c.args.id c.args.place.now.listed.ids = simp to_z-of_z at raw in
    list_err c.write_list.result
    (with_freed c.split_at.result.1.now) c.args.d.now.bytes c.free_first.new.d.bytes c.args.place.now c.args.id c.as_slice-ids.result.now
    c.in_ok-free_first.ensures.bytes c.as_slice-ids.ensures.ascending
    (λ x has.
    inr (of_without c.args.id c.args.place.now.listed.ids x (subst (λ (l : List ℤ). Contains l x) (c.as_slice-ids.ensures.value ∙ is) has)))
    c.write_list.ensures.fault

pub returns-clause-frame : goal.returns-clause-frame
returns-clause-frame g c =
    drafts_then g.I.ImageRead c.args.d.now c.free_first.new.d c.write_list.new.d _ _ c.in_ok-free_first.ensures.frame
    c.write_list.ensures.frame

pub returns-in_err-ids-clause-cost : goal.returns-in_err-ids-clause-cost
returns-in_err-ids-clause-cost g c =
    asks_none (lose_cost c.args.d.now.layout c.args.d.now.len (length c.args.place.now.listed.more.items))
    (g.I.ImageRead.asked c.args.d.now.image)

pub returns-in_err-free_first-clause-cost : goal.returns-in_err-free_first-clause-cost
returns-in_err-free_first-clause-cost g c =
    lose_freed c.args.d.now.layout c.args.d.now.len (length c.args.place.now.listed.more.items) (g.I.ImageRead.asked c.args.d.now.image)
    (g.I.ImageRead.asked c.free_first.new.d.image) c.free_first.ensures.cost

pub returns-clause-cost : goal.returns-clause-cost
returns-clause-cost g c =
    let kept : length c.split_at.result.0.now ≤ length c.args.place.now.listed.more.items =
    omega (
      arith,
      ap length c.split_at.ensures.front,
      ap length c.as_slice-more.ensures.value,
      length-take c.min.result
          c.as_slice-more.result.now,
    ) in
    lose_written c.args.d.now.layout c.free_first.new.d.layout c.args.d.now.len (length c.split_at.result.0.now)
    (length c.args.place.now.listed.more.items) (g.I.ImageRead.asked c.args.d.now.image) (g.I.ImageRead.asked c.free_first.new.d.image)
    (g.I.ImageRead.asked c.write_list.new.d.image) c.free_first.ensures.frame.layout kept c.free_first.ensures.cost
    c.write_list.ensures.cost
