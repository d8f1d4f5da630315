use Rattle.std.proofs.Common.{◌-◌, map, refl, ap, ◌∙◌, arith}
use Rattle.std.specs.Int.{w32, cast_signed}
use Rattle.std.proofs.lemmas.Int.{to_z-of_z}
use Rattle.std.proofs.lemmas.Result.{err_from_is_err_and}
use Rattle.prdb_finds.proofs.Lookups.{id_fault}
use Rattle.prdb_finds.proofs.OwnedLists.{costs_both, fault_second, met}
use Rattle.prdb_members.proofs.OwnedOrder.{all_owned, empty_all, empty_none, empty_order, in_order, never_empty, never_unknown, no_owner, none_all, none_order, unknown_none}
use Rattle.prdb_members.proofs.owned.owned_in_order.Goals as goal

pub returns-then-len-eq0-clause-found : goal.returns-then-len-eq0-clause-found
returns-then-len-eq0-clause-found g c =
    empty_order c.args.d.now.bytes c.len.result c.args.owner _ (rw c.len.ensures.size c.len.ensures.told) c.if-len-eq0.true

pub returns-then-len-eq0-clause-owned : goal.returns-then-len-eq0-clause-owned
returns-then-len-eq0-clause-owned g c =
    empty_all c.args.d.now.bytes c.len.result c.args.owner _ (rw c.len.ensures.size c.len.ensures.told) c.if-len-eq0.true

pub returns-then-len-eq0-clause-empty : goal.returns-then-len-eq0-clause-empty
returns-then-len-eq0-clause-empty g c = empty_none c.args.d.now.bytes _ c.new.ensures.items

pub returns-then-len-eq0-clause-unknown : goal.returns-then-len-eq0-clause-unknown
returns-then-len-eq0-clause-unknown g c = unknown_none c.args.d.now.bytes _ _ c.new.ensures.items

pub returns-in_err-link-clause-fault : goal.returns-in_err-link-clause-fault
returns-in_err-link-clause-fault g c =
    let fits = to_z-of_z w32 c.args.owner c.ranges.owner in
    let p = err_from_is_err_and c.from_residual.result c.from_residual.ensures.1 in
    rw (p.1, p.2) (id_fault c.args.d.now.bytes c.len.result c.args.owner c.in_err-link.field-0.0
    (rw c.len.ensures.size c.len.ensures.told) (omega arith)
    (rw fits at c.in_err-link.ensures.fault))

pub returns-in_default-clause-found : goal.returns-in_default-clause-found
returns-in_default-clause-found g c =
    let fits = to_z-of_z w32 c.args.owner c.ranges.owner in
    none_order c.args.d.now.bytes c.args.owner _
    (no_owner c.args.d.now.bytes c.len.result c.args.owner c.in_ok-link.field-0 (rw c.len.ensures.size c.len.ensures.told) (omega arith)
    c.in_default.is (rw fits at c.in_ok-link.ensures.found))

pub returns-in_default-clause-owned : goal.returns-in_default-clause-owned
returns-in_default-clause-owned g c =
    let fits = to_z-of_z w32 c.args.owner c.ranges.owner in
    none_all c.args.d.now.bytes c.args.owner _
    (no_owner c.args.d.now.bytes c.len.result c.args.owner c.in_ok-link.field-0 (rw c.len.ensures.size c.len.ensures.told) (omega arith)
    c.in_default.is (rw fits at c.in_ok-link.ensures.found))

pub returns-in_default-clause-empty : goal.returns-in_default-clause-empty
returns-in_default-clause-empty g c = empty_none c.args.d.now.bytes _ c.new-in_default.ensures.items

pub returns-in_default-clause-unknown : goal.returns-in_default-clause-unknown
returns-in_default-clause-unknown g c = unknown_none c.args.d.now.bytes _ _ c.new-in_default.ensures.items

pub returns-clause-empty : goal.returns-clause-empty
returns-clause-empty g c =
    never_empty c.args.d.now.bytes c.len.result _ (rw c.len.ensures.size c.len.ensures.told) (omega arith)

pub returns-clause-unknown : goal.returns-clause-unknown
returns-clause-unknown g c =
    let fits = to_z-of_z w32 c.args.owner c.ranges.owner in
    let is = met c.args.d.now.bytes c.args.owner c.in_ok-link.field-0 c.in-Some.link (c.in-Some.link.word - 1) c.owned_place.result
    c.in-Some.is (rw fits at c.in_ok-link.ensures.exact) refl c.owned_place.ensures.place in
    never_unknown c.args.d.now.bytes c.len.result (c.in-Some.link.word - 1) c.owned_place.result c.args.owner _
    (rw c.len.ensures.size c.len.ensures.told) (omega arith) is

pub returns-clause-found : goal.returns-clause-found
returns-clause-found g c =
    let fits = to_z-of_z w32 c.args.owner c.ranges.owner in
    let is = met c.args.d.now.bytes c.args.owner c.in_ok-link.field-0 c.in-Some.link (c.in-Some.link.word - 1) c.owned_place.result
    c.in-Some.is (rw fits at c.in_ok-link.ensures.exact) refl c.owned_place.ensures.place in
    in_order c.args.d.now.bytes c.find_link.new.d.bytes (c.in-Some.link.word - 1) c.owned_place.result c.args.owner c.in_ok-ids.ids.items
    c.find_link.ensures.frame.looks.same.bytes is
    record {
      found = c.in_ok-words.words.items;
      stand = rw c.owned_links.ensures.is at c.in_ok-words.ensures.found;
      read = c.in_ok-ids.ensures ∙ ap (map (cast_signed w32)) c.deref.ensures.value;
    }

pub returns-clause-owned : goal.returns-clause-owned
returns-clause-owned g c =
    let fits = to_z-of_z w32 c.args.owner c.ranges.owner in
    let is = met c.args.d.now.bytes c.args.owner c.in_ok-link.field-0 c.in-Some.link (c.in-Some.link.word - 1) c.owned_place.result
    c.in-Some.is (rw fits at c.in_ok-link.ensures.exact) refl c.owned_place.ensures.place in
    all_owned c.args.d.now.bytes c.find_link.new.d.bytes (c.in-Some.link.word - 1) c.owned_place.result c.args.owner c.in_ok-ids.ids.items
    c.find_link.ensures.frame.looks.same.bytes is
    record {
      found = c.in_ok-words.words.items;
      stand = rw c.owned_links.ensures.is at c.in_ok-words.ensures.found;
      read = c.in_ok-ids.ensures ∙ ap (map (cast_signed w32)) c.deref.ensures.value;
    }

pub returns-in_err-words-clause-fault : goal.returns-in_err-words-clause-fault
returns-in_err-words-clause-fault g c =
    let fits = to_z-of_z w32 c.args.owner c.ranges.owner in
    let p = err_from_is_err_and c.from_residual-in_err-words.result c.from_residual-in_err-words.ensures.1 in
    let is = met c.args.d.now.bytes c.args.owner c.in_ok-link.field-0 c.in-Some.link (c.in-Some.link.word - 1) c.owned_place.result
    c.in-Some.is (rw fits at c.in_ok-link.ensures.exact) refl c.owned_place.ensures.place in
    rw (p.1, p.2) (fault_second c.args.d.now.bytes c.find_link.new.d.bytes c.len.result (c.in-Some.link.word - 1) c.owned_place.result
    c.args.owner c.in_err-words.field-0.0 (rw c.len.ensures.size c.len.ensures.told) (omega arith)
    c.find_link.ensures.frame.looks.same.bytes is (rw c.owned_links.ensures.is at c.in_err-words.ensures.fault))

pub returns-in_err-words-clause-cost : goal.returns-in_err-words-clause-cost
returns-in_err-words-clause-cost g c =
    let fits = to_z-of_z w32 c.args.owner c.ranges.owner in
    let is = met c.args.d.now.bytes c.args.owner c.in_ok-link.field-0 c.in-Some.link (c.in-Some.link.word - 1) c.owned_place.result
    c.in-Some.is (rw fits at c.in_ok-link.ensures.exact) refl c.owned_place.ensures.place in
    costs_both g.I.ImageRead c.args.d.now.bytes c.find_link.new.d.bytes (c.in-Some.link.word - 1) c.owned_place.result c.args.owner
    c.args.d.now c.find_link.new.d c.read_along.new.d c.find_link.ensures.frame.looks.same.bytes is
    (rw fits at c.find_link.ensures.cost) (rw c.owned_links.ensures.is at c.read_along.ensures.cost)

pub returns-in_err-ids-clause-cost : goal.returns-in_err-ids-clause-cost
returns-in_err-ids-clause-cost g c =
    let fits = to_z-of_z w32 c.args.owner c.ranges.owner in
    let is = met c.args.d.now.bytes c.args.owner c.in_ok-link.field-0 c.in-Some.link (c.in-Some.link.word - 1) c.owned_place.result
    c.in-Some.is (rw fits at c.in_ok-link.ensures.exact) refl c.owned_place.ensures.place in
    costs_both g.I.ImageRead c.args.d.now.bytes c.find_link.new.d.bytes (c.in-Some.link.word - 1) c.owned_place.result c.args.owner
    c.args.d.now c.find_link.new.d c.read_along.new.d c.find_link.ensures.frame.looks.same.bytes is
    (rw fits at c.find_link.ensures.cost) (rw c.owned_links.ensures.is at c.read_along.ensures.cost)

pub returns-clause-cost : goal.returns-clause-cost
returns-clause-cost g c =
    let fits = to_z-of_z w32 c.args.owner c.ranges.owner in
    let is = met c.args.d.now.bytes c.args.owner c.in_ok-link.field-0 c.in-Some.link (c.in-Some.link.word - 1) c.owned_place.result
    c.in-Some.is (rw fits at c.in_ok-link.ensures.exact) refl c.owned_place.ensures.place in
    costs_both g.I.ImageRead c.args.d.now.bytes c.find_link.new.d.bytes (c.in-Some.link.word - 1) c.owned_place.result c.args.owner
    c.args.d.now c.find_link.new.d c.read_along.new.d c.find_link.ensures.frame.looks.same.bytes is
    (rw fits at c.find_link.ensures.cost) (rw c.owned_links.ensures.is at c.read_along.ensures.cost)
