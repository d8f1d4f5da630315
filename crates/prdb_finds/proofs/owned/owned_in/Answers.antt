use Rattle.std.proofs.Common.{◌-◌, refl}
use Rattle.std.specs.Int.{w32}
use Rattle.std.proofs.lemmas.Int.{to_z-of_z}
use Rattle.std.proofs.lemmas.Result.{err_from_is_err_and}
use Rattle.prdb_layout.specs.Records.{has_id}
use Rattle.prdb_finds.specs.Keys.{id_chain}
use Rattle.prdb_finds.specs.Places.{id_links}
use Rattle.prdb_finds.proofs.Ended.{ended}
use Rattle.prdb_finds.proofs.Lookups.{id_fault}
use Rattle.prdb_finds.proofs.OwnedLists.{bad_first, bad_second, costs_both, fault_second, met, owned_found, owned_none, owned_walked}
use Rattle.prdb_finds.proofs.owned.owned_in.Goals as goal

pub returns-in_err-link-clause-bad : goal.returns-in_err-link-clause-bad
returns-in_err-link-clause-bad g c =
    let fits = to_z-of_z w32 c.args.owner c.ranges.owner in
    let p = err_from_is_err_and c.from_residual.result c.from_residual.ensures.1 in
    rw (p.1, p.2) (bad_first c.args.d.now.bytes c.args.owner c.in_err-link.field-0.0 (rw fits at c.in_err-link.ensures.bad))

pub returns-in_err-link-clause-fault : goal.returns-in_err-link-clause-fault
returns-in_err-link-clause-fault g c =
    let fits = to_z-of_z w32 c.args.owner c.ranges.owner in
    let p = err_from_is_err_and c.from_residual.result c.from_residual.ensures.1 in
    rw (p.1, p.2) (id_fault c.args.d.now.bytes c.args.d.now.len c.args.owner c.in_err-link.field-0.0
    c.requires.told c.requires.some
    (rw fits at c.in_err-link.ensures.fault))

pub returns-in_default-clause-found : goal.returns-in_default-clause-found
returns-in_default-clause-found g c =
    let fits = to_z-of_z w32 c.args.owner c.ranges.owner in
    owned_none c.args.d.now.bytes c.args.d.now.len c.args.owner c.in_ok-link.field-0 c.requires.told c.requires.some
    c.in_default.is (rw fits at c.in_ok-link.ensures.found)

pub returns-in_default-clause-ended : goal.returns-in_default-clause-ended
returns-in_default-clause-ended g c = λ none.
    let fits = to_z-of_z w32 c.args.owner c.ranges.owner in
    ended c.args.d.now.bytes id_links (λ w block. has_id c.args.owner block) (id_chain c.args.owner) c.in_ok-link.field-0 c.in_default.is
    (rw fits at c.in_ok-link.ensures.exact)

pub returns-in_err-ids-clause-bad : goal.returns-in_err-ids-clause-bad
returns-in_err-ids-clause-bad g c =
    let fits = to_z-of_z w32 c.args.owner c.ranges.owner in
    let p = err_from_is_err_and c.from_residual-in_err-ids.result c.from_residual-in_err-ids.ensures.1 in
    let is = met c.args.d.now.bytes c.args.owner c.in_ok-link.field-0 c.in-Some.link (c.in-Some.link.word - 1) c.owned_place.result
    c.in-Some.is (rw fits at c.in_ok-link.ensures.exact) refl c.owned_place.ensures.place in
    rw (p.1, p.2) (bad_second c.args.d.now.bytes c.find_link.new.d.bytes (c.in-Some.link.word - 1) c.owned_place.result c.args.owner
    c.in_err-ids.field-0.0 c.find_link.ensures.frame.looks.same.bytes is c.in_err-ids.ensures.bad)

pub returns-in_err-ids-clause-fault : goal.returns-in_err-ids-clause-fault
returns-in_err-ids-clause-fault g c =
    let fits = to_z-of_z w32 c.args.owner c.ranges.owner in
    let p = err_from_is_err_and c.from_residual-in_err-ids.result c.from_residual-in_err-ids.ensures.1 in
    let is = met c.args.d.now.bytes c.args.owner c.in_ok-link.field-0 c.in-Some.link (c.in-Some.link.word - 1) c.owned_place.result
    c.in-Some.is (rw fits at c.in_ok-link.ensures.exact) refl c.owned_place.ensures.place in
    rw (p.1, p.2) (fault_second c.args.d.now.bytes c.find_link.new.d.bytes c.args.d.now.len (c.in-Some.link.word - 1) c.owned_place.result
    c.args.owner c.in_err-ids.field-0.0 c.requires.told c.requires.some
    c.find_link.ensures.frame.looks.same.bytes is c.in_err-ids.ensures.fault)

pub returns-in_err-ids-clause-cost : goal.returns-in_err-ids-clause-cost
returns-in_err-ids-clause-cost g c =
    let fits = to_z-of_z w32 c.args.owner c.ranges.owner in
    let is = met c.args.d.now.bytes c.args.owner c.in_ok-link.field-0 c.in-Some.link (c.in-Some.link.word - 1) c.owned_place.result
    c.in-Some.is (rw fits at c.in_ok-link.ensures.exact) refl c.owned_place.ensures.place in
    costs_both g.I.ImageRead c.args.d.now.bytes c.find_link.new.d.bytes (c.in-Some.link.word - 1) c.owned_place.result c.args.owner
    c.args.d.now c.find_link.new.d c.ids_along.new.d c.find_link.ensures.frame.looks.same.bytes is
    (rw fits at c.find_link.ensures.cost) c.ids_along.ensures.cost

pub returns-clause-found : goal.returns-clause-found
returns-clause-found g c =
    let fits = to_z-of_z w32 c.args.owner c.ranges.owner in
    let is = met c.args.d.now.bytes c.args.owner c.in_ok-link.field-0 c.in-Some.link (c.in-Some.link.word - 1) c.owned_place.result
    c.in-Some.is (rw fits at c.in_ok-link.ensures.exact) refl c.owned_place.ensures.place in
    owned_found c.args.d.now.bytes c.find_link.new.d.bytes c.args.d.now.len (c.in-Some.link.word - 1) c.owned_place.result c.args.owner
    c.in_ok-ids.ids.items c.requires.told c.requires.some c.find_link.ensures.frame.looks.same.bytes is
    c.in_ok-ids.ensures.found c.in_ok-ids.ensures.ascending

pub returns-clause-walked : goal.returns-clause-walked
returns-clause-walked g c =
    let fits = to_z-of_z w32 c.args.owner c.ranges.owner in
    let is = met c.args.d.now.bytes c.args.owner c.in_ok-link.field-0 c.in-Some.link (c.in-Some.link.word - 1) c.owned_place.result
    c.in-Some.is (rw fits at c.in_ok-link.ensures.exact) refl c.owned_place.ensures.place in
    owned_walked c.args.d.now.bytes c.find_link.new.d.bytes (c.in-Some.link.word - 1) c.owned_place.result c.args.owner
    c.in_ok-ids.ids.items c.find_link.ensures.frame.looks.same.bytes is c.in_ok-ids.ensures.found

pub returns-clause-cost : goal.returns-clause-cost
returns-clause-cost g c =
    let fits = to_z-of_z w32 c.args.owner c.ranges.owner in
    let is = met c.args.d.now.bytes c.args.owner c.in_ok-link.field-0 c.in-Some.link (c.in-Some.link.word - 1) c.owned_place.result
    c.in-Some.is (rw fits at c.in_ok-link.ensures.exact) refl c.owned_place.ensures.place in
    costs_both g.I.ImageRead c.args.d.now.bytes c.find_link.new.d.bytes (c.in-Some.link.word - 1) c.owned_place.result c.args.owner
    c.args.d.now c.find_link.new.d c.ids_along.new.d c.find_link.ensures.frame.looks.same.bytes is
    (rw fits at c.find_link.ensures.cost) c.ids_along.ensures.cost
