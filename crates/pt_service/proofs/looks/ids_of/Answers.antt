use Rattle.std.proofs.Common.{refl, rules, take}
use Rattle.std.specs.Prelude.{FitsSigned}
use Rattle.std.specs.Int.{w32}
use Rattle.std.proofs.lemmas.Int.{to_z-of_z}
use Rattle.prdb_finds.specs.Places.{name_links}
use Rattle.pt_calls.specs.Meaning.{id_or_anonymous}
use Rattle.pt_service.specs.Costs.{lowered_chain}
use Rattle.pt_service.proofs.Costs.{theirs_all, theirs_more, theirs_none, theirs_within}
use Rattle.pt_service.proofs.Mapped.{mapped_all, mapped_more, mapped_none}
use Rattle.pt_service.proofs.looks.ids_of.Goals as goal

pub loop-name-init : goal.loop-name-init
loop-name-init g c = (
  mapped_none g.I.ImageRead id_or_anonymous c.args.d.now c.args.names.now c.new-ids.result.items c.new-ids.ensures.items,
  theirs_none g.I.ImageRead name_links lowered_chain (take 0 c.args.names.now) c.args.d.now,
)

pub loop-name-preserved : goal.loop-name-preserved
loop-name-preserved g c =
    let fits : FitsSigned w32 c.in_ok-id.id = search rules in
    let cost = c.id_of.ensures.cost in (
      rw (c.in_ok-push.ensures.items, to_z-of_z w32 c.in_ok-id.id fits)
          (mapped_more g.I.ImageRead id_or_anonymous c.args.d.now c.loop-name.d c.id_of.new.d c.args.names.now c.name-item.result
          c.loop-name.ids.items _ c.in_ok-id.id c.loop-name.name-index _ c.in_ok-id.ensures.frame
          (rw c.as_slice.ensures at c.in_ok-id.ensures.found) c.name-item.is c.loop-name-test.true refl c.loop-name.invariant.0),
      theirs_more g.I.ImageRead name_links lowered_chain c.args.names.now c.name-item.result c.loop-name.name-index c.args.d.now
          c.loop-name.d c.id_of.new.d (rw c.as_slice.ensures at cost) c.loop-name.invariant.0.frame.same.bytes c.name-item.is
          c.loop-name-test.true c.loop-name.invariant.1,
    )

pub returns-clause-found : goal.returns-clause-found
returns-clause-found g c =
    mapped_all g.I.ImageRead id_or_anonymous c.args.d.now c.loop-name.d c.args.names.now c.loop-name.ids.items c.new.result
    c.loop-name.name-index c.loop-name-test.false c.new.ensures c.loop-name.invariant.0

pub returns-clause-cost : goal.returns-clause-cost
returns-clause-cost g c =
    theirs_all g.I.ImageRead name_links lowered_chain c.args.names.now c.loop-name.name-index c.args.d.now c.loop-name.d
    c.loop-name.invariant.1

pub returns-in_err-id-clause-cost : goal.returns-in_err-id-clause-cost
returns-in_err-id-clause-cost g c =
    let cost = c.id_of.ensures.cost in
    theirs_within g.I.ImageRead name_links lowered_chain c.args.names.now c.name-item.result c.loop-name.name-index c.args.d.now
    c.loop-name.d c.id_of.new.d (rw c.as_slice.ensures at cost) c.loop-name.invariant.0.frame.same.bytes c.name-item.is
    c.loop-name-test.true c.loop-name.invariant.1

pub returns-in_err-push-clause-cost : goal.returns-in_err-push-clause-cost
returns-in_err-push-clause-cost g c =
    let cost = c.id_of.ensures.cost in
    theirs_within g.I.ImageRead name_links lowered_chain c.args.names.now c.name-item.result c.loop-name.name-index c.args.d.now
    c.loop-name.d c.id_of.new.d (rw c.as_slice.ensures at cost) c.loop-name.invariant.0.frame.same.bytes c.name-item.is
    c.loop-name-test.true c.loop-name.invariant.1
