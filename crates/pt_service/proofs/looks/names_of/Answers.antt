use Rattle.std.proofs.Common.{arith, rules, get_or, pos, take}
use mir.Syntax.{w32}
use mir.Val.{of_z, to_z}
use Rattle.std.proofs.lemmas.Int.{to_z-of_z}
use Rattle.prdb_finds.specs.Keys.{id_chain}
use Rattle.prdb_finds.specs.Places.{id_links}
use Rattle.pt_service.specs.Meaning.{name_of}
use Rattle.pt_service.proofs.Costs.{theirs_all, theirs_more, theirs_none, theirs_within}
use Rattle.pt_service.proofs.Mapped.{mapped_all}
use Rattle.pt_service.proofs.Named.{mapped_by, named_more, named_none, passed_id}
use Rattle.pt_service.proofs.looks.names_of.Goals as goal

pub loop-id-init : goal.loop-id-init
loop-id-init g c = (
  named_none g.I.ImageRead c.args.d.now c.args.ids.now c.new-names.result.items c.new-names.ensures.items,
  theirs_none g.I.ImageRead id_links id_chain (take 0 c.args.ids.now) c.args.d.now,
)

pub loop-id-preserved : goal.loop-id-preserved
loop-id-preserved g c = (
  named_more g.I.ImageRead c.args.d.now c.loop-id.d c.name_of.new.d c.args.ids.now c.loop-id.names.items c.push.new.self.items
      c.in_ok-name.name c.loop-id.id-index _
      c.in_ok-name.ensures.frame _ c.in_ok-name.ensures.found
      (first_of (search (rules, passed_id), grind (arith, to_z-of_z, passed_id))) c.loop-id-test.true
      c.in_ok-push.ensures.items c.loop-id.invariant.0 c.in_ok-name.ensures.len,
  theirs_more g.I.ImageRead id_links id_chain c.args.ids.now (to_z w32 (of_z w32 (get_or c.args.ids.now c.loop-id.id-index (pos 0))))
      c.loop-id.id-index c.args.d.now c.loop-id.d c.name_of.new.d
      c.name_of.ensures.cost c.loop-id.invariant.0.frame.same.bytes
      (first_of (search (rules, passed_id), grind (arith, to_z-of_z, passed_id))) c.loop-id-test.true c.loop-id.invariant.1,
)

pub returns-clause-found : goal.returns-clause-found
returns-clause-found g c =
    mapped_all g.I.ImageRead name_of c.args.d.now c.loop-id.d c.args.ids.now c.loop-id.names.items c.new.result c.loop-id.id-index
    c.loop-id-test.false c.new.ensures
    (mapped_by g.I.ImageRead c.args.d.now c.loop-id.d c.args.ids.now c.loop-id.names.items c.loop-id.id-index c.loop-id.invariant.0)

pub returns-clause-cost : goal.returns-clause-cost
returns-clause-cost g c =
    theirs_all g.I.ImageRead id_links id_chain c.args.ids.now c.loop-id.id-index c.args.d.now c.loop-id.d c.loop-id.invariant.1

pub returns-in_err-name-clause-cost : goal.returns-in_err-name-clause-cost
returns-in_err-name-clause-cost g c =
    theirs_within g.I.ImageRead id_links id_chain c.args.ids.now (to_z w32 (of_z w32 (get_or c.args.ids.now c.loop-id.id-index (pos 0))))
    c.loop-id.id-index c.args.d.now c.loop-id.d c.name_of.new.d
    c.name_of.ensures.cost c.loop-id.invariant.0.frame.same.bytes
    (first_of (search (rules, passed_id), grind (arith, to_z-of_z, passed_id))) c.loop-id-test.true c.loop-id.invariant.1

pub returns-in_err-push-clause-cost : goal.returns-in_err-push-clause-cost
returns-in_err-push-clause-cost g c =
    theirs_within g.I.ImageRead id_links id_chain c.args.ids.now (to_z w32 (of_z w32 (get_or c.args.ids.now c.loop-id.id-index (pos 0))))
    c.loop-id.id-index c.args.d.now c.loop-id.d c.name_of.new.d
    c.name_of.ensures.cost c.loop-id.invariant.0.frame.same.bytes
    (first_of (search (rules, passed_id), grind (arith, to_z-of_z, passed_id))) c.loop-id-test.true c.loop-id.invariant.1
