use Rattle.std.proofs.Common.{not, ◌&&◌, eqb, ap, refl}
use Rattle.std.specs.List.{list_any}
use Rattle.vl_service.proofs.Moved.{moves, no_server, still_used, taken, used_low}
use Rattle.vl_service.proofs.moving.decide.Goals as goal

pub returns-then-not-has_address-clause-decided : goal.returns-then-not-has_address-clause-decided
returns-then-not-has_address-clause-decided g c =
    no_server c.args.d.now.bytes c.addresses.new.d.bytes c.args.old c.args.new c.in_ok-places.places c.has_address.result
    (not (eqb c.args.new 0) && list_any (λ x. eqb x c.args.new) c.in_ok-places.places)
    (record {
      same = c.addresses.ensures.frame.looks.same.bytes;
      told = c.in_ok-places.ensures.found;
      has_old = c.has_address.ensures;
      has_new = refl;
    })
    (ap not c.if-not-has_address.true)

pub returns-then-has_address-clause-decided : goal.returns-then-has_address-clause-decided
returns-then-has_address-clause-decided g c =
    taken c.args.d.now.bytes c.addresses.new.d.bytes c.args.old c.args.new c.in_ok-places.places c.has_address.result c.has_address-2.result
    (record {
      same = c.addresses.ensures.frame.looks.same.bytes;
      told = c.in_ok-places.ensures.found;
      has_old = c.has_address.ensures;
      has_new = c.has_address-2.ensures;
    })
    (ap not c.if-not-has_address.false) c.if-has_address.true

pub loses_site-requires-clause-old : goal.loses_site-requires-clause-old
loses_site-requires-clause-old g c =
    used_low c.args.old c.in_ok-places.places c.has_address.result c.has_address.ensures (ap not c.if-not-has_address.false)

pub returns-then-branch-clause-decided : goal.returns-then-branch-clause-decided
returns-then-branch-clause-decided g c =
    still_used c.args.d.now.bytes c.addresses.new.d.bytes c.args.old c.args.new c.in_ok-places.places c.has_address.result
    c.has_address-2.result c.in_ok-loses_site.field-0
    (record {
      same = c.addresses.ensures.frame.looks.same.bytes;
      told = c.in_ok-places.ensures.found;
      has_old = c.has_address.ensures;
      has_new = c.has_address-2.ensures;
    })
    (ap not c.if-not-has_address.false) c.if-has_address.false c.in_ok-loses_site.ensures.found c.if-branch.true

pub returns-clause-decided : goal.returns-clause-decided
returns-clause-decided g c =
    moves c.args.d.now.bytes c.addresses.new.d.bytes c.args.old c.args.new c.in_ok-places.places
    c.with_place_of.result c.has_address.result c.has_address-2.result c.in_ok-loses_site.field-0
    (record {
      same = c.addresses.ensures.frame.looks.same.bytes;
      told = c.in_ok-places.ensures.found;
      has_old = c.has_address.ensures;
      has_new = c.has_address-2.ensures;
    })
    (ap not c.if-not-has_address.false) c.if-has_address.false c.in_ok-loses_site.ensures.found c.if-branch.false c.with_place_of.ensures
