use Rattle.std.proofs.Common.{length, sym, ap, ◌∙◌, arith}
use Rattle.vl_service.proofs.GoodEntries.{can_be_stored}
use Rattle.vl_service.proofs.given.own_fault.Goals as goal

pub returns-clause-sound : goal.returns-clause-sound
returns-clause-sound c =
    can_be_stored c.args.e.now (cc (c.is_name.ensures, c.as_slice.ensures)) (omega (arith, ap length c.as_slice-sites.ensures))
    (cc (c.lacks_server.ensures.words, c.as_slice-sites.ensures)) (cc (c.has_bad_partition.ensures, c.as_slice-sites.ensures))
    (cc (c.has_repeat.ensures, c.as_slice-sites.ensures)) (sym c.is_bad_entry.ensures ∙ c.if-is_bad_entry.false)
