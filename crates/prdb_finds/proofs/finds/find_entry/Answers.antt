use Rattle.std.proofs.Common.{refl, arith}
use Rattle.std.specs.Option.{option_map}
use Rattle.db_chains.specs.Ends.{HasSome}
use Rattle.db_chains.proofs.Results.{err_so, image_cause, of_image}
use Rattle.prdb_layout.specs.RecordEnds.{seen}
use Rattle.prdb_finds.specs.Sought.{IsRead, is_sought}
use Rattle.prdb_finds.proofs.Ended.{costs_free, empty_ended, ok_ended}
use Rattle.prdb_finds.proofs.Told.{err_first, err_whole, ok_first, ok_whole}
use Rattle.prdb_finds.proofs.finds.find_entry.Goals as goal

pub returns-then-len-eq0-clause-found : goal.returns-then-len-eq0-clause-found
returns-then-len-eq0-clause-found g c =
    ok_first c.walk_to.result c.args.d.now.bytes c.in_ok-first_draft.field-0.bytes c.len.result
    (λ found image. IsRead c.args.links (is_sought c.args.sought) c.args.at image (option_map seen found))
    (rw c.len.ensures.size c.len.ensures.told) c.if-len-eq0.true c.in_ok-first_draft.ensures.bytes c.walk_to.ensures.found

pub returns-then-len-eq0-clause-ended : goal.returns-then-len-eq0-clause-ended
returns-then-len-eq0-clause-ended g c =
    ok_ended c.walk_to.result _
    (empty_ended c.args.d.now.bytes c.len.result _ _ _ (rw c.len.ensures.size c.len.ensures.told) c.if-len-eq0.true)

pub returns-then-len-eq0-clause-bad : goal.returns-then-len-eq0-clause-bad
returns-then-len-eq0-clause-bad g c =
    err_so c.walk_to.result _ _ (err_first c.walk_to.result c.in_ok-first_draft.field-0.bytes (HasSome c.args.links c.args.at)
    c.in_ok-first_draft.ensures.bytes c.requires.first c.walk_to.ensures.fault) (of_image c.args.d.now.bytes _)

pub returns-then-len-eq0-clause-fault : goal.returns-then-len-eq0-clause-fault
returns-then-len-eq0-clause-fault g c =
    err_so c.walk_to.result _ _ (err_first c.walk_to.result c.in_ok-first_draft.field-0.bytes (HasSome c.args.links c.args.at)
    c.in_ok-first_draft.ensures.bytes c.requires.first c.walk_to.ensures.fault) (image_cause c.args.d.now.bytes _)

pub returns-then-len-eq0-clause-cost : goal.returns-then-len-eq0-clause-cost
returns-then-len-eq0-clause-cost g c = costs_free g.I.ImageRead c.args.d.now.bytes _ _ c.args.d.now c.args.d.now refl

pub returns-clause-found : goal.returns-clause-found
returns-clause-found g c =
    ok_whole c.walk_to-2.result c.args.d.now.bytes c.len.result
    (λ found image. IsRead c.args.links (is_sought c.args.sought) c.args.at image (option_map seen found))
    (rw c.len.ensures.size c.len.ensures.told) (omega arith) c.walk_to-2.ensures.found

pub returns-clause-fault : goal.returns-clause-fault
returns-clause-fault g c =
    err_whole c.walk_to-2.result c.args.d.now.bytes c.len.result (HasSome c.args.links c.args.at)
    (rw c.len.ensures.size c.len.ensures.told) (omega arith) c.walk_to-2.ensures.fault
