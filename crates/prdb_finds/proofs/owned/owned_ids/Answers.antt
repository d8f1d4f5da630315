use Rattle.std.proofs.Common.{refl}
use Rattle.std.specs.Int.{w32}
use Rattle.std.specs.Option.{option_map}
use Rattle.std.proofs.lemmas.Int.{to_z-of_z}
use Rattle.db_chains.proofs.Results.{err_so, image_cause, of_image}
use Rattle.prdb_finds.specs.Ends.{HoldsSome}
use Rattle.prdb_finds.specs.Owned.{AreOwned, AreWalked}
use Rattle.prdb_finds.proofs.Ended.{empty_ended, ok_ended}
use Rattle.prdb_finds.proofs.FirstHolds.{first_some}
use Rattle.prdb_finds.proofs.OwnedLists.{costs_none, empty_owned, empty_walked, first_told, ok_walked}
use Rattle.prdb_finds.proofs.Told.{err_first}
use Rattle.prdb_finds.proofs.owned.owned_ids.Goals as goal

pub returns-then-len-eq0-clause-found : goal.returns-then-len-eq0-clause-found
returns-then-len-eq0-clause-found g c =
    empty_owned (λ r found. AreOwned r c.args.owner (option_map (λ ids. ids.items) found)) c.owned_in.result c.args.d.now.bytes
    c.in_ok-first_draft.field-0.bytes c.len.result (rw c.len.ensures.size c.len.ensures.told) c.if-len-eq0.true
    c.in_ok-first_draft.ensures.bytes (rw (to_z-of_z w32 c.args.owner c.ranges.owner) at c.owned_in.ensures.found)

pub returns-then-len-eq0-clause-walked : goal.returns-then-len-eq0-clause-walked
returns-then-len-eq0-clause-walked g c =
    empty_walked _ c.owned_in.result c.args.d.now.bytes c.len.result (rw c.len.ensures.size c.len.ensures.told) c.if-len-eq0.true

pub returns-then-len-eq0-clause-ended : goal.returns-then-len-eq0-clause-ended
returns-then-len-eq0-clause-ended g c =
    ok_ended c.owned_in.result _
    (empty_ended c.args.d.now.bytes c.len.result _ _ _ (rw c.len.ensures.size c.len.ensures.told) c.if-len-eq0.true)

pub returns-then-len-eq0-clause-bad : goal.returns-then-len-eq0-clause-bad
returns-then-len-eq0-clause-bad g c =
    err_so c.owned_in.result _ _ (err_first c.owned_in.result c.in_ok-first_draft.field-0.bytes HoldsSome
    c.in_ok-first_draft.ensures.bytes first_some c.owned_in.ensures.fault) (of_image c.args.d.now.bytes _)

pub returns-then-len-eq0-clause-fault : goal.returns-then-len-eq0-clause-fault
returns-then-len-eq0-clause-fault g c =
    err_so c.owned_in.result _ _ (err_first c.owned_in.result c.in_ok-first_draft.field-0.bytes HoldsSome
    c.in_ok-first_draft.ensures.bytes first_some c.owned_in.ensures.fault) (image_cause c.args.d.now.bytes _)

pub returns-then-len-eq0-clause-cost : goal.returns-then-len-eq0-clause-cost
returns-then-len-eq0-clause-cost g c = costs_none g.I.ImageRead c.args.d.now.bytes c.args.owner c.args.d.now c.args.d.now refl

pub returns-clause-walked : goal.returns-clause-walked
returns-clause-walked g c =
    ok_walked (λ ids. AreWalked c.args.owner ids.items) c.owned_in-2.result c.args.d.now.bytes
    (rw (to_z-of_z w32 c.args.owner c.ranges.owner) at c.owned_in-2.ensures.walked)

pub returns-clause-found : goal.returns-clause-found
returns-clause-found g c = rw (to_z-of_z w32 c.args.owner c.ranges.owner) at c.owned_in-2.ensures.found

pub returns-clause-ended : goal.returns-clause-ended
returns-clause-ended g c = rw (to_z-of_z w32 c.args.owner c.ranges.owner) at c.owned_in-2.ensures.ended

pub owned_in-requires-clause-told : goal.owned_in-requires-clause-told
owned_in-requires-clause-told g c =
    first_told c.in_ok-first_draft.field-0.bytes c.in_ok-first_draft.field-0.len c.in_ok-first_draft.ensures.bytes
    c.in_ok-first_draft.ensures.len
