use Rattle.std.proofs.Common.{◌≡◌, List, ℕ, Option, IfSome, Bool, false, Result, Ok, Err, IfOk}
use Rattle.db_blocks.proofs.Scanned.{looks_then}
use Rattle.db_image.specs.declared.faults.RecordFault.{RecordFault}
use Rattle.vl_calls.specs.declared.calls.GivenEntry.{GivenEntry}
use Rattle.vldb_entries.specs.Location.{Location}
use Rattle.vldb_records.specs.Records.{Holds}
use Rattle.vl_service.specs.Entering.{other_has_id, other_shares_id}
use Rattle.vl_service.proofs.Decided.{shares_first, shares_second, shares_third}
use Rattle.vl_service.proofs.others.other_shares_id.Goals as goal

third_ok : (r : Result Bool RecordFault) (bytes mid last : Option (List ℕ)) (own : ℕ) (e : GivenEntry) → mid ≡ bytes → last ≡ mid
    → IfSome bytes (λ image. (s : Location) → Holds image s → false ≡ other_has_id s own e.rw)
    → IfSome mid (λ image. (s : Location) → Holds image s → false ≡ other_has_id s own e.ro)
    → IfOk r (λ found. IfSome last (λ image. (s : Location) → Holds image s → found ≡ other_has_id s own e.backup))
    → IfOk r (λ found. IfSome bytes (λ image. (s : Location) → Holds image s → found ≡ other_shares_id s own e))
third_ok (Err fault) bytes mid last own e same again first second third = tt
third_ok (Ok found) bytes mid last own e same again first second third =
    shares_third bytes mid last own e found same again first second third

pub returns-then-branch-clause-found : goal.returns-then-branch-clause-found
returns-then-branch-clause-found g c =
    let found = c.in_ok-other_has_id.ensures.found in
    shares_first c.args.d.now.bytes c.args.own c.args.e.now (rw c.if-branch.true at found)

pub returns-then-branch-2-clause-found : goal.returns-then-branch-2-clause-found
returns-then-branch-2-clause-found g c =
    let first = c.in_ok-other_has_id.ensures.found in
    let second = c.in_ok-other_has_id-2.ensures.found in
    shares_second c.args.d.now.bytes c.other_has_id.new.d.bytes c.args.own c.args.e.now c.other_has_id.ensures.frame.same.bytes
    (rw c.if-branch.false at first)
    (rw c.if-branch-2.true at second)

pub returns-clause-found : goal.returns-clause-found
returns-clause-found g c =
    let first = c.in_ok-other_has_id.ensures.found in
    let second = c.in_ok-other_has_id-2.ensures.found in
    third_ok c.other_has_id-3.result c.args.d.now.bytes c.other_has_id.new.d.bytes c.other_has_id-2.new.d.bytes c.args.own c.args.e.now
    c.other_has_id.ensures.frame.same.bytes c.other_has_id-2.ensures.frame.same.bytes (rw c.if-branch.false at first)
    (rw c.if-branch-2.false at second)
    c.other_has_id-3.ensures.found

pub returns-clause-frame : goal.returns-clause-frame
returns-clause-frame g c =
    looks_then g.I.ImageRead c.args.d.now c.other_has_id.new.d c.other_has_id-3.new.d _ _ c.in_ok-other_has_id.ensures.frame
    (looks_then g.I.ImageRead c.other_has_id.new.d c.other_has_id-2.new.d c.other_has_id-3.new.d _ _ c.in_ok-other_has_id-2.ensures.frame
    c.other_has_id-3.ensures.frame)
