use Rattle.std.proofs.Common.{arith}
use Rattle.std.specs.Prelude.{FitsSigned}
use Rattle.std.specs.Int.{w32}
use Rattle.std.proofs.lemmas.Int.{ints, to_z-of_z}
use Rattle.prdb_layout.specs.RecordEnds.{seen}
use Rattle.prdb_layout.specs.Registry.{MayBeAdded, with_entry}
use Rattle.prdb_layout.proofs.Becoming.{ok_then}
use Rattle.prdb_finds.specs.Changes.{after_set_maxima}
use Rattle.prdb_entries.specs.Changes.{after_insert}
use Rattle.pt_service.proofs.Causes.{cause_then_err}
use Rattle.pt_service.proofs.entering.enter.Goals as goal

pub returns-clause-bytes : goal.returns-clause-bytes
returns-clause-bytes g c =
    let maxima = c.requires.maxima in
    let user : FitsSigned w32 c.args.maxima.0 = record { sfits = omega (arith, ints, maxima.user_low, maxima.user_high) } in
    let group : FitsSigned w32 c.args.maxima.1 = record { sfits = omega (arith, ints, maxima.group_low, maxima.group_high) } in
    let set = c.set_maxima.ensures.bytes in
    ok_then c.set_maxima.result (after_insert (seen c.args.e.now)) (after_set_maxima c.args.maxima.0 c.args.maxima.1)
    c.args.d.now.bytes c.insert.new.d.bytes c.set_maxima.new.d.bytes c.in_ok-insert.ensures.bytes (simp (to_z-of_z, user, group) at set)

pub returns-clause-fault : goal.returns-clause-fault
returns-clause-fault g c =
    cause_then_err c.set_maxima.result (λ r m. MayBeAdded (seen c.args.e.now) r) (with_entry (seen c.args.e.now)) c.args.d.now.bytes
    c.insert.new.d.bytes c.in_ok-insert.ensures.holds c.set_maxima.ensures.fault
