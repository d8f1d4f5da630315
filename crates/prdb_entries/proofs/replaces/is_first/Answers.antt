use Rattle.std.proofs.Common.{ap, sym, ◌∙◌, Err, Option, arith}
use Rattle.std.specs.Option.{option_map}
use Rattle.std.specs.Int.{w32}
use Rattle.std.proofs.lemmas.Int.{to_z-of_z}
use Rattle.std.proofs.lemmas.Result.{err_from_is_err_and}
use Rattle.db_image.specs.declared.faults.RecordFault.{RecordFault}
use Rattle.prdb_layout.specs.RecordEnds.{seen}
use Rattle.prdb_layout.specs.State.{PrEntry}
use Rattle.prdb_finds.specs.Ends.{HoldsSome}
use Rattle.prdb_finds.proofs.FirstHolds.{first_some}
use Rattle.prdb_finds.proofs.Told.{of_first}
use Rattle.prdb_entries.specs.Changes.{is_this}
use Rattle.prdb_entries.proofs.Empty.{first_found, only_memory}
use Rattle.prdb_entries.proofs.replaces.is_first.Goals as goal

pub returns-in_err-found-clause-fault : goal.returns-in_err-found-clause-fault
returns-in_err-found-clause-fault c =
    let p = err_from_is_err_and c.from_residual-in_err-found.result c.from_residual-in_err-found.ensures.1 in
    rw (p.1, p.2) (only_memory c.in_err-found.field-0.0
    (of_first c.in_ok-first_draft.field-0.bytes HoldsSome c.in_err-found.field-0.0 c.in_ok-first_draft.ensures.bytes first_some c.in_err-found.ensures.fault)
    (λ disk. omega (arith, c.in_err-found.ensures.frame.reads.cause (ap (λ (y : RecordFault). Err y) disk))))

pub returns-in_default-clause-value : goal.returns-in_default-clause-value
returns-in_default-clause-value c =
    let e = seen c.args.e.now in
    let found = rw (to_z-of_z w32 c.args.id c.ranges.id) at c.in_ok-found.ensures.found in
    ap (λ (o : Option PrEntry). is_this o e) (sym (ap (option_map seen) c.in_default.is))
    ∙ first_found c.in_ok-first_draft.field-0.bytes (option_map seen c.in_ok-found.field-0) c.args.id e
    c.in_ok-first_draft.ensures.bytes found

pub returns-clause-value : goal.returns-clause-value
returns-clause-value c =
    let e = seen c.args.e.now in
    let found = rw (to_z-of_z w32 c.args.id c.ranges.id) at c.in_ok-found.ensures.found in
    c.is_same.ensures ∙ ap (λ (o : Option PrEntry). is_this o e) (sym (ap (option_map seen) c.in-Some.is))
    ∙ first_found c.in_ok-first_draft.field-0.bytes (option_map seen c.in_ok-found.field-0) c.args.id e
    c.in_ok-first_draft.ensures.bytes found
