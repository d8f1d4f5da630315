-- An entry that is to be there: what is found of it, and why it is not.
use Rattle.std.proofs.Common.{◌≡◌, ℕ, ℤ, false, List, Option, Some, None, IfSome, IsSome, sym, ap, ◌∙◌}
use Rattle.std.specs.Option.{option_map}
use Rattle.db_image.specs.declared.faults.RecordFault.{RecordFault}
use Rattle.db_image.specs.declared.faults.RecordFault.TheVariants.{DiskFault, BadRecord, NoMemory}
use Rattle.prdb_layout.specs.RecordEnds.{seen}
use Rattle.prdb_layout.specs.Registry.{Registry}
use Rattle.prdb_layout.specs.State.{PrEntry}
use Rattle.prdb_layout.specs.declared.records.PrEntry.{PrEntry as CodeEntry}
use Rattle.prdb_lists.specs.Members.{Members}
use Rattle.pt_service.specs.Fitting.{entry_fits}
use Rattle.pt_service.proofs.Entries.{record_fits}
use Rattle.prdb_finds.specs.Ends.{HasCauseWhere}
use Rattle.prdb_finds.specs.Records.{Holds}
use Rattle.prdb_turns.proofs.Owned.{clash}

-- of each state that the bytes hold, what an id was found to have
abbrev pub Finds : Option (List ℕ) → (id : ℤ) → Option CodeEntry → Type 0
Finds bytes id found = IfSome bytes (λ image. (r : Registry) (m : Members) → Holds image r m → option_map seen found ≡ r.entry id)

pub found_one : (bytes : Option (List ℕ)) (id : ℤ) (found : Option CodeEntry) (e : CodeEntry) → found ≡ Some e → Finds bytes id found
    → IfSome bytes (λ image. (r : Registry) (m : Members) → Holds image r m → r.entry id ≡ Some (seen e))
found_one None id found e is finds = tt
found_one (Some image) id found e is finds = λ r m h. sym (finds r m h) ∙ ap (option_map seen) is

no_entry : (o : Option PrEntry) → None ≡ o → IsSome o → ⊥
no_entry None is there = cc
no_entry (Some e) is there = cc

pub gone_cause : (bytes : Option (List ℕ)) (id : ℤ) (found : Option CodeEntry) (at : ℕ) → found ≡ None → Finds bytes id found
    → HasCauseWhere (λ r m. IsSome (r.entry id)) bytes (BadRecord at)
gone_cause None id found at is finds = tt
gone_cause (Some image) id found at is finds = λ q.
    no_entry (q.0.entry id) (ap (option_map seen) (sym is) ∙ finds q.0 q.1 q.2) q.3

pub unfit_cause : (bytes : Option (List ℕ)) (id : ℤ) (found : Option CodeEntry) (e : CodeEntry) (at : ℕ) → found ≡ Some e
    → entry_fits (seen e) ≡ false → Finds bytes id found → HasCauseWhere (λ r m. IsSome (r.entry id)) bytes (BadRecord at)
unfit_cause None id found e at is bad finds = tt
unfit_cause (Some image) id found e at is bad finds = λ q.
    clash (entry_fits (seen e))
    (record_fits (seen e) (q.2.pairs.holds.valid.records id (seen e) (sym (finds q.0 q.1 q.2) ∙ ap (option_map seen) is))) bad

-- ---- causes

-- what is a cause where less is asked is one where more is
pub cause_where : (P Q : Registry → Members → Type 0) (bytes : Option (List ℕ)) (fault : RecordFault)
    → ((r : Registry) (m : Members) → Q r m → P r m) → HasCauseWhere P bytes fault → HasCauseWhere Q bytes fault
cause_where P Q bytes DiskFault so cause = tt
cause_where P Q bytes NoMemory so cause = tt
cause_where P Q None (BadRecord at) so cause = tt
cause_where P Q (Some image) (BadRecord at) so cause = λ q. cause (q.0, q.1, q.2, so q.0 q.1 q.3)
