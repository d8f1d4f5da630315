-- An entry of a draft that gets other text before the `:` of its name: why it does not.
use Rattle.std.proofs.Common.{◌≡◌, ℕ, ℤ, false, List, [], ◌∷◌, Option, Some, None, subst}
use Rattle.std.specs.Prelude.{IsSomeAnd}
use Rattle.db_image.specs.declared.faults.RecordFault.TheVariants.{BadRecord}
use Rattle.prdb_layout.specs.State.{PrEntry}
use Rattle.pt_service.specs.Fitting.{entry_fits}
use Rattle.pt_service.proofs.Entries.{record_fits}
use Rattle.prdb_finds.specs.Ends.{HasCauseWhere}
use Rattle.prdb_turns.specs.Refits.{MayRefit, MayRefits}
use Rattle.prdb_turns.proofs.Giving.{IsThere}
use Rattle.prdb_turns.proofs.Owned.{clash}

-- an entry whose fields no database may hold stands in none
pub bad_name : (made : PrEntry → PrEntry) (bytes : Option (List ℕ)) (id : ℤ) (e : PrEntry) (at : ℕ) → IsThere bytes id e
    → entry_fits (made e) ≡ false → HasCauseWhere (λ r m. MayRefits made (id ∷ []) r) bytes (BadRecord at)
bad_name made None id e at found bad = tt
bad_name made (Some image) id e at found bad = λ q.
    let may : MayRefit made q.0 e = subst (λ (o : Option PrEntry). IsSomeAnd o (MayRefit made q.0)) (found q.0 q.1 q.2) q.3.0 in
    clash (entry_fits (made e)) (record_fits (made e) may.0) bad
