-- The groups that an id owns, as a walk along their chain or a pass over the blocks tells them.
use Rattle.std.proofs.Common.{◌≡◌, ℕ, ℤ, pos, Bool, true, false, not, ◌&&◌, List, Option, Some, None, IsSome, Result, Ok, Err, IfOk, refl, ap, ◌∙◌}
use Rattle.std.specs.Prelude.{is_none}
use Rattle.std.specs.Option.{option_map}
use Rattle.std.specs.Ordering.{int_eq}
use Rattle.db_image.specs.declared.faults.RecordFault.{RecordFault}
use Rattle.prdb_layout.specs.Registry.{IsRegistry, Registry}
use Rattle.prdb_layout.specs.State.{PrEntry}
use Rattle.entry_scans.specs.Found.{IsMetAt}
use Rattle.entry_scans.specs.Lists.{IsListOf as IsScanOf, IsListOf}
use Rattle.prdb_lists.specs.Members.{IsOwned}
use Rattle.prdb_finds.specs.Owned.{AreOwned as AreWalked}
use Rattle.pt_service.specs.Meaning.{is_owned_by}
use Rattle.pt_service.specs.Told.{Told}
use Rattle.pt_looks.specs.Owned.{AreOwned, is_no_owner}
use Rattle.pt_looks.specs.States.{OfStates}
use Rattle.pt_looks.proofs.Pairs.{met_owned, owned_met}
use Rattle.pt_looks.proofs.States.{of_map, told_so}

-- ---- those of an entry

some_not_none : (o : Option PrEntry) → IsSome o → is_none o ≡ false
some_not_none None there = absurd cc
some_not_none (Some e) there = refl

owner_by : (r : Registry) (id : ℤ) (b : Bool) → int_eq id (pos 0) ≡ false → is_none (r.entry id) ≡ b → is_no_owner r id ≡ b
owner_by r id b other is = ap (λ (t : Bool). not t && is_none (r.entry id)) other ∙ is

walked_so : (r : Registry) (id : ℤ) (o : Option (List ℤ)) → int_eq id (pos 0) ≡ false → AreWalked r id o → AreOwned r id o
walked_so r id None other is = owner_by r id true other (ap is_none is)
walked_so r id (Some ids) other is = (owner_by r id false other (some_not_none (r.entry id) is.0), is.1)

walked : (bytes : Option (List ℕ)) (id : ℤ) (o : Option (List ℤ)) → int_eq id (pos 0) ≡ false → Told bytes (λ r. AreWalked r id o)
    → OfStates bytes (λ s. AreOwned s.registry id o)
walked bytes id o other told =
    of_map bytes (λ s. AreWalked s.registry id o) (λ s. AreOwned s.registry id o)
    (λ image s holds is. walked_so s.registry id o other is)
    (told_so bytes (λ r. AreWalked r id o) told)

pub walked_ok : {X : Type 0} (res : Result (Option X) RecordFault) (items : X → List ℤ) (bytes : Option (List ℕ)) (id : ℤ)
    → int_eq id (pos 0) ≡ false → IfOk res (λ found. Told bytes (λ r. AreWalked r id (option_map items found)))
    → IfOk res (λ found. OfStates bytes (λ s. AreOwned s.registry id (option_map items found)))
walked_ok (Err fault) items bytes id other told = tt
walked_ok (Ok found) items bytes id other told = walked bytes id (option_map items found) other told

-- ---- those without owner

passed_so : (r : Registry) (ids : List ℤ) → IsRegistry r → IsScanOf (IsMetAt (is_owned_by (pos 0)) r) ids → IsListOf (IsOwned r (pos 0)) ids
passed_so r ids valid list = record {
  ascending = list.ascending;
  each = λ x has. owned_met r (pos 0) x valid (list.each x has);
  all = λ x is. list.all x (met_owned r (pos 0) x valid is);
}

pub unowned : (bytes : Option (List ℕ)) (ids : List ℤ) → Told bytes (λ r. IsScanOf (IsMetAt (is_owned_by (pos 0)) r) ids)
    → OfStates bytes (λ s. AreOwned s.registry (pos 0) (Some ids))
unowned bytes ids told =
    of_map bytes (λ s. IsScanOf (IsMetAt (is_owned_by (pos 0)) s.registry) ids) (λ s. AreOwned s.registry (pos 0) (Some ids))
    (λ image s holds is. (refl, passed_so s.registry ids holds.pairs.holds.valid is))
    (told_so bytes (λ r. IsScanOf (IsMetAt (is_owned_by (pos 0)) r) ids) told)
