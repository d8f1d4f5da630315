-- What passes the tests of an entry is one that the database may hold, and nothing else is.
use Rattle.std.proofs.Common.{◌≡◌, ℕ, ℤ, pos, negsuc, ◌<◌, ◌≤◌, ◌^◌, Bool, true, false, ◌&&◌, ltb, List, length, Option, Some, None, refl, sym, ap, subst, ◌∙◌, arith}
use Rattle.std.specs.Prelude.{FitsSigned, IsSomeAnd}
use Rattle.std.specs.Int.{w32}
use Rattle.std.specs.Option.{option_map}
use Rattle.std.proofs.lemmas.Bool.{and_from, and_parts, lt-ltb, ltb-true}
use Rattle.std.proofs.lemmas.Int.{ints}
use Rattle.db_image.specs.declared.faults.RecordFault.{RecordFault}
use Rattle.db_image.specs.declared.faults.RecordFault.TheVariants as fault
use Rattle.prdb_layout.specs.RecordEnds.{seen}
use Rattle.prdb_layout.specs.Registry.{IsNamed, IsRecord, is_name_for}
use Rattle.prdb_layout.specs.State.{PrEntry, IsId}
use Rattle.prdb_layout.specs.declared.records.PrEntry.{PrEntry as CodeEntry}
use Rattle.prdb_layout.proofs.UserNames.{HasForm, form}
use Rattle.prdb_finds.specs.Ends.{HasItsCause}
use Rattle.pt_service.specs.Fitting.{entry_fits}
use Rattle.pt_service.specs.Names.{is_name_of}
use Rattle.pt_service.specs.State.{is_group, is_id}
use Rattle.pt_service.specs.Told.{Told}
use Rattle.pt_service.proofs.GroupNames.{group_form}

fits_by : (id : ℤ) (name : List ℕ) → IsId id → is_name_for id name ≡ true → (is_id (is_group id) id && is_name_of (is_group id) name) ≡ true
fits_by (pos n) name id is = and_from (ltb 0 n) (is_name_of false name) (lt-ltb 0 n id.0) is
fits_by (negsuc n) name id is = and_from (ltb n 2147483647) (is_name_of true name) (lt-ltb n 2147483647 id) is

pub record_fits : (e : PrEntry) → IsRecord e → entry_fits e ≡ true
record_fits e is = fits_by e.id e.name is.fields.id is.name

-- what a name of its form has, and an id
pub record IsFitting (id : ℤ) (name : List ℕ) : Type 0 where
  pub id_is : IsId id
  pub name_is : is_name_for id name ≡ true
  pub form_is : HasForm name

pub fitting_by : (id : ℤ) (name : List ℕ) → FitsSigned w32 id → is_id (is_group id) id ≡ true → is_name_of (is_group id) name ≡ true
    → IsFitting id name
fitting_by (pos n) name fits id is = record { id_is = (ltb-true 0 n id, omega (arith, ints, fits)); name_is = is; form_is = form name is }
fitting_by (negsuc n) name fits id is = record { id_is = ltb-true n 2147483647 id; name_is = is; form_is = group_form name is }

-- the numbers of an entry in code have the bits of their fields
pub record_of : (e : PrEntry) → e.flags < 2 ^ 32 → FitsSigned w32 e.id → FitsSigned w32 e.owner → FitsSigned w32 e.creator
    → FitsSigned w32 e.quota
    → is_id (is_group e.id) e.id ≡ true → is_name_of (is_group e.id) e.name ≡ true → IsRecord e
record_of e flags id owner creator quota is_id is_name =
    let f = fitting_by e.id e.name id is_id is_name in
    record {
      fields = record {
        name_bytes = f.form_is.bytes;
        name_len = f.form_is.len;
        name_text = f.form_is.text;
        flags = flags;
        id = f.id_is;
        owner = owner;
        creator = creator;
        quota = quota;
      };
      name = f.name_is;
    }

pub record_is : (e : PrEntry) → e.flags < 2 ^ 32 → FitsSigned w32 e.id → FitsSigned w32 e.owner → FitsSigned w32 e.creator
    → FitsSigned w32 e.quota
    → entry_fits e ≡ true → IsRecord e
record_is e flags id owner creator quota fits =
    let p = and_parts (is_id (is_group e.id) e.id) (is_name_of (is_group e.id) e.name) fits in
    record_of e flags id owner creator quota p.0 p.1

-- a name that fits has at most 63 bytes
name_by : (id : ℤ) (name : List ℕ) → is_name_of (is_group id) name ≡ true → length name ≤ 63
name_by (pos n) name is = (form name is).len
name_by (negsuc n) name is = (group_form name is).len

pub name_len : (e : PrEntry) → entry_fits e ≡ true → length e.name ≤ 63
name_len e fits = name_by e.id e.name (and_parts (is_id (is_group e.id) e.id) (is_name_of (is_group e.id) e.name) fits).1

-- ---- faults

both : (b : Bool) → b ≡ true → b ≡ false → ⊥
both true is not = absurd cc
both false is not = absurd cc

-- an entry that no database may hold is in none
unfit : (bytes : Option (List ℕ)) (found : Option CodeEntry) (at : ℕ) → IsSomeAnd found (λ e. entry_fits (seen e) ≡ false)
    → Told bytes (λ r. (e : CodeEntry) → found ≡ Some e → (id : ℤ) × (r.entry id ≡ Some (seen e)))
    → HasItsCause bytes (fault.BadRecord at)
unfit None found at bad there = tt
unfit (Some image) None at bad there = absurd bad
unfit (Some image) (Some e) at bad there = λ h.
    let t = there h.0 h.1 h.2 e refl in
    both (entry_fits (seen e)) (record_fits (seen e) (h.2.pairs.holds.valid.records t.0 (seen e) t.1)) bad

told_id : (bytes : Option (List ℕ)) (found : Option CodeEntry) (id : ℤ)
    → Told bytes (λ r. option_map seen found ≡ r.entry id)
    → Told bytes (λ r. (e : CodeEntry) → found ≡ Some e → (id : ℤ) × (r.entry id ≡ Some (seen e)))
told_id None found id there = tt
told_id (Some image) found id there = λ r m holds e is. (id, sym (there r m holds) ∙ ap (option_map seen) is)

pub unfit_id : (bytes : Option (List ℕ)) (found : Option CodeEntry) (id : ℤ) (at : ℕ) (f : RecordFault) → f ≡ fault.BadRecord at
    → IsSomeAnd found (λ e. entry_fits (seen e) ≡ false)
    → Told bytes (λ r. option_map seen found ≡ r.entry id)
    → HasItsCause bytes f
unfit_id bytes found id at f is bad there = subst (HasItsCause bytes) (sym is) (unfit bytes found at bad (told_id bytes found id there))

told_name : (bytes : Option (List ℕ)) (found : Option CodeEntry) (name : List ℕ)
    → Told bytes (λ r. IsNamed r name (option_map seen found))
    → Told bytes (λ r. (e : CodeEntry) → found ≡ Some e → (id : ℤ) × (r.entry id ≡ Some (seen e)))
told_name None found name there = tt
told_name (Some image) found name there = λ r m holds e is.
    (e.id, (subst (λ (o : Option CodeEntry). IsNamed r name (option_map seen o)) is (there r m holds)).0)

pub unfit_name : (bytes : Option (List ℕ)) (found : Option CodeEntry) (name : List ℕ) (at : ℕ) (f : RecordFault) → f ≡ fault.BadRecord at
    → IsSomeAnd found (λ e. entry_fits (seen e) ≡ false)
    → Told bytes (λ r. IsNamed r name (option_map seen found)) → HasItsCause bytes f
unfit_name bytes found name at f is bad there =
    subst (HasItsCause bytes) (sym is) (unfit bytes found at bad (told_name bytes found name there))
