-- Entries of a draft that get another owner: what is left, and why it is not.
use Rattle.std.proofs.Common.{◌≡◌, ℕ, ℤ, pos, ◌<◌, List, [], ◌∷◌, ◌++◌, length, Option, Some, None, IfSome, IsSome, Result, Ok, Err, OnOk, IfErr, refl, sym, ap, subst, ◌∙◌}
use Rattle.std.specs.Prelude.{IsSomeAnd, ◌&&◌, int_lt}
use Rattle.std.specs.Option.{option_map}
use Rattle.std.specs.Ordering.{int_eq}
use Rattle.std.proofs.lemmas.Bool.{and_from, and_parts}
use Rattle.db_image.specs.declared.faults.RecordFault.{RecordFault}
use Rattle.db_image.specs.declared.faults.RecordFault.TheVariants.{DiskFault, BadRecord, NoMemory}
use Rattle.prdb_layout.specs.Registry.{MayReplace, Registry}
use Rattle.prdb_layout.specs.State.{PrEntry}
use Rattle.prdb_lists.specs.Members.{Members}
use Rattle.prdb_lists.proofs.Ascending.{lt_from, lt_to}
use Rattle.entry_scans.specs.Found.{IsMetAt}
use Rattle.entry_scans.specs.Lists.{IsListOf}
use Rattle.prdb_finds.specs.Ends.{HasCauseWhere}
use Rattle.prdb_finds.specs.Records.{Holds}
use Rattle.prdb_entries.specs.Changes.{after_replace}
use Rattle.prdb_members.specs.Owned.{AreInOrder}
use Rattle.prdb_turns.specs.Ends.{Leaves}
use Rattle.prdb_turns.specs.Owners.{AreItsOwn, IsOwnedUser, MayGive, after_gives, with_owner, with_owners}
use Rattle.prdb_turns.specs.Refits.{MayRefit, MayRefits, after_refit, after_refits}
use Rattle.prdb_turns.proofs.Found.{cause_where}
use Rattle.prdb_turns.proofs.Given.{gives_may}
use Rattle.prdb_turns.proofs.Owned.{id_of, to_id}
use Rattle.prdb_turns.proofs.Refits.{LeavesOne, refits_hold, some_at, some_met}

-- ---- one entry

-- of each state that the bytes hold, an id has this entry
abbrev pub IsThere : Option (List ℕ) → (id : ℤ) → PrEntry → Type 0
IsThere bytes id e = IfSome bytes (λ image. (r : Registry) (m : Members) → Holds image r m → r.entry id ≡ Some e)

pub one_ok : {T E : Type 0} (res : Result T E) (made : PrEntry → PrEntry) (bytes mid after : Option (List ℕ)) (id : ℤ) (e : PrEntry)
    → IsThere bytes id e → mid ≡ bytes → OnOk res (after ≡ option_map (after_replace id (made e)) mid)
    → OnOk res (LeavesOne made id bytes after)
one_ok (Err x) made bytes mid after id e found same is = tt
one_ok (Ok x) made None mid after id e found same is = tt
one_ok (Ok x) made (Some image) mid after id e found same is = λ r m h may.
    let at = found r m h in
    let own : e.id ≡ id = h.pairs.holds.valid.ids id e at in
    is ∙ ap (option_map (after_replace id (made e))) same ∙ ap (λ (z : ℤ). Some (after_replace z (made e) image)) (sym own)
    ∙ ap (λ (o : Option PrEntry). Some (after_refit made o image)) (sym at)

one_cause : (made : PrEntry → PrEntry) (bytes mid : Option (List ℕ)) (id : ℤ) (e : PrEntry) (fault : RecordFault) → IsThere bytes id e
    → mid ≡ bytes → HasCauseWhere (λ r m. MayReplace id (made e) r) mid fault
    → HasCauseWhere (λ r m. MayRefits made (id ∷ []) r) bytes fault
one_cause made bytes mid id e DiskFault found same cause = tt
one_cause made bytes mid id e NoMemory found same cause = tt
one_cause made None mid id e (BadRecord at) found same cause = tt
one_cause made (Some image) mid id e (BadRecord at) found same cause = λ q.
    let is = found q.0 q.1 q.2 in
    let own : e.id ≡ id = q.2.pairs.holds.valid.ids id e is in
    let may : MayRefit made q.0 e = subst (λ (o : Option PrEntry). IsSomeAnd o (MayRefit made q.0)) is q.3.0 in
    some_at mid image (λ i. ((r : Registry) × (m : Members) × Holds i r m × MayReplace id (made e) r) → ⊥) same cause
    (q.0, q.1, q.2, subst (λ (z : ℤ). MayReplace z (made e) q.0) own may.1)

pub one_err : {T : Type 0} (res : Result T RecordFault) (made : PrEntry → PrEntry) (bytes mid : Option (List ℕ)) (id : ℤ) (e : PrEntry)
    → IsThere bytes id e → mid ≡ bytes → IfErr res (HasCauseWhere (λ r m. MayReplace id (made e) r) mid)
    → IfErr res (HasCauseWhere (λ r m. MayRefits made (id ∷ []) r) bytes)
one_err (Ok x) made bytes mid id e found same cause = tt
one_err (Err fault) made bytes mid id e found same cause = one_cause made bytes mid id e fault found same cause

some_only : (o : Option PrEntry) (P : PrEntry → Type 0) → IsSomeAnd o P → IsSome o
some_only None P is = absurd is
some_only (Some e) P is = refl

pub there_cause : (made : PrEntry → PrEntry) (bytes : Option (List ℕ)) (id : ℤ) (fault : RecordFault)
    → HasCauseWhere (λ r m. IsSome (r.entry id)) bytes fault → HasCauseWhere (λ r m. MayRefits made (id ∷ []) r) bytes fault
there_cause made bytes id fault cause =
    cause_where (λ r m. IsSome (r.entry id)) (λ r m. MayRefits made (id ∷ []) r) bytes fault
    (λ r m may. some_only (r.entry id) (MayRefit made r) may.0) cause

-- ---- all of them

pub given_bytes : (bytes now : Option (List ℕ)) (owner : ℤ) (ids : List ℤ)
    → Leaves bytes (λ r m. MayRefits (with_owner owner) ids r) (after_refits (with_owner owner) ids) now
    → Leaves bytes (λ r m. MayGive ids owner r) (after_gives owner ids) now
given_bytes None now owner ids leaves = tt
given_bytes (Some image) now owner ids leaves = λ r m h may.
    leaves r m h (gives_may owner ids r (record { valid = h.pairs.holds.valid; may = may }))

pub given_holds : (bytes now : Option (List ℕ)) (owner : ℤ) (ids : List ℤ)
    → Leaves bytes (λ r m. MayGive ids owner r) (after_gives owner ids) now
    → IfSome bytes
    (λ image. (r : Registry) (m : Members) → Holds image r m → MayGive ids owner r
    → IsSomeAnd now (λ after. Holds after (with_owners owner ids r) m))
given_holds None now owner ids leaves = tt
given_holds (Some image) now owner ids leaves = λ r m h may.
    let each = gives_may owner ids r (record { valid = h.pairs.holds.valid; may = may }) in
    subst (λ (o : Option (List ℕ)). IsSomeAnd o (λ after. Holds after (with_owners owner ids r) m)) (sym (leaves r m h may))
    (refits_hold (with_owner owner) ids image r m h each)

pub given_cause : (bytes : Option (List ℕ)) (owner : ℤ) (ids : List ℤ) (fault : RecordFault)
    → HasCauseWhere (λ r m. MayRefits (with_owner owner) ids r) bytes fault → HasCauseWhere (λ r m. MayGive ids owner r) bytes fault
given_cause bytes owner ids DiskFault cause = tt
given_cause bytes owner ids NoMemory cause = tt
given_cause None owner ids (BadRecord at) cause = tt
given_cause (Some image) owner ids (BadRecord at) cause = λ q.
    cause (q.0, q.1, q.2, gives_may owner ids q.0 (record { valid = q.2.pairs.holds.valid; may = q.3 }))

-- ---- what an entry owns

met_users : (r : Registry) (m : Members) (image : List ℕ) (owner : ℤ) (users : List ℤ) → Holds image r m
    → IsListOf (IsMetAt (λ e. int_lt (pos 0) e.id && int_eq e.owner owner) r) users → IsListOf (IsOwnedUser r owner) users
met_users r m image owner users h list = record {
  ascending = list.ascending;
  each = λ id has.
      let met = list.each id has in
      let parts = and_parts (int_lt (pos 0) met.0.id) (int_eq met.0.owner owner) met.2 in
      let own : met.0.id ≡ id = h.pairs.holds.valid.ids id met.0 met.1 in (
        lt_from (pos 0) id (ap (int_lt (pos 0)) (sym own) ∙ parts.0),
        subst (λ (o : Option PrEntry). IsSomeAnd o (λ e. e.owner ≡ owner)) (sym met.1) (id_of met.0.owner owner parts.1),
      );
  all = λ id is.
      let e = some_met (r.entry id) (λ e. e.owner ≡ owner) is.1 in
      let own : e.0.id ≡ id = h.pairs.holds.valid.ids id e.0 e.1 in
      list.all id (
        e.0,
        e.1,
        and_from (int_lt (pos 0) e.0.id) (int_eq e.0.owner owner) (ap (int_lt (pos 0)) own ∙ lt_to (pos 0) id is.0)
            (to_id e.0.owner owner e.2),
      );
}

pub own_found : (bytes mid : Option (List ℕ)) (owner : ℤ) (groups users its : List ℤ) → mid ≡ bytes
    → IfSome bytes
    (λ image. (r : Registry) (m : Members) → Holds image r m → IsSome (r.entry owner) → 0 < length image → AreInOrder image owner groups)
    → IfSome mid
    (λ image. (r : Registry) (m : Members) → Holds image r m
    → IsListOf (IsMetAt (λ e. int_lt (pos 0) e.id && int_eq e.owner owner) r) users)
    → its ≡ groups ++ users
    → IfSome bytes
    (λ image. (r : Registry) (m : Members) → Holds image r m → IsSome (r.entry owner) → 0 < length image → AreItsOwn image r owner its)
own_found None mid owner groups users its same order list are = tt
own_found (Some image) mid owner groups users its same order list are = λ r m h there some.
    let met = some_at mid image (λ i. (q : Registry) (n : Members) → Holds i q n
    → IsListOf (IsMetAt (λ e. int_lt (pos 0) e.id && int_eq e.owner owner) q) users) same list r m h in
    (groups, users, order r m h there some, met_users r m image owner users h met, are)
