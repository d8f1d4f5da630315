-- What is decided to come in may come in, and is put in so.
use Rattle.std.proofs.Common.{◌≡◌, ◌≢◌, ℕ, ℤ, Bool, true, false, not, ◌&&◌, ◌||◌, cond, eqb, List, Option, Some, None, IsSome, IfSome, refl, sym, ap, subst, ◌∙◌, ⊎_elim, inl, inr, arith}
use Rattle.std.specs.Prelude.{nat_lt, unwrap_or}
use Rattle.std.specs.List.{Contains, list_any}
use Rattle.std.specs.Option.{option_map}
use Rattle.std.specs.Str.{bytes_eq}
use Rattle.std.proofs.lemmas.Bool.{and_parts, cases_Bool, eqb-true, false_from_ne_true, not_from_false}
use Rattle.std.proofs.lemmas.List.Elements.{All-from_recursion, recursion_from_All}
use Rattle.std.proofs.lemmas.Slice.Eq.{bytes_eq-Decides}
use Rattle.db_image.specs.Ends.{end_of}
use Rattle.db_image.specs.declared.draft_services.CallEnd.{CallEnd}
use Rattle.db_image.specs.declared.faults.RecordFault.{RecordFault}
use Rattle.db_image.specs.declared.faults.RecordFault.TheVariants.{DiskFault, BadRecord, NoMemory}
use Rattle.db_blocks.proofs.Maps.{test_other}
use Rattle.vl_calls.specs.declared.answers.VlAnswer.TheVariants as answer
use Rattle.vl_calls.specs.declared.calls.GivenEntry.{GivenEntry}
use Rattle.vldb_records.specs.Ends.{HasCauseWhere, HasItsCause}
use Rattle.vldb_entries.specs.declared.entries.VlEntry.{VlEntry}
use Rattle.vldb_entries.specs.Location.{Location, IsLocation, IsRecord, MayBePlaces, MayEnter, has_id, placed, with_addresses, with_places}
use Rattle.vldb_records.specs.Changes.{after_set_places}
use Rattle.vldb_records.specs.Records.{Holds}
use Rattle.vldb_records.proofs.Held.{holds_places}
use Rattle.vl_service.specs.Entering.{IsDecided, IsThere, MayPut, MayStore, moved, other_has_name, other_shares_id, own_fault, shared_fault, stored}
use Rattle.vl_service.specs.Meaning.{Answers, Enter, Makes, Refuses, Verdict, entered, entered_unless, entries_from, entry_faults, entry_of_type, first_fault, is_other, is_volume_type, moment_left, of_entry, of_masked, operation_left, replaced, reply_by, shares_id, with_lock}
use Rattle.vl_service.specs.Refusals.{id_exists, name_exists}
use Rattle.vl_service.specs.Standing.{IsDone, image_by}
use Rattle.vl_service.specs.declared.deciding.Decision.TheVariants.{Enters, Refused}
use Rattle.vl_service.specs.declared.deciding.Places.{Places}
use Rattle.vl_service.proofs.Decided.{faults_are, or_else, size_fault}
use Rattle.vl_service.proofs.Entries.{some_meets}
use Rattle.vl_service.proofs.Found.{typed_there}
use Rattle.vl_service.proofs.LockDone.{masked_is}
use Rattle.vl_service.proofs.Placements.{are_places, may_be_places, places_same, sites_are_placed}

-- ---- no fault

pub both_none : (first later : Option ℕ) → or_else first later ≡ None → (first ≡ None) × (later ≡ None)
both_none None later is = (refl, is)
both_none (Some fault) later is = absurd cc

neither : (name id : Bool) → cond name (Some name_exists) (cond id (Some id_exists) None) ≡ None → (name ≡ false) × (id ≡ false)
neither true id is = absurd cc
neither false true is = absurd cc
neither false false is = (refl, refl)

-- what no entry meets, none of them does
pub none_of : (s : Location) (test : VlEntry → Bool) (rw_id : ℕ) (f : VlEntry) → IsLocation s
    → list_any test (entries_from 1 2147483647 s) ≡ false
    → s.entry rw_id ≡ Some f → test f ≡ false
none_of s test rw_id f valid none at =
    let r = valid.records rw_id f at in
    let same = valid.ids rw_id f at in
    false_from_ne_true (test f) (λ met.
    let some = some_meets s test 1 2147483647 rw_id f (omega (arith, r.rw_low, same)) (omega (arith, r.rw, same)) at met in absurd cc)

other_one : (s : Location) (own rw_id : ℕ) (f : VlEntry) → IsLocation s → s.entry rw_id ≡ Some f → rw_id ≢ own → is_other own f ≡ true
other_one s own rw_id f valid at other =
    not_from_false (eqb f.rw own) (test_other f.rw own (λ same. other (sym (valid.ids rw_id f at) ∙ same)))

second_fails : (a b : Bool) → (a && b) ≡ false → a ≡ true → b ≡ false
second_fails true b is met = is
second_fails false b is met = absurd cc

or_true : (b : Bool) → (b || true) ≡ true
or_true true = refl
or_true false = refl

one_of_three : (p q r x y z : Bool) → (p ≡ true → x ≡ true) → (q ≡ true → y ≡ true) → (r ≡ true → z ≡ true) → (p || q || r) ≡ true
    → (x || y || z) ≡ true
one_of_three true q r x y z f g h some = ap (λ (t : Bool). t || y || z) (f refl)
one_of_three false true r x y z f g h some = ap (λ (t : Bool). x || t || z) (g refl) ∙ ap (λ (t : Bool). t || z) (or_true x)
one_of_three false false true x y z f g h some = ap (λ (t : Bool). x || y || t) (h refl) ∙ or_true (x || y)
one_of_three false false false x y z f g h some = absurd cc

-- an entry that has an id of another one shares it
shares_it : (e : GivenEntry) (f : VlEntry) (id : ℕ) → (eqb e.rw id || eqb e.ro id || eqb e.backup id) ≡ true → has_id id f ≡ true
    → shares_id e f ≡ true
shares_it e f id some has =
    one_of_three (eqb e.rw id) (eqb e.ro id) (eqb e.backup id) (has_id e.rw f) (has_id e.ro f) (has_id e.backup f)
    (λ same. ap (λ (n : ℕ). has_id n f) (eqb-true e.rw id same) ∙ has) (λ same. ap (λ (n : ℕ). has_id n f) (eqb-true e.ro id same) ∙ has)
    (λ same. ap (λ (n : ℕ). has_id n f) (eqb-true e.backup id same) ∙ has) some

-- ---- an entry may come in

pub record CanEnter (s : Location) (own : ℕ) (x : VlEntry) (new : List ℕ) : Type 0 where
  pub places : MayBePlaces new s
  pub same : with_places new s ≡ with_addresses new s
  pub may : MayEnter own x (with_addresses new s)

pub can_enter : (s : Location) (own operation moment : ℕ) (e : GivenEntry) (new : List ℕ) → IsLocation s
    → first_fault (entry_faults s own e) ≡ None
    → placed e.sites s.addresses ≡ Some new → IsRecord (with_lock operation moment e) → CanEnter s own (with_lock operation moment e) new
can_enter s own operation moment e new valid fine places is =
    let first = both_none (own_fault e) (or_else (shared_fault s own e) (size_fault (placed e.sites s.addresses)))
    (sym (faults_are s own e) ∙ fine) in
    let second = both_none (shared_fault s own e) (size_fault (placed e.sites s.addresses)) first.1 in
    let none = neither (other_has_name s own e.name) (other_shares_id s own e) second.0 in
    let all = sites_are_placed e.sites s.addresses new (are_places s valid)
    (recursion_from_All _ e.sites (λ k d within. record { low = (is.sites k d within).low; word = (is.sites k d within).host })) places in
    record {
      places = may_be_places s new valid all.places all.keeps;
      same = places_same s new valid all.keeps;
      may = record {
        name = λ rw_id f at other same.
            let fails = second_fails (is_other own f) (bytes_eq f.name e.name)
            (none_of s (λ f. is_other own f && bytes_eq f.name e.name) rw_id f valid none.0 at) (other_one s own rw_id f valid at other) in
            let met = (bytes_eq-Decides f.name e.name).1 same in
            absurd cc;
        ids = λ rw_id id f at other has. false_from_ne_true (has_id id f) (λ has_f.
            let fails = second_fails (is_other own f) (shares_id e f)
            (none_of s (λ f. is_other own f && shares_id e f) rw_id f valid none.1 at) (other_one s own rw_id f valid at other) in
            let met = shares_it e f id (and_parts (not (eqb id 0)) (eqb e.rw id || eqb e.ro id || eqb e.backup id) has).1 has_f in
            absurd cc);
        hosts = All-from_recursion (λ site. Contains new site.host) e.sites all.among;
      };
    }

-- ---- what was put in

-- an image whose places have new addresses
pub holds_moved : (image : List ℕ) (s : Location) (p : Places) → Holds image s → p.old ≡ s.addresses → MayBePlaces p.new s
    → Holds (moved p image) (with_places p.new s)
holds_moved image s p holds old may =
    let made = after_set_places p.new image in
    ⊎_elim
    (λ (same : bytes_eq p.new p.old ≡ true).
    let new : p.new ≡ s.addresses = (bytes_eq-Decides p.new p.old).0 same ∙ old in
    let here : with_places s.addresses s ≡ s = places_same s s.addresses holds.valid (record { kept = λ k used. refl }) in
    subst (λ (i : List ℕ). Holds i (with_places p.new s)) (sym (ap (λ (b : Bool). cond b image made) same))
    (subst (λ (a : List ℕ). Holds image (with_places a s)) (sym new) (subst (Holds image) (sym here) holds)))
    (λ (other : bytes_eq p.new p.old ≡ false).
    subst (λ (i : List ℕ). Holds i (with_places p.new s)) (sym (ap (λ (b : Bool). cond b image made) other))
    (holds_places image s p.new holds may))
    (cases_Bool (bytes_eq p.new p.old))

pub cause_of_moved : (bytes mid : Option (List ℕ)) (own : ℕ) (e : VlEntry) (p : Places) (fault : RecordFault)
    → mid ≡ option_map (moved p) bytes
    → HasCauseWhere (MayStore own e) mid fault → HasCauseWhere (MayPut own e p) bytes fault
cause_of_moved bytes mid own e p DiskFault is cause = tt
cause_of_moved bytes mid own e p NoMemory is cause = tt
cause_of_moved None mid own e p (BadRecord at) is cause = tt
cause_of_moved (Some image) mid own e p (BadRecord at) is cause = λ some.
    let not_so = subst (λ (b : Option (List ℕ)). HasCauseWhere (MayStore own e) b (BadRecord at)) is cause in
    not_so (with_places p.new some.0, holds_moved image some.0 p some.1 some.2.0 some.2.1, some.2.2)

-- ---- a call that puts an entry in

entered_is : (s : Location) (own operation moment : ℕ) (e : GivenEntry) (p : Places) → IsDecided s own e (Enters p)
    → entered_unless (first_fault (entry_faults s own e)) (entered s own operation moment e) ≡ Makes answer.Done
    (Enter own (with_lock operation moment e) p.new)
entered_is s own operation moment e p is =
    ap (λ (o : Option ℕ). entered_unless o (entered s own operation moment e)) is.0
    ∙ ap (λ (a : List ℕ). Makes answer.Done (Enter own (with_lock operation moment e) (unwrap_or (placed e.sites a) s.addresses)))
    (sym is.1)
    ∙ ap (λ (o : Option (List ℕ)). Makes answer.Done (Enter own (with_lock operation moment e) (unwrap_or o s.addresses))) is.2

pub enter_done : (bytes mid after : Option (List ℕ)) (own operation moment : ℕ) (e : GivenEntry) (p : Places) (ended : CallEnd)
    → mid ≡ bytes
    → IfSome bytes (λ image. (s : Location) → Holds image s → IsDecided s own e (Enters p))
    → ended ≡ end_of (reply_by (Answers answer.Done))
    → after ≡ option_map (λ image. stored own (with_lock operation moment e) (moved p image)) mid
    → IfSome bytes (λ image. (s : Location) → Holds image s
    → IsDone (entered_unless (first_fault (entry_faults s own e)) (entered s own operation moment e)) s image ended after)
enter_done None mid after own operation moment e p ended same is told made = tt
enter_done (Some image) mid after own operation moment e p ended same is told made = λ s holds.
    let x = with_lock operation moment e in
    let d = is s holds in
    let v = entered_is s own operation moment e p d in
    record {
      reply = told ∙ ap (λ (w : Verdict). end_of (reply_by w)) (sym v);
      leaves = made ∙ ap (option_map (λ i. stored own x (moved p i))) same
          ∙ ap (λ (a : List ℕ). Some (stored own x (cond (bytes_eq p.new a) image (after_set_places p.new image)))) d.1
          ∙ ap (λ (w : Verdict). Some (image_by w s image)) (sym v);
    }

pub enter_refused : (bytes after : Option (List ℕ)) (own operation moment : ℕ) (e : GivenEntry) (fault : ℕ) (ended : CallEnd)
    → after ≡ bytes
    → IfSome bytes (λ image. (s : Location) → Holds image s → IsDecided s own e (Refused fault)) → ended ≡ end_of (reply_by (Refuses fault))
    → IfSome bytes (λ image. (s : Location) → Holds image s
    → IsDone (entered_unless (first_fault (entry_faults s own e)) (entered s own operation moment e)) s image ended after)
enter_refused None after own operation moment e fault ended same is told = tt
enter_refused (Some image) after own operation moment e fault ended same is told = λ s holds.
    let v = ap (λ (o : Option ℕ). entered_unless o (entered s own operation moment e)) (is s holds) in
    record {
      reply = told ∙ ap (λ (w : Verdict). end_of (reply_by w)) (sym v);
      leaves = same ∙ ap (λ (w : Verdict). Some (image_by w s image)) (sym v);
    }

pub cause_of_enter : (bytes mid : Option (List ℕ)) (own operation moment : ℕ) (e : GivenEntry) (p : Places) (fault : RecordFault)
    → mid ≡ bytes
    → IfSome bytes (λ image. (s : Location) → Holds image s → IsDecided s own e (Enters p)) → IsRecord (with_lock operation moment e)
    → HasCauseWhere (MayPut own (with_lock operation moment e) p) mid fault → HasCauseWhere (IsThere own) bytes fault
cause_of_enter bytes mid own operation moment e p DiskFault same is good cause = tt
cause_of_enter bytes mid own operation moment e p NoMemory same is good cause = tt
cause_of_enter None mid own operation moment e p (BadRecord at) same is good cause = tt
cause_of_enter (Some image) mid own operation moment e p (BadRecord at) same is good cause = λ some.
    let x = with_lock operation moment e in
    let s = some.0 in
    let d = is s some.1 in
    let can = can_enter s own operation moment e p.new some.1.valid d.0 (ap (placed e.sites) (sym d.1) ∙ d.2) good in
    let not_so = subst (λ (b : Option (List ℕ)). HasCauseWhere (MayPut own x p) b (BadRecord at)) same cause in
    not_so (s, some.1, (d.1, can.places, subst (MayStore own x) (sym can.same) (some.2, can.may)))

pub cause_of_made : (bytes : Option (List ℕ)) (fault : RecordFault) → HasCauseWhere (IsThere 0) bytes fault → HasItsCause bytes fault
cause_of_made bytes DiskFault cause = tt
cause_of_made bytes NoMemory cause = tt
cause_of_made None (BadRecord at) cause = tt
cause_of_made (Some image) (BadRecord at) cause = λ some. cause (some.0, some.1, inl refl)

-- ---- the same in place of an entry that a call names

pub replace_done : (bytes mid after : Option (List ℕ)) (volume_type : ℤ) (id mask operation moment : ℕ) (e : GivenEntry) (old : VlEntry)
    (ended : CallEnd)
    → is_volume_type volume_type ≡ true → nat_lt 3 mask ≡ false → operation ≡ operation_left mask old → moment ≡ moment_left mask old
    → IfSome bytes (λ image. (s : Location) → Holds image s → entry_of_type s volume_type id ≡ Some old) → mid ≡ bytes
    → IfSome mid (λ image. (s : Location) → Holds image s
    → IsDone (entered_unless (first_fault (entry_faults s old.rw e)) (entered s old.rw operation moment e)) s image ended after)
    → IfSome bytes (λ image. (s : Location) → Holds image s
    → IsDone (of_masked s volume_type id mask (replaced s e mask)) s image ended after)
replace_done None mid after volume_type id mask operation moment e old ended form less op_is moment_is found same done = tt
replace_done (Some image) mid after volume_type id mask operation moment e old ended form less op_is moment_is found same done = λ s holds.
    let here = subst (λ (o : Option (List ℕ)). IfSome o (λ image. (s : Location) → Holds image s
    → IsDone (entered_unless (first_fault (entry_faults s old.rw e)) (entered s old.rw operation moment e)) s image ended after)) same
    done in
    let v : of_masked s volume_type id mask (replaced s e mask) ≡ entered_unless (first_fault (entry_faults s old.rw e))
    (entered s old.rw operation moment e) =
    masked_is s volume_type id mask (replaced s e mask) true false form less
    ∙ ap (λ (o : Option VlEntry). of_entry o (replaced s e mask)) (found s holds)
    ∙ ap (λ (n : ℕ). entered_unless (first_fault (entry_faults s old.rw e)) (entered s old.rw n (moment_left mask old) e)) (sym op_is)
    ∙ ap (λ (n : ℕ). entered_unless (first_fault (entry_faults s old.rw e)) (entered s old.rw operation n e)) (sym moment_is) in
    subst (λ (w : Verdict). IsDone w s image ended after) (sym v) (here s holds)

pub cause_of_replace : (bytes mid : Option (List ℕ)) (volume_type : ℤ) (id : ℕ) (old : VlEntry) (fault : RecordFault) → mid ≡ bytes
    → IfSome bytes (λ image. (s : Location) → Holds image s → entry_of_type s volume_type id ≡ Some old)
    → HasCauseWhere (IsThere old.rw) mid fault
    → HasItsCause bytes fault
cause_of_replace bytes mid volume_type id old DiskFault same found cause = tt
cause_of_replace bytes mid volume_type id old NoMemory same found cause = tt
cause_of_replace None mid volume_type id old (BadRecord at) same found cause = tt
cause_of_replace (Some image) mid volume_type id old (BadRecord at) same found cause = λ some.
    let not_so = subst (λ (b : Option (List ℕ)). HasCauseWhere (IsThere old.rw) b (BadRecord at)) same cause in
    let there = typed_there some.0 volume_type id old some.1.valid (found some.0 some.1) in
    not_so (some.0, some.1, inr (subst (λ (o : Option VlEntry). IsSome o) (sym there) refl))
