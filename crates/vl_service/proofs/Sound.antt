-- What is decided of a call in a state can be made there.
use Rattle.std.proofs.Common.{◌≡◌, ℕ, ℤ, ◌+◌, ◌<◌, ◌≤◌, ◌^◌, Bool, true, false, not, ◌&&◌, ◌||◌, cond, eqb, ltb, List, [], ◌∷◌, length, Option, Some, None, IsSome, refl, sym, ap, subst, ◌∙◌, inl, inr, arith}
use Rattle.std.specs.Prelude.{bit_and, nat_lt, unwrap_or}
use Rattle.std.specs.List.{AllByRecursion, list_all, list_any}
use Rattle.std.proofs.lemmas.Bool.{and_parts, ltb-false, ltb-true, le-ltb, or_parts}
use Rattle.call_grammar.specs.Laws.{IsBytes}
use Rattle.call_grammar.proofs.Fitting.{bytes_low}
use Rattle.vl_calls.specs.declared.answers.VlAnswer.TheVariants as answer
use Rattle.vl_calls.specs.declared.calls.GivenEntry.{GivenEntry}
use Rattle.vl_calls.specs.declared.calls.VlCall.{VlCall}
use Rattle.vl_calls.specs.declared.calls.VlCall.TheVariants as call
use Rattle.vl_calls.specs.Calls.{HasItsBits}
use Rattle.vl_calls.specs.Entries.{GivenHasItsBits, SiteHasItsBits}
use Rattle.vl_calls.specs.Reading.{call_of}
use Rattle.vl_calls.proofs.Taken.{read_alone}
use Rattle.vldb_entries.specs.declared.entries.VlEntry.{VlEntry}
use Rattle.vldb_entries.specs.declared.entries.VlSite.{VlSite}
use Rattle.vldb_entries.specs.Location.{Location, IsLocation, IsRecord, has_repeat, is_name, placed}
use Rattle.vl_service.specs.Entering.{CanBeStored, IsThere, own_fault, shared_fault}
use Rattle.vl_service.specs.Meaning.{Answers, Enter, Makes, Move, NextVolume, NoCall, Refuses, Verdict, address_changed, asked, entered, entered_unless, entries, entry_faults, entry_of_type, first_fault, has_address, has_site_at, is_bad_entry, is_operation, is_volume_type, leaves, lock_released, lock_set, locked_by, max_id, moment_left, named_verdict, new_volume_id, of_entry, of_id, of_masked, operation_left, page, replaced, told, verdict, with_lock}
use Rattle.vl_service.specs.Refusals as rule
use Rattle.vl_service.proofs.Decided.{faults_are, or_else, size_fault}
use Rattle.vl_service.proofs.Entered.{both_none, can_enter}
use Rattle.vl_service.proofs.Found.{typed_there}
use Rattle.vl_service.proofs.GoodEntries.{can_be_stored, lacks_word}
use Rattle.vl_service.proofs.LockDone.{may_lock}
use Rattle.vl_service.proofs.Made.{CanMake, CanPut}
use Rattle.vl_service.proofs.Movable.{can_move}
use Rattle.vl_service.proofs.Placements.{are_places, may_be_places, places_same}

abbrev pub IsSound : Location → Verdict → Type 0
IsSound s NoCall = Unit {0}
IsSound s (Refuses fault) = Unit {0}
IsSound s (Answers a) = Unit {0}
IsSound s (Makes a change) = CanMake s change

either : (s : Location) (b : Bool) (v w : Verdict) → (b ≡ true → IsSound s v) → (b ≡ false → IsSound s w) → IsSound s (cond b v w)
either s true v w here there = here refl
either s false v w here there = there refl

of_one : (s : Location) (o : Option VlEntry) (goes : VlEntry → Verdict) → ((e : VlEntry) → o ≡ Some e → IsSound s (goes e))
    → IsSound s (of_entry o goes)
of_one s None goes so = tt
of_one s (Some e) goes so = so e refl

is_not : (b : Bool) → not b ≡ false → b ≡ true
is_not true none = refl
is_not false none = absurd cc

-- ---- an entry that a call gives

pass : (b : Bool) (n : ℕ) (rest : Option ℕ) → cond b (Some n) rest ≡ None → (b ≡ false) × (rest ≡ None)
pass true n rest is = absurd cc
pass false n rest is = (refl, is)

words_are : (sites : List VlSite) → list_any (λ site. eqb site.host 0) sites ≡ false → AllByRecursion SiteHasItsBits sites
    → list_any lacks_word sites ≡ false
words_are [] none bits = refl
words_are (site ∷ sites) none bits =
    let p = or_parts (eqb site.host 0) (list_any (λ x. eqb x.host 0) sites) none in
    let bound = bits.0.0 in
    ap (λ (b : Bool). (b || ltb 4294967295 site.host) || list_any lacks_word sites) p.0
    ∙ ap (λ (b : Bool). b || list_any lacks_word sites) (le-ltb 4294967295 site.host (omega (arith, bound)))
    ∙ words_are sites p.1 bits.1

good_of : (e : GivenEntry) → own_fault e ≡ None → AllByRecursion SiteHasItsBits e.sites → CanBeStored e
good_of e fine bits =
    let a = pass (not (is_name e.name)) rule.bad_name _ fine in
    let b = pass (nat_lt 13 (length e.sites)) rule.replicas_full _ a.1 in
    let c = pass (eqb (length e.sites) 0) rule.no_replica _ b.1 in
    let d = pass (list_any (λ site. eqb site.host 0) e.sites) rule.bad_server _ c.1 in
    let f = pass (list_any (λ site. nat_lt 255 site.partition) e.sites) rule.bad_partition _ d.1 in
    let g = pass (has_repeat e.sites) rule.repeated_replica _ f.1 in
    let h = pass (is_bad_entry e) rule.bad_entry None g.1 in
    can_be_stored e (is_not (is_name e.name) a.0) (ltb-false 13 (length e.sites) b.0) (words_are e.sites d.0 bits) f.0 g.0 h.0

site_bits : (e : GivenEntry) → GivenHasItsBits e → AllByRecursion SiteHasItsBits e.sites
unfolding GivenHasItsBits
site_bits e bits = bits.1.1.1.1.1.1.0

placed_sound : (s : Location) (own operation moment : ℕ) (e : GivenEntry) (o : Option (List ℕ)) → IsLocation s → CanBeStored e
    → operation < 2 ^ 32 → moment < 2 ^ 32
    → IsThere own s → first_fault (entry_faults s own e) ≡ None → placed e.sites s.addresses ≡ o → size_fault o ≡ None
    → CanMake s (Enter own (with_lock operation moment e) (unwrap_or o s.addresses))
placed_sound s own operation moment e None valid good op_low moment_low there fine is fits = absurd cc
placed_sound s own operation moment e (Some new) valid good op_low moment_low there fine is fits =
    let record_is = good operation moment op_low moment_low in
    record { good = record_is; there = there; enter = can_enter s own operation moment e new valid fine is record_is }

put_sound : (s : Location) (own operation moment : ℕ) (e : GivenEntry) (o : Option ℕ) → IsLocation s → GivenHasItsBits e
    → operation < 2 ^ 32 → moment < 2 ^ 32
    → IsThere own s → first_fault (entry_faults s own e) ≡ o → IsSound s (entered_unless o (entered s own operation moment e))
put_sound s own operation moment e (Some fault) valid bits op_low moment_low there is = tt
put_sound s own operation moment e None valid bits op_low moment_low there is =
    let first = both_none (own_fault e) (or_else (shared_fault s own e) (size_fault (placed e.sites s.addresses)))
    (sym (faults_are s own e) ∙ is) in
    let second = both_none (shared_fault s own e) (size_fault (placed e.sites s.addresses)) first.1 in
    placed_sound s own operation moment e (placed e.sites s.addresses) valid
    (good_of e first.0 (site_bits e bits)) op_low moment_low there is refl second.1

-- ---- another lock

relocked : (e : VlEntry) (operation moment : ℕ) → IsRecord e → operation < 2 ^ 32 → moment < 2 ^ 32
    → IsRecord (record e { lock_op = operation; lock_moment = moment })
relocked e operation moment is op_low moment_low = record {
  name = is.name;
  flags = is.flags;
  rw_low = is.rw_low;
  rw = is.rw;
  ro = is.ro;
  backup = is.backup;
  clone = is.clone;
  ids = is.ids;
  count = is.count;
  sites = is.sites;
  repeats = is.repeats;
  lock_op = op_low;
  lock_moment = moment_low;
}

lock_sound : (s : Location) (e : VlEntry) (operation moment : ℕ) → IsLocation s → s.entry e.rw ≡ Some e → operation < 2 ^ 32
    → moment < 2 ^ 32
    → CanPut s e.rw (record e { lock_op = operation; lock_moment = moment }) s.addresses
lock_sound s e operation moment valid there op_low moment_low =
    let may = may_lock s e operation moment valid there in
    record {
      good = relocked e operation moment (valid.records e.rw e there) op_low moment_low;
      there = inr may.0;
      enter = record {
        places = may_be_places s s.addresses valid (are_places s valid) (record { kept = λ k used. refl });
        same = places_same s s.addresses valid (record { kept = λ k used. refl });
        may = may.1;
      };
    }

left_low : (b : Bool) (n : ℕ) → n < 2 ^ 32 → cond b n 0 < 2 ^ 32
left_low true n low = low
left_low false n low = omega arith

is_there : (s : Location) (volume_type : ℤ) (id : ℕ) (e : VlEntry) → IsLocation s → entry_of_type s volume_type id ≡ Some e
    → IsSome (s.entry e.rw)
is_there s volume_type id e valid at = subst (λ (o : Option VlEntry). IsSome o) (sym (typed_there s volume_type id e valid at)) refl

-- ---- one case a call

next_sound : (s : Location) (bump : ℕ) → IsSound s (new_volume_id s bump)
next_sound s bump =
    either s (nat_lt 20 bump || nat_lt max_id (s.next_volume + bump)) (Refuses rule.bad_bump)
    (Makes (answer.Id s.next_volume) (NextVolume (s.next_volume + bump))) (λ is. tt)
    (λ is. let p = or_parts (nat_lt 20 bump) (nat_lt max_id (s.next_volume + bump)) is in
    let low : s.next_volume + bump ≤ 2147483647 = ltb-false 2147483647 (s.next_volume + bump) p.1 in omega (arith, low))

leave_sound : (s : Location) (volume_type : ℤ) (id : ℕ) → IsLocation s → IsSound s (of_id s volume_type id leaves)
leave_sound s volume_type id valid =
    either s (is_volume_type volume_type) (of_entry (entry_of_type s volume_type id) leaves) (Refuses rule.bad_volume_type)
    (λ is. of_one s (entry_of_type s volume_type id) leaves (λ e at. is_there s volume_type id e valid at)) (λ is. tt)

told_sound : (s : Location) (o : Option VlEntry) → IsSound s (of_entry o told)
told_sound s o = of_one s o told (λ e at. tt)

named_sound : (s : Location) (name : List ℕ) → IsSound s (named_verdict s name)
named_sound s name = either s (is_name name) (of_entry _ told) (Refuses rule.bad_name) (λ is. told_sound s _) (λ is. tt)

by_id_sound : (s : Location) (volume_type : ℤ) (id : ℕ) → IsSound s (of_id s volume_type id told)
by_id_sound s volume_type id =
    either s (is_volume_type volume_type) (of_entry (entry_of_type s volume_type id) told) (Refuses rule.bad_volume_type)
    (λ is. told_sound s (entry_of_type s volume_type id)) (λ is. tt)

masked_sound : (s : Location) (volume_type : ℤ) (id mask : ℕ) (goes : VlEntry → Verdict)
    → ((e : VlEntry) → entry_of_type s volume_type id ≡ Some e → IsSound s (goes e))
    → IsSound s (of_masked s volume_type id mask goes)
masked_sound s volume_type id mask goes so =
    either s (not (is_volume_type volume_type)) (Refuses rule.bad_volume_type)
    (cond (nat_lt 3 mask) (Refuses rule.bad_release) (of_entry (entry_of_type s volume_type id) goes))
    (λ is. tt) (λ is. either s (nat_lt 3 mask) (Refuses rule.bad_release) (of_entry (entry_of_type s volume_type id) goes) (λ is. tt)
    (λ is. of_one s (entry_of_type s volume_type id) goes so))

replace_sound : (s : Location) (volume_type : ℤ) (id mask : ℕ) (e : GivenEntry) → IsLocation s → GivenHasItsBits e
    → IsSound s (of_masked s volume_type id mask (replaced s e mask))
replace_sound s volume_type id mask e valid bits =
    masked_sound s volume_type id mask (replaced s e mask)
    (λ old at. let r = valid.records old.rw old (typed_there s volume_type id old valid at) in
    put_sound s old.rw (operation_left mask old) (moment_left mask old) e (first_fault (entry_faults s old.rw e)) valid bits
    (left_low (eqb (bit_and mask 2) 0) old.lock_op r.lock_op) (left_low (eqb (bit_and mask 1) 0) old.lock_moment r.lock_moment)
    (inr (is_there s volume_type id old valid at)) refl)

release_sound : (s : Location) (volume_type : ℤ) (id mask : ℕ) → IsLocation s
    → IsSound s (of_masked s volume_type id mask (lock_released s mask))
release_sound s volume_type id mask valid =
    masked_sound s volume_type id mask (lock_released s mask)
    (λ old at. let there = typed_there s volume_type id old valid at in
    let r = valid.records old.rw old there in
    lock_sound s old (operation_left mask old) (moment_left mask old) valid there
    (left_low (eqb (bit_and mask 2) 0) old.lock_op r.lock_op) (left_low (eqb (bit_and mask 1) 0) old.lock_moment r.lock_moment))

set_sound : (s : Location) (volume_type : ℤ) (id operation now : ℕ) → IsLocation s → operation < 2 ^ 32 → now < 2 ^ 32
    → IsSound s (lock_set s volume_type id operation now)
set_sound s volume_type id operation now valid op_low now_low =
    let last = of_entry (entry_of_type s volume_type id) (locked_by s operation now) in
    either s (not (is_volume_type volume_type)) (Refuses rule.bad_volume_type)
    (cond (not (is_operation operation)) (Refuses rule.bad_operation) last) (λ is. tt)
    (λ is. either s (not (is_operation operation)) (Refuses rule.bad_operation) last (λ is. tt)
    (λ is. of_one s (entry_of_type s volume_type id) (locked_by s operation now)
    (λ e at. either s (eqb e.lock_op 0)
    (Makes answer.Done (Enter e.rw (record e { lock_op = operation; lock_moment = now }) s.addresses)) (Refuses rule.entry_locked)
    (λ is. lock_sound s e operation now valid (typed_there s volume_type id e valid at) op_low now_low) (λ is. tt))))

move_sound : (s : Location) (old new : ℕ) → IsLocation s → new < 2 ^ 32 → IsSound s (address_changed s old new)
move_sound s old new valid low =
    let last = eqb new 0 && list_any (has_site_at old) (entries s) in
    let act = Makes answer.Done (Move old new) in
    either s (not (has_address s old)) (Refuses rule.no_entry)
    (cond (has_address s new) (Refuses rule.bad_server) (cond last (Refuses rule.bad_entry) act)) (λ is. tt)
    (λ has_old. either s (has_address s new) (Refuses rule.bad_server) (cond last (Refuses rule.bad_entry) act) (λ is. tt)
    (λ has_new. either s last (Refuses rule.bad_entry) act (λ is. tt)
    (λ kept. can_move s old new valid (is_not (has_address s old) has_old) has_new kept low)))

page_sound : (s : Location) (after host : ℕ) (partition : ℤ) (locked : Bool) → IsSound s (page s after host partition locked)
page_sound s after host partition locked = either s _ (Answers (answer.Entries _)) (Refuses rule.bad_partition) (λ is. tt) (λ is. tt)

call_sound : (s : Location) (now : ℕ) (c : VlCall) → IsLocation s → now < 2 ^ 32 → HasItsBits c → IsSound s (verdict s now (Some c))
unfolding verdict
call_sound s now (call.GetNewVolumeId bump) valid low bits = next_sound s bump
call_sound s now (call.CreateEntry e) valid low bits =
    put_sound s 0 0 0 e (first_fault (entry_faults s 0 e)) valid bits.0 (omega arith) (omega arith) (inl refl) refl
call_sound s now (call.DeleteEntry id volume_type) valid low bits = leave_sound s volume_type id valid
call_sound s now (call.GetEntryById id volume_type) valid low bits = by_id_sound s volume_type id
call_sound s now (call.GetEntryByName name) valid low bits = named_sound s name
call_sound s now (call.ReplaceEntry id volume_type e mask) valid low bits = replace_sound s volume_type id mask e valid bits.1.1.0
call_sound s now (call.SetLock id volume_type operation) valid low bits = set_sound s volume_type id operation now valid bits.1.1.0 low
call_sound s now (call.ReleaseLock id volume_type mask) valid low bits = release_sound s volume_type id mask valid
call_sound s now (call.ListAttributes after host partition locked) valid low bits = page_sound s after host partition locked
call_sound s now call.GetAddrs valid low bits = tt
call_sound s now (call.ChangeAddr from to) valid low bits = move_sound s from to valid bits.1.0
call_sound s now call.Probe valid low bits = tt

-- ---- of bytes, at a moment

read_sound : (s : Location) (now : ℕ) (bytes : List ℕ) (o : Option VlCall) → IsLocation s → now < 2 ^ 32 → IsBytes bytes
    → call_of bytes ≡ o → IsSound s (verdict s now o)
unfolding verdict
read_sound s now bytes None valid low are is = tt
read_sound s now bytes (Some c) valid low are is = call_sound s now c valid low (read_alone bytes c are is).0.1

within_sound : (s : Location) (now : ℕ) (bytes : List ℕ) (b : Bool) → IsLocation s
    → (nat_lt now 4294967296 && list_all (λ x. nat_lt x 256) bytes) ≡ b
    → IsSound s (verdict s now (cond b (call_of bytes) None))
unfolding verdict
within_sound s now bytes false valid is = tt
within_sound s now bytes true valid is =
    let p = and_parts (nat_lt now 4294967296) (list_all (λ x. nat_lt x 256) bytes) is in
    let low : now < 4294967296 = ltb-true now 4294967296 p.0 in
    read_sound s now bytes (call_of bytes) valid (omega (arith, low)) (bytes_low bytes p.1) refl

pub sound : (s : Location) (now : ℕ) (bytes : List ℕ) → IsLocation s → IsSound s (verdict s now (asked now bytes))
sound s now bytes valid = within_sound s now bytes (nat_lt now 4294967296 && list_all (λ x. nat_lt x 256) bytes) valid refl
