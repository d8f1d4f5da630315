-- A change that may be made leaves an image that holds the state after it, and the same image where the state stays.
use Rattle.std.proofs.Common.{◌≡◌, ◌≢◌, ℕ, ◌<◌, ◌^◌, Bool, true, false, cond, eqb, List, Option, Some, None, IsSome, refl, sym, ap, subst, ◌∙◌, ⊎_elim, inl, inr, arith}
use Rattle.std.proofs.lemmas.Bool.{cases_Bool, cases_eq, eq-eqb, eqb-true}
use Rattle.std.proofs.lemmas.Slice.Eq.{bytes_eq-Decides}
use Rattle.db_blocks.proofs.Maps.{under_same}
use Rattle.vldb_entries.specs.declared.entries.VlEntry.{VlEntry}
use Rattle.vldb_entries.specs.Location.{Location, IsRecord, MayBePlaces, MayEnter, with_addresses, with_entered, with_places, without_entry}
use Rattle.vldb_entries.specs.Forms.{whole}
use Rattle.vldb_records.specs.Changes.{after_insert, after_replace, after_set_next, after_set_places}
use Rattle.vldb_records.specs.Records.{Holds}
use Rattle.vldb_entries.proofs.EntryAgain.{not_zero}
use Rattle.vldb_records.proofs.Held.{holds_next, holds_places}
use Rattle.vldb_records.proofs.Inserted.{holds_inserted}
use Rattle.vldb_records.proofs.RemoveClauses.{holds_removed}
use Rattle.vldb_records.proofs.ReplaceClauses.{holds_replaced}
use Rattle.vldb_records.proofs.Unchanged.{replace_same}
use Rattle.vldb_records.proofs.HeadTold.{laid_next}
use Rattle.vl_service.specs.Entering.{IsThere, moved}
use Rattle.vl_service.specs.Meaning.{Change, NextVolume, Enter, Leave, Move, state_after, with_moved_sites, with_place_of}
use Rattle.vl_service.specs.Standing.{image_after, readdressed}
use Rattle.vl_service.specs.declared.deciding.Places.{Places}
use Rattle.vl_service.proofs.Entered.{CanEnter, holds_moved}

-- ---- changes that may be made

pub record CanPut (s : Location) (own : ℕ) (x : VlEntry) (addresses : List ℕ) : Type 0 where
  pub good : IsRecord x
  pub there : IsThere own s
  pub enter : CanEnter s own x addresses

pub record CanMove (s : Location) (old new : ℕ) : Type 0 where
  pub places : MayBePlaces (with_place_of old new s.addresses) s
  pub same : with_places (with_place_of old new s.addresses) s ≡ with_moved_sites old new
      (with_addresses (with_place_of old new s.addresses) s)
  pub differs : with_place_of old new s.addresses ≢ s.addresses

abbrev pub CanMake : Location → Change → Type 0
CanMake s (NextVolume id) = id < 2 ^ 32
CanMake s (Enter own x addresses) = CanPut s own x addresses
CanMake s (Leave rw_id) = IsSome (s.entry rw_id)
CanMake s (Move old new) = CanMove s old new

-- ---- the image after one

some_of : {X : Type 0} (o : Option X) → IsSome o → (x : X) × (o ≡ Some x)
some_of None some = absurd cc
some_of (Some x) some = (x, refl)

-- an entry in place of another one
entered_there : (image : List ℕ) (s : Location) (own : ℕ) (x : VlEntry) → Holds image s → IsRecord x → eqb own 0 ≡ false → IsThere own s
    → MayEnter own x s
    → Holds (after_replace own x image) (with_entered own x s)
entered_there image s own x holds good some (inl none) may = let met = eq-eqb own 0 none in absurd cc
entered_there image s own x holds good some (inr there) may =
    let f = some_of (s.entry own) there in holds_replaced image s own x f.0 holds good f.1 may

holds_entered : (image : List ℕ) (s : Location) (own : ℕ) (x : VlEntry) (addresses : List ℕ) → Holds image s → CanPut s own x addresses
    → Holds (image_after (Enter own x addresses) s image) (with_entered own x (with_addresses addresses s))
holds_entered image s own x addresses holds can =
    let p : Places = record { old = s.addresses; new = addresses } in
    let mid = moved p image in
    let t = with_addresses addresses s in
    let here = subst (Holds mid) can.enter.same (holds_moved image s p holds refl can.enter.places) in
    ⊎_elim
    (λ (none : eqb own 0 ≡ true).
    subst (λ (i : List ℕ). Holds i (with_entered own x t))
    (sym (ap (λ (b : Bool). cond b (after_insert x mid) (after_replace own x mid)) none))
    (subst (λ (n : ℕ). Holds (after_insert x mid) (with_entered n x t)) (sym (eqb-true own 0 none))
    (holds_inserted mid t x here can.good (subst (λ (n : ℕ). MayEnter n x t) (eqb-true own 0 none) can.enter.may))))
    (λ (some : eqb own 0 ≡ false).
    subst (λ (i : List ℕ). Holds i (with_entered own x t))
    (sym (ap (λ (b : Bool). cond b (after_insert x mid) (after_replace own x mid)) some))
    (entered_there mid t own x here can.good some can.there can.enter.may))
    (cases_Bool (eqb own 0))

pub holds_made : (image : List ℕ) (s : Location) (change : Change) → Holds image s → CanMake s change
    → Holds (image_after change s image) (state_after change s)
holds_made image s (NextVolume id) holds can = holds_next image s id holds can
holds_made image s (Enter own x addresses) holds can = holds_entered image s own x addresses holds can
holds_made image s (Leave rw_id) holds can = let f = some_of (s.entry rw_id) can in holds_removed image s rw_id f.0 holds f.1
holds_made image s (Move old new) holds can = subst (Holds (after_set_places (with_place_of old new s.addresses) image)) can.same
    (holds_places image s (with_place_of old new s.addresses) holds can.places)

-- ---- a state that stays

-- what is put in was there, under the read-write id that it replaces
entered_same : (s : Location) (own : ℕ) (x : VlEntry) (addresses : List ℕ) → CanPut s own x addresses
    → with_entered own x (with_addresses addresses s) ≡ s
    → (addresses ≡ s.addresses) × (s.entry own ≡ Some x) × (0 < own)
entered_same s own x addresses can same =
    let entry : s.entry x.rw ≡ Some x =
    sym (ap (λ (t : Location). t.entry x.rw) same)
    ∙ under_same x.rw x.rw (Some x) (without_entry own (with_addresses addresses s)).entry refl in
    let rw_id : x.rw ≡ own = ⊎_elim
    (λ (is : x.rw ≡ own). is)
    (λ (other : x.rw ≢ own). absurd (can.enter.may.name x.rw x entry other refl))
    (cases_eq x.rw own) in (
      sym (ap (λ (t : Location). t.addresses) (sym same)),
      ap s.entry (sym rw_id) ∙ entry,
      omega (arith, rw_id, can.good.rw_low),
    )

entered_stays : (image : List ℕ) (s : Location) (own : ℕ) (x : VlEntry) (addresses : List ℕ) → Holds image s → CanPut s own x addresses
    → with_entered own x (with_addresses addresses s) ≡ s → image_after (Enter own x addresses) s image ≡ image
entered_stays image s own x addresses holds can same =
    let p = entered_same s own x addresses can same in
    ap (λ (b : Bool). cond b (after_insert x (readdressed addresses s image)) (after_replace own x (readdressed addresses s image)))
    (not_zero own p.2)
    ∙ ap (λ (b : Bool). after_replace own x (cond b image (after_set_places addresses image)))
    ((bytes_eq-Decides addresses s.addresses).1 p.0)
    ∙ replace_same image s own x holds p.1

next_stays : (image : List ℕ) (s : Location) (id : ℕ) → Holds image s → id ≡ s.next_volume → after_set_next id image ≡ image
unfolding after_set_next
next_stays image s id holds same =
    let old = whole image in
    let told = laid_next image s holds in
    let met = eq-eqb _ id (told ∙ sym same) in
    rw met refl

pub made_stays : (image : List ℕ) (s : Location) (change : Change) → Holds image s → CanMake s change → state_after change s ≡ s
    → image_after change s image ≡ image
made_stays image s (NextVolume id) holds can same = next_stays image s id holds (ap (λ (t : Location). t.next_volume) same)
made_stays image s (Enter own x addresses) holds can same = entered_stays image s own x addresses holds can same
made_stays image s (Leave rw_id) holds can same =
    let gone : s.entry rw_id ≡ None = sym (ap (λ (t : Location). t.entry rw_id) same) ∙ under_same rw_id rw_id None s.entry refl in
    let none : IsSome {T = VlEntry} None = subst (λ (o : Option VlEntry). IsSome o) gone can in
    absurd cc
made_stays image s (Move old new) holds can same = absurd (can.differs (ap (λ (t : Location). t.addresses) same))
