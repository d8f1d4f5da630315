-- A server's other address.
use Rattle.std.proofs.Common.{◌≡◌, ℕ, zero, suc, ◌<◌, Bool, true, false, not, ◌&&◌, ◌||◌, cond, eqb, List, [], ◌∷◌, length, Option, Some, None, IfSome, refl, sym, ap, subst, ◌∙◌, arith}
use Rattle.std.specs.List.{list_any}
use Rattle.std.specs.Option.{option_map}
use Rattle.std.proofs.lemmas.Bool.{eq-eqb}
use Rattle.db_image.specs.Ends.{end_of}
use Rattle.db_image.specs.declared.draft_services.CallEnd.{CallEnd}
use Rattle.db_blocks.proofs.Maps.{test_other}
use Rattle.vl_calls.specs.declared.answers.VlAnswer.TheVariants as answer
use Rattle.vldb_entries.specs.declared.entries.VlEntry.{VlEntry}
use Rattle.vldb_entries.specs.declared.entries.VlSite.{VlSite}
use Rattle.vldb_records.specs.declared.listings.Listing.{Listing}
use Rattle.vldb_records.specs.Listing.{AreListed, IsNextListed, is_listed}
use Rattle.vldb_entries.specs.Location.{Location}
use Rattle.vldb_records.specs.Changes.{after_set_places}
use Rattle.vldb_records.specs.Records.{Holds}
use Rattle.vldb_entries.proofs.EntryAgain.{not_zero}
use Rattle.vl_service.specs.Meaning.{Answers, Makes, Move, Refuses, Verdict, address_changed, entries, has_address, has_site_at, reply_by, with_place_of}
use Rattle.vl_service.specs.Moving.{IsMovement}
use Rattle.vl_service.specs.declared.moving.Movement.TheVariants.{Moves, Refused}
use Rattle.vl_service.specs.Refusals.{bad_entry, bad_server, no_entry}
use Rattle.vl_service.specs.Standing.{IsDone, image_by}
use Rattle.vl_service.proofs.Entries.{none_meets, some_meets}
use Rattle.vl_service.proofs.LockDone.{refusal_done}

-- ---- whether an entry has a site there

-- the listing of a server's entries
abbrev pub of_server : ℕ → Listing
of_server host = record { host = host; partition = None; locked = false }

and_true : (b : Bool) → (b && true) ≡ b
and_true true = refl
and_true false = refl

any_same : (host : ℕ) (sites : List VlSite) → eqb host 0 ≡ false
    → list_any (λ site. (eqb host 0 || eqb site.host host) && true) sites ≡ list_any (λ site. eqb site.host host) sites
any_same host [] some = refl
any_same host (site ∷ sites) some =
    ap (λ (b : Bool). ((b || eqb site.host host) && true) || list_any (λ site. (eqb host 0 || eqb site.host host) && true) sites) some
    ∙ ap (λ (b : Bool). b || list_any (λ site. (eqb host 0 || eqb site.host host) && true) sites) (and_true (eqb site.host host))
    ∙ ap (λ (b : Bool). eqb site.host host || b) (any_same host sites some)

listed_is : (host : ℕ) (e : VlEntry) → 0 < host → is_listed (of_server host) e ≡ has_site_at host e
listed_is host e low =
    and_true (list_any (λ site. (eqb host 0 || eqb site.host host) && true) e.sites) ∙ any_same host e.sites (not_zero host low)

no_site_there : (bytes : Option (List ℕ)) (host : ℕ) → 0 < host
    → IfSome bytes (λ image. (s : Location) → Holds image s → IsNextListed s (of_server host) 0 None)
    → IfSome bytes (λ image. (s : Location) → Holds image s → false ≡ list_any (has_site_at host) (entries s))
no_site_there None host low is = tt
no_site_there (Some image) host low is = λ s holds.
    sym (none_meets s (has_site_at host) 1 2147483647
    (λ rw_id f at. sym (listed_is host f low)
    ∙ is s holds rw_id f (omega (arith, (holds.valid.records rw_id f at).rw_low, holds.valid.ids rw_id f at)) at))

site_there : (bytes : Option (List ℕ)) (host : ℕ) (e : VlEntry) → 0 < host
    → IfSome bytes (λ image. (s : Location) → Holds image s → IsNextListed s (of_server host) 0 (Some e))
    → IfSome bytes (λ image. (s : Location) → Holds image s → true ≡ list_any (has_site_at host) (entries s))
site_there None host e low is = tt
site_there (Some image) host e low is = λ s holds.
    let l = is s holds in
    let r = holds.valid.records e.rw e l.0 in
    sym (some_meets s (has_site_at host) 1 2147483647 e.rw e (omega (arith, r.rw_low)) (omega (arith, r.rw)) l.0
    (sym (listed_is host e low) ∙ l.2))

some_not : (es : List VlEntry) → suc (length es) ≡ 0 → ⊥
some_not es same = omega arith

-- the first such entry, if there is one
pub any_site : (bytes : Option (List ℕ)) (host : ℕ) (es : List VlEntry) (none : Bool) → 0 < host → none ≡ eqb (length es) 0
    → IfSome bytes (λ image. (s : Location) → Holds image s → AreListed s (of_server host) 0 1 es)
    → IfSome bytes (λ image. (s : Location) → Holds image s → not none ≡ list_any (has_site_at host) (entries s))
any_site None host es none low is are = tt
any_site (Some image) host [] none low is are = λ s holds. ap not (is ∙ eq-eqb 0 0 refl) ∙ no_site_there (Some image) host low are s holds
any_site (Some image) host (e ∷ es) none low is are = λ s holds.
    ap not (is ∙ test_other (suc (length es)) 0 (some_not es)) ∙ site_there (Some image) host e low (λ t held. (are t held).0) s holds

-- ---- the verdict

pub used_parts : (host : ℕ) (addresses : List ℕ) → (not (eqb host 0) && list_any (λ a. eqb a host) addresses) ≡ true → 0 < host
used_parts zero addresses is = absurd cc
used_parts (suc n) addresses is = omega arith

pub used_low : (host : ℕ) (addresses : List ℕ) (b : Bool) → b ≡ (not (eqb host 0) && list_any (λ a. eqb a host) addresses)
    → not b ≡ false → 0 < host
used_low host addresses true is some = used_parts host addresses (sym is)
used_low host addresses false is some = absurd cc

-- what is decided, by three tests
abbrev by_tests : (old new : ℕ) (a b c : Bool) → Verdict
by_tests old new a b c =
    cond (not a) (Refuses no_entry) (cond b (Refuses bad_server) (cond c (Refuses bad_entry) (Makes answer.Done (Move old new))))

-- the tests of the addresses
pub record AreTests (bytes mid : Option (List ℕ)) (old new : ℕ) (places : List ℕ) (a b : Bool) : Type 0 where
  pub same : mid ≡ bytes
  pub told : IfSome bytes (λ image. (s : Location) → Holds image s → places ≡ s.addresses)
  pub has_old : a ≡ (not (eqb old 0) && list_any (λ x. eqb x old) places)
  pub has_new : b ≡ (not (eqb new 0) && list_any (λ x. eqb x new) places)

verdict_is : (image : List ℕ) (mid : Option (List ℕ)) (s : Location) (old new : ℕ) (places : List ℕ) (a b c : Bool)
    → AreTests (Some image) mid old new places a b → Holds image s
    → c ≡ (eqb new 0 && list_any (has_site_at old) (entries s)) → address_changed s old new ≡ by_tests old new a b c
verdict_is image mid s old new places a b c tests holds is_c =
    let same = tests.told s holds in
    let last = eqb new 0 && list_any (has_site_at old) (entries s) in
    let act = Makes answer.Done (Move old new) in
    ap (λ (t : Bool). cond (not t) (Refuses no_entry) (cond (has_address s new) (Refuses bad_server) (cond last (Refuses bad_entry) act)))
    (ap (λ (p : List ℕ). not (eqb old 0) && list_any (λ x. eqb x old) p) (sym same) ∙ sym tests.has_old)
    ∙ ap (λ (t : Bool). cond (not a) (Refuses no_entry) (cond t (Refuses bad_server) (cond last (Refuses bad_entry) act)))
    (ap (λ (p : List ℕ). not (eqb new 0) && list_any (λ x. eqb x new) p) (sym same) ∙ sym tests.has_new)
    ∙ ap (λ (t : Bool). cond (not a) (Refuses no_entry) (cond b (Refuses bad_server) (cond t (Refuses bad_entry) act))) (sym is_c)

pub no_server : (bytes mid : Option (List ℕ)) (old new : ℕ) (places : List ℕ) (a b : Bool) → AreTests bytes mid old new places a b
    → not a ≡ true
    → IfSome bytes (λ image. (s : Location) → Holds image s → IsMovement s old new (Refused no_entry))
no_server None mid old new places a b tests none = tt
no_server (Some image) mid old new places a b tests none = λ s holds.
    let last = eqb new 0 && list_any (has_site_at old) (entries s) in
    verdict_is image mid s old new places a b last tests holds refl
    ∙ ap (λ (t : Bool). cond t (Refuses no_entry)
    (cond b (Refuses bad_server) (cond last (Refuses bad_entry) (Makes answer.Done (Move old new))))) none

pub taken : (bytes mid : Option (List ℕ)) (old new : ℕ) (places : List ℕ) (a b : Bool) → AreTests bytes mid old new places a b
    → not a ≡ false → b ≡ true
    → IfSome bytes (λ image. (s : Location) → Holds image s → IsMovement s old new (Refused bad_server))
taken None mid old new places a b tests some is = tt
taken (Some image) mid old new places a b tests some is = λ s holds.
    let last = eqb new 0 && list_any (has_site_at old) (entries s) in
    verdict_is image mid s old new places a b last tests holds refl
    ∙ ap (λ (t : Bool). cond t (Refuses no_entry)
    (cond b (Refuses bad_server) (cond last (Refuses bad_entry) (Makes answer.Done (Move old new))))) some
    ∙ ap (λ (t : Bool). cond t (Refuses bad_server) (cond last (Refuses bad_entry) (Makes answer.Done (Move old new)))) is

by_last : (image : List ℕ) (mid : Option (List ℕ)) (s : Location) (old new : ℕ) (places : List ℕ) (a b c : Bool)
    → AreTests (Some image) mid old new places a b → not a ≡ false
    → b ≡ false → IfSome mid (λ image. (s : Location) → Holds image s → c ≡ (eqb new 0 && list_any (has_site_at old) (entries s)))
    → Holds image s
    → address_changed s old new ≡ cond c (Refuses bad_entry) (Makes answer.Done (Move old new))
by_last image mid s old new places a b c tests some free is holds =
    let here = subst (λ (o : Option (List ℕ)). IfSome o
    (λ image. (s : Location) → Holds image s → c ≡ (eqb new 0 && list_any (has_site_at old) (entries s)))) tests.same is in
    let act = cond c (Refuses bad_entry) (Makes answer.Done (Move old new)) in
    verdict_is image mid s old new places a b c tests holds (here s holds)
    ∙ ap (λ (t : Bool). cond t (Refuses no_entry) (cond b (Refuses bad_server) act)) some
    ∙ ap (λ (t : Bool). cond t (Refuses bad_server) act) free

pub still_used : (bytes mid : Option (List ℕ)) (old new : ℕ) (places : List ℕ) (a b c : Bool) → AreTests bytes mid old new places a b
    → not a ≡ false → b ≡ false
    → IfSome mid (λ image. (s : Location) → Holds image s → c ≡ (eqb new 0 && list_any (has_site_at old) (entries s))) → c ≡ true
    → IfSome bytes (λ image. (s : Location) → Holds image s → IsMovement s old new (Refused bad_entry))
still_used None mid old new places a b c tests some free is used = tt
still_used (Some image) mid old new places a b c tests some free is used = λ s holds.
    by_last image mid s old new places a b c tests some free is holds
    ∙ ap (λ (t : Bool). cond t (Refuses bad_entry) (Makes answer.Done (Move old new))) used

pub moves : (bytes mid : Option (List ℕ)) (old new : ℕ) (places made : List ℕ) (a b c : Bool) → AreTests bytes mid old new places a b
    → not a ≡ false → b ≡ false
    → IfSome mid (λ image. (s : Location) → Holds image s → c ≡ (eqb new 0 && list_any (has_site_at old) (entries s))) → c ≡ false
    → made ≡ with_place_of old new places
    → IfSome bytes (λ image. (s : Location) → Holds image s → IsMovement s old new (Moves made))
moves None mid old new places made a b c tests some free is unused made_is = tt
moves (Some image) mid old new places made a b c tests some free is unused made_is = λ s holds. (
  by_last image mid s old new places a b c tests some free is holds
      ∙ ap (λ (t : Bool). cond t (Refuses bad_entry) (Makes answer.Done (Move old new))) unused,
  made_is ∙ ap (with_place_of old new) (tests.told s holds),
)

-- ---- over a draft

pub move_refused : (bytes after : Option (List ℕ)) (old new fault : ℕ) (ended : CallEnd)
    → IfSome bytes (λ image. (s : Location) → Holds image s → IsMovement s old new (Refused fault))
    → ended ≡ end_of (reply_by (Refuses fault)) → after ≡ bytes
    → IfSome bytes (λ image. (s : Location) → Holds image s → IsDone (address_changed s old new) s image ended after)
move_refused bytes after old new fault ended is told same =
    refusal_done bytes after (λ s. address_changed s old new) fault ended is told same

pub move_done : (bytes mid after : Option (List ℕ)) (old new : ℕ) (made : List ℕ) (ended : CallEnd) → mid ≡ bytes
    → IfSome bytes (λ image. (s : Location) → Holds image s → IsMovement s old new (Moves made))
    → ended ≡ end_of (reply_by (Answers answer.Done))
    → after ≡ option_map (after_set_places made) mid
    → IfSome bytes (λ image. (s : Location) → Holds image s → IsDone (address_changed s old new) s image ended after)
move_done None mid after old new made ended same is told changed = tt
move_done (Some image) mid after old new made ended same is told changed = λ s holds.
    let d = is s holds in
    record {
      reply = told ∙ ap (λ (w : Verdict). end_of (reply_by w)) (sym d.0);
      leaves = changed ∙ ap (option_map (after_set_places made)) same ∙ ap (λ (p : List ℕ). Some (after_set_places p image)) d.1
          ∙ ap (λ (w : Verdict). Some (image_by w s image)) (sym d.0);
    }
