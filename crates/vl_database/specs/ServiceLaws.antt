-- Laws of the location database: over an image that holds a state it does what the call means, and no call leaves a shorter image.
use Rattle.std.proofs.Common.{ℕ, ◌≤◌, Bool, true, false, cond, List, [], length, eqb, refl, subst, arith}
use Rattle.std.specs.Str.{bytes_eq}
use Rattle.db_image.specs.Standing.{IsMeantOver}
use Rattle.vldb_entries.specs.Location.{Location, first_location}
use Rattle.vldb_entries.specs.Forms.{whole}
use Rattle.vldb_records.specs.Changes.{after_insert, after_replace, after_set_places}
use Rattle.vldb_records.specs.Records.{Holds}
use Rattle.vl_service.specs.Meaning.{Answers, Change, Enter, Leave, Makes, Move, NextVolume, NoCall, Refuses, Verdict, asked, reply_by, state_by, verdict, with_place_of}
use Rattle.vl_database.specs.Service.{location_meaning, moment_word, vl_database, vl_standing}
use Rattle.vl_service.specs.Standing.{image_after, image_by, readdressed}
use Rattle.vl_service.specs.Told.{location_in}
use Rattle.vl_service.proofs.Made.{holds_made, made_stays}
use Rattle.vl_service.proofs.Sound.{IsSound, sound}
use Rattle.vldb_records.proofs.Empty.{empty_holds}
use Rattle.vldb_records.proofs.Grown.{grows_insert, grows_next, grows_places, grows_remove, grows_replace}
use Rattle.vl_service.proofs.ToldLocations.{location_told}

-- ---- what it does is what the call means

made_so : (image : List ℕ) (s : Location) (v : Verdict) → Holds image s → IsSound s v
    → IsMeantOver vl_standing image s (record { reply = reply_by v; image = image_by v s image })
    (record { reply = reply_by v; state = state_by v s })
made_so image s NoCall holds can = record { reply = refl; good = λ at e. cc; stands = holds; stays = λ same. refl }
made_so image s (Refuses fault) holds can = record { reply = refl; good = λ at e. cc; stands = holds; stays = λ same. refl }
made_so image s (Answers a) holds can = record { reply = refl; good = λ at e. cc; stands = holds; stays = λ same. refl }
made_so image s (Makes a change) holds can = record {
  reply = refl;
  good = λ at e. cc;
  stands = holds_made image s change holds can;
  stays = λ same. made_stays image s change holds can same;
}

pub database_is_meant : (image : List ℕ) (s : Location) (now : ℕ) (bytes : List ℕ) → Holds image s
    → IsMeantOver vl_standing image s (vl_database.call image now bytes) (location_meaning.call s now bytes)
database_is_meant image s now bytes holds =
    let moment = moment_word now in
    let c = asked moment bytes in
    subst
    (λ (t : Location). IsMeantOver vl_standing image s
    (record { reply = reply_by (verdict t moment c); image = image_by (verdict t moment c) t image })
    (location_meaning.call s now bytes))
    (location_told image s holds) (made_so image s (verdict s moment c) holds (sound s moment bytes holds.valid))

pub empty_stands : Holds [] first_location
empty_stands = empty_holds

-- ---- no shorter image

either_longer : (n : ℕ) (b : Bool) (x y : List ℕ) → n ≤ length x → n ≤ length y → n ≤ length (cond b x y)
either_longer n true x y h k = h
either_longer n false x y h k = k

both_longer : (a b c : ℕ) → a ≤ b → b ≤ c → a ≤ c
both_longer a b c h k = omega (arith, h, k)

grows_readdressed : (image addresses : List ℕ) (s : Location) → length image ≤ length (readdressed addresses s image)
grows_readdressed image addresses s =
    either_longer (length image) (bytes_eq addresses s.addresses) image (after_set_places addresses image) (omega arith)
    (grows_places image addresses)

grows_after : (image : List ℕ) (s : Location) (change : Change) → length image ≤ length (image_after change s image)
grows_after image s (NextVolume id) = grows_next image id
grows_after image s (Enter own e addresses) =
    let mid = readdressed addresses s image in
    let first = grows_readdressed image addresses s in
    either_longer (length image) (eqb own 0) (after_insert e mid) (after_replace own e mid)
    (both_longer (length image) (length mid) _ first (grows_insert mid e))
    (both_longer (length image) (length mid) _ first (grows_replace mid own e))
grows_after image s (Leave rw_id) = grows_remove image rw_id
grows_after image s (Move old new) = grows_places image (with_place_of old new s.addresses)

grows_by : (image : List ℕ) (s : Location) (v : Verdict) → length image ≤ length (image_by v s image)
grows_by image s NoCall = omega arith
grows_by image s (Refuses fault) = omega arith
grows_by image s (Answers a) = omega arith
grows_by image s (Makes a change) = grows_after image s change

pub database_never_shrinks : (image : List ℕ) (now : ℕ) (bytes : List ℕ) → length image ≤ length (vl_database.call image now bytes).image
database_never_shrinks image now bytes =
    let s = location_in (whole image) in grows_by image s (verdict s (moment_word now) (asked (moment_word now) bytes))
