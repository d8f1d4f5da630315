-- What a change makes of the bytes of a draft, where these are told.
use Rattle.std.proofs.Common.{◌≡◌, ℕ, ◌<◌, ◌^◌, true, false, eqb, List, Option, Some, None, IfSome, IsSomeAnd, Result, Ok, Err, OnOk, refl, sym, ap, subst, ◌∙◌}
use Rattle.std.specs.Option.{option_map}
use Rattle.ubik_types.specs.Image.{changed}
use Rattle.ubik_types.specs.declared.images.Change.TheVariants.{Put}
use Rattle.db_blocks.specs.Bytes.{word, words}
use Rattle.vldb_entries.specs.Location.{Location, MayBePlaces, with_next_volume, with_places}
use Rattle.vldb_entries.specs.Forms.{next_in, whole}
use Rattle.vldb_records.specs.Changes.{after_set_next, after_set_places}
use Rattle.vldb_records.specs.Records.{Holds}
use Rattle.vldb_records.proofs.Held.{holds_next, holds_places}

pub becomes_then : (f g : List ℕ → List ℕ) (a b c : Option (List ℕ)) → b ≡ option_map f a → c ≡ option_map g b
    → c ≡ option_map (λ x. g (f x)) a
becomes_then f g None b c first second = second ∙ ap (option_map g) first
becomes_then f g (Some x) b c first second = second ∙ ap (option_map g) first

pub ok_then : {T E : Type 0} (r : Result T E) (f g : List ℕ → List ℕ) (a b c : Option (List ℕ)) → b ≡ option_map f a
    → OnOk r (c ≡ option_map g b)
    → OnOk r (c ≡ option_map (λ x. g (f x)) a)
ok_then (Err e) f g a b c first second = tt
ok_then (Ok x) f g a b c first second = becomes_then f g a b c first second

makes_from : (may : Location → Type 0) (change : Location → Location) (after : List ℕ → List ℕ) (old new : Option (List ℕ))
    → new ≡ option_map after old
    → IfSome old (λ image. (s : Location) → Holds image s → may s → Holds (after image) (change s))
    → IfSome old (λ image. (s : Location) → Holds image s → may s → IsSomeAnd new (λ a. Holds a (change s)))
makes_from may change after None new is so = tt
makes_from may change after (Some image) new is so = λ s holds can.
    subst (λ (o : Option (List ℕ)). IsSomeAnd o (λ a. Holds a (change s))) (sym is) (so s holds can)

-- ---- the next volume id

pub next_same : (bytes : Option (List ℕ)) (id found : ℕ) → IfSome bytes (λ image. found ≡ next_in (whole image)) → eqb found id ≡ true
    → bytes ≡ option_map (after_set_next id) bytes
unfolding after_set_next
next_same None id found is same = refl
next_same (Some image) id found is same =
    let test : eqb (next_in (whole image)) id ≡ true = ap (λ (n : ℕ). eqb n id) (sym is) ∙ same in rw test refl

pub next_other : (bytes after : Option (List ℕ)) (id found : ℕ) → IfSome bytes (λ image. found ≡ next_in (whole image))
    → eqb found id ≡ false
    → after ≡ option_map (λ image. changed (whole image) (Put 8 (word id))) bytes → after ≡ option_map (after_set_next id) bytes
unfolding after_set_next
next_other None after id found is other made = made
next_other (Some image) after id found is other made =
    let test : eqb (next_in (whole image)) id ≡ false = ap (λ (n : ℕ). eqb n id) (sym is) ∙ other in rw test made

pub next_ok : {T E : Type 0} (r : Result T E) (bytes mid after : Option (List ℕ)) (id found : ℕ) (put : List ℕ) → mid ≡ bytes
    → IfSome bytes (λ image. found ≡ next_in (whole image)) → eqb found id ≡ false → put ≡ word id
    → OnOk r (after ≡ option_map (λ image. changed (whole image) (Put 8 put)) mid) → OnOk r (after ≡ option_map (after_set_next id) bytes)
next_ok (Err e) bytes mid after id found put same is other words made = tt
next_ok (Ok x) bytes mid after id found put same is other words made =
    next_other bytes after id found is other
    (made ∙ ap (option_map (λ image. changed (whole image) (Put 8 put))) same
    ∙ ap (λ (w : List ℕ). option_map (λ image. changed (whole image) (Put 8 w)) bytes) words)

next_each : (bytes : Option (List ℕ)) (id : ℕ) → id < 2 ^ 32
    → IfSome bytes (λ image. (s : Location) → Holds image s → Unit {0} → Holds (after_set_next id image) (with_next_volume id s))
next_each None id low = tt
next_each (Some image) id low = λ s holds may. holds_next image s id holds low

pub next_makes : (bytes after : Option (List ℕ)) (id : ℕ) → id < 2 ^ 32 → after ≡ option_map (after_set_next id) bytes
    → IfSome bytes (λ image. (s : Location) → Holds image s → Unit {0} → IsSomeAnd after (λ a. Holds a (with_next_volume id s)))
next_makes bytes after id low made =
    makes_from (λ s. Unit {0}) (with_next_volume id) (after_set_next id) bytes after made (next_each bytes id low)

pub next_makes_ok : {T E : Type 0} (r : Result T E) (bytes after : Option (List ℕ)) (id : ℕ) → id < 2 ^ 32
    → OnOk r (after ≡ option_map (after_set_next id) bytes)
    → OnOk r (IfSome bytes (λ image. (s : Location) → Holds image s → Unit {0} → IsSomeAnd after (λ a. Holds a (with_next_volume id s))))
next_makes_ok (Err e) bytes after id low made = tt
next_makes_ok (Ok x) bytes after id low made = next_makes bytes after id low made

-- ---- other addresses of the places

places_made : (bytes after : Option (List ℕ)) (new put : List ℕ) → put ≡ words new
    → after ≡ option_map (λ image. changed (whole image) (Put 64 put)) bytes
    → after ≡ option_map (after_set_places new) bytes
unfolding after_set_places
places_made bytes after new put is made = made ∙ ap (λ (w : List ℕ). option_map (λ image. changed (whole image) (Put 64 w)) bytes) is

pub places_ok : {T E : Type 0} (r : Result T E) (bytes after : Option (List ℕ)) (new put : List ℕ) → put ≡ words new
    → OnOk r (after ≡ option_map (λ image. changed (whole image) (Put 64 put)) bytes)
    → OnOk r (after ≡ option_map (after_set_places new) bytes)
places_ok (Err x) bytes after new put is made = tt
places_ok (Ok x) bytes after new put is made = places_made bytes after new put is made

places_each : (bytes : Option (List ℕ)) (new : List ℕ)
    → IfSome bytes (λ image. (s : Location) → Holds image s → MayBePlaces new s → Holds (after_set_places new image) (with_places new s))
places_each None new = tt
places_each (Some image) new = λ s holds may. holds_places image s new holds may

pub places_make_ok : {T E : Type 0} (r : Result T E) (bytes after : Option (List ℕ)) (new : List ℕ)
    → OnOk r (after ≡ option_map (after_set_places new) bytes)
    → OnOk r (IfSome bytes (λ image. (s : Location) → Holds image s → MayBePlaces new s
    → IsSomeAnd after (λ a. Holds a (with_places new s))))
places_make_ok (Err e) bytes after new made = tt
places_make_ok (Ok x) bytes after new made =
    makes_from (MayBePlaces new) (with_places new) (after_set_places new) bytes after made (places_each bytes new)
