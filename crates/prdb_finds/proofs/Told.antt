-- What an image that holds a registry tells of its entries, and an image that is read whole.
use Rattle.std.proofs.Common.{◌≡◌, ℕ, ℤ, ◌<◌, List, [], ◌∷◌, Option, Some, None, IfSome, Result, Ok, Err, IfOk, IfErr, length, sym, ap, subst, ◌∙◌, refl, arith}
use Rattle.db_image.specs.Images.{IsOfImage}
use Rattle.db_image.specs.declared.faults.RecordFault.{RecordFault}
use Rattle.db_image.specs.declared.faults.RecordFault.TheVariants.{DiskFault, BadRecord, NoMemory}
use Rattle.db_blocks.specs.Blocks.{kind_of}
use Rattle.db_blocks.specs.Ends.{HasCause}
use Rattle.prdb_layout.specs.Blocks.{block_count}
use Rattle.prdb_layout.specs.Records.{block_in, entry_in, IsLaidOut, registry_in}
use Rattle.prdb_layout.specs.Registry.{Registry}
use Rattle.prdb_layout.specs.State.{PrEntry}
use Rattle.prdb_layout.proofs.LaidOut.{whole_same as entries_same}
use Rattle.prdb_layout.proofs.Told.{registry_told}
use Rattle.prdb_lists.specs.Members.{Members}
use Rattle.prdb_finds.specs.Records.{Holds, whole}
use Rattle.prdb_finds.specs.Unchained.{unchained}
use Rattle.prdb_finds.proofs.Without.{unchained_count, unchained_entry, unchained_kind, unchained_len}

pub whole_same : (image : List ℕ) → 0 < length image → whole image ≡ image
unfolding whole
whole_same [] some = absurd (omega arith)
whole_same (b ∷ bytes) some = refl

pub empty_is : (image : List ℕ) → length image ≡ 0 → image ≡ []
empty_is [] none = refl
empty_is (b ∷ image) none = absurd (omega arith)

-- what is said of an image that is not empty is said of it read whole
pub ok_whole : {X : Type 0} (res : Result X RecordFault) (bytes : Option (List ℕ)) (len : ℕ) (P : X → List ℕ → Type 0)
    → IfSome bytes (λ image. length image ≡ len) → 0 < len → IfOk res (λ x. IfSome bytes (P x))
    → IfOk res (λ x. IfSome bytes (λ image. P x (whole image)))
ok_whole (Err fault) bytes len P told some is = tt
ok_whole (Ok x) None len P told some is = tt
ok_whole (Ok x) (Some image) len P told some is = subst (P x) (sym (whole_same image (omega arith))) is

pub err_whole : {X : Type 0} (res : Result X RecordFault) (bytes : Option (List ℕ)) (len : ℕ) (P : List ℕ → Type 0)
    → IfSome bytes (λ image. length image ≡ len) → 0 < len → IfErr res (HasCause bytes P)
    → IfErr res (HasCause bytes (λ image. P (whole image)))
err_whole (Ok x) bytes len P told some cause = tt
err_whole (Err DiskFault) bytes len P told some cause = tt
err_whole (Err NoMemory) bytes len P told some cause = tt
err_whole (Err (BadRecord at)) None len P told some cause = tt
err_whole (Err (BadRecord at)) (Some image) len P told some cause = λ has. cause (subst P (whole_same image (omega arith)) has)

-- and what is said of the first image is said of the empty one
pub ok_first : {X : Type 0} (res : Result X RecordFault) (bytes first : Option (List ℕ)) (len : ℕ) (P : X → List ℕ → Type 0)
    → IfSome bytes (λ image. length image ≡ len) → len ≡ 0 → first ≡ Some (whole []) → IfOk res (λ x. IfSome first (P x))
    → IfOk res (λ x. IfSome bytes (λ image. P x (whole image)))
ok_first (Err fault) bytes first len P told none here is = tt
ok_first (Ok x) None first len P told none here is = tt
ok_first (Ok x) (Some image) first len P told none here is =
    subst (λ (i : List ℕ). P x (whole i)) (sym (empty_is image (told ∙ none)))
    (subst (λ (b : Option (List ℕ)). IfSome b (P x)) here is)

-- of which there is no bad record, where it fits
pub of_first : (first : Option (List ℕ)) (P : List ℕ → Type 0) (fault : RecordFault) → first ≡ Some (whole []) → P (whole [])
    → HasCause first P fault → IsOfImage fault
of_first first P DiskFault here fits cause = tt
of_first first P NoMemory here fits cause = tt
of_first first P (BadRecord at) here fits cause =
    (subst (λ (b : Option (List ℕ)). IfSome b (λ image. P image → ⊥)) here cause) fits

pub err_first : {X : Type 0} (res : Result X RecordFault) (first : Option (List ℕ)) (P : List ℕ → Type 0) → first ≡ Some (whole [])
    → P (whole []) → IfErr res (HasCause first P) → IfErr res IsOfImage
err_first (Ok x) first P here fits cause = tt
err_first (Err fault) first P here fits cause = of_first first P fault here fits cause

-- without the words of chains it is laid out for the registry
pub laid_without : (image : List ℕ) (r : Registry) (m : Members) → Holds image r m → IsLaidOut (unchained (whole image)) r
laid_without image r m holds =
    subst (λ (i : List ℕ). IsLaidOut i r) (entries_same (unchained (whole image)) (omega (arith, unchained_len (whole image) holds.size)))
    holds.pairs.holds.laid

-- and so it tells its registry
pub registry_is : (image : List ℕ) (r : Registry) (m : Members) → Holds image r m → r ≡ registry_in (unchained (whole image))
registry_is image r m holds =
    registry_told (unchained (whole image)) r holds.pairs.holds
    ∙ ap registry_in (entries_same (unchained (whole image)) (omega (arith, unchained_len (whole image) holds.size)))

pub told_there : (image : List ℕ) (r : Registry) (m : Members) (k : ℕ) → Holds image r m → k < block_count (whole image)
    → kind_of (block_in (whole image) k) ≡ 1
    → r.entry (entry_in (block_in (whole image) k)).id ≡ Some (entry_in (block_in (whole image) k))
told_there image r m k holds below kind =
    let old = whole image in
    let same = unchained_entry old k holds.size below kind in
    subst (λ (e : PrEntry). r.entry e.id ≡ Some e) same ((laid_without image r m holds).there k
    (omega (arith, below, unchained_count old holds.size)) (unchained_kind old k holds.size below ∙ kind))

pub told_only : (image : List ℕ) (r : Registry) (m : Members) (id : ℤ) (e : PrEntry) → Holds image r m → r.entry id ≡ Some e
    → (k : ℕ) × (k < block_count (whole image)) × (kind_of (block_in (whole image) k) ≡ 1) × (entry_in (block_in (whole image) k) ≡ e)
told_only image r m id e holds at =
    let old = whole image in
    let o = (laid_without image r m holds).only id e at in
    let below : o.0 < block_count old = omega (arith, o.1, unchained_count old holds.size) in
    let kind : kind_of (block_in old o.0) ≡ 1 = sym (unchained_kind old o.0 holds.size below) ∙ o.2 in
    (o.0, below, kind, sym (unchained_entry old o.0 holds.size below kind) ∙ o.3)
