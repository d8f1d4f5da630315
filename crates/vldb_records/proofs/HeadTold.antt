-- What the head of an image tells, whatever its chains are, and an image that is read whole.
use Rattle.std.proofs.Common.{◌≡◌, ℕ, zero, suc, ◌+◌, ◌-◌, ◌*◌, ◌<◌, ◌≤◌, ◌⊎◌, inl, inr, List, [], ◌∷◌, Option, Some, None, IfSome, Result, Ok, Err, IfOk, IfErr, length, take, drop, map, refl, sym, ap, subst, ◌∙◌, arith}
use Rattle.std.specs.Int.{w32, from_be_bytes}
use Rattle.std.specs.List.{range_with_len}
use Rattle.std.proofs.lemmas.List.{drop-take, take-take, length-take-le}
use Rattle.db_image.specs.declared.faults.RecordFault.{RecordFault}
use Rattle.db_image.specs.declared.faults.RecordFault.TheVariants.{DiskFault, BadRecord, NoMemory}
use Rattle.db_blocks.specs.Blocks.{word_at, IsWhole, blanked}
use Rattle.db_blocks.specs.Ends.{HasCause}
use Rattle.db_chains.specs.declared.links.Links.{Links}
use Rattle.db_chains.specs.Chains.{HasChain}
use Rattle.db_chains.specs.Ends.{IsBadWhere}
use Rattle.db_chains.proofs.Bytes.{word_stays, blanked_len, blanked_stays}
use Rattle.db_chains.proofs.Words.{right_names}
use Rattle.vldb_entries.specs.Location.{Location, first_location}
use Rattle.vldb_entries.specs.Forms.{addresses_in, blocks_in, head_of, next_in, whole}
use Rattle.vldb_entries.proofs.HeadRead.{addresses_of, length-head, next_of, whole_empty, whole_same}
use Rattle.vldb_records.specs.Records.{Holds, IsLaidOut, unlinked_head}
use Rattle.vldb_records.specs.Ends.{HoldsSome}

-- ---- words of the head

in_front : (image : List ℕ) (p : ℕ) → p + 4 ≤ 3132 → word_at (take 3132 image) p ≡ word_at image p
in_front image p within =
    let more : ℕ = 3132 - p in
    let size : p + more ≡ 3132 = omega arith in
    ap (λ (n : ℕ). word_at (take n image) p) (sym size)
    ∙ ap (λ (b : List ℕ). from_be_bytes w32 (take 4 b)) (drop-take p more image)
    ∙ ap (from_be_bytes w32) (take-take 4 more (drop p image) (omega arith))

head_len : (image : List ℕ) → 3132 ≤ length image → length (take 3132 image) ≡ 3132
head_len image long = length-take-le 3132 image long

-- a word beside the first free block and the first words of the chains
pub head_word : (image : List ℕ) (p : ℕ) → 3132 ≤ length image → (p + 4 ≤ 16) ⊎ (20 ≤ p) → p + 4 ≤ 1084
    → word_at image p ≡ word_at (unlinked_head (take 3132 image)) p
unfolding unlinked_head
head_word image p long beside within =
    let head = take 3132 image in
    let size = head_len image long in
    let mid = blanked 16 4 head in
    let len : length mid ≡ 3132 = blanked_len 16 4 head (omega arith) ∙ size in
    sym (word_stays 1084 2048 p mid (blanked 1084 2048 mid) (blanked_stays 1084 2048 mid (omega arith)) (omega arith) (inl within)
    ∙ word_stays 16 4 p head mid (blanked_stays 16 4 head (omega arith)) (omega arith) beside
    ∙ in_front image p (omega arith))

pub unlinked_len : (image : List ℕ) → 3132 ≤ length image → length (unlinked_head (take 3132 image)) ≡ 3132
unfolding unlinked_head
unlinked_len image long =
    let head = take 3132 image in
    let size = head_len image long in
    let len : length (blanked 16 4 head) ≡ 3132 = blanked_len 16 4 head (omega arith) ∙ size in
    blanked_len 1084 2048 (blanked 16 4 head) (omega arith) ∙ len

pub take_all : (n : ℕ) (xs : List ℕ) → length xs ≡ n → take n xs ≡ xs
take_all zero [] len = refl
take_all zero (x ∷ xs) len = absurd (omega arith)
take_all (suc n) [] len = absurd (omega arith)
take_all (suc n) (x ∷ xs) len = ap (λ (ys : List ℕ). x ∷ ys) (take_all n xs (omega arith))

laid_long : (image : List ℕ) (s : Location) → IsLaidOut image s → 3132 ≤ length image
laid_long image s laid = omega (arith, laid.size)

unlinked_front : (image : List ℕ) (s : Location) → IsLaidOut image s
    → take 3132 (unlinked_head (take 3132 image)) ≡ head_of s (blocks_in image)
unlinked_front image s laid =
    take_all 3132 (unlinked_head (take 3132 image)) (unlinked_len image (laid_long image s laid)) ∙ laid.head

same_words : (f g : ℕ → ℕ) (from n : ℕ) → ((k : ℕ) → k < from + n → f k ≡ g k)
    → map f (range_with_len from n) ≡ map g (range_with_len from n)
same_words f g from zero same = refl
same_words f g from (suc n) same =
    ap (λ (x : ℕ). x ∷ map f (range_with_len (from + 1) n)) (same from (omega arith))
    ∙ ap (λ (xs : List ℕ). g from ∷ xs) (same_words f g (from + 1) n (λ k lt. same k (omega arith)))

addresses_stay : (image : List ℕ) → 3132 ≤ length image → addresses_in image ≡ addresses_in (unlinked_head (take 3132 image))
unfolding addresses_in
addresses_stay image long =
    same_words (λ k. word_at image (64 + 4 * k)) (λ k. word_at (unlinked_head (take 3132 image)) (64 + 4 * k)) 0 255
    (λ k lt. head_word image (64 + 4 * k) long (inr (omega arith)) (omega arith))

pub laid_addresses : (image : List ℕ) (s : Location) → Holds image s → addresses_in (whole image) ≡ s.addresses
laid_addresses image s holds =
    let head = unlinked_head (take 3132 (whole image)) in
    addresses_stay (whole image) (laid_long (whole image) s holds.laid)
    ∙ addresses_of head s (blocks_in (whole image)) (unlinked_front (whole image) s holds.laid) holds.valid.places holds.valid.words

pub addresses_found : (bytes : Option (List ℕ)) (found : List ℕ) → IfSome bytes (λ image. found ≡ addresses_in (whole image))
    → IfSome bytes (λ image. (s : Location) → Holds image s → found ≡ s.addresses)
addresses_found None found is = tt
addresses_found (Some image) found is = λ s holds. is ∙ laid_addresses image s holds

pub ok_addresses : (r : Result (List ℕ) RecordFault) (bytes : Option (List ℕ))
    → IfOk r (λ found. IfSome bytes (λ image. found ≡ addresses_in (whole image)))
    → IfOk r (λ found. IfSome bytes (λ image. (s : Location) → Holds image s → found ≡ s.addresses))
ok_addresses (Err fault) bytes is = tt
ok_addresses (Ok found) bytes is = addresses_found bytes found is

pub laid_next : (image : List ℕ) (s : Location) → Holds image s → next_in (whole image) ≡ s.next_volume
laid_next image s holds =
    head_word (whole image) 8 (laid_long (whole image) s holds.laid) (inl (omega arith)) (omega arith)
    ∙ next_of (unlinked_head (take 3132 (whole image))) s (blocks_in (whole image)) (unlinked_front
    (whole image) s holds.laid) holds.valid.next

pub next_found : (bytes : Option (List ℕ)) (found : ℕ) → IfSome bytes (λ image. found ≡ next_in (whole image))
    → IfSome bytes (λ image. (s : Location) → Holds image s → found ≡ s.next_volume)
next_found None found is = tt
next_found (Some image) found is = λ s holds. is ∙ laid_next image s holds

-- ---- an image that is not empty

pub fault_whole : (bytes : Option (List ℕ)) (len : ℕ) (fault : RecordFault) → IfSome bytes (λ image. length image ≡ len) → 0 < len
    → HasCause bytes (IsWhole 3132) fault → HasCause bytes HoldsSome fault
fault_whole bytes len DiskFault told more cause = tt
fault_whole bytes len NoMemory told more cause = tt
fault_whole None len (BadRecord at) told more cause = tt
fault_whole (Some image) len (BadRecord at) told more cause = λ some.
    cause (subst (λ (i : List ℕ). IsWhole 3132 i) (whole_same image (omega arith)) some.1.laid.size)

pub err_whole : {X : Type 0} (r : Result X RecordFault) (bytes : Option (List ℕ)) (len : ℕ)
    → IfSome bytes (λ image. length image ≡ len) → 0 < len → IfErr r (HasCause bytes (IsWhole 3132)) → IfErr r (HasCause bytes HoldsSome)
err_whole (Ok x) bytes len told more is = tt
err_whole (Err fault) bytes len told more is = fault_whole bytes len fault told more is

-- what is said of it is said of it read whole
pub told_whole : (bytes : Option (List ℕ)) (len : ℕ) (P : List ℕ → Type 0) → IfSome bytes (λ image. length image ≡ len) → 0 < len
    → IfSome bytes P → IfSome bytes (λ image. P (whole image))
told_whole None len P told more is = tt
told_whole (Some image) len P told more is = subst P (sym (whole_same image (omega arith))) is

pub bad_whole : (bytes : Option (List ℕ)) (len : ℕ) (bad : List ℕ → ℕ → Type 0) (fault : RecordFault)
    → IfSome bytes (λ image. length image ≡ len) → 0 < len → IsBadWhere bytes bad fault
    → IsBadWhere bytes (λ image. bad (whole image)) fault
bad_whole bytes len bad DiskFault told more is = tt
bad_whole bytes len bad NoMemory told more is = tt
bad_whole None len bad (BadRecord at) told more is = tt
bad_whole (Some image) len bad (BadRecord at) told more is = subst (λ (i : List ℕ). bad i at) (sym (whole_same image (omega arith))) is

pub cause_whole : (bytes : Option (List ℕ)) (len : ℕ) (fits : List ℕ → Type 0) (fault : RecordFault)
    → IfSome bytes (λ image. length image ≡ len) → 0 < len → HasCause bytes fits fault → HasCause bytes (λ image. fits (whole image)) fault
cause_whole bytes len fits DiskFault told more cause = tt
cause_whole bytes len fits NoMemory told more cause = tt
cause_whole None len fits (BadRecord at) told more cause = tt
cause_whole (Some image) len fits (BadRecord at) told more cause = λ some. cause (subst fits (whole_same image (omega arith)) some)

pub err_bad_whole : {X : Type 0} (r : Result X RecordFault) (bytes : Option (List ℕ)) (len : ℕ) (bad : List ℕ → ℕ → Type 0)
    → IfSome bytes (λ image. length image ≡ len) → 0 < len → IfErr r (IsBadWhere bytes bad)
    → IfErr r (IsBadWhere bytes (λ image. bad (whole image)))
err_bad_whole (Ok x) bytes len bad told more is = tt
err_bad_whole (Err fault) bytes len bad told more is = bad_whole bytes len bad fault told more is

pub err_cause_whole : {X : Type 0} (r : Result X RecordFault) (bytes : Option (List ℕ)) (len : ℕ) (fits : List ℕ → Type 0)
    → IfSome bytes (λ image. length image ≡ len) → 0 < len → IfErr r (HasCause bytes fits)
    → IfErr r (HasCause bytes (λ image. fits (whole image)))
err_cause_whole (Ok x) bytes len fits told more is = tt
err_cause_whole (Err fault) bytes len fits told more is = cause_whole bytes len fits fault told more is

pub ok_whole : {X : Type 0} (r : Result X RecordFault) (bytes : Option (List ℕ)) (len : ℕ) (P : X → List ℕ → Type 0)
    → IfSome bytes (λ image. length image ≡ len) → 0 < len → IfOk r (λ f. IfSome bytes (P f))
    → IfOk r (λ f. IfSome bytes (λ image. P f (whole image)))
ok_whole (Err e) bytes len P told more is = tt
ok_whole (Ok f) None len P told more is = tt
ok_whole (Ok f) (Some image) len P told more is = subst (P f) (sym (whole_same image (omega arith))) is

-- ---- the empty image

pub none_in : (image : List ℕ) → length image ≡ 0 → blocks_in (whole image) ≡ 0
none_in image none = ap blocks_in (whole_empty image none) ∙ omega (arith, length-head first_location 0 refl)

-- it has no chain with a word
pub no_words : (l : Links) (image : List ℕ) (at : ℕ) (ws : List ℕ) → l.head ≡ 3132 → length image ≡ 0
    → HasChain l (whole image) at ws → ws ≡ []
no_words l image at [] head none chain = refl
no_words l image at (w ∷ ws) head none chain =
    let n = right_names l (whole image) w chain.1 in
    let long : length (whole image) ≡ 3132 = ap length (whole_empty image none) ∙ length-head first_location 0 refl in
    absurd (omega (arith, n.some, n.block, long, head))
