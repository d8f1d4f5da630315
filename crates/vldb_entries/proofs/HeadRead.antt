-- What the head of an image tells.
use Rattle.std.proofs.Common.{◌≡◌, ℕ, zero, suc, ◌+◌, ◌-◌, ◌*◌, ◌^◌, ◌<◌, ◌≤◌, List, [], ◌∷◌, ◌++◌, Option, Some, None, IfSome, length, get_or, take, drop, map, replicate, refl, sym, ap, subst, ◌∙◌, append_assoc, arith}
use Rattle.std.specs.Int.{w32, from_be_bytes}
use Rattle.std.specs.List.{flat_map, range_with_len, AllByRecursion}
use Rattle.std.proofs.lemmas.List.{drop_at, drop-drop, drop-take, take-take, length-append, length-replicate}
use Rattle.std.proofs.lemmas.List.FromFn.{fill_by_all}
use Rattle.std.proofs.lemmas.Nat.{from_be_bytes-to_be_bytes_4}
use Rattle.db_blocks.specs.Blocks.{word_at}
use Rattle.db_blocks.specs.Bytes.{number_word, word, words, zeros}
use Rattle.db_blocks.proofs.Lengths.{length-zeros}
use Rattle.vldb_entries.specs.Location.{Location, first_location}
use Rattle.vldb_entries.specs.Forms.{addresses_in, head_of, next_in, whole}

-- a word in the front of an image
in_front : (image : List ℕ) (len at more : ℕ) → at + more ≡ len → 4 ≤ more → word_at (take len image) at ≡ word_at image at
in_front image len at more size long =
    subst (λ (n : ℕ). word_at (take n image) at ≡ word_at image at) size
    (ap (λ (b : List ℕ). from_be_bytes w32 (take 4 b)) (drop-take at more image)
    ∙ ap (from_be_bytes w32) (take-take 4 more (drop at image) long))

pub length-words : (xs : List ℕ) → length (flat_map word xs) ≡ 4 * length xs
length-words [] = refl
length-words (x ∷ xs) = omega (arith, length-append (word x) (flat_map word xs), length-words xs)

-- ---- the next volume id

next_of_head : (s : Location) (count : ℕ) → s.next_volume < 2 ^ 32 → next_in (head_of s count) ≡ s.next_volume
unfolding head_of words
next_of_head s count lt = from_be_bytes-to_be_bytes_4 s.next_volume lt

pub next_of : (image : List ℕ) (s : Location) (count : ℕ) → take 3132 image ≡ head_of s count → s.next_volume < 2 ^ 32
    → next_in image ≡ s.next_volume
next_of image s count head lt =
    sym (in_front image 3132 8 3124 refl (omega arith)) ∙ ap (λ (b : List ℕ). word_at b 8) head ∙ next_of_head s count lt

-- ---- the addresses

words_read : (xs rest : List ℕ) (k : ℕ) → k < length xs → AllByRecursion (λ n. n < 2 ^ 32) xs
    → from_be_bytes w32 (take 4 (drop (4 * k) (flat_map word xs ++ rest))) ≡ get_or xs k 0
words_read [] rest k lt fits = absurd (omega arith)
words_read (x ∷ xs) rest zero lt fits = from_be_bytes-to_be_bytes_4 x fits.0
words_read (x ∷ xs) rest (suc k) lt fits =
    let n : 4 * suc k ≡ 4 + 4 * k = omega arith in
    let all = flat_map word (x ∷ xs) ++ rest in
    let e : drop (4 * suc k) all ≡ drop (4 * k) (flat_map word xs ++ rest) = ap (λ (m : ℕ). drop m all) n ∙ sym (drop-drop (4 * k) 4 all) in
    ap (λ (b : List ℕ). from_be_bytes w32 (take 4 b)) e ∙ words_read xs rest k (omega arith) fits.1

address_of_head : (s : Location) (count k : ℕ) → k < length s.addresses → AllByRecursion (λ n. n < 2 ^ 32) s.addresses
    → word_at (head_of s count) (64 + 4 * k) ≡ get_or s.addresses k 0
unfolding head_of words
address_of_head s count k lt fits =
    let numbers : List ℕ = flat_map word (0x564C4442 ∷ 1 ∷ s.next_volume ∷ []) ++ number_word count in
    let front = numbers ++ zeros 48 in
    let places = flat_map word s.addresses in
    let size : length front ≡ 64 = omega (arith, length-append numbers (zeros 48), length-zeros 48) in
    let behind : drop 64 ((front ++ places) ++ zeros 2048) ≡ places ++ zeros 2048 = ap (drop 64) (append_assoc front places (zeros 2048))
    ∙ drop_at front (places ++ zeros 2048) 64 size in
    let at : drop (64 + 4 * k) ((front ++ places) ++ zeros 2048) ≡ drop (4 * k) (places ++ zeros 2048) = sym
    (drop-drop (4 * k) 64 ((front ++ places) ++ zeros 2048)) ∙ ap (drop (4 * k)) behind in
    ap (λ (b : List ℕ). from_be_bytes w32 (take 4 b)) at ∙ words_read s.addresses (zeros 2048) k lt fits

pub addresses_of : (image : List ℕ) (s : Location) (count : ℕ) → take 3132 image ≡ head_of s count → length s.addresses ≡ 255
    → AllByRecursion (λ n. n < 2 ^ 32) s.addresses → addresses_in image ≡ s.addresses
unfolding addresses_in
addresses_of image s count head size fits =
    sym (fill_by_all (λ k. word_at image (64 + 4 * k)) s.addresses 255 0 size
    (λ k lt. let more : 64 + 4 * k + (3068 - 4 * k) ≡ 3132 = omega arith in
    sym (address_of_head s count k (omega arith) fits) ∙ ap (λ (b : List ℕ). word_at b (64 + 4 * k)) (sym head)
    ∙ in_front image 3132 (64 + 4 * k) (3068 - 4 * k) more (omega arith)))

-- ---- the empty image

pub length-head : (s : Location) (count : ℕ) → length s.addresses ≡ 255 → length (head_of s count) ≡ 3132
unfolding head_of words
length-head s count size =
    let numbers : List ℕ = flat_map word (0x564C4442 ∷ 1 ∷ s.next_volume ∷ []) ++ number_word count in
    let len : length numbers ≡ 16 = refl in
    omega (
      arith,
      length-append ((numbers ++ zeros 48) ++ flat_map word s.addresses) (zeros 2048),
      length-append (numbers ++ zeros 48) (flat_map word s.addresses),
      length-append numbers (zeros 48),
      length-zeros 48,
      length-zeros 2048,
      length-words s.addresses,
    )

pub whole_same : (image : List ℕ) → 0 < length image → whole image ≡ image
unfolding whole
whole_same [] more = absurd (omega arith)
whole_same (b ∷ bytes) more = refl

pub whole_empty : (image : List ℕ) → length image ≡ 0 → whole image ≡ head_of first_location 0
unfolding whole
whole_empty [] none = refl
whole_empty (b ∷ bytes) none = absurd (omega arith)

zeros_fit : (n : ℕ) → AllByRecursion (λ host. host < 2 ^ 32) (replicate n 0)
zeros_fit zero = tt
zeros_fit (suc n) = (omega arith, zeros_fit n)

pub next_empty : (bytes : Option (List ℕ)) (len : ℕ) → IfSome bytes (λ image. length image ≡ len) → len ≡ 0
    → IfSome bytes (λ image. 536870912 ≡ next_in (whole image))
next_empty None len told none = tt
next_empty (Some image) len told none = sym (ap next_in (whole_empty image (told ∙ none)) ∙ next_of_head first_location 0 (omega arith))

addresses_first : addresses_in (head_of first_location 0) ≡ replicate 255 0
unfolding addresses_in
addresses_first =
    sym (fill_by_all (λ k. word_at (head_of first_location 0) (64 + 4 * k)) (replicate 255 0) 255 0 (length-replicate {A = ℕ} 255 0)
    (λ k lt. sym (address_of_head first_location 0 k (omega (arith, length-replicate {A = ℕ} 255 0)) (zeros_fit 255))))

pub addresses_empty : (bytes : Option (List ℕ)) (len : ℕ) → IfSome bytes (λ image. length image ≡ len) → len ≡ 0
    → IfSome bytes (λ image. replicate 255 0 ≡ addresses_in (whole image))
addresses_empty None len told none = tt
addresses_empty (Some image) len told none = sym (ap addresses_in (whole_empty image (told ∙ none)) ∙ addresses_first)

-- ---- an image that is not empty

pub next_read : (bytes : Option (List ℕ)) (len : ℕ) (buf : List ℕ) → IfSome bytes (λ image. length image ≡ len) → 0 < len
    → IfSome bytes (λ image. buf ≡ take 4 (drop 8 image)) → IfSome bytes (λ image. word_at buf 0 ≡ next_in (whole image))
next_read None len buf told more is = tt
next_read (Some image) len buf told more is =
    ap (λ (b : List ℕ). from_be_bytes w32 (take 4 b)) is ∙ ap (from_be_bytes w32) (take-take 4 4 (drop 8 image) (omega arith))
    ∙ ap next_in (sym (whole_same image (omega arith)))

buffered : (image buf : List ℕ) (k : ℕ) → k < 255 → buf ≡ take 1020 (drop 64 image) → word_at buf (4 * k) ≡ word_at image (64 + 4 * k)
buffered image buf k lt is =
    let more : 4 * k + (1020 - 4 * k) ≡ 1020 = omega arith in
    ap (λ (b : List ℕ). word_at b (4 * k)) is ∙ in_front (drop 64 image) 1020 (4 * k) (1020 - 4 * k) more (omega arith)
    ∙ ap (λ (b : List ℕ). from_be_bytes w32 (take 4 b)) (drop-drop (4 * k) 64 image)

same_on : (f g : ℕ → ℕ) (from n : ℕ) → ((k : ℕ) → k < from + n → f k ≡ g k) → map f (range_with_len from n) ≡ map g (range_with_len from n)
same_on f g from zero same = refl
same_on f g from (suc n) same =
    ap (λ (x : ℕ). x ∷ map f (range_with_len (from + 1) n)) (same from (omega arith))
    ∙ ap (λ (xs : List ℕ). g from ∷ xs) (same_on f g (from + 1) n (λ k lt. same k (omega arith)))

pub addresses_read : (bytes : Option (List ℕ)) (len : ℕ) (buf : List ℕ) → IfSome bytes (λ image. length image ≡ len) → 0 < len
    → IfSome bytes (λ image. buf ≡ take 1020 (drop 64 image))
    → IfSome bytes (λ image. map (λ k. word_at buf (4 * k)) (range_with_len 0 255) ≡ addresses_in (whole image))
unfolding addresses_in
addresses_read None len buf told more is = tt
addresses_read (Some image) len buf told more is =
    same_on (λ k. word_at buf (4 * k)) (λ k. word_at image (64 + 4 * k)) 0 255 (λ k lt. buffered image buf k (omega arith) is)
    ∙ ap addresses_in (sym (whole_same image (omega arith)))
