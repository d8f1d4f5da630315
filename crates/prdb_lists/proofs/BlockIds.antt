-- What is written into a block is read of it.
use Rattle.std.proofs.Common.{◌≡◌, ℕ, ℤ, zero, suc, ◌+◌, ◌*◌, ◌/◌, ◌%◌, ◌^◌, ◌<◌, true, List, [], ◌∷◌, ◌++◌, length, get_or, take, drop, map, refl, sym, ap, ◌∙◌, arith}
use Rattle.std.specs.Prelude.{FitsSigned}
use Rattle.std.specs.Int.{w32, cast_signed, from_be_bytes}
use Rattle.std.specs.List.{All}
use Rattle.std.proofs.lemmas.Bool.{and_from, eq-eqb}
use Rattle.std.proofs.lemmas.Bool.Decides.{Decides-int_eq}
use Rattle.std.proofs.lemmas.Int.{to_z-of_z}
use Rattle.std.proofs.lemmas.List.{same_lists, take-take, drop-drop, length-map, get_or-map}
use Rattle.std.proofs.lemmas.List.FromFn.{length-map-range_with_len, get_or-map-range_with_len, map-range_with_len_more}
use Rattle.std.proofs.lemmas.Nat.{from_be_bytes-to_be_bytes_4}
use Rattle.db_blocks.specs.Blocks.{word_at, kind_of}
use Rattle.db_blocks.specs.Bytes.{word, words}
use Rattle.prdb_layout.specs.Bytes.{bits}
use Rattle.prdb_layout.specs.Records.{signed_at}
use Rattle.prdb_layout.proofs.Lengths.{bits_below}
use Rattle.prdb_lists.specs.Blocks.{ids_in, is_more_of}
use Rattle.prdb_lists.specs.Layout.{PairList, id_field, link_to, link_word, list_words, more_block}

-- ---- words

four_more : (i : ℕ) → 4 * suc i ≡ suc (suc (suc (suc (4 * i))))
four_more i = omega arith

pub word_of : (ns rest : List ℕ) (i : ℕ) → i < length ns → get_or ns i 0 < 2 ^ 32 → word_at (words ns ++ rest) (4 * i) ≡ get_or ns i 0
unfolding words
word_of [] rest i below fits = absurd (omega arith)
word_of (n ∷ ns) rest zero below fits = from_be_bytes-to_be_bytes_4 n fits
word_of (n ∷ ns) rest (suc i) below fits =
    ap (λ (at : ℕ). word_at (words (n ∷ ns) ++ rest) at) (four_more i) ∙ word_of ns rest i (omega arith) fits

pub word_in : (ns rest block : List ℕ) (at i : ℕ) → drop at block ≡ words ns ++ rest → i < length ns → get_or ns i 0 < 2 ^ 32
    → word_at block (at + 4 * i) ≡ get_or ns i 0
word_in ns rest block at i is below fits =
    ap (λ (l : List ℕ). from_be_bytes w32 (take 4 l)) (sym (drop-drop (4 * i) at block) ∙ ap (drop (4 * i)) is)
    ∙ word_of ns rest i below fits

-- ---- links

two_steps : (n : ℕ) → (n / 2 ^ 16 ≡ n / 2 ^ 8 / 256) × (n / 2 ^ 24 ≡ n / 2 ^ 16 / 256)
two_steps n = (omega arith, omega arith)

-- a link is read as the number that was written, whatever it is
pub link_read : (n : ℕ) → from_be_bytes w32 (link_word n) ≡ n
link_read n = let steps = two_steps n in omega (arith, steps.0, steps.1)

first_byte : (n : ℕ) → n < 2 ^ 32 → n / 2 ^ 24 ≡ n / 2 ^ 24 % 256
first_byte n small = omega arith

-- below 2 ^ 32 it is a word
pub link_small : (n : ℕ) → n < 2 ^ 32 → word n ≡ link_word n
link_small n small = ap (λ (b : ℕ). b ∷ n / 2 ^ 16 % 256 ∷ n / 2 ^ 8 % 256 ∷ n % 256 ∷ []) (sym (first_byte n small))

-- ---- ids

id_in : (ids : List ℤ) (rest block : List ℕ) (at i : ℕ) (d : ℤ) → All (λ id. FitsSigned w32 id) ids
    → drop at block ≡ words (map bits ids) ++ rest → i < length ids
    → signed_at block (at + 4 * i) ≡ get_or ids i d
id_in ids rest block at i d fits is below =
    let fit : FitsSigned w32 (get_or ids i d) = fits i d below in
    let read : get_or (map bits ids) i 0 ≡ bits (get_or ids i d) = get_or-map bits ids i d 0 below in
    let small : get_or (map bits ids) i 0 < 2 ^ 32 = omega (arith, read, bits_below (get_or ids i d) fit) in
    ap (cast_signed w32) (word_in (map bits ids) rest block at i is (omega (arith, length-map ids bits)) small ∙ read)
    ∙ to_z-of_z w32 (get_or ids i d) fit

pub ids_read : (ids : List ℤ) (rest block : List ℕ) (at count : ℕ) → All (λ id. FitsSigned w32 id) ids
    → drop at block ≡ words (map bits ids) ++ rest
    → count ≡ length ids → ids_in block at count ≡ ids
ids_read ids rest block at count fits is len =
    same_lists (ids_in block at count) ids (length-map-range_with_len (λ i. signed_at block (at + 4 * i)) 0 count ∙ len)
    (λ k d below.
    let short : k < count = omega (arith, below, length-map-range_with_len (λ i. signed_at block (at + 4 * i)) 0 count) in
    get_or-map-range_with_len (λ i. signed_at block (at + 4 * i)) 0 count k k d short (omega arith)
    ∙ id_in ids rest block at k d fits is (omega arith))

pub ids_more : (block : List ℕ) (at i : ℕ) → ids_in block at (i + 1) ≡ ids_in block at i ++ signed_at block (at + 4 * i) ∷ []
ids_more block at i = map-range_with_len_more (λ j. signed_at block (at + 4 * j)) 0 i i (omega arith)

-- ---- a continuation block

pub kind_of_more : (entry : ℤ) (next : ℕ) (ids : List ℤ) → kind_of (more_block entry next ids) ≡ 2
unfolding words
kind_of_more entry next ids = refl

pub entry_of_more : (entry : ℤ) (next : ℕ) (ids : List ℤ) → FitsSigned w32 entry → signed_at (more_block entry next ids) 4 ≡ entry
unfolding words
entry_of_more entry next ids fits =
    ap (cast_signed w32) (from_be_bytes-to_be_bytes_4 (bits entry) (bits_below entry fits)) ∙ to_z-of_z w32 entry fits

pub is_more : (entry : ℤ) (next : ℕ) (ids : List ℤ) → FitsSigned w32 entry → is_more_of entry (more_block entry next ids) ≡ true
is_more entry next ids fits =
    and_from _ _ (eq-eqb (kind_of (more_block entry next ids)) 2 (kind_of_more entry next ids))
    ((Decides-int_eq (signed_at (more_block entry next ids) 4) entry).1 (entry_of_more entry next ids fits))

pub next_of_more : (entry : ℤ) (next : ℕ) (ids : List ℤ) → word_at (more_block entry next ids) 8 ≡ next
unfolding words
next_of_more entry next ids = link_read next

pub ids_of_more : (entry : ℤ) (next : ℕ) (ids : List ℤ) → drop 12 (more_block entry next ids) ≡ id_field 180 ids
unfolding words
ids_of_more entry next ids = refl

-- ---- the front of an entry's block

four_front : (xs : List ℕ) → take 4 (drop 4 xs) ≡ drop 4 (take 8 xs)
four_front [] = refl
four_front (a ∷ []) = refl
four_front (a ∷ b ∷ []) = refl
four_front (a ∷ b ∷ c ∷ []) = refl
four_front (a ∷ b ∷ c ∷ d ∷ xs) = refl

pub count_of : (block : List ℕ) (l : PairList) → take 8 (drop 24 block) ≡ list_words l → length l.ids < 2 ^ 32
    → word_at block 24 ≡ length l.ids
count_of block l is fits =
    ap (from_be_bytes w32) (sym (take-take 4 8 (drop 24 block) (omega arith)) ∙ ap (take 4) is)
    ∙ from_be_bytes-to_be_bytes_4 (length l.ids) fits

pub link_of : (block : List ℕ) (l : PairList) → take 8 (drop 24 block) ≡ list_words l → word_at block 28 ≡ link_to l.more
link_of block l is =
    ap (from_be_bytes w32) (ap (take 4) (sym (drop-drop 4 24 block)) ∙ four_front (drop 24 block) ∙ ap (drop 4) is)
    ∙ link_read (link_to l.more)
