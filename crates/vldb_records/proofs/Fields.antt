-- What is read of an entry's block does not rest on its next words.
use Rattle.std.proofs.Common.{◌≡◌, ℕ, zero, suc, ◌+◌, ◌<◌, ◌≤◌, inl, List, ◌∷◌, ◌++◌, length, slice_index, take, drop, map, min, refl, sym, ap, ◌∙◌, arith}
use Rattle.std.specs.List.{range_with_len}
use Rattle.std.proofs.lemmas.List.{drop_at, length-append, length-drop, length-take-le}
use Rattle.db_blocks.specs.Blocks.{block_in, block_place, word_at, IsWhole, kind_of, blanked}
use Rattle.db_blocks.specs.Bytes.{zeros}
use Rattle.db_blocks.proofs.BlockPlaces.{changed_laid, laid}
use Rattle.db_blocks.proofs.Lengths.{length-zeros}
use Rattle.db_chains.proofs.Bytes.{word_stays, blanked_stays}
use Rattle.vldb_entries.specs.declared.entries.VlSite.{VlSite}
use Rattle.vldb_entries.specs.Forms.{block_at, blocks_in, entry_in, name_in, site_in}
use Rattle.vldb_records.specs.Records.{unlinked, unlinked_free}

-- a block behind the head is a whole one
pub block_len : (image : List ℕ) (k : ℕ) → IsWhole 3132 image → k < blocks_in image → length (block_at image k) ≡ 192
unfolding block_in
block_len image k whole below = length-take-le 192 (drop (block_place 3132 k) image) (omega (
  arith,
  length-drop
      (block_place 3132 k) image,
  whole,
))

-- the numbers of an entry
pub number_stays : (block : List ℕ) (q : ℕ) → length block ≡ 192 → q + 4 ≤ 36 → word_at block q ≡ word_at (unlinked block) q
unfolding unlinked
number_stays block q size front = sym (word_stays 36 16 q block (blanked 36 16 block) (blanked_stays 36 16 block (omega arith))
    (omega arith) (inl front))

behind_stays : (block : List ℕ) (i : ℕ) → length block ≡ 192 → 52 ≤ i → i < 192 → slice_index block i ≡ slice_index (unlinked block) i
unfolding unlinked
behind_stays block i size behind below = sym ((blanked_stays 36 16 block (omega arith)).behind i behind (omega arith))

drop_stays : (block : List ℕ) → length block ≡ 192 → drop 52 (unlinked block) ≡ drop 52 block
unfolding unlinked laid
drop_stays block size =
    let z = zeros 16 in
    let len : length z ≡ 16 = length-zeros 16 in
    let front : length (take 36 block ++ z) ≡ 52 = omega (
      arith,
      length-append (take 36 block) z,
      length-take-le 36 block
          (omega arith),
      len,
    ) in
    ap (drop 52) (changed_laid block z 36 (omega arith)) ∙ drop_at (take 36 block ++ z) (drop (36 + length z) block) 52 front
    ∙ ap (λ (n : ℕ). drop (36 + n) block) len

pub name_stays : (block : List ℕ) → length block ≡ 192 → name_in block ≡ name_in (unlinked block)
unfolding name_in
name_stays block size = rw (drop_stays block size) refl

site_stays : (addresses block : List ℕ) (k : ℕ) → length block ≡ 192 → k < 13
    → site_in addresses block k ≡ site_in addresses (unlinked block) k
site_stays addresses block k size below =
    let place = behind_stays block (116 + k) size (omega arith) (omega arith) in
    let partition = behind_stays block (129 + k) size (omega arith) (omega arith) in
    let flags = behind_stays block (142 + k) size (omega arith) (omega arith) in
    rw (place, partition, flags) refl

same_sites : (f g : ℕ → VlSite) (from n : ℕ) → ((k : ℕ) → k < from + n → f k ≡ g k)
    → map f (range_with_len from n) ≡ map g (range_with_len from n)
same_sites f g from zero same = refl
same_sites f g from (suc n) same =
    ap (λ (x : VlSite). x ∷ map f (range_with_len (from + 1) n)) (same from (omega arith))
    ∙ ap (λ (xs : List VlSite). g from ∷ xs) (same_sites f g (from + 1) n (λ k lt. same k (omega arith)))

sites_stay : (addresses block : List ℕ) → length block ≡ 192
    → map (site_in addresses block) (range_with_len 0 (min 13 (word_at block 32)))
    ≡ map (site_in addresses (unlinked block)) (range_with_len 0 (min 13 (word_at (unlinked block) 32)))
sites_stay addresses block size =
    ap (λ (n : ℕ). map (site_in addresses block) (range_with_len 0 (min 13 n))) (number_stays block 32 size (omega arith))
    ∙ same_sites (site_in addresses block) (site_in addresses (unlinked block)) 0 (min 13 (word_at (unlinked block) 32))
    (λ k lt. site_stays addresses block k size (omega arith))

pub entry_stays : (addresses block : List ℕ) → length block ≡ 192 → entry_in addresses block ≡ entry_in addresses (unlinked block)
unfolding entry_in
entry_stays addresses block size =
    let name = name_stays block size in
    let flags = number_stays block 4 size (omega arith) in
    let rw_id = number_stays block 8 size (omega arith) in
    let ro = number_stays block 12 size (omega arith) in
    let backup = number_stays block 16 size (omega arith) in
    let clone = number_stays block 20 size (omega arith) in
    let op = number_stays block 24 size (omega arith) in
    let moment = number_stays block 28 size (omega arith) in
    let sites = sites_stay addresses block size in
    rw (name, flags, rw_id, ro, backup, clone, sites, op, moment) refl

-- a free block bears the mark of one
pub free_kind : (block : List ℕ) → length block ≡ 192 → unlinked_free block ≡ zeros 192 → kind_of block ≡ 0
unfolding unlinked_free zeros
free_kind block size free =
    sym (word_stays 4 4 0 block (blanked 4 4 block) (blanked_stays 4 4 block (omega arith)) (omega arith) (inl (omega arith)))
    ∙ ap kind_of free
