-- No change makes an image shorter, whatever it holds.
use Rattle.std.proofs.Common.{ℕ, ◌+◌, ◌-◌, ◌*◌, ◌/◌, ◌≤◌, Bool, true, false, cond, eqb, List, [], ◌∷◌, length, take, drop, arith}
use Rattle.std.specs.Str.{bytes_eq}
use Rattle.std.proofs.lemmas.List.{places}
use Rattle.ubik_types.specs.Image.{changed}
use Rattle.ubik_types.specs.declared.images.Change.TheVariants.{Put}
use Rattle.db_blocks.specs.Blocks.{block_count, block_place, with_block, word_at}
use Rattle.db_blocks.specs.Bytes.{number_word, word, words}
use Rattle.db_chains.specs.declared.links.Links.{Links}
use Rattle.db_chains.specs.Changes.{place_above, place_of, put_in, put_word, taken_out, without}
use Rattle.db_chains.specs.Free.{blank, free_links, next_number, with_freed, with_new, with_taken}
use Rattle.db_chains.specs.Links.{next_place}
use Rattle.vldb_chains.specs.Keys.{id_chain, name_chain}
use Rattle.vldb_chains.specs.Places.{free_blocks, id_links, name_links}
use Rattle.vldb_entries.specs.declared.entries.VlEntry.{VlEntry}
use Rattle.vldb_entries.specs.Forms.{addresses_in, block_at, block_of, name_in, next_in, whole}
use Rattle.vldb_records.specs.Changes.{after_insert, after_remove, after_replace, after_set_next, after_set_places, entered, first_by_id, id_moved, left, moved, name_moved, with_fields, without_id, word_of_id}

grows_put : (image bytes : List ℕ) (at : ℕ) → length image ≤ length (changed image (Put at bytes))
grows_put image bytes at = grind (arith, places)

either : (b : Bool) (x y : List ℕ) (least : ℕ) → least ≤ length x → least ≤ length y → least ≤ length (cond b x y)
either true x y least first second = first
either false x y least first second = second

grows_word : (at n : ℕ) (image : List ℕ) → length image ≤ length (put_word at n image)
unfolding put_word
grows_word at n image = grows_put image (number_word n) at

grows_in : (l : Links) (at w : ℕ) (image : List ℕ) → length image ≤ length (put_in l at w image)
unfolding put_in
grows_in l at w image =
    let mid = put_word (next_place l w) (word_at image at) image in
    omega (arith, grows_word (next_place l w) (word_at image at) image, grows_word at w mid)

grows_out : (l : Links) (at : ℕ) (image : List ℕ) → length image ≤ length (taken_out l at image)
unfolding taken_out
grows_out l at image =
    let p = next_place l (word_at image at) in
    let mid = put_word at (word_at image p) image in
    omega (arith, grows_word at (word_at image p) image, grows_word p 0 mid)

grows_whole : (image : List ℕ) → length image ≤ length (whole image)
unfolding whole
grows_whole [] = omega arith
grows_whole (b ∷ bytes) = omega arith

-- ---- the words of the head

pub grows_places : (image addresses : List ℕ) → length image ≤ length (after_set_places addresses image)
unfolding after_set_places
grows_places image addresses = omega (arith, grows_whole image, grows_put (whole image) (words addresses) 64)

pub grows_next : (image : List ℕ) (id : ℕ) → length image ≤ length (after_set_next id image)
unfolding after_set_next
grows_next image id =
    either (eqb (next_in (whole image)) id) image (changed (whole image) (Put 8 (word id))) (length image) (omega arith)
    (omega (arith, grows_whole image, grows_put (whole image) (word id) 8))

-- ---- an entry comes in

grows_first : (id w : ℕ) (image : List ℕ) → length image ≤ length (first_by_id id w image)
grows_first id w image =
    either (eqb id 0) image (put_in id_links (id_chain id) w image) (length image) (omega arith) (grows_in id_links (id_chain id) w image)

grows_entered : (n : ℕ) (e : VlEntry) (image : List ℕ) → length image ≤ length (entered n e image)
unfolding entered
grows_entered n e image =
    let a = put_in name_links (name_chain e.name) n image in
    let b = first_by_id e.rw (4 * n) a in
    let c = first_by_id e.ro (4 * n + 1) b in
    omega (
      arith,
      grows_in name_links (name_chain e.name) n image,
      grows_first e.rw (4 * n) a,
      grows_first e.ro (4 * n + 1) b,
      grows_first e.backup (4 * n + 2) c,
    )

grows_new : (count : ℕ) (block image : List ℕ) → length image ≤ length (with_new free_blocks count block image)
unfolding with_new
grows_new count block image =
    let mid = with_block 3132 count block image in
    omega (arith, grows_put image block (block_place 3132 count), grows_word free_blocks.count (count + 1) mid)

grows_taken : (block image : List ℕ) → length image ≤ length (with_taken free_blocks block image)
unfolding with_taken
grows_taken block image =
    let w = word_at image 16 in
    let out = taken_out (free_links free_blocks) 16 image in
    let used = with_block 3132 (w - 1) block out in
    let made = with_new free_blocks (block_count 3132 image) block image in
    either (eqb w 0) made used (length image) (grows_new (block_count 3132 image) block image)
    (omega (arith, grows_out (free_links free_blocks) 16 image, grows_put out block (block_place 3132 (w - 1))))

pub grows_insert : (image : List ℕ) (e : VlEntry) → length image ≤ length (after_insert e image)
unfolding after_insert
grows_insert image e =
    let old = whole image in
    let block = block_of (addresses_in old) e in
    let base = with_taken free_blocks block old in
    omega (arith, grows_whole image, grows_taken block old, grows_entered (next_number free_blocks old) e base)

-- ---- an entry goes out

grows_without : (l : Links) (at w : ℕ) (image : List ℕ) → length image ≤ length (without l at w image)
grows_without l at w image = grows_out l (place_of l at w image) image

grows_without_id : (id w : ℕ) (image : List ℕ) → length image ≤ length (without_id id w image)
grows_without_id id w image =
    either (eqb id 0) image (without id_links (id_chain id) w image) (length image) (omega arith)
    (grows_without id_links (id_chain id) w image)

grows_left : (n : ℕ) (block image : List ℕ) → length image ≤ length (left n block image)
unfolding left
grows_left n block image =
    let a = without name_links (name_chain (name_in block)) n image in
    let b = without_id (word_at block 8) (4 * n) a in
    let c = without_id (word_at block 12) (4 * n + 1) b in
    omega (
      arith,
      grows_without name_links (name_chain (name_in block)) n image,
      grows_without_id (word_at block 8) (4 * n) a,
      grows_without_id (word_at block 12) (4 * n + 1) b,
      grows_without_id (word_at block 16) (4 * n + 2) c,
    )

grows_freed : (n : ℕ) (image : List ℕ) → length image ≤ length (with_freed free_blocks n image)
unfolding with_freed
grows_freed n image =
    let l = free_links free_blocks in
    let mid = with_block 3132 (n - 1) (blank free_blocks) image in
    omega (arith, grows_put image (blank free_blocks) (block_place 3132 (n - 1)), grows_in l (place_above l 16 n image) n mid)

pub grows_remove : (image : List ℕ) (own : ℕ) → length image ≤ length (after_remove own image)
unfolding after_remove
grows_remove image own =
    let old = whole image in
    let n = word_of_id own old / 4 in
    let block = block_at old (n - 1) in
    omega (arith, grows_whole image, grows_left n block old, grows_freed n (left n block old))

-- ---- an entry gets other fields

grows_id : (old new w : ℕ) (image : List ℕ) → length image ≤ length (id_moved old new w image)
grows_id old new w image =
    let out = without_id old w image in
    either (eqb old new) image (first_by_id new w out) (length image) (omega arith)
    (omega (arith, grows_without_id old w image, grows_first new w out))

grows_name : (old new : List ℕ) (w : ℕ) (image : List ℕ) → length image ≤ length (name_moved old new w image)
grows_name old new w image =
    let out = without name_links (name_chain old) w image in
    either (bytes_eq old new) image (put_in name_links (name_chain new) w out) (length image) (omega arith)
    (omega (arith, grows_without name_links (name_chain old) w image, grows_in name_links (name_chain new) w out))

grows_moved : (n : ℕ) (block : List ℕ) (e : VlEntry) (image : List ℕ) → length image ≤ length (moved n block e image)
unfolding moved
grows_moved n block e image =
    let a = name_moved (name_in block) e.name n image in
    let b = id_moved (word_at block 8) e.rw (4 * n) a in
    let c = id_moved (word_at block 12) e.ro (4 * n + 1) b in
    omega (
      arith,
      grows_name (name_in block) e.name n image,
      grows_id (word_at block 8) e.rw (4 * n) a,
      grows_id (word_at block 12) e.ro (4 * n + 1) b,
      grows_id (word_at block 16) e.backup (4 * n + 2) c,
    )

grows_fields : (k : ℕ) (block image : List ℕ) → length image ≤ length (with_fields k block image)
unfolding with_fields
grows_fields k block image =
    let p = block_place 3132 k in
    let x = take 32 (drop 4 block) in
    omega (arith, grows_put image x (p + 4), grows_put (changed image (Put (p + 4) x)) (drop 52 block) (p + 52))

pub grows_replace : (image : List ℕ) (own : ℕ) (e : VlEntry) → length image ≤ length (after_replace own e image)
unfolding after_replace
grows_replace image own e =
    let old = whole image in
    let n = word_of_id own old / 4 in
    let block = block_at old (n - 1) in
    let mid = moved n block e old in
    omega (arith, grows_whole image, grows_moved n block e old, grows_fields (n - 1) (block_of (addresses_in old) e) mid)
