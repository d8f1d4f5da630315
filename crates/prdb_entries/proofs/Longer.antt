-- No change leaves a shorter image, whatever that image is.
use Rattle.std.proofs.Common.{ℕ, ℤ, ◌+◌, ◌-◌, ◌≤◌, ◌==◌, Bool, true, false, cond, List, [], ◌∷◌, length, take, drop, arith}
use Rattle.std.specs.Ordering.{int_eq}
use Rattle.std.specs.Str.{bytes_eq}
use Rattle.std.proofs.lemmas.List.{places}
use Rattle.ubik_types.specs.Image.{changed}
use Rattle.ubik_types.specs.declared.images.Change.TheVariants.{Put}
use Rattle.db_blocks.specs.Blocks.{block_count as any_count, with_block, word_at}
use Rattle.db_chains.specs.declared.links.Links.{Links}
use Rattle.db_chains.specs.Changes.{place_above, put_in, put_word, taken_out, without}
use Rattle.db_chains.specs.Free.{blank, free_links, next_number, with_freed, with_new, with_taken}
use Rattle.prdb_layout.specs.Records.{block_in, block_place, entry_in, new_block}
use Rattle.prdb_layout.specs.State.{PrEntry}
use Rattle.prdb_finds.specs.First.{named}
use Rattle.prdb_finds.specs.Keys.{id_chain, name_chain}
use Rattle.prdb_finds.specs.Places.{free_blocks, id_links, name_links, owned_links, owned_place}
use Rattle.prdb_finds.specs.Records.{whole}
use Rattle.prdb_entries.specs.Changes.{after_insert, after_remove, after_replace, entered, fitted, is_owned, left, moved, name_moved, number_of, owner_entered, owner_first, owner_left, owner_moved, owner_without, refilled, stays_empty, unnamed}

-- ---- puts

pub put_longer : (image bytes : List ℕ) (at : ℕ) → length image ≤ length (changed image (Put at bytes))
put_longer image bytes at = grind (arith, places)

pub word_longer : (image : List ℕ) (at n : ℕ) → length image ≤ length (put_word at n image)
unfolding put_word
word_longer image at n = put_longer image _ at

pub up : (a b c : ℕ) → a ≤ b → b ≤ c → a ≤ c
up a b c one two = omega arith

-- ---- words of chains

pub in_longer : (l : Links) (at w : ℕ) (image : List ℕ) → length image ≤ length (put_in l at w image)
unfolding put_in
in_longer l at w image = up _ _ _ (word_longer image _ _) (word_longer (put_word _ _ image) at w)

pub out_longer : (l : Links) (at : ℕ) (image : List ℕ) → length image ≤ length (taken_out l at image)
unfolding taken_out
out_longer l at image = up _ _ _ (word_longer image at _) (word_longer (put_word at _ image) _ 0)

-- one of two images
pub either : (b : Bool) (n : ℕ) (x y : List ℕ) → n ≤ length x → n ≤ length y → n ≤ length (cond b x y)
either true n x y one two = one
either false n x y one two = two

pub whole_longer : (image : List ℕ) → length image ≤ length (whole image)
unfolding whole
whole_longer [] = omega arith
whole_longer (b ∷ bytes) = omega arith

-- ---- an entry comes in

pub taken_longer : (block image : List ℕ) → length image ≤ length (with_taken free_blocks block image)
unfolding with_taken with_new
taken_longer block image =
    either (word_at image 20 == 0) (length image) _ _
    (up _ _ _ (put_longer image block _) (word_longer (with_block 2112 (any_count 2112 image) block image) _ _))
    (up _ _ _ (out_longer (free_links free_blocks) 20 image) (put_longer (taken_out (free_links free_blocks) 20 image) block _))

named_longer : (n : ℕ) (e : PrEntry) (image : List ℕ) → length image ≤ length (named n e image)
named_longer n e image =
    up _ _ _ (in_longer name_links (name_chain e.name) n image)
    (in_longer id_links (id_chain e.id) n (put_in name_links (name_chain e.name) n image))

first_longer : (owner : ℤ) (n : ℕ) (image : List ℕ) → length image ≤ length (owner_first owner n image)
first_longer owner n image = in_longer owned_links (owned_place (number_of owner image - 1)) n image

entered_longer : (n : ℕ) (e : PrEntry) (image : List ℕ) → length image ≤ length (entered n e image)
unfolding entered
entered_longer n e image =
    let first = named_longer n e image in
    either (is_owned e) (length image) (owner_first e.owner n (named n e image)) (named n e image)
    (up _ _ _ first (first_longer e.owner n (named n e image))) first

pub longer_insert : (e : PrEntry) (image : List ℕ) → length image ≤ length (after_insert e image)
unfolding after_insert
longer_insert e image =
    let old = whole image in
    up _ _ _ (whole_longer image)
    (up _ _ _ (taken_longer (new_block e) old)
    (entered_longer (next_number free_blocks old) e (with_taken free_blocks (new_block e) old)))

-- ---- an entry goes out

pub without_longer : (l : Links) (at n : ℕ) (image : List ℕ) → length image ≤ length (without l at n image)
without_longer l at n image = out_longer l _ image

unnamed_longer : (n : ℕ) (e : PrEntry) (image : List ℕ) → length image ≤ length (unnamed n e image)
unnamed_longer n e image =
    up _ _ _ (without_longer name_links (name_chain e.name) n image)
    (without_longer id_links (id_chain e.id) n (without name_links (name_chain e.name) n image))

owner_longer : (owner : ℤ) (n : ℕ) (image : List ℕ) → length image ≤ length (owner_without owner n image)
owner_longer owner n image = without_longer owned_links (owned_place (number_of owner image - 1)) n image

left_longer : (n : ℕ) (e : PrEntry) (image : List ℕ) → length image ≤ length (left n e image)
unfolding left
left_longer n e image =
    let first = unnamed_longer n e image in
    either (is_owned e) (length image) (owner_without e.owner n (unnamed n e image)) (unnamed n e image)
    (up _ _ _ first (owner_longer e.owner n (unnamed n e image))) first

pub freed_longer : (n : ℕ) (image : List ℕ) → length image ≤ length (with_freed free_blocks n image)
unfolding with_freed
freed_longer n image =
    up _ _ _ (put_longer image (blank free_blocks) _)
    (in_longer (free_links free_blocks) (place_above (free_links free_blocks) 20 n image) n
    (with_block 2112 (n - 1) (blank free_blocks) image))

pub longer_remove : (id : ℤ) (image : List ℕ) → length image ≤ length (after_remove id image)
unfolding after_remove
longer_remove id image =
    let old = whole image in
    let n = number_of id old in
    let e = entry_in (block_in old (n - 1)) in
    up _ _ _ (whole_longer image) (up _ _ _ (left_longer n e old) (freed_longer n (left n e old)))

-- ---- an entry gets other fields

name_moved_longer : (old new : List ℕ) (n : ℕ) (image : List ℕ) → length image ≤ length (name_moved old new n image)
name_moved_longer old new n image =
    let out = without name_links (name_chain old) n image in
    either (bytes_eq old new) (length image) image (put_in name_links (name_chain new) n out) (omega arith)
    (up _ _ _ (without_longer name_links (name_chain old) n image) (in_longer name_links (name_chain new) n out))

owner_left_longer : (e : PrEntry) (n : ℕ) (image : List ℕ) → length image ≤ length (owner_left e n image)
owner_left_longer e n image =
    either (is_owned e) (length image) (owner_without e.owner n image) image (owner_longer e.owner n image) (omega arith)

owner_entered_longer : (e : PrEntry) (n : ℕ) (image : List ℕ) → length image ≤ length (owner_entered e n image)
owner_entered_longer e n image =
    either (is_owned e) (length image) (owner_first e.owner n image) image (first_longer e.owner n image) (omega arith)

owner_moved_longer : (old new : PrEntry) (n : ℕ) (image : List ℕ) → length image ≤ length (owner_moved old new n image)
owner_moved_longer old new n image =
    either (int_eq old.owner new.owner) (length image) image (owner_entered new n (owner_left old n image)) (omega arith)
    (up _ _ _ (owner_left_longer old n image) (owner_entered_longer new n (owner_left old n image)))

moved_longer : (n : ℕ) (old new : PrEntry) (image : List ℕ) → length image ≤ length (moved n old new image)
moved_longer n old new image =
    up _ _ _ (name_moved_longer old.name new.name n image) (owner_moved_longer old new n (name_moved old.name new.name n image))

refilled_longer : (k : ℕ) (block image : List ℕ) → length image ≤ length (refilled k block image)
unfolding refilled
refilled_longer k block image =
    let first = changed image (Put (block_place k + 4) (take 20 (drop 4 block))) in
    up _ _ _ (put_longer image (take 20 (drop 4 block)) (block_place k + 4))
    (put_longer first (take 64 (drop 32 block)) (block_place k + 32))

fitted_longer : (id : ℤ) (e : PrEntry) (image : List ℕ) → length image ≤ length (fitted id e image)
unfolding fitted
fitted_longer id e image =
    let old = whole image in
    let n = number_of id old in
    let f = entry_in (block_in old (n - 1)) in
    up _ _ _ (whole_longer image) (up _ _ _ (moved_longer n f e old) (refilled_longer (n - 1) (new_block e) (moved n f e old)))

pub longer_replace : (id : ℤ) (e : PrEntry) (image : List ℕ) → length image ≤ length (after_replace id e image)
unfolding after_replace
longer_replace id e image =
    either (stays_empty id e image) (length image) image (fitted id e image) (omega arith) (fitted_longer id e image)
