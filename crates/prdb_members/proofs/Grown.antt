-- No change leaves a shorter image, whatever it holds.
use Rattle.std.proofs.Common.{ℕ, ℤ, ◌+◌, ◌≤◌, List, [], ◌∷◌, length, take, drop, arith}
use Rattle.std.specs.Prelude.{nat_lt}
use Rattle.db_chains.specs.Changes.{put_in, without}
use Rattle.db_chains.specs.Free.{with_taken}
use Rattle.db_blocks.specs.Bytes.{zeros}
use Rattle.prdb_layout.specs.Records.{block_in, block_place, with_block}
use Rattle.prdb_lists.specs.Changes.{blocks_for, list_in, place_in, relisted, with_list, with_more}
use Rattle.prdb_lists.specs.Layout.{PairList, link_to, more_block}
use Rattle.prdb_lists.specs.Lists.{ids_with, ids_without}
use Rattle.prdb_lists.specs.Moves.{after_put_id, after_relist, after_relists, ids_moved, with_id_word}
use Rattle.prdb_finds.specs.Keys.{id_chain}
use Rattle.prdb_finds.specs.Places.{free_blocks, id_links}
use Rattle.prdb_finds.specs.Records.{whole}
use Rattle.prdb_entries.proofs.Longer.{either, freed_longer, in_longer, put_longer, taken_longer, up, whole_longer, without_longer}
use Rattle.prdb_members.specs.Changes.{after_join, after_part, after_parts, gained, lost, more_for, no_ids, taken_for, with_all_freed, with_freed, with_id, without_id, without_id_in, without_ids}
use Rattle.prdb_members.specs.Moves.{after_move, rechained}

same : (image : List ℕ) → length image ≤ length image
same image = omega arith

grows_block : (k : ℕ) (block image : List ℕ) → length image ≤ length (with_block k block image)
grows_block k block image = put_longer image block (block_place k)

-- ---- lists of pairs

grows_more : (entry : ℤ) (more : List ℕ) (ids : List ℤ) (image : List ℕ) → length image ≤ length (with_more entry more ids image)
unfolding with_more
grows_more entry [] ids image = same image
grows_more entry (k ∷ more) ids image =
    let mid = with_block k (more_block entry (link_to more) (take 44 ids)) image in
    up (length image) (length mid) (length (with_more entry more (drop 44 ids) mid))
    (grows_block k (more_block entry (link_to more) (take 44 ids)) image)
    (grows_more entry more (drop 44 ids) mid)

grows_relisted : (k : ℕ) (entry : ℤ) (block : List ℕ) (l : PairList) (image : List ℕ)
    → length image ≤ length (relisted k entry block l image)
grows_relisted k entry block l image =
    let mid = with_more entry l.more (drop 19 l.ids) image in
    up (length image) (length mid) (length (with_block k (with_list block l) mid)) (grows_more entry l.more (drop 19 l.ids) image)
    (grows_block k (with_list block l) mid)

grows_taken_for : (count : ℕ) (more image : List ℕ) → length image ≤ length (taken_for count more image)
grows_taken_for count more image =
    either (nat_lt (length more) (blocks_for count)) (length image) (with_taken free_blocks (zeros 192) image) image
    (taken_longer (zeros 192) image) (same image)

grows_freed : (more image : List ℕ) → length image ≤ length (with_freed more image)
grows_freed [] image = same image
grows_freed (k ∷ more) image = freed_longer (k + 1) image

grows_gained : (k : ℕ) (entry : ℤ) (block : List ℕ) (l : PairList) (id : ℤ) (image : List ℕ)
    → length image ≤ length (gained k entry block l id image)
grows_gained k entry block l id image =
    let ids = ids_with id l.ids in
    let mid = taken_for (length ids) l.more image in
    let now : PairList = record { ids = ids; more = more_for (length ids) l.more image } in
    up (length image) (length mid) (length (relisted k entry block now mid)) (grows_taken_for (length ids) l.more image)
    (grows_relisted k entry block now mid)

grows_lost : (k : ℕ) (entry : ℤ) (block : List ℕ) (l : PairList) (id : ℤ) (image : List ℕ)
    → length image ≤ length (lost k entry block l id image)
grows_lost k entry block l id image =
    let ids = ids_without id l.ids in
    let count = blocks_for (length ids) in
    let mid = with_freed (drop count l.more) image in
    let now : PairList = record { ids = ids; more = take count l.more } in
    up (length image) (length mid) (length (relisted k entry block now mid)) (grows_freed (drop count l.more) image)
    (grows_relisted k entry block now mid)

grows_with : (entry id : ℤ) (image : List ℕ) → length image ≤ length (with_id entry id image)
grows_with entry id image =
    let k = place_in image entry in
    let block = block_in image k in
    grows_gained k entry block (list_in image block) id image

grows_without : (entry id : ℤ) (image : List ℕ) → length image ≤ length (without_id entry id image)
grows_without entry id image =
    let k = place_in image entry in
    let block = block_in image k in
    grows_lost k entry block (list_in image block) id image

-- ---- the changes

pub grows_join : (member group : ℤ) (image : List ℕ) → length image ≤ length (after_join member group image)
unfolding after_join
grows_join member group image =
    let mid = with_id member group (whole image) in
    up (length image) (length mid) (length (with_id group member mid))
    (up (length image) (length (whole image)) (length mid) (whole_longer image) (grows_with member group (whole image)))
    (grows_with group member mid)

pub grows_part : (member group : ℤ) (image : List ℕ) → length image ≤ length (after_part member group image)
unfolding after_part
grows_part member group image =
    let mid = without_id member group (whole image) in
    up (length image) (length mid) (length (without_id group member mid))
    (up (length image) (length (whole image)) (length mid) (whole_longer image) (grows_without member group (whole image)))
    (grows_without group member mid)

grows_all_freed : (more image : List ℕ) → length image ≤ length (with_all_freed more image)
grows_all_freed [] image = same image
grows_all_freed (k ∷ more) image =
    let mid = with_freed (k ∷ more) image in
    up (length image) (length mid) (length (with_all_freed more mid)) (grows_freed (k ∷ more) image) (grows_all_freed more mid)

grows_without_ids : (entry : ℤ) (image : List ℕ) → length image ≤ length (without_ids entry image)
grows_without_ids entry image =
    let k = place_in image entry in
    let block = block_in image k in
    let more = (list_in image block).more in
    let mid = with_all_freed more image in
    up (length image) (length mid) (length (relisted k entry block no_ids mid)) (grows_all_freed more image)
    (grows_relisted k entry block no_ids mid)

grows_without_each : (entries : List ℤ) (id : ℤ) (image : List ℕ) → length image ≤ length (without_id_in entries id image)
grows_without_each [] id image = same image
grows_without_each (entry ∷ entries) id image =
    let mid = without_id entry id image in
    up (length image) (length mid) (length (without_id_in entries id mid)) (grows_without entry id image)
    (grows_without_each entries id mid)

pub grows_parts : (id : ℤ) (others : List ℤ) (image : List ℕ) → length image ≤ length (after_parts id others image)
unfolding after_parts
grows_parts id [] image = same image
grows_parts id (other ∷ others) image =
    let mid = without_ids id image in
    up (length image) (length mid) (length (without_id_in (other ∷ others) id mid)) (grows_without_ids id image)
    (grows_without_each (other ∷ others) id mid)

grows_relist : (old new entry : ℤ) (image : List ℕ) → length image ≤ length (after_relist old new entry image)
grows_relist old new entry image =
    let k = place_in image entry in
    let l = list_in image (block_in image k) in
    grows_relisted k entry (block_in image k) (record { ids = ids_moved old new l.ids; more = l.more }) image

grows_relists : (old new : ℤ) (entries : List ℤ) (image : List ℕ) → length image ≤ length (after_relists old new entries image)
grows_relists old new [] image = same image
grows_relists old new (entry ∷ entries) image =
    let mid = after_relist old new entry image in
    up (length image) (length mid) (length (after_relists old new entries mid)) (grows_relist old new entry image)
    (grows_relists old new entries mid)

grows_put_id : (old new : ℤ) (image : List ℕ) → length image ≤ length (after_put_id old new image)
grows_put_id old new image =
    let k = place_in image old in
    let block = block_in image k in
    grows_relisted k new (with_id_word new block) (list_in image block) image

grows_rechained : (old new : ℤ) (n : ℕ) (image : List ℕ) → length image ≤ length (rechained old new n image)
grows_rechained old new n image =
    let mid = without id_links (id_chain old) n image in
    up (length image) (length mid) (length (put_in id_links (id_chain new) n mid))
    (without_longer id_links (id_chain old) n image) (in_longer id_links (id_chain new) n mid)

pub grows_move : (old new : ℤ) (others : List ℤ) (image : List ℕ) → length image ≤ length (after_move old new others image)
unfolding after_move
grows_move old new others image =
    let first = whole image in
    let mid = after_relists old new others first in
    let put = after_put_id old new mid in
    let n = place_in mid old + 1 in
    up (length image) (length put) (length (rechained old new n put))
    (up (length image) (length mid) (length put)
    (up (length image) (length first) (length mid) (whole_longer image) (grows_relists old new others first)) (grows_put_id old new mid))
    (grows_rechained old new n put)
