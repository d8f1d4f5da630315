-- An entry that is put in its own place changes nothing.
use Rattle.std.proofs.Common.{◌≡◌, ◌≢◌, ℕ, ◌+◌, ◌-◌, ◌*◌, ◌/◌, ◌<◌, ◌≤◌, ◌⊎◌, inl, inr, ⊎_elim, List, Some, length, slice_index, take, drop, refl, sym, ap, ◌∙◌, arith}
use Rattle.std.proofs.lemmas.Bool.{cases_eq, eq-eqb}
use Rattle.std.proofs.lemmas.Grind.{same_number_lists}
use Rattle.std.proofs.lemmas.List.{get_or-drop, get_or-take, length-drop, length-take-le}
use Rattle.std.proofs.lemmas.Slice.Eq.{bytes_eq-Decides}
use Rattle.ubik_types.specs.Image.{changed}
use Rattle.ubik_types.specs.declared.images.Change.TheVariants.{Put}
use Rattle.db_blocks.specs.Blocks.{IsWhole, block_place, word_at}
use Rattle.db_blocks.proofs.BlockPlaces.{changed_laid, laid, laid_in, laid_out, laid_len}
use Rattle.db_chains.proofs.Bytes.{blanked_stays}
use Rattle.vldb_entries.specs.declared.entries.VlEntry.{VlEntry}
use Rattle.vldb_entries.specs.Location.{Location}
use Rattle.vldb_entries.specs.Forms.{block_at, block_of, blocks_in, name_in, whole}
use Rattle.vldb_entries.proofs.EntryAgain.{length-block, name_again}
use Rattle.vldb_entries.proofs.HeadRead.{whole_same}
use Rattle.vldb_records.specs.Records.{Holds, unlinked}
use Rattle.vldb_records.specs.Changes.{after_replace, id_moved, moved, name_moved, with_fields, word_of_id}
use Rattle.vldb_records.proofs.Fields.{block_len, name_stays}
use Rattle.vldb_records.proofs.HeadSet.{around}
use Rattle.vldb_records.proofs.HeadTold.{laid_addresses, none_in}
use Rattle.vldb_records.proofs.OwnWord.{own_number}
use Rattle.vldb_records.proofs.Removed.{id_told}
use Rattle.vldb_records.proofs.Written.{block_byte}

-- ---- its fields

-- bytes that stand there already
put_same : (image bytes : List ℕ) (at : ℕ) → at + length bytes ≤ length image
    → ((i : ℕ) → i < length bytes → slice_index bytes i ≡ slice_index image (at + i)) → changed image (Put at bytes) ≡ image
put_same image bytes at within same =
    changed_laid image bytes at (omega arith)
    ∙ same_number_lists (laid image at bytes) image (laid_len image bytes at within)
    (λ i below. ⊎_elim
    (λ (here : (at ≤ i) × (i < at + length bytes)).
    let place : at + (i - at) ≡ i = omega arith in
    laid_in image bytes at i within here.0 here.1 ∙ same (i - at) (omega arith) ∙ ap (slice_index image) place)
    (λ (beside : (i < at) ⊎ (at + length bytes ≤ i)). laid_out image bytes at i within beside)
    (around at (length bytes) i))

same_field : (image form : List ℕ) (k i : ℕ) → IsWhole 3132 image → k < blocks_in image → unlinked (block_at image k) ≡ form
    → (i < 36) ⊎ (52 ≤ i) → i < 192 → slice_index form i ≡ slice_index image (block_place 3132 k + i)
unfolding unlinked
same_field image form k i whole below is beside low =
    let block = block_at image k in
    let size : length block ≡ 192 = block_len image k whole below in
    let stays = blanked_stays 36 16 block (omega arith) in
    ap (λ (b : List ℕ). slice_index b i) (sym is)
    ∙ ⊎_elim (λ (front : i < 36). stays.before i front (omega arith)) (λ (behind : 52 ≤ i). stays.behind i behind (omega arith)) beside
    ∙ block_byte image k i low

fields_same : (image form : List ℕ) (k : ℕ) → IsWhole 3132 image → k < blocks_in image → length form ≡ 192
    → unlinked (block_at image k) ≡ form → with_fields k form image ≡ image
unfolding with_fields
fields_same image form k whole below len is =
    let p = block_place 3132 k in
    let x = take 32 (drop 4 form) in
    let y = drop 52 form in
    let len_x : length x ≡ 32 = length-take-le 32 (drop 4 form) (omega (arith, length-drop 4 form)) in
    let len_y : length y ≡ 140 = omega (arith, length-drop 52 form) in
    let one : changed image (Put (p + 4) x) ≡ image =
    put_same image x (p + 4) (omega (arith, whole)) (λ m less.
    let place : p + (4 + m) ≡ p + 4 + m = omega arith in
    get_or-take 32 (drop 4 form) m 0 (omega arith) ∙ get_or-drop 4 form m 0
    ∙ same_field image form k (4 + m) whole below is (inl (omega arith)) (omega arith) ∙ ap (slice_index image) place) in
    let two : changed image (Put (p + 52) y) ≡ image =
    put_same image y (p + 52) (omega (arith, whole)) (λ m less.
    let place : p + (52 + m) ≡ p + 52 + m = omega arith in
    get_or-drop 52 form m 0 ∙ same_field image form k (52 + m) whole below is (inr (omega arith)) (omega arith)
    ∙ ap (slice_index image) place) in
    ap (λ (i : List ℕ). changed i (Put (p + 52) y)) one ∙ two

-- ---- its chains

same_name : (old new : List ℕ) (w : ℕ) (image : List ℕ) → old ≡ new → name_moved old new w image ≡ image
same_name old new w image same = rw ((bytes_eq-Decides old new).1 same) refl

same_id : (old new w : ℕ) (image : List ℕ) → old ≡ new → id_moved old new w image ≡ image
same_id old new w image same = rw (eq-eqb old new same) refl

same_moved : (n : ℕ) (block : List ℕ) (e : VlEntry) (image : List ℕ) → name_in block ≡ e.name → word_at block 8 ≡ e.rw
    → word_at block 12 ≡ e.ro → word_at block 16 ≡ e.backup → moved n block e image ≡ image
unfolding moved
same_moved n block e image name own ro backup =
    let a = name_moved (name_in block) e.name n image in
    let b = id_moved (word_at block 8) e.rw (4 * n) a in
    let c = id_moved (word_at block 12) e.ro (4 * n + 1) b in
    same_id (word_at block 16) e.backup (4 * n + 2) c backup ∙ same_id (word_at block 12) e.ro (4 * n + 1) b ro
    ∙ same_id (word_at block 8) e.rw (4 * n) a own ∙ same_name (name_in block) e.name n image name

-- ---- the entry

pub replace_same : (image : List ℕ) (s : Location) (own : ℕ) (e : VlEntry) → Holds image s → s.entry own ≡ Some e
    → after_replace own e image ≡ image
unfolding after_replace
replace_same image s own e holds at =
    let old = whole image in
    let n = word_of_id own old / 4 in
    let block = block_at old (n - 1) in
    let form = block_of s.addresses e in
    let number = own_number image s own e holds at in
    let valid = holds.valid.records own e at in
    let below : n - 1 < blocks_in old = omega (arith, number.some, number.within) in
    let size : length block ≡ 192 = block_len old (n - 1) holds.laid.size below in
    let is : unlinked block ≡ form = number.block.1 in
    let more : 0 < length image =
    ⊎_elim (λ (none : length image ≡ 0). absurd (omega (arith, none_in image none, number.some, number.within)))
    (λ (some : length image ≢ 0). omega (arith, some)) (cases_eq (length image) 0) in
    let still : moved n block e old ≡ old =
    same_moved n block e old (name_stays block size ∙ ap name_in is ∙ name_again s.addresses e valid)
    (id_told s e block 0 holds.valid number.block.0 size is (omega arith))
    (id_told s e block 1 holds.valid number.block.0 size is (omega arith))
    (id_told s e block 2 holds.valid number.block.0 size is (omega arith)) in
    let fields : with_fields (n - 1) form old ≡ old =
    fields_same old form (n - 1) holds.laid.size below (length-block s.addresses e valid) is in
    rw (laid_addresses image s holds) (ap (with_fields (n - 1) form) still ∙ fields ∙ whole_same image more)
