-- An entry that gets the fields that it has changes no byte.
use Rattle.std.proofs.Common.{◌≡◌, ◌≢◌, ℕ, ◌+◌, ◌-◌, ◌<◌, ◌≤◌, ◌⊎◌, inl, inr, ⊎_elim, List, Some, length, slice_index, take, refl, sym, ap, ◌∙◌, arith}
use Rattle.std.specs.Ordering.{int_eq}
use Rattle.std.specs.Str.{bytes_eq}
use Rattle.std.proofs.lemmas.Bool.{cases_eq}
use Rattle.std.proofs.lemmas.Bool.Decides.{Decides-int_eq}
use Rattle.std.proofs.lemmas.Grind.{same_number_lists}
use Rattle.std.proofs.lemmas.List.{get_or-take}
use Rattle.std.proofs.lemmas.Slice.Eq.{bytes_eq-Decides}
use Rattle.prdb_layout.specs.Blocks.{block_count, block_name}
use Rattle.db_blocks.specs.Bytes.{filled, words, zeros}
use Rattle.db_blocks.specs.Blocks.{kind_of}
use Rattle.db_chains.proofs.Bytes.{blanked_stays}
use Rattle.prdb_layout.specs.Records.{IsBlock, IsEntryBlock, block_in, entry_in, field_numbers, new_block, with_fields}
use Rattle.prdb_layout.specs.Registry.{Registry}
use Rattle.prdb_layout.specs.State.{PrEntry}
use Rattle.prdb_layout.proofs.BlockPlaces.{block_len}
use Rattle.prdb_layout.proofs.EntryFields.{length-with_fields, name_field}
use Rattle.prdb_layout.proofs.LaidOut.{zero_kind}
use Rattle.prdb_lists.specs.Members.{Members}
use Rattle.prdb_lists.proofs.RecordsKeep.{zeros_len}
use Rattle.prdb_finds.specs.Records.{Holds, whole}
use Rattle.prdb_finds.specs.Unchained.{unchained, unlinked}
use Rattle.prdb_finds.proofs.Fields.{entry_unlinked}
use Rattle.prdb_finds.proofs.Laid.{same_image}
use Rattle.prdb_finds.proofs.Told.{laid_without}
use Rattle.prdb_finds.proofs.Without.{unchained_block, unchained_count, unchained_kind}
use Rattle.prdb_entries.specs.Changes.{fitted, moved, name_moved, owner_entered, owner_left, refilled}
use Rattle.prdb_entries.proofs.InsertClauses.{on_true}
use Rattle.prdb_entries.proofs.Leaving.{IsOfRegistry}
use Rattle.prdb_entries.proofs.Refilled.{is_refilled}
use Rattle.prdb_entries.proofs.Refitted.{bare_len, refit_form, spelled}
use Rattle.prdb_entries.proofs.Removed.{IsHeld, held_of}
use Rattle.prdb_entries.proofs.Replaced.{around, field_byte, fields_front, part_byte}

-- ---- its chains

same_chains : (e : PrEntry) (n : ℕ) (image : List ℕ) → moved n e e image ≡ image
same_chains e n image =
    let named = name_moved e.name e.name n image in
    let one : named ≡ image = sym (on_true (bytes_eq e.name e.name) image _ ((bytes_eq-Decides e.name e.name).1 refl)) in
    sym (on_true (int_eq e.owner e.owner) named (owner_entered e n (owner_left e n named)) ((Decides-int_eq e.owner e.owner).1 refl)) ∙ one

-- ---- its fields

entry_block : (block : List ℕ) → IsBlock block → kind_of block ≡ 1 → IsEntryBlock block
entry_block block is kind =
    ⊎_elim (λ (free : block ≡ zeros 192). absurd (omega (arith, kind, ap kind_of free, zero_kind)))
    (λ (other : (kind_of block ≡ 2) ⊎ IsEntryBlock block).
    ⊎_elim (λ (more : kind_of block ≡ 2). absurd (omega (arith, kind, more))) (λ (entry : IsEntryBlock block). entry) other)
    is

-- a block with the fields of the entry that it tells
own_byte : (e : PrEntry) (b : List ℕ) (i : ℕ) → length b ≡ 192 → length e.name ≤ 63 → IsEntryBlock b → entry_in b ≡ e
    → take 24 b ≡ words (field_numbers (entry_in b)) → (i < 24) ⊎ ((32 ≤ i) × (i < 96))
    → slice_index (with_fields e (zeros 192)) i ≡ slice_index b i
own_byte e b i size short entry is spell field =
    let name : block_name b ≡ e.name = ap (λ (x : PrEntry). x.name) is in
    field_byte e (zeros 192) b i zeros_len size short field
    ∙ ⊎_elim
    (λ (front : i < 24).
    sym (get_or-take 24 (with_fields e b) i 0 front)
    ∙ ap (λ (x : List ℕ). slice_index x i)
    (fields_front e b ∙ ap (λ (x : PrEntry). words (field_numbers x)) (sym is) ∙ sym spell)
    ∙ get_or-take 24 b i 0 front)
    (λ (named : (32 ≤ i) × (i < 96)).
    part_byte (with_fields e b) 32 64 i named.0 (omega (arith, named.1))
    ∙ ap (λ (x : List ℕ). slice_index x (i - 32))
    (name_field e b size short ∙ ap (filled 64) (sym name) ∙ sym entry.name)
    ∙ sym (part_byte b 32 64 i named.0 (omega (arith, named.1))))
    field

bare_byte : (block : List ℕ) (i : ℕ) → length block ≡ 192 → kind_of block ≡ 1 → i < 96
    → slice_index (unlinked block) i ≡ slice_index block i
bare_byte block i size kind below =
    ap (λ (b : List ℕ). slice_index b i) (entry_unlinked block kind)
    ∙ (blanked_stays 96 16 block (omega arith)).before i below (omega arith)

same_fields : (image : List ℕ) (r : Registry) (m : Members) (e : PrEntry) (k : ℕ) → Holds image r m
    → IsHeld (unchained (whole image)) r e.id e k → refilled k (new_block e) (whole image) ≡ whole image
same_fields image r m e k holds h =
    let old = whole image in
    let u = unchained old in
    let n = block_count old in
    let count : block_count u ≡ n = unchained_count old holds.size in
    let below : k < n = omega (arith, h.entry.below, count) in
    let block = block_in old k in
    let size : length block ≡ 192 = block_len old k n holds.size below in
    let kind : kind_of block ≡ 1 = sym (unchained_kind old k holds.size below) ∙ h.entry.kind in
    let own : block_in u k ≡ unlinked block = unchained_block old k holds.size below in
    let size_own : length (block_in u k) ≡ 192 = block_len u k (block_count u) (bare_len image r m holds) h.entry.below in
    let short : length e.name ≤ 63 = (h.of.valid.records e.id e h.at).fields.name_len in
    let entry = entry_block (block_in u k) ((laid_without image r m holds).blocks k h.entry.below) h.entry.kind in
    let len : length (new_block e) ≡ 192 = length-with_fields e (zeros 192) zeros_len short in
    let made = is_refilled old (new_block e) k holds.size below len in
    let new = refilled k (new_block e) old in
    let size_new : length (block_in new k) ≡ 192 = block_len new k n (omega (arith, made.size, holds.size)) below in
    let field : (i : ℕ) → (i < 24) ⊎ ((32 ≤ i) × (i < 96)) → slice_index (new_block e) i ≡ slice_index block i =
    λ i is.
    let less : i < 96 = ⊎_elim (λ (a : i < 24). omega arith) (λ (b : (32 ≤ i) × (i < 96)). b.1) is in
    own_byte e (block_in u k) i size_own short entry h.is (spelled image r m k holds h.entry) is
    ∙ ap (λ (b : List ℕ). slice_index b i) own ∙ bare_byte block i size kind less in
    same_image new old n (omega (arith, made.size, holds.size)) holds.size made.front
    (λ j less. ⊎_elim
    (λ (same : j ≡ k).
    ap (block_in new) same
    ∙ same_number_lists (block_in new k) block (size_new ∙ sym size)
    (λ i in_block.
    let inside : i < 192 = omega (arith, in_block, size_new) in
    ⊎_elim
    (λ (front : i < 4). made.kept i inside (inl front))
    (λ (more : (((4 ≤ i) × (i < 24)) ⊎ ((32 ≤ i) × (i < 96))) ⊎ (((24 ≤ i) × (i < 32)) ⊎ (((96 ≤ i) × (i < 112)) ⊎ (112 ≤ i)))).
    ⊎_elim
    (λ (is : ((4 ≤ i) × (i < 24)) ⊎ ((32 ≤ i) × (i < 96))).
    made.fields i inside is
    ∙ field i (⊎_elim (λ (a : (4 ≤ i) × (i < 24)). inl a.1) (λ (b : (32 ≤ i) × (i < 96)). inr b) is))
    (λ (rest : ((24 ≤ i) × (i < 32)) ⊎ (((96 ≤ i) × (i < 112)) ⊎ (112 ≤ i))).
    made.kept i inside (inr (⊎_elim (λ (pairs : (24 ≤ i) × (i < 32)). inl pairs)
    (λ (last : ((96 ≤ i) × (i < 112)) ⊎ (112 ≤ i)).
    inr (⊎_elim (λ (chains : (96 ≤ i) × (i < 112)). chains.0) (λ (end : 112 ≤ i). omega arith) last)) rest)))
    more)
    (around i))
    ∙ ap (block_in old) (sym same))
    (λ (other : j ≢ k). made.others j less other)
    (cases_eq j k))

pub same_stays : (image : List ℕ) (r : Registry) (m : Members) (e : PrEntry) → Holds image r m → r.entry e.id ≡ Some e
    → fitted e.id e image ≡ whole image
same_stays image r m e holds there =
    let of : IsOfRegistry (unchained (whole image)) r = record { valid = holds.pairs.holds.valid; laid = laid_without image r m holds } in
    let h = held_of (unchained (whole image)) r e.id e of there in
    refit_form image r m e.id e e h.0 holds h.1
    ∙ ap (refilled h.0 (new_block e)) (same_chains e (h.0 + 1) (whole image))
    ∙ same_fields image r m e h.0 holds h.1
