-- The image after an entry got other fields holds the registry with them.
use Rattle.std.proofs.Common.{◌≡◌, ◌≢◌, ℕ, ◌+◌, ◌-◌, ◌<◌, ◌≤◌, ◌⊎◌, inl, inr, ⊎_elim, List, ◌++◌, length, slice_index, take, drop, refl, sym, ap, ◌∙◌, append_assoc, arith}
use Rattle.std.specs.Int.{w32, from_be_bytes}
use Rattle.std.proofs.lemmas.Bool.{cases_eq, cases_lt}
use Rattle.std.proofs.lemmas.Grind.{same_number_lists}
use Rattle.std.proofs.lemmas.List.{drop_at, get_or-drop, get_or-take, length-drop, length-take-le, take_at}
use Rattle.db_blocks.specs.Blocks.{IsWhole, kind_of, blanked}
use Rattle.prdb_layout.specs.Blocks.{block_count}
use Rattle.db_blocks.specs.Bytes.{filled, word, words}
use Rattle.db_chains.proofs.Bytes.{blanked_stays}
use Rattle.prdb_layout.specs.Records.{block_in, field_numbers, with_block, with_fields}
use Rattle.prdb_layout.specs.State.{PrEntry}
use Rattle.prdb_layout.proofs.BlockPlaces.{block_len}
use Rattle.prdb_layout.proofs.EntryFields.{behind_name, length-with_fields, name_field}
use Rattle.prdb_finds.specs.Unchained.{unchained, unlinked, unlinked_head}
use Rattle.prdb_finds.proofs.Beside.{inside_same}
use Rattle.prdb_finds.proofs.Fields.{entry_unlinked, unlinked_len}
use Rattle.prdb_finds.proofs.Laid.{same_image}
use Rattle.prdb_finds.proofs.Without.{unchained_block, unchained_count, unchained_head, unchained_len}
use Rattle.prdb_entries.proofs.Refilled.{IsRefilled}
use Rattle.db_blocks.proofs.BlockPlaces.{put_block}

-- ---- the bytes of a block with other fields

len_words : (e : PrEntry) → length (words (field_numbers e)) ≡ 24
unfolding words field_numbers
len_words e = refl

first_word : (e : PrEntry) → take 4 (words (field_numbers e)) ≡ word 1
unfolding words field_numbers
first_word e = refl

parted : (e : PrEntry) (b : List ℕ)
    → with_fields e b ≡ words (field_numbers e) ++ (take 8 (drop 24 b) ++ (filled 64 e.name ++ drop 96 b))
unfolding with_fields
parted e b =
    append_assoc (words (field_numbers e) ++ take 8 (drop 24 b)) (filled 64 e.name) (drop 96 b)
    ∙ append_assoc (words (field_numbers e)) (take 8 (drop 24 b)) (filled 64 e.name ++ drop 96 b)

pub fields_front : (e : PrEntry) (b : List ℕ) → take 24 (with_fields e b) ≡ words (field_numbers e)
unfolding with_fields words field_numbers
fields_front e b = refl

fields_pairs : (e : PrEntry) (b : List ℕ) → length b ≡ 192 → take 8 (drop 24 (with_fields e b)) ≡ take 8 (drop 24 b)
fields_pairs e b size =
    let pairs = take 8 (drop 24 b) in
    ap (λ (x : List ℕ). take 8 (drop 24 x)) (parted e b)
    ∙ ap (take 8) (drop_at (words (field_numbers e)) (pairs ++ (filled 64 e.name ++ drop 96 b)) 24 (len_words e))
    ∙ take_at pairs (filled 64 e.name ++ drop 96 b) 8 (length-take-le 8 (drop 24 b) (omega (arith, length-drop 24 b)))

-- a byte of a part
pub part_byte : (x : List ℕ) (off len i : ℕ) → off ≤ i → i < off + len → slice_index x i ≡ slice_index (take len (drop off x)) (i - off)
part_byte x off len i from less =
    let back : off + (i - off) ≡ i = omega arith in
    ap (slice_index x) (sym back) ∙ sym (get_or-drop off x (i - off) 0) ∙ sym (get_or-take len (drop off x) (i - off) 0 (omega arith))

rest_byte : (x : List ℕ) (off i : ℕ) → off ≤ i → slice_index x i ≡ slice_index (drop off x) (i - off)
rest_byte x off i from =
    let back : off + (i - off) ≡ i = omega arith in
    ap (slice_index x) (sym back) ∙ sym (get_or-drop off x (i - off) 0)

-- the fields are the entry's, whatever stood there
pub field_byte : (e : PrEntry) (a b : List ℕ) (i : ℕ) → length a ≡ 192 → length b ≡ 192 → length e.name ≤ 63
    → (i < 24) ⊎ ((32 ≤ i) × (i < 96)) → slice_index (with_fields e a) i ≡ slice_index (with_fields e b) i
field_byte e a b i size_a size_b short field =
    ⊎_elim
    (λ (front : i < 24).
    sym (get_or-take 24 (with_fields e a) i 0 front) ∙ ap (λ (x : List ℕ). slice_index x i) (fields_front e a ∙ sym (fields_front e b))
    ∙ get_or-take 24 (with_fields e b) i 0 front)
    (λ (name : (32 ≤ i) × (i < 96)).
    part_byte (with_fields e a) 32 64 i name.0 (omega (arith, name.1))
    ∙ ap (λ (x : List ℕ). slice_index x (i - 32)) (name_field e a size_a short ∙ sym (name_field e b size_b short))
    ∙ sym (part_byte (with_fields e b) 32 64 i name.0 (omega (arith, name.1))))
    field

-- and what is none stays
other_byte : (e : PrEntry) (b : List ℕ) (i : ℕ) → length b ≡ 192 → length e.name ≤ 63 → ((24 ≤ i) × (i < 32)) ⊎ (96 ≤ i)
    → slice_index (with_fields e b) i ≡ slice_index b i
other_byte e b i size short other =
    ⊎_elim
    (λ (pairs : (24 ≤ i) × (i < 32)).
    part_byte (with_fields e b) 24 8 i pairs.0 (omega (arith, pairs.1))
    ∙ ap (λ (x : List ℕ). slice_index x (i - 24)) (fields_pairs e b size) ∙ sym (part_byte b 24 8 i pairs.0 (omega (arith, pairs.1))))
    (λ (rest : 96 ≤ i).
    rest_byte (with_fields e b) 96 i rest ∙ ap (λ (x : List ℕ). slice_index x (i - 96)) (behind_name e b size short)
    ∙ sym (rest_byte b 96 i rest))
    other

-- ---- the block, without its words of chains

-- a block with the fields of one that was given, over another one
pub record IsOver (e : PrEntry) (given old new : List ℕ) : Type 0 where
  pub given_len : length given ≡ 192
  pub old_len : length old ≡ 192
  pub new_len : length new ≡ 192
  pub fields : (i : ℕ) → i < 192 → ((4 ≤ i) × (i < 24)) ⊎ ((32 ≤ i) × (i < 96)) → slice_index new i ≡ slice_index (with_fields e given) i
  pub kept : (i : ℕ) → i < 192 → (i < 4) ⊎ ((24 ≤ i) × (i < 32)) ⊎ (96 ≤ i) → slice_index new i ≡ slice_index old i

kind_over : (e : PrEntry) (given old new : List ℕ) → IsOver e given old new → kind_of new ≡ kind_of old
kind_over e given old new over =
    let size_old = over.old_len in
    let size_new = over.new_len in
    let len_new : length (take 4 new) ≡ 4 = length-take-le 4 new (omega arith) in
    let len_old : length (take 4 old) ≡ 4 = length-take-le 4 old (omega arith) in
    ap (from_be_bytes w32) (same_number_lists (take 4 new) (take 4 old) (len_new ∙ sym len_old)
    (λ i below.
    let less : i < 4 = omega arith in
    get_or-take 4 new i 0 less ∙ over.kept i (omega arith) (inl less) ∙ sym (get_or-take 4 old i 0 less)))

pub around : (i : ℕ) → (i < 4) ⊎ ((((4 ≤ i) × (i < 24)) ⊎ ((32 ≤ i) × (i < 96)))
    ⊎ (((24 ≤ i) × (i < 32)) ⊎ (((96 ≤ i) × (i < 112)) ⊎ (112 ≤ i))))
around i =
    ⊎_elim (λ (a : i < 4). inl a)
    (λ (b : 4 ≤ i). ⊎_elim (λ (c : i < 24). inr (inl (inl (b, c))))
    (λ (d : 24 ≤ i). ⊎_elim (λ (e : i < 32). inr (inr (inl (d, e))))
    (λ (f : 32 ≤ i). ⊎_elim (λ (g : i < 96). inr (inl (inr (f, g))))
    (λ (h : 96 ≤ i). ⊎_elim (λ (j : i < 112). inr (inr (inr (inl (h, j))))) (λ (k : 112 ≤ i). inr (inr (inr (inr k)))) (cases_lt i 112))
    (cases_lt i 96)) (cases_lt i 32)) (cases_lt i 24))
    (cases_lt i 4)

pub over_form : (e f : PrEntry) (given old new : List ℕ) → IsOver e given old new → length e.name ≤ 63 → kind_of old ≡ 1
    → take 24 (unlinked old) ≡ words (field_numbers f) → unlinked new ≡ with_fields e (unlinked old)
over_form e f given old new over short kind spelled =
    let ub = unlinked old in
    let size_old = over.old_len in
    let size_new = over.new_len in
    let size_ub : length ub ≡ 192 = unlinked_len old size_old in
    let is_new : unlinked new ≡ blanked 96 16 new = entry_unlinked new (kind_over e given old new over ∙ kind) in
    let is_old : ub ≡ blanked 96 16 old = entry_unlinked old kind in
    let stays_new = blanked_stays 96 16 new (omega arith) in
    let stays_old = blanked_stays 96 16 old (omega arith) in
    let in_new : (i : ℕ) → i < 192 → (i < 96) ⊎ (112 ≤ i) → slice_index (unlinked new) i ≡ slice_index new i =
    λ i less beside. ap (λ (b : List ℕ). slice_index b i) is_new
    ∙ ⊎_elim (λ (before : i < 96). stays_new.before i before (omega arith)) (λ (behind : 112 ≤ i). stays_new.behind i behind (omega arith))
    beside in
    let in_old : (i : ℕ) → i < 192 → (i < 96) ⊎ (112 ≤ i) → slice_index ub i ≡ slice_index old i =
    λ i less beside. ap (λ (b : List ℕ). slice_index b i) is_old
    ∙ ⊎_elim (λ (before : i < 96). stays_old.before i before (omega arith)) (λ (behind : 112 ≤ i). stays_old.behind i behind (omega arith))
    beside in
    let len_new : length (unlinked new) ≡ 192 = unlinked_len new size_new in
    let len_all : length (with_fields e ub) ≡ 192 = length-with_fields e ub size_ub short in
    same_number_lists (unlinked new) (with_fields e ub) (len_new ∙ sym len_all)
    (λ i below.
    let less : i < 192 = omega arith in
    ⊎_elim
    (λ (first : i < 4).
    let low : i < 24 = omega arith in
    in_new i less (inl (omega arith)) ∙ over.kept i less (inl first) ∙ sym (in_old i less (inl (omega arith)))
    ∙ sym (get_or-take 24 ub i 0 low) ∙ ap (λ (x : List ℕ). slice_index x i) spelled
    ∙ sym (get_or-take 4 (words (field_numbers f)) i 0 first)
    ∙ ap (λ (x : List ℕ). slice_index x i) (first_word f ∙ sym (first_word e))
    ∙ get_or-take 4 (words (field_numbers e)) i 0 first ∙ ap (λ (x : List ℕ). slice_index x i) (sym (fields_front e ub))
    ∙ get_or-take 24 (with_fields e ub) i 0 low)
    (λ (more : (((4 ≤ i) × (i < 24)) ⊎ ((32 ≤ i) × (i < 96))) ⊎ (((24 ≤ i) × (i < 32)) ⊎ (((96 ≤ i) × (i < 112)) ⊎ (112 ≤ i)))).
    ⊎_elim
    (λ (field : ((4 ≤ i) × (i < 24)) ⊎ ((32 ≤ i) × (i < 96))).
    let front : i < 96 = ⊎_elim (λ (a : (4 ≤ i) × (i < 24)). omega (arith, a.1)) (λ (b : (32 ≤ i) × (i < 96)). b.1) field in
    in_new i less (inl front) ∙ over.fields i less field
    ∙ field_byte e given ub i over.given_len size_ub short
    (⊎_elim (λ (a : (4 ≤ i) × (i < 24)). inl a.1) (λ (b : (32 ≤ i) × (i < 96)). inr b) field))
    (λ (rest : ((24 ≤ i) × (i < 32)) ⊎ (((96 ≤ i) × (i < 112)) ⊎ (112 ≤ i))).
    ⊎_elim
    (λ (pairs : (24 ≤ i) × (i < 32)).
    let front : i < 96 = omega (arith, pairs.1) in
    in_new i less (inl front) ∙ over.kept i less (inr (inl pairs)) ∙ sym (in_old i less (inl front))
    ∙ sym (other_byte e ub i size_ub short (inl pairs)))
    (λ (behind : ((96 ≤ i) × (i < 112)) ⊎ (112 ≤ i)).
    ⊎_elim
    (λ (chains : (96 ≤ i) × (i < 112)).
    ap (λ (b : List ℕ). slice_index b i) is_new ∙ inside_same 96 16 i new old (omega arith) (omega arith) chains.0 (omega (arith, chains.1))
    ∙ ap (λ (b : List ℕ). slice_index b i) (sym is_old) ∙ sym (other_byte e ub i size_ub short (inr chains.0)))
    (λ (last : 112 ≤ i).
    in_new i less (inr last) ∙ over.kept i less (inr (inr (omega arith))) ∙ sym (in_old i less (inr last))
    ∙ sym (other_byte e ub i size_ub short (inr (omega arith))))
    behind)
    rest)
    more)
    (around i))

-- ---- the image without the words of chains

pub refilled_form : (image new u : List ℕ) (e f : PrEntry) (given : List ℕ) (k : ℕ) → IsWhole 2112 image → unchained image ≡ u
    → k < block_count image → IsRefilled image k (with_fields e given) new → length given ≡ 192 → length e.name ≤ 63
    → kind_of (block_in image k) ≡ 1 → take 24 (block_in u k) ≡ words (field_numbers f)
    → unchained new ≡ with_block k (with_fields e (block_in u k)) u
refilled_form image new u e f given k whole same below r len short kind spelled =
    let n = block_count image in
    let whole_new : IsWhole 2112 new = omega (arith, r.size, whole) in
    let count : block_count new ≡ n = omega (arith, r.size) in
    let bare = unchained image in
    let len_bare = unchained_len image whole in
    let count_bare = unchained_count image whole in
    let own : block_in bare k ≡ unlinked (block_in image k) = unchained_block image k whole below in
    let own_len : length (block_in image k) ≡ 192 = block_len image k n whole below in
    let over : IsOver e given (block_in image k) (block_in new k) = record {
      given_len = len;
      old_len = own_len;
      new_len = block_len new k n (omega (arith, whole_new, count)) below;
      fields = r.fields;
      kept = r.kept;
    } in
    let block = with_fields e (block_in bare k) in
    let block_len_is : length block ≡ 192 =
    length-with_fields e (block_in bare k) (ap length own ∙ unlinked_len (block_in image k) own_len) short in
    let put = put_block 2112 bare block k n len_bare block_len_is below in
    let front : take 24 (unlinked (block_in image k)) ≡ words (field_numbers f) =
    ap (take 24) (sym own) ∙ ap (λ (i : List ℕ). take 24 (block_in i k)) same ∙ spelled in
    same_image (unchained new) (with_block k block bare) n (omega (arith, unchained_len new whole_new, count)) put.size
    (unchained_head new whole_new ∙ ap unlinked_head r.front ∙ sym (unchained_head image whole) ∙ sym put.front)
    (λ j less.
    unchained_block new j whole_new (omega (arith, less, count))
    ∙ ⊎_elim
    (λ (is : j ≡ k).
    ap (λ (i : ℕ). unlinked (block_in new i)) is ∙ over_form e f given (block_in image k) (block_in new k) over short kind front
    ∙ ap (with_fields e) (sym own) ∙ sym put.here ∙ ap (block_in (with_block k block bare)) (sym is))
    (λ (other : j ≢ k).
    ap unlinked (r.others j less other) ∙ sym (unchained_block image j whole less)
    ∙ sym (put.others j (omega (arith, less, count_bare)) other))
    (cases_eq j k))
    ∙ ap (λ (i : List ℕ). with_block k (with_fields e (block_in i k)) i) same
