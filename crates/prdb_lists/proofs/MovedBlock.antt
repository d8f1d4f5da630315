-- An entry's block with another id is one of the same entry with that id.
use Rattle.std.proofs.Common.{◌≡◌, ℕ, ℤ, ◌+◌, ◌≤◌, eqb, List, ◌++◌, length, take, drop, refl, sym, ap, ◌∙◌, append_assoc, arith}
use Rattle.std.specs.Prelude.{FitsSigned}
use Rattle.std.specs.Int.{w32, cast_signed, from_be_bytes}
use Rattle.std.specs.List.{before_first}
use Rattle.std.proofs.lemmas.Int.{to_z-of_z}
use Rattle.std.proofs.lemmas.List.{take_at, drop_at, drop-drop, length-append, length-take-le, length-drop, take-append-drop}
use Rattle.std.proofs.lemmas.Nat.{from_be_bytes-to_be_bytes_4}
use borrow.Rule.Slice.PartMut.{put_mid}
use Rattle.prdb_layout.specs.Blocks.{block_name}
use Rattle.db_blocks.specs.Blocks.{word_at, kind_of}
use Rattle.db_blocks.specs.Bytes.{word, filled, words}
use Rattle.prdb_layout.specs.Bytes.{bits}
use Rattle.prdb_layout.specs.Records.{IsEntryBlock, entry_in, signed_at, field_numbers}
use Rattle.prdb_layout.specs.State.{PrEntry}
use Rattle.prdb_layout.proofs.Lengths.{bits_below}
use Rattle.prdb_lists.specs.Moves.{with_id_word}
use Rattle.prdb_lists.proofs.WithList.{same_part}
use Rattle.prdb_lists.specs.Layout.{IsSpelled}

four_bytes : (n : ℕ) → length (word n) ≡ 4
four_bytes n = refl

parts : (id : ℤ) (block : List ℕ) → with_id_word id block ≡ take 8 block ++ (word (bits id) ++ drop 12 block)
unfolding with_id_word
parts id block = append_assoc (take 8 block) (word (bits id)) (drop 12 block)

-- a block into which the id is put
pub put_word : (id : ℤ) (block written : List ℕ) → written ≡ word (bits id) → put_mid 8 4 block written ≡ with_id_word id block
put_word id block written is =
    ap (put_mid 8 4 block) is ∙ ap (λ (l : List ℕ). take 8 block ++ (word (bits id) ++ l)) (drop-drop 4 8 block) ∙ sym (parts id block)

pub length-with_id_word : (id : ℤ) (block : List ℕ) → length block ≡ 192 → length (with_id_word id block) ≡ 192
length-with_id_word id block len =
    ap length (parts id block)
    ∙ omega (
      arith,
      length-append (take 8 block) (word (bits id) ++ drop 12 block),
      length-append (word (bits id)) (drop 12 block),
      four_bytes (bits id),
      length-take-le 8 block (omega arith),
      length-drop 12 block,
    )

front_stays : (id : ℤ) (block : List ℕ) → length block ≡ 192 → take 8 (with_id_word id block) ≡ take 8 block
front_stays id block len =
    ap (take 8) (parts id block) ∙ take_at (take 8 block) (word (bits id) ++ drop 12 block) 8 (length-take-le 8 block (omega arith))

behind_8 : (id : ℤ) (block : List ℕ) → length block ≡ 192 → drop 8 (with_id_word id block) ≡ word (bits id) ++ drop 12 block
behind_8 id block len =
    ap (drop 8) (parts id block) ∙ drop_at (take 8 block) (word (bits id) ++ drop 12 block) 8 (length-take-le 8 block (omega arith))

rest_stays : (id : ℤ) (block : List ℕ) → length block ≡ 192 → drop 12 (with_id_word id block) ≡ drop 12 block
rest_stays id block len = sym (drop-drop 4 8 (with_id_word id block)) ∙ ap (drop 4) (behind_8 id block len)

-- a part behind the id
part_stays : (id : ℤ) (block : List ℕ) (at m : ℕ) → length block ≡ 192
    → take m (drop (12 + at) (with_id_word id block)) ≡ take m (drop (12 + at) block)
part_stays id block at m len =
    ap (take m) (sym (drop-drop at 12 (with_id_word id block)) ∙ ap (drop at) (rest_stays id block len) ∙ drop-drop at 12 block)

word_behind : (id : ℤ) (block : List ℕ) (at : ℕ) → length block ≡ 192 → word_at (with_id_word id block) (12 + at) ≡ word_at block (12 + at)
word_behind id block at len = ap (from_be_bytes w32) (part_stays id block at 4 len)

word_before : (id : ℤ) (block : List ℕ) (at : ℕ) → length block ≡ 192 → at + 4 ≤ 8 → word_at (with_id_word id block) at ≡ word_at block at
word_before id block at len within =
    ap (from_be_bytes w32) (same_part (with_id_word id block) block 8 at 4 (front_stays id block len) within)

id_put : (id : ℤ) (block : List ℕ) → length block ≡ 192 → FitsSigned w32 id → signed_at (with_id_word id block) 8 ≡ id
id_put id block len fits =
    ap (λ (l : List ℕ). cast_signed w32 (from_be_bytes w32 (take 4 l))) (behind_8 id block len)
    ∙ ap (cast_signed w32) (from_be_bytes-to_be_bytes_4 (bits id) (bits_below id fits)) ∙ to_z-of_z w32 id fits

kind_stays : (id : ℤ) (block : List ℕ) → length block ≡ 192 → kind_of (with_id_word id block) ≡ kind_of block
kind_stays id block len = word_before id block 0 len (omega arith)

name_stays : (id : ℤ) (block : List ℕ) → length block ≡ 192 → block_name (with_id_word id block) ≡ block_name block
unfolding block_name
name_stays id block len = ap (before_first (λ b. eqb b 0)) (part_stays id block 20 64 len)

-- the entry, with this id
abbrev pub with_id_of : ℤ → PrEntry → PrEntry
with_id_of id e = record e { id = id }

pub entry_put : (id : ℤ) (block : List ℕ) → length block ≡ 192 → FitsSigned w32 id
    → entry_in (with_id_word id block) ≡ with_id_of id (entry_in block)
entry_put id block len fits =
    let name = name_stays id block len in
    let flags = word_before id block 4 len (omega arith) in
    let is_id = id_put id block len fits in
    let owner = ap (cast_signed w32) (word_behind id block 0 len) in
    let creator = ap (cast_signed w32) (word_behind id block 4 len) in
    let quota = ap (cast_signed w32) (word_behind id block 8 len) in
    rw (name, flags, is_id, owner, creator, quota) refl

pub block_put : (id : ℤ) (block : List ℕ) → length block ≡ 192 → IsEntryBlock block → IsEntryBlock (with_id_word id block)
block_put id block len is = record {
  kind = kind_stays id block len ∙ is.kind;
  name = part_stays id block 20 64 len ∙ is.name ∙ ap (filled 64) (sym (name_stays id block len));
  chains = part_stays id block 84 16 len ∙ is.chains;
  behind = sym (drop-drop 176 12 (with_id_word id block)) ∙ ap (drop 176) (rest_stays id block len) ∙ drop-drop 176 12 block ∙ is.behind;
}

-- ---- its front is spelled too

spelled_by : (id : ℤ) (e : PrEntry) (rest : List ℕ)
    → take 24 (with_id_word id (words (field_numbers e) ++ rest)) ≡ words (field_numbers (with_id_of id e))
unfolding with_id_word words field_numbers
spelled_by id e rest = refl

pub spelled_put : (id : ℤ) (block : List ℕ) → length block ≡ 192 → FitsSigned w32 id → IsSpelled block → IsSpelled (with_id_word id block)
spelled_put id block len fits is =
    let same : block ≡ words (field_numbers (entry_in block)) ++ drop 24 block = sym (take-append-drop 24 block)
    ∙ ap (λ (front : List ℕ). front ++ drop 24 block) is in
    ap (λ (b : List ℕ). take 24 (with_id_word id b)) same ∙ spelled_by id (entry_in block) (drop 24 block)
    ∙ ap (λ (e : PrEntry). words (field_numbers e)) (sym (entry_put id block len fits))
