-- What is read of a block is what was written into it.
use Rattle.std.proofs.Common.{◌≡◌, ℕ, ℤ, ◌-◌, ◌^◌, ◌<◌, ◌≤◌, eqb, List, ◌++◌, length, take, drop, refl, sym, ap, ◌∙◌, append_assoc, inr, arith}
use Rattle.std.specs.Prelude.{FitsSigned}
use Rattle.std.specs.Int.{w32, cast_signed}
use Rattle.std.specs.List.{before_first}
use Rattle.std.proofs.lemmas.Int.{to_z-of_z}
use Rattle.std.proofs.lemmas.List.{take_at, drop_at, drop-drop, length-append, length-take-le, length-drop}
use Rattle.std.proofs.lemmas.Nat.{from_be_bytes-to_be_bytes_4}
use Rattle.prdb_layout.specs.Blocks.{block_name}
use Rattle.db_blocks.specs.Blocks.{word_at, kind_of}
use Rattle.db_blocks.specs.Bytes.{words, zeros, filled}
use Rattle.db_blocks.proofs.Lengths.{length-zeros}
use Rattle.prdb_layout.specs.Bytes.{bits}
use Rattle.prdb_layout.specs.Records.{IsBlock, entry_in, field_numbers, signed_at, with_fields, new_block}
use Rattle.prdb_layout.specs.State.{PrEntry, IsPrEntry}
use Rattle.prdb_layout.proofs.Lengths.{text_end, fits_id, bits_below}

numbers : PrEntry → List ℕ
numbers e = words (field_numbers e)

length-numbers : (e : PrEntry) → length (numbers e) ≡ 24
unfolding numbers words field_numbers
length-numbers e = refl

front : PrEntry → List ℕ → List ℕ
front e block = numbers e ++ take 8 (drop 24 block)

length-front : (e : PrEntry) (block : List ℕ) → length block ≡ 192 → length (front e block) ≡ 32
unfolding front
length-front e block len =
    omega (
      arith,
      length-append (numbers e) (take 8 (drop 24 block)),
      length-numbers e,
      length-take-le 8 (drop 24 block)
          (omega (arith, length-drop 24 block)),
    )

length-filled : (name : List ℕ) → length name ≤ 63 → length (filled 64 name) ≡ 64
length-filled name short = omega (arith, length-append name (zeros (64 - length name)), length-zeros (64 - length name))

split : (e : PrEntry) (block : List ℕ) → with_fields e block ≡ front e block ++ (filled 64 e.name ++ drop 96 block)
unfolding front numbers with_fields
split e block = append_assoc (numbers e ++ take 8 (drop 24 block)) (filled 64 e.name) (drop 96 block)

pub name_field : (e : PrEntry) (block : List ℕ) → length block ≡ 192 → length e.name ≤ 63
    → take 64 (drop 32 (with_fields e block)) ≡ filled 64 e.name
name_field e block len short =
    ap (λ (x : List ℕ). take 64 (drop 32 x)) (split e block)
    ∙ ap (take 64) (drop_at (front e block) (filled 64 e.name ++ drop 96 block) 32 (length-front e block len))
    ∙ take_at (filled 64 e.name) (drop 96 block) 64 (length-filled e.name short)

pub behind_name : (e : PrEntry) (block : List ℕ) → length block ≡ 192 → length e.name ≤ 63 → drop 96 (with_fields e block) ≡ drop 96 block
behind_name e block len short =
    ap (drop 96) (split e block ∙ sym (append_assoc (front e block) (filled 64 e.name) (drop 96 block)))
    ∙ drop_at (front e block ++ filled 64 e.name) (drop 96 block) 96
    (omega (arith, length-append (front e block) (filled 64 e.name), length-front e block len, length-filled e.name short))

pub length-with_fields : (e : PrEntry) (block : List ℕ) → length block ≡ 192 → length e.name ≤ 63 → length (with_fields e block) ≡ 192
length-with_fields e block len short =
    ap length (split e block)
    ∙ omega (
      arith,
      length-append (front e block) (filled 64 e.name ++ drop 96 block),
      length-append (filled 64 e.name) (drop 96 block),
      length-front e block len,
      length-filled e.name short,
      length-drop 96 block,
    )

pub kind_with : (e : PrEntry) (block : List ℕ) → kind_of (with_fields e block) ≡ 1
unfolding with_fields words field_numbers
kind_with e block = refl

flags_with : (e : PrEntry) (block : List ℕ) → e.flags < 2 ^ 32 → word_at (with_fields e block) 4 ≡ e.flags
unfolding with_fields words field_numbers
flags_with e block fits = from_be_bytes-to_be_bytes_4 e.flags fits

signed : (z : ℤ) (n : ℕ) → FitsSigned w32 z → n ≡ bits z → cast_signed w32 n ≡ z
signed z n fits is = ap (cast_signed w32) is ∙ to_z-of_z w32 z fits

id_with : (e : PrEntry) (block : List ℕ) → FitsSigned w32 e.id → signed_at (with_fields e block) 8 ≡ e.id
unfolding with_fields words field_numbers
id_with e block fits = signed e.id _ fits (from_be_bytes-to_be_bytes_4 (bits e.id) (bits_below e.id fits))

owner_with : (e : PrEntry) (block : List ℕ) → FitsSigned w32 e.owner → signed_at (with_fields e block) 12 ≡ e.owner
unfolding with_fields words field_numbers
owner_with e block fits = signed e.owner _ fits (from_be_bytes-to_be_bytes_4 (bits e.owner) (bits_below e.owner fits))

creator_with : (e : PrEntry) (block : List ℕ) → FitsSigned w32 e.creator → signed_at (with_fields e block) 16 ≡ e.creator
unfolding with_fields words field_numbers
creator_with e block fits = signed e.creator _ fits (from_be_bytes-to_be_bytes_4 (bits e.creator) (bits_below e.creator fits))

quota_with : (e : PrEntry) (block : List ℕ) → FitsSigned w32 e.quota → signed_at (with_fields e block) 20 ≡ e.quota
unfolding with_fields words field_numbers
quota_with e block fits = signed e.quota _ fits (from_be_bytes-to_be_bytes_4 (bits e.quota) (bits_below e.quota fits))

pub name_with : (e : PrEntry) (block : List ℕ) → length block ≡ 192 → IsPrEntry e → block_name (with_fields e block) ≡ e.name
unfolding block_name
name_with e block len is =
    ap (before_first (λ b. eqb b 0)) (name_field e block len is.name_len)
    ∙ ap (λ (n : ℕ). take n (filled 64 e.name)) (text_end e.name (64 - length e.name) (omega (arith, is.name_len)) is.name_text)
    ∙ take_at e.name (zeros (64 - length e.name)) (length e.name) refl

pub entry_with : (e : PrEntry) (block : List ℕ) → length block ≡ 192 → IsPrEntry e → entry_in (with_fields e block) ≡ e
entry_with e block len is =
    let name = name_with e block len is in
    let flags = flags_with e block is.flags in
    let id = id_with e block (fits_id e.id is.id) in
    let owner = owner_with e block is.owner in
    let creator = creator_with e block is.creator in
    let quota = quota_with e block is.quota in
    rw (name, flags, id, owner, creator, quota) refl

pub is_block_with : (e : PrEntry) (block : List ℕ) → length block ≡ 192 → IsPrEntry e → take 16 (drop 96 block) ≡ zeros 16
    → drop 188 block ≡ zeros 4
    → IsBlock (with_fields e block)
is_block_with e block len is chains behind =
    let rest = behind_name e block len is.name_len in
    inr (inr (record {
      kind = kind_with e block;
      name = name_field e block len is.name_len ∙ ap (filled 64) (sym (name_with e block len is));
      chains = ap (take 16) rest ∙ chains;
      behind = sym (drop-drop 92 96 (with_fields e block)) ∙ ap (drop 92) rest ∙ drop-drop 92 96 block ∙ behind;
    }))

pub is_new_block : (e : PrEntry) → IsPrEntry e → IsBlock (new_block e)
unfolding zeros
is_new_block e is = is_block_with e (zeros 192) refl is refl refl
