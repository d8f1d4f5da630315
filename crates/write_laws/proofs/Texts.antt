-- How long the text of a write is: its changes are blocks.
use Rattle.std.proofs.Common.{Bool, true, false, true≢false, cond, ◌≡◌, ℕ, zero, suc, ◌+◌, ◌-◌, ◌*◌, ◌/◌, ◌%◌, ◌<◌, ◌≤◌, List, [], ◌∷◌, ◌++◌, length, drop}
use Rattle.std.proofs.Common.{replicate, refl, sym, ap, subst, ◌∙◌, arith}
use Rattle.std.proofs.Math.Nat.{mod-lt}
use Rattle.std.proofs.lemmas.Bool.{cond_both}
use Rattle.std.proofs.lemmas.List.{length-append, length-replicate, length-take, length-drop}
use Rattle.std.specs.List.{AllByRecursion}
use Rattle.std.specs.Prelude.{None, nat_lt, max, min}
use Rattle.std.specs.Str.{bytes_eq}
use Rattle.ubik_types.specs.declared.images.Change.{Change}
use Rattle.ubik_types.specs.declared.images.Change.TheVariants.{Put, Cut}
use Rattle.ubik_types.specs.declared.limits.TheConstants.{MAX_CHANGES}
use Rattle.ubik_types.specs.declared.versions.Version.{Version}
use Rattle.ubik_types.specs.Logged.{passed_limit, too_large}
use Rattle.ubik_types.specs.Phase.{PhaseRecord}
use Rattle.xdr_base.specs.ChangeText.{change_spelling, HasSpelling, text_of}
use Rattle.xdr_base.specs.Spelling.{word, padding, opaque}
use Rattle.ubik_calls.specs.declared.packets.TheConstants.{MAX_PIECE, MAX_PIECES}
use Rattle.db_image.specs.Blocks.{block_at, block_change, block_changes, changes_between}
use Rattle.db_image.specs.Database.{Database, Outcome, changes_of}
use Rattle.cell_model.specs.Node.{Flight}
use Rattle.cell_model.specs.Pieces.{piece_count}
use Rattle.cell_laws.proofs.Parts.{lt_true, lt_false}
use Rattle.cell_pages.specs.Images.{KeepsImages}
use Rattle.cell_pages.proofs.LoggedChanges.{changes_spelled}
use Rattle.write_laws.specs.Keeping.{IsOwnWrite}
use Rattle.write_laws.specs.Texts.{HasText, TextsFit}
use Rattle.write_laws.proofs.Receiving.{none_first, limits}

-- ---- bytes that are put, and how long their text is at most

abbrev put_bytes : List Change → ℕ
put_bytes [] = 0
put_bytes (Put at bytes ∷ changes) = length bytes + put_bytes changes
put_bytes (Cut len ∷ changes) = put_bytes changes

abbrev weight : List Change → ℕ
weight [] = 0
weight (Put at bytes ∷ changes) = 15 + length bytes + weight changes
weight (Cut len ∷ changes) = 15 + weight changes

bytes_append : (a b : List Change) → put_bytes (a ++ b) ≡ put_bytes a + put_bytes b
bytes_append [] b = omega arith
bytes_append (Put at bytes ∷ a) b = (let rest : put_bytes (a ++ b) ≡ put_bytes a + put_bytes b = bytes_append a b in omega arith)
bytes_append (Cut len ∷ a) b = bytes_append a b

weight_append : (a b : List Change) → weight (a ++ b) ≡ weight a + weight b
weight_append [] b = omega arith
weight_append (Put at bytes ∷ a) b = (let rest : weight (a ++ b) ≡ weight a + weight b = weight_append a b in omega arith)
weight_append (Cut len ∷ a) b = (let rest : weight (a ++ b) ≡ weight a + weight b = weight_append a b in omega arith)

put_long : (at : ℕ) (bytes : List ℕ) → length (change_spelling (Put at bytes)) ≤ 15 + length bytes
put_long at bytes =
    let pad : padding (length bytes) < 4 = mod-lt (4 - length bytes % 4) (omega arith) in
    omega (
      arith,
      length-append (word 1) (word at ++ opaque bytes),
      length-append (word at) (opaque bytes),
      length-append (word (length bytes) ++ bytes) (replicate (padding (length bytes)) 0),
      length-append (word (length bytes)) bytes,
      length-replicate {A = ℕ} (padding (length bytes)) 0,
    )

text_long : (changes : List Change) → length (text_of changes) ≤ weight changes
text_long [] = omega arith
text_long (Put at bytes ∷ changes) =
    let rest : length (text_of changes) ≤ weight changes = text_long changes in
    let first : length (change_spelling (Put at bytes)) ≤ 15 + length bytes = put_long at bytes in
    let whole : length (change_spelling (Put at bytes) ++ text_of changes) ≡ length (change_spelling (Put at bytes)) + length (text_of changes) =
    length-append (change_spelling (Put at bytes)) (text_of changes) in omega arith
text_long (Cut len ∷ changes) =
    let rest : length (text_of changes) ≤ weight changes = text_long changes in
    let first : length (change_spelling (Cut len)) ≡ 8 = refl in
    let whole : length (change_spelling (Cut len) ++ text_of changes) ≡ length (change_spelling (Cut len)) + length (text_of changes) =
    length-append (change_spelling (Cut len)) (text_of changes) in omega arith

-- changes that are not too large put no more bytes than changes may
bytes_within : (sum len : ℕ) (changes : List Change) → sum ≤ MAX_CHANGES → too_large sum len changes ≡ None → sum + put_bytes changes ≤ MAX_CHANGES
bytes_within sum len [] few is = omega arith
bytes_within sum len (Put at bytes ∷ changes) few is =
    let first = none_first (passed_limit (sum + (at - len)) (max len at)) _ is in
    let second = none_first (passed_limit (sum + (at - len) + length bytes) (max len (at + length bytes))) _ first.1 in
    let put = limits (sum + (at - len) + length bytes) (max len (at + length bytes)) second.0 in
    let rest : sum + (at - len) + length bytes + put_bytes changes ≤ MAX_CHANGES =
    bytes_within (sum + (at - len) + length bytes) (max len (at + length bytes)) changes put.0 second.1 in omega arith
bytes_within sum len (Cut to ∷ changes) few is = bytes_within sum (min to len) changes few is

-- ---- blocks

-- a block that is put is not empty, where the image grows no shorter
some_byte : (a b : List ℕ) → length b ≤ length a → bytes_eq a b ≡ false → 1 ≤ length a
some_byte [] [] shorter differ = absurd (true≢false differ)
some_byte [] (x ∷ b) shorter differ = absurd (omega arith)
some_byte (x ∷ a) b shorter differ = omega arith

-- where both are empty nothing is put
no_byte : (a b : List ℕ) → length a ≤ 0 → length b ≤ length a → bytes_eq a b ≡ true
no_byte [] [] none shorter = refl
no_byte [] (x ∷ b) none shorter = absurd (omega arith)
no_byte (x ∷ a) b none shorter = absurd (omega arith)

module _ (old new : List ℕ) (grows : length old ≤ length new) where
  block_long : (image : List ℕ) (at size : ℕ) → length (block_at image at size) ≡ min size (length image - at)
  block_long image at size = length-take size (drop at image) ∙ ap (min size) (length-drop at image)

  shorter : (at size : ℕ) → length (block_at old at size) ≤ length (block_at new at size)
  shorter at size =
      let a : length (block_at old at size) ≡ min size (length old - at) = block_long old at size in
      let b : length (block_at new at size) ≡ min size (length new - at) = block_long new at size in omega arith

  -- one block: at most sixteen bytes of text for each byte
  one_fits : (at size : ℕ) → weight (block_change old new at size) ≤ 16 * put_bytes (block_change old new at size)
  one_fits at size =
      cond_both (bytes_eq (block_at new at size) (block_at old at size)) [] (Put at (block_at new at size) ∷ [])
      (λ (changes : List Change). weight changes ≤ 16 * put_bytes changes) (λ _. omega arith)
      (λ differ. some (some_byte (block_at new at size) (block_at old at size) (shorter at size) differ))
    where
      some : 1 ≤ length (block_at new at size) → 15 + length (block_at new at size) + 0 ≤ 16 * (length (block_at new at size) + 0)
      some long = omega arith

  -- one block, long or not
  one_near : (at size : ℕ) → 64 * weight (block_change old new at size) ≤ 79 * put_bytes (block_change old new at size) + 960
  one_near at size =
      cond_both (bytes_eq (block_at new at size) (block_at old at size)) [] (Put at (block_at new at size) ∷ [])
      (λ (changes : List Change). 64 * weight changes ≤ 79 * put_bytes changes + 960) (λ _. omega arith) (λ _. by (length (block_at new at size)))
    where
      by : (n : ℕ) → 64 * (15 + n + 0) ≤ 79 * (n + 0) + 960
      by n = omega arith

  -- a whole block of at least 64 bytes
  one_whole : (at size : ℕ) → 64 ≤ size → at + size ≤ length new →
      64 * weight (block_change old new at size) ≤ 79 * put_bytes (block_change old new at size)
  one_whole at size long inside =
      cond_both (bytes_eq (block_at new at size) (block_at old at size)) [] (Put at (block_at new at size) ∷ [])
      (λ (changes : List Change). 64 * weight changes ≤ 79 * put_bytes changes) (λ _. omega arith)
      (λ _. by (length (block_at new at size)) (block_long new at size))
    where
      by : (n : ℕ) → n ≡ min size (length new - at) → 64 * (15 + n + 0) ≤ 79 * (n + 0)
      by n is = omega arith

  -- behind the end no block differs
  none_behind : (at size : ℕ) → length new ≤ at → block_change old new at size ≡ []
  none_behind at size end =
      ap (λ (same : Bool). cond same [] (Put at (block_at new at size) ∷ []))
      (no_byte (block_at new at size) (block_at old at size) (let long = block_long new at size in omega arith) (shorter at size))

  all_behind : (at size count : ℕ) → length new ≤ at → block_changes old new at size count ≡ []
  all_behind at size zero end = refl
  all_behind at size (suc count) end =
      ap (λ (changes : List Change). changes ++ block_changes old new (at + size) size count) (none_behind at size end)
      ∙ all_behind (at + size) size count (omega arith)

  blocks_fit : (at size count : ℕ) → weight (block_changes old new at size count) ≤ 16 * put_bytes (block_changes old new at size count)
  blocks_fit at size zero = omega arith
  blocks_fit at size (suc count) = join (block_change old new at size) (block_changes old new (at + size) size count) (one_fits at size) (blocks_fit (at + size) size count)
    where
      join : (a b : List Change) → weight a ≤ 16 * put_bytes a → weight b ≤ 16 * put_bytes b → weight (a ++ b) ≤ 16 * put_bytes (a ++ b)
      join a b first second = omega (arith, weight_append a b, bytes_append a b)

  -- a whole block, and those behind it
  then_near : (a b : List Change) → 64 * weight a ≤ 79 * put_bytes a → 64 * weight b ≤ 79 * put_bytes b + 960 →
      64 * weight (a ++ b) ≤ 79 * put_bytes (a ++ b) + 960
  then_near a b first second = omega (arith, weight_append a b, bytes_append a b)

  -- the last block, and none behind it
  last_near : (a b : List Change) → b ≡ [] → 64 * weight a ≤ 79 * put_bytes a + 960 → 64 * weight (a ++ b) ≤ 79 * put_bytes (a ++ b) + 960
  last_near a b none first =
      let wide : weight b ≡ 0 = ap weight none in
      let bytes : put_bytes b ≡ 0 = ap put_bytes none in omega (arith, weight_append a b, bytes_append a b)

  block_then : (at size : ℕ) (rest : List Change) → 64 ≤ size → 64 * weight rest ≤ 79 * put_bytes rest + 960 → (length new ≤ at + size → rest ≡ []) →
      64 * weight (block_change old new at size ++ rest) ≤ 79 * put_bytes (block_change old new at size ++ rest) + 960
  block_then at size rest long near none = by (nat_lt (length new) (at + size)) refl
    where
      by : (past : Bool) → nat_lt (length new) (at + size) ≡ past →
          64 * weight (block_change old new at size ++ rest) ≤ 79 * put_bytes (block_change old new at size ++ rest) + 960
      by true is =
          last_near (block_change old new at size) rest (none (let less = lt_true (length new) (at + size) is in omega arith)) (one_near at size)
      by false is =
          then_near (block_change old new at size) rest (one_whole at size long (lt_false (length new) (at + size) is)) near

  blocks_near : (at size count : ℕ) → 64 ≤ size →
      64 * weight (block_changes old new at size count) ≤ 79 * put_bytes (block_changes old new at size count) + 960
  blocks_near at size zero long = omega arith
  blocks_near at size (suc count) long =
      block_then at size (block_changes old new (at + size) size count) long (blocks_near (at + size) size count long)
      (λ end. all_behind (at + size) size count end)

  between_fits : (head block : ℕ) → weight (changes_between head block old new) ≤ 16 * put_bytes (changes_between head block old new)
  between_fits head block =
      let a : List Change = block_change old new 0 head in
      let b : List Change = block_changes old new head block (length new) in
      let first : weight a ≤ 16 * put_bytes a = one_fits 0 head in
      let second : weight b ≤ 16 * put_bytes b = blocks_fit head block (length new) in
      omega (arith, weight_append a b, bytes_append a b)

  between_near : (head block : ℕ) → 64 ≤ head → 64 ≤ block →
      64 * weight (changes_between head block old new) ≤ 79 * put_bytes (changes_between head block old new) + 960
  between_near head block long wide =
      block_then 0 head (block_changes old new head block (length new)) long (blocks_near head block (length new) wide)
      (λ end. all_behind head block (length new) (let same : 0 + head ≡ head = omega arith in omega arith))

-- ---- a write in flight

module _ (db : Database) (servers : ℕ) (phase : PhaseRecord) (version : Version) (image : List ℕ) (f : Flight) (keeps : KeepsImages db)
    (is : IsOwnWrite db servers phase version image f) where
  longer : length f.old_image ≤ length image
  longer =
      subst (λ (o : Outcome). length f.old_image ≤ length o.image) is.outcome (keeps.grows f.old_image f.began f.call)

  small : too_large 0 (length f.old_image) (changes_of db f.old_image image) ≡ None
  small = ap (too_large 0 (length f.old_image)) (sym is.changes) ∙ is.small

  bytes_few : put_bytes (changes_of db f.old_image image) ≤ MAX_CHANGES
  bytes_few =
      let all : 0 + put_bytes (changes_of db f.old_image image) ≤ MAX_CHANGES =
      bytes_within 0 (length f.old_image) (changes_of db f.old_image image) (omega arith) small in omega arith

  has_text : HasText f
  has_text = record {
    spelled = subst (AllByRecursion HasSpelling) (sym is.changes) (changes_spelled db.head db.block f.old_image image small);
    long = subst (λ (changes : List Change). length (text_of changes) ≤ 16 * MAX_CHANGES) (sym is.changes) long;
  }
    where
      long : length (text_of (changes_of db f.old_image image)) ≤ 16 * MAX_CHANGES
      long =
          let text : length (text_of (changes_of db f.old_image image)) ≤ weight (changes_of db f.old_image image) =
          text_long (changes_of db f.old_image image) in
          let fits : weight (changes_of db f.old_image image) ≤ 16 * put_bytes (changes_of db f.old_image image) =
          between_fits f.old_image image longer db.head db.block in
          let few : put_bytes (changes_of db f.old_image image) ≤ MAX_CHANGES = bytes_few in omega arith

  few_pieces : 64 ≤ db.head → 64 ≤ db.block → piece_count (text_of f.changes) ≤ MAX_PIECES
  few_pieces head block = subst (λ (changes : List Change). piece_count (text_of changes) ≤ MAX_PIECES) (sym is.changes) few
    where
      count : (text wide bytes : ℕ) → text ≤ wide → 64 * wide ≤ 79 * bytes + 960 → bytes ≤ MAX_CHANGES → (text + (MAX_PIECE - 1)) / MAX_PIECE ≤ MAX_PIECES
      count text wide bytes short near few = omega arith

      few : piece_count (text_of (changes_of db f.old_image image)) ≤ MAX_PIECES
      few =
          count (length (text_of (changes_of db f.old_image image))) (weight (changes_of db f.old_image image))
          (put_bytes (changes_of db f.old_image image)) (text_long (changes_of db f.old_image image))
          (between_near f.old_image image longer db.head db.block head block) bytes_few

pub texts_fit : TextsFit
texts_fit = record {
  each = has_text;
  few = λ db servers phase version image f keeps head block is. few_pieces db servers phase version image f keeps is head block;
}
