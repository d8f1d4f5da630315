-- An entry's own blocks with another id: the words of chains stay, and without them it is what the lower crate makes.
use Rattle.std.proofs.Common.{◌≡◌, ◌≢◌, ℕ, ℤ, ◌+◌, ◌-◌, ◌<◌, ◌≤◌, ◌⊎◌, inl, inr, ⊎_elim, List, ◌++◌, length, take, drop, refl, sym, ap, ◌∙◌, append_assoc, arith}
use Rattle.std.specs.Prelude.{FitsSigned}
use Rattle.std.specs.Int.{w32, from_be_bytes}
use Rattle.std.specs.List.{Contains}
use Rattle.std.proofs.lemmas.List.{drop-append-le, drop-drop, drop-take, length-append, length-take-le, take-append-drop, take-take, take_at, drop_at}
use Rattle.db_blocks.specs.Blocks.{IsWhole, word_at, kind_of, blanked}
use Rattle.db_blocks.proofs.BlockPlaces.{changed_laid, laid}
use Rattle.prdb_layout.specs.Blocks.{block_count}
use Rattle.db_blocks.specs.Bytes.{word, zeros}
use Rattle.db_blocks.proofs.Lengths.{length-zeros}
use Rattle.db_chains.proofs.Bytes.{blanked_len}
use Rattle.prdb_layout.specs.Bytes.{bits}
use Rattle.prdb_layout.specs.Records.{block_in, entry_in}
use Rattle.prdb_layout.specs.Registry.{Registry}
use Rattle.prdb_layout.proofs.BlockPlaces.{block_len}
use Rattle.prdb_lists.specs.Changes.{list_in, relisted}
use Rattle.prdb_lists.specs.Layout.{PairList}
use Rattle.prdb_lists.specs.Moves.{after_put_id, with_id_word}
use Rattle.prdb_lists.proofs.MovedBlock.{entry_put, length-with_id_word, with_id_of}
use Rattle.prdb_lists.proofs.MovedImage.{put_id_is as plain_put_id_is}
use Rattle.prdb_lists.proofs.Relist.{StandsAt}
use Rattle.prdb_lists.proofs.WithList.{entry_kept, kind_kept}
use Rattle.prdb_finds.specs.Unchained.{unchained, unlinked}
use Rattle.prdb_finds.proofs.Fields.{blanked_front, entry_unlinked}
use Rattle.prdb_finds.proofs.Without.{unchained_block}
use Rattle.prdb_members.specs.Sides.{HasLists}
use Rattle.prdb_members.proofs.Gains.{place_is, told_at}
use Rattle.prdb_members.proofs.Kept.{KeepsWords}
use Rattle.prdb_members.proofs.Listed.{stands_plain}
use Rattle.prdb_members.proofs.Rewritten.{AreBelow, IsRelisted, fate, of_list, relisted_is, the_entry, unchained_relisted, untouched, word_mid}

-- ---- a block with another id

four_bytes : (n : ℕ) → length (word n) ≡ 4
four_bytes n = refl

front_len : (id : ℤ) (block : List ℕ) → length block ≡ 192 → length (take 8 block ++ word (bits id)) ≡ 12
front_len id block len =
    omega (arith, length-append (take 8 block) (word (bits id)), four_bytes (bits id), length-take-le 8 block (omega arith))

front_is : (id : ℤ) (block : List ℕ) → length block ≡ 192 → take 12 (with_id_word id block) ≡ take 8 block ++ word (bits id)
unfolding with_id_word
front_is id block len = take_at (take 8 block ++ word (bits id)) (drop 12 block) 12 (front_len id block len)

rest_is : (id : ℤ) (block : List ℕ) → length block ≡ 192 → drop 12 (with_id_word id block) ≡ drop 12 block
unfolding with_id_word
rest_is id block len = drop_at (take 8 block ++ word (bits id)) (drop 12 block) 12 (front_len id block len)

-- a word behind the id
word_stays : (id : ℤ) (block : List ℕ) (at : ℕ) → length block ≡ 192 → 12 ≤ at → word_at (with_id_word id block) at ≡ word_at block at
word_stays id block at len behind =
    let place : 12 + (at - 12) ≡ at = omega arith in
    let one : (x : List ℕ) → drop at x ≡ drop (at - 12) (drop 12 x) =
    λ x. ap (λ (n : ℕ). drop n x) (sym place) ∙ sym (drop-drop (at - 12) 12 x) in
    ap (λ (x : List ℕ). from_be_bytes w32 (take 4 x))
    (one (with_id_word id block) ∙ ap (drop (at - 12)) (rest_is id block len) ∙ sym (one block))

pub kind_stays : (id : ℤ) (block : List ℕ) → length block ≡ 192 → kind_of (with_id_word id block) ≡ kind_of block
unfolding with_id_word
kind_stays id block len =
    let four : (x : List ℕ) → take 4 (take 8 x) ≡ take 4 x = λ x. take-take 4 8 x (omega arith) in
    let same : take 4 (with_id_word id block) ≡ take 4 block =
    sym (four (with_id_word id block))
    ∙ ap (take 4)
    (ap (take 8) (append_assoc (take 8 block) (word (bits id)) (drop 12 block))
    ∙ take_at (take 8 block) (word (bits id) ++ drop 12 block) 8 (length-take-le 8 block (omega arith)))
    ∙ four block in
    ap (from_be_bytes w32) same

-- without the words of chains
abbrev rest_of : List ℕ → List ℕ
rest_of c = (take 84 c ++ zeros 16) ++ drop 100 c

drop_blanked : (z : List ℕ) → length z ≡ 192 → drop 12 (blanked 96 16 z) ≡ rest_of (drop 12 z)
unfolding laid
drop_blanked z len =
    let front : length (take 96 z) ≡ 96 = length-take-le 96 z (omega arith) in
    let none : length (zeros 16) ≡ 16 = length-zeros 16 in
    let both : length (take 96 z ++ zeros 16) ≡ 112 = omega (arith, length-append (take 96 z) (zeros 16), front, none) in
    let end : drop (96 + length (zeros 16)) z ≡ drop 100 (drop 12 z) =
    ap (λ (n : ℕ). drop (96 + n) z) none ∙ sym (drop-drop 100 12 z) in
    ap (drop 12) (changed_laid z (zeros 16) 96 (omega arith))
    ∙ drop-append-le 12 (take 96 z ++ zeros 16) (drop (96 + length (zeros 16)) z) (omega arith)
    ∙ ap (λ (x : List ℕ). x ++ drop (96 + length (zeros 16)) z)
    (drop-append-le 12 (take 96 z) (zeros 16) (omega arith) ∙ ap (λ (x : List ℕ). x ++ zeros 16) (drop-take 12 84 z))
    ∙ ap (λ (x : List ℕ). (take 84 (drop 12 z) ++ zeros 16) ++ x) end

split_12 : (x y : List ℕ) → take 12 x ≡ take 12 y → drop 12 x ≡ drop 12 y → x ≡ y
split_12 x y front rest =
    sym (take-append-drop 12 x) ∙ ap (λ (a : List ℕ). a ++ drop 12 x) front ∙ ap (λ (b : List ℕ). take 12 y ++ b) rest
    ∙ take-append-drop 12 y

blanked_id : (id : ℤ) (block : List ℕ) → length block ≡ 192
    → blanked 96 16 (with_id_word id block) ≡ with_id_word id (blanked 96 16 block)
blanked_id id block len =
    let w = with_id_word id block in
    let b = blanked 96 16 block in
    let long : length w ≡ 192 = length-with_id_word id block len in
    let other : length b ≡ 192 = blanked_len 96 16 block (omega arith) ∙ len in
    split_12 (blanked 96 16 w) (with_id_word id b)
    (blanked_front 96 16 12 w (omega arith) (omega arith) ∙ front_is id block len
    ∙ ap (λ (x : List ℕ). x ++ word (bits id)) (sym (blanked_front 96 16 8 block (omega arith) (omega arith))) ∙ sym (front_is id b other))
    (drop_blanked w long ∙ ap rest_of (rest_is id block len) ∙ sym (drop_blanked block len) ∙ sym (rest_is id b other))

unlinked_id : (id : ℤ) (block : List ℕ) → length block ≡ 192 → kind_of block ≡ 1
    → unlinked (with_id_word id block) ≡ with_id_word id (unlinked block)
unlinked_id id block len kind =
    entry_unlinked (with_id_word id block) (kind_stays id block len ∙ kind) ∙ blanked_id id block len
    ∙ ap (with_id_word id) (sym (entry_unlinked block kind))

-- ---- the image

-- The block of an entry is written again with another id, and so are its continuation blocks. The other entries stay.
pub record IsRenamed (k : ℕ) (id : ℤ) (old new : List ℕ) : Type 0 where
  pub count : block_count new ≡ block_count old
  pub size : IsWhole 2112 new
  pub front : take 2112 new ≡ take 2112 old
  pub keeps : KeepsWords old new
  pub back : (j : ℕ) → j < block_count old → kind_of (block_in new j) ≡ 1 → kind_of (block_in old j) ≡ 1
  pub entry : entry_in (block_in new k) ≡ with_id_of id (entry_in (block_in old k))
  pub others : (j : ℕ) → j < block_count old → j ≢ k → kind_of (block_in old j) ≡ 1 → block_in new j ≡ block_in old j

pub renamed : (image : List ℕ) (k : ℕ) (id : ℤ) (l : PairList) → IsWhole 2112 image → k < block_count image
    → kind_of (block_in image k) ≡ 1 → FitsSigned w32 id → AreBelow l.more (block_count image)
    → ((j : ℕ) → Contains l.more j → kind_of (block_in image j) ≢ 1)
    → IsRenamed k id image (relisted k id (with_id_word id (block_in image k)) l image)
renamed image k id l size below kind fits within apart =
    let n = block_count image in
    let block = block_in image k in
    let len : length block ≡ 192 = block_len image k n size below in
    let block_id = with_id_word id block in
    let long : length block_id ≡ 192 = length-with_id_word id block len in
    let new = relisted k id block_id l image in
    let is : IsRelisted k block_id l image new = relisted_is id k block_id l image size below long within in
    let count : block_count new ≡ n = omega (arith, is.size) in
    let here_kind : kind_of (block_in new k) ≡ 1 = ap kind_of is.here ∙ kind_kept block_id l long ∙ kind_stays id block len ∙ kind in
    let stays : (j : ℕ) → j < n → kind_of (block_in image j) ≡ 1 → (j ≡ k) ⊎ (block_in new j ≡ block_in image j) =
    λ j less one. elim (fate k block_id l image new j is less) [
      | the_entry same ↦ inl same
      | of_list other two has ↦ absurd (apart j has one)
      | untouched other not same ↦ inr same
    ] in
    record {
      count = count;
      size = omega (arith, is.size, size);
      front = is.front;
      keeps = record {
        longer = omega (arith, count);
        kind = λ j less one.
            ⊎_elim
            (λ (same : j ≡ k). ap (λ (i : ℕ). kind_of (block_in new i)) same ∙ here_kind)
            (λ (same : block_in new j ≡ block_in image j). ap kind_of same ∙ one) (stays j less one);
        words = λ j offset less one from to.
            ⊎_elim
            (λ (same : j ≡ k).
            ap (λ (i : ℕ). word_at (block_in new i) offset) same ∙ ap (λ (b : List ℕ). word_at b offset) is.here
            ∙ word_mid block_id l offset long from to ∙ word_stays id block offset len (omega arith)
            ∙ ap (λ (i : ℕ). word_at (block_in image i) offset) (sym same))
            (λ (same : block_in new j ≡ block_in image j). ap (λ (b : List ℕ). word_at b offset) same) (stays j less one);
      };
      back = λ j less one. elim (fate k block_id l image new j is less) [
        | the_entry same ↦ ap (λ (i : ℕ). kind_of (block_in image i)) same ∙ kind
        | of_list other two has ↦ absurd (omega (arith, one, two))
        | untouched other not same ↦ ap kind_of (sym same) ∙ one
      ];
      entry = ap entry_in is.here ∙ entry_kept block_id l long ∙ entry_put id block len fits;
      others = λ j less other one. ⊎_elim (λ (same : j ≡ k). absurd (other same))
          (λ (same : block_in new j ≡ block_in image j). same) (stays j less one);
    }

-- the image is a function of the bytes
pub put_id_is : (image : List ℕ) (r : Registry) (lists : ℤ → PairList) (old new : ℤ) (k : ℕ) → HasLists image r lists → StandsAt image old k
    → after_put_id old new image ≡ relisted k new (with_id_word new (block_in image k)) (lists old) image
put_id_is image r lists old new k h at =
    ap (λ (j : ℕ). relisted j new (with_id_word new (block_in image j)) (list_in image (block_in image j)) image)
    (place_is image r lists old k h at)
    ∙ ap (λ (l : PairList). relisted k new (with_id_word new (block_in image k)) l image) (told_at image r lists old k h at)

-- and without the words of chains it is what the lower crate makes
pub put_id_plain : (image : List ℕ) (r : Registry) (lists : ℤ → PairList) (old new : ℤ) (k : ℕ) → HasLists image r lists
    → StandsAt image old k → AreBelow (lists old).more (block_count image)
    → unchained (after_put_id old new image) ≡ after_put_id old new (unchained image)
put_id_plain image r lists old new k h at within =
    let block = block_in image k in
    let u = unchained image in
    let len : length block ≡ 192 = block_len image k (block_count image) h.size at.below in
    ap unchained (put_id_is image r lists old new k h at)
    ∙ unchained_relisted new k (with_id_word new block) (lists old) image h.size at.below (length-with_id_word new block len)
    (kind_stays new block len ∙ at.kind) within
    ∙ ap (λ (b : List ℕ). relisted k new b (lists old) u)
    (unlinked_id new block len at.kind ∙ ap (with_id_word new) (sym (unchained_block image k h.size at.below)))
    ∙ sym (plain_put_id_is u r lists old new k h.without (stands_plain image old k h.size at))
