-- A list that is written over blocks of an image, and the image without words of chains.
use Rattle.std.proofs.Common.{◌≡◌, ◌≢◌, ℕ, ℤ, suc, ◌+◌, ◌*◌, ◌-◌, ◌<◌, ◌≤◌, List, [], ◌∷◌, ◌++◌, length, take, drop, refl, sym, ap, subst, ◌∙◌, ⊎_elim, inl, inr, arith}
use Rattle.std.specs.Prelude.{◌⊎◌}
use Rattle.std.specs.Int.{w32, from_be_bytes}
use Rattle.std.specs.List.{Contains}
use Rattle.std.proofs.lemmas.Bool.{cases_eq}
use Rattle.std.proofs.lemmas.List.{drop-append-le, drop-drop, drop-take, length-append, length-take-le, take-append-drop, take_at}
use Rattle.db_blocks.specs.Blocks.{IsWhole, word_at, kind_of, blanked}
use Rattle.db_blocks.proofs.BlockPlaces.{changed_laid, laid, IsPut, put_block}
use Rattle.db_chains.proofs.Framed.{head_word}
use Rattle.prdb_layout.specs.Blocks.{block_count}
use Rattle.db_blocks.specs.Bytes.{zeros}
use Rattle.db_blocks.proofs.Lengths.{length-zeros}
use Rattle.db_chains.proofs.Bytes.{blanked_len}
use Rattle.prdb_layout.specs.Records.{block_in, entry_in, with_block}
use Rattle.prdb_layout.proofs.BlockPlaces.{block_len}
use Rattle.prdb_lists.specs.Changes.{relisted, with_list, with_more}
use Rattle.prdb_lists.specs.Layout.{PairList, link_to, more_block}
use Rattle.prdb_lists.proofs.BlockIds.{kind_of_more}
use Rattle.prdb_lists.proofs.Side.{behind, contains_or}
use Rattle.prdb_lists.proofs.WithList.{entry_kept, first_of, front_kept, front_told, kind_kept, length-more, length-with_list, mid_part, middle_kept, take_few}
use Rattle.prdb_finds.specs.Unchained.{unchained, unlinked}
use Rattle.prdb_finds.proofs.Fields.{blanked_front, entry_unlinked, part_same}
use Rattle.prdb_finds.proofs.Laid.{block_laid}
use Rattle.prdb_members.proofs.Kept.{KeepsEntries}
use Rattle.prdb_members.proofs.Listed.{behind_same, more_unlinked}
use Rattle.db_blocks.proofs.Scanned.{count_is}

-- ---- continuation blocks

abbrev pub AreBelow : List ℕ → (count : ℕ) → Type 0
AreBelow more count = (j : ℕ) → Contains more j → j < count

-- these blocks are continuation blocks, and all others stay
pub record IsOver (more old new : List ℕ) : Type 0 where
  pub size : length new ≡ length old
  pub front : take 2112 new ≡ take 2112 old
  pub others : (j : ℕ) → j < block_count old → (Contains more j → ⊥) → block_in new j ≡ block_in old j
  pub kinds : (j : ℕ) → Contains more j → kind_of (block_in new j) ≡ 2

pub first_in : (k : ℕ) (more : List ℕ) → Contains (k ∷ more) k
first_in k more = (0, omega arith, refl)

pub later_in : (k : ℕ) (more : List ℕ) (j : ℕ) → Contains more j → Contains (k ∷ more) j
later_in k more j has = (suc has.0, omega (arith, has.1), has.2)

pub over : (entry : ℤ) (more : List ℕ) (ids : List ℤ) (image : List ℕ) → IsWhole 2112 image → AreBelow more (block_count image)
    → IsOver more image (with_more entry more ids image)
unfolding with_more
over entry [] ids image size within = record {
  size = refl;
  front = refl;
  others = λ j below not. refl;
  kinds = λ j has. absurd (omega (arith, has.1));
}
over entry (k ∷ more) ids image size within =
    let n = block_count image in
    let block = more_block entry (link_to more) (take 44 ids) in
    let mid = with_block k block image in
    let below : k < n = within k (first_in k more) in
    let put : IsPut 2112 k block image mid n =
    put_block 2112 image block k n size (length-more entry (link_to more) (take 44 ids) (take_few 44 ids)) below in
    let count : block_count mid ≡ n = count_is 2112 mid n put.size in
    let rest : IsOver more mid (with_more entry more (drop 44 ids) mid) =
    over entry more (drop 44 ids) mid (omega (arith, put.size, count))
    (λ j has. omega (arith, within j (later_in k more j has), count)) in
    let here : kind_of (block_in mid k) ≡ 2 = ap kind_of put.here ∙ kind_of_more entry (link_to more) (take 44 ids) in
    record {
      size = omega (arith, rest.size, put.size, size);
      front = rest.front ∙ put.front;
      others = λ j less not.
          rest.others j (omega (arith, less, count)) (λ has. not (later_in k more j has))
          ∙ put.others j less (λ same. not (subst (Contains (k ∷ more)) (sym same) (first_in k more)));
      kinds = λ j has. elim (contains_or more j) [
        | inl among ↦ rest.kinds j among
        | inr not ↦
            ⊎_elim
            (λ (same : k ≡ j).
            ap kind_of (rest.others j (omega (arith, within j has, count)) not) ∙ ap (λ (i : ℕ). kind_of (block_in mid i)) (sym same) ∙ here)
            (λ (other : k ≢ j). absurd (not (behind k more j other has)))
            (cases_eq k j)
      ];
    }

-- ---- the whole list

-- block k has this list, its continuation blocks are such, and all others stay
pub record IsRelisted (k : ℕ) (block : List ℕ) (l : PairList) (old new : List ℕ) : Type 0 where
  pub size : length new ≡ length old
  pub front : take 2112 new ≡ take 2112 old
  pub here : block_in new k ≡ with_list block l
  pub others : (j : ℕ) → j < block_count old → j ≢ k → (Contains l.more j → ⊥) → block_in new j ≡ block_in old j
  pub kinds : (j : ℕ) → j < block_count old → j ≢ k → Contains l.more j → kind_of (block_in new j) ≡ 2

pub relisted_is : (entry : ℤ) (k : ℕ) (block : List ℕ) (l : PairList) (image : List ℕ) → IsWhole 2112 image → k < block_count image
    → length block ≡ 192 → AreBelow l.more (block_count image) → IsRelisted k block l image (relisted k entry block l image)
relisted_is entry k block l image size below len within =
    let n = block_count image in
    let w : IsOver l.more image (with_more entry l.more (drop 19 l.ids) image) = over entry l.more (drop 19 l.ids) image size within in
    let full = with_more entry l.more (drop 19 l.ids) image in
    let was : length full ≡ 2112 + 192 * n = omega (arith, w.size, size) in
    let count : block_count full ≡ n = count_is 2112 full n was in
    let put : IsPut 2112 k (with_list block l) full (with_block k (with_list block l) full) n =
    put_block 2112 full (with_list block l) k n was (length-with_list block l len) below in
    record {
      size = omega (arith, put.size, size);
      front = put.front ∙ w.front;
      here = put.here;
      others = λ j less other not. put.others j (omega (arith, less, count)) other ∙ w.others j less not;
      kinds = λ j less other has. ap kind_of (put.others j (omega (arith, less, count)) other) ∙ w.kinds j has;
    }

-- what a block of the new image is
pub data Fate (k : ℕ) (l : PairList) (old new : List ℕ) (j : ℕ) : Type 0 where
  the_entry : j ≡ k → Fate k l old new j
  of_list : j ≢ k → kind_of (block_in new j) ≡ 2 → Contains l.more j → Fate k l old new j
  untouched : j ≢ k → (Contains l.more j → ⊥) → block_in new j ≡ block_in old j → Fate k l old new j

pub fate : (k : ℕ) (block : List ℕ) (l : PairList) (old new : List ℕ) (j : ℕ) → IsRelisted k block l old new → j < block_count old
    → Fate k l old new j
fate k block l old new j is below =
    ⊎_elim (λ (same : j ≡ k). the_entry same)
    (λ (other : j ≢ k). elim (contains_or l.more j) [
      | inl has ↦ of_list other (is.kinds j below other has) has
      | inr not ↦ untouched other not (is.others j below other not)
    ])
    (cases_eq j k)

-- the words of chains in an entry's block
pub word_mid : (block : List ℕ) (l : PairList) (offset : ℕ) → length block ≡ 192 → 96 ≤ offset → offset + 4 ≤ 112
    → word_at (with_list block l) offset ≡ word_at block offset
word_mid block l offset len from to =
    let place : 32 + (offset - 32) ≡ offset = omega arith in
    ap (word_at (with_list block l)) (sym place)
    ∙ ap (from_be_bytes w32) (mid_part block l (offset - 32) 4 len (omega arith)) ∙ ap (word_at block) place

pub keeps_relisted : (k : ℕ) (l : PairList) (old new : List ℕ) → IsWhole 2112 old → k < block_count old
    → kind_of (block_in old k) ≡ 1 → ((j : ℕ) → Contains l.more j → kind_of (block_in old j) ≢ 1)
    → IsRelisted k (block_in old k) l old new → KeepsEntries old new
keeps_relisted k l old new size below kind apart is =
    let n = block_count old in
    let block = block_in old k in
    let len : length block ≡ 192 = block_len old k n size below in
    let count : block_count new ≡ n = omega (arith, is.size) in
    let stays : (j : ℕ) → j < n → kind_of (block_in old j) ≡ 1 → (j ≡ k) ⊎ (block_in new j ≡ block_in old j) =
    λ j less one. elim (fate k block l old new j is less) [
      | the_entry same ↦ inl same
      | of_list other two has ↦ absurd (apart j has one)
      | untouched other not same ↦ inr same
    ] in
    record {
      size = omega (arith, is.size, size);
      longer = omega (arith, count);
      head = λ p from to. head_word 2112 p old new to is.front;
      back = λ j less one. elim (fate k block l old new j is (omega (arith, less, count))) [
        | the_entry same ↦ (omega (arith, less, count), ap (λ (i : ℕ). kind_of (block_in old i)) same ∙ kind)
        | of_list other two has ↦ absurd (omega (arith, one, two))
        | untouched other not same ↦ (omega (arith, less, count), ap kind_of (sym same) ∙ one)
      ];
      kind = λ j less one.
          ⊎_elim
          (λ (same : j ≡ k). ap (λ (i : ℕ). kind_of (block_in new i)) same ∙ ap kind_of is.here ∙ kind_kept block l len ∙ kind)
          (λ (same : block_in new j ≡ block_in old j). ap kind_of same ∙ one) (stays j less one);
      entry = λ j less one.
          ⊎_elim
          (λ (same : j ≡ k).
          ap (λ (i : ℕ). entry_in (block_in new i)) same ∙ ap entry_in is.here ∙ entry_kept block l len
          ∙ ap (λ (i : ℕ). entry_in (block_in old i)) (sym same))
          (λ (same : block_in new j ≡ block_in old j). ap entry_in same) (stays j less one);
      words = λ j offset less one from to.
          ⊎_elim
          (λ (same : j ≡ k).
          ap (λ (i : ℕ). word_at (block_in new i) offset) same ∙ ap (λ (b : List ℕ). word_at b offset) is.here
          ∙ word_mid block l offset len from to ∙ ap (λ (i : ℕ). word_at (block_in old i) offset) (sym same))
          (λ (same : block_in new j ≡ block_in old j). ap (λ (b : List ℕ). word_at b offset) same) (stays j less one);
    }

-- ---- without the words of chains

parts_of : (x : List ℕ) → x ≡ take 24 x ++ (take 8 (drop 24 x) ++ (take 80 (drop 32 x) ++ drop 112 x))
parts_of x =
    let third : drop 32 x ≡ take 80 (drop 32 x) ++ drop 112 x =
    sym (take-append-drop 80 (drop 32 x)) ∙ ap (λ (y : List ℕ). take 80 (drop 32 x) ++ y) (drop-drop 80 32 x) in
    let second : drop 24 x ≡ take 8 (drop 24 x) ++ (take 80 (drop 32 x) ++ drop 112 x) =
    sym (take-append-drop 8 (drop 24 x)) ∙ ap (λ (y : List ℕ). take 8 (drop 24 x) ++ y) (drop-drop 8 24 x ∙ third) in
    sym (take-append-drop 24 x) ∙ ap (λ (y : List ℕ). take 24 x ++ y) second

by_parts : (x y : List ℕ) → take 24 x ≡ take 24 y → take 8 (drop 24 x) ≡ take 8 (drop 24 y)
    → take 80 (drop 32 x) ≡ take 80 (drop 32 y) → drop 112 x ≡ drop 112 y → x ≡ y
by_parts x y a b c d =
    parts_of x ∙ ap (λ (z : List ℕ). z ++ (take 8 (drop 24 x) ++ (take 80 (drop 32 x) ++ drop 112 x))) a
    ∙ ap (λ (z : List ℕ). take 24 y ++ (z ++ (take 80 (drop 32 x) ++ drop 112 x))) b
    ∙ ap (λ (z : List ℕ). take 24 y ++ (take 8 (drop 24 y) ++ (z ++ drop 112 x))) c
    ∙ ap (λ (z : List ℕ). take 24 y ++ (take 8 (drop 24 y) ++ (take 80 (drop 32 y) ++ z))) d ∙ sym (parts_of y)

middle_laid : (z s : List ℕ) → length z ≡ 192 → length s ≡ 16 → take 80 (drop 32 (laid z 96 s)) ≡ take 64 (drop 32 z) ++ s
unfolding laid
middle_laid z s size len =
    let a = take 96 z in
    let front : length a ≡ 96 = length-take-le 96 z (omega arith) in
    let both : length (a ++ s) ≡ 112 = omega (arith, length-append a s, front, len) in
    sym (drop-take 32 80 ((a ++ s) ++ drop (96 + length s) z))
    ∙ ap (drop 32) (take_at (a ++ s) (drop (96 + length s) z) 112 both) ∙ drop-append-le 32 a s (omega arith)
    ∙ ap (λ (x : List ℕ). x ++ s) (drop-take 32 64 z)

middle_blanked : (z : List ℕ) → length z ≡ 192 → take 80 (drop 32 (blanked 96 16 z)) ≡ take 64 (drop 32 z) ++ zeros 16
middle_blanked z size =
    ap (λ (x : List ℕ). take 80 (drop 32 x)) (changed_laid z (zeros 16) 96 (omega arith)) ∙ middle_laid z (zeros 16) size (length-zeros 16)

-- an entry's block without the words of chains, with another list
blanked_list : (block : List ℕ) (l : PairList) → length block ≡ 192 → blanked 96 16 (with_list block l) ≡ with_list (blanked 96 16 block) l
blanked_list block l size =
    let other = blanked 96 16 block in
    let len : length other ≡ 192 = blanked_len 96 16 block (omega arith) ∙ size in
    let full : length (with_list block l) ≡ 192 = length-with_list block l size in
    by_parts (blanked 96 16 (with_list block l)) (with_list other l)
    (blanked_front 96 16 24 (with_list block l) (omega arith) (omega arith) ∙ front_kept block l size
    ∙ sym (front_kept other l len ∙ blanked_front 96 16 24 block (omega arith) (omega arith)))
    (part_same (blanked 96 16 (with_list block l)) (with_list block l) 24 8 72 refl (omega arith)
    (blanked_front 96 16 96 (with_list block l) (omega arith) (omega arith))
    ∙ front_told block l size ∙ sym (front_told other l len))
    (middle_blanked (with_list block l) full
    ∙ ap (λ (x : List ℕ). x ++ zeros 16) (mid_part block l 0 64 size (omega arith))
    ∙ sym (middle_kept other l len ∙ middle_blanked block size))
    (behind_same (with_list block l) full ∙ first_of block l size ∙ sym (first_of other l len))

pub unlinked_list : (block : List ℕ) (l : PairList) → length block ≡ 192 → kind_of block ≡ 1
    → unlinked (with_list block l) ≡ with_list (unlinked block) l
unlinked_list block l size kind =
    entry_unlinked (with_list block l) (kind_kept block l size ∙ kind) ∙ blanked_list block l size
    ∙ ap (λ (b : List ℕ). with_list b l) (sym (entry_unlinked block kind))

unchained_more : (entry : ℤ) (more : List ℕ) (ids : List ℤ) (image : List ℕ) → IsWhole 2112 image → AreBelow more (block_count image)
    → unchained (with_more entry more ids image) ≡ with_more entry more ids (unchained image)
unfolding with_more
unchained_more entry [] ids image size within = refl
unchained_more entry (k ∷ more) ids image size within =
    let n = block_count image in
    let block = more_block entry (link_to more) (take 44 ids) in
    let len : length block ≡ 192 = length-more entry (link_to more) (take 44 ids) (take_few 44 ids) in
    let mid = with_block k block image in
    let below : k < n = within k (first_in k more) in
    let put : IsPut 2112 k block image mid n = put_block 2112 image block k n size len below in
    let count : block_count mid ≡ n = count_is 2112 mid n put.size in
    unchained_more entry more (drop 44 ids) mid (omega (arith, put.size, count))
    (λ j has. omega (arith, within j (later_in k more j has), count))
    ∙ ap (with_more entry more (drop 44 ids))
    (block_laid image block k size len below
    ∙ ap (λ (b : List ℕ). with_block k b (unchained image))
    (more_unlinked block (kind_of_more entry (link_to more) (take 44 ids))))

pub unchained_relisted : (entry : ℤ) (k : ℕ) (block : List ℕ) (l : PairList) (image : List ℕ) → IsWhole 2112 image
    → k < block_count image → length block ≡ 192 → kind_of block ≡ 1 → AreBelow l.more (block_count image)
    → unchained (relisted k entry block l image) ≡ relisted k entry (unlinked block) l (unchained image)
unchained_relisted entry k block l image size below len kind within =
    let n = block_count image in
    let w : IsOver l.more image (with_more entry l.more (drop 19 l.ids) image) = over entry l.more (drop 19 l.ids) image size within in
    let full = with_more entry l.more (drop 19 l.ids) image in
    let count : block_count full ≡ n = omega (arith, w.size) in
    block_laid full (with_list block l) k (omega (arith, w.size, size)) (length-with_list block l len) (omega (arith, below, count))
    ∙ ap (λ (b : List ℕ). with_block k b (unchained full)) (unlinked_list block l len kind)
    ∙ ap (with_block k (with_list (unlinked block) l)) (unchained_more entry l.more (drop 19 l.ids) image size within)
