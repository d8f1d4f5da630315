-- An entry's block with another list of pairs keeps the entry, and tells the list.
use Rattle.std.proofs.Common.{◌≡◌, ℕ, ℤ, suc, ◌+◌, ◌-◌, ◌*◌, ◌<◌, ◌≤◌, eqb, List, [], ◌∷◌, ◌++◌, length, take, drop, map, refl, sym, ap, ◌∙◌, append_assoc, rules, arith}
use Rattle.std.specs.Int.{w32, cast_signed, from_be_bytes}
use Rattle.std.specs.List.{before_first}
use Rattle.std.proofs.lemmas.List.{get_or-append_right, get_or-drop, get_or-replicate, places, same_lists, take_at, drop_at, drop-drop, length-append, length-take, length-take-le, length-drop, length-map}
use Rattle.prdb_layout.specs.Blocks.{block_name}
use Rattle.db_blocks.specs.Blocks.{word_at, kind_of}
use Rattle.db_blocks.specs.Bytes.{words, zeros, filled}
use Rattle.db_blocks.proofs.Lengths.{length-zeros}
use Rattle.prdb_layout.specs.Bytes.{bits}
use Rattle.prdb_layout.specs.Records.{IsEntryBlock, entry_in, field_numbers}
use Rattle.prdb_lists.specs.Layout.{PairList, id_field, link_word, list_words, more_block, IsSpelled}
use Rattle.prdb_lists.specs.Changes.{with_list}
use Rattle.prdb_layout.specs.State.{PrEntry}

-- ---- lengths

pub length-words : (ns : List ℕ) → length (words ns) ≡ 4 * length ns
unfolding words
length-words [] = refl
length-words (n ∷ ns) = ap (λ (k : ℕ). suc (suc (suc (suc k)))) (length-words ns) ∙ omega arith

pub length-id_words : (ids : List ℤ) → length (words (map bits ids)) ≡ 4 * length ids
length-id_words ids = length-words (map bits ids) ∙ ap (λ (k : ℕ). 4 * k) (length-map ids bits)

pub length-id_field : (len : ℕ) (ids : List ℤ) → 4 * length ids ≤ len → length (id_field len ids) ≡ len
length-id_field len ids fits =
    let w = length-id_words ids in
    omega (
      arith,
      w,
      fits,
      length-append (words (map bits ids)) (zeros (len - length (words (map bits ids)))),
      length-zeros (len - length (words (map bits ids))),
    )

pub take_few : (n : ℕ) (ids : List ℤ) → length (take n ids) ≤ n
take_few n ids = omega (arith, length-take n ids)

pub length-more : (entry : ℤ) (next : ℕ) (ids : List ℤ) → length ids ≤ 44 → length (more_block entry next ids) ≡ 192
length-more entry next ids few =
    let w = length-words (2 ∷ bits entry ∷ []) in
    omega (
      arith,
      w,
      few,
      length-append (words (2 ∷ bits entry ∷ [])) (link_word next),
      length-append (words (2 ∷ bits entry ∷ []) ++ link_word next) (id_field 180 ids),
      length-id_field 180 ids (omega (arith, few)),
    )

-- ---- the parts of the block

-- what stands before the ids
head_of_list : List ℕ → PairList → List ℕ
head_of_list block l = (take 24 block ++ list_words l) ++ take 80 (drop 32 block)

split : (block : List ℕ) (l : PairList) → with_list block l ≡ head_of_list block l ++ id_field 80 (take 19 l.ids)
unfolding with_list head_of_list
split block l = refl

two_words : (l : PairList) → length (list_words l) ≡ 8
two_words l = refl

length-front : (block : List ℕ) (l : PairList) → length block ≡ 192 → length (take 24 block ++ list_words l) ≡ 32
length-front block l len =
    omega (arith, length-append (take 24 block) (list_words l), length-take-le 24 block (omega arith), two_words l)

length-head : (block : List ℕ) (l : PairList) → length block ≡ 192 → length (head_of_list block l) ≡ 112
unfolding head_of_list
length-head block l len =
    omega (
      arith,
      length-append (take 24 block ++ list_words l) (take 80 (drop 32 block)),
      length-front block l len,
      length-take-le 80 (drop 32 block) (omega (arith, length-drop 32 block)),
    )

first_few : (l : PairList) → 4 * length (take 19 l.ids) ≤ 80
first_few l = omega (arith, take_few 19 l.ids)

pub length-with_list : (block : List ℕ) (l : PairList) → length block ≡ 192 → length (with_list block l) ≡ 192
length-with_list block l len =
    ap length (split block l)
    ∙ omega (
      arith,
      length-append (head_of_list block l) (id_field 80 (take 19 l.ids)),
      length-head block l len,
      length-id_field 80 (take 19 l.ids) (first_few l),
    )

-- ---- what is told

pub first_of : (block : List ℕ) (l : PairList) → length block ≡ 192 → drop 112 (with_list block l) ≡ id_field 80 (take 19 l.ids)
first_of block l len =
    ap (drop 112) (split block l) ∙ drop_at (head_of_list block l) (id_field 80 (take 19 l.ids)) 112 (length-head block l len)

-- behind the first 24 bytes
behind_24 : (block : List ℕ) (l : PairList) → length block ≡ 192
    → drop 24 (with_list block l) ≡ list_words l ++ (take 80 (drop 32 block) ++ id_field 80 (take 19 l.ids))
unfolding with_list
behind_24 block l len =
    let a = take 24 block in
    let w = list_words l in
    let c = take 80 (drop 32 block) in
    let d = id_field 80 (take 19 l.ids) in
    ap (drop 24) (append_assoc (a ++ w) c d ∙ append_assoc a w (c ++ d))
    ∙ drop_at a (w ++ (c ++ d)) 24 (length-take-le 24 block (omega arith))

pub front_told : (block : List ℕ) (l : PairList) → length block ≡ 192 → take 8 (drop 24 (with_list block l)) ≡ list_words l
front_told block l len =
    ap (take 8) (behind_24 block l len)
    ∙ take_at (list_words l) (take 80 (drop 32 block) ++ id_field 80 (take 19 l.ids)) 8 (two_words l)

-- ---- what stays

pub front_kept : (block : List ℕ) (l : PairList) → length block ≡ 192 → take 24 (with_list block l) ≡ take 24 block
unfolding with_list
front_kept block l len =
    let a = take 24 block in
    let w = list_words l in
    let c = take 80 (drop 32 block) in
    let d = id_field 80 (take 19 l.ids) in
    ap (take 24) (append_assoc (a ++ w) c d ∙ append_assoc a w (c ++ d))
    ∙ take_at a (w ++ (c ++ d)) 24 (length-take-le 24 block (omega arith))

pub middle_kept : (block : List ℕ) (l : PairList) → length block ≡ 192 → take 80 (drop 32 (with_list block l)) ≡ take 80 (drop 32 block)
unfolding with_list
middle_kept block l len =
    let f = take 24 block ++ list_words l in
    let c = take 80 (drop 32 block) in
    let d = id_field 80 (take 19 l.ids) in
    ap (λ (x : List ℕ). take 80 (drop 32 x)) (append_assoc f c d) ∙ ap (take 80) (drop_at f (c ++ d) 32 (length-front block l len))
    ∙ take_at c d 80 (length-take-le 80 (drop 32 block) (omega (arith, length-drop 32 block)))

-- a part of the front of a list
part_of_front : (xs : List ℕ) (n at m : ℕ) → at + m ≤ n → take m (drop at xs) ≡ take m (drop at (take n xs))
part_of_front xs n at m within = same_lists _ _ (search (rules, places)) (λ k d h. grind (arith, places))

pub same_part : (xs ys : List ℕ) (n at m : ℕ) → take n xs ≡ take n ys → at + m ≤ n → take m (drop at xs) ≡ take m (drop at ys)
same_part xs ys n at m same within =
    part_of_front xs n at m within ∙ ap (λ (x : List ℕ). take m (drop at x)) same ∙ sym (part_of_front ys n at m within)

word_kept : (block : List ℕ) (l : PairList) (at : ℕ) → length block ≡ 192 → at + 4 ≤ 24 → word_at (with_list block l) at ≡ word_at block at
word_kept block l at len within = ap (from_be_bytes w32) (same_part (with_list block l) block 24 at 4 (front_kept block l len) within)

pub kind_kept : (block : List ℕ) (l : PairList) → length block ≡ 192 → kind_of (with_list block l) ≡ kind_of block
kind_kept block l len = word_kept block l 0 len (omega arith)

-- a part of the middle
pub mid_part : (block : List ℕ) (l : PairList) (at m : ℕ) → length block ≡ 192 → at + m ≤ 80
    → take m (drop (32 + at) (with_list block l)) ≡ take m (drop (32 + at) block)
mid_part block l at m len within =
    ap (take m) (sym (drop-drop at 32 (with_list block l)))
    ∙ same_part (drop 32 (with_list block l)) (drop 32 block) 80 at m (middle_kept block l len) within
    ∙ ap (take m) (drop-drop at 32 block)

name_part : (block : List ℕ) (l : PairList) → length block ≡ 192 → take 64 (drop 32 (with_list block l)) ≡ take 64 (drop 32 block)
name_part block l len = mid_part block l 0 64 len (omega arith)

pub name_kept : (block : List ℕ) (l : PairList) → length block ≡ 192 → block_name (with_list block l) ≡ block_name block
unfolding block_name
name_kept block l len = ap (before_first (λ b. eqb b 0)) (name_part block l len)

pub entry_kept : (block : List ℕ) (l : PairList) → length block ≡ 192 → entry_in (with_list block l) ≡ entry_in block
entry_kept block l len =
    let name = name_kept block l len in
    let flags = word_kept block l 4 len (omega arith) in
    let id = ap (cast_signed w32) (word_kept block l 8 len (omega arith)) in
    let owner = ap (cast_signed w32) (word_kept block l 12 len (omega arith)) in
    let creator = ap (cast_signed w32) (word_kept block l 16 len (omega arith)) in
    let quota = ap (cast_signed w32) (word_kept block l 20 len (omega arith)) in
    rw (name, flags, id, owner, creator, quota) refl

pub spelled_kept : (block : List ℕ) (l : PairList) → length block ≡ 192 → IsSpelled block → IsSpelled (with_list block l)
spelled_kept block l len is = front_kept block l len ∙ is ∙ ap (λ (e : PrEntry). words (field_numbers e)) (sym (entry_kept block l len))

-- the last bytes of a field that is not full are zero
end_zero : (xs : List ℕ) → length xs ≤ 76 → drop 76 (xs ++ zeros (80 - length xs)) ≡ zeros 4
unfolding zeros
end_zero xs few =
    same_lists (drop 76 (xs ++ zeros (80 - length xs))) (zeros 4)
    (omega (
      arith,
      length-drop 76 (xs ++ zeros (80 - length xs)),
      length-append xs (zeros (80 - length xs)),
      length-zeros (80 - length xs),
      length-zeros 4,
    ))
    (λ k d h.
    let less : k
    < 4 = omega
    (arith, h, length-drop 76 (xs ++ zeros (80 - length xs)), length-append xs (zeros (80 - length xs)), length-zeros (80 - length xs)) in
    get_or-drop 76 (xs ++ zeros (80 - length xs)) k d
    ∙ get_or-append_right xs (zeros (80 - length xs)) (length xs) (76 + k) d refl (omega arith)
    ∙ get_or-replicate (80 - length xs) (76 + k - length xs) 0 d (omega arith)
    ∙ sym (get_or-replicate 4 k 0 d less))

pub entry_block : (block : List ℕ) (l : PairList) → length block ≡ 192 → IsEntryBlock block → IsEntryBlock (with_list block l)
entry_block block l len is = record {
  kind = kind_kept block l len ∙ is.kind;
  name = name_part block l len ∙ is.name ∙ ap (filled 64) (sym (name_kept block l len));
  chains = mid_part block l 64 16 len (omega arith) ∙ is.chains;
  behind = sym (drop-drop 76 112 (with_list block l)) ∙ ap (drop 76) (first_of block l len)
      ∙ end_zero (words (map bits (take 19 l.ids))) (omega (arith, length-id_words (take 19 l.ids), take_few 19 l.ids));
}
