-- What is read of a block does not rest on the words of chains in it.
use Rattle.std.proofs.Common.{◌≡◌, ℕ, ◌+◌, ◌≤◌, Bool, true, false, eqb, cond, inl, List, ◌++◌, length, take, drop, refl, sym, ap, ◌∙◌, append_assoc, arith}
use Rattle.std.specs.Int.{w32, from_be_bytes}
use Rattle.std.proofs.lemmas.List.{drop-take, length-take-le, take-append-le, take-take}
use Rattle.db_blocks.proofs.BlockPlaces.{changed_laid, laid}
use Rattle.db_chains.proofs.Bytes.{word_stays, blanked_stays, blanked_len}
use Rattle.prdb_layout.specs.Blocks.{block_name}
use Rattle.db_blocks.specs.Blocks.{word_at, kind_of, blanked}
use Rattle.db_blocks.specs.Bytes.{zeros}
use Rattle.prdb_layout.specs.Records.{entry_in}
use Rattle.prdb_finds.specs.Unchained.{unlinked}

-- ---- blanked bytes

-- what stands before them
pub blanked_front : (at len n : ℕ) (bytes : List ℕ) → n ≤ at → at + len ≤ length bytes → take n (blanked at len bytes) ≡ take n bytes
unfolding laid
blanked_front at len n bytes before within =
    let z = zeros len in
    ap (take n) (changed_laid bytes z at (omega arith)) ∙ ap (take n) (append_assoc (take at bytes) z (drop (at + length z) bytes))
    ∙ take-append-le n (take at bytes) (z ++ drop (at + length z) bytes) (omega (arith, length-take-le at bytes (omega arith)))
    ∙ take-take n at bytes before

-- ---- a block

choice_len : (b c : Bool) (x y z : List ℕ) → length x ≡ 192 → length y ≡ 192 → length z ≡ 192 → length (cond b x (cond c y z)) ≡ 192
choice_len true c x y z in_x in_y in_z = in_x
choice_len false true x y z in_x in_y in_z = in_y
choice_len false false x y z in_x in_y in_z = in_z

choice_kind : (b c : Bool) (x y z : List ℕ) (kind : ℕ) → kind_of x ≡ kind → kind_of y ≡ kind → kind_of z ≡ kind
    → kind_of (cond b x (cond c y z)) ≡ kind
choice_kind true c x y z kind in_x in_y in_z = in_x
choice_kind false true x y z kind in_x in_y in_z = in_y
choice_kind false false x y z kind in_x in_y in_z = in_z

pub unlinked_len : (block : List ℕ) → length block ≡ 192 → length (unlinked block) ≡ 192
unfolding unlinked
unlinked_len block size =
    choice_len (eqb (kind_of block) 1) (eqb (kind_of block) 0) (blanked 96 16 block) (blanked 4 4 block) block
    (blanked_len 96 16 block (omega arith) ∙ size) (blanked_len 4 4 block (omega arith) ∙ size) size

first_word : (at len : ℕ) (block : List ℕ) → 4 ≤ at → at + len ≤ length block → kind_of (blanked at len block) ≡ kind_of block
first_word at len block behind within =
    word_stays at len 0 block (blanked at len block) (blanked_stays at len block within) (omega arith) (inl (omega arith))

pub unlinked_kind : (block : List ℕ) → length block ≡ 192 → kind_of (unlinked block) ≡ kind_of block
unfolding unlinked
unlinked_kind block size =
    choice_kind (eqb (kind_of block) 1) (eqb (kind_of block) 0) (blanked 96 16 block) (blanked 4 4 block) block (kind_of block)
    (first_word 96 16 block (omega arith) (omega arith)) (first_word 4 4 block (omega arith) (omega arith)) refl

-- ---- an entry

-- a part of what is the same in both
pub part_same : (a b : List ℕ) (p n more : ℕ) → p + more ≡ 96 → n ≤ more → take 96 a ≡ take 96 b → take n (drop p a) ≡ take n (drop p b)
part_same a b p n more size less same =
    let one : (x : List ℕ) → take n (drop p x) ≡ take n (drop p (take 96 x)) =
    λ x. sym (take-take n more (drop p x) less) ∙ ap (take n) (sym (drop-take p more x))
    ∙ ap (λ (k : ℕ). take n (drop p (take k x))) size in
    one a ∙ ap (λ (x : List ℕ). take n (drop p x)) same ∙ sym (one b)

name_same : (a b : List ℕ) → take 96 a ≡ take 96 b → block_name a ≡ block_name b
unfolding block_name
name_same a b same = rw (part_same a b 32 64 64 refl (omega arith) same) refl

word_same : (a b : List ℕ) (p more : ℕ) → p + more ≡ 96 → 4 ≤ more → take 96 a ≡ take 96 b → word_at a p ≡ word_at b p
word_same a b p more size long same = ap (from_be_bytes w32) (part_same a b p 4 more size long same)

entry_same : (a b : List ℕ) → take 96 a ≡ take 96 b → entry_in a ≡ entry_in b
entry_same a b same =
    let name : block_name a ≡ block_name b = name_same a b same in
    let flags : word_at a 4 ≡ word_at b 4 = word_same a b 4 92 refl (omega arith) same in
    let id : word_at a 8 ≡ word_at b 8 = word_same a b 8 88 refl (omega arith) same in
    let owner : word_at a 12 ≡ word_at b 12 = word_same a b 12 84 refl (omega arith) same in
    let creator : word_at a 16 ≡ word_at b 16 = word_same a b 16 80 refl (omega arith) same in
    let quota : word_at a 20 ≡ word_at b 20 = word_same a b 20 76 refl (omega arith) same in
    rw (name, flags, id, owner, creator, quota) refl

pub entry_unlinked : (block : List ℕ) → kind_of block ≡ 1 → unlinked block ≡ blanked 96 16 block
unfolding unlinked
entry_unlinked block kind =
    ap (λ (n : ℕ). cond (eqb n 1) (blanked 96 16 block) (cond (eqb n 0) (blanked 4 4 block) block)) kind

pub unlinked_entry : (block : List ℕ) → length block ≡ 192 → kind_of block ≡ 1 → entry_in (unlinked block) ≡ entry_in block
unlinked_entry block size kind =
    ap entry_in (entry_unlinked block kind)
    ∙ entry_same (blanked 96 16 block) block (blanked_front 96 16 96 block (omega arith) (omega arith))

pub free_unlinked : (block : List ℕ) → kind_of block ≡ 0 → unlinked block ≡ blanked 4 4 block
unfolding unlinked
free_unlinked block kind =
    ap (λ (n : ℕ). cond (eqb n 1) (blanked 96 16 block) (cond (eqb n 0) (blanked 4 4 block) block)) kind
