-- The list that an image tells of an entry, and how many blocks it has.
use Rattle.std.proofs.Common.{◌≡◌, ◌≢◌, ℕ, ℤ, zero, suc, ◌-◌, ◌<◌, min, List, [], ◌∷◌, ◌++◌, length, take, drop, map, refl, sym, ap, subst, ◌∙◌, arith}
use Rattle.std.specs.Prelude.{FitsSigned}
use Rattle.std.specs.Int.{w32, div_ceil}
use Rattle.std.specs.List.{All, Contains}
use Rattle.std.proofs.lemmas.List.{take-append-drop, length-drop, length-take}
use Rattle.std.proofs.lemmas.List.Elements.{All-take, All-drop}
use Rattle.prdb_layout.specs.Blocks.{block_count}
use Rattle.db_blocks.specs.Blocks.{word_at}
use Rattle.db_blocks.specs.Bytes.{words, zeros}
use Rattle.prdb_layout.specs.Bytes.{bits}
use Rattle.prdb_layout.specs.Records.{block_in}
use Rattle.prdb_lists.specs.Blocks.{ids_in}
use Rattle.prdb_lists.specs.Changes.{blocks_for, chain_in, ids_behind, list_in}
use Rattle.prdb_lists.specs.Layout.{IsChain, IsListed, PairList, link_to}
use Rattle.prdb_lists.proofs.BlockIds.{count_of, ids_of_more, ids_read, link_of, next_of_more}
use Rattle.prdb_lists.proofs.ListRead.{first_ids, none_left}
use Rattle.prdb_lists.proofs.Side.{IsFull}

some_left : (ids : List ℤ) → ids ≢ [] → 0 < length ids
some_left [] some = absurd (some refl)
some_left (x ∷ ids) some = omega arith

less_one : (l d m : ℕ) → 0 < l → d ≡ l - 44 → m ≡ div_ceil d 44 → suc m ≡ div_ceil l 44
less_one l d m some less is = omega arith

pub chain-length : (image : List ℕ) (entry : ℤ) (more : List ℕ) (ids : List ℤ) → IsChain image entry more ids
    → length more ≡ div_ceil (length ids) 44
chain-length image entry [] ids chain = sym (ap (λ (l : List ℤ). div_ceil (length l) 44) chain)
chain-length image entry (k ∷ more) ids chain =
    less_one (length ids) (length (drop 44 ids)) (length more) (some_left ids chain.1) (length-drop 44 ids)
    (chain-length image entry more (drop 44 ids) chain.3)

none_needed : (l : ℕ) → 0 ≡ div_ceil l 44 → l ≡ 0
none_needed l is = omega arith

one_needed : (l m : ℕ) → suc m ≡ div_ceil l 44 → 0 < l
one_needed l m is = omega arith

rest_needed : (l d m : ℕ) → d ≡ l - 44 → suc m ≡ div_ceil l 44 → m ≡ div_ceil d 44
rest_needed l d m less is = omega arith

pub full_by-length : (more : List ℕ) (ids : List ℤ) → length more ≡ div_ceil (length ids) 44 → IsFull more ids
full_by-length [] ids is = none_left ids (none_needed (length ids) is)
full_by-length (k ∷ more) ids is =
    let some = one_needed (length ids) (length more) is in (
      λ none. omega (arith, ap length none),
      full_by-length more (drop 44 ids) (rest_needed (length ids) (length (drop 44 ids)) (length more) (length-drop 44 ids) is),
    )

-- a list in whose blocks nothing changes
pub chain_over : (old new : List ℕ) (entry : ℤ) (more : List ℕ) (ids : List ℤ)
    → ((j : ℕ) → Contains more j → j < block_count old → (j < block_count new) × (block_in new j ≡ block_in old j))
    → IsChain old entry more ids → IsChain new entry more ids
chain_over old new entry [] ids same chain = chain
chain_over old new entry (k ∷ more) ids same chain =
    let s = same k (0, omega arith, refl) chain.0 in (
      s.0,
      chain.1,
      s.1 ∙ chain.2,
      chain_over old new entry more (drop 44 ids) (λ j has. same j (suc has.0, omega (arith, has.1), has.2)) chain.3,
    )

pub chain-within : (image : List ℕ) (entry : ℤ) (more : List ℕ) (ids : List ℤ) → IsChain image entry more ids → (j : ℕ) → Contains more j
    → j < block_count image
chain-within image entry [] ids chain j has = absurd (omega (arith, has.1))
chain-within image entry (k ∷ more) ids chain j (zero, below, same) = subst (λ (i : ℕ). i < block_count image) same chain.0
chain-within image entry (k ∷ more) ids chain j (suc i, below, same) =
    chain-within image entry more (drop 44 ids) chain.3 j (i, omega arith, same)

-- ---- what is read

chain_told : (image : List ℕ) (entry : ℤ) (more : List ℕ) (ids : List ℤ) → IsChain image entry more ids
    → chain_in image (length more) (link_to more) ≡ more
unfolding chain_in
chain_told image entry [] ids chain = refl
chain_told image entry (k ∷ more) ids chain =
    ap (λ (j : ℕ). j ∷ chain_in image (length more) (word_at (block_in image j) 8)) (omega arith)
    ∙ ap (λ (w : ℕ). k ∷ chain_in image (length more) w)
    (ap (λ (b : List ℕ). word_at b 8) chain.2 ∙ next_of_more entry (link_to more) (take 44 ids))
    ∙ ap (λ (l : List ℕ). k ∷ l) (chain_told image entry more (drop 44 ids) chain.3)

ids_told : (image : List ℕ) (entry : ℤ) (more : List ℕ) (ids : List ℤ) → IsChain image entry more ids → All (λ id. FitsSigned w32 id) ids
    → ids_behind image more (length ids) ≡ ids
unfolding ids_behind
ids_told image entry [] ids chain fits = sym chain
ids_told image entry (k ∷ more) ids chain fits =
    let here : ids_in (block_in image k) 12 (min (length ids) 44) ≡ take 44 ids =
    ids_read (take 44 ids) (zeros (180 - length (words (map bits (take 44 ids))))) (block_in image k) 12 (min (length ids) 44)
    (All-take (λ id. FitsSigned w32 id) 44 ids fits)
    (ap (drop 12) chain.2 ∙ ids_of_more entry (link_to more) (take 44 ids)) (omega (arith, length-take 44 ids)) in
    ap (λ (l : List ℤ). l ++ ids_behind image more (length ids - 44)) here
    ∙ ap (λ (n : ℕ). take 44 ids ++ ids_behind image more n) (sym (length-drop 44 ids))
    ∙ ap (λ (l : List ℤ). take 44 ids ++ l)
    (ids_told image entry more (drop 44 ids) chain.3 (All-drop (λ id. FitsSigned w32 id) 44 ids fits))
    ∙ take-append-drop 44 ids

same_list : (a b : List ℤ) (m n : List ℕ) → a ≡ b → m ≡ n → ◌≡◌ {A = PairList} (record { ids = a; more = m }) (record { ids = b; more = n })
same_list a b m n p q = rw (p, q) refl

pub list_told : (image : List ℕ) (entry : ℤ) (block : List ℕ) (l : PairList) → IsListed image entry block l → list_in image block ≡ l
unfolding list_in
list_told image entry block l is =
    let count : word_at block 24 ≡ length l.ids = count_of block l is.front is.few in
    let link : word_at block 28 ≡ link_to l.more = link_of block l is.front in
    let rest : length (drop 19 l.ids) ≡ length l.ids - 19 = length-drop 19 l.ids in
    let blocks : blocks_for (word_at block 24) ≡ length l.more =
    ap blocks_for count ∙ ap (λ (n : ℕ). div_ceil n 44) (sym rest) ∙ sym (chain-length image entry l.more (drop 19 l.ids) is.chain) in
    let more : chain_in image (blocks_for (word_at block 24)) (word_at block 28) ≡ l.more =
    ap (λ (n : ℕ). chain_in image n (word_at block 28)) blocks ∙ ap (chain_in image (length l.more)) link
    ∙ chain_told image entry l.more (drop 19 l.ids) is.chain in
    let first : ids_in block 112 (min (word_at block 24) 19)
    ≡ take 19 l.ids = first_ids image block entry l (min (word_at block 24) 19) is refl in
    let behind : ids_behind image (chain_in image (blocks_for (word_at block 24)) (word_at block 28)) (word_at block 24 - 19)
    ≡ drop 19 l.ids =
    ap (λ (m : List ℕ). ids_behind image m (word_at block 24 - 19)) more ∙ ap (λ (n : ℕ). ids_behind image l.more (n - 19)) count
    ∙ ap (ids_behind image l.more) (sym rest)
    ∙ ids_told image entry l.more (drop 19 l.ids) is.chain (All-drop (λ id. FitsSigned w32 id) 19 l.ids is.fits) in
    same_list
    (ids_in block 112 (min (word_at block 24) 19) ++ ids_behind image (chain_in image (blocks_for (word_at block 24)) (word_at block 28))
    (word_at block 24 - 19)) l.ids
    (chain_in image (blocks_for (word_at block 24)) (word_at block 28)) l.more
    (ap (λ (x : List ℤ). x ++ ids_behind image (chain_in image (blocks_for (word_at block 24)) (word_at block 28)) (word_at block 24 - 19))
    first
    ∙ ap (λ (x : List ℤ). take 19 l.ids ++ x) behind ∙ take-append-drop 19 l.ids) more
