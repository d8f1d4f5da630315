-- A block that is taken: the first of the free ones, which is the lowest, or one more; and the image without the words of chains.
use Rattle.std.proofs.Common.{◌≡◌, ◌≢◌, ℕ, ◌+◌, ◌-◌, ◌*◌, ◌/◌, ◌<◌, ◌≤◌, ◌⊎◌, inl, inr, ⊎_elim, Bool, false, cond, List, [], ◌∷◌, length, drop, refl, sym, ap, subst, ◌∙◌, arith}
use Rattle.std.specs.List.{Contains}
use Rattle.std.proofs.lemmas.Bool.{cases_eq, eq-eqb, ne_eqb}
use Rattle.db_blocks.specs.Blocks.{IsWhole, with_block as any_with, word_at, kind_of}
use Rattle.db_blocks.specs.Bytes.{number_word}
use Rattle.db_blocks.proofs.FirstBlocks.{first_at, first_none}
use Rattle.db_chains.specs.Chains.{HasChain}
use Rattle.db_chains.specs.Changes.{put_word, taken_out}
use Rattle.db_chains.specs.Free.{AreFree, AreNotFree, IsAscending, IsTaken, free_links, next_number, with_new, with_taken}
use Rattle.db_chains.specs.Links.{mark_place, next_place}
use Rattle.db_chains.proofs.Bytes.{StaysBut, word_len, word_put}
use Rattle.db_chains.proofs.Changed.{chain_taken_out}
use Rattle.db_chains.proofs.Framed.{block_mark, block_stays}
use Rattle.db_chains.proofs.Free.{IsOut, is_out, taken_first, taken_new}
use Rattle.db_chains.proofs.Words.{right, right_names, right_some}
use Rattle.prdb_layout.specs.Blocks.{block_count}
use Rattle.prdb_layout.specs.Records.{block_in, is_free, next_block, with_block, with_count}
use Rattle.prdb_finds.specs.Places.{entry_links, free_blocks}
use Rattle.prdb_finds.specs.Records.{HasFree}
use Rattle.prdb_finds.specs.Unchained.{unchained, unlinked}
use Rattle.prdb_finds.proofs.Beside.{free_beside, head_beside, put_whole}
use Rattle.prdb_finds.proofs.Laid.{block_added, block_laid, head_laid}
use Rattle.prdb_finds.proofs.Lists.{each_of, first_or_rest}
use Rattle.prdb_finds.proofs.Without.{unchained_count, unchained_kind}
use Rattle.db_blocks.proofs.BlockPlaces.{add_block}

-- The block of a number was taken, which is the lowest free one, or one more at the end. Without the words of chains the image has these
-- bytes there, without theirs.
pub record IsMade (old block : List ℕ) (n : ℕ) (base : List ℕ) : Type 0 where
  pub taken : IsTaken free_blocks block old n base
  pub free : (k : ℕ) → k < block_count old → k ≡ n - 1 → kind_of (block_in old k) ≡ 0
  pub most : n ≤ block_count old + 1
  pub least : next_block (unchained old) ≡ n - 1
  pub form : ((n ≤ block_count old) × (unchained base ≡ with_block (n - 1) (unlinked block) (unchained old)))
      ⊎ ((n ≡ block_count old + 1)
      × (unchained base ≡ with_count (block_count old + 1) (with_block (block_count old) (unlinked block) (unchained old))))

pub free_all : AreFree free_blocks
free_all = record {
  links = record { head = omega arith; step = omega arith; mark = omega arith; within = omega arith };
  first = omega arith;
  count = omega arith;
  apart = inr (omega arith);
  mark = omega arith;
}

pub not_free : (next : ℕ) → 4 ≤ next → next + 4 ≤ 192 → AreNotFree free_blocks (entry_links next)
not_free next from fits = record {
  links = record { head = omega arith; step = omega arith; mark = omega arith; within = omega arith };
  head = refl;
  mark = λ same. absurd (omega (arith, same));
}

-- ---- the lowest free block

-- a block whose number is not among the free ones
busy : (old : List ℕ) (k : ℕ) → IsWhole 2112 old → (f : HasFree old) → k < block_count old → (Contains f.words (k + 1) → ⊥)
    → is_free (block_in (unchained old) k) ≡ false
busy old k whole f below never =
    ne_eqb (kind_of (block_in (unchained old) k)) 0
    (λ free. never (f.each k below (sym (unchained_kind old k whole below) ∙ free)))

none_free : (old : List ℕ) → IsWhole 2112 old → (f : HasFree old) → f.words ≡ [] → next_block (unchained old) ≡ block_count old
none_free old whole f none =
    let count = unchained_count old whole in
    let from : 0 + block_count (unchained old) ≡ block_count old = omega (arith, count) in
    first_none (λ k. is_free (block_in (unchained old) k)) 0 (block_count (unchained old))
    (λ j from below.
    busy old j whole f (omega (arith, below, count))
    (λ has. let has_none = subst (λ (ws : List ℕ). Contains ws (j + 1)) none has in absurd (omega (arith, has_none.1))))
    ∙ from

first_lowest : (old : List ℕ) (w : ℕ) (ws : List ℕ) → IsWhole 2112 old → (f : HasFree old) → f.words ≡ w ∷ ws → 0 < w → w ≤ block_count old
    → kind_of (block_in old (w - 1)) ≡ 0 → next_block (unchained old) ≡ w - 1
first_lowest old w ws whole f is some within kind =
    let count = unchained_count old whole in
    let up : IsAscending (w ∷ ws) = subst IsAscending is f.ascending in
    first_at (λ k. is_free (block_in (unchained old) k)) 0 (block_count (unchained old)) (w - 1) (omega arith) (omega
    (arith, count, some, within))
    (λ j from below.
    busy old j whole f (omega (arith, below, within))
    (λ has.
    ⊎_elim (λ (rest : Contains ws (j + 1)). absurd (omega (arith, each_of (λ v. w < v) ws (j + 1) up.0 rest, below)))
    (λ (same : j + 1 ≡ w). absurd (omega (arith, same, below)))
    (first_or_rest w (j + 1) ws (subst (λ (vs : List ℕ). Contains vs (j + 1)) is has))))
    (eq-eqb (kind_of (block_in (unchained old) (w - 1))) 0
    (unchained_kind old (w - 1) whole (omega (arith, some, within)) ∙ kind))

-- the block of a word of their chain is free
pub free_word : (old : List ℕ) (at v : ℕ) (back : List ℕ) → HasChain (free_links free_blocks) old at (v ∷ back)
    → (0 < v) × (v ≤ block_count old) × (kind_of (block_in old (v - 1)) ≡ 0)
free_word old at v back chain =
    let l = free_links free_blocks in
    let one : v / 1 ≡ v = omega arith in
    let names = right_names l old v chain.1 in
    let place : mark_place l v ≡ 2112 + 192 * (v - 1) = omega (arith, one) in (
      omega (arith, names.some),
      omega (arith, names.block),
      block_mark 2112 (v - 1) old ∙ ap (word_at old) (sym place)
          ∙ (right l old v chain.1).mark,
    )

-- ---- one more block

no_words : (old : List ℕ) (ws : List ℕ) → word_at old 20 ≡ 0 → HasChain (free_links free_blocks) old 20 ws → ws ≡ []
no_words old [] none chain = refl
no_words old (w ∷ ws) none chain =
    absurd (right_some (free_links free_blocks) old w (omega arith) chain.1 (sym chain.0 ∙ none))

new_form : (old block : List ℕ) → IsWhole 2112 old → length block ≡ 192
    → unchained (with_new free_blocks (block_count old) block old)
    ≡ with_count (block_count old + 1) (with_block (block_count old) (unlinked block) (unchained old))
unfolding with_new put_word
new_form old block whole len =
    let n = block_count old in
    let mid = with_block n block old in
    let put = add_block 2112 old block n whole len in
    let whole_mid : IsWhole 2112 mid = omega (arith, put.size) in
    head_laid mid (number_word (n + 1)) 16 whole_mid (omega arith)
    ∙ ap (with_count (n + 1)) (block_added old block whole len)

made_new : (old block : List ℕ) → IsWhole 2112 old → length block ≡ 192 → HasFree old → word_at old 20 ≡ 0
    → IsMade old block (block_count old + 1) (with_new free_blocks (block_count old) block old)
made_new old block whole len f none =
    let n = block_count old in
    let back : n + 1 - 1 ≡ n = omega arith in record {
      taken = taken_new free_blocks block old n free_all whole len none;
      free = λ k below same. absurd (omega (arith, below, same));
      most = omega arith;
      least = none_free old whole f (no_words old f.words none f.chain) ∙ sym back;
      form = inr (refl, new_form old block whole len);
    }

-- ---- the first free block

chains_out : (old : List ℕ) (w : ℕ) → word_at old 20 ≡ w → 0 < w → 2112 ≤ length old → (ws : List ℕ)
    → HasChain (free_links free_blocks) old 20 ws
    → HasChain (free_links free_blocks) (taken_out (free_links free_blocks) 20 old) 20 (drop 1 ws)
chains_out old w is some long [] chain = absurd (omega (arith, chain, is, some))
chains_out old w is some long (v ∷ back) chain =
    chain_taken_out (free_links free_blocks) old 20 v [] back free_all.links (inl (omega arith)) (omega arith) chain

out_form : (old : List ℕ) (w : ℕ) → IsWhole 2112 old → word_at old 20 ≡ w → 0 < w → w ≤ block_count old
    → kind_of (block_in old (w - 1)) ≡ 0 → unchained (taken_out (free_links free_blocks) 20 old) ≡ unchained old
unfolding taken_out
out_form old w whole is some within kind =
    let l = free_links free_blocks in
    let one : w / 1 ≡ w = omega arith in
    let q : next_place l w ≡ 2112 + 192 * (w - 1) + 4 = omega (arith, one) in
    let n = word_at old (next_place l w) in
    let mid = put_word 20 n old in
    let stays : StaysBut 20 4 old mid = word_put old 20 n (omega (arith, whole)) in
    let whole_mid = put_whole old 20 n whole (omega (arith, whole)) in
    let size = word_len old 20 n (omega (arith, whole)) in
    let same : block_in mid (w - 1) ≡ block_in old (w - 1) =
    block_stays 2112 20 4 (w - 1) old mid stays (omega (arith, whole, within, some)) (inr (omega arith)) in
    subst (λ (v : ℕ). unchained (put_word (next_place l v) 0 (put_word 20 (word_at old (next_place l v)) old)) ≡ unchained old) (sym is)
    (ap (λ (p : ℕ). unchained (put_word p 0 mid)) q
    ∙ free_beside mid (w - 1) 0 whole_mid (omega (arith, size, some, within)) (ap kind_of same ∙ kind)
    ∙ head_beside old 20 n whole (inl refl))

first_is : (old : List ℕ) (w : ℕ) (ws : List ℕ) → word_at old 20 ≡ w → 0 < w → HasChain (free_links free_blocks) old 20 ws
    → (back : List ℕ) × (ws ≡ w ∷ back) × HasChain (free_links free_blocks) old 20 (w ∷ back)
first_is old w [] is some chain = absurd (omega (arith, chain, is, some))
first_is old w (v ∷ back) is some chain =
    let same : v ≡ w = sym chain.0 ∙ is in
    (back, ap (λ (x : ℕ). x ∷ back) same, subst (λ (x : ℕ). HasChain (free_links free_blocks) old 20 (x ∷ back)) same chain)

made_first : (old block : List ℕ) (w : ℕ) → IsWhole 2112 old → length block ≡ 192 → HasFree old → word_at old 20 ≡ w → 0 < w
    → IsMade old block w (any_with 2112 (w - 1) block (taken_out (free_links free_blocks) 20 old))
made_first old block w whole len f is some =
    let l = free_links free_blocks in
    let count = block_count old in
    let mid = taken_out l 20 old in
    let chain = first_is old w f.words is some f.chain in
    let free = free_word old 20 w chain.0 chain.2 in
    let out : IsOut free_blocks old mid w = is_out free_blocks old count w free_all whole is some free.1 in
    let whole_mid : IsWhole 2112 mid = omega (arith, out.size, whole) in
    let below : w - 1 < block_count mid = omega (arith, out.size, some, free.1) in
    record {
      taken = taken_first free_blocks block old mid count w free_all whole len is some free.1 out
          (chains_out old w is some (omega (arith, whole)));
      free = λ k less same. ap (λ (j : ℕ). kind_of (block_in old j)) same ∙ free.2;
      most = omega (arith, free.1);
      least = first_lowest old w chain.0 whole f chain.1 some free.1 free.2;
      form = inl (
        free.1,
        block_laid mid block (w - 1) whole_mid len below
            ∙ ap (with_block (w - 1) (unlinked block)) (out_form old w whole is some free.1 free.2),
      );
    }

-- ---- what `take_block` makes

pub is_made : (old block : List ℕ) → IsWhole 2112 old → length block ≡ 192 → HasFree old
    → IsMade old block (next_number free_blocks old) (with_taken free_blocks block old)
unfolding with_taken
is_made old block whole len f =
    let w = word_at old 20 in
    let made = with_new free_blocks (block_count old) block old in
    let used = any_with 2112 (w - 1) block (taken_out (free_links free_blocks) 20 old) in
    let At : Bool → Type 0 = λ b. IsMade old block (cond b (block_count old + 1) w) (cond b made used) in
    ⊎_elim
    (λ (none : w ≡ 0). subst At (sym (eq-eqb w 0 none)) (made_new old block whole len f none))
    (λ (some : w ≢ 0). subst At (sym (ne_eqb w 0 some)) (made_first old block w whole len f refl (omega (arith, some))))
    (cases_eq w 0)
