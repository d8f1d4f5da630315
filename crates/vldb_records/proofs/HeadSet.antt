-- What other words in the head leave of an image: its blocks, and its chains.
use Rattle.std.proofs.Common.{◌≡◌, ℕ, ◌+◌, ◌-◌, ◌/◌, ◌<◌, ◌≤◌, ◌⊎◌, inl, inr, ⊎_elim, List, [], ◌∷◌, length, slice_index, refl, sym, ap, subst, ◌∙◌, arith}
use Rattle.std.proofs.lemmas.Bool.{cases_lt}
use Rattle.std.proofs.lemmas.Grind.{same_number_lists}
use Rattle.db_blocks.specs.Blocks.{block_count, block_in, word_at, blanked}
use Rattle.db_blocks.specs.Bytes.{zeros}
use Rattle.db_blocks.proofs.BlockPlaces.{changed_laid, laid, laid_out, laid_in, laid_len}
use Rattle.db_blocks.proofs.Lengths.{length-zeros}
use Rattle.db_chains.specs.declared.links.Links.{Links}
use Rattle.db_chains.specs.Chains.{HasChain}
use Rattle.db_chains.specs.Free.{free_links}
use Rattle.db_chains.specs.Links.{AreLinks, block_of, next_place}
use Rattle.db_chains.specs.Others.{NamesSame}
use Rattle.db_chains.proofs.Framed.{named_stays}
use Rattle.db_chains.proofs.Words.{right_names}
use Rattle.db_chains.specs.Visits.{Visits}
use Rattle.db_chains.proofs.Bytes.{blanked_len}
use Rattle.vldb_chains.specs.Places.{free_blocks, id_links, name_links}
use Rattle.vldb_entries.specs.Forms.{block_at, blocks_in}
use Rattle.vldb_records.specs.Records.{HasFree, IsFree, unlinked_head}

-- ---- bytes laid beside one another

-- in a range, or beside it
pub around : (at len i : ℕ) → ((at ≤ i) × (i < at + len)) ⊎ ((i < at) ⊎ (at + len ≤ i))
around at len i =
    ⊎_elim (λ (before : i < at). inr (inl before))
    (λ (from : at ≤ i). ⊎_elim (λ (below : i < at + len). inl (from, below)) (λ (behind : at + len ≤ i). inr (inr behind)) (cases_lt i
    (at + len)))
    (cases_lt i at)

abbrev pub AreBeside : (p m q n : ℕ) → Type 0
AreBeside p m q n = (p + m ≤ q) ⊎ (q + n ≤ p)

beside : (p m q n i : ℕ) → AreBeside p m q n → p ≤ i → i < p + m → (i < q) ⊎ (q + n ≤ i)
beside p m q n i apart from below = ⊎_elim (λ (a : p + m ≤ q). inl (omega arith)) (λ (b : q + n ≤ p). inr (omega arith)) apart

swap_at : (xs b c : List ℕ) (p q i : ℕ) → p + length b ≤ length xs → q + length c ≤ length xs → AreBeside p (length b) q (length c)
    → slice_index (laid (laid xs p b) q c) i ≡ slice_index (laid (laid xs q c) p b) i
swap_at xs b c p q i in_b in_c apart =
    let size_b = laid_len xs b p in_b in
    let size_c = laid_len xs c q in_c in
    ⊎_elim
    (λ (here : (p ≤ i) × (i < p + length b)).
    laid_out (laid xs p b) c q i (omega arith) (beside p (length b) q (length c) i apart here.0 here.1)
    ∙ laid_in xs b p i in_b here.0 here.1 ∙ sym (laid_in (laid xs q c) b p i (omega arith) here.0 here.1))
    (λ (out_b : (i < p) ⊎ (p + length b ≤ i)).
    ⊎_elim
    (λ (there : (q ≤ i) × (i < q + length c)).
    laid_in (laid xs p b) c q i (omega arith) there.0 there.1 ∙ sym (laid_in xs c q i in_c there.0 there.1)
    ∙ sym (laid_out (laid xs q c) b p i (omega arith) out_b))
    (λ (out_c : (i < q) ⊎ (q + length c ≤ i)).
    laid_out (laid xs p b) c q i (omega arith) out_c ∙ laid_out xs b p i in_b out_b
    ∙ sym (laid_out (laid xs q c) b p i (omega arith) out_b ∙ laid_out xs c q i in_c out_c))
    (around q (length c) i))
    (around p (length b) i)

-- bytes that are laid beside one another, in either order
swap : (xs b c : List ℕ) (p q : ℕ) → p + length b ≤ length xs → q + length c ≤ length xs → AreBeside p (length b) q (length c)
    → laid (laid xs p b) q c ≡ laid (laid xs q c) p b
swap xs b c p q in_b in_c apart =
    let size_b = laid_len xs b p in_b in
    let size_c = laid_len xs c q in_c in
    same_number_lists (laid (laid xs p b) q c) (laid (laid xs q c) p b)
    (laid_len (laid xs p b) c q (omega arith) ∙ size_b ∙ sym (laid_len (laid xs q c) b p (omega arith) ∙ size_c))
    (λ i below. swap_at xs b c p q i in_b in_c apart)

pub blanked_laid : (at len : ℕ) (xs : List ℕ) → at + len ≤ length xs → blanked at len xs ≡ laid xs at (zeros len)
blanked_laid at len xs within = changed_laid xs (zeros len) at (omega arith)

pub blanked_swap : (xs b : List ℕ) (p at len : ℕ) → p + length b ≤ length xs → at + len ≤ length xs → AreBeside p (length b) at len
    → blanked at len (laid xs p b) ≡ laid (blanked at len xs) p b
blanked_swap xs b p at len in_b in_z apart =
    let z : length (zeros len) ≡ len = length-zeros len in
    let size = laid_len xs b p in_b in
    blanked_laid at len (laid xs p b) (omega arith)
    ∙ swap xs b (zeros len) p at in_b (omega (arith, z)) (subst (AreBeside p (length b) at) (sym z) apart)
    ∙ ap (λ (h : List ℕ). laid h p b) (sym (blanked_laid at len xs in_z))

-- bytes of the head that stand in no chain
pub unlinked_laid : (xs b : List ℕ) (p : ℕ) → length xs ≡ 3132 → (p + length b ≤ 16) ⊎ (20 ≤ p) → p + length b ≤ 1084
    → unlinked_head (laid xs p b) ≡ laid (unlinked_head xs) p b
unfolding unlinked_head
unlinked_laid xs b p size beside within =
    let first : AreBeside p (length b) 16 4 = ⊎_elim (λ (a : p + length b ≤ 16). inl a) (λ (b : 20 ≤ p). inr b) beside in
    let len : length (blanked 16 4 xs) ≡ 3132 = blanked_len 16 4 xs (omega arith) ∙ size in
    ap (blanked 1084 2048) (blanked_swap xs b p 16 4 (omega arith) (omega arith) first)
    ∙ blanked_swap (blanked 16 4 xs) b p 1084 2048 (omega arith) (omega arith) (inl within)

-- ---- chains of an image with the same blocks

named_same : (l : Links) (old new : List ℕ) (at : ℕ) (ws : List ℕ) → l.head ≡ 3132
    → ((k : ℕ) → k < blocks_in old → block_at new k ≡ block_at old k) → HasChain l old at ws → NamesSame l old new ws
named_same l old new at [] head same chain = tt
named_same l old new at (w ∷ ws) head same chain =
    let n = right_names l old w chain.1 in
    let count : block_count l.head old ≡ blocks_in old = ap (λ (h : ℕ). block_count h old) head in (
      subst (λ (h : ℕ). block_in h new (block_of l w) ≡ block_in h old (block_of l w)) (sym head)
          (same (block_of l w) (omega (arith, n.some, n.block, count))),
      named_same l old new (next_place l w) ws head same chain.2,
    )

pub chain_same : (l : Links) (old new : List ℕ) (at : ℕ) (ws : List ℕ) → AreLinks l → l.head ≡ 3132 → length new ≡ length old
    → word_at new at ≡ word_at old at → ((k : ℕ) → k < blocks_in old → block_at new k ≡ block_at old k) → HasChain l old at ws
    → HasChain l new at ws
chain_same l old new at ws links head size first same chain =
    named_stays l at old new ws links (omega (arith, size)) first (named_same l old new at ws head same chain) chain

pub visits_same : (l : Links) (old new : List ℕ) (at : ℕ) (P Q : ℕ → Type 0) → AreLinks l → l.head ≡ 3132 → length new ≡ length old
    → word_at new at ≡ word_at old at → ((k : ℕ) → k < blocks_in old → block_at new k ≡ block_at old k)
    → ((w : ℕ) → P w → Q w) → ((w : ℕ) → Q w → P w) → Visits l old at P → Visits l new at Q
visits_same l old new at P Q links head size first same there back v = record {
  words = v.words;
  chain = chain_same l old new at v.words links head size first same v.chain;
  only = λ w has. there w (v.only w has);
  each = λ w belongs. v.each w (back w belongs);
}

pub name_are : AreLinks name_links
name_are = record { head = omega arith; step = omega arith; mark = omega arith; within = omega arith }

pub ids_are : AreLinks id_links
ids_are = record { head = omega arith; step = omega arith; mark = omega arith; within = omega arith }

pub free_are : AreLinks (free_links free_blocks)
free_are = record { head = omega arith; step = omega arith; mark = omega arith; within = omega arith }

pub free_same : (old new : List ℕ) → length new ≡ length old → word_at new 16 ≡ word_at old 16
    → ((k : ℕ) → k < blocks_in old → block_at new k ≡ block_at old k) → HasFree old → HasFree new
free_same old new size first same free =
    let count : blocks_in new ≡ blocks_in old = ap (λ (n : ℕ). (n - 3132) / 192) size in record {
      words = free.words;
      chain = chain_same (free_links free_blocks) old new 16 free.words free_are refl size first same free.chain;
      ascending = free.ascending;
      each = λ k below is. let less : k < blocks_in old = omega (arith, below, count) in free.each k less (subst IsFree (same k less) is);
    }
