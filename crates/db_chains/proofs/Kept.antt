-- Chains of blocks that are not free, where a block is taken or freed.
use Rattle.std.proofs.Common.{◌≡◌, ℕ, ◌-◌, ◌<◌, true, List, [], ◌∷◌, sym, ap, subst, ◌∙◌, arith}
use Rattle.db_blocks.specs.Blocks.{block_count, block_in, block_place, word_at}
use Rattle.db_chains.specs.declared.free_blocks.FreeBlocks.{FreeBlocks}
use Rattle.db_chains.specs.declared.links.Links.{Links}
use Rattle.db_chains.specs.Chains.{HasChain}
use Rattle.db_chains.specs.Free.{AreFree, AreNotFree, IsFreed, IsTaken, NameOthers, free_links}
use Rattle.db_chains.specs.Links.{block_of, is_right, next_place}
use Rattle.db_chains.specs.Others.{NamesSame}
use Rattle.db_chains.proofs.Framed.{named_stays}
use Rattle.db_chains.proofs.Free.{by_one}
use Rattle.db_chains.proofs.Words.{right, right_names}

-- a block that a word names is one of the image, and bears the mark
own_mark : (f : FreeBlocks) (m : Links) (image : List ℕ) (v : ℕ) → AreNotFree f m → is_right m image v ≡ true
    → m.mark ≡ word_at image (block_place f.head (block_of m v))
own_mark f m image v apart is =
    sym (right m image v is).mark ∙ ap (λ (h : ℕ). word_at image (block_place h (block_of m v))) apart.head

own_below : (f : FreeBlocks) (m : Links) (image : List ℕ) (v : ℕ) → AreNotFree f m → is_right m image v ≡ true
    → block_of m v < block_count f.head image
own_below f m image v apart is =
    let names = right_names m image v is in
    omega (arith, names.some, names.block, apart.head)

-- ---- a block is taken

-- the block was free, or there was none
was_free : (f : FreeBlocks) (block image new : List ℕ) (n : ℕ) (ws : List ℕ) → IsTaken f block image n new
    → HasChain (free_links f) image f.first ws
    → (k : ℕ) → k < block_count f.head image → k ≡ n - 1 → word_at image (block_place f.head k) ≡ f.mark
was_free f block image new n [] taken chain k below is = absurd (omega (arith, (taken.free [] chain).0, below, is))
was_free f block image new n (w ∷ ws) taken chain k below is =
    let number : n ≡ w = (taken.free (w ∷ ws) chain).0 in
    let one = by_one w in
    let place : k ≡ block_of (free_links f) w = omega (arith, number, one, is) in
    ap (λ (j : ℕ). word_at image (block_place f.head j)) place ∙ (right (free_links f) image w chain.1).mark

taken_named : (f : FreeBlocks) (m : Links) (block image new : List ℕ) (at n : ℕ) (vs : List ℕ) → AreNotFree f m
    → IsTaken f block image n new
    → ((k : ℕ) → k < block_count f.head image → k ≡ n - 1 → word_at image (block_place f.head k) ≡ f.mark)
    → HasChain m image at vs → NamesSame m image new vs
taken_named f m block image new at n [] apart taken was chain = tt
taken_named f m block image new at n (v ∷ vs) apart taken was chain =
    let k = block_of m v in
    let below : k < block_count f.head image = own_below f m image v apart chain.1 in (
      subst (λ (h : ℕ). block_in h new k ≡ block_in h image k) (sym apart.head)
          (taken.others k below (λ is. apart.mark (own_mark f m image v apart chain.1 ∙ was k below is))),
      taken_named f m block image new (next_place m v) n vs apart taken was chain.2,
    )

pub chain_taken : (f : FreeBlocks) (m : Links) (block image new : List ℕ) (at n : ℕ) (ws vs : List ℕ) → AreFree f → AreNotFree f m
    → HasChain (free_links f) image f.first ws → IsTaken f block image n new → word_at new at ≡ word_at image at
    → HasChain m image at vs → HasChain m new at vs
chain_taken f m block image new at n ws vs free apart frees taken first chain =
    named_stays m at image new vs apart.links (omega (arith, taken.size)) first
    (taken_named f m block image new at n vs apart taken (was_free f block image new n ws taken frees) chain) chain

-- ---- a block is freed

freed_named : (f : FreeBlocks) (m : Links) (image new : List ℕ) (at n : ℕ) (ws vs : List ℕ) → AreNotFree f m → IsFreed f ws n image new
    → NameOthers m n vs → HasChain m image at vs → NamesSame m image new vs
freed_named f m image new at n ws [] apart freed others chain = tt
freed_named f m image new at n ws (v ∷ vs) apart freed others chain =
    let k = block_of m v in
    let below : k < block_count f.head image = own_below f m image v apart chain.1 in (
      subst (λ (h : ℕ). block_in h new k ≡ block_in h image k) (sym apart.head)
          (freed.others k below others.0 (λ is. apart.mark (own_mark f m image v apart chain.1 ∙ is))),
      freed_named f m image new (next_place m v) n ws vs apart freed others.1 chain.2,
    )

pub chain_freed : (f : FreeBlocks) (m : Links) (image new : List ℕ) (at n : ℕ) (ws vs : List ℕ) → AreNotFree f m
    → IsFreed f ws n image new → NameOthers m n vs → word_at new at ≡ word_at image at → HasChain m image at vs → HasChain m new at vs
chain_freed f m image new at n ws vs apart freed others first chain =
    named_stays m at image new vs apart.links (omega (arith, freed.size)) first
    (freed_named f m image new at n ws vs apart freed others chain) chain
