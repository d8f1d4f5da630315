-- Chains of names, ids and owners where entries and their words of chains stay.
use Rattle.std.proofs.Common.{◌≡◌, ℕ, ◌+◌, ◌-◌, ◌<◌, ◌≤◌, true, List, [], ◌∷◌, refl, sym, ap, subst, ◌∙◌, arith}
use Rattle.db_blocks.specs.Blocks.{IsWhole, word_at, kind_of}
use Rattle.db_chains.specs.Chains.{HasChain}
use Rattle.db_chains.specs.Links.{block_of, is_right, next_place}
use Rattle.db_chains.specs.declared.links.Links.{Links}
use Rattle.db_chains.specs.Visits.{Visits}
use Rattle.db_chains.proofs.Words.{in_block, right, right_from, right_names}
use Rattle.prdb_layout.specs.Blocks.{block_count}
use Rattle.prdb_layout.specs.Records.{block_in, block_place, entry_in}
use Rattle.prdb_layout.specs.State.{PrEntry}
use Rattle.prdb_finds.specs.Places.{entry_links, id_place, name_place, owned_place}
use Rattle.prdb_finds.specs.Records.{AreChains, HasFree, HasIdKey, HasNameKey, IsEntryAt, IsGroupOf, IsOwned}
use Rattle.prdb_finds.proofs.Lookups.{same_block}

-- The entries and their words of chains are the same in both images, and so are the first words of the chains of names and ids.
pub record KeepsEntries (old new : List ℕ) : Type 0 where
  pub size : IsWhole 2112 new
  pub longer : block_count old ≤ block_count new
  pub head : (p : ℕ) → 64 ≤ p → p + 4 ≤ 2112 → word_at new p ≡ word_at old p
  pub back : (k : ℕ) → k < block_count new → kind_of (block_in new k) ≡ 1 → (k < block_count old) × (kind_of (block_in old k) ≡ 1)
  pub kind : (k : ℕ) → k < block_count old → kind_of (block_in old k) ≡ 1 → kind_of (block_in new k) ≡ 1
  pub entry : (k : ℕ) → k < block_count old → kind_of (block_in old k) ≡ 1 → entry_in (block_in new k) ≡ entry_in (block_in old k)
  pub words : (k offset : ℕ) → k < block_count old → kind_of (block_in old k) ≡ 1 → 96 ≤ offset → offset + 4 ≤ 112
      → word_at (block_in new k) offset ≡ word_at (block_in old k) offset

-- the same where an entry may have other fields
pub record KeepsWords (old new : List ℕ) : Type 0 where
  pub longer : block_count old ≤ block_count new
  pub kind : (k : ℕ) → k < block_count old → kind_of (block_in old k) ≡ 1 → kind_of (block_in new k) ≡ 1
  pub words : (k offset : ℕ) → k < block_count old → kind_of (block_in old k) ≡ 1 → 96 ≤ offset → offset + 4 ≤ 112
      → word_at (block_in new k) offset ≡ word_at (block_in old k) offset

pub words_kept : (old new : List ℕ) → KeepsEntries old new → KeepsWords old new
words_kept old new keeps = record { longer = keeps.longer; kind = keeps.kind; words = keeps.words }

pub keeps_none : (image : List ℕ) → IsWhole 2112 image → KeepsEntries image image
keeps_none image size = record {
  size = size;
  longer = omega arith;
  head = λ p from to. refl;
  back = λ k below kind. (below, kind);
  kind = λ k below kind. kind;
  entry = λ k below kind. refl;
  words = λ k offset below kind from to. refl;
}

pub keeps_then : (a b c : List ℕ) → KeepsEntries a b → KeepsEntries b c → KeepsEntries a c
keeps_then a b c one two = record {
  size = two.size;
  longer = omega (arith, one.longer, two.longer);
  head = λ p from to. two.head p from to ∙ one.head p from to;
  back = λ k below kind. let mid = two.back k below kind in one.back k mid.0 mid.1;
  kind = λ k below kind. two.kind k (omega (arith, below, one.longer)) (one.kind k below kind);
  entry = λ k below kind. two.entry k (omega (arith, below, one.longer)) (one.kind k below kind) ∙ one.entry k below kind;
  words = λ k offset below kind from to.
      two.words k offset (omega (arith, below, one.longer)) (one.kind k below kind) from to ∙ one.words k offset below kind from to;
}

-- ---- a word of a chain

-- the block that it names bears this mark
pub record Names (mark : ℕ) (image : List ℕ) (w : ℕ) : Type 0 where
  pub some : 0 < w
  pub below : w - 1 < block_count image
  pub kind : kind_of (block_in image (w - 1)) ≡ mark

-- words that are the numbers of blocks
abbrev pub number_links : (mark next : ℕ) → Links
number_links mark next = record { head = 2112; mark = mark; next = next; step = 1; kinds = 1 }

pub word_in : (image : List ℕ) (k offset : ℕ) → offset + 4 ≤ 192 → word_at (block_in image k) offset ≡ word_at image (block_place k + offset)
word_in image k offset fits =
    let size : offset + (192 - offset) ≡ 192 = omega arith in
    ap (λ (b : List ℕ). word_at b offset) (sym (same_block image k)) ∙ in_block 2112 image k offset (192 - offset) size (omega arith)

pub names_of : (mark next : ℕ) (image : List ℕ) (w : ℕ) → is_right (number_links mark next) image w ≡ true → Names mark image w
names_of mark next image w is =
    let n = right_names (number_links mark next) image w is in
    let k : w - 1 ≡ block_of (number_links mark next) w = omega arith in
    let place : block_place (block_of (number_links mark next) w) + 0 ≡ block_place (block_of (number_links mark next) w) = omega arith in
    record {
      some = omega (arith, n.some);
      below = omega (arith, n.some, n.block);
      kind = word_in image (w - 1) 0 (omega arith) ∙ ap (λ (j : ℕ). word_at image (block_place j + 0)) k ∙ ap (word_at image) place
          ∙ (right (number_links mark next) image w is).mark;
    }

pub right_of : (mark next : ℕ) (image : List ℕ) (w : ℕ) → Names mark image w → is_right (number_links mark next) image w ≡ true
right_of mark next image w n =
    let k : block_of (number_links mark next) w ≡ w - 1 = omega arith in
    let place : block_place (block_of (number_links mark next) w) ≡ block_place (block_of (number_links mark next) w) + 0 = omega arith in
    right_from (number_links mark next) image (block_count image) w refl (omega (arith, n.some)) (omega (arith, n.some, n.below))
    (omega arith)
    (ap (word_at image) place ∙ ap (λ (j : ℕ). word_at image (block_place j + 0)) k ∙ sym (word_in image (w - 1) 0 (omega arith)) ∙ n.kind)

pub next_is : (mark next w : ℕ) → next_place (number_links mark next) w ≡ block_place (w - 1) + next
next_is mark next w = omega arith

-- ---- a chain

pub chain_kept : (next : ℕ) (old new : List ℕ) (at : ℕ) (ws : List ℕ) → 96 ≤ next → next + 4 ≤ 112 → KeepsWords old new
    → word_at new at ≡ word_at old at → HasChain (entry_links next) old at ws → HasChain (entry_links next) new at ws
chain_kept next old new at [] from to keeps first chain = first ∙ chain
chain_kept next old new at (w ∷ ws) from to keeps first chain =
    let n = names_of 1 next old w chain.1 in
    let word : word_at new (next_place (entry_links next) w) ≡ word_at old (next_place (entry_links next) w) =
    ap (word_at new) (next_is 1 next w) ∙ sym (word_in new (w - 1) next (omega arith))
    ∙ keeps.words (w - 1) next n.below n.kind from to ∙ word_in old (w - 1) next (omega arith) ∙ ap (word_at old) (sym (next_is 1 next w)) in (
      first ∙ chain.0,
      right_of 1 next new w record {
        some = n.some;
        below = omega (arith, n.below, keeps.longer);
        kind = keeps.kind (w - 1) n.below n.kind;
      },
      chain_kept next old new (next_place (entry_links next) w) ws from to keeps word chain.2,
    )

entry_there : (old new : List ℕ) (P Q : PrEntry → Type 0) (w : ℕ) → KeepsEntries old new → ((e : PrEntry) → P e → Q e)
    → IsEntryAt old P w → IsEntryAt new Q w
entry_there old new P Q w keeps so is =
    let below : w - 1 < block_count old = omega (arith, is.some, is.within) in record {
      some = is.some;
      within = omega (arith, is.within, keeps.longer);
      kind = keeps.kind (w - 1) below is.kind;
      belongs = subst Q (sym (keeps.entry (w - 1) below is.kind)) (so (entry_in (block_in old (w - 1))) is.belongs);
    }

entry_back : (old new : List ℕ) (P Q : PrEntry → Type 0) (w : ℕ) → KeepsEntries old new → ((e : PrEntry) → Q e → P e)
    → IsEntryAt new Q w → IsEntryAt old P w
entry_back old new P Q w keeps so is =
    let was = keeps.back (w - 1) (omega (arith, is.some, is.within)) is.kind in record {
      some = is.some;
      within = omega (arith, is.some, was.0);
      kind = was.1;
      belongs = so (entry_in (block_in old (w - 1))) (subst Q (keeps.entry (w - 1) was.0 was.1) is.belongs);
    }

visits_kept : (next : ℕ) (old new : List ℕ) (at : ℕ) (P Q : PrEntry → Type 0) → 96 ≤ next → next + 4 ≤ 112 → KeepsEntries old new
    → word_at new at ≡ word_at old at → ((e : PrEntry) → P e → Q e) → ((e : PrEntry) → Q e → P e)
    → Visits (entry_links next) old at (IsEntryAt old P) → Visits (entry_links next) new at (IsEntryAt new Q)
visits_kept next old new at P Q from to keeps first there back v = record {
  words = v.words;
  chain = chain_kept next old new at v.words from to (words_kept old new keeps) first v.chain;
  only = λ w has. entry_there old new P Q w keeps there (v.only w has);
  each = λ w is. v.each w (entry_back old new P Q w keeps back is);
}

-- ---- all chains

pub chains_kept : (old new : List ℕ) → KeepsEntries old new → AreChains old → HasFree new → AreChains new
chains_kept old new keeps chains free = record {
  names = λ key low.
      visits_kept 96 old new (name_place key) (HasNameKey key) (HasNameKey key) (omega arith) (omega arith) keeps
      (keeps.head (name_place key) (omega arith) (omega arith)) (λ e is. is) (λ e is. is) (chains.names key low);
  ids = λ key low.
      visits_kept 100 old new (id_place key) (HasIdKey key) (HasIdKey key) (omega arith) (omega arith) keeps
      (keeps.head (id_place key) (omega arith) (omega arith)) (λ e is. is) (λ e is. is) (chains.ids key low);
  owned = λ k below kind.
      let was = keeps.back k below kind in
      let same : (entry_in (block_in new k)).id ≡ (entry_in (block_in old k)).id =
      ap (λ (e : PrEntry). e.id) (keeps.entry k was.0 was.1) in
      let first : word_at new (owned_place k) ≡ word_at old (owned_place k) =
      sym (word_in new k 108 (omega arith)) ∙ keeps.words k 108 was.0 was.1 (omega arith) (omega arith) ∙ word_in old k 108 (omega arith) in
      visits_kept 104 old new (owned_place k) (IsGroupOf (entry_in (block_in old k)).id) (IsGroupOf (entry_in (block_in new k)).id)
      (omega arith) (omega arith) keeps first (λ e is. (is.0, is.1 ∙ sym same)) (λ e is. (is.0, is.1 ∙ same)) (chains.owned k was.0 was.1);
  unused = λ k below kind none.
      let was = keeps.back k below kind in
      keeps.words k 104 was.0 was.1 (omega arith) (omega arith)
      ∙ chains.unused k was.0 was.1 (λ owned. none (subst IsOwned (sym (keeps.entry k was.0 was.1)) owned));
  free = free;
}
