-- The free blocks stay in their chain where a list is written.
use Rattle.std.proofs.Common.{◌≡◌, ◌≢◌, ℕ, zero, suc, ◌+◌, ◌-◌, ◌<◌, inl, inr, List, [], ◌∷◌, ◌++◌, length, drop, max, refl, sym, ap, subst, ◌∙◌, arith}
use Rattle.std.specs.Prelude.{slice_get, unwrap_or}
use Rattle.std.specs.List.{AllByRecursion, Contains}
use Rattle.std.proofs.lemmas.List.Elements.{Contains-append_cases, Contains-append_right}
use Rattle.db_blocks.specs.Blocks.{IsWhole, block_in as any_block, kind_of}
use Rattle.db_chains.specs.Chains.{HasChain}
use Rattle.db_chains.specs.Free.{IsAscending, IsTaken, free_links}
use Rattle.db_chains.specs.Links.{block_of, next_place}
use Rattle.db_chains.specs.Others.{NamesSame}
use Rattle.db_chains.proofs.Counted.{others_behind}
use Rattle.db_chains.proofs.Framed.{head_word, named_stays}
use Rattle.prdb_layout.specs.Blocks.{block_count}
use Rattle.prdb_layout.specs.Records.{block_in}
use Rattle.prdb_layout.proofs.BlockPlaces.{block_len}
use Rattle.prdb_lists.specs.Layout.{PairList}
use Rattle.prdb_lists.proofs.Gains.{one_of}
use Rattle.prdb_lists.proofs.WithList.{kind_kept}
use Rattle.prdb_finds.specs.Places.{free_blocks}
use Rattle.prdb_finds.specs.Records.{HasFree}
use Rattle.prdb_finds.proofs.Lookups.{same_block}
use Rattle.prdb_members.proofs.Kept.{names_of}
use Rattle.prdb_members.proofs.Rewritten.{IsRelisted, fate, of_list, the_entry, untouched}
use Rattle.prdb_members.proofs.Taken.{IsSpare, all_has, are_free, chain_names}

-- The free blocks stand in their chain in ascending order, but for these, of which none does.
pub record HasFreeBut (image more : List ℕ) : Type 0 where
  pub words : List ℕ
  pub chain : HasChain (free_links free_blocks) image 20 words
  pub ascending : IsAscending words
  pub each : (k : ℕ) → k < block_count image → kind_of (block_in image k) ≡ 0 → (Contains more k → ⊥) → Contains words (k + 1)
  pub apart : (w : ℕ) → Contains words w → Contains more (w - 1) → ⊥

-- ---- a list is written

number_is : (w : ℕ) → block_of (free_links free_blocks) w ≡ w - 1
number_is w = omega arith

named_same : (ws : List ℕ) (at k : ℕ) (block : List ℕ) (l : PairList) (old new : List ℕ) → HasChain (free_links free_blocks) old at ws
    → IsRelisted k block l old new → kind_of (block_in old k) ≡ 1 → ((w : ℕ) → Contains ws w → Contains l.more (w - 1) → ⊥)
    → NamesSame (free_links free_blocks) old new ws
named_same [] at k block l old new chain is kind apart = tt
named_same (w ∷ ws) at k block l old new chain is kind apart =
    let n = names_of 0 4 old w chain.1 in
    let other : w - 1 ≢ k = λ same. omega (arith, n.kind, ap (λ (i : ℕ). kind_of (block_in old i)) same, kind) in
    let same : block_in new (w - 1) ≡ block_in old (w - 1) = is.others (w - 1) n.below other (apart w (0, omega arith, refl)) in (
      ap (any_block 2112 new) (number_is w) ∙ same_block new (w - 1) ∙ same ∙ sym (same_block old (w - 1))
          ∙ ap (any_block 2112 old) (sym (number_is w)),
      named_same ws (next_place (free_links free_blocks) w) k block l old new chain.2 is kind
          (λ v has. apart v (suc has.0, omega (arith, has.1), has.2)),
    )

-- over an entry's block
pub free_written : (k : ℕ) (block : List ℕ) (l : PairList) (old new : List ℕ) → length block ≡ 192 → kind_of block ≡ 1
    → kind_of (block_in old k) ≡ 1 → IsRelisted k block l old new → HasFreeBut old l.more → HasFree new
free_written k block l old new len written kind is free =
    let count : block_count new ≡ block_count old = omega (arith, is.size) in
    record {
      words = free.words;
      chain = named_stays (free_links free_blocks) 20 old new free.words are_free.links (omega (arith, is.size))
          (head_word 2112 20 old new (omega arith) is.front)
          (named_same free.words 20 k block l old new free.chain is kind free.apart) free.chain;
      ascending = free.ascending;
      each = λ j less none. elim (fate k block l old new j is (omega (arith, less, count))) [
        | the_entry same ↦
            let one : kind_of (block_in new j) ≡ 1 =
            ap (λ (i : ℕ). kind_of (block_in new i)) same ∙ ap kind_of is.here ∙ kind_kept block l len ∙ written in
            absurd (omega (arith, one, none))
        | of_list other two has ↦ absurd (omega (arith, two, none))
        | untouched other not same ↦ free.each j (omega (arith, less, count)) (ap kind_of (sym same) ∙ none) not
      ];
    }

pub free_relisted : (k : ℕ) (l : PairList) (old new : List ℕ) → IsWhole 2112 old → k < block_count old → kind_of (block_in old k) ≡ 1
    → IsRelisted k (block_in old k) l old new → HasFreeBut old l.more → HasFree new
free_relisted k l old new size below kind is free =
    free_written k (block_in old k) l old new (block_len old k (block_count old) size below) kind kind is free

-- ---- which blocks it may have

-- none of the free ones
pub free_none : (image more : List ℕ) → HasFree image → ((j : ℕ) → Contains more j → kind_of (block_in image j) ≢ 0)
    → HasFreeBut image more
free_none image more free used = record {
  words = free.words;
  chain = free.chain;
  ascending = free.ascending;
  each = λ k below none not. free.each k below none;
  apart = λ w has there. used (w - 1) there (chain_names image 20 free.words w free.chain has).kind;
}

tail_has : (ws : List ℕ) (n k rest : ℕ) → n ≡ unwrap_or (slice_get ws 0) rest → k ≢ n - 1 → Contains ws (k + 1)
    → Contains (drop 1 ws) (k + 1)
tail_has [] n k rest is other has = absurd (omega (arith, has.1))
tail_has (w ∷ ws) n k rest is other (zero, below, at) = absurd (other (omega (arith, is, at)))
tail_has (w ∷ ws) n k rest is other (suc i, below, at) = (i, omega arith, at)

back_has : (ws : List ℕ) (v : ℕ) → Contains (drop 1 ws) v → Contains ws v
back_has [] v has = has
back_has (w ∷ ws) v has = (suc has.0, omega (arith, has.1), has.2)

tail_up : (ws : List ℕ) → IsAscending ws → IsAscending (drop 1 ws)
tail_up [] up = up
tail_up (w ∷ ws) up = up.1

others_first : (image ws : List ℕ) (n rest : ℕ) → n ≡ unwrap_or (slice_get ws 0) rest → HasChain (free_links free_blocks) image 20 ws
    → AllByRecursion (λ v. v ≢ n) (drop 1 ws)
others_first image [] n rest is chain = tt
others_first image (w ∷ ws) n rest is chain =
    subst (λ (m : ℕ). AllByRecursion (λ v. v ≢ m) ws) (sym is)
    (others_behind (free_links free_blocks) image 20 w ws are_free.links.step chain)

-- one of them, which was taken
pub free_taken : (image block new more : List ℕ) (n : ℕ) → IsWhole 2112 image → HasFree image → IsTaken free_blocks block image n new
    → IsSpare image n → ((j : ℕ) → Contains more j → kind_of (block_in image j) ≢ 0) → HasFreeBut new (more ++ (n - 1) ∷ [])
free_taken image block new more n size free taken spare used =
    let c = block_count image in
    let ws = free.words in
    let t = taken.free ws free.chain in
    let count : block_count new ≡ max c n = omega (arith, taken.size, size, spare.some) in
    record {
      words = drop 1 ws;
      chain = t.1;
      ascending = tail_up ws free.ascending;
      each = λ k below none not.
          let other : k ≢ n - 1 = λ is.
          not (subst (Contains (more ++ (n - 1) ∷ [])) (sym is)
          (Contains-append_right more ((n - 1) ∷ []) (n - 1) (0, omega arith, refl))) in
          let less : k < c = omega (arith, below, count, spare.within, other) in
          let same : block_in new k ≡ block_in image k = sym (same_block new k) ∙ taken.others k less other ∙ same_block image k in
          tail_has ws n k (c + 1) t.0 other (free.each k less (ap kind_of (sym same) ∙ none));
      apart = λ w has there.
          let was = back_has ws w has in
          let names = chain_names image 20 ws w free.chain was in
          elim (Contains-append_cases more ((n - 1) ∷ []) (w - 1) there) [
            | inl among ↦ used (w - 1) among names.kind
            | inr last ↦
                let is : w ≡ n = omega (arith, one_of (n - 1) (w - 1) last, names.some, spare.some) in
                all_has (λ v. v ≢ n) (drop 1 ws) w (others_first image ws n (c + 1) t.0 free.chain) has is
          ];
    }
