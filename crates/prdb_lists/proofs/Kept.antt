-- The changes of prdb_layout leave the lists of pairs: an image that holds pairs holds them after a change of one block that is no
-- continuation.
use Rattle.std.proofs.Common.{◌≡◌, ◌≢◌, ℕ, ℤ, ◌<◌, List, [], ◌∷◌, take, drop, IsSome, sym, ap, subst, ◌∙◌, ⊎_elim}
use Rattle.std.specs.List.{Contains}
use Rattle.std.proofs.lemmas.Bool.{cases_eq}
use Rattle.db_blocks.specs.Blocks.{kind_of}
use Rattle.prdb_layout.specs.Blocks.{block_count}
use Rattle.prdb_layout.specs.Records.{block_in, entry_in}
use Rattle.prdb_layout.specs.Registry.{Registry}
use Rattle.prdb_lists.specs.Layout.{AreLists, IsChain, IsDistinct, IsListed, PairList, link_to, IsSpelled}
use Rattle.prdb_lists.proofs.BlockIds.{kind_of_more}

-- the continuation blocks of an image stand in another one too
abbrev pub KeepsMore : (old new : List ℕ) → Type 0
KeepsMore old new = (j : ℕ) → j < block_count old → kind_of (block_in old j) ≡ 2 → (j < block_count new) × (block_in new j ≡ block_in old j)

pub chain_kept : (old new : List ℕ) (entry : ℤ) (more : List ℕ) (ids : List ℤ) → KeepsMore old new → IsChain old entry more ids
    → IsChain new entry more ids
chain_kept old new entry [] ids same chain = chain
chain_kept old new entry (k ∷ more) ids same chain =
    let kind : kind_of (block_in old k) ≡ 2 = ap kind_of chain.2 ∙ kind_of_more entry (link_to more) (take 44 ids) in
    let s = same k chain.0 kind in
    (s.0, chain.1, s.1 ∙ chain.2, chain_kept old new entry more (drop 44 ids) same chain.3)

pub listed_kept : (old new : List ℕ) (entry : ℤ) (block : List ℕ) (l : PairList) → KeepsMore old new → IsListed old entry block l
    → IsListed new entry block l
listed_kept old new entry block l same is = record {
  ascending = is.ascending;
  fits = is.fits;
  few = is.few;
  front = is.front;
  first = is.first;
  chain = chain_kept old new entry l.more (drop 19 l.ids) same is.chain;
}

-- one block is another one, or a new one, and neither is a continuation
pub record IsOneOther (old new : List ℕ) (k : ℕ) : Type 0 where
  pub stood : (j : ℕ) → j < block_count new → j ≢ k → (j < block_count old) × (block_in new j ≡ block_in old j)
  pub stays : (j : ℕ) → j < block_count old → j < block_count new
  pub was : k < block_count old → kind_of (block_in old k) ≢ 2
  pub is : kind_of (block_in new k) ≢ 2

keeps_more : (old new : List ℕ) (k : ℕ) → IsOneOther old new k → KeepsMore old new
keeps_more old new k one j below kind =
    ⊎_elim
    (λ (same : j ≡ k).
    absurd (one.was (subst (λ (n : ℕ). n < block_count old) same below) (ap (λ (n : ℕ). kind_of (block_in old n)) (sym same) ∙ kind)))
    (λ (other : j ≢ k). let in_new = one.stays j below in (in_new, (one.stood j in_new other).1))
    (cases_eq j k)

pub lists_kept : (old new : List ℕ) (k : ℕ) (r s : Registry) (lists made : ℤ → PairList) → AreLists old r lists → IsOneOther old new k
    → (kind_of (block_in new k) ≡ 1 → IsListed new (entry_in (block_in new k)).id (block_in new k) (made (entry_in (block_in new k)).id))
    → (kind_of (block_in new k) ≡ 1 → IsSpelled (block_in new k))
    → ((j : ℕ) → j < block_count old → j ≢ k → kind_of (block_in old j) ≡ 1
    → made (entry_in (block_in old j)).id ≡ lists (entry_in (block_in old j)).id)
    → ((id : ℤ) (j : ℕ) → IsSome (r.entry id) → Contains (lists id).more j → IsSome (s.entry id) × (made id ≡ lists id))
    → ((id : ℤ) → IsSome (s.entry id) → IsDistinct (made id).more)
    → AreLists new s made
lists_kept old new k r s lists made are one here spelled others owners once = record {
  listed = λ j below kind.
      ⊎_elim
      (λ (same : j ≡ k).
      subst (λ (n : ℕ). IsListed new (entry_in (block_in new n)).id (block_in new n) (made (entry_in (block_in new n)).id)) (sym same)
      (here (ap (λ (n : ℕ). kind_of (block_in new n)) (sym same) ∙ kind)))
      (λ (other : j ≢ k).
      let stood = one.stood j below other in
      let old_kind : kind_of (block_in old j) ≡ 1 = ap kind_of (sym stood.1) ∙ kind in
      let listed = listed_kept old new _ _ _ (keeps_more old new k one) (are.listed j stood.0 old_kind) in
      subst (λ (b : List ℕ). IsListed new (entry_in b).id b (made (entry_in b).id)) (sym stood.1)
      (subst (λ (l : PairList). IsListed new (entry_in (block_in old j)).id (block_in old j) l)
      (sym (others j stood.0 other old_kind)) listed))
      (cases_eq j k);
  used = λ j below kind.
      ⊎_elim
      (λ (same : j ≡ k). absurd (one.is (ap (λ (n : ℕ). kind_of (block_in new n)) (sym same) ∙ kind)))
      (λ (other : j ≢ k).
      let stood = one.stood j below other in
      let u = are.used j stood.0 (ap kind_of (sym stood.1) ∙ kind) in
      let o = owners u.0 j u.1 u.2 in
      (u.0, o.0, subst (λ (l : PairList). Contains l.more j) (sym o.1) u.2))
      (cases_eq j k);
  once = once;
  spelled = λ j below kind.
      ⊎_elim
      (λ (same : j ≡ k).
      subst (λ (n : ℕ). IsSpelled (block_in new n)) (sym same) (spelled (ap (λ (n : ℕ). kind_of (block_in new n)) (sym same) ∙ kind)))
      (λ (other : j ≢ k).
      let stood = one.stood j below other in subst IsSpelled (sym stood.1) (are.spelled j stood.0 (ap kind_of (sym stood.1) ∙ kind)))
      (cases_eq j k);
}
