-- The chains of an image in which an entry has another id: its block goes from the chain of the one id to that of the other.
use Rattle.std.proofs.Common.{◌≡◌, ◌≢◌, ℕ, ℤ, pos, negsuc, ◌+◌, ◌-◌, ◌<◌, ◌≤◌, ◌⊎◌, inl, inr, ⊎_elim, List, [], Some, IsSome, length, refl, sym, ap, subst, ◌∙◌, arith}
use Rattle.std.specs.Prelude.{◌<ℤ◌, FitsSigned, int_lt}
use Rattle.std.specs.Int.{w32}
use Rattle.std.specs.List.{Contains}
use Rattle.std.proofs.lemmas.Bool.{cases_eq}
use Rattle.std.proofs.lemmas.Int.{ints}
use Rattle.db_blocks.specs.Blocks.{IsWhole, word_at, kind_of}
use Rattle.db_chains.specs.Chains.{HasChain}
use Rattle.db_chains.specs.Changes.{put_in, put_word, taken_out, without}
use Rattle.db_chains.specs.Ends.{HasWord}
use Rattle.db_chains.specs.Free.{IsAscending, free_links}
use Rattle.db_chains.specs.Links.{next_place}
use Rattle.db_chains.specs.declared.links.Links.{Links}
use Rattle.db_chains.specs.Others.{AreApart, AreOtherSorts}
use Rattle.db_chains.specs.Walks.{place_behind}
use Rattle.db_chains.proofs.Bytes.{word_here}
use Rattle.db_chains.proofs.Leaving.{stands}
use Rattle.db_chains.proofs.Framed.{head_word}
use Rattle.db_chains.proofs.Others.{put_sorts, taken_sorts}
use Rattle.db_chains.specs.Keys.{name_key}
use Rattle.prdb_layout.specs.Blocks.{block_count}
use Rattle.prdb_layout.specs.Records.{block_in, entry_in}
use Rattle.prdb_layout.specs.Registry.{Registry}
use Rattle.prdb_layout.specs.State.{PrEntry}
use Rattle.prdb_layout.proofs.Lengths.{fits_id}
use Rattle.prdb_lists.specs.Changes.{relisted}
use Rattle.prdb_lists.specs.Layout.{PairList}
use Rattle.prdb_lists.specs.Moves.{MayMove, after_put_id, with_id_word}
use Rattle.prdb_lists.proofs.MovedBlock.{length-with_id_word, with_id_of}
use Rattle.prdb_lists.proofs.MovedImage.{put_id_is as plain_put_id_is}
use Rattle.prdb_lists.proofs.MovedRegistry.{there_differs}
use Rattle.prdb_lists.proofs.Relist.{StandsAt}
use Rattle.prdb_layout.proofs.BlockPlaces.{block_len}
use Rattle.prdb_finds.specs.Keys.{id_chain, id_key}
use Rattle.prdb_finds.specs.Places.{free_blocks, id_links, id_place}
use Rattle.prdb_finds.specs.Records.{AreChains, HasFree, HasIdKey, HasNameKey, IsEntryAt, IsGroupOf, IsOwned}
use Rattle.prdb_finds.specs.Unchained.{unchained}
use Rattle.prdb_finds.proofs.Without.{unchained_count, unchained_kind, unchained_len}
use Rattle.prdb_entries.proofs.Entries.{Belongs, IsUnowned, chains_from, linked_from}
use Rattle.prdb_entries.proofs.Inserted.{some_id}
use Rattle.prdb_entries.proofs.Leaving.{IsOfRegistry, are_words}
use Rattle.prdb_entries.proofs.Linked.{Also, AreBeside, ById, ByName, Chain, IsChain, IsEntry, IsLinked, NotAlso, Owned, besides, entry_here, head_place, high, linked_as, linked_count, links_are, links_of, low, next_of, place_of, place_within, put_linked, right_here}
use Rattle.prdb_entries.proofs.Unlinked.{AreWords, Less, NowAlso, out_linked, word_there}
use Rattle.prdb_members.specs.Moves.{rechained}
use Rattle.prdb_members.specs.Sides.{HasLists}
use Rattle.prdb_members.proofs.Free.{free_none, free_written}
use Rattle.prdb_members.proofs.Gains.{list_blocks}
use Rattle.prdb_entries.proofs.Longer.{word_longer}
use Rattle.prdb_members.proofs.Kept.{chain_kept, word_in}
use Rattle.prdb_members.proofs.Listed.{stands_plain}
use Rattle.prdb_members.proofs.Renamed.{IsRenamed, kind_stays, put_id_is, put_id_plain, renamed}
use Rattle.prdb_members.proofs.Rewritten.{relisted_is}

-- ---- an entry with another id, without the words of chains

-- the image holds a registry, of which an entry may get the other id, and it is that of a block, which has it in the other image
pub record IsMove (u v : List ℕ) (r : Registry) (old new : ℤ) (k : ℕ) : Type 0 where
  pub of : IsOfRegistry u r
  pub may : MayMove old new r
  pub entry : IsEntry u k
  pub id : (entry_in (block_in u k)).id ≡ old
  pub is : IsRenamed k new u v

entry_now : (u v : List ℕ) (r : Registry) (old new : ℤ) (k j : ℕ) → IsMove u v r old new k → IsEntry u j → IsEntry v j
entry_now u v r old new k j m e =
    record { below = omega (arith, e.below, m.is.count); kind = m.is.keeps.kind j e.below e.kind }

entry_was : (u v : List ℕ) (r : Registry) (old new : ℤ) (k j : ℕ) → IsMove u v r old new k → IsEntry v j → IsEntry u j
entry_was u v r old new k j m e =
    let below : j < block_count u = omega (arith, e.below, m.is.count) in record { below = below; kind = m.is.back j below e.kind }

entry_stays : (u v : List ℕ) (r : Registry) (old new : ℤ) (k j : ℕ) → IsMove u v r old new k → IsEntry u j → j ≢ k
    → entry_in (block_in v j) ≡ entry_in (block_in u j)
entry_stays u v r old new k j m e other = ap entry_in (m.is.others j e.below other e.kind)

chain_was : (u v : List ℕ) (r : Registry) (old new : ℤ) (k : ℕ) (c : Chain) → IsMove u v r old new k → IsChain v c → IsChain u c
chain_was u v r old new k (ByName key) m is = is
chain_was u v r old new k (ById key) m is = is
chain_was u v r old new k (Owned j) m is = entry_was u v r old new k j m is

-- an entry by its block's number, before and afterwards
at_block : (u : List ℕ) (P : PrEntry → Type 0) (k w : ℕ) → IsEntry u k → w ≡ k + 1 → P (entry_in (block_in u k)) → IsEntryAt u P w
at_block u P k w entry is own =
    let back : k ≡ w - 1 = omega (arith, is) in record {
      some = omega (arith, is);
      within = omega (arith, is, entry.below);
      kind = ap (λ (j : ℕ). kind_of (block_in u j)) (sym back) ∙ entry.kind;
      belongs = subst (λ (j : ℕ). P (entry_in (block_in u j))) back own;
    }

at_entry : (u : List ℕ) (P : PrEntry → Type 0) (w : ℕ) → IsEntryAt u P w → IsEntry u (w - 1)
at_entry u P w at = record { below = omega (arith, at.some, at.within); kind = at.kind }

at_own : (u v : List ℕ) (r : Registry) (old new : ℤ) (k w : ℕ) (P : PrEntry → Type 0) → IsMove u v r old new k → w ≡ k + 1
    → P (with_id_of new (entry_in (block_in u k))) → IsEntryAt v P w
at_own u v r old new k w P m is own =
    at_block v P k w (entry_now u v r old new k k m m.entry) is (subst P (sym m.is.entry) own)

at_on : (u v : List ℕ) (r : Registry) (old new : ℤ) (k w : ℕ) (P : PrEntry → Type 0) → IsMove u v r old new k → IsEntryAt u P w
    → w - 1 ≢ k → IsEntryAt v P w
at_on u v r old new k w P m at other =
    let e = at_entry u P w at in record {
      some = at.some;
      within = omega (arith, at.within, m.is.count);
      kind = m.is.keeps.kind (w - 1) e.below e.kind;
      belongs = subst P (sym (entry_stays u v r old new k (w - 1) m e other)) at.belongs;
    }

at_was : (u v : List ℕ) (r : Registry) (old new : ℤ) (k w : ℕ) (P : PrEntry → Type 0) → IsMove u v r old new k → IsEntryAt v P w
    → ((w ≡ k + 1) × P (with_id_of new (entry_in (block_in u k)))) ⊎ ((w ≢ k + 1) × IsEntryAt u P w)
at_was u v r old new k w P m at =
    let e = entry_was u v r old new k (w - 1) m (at_entry v P w at) in
    ⊎_elim
    (λ (same : w - 1 ≡ k).
    let number : w ≡ k + 1 = omega (arith, at.some, same) in
    inl (number, subst P m.is.entry (subst (λ (j : ℕ). P (entry_in (block_in v j))) same at.belongs)))
    (λ (other : w - 1 ≢ k).
    let was : IsEntryAt u P w = record {
      some = at.some;
      within = omega (arith, at.within, m.is.count);
      kind = e.kind;
      belongs = subst P (entry_stays u v r old new k (w - 1) m e other) at.belongs;
    } in
    inr (λ is. other (omega (arith, is)), was))
    (cases_eq (w - 1) k)

-- ---- the words of its chains

there_at : (u : List ℕ) (r : Registry) (j : ℕ) → IsOfRegistry u r → IsEntry u j
    → r.entry (entry_in (block_in u j)).id ≡ Some (entry_in (block_in u j))
there_at u r j of e = of.laid.there j e.below e.kind

-- nothing is owned by the old id, and nothing by the new one
owned_old : (u v : List ℕ) (r : Registry) (old new : ℤ) (k w : ℕ) → IsMove u v r old new k → IsEntryAt u (IsGroupOf old) w → ⊥
owned_old u v r old new k w m at =
    let e = at_entry u (IsGroupOf old) w at in
    m.may.owns_nothing (entry_in (block_in u (w - 1))).id (entry_in (block_in u (w - 1))) (there_at u r (w - 1) m.of e) at.belongs.1

owner_new : (u v : List ℕ) (r : Registry) (old new : ℤ) (k j : ℕ) → IsMove u v r old new k → IsEntry u j
    → (entry_in (block_in u j)).owner ≡ new → ⊥
owner_new u v r old new k j m e owner =
    let x = entry_in (block_in u j) in
    ⊎_elim
    (λ (none : x.owner ≡ pos 0). some_id new m.may.good (sym owner ∙ none))
    (λ (some : IsSome (r.entry x.owner)). there_differs old new r m.may x.owner some owner)
    (m.of.valid.among x.id x (there_at u r j m.of e)).owner

down_stays : (old new : ℤ) → int_lt new (pos 0) ≡ int_lt old (pos 0) → old <ℤ pos 0 → new <ℤ pos 0
down_stays (negsuc a) (negsuc b) same down = omega (arith, ints)
down_stays (negsuc a) (pos b) same down = absurd (grind (arith, ints))
down_stays (pos a) new same down = absurd (omega (arith, ints))

own_down : (u v : List ℕ) (r : Registry) (old new : ℤ) (k : ℕ) → IsMove u v r old new k → (entry_in (block_in u k)).id <ℤ pos 0
    → new <ℤ pos 0
own_down u v r old new k m down = down_stays old new m.may.kind (subst (λ (z : ℤ). z <ℤ pos 0) m.id down)

own_up : (u v : List ℕ) (r : Registry) (old new : ℤ) (k : ℕ) → IsMove u v r old new k → new <ℤ pos 0
    → (entry_in (block_in u k)).id <ℤ pos 0
own_up u v r old new k m down = subst (λ (z : ℤ). z <ℤ pos 0) (sym m.id) (down_stays new old (sym m.may.kind) down)

-- the words of the chains when the block has gone from the one to the other
abbrev Gone : (u : List ℕ) → (old : ℤ) → (k : ℕ) → Chain → ℕ → Type 0
Gone u old k = Less (ById (id_key old)) (k + 1) (Belongs u)

abbrev Come : (u : List ℕ) → (old new : ℤ) → (k : ℕ) → Chain → ℕ → Type 0
Come u old new k = Also (ById (id_key new)) (k + 1) (Gone u old k)

other_kind : (a : ℕ) (b : ℕ) (c d : Chain) → next_of c ≡ a → next_of d ≡ b → a ≢ b → c ≡ d → ⊥
other_kind a b c d is_c is_d other same = other (sym is_c ∙ ap next_of same ∙ is_d)

key_is : (a b : ℕ) → ById a ≡ ById b → a ≡ b
key_is a b same =
    let place : place_of (ById a) ≡ place_of (ById b) = ap place_of same in omega (arith, place)

apart_word : (k w : ℕ) → 0 < w → w ≢ k + 1 → w - 1 ≢ k
apart_word k w some other same = other (omega (arith, some, same))

now_belongs : (u v : List ℕ) (r : Registry) (old new : ℤ) (k : ℕ) (c : Chain) (w : ℕ) → IsMove u v r old new k → IsChain v c
    → Come u old new k c w → Belongs v c w
now_belongs u v r old new k (ByName q) w m is (inl has) =
    let at = has.0 in
    ⊎_elim
    (λ (same : w - 1 ≡ k).
    let own : name_key (entry_in (block_in u k)).name ≡ q =
    ap (λ (j : ℕ). name_key (entry_in (block_in u j)).name) (sym same) ∙ at.belongs in
    at_own u v r old new k w (HasNameKey q) m (omega (arith, at.some, same)) own)
    (λ (other : w - 1 ≢ k). at_on u v r old new k w (HasNameKey q) m at other)
    (cases_eq (w - 1) k)
now_belongs u v r old new k (ByName q) w m is (inr came) =
    absurd (other_kind 96 100 (ByName q) (ById (id_key new)) refl refl (λ same. omega (arith, same)) came.0)
now_belongs u v r old new k (ById q) w m is (inl has) =
    at_on u v r old new k w (HasIdKey q) m has.0 (apart_word k w has.0.some (has.1 refl))
now_belongs u v r old new k (ById q) w m is (inr came) =
    at_own u v r old new k w (HasIdKey q) m came.1 (sym (key_is q (id_key new) came.0))
now_belongs u v r old new k (Owned j) w m is (inl has) =
    let at = has.0.1 in
    ⊎_elim
    (λ (self : j ≡ k).
    let id : (entry_in (block_in u j)).id ≡ old = ap (λ (i : ℕ). (entry_in (block_in u i)).id) self ∙ m.id in
    absurd (owned_old u v r old new k w m (subst (λ (z : ℤ). IsEntryAt u (IsGroupOf z) w) id at)))
    (λ (other : j ≢ k).
    let id : (entry_in (block_in v j)).id ≡ (entry_in (block_in u j)).id =
    ap (λ (e : PrEntry). e.id) (entry_stays u v r old new k j m has.0.0 other) in (
      is,
      subst (λ (z : ℤ). IsEntryAt v (IsGroupOf z) w) (sym id)
          (⊎_elim
          (λ (same : w - 1 ≡ k).
          let own : IsGroupOf (entry_in (block_in u j)).id (entry_in (block_in u k)) =
          subst (λ (i : ℕ). IsGroupOf (entry_in (block_in u j)).id (entry_in (block_in u i))) same at.belongs in
          at_own u v r old new k w (IsGroupOf (entry_in (block_in u j)).id) m (omega (arith, at.some, same))
          (own_down u v r old new k m own.0, own.1))
          (λ (apart : w - 1 ≢ k). at_on u v r old new k w (IsGroupOf (entry_in (block_in u j)).id) m at apart)
          (cases_eq (w - 1) k)),
    ))
    (cases_eq j k)
now_belongs u v r old new k (Owned j) w m is (inr came) =
    absurd (other_kind 104 100 (Owned j) (ById (id_key new)) refl refl (λ same. omega (arith, same)) came.0)

had_belongs : (u v : List ℕ) (r : Registry) (old new : ℤ) (k : ℕ) (c : Chain) (w : ℕ) → IsMove u v r old new k → IsChain v c
    → Belongs v c w → Come u old new k c w
had_belongs u v r old new k (ByName q) w m is at =
    elim (at_was u v r old new k w (HasNameKey q) m at) [
      | inl own ↦ inl (at_block u (HasNameKey q) k w m.entry own.0 own.1, λ next. absurd (omega (arith, next)))
      | inr was ↦ inl (was.1, λ next. absurd (omega (arith, next)))
    ]
had_belongs u v r old new k (ById q) w m is at =
    elim (at_was u v r old new k w (HasIdKey q) m at) [
      | inl own ↦ inr (ap ById (sym own.1), own.0)
      | inr was ↦ inl (was.1, λ next. was.0)
    ]
had_belongs u v r old new k (Owned j) w m is at =
    let e = entry_was u v r old new k j m at.0 in
    ⊎_elim
    (λ (self : j ≡ k).
    let id : (entry_in (block_in v j)).id ≡ new =
    ap (λ (i : ℕ). (entry_in (block_in v i)).id) self ∙ ap (λ (x : PrEntry). x.id) m.is.entry in
    let of_new : IsEntryAt v (IsGroupOf new) w = subst (λ (z : ℤ). IsEntryAt v (IsGroupOf z) w) id at.1 in
    elim (at_was u v r old new k w (IsGroupOf new) m of_new) [
      | inl own ↦ absurd (owner_new u v r old new k k m m.entry own.1.1)
      | inr was ↦ absurd (owner_new u v r old new k (w - 1) m (at_entry u (IsGroupOf new) w was.1) was.1.belongs.1)
    ])
    (λ (other : j ≢ k).
    let id : (entry_in (block_in v j)).id ≡ (entry_in (block_in u j)).id =
    ap (λ (x : PrEntry). x.id) (entry_stays u v r old new k j m e other) in
    let z = (entry_in (block_in u j)).id in
    let of_same : IsEntryAt v (IsGroupOf z) w = subst (λ (i : ℤ). IsEntryAt v (IsGroupOf i) w) id at.1 in
    elim (at_was u v r old new k w (IsGroupOf z) m of_same) [
      | inl own ↦
          inl (
            (e, at_block u (IsGroupOf z) k w m.entry own.0 (own_up u v r old new k m own.1.0, own.1.1)),
            λ next. absurd (omega (arith, next)),
          )
      | inr was ↦ inl ((e, was.1), λ next. absurd (omega (arith, next)))
    ])
    (cases_eq j k)

had_unowned : (u v : List ℕ) (r : Registry) (old new : ℤ) (k j : ℕ) → IsMove u v r old new k → IsUnowned v j → IsUnowned u j
had_unowned u v r old new k j m un =
    let e = entry_was u v r old new k j m un.0 in (
      e,
      λ owned.
          ⊎_elim
          (λ (self : j ≡ k).
          let own : IsOwned (entry_in (block_in u k)) = subst (λ (i : ℕ). IsOwned (entry_in (block_in u i))) self owned in
          let now : IsOwned (with_id_of new (entry_in (block_in u k))) = (own_down u v r old new k m own.0, own.1) in
          un.1 (subst (λ (i : ℕ). IsOwned (entry_in (block_in v i))) (sym self) (subst IsOwned (sym m.is.entry) now)))
          (λ (other : j ≢ k). un.1 (subst IsOwned (sym (entry_stays u v r old new k j m e other)) owned))
          (cases_eq j k),
    )

words_now : (u v : List ℕ) (r : Registry) (old new : ℤ) (k : ℕ) → IsMove u v r old new k → AreWords v (Belongs u) (IsUnowned u)
words_now u v r old new k m =
    let a = are_words u r m.of in record {
      one = λ c d w is_c is_d next x y.
          a.one c d w (chain_was u v r old new k c m is_c) (chain_was u v r old new k d m is_d) next x y;
      some = λ c w is x. a.some c w (chain_was u v r old new k c m is) x;
      never = λ c w is next x un. a.never c w (chain_was u v r old new k c m is) next x un;
    }

-- ---- the chains

-- Its block is in the chain of the old id, and afterwards in that of the new one. The chains of names and of what entries own, which the
-- image had before, have the same words in the same order.
pub record HasMoved (before image v : List ℕ) (old new : ℤ) (n : ℕ) : Type 0 where
  pub word : HasWord id_links (id_chain old) n image
  pub size : IsWhole 2112 (rechained old new n image)
  pub same : unchained (rechained old new n image) ≡ v
  pub chains : AreChains (rechained old new n image)
  pub first : word_at (rechained old new n image) (id_chain new) ≡ n
  pub order : (d : Chain) → IsChain before d → next_of d ≢ 100 → (ws : List ℕ) → HasChain (links_of d) before (place_of d) ws
      → HasChain (links_of d) (rechained old new n image) (place_of d) ws

-- a chain of another sort than that of the ids lies beside one of them
other_sort : (v : List ℕ) (key : ℕ) (d : Chain) → key < 256 → IsChain v d → next_of d ≢ 100
    → AreOtherSorts id_links (links_of d) (id_place key) (place_of d)
other_sort v key d low is other =
    ⊎_elim
    (λ (same : ById key ≡ d). absurd (other (sym (ap next_of same))))
    (λ (beside : AreBeside (ById key) d).
    ⊎_elim
    (λ (one : (next_of (ById key) ≡ next_of d) × AreApart (place_of (ById key)) (place_of d)). absurd (other (sym one.0)))
    (λ (two : AreOtherSorts (links_of (ById key)) (links_of d) (place_of (ById key)) (place_of d)). two)
    beside)
    (besides v (ById key) d low is)

out_order : (image v : List ℕ) (M : Chain → ℕ → Type 0) (U : ℕ → Type 0) (fs : List ℕ) (key n : ℕ) (d : Chain) (ws : List ℕ)
    → IsLinked image v M U fs → key < 256 → M (ById key) n → IsChain v d → next_of d ≢ 100
    → HasChain (links_of d) image (place_of d) ws → HasChain (links_of d) (without id_links (id_place key) n image) (place_of d) ws
out_order image v M U fs key n d ws l is_c has is other chain =
    let c = ById key in
    let count = linked_count image v M U fs l in
    let s = stands id_links image (id_place key) n (M c) (links_are c) (l.chains c is_c) has in
    let stays : HasChain (links_of d) (taken_out id_links (place_behind id_links (id_place key) s.front) image) (place_of d) ws =
    taken_sorts id_links (links_of d) image (id_place key) (place_of d) n s.front s.back ws (links_are c) (links_are d)
    (other_sort v key d is_c is other) (head_place v 100 c is_c (omega arith)) (place_within v image c l.whole count is_c)
    (place_within v image d l.whole count is) s.chain chain in
    subst (λ (i : List ℕ). HasChain (links_of d) i (place_of d) ws) (sym s.out) stays

-- the first word of the chain into which it comes
comes_first : (l : Links) (image : List ℕ) (at n : ℕ) → at + 4 ≤ length image → word_at (put_in l at n image) at ≡ n
unfolding put_in
comes_first l image at n within =
    let grows = word_longer image (next_place l n) (word_at image at) in
    word_here (put_word (next_place l n) (word_at image at) image) at n (omega (arith, within, grows))

put_order : (image v : List ℕ) (M : Chain → ℕ → Type 0) (U : ℕ → Type 0) (fs : List ℕ) (key n : ℕ) (d : Chain) (ws : List ℕ)
    → IsLinked image v M U fs → key < 256 → IsEntry v (n - 1) → 0 < n → IsChain v d → next_of d ≢ 100
    → HasChain (links_of d) image (place_of d) ws → HasChain (links_of d) (put_in id_links (id_place key) n image) (place_of d) ws
put_order image v M U fs key n d ws l is_c entry some is other chain =
    let c = ById key in
    let count = linked_count image v M U fs l in
    let own = l.chains c is_c in
    put_sorts id_links (links_of d) image (id_place key) (place_of d) n [] own.words ws (links_are c) (links_are d)
    (other_sort v key d is_c is other) (head_place v 100 c is_c (omega arith)) (place_within v image c l.whole count is_c)
    (place_within v image d l.whole count is) own.chain
    (right_here image c n (entry_here image v M U fs (n - 1) l entry) some) chain

in_old : (u v : List ℕ) (r : Registry) (old new : ℤ) (k : ℕ) → IsMove u v r old new k → Belongs u (ById (id_key old)) (k + 1)
in_old u v r old new k m = at_block u (HasIdKey (id_key old)) k (k + 1) m.entry refl (ap id_key m.id)

-- the chains that the image had before, where an entry has another id, and not yet its chain
abbrev AreKept : (before image v : List ℕ) → Type 0
AreKept before image v =
    (d : Chain) (ws : List ℕ) → IsChain before d → HasChain (links_of d) before (place_of d) ws
    → IsChain v d × HasChain (links_of d) image (place_of d) ws

rechains : (before image u v : List ℕ) (fs : List ℕ) (r : Registry) (old new : ℤ) (k : ℕ) → IsMove u v r old new k
    → IsLinked image v (Belongs u) (IsUnowned u) fs → IsAscending fs
    → ((j : ℕ) → j < block_count v → kind_of (block_in v j) ≡ 0 → Contains fs (j + 1)) → AreKept before image v
    → HasMoved before image v old new (k + 1)
rechains before image u v fs r old new k m l up each kept =
    let n = k + 1 in
    let c = ById (id_key old) in
    let d = ById (id_key new) in
    let has = in_old u v r old new k m in
    let back : k ≡ n - 1 = omega arith in
    let entry : IsEntry v (n - 1) = subst (IsEntry v) back (entry_now u v r old new k k m m.entry) in
    let mid = without id_links (id_chain old) n image in
    let out : IsLinked mid v (Gone u old k) (NowAlso c n (IsUnowned u)) fs =
    out_linked image v (Belongs u) (IsUnowned u) fs c n l (words_now u v r old new k m) (omega arith) has in
    let put : IsLinked (rechained old new n image) v (Come u old new k) (NotAlso d n (NowAlso c n (IsUnowned u))) fs =
    put_linked mid v (Gone u old k) (NowAlso c n (IsUnowned u)) fs d n out (omega arith) entry (omega arith)
    (λ e is next x. x.1 next refl) in
    let last : IsLinked (rechained old new n image) v (Belongs v) (IsUnowned v) fs =
    linked_as (rechained old new n image) v (Come u old new k) (Belongs v) (NotAlso d n (NowAlso c n (IsUnowned u))) (IsUnowned v) fs
    (λ e w is x. now_belongs u v r old new k e w m is x) (λ e w is x. had_belongs u v r old new k e w m is x)
    (λ j below un. (inl (had_unowned u v r old new k j m un), λ next. absurd (omega (arith, next)))) put in
    record {
      word = (l.whole, word_there image v (Belongs u) (IsUnowned u) fs c n l (omega arith) has);
      size = last.whole;
      same = last.same;
      chains = chains_from (rechained old new n image) v fs last up each;
      first = comes_first id_links mid (id_chain new) n (omega (arith, out.whole));
      order = λ e is other ws chain.
          let was = kept e ws is chain in
          put_order mid v (Gone u old k) (NowAlso c n (IsUnowned u)) fs (id_key new) n e ws out (omega arith) entry (omega arith) was.0
          other
          (out_order image v (Belongs u) (IsUnowned u) fs (id_key old) n e ws l (omega arith) has was.0 other was.1);
    }

-- ---- over the image

entry_of : (image u : List ℕ) (j : ℕ) → IsWhole 2112 image → u ≡ unchained image → IsEntry u j → IsEntry image j
entry_of image u j size same e =
    let count : block_count u ≡ block_count image = ap block_count same ∙ unchained_count image size in
    let below : j < block_count image = omega (arith, e.below, count) in
    let kind : kind_of (block_in image j) ≡ 1 =
    sym (unchained_kind image j size below) ∙ ap (λ (i : List ℕ). kind_of (block_in i j)) (sym same) ∙ e.kind in
    record { below = below; kind = kind }

first_same : (image made u : List ℕ) (new : ℤ) (k : ℕ) (c : Chain) → IsWhole 2112 image → u ≡ unchained image
    → IsRenamed k new image made → IsChain u c → word_at made (place_of c) ≡ word_at image (place_of c)
first_same image made u new k (ByName key) size same is low = head_word 2112 (place_of (ByName key)) image made (omega arith) is.front
first_same image made u new k (ById key) size same is low = head_word 2112 (place_of (ById key)) image made (omega arith) is.front
first_same image made u new k (Owned j) size same is e =
    let b = entry_of image u j size same e in
    sym (word_in made j 108 (omega arith)) ∙ is.keeps.words j 108 b.below b.kind (omega arith) (omega arith)
    ∙ word_in image j 108 (omega arith)

linked_kept : (image made u v : List ℕ) (fs gs : List ℕ) (r : Registry) (old new : ℤ) (k : ℕ) → IsWhole 2112 image → u ≡ unchained image
    → IsMove u v r old new k → v ≡ unchained made → IsRenamed k new image made → IsLinked image u (Belongs u) (IsUnowned u) fs
    → HasChain (free_links free_blocks) made 20 gs → IsLinked made v (Belongs u) (IsUnowned u) gs
linked_kept image made u v fs gs r old new k size same m now is l free = record {
  whole = is.size;
  same = sym now;
  chains = λ c valid.
      let was = chain_was u v r old new k c m valid in
      let visits = l.chains c was in record {
        words = visits.words;
        chain = chain_kept (next_of c) image made (place_of c) visits.words (high c) (omega (arith, low c)) is.keeps
            (first_same image made u new k c size same is was) visits.chain;
        only = visits.only;
        each = visits.each;
      };
  unused = λ j below un.
      let b = entry_of image u j size same un.0 in
      sym (word_in made j 104 (omega arith)) ∙ is.keeps.words j 104 b.below b.kind (omega arith) (omega arith)
      ∙ word_in image j 104 (omega arith) ∙ l.unused j un.0.below un;
  free = free;
}

-- a chain of the image is one of it without the words of chains
chain_plain : (image : List ℕ) (d : Chain) → IsWhole 2112 image → IsChain image d → IsChain (unchained image) d
chain_plain image (ByName key) size is = is
chain_plain image (ById key) size is = is
chain_plain image (Owned j) size is =
    record { below = omega (arith, is.below, unchained_count image size); kind = unchained_kind image j size is.below ∙ is.kind }

chain_now : (u v : List ℕ) (r : Registry) (old new : ℤ) (k : ℕ) (c : Chain) → IsMove u v r old new k → IsChain u c → IsChain v c
chain_now u v r old new k (ByName key) m is = is
chain_now u v r old new k (ById key) m is = is
chain_now u v r old new k (Owned j) m is = entry_now u v r old new k j m is

keeps_chains : (image made v : List ℕ) (r : Registry) (old new : ℤ) (k : ℕ) → IsWhole 2112 image → IsMove (unchained image) v r old new k
    → IsRenamed k new image made → AreKept image made v
keeps_chains image made v r old new k size m here d ws is chain =
    let u = unchained image in
    let plain = chain_plain image d size is in (
      chain_now u v r old new k d m plain,
      chain_kept (next_of d) image made (place_of d) ws (high d) (omega (arith, low d)) here.keeps
          (first_same image made u new k d size refl here plain) chain,
    )

pub moved : (image : List ℕ) (r : Registry) (lists : ℤ → PairList) (old new : ℤ) (k : ℕ) → HasLists image r lists → MayMove old new r
    → StandsAt image old k → HasMoved image (after_put_id old new image) (after_put_id old new (unchained image)) old new (k + 1)
moved image r lists old new k h may at =
    let l = lists old in
    let block = block_in image k in
    let n = block_count image in
    let u = unchained image in
    let fits : FitsSigned w32 new = fits_id new may.good in
    let blocks = list_blocks image r lists old k h at may.there in
    let within : (j : ℕ) → Contains l.more j → j < n = λ j has. (blocks j has).below in
    let apart : (j : ℕ) → Contains l.more j → kind_of (block_in image j) ≢ 1 = λ j has one. omega (arith, one, (blocks j has).kind) in
    let len : length block ≡ 192 = block_len image k n h.size at.below in
    let block_id = with_id_word new block in
    let long : length block_id ≡ 192 = length-with_id_word new block len in
    let made = relisted k new block_id l image in
    let here : IsRenamed k new image made = renamed image k new l h.size at.below at.kind fits within apart in
    let v = unchained made in
    let count : block_count u ≡ n = unchained_count image h.size in
    let plain_at = stands_plain image old k h.size at in
    let u_kind : (j : ℕ) → Contains l.more j → kind_of (block_in u j) ≡ 2 =
    λ j has. unchained_kind image j h.size (blocks j has).below ∙ (blocks j has).kind in
    let plain : IsRenamed k new u (relisted k new (with_id_word new (block_in u k)) l u) =
    renamed u k new l (omega (arith, unchained_len image h.size)) plain_at.below plain_at.kind fits
    (λ j has. omega (arith, (blocks j has).below, count)) (λ j has one. omega (arith, one, u_kind j has)) in
    let put : after_put_id old new image ≡ made = put_id_is image r lists old new k h at in
    let told : v ≡ after_put_id old new u = ap unchained (sym put) ∙ put_id_plain image r lists old new k h at within in
    let m : IsMove u v r old new k = record {
      of = record { valid = h.without.valid; laid = h.without.laid };
      may = may;
      entry = record { below = plain_at.below; kind = plain_at.kind };
      id = plain_at.id;
      is = subst (IsRenamed k new u) (sym (told ∙ plain_put_id_is u r lists old new k h.without plain_at)) plain;
    } in
    let free : HasFree made =
    free_written k block_id l image made long (kind_stays new block len ∙ at.kind) at.kind
    (relisted_is new k block_id l image h.size at.below long within)
    (free_none image l.more h.chains.free (λ j has none. omega (arith, none, (blocks j has).kind))) in
    let linked = linked_kept image made u v h.chains.free.words free.words r old new k h.size refl m refl here
    (linked_from image h.size h.chains) free.chain in
    let done : HasMoved image made v old new (k + 1) =
    rechains image made u v free.words r old new k m linked free.ascending
    (λ j below none.
    let less : j < block_count made = omega (arith, below, unchained_count made here.size) in
    free.each j less (sym (unchained_kind made j here.size less) ∙ none))
    (keeps_chains image made v r old new k h.size m here) in
    subst (λ (x : List ℕ). HasMoved image x (after_put_id old new u) old new (k + 1)) (sym put)
    (subst (λ (y : List ℕ). HasMoved image made y old new (k + 1)) told done)
