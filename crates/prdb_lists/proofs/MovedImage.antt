-- An image in which an entry's own blocks have another id holds the registry with it, and the same lists.
use Rattle.std.proofs.Common.{◌≡◌, ◌≢◌, ℕ, ℤ, ◌<◌, Bool, cond, List, length, take, drop, Option, Some, IsSome, refl, sym, ap, subst, ◌∙◌, ⊎_elim, inl, inr, arith}
use Rattle.std.specs.Prelude.{FitsSigned, option_map}
use Rattle.std.specs.Int.{w32}
use Rattle.std.specs.List.{Contains}
use Rattle.std.proofs.lemmas.Bool.{cases_eq}
use Rattle.std.proofs.lemmas.Bool.Decides.{Decides-int_eq}
use Rattle.db_blocks.specs.Blocks.{kind_of}
use Rattle.prdb_layout.specs.Blocks.{block_count}
use Rattle.prdb_layout.specs.Records.{IsBlock, IsEntryBlock, IsLaidOut, block_in, block_place, entry_in, head_with, with_block}
use Rattle.prdb_layout.specs.Registry.{Registry, IsRegistry}
use Rattle.prdb_layout.specs.State.{PrEntry}
use Rattle.prdb_layout.proofs.BlockPlaces.{block_len}
use Rattle.prdb_layout.proofs.Changed.{by_id, some_same}
use Rattle.prdb_layout.proofs.LaidOut.{zero_kind}
use Rattle.prdb_layout.proofs.Lengths.{fits_id}
use Rattle.prdb_lists.specs.Changes.{list_in, relisted, with_list, with_more}
use Rattle.prdb_lists.specs.Layout.{AreLists, IsListed, PairList, IsSpelled}
use Rattle.prdb_lists.specs.Moves.{MayMove, after_put_id, moved_registry, with_id_word, with_moved_id}
use Rattle.prdb_lists.specs.Sides.{HasLists}
use Rattle.prdb_lists.proofs.Chains.{chain-length, chain_over, full_by-length}
use Rattle.prdb_lists.proofs.Gains.{listed_at, more_within, place_is, told_at}
use Rattle.prdb_lists.proofs.Ids.{entry_fits}
use Rattle.prdb_lists.proofs.MovedBlock.{block_put, entry_put, length-with_id_word, with_id_of, spelled_put}
use Rattle.prdb_lists.proofs.MovedRegistry.{back, back_new, back_other, ids_differ, moved_new, moved_same, moved_there, moved_valid, there_differs, there_moved}
use Rattle.prdb_lists.proofs.Relist.{StandsAt, all_of, old_blocks}
use Rattle.prdb_lists.proofs.Side.{IsMoreBlock, IsWritten, chain_block, chain_stays, contains_or, written}
use Rattle.prdb_lists.proofs.WithList.{entry_block, entry_kept, first_of, front_told, length-with_list, spelled_kept}
use Rattle.db_blocks.proofs.Scanned.{count_is}
use Rattle.db_blocks.proofs.BlockPlaces.{IsPut, put_block}

-- Block k is the entry's, with another id and its list; the list's blocks are written. All others stay.
record IsIdPut (image after : List ℕ) (old new : ℤ) (k n : ℕ) (block : List ℕ) (l : PairList) : Type 0 where
  was : length image ≡ block_place n
  size : length after ≡ block_place n
  front : take 2112 after ≡ take 2112 image
  within : k < n
  kind : kind_of (block_in image k) ≡ 1
  id : (entry_in (block_in image k)).id ≡ old
  here : block_in after k ≡ block
  entry : entry_in block ≡ with_moved_id old new (entry_in (block_in image k))
  entry_id : (entry_in block).id ≡ new
  is_entry : IsEntryBlock block
  is_spelled : IsSpelled block
  listed : IsListed after new block l
  new_more : (j : ℕ) → Contains l.more j → IsMoreBlock after new j
  old_more : (j : ℕ) → Contains l.more j → IsMoreBlock image old j
  others : (j : ℕ) → j < n → j ≢ k → (Contains l.more j → ⊥) → block_in after j ≡ block_in image j

-- the block is the entry's with the new id
moved_entry : (old new : ℤ) (e : PrEntry) → e.id ≡ old → with_id_of new e ≡ with_moved_id old new e
moved_entry old new e same = ap (λ (b : Bool). record e { id = cond b new e.id }) (sym ((Decides-int_eq e.id old).1 same))

put_made : (image : List ℕ) (r : Registry) (lists : ℤ → PairList) (old new : ℤ) (k n : ℕ) → HasLists image r lists → MayMove old new r
    → StandsAt image old k → block_count image ≡ n
    → IsIdPut image (relisted k new (with_id_word new (block_in image k)) (lists old) image) old new k n
    (with_list (with_id_word new (block_in image k)) (lists old)) (lists old)
put_made image r lists old new k n h may at count =
    let l = lists old in
    let mid = with_id_word new (block_in image k) in
    let block = with_list mid l in
    let was : length image ≡ block_place n = h.laid.size ∙ ap block_place count in
    let below = at.below in
    let in_n : k < n = omega arith in
    let len : length (block_in image k) ≡ 192 = block_len image k n was in_n in
    let mid_len : length mid ≡ 192 = length-with_id_word new (block_in image k) len in
    let fits : FitsSigned w32 new = fits_id new may.good in
    let listed = listed_at image r lists old k h at in
    let old_more : (j : ℕ) → Contains l.more j → IsMoreBlock image old j = old_blocks image r lists old k h at may.there in
    let not_k : Contains l.more k → ⊥ = λ has. let two = (old_more k has).kind in let one = at.kind in omega arith in
    let w : IsWritten new l.more (drop 19 l.ids) image (with_more new l.more (drop 19 l.ids) image) n =
    written new l.more (drop 19 l.ids) image n was
    (all_of l.more n (λ j has. let less = more_within image r lists old k h at j has in omega arith)) (h.are.once old may.there)
    (full_by-length l.more (drop 19 l.ids) (chain-length image old l.more (drop 19 l.ids) listed.chain)) in
    let full = with_more new l.more (drop 19 l.ids) image in
    let full_count : block_count full ≡ n = count_is 2112 full n w.size in
    let put : IsPut 2112 k block full (with_block k block full) n = put_block 2112 full block k n w.size (length-with_list mid l mid_len) in_n in
    let after = with_block k block full in
    let after_count : block_count after ≡ n = count_is 2112 after n put.size in
    let is_entry : IsEntryBlock (block_in image k) = elim (h.laid.blocks k below) [
      | inl free ↦ let kind = at.kind in let zero = ap kind_of free ∙ zero_kind in absurd (omega arith)
      | inr other ↦ elim other [ inl two ↦ let kind = at.kind in absurd (omega arith) | inr is ↦ is ]
    ] in
    let entry : entry_in block ≡ with_id_of new (entry_in (block_in image k)) = entry_kept mid l mid_len
    ∙ entry_put new (block_in image k) len fits in
    let now : IsListed after new block l = record {
      ascending = listed.ascending;
      fits = listed.fits;
      few = listed.few;
      front = front_told mid l mid_len;
      first = first_of mid l mid_len;
      chain = chain_over full after new l.more (drop 19 l.ids)
          (λ j has less. (omega arith, put.others j less (λ same. not_k (subst (Contains l.more) same has)))) w.chain;
    } in
    record {
      was = was;
      size = put.size;
      front = put.front ∙ w.front;
      within = in_n;
      kind = at.kind;
      id = at.id;
      here = put.here;
      entry = entry ∙ moved_entry old new (entry_in (block_in image k)) at.id;
      entry_id = ap (λ (e : PrEntry). e.id) entry;
      is_entry = entry_block mid l mid_len (block_put new (block_in image k) len is_entry);
      is_spelled = spelled_kept mid l mid_len (spelled_put new (block_in image k) len fits (h.are.spelled k below at.kind));
      listed = now;
      new_more = chain_block after new l.more (drop 19 l.ids) fits now.chain;
      old_more = old_more;
      others = λ j less other not. put.others j (omega arith) other ∙ w.others j less not;
    }

-- what a block of the new image is
data Place (image after : List ℕ) (k : ℕ) (more : List ℕ) (j : ℕ) : Type 0 where
  the_entry : j ≡ k → Place image after k more j
  of_list : Contains more j → Place image after k more j
  untouched : j ≢ k → (Contains more j → ⊥) → block_in after j ≡ block_in image j → Place image after k more j

place : (image after : List ℕ) (old new : ℤ) (k n : ℕ) (block : List ℕ) (l : PairList) → IsIdPut image after old new k n block l → (j : ℕ)
    → j < n
    → Place image after k l.more j
place image after old new k n block l s j below =
    ⊎_elim (λ (same : j ≡ k). the_entry same)
    (λ (other : j ≢ k). elim (contains_or l.more j) [
      | inl has ↦ of_list has
      | inr not ↦ untouched other not (s.others j below other not)
    ])
    (cases_eq j k)

-- an entry of another block has another id than these two
apart_at : (image : List ℕ) (r : Registry) (old new : ℤ) (k j n : ℕ) → IsLaidOut image r → MayMove old new r → block_count image ≡ n → k < n
    → kind_of (block_in image k) ≡ 1
    → (entry_in (block_in image k)).id ≡ old → j < n → j ≢ k → kind_of (block_in image j) ≡ 1
    → ((entry_in (block_in image j)).id ≢ old) × ((entry_in (block_in image j)).id ≢ new)
apart_at image r old new k j n laid may count in_n kind_k id below other kind = (
  λ same. other (laid.one j k (omega arith) (omega arith) kind kind_k (same ∙ sym id)),
  there_differs old new r may (entry_in (block_in image j)).id
      (subst (λ (o : Option PrEntry). IsSome o) (sym (laid.there j (omega arith) kind)) refl),
)

-- an entry in a block of the new image, and the block that it had
record IsEntryOf (image after : List ℕ) (r : Registry) (old new : ℤ) (k j : ℕ) : Type 0 where
  id_back : back old new (entry_in (block_in after j)).id ≡ (entry_in (block_in image j)).id
  kind : kind_of (block_in image j) ≡ 1
  at : (moved_registry old new r).entry (entry_in (block_in after j)).id ≡ Some (entry_in (block_in after j))

entry_of : (image after : List ℕ) (r : Registry) (old new : ℤ) (k n : ℕ) (block : List ℕ) (l : PairList) → IsLaidOut image r → IsRegistry r
    → MayMove old new r
    → IsIdPut image after old new k n block l → (j : ℕ) → j < n → kind_of (block_in after j) ≡ 1 → IsEntryOf image after r old new k j
entry_of image after r old new k n block l laid valid may s j below kind =
    let count : block_count image ≡ n = count_is 2112 image n s.was in
    elim (place image after old new k n block l s j below) [
      | the_entry same ↦
          let b : block_in after j ≡ block = ap (block_in after) same ∙ s.here in
          let in_n = s.within in
          let id : (entry_in (block_in after j)).id ≡ new = ap (λ (c : List ℕ). (entry_in c).id) b ∙ s.entry_id in
          let was : r.entry old ≡ Some (entry_in (block_in image k)) = ap r.entry (sym s.id) ∙ laid.there k (omega arith) s.kind in
          record {
            id_back = back_new old new (entry_in (block_in after j)).id id ∙ sym s.id
                ∙ ap (λ (i : ℕ). (entry_in (block_in image i)).id) (sym same);
            kind = ap (λ (i : ℕ). kind_of (block_in image i)) same ∙ s.kind;
            at = moved_new old new r (entry_in (block_in after j)).id id ∙ ap (option_map (with_moved_id old new)) was
                ∙ ap Some (sym s.entry ∙ ap entry_in (sym b));
          }
      | of_list has ↦ let two = (s.new_more j has).kind in absurd (omega arith)
      | untouched other not same ↦
          let was : kind_of (block_in image j) ≡ 1 = ap kind_of (sym same) ∙ kind in
          let far = apart_at image r old new k j n laid may count s.within s.kind s.id below other was in
          let id : (entry_in (block_in after j)).id ≡ (entry_in (block_in image j)).id = ap (λ (c : List ℕ). (entry_in c).id) same in
          record {
            id_back = ap (back old new) id ∙ back_other old new (entry_in (block_in image j)).id far.1;
            kind = was;
            at = ap (moved_registry old new r).entry id ∙ moved_same old new r valid (entry_in (block_in image j)).id far.1 far.0
                ∙ laid.there j (omega arith) was ∙ ap Some (ap entry_in (sym same));
          }
    ]

-- the block of an entry in the new image
record StandsIn (after : List ℕ) (n : ℕ) (e : PrEntry) : Type 0 where
  j : ℕ
  below : j < n
  kind : kind_of (block_in after j) ≡ 1
  is : entry_in (block_in after j) ≡ e

stays_in : (image after : List ℕ) (r : Registry) (old new : ℤ) (k n : ℕ) (block : List ℕ) (l : PairList) → IsLaidOut image r → IsRegistry r
    → MayMove old new r
    → IsIdPut image after old new k n block l → (id : ℤ) (e : PrEntry) → id ≢ old → r.entry id ≡ Some e → StandsIn after n e
stays_in image after r old new k n block l laid valid may s id e apart at =
    let count : block_count image ≡ n = count_is 2112 image n s.was in
    let o = laid.only id e at in
    let below = o.1 in
    let in_n : o.0 < n = omega arith in
    let kind = o.2 in
    let same : block_in after o.0 ≡ block_in image o.0 = s.others o.0 in_n
    (λ is_k. apart
    (sym (valid.ids id e at) ∙ ap (λ (y : PrEntry). y.id) (sym o.3) ∙ ap (λ (i : ℕ). (entry_in (block_in image i)).id) is_k ∙ s.id))
    (λ has. let two = (s.old_more o.0 has).kind in omega arith) in
    record { j = o.0; below = in_n; kind = ap kind_of same ∙ o.2; is = ap entry_in same ∙ o.3 }

entries_stand : (image after : List ℕ) (r : Registry) (old new : ℤ) (k n : ℕ) (block : List ℕ) (l : PairList) → IsLaidOut image r
    → IsRegistry r → MayMove old new r
    → IsIdPut image after old new k n block l → (id : ℤ) (e : PrEntry) → (moved_registry old new r).entry id ≡ Some e → StandsIn after n e
entries_stand image after r old new k n block l laid valid may s id e at =
    let count : block_count image ≡ n = count_is 2112 image n s.was in
    let in_n = s.within in
    by_id id new
    (λ same.
    let was : r.entry old ≡ Some (entry_in (block_in image k)) = ap r.entry (sym s.id) ∙ laid.there k (omega arith) s.kind in
    let is : with_moved_id old new (entry_in (block_in image k)) ≡ e =
    some_same (sym (ap (option_map (with_moved_id old new)) was) ∙ sym (moved_new old new r id same) ∙ at) in
    record { j = k; below = s.within; kind = ap kind_of s.here ∙ s.is_entry.kind; is = ap entry_in s.here ∙ s.entry ∙ is })
    (λ other.
    let there : IsSome ((moved_registry old new r).entry id) = subst (λ (o : Option PrEntry). IsSome o) (sym at) refl in
    let apart = (moved_there old new r valid may id there).0 in
    stays_in image after r old new k n block l laid valid may s id e apart (sym (moved_same old new r valid id other apart) ∙ at))

put_laid : (image after : List ℕ) (r : Registry) (old new : ℤ) (k n : ℕ) (block : List ℕ) (l : PairList) → IsLaidOut image r → IsRegistry r
    → MayMove old new r
    → IsIdPut image after old new k n block l → IsLaidOut after (moved_registry old new r)
put_laid image after r old new k n block l laid valid may s =
    let count : block_count image ≡ n = count_is 2112 image n s.was in
    let after_count : block_count after ≡ n = count_is 2112 after n s.size in
    record {
      size = s.size ∙ ap block_place (sym after_count);
      head = s.front ∙ laid.head ∙ ap (head_with r.max_user r.max_group) (count ∙ sym after_count);
      blocks = λ j below. elim (place image after old new k n block l s j (omega arith)) [
        | the_entry same ↦ inr (inr (subst IsEntryBlock (sym (ap (block_in after) same ∙ s.here)) s.is_entry))
        | of_list has ↦ inr (inl (s.new_more j has).kind)
        | untouched other not same ↦ subst IsBlock (sym same) (laid.blocks j (omega arith))
      ];
      there = λ j below kind. (entry_of image after r old new k n block l laid valid may s j (omega arith) kind).at;
      only = λ id e at.
          let o = entries_stand image after r old new k n block l laid valid may s id e at in
          let below = o.below in
          (o.j, omega arith, o.kind, o.is);
      one = λ i j in_i in_j kind_i kind_j same.
          let a = entry_of image after r old new k n block l laid valid may s i (omega arith) kind_i in
          let b = entry_of image after r old new k n block l laid valid may s j (omega arith) kind_j in
          laid.one i j (omega arith) (omega arith) a.kind b.kind (sym a.id_back ∙ ap (back old new) same ∙ b.id_back);
    }

-- the lists, each under the id of its entry
put_lists : (image after : List ℕ) (r : Registry) (lists : ℤ → PairList) (old new : ℤ) (k n : ℕ) (block : List ℕ) → HasLists image r lists
    → MayMove old new r
    → IsIdPut image after old new k n block (lists old) → AreLists after (moved_registry old new r) (λ id. lists (back old new id))
put_lists image after r lists old new k n block h may s =
    let l = lists old in
    let count : block_count image ≡ n = count_is 2112 image n s.was in
    let after_count : block_count after ≡ n = count_is 2112 after n s.size in
    record {
      listed = λ j below kind. elim (place image after old new k n block (lists old) s j (omega arith)) [
        | the_entry same ↦
            let b : block_in after j ≡ block = ap (block_in after) same ∙ s.here in
            subst (λ (c : List ℕ). IsListed after (entry_in c).id c (lists (back old new (entry_in c).id))) (sym b)
            (subst (λ (y : ℤ). IsListed after y block (lists (back old new y))) (sym s.entry_id)
            (subst (λ (y : ℤ). IsListed after new block (lists y)) (sym (back_new old new new refl)) s.listed))
        | of_list has ↦ let two = (s.new_more j has).kind in absurd (omega arith)
        | untouched other not same ↦
            let was : kind_of (block_in image j) ≡ 1 = ap kind_of (sym same) ∙ kind in
            let in_old : j < block_count image = omega arith in
            let y = (entry_in (block_in image j)).id in
            let far = apart_at image r old new k j n h.laid may count s.within s.kind s.id (omega arith) other was in
            let fit = entry_fits r (entry_in (block_in image j)).id h.valid
            (subst (λ (o : Option PrEntry). IsSome o) (sym (h.laid.there j in_old was)) refl) in
            let listed = h.are.listed j in_old was in
            let chain = chain_stays image after (entry_in (block_in image j)).id (lists (entry_in (block_in image j)).id).more
            (drop 19 (lists (entry_in (block_in image j)).id).ids) fit
            (λ i mine.
            let in_i = mine.below in
            let two = mine.kind in (
              omega arith,
              s.others i (omega arith)
                  (λ is_k. let one = ap (λ (g : ℕ). kind_of (block_in image g)) is_k ∙ s.kind in omega arith)
                  (λ has. far.0 (sym mine.owner ∙ (s.old_more i has).owner)),
            )) listed.chain in
            let now : IsListed after (entry_in (block_in image j)).id (block_in image j) (lists (entry_in (block_in image j)).id) =
            record {
              ascending = listed.ascending;
              fits = listed.fits;
              few = listed.few;
              front = listed.front;
              first = listed.first;
              chain = chain;
            } in
            subst (λ (c : List ℕ). IsListed after (entry_in c).id c (lists (back old new (entry_in c).id))) (sym same)
            (subst (λ (z : ℤ). IsListed after (entry_in (block_in image j)).id (block_in image j) (lists z))
            (sym (back_other old new (entry_in (block_in image j)).id far.1)) now)
      ];
      used = λ j below kind. elim (place image after old new k n block (lists old) s j (omega arith)) [
        | the_entry same ↦
            let one : kind_of (block_in after j) ≡ 1 = ap (λ (i : ℕ). kind_of (block_in after i)) same ∙ ap kind_of s.here
            ∙ s.is_entry.kind in
            absurd (omega arith)
        | of_list has ↦ (
          new,
          there_moved old new r h.valid new (ids_differ old new r may)
              (subst (λ (y : ℤ). IsSome (r.entry y)) (sym (back_new old new new refl)) may.there),
          subst (λ (y : ℤ). Contains (lists y).more j) (sym (back_new old new new refl)) has,
        )
        | untouched other not same ↦
            let u = h.are.used j (omega arith) (ap kind_of (sym same) ∙ kind) in
            let apart : u.0 ≢ old = λ is. not (subst (λ (y : ℤ). Contains (lists y).more j) is u.2) in
            let stays : back old new u.0 ≡ u.0 = back_other old new u.0 (there_differs old new r may u.0 u.1) in (
              u.0,
              there_moved old new r h.valid u.0 apart (subst (λ (y : ℤ). IsSome (r.entry y)) (sym stays) u.1),
              subst (λ (y : ℤ). Contains (lists y).more j) (sym stays) u.2,
            )
      ];
      once = λ id there. h.are.once (back old new id) (moved_there old new r h.valid may id there).1;
      spelled = λ j below kind. elim (place image after old new k n block (lists old) s j (omega arith)) [
        | the_entry same ↦ subst IsSpelled (sym (ap (block_in after) same ∙ s.here)) s.is_spelled
        | of_list has ↦ let two = (s.new_more j has).kind in absurd (omega arith)
        | untouched other not same ↦ subst IsSpelled (sym same) (h.are.spelled j (omega arith) (ap kind_of (sym same) ∙ kind))
      ];
    }

-- the image is a function of the bytes
pub put_id_is : (image : List ℕ) (r : Registry) (lists : ℤ → PairList) (old new : ℤ) (k : ℕ) → HasLists image r lists → StandsAt image old k
    → after_put_id old new image ≡ relisted k new (with_id_word new (block_in image k)) (lists old) image
put_id_is image r lists old new k h at =
    ap (λ (j : ℕ). relisted j new (with_id_word new (block_in image j)) (list_in image (block_in image j)) image)
    (place_is image r lists old k h at)
    ∙ ap (λ (l : PairList). relisted k new (with_id_word new (block_in image k)) l image) (told_at image r lists old k h at)

pub put_holds : (image : List ℕ) (r : Registry) (lists : ℤ → PairList) (old new : ℤ) (k : ℕ) → HasLists image r lists → MayMove old new r
    → StandsAt image old k
    → HasLists (after_put_id old new image) (moved_registry old new r) (λ id. lists (back old new id))
put_holds image r lists old new k h may at =
    let made = relisted k new (with_id_word new (block_in image k)) (lists old) image in
    let s = put_made image r lists old new k (block_count image) h may at refl in
    let block = with_list (with_id_word new (block_in image k)) (lists old) in
    subst (λ (i : List ℕ). HasLists i (moved_registry old new r) (λ id. lists (back old new id)))
    (sym (put_id_is image r lists old new k h at)) (record {
      valid = moved_valid old new r h.valid may;
      laid = put_laid image made r old new k (block_count image) block (lists old) h.laid h.valid may s;
      are = put_lists image made r lists old new k (block_count image) block h may s;
    })
