-- The changes of prdb_layout leave the pairs: the image after each, of one that holds pairs, holds them too.
use Rattle.std.proofs.Common.{◌≡◌, ◌≢◌, ℕ, ℤ, ◌+◌, ◌<◌, ◌≤◌, true, false, Bool, cond, ◌&&◌, List, [], ◌∷◌, ◌++◌, length, take, drop, Option, Some, None, IsSome, refl, sym, ap, subst, ◌∙◌, ⊎_elim, inl, inr, append_assoc, arith}
use Rattle.std.specs.Prelude.{◌⊎◌, ◌||◌}
use Rattle.std.specs.List.{Contains}
use Rattle.std.specs.Ordering.{int_eq}
use Rattle.std.specs.Str.{bytes_eq}
use Rattle.std.proofs.lemmas.Bool.{cases_lt, cases_Bool, lt-ltb, le-ltb, eqb-true}
use Rattle.std.proofs.lemmas.Bool.Decides.{Decides-int_eq}
use Rattle.std.proofs.lemmas.List.{take_at, drop-drop, length-take-le, length-drop}
use Rattle.std.proofs.lemmas.Slice.Eq.{bytes_eq-Decides}
use Rattle.ubik_types.specs.Image.{changed}
use Rattle.ubik_types.specs.declared.images.Change.TheVariants.{Put}
use Rattle.prdb_layout.specs.Blocks.{block_count}
use Rattle.db_blocks.specs.Bytes.{word, words, zeros, filled}
use Rattle.db_blocks.specs.Blocks.{kind_of}
use Rattle.db_blocks.proofs.FirstBlocks.{first_met, first_within}
use Rattle.prdb_layout.specs.Bytes.{bits}
use Rattle.prdb_layout.specs.Records.{Holds, IsLaidOut, after_insert, after_remove, after_replace, after_set_maxima, block_in, block_place, entry_in, field_numbers, first_block, has_id, is_free, maxima_in, new_block, next_block, whole, with_block, with_count, with_fields}
use Rattle.prdb_layout.specs.Registry.{Registry, AreMaxima, IsRecord, MayBeAdded, MayBeRemoved, MayReplace, with_entry, with_maxima, without_entry}
use Rattle.prdb_layout.specs.State.{PrEntry}
use Rattle.prdb_layout.proofs.BlockPlaces.{put_count, put_maxima, block_len}
use Rattle.prdb_layout.proofs.Changed.{by_id}
use Rattle.prdb_layout.proofs.EntryFields.{behind_name, entry_with, kind_with, length-with_fields}
use Rattle.prdb_layout.proofs.Held.{holds_inserted, holds_maxima, holds_removed, holds_replaced}
use Rattle.prdb_layout.proofs.LaidOut.{whole_same, zero_kind}
use Rattle.prdb_layout.proofs.Lookups.{id_absent, id_parts}
use Rattle.prdb_lists.specs.Layout.{AreLists, HoldsPairs, IsDistinct, IsListed, PairList, id_field, list_words, IsSpelled}
use Rattle.prdb_lists.specs.Members.{Members, are_paired}
use Rattle.prdb_lists.proofs.Kept.{IsOneOther, listed_kept, lists_kept}
use Rattle.prdb_lists.proofs.ListFound.{none_paired}
use Rattle.prdb_lists.proofs.ListRead.{chain_end}
use Rattle.prdb_lists.proofs.Spelled.{fields_spelled}
use Rattle.db_blocks.proofs.Scanned.{count_is}
use Rattle.db_blocks.proofs.BlockPlaces.{IsPut, put_block, add_block}

is_there : (o : Option PrEntry) (x : PrEntry) → o ≡ Some x → IsSome o
is_there o x e = subst (λ (v : Option PrEntry). IsSome v) (sym e) refl

is_not : (o : Option PrEntry) → o ≡ None → IsSome o → ⊥
is_not o none there = let no : IsSome {T = PrEntry} None = subst (λ (v : Option PrEntry). IsSome v) none there in absurd cc

pub true_false : (b : Bool) → b ≡ true → b ≡ false → ⊥
true_false b t f = cc

pub or_left : (a b : Bool) → a ≡ true → (a || b) ≡ true
or_left true b e = refl
or_left false b e = absurd cc

pub or_right : (a b : Bool) → b ≡ true → (a || b) ≡ true
or_right true b e = refl
or_right false b e = e

by_bool : (b : Bool) (x o : Option PrEntry) → IsSome x → IsSome o → IsSome (cond b x o)
by_bool true x o p q = p
by_bool false x o p q = q

pub int_other : (a b : ℤ) → a ≢ b → int_eq a b ≡ false
int_other a b other =
    ⊎_elim (λ (t : int_eq a b ≡ true). absurd (other ((Decides-int_eq a b).0 t))) (λ (f : int_eq a b ≡ false). f) (cases_Bool (int_eq a b))

pub zeros_len : length (zeros 192) ≡ 192
unfolding zeros
zeros_len = refl

-- ---- the same blocks in another image

lists_same : (old new : List ℕ) (r : Registry) (lists : ℤ → PairList) → block_count new ≡ block_count old
    → ((j : ℕ) → j < block_count old → block_in new j ≡ block_in old j) → AreLists old r lists → AreLists new r lists
lists_same old new r lists count same are = record {
  listed = λ j below kind.
      let in_old : j < block_count old = omega (arith, below, count) in
      let b = same j in_old in
      subst (λ (c : List ℕ). IsListed new (entry_in c).id c (lists (entry_in c).id)) (sym b)
      (listed_kept old new _ _ _ (λ i in_i more. (omega (arith, in_i, count), same i in_i))
      (are.listed j in_old (ap kind_of (sym b) ∙ kind)));
  used = λ j below kind. let in_old : j < block_count old = omega (arith, below, count) in
      are.used j in_old (ap kind_of (sym (same j in_old)) ∙ kind);
  once = are.once;
  spelled = λ j below kind.
      let in_old : j < block_count old = omega (arith, below, count) in
      let b = same j in_old in subst IsSpelled (sym b) (are.spelled j in_old (ap kind_of (sym b) ∙ kind));
}

-- ---- other maxima

maxima_after : (image : List ℕ) (user group : ℤ)
    → (after_set_maxima user group image ≡ image) ⊎
    (after_set_maxima user group image ≡ changed (whole image) (Put 8 (word (bits user) ++ word (bits group))))
unfolding after_set_maxima
maxima_after image user group =
    ⊎_elim
    (λ (same : (int_eq (maxima_in (whole image)).0 user && int_eq (maxima_in (whole image)).1 group) ≡ true). inl (rw same refl))
    (λ (other : (int_eq (maxima_in (whole image)).0 user && int_eq (maxima_in (whole image)).1 group) ≡ false). inr (rw other refl))
    (cases_Bool (int_eq (maxima_in (whole image)).0 user && int_eq (maxima_in (whole image)).1 group))

maxima_lists : (image : List ℕ) (r : Registry) (user group : ℤ) (lists : ℤ → PairList) → IsLaidOut (whole image) r
    → AreLists (whole image) r lists
    → AreLists (whole (after_set_maxima user group image)) r lists
maxima_lists image r user group lists laid are = elim (maxima_after image user group) [
  | inl same ↦ subst (λ (i : List ℕ). AreLists (whole i) r lists) (sym same) are
  | inr made ↦
      let old = whole image in
      let new = changed old (Put 8 (word (bits user) ++ word (bits group))) in
      let n = block_count old in
      let put = put_maxima old r.max_user r.max_group user group n laid.size laid.head in
      let long : 0 < length new = omega (arith, put.size, laid.size) in
      let count : block_count new ≡ n = count_is 2112 new n (put.size ∙ laid.size) in
      subst (λ (i : List ℕ). AreLists (whole i) r lists) (sym made)
      (subst (λ (i : List ℕ). AreLists i r lists) (sym (whole_same new long)) (lists_same old new r lists count put.others are))
]

pub maxima_keep : (image : List ℕ) (r : Registry) (m : Members) (user group : ℤ) → HoldsPairs image r m → AreMaxima user group
    → HoldsPairs (after_set_maxima user group image) (with_maxima user group r) m
maxima_keep image r m user group h max =
    let lists = maxima_lists image r user group h.lists h.holds.laid h.are in
    record {
      holds = holds_maxima image r user group h.holds max;
      valid = h.valid;
      lists = h.lists;
      are = record { listed = lists.listed; used = lists.used; once = lists.once; spelled = lists.spelled };
      each = h.each;
      all = h.all;
    }

-- ---- other fields for an entry

pairs_kept : (e : PrEntry) (block : List ℕ) → length block ≡ 192 → take 8 (drop 24 (with_fields e block)) ≡ take 8 (drop 24 block)
unfolding with_fields words field_numbers
pairs_kept e block len =
    ap (take 8) (append_assoc (take 8 (drop 24 block)) (filled 64 e.name) (drop 96 block))
    ∙ take_at (take 8 (drop 24 block)) (filled 64 e.name ++ drop 96 block) 8
    (length-take-le 8 (drop 24 block) (omega (arith, length-drop 24 block)))

ids_kept : (e : PrEntry) (block : List ℕ) → length block ≡ 192 → length e.name ≤ 63 → drop 112 (with_fields e block) ≡ drop 112 block
ids_kept e block len short =
    sym (drop-drop 16 96 (with_fields e block)) ∙ ap (drop 16) (behind_name e block len short) ∙ drop-drop 16 96 block

fields_listed : (image : List ℕ) (id : ℤ) (e : PrEntry) (block : List ℕ) (l : PairList) → length block ≡ 192 → length e.name ≤ 63
    → IsListed image id block l
    → IsListed image id (with_fields e block) l
fields_listed image id e block l len short is = record {
  ascending = is.ascending;
  fits = is.fits;
  few = is.few;
  front = pairs_kept e block len ∙ is.front;
  first = ids_kept e block len short ∙ is.first;
  chain = is.chain;
}

replace_after : (image : List ℕ) (id : ℤ) (e : PrEntry)
    → ((after_replace id e image ≡ image)
    × (with_fields e (block_in (whole image) (first_block (has_id id) (whole image)))
    ≡ block_in (whole image) (first_block (has_id id) (whole image))))
    ⊎ (after_replace id e image
    ≡ with_block (first_block (has_id id) (whole image)) (with_fields e (block_in (whole image) (first_block (has_id id) (whole image))))
    (whole image))
unfolding after_replace
replace_after image id e =
    let block = block_in (whole image) (first_block (has_id id) (whole image)) in
    ⊎_elim
    (λ (same : bytes_eq (with_fields e block) block ≡ true). inl ((rw same refl), (bytes_eq-Decides (with_fields e block) block).0 same))
    (λ (other : bytes_eq (with_fields e block) block ≡ false). inr (rw other refl))
    (cases_Bool (bytes_eq (with_fields e block) block))

first_there : (image : List ℕ) (r : Registry) (id : ℤ) → Holds image r → IsSome (r.entry id)
    → first_block (has_id id) (whole image) < block_count (whole image)
first_there image r id holds there =
    let k = first_block (has_id id) (whole image) in
    let n = block_count (whole image) in
    let within : k ≤ 0 + n = first_within (λ j. has_id id (block_in (whole image) j)) 0 n in
    ⊎_elim
    (λ (below : k < n). below)
    (λ (last : n ≤ k). absurd (is_not (r.entry id) (sym (id_absent (whole image) r id holds.laid holds.valid (omega arith))) there))
    (cases_lt k n)

-- with other fields in one block
replaced_lists : (old new : List ℕ) (r s : Registry) (id : ℤ) (e : PrEntry) (k n : ℕ) (lists : ℤ → PairList) → IsLaidOut old r
    → length old ≡ block_place n → k < n
    → kind_of (block_in old k) ≡ 1 → (entry_in (block_in old k)).id ≡ id → e.id ≡ id → IsRecord e
    → IsPut 2112 k (with_fields e (block_in old k)) old new n
    → ((x : ℤ) → IsSome (r.entry x) → IsSome (s.entry x)) → ((x : ℤ) → IsSome (s.entry x) → IsSome (r.entry x)) → AreLists old r lists
    → AreLists new s lists
replaced_lists old new r s id e k n lists laid size below kind same_id same is put there back are =
    let count : block_count old ≡ n = count_is 2112 old n size in
    let new_count : block_count new ≡ n = count_is 2112 new n put.size in
    let len = block_len old k n size below in
    let block = with_fields e (block_in old k) in
    let entry : entry_in block ≡ e = entry_with e (block_in old k) len is.fields in
    let one : IsOneOther old new k = record {
      stood = λ j in_new other. let in_old : j < block_count old = omega (arith, in_new, count, new_count) in
          (in_old, put.others j in_old other);
      stays = λ j in_old. omega (arith, in_old, count, new_count);
      was = λ in_old two. omega (arith, kind, two);
      is = λ two. let one_is : kind_of (block_in new k) ≡ 1 = ap kind_of put.here ∙ kind_with e (block_in old k) in
          omega (arith, one_is, two);
    } in
    let was : IsListed old id (block_in old k) (lists id) =
    subst (λ (x : ℤ). IsListed old x (block_in old k) (lists x)) same_id (are.listed k (omega (arith, below, count)) kind) in
    lists_kept old new k r s lists lists are one
    (λ one_kind.
    let now : IsListed new id block (lists id) = listed_kept old new id block (lists id)
    (λ i in_i two. let other : i ≢ k = λ at. let one_at = ap (λ (h : ℕ). kind_of (block_in old h)) at ∙ kind in
    omega (arith, one_at, two) in
    (omega (arith, in_i, count, new_count), put.others i in_i other))
    (fields_listed old id e (block_in old k) (lists id) len is.fields.name_len was) in
    let id_is : (entry_in block).id ≡ id = ap (λ (y : PrEntry). y.id) entry ∙ same in
    subst (λ (c : List ℕ). IsListed new (entry_in c).id c (lists (entry_in c).id)) (sym put.here)
    (subst (λ (x : ℤ). IsListed new x block (lists x)) (sym id_is) now))
    (λ one_kind. subst IsSpelled (sym put.here) (fields_spelled e (block_in old k) len is.fields))
    (λ j in_old other one_kind. refl)
    (λ x j is_there has. (there x is_there, refl))
    (λ x is_there. are.once x (back x is_there))

entry_same : (r : Registry) (e : PrEntry) (id x : ℤ) → e.id ≡ id → IsSome (r.entry id) → IsSome (r.entry x)
    → IsSome ((with_entry e r).entry x)
entry_same r e id x same there is = by_bool (int_eq x e.id) (Some e) (r.entry x) refl is

entry_back : (r : Registry) (e : PrEntry) (id x : ℤ) → e.id ≡ id → IsSome (r.entry id) → IsSome ((with_entry e r).entry x)
    → IsSome (r.entry x)
entry_back r e id x same there is =
    by_id x e.id
    (λ at. subst (λ (y : ℤ). IsSome (r.entry y)) (sym (at ∙ same)) there)
    (λ other. subst (λ (b : Bool). IsSome (cond b (Some e) (r.entry x))) (int_other x e.id other) is)

pub replace_keep : (image : List ℕ) (r : Registry) (m : Members) (id : ℤ) (e : PrEntry) → HoldsPairs image r m → IsRecord e
    → MayReplace id e r
    → HoldsPairs (after_replace id e image) (with_entry e r) m
replace_keep image r m id e h is may =
    let old = whole image in
    let k = first_block (has_id id) old in
    let n = block_count old in
    let below = first_there image r id h.holds may.there in
    let has : has_id id (block_in old k) ≡ true = first_met (λ j. has_id id (block_in old j)) 0 n (omega arith) in
    let parts = id_parts id (block_in old k) has in
    let there : (x : ℤ) → IsSome (r.entry x) → IsSome ((with_entry e r).entry x) = λ x. entry_same r e id x may.same_id may.there in
    let back : (x : ℤ) → IsSome ((with_entry e r).entry x) → IsSome (r.entry x) = λ x. entry_back r e id x may.same_id may.there in
    let block = with_fields e (block_in old k) in
    let len : length block ≡ 192 = length-with_fields e (block_in old k) (block_len old k n h.holds.laid.size below) is.fields.name_len in
    let lists : AreLists (whole (after_replace id e image)) (with_entry e r) h.lists = elim (replace_after image id e) [
      | inl same ↦
          let put : IsPut 2112 k block old old
          n = record { size = h.holds.laid.size; front = refl; here = sym same.1; others = λ j less other. refl } in
          subst (λ (i : List ℕ). AreLists (whole i) (with_entry e r) h.lists) (sym same.0)
          (replaced_lists old old r
          (with_entry e r) id e k n h.lists h.holds.laid h.holds.laid.size below parts.0 parts.1 may.same_id is put there back h.are)
      | inr made ↦
          let new = with_block k block old in
          let put : IsPut 2112 k block old new n = put_block 2112 old block k n h.holds.laid.size len below in
          let long : 0 < length new = omega (arith, put.size) in
          subst (λ (i : List ℕ). AreLists (whole i) (with_entry e r) h.lists) (sym made)
          (subst (λ (i : List ℕ). AreLists i (with_entry e r) h.lists) (sym (whole_same new long))
          (replaced_lists old new r
          (with_entry e r) id e k n h.lists h.holds.laid h.holds.laid.size below parts.0 parts.1 may.same_id is put there back h.are))
    ] in
    record {
      holds = holds_replaced image r id e h.holds is may below;
      valid = λ a b pair. let v = h.valid a b pair in (v.0, v.1, there a v.2, there b v.3);
      lists = h.lists;
      are = lists;
      each = λ x is_there. h.each x (back x is_there);
      all = λ x is_there. h.all x (back x is_there);
    }

-- ---- one entry more

abbrev no_pairs : PairList
no_pairs = record { ids = []; more = [] }

abbrev with_none : ℤ → (ℤ → PairList) → ℤ → PairList
with_none x lists id = cond (int_eq id x) no_pairs (lists id)

none_same : (x id : ℤ) (lists : ℤ → PairList) → id ≡ x → with_none x lists id ≡ no_pairs
none_same x id lists same = ap (λ (b : Bool). cond b no_pairs (lists id)) ((Decides-int_eq id x).1 same)

none_other : (x id : ℤ) (lists : ℤ → PairList) → id ≢ x → with_none x lists id ≡ lists id
none_other x id lists other = ap (λ (b : Bool). cond b no_pairs (lists id)) (int_other id x other)

zero_front : take 8 (drop 24 (zeros 192)) ≡ list_words no_pairs
unfolding zeros
zero_front = refl

zero_ids : drop 112 (zeros 192) ≡ id_field 80 []
unfolding zeros words
zero_ids = refl

new_listed : (image : List ℕ) (e : PrEntry) → IsRecord e → IsListed image e.id (new_block e) no_pairs
new_listed image e is = record {
  ascending = λ i j d less below. absurd (omega arith);
  fits = λ i d below. absurd (omega arith);
  few = omega arith;
  front = pairs_kept e (zeros 192) zeros_len ∙ zero_front;
  first = ids_kept e (zeros 192) zeros_len is.fields.name_len ∙ zero_ids;
  chain = refl;
}

-- an entry is another one than a new one
differs : (r : Registry) (e : PrEntry) (x : ℤ) → r.entry e.id ≡ None → IsSome (r.entry x) → x ≢ e.id
differs r e x fresh there same = is_not (r.entry x) (ap r.entry same ∙ fresh) there

more_there : (r : Registry) (e : PrEntry) (x : ℤ) → IsSome (r.entry x) → IsSome ((with_entry e r).entry x)
more_there r e x is = by_bool (int_eq x e.id) (Some e) (r.entry x) refl is

there_before : (r : Registry) (e : PrEntry) (x : ℤ) → x ≢ e.id → IsSome ((with_entry e r).entry x) → IsSome (r.entry x)
there_before r e x other is = subst (λ (b : Bool). IsSome (cond b (Some e) (r.entry x))) (int_other x e.id other) is

inserted_lists : (old new : List ℕ) (r : Registry) (e : PrEntry) (k : ℕ) (lists : ℤ → PairList) → IsLaidOut old r → r.entry e.id ≡ None
    → IsRecord e → IsOneOther old new k
    → block_in new k ≡ new_block e → AreLists old r lists → AreLists new (with_entry e r) (with_none e.id lists)
inserted_lists old new r e k lists laid fresh is one here are =
    let entry : entry_in (new_block e) ≡ e = entry_with e (zeros 192) zeros_len is.fields in
    lists_kept old new k r (with_entry e r) lists (with_none e.id lists) are one
    (λ kind.
    let id_is : (entry_in (new_block e)).id ≡ e.id = ap (λ (y : PrEntry). y.id) entry in
    subst (λ (c : List ℕ). IsListed new (entry_in c).id c (with_none e.id lists (entry_in c).id)) (sym here)
    (subst (λ (x : ℤ). IsListed new x (new_block e) (with_none e.id lists x)) (sym id_is)
    (subst (λ (l : PairList). IsListed new e.id (new_block e) l) (sym (none_same e.id e.id lists refl)) (new_listed new e is))))
    (λ kind. subst IsSpelled (sym here) (fields_spelled e (zeros 192) zeros_len is.fields))
    (λ j in_old other kind. none_other e.id (entry_in (block_in old j)).id lists
    (differs r e (entry_in (block_in old j)).id fresh
    (is_there (r.entry (entry_in (block_in old j)).id) (entry_in (block_in old j)) (laid.there j in_old kind))))
    (λ x j there has. (more_there r e x there, none_other e.id x lists (differs r e x fresh there)))
    (λ x there. by_id x e.id
    (λ same. subst (λ (l : PairList). IsDistinct l.more) (sym (none_same e.id x lists same)) (λ i j d less below. absurd (omega arith)))
    (λ other.
    subst (λ (l : PairList). IsDistinct l.more) (sym (none_other e.id x lists other)) (are.once x (there_before r e x other there))))

-- the block that is taken, and the image after it
record IsTaken (old new : List ℕ) (e : PrEntry) (k : ℕ) : Type 0 where
  one : IsOneOther old new k
  here : block_in new k ≡ new_block e
  long : 0 < length new

new_len : (e : PrEntry) → IsRecord e → length (new_block e) ≡ 192
new_len e is = length-with_fields e (zeros 192) zeros_len is.fields.name_len

taken_in : (old : List ℕ) (r : Registry) (e : PrEntry) (k : ℕ) → IsLaidOut old r → IsRecord e → k < block_count old
    → kind_of (block_in old k) ≡ 0
    → IsTaken old (with_block k (new_block e) old) e k
taken_in old r e k laid is below free =
    let n = block_count old in
    let new = with_block k (new_block e) old in
    let put : IsPut 2112 k (new_block e) old new n = put_block 2112 old (new_block e) k n laid.size (new_len e is) below in
    let new_count : block_count new ≡ n = count_is 2112 new n put.size in
    record {
      one = record {
        stood = λ j in_new other. let in_old : j < n = omega (arith, in_new, new_count) in (in_old, put.others j in_old other);
        stays = λ j in_old. omega (arith, in_old, new_count);
        was = λ in_old two. omega (arith, free, two);
        is = λ two. let kind : kind_of (block_in new k) ≡ 1 = ap kind_of put.here ∙ kind_with e (zeros 192) in omega (arith, kind, two);
      };
      here = put.here;
      long = omega (arith, put.size);
    }

taken_end : (old : List ℕ) (r : Registry) (e : PrEntry) → IsLaidOut old r → IsRecord e
    → IsTaken old (with_count (block_count old + 1) (with_block (block_count old) (new_block e) old)) e (block_count old)
taken_end old r e laid is =
    let n = block_count old in
    let mid = with_block n (new_block e) old in
    let new = with_count (n + 1) mid in
    let put : IsPut 2112 n (new_block e) old mid (n + 1) = add_block 2112 old (new_block e) n laid.size (new_len e is) in
    let head = put_count mid r.max_user r.max_group n (n + 1) (n + 1) put.size (put.front ∙ laid.head) in
    let mid_count : block_count mid ≡ n + 1 = count_is 2112 mid (n + 1) put.size in
    let new_count : block_count new ≡ n + 1 = count_is 2112 new (n + 1) (head.size ∙ put.size) in
    let here : block_in new n ≡ new_block e = head.others n (omega (arith, mid_count)) ∙ put.here in
    record {
      one = record {
        stood = λ j in_new other.
            let in_old : j < n = omega (arith, in_new, new_count, other) in
            (in_old, head.others j (omega (arith, in_old, mid_count)) ∙ put.others j in_old other);
        stays = λ j in_old. omega (arith, in_old, new_count);
        was = λ in_old two. omega (arith, in_old);
        is = λ two. let kind : kind_of (block_in new n) ≡ 1 = ap kind_of here ∙ kind_with e (zeros 192) in omega (arith, kind, two);
      };
      here = here;
      long = omega (arith, head.size, put.size);
    }

insert_lists : (image : List ℕ) (r : Registry) (e : PrEntry) (lists : ℤ → PairList) → Holds image r → r.entry e.id ≡ None → IsRecord e
    → AreLists (whole image) r lists
    → AreLists (whole (after_insert e image)) (with_entry e r) (with_none e.id lists)
unfolding after_insert
insert_lists image r e lists holds fresh is are =
    let old = whole image in
    let k = next_block old in
    let n = block_count old in
    let within : k ≤ 0 + n = first_within (λ j. is_free (block_in old j)) 0 n in
    let so : (new : List ℕ) (j : ℕ) → IsTaken old new e j → AreLists (whole new) (with_entry e r) (with_none e.id lists) = λ new j taken.
    subst (λ (i : List ℕ). AreLists i (with_entry e r) (with_none e.id lists)) (sym (whole_same new taken.long))
    (inserted_lists old new r e j lists holds.laid fresh is taken.one taken.here are) in
    ⊎_elim
    (λ (below : k < n).
    let free = eqb-true (kind_of (block_in old k)) 0 (first_met (λ j. is_free (block_in old j)) 0 n (omega arith)) in
    rw (lt-ltb k n below) (so (with_block k (new_block e) old) k (taken_in old r e k holds.laid is below free)))
    (λ (last : n ≤ k).
    let same : k ≡ n = omega arith in
    rw (le-ltb k n last)
    (subst (λ (j : ℕ). AreLists (whole (with_count (j + 1) (with_block j (new_block e) old))) (with_entry e r) (with_none e.id lists))
    (sym same)
    (so (with_count (n + 1) (with_block n (new_block e) old)) n (taken_end old r e holds.laid is))))
    (cases_lt k n)

pub insert_keep : (image : List ℕ) (r : Registry) (m : Members) (e : PrEntry) → HoldsPairs image r m → IsRecord e → MayBeAdded e r
    → HoldsPairs (after_insert e image) (with_entry e r) m
insert_keep image r m e h is may = record {
  holds = holds_inserted image r e h.holds is may;
  valid = λ a b pair. let v = h.valid a b pair in (v.0, v.1, more_there r e a v.2, more_there r e b v.3);
  lists = with_none e.id h.lists;
  are = insert_lists image r e h.lists h.holds may.id is h.are;
  each = λ x there other has. by_id x e.id
      (λ same. let none : Contains {X = ℤ} [] other = subst (λ (l : PairList). Contains l.ids other) (none_same e.id x h.lists same) has in
      absurd (omega (arith, none.1)))
      (λ apart.
      h.each x (there_before r e x apart there) other
      (subst (λ (l : PairList). Contains l.ids other) (none_other e.id x h.lists apart) has));
  all = λ x there other paired. by_id x e.id
      (λ same. let fails = none_paired image r m x h (ap r.entry same ∙ may.id) other in
      absurd (true_false (are_paired m x other) paired fails))
      (λ apart.
      subst (λ (l : PairList). Contains l.ids other) (sym (none_other e.id x h.lists apart))
      (h.all x (there_before r e x apart there) other paired));
}

-- ---- one entry less

none_of : (ids : List ℤ) → ((x : ℤ) → Contains ids x → ⊥) → ids ≡ []
none_of [] not = refl
none_of (x ∷ ids) not = absurd (not x (0, omega arith, refl))

-- an entry in no pair has no continuation block
more_none : (image : List ℕ) (id : ℤ) (block : List ℕ) (l : PairList) → IsListed image id block l → l.ids ≡ [] → l.more ≡ []
more_none image id block l is none = chain_end image id l.more (drop 19 l.ids) is.chain (ap (drop 19) none)

remaining : (r : Registry) (id x : ℤ) → x ≢ id → IsSome (r.entry x) → IsSome ((without_entry id r).entry x)
remaining r id x other is = subst (λ (b : Bool). IsSome (cond b None (r.entry x))) (sym (int_other x id other)) is

was_there : (r : Registry) (id x : ℤ) → IsSome ((without_entry id r).entry x) → (x ≢ id) × IsSome (r.entry x)
was_there r id x is =
    by_id x id
    (λ same. let gone : IsSome {T = PrEntry} None = subst (λ (b : Bool). IsSome (cond b None (r.entry x))) ((Decides-int_eq x id).1 same)
    is in absurd cc)
    (λ other. (other, subst (λ (b : Bool). IsSome (cond b None (r.entry x))) (int_other x id other) is))

removed_lists : (old : List ℕ) (r : Registry) (id : ℤ) (k : ℕ) (lists : ℤ → PairList) → IsLaidOut old r → k < block_count old
    → kind_of (block_in old k) ≡ 1
    → (entry_in (block_in old k)).id ≡ id → (lists id).ids ≡ [] → AreLists old r lists
    → AreLists (with_block k (zeros 192) old) (without_entry id r) lists
removed_lists old r id k lists laid below kind same none are =
    let n = block_count old in
    let new = with_block k (zeros 192) old in
    let put : IsPut 2112 k (zeros 192) old new n = put_block 2112 old (zeros 192) k n laid.size zeros_len below in
    let new_count : block_count new ≡ n = count_is 2112 new n put.size in
    let zero : kind_of (block_in new k) ≡ 0 = ap kind_of put.here ∙ zero_kind in
    let was : IsListed old id (block_in old k) (lists id) = subst (λ (x : ℤ). IsListed old x (block_in old k) (lists x)) same
    (are.listed k below kind) in
    let no_more : (lists id).more ≡ [] = more_none old id (block_in old k) (lists id) was none in
    let one : IsOneOther old new k = record {
      stood = λ j in_new other. let in_old : j < n = omega (arith, in_new, new_count) in (in_old, put.others j in_old other);
      stays = λ j in_old. omega (arith, in_old, new_count);
      was = λ in_old two. omega (arith, kind, two);
      is = λ two. omega (arith, zero, two);
    } in
    lists_kept old new k r (without_entry id r) lists lists are one
    (λ is_one. absurd (omega (arith, zero, is_one)))
    (λ is_one. absurd (omega (arith, zero, is_one)))
    (λ j in_old other is_one. refl)
    (λ x j there has. (
      remaining r id x
          (λ at. let c : Contains {X = ℕ} [] j = subst (λ (l : List ℕ). Contains l j) (ap (λ (y : ℤ). (lists y).more) at ∙ no_more) has in
          omega (arith, c.1)) there,
      refl,
    ))
    (λ x there. are.once x (was_there r id x there).1)

remove_lists : (image : List ℕ) (r : Registry) (id : ℤ) (lists : ℤ → PairList) → Holds image r → IsSome (r.entry id) → (lists id).ids ≡ []
    → AreLists (whole image) r lists
    → AreLists (whole (after_remove id image)) (without_entry id r) lists
unfolding after_remove
remove_lists image r id lists holds there none are =
    let old = whole image in
    let k = first_block (has_id id) old in
    let n = block_count old in
    let below = first_there image r id holds there in
    let has : has_id id (block_in old k) ≡ true = first_met (λ j. has_id id (block_in old j)) 0 n (omega arith) in
    let parts = id_parts id (block_in old k) has in
    let put : IsPut 2112 k (zeros 192) old (with_block k (zeros 192) old) n = put_block 2112 old (zeros 192) k n holds.laid.size zeros_len below in
    let long : 0 < length (with_block k (zeros 192) old) = omega (arith, put.size) in
    subst (λ (i : List ℕ). AreLists i (without_entry id r) lists) (sym (whole_same (with_block k (zeros 192) old) long))
    (removed_lists old r id k lists holds.laid below parts.0 parts.1 none are)

pub remove_keep : (image : List ℕ) (r : Registry) (m : Members) (id : ℤ) → HoldsPairs image r m → MayBeRemoved id r
    → ((other : ℤ) → are_paired m id other ≡ false)
    → HoldsPairs (after_remove id image) (without_entry id r) m
remove_keep image r m id h may alone =
    let none : (h.lists id).ids
    ≡ [] = none_of (h.lists id).ids (λ x has. true_false (are_paired m id x) (h.each id may.there x has) (alone x)) in
    let apart : (a b : ℤ) → m.has a b ≡ true → (a ≢ id) × (b ≢ id) = λ a b pair. (
      λ same. true_false (are_paired m id b) (or_left (m.has id b) (m.has b id) (ap (λ (x : ℤ). m.has x b) (sym same) ∙ pair)) (alone b),
      λ same. true_false (are_paired m id a) (or_right (m.has id a) (m.has a id) (ap (m.has a) (sym same) ∙ pair)) (alone a),
    ) in
    record {
      holds = holds_removed image r id h.holds may (first_there image r id h.holds may.there);
      valid = λ a b pair. let v = h.valid a b pair in let o = apart a b pair in
          (v.0, v.1, remaining r id a o.0 v.2, remaining r id b o.1 v.3);
      lists = h.lists;
      are = remove_lists image r id h.lists h.holds may.there none h.are;
      each = λ x there. h.each x (was_there r id x there).1;
      all = λ x there. h.all x (was_there r id x there).1;
    }
