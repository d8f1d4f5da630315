-- What another id of an entry makes of a draft, and why it is not made.
use Rattle.std.proofs.Common.{◌≡◌, ℕ, ℤ, pos, suc, ◌+◌, ◌^◌, ◌<◌, ◌≤◌, List, [], ◌∷◌, ◌++◌, length, get_or, take, drop, Option, Some, None, IfSome, Result, Ok, Err, OnOk, IfErr, refl, sym, ap, subst, ◌∙◌, arith}
use Rattle.std.specs.Prelude.{IsSomeAnd}
use Rattle.std.specs.List.{Contains}
use Rattle.std.specs.Option.{option_map}
use Rattle.std.proofs.lemmas.List.{get_or-drop, get_or_default, length-drop, take-append-drop, take_all}
use Rattle.std.proofs.Math.Seq.{take-suc}
use Rattle.std.proofs.lemmas.List.Elements.{Contains-append_left}
use Rattle.db_image.specs.Draft.{Drafted}
use Rattle.db_image.specs.declared.faults.RecordFault.{RecordFault}
use Rattle.db_image.specs.declared.faults.RecordFault.TheVariants.{DiskFault, BadRecord, NoMemory}
use Rattle.db_image.specs.declared.images.ImageRead.{Ghosts}
use Rattle.db_blocks.specs.Blocks.{IsWhole, word_at}
use Rattle.db_blocks.specs.Ends.{HasCause, OnlyDrafts, OnlyLooks}
use Rattle.db_blocks.proofs.Scanned.{drafts_then}
use Rattle.db_chains.specs.Ends.{HasWord}
use Rattle.db_chains.proofs.Results.{err_same, ok_no_err}
use Rattle.prdb_layout.specs.Records.{whole as entries_whole}
use Rattle.prdb_layout.specs.Registry.{Registry}
use Rattle.prdb_layout.proofs.LaidOut.{whole_same as entries_same}
use Rattle.prdb_layout.proofs.Initial.{length-initial}
use Rattle.prdb_layout.proofs.Lengths.{fits_id}
use Rattle.entry_scans.specs.Lists.{IsAscending}
use Rattle.prdb_lists.specs.Changes.{place_in, relisted}
use Rattle.prdb_lists.specs.Layout.{HoldsPairs, PairList}
use Rattle.prdb_lists.specs.Lists.{ids_without}
use Rattle.prdb_lists.specs.Members.{Members}
use Rattle.prdb_lists.specs.Moves.{MayMove, after_move as plain_after_move, after_put_id, after_relist, after_relists, ids_moved, moved_members, moved_registry, with_id_word}
use Rattle.prdb_lists.specs.Sides.{IsPlace}
use Rattle.prdb_lists.specs.declared.sides.Place.{Place}
use Rattle.prdb_lists.proofs.Ascending.{ascending_apart, ascending_left, lt_same, not_self}
use Rattle.prdb_lists.proofs.ListFound.{whole_none}
use Rattle.prdb_lists.proofs.ListRead.{cause_so}
use Rattle.prdb_lists.proofs.MoveEnds.{one_list}
use Rattle.prdb_lists.proofs.Moved.{AreAll, image_is, move_holds, others_are}
use Rattle.prdb_lists.proofs.MovedIds.{length-moved, lists_stay, moved_list, moved_lists, not_without}
use Rattle.prdb_lists.proofs.Places.{list_at, list_is, stands}
use Rattle.prdb_lists.proofs.Relists.{relists_push}
use Rattle.prdb_lists.proofs.Written.{cause_same, drafts_so}
use Rattle.prdb_finds.specs.Ends.{HasCauseWhere, HasItsCause, HoldsSome}
use Rattle.prdb_finds.specs.Keys.{id_chain}
use Rattle.prdb_finds.specs.Places.{id_links, name_place, owned_place}
use Rattle.prdb_finds.specs.Records.{AreChains, Holds, whole}
use Rattle.prdb_finds.specs.Unchained.{unchained}
use Rattle.prdb_finds.proofs.Told.{whole_same}
use Rattle.prdb_finds.proofs.Without.{unchained_len}
use Rattle.prdb_entries.proofs.Linked.{ByName, Owned}
use Rattle.prdb_members.specs.Moves.{HasRelist, IsMoved, KeepsOrder, after_move, rechained}
use Rattle.prdb_members.specs.Sides.{HasEntry}
use Rattle.prdb_members.proofs.Ends.{Stands}
use Rattle.prdb_members.proofs.Found.{first_pairs}
use Rattle.prdb_members.proofs.Gains.{place_is}
use Rattle.prdb_members.proofs.Joined.{stands_on}
use Rattle.prdb_members.proofs.Kept.{chain_kept, word_in, words_kept}
use Rattle.prdb_members.proofs.Listed.{listed_at, lists_of, place_of}
use Rattle.prdb_members.proofs.Rechained.{HasMoved, moved}
use Rattle.prdb_members.proofs.Relists.{HasThese, relist_all, relist_is}
use Rattle.prdb_members.proofs.Renamed.{put_id_is}

-- ---- one list

-- what is written is the list with the new id
relist_made : (image : List ℕ) (p : Place) (old new x : ℤ) (ids : List ℤ) (more : List ℕ) → p.entry ≡ x → Stands (Some image) p
    → (¬ Contains (ids_without old p.listed.ids) new → ids ≡ ids_moved old new p.listed.ids) → more ≡ p.listed.more.items
    → HasRelist old new x image
    → relisted p.found.number p.entry p.found.block (record { ids = ids; more = more }) image ≡ after_relist old new x image
relist_made image p old new x ids more same at is_ids is_more q =
    let r = q.0 in
    let lists = q.1 in
    let may = q.2 in
    let here : IsPlace image r lists p = at r lists may.has in
    let l : list_at p ≡ lists x = list_is image r lists p x same here in
    let own : p.listed.ids ≡ (lists x).ids = ap (λ (m : PairList). m.ids) l in
    let fresh : ¬ Contains (ids_without old p.listed.ids) new =
    not_without old new p.listed.ids (λ has. may.new_out (subst (λ (i : List ℤ). Contains i new) own has)) in
    ap (λ (i : List ℤ). relisted p.found.number p.entry p.found.block (record { ids = i; more = more }) image) (is_ids fresh)
    ∙ ap (λ (m : List ℕ). relisted p.found.number p.entry p.found.block (record { ids = ids_moved old new p.listed.ids; more = m }) image)
    is_more
    ∙ ap (λ (m : PairList). relisted p.found.number p.entry p.found.block (moved_list old new m) image) l
    ∙ ap (λ (z : ℤ). relisted p.found.number z p.found.block (moved_list old new (lists x)) image) same
    ∙ ap (λ (b : List ℕ). relisted p.found.number x b (moved_list old new (lists x)) image) here.block
    ∙ sym (relist_is image r lists old new x p.found.number may.has (stands image r lists p x same here))

pub relist_ok : {T E : Type 0} (res : Result T E) (b c e : Option (List ℕ)) (p : Place) (old new x : ℤ) (ids : List ℤ) (more : List ℕ)
    → c ≡ b → p.entry ≡ x → Stands b p
    → (¬ Contains (ids_without old p.listed.ids) new → ids ≡ ids_moved old new p.listed.ids) → more ≡ p.listed.more.items
    → OnOk res (e ≡ option_map (relisted p.found.number p.entry p.found.block (record { ids = ids; more = more })) c)
    → OnOk res (IfSome b (λ image. HasRelist old new x image → e ≡ Some (after_relist old new x image)))
relist_ok (Err f) b c e p old new x ids more same first at is_ids is_more ok = tt
relist_ok (Ok v) None c e p old new x ids more same first at is_ids is_more ok = tt
relist_ok (Ok v) (Some image) c e p old new x ids more same first at is_ids is_more ok = λ q.
    ok ∙ ap (option_map (relisted p.found.number p.entry p.found.block (record { ids = ids; more = more }))) same
    ∙ ap Some (relist_made image p old new x ids more first at is_ids is_more q)

-- a list that is not longer than it was has too many ids only where there is none
relist_few : (b : Option (List ℕ)) (p : Place) (old new x : ℤ) (ids : List ℤ) → p.entry ≡ x → Stands b p
    → (¬ Contains (ids_without old p.listed.ids) new → ids ≡ ids_moved old new p.listed.ids)
    → IfSome b (λ image. HasRelist old new x image → length ids < 2 ^ 32)
relist_few None p old new x ids same at is_ids = tt
relist_few (Some image) p old new x ids same at is_ids = λ q.
    let r = q.0 in
    let lists = q.1 in
    let may = q.2 in
    let here : IsPlace image r lists p = at r lists may.has in
    let own : p.listed.ids ≡ (lists x).ids = ap (λ (m : PairList). m.ids) (list_is image r lists p x same here) in
    let fresh : ¬ Contains (ids_without old p.listed.ids) new =
    not_without old new p.listed.ids (λ has. may.new_out (subst (λ (i : List ℤ). Contains i new) own has)) in
    let listed = listed_at image r lists x p.found.number may.has (stands image r lists p x same here) in
    subst (λ (n : ℕ). n < 2 ^ 32)
    (sym (ap length (is_ids fresh) ∙ ap (λ (i : List ℤ). length (ids_moved old new i)) own
    ∙ length-moved old new (lists x).ids listed.ascending may.old_in)) listed.few

pub relist_err : {T : Type 0} (res : Result T RecordFault) (b c : Option (List ℕ)) (p : Place) (old new x : ℤ) (ids : List ℤ) → c ≡ b
    → p.entry ≡ x → Stands b p
    → (¬ Contains (ids_without old p.listed.ids) new → ids ≡ ids_moved old new p.listed.ids)
    → IfErr res (HasCause c (λ image. length ids < 2 ^ 32))
    → IfErr res (HasCause b (HasRelist old new x))
relist_err (Ok v) b c p old new x ids same first at is_ids cause = tt
relist_err (Err fault) b c p old new x ids same first at is_ids cause =
    cause_so b (λ image. length ids < 2 ^ 32) (HasRelist old new x) fault (cause_same b c (λ image. length ids < 2 ^ 32) fault same cause)
    (relist_few b p old new x ids first at is_ids)

relist_entry : (b : Option (List ℕ)) (old new x : ℤ) → IfSome b (λ image. HasRelist old new x image → HasEntry x image)
relist_entry None old new x = tt
relist_entry (Some image) old new x = λ q. (q.0, q.1, q.2.has, q.2.there)

pub relist_place : (b : Option (List ℕ)) (old new x : ℤ) (fault : RecordFault) → HasCause b (HasEntry x) fault
    → HasCause b (HasRelist old new x) fault
relist_place b old new x fault cause = cause_so b (HasEntry x) (HasRelist old new x) fault cause (relist_entry b old new x)

-- ---- the entry's own blocks

put_id_made : (image : List ℕ) (p : Place) (old new : ℤ) (block : List ℕ) (ids : List ℤ) (more : List ℕ) → p.entry ≡ old
    → Stands (Some image) p
    → block ≡ with_id_word new p.found.block → ids ≡ p.listed.ids → more ≡ p.listed.more.items → HasEntry old image
    → relisted p.found.number new block (record { ids = ids; more = more }) image ≡ after_put_id old new image
put_id_made image p old new block ids more same at is_block is_ids is_more q =
    let r = q.0 in
    let lists = q.1 in
    let here : IsPlace image r lists p = at r lists q.2 in
    ap (λ (i : List ℤ). relisted p.found.number new block (record { ids = i; more = more }) image) is_ids
    ∙ ap (λ (m : List ℕ). relisted p.found.number new block (record { ids = p.listed.ids; more = m }) image) is_more
    ∙ ap (λ (l : PairList). relisted p.found.number new block l image) (list_is image r lists p old same here)
    ∙ ap (λ (b : List ℕ). relisted p.found.number new b (lists old) image) (is_block ∙ ap (with_id_word new) here.block)
    ∙ sym (put_id_is image r lists old new p.found.number q.2 (stands image r lists p old same here))

pub put_id_ok : (b c e : Option (List ℕ)) (p : Place) (old new : ℤ) (block : List ℕ) (ids : List ℤ) (more : List ℕ) → c ≡ b
    → p.entry ≡ old → Stands b p → block ≡ with_id_word new p.found.block → ids ≡ p.listed.ids → more ≡ p.listed.more.items
    → e ≡ option_map (relisted p.found.number new block (record { ids = ids; more = more })) c
    → IfSome b (λ image. HasEntry old image → e ≡ Some (after_put_id old new image))
put_id_ok None c e p old new block ids more same first at is_block is_ids is_more ok = tt
put_id_ok (Some image) c e p old new block ids more same first at is_block is_ids is_more ok = λ q.
    ok ∙ ap (option_map (relisted p.found.number new block (record { ids = ids; more = more }))) same
    ∙ ap Some (put_id_made image p old new block ids more first at is_block is_ids is_more q)

pub put_number : (b : Option (List ℕ)) (p : Place) (old : ℤ) → p.entry ≡ old → Stands b p
    → IfSome b (λ image. HasEntry old image → p.found.number + 1 ≡ place_in image old + 1)
put_number None p old same at = tt
put_number (Some image) p old same at = λ q.
    let here : IsPlace image q.0 q.1 p = at q.0 q.1 q.2 in
    let is = place_is image q.0 q.1 old p.found.number q.2 (stands image q.0 q.1 p old same here) in omega (arith, is)

put_id_few : (b : Option (List ℕ)) (p : Place) (old : ℤ) (ids : List ℤ) → p.entry ≡ old → Stands b p → ids ≡ p.listed.ids
    → IfSome b (λ image. HasEntry old image → length ids < 2 ^ 32)
put_id_few None p old ids same at is_ids = tt
put_id_few (Some image) p old ids same at is_ids = λ q.
    let here : IsPlace image q.0 q.1 p = at q.0 q.1 q.2 in
    let own : p.listed.ids ≡ (q.1 old).ids = ap (λ (m : PairList). m.ids) (list_is image q.0 q.1 p old same here) in
    let listed = listed_at image q.0 q.1 old p.found.number q.2 (stands image q.0 q.1 p old same here) in
    subst (λ (n : ℕ). n < 2 ^ 32) (sym (ap length (is_ids ∙ own))) listed.few

pub put_id_fault : (b c : Option (List ℕ)) (p : Place) (old : ℤ) (ids : List ℤ) (fault : RecordFault) → c ≡ b
    → p.entry ≡ old → Stands b p → ids ≡ p.listed.ids
    → HasCause c (λ image. length ids < 2 ^ 32) fault → HasCause b (HasEntry old) fault
put_id_fault b c p old ids fault same first at is_ids cause =
    cause_so b (λ image. length ids < 2 ^ 32) (HasEntry old) fault (cause_same b c (λ image. length ids < 2 ^ 32) fault same cause)
    (put_id_few b p old ids first at is_ids)

-- ---- the answer of a call, handed on as that of another one

pub drafts_err : {I T U : Type 0} (g : Ghosts I) (a b : Drafted I) (x d : RecordFault)
    → OnlyDrafts g a b (◌≡◌ {A = Result T RecordFault} (Err x) (Err d)) → OnlyDrafts g a b (◌≡◌ {A = Result U RecordFault} (Err x) (Err d))
drafts_err {T = T} {U = U} g a b x d r =
    drafts_so g a b (◌≡◌ {A = Result T RecordFault} (Err x) (Err d)) (◌≡◌ {A = Result U RecordFault} (Err x) (Err d)) r
    (λ (h : ◌≡◌ {A = Result U RecordFault} (Err x) (Err d)).
    err_same {T = T} {U = U} {E = RecordFault} (Err x) (Err x) x x d refl refl refl h)

pub drafts_ok : {I T U : Type 0} (g : Ghosts I) (a b : Drafted I) (x : T) (y : U) (d : RecordFault)
    → OnlyDrafts g a b (◌≡◌ {A = Result T RecordFault} (Ok x) (Err d)) → OnlyDrafts g a b (◌≡◌ {A = Result U RecordFault} (Ok y) (Err d))
drafts_ok {T = T} {U = U} g a b x y d r =
    drafts_so g a b (◌≡◌ {A = Result T RecordFault} (Ok x) (Err d)) (◌≡◌ {A = Result U RecordFault} (Ok y) (Err d)) r
    (λ (h : ◌≡◌ {A = Result U RecordFault} (Ok y) (Err d)). absurd (ok_no_err {E = RecordFault} (Ok y) y d refl h))

-- ---- all steps

-- of each state that the first bytes hold
abbrev pub InMoves : Option (List ℕ) → (old new : ℤ) → ((image : List ℕ) → (r : Registry) → (m : Members) → Type 0) → Type 0
InMoves bytes old new says =
    IfSome bytes (λ image. (r : Registry) (m : Members) → Holds image r m → MayMove old new r → says image r m)

abbrev pub FindsAll : Option (List ℕ) → ℤ → List ℤ → Type 0
FindsAll bytes old others = IfSome bytes (λ image. (r : Registry) (m : Members) → Holds image r m → AreAll m old others)

-- the image when so many of the others have the new id in their lists
abbrev pub midst : (old new : ℤ) → (others : List ℤ) → (done : ℕ) → List ℕ → List ℕ
midst old new others done image = after_relists old new (take done others) (whole image)

pub record Moving {I : Type 0} (g : Ghosts I) (first now : Drafted I) (old new : ℤ) (others : List ℤ) (done : ℕ) : Type 0 where
  pub frame : OnlyDrafts g first now ⊥
  pub len : now.len ≡ first.len
  pub bytes : InMoves first.bytes old new (λ image r m. now.bytes ≡ Some (midst old new others done image))

-- the empty image holds fixed entries alone, which keep their ids
pub whole_is : (image : List ℕ) (r : Registry) (m : Members) (old new : ℤ) → Holds image r m → MayMove old new r → whole image ≡ image
whole_is [] r m old new h may =
    let none : entries_whole [] ≡ [] = image_is [] r m old new (first_pairs r m h) may in
    let size = ap length (sym whole_none ∙ none) in absurd (omega (arith, size, length-initial))
whole_is (byte ∷ bytes) r m old new h may = whole_same (byte ∷ bytes) (omega arith)

first_bytes : (a b : Option (List ℕ)) (old new : ℤ) → b ≡ a → InMoves a old new (λ image r m. b ≡ Some (whole image))
first_bytes None b old new same = tt
first_bytes (Some image) b old new same = λ r m h may. same ∙ ap Some (sym (whole_is image r m old new h may))

pub moving_none : {I : Type 0} (g : Ghosts I) (a b : Drafted I) (old new : ℤ) (others : List ℤ) (failed : Type 0) → OnlyLooks g a b failed
    → Moving g a b old new others 0
moving_none g a b old new others failed looks = record {
  frame = drafts_so g a b failed ⊥ (record { layout = looks.same.layout; reads = looks.reads }) (λ h. absurd h);
  len = looks.same.len;
  bytes = first_bytes a.bytes b.bytes old new looks.same.bytes;
}

-- ---- after some of the others

front_has : (i : ℕ) (xs : List ℤ) (y : ℤ) → Contains (take i xs) y → Contains xs y
front_has i xs y has = subst (λ (l : List ℤ). Contains l y) (take-append-drop i xs) (Contains-append_left (take i xs) (drop i xs) y has)

front_rises : (i : ℕ) (xs : List ℤ) → IsAscending xs → IsAscending (take i xs)
front_rises i xs rises = ascending_left (take i xs) (drop i xs) (subst IsAscending (sym (take-append-drop i xs)) rises)

no_more : (i : ℕ) → i + 0 ≡ i
no_more i = omega arith

-- the next one is none of those before it
front_not : (i : ℕ) (xs : List ℤ) (x : ℤ) → IsAscending xs → i < length xs → x ≡ get_or xs i x → Contains (take i xs) x → ⊥
front_not i xs x rises below is has =
    let apart = ascending_apart (take i xs) (drop i xs) (subst IsAscending (sym (take-append-drop i xs)) rises) in
    let here : get_or (drop i xs) 0 x ≡ x = get_or-drop i xs 0 x ∙ ap (λ (n : ℕ). get_or xs n x) (no_more i) ∙ sym is in
    let some : 0 < length (drop i xs) = omega (arith, length-drop i xs) in
    not_self x (lt_same (get_or (take i xs) has.0 x) (get_or (drop i xs) 0 x) x x (sym has.2) (sym here) (apart has.0 0 x has.1 some))

pub midst_has : (image : List ℕ) (r : Registry) (m : Members) (old new : ℤ) (others : List ℤ) (i : ℕ) (h : Holds image r m)
    → MayMove old new r → AreAll m old others
    → HasThese (whole image) (midst old new others i image) (after_relists old new (take i others) (unchained (whole image))) r
    (moved_lists old new (take i others) h.pairs.lists)
midst_has image r m old new others i h may list =
    let are = others_are (unchained (whole image)) r m old new others h.pairs may list in
    relist_all (take i others) (whole image) r h.pairs.lists old new (lists_of image r m h) (fits_id new may.good)
    (front_rises i others list.ascending) (λ y has. are y (front_has i others y has))

midst_may : (image : List ℕ) (r : Registry) (m : Members) (old new : ℤ) (others : List ℤ) (i : ℕ) (x : ℤ) (h : Holds image r m)
    → MayMove old new r → AreAll m old others → i < length others → x ≡ get_or others i x
    → HasRelist old new x (midst old new others i image)
midst_may image r m old new others i x h may list below is =
    let has : Contains others x = (i, below, sym is) in
    let are = others_are (unchained (whole image)) r m old new others h.pairs may list x has in
    let stays = lists_stay old new (take i others) h.pairs.lists x (front_not i others x list.ascending below is) in (
      r,
      moved_lists old new (take i others) h.pairs.lists,
      record {
        has = (midst_has image r m old new others i h may list).has;
        there = are.0;
        old_in = subst (λ (l : PairList). Contains l.ids old) (sym stays) are.1;
        new_out = λ has_new. are.2 (subst (λ (l : PairList). Contains l.ids new) stays has_new);
      },
    )

-- one of the others
pub other_is : (others : List ℤ) (i : ℕ) → i < length others → get_or others i (pos 0) ≡ get_or others i (get_or others i (pos 0))
other_is others i below = sym (get_or_default others i (get_or others i (pos 0)) (pos 0) below)

one_more_done : (others : List ℤ) (i : ℕ) (x : ℤ) → i < length others → x ≡ get_or others i x
    → take (i + 1) others ≡ take i others ++ x ∷ []
one_more_done others i x below is =
    let next : i + 1 ≡ suc i = omega arith in
    ap (λ (n : ℕ). take n others) next ∙ take-suc others i x below ∙ ap (λ (y : ℤ). take i others ++ y ∷ []) (sym is)

next_bytes : (a b c : Option (List ℕ)) (old new : ℤ) (others : List ℤ) (i : ℕ) (x : ℤ) → FindsAll a old others → i < length others
    → x ≡ get_or others i x
    → InMoves a old new (λ image r m. b ≡ Some (midst old new others i image))
    → IfSome b (λ image. HasRelist old new x image → c ≡ Some (after_relist old new x image))
    → InMoves a old new (λ image r m. c ≡ Some (midst old new others (i + 1) image))
next_bytes None b c old new others i x list below is now one = tt
next_bytes (Some image) b c old new others i x list below is now one = λ r m h may.
    let made = subst (λ (o : Option (List ℕ)). IfSome o (λ j. HasRelist old new x j → c ≡ Some (after_relist old new x j)))
    (now r m h may) one in
    made (midst_may image r m old new others i x h may (list r m h) below is)
    ∙ ap Some
    (sym (relists_push old new (take i others) x (whole image))
    ∙ ap (λ (l : List ℤ). after_relists old new l (whole image)) (sym (one_more_done others i x below is)))

pub moving_more : {I : Type 0} (g : Ghosts I) (first now next : Drafted I) (old new : ℤ) (others : List ℤ) (i : ℕ) (x : ℤ) (failed : Type 0)
    → Moving g first now old new others i
    → FindsAll first.bytes old others → i < length others → x ≡ get_or others i x
    → IfSome now.bytes (λ image. HasRelist old new x image → next.bytes ≡ Some (after_relist old new x image)) → next.len ≡ now.len
    → OnlyDrafts g now next failed
    → Moving g first next old new others (i + 1)
moving_more g first now next old new others i x failed s list below is one len drafts = record {
  frame = drafts_then g first now next ⊥ ⊥ s.frame (drafts_so g now next failed ⊥ drafts (λ h. absurd h));
  len = len ∙ s.len;
  bytes = next_bytes first.bytes now.bytes next.bytes old new others i x list below is s.bytes one;
}

-- ---- the last steps

last_has : (image : List ℕ) (r : Registry) (m : Members) (old new : ℤ) (others : List ℤ) (i : ℕ) → Holds image r m
    → MayMove old new r → AreAll m old others → HasEntry old (midst old new others i image)
last_has image r m old new others i h may list =
    (r, moved_lists old new (take i others) h.pairs.lists, (midst_has image r m old new others i h may list).has, may.there)

-- what holds of an image with the entry holds after all of the others
pub put_done : (P : List ℕ → Type 0) (a b : Option (List ℕ)) (old new : ℤ) (others : List ℤ) (i : ℕ) → FindsAll a old others
    → InMoves a old new (λ image r m. b ≡ Some (midst old new others i image)) → IfSome b (λ image. HasEntry old image → P image)
    → InMoves a old new (λ image r m. P (midst old new others i image))
put_done P None b old new others i list now one = tt
put_done P (Some image) b old new others i list now one = λ r m h may.
    let made = subst (λ (o : Option (List ℕ)). IfSome o (λ j. HasEntry old j → P j)) (now r m h may) one in
    made (last_has image r m old new others i h may (list r m h))

-- the block goes from the one chain to the other
midst_moves : (image : List ℕ) (r : Registry) (m : Members) (old new : ℤ) (others : List ℤ) (i : ℕ) (h : Holds image r m)
    → MayMove old new r → AreAll m old others
    → HasMoved (midst old new others i image) (after_put_id old new (midst old new others i image))
    (after_put_id old new (after_relists old new (take i others) (unchained (whole image)))) old new
    (place_in (midst old new others i image) old + 1)
midst_moves image r m old new others i h may list =
    let mid = midst old new others i image in
    let lists = moved_lists old new (take i others) h.pairs.lists in
    let these = midst_has image r m old new others i h may list in
    let p = place_of mid r lists old these.has may.there in
    let place : place_in mid old ≡ p.k = place_is mid r lists old p.k these.has p.at in
    let plain = after_relists old new (take i others) (unchained (whole image)) in
    subst (λ (k : ℕ). HasMoved mid (after_put_id old new mid) (after_put_id old new plain) old new (k + 1)) (sym place)
    (subst (λ (v : List ℕ). HasMoved mid (after_put_id old new mid) (after_put_id old new v) old new (p.k + 1)) these.same
    (moved mid r lists old new p.k these.has may p.at))

all_moves : (image : List ℕ) (r : Registry) (m : Members) (old new : ℤ) (others : List ℤ) (h : Holds image r m) → MayMove old new r
    → AreAll m old others
    → HasMoved (after_relists old new others (whole image)) (after_put_id old new (after_relists old new others (whole image)))
    (after_put_id old new (after_relists old new others (unchained (whole image)))) old new
    (place_in (after_relists old new others (whole image)) old + 1)
all_moves image r m old new others h may list =
    let w = whole image in
    let u = unchained w in
    let n = length others in
    subst (λ (xs : List ℤ). HasMoved (after_relists old new xs w) (after_put_id old new (after_relists old new xs w))
    (after_put_id old new (after_relists old new xs u)) old new (place_in (after_relists old new xs w) old + 1))
    (take_all n others (omega arith)) (midst_moves image r m old new others n h may list)

pub move_held : (image : List ℕ) (r : Registry) (m : Members) (old new : ℤ) (others : List ℤ) (h : Holds image r m) → MayMove old new r
    → AreAll m old others → Holds (after_move old new others image) (moved_registry old new r) (moved_members old new m)
unfolding after_move plain_after_move
move_held image r m old new others h may list =
    let u = unchained (whole image) in
    let mid = after_relists old new others (whole image) in
    let made = rechained old new (place_in mid old + 1) (after_put_id old new mid) in
    let full = all_moves image r m old new others h may list in
    let plain = move_holds u r m old new others h.pairs may list in
    let u_same : entries_whole u ≡ u = entries_same u (omega (arith, unchained_len (whole image) h.size)) in
    let pairs : HoldsPairs (unchained made) (moved_registry old new r) (moved_members old new m) =
    subst (λ (i : List ℕ). HoldsPairs i (moved_registry old new r) (moved_members old new m))
    (ap (λ (i : List ℕ). after_put_id old new (after_relists old new others i)) u_same ∙ sym full.same) plain in
    let same : whole made ≡ made = whole_same made (omega (arith, full.size)) in
    record {
      size = subst (IsWhole 2112) (sym same) full.size;
      pairs = subst (λ (i : List ℕ). HoldsPairs (unchained i) (moved_registry old new r) (moved_members old new m)) (sym same) pairs;
      chains = subst AreChains (sym same) full.chains;
    }

-- ---- what its block is in the chains

all_relisted : (image : List ℕ) (r : Registry) (m : Members) (old new : ℤ) (others : List ℤ) (h : Holds image r m) → MayMove old new r
    → AreAll m old others
    → HasThese (whole image) (after_relists old new others (whole image)) (after_relists old new others (unchained (whole image))) r
    (moved_lists old new others h.pairs.lists)
all_relisted image r m old new others h may list =
    let w = whole image in
    subst (λ (xs : List ℤ). HasThese w (after_relists old new xs w) (after_relists old new xs (unchained w)) r
    (moved_lists old new xs h.pairs.lists)) (take_all (length others) others (omega arith))
    (midst_has image r m old new others (length others) h may list)

pub move_ordered : (image : List ℕ) (r : Registry) (m : Members) (old new : ℤ) (others : List ℤ) → Holds image r m → MayMove old new r
    → AreAll m old others → KeepsOrder (whole image) (after_move old new others image)
unfolding after_move
move_ordered image r m old new others h may list =
    let w = whole image in
    let mid = after_relists old new others w in
    let keeps = (all_relisted image r m old new others h may list).keeps in
    let full = all_moves image r m old new others h may list in
    record {
      names = λ key low ws chain.
          full.order (ByName key) low (λ same. omega (arith, same)) ws
          (chain_kept 96 w mid (name_place key) ws (omega arith) (omega arith) (words_kept w mid keeps)
          (keeps.head (name_place key) (omega arith) (omega arith)) chain);
      owned = λ k below kind ws chain.
          let first : word_at mid (owned_place k) ≡ word_at w (owned_place k) =
          sym (word_in mid k 108 (omega arith)) ∙ keeps.words k 108 below kind (omega arith) (omega arith)
          ∙ word_in w k 108 (omega arith) in
          full.order (Owned k) (record { below = omega (arith, below, keeps.longer); kind = keeps.kind k below kind })
          (λ same. omega (arith, same)) ws
          (chain_kept 104 w mid (owned_place k) ws (omega arith) (omega arith) (words_kept w mid keeps) first chain);
    }

pub move_first : (image : List ℕ) (r : Registry) (m : Members) (old new : ℤ) (others : List ℤ) → Holds image r m → MayMove old new r
    → AreAll m old others → word_at (after_move old new others image) (id_chain new) ≡ place_in (whole image) old + 1
unfolding after_move
move_first image r m old new others h may list =
    let w = whole image in
    let mid = after_relists old new others w in
    let hl = lists_of image r m h in
    let these = all_relisted image r m old new others h may list in
    let full = all_moves image r m old new others h may list in
    let p = place_of w r h.pairs.lists old hl may.there in
    let now = stands_on w mid old p.k these.keeps p.at in
    let there : place_in mid old ≡ p.k = place_is mid r (moved_lists old new others h.pairs.lists) old p.k these.has now in
    let was : place_in w old ≡ p.k = place_is w r h.pairs.lists old p.k hl p.at in
    full.first ∙ ap (λ (k : ℕ). k + 1) (there ∙ sym was)

last_bytes : (image : List ℕ) (r : Registry) (m : Members) (old new : ℤ) (others : List ℤ) (i n : ℕ) (c e : Option (List ℕ))
    → length others ≤ i → c ≡ Some (after_put_id old new (midst old new others i image))
    → n ≡ place_in (midst old new others i image) old + 1 → e ≡ option_map (rechained old new n) c
    → e ≡ Some (after_move old new others image)
unfolding after_move
last_bytes image r m old new others i n c e past put number made =
    made ∙ ap (option_map (rechained old new n)) put
    ∙ ap (λ (k : ℕ). Some (rechained old new k (after_put_id old new (midst old new others i image)))) number
    ∙ ap (λ (l : List ℤ). Some (rechained old new (place_in (after_relists old new l (whole image)) old + 1)
    (after_put_id old new (after_relists old new l (whole image))))) (take_all i others past)

pub moved_ok : {T E : Type 0} (res : Result T E) (a c e : Option (List ℕ)) (old new : ℤ) (others : List ℤ) (i n : ℕ) → FindsAll a old others
    → length others ≤ i
    → InMoves a old new (λ image r m. c ≡ Some (after_put_id old new (midst old new others i image)))
    → InMoves a old new (λ image r m. n ≡ place_in (midst old new others i image) old + 1)
    → OnOk res (e ≡ option_map (rechained old new n) c)
    → OnOk res (InMoves a old new (λ image r m. IsMoved old new m image e))
moved_ok (Err f) a c e old new others i n list past put number ok = tt
moved_ok (Ok v) None c e old new others i n list past put number ok = tt
moved_ok (Ok v) (Some image) c e old new others i n list past put number ok = λ r m h may all is_all.
    last_bytes image r m old new others i n c e past (put r m h may) (number r m h may) ok
    ∙ ap (λ (l : List ℤ). Some (after_move old new l image)) (one_list m old others all (list r m h) is_all)

pub moved_holds : {T E : Type 0} (res : Result T E) (a e : Option (List ℕ)) (old new : ℤ) (others : List ℤ) → FindsAll a old others
    → OnOk res (InMoves a old new (λ image r m. IsMoved old new m image e))
    → OnOk res (InMoves a old new (λ image r m. IsSomeAnd e (λ after. Holds after (moved_registry old new r) (moved_members old new m))))
moved_holds (Err f) a e old new others list ok = tt
moved_holds (Ok v) None e old new others list ok = tt
moved_holds (Ok v) (Some image) e old new others list ok = λ r m h may.
    subst (λ (o : Option (List ℕ)). IsSomeAnd o (λ after. Holds after (moved_registry old new r) (moved_members old new m)))
    (sym (ok r m h may others (list r m h))) (move_held image r m old new others h may (list r m h))

-- ---- faults

-- a bad record in the midst says something of the image at first
midst_fault : (F : List ℕ → List ℕ) (a b : Option (List ℕ)) (old new : ℤ) (P : List ℕ → Type 0) (fault : RecordFault)
    → InMoves a old new (λ image r m. b ≡ Some (F image)) → InMoves a old new (λ image r m. P (F image)) → HasCause b P fault
    → HasCauseWhere (λ r m. MayMove old new r) a fault
midst_fault F a b old new P DiskFault now holds cause = tt
midst_fault F a b old new P NoMemory now holds cause = tt
midst_fault F None b old new P (BadRecord at) now holds cause = tt
midst_fault F (Some image) b old new P (BadRecord at) now holds cause = λ q.
    let none = subst (λ (o : Option (List ℕ)). HasCause o P (BadRecord at)) (now q.0 q.1 q.2 q.3) cause in
    none (holds q.0 q.1 q.2 q.3)

relists_hold : (a : Option (List ℕ)) (old new : ℤ) (others : List ℤ) (i : ℕ) (x : ℤ) → FindsAll a old others → i < length others
    → x ≡ get_or others i x → InMoves a old new (λ image r m. HasRelist old new x (midst old new others i image))
relists_hold None old new others i x list below is = tt
relists_hold (Some image) old new others i x list below is = λ r m h may. midst_may image r m old new others i x h may (list r m h) below is

pub relist_fault : (a b : Option (List ℕ)) (old new : ℤ) (others : List ℤ) (i : ℕ) (x : ℤ) (fault : RecordFault) → FindsAll a old others
    → i < length others → x ≡ get_or others i x
    → InMoves a old new (λ image r m. b ≡ Some (midst old new others i image))
    → HasCause b (HasRelist old new x) fault → HasCauseWhere (λ r m. MayMove old new r) a fault
relist_fault a b old new others i x fault list below is now cause =
    midst_fault (midst old new others i) a b old new (HasRelist old new x) fault now (relists_hold a old new others i x list below is) cause

entries_hold : (a : Option (List ℕ)) (old new : ℤ) (others : List ℤ) (i : ℕ) → FindsAll a old others
    → InMoves a old new (λ image r m. HasEntry old (midst old new others i image))
entries_hold None old new others i list = tt
entries_hold (Some image) old new others i list = λ r m h may. last_has image r m old new others i h may (list r m h)

pub put_fault : (a b : Option (List ℕ)) (old new : ℤ) (others : List ℤ) (i : ℕ) (fault : RecordFault) → FindsAll a old others
    → InMoves a old new (λ image r m. b ≡ Some (midst old new others i image)) → HasCause b (HasEntry old) fault
    → HasCauseWhere (λ r m. MayMove old new r) a fault
put_fault a b old new others i fault list now cause =
    midst_fault (midst old new others i) a b old new (HasEntry old) fault now (entries_hold a old new others i list) cause

words_hold : (a : Option (List ℕ)) (old new : ℤ) (others : List ℤ) (i n : ℕ) → FindsAll a old others
    → InMoves a old new (λ image r m. n ≡ place_in (midst old new others i image) old + 1)
    → InMoves a old new (λ image r m. HasWord id_links (id_chain old) n (after_put_id old new (midst old new others i image)))
words_hold None old new others i n list number = tt
words_hold (Some image) old new others i n list number = λ r m h may.
    subst (λ (k : ℕ). HasWord id_links (id_chain old) k (after_put_id old new (midst old new others i image))) (sym (number r m h may))
    (midst_moves image r m old new others i h may (list r m h)).word

pub rechain_err : {T : Type 0} (res : Result T RecordFault) (a c : Option (List ℕ)) (old new : ℤ) (others : List ℤ) (i n : ℕ)
    → FindsAll a old others
    → InMoves a old new (λ image r m. c ≡ Some (after_put_id old new (midst old new others i image)))
    → InMoves a old new (λ image r m. n ≡ place_in (midst old new others i image) old + 1)
    → IfErr res (HasCause c (HasWord id_links (id_chain old) n)) → IfErr res (HasCauseWhere (λ r m. MayMove old new r) a)
rechain_err (Ok v) a c old new others i n list put number cause = tt
rechain_err (Err fault) a c old new others i n list put number cause =
    midst_fault (λ image. after_put_id old new (midst old new others i image)) a c old new (HasWord id_links (id_chain old) n) fault put
    (words_hold a old new others i n list number) cause

some_state : (a : Option (List ℕ)) (old new : ℤ)
    → IfSome a (λ image. ((r : Registry) × (m : Members) × Holds image r m × MayMove old new r) → HoldsSome image)
some_state None old new = tt
some_state (Some image) old new = λ q. (q.0, q.1, q.2)

pub elements_fault : (a : Option (List ℕ)) (old new : ℤ) (fault : RecordFault) → HasItsCause a fault
    → HasCauseWhere (λ r m. MayMove old new r) a fault
elements_fault a old new fault cause =
    cause_so a HoldsSome (λ image. (r : Registry) × (m : Members) × Holds image r m × MayMove old new r) fault cause
    (some_state a old new)
