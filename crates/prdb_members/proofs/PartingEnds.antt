-- What the pairs of an entry that go make of a draft, and why they do not go.
use Rattle.std.proofs.Common.{◌≡◌, true, ℕ, ℤ, suc, ◌+◌, ◌^◌, ◌<◌, ◌≤◌, List, [], ◌∷◌, length, get_or, drop, add-one, Option, Some, None, IfSome, Result, Ok, Err, OnOk, IfErr, refl, sym, ap, subst, ◌∙◌, arith}
use Rattle.std.specs.Prelude.{IsSomeAnd}
use Rattle.std.specs.Option.{option_map}
use Rattle.std.proofs.Math.Seq.{drop-cons}
use Rattle.std.proofs.lemmas.List.{drop_all, get_or_default}
use Rattle.db_image.specs.Draft.{Drafted}
use Rattle.db_image.specs.declared.faults.RecordFault.{RecordFault}
use Rattle.db_image.specs.declared.faults.RecordFault.TheVariants.{DiskFault, BadRecord, NoMemory}
use Rattle.db_image.specs.declared.images.ImageRead.{Ghosts}
use Rattle.db_blocks.specs.Ends.{HasCause, OnlyDrafts}
use Rattle.db_blocks.proofs.Scanned.{drafts_then}
use Rattle.db_chains.specs.Ends.{HasSome}
use Rattle.db_chains.specs.Free.{IsNumber, free_links, with_freed as with_free_block}
use Rattle.db_chains.specs.declared.free_blocks.FreeBlocks.{FreeBlocks}
use Rattle.prdb_layout.specs.Registry.{Registry}
use Rattle.entry_scans.specs.Lists.{IsListOf}
use Rattle.prdb_lists.specs.Blocks.{AreWithin}
use Rattle.prdb_lists.specs.Changes.{relisted}
use Rattle.prdb_lists.specs.Layout.{PairList}
use Rattle.prdb_lists.specs.Members.{Members, are_paired}
use Rattle.prdb_lists.specs.Sides.{IsPlace}
use Rattle.prdb_lists.specs.declared.sides.Place.{Place}
use Rattle.prdb_lists.proofs.ListRead.{cause_so}
use Rattle.prdb_lists.proofs.MoveEnds.{one_list}
use Rattle.prdb_lists.proofs.Places.{list_at, list_is, stands}
use Rattle.prdb_lists.proofs.Written.{cause_same, drafts_none, drafts_so}
use Rattle.prdb_finds.specs.Ends.{HasItsCause}
use Rattle.prdb_finds.specs.Places.{free_blocks}
use Rattle.prdb_finds.specs.Records.{Holds}
use Rattle.prdb_members.specs.Changes.{after_each, after_parts, lost, no_ids, with_all_freed, without_id, without_id_in, without_ids}
use Rattle.prdb_members.specs.Ends.{without_pairs_of}
use Rattle.prdb_members.specs.Sides.{CanEach, CanFree, CanLose, HasEntry, HasFreeChain, HasInList, HoldsPlace}
use Rattle.prdb_members.proofs.Emptied.{can_free, emptied_is}
use Rattle.prdb_members.proofs.Ends.{Stands}
use Rattle.prdb_members.proofs.Losses.{lost_is}
use Rattle.prdb_members.proofs.PartedAll.{can_lose, entry_of, parts_hold}

-- ---- one change after the other

-- an image from which the rest of the changes leads to what all of them lead to
pub record IsAmid {X : Type 0} (may : X → List ℕ → Type 0) (change : X → List ℕ → List ℕ) (xs : List X) (done : ℕ) (image : List ℕ)
    (now : Option (List ℕ)) : Type 0 where
  pub at : List ℕ
  pub bytes : now ≡ Some at
  pub can : CanEach may change (drop done xs) at
  pub rest : after_each change (drop done xs) at ≡ after_each change xs image

abbrev pub AreAmid : {X : Type 0} → (X → List ℕ → Type 0) → (X → List ℕ → List ℕ) → (xs : List X) → (done : ℕ)
    → (first now : Option (List ℕ)) → Type 0
AreAmid may change xs done first now = IfSome first (λ image. CanEach may change xs image → IsAmid may change xs done image now)

pub record Going {X : Type 0} {I : Type 0} (g : Ghosts I) (first now : Drafted I) (may : X → List ℕ → Type 0)
    (change : X → List ℕ → List ℕ) (xs : List X) (done : ℕ) : Type 0 where
  pub frame : OnlyDrafts g first now ⊥
  pub len : now.len ≡ first.len
  pub each : AreAmid may change xs done first.bytes now.bytes

amid_none : {X : Type 0} (b : Option (List ℕ)) (may : X → List ℕ → Type 0) (change : X → List ℕ → List ℕ) (xs : List X)
    → AreAmid may change xs 0 b b
amid_none None may change xs = tt
amid_none (Some image) may change xs = λ can. record { at = image; bytes = refl; can = can; rest = refl }

pub going_none : {X : Type 0} {I : Type 0} (g : Ghosts I) (first : Drafted I) (may : X → List ℕ → Type 0)
    (change : X → List ℕ → List ℕ) (xs : List X) → Going g first first may change xs 0
going_none g first may change xs = record { frame = drafts_none g first; len = refl; each = amid_none first.bytes may change xs }

cut : {X : Type 0} (xs : List X) (done : ℕ) (x : X) → done < length xs → x ≡ get_or xs done x → drop done xs ≡ x ∷ drop (done + 1) xs
cut {X} xs done x below is = rw add-one (drop-cons xs done x below ∙ ap (λ (z : X). z ∷ drop (suc done) xs) (sym is))

some_at : (bytes : Option (List ℕ)) (at : List ℕ) (P : List ℕ → Type 0) → bytes ≡ Some at → IfSome bytes P → P at
some_at bytes at P is all = subst (λ (b : Option (List ℕ)). IfSome b P) is all

amid_more : {X : Type 0} (first now next : Option (List ℕ)) (may : X → List ℕ → Type 0) (change : X → List ℕ → List ℕ) (xs : List X)
    (done : ℕ) (x : X) → done < length xs → x ≡ get_or xs done x
    → IfSome now (λ image. may x image → next ≡ Some (change x image)) → AreAmid may change xs done first now
    → AreAmid may change xs (done + 1) first next
amid_more None now next may change xs done x below is made so = tt
amid_more {X} (Some image) now next may change xs done x below is made so = λ all.
    let p = so all in
    let c = cut xs done x below is in
    let can : CanEach may change (x ∷ drop (done + 1) xs) p.at = subst (λ (ys : List X). CanEach may change ys p.at) c p.can in
    record {
      at = change x p.at;
      bytes = some_at now p.at (λ i. may x i → next ≡ Some (change x i)) p.bytes made can.0;
      can = can.1;
      rest = ap (λ (ys : List X). after_each change ys p.at) (sym c) ∙ p.rest;
    }

pub going_more : {X : Type 0} {I : Type 0} (g : Ghosts I) (first now next : Drafted I) (may : X → List ℕ → Type 0)
    (change : X → List ℕ → List ℕ) (xs : List X) (done : ℕ) (x : X) (failed : Type 0) → OnlyDrafts g now next failed
    → next.len ≡ now.len → IfSome now.bytes (λ image. may x image → next.bytes ≡ Some (change x image)) → x ≡ get_or xs done x
    → done < length xs → Going g first now may change xs done → Going g first next may change xs (done + 1)
going_more g first now next may change xs done x failed drafts len made is below p = record {
  frame = drafts_so g first next failed ⊥ (drafts_then g first now next ⊥ failed p.frame drafts) (λ h. absurd h);
  len = len ∙ p.len;
  each = amid_more first.bytes now.bytes next.bytes may change xs done x below is made p.each;
}

amid_done : {X : Type 0} (first now : Option (List ℕ)) (may : X → List ℕ → Type 0) (change : X → List ℕ → List ℕ) (xs : List X)
    (done : ℕ) → length xs ≤ done → AreAmid may change xs done first now
    → IfSome first (λ image. CanEach may change xs image → now ≡ Some (after_each change xs image))
amid_done None now may change xs done past so = tt
amid_done {X} (Some image) now may change xs done past so = λ all.
    let p = so all in
    p.bytes ∙ ap Some (ap (λ (ys : List X). after_each change ys p.at) (sym (drop_all done xs past)) ∙ p.rest)

pub going_done : {X : Type 0} {I : Type 0} (g : Ghosts I) (first now : Drafted I) (may : X → List ℕ → Type 0)
    (change : X → List ℕ → List ℕ) (xs : List X) (done : ℕ) → length xs ≤ done → Going g first now may change xs done
    → IfSome first.bytes (λ image. CanEach may change xs image → now.bytes ≡ Some (after_each change xs image))
going_done g first now may change xs done past p = amid_done first.bytes now.bytes may change xs done past p.each

amid_fault : {X : Type 0} (first now : Option (List ℕ)) (may : X → List ℕ → Type 0) (change : X → List ℕ → List ℕ) (xs : List X)
    (done : ℕ) (x : X) (fault : RecordFault) → done < length xs → x ≡ get_or xs done x → AreAmid may change xs done first now
    → HasCause now (may x) fault → HasCause first (CanEach may change xs) fault
amid_fault first now may change xs done x DiskFault below is so cause = tt
amid_fault first now may change xs done x NoMemory below is so cause = tt
amid_fault None now may change xs done x (BadRecord at) below is so cause = tt
amid_fault {X} (Some image) now may change xs done x (BadRecord at) below is so cause = λ all.
    let p = so all in
    let can : CanEach may change (x ∷ drop (done + 1) xs) p.at =
    subst (λ (ys : List X). CanEach may change ys p.at) (cut xs done x below is) p.can in
    some_at now p.at (λ i. may x i → ⊥) p.bytes cause can.0

pub going_fault : {X : Type 0} {I : Type 0} (g : Ghosts I) (first now : Drafted I) (may : X → List ℕ → Type 0)
    (change : X → List ℕ → List ℕ) (xs : List X) (done : ℕ) (x : X) (fault : RecordFault) → HasCause now.bytes (may x) fault
    → x ≡ get_or xs done x → done < length xs → Going g first now may change xs done
    → HasCause first.bytes (CanEach may change xs) fault
going_fault g first now may change xs done x fault cause is below p =
    amid_fault first.bytes now.bytes may change xs done x fault below is p.each cause

-- ---- an id goes out of a list

take_made : (image : List ℕ) (p : Place) (x id : ℤ) → p.entry ≡ x → Stands (Some image) p → HasInList id x image
    → lost p.found.number p.entry p.found.block (list_at p) id image ≡ without_id x id image
take_made image p x id same at q =
    let r = q.0 in
    let lists = q.1 in
    let h = q.2.has in
    let here : IsPlace image r lists p = at r lists h in
    ap (λ (l : PairList). lost p.found.number p.entry p.found.block l id image) (list_is image r lists p x same here)
    ∙ ap (λ (z : ℤ). lost p.found.number z p.found.block (lists x) id image) same
    ∙ ap (λ (b : List ℕ). lost p.found.number x b (lists x) id image) here.block
    ∙ sym (lost_is image r lists x id p.found.number h (stands image r lists p x same here))

pub take_ok : {T E : Type 0} (res : Result T E) (b c e : Option (List ℕ)) (p : Place) (x id : ℤ) → c ≡ b → p.entry ≡ x → Stands b p
    → OnOk res (e ≡ option_map (lost p.found.number p.entry p.found.block (list_at p) id) c)
    → OnOk res (IfSome b (λ image. HasInList id x image → e ≡ Some (without_id x id image)))
take_ok (Err f) b c e p x id same first at ok = tt
take_ok (Ok v) None c e p x id same first at ok = tt
take_ok (Ok v) (Some image) c e p x id same first at ok = λ q.
    ok ∙ ap (option_map (lost p.found.number p.entry p.found.block (list_at p) id)) same
    ∙ ap Some (take_made image p x id first at q)

take_place : (b : Option (List ℕ)) (p : Place) (x id : ℤ) → Stands b p → IfSome b (λ image. HasInList id x image → HoldsPlace p id image)
take_place None p x id at = tt
take_place (Some image) p x id at = λ q. (q.0, q.1, q.2, at q.0 q.1 q.2.has, q.4)

pub take_err : {T : Type 0} (res : Result T RecordFault) (b c : Option (List ℕ)) (p : Place) (x id : ℤ) → c ≡ b → Stands b p
    → IfErr res (HasCause c (HoldsPlace p id)) → IfErr res (HasCause b (HasInList id x))
take_err (Ok v) b c p x id same at cause = tt
take_err (Err fault) b c p x id same at cause =
    cause_so b (HoldsPlace p id) (HasInList id x) fault (cause_same b c (HoldsPlace p id) fault same cause) (take_place b p x id at)

-- ---- blocks are freed

pub number_at : (len now : ℕ) (blocks : List ℕ) (i n : ℕ) → now ≡ len → AreWithin len blocks → i < length blocks
    → n ≡ get_or blocks i 0 + 1 → IsNumber free_blocks now n
number_at len now blocks i n same within below is =
    let here = within i 0 below in record { some = omega (arith, is); within = omega (arith, is, here, same) }

pub number_same : (blocks : List ℕ) (i : ℕ) → i < length blocks → get_or blocks i 0 ≡ get_or blocks i (get_or blocks i 0)
number_same blocks i below = sym (get_or_default blocks i (get_or blocks i 0) 0 below)

pub freed_step : (now next : Option (List ℕ)) (f : FreeBlocks) (n k : ℕ) → f ≡ free_blocks → n ≡ k + 1
    → next ≡ option_map (with_free_block f n) now
    → IfSome now (λ image. HasFreeChain image → next ≡ Some (with_free_block free_blocks (k + 1) image))
freed_step None next f n k is number made = tt
freed_step (Some image) next f n k is number made = λ has.
    made ∙ ap (λ (g : FreeBlocks). Some (with_free_block g n image)) is
    ∙ ap (λ (m : ℕ). Some (with_free_block free_blocks m image)) number

pub chain_cause : (now : Option (List ℕ)) (f : FreeBlocks) (fault : RecordFault) → f ≡ free_blocks
    → HasCause now (HasSome (free_links f) f.first) fault → HasCause now HasFreeChain fault
chain_cause now f fault is cause = subst (λ (g : FreeBlocks). HasCause now (HasSome (free_links g) g.first) fault) is cause

-- ---- a list is emptied

place_can : (image : List ℕ) (p : Place) (x : ℤ) (more : List ℕ) → p.entry ≡ x → Stands (Some image) p → more ≡ p.listed.more.items
    → HasEntry x image → CanFree more image
place_can image p x more same at is q =
    let r = q.0 in
    let lists = q.1 in
    let here : IsPlace image r lists p = at r lists q.2 in
    let l : p.listed.more.items ≡ (lists x).more = ap (λ (m : PairList). m.more) (list_is image r lists p x same here) in
    subst (λ (m : List ℕ). CanFree m image) (sym (is ∙ l))
    (can_free image r lists x p.found.number q.2 (stands image r lists p x same here) q.3)

-- the bytes once its blocks are free
freed_now : (image : List ℕ) (c e : Option (List ℕ)) (p : Place) (x : ℤ) (more : List ℕ) → c ≡ Some image → p.entry ≡ x
    → Stands (Some image) p → more ≡ p.listed.more.items → IfSome c (λ i. CanFree more i → e ≡ Some (with_all_freed more i))
    → HasEntry x image → e ≡ Some (with_all_freed more image)
freed_now image c e p x more same first at is freed q =
    some_at c image (λ i. CanFree more i → e ≡ Some (with_all_freed more i)) same freed (place_can image p x more first at is q)

empty_made : (image : List ℕ) (p : Place) (x : ℤ) (more : List ℕ) → p.entry ≡ x → Stands (Some image) p → more ≡ p.listed.more.items
    → HasEntry x image
    → relisted p.found.number p.entry p.found.block no_ids (with_all_freed more image) ≡ without_ids x image
empty_made image p x more same at is q =
    let r = q.0 in
    let lists = q.1 in
    let here : IsPlace image r lists p = at r lists q.2 in
    let l : p.listed.more.items ≡ (lists x).more = ap (λ (m : PairList). m.more) (list_is image r lists p x same here) in
    ap (λ (m : List ℕ). relisted p.found.number p.entry p.found.block no_ids (with_all_freed m image)) (is ∙ l)
    ∙ ap (λ (z : ℤ). relisted p.found.number z p.found.block no_ids (with_all_freed (lists x).more image)) same
    ∙ ap (λ (b : List ℕ). relisted p.found.number x b no_ids (with_all_freed (lists x).more image)) here.block
    ∙ sym (emptied_is image r lists x p.found.number q.2 (stands image r lists p x same here))

pub empty_ok : {T E : Type 0} (res : Result T E) (b c e f : Option (List ℕ)) (p : Place) (x : ℤ) (more : List ℕ) → c ≡ b → p.entry ≡ x
    → Stands b p → more ≡ p.listed.more.items → IfSome c (λ i. CanFree more i → e ≡ Some (with_all_freed more i))
    → OnOk res (f ≡ option_map (relisted p.found.number p.entry p.found.block no_ids) e)
    → OnOk res (IfSome b (λ image. HasEntry x image → f ≡ Some (without_ids x image)))
empty_ok (Err g) b c e f p x more same first at is freed ok = tt
empty_ok (Ok v) None c e f p x more same first at is freed ok = tt
empty_ok (Ok v) (Some image) c e f p x more same first at is freed ok = λ q.
    ok ∙ ap (option_map (relisted p.found.number p.entry p.found.block no_ids)) (freed_now image c e p x more same first at is freed q)
    ∙ ap Some (empty_made image p x more first at is q)

free_can : (b : Option (List ℕ)) (p : Place) (x : ℤ) (more : List ℕ) → p.entry ≡ x → Stands b p → more ≡ p.listed.more.items
    → IfSome b (λ image. HasEntry x image → CanFree more image)
free_can None p x more first at is = tt
free_can (Some image) p x more first at is = place_can image p x more first at is

pub free_cause : (b c : Option (List ℕ)) (p : Place) (x : ℤ) (more : List ℕ) (fault : RecordFault) → c ≡ b → p.entry ≡ x → Stands b p
    → more ≡ p.listed.more.items → HasCause c (CanFree more) fault → HasCause b (HasEntry x) fault
free_cause b c p x more fault same first at is cause =
    cause_so b (CanFree more) (HasEntry x) fault (cause_same b c (CanFree more) fault same cause) (free_can b p x more first at is)

-- no ids are never too many
empty_cause : (b c e : Option (List ℕ)) (p : Place) (x : ℤ) (more : List ℕ) (fault : RecordFault) → c ≡ b → p.entry ≡ x → Stands b p
    → more ≡ p.listed.more.items → IfSome c (λ i. CanFree more i → e ≡ Some (with_all_freed more i))
    → HasCause e (λ image. 0 < 2 ^ 32) fault → HasCause b (HasEntry x) fault
empty_cause b c e p x more DiskFault same first at is freed cause = tt
empty_cause b c e p x more NoMemory same first at is freed cause = tt
empty_cause None c e p x more (BadRecord at) same first stood is freed cause = tt
empty_cause (Some image) c e p x more (BadRecord at) same first stood is freed cause = λ q.
    some_at e (with_all_freed more image) (λ i. (0 < 2 ^ 32) → ⊥) (freed_now image c e p x more same first stood is freed q) cause
    (omega arith)

pub empty_err : {T : Type 0} (res : Result T RecordFault) (b c e : Option (List ℕ)) (p : Place) (x : ℤ) (more : List ℕ) → c ≡ b
    → p.entry ≡ x → Stands b p → more ≡ p.listed.more.items
    → IfSome c (λ i. CanFree more i → e ≡ Some (with_all_freed more i)) → IfErr res (HasCause e (λ image. 0 < 2 ^ 32))
    → IfErr res (HasCause b (HasEntry x))
empty_err (Ok v) b c e p x more same first at is freed cause = tt
empty_err (Err fault) b c e p x more same first at is freed cause = empty_cause b c e p x more fault same first at is freed cause

-- ---- all pairs

-- the ids with which an entry is paired, of each state that the bytes hold
abbrev pub Finds : Option (List ℕ) → ℤ → List ℤ → Type 0
Finds bytes id others =
    IfSome bytes (λ image. (r : Registry) (m : Members) → Holds image r m → IsListOf (λ other. are_paired m id other ≡ true) others)

-- the bytes are these of each such state
abbrev pub Parts : Option (List ℕ) → Option (List ℕ) → ℤ → Type 0
Parts bytes after id =
    IfSome bytes
    (λ image. (r : Registry) (m : Members) (others : List ℤ) → Holds image r m → IsListOf (λ other. are_paired m id other ≡ true) others
    → after ≡ Some (after_parts id others image))

abbrev pub Keeps : Option (List ℕ) → Option (List ℕ) → ℤ → Type 0
Keeps bytes after id =
    IfSome bytes
    (λ image. (r : Registry) (m : Members) → Holds image r m → IsSomeAnd after (λ i. Holds i r (without_pairs_of id m)))

-- which tell what they hold
pub parts_keep : (b e : Option (List ℕ)) (id : ℤ) (others : List ℤ) → Finds b id others → Parts b e id → Keeps b e id
parts_keep None e id others list is = tt
parts_keep (Some image) e id others list is = λ r m h.
    let l = list r m h in
    subst (λ (o : Option (List ℕ)). IsSomeAnd o (λ i. Holds i r (without_pairs_of id m))) (sym (is r m others h l))
    (parts_hold others image r m id h l)

pub none_parts : (b c : Option (List ℕ)) (id : ℤ) (others : List ℤ) → c ≡ b → length others ≡ 0 → Finds b id others → Parts b c id
unfolding after_parts
none_parts None c id others same none list = tt
none_parts (Some image) c id [] same none list = λ r m all h is_all.
    same ∙ ap (λ (l : List ℤ). Some (after_parts id l image)) (one_list m id [] all (list r m h) is_all)
none_parts (Some image) c id (x ∷ xs) same none list = absurd (omega (arith, none))

-- what its empty list leaves
left_now : (image : List ℕ) (r : Registry) (m : Members) (c e : Option (List ℕ)) (id x : ℤ) (xs : List ℤ) → c ≡ Some image
    → IfSome c (λ i. HasEntry id i → e ≡ Some (without_ids id i)) → Holds image r m
    → IsListOf (λ other. are_paired m id other ≡ true) (x ∷ xs) → e ≡ Some (without_ids id image)
left_now image r m c e id x xs same made h list =
    some_at c image (λ i. HasEntry id i → e ≡ Some (without_ids id i)) same made (entry_of image r m id x xs h list)

pub some_parts : {T E : Type 0} (res : Result T E) (b c e f : Option (List ℕ)) (id : ℤ) (others : List ℤ) → c ≡ b → 0 < length others
    → Finds b id others → IfSome c (λ i. HasEntry id i → e ≡ Some (without_ids id i))
    → OnOk res (IfSome e (λ i. CanLose id others i → f ≡ Some (without_id_in others id i))) → OnOk res (Parts b f id)
unfolding after_parts
some_parts (Err g) b c e f id others same some list made ok = tt
some_parts (Ok v) None c e f id others same some list made ok = tt
some_parts (Ok v) (Some image) c e f id [] same some list made ok = absurd (omega (arith, some))
some_parts (Ok v) (Some image) c e f id (x ∷ xs) same some list made ok = λ r m all h is_all.
    let l = list r m h in
    some_at e (without_ids id image) (λ i. CanLose id (x ∷ xs) i → f ≡ Some (without_id_in (x ∷ xs) id i))
    (left_now image r m c e id x xs same made h l) ok (can_lose image r m id x xs h l)
    ∙ ap (λ (ys : List ℤ). Some (after_parts id ys image)) (one_list m id (x ∷ xs) all l is_all)

pub some_keep : {T E : Type 0} (res : Result T E) (b f : Option (List ℕ)) (id : ℤ) (others : List ℤ) → Finds b id others
    → OnOk res (Parts b f id) → OnOk res (Keeps b f id)
some_keep (Err g) b f id others list ok = tt
some_keep (Ok v) b f id others list ok = parts_keep b f id others list ok

-- ---- why they do not go

pub entry_cause : (b c : Option (List ℕ)) (id : ℤ) (others : List ℤ) (fault : RecordFault) → c ≡ b → 0 < length others
    → Finds b id others → HasCause c (HasEntry id) fault → HasItsCause b fault
entry_cause b c id others DiskFault same some list cause = tt
entry_cause b c id others NoMemory same some list cause = tt
entry_cause None c id others (BadRecord at) same some list cause = tt
entry_cause (Some image) c id [] (BadRecord at) same some list cause = absurd (omega (arith, some))
entry_cause (Some image) c id (x ∷ xs) (BadRecord at) same some list cause = λ q.
    some_at c image (λ i. HasEntry id i → ⊥) same cause (entry_of image q.0 q.1 id x xs q.2 (list q.0 q.1 q.2))

take_cause : (b c e : Option (List ℕ)) (id : ℤ) (others : List ℤ) (fault : RecordFault) → c ≡ b → 0 < length others
    → Finds b id others → IfSome c (λ i. HasEntry id i → e ≡ Some (without_ids id i)) → HasCause e (CanLose id others) fault
    → HasItsCause b fault
take_cause b c e id others DiskFault same some list made cause = tt
take_cause b c e id others NoMemory same some list made cause = tt
take_cause None c e id others (BadRecord at) same some list made cause = tt
take_cause (Some image) c e id [] (BadRecord at) same some list made cause = absurd (omega (arith, some))
take_cause (Some image) c e id (x ∷ xs) (BadRecord at) same some list made cause = λ q.
    let l = list q.0 q.1 q.2 in
    some_at e (without_ids id image) (λ i. CanLose id (x ∷ xs) i → ⊥) (left_now image q.0 q.1 c e id x xs same made q.2 l) cause
    (can_lose image q.0 q.1 id x xs q.2 l)

pub some_err : {T : Type 0} (res : Result T RecordFault) (b c e : Option (List ℕ)) (id : ℤ) (others : List ℤ) → c ≡ b
    → 0 < length others → Finds b id others → IfSome c (λ i. HasEntry id i → e ≡ Some (without_ids id i))
    → IfErr res (HasCause e (CanLose id others)) → IfErr res (HasItsCause b)
some_err (Ok v) b c e id others same some list made cause = tt
some_err (Err fault) b c e id others same some list made cause = take_cause b c e id others fault same some list made cause
