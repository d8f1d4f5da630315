-- Where an entry and its list stand, and what one side of a change makes of a draft.
use Rattle.std.proofs.Common.{◌≡◌, ℕ, ℤ, ◌+◌, ◌^◌, ◌<◌, ◌≤◌, List, [], ◌∷◌, length, get_or, take, drop, min, inl, inr, Option, Some, None, IfSome, IsSome, Result, Ok, Err, OnOk, IfErr, refl, sym, ap, subst, ◌∙◌, arith}
use Rattle.std.specs.Prelude.{◌⊎◌}
use Rattle.std.specs.List.{Contains}
use Rattle.std.specs.Option.{option_map}
use Rattle.std.proofs.lemmas.Bool.{lt-ltb}
use Rattle.db_image.specs.declared.faults.RecordFault.{RecordFault}
use Rattle.db_image.specs.declared.faults.RecordFault.TheVariants.{BadRecord}
use Rattle.db_blocks.specs.Ends.{HasCause}
use Rattle.db_blocks.specs.declared.scans.Found.{Found}
use Rattle.db_chains.specs.Ends.{HasSome}
use Rattle.db_chains.specs.Free.{IsNumber, with_freed as with_free_block, with_taken}
use Rattle.db_chains.specs.declared.free_blocks.FreeBlocks.{FreeBlocks}
use Rattle.db_blocks.specs.Bytes.{zeros}
use Rattle.prdb_layout.specs.Registry.{Registry}
use Rattle.prdb_layout.proofs.Becoming.{becomes_then}
use Rattle.entry_scans.specs.Lists.{IsAscending}
use Rattle.prdb_lists.specs.Blocks.{AreWithin}
use Rattle.prdb_lists.specs.Changes.{blocks_for, relisted}
use Rattle.prdb_lists.specs.Layout.{IsListed, PairList}
use Rattle.prdb_lists.specs.Lists.{ids_with, ids_without}
use Rattle.prdb_lists.specs.Sides.{IsPlace}
use Rattle.prdb_lists.specs.declared.sides.Place.{Place}
use Rattle.prdb_lists.proofs.Ids.{few_ids}
use Rattle.prdb_lists.proofs.ListRead.{Lists, cause_so}
use Rattle.prdb_lists.proofs.Written.{drop_most, fault_before, take_most}
use Rattle.prdb_finds.specs.Keys.{id_chain, id_key}
use Rattle.prdb_finds.specs.Places.{free_blocks, id_links}
use Rattle.prdb_members.specs.Changes.{gained, lost, more_for, taken_for, with_freed}
use Rattle.prdb_members.specs.Found.{IsBlockOf}
use Rattle.prdb_members.specs.Sides.{HasEntry, HasFreeChain, HasLists, HoldsPlace}
use Rattle.prdb_members.proofs.Listed.{absent, found_listed, found_stands, stands_there}

-- ---- a place that is found

pub place_found : (bytes : Option (List ℕ)) (p : Place) → IfSome bytes (λ image. IsBlockOf p.entry image (Some p.found))
    → IfSome bytes
    (λ image. (l : PairList) → IsListed image p.entry p.found.block l → (p.listed.ids ≡ l.ids) × (p.listed.more.items ≡ l.more))
    → IfSome bytes (λ image. (r : Registry) (lists : ℤ → PairList) → HasLists image r lists → IsPlace image r lists p)
place_found None p is read = tt
place_found (Some image) p is read = λ r lists h.
    let at = found_stands image p.entry p.found is in
    let same = read (lists p.entry) (found_listed image r lists p.entry p.found h is) in
    record {
      there = stands_there image r lists p.entry p.found.number h at;
      below = at.below;
      kind = at.kind;
      id = at.id;
      block = is.1;
      ids = same.0;
      more = same.1;
    }

entry_chain : (bytes : Option (List ℕ)) (id : ℤ) → IfSome bytes (λ image. HasEntry id image → HasSome id_links (id_chain id) image)
entry_chain None id = tt
entry_chain (Some image) id = λ q. let v = q.2.chains.ids (id_key id) (omega arith) in (q.2.size, (v.words, v.chain))

pub found_fault : (bytes : Option (List ℕ)) (id : ℤ) (fault : RecordFault) → HasCause bytes (HasSome id_links (id_chain id)) fault
    → HasCause bytes (HasEntry id) fault
found_fault bytes id fault cause = cause_so bytes (HasSome id_links (id_chain id)) (HasEntry id) fault cause (entry_chain bytes id)

pub absent_fault : (bytes : Option (List ℕ)) (id : ℤ) (at : ℕ) → IfSome bytes (λ image. IsBlockOf id image None)
    → HasCause bytes (HasEntry id) (BadRecord at)
absent_fault None id at is = tt
absent_fault (Some image) id at is = λ q. absent image q.0 q.1 id q.2 is q.3

entry_lists : (bytes : Option (List ℕ)) (id : ℤ) (f : Found) → IfSome bytes (λ image. IsBlockOf id image (Some f))
    → IfSome bytes (λ image. HasEntry id image → Lists id f.block image)
entry_lists None id f is = tt
entry_lists (Some image) id f is = λ q. (q.2.size, (q.1 id, found_listed image q.0 q.1 id f q.2 is))

pub listed_fault : (bytes : Option (List ℕ)) (id : ℤ) (f : Found) (fault : RecordFault)
    → IfSome bytes (λ image. IsBlockOf id image (Some f)) → HasCause bytes (Lists id f.block) fault → HasCause bytes (HasEntry id) fault
listed_fault bytes id f fault is cause = cause_so bytes (Lists id f.block) (HasEntry id) fault cause (entry_lists bytes id f is)

-- ---- a block is taken

one_taken : (count : ℕ) (there image : List ℕ) → length there < blocks_for count
    → taken_for count there image ≡ with_taken free_blocks (zeros 192) image
one_taken count there image wanted = rw (lt-ltb (length there) (blocks_for count) wanted) refl

pub taken_one : (bytes now : Option (List ℕ)) (count : ℕ) (there block : List ℕ) (f : FreeBlocks) → f ≡ free_blocks → block ≡ zeros 192
    → now ≡ option_map (with_taken f block) bytes → length there < blocks_for count → now ≡ option_map (taken_for count there) bytes
taken_one None now count there block f is same made wanted = made
taken_one (Some image) now count there block f is same made wanted =
    made ∙ ap (λ (g : FreeBlocks). Some (with_taken g block image)) is ∙ ap (λ (b : List ℕ). Some (with_taken free_blocks b image)) same
    ∙ ap Some (sym (one_taken count there image wanted))

-- ---- one side

gained_so : (b c : Option (List ℕ)) (k : ℕ) (entry : ℤ) (old : List ℕ) (l : PairList) (id : ℤ) (ids : List ℤ) (more : List ℕ)
    → ids ≡ ids_with id l.ids
    → IfSome b (λ image. more ≡ more_for (length ids) l.more image) → c ≡ option_map (taken_for (length ids) l.more) b
    → option_map (relisted k entry old (record { ids = ids; more = more })) c ≡ option_map (gained k entry old l id) b
gained_so None c k entry old l id ids more is_ids is_more is = ap (option_map (relisted k entry old (record { ids = ids; more = more }))) is
gained_so (Some image) c k entry old l id ids more is_ids is_more is =
    ap (option_map (relisted k entry old (record { ids = ids; more = more }))) is
    ∙ ap (λ (m : List ℕ). Some (relisted k entry old (record { ids = ids; more = m }) (taken_for (length ids) l.more image))) is_more
    ∙ ap (λ (i : List ℤ).
    Some (relisted k entry old (record { ids = i; more = more_for (length i) l.more image }) (taken_for (length i) l.more image))) is_ids

pub gained_ok : {T E : Type 0} (r : Result T E) (b c d : Option (List ℕ)) (k : ℕ) (entry : ℤ) (old : List ℕ) (l : PairList) (id : ℤ)
    (ids : List ℤ) (there more slice : List ℕ)
    → there ≡ l.more → slice ≡ more → (¬ Contains l.ids id → ids ≡ ids_with id l.ids)
    → IfSome b (λ image. more ≡ more_for (length ids) there image)
    → c ≡ option_map (taken_for (length ids) there) b → OnOk r (d ≡ option_map (relisted k entry old (record { ids = ids; more = slice })) c)
    → OnOk r (¬ Contains l.ids id → d ≡ option_map (gained k entry old l id) b)
gained_ok (Err e) b c d k entry old l id ids there more slice same_there same_slice placed is_more is ok = tt
gained_ok (Ok x) b c d k entry old l id ids there more slice same_there same_slice placed is_more is ok = λ fresh.
    ok ∙ ap (λ (m : List ℕ). option_map (relisted k entry old (record { ids = ids; more = m })) c) same_slice
    ∙ gained_so b c k entry old l id ids more (placed fresh)
    (subst (λ (t : List ℕ). IfSome b (λ image. more ≡ more_for (length ids) t image)) same_there is_more)
    (is ∙ ap (λ (t : List ℕ). option_map (taken_for (length ids) t) b) same_there)

-- ---- a block is freed

pub freed_one : {T E : Type 0} (r : Result T E) (a b : Option (List ℕ)) (freed : List ℕ) (n : ℕ) (f : FreeBlocks) → 1 ≤ length freed
    → f ≡ free_blocks → n ≡ get_or freed 0 0 + 1
    → OnOk r (b ≡ option_map (with_free_block f n) a) → OnOk r (b ≡ option_map (with_freed freed) a)
freed_one r a b [] n f some is number ok = absurd (omega arith)
freed_one (Err e) a b (k ∷ freed) n f some is number ok = tt
freed_one (Ok x) a b (k ∷ freed) n f some is number ok =
    ok ∙ ap (λ (g : FreeBlocks). option_map (with_free_block g n) a) is
    ∙ ap (λ (m : ℕ). option_map (with_free_block free_blocks m) a) number

pub freed_number : (len n : ℕ) (freed : List ℕ) → AreWithin len freed → 1 ≤ length freed → n ≡ get_or freed 0 0 + 1
    → IsNumber free_blocks len n
freed_number len n freed within some is =
    let here = within 0 0 (omega arith) in record { some = omega (arith, is); within = omega (arith, is, here) }

lost_so : (b : Option (List ℕ)) (k : ℕ) (entry : ℤ) (old : List ℕ) (l : PairList) (id : ℤ) (ids : List ℤ) (kept freed : List ℕ)
    → ids ≡ ids_without id l.ids
    → kept ≡ take (blocks_for (length ids)) l.more → freed ≡ drop (blocks_for (length ids)) l.more
    → option_map (λ image. relisted k entry old (record { ids = ids; more = kept }) (with_freed freed image)) b
    ≡ option_map (lost k entry old l id) b
lost_so b k entry old l id ids kept freed is_ids is_kept is_freed =
    ap (λ (m : List ℕ). option_map (λ image. relisted k entry old (record { ids = ids; more = m }) (with_freed freed image)) b) is_kept
    ∙ ap (λ (m : List ℕ).
    option_map (λ image. relisted k entry old (record { ids = ids; more = take (blocks_for (length ids)) l.more }) (with_freed m image)) b)
    is_freed
    ∙ ap (λ (i : List ℤ).
    option_map
    (λ image.
    relisted k entry old (record { ids = i; more = take (blocks_for (length i)) l.more })
    (with_freed (drop (blocks_for (length i)) l.more) image)) b) is_ids

pub lost_ok : {T E : Type 0} (r : Result T E) (b c d : Option (List ℕ)) (k : ℕ) (entry : ℤ) (old : List ℕ) (l : PairList) (id : ℤ)
    (ids : List ℤ) (n : ℕ) (kept freed : List ℕ)
    → ids ≡ ids_without id l.ids → n ≡ blocks_for (length ids) → kept ≡ take (min (length l.more) n) l.more
    → freed ≡ drop (min (length l.more) n) l.more → c ≡ option_map (with_freed freed) b
    → OnOk r (d ≡ option_map (relisted k entry old (record { ids = ids; more = kept })) c)
    → OnOk r (d ≡ option_map (lost k entry old l id) b)
lost_ok (Err e) b c d k entry old l id ids n kept freed is_ids count is_kept is_freed is ok = tt
lost_ok (Ok x) b c d k entry old l id ids n kept freed is_ids count is_kept is_freed is ok =
    becomes_then (with_freed freed) (relisted k entry old (record { ids = ids; more = kept })) b c d is ok
    ∙ lost_so b k entry old l id ids kept freed is_ids
    (is_kept ∙ take_most n l.more ∙ ap (λ (m : ℕ). take m l.more) count)
    (is_freed ∙ drop_most n l.more ∙ ap (λ (m : ℕ). drop m l.more) count)

-- ---- faults of one side

place_free : (bytes : Option (List ℕ)) (p : Place) (id : ℤ) → IfSome bytes (λ image. HoldsPlace p id image → HasFreeChain image)
place_free None p id = tt
place_free (Some image) p id = λ q. let has = q.2.has in (has.size, (has.chains.free.words, has.chains.free.chain))

pub free_fault : (bytes : Option (List ℕ)) (p : Place) (id : ℤ) (fault : RecordFault) → HasCause bytes HasFreeChain fault
    → HasCause bytes (HoldsPlace p id) fault
free_fault bytes p id fault cause = cause_so bytes HasFreeChain (HoldsPlace p id) fault cause (place_free bytes p id)

-- ids of the list of a place, and one more, are few
few_there : (bytes : Option (List ℕ)) (p : Place) (id : ℤ) (ids : List ℤ) → IsAscending ids
    → ((x : ℤ) → Contains ids x → (x ≡ id) ⊎ Contains p.listed.ids x)
    → IfSome bytes (λ image. HoldsPlace p id image → length ids < 2 ^ 32)
few_there None p id ids is members = tt
few_there (Some image) p id ids is members = λ q.
    let h = q.2 in
    let at = q.3 in
    few_ids q.0 ids h.has.without.valid is (λ x has. elim (members x has) [
      | inl same ↦ subst (λ (y : ℤ). IsSome (q.0.entry y)) (sym same) q.4
      | inr old ↦ h.members p.entry at.there x (subst (λ (l : List ℤ). Contains l x) at.ids old)
    ])

-- a list that is written over changed bytes has too many ids only where the bytes before hold no such place
pub list_err : {T : Type 0} (r : Result T RecordFault) (f : List ℕ → List ℕ) (b c : Option (List ℕ)) (p : Place) (id : ℤ) (ids : List ℤ)
    → c ≡ option_map f b → IsAscending ids
    → ((x : ℤ) → Contains ids x → (x ≡ id) ⊎ Contains p.listed.ids x) → IfErr r (HasCause c (λ image. length ids < 2 ^ 32))
    → IfErr r (HasCause b (HoldsPlace p id))
list_err (Ok x) f b c p id ids is rises members cause = tt
list_err (Err fault) f b c p id ids is rises members cause =
    fault_before f b c (λ image. length ids < 2 ^ 32) (HoldsPlace p id) fault is cause (few_there b p id ids rises members)
