-- The image after a change holds the registry after it.
use Rattle.std.proofs.Common.{◌≡◌, ◌≢◌, ℕ, ℤ, pos, negsuc, ◌+◌, ◌<◌, ◌≤◌, true, false, ◌&&◌, List, ◌++◌, Some, None, length, drop, refl, sym, ap, subst, ◌∙◌, ⊎_elim, inl, arith}
use Rattle.std.specs.Prelude.{FitsSigned, ◌≤ℤ◌}
use Rattle.std.specs.Int.{w32, cast_signed}
use Rattle.std.specs.Ordering.{int_eq}
use Rattle.std.specs.Str.{bytes_eq}
use Rattle.std.proofs.lemmas.Bool.{cases_lt, cases_Bool, and_parts, eqb-true, lt-ltb, le-ltb}
use Rattle.std.proofs.lemmas.Bool.Decides.{Decides-int_eq}
use Rattle.std.proofs.lemmas.Int.{ints, to_z-of_z}
use Rattle.std.proofs.lemmas.List.{take-append-drop}
use Rattle.std.proofs.lemmas.Nat.{from_be_bytes-to_be_bytes_4}
use Rattle.std.proofs.lemmas.Slice.Eq.{bytes_eq-Decides}
use Rattle.ubik_types.specs.Image.{changed}
use Rattle.ubik_types.specs.declared.images.Change.TheVariants.{Put}
use Rattle.prdb_layout.specs.Blocks.{block_count}
use Rattle.db_blocks.specs.Bytes.{word, words, zeros}
use Rattle.db_blocks.specs.Blocks.{kind_of}
use Rattle.db_blocks.proofs.FirstBlocks.{first_met, first_within}
use Rattle.prdb_layout.specs.Bytes.{bits}
use Rattle.prdb_layout.specs.Records.{Holds, IsBlock, IsEntryBlock, IsLaidOut, after_insert, after_remove, after_replace, after_set_maxima, block_in, entry_in, first_block, has_id, head_with, is_free, maxima_in, new_block, next_block, signed_at, whole, with_block, with_count, with_fields}
use Rattle.prdb_layout.specs.Registry.{Registry, IsRegistry, IsRecord, AreMaxima, MayBeAdded, MayReplace, MayBeRemoved, with_entry, without_entry, with_maxima}
use Rattle.prdb_layout.specs.State.{PrEntry}
use Rattle.prdb_layout.proofs.BlockPlaces.{block_len, put_count, put_maxima}
use Rattle.prdb_layout.proofs.Changed.{IsStep, IsAlone, IsContent, blocks_of_laid, have_new, have_same, laid_from}
use Rattle.prdb_layout.proofs.EntryFields.{entry_with, kind_with, is_new_block, is_block_with, length-with_fields}
use Rattle.prdb_layout.proofs.LaidOut.{whole_same, zero_kind}
use Rattle.prdb_layout.proofs.Lengths.{bits_below}
use Rattle.prdb_layout.proofs.Lookups.{id_parts}
use Rattle.prdb_layout.proofs.Registries.{registry_added, registry_replaced, registry_removed, registry_maxima}
use Rattle.db_blocks.proofs.Scanned.{count_is}
use Rattle.db_blocks.proofs.BlockPlaces.{IsPut, put_block, add_block}

-- ---- one entry more

-- no block has the id of an entry that is new
none_has : (image : List ℕ) (r : Registry) (e : PrEntry) → IsLaidOut image r → r.entry e.id ≡ None → (j : ℕ) → j < block_count image
    → kind_of (block_in image j) ≡ 1 → (entry_in (block_in image j)).id ≢ e.id
none_has image r e laid new j below kind same =
    let there = laid.there j below kind in
    let none = ap r.entry same ∙ new in
    absurd cc

free_kind : (image : List ℕ) (k : ℕ) → is_free (block_in image k) ≡ true → kind_of (block_in image k) ≡ 0
free_kind image k free = eqb-true (kind_of (block_in image k)) 0 free

step_in : (image block : List ℕ) (k : ℕ) (r : Registry) → IsLaidOut image r → length block ≡ 192 → k < block_count image
    → IsStep image (with_block k block image) k (block_count image) block
step_in image block k r laid len below = record {
  put = put_block 2112 image block k (block_count image) laid.size len below;
  below = below;
  kept = omega arith;
  only = λ j less other. less;
}

step_end : (image block : List ℕ) (r : Registry) → IsLaidOut image r → length block ≡ 192
    → IsStep image (with_block (block_count image) block image) (block_count image) (block_count image + 1) block
step_end image block r laid len = record {
  put = add_block 2112 image block (block_count image) laid.size len;
  below = omega arith;
  kept = omega arith;
  only = λ j less other. omega arith;
}

new_content : (e : PrEntry) (block : List ℕ) → length block ≡ 192 → IsRecord e → IsContent e.id (Some e) (with_fields e block)
new_content e block len is = (kind_with e block, entry_with e block len is.fields, refl)

zeros_len : length (zeros 192) ≡ 192
unfolding zeros
zeros_len = refl

new_len : (e : PrEntry) → IsRecord e → length (new_block e) ≡ 192
new_len e is = length-with_fields e (zeros 192) zeros_len is.fields.name_len

inserted_in : (image : List ℕ) (r : Registry) (e : PrEntry) (k : ℕ) → IsLaidOut image r → IsRegistry r → IsRecord e → r.entry e.id ≡ None
    → k < block_count image → kind_of (block_in image k) ≡ 0 → IsLaidOut (with_block k (new_block e) image) (with_entry e r)
inserted_in image r e k laid valid is new below free =
    let step = step_in image (new_block e) k r laid (new_len e is) below in
    let alone : IsAlone image k e.id = record {
      here = λ in_k kind. absurd (omega arith);
      others = λ j in_j other kind. none_has image r e laid new j in_j kind;
    } in
    laid_from (with_block k (new_block e) image) (block_count image) (with_entry e r) step.put.size (step.put.front ∙ laid.head)
    (have_new image (with_block k (new_block e) image) k (block_count image) (new_block e) e.id (Some e) r laid valid step alone
    (new_content e (zeros 192) zeros_len is) (is_new_block e is.fields))

inserted_end : (image : List ℕ) (r : Registry) (e : PrEntry) → IsLaidOut image r → IsRegistry r → IsRecord e → r.entry e.id ≡ None
    → IsLaidOut (with_count (block_count image + 1) (with_block (block_count image) (new_block e) image)) (with_entry e r)
inserted_end image r e laid valid is new =
    let n = block_count image in
    let mid = with_block n (new_block e) image in
    let step = step_end image (new_block e) r laid (new_len e is) in
    let alone : IsAlone image n e.id = record {
      here = λ in_k kind. absurd (omega arith);
      others = λ j in_j other kind. none_has image r e laid new j in_j kind;
    } in
    let blocks = have_new image mid n (n + 1) (new_block e) e.id (Some e) r laid valid step alone
    (new_content e (zeros 192) zeros_len is) (is_new_block e is.fields) in
    let put = put_count mid r.max_user r.max_group n (n + 1) (n + 1) step.put.size (step.put.front ∙ laid.head) in
    let count = count_is 2112 mid (n + 1) step.put.size in
    laid_from (with_count (n + 1) mid) (n + 1) (with_entry e r) (put.size ∙ step.put.size) put.head
    (have_same mid (with_count (n + 1) mid) (n + 1) (with_entry e r).entry (λ j less. put.others j (omega (arith, less, count))) blocks)

-- an image that holds a registry is not empty, read whole
whole_of_laid : (image : List ℕ) (r : Registry) → IsLaidOut image r → whole image ≡ image
whole_of_laid image r laid = whole_same image (omega (arith, laid.size))

holds_from : (image : List ℕ) (r : Registry) → IsRegistry r → IsLaidOut image r → Holds image r
holds_from image r valid laid =
    record { valid = valid; laid = subst (λ (i : List ℕ). IsLaidOut i r) (sym (whole_of_laid image r laid)) laid }

pub holds_inserted : (image : List ℕ) (r : Registry) (e : PrEntry) → Holds image r → IsRecord e → MayBeAdded e r
    → Holds (after_insert e image) (with_entry e r)
unfolding after_insert
holds_inserted image r e holds is may =
    let old = whole image in
    let k = next_block old in
    let n = block_count old in
    let within : k ≤ 0 + n = first_within (λ j. is_free (block_in old j)) 0 n in
    let valid = registry_added r e holds.valid is may in
    ⊎_elim
    (λ (below : k < n).
    let free = first_met (λ j. is_free (block_in old j)) 0 n (omega arith) in
    rw (lt-ltb k n below) (holds_from (with_block k (new_block e) old) (with_entry e r) valid
    (inserted_in old r e k holds.laid holds.valid is may.id below (free_kind old k free))))
    (λ (last : n ≤ k).
    let same : k ≡ n = omega arith in
    rw (le-ltb k n last) (subst (λ (j : ℕ). Holds (with_count (j + 1) (with_block j (new_block e) old)) (with_entry e r)) (sym same)
    (holds_from (with_count (n + 1) (with_block n (new_block e) old)) (with_entry e r) valid
    (inserted_end old r e holds.laid holds.valid is may.id))))
    (cases_lt k n)

-- ---- other fields for an entry

-- the block of an id is alone with it
alone_at : (image : List ℕ) (r : Registry) (id : ℤ) (k : ℕ) → IsLaidOut image r → k < block_count image
    → has_id id (block_in image k) ≡ true
    → IsAlone image k id
alone_at image r id k laid below has =
    let p = id_parts id (block_in image k) has in
    record {
      here = λ in_k kind. p.1;
      others = λ j in_j other kind same. other (laid.one j k in_j below kind p.0 (same ∙ sym p.1));
    }

entry_parts : (block : List ℕ) → IsBlock block → kind_of block ≡ 1 → IsEntryBlock block
entry_parts block is kind =
    ⊎_elim
    (λ (free : block ≡ zeros 192). absurd (omega (arith, kind, ap kind_of free, zero_kind)))
    (λ other. ⊎_elim (λ (more : kind_of block ≡ 2). absurd (omega arith)) (λ (entry : IsEntryBlock block). entry) other)
    is

replaced_in : (old new : List ℕ) (r : Registry) (id : ℤ) (e : PrEntry) (k : ℕ) → IsLaidOut old r → IsRegistry r → IsRecord e → e.id ≡ id
    → k < block_count old → has_id id (block_in old k) ≡ true → IsPut 2112 k (with_fields e (block_in old k)) old new (block_count old)
    → IsLaidOut new (with_entry e r)
replaced_in old new r id e k laid valid is same below has put =
    let len = block_len old k (block_count old) laid.size below in
    let p = id_parts id (block_in old k) has in
    let parts = entry_parts (block_in old k) (laid.blocks k below) p.0 in
    let step : IsStep old new k (block_count old)
    (with_fields e (block_in old k)) = record { put = put; below = below; kept = omega arith; only = λ j less other. less } in
    let alone : IsAlone old k e.id = subst (IsAlone old k) (sym same) (alone_at old r id k laid below has) in
    laid_from new (block_count old) (with_entry e r) put.size (put.front ∙ laid.head)
    (have_new old new k (block_count old) (with_fields e (block_in old k)) e.id (Some e) r laid valid step alone
    (new_content e (block_in old k) len is)
    (is_block_with e (block_in old k) len is.fields parts.chains parts.behind))

pub holds_replaced : (image : List ℕ) (r : Registry) (id : ℤ) (e : PrEntry) → Holds image r → IsRecord e → MayReplace id e r
    → first_block (has_id id) (whole image) < block_count (whole image) → Holds (after_replace id e image) (with_entry e r)
unfolding after_replace
holds_replaced image r id e holds is may below =
    let old = whole image in
    let k = first_block (has_id id) old in
    let n = block_count old in
    let block = with_fields e (block_in old k) in
    let has : has_id id (block_in old k) ≡ true = first_met (λ j. has_id id (block_in old j)) 0 n (omega arith) in
    let valid = registry_replaced r id e holds.valid is may in
    let len : length block ≡ 192 = length-with_fields e (block_in old k) (block_len old k n holds.laid.size below) is.fields.name_len in
    ⊎_elim
    (λ (same : bytes_eq block (block_in old k) ≡ true).
    let put : IsPut 2112 k block old old n =
    record {
      size = holds.laid.size;
      front = refl;
      here = sym
          ((bytes_eq-Decides block (block_in old k)).0 same);
      others = λ j less other. refl;
    } in
    rw same (record { valid = valid; laid = replaced_in old old r id e k holds.laid holds.valid is may.same_id below has put }))
    (λ (other : bytes_eq block (block_in old k) ≡ false).
    rw other (holds_from (with_block k block old) (with_entry e r) valid
    (replaced_in old (with_block k block old) r id e k holds.laid holds.valid is may.same_id below has
    (put_block 2112 old block k n holds.laid.size len below))))
    (cases_Bool (bytes_eq block (block_in old k)))

-- ---- one entry less

pub holds_removed : (image : List ℕ) (r : Registry) (id : ℤ) → Holds image r → MayBeRemoved id r
    → first_block (has_id id) (whole image) < block_count (whole image) → Holds (after_remove id image) (without_entry id r)
unfolding after_remove
holds_removed image r id holds may below =
    let old = whole image in
    let k = first_block (has_id id) old in
    let n = block_count old in
    let has : has_id id (block_in old k) ≡ true = first_met (λ j. has_id id (block_in old j)) 0 n (omega arith) in
    let step = step_in old (zeros 192) k r holds.laid zeros_len below in
    holds_from (with_block k (zeros 192) old) (without_entry id r) (registry_removed r id holds.valid may)
    (laid_from (with_block k (zeros 192) old) n (without_entry id r) step.put.size (step.put.front ∙ holds.laid.head)
    (have_new old (with_block k (zeros 192) old) k n (zeros 192) id None r holds.laid holds.valid step
    (alone_at old r id k holds.laid below has)
    (λ kind. omega (arith, kind, zero_kind)) (inl refl)))

-- ---- other maxima

fits_max : (z : ℤ) → negsuc 2147483646 ≤ℤ z → z ≤ℤ pos 2147483647 → FitsSigned w32 z
fits_max (pos n) low high = record { sfits = omega (arith, ints) }
fits_max (negsuc n) low high = record { sfits = omega (arith, ints) }

max_user_at : (user group : ℤ) (n : ℕ) (rest : List ℕ) → FitsSigned w32 user → signed_at (head_with user group n ++ rest) 8 ≡ user
unfolding words
max_user_at user group n rest fits =
    ap (cast_signed w32) (from_be_bytes-to_be_bytes_4 (bits user) (bits_below user fits)) ∙ to_z-of_z w32 user fits

max_group_at : (user group : ℤ) (n : ℕ) (rest : List ℕ) → FitsSigned w32 group → signed_at (head_with user group n ++ rest) 12 ≡ group
unfolding words
max_group_at user group n rest fits =
    ap (cast_signed w32) (from_be_bytes-to_be_bytes_4 (bits group) (bits_below group fits)) ∙ to_z-of_z w32 group fits

pub maxima_of : (image : List ℕ) (r : Registry) → IsLaidOut image r → AreMaxima r.max_user r.max_group
    → maxima_in image ≡ (r.max_user, r.max_group)
maxima_of image r laid max =
    let split : image ≡ head_with r.max_user r.max_group (block_count image) ++ drop 2112 image =
    sym (take-append-drop 2112 image) ∙ ap (λ (h : List ℕ). h ++ drop 2112 image) laid.head in
    let user : signed_at image 8 ≡ r.max_user = ap (λ (i : List ℕ). signed_at i 8) split
    ∙ max_user_at r.max_user r.max_group (block_count image) (drop 2112 image)
    (fits_max r.max_user (omega (arith, ints, max.user_low)) max.user_high) in
    let group : signed_at image 12 ≡ r.max_group = ap (λ (i : List ℕ). signed_at i 12) split
    ∙ max_group_at r.max_user r.max_group (block_count image) (drop 2112 image)
    (fits_max r.max_group max.group_low (omega (arith, ints, max.group_high))) in
    ap (λ (u : ℤ). (u, signed_at image 12)) user ∙ ap (λ (g : ℤ). (r.max_user, g)) group

maxima_set : (image : List ℕ) (r : Registry) (user group : ℤ) → IsLaidOut image r
    → IsLaidOut (changed image (Put 8 (word (bits user) ++ word (bits group)))) (with_maxima user group r)
maxima_set image r user group laid =
    let n = block_count image in
    let put = put_maxima image r.max_user r.max_group user group n laid.size laid.head in
    laid_from (changed image (Put 8 (word (bits user) ++ word (bits group)))) n (with_maxima user group r) (put.size ∙ laid.size) put.head
    (have_same image (changed image (Put 8 (word (bits user) ++ word (bits group)))) n r.entry put.others (blocks_of_laid image r laid))

maxima_kept : (image : List ℕ) (r : Registry) (user group : ℤ) → IsLaidOut image r → r.max_user ≡ user → r.max_group ≡ group
    → IsLaidOut image (with_maxima user group r)
maxima_kept image r user group laid u g =
    laid_from image (block_count image) (with_maxima user group r) laid.size
    (laid.head ∙ ap (λ (z : ℤ). head_with z r.max_group (block_count image)) u ∙ ap (λ (z : ℤ). head_with user z (block_count image)) g)
    (blocks_of_laid image r laid)

pub holds_maxima : (image : List ℕ) (r : Registry) (user group : ℤ) → Holds image r → AreMaxima user group
    → Holds (after_set_maxima user group image) (with_maxima user group r)
unfolding after_set_maxima
holds_maxima image r user group holds max =
    let old = whole image in
    let told = maxima_of old r holds.laid holds.valid.maxima in
    let valid = registry_maxima r user group holds.valid max in
    let same_user = int_eq (signed_at old 8) user in
    let same_group = int_eq (signed_at old 12) group in
    ⊎_elim
    (λ (same : (int_eq (signed_at old 8) user && int_eq (signed_at old 12) group) ≡ true).
    let p = and_parts (int_eq (signed_at old 8) user) (int_eq (signed_at old 12) group) same in
    let u : r.max_user ≡ user = sym (ap (λ (m : ℤ × ℤ). m.0) told) ∙ (Decides-int_eq (signed_at old 8) user).0 p.0 in
    let g : r.max_group ≡ group = sym (ap (λ (m : ℤ × ℤ). m.1) told) ∙ (Decides-int_eq (signed_at old 12) group).0 p.1 in
    rw same (record { valid = valid; laid = maxima_kept old r user group holds.laid u g }))
    (λ (other : (int_eq (signed_at old 8) user && int_eq (signed_at old 12) group) ≡ false).
    rw other (holds_from (changed old (Put 8 (word (bits user) ++ word (bits group)))) (with_maxima user group r) valid
    (maxima_set old r user group holds.laid)))
    (cases_Bool (int_eq (signed_at old 8) user && int_eq (signed_at old 12) group))
