-- A block of a draft against the same block beneath.
use Rattle.std.proofs.Common.{◌≡◌, ◌≢◌, ℕ, ◌+◌, ◌-◌, ◌<◌, ◌≤◌, min, Bool, Option, Some, None, IsSome, Result, Ok, Err, IfOk, OnOk, List, [], ◌∷◌, ◌++◌, length, slice_index, take, drop, replicate, true, false, cond, refl, sym, ap, subst, ◌∙◌, ⊎_elim, arith}
use Rattle.std.specs.Str.{bytes_eq}
use Rattle.std.proofs.lemmas.Bool.{cases_lt}
use Rattle.std.proofs.lemmas.List.{ext_get_or, get_or-take, get_or-drop, get_or_past, get_or-replicate, length-take, length-take-le, length-drop, length-replicate, append-nil}
use Rattle.std.proofs.lemmas.Slice.Eq.{bytes_eq-Decides}
use Rattle.ubik_types.specs.declared.images.Change.{Change}
use Rattle.ubik_types.specs.declared.images.Change.TheVariants.{Put}
use Rattle.db_image.specs.declared.overlays.Overlay.{Overlay}
use Rattle.db_image.specs.declared.overlays.ChangedBlock.{ChangedBlock}
use Rattle.db_image.specs.Blocks.{block_at, block_change}
use Rattle.db_image.specs.Places.{block_number, block_start, block_size}
use Rattle.db_image.specs.Draft.{changed_at, byte_of, bytes_over, IsLaid, IsChangeOf}
use Rattle.db_image.proofs.BlockNumbers.{number_same}
use Rattle.db_image.proofs.Bytes.{byte_in}
use Rattle.db_image.proofs.Covering.{bytes_at, bytes_len}
use Rattle.db_image.proofs.Steps.{block_at_past}

pub block_length : (xs : List ℕ) (at size : ℕ) → length (block_at xs at size) ≡ min size (length xs - at)
block_length xs at size = length-take size (drop at xs) ∙ ap (min size) (length-drop at xs)

pub block_index : (xs : List ℕ) (at size i : ℕ) → i < size → slice_index (block_at xs at size) i ≡ slice_index xs (at + i)
block_index xs at size i below = get_or-take size (drop at xs) i 0 below ∙ get_or-drop at xs i 0

-- a byte of a block of the draft
index_over : (o : Overlay) (beneath : List ℕ) (number i : ℕ) → i < block_size o.layout number → block_start o.layout number + i < o.len
    → slice_index (block_at (bytes_over o beneath) (block_start o.layout number) (block_size o.layout number)) i
    ≡ byte_of (changed_at o number) i (slice_index beneath (block_start o.layout number + i))
index_over o beneath number i below within =
    block_index (bytes_over o beneath) (block_start o.layout number) (block_size o.layout number) i below
    ∙ bytes_at o beneath (block_start o.layout number + i) within
    ∙ byte_in o number i (block_start o.layout number + i) (slice_index beneath (block_start o.layout number + i)) refl below

length_over : (o : Overlay) (beneath : List ℕ) (at size : ℕ) → length (block_at (bytes_over o beneath) at size) ≡ min size (o.len - at)
length_over o beneath at size = block_length (bytes_over o beneath) at size ∙ ap (λ (n : ℕ). min size (n - at)) (bytes_len o beneath)

-- a changed block
changed_new : (o : Overlay) (size number count : ℕ) (beneath : List ℕ) (b : ChangedBlock) → IsLaid o size (Some beneath) → changed_at o number ≡ Some b
    → count ≡ min (o.len - block_start o.layout number) (block_size o.layout number)
    → take count b.new.items ≡ block_at (bytes_over o beneath) (block_start o.layout number) (block_size o.layout number)
changed_new o size number count beneath b laid is enough =
    let at : ℕ = block_start o.layout number in
    let whole : length b.new.items ≡ block_size o.layout number = (laid.each number b is).full in
    let short : length (take count b.new.items) ≡ count = length-take-le count b.new.items (omega (arith, whole, enough)) in
    ext_get_or 0 (take count b.new.items) (block_at (bytes_over o beneath) at (block_size o.layout number))
    (omega (arith, short, enough, length_over o beneath at (block_size o.layout number)))
    (λ i below.
    get_or-take count b.new.items i 0 (omega (arith, below, short))
    ∙ sym (index_over o beneath number i (omega (arith, below, short, enough)) (omega (arith, below, short, enough))
    ∙ ap (λ (d : Option ChangedBlock). byte_of d i (slice_index beneath (at + i))) is))

pub change_changed : (o : Overlay) (size number at count : ℕ) (beneath : List ℕ) (b : ChangedBlock) (found : Option (List ℕ)) → IsLaid o size (Some beneath)
    → at ≡ block_start o.layout number → changed_at o number ≡ Some b → count ≡ min (o.len - at) (block_size o.layout number)
    → IsChangeOf b.old.items (take count b.new.items) found
    → IsChangeOf (block_at beneath at (block_size o.layout number)) (block_at (bytes_over o beneath) at (block_size o.layout number)) found
change_changed o size number at count beneath b found laid starts is enough change =
    let new = changed_new o size number count beneath b laid is (enough ∙ ap (λ (n : ℕ). min (o.len - n) (block_size o.layout number)) starts) in
    let old : b.old.items ≡ block_at beneath (block_start o.layout number) (block_size o.layout number) = (laid.each number b is).old beneath refl in
    subst (λ (n : ℕ). IsChangeOf (block_at beneath n (block_size o.layout number)) (block_at (bytes_over o beneath) n (block_size o.layout number)) found) (sym starts)
    (subst (λ (xs : List ℕ). IsChangeOf xs (block_at (bytes_over o beneath) (block_start o.layout number) (block_size o.layout number)) found) old
    (subst (λ (xs : List ℕ). IsChangeOf b.old.items xs found) new change))

no_block : (b : Option ChangedBlock) → b ≡ None → IsSome b → ⊥
no_block None none is = cc
no_block (Some b) none is = cc

-- the block in which the image ends is a changed one, so another one ends before
ends_before : (o : Overlay) (size number : ℕ) (beneath : List ℕ) → IsLaid o size (Some beneath) → changed_at o number ≡ None → block_start o.layout number < size → size < o.len
    → block_start o.layout number + block_size o.layout number ≤ size
ends_before o size number beneath laid none begins grows =
    ⊎_elim
    (λ (inside : size < block_start o.layout number + block_size o.layout number).
    let here : block_number o.layout size ≡ number = number_same o.layout number size (omega arith) inside in
    let there : IsSome (changed_at o number) = subst (λ (k : ℕ). IsSome (changed_at o k)) here (laid.grown grows) in
    absurd (no_block (changed_at o number) none there))
    (λ (before : block_start o.layout number + block_size o.layout number ≤ size). before)
    (cases_lt size (block_start o.layout number + block_size o.layout number))

kept_block : (o : Overlay) (size number : ℕ) (beneath : List ℕ) → IsLaid o size (Some beneath) → changed_at o number ≡ None → block_start o.layout number < size
    → block_at (bytes_over o beneath) (block_start o.layout number) (block_size o.layout number) ≡ block_at beneath (block_start o.layout number) (block_size o.layout number)
kept_block o size number beneath laid none begins =
    let at : ℕ = block_start o.layout number in
    let told : length beneath ≡ size = laid.told beneath refl in
    let new : length (block_at (bytes_over o beneath) at (block_size o.layout number)) ≡ min (block_size o.layout number) (o.len - at) =
    length_over o beneath at (block_size o.layout number) in
    let old : length (block_at beneath at (block_size o.layout number)) ≡ min (block_size o.layout number) (size - at) =
    block_length beneath at (block_size o.layout number) ∙ ap (λ (n : ℕ). min (block_size o.layout number) (n - at)) told in
    let same : min (block_size o.layout number) (o.len - at) ≡ min (block_size o.layout number) (size - at) =
    ⊎_elim
    (λ (grows : size < o.len). omega (arith, ends_before o size number beneath laid none begins grows, grows))
    (λ (is : o.len ≤ size). omega (arith, laid.longer, is))
    (cases_lt size o.len) in
    ext_get_or 0 (block_at (bytes_over o beneath) at (block_size o.layout number)) (block_at beneath at (block_size o.layout number)) (new ∙ same ∙ sym old)
    (λ i below.
    index_over o beneath number i (omega (arith, below, new)) (omega (arith, below, new))
    ∙ ap (λ (d : Option ChangedBlock). byte_of d i (slice_index beneath (at + i))) none
    ∙ sym (block_index beneath at (block_size o.layout number) i (omega (arith, below, new))))

zero_block : (o : Overlay) (size number count : ℕ) (beneath : List ℕ) → IsLaid o size (Some beneath) → changed_at o number ≡ None → size ≤ block_start o.layout number
    → count ≡ min (o.len - block_start o.layout number) (block_size o.layout number)
    → replicate count 0 ≡ block_at (bytes_over o beneath) (block_start o.layout number) (block_size o.layout number)
zero_block o size number count beneath laid none past enough =
    let at : ℕ = block_start o.layout number in
    let told : length beneath ≡ size = laid.told beneath refl in
    let zeros : List ℕ = replicate count 0 in
    let long : length zeros ≡ count = length-replicate count 0 in
    ext_get_or 0 zeros (block_at (bytes_over o beneath) at (block_size o.layout number))
    (omega (arith, long, enough, length_over o beneath at (block_size o.layout number)))
    (λ i below.
    get_or-replicate count i 0 0 (omega (arith, below, long))
    ∙ sym (index_over o beneath number i (omega (arith, below, long, enough)) (omega (arith, below, long, enough))
    ∙ ap (λ (d : Option ChangedBlock). byte_of d i (slice_index beneath (at + i))) none
    ∙ get_or_past beneath (at + i) 0 (omega (arith, told, past))))

-- a block that was not changed, and that the image has
pub change_none : (o : Overlay) (size number at : ℕ) (beneath : List ℕ) → IsLaid o size (Some beneath) → at ≡ block_start o.layout number → changed_at o number ≡ None → at < size
    → block_at (bytes_over o beneath) at (block_size o.layout number) ≡ block_at beneath at (block_size o.layout number)
change_none o size number at beneath laid starts none begins =
    subst (λ (n : ℕ). block_at (bytes_over o beneath) n (block_size o.layout number) ≡ block_at beneath n (block_size o.layout number)) (sym starts)
    (kept_block o size number beneath laid none (omega (arith, starts, begins)))

-- a block without bytes
pub change_empty : (o : Overlay) (size number at : ℕ) (beneath : List ℕ) → IsLaid o size (Some beneath) → min (o.len - at) (block_size o.layout number) ≡ 0
    → block_at (bytes_over o beneath) at (block_size o.layout number) ≡ block_at beneath at (block_size o.layout number)
change_empty o size number at beneath laid none =
    let new = length_over o beneath at (block_size o.layout number) in
    let old = block_length beneath at (block_size o.layout number) in
    ext_get_or 0 (block_at (bytes_over o beneath) at (block_size o.layout number)) (block_at beneath at (block_size o.layout number))
    (omega (arith, new, old, laid.told beneath refl, laid.longer, none))
    (λ i below. absurd (omega (arith, new, none, below)))

-- a block that was not changed behind the image's end
pub change_zero : (o : Overlay) (size number at count : ℕ) (beneath : List ℕ) (found : Option (List ℕ)) → IsLaid o size (Some beneath) → at ≡ block_start o.layout number
    → changed_at o number ≡ None → size ≤ at → count ≡ min (o.len - at) (block_size o.layout number) → IsChangeOf [] (replicate count 0) found
    → IsChangeOf (block_at beneath at (block_size o.layout number)) (block_at (bytes_over o beneath) at (block_size o.layout number)) found
change_zero o size number at count beneath found laid starts none past enough change =
    let empty : [] ≡ block_at beneath at (block_size o.layout number) =
    sym (block_at_past beneath at (block_size o.layout number) (omega (arith, laid.told beneath refl, past))) in
    let zeros : replicate count 0 ≡ block_at (bytes_over o beneath) at (block_size o.layout number) =
    subst (λ (n : ℕ). replicate count 0 ≡ block_at (bytes_over o beneath) n (block_size o.layout number)) (sym starts)
    (zero_block o size number count beneath laid none (omega (arith, past, starts)) (enough ∙ ap (λ (n : ℕ). min (o.len - n) (block_size o.layout number)) starts)) in
    subst (λ (xs : List ℕ). IsChangeOf xs (block_at (bytes_over o beneath) at (block_size o.layout number)) found) empty
    (subst (λ (xs : List ℕ). IsChangeOf [] xs found) zeros change)

-- a block that is the same is not put
pub change_same : (old new : List ℕ) (at size : ℕ) → block_at new at size ≡ block_at old at size → block_change old new at size ≡ []
change_same old new at size same =
    ap (λ b. cond b [] (Put at (block_at new at size) ∷ [])) ((bytes_eq-Decides (block_at new at size) (block_at old at size)).1 same)

-- the change of a block, pushed or not
pub push_none : (old new : List ℕ) (at size : ℕ) (changes : List Change) → block_at new at size ≡ block_at old at size → changes ≡ changes ++ block_change old new at size
push_none old new at size changes same =
    sym (append-nil changes) ∙ ap (λ (xs : List Change). changes ++ xs) (sym (change_same old new at size same))

not_true : (b : Bool) → ¬ (b ≡ true) → b ≡ false
not_true true no_way = absurd (no_way refl)
not_true false no_way = refl

pub push_some : (old new : List ℕ) (at size : ℕ) (changes : List Change) (bytes : List ℕ) → bytes ≡ block_at new at size → block_at new at size ≢ block_at old at size
    → changes ++ Put at bytes ∷ [] ≡ changes ++ block_change old new at size
push_some old new at size changes bytes is other =
    let test : bytes_eq (block_at new at size) (block_at old at size) ≡ false =
    not_true (bytes_eq (block_at new at size) (block_at old at size)) (λ same. other ((bytes_eq-Decides (block_at new at size) (block_at old at size)).0 same)) in
    ap (λ (b : List ℕ). changes ++ Put at b ∷ []) is
    ∙ ap (λ b. changes ++ cond b [] (Put at (block_at new at size) ∷ [])) (sym test)

pub map_ok : {X E : Type 0} (r : Result X E) (P Q : X → Type 0) → ((x : X) → P x → Q x) → IfOk r P → IfOk r Q
map_ok (Ok x) P Q so is = so x is
map_ok (Err e) P Q so is = tt

pub map_on_ok : {X E : Type 0} (r : Result X E) (P Q : Type 0) → (P → Q) → OnOk r P → OnOk r Q
map_on_ok (Ok x) P Q so is = so is
map_on_ok (Err e) P Q so is = tt
