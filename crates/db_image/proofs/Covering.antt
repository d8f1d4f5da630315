-- What a read of a draft shows.
use Rattle.std.proofs.Common.{◌≡◌, ℕ, ◌+◌, ◌-◌, ◌<◌, ◌≤◌, min, Option, Some, None, IfSome, IsSomeAnd, List, length, slice_index, take, drop, refl, sym, ap, ◌∙◌, ⊎_elim, arith}
use Rattle.std.specs.Option.{option_map}
use Rattle.std.proofs.lemmas.Bool.{cases_lt}
use Rattle.std.proofs.lemmas.List.{ext_get_or, get_or-take, get_or-drop, get_or_past, length-take-le, length-drop}
use Rattle.std.proofs.lemmas.List.FromFn.{length-map-range_with_len, get_or-map-range_with_len}
use Rattle.db_image.specs.declared.overlays.Overlay.{Overlay}
use Rattle.db_image.specs.declared.overlays.ChangedBlock.{ChangedBlock}
use Rattle.db_image.specs.Places.{block_number, block_start}
use Rattle.db_image.specs.Draft.{changed_at, byte_of, byte_over, bytes_over, IsLaid, IsFull, ShowsFrom}
use Rattle.db_image.proofs.Loading.{byte_is}

-- nothing of the image lies there
pub padded_none : (held : Option (List ℕ)) (size at : ℕ) (now : List ℕ) → IfSome held (λ bytes. length bytes ≡ size)
    → min (size - at) (length now) ≡ 0
    → ((i : ℕ) → slice_index now i ≡ 0) → IfSome held (λ bytes. ShowsFrom at bytes now)
padded_none None size at now told none zero = tt
padded_none (Some bytes) size at now told none zero = λ i below. zero i
    ∙ sym (get_or_past bytes (at + i) 0 (omega (arith, told, none, below)))

-- the image's bytes were read over zero bytes
pub padded_front : (held : Option (List ℕ)) (size at n : ℕ) (cleared now : List ℕ) → IfSome held (λ bytes. length bytes ≡ size)
    → n ≡ min (size - at) (length now)
    → ((i : ℕ) → slice_index cleared i ≡ 0) → drop n now ≡ drop n cleared → IfSome held (λ bytes. take n now ≡ take n (drop at bytes))
    → IfSome held (λ bytes. ShowsFrom at bytes now)
padded_front None size at n cleared now told count zero behind front = tt
padded_front (Some bytes) size at n cleared now told count zero behind front = λ i below.
    ⊎_elim
    (λ (before : i < n).
    sym (get_or-take n now i 0 before) ∙ ap (λ (xs : List ℕ). slice_index xs i) front ∙ get_or-take n (drop at bytes) i 0 before
    ∙ get_or-drop at bytes i 0)
    (λ (past : n ≤ i).
    let e : n + (i - n) ≡ i = omega arith in
    ap (slice_index now) (sym e) ∙ sym (get_or-drop n now (i - n) 0) ∙ ap (λ (xs : List ℕ). slice_index xs (i - n)) behind
    ∙ get_or-drop n cleared (i - n) 0
    ∙ zero (n + (i - n)) ∙ sym (get_or_past bytes (at + i) 0 (omega (arith, told, count, past, below))))
    (cases_lt i n)

pub bytes_len : (o : Overlay) (beneath : List ℕ) → length (bytes_over o beneath) ≡ o.len
unfolding bytes_over
bytes_len o beneath = length-map-range_with_len _ 0 o.len

pub bytes_at : (o : Overlay) (beneath : List ℕ) (at : ℕ) → at < o.len
    → slice_index (bytes_over o beneath) at ≡ byte_over o at (slice_index beneath at)
unfolding bytes_over
bytes_at o beneath at below = get_or-map-range_with_len (λ (p : ℕ). byte_over o p (slice_index beneath p))
    0 o.len at at 0 below (omega arith)

-- the bytes that a draft shows are its own
pub read_is : (held : Option (List ℕ)) (o : Overlay) (at n : ℕ) (padded now : List ℕ) → at + n ≤ o.len → length now ≡ n
    → length padded ≡ n → IfSome held (λ bytes. ShowsFrom at bytes padded)
    → ((i : ℕ) → i < length now → slice_index now i ≡ byte_over o (at + i) (slice_index padded i))
    → IfSome held (λ bytes. now ≡ take n (drop at (bytes_over o bytes)))
read_is None o at n padded now within len long shows covered = tt
read_is (Some bytes) o at n padded now within len long shows covered =
    let all : List ℕ = bytes_over o bytes in
    let whole : length (take n (drop at all)) ≡ n = length-take-le n (drop at all) (omega (arith, length-drop at all, bytes_len o bytes)) in
    ext_get_or 0 now (take n (drop at all)) (len ∙ sym whole) (λ i below.
    covered i below
    ∙ ap (byte_over o (at + i)) (shows i (omega arith))
    ∙ sym (bytes_at o bytes (at + i) (omega arith))
    ∙ sym (get_or-take n (drop at all) i 0 (omega arith) ∙ get_or-drop at all i 0))

pub full_of : (o : Overlay) (size : ℕ) (held : Option (List ℕ)) → IsLaid o size held → IsFull o
full_of o size held laid k b is = (laid.each k b is).full

-- a draft in which nothing is changed has the bytes beneath
pub over_none : (held : Option (List ℕ)) (o : Overlay) → ((k : ℕ) → changed_at o k ≡ None)
    → IfSome held (λ bytes. length bytes ≡ o.len) → option_map (bytes_over o) held ≡ held
over_none None o none told = refl
over_none (Some bytes) o none told =
    ap Some (ext_get_or 0 (bytes_over o bytes) bytes (bytes_len o bytes ∙ sym told) (λ i below.
    bytes_at o bytes i (omega (arith, below, bytes_len o bytes))
    ∙ byte_is o i (slice_index bytes i)
    ∙ ap (λ (b : Option ChangedBlock). byte_of b (i - block_start o.layout (block_number o.layout i)) (slice_index bytes i))
    (none (block_number o.layout i))))

pub over_told : (held : Option (List ℕ)) (o : Overlay) → IfSome (option_map (bytes_over o) held) (λ bytes. length bytes ≡ o.len)
over_told None o = tt
over_told (Some bytes) o = bytes_len o bytes

-- where the bytes beneath are told, so are those over them
pub told_over : (held : Option (List ℕ)) (o : Overlay) → IfSome held (λ old. IsSomeAnd (option_map (bytes_over o) held) (λ new. length new ≡ o.len))
told_over None o = tt
told_over (Some bytes) o = bytes_len o bytes
