-- A put: the draft afterwards, and its bytes.
use Rattle.std.proofs.Common.{◌≡◌, ℕ, ◌+◌, ◌-◌, ◌<◌, ◌≤◌, max, Option, Some, None, Result, Ok, Err, OnErr, IsSome, IfSome, List, length, slice_index, refl, sym, ap, ◌∙◌, ⊎_elim, arith}
use Rattle.std.proofs.lemmas.Bool.{cases_lt}
use Rattle.std.proofs.lemmas.List.{places, ext_get_or, get_or_past}
use Rattle.ubik_types.specs.Image.{changed}
use Rattle.ubik_types.specs.declared.images.Change.TheVariants.{Put}
use Rattle.db_image.specs.declared.overlays.Overlay.{Overlay}
use Rattle.db_image.specs.declared.overlays.ChangedBlock.{ChangedBlock}
use Rattle.db_image.specs.Places.{block_number, block_start, block_size}
use Rattle.db_image.specs.Draft.{changed_at, byte_of, byte_over, bytes_over, IsChanged, IsFull, IsLaid, Lays, SameBytes}
use Rattle.db_image.proofs.Bytes.{byte_in}
use Rattle.db_image.proofs.Loading.{byte_is, byte_stays}
use Rattle.db_image.proofs.Covering.{bytes_at, bytes_len}

-- a draft of more bytes, of the same blocks
pub record Raises (end : ℕ) (old new : Overlay) : Type 0 where
  pub blocks : (k : ℕ) → changed_at new k ≡ changed_at old k
  pub layout : new.layout ≡ old.layout
  pub len : new.len ≡ max old.len end

pub raised_laid : (o n : Overlay) (end size : ℕ) (beneath : Option (List ℕ)) → IsLaid o size beneath → Raises end o n → (o.len < end
    → IsSome (changed_at o (block_number o.layout size)))
    → IsLaid n size beneath
raised_laid o n end size beneath laid raises grown = record {
  block = rw raises.layout laid.block;
  told = laid.told;
  longer = omega (arith, laid.longer, raises.len);
  each = λ k b is.
      let before : IsChanged o.layout size o.len beneath k b = laid.each k b (sym (raises.blocks k) ∙ is) in
      rw raises.layout record {
        full = before.full;
        zero = λ i past. before.zero i (omega (arith, past, raises.len));
        old = before.old;
        had = before.had;
      };
  grown = λ grows. rw (raises.layout, raises.blocks (block_number o.layout size))
      (⊎_elim
      (λ (was : size < o.len). laid.grown was)
      (λ (is : o.len ≤ size). grown (omega (arith, grows, raises.len, is, laid.longer)))
      (cases_lt size o.len));
}

-- the bytes of a block behind the end of a draft stay zero
zero_behind : (o n : Overlay) (at size : ℕ) (bytes : List ℕ) (beneath : Option (List ℕ)) (k : ℕ) (b c : ChangedBlock)
    → IsLaid o size beneath → at + length bytes ≤ o.len → Lays at bytes o n
    → changed_at o k ≡ Some b → changed_at n k ≡ Some c → length c.new.items ≡ block_size o.layout k → (i : ℕ)
    → o.len ≤ block_start o.layout k + i → slice_index c.new.items i ≡ 0
zero_behind o n at size bytes beneath k b c laid within lays was is full i past =
    ⊎_elim
    (λ (inside : i < block_size o.layout k).
    let p : ℕ = block_start o.layout k + i in
    sym (byte_in n k i p 0 (rw lays.layout refl) (rw lays.layout inside) ∙ ap (λ (d : Option ChangedBlock). byte_of d i 0) is)
    ∙ lays.behind p 0 (omega (arith, within, past))
    ∙ byte_in o k i p 0 refl inside
    ∙ ap (λ (d : Option ChangedBlock). byte_of d i 0) was
    ∙ (laid.each k b was).zero i past)
    (λ (outside : block_size o.layout k ≤ i). get_or_past c.new.items i 0 (omega (arith, outside, full)))
    (cases_lt i (block_size o.layout k))

pub lays_laid : (o n : Overlay) (at size : ℕ) (bytes : List ℕ) (beneath : Option (List ℕ)) → IsLaid o size beneath
    → at + length bytes ≤ o.len → Lays at bytes o n → IsFull n
    → IsLaid n size beneath
lays_laid o n at size bytes beneath laid within lays full = record {
  block = rw lays.layout laid.block;
  told = laid.told;
  longer = rw lays.len laid.longer;
  each = λ k c is.
      let before = lays.each k c is in
      let whole : length c.new.items ≡ block_size o.layout k = full k c is ∙ ap (λ l. block_size l k) lays.layout in
      rw (lays.layout, lays.len) record {
        full = whole;
        zero = zero_behind o n at size bytes beneath k before.0 c laid within lays before.1 is whole;
        old = λ xs has. before.2 ∙ (laid.each k before.0 before.1).old xs has;
        had = ap length before.2 ∙ (laid.each k before.0 before.1).had;
      };
  grown = λ grows. rw lays.layout (lays.kept _ (laid.grown (omega (arith, grows, lays.len))));
}

-- behind the end of a draft each byte is zero
past_zero : (o : Overlay) (size : ℕ) (bytes : List ℕ) (at : ℕ) (b : Option ChangedBlock) → IsLaid o size (Some bytes) → o.len ≤ at
    → changed_at o (block_number o.layout at) ≡ b
    → byte_of b (at - block_start o.layout (block_number o.layout at)) (slice_index bytes at) ≡ 0
past_zero o size bytes at None laid past is = get_or_past bytes at 0 (omega (arith, laid.told bytes refl, laid.longer, past))
past_zero o size bytes at (Some c) laid past is =
    (laid.each _ c is).zero (at - block_start o.layout (block_number o.layout at)) (omega arith)

-- each byte of a draft, also behind its end
shown : (o : Overlay) (size : ℕ) (bytes : List ℕ) (at : ℕ) → IsLaid o size (Some bytes)
    → slice_index (bytes_over o bytes) at ≡ byte_over o at (slice_index bytes at)
shown o size bytes at laid =
    ⊎_elim
    (λ (below : at < o.len). bytes_at o bytes at below)
    (λ (past : o.len ≤ at).
    get_or_past (bytes_over o bytes) at 0 (omega (arith, past, bytes_len o bytes))
    ∙ sym (byte_is o at (slice_index bytes at) ∙ past_zero o size bytes at (changed_at o (block_number o.layout at)) laid past refl))
    (cases_lt at o.len)

-- the bytes of an image after a put
changed_len : (image bytes : List ℕ) (at : ℕ) → length (changed image (Put at bytes)) ≡ max (length image) (at + length bytes)
changed_len image bytes at = grind (arith, places)

changed_before : (image bytes : List ℕ) (at p : ℕ) → p < at → slice_index (changed image (Put at bytes)) p ≡ slice_index image p
changed_before image bytes at p before =
    ⊎_elim (λ (there : p < length image). grind (arith, places)) (λ (past : length image ≤ p). grind (arith, places))
    (cases_lt p (length image))

changed_in : (image bytes : List ℕ) (at i : ℕ) → i < length bytes
    → slice_index (changed image (Put at bytes)) (at + i) ≡ slice_index bytes i
changed_in image bytes at i below = grind (arith, places)

changed_behind : (image bytes : List ℕ) (at p : ℕ) → at + length bytes ≤ p
    → slice_index (changed image (Put at bytes)) p ≡ slice_index image p
changed_behind image bytes at p behind = grind (arith, places)

-- what a put leaves: the draft with the blocks loaded, then raised, then laid over
pub put_bytes : (beneath : Option (List ℕ)) (o m r n : Overlay) (size at : ℕ) (bytes : List ℕ) → IsLaid o size beneath
    → SameBytes beneath o m → Raises (at + length bytes) m r
    → IsLaid n size beneath → Lays at bytes r n → IfSome beneath (λ xs. bytes_over n xs ≡ changed (bytes_over o xs) (Put at bytes))
put_bytes None o m r n size at bytes laid same raises after lays = tt
put_bytes (Some xs) o m r n size at bytes laid same raises after lays =
    let image : List ℕ = bytes_over o xs in
    let long : length (bytes_over n xs) ≡ length (changed image (Put at bytes)) =
    bytes_len n xs ∙ omega (arith, lays.len, raises.len, same.len, changed_len image bytes at, bytes_len o xs) in
    let was : (p : ℕ) → byte_over r p (slice_index xs p) ≡ slice_index image p =
    λ p. byte_stays m r p (slice_index xs p) raises.layout (raises.blocks (block_number m.layout p)) ∙ same.bytes xs refl p
    ∙ sym (shown o size xs p laid) in
    ext_get_or 0 (bytes_over n xs) (changed image (Put at bytes)) long (λ p below.
    shown n size xs p after
    ∙ ⊎_elim
    (λ (before : p < at). lays.before p (slice_index xs p) before ∙ was p ∙ sym (changed_before image bytes at p before))
    (λ (from : at ≤ p).
    ⊎_elim
    (λ (inside : p - at < length bytes).
    let e : at + (p - at) ≡ p = omega arith in
    ap (λ (q : ℕ). byte_over n q (slice_index xs p)) (sym e) ∙ lays.inside (p - at) (slice_index xs p) inside
    ∙ sym (changed_in image bytes at (p - at) inside) ∙ ap (slice_index (changed image (Put at bytes))) e)
    (λ (behind : length bytes ≤ p - at).
    lays.behind p (slice_index xs p) (omega arith) ∙ was p ∙ sym (changed_behind image bytes at p (omega arith)))
    (cases_lt (p - at) (length bytes)))
    (cases_lt p at))

-- two drafts of the same bytes have the same bytes
pub same_bytes : (beneath : Option (List ℕ)) (o m : Overlay) (size : ℕ) → IsLaid o size beneath → IsLaid m size beneath
    → SameBytes beneath o m
    → IfSome beneath (λ xs. bytes_over m xs ≡ bytes_over o xs)
same_bytes None o m size laid after same = tt
same_bytes (Some xs) o m size laid after same =
    ext_get_or 0 (bytes_over m xs) (bytes_over o xs) (bytes_len m xs ∙ same.len ∙ sym (bytes_len o xs)) (λ p below.
    shown m size xs p after ∙ same.bytes xs refl p ∙ sym (shown o size xs p laid))

-- after a put the draft is as it has to be
pub put_laid : (m r n : Overlay) (at size : ℕ) (bytes : List ℕ) (beneath : Option (List ℕ)) → Lays at bytes r n → IsFull n
    → IsLaid m size beneath
    → (m.len < at + length bytes → IsSome (changed_at m (block_number m.layout size))) → ((k : ℕ) → changed_at r k ≡ changed_at m k)
    → r.layout ≡ m.layout
    → r.len ≡ max m.len (at + length bytes) → IsLaid n size beneath
put_laid m r n at size bytes beneath lays full laid grown blocks layout len =
    lays_laid r n at size bytes beneath
    (raised_laid m r (at + length bytes) size beneath laid (record { blocks = blocks; layout = layout; len = len }) grown)
    (omega (arith, len)) lays full

-- and its bytes are those of the put
pub put_shows : (o m r n : Overlay) (at size : ℕ) (bytes : List ℕ) (beneath : Option (List ℕ)) → Lays at bytes r n
    → IsLaid n size beneath → IsLaid o size beneath → SameBytes beneath o m
    → ((k : ℕ) → changed_at r k ≡ changed_at m k) → r.layout ≡ m.layout → r.len ≡ max m.len (at + length bytes)
    → IfSome beneath (λ xs. bytes_over n xs ≡ changed (bytes_over o xs) (Put at bytes))
put_shows o m r n at size bytes beneath lays after laid same blocks layout len =
    put_bytes beneath o m r n size at bytes laid same (record { blocks = blocks; layout = layout; len = len }) after lays

pub on_err : {X E : Type 0} (r : Result X E) (P : Type 0) → P → OnErr r P
on_err (Ok x) P p = tt
on_err (Err e) P p = p
