-- A block that is loaded: the draft has the same bytes.
use Rattle.std.proofs.Common.{◌≡◌, ◌≢◌, ℕ, ◌+◌, ◌-◌, ◌<◌, ◌≤◌, min, Option, Some, None, IsSome, is_some, false, List, ◌++◌, length, slice_index, replicate, refl, sym, ap, subst, ◌∙◌, ⊎_elim, arith}
use Rattle.std.specs.Option.{ForSome}
use Rattle.std.proofs.lemmas.Bool.{cases_lt, cases_eq}
use Rattle.std.proofs.lemmas.List.{places, length-append, length-replicate}
use Rattle.db_image.specs.declared.overlays.Overlay.{Overlay}
use Rattle.db_image.specs.declared.overlays.ChangedBlock.{ChangedBlock}
use Rattle.db_image.specs.declared.services.Layout.{Layout}
use Rattle.db_image.specs.Blocks.{block_at}
use Rattle.db_image.specs.Places.{block_number, block_start, block_size}
use Rattle.db_image.specs.Draft.{changed_at, byte_of, byte_over, IsChanged, IsLaid, Keeps, Replaces, SameBytes}
use Rattle.db_image.proofs.BlockNumbers.{lies_in}
use Rattle.db_image.proofs.Bytes.{byte_in}

-- a block as it stands beneath, in an image of so many bytes
pub record IsFresh (l : Layout) (size : ℕ) (beneath : Option (List ℕ)) (k : ℕ) (b : ChangedBlock) : Type 0 where
  pub bytes : ForSome beneath (λ bytes. b.old.items ≡ block_at bytes (block_start l k) (block_size l k))
  pub len : length b.old.items ≡ min (size - block_start l k) (block_size l k)
  pub new : b.new.items ≡ b.old.items ++ replicate (block_size l k - length b.old.items) 0

padded_past : (xs : List ℕ) (n i : ℕ) → length xs ≤ i → slice_index (xs ++ replicate n 0) i ≡ 0
padded_past xs n i past =
    ⊎_elim (λ (in_zeros : i - length xs < n). grind (arith, places)) (λ (behind : n ≤ i - length xs). grind (arith, places))
    (cases_lt (i - length xs) n)

padded_at : (bytes : List ℕ) (start size i : ℕ) → i < size
    → slice_index (block_at bytes start size ++ replicate (size - length (block_at bytes start size)) 0) i ≡ slice_index bytes (start + i)
padded_at bytes start size i within =
    ⊎_elim
    (λ (there : i < length (block_at bytes start size)). grind (arith, places))
    (λ (past : length (block_at bytes start size) ≤ i). padded_past (block_at bytes start size) _ i past ∙ grind (arith, places))
    (cases_lt i (length (block_at bytes start size)))

-- what the byte at a position is, by its block
pub byte_is : (o : Overlay) (at beneath : ℕ)
    → byte_over o at beneath ≡ byte_of (changed_at o (block_number o.layout at))
    (at - block_start o.layout (block_number o.layout at)) beneath
unfolding byte_over
byte_is o at beneath = refl

-- where a block is as it was, so are its bytes
pub byte_stays : (o n : Overlay) (at beneath : ℕ) → n.layout ≡ o.layout
    → changed_at n (block_number o.layout at) ≡ changed_at o (block_number o.layout at)
    → byte_over n at beneath ≡ byte_over o at beneath
byte_stays o n at beneath layout same =
    byte_is n at beneath
    ∙ ap (λ (l : Layout). byte_of (changed_at n (block_number l at)) (at - block_start l (block_number l at)) beneath) layout
    ∙ ap (λ (b : Option ChangedBlock). byte_of b (at - block_start o.layout (block_number o.layout at)) beneath) same
    ∙ sym (byte_is o at beneath)

pub keeps_laid : (o n : Overlay) (size : ℕ) (beneath : Option (List ℕ)) → Keeps o n → IsLaid o size beneath → IsLaid n size beneath
keeps_laid o n size beneath keeps laid = record {
  block = rw keeps.layout laid.block;
  told = laid.told;
  longer = rw keeps.len laid.longer;
  each = λ k b is. rw (keeps.layout, keeps.len) (laid.each k b (sym (keeps.blocks k) ∙ is));
  grown = λ grows. rw (keeps.layout, keeps.blocks (block_number o.layout size)) (laid.grown (omega (arith, keeps.len)));
}

pub keeps_same : (o n : Overlay) (beneath : Option (List ℕ)) → Keeps o n → SameBytes beneath o n
keeps_same o n beneath keeps = record {
  bytes = λ bytes is at. byte_stays o n at (slice_index bytes at) keeps.layout (keeps.blocks (block_number o.layout at));
  len = keeps.len;
  layout = keeps.layout;
  kept = λ k is. rw (keeps.blocks k) is;
}

-- a changed block stays one
pub is_kept : (o n : Overlay) (k : ℕ) (b : ChangedBlock) (q : ℕ) → Replaces k b o n → IsSome (changed_at o q) → IsSome (changed_at n q)
is_kept o n k b q replaces is =
    ⊎_elim
    (λ (same : q ≡ k). rw (same, replaces.here) refl)
    (λ (other : q ≢ k). rw (replaces.others q other) is)
    (cases_eq q k)

-- a byte of a block that was loaded is that beneath
loaded_byte : (o n : Overlay) (size : ℕ) (bytes : List ℕ) (k : ℕ) (b : ChangedBlock) (at : ℕ) → 0 < o.layout.block
    → changed_at o k ≡ None → Replaces k b o n
    → b.old.items ≡ block_at bytes (block_start o.layout k) (block_size o.layout k)
    → b.new.items ≡ b.old.items ++ replicate (block_size o.layout k - length b.old.items) 0
    → block_number o.layout at ≡ k → byte_over n at (slice_index bytes at) ≡ byte_over o at (slice_index bytes at)
loaded_byte o n size bytes k b at some absent replaces old new here =
    let lies : (block_start o.layout k ≤ at) × (at < block_start o.layout k + block_size o.layout k) =
    subst (λ (q : ℕ). (block_start o.layout q ≤ at) × (at < block_start o.layout q + block_size o.layout q))
    here (lies_in o.layout at some) in
    let i : ℕ = at - block_start o.layout k in
    let e : block_start o.layout k + i ≡ at = omega (arith, lies.0) in
    let x : ℕ = slice_index bytes at in
    let after : byte_over n at x ≡ slice_index b.new.items i =
    byte_in n k i at x (rw replaces.layout e) (rw replaces.layout (omega (arith, lies.1, lies.0)))
    ∙ ap (λ (c : Option ChangedBlock). byte_of c i x) replaces.here in
    let before : byte_over o at x ≡ x =
    byte_in o k i at x e (omega (arith, lies.1, lies.0)) ∙ ap (λ (c : Option ChangedBlock). byte_of c i x) absent in
    after
    ∙ ap (λ (c : List ℕ). slice_index c i) (new ∙ ap (λ (c : List ℕ). c ++ replicate (block_size o.layout k - length c) 0) old)
    ∙ padded_at bytes (block_start o.layout k) (block_size o.layout k) i (omega (arith, lies.1, lies.0))
    ∙ ap (slice_index bytes) e
    ∙ sym before

-- a loaded block is as a changed block has to be
fresh_is_changed : (l : Layout) (size len : ℕ) (beneath : Option (List ℕ)) (k : ℕ) (b : ChangedBlock) → size ≤ len
    → IsFresh l size beneath k b → IsChanged l size len beneath k b
fresh_is_changed l size len beneath k b longer fresh = record {
  full = ap length fresh.new ∙ simp (length-append, length-replicate) (omega (arith, fresh.len));
  zero = λ i past. ap (λ (bytes : List ℕ). slice_index bytes i) fresh.new ∙ padded_past b.old.items _ i (omega (arith, fresh.len));
  old = fresh.bytes;
  had = fresh.len;
}

pub loads_laid : (o n : Overlay) (size : ℕ) (beneath : Option (List ℕ)) (k : ℕ) (b : ChangedBlock) → IsLaid o size beneath
    → Replaces k b o n
    → IsFresh o.layout size beneath k b → IsLaid n size beneath
loads_laid o n size beneath k b laid replaces fresh = record {
  block = rw replaces.layout laid.block;
  told = laid.told;
  longer = rw replaces.len laid.longer;
  each = λ q c is.
      rw (replaces.layout, replaces.len)
      (⊎_elim
      (λ (same : q ≡ k).
      let this : b ≡ c = cc (replaces.here, is, same) in
      subst (λ (d : ChangedBlock). IsChanged o.layout size o.len beneath q d) this
      (subst (λ (r : ℕ). IsChanged o.layout size o.len beneath r b) (sym same)
      (fresh_is_changed o.layout size o.len beneath k b laid.longer fresh)))
      (λ (other : q ≢ k). laid.each q c (sym (replaces.others q other) ∙ is))
      (cases_eq q k));
  grown = λ grows. rw replaces.layout (is_kept o n k b (block_number o.layout size) replaces (laid.grown (omega (arith, replaces.len))));
}

pub loads_same : (o n : Overlay) (size : ℕ) (beneath : Option (List ℕ)) (k : ℕ) (b : ChangedBlock) → 0 < o.layout.block
    → changed_at o k ≡ None → Replaces k b o n
    → IsFresh o.layout size beneath k b → SameBytes beneath o n
loads_same o n size beneath k b some absent replaces fresh = record {
  bytes = λ bytes is at.
      ⊎_elim
      (λ (same : block_number o.layout at ≡ k). loaded_byte o n size bytes k b at some absent replaces (fresh.bytes bytes is)
      fresh.new same)
      (λ (other : block_number o.layout at ≢ k). byte_stays o n at (slice_index bytes at) replaces.layout (replaces.others _ other))
      (cases_eq (block_number o.layout at) k);
  len = replaces.len;
  layout = replaces.layout;
  kept = λ q is. is_kept o n k b q replaces is;
}

pub absent_block : (b : Option ChangedBlock) → is_some b ≡ false → b ≡ None
absent_block None none = refl
absent_block (Some b) none = cc
