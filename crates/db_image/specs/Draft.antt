-- A draft: an image beneath, and blocks that were changed over it.
use Rattle.std.specs.Prelude.{ℕ, zero, suc, ◌+◌, ◌-◌, ◌*◌, ◌<◌, ◌≤◌, ◌≡◌, ◌≢◌, List, [], Option, Some, None, IsSome, ◌++◌, length, map, min, take, drop, slice_index}
use Rattle.std.specs.BTreeMap.{get}
use Rattle.std.specs.List.{range_with_len}
use Rattle.std.specs.Option.{option_map_or, ForSome}
use Rattle.std.specs.Ordering.{nat_cmp}
use Rattle.ubik_types.specs.declared.images.Change.{Change}
use Rattle.db_image.specs.declared.services.Layout.{Layout}
use Rattle.db_image.specs.declared.overlays.ChangedBlock.{ChangedBlock}
use Rattle.db_image.specs.declared.overlays.Overlay.{Overlay}
use Rattle.db_image.specs.Blocks.{block_at, block_change}
use Rattle.db_image.specs.Places.{block_number, block_start, block_size}

-- what contracts see of a draft
pub record Drafted (I : Type 0) : Type 0 where
  -- the image beneath
  pub image : I
  -- its bytes with what was put into the draft, where the image tells its own
  pub bytes : Option (List ℕ)
  -- their number
  pub len : ℕ
  pub layout : Layout

-- two drafts of the same bytes
pub record StaysAsItWas {I : Type 0} (old new : Drafted I) : Type 0 where
  pub bytes : new.bytes ≡ old.bytes
  pub len : new.len ≡ old.len
  pub layout : new.layout ≡ old.layout

-- the changed block of a number
abbrev pub changed_at : Overlay → ℕ → Option ChangedBlock
changed_at o k = get nat_cmp o.blocks k

-- the byte at an offset of a block, changed or as beneath
abbrev pub byte_of : Option ChangedBlock → (offset beneath : ℕ) → ℕ
byte_of b offset beneath = option_map_or (λ b. slice_index b.new.items offset) b beneath

-- the byte at a position, which has this one beneath
unfoldable pub byte_over : Overlay → (at beneath : ℕ) → ℕ
byte_over o at beneath =
    byte_of (changed_at o (block_number o.layout at)) (at - block_start o.layout (block_number o.layout at)) beneath

-- the bytes over those of an image beneath, which has zero bytes behind its end
unfoldable pub bytes_over : Overlay → List ℕ → List ℕ
bytes_over o beneath = map (λ at. byte_over o at (slice_index beneath at)) (range_with_len 0 o.len)

-- a buffer shows bytes from a position on, and zero bytes behind their end
abbrev pub ShowsFrom : (at : ℕ) → (bytes buf : List ℕ) → Type 0
ShowsFrom at bytes buf = (i : ℕ) → i < length buf → slice_index buf i ≡ slice_index bytes (at + i)

-- A changed block of a draft of `len` bytes over an image of `size` bytes: what it is now, zero bytes behind the draft's end, and what stands beneath, of
-- which the length is known of each image.
pub record IsChanged (l : Layout) (size len : ℕ) (beneath : Option (List ℕ)) (k : ℕ) (b : ChangedBlock) : Type 0 where
  pub full : length b.new.items ≡ block_size l k
  pub zero : (i : ℕ) → len ≤ block_start l k + i → slice_index b.new.items i ≡ 0
  pub old : ForSome beneath (λ bytes. b.old.items ≡ block_at bytes (block_start l k) (block_size l k))
  pub had : length b.old.items ≡ min (size - block_start l k) (block_size l k)

-- each changed block is a whole one
abbrev pub IsFull : Overlay → Type 0
IsFull o = (k : ℕ) (b : ChangedBlock) → changed_at o k ≡ Some b → length b.new.items ≡ block_size o.layout k

-- What holds of the changed blocks over an image of `size` bytes. Where the draft is longer, the block in which the image ends is
-- among them.
pub record IsLaid (o : Overlay) (size : ℕ) (beneath : Option (List ℕ)) : Type 0 where
  pub block : 0 < o.layout.block
  pub told : ForSome beneath (λ bytes. length bytes ≡ size)
  pub longer : size ≤ o.len
  pub each : (k : ℕ) (b : ChangedBlock) → changed_at o k ≡ Some b → IsChanged o.layout size o.len beneath k b
  pub grown : size < o.len → IsSome (changed_at o (block_number o.layout size))

-- one block is another one, or a new one, and all others stay
pub record Replaces (k : ℕ) (b : ChangedBlock) (old new : Overlay) : Type 0 where
  pub here : changed_at new k ≡ Some b
  pub others : (q : ℕ) → q ≢ k → changed_at new q ≡ changed_at old q
  pub len : new.len ≡ old.len
  pub layout : new.layout ≡ old.layout

-- bytes were laid over a block
pub record IsLaidOver (offset : ℕ) (bytes : List ℕ) (before after : ChangedBlock) : Type 0 where
  pub new : after.new.items ≡ take offset before.new.items ++ bytes ++ drop (offset + length bytes) before.new.items
  pub old : after.old.items ≡ before.old.items

-- all blocks stay
pub record Keeps (old new : Overlay) : Type 0 where
  pub blocks : (q : ℕ) → changed_at new q ≡ changed_at old q
  pub len : new.len ≡ old.len
  pub layout : new.layout ≡ old.layout

-- two drafts of the same bytes, but for which blocks are changed ones
pub record SameBytes (beneath : Option (List ℕ)) (old new : Overlay) : Type 0 where
  pub bytes : ForSome beneath (λ bytes. (at : ℕ) → byte_over new at (slice_index bytes at) ≡ byte_over old at (slice_index bytes at))
  pub len : new.len ≡ old.len
  pub layout : new.layout ≡ old.layout
  -- what was a changed block is one
  pub kept : (k : ℕ) → IsSome (changed_at old k) → IsSome (changed_at new k)

-- bytes were laid from a position on, and all others stay, whatever stands beneath
pub record Lays (at : ℕ) (bytes : List ℕ) (old new : Overlay) : Type 0 where
  pub inside : (i beneath : ℕ) → i < length bytes → byte_over new (at + i) beneath ≡ slice_index bytes i
  pub before : (p beneath : ℕ) → p < at → byte_over new p beneath ≡ byte_over old p beneath
  pub behind : (p beneath : ℕ) → at + length bytes ≤ p → byte_over new p beneath ≡ byte_over old p beneath
  pub len : new.len ≡ old.len
  pub layout : new.layout ≡ old.layout
  pub kept : (k : ℕ) → IsSome (changed_at old k) → IsSome (changed_at new k)
  -- what stands beneath a changed block stays
  pub each : (k : ℕ) (c : ChangedBlock) → changed_at new k ≡ Some c
      → (b : ChangedBlock) × (changed_at old k ≡ Some b) × (c.old.items ≡ b.old.items)

-- the blocks of a range are changed ones
abbrev pub IsLoaded : Overlay → (at end : ℕ) → Type 0
IsLoaded o at end = (p : ℕ) → at ≤ p → p < end → IsSome (changed_at o (block_number o.layout p))

-- how many bytes the whole blocks of a range of so many have at most: they, and the blocks in which it begins and ends
abbrev pub range_cost : Layout → ℕ → ℕ
range_cost l count = count + 2 * (l.head + l.block)

-- how many bytes are read at most where so many are put: those blocks, and the one in which the image ends
abbrev pub put_cost : Layout → ℕ → ℕ
put_cost l count = (l.head + l.block) + range_cost l count

-- what becomes of a block: nothing, or its bytes as they are now
abbrev pub IsChangeOf : (old new : List ℕ) → Option (List ℕ) → Type 0
IsChangeOf old new None = new ≡ old
IsChangeOf old new (Some bytes) = (bytes ≡ new) × (new ≢ old)

-- the puts of the blocks of which the numbers are below this one, ascending
abbrev pub changes_below : Layout → (old new : List ℕ) → (number : ℕ) → List Change
changes_below l old new zero = []
changes_below l old new (suc k) = changes_below l old new k ++ block_change old new (block_start l k) (block_size l k)
