-- The blocks of an image: a head, and blocks of one length behind it. The changes of a call are the blocks that differ (own).
use Rattle.std.specs.Prelude.{ℕ, zero, suc, ◌+◌, ◌<◌, ◌≤◌, ◌≡◌, if◌then◌else◌, List, [], ◌∷◌, ◌++◌, All, length, take, drop}
use Rattle.std.specs.Str.{bytes_eq}
use Rattle.ubik_types.specs.declared.images.Change.{Change}
use Rattle.ubik_types.specs.declared.images.Change.TheVariants.{Put, Cut}

-- the bytes of an image from a place on, `size` of them at most
abbrev pub block_at : List ℕ → (at size : ℕ) → List ℕ
block_at image at size = take size (drop at image)

-- one put of a block that is new, or in which a byte is another one
abbrev pub block_change : (old new : List ℕ) → (at size : ℕ) → List Change
block_change old new at size =
    if bytes_eq (block_at new at size) (block_at old at size) then [] else Put at (block_at new at size) ∷ []

-- the puts of so many blocks of one length, ascending
abbrev pub block_changes : (old new : List ℕ) → (at size count : ℕ) → List Change
block_changes old new at size zero = []
block_changes old new at size (suc count) =
    block_change old new at size ++ block_changes old new (at + size) size count

-- The changes from one image to another: the head's block, and then the blocks behind it. No image has more blocks than bytes.
abbrev pub changes_between : (head block : ℕ) → (old new : List ℕ) → List Change
changes_between head block old new =
    block_change old new 0 head ++ block_changes old new head block (length new)

-- Changes that lead from some image of `size` bytes to some image of `len` bytes, no fewer: puts of whole blocks, ascending, each within the
-- image after them.
pub record LeadSome (head block size len : ℕ) (changes : List Change) : Type 0 where
  pub old : List ℕ
  pub new : List ℕ
  pub before : length old ≡ size
  pub after : length new ≡ len
  pub longer : size ≤ len
  pub between : changes ≡ changes_between head block old new

-- it puts some bytes
abbrev pub PutsSome : Change → Type 0
PutsSome (Put at bytes) = 0 < length bytes
PutsSome (Cut len) = ⊥

-- each of them puts some bytes
abbrev pub PutSome : List Change → Type 0
PutSome changes = All PutsSome changes
