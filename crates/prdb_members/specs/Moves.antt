-- What becomes of an image when an entry gets another id.
use Rattle.std.specs.Prelude.{ℕ, ℤ, ◌≡◌, ◌+◌, ◌<◌, true, List, Option, Some, IfSome, IsSome, IsSomeAnd}
use Rattle.std.specs.List.{Contains}
use Rattle.db_image.specs.Draft.{Drafted}
use Rattle.db_blocks.specs.Blocks.{kind_of}
use Rattle.db_chains.specs.Chains.{HasChain}
use Rattle.db_chains.specs.Changes.{put_in, without}
use Rattle.prdb_layout.specs.Blocks.{block_count}
use Rattle.prdb_layout.specs.Records.{block_in}
use Rattle.prdb_layout.specs.Registry.{Registry}
use Rattle.entry_scans.specs.Lists.{IsListOf}
use Rattle.prdb_lists.specs.Changes.{place_in}
use Rattle.prdb_lists.specs.Layout.{PairList}
use Rattle.prdb_lists.specs.Members.{Members, are_paired}
use Rattle.prdb_lists.specs.Moves.{MayMove, after_put_id, after_relists, moved_members, moved_registry}
use Rattle.prdb_finds.specs.Keys.{id_chain}
use Rattle.prdb_finds.specs.Places.{id_links, name_links, name_place, owned_links, owned_place}
use Rattle.prdb_finds.specs.Records.{Holds, whole}
use Rattle.prdb_members.specs.Sides.{HasLists}

-- the block of a number out of the chain of an id, and then in front of that of another one
abbrev pub rechained : (old new : ℤ) → (n : ℕ) → List ℕ → List ℕ
rechained old new n image = put_in id_links (id_chain new) n (without id_links (id_chain old) n image)

-- An entry that is paired with others has another id: in their lists, then in its own blocks, and then its block goes from the chain of the
-- one id to that of the other. It owns no groups, and stays in the chains of its name and its owner.
unfoldable pub after_move : (old new : ℤ) → (others : List ℤ) → List ℕ → List ℕ
after_move old new others image =
    let listed = after_relists old new others (whole image) in
    rechained old new (place_in listed old + 1) (after_put_id old new listed)

-- the bytes are those of an image in which an entry, paired with these others, has another id
abbrev pub IsMoved : (old new : ℤ) → Members → List ℕ → Option (List ℕ) → Type 0
IsMoved old new m image behind =
    (others : List ℤ) → IsListOf (λ other. are_paired m old other ≡ true) others → behind ≡ Some (after_move old new others image)

-- where the old bytes hold an entry that may get another id, the new ones hold it and its pairs under that id
abbrev pub MakesMove : {I : Type 0} → (old_id new_id : ℤ) → (old new : Drafted I) → Type 0
MakesMove old_id new_id old new =
    IfSome old.bytes
    (λ image. (r : Registry) (m : Members) → Holds image r m → MayMove old_id new_id r
    → IsSomeAnd new.bytes (λ after. Holds after (moved_registry old_id new_id r) (moved_members old_id new_id m)))

-- the chain of each name's key, and that of what each entry owns, has the words that it had, in their order
pub record KeepsOrder (image after : List ℕ) : Type 0 where
  pub names : (key : ℕ) → key < 256 → (ws : List ℕ) → HasChain name_links image (name_place key) ws
      → HasChain name_links after (name_place key) ws
  pub owned : (k : ℕ) → k < block_count image → kind_of (block_in image k) ≡ 1 → (ws : List ℕ)
      → HasChain owned_links image (owned_place k) ws → HasChain owned_links after (owned_place k) ws

-- ---- between the steps

-- an id may take the place of another one in the list of an entry: the other one is in it, and it is not
pub record MayRelist (old new entry : ℤ) (image : List ℕ) (r : Registry) (lists : ℤ → PairList) : Type 0 where
  pub has : HasLists image r lists
  pub there : IsSome (r.entry entry)
  pub old_in : Contains (lists entry).ids old
  pub new_out : ¬ Contains (lists entry).ids new

abbrev pub HasRelist : (old new entry : ℤ) → List ℕ → Type 0
HasRelist old new entry image = (r : Registry) × (lists : ℤ → PairList) × MayRelist old new entry image r lists
