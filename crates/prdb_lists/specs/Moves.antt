-- What becomes of an image without words of chains, of a registry and of a set of pairs when an entry gets another id (layout of format 1).
use Rattle.std.specs.Prelude.{ℕ, ℤ, pos, ◌≡◌, ◌≢◌, ◌+◌, int_lt, Bool, false, List, [], ◌∷◌, ◌++◌, take, drop, Option, Some, None, IsSome, option_map, option_and_then, if◌then◌else◌}
use Rattle.std.specs.List.{Contains}
use Rattle.std.specs.Ordering.{int_eq}
use Rattle.db_blocks.specs.Bytes.{word}
use Rattle.prdb_layout.specs.Bytes.{bits}
use Rattle.prdb_layout.specs.Records.{block_in, whole}
use Rattle.prdb_layout.specs.Registry.{Registry, IsFixedId}
use Rattle.prdb_layout.specs.State.{IsId, PrEntry}
use Rattle.prdb_lists.specs.Changes.{list_in, place_in, relisted}
use Rattle.prdb_lists.specs.Layout.{PairList}
use Rattle.prdb_lists.specs.Lists.{ids_with, ids_without}
use Rattle.prdb_lists.specs.Members.{Members}
use Rattle.prdb_lists.specs.Sides.{HasLists}
use Rattle.prdb_layout.specs.declared.blocks.TheConstants.{ID_AT}

-- ---- of an image

-- an id in place of another one in an ascending list
abbrev pub ids_moved : (old new : ℤ) → List ℤ → List ℤ
ids_moved old new ids = ids_with new (ids_without old ids)

-- the list of an entry has an id in place of another one, and keeps its blocks
abbrev pub after_relist : (old new entry : ℤ) → List ℕ → List ℕ
after_relist old new entry image =
    let k = place_in image entry in
    let l = list_in image (block_in image k) in
    relisted k entry (block_in image k) (record { ids = ids_moved old new l.ids; more = l.more }) image

-- the lists of these entries have it
abbrev pub after_relists : (old new : ℤ) → (entries : List ℤ) → List ℕ → List ℕ
after_relists old new [] image = image
after_relists old new (entry ∷ entries) image = after_relists old new entries (after_relist old new entry image)

-- a block with another id
unfoldable pub with_id_word : ℤ → List ℕ → List ℕ
with_id_word id block = take ID_AT block ++ word (bits id) ++ drop (ID_AT + 4) block

-- an entry's own blocks have another id, and keep its list
abbrev pub after_put_id : (old new : ℤ) → List ℕ → List ℕ
after_put_id old new image =
    let k = place_in image old in
    let block = block_in image k in
    relisted k new (with_id_word new block) (list_in image block) image

-- an entry that is paired with others has another id, in their lists and in its own blocks
unfoldable pub after_move : (old new : ℤ) → (others : List ℤ) → List ℕ → List ℕ
after_move old new others image = after_put_id old new (after_relists old new others (whole image))

-- ---- of a state

-- the id that stood there before
abbrev pub before : (old new : ℤ) → ℤ → Option ℤ
before old new id = if int_eq id new then Some old else if int_eq id old then None else Some id

-- an entry where one id took the place of another
abbrev pub with_moved_id : (old new : ℤ) → PrEntry → PrEntry
with_moved_id old new e = record e { id = if int_eq e.id old then new else e.id }

-- a registry in which an entry has another id
abbrev pub moved_registry : (old new : ℤ) → Registry → Registry
moved_registry old new r = record r { entry = λ id. option_map (with_moved_id old new) (option_and_then r.entry (before old new id)) }

abbrev pub both_have : Members → Option ℤ → Option ℤ → Bool
both_have m None group = false
both_have m (Some member) None = false
both_have m (Some member) (Some group) = m.has member group

-- the pairs of the entry, under its other id
abbrev pub moved_members : (old new : ℤ) → Members → Members
moved_members old new m = record { has = λ member group. both_have m (before old new member) (before old new group) }

-- an entry may get another id: that is of its own kind and new, and nothing is owned by the old one, which is not fixed
pub record MayMove (old new : ℤ) (r : Registry) : Type 0 where
  pub there : IsSome (r.entry old)
  pub new_id : r.entry new ≡ None
  pub good : IsId new
  pub kind : int_lt new (pos 0) ≡ int_lt old (pos 0)
  pub not_fixed : ¬ IsFixedId old
  pub owns_nothing : (other : ℤ) (f : PrEntry) → r.entry other ≡ Some f → f.owner ≢ old

-- ---- between the steps

-- an id may take the place of another one in the list of an entry: the other one is in it, and it is not
pub record MayRelist (old new entry : ℤ) (image : List ℕ) (r : Registry) (lists : ℤ → PairList) : Type 0 where
  pub has : HasLists image r lists
  pub there : IsSome (r.entry entry)
  pub old_in : Contains (lists entry).ids old
  pub new_out : ¬ Contains (lists entry).ids new
