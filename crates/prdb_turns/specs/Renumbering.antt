-- What becomes of an image when an entry gets another id, also where it owns something.
use Rattle.std.specs.Prelude.{ℕ, ℤ, pos, ◌≡◌, int_lt, true, List, map, reverse, Option, Some, None, IfSome, IsSome, IsSomeAnd, option_map, option_and_then}
use Rattle.db_image.specs.Draft.{Drafted}
use Rattle.prdb_layout.specs.Registry.{IsFixedId, Registry}
use Rattle.prdb_layout.specs.State.{IsId, PrEntry}
use Rattle.entry_scans.specs.Lists.{IsListOf}
use Rattle.prdb_lists.specs.Members.{Members, are_paired}
use Rattle.prdb_lists.specs.Moves.{before, moved_members, moved_registry}
use Rattle.pt_service.specs.Turning.{moved}
use Rattle.prdb_finds.specs.Records.{Holds, whole}
use Rattle.prdb_members.specs.Moves.{after_move}
use Rattle.prdb_turns.specs.Owners.{AreItsOwn, after_gives, with_owners}

-- these ids where one id took the place of another, last to first
abbrev pub moved_back : (old new : ℤ) → List ℤ → List ℤ
moved_back old new ids = reverse (map (moved old new) ids)

-- An entry that owns these, in this order, and is paired with these others, has another id. What it owns has no owner while it moves, first
-- to last, and then the new id, last to first: each group comes in front of the owned chain, which then has the words that it had.
unfoldable pub after_renumber : (old new : ℤ) → (its others : List ℤ) → Registry → List ℕ → List ℕ
after_renumber old new its others r image =
    after_gives new (moved_back old new its) (moved_registry old new (with_owners (pos 0) its r))
    (after_move old new others (after_gives (pos 0) its r (whole image)))

-- an entry may have another id, of its kind, that no entry has; a fixed one may not
pub record MayRenumber (old new : ℤ) (r : Registry) : Type 0 where
  pub there : IsSome (r.entry old)
  pub not_fixed : ¬ IsFixedId old
  pub good : IsId new
  pub kind : int_lt new (pos 0) ≡ int_lt old (pos 0)
  pub new_id : r.entry new ≡ None

-- the bytes are those of an image in which an entry has another id
abbrev pub IsRenumbered : (old new : ℤ) → Registry → Members → List ℕ → Option (List ℕ) → Type 0
IsRenumbered old new r m image behind =
    (its others : List ℤ) → AreItsOwn (whole image) r old its → IsListOf (λ other. are_paired m old other ≡ true) others
    → behind ≡ Some (after_renumber old new its others r image)

-- an entry where one id took the place of another, as an owner too
abbrev pub with_new_id : (old new : ℤ) → PrEntry → PrEntry
with_new_id old new e = record e { id = moved old new e.id; owner = moved old new e.owner }

-- the registry in which an entry has another id
abbrev pub renumbered : (old new : ℤ) → Registry → Registry
renumbered old new r = record r { entry = λ id. option_map (with_new_id old new) (option_and_then r.entry (before old new id)) }

-- where the old bytes hold an entry that may have another id, the new ones hold it, what it owns and its pairs under that id
abbrev pub MakesRenumbered : {I : Type 0} → (old_id new_id : ℤ) → (old new : Drafted I) → Type 0
MakesRenumbered old_id new_id old new =
    IfSome old.bytes
    (λ image. (r : Registry) (m : Members) → Holds image r m → MayRenumber old_id new_id r
    → IsSomeAnd new.bytes (λ after. Holds after (renumbered old_id new_id r) (moved_members old_id new_id m)))
