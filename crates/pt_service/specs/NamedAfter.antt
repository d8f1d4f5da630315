-- Groups are named after their owners (ptserver).
use Rattle.std.specs.Prelude.{ℤ, pos, ◌≡◌, ◌≢◌, true, Option, Some, IsSomeAnd}
use Rattle.prdb_layout.specs.Registry.{Registry}
use Rattle.prdb_layout.specs.State.{PrEntry, front_of}
use Rattle.pt_service.specs.Names.{has_colon}

-- Where the name of an entry has a `:` and it has an owner, the owner is an entry, and before the `:` stands what stands before the first
-- `:` of the owner's name, or all of that name where it has none. A user's name has no `:`, so this is said of groups.
abbrev pub IsNamedAfter : (entry : ℤ → Option PrEntry) → PrEntry → Type 0
IsNamedAfter entry e =
    has_colon e.name ≡ true → e.owner ≢ pos 0 → IsSomeAnd (entry e.owner) (λ owner. front_of e.name ≡ front_of owner.name)

-- each entry is named so
abbrev pub NamesFollowOwners : Registry → Type 0
NamesFollowOwners r = (id : ℤ) (e : PrEntry) → r.entry id ≡ Some e → IsNamedAfter r.entry e
