-- What becomes of an image when an entry gets another name, owner or id, and when it may.
use Rattle.std.specs.Prelude.{ℕ, ℤ, pos, ◌≡◌, ◌⊎◌, ◌&&◌, ◌++◌, int_lt, false, IsTrue, List, filter, Some, None, IsSome}
use Rattle.db_chains.specs.Along.{to_end}
use Rattle.db_chains.specs.Walks.{most_words, passed}
use Rattle.prdb_layout.specs.Registry.{Registry, IsOwner, is_name_for}
use Rattle.prdb_layout.specs.State.{PrEntry, IsId}
use Rattle.prdb_lists.specs.Changes.{place_in}
use Rattle.prdb_finds.specs.Places.{owned_links, owned_place}
use Rattle.prdb_finds.specs.Records.{whole}
use Rattle.prdb_members.specs.Owned.{ids_along}
use Rattle.prdb_turns.specs.Owners.{is_property}
use Rattle.prdb_turns.specs.Refits.{after_refit}
use Rattle.prdb_turns.specs.Turning.{after_turn as after_steps, first, named}
use Rattle.pt_service.specs.State.{State, elements, ids, is_group}
use Rattle.pt_service.specs.Turning.{has_equal_names, has_long_name, is_fixed}

-- ---- what an entry owns

-- the groups, in the order of the owned chain of its block
unfoldable pub groups_in : List ℕ → (owner : ℤ) → List ℤ
groups_in image owner =
    ids_along image (passed owned_links to_end image (most_words owned_links image) (owned_place (place_in image owner)))

-- the users, ascending
unfoldable pub users_of : Registry → (owner : ℤ) → List ℤ
users_of r owner = filter (λ id. int_lt (pos 0) id && is_property owner (r.entry id)) ids

-- the groups and then the users, as an image and the registry in it tell them
abbrev pub its_in : List ℕ → Registry → (owner : ℤ) → List ℤ
its_in image r owner = groups_in image owner ++ users_of r owner

-- ---- the image

-- The steps that `prdb_turns` makes: the entry, and then the groups that are named after it. What it owns is read once it has its name.
unfoldable pub after_turn : PrEntry → (name : List ℕ) → (owner id : ℤ) → State → List ℕ → List ℕ
after_turn e name owner id s image =
    let its = its_in (whole (after_refit (named name) (s.registry.entry e.id) image)) (first e name s.registry) e.id in
    after_steps e name owner id its (elements s e.id) s.registry image

-- ---- when a change may be made

-- an entry may have another name and another owner: it is not fixed, all names are short and none is another's afterwards
pub record MayRename (e : PrEntry) (name : List ℕ) (owner : ℤ) (r : Registry) : Type 0 where
  pub there : r.entry e.id ≡ Some e
  pub not_fixed : is_fixed e.id ≡ false
  pub good : IsTrue (is_name_for e.id name)
  pub short : has_long_name r e name ≡ false
  pub distinct : has_equal_names r e name ≡ false
  pub owner_there : IsOwner r.entry owner

-- or another id, of its kind, that no entry has
pub record MayRenumber (old new : ℤ) (r : Registry) : Type 0 where
  pub there : IsSome (r.entry old)
  pub not_fixed : is_fixed old ≡ false
  pub good : IsId new
  pub kind : is_group new ≡ is_group old
  pub new_id : r.entry new ≡ None

abbrev pub MayTurn : PrEntry → (name : List ℕ) → (owner id : ℤ) → Registry → Type 0
MayTurn e name owner id r = MayRename e name owner r × ((id ≡ e.id) ⊎ MayRenumber e.id id r)
