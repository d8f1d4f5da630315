-- When a change answers a bad record.
use Rattle.std.specs.Prelude.{ℕ, ℤ, ◌≡◌, ◌≢◌, ◌-◌, true, false, List}
use Rattle.std.specs.List.{Contains}
use Rattle.db_blocks.specs.Blocks.{IsWhole}
use Rattle.db_chains.specs.Chains.{HasChain}
use Rattle.db_chains.specs.Changes.{without}
use Rattle.db_chains.specs.Ends.{HasWord}
use Rattle.db_chains.specs.Walks.{meets}
use Rattle.prdb_layout.specs.Records.{has_id}
use Rattle.prdb_layout.specs.Registry.{MayBeRemoved, Registry}
use Rattle.prdb_layout.specs.State.{PrEntry}
use Rattle.prdb_lists.specs.Members.{Members, are_paired}
use Rattle.prdb_finds.specs.First.{named}
use Rattle.prdb_finds.specs.Keys.{id_chain, name_chain}
use Rattle.prdb_finds.specs.Places.{id_links, name_links, owned_links, owned_place}
use Rattle.prdb_entries.specs.Changes.{is_owned, name_moved, number_of, owner_left, unnamed}

-- an image of a head and whole blocks has the entry of an id in the chain of the id
abbrev pub HasLink : (id : ℤ) → List ℕ → Type 0
HasLink id image =
    IsWhole 2112 image
    × ((ws : List ℕ) × (w : ℕ) × HasChain id_links image (id_chain id) ws × Contains ws w
    × (meets id_links (λ v block. has_id id block) image w ≡ true))

-- once a block came in front of the chains of its name and its id, the owner of its entry, if there is one, is there
abbrev pub HasOwner : (n : ℕ) → PrEntry → List ℕ → Type 0
HasOwner n e image = is_owned e ≡ true → HasLink e.owner (named n e image)

-- the block of a number stands in the chain of the groups that the entry of an id owns
abbrev pub IsOwnedBy : (owner : ℤ) → (n : ℕ) → List ℕ → Type 0
IsOwnedBy owner n image = HasLink owner image × HasWord owned_links (owned_place (number_of owner image - 1)) n image

-- the block of a number stands in the chains of its entry, and goes out of one after the other
pub record StandsInChains (n : ℕ) (e : PrEntry) (image : List ℕ) : Type 0 where
  pub name : HasWord name_links (name_chain e.name) n image
  pub id : HasWord id_links (id_chain e.id) n (without name_links (name_chain e.name) n image)
  pub owner : is_owned e ≡ true → IsOwnedBy e.owner n (unnamed n e image)

-- an entry may be removed that is not fixed, owns nothing and is in no pair
abbrev pub MayGo : (id : ℤ) → Registry → Members → Type 0
MayGo id r m = MayBeRemoved id r × ((other : ℤ) → are_paired m id other ≡ false)

-- the block of a number stands in the chain of its entry's owner, if that is a group with one
abbrev pub HasLeft : PrEntry → (n : ℕ) → List ℕ → Type 0
HasLeft e n image = is_owned e ≡ true → IsOwnedBy e.owner n image

-- the owner of an entry is there, if that is a group with one
abbrev pub HasEntered : PrEntry → List ℕ → Type 0
HasEntered e image = is_owned e ≡ true → HasLink e.owner image

-- the block of a number may go from the chain of one owner to that of another one
abbrev pub HasMoved : (old new : PrEntry) → (n : ℕ) → List ℕ → Type 0
HasMoved old new n image = old.owner ≢ new.owner → HasLeft old n image × HasEntered new (owner_left old n image)

-- the block of a number may go from the chains of one entry to those of another one
abbrev pub CanMove : (n : ℕ) → (old new : PrEntry) → List ℕ → Type 0
CanMove n old new image =
    HasWord name_links (name_chain old.name) n image × HasMoved old new n (name_moved old.name new.name n image)
