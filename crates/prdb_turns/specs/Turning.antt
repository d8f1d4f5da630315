-- What becomes of an image when an entry gets another name, then another id, then another owner, and then the groups that are
-- named after it follow its name, in the order of their blocks.
use Rattle.std.specs.Prelude.{ℕ, ℤ, ◌≡◌, ◌⊎◌, ◌&&◌, Bool, true, List, [], ◌∷◌, Option, Some, if◌then◌else◌}
use Rattle.std.specs.Ordering.{int_eq}
use Rattle.std.specs.Str.{bytes_eq}
use Rattle.prdb_layout.specs.Registry.{Registry}
use Rattle.prdb_layout.specs.State.{PrEntry, front_of}
use Rattle.entry_scans.specs.Lists.{IsListOf}
use Rattle.prdb_lists.specs.Members.{Members, are_paired}
use Rattle.prdb_lists.specs.Moves.{moved_members}
use Rattle.pt_service.specs.Names.{has_colon}
use Rattle.pt_service.specs.Turning.{moved}
use Rattle.prdb_finds.specs.Records.{Holds, whole}
use Rattle.prdb_turns.specs.Fronts.{MayFronts, after_fronts, ids_by_block, with_fronts}
use Rattle.prdb_turns.specs.Owners.{AreItsOwn, MayGive, after_gives, with_owners}
use Rattle.prdb_turns.specs.Refits.{MayRefit, after_refit, with_refit}
use Rattle.prdb_turns.specs.Renumbering.{MayRenumber, after_renumber, renumbered}

-- an entry with another name
abbrev pub named : (name : List ℕ) → PrEntry → PrEntry
named name e = record e { name = name }

-- a name begins with a whole name and a `:`
abbrev pub is_under : (whole : List ℕ) → PrEntry → Bool
is_under whole e = has_colon e.name && bytes_eq (front_of e.name) whole

-- ---- another id, where it is another one

abbrev pub after_id : (old new : ℤ) → (its others : List ℤ) → Registry → List ℕ → List ℕ
after_id old new its others r image = if int_eq new old then image else after_renumber old new its others r image

abbrev pub with_id : (old new : ℤ) → Registry → Registry
with_id old new r = if int_eq new old then r else renumbered old new r

abbrev pub with_pairs : (old new : ℤ) → Members → Members
with_pairs old new m = if int_eq new old then m else moved_members old new m

abbrev pub MayId : (old new : ℤ) → Registry → Type 0
MayId old new r = (new ≡ old) ⊎ MayRenumber old new r

-- the bytes are those of an image in which an entry has it
abbrev pub HasId : (old new : ℤ) → Registry → Members → List ℕ → Option (List ℕ) → Type 0
HasId old new r m image behind =
    (its others : List ℤ) → AreItsOwn (whole image) r old its → IsListOf (λ other. are_paired m old other ≡ true) others
    → behind ≡ Some (after_id old new its others r image)

-- ---- all of it

-- the registry after its name, after its id, and after its owner: an entry that is to own itself goes by its new id
abbrev pub first : PrEntry → (name : List ℕ) → Registry → Registry
first e name r = with_refit (named name) (r.entry e.id) r

abbrev pub second : PrEntry → (name : List ℕ) → (id : ℤ) → Registry → Registry
second e name id r = with_id e.id id (first e name r)

abbrev pub third : PrEntry → (name : List ℕ) → (owner id : ℤ) → Registry → Registry
third e name owner id r = with_owners (moved e.id id owner) (id ∷ []) (second e name id r)

-- The entries that are named after it are those of the image at first. It owns these, in this order, and is paired with these others.
unfoldable pub after_turn : PrEntry → (name : List ℕ) → (owner id : ℤ) → (its others : List ℤ) → Registry → List ℕ → List ℕ
after_turn e name owner id its others r image =
    after_fronts (front_of name) (ids_by_block (is_under e.name) image) (third e name owner id r)
    (after_gives (moved e.id id owner) (id ∷ []) (second e name id r)
    (after_id e.id id its others (first e name r) (after_refit (named name) (r.entry e.id) image)))

abbrev pub with_turn : PrEntry → (name : List ℕ) → (owner id : ℤ) → (groups : List ℤ) → Registry → Registry
with_turn e name owner id groups r = with_fronts (front_of name) groups (third e name owner id r)

-- the entry is there, and each step may be made
pub record MayTurn (e : PrEntry) (name : List ℕ) (owner id : ℤ) (groups : List ℤ) (r : Registry) : Type 0 where
  pub there : r.entry e.id ≡ Some e
  pub name_may : MayRefit (named name) r e
  pub id_may : MayId e.id id (first e name r)
  pub owner_may : MayGive (id ∷ []) (moved e.id id owner) (second e name id r)
  pub fronts_may : MayFronts (front_of name) groups (third e name owner id r)

-- the bytes are those of an image in which an entry turned
abbrev pub IsTurned : PrEntry → (name : List ℕ) → (owner id : ℤ) → Registry → Members → List ℕ → Option (List ℕ) → Type 0
IsTurned e name owner id r m image behind =
    (its others : List ℤ) → AreItsOwn (whole (after_refit (named name) (r.entry e.id) image)) (first e name r) e.id its
    → IsListOf (λ other. are_paired m e.id other ≡ true) others → behind ≡ Some (after_turn e name owner id its others r image)

-- an image holds a registry in which the entry may turn, and those that are named after it follow in the order of its blocks
abbrev pub HasTurn : PrEntry → (name : List ℕ) → (owner id : ℤ) → List ℕ → Type 0
HasTurn e name owner id image =
    (r : Registry) × (m : Members) × Holds image r m × MayTurn e name owner id (ids_by_block (is_under e.name) image) r
