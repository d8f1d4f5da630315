-- Who is in which group, apart from any layout (ptserver). Nothing is said of an order in which pairs lie.
use Rattle.std.specs.Prelude.{ℤ, pos, negsuc, ◌≡◌, ◌<ℤ◌, ◌⊎◌, Bool, true, false, ◌&&◌, ◌||◌, IsSome, IsSomeAnd, if◌then◌else◌}
use Rattle.std.specs.Ordering.{int_eq}
use Rattle.prdb_layout.specs.Registry.{Registry}

-- a set of pairs of a member and a group
pub record Members : Type 0 where
  pub has : (member group : ℤ) → Bool

-- nobody is in any group
abbrev pub no_members : Members
no_members = record { has = λ member group. false }

-- two ids are those of a pair, in one order or the other
abbrev pub are_paired : Members → ℤ → ℤ → Bool
are_paired m a b = m.has a b || m.has b a

-- The pairs of a registry: each is of a user and a group that are there.
abbrev pub ArePairs : Registry → Members → Type 0
ArePairs r m =
    (member group : ℤ) → m.has member group ≡ true → (pos 0 <ℤ member) × (group <ℤ pos 0) × IsSome (r.entry member) × IsSome (r.entry group)

-- ---- what is found

-- a group that an id owns; those of the id 0 have no owner
abbrev pub IsOwned : Registry → ℤ → ℤ → Type 0
IsOwned r owner id = (id <ℤ pos 0) × IsSomeAnd (r.entry id) (λ e. e.owner ≡ owner)

-- `system:anyuser` and `system:authuser`, in which each user is, and `anonymous`, who is in the first of them alone
abbrev pub any_user : ℤ
any_user = negsuc 100

abbrev pub signed_in : ℤ
signed_in = negsuc 101

abbrev pub not_signed_in : ℤ
not_signed_in = pos 32766

-- a user is in its own list of ids, with its groups and those in which each user is; a group is alone in its own
abbrev pub IsInList : Members → ℤ → ℤ → Type 0
IsInList m (pos n) id = (id ≡ pos n) ⊎ (are_paired m (pos n) id ≡ true) ⊎ (id ≡ any_user) ⊎ ((id ≡ signed_in) × ¬ (pos n ≡ not_signed_in))
IsInList m (negsuc n) id = id ≡ negsuc n

-- ---- changes

-- with this pair
abbrev pub with_pair : (member group : ℤ) → Members → Members
with_pair member group m = record { has = λ a b. if int_eq a member && int_eq b group then true else m.has a b }

-- without this pair
abbrev pub without_pair : (member group : ℤ) → Members → Members
without_pair member group m = record { has = λ a b. if int_eq a member && int_eq b group then false else m.has a b }

-- a pair may be added: it is of a user and a group that are there, and is not there
pub record MayJoin (member group : ℤ) (r : Registry) (m : Members) : Type 0 where
  pub user : pos 0 <ℤ member
  pub group_id : group <ℤ pos 0
  pub member_there : IsSome (r.entry member)
  pub group_there : IsSome (r.entry group)
  pub new : m.has member group ≡ false

-- a pair may be removed where it is there
abbrev pub MayLeave : (member group : ℤ) → Members → Type 0
MayLeave member group m = m.has member group ≡ true
