-- The protection database apart from any image: its entries, the two maxima, and which user is in which group (ptserver).
use Rattle.std.specs.Prelude.{ℕ, ℤ, pos, negsuc, ◌+ℤ◌, zero, suc, Bool, true, false, List, [], ◌∷◌, filter, length, nat_lt, option_to_list}
use Rattle.std.specs.List.{flat_map}
use Rattle.prdb_layout.specs.Registry.{Registry, first_registry}
use Rattle.prdb_layout.specs.State.{PrEntry}
use Rattle.entry_scans.specs.Pages.{least_id}

pub record State : Type 0 where
  pub registry : Registry
  -- a user is in a group
  pub is_in : (user group : ℤ) → Bool

-- the state at first: nobody is in a group
abbrev pub first_state : State
first_state = record { registry = first_registry; is_in = λ user group. false }

abbrev pub is_group : ℤ → Bool
is_group (pos n) = false
is_group (negsuc n) = true

-- an id of a user, from 1 to 2147483647, or of a group, from -1 to -2147483647
abbrev pub is_id : (group : Bool) → ℤ → Bool
is_id true (pos n) = false
is_id true (negsuc n) = nat_lt n 2147483647
is_id false (pos n) = nat_lt 0 n
is_id false (negsuc n) = false

-- ---- in their order

-- so many numbers from one on, ascending
unfoldable pub numbers_from : ℤ → (count : ℕ) → List ℤ
numbers_from first zero = []
numbers_from first (suc count) = first ∷ numbers_from (first +ℤ pos 1) count

-- the ids and 0, ascending
unfoldable pub ids : List ℤ
ids = numbers_from least_id 4294967295

-- the entries with one of so many ids, from one on, ascending by id
unfoldable pub entries_from : (first : ℤ) → (count : ℕ) → Registry → List PrEntry
entries_from first count r = flat_map (λ id. option_to_list (r.entry id)) (numbers_from first count)

-- all entries, ascending by id
abbrev pub entries : Registry → List PrEntry
entries r = entries_from least_id 4294967295 r

-- ---- pairs

-- an entry is on the other side of a pair: a group in which a user is, a user in a group
abbrev pub is_paired : State → ℤ → ℤ → Bool
is_paired s (pos n) other = s.is_in (pos n) other
is_paired s (negsuc n) other = s.is_in other (negsuc n)

-- the groups in which a user is, the users in a group, ascending
unfoldable pub elements : State → ℤ → List ℤ
elements s id = filter (is_paired s id) ids

-- how many they are
abbrev pub pair_count : State → ℤ → ℕ
pair_count s id = length (elements s id)
