-- Entries of the protection database, and the first state: its entries in the order of their blocks, and the two maxima (ptserver).
use Rattle.std.specs.Prelude.{ℕ, ℤ, pos, negsuc, ◌<◌, ◌≤◌, ◌^◌, ◌==◌, List, [], ◌∷◌, length, codes, FitsSigned, All}
use Rattle.std.specs.Int.{w32}
use Rattle.std.specs.List.{before_first}
use Rattle.prdb_layout.specs.Bytes.{IsBytes}

-- an entry: its name, its flags, its id, the ids of its owner and its creator, and its quota
pub record PrEntry : Type 0 where
  pub name : List ℕ
  pub flags : ℕ
  pub id : ℤ
  pub owner : ℤ
  pub creator : ℤ
  pub quota : ℤ

-- the greatest user id that was given and the least group id, and the entries
pub record PrState : Type 0 where
  pub max_user : ℕ
  pub max_group : ℤ
  pub entries : List PrEntry

-- what an entry begins with: a user's and a group's flags
abbrev pub user_flags : ℕ
user_flags = 131072

abbrev pub group_flags : ℕ
group_flags = 131584

-- the ids of `system:administrators` and of `anonymous`
abbrev pub administrators : ℤ
administrators = negsuc 203

abbrev pub anonymous : ℤ
anonymous = pos 32766

-- an entry that is always there
abbrev pub fixed : List ℕ → ℕ → ℤ → PrEntry
fixed name flags id = record { name = name; flags = flags; id = id; owner = administrators; creator = administrators; quota = pos 0 }

-- the six fixed entries, in the order of their blocks
unfoldable pub fixed_entries : List PrEntry
fixed_entries = fixed (codes "system:anyuser") group_flags (negsuc 100) ∷ fixed (codes "system:authuser") group_flags (negsuc 101)
    ∷ fixed (codes "system:ptsviewers") group_flags (negsuc 202) ∷ fixed (codes "system:administrators") group_flags administrators
    ∷ fixed (codes "system:backup") group_flags (negsuc 204) ∷ fixed (codes "anonymous") user_flags anonymous ∷ []

-- the state at first
abbrev pub initial_state : PrState
initial_state = record { max_user = 0; max_group = negsuc 204; entries = fixed_entries }

-- a user's id is from 1 to 2147483647, a group's from -1 down to -2147483647
abbrev pub IsId : ℤ → Type 0
IsId (pos n) = (0 < n) × (n ≤ 2147483647)
IsId (negsuc n) = n < 2147483647

-- a name before its first `:`, or all of it where it has none
abbrev pub front_of : List ℕ → List ℕ
front_of name = before_first (λ b. b == 58) name

-- an entry whose fields have a place in a block: a name without zero bytes, and words
pub record IsPrEntry (e : PrEntry) : Type 0 where
  pub name_bytes : IsBytes e.name
  pub name_len : length e.name ≤ 63
  pub name_text : All (λ b. 0 < b) e.name
  pub flags : e.flags < 2 ^ 32
  pub id : IsId e.id
  pub owner : FitsSigned w32 e.owner
  pub creator : FitsSigned w32 e.creator
  pub quota : FitsSigned w32 e.quota
