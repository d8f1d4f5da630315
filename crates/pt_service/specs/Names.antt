-- Names of entries and what an entry is called after its owner (ptserver).
use Rattle.std.specs.Prelude.{ℕ, ◌==◌, Bool, List, ◌∷◌, ◌++◌, codes, if◌then◌else◌}
use Rattle.std.specs.List.{list_any}
use Rattle.prdb_layout.specs.Names.{is_user_name}
use Rattle.prdb_layout.specs.Registry.{behind_colon, is_group_name}

-- a name has a `:`
abbrev pub has_colon : List ℕ → Bool
has_colon name = list_any (λ b. b == 58) name

-- the form of a group's name, or of a user's
abbrev pub is_name_of : (group : Bool) → List ℕ → Bool
is_name_of group name = if group then is_group_name name else is_user_name name

-- a name with other text before its `:`
abbrev pub with_front : List ℕ → List ℕ → List ℕ
with_front front name = front ++ 58 ∷ behind_colon name

-- the text before a name's `:` that names everything of the system, and is no entry's name
abbrev pub system : List ℕ
system = codes "system"
