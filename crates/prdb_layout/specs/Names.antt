-- The names of the protection database.
use Rattle.std.specs.Prelude.{ℕ, Bool, ◌&&◌, not, List, length, nat_le, ◌==◌, codes}
use Rattle.std.specs.List.{list_all}
use Rattle.std.specs.Str.{bytes_eq, str_to_ascii_lowercase}

-- a name as it is stored and looked up: ASCII capitals are lowered
abbrev pub lowered : List ℕ → List ℕ
lowered name = str_to_ascii_lowercase name

-- a byte of a user's name: printable, and neither `:` nor `@`
abbrev pub is_name_byte : ℕ → Bool
is_name_byte b = nat_le 33 b && nat_le b 126 && not (b == 58) && not (b == 64)

-- a user's name has 1 to 63 such bytes, and is not `system`
unfoldable pub is_user_name : List ℕ → Bool
is_user_name name = nat_le 1 (length name) && nat_le (length name) 63 && list_all is_name_byte name && not (bytes_eq name (codes "system"))
