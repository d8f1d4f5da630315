-- The hosts in the file that names those of the cell of a machine (own).
use Rattle.std.specs.Prelude.{◌==◌, ◌||◌, ◌&&◌, ◌-◌, nat_le, if◌then◌else◌, ℕ, Bool, nat_eq, List, [], ◌∷◌, codes, take, drop, length, position, slice_index, Option, Some, None, option_and_then}
use Rattle.std.specs.List.{find, slice_split, starts_with}
use Rattle.std.specs.Str.Lossy.{utf8_lossy}

-- a line that gives hosts
abbrev pub is_hosts_line : List ℕ → Bool
is_hosts_line line = starts_with nat_eq line (codes "CAVYGOLD_HOSTS=")

-- the first line that gives hosts
abbrev pub hosts_line : List ℕ → Option (List ℕ)
hosts_line text = find is_hosts_line (slice_split (λ byte. byte == 10) text)

-- a space, a tab, or the CR of a file from another system
abbrev pub is_blank : ℕ → Bool
is_blank byte = (byte == 32) || (byte == 9) || (byte == 13)

abbrev pub front_of : List ℕ → Option ℕ → List ℕ
front_of text None = text
front_of text (Some place) = take place text

-- what stands in front of the first blank
abbrev pub until_blank : List ℕ → List ℕ
until_blank text = front_of text (position is_blank text)

-- a quote stands at both ends
abbrev pub is_in : ℕ → List ℕ → Bool
is_in quote value = nat_le 2 (length value) && (slice_index value 0 == quote) && (slice_index value (length value - 1) == quote)

-- a value without the quotes round it
abbrev pub unquoted : List ℕ → List ℕ
unquoted value = if is_in 34 value || is_in 39 value then take (length value - 2) (drop 1 value) else value

-- the word behind the front of a line, without quotes
abbrev pub value_of : List ℕ → List ℕ
value_of line = unquoted (until_blank (drop 15 line))

abbrev pub given_by : List ℕ → Option (List ℕ)
given_by [] = None
given_by (b ∷ value) = Some (utf8_lossy (b ∷ value))

-- the hosts that a text gives
abbrev pub hosts_in : List ℕ → Option (List ℕ)
hosts_in text = option_and_then (λ line. given_by (value_of line)) (hosts_line text)
