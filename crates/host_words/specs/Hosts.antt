-- Hosts, as the words of commands name them (own).
use Rattle.std.specs.Prelude.{ℕ, zero, suc, ◌+◌, ◌*◌, ◌==◌, Bool, List, map, take, drop, position, Option, option_map, option_and_then, is_some, unwrap_or}
use Rattle.std.specs.List.{slice_split}
use Rattle.script_words.specs.Numbers.{number_within}
use Rattle.ubik_types.specs.declared.hosts.Host.{Host}

-- what stands before the first dot of a word, and what stands behind it
abbrev pub split_dot : List ℕ → Option (List ℕ × List ℕ)
split_dot word = option_map (λ at. (take at word, drop (at + 1) word)) (position (λ byte. byte == 46) word)

abbrev pub octet_of : List ℕ → Option ℕ
octet_of word = number_within 0 255 word

-- the number of an address whose first bytes have this value, and whose others so many dots part in the word
abbrev pub address_behind : ℕ → ℕ → List ℕ → Option ℕ
address_behind zero value word = option_map (λ octet. value * 256 + octet) (octet_of word)
address_behind (suc dots) value word = option_and_then
    (λ parts. option_and_then (λ octet. address_behind dots (value * 256 + octet) parts.1) (octet_of parts.0)) (split_dot word)

-- the number of a dotted address: four decimals from 0 to 255, the first the highest byte
abbrev pub address_of : List ℕ → Option ℕ
address_of word = address_behind 3 0 word

abbrev pub is_address : List ℕ → Bool
is_address word = is_some (address_of word)

-- the parts of a text between its commas; a text always has a part
abbrev pub parts_of : List ℕ → List (List ℕ)
parts_of text = slice_split (λ byte. byte == 44) text

-- the host of a word that is an address
abbrev pub named_host : List ℕ → Host
named_host word = record { 0 = unwrap_or (address_of word) 0 }

abbrev pub named_hosts : List ℕ → List Host
named_hosts text = map named_host (parts_of text)
