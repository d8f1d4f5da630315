-- The hosts among the words of a program, and words that older scripts have. What a word is, is left to who asks: `text` gives
-- its bytes.
use Rattle.std.specs.Prelude.{suc, ◌||◌, ◌++◌, not, ℕ, Bool, if◌then◌else◌, List, codes, take, drop, filter, position, Option, Some, None, Result, Ok, Err, slice_get}
use Rattle.std.specs.Str.{bytes_eq}
use Rattle.std.specs.List.{list_any}
use Rattle.cell_hosts.specs.declared.faults.HostsFault.{HostsFault}
use Rattle.cell_hosts.specs.declared.faults.HostsFault.TheVariants.{MissingHosts, HostsTwice, Cell, Config}

-- where `-hosts` stands first
abbrev pub hosts_place : {X : Type 0} → (X → List ℕ) → List X → Option ℕ
hosts_place text words = position (λ word. bytes_eq (text word) (codes "-hosts")) words

-- the words without the two from a place on
abbrev pub without_two : {X : Type 0} → List X → ℕ → List X
without_two words place = take place words ++ drop (suc (suc place)) words

-- hosts that were given, where no others stand among the words
abbrev pub only_hosts : {X : Type 0} → Option ℕ → X → Result (Option X) HostsFault
only_hosts None hosts = Ok (Some hosts)
only_hosts (Some place) hosts = Err HostsTwice

abbrev pub hosts_behind : {X : Type 0} → (X → List ℕ) → List X → ℕ → Option X → Result (Option X) HostsFault
hosts_behind text words place None = Err MissingHosts
hosts_behind text words place (Some hosts) = only_hosts (hosts_place text (without_two words place)) hosts

abbrev pub hosts_at : {X : Type 0} → (X → List ℕ) → List X → Option ℕ → Result (Option X) HostsFault
hosts_at text words None = Ok None
hosts_at text words (Some place) = hosts_behind text words place (slice_get words (suc place))

-- the word behind `-hosts`, wherever it stands
abbrev pub hosts_of : {X : Type 0} → (X → List ℕ) → List X → Result (Option X) HostsFault
hosts_of text words = hosts_at text words (hosts_place text words)

abbrev pub left_at : {X : Type 0} → List X → Option ℕ → List X
left_at words None = words
left_at words (Some place) = without_two words place

-- the words without `-hosts` and the one behind it
abbrev pub words_left : {X : Type 0} → (X → List ℕ) → List X → List X
words_left text words = left_at words (hosts_place text words)

-- a word that asks for encryption, or for addresses as numbers
abbrev pub is_ignored : List ℕ → Bool
is_ignored word = bytes_eq word (codes "-encrypt") || bytes_eq word (codes "-noresolve")

abbrev pub has_word : {X : Type 0} → (X → List ℕ) → List X → List ℕ → Bool
has_word text words wanted = list_any (λ word. bytes_eq (text word) wanted) words

-- words that name a cell in another way are refused
abbrev pub refused_word : {X : Type 0} → (X → List ℕ) → List X → Result (Unit {0}) HostsFault
refused_word text words =
    if has_word text words (codes "-cell") then Err Cell
    else (if has_word text words (codes "-config") then Err Config else Ok tt)

-- the words without those that are ignored
abbrev pub kept_words : {X : Type 0} → (X → List ℕ) → List X → List X
kept_words text words = filter (λ word. not (is_ignored (text word))) words
