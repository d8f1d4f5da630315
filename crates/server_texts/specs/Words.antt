-- The words of a server's program: KIND FOLDER ME HOSTS (own).
use Rattle.std.specs.Prelude.{◌≡◌, ◌≢◌, ℕ, ◌&&◌, nat_le, Bool, if◌then◌else◌, List, [], ◌∷◌, length, codes, IsPermutation, slice_get, Option, Some, None, Result, Ok, Err}
use Rattle.std.specs.Str.{bytes_eq}
use Rattle.std.specs.List.{list_all}
use Rattle.host_words.specs.Hosts.{address_of, is_address, named_hosts, parts_of}
use Rattle.ubik_types.specs.Hosts.{IsCell, times}
use Rattle.ubik_types.specs.declared.hosts.Host.{Host}
use Rattle.ubik_types.specs.declared.hosts.CellFault.{CellFault}
use Rattle.ubik_types.specs.declared.hosts.CellFault.TheVariants as fault
use Rattle.ubik_types.specs.declared.limits.TheConstants.{MAXSERVERS}
use Rattle.server_texts.specs.declared.words.Database.{Database}
use Rattle.server_texts.specs.declared.words.Database.TheVariants.{Location, Protection}
use Rattle.server_texts.specs.declared.words.ServerWords.{ServerWords}
use Rattle.server_texts.specs.declared.words.WordsFault.{WordsFault}
use Rattle.server_texts.specs.declared.words.WordsFault.TheVariants.{Word, NoMemory}

-- the database of a KIND
abbrev pub database_of : List ℕ → Option Database
database_of word =
    if bytes_eq word (codes "vlserver") then Some Location
    else (if bytes_eq word (codes "ptserver") then Some Protection else None)

-- no host stands twice
abbrev pub are_distinct : List Host → Bool
are_distinct hosts = list_all (λ host. nat_le (times host hosts) 1) hosts

-- 1 to 20 distinct hosts
abbrev pub make_cell : List Host → Bool
make_cell hosts = nat_le 1 (length hosts) && (nat_le (length hosts) MAXSERVERS && are_distinct hosts)

-- hosts that make a cell
abbrev pub cell_hosts : List Host → Option (List Host)
cell_hosts hosts = if make_cell hosts then Some hosts else None

-- the hosts of HOSTS, dotted addresses that commas join, where they make a cell
unfoldable pub hosts_of : List ℕ → Option (List Host)
hosts_of text = if list_all is_address (parts_of text) then cell_hosts (named_hosts text) else None

-- what the words name: a database, the hosts of the cell as they are listed, and the own one of them
pub record Named : Type 0 where
  pub database : Database
  pub hosts : List Host
  pub own : Host

-- the first word that does not fit stands at this place, counted from 1
abbrev pub refused : ℕ → Result Named WordsFault
refused place = Err (Word place)

-- the words are four
abbrev pub no_more : Named → List (List ℕ) → Result Named WordsFault
no_more named [] = Ok named
no_more named (word ∷ words) = refused 5

-- ME is one of HOSTS: where it is not, it is ME that does not fit
abbrev pub behind_hosts : Database → Host → List (List ℕ) → Option (List Host) → Result Named WordsFault
behind_hosts database own words None = refused 4
behind_hosts database own words (Some hosts) =
    if nat_le 1 (times own hosts) then no_more (record { database = database; hosts = hosts; own = own }) words else refused 3

abbrev pub behind_own : Database → List (List ℕ) → Option ℕ → Result Named WordsFault
behind_own database words None = refused 3
behind_own database [] (Some own) = refused 4
behind_own database (hosts ∷ words) (Some own) = behind_hosts database (record { 0 = own }) words (hosts_of hosts)

abbrev pub behind_folder : Database → List (List ℕ) → Result Named WordsFault
behind_folder database [] = refused 3
behind_folder database (own ∷ words) = behind_own database words (address_of own)

-- any word is a FOLDER
abbrev pub behind_kind : List (List ℕ) → Option Database → Result Named WordsFault
behind_kind words None = refused 1
behind_kind [] (Some database) = refused 2
behind_kind (folder ∷ words) (Some database) = behind_folder database words

-- what the words mean, or the first place that does not fit; a missing word has the place behind the last
abbrev pub meaning_of : List (List ℕ) → Result Named WordsFault
meaning_of [] = refused 1
meaning_of (kind ∷ words) = behind_kind words (database_of kind)

-- What was read is what the words name: the cell is their hosts, ascending, and the own place in it is that of the own host.
pub record IsRead (named : Named) (read : ServerWords) : Type 0 where
  pub database : read.database ≡ named.database
  pub cell : IsCell read.cell
  pub hosts : IsPermutation named.hosts read.cell
  pub me : slice_get read.cell read.me ≡ Some named.own

-- an answer is what the words mean, or tells of want of memory
abbrev pub Means : Result Named WordsFault → Result ServerWords WordsFault → Type 0
Means (Ok named) (Ok read) = IsRead named read
Means (Ok named) (Err fault) = fault ≡ NoMemory
Means (Err fault) (Ok read) = ⊥
Means (Err fault) (Err other) = other ≢ NoMemory → other ≡ fault

-- and so of HOSTS alone
abbrev pub MeansCell : Option (List Host) → Result (List Host) WordsFault → Type 0
MeansCell (Some hosts) (Ok cell) = IsCell cell × IsPermutation hosts cell
MeansCell (Some hosts) (Err fault) = fault ≡ NoMemory
MeansCell None (Ok cell) = ⊥
MeansCell None (Err fault) = fault ≢ NoMemory → fault ≡ Word 4

-- how words are refused whose hosts make no cell
abbrev pub fault_of : CellFault → WordsFault
fault_of fault.NoMemory = NoMemory
fault_of _ = Word 4
