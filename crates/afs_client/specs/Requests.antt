-- What the words of the program ask for, and why they are refused (own).
use Rattle.std.specs.Prelude.{ℕ, List, [], ◌∷◌, ◌++◌, codes, Option, Some, None, Result, Ok, Err, if◌then◌else◌}
use Rattle.std.specs.Fmt.{decimal}
use Rattle.std.specs.Str.{bytes_eq}
use Rattle.ubik_types.specs.declared.hosts.Host.{Host}
use Rattle.afs_words.specs.Command.{Command}
use Rattle.afs_words.specs.Meaning.{meaning_of}
use Rattle.afs_words.specs.Texts as words
use Rattle.afs_words.specs.declared.faults.WordsFault.{WordsFault}
use Rattle.afs_words.specs.declared.tables.Tool.{Tool}
use Rattle.afs_words.specs.declared.tables.Tool.TheVariants.{Vos, Pts}
use Rattle.afs_client.specs.Debugs.{debug_of}
use Rattle.afs_client.specs.Hosts.{hosts_of}
use Rattle.afs_client.specs.declared.requests.Request.{Request}
use Rattle.afs_client.specs.declared.requests.Request.TheVariants as request
use Rattle.afs_client.specs.declared.requests.RequestFault.{RequestFault}
use Rattle.afs_client.specs.declared.requests.RequestFault.TheVariants.{BadWord, BadCommand, NoMemory}

abbrev pub tool_name : Tool → List ℕ
tool_name Vos = codes "vos"
tool_name Pts = codes "pts"

abbrev pub tool_of : List ℕ → Option Tool
tool_of word = if bytes_eq word (codes "vos") then Some Vos else (if bytes_eq word (codes "pts") then Some Pts else None)

abbrev pub with_command : List Host → Tool → Result Command WordsFault → Result Request RequestFault
with_command hosts tool (Ok command) = Ok (request.Command (record { hosts = hosts; tool = tool; words = command }))
with_command hosts tool (Err fault) = Err (BadCommand tool fault)

abbrev pub with_tool : List Host → List (List ℕ) → Option Tool → Result Request RequestFault
with_tool hosts words None = Err (BadWord 2)
with_tool hosts words (Some tool) = with_command hosts tool (meaning_of tool words)

-- the words behind the hosts; a missing word has the place behind the last
abbrev pub behind_hosts : List (List ℕ) → Option (List Host) → Result Request RequestFault
behind_hosts words None = Err (BadWord 1)
behind_hosts [] (Some hosts) = Err (BadWord 2)
behind_hosts (word ∷ words) (Some hosts) =
    if bytes_eq word (codes "udebug") then debug_of hosts words else with_tool hosts words (tool_of word)

-- the words of the program: the hosts, the name of a command, and its words
abbrev pub request_of : List (List ℕ) → Result Request RequestFault
request_of [] = Err (BadWord 1)
request_of (word ∷ words) = behind_hosts words (hosts_of word)

abbrev pub fault_text : RequestFault → List ℕ
fault_text (BadWord place) = codes "afs_client: bad word " ++ decimal place
fault_text (BadCommand tool fault) = tool_name tool ++ (codes ": " ++ words.fault_text fault)
fault_text NoMemory = codes "afs_client: out of memory"
