-- What a command of `vos` does: its calls and its text, from its words.
use Rattle.std.specs.Prelude.{ℕ, ◌≤◌, Bool, true, List, [], IfSome, unwrap_or}
use Rattle.ubik_types.specs.declared.hosts.Host.{Host}
use Rattle.afs_commands.specs.declared.commands.VosCommand.{VosCommand}
use Rattle.afs_commands.specs.declared.commands.VosCommand.TheVariants as vos
use Rattle.afs_commands.specs.declared.places.Place.{Place}
use Rattle.afs_commands.specs.declared.places.Style.{Style}
use Rattle.afs_words.specs.Command.{Command}
use Rattle.afs_words.specs.Given.{values_at, value_at, flag_at, address_at, partition_at, new_id_at}
use Rattle.afs_words.specs.declared.tables.Operation.{Operation}
use Rattle.afs_words.specs.declared.tables.Operation.TheVariants.{AddEntry, ListVldb, Lock, Unlock, UnlockVldb, DelEntry, AddSite, RemSite, ChangeLoc, ListAddrs, ChangeAddr}
use Rattle.afs_words.specs.declared.values.Slot.{Slot}
use Rattle.tool_base.specs.Course.{◌>>=◌, Asker, Course, gives, says}
use Rattle.vos_tool.specs.Adding.{addentry_text}
use Rattle.vos_tool.specs.Addresses.{changeaddr_text, listaddrs_text}
use Rattle.vos_tool.specs.Changing.{change_text}
use Rattle.vos_tool.specs.Deleting.{delentry_text}
use Rattle.vos_tool.specs.Listing.{filter_of, listvldb_text, unlockvldb_text}
use Rattle.vos_tool.specs.Locking.{lock_text, unlock_text}
use Rattle.vos_tool.specs.declared.answers.TheConstants.{MAX_ID}
use Rattle.vos_tool.specs.declared.commands.TheConstants.{PORT}
use Rattle.vos_tool.specs.declared.listing.Filter.{Filter}
use Rattle.vos_tool.specs.declared.sites.SiteChange.TheVariants.{Add, Remove, Move}

-- the first value of a switch that was given, and the address of one
abbrev pub word_at : List Slot → ℕ → List ℕ
word_at s place = unwrap_or (value_at s place) []

abbrev pub host_at : List Slot → ℕ → ℕ
host_at s place = unwrap_or (address_at s place) 0

-- a server and its partition, at these two places
abbrev pub place_at : List Slot → ℕ → ℕ → Place
place_at s server partition = record { host = host_at s server; partition = unwrap_or (partition_at s partition) 0 }

abbrev pub filter_at : List Slot → ℕ → ℕ → Bool → Filter
filter_at s server partition locked =
    filter_of (record { server = address_at s server; partition = partition_at s partition }) locked

abbrev pub style_at : List Slot → Style
style_at s = record { quiet = flag_at s 4; unsorted = flag_at s 5 }

-- the text of a command; words of another tool ask and write nothing
abbrev pub text_by : Operation → List Slot → Course (List ℕ)
text_by AddEntry s = addentry_text (word_at s 0) (place_at s 1 2) (new_id_at s 3)
text_by ListVldb s = listvldb_text (value_at s 0) (filter_at s 1 2 (flag_at s 3)) (style_at s)
text_by Lock s = lock_text (word_at s 0)
text_by Unlock s = unlock_text (word_at s 0)
text_by UnlockVldb s = unlockvldb_text (filter_at s 0 1 true)
text_by DelEntry s = delentry_text (values_at s 0)
text_by AddSite s = change_text Add (place_at s 0 1) (word_at s 2)
text_by RemSite s = change_text Remove (place_at s 0 1) (word_at s 2)
text_by ChangeLoc s = change_text Move (place_at s 0 1) (word_at s 2)
text_by ListAddrs s = listaddrs_text
text_by ChangeAddr s = changeaddr_text (host_at s 0) (address_at s 1)
text_by _ s = gives []

unfoldable pub vos_text : Command → Course (List ℕ)
vos_text command = text_by command.operation command.switches

-- a command: its calls, then its text
abbrev pub vos_course : Command → Course (Unit {0})
vos_course command = vos_text command >>= λ text. says text >>= λ said. gives tt

-- the text of a command whose values are read
abbrev pub command_text : VosCommand → Course (List ℕ)
command_text (vos.AddEntry name place id) = addentry_text name place id
command_text (vos.ListVldb volume sites locked style) = listvldb_text volume (filter_of sites locked) style
command_text (vos.Lock volume) = lock_text volume
command_text (vos.Unlock volume) = unlock_text volume
command_text (vos.UnlockVldb sites) = unlockvldb_text (filter_of sites true)
command_text (vos.DelEntry volumes) = delentry_text volumes.items
command_text (vos.AddSite place volume) = change_text Add place volume
command_text (vos.RemSite place volume) = change_text Remove place volume
command_text (vos.ChangeLoc place volume) = change_text Move place volume
command_text vos.ListAddrs = listaddrs_text
command_text (vos.ChangeAddr from to) = changeaddr_text from to

-- two more ids fit behind that of a volume that is made
abbrev pub HasLowId : VosCommand → Type 0
HasLowId (vos.AddEntry name place id) = IfSome id (λ n. n ≤ MAX_ID)
HasLowId _ = Unit {0}

-- who asks, before the first call
abbrev pub asker : List Host → Asker
asker hosts = record { hosts = hosts; port = PORT; number = 0 }
