-- The command that the values of an operation's switches make.
use Rattle.std.specs.Prelude.{◌≡◌, ℕ, ℤ, List, map, Some, option_map}
use Rattle.script_words.specs.Numbers.{signed_of}
use Rattle.afs_commands.specs.Accesses.{access_word}
use Rattle.afs_commands.specs.declared.commands.PtsCommand.{PtsCommand}
use Rattle.afs_commands.specs.declared.commands.PtsCommand.TheVariants as pts
use Rattle.afs_commands.specs.declared.commands.ToolCommand.{ToolCommand}
use Rattle.afs_commands.specs.declared.commands.ToolCommand.TheVariants.{Vos, Pts}
use Rattle.afs_commands.specs.declared.commands.VosCommand.{VosCommand}
use Rattle.afs_commands.specs.declared.commands.VosCommand.TheVariants as vos
use Rattle.afs_commands.specs.declared.places.Place.{Place}
use Rattle.afs_commands.specs.declared.places.SiteFilter.{SiteFilter}
use Rattle.afs_words.specs.Given.{values_at, value_at, flag_at, address_at, partition_at, new_id_at, number_at}
use Rattle.afs_words.specs.declared.tables.Operation.{Operation}
use Rattle.afs_words.specs.declared.tables.Operation.TheVariants as op
use Rattle.afs_words.specs.declared.values.Slot.{Slot}

-- a server and its partition, of the switches at two places
abbrev pub IsPlace : Place → List Slot → ℕ → ℕ → Type 0
IsPlace place slots server partition =
    (address_at slots server ≡ Some place.host) × (partition_at slots partition ≡ Some place.partition)

abbrev pub IsFilter : SiteFilter → List Slot → ℕ → ℕ → Type 0
IsFilter sites slots server partition = (sites.server ≡ address_at slots server) × (sites.partition ≡ partition_at slots partition)

-- a command of `vos` is what an operation is asked to do with these values
abbrev pub IsVos : VosCommand → Operation → List Slot → Type 0
IsVos (vos.AddEntry name place id) o s =
    (o ≡ op.AddEntry) × (value_at s 0 ≡ Some name) × IsPlace place s 1 2 × (id ≡ new_id_at s 3)
IsVos (vos.ListVldb volume sites locked style) o s =
    (o ≡ op.ListVldb) × (volume ≡ value_at s 0) × IsFilter sites s 1 2 × (locked ≡ flag_at s 3)
    × (style.quiet ≡ flag_at s 4) × (style.unsorted ≡ flag_at s 5)
IsVos (vos.Lock volume) o s = (o ≡ op.Lock) × (value_at s 0 ≡ Some volume)
IsVos (vos.Unlock volume) o s = (o ≡ op.Unlock) × (value_at s 0 ≡ Some volume)
IsVos (vos.UnlockVldb sites) o s = (o ≡ op.UnlockVldb) × IsFilter sites s 0 1
IsVos (vos.DelEntry volumes) o s = (o ≡ op.DelEntry) × (volumes.items ≡ values_at s 0)
IsVos (vos.AddSite place volume) o s = (o ≡ op.AddSite) × IsPlace place s 0 1 × (value_at s 2 ≡ Some volume)
IsVos (vos.RemSite place volume) o s = (o ≡ op.RemSite) × IsPlace place s 0 1 × (value_at s 2 ≡ Some volume)
IsVos (vos.ChangeLoc place volume) o s = (o ≡ op.ChangeLoc) × IsPlace place s 0 1 × (value_at s 2 ≡ Some volume)
IsVos vos.ListAddrs o s = o ≡ op.ListAddrs
IsVos (vos.ChangeAddr from to) o s = (o ≡ op.ChangeAddr) × (address_at s 0 ≡ Some from) × (to ≡ address_at s 1)

-- the ids that words write
abbrev pub AreIds : List ℤ → List (List ℕ) → Type 0
AreIds ids words = map Some ids ≡ map signed_of words

-- a command of `pts` is what an operation is asked to do with these values
abbrev pub IsPts : PtsCommand → Operation → List Slot → Type 0
IsPts (pts.CreateUser names ids) o s =
    (o ≡ op.CreateUser) × (names.items ≡ values_at s 0) × AreIds ids.items (values_at s 1)
IsPts (pts.CreateGroup names owner ids) o s =
    (o ≡ op.CreateGroup) × (names.items ≡ values_at s 0) × (owner ≡ value_at s 1) × AreIds ids.items (values_at s 2)
IsPts (pts.Delete entries) o s = (o ≡ op.Delete) × (entries.items ≡ values_at s 0)
IsPts (pts.Rename entry name) o s = (o ≡ op.Rename) × (value_at s 0 ≡ Some entry) × (value_at s 1 ≡ Some name)
IsPts (pts.Chown entry owner) o s = (o ≡ op.Chown) × (value_at s 0 ≡ Some entry) × (value_at s 1 ≡ Some owner)
IsPts (pts.AddUser users groups) o s = (o ≡ op.AddUser) × (users.items ≡ values_at s 0) × (groups.items ≡ values_at s 1)
IsPts (pts.RemoveUser users groups) o s =
    (o ≡ op.RemoveUser) × (users.items ≡ values_at s 0) × (groups.items ≡ values_at s 1)
IsPts (pts.Membership entries) o s = (o ≡ op.Membership) × (entries.items ≡ values_at s 0)
IsPts (pts.Examine entries) o s = (o ≡ op.Examine) × (entries.items ≡ values_at s 0)
IsPts (pts.ListOwned entries) o s = (o ≡ op.ListOwned) × (entries.items ≡ values_at s 0)
IsPts (pts.ListEntries users groups) o s = (o ≡ op.ListEntries) × (users ≡ flag_at s 0) × (groups ≡ flag_at s 1)
IsPts pts.ListMax o s = o ≡ op.ListMax
IsPts (pts.SetMax group user) o s = (o ≡ op.SetMax) × (group ≡ number_at s 0) × (user ≡ number_at s 1)
IsPts (pts.SetFields entries access quota) o s =
    (o ≡ op.SetFields) × (entries.items ≡ values_at s 0) × (option_map access_word access ≡ value_at s 1) × (quota ≡ number_at s 2)

-- the command of an operation with these values
abbrev pub IsCommand : ToolCommand → Operation → List Slot → Type 0
IsCommand (Vos command) o s = IsVos command o s
IsCommand (Pts command) o s = IsPts command o s
