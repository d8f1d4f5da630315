-- The operations of `vos` and `pts` with their switches (the manual pages of both commands, as far as they are built here).
use Rattle.std.specs.Prelude.{ℕ, List, [], ◌∷◌, codes}
use Rattle.afs_words.specs.declared.tables.Tool.{Tool}
use Rattle.afs_words.specs.declared.tables.Tool.TheVariants.{Vos, Pts}
use Rattle.afs_words.specs.declared.tables.Operation.{Operation}
use Rattle.afs_words.specs.declared.tables.Operation.TheVariants.{AddEntry, ListVldb, Lock, Unlock, UnlockVldb, DelEntry, AddSite, RemSite, ChangeLoc, ListAddrs, ChangeAddr, CreateUser, CreateGroup, Delete, Rename, Chown, AddUser, RemoveUser, Membership, Examine, ListOwned, ListEntries, ListMax, SetMax, SetFields}
use Rattle.afs_words.specs.declared.tables.Switch.{Switch}
use Rattle.afs_words.specs.declared.tables.Switch.TheVariants as switch
use Rattle.afs_commands.specs.declared.forms.Form.TheVariants as form
use Rattle.afs_words.specs.declared.tables.Takes.{Takes}
use Rattle.afs_words.specs.declared.tables.Takes.TheVariants.{Flag, LoneFlag, One, Many, EachOfFirst}
use Rattle.afs_words.specs.declared.tables.Need.{Need}
use Rattle.afs_words.specs.declared.tables.Need.TheVariants.{Required, Optional, OneOf}
use Rattle.afs_words.specs.declared.tables.Parameter.{Parameter}

-- the word of an operation
abbrev pub operation_name : Operation → List ℕ
operation_name AddEntry = codes "addentry"
operation_name ListVldb = codes "listvldb"
operation_name Lock = codes "lock"
operation_name Unlock = codes "unlock"
operation_name UnlockVldb = codes "unlockvldb"
operation_name DelEntry = codes "delentry"
operation_name AddSite = codes "addsite"
operation_name RemSite = codes "remsite"
operation_name ChangeLoc = codes "changeloc"
operation_name ListAddrs = codes "listaddrs"
operation_name ChangeAddr = codes "changeaddr"
operation_name CreateUser = codes "createuser"
operation_name CreateGroup = codes "creategroup"
operation_name Delete = codes "delete"
operation_name Rename = codes "rename"
operation_name Chown = codes "chown"
operation_name AddUser = codes "adduser"
operation_name RemoveUser = codes "removeuser"
operation_name Membership = codes "membership"
operation_name Examine = codes "examine"
operation_name ListOwned = codes "listowned"
operation_name ListEntries = codes "listentries"
operation_name ListMax = codes "listmax"
operation_name SetMax = codes "setmax"
operation_name SetFields = codes "setfields"

-- the word of a switch, without its `-`
abbrev pub switch_name : Switch → List ℕ
switch_name switch.Name = codes "name"
switch_name switch.Server = codes "server"
switch_name switch.Partition = codes "partition"
switch_name switch.Id = codes "id"
switch_name switch.Locked = codes "locked"
switch_name switch.Quiet = codes "quiet"
switch_name switch.NoSort = codes "nosort"
switch_name switch.OldAddr = codes "oldaddr"
switch_name switch.NewAddr = codes "newaddr"
switch_name switch.Remove = codes "remove"
switch_name switch.Owner = codes "owner"
switch_name switch.NameOrId = codes "nameorid"
switch_name switch.OldName = codes "oldname"
switch_name switch.NewName = codes "newname"
switch_name switch.User = codes "user"
switch_name switch.Group = codes "group"
switch_name switch.Users = codes "users"
switch_name switch.Groups = codes "groups"
switch_name switch.Access = codes "access"
switch_name switch.GroupQuota = codes "groupquota"
switch_name switch.NoAuth = codes "noauth"
switch_name switch.LocalAuth = codes "localauth"

-- the operations of a command, in order
abbrev pub operations_of : Tool → List Operation
operations_of Vos =
    AddEntry ∷ ListVldb ∷ Lock ∷ Unlock ∷ UnlockVldb ∷ DelEntry ∷ AddSite ∷ RemSite ∷ ChangeLoc ∷ ListAddrs ∷ ChangeAddr ∷ []
operations_of Pts =
    CreateUser ∷ CreateGroup ∷ Delete ∷ Rename ∷ Chown ∷ AddUser ∷ RemoveUser
    ∷ Membership ∷ Examine ∷ ListOwned ∷ ListEntries ∷ ListMax ∷ SetMax ∷ SetFields ∷ []

-- a switch with whether it has to be given and what it takes
abbrev pub row : Switch → Need → Takes → Parameter
row name must values = record { switch = name; need = must; takes = values }

-- a volume that there is, a place of volumes, a site of a volume
abbrev pub volume_row : Parameter
volume_row = row switch.Id Required (One form.Volume)

abbrev pub site_rows : List Parameter
site_rows = row switch.Server Required (One form.Address) ∷ row switch.Partition Required (One form.Partition) ∷ volume_row ∷ []

-- users and groups that there are; a list of them, and lists of users and of groups
abbrev pub entry_rows : List Parameter
entry_rows = row switch.NameOrId Required (Many form.Entry) ∷ []

abbrev pub member_rows : List Parameter
member_rows = row switch.User Required (Many form.Entry) ∷ row switch.Group Required (Many form.Entry) ∷ []

-- the own switches of an operation, in order
abbrev pub parameters_of : Operation → List Parameter
parameters_of AddEntry =
    row switch.Name Required (One form.NewVolume)
    ∷ row switch.Server Required (One form.Address)
    ∷ row switch.Partition Required (One form.Partition)
    ∷ row switch.Id Optional (One form.NewVolumeId) ∷ []
parameters_of ListVldb =
    row switch.Name Optional (One form.Volume)
    ∷ row switch.Server Optional (One form.Address)
    ∷ row switch.Partition Optional (One form.Partition)
    ∷ row switch.Locked Optional Flag
    ∷ row switch.Quiet Optional Flag
    ∷ row switch.NoSort Optional Flag ∷ []
parameters_of Lock = volume_row ∷ []
parameters_of Unlock = volume_row ∷ []
parameters_of UnlockVldb =
    row switch.Server Optional (One form.Address)
    ∷ row switch.Partition Optional (One form.Partition) ∷ []
parameters_of DelEntry =
    row switch.Id Required (Many form.Volume) ∷ []
parameters_of AddSite = site_rows
parameters_of RemSite = site_rows
parameters_of ChangeLoc = site_rows
parameters_of ListAddrs = []
parameters_of ChangeAddr =
    row switch.OldAddr Required (One form.Address)
    ∷ row switch.NewAddr OneOf (One form.Address)
    ∷ row switch.Remove OneOf LoneFlag ∷ []
parameters_of CreateUser =
    row switch.Name Required (Many form.NewName)
    ∷ row switch.Id Optional (EachOfFirst form.UserId) ∷ []
parameters_of CreateGroup =
    row switch.Name Required (Many form.NewName)
    ∷ row switch.Owner Optional (One form.Entry)
    ∷ row switch.Id Optional (EachOfFirst form.GroupId) ∷ []
parameters_of Delete = entry_rows
parameters_of Rename =
    row switch.OldName Required (One form.Entry)
    ∷ row switch.NewName Required (One form.NewName) ∷ []
parameters_of Chown =
    row switch.Name Required (One form.Entry)
    ∷ row switch.Owner Required (One form.Entry) ∷ []
parameters_of AddUser = member_rows
parameters_of RemoveUser = member_rows
parameters_of Membership = entry_rows
parameters_of Examine = entry_rows
parameters_of ListOwned = entry_rows
parameters_of ListEntries =
    row switch.Users Optional Flag
    ∷ row switch.Groups Optional Flag ∷ []
parameters_of ListMax = []
parameters_of SetMax =
    row switch.Group OneOf (One form.Signed)
    ∷ row switch.User OneOf (One form.Signed) ∷ []
parameters_of SetFields =
    row switch.NameOrId Required (Many form.Entry)
    ∷ row switch.Access OneOf (One form.Access)
    ∷ row switch.GroupQuota OneOf (One form.Signed) ∷ []

-- the switches that every operation takes behind its own, and that change nothing
abbrev pub common_parameters : List Parameter
common_parameters = row switch.NoAuth Optional Flag ∷ row switch.LocalAuth Optional Flag ∷ []
