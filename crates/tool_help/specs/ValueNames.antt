-- What the value of a switch is called in a usage (own).
use Rattle.std.specs.Prelude.{ℕ, List, codes}
use Rattle.afs_words.specs.declared.tables.Operation.{Operation}
use Rattle.afs_words.specs.declared.tables.Operation.TheVariants as operation
use Rattle.afs_words.specs.declared.tables.Switch.{Switch}
use Rattle.afs_words.specs.declared.tables.Switch.TheVariants as switch
use Rattle.afs_commands.specs.declared.forms.Form.{Form}
use Rattle.afs_commands.specs.declared.forms.Form.TheVariants as form

-- a name that is given
abbrev pub new_name : Operation → List ℕ
new_name operation.CreateUser = codes "user name"
new_name operation.CreateGroup = codes "group name"
new_name _ = codes "new name"

-- a user or group that there is
abbrev pub entry_name : Switch → List ℕ
entry_name switch.User = codes "user name or id"
entry_name switch.Group = codes "group name or id"
entry_name switch.Owner = codes "owner name or id"
entry_name _ = codes "user or group name or id"

abbrev pub address_name : Switch → List ℕ
address_name switch.OldAddr = codes "present address"
address_name switch.NewAddr = codes "new address"
address_name _ = codes "server address"

-- a number with a sign
abbrev pub signed_name : Switch → List ℕ
signed_name switch.User = codes "highest user id"
signed_name switch.Group = codes "highest group id"
signed_name _ = codes "number of groups"

-- a value of this form, at this switch of the operation
abbrev pub value_name : Operation → Switch → Form → List ℕ
value_name o s form.NewVolume = codes "volume name"
value_name o s form.NewVolumeId = codes "volume id"
value_name o s form.Volume = codes "volume name or id"
value_name o s form.Address = address_name s
value_name o s form.Partition = codes "partition name"
value_name o s form.NewName = new_name o
value_name o s form.Entry = entry_name s
value_name o s form.UserId = codes "user id"
value_name o s form.GroupId = codes "group id"
value_name o s form.Signed = signed_name s
value_name o s form.Access = codes "access letters"
