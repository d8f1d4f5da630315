-- What the words of values are read as.
use Rattle.std.specs.Prelude.{ℕ, ℤ, pos, neg_ℤ, ◌==◌, nat_le, Bool, if◌then◌else◌, List, [], ◌∷◌, length, Option, Some, None, option_map}
use Rattle.std.specs.Option.{is_some}
use Rattle.script_words.specs.Numbers.{number_within, signed_of}
use Rattle.host_words.specs.Hosts.{address_of}
use Rattle.afs_commands.specs.Accesses.{access_of}
use Rattle.afs_commands.specs.Names.{entry_of, volume_of}
use Rattle.afs_commands.specs.Partitions.{partition_of}
use Rattle.afs_commands.specs.declared.accesses.Access.{Access}
use Rattle.afs_commands.specs.declared.forms.Form.{Form}
use Rattle.afs_commands.specs.declared.forms.Form.TheVariants as form
use Rattle.afs_commands.specs.declared.forms.Value.{Value}
use Rattle.afs_commands.specs.declared.forms.Value.TheVariants as value
use Rattle.afs_commands.specs.declared.forms.TheConstants.{MAX_NEW_VOLUME, MAX_NEW_ID}
use Rattle.afs_commands.specs.declared.volumes.TheConstants.{MAX_NAME}

-- a name of at most so many bytes
abbrev pub name_of : ℕ → List ℕ → Option Value
name_of most word = if nat_le (length word) most then Some value.Word else None

-- the id of a user that is made
abbrev pub user_id_of : List ℕ → Option ℤ
user_id_of word = option_map pos (number_within 1 2147483647 word)

-- the id of a group that is made: below zero, and not the least number of 32 bits
abbrev pub group_id_of : List ℕ → Option ℤ
group_id_of [] = None
group_id_of (first ∷ digits) =
    if first == 45 then option_map (λ n. neg_ℤ (pos n)) (number_within 1 2147483647 digits) else None

-- what a word of a form is read as
abbrev pub value_of : Form → List ℕ → Option Value
value_of form.NewVolume word = name_of MAX_NEW_VOLUME word
value_of form.NewVolumeId word = option_map value.Number (number_within 1 MAX_NEW_ID word)
value_of form.Volume word = option_map value.Volume (volume_of word)
value_of form.Address word = option_map value.Number (address_of word)
value_of form.Partition word = option_map value.Number (partition_of word)
value_of form.NewName word = name_of MAX_NAME word
value_of form.Entry word = option_map value.Entry (entry_of word)
value_of form.UserId word = option_map value.Signed (user_id_of word)
value_of form.GroupId word = option_map value.Signed (group_id_of word)
value_of form.Signed word = option_map value.Signed (signed_of word)
value_of form.Access word = option_map value.Access (access_of word)

-- a value has a form where it is read
abbrev pub has_form : Form → List ℕ → Bool
has_form f word = is_some (value_of f word)

-- what is in a value, where it is of this kind
abbrev pub number_in : Value → Option ℕ
number_in (value.Number number) = Some number
number_in _ = None

abbrev pub volume_in : Value → Option (List ℕ)
volume_in (value.Volume volume) = Some volume
volume_in _ = None

abbrev pub entry_in : Value → Option (List ℕ)
entry_in (value.Entry entry) = Some entry
entry_in _ = None

abbrev pub signed_in : Value → Option ℤ
signed_in (value.Signed number) = Some number
signed_in _ = None

abbrev pub access_in : Value → Option Access
access_in (value.Access access) = Some access
access_in _ = None
