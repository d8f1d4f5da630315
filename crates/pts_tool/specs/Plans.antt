-- The items of a command, in the order in which they are worked through.
use Rattle.std.specs.Prelude.{ℕ, ℤ, pos, ◌+◌, Bool, true, false, List, [], ◌∷◌, ◌++◌, drop, map, Option, Some, None, option_map, option_and_then, slice_get, unwrap_or}
use Rattle.std.specs.List.{flat_map}
use Rattle.afs_commands.specs.declared.commands.PtsCommand.{PtsCommand}
use Rattle.afs_commands.specs.declared.commands.PtsCommand.TheVariants as pts
use Rattle.afs_words.specs.Command.{Command}
use Rattle.afs_words.specs.Given.{values_at, value_at, flag_at, number_at}
use Rattle.afs_commands.specs.Accesses.{access_word}
use Rattle.afs_words.specs.declared.tables.Operation.{Operation}
use Rattle.afs_words.specs.declared.tables.Operation.TheVariants as operation
use Rattle.afs_words.specs.declared.values.Slot.{Slot}
use Rattle.script_words.specs.Numbers.{signed_of}
use Rattle.pts_tool.specs.Flags.{flags_of}
use Rattle.pts_tool.specs.declared.plans.Deed.{Deed}
use Rattle.pts_tool.specs.declared.plans.Deed.TheVariants as deed
use Rattle.pts_tool.specs.declared.tasks.Task.{Task}
use Rattle.pts_tool.specs.declared.tasks.Task.TheVariants as task

-- an entry for each name: each of the ids goes with the name at its place
abbrev pub first_of : List (Option ℤ) → Option ℤ
first_of ids = unwrap_or (slice_get ids 0) None

abbrev pub made : Bool → Option (List ℕ) → List (List ℕ) → List (Option ℤ) → List Task
made is_group owner [] ids = []
made is_group owner (name ∷ names) ids = task.Create name is_group owner (first_of ids) ∷ made is_group owner names (drop 1 ids)

-- what is done with an entry
abbrev pub deed_task : Deed → List ℕ → Task
deed_task deed.Delete entry = task.Delete entry
deed_task deed.Membership entry = task.Membership entry
deed_task deed.Examine entry = task.Examine entry
deed_task deed.ListOwned entry = task.ListOwned entry

-- each user with each group
abbrev pub pairs : Bool → (users groups : List (List ℕ)) → List Task
pairs adds users groups = flat_map (λ user. map (λ group. task.Member user group adds) groups) users

-- a maximum that is to be set
abbrev pub maximum : Bool → Option ℤ → List Task
maximum is_group None = []
maximum is_group (Some id) = task.SetMax id is_group ∷ []

-- which fields are set, and their values
abbrev pub mask_of : Option ℕ → Option ℤ → ℕ
mask_of None None = 0
mask_of (Some flags) None = 1
mask_of None (Some quota) = 2
mask_of (Some flags) (Some quota) = 3

abbrev pub fields : Option ℕ → Option ℤ → List ℕ → Task
fields flags quota entry = task.SetFields entry (mask_of flags quota) (unwrap_or flags 0) (unwrap_or quota (pos 0))

-- which entries are listed: 1 for users, 2 for groups; users where nothing is said
abbrev pub kinds_of : (users groups : Bool) → ℕ
kinds_of users false = 1
kinds_of false true = 2
kinds_of true true = 3

-- a name or an owner that was given
abbrev pub word_at : List Slot → ℕ → List ℕ
word_at s place = unwrap_or (value_at s place) []

-- an operation of `vos` has none
abbrev pub tasks_for : Operation → List Slot → List Task
tasks_for operation.CreateUser s = made false None (values_at s 0) (map signed_of (values_at s 1))
tasks_for operation.CreateGroup s = made true (value_at s 1) (values_at s 0) (map signed_of (values_at s 2))
tasks_for operation.Delete s = map (deed_task deed.Delete) (values_at s 0)
tasks_for operation.Rename s = task.Change (word_at s 0) (word_at s 1) None ∷ []
tasks_for operation.Chown s = task.Change (word_at s 0) [] (Some (word_at s 1)) ∷ []
tasks_for operation.AddUser s = pairs true (values_at s 0) (values_at s 1)
tasks_for operation.RemoveUser s = pairs false (values_at s 0) (values_at s 1)
tasks_for operation.Membership s = map (deed_task deed.Membership) (values_at s 0)
tasks_for operation.Examine s = map (deed_task deed.Examine) (values_at s 0)
tasks_for operation.ListOwned s = map (deed_task deed.ListOwned) (values_at s 0)
tasks_for operation.ListEntries s = task.ListEntries (kinds_of (flag_at s 0) (flag_at s 1)) ∷ []
tasks_for operation.ListMax s = task.ListMax ∷ []
tasks_for operation.SetMax s = maximum true (number_at s 0) ++ maximum false (number_at s 1)
tasks_for operation.SetFields s = map (fields (option_map flags_of (value_at s 1)) (number_at s 2)) (values_at s 0)
tasks_for _ s = []

abbrev pub tasks_of : Command → List Task
tasks_of command = tasks_for command.operation command.switches

-- the items of a command whose values are read
abbrev pub command_tasks : PtsCommand → List Task
command_tasks (pts.CreateUser names ids) = made false None names.items (map Some ids.items)
command_tasks (pts.CreateGroup names owner ids) = made true owner names.items (map Some ids.items)
command_tasks (pts.Delete entries) = map (deed_task deed.Delete) entries.items
command_tasks (pts.Rename entry name) = task.Change entry name None ∷ []
command_tasks (pts.Chown entry owner) = task.Change entry [] (Some owner) ∷ []
command_tasks (pts.AddUser users groups) = pairs true users.items groups.items
command_tasks (pts.RemoveUser users groups) = pairs false users.items groups.items
command_tasks (pts.Membership entries) = map (deed_task deed.Membership) entries.items
command_tasks (pts.Examine entries) = map (deed_task deed.Examine) entries.items
command_tasks (pts.ListOwned entries) = map (deed_task deed.ListOwned) entries.items
command_tasks (pts.ListEntries users groups) = task.ListEntries (kinds_of users groups) ∷ []
command_tasks pts.ListMax = task.ListMax ∷ []
command_tasks (pts.SetMax group user) = maximum true group ++ maximum false user
command_tasks (pts.SetFields entries access quota) =
    map (fields (option_map flags_of (option_map access_word access)) quota) entries.items
