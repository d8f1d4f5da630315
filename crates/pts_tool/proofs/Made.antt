-- The command that words make has the items of the words.
use Rattle.std.proofs.Common.{◌≡◌, ℕ, ℤ, Bool, true, false, Option, Some, None, List, [], ◌∷◌, ◌++◌, map, sym, ap, ◌∙◌}
use Rattle.std.specs.Prelude.{option_map, unwrap_or}
use Rattle.script_words.specs.Numbers.{signed_of}
use Rattle.afs_commands.specs.declared.commands.PtsCommand.{PtsCommand}
use Rattle.afs_commands.specs.declared.commands.PtsCommand.TheVariants as pts
use Rattle.afs_commands.specs.declared.commands.VosCommand.{VosCommand}
use Rattle.afs_commands.specs.declared.commands.VosCommand.TheVariants as vos
use Rattle.afs_words.specs.Given.{flag_at, number_at, value_at, values_at}
use Rattle.afs_commands.specs.Accesses.{access_word}
use Rattle.afs_words.specs.Making.{IsPts, IsVos}
use Rattle.afs_words.specs.declared.tables.Operation.{Operation}
use Rattle.afs_words.specs.declared.tables.Operation.TheVariants as op
use Rattle.afs_words.specs.declared.values.Slot.{Slot}
use Rattle.pts_tool.specs.Flags.{flags_of}
use Rattle.pts_tool.specs.Plans.{command_tasks, deed_task, fields, kinds_of, made, maximum, pairs, tasks_for, word_at}
use Rattle.pts_tool.specs.declared.plans.Deed.{Deed}
use Rattle.pts_tool.specs.declared.plans.Deed.TheVariants as deed
use Rattle.pts_tool.specs.declared.tasks.Task.{Task}
use Rattle.pts_tool.specs.declared.tasks.Task.TheVariants as task

word_is : (s : List Slot) (i : ℕ) (w : List ℕ) → value_at s i ≡ Some w → w ≡ word_at s i
word_is s i w is = sym (ap (λ (o : Option (List ℕ)). unwrap_or o []) is)

by_operation : (o : Operation) (p : Operation) (s : List Slot) → o ≡ p → tasks_for p s ≡ tasks_for o s
by_operation o p s is = ap (λ (q : Operation). tasks_for q s) (sym is)

deed_is : (d : Deed) (entries : List (List ℕ)) (s : List Slot) → entries ≡ values_at s 0
    → map (deed_task d) entries ≡ map (deed_task d) (values_at s 0)
deed_is d entries s is = ap (map (deed_task d)) is

pairs_are : (adds : Bool) (users groups : List (List ℕ)) (s : List Slot) → users ≡ values_at s 0 → groups ≡ values_at s 1
    → pairs adds users groups ≡ pairs adds (values_at s 0) (values_at s 1)
pairs_are adds users groups s first second =
    ap (λ (xs : List (List ℕ)). pairs adds xs groups) first ∙ ap (λ (xs : List (List ℕ)). pairs adds (values_at s 0) xs) second

pub items_are : (p : PtsCommand) (o : Operation) (s : List Slot) → IsPts p o s → command_tasks p ≡ tasks_for o s
items_are (pts.CreateUser names ids) o s is =
    ap (λ (xs : List (List ℕ)). made false None xs (map Some ids.items)) is.1
    ∙ ap (λ (xs : List (Option ℤ)). made false None (values_at s 0) xs) is.2
    ∙ by_operation o op.CreateUser s is.0
items_are (pts.CreateGroup names owner ids) o s is =
    ap (λ (xs : List (List ℕ)). made true owner xs (map Some ids.items)) is.1
    ∙ ap (λ (w : Option (List ℕ)). made true w (values_at s 0) (map Some ids.items)) is.2
    ∙ ap (λ (xs : List (Option ℤ)). made true (value_at s 1) (values_at s 0) xs) is.3
    ∙ by_operation o op.CreateGroup s is.0
items_are (pts.Delete entries) o s is = deed_is deed.Delete entries.items s is.1 ∙ by_operation o op.Delete s is.0
items_are (pts.Rename entry name) o s is =
    ap (λ (w : List ℕ). task.Change w name None ∷ []) (word_is s 0 entry is.1)
    ∙ ap (λ (w : List ℕ). task.Change (word_at s 0) w None ∷ []) (word_is s 1 name is.2)
    ∙ by_operation o op.Rename s is.0
items_are (pts.Chown entry owner) o s is =
    ap (λ (w : List ℕ). task.Change w [] (Some owner) ∷ []) (word_is s 0 entry is.1)
    ∙ ap (λ (w : List ℕ). task.Change (word_at s 0) [] (Some w) ∷ []) (word_is s 1 owner is.2)
    ∙ by_operation o op.Chown s is.0
items_are (pts.AddUser users groups) o s is = pairs_are true users.items groups.items s is.1 is.2 ∙ by_operation o op.AddUser s is.0
items_are (pts.RemoveUser users groups) o s is = pairs_are false users.items groups.items s is.1 is.2 ∙ by_operation o op.RemoveUser s is.0
items_are (pts.Membership entries) o s is = deed_is deed.Membership entries.items s is.1 ∙ by_operation o op.Membership s is.0
items_are (pts.Examine entries) o s is = deed_is deed.Examine entries.items s is.1 ∙ by_operation o op.Examine s is.0
items_are (pts.ListOwned entries) o s is = deed_is deed.ListOwned entries.items s is.1 ∙ by_operation o op.ListOwned s is.0
items_are (pts.ListEntries users groups) o s is =
    ap (λ (b : Bool). task.ListEntries (kinds_of b groups) ∷ []) is.1
    ∙ ap (λ (b : Bool). task.ListEntries (kinds_of (flag_at s 0) b) ∷ []) is.2
    ∙ by_operation o op.ListEntries s is.0
items_are pts.ListMax o s is = by_operation o op.ListMax s is
items_are (pts.SetMax group user) o s is =
    ap (λ (n : Option ℤ). maximum true n ++ maximum false user) is.1
    ∙ ap (λ (n : Option ℤ). maximum true (number_at s 0) ++ maximum false n) is.2
    ∙ by_operation o op.SetMax s is.0
items_are (pts.SetFields entries access quota) o s is =
    ap (λ (xs : List (List ℕ)). map (fields (option_map flags_of (option_map access_word access)) quota) xs) is.1
    ∙ ap (λ (w : Option (List ℕ)). map (fields (option_map flags_of w) quota) (values_at s 0)) is.2
    ∙ ap (λ (n : Option ℤ). map (fields (option_map flags_of (value_at s 1)) n) (values_at s 0)) is.3
    ∙ by_operation o op.SetFields s is.0

-- a command of `vos` has no items
pub none_are : (v : VosCommand) (o : Operation) (s : List Slot) → IsVos v o s → [] ≡ tasks_for o s
none_are (vos.AddEntry name place id) o s is = by_operation o op.AddEntry s is.0
none_are (vos.ListVldb volume sites locked style) o s is = by_operation o op.ListVldb s is.0
none_are (vos.Lock volume) o s is = by_operation o op.Lock s is.0
none_are (vos.Unlock volume) o s is = by_operation o op.Unlock s is.0
none_are (vos.UnlockVldb sites) o s is = by_operation o op.UnlockVldb s is.0
none_are (vos.DelEntry volumes) o s is = by_operation o op.DelEntry s is.0
none_are (vos.AddSite place volume) o s is = by_operation o op.AddSite s is.0
none_are (vos.RemSite place volume) o s is = by_operation o op.RemSite s is.0
none_are (vos.ChangeLoc place volume) o s is = by_operation o op.ChangeLoc s is.0
none_are vos.ListAddrs o s is = by_operation o op.ListAddrs s is
none_are (vos.ChangeAddr from to) o s is = by_operation o op.ChangeAddr s is.0
