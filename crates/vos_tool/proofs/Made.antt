-- The command that words make has the course of the words.
use Rattle.std.proofs.Common.{◌≡◌, ℕ, ◌≤◌, ◌&&◌, Bool, true, false, leb, Option, Some, None, List, [], refl, sym, ap, ◌∙◌, cond, arith}
use Rattle.std.specs.Prelude.{IfSome, option_and_then, unwrap_or}
use Rattle.std.proofs.lemmas.Bool.Decides.{nat_tests}
use Rattle.script_words.specs.Numbers.{number_of, number_within}
use Rattle.afs_commands.specs.declared.commands.PtsCommand.{PtsCommand}
use Rattle.afs_commands.specs.declared.commands.PtsCommand.TheVariants as pts
use Rattle.afs_commands.specs.declared.commands.VosCommand.{VosCommand}
use Rattle.afs_commands.specs.declared.commands.VosCommand.TheVariants as vos
use Rattle.afs_commands.specs.declared.places.Place.{Place}
use Rattle.afs_commands.specs.declared.places.SiteFilter.{SiteFilter}
use Rattle.afs_commands.specs.declared.places.Style.{Style}
use Rattle.afs_words.specs.Given.{address_at, flag_at, partition_at, value_at}
use Rattle.afs_words.specs.Making.{IsFilter, IsPlace, IsPts, IsVos}
use Rattle.afs_words.specs.declared.tables.Operation.{Operation}
use Rattle.afs_words.specs.declared.tables.Operation.TheVariants as op
use Rattle.afs_words.specs.declared.values.Slot.{Slot}
use Rattle.tool_base.specs.Course.{gives}
use Rattle.vos_tool.specs.Adding.{addentry_text}
use Rattle.vos_tool.specs.Addresses.{changeaddr_text}
use Rattle.vos_tool.specs.Changing.{change_text}
use Rattle.vos_tool.specs.Command.{HasLowId, command_text, filter_at, host_at, place_at, style_at, text_by, word_at}
use Rattle.vos_tool.specs.Deleting.{delentry_text}
use Rattle.vos_tool.specs.Listing.{filter_of, listvldb_text, unlockvldb_text}
use Rattle.vos_tool.specs.Locking.{lock_text, unlock_text}
use Rattle.vos_tool.specs.declared.sites.SiteChange.{SiteChange}
use Rattle.vos_tool.specs.declared.sites.SiteChange.TheVariants.{Add, Remove, Move}

or_else : {X : Type 0} (o : Option X) (x d : X) → o ≡ Some x → x ≡ unwrap_or o d
or_else o x d is = sym (ap (λ p. unwrap_or p d) is)

word_is : (s : List Slot) (i : ℕ) (w : List ℕ) → value_at s i ≡ Some w → w ≡ word_at s i
word_is s i w is = or_else (value_at s i) w [] is

place_is : (p : Place) (s : List Slot) (i j : ℕ) → IsPlace p s i j → p ≡ place_at s i j
place_is p s i j is =
    let to : ℕ → ℕ → Place = λ host partition. record { host = host; partition = partition } in
    ap (λ (n : ℕ). to n p.partition) (or_else (address_at s i) p.host 0 is.0)
    ∙ ap (λ (n : ℕ). to (host_at s i) n) (or_else (partition_at s j) p.partition 0 is.1)

filter_is : (f : SiteFilter) (s : List Slot) (i j : ℕ) → IsFilter f s i j
    → f ≡ record { server = address_at s i; partition = partition_at s j }
filter_is f s i j is =
    let to : Option ℕ → Option ℕ → SiteFilter = λ server partition. record { server = server; partition = partition } in
    ap (λ (o : Option ℕ). to o f.partition) is.0 ∙ ap (λ (o : Option ℕ). to (address_at s i) o) is.1

style_is : (y : Style) (s : List Slot) → y.quiet ≡ flag_at s 4 → y.unsorted ≡ flag_at s 5 → y ≡ style_at s
style_is y s quiet unsorted =
    let to : Bool → Bool → Style = λ a b. record { quiet = a; unsorted = b } in
    ap (λ (b : Bool). to b y.unsorted) quiet ∙ ap (λ (b : Bool). to (flag_at s 4) b) unsorted

by_operation : (o : Operation) (p : Operation) (s : List Slot) → o ≡ p → text_by p s ≡ text_by o s
by_operation o p s is = ap (λ (q : Operation). text_by q s) (sym is)

site_is : (change : SiteChange) (place : Place) (volume : List ℕ) (s : List Slot) → IsPlace place s 0 1 → value_at s 2 ≡ Some volume
    → change_text change place volume ≡ change_text change (place_at s 0 1) (word_at s 2)
site_is change place volume s at named =
    ap (λ (p : Place). change_text change p volume) (place_is place s 0 1 at)
    ∙ ap (λ (w : List ℕ). change_text change (place_at s 0 1) w) (word_is s 2 volume named)

pub course_is : (v : VosCommand) (o : Operation) (s : List Slot) → IsVos v o s → command_text v ≡ text_by o s
course_is (vos.AddEntry name place id) o s is =
    ap (λ (w : List ℕ). addentry_text w place id) (word_is s 0 name is.1)
    ∙ ap (λ (p : Place). addentry_text (word_at s 0) p id) (place_is place s 1 2 is.2)
    ∙ ap (λ (i : Option ℕ). addentry_text (word_at s 0) (place_at s 1 2) i) is.3
    ∙ by_operation o op.AddEntry s is.0
course_is (vos.ListVldb volume sites locked style) o s is =
    ap (λ (w : Option (List ℕ)). listvldb_text w (filter_of sites locked) style) is.1
    ∙ ap (λ (f : SiteFilter). listvldb_text (value_at s 0) (filter_of f locked) style) (filter_is sites s 1 2 is.2)
    ∙ ap (λ (b : Bool). listvldb_text (value_at s 0) (filter_at s 1 2 b) style) is.3
    ∙ ap (λ (y : Style). listvldb_text (value_at s 0) (filter_at s 1 2 (flag_at s 3)) y) (style_is style s is.4 is.5)
    ∙ by_operation o op.ListVldb s is.0
course_is (vos.Lock volume) o s is = ap (λ (w : List ℕ). lock_text w) (word_is s 0 volume is.1) ∙ by_operation o op.Lock s is.0
course_is (vos.Unlock volume) o s is = ap (λ (w : List ℕ). unlock_text w) (word_is s 0 volume is.1) ∙ by_operation o op.Unlock s is.0
course_is (vos.UnlockVldb sites) o s is =
    ap (λ (f : SiteFilter). unlockvldb_text (filter_of f true)) (filter_is sites s 0 1 is.1) ∙ by_operation o op.UnlockVldb s is.0
course_is (vos.DelEntry volumes) o s is = ap (λ (ws : List (List ℕ)). delentry_text ws) is.1 ∙ by_operation o op.DelEntry s is.0
course_is (vos.AddSite place volume) o s is = site_is Add place volume s is.1 is.2 ∙ by_operation o op.AddSite s is.0
course_is (vos.RemSite place volume) o s is = site_is Remove place volume s is.1 is.2 ∙ by_operation o op.RemSite s is.0
course_is (vos.ChangeLoc place volume) o s is = site_is Move place volume s is.1 is.2 ∙ by_operation o op.ChangeLoc s is.0
course_is vos.ListAddrs o s is = by_operation o op.ListAddrs s is
course_is (vos.ChangeAddr from to) o s is =
    ap (λ (n : ℕ). changeaddr_text n to) (or_else (address_at s 0) from 0 is.1)
    ∙ ap (λ (h : Option ℕ). changeaddr_text (host_at s 0) h) is.2
    ∙ by_operation o op.ChangeAddr s is.0

-- a command of `pts` has no text here
pub other_is : (p : PtsCommand) (o : Operation) (s : List Slot) → IsPts p o s → gives {A = List ℕ} [] ≡ text_by o s
other_is (pts.CreateUser names ids) o s is = by_operation o op.CreateUser s is.0
other_is (pts.CreateGroup names owner ids) o s is = by_operation o op.CreateGroup s is.0
other_is (pts.Delete entries) o s is = by_operation o op.Delete s is.0
other_is (pts.Rename entry name) o s is = by_operation o op.Rename s is.0
other_is (pts.Chown entry owner) o s is = by_operation o op.Chown s is.0
other_is (pts.AddUser users groups) o s is = by_operation o op.AddUser s is.0
other_is (pts.RemoveUser users groups) o s is = by_operation o op.RemoveUser s is.0
other_is (pts.Membership entries) o s is = by_operation o op.Membership s is.0
other_is (pts.Examine entries) o s is = by_operation o op.Examine s is.0
other_is (pts.ListOwned entries) o s is = by_operation o op.ListOwned s is.0
other_is (pts.ListEntries users groups) o s is = by_operation o op.ListEntries s is.0
other_is pts.ListMax o s is = by_operation o op.ListMax s is
other_is (pts.SetMax group user) o s is = by_operation o op.SetMax s is.0
other_is (pts.SetFields entries access quota) o s is = by_operation o op.SetFields s is.0

tested : (b : Bool) (n high : ℕ) (low : Bool) → b ≡ (low && leb n high) → IfSome (cond b (Some n) None) (λ m. m ≤ high)
tested true n high low is = grind (arith, nat_tests)
tested false n high low is = tt

low_within : (low high : ℕ) (found : Option ℕ)
    → IfSome (option_and_then (λ n. cond (leb low n && leb n high) (Some n) None) found) (λ n. n ≤ high)
low_within low high None = tt
low_within low high (Some n) = tested (leb low n && leb n high) n high (leb low n) refl

low_new : (s : List Slot) (i : ℕ) (word : Option (List ℕ))
    → IfSome (option_and_then (number_within 1 2147483645) word) (λ n. n ≤ 2147483645)
low_new s i None = tt
low_new s i (Some word) = low_within 1 2147483645 (number_of word)

pub low_id : (v : VosCommand) (o : Operation) (s : List Slot) → IsVos v o s → HasLowId v
low_id (vos.AddEntry name place id) o s is = rw is.3 (low_new s 3 (value_at s 3))
low_id (vos.ListVldb volume sites locked style) o s is = tt
low_id (vos.Lock volume) o s is = tt
low_id (vos.Unlock volume) o s is = tt
low_id (vos.UnlockVldb sites) o s is = tt
low_id (vos.DelEntry volumes) o s is = tt
low_id (vos.AddSite place volume) o s is = tt
low_id (vos.RemSite place volume) o s is = tt
low_id (vos.ChangeLoc place volume) o s is = tt
low_id vos.ListAddrs o s is = tt
low_id (vos.ChangeAddr from to) o s is = tt
