-- What the two writes of a log leave in its file, and what a crash leaves there.
use Rattle.std.proofs.Common.{◌≡◌, ℕ, ◌+◌, ◌≤◌, List, [], ◌++◌, length, take, drop, Option, None, Some, IfSome, refl, ap, ◌∙◌, subst, arith}
use Rattle.std.specs.Option.{option_map}
use Rattle.std.proofs.lemmas.List.{append-nil, drop_all}
use Rattle.disk_base.specs.declared.disks.FileNo.TheVariants.{Log}
use Rattle.disk_base.specs.declared.disks.DiskEnd.{DiskEnd}
use Rattle.disk_base.specs.declared.disks.DiskEnd.TheVariants.{Done, Failed}
use Rattle.disk_base.specs.Files.{Files, laid, OnDone}
use Rattle.disk_base.specs.declared.disks.Disk.{Ghosts}
use Rattle.disk_base.specs.Crash.{Torn, InFile, Follows, OnlyIn, LeavesOnly, After}
use Rattle.disk_base.specs.Runs.{OnlyReserves}
use Rattle.disk_base.proofs.Runs.{widened, joined, rested}
use Rattle.ubik_log.specs.LogGrammar.{field}
use Rattle.ubik_log.specs.Gate.{BeginsWithZero, closed}
use Rattle.ubik_log.specs.LogFile.{with_log, HasDiscarded}
use Rattle.ubik_log.proofs.Gates.{zero_word_is_discarded, short_log_is_discarded}

pub on_done : (end : DiskEnd) (P Q : Type 0) → (P → Q) → OnDone end P → OnDone end Q
on_done Done P Q f p = f p
on_done Failed P Q f p = p

-- what holds whatever the disk tells
pub told_or_not : (files : Option Files) (P : Type 0) → P → IfSome files (λ fs. P)
told_or_not None P p = tt
told_or_not (Some fs) P p = p

pub under : (files : Option Files) (P Q : Type 0) → (P → Q) → IfSome files (λ fs. P) → IfSome files (λ fs. Q)
under None P Q f p = tt
under (Some fs) P Q f p = f p

-- the files after the first write
abbrev zeroed : Files → Files
zeroed fs = with_log (laid fs.log 0 (field 0)) fs

rest_laid : (rest : List ℕ) → laid (field 0) 4 rest ≡ field 0 ++ rest
rest_laid rest = ap (λ (x : List ℕ). field 0 ++ rest ++ x) (drop_all (4 + length rest) (field 0) (omega arith)) ∙ append-nil (field 0 ++ rest)

log_kept : (log rest before : List ℕ) → before ≡ [] → rest ≡ drop 4 log → laid (laid before 0 (field 0)) 4 rest ≡ closed log
log_kept log rest before empty is = ap (λ (x : List ℕ). laid (laid x 0 (field 0)) 4 rest) empty ∙ rest_laid rest ∙ ap (λ (x : List ℕ). field 0 ++ x) is

module _ (log rest : List ℕ) (is : rest ≡ drop 4 log) where
  pub kept : (old mid : Option Files) → IfSome old (λ fs. fs.log ≡ []) → mid ≡ option_map zeroed old
      → option_map (λ fs. with_log (laid fs.log 4 rest) fs) mid ≡ option_map (with_log (closed log)) old
  kept None mid empty first = ap (λ (o : Option Files). option_map (λ fs. with_log (laid fs.log 4 rest) fs) o) first
  kept (Some fs) mid empty first =
      ap (λ (o : Option Files). option_map (λ fs. with_log (laid fs.log 4 rest) fs) o) first ∙ ap (λ (x : List ℕ). Some (with_log x fs)) (log_kept log rest fs.log empty is)

  -- after the second sync
  pub durable : (old mid : Option Files) (before between now : Files → Type 0) (n : ℕ) → IfSome old (λ fs. fs.log ≡ []) → mid ≡ option_map zeroed old
      → Follows (InFile Log (Torn 0 4)) before between → Follows (InFile Log (Torn 4 n)) between now → IfSome mid (λ fs. OnlyIn Log (laid fs.log 4 rest) now)
      → IfSome old (λ fs. Follows (λ d c. c ≡ with_log (closed log) d) before now)
  durable None mid before between now n empty first one two only = tt
  durable (Some fs) mid before between now n empty first one two only = λ c left.
      let from = two c left in
      let before_that = one from.0 from.1 in
      let only_here : OnlyIn Log (laid (laid fs.log 0 (field 0)) 4 rest) now = subst (λ o. IfSome o (λ fs. OnlyIn Log (laid fs.log 4 rest) now)) first only in
      let log_is : c.log ≡ closed log = only_here c left ∙ log_kept log rest fs.log empty is in
      (before_that.0, before_that.1, from.2.0 ∙ ap (λ (d : Files). with_log c.log d) before_that.2.0 ∙ ap (λ (x : List ℕ). with_log x before_that.0) log_is)

-- the first write tears four bytes at most
pub first_run : (before : Files → Type 0) → OnlyIn Log [] before → (c : Files) → After (InFile Log (Torn 0 4)) before c → After HasDiscarded before c
first_run before only c from =
    let torn = from.2.1 in
    (from.0, from.1, (short_log_is_discarded c.log (omega (arith, torn.no_longer, ap length (only from.0 from.1))), from.2.0))

-- after the first sync a crash leaves the zero word alone
pub zero_only : (old : Option Files) (between : Files → Type 0) → IfSome old (λ fs. fs.log ≡ []) → IfSome old (λ fs. OnlyIn Log (laid fs.log 0 (field 0)) between)
    → IfSome old (λ fs. OnlyIn Log (field 0) between)
zero_only None between empty only = tt
zero_only (Some fs) between empty only = λ c left. only c left ∙ ap (λ (x : List ℕ). laid x 0 (field 0)) empty

-- the second write leaves that word
pub second_run : (before between : Files → Type 0) (n : ℕ) → Follows (InFile Log (Torn 0 4)) before between → OnlyIn Log (field 0) between
    → (c : Files) → After (InFile Log (Torn 4 n)) between c → After HasDiscarded before c
second_run before between n one only c from =
    let before_that = one from.0 from.1 in
    let torn = from.2.1 in
    let zero = torn.before ∙ ap (λ (x : List ℕ). take 4 x) (only from.0 from.1) in
    (before_that.0, before_that.1, (zero_word_is_discarded c.log zero, from.2.0 ∙ ap (λ (d : Files). with_log c.log d) before_that.2.0))

-- an empty log is a discarded one
pub empty_left : (before : Files → Type 0) → OnlyIn Log [] before → (c : Files) → before c → After HasDiscarded before c
empty_left before only c left = (c, left, (short_log_is_discarded c.log (omega (arith, ap length (only c left))), refl))

-- a call that made room went before
module _ {D : Type 0} {g : Ghosts D} where
  pub moments_after : {old mid : D} (new : D) → OnlyReserves g old mid
      → IfSome (g.files mid) (λ fs. OnlyIn Log [] (g.may_leave mid) → LeavesOnly g.steps g.left_since mid new (After HasDiscarded (g.may_leave mid)))
      → IfSome (g.files old) (λ fs. OnlyIn Log [] (g.may_leave old) → LeavesOnly g.steps g.left_since old new (After HasDiscarded (g.may_leave old)))
  moments_after {old} {mid} new made runs =
      let P = After HasDiscarded (g.may_leave old) in
      let Run : Type 0 = OnlyIn Log [] (g.may_leave mid) → LeavesOnly g.steps g.left_since mid new (After HasDiscarded (g.may_leave mid)) in
      under (g.files old) _ _
      (λ run only. joined g.steps g.left_since old mid new P
      (rested g.steps g.left_since old mid P (g.may_leave old) (g.may_leave mid) made.steps made.crash (g.only_now old) (empty_left (g.may_leave old) only))
      (widened g.steps g.left_since mid new (After HasDiscarded (g.may_leave mid)) P (λ c from. (from.0, made.crash.no_more from.0 from.1, from.2))
      (run (λ c left. only c (made.crash.no_more c left)))))
      (subst (λ o. IfSome o (λ fs. Run)) made.files runs)

pub since_same : (old files : Option Files) (count steps new : ℕ) (left_since : ℕ → Files → Type 0) → files ≡ old → steps ≡ count
    → IfSome files (λ fs. steps + 3 ≤ new → (c : Files) → left_since (steps + 2) c → BeginsWithZero c.log)
    → IfSome old (λ fs. count + 3 ≤ new → (c : Files) → left_since (count + 2) c → BeginsWithZero c.log)
since_same old files count steps new left_since same_files same_steps since =
    subst (λ o. IfSome o (λ fs. count + 3 ≤ new → (c : Files) → left_since (count + 2) c → BeginsWithZero c.log)) same_files
    (subst (λ n. IfSome files (λ fs. n + 3 ≤ new → (c : Files) → left_since (n + 2) c → BeginsWithZero c.log)) same_steps since)
