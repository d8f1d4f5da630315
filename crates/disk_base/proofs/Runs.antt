-- How calls of a disk join to one that is made of them.
use Rattle.std.proofs.Common.{◌≡◌, ◌+◌, ◌≤◌, ◌∙◌, take, sym, ap, subst, inl, inr, ⊎_elim, ℕ, List, [], Option, Some, None, IsSome, refl, arith}
use Rattle.std.specs.Option.{option_map}
use Rattle.disk_base.specs.declared.disks.Disk.{Ghosts}
use Rattle.disk_base.specs.declared.disks.FileNo.{FileNo}
use Rattle.disk_base.specs.declared.disks.FileNo.TheVariants.{Database, Log, Incoming}
use Rattle.disk_base.specs.Files.{Files, file_of, with_file, laid}
use Rattle.disk_base.specs.Count.{HasCause}
use Rattle.disk_base.specs.Crash.{Torn, InFile, Elapses, LeavesOnly, LeavesSame, LeavesOthers, After}
use Rattle.disk_base.specs.Stops.{DiskStop, IsStopped, CountsOwn}
use Rattle.disk_base.specs.Runs.{OnlyReads, OnlyReserves, OneChange, Writes, Cuts, Syncs, ChangesAtMost, AnyIn, SameOthers}
use Rattle.disk_base.proofs.Idle.{same_file, Torn-idle}
use Rattle.disk_base.proofs.Stopping.{advances_none, advances_one, advances_joined}

-- a write that has not begun is one that is torn
pub untouched : (f : FileNo) (at len : ℕ) (before : Files → Type 0) (c : Files) → before c → After (InFile f (Torn at len)) before c
untouched f at len before c left = (c, left, (same_file c f, Torn-idle at len (file_of c f)))

-- what a crash leaves at the moments of a run of calls
module _ {D : Type 0} (steps : D → ℕ) (left_since : D → ℕ → Files → Type 0) where
  -- a run leaves what has P, which is what has Q
  pub widened : (old new : D) (P Q : Files → Type 0) → ((c : Files) → P c → Q c) → LeavesOnly steps left_since old new P → LeavesOnly steps left_since old new Q
  widened old new P Q wider run = record {
    later = run.later;
    each = λ c left. wider c (run.each c left);
    before = λ t c le left. ⊎_elim (λ past. inl past) (λ here. inr (wider c here)) (run.before t c le left);
  }

  -- one run after another
  pub joined : (old mid new : D) (P : Files → Type 0) → LeavesOnly steps left_since old mid P → LeavesOnly steps left_since mid new P → LeavesOnly steps left_since old new P
  joined old mid new P first second = record {
    later = omega (arith, first.later, second.later);
    each = λ c left. ⊎_elim (first.each c) (λ here. here) (second.before (steps old) c first.later left);
    before = λ t c le left. ⊎_elim (first.before t c le) (λ here. inr here) (second.before t c (omega (arith, le, first.later)) left);
  }

  -- a changing call
  pub called : (old new : D) (P before now : Files → Type 0) → steps new ≡ steps old + 1 → Elapses (steps old) (left_since old) (left_since new) now
      → ((c : Files) → left_since old (steps old) c → before c) → ((c : Files) → before c → P c) → ((c : Files) → now c → P c) → LeavesOnly steps left_since old new P
  called old new P before now more time only here there = record {
    later = omega (arith, more);
    each = λ c left. ⊎_elim (λ past. here c (only c past)) (λ left_now. there c left_now) (time.nothing_else (steps old) c (omega arith) left);
    before = λ t c le left. ⊎_elim (λ past. inl past) (λ left_now. inr (there c left_now)) (time.nothing_else t c le left);
  }

  -- a call that changes no file
  pub rested : (old new : D) (P before now : Files → Type 0) → steps new ≡ steps old → LeavesSame before now (left_since old) (left_since new)
      → ((c : Files) → left_since old (steps old) c → before c) → ((c : Files) → before c → P c) → LeavesOnly steps left_since old new P
  rested old new P before now same rest only here = record {
    later = omega (arith, same);
    each = λ c left. here c (only c (rest.since_no_more (steps old) c left));
    before = λ t c le left. inl (rest.since_no_more t c left);
  }

-- one change of a file after another
pub any_joined : (f : FileNo) (a b c : Files) → AnyIn f a b → AnyIn f b c → AnyIn f a c
any_joined Database a b c first second = second ∙ ap (λ (fs : Files). with_file fs Database c.database) first
any_joined Log a b c first second = second ∙ ap (λ (fs : Files). with_file fs Log c.log) first
any_joined Incoming a b c first second = second ∙ ap (λ (fs : Files). with_file fs Incoming c.incoming) first

-- the same of what a crash may leave
pub others_joined : (f : FileNo) (old mid new : Files → Type 0) → LeavesOthers f old mid → LeavesOthers f mid new → LeavesOthers f old new
unfolding LeavesOthers
others_joined f old mid new first second = record {
  no_more = λ c left.
      let b = second.no_more c left in
      let a = first.no_more b.0 b.1 in
      (a.0, a.1, any_joined f a.0 b.0 c a.2 b.2);
  no_less = λ a left.
      let b = first.no_less a left in
      let c = second.no_less b.0 b.1 in
      (c.0, c.1, any_joined f c.0 b.0 a c.2 b.2);
}

pub others_same : (f : FileNo) (old new : Files → Type 0) → ((c : Files) → new c → old c) → ((c : Files) → old c → new c) → LeavesOthers f old new
unfolding LeavesOthers
others_same f old new no_more no_less = record {
  no_more = λ c left. (c, no_more c left, same_file c f);
  no_less = λ c left. (c, no_less c left, same_file c f);
}

-- and of what reads give
with_twice : (f : FileNo) (fs : Files) (bytes later : List ℕ) → with_file (with_file fs f bytes) f later ≡ with_file fs f later
with_twice Database fs bytes later = refl
with_twice Log fs bytes later = refl
with_twice Incoming fs bytes later = refl

pub reads_others : (f : FileNo) (change : Files → List ℕ) (before after : Option Files) → after ≡ option_map (λ fs. with_file fs f (change fs)) before → SameOthers f before after
reads_others f change None after is = ([], is)
reads_others f change (Some fs) after is = (change fs, is)

reads_same : (f : FileNo) (before after : Option Files) → after ≡ before → SameOthers f before after
reads_same f None after is = ([], is)
reads_same f (Some fs) after is = (file_of fs f, is ∙ ap (λ (x : Files). Some x) (same_file fs f))

reads_joined_others : (f : FileNo) (a b c : Option Files) → SameOthers f a b → SameOthers f b c → SameOthers f a c
reads_joined_others f None b c first second =
    (second.0, second.1 ∙ ap (option_map (λ fs. with_file fs f second.0)) first.1)
reads_joined_others f (Some fs) b c first second =
    (second.0, second.1 ∙ ap (option_map (λ x. with_file x f second.0)) first.1 ∙ ap (λ (x : Files). Some x) (with_twice f fs first.0 second.0))

cause_joined : (a b c : ℕ) (F G : Type 0) → HasCause a b F → HasCause b c G → HasCause a c G
cause_joined a b c F G first second = record {
  never_falls = omega (arith, first.never_falls, second.never_falls);
  rose = λ failed. let rose = second.rose failed in omega (arith, first.never_falls, rose);
}

pub own_joined : (a b c : ℕ) (mid new : DiskStop) (F G : Type 0) → CountsOwn a b mid F → ¬ F → CountsOwn b c new G → CountsOwn a c new G
own_joined a b c mid new F G first went second =
    let same = first.kept went in record {
      raised = λ failed runs. let rose = second.raised failed runs in omega (arith, same, rose);
      brought = λ failed is. second.brought failed is ∙ same;
      kept = λ not. second.kept not ∙ same;
    }

pub own_as : (a b : ℕ) (stop : DiskStop) (F G : Type 0) → (F → G) → (G → F) → CountsOwn a b stop F → CountsOwn a b stop G
own_as a b stop F G to from own = record {
  raised = λ failed runs. own.raised (from failed) runs;
  brought = λ failed is. own.brought (from failed) is;
  kept = λ not. own.kept (λ failed. not (to failed));
}

pub own_none : (a b : ℕ) (stop : DiskStop) (F : Type 0) → ¬ F → b ≡ a → CountsOwn a b stop F
own_none a b stop F went same = record { raised = λ failed _. absurd (went failed); brought = λ failed _. absurd (went failed); kept = λ _. same }

module _ {D : Type 0} {g : Ghosts D} where
  -- no call at all
  pub reads_nothing : (disk : D) → OnlyReads g disk disk ⊥
  reads_nothing disk = record {
    files = λ _. refl;
    kept = λ _. refl;
    room = λ f. omega arith;
    steps = refl;
    crash = record { no_more = λ c left. left; no_less = λ c left. left; since_no_more = λ t c left. left; since_no_less = λ t c left. left };
    stop = refl;
    pending = refl;
    tells = refl;
    cause = record { never_falls = omega arith; rose = λ none. absurd none };
    own = own_none (g.own_faults disk) (g.own_faults disk) (g.stop disk) ⊥ (λ none. none) refl;
  }

  -- a call of two, of which the first did not fail
  pub reads_joined : {old mid new : D} {F G : Type 0} → OnlyReads g old mid F → ¬ F → OnlyReads g mid new G → OnlyReads g old new G
  reads_joined {old} {mid} {new} {F} {G} first went second = record {
    files = λ not. second.files not ∙ first.files went;
    kept = λ told. second.kept (subst (λ (m : Option _). IsSome m) (sym first.pending) told) ∙ first.kept told;
    room = λ f. let before = first.room f in let after = second.room f in omega (arith, before, after);
    steps = second.steps ∙ first.steps;
    crash = record {
      no_more = λ c left. first.crash.no_more c (second.crash.no_more c left);
      no_less = λ c left. second.crash.no_less c (first.crash.no_less c left);
      since_no_more = λ t c left. first.crash.since_no_more t c (second.crash.since_no_more t c left);
      since_no_less = λ t c left. second.crash.since_no_less t c (first.crash.since_no_less t c left);
    };
    stop = second.stop ∙ first.stop;
    pending = second.pending ∙ first.pending;
    tells = second.tells ∙ first.tells;
    cause = cause_joined (g.faults old) (g.faults mid) (g.faults new) F G first.cause second.cause;
    own = own_joined (g.own_faults old) (g.own_faults mid) (g.own_faults new) (g.stop mid) (g.stop new) F G first.own went second.own;
  }

  -- a failure that is said in other words
  pub reads_as : {old new : D} {F G : Type 0} → (F → G) → (G → F) → OnlyReads g old new F → OnlyReads g old new G
  reads_as {old} {new} {F} {G} to from reads = record {
    files = λ not. reads.files (λ failed. not (to failed));
    kept = reads.kept;
    room = reads.room;
    steps = reads.steps;
    crash = reads.crash;
    stop = reads.stop;
    pending = reads.pending;
    tells = reads.tells;
    cause = record { never_falls = reads.cause.never_falls; rose = λ failed. reads.cause.rose (from failed) };
    own = own_as (g.own_faults old) (g.own_faults new) (g.stop new) F G to from reads.own;
  }

  -- a call that made room, and cannot have failed
  pub reserve_reads : {old new : D} → OnlyReserves g old new → OnlyReads g old new ⊥
  reserve_reads made = record {
    files = λ _. made.files;
    kept = λ _. made.files;
    room = made.room;
    steps = made.steps;
    crash = made.crash;
    stop = made.stop;
    pending = made.pending;
    tells = made.tells;
    cause = record { never_falls = omega (arith, made.faults); rose = λ failed. absurd failed };
    own = own_none _ _ _ ⊥ (λ none. none) made.own;
  }

  -- no changing call
  pub reads_change_none : {f : FileNo} {old new : D} {F : Type 0} → OnlyReads g old new F → ChangesAtMost g f 0 old new F
  reads_change_none {f} {old} {new} reads = record {
    at_most = (omega (arith, reads.steps), omega (arith, reads.steps));
    advances = advances_none reads.steps reads.stop;
    stopped = λ is. inl (subst (λ (s : DiskStop). IsStopped s) reads.stop is);
    room = reads.room;
    files = λ not. reads_same f (g.files old) (g.files new) (reads.files not);
    others = others_same f (g.may_leave old) (g.may_leave new) reads.crash.no_more reads.crash.no_less;
    moments = rested g.steps g.left_since old new (After (AnyIn f) (g.may_leave old)) (g.may_leave old) (g.may_leave new) reads.steps reads.crash (g.only_now old)
        (λ c left. (c, left, same_file c f));
    tells = reads.tells;
    cause = reads.cause;
    own = reads.own;
  }

  -- one of them
  pub one_change : {f : FileNo} {old new : D} {F : Type 0} → OneChange g f old new F → (¬ F → SameOthers f (g.files old) (g.files new)) → ChangesAtMost g f 1 old new F
  unfolding LeavesOthers
  one_change {f} {old} {new} change files = record {
    at_most = (omega (arith, change.steps), omega (arith, change.steps));
    advances = advances_one change.steps change.stop;
    stopped = λ is. inr (change.stopped is);
    room = change.room;
    files = files;
    others = change.others;
    moments = called g.steps g.left_since old new (After (AnyIn f) (g.may_leave old)) (g.may_leave old) (g.may_leave new) change.steps change.time (g.only_now old)
        (λ c left. (c, left, same_file c f)) change.others.no_more;
    tells = change.tells;
    cause = change.cause;
    own = change.own;
  }

  pub write_changes : {f : FileNo} {at : ℕ} {bytes : List ℕ} {old new : D} {F : Type 0} → Writes g f at bytes old new F → ChangesAtMost g f 1 old new F
  write_changes {f} {at} {bytes} {old} {new} call =
      one_change call.change (λ not. reads_others f (λ fs. laid (file_of fs f) at bytes) (g.files old) (g.files new) (call.files not))

  pub cut_changes : {f : FileNo} {len : ℕ} {old new : D} {F : Type 0} → Cuts g f len old new F → ChangesAtMost g f 1 old new F
  cut_changes {f} {len} {old} {new} call =
      one_change call.change (λ not. reads_others f (λ fs. take len (file_of fs f)) (g.files old) (g.files new) (call.files not))

  pub sync_changes : {f : FileNo} {old new : D} {F : Type 0} → Syncs g f old new F → ChangesAtMost g f 1 old new F
  sync_changes {f} {old} {new} call = one_change call.change (λ not. reads_same f (g.files old) (g.files new) (call.files not))

  -- a call of two, of which the first did not fail
  pub changes_joined : {f : FileNo} {m n : ℕ} {old mid new : D} {F G : Type 0} → ChangesAtMost g f m old mid F → ¬ F → ChangesAtMost g f n mid new G → ChangesAtMost g f (m + n) old new G
  unfolding LeavesOthers
  changes_joined {f} {m} {n} {old} {mid} {new} {F} {G} first went second = record {
    at_most = (omega (arith, first.at_most.0, second.at_most.0), omega (arith, first.at_most.1, second.at_most.1));
    advances = advances_joined first.advances second.advances;
    stopped = λ is. ⊎_elim (λ was. ⊎_elim (λ before. inl before) (λ failed. absurd (went failed)) (first.stopped was)) (λ failed. inr failed) (second.stopped is);
    room = λ file. let before = first.room file in let after = second.room file in omega (arith, before, after);
    files = λ not. reads_joined_others f (g.files old) (g.files mid) (g.files new) (first.files went) (second.files not);
    others = others_joined f (g.may_leave old) (g.may_leave mid) (g.may_leave new) first.others second.others;
    moments =
        joined g.steps g.left_since old mid new (After (AnyIn f) (g.may_leave old)) first.moments
        (widened g.steps g.left_since mid new (After (AnyIn f) (g.may_leave mid)) (After (AnyIn f) (g.may_leave old))
        (λ c left. let a = first.others.no_more left.0 left.1 in (a.0, a.1, any_joined f a.0 left.0 c a.2 left.2)) second.moments);
    tells = second.tells ∙ first.tells;
    cause = cause_joined (g.faults old) (g.faults mid) (g.faults new) F G first.cause second.cause;
    own = own_joined (g.own_faults old) (g.own_faults mid) (g.own_faults new) (g.stop mid) (g.stop new) F G first.own went second.own;
  }

  -- fewer of them, and a failure that is said in other words
  pub changes_as : {f : FileNo} {m n : ℕ} {old new : D} {F G : Type 0} → m ≤ n → (F → G) → (G → F) → ChangesAtMost g f m old new F → ChangesAtMost g f n old new G
  changes_as {f} {m} {n} {old} {new} {F} {G} fewer to from run = record {
    at_most = (run.at_most.0, omega (arith, fewer, run.at_most.1));
    advances = run.advances;
    stopped = λ is. ⊎_elim (λ was. inl was) (λ failed. inr (to failed)) (run.stopped is);
    room = run.room;
    files = λ not. run.files (λ failed. not (to failed));
    others = run.others;
    moments = run.moments;
    tells = run.tells;
    cause = record { never_falls = run.cause.never_falls; rose = λ failed. run.cause.rose (from failed) };
    own = own_as (g.own_faults old) (g.own_faults new) (g.stop new) F G to from run.own;
  }
