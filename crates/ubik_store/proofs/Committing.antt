-- What a crash leaves while a log is kept and its gate is opened.
use Rattle.std.proofs.Common.{◌≡◌, ◌<◌, ◌≤◌, ◌⊎◌, inl, inr, ℕ, List, [], length, get_or, Option, Some, None, IfSome, refl, sym, ap, subst, ◌∙◌, arith, length-drop}
use Rattle.std.specs.List.{All}
use Rattle.ubik_store.specs.Redo.{IsCovered, Ends}
use Rattle.std.specs.Option.{option_map}
use Rattle.ubik_types.specs.declared.images.Change.{Change}
use Rattle.ubik_types.specs.declared.images.Change.TheVariants.{Put, Cut}
use Rattle.ubik_types.specs.declared.versions.Version.{Version}
use Rattle.ubik_types.specs.Image.{effect}
use Rattle.disk_base.specs.declared.disks.Disk.{Ghosts}
use Rattle.disk_base.specs.declared.disks.FileNo.TheVariants.{Log}
use Rattle.disk_base.specs.Files.{Files}
use Rattle.disk_base.specs.Crash.{Narrows, LeavesOnly, Only, OnlyIn, IsSettled, After}
use Rattle.disk_base.specs.Runs.{OnlyReserves}
use Rattle.disk_base.proofs.Runs.{joined, rested, widened}
use Rattle.page_file.specs.declared.label.TheConstants.{MAX_DATABASE_LEN}
use Rattle.page_file.specs.Label.{version_of_database}
use Rattle.page_file.specs.Pages.{Known, Agrees, AgreesIn, image_of}
use Rattle.ubik_log.specs.Gate.{closed}
use Rattle.ubik_log.specs.LogFile.{with_log, gate_set, HasDiscarded, HasLogOrNone, KeepsLog}
use Rattle.ubik_log.specs.LogGrammar.{IsCommitted, IsDiscarded}
use Rattle.ubik_log.proofs.Gates.{opened_log_is_committed, short_log_is_discarded}
use Rattle.incoming_file.specs.Incoming.{IsIgnored}
use Rattle.incoming_file.proofs.Opens.{empty_ignored}
use Rattle.ubik_store.specs.Files.{StandsFor, StandsForEither}
use Rattle.ubik_store.specs.Files.StandsFor.{by_log, by_label}
use Rattle.ubik_store.specs.Moments.{MayRedo, LeadsTo, ended}
use Rattle.ubik_store.specs.Rest.{AreEmpty}
use Rattle.ubik_store.proofs.Redone.{redoes_itself, one_at}
use Rattle.ubik_store.proofs.Redoing.{one_covered}
use Rattle.ubik_store.proofs.Telling.{of_told, of_some}

-- the database file fits, by the pages
pub fits_of : (pages : Known) (files : Option Files) (fs : Files) → AgreesIn pages files → files ≡ Some fs → pages.len ≤ 16777216
    → length fs.database ≤ MAX_DATABASE_LEN
fits_of pages files fs agrees is len =
    let at = of_told files fs (λ fs. Agrees pages fs.database) is agrees in
    omega (arith, at.len, len, length-drop 64 fs.database)

module _ (fs : Files) (own v : Version) (changes : List Change) (log : List ℕ) (ignored : IsIgnored fs.incoming) where
  -- while the log is kept, the label counts
  stands_by_own : (c : Files) → version_of_database fs.database ≡ Some own → c.database ≡ fs.database → c.incoming ≡ fs.incoming
      → IsDiscarded c.log → StandsFor c own (image_of fs.database)
  stands_by_own c labelled same beside discarded =
      subst (λ (xs : List ℕ). StandsFor c own (image_of xs)) same
      (by_label c own (subst IsIgnored (sym beside) ignored) discarded (ap version_of_database same ∙ labelled))

  pub stands_before : version_of_database fs.database ≡ Some own → (before : Files → Type 0) → Only fs before → (c : Files)
      → After HasDiscarded before c
      → StandsForEither own (image_of fs.database) v (effect (image_of fs.database) changes) c
  stands_before labelled before only c from =
      inl (stands_by_own c labelled (ap (λ (f : Files). f.database) from.2.1 ∙ ap (λ (f : Files). f.database) (only from.0 from.1))
      (ap (λ (f : Files). f.incoming) from.2.1 ∙ ap (λ (f : Files). f.incoming) (only from.0 from.1)) from.2.0)

  stands_at_gate : (c : Files) → IsCommitted log changes v → length fs.database ≤ MAX_DATABASE_LEN
      → version_of_database fs.database ≡ Some own → c.database ≡ fs.database
      → c.incoming ≡ fs.incoming → (c.log ≡ log) ⊎ IsDiscarded c.log
      → StandsForEither own (image_of fs.database) v (effect (image_of fs.database) changes) c
  stands_at_gate c committed fits labelled same beside (inl is) =
      let there : IsCommitted c.log changes v = subst (λ (xs : List ℕ). IsCommitted xs changes v) (sym is) committed in
      let fits_too : length c.database ≤ MAX_DATABASE_LEN = subst (λ (xs : List ℕ). length xs ≤ MAX_DATABASE_LEN) (sym same) fits in
      inr (subst (λ (xs : List ℕ). StandsFor c v (effect (image_of xs) changes)) same
      (by_log c changes v (record { ignored = subst IsIgnored (sym beside) ignored; committed = there }) fits_too))
  stands_at_gate c committed fits labelled same beside (inr discarded) = inl (stands_by_own c labelled same beside discarded)

  -- while its gate is opened, the one or the other
  pub stands_in_gate : IsCommitted log changes v → length fs.database ≤ MAX_DATABASE_LEN → version_of_database fs.database ≡ Some own
      → (mid : Files → Type 0) → Only (with_log (closed log) fs) mid → (c : Files) → After (HasLogOrNone log) mid c
      → StandsForEither own (image_of fs.database) v (effect (image_of fs.database) changes) c
  stands_in_gate committed fits labelled mid only c from =
      stands_at_gate c committed fits labelled
      (ap (λ (f : Files). f.database) from.2.1 ∙ ap (λ (f : Files). f.database) (only from.0 from.1))
      (ap (λ (f : Files). f.incoming) from.2.1 ∙ ap (λ (f : Files). f.incoming) (only from.0 from.1)) from.2.0

all_covered : (changes : List Change) (base : List ℕ) (k : ℕ) (d : Change) → k < length changes
    → IsCovered changes base (get_or changes k d)
all_covered changes base k d below = one_covered changes base (get_or changes k d) (one_at changes k d below)

-- the changes of the log themselves
pub leads_itself : (fs : Files) (v : Version) (changes : List Change) (log : List ℕ) → IsIgnored fs.incoming → IsCommitted log changes v
    → LeadsTo (with_log log fs) changes v changes
leads_itself fs v changes log ignored committed = record {
  logged = record { ignored = ignored; committed = committed };
  covered = all_covered changes (image_of fs.database);
  same = refl;
}

pub may_redo_all : (fs : Files) (changes : List Change) (left : Files → Type 0) → length fs.database ≤ MAX_DATABASE_LEN → Only fs left
    → Narrows (MayRedo fs changes) left
may_redo_all fs changes left fits only = λ c here.
    let itself : MayRedo fs changes fs =
    record { log = refl; incoming = refl; redoes = redoes_itself changes (image_of fs.database); fits = fits } in
    subst (λ (f : Files). MayRedo fs changes f) (sym (only c here)) itself

-- the files once the gate is open
pub opened_files : (log : List ℕ) (changes : List Change) (v : Version) (old mid new : Option Files) → IsCommitted log changes v
    → mid ≡ option_map (with_log (closed log)) old → new ≡ option_map (gate_set 100) mid → new ≡ option_map (with_log log) old
opened_files log changes v None mid new committed a b = b ∙ ap (option_map (gate_set 100)) a
opened_files log changes v (Some fs) mid new committed a b =
    b ∙ ap (option_map (gate_set 100)) a ∙ ap (λ (xs : List ℕ). Some (with_log xs fs)) (opened_log_is_committed log changes v committed)

-- where the files were these
pub opened_over : (log : List ℕ) (changes : List Change) (v : Version) (fs : Files) (old mid new : Option Files) → old ≡ Some fs
    → IsCommitted log changes v
    → mid ≡ option_map (with_log (closed log)) old → new ≡ option_map (gate_set 100) mid → new ≡ Some (with_log log fs)
opened_over log changes v fs old mid new is committed a b =
    opened_files log changes v old mid new committed a b ∙ ap (option_map (with_log log)) is

pub ended_from : (log : List ℕ) (changes : List Change) (v : Version) (old mid : Option Files) → mid ≡ option_map (with_log log) old
    → option_map (ended changes v) mid ≡ option_map (ended changes v) old
ended_from log changes v None mid is = ap (option_map (ended changes v)) is
ended_from log changes v (Some fs) mid is = ap (option_map (ended changes v)) is

pub only_log : (fs : Files) (log : List ℕ) (left : Files → Type 0) → fs.log ≡ log → Only fs left → OnlyIn Log log left
only_log fs log left is only = λ c here. ap (λ (f : Files). f.log) (only c here) ∙ is

pub settled_at : (files : Option Files) (fs : Files) (left : Files → Type 0) → files ≡ Some fs → IsSettled files left → Only fs left
settled_at files fs left is settled = of_told files fs (λ fs. Only fs left) is settled

pub ignored_at : (files : Option Files) (fs : Files) → files ≡ Some fs → IfSome files AreEmpty → IsIgnored fs.incoming
ignored_at files fs is empty = empty_ignored fs.incoming (of_told files fs AreEmpty is empty).1

-- what is settled stays so where a crash leaves no more
pub settled_narrow : (old new : Option Files) (before now : Files → Type 0) → new ≡ old → Narrows before now → IsSettled old before
    → IsSettled new now
settled_narrow None new before now is narrows settled = let P : Option Files → Type 0 = λ o. IsSettled o now in subst P (sym is) tt
settled_narrow (Some fs) new before now is narrows settled =
    let P : Option Files → Type 0 = λ o. IsSettled o now in subst P (sym is) (λ c here. settled c (narrows c here))

-- more room is room still
ends_more : (change : Change) (m n : ℕ) → m ≤ n → Ends change m → Ends change n
ends_more (Put at bytes) m n more ends = omega (arith, more, ends)
ends_more (Cut to) m n more ends = tt

pub all_end_more : (changes : List Change) (m n : ℕ) → m ≤ n → All (λ change. Ends change m) changes → All (λ change. Ends change n) changes
all_end_more changes m n more ends = λ k d below. ends_more (get_or changes k d) m n more (ends k d below)

-- files at rest stand for their label
pub stands_at_rest : (fs : Files) (own v : Version) (image : List ℕ) (before : Files → Type 0) → AreEmpty fs
    → version_of_database fs.database ≡ Some own → Only fs before
    → (c : Files) → before c → StandsForEither own (image_of fs.database) v image c
stands_at_rest fs own v image before empty labelled only c here =
    let discarded : IsDiscarded fs.log = short_log_is_discarded fs.log (omega (arith, ap length empty.0)) in
    let stands : StandsFor fs own (image_of fs.database) = by_label fs own (empty_ignored fs.incoming empty.1) discarded labelled in
    inl (subst (λ (f : Files). StandsFor f own (image_of fs.database)) (sym (only c here)) stands)

module _ {D : Type 0} (g : Ghosts D) where
  -- no call at all
  pub unmoved : (disk : D) (P : Files → Type 0) → Narrows P (g.may_leave disk) → LeavesOnly g.steps g.left_since disk disk P
  unmoved disk P here = record {
    later = omega arith;
    each = λ c left. here c (g.only_now disk c left);
    before = λ t c le left. inl left;
  }

  -- room was made, and nothing else
  pub room_made : {old new : D} (P : Files → Type 0) → OnlyReserves g old new → Narrows P (g.may_leave old)
      → LeavesOnly g.steps g.left_since old new P
  room_made {old} {new} P made here = rested g.steps g.left_since old new P (g.may_leave old) (g.may_leave new) made.steps made.crash
      (g.only_now old) here

  pub room_first : {old mid new : D} (P : Files → Type 0) → OnlyReserves g old mid → Narrows P (g.may_leave old)
      → LeavesOnly g.steps g.left_since mid new P → LeavesOnly g.steps g.left_since old new P
  room_first {old} {mid} {new} P made here rest = joined g.steps g.left_since old mid new P (room_made P made here) rest

-- a run leaves the state before, or the one after
abbrev pub LeavesEither : {D : Type 0} (g : Ghosts D) (old new : D) (v : Version) (changes : List Change) → Files → Type 0
LeavesEither g old new v changes fs =
    (own : Version) → version_of_database fs.database ≡ Some own
    → LeavesOnly g.steps g.left_since old new (StandsForEither own (image_of fs.database) v (effect (image_of fs.database) changes))

-- P is so of what a crash leaves of these files while a log is kept
abbrev pub HoldsKept : (P : Files → Type 0) → Files → Type 1
HoldsKept P fs = (left : Files → Type 0) → Only fs left → (c : Files) → After HasDiscarded left c → P c

-- and while its gate is opened
abbrev pub HoldsAtGate : (P : Files → Type 0) → Files → (log : List ℕ) → Type 1
HoldsAtGate P fs log = (left : Files → Type 0) → Only (with_log (closed log) fs) left → (c : Files) → After (HasLogOrNone log) left c → P c

-- over an empty log a run leaves discarded ones
abbrev pub KeepsLogOnly : {D : Type 0} (g : Ghosts D) (old new : D) → Type 0
KeepsLogOnly g old new = OnlyIn Log [] (g.may_leave old) → LeavesOnly g.steps g.left_since old new (After HasDiscarded (g.may_leave old))

-- over a log that was kept a run leaves that one, or discarded ones
abbrev pub OpensLogOnly : {D : Type 0} (g : Ghosts D) (old new : D) → Type 0
OpensLogOnly g old new =
    (log : List ℕ) (changes : List Change) (v : Version) → IsCommitted log changes v → OnlyIn Log (closed log) (g.may_leave old)
    → LeavesOnly g.steps g.left_since old new (After (HasLogOrNone log) (g.may_leave old))

module _ {D : Type 0} (g : Ghosts D) (P : Files → Type 0) (fs : Files) (log : List ℕ) where
  pub while_kept : {old mid : D} → g.files old ≡ Some fs → IfSome (g.files old) AreEmpty → IsSettled (g.files old) (g.may_leave old)
      → HoldsKept P fs → IfSome (g.files old) (λ _. KeepsLogOnly g old mid) → LeavesOnly g.steps g.left_since old mid P
  while_kept {old} {mid} is empty settled holds keeps =
      let only = settled_at (g.files old) fs (g.may_leave old) is settled in
      let run = of_some (g.files old) fs (KeepsLogOnly g old mid) is keeps in
      widened g.steps g.left_since old mid (After HasDiscarded (g.may_leave old)) P (holds (g.may_leave old) only)
      (run (only_log fs [] (g.may_leave old) (of_told (g.files old) fs AreEmpty is empty).0 only))

  pub until_open : {old mid new : D} (changes : List Change) (v : Version) → g.files old ≡ Some fs → IfSome (g.files old) AreEmpty
      → IsSettled (g.files old) (g.may_leave old)
      → HoldsKept P fs → IfSome (g.files old) (λ _. KeepsLogOnly g old mid)
      → HoldsAtGate P fs log → IsCommitted log changes v → KeepsLog g log old mid → OpensLogOnly g mid new
      → LeavesOnly g.steps g.left_since old new P
  until_open {old} {mid} {new} changes v is empty settled holds keeps at_gate committed kept opens =
      let there : g.files mid ≡ Some (with_log (closed log) fs) = kept.files ∙ ap (option_map (with_log (closed log))) is in
      let only = settled_at (g.files mid) (with_log (closed log) fs) (g.may_leave mid) there (kept.settled settled) in
      joined g.steps g.left_since old mid new P (while_kept is empty settled holds keeps)
      (widened g.steps g.left_since mid new (After (HasLogOrNone log) (g.may_leave mid)) P (at_gate (g.may_leave mid) only)
      (opens log changes v committed (only_log (with_log (closed log) fs) (closed log) (g.may_leave mid) refl only)))
