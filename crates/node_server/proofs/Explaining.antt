-- Why a server ends so that was not opened, or that was.
use Rattle.std.proofs.Common.{◌≡◌, ◌<◌, ◌≤◌, ◌⊎◌, inl, inr, ℕ, Bool, true, false, List, length, Option, Some, None, IfSome, IsNone, Result, Ok, Err, refl, ap, sym, ◌∙◌, subst, arith}
use Rattle.std.specs.Prelude.{◌≢◌, if◌then◌else◌, IsSome, IsSomeAnd, MatchOption}
use Rattle.disk_base.specs.Crash.{IsSettled}
use Rattle.ubik_types.specs.declared.versions.Version.{Version}
use Rattle.disk_base.specs.declared.disks.Disk.{Ghosts}
use Rattle.disk_base.specs.Files.{Files}
use Rattle.disk_base.specs.Runs.{OnlyReads}
use Rattle.page_file.specs.Pages.{image_of}
use Rattle.ubik_store.specs.declared.faults.StoreFault.{StoreFault}
use Rattle.ubik_store.specs.declared.faults.StoreFault.TheVariants as fault
use Rattle.ubik_store.specs.declared.stores.Store.{Store}
use Rattle.ubik_store.specs.Calls.{CallsAtMost}
use Rattle.ubik_store.proofs.Rests.{at_rest_stands}
use Rattle.ubik_store.specs.Opening.{IsOpening, RefusesFiles}
use Rattle.ubik_store.specs.Rest.{IsAtRest}
use Rattle.ubik_store.specs.Store.{IsReady}
use Rattle.cell_model.specs.Durable.{Durable}
use Rattle.cell_model.specs.Node as model
use Rattle.ubik_node.specs.declared.nodes.Node.{Node}
use Rattle.ubik_node.specs.Disk.{StandsAs}
use Rattle.ubik_node.specs.Node.{durable_in, node_of, up_server}
use Rattle.server_station.proofs.Replaying.{stands_up}
use Rattle.server_texts.specs.Words.{Named}
use Rattle.server_journal.specs.declared.counts.Limits.{Limits}
use Rattle.server_journal.specs.declared.items.JournalItem.{JournalItem}
use Rattle.server_texts.specs.declared.kinds.ServerKind.{ServerKind}
use Rattle.server_texts.specs.declared.kinds.ServerKind.TheVariants as kind
use Rattle.server_texts.specs.declared.words.WordsFault.{WordsFault}
use Rattle.server_texts.specs.declared.words.WordsFault.TheVariants.{Word, NoMemory}
use Rattle.node_server.specs.declared.ends.ServerRun.{ServerRun}
use Rattle.node_server.specs.Causes.{was_full}
use Rattle.node_server.specs.Ends.{Explains, FollowsWords, IsComplete, IsQuiet, IsNotForWords, IsNotRun, IsUnforced, LeavesUnopened, ReadsAsBefore, ShowsFiles, StandAlike, StandsForSome, kind_of_fault, kind_of_words}
use Rattle.node_server.proofs.Showing.{shows_refused}

-- an opening that fails under one name fails under another
calls_as : {D : Type 0} (g : Ghosts D) (most : ℕ) (old new : D) (A B : Type 0) → (A → B) → (B → A) → CallsAtMost g most old new A
    → CallsAtMost g most old new B
calls_as g most old new A B to from c = record {
  at_most = c.at_most;
  advances = c.advances;
  stopped = λ stops. elim (c.stopped stops) [ inl was ↦ inl was | inr failed ↦ inr (to failed) ];
  room = c.room;
  tells = c.tells;
  cause = record { never_falls = c.cause.never_falls; rose = λ b. c.cause.rose (from b) };
  own =
      record {
        raised = λ b runs. c.own.raised (from b) runs;
        brought = λ b stops. c.own.brought (from b) stops;
        kept = λ no. c.own.kept
            (λ a. no (to a));
      };
}

opening_as : {D : Type 0} (g : Ghosts D) (old new : D) (A B : Type 0) → (A → B) → (B → A) → IsOpening g old new A → IsOpening g old new B
opening_as g old new A B to from is = record {
  moments = is.moments;
  plain = is.plain;
  few = is.few;
  stopped = λ stops. to (is.stopped stops);
  most = is.most;
  calls = calls_as g is.most old new A B to from is.calls;
}

to_kind : (why : StoreFault) → why ≡ fault.DiskFault → kind_of_fault why ≡ kind.DiskFault
to_kind why is = ap kind_of_fault is

from_kind : (why : StoreFault) → kind_of_fault why ≡ kind.DiskFault → why ≡ fault.DiskFault
from_kind fault.DiskFault is = refl
from_kind (fault.BadLabel len head) is = absurd cc
from_kind (fault.TooLarge bytes) is = absurd cc
from_kind (fault.NotNewer own given) is = absurd cc
from_kind fault.NoMemory is = absurd cc

not_run : (why : StoreFault) → IsNotRun (kind_of_fault why)
not_run fault.DiskFault = tt
not_run (fault.BadLabel len head) = tt
not_run (fault.TooLarge bytes) = tt
not_run (fault.NotNewer own given) = tt
not_run fault.NoMemory = tt

not_closed : (why : StoreFault) → ¬ (kind_of_fault why ≡ kind.Closed)
not_closed fault.DiskFault is = cc
not_closed (fault.BadLabel len head) is = cc
not_closed (fault.TooLarge bytes) is = cc
not_closed (fault.NotNewer own given) is = cc
not_closed fault.NoMemory is = cc

not_refused : (why : StoreFault) → ¬ (kind_of_fault why ≡ kind.NoThread)
not_refused fault.DiskFault is = cc
not_refused (fault.BadLabel len head) is = cc
not_refused (fault.TooLarge bytes) is = cc
not_refused (fault.NotNewer own given) is = cc
not_refused fault.NoMemory is = cc

-- the same files stand for the same
alike : (old new : Option Files) → new ≡ old → IfSome old (λ fs. StandsForSome fs → IsSomeAnd new (StandAlike fs))
alike None new is = tt
alike (Some fs) new is = λ some.
    (let P : Option Files → Type 0 = λ files. IsSomeAnd files (StandAlike fs) in subst P (sym is) (some.0, some.1, some.2, some.2))

reads_same : {D : Type 0} (g : Ghosts D) (old new : D) → IsSettled (g.files new) (g.may_leave new) → g.files new ≡ g.files old
    → ReadsAsBefore g old new
reads_same g old new settled same = (settled, alike (g.files old) (g.files new) same)

leaves_unopened : {D : Type 0} (g : Ghosts D) (old new : D) (why : StoreFault) → (why ≢ fault.DiskFault → OnlyReads g old new ⊥)
    → (why ≢ fault.DiskFault → IsSettled (g.files new) (g.may_leave new)) → LeavesUnopened g old new (kind_of_fault why)
leaves_unopened g old new fault.DiskFault unchanged settled = tt
leaves_unopened g old new (fault.BadLabel len head) unchanged settled = unchanged (λ is. absurd cc)
leaves_unopened g old new (fault.TooLarge bytes) unchanged settled =
    reads_same g old new (settled (λ is. absurd cc)) ((unchanged (λ is. absurd cc)).files (λ no. no))
leaves_unopened g old new (fault.NotNewer own given) unchanged settled =
    reads_same g old new (settled (λ is. absurd cc)) ((unchanged (λ is. absurd cc)).files (λ no. no))
leaves_unopened g old new fault.NoMemory unchanged settled =
    reads_same g old new (settled (λ is. absurd cc)) ((unchanged (λ is. absurd cc)).files (λ no. no))

refused_as : {D J : Type 0} (g : Ghosts D) (items_of : J → List JournalItem) (limits_of : J → Limits) (limits : Limits)
    (may_close may_refuse : Type 0) (old new : D) (why : StoreFault)
    → IfSome (g.files old) (λ fs. RefusesFiles fs why) → (why ≢ fault.DiskFault → OnlyReads g old new ⊥)
    → (why ≢ fault.DiskFault → IsSettled (g.files new) (g.may_leave new)) → IsOpening g old new (why ≡ fault.DiskFault)
    → Explains g items_of limits_of limits may_close may_refuse old new (kind_of_fault why) None
refused_as g items_of limits_of limits may_close may_refuse old new why files unchanged settled opening = record {
  closed = λ is. absurd (not_closed why is);
  refused = λ is. absurd (not_refused why is);
  journal_full = λ entries bytes is. tt;
  disk_fault = λ is. opening.calls.cause.rose (from_kind why is);
  bad_files = shows_refused (g.files old) why files;
  run = λ none. not_run why;
  opened = tt;
  kept = tt;
  disk = (
    leaves_unopened g old new why unchanged settled,
    inr
        (opening_as g old new (why ≡ fault.DiskFault) (kind_of_fault why ≡ kind.DiskFault) (to_kind why) (from_kind why) opening),
  );
}

-- a server that its store refuses
pub refused : {D J : Type 0} (g : Ghosts D) (items_of : J → List JournalItem) (limits_of : J → Limits) (limits : Limits)
    (may_close may_refuse : Type 0) (old new : D) (why : StoreFault) (ended : ServerKind)
    → ended ≡ kind_of_fault why → IfSome (g.files old) (λ fs. RefusesFiles fs why) → (why ≢ fault.DiskFault → OnlyReads g old new ⊥)
    → (why ≢ fault.DiskFault → IsSettled (g.files new) (g.may_leave new)) → IsOpening g old new (why ≡ fault.DiskFault)
    → Explains g items_of limits_of limits may_close may_refuse old new ended None
refused g items_of limits_of limits may_close may_refuse old new why ended is files unchanged settled opening =
    let P : ServerKind → Type 0 = λ e. Explains g items_of limits_of limits may_close may_refuse old new e None in
    subst P (sym is) (refused_as g items_of limits_of limits may_close may_refuse old new why files unchanged settled opening)

shows_word : (files : Option Files) (place : ℕ) → IfSome files (λ fs. ShowsFiles fs (kind.Words place))
shows_word None place = tt
shows_word (Some fs) place = tt

shows_no_memory : (files : Option Files) → IfSome files (λ fs. ShowsFiles fs kind.NoMemory)
shows_no_memory None = tt
shows_no_memory (Some fs) = tt

unread_as : {D J : Type 0} (g : Ghosts D) (items_of : J → List JournalItem) (limits_of : J → Limits) (limits : Limits)
    (may_close may_refuse : Type 0) (disk : D) (why : WordsFault)
    → IsSettled (g.files disk) (g.may_leave disk)
    → Explains g items_of limits_of limits may_close may_refuse disk disk (kind_of_words why) None
unread_as g items_of limits_of limits may_close may_refuse disk (Word place) settled = record {
  closed = λ is. absurd cc;
  refused = λ is. absurd cc;
  journal_full = λ entries bytes is. tt;
  disk_fault = λ is. absurd cc;
  bad_files = shows_word (g.files disk) place;
  run = λ none. tt;
  opened = tt;
  kept = tt;
  disk = (refl, inl refl);
}
unread_as g items_of limits_of limits may_close may_refuse disk NoMemory settled = record {
  closed = λ is. absurd cc;
  refused = λ is. absurd cc;
  journal_full = λ entries bytes is. tt;
  disk_fault = λ is. absurd cc;
  bad_files = shows_no_memory (g.files disk);
  run = λ none. tt;
  opened = tt;
  kept = tt;
  disk = (reads_same g disk disk settled refl, inl refl);
}

-- a server whose words are refused
pub unread : {D J : Type 0} (g : Ghosts D) (items_of : J → List JournalItem) (limits_of : J → Limits) (limits : Limits)
    (may_close may_refuse : Type 0) (disk : D) (why : WordsFault) (ended : ServerKind)
    → IsSettled (g.files disk) (g.may_leave disk) → ended ≡ kind_of_words why
    → Explains g items_of limits_of limits may_close may_refuse disk disk ended None
unread g items_of limits_of limits may_close may_refuse disk why ended settled is =
    let P : ServerKind → Type 0 = λ e. Explains g items_of limits_of limits may_close may_refuse disk disk e None in
    subst P (sym is) (unread_as g items_of limits_of limits may_close may_refuse disk why settled)

pub stands_for_some : (files : Option Files) (d : Durable) → IfSome files (StandsAs d) → IfSome files StandsForSome
stands_for_some None d is = tt
stands_for_some (Some fs) d is = (d.version, d.image, is)

-- What is known of a server that was opened, at its end: against the disk over which it was opened.
pub record Served {D J : Type 0} (g : Ghosts D) (items_of : J → List JournalItem) (limits_of : J → Limits) (limits : Limits)
    (may_close may_refuse : Type 0) (before now : D) (ended : ServerKind) (run : Option (ServerRun J)) : Type 0 where
  pub closed : ended ≡ kind.Closed → may_close
  pub refused : ended ≡ kind.NoThread → may_refuse
  pub journal_full : (entries bytes : ℕ) → ended ≡ kind.JournalFull entries bytes
      → IfSome run (λ r. was_full limits (items_of r.journal) entries bytes ≡ true)
  pub kept : IfSome run (λ r. limits_of r.journal ≡ limits)
  pub disk_fault : ended ≡ kind.DiskFault → g.faults before < g.faults now
  pub files : (files : Option Files) → IfSome files (λ fs. ShowsFiles fs ended)
  pub short : IsNone run → ended ≡ kind.NoMemory
  pub disk : MatchOption run (now ≡ before) (λ _. (g.faults before ≤ g.faults now) × ((g.faults before < g.faults now) ⊎ IsQuiet g now))

served_with : {D J : Type 0} (g : Ghosts D) (items_of : J → List JournalItem) (limits_of : J → Limits) (limits : Limits)
    (may_close may_refuse : Type 0) (old before now : D) (ended : ServerKind) (run : Option (ServerRun J))
    → IsOpening g old before ⊥ → ReadsAsBefore g old before → IfSome (g.files old) StandsForSome
    → Served g items_of limits_of limits may_close may_refuse before now ended run
    → Explains g items_of limits_of limits may_close may_refuse old now ended run
served_with {D = D} g items_of limits_of limits may_close may_refuse old before now ended None opening reads stands is =
    let short : ended ≡ kind.NoMemory = is.short refl in
    let never : ¬ (ended ≡ kind.DiskFault) = λ fails. (let clash = sym fails ∙ short in cc) in
    let P : D → Type 0 = λ d. IsOpening g old d (ended ≡ kind.DiskFault) in
    record {
      closed = is.closed;
      refused = is.refused;
      journal_full = λ entries bytes e. tt;
      disk_fault = λ fails. absurd (never fails);
      bad_files = is.files (g.files old);
      run = λ none. subst IsNotRun (sym short) tt;
      opened = tt;
      kept = tt;
      disk = (
        subst (LeavesUnopened g old now) (sym short) (subst (ReadsAsBefore g old) (sym is.disk) reads),
        inr
            (subst P (sym is.disk) (opening_as g old before ⊥ (ended ≡ kind.DiskFault) (λ no. absurd no) never opening)),
      );
    }
served_with g items_of limits_of limits may_close may_refuse old before now ended (Some r) opening reads stands is =
    let low : g.faults old ≤ g.faults before = opening.calls.cause.never_falls in
    let more : g.faults before ≤ g.faults now = is.disk.0 in
    record {
      closed = is.closed;
      refused = is.refused;
      journal_full = is.journal_full;
      disk_fault = λ fails. (let rose = is.disk_fault fails in omega (arith, rose, low));
      bad_files = is.files (g.files old);
      run = λ none. absurd cc;
      opened = stands;
      kept = is.kept;
      disk = (omega (arith, low, more), elim is.disk.1 [ inl rose ↦ inl (omega (arith, rose, low)) | inr rests ↦ inr rests ]);
    }

-- a server that was opened
pub served : {D J : Type 0} (g : Ghosts D) (items_of : J → List JournalItem) (limits_of : J → Limits) (limits : Limits)
    (may_close may_refuse : Type 0) (old before now : D) (d : Durable) (ended : ServerKind) (run : Option (ServerRun J))
    → IsOpening g old before ⊥ → ReadsAsBefore g old before → IfSome (g.files old) (StandsAs d)
    → Served g items_of limits_of limits may_close may_refuse before now ended run
    → Explains g items_of limits_of limits may_close may_refuse old now ended run
served g items_of limits_of limits may_close may_refuse old before now d ended run opening reads stands is =
    served_with g items_of limits_of limits may_close may_refuse old before now ended run opening reads
    (stands_for_some (g.files old) d stands) is

stands_at_rest : (files : Option Files) (version : Version) → IfSome files (λ fs. IsAtRest version (image_of fs.database) fs)
    → IfSome files StandsForSome
stands_at_rest None version rests = tt
stands_at_rest (Some fs) version rests =
    (version, image_of fs.database, at_rest_stands fs version (image_of fs.database) rests)

quiet : {D : Type 0} (g : Ghosts D) (s : Store D) → IsReady g s → IsQuiet g s.disk
quiet g s ready = (ready.settled, stands_at_rest (g.files s.disk) s.version ready.rests)

-- the disk of a node has failed, or is quiet
pub quiet_or_failed : {D V : Type 0} (g : Ghosts D) (n : Node D V g) (failed_before : ℕ)
    → (n.store.failed ≡ true → failed_before < g.faults n.store.disk)
    → (failed_before < g.faults n.store.disk) ⊎ IsQuiet g n.store.disk
quiet_or_failed g n failed_before halted = by n.store.failed refl
  where
    by : (b : Bool) → n.store.failed ≡ b → (failed_before < g.faults n.store.disk) ⊎ IsQuiet g n.store.disk
    by true down = inl (halted down)
    by false up = inr (quiet g n.store (n.stored.sound.ready up))

-- a node that stands for a server that is up is not halted
pub is_up : {D V : Type 0} {g : Ghosts D} (n : Node D V g) (s : model.Server) → node_of n ≡ model.Up s → n.store.failed ≡ false
is_up n s is = by n.store.failed is
  where
    by : (b : Bool) → (if b then model.Halted (model.halted_from (up_server n)) else model.Up (up_server n)) ≡ model.Up s → b ≡ false
    by true clash = absurd cc
    by false same = refl

up_as : (b : Bool) (h : model.HaltedServer) (s t : model.Server) → (if b then model.Halted h else model.Up s) ≡ model.Up t → s ≡ t
up_as true h s t clash = absurd cc
up_as false h s t same = cc

some_and : (files : Option Files) (P Q : Files → Type 0) → ((fs : Files) → P fs → Q fs) → IsSomeAnd files P → IsSomeAnd files Q
some_and None P Q to is = is
some_and (Some fs) P Q to is = to fs is

-- a node that was just opened left its disk so that it reads as before
pub opened_reads : {D V : Type 0} (g : Ghosts D) (old : D) (n : Node D V g) (size now : ℕ) (d : Durable)
    → node_of n ≡ model.Up (model.opened_server size d now)
    → IfSome (g.files old) (StandsAs d) → (IsSome (g.files old) → IsSome (g.files n.store.disk)) → ReadsAsBefore g old n.store.disk
opened_reads g old n size now d opened stands told = ((n.stored.sound.ready up).settled, over (g.files old) stands told)
  where
    up : n.store.failed ≡ false
    up = is_up n (model.opened_server size d now) opened

    there : IsSome (g.files n.store.disk) → IsSomeAnd (g.files n.store.disk) (StandsAs d)
    there tells =
        let same = up_as n.store.failed (model.halted_from (up_server n)) (up_server n) (model.opened_server size d now) opened in
        let P : model.Server
        → Type 0 = λ s. IsSomeAnd (g.files n.store.disk) (StandsAs (durable_in s)) in subst P same (stands_up g n up tells)

    over : (files : Option Files) → IfSome files (StandsAs d) → (IsSome files → IsSome (g.files n.store.disk))
        → IfSome files (λ fs. StandsForSome fs → IsSomeAnd (g.files n.store.disk) (StandAlike fs))
    over None stood tells = tt
    over (Some fs) stood tells = λ some.
        some_and (g.files n.store.disk) (StandsAs d) (StandAlike fs) (λ now is. (d.version, d.image, stood, is)) (there (tells refl))

-- ---- in no other way

stands_against : (files : Option Files) (len : ℕ) (head : List ℕ) → IfSome files (λ fs. ShowsFiles fs (kind.BadFiles len head))
    → ¬ (IsSomeAnd files StandsForSome)
stands_against None len head shown some = absurd some
stands_against (Some fs) len head shown some = shown.0 some.0 some.1 some.2

unforced : {D : Type 0} (g : Ghosts D) (old new : D) (ended : ServerKind) → IsNotForWords ended
    → (ended ≡ kind.DiskFault → g.faults old < g.faults new)
    → IfSome (g.files old) (λ fs. ShowsFiles fs ended) → IsSomeAnd (g.files old) StandsForSome → g.faults new ≡ g.faults old
    → IsUnforced ended
unforced g old new kind.Closed fits fails shown some same = tt
unforced g old new kind.NoThread fits fails shown some same = tt
unforced g old new (kind.JournalFull entries bytes) fits fails shown some same = tt
unforced g old new kind.NoMemory fits fails shown some same = tt
unforced g old new (kind.Words place) fits fails shown some same = absurd fits
unforced g old new kind.DiskFault fits fails shown some same = let rose = fails refl in absurd (omega (arith, rose, same))
unforced g old new (kind.BadFiles len head) fits fails shown some same = absurd (stands_against (g.files old) len head shown some)

pub complete : {D : Type 0} (g : Ghosts D) (old new : D) (meaning : Result Named WordsFault) (ended : ServerKind)
    → FollowsWords meaning ended
    → (ended ≡ kind.DiskFault → g.faults old < g.faults new) → IfSome (g.files old) (λ fs. ShowsFiles fs ended)
    → IsComplete g old new meaning ended
complete g old new (Ok named) ended words fails shown = unforced g old new ended words fails shown
complete g old new (Err fault) ended words fails shown = tt
