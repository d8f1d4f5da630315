use Rattle.std.proofs.Common.{◌≡◌, ◌≤◌, ◌+◌, ◌∙◌, ◌⊎◌, rules, inl, inr, ℕ, List, length, true, IfSome, refl, ap, arith}
use Rattle.std.proofs.lemmas.Bool.{false≢true}
use Rattle.std.specs.Option.{option_map}
use Rattle.std.specs.Prelude.{Result, Ok, Err, IfErr, IsErr, IsErrOf}
use Rattle.ubik_log.specs.declared.disk_logs.LogFault.{LogFault}
use Rattle.ubik_log.specs.declared.disk_logs.LogFault.TheVariants as logs
use Rattle.ubik_store.specs.declared.faults.StoreFault.{StoreFault}
use Rattle.ubik_store.specs.declared.faults.StoreFault.TheVariants as faults
use Rattle.ubik_types.specs.declared.images.Change.{Change}
use Rattle.ubik_types.specs.declared.versions.Version.{Version}
use Rattle.ubik_types.specs.Version.{version_lt, zero_version}
use Rattle.ubik_types.specs.Image.{effect}
use Rattle.disk_base.specs.declared.disks.Disk.{Ghosts}
use Rattle.disk_base.specs.declared.disks.FileNo.TheVariants.{Database, Log}
use Rattle.disk_base.specs.Crash.{IsSettled}
use Rattle.disk_base.specs.Files.{Files}
use Rattle.disk_base.proofs.Runs.{widened, joined}
use Rattle.page_file.specs.Pages.{Known, AgreesIn, image_of}
use Rattle.ubik_log.specs.LogFile.{with_log, KeepsLog}
use Rattle.ubik_log.specs.LogGrammar.{IsCommitted}
use Rattle.ubik_store.specs.Commit.{RewritesFiles}
use Rattle.ubik_store.specs.Files.{StandsFor, StandsForEither}
use Rattle.ubik_store.specs.Gaps.{IsPlain, CutsNoPut}
use Rattle.ubik_store.specs.Moments.{head_calls, ended}
use Rattle.ubik_store.specs.Redo.{IsSeamless}
use Rattle.ubik_store.specs.Rest.{AreEmpty, RestsAs}
use Rattle.ubik_store.specs.Rewrite.Rewrite.{Changed}
use Rattle.ubik_store.proofs.Applied.{calls_of, calls_joined, calls_as}
use Rattle.ubik_store.proofs.Committing.{LeavesEither, KeepsLogOnly, OpensLogOnly, fits_of, stands_before, stands_in_gate, leads_itself, may_redo_all, opened_files, ended_from, ignored_at, opened_over, while_kept, until_open, settled_at, all_end_more}
use Rattle.ubik_store.proofs.Durable.{KeepsPlain}
use Rattle.ubik_store.proofs.Ending.{LeavesEffect}
use Rattle.ubik_store.proofs.Gaps.{seamless_is_gapless}
use Rattle.ubik_store.proofs.Heads.{FewWithHead, rises_joined, few_but}
use Rattle.ubik_store.proofs.Plain.{LeavesPlain, plain_before, plain_in_gate, plain_committed, first_over}
use Rattle.ubik_store.proofs.Resting.{seamless_of, ended_in, at_rest, committed_long}
use Rattle.ubik_store.proofs.Telling.{told, of_told, on_ok, of_ok, err_of, err_any}
use Rattle.ubik_store.proofs.commits.keep_and_redo.Goals as goal

-- what a crash leaves until the gate stands open
module _ {D : Type 0} (g : Ghosts D) (log : List ℕ) (changes : List Change) (v : Version) (old mid : D)
    (empty : IfSome (g.files old) AreEmpty)
    (settled : IsSettled (g.files old) (g.may_leave old)) (keeps : IfSome (g.files old) (λ _. KeepsLogOnly g old mid)) where
  kept_stands : IfSome (g.files old) (LeavesEither g old mid v changes)
  kept_stands = told (g.files old) (LeavesEither g old mid v changes) (λ fs is own labelled.
      while_kept g _ fs log is empty settled (stands_before fs own v changes log (ignored_at _ fs is empty) labelled) keeps)

  kept_plain : IfSome (g.files old) (KeepsPlain g old mid)
  kept_plain = told (g.files old) (KeepsPlain g old mid) (λ fs is plain.
      while_kept g IsPlain fs log is empty settled
      (plain_before fs (ignored_at _ fs is empty) (first_over fs plain (of_told _ fs AreEmpty is empty))) keeps)

  module _ (new : D) (pages : Known) (committed : IsCommitted log changes v) (agrees : AgreesIn pages (g.files old))
      (len : pages.len ≤ 16777216)
      (seamless : IsSeamless pages.len changes) (kept : KeepsLog g log old mid) (opens : OpensLogOnly g mid new) where
    open_stands : IfSome (g.files old) (LeavesEither g old new v changes)
    open_stands = told (g.files old) (LeavesEither g old new v changes) (λ fs is own labelled.
        let none = ignored_at _ fs is empty in
        until_open g _ fs log changes v is empty settled (stands_before fs own v changes log none labelled) keeps
        (stands_in_gate fs own v changes log none committed (fits_of pages _ fs agrees is len) labelled) committed kept opens)

    open_plain : version_lt zero_version v ≡ true → CutsNoPut changes → IfSome (g.files old) (KeepsPlain g old new)
    open_plain newer cuts = told (g.files old) (KeepsPlain g old new) (λ fs is plain.
        let none = ignored_at _ fs is empty in
        let first = first_over fs plain (of_told _ fs AreEmpty is empty) in
        let gapless = seamless_is_gapless changes _ (seamless_of pages _ fs changes agrees is seamless) in
        until_open g IsPlain fs log changes v is empty settled (plain_before fs none first) keeps
        (plain_in_gate fs changes v log none committed gapless cuts newer first) committed kept opens)

-- a call that never lacks memory fails by the disk
gate_fault : {A : Type 0} (r : Result A LogFault) (e : LogFault) → r ≡ Err e → ¬ IsErrOf r logs.NoMemory → e ≡ logs.DiskFault
gate_fault r logs.DiskFault is not = refl
gate_fault r logs.NoMemory is not = absurd (not is)

only_fault : {A : Type 0} (r : Result A StoreFault) → IsErr r → IfErr r (λ f. (f ≡ faults.DiskFault) ⊎ (f ≡ faults.NoMemory))
    → ¬ IsErrOf r faults.NoMemory → IsErrOf r faults.DiskFault
only_fault (Ok x) some either not = absurd (false≢true some)
only_fault (Err f) some (inl is) not = ap Err is
only_fault (Err f) some (inr is) not = absurd (not (ap Err is))

pub returns-in_err-keep_log-clause-durable : goal.returns-in_err-keep_log-clause-durable
returns-in_err-keep_log-clause-durable g c =
    let old = c.args.disk.now in
    let new = c.keep_log.new.disk in
    let changes = c.args.changes.now in
    record {
      moments = kept_stands g.D.Disk c.args.log.now changes c.args.v old new c.requires.empty c.requires.settled c.keep_log.ensures.moments;
      plain =
          λ _ _. kept_plain g.D.Disk c.args.log.now changes c.args.v old new c.requires.empty c.requires.settled c.keep_log.ensures.moments;
      log = λ none. absurd none;
      few = few_but g.D.Disk (13 + length changes) 4 old new c.keep_log.ensures.changes.at_most (omega arith);
      calls = calls_as (omega arith) (search rules) (search rules) (calls_of c.keep_log.ensures.changes);
    }

pub returns-in_err-open_gate-clause-durable : goal.returns-in_err-open_gate-clause-durable
returns-in_err-open_gate-clause-durable g c =
    let old = c.args.disk.now in
    let mid = c.keep_log.new.disk in
    let new = c.open_gate.new.disk in
    let log = c.args.log.now in
    let changes = c.args.changes.now in
    let is = c.requires in
    let told_log : IsErrOf c.open_gate.result logs.DiskFault =
    c.in_err-open_gate.was
    ∙ ap Err (gate_fault c.open_gate.result c.in_err-open_gate.field-0.0 c.in_err-open_gate.was c.open_gate.ensures.no_memory) in
    let r = c.from_residual-in_err-open_gate.result in
    let some : IsErr r = search rules in
    let either : IfErr r (λ f. (f ≡ faults.DiskFault) ⊎ (f ≡ faults.NoMemory)) = search rules in
    let not : IsErrOf r faults.NoMemory → ⊥ = search rules in
    record {
      moments =
          open_stands g.D.Disk log changes c.args.v old mid is.empty is.settled c.keep_log.ensures.moments new c.args.pages.now is.committed
          is.agrees is.len is.seamless c.in_ok-keep_log.ensures.stands c.open_gate.ensures.either;
      plain =
          open_plain g.D.Disk log changes c.args.v old mid is.empty is.settled c.keep_log.ensures.moments new c.args.pages.now is.committed
          is.agrees is.len is.seamless c.in_ok-keep_log.ensures.stands c.open_gate.ensures.either;
      log = λ none. absurd none;
      few = few_but g.D.Disk (13 + length changes) 6 old new
          (rises_joined g.D.Disk 4 2 old mid new c.keep_log.ensures.changes.at_most c.open_gate.ensures.changes.at_most) (omega arith);
      calls = calls_as (omega arith) (λ _. only_fault r some either not) (λ _. told_log)
          (calls_joined (calls_of c.in_ok-keep_log.ensures.changes) (λ failed. absurd cc) (calls_of c.open_gate.ensures.changes));
    }

pub redo-requires-clause-fits : goal.redo-requires-clause-fits
redo-requires-clause-fits g c =
    let kept = c.in_ok-keep_log.ensures.changes.room Database in
    let opened = c.in_ok-open_gate.ensures.changes.room Database in
    all_end_more c.args.changes.now _ _ (omega (arith, kept, opened)) c.requires.fits

pub returns-clause-done : goal.returns-clause-done
returns-clause-done g c =
    let old = c.args.disk.now in
    let new = c.redo.new.disk in
    let log = c.args.log.now in
    let changes = c.args.changes.now in
    let v = c.args.v in
    let is = c.requires in
    let kept = c.in_ok-keep_log.ensures.stands in
    let set = c.in_ok-open_gate.ensures.set in
    let r = c.redo.result in
    let e = c.redo.ensures in
    let from = opened_files log changes v _ _ _ is.committed kept.files set.files in
    on_ok r (RewritesFiles g.D.Disk (Changed changes) v old new c.args.pages.now c.redo.new.pages) (λ went.
    let files = of_ok r went e.files ∙ ended_from log changes v _ _ from in
    record {
      files = files;
      rests = told _ (λ fs. RestsAs v (effect (image_of fs.database) changes) (g.D.Disk.files new)) (λ fs there.
          at_rest _ _ fs.incoming _ (of_told _ fs AreEmpty there is.empty).1
          (ended_in changes v fs c.args.pages.now _ _ is.committed.told is.agrees there is.seamless is.len
          (files ∙ ap (option_map (ended changes v)) there)));
      settled = of_ok r went e.settled (set.settled (kept.settled is.settled));
      steps = told _ (λ fs. g.D.Disk.steps new ≡ g.D.Disk.steps old + (13 + length changes + head_calls fs.database)) (λ fs there.
          let Last : Files → Type 0 = λ fs. g.D.Disk.steps new ≡ g.D.Disk.steps
          c.open_gate.new.disk + (7 + length changes + head_calls fs.database) in
          let last = of_told _ (with_log log fs) Last (from ∙ ap (option_map (with_log log)) there) (of_ok r went e.steps) in
          omega (arith, last, kept.steps, set.steps));
      label = of_ok r went e.label;
      len = of_ok r went e.len;
      agrees = of_ok r went e.agrees;
      room =
          let long = committed_long log changes v is.committed in
          let gate = c.in_ok-open_gate.ensures.changes.room in
          let first = c.keep_log.ensures.changes.room Database in (
            omega (arith, long, gate Log, e.calls.room Log, kept.reserved),
            omega
                (arith, first, gate Database, e.calls.room Database, is.head_fits),
          );
    })

pub returns-clause-durable : goal.returns-clause-durable
returns-clause-durable g c =
    let old = c.args.disk.now in
    let mid = c.keep_log.new.disk in
    let opens = c.open_gate.new.disk in
    let new = c.redo.new.disk in
    let log = c.args.log.now in
    let changes = c.args.changes.now in
    let v = c.args.v in
    let is = c.requires in
    let kept = c.in_ok-keep_log.ensures.stands in
    let set = c.in_ok-open_gate.ensures.set in
    let e = c.redo.ensures in
    let before = c.args.pages.now in
    let first = rises_joined g.D.Disk 4 2 old mid opens c.keep_log.ensures.changes.at_most c.open_gate.ensures.changes.at_most in
    let more : ℕ = 7 + length changes in
    record {
      moments = told _ (LeavesEither g.D.Disk old new v changes) (λ fs there own labelled.
          let Stands = StandsForEither own (image_of fs.database) v (effect (image_of fs.database) changes) in
          let opened = opened_over log changes v fs _ _ _ there is.committed kept.files set.files in
          let only = settled_at _ (with_log log fs) _ opened (set.settled (kept.settled is.settled)) in
          let rest = of_told _ (with_log log fs) (LeavesEffect g.D.Disk opens new v changes) opened e.moments in
          let until = open_stands g.D.Disk log changes v old mid is.empty is.settled c.keep_log.ensures.moments opens before is.committed
          is.agrees is.len is.seamless kept c.open_gate.ensures.either in
          joined g.D.Disk.steps g.D.Disk.left_since old opens new Stands
          (of_told _ fs (LeavesEither g.D.Disk old opens v changes) there until own labelled)
          (widened g.D.Disk.steps g.D.Disk.left_since opens new (λ x. StandsFor x v (effect (image_of fs.database) changes)) Stands
          (λ x stands. inr stands)
          (rest changes (leads_itself fs v changes log (ignored_at _ fs there is.empty) is.committed)
          (may_redo_all (with_log log fs) changes _ (fits_of before _ fs is.agrees there is.len) only))));
      plain = λ newer cuts. told _ (KeepsPlain g.D.Disk old new) (λ fs there plain.
          let none = ignored_at _ fs there is.empty in
          let gapless = seamless_is_gapless changes _ (seamless_of before _ fs changes is.agrees there is.seamless) in
          let opened = opened_over log changes v fs _ _ _ there is.committed kept.files set.files in
          let only = settled_at _ (with_log log fs) _ opened (set.settled (kept.settled is.settled)) in
          let rest = of_told _ (with_log log fs) (LeavesPlain g.D.Disk opens new v changes) opened e.plain in
          let until = open_plain g.D.Disk log changes v old mid is.empty is.settled c.keep_log.ensures.moments opens before is.committed
          is.agrees is.len is.seamless kept c.open_gate.ensures.either newer cuts in
          joined g.D.Disk.steps g.D.Disk.left_since old opens new IsPlain (of_told _ fs (KeepsPlain g.D.Disk old opens) there until plain)
          (rest changes (leads_itself fs v changes log none is.committed)
          (plain_committed fs changes v log none (with_log log fs) is.committed gapless cuts newer refl refl)
          (may_redo_all (with_log log fs) changes _ (fits_of before _ fs is.agrees there is.len) only)));
      log = λ none. absurd none;
      few = told (g.D.Disk.files old) (FewWithHead g.D.Disk (13 + length changes) old new) (λ fs there.
          let opened = opened_over log changes v fs _ _ _ there is.committed kept.files set.files in
          let last = of_told _ (with_log log fs) (FewWithHead g.D.Disk more opens new) opened e.few in
          (omega (arith, first.0, last.0), omega (arith, first.1, last.1)));
      calls = calls_as (omega arith) (err_of c.redo.result _ e.fault) (err_any c.redo.result _)
          (calls_joined (calls_joined (calls_of c.in_ok-keep_log.ensures.changes) (λ failed. absurd cc)
          (calls_of c.in_ok-open_gate.ensures.changes))
          (λ failed. absurd cc) e.calls);
    }
