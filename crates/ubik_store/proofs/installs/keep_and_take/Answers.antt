use Rattle.std.proofs.Common.{inr, drop, refl, rules, arith}
use Rattle.disk_base.specs.Crash.{RisesAtMost}
use Rattle.incoming_file.specs.Incoming.{opened, with_incoming}
use Rattle.page_file.specs.Pages.{image_of}
use Rattle.ubik_store.specs.declared.faults.StoreFault.TheVariants.{DiskFault}
use Rattle.ubik_store.specs.Files.{StandsFor, StandsForEither}
use Rattle.ubik_store.specs.Gaps.{IsPlain}
use Rattle.ubik_store.specs.Rest.{HasNoLog}
use Rattle.ubik_store.specs.Rewrite.Rewrite.{Replaced}
use Rattle.ubik_store.proofs.Applied.{calls_of, calls_joined, calls_as}
use Rattle.ubik_store.proofs.Committing.{fits_of}
use Rattle.ubik_store.proofs.Durable.{LeavesRewritten, KeepsPlain}
use Rattle.ubik_store.proofs.Taking.{text_zero, keeps_stands, keeps_plain, kept_there, place_after, run_after, runs_after}
use Rattle.ubik_store.proofs.Telling.{told, ok_map, err_of, err_any}
use Rattle.ubik_store.proofs.Unlogged.{no_log_of, unlogged_kept}
use Rattle.ubik_store.proofs.installs.keep_and_take.Goals as goal

pub keep_incoming-requires-clause-zero : goal.keep_incoming-requires-clause-zero
keep_incoming-requires-clause-zero g c = text_zero c.args.text.now c.args.v c.requires.is_text

pub take_incoming-requires-clause-plan : goal.take_incoming-requires-clause-plan
take_incoming-requires-clause-plan g c = record {
  is_text = c.requires.is_text;
  is_open = kept_there c.args.text.now c.args.v c.requires.is_text _ _ c.in-Done.ensures.files;
  agrees = search rules;
  len = c.requires.len;
  fits = search rules;
  gate_fits = search rules;
}

pub returns-in-Done-clause-done : goal.returns-in-Done-clause-done
returns-in-Done-clause-done g c = ok_map c.take_incoming.result _ _ c.take_incoming.ensures.done
    (place_after g.D.Disk (with_incoming (opened c.args.text.now)) c.args.disk.now c.keep_incoming.new.disk c.take_incoming.new.disk
    c.in-Done.ensures.files 8 c.in-Done.ensures.steps)

pub returns-in-Done-clause-durable : goal.returns-in-Done-clause-durable
returns-in-Done-clause-durable g c =
    let text = c.args.text.now in
    let v = c.args.v in
    let old = c.args.disk.now in
    let mid = c.keep_incoming.new.disk in
    let new = c.take_incoming.new.disk in
    let is = c.requires in
    let kept = c.keep_incoming.ensures.moments in
    let there = c.in-Done.ensures.files in
    let r = c.take_incoming.result in
    let e = c.take_incoming.ensures in
    let calls = calls_joined (calls_of c.in-Done.ensures.changes) (λ failed. absurd cc) e.stands.calls in
    record {
      moments = told (g.D.Disk.files old) (LeavesRewritten g.D.Disk old new v (Replaced (drop 64 text))) (λ fs here own labelled.
          run_after g.D.Disk (with_incoming (opened text)) old mid new there (StandsForEither own (image_of fs.database) v (drop 64 text))
          (λ x. StandsFor x v (drop 64 text)) (λ x stands. inr stands) fs here
          (keeps_stands text v is.is_text g.D.Disk old mid is.empty kept
          (told _ _ (λ f at. fits_of c.args.pages.now _ f is.agrees at is.len)) fs here own labelled)
          e.stands.moments);
      plain = λ newer _. told (g.D.Disk.files old) (KeepsPlain g.D.Disk old new) (λ fs here plain.
          run_after g.D.Disk (with_incoming (opened text)) old mid new there IsPlain IsPlain (λ x so. so) fs here
          (keeps_plain text v is.is_text g.D.Disk old mid is.empty kept newer fs here plain) (e.stands.plain newer));
      log = λ _. runs_after g.D.Disk (with_incoming (opened text)) old mid new there HasNoLog
          (unlogged_kept g.D.Disk old (no_log_of _ is.empty) (λ _. opened text) mid kept) e.log;
      few = told (g.D.Disk.files old) (λ _. RisesAtMost 15 (g.D.Disk.steps old) (g.D.Disk.steps new)) (λ fs here. calls.at_most);
      calls = calls_as (omega arith) (err_of r DiskFault e.fault) (err_any r DiskFault) calls;
    }

pub returns-in-Failed-clause-durable : goal.returns-in-Failed-clause-durable
returns-in-Failed-clause-durable g c =
    let text = c.args.text.now in
    let v = c.args.v in
    let old = c.args.disk.now in
    let mid = c.keep_incoming.new.disk in
    let is = c.requires in
    let kept = c.keep_incoming.ensures.moments in
    let calls = calls_of c.in-Failed.ensures.changes in
    record {
      moments = told (g.D.Disk.files old) (LeavesRewritten g.D.Disk old mid v (Replaced (drop 64 text)))
          (keeps_stands text v is.is_text g.D.Disk old mid is.empty kept
          (told _ _ (λ f at. fits_of c.args.pages.now _ f is.agrees at is.len)));
      plain = λ newer _. told (g.D.Disk.files old) (KeepsPlain g.D.Disk old mid)
          (keeps_plain text v is.is_text g.D.Disk old mid is.empty kept newer);
      log = λ _. unlogged_kept g.D.Disk old (no_log_of _ is.empty) (λ _. opened text) mid kept;
      few = told (g.D.Disk.files old) (λ _. RisesAtMost 15 (g.D.Disk.steps old) (g.D.Disk.steps mid)) (λ fs here.
          (calls.at_most.0, omega (arith, calls.at_most.1)));
      calls = calls_as (omega arith) (λ _. refl) (search rules) calls;
    }
