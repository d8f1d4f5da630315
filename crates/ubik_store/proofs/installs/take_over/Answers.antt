use Rattle.std.proofs.Common.{rules, arith}
use Rattle.ubik_store.specs.Moments.{without_log}
use Rattle.ubik_store.proofs.Applied.{calls_of, calls_as}
use Rattle.ubik_store.proofs.Emptying.{settled_empty}
use Rattle.ubik_store.proofs.Taking.{stands_throughout, takes_emptied, place_after, throughout_after}
use Rattle.ubik_store.proofs.Telling.{ok_map}
use Rattle.ubik_store.proofs.Treating.{take_not_long}
use Rattle.ubik_store.proofs.installs.take_over.Goals as goal

pub take_incoming-requires-clause-plan : goal.take_incoming-requires-clause-plan
take_incoming-requires-clause-plan g c = record {
  is_text = c.requires.plan.is_text;
  is_open = search rules;
  agrees = search rules;
  len = c.requires.plan.len;
  fits = search rules;
  gate_fits = search rules;
}

pub take_incoming-requires-clause-settled : goal.take_incoming-requires-clause-settled
take_incoming-requires-clause-settled g c =
    settled_empty _ _ (g.D.Disk.may_leave c.args.disk.now) (g.D.Disk.may_leave c.empty_log_file.new.disk) c.requires.settled
    c.in-Done.ensures.files c.in-Done.ensures.changes.others c.in-Done.ensures.durable

pub returns-in-Done-clause-done : goal.returns-in-Done-clause-done
returns-in-Done-clause-done g c = ok_map c.take_incoming.result _ _ c.take_incoming.ensures.done
    (place_after g.D.Disk without_log c.args.disk.now c.empty_log_file.new.disk c.take_incoming.new.disk c.in-Done.ensures.files 2
    c.in-Done.ensures.steps)

pub returns-in-Done-clause-stands : goal.returns-in-Done-clause-stands
returns-in-Done-clause-stands g c =
    let text = c.args.text.now in
    let old = c.args.disk.now in
    let mid = c.empty_log_file.new.disk in
    let plan = c.requires.plan in
    let run = takes_emptied text c.args.v plan.is_text g.D.Disk old plan.is_open c.requires.settled
    (take_not_long g.D.Disk old c.args.pages.now text c.args.v plan) mid c.empty_log_file.ensures.moments in
    throughout_after g.D.Disk without_log old mid c.take_incoming.new.disk c.in-Done.ensures.files (λ failed. absurd cc)
    (stands_throughout text c.args.v plan.is_text g.D.Disk old run (calls_of c.in-Done.ensures.changes)) c.take_incoming.ensures.stands

pub returns-in-Failed-clause-stands : goal.returns-in-Failed-clause-stands
returns-in-Failed-clause-stands g c =
    let text = c.args.text.now in
    let old = c.args.disk.now in
    let mid = c.empty_log_file.new.disk in
    let plan = c.requires.plan in
    let run = takes_emptied text c.args.v plan.is_text g.D.Disk old plan.is_open c.requires.settled
    (take_not_long g.D.Disk old c.args.pages.now text c.args.v plan) mid c.empty_log_file.ensures.moments in
    stands_throughout text c.args.v plan.is_text g.D.Disk old run
    (calls_as (omega arith) (search rules) (search rules) (calls_of c.in-Failed.ensures.changes))
