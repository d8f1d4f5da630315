use Rattle.ubik_recovery.proofs.RuleSteps.{phase_of-record, poll-begins, answer-counts, phase-lapses, fetch-begins, relabelling-waits, send-begins, serving-begins, holder-is_added, write-begins, text-goes_on, database-is_taken}
use Rattle.ubik_recovery.proofs.laws.law_calls_are_steps.Goals as goal

pub returns : goal.returns
returns c = record {
  phase = phase_of-record;
  poll = poll-begins;
  answer = answer-counts;
  lapse = phase-lapses;
  fetch = fetch-begins;
  relabelling = relabelling-waits;
  send = send-begins;
  serving = serving-begins;
  holder = holder-is_added;
  write = write-begins;
  text = text-goes_on;
  database = database-is_taken;
}
