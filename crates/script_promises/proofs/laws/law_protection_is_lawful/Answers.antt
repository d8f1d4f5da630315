use Rattle.std.proofs.Common.{arith}
use Rattle.script_promises.proofs.laws.law_protection_is_lawful.Goals as goal

pub returns : goal.returns
returns c = record {
  first = c.an_image_holds_one_protection_state.ensures.first;
  means = c.protection_calls_are_meant.ensures.meant;
  leaves = λ image s now call holds. c.protection_calls_are_meant.ensures.leaves image s now call holds.records;
  answers = c.protection_calls_are_answered.ensures;
  never_shrinks = c.protection_calls_are_meant.ensures.longer;
  block = omega arith;
}
