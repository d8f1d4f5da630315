use Rattle.std.proofs.Common.{arith}
use Rattle.script_promises.proofs.laws.law_location_is_lawful.Goals as goal

pub returns : goal.returns
returns c = record {
  first = c.an_image_holds_one_location.ensures.first;
  means = c.location_calls_are_meant.ensures.meant;
  leaves = c.location_calls_are_meant.ensures.leaves;
  answers = c.location_calls_are_answered.ensures;
  never_shrinks = c.location_calls_are_meant.ensures.longer;
  block = omega arith;
}
