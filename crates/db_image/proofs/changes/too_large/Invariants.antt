use Rattle.std.proofs.Common.{◌≡◌, ◌≤◌, drop}
use Rattle.ubik_types.specs.Logged.{too_large}
use Rattle.db_image.proofs.changes.too_large.Given as goal

abbrev pub invariant-loop-change : goal.invariant-loop-change
invariant-loop-change l = record {
  still : too_large 0 l.fn.len l.changes ≡ too_large l.sum l.end (drop l.change-index l.change-items);
  few : l.sum ≤ 1048576;
  short : l.end ≤ 16777216;
}
