use Rattle.std.proofs.Common.{◌≡◌, drop}
use Rattle.std.specs.Prelude.{◌↔◌}
use Rattle.ubik_types.specs.Logged.{too_large}
use Rattle.ubik_store.proofs.Measured.{AreSeamlessFrom}
use Rattle.ubik_store.proofs.measures.measure.Given as goal

abbrev pub invariant-loop-change : goal.invariant-loop-change
invariant-loop-change l =
    let rest = drop l.change-index l.changes in
    let before = l.initial.measures in
    record {
      large : too_large l.measures.sum l.measures.len rest ≡ too_large before.sum before.len l.changes;
      seamless : AreSeamlessFrom l.seamless l.measures.len rest ↔ AreSeamlessFrom l.initial.seamless before.len l.changes;
    }
