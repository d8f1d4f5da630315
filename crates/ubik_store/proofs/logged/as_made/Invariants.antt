use Rattle.std.proofs.Common.{◌≡◌, ◌++◌, length}
use Rattle.std.specs.List.{All}
use Rattle.std.specs.Vec.Iter.{into_iter_items, into_iter_len}
use Rattle.ubik_types.specs.Logged.{logged}
use Rattle.ubik_log.specs.LogGrammar.{IsWithinImage}
use Rattle.ubik_store.proofs.logged.as_made.Given as goal

abbrev pub invariant-loop-change : goal.invariant-loop-change
invariant-loop-change l =
    let rest = into_iter_items l.change-iterator in
    record {
      made : l.made ++ logged l.len rest ≡ logged l.initial.len (into_iter_items l.initial.change-iterator);
      within : All IsWithinImage rest;
      count : into_iter_len l.change-iterator ≡ length rest;
    }
