use Rattle.std.proofs.Common.{rules}
use Rattle.std.specs.Prelude.{FitsSigned}
use Rattle.std.specs.Int.{w32}
use Rattle.std.proofs.lemmas.Int.{to_z-of_z}
use Rattle.prdb_layout.specs.RecordEnds.{seen}
use Rattle.pt_turns.proofs.Shared.{no_turn, turned_so}
use Rattle.pt_turns.proofs.deciding.turns_its_groups.Goals as goal

pub returns-then-not-turns_front-clause-found : goal.returns-then-not-turns_front-clause-found
returns-then-not-turns_front-clause-found g c =
    let old = c.as_slice.ensures in
    let is = c.turns_front.ensures in
    no_turn c.args.d.now.bytes (seen c.args.e.now) c.args.new.now c.turns_front.result (rw old at is) c.if-not-turns_front.true

pub returns-clause-found : goal.returns-clause-found
returns-clause-found g c =
    let fits : FitsSigned w32 c.args.e.now.id = search rules in
    let old = c.as_slice.ensures in
    let is = c.turns_front.ensures in
    let found = c.owns_another.ensures.found in
    turned_so c.owns_another.result c.args.d.now.bytes (seen c.args.e.now) c.args.new.now c.turns_front.result (rw old at is)
    c.if-not-turns_front.false (simp to_z-of_z at found)
