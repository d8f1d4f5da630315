use Rattle.std.proofs.Common.{rules}
use Rattle.std.specs.Prelude.{FitsSigned}
use Rattle.std.specs.Int.{w32}
use Rattle.std.proofs.lemmas.Int.{to_z-of_z}
use Rattle.std.proofs.lemmas.Result.{err_from_is_err_and}
use Rattle.db_blocks.proofs.Scanned.{drafts_then}
use Rattle.prdb_layout.specs.RecordEnds.{seen}
use Rattle.prdb_lists.proofs.Written.{drafts_looks, drafts_none}
use Rattle.prdb_turns.proofs.Turned.{HasBoth, Steps, fronts_err, id_turn_cause, look_cause, name_cause, owner_cause, turn_holds, turn_ok}
use Rattle.prdb_turns.proofs.turning.turn.Goals as goal

pub returns-in_err-groups-clause-fault : goal.returns-in_err-groups-clause-fault
returns-in_err-groups-clause-fault g c =
    let p = err_from_is_err_and c.from_residual.result c.from_residual.ensures.1 in
    rw (p.1, p.2) (look_cause c.args.d.now.bytes (seen c.args.e.now) c.args.name.now _ _ c.in_err-groups.field-0.0
    c.in_err-groups.ensures.fault)

pub returns-in_err-rename-clause-fault : goal.returns-in_err-rename-clause-fault
returns-in_err-rename-clause-fault g c =
    let own : FitsSigned w32 c.args.e.now.id = search rules in
    let owner = c.ranges.owner in
    let id = c.ranges.id in
    let p = err_from_is_err_and c.from_residual-in_err-rename.result c.from_residual-in_err-rename.ensures.1 in
    let cause = c.in_err-rename.ensures.fault in
    rw (p.1, p.2) (name_cause c.args.d.now.bytes c.ids_by_block.new.d.bytes (seen c.args.e.now) c.args.name.now _ _
    c.in_err-rename.field-0.0
    c.ids_by_block.ensures.frame.same.bytes (simp to_z-of_z at cause))

pub returns-in_err-renumber_if-clause-fault : goal.returns-in_err-renumber_if-clause-fault
returns-in_err-renumber_if-clause-fault g c =
    let own : FitsSigned w32 c.args.e.now.id = search rules in
    let owner = c.ranges.owner in
    let id = c.ranges.id in
    let p = err_from_is_err_and c.from_residual-in_err-renumber_if.result c.from_residual-in_err-renumber_if.ensures.1 in
    let names = c.in_ok-rename.ensures.bytes in
    let cause = c.in_err-renumber_if.ensures.fault in
    rw (p.1, p.2) (id_turn_cause c.args.d.now.bytes c.ids_by_block.new.d.bytes c.rename.new.d.bytes (seen c.args.e.now)
    c.args.name.now _ c.args.id
    c.in_err-renumber_if.field-0.0 c.ids_by_block.ensures.frame.same.bytes (simp to_z-of_z at names) (simp to_z-of_z at cause))

pub returns-in_err-give-clause-fault : goal.returns-in_err-give-clause-fault
returns-in_err-give-clause-fault g c =
    let own : FitsSigned w32 c.args.e.now.id = search rules in
    let owner = c.ranges.owner in
    let id = c.ranges.id in
    let p = err_from_is_err_and c.from_residual-in_err-give.result c.from_residual-in_err-give.ensures.1 in
    let names = c.in_ok-rename.ensures.bytes in
    let held = c.in_ok-renumber_if.ensures.holds in
    let fits : FitsSigned w32 c.moved-owner.result = search rules in
    let called = c.moved-owner.ensures in
    let becomes = simp to_z-of_z at called in
    let cause = c.in_err-give.ensures.fault in
    let given = simp to_z-of_z at cause in
    let both : HasBoth (seen c.args.e.now) c.args.name.now c.args.id c.ids_by_block.new.d.bytes c.rename.new.d.bytes
    c.renumber_if.new.d.bytes = record {
      names = simp to_z-of_z at names;
      id_held = simp to_z-of_z at held;
    } in
    rw (p.1, p.2) (owner_cause c.args.d.now.bytes c.ids_by_block.new.d.bytes c.rename.new.d.bytes c.renumber_if.new.d.bytes
    (seen c.args.e.now) c.args.name.now c.args.owner c.args.id c.in_err-give.field-0.0 c.ids_by_block.ensures.frame.same.bytes both (rw becomes at given))

pub returns-clause-bytes : goal.returns-clause-bytes
returns-clause-bytes g c =
    let own : FitsSigned w32 c.args.e.now.id = search rules in
    let owner = c.ranges.owner in
    let id = c.ranges.id in
    let names = c.in_ok-rename.ensures.bytes in
    let moves = c.in_ok-renumber_if.ensures.bytes in
    let held = c.in_ok-renumber_if.ensures.holds in
    let fits : FitsSigned w32 c.moved-owner.result = search rules in
    let called = c.moved-owner.ensures in
    let becomes = simp to_z-of_z at called in
    let gave = c.in_ok-give.ensures.bytes in
    let given = simp to_z-of_z at gave in
    let steps : Steps (seen c.args.e.now) c.args.name.now c.args.owner c.args.id c.ids_by_block.new.d.bytes c.rename.new.d.bytes
    c.renumber_if.new.d.bytes c.give.new.d.bytes = record {
      names = simp to_z-of_z at names;
      id_bytes = simp to_z-of_z at moves;
      id_held = simp to_z-of_z at held;
      gives = rw becomes at given;
    } in
    let found = c.in_ok-groups.ensures.found in
    let under = rw c.as_slice.ensures at found in
    let ids = c.deref.ensures.value in
    let last = c.give_fronts.ensures.bytes in
    turn_ok c.give_fronts.result c.args.d.now.bytes c.ids_by_block.new.d.bytes c.rename.new.d.bytes c.renumber_if.new.d.bytes
    c.give.new.d.bytes c.give_fronts.new.d.bytes (seen c.args.e.now) c.args.name.now c.front_of.result.now c.args.owner c.args.id
    c.in_ok-groups.groups.items c.ids_by_block.ensures.frame.same.bytes under steps c.front_of.ensures (rw ids at last)

pub returns-clause-holds : goal.returns-clause-holds
returns-clause-holds g c =
    let own : FitsSigned w32 c.args.e.now.id = search rules in
    let owner = c.ranges.owner in
    let id = c.ranges.id in
    let names = c.in_ok-rename.ensures.bytes in
    let moves = c.in_ok-renumber_if.ensures.bytes in
    let held = c.in_ok-renumber_if.ensures.holds in
    let fits : FitsSigned w32 c.moved-owner.result = search rules in
    let called = c.moved-owner.ensures in
    let becomes = simp to_z-of_z at called in
    let gave = c.in_ok-give.ensures.bytes in
    let given = simp to_z-of_z at gave in
    let steps : Steps (seen c.args.e.now) c.args.name.now c.args.owner c.args.id c.ids_by_block.new.d.bytes c.rename.new.d.bytes
    c.renumber_if.new.d.bytes c.give.new.d.bytes = record {
      names = simp to_z-of_z at names;
      id_bytes = simp to_z-of_z at moves;
      id_held = simp to_z-of_z at held;
      gives = rw becomes at given;
    } in
    let found = c.in_ok-groups.ensures.found in
    let under = rw c.as_slice.ensures at found in
    let ids = c.deref.ensures.value in
    let last = c.give_fronts.ensures.holds in
    turn_holds c.give_fronts.result c.args.d.now.bytes c.ids_by_block.new.d.bytes c.rename.new.d.bytes c.renumber_if.new.d.bytes
    c.give.new.d.bytes c.give_fronts.new.d.bytes (seen c.args.e.now) c.args.name.now c.front_of.result.now c.args.owner c.args.id
    c.in_ok-groups.groups.items c.ids_by_block.ensures.frame.same.bytes under steps c.front_of.ensures (rw ids at last)

pub returns-clause-fault : goal.returns-clause-fault
returns-clause-fault g c =
    let own : FitsSigned w32 c.args.e.now.id = search rules in
    let owner = c.ranges.owner in
    let id = c.ranges.id in
    let names = c.in_ok-rename.ensures.bytes in
    let moves = c.in_ok-renumber_if.ensures.bytes in
    let held = c.in_ok-renumber_if.ensures.holds in
    let fits : FitsSigned w32 c.moved-owner.result = search rules in
    let called = c.moved-owner.ensures in
    let becomes = simp to_z-of_z at called in
    let gave = c.in_ok-give.ensures.bytes in
    let given = simp to_z-of_z at gave in
    let steps : Steps (seen c.args.e.now) c.args.name.now c.args.owner c.args.id c.ids_by_block.new.d.bytes c.rename.new.d.bytes
    c.renumber_if.new.d.bytes c.give.new.d.bytes = record {
      names = simp to_z-of_z at names;
      id_bytes = simp to_z-of_z at moves;
      id_held = simp to_z-of_z at held;
      gives = rw becomes at given;
    } in
    let found = c.in_ok-groups.ensures.found in
    let under = rw c.as_slice.ensures at found in
    let ids = c.deref.ensures.value in
    let last = c.give_fronts.ensures.fault in
    fronts_err c.give_fronts.result c.args.d.now.bytes c.ids_by_block.new.d.bytes c.rename.new.d.bytes c.renumber_if.new.d.bytes
    c.give.new.d.bytes (seen c.args.e.now) c.args.name.now c.front_of.result.now c.args.owner c.args.id
    c.in_ok-groups.groups.items c.ids_by_block.ensures.frame.same.bytes under steps c.front_of.ensures (rw ids at last)

pub returns-in_err-rename-clause-frame : goal.returns-in_err-rename-clause-frame
returns-in_err-rename-clause-frame g c =
    let p = err_from_is_err_and c.from_residual-in_err-rename.result c.from_residual-in_err-rename.ensures.1 in
    rw (p.1, p.2) (drafts_then g.I.ImageRead c.args.d.now c.ids_by_block.new.d c.rename.new.d _ _
    (drafts_looks g.I.ImageRead c.args.d.now c.args.d.now c.ids_by_block.new.d _ _ (drafts_none g.I.ImageRead c.args.d.now)
    c.ids_by_block.ensures.frame) c.in_err-rename.ensures.frame)

pub returns-in_err-renumber_if-clause-frame : goal.returns-in_err-renumber_if-clause-frame
returns-in_err-renumber_if-clause-frame g c =
    let p = err_from_is_err_and c.from_residual-in_err-renumber_if.result c.from_residual-in_err-renumber_if.ensures.1 in
    rw (p.1, p.2) (drafts_then g.I.ImageRead c.args.d.now c.rename.new.d c.renumber_if.new.d _ _
    (drafts_then g.I.ImageRead c.args.d.now c.ids_by_block.new.d c.rename.new.d _ _
    (drafts_looks g.I.ImageRead c.args.d.now c.args.d.now c.ids_by_block.new.d _ _ (drafts_none g.I.ImageRead c.args.d.now)
    c.ids_by_block.ensures.frame) c.rename.ensures.frame) c.in_err-renumber_if.ensures.frame)

pub returns-in_err-give-clause-frame : goal.returns-in_err-give-clause-frame
returns-in_err-give-clause-frame g c =
    let p = err_from_is_err_and c.from_residual-in_err-give.result c.from_residual-in_err-give.ensures.1 in
    rw (p.1, p.2) (drafts_then g.I.ImageRead c.args.d.now c.renumber_if.new.d c.give.new.d _ _
    (drafts_then g.I.ImageRead c.args.d.now c.rename.new.d c.renumber_if.new.d _ _
    (drafts_then g.I.ImageRead c.args.d.now c.ids_by_block.new.d c.rename.new.d _ _
    (drafts_looks g.I.ImageRead c.args.d.now c.args.d.now c.ids_by_block.new.d _ _ (drafts_none g.I.ImageRead c.args.d.now)
    c.ids_by_block.ensures.frame) c.rename.ensures.frame) c.renumber_if.ensures.frame) c.in_err-give.ensures.frame)

pub returns-clause-frame : goal.returns-clause-frame
returns-clause-frame g c =
    drafts_then g.I.ImageRead c.args.d.now c.give.new.d c.give_fronts.new.d _ _
    (drafts_then g.I.ImageRead c.args.d.now c.renumber_if.new.d c.give.new.d _ _
    (drafts_then g.I.ImageRead c.args.d.now c.rename.new.d c.renumber_if.new.d _ _
    (drafts_then g.I.ImageRead c.args.d.now c.ids_by_block.new.d c.rename.new.d _ _
    (drafts_looks g.I.ImageRead c.args.d.now c.args.d.now c.ids_by_block.new.d _ _ (drafts_none g.I.ImageRead c.args.d.now)
    c.ids_by_block.ensures.frame) c.rename.ensures.frame) c.renumber_if.ensures.frame) c.give.ensures.frame) c.give_fronts.ensures.frame
