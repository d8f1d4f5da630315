use Rattle.std.proofs.Common.{refl, arith, rules}
use Rattle.std.proofs.lemmas.Int.{to_z-of_z}
use Rattle.pt_service.proofs.Named.{passed_id}
use Rattle.pt_turns.proofs.Looked.{gathered_all, gathered_more, gathered_none, gathered_other}
use Rattle.pt_turns.proofs.sought.entries_of.Goals as goal
use Rattle.pt_turns.proofs.sought.entries_of.Goals.{in-Some+in_ok-push, in_default}

pub loop-id-init : goal.loop-id-init
loop-id-init g c =
    gathered_none g.I.ImageRead c.args.d.now c.args.ids.now c.new-entries.result.items c.new-entries.ensures.items

pub entry_of-requires : goal.entry_of-requires
entry_of-requires g c = omega (arith, c.loop-id.invariant.frame.same.len, c.requires)

pub loop-id-preserved : goal.loop-id-preserved
loop-id-preserved g c =
    elim c.match-found.branch [
      | in-Some+in_ok-push w ↦
          rw w.entries-is
          (gathered_more g.I.ImageRead c.args.d.now c.loop-id.d c.entry_of.new.d _ c.args.ids.now c.loop-id.entries.items
          w.push.new.self.items c.loop-id.id-index _ c.in_ok-found.found w.in-Some.e
          c.in_ok-found.ensures.frame c.in_ok-found.ensures.found
          (first_of (search (rules, passed_id), grind (arith, to_z-of_z, passed_id))) c.loop-id-test.true
          w.in-Some.is w.in_ok-push.ensures.items c.loop-id.invariant)
      | in_default w ↦
          rw w.entries-is
          (gathered_other g.I.ImageRead c.args.d.now c.loop-id.d c.entry_of.new.d _ c.args.ids.now c.loop-id.entries.items
          c.loop-id.id-index _ c.in_ok-found.found
          c.in_ok-found.ensures.frame c.in_ok-found.ensures.found
          (first_of (search (rules, passed_id), grind (arith, to_z-of_z, passed_id))) c.loop-id-test.true
          w.in_default.is c.loop-id.invariant)
    ]

pub returns-clause-found : goal.returns-clause-found
returns-clause-found g c =
    gathered_all g.I.ImageRead c.args.d.now c.loop-id.d c.args.ids.now c.loop-id.entries.items c.loop-id.entries.items c.loop-id.id-index
    c.loop-id-test.false refl c.loop-id.invariant
