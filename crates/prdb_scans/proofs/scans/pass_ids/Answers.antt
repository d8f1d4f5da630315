use Rattle.std.proofs.Common.{◌*◌, true, false, ◌∷◌, ◌++◌, [], refl, sym, ap, ◌∙◌, rules, arith}
use Rattle.std.specs.Prelude.{FitsSigned}
use Rattle.std.specs.Int.{w32}
use Rattle.std.proofs.lemmas.Int.{to_z-of_z}
use Rattle.std.proofs.lemmas.Result.{err_from_is_err_and}
use Rattle.db_blocks.proofs.Keeping.{bad_so}
use Rattle.db_image.proofs.ReadSteps.{asks_then}
use Rattle.db_blocks.proofs.Scanned.{bad_size, looks_so, looks_then}
use Rattle.prdb_layout.specs.State.{PrEntry}
use Rattle.entry_scans.specs.Pages.{is_kind}
use Rattle.prdb_scans.proofs.Ids.{taking_all, taking_bad, taking_next, taking_none}
use Rattle.prdb_scans.proofs.scans.pass_ids.Goals as goal
use Rattle.prdb_scans.proofs.scans.pass_ids.Goals.{then-is_sought+in_ok-push, else-is_sought}

pub returns-in_err-count-clause-fault : goal.returns-in_err-count-clause-fault
returns-in_err-count-clause-fault g c =
    let p = err_from_is_err_and c.from_residual.result c.from_residual.ensures.1 in
    rw (p.1, p.2) (bad_so c.args.d.now.bytes 2112 is_kind c.in_err-count.field-0.0
    (bad_size 2112 c.args.d.now.bytes c.len.result c.len.result c.in_err-count.field-0.0 c.in_err-count.ensures.fault.0
    (rw c.len.ensures.size c.len.ensures.told) c.in_err-count.ensures.fault.1))

pub loop-number-init : goal.loop-number-init
loop-number-init g c =
    rw c.new-ids.ensures.items (taking_none g.I.ImageRead c.args.d.now (g.S.Sought.test c.args.sought.now) c.in_ok-count.count
    (rw (← c.in_ok-count.ensures.count, c.len.ensures.size) c.len.ensures.told))

pub loop-number-preserved : goal.loop-number-preserved
loop-number-preserved g c =
    elim c.if-is_sought.branch [
      | then-is_sought+in_ok-push w ↦
          let fits : FitsSigned w32 w.entry_in.result.id = search rules in
          let pushed = w.in_ok-push.ensures.items in
          rw w.ids-is
          (taking_next g.I.ImageRead c.args.d.now c.loop-number.d c.read_kind.new.d
          (g.S.Sought.test c.args.sought.now) c.loop-number.ids.items w.push.new.self.items
          c.in_ok-count.count c.loop-number.number c.in_ok-block.block true _
          c.loop-number.invariant c.read_kind.ensures.frame c.read_kind.ensures.cost c.in_ok-block.ensures.block (
            sym c.is_sought.ensures ∙ w.if-is_sought.true,
            (simp to_z-of_z at pushed) ∙ ap (λ (e : PrEntry). c.loop-number.ids.items ++ e.id ∷ []) w.entry_in.ensures,
          ))
      | else-is_sought w ↦
          rw w.ids-is
          (taking_next g.I.ImageRead c.args.d.now c.loop-number.d c.read_kind.new.d
          (g.S.Sought.test c.args.sought.now) c.loop-number.ids.items c.loop-number.ids.items
          c.in_ok-count.count c.loop-number.number c.in_ok-block.block false _
          c.loop-number.invariant c.read_kind.ensures.frame c.read_kind.ensures.cost c.in_ok-block.ensures.block
          (sym c.is_sought.ensures ∙ w.if-is_sought.false, refl))
    ]

pub returns-in_err-block-clause-fault : goal.returns-in_err-block-clause-fault
returns-in_err-block-clause-fault g c =
    let p = err_from_is_err_and c.from_residual-in_err-block.result c.from_residual-in_err-block.ensures.1 in
    rw (p.1, p.2) (taking_bad g.I.ImageRead c.args.d.now c.loop-number.d (g.S.Sought.test c.args.sought.now) c.loop-number.ids.items
    c.in_ok-count.count c.loop-number.number c.in_err-block.field-0.0 c.loop-number.invariant (omega arith) c.in_err-block.ensures.fault)

pub returns-clause-found : goal.returns-clause-found
returns-clause-found g c =
    taking_all g.I.ImageRead c.args.d.now c.loop-number.d (g.S.Sought.test c.args.sought.now) c.loop-number.ids.items
    c.put_in_order.new.ids.items c.in_ok-count.count c.loop-number.number (omega arith) c.loop-number.invariant
    c.put_in_order.ensures.same

pub returns-in_err-push-clause-frame : goal.returns-in_err-push-clause-frame
returns-in_err-push-clause-frame g c =
    let p = err_from_is_err_and c.from_residual-in_err-push.result c.from_residual-in_err-push.ensures.1 in
    let made = p.1 in
    let from = p.2 in
    looks_then g.I.ImageRead c.args.d.now c.loop-number.d c.read_kind.new.d ⊥ _ c.loop-number.invariant.frame
    (looks_so g.I.ImageRead c.loop-number.d c.read_kind.new.d _ _ c.read_kind.ensures.frame (λ h. absurd cc))

pub returns-in_err-push-clause-cost : goal.returns-in_err-push-clause-cost
returns-in_err-push-clause-cost g c =
    let done = c.loop-number.number in
    asks_then (192 * done) 192 c.args.d.now.len _ _ _ c.loop-number.invariant.cost c.read_kind.ensures.cost
    (omega (arith, c.in_ok-count.ensures.count, c.len.ensures.size, c.loop-number-test.true))
