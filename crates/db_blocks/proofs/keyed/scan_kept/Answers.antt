use Rattle.std.proofs.Common.{◌≡◌, ℕ, sym, ◌∙◌, subst, arith}
use Rattle.std.proofs.lemmas.Result.{err_from_is_err_and}
use Rattle.db_blocks.proofs.Keeping.{Keeping, bad_so, keeping_all, keeping_met, keeping_past, keeping_within}
use Rattle.db_blocks.proofs.Scanned.{bad_size}
use Rattle.db_blocks.proofs.keyed.scan_kept.Goals as goal
use Rattle.db_blocks.proofs.keyed.scan_kept.Goals.{then-is_met+in_ok-keep, else-is_met}

pub returns-in_err-count-clause-fault : goal.returns-in_err-count-clause-fault
returns-in_err-count-clause-fault g c =
    let p = err_from_is_err_and c.from_residual.result c.from_residual.ensures.1 in
    rw (p.1, p.2) (bad_so c.args.d.now.bytes c.args.head (g.W.Keyed.fits c.args.wanted.now) c.in_err-count.field-0.0
    (bad_size c.args.head c.args.d.now.bytes c.len.result c.len.result c.in_err-count.field-0.0 c.in_err-count.ensures.fault.0
    (rw c.len.ensures.size c.len.ensures.told) c.in_err-count.ensures.fault.1))

pub loop-number-preserved : goal.loop-number-preserved
loop-number-preserved g c =
    elim c.if-is_met.branch [
      | then-is_met+in_ok-keep w ↦
          rw w.kept-is
          (keeping_met g.I.ImageRead c.args.d.now c.loop-number.d c.read_block.new.d
          record { head = c.args.head; test = g.W.Keyed.test c.args.wanted.now; key = g.W.Keyed.key c.args.wanted.now; most = c.args.most }
          w.key_of-key.result c.loop-number.kept.items w.keep.new.kept.items c.in_ok-count.count c.loop-number.number c.in_ok-block.block _
          c.loop-number.invariant c.read_block.ensures.frame c.read_block.ensures.cost c.in_ok-block.ensures.block (sym c.is_met.ensures
          ∙ w.if-is_met.true)
          w.key_of-key.ensures c.loop-number-test.true w.in_ok-keep.ensures.kept w.in_ok-keep.ensures.order)
      | else-is_met w ↦
          rw w.kept-is
          (keeping_past g.I.ImageRead c.args.d.now c.loop-number.d c.read_block.new.d
          record { head = c.args.head; test = g.W.Keyed.test c.args.wanted.now; key = g.W.Keyed.key c.args.wanted.now; most = c.args.most }
          c.loop-number.kept.items c.in_ok-count.count c.loop-number.number c.in_ok-block.block _
          c.loop-number.invariant c.read_block.ensures.frame c.read_block.ensures.cost c.in_ok-block.ensures.block (sym c.is_met.ensures
          ∙ w.if-is_met.false))
    ]

pub returns-clause-found : goal.returns-clause-found
returns-clause-found g c =
    let last : c.loop-number.number ≡ c.in_ok-count.count = omega arith in
    keeping_all g.I.ImageRead c.args.d.now c.loop-number.d _ c.loop-number.kept.items c.in_ok-count.count
    (subst (λ (n : ℕ). Keeping g.I.ImageRead c.args.d.now c.loop-number.d
    record { head = c.args.head; test = g.W.Keyed.test c.args.wanted.now; key = g.W.Keyed.key c.args.wanted.now; most = c.args.most }
    c.loop-number.kept.items c.in_ok-count.count n) last c.loop-number.invariant)

pub returns-clause-within : goal.returns-clause-within
returns-clause-within g c =
    keeping_within g.I.ImageRead c.args.d.now c.loop-number.d _ c.loop-number.kept.items c.in_ok-count.count c.loop-number.number
    c.args.d.now.len
    (sym c.len.ensures.size ∙ c.in_ok-count.ensures.count) c.loop-number.invariant
