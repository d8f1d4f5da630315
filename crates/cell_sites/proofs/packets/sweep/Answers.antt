use Rattle.std.proofs.Common.{◌∙◌, ap, sym, refl, set, get_or, arith, ◌≤◌, ◌<◌, length}
use Rattle.cell_sites.specs.declared.packets.Swept.{Swept}
use Rattle.cell_sites.specs.SweptTo.{swept_to}
use Rattle.cell_sites.proofs.Sweeping.{map_step, map_end, to_swept, not_swept}
use Rattle.cell_sites.proofs.packets.sweep.Goals as goal
use Rattle.cell_sites.proofs.packets.sweep.Goals.{then-one-host, else-one-host}

abbrev none : Swept
none = record { host = record { 0 = 0 }; below = 0 }

pub loop-one-init : goal.loop-one-init
loop-one-init c = refl

pub loop-one-preserved : goal.loop-one-preserved
loop-one-preserved c =
    let within : c.loop-one.one-index < length c.loop-one.swept = omega (arith, c.loop-one-test.true, c.loop-one.auto.swept) in
    let one = get_or c.loop-one.swept c.loop-one.one-index none in
    elim c.if-one-host.branch [
      | then-one-host w ↦
          c.loop-one.invariant
          ∙ map_step (swept_to c.args.host c.args.end) c.loop-one.swept c.if-one-host.swept c.loop-one.one-index none within
          (w.swept-is ∙ ap (set c.loop-one.swept c.loop-one.one-index) (to_swept c.args.host c.args.end one w.if-one-host.true))
      | else-one-host w ↦
          c.loop-one.invariant
          ∙ map_step (swept_to c.args.host c.args.end) c.loop-one.swept c.if-one-host.swept c.loop-one.one-index none within
          (w.swept-is ∙ ap (set c.loop-one.swept c.loop-one.one-index) (not_swept c.args.host c.args.end one w.if-one-host.false))
    ]

pub returns : goal.returns
returns c =
    let past : length c.loop-one.swept ≤ c.loop-one.one-index = omega (arith, c.loop-one-test.false, c.loop-one.auto.swept) in
    sym (c.loop-one.invariant ∙ map_end (swept_to c.args.host c.args.end) c.loop-one.swept c.loop-one.one-index past)
