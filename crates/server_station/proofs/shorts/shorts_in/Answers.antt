use Rattle.std.proofs.Common.{◌-◌, ◌%◌, Bool, List, ap, sym, ◌∙◌, arith}
use Rattle.std.specs.Prelude.{◌^◌}
use Rattle.std.specs.Option.{option_copied}
use Rattle.server_journal.specs.Items.{bits}
use Rattle.server_station.proofs.Bits.{shorts_none}
use Rattle.server_station.proofs.shorts.shorts_in.Goals as goal

pub loop-place-preserved : goal.loop-place-preserved
loop-place-preserved c =
    let none = sym c.get.ensures.place ∙ ap option_copied c.in_default.is in
    c.loop-place.invariant
    ∙ ap (λ (bs : List Bool). bits bs % 2 ^ 128)
    (sym (shorts_none c.args.outputs.now (c.loop-place.place - 1) c.loop-place.place none (omega (arith, c.loop-place-test.true))))
