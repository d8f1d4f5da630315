use Rattle.std.proofs.Common.{◌<◌, ◌∙◌, length, refl, sym, arith}
use Rattle.std.proofs.lemmas.Option.{slice_get-get_or}
use Rattle.cell_sites.specs.Places.{ticked_on}
use Rattle.cell_sites.proofs.AtPlace.{get_set_before}
use Rattle.cell_sites.proofs.Sweeping.{map_step}
use Rattle.cell_sites.proofs.ticks.tick_sites.Goals as goal

pub loop-site-preserved : goal.loop-site-preserved
loop-site-preserved g c =
    let within : c.loop-site.site-index < length c.loop-site.sites = omega (arith, c.loop-site-test.true, c.loop-site.auto.sites) in (
      c.loop-site.invariant.0
          ∙ map_step (ticked_on c.args.seconds) c.loop-site.sites _ c.loop-site.site-index c.site-item.result within refl,
      λ k le. get_set_before c.loop-site.sites c.loop-site.site-index k _ (omega (arith, le))
          ∙ c.loop-site.invariant.1 k (omega (arith, le)),
    )

pub overflow_add-site : goal.overflow_add-site
overflow_add-site g c =
    let within : c.loop-site.site-index < length c.loop-site.sites = omega (arith, c.loop-site-test.true, c.loop-site.auto.sites) in
    let there = slice_get-get_or c.loop-site.sites c.loop-site.site-index c.site-item.result within in
    let low = c.requires c.loop-site.site-index _ (sym (c.loop-site.invariant.1 c.loop-site.site-index (omega arith)) ∙ there) in
    omega (arith, low)
