use Rattle.std.proofs.Common.{◌<◌, refl, subst, sym}
use Rattle.cell_model.specs.declared.events.NodeEvent.{NodeEvent}
use Rattle.cell_model.specs.Step.{Member, cell_size}
use Rattle.cell_sites.specs.Sound.{IsSoundNode}
use Rattle.cell_sites.specs.Stepped.{NodeStepped, member_at}
use Rattle.ubik_node.specs.Node.{own_member}
use Rattle.write_laws.specs.Keeping.{IsBrought}
use Rattle.cell_sites.proofs.Behind.{up_cuts, up_meant}
use Rattle.cell_sites.proofs.Leading.{brought_built, holds_met, needs_met}
use Rattle.cell_sites.proofs.Soundly.{found_up, here}
use Rattle.cell_sites.proofs.cells.OpenCell.step_up.Goals as goal

pub step_node-requires-clause-moment : goal.step_node-requires-clause-moment
step_node-requires-clause-moment g c =
    let site = c.index_mut-site.result.now in
    let there = found_up c.args.self.now c.args.k site c.in-Up.node c.requires.up c.index_mut-site.ensures.value c.in-Up.is in
    (here g.D.Disk c.requires.sound.0.clock c.args.self.now c.args.k site.clock c.in-Up.node c.requires.sound.1.steady there).moment

pub step_node-requires-clause-place : goal.step_node-requires-clause-place
step_node-requires-clause-place g c =
    let site = c.index_mut-site.result.now in
    let there = found_up c.args.self.now c.args.k site c.in-Up.node c.requires.up c.index_mut-site.ensures.value c.in-Up.is in
    let at = here g.D.Disk c.requires.sound.0.clock c.args.self.now c.args.k site.clock c.in-Up.node c.requires.sound.1.steady there in
    subst (λ (m : Member). m.me < cell_size m) (sym at.sound.member) at.me

pub step_node-requires-clause-sound : goal.step_node-requires-clause-sound
step_node-requires-clause-sound g c =
    let site = c.index_mut-site.result.now in
    let there = found_up c.args.self.now c.args.k site c.in-Up.node c.requires.up c.index_mut-site.ensures.value c.in-Up.is in
    let at = here g.D.Disk c.requires.sound.0.clock c.args.self.now c.args.k site.clock c.in-Up.node c.requires.sound.1.steady there in
    subst (λ (m : Member). IsSoundNode g.D.Disk m site.clock c.in-Up.node) (sym at.sound.member) at.sound

pub step_node-requires-clause-built : goal.step_node-requires-clause-built
step_node-requires-clause-built g c =
    let m = member_at c.args.self.now c.args.k in
    brought_built m c.event_of-event.result.now (subst (IsBrought m) (sym c.event_of-event.ensures) c.requires.brought)

pub step_node-requires-clause-cuts : goal.step_node-requires-clause-cuts
step_node-requires-clause-cuts g c =
    let site = c.index_mut-site.result.now in
    let there = found_up c.args.self.now c.args.k site c.in-Up.node c.requires.up c.index_mut-site.ensures.value c.in-Up.is in
    up_cuts g.D.Disk g.V.DraftService.standing c.requires.sound.0.asks c.args.self.now c.args.k site.clock c.in-Up.node
    (c.law_images_stand.ensures.service c.requires.sound.1.blocks) c.requires.sound.1.run there c.law_writes_stand.ensures
    (own_member c.in-Up.node)
    c.event_of-event.result.now

pub step_node-requires-clause-needs : goal.step_node-requires-clause-needs
step_node-requires-clause-needs g c =
    let site = c.index_mut-site.result.now in
    let there = found_up c.args.self.now c.args.k site c.in-Up.node c.requires.up c.index_mut-site.ensures.value c.in-Up.is in
    let at = here g.D.Disk c.requires.sound.0.clock c.args.self.now c.args.k site.clock c.in-Up.node c.requires.sound.1.steady there in
    needs_met g.D.Disk g.V.DraftService.standing.database
    (own_member c.in-Up.node) c.in-Up.node at.disk c.event_of-event.result.now site.clock

pub step_node-requires-clause-holds : goal.step_node-requires-clause-holds
step_node-requires-clause-holds g c =
    let site = c.index_mut-site.result.now in
    let there = found_up c.args.self.now c.args.k site c.in-Up.node c.requires.up c.index_mut-site.ensures.value c.in-Up.is in
    holds_met g.V.DraftService.standing c.in-Up.node
    (up_meant g.D.Disk g.V.DraftService.standing c.requires.sound.0.asks c.args.self.now c.args.k site.clock c.in-Up.node
    (c.law_images_stand.ensures.service c.requires.sound.1.blocks) c.requires.sound.1.run there c.law_images_stand.ensures.stand
    c.law_writes_stand.ensures)

pub step_node-requires-clause-disk : goal.step_node-requires-clause-disk
step_node-requires-clause-disk g c =
    let site = c.index_mut-site.result.now in
    let there = found_up c.args.self.now c.args.k site c.in-Up.node c.requires.up c.index_mut-site.ensures.value c.in-Up.is in
    (here g.D.Disk c.requires.sound.0.clock c.args.self.now c.args.k site.clock c.in-Up.node c.requires.sound.1.steady there).disk

pub returns : goal.returns
returns g c =
    let site = c.index_mut-site.result.now in
    let there = found_up c.args.self.now c.args.k site c.in-Up.node c.requires.up c.index_mut-site.ensures.value c.in-Up.is in
    let at = here g.D.Disk c.requires.sound.0.clock c.args.self.now c.args.k site.clock c.in-Up.node c.requires.sound.1.steady there in
    record {
      clock = site.clock;
      node = c.in-Up.node;
      there = there;
      later = c.step_node.new.node;
      step =
          subst (λ (e : NodeEvent). NodeStepped g.D.Disk g.V.DraftService.standing.database
          (member_at c.args.self.now c.args.k) site.clock e
          c.step_node.result c.in-Up.node c.step_node.new.node c.step_node.new.out) c.event_of-event.ensures
          (subst (λ (m : Member). NodeStepped g.D.Disk g.V.DraftService.standing.database m site.clock c.event_of-event.result.now
          c.step_node.result c.in-Up.node c.step_node.new.node c.step_node.new.out) at.sound.member c.step_node.ensures);
      sites = refl;
      hosts = refl;
      packets = refl;
      calls = refl;
    }
