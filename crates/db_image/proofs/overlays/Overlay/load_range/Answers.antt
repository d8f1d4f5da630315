use Rattle.std.proofs.Common.{◌<◌, ℕ, IsErrOf, Option, List, subst, rules, arith}
use Rattle.db_image.specs.declared.services.Layout.{Layout}
use Rattle.db_image.specs.declared.faults.RecordFault.TheVariants.{DiskFault}
use Rattle.db_image.specs.Images.{ReadsAtMost}
use Rattle.db_image.specs.Places.{block_number, block_size, IsPlace}
use Rattle.db_image.specs.Draft.{SameBytes}
use Rattle.db_image.proofs.ReadSteps.{reads_within}
use Rattle.db_image.proofs.Ranges.{reached_more, reads_block, cost_within, cost_failed, loaded_more, same_then}
use Rattle.db_image.proofs.overlays.Overlay.load_range.Goals as goal

pub returns-in_err-load-clause-reads : goal.returns-in_err-load-clause-reads
returns-in_err-load-clause-reads g c =
    let inv = c.loop-from.invariant in
    let from : ℕ = c.loop-from.from in
    let p = c.place_of-place.result in
    let l = c.args.self.now.layout in
    let some : 0 < l.block = subst (λ (m : Layout). 0 < m.block) inv.same.layout inv.laid.block in
    let place : IsPlace l from p = subst (λ (m : Layout). IsPlace m from p) inv.same.layout c.place_of-place.ensures in
    let read = subst (λ (m : Layout). ReadsAtMost g.I.ImageRead (block_size m (block_number m from))
    c.loop-from.image c.load.new.image (IsErrOf c.load.result DiskFault))
    inv.same.layout c.load.ensures.reads in
    reads_within g.I.ImageRead _ _ c.args.image.now c.load.new.image _ _
    (reads_block g.I.ImageRead l c.args.at c.args.end from p c.args.image.now c.loop-from.image c.load.new.image _ _ some place inv.reached inv.reads read)
    (cost_failed l c.args.at c.args.end from p some place (omega arith) inv.reached)
    (λ h. search rules)

pub loop-from-preserved : goal.loop-from-preserved
loop-from-preserved g c =
    let inv = c.loop-from.invariant in
    let from : ℕ = c.loop-from.from in
    let p = c.place_of-place.result in
    let l = c.args.self.now.layout in
    let some : 0 < l.block = subst (λ (m : Layout). 0 < m.block) inv.same.layout inv.laid.block in
    let place : IsPlace l from p = subst (λ (m : Layout). IsPlace m from p) inv.same.layout c.place_of-place.ensures in
    let read = subst (λ (m : Layout). ReadsAtMost g.I.ImageRead (block_size m (block_number m from))
    c.loop-from.image c.load.new.image (IsErrOf c.load.result DiskFault))
    inv.same.layout c.load.ensures.reads in
    record {
      laid = rw (c.load.ensures.reads.reads.size, c.load.ensures.reads.reads.held) c.load.ensures.laid;
      same = same_then (g.I.ImageRead.held c.args.image.now) c.args.self.now c.loop-from.self c.load.new.self inv.same
          (subst (λ (b : Option (List ℕ)). SameBytes b c.loop-from.self c.load.new.self) inv.reads.reads.held c.load.ensures.same);
      loaded = loaded_more c.loop-from.self c.load.new.self _ c.args.at from p inv.laid.block c.place_of-place.ensures inv.loaded c.load.ensures.same c.in_ok-load.ensures.loaded;
      reads = reads_within g.I.ImageRead _ _ c.args.image.now c.load.new.image _ _
          (reads_block g.I.ImageRead l c.args.at c.args.end from p c.args.image.now c.loop-from.image c.load.new.image _ _ some place inv.reached inv.reads read)
          (omega arith) (λ h. absurd h);
      reached = reached_more l c.args.at c.args.end from p some place (omega arith) inv.reached;
    }

pub returns-clause-reads : goal.returns-clause-reads
returns-clause-reads g c =
    let inv = c.loop-from.invariant in
    let l = c.args.self.now.layout in
    reads_within g.I.ImageRead _ _ c.args.image.now c.loop-from.image _ _ inv.reads
    (cost_within l c.args.at c.args.end c.loop-from.from (subst (λ (m : Layout). 0 < m.block) inv.same.layout inv.laid.block) inv.reached)
    (λ h. cc)
