use Rattle.std.proofs.Common.{◌≡◌, ◌+◌, ◌-◌, ℕ, slice_index, take, drop, sym, ap, ◌∙◌, arith}
use Rattle.db_image.specs.Draft.{changed_at, byte_of}
use Rattle.db_image.proofs.Bytes.{byte_in}
use Rattle.db_image.proofs.Writes.{read_in, written_more, written_len}
use Rattle.db_image.proofs.overlays.Overlay.cover.Goals as goal

pub loop-done-preserved : goal.loop-done-preserved
loop-done-preserved c =
    let a : ℕ = c.loop-done.done in
    let k : ℕ = c.min-part.result in
    let p = c.place_of-place.result in
    let place = c.place_of-place.ensures in
    record {
      within = omega (arith, written_len a (a + k - a) c.loop-done.buf c.cover_part.new.part (omega arith) (omega arith));
      laid = written_more _ a k _ c.args.buf.now c.loop-done.buf c.cover_part.new.part c.loop-done.invariant.laid (omega arith)
          (omega arith) (omega arith) (λ i below.
          let was : slice_index (take (a + k - a) (drop a c.loop-done.buf)) i ≡ slice_index c.args.buf.now (a + i) =
          read_in a (a + k - a) c.loop-done.buf i (omega arith) ∙ c.loop-done.invariant.laid.behind (a + i) (omega arith) (omega arith) in
          c.cover_part.ensures i (omega arith)
          ∙ ap (λ b. byte_of b (p.offset + i) (slice_index (take (a + k - a) (drop a c.loop-done.buf)) i)) c.get-block.ensures.value
          ∙ ap (byte_of (changed_at c.args.self.now p.number) (p.offset + i)) was
          ∙ sym (byte_in c.args.self.now p.number (p.offset + i) (c.args.at + (a + i)) _ (omega arith) (omega arith)));
    }
