use Rattle.std.proofs.Common.{◌≡◌, ℕ, List, Some}
use Rattle.db_image.specs.Blocks.{PutSome}
use Rattle.db_image.specs.Draft.{IsLaid, bytes_over, changes_below}
use Rattle.db_image.proofs.overlays.Overlay.changes.Given as goal

abbrev pub invariant-loop-number : goal.invariant-loop-number
invariant-loop-number l = record {
  done : (beneath : List ℕ) → IsLaid l.self l.size (Some beneath)
      → l.changes ≡ changes_below l.self.layout beneath (bytes_over l.self beneath) l.number;
  puts : PutSome l.changes;
}
