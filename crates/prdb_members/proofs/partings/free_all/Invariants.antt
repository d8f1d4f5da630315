use Rattle.std.specs.Prelude.{◌+◌}
use Rattle.db_chains.specs.Free.{with_freed as with_free_block}
use Rattle.prdb_finds.specs.Places.{free_blocks}
use Rattle.prdb_members.specs.Sides.{HasFreeChain}
use Rattle.prdb_members.proofs.PartingEnds.{Going}
use Rattle.prdb_members.proofs.partings.free_all.Given as goal

abbrev pub invariant-loop-number : goal.invariant-loop-number
invariant-loop-number g l =
    Going g.I.ImageRead l.fn.d l.d (λ k. HasFreeChain) (λ k. with_free_block free_blocks (k + 1)) l.blocks l.number-index
