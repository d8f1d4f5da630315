use Rattle.std.proofs.Common.{◌≡◌, Bool}
use Rattle.std.proofs.lemmas.Int.{to_z-of_z}
use Rattle.prdb_layout.specs.Registry.{Registry}
use Rattle.prdb_lists.specs.Members.{Members}
use Rattle.pt_looks.proofs.States.{pairs_ok}
use Rattle.pt_looks.proofs.finds.is_in.Goals as goal

pub returns-clause-found : goal.returns-clause-found
returns-clause-found g c =
    let one = c.ranges.member in
    let two = c.ranges.group in
    let found = c.has_pair.ensures.found in
    pairs_ok c.has_pair.result c.args.d.now.bytes
    (λ (there : Bool) (r : Registry) (m : Members). there ≡ m.has c.args.member c.args.group) (simp to_z-of_z at found)
