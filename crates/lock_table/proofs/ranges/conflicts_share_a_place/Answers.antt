use Rattle.lock_table.proofs.Places.{share-from_test, test-from_share}
use Rattle.lock_table.proofs.ranges.conflicts_share_a_place.Goals as goal

pub returns : goal.returns
returns c a b = (share-from_test a b, test-from_share a b)
