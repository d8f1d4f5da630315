use Rattle.std.proofs.Common.{◌≡◌, drop, take}
use Rattle.afs_words.specs.Meaning.{first_bad}
use Rattle.afs_words.specs.Taken.{AreRead}
use Rattle.afs_words.proofs.judged.read_all.Given as goal

abbrev pub invariant-loop-slot : goal.invariant-loop-slot
invariant-loop-slot l =
    (first_bad l.named l.chosen (drop l.slot-index l.slots) ≡ first_bad l.named l.chosen l.slots)
    × AreRead (take l.slot-index l.slots) l.read.items
