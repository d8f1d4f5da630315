use Rattle.std.proofs.Common.{◌≡◌, Some, drop, map, not, take}
use Rattle.std.specs.List.{find}
use Rattle.afs_words.specs.Taken.{fits, read_by}
use Rattle.afs_words.proofs.values.Slot.read_first.Given as goal

abbrev pub invariant-loop-word : goal.invariant-loop-word
invariant-loop-word l =
    (find (λ word. not (fits l.self.parameter.takes word)) (drop l.word-index l.words) ≡ find (λ word. not (fits l.self.parameter.takes word)) l.words)
    × (map Some l.list.items ≡ map (read_by l.self.parameter.takes) (take l.word-index l.words))
