use Rattle.std.proofs.Common.{◌≡◌, map}
use Rattle.std.specs.Prelude.{filter}
use Rattle.cell_script.specs.Words.{is_word}
use Rattle.cell_script.proofs.splits.copy_words.Given as goal

abbrev pub invariant-loop-word : goal.invariant-loop-word
invariant-loop-word l = l.list.items ≡ filter is_word (map (λ x. x.now) l.yielded)
