use Rattle.std.proofs.Common.{◌≡◌, List, ℕ, [], drop}
use Rattle.command_lines.specs.Cuts.{all_words, words_of}
use Rattle.command_lines.specs.declared.cuts.Place.TheVariants.{Between}
use Rattle.command_lines.proofs.cuts.cut.Given as goal

abbrev pub invariant-loop-byte : goal.invariant-loop-byte
invariant-loop-byte l = record {
  words : all_words l.cutting.words.items l.cutting.word.items l.cutting.place (drop l.byte-index l.line) ≡ words_of l.line;
  between : l.cutting.place ≡ Between → l.cutting.word.items ≡ [];
}
