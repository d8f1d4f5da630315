use Rattle.std.proofs.Common.{◌≡◌, true, length, drop}
use Rattle.prdb_finds.specs.FirstWords.{are_within, with_words}
use Rattle.prdb_finds.proofs.first.put_words.Given as goal

abbrev pub invariant-loop-word : goal.invariant-loop-word
invariant-loop-word l = record {
  bytes : with_words (drop l.word-index l.words) l.image ≡ with_words l.words l.fn.image;
  len : length l.image ≡ 3264;
  within : are_within (drop l.word-index l.words) ≡ true;
}
