use Rattle.command_lines.proofs.Cutting.{none_cut}
use Rattle.command_lines.proofs.cuts.cut.Goals as goal

pub loop-byte-init : goal.loop-byte-init
loop-byte-init c = record {
  words = rw (c.new-cutting.ensures.words, c.new-cutting.ensures.word, c.new-cutting.ensures.place) (none_cut c.args.line.now);
  between = λ _. c.new-cutting.ensures.word;
}
