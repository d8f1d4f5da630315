use Rattle.command_lines.proofs.Cutting.{opened_between, passed, pushed_first}
use Rattle.command_lines.proofs.cuts.Cutting.take_between.Goals as goal

pub returns-then-is_quote-clause-words : goal.returns-then-is_quote-clause-words
returns-then-is_quote-clause-words c = opened_between c.args.self.now.words.items c.args.self.now.word.items c.args.self.now.place c.args.byte
    c.requires.place (cc)

pub returns-then-is_blank-clause-words : goal.returns-then-is_blank-clause-words
returns-then-is_blank-clause-words c = passed c.args.self.now.words.items c.args.self.now.word.items c.args.self.now.place c.args.byte
    c.requires.place (cc) (cc)

pub returns-else-is_blank-clause-words : goal.returns-else-is_blank-clause-words
returns-else-is_blank-clause-words c =
    pushed_first c.push.result c.push.new.self.words.items c.args.self.now.words.items c.push.new.self.word.items c.args.self.now.word.items
    c.push.new.self.place c.args.self.now.place c.args.byte c.requires.place c.requires.word (cc) (cc)
    c.push.ensures.words c.push.ensures.word c.push.ensures.place
