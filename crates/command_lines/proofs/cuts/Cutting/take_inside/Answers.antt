use Rattle.command_lines.proofs.Cutting.{opened_inside, closed_inside, pushed_inside}
use Rattle.command_lines.proofs.cuts.Cutting.take_inside.Goals as goal

pub returns-then-is_quote-clause-words : goal.returns-then-is_quote-clause-words
returns-then-is_quote-clause-words c = opened_inside c.args.self.now.words.items c.args.self.now.word.items c.args.self.now.place c.args.byte
    c.requires (cc)

pub returns-then-is_blank-clause-words : goal.returns-then-is_blank-clause-words
returns-then-is_blank-clause-words c =
    closed_inside c.close.result c.close.new.self.words.items c.args.self.now.words.items c.close.new.self.word.items c.args.self.now.word.items
    c.close.new.self.place c.args.self.now.place c.args.byte c.requires (cc) (cc)
    c.close.ensures.words c.close.ensures.word c.close.ensures.place

pub returns-else-is_blank-clause-words : goal.returns-else-is_blank-clause-words
returns-else-is_blank-clause-words c =
    pushed_inside c.push.result c.push.new.self.words.items c.args.self.now.words.items c.push.new.self.word.items c.args.self.now.word.items
    c.push.new.self.place c.args.self.now.place c.args.byte c.requires (cc) (cc)
    c.push.ensures.words c.push.ensures.word c.push.ensures.place
