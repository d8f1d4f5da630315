use Rattle.command_lines.proofs.Cutting.{quote_ended, pushed_quoted}
use Rattle.command_lines.proofs.cuts.Cutting.take_quoted.Goals as goal

pub returns-then-is_quote-clause-words : goal.returns-then-is_quote-clause-words
returns-then-is_quote-clause-words c = quote_ended c.args.self.now.words.items c.args.self.now.word.items c.args.self.now.place c.args.byte
    c.requires (cc)

pub returns-else-is_quote-clause-words : goal.returns-else-is_quote-clause-words
returns-else-is_quote-clause-words c =
    pushed_quoted c.push.result c.push.new.self.words.items c.args.self.now.words.items c.push.new.self.word.items c.args.self.now.word.items
    c.push.new.self.place c.args.self.now.place c.args.byte c.requires (cc)
    c.push.ensures.words c.push.ensures.word c.push.ensures.place
