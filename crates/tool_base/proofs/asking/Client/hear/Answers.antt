use Rattle.std.proofs.Common.{ap, refl}
use Rattle.tool_base.specs.Course.{Asker}
use Rattle.tool_base.proofs.Listening.{hears_answer, hears_short}
use Rattle.tool_base.proofs.asking.Client.hear.Goals as goal

pub returns-in-Ok : goal.returns-in-Ok
returns-in-Ok g c =
    let port = ap (λ (a : Asker). a.port) c.self.view_is in
    let number = ap (λ (a : Asker). a.number) c.self.view_is in
    hears_answer c.args.host c.args.frame.now c.args.self.now (g.L.Link.exchanges c.args.link.now)
    (g.L.Link.exchanges c.ask-answer.new.self)
    c.ask-answer.result c.ask-answer.new.reply.items c.in-Ok.heard (rw (← port) c.ask-answer.ensures.exchanged) (c.in-Ok.ensures.short refl)
    (rw (← number, ← c.as_slice.ensures.value) c.in-Ok.ensures.heard)

pub returns-in-Err : goal.returns-in-Err
returns-in-Err g c =
    let port = ap (λ (a : Asker). a.port) c.self.view_is in
    hears_short c.args.host c.args.frame.now c.args.self.now (g.L.Link.exchanges c.args.link.now) (g.L.Link.exchanges c.ask-answer.new.self)
    c.ask-answer.result c.ask-answer.new.reply.items (rw (← port) c.ask-answer.ensures.exchanged)
