use Rattle.std.proofs.Common.{refl, arith, ◌∙◌}
use Rattle.ubik_calls.specs.Fields.{field_spelling, spelled}
use Rattle.tool_base.specs.declared.stops.Stop.TheVariants as stop
use Rattle.tool_base.proofs.Walking.{ran_err, ran_none}
use Rattle.udebug_tool.specs.Looking.{looks_at}
use Rattle.udebug_tool.proofs.Asked.{looked, looked_short, was_asked}
use Rattle.udebug_tool.proofs.hearing.look_at.Goals as goal

pub encode-requires : goal.encode-requires
unfolding spelled field_spelling
encode-requires g c = record { bounded = (tt, (tt, tt)); bound = omega arith }

pub returns-in_err-frame : goal.returns-in_err-frame
returns-in_err-frame g c = ran_none (looks_at c.args.host) _ _ c.from_residual.result c.from_residual.ensures.1

pub returns-in_err-seen : goal.returns-in_err-seen
returns-in_err-seen g c =
    let grown = was_asked c.args.host c.args.client.now c.count.new.self (g.L.Link.exchanges c.args.link.now) (g.L.Link.exchanges c.ask-answer.new.self) c.port.result c.number-number.result c.as_slice.result.now c.ask-answer.result c.ask-answer.new.reply.items
    c.count.ensures c.port.ensures c.number-number.ensures (c.as_slice.ensures ∙ c.in_ok-frame.ensures) c.ask-answer.ensures.exchanged in
    ran_err stop.NoMemory c.from_residual-in_err-seen.result c.from_residual-in_err-seen.ensures.1
    (looked_short c.args.host c.args.client.now c.count.new.self _ _ c.ask-answer.result c.ask-answer.new.reply.items grown)

pub returns : goal.returns
returns g c =
    looked c.args.host c.args.client.now c.count.new.self (g.L.Link.exchanges c.args.link.now) (g.L.Link.exchanges c.ask-answer.new.self) c.port.result c.number-number.result c.as_slice.result.now c.ask-answer.result c.ask-answer.new.reply.items c.in_ok-seen.seen
    c.count.ensures c.port.ensures c.number-number.ensures (c.as_slice.ensures ∙ c.in_ok-frame.ensures) c.ask-answer.ensures.exchanged
    (c.in_ok-seen.ensures.short refl) (rw (← c.as_slice-2.ensures.value) c.in_ok-seen.ensures.seen)
