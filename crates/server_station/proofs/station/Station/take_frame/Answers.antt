use Rattle.std.proofs.Common.{rules, ◌≡◌, Result, Ok, max, sym, subst}
use Rattle.ubik_calls.specs.declared.frames.Frame.{Frame}
use Rattle.ubik_calls.specs.declared.frames.Frame.TheVariants as frames
use Rattle.ubik_calls.specs.declared.frames.FrameFault.{FrameFault}
use Rattle.ubik_calls.specs.Reading.{frame_of}
use Rattle.ubik_node.specs.Node.{own_member}
use Rattle.server_journal.specs.Counts.{asks_of}
use Rattle.server_station.specs.Turns.{Turned, act_of_frame, seen}
use Rattle.server_station.proofs.Asking.{asked_next}
use Rattle.server_station.proofs.Fitting.{ask_framed, ask_short, packet_framed}
use Rattle.server_station.proofs.station.Station.take_frame.Goals as goal

pub step_for-requires-in-Ok-Ask-clause-fit : goal.step_for-requires-in-Ok-Ask-clause-fit
step_for-requires-in-Ok-Ask-clause-fit g c = ask_short c.in-Ok-Ask.number c.in-Ok-Ask.call (search rules)

pub step_for-requires-in-Ok-Ask-clause-framed : goal.step_for-requires-in-Ok-Ask-clause-framed
step_for-requires-in-Ok-Ask-clause-framed g c = ask_framed c.next_id-id.result c.in-Ok-Ask.number c.in-Ok-Ask.call (search rules)

pub step_for-requires-clause-framed : goal.step_for-requires-clause-framed
step_for-requires-clause-framed g c = packet_framed c.in-Ok-Packet.packet (search rules)

pub returns-in-Ok-Ask-clause-turned : goal.returns-in-Ok-Ask-clause-turned
returns-in-Ok-Ask-clause-turned g c =
    let was = c.args.self.now in
    let is = c.step_for-in-Ok-Ask.new.self in
    let items = g.J.Keeper.items was.recorded.journal in
    let now = max was.recorded.node.last c.args.now in
    let before = seen was.recorded.node items was.askers was.recorded.past.outputs.value in
    let after = seen is.recorded.node (g.J.Keeper.items is.recorded.journal) is.askers is.recorded.past.outputs.value in
    let P : Result Frame FrameFault → Type 0 =
    λ r. Turned g.D.Disk g.V.DraftService.standing (g.J.Keeper.limits was.recorded.journal)
    (act_of_frame (own_member was.recorded.node) (asks_of items) c.args.peer r) now before after c.step_for-in-Ok-Ask.new.out
    c.step_for-in-Ok-Ask.result in
    let exact : frame_of c.args.frame.now ≡ Ok (frames.Ask c.in-Ok-Ask.number c.in-Ok-Ask.call) = search rules in
    subst P (sym exact)
    (asked_next g.D.Disk g.V.DraftService.standing
    (g.J.Keeper.limits was.recorded.journal) c.in-Ok-Ask.call c.args.peer c.in-Ok-Ask.number now
    c.next_id-id.result before after c.step_for-in-Ok-Ask.new.out c.step_for-in-Ok-Ask.result c.next_id-id.ensures
    c.step_for-in-Ok-Ask.ensures.turned)
