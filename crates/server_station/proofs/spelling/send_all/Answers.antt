use Rattle.server_station.proofs.Sending.{sent_more}
use Rattle.server_station.proofs.spelling.send_all.Goals as goal

pub loop-output-preserved : goal.loop-output-preserved
loop-output-preserved c =
    sent_more c.args.askers.now c.loop-output.askers c.send.new.askers c.args.outputs.now c.loop-output.outputs c.take.new.self
    c.in-Some.output c.loop-output.out c.send.new.out
    c.loop-output.invariant c.in-Some.ensures.first c.in_ok-send.ensures.sent c.in_ok-send.ensures.left
