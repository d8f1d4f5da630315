-- What is said of the packets that a step puts out (own).
use Rattle.std.specs.Prelude.{List, [], ◌∷◌}
use Rattle.ubik_calls.specs.declared.packets.Body.{Body}
use Rattle.ubik_calls.specs.declared.packets.Packet.{Packet}
use Rattle.cell_model.specs.declared.events.Output.{Output}
use Rattle.cell_model.specs.declared.events.Output.TheVariants as output
use Rattle.cell_model.specs.Step.{Shown}

abbrev pub OutputSays : (Body → Type 0) → Output → Type 0
OutputSays P (output.Send packet) = P packet.body
OutputSays P _ = Unit {0}

-- so of each packet that is shown
abbrev pub AllSay : (Body → Type 0) → List Shown → Type 0
AllSay P [] = Unit {0}
AllSay P (one ∷ shown) = OutputSays P one.output × AllSay P shown

-- so of each packet that was sent
abbrev pub AllPackets : (Body → Type 0) → List Packet → Type 0
AllPackets P [] = Unit {0}
AllPackets P (p ∷ packets) = P p.body × AllPackets P packets
