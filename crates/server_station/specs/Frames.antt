-- What goes out of a step: the packets to their hosts, and the replies to the clients that wait for them.
use Rattle.std.specs.Prelude.{◌≡◌, Option, Some, None, List, [], ◌∷◌, ◌++◌}
use Rattle.ubik_calls.specs.declared.frames.Frame.TheVariants as frame
use Rattle.ubik_calls.specs.declared.replies.Reply.{Reply}
use Rattle.ubik_calls.specs.WireGrammar.{spelling}
use Rattle.cell_model.specs.declared.events.Output.{Output}
use Rattle.cell_model.specs.declared.events.Output.TheVariants as output
use Rattle.server_rounds.specs.declared.sendings.Sending.{Sending}
use Rattle.server_rounds.specs.declared.sendings.Sending.TheVariants as sending
use Rattle.server_station.specs.declared.askers.Asker.{Asker}
use Rattle.server_station.specs.Askers.{asker_of, without}

-- a reply goes to its client under the number that the client gave its call; nowhere, where none waits
abbrev pub answer_to : Option Asker → Reply → List Sending
answer_to None r = []
answer_to (Some a) r = sending.Answer a.peer (spelling (frame.Reply a.number r)) ∷ []

-- what goes out of one output; an announcement goes nowhere
abbrev pub sent_of : List Asker → Output → List Sending
sent_of askers (output.Send p) = sending.Packet p.to (spelling (frame.Packet p)) ∷ []
sent_of askers (output.Reply id r) = answer_to (asker_of id askers) r
sent_of askers (output.Announce version) = []

-- those that wait after it
abbrev pub left_by : List Asker → Output → List Asker
left_by askers (output.Send p) = askers
left_by askers (output.Reply id r) = without id askers
left_by askers (output.Announce version) = askers

-- what goes out of the outputs, in their order
abbrev pub frames_of : List Asker → List Output → List Sending
frames_of askers [] = []
frames_of askers (o ∷ outputs) = sent_of askers o ++ frames_of (left_by askers o) outputs

-- those that wait after them
abbrev pub askers_after : List Asker → List Output → List Asker
askers_after askers [] = askers
askers_after askers (o ∷ outputs) = askers_after (left_by askers o) outputs

-- What was sent is what goes out of the first so many outputs, and those that wait are those after them: then memory ran out.
pub record IsCut (askers : List Asker) (outputs : List Output) (sent : List Sending) (left : List Asker) : Type 0 where
  pub first : List Output
  pub rest : List Output
  pub outputs_are : outputs ≡ first ++ rest
  pub sent_is : sent ≡ frames_of askers first
  pub left_is : left ≡ askers_after askers first
