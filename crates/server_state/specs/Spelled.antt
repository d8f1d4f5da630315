-- Outputs that have a spelling on the wire.
use Rattle.std.specs.Prelude.{ℕ, ◌<◌, ◌^◌, List}
use Rattle.std.specs.List.{All}
use Rattle.ubik_calls.specs.declared.frames.Frame.TheVariants as frame
use Rattle.ubik_calls.specs.declared.replies.Reply.{Reply}
use Rattle.ubik_calls.specs.WireGrammar.{HasSpelling}
use Rattle.cell_model.specs.declared.events.Output.{Output}
use Rattle.cell_model.specs.declared.events.Output.TheVariants as output

-- a reply has a spelling whatever number its client asked under
abbrev pub IsSpelledReply : Reply → Type 0
IsSpelledReply r = (number : ℕ) → number < 2 ^ 32 → HasSpelling (frame.Reply number r)

-- what is announced goes to nobody
abbrev pub IsSpelled : Output → Type 0
IsSpelled (output.Send p) = HasSpelling (frame.Packet p)
IsSpelled (output.Reply id r) = IsSpelledReply r
IsSpelled (output.Announce version) = Unit {0}

abbrev pub AreSpelled : List Output → Type 0
AreSpelled outputs = All IsSpelled outputs
