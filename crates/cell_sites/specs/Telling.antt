-- What is told of the outputs of a step, one after the other, up to a packet that passes a limit.
use Rattle.std.specs.Prelude.{◌≡◌, ℕ, ◌+◌, ◌++◌, Bool, if◌then◌else◌, Option, Some, None, List, [], ◌∷◌, length, map}
use Rattle.ubik_types.specs.declared.hosts.Host.{Host}
use Rattle.ubik_calls.specs.declared.packets.Packet.{Packet}
use Rattle.ubik_calls.specs.declared.replies.Reply.TheVariants as reply
use Rattle.ubik_calls.specs.Length.{HasShortBytes, packet_length}
use Rattle.cell_model.specs.declared.events.Output.{Output}
use Rattle.cell_model.specs.declared.events.Output.TheVariants as output
use Rattle.cell_model.specs.Step.{Shown}
use Rattle.cell_model.specs.World.{Happening, Halts, packet_of, seen_of_output}
use Rattle.cell_runs.specs.declared.endings.Ending.{Ending}
use Rattle.cell_runs.specs.ScriptDatabase.{ScriptDatabase}
use Rattle.cell_runs.specs.Script.{bytes_of, passed_by}
use Rattle.cell_runs.specs.Trace.{Tells, item_text, trace}

-- the text so far, and the packets that were sent so far
pub record Telling : Type 0 where
  pub text : List ℕ
  pub sent : List Packet

-- a text and packets, and the limit that ended the telling, if one did
pub record TellingRun : Type 0 where
  pub after : Telling
  pub ending : Option Ending

-- the limit that the next packet passes, after these
abbrev pub passed_after : List Packet → Option Packet → Option Ending
passed_after sent None = None
passed_after sent (Some p) = passed_by (length sent + 1) (bytes_of sent + packet_length p)

abbrev pub passed_in : Telling → Option Packet → Option Ending
passed_in t packet = passed_after t.sent packet

abbrev pub sent_with : List Packet → Option Packet → List Packet
sent_with sent None = sent
sent_with sent (Some p) = sent ++ p ∷ []

-- with what server k shows next
abbrev pub with_shown : ScriptDatabase → List Host → ℕ → Telling → Shown → Telling
with_shown script_db hosts k t one =
    record {
      text = t.text ++ item_text script_db hosts (Tells (seen_of_output k (length t.sent + 1) one.output one.evaluation));
      sent = sent_with t.sent (packet_of one);
    }

abbrev pub unless_passed : Telling → Option Ending → TellingRun → TellingRun
unless_passed t None rest = rest
unless_passed t (Some ending) rest = record { after = t; ending = Some ending }

-- what is told of all that server k shows
abbrev pub told_of : ScriptDatabase → List Host → ℕ → Telling → List Shown → TellingRun
told_of script_db hosts k t [] = record { after = t; ending = None }
told_of script_db hosts k t (one ∷ shown) =
    unless_passed t (passed_in t (packet_of one)) (told_of script_db hosts k (with_shown script_db hosts k t one) shown)

-- an output that may be told: a packet has pieces that are no longer than the longest
abbrev pub MayBeTold : Output → Type 0
MayBeTold (output.Send packet) = HasShortBytes packet.body
MayBeTold _ = Unit {0}

abbrev pub IsNotShort : Output → Type 0
IsNotShort (output.Reply id reply.NoMemory) = ⊥
IsNotShort _ = Unit {0}

-- what is seen behind the outputs of a step: whether its server was halted
abbrev pub halt_marks : ℕ → Bool → List Happening
halt_marks k halts = if halts then Halts k ∷ [] else []

-- all of a step was told: its outputs, and then whether its server was halted
pub record WholeTold (script_db : ScriptDatabase) (hosts : List Host) (k : ℕ) (halts : Bool) (t : Telling) (shown : List Shown)
    (text_after : List ℕ)
    (sent_after : List Packet) : Type 0 where
  pub text : List ℕ
  pub told : told_of script_db hosts k t shown ≡ record { after = record { text = text; sent = sent_after }; ending = None }
  pub marked : text_after ≡ text ++ trace script_db hosts (map Tells (halt_marks k halts))
