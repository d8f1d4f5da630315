-- The trace: the text of what is seen of a script, a line for each, in its order (own). Servers are counted from 1.
use Rattle.std.specs.Prelude.{◌≡◌, ℕ, ◌+◌, ◌==◌, IsSomeAnd, Bool, true, false, if◌then◌else◌, Option, Some, None, List, [], ◌∷◌, ◌++◌, codes, length}
use Rattle.std.specs.Fmt.{decimal}
use Rattle.std.specs.List.{flat_map}
use Rattle.ubik_types.specs.declared.hosts.Host.{Host}
use Rattle.ubik_types.specs.declared.versions.Version.{Version}
use Rattle.ubik_types.specs.declared.phases.Phase.{Phase}
use Rattle.ubik_types.specs.declared.phases.Phase.TheVariants as phases
use Rattle.ubik_types.specs.declared.phases.Applied.{Applied}
use Rattle.ubik_types.specs.declared.phases.Applied.TheVariants as applied
use Rattle.ubik_types.specs.Lease.{lease_end}
use Rattle.ubik_types.specs.Phase.{phase_of}
use Rattle.ubik_calls.specs.declared.packets.Packet.{Packet}
use Rattle.ubik_calls.specs.declared.packets.Body.{Body}
use Rattle.ubik_calls.specs.declared.packets.Body.TheVariants as body
use Rattle.ubik_calls.specs.declared.replies.Reply.{Reply}
use Rattle.ubik_calls.specs.declared.replies.Reply.TheVariants as reply
use Rattle.cell_model.specs.declared.events.Output.{Output}
use Rattle.cell_model.specs.declared.events.Output.TheVariants as output
use Rattle.cell_model.specs.Node.{Node, Down, Halted, Up, Server, HaltedServer}
use Rattle.cell_model.specs.NodeRule.{place_of}
use Rattle.cell_model.specs.Step.{Evaluation}
use Rattle.cell_model.specs.World.{Happening, Sent, Announced, Replied, Lost, Stops, Halts, Restarts, Stays_down, World, Site}
use Rattle.cell_script.specs.declared.lines.Why.{Why}
use Rattle.cell_script.specs.declared.lines.Why.TheVariants as why
use Rattle.cell_runs.specs.declared.endings.Which.{Which}
use Rattle.cell_runs.specs.declared.endings.Which.TheVariants as which
use Rattle.cell_runs.specs.declared.endings.Ending.{Ending}
use Rattle.cell_runs.specs.declared.endings.Ending.TheVariants.{Refused, Limit}
use Rattle.cell_runs.specs.declared.traces.Mark.{Mark}
use Rattle.cell_runs.specs.declared.traces.Mark.TheVariants as mark
use Rattle.cell_runs.specs.declared.traces.Showing.{Showing}
use Rattle.cell_runs.specs.ScriptDatabase.{ScriptDatabase}

-- what a line of a script tells: what is seen of its events, or the state of a server, which is no event
pub data TraceItem : Type 0 where
  Tells : (happening : Happening) → TraceItem
  Shows : (server clock : ℕ) → (showing : Option Showing) → TraceItem

-- a line is ended by an LF
abbrev pub line_text : List ℕ → List ℕ
line_text text = text ++ 10 ∷ []

abbrev pub server_text : ℕ → List ℕ
server_text k = decimal (k + 1)

abbrev pub number_in : Option ℕ → ℕ
number_in None = 0
number_in (Some k) = k + 1

-- the number of the server that has this host
abbrev pub host_text : List Host → Host → List ℕ
host_text hosts host = decimal (number_in (place_of hosts host))

abbrev pub version_text : Version → List ℕ
version_text v = decimal v.epoch ++ 46 ∷ decimal v.counter

abbrev pub phase_word : Phase → List ℕ
phase_word phases.None = codes "none"
phase_word phases.Poll = codes "poll"
phase_word phases.Fetch = codes "fetch"
phase_word phases.Relabel = codes "relabel"
phase_word phases.Send = codes "send"
phase_word phases.Ready = codes "ready"

abbrev pub applied_word : Applied → List ℕ
applied_word applied.No = codes "no"
applied_word applied.Unknown = codes "unknown"

-- the kind of a packet
abbrev pub kind_word : Body → List ℕ
kind_word (body.Beacon start claim ready version) = codes "beacon"
kind_word (body.Vote start granted) = if granted then codes "yes" else codes "no"
kind_word (body.GetVersion poll) = codes "getversion"
kind_word (body.VersionIs poll version) = codes "versionis"
kind_word (body.GetPiece poll version offset) = codes "getpiece"
kind_word (body.Piece poll version total offset bytes) = codes "piece"
kind_word (body.SendPiece poll version total offset bytes) = codes "sendpiece"
kind_word (body.PieceKept poll version next) = codes "piecekept"
kind_word (body.SetVersion poll old new) = codes "setversion"
kind_word (body.Begin old new pieces len) = codes "begin"
kind_word (body.PutPiece new number bytes) = codes "putpiece"
kind_word (body.Commit old new) = codes "commit"
kind_word (body.Abort new) = codes "abort"
kind_word (body.VersionKept version) = codes "versionkept"

-- the start, the poll or the version that a packet names
abbrev pub subject_text : Body → List ℕ
subject_text (body.Beacon start claim ready version) = version_text version
subject_text (body.Vote start granted) = decimal start
subject_text (body.GetVersion poll) = decimal poll
subject_text (body.VersionIs poll version) = version_text version
subject_text (body.GetPiece poll version offset) = version_text version
subject_text (body.Piece poll version total offset bytes) = version_text version
subject_text (body.SendPiece poll version total offset bytes) = version_text version
subject_text (body.PieceKept poll version next) = version_text version
subject_text (body.SetVersion poll old new) = version_text new
subject_text (body.Begin old new pieces len) = version_text new
subject_text (body.PutPiece new number bytes) = version_text new
subject_text (body.Commit old new) = version_text new
subject_text (body.Abort new) = version_text new
subject_text (body.VersionKept version) = version_text version

abbrev pub packet_text : List Host → ℕ → Packet → List ℕ
packet_text hosts number p =
    codes "packet " ++ decimal number ++ 32 ∷ host_text hosts p.from ++ 62 ∷ host_text hosts p.to
    ++ 32 ∷ kind_word p.body ++ 32 ∷ subject_text p.body

-- the words of an answer, each behind a blank
abbrev pub fields_text : List (List ℕ) → List ℕ
fields_text words = flat_map (λ word. 32 ∷ word) words

abbrev pub answer_text : ScriptDatabase → List ℕ → Option Evaluation → List ℕ
answer_text script_db answer None = []
answer_text script_db answer (Some e) = fields_text (script_db.words.answer_of e.call answer)

-- A reply behind the number of its call and its server. A call that a script can write is never malformed, and an image of a cell
-- is never bad; want of memory ends a run.
abbrev pub reply_text : ScriptDatabase → List Host → Reply → Option Evaluation → List ℕ
reply_text script_db hosts (reply.Ok answer) e = codes " ok" ++ answer_text script_db answer e
reply_text script_db hosts (reply.Rule number) e = codes " rule " ++ decimal number
reply_text script_db hosts (reply.NoQuorum now until phase a) e =
    codes " noquorum " ++ decimal until ++ 32 ∷ phase_word phase ++ 32 ∷ applied_word a
reply_text script_db hosts (reply.NotSync host heard) e = codes " notsync " ++ host_text hosts host
reply_text script_db hosts (reply.LineFull holder) e = codes " linefull " ++ decimal holder
reply_text script_db hosts (reply.TooLarge bytes) e = codes " toolarge " ++ decimal bytes
reply_text script_db hosts reply.Malformed e = codes " malformed"
reply_text script_db hosts reply.DiskFault e = codes " diskfault"
reply_text script_db hosts (reply.BadRecord at) e = codes " badrecord " ++ decimal at
reply_text script_db hosts reply.NoMemory e = codes " nomemory"

abbrev pub happening_text : ScriptDatabase → List Host → Happening → List ℕ
happening_text script_db hosts (Sent number p) = packet_text hosts number p
happening_text script_db hosts (Announced k version) = codes "announce " ++ server_text k ++ 32 ∷ version_text version
happening_text script_db hosts (Replied k id r e) =
    codes "reply " ++ decimal id ++ 32 ∷ server_text k ++ reply_text script_db hosts r e
happening_text script_db hosts (Lost number) = codes "lost " ++ decimal number
happening_text script_db hosts (Stops k) = codes "stopped " ++ server_text k
happening_text script_db hosts (Halts k) = codes "halted " ++ server_text k
happening_text script_db hosts (Restarts k version) = codes "restarted " ++ server_text k ++ 32 ∷ version_text version
happening_text script_db hosts (Stays_down k) = codes "restarted " ++ server_text k ++ codes " diskfault"

abbrev pub showing_text : Option Showing → List ℕ
showing_text None = codes " down"
showing_text (Some s) =
    codes " version " ++ version_text s.version ++ codes " phase " ++ phase_word s.phase
    ++ codes " until " ++ decimal s.until ++ codes " length " ++ decimal s.len

abbrev pub item_text : ScriptDatabase → List Host → TraceItem → List ℕ
item_text script_db hosts (Tells h) = line_text (happening_text script_db hosts h)
item_text script_db hosts (Shows k clock s) =
    line_text (codes "show " ++ server_text k ++ codes " clock " ++ decimal clock ++ showing_text s)

-- the text of what was told
abbrev pub trace : ScriptDatabase → List Host → List TraceItem → List ℕ
trace script_db hosts items = flat_map (item_text script_db hosts) items

abbrev pub why_word : Why → List ℕ
why_word why.Syntax = codes "syntax"
why_word why.Number = codes "number"
why_word why.Cell = codes "cell"
why_word why.Server = codes "server"
why_word why.State = codes "state"
why_word why.Packet = codes "packet"
why_word why.Skew = codes "skew"

abbrev pub which_word : Which → List ℕ
which_word which.Lines = codes "lines"
which_word which.Packets = codes "packets"
which_word which.PacketBytes = codes "packetbytes"

-- the last line of a trace, of a script that ended at this line
abbrev pub ending_text : ℕ → Ending → List ℕ
ending_text line (Refused w) = line_text (codes "refused line " ++ decimal line ++ 32 ∷ why_word w)
ending_text line (Limit w) = line_text (codes "limit line " ++ decimal line ++ 32 ∷ which_word w)

-- what is seen beside outputs
abbrev pub seen_of_mark : Mark → Happening
seen_of_mark (mark.Lost packet) = Lost packet
seen_of_mark (mark.Stops server) = Stops server
seen_of_mark (mark.Halts server) = Halts server
seen_of_mark (mark.Restarts server version) = Restarts server version
seen_of_mark (mark.StaysDown server) = Stays_down server

-- the text of a mark, which names no host and no call
abbrev pub mark_text : Mark → List ℕ
mark_text (mark.Lost packet) = line_text (codes "lost " ++ decimal packet)
mark_text (mark.Stops server) = line_text (codes "stopped " ++ server_text server)
mark_text (mark.Halts server) = line_text (codes "halted " ++ server_text server)
mark_text (mark.Restarts server version) = line_text (codes "restarted " ++ server_text server ++ 32 ∷ version_text version)
mark_text (mark.StaysDown server) = line_text (codes "restarted " ++ server_text server ++ codes " diskfault")

-- the text of marks, one after the other
abbrev pub marks_text : List Mark → List ℕ
marks_text marks = flat_map mark_text marks

-- the evaluation behind an Ok is of this call
abbrev pub FitsReply : Reply → List ℕ → Option Evaluation → Type 0
FitsReply (reply.Ok answer) call e = IsSomeAnd e (λ evaluation. evaluation.call ≡ call)
FitsReply _ call e = Unit {0}

abbrev pub FitsCall : Output → List ℕ → Option Evaluation → Type 0
FitsCall (output.Reply id r) call e = FitsReply r call e
FitsCall _ call e = Unit {0}

-- whether a disk fault or a stop of a server is seen
abbrev pub is_fault_of : ℕ → Happening → Bool
is_fault_of k (Stops server) = server == k
is_fault_of k (Halts server) = server == k
is_fault_of k (Stays_down server) = server == k
is_fault_of k _ = false

-- how many of a server are told
abbrev pub fault_count : ℕ → List TraceItem → ℕ
fault_count k [] = 0
fault_count k (Tells h ∷ items) = (if is_fault_of k h then 1 else 0) + fault_count k items
fault_count k (Shows server clock showing ∷ items) = fault_count k items
