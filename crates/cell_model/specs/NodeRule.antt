-- The rule of a server that is up: what an event makes of it at a moment, which durable calls it makes, and what it shows
-- (Kazar, "Ubik"; own where that leaves a choice). Two choices are free: `short`, which calls found no
-- memory; and, at a server whose image holds no state of its database, what a call makes of that image.
use Rattle.std.specs.Prelude.{ℕ, ◌==◌, Bool, Option, Some, None, List, [], ◌∷◌, position}
use Rattle.ubik_types.specs.declared.hosts.Host.{Host}
use Rattle.ubik_calls.specs.declared.packets.Packet.{Packet}
use Rattle.ubik_calls.specs.declared.packets.Body.{Body}
use Rattle.ubik_calls.specs.declared.packets.Body.TheVariants as body
use Rattle.ubik_calls.specs.declared.replies.Reply.TheVariants as reply
use Rattle.db_image.specs.Database.{Database}
use Rattle.cell_model.specs.declared.events.NodeEvent.{NodeEvent}
use Rattle.cell_model.specs.declared.events.NodeEvent.TheVariants as event
use Rattle.cell_model.specs.Asks.{asked}
use Rattle.cell_model.specs.Evaluating.{Databases, always}
use Rattle.cell_model.specs.Lapse.{lapsed}
use Rattle.cell_model.specs.Node.{Server}
use Rattle.cell_model.specs.Receiver.{set_version_received, send_piece_received, begin_received, put_piece_received, commit_received, abort_received, get_version_received, get_piece_received}
use Rattle.cell_model.specs.Recovery.{recovery_turn, version_is_received, version_kept_received, piece_kept_received, piece_received}
use Rattle.cell_model.specs.Step.{Member, Shown, Stepped, quiet, followed, refusing, is_short, short_after}
use Rattle.cell_model.specs.Voting.{beacon_turn, beacon_received, vote_received}

-- a packet of server k, whose host this is: one rule for each kind
abbrev pub received_from : Databases → Member → Server → ℕ → Host → ℕ → Body → List Bool → Stepped
received_from dbs m s now host k (body.Beacon start claim ready version) short =
    beacon_received m s now host k start claim ready version
received_from dbs m s now host k (body.Vote start granted) short = vote_received m s k start granted
received_from dbs m s now host k (body.GetVersion poll) short = get_version_received m s host poll
received_from dbs m s now host k (body.VersionIs poll version) short =
    version_is_received dbs m s now host k poll version short s.phase
received_from dbs m s now host k (body.GetPiece poll version offset) short = get_piece_received m s host poll version offset
received_from dbs m s now host k (body.Piece poll version total offset bytes) short =
    piece_received m s now k poll version total offset bytes s.phase
received_from dbs m s now host k (body.SendPiece poll version total offset bytes) short =
    send_piece_received m s host k poll version total offset bytes
received_from dbs m s now host k (body.PieceKept poll version next) short = piece_kept_received m s host version next s.phase
received_from dbs m s now host k (body.SetVersion poll old new) short = set_version_received m s host poll old new
received_from dbs m s now host k (body.Begin old new pieces len) short = begin_received s old new pieces len
received_from dbs m s now host k (body.PutPiece new number bytes) short = put_piece_received s new number bytes
received_from dbs m s now host k (body.Commit old new) short = commit_received m s host old new
received_from dbs m s now host k (body.Abort new) short = abort_received s new
received_from dbs m s now host k (body.VersionKept version) short = version_kept_received dbs m s now k version short s.phase

-- the place of a host
abbrev pub place_of : List Host → Host → Option ℕ
place_of hosts host = position (λ (other : Host). other.0 == host.0) hosts

-- a packet of a host that is not of the cell is nothing
abbrev pub received_packet : Databases → Member → Server → ℕ → Packet → List Bool → Option ℕ → Stepped
received_packet dbs m s now p short None = quiet s
received_packet dbs m s now p short (Some k) = received_from dbs m s now p.from k p.body short

-- what an event makes of a server after the lapse
abbrev pub handled : Databases → Member → Server → ℕ → NodeEvent → List Bool → Stepped
handled dbs m s now (event.Packet p) short = received_packet dbs m s now p short (place_of m.hosts p.from)
handled dbs m s now event.BeaconTurn short = beacon_turn m s now
handled dbs m s now event.RecoverTurn short = recovery_turn m s now
handled dbs m s now (event.Ask id call) short = asked (dbs 0) m s now id call (is_short short)

-- One step: the lapse first, then the event. `short` says of each reply of the step, in their order, whether its call found no
-- memory; `dbs` says which database evaluates each call, in their order.
unfoldable pub step_by : Databases → Member → Server → ℕ → NodeEvent → List Bool → Stepped
step_by dbs m s now e short =
    let t = lapsed m s now in followed t (λ after. handled dbs m after now e (short_after t.shown short))

-- One step of a server of the world: each call is evaluated as its database has it.
abbrev pub step_of : Database → Member → Server → ℕ → NodeEvent → List Bool → Stepped
step_of db m s now e short = step_by (always db) m s now e short

-- what a server shows whose disk failed, in that step and later
abbrev pub refusals : NodeEvent → List Shown
refusals (event.Packet p) = []
refusals event.BeaconTurn = []
refusals event.RecoverTurn = []
refusals (event.Ask id call) = refusing id reply.DiskFault ∷ []
