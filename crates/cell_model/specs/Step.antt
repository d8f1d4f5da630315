-- What a step of a server gives: the server after it, its durable calls, and what it shows (own).
use Rattle.std.specs.Prelude.{ℕ, ◌+◌, Bool, true, false, ◌==◌, if◌then◌else◌, Option, Some, None, List, [], ◌∷◌, ◌++◌, length, map, drop, count_by, slice_get, unwrap_or}
use Rattle.ubik_types.specs.declared.hosts.Host.{Host}
use Rattle.ubik_types.specs.declared.versions.Version.{Version}
use Rattle.ubik_calls.specs.declared.packets.Packet.{Packet}
use Rattle.ubik_calls.specs.declared.packets.Body.{Body}
use Rattle.ubik_calls.specs.declared.replies.Reply.{Reply}
use Rattle.ubik_types.specs.Lease.{is_in_lease}
use Rattle.ubik_types.specs.Phase.{PhaseRecord, Fetch, Ready}
use Rattle.cell_model.specs.declared.events.Output.{Output}
use Rattle.cell_model.specs.declared.events.Output.TheVariants as output
use Rattle.cell_model.specs.Durable.{Made}
use Rattle.cell_model.specs.Node.{Server}

-- a server of a cell: the hosts of the cell, ascending, and its own place among them
pub record Member : Type 0 where
  pub hosts : List Host
  pub me : ℕ

-- how many servers the cell has
abbrev pub cell_size : Member → ℕ
cell_size m = length m.hosts

-- on what a call was evaluated
pub data Basis : Type 0 where
  -- the announced image of the sync site, of this version
  Announced_image : (version : Version) → Basis
  -- the own image of another server, of this version, which a ready beacon named that it keeps
  Beacon_image : (version : Version) → Basis
  -- the announced image of the sync site, of the old version, by a commit that made the new one
  Commit_on : (old new : Version) → Basis

-- a call that was evaluated: when, and on what
pub record Evaluation : Type 0 where
  pub call : List ℕ
  pub moment : ℕ
  pub basis : Basis

-- what is put out, and, of a reply that a database gave, the evaluation behind it
pub record Shown : Type 0 where
  pub output : Output
  pub evaluation : Option Evaluation

-- the server after a step, its durable calls in their order, and what it shows
pub record Stepped : Type 0 where
  pub server : Server
  pub calls : List Made
  pub shown : List Shown

-- what is put out of it
abbrev pub outputs_of : List Shown → List Output
outputs_of shown = map (λ (one : Shown). one.output) shown

-- a step that shows this, and changes nothing that is durable
abbrev pub showing : Server → List Shown → Stepped
showing s shown = record { server = s; calls = []; shown = shown }

-- a step that shows nothing, and changes nothing that is durable
abbrev pub quiet : Server → Stepped
quiet s = showing s []

-- a step, and then the next
abbrev pub followed : Stepped → (Server → Stepped) → Stepped
followed t next =
    let u = next t.server in
    record { server = u.server; calls = t.calls ++ u.calls; shown = t.shown ++ u.shown }

abbrev pub leased : Member → Server → ℕ → Bool
leased m s now = is_in_lease (cell_size m) s.starts now

abbrev pub is_ready : PhaseRecord → Bool
is_ready (Ready _ _ _) = true
is_ready _ = false

abbrev pub is_fetch : PhaseRecord → Bool
is_fetch (Fetch _ _ _) = true
is_fetch _ = false

-- the version that is announced, or else the own one
abbrev pub told_version : PhaseRecord → Version → Version
told_version (Ready poll spread announced) own = announced
told_version _ own = own

-- another phase record; where a fetch begins or ends, the received text is emptied
abbrev pub with_phase : Server → PhaseRecord → Server
with_phase s phase =
    record s { phase = phase; received = if is_fetch s.phase then None else (if is_fetch phase then None else s.received) }

-- another version and image; a kept write and the received text are dropped
abbrev pub with_database : Server → Version → List ℕ → Server
with_database s version image = record s { version = version; image = image; kept = None; received = None }

-- the host at a place
abbrev pub host_at : List Host → ℕ → Host
host_at hosts k = unwrap_or (slice_get hosts k) (record { 0 = 0 })

abbrev pub packet_to : Member → Host → Body → Packet
packet_to m host body = record { from = host_at m.hosts m.me; to = host; body = body }

abbrev pub sent : Packet → Shown
sent packet = record { output = output.Send packet; evaluation = None }

-- one packet to one host
abbrev pub sends_to : Member → Host → Body → List Shown
sends_to m host body = sent (packet_to m host body) ∷ []

-- packets to each server from place k on, in their order, but to the own one: of each those that its place has
abbrev pub sends_from : Member → ℕ → List Host → (ℕ → List Body) → List Shown
sends_from m k [] bodies = []
sends_from m k (host ∷ hosts) bodies =
    (if k == m.me then [] else map (λ (body : Body). sent (packet_to m host body)) (bodies k)) ++ sends_from m (k + 1) hosts bodies

-- packets to each other server, ascending
abbrev pub sends_to_each : Member → (ℕ → List Body) → List Shown
sends_to_each m bodies = sends_from m 0 m.hosts bodies

-- the same packet to each other server
abbrev pub sends_to_all : Member → Body → List Shown
sends_to_all m body = sends_to_each m (λ k. body ∷ [])

abbrev pub announcing : Version → Shown
announcing version = record { output = output.Announce version; evaluation = None }

-- a reply that no database gave
abbrev pub refusing : ℕ → Reply → Shown
refusing id r = record { output = output.Reply id r; evaluation = None }

-- a reply that a database gave
abbrev pub replying : ℕ → Reply → Evaluation → Shown
replying id r evaluation = record { output = output.Reply id r; evaluation = Some evaluation }

-- Of the replies of a step, counted in their order, `short` says which found no memory. It counts only where a call is
-- evaluated or put into the line of those that wait.
abbrev pub is_short : List Bool → Bool
is_short [] = false
is_short (first ∷ _) = first

abbrev pub is_reply : Output → Bool
is_reply (output.Reply id r) = true
is_reply _ = false

-- the choices for the replies behind these
abbrev pub short_after : List Shown → List Bool → List Bool
short_after shown short = drop (count_by (λ (one : Shown). is_reply one.output) shown) short
