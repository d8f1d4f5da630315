-- Ask: where a call is served, and what its client is told else (Kazar, "Ubik"; reads by a kept ready beacon are own).
use Rattle.std.specs.Prelude.{ℕ, ◌+◌, ◌==◌, ◌&&◌, nat_le, Bool, false, if◌then◌else◌, Option, Some, None, List, [], ◌∷◌, ◌++◌, length}
use Rattle.lock_table.specs.declared.tables.TheConstants.{MAX_WAITING}
use Rattle.ubik_types.specs.declared.limits.TheConstants.{SMALLTIME}
use Rattle.ubik_types.specs.declared.versions.Version.{Version}
use Rattle.ubik_types.specs.declared.phases.Applied.TheVariants as applied
use Rattle.ubik_types.specs.Version.{version_eq}
use Rattle.ubik_types.specs.Votes.{sync_heard}
use Rattle.ubik_types.specs.Phase.{phase_of}
use Rattle.ubik_calls.specs.declared.replies.Reply.{Reply}
use Rattle.ubik_calls.specs.declared.replies.Reply.TheVariants as reply
use Rattle.db_image.specs.declared.services.CallReply.{CallReply}
use Rattle.db_image.specs.declared.services.CallReply.TheVariants as call_reply
use Rattle.db_image.specs.Database.{Database}
use Rattle.cell_model.specs.Node.{Server, ReadyBeacon, Flight}
use Rattle.cell_model.specs.Lapse.{no_quorum}
use Rattle.cell_model.specs.Step.{Member, Basis, Announced_image, Beacon_image, Evaluation, Shown, Stepped, showing, leased, is_ready, told_version, host_at, refusing, replying}
use Rattle.cell_model.specs.Writes.{announced_image, write_turn}

-- what a database replies to a call that reads
abbrev pub read_reply : ℕ → Evaluation → CallReply → Shown
read_reply id e (call_reply.Done answer) = replying id (reply.Ok answer) e
read_reply id e (call_reply.Rule number) = replying id (reply.Rule number) e
read_reply id e call_reply.Malformed = refusing id reply.Malformed
read_reply id e (call_reply.BadRecord at) = refusing id (reply.BadRecord at)

-- a call that reads an image
abbrev pub read : Database → Server → ℕ → ℕ → List ℕ → List ℕ → Basis → Bool → Stepped
read db s now id call image basis short =
    if short then showing s (refusing id reply.NoMemory ∷ [])
    else showing s (read_reply id (record { call = call; moment = now; basis = basis }) (db.call image now call).reply ∷ [])

-- a call waits behind the write in flight, where the line has room
abbrev pub put_into_line : Server → ℕ → List ℕ → Bool → Flight → Stepped
put_into_line s id call short f =
    if nat_le MAX_WAITING (length s.waiting) then showing s (refusing id (reply.LineFull f.id) ∷ [])
    else (if short then showing s (refusing id reply.NoMemory ∷ [])
    else showing (record s { waiting = s.waiting ++ record { id = id; call = call } ∷ [] }) [])

abbrev pub write_asked : Database → Member → Server → ℕ → ℕ → List ℕ → Bool → Option Flight → Stepped
write_asked db m s now id call short None = write_turn db m s now id call short
write_asked db m s now id call short (Some f) = put_into_line s id call short f

-- Sync site: a call that reads is answered from the announced image; one that writes has its turn, or waits.
abbrev pub served : Database → Member → Server → ℕ → ℕ → List ℕ → Bool → Bool → Stepped
served db m s now id call writes short =
    if writes then write_asked db m s now id call short s.flight
    else read db s now id call (announced_image s) (Announced_image (told_version s.phase s.version)) short

-- a ready beacon that is at most 60 seconds old and names the own version
abbrev pub allows_reads : Version → ℕ → Option ReadyBeacon → Bool
allows_reads own now None = false
allows_reads own now (Some kept) = nat_le now (kept.at + SMALLTIME) && version_eq kept.version own

-- Another server's claim is told; else no quorum stands behind this one.
abbrev pub not_served : Member → Server → ℕ → Option (ℕ × ℕ) → Reply
not_served m s now None = no_quorum m s now (phase_of s.phase) applied.No
not_served m s now (Some heard) =
    if heard.0 == m.me then no_quorum m s now (phase_of s.phase) applied.No else reply.NotSync (host_at m.hosts heard.0) heard.1

-- at a server that is not in lease
abbrev pub asked_elsewhere : Database → Member → Server → ℕ → ℕ → List ℕ → (writes short may_read : Bool) → Stepped
asked_elsewhere db m s now id call writes short may_read =
    if writes then showing s (refusing id (not_served m s now (sync_heard now s.votes)) ∷ [])
    else (if may_read then read db s now id call s.image (Beacon_image s.version) short
    else showing s (refusing id (not_served m s now (sync_heard now s.votes)) ∷ []))

abbrev pub asked_as : Database → Member → Server → ℕ → ℕ → List ℕ → Bool → Option Bool → Stepped
asked_as db m s now id call short None = showing s (refusing id reply.Malformed ∷ [])
asked_as db m s now id call short (Some writes) =
    if leased m s now
    then (if is_ready s.phase then served db m s now id call writes short
    else showing s (refusing id (no_quorum m s now (phase_of s.phase) applied.No) ∷ []))
    else asked_elsewhere db m s now id call writes short (allows_reads s.version now s.beacon)

-- Ask: bytes that are no call are told so wherever they are asked.
abbrev pub asked : Database → Member → Server → ℕ → ℕ → List ℕ → Bool → Stepped
asked db m s now id call short = asked_as db m s now id call short (db.writes call)
