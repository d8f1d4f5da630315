-- Votes: the beacon turn of a server, and the beacons and votes that it receives (Kazar, "Ubik"; the ready beacon
-- that is kept is own).
use Rattle.std.specs.Prelude.{ℕ, Bool, false, not, ◌&&◌, ◌==◌, if◌then◌else◌, Option, Some, None}
use Rattle.ubik_types.specs.declared.hosts.Host.{Host}
use Rattle.ubik_types.specs.declared.versions.Version.{Version}
use Rattle.ubik_types.specs.Votes.{beacon_is_due, answers_yes, answered}
use Rattle.ubik_types.specs.Lease.{with_start, vote_counted}
use Rattle.ubik_calls.specs.declared.packets.Body.{Body}
use Rattle.ubik_calls.specs.declared.packets.Body.TheVariants as body
use Rattle.cell_model.specs.Node.{Server, ReadyBeacon}
use Rattle.cell_model.specs.Step.{Member, Stepped, quiet, showing, leased, is_ready, told_version, sends_to, sends_to_all}

abbrev pub own_beacon : Server → ℕ → Bool → Body
own_beacon s now claim =
    let ready = claim && is_ready s.phase in
    body.Beacon now claim ready (if ready then told_version s.phase s.version else s.version)

-- Own beacon: it is taken, and the own yes for this start is counted. It claims the lease that there was before.
abbrev pub beacon_taken : Member → Server → ℕ → Bool → Stepped
beacon_taken m s now claim =
    showing (record s { votes = answered s.votes now m.me claim; starts = with_start s.starts m.me now })
    (sends_to_all m (own_beacon s now claim))

-- Beacon turn: where a beacon is due it is taken, and goes to each other server.
abbrev pub beacon_turn : Member → Server → ℕ → Stepped
beacon_turn m s now =
    if beacon_is_due s.votes now m.me (leased m s now) then beacon_taken m s now (leased m s now) else quiet s

abbrev pub is_beacon_of : ℕ → Option ReadyBeacon → Bool
is_beacon_of k None = false
is_beacon_of k (Some kept) = kept.server == k

-- A beacon that claims and is ready is kept; one of the same server that is not ready removes it.
abbrev pub beacon_kept : Option ReadyBeacon → ℕ → ℕ → Bool → Bool → Version → Option ReadyBeacon
beacon_kept before now k claim ready version =
    if claim && ready then Some (record { server = k; version = version; at = now })
    else (if not ready && is_beacon_of k before then None else before)

-- Beacon received: from server k, which gets the vote.
abbrev pub beacon_received : Member → Server → ℕ → Host → ℕ → ℕ → Bool → Bool → Version → Stepped
beacon_received m s now host k start claim ready version =
    showing (record s {
      votes = answered s.votes now k claim;
      beacon = beacon_kept s.beacon now k claim ready version;
    }) (sends_to m host (body.Vote start (answers_yes s.votes now k claim)))

-- Vote received: of server k, for the beacon of that start.
abbrev pub vote_received : Member → Server → ℕ → ℕ → Bool → Stepped
vote_received m s k start granted = quiet (record s { starts = vote_counted s.opened m.me s.starts k start granted })
