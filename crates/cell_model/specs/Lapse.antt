-- Lapse: how each step of a server begins. A phase that is held past the lease is dropped; a write that is in
-- flight for more than 60 seconds is given up, and a new poll begins (Kazar, "Ubik"; own where that leaves a choice).
use Rattle.std.specs.Prelude.{ℕ, ◌+◌, nat_lt, if◌then◌else◌, Option, Some, None, List, [], ◌∷◌, ◌++◌, map}
use Rattle.ubik_types.specs.declared.limits.TheConstants.{SMALLTIME}
use Rattle.ubik_types.specs.declared.phases.Phase.{Phase}
use Rattle.ubik_types.specs.declared.phases.Phase.TheVariants as phases
use Rattle.ubik_types.specs.declared.phases.Applied.{Applied}
use Rattle.ubik_types.specs.declared.phases.Applied.TheVariants as applied
use Rattle.ubik_types.specs.Lease.{lease_end}
use Rattle.ubik_types.specs.Phase.{NoPhase}
use Rattle.ubik_calls.specs.declared.packets.Body.TheVariants as body
use Rattle.ubik_calls.specs.declared.replies.Reply.{Reply}
use Rattle.ubik_calls.specs.declared.replies.Reply.TheVariants as reply
use Rattle.cell_model.specs.Node.{Server, Flight, Waiting}
use Rattle.cell_model.specs.Polls.{polling}
use Rattle.cell_model.specs.Step.{Member, cell_size, Shown, Stepped, quiet, showing, leased, with_phase, refusing, sends_to_all}

-- the refusal of a server behind which no quorum stands
abbrev pub no_quorum : Member → Server → ℕ → Phase → Applied → Reply
no_quorum m s now phase applied = reply.NoQuorum now (lease_end (cell_size m) s.starts) phase applied

abbrev pub flight_refused : Option Flight → Reply → List Shown
flight_refused None r = []
flight_refused (Some f) r = refusing f.id r ∷ []

abbrev pub waiting_refused : List Waiting → Reply → List Shown
waiting_refused waiting r = map (λ (w : Waiting). refusing w.id r) waiting

-- The write in flight is dropped, and so are those that wait for it: the fate of the one is unknown, the others were not begun.
abbrev pub writes_refused : Member → Server → ℕ → Phase → List Shown
writes_refused m s now phase =
    flight_refused s.flight (no_quorum m s now phase applied.Unknown)
    ++ waiting_refused s.waiting (no_quorum m s now phase applied.No)

abbrev pub without_writes : Server → Server
without_writes s = record s { flight = None; waiting = [] }

-- no phase is held any more
abbrev pub phase_dropped : Member → Server → ℕ → Stepped
phase_dropped m s now = showing (with_phase (without_writes s) NoPhase) (writes_refused m s now phases.None)

-- the write in flight is given up, and a new poll begins
abbrev pub write_given_up : Member → Server → ℕ → Stepped
write_given_up m s now =
    showing (polling m (without_writes s) now) (writes_refused m s now phases.Poll ++ sends_to_all m (body.Abort s.version))

abbrev pub write_lapsed : Member → Server → ℕ → Option Flight → Stepped
write_lapsed m s now None = quiet s
write_lapsed m s now (Some f) = if nat_lt (f.began + SMALLTIME) now then write_given_up m s now else quiet s

-- Where no phase is held there is no write to drop.
abbrev pub lapsed : Member → Server → ℕ → Stepped
lapsed m s now = if leased m s now then write_lapsed m s now s.flight else phase_dropped m s now
