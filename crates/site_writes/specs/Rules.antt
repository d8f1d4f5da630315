-- The calls of a site's writes as steps of the rules: what each makes of the abstract server that has them.
use Rattle.std.specs.Prelude.{◌≡◌, ℕ, false, nat_le, is_none, if◌then◌else◌, Some, None, List, [], ◌∷◌, length}
use Rattle.lock_table.specs.declared.tables.TheConstants.{MAX_WAITING}
use Rattle.ubik_types.specs.declared.versions.Version.{Version}
use Rattle.ubik_types.specs.Phase.{PhaseRecord, Polled, Spread, Ready}
use Rattle.ubik_calls.specs.declared.replies.Reply.TheVariants as reply
use Rattle.cell_model.specs.Node.{Server, Flight, Waiting}
use Rattle.cell_model.specs.Step.{showing, refusing, with_phase}
use Rattle.cell_model.specs.Lapse.{without_writes}
use Rattle.cell_model.specs.Asks.{put_into_line}
use Rattle.cell_model.specs.Writes.{is_free_in}
use Rattle.site_writes.specs.OwnWrite.{OwnRecord}
use Rattle.site_writes.specs.Site.{SiteRecord, flight_in, no_writes, with_flight, without_flight, with_waiting, without_first}

-- the server that has these writes
abbrev pub writing : SiteRecord → Server → Server
writing site s = record s { flight = flight_in site; waiting = site.waiting }

-- what is said of every server with the writes of a site
abbrev pub OfEachSite : (SiteRecord → Server → Type 0) → Type 0
OfEachSite Says = (site : SiteRecord) (s : Server) → Says site s

-- a server that serves is free for a write exactly where none is in flight
abbrev pub IsFreeWithout : SiteRecord → Server → Type 0
IsFreeWithout site s =
    (poll : Polled) (spread : Spread) (announced : Version) → is_free_in (Ready poll spread announced) (flight_in site) ≡ is_none site.own

-- a write is in flight
abbrev pub WriteIsInFlight : SiteRecord → Server → Type 0
WriteIsInFlight site s =
    (write : OwnRecord) → record (writing site s) { flight = Some write.flight } ≡ writing (with_flight site write) s

-- the write in flight is over
abbrev pub WriteIsOver : SiteRecord → Server → Type 0
WriteIsOver site s =
    (phase : PhaseRecord) → record (with_phase (writing site s) phase) { flight = None } ≡ with_phase (writing (without_flight site) s) phase

-- a call waits behind the write in flight, or finds the line full
abbrev pub CallWaits : SiteRecord → Server → Type 0
CallWaits site s =
    (id : ℕ) (call : List ℕ) (f : Flight) → put_into_line (writing site s) id call false f
    ≡ (if nat_le MAX_WAITING (length site.waiting) then showing (writing site s) (refusing id (reply.LineFull f.id) ∷ [])
    else showing (writing (with_waiting site id call) s) [])

-- the first call that waits has its turn
abbrev pub FirstHasItsTurn : SiteRecord → Server → Type 0
FirstHasItsTurn site s =
    (first : Waiting) (others : List Waiting) → site.waiting ≡ first ∷ others
    → record (writing site s) { waiting = others } ≡ writing (without_first site) s

-- all are dropped
abbrev pub AllAreDropped : SiteRecord → Server → Type 0
AllAreDropped site s = without_writes (writing site s) ≡ writing no_writes s
