-- At a server without a write, memory that is not found in a step is told, or was not needed.
use Rattle.std.proofs.Common.{Bool, true, false, cond, ◌==◌, ◌≡◌, inl, inr, ℕ, List, [], ◌∷◌, ◌++◌, refl, sym, ap, subst}
use Rattle.std.proofs.lemmas.Bool.{cond_both}
use Rattle.std.specs.Prelude.{Option, Some, None}
use Rattle.ubik_types.specs.declared.hosts.Host.{Host}
use Rattle.ubik_types.specs.declared.phases.Phase.TheVariants as phases
use Rattle.ubik_types.specs.declared.versions.Version.{Version}
use Rattle.ubik_types.specs.Phase.{Polled, Spread, PhaseRecord, NoPhase, Poll, Fetch, Relabel, Send, Ready}
use Rattle.ubik_types.specs.Quorum.{is_majority}
use Rattle.ubik_types.specs.Version.{version_eq}
use Rattle.ubik_calls.specs.declared.packets.Packet.{Packet}
use Rattle.ubik_calls.specs.declared.packets.Body.{Body}
use Rattle.ubik_calls.specs.declared.packets.Body.TheVariants as body
use Rattle.ubik_calls.specs.declared.replies.Reply.TheVariants as reply
use Rattle.db_image.specs.Database.{Database}
use Rattle.cell_model.specs.declared.events.NodeEvent.{NodeEvent}
use Rattle.cell_model.specs.declared.events.NodeEvent.TheVariants as event
use Rattle.cell_model.specs.declared.events.Output.TheVariants as output
use Rattle.cell_model.specs.Asks.{write_asked, served, asked_elsewhere, asked_as, asked, allows_reads}
use Rattle.cell_model.specs.Evaluating.{always}
use Rattle.cell_model.specs.Lapse.{writes_refused, without_writes, write_lapsed}
use Rattle.cell_model.specs.Node.{Server, Flight, Waiting}
use Rattle.cell_model.specs.NodeRule.{place_of, received_from, received_packet, step_of, step_by, handled}
use Rattle.cell_model.specs.Recovery.{held_by, holder_added, lacking_sent, told_to_spread, version_is_received, version_kept_received}
use Rattle.cell_model.specs.Step.{Member, cell_size, Shown, Stepped, followed, quiet, showing, with_phase, leased, is_ready, is_short, short_after}
use Rattle.cell_model.specs.Writes.{flight_settled, settled_in, settled, next_turns, settled_with_turns}
use Rattle.cell_model.proofs.StepKinds.{none_refused}
use Rattle.recovery_laws.specs.Memory.{CameShort, IsEither, MemoryIsTold}

-- ---- packets take none

cond_same : (b : Bool) (t u v w : Stepped) → t ≡ u → v ≡ w → cond b t v ≡ cond b u w
cond_same true t u v w first second = first
cond_same false t u v w first second = second

module _ (db : Database) (m : Member) (now : ℕ) (short : List Bool) where
  flight_waiting : (s : Server) (poll : Polled) (spread : Spread) (announced : Version) (f : Option Flight) →
      (flight_settled m s poll spread announced f).server.waiting ≡ s.waiting
  flight_waiting s poll spread announced None = refl
  flight_waiting s poll spread announced (Some f) =
      cond_both (is_majority (cell_size m) spread.holders) _ _ (λ (t : Stepped). t.server.waiting ≡ s.waiting) (λ _. refl) (λ _. refl)

  settled_waiting : (s : Server) (phase : PhaseRecord) → (settled_in m s phase).server.waiting ≡ s.waiting
  settled_waiting s NoPhase = refl
  settled_waiting s (Poll poll) = refl
  settled_waiting s (Fetch poll best host) = refl
  settled_waiting s (Relabel poll) = refl
  settled_waiting s (Send poll spread) =
      cond_both (is_majority (cell_size m) spread.holders) _ _ (λ (t : Stepped). t.server.waiting ≡ s.waiting) (λ _. refl) (λ _. refl)
  settled_waiting s (Ready poll spread announced) = flight_waiting s poll spread announced s.flight

  no_turns : (s : Server) (waiting : List Waiting) (more other : List Bool) → waiting ≡ [] →
      next_turns (always db) m now waiting s more ≡ next_turns (always db) m now waiting s other
  no_turns s [] more other is = refl
  no_turns s (w ∷ waiting) more other is = absurd (cc)

  turns_same : (s : Server) → s.waiting ≡ [] → settled_with_turns (always db) m s now short ≡ settled_with_turns (always db) m s now []
  turns_same s none =
      let t : Stepped = settled m s in
      let waiting : t.server.waiting ≡ [] = subst (λ (w : List Waiting). t.server.waiting ≡ w) none (settled_waiting s s.phase) in
      ap (λ (u : Stepped). record { server = u.server; calls = t.calls ++ u.calls; shown = t.shown ++ u.shown })
      (no_turns t.server t.server.waiting (short_after t.shown short) (short_after t.shown []) waiting)

  holder_same : (s : Server) (k : ℕ) → s.waiting ≡ [] → holder_added (always db) m s now k short ≡ holder_added (always db) m s now k []
  holder_same s k none = turns_same (with_phase s (held_by s.phase k)) none

  told_same : (s : Server) (host : Host) (k : ℕ) (poll : Polled) (spread : Spread) (number : ℕ) (version : Version) → s.waiting ≡ [] →
      told_to_spread (always db) m s now host k poll spread number version short ≡ told_to_spread (always db) m s now host k poll spread number version []
  told_same s host k poll spread number version none =
      let lacking : Stepped = lacking_sent m s host poll spread version s.flight in
      cond_same (number == poll.number)
      (cond (version_eq version s.version) (holder_added (always db) m s now k short) lacking)
      (cond (version_eq version s.version) (holder_added (always db) m s now k []) lacking) (quiet s) (quiet s)
      (cond_same (version_eq version s.version) (holder_added (always db) m s now k short) (holder_added (always db) m s now k []) lacking lacking
      (holder_same s k none) refl)
      refl

  version_is_same : (s : Server) (host : Host) (k number : ℕ) (version : Version) (phase : PhaseRecord) → s.waiting ≡ [] →
      version_is_received (always db) m s now host k number version short phase ≡ version_is_received (always db) m s now host k number version [] phase
  version_is_same s host k number version NoPhase none = refl
  version_is_same s host k number version (Poll poll) none = refl
  version_is_same s host k number version (Fetch poll best from) none = refl
  version_is_same s host k number version (Relabel poll) none = refl
  version_is_same s host k number version (Send poll spread) none = told_same s host k poll spread number version none
  version_is_same s host k number version (Ready poll spread announced) none = told_same s host k poll spread number version none

  kept_same : (s : Server) (k : ℕ) (version : Version) → s.waiting ≡ [] →
      cond (version_eq version s.version) (holder_added (always db) m s now k short) (quiet s)
      ≡ cond (version_eq version s.version) (holder_added (always db) m s now k []) (quiet s)
  kept_same s k version none =
      cond_same (version_eq version s.version) (holder_added (always db) m s now k short) (holder_added (always db) m s now k []) (quiet s) (quiet s)
      (holder_same s k none) refl

  version_kept_same : (s : Server) (k : ℕ) (version : Version) (phase : PhaseRecord) → s.waiting ≡ [] →
      version_kept_received (always db) m s now k version short phase ≡ version_kept_received (always db) m s now k version [] phase
  version_kept_same s k version NoPhase none = refl
  version_kept_same s k version (Poll poll) none = refl
  version_kept_same s k version (Fetch poll best from) none = refl
  version_kept_same s k version (Relabel poll) none = refl
  version_kept_same s k version (Send poll spread) none = kept_same s k version none
  version_kept_same s k version (Ready poll spread announced) none = kept_same s k version none

  from_same : (s : Server) (host : Host) (k : ℕ) (b : Body) → s.waiting ≡ [] →
      received_from (always db) m s now host k b short ≡ received_from (always db) m s now host k b []
  from_same s host k (body.Beacon start claim ready version) none = refl
  from_same s host k (body.Vote start granted) none = refl
  from_same s host k (body.GetVersion poll) none = refl
  from_same s host k (body.VersionIs poll version) none = version_is_same s host k poll version s.phase none
  from_same s host k (body.GetPiece poll version offset) none = refl
  from_same s host k (body.Piece poll version total offset bytes) none = refl
  from_same s host k (body.SendPiece poll version total offset bytes) none = refl
  from_same s host k (body.PieceKept poll version next) none = refl
  from_same s host k (body.SetVersion poll old new) none = refl
  from_same s host k (body.Begin old new pieces len) none = refl
  from_same s host k (body.PutPiece new number bytes) none = refl
  from_same s host k (body.Commit old new) none = refl
  from_same s host k (body.Abort new) none = refl
  from_same s host k (body.VersionKept version) none = version_kept_same s k version s.phase none

  packet_same : (s : Server) (p : Packet) (place : Option ℕ) → s.waiting ≡ [] →
      received_packet (always db) m s now p short place ≡ received_packet (always db) m s now p [] place
  packet_same s p None none = refl
  packet_same s p (Some k) none = from_same s p.from k p.body none

-- ---- asks

either_cond : (s : Server) (b : Bool) (t u v w : Stepped) → IsEither s t v → IsEither s u w → IsEither s (cond b t u) (cond b v w)
either_cond s true t u v w first second = first
either_cond s false t u v w first second = second

module _ (db : Database) (m : Member) (s : Server) (now id : ℕ) (call : List ℕ) where
  abbrev none_found : Stepped
  none_found = showing s (record { output = output.Reply id reply.NoMemory; evaluation = None } ∷ [])

  came_short : CameShort s none_found
  came_short = record { version = refl; image_is = refl; calls = refl; id = id; told = refl }

  write_either : (f : Option Flight) → f ≡ None → IsEither s (write_asked db m s now id call true f) (write_asked db m s now id call false f)
  write_either None is = inr came_short
  write_either (Some f) is = absurd (cc)

  served_either : (writes : Bool) → s.flight ≡ None → IsEither s (served db m s now id call writes true) (served db m s now id call writes false)
  served_either true none = write_either s.flight none
  served_either false none = inr came_short

  elsewhere_either : (writes may_read : Bool) →
      IsEither s (asked_elsewhere db m s now id call writes true may_read) (asked_elsewhere db m s now id call writes false may_read)
  elsewhere_either true may_read = inl refl
  elsewhere_either false true = inr came_short
  elsewhere_either false false = inl refl

  as_either : (o : Option Bool) → s.flight ≡ None → IsEither s (asked_as db m s now id call true o) (asked_as db m s now id call false o)
  as_either None none = inl refl
  as_either (Some writes) none =
      either_cond s (leased m s now) _ _ _ _
      (either_cond s (is_ready s.phase) _ _ _ _ (served_either writes none) (inl refl))
      (elsewhere_either writes (allows_reads s.version now s.beacon))

  asked_either : (b : Bool) → s.flight ≡ None → IsEither s (asked db m s now id call b) (asked db m s now id call false)
  asked_either true none = as_either (db.writes call) none
  asked_either false none = inl refl

-- ---- steps

handled_either : (db : Database) (m : Member) (s : Server) (now : ℕ) (e : NodeEvent) (short : List Bool) → s.flight ≡ None →
    s.waiting ≡ [] → IsEither s (handled (always db) m s now e short) (handled (always db) m s now e [])
handled_either db m s now (event.Packet p) short flight none = inl (packet_same db m now short s p (place_of m.hosts p.from) none)
handled_either db m s now event.BeaconTurn short flight none = inl refl
handled_either db m s now event.RecoverTurn short flight none = inl refl
handled_either db m s now (event.Ask id call) short flight none = asked_either db m s now id call (is_short short) flight

step_either : (db : Database) (m : Member) (s : Server) (now : ℕ) (e : NodeEvent) (short : List Bool) → s.flight ≡ None →
    s.waiting ≡ [] → IsEither s (step_of db m s now e short) (step_of db m s now e [])
unfolding step_by
step_either db m s now e choices flight none = cond_both (leased m s now) _ _ P (λ _. kept s.flight flight) (λ _. lapses)
  where
    P : Stepped → Type 0
    P t =
        IsEither s (followed t (λ after. handled (always db) m after now e (short_after t.shown choices)))
        (followed t (λ after. handled (always db) m after now e (short_after t.shown [])))

    kept : (f : Option Flight) → f ≡ None → P (write_lapsed m s now f)
    kept None is = handled_either db m s now e choices flight none
    kept (Some f) is = absurd (cc)

    dropped : Server
    dropped = with_phase (without_writes s) NoPhase

    came : (t : Stepped) → CameShort dropped t → CameShort s t
    came t c = record { version = c.version; image_is = c.image_is; calls = c.calls; id = c.id; told = c.told }

    before : {t u : Stepped} → IsEither dropped t u → IsEither s t u
    before (inl same) = inl same
    before (inr c) = inr (came _ c)

    Q : List Shown → Type 0
    Q shown = P (showing dropped shown)

    lapses : Q (writes_refused m s now phases.None)
    lapses =
        subst Q (sym (none_refused s.flight s.waiting _ _ flight none)) (before (handled_either db m dropped now e choices refl refl))

pub memory_is_told : MemoryIsTold
memory_is_told db m s now e short flight none = step_either db m s now e short flight none
