-- Each rule tells its choices by what it shows.
use Rattle.std.proofs.Common.{Bool, true, false, true≢false, cond, ◌==◌, ◌≡◌, ℕ, ◌+◌, List, [], ◌∷◌, ◌++◌, length, map, refl, sym, ap, ◌∙◌}
use Rattle.std.proofs.lemmas.Bool.{cond_both}
use Rattle.std.specs.Prelude.{Option, Some, None, nat_le}
use Rattle.lock_table.specs.declared.tables.TheConstants.{MAX_WAITING}
use Rattle.ubik_types.specs.declared.hosts.Host.{Host}
use Rattle.ubik_types.specs.declared.images.Change.{Change}
use Rattle.ubik_types.specs.declared.versions.TheConstants.{MAX_COUNTER}
use Rattle.ubik_types.specs.declared.versions.Version.{Version}
use Rattle.ubik_types.specs.Logged.{too_large}
use Rattle.ubik_types.specs.declared.phases.Applied.TheVariants as applied
use Rattle.xdr_base.specs.ChangeText.{text_of}
use Rattle.ubik_types.specs.Phase.{phase_of, Polled, Spread, PhaseRecord, NoPhase, Poll, Fetch, Relabel, Send, Ready}
use Rattle.ubik_types.specs.Quorum.{is_majority}
use Rattle.ubik_types.specs.Version.{version_eq}
use Rattle.ubik_calls.specs.declared.packets.Body.{Body}
use Rattle.ubik_calls.specs.declared.packets.Body.TheVariants as body
use Rattle.ubik_calls.specs.declared.packets.Packet.{Packet}
use Rattle.ubik_calls.specs.declared.replies.Reply.TheVariants as reply
use Rattle.db_image.specs.declared.services.CallReply.{CallReply}
use Rattle.db_image.specs.declared.services.CallReply.TheVariants as call_reply
use Rattle.db_image.specs.Database.{Database, changes_of}
use Rattle.cell_model.specs.declared.events.NodeEvent.{NodeEvent}
use Rattle.cell_model.specs.declared.events.NodeEvent.TheVariants as event
use Rattle.cell_model.specs.Asks.{allows_reads, asked, asked_as, asked_elsewhere, put_into_line, read, read_reply, served, write_asked}
use Rattle.cell_model.specs.Evaluating.{Databases, behind_first}
use Rattle.cell_model.specs.Lapse.{lapsed, no_quorum}
use Rattle.cell_model.specs.Node.{Flight, Server, Waiting}
use Rattle.cell_model.specs.NodeRule.{handled, place_of, received_from, received_packet, step_by}
use Rattle.cell_model.specs.Polls.{only_holder}
use Rattle.cell_model.specs.Recovery.{held_by, holder_added, lacking_sent, told_to_spread, version_is_received, version_kept_received}
use Rattle.cell_model.specs.Step.{Basis, Announced_image, Beacon_image, Evaluation, Member, Shown, Stepped, cell_size, followed, is_ready, is_short, leased, packet_to, quiet, refusing, sends_from, sent, short_after, showing, told_version, with_phase}
use Rattle.cell_model.specs.Writes.{announced_image, ended_write, flight_of, last_counter, next_version, is_free, is_free_in, next_turns, own_write_begun, settled, settled_with_turns, turned, write_bodies, write_turn, written_changes, written_in, written_small, written_within}
use Rattle.journal_model.proofs.Choices.{Agrees, Tells, TellsFirst, agrees_behind, first_either, first_one, followed_same, shorts, shorts-append, tells_behind, tells_chosen, tells_either, tells_first, tells_one}

-- ---- a writing call at its turn

-- Its first reply is not for want of memory; where it has none, its write is in flight.
record IsMeant (t : Stepped) (free : Bool) : Type 0 where
  pub first : is_short (shorts t.shown) ≡ false
  pub busy : free ≡ true → shorts t.shown ≡ [] → is_free t.server ≡ false

-- a step whose first reply is another one
answered : (t : Stepped) (free : Bool) (rest : List Bool) → shorts t.shown ≡ false ∷ rest → IsMeant t free
answered t free rest is = record { first = ap is_short is; busy = λ was none. absurd (cc) }

pub sent_silent : (m : Member) (host : Host) (bodies : List Body) → shorts (map (λ (body : Body). sent (packet_to m host body)) bodies) ≡ []
sent_silent m host [] = refl
sent_silent m host (one ∷ bodies) = sent_silent m host bodies

pub sends_silent : (m : Member) (k : ℕ) (hosts : List Host) (bodies : ℕ → List Body) → shorts (sends_from m k hosts bodies) ≡ []
sends_silent m k [] bodies = refl
sends_silent m k (host ∷ hosts) bodies =
    shorts-append (cond (k == m.me) [] (map (λ (body : Body). sent (packet_to m host body)) (bodies k))) (sends_from m (k + 1) hosts bodies)
    ∙ ap (λ (later : List Bool). shorts (cond (k == m.me) [] (map (λ (body : Body). sent (packet_to m host body)) (bodies k))) ++ later)
    (sends_silent m (k + 1) hosts bodies)
    ∙ by (k == m.me)
  where
    by : (own : Bool) → shorts (cond own [] (map (λ (body : Body). sent (packet_to m host body)) (bodies k))) ++ [] ≡ []
    by true = refl
    by false = ap (λ (first : List Bool). first ++ []) (sent_silent m host (bodies k))

module _ (db : Database) (m : Member) (s : Server) (now id : ℕ) (call : List ℕ) where
  -- the write is committed and sent; it is over, or in flight
  module _ (answer image : List ℕ) (changes : List Change) (poll : Polled) (spread : Spread) where
    abbrev begun : Stepped
    begun = own_write_begun m s now id call answer image changes poll spread

    begun_silent : shorts begun.shown ≡ []
    begun_silent = sends_silent m 0 m.hosts (λ k. write_bodies s.version (next_version s.version) (text_of changes))

    begun_meant : IsMeant (followed begun (settled m)) true
    begun_meant =
        cond_both (is_majority (cell_size m) (only_holder m)) _ _ (λ (t : Stepped). IsMeant (followed begun (λ after. t)) true)
        (λ over. answered (followed begun (λ after. ended_write begun.server (flight_of s now id call answer changes) poll
        (record spread { holders = only_holder m }) s.version)) true []
        (shorts-append begun.shown (ended_write begun.server (flight_of s now id call answer changes) poll
        (record spread { holders = only_holder m }) s.version).shown
        ∙ ap (λ (first : List Bool). first ++ false ∷ []) begun_silent))
        (λ flying. record {
          first = ap is_short (shorts-append begun.shown [] ∙ ap (λ (first : List Bool). first ++ []) begun_silent);
          busy = λ was none. refl;
        })

  in_meant : (answer image : List ℕ) (changes : List Change) (phase : PhaseRecord) (flight : Option Flight)
      → IsMeant (written_in m s now id call answer image changes phase) (is_free_in phase flight)
  in_meant answer image changes NoPhase flight = record { first = refl; busy = λ was none. absurd (true≢false (sym was)) }
  in_meant answer image changes (Poll poll) flight = record { first = refl; busy = λ was none. absurd (true≢false (sym was)) }
  in_meant answer image changes (Fetch poll best from) flight = record { first = refl; busy = λ was none. absurd (true≢false (sym was)) }
  in_meant answer image changes (Relabel poll) flight = record { first = refl; busy = λ was none. absurd (true≢false (sym was)) }
  in_meant answer image changes (Send poll spread) flight = record { first = refl; busy = λ was none. absurd (true≢false (sym was)) }
  in_meant answer image changes (Ready poll spread announced) flight =
      let is = begun_meant answer image changes poll spread in record { first = is.first; busy = λ was none. is.busy refl none }

  changes_meant : (answer image : List ℕ) (changes : List Change) → IsMeant (written_changes m s now id call answer image changes) (is_free s)
  changes_meant answer image changes =
      cond_both (s.version.counter == MAX_COUNTER) _ _ (λ (t : Stepped). IsMeant t (is_free s))
      (λ last. answered (last_counter m s now id) (is_free s) _ refl)
      (λ more. in_meant answer image changes s.phase s.flight)

  small_meant : (answer image : List ℕ) (changes : List Change) → IsMeant (written_small m s now id call answer image changes) (is_free s)
  small_meant answer image [] = answered (written_small m s now id call answer image []) (is_free s) [] refl
  small_meant answer image (change ∷ changes) = changes_meant answer image (change ∷ changes)

  within_meant : (answer image : List ℕ) (changes : List Change) (large : Option ℕ)
      → IsMeant (written_within m s now id call answer image changes large) (is_free s)
  within_meant answer image changes (Some bytes) = answered (written_within m s now id call answer image changes (Some bytes)) (is_free s) [] refl
  within_meant answer image changes None = small_meant answer image changes

  turned_meant : (image : List ℕ) (r : CallReply) → IsMeant (turned db m s now id call image r) (is_free s)
  turned_meant image (call_reply.Done answer) =
      within_meant answer image (changes_of db s.image image) (too_large 0 (length s.image) (changes_of db s.image image))
  turned_meant image (call_reply.Rule number) = answered (turned db m s now id call image (call_reply.Rule number)) (is_free s) [] refl
  turned_meant image call_reply.Malformed = answered (turned db m s now id call image call_reply.Malformed) (is_free s) [] refl
  turned_meant image (call_reply.BadRecord at) = answered (turned db m s now id call image (call_reply.BadRecord at)) (is_free s) [] refl

  turn_meant : IsMeant (write_turn db m s now id call false) (is_free s)
  turn_meant = turned_meant (db.call s.image now call).image (db.call s.image now call).reply

  write_first : TellsFirst (write_turn db m s now id call)
  write_first = tells_chosen (write_turn db m s now id call) refl turn_meant.first

-- ---- the turns of those that wait

module _ (m : Member) (now : ℕ) where
  -- none has its turn where a write is in flight
  pub idle : (dbs : Databases) (waiting : List Waiting) (s : Server) (short : List Bool) → is_free s ≡ false
      → (next_turns dbs m now waiting s short).shown ≡ []
  idle dbs [] s short busy = refl
  idle dbs (w ∷ waiting) s short busy =
      ap (λ (free : Bool). (cond free (followed (write_turn (dbs 0) m (record s { waiting = waiting }) now w.id w.call (is_short short))
      (λ after. next_turns (behind_first dbs) m now waiting after
      (short_after (write_turn (dbs 0) m (record s { waiting = waiting }) now w.id w.call (is_short short)).shown short))) (quiet s)).shown) busy

  -- the first reply of a turn with those behind it
  first_meant : (t : Stepped) (rest : List Shown) → IsMeant t true → (is_free t.server ≡ false → rest ≡ [])
      → is_short (shorts t.shown ++ shorts rest) ≡ false
  first_meant t rest is none = by (shorts t.shown) refl
    where
      by : (first : List Bool) → shorts t.shown ≡ first → is_short (first ++ shorts rest) ≡ false
      by [] at = ap (λ (shown : List Shown). is_short (shorts shown)) (none (is.busy refl at))
      by (b ∷ bs) at = ap is_short (sym at) ∙ is.first

  module _ (dbs : Databases) (w : Waiting) (waiting : List Waiting) (s : Server)
      (rest_tells : (after : Server) → Tells (next_turns (behind_first dbs) m now waiting after)) where
    abbrev turn : Bool → Stepped
    turn b = write_turn (dbs 0) m (record s { waiting = waiting }) now w.id w.call b

    abbrev turn_and_rest : Bool → List Bool → Stepped
    turn_and_rest b short = followed (turn b) (λ after. next_turns (behind_first dbs) m now waiting after (short_after (turn b).shown short))

    first_is : is_free s ≡ true → (b : Bool) (short : List Bool)
        → is_short (shorts (turn b).shown ++ shorts (next_turns (behind_first dbs) m now waiting (turn b).server short).shown) ≡ b
    first_is free true short = refl
    first_is free false short =
        let is = turn_meant (dbs 0) m (record s { waiting = waiting }) now w.id w.call in
        first_meant (turn false) (next_turns (behind_first dbs) m now waiting (turn false).server short).shown
        (record { first = is.first; busy = λ was none. is.busy free none })
        (λ busy. idle (behind_first dbs) waiting (turn false).server short busy)

    turns_tell : is_free s ≡ true → Tells (λ short. turn_and_rest (is_short short) short)
    turns_tell free short ys agree =
        let b = is_short short in
        let t = turn b in
        let rest = next_turns (behind_first dbs) m now waiting t.server (short_after t.shown short) in
        let first : is_short ys ≡ b = agree 0 ∙ ap is_short (shorts-append t.shown rest.shown) ∙ first_is free b (short_after t.shown short) in
        ap (λ (x : Bool). turn_and_rest x ys) first
        ∙ followed_same t (λ after. next_turns (behind_first dbs) m now waiting after (short_after t.shown ys))
        (λ after. next_turns (behind_first dbs) m now waiting after (short_after t.shown short))
        (rest_tells t.server (short_after t.shown short) (short_after t.shown ys) (agrees_behind ys t.shown rest.shown agree))

    either_tell : (free : Bool) → is_free s ≡ free → Tells (λ short. cond free (turn_and_rest (is_short short) short) (quiet s))
    either_tell true is = turns_tell is
    either_tell false is = tells_one (quiet s)

  next_tells : (dbs : Databases) (waiting : List Waiting) (s : Server) → Tells (next_turns dbs m now waiting s)
  next_tells dbs [] s = tells_one (quiet s)
  next_tells dbs (w ∷ waiting) s = either_tell dbs w waiting s (next_tells (behind_first dbs) waiting) (is_free s) refl

  settled_tells : (dbs : Databases) (s : Server) → Tells (settled_with_turns dbs m s now)
  settled_tells dbs s =
      let t = settled m s in
      tells_behind t (λ after short. next_turns dbs m now after.waiting after short) (next_tells dbs t.server.waiting t.server)

-- ---- asks

reply_meant : (id : ℕ) (e : Evaluation) (r : CallReply) → is_short (shorts (read_reply id e r ∷ [])) ≡ false
reply_meant id e (call_reply.Done answer) = refl
reply_meant id e (call_reply.Rule number) = refl
reply_meant id e call_reply.Malformed = refl
reply_meant id e (call_reply.BadRecord at) = refl

module _ (db : Database) (m : Member) (s : Server) (now id : ℕ) (call : List ℕ) where
  read_first : (image : List ℕ) (basis : Basis) → TellsFirst (read db s now id call image basis)
  read_first image basis =
      tells_chosen (read db s now id call image basis) refl
      (reply_meant id (record { call = call; moment = now; basis = basis }) (db.call image now call).reply)

  line_first : (f : Flight) → TellsFirst (λ short. put_into_line s id call short f)
  line_first f =
      first_either (nat_le MAX_WAITING (length s.waiting)) (λ short. showing s (refusing id (reply.LineFull f.id) ∷ [])) _
      (first_one (showing s (refusing id (reply.LineFull f.id) ∷ [])))
      (tells_chosen
      (λ short. cond short (showing s (refusing id reply.NoMemory ∷ []))
      (showing (record s { waiting = s.waiting ++ record { id = id; call = call } ∷ [] }) [])) refl refl)

  write_asked_first : (flight : Option Flight) → TellsFirst (λ short. write_asked db m s now id call short flight)
  write_asked_first None = write_first db m s now id call
  write_asked_first (Some f) = line_first f

  served_first : (writes : Bool) → TellsFirst (served db m s now id call writes)
  served_first true = write_asked_first s.flight
  served_first false = read_first (announced_image s) (Announced_image (told_version s.phase s.version))

  elsewhere_first : (writes may_read : Bool) → TellsFirst (λ short. asked_elsewhere db m s now id call writes short may_read)
  elsewhere_first true may_read = first_one (asked_elsewhere db m s now id call true false may_read)
  elsewhere_first false true = read_first s.image (Beacon_image s.version)
  elsewhere_first false false = first_one (asked_elsewhere db m s now id call false false false)

  asked_as_first : (writes : Option Bool) → TellsFirst (λ short. asked_as db m s now id call short writes)
  asked_as_first None = first_one (asked_as db m s now id call false None)
  asked_as_first (Some writes) =
      first_either (leased m s now) _ _
      (first_either (is_ready s.phase) (served db m s now id call writes) _ (served_first writes)
      (first_one (showing s (refusing id (no_quorum m s now (phase_of s.phase) applied.No) ∷ []))))
      (elsewhere_first writes (allows_reads s.version now s.beacon))

  asked_tells : Tells (λ short. asked db m s now id call (is_short short))
  asked_tells = tells_first (asked db m s now id call) (asked_as_first (db.writes call))

-- ---- packets

module _ (dbs : Databases) (m : Member) (s : Server) (now : ℕ) (host : Host) (k : ℕ) where
  holder_tells : Tells (holder_added dbs m s now k)
  holder_tells = settled_tells m now dbs (with_phase s (held_by s.phase k))

  told_tells : (poll : Polled) (spread : Spread) (number : ℕ) (version : Version)
      → Tells (told_to_spread dbs m s now host k poll spread number version)
  told_tells poll spread number version =
      tells_either (number == poll.number) _ _
      (tells_either (version_eq version s.version) (holder_added dbs m s now k) _ holder_tells
      (tells_one (lacking_sent m s host poll spread version s.flight)))
      (tells_one (quiet s))

  version_tells : (number : ℕ) (version : Version) (phase : PhaseRecord)
      → Tells (λ short. version_is_received dbs m s now host k number version short phase)
  version_tells number version (Poll poll) = tells_one (version_is_received dbs m s now host k number version [] (Poll poll))
  version_tells number version (Fetch poll best from) =
      tells_one (version_is_received dbs m s now host k number version [] (Fetch poll best from))
  version_tells number version (Send poll spread) = told_tells poll spread number version
  version_tells number version (Ready poll spread announced) = told_tells poll spread number version
  version_tells number version NoPhase = tells_one (quiet s)
  version_tells number version (Relabel poll) = tells_one (quiet s)

  kept_tells : (version : Version) (phase : PhaseRecord) → Tells (λ short. version_kept_received dbs m s now k version short phase)
  kept_tells version (Send poll spread) =
      tells_either (version_eq version s.version) (holder_added dbs m s now k) _ holder_tells (tells_one (quiet s))
  kept_tells version (Ready poll spread announced) =
      tells_either (version_eq version s.version) (holder_added dbs m s now k) _ holder_tells (tells_one (quiet s))
  kept_tells version NoPhase = tells_one (quiet s)
  kept_tells version (Poll poll) = tells_one (quiet s)
  kept_tells version (Fetch poll best from) = tells_one (quiet s)
  kept_tells version (Relabel poll) = tells_one (quiet s)

  -- a rule that takes no choice
  abbrev only : Body → Stepped
  only b = received_from dbs m s now host k b []

  body_tells : (b : Body) → Tells (received_from dbs m s now host k b)
  body_tells (body.VersionIs poll version) = version_tells poll version s.phase
  body_tells (body.VersionKept version) = kept_tells version s.phase
  body_tells (body.Beacon start claim ready version) = tells_one (only (body.Beacon start claim ready version))
  body_tells (body.Vote start granted) = tells_one (only (body.Vote start granted))
  body_tells (body.GetVersion poll) = tells_one (only (body.GetVersion poll))
  body_tells (body.GetPiece poll version offset) = tells_one (only (body.GetPiece poll version offset))
  body_tells (body.Piece poll version total offset bytes) = tells_one (only (body.Piece poll version total offset bytes))
  body_tells (body.SendPiece poll version total offset bytes) = tells_one (only (body.SendPiece poll version total offset bytes))
  body_tells (body.PieceKept poll version next) = tells_one (only (body.PieceKept poll version next))
  body_tells (body.SetVersion poll old new) = tells_one (only (body.SetVersion poll old new))
  body_tells (body.Begin old new pieces len) = tells_one (only (body.Begin old new pieces len))
  body_tells (body.PutPiece new number bytes) = tells_one (only (body.PutPiece new number bytes))
  body_tells (body.Commit old new) = tells_one (only (body.Commit old new))
  body_tells (body.Abort new) = tells_one (only (body.Abort new))

packet_tells : (dbs : Databases) (m : Member) (s : Server) (now : ℕ) (p : Packet) (place : Option ℕ)
    → Tells (λ short. received_packet dbs m s now p short place)
packet_tells dbs m s now p None = tells_one (quiet s)
packet_tells dbs m s now p (Some k) = body_tells dbs m s now p.from k p.body

-- ---- a step

handled_tells : (dbs : Databases) (m : Member) (s : Server) (now : ℕ) (e : NodeEvent) → Tells (handled dbs m s now e)
handled_tells dbs m s now (event.Packet p) = packet_tells dbs m s now p (place_of m.hosts p.from)
handled_tells dbs m s now event.BeaconTurn = tells_one (handled dbs m s now event.BeaconTurn [])
handled_tells dbs m s now event.RecoverTurn = tells_one (handled dbs m s now event.RecoverTurn [])
handled_tells dbs m s now (event.Ask id call) = asked_tells (dbs 0) m s now id call

pub step_tells : (dbs : Databases) (m : Member) (s : Server) (now : ℕ) (e : NodeEvent) (short ys : List Bool)
    → Agrees ys (shorts (step_by dbs m s now e short).shown) → step_by dbs m s now e ys ≡ step_by dbs m s now e short
unfolding step_by
step_tells dbs m s now e short ys agree =
    tells_behind (lapsed m s now) (λ after choices. handled dbs m after now e choices) (handled_tells dbs m (lapsed m s now).server now e) short ys agree
