-- A step whose evaluations may be free, at a server whose image stands for a state of its database, is the step of the world.
use Rattle.std.proofs.Common.{Bool, true, false, ◌==◌, ◌≡◌, ℕ, zero, suc, List, [], ◌∷◌, ◌++◌, refl, sym, ap, subst, ◌∙◌}
use Rattle.std.proofs.lemmas.Bool.{and_parts, cond_both, eqb-true}
use Rattle.std.proofs.lemmas.Slice.Eq.{bytes_eq-Decides}
use Rattle.std.specs.Prelude.{Option, Some, None, ◌&&◌, nat_lt, if◌then◌else◌, length, ◌+◌}
use Rattle.std.specs.Str.{bytes_eq}
use Rattle.ubik_types.specs.declared.hosts.Host.{Host}
use Rattle.ubik_types.specs.declared.images.Change.{Change}
use Rattle.ubik_types.specs.declared.limits.TheConstants.{SMALLTIME}
use Rattle.ubik_types.specs.declared.versions.TheConstants.{MAX_COUNTER}
use Rattle.ubik_types.specs.declared.versions.Version.{Version}
use Rattle.ubik_types.specs.Logged.{too_large}
use Rattle.ubik_types.specs.Phase.{Polled, Spread, PhaseRecord, NoPhase, Poll, Fetch, Relabel, Send, Ready}
use Rattle.ubik_types.specs.Quorum.{is_majority}
use Rattle.ubik_types.specs.Version.{version_eq}
use Rattle.ubik_calls.specs.declared.packets.Body.{Body}
use Rattle.ubik_calls.specs.declared.packets.Body.TheVariants as body
use Rattle.ubik_calls.specs.declared.packets.Packet.{Packet}
use Rattle.ubik_calls.specs.declared.replies.Reply.TheVariants as reply
use Rattle.db_image.specs.declared.services.CallReply.{CallReply}
use Rattle.db_image.specs.declared.services.CallReply.TheVariants as call_reply
use Rattle.db_image.specs.Database.{Database, Outcome, changes_of}
use Rattle.db_image.specs.Standing.{Standing}
use Rattle.cell_model.specs.declared.events.NodeEvent.{NodeEvent}
use Rattle.cell_model.specs.declared.events.NodeEvent.TheVariants as event
use Rattle.cell_model.specs.Asks.{allows_reads, asked, asked_as, asked_elsewhere, read, read_reply, served, write_asked}
use Rattle.cell_model.specs.Evaluating.{Databases, Evaluated, KeepsStates, MayAllCome, MayCome, Told, always, outcome_told, told_at, told_by}
use Rattle.cell_model.specs.Lapse.{lapsed, write_lapsed}
use Rattle.cell_model.specs.Node.{Flight, Server, Waiting}
use Rattle.cell_model.specs.NodeRule.{handled, place_of, received_from, received_packet, step_by, step_of}
use Rattle.cell_model.specs.Recovery.{held_by, holder_added, told_to_spread, version_is_received, version_kept_received}
use Rattle.cell_model.specs.Step.{Basis, Beacon_image, Announced_image, Member, Stepped, cell_size, followed, is_ready, is_short, leased, refusing, short_after, showing, told_version, with_phase}
use Rattle.cell_model.specs.Writes.{announced_image, flight_settled, is_free, next_turns, own_write_begun, settled, settled_in, settled_with_turns, turned, write_turn, written_in, written_small, written_within}

-- ---- choices

both_same : {A : Type 0} (b : Bool) (x y z w : A) → x ≡ z → y ≡ w → (if b then x else y) ≡ (if b then z else w)
both_same true x y z w first second = first
both_same false x y z w first second = second

-- a step, and then the next, where that is the same
followed_same : (t : Stepped) (f g : Server → Stepped) → f t.server ≡ g t.server → followed t f ≡ followed t g
followed_same t f g same =
    ap (λ (u : Stepped). record { server = u.server; calls = t.calls ++ u.calls; shown = t.shown ++ u.shown }) same

-- ---- what a settling leaves

settled_image : (m : Member) (s : Server) (phase : PhaseRecord) → (settled_in m s phase).server.image ≡ s.image
settled_image m s NoPhase = refl
settled_image m s (Poll poll) = refl
settled_image m s (Fetch poll best host) = refl
settled_image m s (Relabel poll) = refl
settled_image m s (Send poll spread) =
    cond_both (is_majority (cell_size m) spread.holders) _ _ (λ (t : Stepped). t.server.image ≡ s.image) (λ _. refl) (λ _. refl)
settled_image m s (Ready poll spread announced) = by s.flight
  where
    by : (f : Option Flight) → (flight_settled m s poll spread announced f).server.image ≡ s.image
    by None = refl
    by (Some f) =
        cond_both (is_majority (cell_size m) spread.holders) _ _ (λ (t : Stepped). t.server.image ≡ s.image) (λ _. refl) (λ _. refl)

-- ---- a list that may come

-- what is told of an evaluation is what the database has, where the image stands for a state
evaluated_same : (d : Standing) (e : Evaluated) → MayCome d e → (image : List ℕ) (x : d.State) (now : ℕ) (call : List ℕ) → d.StandsFor image x
    → outcome_told (Some e) d.database image now call ≡ d.database.call image now call
evaluated_same d e may image x now call stands =
    cond_both (bytes_eq image e.image && now == e.moment && bytes_eq call e.call) _ _ (λ (o : Outcome). o ≡ d.database.call image now call)
    (λ is.
    let front = and_parts (bytes_eq image e.image && now == e.moment) _ is in
    let parts = and_parts (bytes_eq image e.image) _ front.0 in
    let same_image : image ≡ e.image = (bytes_eq-Decides image e.image).0 parts.0 in
    let same_call : call ≡ e.call = (bytes_eq-Decides call e.call).0 front.1 in
    let same_now : now ≡ e.moment = eqb-true now e.moment parts.1 in
    may.meant x (subst (λ (i : List ℕ). d.StandsFor i x) same_image stands)
    ∙ ap (λ (i : List ℕ). d.database.call i e.moment e.call) (sym same_image)
    ∙ ap (λ (n : ℕ). d.database.call image n e.call) (sym same_now)
    ∙ ap (λ (c : List ℕ). d.database.call image now c) (sym same_call)) (λ _. refl)

told_same : (d : Standing) (told : Told) → MayAllCome d told → (k : ℕ) (image : List ℕ) (x : d.State) (now : ℕ) (call : List ℕ) → d.StandsFor image x
    → outcome_told (told_at told k) d.database image now call ≡ d.database.call image now call
told_same d [] all k image x now call stands = refl
told_same d (None ∷ told) all zero image x now call stands = refl
told_same d (Some e ∷ told) all zero image x now call stands = evaluated_same d e all.0 image x now call stands
told_same d (one ∷ told) all (suc k) image x now call stands = told_same d told all.1 k image x now call stands

-- ---- one evaluation

module _ (d : Standing) (call_by : List ℕ → ℕ → List ℕ → Outcome) (m : Member) (now : ℕ)
    (same : (image : List ℕ) (x : d.State) (call : List ℕ) → d.StandsFor image x → call_by image now call ≡ d.database.call image now call) where
  abbrev by : Database
  by = record d.database { call = call_by }

  read_same : (s : Server) (id : ℕ) (call image : List ℕ) (basis : Basis) (short : Bool) (x : d.State) → d.StandsFor image x
      → read by s now id call image basis short ≡ read d.database s now id call image basis short
  read_same s id call image basis short x stands =
      ap (λ (o : Outcome). if short then showing s (refusing id reply.NoMemory ∷ [])
      else showing s (read_reply id (record { call = call; moment = now; basis = basis }) o.reply ∷ [])) (same image x call stands)

  turn_same : (s : Server) (id : ℕ) (call : List ℕ) (short : Bool) (x : d.State) → d.StandsFor s.image x
      → write_turn by m s now id call short ≡ write_turn d.database m s now id call short
  turn_same s id call short x stands =
      ap (λ (o : Outcome). if short then showing s (refusing id reply.NoMemory ∷ []) else turned d.database m s now id call o.image o.reply)
      (same s.image x call stands)

  write_same : (s : Server) (id : ℕ) (call : List ℕ) (short : Bool) (f : Option Flight) (x : d.State) → d.StandsFor s.image x
      → write_asked by m s now id call short f ≡ write_asked d.database m s now id call short f
  write_same s id call short None x stands = turn_same s id call short x stands
  write_same s id call short (Some f) x stands = refl

  served_same : (s : Server) (id : ℕ) (call : List ℕ) (writes short : Bool) (x y : d.State) → d.StandsFor s.image x → d.StandsFor (announced_image s) y
      → served by m s now id call writes short ≡ served d.database m s now id call writes short
  served_same s id call true short x y stands announced = write_same s id call short s.flight x stands
  served_same s id call false short x y stands announced =
      read_same s id call (announced_image s) (Announced_image (told_version s.phase s.version)) short y announced

  elsewhere_same : (s : Server) (id : ℕ) (call : List ℕ) (writes short may_read : Bool) (x : d.State) → d.StandsFor s.image x
      → asked_elsewhere by m s now id call writes short may_read ≡ asked_elsewhere d.database m s now id call writes short may_read
  elsewhere_same s id call true short may_read x stands = refl
  elsewhere_same s id call false short true x stands = read_same s id call s.image (Beacon_image s.version) short x stands
  elsewhere_same s id call false short false x stands = refl

  as_same : (s : Server) (id : ℕ) (call : List ℕ) (short : Bool) (o : Option Bool) (x y : d.State) → d.StandsFor s.image x → d.StandsFor (announced_image s) y
      → asked_as by m s now id call short o ≡ asked_as d.database m s now id call short o
  as_same s id call short None x y stands announced = refl
  as_same s id call short (Some writes) x y stands announced =
      both_same (leased m s now) _ _ _ _ (both_same (is_ready s.phase) _ _ _ _ (served_same s id call writes short x y stands announced) refl)
      (elsewhere_same s id call writes short (allows_reads s.version now s.beacon) x stands)

  asked_same : (s : Server) (id : ℕ) (call : List ℕ) (short : Bool) (x y : d.State) → d.StandsFor s.image x → d.StandsFor (announced_image s) y
      → asked by m s now id call short ≡ asked d.database m s now id call short
  asked_same s id call short x y stands announced = as_same s id call short (d.database.writes call) x y stands announced

-- ---- what a turn leaves

-- the image stands for a state
abbrev Stands : Standing → Stepped → Type 0
Stands d t = (x : d.State) × d.StandsFor t.server.image x

module _ (d : Standing) (keeps : KeepsStates d) (m : Member) (now : ℕ) where
  in_stands : (s : Server) (id : ℕ) (call answer image : List ℕ) (changes : List Change) (phase : PhaseRecord) (x y : d.State) → d.StandsFor s.image x
      → d.StandsFor image y → Stands d (written_in m s now id call answer image changes phase)
  in_stands s id call answer image changes NoPhase x y stands after = (x, stands)
  in_stands s id call answer image changes (Poll poll) x y stands after = (x, stands)
  in_stands s id call answer image changes (Fetch poll best host) x y stands after = (x, stands)
  in_stands s id call answer image changes (Relabel poll) x y stands after = (x, stands)
  in_stands s id call answer image changes (Send poll spread) x y stands after = (x, stands)
  in_stands s id call answer image changes (Ready poll spread announced) x y stands after =
      let begun = own_write_begun m s now id call answer image changes poll spread in
      (y, subst (λ (i : List ℕ). d.StandsFor i y) (sym (settled_image m begun.server begun.server.phase)) after)

  small_stands : (s : Server) (id : ℕ) (call answer image : List ℕ) (changes : List Change) (x y : d.State) → d.StandsFor s.image x → d.StandsFor image y
      → Stands d (written_small m s now id call answer image changes)
  small_stands s id call answer image [] x y stands after = (x, stands)
  small_stands s id call answer image (change ∷ changes) x y stands after =
      cond_both (s.version.counter == MAX_COUNTER) _ _ (Stands d) (λ _. (x, stands))
      (λ _. in_stands s id call answer image (change ∷ changes) s.phase x y stands after)

  within_stands : (s : Server) (id : ℕ) (call answer image : List ℕ) (changes : List Change) (passed : Option ℕ) (x y : d.State) → d.StandsFor s.image x
      → d.StandsFor image y → Stands d (written_within m s now id call answer image changes passed)
  within_stands s id call answer image changes (Some bytes) x y stands after = (x, stands)
  within_stands s id call answer image changes None x y stands after = small_stands s id call answer image changes x y stands after

  turned_stands : (s : Server) (id : ℕ) (call image : List ℕ) (r : CallReply) (x y : d.State) → d.StandsFor s.image x → d.StandsFor image y
      → Stands d (turned d.database m s now id call image r)
  turned_stands s id call image (call_reply.Done answer) x y stands after =
      let changes = changes_of d.database s.image image in
      within_stands s id call answer image changes (too_large 0 (length s.image) changes) x y stands after
  turned_stands s id call image (call_reply.Rule number) x y stands after = (x, stands)
  turned_stands s id call image call_reply.Malformed x y stands after = (x, stands)
  turned_stands s id call image (call_reply.BadRecord at) x y stands after = (x, stands)

  turn_stands : (s : Server) (id : ℕ) (call : List ℕ) (short : Bool) (x : d.State) → d.StandsFor s.image x
      → Stands d (write_turn d.database m s now id call short)
  turn_stands s id call true x stands = (x, stands)
  turn_stands s id call false x stands =
      let o = d.database.call s.image now call in
      let after = keeps s.image x now call stands in
      turned_stands s id call o.image o.reply x after.0 stands after.1

-- ---- the turns of the line, and what leads to them

module _ (d : Standing) (keeps : KeepsStates d) (m : Member) (now : ℕ) where
  turns_same : (calls : ℕ → List ℕ → ℕ → List ℕ → Outcome)
      → ((k : ℕ) (image : List ℕ) (x : d.State) (call : List ℕ) → d.StandsFor image x → calls k image now call ≡ d.database.call image now call)
      → (waiting : List Waiting) (s : Server) (short : List Bool) (x : d.State) → d.StandsFor s.image x
      → next_turns (λ k. record d.database { call = calls k }) m now waiting s short ≡ next_turns (always d.database) m now waiting s short
  turns_same calls same [] s short x stands = refl
  turns_same calls same (w ∷ waiting) s short x stands =
      let before = record s { waiting = waiting } in
      let t = write_turn d.database m before now w.id w.call (is_short short) in
      let after = turn_stands d keeps m now before w.id w.call (is_short short) x stands in
      both_same (is_free s) _ _ _ _
      (ap (λ (t : Stepped). followed t (λ after. next_turns (λ k. record d.database { call = calls (suc k) }) m now waiting after (short_after t.shown short)))
      (turn_same d (calls 0) m now (same 0) before w.id w.call (is_short short) x stands)
      ∙ followed_same t (λ after. next_turns (λ k. record d.database { call = calls (suc k) }) m now waiting after (short_after t.shown short))
      (λ after. next_turns (always d.database) m now waiting after (short_after t.shown short)) (turns_same (λ k. calls (suc k)) (λ k. same (suc k)) waiting t.server (short_after t.shown short) after.0 after.1))
      refl

  module _ (calls : ℕ → List ℕ → ℕ → List ℕ → Outcome)
      (same : (k : ℕ) (image : List ℕ) (x : d.State) (call : List ℕ) → d.StandsFor image x → calls k image now call ≡ d.database.call image now call) where
    abbrev dbs : Databases
    dbs k = record d.database { call = calls k }

    settles_same : (s : Server) (short : List Bool) (x : d.State) → d.StandsFor s.image x
        → settled_with_turns dbs m s now short ≡ settled_with_turns (always d.database) m s now short
    settles_same s short x stands =
        let t = settled m s in
        followed_same t (λ after. next_turns dbs m now after.waiting after (short_after t.shown short))
        (λ after. next_turns (always d.database) m now after.waiting after (short_after t.shown short)) (turns_same calls same t.server.waiting t.server (short_after t.shown short) x
        (subst (λ (i : List ℕ). d.StandsFor i x) (sym (settled_image m s s.phase)) stands))

    holder_same : (s : Server) (k : ℕ) (short : List Bool) (x : d.State) → d.StandsFor s.image x
        → holder_added dbs m s now k short ≡ holder_added (always d.database) m s now k short
    holder_same s k short x stands = settles_same (with_phase s (held_by s.phase k)) short x stands

    told_same_by : (s : Server) (host : Host) (k : ℕ) (poll : Polled) (spread : Spread) (number : ℕ) (version : Version) (short : List Bool) (x : d.State)
        → d.StandsFor s.image x → told_to_spread dbs m s now host k poll spread number version short
        ≡ told_to_spread (always d.database) m s now host k poll spread number version short
    told_same_by s host k poll spread number version short x stands =
        both_same (number == poll.number) _ _ _ _ (both_same (version_eq version s.version) _ _ _ _ (holder_same s k short x stands) refl) refl

    version_same : (s : Server) (host : Host) (k number : ℕ) (version : Version) (short : List Bool) (phase : PhaseRecord) (x : d.State)
        → d.StandsFor s.image x → version_is_received dbs m s now host k number version short phase
        ≡ version_is_received (always d.database) m s now host k number version short phase
    version_same s host k number version short NoPhase x stands = refl
    version_same s host k number version short (Poll poll) x stands = refl
    version_same s host k number version short (Fetch poll best from) x stands = refl
    version_same s host k number version short (Relabel poll) x stands = refl
    version_same s host k number version short (Send poll spread) x stands = told_same_by s host k poll spread number version short x stands
    version_same s host k number version short (Ready poll spread announced) x stands =
        told_same_by s host k poll spread number version short x stands

    kept_same : (s : Server) (k : ℕ) (version : Version) (short : List Bool) (phase : PhaseRecord) (x : d.State) → d.StandsFor s.image x
        → version_kept_received dbs m s now k version short phase ≡ version_kept_received (always d.database) m s now k version short phase
    kept_same s k version short NoPhase x stands = refl
    kept_same s k version short (Poll poll) x stands = refl
    kept_same s k version short (Fetch poll best from) x stands = refl
    kept_same s k version short (Relabel poll) x stands = refl
    kept_same s k version short (Send poll spread) x stands =
        both_same (version_eq version s.version) _ _ _ _ (holder_same s k short x stands) refl
    kept_same s k version short (Ready poll spread announced) x stands =
        both_same (version_eq version s.version) _ _ _ _ (holder_same s k short x stands) refl

    received_same : (s : Server) (host : Host) (k : ℕ) (b : Body) (short : List Bool) (x : d.State) → d.StandsFor s.image x
        → received_from dbs m s now host k b short ≡ received_from (always d.database) m s now host k b short
    received_same s host k (body.Beacon start claim ready version) short x stands = refl
    received_same s host k (body.Vote start granted) short x stands = refl
    received_same s host k (body.GetVersion poll) short x stands = refl
    received_same s host k (body.VersionIs poll version) short x stands = version_same s host k poll version short s.phase x stands
    received_same s host k (body.GetPiece poll version offset) short x stands = refl
    received_same s host k (body.Piece poll version total offset bytes) short x stands = refl
    received_same s host k (body.SendPiece poll version total offset bytes) short x stands = refl
    received_same s host k (body.PieceKept poll version next) short x stands = refl
    received_same s host k (body.SetVersion poll old new) short x stands = refl
    received_same s host k (body.Begin old new pieces len) short x stands = refl
    received_same s host k (body.PutPiece new number bytes) short x stands = refl
    received_same s host k (body.Commit old new) short x stands = refl
    received_same s host k (body.Abort new) short x stands = refl
    received_same s host k (body.VersionKept version) short x stands = kept_same s k version short s.phase x stands

    packet_same : (s : Server) (p : Packet) (short : List Bool) (place : Option ℕ) (x : d.State) → d.StandsFor s.image x
        → received_packet dbs m s now p short place ≡ received_packet (always d.database) m s now p short place
    packet_same s p short None x stands = refl
    packet_same s p short (Some k) x stands = received_same s p.from k p.body short x stands

    event_same : (s : Server) (e : NodeEvent) (short : List Bool) (x y : d.State) → d.StandsFor s.image x → d.StandsFor (announced_image s) y
        → handled dbs m s now e short ≡ handled (always d.database) m s now e short
    event_same s (event.Packet p) short x y stands announced = packet_same s p short (place_of m.hosts p.from) x stands
    event_same s event.BeaconTurn short x y stands announced = refl
    event_same s event.RecoverTurn short x y stands announced = refl
    event_same s (event.Ask id call) short x y stands announced =
        asked_same d (calls 0) m now (same 0) s id call (is_short short) x y stands announced

    -- what a lapse leaves: the image, and as the announced one either that or the one before
    lapsed_stands : (s : Server) (x y : d.State) → d.StandsFor s.image x → d.StandsFor (announced_image s) y
        → (after : Server) → after ≡ (lapsed m s now).server
        → d.StandsFor after.image x × ((z : d.State) × d.StandsFor (announced_image after) z)
    lapsed_stands s x y stands announced after is =
        let P : Server → Type 0 = λ after. d.StandsFor after.image x × ((z : d.State) × d.StandsFor (announced_image after) z) in
        subst P (sym is) (cond_both (leased m s now) _ _ (λ (t : Stepped). P t.server) (λ _. by s.flight refl) (λ _. (stands, (x, stands))))
      where
        by : (f : Option Flight) → s.flight ≡ f
            → (let after = (write_lapsed m s now f).server in d.StandsFor after.image x × ((z : d.State) × d.StandsFor (announced_image after) z))
        by None at = (stands, (y, announced))
        by (Some f) at =
            cond_both (nat_lt (f.began + SMALLTIME) now) _ _
            (λ (t : Stepped). d.StandsFor t.server.image x × ((z : d.State) × d.StandsFor (announced_image t.server) z))
            (λ _. (stands, (x, stands))) (λ _. (stands, (y, announced)))

-- A step whose evaluations are told by a list is the world's, where the image and the announced one stand for states.
pub step_is_meant : (d : Standing) → KeepsStates d → (told : Told) → MayAllCome d told
    → (m : Member) (s : Server) (now : ℕ) (e : NodeEvent) (short : List Bool) (x y : d.State) → d.StandsFor s.image x → d.StandsFor (announced_image s) y
    → step_by (told_by d.database told) m s now e short ≡ step_of d.database m s now e short
unfolding step_by
step_is_meant d keeps told all m s now e short x y stands announced =
    let t = lapsed m s now in
    let calls = λ (k : ℕ). outcome_told (told_at told k) d.database in
    let same = λ (k : ℕ) (image : List ℕ) (x : d.State) (call : List ℕ) (stands : d.StandsFor image x).
    told_same d told all k image x now call stands in
    let after = lapsed_stands d keeps m now calls same s x y stands announced t.server refl in
    followed_same t (λ after. handled (told_by d.database told) m after now e (short_after t.shown short))
    (λ after. handled (always d.database) m after now e (short_after t.shown short)) (event_same d keeps m now calls same t.server e (short_after t.shown short) x after.1.0 after.0 after.1.1)
