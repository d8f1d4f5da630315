-- The rules of asks and of the writes of a sync site: each step is sound.
use Rattle.std.proofs.Common.{◌≡◌, inl, inr, ℕ, ◌==◌, Bool, true, List, [], ◌∷◌, length, refl, sym, subst}
use Rattle.std.proofs.lemmas.Bool.{cond_both}
use Rattle.std.specs.Prelude.{nat_le, Option, Some, None}
use Rattle.lock_table.specs.declared.tables.TheConstants.{MAX_WAITING}
use Rattle.ubik_types.specs.declared.images.Change.{Change}
use Rattle.ubik_types.specs.declared.phases.Phase.TheVariants as phases
use Rattle.ubik_types.specs.declared.versions.TheConstants.{MAX_COUNTER}
use Rattle.ubik_types.specs.declared.versions.Version.{Version}
use Rattle.ubik_types.specs.Logged.{too_large}
use Rattle.ubik_types.specs.Quorum.{is_majority}
use Rattle.ubik_types.specs.Phase.{Polled, Spread, PhaseRecord, NoPhase, Poll, Fetch, Relabel, Send, Ready}
use Rattle.ubik_types.specs.Votes.{sync_heard}
use Rattle.ubik_calls.specs.declared.replies.Reply.{Reply}
use Rattle.ubik_calls.specs.declared.replies.Reply.TheVariants as reply
use Rattle.db_image.specs.declared.services.CallReply.{CallReply}
use Rattle.db_image.specs.declared.services.CallReply.TheVariants as call_reply
use Rattle.db_image.specs.Database.{Database, changes_of}
use Rattle.cell_model.specs.declared.events.Output.TheVariants as output
use Rattle.cell_model.specs.Asks.{read_reply, read, write_asked, served, allows_reads, not_served, asked_elsewhere, asked_as, asked}
use Rattle.cell_model.specs.Causes.{IsCaused}
use Rattle.cell_model.specs.Evaluating.{always}
use Rattle.cell_model.specs.Node.{Server, Flight, Waiting}
use Rattle.cell_model.specs.Step.{Member, cell_size, Basis, Announced_image, Beacon_image, Evaluation, Stepped, showing, leased, is_ready, told_version, refusing, is_short, short_after}
use Rattle.cell_model.specs.Writes.{announced_image, own_write_begun, flight_settled, settled_in, settled, written_in, written_changes, written_small, written_within, turned, write_turn, is_free, next_turns, settled_with_turns}
use Rattle.cell_model.proofs.Sound.{AreCaused, IsSound, state_of, sends_caused, either, shows, follows}
use Rattle.cell_model.proofs.SoundReceiver.{waiting_caused}

-- each of these calls stands under its id
abbrev pub AllStand : (ℕ → List ℕ → Type 0) → List Waiting → Type 0
AllStand Stands [] = Unit {0}
AllStand Stands (w ∷ waiting) = Stands w.id w.call × AllStand Stands waiting

module _ (db : Database) (now : ℕ) (Stands : ℕ → List ℕ → Type 0) where
  -- one reply
  replies : (short : List Bool) (s : Server) (id : ℕ) (r : Reply) (e : Option Evaluation) → IsCaused db now Stands short id r → IsSound db now Stands short (state_of s) (showing s (record { output = output.Reply id r; evaluation = e } ∷ []))
  replies short s id r e caused = record { leads = refl; caused = (caused, tt) }

  -- ---- a write and its end

  flight_settled_is : (m : Member) (s : Server) (poll : Polled) (spread : Spread) (announced : Version) (f : Option Flight) (short : List Bool) → IsSound db now Stands short (state_of s) (flight_settled m s poll spread announced f)
  flight_settled_is m s poll spread announced None short = shows db now Stands short s [] tt
  flight_settled_is m s poll spread announced (Some f) short =
      either db now Stands (is_majority (cell_size m) spread.holders) (record { leads = refl; caused = (tt, (tt, tt)) }) (shows db now Stands short s [] tt)

  settled_in_is : (m : Member) (s : Server) (phase : PhaseRecord) (short : List Bool) → IsSound db now Stands short (state_of s) (settled_in m s phase)
  settled_in_is m s NoPhase short = shows db now Stands short s [] tt
  settled_in_is m s (Poll poll) short = shows db now Stands short s [] tt
  settled_in_is m s (Fetch poll best host) short = shows db now Stands short s [] tt
  settled_in_is m s (Relabel poll) short = shows db now Stands short s [] tt
  settled_in_is m s (Send poll spread) short =
      either db now Stands (is_majority (cell_size m) spread.holders) (record { leads = refl; caused = (tt, tt) }) (shows db now Stands short s [] tt)
  settled_in_is m s (Ready poll spread announced) short = flight_settled_is m s poll spread announced s.flight short

  pub settled_is : (m : Member) (s : Server) (short : List Bool) → IsSound db now Stands short (state_of s) (settled m s)
  settled_is m s short = settled_in_is m s s.phase short

  written_in_is : (m : Member) (s : Server) (id : ℕ) (call answer image : List ℕ) (changes : List Change) (phase : PhaseRecord) (short : List Bool) → IsSound db now Stands short (state_of s) (written_in m s now id call answer image changes phase)
  written_in_is m s id call answer image changes NoPhase short = shows db now Stands short s [] tt
  written_in_is m s id call answer image changes (Poll poll) short = shows db now Stands short s [] tt
  written_in_is m s id call answer image changes (Fetch poll best host) short = shows db now Stands short s [] tt
  written_in_is m s id call answer image changes (Relabel poll) short = shows db now Stands short s [] tt
  written_in_is m s id call answer image changes (Send poll spread) short = shows db now Stands short s [] tt
  written_in_is m s id call answer image changes (Ready poll spread announced) short =
      let t = own_write_begun m s now id call answer image changes poll spread in
      follows db now Stands t (settled m) (record { leads = refl; caused = sends_caused db now Stands m _ short }) (settled_is m t.server _)

  written_changes_is : (m : Member) (s : Server) (id : ℕ) (call answer image : List ℕ) (changes : List Change) (short : List Bool) → IsSound db now Stands short (state_of s) (written_changes m s now id call answer image changes)
  written_changes_is m s id call answer image changes short =
      either db now Stands (s.version.counter == MAX_COUNTER)
      (record { leads = refl; caused = (tt, waiting_caused db now Stands s.waiting m s now phases.Poll _) })
      (written_in_is m s id call answer image changes s.phase short)

  written_small_is : (m : Member) (s : Server) (id : ℕ) (call answer image : List ℕ) (changes : List Change) (short : List Bool) → IsSound db now Stands short (state_of s) (written_small m s now id call answer image changes)
  written_small_is m s id call answer image [] short = record { leads = refl; caused = (tt, tt) }
  written_small_is m s id call answer image (change ∷ changes) short = written_changes_is m s id call answer image (change ∷ changes) short

  written_within_is : (m : Member) (s : Server) (id : ℕ) (call answer image : List ℕ) (changes : List Change) (passed : Option ℕ) (short : List Bool) → IsSound db now Stands short (state_of s) (written_within m s now id call answer image changes passed)
  written_within_is m s id call answer image changes None short = written_small_is m s id call answer image changes short
  written_within_is m s id call answer image changes (Some bytes) short = record { leads = refl; caused = (tt, tt) }

  -- ---- a turn

  turned_is : (m : Member) (s : Server) (id : ℕ) (call image : List ℕ) (r : CallReply) (short : List Bool) → Stands id call → (db.call s.image now call).reply ≡ r → IsSound db now Stands short (state_of s) (turned db m s now id call image r)
  turned_is m s id call image (call_reply.Done answer) short stands is =
      written_within_is m s id call answer image (changes_of db s.image image) (too_large 0 (length s.image) (changes_of db s.image image)) short
  turned_is m s id call image (call_reply.Rule number) short stands is = record { leads = refl; caused = (tt, tt) }
  turned_is m s id call image call_reply.Malformed short stands is = record { leads = refl; caused = ((call, (stands, inr (s.image, is))), tt) }
  turned_is m s id call image (call_reply.BadRecord at) short stands is = record { leads = refl; caused = (tt, tt) }

  -- for want of memory, where the choices say so
  no_memory : (short : List Bool) (s : Server) (id : ℕ) → is_short short ≡ true → IsSound db now Stands short (state_of s) (showing s (refusing id reply.NoMemory ∷ []))
  no_memory short s id is = record { leads = refl; caused = (is, tt) }

  turn_is : (m : Member) (s : Server) (id : ℕ) (call : List ℕ) (short : List Bool) → Stands id call → IsSound db now Stands short (state_of s) (write_turn db m s now id call (is_short short))
  turn_is m s id call short stands =
      cond_both (is_short short) _ _ (IsSound db now Stands short (state_of s)) (λ is. no_memory short s id is)
      (λ _. turned_is m s id call (db.call s.image now call).image (db.call s.image now call).reply short stands refl)

  next_turns_is : (m : Member) (waiting : List Waiting) (s : Server) (short : List Bool) → AllStand Stands waiting → IsSound db now Stands short (state_of s) (next_turns (always db) m now waiting s short)
  next_turns_is m [] s short all = shows db now Stands short s [] tt
  next_turns_is m (w ∷ waiting) s short all =
      let t = write_turn db m (record s { waiting = waiting }) now w.id w.call (is_short short) in
      either db now Stands (is_free s)
      (follows db now Stands t (λ after. next_turns (always db) m now waiting after (short_after t.shown short))
      (turn_is m (record s { waiting = waiting }) w.id w.call short all.0) (next_turns_is m waiting t.server _ all.1))
      (shows db now Stands short s [] tt)

  -- what settles leaves those that wait
  flight_waits : (m : Member) (s : Server) (poll : Polled) (spread : Spread) (announced : Version) (f : Option Flight) → (flight_settled m s poll spread announced f).server.waiting ≡ s.waiting
  flight_waits m s poll spread announced None = refl
  flight_waits m s poll spread announced (Some f) =
      cond_both (is_majority (cell_size m) spread.holders) _ _ (λ (t : Stepped). t.server.waiting ≡ s.waiting) (λ _. refl) (λ _. refl)

  settled_waits : (m : Member) (s : Server) (phase : PhaseRecord) → (settled_in m s phase).server.waiting ≡ s.waiting
  settled_waits m s NoPhase = refl
  settled_waits m s (Poll poll) = refl
  settled_waits m s (Fetch poll best host) = refl
  settled_waits m s (Relabel poll) = refl
  settled_waits m s (Send poll spread) =
      cond_both (is_majority (cell_size m) spread.holders) _ _ (λ (t : Stepped). t.server.waiting ≡ s.waiting) (λ _. refl) (λ _. refl)
  settled_waits m s (Ready poll spread announced) = flight_waits m s poll spread announced s.flight

  pub settled_with_turns_is : (m : Member) (s : Server) (short : List Bool) → AllStand Stands s.waiting → IsSound db now Stands short (state_of s) (settled_with_turns (always db) m s now short)
  settled_with_turns_is m s short all =
      let t = settled m s in
      follows db now Stands t (λ after. next_turns (always db) m now after.waiting after (short_after t.shown short)) (settled_is m s short)
      (next_turns_is m t.server.waiting t.server _ (subst (AllStand Stands) (sym (settled_waits m s s.phase)) all))

  -- ---- asks

  read_caused : (id : ℕ) (e : Evaluation) (short : List Bool) (image : List ℕ) (r : CallReply) → Stands id e.call → (db.call image now e.call).reply ≡ r → AreCaused db now Stands short (read_reply id e r ∷ [])
  read_caused id e short image (call_reply.Done answer) stands is = (tt, tt)
  read_caused id e short image (call_reply.Rule number) stands is = (tt, tt)
  read_caused id e short image call_reply.Malformed stands is = ((e.call, (stands, inr (image, is))), tt)
  read_caused id e short image (call_reply.BadRecord at) stands is = (tt, tt)

  read_is : (s : Server) (id : ℕ) (call image : List ℕ) (basis : Basis) (short : List Bool) → Stands id call → IsSound db now Stands short (state_of s) (read db s now id call image basis (is_short short))
  read_is s id call image basis short stands =
      cond_both (is_short short) _ _ (IsSound db now Stands short (state_of s)) (λ is. no_memory short s id is)
      (λ _. shows db now Stands short s (read_reply id (record { call = call; moment = now; basis = basis }) (db.call image now call).reply ∷ [])
      (read_caused id (record { call = call; moment = now; basis = basis }) short image (db.call image now call).reply stands refl))

  write_asked_is : (m : Member) (s : Server) (id : ℕ) (call : List ℕ) (short : List Bool) (f : Option Flight) → Stands id call → IsSound db now Stands short (state_of s) (write_asked db m s now id call (is_short short) f)
  write_asked_is m s id call short None stands = turn_is m s id call short stands
  write_asked_is m s id call short (Some f) stands =
      either db now Stands (nat_le MAX_WAITING (length s.waiting)) (record { leads = refl; caused = (tt, tt) })
      (cond_both (is_short short) _ _ (IsSound db now Stands short (state_of s)) (λ is. no_memory short s id is) (λ _. record { leads = refl; caused = tt }))

  served_is : (m : Member) (s : Server) (id : ℕ) (call : List ℕ) (writes : Bool) (short : List Bool) → Stands id call → IsSound db now Stands short (state_of s) (served db m s now id call writes (is_short short))
  served_is m s id call writes short stands =
      either db now Stands writes (write_asked_is m s id call short s.flight stands)
      (read_is s id call (announced_image s) (Announced_image (told_version s.phase s.version)) short stands)

  not_served_caused : (m : Member) (s : Server) (id : ℕ) (heard : Option (ℕ × ℕ)) (short : List Bool) → IsCaused db now Stands short id (not_served m s now heard)
  not_served_caused m s id None short = tt
  not_served_caused m s id (Some heard) short = cond_both (heard.0 == m.me) _ _ (λ r. IsCaused db now Stands short id r) (λ _. tt) (λ _. tt)

  elsewhere_is : (m : Member) (s : Server) (id : ℕ) (call : List ℕ) (writes : Bool) (short : List Bool) (may_read : Bool) → Stands id call → IsSound db now Stands short (state_of s) (asked_elsewhere db m s now id call writes (is_short short) may_read)
  elsewhere_is m s id call writes short may_read stands =
      either db now Stands writes unserved
      (either db now Stands may_read (read_is s id call s.image (Beacon_image s.version) short stands) unserved)
    where
      unserved : IsSound db now Stands short (state_of s) (showing s (refusing id (not_served m s now (sync_heard now s.votes)) ∷ []))
      unserved = replies short s id _ None (not_served_caused m s id (sync_heard now s.votes) short)

  asked_as_is : (m : Member) (s : Server) (id : ℕ) (call : List ℕ) (short : List Bool) (o : Option Bool) → Stands id call → db.writes call ≡ o → IsSound db now Stands short (state_of s) (asked_as db m s now id call (is_short short) o)
  asked_as_is m s id call short None stands is = record { leads = refl; caused = ((call, (stands, inl is)), tt) }
  asked_as_is m s id call short (Some writes) stands is =
      either db now Stands (leased m s now)
      (either db now Stands (is_ready s.phase) (served_is m s id call writes short stands) (replies short s id _ None tt))
      (elsewhere_is m s id call writes short (allows_reads s.version now s.beacon) stands)

  pub asked_is : (m : Member) (s : Server) (id : ℕ) (call : List ℕ) (short : List Bool) → Stands id call → IsSound db now Stands short (state_of s) (asked db m s now id call (is_short short))
  asked_is m s id call short stands = asked_as_is m s id call short (db.writes call) stands refl
