-- The turns of writing calls, and what a step goes on to.
use Rattle.std.proofs.Common.{◌≡◌, ◌++◌, ℕ, zero, suc, Bool, true, false, cond, Option, Some, None, List, [], ◌∷◌, drop, replicate, refl, sym, ap, ◌∙◌}
use Rattle.std.specs.Prelude.{◌&&◌, ◌||◌, is_none, not}
use Rattle.std.proofs.lemmas.Bool.{cond_both, false≢true}
use Rattle.std.proofs.lemmas.List.{append-nil}
use Rattle.ubik_types.specs.declared.versions.Version.{Version}
use Rattle.ubik_types.specs.Phase.{Polled, Spread, PhaseRecord, Ready, Send, phase_of}
use Rattle.ubik_types.specs.Quorum.{is_majority}
use Rattle.db_image.specs.Database.{Database}
use Rattle.cell_model.specs.declared.events.NodeEvent.{NodeEvent}
use Rattle.cell_model.specs.Asks.{allows_reads, asked_as}
use Rattle.cell_model.specs.Evaluating.{Databases, behind_first}
use Rattle.cell_model.specs.Lapse.{lapsed}
use Rattle.cell_model.specs.Node.{Flight, Server, Waiting, halted_from}
use Rattle.cell_model.specs.NodeRule.{handled, step_by}
use Rattle.cell_model.specs.Step.{Member, Stepped, announcing, cell_size, followed, is_ready, is_short, leased, quiet, short_after, showing, with_phase}
use Rattle.cell_model.specs.Writes.{ended_write, flight_settled, is_free, next_turns, settled, settled_in, settled_with_turns, write_turn}
use Rattle.state_laws.specs.Over.{over, replies}
use Rattle.state_laws.specs.Waiting.{first_turn, short_behind, stepped, with_line}
use Rattle.state_laws.proofs.Over.{lapsed_over, settled_over}

pub drop_none : {A : Type 0} (xs : List A) → drop 0 xs ≡ xs
drop_none [] = refl
drop_none (first ∷ rest) = refl

drop_past : (n : ℕ) (short : List Bool) → drop n (replicate n false ++ short) ≡ short
drop_past zero short = drop_none short
drop_past (suc n) short = drop_past n short

-- ---- turns

pub turns_rest : (dbs : Databases) (m : Member) (now : ℕ) (waiting : List Waiting) (s : Server) (short : List Bool) → is_free s ≡ false
    → next_turns dbs m now waiting s short ≡ quiet s
turns_rest dbs m now [] s short busy = refl
turns_rest dbs m now (w ∷ waiting) s short busy = rw busy refl

-- the first of those that wait has its turn, and then the others
abbrev turns_from : Databases → Member → ℕ → List Waiting → Stepped → List Bool → Stepped
turns_from dbs m now waiting t short = followed t (λ after. next_turns (behind_first dbs) m now waiting after (short_after t.shown short))

turns_first : (dbs : Databases) (m : Member) (now : ℕ) (w : Waiting) (waiting : List Waiting) (s : Server) (short : List Bool) → is_free s ≡ true
    → next_turns dbs m now (w ∷ waiting) s short ≡ turns_from dbs m now waiting (first_turn dbs m now s w waiting (is_short short)) short
turns_first dbs m now w waiting s short free = rw free refl

followed_rest : (t : Stepped) (next : Server → Stepped) → next t.server ≡ quiet t.server → followed t next ≡ t
followed_rest t next is = rw (is, append-nil t.calls, append-nil t.shown) refl

module _ (dbs : Databases) (m : Member) (s : Server) (now : ℕ) (w : Waiting) (waiting : List Waiting) (b : Bool) (free : is_free s ≡ true) (line : s.waiting ≡ w ∷ waiting) where
  abbrev turn : Stepped
  turn = first_turn dbs m now s w waiting b

  first : (short : List Bool) → next_turns dbs m now s.waiting s (b ∷ short) ≡ turns_from dbs m now waiting turn (b ∷ short)
  first short = ap (λ (those : List Waiting). next_turns dbs m now those s (b ∷ short)) line ∙ turns_first dbs m now w waiting s (b ∷ short) free

  -- after it no write can begin
  pub turn_alone : is_free turn.server ≡ false → next_turns dbs m now s.waiting s (b ∷ []) ≡ turn
  turn_alone busy =
      first []
      ∙ followed_rest turn (λ after. next_turns (behind_first dbs) m now waiting after (short_after turn.shown (b ∷ [])))
      (turns_rest (behind_first dbs) m now waiting turn.server (short_after turn.shown (b ∷ [])) busy)

  -- its call was replied to, and nothing changed
  pub turn_then : (short : List Bool)
      → (let u = next_turns (behind_first dbs) m now waiting (with_line s waiting) short in
      turn.server ≡ with_line s waiting → turn.calls ≡ [] → replies turn.shown ≡ 1
      → next_turns dbs m now s.waiting s (b ∷ short) ≡ stepped u.server u.calls (turn.shown ++ u.shown))
  turn_then short same calls one = first short ∙ rw (one, drop_none short, same, calls) refl

-- a writing call that is evaluated
pub turn_asked : (db : Database) (m : Member) (s : Server) (now id : ℕ) (call : List ℕ) (short : Bool) (image : List ℕ) (writes : Bool) → writes ≡ true
    → cond (leased m s now) (is_ready s.phase && (not writes || is_none s.flight)) (not writes && allows_reads s.version now s.beacon) ≡ true
    → asked_as db m (over s image) now id call short (Some writes) ≡ write_turn db m (over s image) now id call short
turn_asked db m s now id call short image writes does evaluated = rw does (by (leased m s now) refl (is_ready s.phase) refl s.flight refl (rw does at evaluated))
  where
    by : (l : Bool) → leased m s now ≡ l → (r : Bool) → is_ready s.phase ≡ r → (o : Option Flight) → s.flight ≡ o → cond l (r && (false || is_none o)) false ≡ true
        → asked_as db m (over s image) now id call short (Some true) ≡ write_turn db m (over s image) now id call short
    by true held true ready None free evaluated = rw (held, ready, free) refl
    by true held true ready (Some f) free evaluated = absurd (false≢true evaluated)
    by true held false ready o free evaluated = absurd (false≢true evaluated)
    by false held r ready o free evaluated = absurd (false≢true evaluated)

-- ---- after the lapse

pub step_comes : (dbs : Databases) (m : Member) (s mid : Server) (now : ℕ) (e : NodeEvent) (short : List Bool) → (lapsed m s now).server ≡ mid → (lapsed m s now).calls ≡ []
    → (let u = handled dbs m mid now e short in
    step_by dbs m s now e (short_behind (lapsed m s now).shown short) ≡ stepped u.server u.calls ((lapsed m s now).shown ++ u.shown))
unfolding step_by
step_comes dbs m s mid now e short server calls = rw (drop_past (replies (lapsed m s now).shown) short, server, calls) refl

-- so over each image
pub step_comes_over : (dbs : Databases) (m : Member) (s mid : Server) (now : ℕ) (e : NodeEvent) (short : List Bool) (image : List ℕ) → (lapsed m s now).server ≡ mid → (lapsed m s now).calls ≡ []
    → (let u = handled dbs m (over mid image) now e short in
    step_by dbs m (over s image) now e (short_behind (lapsed m s now).shown short) ≡ stepped u.server u.calls ((lapsed m s now).shown ++ u.shown))
unfolding step_by
step_comes_over dbs m s mid now e short image server calls =
    rw (lapsed_over m s now image, drop_past (replies (lapsed m s now).shown) short, server, calls) refl

-- ---- what holders lead to

-- a version that was sent is announced, a write is over, or nothing changes
pub settled_is : (m : Member) (s : Server) (P : Stepped → Type 0) → P (quiet s)
    → ((poll : Polled) (spread : Spread) → s.phase ≡ Send poll spread → P (showing (with_phase s (Ready poll spread s.version)) (announcing s.version ∷ [])))
    → ((poll : Polled) (spread : Spread) (announced : Version) (f : Flight) → s.phase ≡ Ready poll spread announced → P (ended_write s f poll spread announced))
    → P (settled m s)
settled_is m s P rests sent over = by s.phase refl
  where
    by_flight : (poll : Polled) (spread : Spread) (announced : Version) → s.phase ≡ Ready poll spread announced → (o : Option Flight)
        → P (flight_settled m s poll spread announced o)
    by_flight poll spread announced is None = rests
    by_flight poll spread announced is (Some f) =
        cond_both (is_majority (cell_size m) spread.holders) _ _ P (λ _. over poll spread announced f is) (λ _. rests)

    by : (p : PhaseRecord) → s.phase ≡ p → P (settled_in m s p)
    by (Send poll spread) is = cond_both (is_majority (cell_size m) spread.holders) _ _ P (λ _. sent poll spread is) (λ _. rests)
    by (Ready poll spread announced) is = by_flight poll spread announced is s.flight
    by other is = rests

pub settled_calls : (m : Member) (s : Server) → (settled m s).calls ≡ []
settled_calls m s = settled_is m s (λ (t : Stepped). t.calls ≡ []) refl (λ poll spread is. refl) (λ poll spread announced f is. refl)

pub settled_line : (m : Member) (s : Server) → (settled m s).server.waiting ≡ s.waiting
settled_line m s =
    settled_is m s (λ (t : Stepped). t.server.waiting ≡ s.waiting) refl (λ poll spread is. refl) (λ poll spread announced f is. refl)

pub settled_comes : (dbs : Databases) (m : Member) (s mid : Server) (now : ℕ) (short : List Bool) → (settled m s).server ≡ mid → (settled m s).calls ≡ []
    → (let u = next_turns dbs m now mid.waiting mid short in
    settled_with_turns dbs m s now (short_behind (settled m s).shown short) ≡ stepped u.server u.calls ((settled m s).shown ++ u.shown))
settled_comes dbs m s mid now short server calls = rw (drop_past (replies (settled m s).shown) short, server, calls) refl

-- so over each image
pub settled_comes_over : (dbs : Databases) (m : Member) (s mid : Server) (now : ℕ) (short : List Bool) (image : List ℕ) → (settled m s).server ≡ mid → (settled m s).calls ≡ []
    → (let u = next_turns dbs m now mid.waiting (over mid image) short in
    settled_with_turns dbs m (over s image) now (short_behind (settled m s).shown short) ≡ stepped u.server u.calls ((settled m s).shown ++ u.shown))
settled_comes_over dbs m s mid now short image server calls =
    rw (settled_over m s image, drop_past (replies (settled m s).shown) short, server, calls) refl

-- A server that serves goes on to, as a halted one tells; so does one at which nobody waits, or one whose disk does not fail.
pub settled_halts : (m : Member) (s mid : Server) → (settled m s).server ≡ mid → (is_ready s.phase ≡ false → halted_from mid ≡ halted_from s) → halted_from mid ≡ halted_from s
settled_halts m s mid is rests = by (is_ready s.phase) refl
  where
    by : (b : Bool) → is_ready s.phase ≡ b → halted_from mid ≡ halted_from s
    by true ready =
        sym (ap halted_from is) ∙ settled_is m s (λ (t : Stepped). halted_from t.server ≡ halted_from s) refl
        (λ poll spread sends. absurd (false≢true (ap is_ready (sym sends) ∙ ready)))
        (λ poll spread announced f serves. ap (λ (p : PhaseRecord). record (halted_from s) { phase = phase_of p }) (sym serves))
    by false ready = rests ready
