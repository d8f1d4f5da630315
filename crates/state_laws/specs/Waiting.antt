-- How the turns of writing calls go, one behind the other, and what a step goes on to (own).
use Rattle.std.specs.Prelude.{◌≡◌, ◌&&◌, ◌||◌, not, is_none, if◌then◌else◌, ℕ, Bool, true, false, List, [], ◌∷◌, ◌++◌, Some, replicate}
use Rattle.db_image.specs.Database.{Database}
use Rattle.cell_model.specs.declared.events.NodeEvent.{NodeEvent}
use Rattle.cell_model.specs.Asks.{allows_reads, asked_as}
use Rattle.cell_model.specs.Durable.{Made}
use Rattle.cell_model.specs.Evaluating.{Databases, behind_first}
use Rattle.cell_model.specs.Lapse.{lapsed}
use Rattle.cell_model.specs.Node.{Server, Waiting, halted_from}
use Rattle.cell_model.specs.NodeRule.{handled, step_by}
use Rattle.cell_model.specs.Step.{Member, Shown, Stepped, is_ready, leased, quiet}
use Rattle.cell_model.specs.Writes.{is_free, next_turns, settled, settled_with_turns, write_turn}
use Rattle.state_laws.specs.Over.{over, replies}

abbrev pub stepped : Server → List Made → List Shown → Stepped
stepped s calls shown = record { server = s; calls = calls; shown = shown }

abbrev pub with_line : Server → List Waiting → Server
with_line s waiting = record s { waiting = waiting }

-- the choices of a step that shows this first: those replies found memory, and then these
abbrev pub short_behind : List Shown → List Bool → List Bool
short_behind shown short = replicate (replies shown) false ++ short

-- the turn of the first of those that wait
abbrev pub first_turn : Databases → Member → ℕ → Server → Waiting → List Waiting → Bool → Stepped
first_turn dbs m now s w waiting short = write_turn (dbs 0) m (with_line s waiting) now w.id w.call short

-- The turns of writing calls. Where no write can begin nobody has one. The first of those that wait has its turn; after it no write can begin, or its
-- call was replied to, and the others have theirs. A writing call that is evaluated where it is asked has its turn.
pub record TurnsInLine : Type 0 where
  pub rest : (dbs : Databases) (m : Member) (now : ℕ) (waiting : List Waiting) (s : Server) (short : List Bool) → is_free s ≡ false
      → next_turns dbs m now waiting s short ≡ quiet s
  pub alone : (dbs : Databases) (m : Member) (s : Server) (now : ℕ) (w : Waiting) (waiting : List Waiting) (b : Bool) → is_free s ≡ true → s.waiting ≡ w ∷ waiting
      → is_free (first_turn dbs m now s w waiting b).server ≡ false → next_turns dbs m now s.waiting s (b ∷ []) ≡ first_turn dbs m now s w waiting b
  pub goes_on : (dbs : Databases) (m : Member) (s : Server) (now : ℕ) (w : Waiting) (waiting : List Waiting) (b : Bool) → is_free s ≡ true → s.waiting ≡ w ∷ waiting
      → (short : List Bool)
      → (let t = first_turn dbs m now s w waiting b in let u = next_turns (behind_first dbs) m now waiting (with_line s waiting) short in
      t.server ≡ with_line s waiting → t.calls ≡ [] → replies t.shown ≡ 1
      → next_turns dbs m now s.waiting s (b ∷ short) ≡ stepped u.server u.calls (t.shown ++ u.shown))
  pub asked : (db : Database) (m : Member) (s : Server) (now id : ℕ) (call : List ℕ) (short : Bool) (image : List ℕ) (writes : Bool) → writes ≡ true
      → (if leased m s now then is_ready s.phase && (not writes || is_none s.flight) else not writes && allows_reads s.version now s.beacon) ≡ true
      → asked_as db m (over s image) now id call short (Some writes) ≡ write_turn db m (over s image) now id call short

-- What a step goes on to, over each image: after the lapse to what the event makes of the server, and after a write that a majority has to the
-- turns. What holders lead to leaves the line, makes no durable call, and a server that serves goes on to, as a halted one tells.
pub record StepsGoOn : Type 0 where
  pub lapse : (dbs : Databases) (m : Member) (s mid : Server) (now : ℕ) (e : NodeEvent) (short : List Bool) (image : List ℕ)
      → (lapsed m s now).server ≡ mid → (lapsed m s now).calls ≡ []
      → (let u = handled dbs m (over mid image) now e short in
      step_by dbs m (over s image) now e (short_behind (lapsed m s now).shown short) ≡ stepped u.server u.calls ((lapsed m s now).shown ++ u.shown))
  pub holders : (dbs : Databases) (m : Member) (s mid : Server) (now : ℕ) (short : List Bool) (image : List ℕ)
      → (settled m s).server ≡ mid → (settled m s).calls ≡ []
      → (let u = next_turns dbs m now mid.waiting (over mid image) short in
      settled_with_turns dbs m (over s image) now (short_behind (settled m s).shown short) ≡ stepped u.server u.calls ((settled m s).shown ++ u.shown))
  pub line : (m : Member) (s : Server) → (settled m s).server.waiting ≡ s.waiting
  pub calls : (m : Member) (s : Server) → (settled m s).calls ≡ []
  pub halts : (m : Member) (s mid : Server) → (settled m s).server ≡ mid → (is_ready s.phase ≡ false → halted_from mid ≡ halted_from s)
      → halted_from mid ≡ halted_from s
