-- Sync site: the writes of the ready sync site. A write is committed here first, goes to each other server, and is
-- answered once a majority has it; those that come meanwhile wait (Kazar, "Ubik"; the line and its limit are own).
use Rattle.std.specs.Prelude.{ℕ, zero, suc, ◌+◌, ◌==◌, Bool, true, false, if◌then◌else◌, Option, Some, None, List, [], ◌∷◌, ◌++◌, length}
use Rattle.ubik_types.specs.declared.images.Change.{Change}
use Rattle.ubik_types.specs.declared.versions.TheConstants.{MAX_COUNTER}
use Rattle.ubik_types.specs.declared.versions.Version.{Version}
use Rattle.ubik_types.specs.declared.phases.Phase.TheVariants as phases
use Rattle.ubik_types.specs.declared.phases.Applied.TheVariants as applied
use Rattle.ubik_types.specs.Logged.{too_large}
use Rattle.ubik_types.specs.Quorum.{is_majority}
use Rattle.ubik_types.specs.Phase.{Polled, Spread, PhaseRecord, Send, Ready}
use Rattle.xdr_base.specs.ChangeText.{text_of}
use Rattle.ubik_calls.specs.declared.packets.Body.{Body}
use Rattle.ubik_calls.specs.declared.packets.Body.TheVariants as body
use Rattle.ubik_calls.specs.declared.replies.Reply.TheVariants as reply
use Rattle.db_image.specs.declared.services.CallReply.{CallReply}
use Rattle.db_image.specs.declared.services.CallReply.TheVariants as call_reply
use Rattle.db_image.specs.Database.{Database, changes_of}
use Rattle.cell_model.specs.Durable.{Made, Transaction, Committed}
use Rattle.cell_model.specs.Durable as durable
use Rattle.cell_model.specs.Evaluating.{Databases, behind_first}
use Rattle.cell_model.specs.Node.{Server, Flight, Waiting}
use Rattle.cell_model.specs.Lapse.{no_quorum, waiting_refused}
use Rattle.cell_model.specs.Pieces.{piece_count, numbered_piece}
use Rattle.cell_model.specs.Polls.{polling, only_holder}
use Rattle.cell_model.specs.Step.{Member, cell_size, Announced_image, Commit_on, Evaluation, Stepped, quiet, showing, followed, told_version, with_phase, with_database, sends_to_each, announcing, refusing, replying, is_short, short_after}

-- the image of the announced version: during a write in flight the one before it
abbrev pub image_before : List ℕ → Option Flight → List ℕ
image_before own None = own
image_before own (Some f) = f.old_image

abbrev pub announced_image : Server → List ℕ
announced_image s = image_before s.image s.flight

-- the packets of a write: its beginning, its pieces in their order, its commit
abbrev pub put_pieces : Version → List ℕ → ℕ → ℕ → List Body
put_pieces new text number zero = []
put_pieces new text number (suc left) =
    body.PutPiece new number (numbered_piece text number) ∷ put_pieces new text (number + 1) left

abbrev pub write_bodies : Version → Version → List ℕ → List Body
write_bodies old new text =
    body.Begin old new (piece_count text) (length text) ∷ put_pieces new text 0 (piece_count text) ++ body.Commit old new ∷ []

-- a commit: the image under the next counter
abbrev pub next_version : Version → Version
next_version v = record v { counter = v.counter + 1 }

abbrev pub own_commit : Version → List Change → List ℕ → Transaction → Made
own_commit new changes image t = record { call = durable.Commit new changes image; reason = Committed t }

abbrev pub flight_of : Server → ℕ → ℕ → List ℕ → List ℕ → List Change → Flight
flight_of s now id call answer changes =
    record { id = id; began = now; call = call; answer = answer; old_image = s.image; changes = changes }

-- The write is committed and sent: only this server has it, and the version before it stays the announced one.
abbrev pub own_write_begun : Member → Server → ℕ → ℕ → List ℕ → List ℕ → List ℕ → List Change → Polled → Spread → Stepped
own_write_begun m s now id call answer image changes poll spread =
    let new = next_version s.version in
    record {
      server = record (with_phase (with_database s new image) (Ready poll (record spread { holders = only_holder m }) s.version)) {
        flight = Some (flight_of s now id call answer changes);
      };
      calls = own_commit new changes image (record { moment = now; call = call }) ∷ [];
      shown = sends_to_each m (λ k. write_bodies s.version new (text_of changes));
    }

-- The write in flight is over: its version is announced, and then its call is answered.
abbrev pub ended_write : Server → Flight → Polled → Spread → Version → Stepped
ended_write s f poll spread old =
    showing (record (with_phase s (Ready poll spread s.version)) { flight = None })
    (announcing s.version
    ∷ replying f.id (reply.Ok f.answer) (record { call = f.call; moment = f.began; basis = Commit_on old s.version })
    ∷ [])

abbrev pub flight_settled : Member → Server → Polled → Spread → Version → Option Flight → Stepped
flight_settled m s poll spread announced None = quiet s
flight_settled m s poll spread announced (Some f) =
    if is_majority (cell_size m) spread.holders then ended_write s f poll spread announced else quiet s

-- Holders: what a majority of holders leads to. A database that was sent is announced, and calls are served; a write is over.
abbrev pub settled_in : Member → Server → PhaseRecord → Stepped
settled_in m s (Send poll spread) =
    if is_majority (cell_size m) spread.holders
    then showing (with_phase s (Ready poll spread s.version)) (announcing s.version ∷ [])
    else quiet s
settled_in m s (Ready poll spread announced) = flight_settled m s poll spread announced s.flight
settled_in m s _ = quiet s

abbrev pub settled : Member → Server → Stepped
settled m s = settled_in m s s.phase

-- The counter is at its end: a new poll begins, and neither this call nor one that waits is served.
abbrev pub last_counter : Member → Server → ℕ → ℕ → Stepped
last_counter m s now id =
    let refusal = no_quorum m s now phases.Poll applied.No in
    showing (polling m (record s { waiting = [] }) now) (refusing id refusal ∷ waiting_refused s.waiting refusal)

abbrev pub written_in : Member → Server → ℕ → ℕ → List ℕ → List ℕ → List ℕ → List Change → PhaseRecord → Stepped
written_in m s now id call answer image changes (Ready poll spread announced) =
    followed (own_write_begun m s now id call answer image changes poll spread) (settled m)
written_in m s now id call answer image changes _ = quiet s

-- a call that changes blocks
abbrev pub written_changes : Member → Server → ℕ → ℕ → List ℕ → List ℕ → List ℕ → List Change → Stepped
written_changes m s now id call answer image changes =
    if s.version.counter == MAX_COUNTER then last_counter m s now id
    else written_in m s now id call answer image changes s.phase

abbrev pub answered_on : Version → ℕ → List ℕ → Evaluation
answered_on version now call = record { call = call; moment = now; basis = Announced_image version }

-- a call that changes no block is answered at once
abbrev pub written_small : Member → Server → ℕ → ℕ → List ℕ → List ℕ → List ℕ → List Change → Stepped
written_small m s now id call answer image [] =
    showing s (replying id (reply.Ok answer) (answered_on (told_version s.phase s.version) now call) ∷ [])
written_small m s now id call answer image (change ∷ changes) =
    written_changes m s now id call answer image (change ∷ changes)

abbrev pub written_within : Member → Server → ℕ → ℕ → List ℕ → List ℕ → List ℕ → List Change → Option ℕ → Stepped
written_within m s now id call answer image changes (Some bytes) = showing s (refusing id (reply.TooLarge bytes) ∷ [])
written_within m s now id call answer image changes None = written_small m s now id call answer image changes

abbrev pub written : Database → Member → Server → ℕ → ℕ → List ℕ → List ℕ → List ℕ → Stepped
written db m s now id call answer image =
    let changes = changes_of db s.image image in
    written_within m s now id call answer image changes (too_large 0 (length s.image) changes)

-- what a writing call leads to at its turn: the database refuses it, or it is written
abbrev pub turned : Database → Member → Server → ℕ → ℕ → List ℕ → List ℕ → CallReply → Stepped
turned db m s now id call image (call_reply.Done answer) = written db m s now id call answer image
turned db m s now id call image (call_reply.Rule number) =
    showing s (replying id (reply.Rule number) (answered_on (told_version s.phase s.version) now call) ∷ [])
turned db m s now id call image call_reply.Malformed = showing s (refusing id reply.Malformed ∷ [])
turned db m s now id call image (call_reply.BadRecord at) = showing s (refusing id (reply.BadRecord at) ∷ [])

-- The turn of a writing call, where no write is in flight: it is evaluated on the announced image, which is the own one.
abbrev pub write_turn : Database → Member → Server → ℕ → ℕ → List ℕ → Bool → Stepped
write_turn db m s now id call short =
    if short then showing s (refusing id reply.NoMemory ∷ [])
    else (let o = db.call s.image now call in turned db m s now id call o.image o.reply)

-- whether calls are served, and no write is in flight
abbrev pub is_free_in : PhaseRecord → Option Flight → Bool
is_free_in (Ready _ _ _) None = true
is_free_in _ _ = false

abbrev pub is_free : Server → Bool
is_free s = is_free_in s.phase s.flight

-- the turns of those that wait, in their order, until one of them is in flight or a new poll has begun
abbrev pub next_turns : Databases → Member → ℕ → List Waiting → Server → List Bool → Stepped
next_turns dbs m now [] s short = quiet s
next_turns dbs m now (w ∷ waiting) s short =
    if is_free s
    then (let t = write_turn (dbs 0) m (record s { waiting = waiting }) now w.id w.call (is_short short) in
    followed t (λ after. next_turns (behind_first dbs) m now waiting after (short_after t.shown short)))
    else quiet s

-- Holders have come: a write that a majority has is over, and those that wait have their turns.
abbrev pub settled_with_turns : Databases → Member → Server → ℕ → List Bool → Stepped
settled_with_turns dbs m s now short =
    let t = settled m s in
    followed t (λ after. next_turns dbs m now after.waiting after (short_after t.shown short))
