-- What a step of a server does, once for all: the moves that it is made of, each with what is known where it is made. `F` is said
-- of the book and a server, `P` of the book and what a packet carries, `D` of the book and a durable state. Where each move keeps
-- them, so does each step (own).
use Rattle.std.specs.Prelude.{◌≡◌, ℕ, ◌<◌, ◌==◌, Bool, true, false, Option, Some, None, List, [], ◌∷◌, length}
use Rattle.ubik_types.specs.declared.images.Change.{Change}
use Rattle.ubik_types.specs.declared.versions.TheConstants.{MAX_COUNTER}
use Rattle.ubik_types.specs.declared.versions.Version.{Version}
use Rattle.ubik_types.specs.Image.{effect}
use Rattle.ubik_types.specs.Logged.{logged, too_large}
use Rattle.ubik_types.specs.Phase.{Polled, Spread, PhaseRecord, Send, Ready}
use Rattle.ubik_types.specs.Version.{version_lt, version_eq}
use Rattle.ubik_types.specs.Votes.{VoteState}
use Rattle.xdr_base.specs.ChangeText.{text_of}
use Rattle.ubik_calls.specs.declared.packets.Body.{Body}
use Rattle.ubik_calls.specs.declared.packets.Body.TheVariants as body
use Rattle.db_image.specs.Database.{Database, changes_of}
use Rattle.cell_model.specs.Book.{Book}
use Rattle.cell_model.specs.Durable.{Durable, Transaction, Own_relabelling, Committed}
use Rattle.cell_model.specs.Book.{with_version}
use Rattle.cell_model.specs.Lapse.{without_writes}
use Rattle.cell_model.specs.Node.{Server, ReadyBeacon, ReceivedText, Flight, Waiting}
use Rattle.cell_model.specs.Pieces.{piece_from}
use Rattle.cell_model.specs.Receiver.{is_sending, empty_write, kept_with, kept_but, whole_write}
use Rattle.cell_model.specs.Recovery.{first_of_epoch, relabelled_to, held_by, text_with, is_whole, sent_piece}
use Rattle.cell_model.specs.Step.{Member, is_ready, with_phase, with_database}
use Rattle.cell_model.specs.Writes.{next_version, own_write_begun, write_bodies}
use Rattle.cell_pages.specs.Growth.{Grew, durable_of}

-- so of each of these packets
abbrev pub AllBodies : (Body → Type 0) → List Body → Type 0
AllBodies P [] = Unit {0}
AllBodies P (b ∷ bodies) = P b × AllBodies P bodies

-- packets that carry no content of a database, and name no two versions
abbrev pub IsPlain : Body → Type 0
IsPlain (body.Piece poll version total offset bytes) = ⊥
IsPlain (body.SendPiece poll version total offset bytes) = ⊥
IsPlain (body.SetVersion poll old new) = ⊥
IsPlain (body.Begin old new pieces len) = ⊥
IsPlain (body.PutPiece new number bytes) = ⊥
IsPlain (body.Commit old new) = ⊥
IsPlain _ = Unit {0}

-- The phase record, and fields that are no database: the lapse, polls and fetches; holders; the end of a sending and of a write.
pub record PhaseMoves (m : Member) (now : ℕ) (F : Book → Server → Type 0) : Type 0 where
  pub votes : (book : Book) (s : Server) (votes : VoteState) (starts : List (Option ℕ)) (beacon : Option ReadyBeacon) → F book s →
      F book (record s { votes = votes; starts = starts; beacon = beacon })
  pub waits : (book : Book) (s : Server) (waiting : List Waiting) → F book s → F book (record s { waiting = waiting })
  -- a write is in flight in Ready alone
  pub no_flight : (book : Book) (s : Server) → is_ready s.phase ≡ false → F book s → s.flight ≡ None
  pub lapses : (book : Book) (s : Server) (phase : PhaseRecord) → is_sending phase ≡ false → F book s →
      F book (with_phase (without_writes s) phase)
  pub leaves : (book : Book) (s : Server) (phase : PhaseRecord) → is_sending phase ≡ false → s.flight ≡ None → F book s →
      F book (with_phase s phase)
  pub holds : (book : Book) (s : Server) (k : ℕ) → F book s → F book (with_phase s (held_by s.phase k))
  pub announces : (book : Book) (s : Server) (poll : Polled) (spread : Spread) → s.phase ≡ Send poll spread → F book s →
      F book (with_phase s (Ready poll spread s.version))
  pub ends : (book : Book) (s : Server) (poll : Polled) (spread : Spread) (announced : Version) (f : Flight) →
      s.phase ≡ Ready poll spread announced → s.flight ≡ Some f → F book s →
      F book (record (with_phase s (Ready poll spread s.version)) { flight = None })

-- What a server keeps of the packets of others: pieces of an image, and a write on its way.
pub record FieldMoves (F : Book → Server → Type 0) (P : Book → Body → Type 0) : Type 0 where
  pub texts : (book : Book) (s : Server) (may_begin : Bool) (k poll : ℕ) (version : Version) (total at : ℕ) (bytes : List ℕ)
      (text : ReceivedText) →
      P book (body.SendPiece poll version total at bytes) → text_with may_begin k version total at bytes s.received ≡ Some text → F book s →
      F book (record s { received = Some text })
  pub begins : (book : Book) (s : Server) (old new : Version) (pieces len : ℕ) → P book (body.Begin old new pieces len) →
      is_sending s.phase ≡ false → version_eq s.version old ≡ true → version_lt old new ≡ true → F book s →
      F book (record s { kept = Some (empty_write old new pieces len) })
  pub puts : (book : Book) (s : Server) (new : Version) (number : ℕ) (bytes : List ℕ) → P book (body.PutPiece new number bytes) →
      F book s → F book (record s { kept = kept_with new number bytes s.kept })
  pub aborts : (book : Book) (s : Server) (new : Version) → F book s → F book (record s { kept = kept_but new s.kept })

-- Durable calls, while the own database is not sent: what another server sent is taken over.
pub record ReceivedMoves (F : Book → Server → Type 0) (P : Book → Body → Type 0) : Type 0 where
  pub takes : (book : Book) (s : Server) (poll : ℕ) (old new : Version) → P book (body.SetVersion poll old new) →
      is_sending s.phase ≡ false → version_eq s.version old ≡ true → version_lt old new ≡ true → F book s →
      F book (with_database s new s.image)
  pub installs : (book : Book) (s : Server) (may_begin : Bool) (k poll : ℕ) (version : Version) (total at : ℕ) (bytes : List ℕ)
      (text : ReceivedText) →
      P book (body.SendPiece poll version total at bytes) → text_with may_begin k version total at bytes s.received ≡ Some text →
      is_sending s.phase ≡ false → is_whole text ≡ true → version_lt s.version text.version ≡ true → F book s →
      F book (with_database s text.version text.bytes)
  pub writes : (book : Book) (s : Server) (old new : Version) (changes : List Change) → P book (body.Commit old new) →
      is_sending s.phase ≡ false → version_eq s.version old ≡ true → whole_write new s.kept ≡ Some changes →
      too_large 0 (length s.image) changes ≡ None → F book s →
      F book (with_database s new (effect s.image (logged (length s.image) changes)))

-- the transaction of a call that is evaluated at a moment
abbrev pub transaction_of : ℕ → List ℕ → Transaction
transaction_of now call = record { moment = now; call = call }

-- Durable calls in the lease: the server relabels its own database, or commits a write as the sync site.
pub record OwnMoves (db : Database) (m : Member) (now : ℕ) (lease : Bool) (F : Book → Server → Type 0) (D : Book → Durable → Type 0) :
    Type 0 where
  pub relabels : (book : Book) (s : Server) (poll : Polled) → lease ≡ true → is_sending s.phase ≡ false → s.version.epoch < now → F book s →
      let later = with_version book m.me s.version (first_of_epoch now) Own_relabelling in
      Grew lease m.me book later × F later (relabelled_to m s poll (first_of_epoch now)).server
  pub commits : (book : Book) (s : Server) (id : ℕ) (call answer image : List ℕ) (changes : List Change) (poll : Polled) (spread : Spread)
      (announced : Version) → lease ≡ true → s.phase ≡ Ready poll spread announced → s.flight ≡ None →
      (s.version.counter == MAX_COUNTER) ≡ false → image ≡ (db.call s.image now call).image → changes ≡ changes_of db s.image image →
      too_large 0 (length s.image) changes ≡ None → F book s →
      let later = with_version book m.me s.version (next_version s.version) (Committed (transaction_of now call)) in
      Grew lease m.me book later × F later (own_write_begun m s now id call answer image changes poll spread).server
  pub stands : (book : Book) (s : Server) → F book s → D book (durable_of s)

-- What is put out: all packets with content speak of the server after the step.
pub record PacketMoves (m : Member) (lease : Bool) (F : Book → Server → Type 0) (P : Book → Body → Type 0) : Type 0 where
  pub later : (book after : Book) (b : Body) → Grew lease m.me book after → P book b → P after b
  pub plain : (book : Book) (b : Body) → IsPlain b → P book b
  pub alike : (book : Book) (poll : ℕ) (version : Version) (total at : ℕ) (bytes : List ℕ) →
      P book (body.Piece poll version total at bytes) → P book (body.SendPiece poll version total at bytes)
  pub piece : (book : Book) (s : Server) (poll : ℕ) (version : Version) (at : ℕ) → version_eq s.version version ≡ true → F book s →
      P book (body.Piece poll version (length s.image) at (piece_from s.image at))
  pub sent : (book : Book) (s : Server) (poll at : ℕ) → F book s → P book (sent_piece s poll at)
  pub set_in_send : (book : Book) (s : Server) (number : ℕ) (poll : Polled) (spread : Spread) → s.phase ≡ Send poll spread →
      (s.version.counter == 1) ≡ true → F book s → P book (body.SetVersion number spread.old s.version)
  pub set_in_ready : (book : Book) (s : Server) (number : ℕ) (poll : Polled) (spread : Spread) (announced : Version) →
      s.phase ≡ Ready poll spread announced → (s.version.counter == 1) ≡ true → F book s →
      P book (body.SetVersion number spread.old s.version)
  pub write : (book : Book) (s : Server) (poll : Polled) (spread : Spread) (announced : Version) (f : Flight) →
      s.phase ≡ Ready poll spread announced → s.flight ≡ Some f → F book s →
      AllBodies (P book) (write_bodies announced s.version (text_of f.changes))

-- all of them
pub record Moves (db : Database) (m : Member) (now : ℕ) (lease : Bool) (F : Book → Server → Type 0) (D : Book → Durable → Type 0)
    (P : Book → Body → Type 0) :
    Type 0 where
  pub phase : PhaseMoves m now F
  pub field : FieldMoves F P
  pub received : ReceivedMoves F P
  pub own : OwnMoves db m now lease F D
  pub packet : PacketMoves m lease F P
