-- Recovery: the newest database of a majority is found, fetched, relabelled and sent to the others (Kazar, "Ubik"; that it is
-- relabelled in recovery, and the pieces, are own).
use Rattle.std.specs.Prelude.{ℕ, ◌+◌, ◌==◌, ◌&&◌, not, nat_lt, nat_le, Bool, if◌then◌else◌, Option, Some, None, is_some, List, [], ◌∷◌, ◌++◌, length, map}
use Rattle.ubik_types.specs.declared.hosts.Host.{Host}
use Rattle.ubik_types.specs.declared.limits.TheConstants.{MAX_IMAGE, SMALLTIME}
use Rattle.ubik_types.specs.declared.versions.Version.{Version}
use Rattle.ubik_types.specs.Version.{version_lt, version_eq}
use Rattle.ubik_types.specs.Quorum.{is_majority}
use Rattle.ubik_types.specs.Phase.{Polled, Spread, PhaseRecord, NoPhase, Poll, Fetch, Relabel, Send, Ready}
use Rattle.xdr_base.specs.ChangeText.{text_of}
use Rattle.ubik_calls.specs.declared.packets.Body.{Body}
use Rattle.ubik_calls.specs.declared.packets.Body.TheVariants as body
use Rattle.cell_model.specs.Durable.{Made, Own_relabelling, Received}
use Rattle.cell_model.specs.Durable as durable
use Rattle.cell_model.specs.Evaluating.{Databases}
use Rattle.cell_model.specs.Node.{Server, ReceivedText, Flight}
use Rattle.cell_model.specs.Pieces.{piece_from}
use Rattle.cell_model.specs.Polls.{new_poll, polling, with_answer, best_answer, first_with, only_holder, with_holder, entry_at, is_marked}
use Rattle.cell_model.specs.Step.{Member, cell_size, Shown, Stepped, quiet, showing, followed, leased, with_phase, with_database, host_at, sends_to, sends_to_each}
use Rattle.cell_model.specs.Writes.{write_bodies, settled, settled_with_turns}

-- the question for its version goes to each other server that is not among these
abbrev pub asks_versions : Member → ℕ → (ℕ → Bool) → List Shown
asks_versions m poll among = sends_to_each m (λ k. if among k then [] else body.GetVersion poll ∷ [])

abbrev pub has_answered : Polled → ℕ → Bool
has_answered poll k = is_some (entry_at poll.answers k)

-- a piece of the own image, from a place on
abbrev pub sent_piece : Server → ℕ → ℕ → Body
sent_piece s poll at = body.SendPiece poll s.version (length s.image) at (piece_from s.image at)

-- a server that has the version before the relabelling gets the new version alone, another one the image
abbrev pub spread_to : Server → ℕ → Version → Bool → Body
spread_to s poll old has_old = if has_old then body.SetVersion poll old s.version else sent_piece s poll 0

abbrev pub spread_answer : Server → Polled → Version → Option Version → List Body
spread_answer s poll old None = []
spread_answer s poll old (Some v) = spread_to s poll.number old (version_eq v old) ∷ []

-- the first version of an epoch
abbrev pub first_of_epoch : ℕ → Version
first_of_epoch now = record { epoch = now; counter = 1 }

abbrev pub own_relabelling : Version → Made
own_relabelling new = record { call = durable.Relabel new; reason = Own_relabelling }

-- The database gets the first version of this moment, and goes to each server that answered the poll.
abbrev pub relabelled_to : Member → Server → Polled → Version → Stepped
relabelled_to m s poll new =
    let after = with_phase (with_database s new s.image) (Send poll (record { old = s.version; holders = only_holder m })) in
    record {
      server = after;
      calls = own_relabelling new ∷ [];
      shown = sends_to_each m (λ k. spread_answer after poll s.version (entry_at poll.answers k));
    }

-- Relabelling: once the moment is past the epoch.
abbrev pub relabelled : Member → Server → Polled → ℕ → Stepped
relabelled m s poll now =
    if nat_lt s.version.epoch now then followed (relabelled_to m s poll (first_of_epoch now)) (settled m)
    else quiet (with_phase s (Relabel poll))

-- the better version is asked for, from the lowest server that has it
abbrev pub fetched_from : Member → Server → Polled → Version → ℕ → Stepped
fetched_from m s poll best k =
    showing (with_phase s (Fetch poll best k)) (sends_to m (host_at m.hosts k) (body.GetPiece poll.number best 0))

-- Poll: at a majority of answers it is known which version is the best.
abbrev pub polled_best : Member → Server → Polled → ℕ → Version → Stepped
polled_best m s poll now best =
    if version_lt s.version best then fetched_from m s poll best (first_with best poll.answers) else relabelled m s poll now

abbrev pub polled : Member → Server → Polled → ℕ → Stepped
polled m s poll now =
    if is_majority (cell_size m) (map is_some poll.answers) then polled_best m s poll now (best_answer poll)
    else quiet (with_phase s (Poll poll))

-- the others that have not answered are asked, and the poll goes on
abbrev pub poll_asked : Member → Server → Polled → ℕ → Stepped
poll_asked m s poll now =
    followed (showing s (asks_versions m poll.number (has_answered poll))) (λ after. polled m after poll now)

-- a poll begins, and the others are asked
abbrev pub poll_begun : Member → Server → ℕ → Stepped
poll_begun m s now = poll_asked m (polling m s now) (new_poll m s now) now

-- how many bytes of a text have come
abbrev pub bytes_received : Option ReceivedText → ℕ
bytes_received None = 0
bytes_received (Some text) = length text.bytes

-- the next piece of a fetch is asked for
abbrev pub next_asked : Member → Server → Polled → Version → ℕ → Stepped
next_asked m s poll best k =
    showing s (sends_to m (host_at m.hosts k) (body.GetPiece poll.number best (bytes_received s.received)))

-- the packets of the write in flight, or a question, go to each server that has not the own version
abbrev pub spread_bodies : Server → Polled → Version → Option Flight → List Body
spread_bodies s poll announced None = body.GetVersion poll.number ∷ []
spread_bodies s poll announced (Some f) = write_bodies announced s.version (text_of f.changes)

abbrev pub spread_again : Member → Server → Polled → Spread → Version → Stepped
spread_again m s poll spread announced =
    showing s (sends_to_each m (λ k. if is_marked spread.holders k then [] else spread_bodies s poll announced s.flight))

-- Recovery turn, by the phase. (In Send there is no write in flight. In Ready nothing waits for a majority that is there: a write
-- is over as soon as its last holder is added.)
abbrev pub recovered : Member → Server → ℕ → PhaseRecord → Stepped
recovered m s now NoPhase = if leased m s now then poll_begun m s now else quiet s
recovered m s now (Poll poll) = poll_asked m s poll now
recovered m s now (Fetch poll best k) =
    if nat_lt (poll.number + SMALLTIME) now then poll_begun m s now else next_asked m s poll best k
recovered m s now (Relabel poll) = relabelled m s poll now
recovered m s now (Send poll spread) = followed (spread_again m s poll spread s.version) (settled m)
recovered m s now (Ready poll spread announced) = spread_again m s poll spread announced

abbrev pub recovery_turn : Member → Server → ℕ → Stepped
recovery_turn m s now = recovered m s now s.phase

-- a server has the own version
abbrev pub held_by : PhaseRecord → ℕ → PhaseRecord
held_by (Send poll spread) k = Send poll (with_holder spread k)
held_by (Ready poll spread announced) k = Ready poll (with_holder spread k) announced
held_by other k = other

abbrev pub holder_added : Databases → Member → Server → ℕ → ℕ → List Bool → Stepped
holder_added dbs m s now k short = settled_with_turns dbs m (with_phase s (held_by s.phase k)) now short

-- A server that told another version than the own one is sent what it lacks, unless a write is in flight: the new version alone,
-- where that server has the one before the relabelling and no commit has followed it; else the image.
abbrev pub lacking_sent : Member → Server → Host → Polled → Spread → Version → Option Flight → Stepped
lacking_sent m s host poll spread version None =
    showing s (sends_to m host (spread_to s poll.number spread.old (s.version.counter == 1 && version_eq version spread.old)))
lacking_sent m s host poll spread version (Some f) = quiet s

-- Version told in Send or Ready, which counts only for the poll of the node: the own version makes a holder, and a server with
-- another one is sent what it lacks.
abbrev pub told_to_spread : Databases → Member → Server → ℕ → Host → ℕ → Polled → Spread → ℕ → Version → List Bool → Stepped
told_to_spread dbs m s now host k poll spread number version short =
    if number == poll.number
    then (if version_eq version s.version then holder_added dbs m s now k short
    else lacking_sent m s host poll spread version s.flight)
    else quiet s

-- the version is another one than the fetched one: a new poll begins
abbrev pub fetch_refused : Member → Server → ℕ → ℕ → Version → ℕ → Version → Stepped
fetch_refused m s now from best k version =
    if from == k && not (version_eq version best) then quiet (polling m s now) else quiet s

-- Version told: by server k, for the poll of that number.
abbrev pub version_is_received : Databases → Member → Server → ℕ → Host → ℕ → ℕ → Version → List Bool → PhaseRecord → Stepped
version_is_received dbs m s now host k number version short (Poll poll) =
    if number == poll.number then polled m s (with_answer poll k version) now else quiet s
version_is_received dbs m s now host k number version short (Fetch poll best from) = fetch_refused m s now from best k version
version_is_received dbs m s now host k number version short (Send poll spread) =
    told_to_spread dbs m s now host k poll spread number version short
version_is_received dbs m s now host k number version short (Ready poll spread announced) =
    told_to_spread dbs m s now host k poll spread number version short
version_is_received dbs m s now host k number version short _ = quiet s

-- a server says that its database is the one of this version
abbrev pub version_kept_received : Databases → Member → Server → ℕ → ℕ → Version → List Bool → PhaseRecord → Stepped
version_kept_received dbs m s now k version short (Send poll spread) =
    if version_eq version s.version then holder_added dbs m s now k short else quiet s
version_kept_received dbs m s now k version short (Ready poll spread announced) =
    if version_eq version s.version then holder_added dbs m s now k short else quiet s
version_kept_received dbs m s now k version short _ = quiet s

-- the next piece of the own image is sent, where one is left and no write is in flight
abbrev pub next_sent : Member → Server → Host → Polled → Version → ℕ → Option Flight → Stepped
next_sent m s host poll version next None =
    if version_eq version s.version && nat_lt next (length s.image)
    then showing s (sends_to m host (sent_piece s poll.number next))
    else quiet s
next_sent m s host poll version next (Some f) = quiet s

-- Piece kept: a server has the image of that version up to a place.
abbrev pub piece_kept_received : Member → Server → Host → Version → ℕ → PhaseRecord → Stepped
piece_kept_received m s host version next (Send poll spread) = next_sent m s host poll version next s.flight
piece_kept_received m s host version next (Ready poll spread announced) = next_sent m s host poll version next s.flight
piece_kept_received m s host version next _ = quiet s

-- Received text: a piece is within its image, and no image is too long
abbrev pub piece_fits : ℕ → ℕ → List ℕ → Bool
piece_fits total at bytes = nat_le total MAX_IMAGE && nat_le (at + length bytes) total

-- a text that begins with this piece
abbrev pub text_begun : ℕ → Version → ℕ → List ℕ → ReceivedText
text_begun k version total bytes = record { server = k; version = version; total = total; bytes = bytes }

-- the piece goes on where the text ends, and is of the same server, version and length
abbrev pub continues : ℕ → Version → ℕ → ℕ → ReceivedText → Bool
continues k version total at text =
    text.server == k && version_eq text.version version && text.total == total && length text.bytes == at

abbrev pub text_continued : ℕ → Version → ℕ → ℕ → List ℕ → Option ReceivedText → Option ReceivedText
text_continued k version total at bytes None = None
text_continued k version total at bytes (Some text) =
    if continues k version total at text then Some (record text { bytes = text.bytes ++ bytes }) else None

-- The text with this piece; None: the piece is ignored. A piece at 0 begins a text, where it may; any other one goes on.
abbrev pub text_with : (may_begin : Bool) → ℕ → Version → ℕ → ℕ → List ℕ → Option ReceivedText → Option ReceivedText
text_with may_begin k version total at bytes before =
    if piece_fits total at bytes
    then (if at == 0 then (if may_begin then Some (text_begun k version total bytes) else None)
    else text_continued k version total at bytes before)
    else None

abbrev pub is_whole : ReceivedText → Bool
is_whole text = length text.bytes == text.total

-- the whole image of another server, under its version
abbrev pub installed : Server → Version → List ℕ → Stepped
installed s version image =
    record {
      server = with_database s version image;
      calls = record { call = durable.Install version image; reason = Received } ∷ [];
      shown = [];
    }

-- the fetched image is installed where its version is still above the own one
abbrev pub fetch_installed : Server → Version → List ℕ → Stepped
fetch_installed s best image = if version_lt s.version best then installed s best image else quiet s

-- a fetch goes on with the next piece, or is over: then the own database is relabelled
abbrev pub fetch_went_on : Member → Server → ℕ → Polled → Version → ℕ → Option ReceivedText → Stepped
fetch_went_on m s now poll best from None = quiet s
fetch_went_on m s now poll best from (Some text) =
    if is_whole text then followed (fetch_installed s best text.bytes) (λ after. relabelled m after poll now)
    else next_asked m (record s { received = Some text }) poll best from

-- Piece received: in a fetch, of the server, poll and version that were asked. A piece at 0 counts only while no byte is there.
abbrev pub piece_received : Member → Server → ℕ → ℕ → ℕ → Version → ℕ → ℕ → List ℕ → PhaseRecord → Stepped
piece_received m s now k number version total at bytes (Fetch poll best from) =
    if k == from && number == poll.number && version_eq version best
    then fetch_went_on m s now poll best from
    (text_with (bytes_received s.received == 0) k version total at bytes s.received)
    else quiet s
piece_received m s now k number version total at bytes _ = quiet s
