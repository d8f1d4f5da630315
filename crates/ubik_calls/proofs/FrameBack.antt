-- What is spelled as a frame is read as that frame.
use Rattle.std.proofs.Common.{◌≡◌, ℕ, ◌+◌, ◌-◌, ◌^◌, ◌<◌, true, false, List, [], ◌∷◌, length, Ok, refl, ◌∙◌, arith, nat_lt}
use Rattle.std.specs.List.{AllByRecursion}
use Rattle.std.proofs.lemmas.List.{append-nil, length-append, drop_at}
use Rattle.std.proofs.lemmas.Bool.{le-ltb, lt-ltb, eq-eqb}
use Rattle.ubik_types.specs.declared.phases.Applied.{Applied}
use Rattle.ubik_types.specs.declared.phases.Applied.TheVariants.{No, Unknown}
use Rattle.xdr_base.specs.Spelling.{word}
use Rattle.xdr_base.specs.Reading.{Reading, at_start, past}
use Rattle.ubik_calls.specs.declared.frames.Frame.{Frame}
use Rattle.ubik_calls.specs.declared.frames.Frame.TheVariants as frame
use Rattle.ubik_calls.specs.declared.kinds.PacketKind.{PacketKind}
use Rattle.ubik_calls.specs.declared.kinds.PacketKind.TheVariants as kind
use Rattle.ubik_calls.specs.declared.packets.Body.{Body}
use Rattle.ubik_calls.specs.declared.packets.Body.TheVariants.{Beacon, Vote, GetVersion, VersionIs, GetPiece, Piece, SendPiece, PieceKept, SetVersion, Begin, PutPiece, Commit, Abort, VersionKept}
use Rattle.ubik_calls.specs.declared.packets.Packet.{Packet}
use Rattle.ubik_calls.specs.declared.replies.DebugIs.{DebugIs}
use Rattle.ubik_calls.specs.declared.replies.Reply.{Reply}
use Rattle.ubik_calls.specs.declared.replies.Reply.TheVariants as reply
use Rattle.ubik_calls.specs.Fields as field
use Rattle.ubik_calls.specs.Fields.{Field, Number, Long, Truth, VersionOf, PhaseOf, AsTheyAre, spelled, field_spelling, IsBounded, IsOfItsBits}
use Rattle.ubik_calls.specs.WireGrammar.{packet_kind, body_fields, reply_fields, debug_fields, frame_fields, behind_length, spelling, is_unknown, HasSpelling}
use Rattle.ubik_calls.specs.Laws.{IsFrame}
use Rattle.ubik_calls.specs.Reading.{◌>>=◌, number_at, end_at, applied_of, packet_kind_of, packet_kind_at, beacon_at, vote_at, get_version_at, version_is_at, get_piece_at, image_piece_at, send_piece_at, piece_kept_at, set_version_at, begin_at, put_piece_at, commit_at, abort_at, version_kept_at, body_at, packet_at, rule_at, no_quorum_at, not_sync_at, line_full_at, too_large_at, bad_record_at, debug_is_at, packet_frame, ask_frame, other_reply_frame, reply_frame, debug_frame, debug_is_frame, frame_at, length_at, frame_of}
use Rattle.ubik_calls.proofs.ReadBack.{Reads, number_reads, host_reads, flag_reads, piece_reads, version_reads, long_reads, phase_reads, word_reads}

abbrev kind_of : Body → PacketKind
kind_of (Beacon start claim ready version) = kind.Beacon
kind_of (Vote start granted) = kind.Vote
kind_of (GetVersion poll) = kind.GetVersion
kind_of (VersionIs poll version) = kind.VersionIs
kind_of (GetPiece poll version offset) = kind.GetPiece
kind_of (Piece poll version total offset bytes) = kind.Piece
kind_of (SendPiece poll version total offset bytes) = kind.SendPiece
kind_of (PieceKept poll version next) = kind.PieceKept
kind_of (SetVersion poll old new) = kind.SetVersion
kind_of (Begin old new pieces len) = kind.Begin
kind_of (PutPiece new number bytes) = kind.PutPiece
kind_of (Commit old new) = kind.Commit
kind_of (Abort new) = kind.Abort
kind_of (VersionKept version) = kind.VersionKept

kind_again : (body : Body) → packet_kind_of (packet_kind body) ≡ Ok (kind_of body)
kind_again (Beacon start claim ready version) = refl
kind_again (Vote start granted) = refl
kind_again (GetVersion poll) = refl
kind_again (VersionIs poll version) = refl
kind_again (GetPiece poll version offset) = refl
kind_again (Piece poll version total offset bytes) = refl
kind_again (SendPiece poll version total offset bytes) = refl
kind_again (PieceKept poll version next) = refl
kind_again (SetVersion poll old new) = refl
kind_again (Begin old new pieces len) = refl
kind_again (PutPiece new number bytes) = refl
kind_again (Commit old new) = refl
kind_again (Abort new) = refl
kind_again (VersionKept version) = refl

small : (body : Body) → packet_kind body < 2 ^ 32
small (Beacon start claim ready version) = omega arith
small (Vote start granted) = omega arith
small (GetVersion poll) = omega arith
small (VersionIs poll version) = omega arith
small (GetPiece poll version offset) = omega arith
small (Piece poll version total offset bytes) = omega arith
small (SendPiece poll version total offset bytes) = omega arith
small (PieceKept poll version next) = omega arith
small (SetVersion poll old new) = omega arith
small (Begin old new pieces len) = omega arith
small (PutPiece new number bytes) = omega arith
small (Commit old new) = omega arith
small (Abort new) = omega arith
small (VersionKept version) = omega arith

body_reads : (body : Body) (from : Reading) → AllByRecursion IsBounded (body_fields body) → AllByRecursion IsOfItsBits (body_fields body) → from.rest ≡ spelled (body_fields body) → Reads (body_at (kind_of body) from) body []
unfolding beacon_at vote_at get_version_at version_is_at get_piece_at image_piece_at send_piece_at piece_kept_at set_version_at begin_at put_piece_at commit_at abort_at version_kept_at
body_reads (Beacon start claim ready version) from b w e =
    let x0 = number_reads start (Truth claim ∷ Truth ready ∷ VersionOf version ∷ []) from w.0 e in
    let x1 = flag_reads claim (Truth ready ∷ VersionOf version ∷ []) x0.behind x0.rest in
    let x2 = flag_reads ready (VersionOf version ∷ []) x1.behind x1.rest in
    let x3 = version_reads version ([]) x2.behind b.1.1.1.0 x2.rest in
    record { behind = x3.behind; is = rw (x0.is, x1.is, x2.is, x3.is) refl; rest = x3.rest }
body_reads (Vote start granted) from b w e =
    let x0 = number_reads start (Truth granted ∷ []) from w.0 e in
    let x1 = flag_reads granted ([]) x0.behind x0.rest in
    record { behind = x1.behind; is = rw (x0.is, x1.is) refl; rest = x1.rest }
body_reads (GetVersion poll) from b w e =
    let x0 = number_reads poll ([]) from w.0 e in
    record { behind = x0.behind; is = rw x0.is refl; rest = x0.rest }
body_reads (VersionIs poll version) from b w e =
    let x0 = number_reads poll (VersionOf version ∷ []) from w.0 e in
    let x1 = version_reads version ([]) x0.behind b.1.0 x0.rest in
    record { behind = x1.behind; is = rw (x0.is, x1.is) refl; rest = x1.rest }
body_reads (GetPiece poll version offset) from b w e =
    let x0 = number_reads poll (VersionOf version ∷ Number offset ∷ []) from w.0 e in
    let x1 = version_reads version (Number offset ∷ []) x0.behind b.1.0 x0.rest in
    let x2 = number_reads offset ([]) x1.behind w.1.1.0 x1.rest in
    record { behind = x2.behind; is = rw (x0.is, x1.is, x2.is) refl; rest = x2.rest }
body_reads (Piece poll version total offset bytes) from b w e =
    let x0 = number_reads poll (VersionOf version ∷ Number total ∷ Number offset ∷ field.Piece bytes ∷ []) from w.0 e in
    let x1 = version_reads version (Number total ∷ Number offset ∷ field.Piece bytes ∷ []) x0.behind b.1.0 x0.rest in
    let x2 = number_reads total (Number offset ∷ field.Piece bytes ∷ []) x1.behind w.1.1.0 x1.rest in
    let x3 = number_reads offset (field.Piece bytes ∷ []) x2.behind w.1.1.1.0 x2.rest in
    let x4 = piece_reads bytes ([]) x3.behind b.1.1.1.1.0 x3.rest in
    record { behind = x4.behind; is = rw (x0.is, x1.is, x2.is, x3.is, x4.is) refl; rest = x4.rest }
body_reads (SendPiece poll version total offset bytes) from b w e =
    let x0 = number_reads poll (VersionOf version ∷ Number total ∷ Number offset ∷ field.Piece bytes ∷ []) from w.0 e in
    let x1 = version_reads version (Number total ∷ Number offset ∷ field.Piece bytes ∷ []) x0.behind b.1.0 x0.rest in
    let x2 = number_reads total (Number offset ∷ field.Piece bytes ∷ []) x1.behind w.1.1.0 x1.rest in
    let x3 = number_reads offset (field.Piece bytes ∷ []) x2.behind w.1.1.1.0 x2.rest in
    let x4 = piece_reads bytes ([]) x3.behind b.1.1.1.1.0 x3.rest in
    record { behind = x4.behind; is = rw (x0.is, x1.is, x2.is, x3.is, x4.is) refl; rest = x4.rest }
body_reads (PieceKept poll version next) from b w e =
    let x0 = number_reads poll (VersionOf version ∷ Number next ∷ []) from w.0 e in
    let x1 = version_reads version (Number next ∷ []) x0.behind b.1.0 x0.rest in
    let x2 = number_reads next ([]) x1.behind w.1.1.0 x1.rest in
    record { behind = x2.behind; is = rw (x0.is, x1.is, x2.is) refl; rest = x2.rest }
body_reads (SetVersion poll old new) from b w e =
    let x0 = number_reads poll (VersionOf old ∷ VersionOf new ∷ []) from w.0 e in
    let x1 = version_reads old (VersionOf new ∷ []) x0.behind b.1.0 x0.rest in
    let x2 = version_reads new ([]) x1.behind b.1.1.0 x1.rest in
    record { behind = x2.behind; is = rw (x0.is, x1.is, x2.is) refl; rest = x2.rest }
body_reads (Begin old new pieces len) from b w e =
    let x0 = version_reads old (VersionOf new ∷ Number pieces ∷ Number len ∷ []) from b.0 e in
    let x1 = version_reads new (Number pieces ∷ Number len ∷ []) x0.behind b.1.0 x0.rest in
    let x2 = number_reads pieces (Number len ∷ []) x1.behind w.1.1.0 x1.rest in
    let x3 = number_reads len ([]) x2.behind w.1.1.1.0 x2.rest in
    record { behind = x3.behind; is = rw (x0.is, x1.is, x2.is, x3.is) refl; rest = x3.rest }
body_reads (PutPiece new number bytes) from b w e =
    let x0 = version_reads new (Number number ∷ field.Piece bytes ∷ []) from b.0 e in
    let x1 = number_reads number (field.Piece bytes ∷ []) x0.behind w.1.0 x0.rest in
    let x2 = piece_reads bytes ([]) x1.behind b.1.1.0 x1.rest in
    record { behind = x2.behind; is = rw (x0.is, x1.is, x2.is) refl; rest = x2.rest }
body_reads (Commit old new) from b w e =
    let x0 = version_reads old (VersionOf new ∷ []) from b.0 e in
    let x1 = version_reads new ([]) x0.behind b.1.0 x0.rest in
    record { behind = x1.behind; is = rw (x0.is, x1.is) refl; rest = x1.rest }
body_reads (Abort new) from b w e =
    let x0 = version_reads new ([]) from b.0 e in
    record { behind = x0.behind; is = rw x0.is refl; rest = x0.rest }
body_reads (VersionKept version) from b w e =
    let x0 = version_reads version ([]) from b.0 e in
    record { behind = x0.behind; is = rw x0.is refl; rest = x0.rest }

end_again : (from : Reading) → from.rest ≡ spelled [] → end_at from ≡ Ok tt
unfolding end_at spelled
end_again from e = rw e refl

packet_again : (p : Packet) (from : Reading) → AllByRecursion IsBounded (frame_fields (frame.Packet p)) → AllByRecursion IsOfItsBits (frame_fields (frame.Packet p))
    → from.rest ≡ spelled (Number (packet_kind p.body) ∷ Number p.from.0 ∷ Number p.to.0 ∷ body_fields p.body) → packet_frame from ≡ Ok (frame.Packet p)
unfolding packet_frame packet_at packet_kind_at
packet_again p from b w e =
    let x0 = number_reads (packet_kind p.body) (Number p.from.0 ∷ Number p.to.0 ∷ body_fields p.body) from (small p.body) e in
    let x1 = host_reads p.from (Number p.to.0 ∷ body_fields p.body) x0.behind w.1.1.0 x0.rest in
    let x2 = host_reads p.to (body_fields p.body) x1.behind w.1.1.1.0 x1.rest in
    let x3 = body_reads p.body x2.behind b.1.1.1.1 w.1.1.1.1 x2.rest in
    rw (x0.is, kind_again p.body, x1.is, x2.is, x3.is, end_again x3.behind x3.rest) refl

rest_again : (bytes : List ℕ) (from : Reading) → from.rest ≡ spelled (AsTheyAre bytes ∷ []) → from.rest ≡ bytes
unfolding spelled field_spelling
rest_again bytes from e = e ∙ append-nil bytes

ask_again : (number : ℕ) (call : List ℕ) (from : Reading) → number < 2 ^ 32 → from.rest ≡ spelled (Number number ∷ AsTheyAre call ∷ []) → ask_frame from ≡ Ok (frame.Ask number call)
unfolding ask_frame
ask_again number call from w e =
    let x0 = number_reads number (AsTheyAre call ∷ []) from w e in
    rw (x0.is, rest_again call x0.behind x0.rest) refl

applied_again : (applied : Applied) → applied_of (is_unknown applied) ≡ applied
applied_again No = refl
applied_again Unknown = refl

reply_again : (number : ℕ) (r : Reply) (from : Reading) → number < 2 ^ 32 → AllByRecursion IsBounded (reply_fields r) → AllByRecursion IsOfItsBits (reply_fields r)
    → from.rest ≡ spelled (Number number ∷ reply_fields r) → reply_frame from ≡ Ok (frame.Reply number r)
unfolding reply_frame other_reply_frame rule_at no_quorum_at not_sync_at line_full_at too_large_at bad_record_at
reply_again number (reply.Ok answer) from lt b w e =
    let x0 = number_reads number (Number 0 ∷ AsTheyAre answer ∷ []) from lt e in
    let x1 = number_reads 0 (AsTheyAre answer ∷ []) x0.behind (omega arith) x0.rest in
    rw (x0.is, x1.is, rest_again answer x1.behind x1.rest) refl
reply_again number (reply.Rule n) from lt b w e =
    let x0 = number_reads number (Number 1 ∷ Number n ∷ []) from lt e in
    let x1 = number_reads 1 (Number n ∷ []) x0.behind (omega arith) x0.rest in
    let x2 = number_reads n ([]) x1.behind w.1.0 x1.rest in
    rw (x0.is, x1.is, x2.is, end_again x2.behind x2.rest) refl
reply_again number (reply.NoQuorum now until phase applied) from lt b w e =
    let x0 = number_reads number (Number 2 ∷ Number now ∷ Number until ∷ PhaseOf phase ∷ Truth (is_unknown applied) ∷ []) from lt e in
    let x1 = number_reads 2 (Number now ∷ Number until ∷ PhaseOf phase ∷ Truth (is_unknown applied) ∷ []) x0.behind (omega arith) x0.rest in
    let x2 = number_reads now (Number until ∷ PhaseOf phase ∷ Truth (is_unknown applied) ∷ []) x1.behind w.1.0 x1.rest in
    let x3 = number_reads until (PhaseOf phase ∷ Truth (is_unknown applied) ∷ []) x2.behind w.1.1.0 x2.rest in
    let x4 = phase_reads phase (Truth (is_unknown applied) ∷ []) x3.behind x3.rest in
    let x5 = flag_reads (is_unknown applied) ([]) x4.behind x4.rest in
    rw (x0.is, x1.is, x2.is, x3.is, x4.is, x5.is, end_again x5.behind x5.rest, applied_again applied) refl
reply_again number (reply.NotSync host heard) from lt b w e =
    let x0 = number_reads number (Number 3 ∷ Number host.0 ∷ Number heard ∷ []) from lt e in
    let x1 = number_reads 3 (Number host.0 ∷ Number heard ∷ []) x0.behind (omega arith) x0.rest in
    let x2 = host_reads host (Number heard ∷ []) x1.behind w.1.0 x1.rest in
    let x3 = number_reads heard ([]) x2.behind w.1.1.0 x2.rest in
    rw (x0.is, x1.is, x2.is, x3.is, end_again x3.behind x3.rest) refl
reply_again number (reply.LineFull holder) from lt b w e =
    let x0 = number_reads number (Number 4 ∷ Number holder ∷ []) from lt e in
    let x1 = number_reads 4 (Number holder ∷ []) x0.behind (omega arith) x0.rest in
    let x2 = number_reads holder ([]) x1.behind w.1.0 x1.rest in
    rw (x0.is, x1.is, x2.is, end_again x2.behind x2.rest) refl
reply_again number (reply.TooLarge bytes) from lt b w e =
    let x0 = number_reads number (Number 5 ∷ Long bytes ∷ []) from lt e in
    let x1 = number_reads 5 (Long bytes ∷ []) x0.behind (omega arith) x0.rest in
    let x2 = long_reads bytes ([]) x1.behind w.1.0 x1.rest in
    rw (x0.is, x1.is, x2.is, end_again x2.behind x2.rest) refl
reply_again number reply.Malformed from lt b w e =
    let x0 = number_reads number (Number 6 ∷ []) from lt e in
    let x1 = number_reads 6 ([]) x0.behind (omega arith) x0.rest in
    rw (x0.is, x1.is, end_again x1.behind x1.rest) refl
reply_again number reply.DiskFault from lt b w e =
    let x0 = number_reads number (Number 7 ∷ []) from lt e in
    let x1 = number_reads 7 ([]) x0.behind (omega arith) x0.rest in
    rw (x0.is, x1.is, end_again x1.behind x1.rest) refl
reply_again number reply.NoMemory from lt b w e =
    let x0 = number_reads number (Number 8 ∷ []) from lt e in
    let x1 = number_reads 8 ([]) x0.behind (omega arith) x0.rest in
    rw (x0.is, x1.is, end_again x1.behind x1.rest) refl
reply_again number (reply.BadRecord place) from lt b w e =
    let x0 = number_reads number (Number 9 ∷ Number place ∷ []) from lt e in
    let x1 = number_reads 9 (Number place ∷ []) x0.behind (omega arith) x0.rest in
    let x2 = number_reads place ([]) x1.behind w.1.0 x1.rest in
    rw (x0.is, x1.is, x2.is, end_again x2.behind x2.rest) refl

debug_again : (number : ℕ) (told : DebugIs) (from : Reading) → number < 2 ^ 32 → AllByRecursion IsBounded (debug_fields told) → AllByRecursion IsOfItsBits (debug_fields told)
    → from.rest ≡ spelled (Number number ∷ debug_fields told) → debug_is_frame from ≡ Ok (frame.DebugIs number told)
unfolding debug_is_frame debug_is_at
debug_again number told from lt b w e =
    let x0 = number_reads number (debug_fields told) from lt e in
    let x1 = host_reads told.host (Number told.now ∷ VersionOf told.version ∷ PhaseOf told.phase ∷ Number told.until ∷ Number told.sync.0 ∷ Number told.voted.0 ∷ Number told.voted_at ∷ []) x0.behind w.0 x0.rest in
    let x2 = number_reads told.now (VersionOf told.version ∷ PhaseOf told.phase ∷ Number told.until ∷ Number told.sync.0 ∷ Number told.voted.0 ∷ Number told.voted_at ∷ []) x1.behind w.1.0 x1.rest in
    let x3 = version_reads told.version (PhaseOf told.phase ∷ Number told.until ∷ Number told.sync.0 ∷ Number told.voted.0 ∷ Number told.voted_at ∷ []) x2.behind b.1.1.0 x2.rest in
    let x4 = phase_reads told.phase (Number told.until ∷ Number told.sync.0 ∷ Number told.voted.0 ∷ Number told.voted_at ∷ []) x3.behind x3.rest in
    let x5 = number_reads told.until (Number told.sync.0 ∷ Number told.voted.0 ∷ Number told.voted_at ∷ []) x4.behind w.1.1.1.1.0 x4.rest in
    let x6 = host_reads told.sync (Number told.voted.0 ∷ Number told.voted_at ∷ []) x5.behind w.1.1.1.1.1.0 x5.rest in
    let x7 = host_reads told.voted (Number told.voted_at ∷ []) x6.behind w.1.1.1.1.1.1.0 x6.rest in
    let x8 = number_reads told.voted_at ([]) x7.behind w.1.1.1.1.1.1.1.0 x7.rest in
    rw (x0.is, x1.is, x2.is, x3.is, x4.is, x5.is, x6.is, x7.is, x8.is, end_again x8.behind x8.rest) refl

pub behind_again : (f : Frame) (from : Reading) → AllByRecursion IsBounded (frame_fields f) → AllByRecursion IsOfItsBits (frame_fields f) → from.rest ≡ behind_length f
    → (number_at from >>= λ n. frame_at n.0 n.1) ≡ Ok f
unfolding debug_frame
behind_again (frame.Packet p) from b w e =
    let x = number_reads 0 (Number (packet_kind p.body) ∷ Number p.from.0 ∷ Number p.to.0 ∷ body_fields p.body) from (omega arith) e in
    rw x.is (packet_again p x.behind b w x.rest)
behind_again (frame.Ask number call) from b w e =
    let x = number_reads 1 (Number number ∷ AsTheyAre call ∷ []) from (omega arith) e in
    rw x.is (ask_again number call x.behind w.1.0 x.rest)
behind_again (frame.Reply number r) from b w e =
    let x = number_reads 2 (Number number ∷ reply_fields r) from (omega arith) e in
    rw x.is (reply_again number r x.behind w.1.0 b.1.1 w.1.1 x.rest)
behind_again (frame.Debug number) from b w e =
    let x = number_reads 3 (Number number ∷ []) from (omega arith) e in
    let y = number_reads number [] x.behind w.1.0 x.rest in
    rw (x.is, y.is, end_again y.behind y.rest) refl
behind_again (frame.DebugIs number told) from b w e =
    let x = number_reads 4 (Number number ∷ debug_fields told) from (omega arith) e in
    rw x.is (debug_again number told x.behind w.1.0 b.1.1 w.1.1 x.rest)

pub length_again : (f : Frame) → HasSpelling f → length_at (spelling f) ≡ Ok (past 4 (at_start (spelling f)))
unfolding length_at
length_again f has =
    let len = length (behind_length f) in
    let size : length (spelling f) ≡ 4 + len = length-append (word len) (behind_length f) in
    let long : nat_lt (length (spelling f)) 4 ≡ false = le-ltb _ _ (omega arith) in
    let less : length (spelling f) - 4 ≡ len = omega arith in
    let short : nat_lt len 2097149 ≡ true = lt-ltb _ _ (omega (arith, has.bound)) in
    rw (long, word_reads len (behind_length f) (at_start (spelling f)) (omega (arith, has.bound)) refl, less, eq-eqb len len refl, short) refl

pub frame_again : (f : Frame) → IsFrame f → frame_of (spelling f) ≡ Ok f
unfolding frame_of
frame_again f is =
    let from = past 4 (at_start (spelling f)) in
    rw (length_again f is.0) (behind_again f from is.0.bounded is.1 (drop_at (word (length (behind_length f))) (behind_length f) 4 refl))
