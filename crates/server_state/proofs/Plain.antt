-- What is plain has a spelling.
use Rattle.std.proofs.Common.{◌≡◌, ℕ, ◌≤◌, List, [], ◌∷◌, ◌++◌, length, replicate, sym, subst, arith}
use Rattle.std.proofs.lemmas.List.{length-append, length-replicate}
use Rattle.std.specs.List.{AllByRecursion}
use Rattle.xdr_base.specs.Spelling.{word, padding, opaque}
use Rattle.ubik_types.specs.Version.{IsVersion}
use Rattle.ubik_calls.specs.declared.frames.Frame.TheVariants as frame
use Rattle.ubik_calls.specs.declared.packets.Body.{Body}
use Rattle.ubik_calls.specs.declared.packets.Body.TheVariants.{Beacon, Vote, GetVersion, VersionIs, GetPiece, Piece, SendPiece, PieceKept, SetVersion, Begin, PutPiece, Commit, Abort, VersionKept}
use Rattle.ubik_calls.specs.declared.packets.Packet.{Packet}
use Rattle.ubik_calls.specs.declared.replies.DebugIs.{DebugIs}
use Rattle.ubik_calls.specs.declared.replies.Reply.{Reply}
use Rattle.ubik_calls.specs.declared.replies.Reply.TheVariants as reply
use Rattle.ubik_calls.specs.Fields as field
use Rattle.ubik_calls.specs.Fields.{Field, IsBounded, spelled}
use Rattle.ubik_calls.specs.WireGrammar.{HasSpelling, body_fields, reply_fields}
use Rattle.server_state.specs.declared.state.State.{State}
use Rattle.server_state.specs.Plain.{IsPiece, IsPlainBody, IsPlainReply}
use Rattle.server_state.specs.Spelled.{IsSpelledReply}

bounded_body : (body : Body) → IsPlainBody body → AllByRecursion IsBounded (body_fields body)
bounded_body (Beacon start claim ready version) plain = (tt, (tt, (tt, (plain, tt))))
bounded_body (Vote start granted) plain = (tt, (tt, tt))
bounded_body (GetVersion poll) plain = (tt, tt)
bounded_body (VersionIs poll version) plain = (tt, (plain, tt))
bounded_body (GetPiece poll version offset) plain = (tt, (plain, (tt, tt)))
bounded_body (Piece poll version total offset bytes) plain = (tt, (plain.0, (tt, (tt, (plain.1, tt)))))
bounded_body (SendPiece poll version total offset bytes) plain = (tt, (plain.0, (tt, (tt, (plain.1, tt)))))
bounded_body (PieceKept poll version next) plain = (tt, (plain, (tt, tt)))
bounded_body (SetVersion poll old new) plain = (tt, (plain.0, (plain.1, tt)))
bounded_body (Begin old new pieces len) plain = (plain.0, (plain.1, (tt, (tt, tt))))
bounded_body (PutPiece new number bytes) plain = (plain.0, (tt, (plain.1, tt)))
bounded_body (Commit old new) plain = (plain.0, (plain.1, tt))
bounded_body (Abort new) plain = (plain, tt)
bounded_body (VersionKept version) plain = (plain, tt)

short-piece : (bytes : List ℕ) → IsPiece bytes → length (spelled (field.Piece bytes ∷ [])) ≤ 8200
unfolding spelled field.field_spelling
short-piece bytes piece =
    omega (
      arith,
      piece,
      length-append (opaque bytes) [],
      length-append (word (length bytes) ++ bytes)
          (replicate (padding (length bytes)) 0),
      length-append (word (length bytes)) bytes,
      length-replicate {A = ℕ} (padding (length bytes)) 0,
    )

short-body : (body : Body) → IsPlainBody body → length (spelled (body_fields body)) ≤ 8300
unfolding spelled field.field_spelling
short-body (Beacon start claim ready version) plain = omega arith
short-body (Vote start granted) plain = omega arith
short-body (GetVersion poll) plain = omega arith
short-body (VersionIs poll version) plain = omega arith
short-body (GetPiece poll version offset) plain = omega arith
short-body (Piece poll version total offset bytes) plain = omega (arith, short-piece bytes plain.1)
short-body (SendPiece poll version total offset bytes) plain = omega (arith, short-piece bytes plain.1)
short-body (PieceKept poll version next) plain = omega arith
short-body (SetVersion poll old new) plain = omega arith
short-body (Begin old new pieces len) plain = omega arith
short-body (PutPiece new number bytes) plain = omega (arith, short-piece bytes plain.1)
short-body (Commit old new) plain = omega arith
short-body (Abort new) plain = omega arith
short-body (VersionKept version) plain = omega arith

-- a packet that says what is plain
pub spelled_packet : (p : Packet) → IsPlainBody p.body → HasSpelling (frame.Packet p)
unfolding spelled field.field_spelling
spelled_packet p plain =
    record { bounded = (tt, (tt, (tt, (tt, bounded_body p.body plain)))); bound = omega (arith, short-body p.body plain) }

bounded_reply : (r : Reply) → AllByRecursion IsBounded (reply_fields r)
bounded_reply (reply.Ok answer) = (tt, (tt, tt))
bounded_reply (reply.Rule number) = (tt, (tt, tt))
bounded_reply (reply.NoQuorum now until phase applied) = (tt, (tt, (tt, (tt, (tt, tt)))))
bounded_reply (reply.NotSync host heard) = (tt, (tt, (tt, tt)))
bounded_reply (reply.LineFull holder) = (tt, (tt, tt))
bounded_reply (reply.TooLarge bytes) = (tt, (tt, tt))
bounded_reply reply.Malformed = (tt, tt)
bounded_reply reply.DiskFault = (tt, tt)
bounded_reply reply.NoMemory = (tt, tt)
bounded_reply (reply.BadRecord place) = (tt, (tt, tt))

short-reply : (r : Reply) → IsPlainReply r → length (spelled (reply_fields r)) ≤ 1048600
unfolding spelled field.field_spelling
short-reply (reply.Ok answer) plain = omega (arith, plain, length-append answer [])
short-reply (reply.Rule number) plain = omega arith
short-reply (reply.NoQuorum now until phase applied) plain = omega arith
short-reply (reply.NotSync host heard) plain = omega arith
short-reply (reply.LineFull holder) plain = omega arith
short-reply (reply.TooLarge bytes) plain = omega arith
short-reply reply.Malformed plain = omega arith
short-reply reply.DiskFault plain = omega arith
short-reply reply.NoMemory plain = omega arith
short-reply (reply.BadRecord place) plain = omega arith

-- a reply that is plain
pub spelled_reply : (r : Reply) → IsPlainReply r → IsSpelledReply r
unfolding spelled field.field_spelling
spelled_reply r plain number fits = record { bounded = (tt, (tt, bounded_reply r)); bound = omega (arith, short-reply r plain) }

pub spelled_as : (r s : Reply) → r ≡ s → IsPlainReply s → IsSpelledReply r
spelled_as r s is plain = subst IsSpelledReply (sym is) (spelled_reply s plain)

-- what a server tells of itself
pub spelled_debug : (is : DebugIs) → IsVersion is.version → (number : ℕ) → HasSpelling (frame.DebugIs number is)
unfolding spelled field.field_spelling
spelled_debug is version number =
    record { bounded = (tt, (tt, (tt, (tt, (version, (tt, (tt, (tt, (tt, (tt, tt)))))))))); bound = omega arith }

-- the version of a server is one
pub own_version : (s : State) → IsVersion s.version
own_version s = record { epoch = omega (arith, s.epoch_fits); counter = omega (arith, s.counter_fits) }
