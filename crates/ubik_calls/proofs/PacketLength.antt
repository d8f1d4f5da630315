-- How long the spelling of a packet is.
use Rattle.std.proofs.Common.{◌≡◌, ℕ, List, [], ◌∷◌, ◌++◌, length, replicate, refl, arith}
use Rattle.std.proofs.lemmas.List.{length-append, length-replicate}
use Rattle.xdr_base.specs.Spelling.{word, padding, opaque, opaque_len}
use Rattle.ubik_calls.specs.declared.packets.Body.{Body}
use Rattle.ubik_calls.specs.declared.packets.Body.TheVariants.{Beacon, Vote, GetVersion, VersionIs, GetPiece, Piece, SendPiece, PieceKept, SetVersion, Begin, PutPiece, Commit, Abort, VersionKept}
use Rattle.ubik_calls.specs.Fields as field
use Rattle.ubik_calls.specs.Fields.{Field, spelled}
use Rattle.ubik_calls.specs.Length.{body_length}
use Rattle.ubik_calls.specs.WireGrammar.{body_fields}
use Rattle.ubik_calls.specs.Laws.{PacketsAreSoLong}

length-piece : (bytes : List ℕ) → length (spelled (field.Piece bytes ∷ [])) ≡ opaque_len (length bytes)
unfolding spelled field.field_spelling
length-piece bytes =
    omega (arith, length-append (opaque bytes) [], length-append (word (length bytes) ++ bytes) (replicate (padding (length bytes)) 0), length-append (word (length bytes)) bytes, length-replicate {A = ℕ} (padding (length bytes)) 0)

length-body : (body : Body) → length (spelled (body_fields body)) ≡ body_length body
unfolding spelled field.field_spelling
length-body (Beacon start claim ready version) = refl
length-body (Vote start granted) = refl
length-body (GetVersion poll) = refl
length-body (VersionIs poll version) = refl
length-body (GetPiece poll version offset) = refl
length-body (Piece poll version total offset bytes) = omega (arith, length-piece bytes)
length-body (SendPiece poll version total offset bytes) = omega (arith, length-piece bytes)
length-body (PieceKept poll version next) = refl
length-body (SetVersion poll old new) = refl
length-body (Begin old new pieces len) = refl
length-body (PutPiece new number bytes) = omega (arith, length-piece bytes)
length-body (Commit old new) = refl
length-body (Abort new) = refl
length-body (VersionKept version) = refl

pub packets_are_so_long : PacketsAreSoLong
unfolding spelled field.field_spelling
packets_are_so_long p = omega (arith, length-body p.body)
