-- A server without a write stays one, and each packet that it takes or sends has a spelling.
use Rattle.std.proofs.Common.{◌≡◌, ℕ, zero, suc, ◌+◌, ◌-◌, ◌%◌, ◌<◌, ◌≤◌, List, [], ◌∷◌, length, take, refl, arith}
use Rattle.std.proofs.Math.Nat.{mod-lt}
use Rattle.std.proofs.lemmas.List.{length-append}
use Rattle.std.specs.List.{AllByRecursion}
use Rattle.std.specs.Prelude.{◌^◌}
use Rattle.ubik_types.specs.Version.{IsVersion}
use Rattle.ubik_calls.specs.declared.frames.Frame.TheVariants as frame
use Rattle.ubik_calls.specs.declared.packets.Packet.{Packet}
use Rattle.ubik_calls.specs.declared.packets.Body.{Body}
use Rattle.ubik_calls.specs.declared.packets.Body.TheVariants as body
use Rattle.ubik_calls.specs.declared.packets.TheConstants.{MAX_PIECE}
use Rattle.ubik_calls.specs.Laws.{PacketsAreSoLong}
use Rattle.ubik_calls.specs.Length.{HasShortBytes, body_length, packet_length}
use Rattle.ubik_calls.specs.Fields.{IsBounded}
use Rattle.ubik_calls.specs.WireGrammar.{body_fields, behind_length, spelling, HasSpelling}
use Rattle.xdr_base.specs.Spelling.{word, padding}
use Rattle.cell_model.specs.Durable.{Durable, DurableCall, Commit, Relabel, Install, Made, durable_after, durable_after_all}
use Rattle.cell_model.specs.NodeRule.{step_of}
use Rattle.recovery_laws.specs.HasNoWrite.{IsRecoveryBody}
use Rattle.recovery_laws.specs.Spreads.{FitsOver, AllFit, durable_of, NamesVersion, IsSentWhole, RecoverySpreads}
use Rattle.recovery_laws.proofs.Events.{step_goes}
use Rattle.recovery_laws.proofs.Goes.{fine_packets, fine_answers}

-- ---- packets

names_version : (b : Body) → IsRecoveryBody b → NamesVersion b
names_version (body.Beacon start claim ready version) is = tt
names_version (body.Vote start granted) is = tt
names_version (body.GetVersion poll) is = tt
names_version (body.VersionIs poll version) is = is.bounded.1.0
names_version (body.GetPiece poll version offset) is = tt
names_version (body.Piece poll version total offset bytes) is = tt
names_version (body.SendPiece poll version total offset bytes) is = is.bounded.1.0
names_version (body.PieceKept poll version next) is = tt
names_version (body.SetVersion poll old new) is = is.bounded.1.1.0
names_version (body.Begin old new pieces len) is = absurd is.kind
names_version (body.PutPiece new number bytes) is = absurd is.kind
names_version (body.Commit old new) is = absurd is.kind
names_version (body.Abort new) is = absurd is.kind
names_version (body.VersionKept version) is = tt

-- bounded versions and pieces
abbrev pub IsBoundedBody : Body → Type 0
IsBoundedBody b = AllByRecursion IsBounded (body_fields b)

-- a piece is short
piece_bytes : (bytes : List ℕ) → length bytes ≤ MAX_PIECE → length bytes < 2 ^ 32
piece_bytes bytes short = let few : length bytes ≤ 8192 = short in omega arith

piece_length : (bytes : List ℕ) → length bytes ≤ MAX_PIECE → 4 + length bytes + padding (length bytes) ≤ 8200
piece_length bytes short =
    let few : length bytes ≤ 8192 = short in
    let pad : padding (length bytes) < 4 = mod-lt (4 - length bytes % 4) (omega arith) in omega arith

pub short_bytes : (b : Body) → IsBoundedBody b → HasShortBytes b
short_bytes (body.Piece poll version total offset bytes) is = piece_bytes bytes is.1.1.1.1.0
short_bytes (body.SendPiece poll version total offset bytes) is = piece_bytes bytes is.1.1.1.1.0
short_bytes (body.PutPiece new number bytes) is = piece_bytes bytes is.1.1.0
short_bytes (body.Beacon start claim ready version) is = tt
short_bytes (body.Vote start granted) is = tt
short_bytes (body.GetVersion poll) is = tt
short_bytes (body.VersionIs poll version) is = tt
short_bytes (body.GetPiece poll version offset) is = tt
short_bytes (body.PieceKept poll version next) is = tt
short_bytes (body.SetVersion poll old new) is = tt
short_bytes (body.Begin old new pieces len) is = tt
short_bytes (body.Commit old new) is = tt
short_bytes (body.Abort new) is = tt
short_bytes (body.VersionKept version) is = tt

body_short : (b : Body) → IsBoundedBody b → body_length b ≤ 8300
body_short (body.Piece poll version total offset bytes) is =
    let short : 4 + length bytes + padding (length bytes) ≤ 8200 = piece_length bytes is.1.1.1.1.0 in omega arith
body_short (body.SendPiece poll version total offset bytes) is =
    let short : 4 + length bytes + padding (length bytes) ≤ 8200 = piece_length bytes is.1.1.1.1.0 in omega arith
body_short (body.PutPiece new number bytes) is =
    let short : 4 + length bytes + padding (length bytes) ≤ 8200 = piece_length bytes is.1.1.0 in omega arith
body_short (body.Beacon start claim ready version) is = omega arith
body_short (body.Vote start granted) is = omega arith
body_short (body.GetVersion poll) is = omega arith
body_short (body.VersionIs poll version) is = omega arith
body_short (body.GetPiece poll version offset) is = omega arith
body_short (body.PieceKept poll version next) is = omega arith
body_short (body.SetVersion poll old new) is = omega arith
body_short (body.Begin old new pieces len) is = omega arith
body_short (body.Commit old new) is = omega arith
body_short (body.Abort new) is = omega arith
body_short (body.VersionKept version) is = omega arith

-- a frame without its length
bound_of : (whole head behind packet rest : ℕ) → whole ≡ packet → whole ≡ head + behind → packet ≡ 20 + rest → rest ≤ 8300 →
    behind ≤ 2097148
bound_of whole head behind packet rest is parts known short = omega arith

pub spelled_packet : PacketsAreSoLong → (p : Packet) → IsBoundedBody p.body → HasSpelling (frame.Packet p)
spelled_packet long p is = record {
  bounded = (tt, (tt, (tt, (tt, is))));
  bound =
      bound_of (length (spelling (frame.Packet p))) (length (word (length (behind_length (frame.Packet p)))))
      (length (behind_length (frame.Packet p))) (packet_length p) (body_length p.body) (long p)
      (length-append (word (length (behind_length (frame.Packet p)))) (behind_length (frame.Packet p))) refl (body_short p.body is);
}

whole_packet : PacketsAreSoLong → (p : Packet) → IsRecoveryBody p.body → IsSentWhole p
whole_packet long p is =
    record { names = names_version p.body is; short = short_bytes p.body is.bounded; spelled = spelled_packet long p is.bounded }

-- ---- durable calls

after_fits : (d : Durable) (call : DurableCall) → FitsOver d.image call → IsVersion (durable_after d call).version
after_fits d (Commit version changes image) fits = fits.0.version
after_fits d (Relabel version) fits = fits.version
after_fits d (Install version image) fits = fits.0.version

pub versions_within : (d : Durable) (calls : List Made) (made : ℕ) → IsVersion d.version → AllFit d calls →
    IsVersion (durable_after_all d (take made calls)).version
versions_within d calls zero is fits = is
versions_within d [] (suc made) is fits = is
versions_within d (first ∷ calls) (suc made) is fits =
    versions_within (durable_after d first.call) calls made (after_fits d first.call fits.0) fits.1

-- ---- steps

pub recovery_spreads : PacketsAreSoLong → RecoverySpreads
recovery_spreads long = record {
  first = λ servers d now is. record { version = is; phase = tt; received = tt; kept = refl; flight = refl; waiting = refl };
  steps = λ db m s now e short inside moment good taken.
      let goes = step_goes db m now inside moment s e short good taken in
      record {
        server = goes.server;
        packets = fine_packets m e (step_of db m s now e short).shown goes.shown;
        fits = goes.fits;
        leads = goes.leads;
        versions = λ made. versions_within (durable_of s) (step_of db m s now e short).calls made good.version goes.fits;
        few = goes.few;
        own = goes.own;
      };
  answers = λ db m s now e short call inside moment good taken asks.
      fine_answers m e call (step_of db m s now e short).shown asks (step_goes db m now inside moment s e short good taken).shown;
  whole = λ hosts p is. whole_packet long p is.body;
}
