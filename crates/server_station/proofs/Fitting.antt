-- What is fit is light, and what has come in a frame counts for no more than the greatest one.
use Rattle.std.proofs.Common.{◌≡◌, ℕ, ◌+◌, ◌-◌, ◌%◌, ◌<◌, ◌≤◌, List, [], length, arith}
use Rattle.std.specs.Prelude.{◌^◌}
use Rattle.std.proofs.Math.Nat.{mod-lt}
use Rattle.std.proofs.lemmas.List.{length-append}
use Rattle.std.specs.List.{AllByRecursion}
use Rattle.xdr_base.specs.Spelling.{padding}
use Rattle.ubik_calls.specs.declared.packets.Body.{Body}
use Rattle.ubik_calls.specs.declared.packets.Body.TheVariants as body
use Rattle.ubik_calls.specs.declared.packets.Packet.{Packet}
use Rattle.ubik_calls.specs.declared.packets.TheConstants.{MAX_PIECE}
use Rattle.ubik_calls.specs.declared.frames.Frame.TheVariants as frame
use Rattle.ubik_calls.specs.Fields as field
use Rattle.ubik_calls.specs.Fields.{IsBounded, spelled}
use Rattle.ubik_calls.specs.Length.{body_length}
use Rattle.ubik_calls.specs.WireGrammar.{HasSpelling, behind_length, body_fields}
use Rattle.cell_model.specs.declared.events.NodeEvent.{NodeEvent}
use Rattle.cell_model.specs.declared.events.NodeEvent.TheVariants as event
use Rattle.server_journal.specs.Weight.{IsLight}
use Rattle.server_station.specs.Fit.{IsFit, IsFramed}

abbrev Bounded : Body → Type 0
Bounded b = AllByRecursion IsBounded (body_fields b)

piece_length : (bytes : List ℕ) → length bytes ≤ MAX_PIECE → 4 + length bytes + padding (length bytes) ≤ 8200
piece_length bytes short =
    let few : length bytes ≤ 8192 = short in
    let pad : padding (length bytes) < 4 = mod-lt (4 - length bytes % 4) (omega arith) in omega arith

body_short : (b : Body) → Bounded b → body_length b ≤ 8300
body_short (body.Piece poll version total offset bytes) is =
    let short : 4 + length bytes + padding (length bytes) ≤ 8200 = piece_length bytes is.1.1.1.1.0 in omega arith
body_short (body.SendPiece poll version total offset bytes) is =
    let short : 4 + length bytes + padding (length bytes) ≤ 8200 = piece_length bytes is.1.1.1.1.0 in omega arith
body_short (body.PutPiece new number bytes) is =
    let short : 4 + length bytes + padding (length bytes) ≤ 8200 = piece_length bytes is.1.1.0 in omega arith
body_short (body.Beacon start claim ready version) is = omega arith
body_short (body.Vote start granted) is = omega arith
body_short (body.GetVersion poll) is = omega arith
body_short (body.VersionIs poll version) is = omega arith
body_short (body.GetPiece poll version offset) is = omega arith
body_short (body.PieceKept poll version next) is = omega arith
body_short (body.SetVersion poll old new) is = omega arith
body_short (body.Begin old new pieces len) is = omega arith
body_short (body.Commit old new) is = omega arith
body_short (body.Abort new) is = omega arith
body_short (body.VersionKept version) is = omega arith

-- a packet that has a spelling
pub packet_framed : (p : Packet) → HasSpelling (frame.Packet p) → IsFramed (event.Packet p)
packet_framed p is = let short = body_short p.body is.bounded.1.1.1.1 in omega arith

-- what is fit is light
pub fit_light : (e : NodeEvent) → IsFit e → IsLight e
fit_light (event.Packet p) fit = let short = body_short p.body fit.bounded.1.1.1.1 in omega arith
fit_light event.BeaconTurn fit = omega arith
fit_light event.RecoverTurn fit = omega arith
fit_light (event.Ask id call) fit = omega (arith, fit)

ask_length : (number : ℕ) (call : List ℕ) → length (behind_length (frame.Ask number call)) ≡ 8 + length call
unfolding spelled field.field_spelling
ask_length number call = omega (arith, length-append call [])

-- a call that has come in a frame is short
pub ask_short : (number : ℕ) (call : List ℕ) → HasSpelling (frame.Ask number call) → length call < 2 ^ 31
ask_short number call is = omega (arith, is.bound, ask_length number call)

pub ask_framed : (id number : ℕ) (call : List ℕ) → HasSpelling (frame.Ask number call) → IsFramed (event.Ask id call)
ask_framed id number call is = omega (arith, is.bound, ask_length number call)
