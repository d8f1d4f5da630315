-- The packets of a write, one after the other.
use Rattle.std.proofs.Common.{◌≡◌, ℕ, suc, ◌+◌, ◌-◌, ◌<◌, ◌≤◌, ◌==◌, false, Some, List, [], ◌∷◌, ◌++◌, length, map, take, drop, slice_get, refl, sym, ap, ◌∙◌, append_assoc, arith}
use Rattle.std.proofs.lemmas.List.{take-append-le}
use Rattle.ubik_types.specs.declared.hosts.Host.{Host}
use Rattle.ubik_types.specs.declared.versions.Version.{Version}
use Rattle.ubik_calls.specs.declared.packets.Body.{Body}
use Rattle.ubik_calls.specs.declared.packets.Body.TheVariants as body
use Rattle.cell_model.specs.declared.events.Output.{Output}
use Rattle.cell_model.specs.declared.events.Output.TheVariants.{Send}
use Rattle.cell_model.specs.Pieces.{numbered_piece}
use Rattle.cell_model.specs.Step.{Member, Shown, outputs_of, packet_to, sends_from, sent}
use Rattle.cell_model.specs.Writes.{put_pieces}
use Rattle.server_state.proofs.Sending.{left_of, parted}

-- packets to a host
abbrev pub packets : Member → Host → List Body → List Output
packets m host those = outputs_of (map (λ (b : Body). sent (packet_to m host b)) those)

pub shown-append : (first later : List Shown) → outputs_of (first ++ later) ≡ outputs_of first ++ outputs_of later
shown-append [] later = refl
shown-append (one ∷ first) later = ap (λ (rest : List Output). one.output ∷ rest) (shown-append first later)

given-all : (m : Member) (bodies : ℕ → List Body) (those : List Body) (k : ℕ) (host : Host) (hosts : List Host) → (k == m.me) ≡ false
    → bodies k ≡ those
    → left_of m bodies k (host ∷ hosts) ≡ packets m host those ++ left_of m bodies (k + 1) hosts
given-all m bodies those k host hosts other is =
    rw (other, is) (shown-append (map (λ (b : Body). sent (packet_to m host b)) those) (sends_from m (k + 1) hosts bodies))

-- all packets of a server
pub gave_all : (m : Member) (bodies : ℕ → List Body) (k : ℕ) (out all : List Output) → k < length m.hosts → out
    ++ left_of m bodies k (drop k m.hosts) ≡ all
    → (host : Host) (those : List Body) → slice_get m.hosts k ≡ Some host → (k == m.me) ≡ false → bodies k ≡ those
    → (out ++ packets m host those) ++ left_of m bodies (k + 1) (drop (k + 1) m.hosts) ≡ all
gave_all m bodies k out all inside rest host those at other is =
    append_assoc out (packets m host those) (left_of m bodies (k + 1) (drop (k + 1) m.hosts))
    ∙ ap (λ (more : List Output). out ++ more)
    (sym (ap (left_of m bodies k) (parted m.hosts k host inside at) ∙ given-all m bodies those k host (drop (k + 1) m.hosts) other is))
    ∙ rest

-- what is left of the pieces of a write
abbrev pub pieces_left : Member → Host → Version → List ℕ → (number left : ℕ) → List Output
pieces_left m host new text number left = packets m host (put_pieces new text number left)

piece_next : (m : Member) (host : Host) (new : Version) (text : List ℕ) (number left : ℕ) → left ≡ suc (left - 1)
    → pieces_left m host new text number left ≡ Send
    (packet_to m host (body.PutPiece new number (numbered_piece text number))) ∷ pieces_left m host new text (number + 1) (left - 1)
piece_next m host new text number left more = ap (pieces_left m host new text number) more

-- one piece more
pub piece_put : (m : Member) (host : Host) (new : Version) (text : List ℕ) (number count : ℕ) (out all : List Output) → number < count
    → out ++ pieces_left m host new text number (count - number) ≡ all
    → (out ++ Send (packet_to m host (body.PutPiece new number (numbered_piece text number))) ∷ [])
    ++ pieces_left m host new text (number + 1) (count - (number + 1)) ≡ all
piece_put m host new text number count out all inside rest =
    let one : count - number ≡ suc (count - number - 1) = omega arith in
    let less : count - (number + 1) ≡ count - number - 1 = omega arith in
    append_assoc out (Send (packet_to m host (body.PutPiece new number (numbered_piece text number))) ∷ [])
    (pieces_left m host new text (number + 1) (count - (number + 1)))
    ∙ ap (λ (left : ℕ). out
    ++ Send (packet_to m host (body.PutPiece new number (numbered_piece text number))) ∷ pieces_left m host new text (number + 1) left) less
    ∙ ap (λ (more : List Output). out ++ more) (sym (piece_next m host new text number (count - number) one)) ∙ rest

-- what stood at the front still stands there
pub front_stays : (first out more : List Output) → length first ≤ length out → take (length first) out ≡ first
    → take (length first) (out ++ more) ≡ first
front_stays first out more inside front = take-append-le (length first) out more inside ∙ front
