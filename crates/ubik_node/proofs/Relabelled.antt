-- A relabelling: what goes to the others, and the server after it.
use Rattle.std.proofs.Common.{◌≡◌, ◌≤◌, ◌<◌, ◌++◌, ℕ, zero, suc, Bool, true, false, ltb, Option, Some, None, IfSome, IsSome, List, [], ◌∷◌, length, refl, sym, ap, ◌∙◌, append_assoc, arith}
use Rattle.std.proofs.lemmas.Bool.Decides.{nat_tests}
use Rattle.std.proofs.lemmas.List.{map-append}
use Rattle.ubik_types.specs.declared.hosts.Host.{Host}
use Rattle.ubik_types.specs.declared.versions.Version.{Version}
use Rattle.ubik_types.specs.Phase.{Polled}
use Rattle.disk_base.specs.Files.{Files}
use Rattle.ubik_store.specs.Store.{image_in}
use Rattle.ubik_calls.specs.declared.packets.Body.{Body}
use Rattle.cell_model.specs.Node.{Server}
use Rattle.cell_model.specs.Pieces.{piece_from}
use Rattle.cell_model.specs.Polls.{entry_at}
use Rattle.cell_model.specs.Recovery.{spread_answer}
use Rattle.cell_model.specs.Step.{Member, Shown, outputs_of}
use Rattle.cell_model.specs.Step.{sends_from, sends_to_each}
use Rattle.cell_model.specs.declared.events.Output.{Output}
use Rattle.server_rules.proofs.Turns.{sends_same}
use Rattle.server_state.specs.declared.spreading.Given.{Given}
use Rattle.server_state.specs.Spreading.{given_bodies}

pub alone_sends : (m : Member) (a : ℕ → List Body) → length m.hosts ≤ 1 → m.me < length m.hosts → sends_to_each m a ≡ []
alone_sends m a one inside = by m.hosts m.me one inside
  where
    by : (hosts : List Host) (me : ℕ) → length hosts ≤ 1 → me < length hosts → sends_from (record { hosts = hosts; me = me }) 0 hosts a ≡ []
    by [] me one inside = refl
    by (h ∷ []) zero one inside = refl
    by (h ∷ []) (suc me) one inside = absurd (omega (arith, inside))
    by (h ∷ g ∷ hosts) me one inside = absurd (omega (arith, one))

-- what goes to each
abbrev pub given_as : (poll : ℕ) → (old new : Version) → (total : ℕ) → List ℕ → Given
given_as poll old new total piece = record { poll = poll; old = old; new = new; total = total; piece = piece }

bodies_same : (poll : Polled) (old : Version) (after : Server) (answer : Option Version) → given_bodies (given_as poll.number old after.version (length after.image) (piece_from after.image 0)) answer ≡ spread_answer after poll old answer
bodies_same poll old after None = refl
bodies_same poll old after (Some v) = refl

pub spread_same : (m : Member) (poll : Polled) (old : Version) (after : Server) (total : ℕ) (piece : List ℕ) → m.me < length m.hosts → total ≡ length after.image → (1 < length m.hosts → piece ≡ piece_from after.image 0)
    → sends_to_each m (λ k. given_bodies (given_as poll.number old after.version total piece) (entry_at poll.answers k)) ≡ sends_to_each m (λ k. spread_answer after poll old (entry_at poll.answers k))
spread_same m poll old after total piece inside long first = by (ltb 1 (length m.hosts)) refl
  where
    by : (b : Bool) → ltb 1 (length m.hosts) ≡ b
        → sends_to_each m (λ k. given_bodies (given_as poll.number old after.version total piece) (entry_at poll.answers k)) ≡ sends_to_each m (λ k. spread_answer after poll old (entry_at poll.answers k))
    by true more =
        rw (long, first (grind (arith, nat_tests))) (sends_same m 0 m.hosts _ _ (λ k. bodies_same poll old after (entry_at poll.answers k)))
    by false few =
        let one : length m.hosts ≤ 1 = grind (arith, nat_tests) in
        alone_sends m _ one inside ∙ sym (alone_sends m _ one inside)

-- what a relabelling puts out
pub relabel_outputs : (m : Member) (poll : Polled) (old : Version) (after : Server) (number total : ℕ) (piece : List ℕ) (first mid last : List Output) (rest : List Shown) → m.me < length m.hosts → number ≡ poll.number
    → total ≡ length after.image → (1 < length m.hosts → piece ≡ piece_from after.image 0)
    → mid ≡ first ++ outputs_of (sends_to_each m (λ k. given_bodies (given_as number old after.version total piece) (entry_at poll.answers k))) → last ≡ mid ++ outputs_of rest
    → last ≡ first ++ outputs_of (sends_to_each m (λ k. spread_answer after poll old (entry_at poll.answers k)) ++ rest)
relabel_outputs m poll old after number total piece first mid last rest inside same long starts given then =
    rw (then, given, same, spread_same m poll old after total piece inside long starts) (simp (append_assoc, map-append))

-- a piece that was read is one of the image
pub piece_known : (files : Option Files) (piece image : List ℕ) (at : ℕ) → IsSome files → IfSome (image_in files) (λ there. piece ≡ piece_from there at) → IfSome (image_in files) (λ there. there ≡ image) → piece ≡ piece_from image at
piece_known None piece image at told is there = absurd cc
piece_known (Some fs) piece image at told is there = is ∙ ap (λ (bytes : List ℕ). piece_from bytes at) there
