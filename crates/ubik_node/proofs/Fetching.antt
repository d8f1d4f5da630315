-- A fetch: its pieces, and what the last one leads to.
use Rattle.std.proofs.Common.{◌≡◌, ◌∙◌, ℕ, Bool, true, false, cond, Option, Some, None, IfSome, IsSome, List, [], length, take, min, refl, sym, ap}
use Rattle.std.specs.Option.{option_map}
use Rattle.std.proofs.lemmas.List.{take_min}
use Rattle.disk_base.specs.Files.{Files}
use Rattle.ubik_types.specs.Image.{effect}
use Rattle.ubik_store.specs.Store.{image_in}
use Rattle.ubik_types.specs.declared.versions.Version.{Version}
use Rattle.ubik_types.specs.Phase.{Polled, Relabel}
use Rattle.cell_model.specs.Node.{Server, ReceivedText}
use Rattle.cell_model.specs.Pieces.{piece_from}
use Rattle.cell_model.specs.Step.{is_fetch, with_database, with_phase}
use Rattle.ubik_recovery.specs.Record as recovery
use Rattle.ubik_recovery.specs.Record.{RecoveryRecord, adopted, phase_record}
use Rattle.server_state.specs.Held.{held_image}
use Rattle.server_state.specs.declared.state.State.{State}
use Rattle.server_state.specs.State.{announced, server_of, server_with}
use Rattle.ubik_node.proofs.Received.{held_text}
use Rattle.state_laws.proofs.Waiting.{drop_none}

cond_none : (b : Bool) (text : Option ReceivedText) → text ≡ None → cond b None text ≡ None
cond_none true text is = refl
cond_none false text is = is

-- an image that was installed waits for its relabelling
pub waits_at : (s : Server) (best : Version) (image : List ℕ) (poll : Polled) (x : State) (next : RecoveryRecord) → with_database s best image ≡ server_of x
    → with_phase (with_database s best image) (Relabel poll) ≡ with_phase (server_with x (adopted next x.recovery)) (Relabel poll)
waits_at s best image poll x next is =
    let none : x.recovery.text ≡ None = sym (ap (λ (y : Server). y.received) is) in
    ap (λ (text : Option ReceivedText). record (with_database s best image) { phase = Relabel poll; received = text }) (cond_none (is_fetch s.phase) None refl)
    ∙ ap (λ (y : Server). record y { phase = Relabel poll; received = None }) is
    ∙ ap (λ (text : Option ReceivedText). record (server_of x) { phase = Relabel poll; received = text })
    (sym (cond_none (is_fetch (phase_record (announced x) (adopted next x.recovery))) _
    (cond_none (recovery.is_fetch x.recovery.phase) _ (cond_none (recovery.is_fetch next.phase) x.recovery.text none))))

-- the image that the store holds after both calls
pub held_twice : (before mid after : Option Files) (len : ℕ) (text bytes : List ℕ) → IsSome before → IfSome before (λ _. image_in mid ≡ Some text) → image_in after ≡ option_map (λ image. effect image []) (image_in mid) → bytes ≡ held_image after len
    → bytes ≡ text
held_twice before mid after len text bytes tells is also holds = held_text before after len text bytes tells (by before tells is) holds
  where
    by : (before : Option Files) → IsSome before → IfSome before (λ _. image_in mid ≡ Some text) → IfSome before (λ _. image_in after ≡ Some text)
    by None tells is = tt
    by (Some fs) tells is = also ∙ ap (λ (o : Option (List ℕ)). option_map (λ image. effect image []) o) is

-- the first piece of a text
pub first_of : (text piece : List ℕ) (n : ℕ) → n ≡ min 8192 (length text) → piece ≡ take n text → piece ≡ piece_from text 0
first_of text piece n is cut = cut ∙ ap (λ (k : ℕ). take k text) is ∙ take_min 8192 text ∙ ap (take 8192) (sym (drop_none text))
