-- What is decided of another address of a server.
use Rattle.std.specs.Prelude.{ℕ, ◌≡◌}
use Rattle.vl_calls.specs.declared.answers.VlAnswer.TheVariants as answer
use Rattle.vldb_entries.specs.Location.{Location}
use Rattle.vl_service.specs.Meaning.{Makes, Move, Refuses, address_changed, with_place_of}
use Rattle.vl_service.specs.declared.moving.Movement.{Movement}
use Rattle.vl_service.specs.declared.moving.Movement.TheVariants as movement

abbrev pub IsMovement : Location → (old new : ℕ) → Movement → Type 0
IsMovement s old new (movement.Refused fault) = address_changed s old new ≡ Refuses fault
IsMovement s old new (movement.Moves places) =
    (address_changed s old new ≡ Makes answer.Done (Move old new)) × (places ≡ with_place_of old new s.addresses)
