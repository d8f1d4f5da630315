-- The calls that are not answered yet (own).
use Rattle.std.specs.Prelude.{◌≡◌, ℕ, Bool, ◌==◌, ◌&&◌, List, Option, Some, slice_get, remove, position}
use Rattle.server_diary.specs.declared.open_calls.OpenCall.{OpenCall}

-- whether it is the call of this peer under this number
abbrev pub is_call : ℕ → ℕ → OpenCall → Bool
is_call peer number call = (call.peer == peer) && (call.number == number)

-- the first such call is taken out of the list
abbrev pub Takes : ℕ → ℕ → List OpenCall → OpenCall → List OpenCall → Type 0
Takes peer number old call new =
    (place : ℕ) × (position (is_call peer number) old ≡ Some place) × (slice_get old place ≡ Some call) × (new ≡ remove old place)
