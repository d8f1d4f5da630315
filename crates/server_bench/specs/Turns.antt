-- What is asked of the protection database in each turn (own).
use Rattle.std.specs.Prelude.{ℕ, ◌+◌, ◌/◌, ◌%◌, pos, List, [], ◌∷◌, codes}
use Rattle.pt_calls.specs.declared.calls.PtCall.{PtCall}
use Rattle.pt_calls.specs.declared.calls.PtCall.TheVariants as call
use Rattle.server_bench.specs.declared.turns.Asked.{Asked}
use Rattle.server_bench.specs.declared.turns.Asked.TheVariants as asked

abbrev pub letter : ℕ → ℕ
letter n = 97 + n % 26

-- the name of the user of a turn: a `b` and three letters
abbrev pub user_name : ℕ → List ℕ
user_name turn = 98 ∷ letter (turn / 676) ∷ letter (turn / 26) ∷ letter turn ∷ []

-- A user is made, or a name translated.
abbrev pub call_of_turn : Asked → ℕ → PtCall
call_of_turn asked.NewEntry turn = call.NewEntry (user_name turn) 0 (pos 0)
call_of_turn asked.NameToId turn = call.NameToId (codes "nobody" ∷ [])
