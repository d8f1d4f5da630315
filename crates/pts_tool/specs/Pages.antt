-- Pages of entries.
use Rattle.std.specs.Prelude.{ℤ, ◌&&◌, Bool, true, List, [], ◌∷◌}
use Rattle.std.specs.Prelude.{int_lt}
use Rattle.pt_calls.specs.declared.answers.PtEntry.{PtEntry}

-- the ids ascend, and each is above this one
abbrev pub is_page : ℤ → List PtEntry → Bool
is_page after [] = true
is_page after (entry ∷ entries) = int_lt after entry.id && is_page entry.id entries

-- the id of the last entry, or this one where there is none
abbrev pub last_id : ℤ → List PtEntry → ℤ
last_id after [] = after
last_id after (entry ∷ entries) = last_id entry.id entries
