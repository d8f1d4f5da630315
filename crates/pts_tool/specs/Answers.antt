-- What a command takes from an answer; other answers are none of the call's.
use Rattle.std.specs.Prelude.{ℕ, ℤ, ◌==◌, List, [], ◌∷◌, length, Option, Some, None, if◌then◌else◌}
use Rattle.pt_calls.specs.declared.answers.PtAnswer.{PtAnswer}
use Rattle.pt_calls.specs.declared.answers.PtAnswer.TheVariants as answer
use Rattle.pt_calls.specs.declared.answers.PtEntry.{PtEntry}
use Rattle.pt_calls.specs.declared.calls.PtCall.{PtCall}
use Rattle.pt_calls.specs.declared.calls.PtCall.TheVariants as call
use Rattle.pts_tool.specs.Pages.{is_page}
use Rattle.pts_tool.specs.declared.answers.Maxima.{Maxima}

-- how many names a call asks for, and the id above which it asks for entries
abbrev pub names_asked : PtCall → ℕ
names_asked (call.IdToName ids) = length ids
names_asked _ = 0

abbrev pub asked_after : PtCall → Option ℤ
asked_after (call.ListEntries which after) = Some after
asked_after _ = None

-- that the call took place
abbrev pub done_in : PtCall → PtAnswer → Option (Unit {0})
done_in c answer.Done = Some tt
done_in c _ = None

-- one id: that of a new entry, or the only one of a list
abbrev pub only_id : List ℤ → Option ℤ
only_id (id ∷ []) = Some id
only_id _ = None

abbrev pub id_in : PtCall → PtAnswer → Option ℤ
id_in c (answer.Id id) = Some id
id_in c (answer.Ids ids) = only_id ids
id_in c _ = None

abbrev pub ids_in : PtCall → PtAnswer → Option (List ℤ)
ids_in c (answer.Ids ids) = Some ids
ids_in c _ = None

abbrev pub maxima_in : PtCall → PtAnswer → Option Maxima
maxima_in c (answer.Maxima user group) = Some (record { user = user; group = group })
maxima_in c _ = None

abbrev pub entry_in : PtCall → PtAnswer → Option PtEntry
entry_in c (answer.Entry entry) = Some entry
entry_in c _ = None

-- a name for each id that was asked for
abbrev pub counted : ℕ → List (List ℕ) → Option (List (List ℕ))
counted count names = if length names == count then Some names else None

abbrev pub names_in : PtCall → PtAnswer → Option (List (List ℕ))
names_in c (answer.Names names) = counted (names_asked c) names
names_in c _ = None

-- a page of entries behind the id above which it was asked for
abbrev pub page_after : Option ℤ → List PtEntry → Option (List PtEntry)
page_after None entries = None
page_after (Some after) entries = if is_page after entries then Some entries else None

abbrev pub page_in : PtCall → PtAnswer → Option (List PtEntry)
page_in c (answer.Entries entries) = page_after (asked_after c) entries
page_in c _ = None
