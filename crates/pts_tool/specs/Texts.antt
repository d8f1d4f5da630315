-- What `pts` writes (the manual pages of pts, as far as it is built here).
use Rattle.std.specs.Prelude.{ℕ, ℤ, pos, Bool, List, [], ◌∷◌, ◌++◌, codes, if◌then◌else◌, slice_get, unwrap_or}
use Rattle.std.specs.Fmt.{decimal, signed_decimal}
use Rattle.std.specs.List.{flat_map}
use Rattle.std.specs.Prelude.{int_lt}
use Rattle.pt_calls.specs.declared.answers.PtEntry.{PtEntry}
use Rattle.tool_base.specs.Texts.{at_left, at_right, joined}
use Rattle.pts_tool.specs.Flags.{flags_text}
use Rattle.pts_tool.specs.declared.answers.Maxima.{Maxima}

-- the end of a line
abbrev pub end : List ℕ
end = 10 ∷ []

-- an entry that was made
abbrev pub made_text : Bool → List ℕ → ℤ → List ℕ
made_text is_group name id =
    joined ((if is_group then codes "group " else codes "User ") ∷ name ∷ codes " has id " ∷ signed_decimal id ∷ end ∷ [])

-- a line that names an entry, and names behind it, each in a line of its own
abbrev pub named_line : (before name : List ℕ) → ℤ → (behind : List ℕ) → List ℕ
named_line before name id behind = joined (before ∷ name ∷ codes " (id: " ∷ signed_decimal id ∷ behind ∷ end ∷ [])

abbrev pub name_line : List ℕ → List ℕ
name_line name = joined (codes "  " ∷ name ∷ end ∷ [])

abbrev pub names_text : List (List ℕ) → List ℕ
names_text names = flat_map name_line names

-- the line before the members of a group, or before the groups of a user
abbrev pub members_line : List ℕ → ℤ → List ℕ
members_line name id =
    if int_lt id (pos 0) then named_line (codes "Members of ") name id (codes ") are:")
    else named_line (codes "Groups ") name id (codes ") is a member of:")

-- the line before the groups that an entry owns
abbrev pub owned_line : List ℕ → ℤ → List ℕ
owned_line name id = named_line (codes "Groups owned by ") name id (codes ") are:")

-- an entry with the names of its owner and of who made it
abbrev pub name_at : List (List ℕ) → ℕ → List ℕ
name_at names place = unwrap_or (slice_get names place) []

abbrev pub title_line : PtEntry → (owner creator : List ℕ) → List ℕ
title_line entry owner creator =
    joined (codes "Name: " ∷ entry.name ∷ codes ", id: " ∷ signed_decimal entry.id ∷ codes ", owner: " ∷ owner
    ∷ codes ", creator: " ∷ creator ∷ codes "," ∷ end ∷ [])

abbrev pub fields_of : (count flags quota : List ℕ) → List ℕ
fields_of count flags quota =
    joined (codes "  membership: " ∷ count ∷ codes ", flags: " ∷ flags ∷ codes ", group quota: " ∷ quota ∷ codes "." ∷ end ∷ [])

abbrev pub fields_line : PtEntry → List ℕ
fields_line entry = fields_of (decimal entry.count) (flags_text entry.flags) (signed_decimal entry.quota)

abbrev pub entry_text : PtEntry → List (List ℕ) → List ℕ
entry_text entry names = title_line entry (name_at names 0) (name_at names 1) ++ fields_line entry

-- a row of the table of entries, and its head
abbrev pub row : (name id owner creator : List ℕ) → List ℕ
row name id owner creator =
    joined (at_left 25 name ∷ codes " " ∷ at_right 6 id ∷ codes " " ∷ at_right 6 owner ∷ codes " " ∷ at_right 7 creator ∷ end ∷ [])

abbrev pub head_row : List ℕ
head_row = row (codes "Name") (codes "ID") (codes "Owner") (codes "Creator")

abbrev pub entry_row : PtEntry → List ℕ
entry_row entry = row entry.name (signed_decimal entry.id) (signed_decimal entry.owner) (signed_decimal entry.creator)

abbrev pub rows : List PtEntry → List ℕ
rows entries = flat_map entry_row entries

-- the greatest ids that were given
abbrev pub maxima_text : Maxima → List ℕ
maxima_text maxima =
    joined (codes "Max user id is " ∷ signed_decimal maxima.user ∷ codes " and max group id is " ∷ signed_decimal maxima.group ∷ codes
    "." ∷ end ∷ [])
