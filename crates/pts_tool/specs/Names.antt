-- Names and ids of entries: each by the other.
use Rattle.std.specs.Prelude.{ℕ, ℤ, pos, ◌+◌, ◌/◌, ◌&&◌, not, if◌then◌else◌, List, [], ◌∷◌, ◌++◌, length, take, drop, zero, suc, codes, Option, Some, None, Result, Ok, Err}
use Rattle.std.specs.Ordering.{int_eq}
use Rattle.std.specs.Str.{bytes_eq}
use Rattle.pt_calls.specs.declared.calls.PtCall.TheVariants as call
use Rattle.pt_calls.specs.declared.limits.TheConstants.{MAX_LIST}
use Rattle.script_words.specs.Numbers.{signed_of}
use Rattle.tool_base.specs.Course.{◌>>=◌, Course, gives, still}
use Rattle.tool_base.specs.declared.stops.Refusal.TheVariants.{Rule}
use Rattle.tool_base.specs.declared.stops.Stop.{Stop}
use Rattle.tool_base.specs.declared.stops.Stop.TheVariants.{Refused}
use Rattle.pts_tool.specs.Answers.{id_in, names_in}
use Rattle.pts_tool.specs.Asking.{asks}

-- the database translates a name that no entry has to the id of `anonymous`
abbrev pub known_id : List ℕ → ℤ → Result ℤ Stop
known_id name id = if int_eq id (pos 32766) && not (bytes_eq name (codes "anonymous")) then Err (Refused (Rule 267268)) else Ok id

unfoldable pub name_id : List ℕ → Course ℤ
name_id name = asks id_in (call.NameToId (name ∷ [])) >>= λ id. still (known_id name id)

-- the id of an entry that there is: a decimal number is an id, and a name is translated
abbrev pub id_or : Option ℤ → List ℕ → Course ℤ
id_or (Some id) word = gives id
id_or None word = name_id word

unfoldable pub the_id : List ℕ → Course ℤ
the_id word = id_or (signed_of word) word

-- the id of an owner; 0 where none was given
abbrev pub owner_id : Option (List ℕ) → Course ℤ
owner_id None = gives (pos 0)
owner_id (Some word) = the_id word

-- how many calls translate so many ids
abbrev pub calls_for : ℕ → ℕ
calls_for count = (count + 4999) / MAX_LIST

-- the names of ids behind these, in so many calls; no call has more ids than a list may have
abbrev pub names_by : ℕ → List (List ℕ) → List ℤ → Course (List (List ℕ))
names_by zero names ids = gives names
names_by (suc count) names ids =
    asks names_in (call.IdToName (take MAX_LIST ids)) >>= λ found. names_by count (names ++ found) (drop MAX_LIST ids)

unfoldable pub the_names : List ℤ → Course (List (List ℕ))
the_names ids = names_by (calls_for (length ids)) [] ids
