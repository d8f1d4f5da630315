-- Volumes as words name them: by an id, or by the name of an entry.
use Rattle.std.specs.Prelude.{ℕ, ℤ, neg_ℤ, pos, nat_le, if◌then◌else◌, List, length, Option, Some, None}
use Rattle.script_words.specs.Numbers.{number_within}
use Rattle.vl_calls.specs.declared.calls.VlCall.TheVariants as call
use Rattle.vldb_entries.specs.declared.entries.VlEntry.{VlEntry}
use Rattle.tool_base.specs.Course.{◌>>=◌, Course, gives, stops}
use Rattle.tool_base.specs.declared.stops.Refusal.TheVariants.{Malformed}
use Rattle.tool_base.specs.declared.stops.Stop.TheVariants.{Refused}
use Rattle.call_grammar.specs.declared.limits.TheConstants.{MAX_TEXT}
use Rattle.vos_tool.specs.Asking.{asks_entry}

-- the type of a volume that any of an entry's three ids fits
abbrev pub any_type : ℤ
any_type = neg_ℤ (pos 1)

-- the id that a word is
abbrev pub id_of : List ℕ → Option ℕ
id_of word = number_within 0 4294967295 word

-- a name that is too long for a call is refused as its bytes would be
abbrev pub if_callable : {A : Type 0} → List ℕ → Course A → Course A
if_callable name course = if nat_le (length name) MAX_TEXT then course else stops (Refused Malformed)

unfoldable pub entry_named : List ℕ → Course VlEntry
entry_named name = if_callable name (asks_entry (call.GetEntryByName name))

abbrev pub id_or_named : Option ℕ → List ℕ → Course ℕ
id_or_named (Some id) name = gives id
id_or_named None name = entry_named name >>= λ e. gives e.rw

-- the id of the volume that a word names
unfoldable pub volume_id : List ℕ → Course ℕ
volume_id word = id_or_named (id_of word) word

abbrev pub entry_by : Option ℕ → List ℕ → Course VlEntry
entry_by (Some id) name = asks_entry (call.GetEntryById id any_type)
entry_by None name = entry_named name

-- the entry of the volume that a word names
unfoldable pub volume_entry : List ℕ → Course VlEntry
volume_entry word = entry_by (id_of word) word
