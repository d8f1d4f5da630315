-- What counts as an answer to a call. The limits are those of the location database (own).
use Rattle.std.specs.Prelude.{◌≡◌, ℕ, ◌+◌, ◌&&◌, nat_le, nat_lt, Bool, true, if◌then◌else◌, List, [], ◌∷◌, length, Option, Some, None, option_and_then}
use Rattle.std.specs.List.{list_all}
use Rattle.vldb_entries.specs.declared.entries.VlEntry.{VlEntry}
use Rattle.vldb_entries.specs.declared.entries.VlSite.{VlSite}
use Rattle.vl_calls.specs.declared.answers.AnswerKind.TheVariants as tells
use Rattle.vl_calls.specs.declared.answers.VlAnswer.{VlAnswer}
use Rattle.vl_calls.specs.declared.answers.VlAnswer.TheVariants as answer
use Rattle.vl_calls.specs.Answers.{answer_of}
use Rattle.vos_tool.specs.declared.answers.TheConstants.{MAX_ID, MAX_NAME, MAX_PARTITION, MAX_STORED_SITES}

abbrev pub is_site : VlSite → Bool
is_site s = nat_le s.partition MAX_PARTITION

-- an entry that the database may have
abbrev pub is_entry : VlEntry → Bool
is_entry e = nat_le (length e.name) MAX_NAME && (nat_le (length e.sites) MAX_STORED_SITES && list_all is_site e.sites)

-- entries of ascending ids, each above this one
abbrev pub ascend : ℕ → List VlEntry → Bool
ascend after [] = true
ascend after (e ∷ es) = nat_lt after e.rw && ascend e.rw es

-- a page of entries behind an id
abbrev pub is_page : ℕ → List VlEntry → Bool
is_page after es = list_all is_entry es && ascend after es

abbrev pub if_good : {A : Type 0} → (A → Bool) → A → Option A
if_good good x = if good x then Some x else None

abbrev pub as_done : VlAnswer → Option (Unit {0})
as_done answer.Done = Some tt
as_done (answer.Id id) = None
as_done (answer.Entry e) = None
as_done (answer.Entries es) = None
as_done (answer.Hosts hosts) = None

abbrev pub as_id : VlAnswer → Option ℕ
as_id answer.Done = None
as_id (answer.Id id) = if_good (λ n. nat_le n MAX_ID) id
as_id (answer.Entry e) = None
as_id (answer.Entries es) = None
as_id (answer.Hosts hosts) = None

abbrev pub as_entry : VlAnswer → Option VlEntry
as_entry answer.Done = None
as_entry (answer.Id id) = None
as_entry (answer.Entry e) = if_good is_entry e
as_entry (answer.Entries es) = None
as_entry (answer.Hosts hosts) = None

abbrev pub as_page : ℕ → VlAnswer → Option (List VlEntry)
as_page after answer.Done = None
as_page after (answer.Id id) = None
as_page after (answer.Entry e) = None
as_page after (answer.Entries es) = if_good (is_page after) es
as_page after (answer.Hosts hosts) = None

abbrev pub as_hosts : VlAnswer → Option (List ℕ)
as_hosts answer.Done = None
as_hosts (answer.Id id) = None
as_hosts (answer.Entry e) = None
as_hosts (answer.Entries es) = None
as_hosts (answer.Hosts hosts) = Some hosts

-- the answers that bytes spell: that the call took place, a new id, an entry, a page of entries, addresses
abbrev pub done_in : List ℕ → Option (Unit {0})
done_in bytes = option_and_then as_done (answer_of tells.Done bytes)

abbrev pub id_in : List ℕ → Option ℕ
id_in bytes = option_and_then as_id (answer_of tells.Id bytes)

abbrev pub entry_in : List ℕ → Option VlEntry
entry_in bytes = option_and_then as_entry (answer_of tells.Entry bytes)

abbrev pub page_in : ℕ → List ℕ → Option (List VlEntry)
page_in after bytes = option_and_then (as_page after) (answer_of tells.Entries bytes)

abbrev pub hosts_in : List ℕ → Option (List ℕ)
hosts_in bytes = option_and_then as_hosts (answer_of tells.Hosts bytes)

-- an answer that is one has its limits
abbrev pub IsAnyDone : Unit {0} → Type 0
IsAnyDone u = Unit {0}

abbrev pub IsId : ℕ → Type 0
IsId id = nat_le id MAX_ID ≡ true

abbrev pub IsEntry : VlEntry → Type 0
IsEntry e = is_entry e ≡ true

abbrev pub IsPage : ℕ → List VlEntry → Type 0
IsPage after es = is_page after es ≡ true
