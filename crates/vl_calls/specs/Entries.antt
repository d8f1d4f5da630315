-- Entries of volumes (vlserver) in calls and answers: their parts, how these are read and written. The layout is own.
use Rattle.std.specs.Prelude.{ℕ, ◌<◌, ◌≤◌, ◌^◌, List, [], ◌∷◌, ◌++◌, length, Option, Some}
use Rattle.std.specs.List.{AllByRecursion}
use Rattle.call_grammar.specs.Items as item
use Rattle.call_grammar.specs.Items.{IsText}
use Rattle.call_grammar.specs.Lists.{TextsOf, listed, spelled}
use Rattle.call_grammar.specs.Reading.{◌>>=◌, ItemsOf, list_at, values, values_at, AllValues}
use Rattle.vl_calls.specs.declared.calls.GivenEntry.{GivenEntry}
use Rattle.vl_calls.specs.declared.limits.TheConstants.{MAX_SITES}
use Rattle.vldb_entries.specs.declared.entries.VlEntry.{VlEntry}
use Rattle.vldb_entries.specs.declared.entries.VlSite.{VlSite}

-- a site: host, partition and flags
unfoldable pub site_at : {S : Type 0} → ItemsOf S → S → Option (VlSite × S)
site_at item_at s = do
  host ← item_at item.Number s
  partition ← item_at item.Number host.1
  flags ← item_at item.Number partition.1
  Some (record { host = host.0; partition = partition.0; flags = flags.0 }, flags.1)

unfoldable pub site_text : TextsOf → VlSite → List ℕ
site_text text s = text item.Number s.host ++ text item.Number s.partition ++ text item.Number s.flags

abbrev pub SiteHasItsBits : VlSite → Type 0
SiteHasItsBits s = (s.host < 2 ^ 32) × (s.partition < 2 ^ 32) × (s.flags < 2 ^ 32)

-- what an entry is made of
pub data Part : Type 0 where
  Name : Part
  Number : Part
  Sites : Part

abbrev pub part_value : Part → Type 0
part_value Name = List ℕ
part_value Number = ℕ
part_value Sites = List VlSite

abbrev pub part_at : {S : Type 0} → ItemsOf S → (part : Part) → S → Option (part_value part × S)
part_at item_at Name s = item_at item.Text s
part_at item_at Number s = item_at item.Number s
part_at item_at Sites s = list_at item_at MAX_SITES (site_at item_at) s

abbrev pub part_text : TextsOf → (part : Part) → part_value part → List ℕ
part_text text Name name = text item.Text name
part_text text Number n = text item.Number n
part_text text Sites sites = listed text (site_text text) sites

abbrev pub IsPart : (part : Part) → part_value part → Type 0
IsPart Name name = IsText name
IsPart Number n = Unit {0}
IsPart Sites sites = length sites ≤ MAX_SITES

abbrev pub PartHasItsBits : (part : Part) → part_value part → Type 0
PartHasItsBits Name name = Unit {0}
PartHasItsBits Number n = n < 2 ^ 32
PartHasItsBits Sites sites = AllByRecursion SiteHasItsBits sites

-- an entry as a call gives it: name, flags, read-write, read-only, backup and clone id, sites
abbrev pub given_parts : List Part
given_parts = Name ∷ Number ∷ Number ∷ Number ∷ Number ∷ Number ∷ Sites ∷ []

abbrev pub given_values : GivenEntry → values part_value given_parts
given_values e = (e.name, (e.flags, (e.rw, (e.ro, (e.backup, (e.clone_id, (e.sites, tt)))))))

abbrev pub given_from : values part_value given_parts → GivenEntry
given_from v = record {
  name = v.0;
  flags = v.1.0;
  rw = v.1.1.0;
  ro = v.1.1.1.0;
  backup = v.1.1.1.1.0;
  clone_id = v.1.1.1.1.1.0;
  sites = v.1.1.1.1.1.1.0;
}

unfoldable pub given_at : {S : Type 0} → ItemsOf S → S → Option (GivenEntry × S)
given_at item_at s = do
  v ← values_at part_value (part_at item_at) given_parts s
  Some (given_from v.0, v.1)

unfoldable pub given_text : TextsOf → GivenEntry → List ℕ
given_text text e = spelled part_value (part_text text) given_parts (given_values e)

unfoldable pub IsGiven : GivenEntry → Type 0
IsGiven e = AllValues part_value IsPart given_parts (given_values e)

unfoldable pub GivenHasItsBits : GivenEntry → Type 0
GivenHasItsBits e = AllValues part_value PartHasItsBits given_parts (given_values e)

-- an entry as an answer tells it: the same, and the operation and the moment of its lock
abbrev pub entry_parts : List Part
entry_parts = Name ∷ Number ∷ Number ∷ Number ∷ Number ∷ Number ∷ Sites ∷ Number ∷ Number ∷ []

abbrev pub entry_values : VlEntry → values part_value entry_parts
entry_values e = (e.name, (e.flags, (e.rw, (e.ro, (e.backup, (e.clone_id, (e.sites, (e.lock_op, (e.lock_moment, tt)))))))))

abbrev pub entry_from : values part_value entry_parts → VlEntry
entry_from v = record {
  name = v.0;
  flags = v.1.0;
  rw = v.1.1.0;
  ro = v.1.1.1.0;
  backup = v.1.1.1.1.0;
  clone_id = v.1.1.1.1.1.0;
  sites = v.1.1.1.1.1.1.0;
  lock_op = v.1.1.1.1.1.1.1.0;
  lock_moment = v.1.1.1.1.1.1.1.1.0;
}

unfoldable pub entry_at : {S : Type 0} → ItemsOf S → S → Option (VlEntry × S)
entry_at item_at s = do
  v ← values_at part_value (part_at item_at) entry_parts s
  Some (entry_from v.0, v.1)

unfoldable pub entry_text : TextsOf → VlEntry → List ℕ
entry_text text e = spelled part_value (part_text text) entry_parts (entry_values e)

unfoldable pub IsEntryText : VlEntry → Type 0
IsEntryText e = AllValues part_value IsPart entry_parts (entry_values e)

unfoldable pub EntryHasItsBits : VlEntry → Type 0
EntryHasItsBits e = AllValues part_value PartHasItsBits entry_parts (entry_values e)
