-- The durable state of a server, and the calls that change it: each leads from one durable state to one
-- other, whole (own).
use Rattle.std.specs.Prelude.{ℕ, ◌+◌, Bool, if◌then◌else◌, List, [], ◌∷◌, length}
use Rattle.ubik_types.specs.declared.images.Change.{Change}
use Rattle.ubik_types.specs.declared.versions.Version.{Version}
use Rattle.ubik_types.specs.Version.{zero_version}
pub use Rattle.db_image.specs.Meaning.{Transaction}

pub record Durable : Type 0 where
  pub version : Version
  pub image : List ℕ

abbrev pub durable : Version → List ℕ → Durable
durable version image = record { version = version; image = image }

-- of a database that nothing was written to
abbrev pub no_database : Durable
no_database = record { version = zero_version; image = [] }

pub data DurableCall : Type 0 where
  -- changes, one after the other, under another version; and the image that they lead to
  Commit : (version : Version) → (changes : List Change) → (image : List ℕ) → DurableCall
  -- the same image under another version
  Relabel : (version : Version) → DurableCall
  -- a whole image in place of the one before, under another version
  Install : (version : Version) → (image : List ℕ) → DurableCall

-- why a durable call was made
pub data Reason : Type 0 where
  -- the server relabelled its own database in recovery
  Own_relabelling : Reason
  -- the server committed this transaction as the sync site
  Committed : (transaction : Transaction) → Reason
  -- the server took over what another one has
  Received : Reason

pub record Made : Type 0 where
  pub call : DurableCall
  pub reason : Reason

abbrev pub durable_after : Durable → DurableCall → Durable
durable_after d (Commit version changes image) = durable version image
durable_after d (Relabel version) = record d { version = version }
durable_after d (Install version image) = durable version image

-- after these calls, one after the other
abbrev pub durable_after_all : Durable → List Made → Durable
durable_after_all d [] = d
durable_after_all d (made ∷ calls) = durable_after_all (durable_after d made.call) calls

abbrev pub version_after : DurableCall → Version
version_after (Commit version changes image) = version
version_after (Relabel version) = version
version_after (Install version image) = version

-- zero bytes take the place of a label that is not there yet, in one changing call
abbrev pub label_calls : (has_label : Bool) → ℕ
label_calls has_label = if has_label then 0 else 1

-- How many changing calls of the disk a durable call makes: 13 that keep a log and end it, one for each change, and one where the database
-- file has no label yet; 15 for an image that comes as a whole, by way of the incoming file.
abbrev pub disk_calls : (has_label : Bool) → DurableCall → ℕ
disk_calls has_label (Commit version changes image) = 13 + length changes + label_calls has_label
disk_calls has_label (Relabel version) = 13 + label_calls has_label
disk_calls has_label (Install version image) = 15
