-- What contracts see of a write in flight. Servers are their places in the cell.
use Rattle.std.specs.Prelude.{◌≡◌, ℕ, Bool, true, false, List, length, map, replicate, set}
use Rattle.ubik_types.specs.declared.limits.TheConstants.{MAXSERVERS}
use Rattle.ubik_types.specs.declared.images.Change.{Change}
use Rattle.ubik_types.specs.declared.versions.Version.{Version}
use Rattle.xdr_base.specs.ChangeText.{text_of}
use Rattle.ubik_write.specs.declared.undo.Patch.{Patch}
use Rattle.ubik_write.specs.Undo.{undo_of}

pub record FlightRecord : Type 0 where
  -- the call that made it, and when
  pub id : ℕ
  pub began : ℕ
  pub old_version : Version
  pub new_version : Version
  -- a mark for each server that has the new version
  pub holders : List Bool
  -- the length of the image before it, and what it overwrote of that
  pub old_len : ℕ
  pub undo : List Patch
  -- the text of its changes
  pub text : List ℕ

-- a flight of these changes that nobody has yet
pub record IsFlightOf (id : ℕ) (old new : Version) (now : ℕ) (changes : List Change) (f : FlightRecord) : Type 0 where
  pub call : f.id ≡ id
  pub began : f.began ≡ now
  pub old_version : f.old_version ≡ old
  pub new_version : f.new_version ≡ new
  pub holders : f.holders ≡ replicate MAXSERVERS false
  pub text : f.text ≡ text_of changes

-- the flight of changes that were made to this image
pub record Undoes (f : FlightRecord) (image : List ℕ) (changes : List Change) : Type 0 where
  pub len : f.old_len ≡ length image
  pub undo : f.undo ≡ map (undo_of image) changes

-- a server has the new version
abbrev pub kept_by : FlightRecord → ℕ → FlightRecord
kept_by f k = record f { holders = set f.holders k true }
