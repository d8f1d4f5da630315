-- `addentry` (own).
use Rattle.std.specs.Prelude.{ℕ, ◌+◌, List, [], ◌∷◌, codes, Option, Some, None}
use Rattle.std.specs.Fmt.{decimal}
use Rattle.vl_calls.specs.declared.calls.GivenEntry.{GivenEntry}
use Rattle.vl_calls.specs.declared.calls.VlCall.TheVariants as call
use Rattle.tool_base.specs.Course.{◌>>=◌, Course, gives}
use Rattle.tool_base.specs.Texts.{joined}
use Rattle.vos_tool.specs.Asking.{asks_done, asks_id}
use Rattle.vos_tool.specs.Texts.{line_end}
use Rattle.vos_tool.specs.Volumes.{if_callable}
use Rattle.afs_commands.specs.declared.places.Place.{Place}
use Rattle.vos_tool.specs.declared.adding.TheConstants.{HAS_READ_WRITE, NEW_IDS}
use Rattle.vos_tool.specs.declared.places.TheConstants.{READ_WRITE}

-- an entry with three ids from this one on, and one read-write site
abbrev pub new_entry : List ℕ → Place → ℕ → GivenEntry
new_entry name place id = record {
  name = name;
  flags = HAS_READ_WRITE;
  rw = id;
  ro = id + 1;
  backup = id + 2;
  clone_id = 0;
  sites = record { host = place.host; partition = place.partition; flags = READ_WRITE } ∷ [];
}

abbrev pub added_text : List ℕ → ℕ → List ℕ
added_text name id = joined (joined (codes "Added entry " ∷ name ∷ []) ∷ codes " with id " ∷ decimal id ∷ line_end ∷ [])

unfoldable pub makes : List ℕ → Place → ℕ → Course (List ℕ)
makes name place id = do
  done ← asks_done (call.CreateEntry (new_entry name place id))
  gives (added_text name id)

abbrev pub makes_of : List ℕ → Place → Option ℕ → Course (List ℕ)
makes_of name place (Some id) = makes name place id
makes_of name place None = asks_id (call.GetNewVolumeId NEW_IDS) >>= λ id. makes name place id

-- the id is given, or else taken from the database
unfoldable pub addentry_text : List ℕ → Place → Option ℕ → Course (List ℕ)
addentry_text name place id = if_callable name (makes_of name place id)
