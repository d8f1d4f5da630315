-- `addsite`, `remsite`, `changeloc`: an entry is locked, read, and replaced with other sites.
use Rattle.std.specs.Prelude.{ℕ, List, [], ◌∷◌, codes, Option, Some, None, Result, Ok, Err}
use Rattle.vl_calls.specs.declared.calls.GivenEntry.{GivenEntry}
use Rattle.vl_calls.specs.declared.calls.VlCall.TheVariants as call
use Rattle.vldb_entries.specs.declared.entries.VlEntry.{VlEntry}
use Rattle.vldb_entries.specs.declared.entries.VlSite.{VlSite}
use Rattle.tool_base.specs.Course.{◌>>=◌, Course, gives, stops}
use Rattle.tool_base.specs.Texts.{joined}
use Rattle.tool_base.specs.declared.stops.Refusal.{Refusal}
use Rattle.tool_base.specs.declared.stops.Refusal.TheVariants.{Rule}
use Rattle.tool_base.specs.declared.stops.Stop.{Stop}
use Rattle.tool_base.specs.declared.stops.Stop.TheVariants.{Refused, NoServer, OutcomeUnknown, WriteFault, NoMemory}
use Rattle.vos_tool.specs.Asking.{asks_done, asks_entry}
use Rattle.vos_tool.specs.Locking.{releases_lock, sets_lock}
use Rattle.vos_tool.specs.Sites.{changed_sites}
use Rattle.vos_tool.specs.Texts.{place_text, volume_line}
use Rattle.vos_tool.specs.Volumes.{any_type, volume_id}
use Rattle.vos_tool.specs.declared.locks.TheConstants.{WHOLE_LOCK}
use Rattle.afs_commands.specs.declared.places.Place.{Place}
use Rattle.vos_tool.specs.declared.sites.SiteChange.{SiteChange}
use Rattle.vos_tool.specs.declared.sites.SiteChange.TheVariants.{Add, Remove, Move}
use Rattle.vos_tool.specs.declared.sites.TheConstants.{NO_SUCH_SITE}

-- however a course ends, what follows goes on; but not where memory or a sink failed
abbrev pub attempted : {A : Type 0} → Result A Stop → Result (Result A Stop) Stop
attempted (Ok x) = Ok (Ok x)
attempted (Err (Refused why)) = Ok (Err (Refused why))
attempted (Err NoServer) = Ok (Err NoServer)
attempted (Err OutcomeUnknown) = Ok (Err OutcomeUnknown)
attempted (Err WriteFault) = Err WriteFault
attempted (Err NoMemory) = Err NoMemory

unfoldable pub attempts : {A : Type 0} → Course A → Course (Result A Stop)
attempts course asker exchanges = let walk = course asker exchanges in record {
  asks = walk.asks;
  text = walk.text;
  result = attempted walk.result;
  asker = walk.asker;
  rest = walk.rest;
}

-- the lock is released, whatever is answered, and the command ends as refused
unfoldable pub gives_up : ℕ → Refusal → Course (Unit {0})
gives_up id why = attempts (releases_lock id) >>= λ any. stops (Refused why)

abbrev pub after_replace : ℕ → Result (Unit {0}) Stop → Course (Unit {0})
after_replace id (Ok done) = gives done
after_replace id (Err (Refused why)) = gives_up id why
after_replace id (Err NoServer) = stops NoServer
after_replace id (Err OutcomeUnknown) = stops OutcomeUnknown
after_replace id (Err WriteFault) = stops WriteFault
after_replace id (Err NoMemory) = stops NoMemory

-- an entry as it was told, with these sites
abbrev pub entry_with : VlEntry → List VlSite → GivenEntry
entry_with e sites = record {
  name = e.name;
  flags = e.flags;
  rw = e.rw;
  ro = e.ro;
  backup = e.backup;
  clone_id = e.clone_id;
  sites = sites;
}

unfoldable pub replaces : ℕ → GivenEntry → Course (Unit {0})
replaces id given = attempts (asks_done (call.ReplaceEntry id any_type given WHOLE_LOCK)) >>= λ end. after_replace id end

abbrev pub replaces_if : ℕ → VlEntry → Option (List VlSite) → Course (Unit {0})
replaces_if id e (Some sites) = replaces id (entry_with e sites)
replaces_if id e None = gives_up id (Rule NO_SUCH_SITE)

unfoldable pub changes_sites : SiteChange → Place → ℕ → Course (Unit {0})
changes_sites change place id = do
  done ← sets_lock id
  e ← asks_entry (call.GetEntryById id any_type)
  replaces_if id e (changed_sites change place e.sites)

abbrev pub change_label : SiteChange → List ℕ
change_label Add = codes "Added replication site "
change_label Remove = codes "Removed replication site "
change_label Move = codes "Changed location to "

abbrev pub changed_text : SiteChange → Place → List ℕ → List ℕ
changed_text change place word = volume_line (joined (change_label change ∷ place_text place ∷ codes " for volume " ∷ [])) word

unfoldable pub change_text : SiteChange → Place → List ℕ → Course (List ℕ)
change_text change place word = do
  id ← volume_id word
  done ← changes_sites change place id
  gives (changed_text change place word)
