-- One record as its writer spells it, and its reader looks for it. The log grammar does not rest on this.
use Rattle.std.specs.Prelude.{ℕ, List, ◌++◌, length}
use Rattle.ubik_types.specs.declared.images.Change.{Change}
use Rattle.ubik_types.specs.declared.images.Change.TheVariants.{Put, Cut}
use Rattle.ubik_types.specs.declared.versions.Version.{Version}
use Rattle.ubik_log.specs.LogGrammar.{field}

-- LOGDATA for a put, LOGTRUNCATE for a cut
abbrev pub change_record : Change → List ℕ
change_record (Put at bytes) = field 103 ++ field 0 ++ field at ++ field (length bytes) ++ bytes
change_record (Cut len) = field 104 ++ field 0 ++ field len

-- LOGEND
abbrev pub end_record : Version → List ℕ
end_record version = field 101 ++ field version.epoch ++ field version.counter
