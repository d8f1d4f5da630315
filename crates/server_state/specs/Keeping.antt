-- The write that another server began.
use Rattle.std.specs.Prelude.{◌≡◌, true}
use Rattle.ubik_types.specs.declared.versions.Version.{Version}
use Rattle.ubik_types.specs.Version.{IsVersion, version_lt}
use Rattle.cell_model.specs.Node.{KeptWrite}

-- it leads from a version to a newer one
pub record IsKeptOver (own : Version) (w : KeptWrite) : Type 0 where
  pub version : IsVersion w.new
  pub newer : version_lt own w.new ≡ true
