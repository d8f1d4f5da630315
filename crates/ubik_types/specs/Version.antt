-- Versions of a database, ordered by epoch, then by counter (Kazar, "Ubik").
use Rattle.std.specs.Prelude.{◌<◌, ◌^◌, Bool, ◌==◌, ◌&&◌, ◌||◌, nat_lt}
use Rattle.ubik_types.specs.declared.versions.Version.{Version}

-- both numbers are below 2^31
pub record IsVersion (v : Version) : Type 0 where
  pub epoch : v.epoch < 2 ^ 31
  pub counter : v.counter < 2 ^ 31

-- the version of a database that nothing was written to
abbrev pub zero_version : Version
zero_version = record { epoch = 0; counter = 0 }

-- a comes before b
abbrev pub version_lt : Version → Version → Bool
version_lt a b = nat_lt a.epoch b.epoch || (a.epoch == b.epoch && nat_lt a.counter b.counter)

abbrev pub version_eq : Version → Version → Bool
version_eq a b = a.epoch == b.epoch && a.counter == b.counter
