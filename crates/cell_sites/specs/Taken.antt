-- What a server of a running cell needs of the changes that it takes.
use Rattle.std.specs.Prelude.{◌≡◌, ℕ, Bool, List}
use Rattle.db_image.specs.Database.{Database}
use Rattle.cell_model.specs.declared.events.NodeEvent.{NodeEvent}
use Rattle.cell_model.specs.Node as model
use Rattle.cell_model.specs.NodeRule.{step_of}
use Rattle.cell_model.specs.Step.{Member}
use Rattle.ubik_node.specs.Disk.{TakenCutNoPut}

-- changes that a server takes from another one in such a step cut no put
abbrev pub CutsNone : Database → Member → NodeEvent → (now : ℕ) → model.Node → Type 0
CutsNone db m e now x = (s : model.Server) → x ≡ model.Up s → (short : List Bool) → TakenCutNoPut (step_of db m s now e short).calls
