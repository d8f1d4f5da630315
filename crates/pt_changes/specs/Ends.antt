-- A change of a state's registry.
use Rattle.prdb_layout.specs.Registry.{Registry}
use Rattle.pt_service.specs.State.{State}

-- a change of the registry alone
abbrev pub over_registry : (Registry → Registry) → State → State
over_registry change s = record s { registry = change s.registry }
