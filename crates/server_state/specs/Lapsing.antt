-- What a lapse drops, and how it comes back.
use Rattle.std.specs.Prelude.{ℕ, Option, Some, None, List}
use Rattle.cell_model.specs.Node.{Server}
use Rattle.ubik_recovery.specs.Record.{restored}
use Rattle.ubik_recovery.specs.Rules.{recovering}
use Rattle.server_state.specs.declared.lapse.Dropped.{Dropped}
use Rattle.server_state.specs.declared.state.State.{State}
use Rattle.server_state.specs.Recovering.{IsOfCell}
use Rattle.server_state.specs.State.{server_of}
use Rattle.server_state.specs.Writing.{AreOfCell, announced_of, flight_of, own_of, waiting_of}

-- what was dropped of a server in a cell of so many, with this image
pub record IsDroppedOf (n : ℕ) (image : List ℕ) (d : Dropped) : Type 0 where
  pub recovery : IsOfCell n d.recovery
  pub writes : AreOfCell n image d.writes

-- the server to which comes back what was dropped, if anything was
abbrev pub returned : Option Dropped → State → Server
returned None s = server_of s
returned (Some d) s =
    record (recovering (announced_of s.version (own_of d.writes)) (restored d.recovery s.recovery) (server_of s)) {
      flight = flight_of d.writes;
      waiting = waiting_of d.writes;
    }
