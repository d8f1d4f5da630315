-- A cell as the model of leases sees it: of each server its clock, its last yes and the starts that it counted (own).
use Rattle.lease_model.specs.Leases as leases
use Rattle.cell_model.specs.Node.{Node, Down, Halted, Up, Server}
use Rattle.cell_model.specs.World.{Site}

abbrev pub voter_of : Server → leases.Voter
voter_of s = record { yes_to = s.votes.yes_to; yes_at = s.votes.yes_at; starts = s.starts }

abbrev pub standing_of : Node → leases.Standing
standing_of Down = leases.Down
standing_of (Halted h) = leases.Halted h.starts
standing_of (Up s) = leases.Up (voter_of s)

abbrev pub view : Site → leases.Server
view site = record { clock = site.clock; standing = standing_of site.node }
