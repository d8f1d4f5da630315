-- What is fit is built: a version that the server may come to have is one.
use Rattle.std.specs.List.{AllByRecursion}
use Rattle.ubik_calls.specs.declared.packets.Body.{Body}
use Rattle.ubik_calls.specs.declared.packets.Body.TheVariants as body
use Rattle.ubik_calls.specs.Fields.{IsBounded}
use Rattle.ubik_calls.specs.WireGrammar.{body_fields}
use Rattle.cell_model.specs.declared.events.NodeEvent.{NodeEvent}
use Rattle.cell_model.specs.declared.events.NodeEvent.TheVariants as event
use Rattle.ubik_node.specs.Built.{IsBuilt, IsBuiltBody}
use Rattle.server_station.specs.Fit.{IsFit}

bounded_built : (b : Body) → AllByRecursion IsBounded (body_fields b) → IsBuiltBody b
bounded_built (body.Beacon start claim ready version) bounded = tt
bounded_built (body.Vote start granted) bounded = tt
bounded_built (body.GetVersion poll) bounded = tt
bounded_built (body.VersionIs poll version) bounded = bounded.1.0
bounded_built (body.GetPiece poll version offset) bounded = tt
bounded_built (body.Piece poll version total offset bytes) bounded = tt
bounded_built (body.SendPiece poll version total offset bytes) bounded = bounded.1.0
bounded_built (body.PieceKept poll version next) bounded = tt
bounded_built (body.SetVersion poll old new) bounded = bounded.1.1.0
bounded_built (body.Begin old new pieces len) bounded = bounded.1.0
bounded_built (body.PutPiece new number bytes) bounded = tt
bounded_built (body.Commit old new) bounded = tt
bounded_built (body.Abort new) bounded = tt
bounded_built (body.VersionKept version) bounded = tt

pub fit_built : (e : NodeEvent) → IsFit e → IsBuilt e
fit_built (event.Packet p) fit = bounded_built p.body fit.bounded.1.1.1.1
fit_built event.BeaconTurn fit = tt
fit_built event.RecoverTurn fit = tt
fit_built (event.Ask id call) fit = tt
