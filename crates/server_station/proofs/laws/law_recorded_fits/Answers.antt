use Rattle.server_station.proofs.Numbering.{recorded_fits}
use Rattle.server_station.proofs.laws.law_recorded_fits.Goals as goal

pub returns : goal.returns
returns g c = recorded_fits g.D.Disk g.V.DraftService.standing
