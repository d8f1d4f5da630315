use Rattle.std.proofs.Common.{◌<◌, arith}
use Rattle.server_station.proofs.station.Station.tell.Goals as goal

pub encode-requires : goal.encode-requires
encode-requires g c = let few : c.args.number < 4294967296 = omega arith in c.debug-is.ensures.spelled c.args.number few
