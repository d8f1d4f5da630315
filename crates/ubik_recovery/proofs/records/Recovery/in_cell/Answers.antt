use Rattle.std.proofs.Common.{◌≡◌, Option, None, false, take, replicate}
use Rattle.std.proofs.lemmas.List.{take-replicate}
use Rattle.ubik_types.specs.declared.limits.TheConstants.{MAXSERVERS}
use Rattle.ubik_types.specs.declared.versions.Version.{Version}
use Rattle.ubik_recovery.proofs.records.Recovery.in_cell.Goals as goal

pub returns : goal.returns
returns c =
    let none : Option Version = None in
    let answers : take c.args.servers (replicate MAXSERVERS none) ≡ replicate c.args.servers none = take-replicate c.args.servers MAXSERVERS none c.requires in
    let holders = take-replicate c.args.servers MAXSERVERS false c.requires in
    cc
