use Rattle.std.proofs.Common.{◌≡◌, ◌≤◌, ℕ, Option, Some, None, IfSome, length, refl, arith}
use Rattle.disk_base.specs.declared.disks.FileNo.TheVariants.{Log}
use Rattle.disk_base.specs.Files.{Files}
use Rattle.disk_base.proofs.Runs.{widened}
use Rattle.ubik_log.proofs.TornGates.{left_gate}
use Rattle.ubik_log.proofs.disk_logs.set_gate.Goals as goal

-- a file that is told has room, and of one that is not the caller knows it
has_room : (files : Option Files) (n room : ℕ) → (files ≡ None → n ≤ room) → IfSome files (λ fs. n ≤ length fs.log) → IfSome files (λ fs. length fs.log ≤ room) → n ≤ room
has_room None n room untold there has = untold refl
has_room (Some fs) n room untold there has = omega (arith, there, has)

pub put_synced-requires-clause-fits : goal.put_synced-requires-clause-fits
put_synced-requires-clause-fits g c =
    let disk = c.args.disk.now in
    let room : 4 ≤ g.D.Disk.room disk Log = has_room (g.D.Disk.files disk) 4 _ c.requires.fits c.requires.header (g.D.Disk.has_room disk Log) in
    omega arith

pub returns-in-Done-clause-moments : goal.returns-in-Done-clause-moments
returns-in-Done-clause-moments g c =
    widened g.D.Disk.steps g.D.Disk.left_since _ _ _ _ (left_gate (g.D.Disk.may_leave c.args.disk.now)) c.put_synced.ensures.moments

pub returns-in-Failed-clause-moments : goal.returns-in-Failed-clause-moments
returns-in-Failed-clause-moments g c =
    widened g.D.Disk.steps g.D.Disk.left_since _ _ _ _ (left_gate (g.D.Disk.may_leave c.args.disk.now)) c.put_synced.ensures.moments
