use Rattle.std.proofs.Common.{refl, subst}
use Rattle.cell_script.specs.Meaning.{HasBounds}
use Rattle.cell_runs.specs.ScriptDatabase.{script_database}
use Rattle.ubik_cell.proofs.CellLines.{done_of, kept_of, kept_same, kept_still, nothing_told, refused_of, told_of}
use Rattle.cell_sites.proofs.Settling.{sound_settled}
use Rattle.ubik_cell.proofs.Settling.{stays_settled}
use Rattle.ubik_cell.proofs.scripts.run_in_cell.Goals as goal

pub returns-in-Nothing-clause-done : goal.returns-in-Nothing-clause-done
returns-in-Nothing-clause-done g c =
    told_of g.D.Disk c.args.cell.now c.args.cell.now
    (script_database g.V.DraftService.standing.database g.V.DraftWords.words) _ _ c.in-Nothing.is _ _
    (nothing_told g.D.Disk (script_database g.V.DraftService.standing.database g.V.DraftWords.words) c.args.cell.now _)

pub returns-in-Nothing-clause-kept : goal.returns-in-Nothing-clause-kept
returns-in-Nothing-clause-kept g c =
    kept_same g.D.Disk _ c.args.cell.now

pub returns-in-Cell-clause-kept : goal.returns-in-Cell-clause-kept
returns-in-Cell-clause-kept g c =
    kept_same g.D.Disk _ c.args.cell.now

pub returns-in-Ask-clause-kept : goal.returns-in-Ask-clause-kept
returns-in-Ask-clause-kept g c =
    kept_same g.D.Disk _ c.args.cell.now

pub returns-in_ok-tick-in-Tick-clause-done : goal.returns-in_ok-tick-in-Tick-clause-done
returns-in_ok-tick-in-Tick-clause-done g c =
    told_of g.D.Disk c.args.cell.now c.tick.new.self
    (script_database g.V.DraftService.standing.database g.V.DraftWords.words) _ _ c.in-Tick.is _ _
    (λ given cell stands. c.in_ok-tick-in-Tick.ensures.told refl given cell _ stands)

pub returns-in_ok-tick-in-Tick-clause-kept : goal.returns-in_ok-tick-in-Tick-clause-kept
returns-in_ok-tick-in-Tick-clause-kept g c =
    kept_of g.D.Disk c.args.cell.now c.tick.new.self _ c.in-Tick.seconds (subst HasBounds c.in-Tick.is c.requires.bounds).1
    (λ done. c.in_ok-tick-in-Tick.ensures.sound refl) c.tick.ensures.never_falls c.tick.ensures.same

pub returns-in_err-tick-in-Tick-clause-done : goal.returns-in_err-tick-in-Tick-clause-done
returns-in_err-tick-in-Tick-clause-done g c =
    refused_of g.D.Disk c.args.cell.now c.tick.new.self
    (script_database g.V.DraftService.standing.database g.V.DraftWords.words) _ _ c.in-Tick.is _ c.in_err-tick-in-Tick.field-0.0 _
    c.from_residual.ensures.1 (c.tick.ensures.refused _ c.in_err-tick-in-Tick.was)

pub returns-in-TickAll-clause-done : goal.returns-in-TickAll-clause-done
returns-in-TickAll-clause-done g c =
    told_of g.D.Disk c.args.cell.now c.tick_all.new.self
    (script_database g.V.DraftService.standing.database g.V.DraftWords.words) _ _ c.in-TickAll.is _ _
    (λ given cell stands. c.tick_all.ensures.told given cell _ stands)

pub returns-in-TickAll-clause-kept : goal.returns-in-TickAll-clause-kept
returns-in-TickAll-clause-kept g c =
    kept_of g.D.Disk c.args.cell.now c.tick_all.new.self _ c.in-TickAll.seconds (subst HasBounds c.in-TickAll.is c.requires.bounds).1
    (λ done. c.tick_all.ensures.sound) c.tick_all.ensures.never_falls c.tick_all.ensures.same

pub returns-in_ok-drop_packet-in-Drop-clause-done : goal.returns-in_ok-drop_packet-in-Drop-clause-done
returns-in_ok-drop_packet-in-Drop-clause-done g c =
    told_of g.D.Disk c.args.cell.now c.drop_packet.new.self
    (script_database g.V.DraftService.standing.database g.V.DraftWords.words) _ _ c.in-Drop.is _ _
    (λ given cell stands. c.in_ok-drop_packet-in-Drop.ensures.told refl given cell _ stands)

pub returns-in_ok-drop_packet-in-Drop-clause-kept : goal.returns-in_ok-drop_packet-in-Drop-clause-kept
returns-in_ok-drop_packet-in-Drop-clause-kept g c =
    kept_still g.D.Disk c.args.cell.now c.drop_packet.new.self _ (λ done. c.drop_packet.ensures.sound)
    c.drop_packet.ensures.never_falls c.drop_packet.ensures.same

pub returns-in_err-drop_packet-in-Drop-clause-done : goal.returns-in_err-drop_packet-in-Drop-clause-done
returns-in_err-drop_packet-in-Drop-clause-done g c =
    refused_of g.D.Disk c.args.cell.now c.drop_packet.new.self
    (script_database g.V.DraftService.standing.database g.V.DraftWords.words) _ _ c.in-Drop.is _ c.in_err-drop_packet-in-Drop.field-0.0 _
    c.from_residual-in_err-drop_packet-in-Drop.ensures.1 (c.drop_packet.ensures.refused _ c.in_err-drop_packet-in-Drop.was)

pub returns-in_ok-drop_all-in-DropAll-clause-done : goal.returns-in_ok-drop_all-in-DropAll-clause-done
returns-in_ok-drop_all-in-DropAll-clause-done g c =
    told_of g.D.Disk c.args.cell.now c.drop_all.new.self
    (script_database g.V.DraftService.standing.database g.V.DraftWords.words) _ _ c.in-DropAll.is _ _
    (λ given cell stands. c.in_ok-drop_all-in-DropAll.ensures.told refl given cell _ stands)

pub returns-in_ok-drop_all-in-DropAll-clause-kept : goal.returns-in_ok-drop_all-in-DropAll-clause-kept
returns-in_ok-drop_all-in-DropAll-clause-kept g c =
    kept_still g.D.Disk c.args.cell.now c.drop_all.new.self _ (λ done. c.drop_all.ensures.sound)
    c.drop_all.ensures.never_falls c.drop_all.ensures.same

pub returns-in_err-drop_all-in-DropAll-clause-done : goal.returns-in_err-drop_all-in-DropAll-clause-done
returns-in_err-drop_all-in-DropAll-clause-done g c =
    refused_of g.D.Disk c.args.cell.now c.drop_all.new.self
    (script_database g.V.DraftService.standing.database g.V.DraftWords.words) _ _ c.in-DropAll.is _ c.in_err-drop_all-in-DropAll.field-0.0 _
    c.from_residual-in_err-drop_all-in-DropAll.ensures.1 (c.drop_all.ensures.refused _ c.in_err-drop_all-in-DropAll.was)

pub returns-in-Beacon-clause-done : goal.returns-in-Beacon-clause-done
returns-in-Beacon-clause-done g c =
    done_of g.D.Disk c.args.cell.now c.beacon.new.self
    (script_database g.V.DraftService.standing.database g.V.DraftWords.words) _ _ c.in-Beacon.is c.beacon.result _ _
    c.beacon.ensures.told c.beacon.ensures.limit c.beacon.ensures.refused c.beacon.ensures.quiet c.beacon.ensures.short

pub returns-in-Beacon-clause-kept : goal.returns-in-Beacon-clause-kept
returns-in-Beacon-clause-kept g c =
    kept_still g.D.Disk c.args.cell.now c.beacon.new.self c.beacon.result c.beacon.ensures.sound
    c.beacon.ensures.never_falls c.beacon.ensures.same

pub returns-in-Recover-clause-done : goal.returns-in-Recover-clause-done
returns-in-Recover-clause-done g c =
    done_of g.D.Disk c.args.cell.now c.recover.new.self
    (script_database g.V.DraftService.standing.database g.V.DraftWords.words) _ _ c.in-Recover.is c.recover.result _ _
    c.recover.ensures.told c.recover.ensures.limit c.recover.ensures.refused c.recover.ensures.quiet c.recover.ensures.short

pub returns-in-Recover-clause-kept : goal.returns-in-Recover-clause-kept
returns-in-Recover-clause-kept g c =
    kept_still g.D.Disk c.args.cell.now c.recover.new.self c.recover.result c.recover.ensures.sound
    c.recover.ensures.never_falls c.recover.ensures.same

pub returns-in-Deliver-clause-done : goal.returns-in-Deliver-clause-done
returns-in-Deliver-clause-done g c =
    done_of g.D.Disk c.args.cell.now c.deliver.new.self
    (script_database g.V.DraftService.standing.database g.V.DraftWords.words) _ _ c.in-Deliver.is c.deliver.result _ _
    c.deliver.ensures.told c.deliver.ensures.limit c.deliver.ensures.refused c.deliver.ensures.quiet c.deliver.ensures.short

pub returns-in-Deliver-clause-kept : goal.returns-in-Deliver-clause-kept
returns-in-Deliver-clause-kept g c =
    kept_still g.D.Disk c.args.cell.now c.deliver.new.self c.deliver.result c.deliver.ensures.sound
    c.deliver.ensures.never_falls c.deliver.ensures.same

pub returns-in-DeliverAll-clause-done : goal.returns-in-DeliverAll-clause-done
returns-in-DeliverAll-clause-done g c =
    done_of g.D.Disk c.args.cell.now c.deliver_all.new.self
    (script_database g.V.DraftService.standing.database g.V.DraftWords.words) _ _ c.in-DeliverAll.is c.deliver_all.result _ _
    c.deliver_all.ensures.told c.deliver_all.ensures.limit
    (λ reason is. absurd (c.deliver_all.ensures.refused reason is))
    (λ reason is. absurd (c.deliver_all.ensures.refused reason is)) c.deliver_all.ensures.short

pub returns-in-DeliverAll-clause-kept : goal.returns-in-DeliverAll-clause-kept
returns-in-DeliverAll-clause-kept g c =
    kept_still g.D.Disk c.args.cell.now c.deliver_all.new.self c.deliver_all.result c.deliver_all.ensures.sound
    c.deliver_all.ensures.never_falls c.deliver_all.ensures.same

pub returns-in-Show-clause-done : goal.returns-in-Show-clause-done
returns-in-Show-clause-done g c =
    done_of g.D.Disk c.args.cell.now c.args.cell.now
    (script_database g.V.DraftService.standing.database g.V.DraftWords.words) _ _ c.in-Show.is c.show.result _ _ c.show.ensures.told
    (λ which is. absurd (c.show.ensures.limit which is))
    (λ why is. (refl, c.show.ensures.refused why is)) c.show.ensures.quiet c.show.ensures.short

pub returns-in-Show-clause-kept : goal.returns-in-Show-clause-kept
returns-in-Show-clause-kept g c =
    kept_same g.D.Disk _ c.args.cell.now

pub returns-in_ok-stop-in-Stop-clause-done : goal.returns-in_ok-stop-in-Stop-clause-done
returns-in_ok-stop-in-Stop-clause-done g c =
    told_of g.D.Disk c.args.cell.now c.stop.new.self
    (script_database g.V.DraftService.standing.database g.V.DraftWords.words) _ _ c.in-Stop.is _ _
    (λ given cell stands. c.in_ok-stop-in-Stop.ensures.told refl given cell _ stands)

pub returns-in_ok-stop-in-Stop-clause-kept : goal.returns-in_ok-stop-in-Stop-clause-kept
returns-in_ok-stop-in-Stop-clause-kept g c =
    kept_still g.D.Disk c.args.cell.now c.stop.new.self _ (λ done. c.stop.ensures.sound)
    c.stop.ensures.never_falls c.stop.ensures.same

pub returns-in_err-stop-in-Stop-clause-done : goal.returns-in_err-stop-in-Stop-clause-done
returns-in_err-stop-in-Stop-clause-done g c =
    refused_of g.D.Disk c.args.cell.now c.stop.new.self
    (script_database g.V.DraftService.standing.database g.V.DraftWords.words) _ _ c.in-Stop.is _ c.in_err-stop-in-Stop.field-0.0 _
    c.from_residual-in_err-stop-in-Stop.ensures.1 (c.stop.ensures.refused _ c.in_err-stop-in-Stop.was)

pub returns-in_ok-crash-in-Crash-clause-done : goal.returns-in_ok-crash-in-Crash-clause-done
returns-in_ok-crash-in-Crash-clause-done g c =
    told_of g.D.Disk c.args.cell.now c.crash.new.self
    (script_database g.V.DraftService.standing.database g.V.DraftWords.words) _ _ c.in-Crash.is _ _
    (λ given cell stands. c.in_ok-crash-in-Crash.ensures.told refl given cell _ stands)

pub returns-in_ok-crash-in-Crash-clause-kept : goal.returns-in_ok-crash-in-Crash-clause-kept
returns-in_ok-crash-in-Crash-clause-kept g c =
    kept_still g.D.Disk c.args.cell.now c.crash.new.self _ (λ done. c.crash.ensures.sound)
    c.crash.ensures.never_falls c.crash.ensures.same

pub returns-in_err-crash-in-Crash-clause-done : goal.returns-in_err-crash-in-Crash-clause-done
returns-in_err-crash-in-Crash-clause-done g c =
    refused_of g.D.Disk c.args.cell.now c.crash.new.self
    (script_database g.V.DraftService.standing.database g.V.DraftWords.words) _ _ c.in-Crash.is _ c.in_err-crash-in-Crash.field-0.0 _
    c.from_residual-in_err-crash-in-Crash.ensures.1 (c.crash.ensures.refused _ c.in_err-crash-in-Crash.was)

pub returns-in-Restart-clause-done : goal.returns-in-Restart-clause-done
returns-in-Restart-clause-done g c =
    done_of g.D.Disk c.args.cell.now c.restart.new.self
    (script_database g.V.DraftService.standing.database g.V.DraftWords.words) _ _ c.in-Restart.is c.restart.result _ _
    c.restart.ensures.told (λ which is. absurd (c.restart.ensures.limit which is)) c.restart.ensures.refused c.restart.ensures.quiet
    c.restart.ensures.short

pub returns-in-Restart-clause-kept : goal.returns-in-Restart-clause-kept
returns-in-Restart-clause-kept g c =
    kept_still g.D.Disk c.args.cell.now c.restart.new.self c.restart.result c.restart.ensures.sound
    c.restart.ensures.never_falls c.restart.ensures.same

-- ---- nothing stays pending

pub returns-in-Nothing-clause-settled : goal.returns-in-Nothing-clause-settled
returns-in-Nothing-clause-settled g c = sound_settled g.D.Disk _ c.args.cell.now c.requires.sound.1.steady

pub returns-in-Cell-clause-settled : goal.returns-in-Cell-clause-settled
returns-in-Cell-clause-settled g c = sound_settled g.D.Disk _ c.args.cell.now c.requires.sound.1.steady

pub returns-in-Ask-clause-settled : goal.returns-in-Ask-clause-settled
returns-in-Ask-clause-settled g c = sound_settled g.D.Disk _ c.args.cell.now c.requires.sound.1.steady

pub returns-in-Show-clause-settled : goal.returns-in-Show-clause-settled
returns-in-Show-clause-settled g c = sound_settled g.D.Disk _ c.args.cell.now c.requires.sound.1.steady

pub returns-in_ok-tick-in-Tick-clause-settled : goal.returns-in_ok-tick-in-Tick-clause-settled
returns-in_ok-tick-in-Tick-clause-settled g c =
    sound_settled g.D.Disk _ c.tick.new.self (c.in_ok-tick-in-Tick.ensures.sound refl c.requires.sound.0 c.requires.sound.1).steady

pub returns-in_err-tick-in-Tick-clause-settled : goal.returns-in_err-tick-in-Tick-clause-settled
returns-in_err-tick-in-Tick-clause-settled g c =
    stays_settled g.D.Disk c.requires.sound.0 c.args.cell.now c.tick.new.self
    (c.tick.ensures.refused _ c.in_err-tick-in-Tick.was).0 c.requires.sound.1

pub returns-in_ok-drop_packet-in-Drop-clause-settled : goal.returns-in_ok-drop_packet-in-Drop-clause-settled
returns-in_ok-drop_packet-in-Drop-clause-settled g c =
    sound_settled g.D.Disk _ c.drop_packet.new.self (c.drop_packet.ensures.sound c.requires.sound.0 c.requires.sound.1).steady

pub returns-in_err-drop_packet-in-Drop-clause-settled : goal.returns-in_err-drop_packet-in-Drop-clause-settled
returns-in_err-drop_packet-in-Drop-clause-settled g c =
    stays_settled g.D.Disk c.requires.sound.0 c.args.cell.now c.drop_packet.new.self
    (c.drop_packet.ensures.refused _ c.in_err-drop_packet-in-Drop.was).0 c.requires.sound.1

pub returns-in_ok-drop_all-in-DropAll-clause-settled : goal.returns-in_ok-drop_all-in-DropAll-clause-settled
returns-in_ok-drop_all-in-DropAll-clause-settled g c =
    sound_settled g.D.Disk _ c.drop_all.new.self (c.drop_all.ensures.sound c.requires.sound.0 c.requires.sound.1).steady

pub returns-in_err-drop_all-in-DropAll-clause-settled : goal.returns-in_err-drop_all-in-DropAll-clause-settled
returns-in_err-drop_all-in-DropAll-clause-settled g c =
    stays_settled g.D.Disk c.requires.sound.0 c.args.cell.now c.drop_all.new.self
    (c.drop_all.ensures.refused _ c.in_err-drop_all-in-DropAll.was).0 c.requires.sound.1

pub returns-in_ok-stop-in-Stop-clause-settled : goal.returns-in_ok-stop-in-Stop-clause-settled
returns-in_ok-stop-in-Stop-clause-settled g c =
    sound_settled g.D.Disk _ c.stop.new.self (c.stop.ensures.sound c.requires.sound.0 c.requires.sound.1).steady

pub returns-in_err-stop-in-Stop-clause-settled : goal.returns-in_err-stop-in-Stop-clause-settled
returns-in_err-stop-in-Stop-clause-settled g c =
    stays_settled g.D.Disk c.requires.sound.0 c.args.cell.now c.stop.new.self
    (c.stop.ensures.refused _ c.in_err-stop-in-Stop.was).0 c.requires.sound.1

pub returns-in_ok-crash-in-Crash-clause-settled : goal.returns-in_ok-crash-in-Crash-clause-settled
returns-in_ok-crash-in-Crash-clause-settled g c =
    sound_settled g.D.Disk _ c.crash.new.self (c.crash.ensures.sound c.requires.sound.0 c.requires.sound.1).steady

pub returns-in_err-crash-in-Crash-clause-settled : goal.returns-in_err-crash-in-Crash-clause-settled
returns-in_err-crash-in-Crash-clause-settled g c =
    stays_settled g.D.Disk c.requires.sound.0 c.args.cell.now c.crash.new.self
    (c.crash.ensures.refused _ c.in_err-crash-in-Crash.was).0 c.requires.sound.1

pub returns-in-TickAll-clause-settled : goal.returns-in-TickAll-clause-settled
returns-in-TickAll-clause-settled g c =
    sound_settled g.D.Disk _ c.tick_all.new.self (c.tick_all.ensures.sound c.requires.sound.0 c.requires.sound.1).steady
