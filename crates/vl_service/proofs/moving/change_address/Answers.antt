use Rattle.std.proofs.Common.{refl}
use Rattle.vl_service.proofs.Moved.{move_done, move_refused}
use Rattle.vl_service.proofs.moving.change_address.Goals as goal

pub returns-in-Refused-clause-meant : goal.returns-in-Refused-clause-meant
returns-in-Refused-clause-meant g c =
    let found = c.in_ok-fault.ensures.decided in
    move_refused c.args.d.now.bytes c.decide.new.d.bytes c.args.old c.args.new c.in-Refused.fault _ (rw c.in-Refused.is at found) refl
    c.decide.ensures.frame.same.bytes

pub returns-in_ok-set_addresses-in-Moves-clause-meant : goal.returns-in_ok-set_addresses-in-Moves-clause-meant
returns-in_ok-set_addresses-in-Moves-clause-meant g c =
    let found = c.in_ok-fault.ensures.decided in
    move_done c.args.d.now.bytes c.decide.new.d.bytes c.set_addresses.new.d.bytes c.args.old c.args.new c.in-Moves.places
    c.in_ok-end-in-Moves.end
    c.decide.ensures.frame.same.bytes
    (rw c.in-Moves.is at found) c.in_ok-end-in-Moves.ensures.told c.in_ok-set_addresses-in-Moves.ensures.bytes
