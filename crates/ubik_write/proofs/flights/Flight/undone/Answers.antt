use Rattle.std.proofs.Common.{◌≤◌, ◌+◌, ◌∙◌, ap, length, get_or, List, sym, subst, arith}
use Rattle.ubik_write.specs.Flight.{FlightRecord}
use Rattle.ubik_write.specs.Undo.{IsUndone, byte_before}
use Rattle.ubik_write.specs.View.{flight_of}
use Rattle.ubik_write.specs.declared.undo.Patch.{Patch}
use Rattle.ubik_write.proofs.BytesBefore.{read-back}
use Rattle.ubik_write.proofs.flights.Flight.undone.Goals as goal
use Rattle.ubik_write.proofs.flights.Flight.undone.Goals.{then-self, else-self}

pub returns : goal.returns
returns c =
    let within = subst (λ (f : FlightRecord). c.args.at + length c.args.buf.now ≤ f.old_len) (sym c.self.view_is) c.requires in
    let undone : IsUndone (flight_of c.self.inside).undo c.args.at c.args.buf.now c.undone.new.buf = elim c.if-self.branch [
      | then-self w ↦
          let found : IsUndone w.between-undo.result.now c.args.at c.args.buf.now c.undone.new.buf = rw w.undo-is at c.undone.ensures in
          λ i inside. found i inside ∙ w.between-undo.ensures (c.args.at + i) (get_or c.args.buf.now i 0) (omega arith) (omega (arith, inside)) ∙ ap (λ (undo : List Patch). byte_before undo (c.args.at + i) (get_or c.args.buf.now i 0)) w.deref.ensures.value
      | else-self w ↦ subst (λ (undo : List Patch). IsUndone undo c.args.at c.args.buf.now c.undone.new.buf) w.as_slice-undo.ensures.value (rw w.undo-is at c.undone.ensures)
    ] in
    rw (← c.self.view_is)
    (record {
      bytes = undone;
      image = λ image changes undoes shows. read-back (flight_of c.self.inside) image changes c.args.at c.args.buf.now c.undone.new.buf undoes within c.undone.auto.buf undone shows;
    })
