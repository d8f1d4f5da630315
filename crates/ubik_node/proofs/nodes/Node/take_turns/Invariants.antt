use Rattle.std.proofs.Common.{◌≡◌, ◌⊎◌, ◌+◌, ◌≤◌, true, false, List, [], length, IsErrOf, IsOk, IsSome, Result, Ok}
use Rattle.ubik_store.specs.declared.faults.StoreFault.{StoreFault}
use Rattle.ubik_store.specs.declared.faults.StoreFault.TheVariants.{DiskFault}
use Rattle.cell_model.specs.declared.events.Output.{Output}
use Rattle.cell_model.specs.Node.{Server}
use Rattle.cell_model.specs.Writes.{is_free, next_turns}
use Rattle.ubik_node.specs.Choices.{Choices, dbs_of}
use Rattle.ubik_node.specs.Node.{EndsSo, Held, held, own_member, up_server}
use Rattle.server_state.specs.Writing.{waiting_of}
use Rattle.ubik_node.proofs.TurnsAlike.{WaitAlike}
use Rattle.ubik_node.proofs.nodes.Node.take_turns.Given as goal

abbrev pub invariant-loop-self : goal.invariant-loop-self
invariant-loop-self g l =
    let d = g.V.DraftService.standing in
    let last = λ (after : List Output) (new : Held g.row.D.Denot) (r : Result (Unit {0}) StoreFault).
    EndsSo g.D.Disk d (IsSome (g.D.Disk.files l.fn.self.store.disk)) (λ (o : Choices d). next_turns (dbs_of o) (own_member l.fn.self) l.now (up_server l.fn.self).waiting (up_server l.fn.self) o.short) l.fn.out after (held l.fn.self) new r in
    let alike = λ (after : Server) (out : List Output). WaitAlike d.database (own_member l.fn.self) l.now (up_server l.fn.self) after l.fn.out out in
    record {
      not_halted : l.self.store.failed ≡ false;
      few : is_free (up_server l.self) ≡ true → length l.out + length (waiting_of l.self.state.writes) ≤ 166;
      nobody : waiting_of l.fn.self.state.writes ≡ [] → waiting_of l.self.state.writes ≡ [];
      goes : is_free (up_server l.self) ≡ true → (after : List Output) (new : Held g.row.D.Denot) (r : Result (Unit {0}) StoreFault) → IsErrOf r DiskFault ⊎ IsOk r
          → EndsSo g.D.Disk d (IsSome (g.D.Disk.files l.self.store.disk)) (λ (o : Choices d). next_turns (dbs_of o) (own_member l.self) l.now (up_server l.self).waiting (up_server l.self) o.short) l.out after (held l.self) new r
          → last after new r;
      goes_alike : is_free (up_server l.self) ≡ true → (after : Server) (out : List Output) → WaitAlike d.database (own_member l.self) l.now (up_server l.self) after l.out out → alike after out;
      over : is_free (up_server l.self) ≡ false → last l.out (held l.self) (Ok tt);
      over_alike : is_free (up_server l.self) ≡ false → alike (up_server l.self) l.out;
    }

abbrev pub decreases-loop-self : goal.decreases-loop-self
decreases-loop-self g l = length (waiting_of l.self.state.writes)
