use Rattle.std.proofs.Common.{◌≡◌, Some, option_copied, sym, ap, subst, ◌∙◌}
use Rattle.ubik_types.specs.Version.{IsVersion}
use Rattle.ubik_write.specs.Flight.{FlightRecord}
use Rattle.server_state.specs.Writing.{own_of}
use Rattle.server_state.proofs.state.State.spread_again.Goals as goal

pub spread_write-requires-clause-before : goal.spread_write-requires-clause-before
spread_write-requires-clause-before c =
    let st = c.args.self.now in
    let own : own_of st.writes ≡ Some c.in-Some.write.now = sym c.in_flight.ensures ∙ ap option_copied c.in-Some.is in
    subst (λ (f : FlightRecord). IsVersion f.old_version) (sym c.flight.ensures.flight) (st.written.plain c.in-Some.write.now own).before
