use Rattle.std.proofs.Common.{◌≡◌, Some, option_copied, sym, ap, subst, ◌∙◌}
use Rattle.ubik_types.specs.Version.{IsVersion}
use Rattle.server_state.specs.Writing.{own_of}
use Rattle.server_state.proofs.state.State.announced.Goals as goal

pub returns-in-Some-clause-version : goal.returns-in-Some-clause-version
returns-in-Some-clause-version c =
    let st = c.args.self.now in
    let own : own_of st.writes ≡ Some c.in-Some.write.now = sym c.in_flight.ensures ∙ ap option_copied c.in-Some.is in
    subst IsVersion (sym c.versions.ensures.before) (st.written.plain c.in-Some.write.now own).before
