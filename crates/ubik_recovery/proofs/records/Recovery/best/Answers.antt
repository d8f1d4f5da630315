use Rattle.std.proofs.Common.{◌≡◌, ℕ, rules, take, arith}
use Rattle.std.proofs.lemmas.List.{length-take-le}
use Rattle.ubik_types.specs.Version.{zero_version}
use Rattle.cell_model.specs.Polls.{best_version, first_with}
use Rattle.ubik_recovery.proofs.Best.{best-is_answered}
use Rattle.ubik_recovery.proofs.records.Recovery.best.Goals as goal

pub returns-clause-server : goal.returns-clause-server
returns-clause-server c =
    rw (← c.self.view_is)
    (λ has.
    (let servers : ℕ = c.self.inside.servers in
    let answers = take servers c.self.inside.answers in
    let len = length-take-le servers c.self.inside.answers (omega (arith, c.self.invariant.few, c.self.invariant.answers)) in
    let host : c.first_with.result ≡ first_with (best_version zero_version answers) answers = search rules in
    omega (arith, host, len, best-is_answered answers has)))
