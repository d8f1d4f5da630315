use Rattle.std.proofs.Common.{List, ◌∷◌, sym, ap}
use Rattle.std.proofs.lemmas.List.{append-nil}
use Rattle.ubik_calls.specs.Fields.{Field, Number}
use Rattle.ubik_calls.specs.WireGrammar.{packet_kind, body_fields}
use Rattle.ubik_calls.proofs.Taken.{behind_all}
use Rattle.ubik_calls.proofs.reading.packet_frame.Goals as goal

pub returns-clause-found : goal.returns-clause-found
returns-clause-found c =
    let p = c.in_ok-packet.packet in
    let fields : List Field = Number (packet_kind p.body) ∷ Number p.from.0 ∷ Number p.to.0 ∷ body_fields p.body in
    behind_all _ _ _ _ _ c.in_ok-packet.ensures.found c.in_ok-end.ensures.done (sym (ap (λ (t : List Field). Number 0 ∷ t) (append-nil fields)))
