use Rattle.ubik_node.specs.Alike.{Frees, free_dbs}
use Rattle.ubik_node.proofs.Alike.{alike_same, alike_shows, none_free, on_made}
use Rattle.state_laws.proofs.Waiting.{turn_asked}
use Rattle.ubik_node.proofs.TurnsAlike.{turn_alike}
use Rattle.std.proofs.Common.{None, [], ◌∷◌, false, refl}
use Rattle.cell_model.specs.Asks.{put_into_line}
use Rattle.cell_model.specs.Node.{Flight}
use Rattle.cell_model.specs.Step.{is_short}
use Rattle.ubik_node.specs.Choices.{dbs_of, none_chosen}
use Rattle.ubik_node.specs.Node.{held}
use Rattle.server_state.specs.State.{member_of, server_of}
use Rattle.server_state.specs.Writing.{own_of}
use Rattle.ubik_node.proofs.Evaluated.{one_chosen}
use Rattle.ubik_node.proofs.Endings.{known_ends, rests_ends, same_ends, shown_ends}
use Rattle.ubik_node.proofs.Reading.{in_flight_so, line_shows}
use Rattle.ubik_node.proofs.nodes.Node.ask.Goals as goal

pub returns-in_default-clause-ends : goal.returns-in_default-clause-ends
returns-in_default-clause-ends g c =
    let n = c.args.self.now in
    rw (← c.in_default.ensures) (
      none_chosen g.V.DraftService.standing,
      rests_ends g.D.Disk (held n) n.stored c.requires.not_halted (record { server = refl; calls = refl; outputs = c.put_reply.ensures }),
    )

pub returns-in-Refuse-clause-ends : goal.returns-in-Refuse-clause-ends
returns-in-Refuse-clause-ends g c =
    let n = c.args.self.now in
    let o = none_chosen g.V.DraftService.standing in
    rw (← c.in-Some.ensures) (
      o,
      same_ends g.D.Disk (c.in-Refuse.ensures.turn (dbs_of o 0) c.args.id c.args.call.now false)
          (rests_ends g.D.Disk (held n) n.stored c.requires.not_halted
          (record { server = refl; calls = refl; outputs = c.put_reply-in-Refuse.ensures })),
    )

pub returns-in-Read-clause-ends : goal.returns-in-Read-clause-ends
returns-in-Read-clause-ends g c =
    let made = c.read.ensures.ends in
    let turn = c.in-Read.ensures.turn (dbs_of made.0 0) c.args.id c.args.call.now (is_short made.0.short) in
    rw (← c.in-Some.ensures)
    (made.0, same_ends g.D.Disk turn.1 (known_ends g.D.Disk (λ needs. needs (c.in-Read.ensures.evaluates tt)) (made.1 turn.0)))

pub returns-in-ReadOwn-clause-ends : goal.returns-in-ReadOwn-clause-ends
returns-in-ReadOwn-clause-ends g c =
    let made = c.read_own.ensures.ends in
    let turn = c.in-ReadOwn.ensures.turn (dbs_of made.0 0) c.args.id c.args.call.now (is_short made.0.short) in
    rw (← c.in-Some.ensures)
    (made.0, same_ends g.D.Disk turn.1 (known_ends g.D.Disk (λ needs. needs (c.in-ReadOwn.ensures.evaluates tt)) (made.1 turn.0)))

pub returns-in-Wait-clause-ends : goal.returns-in-Wait-clause-ends
returns-in-Wait-clause-ends g c =
    let n = c.args.self.now in
    let st = n.state in
    let s = server_of st in
    let line = c.put_in_line.ensures.shows in
    let o = one_chosen g.V.DraftService.standing None tt (line.0 ∷ []) in
    let now = c.put_in_line.new.self in
    rw (← c.in-Some.ensures) (
      o,
      shown_ends g.D.Disk (held n) st now n.stored c.requires.not_halted refl c.put_in_line.ensures.kept
          (line_shows s.flight (λ (f : Flight). put_into_line s c.args.id c.args.call.now line.0 f) _ (server_of now) c.args.out.now
          c.put_in_line.new.out (in_flight_so (own_of st.writes) (c.in-Wait.ensures.writing tt))
          (c.in-Wait.ensures.turn (dbs_of o 0) c.args.id c.args.call.now line.0) line.1),
    )

pub returns-in-Write-clause-ends : goal.returns-in-Write-clause-ends
returns-in-Write-clause-ends g c =
    let made = c.write_turn.ensures.ends in
    let turn = c.in-Write.ensures.turn (dbs_of made.0 0) c.args.id c.args.call.now (is_short made.0.short) in
    rw (← c.in-Some.ensures)
    (made.0, same_ends g.D.Disk turn (known_ends g.D.Disk (λ needs. needs (c.in-Write.ensures.evaluates tt)) made.1))

pub returns-in_default-clause-alike : goal.returns-in_default-clause-alike
returns-in_default-clause-alike g c =
    rw (← c.in_default.ensures)
    (c.args.self.now.state.image, refl, none_free g.V.DraftService.standing.database, alike_shows (record { server = refl; calls = refl; outputs = c.put_reply.ensures }))

pub returns-in-Refuse-clause-alike : goal.returns-in-Refuse-clause-alike
returns-in-Refuse-clause-alike g c =
    let db = g.V.DraftService.standing.database in
    rw (← c.in-Some.ensures) (
      c.args.self.now.state.image,
      refl,
      none_free db,
      alike_same (c.in-Refuse.ensures.turn (free_dbs db (none_free db) 0) c.args.id c.args.call.now false)
          (alike_shows (record { server = refl; calls = refl; outputs = c.put_reply-in-Refuse.ensures })),
    )

pub returns-in-Read-clause-alike : goal.returns-in-Read-clause-alike
returns-in-Read-clause-alike g c =
    rw (← c.in-Some.ensures) (on_made c.read.result c.read.ensures.alike (λ so.
    let turn = c.in-Read.ensures.turn (free_dbs g.V.DraftService.standing.database so.0 0) c.args.id c.args.call.now (is_short so.0.short) in
    (c.args.self.now.state.image, refl, so.0, alike_same turn.1 (so.1 turn.0))))

pub returns-in-ReadOwn-clause-alike : goal.returns-in-ReadOwn-clause-alike
returns-in-ReadOwn-clause-alike g c =
    rw (← c.in-Some.ensures) (on_made c.read_own.result c.read_own.ensures.alike (λ so.
    let turn = c.in-ReadOwn.ensures.turn (free_dbs g.V.DraftService.standing.database so.0 0) c.args.id c.args.call.now (is_short so.0.short) in
    (c.args.self.now.state.image, refl, so.0, alike_same turn.1 (so.1 turn.0))))

pub returns-in-Wait-clause-alike : goal.returns-in-Wait-clause-alike
returns-in-Wait-clause-alike g c =
    let st = c.args.self.now.state in
    let s = server_of st in
    let db = g.V.DraftService.standing.database in
    let line = c.put_in_line.ensures.shows in
    let free : Frees db = record (none_free db) { short = line.0 ∷ [] } in
    rw (← c.in-Some.ensures) (
      st.image,
      refl,
      free,
      alike_shows (line_shows s.flight (λ (f : Flight). put_into_line s c.args.id c.args.call.now line.0 f) _
          (server_of c.put_in_line.new.self) c.args.out.now c.put_in_line.new.out (in_flight_so (own_of st.writes) (c.in-Wait.ensures.writing tt))
          (c.in-Wait.ensures.turn (free_dbs db free 0) c.args.id c.args.call.now line.0) line.1),
    )

pub returns-in-Write-clause-alike : goal.returns-in-Write-clause-alike
returns-in-Write-clause-alike g c =
    let st = c.args.self.now.state in
    let db = g.V.DraftService.standing.database in
    rw (← c.in-Some.ensures) (on_made c.write_turn.result c.write_turn.ensures.alike (λ so.
    let turn = turn_alike db (member_of st) (server_of st) c.args.now c.args.id c.args.call.now so in
    let asks = turn_asked (free_dbs db turn.2 0) (member_of st) (server_of st) c.args.now c.args.id c.args.call.now (is_short turn.2.short) turn.0 c.in-Some.writes (c.in-Write.ensures.writing_call tt) (c.in-Write.ensures.evaluates tt) in
    (turn.0, turn.1, turn.2, alike_same asks turn.3)))
