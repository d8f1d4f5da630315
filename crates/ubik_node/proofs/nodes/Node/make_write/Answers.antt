use Rattle.std.proofs.Common.{◌≡◌, ◌++◌, ◌∙◌, List, [], ◌∷◌, true, false, length, IsSome, refl, sym, ap, length-append, arith}
use Rattle.std.specs.Result.{is_err}
use Rattle.std.proofs.lemmas.Bool.{false≢true}
use Rattle.cell_model.specs.declared.events.Output.{Output}
use Rattle.cell_model.specs.declared.events.Output.TheVariants as output
use Rattle.cell_model.specs.Node.{Server}
use Rattle.cell_model.specs.Writes.{is_free}
use Rattle.ubik_node.proofs.Alike.{short_end}
use Rattle.ubik_node.proofs.TurnsAlike.{commit_turn, poll_turn, replied_turn}
use Rattle.ubik_store.proofs.Telling.{ok_map}
use Rattle.ubik_node.specs.declared.verdicts.Verdict.TheVariants as verdict
use Rattle.ubik_node.specs.Choices.{none_chosen}
use Rattle.ubik_node.specs.Node.{held, up_server}
use Rattle.ubik_node.specs.Serving.{IsRepliedTo}
use Rattle.server_state.specs.State.{member_of, server_of}
use Rattle.server_state.specs.Writing.{own_of}
use Rattle.ubik_node.proofs.Calling.{after_reads, known_so, unread_ends}
use Rattle.ubik_node.proofs.Endings.{handed_ends, known_read_ends, reads_as, told_still}
use Rattle.ubik_node.proofs.Made.{turned_so}
use Rattle.ubik_node.proofs.Turns.{front_whole, writes_busy}
use Rattle.ubik_node.proofs.nodes.Node.make_write.Goals as goal

pub returns-in_err-made-clause-ends : goal.returns-in_err-made-clause-ends
returns-in_err-made-clause-ends g c = (
  none_chosen g.V.DraftService.standing,
  handed_ends g.D.Disk c.from_residual.result c.in_err-made.field-0.0 c.from_residual.ensures.1
      (unread_ends g.D.Disk (held c.args.self.now) c.evaluate.new.store c.evaluate.result c.in_err-made.field-0.0 c.in_err-made.was c.evaluate.ensures.fault c.args.self.now.stored c.requires.not_halted c.evaluate.ensures.same c.evaluate.ensures.failed
      c.evaluate.ensures.disk),
)

pub returns-in_err-made-clause-front : goal.returns-in_err-made-clause-front
returns-in_err-made-clause-front g c = front_whole c.from_residual.result c.args.out.now

pub returns-in-Reply-clause-ends : goal.returns-in-Reply-clause-ends
returns-in-Reply-clause-ends g c =
    let n = c.args.self.now in
    let went = λ (failed : _). false≢true (ap is_err failed) in
    let turn = turned_so g.V.DraftService.standing g.met.V.DraftService.never_shrinks (member_of n.state) n.state (g.D.Disk.files n.store.disk)
    c.args.now c.args.id c.args.call.now c.in_ok-made.made (verdict.Reply c.in-Reply.reply) c.in_ok-made.ensures.made c.in-Reply.ensures.judged
    (n.stored.image c.requires.not_halted) in (
      turn.chosen,
      known_read_ends g.D.Disk (held n) (record (held n) { store = c.evaluate.new.store }) refl refl n.stored c.requires.not_halted c.in_ok-made.ensures.disk went ((c.in_ok-made.ensures.same went).failed ∙ c.requires.not_halted)
          (λ tells.
          let leads = turn.judged tells in (
            leads.calls,
            leads.server,
            c.put_reply.ensures ∙ ap (λ (o : List Output). c.args.out.now ++ o) (sym leads.outputs),
          )),
    )

pub returns-in-Reply-clause-rests : goal.returns-in-Reply-clause-rests
returns-in-Reply-clause-rests g c = λ more free.
    let went = λ (failed : _). false≢true (ap is_err failed) in
    record {
      server = refl;
      reads = reads_as g.D.Disk (λ failed. went failed) (λ none. absurd none) c.in_ok-made.ensures.disk;
      few = omega (arith, ap length c.put_reply.ensures, length-append c.args.out.now (output.Reply c.args.id c.in-Reply.reply ∷ []));
    }

pub returns-in-NewPoll-clause-ends : goal.returns-in-NewPoll-clause-ends
returns-in-NewPoll-clause-ends g c =
    let n = c.args.self.now in
    let last = c.last_counter.new.self in
    let went = λ (failed : _). false≢true (ap is_err failed) in
    let turn = turned_so g.V.DraftService.standing g.met.V.DraftService.never_shrinks (member_of n.state) n.state (g.D.Disk.files n.store.disk)
    c.args.now c.args.id c.args.call.now c.in_ok-made.made verdict.NewPoll c.in_ok-made.ensures.made c.in-NewPoll.ensures.judged
    (n.stored.image c.requires.not_halted) in (
      turn.chosen,
      known_read_ends g.D.Disk (held n) (record (held n) { store = c.evaluate.new.store; server = server_of last; member = member_of last }) refl
          c.last_counter.ensures.kept.member n.stored c.requires.not_halted c.in_ok-made.ensures.disk went
          ((c.in_ok-made.ensures.same went).failed ∙ c.requires.not_halted)
          (λ tells. rw (turn.judged tells) (c.last_counter.ensures.shows.calls, c.last_counter.ensures.shows.server, c.last_counter.ensures.shows.outputs)),
    )

pub returns-in-NewPoll-clause-rests : goal.returns-in-NewPoll-clause-rests
returns-in-NewPoll-clause-rests g c = λ more free. absurd (false≢true (ap is_free c.last_counter.ensures.shows.server ∙ free))

pub returns-in-NewPoll-clause-line : goal.returns-in-NewPoll-clause-line
returns-in-NewPoll-clause-line g c = omega (arith, ap (λ (s : Server). length s.waiting) c.last_counter.ensures.shows.server)

pub returns-then-len-eq1-clause-ends : goal.returns-then-len-eq1-clause-ends
returns-then-len-eq1-clause-ends g c =
    let n = c.args.self.now in
    let went = λ (failed : _). false≢true (ap is_err failed) in
    let turn = turned_so g.V.DraftService.standing g.met.V.DraftService.never_shrinks (member_of n.state) n.state (g.D.Disk.files n.store.disk)
    c.args.now c.args.id c.args.call.now c.in_ok-made.made (verdict.Commit c.in-Commit.answer c.in-Commit.changes) c.in_ok-made.ensures.made c.in-Commit.ensures.judged
    (n.stored.image c.requires.not_halted) in (
      turn.chosen,
      after_reads g.D.Disk (held n) c.evaluate.new.store (held c.commit.new.self) c.commit.result c.in_ok-made.ensures.disk went
          (known_so g.D.Disk c.commit.result (λ tells. ((told_still g.D.Disk c.in_ok-made.ensures.disk went tells, (turn.judged tells).0), (turn.judged tells).1))
          (c.commit.ensures.ends c.args.now c.args.call.now turn.image)),
    )

pub returns-then-len-eq1-clause-rests : goal.returns-then-len-eq1-clause-rests
returns-then-len-eq1-clause-rests g c = λ more. absurd (omega (arith, more, c.if-len-eq1.true))

pub returns-clause-ends : goal.returns-clause-ends
returns-clause-ends g c =
    let n = c.args.self.now in
    let went = λ (failed : _). false≢true (ap is_err failed) in
    let turn = turned_so g.V.DraftService.standing g.met.V.DraftService.never_shrinks (member_of n.state) n.state (g.D.Disk.files n.store.disk)
    c.args.now c.args.id c.args.call.now c.in_ok-made.made (verdict.Commit c.in-Commit.answer c.in-Commit.changes) c.in_ok-made.ensures.made c.in-Commit.ensures.judged
    (n.stored.image c.requires.not_halted) in (
      turn.chosen,
      after_reads g.D.Disk (held n) c.evaluate.new.store (held c.begin_write.new.self) c.begin_write.result c.in_ok-made.ensures.disk went
          (known_so g.D.Disk c.begin_write.result (λ tells. ((told_still g.D.Disk c.in_ok-made.ensures.disk went tells, (turn.judged tells).0), (turn.judged tells).1))
          (c.begin_write.ensures.ends turn.image)),
    )

pub returns-clause-rests : goal.returns-clause-rests
returns-clause-rests g c = λ more.
    let n = c.args.self.now in
    let last = c.begin_write.new.self in
    ok_map c.begin_write.result (IsSome (own_of last.state.writes)) (is_free (up_server last) ≡ true → IsRepliedTo g.D.Disk c.args.out.now c.begin_write.new.out (held n) (held last)) c.begin_write.ensures.writing
    (λ some free. absurd (false≢true (sym (writes_busy (up_server last).phase (own_of last.state.writes) some) ∙ free)))

pub verdict_of-requires-clause-lead : goal.verdict_of-requires-clause-lead
verdict_of-requires-clause-lead g c = rw (c.args.self.now.stored.len c.requires.not_halted) at c.in_ok-made.ensures.lead

pub returns-in-Reply-clause-alike : goal.returns-in-Reply-clause-alike
returns-in-Reply-clause-alike g c =
    let m = member_of c.args.self.now.state in
    let made = c.in_ok-made.ensures in
    replied_turn g.V.DraftService.standing.database m (server_of c.args.self.now.state) c.args.now c.args.id c.args.call.now c.in_ok-made.made.reply made.grammar (short_end c.in_ok-made.made.reply made.short) c.in-Reply.reply
    (c.in-Reply.ensures.some m c.args.now c.args.id c.args.call.now) c.put_reply.ensures

pub returns-in-NewPoll-clause-alike : goal.returns-in-NewPoll-clause-alike
returns-in-NewPoll-clause-alike g c =
    let m = member_of c.args.self.now.state in
    let made = c.in_ok-made.ensures in
    poll_turn g.V.DraftService.standing.database m (server_of c.args.self.now.state) c.args.now c.args.id c.args.call.now c.in_ok-made.made.reply made.grammar (short_end c.in_ok-made.made.reply made.short)
    (c.in-NewPoll.ensures.some m c.args.now c.args.id c.args.call.now) c.last_counter.ensures.shows

pub returns-then-len-eq1-clause-alike : goal.returns-then-len-eq1-clause-alike
returns-then-len-eq1-clause-alike g c =
    let m = member_of c.args.self.now.state in
    let made = c.in_ok-made.ensures in
    commit_turn g.V.DraftService.standing.database m (server_of c.args.self.now.state) c.args.now c.args.id c.args.call.now c.in_ok-made.made.reply made.grammar (short_end c.in_ok-made.made.reply made.short) _ _ _ c.in-Commit.answer c.in-Commit.changes
    c.commit.result (c.in-Commit.ensures.some m c.args.now c.args.id c.args.call.now) (c.commit.ensures.alike c.args.now c.args.call.now) (λ more. absurd (omega (arith, more, c.if-len-eq1.true)))

pub returns-clause-alike : goal.returns-clause-alike
returns-clause-alike g c =
    let last = c.begin_write.new.self in
    let m = member_of c.args.self.now.state in
    let made = c.in_ok-made.ensures in
    commit_turn g.V.DraftService.standing.database m (server_of c.args.self.now.state) c.args.now c.args.id c.args.call.now c.in_ok-made.made.reply made.grammar (short_end c.in_ok-made.made.reply made.short) _ _ _ c.in-Commit.answer c.in-Commit.changes
    c.begin_write.result (c.in-Commit.ensures.some m c.args.now c.args.id c.args.call.now) c.begin_write.ensures.alike
    (λ _. ok_map c.begin_write.result (IsSome (own_of last.state.writes)) (is_free (up_server last) ≡ false) c.begin_write.ensures.writing (writes_busy (up_server last).phase (own_of last.state.writes)))
