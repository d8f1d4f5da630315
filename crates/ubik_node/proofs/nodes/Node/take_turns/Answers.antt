use Rattle.std.proofs.Common.{◌≡◌, ◌∙◌, ◌∷◌, ◌<◌, inr, ℕ, true, Option, Some, IsSome, List, [], length, drop, Err, Ok, refl, sym, ap, subst, arith}
use Rattle.std.proofs.lemmas.List.{append-nil}
use Rattle.disk_base.specs.Files.{Files}
use Rattle.cell_model.specs.Node.{Server, Waiting}
use Rattle.cell_model.specs.Step.{Member, is_short}
use Rattle.cell_model.specs.Writes.{is_free, write_turn}
use Rattle.ubik_node.specs.Alike.{free_dbs}
use Rattle.ubik_node.specs.Choices.{dbs_of, none_chosen}
use Rattle.ubik_node.proofs.Alike.{alike_same, alike_shows, none_free}
use Rattle.ubik_node.proofs.TurnsAlike.{WaitAlike, turn_named, wait_goes, wait_over}
use Rattle.ubik_node.specs.Node.{held}
use Rattle.server_state.specs.State.{member_of, server_of}
use Rattle.server_state.specs.Writing.{waiting_of}
use Rattle.ubik_node.proofs.Evaluated.{chosen_first}
use Rattle.ubik_node.proofs.Endings.{handed_ends, ok_not, rests_ends, same_ends, shown_ends}
use Rattle.ubik_node.proofs.Turns.{handed_fine, handed_not, line_first, line_none, named_as, nobody_left, several, turn_goes, turn_over}
use Rattle.state_laws.proofs.Waiting.{turns_rest}
use Rattle.ubik_node.proofs.nodes.Node.take_turns.Goals as goal

pub loop-self-init : goal.loop-self-init
loop-self-init g c =
    let n = c.args.self.now in
    let st = n.state in
    record {
      not_halted = c.requires.not_halted;
      few = λ free. omega (arith, c.requires.few, st.written.room);
      nobody = λ none. none;
      goes = λ free after new r fine ends. ends;
      goes_alike = λ free after out so. so;
      over = λ busy. (
        none_chosen g.V.DraftService.standing,
        same_ends g.D.Disk (turns_rest (dbs_of (none_chosen g.V.DraftService.standing)) (member_of st) c.args.now (waiting_of st.writes) (server_of st) [] busy)
            (rests_ends g.D.Disk (held n) c.args.self.now.stored c.requires.not_halted (record { server = refl; calls = refl; outputs = sym (append-nil c.args.out.now) })),
      );
      over_alike = λ busy.
          let none = none_free g.V.DraftService.standing.database in (
            st.image,
            refl,
            none,
            alike_same (turns_rest (free_dbs g.V.DraftService.standing.database none) (member_of st) c.args.now (waiting_of st.writes) (server_of st) [] busy)
                (alike_shows (record { server = refl; calls = refl; outputs = sym (append-nil c.args.out.now) })),
          );
    }

pub loop-self-preserved : goal.loop-self-preserved
loop-self-preserved g c =
    let d = g.V.DraftService.standing in
    let n = c.loop-self.self in
    let st = n.state in
    let inv = c.loop-self.invariant in
    let free : is_free (server_of st) ≡ true = sym c.is_free.ensures ∙ c.loop-self-test.true in
    let now = c.next_asked.new.self in
    let w : Waiting = record { id = c.asked.inside.id; call = c.asked.inside.call } in
    let rest = drop 1 (waiting_of st.writes) in
    let line : waiting_of st.writes ≡ w ∷ rest = line_first (waiting_of st.writes) w (ap Some c.asked.view_is ∙ sym c.in-Some.is ∙ c.next_asked.ensures.first) in
    let others : 1 < length st.cell = several (length st.cell) st.me w (waiting_of st.writes) rest st.place st.written.alone line in
    let turn = c.write_turn.ensures.ends in
    let b = is_short turn.0.short in
    let files = g.D.Disk.files n.store.disk in
    let kept = c.next_asked.ensures.kept in
    let last = c.write_turn.new.self in
    let out = c.write_turn.new.out in
    let ends = same_ends g.D.Disk (ap (λ (call : List ℕ). write_turn (dbs_of turn.0 0) (member_of now) (server_of now) c.args.now w.id call b) (sym c.as_slice.ensures)) (named_as g.D.Disk c.write_turn.result (Ok c.in_ok-write_turn.field-0) c.in_ok-write_turn.was turn.1) in
    let several_now : 1 < length now.cell = omega (arith, others, ap (λ (k : Member). length k.hosts) kept.member) in
    let alike = turn_named d.database (member_of st) (member_of now) (record (server_of st) { waiting = rest }) (server_of now) c.args.now w.id w.call _ kept.member c.next_asked.ensures.after c.as_slice.ensures c.in_ok-write_turn.ensures.alike in
    record {
      not_halted = ends.leaves.runs (λ failed. ok_not c.in_ok-write_turn.field-0 failed);
      few = λ ready.
          let replied = c.in_ok-write_turn.ensures.rests several_now ready in
          omega (arith, inv.few free, replied.few, c.write_turn.ensures.line, ap length line, ap (λ (s : Server). length s.waiting) c.next_asked.ensures.after);
      nobody = λ none. let nobody : waiting_of st.writes ≡ [] = inv.nobody none in absurd cc;
      goes = λ ready after new r fine later.
          let replied = c.in_ok-write_turn.ensures.rests several_now ready in
          let o = chosen_first d turn.0 later.0 in
          inv.goes free after new r fine (
            o,
            turn_goes g.D.Disk (dbs_of o) c.args.now w rest b c.loop-self.out after (held n) free others line (server_of now) (member_of now) c.next_asked.ensures.after kept.member (held last) new out later.0.short r fine ready
                (λ (tells : IsSome files). subst (λ (those : Option Files). IsSome those) (sym (replied.reads.files (λ none. none))) tells)
                ends replied later.1,
          );
      goes_alike = λ ready after new so.
          inv.goes_alike free after new
          (wait_goes d.database (member_of st) (server_of st) c.args.now w rest free line others alike ready (subst (λ (k : Member). WaitAlike d.database k c.args.now (server_of last.state) after out new) (ends.member ∙ kept.member) so));
      over = λ busy. inv.goes free out (held last) (Ok tt) (inr refl) (chosen_first d turn.0 (none_chosen d), turn_over g.D.Disk (dbs_of (chosen_first d turn.0 (none_chosen d))) c.args.now w rest b c.loop-self.out out (held n) free others line (server_of now) (member_of now) c.next_asked.ensures.after kept.member (held last) (Ok tt) (inr refl) (λ ok. busy) ends);
      over_alike = λ busy. inv.goes_alike free (server_of last.state) out (wait_over d.database (member_of st) (server_of st) c.args.now w rest free line others alike busy);
    }

pub loop-self-smaller : goal.loop-self-smaller
loop-self-smaller g c =
    let those = waiting_of c.loop-self.self.state.writes in
    let w : Waiting = record { id = c.asked.inside.id; call = c.asked.inside.call } in
    let line : those ≡ w ∷ drop 1 those = line_first those w (ap Some c.asked.view_is ∙ sym c.in-Some.is ∙ c.next_asked.ensures.first) in
    omega (arith, c.write_turn.ensures.line, ap length line, ap (λ (s : Server). length s.waiting) c.next_asked.ensures.after)

pub returns-in_err-write_turn-clause-ends : goal.returns-in_err-write_turn-clause-ends
returns-in_err-write_turn-clause-ends g c =
    let d = g.V.DraftService.standing in
    let n = c.loop-self.self in
    let st = n.state in
    let inv = c.loop-self.invariant in
    let free : is_free (server_of st) ≡ true = sym c.is_free.ensures ∙ c.loop-self-test.true in
    let now = c.next_asked.new.self in
    let w : Waiting = record { id = c.asked.inside.id; call = c.asked.inside.call } in
    let rest = drop 1 (waiting_of st.writes) in
    let line : waiting_of st.writes ≡ w ∷ rest = line_first (waiting_of st.writes) w (ap Some c.asked.view_is ∙ sym c.in-Some.is ∙ c.next_asked.ensures.first) in
    let others : 1 < length st.cell = several (length st.cell) st.me w (waiting_of st.writes) rest st.place st.written.alone line in
    let turn = c.write_turn.ensures.ends in
    let b = is_short turn.0.short in
    let files = g.D.Disk.files n.store.disk in
    let kept = c.next_asked.ensures.kept in
    let e = c.in_err-write_turn.field-0.0 in
    let r = c.from_residual.result in
    let is = c.from_residual.ensures.1 in
    let last = c.write_turn.new.self in
    let out = c.write_turn.new.out in
    let ends = handed_ends g.D.Disk r e is (same_ends g.D.Disk (ap (λ (call : List ℕ). write_turn (dbs_of turn.0 0) (member_of now) (server_of now) c.args.now w.id call b) (sym c.as_slice.ensures)) (named_as g.D.Disk c.write_turn.result (Err e) c.in_err-write_turn.was turn.1)) in
    let fine = handed_fine r e is c.in_err-write_turn.ensures.memory in
    inv.goes free out (held last) r fine (chosen_first d turn.0 (none_chosen d), turn_over g.D.Disk (dbs_of (chosen_first d turn.0 (none_chosen d))) c.args.now w rest b c.loop-self.out out (held n) free others line (server_of now) (member_of now) c.next_asked.ensures.after kept.member (held last) r fine (λ ok. handed_not r e is ok) ends)

pub returns-in_err-write_turn-clause-nobody : goal.returns-in_err-write_turn-clause-nobody
returns-in_err-write_turn-clause-nobody g c = λ none.
    let st = c.loop-self.self.state in
    let w : Waiting = record { id = c.asked.inside.id; call = c.asked.inside.call } in
    let line : waiting_of st.writes ≡ w ∷ drop 1 (waiting_of st.writes) = line_first (waiting_of st.writes) w (ap Some c.asked.view_is ∙ sym c.in-Some.is ∙ c.next_asked.ensures.first) in
    let nobody : waiting_of st.writes ≡ [] = c.loop-self.invariant.nobody none in
    absurd cc

pub returns-in_default-clause-ends : goal.returns-in_default-clause-ends
returns-in_default-clause-ends g c =
    let n = c.loop-self.self in
    let st = n.state in
    let inv = c.loop-self.invariant in
    let free : is_free (server_of st) ≡ true = sym c.is_free.ensures ∙ c.loop-self-test.true in
    let now = c.next_asked.new.self in
    let none = line_none (waiting_of st.writes) (sym c.in_default.is ∙ c.next_asked.ensures.first) in
    inv.goes free c.loop-self.out (record (held n) { server = server_of now; member = member_of now }) (Ok tt) (inr refl) (
      none_chosen g.V.DraftService.standing,
      shown_ends g.D.Disk (held n) st now n.stored inv.not_halted refl c.next_asked.ensures.kept
          (nobody_left (dbs_of (none_chosen g.V.DraftService.standing)) (member_of st) c.args.now (server_of st) (server_of now) [] c.loop-self.out none c.next_asked.ensures.after),
    )

pub returns-clause-ends : goal.returns-clause-ends
returns-clause-ends g c = c.loop-self.invariant.over (sym c.is_free.ensures ∙ c.loop-self-test.false)

pub returns-in_default-clause-alike : goal.returns-in_default-clause-alike
returns-in_default-clause-alike g c =
    let st = c.loop-self.self.state in
    let db = g.V.DraftService.standing.database in
    let none = line_none (waiting_of st.writes) (sym c.in_default.is ∙ c.next_asked.ensures.first) in
    c.loop-self.invariant.goes_alike (sym c.is_free.ensures ∙ c.loop-self-test.true) (server_of c.next_asked.new.self) c.loop-self.out (
      st.image,
      refl,
      none_free db,
      alike_shows (nobody_left (free_dbs db (none_free db)) (member_of st) c.args.now (server_of st) (server_of c.next_asked.new.self) [] c.loop-self.out none c.next_asked.ensures.after),
    )

pub returns-clause-alike : goal.returns-clause-alike
returns-clause-alike g c = c.loop-self.invariant.over_alike (sym c.is_free.ensures ∙ c.loop-self-test.false)
