use Rattle.std.proofs.Common.{◌≡◌, ◌∙◌, ◌+◌, Bool, true, Some, length, sym, subst, rules, arith, eq-eqb}
use Rattle.ubik_types.specs.Version.{IsVersion}
use Rattle.cell_model.specs.Recovery.{text_with}
use Rattle.ubik_recovery.specs.Text.{with_piece}
use Rattle.server_state.specs.State.{announced, member_of, server_of}
use Rattle.server_state.proofs.Polled.{version_best}
use Rattle.server_rules.proofs.Fetches.{asked_goes, best_asked, fits_of, piece_ends, whole_at}
use Rattle.server_rules.proofs.recovery.piece_told.Goals as goal

pub returns-then-whole-clause-step : goal.returns-then-whole-clause-step
returns-then-whole-clause-step c = λ dbs short.
    let st = c.args.state.now in
    let source = c.args.source in
    let at = c.args.offset in
    let bytes = c.args.bytes.now in
    let some : c.is_fetching.result ≡ true = search rules in
    let asked : c.is_asked.result ≡ true = search rules in
    let takes : c.takes_piece.result ≡ true = search rules in
    let ends : at + length bytes ≡ source.total = omega arith in
    let text = with_piece source at bytes st.recovery.text in
    piece_ends (member_of st) (server_of st) c.args.now source.server c.args.poll source.version source.total at bytes (announced st) st.recovery (c.is_fetching.ensures.0 some)
    (sym c.is_asked.ensures ∙ asked) text
    (asked_goes c.has_no_byte-may_begin.result source.server source.version source.total at bytes st.recovery.text text c.has_no_byte-may_begin.ensures (c.takes_piece.ensures.text takes))
    (whole_at source at bytes st.recovery.text true (c.takes_piece.ensures.next takes) (eq-eqb _ _ ends))
    ∙ c.image_fetched.ensures.step dbs short

pub image_fetched-requires-clause-best : goal.image_fetched-requires-clause-best
image_fetched-requires-clause-best c =
    let asked : c.is_asked.result ≡ true = search rules in
    best_asked c.is_asked.result c.args.source.server c.args.poll c.args.source.version c.args.state.now.recovery c.is_asked.ensures asked

pub returns-clause-leaves : goal.returns-clause-leaves
returns-clause-leaves c =
    let st = c.args.state.now in
    let asked : c.is_asked.result ≡ true = search rules in
    record {
      can = subst IsVersion (sym (best_asked c.is_asked.result c.args.source.server c.args.poll c.args.source.version st.recovery c.is_asked.ensures asked)) (version_best st.recovery st.of_cell.answers);
      kept = c.keep_piece.ensures.kept;
      halts = λ fails. absurd fails;
      stays = λ short. absurd short;
    }

pub image_fetched-requires-clause-ends : goal.image_fetched-requires-clause-ends
image_fetched-requires-clause-ends c =
    let st = c.args.state.now in
    let source = c.args.source in
    let at = c.args.offset in
    let bytes = c.args.bytes.now in
    let takes : c.takes_piece.result ≡ true = search rules in
    let is = c.takes_piece.ensures.text takes in
    record {
      takes = subst (λ (b : Bool). text_with b source.server source.version source.total at bytes st.recovery.text ≡ Some (with_piece source at bytes st.recovery.text)) c.has_no_byte-may_begin.ensures is;
      next = c.takes_piece.ensures.next takes;
      whole = omega arith;
      fits = fits_of c.has_no_byte-may_begin.result source.server source.version source.total at bytes st.recovery.text _ is;
    }
