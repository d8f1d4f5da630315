use Rattle.std.proofs.Common.{◌≡◌, ◌≤◌, ◌∙◌, Option, Some, length, sym, ap}
use Rattle.std.specs.Option.{ForSome, option_map}
use Rattle.std.specs.Prelude.{Result, Ok, Err, IfOk}
use Rattle.ubik_types.specs.declared.limits.TheConstants.{MAX_IMAGE}
use Rattle.cell_model.specs.Node.{ReceivedText}
use Rattle.ubik_recovery.specs.declared.texts.TextBefore.{TextBefore}
use Rattle.ubik_recovery.specs.declared.texts.TextBefore.TheVariants.{Other, Shorter}
use Rattle.ubik_recovery.specs.Text.{text_before, text_in, with_piece}
use Rattle.server_state.specs.Receiving.{IsShortBefore}
use Rattle.server_state.proofs.state.State.put_piece.Goals as goal

-- a text that a state had is no longer than an image
short_before : (whole : ReceivedText) (text : Option ReceivedText) → ForSome text (λ t. length t.bytes ≤ MAX_IMAGE) → (before : TextBefore)
    → text_before before (Some whole) ≡ text → IsShortBefore before
short_before whole text fits (Other old) is = λ own there. fits (text_in own) (sym is ∙ ap (option_map text_in) there)
short_before whole text fits (Shorter source len) is = tt

ok_then : {A E : Type 0} (r : Result A E) (P Q : A → Type 0) → ((x : A) → P x → Q x) → IfOk r P → IfOk r Q
ok_then (Ok x) P Q so is = so x is
ok_then (Err e) P Q so is = tt

pub returns-clause-fits : goal.returns-clause-fits
returns-clause-fits c =
    let st = c.args.self.now in
    let whole = with_piece c.args.source c.args.offset c.args.bytes.now st.recovery.text in
    ok_then c.put_piece.result _ IsShortBefore (short_before whole st.recovery.text st.of_cell.text) c.put_piece.ensures.before
