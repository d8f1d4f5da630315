use Rattle.std.proofs.Common.{◌≡◌, ◌∙◌, List, ℕ, length, sym, ap}
use Rattle.std.proofs.lemmas.List.FromFn.{length-map-range_with_len}
use Rattle.site_writes.specs.OwnWrite.{OwnRecord}
use Rattle.ubik_write.specs.declared.undo.Patch.{Patch}
use Rattle.ubik_write.specs.Undo.{image_before}
use Rattle.server_state.proofs.flights.own_write.Goals as goal

length_before : (undo : List Patch) (len : ℕ) (after : List ℕ) → length (image_before undo len after) ≡ len
unfolding image_before
length_before undo len after = length-map-range_with_len _ 0 len

pub new-requires-clause-len : goal.new-requires-clause-len
new-requires-clause-len c =
    let f = c.args.flight in
    sym (ap (λ (bytes : List ℕ). length bytes) c.of-old_image.ensures ∙ length_before f.undo f.old_len c.args.image.now)

pub returns-clause-before : goal.returns-clause-before
returns-clause-before c = λ old undoes is.
    let f = c.args.flight in
    ap (λ (w : OwnRecord). w.flight.old_image) c.new.ensures ∙ c.of-old_image.ensures ∙ ap (image_before f.undo f.old_len) is
    ∙ c.law_before_image_holds_the_old_bytes.ensures f old c.args.changes.now undoes
