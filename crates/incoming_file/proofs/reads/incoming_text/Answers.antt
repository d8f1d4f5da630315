use Rattle.std.proofs.Common.{◌≡◌, ◌++◌, ◌∙◌, ℕ, List, length, drop, ap, rules}
use Rattle.std.proofs.lemmas.List.{take_at}
use Rattle.page_file.specs.Label.{label}
use Rattle.incoming_file.proofs.Reading.{image_is}
use Rattle.incoming_file.proofs.reads.incoming_text.Goals as goal

pub returns-clause-image : goal.returns-clause-image
returns-clause-image g c =
    let size : length c.deref_mut.result.now ≡ c.args.len = search rules in
    let read_long : length c.read.new.buf ≡ c.in_ok-text.text.len = search rules in
    let put_long : length c.put_label.new.text ≡ c.in_ok-text.text.len = search rules in
    let before = c.deref_mut-2.ensures.value
    ∙ take_at c.read.new.buf (drop (length c.read.new.buf) c.in_ok-text.text.items) c.in_ok-text.text.len read_long in
    let whole = take_at c.put_label.new.text _ c.in_ok-text.text.len put_long in
    image_is _ c.args.version c.read.new.buf c.new.result (length c.deref_mut.result.now) c.args.len
    (c.new.ensures ∙ whole ∙ c.put_label.ensures
    ∙ ap (λ (xs : List ℕ). label c.args.version ++ drop 64 xs) before) size c.requires.len c.in_default.ensures.bytes
