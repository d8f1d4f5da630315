use Rattle.std.proofs.Common.{List, ℕ, ◌≡◌, ◌++◌, ap, ◌∙◌}
use Rattle.std.proofs.lemmas.Result.{on_ok_weaker}
use Rattle.xdr_base.specs.Spelling.{word, opaque}
use Rattle.ubik_write.proofs.ChangeTexts.{put-spelled}
use Rattle.ubik_write.proofs.texts.write_change.Goals as goal

pub returns-in_ok-put_u32-in-Put-2 : goal.returns-in_ok-put_u32-in-Put-2
returns-in_ok-put_u32-in-Put-2 c =
    let third = λ (written : c.put_bytes.new.self ≡ c.put_u32-in-Put.new.self ++ opaque c.as_slice.result.now). written ∙ ap (λ (those : List ℕ). c.put_u32-in-Put.new.self ++ opaque those) c.as_slice.ensures in
    rw c.in-Put.is
    (on_ok_weaker c.put_bytes.result
    (λ written. put-spelled c.args.writer.now c.put_u32.new.self c.put_u32-in-Put.new.self c.put_bytes.new.self (word 1) (word c.in-Put.at) (opaque c.in-Put.bytes) c.in_ok-put_u32-in-Put.ensures.ok c.in_ok-put_u32-in-Put-2.ensures.ok (third written))
    c.put_bytes.ensures.ok)
