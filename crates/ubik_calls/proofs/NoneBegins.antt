-- No frame's spelling begins another's: each says its length, and the bytes of that length have one reading.
use Rattle.std.proofs.Common.{◌≡◌, ℕ, ◌^◌, ◌<◌, List, ◌++◌, length, take, drop, Result, Ok, refl, sym, ap, ◌∙◌, append_assoc, arith}
use Rattle.std.proofs.lemmas.List.{take_at, drop_at}
use Rattle.xdr_base.specs.Spelling.{word}
use Rattle.xdr_base.proofs.OneReading.{words_differ}
use Rattle.ubik_calls.specs.declared.frames.Frame.{Frame}
use Rattle.ubik_calls.specs.declared.frames.FrameFault.{FrameFault}
use Rattle.ubik_calls.specs.WireGrammar.{behind_length, spelling}
use Rattle.ubik_calls.specs.Laws.{IsFrame, NoFrameBeginsAnother}
use Rattle.ubik_calls.specs.Reading.{frame_of}
use Rattle.ubik_calls.proofs.FrameBack.{frame_again}

fits : (f : Frame) → IsFrame f → length (behind_length f) < 2 ^ 32
fits f p = omega (arith, p.0.bound)

abbrev found : Frame → Result Frame FrameFault
found f = Ok f

one : (a b : Frame) → found a ≡ found b → a ≡ b
one a b e = cc

pub none_begins_another : NoFrameBeginsAnother
none_begins_another a b x y p q e =
    let m = behind_length a in
    let n = behind_length b in
    let same = words_differ (length m) (length n) (m ++ x) (n ++ y) (fits a p) (fits b q) (sym (append_assoc (word (length m)) m x) ∙ e ∙ append_assoc (word (length n)) n y) in
    let behind : m ≡ n = sym (take_at m x (length m) refl) ∙ ap (take (length m)) same.1 ∙ take_at n y (length m) (sym same.0) in
    let after : x ≡ y = sym (drop_at m x (length m) refl) ∙ ap (drop (length m)) same.1 ∙ drop_at n y (length m) (sym same.0) in
    let whole : spelling a ≡ spelling b = ap (λ (t : List ℕ). word (length t) ++ t) behind in
    (one a b (sym (frame_again a p) ∙ ap frame_of whole ∙ frame_again b q), after)
