-- What std tells of a reader and of a writer, as a source and a sink tell it.
use Rattle.std.proofs.Common.{◌≡◌, ◌<◌, ◌≤◌, ◌∙◌, ◌+◌, ℕ, List, [], ◌++◌, length, take, drop, Option, Some, None, IfSome, sym, ap, arith, length-append}
use Rattle.std.specs.Io.KnownBytes.{Consumes, IsAtEnd, Keeps, Appends}
use Rattle.std.proofs.Math.Seq.{take-append_seam, drop-append_seam}
use Rattle.std.proofs.lemmas.List.{length-take-le}
use Rattle.disk_base.specs.Source.{Moves, Stays}
use Rattle.disk_base.specs.Sink.{AppendsFront}

pub stays : (before after : Option (List ℕ)) → Keeps before after → Stays before after
stays None after keeps = tt
stays (Some told) None keeps = absurd keeps
stays (Some told) (Some left) keeps = ap (λ (xs : List ℕ). Some xs) keeps

pub took : (n : ℕ) (before after : Option (List ℕ)) (buf : List ℕ) → 0 < n → n ≤ length buf → Consumes before after (take n buf) → Moves n before after buf
took n None after buf some within consumes = record { some = some; within = within; told = tt }
took n (Some left) None buf some within consumes = absurd consumes
took n (Some left) (Some rest) buf some within consumes =
    let front = take n buf in
    let len : length front ≡ n = length-take-le n buf within in
    let whole : length left ≡ length front + length rest = ap (λ (xs : List ℕ). length xs) consumes ∙ length-append front rest in
    let first : take n left ≡ front = ap (take n) consumes ∙ ap (λ (k : ℕ). take k (front ++ rest)) (sym len) ∙ take-append_seam front rest in
    let last : drop n left ≡ rest = ap (drop n) consumes ∙ ap (λ (k : ℕ). drop k (front ++ rest)) (sym len) ∙ drop-append_seam front rest in record {
      some = some;
      within = within;
      told = (omega (arith, len, whole), sym first, ap (λ (xs : List ℕ). Some xs) (sym last));
    }

pub ended : (before after : Option (List ℕ)) → Consumes before after [] → IsAtEnd after → IfSome before (λ left. (left ≡ []) × (after ≡ Some []))
ended None after consumes end = tt
ended (Some left) None consumes end = absurd consumes
ended (Some left) (Some rest) consumes end = (consumes ∙ end, ap (λ (xs : List ℕ). Some xs) end)

pub gave : (n : ℕ) (before after : Option (List ℕ)) (bytes : List ℕ) → 0 < n → n ≤ length bytes → Appends before after (take n bytes) → AppendsFront n before after bytes
gave n None after bytes some within appends = record { some = some; within = within; told = tt }
gave n (Some old) None bytes some within appends = absurd appends
gave n (Some old) (Some new) bytes some within appends = record { some = some; within = within; told = ap (λ (xs : List ℕ). Some xs) appends }
