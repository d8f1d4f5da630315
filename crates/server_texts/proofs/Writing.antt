-- How a write adds to what was written, and what is said of all of them.
use Rattle.std.proofs.Common.{◌≡◌, ◌<◌, ◌≤◌, inl, inr, ◌+◌, ℕ, List, ◌++◌, length, take, drop, Option, Some, None, IfSome, ap, ◌∙◌, subst, append_assoc, arith}
use Rattle.std.proofs.Math.Seq.{take-add}
use Rattle.std.proofs.lemmas.List.{take_all}
use Rattle.disk_base.specs.Sink.{AppendsFront}
use Rattle.server_texts.specs.Ends.{IsSaid}

-- one more piece of the bytes was appended
pub appended_more : (first middle after : Option (List ℕ)) (bytes piece : List ℕ) (done count : ℕ) →
    IfSome first (λ before. middle ≡ Some (before ++ take done bytes)) → piece ≡ drop done bytes →
    AppendsFront count middle after piece →
    IfSome first (λ before. after ≡ Some (before ++ take (done + count) bytes))
appended_more None middle after bytes piece done count so_far at wrote = tt
appended_more (Some before) middle after bytes piece done count so_far at wrote =
    let told : after ≡ Some ((before ++ take done bytes) ++ take count piece) =
    subst (λ (m : Option (List ℕ)). IfSome m (λ written. after ≡ Some (written ++ take count piece))) so_far wrote.told in
    let joined : take (done + count) bytes ≡ take done bytes ++ take count (drop done bytes) = take-add done count bytes in
    let apart : (before ++ take done bytes) ++ take count piece ≡ before ++ (take done bytes ++ take count piece) =
    append_assoc before (take done bytes) (take count piece) in
    cc

-- a front of the bytes was written, and then a write failed
pub said_part : (before after : Option (List ℕ)) (bytes : List ℕ) (failed_before failed done : ℕ) → done ≤ length bytes → failed_before < failed
    → IfSome before (λ was. after ≡ Some (was ++ take done bytes)) → IsSaid before after failed_before failed bytes
said_part None after bytes failed_before failed done within rose told = record { front = tt; whole = tt; never_falls = omega (arith, rose) }
said_part (Some was) after bytes failed_before failed done within rose told = record {
  front = record { count = done; within = within; written = told };
  whole = inl rose;
  never_falls = omega (arith, rose);
}

-- all of the bytes were written
pub said_all : (before after : Option (List ℕ)) (bytes : List ℕ) (failed_before failed done : ℕ) → length bytes ≤ done → done ≤ length bytes → failed_before ≤ failed
    → IfSome before (λ was. after ≡ Some (was ++ take done bytes)) → IsSaid before after failed_before failed bytes
said_all None after bytes failed_before failed done all within low told = record { front = tt; whole = tt; never_falls = low }
said_all (Some was) after bytes failed_before failed done all within low told = record {
  front = record { count = done; within = within; written = told };
  whole = inr (told ∙ ap (λ (xs : List ℕ). Some (was ++ xs)) (take_all done bytes all));
  never_falls = low;
}
