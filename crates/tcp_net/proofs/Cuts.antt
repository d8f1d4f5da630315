-- How the waiting part of a buffer changes: `&xs[i..j]` is `take (j - i) (drop i xs)`.
use Rattle.std.proofs.Common.{◌≡◌, ℕ, ◌+◌, ◌-◌, ◌≤◌, List, ◌++◌, [], length, take, drop, Option, sym, ◌∙◌, ap, arith, append_assoc}
use Rattle.std.proofs.lemmas.List.{drop-drop, drop-append-le, take-append-le, take-append-drop, take_at, length-take-le}
use Rattle.std.proofs.lemmas.Slice.{between_is}
use Rattle.std.proofs.Math.Seq.{take-append-add}
use Rattle.std.specs.Io.KnownBytes.{Appends}
use Rattle.tcp_net.specs.Queues.{Moves}

-- without its first n
pub rest_waits : (xs : List ℕ) (i j n : ℕ) → take (j - (i + n)) (drop (i + n) xs) ≡ drop n (take (j - i) (drop i xs))
rest_waits xs i j n =
    between_is xs (i + n) j ∙ sym (drop-drop n i (take j xs)) ∙ ap (λ (r : List ℕ). drop n r) (sym (between_is xs i j))

-- what is written from j on is none of it
pub room_waits : (xs ys : List ℕ) (i j : ℕ) → j ≤ length xs → take (j - i) (drop i (take j xs ++ ys)) ≡ take (j - i) (drop i xs)
room_waits xs ys i j within =
    between_is (take j xs ++ ys) i j
    ∙ ap (λ (r : List ℕ). drop i r) (take_at (take j xs) ys j (length-take-le j xs within))
    ∙ sym (between_is xs i j)

-- with the first n of what was written from j on
pub more_waits : (xs ys zs : List ℕ) (i j n : ℕ) → i ≤ j → j ≤ length xs → n ≤ length ys
    → take (j + n - i) (drop i (take j xs ++ (ys ++ zs))) ≡ take (j - i) (drop i xs) ++ take n ys
more_waits xs ys zs i j n ordered within fits =
    let len : length (take j xs) ≡ j = length-take-le j xs within in
    let begins : i ≤ length (take j xs) = omega arith in
    between_is (take j xs ++ (ys ++ zs)) i (j + n)
    ∙ ap (λ (k : ℕ). drop i (take (k + n) (take j xs ++ (ys ++ zs)))) (sym len)
    ∙ ap (λ (r : List ℕ). drop i r) (take-append-add (take j xs) (ys ++ zs) n)
    ∙ ap (λ (r : List ℕ). drop i (take j xs ++ r)) (take-append-le n ys zs fits)
    ∙ drop-append-le i (take j xs) (take n ys) begins
    ∙ ap (λ (r : List ℕ). r ++ take n ys) (sym (between_is xs i j))

-- a writer took n bytes of what was left of a frame
pub moves : (before after : Option (List ℕ)) (xs rest behind : List ℕ) (i n : ℕ) → rest ≡ drop i xs
    → Appends before after (take n rest) → Moves before after (drop i xs ++ behind) (drop (i + n) xs ++ behind)
moves before after xs rest behind i n is taken =
    let split : drop i xs ≡ take n rest ++ drop (i + n) xs =
    sym (take-append-drop n (drop i xs))
    ∙ ap (λ (r : List ℕ). take n r ++ drop n (drop i xs)) (sym is)
    ∙ ap (λ (r : List ℕ). take n rest ++ r) (drop-drop n i xs)
    in (
      take n rest,
      taken,
      ap (λ (r : List ℕ). r ++ behind) split ∙ append_assoc (take n rest) (drop (i + n) xs) behind,
    )
