-- The text of a write is read back: its changes, and its pieces joined.
use Rattle.std.proofs.Common.{false, cond, ◌==◌, ◌≡◌, ℕ, zero, suc, ◌+◌, ◌-◌, ◌*◌, ◌/◌, ◌^◌, ◌<◌, ◌≤◌, List, [], ◌∷◌, ◌++◌}
use Rattle.std.proofs.Common.{length, drop, set, replicate, refl, sym, ap, subst, ◌∙◌, append_assoc, arith}
use Rattle.std.proofs.lemmas.Bool.Decides.{nat_tests}
use Rattle.std.proofs.lemmas.List.{length-append, take-append-drop, drop_all}
use Rattle.std.proofs.lemmas.List.Concat.{flat_map-cons}
use Rattle.std.specs.Prelude.{Option, Some, None, option_map, option_and_then}
use Rattle.std.specs.List.{AllByRecursion}
use Rattle.ubik_types.specs.declared.images.Change.{Change}
use Rattle.ubik_types.specs.declared.images.Change.TheVariants.{Put, Cut}
use Rattle.xdr_base.specs.ChangeText.{change_spelling, HasSpelling, text_of}
use Rattle.xdr_base.specs.Reading.{Reading, at_start, past}
use Rattle.xdr_base.specs.Spelling.{word, opaque, opaque_len}
use Rattle.xdr_base.proofs.ReadBack.{word_left, opaque_left, word_again, opaque_again}
use Rattle.ubik_calls.specs.declared.packets.TheConstants.{MAX_PIECE}
use Rattle.cell_model.specs.Pieces.{piece_count, numbered_piece, joined, change_at, changes_at}
use Rattle.cell_model.specs.Pieces.{changes_in}
use Rattle.cell_pages.specs.WritesOnTheWay.{ArePieces}

-- ---- changes

abbrev read_back : Change → Reading → Option (Change × Reading)
read_back c behind = Some (c, behind)

-- the change that is spelled at a place stands there
change_again : (from : Reading) (c : Change) (after : List ℕ) → HasSpelling c → from.rest ≡ change_spelling c ++ after →
    (behind : Reading) × (change_at from ≡ read_back c behind) × (behind.rest ≡ after)
change_again from (Put at bytes) after spelled is = (third, stands, rest_third)
  where
    first : Reading
    first = past 4 from

    second : Reading
    second = past 4 first

    third : Reading
    third = past (opaque_len (length bytes)) second

    rest_from : from.rest ≡ word 1 ++ (word at ++ (opaque bytes ++ after))
    rest_from =
        is ∙ append_assoc (word 1) (word at ++ opaque bytes) after
        ∙ ap (λ (t : List ℕ). word 1 ++ t) (append_assoc (word at) (opaque bytes) after)

    rest_first : first.rest ≡ word at ++ (opaque bytes ++ after)
    rest_first = word_left from 1 (word at ++ (opaque bytes ++ after)) rest_from

    rest_second : second.rest ≡ opaque bytes ++ after
    rest_second = word_left first at (opaque bytes ++ after) rest_first

    rest_third : third.rest ≡ after
    rest_third = opaque_left second bytes after rest_second

    stands : change_at from ≡ read_back (Put at bytes) third
    stands =
        rw (
          word_again from 1 (word at ++ (opaque bytes ++ after)) (omega arith) rest_from,
          word_again first at (opaque bytes ++ after) spelled.0 rest_first,
          opaque_again 4294967295 second bytes after (omega arith) (let h : length bytes < 2 ^ 32 = spelled.1 in omega arith) rest_second,
        ) refl
change_again from (Cut len) after spelled is = (second, stands, rest_second)
  where
    first : Reading
    first = past 4 from

    second : Reading
    second = past 4 first

    rest_from : from.rest ≡ word 2 ++ (word len ++ after)
    rest_from = is ∙ append_assoc (word 2) (word len) after

    rest_first : first.rest ≡ word len ++ after
    rest_first = word_left from 2 (word len ++ after) rest_from

    rest_second : second.rest ≡ after
    rest_second = word_left first len after rest_first

    stands : change_at from ≡ read_back (Cut len) second
    stands = rw (word_again from 2 (word len ++ after) (omega arith) rest_from, word_again first len after spelled rest_first) refl

spelling_is_long : (c : Change) → 0 < length (change_spelling c)
spelling_is_long (Put at bytes) = omega (arith, length-append (word 1) (word at ++ opaque bytes))
spelling_is_long (Cut len) = omega (arith, length-append (word 2) (word len))

not_empty : (n : ℕ) → 0 < n → (n == 0) ≡ false
not_empty n some = grind (arith, nat_tests)

changes_again : (most : ℕ) (from : Reading) (changes : List Change) → AllByRecursion HasSpelling changes → from.rest ≡ text_of changes →
    length changes ≤ most → changes_at most from ≡ Some changes
changes_again zero from [] spelled is within = ap (λ (rest : List ℕ). cond (length rest == 0) (Some []) None) is
changes_again (suc most) from [] spelled is within =
    ap (λ (rest : List ℕ). cond (length rest == 0) (Some [])
    (option_and_then (λ first. option_map (λ changes. first.0 ∷ changes) (changes_at most first.1)) (change_at from))) is
changes_again zero from (c ∷ changes) spelled is within = absurd (omega arith)
changes_again (suc most) from (c ∷ changes) spelled is within =
    let grouped : from.rest ≡ change_spelling c ++ text_of changes = is ∙ flat_map-cons change_spelling c changes in
    let first = change_again from c (text_of changes) spelled.0 grouped in
    let more : length changes ≤ most = omega arith in
    let rest : changes_at most first.0 ≡ Some changes = changes_again most first.0 changes spelled.1 first.2 more in
    let some : 0 < length from.rest =
    omega (arith, ap length grouped, length-append (change_spelling c) (text_of changes), spelling_is_long c) in
    rw (not_empty (length from.rest) some, first.1, rest) refl

text_is_long : (changes : List Change) → length changes ≤ length (text_of changes)
text_is_long [] = omega arith
text_is_long (c ∷ changes) =
    omega (
      arith,
      ap length (flat_map-cons change_spelling c changes),
      length-append (change_spelling c) (text_of changes),
      spelling_is_long c,
      text_is_long changes,
    )

-- the changes that the text of changes spells are those
pub changes_in_text : (changes : List Change) → AllByRecursion HasSpelling changes → changes_in (text_of changes) ≡ Some changes
changes_in_text changes spelled =
    changes_again (length (text_of changes)) (at_start (text_of changes)) changes spelled refl (text_is_long changes)

-- ---- pieces

drop_drop : (m n : ℕ) (xs : List ℕ) → drop m (drop n xs) ≡ drop (n + m) xs
drop_drop m zero xs = ap (λ (k : ℕ). drop k xs) (omega arith)
drop_drop m (suc n) [] = drop_all m [] (omega arith) ∙ sym (drop_all (suc n + m) [] (omega arith))
drop_drop m (suc n) (x ∷ xs) =
    let next : suc n + m ≡ suc (n + m) = omega arith in
    drop_drop m n xs ∙ ap (λ (k : ℕ). drop k (x ∷ xs)) (sym next)

joined_from : (text : List ℕ) (number : ℕ) (pieces : List (Option (List ℕ))) (whole : List ℕ) → ArePieces text number pieces →
    length text ≤ (number + length pieces) * MAX_PIECE → joined pieces ≡ Some whole → whole ≡ drop (number * MAX_PIECE) text
joined_from text number [] whole are within is =
    let none : [] ≡ whole = cc in
    sym none ∙ sym (drop_all (number * MAX_PIECE) text (omega arith))
joined_from text number (None ∷ pieces) whole are within is = absurd (cc)
joined_from text number (Some piece ∷ pieces) whole are within is =
    by (joined pieces) (λ rest at. joined_from text (number + 1) pieces rest are.1 (omega arith) at) refl is
  where
    by : (o : Option (List ℕ)) → ((rest : List ℕ) → joined pieces ≡ Some rest → rest ≡ drop ((number + 1) * MAX_PIECE) text) →
        joined pieces ≡ o → option_map (λ rest. piece ++ rest) o ≡ Some whole → whole ≡ drop (number * MAX_PIECE) text
    by None later at is = absurd (cc)
    by (Some rest) later at is =
        let same : piece ++ rest ≡ whole = cc in
        let behind : rest ≡ drop ((number + 1) * MAX_PIECE) text = later rest at in
        let step : (number + 1) * MAX_PIECE ≡ number * MAX_PIECE + MAX_PIECE = omega arith in
        sym same ∙ ap (λ (p : List ℕ). p ++ rest) are.0
        ∙ ap (λ (r : List ℕ). numbered_piece text number ++ r)
        (behind ∙ ap (λ (n : ℕ). drop n text) step ∙ sym (drop_drop MAX_PIECE (number * MAX_PIECE) text))
        ∙ take-append-drop MAX_PIECE (drop (number * MAX_PIECE) text)

count_covers : (n : ℕ) → n ≤ (n + (MAX_PIECE - 1)) / MAX_PIECE * MAX_PIECE
count_covers n = omega arith

-- all pieces of a text, one behind the other, are the text
pub joined_text : (text : List ℕ) (pieces : List (Option (List ℕ))) (whole : List ℕ) → ArePieces text 0 pieces →
    length pieces ≡ piece_count text → joined pieces ≡ Some whole → whole ≡ text
joined_text text pieces whole are count is =
    let covers : length text ≤ length pieces * MAX_PIECE =
    subst (λ (n : ℕ). length text ≤ n * MAX_PIECE) (sym count) (count_covers (length text)) in
    joined_from text 0 pieces whole are (omega arith) is

pub none_yet : (text : List ℕ) (number count : ℕ) → ArePieces text number (replicate count None)
none_yet text number zero = tt
none_yet text number (suc count) = none_yet text (number + 1) count

later : (n k : ℕ) → n + suc k ≡ n + 1 + k
later n k = omega arith

pub one_more : (text : List ℕ) (number place : ℕ) (piece : List ℕ) (pieces : List (Option (List ℕ))) →
    piece ≡ numbered_piece text (number + place) → ArePieces text number pieces → ArePieces text number (set pieces place (Some piece))
one_more text number place piece [] is are = tt
one_more text number zero piece (None ∷ pieces) is are =
    let same : number + 0 ≡ number = omega arith in (is ∙ ap (λ (n : ℕ). numbered_piece text n) same, are)
one_more text number zero piece (Some other ∷ pieces) is are =
    let same : number + 0 ≡ number = omega arith in (is ∙ ap (λ (n : ℕ). numbered_piece text n) same, are.1)
one_more text number (suc place) piece (None ∷ pieces) is are =
    one_more text (number + 1) place piece pieces (is ∙ ap (λ (n : ℕ). numbered_piece text n) (later number place)) are
one_more text number (suc place) piece (Some other ∷ pieces) is are =
    (are.0, one_more text (number + 1) place piece pieces (is ∙ ap (λ (n : ℕ). numbered_piece text n) (later number place)) are.1)
