-- What is spelled at a reader's place is what stands there.
use Rattle.std.proofs.Common.{◌≡◌, ℕ, ℤ, ◌+◌, ◌^◌, ◌<◌, ◌≤◌, Bool, true, false, List, ◌++◌, length, take, drop, replicate, Result, Ok, Err, refl, sym, ap, ◌∙◌, append_assoc, arith, nat_lt}
use Rattle.std.specs.Prelude.{FitsSigned, IsOkAnd}
use Rattle.std.specs.Int.{w32, cast_unsigned}
use Rattle.std.specs.List.{list_all}
use Rattle.std.proofs.lemmas.Int.{to_z-of_z, ints}
use Rattle.std.proofs.lemmas.Bool.{le-ltb}
use Rattle.std.proofs.lemmas.List.{take_at, drop_at, length-append, length-replicate}
use Rattle.std.proofs.lemmas.Nat.{from_be_bytes-to_be_bytes_4}
use Rattle.xdr_base.specs.declared.faults.XdrFault.{XdrFault}
use Rattle.xdr_base.specs.Spelling.{word, signed, truth, padding, opaque, opaque_len}
use Rattle.xdr_base.specs.Reading.{Reading, past, Gets, word_at, signed_at, truth_at, count_at, is_padded, body_at, opaque_at}
use Rattle.xdr_base.proofs.Padding.{is_zero, all_are_zeros}

abbrev found : {A : Type 0} → A → Result A XdrFault
found x = Ok x

found_is : {A : Type 0} (x y : A) → found x ≡ found y → x ≡ y
found_is x y e = cc

-- a get answers with the item that stands there, and leaves what follows
pub gets_back : {X Y : Type 0} (view : X → Y) (old new : Reading) (r : Result X XdrFault) (there : Result (Y × Reading) XdrFault) (y : Y) (behind : Reading) (after : List ℕ)
    → Gets view old new r there → there ≡ Ok (y, behind) → behind.rest ≡ after → IsOkAnd r (λ x. (view x ≡ y) × (new.rest ≡ after))
gets_back {Y = Y} view old new (Ok x) there y behind after gets e rest =
    let both = found_is (view x, new) (y, behind) (sym gets ∙ e) in
    (ap (λ (p : Y × Reading). p.0) both, ap (λ (p : Y × Reading). p.1.rest) both ∙ rest)
gets_back {Y = Y} view old new (Err fault) there y behind after gets e rest =
    let both : ◌≡◌ {A = Result (Y × Reading) XdrFault} (Err fault) (Ok (y, behind)) = sym gets.0 ∙ e in absurd cc

-- what follows a word, and what follows an opaque
pub word_left : (from : Reading) (n : ℕ) (after : List ℕ) → from.rest ≡ word n ++ after → (past 4 from).rest ≡ after
word_left from n after e = ap (drop 4) e ∙ drop_at (word n) after 4 refl

length-opaque : (bytes : List ℕ) → length (opaque bytes) ≡ opaque_len (length bytes)
length-opaque bytes =
    omega (arith, length-append (word (length bytes) ++ bytes) (replicate (padding (length bytes)) 0), length-append (word (length bytes)) bytes, length-replicate {A = ℕ} (padding (length bytes)) 0)

pub opaque_left : (from : Reading) (bytes after : List ℕ) → from.rest ≡ opaque bytes ++ after → (past (opaque_len (length bytes)) from).rest ≡ after
opaque_left from bytes after e = ap (drop (opaque_len (length bytes))) e ∙ drop_at (opaque bytes) after (opaque_len (length bytes)) (length-opaque bytes)

pub word_again : (from : Reading) (n : ℕ) (after : List ℕ) → n < 2 ^ 32 → from.rest ≡ word n ++ after → word_at from ≡ Ok (n, past 4 from)
word_again from n after lt e =
    let long : nat_lt (length from.rest) 4 ≡ false = le-ltb _ _ (omega (arith, ap length e, length-append (word n) after)) in
    let front : take 4 from.rest ≡ word n = ap (take 4) e ∙ take_at (word n) after 4 refl in
    rw (long, front, from_be_bytes-to_be_bytes_4 n lt) refl

pub signed_again : (from : Reading) (z : ℤ) (after : List ℕ) → FitsSigned w32 z → from.rest ≡ signed z ++ after → signed_at from ≡ Ok (z, past 4 from)
unfolding signed_at
signed_again from z after fits e =
    let below : cast_unsigned w32 z < 2 ^ 32 = omega (arith, ints) in
    rw (word_again from (cast_unsigned w32 z) after below e, to_z-of_z w32 z fits) refl

pub truth_again : (from : Reading) (b : Bool) (after : List ℕ) → from.rest ≡ truth b ++ after → truth_at from ≡ Ok (b, past 4 from)
unfolding truth_at
truth_again from true after e = rw (word_again from 1 after (omega arith) e) refl
truth_again from false after e = rw (word_again from 0 after (omega arith) e) refl

pub count_again : (most : ℕ) (from : Reading) (n : ℕ) (after : List ℕ) → most < 2 ^ 32 → n ≤ most → from.rest ≡ word n ++ after → count_at most from ≡ Ok (n, past 4 from)
unfolding count_at
count_again most from n after lt le e =
    let fits : nat_lt most n ≡ false = le-ltb _ _ le in
    rw (word_again from n after (omega arith) e, fits) refl

pub body_again : (from : Reading) (bytes after : List ℕ) → from.rest ≡ opaque bytes ++ after → body_at (length bytes) from ≡ Ok (bytes, past (opaque_len (length bytes)) from)
body_again from bytes after e =
    let len : ℕ = length bytes in
    let pad : ℕ = padding len in
    let zeros : List ℕ = replicate pad 0 in
    let head : List ℕ = word len ++ bytes in
    let head_len : length head ≡ 4 + len = length-append (word len) bytes in
    let grouped : from.rest ≡ head ++ (zeros ++ after) = e ∙ append_assoc head zeros after in
    let size : length from.rest ≡ 4 + len + (pad + length after) =
    omega (arith, ap length grouped, length-append head (zeros ++ after), length-append zeros after, length-replicate {A = ℕ} pad 0) in
    let long : nat_lt (length from.rest) (opaque_len len) ≡ false = le-ltb _ _ (omega arith) in
    let fill : take pad (drop (4 + len) from.rest) ≡ zeros =
    ap (λ (x : List ℕ). take pad (drop (4 + len) x)) grouped ∙ ap (take pad) (drop_at head (zeros ++ after) (4 + len) head_len) ∙ take_at zeros after pad (length-replicate {A = ℕ} pad 0) in
    let padded : is_padded len from ≡ true = ap (list_all is_zero) fill ∙ all_are_zeros pad in
    let front : drop 4 from.rest ≡ bytes ++ (zeros ++ after) =
    ap (drop 4) (grouped ∙ append_assoc (word len) bytes (zeros ++ after)) ∙ drop_at (word len) (bytes ++ (zeros ++ after)) 4 refl in
    let item : take len (drop 4 from.rest) ≡ bytes = ap (take len) front ∙ take_at bytes (zeros ++ after) len refl in
    rw (long, padded, item) refl

pub opaque_again : (most : ℕ) (from : Reading) (bytes after : List ℕ) → most < 2 ^ 32 → length bytes ≤ most → from.rest ≡ opaque bytes ++ after
    → opaque_at most from ≡ Ok (bytes, past (opaque_len (length bytes)) from)
unfolding opaque_at
opaque_again most from bytes after lt le e =
    let zeros : List ℕ = replicate (padding (length bytes)) 0 in
    let grouped : from.rest ≡ word (length bytes) ++ ((bytes ++ zeros) ++ after) =
    e ∙ append_assoc (word (length bytes) ++ bytes) zeros after ∙ append_assoc (word (length bytes)) bytes (zeros ++ after) ∙ ap (λ (x : List ℕ). word (length bytes) ++ x) (sym (append_assoc bytes zeros after)) in
    rw (count_again most from (length bytes) ((bytes ++ zeros) ++ after) lt le grouped) (body_again from bytes after e)
