-- A label that is read again, and the version of a file by its head.
use Rattle.std.proofs.Common.{◌≡◌, ◌<◌, ◌≤◌, ◌^◌, ◌∙◌, ℕ, Bool, true, false, cond, eqb, nat_lt, nat_le, ◌&&◌, List, length, take, Option, Some, None, ap, sym, refl, arith, ltb-false, length-take}
use Rattle.std.specs.Int.{w32, to_be_bytes, from_be_bytes}
use Rattle.std.specs.Str.{bytes_eq}
use Rattle.std.proofs.lemmas.Bool.Decides.{nat_tests}
use Rattle.std.proofs.lemmas.List.{ext_get_or, get_or-take}
use Rattle.std.proofs.lemmas.Slice.Eq.{bytes_eq-Decides}
use Rattle.std.proofs.lemmas.Nat.{from_be_bytes-to_be_bytes_4}
use Rattle.ubik_types.specs.declared.versions.Version.{Version}
use Rattle.ubik_types.specs.Version.{zero_version}
use Rattle.page_file.specs.Label.{label, version_in, version_of_label, version_by, version_of_database, IsHeadOf}

version_in_label : (v : Version) → v.epoch < 2 ^ 32 → v.counter < 2 ^ 32 → version_in (label v) ≡ v
version_in_label v e c =
    ap (λ (n : ℕ). record { epoch = n; counter = from_be_bytes w32 (to_be_bytes w32 v.counter) }) (from_be_bytes-to_be_bytes_4 v.epoch e)
    ∙ ap (λ (n : ℕ). record { epoch = v.epoch; counter = n }) (from_be_bytes-to_be_bytes_4 v.counter c)

-- the test of a label, for a version that was read
labelled_as : Version → Version → Option Version
labelled_as v w = cond (nat_le w.epoch 2147483647 && nat_le w.counter 2147483647 && bytes_eq (label v) (label w)) (Some w) None

labelled_as_itself : (v : Version) → v.epoch ≤ 2147483647 → v.counter ≤ 2147483647 → labelled_as v v ≡ Some v
unfolding labelled_as
labelled_as_itself v e c =
    let epoch : nat_le v.epoch 2147483647 ≡ true = grind (arith, nat_tests) in
    let counter : nat_le v.counter 2147483647 ≡ true = grind (arith, nat_tests) in
    let same : bytes_eq (label v) (label v) ≡ true = (bytes_eq-Decides (label v) (label v)).1 refl in
    ap (λ (b : Bool). cond (b && nat_le v.counter 2147483647 && bytes_eq (label v) (label v)) (Some v) None) epoch
    ∙ ap (λ (b : Bool). cond (true && b && bytes_eq (label v) (label v)) (Some v) None) counter
    ∙ ap (λ (b : Bool). cond (true && true && b) (Some v) None) same

-- a label is read as its version
pub version_of_label_again : (v : Version) → v.epoch ≤ 2147483647 → v.counter ≤ 2147483647 → version_of_label (label v) ≡ Some v
unfolding labelled_as
version_of_label_again v e c = ap (labelled_as v) (version_in_label v (omega arith) (omega arith)) ∙ labelled_as_itself v e c

-- and so is that of a file that is long enough, and not too long
pub version_by_again : (v : Version) (len : ℕ) → v.epoch ≤ 2147483647 → v.counter ≤ 2147483647 → 64 ≤ len → len ≤ 16777280
    → version_by len (label v) ≡ Some v
version_by_again v len e c some most =
    let long : nat_lt len 64 ≡ false = grind (arith, nat_tests) in
    let fits : nat_lt 16777280 len ≡ false = grind (arith, nat_tests) in
    ap (λ (b : Bool). cond b None (cond (nat_lt 16777280 len) None (version_of_label (label v)))) long
    ∙ ap (λ (b : Bool). cond b None (version_of_label (label v))) fits
    ∙ version_of_label_again v e c

-- a file that is long enough, and not too long, has the version of its label
pub version_by_label : (len : ℕ) (head : List ℕ) → 64 ≤ len → len ≤ 16777280 → version_by len head ≡ version_of_label head
version_by_label len head some most =
    let long : nat_lt len 64 ≡ false = grind (arith, nat_tests) in
    let fits : nat_lt 16777280 len ≡ false = grind (arith, nat_tests) in
    ap (λ (b : Bool). cond b None (cond (nat_lt 16777280 len) None (version_of_label head))) long
    ∙ ap (λ (b : Bool). cond b None (version_of_label head)) fits

pub front_of_head : (head file : List ℕ) → 64 ≤ length file → IsHeadOf head file → head ≡ take 64 file
front_of_head head file long is =
    let len = is.len in ext_get_or 0 head (take 64 file) (omega (arith, length-take 64 file))
    (λ k below. is.bytes k (omega arith) ∙ sym (get_or-take 64 file k 0 (omega arith)))

-- the version of a file is that of its head
pub version_by_head : (head file : List ℕ) → IsHeadOf head file → version_by (length file) head ≡ version_by (length file) (take 64 file)
version_by_head head file is =
    by_length (nat_lt (length file) 64) refl
  where
    by_length : (b : Bool) → nat_lt (length file) 64 ≡ b → version_by (length file) head ≡ version_by (length file) (take 64 file)
    by_length true short = rw short (λ i. None)
    by_length false long = ap (λ (h : List ℕ). version_by (length file) h) (front_of_head head file (ltb-false _ _ long) is)

-- the version of an empty file, and of one that is not empty
pub version_of_empty : (file : List ℕ) → length file ≡ 0 → version_of_database file ≡ Some zero_version
unfolding version_of_database
version_of_empty file none =
    let empty : eqb (length file) 0 ≡ true = grind (arith, nat_tests) in
    ap (λ (b : Bool). cond b (Some zero_version) (version_by (length file) (take 64 file))) empty

pub version_of_filled : (file : List ℕ) → 0 < length file → version_of_database file ≡ version_by (length file) (take 64 file)
unfolding version_of_database
version_of_filled file some =
    let filled : eqb (length file) 0 ≡ false = grind (arith, nat_tests) in
    ap (λ (b : Bool). cond b (Some zero_version) (version_by (length file) (take 64 file))) filled
