-- The version of a database file is one: both its numbers are below 2^31.
use Rattle.std.proofs.Common.{if◌then◌else◌, ◌≡◌, ◌&&◌, ◌==◌, ◌+◌, ◌<◌, ℕ, Bool, true, false, Some, None, List, length, take, refl, sym, ap, subst}
use Rattle.std.proofs.Common.{◌∙◌, arith}
use Rattle.std.proofs.lemmas.Bool.{false≢true}
use Rattle.std.proofs.lemmas.Bool.Decides.{nat_tests}
use Rattle.std.specs.Prelude.{nat_le, nat_lt}
use Rattle.std.specs.Str.{bytes_eq}
use Rattle.page_file.specs.Label.{label, version_by, version_in, version_of_database, version_of_label}
use Rattle.page_file.specs.declared.label.TheConstants.{LABEL_LEN}
use Rattle.ubik_types.specs.declared.limits.TheConstants.{MAX_IMAGE}
use Rattle.ubik_types.specs.declared.versions.TheConstants.{MAX_COUNTER}
use Rattle.ubik_types.specs.declared.versions.Version.{Version}
use Rattle.ubik_types.specs.Version.{IsVersion, zero_version}

both_true : (a b : Bool) → (a && b) ≡ true → (a ≡ true) × (b ≡ true)
both_true true b is = (refl, is)
both_true false b is = absurd (false≢true is)

below : (n : ℕ) → nat_le n MAX_COUNTER ≡ true → n < 2147483648
below n is = grind (arith, nat_tests)

zero_is : IsVersion zero_version
zero_is = record { epoch = omega arith; counter = omega arith }

labelled : (bytes : List ℕ) (v : Version) → version_of_label bytes ≡ Some v → IsVersion v
labelled bytes v is =
    by (nat_le (version_in bytes).epoch MAX_COUNTER && nat_le (version_in bytes).counter MAX_COUNTER
    && bytes_eq bytes (label (version_in bytes))) refl
  where
    by : (b : Bool)
        → (nat_le (version_in bytes).epoch MAX_COUNTER && nat_le (version_in bytes).counter MAX_COUNTER
        && bytes_eq bytes (label (version_in bytes))) ≡ b
        → IsVersion v
    by true fits =
        let all = both_true (nat_le (version_in bytes).epoch MAX_COUNTER && nat_le (version_in bytes).counter MAX_COUNTER)
        (bytes_eq bytes (label (version_in bytes))) fits in
        let numbers = both_true (nat_le (version_in bytes).epoch MAX_COUNTER) (nat_le (version_in bytes).counter MAX_COUNTER) all.0 in
        let there : Some (version_in bytes) ≡ Some v = sym (ap (λ (b : Bool). if b then Some (version_in bytes) else None) fits) ∙ is in
        let same : version_in bytes ≡ v = cc in
        subst IsVersion same
        (record { epoch = below (version_in bytes).epoch numbers.0; counter = below (version_in bytes).counter numbers.1 })
    by false fits =
        let never : None ≡ Some v = sym (ap (λ (b : Bool). if b then Some (version_in bytes) else None) fits) ∙ is in cc

by_length : (len : ℕ) (head : List ℕ) (v : Version) → version_by len head ≡ Some v → IsVersion v
by_length len head v is = by (nat_lt len LABEL_LEN) (nat_lt (LABEL_LEN + MAX_IMAGE) len) is
  where
    by : (a b : Bool) → (if a then None else (if b then None else version_of_label head)) ≡ Some v → IsVersion v
    by true b there = let never : None ≡ Some v = there in cc
    by false true there = let never : None ≡ Some v = there in cc
    by false false there = labelled head v there

pub version_is : (file : List ℕ) (v : Version) → version_of_database file ≡ Some v → IsVersion v
unfolding version_of_database
version_is file v is = by (length file == 0) is
  where
    by : (b : Bool) → (if b then Some zero_version else version_by (length file) (take LABEL_LEN file)) ≡ Some v → IsVersion v
    by true there = let same : zero_version ≡ v = cc in subst IsVersion same zero_is
    by false there = by_length (length file) (take LABEL_LEN file) v there
