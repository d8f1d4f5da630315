-- What the readers of a log find at the front of some bytes.
use Rattle.std.proofs.Common.{◌≡◌, ◌≢◌, ℕ, ◌+◌, ◌^◌, ◌<◌, ◌≤◌, List, ◌++◌, length, Option, None, Some, arith, ap, sym}
use Rattle.std.specs.Prelude.{IfNone}
use Rattle.std.proofs.lemmas.List.{length-append}
use Rattle.ubik_types.specs.declared.images.Change.TheVariants.{Put, Cut}
use Rattle.ubik_types.specs.declared.limits.TheConstants.{MAX_IMAGE}
use Rattle.ubik_log.specs.LogGrammar.{field}
use Rattle.ubik_log.proofs.OneReading.{fields_differ, same_behind, other_behind, BeginsWithNone}

pub none_as : {A : Type 0} {P Q : Type 0} (r : Option A) → (P → Q) → IfNone r P → IfNone r Q
none_as None f p = f p
none_as (Some x) f p = p

-- the fields that stand there, where a put's do
pub same_put : (at len : ℕ) (rest : List ℕ) (position : ℕ) (bytes after : List ℕ) → at < 2 ^ 32 → len < 2 ^ 32 → position + length bytes ≤ MAX_IMAGE
    → field 0 ++ (field at ++ (field len ++ rest)) ≡ field 0 ++ (field position ++ (field (length bytes) ++ (bytes ++ after)))
    → (at ≡ position) × (len ≡ length bytes) × (rest ≡ bytes ++ after)
same_put at len rest position bytes after p q le e =
    let fields = same_behind 0 (field at ++ (field len ++ rest)) (field position ++ (field (length bytes) ++ (bytes ++ after))) e in
    let first = fields_differ at position (field len ++ rest) (field (length bytes) ++ (bytes ++ after)) p (omega arith) fields in
    let second = fields_differ len (length bytes) rest (bytes ++ after) q (omega arith) first.1 in
    (first.0, second.0, second.1)

pub put_is_far : (at len : ℕ) (rest : List ℕ) (position : ℕ) (bytes after : List ℕ) → at < 2 ^ 32 → len < 2 ^ 32 → MAX_IMAGE < at + len → position + length bytes ≤ MAX_IMAGE
    → field 0 ++ (field at ++ (field len ++ rest)) ≡ field 0 ++ (field position ++ (field (length bytes) ++ (bytes ++ after))) → ⊥
put_is_far at len rest position bytes after p q far le e =
    let same = same_put at len rest position bytes after p q le e in omega arith

pub put_is_cut_off : (at len : ℕ) (rest : List ℕ) (position : ℕ) (bytes after : List ℕ) → at < 2 ^ 32 → len < 2 ^ 32 → length rest < len → position + length bytes ≤ MAX_IMAGE
    → field 0 ++ (field at ++ (field len ++ rest)) ≡ field 0 ++ (field position ++ (field (length bytes) ++ (bytes ++ after))) → ⊥
put_is_cut_off at len rest position bytes after p q short le e =
    let same = same_put at len rest position bytes after p q le e in
    omega (arith, ap length same.2, length-append bytes after)

-- no change's record stands there, where no put stands behind LOGDATA
pub no_put_no_change : (fields : List ℕ)
    → ((at : ℕ) (bytes after : List ℕ) → at + length bytes ≤ MAX_IMAGE → fields ≢ field 0 ++ (field at ++ (field (length bytes) ++ (bytes ++ after))))
    → BeginsWithNone (field 103 ++ fields)
no_put_no_change fields none (Put at bytes) after begins =
    none at bytes after begins.within_image (same_behind 103 fields (field 0 ++ (field at ++ (field (length bytes) ++ (bytes ++ after)))) begins.record_is)
no_put_no_change fields none (Cut len) after begins =
    other_behind 103 104 fields (field 0 ++ (field len ++ after)) (omega arith) (omega arith) begins.record_is

-- no change's record stands there, where no cut stands behind LOGTRUNCATE
pub no_cut_no_change : (fields : List ℕ) → ((len : ℕ) (after : List ℕ) → len ≤ MAX_IMAGE → fields ≢ field 0 ++ (field len ++ after)) → BeginsWithNone (field 104 ++ fields)
no_cut_no_change fields none (Put at bytes) after begins =
    other_behind 103 104 (field 0 ++ (field at ++ (field (length bytes) ++ (bytes ++ after)))) fields (omega arith) (omega arith) (sym begins.record_is)
no_cut_no_change fields none (Cut len) after begins =
    none len after begins.within_image (same_behind 104 fields (field 0 ++ (field len ++ after)) begins.record_is)
