-- No record begins another, and a committed log has one reading.
use Rattle.std.proofs.Common.{◌≡◌, ℕ, ◌^◌, ◌<◌, List, [], ◌∷◌, ◌++◌, length, slice_index, take, drop, refl, sym, ap, ◌∙◌, append_assoc, arith}
use Rattle.std.specs.Int.{w32, from_be_bytes}
use Rattle.std.specs.List.{All, flat_map}
use Rattle.std.proofs.lemmas.List.{take_at, drop_at, length-append, nil_from_length}
use Rattle.std.proofs.lemmas.List.Elements.{All-head, All-tail}
use Rattle.std.proofs.lemmas.Nat.{from_be_bytes-to_be_bytes_4}
use Rattle.ubik_types.specs.declared.images.Change.{Change}
use Rattle.ubik_types.specs.declared.images.Change.TheVariants.{Put, Cut}
use Rattle.ubik_types.specs.declared.versions.Version.{Version}
use Rattle.ubik_types.specs.Version.{IsVersion}
use Rattle.ubik_log.specs.LogGrammar.{field, new_record, IsWithinImage}
use Rattle.ubik_log.specs.Records.{change_record, end_record}
use Rattle.ubik_log.specs.Reading.{BeginsWithChange}
use Rattle.ubik_log.specs.Laws.{HasOneReading, NoneBeginsAnother, ClosedGateIsDiscarded}
use Rattle.ubik_log.proofs.Spelled.{records_of, first_record, text_is}

pub fields_differ : (a b : ℕ) (x y : List ℕ) → a < 2 ^ 32 → b < 2 ^ 32 → field a ++ x ≡ field b ++ y → (a ≡ b) × (x ≡ y)
fields_differ a b x y p q e =
    let head : field a ≡ field b = sym (take_at (field a) x 4 refl) ∙ ap (take 4) e ∙ take_at (field b) y 4 refl in
    let tail : x ≡ y = sym (drop_at (field a) x 4 refl) ∙ ap (drop 4) e ∙ drop_at (field b) y 4 refl in
    (sym (from_be_bytes-to_be_bytes_4 a p) ∙ ap (from_be_bytes w32) head ∙ from_be_bytes-to_be_bytes_4 b q, tail)

pub apart : (m n : ℕ) → m ≡ n → m < n → ⊥
apart m n e lt = omega arith

-- what stands behind the same field is the same, and no other number stands there
pub same_behind : (n : ℕ) (x y : List ℕ) → field n ++ x ≡ field n ++ y → x ≡ y
same_behind n x y e = sym (drop_at (field n) x 4 refl) ∙ ap (drop 4) e ∙ drop_at (field n) y 4 refl

pub other_behind : (m n : ℕ) (x y : List ℕ) → m < n → n < 2 ^ 32 → field m ++ x ≡ field n ++ y → ⊥
other_behind m n x y lt q e = apart m n (fields_differ m n x y (omega arith) q e).0 lt

pub changes_differ : (a b : Change) (x y : List ℕ) → IsWithinImage a → IsWithinImage b → change_record a ++ x ≡ change_record b ++ y → (a ≡ b) × (x ≡ y)
changes_differ (Put m ms) (Put n ns) x y p q e =
    let fields = same_behind 0 (field m ++ (field (length ms) ++ (ms ++ x))) (field n ++ (field (length ns) ++ (ns ++ y)))
    (same_behind 103 (field 0 ++ (field m ++ (field (length ms) ++ (ms ++ x)))) (field 0 ++ (field n ++ (field (length ns) ++ (ns ++ y)))) e) in
    let position = fields_differ m n (field (length ms) ++ (ms ++ x)) (field (length ns) ++ (ns ++ y)) (omega arith) (omega arith) fields in
    let len = fields_differ (length ms) (length ns) (ms ++ x) (ns ++ y) (omega arith) (omega arith) position.1 in
    let at : m ≡ n = position.0 in
    let bytes : ms ≡ ns = sym (take_at ms x (length ms) refl) ∙ ap (take (length ms)) len.1 ∙ take_at ns y (length ms) (sym len.0) in
    let behind : x ≡ y = sym (drop_at ms x (length ms) refl) ∙ ap (drop (length ms)) len.1 ∙ drop_at ns y (length ms) (sym len.0) in
    (cc, behind)
changes_differ (Put m ms) (Cut n) x y p q e =
    absurd (other_behind 103 104 (field 0 ++ (field m ++ (field (length ms) ++ (ms ++ x)))) (field 0 ++ (field n ++ y)) (omega arith) (omega arith) e)
changes_differ (Cut m) (Put n ns) x y p q e =
    absurd (other_behind 103 104 (field 0 ++ (field n ++ (field (length ns) ++ (ns ++ y)))) (field 0 ++ (field m ++ x)) (omega arith) (omega arith) (sym e))
changes_differ (Cut m) (Cut n) x y p q e =
    let fields = same_behind 0 (field m ++ x) (field n ++ y) (same_behind 104 (field 0 ++ (field m ++ x)) (field 0 ++ (field n ++ y)) e) in
    let len = fields_differ m n x y (omega arith) (omega arith) fields in
    let same : m ≡ n = len.0 in
    (cc, len.1)

-- no change stands where the end of a log does
pub end_is_no_change : (version : Version) (tail : List ℕ) (change : Change) (after : List ℕ) → end_record version ++ tail ≡ change_record change ++ after → ⊥
end_is_no_change version tail (Put n ns) after e =
    other_behind 101 103 (field version.epoch ++ (field version.counter ++ tail)) (field 0 ++ (field n ++ (field (length ns) ++ (ns ++ after)))) (omega arith) (omega arith) e
end_is_no_change version tail (Cut n) after e =
    other_behind 101 104 (field version.epoch ++ (field version.counter ++ tail)) (field 0 ++ (field n ++ after)) (omega arith) (omega arith) e

pub ends_differ : (v w : Version) → IsVersion v → IsVersion w → end_record v ≡ end_record w → v ≡ w
ends_differ v w p q e =
    let fields = same_behind 101 (field v.epoch ++ field v.counter) (field w.epoch ++ field w.counter) e in
    let first = fields_differ v.epoch w.epoch (field v.counter) (field w.counter) (omega arith) (omega arith) fields in
    let second = fields_differ v.counter w.counter [] [] (omega arith) (omega arith) first.1 in
    let epoch : v.epoch ≡ w.epoch = first.0 in
    let counter : v.counter ≡ w.counter = second.0 in
    let with_epoch : ℕ → Version = λ n. record { epoch = n; counter = v.counter } in
    let with_counter : ℕ → Version = λ n. record { epoch = w.epoch; counter = n } in
    ap with_epoch epoch ∙ ap with_counter counter

-- changes read up to where none begins are all of them
abbrev pub BeginsWithNone : List ℕ → Type 0
BeginsWithNone bytes = (change : Change) (after : List ℕ) → ¬ BeginsWithChange bytes change after

pub all_are_read : (read told : List Change) (rest : List ℕ) (version : Version) → All IsWithinImage read → All IsWithinImage told → BeginsWithNone rest
    → flat_map change_record read ++ rest ≡ records_of told version → (read ≡ told) × (rest ≡ end_record version)
all_are_read [] [] rest version p q none e = (refl, e)
all_are_read [] (b ∷ bs) rest version p q none e =
    absurd (none b (flat_map change_record bs ++ end_record version) (record {
      within_image = All-head IsWithinImage b bs q;
      record_is = e ∙ first_record b bs (end_record version);
    }))
all_are_read (a ∷ cs) [] rest version p q none e =
    absurd (end_is_no_change version [] a (flat_map change_record cs ++ rest)
    (sym e ∙ first_record a cs rest))
all_are_read (a ∷ cs) (b ∷ bs) rest version p q none e =
    let first = changes_differ a b (flat_map change_record cs ++ rest) (flat_map change_record bs ++ end_record version)
    (All-head IsWithinImage a cs p) (All-head IsWithinImage b bs q) (sym (first_record a cs rest) ∙ e ∙ first_record b bs (end_record version)) in
    let others = all_are_read cs bs rest version (All-tail IsWithinImage a cs p) (All-tail IsWithinImage b bs q) none first.1 in
    let head : a ≡ b = first.0 in
    let tail : cs ≡ bs = others.0 in
    (cc, others.1)

pub log_has_one_reading : HasOneReading
log_has_one_reading log a b v w p q =
    let same = all_are_read a b (end_record v) w p.told.within_image q.told.within_image
    (λ change after begins. end_is_no_change v [] change after begins.record_is)
    (same_behind 100 (records_of a v) (records_of b w) (sym (text_is p) ∙ text_is q)) in
    (same.0, ends_differ v w p.told.is_version q.told.is_version same.1)

pub no_log_begins_another : NoneBeginsAnother
no_log_begins_another log more a b v w p q =
    let longer : log ++ more ≡ new_record ++ (flat_map change_record a ++ (end_record v ++ more)) =
    ap (λ (x : List ℕ). x ++ more) (text_is p) ∙ ap (λ (x : List ℕ). new_record ++ x) (append_assoc (flat_map change_record a) (end_record v) more) in
    let same = all_are_read a b (end_record v ++ more) w p.told.within_image q.told.within_image
    (λ change after begins. end_is_no_change v more change after begins.record_is)
    (same_behind 100 (flat_map change_record a ++ (end_record v ++ more)) (records_of b w) (sym longer ∙ text_is q)) in
    nil_from_length more (omega (arith, ap length same.1, length-append (end_record v) more))

pub closed_gate_is_discarded : ClosedGateIsDiscarded
closed_gate_is_discarded log closed changes version committed = closed (ap (λ (x : List ℕ). slice_index x 3) committed.begins)
