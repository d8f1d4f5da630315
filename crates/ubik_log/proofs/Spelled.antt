-- A log by the cases of its grammar is one that is spelled record after record.
use Rattle.std.proofs.Common.{◌≡◌, ℕ, List, [], ◌∷◌, ◌++◌, length, refl, sym, ap, ◌∙◌, append_assoc}
use Rattle.std.specs.List.{flat_map}
use Rattle.std.proofs.lemmas.List.Concat.{flat_map-cons}
use Rattle.ubik_types.specs.declared.images.Change.{Change}
use Rattle.ubik_types.specs.declared.images.Change.TheVariants.{Put, Cut}
use Rattle.ubik_types.specs.declared.versions.Version.{Version}
use Rattle.ubik_log.specs.LogGrammar.{field, new_record, AreRecords, IsTold, IsCommitted}
use Rattle.ubik_log.specs.Records.{change_record, end_record}

-- the records of these changes under this version
abbrev pub records_of : List Change → Version → List ℕ
records_of changes version = flat_map change_record changes ++ end_record version

pub first_record : (change : Change) (others : List Change) (tail : List ℕ) → flat_map change_record (change ∷ others) ++ tail ≡ change_record change ++ (flat_map change_record others ++ tail)
first_record change others tail =
    ap (λ (x : List ℕ). x ++ tail) (flat_map-cons change_record change others) ∙ append_assoc (change_record change) (flat_map change_record others) tail

pub spelled : {bytes : List ℕ} {changes : List Change} {version : Version} → AreRecords bytes changes version → bytes ≡ records_of changes version
spelled (AreRecords.ends bytes version is) = is
spelled (AreRecords.puts bytes at len laid rest others version is long more) =
    is ∙ ap (λ (n : ℕ). field 103 ++ field 0 ++ field at ++ field n ++ laid ++ rest) (sym long)
    ∙ ap (λ (x : List ℕ). change_record (Put at laid) ++ x) (spelled more) ∙ sym (first_record (Put at laid) others (end_record version))
spelled (AreRecords.cuts bytes len rest others version is more) =
    is ∙ ap (λ (x : List ℕ). change_record (Cut len) ++ x) (spelled more) ∙ sym (first_record (Cut len) others (end_record version))

-- what is spelled so falls under those cases
are_records : (bytes : List ℕ) (changes : List Change) (version : Version) → bytes ≡ records_of changes version → AreRecords bytes changes version
are_records bytes [] version is = AreRecords.ends bytes version is
are_records bytes (Put at laid ∷ others) version is =
    AreRecords.puts bytes at (length laid) laid (records_of others version) others version (is ∙ first_record (Put at laid) others (end_record version)) refl
    (are_records (records_of others version) others version refl)
are_records bytes (Cut len ∷ others) version is =
    AreRecords.cuts bytes len (records_of others version) others version (is ∙ first_record (Cut len) others (end_record version))
    (are_records (records_of others version) others version refl)

pub text_is : {log : List ℕ} {changes : List Change} {version : Version} → IsCommitted log changes version → log ≡ new_record ++ records_of changes version
text_is committed = committed.begins ∙ ap (λ (x : List ℕ). new_record ++ x) (spelled committed.are_records)

pub is_committed : (log : List ℕ) (changes : List Change) (version : Version) → IsTold changes version → log ≡ new_record ++ records_of changes version → IsCommitted log changes version
is_committed log changes version told is = record {
  told = told;
  rest = records_of changes version;
  begins = is;
  are_records = are_records (records_of changes version) changes version refl;
}
