-- What is said of a whole log, once its changes are read.
use Rattle.std.proofs.Common.{◌≡◌, ◌≢◌, ℕ, List, ◌++◌, ap, sym, ◌∙◌}
use Rattle.std.specs.List.{All, flat_map}
use Rattle.ubik_types.specs.declared.images.Change.{Change}
use Rattle.ubik_types.specs.declared.versions.Version.{Version}
use Rattle.ubik_types.specs.Version.{IsVersion}
use Rattle.ubik_log.specs.LogGrammar.{new_record, IsWithinImage, IsCommitted, IsDiscarded}
use Rattle.ubik_log.specs.Records.{change_record, end_record}
use Rattle.ubik_log.proofs.Spelled.{records_of, is_committed, text_is}
use Rattle.ubik_log.proofs.OneReading.{same_behind, all_are_read, BeginsWithNone}

pub all_is_committed : (records rest : List ℕ) (read : List Change) (version : Version) → records ≡ flat_map change_record read ++ rest → All IsWithinImage read
    → IsVersion version → rest ≡ end_record version → IsCommitted (new_record ++ records) read version
all_is_committed records rest read version split within is_version end =
    is_committed (new_record ++ records) read version (record { within_image = within; is_version = is_version })
    (ap (λ (x : List ℕ). new_record ++ x) (split ∙ ap (λ (x : List ℕ). flat_map change_record read ++ x) end))

pub all_is_discarded : (records rest : List ℕ) (read : List Change) → records ≡ flat_map change_record read ++ rest → All IsWithinImage read → BeginsWithNone rest
    → ((version : Version) → IsVersion version → rest ≢ end_record version) → IsDiscarded (new_record ++ records)
all_is_discarded records rest read split within none no_end told version committed =
    let same = all_are_read read told rest version within committed.told.within_image none (sym split ∙ same_behind 100 records (records_of told version) (text_is committed)) in
    no_end version committed.told.is_version same.1
