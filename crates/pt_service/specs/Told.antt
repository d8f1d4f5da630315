-- What is said of the registry that an image holds, where the image tells its bytes.
use Rattle.std.specs.Prelude.{ℕ, ◌≡◌, true, List, Option, IfSome}
use Rattle.db_image.specs.declared.draft_services.CallEnd.{CallEnd}
use Rattle.prdb_layout.specs.RecordEnds.{seen}
use Rattle.prdb_layout.specs.Registry.{Registry}
use Rattle.prdb_layout.specs.declared.records.PrEntry.{PrEntry}
use Rattle.prdb_lists.specs.Members.{Members}
use Rattle.prdb_finds.specs.Records.{Holds}
use Rattle.pt_service.specs.Fitting.{entry_fits}
use Rattle.pt_service.specs.Meaning.{Verdict}
use Rattle.pt_service.specs.Standing.{IsDone}

-- of each registry that the bytes may hold, with whatever pairs
abbrev pub Told : Option (List ℕ) → (Registry → Type 0) → Type 0
Told bytes P = IfSome bytes (λ image. (r : Registry) (m : Members) → Holds image r m → P r)

-- a call over these bytes ended as this says of the registry, and left those behind
abbrev pub IsMeant : Option (List ℕ) → (Registry → Verdict) → CallEnd → Option (List ℕ) → Type 0
IsMeant bytes v ended after = IfSome bytes (λ image. (r : Registry) (m : Members) → Holds image r m → IsDone (v r) image ended after)

-- an entry that was found is one that a database may hold
abbrev pub IsGood : Option PrEntry → Type 0
IsGood found = IfSome found (λ e. entry_fits (seen e) ≡ true)
