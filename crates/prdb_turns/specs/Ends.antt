-- What a change within a call leaves.
use Rattle.std.specs.Prelude.{ℕ, ◌≡◌, List, Option, Some, IfSome}
use Rattle.prdb_layout.specs.Registry.{Registry}
use Rattle.prdb_lists.specs.Members.{Members}
use Rattle.prdb_finds.specs.Records.{Holds}

-- where the bytes hold a registry and pairs of which the change may be made, those behind them are these
abbrev pub Leaves : Option (List ℕ) → (Registry → Members → Type 0) → (Registry → List ℕ → List ℕ) → Option (List ℕ) → Type 0
Leaves bytes may after behind =
    IfSome bytes (λ image. (r : Registry) (m : Members) → Holds image r m → may r m → behind ≡ Some (after r image))
