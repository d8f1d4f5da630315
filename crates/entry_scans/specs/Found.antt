-- Which entries of a registry meet a test (own).
use Rattle.std.specs.Prelude.{ℤ, ◌≡◌, Bool, true, false, Some}
use Rattle.prdb_layout.specs.Registry.{Registry}
use Rattle.prdb_layout.specs.State.{PrEntry}

-- the entry of this id meets the test
abbrev pub IsMetAt : (PrEntry → Bool) → Registry → ℤ → Type 0
IsMetAt test r id = (e : PrEntry) × (r.entry id ≡ Some e) × (test e ≡ true)

-- whether an entry meets the test
abbrev pub TellsWhether : (PrEntry → Bool) → Registry → Bool → Type 0
TellsWhether test r true = (id : ℤ) × IsMetAt test r id
TellsWhether test r false = (id : ℤ) (e : PrEntry) → r.entry id ≡ Some e → test e ≡ false
