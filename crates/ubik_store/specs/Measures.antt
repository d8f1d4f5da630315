-- What changes over an image are measured by (own).
use Rattle.std.specs.Prelude.{◌≡◌, ℕ, ◌+◌, ◌-◌, List, length, Some}
use Rattle.ubik_types.specs.declared.images.Change.{Change}
use Rattle.ubik_types.specs.declared.images.Change.TheVariants.{Put, Cut}
use Rattle.ubik_types.specs.Logged.{passed_limit, too_large}
use Rattle.ubik_store.specs.declared.faults.StoreFault.{StoreFault}
use Rattle.ubik_store.specs.declared.faults.StoreFault.TheVariants.{DiskFault, BadLabel, TooLarge, NotNewer, NoMemory}

-- how many bytes are put in all after a change, over an image of `len` bytes: a gap is put too
abbrev pub sum_after : (sum len : ℕ) → Change → ℕ
sum_after sum len (Put at bytes) = sum + (at - len) + length bytes
sum_after sum len (Cut to) = sum

-- so many bytes put, or an image that ends there, pass a limit by this number
abbrev pub IsPassed : (sum end : ℕ) → StoreFault → Type 0
IsPassed sum end DiskFault = ⊥
IsPassed sum end (BadLabel len head) = ⊥
IsPassed sum end (TooLarge bytes) = passed_limit sum end ≡ Some bytes
IsPassed sum end (NotNewer own given) = ⊥
IsPassed sum end NoMemory = ⊥

-- changes are refused by the number of bytes with which the first put that passes a limit does
abbrev pub AreTooLarge : (sum len : ℕ) → List Change → StoreFault → Type 0
AreTooLarge sum len changes DiskFault = ⊥
AreTooLarge sum len changes (BadLabel bytes head) = ⊥
AreTooLarge sum len changes (TooLarge bytes) = too_large sum len changes ≡ Some bytes
AreTooLarge sum len changes (NotNewer own given) = ⊥
AreTooLarge sum len changes NoMemory = ⊥
