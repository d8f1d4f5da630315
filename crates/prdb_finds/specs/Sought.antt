-- What a walk along a chain looks for, and what it finds.
use Rattle.std.specs.Prelude.{ℕ, ◌≡◌, Bool, List, Option, Some, None}
use Rattle.db_chains.specs.Sought.{IsInChain}
use Rattle.db_chains.specs.declared.links.Links.{Links}
use Rattle.db_chains.specs.declared.walks.Link.{Link}
use Rattle.prdb_layout.specs.Records.{entry_in, has_id, has_name}
use Rattle.prdb_layout.specs.State.{PrEntry}
use Rattle.prdb_finds.specs.declared.sought.Sought.{Sought}
use Rattle.prdb_finds.specs.declared.sought.Sought.TheVariants as sought

abbrev pub is_sought : Sought → ℕ → List ℕ → Bool
is_sought (sought.Name name) w block = has_name name.now block
is_sought (sought.Id id) w block = has_id id block

-- the entry that stands in the block which a walk found
abbrev pub IsRead : Links → (ℕ → List ℕ → Bool) → (at : ℕ) → List ℕ → Option PrEntry → Type 0
IsRead l test at image None = IsInChain l test at image None
IsRead l test at image (Some e) = (f : Link) × IsInChain l test at image (Some f) × (e ≡ entry_in f.block)
