-- Whether a block is that of an entry which meets a test.
use Rattle.std.proofs.Common.{◌≡◌, ℕ, Bool, true, eqb, List}
use Rattle.std.proofs.lemmas.Bool.{and_parts, and_from, eqb-true, eq-eqb}
use Rattle.db_blocks.specs.Blocks.{kind_of}
use Rattle.prdb_layout.specs.Records.{entry_in}
use Rattle.prdb_layout.specs.State.{PrEntry}
use Rattle.entry_scans.specs.Sought.{is_sought}

pub sought_parts : (test : PrEntry → Bool) (block : List ℕ) → is_sought test block ≡ true
    → (kind_of block ≡ 1) × (test (entry_in block) ≡ true)
sought_parts test block met =
    let p = and_parts (eqb (kind_of block) 1) (test (entry_in block)) met in (eqb-true (kind_of block) 1 p.0, p.1)

pub sought_from : (test : PrEntry → Bool) (block : List ℕ) → kind_of block ≡ 1 → test (entry_in block) ≡ true → is_sought test block ≡ true
sought_from test block kind met = and_from (eqb (kind_of block) 1) (test (entry_in block)) (eq-eqb (kind_of block) 1 kind) met
