-- Whether a block is that of a name or of an id, and an id that no block has.
use Rattle.std.proofs.Common.{◌≡◌, ℕ, ℤ, Bool, true, false, eqb, List, Option, Some, None, refl, ap, ◌∙◌}
use Rattle.std.specs.Ordering.{int_eq}
use Rattle.std.specs.Str.{bytes_eq}
use Rattle.std.proofs.lemmas.Bool.{and_parts, and_from, eqb-true, eq-eqb}
use Rattle.std.proofs.lemmas.Bool.Decides.{Decides-int_eq}
use Rattle.std.proofs.lemmas.Slice.Eq.{bytes_eq-Decides}
use Rattle.db_blocks.specs.Blocks.{kind_of}
use Rattle.db_blocks.proofs.FoundBlocks.{none_meets}
use Rattle.prdb_layout.specs.Blocks.{block_count, block_name}
use Rattle.prdb_layout.specs.Records.{IsLaidOut, block_in, entry_in, first_block, has_id, has_name}
use Rattle.prdb_layout.specs.Registry.{Registry, IsRegistry}
use Rattle.prdb_layout.specs.State.{PrEntry}

-- ---- by name

pub name_parts : (name block : List ℕ) → has_name name block ≡ true → (kind_of block ≡ 1) × (block_name block ≡ name)
name_parts name block e =
    let p = and_parts (eqb (kind_of block) 1) (bytes_eq (block_name block) name) e in
    (eqb-true (kind_of block) 1 p.0, (bytes_eq-Decides (block_name block) name).0 p.1)

pub name_from : (name block : List ℕ) → kind_of block ≡ 1 → block_name block ≡ name → has_name name block ≡ true
name_from name block kind same =
    and_from (eqb (kind_of block) 1) (bytes_eq (block_name block) name) (eq-eqb (kind_of block) 1 kind)
    ((bytes_eq-Decides (block_name block) name).1 same)

pub id_parts : (id : ℤ) (block : List ℕ) → has_id id block ≡ true → (kind_of block ≡ 1) × ((entry_in block).id ≡ id)
id_parts id block e =
    let p = and_parts (eqb (kind_of block) 1) (int_eq (entry_in block).id id) e in
    (eqb-true (kind_of block) 1 p.0, (Decides-int_eq (entry_in block).id id).0 p.1)

pub id_from : (id : ℤ) (block : List ℕ) → kind_of block ≡ 1 → (entry_in block).id ≡ id → has_id id block ≡ true
id_from id block kind same =
    and_from (eqb (kind_of block) 1) (int_eq (entry_in block).id id) (eq-eqb (kind_of block) 1 kind)
    ((Decides-int_eq (entry_in block).id id).1 same)

is_false : (b : Bool) → b ≡ true → b ≡ false → ⊥
is_false b t f = cc

none_if : {X : Type 0} (o : Option X) → ((x : X) → o ≡ Some x → ⊥) → None ≡ o
none_if None never = refl
none_if (Some x) never = absurd (never x refl)

-- no block has an id that is no entry's
pub id_absent : (image : List ℕ) (r : Registry) (id : ℤ) → IsLaidOut image r → IsRegistry r
    → first_block (has_id id) image ≡ block_count image
    → None ≡ r.entry id
id_absent image r id laid valid is = none_if (r.entry id) (λ e at.
    let o = laid.only id e at in
    is_false (has_id id (block_in image o.0))
    (id_from id (block_in image o.0) o.2 (ap (λ (x : PrEntry). x.id) o.3 ∙ valid.ids id e at))
    (none_meets 2112 (has_id id) image o.0 is o.1))
