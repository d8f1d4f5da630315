-- An image tells the registry that it holds.
use Rattle.std.proofs.Common.{◌≡◌, ℕ, ℤ, ◌+◌, ◌<◌, ◌≤◌, Bool, cond, List, Option, Some, None, sym, ap, ◌∙◌, ⊎_elim, arith}
use mathlib.Core.Path.{fun_ext}
use Rattle.std.proofs.lemmas.Bool.{cases_eq, eq-eqb, ne_eqb}
use Rattle.db_blocks.proofs.FirstBlocks.{first_met, first_within}
use Rattle.prdb_layout.specs.Blocks.{block_count}
use Rattle.prdb_layout.specs.Records.{Holds, IsLaidOut, block_in, entry_at, entry_in, first_block, has_id, registry_in, whole}
use Rattle.prdb_layout.specs.Registry.{Registry, IsRegistry}
use Rattle.prdb_layout.specs.State.{PrEntry}
use Rattle.prdb_layout.proofs.Held.{maxima_of}
use Rattle.prdb_layout.proofs.Lookups.{id_absent, id_parts}

entry_told : (image : List ℕ) (r : Registry) → IsLaidOut image r → IsRegistry r → (id : ℤ) → r.entry id ≡ entry_at image id
entry_told image r laid valid id =
    let k = first_block (has_id id) image in
    let n = block_count image in
    let within : k ≤ 0 + n = first_within (λ j. has_id id (block_in image j)) 0 n in
    ⊎_elim
    (λ (last : k ≡ n). sym (id_absent image r id laid valid last)
    ∙ sym (ap (λ (b : Bool). cond b None (Some (entry_in (block_in image k)))) (eq-eqb k n last)))
    (λ (other : k ≡ n → ⊥).
    let below : k < n = omega arith in
    let p = id_parts id (block_in image k) (first_met (λ j. has_id id (block_in image j)) 0 n (omega arith)) in
    ap r.entry (sym p.1) ∙ laid.there k below p.0
    ∙ sym (ap (λ (b : Bool). cond b None (Some (entry_in (block_in image k)))) (ne_eqb k n other)))
    (cases_eq k n)

pub registry_told : (image : List ℕ) (r : Registry) → Holds image r → r ≡ registry_in (whole image)
unfolding registry_in
registry_told image r holds =
    let max = maxima_of (whole image) r holds.laid holds.valid.maxima in
    ap (λ (f : ℤ → Option PrEntry). record r { entry = f }) (fun_ext (entry_told (whole image) r holds.laid holds.valid))
    ∙ ap (λ (m : ℤ × ℤ). record r { entry = entry_at (whole image); max_user = m.0; max_group = m.1 }) (sym max)
