-- An image tells the database that it holds.
use Rattle.std.proofs.Common.{◌≡◌, ◌≢◌, ℕ, ◌+◌, ◌<◌, ◌≤◌, Bool, true, false, not, ◌&&◌, ◌||◌, cond, eqb, List, Option, Some, None, refl, sym, ap, subst, ◌∙◌, ⊎_elim, arith}
use mathlib.Core.Path.{fun_ext}
use Rattle.std.proofs.lemmas.Bool.{cases_Bool, cases_eq, eq-eqb, eqb-true, ne_eqb}
use Rattle.db_blocks.proofs.FirstBlocks.{first_within}
use Rattle.db_blocks.proofs.FoundBlocks.{found_meets, none_meets}
use Rattle.vldb_entries.specs.declared.entries.VlEntry.{VlEntry}
use Rattle.vldb_entries.specs.Forms.{addresses_in, block_at, blocks_in, entry_in, has_id_in, whole}
use Rattle.vldb_entries.specs.Location.{Location, IsLocation, IsOfId, has_id}
use Rattle.vldb_entries.proofs.EntryAgain.{not_zero}
use Rattle.vldb_records.specs.Records.{Holds}
use Rattle.vldb_records.proofs.Fields.{block_len}
use Rattle.vldb_records.proofs.HeadTold.{laid_addresses, laid_next}
use Rattle.vldb_records.proofs.Lookups.{id_again, id_kind, is_there}
use Rattle.vl_service.specs.Told.{block_of_id, entry_at, location_in, own_entry}

-- ---- an entry

own : (a b c : ℕ) → 0 < a → (not (eqb a 0) && (eqb a a || eqb b a || eqb c a)) ≡ true
own a b c low = let z = not_zero a low in let t = eq-eqb a a refl in rw (z, t) refl

-- the entry under an id has it
own_id : (s : Location) (id : ℕ) (f : VlEntry) → IsLocation s → s.entry id ≡ Some f → has_id id f ≡ true
own_id s id f valid at =
    subst (λ (n : ℕ). has_id n f ≡ true) (valid.ids id f at) (own f.rw f.ro f.backup (valid.records id f at).rw_low)

none_under : (s : Location) (id : ℕ) (o : Option VlEntry) → IsLocation s → s.entry id ≡ o → ((f : VlEntry) → s.entry id ≡ Some f → ⊥)
    → o ≡ None
none_under s id None valid at never = refl
none_under s id (Some f) valid at never = absurd (never f at)

absent : (s : Location) (id : ℕ) → IsLocation s → IsOfId s id None → s.entry id ≡ None
absent s id valid none =
    none_under s id (s.entry id) valid refl (λ f at. let has = own_id s id f valid at in let hasnt = none id f at in absurd cc)

own_is : (s : Location) (id : ℕ) (e : VlEntry) → IsLocation s → IsOfId s id (Some e) → s.entry id ≡ own_entry id e
own_is s id e valid is =
    ⊎_elim
    (λ (same : eqb e.rw id ≡ true).
    ap s.entry (sym (eqb-true e.rw id same)) ∙ is.0 ∙ sym (ap (λ (b : Bool). cond b (Some e) None) same))
    (λ (other : eqb e.rw id ≡ false).
    none_under s id (s.entry id) valid refl
    (λ f at. let same = valid.apart id e.rw id f e at is.0 (own_id s id f valid at) is.1 in let met = eq-eqb e.rw id
    (sym same) in absurd cc)
    ∙ sym (ap (λ (b : Bool). cond b (Some e) None) other))
    (cases_Bool (eqb e.rw id))

-- the first block that has an id is that of the entry which has it
first_has : (image : List ℕ) (s : Location) (id : ℕ) → Holds image s → block_of_id id (whole image) < blocks_in (whole image)
    → IsOfId s id (Some (entry_in (addresses_in (whole image)) (block_at (whole image) (block_of_id id (whole image)))))
first_has image s id holds below =
    let old = whole image in
    let k = block_of_id id old in
    let block = block_at old k in
    let met : has_id_in id block ≡ true = found_meets 3132 (has_id_in id) old (record { number = k; block = block }) (below, refl, refl) in
    let e = entry_in (addresses_in old) block in
    let t = is_there image s k block e holds below refl (id_kind id block met) refl in
    (t.there, sym (id_again s id e.rw e image block holds t.there t.size t.block) ∙ met)

-- where no block has it, none does
none_has : (image : List ℕ) (s : Location) (id : ℕ) → Holds image s → block_of_id id (whole image) ≡ blocks_in (whole image)
    → IsOfId s id None
none_has image s id holds last = λ rw_id e at.
    let old = whole image in
    let o = holds.laid.only rw_id e at in
    sym (id_again s id rw_id e image (block_at old o.0) holds at (block_len old o.0 holds.laid.size o.1) o.2.1)
    ∙ none_meets 3132 (has_id_in id) old o.0 last o.1

entry_told : (image : List ℕ) (s : Location) → Holds image s → (id : ℕ) → s.entry id ≡ entry_at (whole image) id
entry_told image s holds id =
    let old = whole image in
    let k = block_of_id id old in
    let n = blocks_in old in
    let within : k ≤ 0 + n = first_within (λ j. has_id_in id (block_at old j)) 0 n in
    let e = entry_in (addresses_in old) (block_at old k) in
    ⊎_elim
    (λ (last : k ≡ n).
    absent s id holds.valid (none_has image s id holds last)
    ∙ sym (ap (λ (b : Bool). cond b None (own_entry id e)) (eq-eqb k n last)))
    (λ (other : k ≢ n).
    own_is s id e holds.valid (first_has image s id holds (omega (arith, within, other)))
    ∙ sym (ap (λ (b : Bool). cond b None (own_entry id e)) (ne_eqb k n other)))
    (cases_eq k n)

pub location_told : (image : List ℕ) (s : Location) → Holds image s → s ≡ location_in (whole image)
unfolding location_in
location_told image s holds =
    let old = whole image in
    ap (λ (f : ℕ → Option VlEntry). record s { entry = f }) (fun_ext (entry_told image s holds))
    ∙ ap (λ (a : List ℕ). record s { entry = entry_at old; addresses = a }) (sym (laid_addresses image s holds))
    ∙ ap (λ (next : ℕ). record s { entry = entry_at old; addresses = addresses_in old; next_volume = next })
    (sym (laid_next image s holds))
