-- What a walk along a chain found is what the registry has.
use Rattle.std.proofs.Common.{◌≡◌, ℕ, ℤ, zero, suc, ◌+◌, ◌-◌, ◌<◌, Bool, true, false, cond, List, [], ◌∷◌, Option, Some, None, IfSome, Result, Ok, Err, IfOk, length, get_or, refl, sym, ap, subst, ◌∙◌, arith}
use Rattle.std.specs.List.{Contains}
use Rattle.std.specs.Option.{option_map}
use Rattle.db_image.specs.declared.faults.RecordFault.{RecordFault}
use Rattle.db_image.specs.declared.faults.RecordFault.TheVariants.{DiskFault, BadRecord, NoMemory}
use Rattle.db_blocks.specs.Blocks.{IsWhole, block_in as any_block, kind_of}
use Rattle.db_blocks.specs.Ends.{HasCause}
use Rattle.db_chains.specs.declared.links.Links.{Links}
use Rattle.db_chains.specs.Chains.{HasChain}
use Rattle.db_chains.specs.Ends.{HasSome}
use Rattle.db_chains.specs.Links.{block_of}
use Rattle.db_chains.specs.Walks.{first_met, meets}
use Rattle.db_chains.proofs.Words.{right_names}
use Rattle.db_chains.specs.Keys.{name_key}
use Rattle.prdb_layout.specs.Blocks.{block_count, block_name}
use Rattle.prdb_layout.specs.RecordEnds.{seen}
use Rattle.prdb_layout.specs.Records.{block_in, entry_in, has_id, has_name}
use Rattle.prdb_layout.specs.Registry.{IsNamed, Registry, first_registry}
use Rattle.prdb_layout.specs.State.{PrEntry}
use Rattle.prdb_layout.specs.declared.records.PrEntry.{PrEntry as CodeEntry}
use Rattle.prdb_layout.proofs.Lookups.{id_from, id_parts, name_from, name_parts}
use Rattle.prdb_lists.specs.Members.{Members, no_members}
use Rattle.prdb_finds.specs.Ends.{HoldsSome}
use Rattle.prdb_finds.specs.Keys.{id_chain, id_key, name_chain}
use Rattle.prdb_finds.specs.Places.{id_links, name_links}
use Rattle.prdb_finds.specs.Records.{Holds, whole}
use Rattle.prdb_finds.specs.Sought.{IsRead}
use Rattle.prdb_finds.proofs.FirstHolds.{empty_holds}
use Rattle.prdb_finds.proofs.Told.{told_only, told_there, whole_same}

-- ---- what a chain has

cond_none : (b : Bool) (v : ℕ) (rest : Option ℕ) → cond b (Some v) rest ≡ None → (b ≡ false) × (rest ≡ None)
cond_none true v rest none = absurd cc
cond_none false v rest none = (refl, none)

pub none_met : (test : ℕ → Bool) (ws : List ℕ) (w i : ℕ) → first_met test ws ≡ None → i < length ws → get_or ws i w ≡ w → test w ≡ false
none_met test [] w i none below at = absurd (omega arith)
none_met test (v ∷ ws) w zero none below at = ap test (sym at) ∙ (cond_none (test v) v (first_met test ws) none).0
none_met test (v ∷ ws) w (suc i) none below at =
    none_met test ws w i (cond_none (test v) v (first_met test ws) none).1 (omega arith) at

pub is_false : (b : Bool) → b ≡ true → b ≡ false → ⊥
is_false b t f = cc

-- a word of a chain without what is looked for does not meet the test
pub not_met : (l : Links) (test : ℕ → List ℕ → Bool) (image : List ℕ) (at w k : ℕ) (ws : List ℕ) → IsRead l test at image None
    → HasChain l image at ws → Contains ws w → block_of l w ≡ k → test w (any_block l.head image k) ≡ false
not_met l test image at w k ws none chain has is =
    ap (λ (j : ℕ). test w (any_block l.head image j)) (sym is) ∙ none_met (meets l test image) ws w has.0 (none ws chain) has.1 has.2

-- a block is the same, however it is named
pub same_block : (image : List ℕ) (k : ℕ) → any_block 2112 image k ≡ block_in image k
same_block image k = refl

-- ---- by name

name_some : (image : List ℕ) (r : Registry) (m : Members) (name : List ℕ) (e : PrEntry) → Holds image r m
    → IsRead name_links (λ w block. has_name name block) (name_chain name) (whole image) (Some e) → IsNamed r name (Some e)
name_some image r m name e holds is =
    let old = whole image in
    let f = is.0 in
    let n = right_names name_links old f.word is.1.0 in
    let k = block_of name_links f.word in
    let here : f.block ≡ block_in old k = is.1.1 in
    let below : k < block_count old = omega (arith, n.some, n.block) in
    let p = name_parts name (block_in old k) (ap (has_name name) (sym here) ∙ is.1.2) in
    let same : e ≡ entry_in (block_in old k) = is.2 ∙ ap entry_in here in (
      subst (λ (x : PrEntry). r.entry x.id ≡ Some x) (sym same) (told_there image r m k holds below p.0),
      ap (λ (x : PrEntry). x.name) same ∙ p.1,
    )

name_none : (image : List ℕ) (r : Registry) (m : Members) (name : List ℕ) → Holds image r m
    → IsRead name_links (λ w block. has_name name block) (name_chain name) (whole image) None → IsNamed r name None
name_none image r m name holds none = λ id e at same.
    let old = whole image in
    let o = told_only image r m id e holds at in
    let v = holds.chains.names (name_key name) (omega arith) in
    let back : o.0 + 1 - 1 ≡ o.0 = omega arith in
    let has = v.each (o.0 + 1) (record {
      some = omega arith;
      within = omega (arith, o.1);
      kind = ap (λ (j : ℕ). kind_of (block_in old j)) back ∙ o.2;
      belongs = ap (λ (j : ℕ). name_key (entry_in (block_in old j)).name) back ∙ ap (λ (x : PrEntry). name_key x.name) o.3
          ∙ ap name_key same;
    }) in
    let fails = not_met name_links (λ w block. has_name name block) old (name_chain name) (o.0 + 1) o.0 v.words none v.chain has
    (omega arith) in
    let named : block_name (block_in old o.0) ≡ name = ap (λ (x : PrEntry). x.name) o.3 ∙ same in
    is_false (has_name name (block_in old o.0)) (name_from name (block_in old o.0) o.2 named)
    fails

named : (bytes : Option (List ℕ)) (name : List ℕ) (found : Option PrEntry)
    → IfSome bytes (λ image. IsRead name_links (λ w block. has_name name block) (name_chain name) (whole image) found)
    → IfSome bytes (λ image. (r : Registry) (m : Members) → Holds image r m → IsNamed r name found)
named None name found is = tt
named (Some image) name None is = λ r m holds. name_none image r m name holds is
named (Some image) name (Some e) is = λ r m holds. name_some image r m name e holds is

pub ok_named : (res : Result (Option CodeEntry) RecordFault) (bytes : Option (List ℕ)) (name : List ℕ)
    → IfOk res (λ found. IfSome bytes (λ image. IsRead name_links (λ w block. has_name name block) (name_chain name) (whole image)
    (option_map seen found)))
    → IfOk res (λ found. IfSome bytes (λ image. (r : Registry) (m : Members) → Holds image r m → IsNamed r name (option_map seen found)))
ok_named (Err fault) bytes name is = tt
ok_named (Ok found) bytes name is = named bytes name (option_map seen found) is

-- ---- by id

id_some : (image : List ℕ) (r : Registry) (m : Members) (id : ℤ) (e : PrEntry) → Holds image r m
    → IsRead id_links (λ w block. has_id id block) (id_chain id) (whole image) (Some e) → Some e ≡ r.entry id
id_some image r m id e holds is =
    let old = whole image in
    let f = is.0 in
    let n = right_names id_links old f.word is.1.0 in
    let k = block_of id_links f.word in
    let here : f.block ≡ block_in old k = is.1.1 in
    let below : k < block_count old = omega (arith, n.some, n.block) in
    let p = id_parts id (block_in old k) (ap (has_id id) (sym here) ∙ is.1.2) in
    let same : e ≡ entry_in (block_in old k) = is.2 ∙ ap entry_in here in
    ap Some same ∙ sym (told_there image r m k holds below p.0) ∙ ap r.entry p.1

none_if : (o : Option PrEntry) → ((e : PrEntry) → o ≡ Some e → ⊥) → None ≡ o
none_if None never = refl
none_if (Some e) never = absurd (never e refl)

id_none : (image : List ℕ) (r : Registry) (m : Members) (id : ℤ) → Holds image r m
    → IsRead id_links (λ w block. has_id id block) (id_chain id) (whole image) None → None ≡ r.entry id
id_none image r m id holds none = none_if (r.entry id) (λ e at.
    let old = whole image in
    let o = told_only image r m id e holds at in
    let own : e.id ≡ id = holds.pairs.holds.valid.ids id e at in
    let v = holds.chains.ids (id_key id) (omega arith) in
    let back : o.0 + 1 - 1 ≡ o.0 = omega arith in
    let has = v.each (o.0 + 1) (record {
      some = omega arith;
      within = omega (arith, o.1);
      kind = ap (λ (j : ℕ). kind_of (block_in old j)) back ∙ o.2;
      belongs = ap (λ (j : ℕ). id_key (entry_in (block_in old j)).id) back ∙ ap (λ (x : PrEntry). id_key x.id) o.3 ∙ ap id_key own;
    }) in
    let fails = not_met id_links (λ w block. has_id id block) old (id_chain id) (o.0 + 1) o.0 v.words none v.chain has (omega arith) in
    is_false (has_id id (block_in old o.0)) (id_from id (block_in old o.0) o.2 (ap (λ (x : PrEntry). x.id) o.3 ∙ own))
    fails)

pub of_id : (bytes : Option (List ℕ)) (id : ℤ) (found : Option PrEntry)
    → IfSome bytes (λ image. IsRead id_links (λ w block. has_id id block) (id_chain id) (whole image) found)
    → IfSome bytes (λ image. (r : Registry) (m : Members) → Holds image r m → found ≡ r.entry id)
of_id None id found is = tt
of_id (Some image) id None is = λ r m holds. id_none image r m id holds is
of_id (Some image) id (Some e) is = λ r m holds. id_some image r m id e holds is

pub ok_of_id : (res : Result (Option CodeEntry) RecordFault) (bytes : Option (List ℕ)) (id : ℤ)
    → IfOk res (λ found. IfSome bytes (λ image. IsRead id_links (λ w block. has_id id block) (id_chain id) (whole image)
    (option_map seen found)))
    → IfOk res (λ found. IfSome bytes (λ image. (r : Registry) (m : Members) → Holds image r m → option_map seen found ≡ r.entry id))
ok_of_id (Err fault) bytes id is = tt
ok_of_id (Ok found) bytes id is = of_id bytes id (option_map seen found) is

-- ---- a fault

-- an image that holds a registry has the chain of each name and of each id
name_there : (image : List ℕ) (r : Registry) (m : Members) (name : List ℕ) → Holds image r m
    → HasSome name_links (name_chain name) (whole image)
name_there image r m name holds =
    let v = holds.chains.names (name_key name) (omega arith) in (holds.size, (v.words, v.chain))

id_there : (image : List ℕ) (r : Registry) (m : Members) (id : ℤ) → Holds image r m → HasSome id_links (id_chain id) (whole image)
id_there image r m id holds = let v = holds.chains.ids (id_key id) (omega arith) in (holds.size, (v.words, v.chain))

-- so has the first one
pub name_first : (name : List ℕ) → HasSome name_links (name_chain name) (whole [])
name_first name = name_there [] first_registry no_members name empty_holds

pub id_first : (id : ℤ) → HasSome id_links (id_chain id) (whole [])
id_first id = id_there [] first_registry no_members id empty_holds

pub name_cause : (bytes : Option (List ℕ)) (name : List ℕ) (fault : RecordFault)
    → HasCause bytes (λ image. HasSome name_links (name_chain name) (whole image)) fault → HasCause bytes HoldsSome fault
name_cause bytes name DiskFault cause = tt
name_cause bytes name NoMemory cause = tt
name_cause None name (BadRecord at) cause = tt
name_cause (Some image) name (BadRecord at) cause = λ held. cause (name_there image held.0 held.1 name held.2)

pub id_cause : (bytes : Option (List ℕ)) (id : ℤ) (fault : RecordFault)
    → HasCause bytes (λ image. HasSome id_links (id_chain id) (whole image)) fault → HasCause bytes HoldsSome fault
id_cause bytes id DiskFault cause = tt
id_cause bytes id NoMemory cause = tt
id_cause None id (BadRecord at) cause = tt
id_cause (Some image) id (BadRecord at) cause = λ held. cause (id_there image held.0 held.1 id held.2)

-- the same where the image is not empty
pub whole_now : (image : List ℕ) (r : Registry) (m : Members) → Holds image r m → 0 < length image → IsWhole 2112 image
whole_now image r m holds some = subst (λ (i : List ℕ). IsWhole 2112 i) (whole_same image some) holds.size

pub id_fault : (bytes : Option (List ℕ)) (len : ℕ) (id : ℤ) (fault : RecordFault) → IfSome bytes (λ image. length image ≡ len)
    → 0 < len → HasCause bytes (HasSome id_links (id_chain id)) fault → HasCause bytes HoldsSome fault
id_fault bytes len id DiskFault told some cause = tt
id_fault bytes len id NoMemory told some cause = tt
id_fault None len id (BadRecord at) told some cause = tt
id_fault (Some image) len id (BadRecord at) told some cause = λ held.
    let v = held.2.chains.ids (id_key id) (omega arith) in
    let more : 0 < length image = omega arith in
    cause (
      whole_now image held.0 held.1 held.2 more,
      (v.words, subst (λ (i : List ℕ). HasChain id_links i (id_chain id) v.words) (whole_same image more) v.chain),
    )
