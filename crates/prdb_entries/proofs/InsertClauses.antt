-- What an insertion says of a draft, where its bytes are told.
use Rattle.std.proofs.Common.{◌≡◌, ℕ, ℤ, ◌+◌, ◌-◌, ◌<◌, ◌≤◌, Bool, true, false, cond, List, Option, Some, None, IfSome, Result, Ok, Err, OnOk, ⊎_elim, max, refl, sym, ap, subst, ◌∙◌, arith}
use Rattle.std.specs.Prelude.{IsSomeAnd}
use Rattle.std.specs.Option.{option_map}
use Rattle.std.proofs.lemmas.Bool.{cases_eq}
use Rattle.db_image.specs.declared.faults.RecordFault.{RecordFault}
use Rattle.db_image.specs.declared.faults.RecordFault.TheVariants.{DiskFault, BadRecord, NoMemory}
use Rattle.db_blocks.specs.Ends.{HasCause}
use Rattle.db_chains.specs.declared.walks.Link.{Link}
use Rattle.db_chains.specs.Chains.{HasChain}
use Rattle.db_chains.specs.Changes.{put_in}
use Rattle.db_chains.specs.Free.{next_number, with_taken}
use Rattle.db_chains.specs.Walks.{IsFound, first_met, meets, stop_place}
use Rattle.prdb_layout.specs.Records.{has_id, new_block}
use Rattle.prdb_layout.specs.Registry.{IsRecord, MayBeAdded, Registry, with_entry}
use Rattle.prdb_layout.specs.State.{PrEntry}
use Rattle.prdb_lists.specs.Members.{Members}
use Rattle.prdb_finds.specs.Ends.{HasCauseWhere}
use Rattle.prdb_finds.specs.Keys.{id_chain}
use Rattle.prdb_finds.specs.Places.{free_blocks, id_links, owned_links, owned_place}
use Rattle.prdb_finds.specs.Records.{Holds, whole}
use Rattle.prdb_finds.specs.Unchained.{unchained}
use Rattle.prdb_finds.proofs.Lookups.{none_met}
use Rattle.prdb_entries.specs.Changes.{after_insert, entered, number_of, owner_first}
use Rattle.prdb_entries.specs.Ends.{HasLink, HasOwner}
use Rattle.prdb_entries.proofs.Inserted.{base_of, holds_inserted, is_new, owner_there}

-- ---- an owner

both : (b : Bool) → b ≡ true → b ≡ false → ⊥
both b t f = cc

-- the chain of the id has not the entry
pub none_fault : (bytes : Option (List ℕ)) (id : ℤ) (at : ℕ) (link : Option Link) → link ≡ None
    → IfSome bytes (λ image. (ws : List ℕ) → HasChain id_links image (id_chain id) ws
    → option_map (λ f. f.word) link ≡ first_met (meets id_links (λ w block. has_id id block) image) ws)
    → HasCause bytes (HasLink id) (BadRecord at)
none_fault None id at link none found = tt
none_fault (Some image) id at link none found = λ has.
    let test = meets id_links (λ w block. has_id id block) image in
    let first : first_met test has.1.0 ≡ None = sym (found has.1.0 has.1.2) ∙ ap (option_map (λ f. f.word)) none in
    let among = has.1.3 in
    both (test has.1.1) has.1.4 (none_met test has.1.0 has.1.1 among.0 first among.1 among.2)

pub number_of_link : (bytes : Option (List ℕ)) (id : ℤ) (link : Option Link) (f : Link) → link ≡ Some f
    → IfSome bytes (λ image. IsFound id_links (λ w block. has_id id block) image
    (stop_place id_links (λ w block. has_id id block) image (id_chain id)) link)
    → IfSome bytes (λ image. f.word ≡ number_of id image)
number_of_link None id link f some found = tt
number_of_link (Some image) id link f some found =
    (subst (IsFound id_links (λ w block. has_id id block) image (stop_place id_links (λ w block. has_id id block) image (id_chain id)))
    some found).0.word

owner_made : (a b c : Option (List ℕ)) (owner : ℤ) (n w : ℕ) → b ≡ a → IfSome a (λ image. w ≡ number_of owner image)
    → c ≡ option_map (put_in owned_links (owned_place (w - 1)) n) b → c ≡ option_map (owner_first owner n) a
owner_made None b c owner n w same number made = made ∙ ap (option_map (put_in owned_links (owned_place (w - 1)) n)) same
owner_made (Some image) b c owner n w same number made =
    made ∙ ap (option_map (put_in owned_links (owned_place (w - 1)) n)) same
    ∙ ap (λ (v : ℕ). Some (put_in owned_links (owned_place (v - 1)) n image)) number

pub owner_ok : {T E : Type 0} (r : Result T E) (a b c : Option (List ℕ)) (owner : ℤ) (n w : ℕ) → b ≡ a
    → IfSome a (λ image. w ≡ number_of owner image)
    → OnOk r (c ≡ option_map (put_in owned_links (owned_place (w - 1)) n) b) → OnOk r (c ≡ option_map (owner_first owner n) a)
owner_ok (Err e) a b c owner n w same number made = tt
owner_ok (Ok x) a b c owner n w same number made = owner_made a b c owner n w same number made

-- ---- the chains of an entry

pub on_true : (b : Bool) (x y : List ℕ) → b ≡ true → x ≡ cond b x y
on_true true x y is = refl
on_true false x y is = absurd cc

pub on_false : (b : Bool) (x y : List ℕ) → b ≡ false → y ≡ cond b x y
on_false true x y is = absurd cc
on_false false x y is = refl

-- ---- an insertion

pub inserted : (a b c d : Option (List ℕ)) (e : PrEntry) (n : ℕ) (block : List ℕ) → block ≡ new_block e → b ≡ option_map whole a
    → IfSome b (λ image. n ≡ next_number free_blocks image) → c ≡ option_map (with_taken free_blocks block) b
    → d ≡ option_map (entered n e) c → d ≡ option_map (after_insert e) a
unfolding after_insert
inserted None b c d e n block is first number second third =
    third ∙ ap (option_map (entered n e)) (second ∙ ap (option_map (with_taken free_blocks block)) first)
inserted (Some image) b c d e n block is first number second third =
    let old = whole image in
    let number_is : n ≡ next_number free_blocks old =
    subst (λ (o : Option (List ℕ)). IfSome o (λ i. n ≡ next_number free_blocks i)) first number in
    third ∙ ap (option_map (entered n e)) (second ∙ ap (option_map (with_taken free_blocks block)) first)
    ∙ ap (λ (x : List ℕ). Some (entered n e (with_taken free_blocks x old))) is
    ∙ ap (λ (k : ℕ). Some (entered k e (with_taken free_blocks (new_block e) old))) number_is

pub insert_makes : (a d : Option (List ℕ)) (e : PrEntry) → IsRecord e
    → d ≡ option_map (after_insert e) a
    → IfSome a (λ image. (r : Registry) (m : Members) → Holds image r m → MayBeAdded e r → IsSomeAnd d (λ x. Holds x (with_entry e r) m))
insert_makes None d e is made = tt
insert_makes (Some image) d e is made = λ r m holds may.
    subst (λ (o : Option (List ℕ)). IsSomeAnd o (λ x. Holds x (with_entry e r) m)) (sym made)
    (holds_inserted image r m e holds is may)

-- the first image is written where there is none
pub whole_len : (old new : ℕ) → (old ≡ 0 → new ≡ 3264) → (0 < old → new ≡ old) → new ≤ max old 3264
whole_len old new empty stays =
    ⊎_elim (λ (none : old ≡ 0). omega (arith, empty none)) (λ (some : old ≡ 0 → ⊥). omega (arith, stays (omega (arith, some))))
    (cases_eq old 0)

-- ---- a fault

owner_held : (image : List ℕ) (r : Registry) (m : Members) (e : PrEntry) → Holds image r m → IsRecord e
    → MayBeAdded e r → HasOwner (next_number free_blocks (whole image)) e (with_taken free_blocks (new_block e) (whole image))
owner_held image r m e holds is may =
    let n = next_number free_blocks (whole image) in
    let base = with_taken free_blocks (new_block e) (whole image) in
    let b = base_of image r m e holds is in
    let next : n - 1 + 1 ≡ n = omega (arith, b.some) in
    subst (λ (i : ℕ). HasOwner i e base) next
    (owner_there (unchained (whole image)) (unchained base) base e (n - 1) r b.free (is_new image r m e base n holds is may b) b.linked)

pub enter_fault : (a b c : Option (List ℕ)) (e : PrEntry) (n : ℕ) (block : List ℕ) (fault : RecordFault)
    → IsRecord e → block ≡ new_block e → b ≡ option_map whole a
    → IfSome b (λ image. n ≡ next_number free_blocks image) → c ≡ option_map (with_taken free_blocks block) b
    → HasCause c (HasOwner n e) fault → HasCauseWhere (λ r m. MayBeAdded e r) a fault
enter_fault a b c e n block DiskFault is block_is first number second cause = tt
enter_fault a b c e n block NoMemory is block_is first number second cause = tt
enter_fault None b c e n block (BadRecord at) is block_is first number second cause = tt
enter_fault (Some image) b c e n block (BadRecord at) is block_is first number second cause = λ some.
    let old = whole image in
    let number_is : n ≡ next_number free_blocks old =
    subst (λ (o : Option (List ℕ)). IfSome o (λ i. n ≡ next_number free_blocks i)) first number in
    let made : c ≡ Some (with_taken free_blocks (new_block e) old) =
    second ∙ ap (option_map (with_taken free_blocks block)) first ∙ ap (λ (x : List ℕ). Some (with_taken free_blocks x old)) block_is in
    let there = owner_held image some.0 some.1 e some.2 is some.3 in
    (subst (λ (o : Option (List ℕ)). HasCause o (HasOwner n e) (BadRecord at)) made cause)
    (subst (λ (k : ℕ). HasOwner k e (with_taken free_blocks (new_block e) old)) (sym number_is) there)
