-- The entry of an id as the block tells it that a walk along the chain of the id found.
use Rattle.std.proofs.Common.{◌≡◌, ℕ, ℤ, ◌-◌, ◌<◌, true, List, [], Option, Some, None, IfSome, length, refl, sym, ap, subst, ◌∙◌, arith}
use Rattle.std.specs.Option.{option_map}
use Rattle.db_image.specs.declared.faults.RecordFault.{RecordFault}
use Rattle.db_image.specs.declared.faults.RecordFault.TheVariants.{DiskFault, BadRecord, NoMemory}
use Rattle.db_chains.specs.Walks.{IsFound, first_met, meets, stop_place}
use Rattle.db_chains.specs.Chains.{HasChain}
use Rattle.db_chains.specs.declared.walks.Link.{Link}
use Rattle.prdb_layout.specs.Blocks.{block_count}
use Rattle.prdb_layout.specs.Records.{block_in, entry_in, has_id}
use Rattle.prdb_layout.specs.State.{PrEntry}
use Rattle.prdb_layout.proofs.Lookups.{id_parts}
use Rattle.entry_scans.specs.Pages.{IsOfEntry}
use Rattle.prdb_lists.proofs.ListFound.{no_list}
use Rattle.prdb_finds.specs.Ends.{HasItsCause}
use Rattle.prdb_finds.specs.Keys.{id_chain}
use Rattle.prdb_finds.specs.Places.{id_links}
use Rattle.prdb_finds.specs.Records.{whole}
use Rattle.prdb_finds.specs.Sought.{IsRead}
use Rattle.prdb_finds.proofs.Ended.{read_none, read_some}
use Rattle.prdb_finds.proofs.Lookups.{of_id}
use Rattle.prdb_finds.proofs.Told.{whole_same}
use Rattle.prdb_members.proofs.Found.{found_empty}
use Rattle.prdb_members.proofs.Walked.{block_found}
use Rattle.pt_calls.specs.declared.answers.PtEntry.{PtEntry}
use Rattle.pt_service.specs.Meaning.{told, told_of}
use Rattle.pt_service.specs.State.{State, pair_count}
use Rattle.pt_service.specs.Told.{Told}
use Rattle.pt_looks.specs.Ends.{IsUnless}
use Rattle.pt_looks.specs.Pages.{fits_in, told_in}
use Rattle.pt_looks.specs.States.{HoldsRecords, OfStates, members_of}
use Rattle.pt_looks.proofs.Paged.{fits_at, told_at}
use Rattle.pt_looks.proofs.Pairs.{elements_are}
use Rattle.pt_looks.proofs.States.{of_both, of_map, told_so}

-- what an answer has of the entry of an id
abbrev pub ToldOfId : Option (List ℕ) → (id : ℤ) → Option PtEntry → Type 0
ToldOfId bytes id found = OfStates bytes (λ s. found ≡ option_map (told_of s) (s.registry.entry id))

-- where a walk stopped that looked for an id
abbrev IsStop : (id : ℤ) → Option Link → List ℕ → Type 0
IsStop id link image =
    IsFound id_links (λ w block. has_id id block) image (stop_place id_links (λ w block. has_id id block) image (id_chain id)) link

pub none_told : (bytes : Option (List ℕ)) (id : ℤ) → Told bytes (λ r. None ≡ r.entry id) → ToldOfId bytes id None
none_told bytes id none =
    of_map bytes (λ s. None ≡ s.registry.entry id) (λ s. None ≡ option_map (told_of s) (s.registry.entry id))
    (λ image s holds is. ap (option_map (told_of s)) is) (told_so bytes (λ r. None ≡ r.entry id) none)

-- what holds of bytes that are not empty holds of the image that is read whole
in_whole : (bytes : Option (List ℕ)) (len : ℕ) (P : List ℕ → Type 0) → IfSome bytes (λ image. length image ≡ len) → 0 < len
    → IfSome bytes P → IfSome bytes (λ image. P (whole image))
in_whole None len P size more is = tt
in_whole (Some image) len P size more is = subst P (sym (whole_same image (omega arith))) is

-- what a walk for an id read
abbrev ReadsId : (id : ℤ) → Option PrEntry → List ℕ → Type 0
ReadsId id found image = IsRead id_links (λ w block. has_id id block) (id_chain id) image found

-- ---- none

pub link_none : (bytes : Option (List ℕ)) (len : ℕ) (id : ℤ) (link : Option Link) → link ≡ None
    → IfSome bytes (λ image. length image ≡ len) → 0 < len
    → IfSome bytes (λ image. (ws : List ℕ) → HasChain id_links image (id_chain id) ws
    → option_map (λ f. f.word) link ≡ first_met (meets id_links (λ w block. has_id id block) image) ws)
    → ToldOfId bytes id None
link_none bytes len id link none size some first =
    none_told bytes id (of_id bytes id None (in_whole bytes len (ReadsId id None) size some
    (read_none bytes id_links (λ w block. has_id id block) (id_chain id) link none first)))

-- ---- the block of an entry

of_entry_at : (image : List ℕ) (id : ℤ) (k : ℕ) (block : List ℕ) → k < block_count image
    → block ≡ block_in image k → has_id id block ≡ true → IsOfEntry image block
of_entry_at image id k block below here is = (k, below, (id_parts id block is).0, here)

pub link_block : (bytes : Option (List ℕ)) (len : ℕ) (id : ℤ) (link : Option Link) (f : Link) → link ≡ Some f
    → IfSome bytes (λ image. length image ≡ len) → 0 < len → IfSome bytes (IsStop id link)
    → IfSome bytes (λ image. IsOfEntry (whole image) f.block)
link_block None len id link f some told more is = tt
link_block (Some image) len id link f some told more is =
    let b = block_found (Some image) id link f (f.word - 1) some refl is in
    subst (λ (i : List ℕ). IsOfEntry i f.block) (sym (whole_same image (omega arith)))
    (of_entry_at image id (f.word - 1) f.block b.0 b.1 b.2)

told_at_all : (bytes : Option (List ℕ)) (block : List ℕ) → IfSome bytes (λ image. IsOfEntry (whole image) block)
    → OfStates bytes (λ s. told_in block ≡ told_of s (entry_in block))
told_at_all None block of = tt
told_at_all (Some image) block of = λ s holds. told_at image s block holds of

pub link_told : (bytes : Option (List ℕ)) (len : ℕ) (id : ℤ) (link : Option Link) (f : Link) (t : PtEntry) → link ≡ Some f
    → IfSome bytes (λ image. length image ≡ len) → 0 < len → IfSome bytes (IsStop id link) → t ≡ told_in f.block
    → ToldOfId bytes id (Some t)
link_told bytes len id link f t some size more is same =
    let e = entry_in f.block in
    of_both bytes (λ s. Some e ≡ s.registry.entry id) (λ s. told_in f.block ≡ told_of s e)
    (λ s. Some t ≡ option_map (told_of s) (s.registry.entry id))
    (λ image s holds at count. ap Some (same ∙ count) ∙ ap (option_map (told_of s)) at)
    (told_so bytes (λ r. Some e ≡ r.entry id) (of_id bytes id (Some e) (in_whole bytes len (ReadsId id (Some e)) size more
    (read_some bytes id_links (λ w block. has_id id block) (id_chain id) link f e some is refl))))
    (told_at_all bytes f.block (link_block bytes len id link f some size more is))

cause_of : (bytes : Option (List ℕ)) (block : List ℕ) (fault : RecordFault) → IfSome bytes (λ image. IsOfEntry (whole image) block)
    → IsUnless (fits_in block ≡ true) fault → HasItsCause bytes fault
cause_of bytes block DiskFault of cause = tt
cause_of None block (BadRecord at) of cause = tt
cause_of (Some image) block (BadRecord at) of cause = λ h. cause (fits_at image h.0 h.1 block h.2 of)
cause_of bytes block NoMemory of cause = tt

-- a block of which no answer is made is of no image
pub link_cause : (bytes : Option (List ℕ)) (len : ℕ) (id : ℤ) (link : Option Link) (f : Link) (fault : RecordFault) → link ≡ Some f
    → IfSome bytes (λ image. length image ≡ len) → 0 < len → IfSome bytes (IsStop id link)
    → IsUnless (fits_in f.block ≡ true) fault → HasItsCause bytes fault
link_cause bytes len id link f fault some told more is cause =
    cause_of bytes f.block fault (link_block bytes len id link f some told more is) cause

-- ---- the empty image

none_paired : (image : List ℕ) (s : State) (id : ℤ) → length image ≡ 0 → HoldsRecords image s → pair_count s id ≡ 0
none_paired image s id none holds =
    let m = members_of s in
    let list = no_list m id (found_empty (Some image) 0 id none refl s.registry m holds) in
    ap length (sym (elements_are image s id [] holds list))

empty_told : (bytes : Option (List ℕ)) (e : PrEntry) → IfSome bytes (λ image. length image ≡ 0)
    → OfStates bytes (λ s. told 0 e ≡ told_of s e)
empty_told None e none = tt
empty_told (Some image) e none = λ s holds. ap (λ (n : ℕ). told n e) (sym (none_paired image s e.id none holds))

pub first_told : (bytes : Option (List ℕ)) (id : ℤ) (e : PrEntry) (t : PtEntry) → IfSome bytes (λ image. length image ≡ 0)
    → Told bytes (λ r. Some e ≡ r.entry id) → t ≡ told 0 e → ToldOfId bytes id (Some t)
first_told bytes id e t none found same =
    of_both bytes (λ s. Some e ≡ s.registry.entry id) (λ s. told 0 e ≡ told_of s e)
    (λ s. Some t ≡ option_map (told_of s) (s.registry.entry id))
    (λ image s holds at count. ap Some (same ∙ count) ∙ ap (option_map (told_of s)) at)
    (told_so bytes (λ r. Some e ≡ r.entry id) found) (empty_told bytes e none)
