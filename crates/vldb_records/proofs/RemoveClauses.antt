-- What a removal says of a draft, where its bytes are told.
use Rattle.std.proofs.Common.{◌≡◌, ℕ, ◌+◌, ◌-◌, ◌*◌, ◌/◌, ◌<◌, ◌≤◌, List, Option, Some, None, IfSome, IsSome, IsSomeAnd, length, refl, sym, ap, subst, ◌∙◌, arith}
use Rattle.std.specs.Option.{option_map}
use Rattle.db_image.specs.Draft.{Drafted}
use Rattle.db_image.specs.declared.faults.RecordFault.{RecordFault}
use Rattle.db_image.specs.declared.faults.RecordFault.TheVariants.{DiskFault, BadRecord, NoMemory}
use Rattle.db_image.specs.declared.images.ImageRead.{Ghosts}
use Rattle.db_blocks.specs.Blocks.{word_at}
use Rattle.db_blocks.specs.Ends.{HasCause, OnlyLooks}
use Rattle.db_chains.specs.Changes.{without}
use Rattle.db_chains.specs.Ends.{CostsAtMost, DraftsAtMost, HasSome, HasWord}
use Rattle.db_chains.specs.Free.{free_links, with_freed}
use Rattle.db_chains.specs.declared.links.Links.{Links}
use Rattle.db_chains.specs.declared.walks.Link.{Link}
use Rattle.db_chains.proofs.Freed.{freed}
use Rattle.db_chains.specs.Keys.{name_key}
use Rattle.db_chains.proofs.Results.{cause_so, cause_at}
use Rattle.vldb_chains.specs.Keys.{id_chain, name_chain}
use Rattle.vldb_chains.specs.Places.{free_blocks, id_links, name_links}
use Rattle.vldb_entries.specs.declared.entries.VlEntry.{VlEntry}
use Rattle.vldb_entries.specs.Location.{Location, has_id, without_entry}
use Rattle.vldb_entries.specs.Forms.{block_at, blocks_in, name_in, whole}
use Rattle.vldb_records.proofs.Becoming.{becomes_then}
use Rattle.vldb_entries.proofs.HeadRead.{whole_same}
use Rattle.vldb_entries.proofs.Locations.{location_without}
use Rattle.vldb_records.specs.Records.{Holds, IsIdWord, IsLaidOut, IsNameWord}
use Rattle.vldb_records.specs.Changes.{after_remove, left, without_id, word_of_id}
use Rattle.vldb_records.specs.Ends.{HasEntry, HasIdWord, HoldsSome}
use Rattle.vldb_records.proofs.Held.{holds_from}
use Rattle.vldb_records.proofs.Left.{IsIn, IsStep, Less, LessIds, after_left, after_name, after_ro, after_rw, backup_some, id_there, name_there, ro_some, rw_some, without_name, without_ro, without_rw}
use Rattle.vldb_records.proofs.Lookups.{id_fault, is_false, of_id}
use Rattle.vldb_records.proofs.OwnWord.{IsFoundBy, entry_of, has_own, own_number}
use Rattle.vldb_records.proofs.Removed.{IsUnused, first_step, is_in, laid_removed, none_free, own_kind}
use Rattle.vldb_records.proofs.Stays.{whole_on}
use Rattle.vldb_records.proofs.Taken.{free_all}

-- ---- frames

pub looks_on : {I : Type 0} (g : Ghosts I) (most : ℕ) (a b : Drafted I) (failed : Type 0) → OnlyLooks g a b failed
    → CostsAtMost g most a b → DraftsAtMost g most a b failed
looks_on g most a b failed looks cost =
    record { drafts = record { layout = looks.same.layout; reads = looks.reads }; cost = cost }

-- ---- faults

pub there : {X : Type 0} (o : Option X) → IsSome o → (x : X) × (o ≡ Some x)
there None some = absurd cc
there (Some x) some = (x, refl)

-- ---- an entry's block goes out of its chains

entry_chains : (n : ℕ) (block image : List ℕ) (h : HasEntry n block image)
    → IsIn (IsUnused h.state image) image (IsNameWord h.state image) (IsIdWord h.state image) n block
entry_chains n block image h = is_in h.state image n h.entry block h.valid h.laid h.number h.bytes

pub has_name : (n : ℕ) (block image : List ℕ) → HasEntry n block image → HasWord name_links (name_chain (name_in block)) n image
has_name n block image h =
    let i = entry_chains n block image h in
    name_there (IsUnused h.state image) h.laid.free.words image (IsNameWord h.state image) (IsIdWord h.state image) image
    (name_key (name_in block)) n i.are (first_step h.state image h.laid) (omega arith) i.name

has_rw : (n : ℕ) (block image : List ℕ) → HasEntry n block image → HasIdWord (word_at block 8) (4 * n) (without_name n block image)
has_rw n block image h =
    let i = entry_chains n block image h in
    let U = IsUnused h.state image in
    let N = IsNameWord h.state image in
    let D = IsIdWord h.state image in
    id_there U h.laid.free.words image (Less n N) D (without_name n block image) (word_at block 8) (4 * n) i.are
    (after_name U h.laid.free.words image N D n block i (first_step h.state image h.laid)) (rw_some U image N D n block i)

has_ro : (n : ℕ) (block image : List ℕ) → HasEntry n block image → HasIdWord (word_at block 12) (4 * n + 1) (without_rw n block image)
has_ro n block image h =
    let i = entry_chains n block image h in
    let U = IsUnused h.state image in
    let N = IsNameWord h.state image in
    let D = IsIdWord h.state image in
    id_there U h.laid.free.words image (Less n N) (Less (4 * n) D) (without_rw n block image) (word_at block 12) (4 * n + 1) i.are
    (after_rw U h.laid.free.words image N D n block i (first_step h.state image h.laid)) (ro_some U image N D n block i)

has_backup : (n : ℕ) (block image : List ℕ) → HasEntry n block image → HasIdWord (word_at block 16) (4 * n + 2) (without_ro n block image)
has_backup n block image h =
    let i = entry_chains n block image h in
    let U = IsUnused h.state image in
    let N = IsNameWord h.state image in
    let D = IsIdWord h.state image in
    id_there U h.laid.free.words image (Less n N) (Less (4 * n + 1) (Less (4 * n) D)) (without_ro n block image) (word_at block 16)
    (4 * n + 2) i.are (after_ro U h.laid.free.words image N D n block i (first_step h.state image h.laid))
    (backup_some U image N D n block i)

pub name_cause : (a : Option (List ℕ)) (l : Links) (at n : ℕ) (name block : List ℕ) (fault : RecordFault) → l ≡ name_links
    → at ≡ name_chain name → name ≡ name_in block → HasCause a (HasWord l at n) fault → HasCause a (HasEntry n block) fault
name_cause a l at n name block fault links place is cause =
    cause_so a (HasEntry n block) (HasWord l at n) fault
    (λ image h.
    subst (λ (m : Links). HasWord m at n image) (sym links)
    (subst (λ (p : ℕ). HasWord name_links p n image) (sym (place ∙ ap name_chain is)) (has_name n block image h)))
    cause

pub name_made : (a b : Option (List ℕ)) (l : Links) (at n : ℕ) (name block : List ℕ) → l ≡ name_links → at ≡ name_chain name
    → name ≡ name_in block → b ≡ option_map (without l at n) a → b ≡ option_map (without_name n block) a
name_made a b l at n name block links place is made =
    made ∙ ap (λ (m : Links). option_map (without m at n) a) links
    ∙ ap (λ (p : ℕ). option_map (without name_links p n) a) (place ∙ ap name_chain is)

pub rw_cause : (a b : Option (List ℕ)) (n id : ℕ) (block : List ℕ) (fault : RecordFault) → id ≡ word_at block 8
    → b ≡ option_map (without_name n block) a → HasCause b (HasIdWord id (4 * n)) fault → HasCause a (HasEntry n block) fault
rw_cause a b n id block fault is made cause =
    cause_at a b (without_name n block) (HasEntry n block) (HasIdWord id (4 * n)) fault made
    (λ image h. subst (λ (i : ℕ). HasIdWord i (4 * n) (without_name n block image)) (sym is) (has_rw n block image h)) cause

pub rw_made : (a b c : Option (List ℕ)) (n id : ℕ) (block : List ℕ) → id ≡ word_at block 8 → b ≡ option_map (without_name n block) a
    → c ≡ option_map (without_id id (4 * n)) b → c ≡ option_map (without_rw n block) a
rw_made a b c n id block is first second =
    becomes_then (without_name n block) (without_id (word_at block 8) (4 * n)) a b c first
    (second ∙ ap (λ (i : ℕ). option_map (without_id i (4 * n)) b) is)

pub ro_cause : (a b : Option (List ℕ)) (n id : ℕ) (block : List ℕ) (fault : RecordFault) → id ≡ word_at block 12
    → b ≡ option_map (without_rw n block) a → HasCause b (HasIdWord id (4 * n + 1)) fault → HasCause a (HasEntry n block) fault
ro_cause a b n id block fault is made cause =
    cause_at a b (without_rw n block) (HasEntry n block) (HasIdWord id (4 * n + 1)) fault made
    (λ image h. subst (λ (i : ℕ). HasIdWord i (4 * n + 1) (without_rw n block image)) (sym is) (has_ro n block image h)) cause

pub ro_made : (a b c : Option (List ℕ)) (n id : ℕ) (block : List ℕ) → id ≡ word_at block 12 → b ≡ option_map (without_rw n block) a
    → c ≡ option_map (without_id id (4 * n + 1)) b → c ≡ option_map (without_ro n block) a
ro_made a b c n id block is first second =
    becomes_then (without_rw n block) (without_id (word_at block 12) (4 * n + 1)) a b c first
    (second ∙ ap (λ (i : ℕ). option_map (without_id i (4 * n + 1)) b) is)

pub backup_cause : (a b : Option (List ℕ)) (n id : ℕ) (block : List ℕ) (fault : RecordFault) → id ≡ word_at block 16
    → b ≡ option_map (without_ro n block) a → HasCause b (HasIdWord id (4 * n + 2)) fault → HasCause a (HasEntry n block) fault
backup_cause a b n id block fault is made cause =
    cause_at a b (without_ro n block) (HasEntry n block) (HasIdWord id (4 * n + 2)) fault made
    (λ image h. subst (λ (i : ℕ). HasIdWord i (4 * n + 2) (without_ro n block image)) (sym is) (has_backup n block image h)) cause

left_step : (n : ℕ) (block image : List ℕ) (h : HasEntry n block image)
    → IsStep (IsUnused h.state image) h.laid.free.words image (Less n (IsNameWord h.state image)) (LessIds n (IsIdWord h.state image))
    (left n block image)
left_step n block image h =
    after_left (IsUnused h.state image) h.laid.free.words image (IsNameWord h.state image) (IsIdWord h.state image) n block
    (entry_chains n block image h) (first_step h.state image h.laid)

has_free : (n : ℕ) (block image : List ℕ) → HasEntry n block image → HasSome (free_links free_blocks) 16 (left n block image)
has_free n block image h =
    let step = left_step n block image h in
    (whole_on image (left n block image) h.laid.size step.kept.size, (h.laid.free.words, step.free))

-- ---- what a walk along the chain of an id found

abbrev pub HasOne : (own : ℕ) → List ℕ → Type 0
HasOne own image = (s : Location) × Holds image s × IsSome (s.entry own)

has_entry : (image : List ℕ) (own : ℕ) (link : Link) → 0 < length image → IsFoundBy own image (Some link)
    → HasOne own image → HasEntry (link.word / 4) link.block image
has_entry image own link more found one =
    let s = one.0 in
    let f = there (s.entry own) one.2 in
    let same = whole_same image more in
    subst (λ (i : List ℕ). HasEntry (link.word / 4) link.block i) same record {
      state = s;
      valid = one.1.valid;
      laid = one.1.laid;
      entry = f.0;
      number = entry_of image s own f.0 link one.1 f.1 found;
      bytes = found.1;
    }

-- ---- faults of a removal

pub find_cause : (a : Option (List ℕ)) (own : ℕ) (fault : RecordFault)
    → HasCause a (λ image. HasSome id_links (id_chain own) (whole image)) fault → HasCause a (HasOne own) fault
find_cause a own fault cause = cause_so a (HasOne own) HoldsSome fault (λ image one. (one.0, one.1)) (id_fault a own fault cause)

pub none_cause : (a : Option (List ℕ)) (own at : ℕ) → IfSome a (λ image. IsFoundBy own image None) → HasCause a (HasOne own) (BadRecord at)
none_cause None own at none = tt
none_cause (Some image) own at none = λ one.
    let s = one.0 in
    let f = there (s.entry own) one.2 in
    is_false (has_id own f.0) (has_own image s own f.0 one.1 f.1) (of_id (Some image) own None none s one.1 own f.0 f.1)

pub leave_cause : (a b : Option (List ℕ)) (own len : ℕ) (link : Link) (fault : RecordFault) → b ≡ a
    → IfSome a (λ image. length image ≡ len) → 0 < len → IfSome a (λ image. IsFoundBy own image (Some link))
    → HasCause b (HasEntry (link.word / 4) link.block) fault → HasCause a (HasOne own) fault
leave_cause a b own len link DiskFault same told more found cause = tt
leave_cause a b own len link NoMemory same told more found cause = tt
leave_cause None b own len link (BadRecord at) same told more found cause = tt
leave_cause (Some image) b own len link (BadRecord at) same told more found cause = λ one.
    subst (λ (o : Option (List ℕ)). HasCause o (HasEntry (link.word / 4) link.block) (BadRecord at)) same cause
    (has_entry image own link (omega (arith, told, more)) found one)

pub free_cause : (a b c : Option (List ℕ)) (own len : ℕ) (link : Link) (fault : RecordFault) → b ≡ a
    → IfSome a (λ image. length image ≡ len) → 0 < len → IfSome a (λ image. IsFoundBy own image (Some link))
    → c ≡ option_map (left (link.word / 4) link.block) b → HasCause c (HasSome (free_links free_blocks) 16) fault
    → HasCause a (HasOne own) fault
free_cause a b c own len link DiskFault same told more found made cause = tt
free_cause a b c own len link NoMemory same told more found made cause = tt
free_cause None b c own len link (BadRecord at) same told more found made cause = tt
free_cause (Some image) b c own len link (BadRecord at) same told more found made cause = λ one.
    let n = link.word / 4 in
    subst (λ (o : Option (List ℕ)). HasCause o (HasSome (free_links free_blocks) 16) (BadRecord at))
    (made ∙ ap (option_map (left n link.block)) same) cause
    (has_free n link.block image (has_entry image own link (omega (arith, told, more)) found one))

-- ---- what a removal makes

pub removed_bytes : (a b c d : Option (List ℕ)) (own len : ℕ) (link : Link) → b ≡ a → IfSome a (λ image. length image ≡ len) → 0 < len
    → IfSome a (λ image. IsFoundBy own image (Some link)) → IfSome a (λ image. link.word ≡ word_of_id own (whole image))
    → c ≡ option_map (left (link.word / 4) link.block) b → d ≡ option_map (with_freed free_blocks (link.word / 4)) c
    → d ≡ option_map (after_remove own) a
unfolding after_remove
removed_bytes None b c d own len link same told more found exact first second =
    let n = link.word / 4 in
    second ∙ ap (option_map (with_freed free_blocks n)) (first ∙ ap (option_map (left n link.block)) same)
removed_bytes (Some image) b c d own len link same told more found exact first second =
    let n = link.word / 4 in
    let old = whole image in
    second ∙ ap (option_map (with_freed free_blocks n)) (first ∙ ap (option_map (left n link.block)) same)
    ∙ ap (λ (i : List ℕ). Some (with_freed free_blocks n (left n link.block i))) (sym (whole_same image (omega (arith, told, more))))
    ∙ ap (λ (x : List ℕ). Some (with_freed free_blocks n (left n x old))) found.1
    ∙ ap (λ (w : ℕ). Some (with_freed free_blocks (w / 4) (left (w / 4) (block_at old (w / 4 - 1)) old))) exact

-- whatever image holds a state with an entry of the id
pub holds_removed : (image : List ℕ) (s : Location) (own : ℕ) (f : VlEntry) → Holds image s → s.entry own ≡ Some f
    → Holds (after_remove own image) (without_entry own s)
unfolding after_remove
holds_removed image s own f holds at =
    let old = whole image in
    let n = word_of_id own old / 4 in
    let block = block_at old (n - 1) in
    let lies = holds.laid in
    let ws = lies.free.words in
    let number = own_number image s own f holds at in
    let mid = left n block old in
    let new = with_freed free_blocks n mid in
    let step = after_left (IsUnused s old) ws old (IsNameWord s old) (IsIdWord s old) n block
    (is_in s old n f block holds.valid lies number refl) (first_step s old lies) in
    let below : n - 1 < blocks_in old = omega (arith, number.some, number.within) in
    let others = none_free old 16 n ws (own_kind s f old (n - 1) lies.size below number.block) lies.free.chain in
    let laid : IsLaidOut new (without_entry f.rw s) = laid_removed s f old n mid new record {
      valid = holds.valid;
      lies = lies;
      number = number;
      step = step;
      freed = freed free_blocks mid (blocks_in old) n ws free_all (step.kept.size ∙ lies.size) number.some number.within step.free
          lies.free.ascending others;
      made = refl;
    } in
    holds_from new (without_entry own s) (location_without s own holds.valid)
    (subst (λ (i : ℕ). IsLaidOut new (without_entry i s)) (holds.valid.ids own f at) laid)

pub removed_makes : (a d : Option (List ℕ)) (own : ℕ) → d ≡ option_map (after_remove own) a
    → IfSome a (λ image. (s : Location) → Holds image s → IsSome (s.entry own) → IsSomeAnd d (λ x. Holds x (without_entry own s)))
removed_makes None d own made = tt
removed_makes (Some image) d own made = λ s holds is.
    let f = there (s.entry own) is in
    subst (λ (o : Option (List ℕ)). IsSomeAnd o (λ x. Holds x (without_entry own s))) (sym made) (holds_removed image s own f.0 holds f.1)
