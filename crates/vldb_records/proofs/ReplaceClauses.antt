-- What a replacement says of a draft, where its bytes are told.
use Rattle.std.proofs.Common.{◌≡◌, ℕ, ◌+◌, ◌-◌, ◌/◌, ◌<◌, List, Option, Some, None, IfSome, IsSome, IsSomeAnd, length, take, drop, refl, sym, ap, subst, ◌∙◌, arith}
use Rattle.std.specs.Option.{option_map}
use Rattle.ubik_types.specs.Image.{changed}
use Rattle.ubik_types.specs.declared.images.Change.TheVariants.{Put}
use Rattle.db_image.specs.declared.faults.RecordFault.{RecordFault}
use Rattle.db_blocks.specs.Blocks.{block_place}
use Rattle.db_blocks.specs.Ends.{HasCause}
use Rattle.db_chains.specs.declared.walks.Link.{Link}
use Rattle.db_chains.proofs.Results.{cause_so}
use Rattle.vldb_entries.specs.declared.entries.VlEntry.{VlEntry}
use Rattle.vldb_entries.specs.Location.{IsRecord, Location, MayEnter, MayReplace, with_entered}
use Rattle.vldb_entries.specs.Forms.{addresses_in, block_at, block_of, whole}
use Rattle.vldb_records.proofs.Becoming.{becomes_then}
use Rattle.vldb_entries.proofs.HeadRead.{whole_same}
use Rattle.vldb_entries.proofs.Locations.{location_entered}
use Rattle.vldb_records.specs.Records.{Holds, IsLaidOut}
use Rattle.vldb_records.specs.Changes.{after_replace, moved, with_fields, word_of_id}
use Rattle.vldb_records.specs.Ends.{HasEntry}
use Rattle.vldb_records.proofs.HeadTold.{laid_addresses}
use Rattle.vldb_records.proofs.Held.{holds_from}
use Rattle.vldb_records.proofs.OwnWord.{IsFoundBy, own_number}
use Rattle.vldb_records.proofs.RemoveClauses.{HasOne, there}
use Rattle.vldb_records.proofs.Replaced.{laid_replaced}

pub fields_made : (a b c : Option (List ℕ)) (k place : ℕ) (block numbers rest : List ℕ) → place ≡ block_place 3132 k
    → numbers ≡ take 32 (drop 4 block) → rest ≡ drop 52 block → b ≡ option_map (λ image. changed image (Put (place + 4) numbers)) a
    → c ≡ option_map (λ image. changed image (Put (place + 52) rest)) b → c ≡ option_map (with_fields k block) a
unfolding with_fields
fields_made a b c k place block numbers rest is front behind first second =
    let p = block_place 3132 k in
    becomes_then (λ image. changed image (Put (p + 4) (take 32 (drop 4 block)))) (λ image. changed image (Put (p + 52) (drop 52 block)))
    a b c
    (first ∙ ap (λ (q : ℕ). option_map (λ image. changed image (Put (q + 4) numbers)) a) is
    ∙ ap (λ (x : List ℕ). option_map (λ image. changed image (Put (p + 4) x)) a) front)
    (second ∙ ap (λ (q : ℕ). option_map (λ image. changed image (Put (q + 52) rest)) b) is
    ∙ ap (λ (x : List ℕ). option_map (λ image. changed image (Put (p + 52) x)) b) behind)

-- ---- faults

-- what is no fault where there is an entry of the id is none where it may be replaced
pub may_cause : (a : Option (List ℕ)) (own : ℕ) (may : Location → Type 0) (fault : RecordFault)
    → ((s : Location) → may s → IsSome (s.entry own)) → HasCause a (HasOne own) fault
    → HasCause a (λ image. (s : Location) × Holds image s × may s) fault
may_cause a own may fault wants cause =
    cause_so a (λ image. (s : Location) × Holds image s × may s) (HasOne own) fault (λ image one. (one.0, one.1, wants one.0 one.2)) cause

-- ---- what a replacement makes

block_is : (image : List ℕ) (b : Option (List ℕ)) (e : VlEntry) (places block : List ℕ) → b ≡ Some image
    → IfSome b (λ i. places ≡ addresses_in (whole i)) → block ≡ block_of places e → block ≡ block_of (addresses_in (whole image)) e
block_is image b e places block same at is =
    is ∙ ap (λ (p : List ℕ). block_of p e)
    (subst (λ (o : Option (List ℕ)). IfSome o (λ i. places ≡ addresses_in (whole i))) same at)

pub replaced_bytes : (a b c d f : Option (List ℕ)) (own len : ℕ) (link : Link) (e : VlEntry) (places block : List ℕ) → b ≡ a → c ≡ a
    → IfSome a (λ image. length image ≡ len) → 0 < len → IfSome a (λ image. IsFoundBy own image (Some link))
    → IfSome a (λ image. link.word ≡ word_of_id own (whole image)) → IfSome b (λ image. places ≡ addresses_in (whole image))
    → block ≡ block_of places e → d ≡ option_map (moved (link.word / 4) link.block e) c
    → f ≡ option_map (with_fields (link.word / 4 - 1) block) d → f ≡ option_map (after_replace own e) a
unfolding after_replace
replaced_bytes None b c d f own len link e places block same too told more found exact at is first second =
    let n = link.word / 4 in
    second ∙ ap (option_map (with_fields (n - 1) block)) (first ∙ ap (option_map (moved n link.block e)) too)
replaced_bytes (Some image) b c d f own len link e places block same too told more found exact at is first second =
    let n = link.word / 4 in
    let old = whole image in
    let form = block_of (addresses_in old) e in
    second ∙ ap (option_map (with_fields (n - 1) block)) (first ∙ ap (option_map (moved n link.block e)) too)
    ∙ ap (λ (i : List ℕ). Some (with_fields (n - 1) block (moved n link.block e i))) (sym (whole_same image (omega (arith, told, more))))
    ∙ ap (λ (x : List ℕ). Some (with_fields (n - 1) x (moved n link.block e old))) (block_is image b e places block same at is)
    ∙ ap (λ (x : List ℕ). Some (with_fields (n - 1) form (moved n x e old))) found.1
    ∙ ap (λ (w : ℕ). Some (with_fields (w / 4 - 1) form (moved (w / 4) (block_at old (w / 4 - 1)) e old))) exact

-- whatever image holds a state with an entry of the id
pub holds_replaced : (image : List ℕ) (s : Location) (own : ℕ) (e f : VlEntry) → Holds image s → IsRecord e → s.entry own ≡ Some f
    → MayEnter own e s → Holds (after_replace own e image) (with_entered own e s)
unfolding after_replace
holds_replaced image s own e f holds is at may =
    let old = whole image in
    let n = word_of_id own old / 4 in
    let block = block_at old (n - 1) in
    let same : f.rw ≡ own = holds.valid.ids own f at in
    let h : HasEntry n block old = record {
      state = s;
      valid = holds.valid;
      laid = holds.laid;
      entry = f;
      number = own_number image s own f holds at;
      bytes = refl;
    } in
    let new = with_fields (n - 1) (block_of s.addresses e) (moved n block e old) in
    let laid : IsLaidOut new (with_entered f.rw e s) =
    laid_replaced n block old e h is (subst (λ (i : ℕ). MayEnter i e s) (sym same) may) in
    rw (laid_addresses image s holds)
    (holds_from new (with_entered own e s) (location_entered s own e holds.valid is may)
    (subst (λ (i : ℕ). IsLaidOut new (with_entered i e s)) same laid))

pub replaced_makes : (a f : Option (List ℕ)) (own : ℕ) (e : VlEntry) → IsRecord e → f ≡ option_map (after_replace own e) a
    → IfSome a (λ image. (s : Location) → Holds image s → MayReplace own e s → IsSomeAnd f (λ x. Holds x (with_entered own e s)))
replaced_makes None f own e is made = tt
replaced_makes (Some image) f own e is made = λ s holds may.
    let g = there (s.entry own) may.0 in
    subst (λ (o : Option (List ℕ)). IsSomeAnd o (λ x. Holds x (with_entered own e s))) (sym made)
    (holds_replaced image s own e g.0 holds is g.1 may.1)
