-- What a replacement says of a draft, where its bytes are told.
use Rattle.std.proofs.Common.{◌≡◌, ◌≢◌, ℕ, ℤ, ◌+◌, ◌-◌, Bool, true, false, cond, List, Option, Some, None, IfSome, Result, Ok, Err, OnOk, drop, refl, sym, take, ap, subst, ◌∙◌, arith}
use Rattle.std.specs.Prelude.{FitsSigned}
use Rattle.std.specs.Int.{w32, cast_signed, cast_unsigned}
use Rattle.std.specs.Option.{option_map}
use Rattle.std.specs.Ordering.{int_eq}
use Rattle.std.proofs.lemmas.Bool.Decides.{Decides-int_eq}
use Rattle.std.proofs.lemmas.Int.{to_z-of_z}
use Rattle.ubik_types.specs.Image.{changed}
use Rattle.ubik_types.specs.declared.images.Change.TheVariants.{Put}
use Rattle.db_image.specs.declared.faults.RecordFault.{RecordFault}
use Rattle.db_blocks.specs.Ends.{HasCause}
use Rattle.db_chains.specs.declared.walks.Link.{Link}
use Rattle.db_chains.specs.Ends.{HasWord}
use Rattle.db_chains.proofs.Results.{cause_at, cause_so}
use Rattle.prdb_layout.specs.Records.{block_in, block_place, entry_in, new_block}
use Rattle.prdb_layout.specs.Registry.{IsRecord, MayReplace, Registry}
use Rattle.prdb_layout.specs.State.{PrEntry}
use Rattle.prdb_layout.proofs.Becoming.{becomes_then}
use Rattle.prdb_lists.specs.Members.{Members}
use Rattle.prdb_finds.specs.Keys.{name_chain}
use Rattle.prdb_finds.specs.Places.{name_links}
use Rattle.prdb_finds.specs.Records.{Holds, whole}
use Rattle.prdb_finds.specs.Unchained.{unchained}
use Rattle.prdb_finds.proofs.Told.{laid_without}
use Rattle.prdb_entries.specs.Changes.{fitted, moved, name_moved, owner_entered, owner_left, owner_moved, refilled}
use Rattle.prdb_entries.specs.Ends.{CanMove, HasEntered, HasLeft, HasLink, HasMoved}
use Rattle.prdb_entries.proofs.InsertClauses.{on_false, on_true}
use Rattle.prdb_entries.proofs.Refitted.{IsRefit, can_move, refit_of}
use Rattle.prdb_entries.proofs.RemoveClauses.{IsLinkOf, block_of_link, link_at, link_cause, same_map}
use Rattle.prdb_entries.proofs.Removed.{entry_held, is_false, linked_of, own_link, own_number}

-- ---- a choice

pub when_true : (b : Bool) (f : List ℕ → List ℕ) (a c : Option (List ℕ)) → b ≡ true → c ≡ option_map f a
    → c ≡ option_map (λ image. cond b (f image) image) a
when_true b f None c is made = made
when_true b f (Some image) c is made = made ∙ ap Some (on_true b (f image) image is)

pub when_false : (b : Bool) (f : List ℕ → List ℕ) (a : Option (List ℕ)) → b ≡ false → a ≡ option_map (λ image. cond b (f image) image) a
when_false b f None is = refl
when_false b f (Some image) is = ap Some (on_false b (f image) image is)

pub when_true_ok : {T E : Type 0} (r : Result T E) (b : Bool) (f : List ℕ → List ℕ) (a c : Option (List ℕ)) → b ≡ true
    → OnOk r (c ≡ option_map f a) → OnOk r (c ≡ option_map (λ image. cond b (f image) image) a)
when_true_ok (Err e) b f a c is made = tt
when_true_ok (Ok x) b f a c is made = when_true b f a c is made

-- ---- from owner to owner

pub ids_same : (y z : ℤ) → FitsSigned w32 y → FitsSigned w32 z → cast_unsigned w32 y ≡ cast_unsigned w32 z → int_eq y z ≡ true
ids_same y z fits also same =
    (Decides-int_eq y z).1 (sym (to_z-of_z w32 y fits) ∙ ap (cast_signed w32) same ∙ to_z-of_z w32 z also)

pub ids_other : (y z : ℤ) → (cast_unsigned w32 y ≡ cast_unsigned w32 z → ⊥) → int_eq y z ≡ false
ids_other y z other = is_false (int_eq y z) (λ same. other (ap (cast_unsigned w32) ((Decides-int_eq y z).0 same)))

pub same_owner : (a : Option (List ℕ)) (f e : PrEntry) (n : ℕ) → int_eq f.owner e.owner ≡ true → a ≡ option_map (owner_moved f e n) a
same_owner None f e n same = refl
same_owner (Some image) f e n same =
    ap Some (on_true (int_eq f.owner e.owner) image (owner_entered e n (owner_left f n image)) same)

other_owner : (a b c : Option (List ℕ)) (f e : PrEntry) (n : ℕ) → int_eq f.owner e.owner ≡ false → b ≡ option_map (owner_left f n) a
    → c ≡ option_map (owner_entered e n) b → c ≡ option_map (owner_moved f e n) a
other_owner None b c f e n other first second = second ∙ ap (option_map (owner_entered e n)) first
other_owner (Some image) b c f e n other first second =
    second ∙ ap (option_map (owner_entered e n)) first
    ∙ ap Some (on_false (int_eq f.owner e.owner) image (owner_entered e n (owner_left f n image)) other)

pub other_owner_ok : {T E : Type 0} (r : Result T E) (a b c : Option (List ℕ)) (f e : PrEntry) (n : ℕ) → int_eq f.owner e.owner ≡ false
    → b ≡ option_map (owner_left f n) a
    → OnOk r (c ≡ option_map (owner_entered e n) b) → OnOk r (c ≡ option_map (owner_moved f e n) a)
other_owner_ok (Err x) a b c f e n other first second = tt
other_owner_ok (Ok x) a b c f e n other first second = other_owner a b c f e n other first second

differ : (y z : ℤ) → int_eq y z ≡ false → y ≢ z
differ y z other same = let yes = (Decides-int_eq y z).1 same in absurd cc

pub left_cause : (a : Option (List ℕ)) (f e : PrEntry) (n : ℕ) (fault : RecordFault) → int_eq f.owner e.owner ≡ false
    → HasCause a (HasLeft f n) fault → HasCause a (HasMoved f e n) fault
left_cause a f e n fault other cause =
    cause_so a (HasMoved f e n) (HasLeft f n) fault (λ image has. (has (differ f.owner e.owner other)).0) cause

pub entered_cause : (a b : Option (List ℕ)) (f e : PrEntry) (n : ℕ) (fault : RecordFault) → int_eq f.owner e.owner ≡ false
    → b ≡ option_map (owner_left f n) a → HasCause b (HasEntered e) fault → HasCause a (HasMoved f e n) fault
entered_cause a b f e n fault other made cause =
    cause_at a b (owner_left f n) (HasMoved f e n) (HasEntered e) fault made (λ image has. (has (differ f.owner e.owner other)).1) cause

-- ---- all chains of an entry

pub name_cause : (a : Option (List ℕ)) (f e : PrEntry) (n : ℕ) (fault : RecordFault)
    → HasCause a (HasWord name_links (name_chain f.name) n) fault → HasCause a (CanMove n f e) fault
name_cause a f e n fault cause =
    cause_so a (CanMove n f e) (HasWord name_links (name_chain f.name) n) fault (λ image can. can.0) cause

pub owner_cause : (a b : Option (List ℕ)) (f e : PrEntry) (n : ℕ) (fault : RecordFault) → b ≡ option_map (name_moved f.name e.name n) a
    → HasCause b (HasMoved f e n) fault → HasCause a (CanMove n f e) fault
owner_cause a b f e n fault made cause =
    cause_at a b (name_moved f.name e.name n) (CanMove n f e) (HasMoved f e n) fault made (λ image can. can.1) cause

-- ---- the fields of a block

pub fields_made : (a b c : Option (List ℕ)) (k place : ℕ) (block numbers name : List ℕ) → place ≡ block_place k
    → numbers ≡ take 20 (drop 4 block) → name ≡ take 64 (drop 32 block)
    → b ≡ option_map (λ image. changed image (Put (place + 4) numbers)) a
    → c ≡ option_map (λ image. changed image (Put (place + 32) name)) b → c ≡ option_map (refilled k block) a
unfolding refilled
fields_made a b c k place block numbers name is front behind first second =
    let p = block_place k in
    becomes_then (λ image. changed image (Put (p + 4) (take 20 (drop 4 block))))
    (λ image. changed image (Put (p + 32) (take 64 (drop 32 block)))) a b c
    (first ∙ ap (λ (q : ℕ). option_map (λ image. changed image (Put (q + 4) numbers)) a) is
    ∙ ap (λ (x : List ℕ). option_map (λ image. changed image (Put (p + 4) x)) a) front)
    (second ∙ ap (λ (q : ℕ). option_map (λ image. changed image (Put (q + 32) name)) b) is
    ∙ ap (λ (x : List ℕ). option_map (λ image. changed image (Put (p + 32) x)) b) behind)

-- ---- a replacement

-- an image holds a registry in which the entry may stand in place of that of an id
abbrev pub HasFit : (id : ℤ) → PrEntry → List ℕ → Type 0
HasFit id e image = (r : Registry) × (m : Members) × Holds image r m × MayReplace id e r

pub fit_of : (image : List ℕ) (id : ℤ) (e : PrEntry) → IsRecord e → (one : HasFit id e image)
    → (f : PrEntry) × (k : ℕ) × IsRefit image one.0 one.1 id f e k
fit_of image id e is one =
    refit_of image one.0 one.1 id e one.2 is one.3
    record { valid = one.2.pairs.holds.valid; laid = laid_without image one.0 one.1 one.2 }

pub replaced : (a b c d x : Option (List ℕ)) (id : ℤ) (e : PrEntry) (f : Link) (block : List ℕ) → b ≡ option_map whole a → c ≡ b
    → IfSome b (λ image. IsLinkOf id image f) → d ≡ option_map (moved f.word (entry_in f.block) e) c → block ≡ new_block e
    → x ≡ option_map (refilled (f.word - 1) block) d → x ≡ option_map (fitted id e) a
unfolding fitted
replaced None b c d x id e f block made same found first is second =
    second ∙ ap (option_map (refilled (f.word - 1) block))
    (first ∙ ap (option_map (moved f.word (entry_in f.block) e)) (same ∙ made))
replaced (Some image) b c d x id e f block made same found first is second =
    let old = whole image in
    let link = link_at (Some image) b image id f made refl found in
    second
    ∙ ap (option_map (refilled (f.word - 1) block)) (first ∙ ap (option_map (moved f.word (entry_in f.block) e)) (same ∙ made))
    ∙ ap (λ (y : List ℕ). Some (refilled (f.word - 1) y (moved f.word (entry_in f.block) e old))) is
    ∙ ap (λ (y : PrEntry). Some (refilled (f.word - 1) (new_block e) (moved f.word y e old))) (ap entry_in (block_of_link old id f link))
    ∙ ap (λ (n : ℕ). Some (refilled (n - 1) (new_block e) (moved n (entry_in (block_in old (n - 1))) e old))) link.0.word

-- ---- faults of a replacement

pub link_fit : (image : List ℕ) (id : ℤ) (e : PrEntry) → IsRecord e → HasFit id e image → HasLink id (whole image)
link_fit image id e is one =
    let o = fit_of image id e is one in
    own_link (whole image) (unchained (whole image)) one.0 id o.0 o.1 one.2.chains.free.words o.2.held
    (linked_of image one.0 one.1 one.2)

move_one : (image : List ℕ) (id : ℤ) (e : PrEntry) (f : Link) → IsRecord e → IsLinkOf id (whole image) f → HasFit id e image
    → CanMove f.word (entry_in f.block) e (whole image)
move_one image id e f is link one =
    let old = whole image in
    let o = fit_of image id e is one in
    let h = o.2.held in
    let word : f.word ≡ o.1 + 1 =
    link.0.word ∙ own_number old (unchained old) one.0 id o.0 o.1 one.2.chains.free.words h (linked_of image one.0 one.1 one.2) in
    let entry : entry_in f.block ≡ o.0 =
    ap entry_in (block_of_link old id f link) ∙ ap (λ (j : ℕ). entry_in (block_in old j)) (omega (arith, word))
    ∙ entry_held image one.0 one.1 id o.0 o.1 one.2 h in
    subst (λ (n : ℕ). CanMove n (entry_in f.block) e old) (sym word)
    (subst (λ (x : PrEntry). CanMove (o.1 + 1) x e old) (sym entry) (can_move image one.0 one.1 id o.0 e o.1 o.2))

pub move_cause : (a b c : Option (List ℕ)) (id : ℤ) (e : PrEntry) (f : Link) (fault : RecordFault) → IsRecord e → b ≡ option_map whole a
    → c ≡ b → IfSome b (λ image. IsLinkOf id image f) → HasCause c (CanMove f.word (entry_in f.block) e) fault
    → HasCause a (HasFit id e) fault
move_cause a b c id e f fault is made same found cause =
    link_cause a b c c id f (λ image. image) (HasFit id e) (CanMove f.word (entry_in f.block) e) fault made same found (same_map c)
    (λ image link one. move_one image id e f is link one) cause
