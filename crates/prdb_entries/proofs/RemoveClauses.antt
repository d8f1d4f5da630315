-- What a removal says of a draft, where its bytes are told.
use Rattle.std.proofs.Common.{◌≡◌, ℕ, ℤ, ◌+◌, ◌-◌, true, false, List, Option, Some, None, IfSome, Result, Ok, Err, OnOk, refl, sym, ap, subst, ◌∙◌, arith}
use Rattle.std.specs.Prelude.{IsSomeAnd}
use Rattle.std.specs.Option.{option_map}
use Rattle.db_image.specs.declared.faults.RecordFault.{RecordFault}
use Rattle.db_image.specs.declared.faults.RecordFault.TheVariants.{DiskFault, BadRecord, NoMemory}
use Rattle.db_blocks.specs.Ends.{HasCause}
use Rattle.db_chains.specs.declared.walks.Link.{Link}
use Rattle.db_chains.specs.Changes.{without}
use Rattle.db_chains.specs.Ends.{HasSome, HasWord}
use Rattle.db_chains.specs.Free.{free_links, with_freed}
use Rattle.db_chains.specs.Walks.{IsFound, stop_place}
use Rattle.db_chains.proofs.Results.{cause_so, cause_at}
use Rattle.prdb_layout.specs.Records.{block_in, entry_in, has_id}
use Rattle.prdb_layout.specs.Registry.{Registry, without_entry}
use Rattle.prdb_layout.specs.State.{PrEntry}
use Rattle.prdb_lists.specs.Members.{Members}
use Rattle.prdb_finds.specs.Keys.{id_chain, name_chain}
use Rattle.prdb_finds.specs.Places.{free_blocks, id_links, name_links, owned_links, owned_place}
use Rattle.prdb_finds.specs.Records.{Holds, whole}
use Rattle.prdb_finds.specs.Unchained.{unchained}
use Rattle.prdb_entries.specs.Changes.{after_remove, is_owned, left, number_of, owner_without, unnamed}
use Rattle.prdb_entries.specs.Ends.{HasLink, IsOwnedBy, MayGo, StandsInChains}
use Rattle.prdb_entries.proofs.InsertClauses.{on_false, on_true}
use Rattle.prdb_entries.proofs.Numbers.{block_of_word}
use Rattle.prdb_entries.proofs.Removed.{IsHeld, entry_held, free_held, held_in, holds_removed, linked_of, own_link, own_number, stands_held}

-- ---- an owner's chain

owner_left : (a b c : Option (List ℕ)) (owner : ℤ) (n w : ℕ) → b ≡ a → IfSome a (λ image. w ≡ number_of owner image)
    → c ≡ option_map (without owned_links (owned_place (w - 1)) n) b → c ≡ option_map (owner_without owner n) a
owner_left None b c owner n w same number made = made ∙ ap (option_map (without owned_links (owned_place (w - 1)) n)) same
owner_left (Some image) b c owner n w same number made =
    made ∙ ap (option_map (without owned_links (owned_place (w - 1)) n)) same
    ∙ ap (λ (v : ℕ). Some (without owned_links (owned_place (v - 1)) n image)) number

pub owner_left_ok : {T E : Type 0} (r : Result T E) (a b c : Option (List ℕ)) (owner : ℤ) (n w : ℕ) → b ≡ a
    → IfSome a (λ image. w ≡ number_of owner image)
    → OnOk r (c ≡ option_map (without owned_links (owned_place (w - 1)) n) b) → OnOk r (c ≡ option_map (owner_without owner n) a)
owner_left_ok (Err e) a b c owner n w same number made = tt
owner_left_ok (Ok x) a b c owner n w same number made = owner_left a b c owner n w same number made

pub owned_cause : (a b : Option (List ℕ)) (owner : ℤ) (n w : ℕ) (fault : RecordFault) → b ≡ a
    → IfSome a (λ image. w ≡ number_of owner image)
    → HasCause b (HasWord owned_links (owned_place (w - 1)) n) fault → HasCause a (IsOwnedBy owner n) fault
owned_cause a b owner n w DiskFault same number cause = tt
owned_cause a b owner n w NoMemory same number cause = tt
owned_cause None b owner n w (BadRecord at) same number cause = tt
owned_cause (Some image) b owner n w (BadRecord at) same number cause = λ is.
    (subst (λ (o : Option (List ℕ)). HasCause o (HasWord owned_links (owned_place (w - 1)) n) (BadRecord at)) same cause)
    (subst (λ (v : ℕ). HasWord owned_links (owned_place (v - 1)) n image) (sym number) is.1)

-- ---- all chains of an entry

owned_left : (a b c : Option (List ℕ)) (e : PrEntry) (n : ℕ) → is_owned e ≡ true → b ≡ option_map (unnamed n e) a
    → c ≡ option_map (owner_without e.owner n) b → c ≡ option_map (left n e) a
unfolding left
owned_left None b c e n owned first second = second ∙ ap (option_map (owner_without e.owner n)) first
owned_left (Some image) b c e n owned first second =
    second ∙ ap (option_map (owner_without e.owner n)) first
    ∙ ap Some (on_true (is_owned e) (owner_without e.owner n (unnamed n e image)) (unnamed n e image) owned)

pub owned_left_ok : {T E : Type 0} (r : Result T E) (a b c : Option (List ℕ)) (e : PrEntry) (n : ℕ) → is_owned e ≡ true
    → b ≡ option_map (unnamed n e) a
    → OnOk r (c ≡ option_map (owner_without e.owner n) b) → OnOk r (c ≡ option_map (left n e) a)
owned_left_ok (Err x) a b c e n owned first second = tt
owned_left_ok (Ok x) a b c e n owned first second = owned_left a b c e n owned first second

pub alone_left : (a b : Option (List ℕ)) (e : PrEntry) (n : ℕ) → is_owned e ≡ false → b ≡ option_map (unnamed n e) a
    → b ≡ option_map (left n e) a
unfolding left
alone_left None b e n alone first = first
alone_left (Some image) b e n alone first =
    first ∙ ap Some (on_false (is_owned e) (owner_without e.owner n (unnamed n e image)) (unnamed n e image) alone)

pub named_cause : (a : Option (List ℕ)) (e : PrEntry) (n : ℕ) (fault : RecordFault)
    → HasCause a (λ image. HasWord name_links (name_chain e.name) n image
    × HasWord id_links (id_chain e.id) n (without name_links (name_chain e.name) n image)) fault
    → HasCause a (StandsInChains n e) fault
named_cause a e n fault cause =
    cause_so a (StandsInChains n e) (λ image. HasWord name_links (name_chain e.name) n image
    × HasWord id_links (id_chain e.id) n (without name_links (name_chain e.name) n image)) fault (λ image s. (s.name, s.id)) cause

pub owner_cause : (a b : Option (List ℕ)) (e : PrEntry) (n : ℕ) (fault : RecordFault) → is_owned e ≡ true → b ≡ option_map (unnamed n e) a
    → HasCause b (IsOwnedBy e.owner n) fault → HasCause a (StandsInChains n e) fault
owner_cause a b e n fault owned made cause =
    cause_at a b (unnamed n e) (StandsInChains n e) (IsOwnedBy e.owner n) fault made (λ image s. s.owner owned) cause

-- ---- a removal

-- an image holds the entry of an id, which may go
abbrev pub HasOne : (id : ℤ) → List ℕ → Type 0
HasOne id image = (r : Registry) × (m : Members) × Holds image r m × MayGo id r m

-- the link that a walk found is the entry's
abbrev pub IsLinkOf : (id : ℤ) → List ℕ → Link → Type 0
IsLinkOf id image f =
    IsFound id_links (λ w block. has_id id block) image (stop_place id_links (λ w block. has_id id block) image (id_chain id)) (Some f)

pub block_of_link : (image : List ℕ) (id : ℤ) (f : Link) → IsLinkOf id image f → f.block ≡ block_in image (f.word - 1)
block_of_link image id f found =
    found.0.block ∙ ap (block_in image) (block_of_word f.word)

pub link_at : (a b : Option (List ℕ)) (image : List ℕ) (id : ℤ) (f : Link) → b ≡ option_map whole a → a ≡ Some image
    → IfSome b (λ i. IsLinkOf id i f) → IsLinkOf id (whole image) f
link_at a b image id f made is found =
    subst (λ (o : Option (List ℕ)). IfSome o (λ i. IsLinkOf id i f)) (made ∙ ap (option_map whole) is) found

pub removed : (a b c d e : Option (List ℕ)) (id : ℤ) (f : Link) → b ≡ option_map whole a → c ≡ b
    → IfSome b (λ image. IsLinkOf id image f) → d ≡ option_map (left f.word (entry_in f.block)) c
    → e ≡ option_map (with_freed free_blocks f.word) d → e ≡ option_map (after_remove id) a
unfolding after_remove
removed None b c d e id f made same found first second =
    second ∙ ap (option_map (with_freed free_blocks f.word))
    (first ∙ ap (option_map (left f.word (entry_in f.block))) (same ∙ made))
removed (Some image) b c d e id f made same found first second =
    let old = whole image in
    let link = link_at (Some image) b image id f made refl found in
    second
    ∙ ap (option_map (with_freed free_blocks f.word)) (first ∙ ap (option_map (left f.word (entry_in f.block))) (same ∙ made))
    ∙ ap (λ (x : PrEntry). Some (with_freed free_blocks f.word (left f.word x old))) (ap entry_in (block_of_link old id f link))
    ∙ ap (λ (n : ℕ). Some (with_freed free_blocks n (left n (entry_in (block_in old (n - 1))) old))) link.0.word

pub remove_makes : (a d : Option (List ℕ)) (id : ℤ) → d ≡ option_map (after_remove id) a
    → IfSome a (λ image. (r : Registry) (m : Members) → Holds image r m → MayGo id r m → IsSomeAnd d (λ x. Holds x (without_entry id r) m))
remove_makes None d id made = tt
remove_makes (Some image) d id made = λ r m holds may.
    subst (λ (o : Option (List ℕ)). IsSomeAnd o (λ x. Holds x (without_entry id r) m)) (sym made) (holds_removed image r m id holds may)

-- ---- faults of a change of the entry of an id

-- of the walk to it, where an image of which something holds has it
pub find_cause : (a b : Option (List ℕ)) (id : ℤ) (P : List ℕ → Type 0) (fault : RecordFault) → b ≡ option_map whole a
    → ((image : List ℕ) → P image → HasLink id (whole image)) → HasCause b (HasSome id_links (id_chain id)) fault → HasCause a P fault
find_cause a b id P fault made has cause =
    cause_at a b whole P (HasSome id_links (id_chain id)) fault made (λ image one. let l = has image one in (l.0, (l.1.0, l.1.2))) cause

pub same_map : (c : Option (List ℕ)) → c ≡ option_map (λ image. image) c
same_map None = refl
same_map (Some image) = refl

-- of what is done with the link that was found
pub link_cause : (a b c d : Option (List ℕ)) (id : ℤ) (f : Link) (g : List ℕ → List ℕ) (P Q : List ℕ → Type 0) (fault : RecordFault)
    → b ≡ option_map whole a → c ≡ b → IfSome b (λ image. IsLinkOf id image f) → d ≡ option_map g c
    → ((image : List ℕ) → IsLinkOf id (whole image) f → P image → Q (g (whole image))) → HasCause d Q fault → HasCause a P fault
link_cause a b c d id f g P Q DiskFault made same found first has cause = tt
link_cause a b c d id f g P Q NoMemory made same found first has cause = tt
link_cause None b c d id f g P Q (BadRecord at) made same found first has cause = tt
link_cause (Some image) b c d id f g P Q (BadRecord at) made same found first has cause = λ one.
    (subst (λ (o : Option (List ℕ)). HasCause o Q (BadRecord at)) (first ∙ ap (option_map g) (same ∙ made)) cause)
    (has image (link_at (Some image) b image id f made refl found) one)

-- ---- faults of a removal

pub link_held : (image : List ℕ) (id : ℤ) → HasOne id image → HasLink id (whole image)
link_held image id one =
    let o = held_in image one.0 one.1 id one.2 one.3.0 in
    own_link (whole image) (unchained (whole image)) one.0 id o.0 o.1 one.2.chains.free.words o.2 (linked_of image one.0 one.1 one.2)

-- the number and the entry of a link
record IsLinkHeld (image : List ℕ) (id : ℤ) (f : Link) (one : HasOne id image) : Type 0 where
  entry : PrEntry
  k : ℕ
  held : IsHeld (unchained (whole image)) one.0 id entry k
  word : f.word ≡ k + 1
  is : entry_in f.block ≡ entry

held_link : (image : List ℕ) (id : ℤ) (f : Link) (one : HasOne id image) → IsLinkOf id (whole image) f → IsLinkHeld image id f one
held_link image id f one link =
    let old = whole image in
    let o = held_in image one.0 one.1 id one.2 one.3.0 in
    let word : f.word ≡ o.1 + 1 =
    link.0.word ∙ own_number old (unchained old) one.0 id o.0 o.1 one.2.chains.free.words o.2 (linked_of image one.0 one.1 one.2) in
    record {
      entry = o.0;
      k = o.1;
      held = o.2;
      word = word;
      is = ap entry_in (block_of_link old id f link) ∙ ap (λ (j : ℕ). entry_in (block_in old j)) (omega (arith, word))
          ∙ entry_held image one.0 one.1 id o.0 o.1 one.2 o.2;
    }

stands_one : (image : List ℕ) (id : ℤ) (f : Link) → IsLinkOf id (whole image) f → HasOne id image
    → StandsInChains f.word (entry_in f.block) (whole image)
stands_one image id f link one =
    let h = held_link image id f one link in
    subst (λ (n : ℕ). StandsInChains n (entry_in f.block) (whole image)) (sym h.word)
    (subst (λ (e : PrEntry). StandsInChains (h.k + 1) e (whole image)) (sym h.is)
    (stands_held image one.0 one.1 id h.entry h.k one.2 one.3.0 h.held))

free_one : (image : List ℕ) (id : ℤ) (f : Link) → IsLinkOf id (whole image) f → HasOne id image
    → HasSome (free_links free_blocks) 20 (left f.word (entry_in f.block) (whole image))
free_one image id f link one =
    let h = held_link image id f one link in
    subst (λ (n : ℕ). HasSome (free_links free_blocks) 20 (left n (entry_in f.block) (whole image))) (sym h.word)
    (subst (λ (e : PrEntry). HasSome (free_links free_blocks) 20 (left (h.k + 1) e (whole image))) (sym h.is)
    (free_held image one.0 one.1 id h.entry h.k one.2 one.3.0 h.held))

pub leave_cause : (a b c : Option (List ℕ)) (id : ℤ) (f : Link) (fault : RecordFault) → b ≡ option_map whole a → c ≡ b
    → IfSome b (λ image. IsLinkOf id image f) → HasCause c (StandsInChains f.word (entry_in f.block)) fault → HasCause a (HasOne id) fault
leave_cause a b c id f fault made same found cause =
    link_cause a b c c id f (λ image. image) (HasOne id) (StandsInChains f.word (entry_in f.block)) fault made same found (same_map c)
    (λ image link one. stands_one image id f link one) cause

pub free_cause : (a b c d : Option (List ℕ)) (id : ℤ) (f : Link) (fault : RecordFault) → b ≡ option_map whole a → c ≡ b
    → IfSome b (λ image. IsLinkOf id image f) → d ≡ option_map (left f.word (entry_in f.block)) c
    → HasCause d (HasSome (free_links free_blocks) 20) fault → HasCause a (HasOne id) fault
free_cause a b c d id f fault made same found first cause =
    link_cause a b c d id f (left f.word (entry_in f.block)) (HasOne id) (HasSome (free_links free_blocks) 20) fault made same found first
    (λ image link one. free_one image id f link one) cause
