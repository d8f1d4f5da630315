-- What the calls say of a draft's bytes, where they are told.
use Rattle.std.proofs.Common.{◌≡◌, ◌≢◌, ℕ, ◌+◌, ◌<◌, ◌≤◌, inl, inr, Bool, List, [], ◌∷◌, ◌++◌, Option, Some, None, IfSome, length, sym, ap, subst, ◌∙◌, arith}
use Rattle.db_image.specs.declared.faults.RecordFault.{RecordFault}
use Rattle.db_image.specs.declared.faults.RecordFault.TheVariants.{DiskFault, BadRecord, NoMemory}
use Rattle.db_blocks.specs.Ends.{HasCause}
use Rattle.std.specs.Prelude.{IsSomeAnd}
use Rattle.std.specs.List.{AllByRecursion}
use Rattle.std.specs.Option.{option_map}
use Rattle.std.proofs.lemmas.List.{append-nil}
use Rattle.ubik_types.specs.Image.{changed}
use Rattle.ubik_types.specs.declared.images.Change.TheVariants.{Put}
use Rattle.db_blocks.specs.Blocks.{word_at}
use Rattle.db_blocks.specs.Bytes.{number_word}
use Rattle.db_chains.specs.declared.changes.Until.TheVariants.{End, Word, Above}
use Rattle.db_chains.specs.declared.links.Links.{Links}
use Rattle.db_chains.specs.Chains.{HasChain}
use Rattle.db_chains.specs.Changes.{IsHeadPlace, MayEnter, is_until, put_between, put_in, put_last, put_word, taken_out, without}
use Rattle.db_chains.specs.Links.{AreLinks, next_place}
use Rattle.db_chains.specs.Ends.{HasWord, IsBadOrLacks, IsBadWhere}
use Rattle.db_chains.specs.Walks.{IsBad, IsFound, IsStop, place_behind, stop_place}
use Rattle.db_chains.specs.declared.walks.Link.{Link}
use Rattle.db_chains.specs.declared.walks.Stop.{Stop}
use Rattle.db_chains.proofs.Words.{right_some}
use Rattle.db_chains.proofs.Changed.{chain_put_in, chain_taken_out, others_of, apart_front, stands_behind}
use Rattle.db_chains.proofs.Ended.{bad_cause}
use Rattle.db_chains.proofs.Stops.{above_behind, end_behind, word_behind}

-- ---- bytes

pub bytes_put_in : (a b c : Option (List ℕ)) (l : Links) (at w next place : ℕ) (one two : List ℕ)
    → IfSome a (λ image. next ≡ word_at image at)
    → place ≡ next_place l w → one ≡ number_word next → two ≡ number_word w
    → b ≡ option_map (λ image. changed image (Put place one)) a → c ≡ option_map (λ image. changed image (Put at two)) b
    → c ≡ option_map (put_in l at w) a
unfolding put_in put_word
bytes_put_in None b c l at w next place one two reads is one_is two_is first second =
    second ∙ ap (option_map (λ image. changed image (Put at two))) first
bytes_put_in (Some image) b c l at w next place one two reads is one_is two_is first second =
    second ∙ ap (option_map (λ image. changed image (Put at two))) first
    ∙ ap (λ (bytes : List ℕ). Some (changed (changed image (Put place bytes)) (Put at two))) one_is
    ∙ ap (λ (bytes : List ℕ). Some (changed (changed image (Put place (number_word next))) (Put at bytes))) two_is
    ∙ ap (λ (n : ℕ). Some (changed (changed image (Put place (number_word n))) (Put at (number_word w)))) reads
    ∙ ap (λ (p : ℕ). Some (changed (changed image (Put p (number_word (word_at image at)))) (Put at (number_word w)))) is

pub bytes_taken_out : (a b c : Option (List ℕ)) (l : Links) (at w next place : ℕ) (one two : List ℕ)
    → IfSome a (λ image. w ≡ word_at image at)
    → IfSome a (λ image. next ≡ word_at image place) → place ≡ next_place l w → one ≡ number_word next → two ≡ number_word 0
    → b ≡ option_map (λ image. changed image (Put at one)) a → c ≡ option_map (λ image. changed image (Put place two)) b
    → c ≡ option_map (taken_out l at) a
unfolding taken_out put_word
bytes_taken_out None b c l at w next place one two stands reads is one_is two_is first second =
    second ∙ ap (option_map (λ image. changed image (Put place two))) first
bytes_taken_out (Some image) b c l at w next place one two stands reads is one_is two_is first second =
    let q : place ≡ next_place l (word_at image at) = is ∙ ap (next_place l) stands in
    second ∙ ap (option_map (λ image. changed image (Put place two))) first
    ∙ ap (λ (bytes : List ℕ). Some (changed (changed image (Put at bytes)) (Put place two))) one_is
    ∙ ap (λ (bytes : List ℕ). Some (changed (changed image (Put at (number_word next))) (Put place bytes))) two_is
    ∙ ap (λ (n : ℕ). Some (changed (changed image (Put at (number_word n))) (Put place (number_word 0)))) reads
    ∙ ap (λ (p : ℕ). Some (changed (changed image (Put at (number_word (word_at image p)))) (Put p (number_word 0)))) q

-- at the place where a walk stopped
pub bytes_at : (a c : Option (List ℕ)) (f : ℕ → List ℕ → List ℕ) (place_in : List ℕ → ℕ) (place : ℕ)
    → IfSome a (λ image. place ≡ place_in image)
    → c ≡ option_map (f place) a → c ≡ option_map (λ image. f (place_in image) image) a
bytes_at None c f place_in place is bytes = bytes
bytes_at (Some image) c f place_in place is bytes = bytes ∙ ap (λ (p : ℕ). Some (f p image)) is

-- ---- chains

some_and : (c : Option (List ℕ)) (new : List ℕ) (P : List ℕ → Type 0) → c ≡ Some new → P new → IsSomeAnd c P
some_and c new P is holds = subst (λ (o : Option (List ℕ)). IsSomeAnd o P) (sym is) holds

pub first_chain : (a c : Option (List ℕ)) (l : Links) (at len w : ℕ) → AreLinks l → IsHeadPlace l at
    → IfSome a (λ image. length image ≡ len)
    → at + 4 ≤ len → c ≡ option_map (put_in l at w) a
    → IfSome a (λ image. (ws : List ℕ) → HasChain l image at ws → MayEnter l image w ws → IsSomeAnd c (λ new. HasChain l new at (w ∷ ws)))
first_chain None c l at len w links place told within bytes = tt
first_chain (Some image) c l at len w links place told within bytes = λ ws chain may.
    some_and c (put_in l at w image) (λ new. HasChain l new at (w ∷ ws)) bytes
    (chain_put_in l image at w [] ws links place (omega arith) chain may)

pub last_chain : (a c : Option (List ℕ)) (l : Links) (at len w : ℕ) → AreLinks l → IsHeadPlace l at
    → IfSome a (λ image. length image ≡ len)
    → at + 4 ≤ len → c ≡ option_map (put_last l at w) a
    → IfSome a (λ image. (ws : List ℕ) → HasChain l image at ws → MayEnter l image w ws → IsSomeAnd c (λ new. HasChain l new at
    (ws ++ w ∷ [])))
last_chain None c l at len w links head told within bytes = tt
last_chain (Some image) c l at len w links head told within bytes = λ ws chain may.
    let behind : stop_place l (is_until End) image at ≡ place_behind l at ws = end_behind l image at ws links.step chain in
    let all : ws ≡ ws ++ [] = sym (append-nil ws) in
    some_and c (put_in l (place_behind l at ws) w image) (λ new. HasChain l new at (ws ++ w ∷ []))
    (bytes ∙ ap (λ (p : ℕ). Some (put_in l p w image)) behind)
    (chain_put_in l image at w ws [] links head (omega arith) (subst (HasChain l image at) all chain) (subst
    (MayEnter l image w) all may))

pub between_chain : (a c : Option (List ℕ)) (l : Links) (at len w : ℕ) → AreLinks l → IsHeadPlace l at
    → IfSome a (λ image. length image ≡ len)
    → at + 4 ≤ len → c ≡ option_map (put_between l at w) a
    → IfSome a (λ image. (below above : List ℕ) → HasChain l image at (below ++ above) → MayEnter l image w (below ++ above)
    → AllByRecursion (λ v. v < w) below → AllByRecursion (λ v. w < v) above
    → IsSomeAnd c (λ new. HasChain l new at (below ++ w ∷ above)))
between_chain None c l at len w links head told within bytes = tt
between_chain (Some image) c l at len w links head told within bytes = λ below above chain may less more.
    let behind : stop_place l (is_until (Above w)) image at ≡ place_behind l at below =
    above_behind l image at w below above links.step chain less more in
    some_and c (put_in l (place_behind l at below) w image) (λ new. HasChain l new at (below ++ w ∷ above))
    (bytes ∙ ap (λ (p : ℕ). Some (put_in l p w image)) behind)
    (chain_put_in l image at w below above links head (omega arith) chain may)

pub without_chain : (a c : Option (List ℕ)) (l : Links) (at len w : ℕ) → AreLinks l → IsHeadPlace l at
    → IfSome a (λ image. length image ≡ len)
    → at + 4 ≤ len → c ≡ option_map (without l at w) a
    → IfSome a (λ image. (front back : List ℕ) → HasChain l image at (front ++ w ∷ back) → IsSomeAnd c (λ new. HasChain l new at
    (front ++ back)))
without_chain None c l at len w links head told within bytes = tt
without_chain (Some image) c l at len w links head told within bytes = λ front back chain.
    let others = apart_front (λ v. v ≢ w) front back (others_of l image at w front back links chain) in
    let behind : stop_place l (is_until (Word w)) image at ≡ place_behind l at front = word_behind l image at w front back links.step
    chain others in
    some_and c (taken_out l (place_behind l at front) image) (λ new. HasChain l new at (front ++ back))
    (bytes ∙ ap (λ (p : ℕ). Some (taken_out l p image)) behind)
    (chain_taken_out l image at w front back links head (omega arith) chain)

-- ---- a change at the place where a walk stopped

stop_at : (a : Option (List ℕ)) (l : Links) (test : ℕ → List ℕ → Bool) (at : ℕ) (stop : Stop)
    → IfSome a (λ image. IsStop l test image at stop)
    → IfSome a (λ image. stop.place ≡ stop_place l test image at)
stop_at None l test at stop is = tt
stop_at (Some image) l test at stop is = is.place

pub bytes_stop : (a b c : Option (List ℕ)) (f : ℕ → List ℕ → List ℕ) (l : Links) (test : ℕ → List ℕ → Bool) (at : ℕ) (stop : Stop)
    → IfSome a (λ image. IsStop l test image at stop) → b ≡ a → c ≡ option_map (f stop.place) b
    → c ≡ option_map (λ image. f (stop_place l test image at) image) a
bytes_stop a b c f l test at stop is same bytes =
    bytes_at a c f (λ image. stop_place l test image at) stop.place (stop_at a l test at stop is)
    (bytes ∙ ap (option_map (f stop.place)) same)

pub last_put : (a b c : Option (List ℕ)) (l : Links) (at len w : ℕ) (stop : Stop) → AreLinks l → IsHeadPlace l at
    → IfSome a (λ image. length image ≡ len)
    → at + 4 ≤ len → IfSome a (λ image. IsStop l (is_until End) image at stop) → b ≡ a
    → c ≡ option_map (put_in l stop.place w) b
    → IfSome a (λ image. (ws : List ℕ) → HasChain l image at ws → MayEnter l image w ws → IsSomeAnd c (λ new. HasChain l new at
    (ws ++ w ∷ [])))
last_put a b c l at len w stop links head told within is same bytes =
    last_chain a c l at len w links head told within
    (bytes_stop a b c (λ p image. put_in l p w image) l (is_until End) at stop is same bytes)

pub between_put : (a b c : Option (List ℕ)) (l : Links) (at len w : ℕ) (stop : Stop) → AreLinks l → IsHeadPlace l at
    → IfSome a (λ image. length image ≡ len)
    → at + 4 ≤ len → IfSome a (λ image. IsStop l (is_until (Above w)) image at stop) → b ≡ a
    → c ≡ option_map (put_in l stop.place w) b
    → IfSome a (λ image. (below above : List ℕ) → HasChain l image at (below ++ above) → MayEnter l image w (below ++ above)
    → AllByRecursion (λ v. v < w) below → AllByRecursion (λ v. w < v) above
    → IsSomeAnd c (λ new. HasChain l new at (below ++ w ∷ above)))
between_put a b c l at len w stop links head told within is same bytes =
    between_chain a c l at len w links head told within
    (bytes_stop a b c (λ p image. put_in l p w image) l (is_until (Above w)) at stop is same bytes)

pub stop_some : (a : Option (List ℕ)) (l : Links) (test : ℕ → List ℕ → Bool) (at : ℕ) (stop : Stop) (f : Link) → stop.link ≡ Some f
    → IfSome a (λ image. IsStop l test image at stop)
    → IfSome a (λ image. IsStop l test image at record { place = stop.place; link = Some f })
stop_some None l test at stop f same is = tt
stop_some (Some image) l test at stop f same is = record { place = is.place; found = subst (IsFound l test image stop.place) same is.found }

pub stop_none : (a : Option (List ℕ)) (l : Links) (test : ℕ → List ℕ → Bool) (at : ℕ) (stop : Stop) → stop.link ≡ None
    → IfSome a (λ image. IsStop l test image at stop)
    → IfSome a (λ image. IsStop l test image at record { place = stop.place; link = None })
stop_none None l test at stop same is = tt
stop_none (Some image) l test at stop same is = record { place = is.place; found = subst (IsFound l test image stop.place) same is.found }

-- ---- a word that is taken out

pub stands_there : (a b : Option (List ℕ)) (l : Links) (test : ℕ → List ℕ → Bool) (at place : ℕ) (f : Link) → b ≡ a
    → IfSome a (λ image. IsStop l test image at record { place = place; link = Some f }) → IfSome b (λ image. f.word ≡ word_at image place)
stands_there None b l test at place f same is = subst (λ (o : Option (List ℕ)). IfSome o (λ image. f.word ≡ word_at image place))
    (sym same) tt
stands_there (Some image) b l test at place f same is =
    subst (λ (o : Option (List ℕ)). IfSome o (λ image. f.word ≡ word_at image place)) (sym same) is.found.0.word

pub word_taken : (a b c : Option (List ℕ)) (l : Links) (at len w place : ℕ) (f : Link) → AreLinks l → IsHeadPlace l at
    → IfSome a (λ image. length image ≡ len)
    → at + 4 ≤ len → IfSome a (λ image. IsStop l (is_until (Word w)) image at record { place = place; link = Some f }) → b ≡ a
    → c ≡ option_map (taken_out l place) b
    → IfSome a (λ image. (front back : List ℕ) → HasChain l image at (front ++ w ∷ back) → IsSomeAnd c (λ new. HasChain l new at
    (front ++ back)))
word_taken a b c l at len w place f links head told within is same bytes =
    without_chain a c l at len w links head told within
    (bytes_stop a b c (λ p image. taken_out l p image) l (is_until (Word w)) at record { place = place; link = Some f } is same bytes)

-- a walk that ends without the word
pub lacks : (a : Option (List ℕ)) (l : Links) (at w place : ℕ)
    → IfSome a (λ image. IsStop l (is_until (Word w)) image at record { place = place; link = None })
    → IfSome a (λ image. IsBadOrLacks l at w image place)
lacks None l at w place is = tt
lacks (Some image) l at w place is = inr (is.place, is.found)

lacks_none : (l : Links) (image : List ℕ) (at w : ℕ) (front back : List ℕ) → AreLinks l
    → word_at image (stop_place l (is_until (Word w)) image at) ≡ 0
    → HasChain l image at (front ++ w ∷ back) → ⊥
lacks_none l image at w front back links none chain =
    let others = apart_front (λ v. v ≢ w) front back (others_of l image at w front back links chain) in
    let behind : stop_place l (is_until (Word w)) image at ≡ place_behind l at front = word_behind l image at w front back links.step
    chain others in
    let there = stands_behind l image at w front back chain in
    right_some l image w links.step there.1 (sym there.0 ∙ ap (word_at image) (sym behind) ∙ none)

pub lacks_cause : (a : Option (List ℕ)) (l : Links) (at w place : ℕ) → AreLinks l
    → IfSome a (λ image. IsStop l (is_until (Word w)) image at record { place = place; link = None })
    → IfSome a (λ image. HasWord l at w image → ⊥)
lacks_cause None l at w place links is = tt
lacks_cause (Some image) l at w place links is = λ has.
    lacks_none l image at w has.1.0 has.1.1 links (ap (word_at image) (sym is.place) ∙ is.found) has.1.2

pub walk_lacks : (a : Option (List ℕ)) (l : Links) (at w : ℕ) (fault : RecordFault) → IsBadWhere a (IsBad l (is_until (Word w)) at) fault
    → IsBadWhere a (IsBadOrLacks l at w) fault
walk_lacks a l at w DiskFault cause = tt
walk_lacks a l at w NoMemory cause = tt
walk_lacks None l at w (BadRecord bad) cause = tt
walk_lacks (Some image) l at w (BadRecord bad) cause = inl cause

pub walk_cause : (a : Option (List ℕ)) (l : Links) (at w : ℕ) (fault : RecordFault) → 0 < l.step
    → IsBadWhere a (IsBad l (is_until (Word w)) at) fault
    → HasCause a (HasWord l at w) fault
walk_cause a l at w DiskFault step cause = tt
walk_cause a l at w NoMemory step cause = tt
walk_cause None l at w (BadRecord bad) step cause = tt
walk_cause (Some image) l at w (BadRecord bad) step cause = λ has.
    let c = bad_cause (Some image) l (is_until (Word w)) at (BadRecord bad) step cause in
    c (has.0, (has.1.0 ++ w ∷ has.1.1, has.1.2))
