-- How a walk ends.
use Rattle.std.proofs.Common.{◌≡◌, ◌≢◌, ℕ, suc, ◌+◌, ◌-◌, ◌*◌, ◌<◌, ◌≤◌, inl, inr, Bool, true, false, not, List, [], ◌∷◌, Option, Some, None, IfSome, length, refl, sym, ap, subst, ◌∙◌, ⊎_elim, arith}
use Rattle.std.specs.Option.{option_map}
use Rattle.std.proofs.lemmas.Bool.{and_left, and_right, both_ways}
use Rattle.std.proofs.lemmas.List.{length-append}
use Rattle.db_image.specs.Draft.{Drafted}
use Rattle.db_image.specs.declared.faults.RecordFault.{RecordFault}
use Rattle.db_image.specs.declared.faults.RecordFault.TheVariants.{DiskFault, BadRecord, NoMemory}
use Rattle.db_image.specs.declared.images.ImageRead.{Ghosts}
use Rattle.db_blocks.specs.Blocks.{IsWhole, block_count, block_in, block_place, word_at}
use Rattle.db_blocks.specs.Ends.{HasCause}
use Rattle.db_blocks.proofs.Scanned.{count_is}
use Rattle.db_chains.specs.declared.links.Links.{Links}
use Rattle.db_chains.specs.declared.walks.Link.{Link}
use Rattle.db_chains.specs.declared.walks.Stop.{Stop}
use Rattle.db_chains.specs.Chains.{HasChain}
use Rattle.db_chains.specs.Changes.{IsPlaced}
use Rattle.db_chains.specs.Ends.{HasSome, IsBadWhere, LooksAtMost}
use Rattle.db_chains.specs.Links.{AreLinks, block_of, is_right, kind_of, names_block, next_in, next_place}
use Rattle.db_chains.specs.Walks.{IsBad, IsBroken, IsFound, IsLink, IsStop, first_met, meets, most_words, passed, stop_place}
use Rattle.db_chains.proofs.Counted.{chain_short}
use Rattle.db_chains.proofs.Paths.{found_first, passed_path, path_chain}
use Rattle.db_chains.proofs.Stops.{zero_wrong}
use Rattle.db_chains.proofs.Walked.{IsOnWay, Walked, looks_on, looks_within, way_more, way_stop, stops}
use Rattle.db_chains.proofs.Words.{in_block, names}

-- a right word's next one is within
pub placed : (l : Links) (count len w : ℕ) → AreLinks l → len ≡ block_place l.head count → names_block l count w ≡ true → IsPlaced l len w
placed l count len w links size is =
    let n = names l count w is in
    record { some = n.some; kind = n.kind; within = omega (arith, n.some, n.block, n.kind, links.within) }

-- an image that is no head and whole blocks
pub bad_count : (bytes : Option (List ℕ)) (l : Links) (test : ℕ → List ℕ → Bool) (at len : ℕ) (fault : RecordFault) → fault ≡ BadRecord len
    → IfSome bytes (λ image. length image ≡ len) → ((k : ℕ) → len ≢ block_place l.head k) → IsBadWhere bytes (IsBad l test at) fault
bad_count None l test at len fault is told other = subst (IsBadWhere None (IsBad l test at)) (sym is) tt
bad_count (Some image) l test at len fault is told other =
    subst (IsBadWhere (Some image) (IsBad l test at)) (sym is)
    (inl (sym told, λ whole. other (block_count l.head image) (sym told ∙ whole)))

passed_none : (l : Links) (test : ℕ → List ℕ → Bool) (image : List ℕ) (place : ℕ) → passed l test image 0 place ≡ []
unfolding passed
passed_none l test image place = refl

-- the same way, by how many words the image can have
all_words : (l : Links) (test : ℕ → List ℕ → Bool) (image : List ℕ) (at count left place word : ℕ) → length image ≡ block_place l.head count
    → IsOnWay l test image at (count * l.kinds) left place word → IsOnWay l test image at (most_words l image) left place word
all_words l test image at count left place word told way =
    subst (λ (n : ℕ). IsOnWay l test image at (n * l.kinds) left place word) (sym (count_is l.head image count told)) way

-- too many words
pub broken_all : (bytes : Option (List ℕ)) (l : Links) (test : ℕ → List ℕ → Bool) (at count left place word : ℕ)
    → IfSome bytes (λ image. length image ≡ block_place l.head count)
    → IfSome bytes (λ image. IsOnWay l test image at (count * l.kinds) left place word) → left ≡ 0 → word ≢ 0
    → IfSome bytes (λ image. IsBad l test at image place)
broken_all None l test at count left place word told way none some = tt
broken_all (Some image) l test at count left place word told way none some =
    let all = all_words l test image at count left place word told way in
    let end = way_stop l test image at left place word all
    (ap (λ (n : ℕ). passed l test image n place) none ∙ passed_none l test image place) in
    inr record {
      place = end.0;
      some = λ zero_there. some (all.stands ∙ zero_there);
      cause = inr (omega (arith, end.1));
    }

-- a word that may stand in no chain
pub broken_link : (bytes now : Option (List ℕ)) (l : Links) (test : ℕ → List ℕ → Bool) (at count left place word : ℕ)
    (fault : RecordFault) → now ≡ bytes
    → IfSome bytes (λ image. length image ≡ block_place l.head count)
    → IfSome bytes (λ image. IsOnWay l test image at (count * l.kinds) left place word) → word ≢ 0
    → IsBadWhere now (λ image bad. (bad ≡ place) × (is_right l image word ≡ false)) fault
    → IsBadWhere bytes (IsBad l test at) fault
broken_link bytes now l test at count left place word DiskFault same told way some cause = tt
broken_link bytes now l test at count left place word NoMemory same told way some cause = tt
broken_link None now l test at count left place word (BadRecord bad) same told way some cause = tt
broken_link (Some image) now l test at count left place word (BadRecord bad) same told way some cause =
    let c = subst (λ (b : Option (List ℕ)). IfSome b (λ image. (bad ≡ place) × (is_right l image word ≡ false))) same cause in
    let all = all_words l test image at count left place word told way in
    let end = way_stop l test image at left place word all
    (stops l test image left place word all.stands (and_left (is_right l image word) (not (meets l test image word)) c.1)) in
    subst (IsBad l test at image) (sym c.0) (inr record {
      place = end.0;
      some = λ zero_there. some (all.stands ∙ zero_there);
      cause = inl (ap (is_right l image) (sym all.stands) ∙ c.1);
    })

-- what is looked for
pub stop_found : (bytes now : Option (List ℕ)) (l : Links) (test : ℕ → List ℕ → Bool) (at count left place word : ℕ) (f : Link)
    (met : Bool) → now ≡ bytes
    → IfSome bytes (λ image. length image ≡ block_place l.head count)
    → IfSome bytes (λ image. IsOnWay l test image at (count * l.kinds) left place word)
    → IfSome now (λ image. IsLink l image place f) → f.word ≡ word → met ≡ test word f.block → met ≡ true
    → IfSome bytes (λ image. IsStop l test image at record { place = place; link = Some f })
stop_found None now l test at count left place word f met same told way link named is holds = tt
stop_found (Some image) now l test at count left place word f met same told way link named is holds =
    let k : IsLink l image place f = subst (λ (b : Option (List ℕ)). IfSome b (λ image. IsLink l image place f)) same link in
    let all = all_words l test image at count left place word told way in
    let here : test f.word f.block ≡ true = ap (λ (w : ℕ). test w f.block) named ∙ sym is ∙ holds in
    let meet : meets l test image word ≡ true =
    ap (λ (w : ℕ). test w (block_in l.head image (block_of l w))) (sym named) ∙ ap (test f.word) (sym k.block) ∙ here in
    let end = way_stop l test image at left place word all
    (stops l test image left place word all.stands (and_right (is_right l image word) (not (meets l test image word)) (ap not meet))) in
    record { place = end.0; found = (k, here) }

-- the end of the chain
pub stop_end : (bytes : Option (List ℕ)) (l : Links) (test : ℕ → List ℕ → Bool) (at count left place word : ℕ) → 0 < l.step
    → IfSome bytes (λ image. length image ≡ block_place l.head count)
    → IfSome bytes (λ image. IsOnWay l test image at (count * l.kinds) left place word) → word ≡ 0
    → IfSome bytes (λ image. IsStop l test image at record { place = place; link = None })
stop_end None l test at count left place word step told way none = tt
stop_end (Some image) l test at count left place word step told way none =
    let all = all_words l test image at count left place word told way in
    let end = way_stop l test image at left place word all
    (stops l test image left place word all.stands (and_left (is_right l image word) (not (meets l test image word))
    (zero_wrong l image word step none))) in
    record { place = end.0; found = sym all.stands ∙ none }

looks_so_most : {I : Type 0} (g : Ghosts I) (a b : Drafted I) (failed : Type 0) → LooksAtMost g 192 a b failed → (failed → ⊥)
    → LooksAtMost g 192 a b ⊥
looks_so_most g a b failed r not_failed = looks_within g 192 192 a b failed ⊥ r (omega arith) (λ h. absurd h)

-- one word further
next_read : (l : Links) (image : List ℕ) (word next place : ℕ) (f : Link) → AreLinks l → kind_of l word < l.kinds → IsLink l image place f
    → f.word ≡ word
    → next ≡ word_at f.block (next_in l word) → next ≡ word_at image (next_place l word)
next_read l image word next place f links kind k named reads =
    reads ∙ ap (λ (b : List ℕ). word_at b (next_in l word)) (k.block ∙ ap (λ (w : ℕ). block_in l.head image (block_of l w)) named)
    ∙ in_block l.head image (block_of l word) (next_in l word) (192 - next_in l word) (omega (arith, kind, links.within))
    (omega (arith, kind, links.within))

way_on : (bytes now : Option (List ℕ)) (l : Links) (test : ℕ → List ℕ → Bool) (at most left more place word next : ℕ) (f : Link)
    (met : Bool) → AreLinks l
    → now ≡ bytes → kind_of l word < l.kinds → left ≡ suc more
    → IfSome bytes (λ image. IsOnWay l test image at most left place word)
    → IfSome now (λ image. IsLink l image place f) → f.word ≡ word → met ≡ test word f.block → met ≡ false
    → next ≡ word_at f.block (next_in l word)
    → IfSome bytes (λ image. IsOnWay l test image at most more (next_place l word) next)
way_on None now l test at most left more place word next f met links same kind is way link named tests fails reads = tt
way_on (Some image) now l test at most left more place word next f met links same kind is way link named tests fails reads =
    let k : IsLink l image place f = subst (λ (b : Option (List ℕ)). IfSome b (λ image. IsLink l image place f)) same link in
    let misses : meets l test image word ≡ false =
    ap (λ (w : ℕ). test word (block_in l.head image (block_of l w))) (sym named) ∙ ap (test word) (sym k.block) ∙ sym tests ∙ fails in
    way_more l test image at most left more place word next way is (ap (is_right l image) (sym named) ∙ k.right) misses
    (next_read l image word next place f links kind k named reads)

pub walked_more : {I : Type 0} (g : Ghosts I) (first now next : Drafted I) (l : Links) (test : ℕ → List ℕ → Bool)
    (at count left place word to then : ℕ) (f : Link) (met : Bool) (failed : Type 0)
    → AreLinks l → Walked g first now l test at count left place word → LooksAtMost g 192 now next failed → (failed → ⊥) → left ≢ 0
    → first.len ≡ block_place l.head count
    → IfSome now.bytes (λ image. IsLink l image place f) → f.word ≡ word → names_block l count word ≡ true → met ≡ test word f.block
    → met ≡ false
    → to ≡ next_place l word → then ≡ word_at f.block (next_in l word)
    → Walked g first next l test at count (left - 1) to then
walked_more g first now next l test at count left place word to then f met failed links w looks not_failed some len link named names_it
    tests fails is reads =
    let n = names l count word names_it in
    let p = placed l count first.len word links len names_it in record {
      frame = looks_on g (4 + 192 * (count * l.kinds - left)) 192 (4 + 192 * (count * l.kinds - (left - 1))) first now next ⊥ ⊥ w.frame
          (looks_so_most g now next failed looks not_failed) (omega (arith, w.few));
      told = w.told;
      few = omega (arith, w.few);
      within = omega (arith, p.within);
      way = subst (λ (q : ℕ). IfSome first.bytes (λ image. IsOnWay l test image at (count * l.kinds) (left - 1) q then)) (sym is)
          (way_on first.bytes now.bytes l test at (count * l.kinds) left
          (left - 1) place word then f met links w.frame.looks.same.bytes n.kind
          (omega arith) w.way link named tests fails reads);
    }

-- ---- a bad record comes where there is no chain

rest_right : (l : Links) (image : List ℕ) (at : ℕ) (rest : List ℕ) → HasChain l image at rest → word_at image at ≢ 0
    → (is_right l image (word_at image at) ≡ true) × (1 ≤ length rest)
rest_right l image at [] chain some = absurd (some chain)
rest_right l image at (w ∷ rest) chain some = (ap (is_right l image) chain.0 ∙ chain.1, omega arith)

broken_chain : (l : Links) (test : ℕ → List ℕ → Bool) (image : List ℕ) (at bad : ℕ) (ws : List ℕ) → 0 < l.step
    → IsBroken l test image at bad
    → HasChain l image at ws → ⊥
unfolding stop_place
broken_chain l test image at bad ws step broken chain =
    let front = passed l test image (most_words l image) at in
    let goes = path_chain l image at front ws step (passed_path l test image (most_words l image) at) chain in
    let here : HasChain l image bad goes.rest = subst (λ (p : ℕ). HasChain l image p goes.rest) (sym broken.place) goes.chain in
    let r = rest_right l image bad goes.rest here broken.some in
    ⊎_elim (λ (wrong : is_right l image (word_at image bad) ≡ false). both_ways (is_right l image (word_at image bad)) wrong r.0)
    (λ (all : length front ≡ most_words l image).
    omega (arith, all, r.1, ap length goes.split, length-append front goes.rest, chain_short l image at ws step chain))
    broken.cause

bad_chain : (l : Links) (test : ℕ → List ℕ → Bool) (image : List ℕ) (at bad : ℕ) (ws : List ℕ) → 0 < l.step → IsBad l test at image bad
    → IsWhole l.head image → HasChain l image at ws → ⊥
bad_chain l test image at bad ws step cause whole chain =
    ⊎_elim (λ (other : (bad ≡ length image) × ¬ IsWhole l.head image). other.1 whole)
    (λ (broken : IsBroken l test image at bad). broken_chain l test image at bad ws step broken chain) cause

pub bad_cause : (bytes : Option (List ℕ)) (l : Links) (test : ℕ → List ℕ → Bool) (at : ℕ) (fault : RecordFault) → 0 < l.step
    → IsBadWhere bytes (IsBad l test at) fault → HasCause bytes (HasSome l at) fault
bad_cause bytes l test at DiskFault step cause = tt
bad_cause bytes l test at NoMemory step cause = tt
bad_cause None l test at (BadRecord bad) step cause = tt
bad_cause (Some image) l test at (BadRecord bad) step cause = λ has. bad_chain l test image at bad has.1.0 step cause has.0 has.1.1

-- ---- what was found in a chain

pub found_in : (bytes : Option (List ℕ)) (l : Links) (test : ℕ → List ℕ → Bool) (at : ℕ) (stop : Stop) → 0 < l.step
    → IfSome bytes (λ image. IsStop l test image at stop)
    → IfSome bytes (λ image. (ws : List ℕ) → HasChain l image at ws → option_map (λ f. f.word) stop.link ≡ first_met
    (meets l test image) ws)
found_in None l test at stop step is = tt
found_in (Some image) l test at stop step is = λ ws chain.
    let there : IsFound l test image (stop_place l test image at) stop.link = subst (λ (p : ℕ). IsFound l test image p stop.link) is.place
    is.found in
    found_first l test image at ws stop.link step chain there
