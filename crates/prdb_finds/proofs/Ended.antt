-- What the steps of a look-up give together.
use Rattle.std.proofs.Common.{◌≡◌, ℕ, zero, suc, ◌+◌, ◌-◌, ◌*◌, ◌/◌, Bool, List, [], Option, Some, None, IfSome, Result, Ok, Err, IfOk, length, take, drop, refl, sym, ap, subst, ◌∙◌, arith}
use Rattle.std.specs.Int.{w32, from_be_bytes}
use Rattle.std.specs.Option.{option_map}
use Rattle.db_image.specs.Asked.{AsksAtMost}
use Rattle.db_image.specs.Draft.{Drafted}
use Rattle.db_image.specs.declared.images.ImageRead.{Ghosts}
use Rattle.db_image.specs.declared.faults.RecordFault.{RecordFault}
use Rattle.db_image.proofs.ReadSteps.{asks_none}
use Rattle.db_blocks.specs.Blocks.{word_at}
use Rattle.db_blocks.specs.Ends.{OnlyLooks}
use Rattle.db_chains.specs.declared.links.Links.{Links}
use Rattle.db_chains.specs.declared.walks.Link.{Link}
use Rattle.db_chains.specs.Changes.{IsPlaced}
use Rattle.db_chains.specs.Chains.{HasChain}
use Rattle.db_chains.specs.Free.{IsNumber}
use Rattle.db_chains.specs.Ends.{CostsAtMost}
use Rattle.db_chains.specs.Sought.{EndsChain}
use Rattle.db_chains.specs.Walks.{IsFound, first_met, meets, most_words, passed, place_behind, stop_place}
use Rattle.prdb_layout.specs.Records.{entry_in}
use Rattle.prdb_layout.specs.State.{PrEntry}
use Rattle.prdb_finds.specs.Places.{free_blocks, id_links}
use Rattle.prdb_finds.specs.Sought.{IsRead}
use Rattle.prdb_finds.proofs.Told.{empty_is}

-- ---- a walk

pub read_none : (bytes : Option (List ℕ)) (l : Links) (test : ℕ → List ℕ → Bool) (at : ℕ) (link : Option Link) → link ≡ None
    → IfSome bytes (λ image. (ws : List ℕ) → HasChain l image at ws → option_map (λ f. f.word) link ≡ first_met (meets l test image) ws)
    → IfSome bytes (λ image. IsRead l test at image None)
read_none None l test at link none first = tt
read_none (Some image) l test at link none first = λ ws chain.
    sym (first ws chain) ∙ ap (option_map (λ f. f.word)) none

pub read_some : (bytes : Option (List ℕ)) (l : Links) (test : ℕ → List ℕ → Bool) (at : ℕ) (link : Option Link) (f : Link) (e : PrEntry)
    → link ≡ Some f
    → IfSome bytes (λ image. IsFound l test image (stop_place l test image at) link) → e ≡ entry_in f.block
    → IfSome bytes (λ image. IsRead l test at image (Some e))
read_some None l test at link f e some found is = tt
read_some (Some image) l test at link f e some found is =
    let here : IsFound l test image (stop_place l test image at) (Some f) =
    subst (IsFound l test image (stop_place l test image at)) some found in
    (f, (here.0.right, here.0.block, here.1), is)

-- a walk that found nothing ended at a word that is 0
pub ended : (bytes : Option (List ℕ)) (l : Links) (test : ℕ → List ℕ → Bool) (at : ℕ) (link : Option Link) → link ≡ None
    → IfSome bytes (λ image. IsFound l test image (stop_place l test image at) link) → IfSome bytes (EndsChain l test at)
ended None l test at link none found = tt
ended (Some image) l test at link none found = subst (IsFound l test image (stop_place l test image at)) none found

no_bytes : (n : ℕ) → ◌≡◌ {A = List ℕ} (drop n []) []
no_bytes zero = refl
no_bytes (suc n) = refl

-- the empty image has no word but 0
pub empty_ended : (bytes : Option (List ℕ)) (len : ℕ) (l : Links) (test : ℕ → List ℕ → Bool) (at : ℕ)
    → IfSome bytes (λ image. length image ≡ len) → len ≡ 0 → IfSome bytes (EndsChain l test at)
unfolding stop_place passed
empty_ended None len l test at told none = tt
empty_ended (Some image) len l test at told none =
    let count : (0 - l.head) / 192 ≡ 0 = omega arith in
    let most : most_words l [] ≡ 0 = ap (λ (n : ℕ). n * l.kinds) count ∙ omega arith in
    let first : word_at [] at ≡ 0 = ap (λ (b : List ℕ). from_be_bytes w32 (take 4 b)) (no_bytes at) in
    subst (EndsChain l test at) (sym (empty_is image (told ∙ none)))
    (subst (λ (m : ℕ). word_at [] (place_behind l at (passed l test [] m at)) ≡ 0) (sym most) first)

pub ok_ended : {T : Type 0} (r : Result (Option T) RecordFault) (A : Type 0) → A → IfOk r (λ found. found ≡ None → A)
ok_ended (Err fault) A is = tt
ok_ended (Ok found) A is = λ none. is

-- what only looked, and did not fail
pub looks_well : {I : Type 0} (g : Ghosts I) (a b : Drafted I) (first failed : Type 0) → OnlyLooks g a b first → (failed → ⊥)
    → OnlyLooks g a b failed
looks_well g a b first failed looks never = record {
  same = looks.same;
  reads = record {
    held = looks.reads.held;
    size = looks.reads.size;
    came = looks.reads.came;
    never_falls = looks.reads.never_falls;
    cause = λ f. absurd (never f);
  };
}

-- nothing was asked
pub costs_free : {I : Type 0} (g : Ghosts I) (bytes : Option (List ℕ)) (l : Links) (at : ℕ) (a b : Drafted I) → b.image ≡ a.image
    → IfSome bytes (λ image. (ws : List ℕ) → HasChain l image at ws → CostsAtMost g (4 + 192 * length ws) a b)
costs_free g None l at a b same = tt
costs_free g (Some image) l at a b same = λ ws chain.
    subst (λ i. AsksAtMost (4 + 192 * length ws) (g.asked a.image) (g.asked i)) (sym same)
    (asks_none (4 + 192 * length ws) (g.asked a.image))

-- ---- the word of an entry

word_within : (len count w : ℕ) → len ≡ 2112 + 192 * count → IsPlaced id_links len w → IsNumber free_blocks len w
word_within len count w whole is =
    record { some = omega (arith, is.some); within = omega (arith, is.some, is.within) }

some_within : (link : Option Link) (len count : ℕ) → len ≡ 2112 + 192 * count → IfSome link (λ f. IsPlaced id_links len f.word)
    → IfSome link (λ f. IsNumber free_blocks len f.word)
some_within None len count whole is = tt
some_within (Some f) len count whole is = word_within len count f.word whole is

pub link_within : (res : Result (Option Link) RecordFault) (len count : ℕ) → len ≡ 2112 + 192 * count
    → IfOk res (λ link. IfSome link (λ f. IsPlaced id_links len f.word)) → IfOk res (λ link. IfSome link (λ f. IsNumber free_blocks len f.word))
link_within (Err fault) len count whole is = tt
link_within (Ok link) len count whole is = some_within link len count whole is
