-- How far a walk has come.
use Rattle.std.proofs.Common.{◌≡◌, ◌≢◌, ℕ, zero, suc, ◌+◌, ◌-◌, ◌*◌, ◌<◌, ◌≤◌, Bool, true, false, ◌&&◌, not, cond, List, [], ◌∷◌, ◌++◌, Option, Some, None, IfSome, length, refl, sym, ap, subst, ◌∙◌, ◌⊎◌, inl, inr, ⊎_elim, append_assoc, arith}
use Rattle.std.proofs.lemmas.Bool.{and_from}
use Rattle.std.proofs.lemmas.List.{append-nil, length-append}
use Rattle.db_image.specs.Asked.{AsksAtMost}
use Rattle.db_image.specs.Draft.{Drafted}
use Rattle.db_image.specs.declared.images.ImageRead.{Ghosts}
use Rattle.db_image.proofs.ReadSteps.{asks_none, asks_then}
use Rattle.db_blocks.specs.Blocks.{block_place, word_at}
use Rattle.db_blocks.proofs.Scanned.{looks_so, looks_then}
use Rattle.db_chains.specs.declared.links.Links.{Links}
use Rattle.db_chains.specs.Links.{is_right, next_place}
use Rattle.db_chains.specs.Chains.{HasChain}
use Rattle.db_chains.specs.Ends.{CostsAtMost, LooksAtMost}
use Rattle.db_chains.specs.Walks.{meets, most_words, passed, place_behind, stop_place}
use Rattle.db_chains.proofs.Paths.{IsPath, passed_path, path_chain, path_front}

-- ---- frames

pub looks_on : {I : Type 0} (g : Ghosts I) (m n most : ℕ) (a b c : Drafted I) (first failed : Type 0) → LooksAtMost g m a b first
    → LooksAtMost g n b c failed → m + n ≤ most → LooksAtMost g most a c failed
looks_on g m n most a b c first failed r s fits = record {
  looks = looks_then g a b c first failed r.looks s.looks;
  cost = asks_then m n most (g.asked a.image) (g.asked b.image) (g.asked c.image) r.cost s.cost fits;
}

pub looks_within : {I : Type 0} (g : Ghosts I) (m most : ℕ) (a b : Drafted I) (first failed : Type 0) → LooksAtMost g m a b first → m ≤ most
    → (failed → first) → LooksAtMost g most a b failed
looks_within g m most a b first failed r fits so = record {
  looks = looks_so g a b first failed r.looks so;
  cost = asks_then m 0 most (g.asked a.image) (g.asked b.image) (g.asked b.image) r.cost (asks_none 0 (g.asked b.image)) (omega arith);
}

-- ---- on the way

-- so many words were passed, and so many may be passed still
pub record IsOnWay (l : Links) (test : ℕ → List ℕ → Bool) (image : List ℕ) (at most left place word : ℕ) : Type 0 where
  pub ws : List ℕ
  pub done : length ws + left ≡ most
  pub passed : passed l test image most at ≡ ws ++ passed l test image left place
  pub behind : place ≡ place_behind l at ws
  pub stands : word ≡ word_at image place

pub way_none : (l : Links) (test : ℕ → List ℕ → Bool) (image : List ℕ) (at most word : ℕ) → word ≡ word_at image at
    → IsOnWay l test image at most most at word
way_none l test image at most word is = record { ws = []; done = omega arith; passed = refl; behind = refl; stands = is }

pub behind_more : (l : Links) (at w : ℕ) (ws : List ℕ) → place_behind l at (ws ++ w ∷ []) ≡ next_place l w
behind_more l at w [] = refl
behind_more l at w (v ∷ ws) = behind_more l (next_place l v) w ws

pass_step : (b : Bool) (w : ℕ) (ws : List ℕ) → b ≡ true → cond b (w ∷ ws) [] ≡ w ∷ ws
pass_step true w ws is = refl
pass_step false w ws is = absurd cc

stop_step : (b : Bool) (w : ℕ) (ws : List ℕ) → b ≡ false → cond b (w ∷ ws) [] ≡ []
stop_step true w ws is = absurd cc
stop_step false w ws is = refl

pub passes : (l : Links) (test : ℕ → List ℕ → Bool) (image : List ℕ) (left place word : ℕ) → word ≡ word_at image place
    → is_right l image word ≡ true
    → meets l test image word ≡ false → passed l test image (suc left) place ≡ word ∷ passed l test image left (next_place l word)
unfolding passed
passes l test image left place word is right misses =
    let both : (is_right l image word && not (meets l test image word)) ≡ true =
    and_from (is_right l image word) (not (meets l test image word)) right (ap not misses) in
    subst (λ (w : ℕ). passed l test image (suc left) place ≡ cond (is_right l image w && not (meets l test image w))
    (w ∷ passed l test image left (next_place l w)) [])
    (sym is) refl
    ∙ pass_step (is_right l image word && not (meets l test image word)) word (passed l test image left (next_place l word)) both

pub stops : (l : Links) (test : ℕ → List ℕ → Bool) (image : List ℕ) (left place word : ℕ) → word ≡ word_at image place
    → ((is_right l image word && not (meets l test image word)) ≡ false) → passed l test image left place ≡ []
unfolding passed
stops l test image zero place word is not_on = refl
stops l test image (suc left) place word is not_on =
    subst (λ (w : ℕ). passed l test image (suc left) place ≡ cond (is_right l image w && not (meets l test image w))
    (w ∷ passed l test image left (next_place l w)) [])
    (sym is) refl
    ∙ stop_step (is_right l image word && not (meets l test image word)) word (passed l test image left (next_place l word)) not_on

pub way_more : (l : Links) (test : ℕ → List ℕ → Bool) (image : List ℕ) (at most left more place word next : ℕ)
    → IsOnWay l test image at most left place word → left ≡ suc more
    → is_right l image word ≡ true → meets l test image word ≡ false → next ≡ word_at image (next_place l word)
    → IsOnWay l test image at most more (next_place l word) next
way_more l test image at most left more place word next way is right misses reads = record {
  ws = way.ws ++ word ∷ [];
  done = omega (arith, length-append way.ws (word ∷ []), way.done);
  passed = way.passed ∙ ap (λ (n : ℕ). way.ws ++ passed l test image n place) is
      ∙ ap (λ (ws : List ℕ). way.ws ++ ws) (passes l test image more place word way.stands right misses)
      ∙ sym (append_assoc way.ws (word ∷ []) (passed l test image more (next_place l word)));
  behind = sym (behind_more l at word way.ws);
  stands = reads;
}

-- where a walk stops
pub way_stop : (l : Links) (test : ℕ → List ℕ → Bool) (image : List ℕ) (at left place word : ℕ)
    → IsOnWay l test image at (most_words l image) left place word → passed l test image left place ≡ []
    → (place ≡ stop_place l test image at) × (length (passed l test image (most_words l image) at) + left ≡ most_words l image)
unfolding stop_place
way_stop l test image at left place word way stop =
    let all : passed l test image (most_words l image) at ≡ way.ws =
    way.passed ∙ ap (λ (ws : List ℕ). way.ws ++ ws) stop ∙ append-nil way.ws in
    (way.behind ∙ ap (place_behind l at) (sym all), omega (arith, ap length all, way.done))

-- a chain has at least the words that were passed, and one more where 0 does not stand behind them
rest_some : (l : Links) (image : List ℕ) (place word : ℕ) (rest : List ℕ) → HasChain l image place rest → word ≡ word_at image place
    → word ≢ 0
    → 1 ≤ length rest
rest_some l image place word [] chain is some = absurd (some (is ∙ chain))
rest_some l image place word (c ∷ rest) chain is some = omega arith

pub way_short : (l : Links) (test : ℕ → List ℕ → Bool) (image : List ℕ) (at most left place word : ℕ) (cs : List ℕ) → 0 < l.step
    → IsOnWay l test image at most left place word → HasChain l image at cs
    → (most ≤ length cs + left) × (word ≢ 0 → most + 1 ≤ length cs + left)
way_short l test image at most left place word cs step way chain =
    let path : IsPath l image at way.ws =
    path_front l image at way.ws (passed l test image left place)
    (subst (IsPath l image at) way.passed (passed_path l test image most at)) in
    let goes = path_chain l image at way.ws cs step path chain in
    let all : length cs ≡ length way.ws + length goes.rest = ap length goes.split ∙ length-append way.ws goes.rest in
    let here : HasChain l image place goes.rest = subst (λ (p : ℕ). HasChain l image p goes.rest) (sym way.behind) goes.chain in (
      omega (arith, way.done),
      λ some. omega (arith, way.done, rest_some l image place word goes.rest here way.stands some),
    )

-- ---- a walk

pub record Walked {I : Type 0} (g : Ghosts I) (first now : Drafted I) (l : Links) (test : ℕ → List ℕ → Bool)
    (at count left place word : ℕ) : Type 0 where
  pub frame : LooksAtMost g (4 + 192 * (count * l.kinds - left)) first now ⊥
  pub told : IfSome first.bytes (λ image. length image ≡ block_place l.head count)
  pub few : left ≤ count * l.kinds
  pub within : place + 4 ≤ first.len
  pub way : IfSome first.bytes (λ image. IsOnWay l test image at (count * l.kinds) left place word)

way_told : (bytes : Option (List ℕ)) (l : Links) (test : ℕ → List ℕ → Bool) (at most word : ℕ)
    → IfSome bytes (λ image. word ≡ word_at image at)
    → IfSome bytes (λ image. IsOnWay l test image at most most at word)
way_told None l test at most word reads = tt
way_told (Some image) l test at most word reads = way_none l test image at most word reads

pub walked_none : {I : Type 0} (g : Ghosts I) (first now : Drafted I) (l : Links) (test : ℕ → List ℕ → Bool) (at count left word : ℕ)
    (failed : Type 0)
    → LooksAtMost g 4 first now failed → IfSome first.bytes (λ image. length image ≡ block_place l.head count) → left ≡ count * l.kinds
    → at + 4 ≤ first.len → IfSome first.bytes (λ image. word ≡ word_at image at)
    → Walked g first now l test at count left at word
walked_none g first now l test at count left word failed looks told all within reads = record {
  frame = looks_within g 4 (4 + 192 * (count * l.kinds - left)) first now failed ⊥ looks (omega arith) (λ h. absurd h);
  told = told;
  few = omega arith;
  within = within;
  way = subst (λ (n : ℕ). IfSome first.bytes (λ image. IsOnWay l test image at (count * l.kinds) n at word)) (sym all)
      (way_told first.bytes l test at (count * l.kinds) word reads);
}

most_of : (done most front all : ℕ) → done ≤ most → all ≡ front + 192 * most → 4 + 192 * done ≤ 4 + all
most_of done most front all few is = omega arith

-- the call asked for no more than each block of each kind
most_bytes : (head count kinds len done : ℕ) → len ≡ head + 192 * count → done ≤ count * kinds → 4 + 192 * done ≤ 4 + kinds * len
most_bytes head count kinds len done is few =
    let all : kinds * len ≡ kinds * (head + 192 * count) = ap (λ (n : ℕ). kinds * n) is in
    let more : kinds * (head + 192 * count) ≡ kinds * head + 192 * (count * kinds) = omega arith in
    most_of done (count * kinds) (kinds * head) (kinds * len) few (all ∙ more)

pub walked_frame : {I : Type 0} (g : Ghosts I) (first now next : Drafted I) (l : Links) (test : ℕ → List ℕ → Bool)
    (at count left place word : ℕ) (failed : Type 0)
    → Walked g first now l test at count left place word → first.len ≡ block_place l.head count → 0 < left
    → LooksAtMost g 192 now next failed
    → LooksAtMost g (4 + l.kinds * first.len) first next failed
walked_frame g first now next l test at count left place word failed w len some looks =
    looks_on g (4 + 192 * (count * l.kinds - left)) 192 (4 + l.kinds * first.len) first now next ⊥ failed w.frame looks
    (omega (arith, most_bytes l.head count l.kinds first.len (count * l.kinds - left + 1) len (omega (arith, w.few)), w.few))

pub walked_here : {I : Type 0} (g : Ghosts I) (first now : Drafted I) (l : Links) (test : ℕ → List ℕ → Bool)
    (at count left place word : ℕ) (failed : Type 0)
    → Walked g first now l test at count left place word → first.len ≡ block_place l.head count → ¬ failed
    → LooksAtMost g (4 + l.kinds * first.len) first now failed
walked_here g first now l test at count left place word failed w len not =
    looks_within g (4 + 192 * (count * l.kinds - left)) (4 + l.kinds * first.len) first now ⊥ failed w.frame
    (most_bytes l.head count l.kinds first.len (count * l.kinds - left) len (omega (arith, w.few))) (λ h. absurd (not h))

-- and along a chain, for no more than its blocks
chain_costs : (bytes : Option (List ℕ)) (l : Links) (test : ℕ → List ℕ → Bool) (at most left place word more : ℕ)
    (before after : Option ℕ) → 0 < l.step
    → left ≤ most → IfSome bytes (λ image. IsOnWay l test image at most left place word) → (more ≡ 0) ⊎ ((more ≡ 192) × (word ≢ 0))
    → AsksAtMost (4 + 192 * (most - left) + more) before after
    → IfSome bytes (λ image. (ws : List ℕ) → HasChain l image at ws → AsksAtMost (4 + 192 * length ws) before after)
chain_costs None l test at most left place word more before after step few way case asks = tt
chain_costs (Some image) l test at most left place word more before after step few way case asks = λ ws chain.
    let short = way_short l test image at most left place word ws step way chain in
    let fits : 4 + 192 * (most - left) + more ≤ 4 + 192 * length ws =
    ⊎_elim (λ (none : more ≡ 0). omega (arith, short.0)) (λ (one : (more ≡ 192) × (word ≢ 0)). omega (arith, one.0, short.1 one.1)) case in
    asks_then (4 + 192 * (most - left) + more) 0 (4 + 192 * length ws) before after after asks (asks_none 0 after) (omega arith)

pub walked_cost : {I : Type 0} (g : Ghosts I) (first now next : Drafted I) (l : Links) (test : ℕ → List ℕ → Bool)
    (at count left place word : ℕ) (failed : Type 0)
    → 0 < l.step → Walked g first now l test at count left place word → word ≢ 0 → LooksAtMost g 192 now next failed
    → IfSome first.bytes (λ image. (ws : List ℕ) → HasChain l image at ws → CostsAtMost g (4 + 192 * length ws) first next)
walked_cost g first now next l test at count left place word failed step w some looks =
    chain_costs first.bytes l test at (count * l.kinds) left place word 192 (g.asked first.image) (g.asked next.image) step w.few w.way
    (inr (refl, some))
    (asks_then (4 + 192 * (count * l.kinds - left)) 192 (4 + 192 * (count * l.kinds - left) + 192) (g.asked first.image)
    (g.asked now.image) (g.asked next.image) w.frame.cost looks.cost (omega arith))

pub walked_cost_here : {I : Type 0} (g : Ghosts I) (first now : Drafted I) (l : Links) (test : ℕ → List ℕ → Bool)
    (at count left place word : ℕ)
    → 0 < l.step → Walked g first now l test at count left place word
    → IfSome first.bytes (λ image. (ws : List ℕ) → HasChain l image at ws → CostsAtMost g (4 + 192 * length ws) first now)
walked_cost_here g first now l test at count left place word step w =
    chain_costs first.bytes l test at (count * l.kinds) left place word 0 (g.asked first.image) (g.asked now.image) step w.few w.way
    (inl refl)
    (asks_then (4 + 192 * (count * l.kinds - left)) 0 (4 + 192 * (count * l.kinds - left) + 0) (g.asked first.image) (g.asked now.image)
    (g.asked now.image) w.frame.cost (asks_none 0 (g.asked now.image)) (omega arith))
