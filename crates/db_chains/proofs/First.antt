-- The first word of a chain, taken out.
use Rattle.std.proofs.Common.{◌≡◌, ◌≢◌, ℕ, ◌+◌, ◌<◌, ◌≤◌, inl, inr, Bool, true, false, cond, List, [], ◌∷◌, Option, Some, None, IfSome, length, drop, refl, sym, ap, subst, ◌∙◌, ⊎_elim, arith}
use Rattle.std.specs.Prelude.{IsSomeAnd, ◌==◌, slice_get}
use Rattle.std.specs.Option.{option_map}
use Rattle.std.proofs.lemmas.Bool.{both_ways, eq-eqb, ne_eqb}
use Rattle.db_image.specs.declared.faults.RecordFault.{RecordFault}
use Rattle.db_image.specs.declared.faults.RecordFault.TheVariants.{DiskFault, BadRecord, NoMemory}
use Rattle.db_blocks.specs.Blocks.{IsWhole, block_count, block_place, word_at}
use Rattle.db_blocks.specs.Ends.{HasCause}
use Rattle.db_chains.specs.declared.links.Links.{Links}
use Rattle.db_chains.specs.Chains.{HasChain}
use Rattle.db_chains.specs.Changes.{IsHeadPlace, first_at, taken_out, without_first}
use Rattle.db_chains.specs.Ends.{HasSome, IsBadFirst, IsBadWhere}
use Rattle.db_chains.specs.Links.{AreLinks, is_right}
use Rattle.db_chains.proofs.Changed.{chain_taken_out}
use Rattle.db_chains.proofs.Words.{right_some}

none_at : (b : Bool) (w : ℕ) → b ≡ true → None ≡ cond b None (Some w)
none_at true w is = refl
none_at false w is = absurd cc

keeps : (b : Bool) (x y : List ℕ) → b ≡ true → x ≡ cond b x y
keeps true x y is = refl
keeps false x y is = absurd cc

changes : (b : Bool) (x y : List ℕ) → b ≡ false → y ≡ cond b x y
changes true x y is = absurd cc
changes false x y is = refl

-- ---- there is none

pub none_word : (a : Option (List ℕ)) (at word : ℕ) → IfSome a (λ image. word ≡ word_at image at) → word ≡ 0
    → IfSome a (λ image. None ≡ first_at image at)
none_word None at word stands none = tt
none_word (Some image) at word stands none = none_at (word_at image at == 0) (word_at image at)
    (eq-eqb (word_at image at) 0 (sym stands ∙ none))

pub none_bytes : (a b : Option (List ℕ)) (l : Links) (at word : ℕ) → b ≡ a → IfSome a (λ image. word ≡ word_at image at) → word ≡ 0
    → b ≡ option_map (without_first l at) a
unfolding without_first
none_bytes None b l at word same stands none = same
none_bytes (Some image) b l at word same stands none =
    same ∙ ap Some (keeps (word_at image at == 0) image (taken_out l at image) (eq-eqb (word_at image at) 0 (sym stands ∙ none)))

none_of_chain : (l : Links) (image : List ℕ) (at : ℕ) (ws : List ℕ) → 0 < l.step → word_at image at ≡ 0 → HasChain l image at ws → ws ≡ []
none_of_chain l image at [] step none chain = refl
none_of_chain l image at (w ∷ ws) step none chain = absurd (right_some l image w step chain.1 (sym chain.0 ∙ none))

pub none_chain : (a b : Option (List ℕ)) (l : Links) (at word : ℕ) → 0 < l.step → b ≡ a → IfSome a (λ image. word ≡ word_at image at)
    → word ≡ 0
    → IfSome a (λ image. (ws : List ℕ) → HasChain l image at ws → (None ≡ slice_get ws 0) × IsSomeAnd b (λ new. HasChain l new at
    (drop 1 ws)))
none_chain None b l at word step same stands none = tt
none_chain (Some image) b l at word step same stands none = λ ws chain.
    let empty : ws ≡ [] = none_of_chain l image at ws step (sym stands ∙ none) chain in
    let all : (None ≡ slice_get ws 0) × IsSomeAnd (Some image) (λ new. HasChain l new at (drop 1 ws)) =
    subst (λ (vs : List ℕ). (None ≡ slice_get vs 0) × HasChain l image at (drop 1 vs)) (sym empty) (refl, sym stands ∙ none) in
    (all.0, subst (λ (o : Option (List ℕ)). IsSomeAnd o (λ new. HasChain l new at (drop 1 ws))) (sym same) all.1)

-- ---- there is one

pub some_bytes : (a b c : Option (List ℕ)) (l : Links) (at word : ℕ) → b ≡ a → IfSome a (λ image. word ≡ word_at image at) → word ≢ 0
    → c ≡ option_map (taken_out l at) b → c ≡ option_map (without_first l at) a
unfolding without_first
some_bytes None b c l at word same stands some bytes = bytes ∙ ap (option_map (taken_out l at)) same
some_bytes (Some image) b c l at word same stands some bytes =
    bytes ∙ ap (option_map (taken_out l at)) same
    ∙ ap Some (changes (word_at image at == 0) image (taken_out l at image) (ne_eqb (word_at image at) 0 (λ none. some (stands ∙ none))))

split_first : (l : Links) (image new : List ℕ) (at word : ℕ) (ws : List ℕ) → AreLinks l → IsHeadPlace l at → at + 4 ≤ length image
    → word ≡ word_at image at → word ≢ 0 → HasChain l image at ws
    → (Some word ≡ slice_get ws 0) × HasChain l (taken_out l at image) at (drop 1 ws)
split_first l image new at word [] links head within stands some chain = absurd (some (stands ∙ chain))
split_first l image new at word (w ∷ ws) links head within stands some chain =
    let same : word ≡ w = stands ∙ chain.0 in (
      ap Some same,
      chain_taken_out l image at w [] ws links head within chain,
    )

pub some_chain : (a b c : Option (List ℕ)) (l : Links) (at len word : ℕ) → AreLinks l → IsHeadPlace l at
    → IfSome a (λ image. length image ≡ len)
    → at + 4 ≤ len → b ≡ a → IfSome a (λ image. word ≡ word_at image at) → word ≢ 0
    → c ≡ option_map (taken_out l at) b
    → IfSome a (λ image. (ws : List ℕ) → HasChain l image at ws → (Some word ≡ slice_get ws 0) × IsSomeAnd c (λ new. HasChain l new at
    (drop 1 ws)))
some_chain None b c l at len word links head told within same stands some bytes = tt
some_chain (Some image) b c l at len word links head told within same stands some bytes = λ ws chain.
    let made : c ≡ Some (taken_out l at image) = bytes ∙ ap (option_map (taken_out l at)) same in
    let both = split_first l image image at word ws links head (omega arith) stands some chain in
    (both.0, subst (λ (o : Option (List ℕ)). IsSomeAnd o (λ new. HasChain l new at (drop 1 ws))) (sym made) both.1)

-- ---- bad records

pub bad_count : (bytes : Option (List ℕ)) (l : Links) (at len : ℕ) (fault : RecordFault) → fault ≡ BadRecord len
    → IfSome bytes (λ image. length image ≡ len) → ((k : ℕ) → len ≢ block_place l.head k) → IsBadWhere bytes (IsBadFirst l at) fault
bad_count None l at len fault is told other = subst (IsBadWhere None (IsBadFirst l at)) (sym is) tt
bad_count (Some image) l at len fault is told other =
    subst (IsBadWhere (Some image) (IsBadFirst l at)) (sym is)
    (inl (sym told, λ whole. other (block_count l.head image) (sym told ∙ whole)))

pub bad_link : (bytes now : Option (List ℕ)) (l : Links) (at word : ℕ) (fault : RecordFault) → now ≡ bytes
    → IfSome bytes (λ image. word ≡ word_at image at)
    → word ≢ 0 → IsBadWhere now (λ image bad. (bad ≡ at) × (is_right l image word ≡ false)) fault → IsBadWhere bytes (IsBadFirst l at) fault
bad_link bytes now l at word DiskFault same stands some cause = tt
bad_link bytes now l at word NoMemory same stands some cause = tt
bad_link None now l at word (BadRecord bad) same stands some cause = tt
bad_link (Some image) now l at word (BadRecord bad) same stands some cause =
    let c = subst (λ (b : Option (List ℕ)). IfSome b (λ image. (bad ≡ at) × (is_right l image word ≡ false))) same cause in
    inr (c.0, (λ none. some (stands ∙ none)), ap (is_right l image) (sym stands) ∙ c.1)

wrong_first : (l : Links) (image : List ℕ) (at : ℕ) (ws : List ℕ) → word_at image at ≢ 0 → is_right l image (word_at image at) ≡ false
    → HasChain l image at ws → ⊥
wrong_first l image at [] some wrong chain = some chain
wrong_first l image at (w ∷ ws) some wrong chain = both_ways (is_right l image (word_at image at)) wrong
    (ap (is_right l image) chain.0 ∙ chain.1)

pub first_cause : (bytes : Option (List ℕ)) (l : Links) (at : ℕ) (fault : RecordFault) → IsBadWhere bytes (IsBadFirst l at) fault
    → HasCause bytes (HasSome l at) fault
first_cause bytes l at DiskFault cause = tt
first_cause bytes l at NoMemory cause = tt
first_cause None l at (BadRecord bad) cause = tt
first_cause (Some image) l at (BadRecord bad) cause = λ has.
    ⊎_elim (λ (other : (bad ≡ length image) × ¬ IsWhole l.head image). other.1 has.0)
    (λ (wrong : (bad ≡ at) × (word_at image at ≢ 0) × (is_right l image
    (word_at image at) ≡ false)). wrong_first l image at has.1.0 wrong.1 wrong.2 has.1.1)
    cause
