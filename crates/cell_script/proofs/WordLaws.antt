-- Words with gaps between them are read as these words.
use Rattle.std.proofs.Common.{◌≡◌, ℕ, ◌+◌, ◌-◌, ◌<◌, Bool, true, false, not, cond, List, [], ◌∷◌, ◌++◌, length, get_or, map, Some, None, refl, ap, ◌∙◌, arith, length-append, append_assoc}
use Rattle.std.specs.Prelude.{filter}
use Rattle.std.specs.List.{All, slice_split}
use Rattle.std.proofs.lemmas.Bool.{ne_eqb}
use Rattle.std.proofs.lemmas.List.{get_or-append-add}
use Rattle.std.proofs.lemmas.List.Elements.{All-head, All-tail}
use Rattle.std.proofs.lemmas.List.Splits.{slice_split-cons_yes, slice_split_none, slice_split_at}
use Rattle.cell_script.specs.Words.{is_blank, is_word, has_outer_blank, inner_words}
use Rattle.cell_script.specs.ScriptLaws.{IsWord, IsGap, spaced, ReadsSpacedWords}

-- a gap and a word after it
abbrev IsNext : List ℕ × List ℕ → Type 0
IsNext next = IsGap next.0 × IsWord next.1

-- a word is kept of the pieces
kept_first : (word : List ℕ) (pieces : List (List ℕ)) → 0 < length word → filter is_word (word ∷ pieces) ≡ word ∷ filter is_word pieces
kept_first word pieces some =
    let long : length word ≡ 0 → ⊥ = λ none. omega arith in
    ap (λ (none : Bool). cond (not none) (word ∷ filter is_word pieces) (filter is_word pieces)) (ne_eqb (length word) 0 long)

-- blanks that stand first add no word
inner_words-blanks : (blanks rest : List ℕ) → All (λ b. is_blank b ≡ true) blanks → inner_words (blanks ++ rest) ≡ inner_words rest
inner_words-blanks [] rest all = refl
inner_words-blanks (b ∷ blanks) rest all =
    ap (filter is_word) (slice_split-cons_yes is_blank b (blanks ++ rest) (All-head (λ c. is_blank c ≡ true) b blanks all))
    ∙ inner_words-blanks blanks rest (All-tail (λ c. is_blank c ≡ true) b blanks all)

-- the first word of a line
inner_words-word : (word gap rest : List ℕ) → IsWord word → IsGap gap → inner_words (word ++ gap ++ rest) ≡ word ∷ inner_words rest
inner_words-word word [] rest is_one gap_is = absurd (omega (arith, gap_is.0))
inner_words-word word (b ∷ gap) rest is_one gap_is =
    ap inner_words (append_assoc word (b ∷ gap) rest)
    ∙ ap (filter is_word) (slice_split_at is_blank word b (gap ++ rest) is_one.1 (All-head (λ c. is_blank c ≡ true) b gap gap_is.1))
    ∙ kept_first word (slice_split is_blank (gap ++ rest)) is_one.0
    ∙ ap (λ words. word ∷ words) (inner_words-blanks gap rest (All-tail (λ c. is_blank c ≡ true) b gap gap_is.1))

inner_words-spaced : (word : List ℕ) (more : List (List ℕ × List ℕ)) → IsWord word → All IsNext more →
    inner_words (spaced word more) ≡ word ∷ map (λ next. next.1) more
inner_words-spaced word [] is_one all =
    ap (filter is_word) (slice_split_none is_blank word is_one.1) ∙ kept_first word [] is_one.0
inner_words-spaced word (next ∷ more) is_one all =
    let is_next : IsNext next = All-head IsNext next more all in
    inner_words-word word next.0 (spaced next.1 more) is_one is_next.0
    ∙ ap (λ words. word ∷ words) (inner_words-spaced next.1 more is_next.1 (All-tail IsNext next more all))

-- a word stands first, and so no blank
first_of-spaced : (word : List ℕ) (more : List (List ℕ × List ℕ)) → IsWord word → is_blank (get_or (spaced word more) 0 0) ≡ false
first_of-spaced [] more is_one = absurd (omega (arith, is_one.0))
first_of-spaced (b ∷ word) [] is_one = All-head (λ c. is_blank c ≡ false) b word is_one.1
first_of-spaced (b ∷ word) (next ∷ more) is_one = All-head (λ c. is_blank c ≡ false) b word is_one.1

spaced_some : (word : List ℕ) (more : List (List ℕ × List ℕ)) → IsWord word → 0 < length (spaced word more)
spaced_some [] more is_one = absurd (omega (arith, is_one.0))
spaced_some (b ∷ word) [] is_one = omega arith
spaced_some (b ∷ word) (next ∷ more) is_one = omega arith

-- the last byte of two lists is that of the second
last_of-append : (xs ys : List ℕ) → 0 < length ys → get_or (xs ++ ys) (length (xs ++ ys) - 1) 0 ≡ get_or ys (length ys - 1) 0
last_of-append xs ys some =
    let at : length (xs ++ ys) - 1 ≡ length xs + (length ys - 1) = omega (arith, length-append xs ys) in
    ap (λ i. get_or (xs ++ ys) i 0) at ∙ get_or-append-add xs ys (length ys - 1) 0

-- a word stands last, and so no blank
last_of-spaced : (word : List ℕ) (more : List (List ℕ × List ℕ)) → IsWord word → All IsNext more →
    is_blank (get_or (spaced word more) (length (spaced word more) - 1) 0) ≡ false
last_of-spaced word [] is_one all = is_one.1 (length word - 1) 0 (omega (arith, is_one.0))
last_of-spaced word (next ∷ more) is_one all =
    let is_next : IsNext next = All-head IsNext next more all in
    ap is_blank (last_of-append (word ++ next.0) (spaced next.1 more) (spaced_some next.1 more is_next.1))
    ∙ last_of-spaced next.1 more is_next.1 (All-tail IsNext next more all)

pub words_of-spaced : ReadsSpacedWords
words_of-spaced word more is_one all =
    let inner : inner_words (spaced word more) ≡ word ∷ map (λ next. next.1) more = inner_words-spaced word more is_one all in
    let first : is_blank (get_or (spaced word more) 0 0) ≡ false = first_of-spaced word more is_one in
    let last : is_blank (get_or (spaced word more) (length (spaced word more) - 1) 0) ≡ false = last_of-spaced word more is_one all in
    let outer : has_outer_blank (spaced word more) ≡ false = rw (first, last) refl in
    ap (λ (blank : Bool). cond blank None (Some (inner_words (spaced word more)))) outer ∙ ap (λ words. Some words) inner
