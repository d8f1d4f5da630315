-- How the words of a line go on behind those that were cut.
use Rattle.std.proofs.Common.{◌≡◌, ◌==◌, ◌∙◌, ℕ, Bool, true, false, List, [], ◌∷◌, ◌++◌, Option, Some, None, Result, Ok, Err, OnOk, option_map, refl, ap, sym, subst, append-nil, append_assoc}
use Rattle.ubik_types.specs.declared.memory.NoMemory.{NoMemory}
use Rattle.command_lines.specs.Cuts.{is_blank, onto_word, in_front, words_from, words_of, all_words}
use Rattle.command_lines.specs.declared.cuts.Place.{Place}
use Rattle.command_lines.specs.declared.cuts.Place.TheVariants.{Between, Inside, Quoted}

onto_onto : (word bytes : List ℕ) (more : List (List ℕ)) → onto_word word (onto_word bytes more) ≡ onto_word (word ++ bytes) more
onto_onto word bytes [] = refl
onto_onto word bytes (w ∷ more) = ap (λ x. x ∷ more) (sym (append_assoc word bytes w))

onto_nil : (more : List (List ℕ)) → onto_word [] more ≡ more
onto_nil [] = refl
onto_nil (w ∷ more) = refl

-- a byte is added to the word under way
grown : (words : List (List ℕ)) (word : List ℕ) (b : ℕ) (r : Option (List (List ℕ))) →
    in_front words (word ++ b ∷ []) r ≡ in_front words word (option_map (onto_word (b ∷ [])) r)
grown words word b None = refl
grown words word b (Some more) = ap (λ m. Some (words ++ m)) (sym (onto_onto word (b ∷ []) more))

-- the word under way ends
closed : (words : List (List ℕ)) (word : List ℕ) (r : Option (List (List ℕ))) →
    in_front (words ++ word ∷ []) [] r ≡ in_front words word (option_map (λ ws. [] ∷ ws) r)
closed words word None = refl
closed words word (Some more) =
    ap Some (ap (λ m. (words ++ word ∷ []) ++ m) (onto_nil more)
    ∙ append_assoc words (word ∷ []) more ∙ ap (λ w. words ++ w ∷ more) (sym (append-nil word)))

-- a byte between quotes is added
quoted_byte : (words : List (List ℕ)) (word : List ℕ) (b : ℕ) → (b == 34) ≡ false → (rest : List ℕ) →
    all_words words (word ++ b ∷ []) Quoted rest ≡ all_words words word Quoted (b ∷ rest)
quoted_byte words word b e rest = rw e (grown words word b (words_from Quoted rest))

-- a byte of a word is added
inside_byte : (words : List (List ℕ)) (word : List ℕ) (b : ℕ) → (b == 34) ≡ false → is_blank b ≡ false → (rest : List ℕ) →
    all_words words (word ++ b ∷ []) Inside rest ≡ all_words words word Inside (b ∷ rest)
inside_byte words word b e k rest = rw (e, k) (grown words word b (words_from Inside rest))

-- a blank ends a word
inside_blank : (words : List (List ℕ)) (word : List ℕ) (b : ℕ) → (b == 34) ≡ false → is_blank b ≡ true → (rest : List ℕ) →
    all_words (words ++ word ∷ []) [] Between rest ≡ all_words words word Inside (b ∷ rest)
inside_blank words word b e k rest = rw (e, k) (closed words word (words_from Between rest))

-- a byte begins a word
first_byte : (words : List (List ℕ)) (b : ℕ) → (b == 34) ≡ false → is_blank b ≡ false → (rest : List ℕ) →
    all_words words ([] ++ b ∷ []) Inside rest ≡ all_words words [] Between (b ∷ rest)
first_byte words b e k rest = rw (e, k) (grown words [] b (words_from Inside rest))

whole : (r : Option (List (List ℕ))) → in_front [] [] r ≡ r
whole None = refl
whole (Some more) = ap Some (onto_nil more)

-- before the first byte all words are to come
pub none_cut : (line : List ℕ) → all_words [] [] Between line ≡ words_of line
none_cut line = whole (words_from Between line)

-- a quote begins or ends, and a blank between words is nothing
pub opened_between : (words : List (List ℕ)) (word : List ℕ) (at : Place) (b : ℕ) → at ≡ Between → (b == 34) ≡ true → (rest : List ℕ) →
    all_words words word Quoted rest ≡ all_words words word at (b ∷ rest)
opened_between words word at b p q rest = rw (p, q) refl

pub opened_inside : (words : List (List ℕ)) (word : List ℕ) (at : Place) (b : ℕ) → at ≡ Inside → (b == 34) ≡ true → (rest : List ℕ) →
    all_words words word Quoted rest ≡ all_words words word at (b ∷ rest)
opened_inside words word at b p q rest = rw (p, q) refl

pub quote_ended : (words : List (List ℕ)) (word : List ℕ) (at : Place) (b : ℕ) → at ≡ Quoted → (b == 34) ≡ true → (rest : List ℕ) →
    all_words words word Inside rest ≡ all_words words word at (b ∷ rest)
quote_ended words word at b p q rest = rw (p, q) refl

pub passed : (words : List (List ℕ)) (word : List ℕ) (at : Place) (b : ℕ) → at ≡ Between → (b == 34) ≡ false → is_blank b ≡ true →
    (rest : List ℕ) → all_words words word at rest ≡ all_words words word at (b ∷ rest)
passed words word at b p q k rest = rw (p, q, k) refl

-- what a step leaves that may fail for want of memory
left_by : (r : Result (Unit {0}) NoMemory) (new old ended : List (List ℕ)) (under word longer : List ℕ) (to at place from : Place) (b : ℕ) →
    at ≡ from → OnOk r (new ≡ ended) → OnOk r (under ≡ longer) → OnOk r (to ≡ place) →
    ((rest : List ℕ) → all_words ended longer place rest ≡ all_words old word from (b ∷ rest)) →
    OnOk r ((rest : List ℕ) → all_words new under to rest ≡ all_words old word at (b ∷ rest))
left_by (Err e) new old ended under word longer to at place from b p n u t step = tt
left_by (Ok _) new old ended under word longer to at place from b p n u t step = λ rest.
    let goal_at : Place → Type 0 = λ q. all_words new under to rest ≡ all_words old word q (b ∷ rest) in
    let goal_to : Place → Type 0 = λ q. all_words new under q rest ≡ all_words old word from (b ∷ rest) in
    let goal_under : List ℕ → Type 0 = λ w. all_words new w place rest ≡ all_words old word from (b ∷ rest) in
    let goal_new : List (List ℕ) → Type 0 = λ ws. all_words ws longer place rest ≡ all_words old word from (b ∷ rest) in
    subst goal_at (sym p) (subst goal_to (sym t) (subst goal_under (sym u) (subst goal_new (sym n) (step rest))))

always : {P : Type 0} (r : Result (Unit {0}) NoMemory) → P → OnOk r P
always (Err e) p = tt
always (Ok _) p = p

pub pushed_quoted : (r : Result (Unit {0}) NoMemory) (new old : List (List ℕ)) (under word : List ℕ) (to at : Place) (b : ℕ) →
    at ≡ Quoted → (b == 34) ≡ false → new ≡ old → OnOk r (under ≡ word ++ b ∷ []) → OnOk r (to ≡ Quoted) →
    OnOk r ((rest : List ℕ) → all_words new under to rest ≡ all_words old word at (b ∷ rest))
pushed_quoted r new old under word to at b p q n u t =
    left_by r new old old under word (word ++ b ∷ []) to at Quoted Quoted b p (always r n) u t (quoted_byte old word b q)

pub pushed_inside : (r : Result (Unit {0}) NoMemory) (new old : List (List ℕ)) (under word : List ℕ) (to at : Place) (b : ℕ) →
    at ≡ Inside → (b == 34) ≡ false → is_blank b ≡ false → new ≡ old → OnOk r (under ≡ word ++ b ∷ []) → OnOk r (to ≡ Inside) →
    OnOk r ((rest : List ℕ) → all_words new under to rest ≡ all_words old word at (b ∷ rest))
pushed_inside r new old under word to at b p q k n u t =
    left_by r new old old under word (word ++ b ∷ []) to at Inside Inside b p (always r n) u t (inside_byte old word b q k)

pub pushed_first : (r : Result (Unit {0}) NoMemory) (new old : List (List ℕ)) (under word : List ℕ) (to at : Place) (b : ℕ) →
    at ≡ Between → word ≡ [] → (b == 34) ≡ false → is_blank b ≡ false → new ≡ old → OnOk r (under ≡ word ++ b ∷ []) → OnOk r (to ≡ Inside) →
    OnOk r ((rest : List ℕ) → all_words new under to rest ≡ all_words old word at (b ∷ rest))
pushed_first r new old under word to at b p w q k n u t =
    let from_nil : List ℕ → Type 0 = λ v. OnOk r ((rest : List ℕ) → all_words new under to rest ≡ all_words old v at (b ∷ rest)) in
    let longer : OnOk r (under ≡ [] ++ b ∷ []) = subst (λ (v : List ℕ). OnOk r (under ≡ v ++ b ∷ [])) w u in
    subst from_nil (sym w)
    (left_by r new old old under [] ([] ++ b ∷ []) to at Inside Between b p (always r n) longer t (first_byte old b q k))

pub closed_inside : (r : Result (Unit {0}) NoMemory) (new old : List (List ℕ)) (under word : List ℕ) (to at : Place) (b : ℕ) →
    at ≡ Inside → (b == 34) ≡ false → is_blank b ≡ true → OnOk r (new ≡ old ++ word ∷ []) → OnOk r (under ≡ []) → OnOk r (to ≡ Between) →
    OnOk r ((rest : List ℕ) → all_words new under to rest ≡ all_words old word at (b ∷ rest))
closed_inside r new old under word to at b p q k n u t =
    left_by r new old (old ++ word ∷ []) under word [] to at Between Inside b p n u t (inside_blank old word b q k)
