-- A list that is sorted, and that keeps the order of what ties, is the one that inserts make.
use Rattle.std.proofs.Common.{◌≡◌, ℕ, zero, suc, ◌<◌, ◌≤◌, Bool, true, false, not, cond, List, [], ◌∷◌, length, get_or, filter, refl, sym, ap, subst, ◌∙◌, inl, inr, suc-le-suc, zero-le}
use Rattle.std.proofs.lemmas.Bool.{cond-true, cond-false, cases_Bool, and_parts, not-true}
use Rattle.std.proofs.lemmas.List.Sorted.{sorted_far}
use Rattle.std.specs.Cmp.{IsStrictWeakOrder}
use Rattle.std.specs.List.Sorted.{ties, IsSortedBy, IsStableBy}
use Rattle.vos_tool.specs.Ordering.{put_in, sorted_by}

module _ {X : Type 0} (lt : X → X → Bool) (o : IsStrictWeakOrder lt) where
  kept : (p : X → Bool) (y : X) (ys : List X) → p y ≡ true → filter p (y ∷ ys) ≡ y ∷ filter p ys
  kept p y ys h = cond-true _ _ _ h

  dropped : (p : X → Bool) (y : X) (ys : List X) → p y ≡ false → filter p (y ∷ ys) ≡ filter p ys
  dropped p y ys h = cond-false _ _ _ h

  -- what ties comes on neither side before
  apart : (x y : X) → ties lt x y ≡ true → (lt x y ≡ false) × (lt y x ≡ false)
  apart x y h =
      let parts = and_parts (not (lt x y)) (not (lt y x)) h in
      (not-true _ parts.0, not-true _ parts.1)

  tied : (x y : X) → lt x y ≡ false → lt y x ≡ false → ties lt x y ≡ true
  tied x y one other = rw one (rw other refl)

  not_itself : (x : X) → lt x x ≡ false
  not_itself x = elim (cases_Bool (lt x x)) [ inl before ↦ o.one_way x x before | inr so ↦ so ]

  self_tied : (x : X) → ties lt x x ≡ true
  self_tied x = tied x x (not_itself x) (not_itself x)

  put_in-nil : (e : X) → put_in lt e [] ≡ e ∷ []
  unfolding put_in
  put_in-nil e = refl

  put_in-past : (e x : X) (xs : List X) → lt x e ≡ true → put_in lt e (x ∷ xs) ≡ x ∷ put_in lt e xs
  unfolding put_in
  put_in-past e x xs h = cond-true _ _ _ h

  put_in-here : (e x : X) (xs : List X) → lt x e ≡ false → put_in lt e (x ∷ xs) ≡ e ∷ x ∷ xs
  unfolding put_in
  put_in-here e x xs h = cond-false _ _ _ h

  sorted_by-nil : sorted_by lt [] ≡ []
  unfolding sorted_by
  sorted_by-nil = refl

  sorted_by-cons : (x : X) (xs : List X) → sorted_by lt (x ∷ xs) ≡ put_in lt x (sorted_by lt xs)
  unfolding sorted_by
  sorted_by-cons x xs = refl

  filter-put_in : (x e : X) (ys : List X) → filter (ties lt x) (put_in lt e ys) ≡ filter (ties lt x) (e ∷ ys)
  filter-put_in x e [] = ap (filter (ties lt x)) (put_in-nil e)
  filter-put_in x e (y ∷ ys) =
      let p = ties lt x in
      elim (cases_Bool (lt y e)) [
        | inr here ↦ ap (filter p) (put_in-here e y ys here)
        | inl past ↦
            ap (filter p) (put_in-past e y ys past)
            ∙ elim (cases_Bool (p y)) [
              | inr without ↦
                  dropped p y (put_in lt e ys) without ∙ filter-put_in x e ys
                  ∙ ap (λ l. cond (p e) (e ∷ l) l) (sym (dropped p y ys without))
              | inl with ↦
                  elim (cases_Bool (p e)) [
                    | inl both ↦
                        let clash = sym past ∙ o.chain y x e (apart x y with).1 (apart x e both).0 in cc
                    | inr only ↦
                        kept p y (put_in lt e ys) with ∙ ap (λ l. y ∷ l) (filter-put_in x e ys ∙ dropped p e ys only)
                        ∙ sym (dropped p e (y ∷ ys) only ∙ kept p y ys with)
                  ]
            ]
      ]

  filter-sorted_by : (x : X) (xs : List X) → filter (ties lt x) (sorted_by lt xs) ≡ filter (ties lt x) xs
  filter-sorted_by x [] = ap (filter (ties lt x)) sorted_by-nil
  filter-sorted_by x (y ∷ ys) =
      ap (filter (ties lt x)) (sorted_by-cons y ys) ∙ filter-put_in x y (sorted_by lt ys)
      ∙ ap (λ l. cond (ties lt x y) (y ∷ l) l) (filter-sorted_by x ys)

  -- none of them comes before n
  abbrev NoneBefore : X → List X → Type 0
  NoneBefore n [] = Unit {0}
  NoneBefore n (y ∷ ys) = (lt y n ≡ false) × NoneBefore n ys

  abbrev Rises : List X → Type 0
  Rises [] = Unit {0}
  Rises (y ∷ ys) = NoneBefore y ys × Rises ys

  NoneBefore-chain : (n m : X) (ys : List X) → lt m n ≡ false → NoneBefore m ys → NoneBefore n ys
  NoneBefore-chain n m [] le h = tt
  NoneBefore-chain n m (y ∷ ys) le h = (o.chain y m n h.0 le, NoneBefore-chain n m ys le h.1)

  NoneBefore-at : (n : X) (ys : List X) → ((j : ℕ) → j < length ys → lt (get_or ys j n) n ≡ false) → NoneBefore n ys
  NoneBefore-at n [] h = tt
  NoneBefore-at n (y ∷ ys) h = (h zero (suc-le-suc zero-le), NoneBefore-at n ys (λ j below. h (suc j) (suc-le-suc below)))

  Rises-from_sort : (ys : List X) → ((i j : ℕ) (d : X) → i ≤ j → j < length ys → lt (get_or ys j d) (get_or ys i d) ≡ false) → Rises ys
  Rises-from_sort [] h = tt
  Rises-from_sort (y ∷ ys) h = (
    NoneBefore-at y ys (λ j below. h zero (suc j) y zero-le (suc-le-suc below)),
    Rises-from_sort ys (λ i j d le below. h (suc i) (suc j) d (suc-le-suc le) (suc-le-suc below)),
  )

  NoneBefore-put_in : (n e : X) (ys : List X) → lt e n ≡ false → NoneBefore n ys → NoneBefore n (put_in lt e ys)
  NoneBefore-put_in n e [] le h = subst (NoneBefore n) (sym (put_in-nil e)) (le, tt)
  NoneBefore-put_in n e (y ∷ ys) le h =
      elim (cases_Bool (lt y e)) [
        | inr here ↦ subst (NoneBefore n) (sym (put_in-here e y ys here)) (le, h)
        | inl past ↦ subst (NoneBefore n) (sym (put_in-past e y ys past)) (h.0, NoneBefore-put_in n e ys le h.1)
      ]

  Rises-put_in : (e : X) (ys : List X) → Rises ys → Rises (put_in lt e ys)
  Rises-put_in e [] h = subst Rises (sym (put_in-nil e)) (tt, tt)
  Rises-put_in e (y ∷ ys) h =
      elim (cases_Bool (lt y e)) [
        | inr here ↦ subst Rises (sym (put_in-here e y ys here)) ((here, NoneBefore-chain e y ys here h.0), h)
        | inl past ↦
            subst Rises (sym (put_in-past e y ys past))
            (NoneBefore-put_in y e ys (o.one_way y e past) h.0, Rises-put_in e ys h.1)
      ]

  Rises-sorted_by : (xs : List X) → Rises (sorted_by lt xs)
  Rises-sorted_by [] = subst Rises (sym sorted_by-nil) tt
  Rises-sorted_by (x ∷ xs) = subst Rises (sym (sorted_by-cons x xs)) (Rises-put_in x (sorted_by lt xs) (Rises-sorted_by xs))

  -- one that ties with x is among them
  NoneBefore-found : (n x : X) (ys : List X) (w : X) (ws : List X) → NoneBefore n ys → filter (ties lt x) ys ≡ w ∷ ws → lt x n ≡ false
  NoneBefore-found n x [] w ws h e = cc
  NoneBefore-found n x (y ∷ ys) w ws h e =
      elim (cases_Bool (ties lt x y)) [
        | inl with ↦ o.chain x y n (apart x y with).0 h.0
        | inr without ↦ NoneBefore-found n x ys w ws h.1 (sym (dropped (ties lt x) y ys without) ∙ e)
      ]

  same_from_ties : (ys zs : List X) → Rises ys → Rises zs → ((x : X) → filter (ties lt x) ys ≡ filter (ties lt x) zs) → ys ≡ zs
  same_from_ties [] [] left right same = refl
  same_from_ties [] (z ∷ zs) left right same = let clash = same z ∙ kept (ties lt z) z zs (self_tied z) in cc
  same_from_ties (y ∷ ys) [] left right same = let clash = sym (same y) ∙ kept (ties lt y) y ys (self_tied y) in cc
  same_from_ties (y ∷ ys) (z ∷ zs) left right same =
      let at_y = kept (ties lt y) y ys (self_tied y) in
      let at_z = kept (ties lt z) z zs (self_tied z) in
      let up = NoneBefore-found z y (z ∷ zs) y _ (not_itself z, right.0) (sym (same y) ∙ at_y) in
      let down = NoneBefore-found y z (y ∷ ys) z _ (not_itself y, left.0) (same z ∙ at_z) in
      let heads = sym at_y ∙ same y ∙ kept (ties lt y) z zs (tied y z up down) in
      let head : y ≡ z = cc in
      let tails : (x : X) → filter (ties lt x) ys ≡ filter (ties lt x) zs =
      λ x. elim (cases_Bool (ties lt x y)) [
        | inl with ↦
            let both = sym (kept (ties lt x) y ys with) ∙ same x ∙ kept (ties lt x) z zs (ap (ties lt x) (sym head) ∙ with) in cc
        | inr without ↦
            sym (dropped (ties lt x) y ys without) ∙ same x ∙ dropped (ties lt x) z zs (ap (ties lt x) (sym head) ∙ without)
      ] in
      ap (λ w. w ∷ ys) head ∙ ap (λ l. z ∷ l) (same_from_ties ys zs left.1 right.1 tails)

  pub sorted_by-from_sort : (xs ys : List X) → IsSortedBy lt ys → IsStableBy lt xs ys → ys ≡ sorted_by lt xs
  sorted_by-from_sort xs ys sorted stable =
      same_from_ties ys (sorted_by lt xs) (Rises-from_sort ys (sorted_far lt o ys sorted)) (Rises-sorted_by xs)
      (λ x. stable x ∙ sym (filter-sorted_by x xs))
