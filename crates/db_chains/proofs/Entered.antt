-- A word that comes in front of one chain, and the chains beside it.
use Rattle.std.proofs.Common.{◌≡◌, ◌≢◌, ℕ, zero, suc, ◌+◌, ◌<◌, ◌≤◌, ◌⊎◌, inl, inr, ⊎_elim, true, List, [], ◌∷◌, length, get_or, refl, sym, subst, arith}
use Rattle.std.specs.List.{AllByRecursion, Contains}
use Rattle.std.proofs.lemmas.Bool.{cases_eq}
use Rattle.db_chains.specs.declared.links.Links.{Links}
use Rattle.db_chains.specs.Chains.{HasChain}
use Rattle.db_chains.specs.Changes.{IsHeadPlace, MayEnter, put_in}
use Rattle.db_chains.specs.Links.{AreLinks, is_right}
use Rattle.db_chains.specs.Others.{AreApart, AreOtherSorts}
use Rattle.db_chains.proofs.Changed.{chain_put_in}
use Rattle.db_chains.proofs.Others.{put_chains, put_sorts}
use Rattle.db_chains.specs.Visits.{Visits}

-- ---- lists

pub not_among : (P : ℕ → Type 0) (n : ℕ) (ws : List ℕ) → ((w : ℕ) → Contains ws w → P w) → (P n → ⊥) → AllByRecursion (λ v. v ≢ n) ws
not_among P n [] all never = tt
not_among P n (w ∷ ws) all never = (
  λ same. never (subst P same (all w (0, omega arith, refl))),
  not_among P n ws (λ v has. all v (suc has.0, omega (arith, has.1), has.2)) never,
)

pub first_or_rest : (n w : ℕ) (ws : List ℕ) (i : ℕ) → i < length (n ∷ ws) → get_or (n ∷ ws) i w ≡ w → Contains ws w ⊎ (w ≡ n)
first_or_rest n w ws zero below at = inr (sym at)
first_or_rest n w ws (suc i) below at = inl (i, omega arith, at)

-- ---- the chain that a word comes into, and others of its sort

pub visits_as : (l : Links) (image : List ℕ) (at : ℕ) (P Q : ℕ → Type 0) → ((w : ℕ) → P w → Q w) → ((w : ℕ) → Q w → P w)
    → Visits l image at P → Visits l image at Q
visits_as l image at P Q there back v = record {
  words = v.words;
  chain = v.chain;
  only = λ w has. there w (v.only w has);
  each = λ w belongs. v.each w (back w belongs);
}

pub put_own : (l : Links) (image : List ℕ) (at n : ℕ) (P : ℕ → Type 0) → AreLinks l → IsHeadPlace l at → at + 4 ≤ length image
    → is_right l image n ≡ true → (P n → ⊥) → Visits l image at P
    → Visits l (put_in l at n image) at (λ w. P w ⊎ (w ≡ n))
put_own l image at n P links place within is never v =
    let may : MayEnter l image n v.words = record { right = is; new = not_among P n v.words v.only never } in
    record {
      words = n ∷ v.words;
      chain = chain_put_in l image at n [] v.words links place within v.chain may;
      only = λ w has. ⊎_elim (λ (among : Contains v.words w). inl (v.only w among)) (λ (same : w ≡ n). inr same)
          (first_or_rest n w v.words has.0 has.1 has.2);
      each = λ w belongs. ⊎_elim
          (λ (old : P w). let has = v.each w old in (suc has.0, omega (arith, has.1), has.2))
          (λ (same : w ≡ n). (0, omega arith, sym same)) belongs;
    }

pub put_same_sort : (l : Links) (image : List ℕ) (at bt n : ℕ) (ws : List ℕ) (P : ℕ → Type 0) → AreLinks l → AreApart at bt
    → IsHeadPlace l at → IsHeadPlace l bt → at + 4 ≤ length image → bt + 4 ≤ length image → is_right l image n ≡ true → (P n → ⊥)
    → HasChain l image at ws → Visits l image bt P → Visits l (put_in l at n image) bt P
put_same_sort l image at bt n ws P links apart place_a place_b in_a in_b is never chain v = record {
  words = v.words;
  chain = put_chains l image at bt n [] ws v.words links apart place_a place_b in_a in_b chain is v.chain
      (not_among P n v.words v.only never, tt);
  only = v.only;
  each = v.each;
}

pub put_other_sort : (l m : Links) (image : List ℕ) (at bt n : ℕ) (ws vs : List ℕ) → AreLinks l → AreLinks m → AreOtherSorts l m at bt
    → IsHeadPlace l at → at + 4 ≤ length image → bt + 4 ≤ length image → is_right l image n ≡ true → HasChain l image at ws
    → HasChain m image bt vs → HasChain m (put_in l at n image) bt vs
put_other_sort l m image at bt n ws vs links_l links_m others place in_a in_b is chain there =
    put_sorts l m image at bt n [] ws vs links_l links_m others place in_a in_b chain is there

pub put_other_visits : (l m : Links) (image : List ℕ) (at bt n : ℕ) (ws : List ℕ) (P : ℕ → Type 0) → AreLinks l → AreLinks m
    → AreOtherSorts l m at bt → IsHeadPlace l at → at + 4 ≤ length image → bt + 4 ≤ length image → is_right l image n ≡ true
    → HasChain l image at ws → Visits m image bt P → Visits m (put_in l at n image) bt P
put_other_visits l m image at bt n ws P links_l links_m others place in_a in_b is chain v = record {
  words = v.words;
  chain = put_other_sort l m image at bt n ws v.words links_l links_m others place in_a in_b is chain v.chain;
  only = v.only;
  each = v.each;
}

-- the chains of one sort, whose first words stand in the head, after a word came in front of that of a key
pub put_keyed : (l : Links) (image : List ℕ) (place : ℕ → ℕ) (key n : ℕ) (M : ℕ → ℕ → Type 0) → AreLinks l
    → ((k : ℕ) → k < 256 → place k + 4 ≤ l.head) → ((a b : ℕ) → a ≢ b → AreApart (place a) (place b)) → l.head ≤ length image
    → is_right l image n ≡ true → ((k : ℕ) → M k n → ⊥) → key < 256
    → ((k : ℕ) → k < 256 → Visits l image (place k) (M k))
    → (k : ℕ) → k < 256 → Visits l (put_in l (place key) n image) (place k) (λ w. M k w ⊎ ((k ≡ key) × (w ≡ n)))
put_keyed l image place key n M links in_head apart long is never low all k below =
    ⊎_elim
    (λ (same : k ≡ key).
    let v = put_own l image (place key) n (M key) links (inl (in_head key low)) (omega (arith, in_head key low)) is (never key) (all key low) in
    subst (λ (j : ℕ). Visits l (put_in l (place key) n image) (place j) (λ w. M j w ⊎ ((j ≡ key) × (w ≡ n)))) (sym same) record {
      words = v.words;
      chain = v.chain;
      only = λ w has. ⊎_elim (λ (old : M key w). inl old) (λ (new : w ≡ n). inr (refl, new)) (v.only w has);
      each = λ w belongs. v.each w (⊎_elim (λ (old : M key w). inl old) (λ (new : (key ≡ key) × (w ≡ n)). inr new.1) belongs);
    })
    (λ (other : k ≢ key).
    let own = all key low in
    let v = put_same_sort l image (place key) (place k) n own.words (M k) links (apart key k (λ same. other (sym same)))
    (inl (in_head key low)) (inl (in_head k below)) (omega (arith, in_head key low)) (omega (arith, in_head k below)) is (never k) own.chain
    (all k below) in record {
      words = v.words;
      chain = v.chain;
      only = λ w has. inl (v.only w has);
      each = λ w belongs. v.each w (⊎_elim (λ (old : M k w). old) (λ (new : (k ≡ key) × (w ≡ n)). absurd (other new.0)) belongs);
    })
    (cases_eq k key)
