-- A word that goes out of one chain, and the chains beside it.
use Rattle.std.proofs.Common.{◌≡◌, ◌≢◌, ℕ, zero, suc, ◌+◌, ◌<◌, ◌≤◌, ◌⊎◌, inl, inr, ⊎_elim, true, List, [], ◌∷◌, ◌++◌, length, get_or, refl, sym, ap, subst, arith}
use Rattle.std.specs.List.{AllByRecursion, Contains}
use Rattle.std.proofs.lemmas.Bool.{cases_eq}
use Rattle.db_chains.specs.declared.links.Links.{Links}
use Rattle.db_chains.specs.Chains.{HasChain}
use Rattle.db_chains.specs.Changes.{IsHeadPlace, taken_out, without}
use Rattle.db_chains.specs.Links.{AreLinks, is_right, next_place}
use Rattle.db_chains.specs.Others.{AreApart, AreOtherSorts, HaveNoneOf}
use Rattle.db_chains.specs.Visits.{Visits}
use Rattle.db_chains.specs.Walks.{place_behind}
use Rattle.db_chains.proofs.Changed.{apart_front, apart_rest, chain_taken_out, others_of}
use Rattle.db_chains.proofs.Others.{taken_chains, taken_sorts}
use Rattle.db_chains.proofs.Stops.{word_behind}
use Rattle.db_chains.proofs.Entered.{first_or_rest, not_among}

-- ---- lists

-- a list about a word of it
pub record Split (n : ℕ) (ws : List ℕ) : Type 0 where
  pub front : List ℕ
  pub back : List ℕ
  pub all : front ++ n ∷ back ≡ ws

pub split_at : (n : ℕ) (ws : List ℕ) (i : ℕ) → i < length ws → get_or ws i n ≡ n → Split n ws
split_at n [] i below at = absurd (omega arith)
split_at n (w ∷ ws) zero below at = record { front = []; back = ws; all = ap (λ (v : ℕ). v ∷ ws) (sym at) }
split_at n (w ∷ ws) (suc i) below at =
    let s = split_at n ws i (omega arith) at in
    record { front = w ∷ s.front; back = s.back; all = ap (λ (t : List ℕ). w ∷ t) s.all }

pub here : (w v : ℕ) (ws : List ℕ) → v ≡ w → Contains (w ∷ ws) v
here w v ws same = (0, omega arith, sym same)

pub later : (w v : ℕ) (ws : List ℕ) → Contains ws v → Contains (w ∷ ws) v
later w v ws has = (suc has.0, omega (arith, has.1), has.2)

-- a word of the list without another one, and a word of the list that is another one
pub among_all : (n w : ℕ) (front back : List ℕ) → Contains (front ++ back) w → Contains (front ++ n ∷ back) w
among_all n w [] back has = later n w back has
among_all n w (f ∷ front) back has =
    ⊎_elim (λ (rest : Contains (front ++ back) w). later f w (front ++ n ∷ back) (among_all n w front back rest))
    (λ (same : w ≡ f). here f w (front ++ n ∷ back) same)
    (first_or_rest f w (front ++ back) has.0 has.1 has.2)

among_left : (n w : ℕ) (front back : List ℕ) → w ≢ n → Contains (front ++ n ∷ back) w → Contains (front ++ back) w
among_left n w [] back other has =
    ⊎_elim (λ (rest : Contains back w). rest) (λ (same : w ≡ n). absurd (other same)) (first_or_rest n w back has.0 has.1 has.2)
among_left n w (f ∷ front) back other has =
    ⊎_elim (λ (rest : Contains (front ++ n ∷ back) w). later f w (front ++ back) (among_left n w front back other rest))
    (λ (same : w ≡ f). here f w (front ++ back) same)
    (first_or_rest f w (front ++ n ∷ back) has.0 has.1 has.2)

pub in_front : (w : ℕ) (front back : List ℕ) → Contains front w → Contains (front ++ back) w
in_front w [] back has = absurd (omega (arith, has.1))
in_front w (f ∷ front) back has =
    ⊎_elim (λ (rest : Contains front w). later f w (front ++ back) (in_front w front back rest))
    (λ (same : w ≡ f). here f w (front ++ back) same)
    (first_or_rest f w front has.0 has.1 has.2)

pub all_at : (P : ℕ → Type 0) (ws : List ℕ) (w i : ℕ) → AllByRecursion P ws → i < length ws → get_or ws i w ≡ w → P w
all_at P [] w i all below at = absurd (omega arith)
all_at P (v ∷ ws) w zero all below at = subst P at all.0
all_at P (v ∷ ws) w (suc i) all below at = all_at P ws w i all.1 (omega arith) at

pub all_of : (P : ℕ → Type 0) (ws : List ℕ) → ((w : ℕ) → Contains ws w → P w) → AllByRecursion P ws
all_of P [] each = tt
all_of P (w ∷ ws) each = (each w (here w w ws refl), all_of P ws (λ v has. each v (later w v ws has)))

none_of : (P Q : ℕ → Type 0) (ws vs : List ℕ) → ((w : ℕ) → Contains ws w → P w) → ((v : ℕ) → Contains vs v → Q v)
    → ((w : ℕ) → P w → Q w → ⊥) → HaveNoneOf ws vs
none_of P Q ws vs in_ws in_vs never =
    all_of (λ w. AllByRecursion (λ v. v ≢ w) vs) ws (λ w has. not_among Q w vs in_vs (never w (in_ws w has)))

pub among_this : (n : ℕ) (front back : List ℕ) → Contains (front ++ n ∷ back) n
among_this n [] back = here n n back refl
among_this n (f ∷ front) back = later f n (front ++ n ∷ back) (among_this n front back)

-- ---- the chain that a word goes out of, and others of its sort

-- a place of a chain is its first, or that behind one of its words
pub place_kind : (l : Links) (image : List ℕ) (at : ℕ) (front back : List ℕ) → HasChain l image at (front ++ back)
    → (place_behind l at front ≡ at)
    ⊎ ((v : ℕ) × (place_behind l at front ≡ next_place l v) × (is_right l image v ≡ true) × Contains front v)
place_kind l image at [] back chain = inl refl
place_kind l image at (f ∷ front) back chain =
    ⊎_elim
    (λ (first : place_behind l (next_place l f) front ≡ next_place l f). inr (f, first, chain.1, here f f front refl))
    (λ (behind : (v : ℕ) × (place_behind l (next_place l f) front ≡ next_place l v) × (is_right l image v ≡ true) × Contains front v).
    inr (behind.0, behind.1, behind.2, later f behind.0 front behind.3))
    (place_kind l image (next_place l f) front back chain.2)

-- where a word stands in its chain
pub record Stands (l : Links) (image : List ℕ) (at n : ℕ) (P : ℕ → Type 0) : Type 0 where
  pub front : List ℕ
  pub back : List ℕ
  pub chain : HasChain l image at (front ++ n ∷ back)
  pub only : (w : ℕ) → Contains (front ++ n ∷ back) w → P w
  pub each : (w : ℕ) → P w → Contains (front ++ n ∷ back) w
  pub others : AllByRecursion (λ v. v ≢ n) (front ++ back)
  pub out : without l at n image ≡ taken_out l (place_behind l at front) image

pub stands : (l : Links) (image : List ℕ) (at n : ℕ) (P : ℕ → Type 0) → AreLinks l → Visits l image at P → P n → Stands l image at n P
stands l image at n P links v belongs =
    let has = v.each n belongs in
    let s = split_at n v.words has.0 has.1 has.2 in
    let chain : HasChain l image at (s.front ++ n ∷ s.back) = subst (HasChain l image at) (sym s.all) v.chain in
    let others = others_of l image at n s.front s.back links chain in
    record {
      front = s.front;
      back = s.back;
      chain = chain;
      only = λ w among. v.only w (subst (λ (ws : List ℕ). Contains ws w) s.all among);
      each = λ w there. subst (λ (ws : List ℕ). Contains ws w) (sym s.all) (v.each w there);
      others = others;
      out = ap (λ (p : ℕ). taken_out l p image)
          (word_behind l image at n s.front s.back links.step chain (apart_front (λ v. v ≢ n) s.front s.back others));
    }

pub take_own : (l : Links) (image : List ℕ) (at n : ℕ) (P : ℕ → Type 0) → AreLinks l → IsHeadPlace l at → at + 4 ≤ length image
    → Stands l image at n P → Visits l (without l at n image) at (λ w. P w × (w ≢ n))
take_own l image at n P links place within s = record {
  words = s.front ++ s.back;
  chain = subst (λ (i : List ℕ). HasChain l i at (s.front ++ s.back)) (sym s.out)
      (chain_taken_out l image at n s.front s.back links place within s.chain);
  only = λ w has. (
    s.only w (among_all n w s.front s.back has),
    all_at (λ v. v ≢ n) (s.front ++ s.back) w has.0 s.others has.1 has.2,
  );
  each = λ w belongs. among_left n w s.front s.back belongs.1 (s.each w belongs.0);
}

pub take_same_sort : (l : Links) (image : List ℕ) (at bt n : ℕ) (P Q : ℕ → Type 0) → AreLinks l → AreApart at bt → IsHeadPlace l at
    → IsHeadPlace l bt → at + 4 ≤ length image → bt + 4 ≤ length image → P n → ((w : ℕ) → P w → Q w → ⊥) → Stands l image at n P
    → Visits l image bt Q → Visits l (without l at n image) bt (λ w. Q w × (w ≢ n))
take_same_sort l image at bt n P Q links apart place_a place_b in_a in_b belongs never s v =
    let all = none_of P Q (s.front ++ n ∷ s.back) v.words s.only v.only never in
    let none = λ (w : ℕ). AllByRecursion (λ v. v ≢ w) v.words in
    record {
      words = v.words;
      chain = subst (λ (i : List ℕ). HasChain l i bt v.words) (sym s.out)
          (taken_chains l image at bt n s.front s.back v.words links apart place_a place_b in_a in_b s.chain v.chain
          ((apart_rest none s.front (n ∷ s.back) all).0, apart_front none s.front (n ∷ s.back) all));
      only = λ w has. (v.only w has, λ same. never n belongs (subst Q same (v.only w has)));
      each = λ w there. v.each w there.0;
    }

pub take_other_sort : (l m : Links) (image : List ℕ) (at bt n : ℕ) (P : ℕ → Type 0) (vs : List ℕ) → AreLinks l → AreLinks m
    → AreOtherSorts l m at bt → IsHeadPlace l at → at + 4 ≤ length image → bt + 4 ≤ length image → Stands l image at n P
    → HasChain m image bt vs → HasChain m (without l at n image) bt vs
take_other_sort l m image at bt n P vs links_l links_m sorts place in_a in_b s chain =
    subst (λ (i : List ℕ). HasChain m i bt vs) (sym s.out)
    (taken_sorts l m image at bt n s.front s.back vs links_l links_m sorts place in_a in_b s.chain chain)

pub take_other_visits : (l m : Links) (image : List ℕ) (at bt n : ℕ) (P Q : ℕ → Type 0) → AreLinks l → AreLinks m
    → AreOtherSorts l m at bt → IsHeadPlace l at → at + 4 ≤ length image → bt + 4 ≤ length image → Stands l image at n P
    → Visits m image bt Q → Visits m (without l at n image) bt Q
take_other_visits l m image at bt n P Q links_l links_m sorts place in_a in_b s v = record {
  words = v.words;
  chain = take_other_sort l m image at bt n P v.words links_l links_m sorts place in_a in_b s v.chain;
  only = v.only;
  each = v.each;
}

-- the chains of one sort, whose first words stand in the head, after a word went out of that of a key
pub take_keyed : (l : Links) (image : List ℕ) (place : ℕ → ℕ) (key n : ℕ) (M : ℕ → ℕ → Type 0) → AreLinks l
    → ((k : ℕ) → k < 256 → place k + 4 ≤ l.head) → ((a b : ℕ) → a ≢ b → AreApart (place a) (place b)) → l.head ≤ length image
    → ((a b w : ℕ) → M a w → M b w → a ≡ b) → key < 256 → M key n
    → Stands l image (place key) n (M key) → ((k : ℕ) → k < 256 → Visits l image (place k) (M k))
    → (k : ℕ) → k < 256 → Visits l (without l (place key) n image) (place k) (λ w. M k w × (w ≢ n))
take_keyed l image place key n M links in_head apart long one low belongs s all k below =
    ⊎_elim
    (λ (same : k ≡ key).
    subst (λ (j : ℕ). Visits l (without l (place key) n image) (place j) (λ w. M j w × (w ≢ n))) (sym same)
    (take_own l image (place key) n (M key) links (inl (in_head key low)) (omega (arith, in_head key low)) s))
    (λ (other : k ≢ key).
    take_same_sort l image (place key) (place k) n (M key) (M k) links (apart key k (λ same. other (sym same))) (inl (in_head key low))
    (inl (in_head k below)) (omega (arith, in_head key low)) (omega (arith, in_head k below)) belongs
    (λ w a b. other (sym (one key k w a b))) s (all k below))
    (cases_eq k key)
