-- Ascending lists, joined and taken apart.
use Rattle.std.proofs.Common.{◌≡◌, ◌≢◌, ℕ, ℤ, pos, zero, suc, ◌+◌, ◌-◌, ◌<◌, ◌≤◌, List, [], ◌∷◌, ◌++◌, length, get_or, take, drop, refl, sym, ap, subst, ◌∙◌, ⊎_elim, inl, inr, arith}
use Rattle.std.specs.Prelude.{◌<ℤ◌, ◌≤ℤ◌, ◌⊎◌}
use Rattle.std.specs.List.{All, Contains}
use Rattle.std.proofs.lemmas.Bool.{cases_lt, cases_eq}
use Rattle.std.proofs.lemmas.Int.{ints}
use Rattle.std.proofs.lemmas.List.{length-append, get_or_append_left, get_or-append_right, get_or-append-add, get_or_default, take-append-drop, length-take-le}
use Rattle.std.proofs.lemmas.List.Elements.{Contains-append_left, Contains-append_right, Contains-append_cases}
use Rattle.std.specs.Prelude.{IsTrue, int_lt}
use Rattle.entry_scans.specs.Lists.{IsAscending}
use Rattle.prdb_lists.specs.Lists.{IsRank}

pub lt_same : (a b x y : ℤ) → x ≡ a → y ≡ b → a <ℤ b → x <ℤ y
lt_same a b x y p q less = subst (λ (v : ℤ). x <ℤ v) (sym q) (subst (λ (v : ℤ). v <ℤ b) (sym p) less)

pub lt_on : (a b c : ℤ) → a <ℤ b → b <ℤ c → a <ℤ c
lt_on a b c p q = omega (arith, ints)

pub not_self : (a : ℤ) → a <ℤ a → ⊥
not_self a p = omega (arith, ints)

pub le_ne : (a b : ℤ) → a ≤ℤ b → b ≢ a → a <ℤ b
le_ne a b p other = grind (arith, ints)

-- each id of one list is below each of another
abbrev pub IsApart : List ℤ → List ℤ → Type 0
IsApart a b = (i j : ℕ) (d : ℤ) → i < length a → j < length b → get_or a i d <ℤ get_or b j d

pub ascending_none : IsAscending []
ascending_none i j d less below = absurd (omega arith)

pub ascending_one : (x : ℤ) → IsAscending (x ∷ [])
ascending_one x i j d less below = absurd (omega arith)

pub ascending_join : (a b : List ℤ) → IsAscending a → IsAscending b → IsApart a b → IsAscending (a ++ b)
ascending_join a b in_a in_b apart i j d less below =
    let len = length-append a b in
    ⊎_elim
    (λ (j_in : j < length a).
    lt_same _ _ _ _ (get_or_append_left a b d i (omega arith)) (get_or_append_left a b d j j_in) (in_a i j d less j_in))
    (λ (j_out : length a ≤ j). ⊎_elim
    (λ (i_in : i < length a). lt_same _ _ _ _ (get_or_append_left a b d i i_in) (get_or-append_right a b (length a) j d refl j_out)
    (apart i (j - length a) d i_in (omega arith)))
    (λ (i_out : length a ≤ i).
    lt_same _ _ _ _ (get_or-append_right a b (length a) i d refl i_out) (get_or-append_right a b (length a) j d refl j_out)
    (in_b (i - length a) (j - length a) d (omega arith) (omega arith)))
    (cases_lt i (length a)))
    (cases_lt j (length a))

pub ascending_left : (a b : List ℤ) → IsAscending (a ++ b) → IsAscending a
ascending_left a b is i j d less below =
    lt_same _ _ _ _ (sym (get_or_append_left a b d i (omega arith))) (sym (get_or_append_left a b d j below))
    (is i j d less (omega (arith, length-append a b)))

pub ascending_right : (a b : List ℤ) → IsAscending (a ++ b) → IsAscending b
ascending_right a b is i j d less below =
    lt_same _ _ _ _ (sym (get_or-append-add a b i d)) (sym (get_or-append-add a b j d))
    (is (length a + i) (length a + j) d (omega arith) (omega (arith, length-append a b)))

pub ascending_apart : (a b : List ℤ) → IsAscending (a ++ b) → IsApart a b
ascending_apart a b is i j d in_a in_b =
    lt_same _ _ _ _ (sym (get_or_append_left a b d i in_a)) (sym (get_or-append-add a b j d))
    (is i (length a + j) d (omega arith) (omega (arith, length-append a b)))

-- all ids of a list are below one
pub apart_one : (a : List ℤ) (x : ℤ) → All (λ y. y <ℤ x) a → IsApart a (x ∷ [])
apart_one a x all i zero d in_a in_b = all i d in_a
apart_one a x all i (suc j) d in_a in_b = absurd (omega arith)

pub one_apart : (a : List ℤ) (x : ℤ) → IsApart a (x ∷ []) → All (λ y. y <ℤ x) a
one_apart a x apart i d in_a = apart i 0 d in_a (omega arith)

pub below_last : (ids : List ℤ) (id : ℤ) → IsAscending ids → 1 ≤ length ids → get_or ids (length ids - 1) (pos 0) <ℤ id
    → All (λ x. x <ℤ id) ids
below_last ids id is some last k d below =
    let at : get_or ids (length ids - 1) d
    <ℤ id = lt_same _ _ _ _ (get_or_default ids (length ids - 1) d (pos 0) (omega arith)) refl last in
    ⊎_elim
    (λ (same : k ≡ length ids - 1). lt_same _ _ _ _ (ap (λ (n : ℕ). get_or ids n d) same) refl at)
    (λ (other : k ≢ length ids - 1). lt_on _ _ _ (is k (length ids - 1) d (omega arith) (omega arith)) at)
    (cases_eq k (length ids - 1))

-- ---- a list at the rank of an id

-- what stands before the rank is below the id, and what stands behind it is not
pub record IsCut (below behind : List ℤ) (id : ℤ) : Type 0 where
  pub ascending : IsAscending (below ++ behind)
  pub less : All (λ x. x <ℤ id) below
  pub not_less : All (λ x. id ≤ℤ x) behind

pub cut_at : (ids below behind : List ℤ) (id : ℤ) (rank : ℕ) → IsAscending ids → IsRank ids id rank → ids ≡ below ++ behind
    → length below ≡ rank
    → IsCut below behind id
cut_at ids below behind id rank is at parts len = record {
  ascending = subst IsAscending parts is;
  less = λ k d h.
      lt_same _ _ _ _ (sym (get_or_append_left below behind d k h) ∙ ap (λ (l : List ℤ). get_or l k d) (sym parts)) refl
      (at.within k d (omega arith));
  not_less = λ k d h.
      let long : rank + k < length ids = omega (arith, ap length parts, length-append below behind) in
      let here : get_or behind k d ≡ get_or ids (rank + k) d = sym (get_or-append-add below behind k d)
      ∙ ap (λ (l : List ℤ). get_or l (length below + k) d) (sym parts) ∙ ap (λ (n : ℕ). get_or ids (n + k) d) len in
      let first : id ≤ℤ get_or ids rank d = at.behind d (omega arith) in
      subst (λ (v : ℤ). id ≤ℤ v) (sym here) (⊎_elim
      (λ (same : k ≡ 0). subst (λ (n : ℕ). id ≤ℤ get_or ids n d) (omega arith) first)
      (λ (other : k ≢ 0). let next : get_or ids rank d <ℤ get_or ids (rank + k) d = is rank (rank + k) d (omega arith) long in
      omega (arith, ints))
      (cases_eq k 0));
}

-- the first id behind is above it, so all are
pub above_first : (below behind : List ℤ) (id : ℤ) → IsCut below behind id → ((d : ℤ) → 0 < length behind → get_or behind 0 d ≢ id)
    → IsApart (id ∷ []) behind
above_first below behind id cut other zero j d in_a in_b =
    let tail = ascending_right below behind cut.ascending in
    let first : id <ℤ get_or behind 0 d = le_ne _ _ (cut.not_less 0 d (omega arith)) (other d (omega arith)) in
    ⊎_elim
    (λ (same : j ≡ 0). subst (λ (n : ℕ). id <ℤ get_or behind n d) (sym same) first)
    (λ (more : j ≢ 0). lt_on _ _ _ first (tail 0 j d (omega arith) in_b))
    (cases_eq j 0)
above_first below behind id cut other (suc i) j d in_a in_b = absurd (omega arith)

apart_join : (a b c : List ℤ) → IsApart a c → IsApart b c → IsApart (a ++ b) c
apart_join a b c in_a in_b i j d below in_c =
    ⊎_elim
    (λ (i_in : i < length a). lt_same _ _ _ _ (get_or_append_left a b d i i_in) refl (in_a i j d i_in in_c))
    (λ (i_out : length a ≤ i).
    lt_same _ _ _ _ (get_or-append_right a b (length a) i d refl i_out) refl
    (in_b (i - length a) j d (omega (arith, length-append a b)) in_c))
    (cases_lt i (length a))

pub with_ascending : (below behind : List ℤ) (id : ℤ) → IsCut below behind id → IsApart (id ∷ []) behind
    → IsAscending ((below ++ id ∷ []) ++ behind)
with_ascending below behind id cut above =
    let front = ascending_left below behind cut.ascending in
    let tail = ascending_right below behind cut.ascending in
    ascending_join (below ++ id ∷ []) behind
    (ascending_join below (id ∷ []) front (ascending_one id) (apart_one below id cut.less)) tail
    (apart_join below (id ∷ []) behind (ascending_apart below behind cut.ascending) above)

-- ---- whether an id is above all

pub lt_from : (a b : ℤ) → IsTrue (int_lt a b) → a <ℤ b
lt_from a b e = grind (arith, ints)

pub lt_to : (a b : ℤ) → a <ℤ b → IsTrue (int_lt a b)
lt_to a b h = grind (arith, ints)

pub below_answer : (self ids : List ℤ) (id last : ℤ) → ids ≡ self → IsAscending ids → 1 ≤ length ids
    → last ≡ get_or ids (length ids - 1) (pos 0)
    → (IsTrue (int_lt last id) → All (λ x. x <ℤ id) self) × (All (λ x. x <ℤ id) self → IsTrue (int_lt last id))
below_answer self ids id last same is some at = (
  λ less. subst (λ (l : List ℤ). All (λ x. x <ℤ id) l) same
      (below_last ids id is some (lt_same _ _ _ _ (sym at) refl (lt_from last id less))),
  λ all.
      let below : All (λ x. x <ℤ id) ids = subst (λ (l : List ℤ). All (λ x. x <ℤ id) l) (sym same) all in
      lt_to last id (lt_same _ _ _ _ at refl (below (length ids - 1) (pos 0) (omega arith))),
)

-- ---- the list with an id in its place

-- the same list, where the id is there
pub joined_same : (ids below behind : List ℤ) (rank : ℕ) → below ≡ take rank ids → behind ≡ drop rank ids → below ++ behind ≡ ids
joined_same ids below behind rank front back =
    ap (λ (l : List ℤ). l ++ behind) front ∙ ap (λ (l : List ℤ). take rank ids ++ l) back ∙ take-append-drop rank ids

pub cut_of : (ids below behind : List ℤ) (id : ℤ) (rank : ℕ) → IsAscending ids → IsRank ids id rank → below ≡ take rank ids
    → behind ≡ drop rank ids
    → IsCut below behind id
cut_of ids below behind id rank is at front back =
    cut_at ids below behind id rank is at (sym (joined_same ids below behind rank front back))
    (ap length front ∙ length-take-le rank ids at.most)

-- the id is not among those behind, where it is not there
other_first : (ids below behind : List ℤ) (id : ℤ) → below ++ behind ≡ ids → ¬ Contains ids id → (d : ℤ) → 0 < length behind
    → get_or behind 0 d ≢ id
other_first ids below behind id same not d some is =
    not (subst (λ (l : List ℤ). Contains l id) same
    (Contains-append_right below behind id (0, some, get_or_default behind 0 id d some ∙ is)))

pub is_ascending_with : (ids below behind made : List ℤ) (id : ℤ) (rank : ℕ) → IsAscending ids → IsRank ids id rank → below ≡ take rank ids
    → behind ≡ drop rank ids
    → ¬ Contains ids id → made ≡ below ++ id ∷ [] → IsAscending (made ++ behind)
is_ascending_with ids below behind made id rank is at front back not made_is =
    let cut = cut_of ids below behind id rank is at front back in
    subst (λ (l : List ℤ). IsAscending (l ++ behind)) (sym made_is)
    (with_ascending below behind id cut
    (above_first below behind id cut (other_first ids below behind id (joined_same ids below behind rank front back) not)))

unfoldable pub IsWith : (ids : List ℤ) → ℤ → List ℤ → Type 0
IsWith ids id after = (x : ℤ) → (Contains after x → (x ≡ id) ⊎ Contains ids x) × ((x ≡ id) ⊎ Contains ids x → Contains after x)

one_is : (id x : ℤ) → Contains (id ∷ []) x → x ≡ id
one_is id x (zero, below, is) = sym is
one_is id x (suc k, below, is) = absurd (omega arith)

pub members_with : (ids below behind made : List ℤ) (id : ℤ) (rank : ℕ) → below ≡ take rank ids → behind ≡ drop rank ids
    → made ≡ below ++ id ∷ []
    → IsWith ids id (made ++ behind)
unfolding IsWith
members_with ids below behind made id rank front back made_is =
    let same = joined_same ids below behind rank front back in
    subst (λ (l : List ℤ). (x : ℤ)
    → (Contains (l ++ behind) x → (x ≡ id) ⊎ Contains ids x) × ((x ≡ id) ⊎ Contains ids x → Contains (l ++ behind) x)) (sym made_is)
    (λ x. (
      λ there. elim (Contains-append_cases (below ++ id ∷ []) behind x there) [
        | inl front_has ↦ elim (Contains-append_cases below (id ∷ []) x front_has) [
          | inl has ↦ inr (subst (λ (l : List ℤ). Contains l x) same (Contains-append_left below behind x has))
          | inr one ↦ inl (one_is id x one)
        ]
        | inr has ↦ inr (subst (λ (l : List ℤ). Contains l x) same (Contains-append_right below behind x has))
      ],
      λ either. elim either [
        | inl is ↦ Contains-append_left (below ++ id ∷ []) behind x (Contains-append_right below (id ∷ []) x (0, omega arith, sym is))
        | inr has ↦ elim (Contains-append_cases below behind x (subst (λ (l : List ℤ). Contains l x) (sym same) has)) [
          | inl before ↦ Contains-append_left (below ++ id ∷ []) behind x (Contains-append_left below (id ∷ []) x before)
          | inr after ↦ Contains-append_right (below ++ id ∷ []) behind x after
        ]
      ],
    ))

pub members_same : (ids below behind : List ℤ) (id : ℤ) (rank : ℕ) → below ≡ take rank ids → behind ≡ drop rank ids → Contains ids id
    → IsWith ids id (below ++ behind)
unfolding IsWith
members_same ids below behind id rank front back there =
    let same = joined_same ids below behind rank front back in
    subst (λ (l : List ℤ). (x : ℤ) → (Contains l x → (x ≡ id) ⊎ Contains ids x) × ((x ≡ id) ⊎ Contains ids x → Contains l x)) (sym same)
    (λ x. (λ has. inr has, λ either. elim either [ inl is ↦ subst (λ (v : ℤ). Contains ids v) (sym is) there | inr has ↦ has ]))

pub is_ascending_same : (ids below behind : List ℤ) (rank : ℕ) → IsAscending ids → below ≡ take rank ids → behind ≡ drop rank ids
    → IsAscending (below ++ behind)
is_ascending_same ids below behind rank is front back = subst IsAscending (sym (joined_same ids below behind rank front back)) is
