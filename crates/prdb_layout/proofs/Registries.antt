-- A registry that is changed as it may be is valid.
use Rattle.std.proofs.Common.{◌≡◌, ◌≢◌, ℕ, ℤ, Option, Some, None, IsSome, IsSomeAnd, ◌<◌, length, get_or, refl, sym, ap, subst, ◌∙◌, ⊎_elim, inl, inr, arith}
use Rattle.std.specs.List.{All}
use Rattle.std.proofs.lemmas.List.{length-map, get_or-map}
use Rattle.prdb_layout.specs.Registry.{Registry, IsRegistry, IsRecord, IsAmong, IsFixedId, AreMaxima, MayBeAdded, MayReplace, MayBeRemoved, with_entry, without_entry, with_maxima}
use Rattle.prdb_layout.specs.State.{PrEntry, fixed_entries}
use Rattle.prdb_layout.proofs.Changed.{under_same, under_other, by_id, some_same}

-- a fact on each entry of the old ones, and on this one, is one on each of the new ones
each_with : (r : Registry) (e : PrEntry) (P : ℤ → PrEntry → Type 0) → P e.id e → ((id : ℤ) (f : PrEntry) → r.entry id ≡ Some f → P id f)
    → (id : ℤ) (f : PrEntry) → (with_entry e r).entry id ≡ Some f → P id f
each_with r e P here others id f at =
    by_id id e.id
    (λ same.
    let is : e ≡ f = some_same (sym (under_same e.id id (Some e) r.entry same) ∙ at) in
    subst (λ (z : ℤ). P z f) (sym same) (subst (P e.id) is here))
    (λ other. others id f (sym (under_other e.id id (Some e) r.entry other) ∙ at))

some_with : (r : Registry) (e : PrEntry) (id : ℤ) → IsSome (r.entry id) → IsSome ((with_entry e r).entry id)
some_with r e id some =
    by_id id e.id
    (λ same. subst (λ (o : Option PrEntry). IsSome o) (sym (under_same e.id id (Some e) r.entry same)) refl)
    (λ other. subst (λ (o : Option PrEntry). IsSome o) (sym (under_other e.id id (Some e) r.entry other)) some)

among_with : (r : Registry) (e f : PrEntry) → IsAmong r.entry f → IsAmong (with_entry e r).entry f
among_with r e f is = record {
  owner = ⊎_elim (λ none. inl none) (λ some. inr (some_with r e f.owner some)) is.owner;
  creator = is.creator;
}

fixed_with : (r : Registry) (e f : PrEntry) → IsSomeAnd (r.entry f.id) (λ g. g.name ≡ f.name) → (f.id ≡ e.id → e.name ≡ f.name)
    → IsSomeAnd ((with_entry e r).entry f.id) (λ g. g.name ≡ f.name)
fixed_with r e f was name =
    by_id f.id e.id
    (λ same. subst (λ (o : Option PrEntry). IsSomeAnd o (λ g. g.name ≡ f.name)) (sym (under_same e.id f.id (Some e) r.entry same))
    (name same))
    (λ other. subst (λ (o : Option PrEntry). IsSomeAnd o (λ g. g.name ≡ f.name)) (sym (under_other e.id f.id (Some e) r.entry other)) was)

pub registry_with : (r : Registry) (e : PrEntry) → IsRegistry r → IsRecord e → IsAmong (with_entry e r).entry e
    → ((other : ℤ) (f : PrEntry) → r.entry other ≡ Some f → f.name ≡ e.name → other ≡ e.id)
    → All (λ f. f.id ≡ e.id → e.name ≡ f.name) fixed_entries
    → IsRegistry (with_entry e r)
registry_with r e valid is among name fixed = record {
  ids = each_with r e (λ id f. f.id ≡ id) refl valid.ids;
  records = each_with r e (λ id f. IsRecord f) is valid.records;
  among = each_with r e (λ id f. IsAmong (with_entry e r).entry f) among (λ id f at. among_with r e f (valid.among id f at));
  names =
      λ a b f g at_a at_b same. each_with r e (λ z h. (c : ℤ) (k : PrEntry) → (with_entry e r).entry c ≡ Some k → h.name ≡ k.name → z ≡ c)
      (each_with r e (λ c k. e.name ≡ k.name → e.id ≡ c) (λ eq. refl) (λ c k at eq. sym (name c k at (sym eq))))
      (λ z h at. each_with r e (λ c k. h.name ≡ k.name → z ≡ c) (λ eq. name z h at eq) (λ c k other eq. valid.names z c h k at other eq))
      a f at_a b g at_b same;
  fixed = λ i d below. fixed_with r e (get_or fixed_entries i d) (valid.fixed i d below) (fixed i d below);
  maxima = valid.maxima;
}

not_none : (o : Option PrEntry) (f : PrEntry) → IsSomeAnd o (λ g. g.name ≡ f.name) → o ≡ None → ⊥
not_none None f is none = is
not_none (Some g) f is none = cc

pub registry_added : (r : Registry) (e : PrEntry) → IsRegistry r → IsRecord e → MayBeAdded e r → IsRegistry (with_entry e r)
registry_added r e valid is may =
    registry_with r e valid is may.among
    (λ other f at same. absurd (may.name other f at same))
    (λ i d below same. absurd
    (not_none (r.entry (get_or fixed_entries i d).id) (get_or fixed_entries i d) (valid.fixed i d below) (ap r.entry same ∙ may.id)))

pub registry_replaced : (r : Registry) (id : ℤ) (e : PrEntry) → IsRegistry r → IsRecord e → MayReplace id e r → IsRegistry (with_entry e r)
registry_replaced r id e valid is may =
    registry_with r e valid is may.among
    (λ other f at same. may.name other f at same ∙ sym may.same_id)
    (λ i d below same. may.fixed i d below (same ∙ may.same_id))

-- ---- without an entry

each_without : (r : Registry) (gone : ℤ) (P : ℤ → PrEntry → Type 0) → ((id : ℤ) (f : PrEntry) → r.entry id ≡ Some f → P id f)
    → (id : ℤ) (f : PrEntry) → (without_entry gone r).entry id ≡ Some f → P id f
each_without r gone P others id f at =
    by_id id gone
    (λ same. let none = sym (under_same gone id None r.entry same) ∙ at in absurd cc)
    (λ other. others id f (sym (under_other gone id None r.entry other) ∙ at))

among_without : (r : Registry) (gone : ℤ) (f : PrEntry) → IsAmong r.entry f → f.owner ≢ gone → IsAmong (without_entry gone r).entry f
among_without r gone f is other = record {
  owner =
      ⊎_elim (λ none. inl none)
      (λ some. inr (subst (λ (o : Option PrEntry). IsSome o) (sym (under_other gone f.owner None r.entry other)) some)) is.owner;
  creator = is.creator;
}

fixed_other : (gone : ℤ) (i : ℕ) (d : PrEntry) → (below : i < length fixed_entries) → ¬ IsFixedId gone
    → (get_or fixed_entries i d).id ≢ gone
fixed_other gone i d below not = λ same. not (
  i,
  omega (arith, below, length-map fixed_entries (λ (e : PrEntry). e.id)),
  get_or-map (λ (e : PrEntry). e.id) fixed_entries i d gone below ∙ same,
)

pub registry_removed : (r : Registry) (gone : ℤ) → IsRegistry r → MayBeRemoved gone r → IsRegistry (without_entry gone r)
registry_removed r gone valid may = record {
  ids = each_without r gone (λ id f. f.id ≡ id) valid.ids;
  records = each_without r gone (λ id f. IsRecord f) valid.records;
  among =
      each_without r gone (λ id f. IsAmong (without_entry gone r).entry f)
      (λ id f at. among_without r gone f (valid.among id f at) (may.owns_nothing id f at));
  names =
      λ a b f g at_a at_b same. each_without r gone
      (λ z h. (c : ℤ) (k : PrEntry) → (without_entry gone r).entry c ≡ Some k → h.name ≡ k.name → z ≡ c)
      (λ z h at. each_without r gone (λ c k. h.name ≡ k.name → z ≡ c) (λ c k other eq. valid.names z c h k at other eq))
      a f at_a b g at_b same;
  fixed = λ i d below. subst (λ (o : Option PrEntry). IsSomeAnd o (λ e. e.name ≡ (get_or fixed_entries i d).name))
      (sym (under_other gone (get_or fixed_entries i d).id None r.entry (fixed_other gone i d below may.not_fixed)))
      (valid.fixed i d below);
  maxima = valid.maxima;
}

pub registry_maxima : (r : Registry) (user group : ℤ) → IsRegistry r → AreMaxima user group → IsRegistry (with_maxima user group r)
registry_maxima r user group valid is = record {
  ids = valid.ids;
  records = valid.records;
  among = valid.among;
  names = valid.names;
  fixed = valid.fixed;
  maxima = is;
}
