-- Entries may get another owner, one after the other, and which registry they are in then.
use Rattle.std.proofs.Common.{◌≡◌, ℤ, pos, Bool, true, false, ◌||◌, cond, List, [], ◌∷◌, get_or, Option, Some, None, IsSome, refl, sym, ap, subst, ◌∙◌, ⊎_elim, inl, inr, arith}
use Rattle.std.specs.Prelude.{FitsSigned, IsSomeAnd, option_map}
use Rattle.std.specs.Int.{w32}
use Rattle.std.specs.List.{AllByRecursion, list_any}
use Rattle.std.specs.Ordering.{int_eq}
use Rattle.std.proofs.lemmas.Bool.Decides.{Decides-int_eq}
use mathlib.Core.Path.{fun_ext}
use Rattle.prdb_layout.specs.Registry.{IsOwner, IsRecord, IsRegistry, MayReplace, Registry, with_entry}
use Rattle.prdb_layout.specs.State.{PrEntry, IsId, fixed_entries}
use Rattle.prdb_layout.proofs.Changed.{some_same}
use Rattle.prdb_layout.proofs.Lengths.{fits_id}
use Rattle.prdb_layout.proofs.Registries.{registry_replaced}
use Rattle.pt_service.proofs.Refitted.{some_with}
use Rattle.prdb_turns.specs.Owners.{MayGive, with_owner, with_owners}
use Rattle.prdb_turns.specs.Refits.{MayRefit, MayRefits, with_refit}

-- ---- one entry

named_so : (o : Option PrEntry) (e f : PrEntry) → IsSomeAnd o (λ g. g.name ≡ f.name) → o ≡ Some e → e.name ≡ f.name
named_so None e f named is = absurd named
named_so (Some g) e f named is = sym (ap (λ (x : PrEntry). x.name) (some_same is)) ∙ named

pub some_is : (o : Option PrEntry) → IsSome o → (e : PrEntry) × (o ≡ Some e)
some_is None is = absurd cc
some_is (Some e) is = (e, refl)

pub is_there : (o : Option PrEntry) (e : PrEntry) → o ≡ Some e → IsSome o
is_there o e is = subst (λ (x : Option PrEntry). IsSome x) (sym is) refl

may_give : (r : Registry) (e : PrEntry) (owner : ℤ) → IsRegistry r → r.entry e.id ≡ Some e → IsOwner r.entry owner
    → MayReplace e.id (with_owner owner e) r
may_give r e owner valid at there = record {
  there = is_there (r.entry e.id) e at;
  same_id = refl;
  name = λ other f there same. valid.names other e.id f e there at same;
  fixed = λ k d below same. named_so (r.entry (get_or fixed_entries k d).id) e (get_or fixed_entries k d) (valid.fixed k d below)
      (ap r.entry same ∙ at);
  among = record {
    owner = ⊎_elim (λ none. inl none) (λ some. inr (some_with r (with_owner owner e) owner some)) there;
    creator = (valid.among e.id e at).creator;
  };
}

owner_fits : (r : Registry) (owner : ℤ) → IsRegistry r → IsOwner r.entry owner → FitsSigned w32 owner
owner_fits r owner valid there =
    ⊎_elim
    (λ (none : owner ≡ pos 0). subst (λ (z : ℤ). FitsSigned w32 z) (sym none) (record { sfits = omega arith }))
    (λ (some : IsSome (r.entry owner)).
    let e = some_is (r.entry owner) some in
    fits_id owner (subst IsId (valid.ids owner e.0 e.1) (valid.records owner e.0 e.1).fields.id))
    there

pub given_record : (e : PrEntry) (owner : ℤ) → IsRecord e → FitsSigned w32 owner → IsRecord (with_owner owner e)
given_record e owner is fits = record {
  fields = record {
    name_bytes = is.fields.name_bytes;
    name_len = is.fields.name_len;
    name_text = is.fields.name_text;
    flags = is.fields.flags;
    id = is.fields.id;
    owner = fits;
    creator = is.fields.creator;
    quota = is.fields.quota;
  };
  name = is.name;
}

-- an entry that is there may have an owner that is there
pub may_one : (r : Registry) (x owner : ℤ) (e : PrEntry) → IsRegistry r → r.entry x ≡ Some e → IsOwner r.entry owner
    → MayRefit (with_owner owner) r e
may_one r x owner e valid at there =
    let own : e.id ≡ x = valid.ids x e at in (
      given_record e owner (valid.records x e at) (owner_fits r owner valid there),
      may_give r e owner valid (ap r.entry own ∙ at) there,
    )

-- ---- what stays

abbrev pub one_given : (owner : ℤ) → PrEntry → Registry → Registry
one_given owner e r = with_entry (with_owner owner e) r

owner_stays : (r : Registry) (e : PrEntry) (owner : ℤ) → IsOwner r.entry owner → IsOwner (one_given owner e r).entry owner
owner_stays r e owner there = ⊎_elim (λ none. inl none) (λ some. inr (some_with r (with_owner owner e) owner some)) there

all_stay : (r : Registry) (e : PrEntry) (owner : ℤ) (xs : List ℤ) → AllByRecursion (λ id. IsSome (r.entry id)) xs
    → AllByRecursion (λ id. IsSome ((one_given owner e r).entry id)) xs
all_stay r e owner [] all = tt
all_stay r e owner (x ∷ xs) all = (some_with r (with_owner owner e) x all.0, all_stay r e owner xs all.1)

-- ---- all of them

pub record IsGiving (owner : ℤ) (xs : List ℤ) (r : Registry) : Type 0 where
  pub valid : IsRegistry r
  pub may : MayGive xs owner r

giving_next : (owner x : ℤ) (xs : List ℤ) (r : Registry) (e : PrEntry) → IsGiving owner (x ∷ xs) r → r.entry x ≡ Some e
    → IsGiving owner xs (one_given owner e r)
giving_next owner x xs r e t at =
    let one = may_one r x owner e t.valid at t.may.owner_there in
    record {
      valid = registry_replaced r e.id (with_owner owner e) t.valid one.0 one.1;
      may = record {
        there = all_stay r e owner xs t.may.there.1;
        owner_there = owner_stays r e owner t.may.owner_there;
      };
    }

pub gives_may : (owner : ℤ) (xs : List ℤ) (r : Registry) → IsGiving owner xs r → MayRefits (with_owner owner) xs r
gives_may owner [] r t = tt
gives_may owner (x ∷ xs) r t =
    let e = some_is (r.entry x) t.may.there.0 in
    subst (λ (o : Option PrEntry). IsSomeAnd o (MayRefit (with_owner owner) r) × MayRefits (with_owner owner) xs
    (with_refit (with_owner owner) o r)) (sym e.1)
    (may_one r x owner e.0 t.valid e.1 t.may.owner_there, gives_may owner xs (one_given owner e.0 r) (giving_next owner x xs r e.0 t e.1))

-- ---- which registry it is then

-- the entries of these ids have another owner
abbrev pub all_given : (owner : ℤ) → List ℤ → Registry → Registry
all_given owner xs r = record r { entry = λ id. cond (list_any (int_eq id) xs) (option_map (with_owner owner) (r.entry id)) (r.entry id) }

by_tests : (owner : ℤ) (a b : Bool) (e : PrEntry) (o : Option PrEntry) → (a ≡ true → o ≡ Some e)
    → cond b (option_map (with_owner owner) (cond a (Some (with_owner owner e)) o)) (cond a (Some (with_owner owner e)) o)
    ≡ cond (a || b) (option_map (with_owner owner) o) o
by_tests owner true true e o at = sym (ap (option_map (with_owner owner)) (at refl))
by_tests owner true false e o at = sym (ap (option_map (with_owner owner)) (at refl))
by_tests owner false true e o at = refl
by_tests owner false false e o at = refl

given_at : (owner x : ℤ) (xs : List ℤ) (r : Registry) (e : PrEntry) (y : ℤ) → r.entry x ≡ Some e → e.id ≡ x
    → (all_given owner xs (one_given owner e r)).entry y ≡ (all_given owner (x ∷ xs) r).entry y
given_at owner x xs r e y at own =
    let o = r.entry y in
    let new = Some (with_owner owner e) in
    ap (λ (z : ℤ). cond (list_any (int_eq y) xs) (option_map (with_owner owner) (cond (int_eq y z) new o)) (cond (int_eq y z) new o)) own
    ∙ by_tests owner (int_eq y x) (list_any (int_eq y) xs) e o (λ (t : int_eq y x ≡ true). ap r.entry ((Decides-int_eq y x).0 t) ∙ at)

given_next : (owner x : ℤ) (xs : List ℤ) (r : Registry) (e : PrEntry) → r.entry x ≡ Some e → e.id ≡ x
    → all_given owner xs (one_given owner e r) ≡ all_given owner (x ∷ xs) r
given_next owner x xs r e at own = ap (λ (f : ℤ → Option PrEntry). record r { entry = f })
    (fun_ext (λ (y : ℤ). given_at owner x xs r e y at own))

pub owners_are : (owner : ℤ) (xs : List ℤ) (r : Registry) → IsGiving owner xs r → with_owners owner xs r ≡ all_given owner xs r
owners_are owner [] r t = refl
owners_are owner (x ∷ xs) r t =
    let e = some_is (r.entry x) t.may.there.0 in
    ap (λ (o : Option PrEntry). with_owners owner xs (with_refit (with_owner owner) o r)) e.1
    ∙ owners_are owner xs (one_given owner e.0 r) (giving_next owner x xs r e.0 t e.1)
    ∙ given_next owner x xs r e.0 e.1 (t.valid.ids x e.0 e.1)
