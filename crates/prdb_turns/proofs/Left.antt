-- An entry whose groups and users have no owner any more: which registry that is.
use Rattle.std.proofs.Common.{◌≡◌, ◌≢◌, ℤ, ℕ, pos, negsuc, Bool, true, false, cond, List, Option, Some, None, IsSome, refl, sym, ap, subst, ◌∙◌, inl, arith}
use Rattle.std.specs.Prelude.{option_map}
use Rattle.std.specs.List.{AllByRecursion}
use Rattle.std.specs.Ordering.{int_eq}
use Rattle.std.proofs.lemmas.Int.{ints}
use Rattle.prdb_layout.specs.Registry.{Registry}
use Rattle.prdb_layout.specs.State.{IsId, PrEntry}
use Rattle.prdb_layout.proofs.Changed.{some_same}
use Rattle.prdb_lists.specs.Members.{Members}
use Rattle.prdb_finds.specs.Records.{Holds}
use Rattle.prdb_turns.specs.Owners.{MayGive, after_gives, is_property, with_owner, with_owners}
use Rattle.prdb_turns.proofs.Given.{IsGiving, all_given, gives_may, is_there, owners_are, some_is}
use Rattle.prdb_turns.proofs.Owned.{HasItsOwn, clash, id_is, its_all, its_by, to_id}
use Rattle.prdb_turns.proofs.Refits.{refits_hold}

-- ---- no owner in place of one

abbrev pub disowned : (old : ℤ) → PrEntry → PrEntry
disowned old f = cond (int_eq f.owner old) (with_owner (pos 0) f) f

disowned_by : (old : ℤ) (f : PrEntry) (b : Bool) → int_eq f.owner old ≡ b
    → cond b (Some (with_owner (pos 0) f)) (Some f) ≡ Some (disowned old f)
disowned_by old f true is = ap (λ (b : Bool). Some (cond b (with_owner (pos 0) f) f)) (sym is)
disowned_by old f false is = ap (λ (b : Bool). Some (cond b (with_owner (pos 0) f) f)) (sym is)

left_by : (old : ℤ) (o : Option PrEntry) (b : Bool) → is_property old o ≡ b
    → cond b (option_map (with_owner (pos 0)) o) o ≡ option_map (disowned old) o
left_by old None true is = refl
left_by old None false is = refl
left_by old (Some f) b is = disowned_by old f b is

pub map_there : {X Y : Type 0} (f : X → Y) (o : Option X) → IsSome o → IsSome (option_map f o)
map_there f None is = absurd cc
map_there f (Some x) is = refl

pub not_zero : (id : ℤ) → IsId id → id ≢ pos 0
not_zero (pos n) is same = absurd (omega (arith, ints, is.0, same))
not_zero (negsuc n) is same = absurd cc

owner_apart : (old : ℤ) (g : PrEntry) (b : Bool) → int_eq g.owner old ≡ b → old ≢ pos 0 → (disowned old g).owner ≢ old
owner_apart old g true is id same = id (sym same ∙ ap (λ (b : Bool). (cond b (with_owner (pos 0) g) g).owner) is)
owner_apart old g false is id same =
    clash (int_eq g.owner old) (to_id g.owner old (sym (ap (λ (b : Bool). (cond b (with_owner (pos 0) g) g).owner) is) ∙ same)) is

nothing_left : (old : ℤ) (o : Option PrEntry) (f : PrEntry) → option_map (disowned old) o ≡ Some f → old ≢ pos 0 → f.owner ≢ old
nothing_left old None f at id = absurd cc
nothing_left old (Some g) f at id = subst (λ (x : PrEntry). x.owner ≢ old) (some_same at) (owner_apart old g (int_eq g.owner old) refl id)

-- ---- the registry

-- these have no owner
abbrev pub left : Registry → List ℤ → Registry
left r its = with_owners (pos 0) its r

pub its_there : (image : List ℕ) (r : Registry) (m : Members) (old : ℤ) (its : List ℤ) → HasItsOwn image r m old its
    → AllByRecursion (λ id. IsSome (r.entry id)) its
its_there image r m old its t = its_all (λ id. IsSome (r.entry id)) image r m old its t (λ x e at. is_there (r.entry x) e at)

pub may_leave : (image : List ℕ) (r : Registry) (m : Members) (old : ℤ) (its : List ℤ) → HasItsOwn image r m old its
    → MayGive its (pos 0) r
may_leave image r m old its t = record { there = its_there image r m old its t; owner_there = inl refl }

leaving : (image : List ℕ) (r : Registry) (m : Members) (old : ℤ) (its : List ℤ) → HasItsOwn image r m old its → IsGiving (pos 0) its r
leaving image r m old its t = record { valid = t.holds.pairs.holds.valid; may = may_leave image r m old its t }

pub left_is : (image : List ℕ) (r : Registry) (m : Members) (old : ℤ) (its : List ℤ) → HasItsOwn image r m old its
    → left r its ≡ all_given (pos 0) its r
left_is image r m old its t = owners_are (pos 0) its r (leaving image r m old its t)

pub all_left : (image : List ℕ) (r : Registry) (m : Members) (old : ℤ) (its : List ℤ) (z : ℤ) → HasItsOwn image r m old its
    → (all_given (pos 0) its r).entry z ≡ option_map (disowned old) (r.entry z)
all_left image r m old its z t =
    ap (λ (b : Bool). cond b (option_map (with_owner (pos 0)) (r.entry z)) (r.entry z))
    (its_by image r m old its z (is_property old (r.entry z)) t refl)
    ∙ left_by old (r.entry z) (is_property old (r.entry z)) refl

pub left_at : (image : List ℕ) (r : Registry) (m : Members) (old : ℤ) (its : List ℤ) (z : ℤ) → HasItsOwn image r m old its
    → (left r its).entry z ≡ option_map (disowned old) (r.entry z)
left_at image r m old its z t =
    ap (λ (q : Registry). q.entry z) (left_is image r m old its t) ∙ all_left image r m old its z t

-- the entry is there, and nothing is its own
pub still_there : (image : List ℕ) (r : Registry) (m : Members) (old : ℤ) (its : List ℤ) → HasItsOwn image r m old its
    → IsSome ((left r its).entry old)
still_there image r m old its t =
    subst (λ (o : Option PrEntry). IsSome o) (sym (left_at image r m old its old t)) (map_there (disowned old) (r.entry old) t.there)

pub owns_nothing : (image : List ℕ) (r : Registry) (m : Members) (old : ℤ) (its : List ℤ) (other : ℤ) (f : PrEntry)
    → HasItsOwn image r m old its → (left r its).entry other ≡ Some f → f.owner ≢ old
owns_nothing image r m old its other f t at =
    let e = some_is (r.entry old) t.there in
    nothing_left old (r.entry other) f (sym (left_at image r m old its other t) ∙ at)
    (not_zero old (id_is r old e.0 t.holds.pairs.holds.valid e.1))

-- ---- the image

pub left_holds : (image : List ℕ) (r : Registry) (m : Members) (old : ℤ) (its : List ℤ) → HasItsOwn image r m old its
    → Holds (after_gives (pos 0) its r image) (left r its) m
left_holds image r m old its t =
    refits_hold (with_owner (pos 0)) its image r m t.holds (gives_may (pos 0) its r (leaving image r m old its t))
