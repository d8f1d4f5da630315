-- No fixed entry is named after another one.
use Rattle.std.proofs.Common.{◌≡◌, ℕ, ℤ, zero, suc, pos, negsuc, ◌<◌, Bool, true, false, not, ◌||◌, List, [], ◌∷◌, length, get_or, codes, Option, Some, None, IsSomeAnd, refl, sym, ap, ◌∙◌, arith}
use Rattle.std.specs.List.{All, list_all}
use Rattle.std.specs.Str.{bytes_eq}
use Rattle.std.proofs.lemmas.Bool.{and_parts}
use Rattle.std.proofs.lemmas.Slice.Eq.{bytes_eq-Decides}
use Rattle.prdb_layout.specs.Names.{is_user_name}
use Rattle.prdb_layout.specs.Registry.{Registry, is_group_name, is_name_for}
use Rattle.prdb_layout.specs.State.{PrEntry, fixed_entries, front_of}
use Rattle.prdb_layout.proofs.Changed.{some_same}
use Rattle.pt_service.specs.Names.{has_colon, with_front}
use Rattle.pt_turns.specs.Under.{is_under}
use Rattle.pt_turns.proofs.Named.{IsTurning, clash, under_parts}

abbrev is_of_system : PrEntry → Bool
is_of_system h = not (has_colon h.name) || bytes_eq (front_of h.name) (codes "system")

all_of_system : list_all is_of_system fixed_entries ≡ true
unfolding fixed_entries
all_of_system = refl

passes_at : (p : PrEntry → Bool) (xs : List PrEntry) (k : ℕ) (d : PrEntry) → list_all p xs ≡ true → k < length xs → p (get_or xs k d) ≡ true
passes_at p [] k d all below = absurd (omega (arith, below))
passes_at p (x ∷ xs) zero d all below = (and_parts (p x) (list_all p xs) all).0
passes_at p (x ∷ xs) (suc k) d all below = passes_at p xs k d (and_parts (p x) (list_all p xs) all).1 (omega (arith, below))

named_so : (o : Option PrEntry) (e h : PrEntry) → IsSomeAnd o (λ g. g.name ≡ h.name) → o ≡ Some e → e.name ≡ h.name
named_so None e h named is = absurd named
named_so (Some g) e h named is = ap (λ (x : PrEntry). x.name) (sym (some_same is)) ∙ named

-- `system` is no entry's name
system_for : (id : ℤ) → is_name_for id (codes "system") ≡ false
unfolding is_user_name is_group_name
system_for (pos n) = refl
system_for (negsuc n) = refl

system_under : (whole name : List ℕ) (b : Bool) → has_colon name ≡ b → is_under whole name ≡ true
    → (not b || bytes_eq (front_of name) (codes "system")) ≡ true
    → whole ≡ codes "system"
system_under whole name true has is of = sym (under_parts whole name is).1 ∙ (bytes_eq-Decides (front_of name) (codes "system")).0 of
system_under whole name false has is of = absurd (clash (has_colon name) (under_parts whole name is).0 has)

-- no fixed entry is named after another one
pub fixed_free : (r : Registry) (e : PrEntry) (name : List ℕ) (owner : ℤ) (f : PrEntry) → IsTurning r e name owner
    → r.entry f.id ≡ Some f → is_under e.name f.name ≡ true
    → All (λ h. h.id ≡ f.id → with_front (front_of name) f.name ≡ h.name) fixed_entries
fixed_free r e name owner f t f_at is = λ k d below same.
    let h = get_or fixed_entries k d in
    let named : f.name ≡ h.name = named_so (r.entry h.id) f h (t.valid.fixed k d below) (ap r.entry same ∙ f_at) in
    let of = passes_at is_of_system fixed_entries k d all_of_system below in
    let whole = system_under e.name h.name (has_colon h.name) refl (ap (is_under e.name) (sym named) ∙ is) of in
    absurd (clash (is_name_for e.id e.name) (t.valid.records e.id e t.may.there).name (ap (is_name_for e.id) whole ∙ system_for e.id))
