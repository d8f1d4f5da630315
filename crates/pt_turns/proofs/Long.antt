-- Whether an entry would have too long a name, and what is so where the name stays.
use Rattle.std.proofs.Common.{◌≡◌, ℕ, Bool, true, false, not, ◌&&◌, ◌||◌, cond, List, length, Option, Some, None, refl, sym, ap, ◌∙◌, inl}
use Rattle.std.proofs.Common.{inr, arith}
use Rattle.std.specs.Prelude.{nat_lt}
use Rattle.std.specs.List.{list_any}
use Rattle.std.specs.Ordering.{int_eq}
use Rattle.std.specs.Str.{bytes_eq}
use Rattle.std.proofs.lemmas.Bool.{false_from_ne_true, ltb-true, or_cases}
use Rattle.prdb_layout.specs.Registry.{Registry, IsRegistry}
use Rattle.prdb_layout.specs.State.{PrEntry, front_of}
use Rattle.pt_service.specs.Names.{has_colon, with_front}
use Rattle.pt_service.specs.Turning.{has_equal_names, has_long_name, name_after, owns_another, turns_its_groups}
use Rattle.pt_turns.specs.Deciding.{is_long, name_fault}
use Rattle.pt_turns.specs.Under.{groups_under}
use Rattle.pt_turns.proofs.Anyone.{any_some, any_which}
use Rattle.pt_turns.proofs.Equal.{follows, names_two, or_one, or_two, some_under, which_equal, which_under}
use Rattle.pt_turns.proofs.Fronts.{both_ways, front_all, front_free, parts_of}
use Rattle.pt_turns.proofs.Named.{after_by, after_own, goes_under, id_of, name_form, own_at, same_at, to_text, under_parts}

not_long : (r : Registry) (f : PrEntry) → IsRegistry r → r.entry f.id ≡ Some f → nat_lt 63 (length f.name) ≡ true → ⊥
not_long r f valid at long =
    let less = ltb-true 63 (length f.name) long in
    let short = (name_form f.id f.name (valid.records f.id f at).name).len in
    omega (arith, less, short)

abbrev long_after : PrEntry → (new : List ℕ) → PrEntry → Bool
long_after e new f = nat_lt 63 (length (name_after e new f))

abbrev long_in : Registry → PrEntry → (new : List ℕ) → Bool
long_in r e new = nat_lt 63 (length new) || list_any (is_long new) (groups_under r e.name)

one_long : (r : Registry) (e : PrEntry) (new : List ℕ) (f : PrEntry) (own under : Bool) → IsRegistry r → r.entry f.id ≡ Some f
    → int_eq f.id e.id ≡ own → goes_under e f ≡ under → long_after e new f ≡ true → long_in r e new ≡ true
one_long r e new f true under valid at own is long =
    or_one (nat_lt 63 (length new)) (list_any (is_long new) (groups_under r e.name))
    (ap (λ (n : List ℕ). nat_lt 63 (length n)) (sym (after_by e new f true under own is)) ∙ long)
one_long r e new f false true valid at own is long =
    or_two (nat_lt 63 (length new)) (list_any (is_long new) (groups_under r e.name))
    (some_under r e.name (is_long new) f valid at is
    (ap (λ (n : List ℕ). nat_lt 63 (length n)) (sym (after_by e new f false true own is)) ∙ long))
one_long r e new f false false valid at own is long =
    absurd (not_long r f valid at (ap (λ (n : List ℕ). nat_lt 63 (length n)) (sym (after_by e new f false false own is)) ∙ long))

pub long_tell : (r : Registry) (e : PrEntry) (new : List ℕ) → IsRegistry r → r.entry e.id ≡ Some e
    → long_in r e new ≡ has_long_name r e new
long_tell r e new valid at =
    both_ways (long_in r e new) (has_long_name r e new)
    (λ is. elim (or_cases (nat_lt 63 (length new)) (list_any (is_long new) (groups_under r e.name)) is) [
      | inl own ↦ any_some r (long_after e new) e valid at (ap (λ (n : List ℕ). nat_lt 63 (length n)) (after_own e new) ∙ own)
      | inr groups ↦
          let f = which_under r e.name (is_long new) valid groups in
          any_some r (long_after e new) f.entry valid f.there
          (ap (λ (n : List ℕ). nat_lt 63 (length n)) (follows r e new f.entry at f.there f.under) ∙ f.met)
    ])
    (λ is.
    let f = any_which r (long_after e new) is in
    one_long r e new f.entry (int_eq f.entry.id e.id) (goes_under e f.entry) valid (own_at r f.id f.entry valid f.there) refl refl f.met)

-- ---- where the name stays

front_same : (e f : PrEntry) → goes_under e f ≡ true → with_front (front_of e.name) f.name ≡ f.name
front_same e f is =
    let parts = under_parts e.name f.name is in
    let same : front_of e.name ≡ front_of f.name = ap front_of (sym parts.1) ∙ front_all (front_of f.name) (front_free f.name) in
    ap (λ (front : List ℕ). with_front front f.name) same ∙ sym (parts_of f.name parts.0)

stays_by : (r : Registry) (e f : PrEntry) (own under : Bool) → r.entry e.id ≡ Some e → r.entry f.id ≡ Some f → int_eq f.id e.id ≡ own
    → goes_under e f ≡ under
    → name_after e e.name f ≡ f.name
stays_by r e f true under at f_at same is =
    after_by e e.name f true under same is
    ∙ ap (λ (x : PrEntry). x.name) (same_at (r.entry e.id) e f at (ap r.entry (sym (id_of f.id e.id same)) ∙ f_at))
stays_by r e f false true at f_at same is = after_by e e.name f false true same is ∙ front_same e f is
stays_by r e f false false at f_at same is = after_by e e.name f false false same is

name_stays : (r : Registry) (e f : PrEntry) → r.entry e.id ≡ Some e → r.entry f.id ≡ Some f → name_after e e.name f ≡ f.name
name_stays r e f at f_at = stays_by r e f (int_eq f.id e.id) (goes_under e f) at f_at refl refl

none_equal : (r : Registry) (e : PrEntry) → IsRegistry r → r.entry e.id ≡ Some e → has_equal_names r e e.name ≡ false
none_equal r e valid at =
    false_from_ne_true (has_equal_names r e e.name) (λ is.
    let p = which_equal r e e.name valid is in
    names_two r p.one p.two valid p.one_there p.two_there p.other
    (sym (name_stays r e p.one at p.one_there) ∙ p.same ∙ name_stays r e p.two at p.two_there))

none_long : (r : Registry) (e : PrEntry) → IsRegistry r → r.entry e.id ≡ Some e → has_long_name r e e.name ≡ false
none_long r e valid at =
    false_from_ne_true (has_long_name r e e.name) (λ is.
    let f = any_which r (long_after e e.name) is in
    let f_at = own_at r f.id f.entry valid f.there in
    not_long r f.entry valid f_at (ap (λ (n : List ℕ). nat_lt 63 (length n)) (sym (name_stays r e f.entry at f_at)) ∙ f.met))

and_none : (a b c : Bool) → b ≡ true → (a && not b && c) ≡ false
and_none true true c is = refl
and_none false true c is = refl
and_none a false c is = absurd cc

none_turn : (r : Registry) (e : PrEntry) → turns_its_groups r e e.name ≡ false
none_turn r e =
    and_none (has_colon e.name) (bytes_eq (front_of e.name) (front_of e.name)) (owns_another r e.id)
    (to_text (front_of e.name) (front_of e.name) refl)

abbrev rule_by : (turns long equal : Bool) → Option ℕ
rule_by turns long equal = cond turns (Some 267269) (cond long (Some 267272) (cond equal (Some 267264) None))

pub rule_is : (r : Registry) (e : PrEntry) (new : List ℕ) (turns long equal : Bool) → turns_its_groups r e new ≡ turns
    → has_long_name r e new ≡ long → has_equal_names r e new ≡ equal → name_fault r e new ≡ rule_by turns long equal
rule_is r e new turns long equal one two three =
    ap (λ (b : Bool). rule_by b (has_long_name r e new) (has_equal_names r e new)) one
    ∙ ap (λ (b : Bool). rule_by turns b (has_equal_names r e new)) two ∙ ap (rule_by turns long) three

pub none_fault : (r : Registry) (e : PrEntry) (new : List ℕ) → IsRegistry r → r.entry e.id ≡ Some e → new ≡ e.name
    → name_fault r e new ≡ None
none_fault r e new valid at same =
    ap (name_fault r e) same ∙ rule_is r e e.name false false false (none_turn r e) (none_long r e valid at) (none_equal r e valid at)
