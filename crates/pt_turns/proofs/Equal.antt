-- Whether two entries would have one name: only the entry that gets another name and the groups that follow it are to be looked at.
use Rattle.std.proofs.Common.{◌≡◌, ◌≢◌, ℕ, ℤ, Bool, true, false, not, ◌&&◌, ◌||◌, cond, List, [], ◌∷◌, ◌++◌, Some, refl, sym, ap, ◌∙◌}
use Rattle.std.proofs.Common.{inl, inr}
use Rattle.std.specs.Prelude.{filter}
use Rattle.std.specs.List.{list_any}
use Rattle.std.specs.Ordering.{int_eq}
use Rattle.std.specs.Str.{bytes_eq}
use Rattle.std.proofs.lemmas.Bool.{and_from, and_parts, false_from_ne_true, not-true, or_cases}
use Rattle.prdb_layout.specs.Registry.{Registry, IsRegistry, behind_colon}
use Rattle.prdb_layout.specs.State.{PrEntry, front_of}
use Rattle.pt_service.specs.Names.{has_colon, with_front}
use Rattle.pt_service.specs.State.{entries}
use Rattle.pt_service.specs.Turning.{has_equal_names, name_after}
use Rattle.pt_turns.specs.Deciding.{has_name, shares_one}
use Rattle.pt_turns.specs.Under.{groups_under, is_under}
use Rattle.pt_turns.proofs.Anyone.{any_some, any_which}
use Rattle.pt_turns.proofs.Fronts.{behind_again, both_ways, colon_there, front_again, front_free, parts_of}
pub use Rattle.pt_turns.proofs.Named.{after_by, after_own}
use Rattle.pt_turns.proofs.Named.{clash, goes_under, id_of, not_itself, not_to, own_at, same_at, text_of, to_id, to_text, under_parts}
use Rattle.pt_turns.proofs.Named.{whole_free}

-- ---- tests

pub or_one : (a b : Bool) → a ≡ true → (a || b) ≡ true
or_one true b is = refl
or_one false b is = absurd cc

pub or_two : (a b : Bool) → b ≡ true → (a || b) ≡ true
or_two true b is = refl
or_two false b is = is

not_same : (a b : ℤ) → a ≢ b → not (int_eq a b) ≡ true
not_same a b other = not_to (int_eq a b) (false_from_ne_true (int_eq a b) (λ same. other (id_of a b same)))

are_two : (a b : ℤ) → not (int_eq a b) ≡ true → a ≢ b
are_two a b is = λ same. clash (int_eq a b) (to_id a b same) (not-true (int_eq a b) is)

other_text : (xs ys : List ℕ) → xs ≢ ys → not (bytes_eq xs ys) ≡ true
other_text xs ys other = not_to (bytes_eq xs ys) (false_from_ne_true (bytes_eq xs ys) (λ same. other (text_of xs ys same)))

-- ---- a group that is named after an entry

kept_any : {X : Type 0} (p q : X → Bool) (xs : List X) (x : X) (b : Bool) → q x ≡ b
    → list_any p (filter q xs) ≡ list_any (λ y. q y && p y) xs
    → list_any p (cond b (x ∷ filter q xs) (filter q xs)) ≡ ((b && p x) || list_any (λ y. q y && p y) xs)
kept_any p q xs x true is rest = ap (λ (b : Bool). p x || b) rest
kept_any p q xs x false is rest = rest

filter_any : {X : Type 0} (p q : X → Bool) (xs : List X) → list_any p (filter q xs) ≡ list_any (λ y. q y && p y) xs
filter_any p q [] = refl
filter_any p q (x ∷ xs) = kept_any p q xs x (q x) refl (filter_any p q xs)

pub some_under : (r : Registry) (whole : List ℕ) (p : PrEntry → Bool) (f : PrEntry) → IsRegistry r → r.entry f.id ≡ Some f
    → is_under whole f.name ≡ true → p f ≡ true → list_any p (groups_under r whole) ≡ true
some_under r whole p f valid at under is =
    filter_any p (λ e. is_under whole e.name) (entries r)
    ∙ any_some r (λ e. is_under whole e.name && p e) f valid at (and_from (is_under whole f.name) (p f) under is)

pub record IsGroup (r : Registry) (whole : List ℕ) (p : PrEntry → Bool) : Type 0 where
  pub entry : PrEntry
  pub there : r.entry entry.id ≡ Some entry
  pub under : is_under whole entry.name ≡ true
  pub met : p entry ≡ true

pub which_under : (r : Registry) (whole : List ℕ) (p : PrEntry → Bool) → IsRegistry r → list_any p (groups_under r whole) ≡ true
    → IsGroup r whole p
which_under r whole p valid is =
    let f = any_which r (λ e. is_under whole e.name && p e) (sym (filter_any p (λ e. is_under whole e.name) (entries r)) ∙ is) in
    let parts = and_parts (is_under whole f.entry.name) (p f.entry) f.met in
    record { entry = f.entry; there = own_at r f.id f.entry valid f.there; under = parts.0; met = parts.1 }

-- it is not the entry itself
not_own : (r : Registry) (e f : PrEntry) → r.entry e.id ≡ Some e → r.entry f.id ≡ Some f → goes_under e f ≡ true → f.id ≢ e.id
not_own r e f at f_at under = λ same.
    not_itself e.name (ap (λ (x : PrEntry). is_under e.name x.name) (same_at (r.entry e.id) e f at (ap r.entry (sym same) ∙ f_at)) ∙ under)

no_own : (r : Registry) (e f : PrEntry) → r.entry e.id ≡ Some e → r.entry f.id ≡ Some f → goes_under e f ≡ true
    → int_eq f.id e.id ≡ false
no_own r e f at f_at under =
    false_from_ne_true (int_eq f.id e.id) (λ same. not_own r e f at f_at under (id_of f.id e.id same))

pub follows : (r : Registry) (e : PrEntry) (new : List ℕ) (f : PrEntry) → r.entry e.id ≡ Some e → r.entry f.id ≡ Some f
    → goes_under e f ≡ true → name_after e new f ≡ with_front (front_of new) f.name
follows r e new f at f_at under = after_by e new f false true (no_own r e f at f_at under) under

-- ---- two entries that have one name

pub names_two : (r : Registry) (f g : PrEntry) → IsRegistry r → r.entry f.id ≡ Some f → r.entry g.id ≡ Some g → f.id ≢ g.id
    → f.name ≢ g.name
names_two r f g valid f_at g_at other = λ same. other (valid.names f.id g.id f g f_at g_at same)

texts_two : (r : Registry) (f g : PrEntry) → r.entry f.id ≡ Some f → r.entry g.id ≡ Some g → f.name ≢ g.name → f.id ≢ g.id
texts_two r f g f_at g_at other = λ same.
    other (ap (λ (x : PrEntry). x.name) (same_at (r.entry f.id) f g f_at (ap r.entry same ∙ g_at)))

abbrev shares_with : PrEntry → (new : List ℕ) → PrEntry → PrEntry → Bool
shares_with e new f g = not (int_eq f.id g.id) && bytes_eq (name_after e new f) (name_after e new g)

abbrev shares_some : Registry → PrEntry → (new : List ℕ) → PrEntry → Bool
shares_some r e new f = list_any (shares_with e new f) (entries r)

two_equal : (r : Registry) (e : PrEntry) (new : List ℕ) (f g : PrEntry) → IsRegistry r → r.entry f.id ≡ Some f → r.entry g.id ≡ Some g
    → f.id ≢ g.id → name_after e new f ≡ name_after e new g → has_equal_names r e new ≡ true
two_equal r e new f g valid f_at g_at other same =
    any_some r (shares_some r e new) f valid f_at (any_some r (shares_with e new f) g valid g_at
    (and_from (not (int_eq f.id g.id)) (bytes_eq (name_after e new f) (name_after e new g)) (not_same f.id g.id other)
    (to_text (name_after e new f) (name_after e new g) same)))

pub record AreEqual (r : Registry) (e : PrEntry) (new : List ℕ) : Type 0 where
  pub one : PrEntry
  pub two : PrEntry
  pub one_there : r.entry one.id ≡ Some one
  pub two_there : r.entry two.id ≡ Some two
  pub other : one.id ≢ two.id
  pub same : name_after e new one ≡ name_after e new two

pub which_equal : (r : Registry) (e : PrEntry) (new : List ℕ) → IsRegistry r → has_equal_names r e new ≡ true → AreEqual r e new
which_equal r e new valid is =
    let f = any_which r (shares_some r e new) is in
    let g = any_which r (shares_with e new f.entry) f.met in
    let parts = and_parts (not (int_eq f.entry.id g.entry.id)) (bytes_eq (name_after e new f.entry) (name_after e new g.entry)) g.met in
    record {
      one = f.entry;
      two = g.entry;
      one_there = own_at r f.id f.entry valid f.there;
      two_there = own_at r g.id g.entry valid g.there;
      other = are_two f.entry.id g.entry.id parts.0;
      same = text_of (name_after e new f.entry) (name_after e new g.entry) parts.1;
    }

-- ---- from what is looked up to all

-- the entry that has the new name keeps it, also where it follows the other one
keeps_new : (e g : PrEntry) (new : List ℕ) (under : Bool) → int_eq g.id e.id ≡ false → goes_under e g ≡ under → g.name ≡ new
    → name_after e new g ≡ new
keeps_new e g new true other is same =
    after_by e new g false true other is ∙ ap (λ (n : List ℕ). with_front (front_of n) g.name) (sym same)
    ∙ sym (parts_of g.name (under_parts e.name g.name is).0) ∙ same
keeps_new e g new false other is same = after_by e new g false false other is ∙ same

taken_equal : (r : Registry) (e : PrEntry) (new : List ℕ) → IsRegistry r → r.entry e.id ≡ Some e → new ≢ e.name → has_name r new ≡ true
    → has_equal_names r e new ≡ true
taken_equal r e new valid at turns is =
    let g = any_which r (λ g. bytes_eq g.name new) is in
    let named = text_of g.entry.name new g.met in
    let g_at = own_at r g.id g.entry valid g.there in
    let other = texts_two r g.entry e g_at at (λ same. turns (sym named ∙ same)) in
    two_equal r e new g.entry e valid g_at at other
    (keeps_new e g.entry new (goes_under e g.entry)
    (false_from_ne_true (int_eq g.entry.id e.id) (λ is. other (id_of g.entry.id e.id is))) refl named ∙ sym (after_own e new))

-- a name with another front than that of the entry is none that turns
not_front : (e : PrEntry) (new name : List ℕ) (g : PrEntry) → is_under e.name name ≡ true → with_front (front_of new) name ≢ name
    → g.name ≡ with_front (front_of new) name → goes_under e g ≡ false
not_front e new name g under turns named =
    false_from_ne_true (goes_under e g) (λ is.
    let parts = under_parts e.name name under in
    let front : front_of new ≡ front_of name =
    sym (front_again (front_of new) (behind_colon name) (front_free new)) ∙ ap front_of (sym named) ∙ (under_parts e.name g.name is).1
    ∙ sym parts.1 in
    turns (ap (λ (f : List ℕ). with_front f name) front ∙ sym (parts_of name parts.0)))

-- and none that the entry has, whose own name has no `:`
not_whole : (e : PrEntry) (front name : List ℕ) → is_under e.name name ≡ true → e.name ≢ with_front front name
not_whole e front name under = λ same.
    clash (has_colon e.name) (ap has_colon same ∙ colon_there front (behind_colon name)) (whole_free e.name name under)

group_equal : (r : Registry) (e : PrEntry) (new : List ℕ) (f : PrEntry) → IsRegistry r → r.entry e.id ≡ Some e → r.entry f.id ≡ Some f
    → goes_under e f ≡ true → not (bytes_eq (with_front (front_of new) f.name) f.name) ≡ true
    → has_name r (with_front (front_of new) f.name) ≡ true → has_equal_names r e new ≡ true
group_equal r e new f valid at f_at under turns is =
    let after = with_front (front_of new) f.name in
    let g = any_which r (λ g. bytes_eq g.name after) is in
    let named = text_of g.entry.name after g.met in
    let g_at = own_at r g.id g.entry valid g.there in
    let other : after ≢ f.name =
    λ same. clash (bytes_eq after f.name) (to_text after f.name same) (not-true (bytes_eq after f.name) turns) in
    let apart = texts_two r e g.entry at g_at (λ same. not_whole e (front_of new) f.name under (same ∙ named)) in
    let stays = after_by e new g.entry false false
    (false_from_ne_true (int_eq g.entry.id e.id) (λ same. apart (sym (id_of g.entry.id e.id same))))
    (not_front e new f.name g.entry under other named) in
    two_equal r e new g.entry f valid g_at f_at (texts_two r g.entry f g_at f_at (λ same. other (sym named ∙ same)))
    (stays ∙ named ∙ sym (follows r e new f at f_at under))

own_equal : (r : Registry) (e : PrEntry) (new : List ℕ) (f : PrEntry) → IsRegistry r → r.entry e.id ≡ Some e → r.entry f.id ≡ Some f
    → goes_under e f ≡ true → bytes_eq (with_front (front_of new) f.name) new ≡ true → has_equal_names r e new ≡ true
own_equal r e new f valid at f_at under is =
    two_equal r e new f e valid f_at at (not_own r e f at f_at under)
    (follows r e new f at f_at under ∙ text_of (with_front (front_of new) f.name) new is ∙ sym (after_own e new))

one_equal : (r : Registry) (e : PrEntry) (new : List ℕ) (f : PrEntry) → IsRegistry r → r.entry e.id ≡ Some e → r.entry f.id ≡ Some f
    → goes_under e f ≡ true → shares_one r new f.name ≡ true → has_equal_names r e new ≡ true
one_equal r e new f valid at f_at under is =
    let after = with_front (front_of new) f.name in
    elim (or_cases (bytes_eq after new) (not (bytes_eq after f.name) && has_name r after) is) [
      | inl own ↦ own_equal r e new f valid at f_at under own
      | inr taken ↦
          let parts = and_parts (not (bytes_eq after f.name)) (has_name r after) taken in
          group_equal r e new f valid at f_at under parts.0 parts.1
    ]

-- ---- from all to what is looked up

abbrev pub looked : Registry → PrEntry → (new : List ℕ) → Bool
looked r e new = has_name r new || list_any (λ g. shares_one r new g.name) (groups_under r e.name)

named_looked : (r : Registry) (e : PrEntry) (new : List ℕ) (g : PrEntry) → IsRegistry r → r.entry g.id ≡ Some g → new ≡ g.name
    → looked r e new ≡ true
named_looked r e new g valid g_at same =
    or_one (has_name r new) (list_any (λ g. shares_one r new g.name) (groups_under r e.name))
    (any_some r (λ g. bytes_eq g.name new) g valid g_at (to_text g.name new (sym same)))

group_looked : (r : Registry) (e : PrEntry) (new : List ℕ) (f : PrEntry) → IsRegistry r → r.entry f.id ≡ Some f → goes_under e f ≡ true
    → shares_one r new f.name ≡ true → looked r e new ≡ true
group_looked r e new f valid f_at under is =
    or_two (has_name r new) (list_any (λ g. shares_one r new g.name) (groups_under r e.name))
    (some_under r e.name (λ g. shares_one r new g.name) f valid f_at under is)

-- the entry itself and another one
own_looked : (r : Registry) (e : PrEntry) (new : List ℕ) (g : PrEntry) (under : Bool) → IsRegistry r → r.entry g.id ≡ Some g
    → int_eq g.id e.id ≡ false → goes_under e g ≡ under → new ≡ name_after e new g → looked r e new ≡ true
own_looked r e new g true valid g_at other is same =
    let after = with_front (front_of new) g.name in
    group_looked r e new g valid g_at is
    (or_one (bytes_eq after new) (not (bytes_eq after g.name) && has_name r after)
    (to_text after new (sym (same ∙ after_by e new g false true other is))))
own_looked r e new g false valid g_at other is same =
    named_looked r e new g valid g_at (same ∙ after_by e new g false false other is)

-- two groups that follow have two names
follow_two : (r : Registry) (e : PrEntry) (new : List ℕ) (f g : PrEntry) → IsRegistry r → r.entry f.id ≡ Some f → r.entry g.id ≡ Some g
    → f.id ≢ g.id → goes_under e f ≡ true → goes_under e g ≡ true → with_front (front_of new) f.name ≢ with_front (front_of new) g.name
follow_two r e new f g valid f_at g_at other one two = λ same.
    let front = front_of new in
    let behind : behind_colon f.name ≡ behind_colon g.name =
    sym (behind_again front (behind_colon f.name) (front_free new)) ∙ ap behind_colon same
    ∙ behind_again front (behind_colon g.name) (front_free new) in
    let f_parts = under_parts e.name f.name one in
    let g_parts = under_parts e.name g.name two in
    names_two r f g valid f_at g_at other
    (parts_of f.name f_parts.0 ∙ ap (λ (n : List ℕ). n ++ 58 ∷ behind_colon f.name) (f_parts.1 ∙ sym g_parts.1)
    ∙ ap (λ (n : List ℕ). front_of g.name ++ 58 ∷ n) behind ∙ sym (parts_of g.name g_parts.0))

-- a group that follows, and one whose name stays
stays_looked : (r : Registry) (e : PrEntry) (new : List ℕ) (f g : PrEntry) → IsRegistry r → r.entry f.id ≡ Some f → r.entry g.id ≡ Some g
    → f.id ≢ g.id → goes_under e f ≡ true → with_front (front_of new) f.name ≡ g.name → looked r e new ≡ true
stays_looked r e new f g valid f_at g_at other under same =
    let after = with_front (front_of new) f.name in
    group_looked r e new f valid f_at under
    (or_two (bytes_eq after new) (not (bytes_eq after f.name) && has_name r after)
    (and_from (not (bytes_eq after f.name)) (has_name r after)
    (other_text after f.name (λ is. names_two r f g valid f_at g_at other (sym is ∙ same)))
    (any_some r (λ g. bytes_eq g.name after) g valid g_at (to_text g.name after (sym same)))))

two_looked : (r : Registry) (e : PrEntry) (new : List ℕ) (f g : PrEntry) (own_f own_g under_f under_g : Bool) → IsRegistry r
    → r.entry e.id ≡ Some e → r.entry f.id ≡ Some f → r.entry g.id ≡ Some g → f.id ≢ g.id → name_after e new f ≡ name_after e new g
    → int_eq f.id e.id ≡ own_f → int_eq g.id e.id ≡ own_g → goes_under e f ≡ under_f → goes_under e g ≡ under_g → looked r e new ≡ true
two_looked r e new f g true true under_f under_g valid at f_at g_at other same f_own g_own f_is g_is =
    absurd (other (id_of f.id e.id f_own ∙ sym (id_of g.id e.id g_own)))
two_looked r e new f g true false under_f under_g valid at f_at g_at other same f_own g_own f_is g_is =
    own_looked r e new g under_g valid g_at g_own g_is (sym (after_by e new f true under_f f_own f_is) ∙ same)
two_looked r e new f g false true under_f under_g valid at f_at g_at other same f_own g_own f_is g_is =
    own_looked r e new f under_f valid f_at f_own f_is (sym (after_by e new g true under_g g_own g_is) ∙ sym same)
two_looked r e new f g false false true true valid at f_at g_at other same f_own g_own f_is g_is =
    absurd (follow_two r e new f g valid f_at g_at other f_is g_is
    (sym (after_by e new f false true f_own f_is) ∙ same ∙ after_by e new g false true g_own g_is))
two_looked r e new f g false false true false valid at f_at g_at other same f_own g_own f_is g_is =
    stays_looked r e new f g valid f_at g_at other f_is
    (sym (after_by e new f false true f_own f_is) ∙ same ∙ after_by e new g false false g_own g_is)
two_looked r e new f g false false false true valid at f_at g_at other same f_own g_own f_is g_is =
    stays_looked r e new g f valid g_at f_at (λ is. other (sym is)) g_is
    (sym (after_by e new g false true g_own g_is) ∙ sym same ∙ after_by e new f false false f_own f_is)
two_looked r e new f g false false false false valid at f_at g_at other same f_own g_own f_is g_is =
    absurd (names_two r f g valid f_at g_at other
    (sym (after_by e new f false false f_own f_is) ∙ same ∙ after_by e new g false false g_own g_is))

pub equal_tell : (r : Registry) (e : PrEntry) (new : List ℕ) → IsRegistry r → r.entry e.id ≡ Some e → new ≢ e.name
    → looked r e new ≡ has_equal_names r e new
equal_tell r e new valid at turns =
    both_ways (looked r e new) (has_equal_names r e new)
    (λ is. elim (or_cases (has_name r new) (list_any (λ g. shares_one r new g.name) (groups_under r e.name)) is) [
      | inl own ↦ taken_equal r e new valid at turns own
      | inr groups ↦
          let f = which_under r e.name (λ g. shares_one r new g.name) valid groups in
          one_equal r e new f.entry valid at f.there f.under f.met
    ])
    (λ is.
    let p = which_equal r e new valid is in
    two_looked r e new p.one p.two (int_eq p.one.id e.id) (int_eq p.two.id e.id) (goes_under e p.one) (goes_under e p.two) valid at
    p.one_there p.two_there p.other p.same refl refl refl refl)
