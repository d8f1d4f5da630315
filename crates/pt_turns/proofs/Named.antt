-- An entry with another name, and the names that follow it: what each name is, and that each may be set.
use Rattle.std.proofs.Common.{◌≡◌, ℕ, ℤ, pos, negsuc, ◌≤◌, Bool, true, false, not, ◌&&◌, ◌||◌, cond, List, [], ◌∷◌, ◌++◌, length, codes, Option, Some, refl, sym, ap, subst, ◌∙◌, inl, inr}
use Rattle.std.specs.Prelude.{nat_eq, nat_le, nat_lt}
use Rattle.std.specs.List.{list_all, list_any}
use Rattle.std.specs.Ordering.{int_eq}
use Rattle.std.specs.Str.{bytes_eq}
use Rattle.std.proofs.lemmas.Bool.{and_from, and_parts, cases_Bool, false_from_ne_true, le-leb, ltb-false, not-true}
use Rattle.std.proofs.lemmas.Bool.Decides.{Decides-int_eq}
use Rattle.std.proofs.lemmas.Slice.Eq.{bytes_eq-Decides}
use Rattle.prdb_layout.specs.Names.{is_name_byte, is_user_name}
use Rattle.prdb_layout.specs.Registry.{Registry, IsRecord, IsRegistry, behind_colon, is_group_name, is_name_for, is_text}
use Rattle.prdb_layout.specs.State.{PrEntry, front_of}
use Rattle.prdb_layout.proofs.UserNames.{HasForm, form}
use Rattle.pt_service.specs.Names.{has_colon, with_front}
use Rattle.pt_service.specs.State.{entries}
use Rattle.pt_service.specs.Turning.{has_equal_names, has_long_name, name_after}
use Rattle.pt_service.proofs.GroupNames.{group_form}
use Rattle.pt_changes.specs.Turning.{MayRename}
use Rattle.pt_turns.specs.Under.{is_under}
use Rattle.pt_turns.proofs.Anyone.{any_some}
use Rattle.pt_turns.proofs.Fronts.{behind_again, colon_there, front_all, front_again, front_free, is_colon}

-- ---- tests

pub clash : (b : Bool) → b ≡ true → b ≡ false → ⊥
clash true is fails = absurd cc
clash false is fails = absurd cc

pub not_to : (b : Bool) → b ≡ false → not b ≡ true
not_to true is = absurd cc
not_to false is = refl

pub text_of : (xs ys : List ℕ) → bytes_eq xs ys ≡ true → xs ≡ ys
text_of xs ys is = (bytes_eq-Decides xs ys).0 is

pub to_text : (xs ys : List ℕ) → xs ≡ ys → bytes_eq xs ys ≡ true
to_text xs ys is = (bytes_eq-Decides xs ys).1 is

pub id_of : (a b : ℤ) → int_eq a b ≡ true → a ≡ b
id_of a b is = (Decides-int_eq a b).0 is

pub to_id : (a b : ℤ) → a ≡ b → int_eq a b ≡ true
to_id a b is = (Decides-int_eq a b).1 is

-- ---- what is under a name

pub under_parts : (whole name : List ℕ) → is_under whole name ≡ true → (has_colon name ≡ true) × (front_of name ≡ whole)
under_parts whole name is =
    let parts = and_parts (has_colon name) (bytes_eq (front_of name) whole) is in
    (parts.0, text_of (front_of name) whole parts.1)

-- a name under another one has a `:`, and that one has none
pub whole_free : (whole name : List ℕ) → is_under whole name ≡ true → has_colon whole ≡ false
whole_free whole name is = ap has_colon (sym (under_parts whole name is).1) ∙ front_free name

pub not_itself : (name : List ℕ) → is_under name name ≡ true → ⊥
not_itself name is = clash (has_colon name) (under_parts name name is).0 (whole_free name name is)

-- ---- the name of an entry afterwards, by its cases

abbrev pub goes_under : PrEntry → PrEntry → Bool
goes_under e f = is_under e.name f.name

abbrev after_cases : (e : PrEntry) → (new : List ℕ) → PrEntry → (own under : Bool) → List ℕ
after_cases e new f own under = cond own new (cond under (with_front (front_of new) f.name) f.name)

pub after_by : (e : PrEntry) (new : List ℕ) (f : PrEntry) (own under : Bool) → int_eq f.id e.id ≡ own → goes_under e f ≡ under
    → name_after e new f ≡ after_cases e new f own under
after_by e new f own under one two =
    ap (λ (b : Bool). after_cases e new f b (goes_under e f)) one ∙ ap (λ (b : Bool). after_cases e new f own b) two

pub after_own : (e : PrEntry) (new : List ℕ) → name_after e new e ≡ new
after_own e new = after_by e new e true (goes_under e e) (to_id e.id e.id refl) refl

-- another front, a second time
pub front_twice : (front one name : List ℕ) → list_any is_colon one ≡ false → with_front front (with_front one name) ≡ with_front front name
front_twice front one name none = ap (λ (b : List ℕ). front ++ 58 ∷ b) (behind_again one (behind_colon name) none)

-- ---- the names afterwards

-- all that is known of an entry that is to have another name
pub record IsTurning (r : Registry) (e : PrEntry) (name : List ℕ) (owner : ℤ) : Type 0 where
  pub valid : IsRegistry r
  pub may : MayRename e name owner r

pub same_at : (o : Option PrEntry) (e f : PrEntry) → o ≡ Some e → o ≡ Some f → e ≡ f
same_at o e f one two = let both : Some e ≡ Some f = sym one ∙ two in cc

pub own_at : (r : Registry) (id : ℤ) (g : PrEntry) → IsRegistry r → r.entry id ≡ Some g → r.entry g.id ≡ Some g
own_at r id g valid at = ap r.entry (valid.ids id g at) ∙ at

-- the entry itself is not under its name
other_id : (r : Registry) (e : PrEntry) (name : List ℕ) (owner : ℤ) (f : PrEntry) → IsTurning r e name owner → r.entry f.id ≡ Some f
    → is_under e.name f.name ≡ true
    → int_eq f.id e.id ≡ false
other_id r e name owner f t at is =
    false_from_ne_true (int_eq f.id e.id) (λ same.
    let one : f ≡ e = same_at (r.entry e.id) f e (ap r.entry (sym (id_of f.id e.id same)) ∙ at) t.may.there in
    not_itself e.name (ap (λ (x : PrEntry). is_under e.name x.name) (sym one) ∙ is))

pub after_under : (r : Registry) (e : PrEntry) (name : List ℕ) (owner : ℤ) (f : PrEntry) → IsTurning r e name owner → r.entry f.id ≡ Some f
    → is_under e.name f.name ≡ true → name_after e name f ≡ with_front (front_of name) f.name
after_under r e name owner f t at is = after_by e name f false true (other_id r e name owner f t at is) is

-- no two entries have one name afterwards
inner : (r : Registry) (e : PrEntry) (name : List ℕ) (f g : PrEntry) → IsRegistry r → r.entry f.id ≡ Some f → r.entry g.id ≡ Some g
    → name_after e name f ≡ name_after e name g → not (int_eq f.id g.id) ≡ true
    → list_any (λ (g : PrEntry). not (int_eq f.id g.id) && bytes_eq (name_after e name f) (name_after e name g)) (entries r) ≡ true
inner r e name f g valid f_at g_at same other =
    any_some r (λ g. not (int_eq f.id g.id) && bytes_eq (name_after e name f) (name_after e name g)) g valid g_at
    (and_from (not (int_eq f.id g.id)) (bytes_eq (name_after e name f) (name_after e name g)) other
    (to_text (name_after e name f) (name_after e name g) same))

pub names_apart : (r : Registry) (e : PrEntry) (name : List ℕ) (owner : ℤ) (f g : PrEntry) → IsTurning r e name owner
    → r.entry f.id ≡ Some f → r.entry g.id ≡ Some g
    → name_after e name f ≡ name_after e name g → f.id ≡ g.id
names_apart r e name owner f g t f_at g_at same =
    elim (cases_Bool (int_eq f.id g.id)) [
      | inl is ↦ id_of f.id g.id is
      | inr other ↦ absurd (clash (has_equal_names r e name)
          (any_some r (λ f. list_any (λ g. not (int_eq f.id g.id) && bytes_eq (name_after e name f) (name_after e name g)) (entries r)) f
          t.valid f_at
          (inner r e name f g t.valid f_at g_at same (not_to (int_eq f.id g.id) other)))
          t.may.distinct)
    ]

-- and none is too long
pub name_short : (r : Registry) (e : PrEntry) (name : List ℕ) (owner : ℤ) (f : PrEntry) → IsTurning r e name owner → r.entry f.id ≡ Some f
    → length (name_after e name f) ≤ 63
name_short r e name owner f t at =
    elim (cases_Bool (nat_lt 63 (length (name_after e name f)))) [
      | inl long ↦ absurd (clash (has_long_name r e name)
          (any_some r (λ f. nat_lt 63 (length (name_after e name f))) f t.valid at long) t.may.short)
      | inr short ↦ ltb-false 63 (length (name_after e name f)) short
    ]

-- ---- their forms

-- a text has no `:`
free_by : (x : ℕ) (xs : List ℕ) (b : Bool) → is_colon x ≡ b → is_name_byte x ≡ true → list_any is_colon xs ≡ false
    → list_any is_colon (x ∷ xs) ≡ false
free_by x xs true is name rest =
    let two = and_parts (nat_le 33 x && nat_le x 126 && not (is_colon x)) (not (nat_eq x 64)) name in
    let one = and_parts (nat_le 33 x && nat_le x 126) (not (is_colon x)) two.0 in
    absurd (clash (is_colon x) is (not-true (is_colon x) one.1))
free_by x xs false is name rest = ap (λ (b : Bool). b || list_any is_colon xs) is ∙ rest

text_free : (xs : List ℕ) → list_all is_name_byte xs ≡ true → list_any is_colon xs ≡ false
text_free [] all = refl
text_free (x ∷ xs) all =
    let parts = and_parts (is_name_byte x) (list_all is_name_byte xs) all in
    free_by x xs (is_colon x) refl parts.0 (text_free xs parts.1)

user_text : (name : List ℕ) → is_user_name name ≡ true → is_text name ≡ true
unfolding is_user_name
user_text name is =
    let three = and_parts (nat_le 1 (length name) && nat_le (length name) 63 && list_all is_name_byte name)
    (not (bytes_eq name (codes "system"))) is in
    let two = and_parts (nat_le 1 (length name) && nat_le (length name) 63) (list_all is_name_byte name) three.0 in
    let one = and_parts (nat_le 1 (length name)) (nat_le (length name) 63) two.0 in
    and_from (nat_le 1 (length name)) (list_all is_name_byte name) one.0 two.1

text_of_all : (name : List ℕ) → is_text name ≡ true → list_all is_name_byte name ≡ true
text_of_all name is = (and_parts (nat_le 1 (length name)) (list_all is_name_byte name) is).1

-- the front of each name is a text
group_front : (name : List ℕ) → is_group_name name ≡ true → is_text (front_of name) ≡ true
unfolding is_group_name
group_front name is =
    (and_parts (nat_le (length name) 63) (is_text (front_of name))
    (and_parts (nat_le (length name) 63 && is_text (front_of name))
    (cond (has_colon name) (is_text (behind_colon name)) (not (bytes_eq name (codes "system")))) is).0).1

pub front_text : (id : ℤ) (name : List ℕ) → is_name_for id name ≡ true → is_text (front_of name) ≡ true
front_text (pos n) name is =
    let text = user_text name is in
    ap is_text (front_all name (text_free name (text_of_all name text))) ∙ text
front_text (negsuc n) name is = group_front name is

-- what stands behind the `:` of a group's name is one
behind_by : (name : List ℕ) (b : Bool) → has_colon name ≡ b → b ≡ true → is_group_name name ≡ true → is_text (behind_colon name) ≡ true
unfolding is_group_name
behind_by name true has one is =
    let last = (and_parts (nat_le (length name) 63 && is_text (front_of name))
    (cond (has_colon name) (is_text (behind_colon name)) (not (bytes_eq name (codes "system")))) is).1 in
    ap (λ (b : Bool). cond b (is_text (behind_colon name)) (not (bytes_eq name (codes "system")))) (sym has) ∙ last
behind_by name false has one is = absurd cc

-- a user's name has no `:`
user_free : (name : List ℕ) → is_user_name name ≡ true → has_colon name ≡ false
user_free name is = text_free name (text_of_all name (user_text name is))

-- a name with a `:` and another text before it is a group's again, where it is short
front_group : (front name : List ℕ) → is_text front ≡ true → has_colon name ≡ true → is_group_name name ≡ true
    → length (with_front front name) ≤ 63
    → is_group_name (with_front front name) ≡ true
unfolding is_group_name
front_group front name text has is short =
    let none = text_free front (text_of_all front text) in
    and_from (nat_le (length (with_front front name)) 63 && is_text (front_of (with_front front name)))
    (cond (has_colon (with_front front name)) (is_text (behind_colon (with_front front name)))
    (not (bytes_eq (with_front front name) (codes "system"))))
    (and_from (nat_le (length (with_front front name)) 63) (is_text (front_of (with_front front name)))
    (le-leb (length (with_front front name)) 63 short)
    (ap is_text (front_again front (behind_colon name) none) ∙ text))
    (ap (λ (b : Bool). cond b (is_text (behind_colon (with_front front name))) (not (bytes_eq (with_front front name) (codes "system"))))
    (colon_there front (behind_colon name))
    ∙ ap is_text (behind_again front (behind_colon name) none) ∙ behind_by name (has_colon name) refl has is)

pub front_good : (id : ℤ) (front name : List ℕ) → is_text front ≡ true → has_colon name ≡ true → is_name_for id name ≡ true
    → length (with_front front name) ≤ 63
    → is_name_for id (with_front front name) ≡ true
front_good (pos n) front name text has is short = absurd (clash (has_colon name) has (user_free name is))
front_good (negsuc n) front name text has is short = front_group front name text has is short

-- an entry under another one may have the new front
pub under_good : (r : Registry) (e : PrEntry) (name : List ℕ) (owner : ℤ) (f : PrEntry) → IsTurning r e name owner → r.entry f.id ≡ Some f
    → is_under e.name f.name ≡ true → is_name_for f.id (with_front (front_of name) f.name) ≡ true
under_good r e name owner f t at is =
    front_good f.id (front_of name) f.name (front_text e.id name t.may.good) (under_parts e.name f.name is).0
    (t.valid.records f.id f at).name
    (subst (λ (n : List ℕ). length n ≤ 63) (after_under r e name owner f t at is) (name_short r e name owner f t at))

-- ---- what an entry is by itself, with another name

pub name_form : (id : ℤ) (name : List ℕ) → is_name_for id name ≡ true → HasForm name
name_form (pos n) name is = form name is
name_form (negsuc n) name is = group_form name is

pub record_with : (e : PrEntry) (name : List ℕ) → IsRecord e → is_name_for e.id name ≡ true → IsRecord (record e { name = name })
record_with e name is good =
    let f = name_form e.id name good in
    record {
      fields = record {
        name_bytes = f.bytes;
        name_len = f.len;
        name_text = f.text;
        flags = is.fields.flags;
        id = is.fields.id;
        owner = is.fields.owner;
        creator = is.fields.creator;
        quota = is.fields.quota;
      };
      name = good;
    }
