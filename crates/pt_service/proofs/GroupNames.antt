-- Names around their first `:`.
use Rattle.std.proofs.Common.{◌≡◌, ℕ, ◌+◌, ◌-◌, ◌<◌, ◌≤◌, Bool, true, false, not, ◌&&◌, cond, eqb, leb, ltb, List, length, get_or, take, drop, Some, None, refl, sym, ap, subst, ◌∙◌, inl, inr, arith, ⊎_elim}
use Rattle.std.specs.Prelude.{codes}
use Rattle.std.specs.Str.{bytes_eq}
use Rattle.std.specs.List.{All, list_all, list_any, position, position_or_len}
use Rattle.std.proofs.lemmas.Bool.{and_parts, cases_eq, cases_lt, eqb-true, leb-true, le-leb, ltb-false, ltb-true}
use Rattle.std.proofs.lemmas.List.{get_or-drop, get_or-take, get_or_past, length-drop, length-take-le, take_all}
use Rattle.std.proofs.lemmas.List.Folds.{list_any_at, list_any_none}
use Rattle.std.proofs.lemmas.List.Sums.{AllPass-from_list_all, fails_before_first, passes_at_first}
use Rattle.prdb_layout.specs.Names.{is_name_byte}
use Rattle.prdb_layout.specs.Registry.{behind_colon, is_group_name, is_text}
use Rattle.prdb_layout.specs.State.{front_of}
use Rattle.prdb_layout.proofs.Changed.{some_same}
use Rattle.prdb_layout.proofs.UserNames.{HasForm}

abbrev pub is_colon : ℕ → Bool
is_colon b = eqb b 58

-- ---- where it stands

first_by : (b : Bool) (first len at : ℕ) → ltb first len ≡ b → cond b (Some first) None ≡ Some at → (at ≡ first) × (first < len)
first_by true first len at test is = (sym (some_same is), ltb-true first len test)
first_by false first len at test is = absurd cc

first_at : (name : List ℕ) (at : ℕ) → position is_colon name ≡ Some at → (at ≡ position_or_len is_colon name)
    × (position_or_len is_colon name < length name)
first_at name at is = first_by (ltb (position_or_len is_colon name) (length name)) (position_or_len is_colon name) (length name) at refl is

none_by : (b : Bool) (first len : ℕ) → ltb first len ≡ b → cond b (Some first) None ≡ None → len ≤ first
none_by true first len test is = absurd cc
none_by false first len test is = ltb-false first len test

first_none : (name : List ℕ) → position is_colon name ≡ None → length name ≤ position_or_len is_colon name
first_none name is = none_by (ltb (position_or_len is_colon name) (length name)) (position_or_len is_colon name) (length name) refl is

has_one : (name : List ℕ) → position_or_len is_colon name < length name → list_any is_colon name ≡ true
has_one name below = list_any_at is_colon name (position_or_len is_colon name) 0 below (passes_at_first is_colon name 0 below)

has_none : (name : List ℕ) → length name ≤ position_or_len is_colon name → list_any is_colon name ≡ false
has_none name past = list_any_none is_colon name (λ k d below. fails_before_first is_colon name k d (omega (arith, past, below)))

-- ---- the form of a group's name

abbrev forms : (small any : Bool) → (name front behind : List ℕ) → Bool
forms small any name front behind =
    small && is_text front && cond any (is_text behind) (not (bytes_eq name (codes "system")))

form_is : (name : List ℕ) (small any : Bool) → leb (length name) 63 ≡ small → list_any is_colon name ≡ any
    → is_group_name name ≡ forms small any name (front_of name) (behind_colon name)
unfolding is_group_name
form_is name small any is_small is_any = rw (is_small, is_any) refl

pub with_colon : (name : List ℕ) (at : ℕ) → position is_colon name ≡ Some at → length name ≤ 63
    → is_group_name name ≡ (is_text (take at name) && is_text (drop (at + 1) name))
with_colon name at is small =
    let p = first_at name at is in
    let n : length (front_of name) ≡ at = length-take-le (position_or_len is_colon name) name (omega (arith, p.1)) ∙ sym p.0 in
    form_is name true true (le-leb (length name) 63 small) (has_one name p.1)
    ∙ ap (λ (k : ℕ). is_text (front_of name) && is_text (drop (k + 1) name)) n
    ∙ ap (λ (k : ℕ). is_text (take k name) && is_text (drop (at + 1) name)) (sym p.0)

pub without_colon : (name : List ℕ) → position is_colon name ≡ None → length name ≤ 63
    → is_group_name name ≡ (is_text name && not (bytes_eq name (codes "system")))
without_colon name is small =
    let past = first_none name is in
    form_is name true false (le-leb (length name) 63 small) (has_none name past)
    ∙ ap (λ (front : List ℕ). is_text front && not (bytes_eq name (codes "system"))) (take_all (position_or_len is_colon name) name past)

-- ---- the bytes of a group's name

abbrev IsSeen : ℕ → Type 0
IsSeen b = (33 ≤ b) × (b ≤ 126)

seen : (b : ℕ) → is_name_byte b ≡ true → IsSeen b
seen b e =
    let p = and_parts (leb 33 b && leb b 126 && not (eqb b 58)) (not (eqb b 64)) e in
    let q = and_parts (leb 33 b && leb b 126) (not (eqb b 58)) p.0 in
    let r = and_parts (leb 33 b) (leb b 126) q.0 in
    (leb-true 33 b r.0, leb-true b 126 r.1)

text_bytes : (text : List ℕ) → is_text text ≡ true → All IsSeen text
text_bytes text is = λ k d below.
    seen (get_or text k d)
    (AllPass-from_list_all is_name_byte text (and_parts (leb 1 (length text)) (list_all is_name_byte text) is).1 k d below)

colon_seen : (b : ℕ) → is_colon b ≡ true → IsSeen b
colon_seen b is = let same : b ≡ 58 = eqb-true b 58 is in (omega (arith, same), omega (arith, same))

-- a byte stands before the `:`, is it, or stands behind it
around : (name : List ℕ) → position_or_len is_colon name < length name → is_text (front_of name) ≡ true
    → is_text (drop (position_or_len is_colon name + 1) name) ≡ true → All IsSeen name
around name below front behind = λ k d within.
    let at = position_or_len is_colon name in
    let n : length (front_of name) ≡ at = length-take-le at name (omega (arith, below)) in
    elim (cases_lt k at) [
      | inl before ↦
          subst IsSeen (get_or-take at name k d before) (text_bytes (front_of name) front k d (omega (arith, n, before)))
      | inr from ↦
          ⊎_elim
          (λ (same : k ≡ at). subst (λ (j : ℕ). IsSeen (get_or name j d)) (sym same)
          (colon_seen (get_or name at d) (passes_at_first is_colon name d below)))
          (λ (other : k ≡ at → ⊥).
          let j = k - (at + 1) in
          let sum : at + 1 + j ≡ k = omega (arith, from, other) in
          subst (λ (i : ℕ). IsSeen (get_or name i d)) sum
          (subst IsSeen (get_or-drop (at + 1) name j d)
          (text_bytes (drop (at + 1) name) behind j d (omega (arith, length-drop (at + 1) name, within, from, other)))))
          (cases_eq k at)
    ]

whole_text : (name : List ℕ) → length name ≤ position_or_len is_colon name → is_text (front_of name) ≡ true → All IsSeen name
whole_text name past front = subst (All IsSeen) (take_all (position_or_len is_colon name) name past) (text_bytes (front_of name) front)

bytes_by : (name : List ℕ) (small any : Bool) → leb (length name) 63 ≡ small → list_any is_colon name ≡ any
    → forms small any name (front_of name) (behind_colon name) ≡ true → (length name ≤ 63) × All IsSeen name
bytes_by name false any is_small is_any form = absurd cc
bytes_by name true any is_small is_any form =
    let p = and_parts (is_text (front_of name)) (cond any (is_text (behind_colon name)) (not (bytes_eq name (codes "system")))) form in
    let at = position_or_len is_colon name in (
      leb-true (length name) 63 is_small,
      elim (cases_lt at (length name)) [
        | inl below ↦
            let any_is : any ≡ true = sym is_any ∙ has_one name below in
            let n : length (front_of name) ≡ at = length-take-le at name (omega (arith, below)) in
            let behind = ap (λ (b : Bool). cond b (is_text (behind_colon name)) (not (bytes_eq name (codes "system")))) (sym any_is)
            ∙ p.1 in
            around name below p.0 (ap (λ (k : ℕ). is_text (drop (k + 1) name)) (sym n) ∙ behind)
        | inr past ↦ whole_text name past p.0
      ],
    )

group_bytes : (name : List ℕ) → is_group_name name ≡ true → (length name ≤ 63) × All IsSeen name
group_bytes name is =
    bytes_by name (leb (length name) 63) (list_any is_colon name) refl refl
    (sym (form_is name (leb (length name) 63) (list_any is_colon name) refl refl) ∙ is)

-- a group's name has a place in a block
pub group_form : (name : List ℕ) → is_group_name name ≡ true → HasForm name
group_form name is =
    let p = group_bytes name is in
    record {
      bytes = λ i. elim (cases_lt i (length name)) [
        | inl lt ↦ omega (arith, (p.1 i 0 lt).1)
        | inr le ↦ rw (get_or_past name i 0 le) (omega arith)
      ];
      text = λ k d lt. omega (arith, (p.1 k d lt).0);
      len = p.0;
    }
