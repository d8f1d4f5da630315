-- An entry gets another name, owner or id: each name is under its owner's afterwards.
use Rattle.std.proofs.Common.{◌≡◌, ◌≢◌, ℕ, ℤ, pos, negsuc, Bool, true, false, not, ◌&&◌, ◌||◌, cond, eqb, List, [], ◌∷◌, length, Option}
use Rattle.std.proofs.Common.{Some, None, IsSome, refl, sym, ap, subst, ◌∙◌, ⊎_elim, inl, inr}
use Rattle.std.specs.Prelude.{◌⊎◌, codes, is_some, nat_eq, nat_le}
use Rattle.std.specs.List.{list_all}
use Rattle.std.specs.Option.{option_and_then, option_map}
use Rattle.std.specs.Ordering.{int_eq}
use Rattle.std.specs.Str.{bytes_eq}
use Rattle.std.proofs.lemmas.Bool.{and_from, and_parts, cases_Bool, not-true}
use Rattle.std.proofs.lemmas.Slice.Eq.{bytes_eq-Decides}
use Rattle.prdb_layout.specs.Names.{is_name_byte, is_user_name}
use Rattle.prdb_layout.specs.Registry.{Registry, IsOwner, IsRegistry, behind_colon, is_name_for}
use Rattle.prdb_layout.specs.State.{PrEntry, front_of}
use Rattle.prdb_layout.proofs.Changed.{by_id, some_same}
use Rattle.prdb_lists.specs.Moves.{before}
use Rattle.pt_service.specs.NamedAfter.{IsNamedAfter, NamesFollowOwners}
use Rattle.pt_service.specs.Names.{has_colon, with_front}
use Rattle.pt_service.specs.State.{is_group}
use Rattle.pt_service.specs.Turning.{front_of_entry, front_under, given_or, moved, name_after, new_name, owns_another, turned}
use Rattle.pt_service.specs.Turning.{turns_its_groups}
use Rattle.pt_looks.proofs.Pairs.{some_is}
use Rattle.pt_turns.specs.Under.{is_under}
use Rattle.pt_turns.proofs.Anyone.{any_some}
use Rattle.pt_turns.proofs.Equal.{after_by}
use Rattle.pt_turns.proofs.Fronts.{front_again, front_all, front_free}
use Rattle.pt_turns.proofs.Moved.{before_new, before_other, before_same, is_other, moved_other, moved_own, moved_same, not_zero}
use Rattle.pt_turns.proofs.Named.{clash, id_of, to_id, under_parts}
use Rattle.pt_laws.proofs.NamesKept.{Fronts, came}
use Rattle.pt_laws.proofs.SoundTurns.{IsPassed, none_both, owner_by}

-- ---- texts

text_of : (xs ys : List ℕ) → bytes_eq xs ys ≡ true → xs ≡ ys
text_of xs ys is = (bytes_eq-Decides xs ys).0 is

to_text : (xs ys : List ℕ) → xs ≡ ys → bytes_eq xs ys ≡ true
to_text xs ys is = (bytes_eq-Decides xs ys).1 is

-- the name of a user has no `:`
byte_free : (x : ℕ) (rest : Bool) → is_name_byte x ≡ true → rest ≡ false → (eqb x 58 || rest) ≡ false
byte_free x rest good none =
    let two = and_parts (nat_le 33 x && nat_le x 126 && not (eqb x 58)) (not (nat_eq x 64)) good in
    let one = and_parts (nat_le 33 x && nat_le x 126) (not (eqb x 58)) two.0 in
    ap (λ (b : Bool). b || rest) (not-true (eqb x 58) one.1) ∙ none

bytes_free : (xs : List ℕ) → list_all is_name_byte xs ≡ true → has_colon xs ≡ false
bytes_free [] all = refl
bytes_free (x ∷ xs) all =
    let parts = and_parts (is_name_byte x) (list_all is_name_byte xs) all in byte_free x (has_colon xs) parts.0 (bytes_free xs parts.1)

user_free : (name : List ℕ) → is_user_name name ≡ true → has_colon name ≡ false
unfolding is_user_name
user_free name is =
    let three = and_parts (nat_le 1 (length name) && nat_le (length name) 63 && list_all is_name_byte name)
    (not (bytes_eq name (codes "system"))) is in
    bytes_free name (and_parts (nat_le 1 (length name) && nat_le (length name) 63) (list_all is_name_byte name) three.0).1

-- what has a `:` in its name is a group
of_group : (id : ℤ) (name : List ℕ) → is_name_for id name ≡ true → has_colon name ≡ true → is_group id ≡ true
of_group (pos n) name good colon = absurd (clash (has_colon name) colon (user_free name good))
of_group (negsuc n) name good colon = refl

new_front : (front name : List ℕ) → front_of (with_front (front_of front) name) ≡ front_of front
new_front front name = front_again (front_of front) (behind_colon name) (front_free front)

-- ---- names afterwards, by their cases

own_after : (e : PrEntry) (new : List ℕ) (f : PrEntry) → int_eq f.id e.id ≡ true → name_after e new f ≡ new
own_after e new f is = after_by e new f true (is_under e.name f.name) is refl

under_after : (e : PrEntry) (new : List ℕ) (f : PrEntry) → int_eq f.id e.id ≡ false → is_under e.name f.name ≡ true
    → front_of (name_after e new f) ≡ front_of new
under_after e new f other under = ap front_of (after_by e new f false true other under) ∙ new_front new f.name

kept_after : (e : PrEntry) (new : List ℕ) (f : PrEntry) → int_eq f.id e.id ≡ false → is_under e.name f.name ≡ false
    → name_after e new f ≡ f.name
kept_after e new f other apart = after_by e new f false false other apart

-- a name that has a `:` afterwards had one, but for that of the entry itself
had_colon : (e : PrEntry) (new : List ℕ) (f : PrEntry) → int_eq f.id e.id ≡ false → has_colon (name_after e new f) ≡ true
    → has_colon f.name ≡ true
had_colon e new f other colon =
    ⊎_elim (λ (under : is_under e.name f.name ≡ true). (under_parts e.name f.name under).0)
    (λ (apart : is_under e.name f.name ≡ false). ap has_colon (sym (kept_after e new f other apart)) ∙ colon)
    (cases_Bool (is_under e.name f.name))

-- an owner whose front is the new one has it afterwards
same_front : (e : PrEntry) (new : List ℕ) (o : PrEntry) → front_of new ≡ front_of o.name → front_of new ≡ front_of (name_after e new o)
same_front e new o same =
    ⊎_elim (λ (is : int_eq o.id e.id ≡ true). ap front_of (sym (own_after e new o is)))
    (λ (other : int_eq o.id e.id ≡ false).
    ⊎_elim (λ (under : is_under e.name o.name ≡ true). sym (under_after e new o other under))
    (λ (apart : is_under e.name o.name ≡ false). same ∙ ap front_of (sym (kept_after e new o other apart)))
    (cases_Bool (is_under e.name o.name)))
    (cases_Bool (int_eq o.id e.id))

-- an owner whose front was the whole name of the entry has the new one
whole_front : (r : Registry) (e : PrEntry) (new : List ℕ) (o : PrEntry) → IsRegistry r → r.entry e.id ≡ Some e → r.entry o.id ≡ Some o
    → front_of o.name ≡ e.name → front_of new ≡ front_of (name_after e new o)
whole_front r e new o valid own at whole =
    ⊎_elim (λ (is : int_eq o.id e.id ≡ true). ap front_of (sym (own_after e new o is)))
    (λ (other : int_eq o.id e.id ≡ false).
    ⊎_elim
    (λ (colon : has_colon o.name ≡ true). sym (under_after e new o other
    (and_from (has_colon o.name) (bytes_eq (front_of o.name) e.name) colon (to_text (front_of o.name) e.name whole))))
    (λ (none : has_colon o.name ≡ false).
    let same : o.id ≡ e.id = valid.names o.id e.id o e at own (sym (front_all o.name none) ∙ whole) in
    absurd (clash (int_eq o.id e.id) (to_id o.id e.id same) other))
    (cases_Bool (has_colon o.name)))
    (cases_Bool (int_eq o.id e.id))

-- ---- an entry other than the one that turns

one_entry : (r : Registry) (e o : PrEntry) → r.entry e.id ≡ Some e → r.entry o.id ≡ Some o → o.id ≡ e.id → o ≡ e
one_entry r e o own at same = some_same (sym at ∙ ap r.entry same ∙ own)

three : (a b c : Bool) → (a && not b && c) ≡ false → a ≡ true → c ≡ true → b ≡ true
three true true c none first third = refl
three true false true none first third = absurd cc
three true false false none first third = absurd cc
three false b c none first third = absurd cc

not_so : (b : Bool) → b ≡ false → not b ≡ true
not_so true is = absurd cc
not_so false is = refl

-- what owns another group with a `:`, and has one itself, keeps its front
front_stays : (r : Registry) (e : PrEntry) (new : List ℕ) (f : PrEntry) → IsRegistry r → turns_its_groups r e new ≡ false
    → has_colon e.name ≡ true → r.entry f.id ≡ Some f → has_colon f.name ≡ true → f.owner ≡ e.id → int_eq f.id e.id ≡ false
    → front_of new ≡ front_of e.name
front_stays r e new f valid groups has at colon owned other =
    let group = of_group f.id f.name (valid.records f.id f at).name colon in
    text_of (front_of new) (front_of e.name)
    (three (has_colon e.name) (bytes_eq (front_of new) (front_of e.name)) (owns_another r e.id) groups has
    (any_some r (λ g. is_group g.id && int_eq g.owner e.id && not (int_eq g.id e.id)) f valid at
    (and_from (is_group f.id && int_eq f.owner e.id) (not (int_eq f.id e.id))
    (and_from (is_group f.id) (int_eq f.owner e.id) group (to_id f.owner e.id owned)) (not_so (int_eq f.id e.id) other))))

under_from : (whole name : List ℕ) → has_colon name ≡ true → front_of name ≡ whole → is_under whole name ≡ true
under_from whole name colon same = and_from (has_colon name) (bytes_eq (front_of name) whole) colon (to_text (front_of name) whole same)

-- the owner of a name that stays keeps its front
owner_stays : (r : Registry) (e : PrEntry) (new : List ℕ) (f o : PrEntry) → IsRegistry r → r.entry e.id ≡ Some e
    → turns_its_groups r e new ≡ false → r.entry f.id ≡ Some f → r.entry o.id ≡ Some o → has_colon f.name ≡ true → f.owner ≡ o.id
    → int_eq f.id e.id ≡ false → is_under e.name f.name ≡ false → front_of f.name ≡ front_of o.name
    → front_of o.name ≡ front_of (name_after e new o)
owner_stays r e new f o valid own groups f_at o_at colon owned other apart same =
    ⊎_elim
    (λ (is : int_eq o.id e.id ≡ true).
    let one : o.name ≡ e.name = ap (λ (x : PrEntry). x.name) (one_entry r e o own o_at (id_of o.id e.id is)) in
    ⊎_elim
    (λ (has : has_colon e.name ≡ true).
    ap front_of one ∙ sym (front_stays r e new f valid groups has f_at colon (owned ∙ id_of o.id e.id is) other)
    ∙ ap front_of (sym (own_after e new o is)))
    (λ (none : has_colon e.name ≡ false).
    let whole : front_of f.name ≡ e.name = same ∙ ap front_of one ∙ front_all e.name none in
    absurd (clash (is_under e.name f.name) (under_from e.name f.name colon whole) apart))
    (cases_Bool (has_colon e.name)))
    (λ (far : int_eq o.id e.id ≡ false).
    ⊎_elim
    (λ (under : is_under e.name o.name ≡ true).
    absurd (clash (is_under e.name f.name) (under_from e.name f.name colon (same ∙ (under_parts e.name o.name under).1)) apart))
    (λ (off : is_under e.name o.name ≡ false). ap front_of (sym (kept_after e new o far off)))
    (cases_Bool (is_under e.name o.name)))
    (cases_Bool (int_eq o.id e.id))

other_front : (r : Registry) (e : PrEntry) (new : List ℕ) (f o : PrEntry) → IsRegistry r → r.entry e.id ≡ Some e
    → turns_its_groups r e new ≡ false → r.entry f.id ≡ Some f → r.entry o.id ≡ Some o → has_colon f.name ≡ true → f.owner ≡ o.id
    → int_eq f.id e.id ≡ false → front_of f.name ≡ front_of o.name → front_of (name_after e new f) ≡ front_of (name_after e new o)
other_front r e new f o valid own groups f_at o_at colon owned other same =
    ⊎_elim
    (λ (under : is_under e.name f.name ≡ true).
    under_after e new f other under
    ∙ whole_front r e new o valid own o_at (sym same ∙ (under_parts e.name f.name under).1))
    (λ (apart : is_under e.name f.name ≡ false).
    ap front_of (kept_after e new f other apart) ∙ same
    ∙ owner_stays r e new f o valid own groups f_at o_at colon owned other apart same)
    (cases_Bool (is_under e.name f.name))

-- ---- the owner of each

fronted : (name : List ℕ) (o : Option PrEntry) → Fronts name o → (e : PrEntry) × (o ≡ Some e) × (front_of name ≡ front_of e.name)
fronted name None fronts = absurd fronts
fronted name (Some e) fronts = (e, refl, fronts)

-- the entry of this id has, afterwards, the front of a name
record Heads (r : Registry) (e : PrEntry) (new : List ℕ) (id : ℤ) (name : List ℕ) : Type 0 where
  owner : PrEntry
  there : r.entry id ≡ Some owner
  front : front_of name ≡ front_of (name_after e new owner)

heads_other : (r : Registry) (e : PrEntry) (new : List ℕ) (f : PrEntry) → IsRegistry r → NamesFollowOwners r → r.entry e.id ≡ Some e
    → turns_its_groups r e new ≡ false → r.entry f.id ≡ Some f → int_eq f.id e.id ≡ false → has_colon (name_after e new f) ≡ true
    → f.owner ≢ pos 0 → Heads r e new f.owner (name_after e new f)
heads_other r e new f valid follow own groups at other colon owned =
    let had = had_colon e new f other colon in
    let o = fronted f.name (r.entry f.owner) (follow f.id f at had owned) in
    let id : o.0.id ≡ f.owner = valid.ids f.owner o.0 o.1 in
    record {
      owner = o.0;
      there = o.1;
      front = other_front r e new f o.0 valid own groups at (ap r.entry id ∙ o.1) had (sym id) other o.2;
    }

-- ---- the owner of the entry that turns

four : (a b c d : Bool) → (a && b && not c && not d) ≡ false → a ≡ true → b ≡ true → c ≡ false → d ≡ true
four true true false true none one two three = refl
four true true false false none one two three = absurd cc
four true true true d none one two three = absurd cc
four true false c d none one two three = absurd cc
four false b c d none one two three = absurd cc

-- a given name
given_front : (r : Registry) (e : PrEntry) (name : List ℕ) (owner new_id : ℤ) (o : PrEntry) → IsPassed r e name owner new_id
    → not (eqb (length name) 0) ≡ true → has_colon name ≡ true → given_or owner e.owner ≢ pos 0
    → r.entry (given_or owner e.owner) ≡ Some o → front_of name ≡ front_of o.name
given_front r e name owner new_id o p given colon owned at =
    let its = given_or owner e.owner in
    let group = of_group e.id name (none_both (not (eqb (length name) 0)) (is_name_for e.id name) p.form given) colon in
    text_of (front_of name) (front_under r its name)
    (four (is_group e.id) (has_colon name) (int_eq its (pos 0)) (bytes_eq (front_of name) (front_under r its name)) p.named group colon
    (is_other its (pos 0) owned))
    ∙ ap (λ (x : Option PrEntry). front_of_entry x (front_of name)) at

abbrev own_name : Registry → PrEntry → (owner : ℤ) → (turns : Bool) → List ℕ
own_name r e owner turns = cond turns (with_front (front_under r owner e.name) e.name) e.name

owner_given : (e : PrEntry) (owner : ℤ) (none : Bool) → int_eq owner (pos 0) ≡ none → none ≡ false → given_or owner e.owner ≡ owner
owner_given e owner none is some = ap (λ (b : Bool). cond b e.owner owner) (is ∙ some)

-- no owner is given, or the one that there is
owner_kept : (e : PrEntry) (owner : ℤ) (none same : Bool) → int_eq owner (pos 0) ≡ none → int_eq owner e.owner ≡ same
    → (not none && not same) ≡ false → given_or owner e.owner ≡ e.owner
owner_kept e owner true same is is_same rests = ap (λ (b : Bool). cond b e.owner owner) is
owner_kept e owner false true is is_same rests = ap (λ (b : Bool). cond b e.owner owner) is ∙ id_of owner e.owner is_same
owner_kept e owner false false is is_same rests = absurd cc

turn_test : (colon none same : Bool) → (colon && not none && not same) ≡ true → (colon ≡ true) × (none ≡ false)
turn_test true false false is = (refl, refl)
turn_test true false true is = absurd cc
turn_test true true same is = absurd cc
turn_test false none same is = absurd cc

rest_test : (colon none same : Bool) → (colon && not none && not same) ≡ false → colon ≡ true → (not none && not same) ≡ false
rest_test true none same is colon = is
rest_test false none same is colon = absurd cc

own_front : (r : Registry) (e : PrEntry) (owner : ℤ) (o : PrEntry) (turns : Bool) → NamesFollowOwners r → r.entry e.id ≡ Some e
    → (has_colon e.name && not (int_eq owner (pos 0)) && not (int_eq owner e.owner)) ≡ turns
    → has_colon (own_name r e owner turns) ≡ true → given_or owner e.owner ≢ pos 0 → r.entry (given_or owner e.owner) ≡ Some o
    → front_of (own_name r e owner turns) ≡ front_of o.name
own_front r e owner o true follow own is colon owned at =
    let t = turn_test (has_colon e.name) (int_eq owner (pos 0)) (int_eq owner e.owner) is in
    let there : r.entry owner ≡ Some o = ap r.entry (sym (owner_given e owner (int_eq owner (pos 0)) refl t.1)) ∙ at in
    ap (λ (x : Option PrEntry). front_of (with_front (front_of_entry x (front_of e.name)) e.name)) there ∙ new_front o.name e.name
own_front r e owner o false follow own is colon owned at =
    let rests = rest_test (has_colon e.name) (int_eq owner (pos 0)) (int_eq owner e.owner) is colon in
    let same = owner_kept e owner (int_eq owner (pos 0)) (int_eq owner e.owner) refl refl rests in
    let its = fronted e.name (r.entry e.owner) (follow e.id e own colon (λ none. owned (same ∙ none))) in
    its.2 ∙ ap (λ (x : PrEntry). front_of x.name) (some_same (sym its.1 ∙ ap r.entry (sym same) ∙ at))

new_by : (r : Registry) (e : PrEntry) (name : List ℕ) (owner new_id : ℤ) (o : PrEntry) (given : Bool) → NamesFollowOwners r
    → r.entry e.id ≡ Some e → IsPassed r e name owner new_id → not (eqb (length name) 0) ≡ given
    → has_colon (cond given name (own_name r e owner (has_colon e.name && not (int_eq owner (pos 0)) && not (int_eq owner e.owner)))) ≡ true
    → given_or owner e.owner ≢ pos 0 → r.entry (given_or owner e.owner) ≡ Some o
    → front_of (cond given name (own_name r e owner (has_colon e.name && not (int_eq owner (pos 0)) && not (int_eq owner e.owner))))
    ≡ front_of o.name
new_by r e name owner new_id o true follow own p given colon owned at = given_front r e name owner new_id o p given colon owned at
new_by r e name owner new_id o false follow own p given colon owned at =
    own_front r e owner o (has_colon e.name && not (int_eq owner (pos 0)) && not (int_eq owner e.owner)) follow own refl colon owned at

new_heads : (r : Registry) (e : PrEntry) (name : List ℕ) (owner new_id : ℤ) → IsRegistry r → NamesFollowOwners r → r.entry e.id ≡ Some e
    → IsPassed r e name owner new_id → has_colon (new_name r e name owner) ≡ true → given_or owner e.owner ≢ pos 0
    → Heads r e (new_name r e name owner) (given_or owner e.owner) (new_name r e name owner)
new_heads r e name owner new_id valid follow own p colon owned =
    let new = new_name r e name owner in
    let its = given_or owner e.owner in
    let is_there : IsOwner r.entry its = owner_by r (int_eq owner (pos 0)) owner e.owner p.owner_there (valid.among e.id e own).owner in
    ⊎_elim (λ (none : its ≡ pos 0). absurd (owned none))
    (λ (there : IsSome (r.entry its)).
    let o = some_is (r.entry its) there in
    record {
      owner = o.0;
      there = o.1;
      front = same_front e new o.0
          (new_by r e name owner new_id o.0 (not (eqb (length name) 0)) follow own p refl colon owned o.1);
    })
    is_there

-- ---- entries afterwards

abbrev turned_entry : Registry → PrEntry → (new : List ℕ) → (owner id : ℤ) → ℤ → Option PrEntry
turned_entry r e new owner id z = option_map (turned e new owner id) (option_and_then r.entry (before e.id id z))

-- the owner that an entry has by its old id
abbrev its_owner : PrEntry → (owner : ℤ) → PrEntry → ℤ
its_owner e owner f = cond (int_eq f.id e.id) owner f.owner

-- where an id went
went : (old new x : ℤ) → x ≢ new → before old new (moved old new x) ≡ Some x
went old new x not_new =
    by_id x old
    (λ is. before_new old new (moved old new x) (moved_own old new x is) ∙ ap Some (sym is))
    (λ apart. ap (before old new) (moved_other old new x apart) ∙ before_other old new x not_new apart)

-- so an id is found again where it went
back : (old new x : ℤ) → (new ≡ old) ⊎ (x ≢ new) → before old new (moved old new x) ≡ Some x
back old new x (inl same) =
    subst (λ (n : ℤ). before old n (moved old n x) ≡ Some x) (sym same) (ap (before old old) (moved_same old x) ∙ before_same old x)
back old new x (inr other) = went old new x other

free_by : (same : Bool) (o : Option PrEntry) (f : PrEntry) → (not same && is_some o) ≡ false → o ≡ Some f → same ≡ true
free_by true o f free at = refl
free_by false None f free at = absurd cc
free_by false (Some g) f free at = absurd cc

-- the new id is the old one, or that of no entry
apart_by : (r : Registry) (old new x : ℤ) (o : PrEntry) → (not (int_eq new old) && is_some (r.entry new)) ≡ false → r.entry x ≡ Some o
    → (new ≡ old) ⊎ (x ≢ new)
apart_by r old new x o free at =
    by_id x new (λ same. inl (id_of new old (free_by (int_eq new old) (r.entry new) o free (ap r.entry (sym same) ∙ at))))
    (λ other. inr other)

turned_fronts : (r : Registry) (e : PrEntry) (new : List ℕ) (owner id x : ℤ) (name : List ℕ)
    → (not (int_eq id e.id) && is_some (r.entry id)) ≡ false → Heads r e new x name
    → Fronts name (turned_entry r e new owner id (moved e.id id x))
turned_fronts r e new owner id x name free h =
    let at : turned_entry r e new owner id (moved e.id id x) ≡ Some (turned e new owner id h.owner) =
    ap (λ (o : Option ℤ). option_map (turned e new owner id) (option_and_then r.entry o))
    (back e.id id x (apart_by r e.id id x h.owner free h.there))
    ∙ ap (option_map (turned e new owner id)) h.there in
    subst (Fronts name) (sym at) h.front

own_heads : (r : Registry) (e : PrEntry) (name : List ℕ) (owner new_id : ℤ) (f : PrEntry) (own_one : Bool) → IsRegistry r
    → NamesFollowOwners r → r.entry e.id ≡ Some e → IsPassed r e name owner new_id → r.entry f.id ≡ Some f → int_eq f.id e.id ≡ own_one
    → has_colon (name_after e (new_name r e name owner) f) ≡ true
    → cond own_one (given_or owner e.owner) f.owner ≢ pos 0
    → Heads r e (new_name r e name owner) (cond own_one (given_or owner e.owner) f.owner) (name_after e (new_name r e name owner) f)
own_heads r e name owner new_id f true valid follow own p at is colon owned =
    let new = new_name r e name owner in
    let same = own_after e new f is in
    subst (Heads r e new (given_or owner e.owner)) (sym same)
    (new_heads r e name owner new_id valid follow own p (ap has_colon (sym same) ∙ colon) owned)
own_heads r e name owner new_id f false valid follow own p at is colon owned =
    heads_other r e (new_name r e name owner) f valid follow own p.groups at is colon owned

-- ---- all of them

one_named : (r : Registry) (e : PrEntry) (name : List ℕ) (owner new_id : ℤ) (f : PrEntry) → IsRegistry r → NamesFollowOwners r
    → r.entry e.id ≡ Some e → IsPassed r e name owner new_id → r.entry f.id ≡ Some f
    → IsNamedAfter (turned_entry r e (new_name r e name owner) (given_or owner e.owner) (given_or new_id e.id))
    (turned e (new_name r e name owner) (given_or owner e.owner) (given_or new_id e.id) f)
one_named r e name owner new_id f valid follow own p at colon owned =
    let new = new_name r e name owner in
    let its = its_owner e (given_or owner e.owner) f in
    let id = given_or new_id e.id in
    let not_own : pos 0 ≢ e.id = λ none. not_zero e.id (valid.records e.id e own).fields.id (sym none) in
    let some : its ≢ pos 0 = λ none. owned (ap (moved e.id id) none ∙ moved_other e.id id (pos 0) not_own) in
    turned_fronts r e new (given_or owner e.owner) id its (name_after e new f) p.free
    (own_heads r e name owner new_id f (int_eq f.id e.id) valid follow own p at refl colon some)

entry_from : (r : Registry) (o : Option ℤ) (f : PrEntry) → IsRegistry r → option_and_then r.entry o ≡ Some f → r.entry f.id ≡ Some f
entry_from r None f valid at = absurd cc
entry_from r (Some y) f valid at = ap r.entry (valid.ids y f at) ∙ at

pub turned_follow : (r : Registry) (e : PrEntry) (name : List ℕ) (owner new_id : ℤ) → IsRegistry r → NamesFollowOwners r
    → r.entry e.id ≡ Some e → IsPassed r e name owner new_id → (z : ℤ) (g : PrEntry)
    → turned_entry r e (new_name r e name owner) (given_or owner e.owner) (given_or new_id e.id) z ≡ Some g
    → IsNamedAfter (turned_entry r e (new_name r e name owner) (given_or owner e.owner) (given_or new_id e.id)) g
turned_follow r e name owner new_id valid follow own p z g at =
    let make = turned e (new_name r e name owner) (given_or owner e.owner) (given_or new_id e.id) in
    let b = before e.id (given_or new_id e.id) z in
    let c = came make (option_and_then r.entry b) g at in
    subst (IsNamedAfter (turned_entry r e (new_name r e name owner) (given_or owner e.owner) (given_or new_id e.id))) c.made
    (one_named r e name owner new_id c.entry valid follow own p (entry_from r b c.entry valid c.there))
