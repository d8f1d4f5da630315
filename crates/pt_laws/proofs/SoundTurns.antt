-- An entry that is to get another name, owner or id may get it.
use Rattle.std.proofs.Common.{◌≡◌, ℕ, ℤ, pos, negsuc, ◌≤◌, Bool, true, false, not, ◌&&◌, cond, eqb, List, length, Option, Some, None, IsSome, refl, sym, ap, subst, ◌∙◌, ⊎_elim, inl, inr, arith}
use Rattle.std.specs.Prelude.{◌⊎◌, FitsSigned, int_lt, is_none, is_some, nat_lt}
use Rattle.std.specs.Int.{w32}
use Rattle.std.specs.Ordering.{int_eq}
use Rattle.std.proofs.lemmas.Bool.{and_parts, cases_Bool, ltb-false, ltb-true}
use Rattle.std.proofs.lemmas.Bool.Decides.{Decides-int_eq}
use Rattle.std.proofs.lemmas.Int.{ints}
use Rattle.prdb_layout.specs.Registry.{Registry, AreMaxima, IsOwner, IsRegistry, is_name_for, is_text}
use Rattle.prdb_layout.specs.State.{PrEntry, IsId, front_of}
use Rattle.prdb_layout.proofs.Lengths.{fits_id}
use Rattle.pt_calls.specs.declared.answers.PtAnswer.TheVariants as answer
use Rattle.pt_service.specs.Meaning.{Makes, of_entry, raised, turn_by, turns}
use Rattle.pt_service.specs.Names.{has_colon, with_front}
use Rattle.pt_service.specs.State.{State, is_group, is_id}
use Rattle.pt_service.specs.Turning.{front_of_entry, front_under, given_or, has_equal_names, has_long_name, is_fixed, is_misnamed, name_after, new_name, turn_fault, turns_its_groups}
use Rattle.pt_service.proofs.Entered.{group_of, raised_are}
use Rattle.pt_looks.proofs.Pairs.{is_there}
use Rattle.pt_changes.specs.Turning.{MayRename, MayRenumber}
use Rattle.pt_turns.proofs.Anyone.{any_some}
use Rattle.pt_turns.proofs.Equal.{after_own}
use Rattle.pt_turns.proofs.Named.{clash, front_good, front_text}
use Rattle.pt_laws.proofs.Possible.{IsSound, of_one, unless_one}

-- ---- each reason against it fails

pass : (b : Bool) (n : ℕ) (rest : Option ℕ) → cond b (Some n) rest ≡ None → (b ≡ false) × (rest ≡ None)
pass true n rest is = absurd cc
pass false n rest is = (refl, is)

pub record IsPassed (r : Registry) (e : PrEntry) (name : List ℕ) (owner new_id : ℤ) : Type 0 where
  pub not_fixed : is_fixed e.id ≡ false
  pub form : (not (eqb (length name) 0) && not (is_name_for e.id name)) ≡ false
  pub owner_there : (not (int_eq owner (pos 0)) && is_none (r.entry owner)) ≡ false
  pub good : not (is_id (is_group e.id) (given_or new_id e.id)) ≡ false
  pub named : is_misnamed r e.id (given_or owner e.owner) name ≡ false
  pub groups : turns_its_groups r e (new_name r e name owner) ≡ false
  pub short : has_long_name r e (new_name r e name owner) ≡ false
  pub distinct : has_equal_names r e (new_name r e name owner) ≡ false
  pub free : (not (int_eq (given_or new_id e.id) e.id) && is_some (r.entry (given_or new_id e.id))) ≡ false

pub passed : (r : Registry) (e : PrEntry) (name : List ℕ) (owner new_id : ℤ) → turn_fault r e name owner new_id ≡ None
    → IsPassed r e name owner new_id
passed r e name owner new_id none =
    let new = new_name r e name owner in
    let id = given_or new_id e.id in
    let a = pass (is_fixed e.id) 267269 _ none in
    let b = pass (not (eqb (length name) 0) && not (is_name_for e.id name)) 267272 _ a.1 in
    let c = pass (not (int_eq owner (pos 0)) && is_none (r.entry owner)) 267268 _ b.1 in
    let d = pass (not (is_id (is_group e.id) id)) 267273 _ c.1 in
    let f = pass (is_misnamed r e.id (given_or owner e.owner) name) 267272 _ d.1 in
    let g = pass (turns_its_groups r e new) 267269 _ f.1 in
    let h = pass (has_long_name r e new) 267272 _ g.1 in
    let i = pass (has_equal_names r e new) 267264 _ h.1 in
    let j = pass (not (int_eq id e.id) && is_some (r.entry id)) 267265 None i.1 in
    record {
      not_fixed = a.0;
      form = b.0;
      owner_there = c.0;
      good = d.0;
      named = f.0;
      groups = g.0;
      short = h.0;
      distinct = i.0;
      free = j.0;
    }

-- ---- its name

is_not : (b : Bool) → not b ≡ false → b ≡ true
is_not true is = refl
is_not false is = absurd cc

pub none_both : (a b : Bool) → (a && not b) ≡ false → a ≡ true → b ≡ true
none_both true b none is = is_not b none
none_both false b none is = absurd cc

new_short : (r : Registry) (e : PrEntry) (new : List ℕ) → IsRegistry r → r.entry e.id ≡ Some e → has_long_name r e new ≡ false
    → length new ≤ 63
new_short r e new valid own short =
    ⊎_elim
    (λ (long : nat_lt 63 (length new) ≡ true).
    absurd (clash (has_long_name r e new)
    (any_some r (λ f. nat_lt 63 (length (name_after e new f))) e valid own
    (ap (λ (n : List ℕ). nat_lt 63 (length n)) (after_own e new) ∙ long)) short))
    (λ (low : nat_lt 63 (length new) ≡ false). ltb-false 63 (length new) low)
    (cases_Bool (nat_lt 63 (length new)))

good_by : (b : Bool) (id : ℤ) (x y : List ℕ) → length (cond b x y) ≤ 63 → (b ≡ true → length x ≤ 63 → is_name_for id x ≡ true)
    → (b ≡ false → length y ≤ 63 → is_name_for id y ≡ true) → is_name_for id (cond b x y) ≡ true
good_by true id x y short here there = here refl short
good_by false id x y short here there = there refl short

text_of : (o : Option PrEntry) (otherwise : List ℕ) → ((f : PrEntry) → o ≡ Some f → is_text (front_of f.name) ≡ true)
    → is_text otherwise ≡ true
    → is_text (front_of_entry o otherwise) ≡ true
text_of None otherwise here there = there
text_of (Some f) otherwise here there = here f refl

new_good : (r : Registry) (e : PrEntry) (name : List ℕ) (owner new_id : ℤ) → IsRegistry r → r.entry e.id ≡ Some e
    → IsPassed r e name owner new_id
    → is_name_for e.id (new_name r e name owner) ≡ true
new_good r e name owner new_id valid own p =
    let was = (valid.records e.id e own).name in
    let front = front_under r owner e.name in
    let turns_front = has_colon e.name && not (int_eq owner (pos 0)) && not (int_eq owner e.owner) in
    let text : is_text front ≡ true =
    text_of (r.entry owner) (front_of e.name) (λ f at. front_text f.id f.name (valid.records owner f at).name)
    (front_text e.id e.name was) in
    good_by (not (eqb (length name) 0)) e.id name (cond turns_front (with_front front e.name) e.name)
    (new_short r e (new_name r e name owner) valid own p.short)
    (λ given short. none_both (not (eqb (length name) 0)) (is_name_for e.id name) p.form given)
    (λ none short. good_by turns_front e.id (with_front front e.name) e.name short
    (λ turns len. front_good e.id front e.name text
    (and_parts (has_colon e.name) (not (int_eq owner (pos 0)))
    (and_parts (has_colon e.name && not (int_eq owner (pos 0))) (not (int_eq owner e.owner)) turns).0).0 was len)
    (λ stays len. was))

-- ---- its owner

some_of : (o : Option PrEntry) → is_none o ≡ false → IsSome o
some_of None is = absurd cc
some_of (Some e) is = refl

pub owner_by : (r : Registry) (none : Bool) (given old : ℤ) → (not none && is_none (r.entry given)) ≡ false → IsOwner r.entry old
    → IsOwner r.entry (cond none old given)
owner_by r true given old there was = was
owner_by r false given old there was = inr (some_of (r.entry given) there)

-- ---- its id

id_of : (group : Bool) (id : ℤ) → FitsSigned w32 id → is_id group id ≡ true → IsId id
id_of true (pos n) fits is = absurd cc
id_of true (negsuc n) fits is = ltb-true n 2147483647 is
id_of false (pos n) fits is = (ltb-true 0 n is, omega (arith, ints, fits.sfits))
id_of false (negsuc n) fits is = absurd cc

fits_by : (b : Bool) (x y : ℤ) → FitsSigned w32 x → FitsSigned w32 y → FitsSigned w32 (cond b x y)
fits_by true x y h k = h
fits_by false x y h k = k

none_of : (o : Option PrEntry) → is_some o ≡ false → o ≡ None
none_of None is = refl
none_of (Some e) is = absurd cc

free_by : (same : Bool) (o : Option PrEntry) → (not same && is_some o) ≡ false → same ≡ false → o ≡ None
free_by true o free other = absurd cc
free_by false o free other = none_of o free

number_can : (r : Registry) (e : PrEntry) (id : ℤ) → r.entry e.id ≡ Some e → is_fixed e.id ≡ false → FitsSigned w32 id
    → not (is_id (is_group e.id) id) ≡ false
    → (not (int_eq id e.id) && is_some (r.entry id)) ≡ false → (id ≡ e.id) ⊎ MayRenumber e.id id r
number_can r e id own not_fixed fits good free =
    let is = is_not (is_id (is_group e.id) id) good in
    ⊎_elim
    (λ (same : int_eq id e.id ≡ true). inl ((Decides-int_eq id e.id).0 same))
    (λ (other : int_eq id e.id ≡ false). inr (record {
      there = is_there (r.entry e.id) e own;
      not_fixed = not_fixed;
      good = id_of (is_group e.id) id fits is;
      kind = group_of (is_group e.id) id is;
      new_id = free_by (int_eq id e.id) (r.entry id) free other;
    }))
    (cases_Bool (int_eq id e.id))

-- ---- the maxima

zero_by : (u g : ℤ) (b : Bool) → AreMaxima u g → AreMaxima (cond b (pos 0) u) g
zero_by u g true are =
    record { user_low = omega (arith, ints); user_high = omega (arith, ints); group_low = are.group_low; group_high = are.group_high }
zero_by u g false are = are

-- 0 is past no maximum
zero_raised : (u g id : ℤ) → AreMaxima u g → id ≡ pos 0 → AreMaxima (raised u g id).0 (raised u g id).1
zero_raised u g id are zero = subst (λ (z : ℤ). AreMaxima (raised u g z).0 (raised u g z).1) (sym zero) (zero_by u g (int_lt u (pos 0)) are)

given_raised : (u g id : ℤ) (group : Bool) → AreMaxima u g → FitsSigned w32 id → is_id group id ≡ true
    → AreMaxima (raised u g id).0 (raised u g id).1
given_raised u g id group are fits is = raised_are u g id are fits (subst (λ (b : Bool). is_id b id ≡ true) (sym (group_of group id is)) is)

maxima_can : (u g new_id old : ℤ) (group : Bool) → AreMaxima u g → FitsSigned w32 new_id → is_id group (given_or new_id old) ≡ true
    → AreMaxima (raised u g new_id).0 (raised u g new_id).1
maxima_can u g new_id old group are fits is =
    ⊎_elim
    (λ (none : int_eq new_id (pos 0) ≡ true). zero_raised u g new_id are ((Decides-int_eq new_id (pos 0)).0 none))
    (λ (some : int_eq new_id (pos 0) ≡ false).
    given_raised u g new_id group are fits (ap (λ (b : Bool). is_id group (cond b old new_id)) (sym some) ∙ is))
    (cases_Bool (int_eq new_id (pos 0)))

-- ---- all of it

turn_can : (s : State) (e : PrEntry) (name : List ℕ) (owner new_id : ℤ) → IsRegistry s.registry → s.registry.entry e.id ≡ Some e
    → FitsSigned w32 new_id
    → turn_fault s.registry e name owner new_id ≡ None → IsSound s (Makes answer.Done (turn_by s.registry name owner new_id e))
turn_can s e name owner new_id valid own fits none =
    let r = s.registry in
    let p = passed r e name owner new_id none in
    let id_fits = fits_by (int_eq new_id (pos 0)) e.id new_id (fits_id e.id (valid.records e.id e own).fields.id) fits in
    let named : MayRename e (new_name r e name owner) (given_or owner e.owner) r = record {
      there = own;
      not_fixed = p.not_fixed;
      good = new_good r e name owner new_id valid own p;
      short = p.short;
      distinct = p.distinct;
      owner_there = owner_by r (int_eq owner (pos 0)) owner e.owner p.owner_there (valid.among e.id e own).owner;
    } in
    record {
      may = (named, number_can r e (given_or new_id e.id) own p.not_fixed id_fits p.good p.free);
      maxima = maxima_can r.max_user r.max_group new_id e.id (is_group e.id) valid.maxima fits
          (is_not (is_id (is_group e.id) (given_or new_id e.id)) p.good);
    }

pub turn_sound : (s : State) (id : ℤ) (name : List ℕ) (owner new_id : ℤ) → IsRegistry s.registry → FitsSigned w32 new_id
    → IsSound s (of_entry (s.registry.entry id) (turns s.registry name owner new_id))
turn_sound s id name owner new_id valid fits =
    of_one (IsSound s) (s.registry.entry id) (turns s.registry name owner new_id) (λ rule. tt)
    (λ e at. unless_one (IsSound s) (turn_fault s.registry e name owner new_id) (Makes answer.Done (turn_by s.registry name owner new_id e))
    (λ rule. tt)
    (λ none. turn_can s e name owner new_id valid (ap s.registry.entry (valid.ids id e at) ∙ at) fits none))
