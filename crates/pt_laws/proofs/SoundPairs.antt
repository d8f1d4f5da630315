-- A pair that is to come or to go may do so, and so may an entry that is to leave.
use Rattle.std.proofs.Common.{◌≡◌, ℤ, pos, negsuc, Bool, true, false, not, ◌||◌, cond, Option, Some, None, IsSome, refl, ap, subst, ◌∙◌, arith}
use Rattle.std.specs.Prelude.{◌<ℤ◌, is_none}
use Rattle.std.specs.Ordering.{int_eq}
use Rattle.std.proofs.lemmas.Bool.{or_parts}
use Rattle.std.proofs.lemmas.Int.{ints}
use Rattle.prdb_layout.specs.Registry.{Registry, IsRegistry}
use Rattle.prdb_layout.specs.State.{PrEntry, IsId}
use Rattle.pt_calls.specs.declared.answers.PtAnswer.TheVariants as answer
use Rattle.pt_service.specs.Meaning.{Join, Leave, Makes, Part, Refuses, Verdict, joins, leaves, of_entry, of_pair, parts}
use Rattle.pt_service.specs.Refusals as rule
use Rattle.pt_service.specs.State.{State, is_group}
use Rattle.pt_service.specs.Turning.{is_fixed}
use Rattle.pt_looks.proofs.Pairs.{is_there, some_is}
use Rattle.pt_laws.proofs.Possible.{IsSound, either, of_one}

-- ---- both are there

pub record ArePair (s : State) (user group : ℤ) : Type 0 where
  pub user_there : IsSome (s.registry.entry user)
  pub group_there : IsSome (s.registry.entry group)
  pub of_group : is_group group ≡ true
  pub of_user : is_group user ≡ false

some_of : (o : Option PrEntry) → is_none o ≡ false → IsSome o
some_of None is = absurd cc
some_of (Some e) is = refl

is_not : (b : Bool) → not b ≡ false → b ≡ true
is_not true is = refl
is_not false is = absurd cc

pub pair_sound : (s : State) (user group : ℤ) (goes : Verdict) → (ArePair s user group → IsSound s goes)
    → IsSound s (of_pair s.registry user group goes)
pair_sound s user group goes so =
    let kinds = cond (not (is_group group)) (Refuses rule.not_group) (cond (is_group user) (Refuses rule.not_user) goes) in
    either (IsSound s) (is_none (s.registry.entry user) || is_none (s.registry.entry group)) (Refuses rule.no_entry) kinds (λ is. tt)
    (λ there. let p = or_parts (is_none (s.registry.entry user)) (is_none (s.registry.entry group)) there in
    either (IsSound s) (not (is_group group)) (Refuses rule.not_group) (cond (is_group user) (Refuses rule.not_user) goes) (λ is. tt)
    (λ of_group. either (IsSound s) (is_group user) (Refuses rule.not_user) goes (λ is. tt)
    (λ of_user. so (record {
      user_there = some_of (s.registry.entry user) p.0;
      group_there = some_of (s.registry.entry group) p.1;
      of_group = is_not (is_group group) of_group;
      of_user = of_user;
    }))))

user_above : (x : ℤ) → IsId x → is_group x ≡ false → pos 0 <ℤ x
user_above (pos n) id is = omega (arith, ints, id.0)
user_above (negsuc n) id is = absurd cc

group_below : (x : ℤ) → is_group x ≡ true → x <ℤ pos 0
group_below (pos n) is = absurd cc
group_below (negsuc n) is = omega (arith, ints)

there_id : (r : Registry) (x : ℤ) → IsRegistry r → IsSome (r.entry x) → IsId x
there_id r x valid there = let e = some_is (r.entry x) there in subst IsId (valid.ids x e.0 e.1) (valid.records x e.0 e.1).fields.id

-- ---- a pair comes

joins_sound : (s : State) (user group : ℤ) → IsRegistry s.registry → ArePair s user group → IsSound s (joins s user group)
joins_sound s user group valid pair =
    let act = Makes answer.Done (Join user group) in
    either (IsSound s) (int_eq group (negsuc 100) || int_eq group (negsuc 101)) (Refuses rule.not_permitted)
    (cond (s.is_in user group) (Refuses rule.id_exists) act) (λ is. tt)
    (λ open_group. either (IsSound s) (s.is_in user group) (Refuses rule.id_exists) act (λ is. tt)
    (λ new. record {
      user = user_above user (there_id s.registry user valid pair.user_there) pair.of_user;
      group_id = group_below group pair.of_group;
      member_there = pair.user_there;
      group_there = pair.group_there;
      new = new;
    }))

pub join_sound : (s : State) (user group : ℤ) → IsRegistry s.registry → IsSound s (of_pair s.registry user group (joins s user group))
join_sound s user group valid = pair_sound s user group (joins s user group) (λ pair. joins_sound s user group valid pair)

-- ---- a pair goes

pub part_sound : (s : State) (user group : ℤ) → IsSound s (of_pair s.registry user group (parts s user group))
part_sound s user group =
    pair_sound s user group (parts s user group)
    (λ pair. either (IsSound s) (s.is_in user group) (Makes answer.Done (Part user group)) (Refuses rule.no_entry) (λ there. there)
    (λ is. tt))

-- ---- an entry leaves

pub leave_sound : (s : State) (id : ℤ) → IsRegistry s.registry → IsSound s (of_entry (s.registry.entry id) leaves)
leave_sound s id valid =
    of_one (IsSound s) (s.registry.entry id) leaves (λ rule. tt)
    (λ e at. either (IsSound s) (is_fixed e.id) (Refuses rule.not_permitted) (Makes answer.Done (Leave e.id)) (λ is. tt)
    (λ free. record { there = is_there (s.registry.entry e.id) e (ap s.registry.entry (valid.ids id e at) ∙ at); not_fixed = free }))
