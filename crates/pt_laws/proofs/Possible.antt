-- What a change needs of the state in which it is made.
use Rattle.std.proofs.Common.{◌≡◌, ℕ, ℤ, Bool, true, false, cond, List, Option, Some, None, IsSome, Result, Ok, Err, refl}
use Rattle.prdb_layout.specs.Registry.{AreMaxima, IsRecord, MayBeAdded, MayReplace}
use Rattle.prdb_layout.specs.State.{PrEntry}
use Rattle.prdb_lists.specs.Members.{MayJoin, MayLeave}
use Rattle.pt_service.specs.Meaning.{Answers, Change, Enter, Join, Leave, Makes, Maxima, NoCall, Part, Refit, Refuses, Turn, Verdict}
use Rattle.pt_service.specs.Meaning.{of_entry, of_owner, unless}
use Rattle.pt_service.specs.State.{State}
use Rattle.pt_service.specs.Turning.{is_fixed}
use Rattle.pt_looks.specs.States.{members_of}
use Rattle.pt_changes.specs.Turning.{MayTurn}

-- ---- changes that may be made

pub record CanEnter (s : State) (e : PrEntry) (user group : ℤ) : Type 0 where
  pub good : IsRecord e
  pub may : MayBeAdded e s.registry
  pub maxima : AreMaxima user group

pub record CanRefit (s : State) (e : PrEntry) : Type 0 where
  pub good : IsRecord e
  pub may : MayReplace e.id e s.registry

pub record CanLeave (s : State) (gone : ℤ) : Type 0 where
  pub there : IsSome (s.registry.entry gone)
  pub not_fixed : is_fixed gone ≡ false

pub record CanTurn (s : State) (e : PrEntry) (name : List ℕ) (owner id user group : ℤ) : Type 0 where
  pub may : MayTurn e name owner id s.registry
  pub maxima : AreMaxima user group

abbrev pub CanMake : State → Change → Type 0
CanMake s (Maxima user group) = AreMaxima user group
CanMake s (Enter e user group) = CanEnter s e user group
CanMake s (Refit e) = CanRefit s e
CanMake s (Leave id) = CanLeave s id
CanMake s (Turn e name owner id user group) = CanTurn s e name owner id user group
CanMake s (Join user group) = MayJoin user group s.registry (members_of s)
CanMake s (Part user group) = MayLeave user group (members_of s)

-- what is decided of a call can be made
abbrev pub IsSound : State → Verdict → Type 0
IsSound s NoCall = Unit {0}
IsSound s (Refuses rule) = Unit {0}
IsSound s (Answers a) = Unit {0}
IsSound s (Makes a change) = CanMake s change

-- ---- verdicts that are put together

pub either : (P : Verdict → Type 0) (b : Bool) (v w : Verdict) → (b ≡ true → P v) → (b ≡ false → P w) → P (cond b v w)
either P true v w here there = here refl
either P false v w here there = there refl

pub of_one : (P : Verdict → Type 0) (o : Option PrEntry) (goes : PrEntry → Verdict) → ((rule : ℕ) → P (Refuses rule))
    → ((e : PrEntry) → o ≡ Some e → P (goes e)) → P (of_entry o goes)
of_one P None goes refused so = refused 267268
of_one P (Some e) goes refused so = so e refl

pub of_good : (P : Verdict → Type 0) (o : Result ℤ ℕ) (goes : ℤ → Verdict) → ((rule : ℕ) → P (Refuses rule))
    → ((owner : ℤ) → o ≡ Ok owner → P (goes owner)) → P (of_owner o goes)
of_good P (Err rule) goes refused so = refused rule
of_good P (Ok owner) goes refused so = so owner refl

pub unless_one : (P : Verdict → Type 0) (o : Option ℕ) (v : Verdict) → ((rule : ℕ) → P (Refuses rule)) → (o ≡ None → P v)
    → P (unless o v)
unless_one P None v refused so = so refl
unless_one P (Some rule) v refused so = refused rule
