-- An entry that turns to what it is leaves the image.
use Rattle.std.proofs.Common.{◌≡◌, ℕ, ℤ, Bool, true, false, cond, List, [], ◌∷◌, Option, Some, None, refl, sym, ap, subst, ◌∙◌, ⊎_elim, inl, inr}
use Rattle.std.specs.Prelude.{option_and_then, option_map}
use Rattle.std.specs.Ordering.{int_eq}
use Rattle.std.proofs.lemmas.Bool.{cases_Bool}
use Rattle.std.proofs.lemmas.Bool.Decides.{Decides-int_eq}
use mathlib.Core.Path.{fun_ext}
use Rattle.prdb_layout.specs.Registry.{Registry, with_entry}
use Rattle.prdb_layout.specs.State.{PrEntry, front_of}
use Rattle.prdb_layout.proofs.Changed.{by_id, some_same, under_other, under_same}
use Rattle.prdb_lists.specs.Moves.{before}
use Rattle.prdb_finds.specs.Changes.{after_set_maxima}
use Rattle.prdb_finds.specs.Records.{whole}
use Rattle.prdb_entries.specs.Changes.{after_replace}
use Rattle.pt_service.specs.Meaning.{Turn, state_after}
use Rattle.pt_service.specs.Names.{with_front}
use Rattle.pt_service.specs.State.{State, elements}
use Rattle.pt_service.specs.Turning.{is_fixed, moved, name_after, turned}
use Rattle.prdb_turns.specs.Fronts.{after_fronts, fronted, ids_by_block}
use Rattle.prdb_turns.specs.Owners.{after_gives, with_owner, with_owners}
use Rattle.prdb_turns.specs.Refits.{after_refit, with_refit}
use Rattle.prdb_turns.specs.Renumbering.{after_renumber, renumbered}
use Rattle.prdb_turns.specs.Turning.{after_id, after_turn as after_steps, first, is_under as is_named_under, named, second}
use Rattle.pt_looks.specs.States.{HoldsRecords, members_of}
use Rattle.pt_changes.specs.Turning.{after_turn, its_in}
use Rattle.pt_turns.specs.Under.{is_one_under, is_under}
use Rattle.pt_turns.proofs.Equal.{after_by, after_own}
use Rattle.pt_turns.proofs.Grouped.{AreUnder, groups_under, not_empty}
use Rattle.pt_turns.proofs.Named.{not_itself}
use Rattle.pt_changes.specs.Standing.{image_after}
use Rattle.pt_laws.proofs.Possible.{CanTurn}
use Rattle.pt_laws.proofs.Refilled.{maxima_same, replace_same}

-- ---- each entry is what it turns to

to_same : (a b : ℤ) → a ≡ b → int_eq a b ≡ true
to_same a b is = (Decides-int_eq a b).1 is

-- the entries stay where the id does
before_by : (r : Registry) (id z : ℤ) (b : Bool) → int_eq z id ≡ b
    → option_and_then r.entry (cond b (Some id) (cond b None (Some z))) ≡ r.entry z
before_by r id z true is = sym (ap r.entry ((Decides-int_eq z id).0 is))
before_by r id z false is = refl

before_same : (r : Registry) (id z : ℤ) → option_and_then r.entry (before id id z) ≡ r.entry z
before_same r id z = before_by r id z (int_eq z id) refl

-- nothing is turned where the state stays
abbrev Turns : PrEntry → (name : List ℕ) → (owner : ℤ) → Registry → Type 0
Turns e name owner r = (f : PrEntry) → r.entry f.id ≡ Some f → turned e name owner e.id f ≡ f

turns_to_itself : (s : State) (e : PrEntry) (name : List ℕ) (owner user group : ℤ) → state_after (Turn e name owner e.id user group) s ≡ s
    → Turns e name owner s.registry
turns_to_itself s e name owner user group same f at =
    some_same
    (sym (ap (option_map (turned e name owner e.id)) (before_same s.registry e.id f.id ∙ at))
    ∙ ap (λ (t : State). t.registry.entry f.id) same ∙ at)

-- the entry itself
name_same : (e : PrEntry) (name : List ℕ) (owner : ℤ) → turned e name owner e.id e ≡ e → named name e ≡ e
name_same e name owner same =
    ap (λ (n : List ℕ). record e { name = n }) (sym (after_own e name) ∙ ap (λ (x : PrEntry). x.name) same)

owner_same : (e : PrEntry) (name : List ℕ) (owner : ℤ) → turned e name owner e.id e ≡ e → with_owner (moved e.id e.id owner) e ≡ e
owner_same e name owner same =
    ap (λ (z : ℤ). record e { owner = z }) (ap (λ (b : Bool). moved e.id e.id (cond b owner e.owner)) (sym (to_same e.id e.id refl))
    ∙ ap (λ (x : PrEntry). x.owner) same)

-- an entry that is named after it
same_at : (o : Option PrEntry) (e f : PrEntry) → o ≡ Some e → o ≡ Some f → e ≡ f
same_at o e f one two = some_same (sym one ∙ two)

apart : (r : Registry) (e f : PrEntry) → r.entry e.id ≡ Some e → r.entry f.id ≡ Some f → is_under e.name f.name ≡ true
    → int_eq f.id e.id ≡ false
apart r e f own at is =
    ⊎_elim
    (λ (same : int_eq f.id e.id ≡ true).
    let one : f ≡ e = same_at (r.entry e.id) f e (ap r.entry (sym ((Decides-int_eq f.id e.id).0 same)) ∙ at) own in
    absurd (not_itself e.name (ap (λ (x : PrEntry). is_under e.name x.name) (sym one) ∙ is)))
    (λ (other : int_eq f.id e.id ≡ false). other)
    (cases_Bool (int_eq f.id e.id))

fronted_same : (r : Registry) (e : PrEntry) (name : List ℕ) (owner : ℤ) (f : PrEntry) → Turns e name owner r → r.entry e.id ≡ Some e
    → r.entry f.id ≡ Some f
    → is_under e.name f.name ≡ true → fronted (front_of name) f ≡ f
fronted_same r e name owner f turns own at is =
    let after : name_after e name f ≡ with_front (front_of name) f.name = after_by e name f false true (apart r e f own at is) is in
    let same : with_front (front_of name) f.name ≡ f.name = sym after ∙ ap (λ (x : PrEntry). x.name) (turns f at) in
    ap (λ (n : List ℕ). record f { name = n }) same

-- ---- the image

entry_same : (r : Registry) (f : PrEntry) → r.entry f.id ≡ Some f → with_entry f r ≡ r
entry_same r f at =
    ap (λ (entry : ℤ → Option PrEntry). record r { entry = entry })
    (fun_ext (λ (z : ℤ). by_id {P = (with_entry f r).entry z ≡ r.entry z} z f.id
    (λ same. under_same f.id z (Some f) r.entry same ∙ sym (ap r.entry same ∙ at)) (λ other. under_other f.id z (Some f) r.entry other)))

-- an entry that gets what it has
record IsRefitAlike (made : PrEntry → PrEntry) (o : Option PrEntry) (r : Registry) (image : List ℕ) : Type 0 where
  bytes : after_refit made o image ≡ image
  entries : with_refit made o r ≡ r

refit_same : (made : PrEntry → PrEntry) (image : List ℕ) (s : State) (id : ℤ) (f : PrEntry) → HoldsRecords image s
    → s.registry.entry id ≡ Some f → made f ≡ f → IsRefitAlike made (s.registry.entry id) s.registry image
refit_same made image s id f holds at same =
    let here : s.registry.entry f.id ≡ Some f = ap s.registry.entry (holds.pairs.holds.valid.ids id f at) ∙ at in
    record {
      bytes = ap (λ (o : Option PrEntry). after_refit made o image) at ∙ ap (λ (x : PrEntry). after_replace f.id x image) same
          ∙ replace_same image s f holds here;
      entries = ap (λ (o : Option PrEntry). with_refit made o s.registry) at ∙ ap (λ (x : PrEntry). with_entry x s.registry) same
          ∙ entry_same s.registry f here;
    }

group_of : (whole : List ℕ) (o : Option PrEntry) → is_one_under whole o ≡ true → (f : PrEntry) × (o ≡ Some f)
    × (is_under whole f.name ≡ true)
group_of whole None is = absurd cc
group_of whole (Some f) is = (f, refl, is)

fronts_stay : (image : List ℕ) (s : State) (e : PrEntry) (name : List ℕ) (owner : ℤ) (those : List ℤ) → HoldsRecords image s
    → Turns e name owner s.registry → s.registry.entry e.id ≡ Some e → AreUnder s.registry e.name those
    → after_fronts (front_of name) those s.registry image ≡ image
fronts_stay image s e name owner [] holds turns own all = refl
fronts_stay image s e name owner (id ∷ those) holds turns own all =
    let front = front_of name in
    let f = group_of e.name (s.registry.entry id) all.0 in
    let here : s.registry.entry f.0.id ≡ Some f.0 = ap s.registry.entry (holds.pairs.holds.valid.ids id f.0 f.1) ∙ f.1 in
    let one = refit_same (fronted front) image s id f.0 holds f.1 (fronted_same s.registry e name owner f.0 turns own here f.2) in
    ap (λ (r : Registry). after_fronts front those r (after_refit (fronted front) (s.registry.entry id) image)) one.entries
    ∙ ap (λ (i : List ℕ). after_fronts front those s.registry i) one.bytes
    ∙ fronts_stay image s e name owner those holds turns own all.1

-- the steps, none of which changes anything
second_same : (s : State) (e : PrEntry) (name : List ℕ) → first e name s.registry ≡ s.registry → second e name e.id s.registry ≡ s.registry
second_same s e name same =
    ap (λ (b : Bool). cond b (first e name s.registry) (renumbered e.id e.id (first e name s.registry))) (to_same e.id e.id refl) ∙ same

steps_stay : (image : List ℕ) (s : State) (e : PrEntry) (name : List ℕ) (owner : ℤ) (its others : List ℤ) → HoldsRecords image s
    → Turns e name owner s.registry → s.registry.entry e.id ≡ Some e → is_fixed e.id ≡ false
    → after_steps e name owner e.id its others s.registry image ≡ image
unfolding after_steps
steps_stay image s e name owner its others holds turns own free =
    let r = s.registry in
    let to = moved e.id e.id owner in
    let groups = ids_by_block (is_named_under e.name) image in
    let one = refit_same (named name) image s e.id e holds own (name_same e name owner (turns e own)) in
    let three = refit_same (with_owner to) image s e.id e holds own (owner_same e name owner (turns e own)) in
    let named_image = after_refit (named name) (r.entry e.id) image in
    let two : after_id e.id e.id its others (first e name r) named_image ≡ image =
    ap (λ (b : Bool). cond b named_image (after_renumber e.id e.id its others (first e name r) named_image)) (to_same e.id e.id refl)
    ∙ one.bytes in
    let under = groups_under image r (members_of s) e.name (not_empty image r (members_of s) e holds own free) holds in
    ap (λ (q : Registry). after_fronts (front_of name) groups (with_owners to (e.id ∷ []) q)
    (after_gives to (e.id ∷ []) q (after_id e.id e.id its others (first e name r) named_image))) (second_same s e name one.entries)
    ∙ ap (λ (i : List ℕ). after_fronts (front_of name) groups (with_owners to (e.id ∷ []) r) (after_gives to (e.id ∷ []) r i)) two
    ∙ ap (λ (q : Registry). after_fronts (front_of name) groups q (after_gives to (e.id ∷ []) r image)) three.entries
    ∙ ap (after_fronts (front_of name) groups r) three.bytes
    ∙ fronts_stay image s e name owner groups holds turns own under

keeps_id : (image : List ℕ) (s : State) (e : PrEntry) (name : List ℕ) (owner user group : ℤ) → HoldsRecords image s
    → s.registry.entry e.id ≡ Some e → is_fixed e.id ≡ false
    → state_after (Turn e name owner e.id user group) s ≡ s → after_turn e name owner e.id s image ≡ image
unfolding after_turn
keeps_id image s e name owner user group holds own free same =
    steps_stay image s e name owner (its_in (whole (after_refit (named name) (s.registry.entry e.id) image)) (first e name s.registry) e.id)
    (elements s e.id) holds (turns_to_itself s e name owner user group same) own free

-- ---- another id changes the state

arrives : (s : State) (e : PrEntry) (name : List ℕ) (owner id user group : ℤ) → s.registry.entry e.id ≡ Some e → s.registry.entry id ≡ None
    → state_after (Turn e name owner id user group) s ≡ s → ⊥
arrives s e name owner id user group own none same =
    let came : option_and_then s.registry.entry (before e.id id id) ≡ Some e =
    ap (λ (b : Bool). option_and_then s.registry.entry (cond b (Some e.id) (cond (int_eq id e.id) None (Some id)))) (to_same id id refl)
    ∙ own in
    let some : Some (turned e name owner id e) ≡ None =
    sym (ap (option_map (turned e name owner id)) came) ∙ ap (λ (t : State). t.registry.entry id) same ∙ none in
    cc

pub turn_stays : (image : List ℕ) (s : State) (e : PrEntry) (name : List ℕ) (owner id user group : ℤ) → HoldsRecords image s
    → CanTurn s e name owner id user group
    → state_after (Turn e name owner id user group) s ≡ s → image_after (Turn e name owner id user group) s image ≡ image
turn_stays image s e name owner id user group holds can same =
    let own = can.may.0.there in
    let turn : after_turn e name owner id s image ≡ image = elim can.may.1 [
      | inl kept ↦
          subst (λ (z : ℤ). after_turn e name owner z s image ≡ image) (sym kept)
          (keeps_id image s e name owner user group holds own can.may.0.not_fixed
          (subst (λ (z : ℤ). state_after (Turn e name owner z user group) s ≡ s) kept same))
      | inr new ↦ absurd (arrives s e name owner id user group own new.new_id same)
    ] in
    ap (after_set_maxima user group) turn
    ∙ maxima_same image s user group holds (ap (λ (t : State). t.registry.max_user) same) (ap (λ (t : State). t.registry.max_group) same)
