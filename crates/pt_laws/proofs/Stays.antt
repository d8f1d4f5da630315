-- Where a change leaves the state, it leaves the image.
use Rattle.std.proofs.Common.{◌≡◌, ℕ, ℤ, Bool, true, false, cond, ◌&&◌, List, Option, Some, None, IsSome, refl, sym, ap, ◌∙◌}
use Rattle.std.specs.Ordering.{int_eq}
use Rattle.std.specs.Option.{option_map}
use Rattle.std.proofs.lemmas.Bool.{and_from}
use Rattle.std.proofs.lemmas.Bool.Decides.{Decides-int_eq}
use Rattle.prdb_layout.specs.Registry.{with_entry}
use Rattle.prdb_layout.specs.State.{PrEntry}
use Rattle.prdb_layout.proofs.Changed.{under_same}
use Rattle.pt_service.specs.Meaning.{Answers, Change, Enter, Join, Leave, Makes, Maxima, NoCall, Part, Refit, Refuses, Turn, Verdict, asked, disowned, state_after, state_by, verdict}
use Rattle.pt_service.specs.State.{State}
use Rattle.pt_looks.specs.States.{HoldsRecords}
use Rattle.pt_changes.specs.Standing.{image_after, image_by}
use Rattle.pt_laws.proofs.Possible.{CanMake, IsSound}
use Rattle.pt_laws.proofs.Refilled.{maxima_same, replace_same}
use Rattle.pt_laws.proofs.Sound.{sound}
use Rattle.pt_laws.proofs.TurnStays.{turn_stays}

-- ---- changes that always are ones

to_same : (a : ℤ) → int_eq a a ≡ true
to_same a = (Decides-int_eq a a).1 refl

-- an entry stands under its id then
entry_there : (s : State) (e : PrEntry) → (with_entry e s.registry).entry e.id ≡ Some e
entry_there s e = under_same e.id e.id (Some e) s.registry.entry refl

not_none : (o : Option PrEntry) → IsSome o → o ≡ None → ⊥
not_none None some is = cc
not_none (Some e) some is = cc

both_same : (user group : ℤ) → (int_eq user user && int_eq group group) ≡ true
both_same user group = and_from (int_eq user user) (int_eq group group) (to_same user) (to_same group)

clash : (b : Bool) → b ≡ true → b ≡ false → ⊥
clash true is fails = absurd cc
clash false is fails = absurd cc

enters_always : (s : State) (e : PrEntry) (user group : ℤ) → s.registry.entry e.id ≡ None → state_after (Enter e user group) s ≡ s → ⊥
enters_always s e user group none same =
    let some : Some e ≡ None = sym (entry_there s e) ∙ ap (λ (t : State). t.registry.entry e.id) same ∙ none in cc

leaves_always : (s : State) (id : ℤ) → IsSome (s.registry.entry id) → state_after (Leave id) s ≡ s → ⊥
leaves_always s id there same =
    not_none (s.registry.entry id) there
    (sym (ap (λ (t : State). t.registry.entry id) same)
    ∙ ap (λ (b : Bool). cond b None (option_map (disowned id) (s.registry.entry id))) (to_same id))

joins_always : (s : State) (user group : ℤ) → s.is_in user group ≡ false → state_after (Join user group) s ≡ s → ⊥
joins_always s user group new same =
    clash (s.is_in user group)
    (sym (ap (λ (t : State). t.is_in user group) same) ∙ ap (λ (b : Bool). cond b true (s.is_in user group)) (both_same user group)) new

parts_always : (s : State) (user group : ℤ) → s.is_in user group ≡ true → state_after (Part user group) s ≡ s → ⊥
parts_always s user group there same =
    clash (s.is_in user group) there
    (sym (ap (λ (t : State). t.is_in user group) same) ∙ ap (λ (b : Bool). cond b false (s.is_in user group)) (both_same user group))

-- ---- changes that may be none

refit_stays : (image : List ℕ) (s : State) (e : PrEntry) → HoldsRecords image s → state_after (Refit e) s ≡ s
    → image_after (Refit e) s image ≡ image
refit_stays image s e holds same = replace_same image s e holds (sym (ap (λ (t : State). t.registry.entry e.id) same) ∙ entry_there s e)

made_stays : (image : List ℕ) (s : State) (change : Change) → HoldsRecords image s → CanMake s change → state_after change s ≡ s
    → image_after change s image ≡ image
made_stays image s (Maxima user group) holds can same =
    maxima_same image s user group holds (ap (λ (t : State). t.registry.max_user) same) (ap (λ (t : State). t.registry.max_group) same)
made_stays image s (Enter e user group) holds can same = absurd (enters_always s e user group can.may.id same)
made_stays image s (Refit e) holds can same = refit_stays image s e holds same
made_stays image s (Leave id) holds can same = absurd (leaves_always s id can.there same)
made_stays image s (Turn e name owner id user group) holds can same = turn_stays image s e name owner id user group holds can same
made_stays image s (Join user group) holds can same = absurd (joins_always s user group can.new same)
made_stays image s (Part user group) holds can same = absurd (parts_always s user group can same)

stays_by : (image : List ℕ) (s : State) (v : Verdict) → HoldsRecords image s → IsSound s v → state_by v s ≡ s → image_by v s image ≡ image
stays_by image s NoCall holds can same = refl
stays_by image s (Refuses rule) holds can same = refl
stays_by image s (Answers a) holds can same = refl
stays_by image s (Makes a change) holds can same = made_stays image s change holds can same

pub image_stays : (image : List ℕ) (s : State) (bytes : List ℕ) → HoldsRecords image s → state_by (verdict s (asked bytes)) s ≡ s
    → image_by (verdict s (asked bytes)) s image ≡ image
image_stays image s bytes holds same = stays_by image s (verdict s (asked bytes)) holds (sound s bytes holds.pairs.holds.valid) same
