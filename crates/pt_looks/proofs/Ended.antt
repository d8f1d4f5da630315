-- How calls on lists of ids and on pairs end.
use Rattle.std.proofs.Common.{◌≡◌, ℕ, ℤ, Bool, true, false, not, ◌||◌, cond, List, Option, Some, None, Result, IfOk, refl, sym, ap, ◌∙◌}
use Rattle.std.specs.Prelude.{is_none}
use Rattle.std.specs.Option.{option_map}
use Rattle.db_image.specs.Ends.{end_of}
use Rattle.db_image.specs.declared.draft_services.CallEnd.{CallEnd}
use Rattle.db_image.specs.declared.faults.RecordFault.{RecordFault}
use Rattle.prdb_layout.specs.Registry.{Registry}
use Rattle.prdb_layout.specs.State.{PrEntry}
use Rattle.pt_calls.specs.declared.answers.PtAnswer.TheVariants as answer
use Rattle.pt_calls.specs.declared.answers.PtEntry.{PtEntry}
use Rattle.pt_service.specs.Meaning.{Answers, Refuses, Verdict, are_kinds, of_entry, of_pair, owned, owned_by, page, reply_by, told_of, unless}
use Rattle.pt_service.specs.State.{State, is_group}
use Rattle.pt_looks.specs.Owned.{AreOwned, is_no_owner}
use Rattle.pt_looks.specs.Pages.{page_of}
use Rattle.pt_looks.specs.States.{IsToldOf, OfStates}
use Rattle.pt_looks.proofs.Linked.{ToldOfId}
use Rattle.pt_looks.proofs.Pairs.{owned_are}
use Rattle.pt_looks.proofs.States.{ends_ok, ends_so, known_is, of_all, of_both, of_map, of_same, unknown_is}

-- ---- an entry

untold_is : (s : State) (o : Option PrEntry) (goes : PrEntry → Verdict) → None ≡ option_map (told_of s) o → of_entry o goes ≡ Refuses 267268
untold_is s None goes is = refl
untold_is s (Some e) goes is = absurd cc

told_is : (s : State) (o : Option PrEntry) (t : PtEntry) → Some t ≡ option_map (told_of s) o
    → of_entry o (λ e. Answers (answer.Entry (told_of s e))) ≡ Answers (answer.Entry t)
told_is s None t is = absurd cc
told_is s (Some e) t is = let same : t ≡ told_of s e = cc in ap (λ (x : PtEntry). Answers (answer.Entry x)) (sym same)

pub entry_refused : (bytes : Option (List ℕ)) (id : ℤ) (ended : CallEnd) → ToldOfId bytes id None
    → ended ≡ end_of (reply_by (Refuses 267268))
    → IsToldOf bytes (λ s. of_entry (s.registry.entry id) (λ e. Answers (answer.Entry (told_of s e)))) ended
entry_refused bytes id ended none told =
    let v = λ (s : State). of_entry (s.registry.entry id) (λ e. Answers (answer.Entry (told_of s e))) in
    ends_so bytes v (Refuses 267268) ended told
    (of_map bytes (λ s. None ≡ option_map (told_of s) (s.registry.entry id)) (λ s. v s ≡ Refuses 267268)
    (λ image s holds is. untold_is s (s.registry.entry id) (λ e. Answers (answer.Entry (told_of s e))) is) none)

pub entry_ends : (bytes : Option (List ℕ)) (id : ℤ) (t : PtEntry) (ended : CallEnd) → ToldOfId bytes id (Some t)
    → ended ≡ end_of (reply_by (Answers (answer.Entry t)))
    → IsToldOf bytes (λ s. of_entry (s.registry.entry id) (λ e. Answers (answer.Entry (told_of s e)))) ended
entry_ends bytes id t ended found told =
    let v = λ (s : State). of_entry (s.registry.entry id) (λ e. Answers (answer.Entry (told_of s e))) in
    ends_so bytes v (Answers (answer.Entry t)) ended told
    (of_map bytes (λ s. Some t ≡ option_map (told_of s) (s.registry.entry id)) (λ s. v s ≡ Answers (answer.Entry t))
    (λ image s holds is. told_is s (s.registry.entry id) t is) found)

-- ---- a list of ids

pub unknown_ends : (bytes : Option (List ℕ)) (id : ℤ) (goes : State → PrEntry → Verdict) (ended : CallEnd)
    → OfStates bytes (λ s. true ≡ is_none (s.registry.entry id))
    → ended ≡ end_of (reply_by (Refuses 267268)) → IsToldOf bytes (λ s. of_entry (s.registry.entry id) (goes s)) ended
unknown_ends bytes id goes ended none told =
    ends_so bytes (λ s. of_entry (s.registry.entry id) (goes s)) (Refuses 267268) ended told
    (of_map bytes (λ s. true ≡ is_none (s.registry.entry id)) (λ s. of_entry (s.registry.entry id) (goes s) ≡ Refuses 267268)
    (λ image s holds is. unknown_is (s.registry.entry id) (goes s) is) none)

pub known_ends : (r : Result CallEnd RecordFault) (bytes mid : Option (List ℕ)) (id : ℤ) (list : State → List ℤ) (xs : List ℤ)
    → OfStates bytes (λ s. false ≡ is_none (s.registry.entry id)) → mid ≡ bytes → OfStates mid (λ s. xs ≡ list s)
    → IfOk r (λ ended. ended ≡ end_of (reply_by (Answers (answer.Ids xs))))
    → IfOk r (IsToldOf bytes (λ s. of_entry (s.registry.entry id) (λ e. Answers (answer.Ids (list s)))))
known_ends r bytes mid id list xs known same found told =
    let v = λ (s : State). of_entry (s.registry.entry id) (λ e. Answers (answer.Ids (list s))) in
    ends_ok r bytes v (Answers (answer.Ids xs)) told
    (of_both bytes (λ s. false ≡ is_none (s.registry.entry id)) (λ s. xs ≡ list s) (λ s. v s ≡ Answers (answer.Ids xs))
    (λ image s holds is so. known_is (s.registry.entry id) (Answers (answer.Ids (list s))) is
    ∙ ap (λ (zs : List ℤ). Answers (answer.Ids zs)) (sym so))
    known (of_same bytes mid (λ s. xs ≡ list s) same found))

-- ---- owners

owned_by_test : (r : Registry) (id : ℤ) (b : Bool) → is_no_owner r id ≡ b
    → owned r id ≡ cond b (Refuses 267268) (Answers (answer.Ids (owned_by r id)))
owned_by_test r id b is = ap (λ (t : Bool). cond t (Refuses 267268) (Answers (answer.Ids (owned_by r id)))) is

pub owned_refused : (bytes : Option (List ℕ)) (id : ℤ) (ended : CallEnd) → OfStates bytes (λ s. AreOwned s.registry id None)
    → ended ≡ end_of (reply_by (Refuses 267268)) → IsToldOf bytes (λ s. owned s.registry id) ended
owned_refused bytes id ended none told =
    ends_so bytes (λ s. owned s.registry id) (Refuses 267268) ended told
    (of_map bytes (λ s. AreOwned s.registry id None) (λ s. owned s.registry id ≡ Refuses 267268)
    (λ image s holds is. owned_by_test s.registry id true is) none)

pub owned_ends : (r : Result CallEnd RecordFault) (bytes : Option (List ℕ)) (id : ℤ) (xs : List ℤ)
    → OfStates bytes (λ s. AreOwned s.registry id (Some xs)) → IfOk r (λ ended. ended ≡ end_of (reply_by (Answers (answer.Ids xs))))
    → IfOk r (IsToldOf bytes (λ s. owned s.registry id))
owned_ends r bytes id xs list told =
    ends_ok r bytes (λ s. owned s.registry id) (Answers (answer.Ids xs)) told
    (of_map bytes (λ s. AreOwned s.registry id (Some xs)) (λ s. owned s.registry id ≡ Answers (answer.Ids xs))
    (λ image s holds is. owned_by_test s.registry id false is.0
    ∙ ap (λ (zs : List ℤ). Answers (answer.Ids zs)) (sym (owned_are s.registry id xs holds.pairs.holds.valid is.1)))
    list)

-- ---- pairs

abbrev pairs_by : (a b is_group is_user : Bool) → Verdict → Verdict
pairs_by a b is_group is_user goes =
    cond (a || b) (Refuses 267268) (cond (not is_group) (Refuses 267270) (cond is_user (Refuses 267271) goes))

pair_is : (r : Registry) (user group : ℤ) (a b f u : Bool) (goes : Verdict) → a ≡ is_none (r.entry user) → b ≡ is_none (r.entry group)
    → f ≡ is_group group → u ≡ is_group user
    → of_pair r user group goes ≡ pairs_by a b f u goes
pair_is r user group a b f u goes one two three four =
    ap (λ (t : Bool). pairs_by t (is_none (r.entry group)) (is_group group) (is_group user) goes) (sym one)
    ∙ ap (λ (t : Bool). pairs_by a t (is_group group) (is_group user) goes) (sym two)
    ∙ ap (λ (t : Bool). pairs_by a b t (is_group user) goes) (sym three)
    ∙ ap (λ (t : Bool). pairs_by a b f t goes) (sym four)

abbrev pub PairFault : Option (List ℕ) → (user group : ℤ) → Option ℕ → Type 0
PairFault bytes user group fault = OfStates bytes (λ s. (goes : Verdict) → of_pair s.registry user group goes ≡ unless fault goes)

pub pair_no_user : (bytes : Option (List ℕ)) (user group : ℤ) → OfStates bytes (λ s. true ≡ is_none (s.registry.entry user))
    → PairFault bytes user group (Some 267268)
pair_no_user bytes user group none =
    of_map bytes (λ s. true ≡ is_none (s.registry.entry user)) (λ s. (goes : Verdict) → of_pair s.registry user group goes ≡ Refuses 267268)
    (λ image s holds is goes. pair_is s.registry user group true (is_none (s.registry.entry group)) (is_group group)
    (is_group user) goes is refl refl refl) none

-- ---- a page

page_by : (s : State) (kinds : ℕ) (after : ℤ) (b : Bool) → are_kinds kinds ≡ b
    → page s kinds after ≡ cond b (Answers (answer.Entries (page_of s kinds after))) (Refuses 267273)
page_by s kinds after b is = ap (λ (t : Bool). cond t (Answers (answer.Entries (page_of s kinds after))) (Refuses 267273)) is

pub page_refused : (bytes : Option (List ℕ)) (kinds : ℕ) (after : ℤ) (ended : CallEnd) → are_kinds kinds ≡ false
    → ended ≡ end_of (reply_by (Refuses 267273))
    → IsToldOf bytes (λ s. page s kinds after) ended
page_refused bytes kinds after ended bad told =
    ends_so bytes (λ s. page s kinds after) (Refuses 267273) ended told
    (of_all bytes (λ s. page s kinds after ≡ Refuses 267273) (λ s. page_by s kinds after false bad))

pub page_ends : (bytes : Option (List ℕ)) (kinds : ℕ) (after : ℤ) (es : List PtEntry) (ended : CallEnd) → are_kinds kinds ≡ true
    → OfStates bytes (λ s. es ≡ page_of s kinds after)
    → ended ≡ end_of (reply_by (Answers (answer.Entries es))) → IsToldOf bytes (λ s. page s kinds after) ended
page_ends bytes kinds after es ended good found told =
    ends_so bytes (λ s. page s kinds after) (Answers (answer.Entries es)) ended told
    (of_map bytes (λ s. es ≡ page_of s kinds after) (λ s. page s kinds after ≡ Answers (answer.Entries es))
    (λ image s holds is. page_by s kinds after true good ∙ ap (λ (xs : List PtEntry). Answers (answer.Entries xs)) (sym is)) found)
