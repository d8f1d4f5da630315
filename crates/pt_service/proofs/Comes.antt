-- A call that makes an entry, step by step: its owner was looked for in the first draft, then the maxima, then an unused id.
use Rattle.std.proofs.Common.{◌≡◌, ℕ, ℤ, Bool, true, false, cond, List, Option, Some, None, Result, Ok, Err, refl, subst, ◌∙◌}
use Rattle.std.specs.Prelude.{is_none, unsigned_abs}
use Rattle.std.specs.Option.{option_map}
use Rattle.db_image.specs.Ends.{end_of}
use Rattle.db_image.specs.declared.draft_services.CallEnd.{CallEnd}
use Rattle.db_image.specs.declared.faults.RecordFault.{RecordFault}
use Rattle.prdb_layout.specs.Registry.{Registry, IsRegistry, MayBeAdded}
use Rattle.prdb_layout.specs.State.{PrEntry}
use Rattle.prdb_finds.specs.Changes.{after_set_maxima}
use Rattle.prdb_finds.specs.Ends.{HasCauseWhere, HasItsCause}
use Rattle.prdb_entries.specs.Changes.{after_insert}
use Rattle.pt_calls.specs.declared.answers.PtAnswer.TheVariants as answer
use Rattle.pt_service.specs.Entering.{kind_of}
use Rattle.pt_service.specs.Meaning.{Answers, Enter, Makes, Refuses, first_unused, made, new_entry, new_entry_of_id, owner_for, raised, reply_by}
use Rattle.pt_service.specs.State.{is_group, is_id}
use Rattle.pt_service.specs.Told.{IsMeant, Told}
use Rattle.pt_service.proofs.Done.{changed, refused, told_both, told_map}
use Rattle.pt_service.proofs.Entered.{cause_of_enter, enter_left, given_made, given_refused, given_taken, kind_some, may_enter, next_made, next_none, next_refused, unused_is}

-- what was found over a draft of the same bytes
pub told_same : (bytes mid : Option (List ℕ)) (P : Registry → Type 0) → mid ≡ bytes → Told mid P → Told bytes P
told_same bytes mid P same told = subst (λ (b : Option (List ℕ)). Told b P) same told

-- the owner of a name that is one in lower case
owned_low : (bytes : Option (List ℕ)) (group : Bool) (name low : List ℕ) (given : ℤ) (found : Result ℤ ℕ) → name ≡ low
    → Told bytes (λ r. found ≡ owner_for r group name given) → Told bytes (λ r. found ≡ owner_for r group low given)
owned_low bytes group name low given found is told = subst (λ (n : List ℕ). Told bytes (λ r. found ≡ owner_for r group n given)) is told

-- ---- with the next id

pub new_barred : (bytes after : Option (List ℕ)) (name low : List ℕ) (kind : ℕ) (given : ℤ) (group : Bool) (rule : ℕ) (ended : CallEnd)
    → kind_of kind ≡ Some group
    → name ≡ low → Told bytes (λ r. Err rule ≡ owner_for r group name given) → ended ≡ end_of (reply_by (Refuses rule)) → after ≡ bytes
    → IsMeant bytes (λ r. new_entry r low kind given) ended after
new_barred bytes after name low kind given group rule ended is_kind is barred told same =
    refused bytes after (λ r. new_entry r low kind given) rule ended
    (told_map bytes (λ r. Err rule ≡ owner_for r group low given) (λ r. new_entry r low kind given ≡ Refuses rule)
    (λ r b. kind_some r low kind given group is_kind ∙ next_refused r group low given rule b)
    (owned_low bytes group name low given (Err rule) is barred)) told same

pub new_no_id : (bytes b1 b2 after : Option (List ℕ)) (name low : List ℕ) (kind k : ℕ) (given owner u g : ℤ) (group : Bool)
    (ended : CallEnd)
    → kind_of kind ≡ Some group → name ≡ low → Told bytes (λ r. Ok owner ≡ owner_for r group name given) → b1 ≡ bytes
    → Told b1 (λ r. ◌≡◌ {A = ℤ × ℤ} (u, g) (r.max_user, r.max_group)) → b2 ≡ bytes → k ≡ unsigned_abs (cond group g u)
    → Told b2 (λ r. None ≡ first_unused r group k) → ended ≡ end_of (reply_by (Refuses 267266)) → after ≡ bytes
    → IsMeant bytes (λ r. new_entry r low kind given) ended after
new_no_id bytes b1 b2 after name low kind k given owner u g group ended is_kind is good same1 max same2 number none told same =
    let A = λ (r : Registry). Ok owner ≡ owner_for r group low given in
    let B = λ (r : Registry). ◌≡◌ {A = ℤ × ℤ} (u, g) (r.max_user, r.max_group) in
    let C = λ (r : Registry). None ≡ first_unused r group k in
    refused bytes after (λ r. new_entry r low kind given) 267266 ended
    (told_both bytes (λ r. A r × B r) C (λ r. new_entry r low kind given ≡ Refuses 267266)
    (λ r ab c. kind_some r low kind given group is_kind ∙ next_none r group low given owner u g k ab.0 ab.1 number c)
    (told_both bytes A B (λ r. A r × B r) (λ r a b. (a, b)) (owned_low bytes group name low given (Ok owner) is good)
    (told_same bytes b1 B same1 max))
    (told_same bytes b2 C same2 none)) told same

pub new_made : (bytes b1 b2 b3 after : Option (List ℕ)) (name low : List ℕ) (kind k : ℕ) (given owner u g id : ℤ) (group : Bool)
    (e : PrEntry) (p : ℤ × ℤ) (ended : CallEnd)
    → kind_of kind ≡ Some group → name ≡ low → Told bytes (λ r. Ok owner ≡ owner_for r group name given) → b1 ≡ bytes
    → Told b1 (λ r. ◌≡◌ {A = ℤ × ℤ} (u, g) (r.max_user, r.max_group)) → b2 ≡ bytes → k ≡ unsigned_abs (cond group g u)
    → Told b2 (λ r. Some id ≡ first_unused r group k) → e ≡ made group low id owner → ◌≡◌ {A = ℤ × ℤ} p (raised u g id)
    → ended ≡ end_of (reply_by (Answers (answer.Id id))) → b3 ≡ bytes
    → after ≡ option_map (λ image. after_set_maxima p.0 p.1 (after_insert e image)) b3
    → IsMeant bytes (λ r. new_entry r low kind given) ended after
new_made bytes b1 b2 b3 after name low kind k given owner u g id group e p ended is_kind is good same1 max same2 number some so raises
    told same3 made =
    let A = λ (r : Registry). Ok owner ≡ owner_for r group low given in
    let B = λ (r : Registry). ◌≡◌ {A = ℤ × ℤ} (u, g) (r.max_user, r.max_group) in
    let C = λ (r : Registry). Some id ≡ first_unused r group k in
    changed bytes after (λ r. new_entry r low kind given) (answer.Id id) (Enter e p.0 p.1) ended
    (told_both bytes (λ r. A r × B r) C (λ r. new_entry r low kind given ≡ Makes (answer.Id id) (Enter e p.0 p.1))
    (λ r ab c. kind_some r low kind given group is_kind ∙ next_made r group low given owner u g id k e p ab.0 ab.1 number c so raises)
    (told_both bytes A B (λ r. A r × B r) (λ r a b. (a, b)) (owned_low bytes group name low given (Ok owner) is good)
    (told_same bytes b1 B same1 max))
    (told_same bytes b2 C same2 some)) told (enter_left bytes b3 after e p.0 p.1 same3 made)

pub new_cause : (bytes b2 b3 : Option (List ℕ)) (name low : List ℕ) (k : ℕ) (given owner id : ℤ) (group : Bool) (e : PrEntry)
    (f : RecordFault) → name ≡ low
    → Told bytes (λ r. Ok owner ≡ owner_for r group name given) → b2 ≡ bytes → Told b2 (λ r. Some id ≡ first_unused r group k)
    → e ≡ made group low id owner → b3 ≡ bytes → HasCauseWhere (λ r m. MayBeAdded e r) b3 f → HasItsCause bytes f
new_cause bytes b2 b3 name low k given owner id group e f is good same2 some so same3 cause =
    let A = λ (r : Registry). Ok owner ≡ owner_for r group low given in
    let C = λ (r : Registry). Some id ≡ first_unused r group k in
    cause_of_enter bytes b3 e f same3
    (told_both bytes A C (λ r. IsRegistry r → MayBeAdded e r)
    (λ r a c valid. may_enter r group low given owner id e valid a (unused_is r group k id c) so)
    (owned_low bytes group name low given (Ok owner) is good) (told_same bytes b2 C same2 some)) cause

-- ---- with a given id

pub given_barred : (bytes after : Option (List ℕ)) (name low : List ℕ) (id given : ℤ) (group : Bool) (rule : ℕ) (ended : CallEnd)
    → is_id (is_group id) id ≡ true
    → group ≡ is_group id → name ≡ low → Told bytes (λ r. Err rule ≡ owner_for r group name given)
    → ended ≡ end_of (reply_by (Refuses rule)) → after ≡ bytes
    → IsMeant bytes (λ r. new_entry_of_id r low id given) ended after
given_barred bytes after name low id given group rule ended is_id own is barred told same =
    refused bytes after (λ r. new_entry_of_id r low id given) rule ended
    (told_map bytes (λ r. Err rule ≡ owner_for r group low given) (λ r. new_entry_of_id r low id given ≡ Refuses rule)
    (λ r b. given_refused r group low id given rule is_id own b)
    (owned_low bytes group name low given (Err rule) is barred)) told same

pub given_there : (bytes b1 after : Option (List ℕ)) (name low : List ℕ) (id given owner : ℤ) (group : Bool) (ended : CallEnd)
    → is_id (is_group id) id ≡ true
    → group ≡ is_group id → name ≡ low → Told bytes (λ r. Ok owner ≡ owner_for r group name given) → b1 ≡ bytes
    → Told b1 (λ r. false ≡ is_none (r.entry id))
    → ended ≡ end_of (reply_by (Refuses 267265)) → after ≡ bytes → IsMeant bytes (λ r. new_entry_of_id r low id given) ended after
given_there bytes b1 after name low id given owner group ended is_id own is good same1 there told same =
    let A = λ (r : Registry). Ok owner ≡ owner_for r group low given in
    let U = λ (r : Registry). false ≡ is_none (r.entry id) in
    refused bytes after (λ r. new_entry_of_id r low id given) 267265 ended
    (told_both bytes A U (λ r. new_entry_of_id r low id given ≡ Refuses 267265)
    (λ r a u. given_taken r group low id given owner is_id own a u)
    (owned_low bytes group name low given (Ok owner) is good) (told_same bytes b1 U same1 there)) told same

pub given_comes : (bytes b1 b2 b3 after : Option (List ℕ)) (name low : List ℕ) (id given owner u g : ℤ) (group : Bool) (e : PrEntry)
    (p : ℤ × ℤ) (ended : CallEnd)
    → is_id (is_group id) id ≡ true → group ≡ is_group id → name ≡ low → Told bytes (λ r. Ok owner ≡ owner_for r group name given)
    → b1 ≡ bytes
    → Told b1 (λ r. true ≡ is_none (r.entry id)) → b2 ≡ bytes → Told b2 (λ r. ◌≡◌ {A = ℤ × ℤ} (u, g) (r.max_user, r.max_group))
    → e ≡ made group low id owner → ◌≡◌ {A = ℤ × ℤ} p (raised u g id) → ended ≡ end_of (reply_by (Answers answer.Done)) → b3 ≡ bytes
    → after ≡ option_map (λ image. after_set_maxima p.0 p.1 (after_insert e image)) b3
    → IsMeant bytes (λ r. new_entry_of_id r low id given) ended after
given_comes bytes b1 b2 b3 after name low id given owner u g group e p ended is_id own is good same1 free same2 max so raises told same3
    made =
    let A = λ (r : Registry). Ok owner ≡ owner_for r group low given in
    let U = λ (r : Registry). true ≡ is_none (r.entry id) in
    let B = λ (r : Registry). ◌≡◌ {A = ℤ × ℤ} (u, g) (r.max_user, r.max_group) in
    changed bytes after (λ r. new_entry_of_id r low id given) answer.Done (Enter e p.0 p.1) ended
    (told_both bytes (λ r. A r × U r) B (λ r. new_entry_of_id r low id given ≡ Makes answer.Done (Enter e p.0 p.1))
    (λ r au b. given_made r group low id given owner u g e p is_id own au.0 au.1 b so raises)
    (told_both bytes A U (λ r. A r × U r) (λ r a u. (a, u)) (owned_low bytes group name low given (Ok owner) is good)
    (told_same bytes b1 U same1 free))
    (told_same bytes b2 B same2 max)) told (enter_left bytes b3 after e p.0 p.1 same3 made)

none_there : (o : Option PrEntry) → true ≡ is_none o → o ≡ None
none_there None is = refl
none_there (Some e) is = absurd cc

pub given_cause : (bytes b1 b3 : Option (List ℕ)) (name low : List ℕ) (id given owner : ℤ) (group : Bool) (e : PrEntry) (f : RecordFault)
    → name ≡ low
    → Told bytes (λ r. Ok owner ≡ owner_for r group name given) → b1 ≡ bytes → Told b1 (λ r. true ≡ is_none (r.entry id))
    → e ≡ made group low id owner
    → b3 ≡ bytes → HasCauseWhere (λ r m. MayBeAdded e r) b3 f → HasItsCause bytes f
given_cause bytes b1 b3 name low id given owner group e f is good same1 free so same3 cause =
    let A = λ (r : Registry). Ok owner ≡ owner_for r group low given in
    let U = λ (r : Registry). true ≡ is_none (r.entry id) in
    cause_of_enter bytes b3 e f same3
    (told_both bytes A U (λ r. IsRegistry r → MayBeAdded e r)
    (λ r a u valid. may_enter r group low given owner id e valid a (none_there (r.entry id) u) so)
    (owned_low bytes group name low given (Ok owner) is good) (told_same bytes b1 U same1 free)) cause
