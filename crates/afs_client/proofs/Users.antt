-- The courses of `pts` are sound, where the names in its words are such as a call takes.
use Rattle.std.proofs.Common.{◌≡◌, ℕ, ℤ, Bool, true, false, List, [], ◌∷◌, ◌++◌, map, take, drop, length, Option, Some, None, Ok, Err, refl, zero, suc, arith}
use Rattle.std.specs.Prelude.{◌&&◌, nat_le, nat_lt, if◌then◌else◌, pos, IfSome, option_and_then, option_map}
use Rattle.std.specs.List.{AllByRecursion, flat_map, list_all}
use Rattle.std.specs.Ordering.{int_eq}
use Rattle.script_words.specs.Numbers.{signed_of}
use Rattle.afs_words.specs.Command.{Command}
use Rattle.afs_words.specs.Given.{number_at, value_at}
use Rattle.afs_words.specs.Good.{AreGood}
use Rattle.afs_words.specs.Tables.{parameters_of}
use Rattle.afs_words.specs.declared.tables.Operation.{Operation}
use Rattle.afs_words.specs.declared.tables.Operation.TheVariants as op
use Rattle.afs_words.specs.declared.values.Slot.{Slot}
use Rattle.pt_calls.specs.Answers.{answer_of}
use Rattle.pt_calls.specs.Calls.{call_kind}
use Rattle.pt_calls.specs.Writes.{is_write}
use Rattle.pt_calls.specs.declared.answers.AnswerKind.TheVariants as tells
use Rattle.pt_calls.specs.declared.answers.PtAnswer.{PtAnswer}
use Rattle.pt_calls.specs.declared.answers.PtAnswer.TheVariants as answer
use Rattle.pt_calls.specs.declared.answers.PtEntry.{PtEntry}
use Rattle.pt_calls.specs.declared.calls.PtCall.{PtCall}
use Rattle.pt_calls.specs.declared.calls.PtCall.TheVariants as call
use Rattle.pt_calls.specs.declared.limits.TheConstants.{MAX_LIST, MAX_PAGE}
use Rattle.tool_base.specs.Course.{◌>>=◌, Course, gives, says, still, stops}
use Rattle.tool_base.specs.declared.stops.Refusal.TheVariants.{Malformed, Rule}
use Rattle.tool_base.specs.declared.stops.Stop.TheVariants.{Refused}
use Rattle.pts_tool.specs.Answers.{done_in, entry_in, id_in, ids_in, maxima_in, names_in, page_in}
use Rattle.pts_tool.specs.Asking.{asks, has_spelling, taken_from}
use Rattle.pts_tool.specs.Courses.{changes, creates, deletes, does, examines, found_line, given_id, kind_of, lists_entries, lists_maxima, lists_members, lists_names, lists_owned, lists_pages, member_call, moves, new_id, next_id, owner_line, pts_course, sets_fields, task_course, works}
use Rattle.pts_tool.specs.Names.{calls_for, id_or, name_id, names_by, owner_id, the_id, the_names}
use Rattle.pts_tool.specs.Pages.{is_page, last_id}
use Rattle.pts_tool.specs.Flags.{flags_of}
use Rattle.pts_tool.specs.Plans.{fields, first_of, made, maximum, tasks_for, tasks_of}
use Rattle.pts_tool.specs.Texts.{rows}
use Rattle.afs_client.specs.Questions.{is_pt_answer, is_taken, is_user_id, pt_fits, pt_page_has_bits, users_database}
use Rattle.afs_client.proofs.Asked.{Taken, sound_call}
use Rattle.afs_client.proofs.Sounding.{AlwaysSound, Any, Sound, always_then, sound_gives, sound_if, sound_met, sound_own, sound_says, sound_with}
use Rattle.afs_client.proofs.Words.{Fitting, IsShort, entry_name, first_short, first_true, let_through, names_at, new_name, second_true, some_short}

abbrev pub PtsSound : {A : Type 0} → Course A → Type 1
PtsSound m = AlwaysSound users_database m

chain : {A B : Type 0} (m : Course A) (f : A → Course B) → PtsSound m → ((x : A) → PtsSound (f x)) → PtsSound (m >>= f)
chain m f first next = always_then users_database m f first next

value : {A : Type 0} (x : A) → PtsSound (gives x)
value x given = sound_gives users_database given Any x (λ g. tt)

-- how the answers of a call are taken is what counts as one
abbrev pub Takes : {A : Type 0} → (PtCall → PtAnswer → Option A) → PtCall → Type 0
Takes take c = (bytes : List ℕ) → is_pt_answer c bytes ≡ is_taken take c bytes

asked_with : {A : Type 0} (given : Type 0) (Post : A → Type 0) (take : PtCall → PtAnswer → Option A) (c : PtCall) → Takes take c
    → has_spelling c ≡ true
    → (given → pt_fits c ≡ true) → ((x : A) → Taken users_database.has_bits (taken_from (take c) c) x → Post x)
    → Sound users_database given Post (asks take c)
unfolding asks
asked_with given Post take c same spelled fits post =
    sound_met users_database given Post (has_spelling c) _ (stops (Refused Malformed)) spelled
    (sound_call users_database given Post c (is_write (call_kind c)) (taken_from (take c) c)
    (record { writes_is = refl; read_is = same }) fits post)

asked : {A : Type 0} (take : PtCall → PtAnswer → Option A) (c : PtCall) → Takes take c → has_spelling c ≡ true → pt_fits c ≡ true
    → PtsSound (asks take c)
asked take c same spelled fits given = asked_with given Any take c same spelled (λ g. fits) (λ x taken. tt)

known_if : (b : Bool) (id : ℤ) → PtsSound (still (if b then Err (Refused (Rule 267268)) else Ok id))
known_if true id = λ given. sound_own users_database given Any (Rule 267268) refl
known_if false id = value id

-- a list of one name has a spelling
one_name : (b : Bool) → b ≡ true → (b && true) ≡ true
one_name true is = refl
one_name false is = is

name_id_sound : (name : List ℕ) → IsShort name → PtsSound (name_id name)
unfolding name_id
name_id_sound name short =
    chain _ _ (asked id_in (call.NameToId (name ∷ [])) (λ bytes. refl) (one_name (nat_le (length name) 255) short) refl)
    (λ id. known_if _ id)

id_or_sound : (found : Option ℤ) (word : List ℕ) → IsShort word → PtsSound (id_or found word)
id_or_sound (Some id) word short = value id
id_or_sound None word short = name_id_sound word short

the_id_sound : (word : List ℕ) → IsShort word → PtsSound (the_id word)
unfolding the_id
the_id_sound word short = id_or_sound (signed_of word) word short

owner_id_sound : (word : Option (List ℕ)) → IfSome word IsShort → PtsSound (owner_id word)
owner_id_sound None short = value (pos 0)
owner_id_sound (Some word) short = the_id_sound word short

-- a part of a list is no longer than it was to be
few_taken : (n : ℕ) (ids : List ℤ) → nat_le (length (take n ids)) n ≡ true
few_taken zero ids = refl
few_taken (suc n) [] = grind arith
few_taken (suc n) (id ∷ ids) = let few = few_taken n ids in grind arith

names_by_sound : (count : ℕ) (names : List (List ℕ)) (ids : List ℤ) → PtsSound (names_by count names ids)
names_by_sound zero names ids = value names
names_by_sound (suc count) names ids =
    chain _ _ (asked names_in (call.IdToName (take MAX_LIST ids)) (λ bytes. refl) (few_taken MAX_LIST ids) refl)
    (λ found. names_by_sound count (names ++ found) (drop MAX_LIST ids))

the_names_sound : (ids : List ℤ) → PtsSound (the_names ids)
unfolding the_names
the_names_sound ids = names_by_sound (calls_for (length ids)) [] ids

does_sound : (c : PtCall) → Takes done_in c → has_spelling c ≡ true → pt_fits c ≡ true → PtsSound (does c)
unfolding does
does_sound c same spelled fits = chain _ _ (asked done_in c same spelled fits) (λ done. value [])

new_id_sound : (name : List ℕ) (is_group : Bool) (owner : ℤ) (id : Option ℤ) → IsShort name → PtsSound (new_id name is_group owner id)
unfolding next_id given_id
new_id_sound name is_group owner None short = asked id_in (call.NewEntry name (kind_of is_group) owner) (λ bytes. refl) short refl
new_id_sound name is_group owner (Some id) short =
    chain _ _ (asked done_in (call.INewEntry name id owner) (λ bytes. refl) short refl) (λ done. value id)

creates_sound : (name : List ℕ) (is_group : Bool) (owner : Option (List ℕ)) (id : Option ℤ) → IsShort name → IfSome owner IsShort
    → PtsSound (creates name is_group owner id)
unfolding creates
creates_sound name is_group owner id short owned =
    chain (owner_id owner) _ (owner_id_sound owner owned)
    (λ by. chain (new_id name is_group by id) _ (new_id_sound name is_group by id short) (λ found. value _))

deletes_sound : (entry : List ℕ) → IsShort entry → PtsSound (deletes entry)
unfolding deletes
deletes_sound entry short = chain (the_id entry) _ (the_id_sound entry short) (λ id. does_sound (call.Delete id) (λ bytes. refl) refl refl)

changes_sound : (entry name : List ℕ) (owner : Option (List ℕ)) → IsShort entry → IsShort name → IfSome owner IsShort
    → PtsSound (changes entry name owner)
unfolding changes
changes_sound entry name owner short named owned =
    chain (the_id entry) _ (the_id_sound entry short)
    (λ id. chain (owner_id owner) _ (owner_id_sound owner owned)
    (λ by. does_sound (call.ChangeEntry id name by (pos 0)) (λ bytes. refl) named refl))

member_sound : (adds : Bool) (user group : ℤ) → PtsSound (does (member_call adds user group))
member_sound true user group = does_sound (call.AddToGroup user group) (λ bytes. refl) refl refl
member_sound false user group = does_sound (call.RemoveFromGroup user group) (λ bytes. refl) refl refl

moves_sound : (user group : List ℕ) (adds : Bool) → IsShort user → IsShort group → PtsSound (moves user group adds)
unfolding moves
moves_sound user group adds user_short group_short =
    chain (the_id user) _ (the_id_sound user user_short)
    (λ member. chain (the_id group) _ (the_id_sound group group_short) (λ of. member_sound adds member of))

lists_names_sound : (head : List ℕ) (c : PtCall) → Takes ids_in c → has_spelling c ≡ true → pt_fits c ≡ true → PtsSound (lists_names head c)
unfolding lists_names
lists_names_sound head c same spelled fits =
    chain _ _ (asked ids_in c same spelled fits) (λ ids. chain (the_names ids) _ (the_names_sound ids) (λ names. value _))

lists_members_sound : (entry : List ℕ) → IsShort entry → PtsSound (lists_members entry)
unfolding lists_members
lists_members_sound entry short =
    chain (the_id entry) _ (the_id_sound entry short) (λ id. chain _ _ (asked entry_in (call.ListEntry id) (λ bytes. refl) refl refl)
    (λ found. lists_names_sound _ (call.ListElements id) (λ bytes. refl) refl refl))

found_sound : (id : ℤ) → PtsSound (found_line id)
unfolding found_line
found_sound id = chain _ _ (asked entry_in (call.ListEntry id) (λ bytes. refl) refl refl) (λ found. value _)

owner_sound : (id : ℤ) → PtsSound (owner_line id)
unfolding owner_line
owner_sound id given = sound_if users_database given Any (int_eq id (pos 0)) _ (found_line id) (value _ given) (found_sound id given)

lists_owned_sound : (entry : List ℕ) → IsShort entry → PtsSound (lists_owned entry)
unfolding lists_owned
lists_owned_sound entry short =
    chain (the_id entry) _ (the_id_sound entry short)
    (λ id. chain (owner_line id) _ (owner_sound id) (λ head. lists_names_sound head (call.ListOwned id) (λ bytes. refl) refl refl))

examines_sound : (entry : List ℕ) → IsShort entry → PtsSound (examines entry)
unfolding examines
examines_sound entry short =
    chain (the_id entry) _ (the_id_sound entry short) (λ id. chain _ _ (asked entry_in (call.ListEntry id) (λ bytes. refl) refl refl)
    (λ found. chain (the_names (found.owner ∷ found.creator ∷ [])) _ (the_names_sound (found.owner ∷ found.creator ∷ []))
    (λ names. value _)))

-- the ids of a page have their bits
abbrev pub PageFits : List PtEntry → Type 0
PageFits es = list_all (λ e. is_user_id e.id) es ≡ true

page_fits : (kinds : ℕ) (after : ℤ) (a : Option PtAnswer) (es : List PtEntry)
    → option_and_then (page_in (call.ListEntries kinds after)) a ≡ Some es
    → pt_page_has_bits a ≡ true → PageFits es
page_fits kinds after None es is bits = cc
page_fits kinds after (Some answer.Done) es is bits = cc
page_fits kinds after (Some (answer.Id id)) es is bits = cc
page_fits kinds after (Some (answer.Ids ids)) es is bits = cc
page_fits kinds after (Some (answer.Names names)) es is bits = cc
page_fits kinds after (Some (answer.Maxima user group)) es is bits = cc
page_fits kinds after (Some (answer.Truth truth)) es is bits = cc
page_fits kinds after (Some (answer.Entry e)) es is bits = cc
page_fits kinds after (Some (answer.Entries found)) es is bits = let_through PageFits (is_page after found) found es is bits

last_fits : (last : ℤ) (es : List PtEntry) → is_user_id last ≡ true → PageFits es → is_user_id (last_id last es) ≡ true
last_fits last [] is fits = is
last_fits last (e ∷ es) is fits = last_fits e.id es (first_true (is_user_id e.id) _ fits) (second_true (is_user_id e.id) _ fits)

-- a page that is full has a last entry
pages_on : (count kinds : ℕ) (after : ℤ) (text : List ℕ) (es : List PtEntry) (given : Type 0) → (given → PageFits es)
    → ((next : ℤ) (all : List ℕ) → (given → is_user_id next ≡ true) → Sound users_database given Any (lists_pages count kinds next all))
    → Sound users_database given Any
    (if nat_lt (length es) MAX_PAGE then gives (text ++ rows es) else lists_pages count kinds (last_id after es) (text ++ rows es))
pages_on count kinds after text [] given fits next = value (text ++ rows []) given
pages_on count kinds after text (e ∷ es) given fits next =
    sound_if users_database given Any (nat_lt (length (e ∷ es)) MAX_PAGE) _ _ (value (text ++ rows (e ∷ es)) given)
    (next (last_id after (e ∷ es)) (text ++ rows (e ∷ es))
    (λ g. last_fits e.id es (first_true (is_user_id e.id) _ (fits g)) (second_true (is_user_id e.id) _ (fits g))))

lists_pages_sound : (count kinds : ℕ) (after : ℤ) (text : List ℕ) (given : Type 0) → (given → is_user_id after ≡ true)
    → Sound users_database given Any (lists_pages count kinds after text)
unfolding lists_pages
lists_pages_sound zero kinds after text given fits = value text given
lists_pages_sound (suc count) kinds after text given fits =
    sound_with users_database given PageFits Any _ _
    (asked_with given PageFits page_in (call.ListEntries kinds after) (λ bytes. refl) refl fits
    (λ es taken. page_fits kinds after (answer_of tells.Entries taken.bytes) es taken.read_is taken.bits))
    (λ es all has. pages_on count kinds after text es all has (λ next whole given2. lists_pages_sound count kinds next whole all given2))

lists_entries_sound : (kinds : ℕ) → PtsSound (lists_entries kinds)
unfolding lists_entries
lists_entries_sound kinds given = lists_pages_sound _ kinds _ _ given (λ g. refl)

lists_maxima_sound : PtsSound lists_maxima
unfolding lists_maxima
lists_maxima_sound = chain _ _ (asked maxima_in call.ListMax (λ bytes. refl) refl refl) (λ maxima. value _)

sets_fields_sound : (entry : List ℕ) (mask flags : ℕ) (quota : ℤ) → IsShort entry → PtsSound (sets_fields entry mask flags quota)
unfolding sets_fields
sets_fields_sound entry mask flags quota short =
    chain (the_id entry) _ (the_id_sound entry short) (λ id. does_sound (call.SetFields id mask flags quota) (λ bytes. refl) refl refl)

-- items, worked through one after the other
works_sound : (tasks : List _) → ((given : Type 0) → AllByRecursion (λ t. Sound users_database given Any (task_course t)) tasks)
    → PtsSound (works tasks)
works_sound [] sound = value tt
works_sound (first ∷ others) sound =
    chain (task_course first) _ (λ given. (sound given).0)
    (λ text. chain (says text) _ (λ given. sound_says users_database given text) (λ said. works_sound others (λ given. (sound given).1)))

all_append : {X : Type 0} (P : X → Type 0) (xs ys : List X) → AllByRecursion P xs → AllByRecursion P ys → AllByRecursion P (xs ++ ys)
all_append P [] ys first second = second
all_append P (x ∷ xs) ys first second = (first.0, all_append P xs ys first.1 second)

-- an item for each name, and for each pair of names
each_item : {X : Type 0} (P : X → Type 0) (item : List ℕ → X) → ((word : List ℕ) → IsShort word → P (item word)) → (words : List (List ℕ))
    → AllByRecursion IsShort words → AllByRecursion P (map item words)
each_item P item has [] short = tt
each_item P item has (word ∷ words) short = (has word short.0, each_item P item has words short.1)

each_pair : {X : Type 0} (P : X → Type 0) (item : List ℕ → List ℕ → X)
    → ((user group : List ℕ) → IsShort user → IsShort group → P (item user group))
    → (users groups : List (List ℕ)) → AllByRecursion IsShort users → AllByRecursion IsShort groups
    → AllByRecursion P (flat_map (λ user. map (λ group. item user group) groups) users)
each_pair P item has [] groups users_short groups_short = tt
each_pair P item has (user ∷ users) groups users_short groups_short =
    all_append P (map (λ group. item user group) groups) (flat_map (λ other. map (λ group. item other group) groups) users)
    (each_item P (λ group. item user group) (λ group short. has user group users_short.0 short) groups groups_short)
    (each_pair P item has users groups users_short.1 groups_short)

made_sound : (given : Type 0) (is_group : Bool) (owner : Option (List ℕ)) (names : List (List ℕ)) → (ids : List (Option ℤ))
    → IfSome owner IsShort → AllByRecursion IsShort names
    → AllByRecursion (λ t. Sound users_database given Any (task_course t)) (made is_group owner names ids)
made_sound given is_group owner [] ids owned short = tt
made_sound given is_group owner (name ∷ names) ids owned short =
    (creates_sound name is_group owner (first_of ids) short.0 owned given, made_sound given is_group owner names (drop 1 ids) owned short.1)

maximum_sound : (given : Type 0) (is_group : Bool) (id : Option ℤ)
    → AllByRecursion (λ t. Sound users_database given Any (task_course t)) (maximum is_group id)
maximum_sound given is_group None = tt
maximum_sound given is_group (Some id) = (does_sound (call.SetMax id is_group) (λ bytes. refl) refl refl given, tt)

-- the items of an operation whose words were understood
tasks_sound : (o : Operation) (slots : List Slot) → AreGood (parameters_of o) slots → (given : Type 0)
    → AllByRecursion (λ t. Sound users_database given Any (task_course t)) (tasks_for o slots)
tasks_sound op.CreateUser slots good given =
    made_sound given false None _ _ tt (names_at _ slots 0 _ _ _ good refl new_name)
tasks_sound op.CreateGroup slots good given =
    made_sound given true _ _ _ (first_short _ (names_at _ slots 1 _ _ _ good refl entry_name))
    (names_at _ slots 0 _ _ _ good refl new_name)
tasks_sound op.Delete slots good given =
    each_item _ _ (λ word short. deletes_sound word short given) _ (names_at _ slots 0 _ _ _ good refl entry_name)
tasks_sound op.Rename slots good given = (
  changes_sound _ _ None (some_short _ (names_at _ slots 0 _ _ _ good refl entry_name))
      (some_short _ (names_at _ slots 1 _ _ _ good refl new_name)) tt given,
  tt,
)
tasks_sound op.Chown slots good given = (
  changes_sound _ [] (Some _) (some_short _ (names_at _ slots 0 _ _ _ good refl entry_name)) refl
      (some_short _ (names_at _ slots 1 _ _ _ good refl entry_name)) given,
  tt,
)
tasks_sound op.AddUser slots good given =
    each_pair _ _ (λ user group user_short group_short. moves_sound user group true user_short group_short given) _ _
    (names_at _ slots 0 _ _ _ good refl entry_name) (names_at _ slots 1 _ _ _ good refl entry_name)
tasks_sound op.RemoveUser slots good given =
    each_pair _ _ (λ user group user_short group_short. moves_sound user group false user_short group_short given) _ _
    (names_at _ slots 0 _ _ _ good refl entry_name) (names_at _ slots 1 _ _ _ good refl entry_name)
tasks_sound op.Membership slots good given =
    each_item _ _ (λ word short. lists_members_sound word short given) _ (names_at _ slots 0 _ _ _ good refl entry_name)
tasks_sound op.Examine slots good given =
    each_item _ _ (λ word short. examines_sound word short given) _ (names_at _ slots 0 _ _ _ good refl entry_name)
tasks_sound op.ListOwned slots good given =
    each_item _ _ (λ word short. lists_owned_sound word short given) _ (names_at _ slots 0 _ _ _ good refl entry_name)
tasks_sound op.ListEntries slots good given = (lists_entries_sound _ given, tt)
tasks_sound op.ListMax slots good given = (lists_maxima_sound given, tt)
tasks_sound op.SetMax slots good given =
    let group : Option ℤ = number_at slots 0 in
    let user : Option ℤ = number_at slots 1 in
    all_append (λ t. Sound users_database given Any (task_course t)) (maximum true group) (maximum false user)
    (maximum_sound given true group) (maximum_sound given false user)
tasks_sound op.SetFields slots good given =
    each_item _ (fields (option_map flags_of (value_at slots 1)) (number_at slots 2))
    (λ word short. sets_fields_sound word _ _ _ short given) _
    (names_at _ slots 0 _ _ _ good refl entry_name)
tasks_sound _ slots good given = tt

-- each command of `pts` that was understood
pub pts_sound : (c : Command) → Fitting c → PtsSound (pts_course c)
pts_sound c fitting = works_sound (tasks_of c) (tasks_sound c.operation c.switches fitting)
