-- The courses of `vos` are sound, where the names in its words are such as a call takes.
use Rattle.std.proofs.Common.{◌≡◌, ℕ, Bool, true, List, [], ◌∷◌, ◌++◌, Option, Some, None, refl, zero, suc}
use Rattle.std.specs.Prelude.{nat_lt, if◌then◌else◌, length, is_some, IfSome, option_and_then, fold}
use Rattle.std.specs.List.{AllByRecursion, list_all}
use Rattle.afs_words.specs.Command.{Command}
use Rattle.afs_words.specs.Given.{value_at, values_at}
use Rattle.afs_words.specs.Good.{AreGood}
use Rattle.afs_words.specs.Tables.{parameters_of}
use Rattle.afs_words.specs.declared.tables.Operation.{Operation}
use Rattle.afs_words.specs.declared.tables.Operation.TheVariants as op
use Rattle.afs_words.specs.declared.values.Slot.{Slot}
use Rattle.vl_calls.specs.Answers.{answer_of}
use Rattle.vl_calls.specs.declared.answers.AnswerKind.TheVariants as tells
use Rattle.vl_calls.specs.declared.answers.VlAnswer.{VlAnswer}
use Rattle.vl_calls.specs.declared.answers.VlAnswer.TheVariants as answer
use Rattle.vl_calls.specs.declared.calls.VlCall.{VlCall}
use Rattle.vl_calls.specs.declared.calls.VlCall.TheVariants as call
use Rattle.vl_calls.specs.declared.limits.TheConstants.{MAX_PAGE}
use Rattle.tool_base.specs.Course.{◌>>=◌, Course, gives, says, stops}
use Rattle.tool_base.specs.declared.stops.Refusal.TheVariants.{Malformed, Rule}
use Rattle.tool_base.specs.declared.stops.Stop.TheVariants.{Refused}
use Rattle.vldb_entries.specs.declared.entries.VlEntry.{VlEntry}
use Rattle.vldb_entries.specs.declared.entries.VlSite.{VlSite}
use Rattle.vl_calls.specs.declared.calls.GivenEntry.{GivenEntry}
use Rattle.vos_tool.specs.Adding.{addentry_text, makes, makes_of, new_entry}
use Rattle.vos_tool.specs.Addresses.{changeaddr_text, listaddrs_text}
use Rattle.vos_tool.specs.Answers.{as_page, done_in, entry_in, hosts_in, id_in, is_page, page_in}
use Rattle.vos_tool.specs.Asking.{asks}
use Rattle.vos_tool.specs.Changing.{change_text, changes_sites, entry_with, replaces, replaces_if}
use Rattle.vos_tool.specs.Command.{text_by, vos_course, vos_text, word_at}
use Rattle.vos_tool.specs.Deleting.{deletes, deletes_each, delentry_text}
use Rattle.vos_tool.specs.Each.{each}
use Rattle.vos_tool.specs.Listing.{entries_of, last_id, listing_text, listvldb_text, one_text, page_call, pages, releases_each, unlockvldb_text}
use Rattle.vos_tool.specs.Locking.{lock_text, releases_lock, sets_lock, unlock_text}
use Rattle.vos_tool.specs.Sites.{changed_sites}
use Rattle.vos_tool.specs.Volumes.{any_type, entry_by, entry_named, id_of, id_or_named, volume_entry, volume_id}
use Rattle.vos_tool.specs.declared.listing.Filter.{Filter}
use Rattle.afs_commands.specs.declared.places.Style.{Style}
use Rattle.afs_commands.specs.declared.places.Place.{Place}
use Rattle.vos_tool.specs.declared.sites.SiteChange.{SiteChange}
use Rattle.vos_tool.specs.declared.adding.TheConstants.{NEW_IDS}
use Rattle.vos_tool.specs.declared.locks.TheConstants.{LOCK_SITES, WHOLE_LOCK}
use Rattle.vos_tool.specs.declared.paging.TheConstants.{MOST_PAGES}
use Rattle.vos_tool.specs.declared.sites.TheConstants.{NO_SUCH_SITE}
use Rattle.afs_client.specs.Questions.{is_volume_id, vl_page_has_bits, vl_question, volumes_database}
use Rattle.afs_client.proofs.Asked.{sound_call}
use Rattle.afs_client.proofs.Giving.{sound_gives_up, sound_replacing}
use Rattle.afs_client.proofs.Sounding.{AlwaysSound, Any, Sound, always_then, sound_gives, sound_if, sound_met, sound_says, sound_with}
use Rattle.afs_client.proofs.Words.{Fitting, IsShort, first_short, first_true, let_through, names_at, new_volume_name, second_true, some_short, volume_name}

abbrev pub VosSound : {A : Type 0} → Course A → Type 1
VosSound m = AlwaysSound volumes_database m

chain : {A B : Type 0} (m : Course A) (f : A → Course B) → VosSound m → ((x : A) → VosSound (f x)) → VosSound (m >>= f)
chain m f first next = always_then volumes_database m f first next

value : {A : Type 0} (x : A) → VosSound (gives x)
value x given = sound_gives volumes_database given Any x (λ g. tt)

asked : {A : Type 0} (c : VlCall) (read : List ℕ → Option A) → ((bytes : List ℕ) → (vl_question c).is_answer bytes ≡ is_some (read bytes))
    → (vl_question c).fits ≡ true → VosSound (asks read c)
asked c read same fits given =
    sound_call volumes_database given Any c _ read (record { writes_is = refl; read_is = same }) (λ g. fits) (λ x taken. tt)

-- a course behind a test that is met
callable : {A : Type 0} (b : Bool) (m n : Course A) → b ≡ true → VosSound m → VosSound (if b then m else n)
callable b m n is sound given = sound_met volumes_database given Any b m n is (sound given)

named : (name : List ℕ) → IsShort name → VosSound (entry_named name)
unfolding entry_named
named name short = callable _ _ (stops (Refused Malformed)) short (asked (call.GetEntryByName name) entry_in (λ bytes. refl) refl)

id_sound : (found : Option ℕ) (word : List ℕ) → IsShort word → VosSound (id_or_named found word)
id_sound (Some id) word short = value id
id_sound None word short = chain (entry_named word) _ (named word short) (λ e. value e.rw)

volume_id_sound : (word : List ℕ) → IsShort word → VosSound (volume_id word)
unfolding volume_id
volume_id_sound word short = id_sound (id_of word) word short

entry_by_sound : (found : Option ℕ) (word : List ℕ) → IsShort word → VosSound (entry_by found word)
entry_by_sound (Some id) word short = asked (call.GetEntryById id any_type) entry_in (λ bytes. refl) refl
entry_by_sound None word short = named word short

volume_entry_sound : (word : List ℕ) → IsShort word → VosSound (volume_entry word)
unfolding volume_entry
volume_entry_sound word short = entry_by_sound (id_of word) word short

sets_lock_sound : (id : ℕ) → VosSound (sets_lock id)
sets_lock_sound id = asked (call.SetLock id any_type LOCK_SITES) done_in (λ bytes. refl) refl

releases_lock_sound : (id : ℕ) → VosSound (releases_lock id)
releases_lock_sound id = asked (call.ReleaseLock id any_type WHOLE_LOCK) done_in (λ bytes. refl) refl

lock_sound : (word : List ℕ) → IsShort word → VosSound (lock_text word)
unfolding lock_text
lock_sound word short =
    chain (volume_id word) _ (volume_id_sound word short) (λ id. chain (sets_lock id) _ (sets_lock_sound id) (λ done. value _))

unlock_sound : (word : List ℕ) → IsShort word → VosSound (unlock_text word)
unfolding unlock_text
unlock_sound word short =
    chain (volume_id word) _ (volume_id_sound word short) (λ id. chain (releases_lock id) _ (releases_lock_sound id) (λ done. value _))

makes_sound : (name : List ℕ) (place : Place) (id : ℕ) → VosSound (makes name place id)
unfolding makes
makes_sound name place id = chain _ _ (asked (call.CreateEntry (new_entry name place id)) done_in (λ bytes. refl) refl) (λ done. value _)

makes_of_sound : (name : List ℕ) (place : Place) (id : Option ℕ) → VosSound (makes_of name place id)
makes_of_sound name place (Some id) = makes_sound name place id
makes_of_sound name place None =
    chain _ _ (asked (call.GetNewVolumeId NEW_IDS) id_in (λ bytes. refl) refl) (λ id. makes_sound name place id)

addentry_sound : (name : List ℕ) (place : Place) (id : Option ℕ) → IsShort name → VosSound (addentry_text name place id)
unfolding addentry_text
addentry_sound name place id short = callable _ _ (stops (Refused Malformed)) short (makes_of_sound name place id)

-- the ids of a page have their bits
abbrev pub PageFits : List VlEntry → Type 0
PageFits es = list_all (λ e. is_volume_id e.rw) es ≡ true

page_fits : (after : ℕ) (a : Option VlAnswer) (es : List VlEntry) → option_and_then (as_page after) a ≡ Some es
    → vl_page_has_bits a ≡ true → PageFits es
page_fits after None es is bits = cc
page_fits after (Some answer.Done) es is bits = cc
page_fits after (Some (answer.Id id)) es is bits = cc
page_fits after (Some (answer.Entry e)) es is bits = cc
page_fits after (Some (answer.Entries found)) es is bits = let_through PageFits (is_page after found) found es is bits
page_fits after (Some (answer.Hosts hosts)) es is bits = cc

last_fits : (last : ℕ) (es : List VlEntry) → is_volume_id last ≡ true → PageFits es → is_volume_id (fold (λ l e. e.rw) last es) ≡ true
last_fits last [] is fits = is
last_fits last (e ∷ es) is fits = last_fits e.rw es (first_true (is_volume_id e.rw) _ fits) (second_true (is_volume_id e.rw) _ fits)

-- a page that is full has a last entry
pages_on : (more : ℕ) (filter : Filter) (after : ℕ) (found es : List VlEntry) (given : Type 0) → (given → PageFits es)
    → ((next : ℕ) (all : List VlEntry) → (given → is_volume_id next ≡ true) → Sound volumes_database given Any (pages more filter next all))
    → Sound volumes_database given Any
    (if nat_lt (length es) MAX_PAGE then gives (found ++ es) else pages more filter (last_id after es) (found ++ es))
pages_on more filter after found [] given fits next = value (found ++ []) given
pages_on more filter after found (e ∷ es) given fits next =
    sound_if volumes_database given Any (nat_lt (length (e ∷ es)) MAX_PAGE) _ _ (value (found ++ (e ∷ es)) given)
    (next (last_id after (e ∷ es)) (found ++ (e ∷ es))
    (λ g. last_fits e.rw es (first_true (is_volume_id e.rw) _ (fits g)) (second_true (is_volume_id e.rw) _ (fits g))))

pages_sound : (more : ℕ) (filter : Filter) (after : ℕ) (found : List VlEntry) (given : Type 0) → (given → is_volume_id after ≡ true)
    → Sound volumes_database given Any (pages more filter after found)
unfolding pages
pages_sound zero filter after found given fits = value found given
pages_sound (suc more) filter after found given fits =
    sound_with volumes_database given PageFits Any _ _
    (sound_call volumes_database given PageFits (page_call filter after) _ (page_in after)
    (record { writes_is = refl; read_is = λ bytes. refl }) fits
    (λ es taken. page_fits after (answer_of tells.Entries taken.bytes) es taken.read_is taken.bits))
    (λ es all has. pages_on more filter after found es all has (λ next whole given2. pages_sound more filter next whole all given2))

entries_sound : (filter : Filter) → VosSound (entries_of filter)
entries_sound filter given = pages_sound MOST_PAGES filter 0 [] given (λ g. refl)

listing_sound : (filter : Filter) (style : Style) → VosSound (listing_text filter style)
unfolding listing_text
listing_sound filter style = chain (entries_of filter) _ (entries_sound filter) (λ es. value _)

one_sound : (word : List ℕ) → IsShort word → VosSound (one_text word)
unfolding one_text
one_sound word short = chain (volume_entry word) _ (volume_entry_sound word short) (λ e. value _)

listvldb_sound : (word : Option (List ℕ)) (filter : Filter) (style : Style) → IfSome word IsShort
    → VosSound (listvldb_text word filter style)
listvldb_sound (Some word) filter style short = one_sound word short
listvldb_sound None filter style short = listing_sound filter style

each_sound : {X : Type 0} (f : X → Course (Unit {0})) (P : X → Type 0) → ((x : X) → P x → VosSound (f x)) → (xs : List X)
    → AllByRecursion P xs → VosSound (each f xs)
each_sound f P sound [] all = value tt
each_sound f P sound (x ∷ xs) all = chain (f x) _ (sound x all.0) (λ done. each_sound f P sound xs all.1)

all_any : {X : Type 0} (xs : List X) → AllByRecursion (Any {A = X}) xs
all_any [] = tt
all_any (x ∷ xs) = (tt, all_any xs)

unlockvldb_sound : (filter : Filter) → VosSound (unlockvldb_text filter)
unfolding unlockvldb_text
unlockvldb_sound filter =
    chain (entries_of filter) _ (entries_sound filter)
    (λ es. chain (releases_each es) _
    (each_sound (λ (e : VlEntry). releases_lock e.rw) Any (λ e any. releases_lock_sound e.rw) es (all_any es)) (λ done. value _))

deletes_sound : (word : List ℕ) → IsShort word → VosSound (deletes word)
unfolding deletes
deletes_sound word short =
    chain (volume_id word) _ (volume_id_sound word short) (λ id. asked (call.DeleteEntry id any_type) done_in (λ bytes. refl) refl)

delentry_sound : (words : List (List ℕ)) → AllByRecursion IsShort words → VosSound (delentry_text words)
unfolding delentry_text
delentry_sound words short = chain (deletes_each words) _ (each_sound deletes IsShort deletes_sound words short) (λ done. value _)

listaddrs_sound : VosSound listaddrs_text
unfolding listaddrs_text
listaddrs_sound = chain _ _ (asked call.GetAddrs hosts_in (λ bytes. refl) refl) (λ hosts. value _)

changeaddr_sound : (from : ℕ) (to : Option ℕ) → VosSound (changeaddr_text from to)
changeaddr_sound from (Some to) = chain _ _ (asked (call.ChangeAddr from to) done_in (λ bytes. refl) refl) (λ done. value _)
changeaddr_sound from None = chain _ _ (asked (call.ChangeAddr from 0) done_in (λ bytes. refl) refl) (λ done. value _)

replaces_sound : (id : ℕ) (entry : GivenEntry) → VosSound (replaces id entry)
unfolding replaces
replaces_sound id entry given =
    sound_replacing volumes_database given id _
    (asked (call.ReplaceEntry id any_type entry WHOLE_LOCK) done_in (λ bytes. refl) refl given) (releases_lock_sound id)

replaces_if_sound : (id : ℕ) (e : VlEntry) (sites : Option (List VlSite)) → VosSound (replaces_if id e sites)
replaces_if_sound id e (Some sites) = replaces_sound id (entry_with e sites)
replaces_if_sound id e None = λ given. sound_gives_up volumes_database given id (Rule NO_SUCH_SITE) refl (releases_lock_sound id given)

changes_sound : (change : SiteChange) (place : Place) (id : ℕ) → VosSound (changes_sites change place id)
unfolding changes_sites
changes_sound change place id =
    chain (sets_lock id) _ (sets_lock_sound id)
    (λ done. chain _ _ (asked (call.GetEntryById id any_type) entry_in (λ bytes. refl) refl)
    (λ e. replaces_if_sound id e (changed_sites change place e.sites)))

change_sound : (change : SiteChange) (place : Place) (word : List ℕ) → IsShort word → VosSound (change_text change place word)
unfolding change_text
change_sound change place word short =
    chain (volume_id word) _ (volume_id_sound word short)
    (λ id. chain (changes_sites change place id) _ (changes_sound change place id) (λ done. value _))

-- the names in the words of an operation are such as a call takes
abbrev pub VosNames : Operation → List Slot → Type 0
VosNames op.AddEntry s = IsShort (word_at s 0)
VosNames op.ListVldb s = IfSome (value_at s 0) IsShort
VosNames op.Lock s = IsShort (word_at s 0)
VosNames op.Unlock s = IsShort (word_at s 0)
VosNames op.DelEntry s = AllByRecursion IsShort (values_at s 0)
VosNames op.AddSite s = IsShort (word_at s 2)
VosNames op.RemSite s = IsShort (word_at s 2)
VosNames op.ChangeLoc s = IsShort (word_at s 2)
VosNames _ s = Unit {0}

text_sound : (o : Operation) (s : List Slot) → VosNames o s → VosSound (text_by o s)
text_sound op.AddEntry s names = addentry_sound _ _ _ names
text_sound op.ListVldb s names = listvldb_sound _ _ _ names
text_sound op.Lock s names = lock_sound _ names
text_sound op.Unlock s names = unlock_sound _ names
text_sound op.UnlockVldb s names = unlockvldb_sound _
text_sound op.DelEntry s names = delentry_sound _ names
text_sound op.AddSite s names = change_sound _ _ _ names
text_sound op.RemSite s names = change_sound _ _ _ names
text_sound op.ChangeLoc s names = change_sound _ _ _ names
text_sound op.ListAddrs s names = listaddrs_sound
text_sound op.ChangeAddr s names = changeaddr_sound _ _
text_sound _ s names = value []

-- the names of a command that was understood
vos_names : (o : Operation) (slots : List Slot) → AreGood (parameters_of o) slots → VosNames o slots
vos_names op.AddEntry slots good = some_short _ (names_at _ slots 0 _ _ _ good refl new_volume_name)
vos_names op.ListVldb slots good = first_short _ (names_at _ slots 0 _ _ _ good refl volume_name)
vos_names op.Lock slots good = some_short _ (names_at _ slots 0 _ _ _ good refl volume_name)
vos_names op.Unlock slots good = some_short _ (names_at _ slots 0 _ _ _ good refl volume_name)
vos_names op.DelEntry slots good = names_at _ slots 0 _ _ _ good refl volume_name
vos_names op.AddSite slots good = some_short _ (names_at _ slots 2 _ _ _ good refl volume_name)
vos_names op.RemSite slots good = some_short _ (names_at _ slots 2 _ _ _ good refl volume_name)
vos_names op.ChangeLoc slots good = some_short _ (names_at _ slots 2 _ _ _ good refl volume_name)
vos_names _ slots good = tt

-- each command of `vos` that was understood
pub vos_sound : (c : Command) → Fitting c → VosSound (vos_course c)
unfolding vos_text
vos_sound c fitting =
    let names : VosNames c.operation c.switches = vos_names c.operation c.switches fitting in
    chain (vos_text c) _ (text_sound c.operation c.switches names)
    (λ text. chain (says text) _ (λ given. sound_says volumes_database given text) (λ said. value tt))
