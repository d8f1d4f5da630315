-- What is told of names that two entries would have, and of names that are too long.
use Rattle.std.proofs.Common.{◌≡◌, ℕ, ℤ, ◌+◌, ◌<◌, ◌≤◌, Bool, true, false, not, ◌&&◌, ◌||◌, cond, List, [], ◌∷◌, length, map, get_or}
use Rattle.std.proofs.Common.{take, Option, Some, None, IsSome, Result, Ok, Err, IfOk, refl, sym, ap, subst, ◌∙◌}
use Rattle.std.specs.Prelude.{is_some, nat_lt, option_map}
use Rattle.std.specs.List.{list_any}
use Rattle.std.specs.Ordering.{int_eq}
use Rattle.std.specs.Str.{bytes_eq}
use Rattle.std.proofs.lemmas.Bool.{false_from_ne_true}
use Rattle.std.proofs.lemmas.List.{take_all}
use Rattle.std.proofs.lemmas.List.Folds.{list_any_at, list_any_more}
use Rattle.db_image.specs.Draft.{Drafted}
use Rattle.db_image.specs.declared.faults.RecordFault.{RecordFault}
use Rattle.db_image.specs.declared.images.ImageRead.{Ghosts}
use Rattle.db_blocks.specs.Ends.{OnlyLooks}
use Rattle.db_blocks.proofs.Scanned.{looks_none, looks_so, looks_then}
use Rattle.prdb_layout.specs.RecordEnds.{seen}
use Rattle.prdb_layout.specs.Registry.{IsNamed, IsRegistry, Registry}
use Rattle.prdb_layout.specs.State.{PrEntry, front_of}
use Rattle.prdb_layout.specs.declared.records.PrEntry.{PrEntry as CodeEntry}
use Rattle.pt_service.specs.Names.{has_colon, with_front}
use Rattle.pt_service.specs.State.{State}
use Rattle.pt_service.specs.Told.{Told}
use Rattle.pt_service.specs.Turning.{has_equal_names, has_long_name, owns_another, turns_its_groups}
use Rattle.pt_looks.specs.States.{HoldsRecords, OfStates, members_of}
use Rattle.pt_looks.proofs.Pairs.{is_there}
use Rattle.pt_turns.specs.Deciding.{has_name, is_long, name_fault, shares_by, shares_one}
use Rattle.pt_turns.specs.Under.{groups_under}
use Rattle.pt_turns.proofs.Anyone.{any_none, any_some}
use Rattle.pt_turns.proofs.Equal.{equal_tell}
use Rattle.pt_turns.proofs.Long.{long_tell, none_fault, rule_is}
use Rattle.pt_turns.proofs.Named.{clash, text_of, to_text}

-- ---- of states

pub all_so : (bytes : Option (List ℕ)) (P : State → Type 0) → ((image : List ℕ) (s : State) → HoldsRecords image s → P s) → OfStates bytes P
all_so None P each = tt
all_so (Some image) P each = λ s holds. each image s holds

pub map_so : (bytes look : Option (List ℕ)) (P Q : State → Type 0) → look ≡ bytes
    → ((image : List ℕ) (s : State) → HoldsRecords image s → P s → Q s) → OfStates look P → OfStates bytes Q
map_so None look P Q same step told = tt
map_so (Some image) look P Q same step told =
    λ s holds. step image s holds (subst (λ (b : Option (List ℕ)). OfStates b P) same told s holds)

pub two_so : (bytes one two : Option (List ℕ)) (P Q R : State → Type 0) → one ≡ bytes → two ≡ bytes
    → ((image : List ℕ) (s : State) → HoldsRecords image s → P s → Q s → R s) → OfStates one P → OfStates two Q → OfStates bytes R
two_so None one two P Q R same1 same2 step first second = tt
two_so (Some image) one two P Q R same1 same2 step first second = λ s holds.
    step image s holds (subst (λ (b : Option (List ℕ)). OfStates b P) same1 first s holds)
    (subst (λ (b : Option (List ℕ)). OfStates b Q) same2 second s holds)

-- the entry is there
abbrev pub Own : PrEntry → State → Type 0
Own e s = s.registry.entry e.id ≡ Some e

-- ---- an entry has a name

pub some_seen : (o : Option CodeEntry) (b : Bool) → b ≡ is_some o → b ≡ is_some (option_map seen o)
some_seen None b is = is
some_seen (Some e) b is = is

has_by : (r : Registry) (name : List ℕ) (found : Option PrEntry) → IsRegistry r → IsNamed r name found → is_some found ≡ has_name r name
has_by r name None valid named =
    sym (any_none r (λ g. bytes_eq g.name name)
    (λ id f at. false_from_ne_true (bytes_eq f.name name) (λ same. named id f at (text_of f.name name same))))
has_by r name (Some f) valid named = sym (any_some r (λ g. bytes_eq g.name name) f valid named.0 (to_text f.name name named.1))

pub has_so : (bytes : Option (List ℕ)) (name : List ℕ) (found : Option CodeEntry) (b : Bool)
    → Told bytes (λ r. IsNamed r name (option_map seen found)) → b ≡ is_some found → OfStates bytes (λ s. b ≡ has_name s.registry name)
has_so None name found b told is = tt
has_so (Some image) name found b told is = λ s holds.
    some_seen found b is
    ∙ has_by s.registry name (option_map seen found) holds.pairs.holds.valid (told s.registry (members_of s) holds)

-- ---- the front turns

pub no_turn : (bytes : Option (List ℕ)) (e : PrEntry) (new : List ℕ) (t : Bool)
    → t ≡ (has_colon e.name && not (bytes_eq (front_of new) (front_of e.name))) → t ≡ false
    → OfStates bytes (λ s. Own e s → false ≡ turns_its_groups s.registry e new)
no_turn bytes e new t is none =
    all_so bytes (λ s. Own e s → false ≡ turns_its_groups s.registry e new)
    (λ image s holds own. sym (ap (λ (b : Bool). b && owns_another s.registry e.id) (sym is ∙ none)))

turned_told : (bytes : Option (List ℕ)) (e : PrEntry) (new : List ℕ) (t b : Bool)
    → t ≡ (has_colon e.name && not (bytes_eq (front_of new) (front_of e.name))) → t ≡ true
    → OfStates bytes (λ s. IsSome (s.registry.entry e.id) → b ≡ owns_another s.registry e.id)
    → OfStates bytes (λ s. Own e s → b ≡ turns_its_groups s.registry e new)
turned_told bytes e new t b is some told =
    map_so bytes bytes (λ s. IsSome (s.registry.entry e.id) → b ≡ owns_another s.registry e.id)
    (λ s. Own e s → b ≡ turns_its_groups s.registry e new) refl
    (λ image s holds owns own. owns (is_there (s.registry.entry e.id) e own)
    ∙ sym (ap (λ (b : Bool). b && owns_another s.registry e.id) (sym is ∙ some))) told

pub turned_so : (res : Result Bool RecordFault) (bytes : Option (List ℕ)) (e : PrEntry) (new : List ℕ) (t : Bool)
    → t ≡ (has_colon e.name && not (bytes_eq (front_of new) (front_of e.name))) → t ≡ true
    → IfOk res (λ b. OfStates bytes (λ s. IsSome (s.registry.entry e.id) → b ≡ owns_another s.registry e.id))
    → IfOk res (λ b. OfStates bytes (λ s. Own e s → b ≡ turns_its_groups s.registry e new))
turned_so (Err fault) bytes e new t is some told = tt
turned_so (Ok b) bytes e new t is some told = turned_told bytes e new t b is some told

-- ---- one group that follows a name shares its own

shares_at : (r : Registry) (new name after : List ℕ) → after ≡ with_front (front_of new) name
    → shares_by r new name after ≡ shares_one r new name
shares_at r new name after is = ap (shares_by r new name) is

or_first : (a b : Bool) → a ≡ true → true ≡ (a || b)
or_first true b is = refl
or_first false b is = absurd cc

pub shares_new : (bytes : Option (List ℕ)) (new name after : List ℕ) → after ≡ with_front (front_of new) name → bytes_eq after new ≡ true
    → OfStates bytes (λ s. true ≡ shares_one s.registry new name)
shares_new bytes new name after is same =
    all_so bytes (λ s. true ≡ shares_one s.registry new name)
    (λ image s holds. or_first (bytes_eq after new) (not (bytes_eq after name) && has_name s.registry after) same
    ∙ shares_at s.registry new name after is)

shares_cases : (r : Registry) (new name after : List ℕ) (own stays : Bool) → bytes_eq after new ≡ own → bytes_eq after name ≡ stays
    → (own || (not stays && has_name r after)) ≡ shares_by r new name after
shares_cases r new name after own stays one two =
    ap (λ (b : Bool). b || (not stays && has_name r after)) (sym one)
    ∙ ap (λ (b : Bool). bytes_eq after new || (not b && has_name r after)) (sym two)

pub shares_none : (bytes : Option (List ℕ)) (new name after : List ℕ) → after ≡ with_front (front_of new) name
    → bytes_eq after new ≡ false → bytes_eq after name ≡ true → OfStates bytes (λ s. false ≡ shares_one s.registry new name)
shares_none bytes new name after is other same =
    all_so bytes (λ s. false ≡ shares_one s.registry new name)
    (λ image s holds. shares_cases s.registry new name after false true other same
    ∙ shares_at s.registry new name after is)

taken_name : (bytes : Option (List ℕ)) (new name after : List ℕ) (b : Bool) → after ≡ with_front (front_of new) name
    → bytes_eq after new ≡ false → bytes_eq after name ≡ false → OfStates bytes (λ s. b ≡ has_name s.registry after)
    → OfStates bytes (λ s. b ≡ shares_one s.registry new name)
taken_name bytes new name after b is other turns told =
    map_so bytes bytes (λ s. b ≡ has_name s.registry after) (λ s. b ≡ shares_one s.registry new name) refl
    (λ image s holds has. has
    ∙ shares_cases s.registry new name after false false other turns
    ∙ shares_at s.registry new name after is) told

pub shares_taken : (res : Result Bool RecordFault) (bytes : Option (List ℕ)) (new name after : List ℕ)
    → after ≡ with_front (front_of new) name → bytes_eq after new ≡ false → bytes_eq after name ≡ false
    → IfOk res (λ b. OfStates bytes (λ s. b ≡ has_name s.registry after))
    → IfOk res (λ b. OfStates bytes (λ s. b ≡ shares_one s.registry new name))
shares_taken (Err fault) bytes new name after is other turns told = tt
shares_taken (Ok b) bytes new name after is other turns told = taken_name bytes new name after b is other turns told

-- ---- one of several does

abbrev pub shares_in : (new : List ℕ) → State → CodeEntry → Bool
shares_in new s g = shares_one s.registry new (seen g).name

-- none of the first ones does
pub record Sharing {I : Type 0} (g : Ghosts I) (first now : Drafted I) (new : List ℕ) (groups : List CodeEntry) (done : ℕ) : Type 0 where
  pub frame : OnlyLooks g first now ⊥
  pub none : OfStates first.bytes (λ s. list_any (shares_in new s) (take done groups) ≡ false)

pub sharing_none : {I : Type 0} (g : Ghosts I) (d : Drafted I) (new : List ℕ) (groups : List CodeEntry) → Sharing g d d new groups 0
sharing_none g d new groups = record {
  frame = looks_none g d ⊥ (λ h. h);
  none = all_so d.bytes (λ s. list_any (shares_in new s) (take 0 groups) ≡ false) (λ image s holds. refl);
}

one_false : (a b : Bool) → a ≡ false → b ≡ false → (a || b) ≡ false
one_false true b one two = absurd cc
one_false false b one two = two

pub sharing_more : {I : Type 0} (g : Ghosts I) (first now next : Drafted I) (one : Type 0) (new : List ℕ) (groups : List CodeEntry)
    (done : ℕ) (x : CodeEntry) (b : Bool)
    → OnlyLooks g now next one → OfStates now.bytes (λ s. b ≡ shares_in new s x) → b ≡ false → x ≡ get_or groups done x
    → done < length groups
    → Sharing g first now new groups done → Sharing g first next new groups (done + 1)
sharing_more g first now next one new groups done x b looks told fails is below p = record {
  frame = looks_then g first now next ⊥ ⊥ p.frame (looks_so g now next one ⊥ looks (λ h. absurd h));
  none = two_so first.bytes first.bytes now.bytes (λ s. list_any (shares_in new s) (take done groups) ≡ false) (λ s. b ≡ shares_in new s x)
      (λ s. list_any (shares_in new s) (take (done + 1) groups) ≡ false) refl p.frame.same.bytes
      (λ image s holds none here.
      list_any_more (shares_in new s) groups done x below
      ∙ one_false (list_any (shares_in new s) (take done groups)) (shares_in new s (get_or groups done x)) none
      (ap (shares_in new s) (sym is) ∙ sym here ∙ fails))
      p.none told;
}

pub sharing_one : {I : Type 0} (g : Ghosts I) (first now : Drafted I) (new : List ℕ) (groups : List CodeEntry) (done : ℕ) (x : CodeEntry)
    (b : Bool)
    → OfStates now.bytes (λ s. b ≡ shares_in new s x) → b ≡ true → x ≡ get_or groups done x → done < length groups
    → Sharing g first now new groups done
    → OfStates first.bytes (λ s. true ≡ list_any (shares_in new s) groups)
sharing_one g first now new groups done x b told does is below p =
    map_so first.bytes now.bytes (λ s. b ≡ shares_in new s x) (λ s. true ≡ list_any (shares_in new s) groups) p.frame.same.bytes
    (λ image s holds here. sym (list_any_at (shares_in new s) groups done x below (ap (shares_in new s) (sym is) ∙ sym here ∙ does))) told

pub sharing_all : {I : Type 0} (g : Ghosts I) (first now : Drafted I) (new : List ℕ) (groups : List CodeEntry) (done : ℕ)
    → length groups ≤ done
    → Sharing g first now new groups done → OfStates first.bytes (λ s. false ≡ list_any (shares_in new s) groups)
sharing_all g first now new groups done past p =
    map_so first.bytes first.bytes (λ s. list_any (shares_in new s) (take done groups) ≡ false)
    (λ s. false ≡ list_any (shares_in new s) groups) refl
    (λ image s holds none. sym none ∙ ap (list_any (shares_in new s)) (take_all done groups past)) p.none

-- ---- two entries would have one name

abbrev pub any_share : (new : List ℕ) → List CodeEntry → State → Bool
any_share new groups s = has_name s.registry new || list_any (shares_in new s) groups

pub name_shared : (bytes : Option (List ℕ)) (new : List ℕ) (groups : List CodeEntry) → OfStates bytes (λ s. true ≡ has_name s.registry new)
    → OfStates bytes (λ s. true ≡ any_share new groups s)
name_shared bytes new groups told =
    map_so bytes bytes (λ s. true ≡ has_name s.registry new) (λ s. true ≡ any_share new groups s) refl
    (λ image s holds has. ap (λ (b : Bool). b || list_any (shares_in new s) groups) has) told

group_shared : (bytes look : Option (List ℕ)) (new : List ℕ) (groups : List CodeEntry) (b : Bool)
    → OfStates bytes (λ s. false ≡ has_name s.registry new) → look ≡ bytes
    → OfStates look (λ s. b ≡ list_any (shares_in new s) groups) → OfStates bytes (λ s. b ≡ any_share new groups s)
group_shared bytes look new groups b none same told =
    two_so bytes bytes look (λ s. false ≡ has_name s.registry new) (λ s. b ≡ list_any (shares_in new s) groups)
    (λ s. b ≡ any_share new groups s) refl same
    (λ image s holds no any. any ∙ ap (λ (t : Bool). t || list_any (shares_in new s) groups) no) none told

pub groups_shared : (res : Result Bool RecordFault) (bytes look : Option (List ℕ)) (new : List ℕ) (groups : List CodeEntry)
    → OfStates bytes (λ s. false ≡ has_name s.registry new) → look ≡ bytes
    → IfOk res (λ b. OfStates look (λ s. b ≡ list_any (shares_in new s) groups))
    → IfOk res (λ b. OfStates bytes (λ s. b ≡ any_share new groups s))
groups_shared (Err fault) bytes look new groups none same told = tt
groups_shared (Ok b) bytes look new groups none same told = group_shared bytes look new groups b none same told

-- ---- the rule of the names

abbrev pub RuleTold : Option (List ℕ) → PrEntry → (new : List ℕ) → Option ℕ → Type 0
RuleTold bytes e new fault = OfStates bytes (λ s. Own e s → fault ≡ name_fault s.registry e new)

abbrev pub Turns : PrEntry → (new : List ℕ) → Bool → State → Type 0
Turns e new b s = Own e s → b ≡ turns_its_groups s.registry e new

abbrev pub Groups : PrEntry → List CodeEntry → State → Type 0
Groups e groups s = map seen groups ≡ groups_under s.registry e.name

pub rule_kept : (bytes : Option (List ℕ)) (e : PrEntry) (new : List ℕ) → bytes_eq new e.name ≡ true → RuleTold bytes e new None
rule_kept bytes e new same =
    all_so bytes (λ s. Own e s → None ≡ name_fault s.registry e new)
    (λ image s holds own. sym (none_fault s.registry e new holds.pairs.holds.valid own (text_of new e.name same)))

pub rule_turns : (bytes : Option (List ℕ)) (e : PrEntry) (new : List ℕ) → OfStates bytes (Turns e new true)
    → RuleTold bytes e new (Some 267269)
rule_turns bytes e new told =
    map_so bytes bytes (Turns e new true) (λ s. Own e s → Some 267269 ≡ name_fault s.registry e new) refl
    (λ image s holds is own.
    sym (rule_is s.registry e new true (has_long_name s.registry e new) (has_equal_names s.registry e new) (sym (is own)) refl refl)) told

-- of the groups as they were read
mapped_any : (p : PrEntry → Bool) (groups : List CodeEntry) → list_any (λ g. p (seen g)) groups ≡ list_any p (map seen groups)
mapped_any p [] = refl
mapped_any p (g ∷ groups) = ap (λ (b : Bool). p (seen g) || b) (mapped_any p groups)

abbrev pub long_of : (new : List ℕ) → List CodeEntry → Bool
long_of new groups = nat_lt 63 (length new) || list_any (λ g. is_long new (seen g)) groups

long_is : (s : State) (image : List ℕ) (e : PrEntry) (new : List ℕ) (groups : List CodeEntry) → HoldsRecords image s → Own e s
    → Groups e groups s → has_long_name s.registry e new ≡ long_of new groups
long_is s image e new groups holds own are =
    sym (ap (λ (b : Bool). nat_lt 63 (length new) || b) (mapped_any (is_long new) groups ∙ ap (list_any (is_long new)) are)
    ∙ long_tell s.registry e new holds.pairs.holds.valid own)

equal_is : (s : State) (image : List ℕ) (e : PrEntry) (new : List ℕ) (groups : List CodeEntry) → HoldsRecords image s → Own e s
    → bytes_eq new e.name ≡ false → Groups e groups s → has_equal_names s.registry e new ≡ any_share new groups s
equal_is s image e new groups holds own turns are =
    sym (ap (λ (b : Bool). has_name s.registry new || b)
    (mapped_any (λ g. shares_one s.registry new g.name) groups ∙ ap (list_any (λ g. shares_one s.registry new g.name)) are)
    ∙ equal_tell s.registry e new holds.pairs.holds.valid own (λ same. clash (bytes_eq new e.name) (to_text new e.name same) turns))

pub rule_long : (bytes one : Option (List ℕ)) (e : PrEntry) (new : List ℕ) (groups : List CodeEntry)
    → OfStates bytes (Turns e new false) → one ≡ bytes → OfStates one (Groups e groups) → long_of new groups ≡ true
    → RuleTold bytes e new (Some 267272)
rule_long bytes one e new groups turns same are long =
    two_so bytes bytes one (Turns e new false) (Groups e groups) (λ s. Own e s → Some 267272 ≡ name_fault s.registry e new) refl same
    (λ image s holds no groups_are own.
    sym (rule_is s.registry e new false true (has_equal_names s.registry e new) (sym (no own))
    (long_is s image e new groups holds own groups_are ∙ long) refl)) turns are

abbrev by_equal : Bool → Option ℕ
by_equal equal = cond equal (Some 267264) None

abbrev Both : PrEntry → (new : List ℕ) → List CodeEntry → State → Type 0
Both e new groups s = Turns e new false s × Groups e groups s

rule_last : (bytes one two : Option (List ℕ)) (e : PrEntry) (new : List ℕ) (groups : List CodeEntry) (b : Bool)
    → bytes_eq new e.name ≡ false → OfStates bytes (Turns e new false) → one ≡ bytes → OfStates one (Groups e groups)
    → long_of new groups ≡ false → two ≡ bytes → OfStates two (λ s. b ≡ any_share new groups s) → RuleTold bytes e new (by_equal b)
rule_last bytes one two e new groups b other turns same1 are short same2 equal =
    two_so bytes bytes two (Both e new groups) (λ s. b ≡ any_share new groups s)
    (λ s. Own e s → by_equal b ≡ name_fault s.registry e new) refl same2
    (λ image s holds known is own.
    sym (rule_is s.registry e new false false b (sym (known.0 own)) (long_is s image e new groups holds own known.1 ∙ short)
    (equal_is s image e new groups holds own other known.1 ∙ sym is)))
    (two_so bytes bytes one (Turns e new false) (Groups e groups) (Both e new groups) refl same1
    (λ image s holds a b. (a, b)) turns are) equal

pub rule_equal : (bytes one two : Option (List ℕ)) (e : PrEntry) (new : List ℕ) (groups : List CodeEntry)
    → bytes_eq new e.name ≡ false → OfStates bytes (Turns e new false) → one ≡ bytes → OfStates one (Groups e groups)
    → long_of new groups ≡ false → two ≡ bytes → OfStates two (λ s. true ≡ any_share new groups s)
    → RuleTold bytes e new (Some 267264)
rule_equal bytes one two e new groups other turns same1 are short same2 equal =
    rule_last bytes one two e new groups true other turns same1 are short same2 equal

pub rule_none : (bytes one two : Option (List ℕ)) (e : PrEntry) (new : List ℕ) (groups : List CodeEntry)
    → bytes_eq new e.name ≡ false → OfStates bytes (Turns e new false) → one ≡ bytes → OfStates one (Groups e groups)
    → long_of new groups ≡ false → two ≡ bytes → OfStates two (λ s. false ≡ any_share new groups s) → RuleTold bytes e new None
rule_none bytes one two e new groups other turns same1 are short same2 equal =
    rule_last bytes one two e new groups false other turns same1 are short same2 equal

-- ---- an id that another entry has

pub same_free : (bytes : Option (List ℕ)) (old id : ℤ) → int_eq id old ≡ true
    → OfStates bytes (λ s. false ≡ (not (int_eq id old) && is_some (s.registry.entry id)))
same_free bytes old id same =
    all_so bytes (λ s. false ≡ (not (int_eq id old) && is_some (s.registry.entry id)))
    (λ image s holds. sym (ap (λ (b : Bool). not b && is_some (s.registry.entry id)) same))

pub taken_told : (bytes : Option (List ℕ)) (old id : ℤ) (found : Option PrEntry) (b : Bool) → int_eq id old ≡ false
    → OfStates bytes (λ s. found ≡ s.registry.entry id)
    → b ≡ is_some found → OfStates bytes (λ s. b ≡ (not (int_eq id old) && is_some (s.registry.entry id)))
taken_told bytes old id found b other told is =
    map_so bytes bytes (λ s. found ≡ s.registry.entry id) (λ s. b ≡ (not (int_eq id old) && is_some (s.registry.entry id))) refl
    (λ image s holds at. is ∙ ap is_some at ∙ sym (ap (λ (t : Bool). not t && is_some (s.registry.entry id)) other)) told
