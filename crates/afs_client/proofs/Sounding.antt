-- Courses whose ends have their causes, and which end well where each call is answered.
use Rattle.std.proofs.Common.{◌≡◌, ℕ, ◌+◌, Bool, true, false, List, [], ◌∷◌, ◌++◌, length, map, Result, Ok, Err, refl, sym, ap, ◌∙◌, subst, append_assoc, inl, inr, arith}
use Rattle.std.specs.Prelude.{if◌then◌else◌, IfOk}
use Rattle.std.specs.List.{AllByRecursion}
use Rattle.std.proofs.lemmas.List.{append_cancel_left, length-append, length-map, map-append}
use Rattle.ubik_types.specs.declared.hosts.Host.{Host}
use Rattle.io_base.specs.declared.links.Exchange.{Exchange}
use Rattle.tool_base.specs.Course.{◌>>=◌, Asked, Asker, Course, Walk, after_result, ask_in, asks_in, behind, gives, says, still, stops}
use Rattle.tool_base.specs.Hearing.{heard_in}
use Rattle.tool_base.specs.declared.stops.Refusal.{Refusal}
use Rattle.tool_base.specs.declared.stops.Stop.{Stop}
use Rattle.tool_base.specs.declared.stops.Stop.TheVariants.{Refused, NoServer, OutcomeUnknown, WriteFault, NoMemory}
use Rattle.afs_client.specs.Causes.{Answers, HasBits, HaveBits, LeftUnknown, PassesOn, RefusalCause, Served}
use Rattle.afs_client.specs.Questions.{Database}

-- The last call was asked of each host in order, and of each the next one was to be asked; its id fits where this is given.
pub record AskedAll {C : Type 0} (d : Database C) (given : Type 0) (hosts : List Host) (made : List Exchange) : Type 0 where
  pub call : C
  pub number : ℕ
  pub earlier : List Exchange
  pub asked : List Exchange
  pub made_is : made ≡ earlier ++ asked
  pub hosts_are : map (λ (e : Exchange). e.host) asked ≡ hosts
  pub passed : AllByRecursion (PassesOn (d.question call) number) asked
  pub fits : given → HaveBits d.has_bits earlier → (d.question call).fits ≡ true

-- why a course ended before its last call
abbrev pub StopCause : {C : Type 0} → Database C → Type 0 → List Host → List Exchange → Stop → Type 0
StopCause d given hosts made (Refused why) = RefusalCause d made why
StopCause d given hosts made NoServer = AskedAll d given hosts made
StopCause d given hosts made OutcomeUnknown = LeftUnknown d made
StopCause d given hosts made WriteFault = Unit {0}
StopCause d given hosts made NoMemory = Unit {0}

abbrev pub EndCause : {C A : Type 0} → Database C → Type 0 → List Host → List Exchange → Result A Stop → Type 0
EndCause d given hosts made (Ok x) = Unit {0}
EndCause d given hosts made (Err why) = StopCause d given hosts made why

-- a course that is done, that memory stopped, or that the command's own refusal ends
abbrev pub EndsWell : {A : Type 0} → Refusal → Result A Stop → Type 0
EndsWell own (Ok x) = Unit {0}
EndsWell own (Err (Refused why)) = why ≡ own
EndsWell own (Err NoServer) = ⊥
EndsWell own (Err OutcomeUnknown) = ⊥
EndsWell own (Err WriteFault) = ⊥
EndsWell own (Err NoMemory) = Unit {0}

-- What a course did with the exchanges that were to come: some are its own, one for each ask; its end has its cause in them, it ends well
-- where the first host answered in each, and its value is so.
pub record Went {C A : Type 0} (d : Database C) (given : Type 0) (Post : A → Type 0) (asker : Asker) (es : List Exchange)
    (w : Walk A) : Type 0 where
  pub made : List Exchange
  pub split : es ≡ made ++ w.rest
  pub counts : length w.asks ≡ length made
  pub stays : w.asker.hosts ≡ asker.hosts
  pub cause : w.asks ≡ asks_in made → EndCause d given asker.hosts made w.result
  pub well : given → w.asks ≡ asks_in made → Served d asker.hosts made → EndsWell d.own w.result
  pub post : given → w.asks ≡ asks_in made → HaveBits d.has_bits made → IfOk w.result Post

abbrev pub Sound : {C A : Type 0} → Database C → Type 0 → (A → Type 0) → Course A → Type 0
Sound d given Post m = (asker : Asker) → (es : List Exchange) → Went d given Post asker es (m asker es)

-- nothing is said of a value
abbrev pub Any : {A : Type 0} → A → Type 0
Any x = Unit {0}

pub any_post : {A : Type 0} (r : Result A Stop) → IfOk r (Any {A = A})
any_post (Ok x) = tt
any_post (Err why) = tt

-- equal lists whose fronts are as long have equal parts
same_front : {X : Type 0} (a b c d : List X) → length a ≡ length c → a ++ b ≡ c ++ d → a ≡ c
same_front [] b [] d len eq = refl
same_front [] b (y ∷ c) d len eq = absurd (omega arith)
same_front (x ∷ a) b [] d len eq = absurd (omega arith)
same_front (x ∷ a) b (y ∷ c) d len eq =
    let tails : a ++ b ≡ c ++ d = cc in
    let heads : x ≡ y = cc in
    let fronts : a ≡ c = same_front a b c d (omega arith) tails in
    cc

same_back : {X : Type 0} (a b c d : List X) → length a ≡ length c → a ++ b ≡ c ++ d → b ≡ d
same_back {X = X} a b c d len eq =
    append_cancel_left a b d (eq ∙ ap (λ (f : List X). f ++ d) (sym (same_front a b c d len eq)))

All_back : {X : Type 0} (P : X → Type 0) (a b : List X) → AllByRecursion P (a ++ b) → AllByRecursion P b
All_back P [] b all = all
All_back P (x ∷ a) b all = All_back P a b all.1

All_front : {X : Type 0} (P : X → Type 0) (a b : List X) → AllByRecursion P (a ++ b) → AllByRecursion P a
All_front P [] b all = tt
All_front P (x ∷ a) b all = (all.0, All_front P a b all.1)

pub bits_back : (has_bits : List ℕ → Bool) (a b : List Exchange) → HaveBits has_bits (a ++ b) → HaveBits has_bits b
bits_back has_bits a b bits = All_back (λ (e : Exchange). (number : ℕ) → HasBits has_bits (heard_in number e)) a b bits

pub bits_front : (has_bits : List ℕ → Bool) (a b : List Exchange) → HaveBits has_bits (a ++ b) → HaveBits has_bits a
bits_front has_bits a b bits = All_front (λ (e : Exchange). (number : ℕ) → HasBits has_bits (heard_in number e)) a b bits

pub served_back : {C : Type 0} (d : Database C) (hosts : List Host) (a b : List Exchange) → Served d hosts (a ++ b) → Served d hosts b
served_back d [] a b served = served
served_back d (host ∷ hosts) a b served = (All_back (Answers d host) a b served.0, bits_back d.has_bits a b served.1)

pub served_front : {C : Type 0} (d : Database C) (hosts : List Host) (a b : List Exchange) → Served d hosts (a ++ b) → Served d hosts a
served_front d [] a b served = served
served_front d (host ∷ hosts) a b served = (All_front (Answers d host) a b served.0, bits_front d.has_bits a b served.1)

pub served_bits : {C : Type 0} (d : Database C) (hosts : List Host) (made : List Exchange) → Served d hosts made → HaveBits d.has_bits made
served_bits d [] made served = absurd served
served_bits d (host ∷ hosts) made served = served.1

-- a cause stays one behind exchanges that were made before
pub stop_behind : {C : Type 0} (d : Database C) (given more : Type 0) (hosts : List Host) (front made : List Exchange) (why : Stop)
    → (given → HaveBits d.has_bits front → more) → StopCause d more hosts made why → StopCause d given hosts (front ++ made) why
stop_behind d given more hosts front made (Refused why) gives_more (inl owned) = inl owned
stop_behind d given more hosts front made (Refused why) gives_more (inr c) = inr (record {
  call = c.call;
  number = c.number;
  earlier = front ++ c.earlier;
  asked = c.asked;
  later = c.later;
  made_is = ap (λ (es : List Exchange). front ++ es) c.made_is ∙ sym (append_assoc front c.earlier (c.asked ∷ c.later));
  carries = c.carries;
  refused = c.refused;
})
stop_behind d given more hosts front made NoServer gives_more c = record {
  call = c.call;
  number = c.number;
  earlier = front ++ c.earlier;
  asked = c.asked;
  made_is = ap (λ (es : List Exchange). front ++ es) c.made_is ∙ sym (append_assoc front c.earlier c.asked);
  hosts_are = c.hosts_are;
  passed = c.passed;
  fits = λ g bits. c.fits (gives_more g (bits_front d.has_bits front c.earlier bits)) (bits_back d.has_bits front c.earlier bits);
}
stop_behind d given more hosts front made OutcomeUnknown gives_more c = record {
  call = c.call;
  number = c.number;
  earlier = front ++ c.earlier;
  asked = c.asked;
  made_is = ap (λ (es : List Exchange). front ++ es) c.made_is ∙ sym (append_assoc front c.earlier (c.asked ∷ []));
  carries = c.carries;
  unknown = c.unknown;
}
stop_behind d given more hosts front made WriteFault gives_more c = tt
stop_behind d given more hosts front made NoMemory gives_more c = tt

pub end_behind : {C A : Type 0} (d : Database C) (given more : Type 0) (hosts : List Host) (front made : List Exchange) (r : Result A Stop)
    → (given → HaveBits d.has_bits front → more) → EndCause d more hosts made r → EndCause d given hosts (front ++ made) r
end_behind d given more hosts front made (Ok x) gives_more c = tt
end_behind d given more hosts front made (Err why) gives_more c = stop_behind d given more hosts front made why gives_more c

-- nothing was asked
pub sound_still : {C A : Type 0} (d : Database C) (given : Type 0) (Post : A → Type 0) (r : Result A Stop)
    → ((hosts : List Host) → EndCause d given hosts [] r) → EndsWell d.own r → (given → IfOk r Post) → Sound d given Post (still r)
sound_still d given Post r cause well post asker es = record {
  made = [];
  split = refl;
  counts = refl;
  stays = refl;
  cause = λ eq. cause asker.hosts;
  well = λ g eq served. well;
  post = λ g eq bits. post g;
}

pub sound_gives : {C A : Type 0} (d : Database C) (given : Type 0) (Post : A → Type 0) (x : A) → (given → Post x)
    → Sound d given Post (gives x)
sound_gives d given Post x post = sound_still d given Post (Ok x) (λ hosts. tt) tt post

pub sound_says : {C : Type 0} (d : Database C) (given : Type 0) (text : List ℕ) → Sound d given Any (says text)
sound_says d given text asker es = record {
  made = [];
  split = refl;
  counts = refl;
  stays = refl;
  cause = λ eq. tt;
  well = λ g eq served. tt;
  post = λ g eq bits. tt;
}

-- the command's own refusal
pub sound_own : {C A : Type 0} (d : Database C) (given : Type 0) (Post : A → Type 0) (why : Refusal) → why ≡ d.own
    → Sound d given Post (stops (Refused why))
sound_own {A = A} d given Post why owned = sound_still {A = A} d given Post (Err (Refused why)) (λ hosts. inl owned) owned (λ g. tt)

-- what a walk asked, where another one stands behind it
pub both_made : (asks1 asks2 : List Asked) (made1 made2 : List Exchange) → length asks1 ≡ length made1 → asks1
    ++ asks2 ≡ asks_in (made1 ++ made2)
    → (asks1 ≡ asks_in made1) × (asks2 ≡ asks_in made2)
both_made asks1 asks2 made1 made2 len eq =
    let parts : asks1 ++ asks2 ≡ asks_in made1 ++ asks_in made2 = eq ∙ map-append ask_in made1 made2 in
    let same : length asks1 ≡ length (asks_in made1) = len ∙ sym (length-map made1 ask_in) in
    (same_front asks1 asks2 (asks_in made1) (asks_in made2) same parts, same_back asks1 asks2 (asks_in made1) (asks_in made2) same parts)

pub well_stop : (A B : Type 0) (own : Refusal) (why : Stop) → EndsWell {A = A} own (Err why) → EndsWell {A = B} own (Err why)
well_stop A B own (Refused why) well = well
well_stop A B own NoServer well = well
well_stop A B own OutcomeUnknown well = well
well_stop A B own WriteFault well = well
well_stop A B own NoMemory well = well

pub sound_if : {C A : Type 0} (d : Database C) (given : Type 0) (Post : A → Type 0) (b : Bool) (m n : Course A)
    → Sound d given Post m → Sound d given Post n → Sound d given Post (if b then m else n)
sound_if d given Post true m n first second = first
sound_if d given Post false m n first second = second

-- a course behind a test that is met
pub sound_met : {C A : Type 0} (d : Database C) (given : Type 0) (Post : A → Type 0) (b : Bool) (m n : Course A) → b ≡ true
    → Sound d given Post m → Sound d given Post (if b then m else n)
sound_met d given Post true m n is sound = sound
sound_met d given Post false m n is sound = cc

-- What a course did with the exchanges that were to come, whatever its end.
pub record Front {A : Type 0} (asker : Asker) (es made : List Exchange) (w : Walk A) : Type 0 where
  pub split : es ≡ made ++ w.rest
  pub counts : length w.asks ≡ length made
  pub stays : w.asker.hosts ≡ asker.hosts

pub front_of : {C A : Type 0} {d : Database C} {given : Type 0} {Post : A → Type 0} {asker : Asker} {es : List Exchange} {w : Walk A}
    → (went : Went d given Post asker es w) → Front asker es went.made w
front_of went = record { split = went.split; counts = went.counts; stays = went.stays }

-- one behind the other
pub front_behind : {A B : Type 0} (asker : Asker) (es made1 made2 : List Exchange) (w : Walk A) (w2 : Walk B) → Front asker es made1 w
    → Front w.asker w.rest made2 w2
    → Front asker es (made1 ++ made2) (behind w.asks w.text w2)
front_behind asker es made1 made2 w w2 first second = record {
  split = first.split ∙ ap (λ (rest : List Exchange). made1 ++ rest) second.split ∙ sym (append_assoc made1 made2 w2.rest);
  counts = let a : length w.asks ≡ length made1 = first.counts in
      let b : length w2.asks ≡ length made2 = second.counts in
      length-append w.asks w2.asks ∙ ap (λ (n : ℕ). n + length w2.asks) a ∙ ap (λ (n : ℕ). length made1 + n) b
      ∙ sym (length-append made1 made2);
  stays = second.stays ∙ first.stays;
}

-- what is given to a course behind another one
abbrev pub GivenMore : {C A : Type 0} → Database C → Type 0 → List Exchange → Walk A → Type 0
GivenMore d given made w = given × (w.asks ≡ asks_in made) × HaveBits d.has_bits made

-- a course stands behind exchanges that were made before
pub went_behind : {C A B : Type 0} (d : Database C) (given : Type 0) (Post : B → Type 0) (asker : Asker) (es made1 : List Exchange)
    (w : Walk A) (w2 : Walk B)
    → Front asker es made1 w → Went d (GivenMore d given made1 w) Post w.asker w.rest w2
    → Went d given Post asker es (behind w.asks w.text w2)
went_behind d given Post asker es made1 w w2 first second =
    let both = front_behind asker es made1 second.made w w2 first (front_of second) in
    let more : Type 0 = GivenMore d given made1 w in
    record {
      made = made1 ++ second.made;
      split = both.split;
      counts = both.counts;
      stays = both.stays;
      cause = λ eq. let parts = both_made w.asks w2.asks made1 second.made first.counts eq in
          end_behind d given more asker.hosts made1 second.made w2.result (λ g bits. (g, parts.0, bits))
          (subst (λ (hosts : List Host). EndCause d more hosts second.made w2.result) first.stays (second.cause parts.1));
      well = λ g eq served. let parts = both_made w.asks w2.asks made1 second.made first.counts eq in
          second.well (g, parts.0, bits_front d.has_bits made1 second.made (served_bits d asker.hosts (made1 ++ second.made) served))
          parts.1
          (subst (λ (hosts : List Host). Served d hosts second.made) (sym first.stays)
          (served_back d asker.hosts made1 second.made served));
      post = λ g eq bits. let parts = both_made w.asks w2.asks made1 second.made first.counts eq in
          second.post (g, parts.0, bits_front d.has_bits made1 second.made bits) parts.1 (bits_back d.has_bits made1 second.made bits);
    }

ok_post : {A : Type 0} (Post : A → Type 0) (r : Result A Stop) (x : A) → r ≡ Ok x → IfOk r Post → Post x
ok_post {A = A} Post r x is post = subst (λ (s : Result A Stop). IfOk s Post) is post

went_after : {C A B : Type 0} (d : Database C) (given : Type 0) (PostA : A → Type 0) (Post : B → Type 0) (asker : Asker)
    (es : List Exchange) (w : Walk A) (f : A → Course B)
    → ((x : A) → (more : Type 0) → (more → PostA x) → Sound d more Post (f x)) → (first : Went d given PostA asker es w)
    → (r : Result A Stop) → w.result ≡ r
    → Went d given Post asker es (after_result w f r)
went_after d given PostA Post asker es w f sound first (Ok x) is =
    went_behind d given Post asker es first.made w (f x w.asker w.rest) (front_of first)
    (sound x (GivenMore d given first.made w) (λ more. ok_post PostA w.result x is (first.post more.0 more.1 more.2)) w.asker w.rest)
went_after {A = A} {B = B} d given PostA Post asker es w f sound first (Err why) is = record {
  made = first.made;
  split = first.split;
  counts = first.counts;
  stays = first.stays;
  cause = λ eq. subst (λ (r : Result A Stop). EndCause d given asker.hosts first.made r) is (first.cause eq);
  well = λ g eq served. well_stop A B d.own why (subst (λ (r : Result A Stop). EndsWell d.own r) is (first.well g eq served));
  post = λ g eq bits. tt;
}

-- one course after another, which may need what is said of the first one's value
pub sound_with : {C A B : Type 0} (d : Database C) (given : Type 0) (PostA : A → Type 0) (Post : B → Type 0) (m : Course A)
    (f : A → Course B)
    → Sound d given PostA m → ((x : A) → (more : Type 0) → (more → PostA x) → Sound d more Post (f x)) → Sound d given Post (m >>= f)
unfolding ◌>>=◌
sound_with d given PostA Post m f first sound asker es =
    went_after d given PostA Post asker es (m asker es) f sound (first asker es) (m asker es).result refl

-- A course that is sound whatever is given, and of whose value nothing is said.
abbrev pub AlwaysSound : {C A : Type 0} → Database C → Course A → Type 1
AlwaysSound d m = (given : Type 0) → Sound d given Any m

pub always_then : {C A B : Type 0} (d : Database C) (m : Course A) (f : A → Course B) → AlwaysSound d m → ((x : A) → AlwaysSound d (f x))
    → AlwaysSound d (m >>= f)
always_then d m f first next given = sound_with d given Any Any m f (first given) (λ x more any. next x more)
