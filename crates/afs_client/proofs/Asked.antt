-- A call that is asked of the hosts.
use Rattle.std.proofs.Common.{◌≡◌, ℕ, ◌+◌, ◌%◌, ◌^◌, ◌<◌, Bool, true, false, List, [], ◌∷◌, ◌++◌, length, map, Option, Some, None, Result, Ok, Err, refl, sym, ap, ◌∙◌, subst, inr, arith}
use Rattle.std.specs.Prelude.{not, is_some, IfOk}
use Rattle.std.specs.List.{AllByRecursion}
use Rattle.ubik_types.specs.declared.hosts.Host.{Host}
use Rattle.io_base.specs.declared.links.Exchange.{Exchange}
use Rattle.tool_base.specs.Asking.{ask_frame, asks_call, asks_hosts, hears, or_next}
use Rattle.tool_base.specs.Course.{◌>>=◌, Asked, Asker, Walk, after_result, ask_in, asks_in, behind, counted, gives, still}
use Rattle.tool_base.specs.Hearing.{after_silence, heard_in, taken, verdict}
use Rattle.tool_base.specs.declared.hearing.Heard.{Heard}
use Rattle.tool_base.specs.declared.hearing.Heard.TheVariants.{Answer, Refusal as Refuses, Elsewhere, Silence}
use Rattle.tool_base.specs.declared.stops.Refusal.{Refusal}
use Rattle.tool_base.specs.declared.stops.Stop.{Stop}
use Rattle.tool_base.specs.declared.stops.Stop.TheVariants.{Refused, NoServer, OutcomeUnknown, WriteFault, NoMemory}
use Rattle.afs_client.specs.Causes.{Answers, Carries, HasBits, HaveBits, IsAnswer, PassesOn, Served, goes_on, is_unknown}
use Rattle.afs_client.specs.Questions.{Database, Question}
use Rattle.afs_client.proofs.Sounding.{EndCause, EndsWell, Sound}
use Rattle.afs_client.proofs.Words.{first_same, others_same}

-- An answer that was read.
pub record WasRead {A : Type 0} (read : List ℕ → Option A) (heard : Heard) (x : A) : Type 0 where
  pub bytes : List ℕ
  pub heard_is : heard ≡ Answer bytes
  pub read_is : read bytes ≡ Some x

-- What a host gave, and what followed: the cause of each.
abbrev pub Follows : {A : Type 0} → Question → (List ℕ → Option A) → Heard → Result (Option A) Stop → Type 0
Follows q read heard (Ok (Some x)) = WasRead read heard x
Follows q read heard (Ok None) = goes_on q heard ≡ true
Follows q read heard (Err (Refused why)) = heard ≡ Refuses why
Follows q read heard (Err NoServer) = ⊥
Follows q read heard (Err OutcomeUnknown) = is_unknown q heard ≡ true
Follows q read heard (Err WriteFault) = ⊥
Follows q read heard (Err NoMemory) = ⊥

follows_silence : {A : Type 0} (q : Question) (writes : Bool) (read : List ℕ → Option A) → q.writes ≡ writes
    → Follows q read Silence (after_silence {A = A} writes)
follows_silence q true read is = is
follows_silence q false read is = ap not is

follows_taken : {A : Type 0} (q : Question) (writes : Bool) (read : List ℕ → Option A) (bytes : List ℕ) (found : Option A)
    → q.writes ≡ writes
    → q.is_answer bytes ≡ is_some found → read bytes ≡ found → Follows q read (Answer bytes) (taken writes found)
follows_taken q writes read bytes (Some x) is answers same = record { bytes = bytes; heard_is = refl; read_is = same }
follows_taken q true read bytes None is answers same = grind arith
follows_taken q false read bytes None is answers same = grind arith

-- how answers are read fits the call
pub record Reads {A : Type 0} (q : Question) (writes : Bool) (read : List ℕ → Option A) : Type 0 where
  pub writes_is : q.writes ≡ writes
  pub read_is : (bytes : List ℕ) → q.is_answer bytes ≡ is_some (read bytes)

follows : {A : Type 0} (q : Question) (writes : Bool) (read : List ℕ → Option A) → Reads q writes read → (heard : Heard)
    → Follows q read heard (verdict writes read heard)
follows q writes read reads (Answer bytes) = follows_taken q writes read bytes (read bytes) reads.writes_is (reads.read_is bytes) refl
follows q writes read reads (Refuses why) = refl
follows q writes read reads Elsewhere = refl
follows q writes read reads Silence = follows_silence q writes read reads.writes_is

-- The last exchange carried the call, and it was refused so, or nothing is known of it.
pub record RefusedLast (q : Question) (number : ℕ) (why : Refusal) (made : List Exchange) : Type 0 where
  pub earlier : List Exchange
  pub asked : Exchange
  pub made_is : made ≡ earlier ++ asked ∷ []
  pub carries : Carries q number asked
  pub refused : heard_in number asked ≡ Refuses why

pub record UnknownLast (q : Question) (number : ℕ) (made : List Exchange) : Type 0 where
  pub earlier : List Exchange
  pub asked : Exchange
  pub made_is : made ≡ earlier ++ asked ∷ []
  pub carries : Carries q number asked
  pub unknown : is_unknown q (heard_in number asked) ≡ true

-- What came of the hosts that were left: the cause of the end in the exchanges with them.
abbrev pub HostsCause : {A : Type 0} → Question → ℕ → List Host → List Exchange → Result A Stop → Type 0
HostsCause q number hosts made (Ok x) = Unit {0}
HostsCause q number hosts made (Err (Refused why)) = RefusedLast q number why made
HostsCause q number hosts made (Err NoServer) = (map (λ (e : Exchange). e.host) made ≡ hosts) × AllByRecursion (PassesOn q number) made
HostsCause q number hosts made (Err OutcomeUnknown) = UnknownLast q number made
HostsCause q number hosts made (Err WriteFault) = Unit {0}
HostsCause q number hosts made (Err NoMemory) = Unit {0}

-- the first of the hosts that are left answers
abbrev pub FirstAnswers : Question → ℕ → List Host → List Exchange → Type 0
FirstAnswers q number [] made = ⊥
FirstAnswers q number (host ∷ hosts) made =
    AllByRecursion (λ (e : Exchange). e.host ≡ host → Carries q number e → IsAnswer q (heard_in number e)) made

-- the call was answered, or memory ran out
abbrev pub IsSettled : {A : Type 0} → Result A Stop → Type 0
IsSettled (Ok x) = Unit {0}
IsSettled (Err (Refused why)) = ⊥
IsSettled (Err NoServer) = ⊥
IsSettled (Err OutcomeUnknown) = ⊥
IsSettled (Err WriteFault) = ⊥
IsSettled (Err NoMemory) = Unit {0}

-- A value was read from an answer whose ids have their bits.
pub record Taken {A : Type 0} (has_bits : List ℕ → Bool) (read : List ℕ → Option A) (x : A) : Type 0 where
  pub bytes : List ℕ
  pub read_is : read bytes ≡ Some x
  pub bits : has_bits bytes ≡ true

pub record HostsWent {A : Type 0} (has_bits : List ℕ → Bool) (q : Question) (read : List ℕ → Option A) (hosts : List Host) (asker : Asker)
    (es : List Exchange) (w : Walk A) : Type 0 where
  pub made : List Exchange
  pub split : es ≡ made ++ w.rest
  pub counts : length w.asks ≡ length made
  pub stays : w.asker ≡ asker
  pub cause : w.asks ≡ asks_in made → HostsCause q asker.number hosts made w.result
  pub well : w.asks ≡ asks_in made → FirstAnswers q asker.number hosts made → IsSettled w.result
  pub post : HaveBits has_bits made → IfOk w.result (Taken has_bits read)

-- a host that passes a call on stands before those behind it
cause_on : {A : Type 0} (q : Question) (number : ℕ) (host : Host) (hosts : List Host) (e : Exchange) (made : List Exchange)
    (r : Result A Stop)
    → e.host ≡ host → PassesOn q number e → HostsCause q number hosts made r → HostsCause q number (host ∷ hosts) (e ∷ made) r
cause_on q number host hosts e made (Ok x) at passes c = tt
cause_on q number host hosts e made (Err (Refused why)) at passes c = record {
  earlier = e ∷ c.earlier;
  asked = c.asked;
  made_is = ap (λ (es : List Exchange). e ∷ es) c.made_is;
  carries = c.carries;
  refused = c.refused;
}
cause_on q number host hosts e made (Err NoServer) at passes c =
    (ap (λ (h : Host). h ∷ map (λ (x : Exchange). x.host) made) at ∙ ap (λ (hs : List Host). host ∷ hs) c.0, (passes, c.1))
cause_on q number host hosts e made (Err OutcomeUnknown) at passes c = record {
  earlier = e ∷ c.earlier;
  asked = c.asked;
  made_is = ap (λ (es : List Exchange). e ∷ es) c.made_is;
  carries = c.carries;
  unknown = c.unknown;
}
cause_on q number host hosts e made (Err WriteFault) at passes c = tt
cause_on q number host hosts e made (Err NoMemory) at passes c = tt

-- an answer neither passes a call on nor leaves it unknown
answers_here : (q : Question) (heard : Heard) → IsAnswer q heard → goes_on q heard ≡ true → ⊥
answers_here q (Answer bytes) answers passes = grind arith
answers_here q (Refuses why) answers passes = answers
answers_here q Elsewhere answers passes = answers
answers_here q Silence answers passes = answers

is_known : (q : Question) (heard : Heard) → IsAnswer q heard → is_unknown q heard ≡ true → ⊥
is_known q (Answer bytes) answers unknown = grind arith
is_known q (Refuses why) answers unknown = answers
is_known q Elsewhere answers unknown = answers
is_known q Silence answers unknown = answers

not_refused : (q : Question) (heard : Heard) (why : Refusal) → IsAnswer q heard → heard ≡ Refuses why → ⊥
not_refused q (Answer bytes) why answers is = cc
not_refused q (Refuses other) why answers is = answers
not_refused q Elsewhere why answers is = answers
not_refused q Silence why answers is = answers

-- what follows where a host was asked
abbrev pub next_walk : {A : Type 0} → Bool → (List ℕ → Option A) → List ℕ → List Host → Asker → List Exchange → Result (Option A) Stop
    → Walk A
next_walk writes read frame hosts asker es v =
    after_result (still v asker es) (λ found. or_next found (asks_hosts writes read frame hosts)) v

stop_cause : {A : Type 0} (q : Question) (read : List ℕ → Option A) (number : ℕ) (hosts : List Host) (e : Exchange) (why : Stop)
    → Carries q number e
    → Follows q read (heard_in number e) (Err why) → HostsCause {A = A} q number hosts (e ∷ []) (Err why)
stop_cause q read number hosts e (Refused why) carries is =
    record { earlier = []; asked = e; made_is = refl; carries = carries; refused = is }
stop_cause q read number hosts e NoServer carries is = absurd is
stop_cause q read number hosts e OutcomeUnknown carries is =
    record { earlier = []; asked = e; made_is = refl; carries = carries; unknown = is }
stop_cause q read number hosts e WriteFault carries is = tt
stop_cause q read number hosts e NoMemory carries is = tt

stop_well : {A : Type 0} (q : Question) (read : List ℕ → Option A) (heard : Heard) (why : Stop) → IsAnswer q heard
    → Follows q read heard (Err why)
    → IsSettled {A = A} (Err why)
stop_well q read heard (Refused why) answers is = not_refused q heard why answers is
stop_well q read heard NoServer answers is = is
stop_well q read heard OutcomeUnknown answers is = is_known q heard answers is
stop_well q read heard WriteFault answers is = is
stop_well q read heard NoMemory answers is = tt

-- where the first ask is that of the first exchange
pub first_ask : (host : Host) (port : ℕ) (frame : List ℕ) (e : Exchange) (asks others : List Asked)
    → (record { host = host; port = port; frame = frame }) ∷ asks ≡ ask_in e ∷ others → (e.host ≡ host) × (e.frame ≡ frame)
    × (asks ≡ others)
first_ask host port frame e asks others eq =
    let asked : Asked = record { host = host; port = port; frame = frame } in
    let of_e : Asked = record { host = e.host; port = e.port; frame = e.frame } in
    let same : asked ∷ asks ≡ of_e ∷ others = eq in
    let head : asked ≡ of_e = first_same asked of_e asks others same in
    (sym (ap (λ (a : Asked). a.host) head), sym (ap (λ (a : Asked). a.frame) head), others_same asked of_e asks others same)

bits_of : (has_bits : List ℕ → Bool) (heard : Heard) (bytes : List ℕ) → heard ≡ Answer bytes → HasBits has_bits heard
    → has_bits bytes ≡ true
bits_of has_bits heard bytes is bits = subst (λ (h : Heard). HasBits has_bits h) is bits

pub within : (n : ℕ) → n % 2 ^ 32 < 2 ^ 32
within n = omega arith

hosts_step : {A : Type 0} (has_bits : List ℕ → Bool) (q : Question) (writes : Bool) (read : List ℕ → Option A) (host : Host)
    (hosts : List Host)
    (asker : Asker) (e : Exchange) (es : List Exchange) (v : Result (Option A) Stop) → asker.number < 2 ^ 32
    → Follows q read (heard_in asker.number e) v
    → HostsWent has_bits q read hosts asker es (asks_hosts writes read (ask_frame asker.number q.bytes) hosts asker es)
    → HostsWent has_bits q read (host ∷ hosts) asker (e ∷ es)
    (behind ((record { host = host; port = asker.port; frame = ask_frame asker.number q.bytes }) ∷ []) []
    (next_walk writes read (ask_frame asker.number q.bytes) hosts asker es v))
hosts_step has_bits q writes read host hosts asker e es (Ok (Some x)) few follows others = record {
  made = e ∷ [];
  split = refl;
  counts = refl;
  stays = refl;
  cause = λ eq. tt;
  well = λ eq first. tt;
  post = λ bits. record {
    bytes = follows.bytes;
    read_is = follows.read_is;
    bits = bits_of has_bits (heard_in asker.number e) follows.bytes follows.heard_is (bits.0 asker.number);
  };
}
hosts_step has_bits q writes read host hosts asker e es (Ok None) few follows others =
    let frame : List ℕ = ask_frame asker.number q.bytes in
    record {
      made = e ∷ others.made;
      split = ap (λ (rest : List Exchange). e ∷ rest) others.split;
      counts = let counts : length (asks_hosts writes read frame hosts asker es).asks ≡ length others.made = others.counts in omega arith;
      stays = others.stays;
      cause = λ eq. let first = first_ask host asker.port frame e _ _ eq in
          cause_on q asker.number host hosts e others.made (asks_hosts writes read frame hosts asker es).result first.0
          (record { carries = record { counted = few; frame_is = first.1 }; passes = follows }) (others.cause first.2);
      well = λ eq first. let here = first_ask host asker.port frame e _ _ eq in
          absurd (answers_here q (heard_in asker.number e) (first.0 here.0 (record { counted = few; frame_is = here.1 })) follows);
      post = λ bits. others.post bits.1;
    }
hosts_step has_bits q writes read host hosts asker e es (Err why) few follows others =
    let frame : List ℕ = ask_frame asker.number q.bytes in
    record {
      made = e ∷ [];
      split = refl;
      counts = refl;
      stays = refl;
      cause = λ eq. stop_cause q read asker.number (host ∷ hosts) e why
          (record { counted = few; frame_is = (first_ask host asker.port frame e _ _ eq).1 }) follows;
      well = λ eq first. let here = first_ask host asker.port frame e _ _ eq in
          stop_well q read (heard_in asker.number e) why (first.0 here.0 (record { counted = few; frame_is = here.1 })) follows;
      post = λ bits. tt;
    }

hosts_went : {A : Type 0} (has_bits : List ℕ → Bool) (q : Question) (writes : Bool) (read : List ℕ → Option A) → Reads q writes read
    → (hosts : List Host)
    (asker : Asker) (es : List Exchange) → asker.number < 2 ^ 32
    → HostsWent has_bits q read hosts asker es (asks_hosts writes read (ask_frame asker.number q.bytes) hosts asker es)
unfolding ◌>>=◌ hears
hosts_went has_bits q writes read reads [] asker es few = record {
  made = [];
  split = refl;
  counts = refl;
  stays = refl;
  cause = λ eq. (refl, tt);
  well = λ eq first. absurd first;
  post = λ bits. tt;
}
hosts_went has_bits q writes read reads (host ∷ hosts) asker [] few = record {
  made = [];
  split = refl;
  counts = refl;
  stays = refl;
  cause = λ eq. tt;
  well = λ eq first. tt;
  post = λ bits. tt;
}
hosts_went has_bits q writes read reads (host ∷ hosts) asker (e ∷ es) few =
    hosts_step has_bits q writes read host hosts asker e es (verdict writes read (heard_in asker.number e)) few
    (follows q writes read reads (heard_in asker.number e)) (hosts_went has_bits q writes read reads hosts asker es few)

end_cause : {C A : Type 0} (d : Database C) (given : Type 0) (call : C) (number : ℕ) (hosts : List Host) (made : List Exchange)
    (r : Result A Stop)
    → (given → (d.question call).fits ≡ true) → HostsCause (d.question call) number hosts made r → EndCause d given hosts made r
end_cause d given call number hosts made (Ok x) fits c = tt
end_cause d given call number hosts made (Err (Refused why)) fits c = inr (record {
  call = call;
  number = number;
  earlier = c.earlier;
  asked = c.asked;
  later = [];
  made_is = c.made_is;
  carries = c.carries;
  refused = c.refused;
})
end_cause d given call number hosts made (Err NoServer) fits c = record {
  call = call;
  number = number;
  earlier = [];
  asked = made;
  made_is = refl;
  hosts_are = c.0;
  passed = c.1;
  fits = λ g bits. fits g;
}
end_cause d given call number hosts made (Err OutcomeUnknown) fits c = record {
  call = call;
  number = number;
  earlier = c.earlier;
  asked = c.asked;
  made_is = c.made_is;
  carries = c.carries;
  unknown = c.unknown;
}
end_cause d given call number hosts made (Err WriteFault) fits c = tt
end_cause d given call number hosts made (Err NoMemory) fits c = tt

ends_well : {A : Type 0} (own : Refusal) (r : Result A Stop) → IsSettled r → EndsWell own r
ends_well own (Ok x) settled = tt
ends_well own (Err (Refused why)) settled = absurd settled
ends_well own (Err NoServer) settled = settled
ends_well own (Err OutcomeUnknown) settled = settled
ends_well own (Err WriteFault) settled = settled
ends_well own (Err NoMemory) settled = settled

All_as : {X : Type 0} (P Q : X → Type 0) → ((x : X) → P x → Q x) → (xs : List X) → AllByRecursion P xs → AllByRecursion Q xs
All_as P Q gives [] all = tt
All_as P Q gives (x ∷ xs) all = (gives x all.0, All_as P Q gives xs all.1)

first_answers : {C : Type 0} (d : Database C) (call : C) (number : ℕ) (hosts : List Host) (made : List Exchange)
    → (d.question call).fits ≡ true
    → Served d hosts made → FirstAnswers (d.question call) number hosts made
first_answers d call number [] made fits served = served
first_answers d call number (host ∷ hosts) made fits served =
    All_as (Answers d host)
    (λ (e : Exchange). e.host ≡ host → Carries (d.question call) number e → IsAnswer (d.question call) (heard_in number e))
    (λ e answers at carries. answers at call number carries fits) made served.0

post_as : {A : Type 0} (P Q : A → Type 0) (r : Result A Stop) → ((x : A) → P x → Q x) → IfOk r P → IfOk r Q
post_as P Q (Ok x) turns post = turns x post
post_as P Q (Err why) turns post = tt

-- a call of the command
pub sound_call : {C A : Type 0} (d : Database C) (given : Type 0) (Post : A → Type 0) (call : C) (writes : Bool) (read : List ℕ → Option A)
    → Reads (d.question call) writes read → (given → (d.question call).fits ≡ true) → ((x : A) → Taken d.has_bits read x → Post x)
    → Sound d given Post (asks_call writes read (d.question call).bytes)
unfolding asks_call
sound_call d given Post call writes read reads fits post asker es =
    let q : Question = d.question call in
    let went = hosts_went d.has_bits q writes read reads asker.hosts (counted asker) es (within (asker.number + 1)) in
    record {
      made = went.made;
      split = went.split;
      counts = went.counts;
      stays = ap (λ (a : Asker). a.hosts) went.stays;
      cause = λ eq. end_cause d given call (counted asker).number asker.hosts went.made _ fits (went.cause eq);
      well =
          λ g eq served. ends_well d.own _
          (went.well eq (first_answers d call (counted asker).number asker.hosts went.made (fits g) served));
      post = λ g eq bits. post_as (Taken d.has_bits read) Post _ post (went.post bits);
    }
