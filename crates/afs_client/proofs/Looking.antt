-- What came of the hosts that `udebug` asked.
use Rattle.std.proofs.Common.{◌≡◌, ℕ, ◌+◌, ◌⊎◌, Bool, true, false, List, [], ◌∷◌, ◌++◌, length, map, Option, Some, None, Result, Ok, Err, refl, sym, ap, ◌∙◌, subst, inl, inr, arith}
use Rattle.std.specs.Prelude.{◌||◌, is_some}
use Rattle.std.proofs.lemmas.List.{append-nil, length-append, length-map}
use Rattle.ubik_types.specs.declared.hosts.Host.{Host}
use Rattle.io_base.specs.declared.links.Exchange.{Exchange}
use Rattle.ubik_calls.specs.declared.frames.Frame.TheVariants as frame
use Rattle.ubik_calls.specs.declared.replies.DebugIs.{DebugIs}
use Rattle.ubik_calls.specs.WireGrammar.{spelling}
use Rattle.tool_base.specs.Course.{◌>>=◌, Asked, Asker, Walk, ask_in, asks_in, behind, counted, still}
use Rattle.tool_base.specs.Running.{Went}
use Rattle.tool_base.specs.Stops.{status_of}
use Rattle.tool_base.specs.declared.stops.Refusal.{Refusal}
use Rattle.tool_base.specs.declared.stops.Stop.{Stop}
use Rattle.tool_base.specs.declared.stops.Stop.TheVariants.{Refused, NoServer, OutcomeUnknown, WriteFault, NoMemory}
use Rattle.udebug_tool.specs.Looking.{looks, looks_at}
use Rattle.udebug_tool.specs.Seen.{seen_answer}
use Rattle.udebug_tool.specs.Texts.{seen_text}
use Rattle.afs_client.specs.Debugs.{LookExplained, Looked, NoneAnswered, OneAnswered, Shows, debug_asker}
use Rattle.afs_client.specs.declared.requests.DebugRequest.{DebugRequest}
use Rattle.afs_client.proofs.Asked.{first_ask, within}

pub same_length : {X : Type 0} (whole made rest : List X) → whole ≡ made ++ rest → length made ≡ length whole → made ≡ whole
same_length whole made [] split len = sym (append-nil made) ∙ sym split
same_length whole made (x ∷ rest) split len =
    let a : length whole ≡ length (made ++ (x ∷ rest)) = ap length split in
    let b : length (made ++ (x ∷ rest)) ≡ length made + length (x ∷ rest) = length-append made (x ∷ rest) in
    absurd (omega arith)

-- What came of the hosts that were left, where one had answered before or none.
pub record LooksWent (any : Bool) (hosts : List Host) (es : List Exchange) (w : Walk (Unit {0})) : Type 0 where
  pub made : List Exchange
  pub split : es ≡ made ++ w.rest
  pub counts : length w.asks ≡ length made
  pub none : w.asks ≡ asks_in made → w.result ≡ Err NoServer → (any ≡ false) × NoneAnswered hosts made
  pub one : w.asks ≡ asks_in made → w.result ≡ Ok tt → (any ≡ true) ⊎ OneAnswered made
  pub ends : (w.result ≡ Ok tt) ⊎ ((w.result ≡ Err NoServer) ⊎ (w.result ≡ Err NoMemory))

looked_all : (any : Bool) (asker : Asker) (es : List Exchange) → LooksWent any [] es (looks any [] asker es)
looked_all true asker es = record {
  made = [];
  split = refl;
  counts = refl;
  none = λ eq is. cc;
  one = λ eq is. inl refl;
  ends = inl refl;
}
looked_all false asker es = record {
  made = [];
  split = refl;
  counts = refl;
  none = λ eq is. (refl, record { hosts_are = refl; silent = tt });
  one = λ eq is. cc;
  ends = inr (inl refl);
}

neither : (a b : Bool) → (a || b) ≡ false → (a ≡ false) × (b ≡ false)
neither true b is = cc
neither false b is = (refl, is)

either : (a b : Bool) → (a || b) ≡ true → (a ≡ true) ⊎ (b ≡ true)
either true b is = inl refl
either false b is = inr is

-- what one host showed, and those behind it
none_seen : (seen : Option DebugIs) (host : Host) (hosts : List Host) (e : Exchange) (made : List Exchange) → e.host ≡ host → Shows seen e
    → is_some seen ≡ false → NoneAnswered hosts made → NoneAnswered (host ∷ hosts) (e ∷ made)
none_seen (Some is) host hosts e made at shows unseen others = cc
none_seen None host hosts e made at shows unseen others = record {
  hosts_are = ap (λ (h : Host). h ∷ map (λ (x : Exchange). x.host) made) at ∙ ap (λ (hs : List Host). host ∷ hs) others.hosts_are;
  silent = (shows, others.silent);
}

one_seen : (seen : Option DebugIs) (e : Exchange) (made : List Exchange) → Shows seen e → is_some seen ≡ true → OneAnswered (e ∷ made)
one_seen (Some is) e made shows seen =
    record { is = is; earlier = []; asked = e; later = made; made_is = refl; answered = shows }
one_seen None e made shows seen = cc

one_behind : (e : Exchange) (made : List Exchange) → OneAnswered made → OneAnswered (e ∷ made)
one_behind e made one = record {
  is = one.is;
  earlier = e ∷ one.earlier;
  asked = one.asked;
  later = one.later;
  made_is = ap (λ (es : List Exchange). e ∷ es) one.made_is;
  answered = one.answered;
}

one_of : (any : Bool) (seen : Option DebugIs) (e : Exchange) (made : List Exchange) → Shows seen e → ((any || is_some seen) ≡ true)
    ⊎ OneAnswered made
    → (any ≡ true) ⊎ OneAnswered (e ∷ made)
one_of any seen e made shows (inr one) = inr (one_behind e made one)
one_of true seen e made shows (inl is) = inl refl
one_of false seen e made shows (inl is) = inr (one_seen seen e made shows is)

-- the question to a host
abbrev pub question_to : Host → Asker → Asked
question_to host asker = record { host = host; port = asker.port; frame = spelling (frame.Debug (counted asker).number) }

looked_at : (any : Bool) (host : Host) (hosts : List Host) (asker : Asker) (e : Exchange) (es : List Exchange) (seen : Option DebugIs)
    → seen_answer (counted asker).number e.answer e.reply ≡ seen
    → LooksWent (any || is_some seen) hosts es (looks (any || is_some seen) hosts (counted asker) es)
    → LooksWent any (host ∷ hosts) (e ∷ es)
    (behind (question_to host asker ∷ []) [] (behind [] (seen_text host seen) (looks (any || is_some seen) hosts (counted asker) es)))
looked_at any host hosts asker e es seen is others = record {
  made = e ∷ others.made;
  split = ap (λ (rest : List Exchange). e ∷ rest) others.split;
  counts =
      let counts : length (looks (any || is_some seen) hosts (counted asker) es).asks ≡ length others.made = others.counts in omega arith;
  none = λ eq end.
      let first = first_ask host asker.port (spelling (frame.Debug (counted asker).number)) e _ _ eq in
      let rest = others.none first.2 end in
      let both = neither any (is_some seen) rest.0 in (
        both.0,
        none_seen seen host hosts e others.made first.0
            (record { number = (counted asker).number; counted = within (asker.number + 1); frame_is = first.1; seen_is = is }) both.1
            rest.1,
      );
  one = λ eq end.
      let first = first_ask host asker.port (spelling (frame.Debug (counted asker).number)) e _ _ eq in
      one_of any seen e others.made
      (record { number = (counted asker).number; counted = within (asker.number + 1); frame_is = first.1; seen_is = is })
      (others.one first.2 end);
  ends = others.ends;
}

looks_went : (any : Bool) (hosts : List Host) (asker : Asker) (es : List Exchange) → LooksWent any hosts es (looks any hosts asker es)
unfolding ◌>>=◌ looks_at
looks_went any [] asker es = looked_all any asker es
looks_went any (host ∷ hosts) asker [] = record {
  made = [];
  split = refl;
  counts = refl;
  none = λ eq is. cc;
  one = λ eq is. cc;
  ends = inr (inr refl);
}
looks_went any (host ∷ hosts) asker (e ∷ es) =
    let seen : Option DebugIs = seen_answer (counted asker).number e.answer e.reply in
    looked_at any host hosts asker e es seen refl (looks_went (any || is_some seen) hosts (counted asker) es)

-- where the hosts were asked over exactly these exchanges
record LookSettled (hosts : List Host) (made : List Exchange) (end : Result (Unit {0}) Stop) : Type 0 where
  none : end ≡ Err NoServer → NoneAnswered hosts made
  one : end ≡ Ok tt → OneAnswered made

not_before : {X : Type 0} → (false ≡ true) ⊎ X → X
not_before (inl before) = cc
not_before (inr x) = x

look_settled : (hosts : List Host) (asker now : Asker) (made : List Exchange) (said : List ℕ) (end : Result (Unit {0}) Stop)
    → looks false hosts asker (made ++ []) ≡ behind (asks_in made) said (still end now [])
    → LookSettled hosts made end
look_settled hosts asker now made said end leads =
    let w : Walk (Unit {0}) = looks false hosts asker (made ++ []) in
    let went : LooksWent false hosts (made ++ []) w = looks_went false hosts asker (made ++ []) in
    let asks : w.asks ≡ asks_in made = ap (λ (v : Walk (Unit {0})). v.asks) leads ∙ append-nil (asks_in made) in
    let result : w.result ≡ end = ap (λ (v : Walk (Unit {0})). v.result) leads in
    let counts : length went.made ≡ length made = sym went.counts ∙ ap length asks ∙ length-map made ask_in in
    let whole : went.made ≡ made = same_length made went.made w.rest (sym (append-nil made) ∙ went.split) counts in
    let taken : w.asks ≡ asks_in went.made = asks ∙ ap asks_in (sym whole) in
    record {
      none = λ is. subst (λ (es : List Exchange). NoneAnswered hosts es) whole (went.none taken (result ∙ is)).1;
      one = λ is. subst (λ (es : List Exchange). OneAnswered es) whole (not_before (went.one taken (result ∙ is)));
    }

abbrev ended : Stop → Result (Unit {0}) Stop
ended why = Err why

err_same : (a b : Stop) → ended a ≡ ended b → a ≡ b
err_same a b is = cc

-- the end of the course is none that a call has
one_of_both : (r : Result (Unit {0}) Stop) (why : Stop) → r ≡ Err why → (r ≡ Ok tt) ⊎ ((r ≡ Err NoServer) ⊎ (r ≡ Err NoMemory))
    → (why ≡ NoServer) ⊎ (why ≡ NoMemory)
one_of_both r why is (inl ok) = cc
one_of_both r why is (inr (inl none)) = inl (err_same why NoServer (sym is ∙ none))
one_of_both r why is (inr (inr short)) = inr (err_same why NoMemory (sym is ∙ short))

not_refused : (stop : Stop) (why : Refusal) → stop ≡ Refused why → (stop ≡ NoServer) ⊎ (stop ≡ NoMemory) → ⊥
not_refused stop why is (inl none) = cc
not_refused stop why is (inr short) = cc

not_unknown : (stop : Stop) → stop ≡ OutcomeUnknown → (stop ≡ NoServer) ⊎ (stop ≡ NoMemory) → ⊥
not_unknown stop is (inl none) = cc
not_unknown stop is (inr short) = cc

no_other : (hosts : List Host) (asker now : Asker) (made : List Exchange) (said : List ℕ) (why : Stop)
    → looks false hosts asker (made ++ []) ≡ behind (asks_in made) said (still (Err why) now [])
    → (why ≡ NoServer) ⊎ (why ≡ NoMemory)
no_other hosts asker now made said why leads =
    let w : Walk (Unit {0}) = looks false hosts asker (made ++ []) in
    let result : w.result ≡ Err why = ap (λ (v : Walk (Unit {0})). v.result) leads in
    one_of_both w.result why result (looks_went false hosts asker (made ++ [])).ends

explain_look : (hosts : List Host) (asker now : Asker) (before after : List Exchange) (status : ℕ) (said : List ℕ)
    (end : Result (Unit {0}) Stop)
    → status ≡ status_of end → Went end (looks false hosts) asker before said now after → LookExplained hosts before after status
explain_look hosts asker now before after status said (Ok x) is led = record {
  made = led.made;
  grown = led.grown;
  no_server = λ three. absurd (omega arith);
  done = λ none. (look_settled hosts asker now led.made said (Ok tt) (led.leads [])).one refl;
  ends = inl is;
}
explain_look hosts asker now before after status said (Err (Refused why)) is led =
    absurd (not_refused (Refused why) why refl (no_other hosts asker now led.made said (Refused why) (led.leads [])))
explain_look hosts asker now before after status said (Err NoServer) is led = record {
  made = led.made;
  grown = led.grown;
  no_server = λ three. (look_settled hosts asker now led.made said (Err NoServer) (led.leads [])).none refl;
  done = λ none. absurd (omega arith);
  ends = inr (inl is);
}
explain_look hosts asker now before after status said (Err OutcomeUnknown) is led =
    absurd (not_unknown OutcomeUnknown refl (no_other hosts asker now led.made said OutcomeUnknown (led.leads [])))
explain_look hosts asker now before after status said (Err WriteFault) is broke = record {
  made = broke.made;
  grown = broke.grown;
  no_server = λ three. absurd (omega arith);
  done = λ none. absurd (omega arith);
  ends = inr (inr (inl is));
}
explain_look hosts asker now before after status said (Err NoMemory) is broke = record {
  made = broke.made;
  grown = broke.grown;
  no_server = λ three. absurd (omega arith);
  done = λ none. absurd (omega arith);
  ends = inr (inr (inr is));
}

-- what the status of `udebug` says of its exchanges
pub look_explained : (request : DebugRequest) (before after : List Exchange) (status : ℕ) (out out1 : Option (List ℕ))
    → Looked request before after status out out1 → LookExplained request.hosts before after status
look_explained request before after status out out1 done =
    explain_look request.hosts
    (debug_asker request) done.told.now before after status done.told.ran.said done.end done.status_is done.told.ran.went
