-- Courses under way: how one goes on after another.
use Rattle.std.proofs.Common.{◌≡◌, ℕ, List, [], ◌++◌, Result, Ok, Err, refl, sym, ap, ◌∙◌, subst, append_assoc}
use Rattle.std.specs.Prelude.{◌≢◌, IsErrAnd}
use Rattle.std.proofs.lemmas.List.{append-nil, map-append}
use Rattle.io_base.specs.declared.links.Exchange.{Exchange}
use Rattle.tool_base.specs.Course.{◌>>=◌, Asked, Asker, Course, Walk, after_result, ask_in, asks_in, behind, gives, still, stops}
use Rattle.tool_base.specs.Running.{Broke, EndsSo, Fronts, IsQuiet, Led, Ran, Went}
use Rattle.tool_base.specs.declared.stops.Stop.{Stop}
use Rattle.tool_base.specs.declared.stops.Stop.TheVariants.{Refused, NoServer, OutcomeUnknown, WriteFault, NoMemory}

pub asks_in_both : (a b : List Exchange) → asks_in (a ++ b) ≡ asks_in a ++ asks_in b
asks_in_both a b = map-append ask_in a b

behind_behind : {A : Type 0} (a b : List Asked) (s t : List ℕ) (w : Walk A) → behind a s (behind b t w) ≡ behind (a ++ b) (s ++ t) w
behind_behind a b s t w = simp append_assoc

after_behind : {A B : Type 0} (a : List Asked) (s : List ℕ) (w : Walk A) (f : A → Course B) (r : Result A Stop)
    → after_result (behind a s w) f r ≡ behind a s (after_result w f r)
after_behind a s w f (Ok x) = simp append_assoc
after_behind a s w f (Err why) = refl

-- nothing was made yet
pub led_start : {A : Type 0} (m : Course A) (s : Asker) (e : List Exchange) → Led m s e [] m s e
led_start m s e = record { made = []; grown = sym (append-nil e); leads = λ rest. refl }

-- another course that does the same
pub led_as : {A : Type 0} {m n : Course A} {s s1 : Asker} {e e1 : List Exchange} {t : List ℕ} (p : Course A)
    → ((asker : Asker) (rest : List Exchange) → n asker rest ≡ p asker rest) → Led m s e t n s1 e1 → Led m s e t p s1 e1
led_as {s1 = s1} {t = t} p same led =
    record { made = led.made; grown = led.grown; leads = λ rest. led.leads rest ∙ ap (behind (asks_in led.made) t) (same s1 rest) }

pub as_led : {A : Type 0} {m n : Course A} {s s1 : Asker} {e e1 : List Exchange} {t : List ℕ} (p : Course A)
    → ((asker : Asker) (rest : List Exchange) → p asker rest ≡ m asker rest) → Led m s e t n s1 e1 → Led p s e t n s1 e1
as_led {s = s} p same led =
    record { made = led.made; grown = led.grown; leads = λ rest. same s (led.made ++ rest) ∙ led.leads rest }

behind_said : {A : Type 0} (a b : List Exchange) (s t : List ℕ) (w : Walk A) →
    behind (asks_in a) s (behind (asks_in b) t w) ≡ behind (asks_in (a ++ b)) (s ++ t) w
behind_said a b s t w =
    behind_behind (asks_in a) (asks_in b) s t w ∙ ap (λ (asks : List Asked). behind asks (s ++ t) w) (sym (asks_in_both a b))

grown_both : (e e1 e2 a b : List Exchange) → e1 ≡ e ++ a → e2 ≡ e1 ++ b → e2 ≡ e ++ (a ++ b)
grown_both e e1 e2 a b first second = second ∙ ap (λ (es : List Exchange). es ++ b) first ∙ append_assoc e a b

-- what is left of a course goes on
pub led_on : {A : Type 0} {m n p : Course A} {s s1 s2 : Asker} {e e1 e2 : List Exchange} {t u : List ℕ}
    → Led m s e t n s1 e1 → Led n s1 e1 u p s2 e2 → Led m s e (t ++ u) p s2 e2
led_on {m = m} {n = n} {p = p} {s = s} {s1 = s1} {s2 = s2} {e = e} {e1 = e1} {e2 = e2} {t = t} {u = u} first second = record {
  made = first.made ++ second.made;
  grown = grown_both e e1 e2 first.made second.made first.grown second.grown;
  leads = λ rest. ap (m s) (append_assoc first.made second.made rest)
      ∙ first.leads (second.made ++ rest)
      ∙ ap (behind (asks_in first.made) t) (second.leads rest)
      ∙ behind_said first.made second.made t u (p s2 rest);
}

-- the rest of a course stays behind it
pub led_then : {A B : Type 0} {m n : Course A} {s s1 : Asker} {e e1 : List Exchange} {t : List ℕ} (f : A → Course B)
    → Led m s e t n s1 e1 → Led (m >>= f) s e t (n >>= f) s1 e1
unfolding ◌>>=◌
led_then {n = n} {s1 = s1} {t = t} f led = record {
  made = led.made;
  grown = led.grown;
  leads = λ rest. ap (λ w. after_result w f w.result) (led.leads rest)
      ∙ after_behind (asks_in led.made) t (n s1 rest) f (n s1 rest).result;
}

gives_then : {A B : Type 0} (x : A) (f : A → Course B) (asker : Asker) (rest : List Exchange) → (gives x >>= f) asker rest ≡ f x asker rest
unfolding ◌>>=◌
gives_then x f asker rest = refl

stops_then : {A B : Type 0} (why : Stop) (f : A → Course B) (asker : Asker) (rest : List Exchange)
    → (stops {A = A} why >>= f) asker rest ≡ stops why asker rest
unfolding ◌>>=◌
stops_then why f asker rest = refl

fronts_behind : {A : Type 0} (a : List Exchange) (s : List ℕ) (b : List Exchange) (t : List ℕ) (w : Walk A) → Fronts (asks_in b) t w
    → Fronts (asks_in (a ++ b)) (s ++ t) (behind (asks_in a) s w)
fronts_behind a s b t w fronts = record {
  more_asks = fronts.more_asks;
  more_text = fronts.more_text;
  asks_are = ap (λ (asks : List Asked). asks_in a ++ asks) fronts.asks_are ∙ sym (append_assoc (asks_in a) (asks_in b) fronts.more_asks)
      ∙ ap (λ (asks : List Asked). asks ++ fronts.more_asks) (sym (asks_in_both a b));
  text_is = ap (λ (text : List ℕ). s ++ text) fronts.text_is ∙ sym (append_assoc s t fronts.more_text);
}

-- a course that was left on its way, after it had gone on
pub broke_on : {A : Type 0} {m n : Course A} {s s1 : Asker} {e e1 e2 : List Exchange} {t u : List ℕ}
    → Led m s e t n s1 e1 → Broke n s1 e1 u e2 → Broke m s e (t ++ u) e2
broke_on {A = A} {m = m} {n = n} {s = s} {s1 = s1} {e = e} {e1 = e1} {e2 = e2} {t = t} {u = u} first second = record {
  made = first.made ++ second.made;
  grown = grown_both e e1 e2 first.made second.made first.grown second.grown;
  fronts = λ rest.
      let walk : m s ((first.made ++ second.made) ++ rest) ≡ behind (asks_in first.made) t (n s1 (second.made ++ rest))
      = ap (m s) (append_assoc first.made second.made rest) ∙ first.leads (second.made ++ rest) in
      subst (λ (w : Walk A). Fronts (asks_in (first.made ++ second.made)) (t ++ u) w) (sym walk)
      (fronts_behind first.made t second.made u (n s1 (second.made ++ rest)) (second.fronts rest));
}

fronts_then : {A B : Type 0} (asks : List Asked) (s : List ℕ) (w : Walk A) (f : A → Course B) (r : Result A Stop) → Fronts asks s w
    → Fronts asks s (after_result w f r)
fronts_then asks s w f (Ok x) fronts = record {
  more_asks = fronts.more_asks ++ (f x w.asker w.rest).asks;
  more_text = fronts.more_text ++ (f x w.asker w.rest).text;
  asks_are =
      ap (λ (a : List Asked). a ++ (f x w.asker w.rest).asks) fronts.asks_are
      ∙ append_assoc asks fronts.more_asks (f x w.asker w.rest).asks;
  text_is = ap (λ (t : List ℕ). t ++ (f x w.asker w.rest).text) fronts.text_is ∙ append_assoc s fronts.more_text (f x w.asker w.rest).text;
}
fronts_then asks s w f (Err why) fronts =
    record { more_asks = fronts.more_asks; more_text = fronts.more_text; asks_are = fronts.asks_are; text_is = fronts.text_is }

broke_then : {A B : Type 0} {m : Course A} {s : Asker} {e e1 : List Exchange} {t : List ℕ} (f : A → Course B) → Broke m s e t e1
    → Broke (m >>= f) s e t e1
unfolding ◌>>=◌
broke_then {m = m} {s = s} {t = t} f broke = record {
  made = broke.made;
  grown = broke.grown;
  fronts = λ rest. fronts_then (asks_in broke.made) t (m s (broke.made ++ rest)) f (m s (broke.made ++ rest)).result (broke.fronts rest);
}

pub broke_start : {A : Type 0} (m : Course A) (s : Asker) (e : List Exchange) → Broke m s e [] e
broke_start m s e = record {
  made = [];
  grown = sym (append-nil e);
  fronts = λ rest. record { more_asks = (m s rest).asks; more_text = (m s rest).text; asks_are = refl; text_is = refl };
}

-- how the rest of a course ends is how the course ends
pub led_went : {A : Type 0} {m n : Course A} {s s1 : Asker} {e e1 : List Exchange} {t : List ℕ} (s2 : Asker) (e2 : List Exchange)
    (u : List ℕ) (r : Result A Stop)
    → Led m s e t n s1 e1 → Went r n s1 e1 u s2 e2 → Went r m s e (t ++ u) s2 e2
led_went s2 e2 u (Ok x) first second = led_on first second
led_went s2 e2 u (Err (Refused refusal)) first second = led_on first second
led_went s2 e2 u (Err NoServer) first second = led_on first second
led_went s2 e2 u (Err OutcomeUnknown) first second = led_on first second
led_went s2 e2 u (Err WriteFault) first second = broke_on first second
led_went s2 e2 u (Err NoMemory) first second = broke_on first second

went_stops : {A B : Type 0} (m : Course A) (s s1 : Asker) (e e1 : List Exchange) (t : List ℕ) (why : Stop) (f : A → Course B)
    → EndsSo why m s e t s1 e1 → EndsSo why (m >>= f) s e t s1 e1
went_stops m s s1 e e1 t (Refused refusal) f went = led_as (stops (Refused refusal)) (stops_then (Refused refusal) f) (led_then f went)
went_stops m s s1 e e1 t NoServer f went = led_as (stops NoServer) (stops_then NoServer f) (led_then f went)
went_stops m s s1 e e1 t OutcomeUnknown f went = led_as (stops OutcomeUnknown) (stops_then OutcomeUnknown f) (led_then f went)
went_stops m s s1 e e1 t WriteFault f went = broke_then f went
went_stops m s s1 e e1 t NoMemory f went = broke_then f went

-- a course that gave a value goes on with it
pub led_gave : {A B : Type 0} {m : Course A} {s s1 : Asker} {e e1 : List Exchange} {t : List ℕ} (x : A) (f : A → Course B)
    → Led m s e t (gives x) s1 e1 → Led (m >>= f) s e t (f x) s1 e1
led_gave x f led = led_as (f x) (gives_then x f) (led_then f led)

-- the same of what was run, where nothing is written
pub ran_led : {A : Type 0} {m : Course A} {s s1 : Asker} {e e1 : List Exchange} {r : Result A Stop} (x : A) → r ≡ Ok x
    → Ran m s s1 e e1 r → Led m s e [] (gives x) s1 e1
ran_led {A = A} {m = m} {s = s} {s1 = s1} {e = e} {e1 = e1} x is ran = subst (λ (r : Result A Stop). Went r m s e [] s1 e1) is ran.went

pub ran_then : {A B : Type 0} {m : Course A} (f : A → Course B) {s s1 s2 : Asker} {e e1 e2 : List Exchange} {r0 : Result A Stop}
    {r : Result B Stop}
    (x : A) → r0 ≡ Ok x → Ran m s s1 e e1 r0 → Ran (f x) s1 s2 e1 e2 r → Ran (m >>= f) s s2 e e2 r
ran_then f {s2 = s2} {e2 = e2} {r = r} x is first second =
    record { went = led_went s2 e2 [] r (led_gave x f (ran_led x is first)) second.went; quiet = second.quiet }

pub ran_stops : {A B : Type 0} {m : Course A} (f : A → Course B) {s s1 : Asker} {e e1 : List Exchange} {r0 : Result A Stop}
    (why : Stop) → r0 ≡ Err why → Ran m s s1 e e1 r0 → Ran (m >>= f) s s1 e e1 (Err why)
ran_stops {A = A} {m = m} f {s = s} {s1 = s1} {e = e} {e1 = e1} why is first =
    let went : EndsSo why m s e [] s1 e1 = subst (λ (r : Result A Stop). Went r m s e [] s1 e1) is first.went in
    record { went = went_stops m s s1 e e1 [] why f went; quiet = subst (λ (r : Result A Stop). IsQuiet r) is first.quiet }

still_went : {A : Type 0} (s : Asker) (e : List Exchange) (r : Result A Stop) → Went r (still r) s e [] s e
still_went s e (Ok x) = led_start (gives x) s e
still_went s e (Err (Refused refusal)) = led_start (stops (Refused refusal)) s e
still_went s e (Err NoServer) = led_start (stops NoServer) s e
still_went s e (Err OutcomeUnknown) = led_start (stops OutcomeUnknown) s e
still_went s e (Err WriteFault) = broke_start (stops WriteFault) s e
still_went s e (Err NoMemory) = broke_start (stops NoMemory) s e

-- nothing was asked
pub ran_still : {A : Type 0} (s : Asker) (e : List Exchange) (r : Result A Stop) → IsQuiet r → Ran (still r) s s e e r
ran_still s e r quiet = record { went = still_went s e r; quiet = quiet }

-- memory ran out before anything was asked
pub ran_short : {A : Type 0} (m : Course A) (s : Asker) (e : List Exchange) → Ran m s s e e (Err NoMemory)
ran_short m s e = record { went = broke_start m s e; quiet = tt }

-- what is left of a course was run
pub led_ran : {A : Type 0} {m n : Course A} {s s1 s2 : Asker} {e e1 e2 : List Exchange} {r : Result A Stop}
    → Led m s e [] n s1 e1 → Ran n s1 s2 e1 e2 r → Ran m s s2 e e2 r
led_ran {s2 = s2} {e2 = e2} {r = r} led ran = record { went = led_went s2 e2 [] r led ran.went; quiet = ran.quiet }

pub ran_gave : {A : Type 0} {m : Course A} {s s1 : Asker} {e e1 : List Exchange} (x : A) → Led m s e [] (gives x) s1 e1
    → Ran m s s1 e e1 (Ok x)
ran_gave x led = record { went = led; quiet = tt }

-- what went before a course, and asked nothing, may be left out
went_from : {A : Type 0} (m p : Course A) (s0 s s1 : Asker) (e e1 : List Exchange) (t : List ℕ) (r : Result A Stop)
    → ((rest : List Exchange) → p s0 rest ≡ m s rest) → Went r m s e t s1 e1 → Went r p s0 e t s1 e1
went_from m p s0 s s1 e e1 t (Ok x) same led =
    record { made = led.made; grown = led.grown; leads = λ rest. same (led.made ++ rest) ∙ led.leads rest }
went_from m p s0 s s1 e e1 t (Err (Refused refusal)) same led =
    record { made = led.made; grown = led.grown; leads = λ rest. same (led.made ++ rest) ∙ led.leads rest }
went_from m p s0 s s1 e e1 t (Err NoServer) same led =
    record { made = led.made; grown = led.grown; leads = λ rest. same (led.made ++ rest) ∙ led.leads rest }
went_from m p s0 s s1 e e1 t (Err OutcomeUnknown) same led =
    record { made = led.made; grown = led.grown; leads = λ rest. same (led.made ++ rest) ∙ led.leads rest }
went_from {A = A} m p s0 s s1 e e1 t (Err WriteFault) same broke = record {
  made = broke.made;
  grown = broke.grown;
  fronts = λ rest. subst (λ (w : Walk A). Fronts (asks_in broke.made) t w) (sym (same (broke.made ++ rest))) (broke.fronts rest);
}
went_from {A = A} m p s0 s s1 e e1 t (Err NoMemory) same broke = record {
  made = broke.made;
  grown = broke.grown;
  fronts = λ rest. subst (λ (w : Walk A). Fronts (asks_in broke.made) t w) (sym (same (broke.made ++ rest))) (broke.fronts rest);
}

pub ran_from : {A : Type 0} {m : Course A} (p : Course A) (s0 : Asker) {s s1 : Asker} {e e1 : List Exchange} {r : Result A Stop}
    → ((rest : List Exchange) → p s0 rest ≡ m s rest) → Ran m s s1 e e1 r → Ran p s0 s1 e e1 r
ran_from {m = m} p s0 {s = s} {s1 = s1} {e = e} {e1 = e1}
    {r = r} same ran = record { went = went_from m p s0 s s1 e e1 [] r same ran.went; quiet = ran.quiet }

-- nothing was asked, and this came
pub ran_is : {A : Type 0} (s : Asker) (e : List Exchange) (v r : Result A Stop) → IsQuiet v → r ≡ v → Ran (still v) s s e e r
ran_is {A = A} s e v r quiet is = subst (λ (w : Result A Stop). Ran (still v) s s e e w) (sym is) (ran_still s e v quiet)

-- what was decided without an ask, but for want of memory
pub ran_decided : {A : Type 0} (s : Asker) (e : List Exchange) (v r : Result A Stop) → IsQuiet v → (r ≢ Err NoMemory → r ≡ v)
    → Ran (still v) s s e e r
ran_decided {A = A} s e v (Ok x) quiet is = ran_is s e v (Ok x) quiet (is (λ eq. cc))
ran_decided {A = A} s e v (Err (Refused refusal)) quiet is = ran_is s e v (Err (Refused refusal)) quiet (is (λ eq. cc))
ran_decided {A = A} s e v (Err NoServer) quiet is = ran_is s e v (Err NoServer) quiet (is (λ eq. cc))
ran_decided {A = A} s e v (Err OutcomeUnknown) quiet is = ran_is s e v (Err OutcomeUnknown) quiet (is (λ eq. cc))
ran_decided {A = A} s e v (Err WriteFault) quiet is = ran_is s e v (Err WriteFault) quiet (is (λ eq. cc))
ran_decided s e v (Err NoMemory) quiet is = ran_short (still v) s e

-- an end that was handed on
pub ran_err : {A : Type 0} {m : Course A} {s s1 : Asker} {e e1 : List Exchange} (why : Stop) (r : Result A Stop)
    → IsErrAnd r (λ (x : Stop). x ≡ why)
    → Ran m s s1 e e1 (Err why) → Ran m s s1 e e1 r
ran_err why (Ok x) is ran = absurd is
ran_err {A = A} {m = m} {s = s} {s1 = s1} {e = e} {e1 = e1} why (Err x) is ran =
    subst (λ (w : Stop). let r : Result A Stop = Err w in Ran m s s1 e e1 r) (sym is) ran

-- a course that was stopped, and what was to follow
pub ran_broken : {A B : Type 0} {m : Course A} (f : A → Course B) {s s1 : Asker} {e e1 : List Exchange} {r0 : Result A Stop} (why : Stop)
    (r : Result B Stop)
    → IsErrAnd r (λ (x : Stop). x ≡ why) → r0 ≡ Err why → Ran m s s1 e e1 r0 → Ran (m >>= f) s s1 e e1 r
ran_broken f why r is was first = ran_err why r is (ran_stops f why was first)

-- memory ran out after an ask
pub ran_lacks : {A B : Type 0} {m : Course A} (f : A → Course B) {s s1 : Asker} {e e1 : List Exchange} {r0 : Result A Stop} (x : A)
    (r : Result B Stop)
    → IsErrAnd r (λ (w : Stop). w ≡ NoMemory) → r0 ≡ Ok x → Ran m s s1 e e1 r0 → Ran (m >>= f) s s1 e e1 r
ran_lacks f {s1 = s1} {e1 = e1} x r is was first = ran_err NoMemory r is (ran_then f x was first (ran_short (f x) s1 e1))

-- memory ran out before anything was asked, though a call may have been counted
pub ran_none : {A : Type 0} (m : Course A) (s : Asker) {s1 : Asker} (e : List Exchange) (r : Result A Stop)
    → IsErrAnd r (λ (w : Stop). w ≡ NoMemory) → Ran m s s1 e e r
ran_none m s e r is = ran_err NoMemory r is (record { went = broke_start m s e; quiet = tt })

-- the same course by another name
pub ran_as : {A : Type 0} (m n : Course A) {s s1 : Asker} {e e1 : List Exchange} {r : Result A Stop} → m ≡ n → Ran m s s1 e e1 r
    → Ran n s s1 e e1 r
ran_as {A = A} m n {s = s} {s1 = s1} {e = e} {e1 = e1} {r = r} is ran = subst (λ (c : Course A). Ran c s s1 e e1 r) is ran
