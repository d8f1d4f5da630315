-- A course that was run, and what follows however it ended.
use Rattle.std.proofs.Common.{◌≡◌, ℕ, List, [], ◌++◌, Result, Ok, Err, ap, refl}
use Rattle.std.specs.Prelude.{◌≢◌}
use Rattle.io_base.specs.declared.links.Exchange.{Exchange}
use Rattle.vl_calls.specs.declared.calls.GivenEntry.{GivenEntry}
use Rattle.vl_calls.specs.declared.calls.VlCall.TheVariants as call
use Rattle.tool_base.specs.Course.{◌>>=◌, Asker, Course, Walk, still, stops}
use Rattle.tool_base.specs.Running.{Broke, Led, Ran}
use Rattle.tool_base.specs.declared.stops.Stop.{Stop}
use Rattle.tool_base.specs.declared.stops.Stop.TheVariants.{Refused, NoServer, OutcomeUnknown, WriteFault, NoMemory}
use Rattle.tool_base.specs.declared.stops.Refusal.{Refusal}
use Rattle.tool_base.proofs.Walking.{ran_still, ran_stops, ran_then}
use Rattle.vos_tool.specs.Asking.{asks_done}
use Rattle.vos_tool.specs.Changing.{after_replace, attempted, attempts, gives_up, replaces}
use Rattle.vos_tool.specs.Locking.{releases_lock}
use Rattle.vos_tool.specs.Volumes.{any_type}
use Rattle.vos_tool.specs.declared.locks.TheConstants.{WHOLE_LOCK}

abbrev attempt_of : {A : Type 0} → Walk A → Walk (Result A Stop)
attempt_of walk = record { asks = walk.asks; text = walk.text; result = attempted walk.result; asker = walk.asker; rest = walk.rest }

led_attempts : {A : Type 0} (m : Course A) (s s1 : Asker) (e e1 : List Exchange) (r : Result A Stop)
    → Led m s e [] (still r) s1 e1 → Led (attempts m) s e [] (still (attempted r)) s1 e1
unfolding attempts
led_attempts {A = A} m s s1 e e1 r led =
    record { made = led.made; grown = led.grown; leads = λ rest. ap (λ (w : Walk A). attempt_of w) (led.leads rest) }

broke_attempts : {A : Type 0} (m : Course A) (s : Asker) (e e1 : List Exchange) → Broke m s e [] e1 → Broke (attempts m) s e [] e1
unfolding attempts
broke_attempts m s e e1 broke = record {
  made = broke.made;
  grown = broke.grown;
  fronts = λ rest. let f = broke.fronts rest in
      record { more_asks = f.more_asks; more_text = f.more_text; asks_are = f.asks_are; text_is = f.text_is };
}

pub ran_attempts : {A : Type 0} (m : Course A) (s s1 : Asker) (e e1 : List Exchange) (r : Result A Stop) → Ran m s s1 e e1 r
    → Ran (attempts m) s s1 e e1 (attempted r)
ran_attempts m s s1 e e1 (Ok x) ran = record { went = led_attempts m s s1 e e1 (Ok x) ran.went; quiet = tt }
ran_attempts m s s1 e e1 (Err (Refused why)) ran = record { went = led_attempts m s s1 e e1 (Err (Refused why)) ran.went; quiet = tt }
ran_attempts m s s1 e e1 (Err NoServer) ran = record { went = led_attempts m s s1 e e1 (Err NoServer) ran.went; quiet = tt }
ran_attempts m s s1 e e1 (Err OutcomeUnknown) ran = record { went = led_attempts m s s1 e e1 (Err OutcomeUnknown) ran.went; quiet = tt }
ran_attempts m s s1 e e1 (Err WriteFault) ran = absurd ran.quiet
ran_attempts m s s1 e e1 (Err NoMemory) ran = record { went = broke_attempts m s e e1 ran.went; quiet = tt }

-- the lock was released, or that was tried
pub ran_gives_up : (id : ℕ) (why : Refusal) (s s1 : Asker) (e e1 : List Exchange) (r : Result (Unit {0}) Stop)
    → Ran (releases_lock id) s s1 e e1 r
    → r ≢ Err NoMemory → Ran (gives_up id why) s s1 e e1 (Err (Refused why))
unfolding gives_up
ran_gives_up id why s s1 e e1 (Ok x) ran some =
    let end : Result (Unit {0}) Stop = Ok x in
    ran_then (λ (any : Result (Unit {0}) Stop). stops (Refused why)) end refl (ran_attempts (releases_lock id) s s1 e e1 end ran)
    (ran_still s1 e1 (Err (Refused why)) tt)
ran_gives_up id why s s1 e e1 (Err (Refused other)) ran some =
    let end : Result (Unit {0}) Stop = Err (Refused other) in
    ran_then (λ (any : Result (Unit {0}) Stop). stops (Refused why)) end refl (ran_attempts (releases_lock id) s s1 e e1 end ran)
    (ran_still s1 e1 (Err (Refused why)) tt)
ran_gives_up id why s s1 e e1 (Err NoServer) ran some =
    let end : Result (Unit {0}) Stop = Err NoServer in
    ran_then (λ (any : Result (Unit {0}) Stop). stops (Refused why)) end refl (ran_attempts (releases_lock id) s s1 e e1 end ran)
    (ran_still s1 e1 (Err (Refused why)) tt)
ran_gives_up id why s s1 e e1 (Err OutcomeUnknown) ran some =
    let end : Result (Unit {0}) Stop = Err OutcomeUnknown in
    ran_then (λ (any : Result (Unit {0}) Stop). stops (Refused why)) end refl (ran_attempts (releases_lock id) s s1 e e1 end ran)
    (ran_still s1 e1 (Err (Refused why)) tt)
ran_gives_up id why s s1 e e1 (Err WriteFault) ran some = absurd ran.quiet
ran_gives_up id why s s1 e e1 (Err NoMemory) ran some = absurd (some refl)

pub short_gives_up : (id : ℕ) (why : Refusal) (s s1 : Asker) (e e1 : List Exchange) → Ran (releases_lock id) s s1 e e1 (Err NoMemory)
    → Ran (gives_up id why) s s1 e e1 (Err NoMemory)
unfolding gives_up
short_gives_up id why s s1 e e1 ran =
    ran_stops (λ (any : Result (Unit {0}) Stop). stops (Refused why)) NoMemory refl
    (ran_attempts (releases_lock id) s s1 e e1 (Err NoMemory) ran)

abbrev replace_call : ℕ → GivenEntry → Course (Unit {0})
replace_call id given = asks_done (call.ReplaceEntry id any_type given WHOLE_LOCK)

-- the entry was replaced
pub ran_replaced : (id : ℕ) (given : GivenEntry) (s s1 : Asker) (e e1 : List Exchange) (x : Unit {0})
    → Ran (replace_call id given) s s1 e e1 (Ok x)
    → Ran (replaces id given) s s1 e e1 (Ok x)
unfolding replaces
ran_replaced id given s s1 e e1 x ran =
    let end : Result (Unit {0}) Stop = Ok x in
    ran_then (λ (any : Result (Unit {0}) Stop). after_replace id any) end refl (ran_attempts (replace_call id given) s s1 e e1 end ran)
    (ran_still s1 e1 (Ok x) tt)

-- that was refused
pub ran_refused : (id : ℕ) (given : GivenEntry) (s s1 s2 : Asker) (e e1 e2 : List Exchange) (why : Refusal) (r : Result (Unit {0}) Stop)
    → Ran (replace_call id given) s s1 e e1 (Err (Refused why)) → Ran (gives_up id why) s1 s2 e1 e2 r → Ran (replaces id given) s s2 e e2 r
unfolding replaces
ran_refused id given s s1 s2 e e1 e2 why r ran given_up =
    let end : Result (Unit {0}) Stop = Err (Refused why) in
    ran_then (λ (any : Result (Unit {0}) Stop). after_replace id any) end refl
    (ran_attempts (replace_call id given) s s1 e e1 end ran) given_up

-- it ended otherwise
pub ran_unreplaced : (id : ℕ) (given : GivenEntry) (s s1 : Asker) (e e1 : List Exchange) (why : Stop)
    → Ran (replace_call id given) s s1 e e1 (Err why)
    → ((refusal : Refusal) → why ≡ Refused refusal → ⊥) → Ran (replaces id given) s s1 e e1 (Err why)
unfolding replaces
ran_unreplaced id given s s1 e e1 (Refused refusal) ran other = absurd (other refusal refl)
ran_unreplaced id given s s1 e e1 NoServer ran other =
    let end : Result (Unit {0}) Stop = Err NoServer in
    ran_then (λ (any : Result (Unit {0}) Stop). after_replace id any) end refl (ran_attempts (replace_call id given) s s1 e e1 end ran)
    (ran_still s1 e1 (Err NoServer) tt)
ran_unreplaced id given s s1 e e1 OutcomeUnknown ran other =
    let end : Result (Unit {0}) Stop = Err OutcomeUnknown in
    ran_then (λ (any : Result (Unit {0}) Stop). after_replace id any) end refl (ran_attempts (replace_call id given) s s1 e e1 end ran)
    (ran_still s1 e1 (Err OutcomeUnknown) tt)
ran_unreplaced id given s s1 e e1 WriteFault ran other = absurd ran.quiet
ran_unreplaced id given s s1 e e1 NoMemory ran other =
    ran_stops (λ (any : Result (Unit {0}) Stop). after_replace id any) NoMemory refl
    (ran_attempts (replace_call id given) s s1 e e1 (Err NoMemory) ran)
