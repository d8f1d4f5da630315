-- A call, asked of one host after the other: what is left of that after each host.
use Rattle.std.proofs.Common.{◌≡◌, ℕ, Bool, true, false, List, [], ◌∷◌, Option, Some, None, Result, Ok, Err, refl, subst}
use Rattle.std.specs.Prelude.{◌≢◌}
use Rattle.ubik_types.specs.declared.hosts.Host.{Host}
use Rattle.io_base.specs.declared.links.Exchange.{Exchange}
use Rattle.tool_base.specs.Asking.{ask_frame, asks_call, asks_hosts, hears, or_next}
use Rattle.tool_base.specs.Course.{◌>>=◌, Asker, Course, counted, still}
use Rattle.tool_base.specs.Hearing.{after_silence, taken, verdict}
use Rattle.tool_base.specs.Running.{IsQuiet, Led, Ran}
use Rattle.tool_base.specs.declared.hearing.Heard.{Heard}
use Rattle.tool_base.specs.declared.hearing.Heard.TheVariants.{Answer as Told, Refusal as Refuses, Elsewhere, Silence}
use Rattle.tool_base.specs.declared.stops.Stop.{Stop}
use Rattle.tool_base.specs.declared.stops.Stop.TheVariants as stop
use Rattle.tool_base.proofs.Walking.{led_gave, led_on, led_ran, ran_decided, ran_from, ran_gave, ran_led, ran_stops}

-- no sink fails where a call is asked
quiet_silence : (A : Type 0) (writes : Bool) → IsQuiet (after_silence {A = A} writes)
quiet_silence A true = tt
quiet_silence A false = tt

quiet_taken : {A : Type 0} (writes : Bool) (found : Option A) → IsQuiet (taken writes found)
quiet_taken writes (Some x) = tt
quiet_taken {A = A} writes None = quiet_silence A writes

pub quiet_verdict : {A : Type 0} (writes : Bool) (read : List ℕ → Option A) (heard : Heard) → IsQuiet (verdict writes read heard)
quiet_verdict writes read (Told answer) = quiet_taken writes (read answer)
quiet_verdict writes read (Refuses refusal) = tt
quiet_verdict writes read Elsewhere = tt
quiet_verdict {A = A} writes read Silence = quiet_silence A writes

-- the first host gave something: what follows from it is left
pub heard_next : {A : Type 0} (writes : Bool) (read : List ℕ → Option A) (frame : List ℕ) (host : Host) (hosts : List Host)
    (first : Course A)
    (s : Asker) (e0 e e1 : List Exchange) (heard : Heard) → Led first s e0 [] (asks_hosts writes read frame (host ∷ hosts)) s e
    → Ran (hears host frame) s s e e1 (Ok heard)
    → Led first s e0 [] (still (verdict writes read heard) >>= λ found. or_next found (asks_hosts writes read frame hosts)) s e1
heard_next {A = A} writes read frame host hosts first s e0 e e1 heard led ran =
    let f : Heard → Course A = λ heard. still (verdict writes read heard) >>= λ found. or_next found (asks_hosts writes read frame hosts) in
    led_on led (led_gave heard f (ran_led heard refl ran))

-- it gave nothing, for want of memory
pub heard_stops : {A : Type 0} (writes : Bool) (read : List ℕ → Option A) (frame : List ℕ) (host : Host) (hosts : List Host)
    (first : Course A)
    (s : Asker) (e0 e e1 : List Exchange) (why : Stop) → Led first s e0 [] (asks_hosts writes read frame (host ∷ hosts)) s e
    → Ran (hears host frame) s s e e1 (Err why) → Ran first s s e0 e1 (Err why)
heard_stops {A = A} writes read frame host hosts first s e0 e e1 why led ran =
    let f : Heard → Course A = λ heard. still (verdict writes read heard) >>= λ found. or_next found (asks_hosts writes read frame hosts) in
    led_ran led (ran_stops f why refl ran)

-- the call is settled, or the next host is asked
pub settled_next : {A : Type 0} (writes : Bool) (read : List ℕ → Option A) (frame : List ℕ) (hosts : List Host) (first : Course A)
    (s : Asker) (e0 e : List Exchange) (heard : Heard) (r : Result (Option A) Stop) → r ≡ Ok None
    → (r ≢ Err stop.NoMemory → r ≡ verdict writes read heard)
    → Led first s e0 [] (still (verdict writes read heard) >>= λ found. or_next found (asks_hosts writes read frame hosts)) s e
    → Led first s e0 [] (asks_hosts writes read frame hosts) s e
settled_next {A = A} writes read frame hosts first s e0 e heard r is settled led =
    let f : Option A → Course A = λ found. or_next found (asks_hosts writes read frame hosts) in
    led_on led (led_gave None f (ran_led None is (ran_decided s e (verdict writes read heard) r (quiet_verdict writes read heard) settled)))

pub settled_gave : {A : Type 0} (writes : Bool) (read : List ℕ → Option A) (frame : List ℕ) (hosts : List Host) (first : Course A)
    (s : Asker) (e0 e : List Exchange) (heard : Heard) (r : Result (Option A) Stop) (x : A) → r ≡ Ok (Some x)
    → (r ≢ Err stop.NoMemory → r ≡ verdict writes read heard)
    → Led first s e0 [] (still (verdict writes read heard) >>= λ found. or_next found (asks_hosts writes read frame hosts)) s e
    → Ran first s s e0 e (Ok x)
settled_gave {A = A} writes read frame hosts first s e0 e heard r x is settled led =
    let f : Option A → Course A = λ found. or_next found (asks_hosts writes read frame hosts) in
    ran_gave x (led_on led
    (led_gave (Some x) f (ran_led (Some x) is (ran_decided s e (verdict writes read heard) r (quiet_verdict writes read heard) settled))))

pub settled_stops : {A : Type 0} (writes : Bool) (read : List ℕ → Option A) (frame : List ℕ) (hosts : List Host) (first : Course A)
    (s : Asker) (e0 e : List Exchange) (heard : Heard) (r : Result (Option A) Stop) (why : Stop) → r ≡ Err why
    → (r ≢ Err stop.NoMemory → r ≡ verdict writes read heard)
    → Led first s e0 [] (still (verdict writes read heard) >>= λ found. or_next found (asks_hosts writes read frame hosts)) s e
    → Ran first s s e0 e (Err why)
settled_stops {A = A} writes read frame hosts first s e0 e heard r why is settled led =
    let f : Option A → Course A = λ found. or_next found (asks_hosts writes read frame hosts) in
    led_ran led (ran_stops f why is (ran_decided s e (verdict writes read heard) r (quiet_verdict writes read heard) settled))

-- no host is left
pub no_host : {A : Type 0} (writes : Bool) (read : List ℕ → Option A) (frame : List ℕ) (hosts : List Host) (first : Course A)
    (s : Asker) (e0 e : List Exchange) → hosts ≡ [] → Led first s e0 [] (asks_hosts writes read frame hosts) s e
    → Ran first s s e0 e (Err stop.NoServer)
no_host {A = A} writes read frame hosts first s e0 e none led =
    record { went = subst (λ (hs : List Host). Led first s e0 [] (asks_hosts writes read frame hs) s e) none led; quiet = tt }

asks_counted : {A : Type 0} (writes : Bool) (read : List ℕ → Option A) (call : List ℕ) (s : Asker) (rest : List Exchange)
    → asks_call writes read call s rest ≡ asks_hosts writes read (ask_frame (counted s).number call) s.hosts (counted s) rest
unfolding asks_call
asks_counted writes read call s rest = refl

-- a call was counted, and then asked of the hosts
pub asked_call : {A : Type 0} (writes : Bool) (read : List ℕ → Option A) (call frame : List ℕ) (s s1 s2 : Asker) (e e1 : List Exchange)
    (r : Result A Stop)
    → s1 ≡ counted s → frame ≡ ask_frame s1.number call → Ran (asks_hosts writes read frame s1.hosts) s1 s2 e e1 r
    → Ran (asks_call writes read call) s s2 e e1 r
asked_call {A = A} writes read call frame s s1 s2 e e1 r counts frames ran =
    let at_frame : Ran (asks_hosts writes read (ask_frame s1.number call) s1.hosts) s1 s2 e e1 r
    = subst (λ (f : List ℕ). Ran (asks_hosts writes read f s1.hosts) s1 s2 e e1 r) frames ran in
    let at_count : Ran (asks_hosts writes read (ask_frame (counted s).number call) (counted s).hosts) (counted s) s2 e e1 r
    = subst (λ (a : Asker). Ran (asks_hosts writes read (ask_frame a.number call) a.hosts) a s2 e e1 r) counts at_frame in
    ran_from (asks_call writes read call) s (asks_counted writes read call s) at_count
