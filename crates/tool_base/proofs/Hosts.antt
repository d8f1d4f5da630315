-- A call, asked of the hosts of a list one by one.
use Rattle.std.proofs.Common.{◌≡◌, ℕ, ◌+◌, ◌<◌, ◌≤◌, Bool, List, [], ◌∷◌, length, get_or, drop, Option, Some, None, Result, Ok, Err, ap, sym, ◌∙◌, subst}
use Rattle.std.specs.Prelude.{◌≢◌, IsErrAnd}
use Rattle.std.proofs.lemmas.List.{at_drop_more, drop_all}
use Rattle.ubik_types.specs.declared.hosts.Host.{Host}
use Rattle.io_base.specs.declared.links.Exchange.{Exchange}
use Rattle.tool_base.specs.Asking.{asks_hosts, hears}
use Rattle.tool_base.specs.Course.{Asker, Course}
use Rattle.tool_base.specs.Hearing.{verdict}
use Rattle.tool_base.specs.Running.{Led, Ran}
use Rattle.tool_base.specs.declared.hearing.Heard.{Heard}
use Rattle.tool_base.specs.declared.stops.Stop.{Stop}
use Rattle.tool_base.specs.declared.stops.Stop.TheVariants as stop
use Rattle.tool_base.proofs.Calling.{heard_next, heard_stops, no_host, settled_gave, settled_next, settled_stops}
use Rattle.tool_base.proofs.Walking.{ran_err}

at_host : {A : Type 0} (writes : Bool) (read : List ℕ → Option A) (sent : List ℕ) (hosts : List Host) (i : ℕ) (host : Host)
    (first : Course A) (s : Asker) (e0 e : List Exchange)
    → i < length hosts → host ≡ get_or hosts i host → Led first s e0 [] (asks_hosts writes read sent (drop i hosts)) s e
    → Led first s e0 [] (asks_hosts writes read sent (host ∷ drop (i + 1) hosts)) s e
at_host {A = A} writes read sent hosts i host first s e0 e low is led =
    let there : drop i hosts ≡ host ∷ drop (i + 1) hosts
    = at_drop_more (λ (hs : List Host). hs) hosts i host low ∙ ap (λ (h : Host). h ∷ drop (i + 1) hosts) (sym is) in
    subst (λ (hs : List Host). Led first s e0 [] (asks_hosts writes read sent hs) s e) there led

-- memory ran out at a host
pub stopped_at : {A : Type 0} (writes : Bool) (read : List ℕ → Option A) (sent : List ℕ) (hosts : List Host) (i : ℕ) (host : Host)
    (s1 : Asker) (e0 e e1 : List Exchange)
    (why : Stop) (r : Result A Stop) → i < length hosts → host ≡ get_or hosts i host
    → Led (asks_hosts writes read sent hosts) s1 e0 [] (asks_hosts writes read sent (drop i hosts)) s1 e
    → Ran (hears host sent) s1 s1 e e1 (Err why) → IsErrAnd r (λ (x : Stop). x ≡ why)
    → Ran (asks_hosts writes read sent hosts) s1 s1 e0 e1 r
stopped_at writes read sent hosts i host s1 e0 e e1 why r low item led ran end =
    let first = asks_hosts writes read sent hosts in
    (ran_err why r end (heard_stops writes read sent host (drop (i + 1) hosts) first s1 e0 e e1 why
    (at_host writes read sent hosts i host first s1 e0 e low item led) ran))

-- what a host gave settles the call, or leads to the next host
pub gave_at : {A : Type 0} (writes : Bool) (read : List ℕ → Option A) (sent : List ℕ) (hosts : List Host) (i : ℕ) (host : Host)
    (s1 : Asker) (e0 e e1 : List Exchange)
    (heard : Heard) (r : Result (Option A) Stop) (x : A) → i < length hosts → host ≡ get_or hosts i host
    → Led (asks_hosts writes read sent hosts) s1 e0 [] (asks_hosts writes read sent (drop i hosts)) s1 e
    → Ran (hears host sent) s1 s1 e e1 (Ok heard) → r ≡ Ok (Some x) → (r ≢ Err stop.NoMemory → r ≡ verdict writes read heard)
    → Ran (asks_hosts writes read sent hosts) s1 s1 e0 e1 (Ok x)
gave_at writes read sent hosts i host s1 e0 e e1 heard r x low item led ran was settled =
    let first = asks_hosts writes read sent hosts in
    let next = heard_next writes read sent host (drop (i + 1) hosts) first s1 e0 e e1 heard
    (at_host writes read sent hosts i host first s1 e0 e low item led) ran in
    (settled_gave writes read sent (drop (i + 1) hosts) first s1 e0 e1 heard r x was settled next)

pub ended_at : {A : Type 0} (writes : Bool) (read : List ℕ → Option A) (sent : List ℕ) (hosts : List Host) (i : ℕ) (host : Host)
    (s1 : Asker) (e0 e e1 : List Exchange)
    (heard : Heard) (r : Result (Option A) Stop) (why : Stop) (left : Result A Stop) → i < length hosts → host ≡ get_or hosts i host
    → Led (asks_hosts writes read sent hosts) s1 e0 [] (asks_hosts writes read sent (drop i hosts)) s1 e
    → Ran (hears host sent) s1 s1 e e1 (Ok heard) → r ≡ Err why → (r ≢ Err stop.NoMemory → r ≡ verdict writes read heard)
    → IsErrAnd left (λ (x : Stop). x ≡ why) → Ran (asks_hosts writes read sent hosts) s1 s1 e0 e1 left
ended_at writes read sent hosts i host s1 e0 e e1 heard r why left low item led ran was settled end =
    let first = asks_hosts writes read sent hosts in
    let next = heard_next writes read sent host (drop (i + 1) hosts) first s1 e0 e e1 heard
    (at_host writes read sent hosts i host first s1 e0 e low item led) ran in
    (ran_err why left end (settled_stops writes read sent (drop (i + 1) hosts) first s1 e0 e1 heard r why was settled next))

pub next_at : {A : Type 0} (writes : Bool) (read : List ℕ → Option A) (sent : List ℕ) (hosts : List Host) (i : ℕ) (host : Host)
    (s1 : Asker) (e0 e e1 : List Exchange)
    (heard : Heard) (r : Result (Option A) Stop) → i < length hosts → host ≡ get_or hosts i host
    → Led (asks_hosts writes read sent hosts) s1 e0 [] (asks_hosts writes read sent (drop i hosts)) s1 e
    → Ran (hears host sent) s1 s1 e e1 (Ok heard) → r ≡ Ok None → (r ≢ Err stop.NoMemory → r ≡ verdict writes read heard)
    → Led (asks_hosts writes read sent hosts) s1 e0 [] (asks_hosts writes read sent (drop (i + 1) hosts)) s1 e1
next_at writes read sent hosts i host s1 e0 e e1 heard r low item led ran was settled =
    let first = asks_hosts writes read sent hosts in
    let next = heard_next writes read sent host (drop (i + 1) hosts) first s1 e0 e e1 heard
    (at_host writes read sent hosts i host first s1 e0 e low item led) ran in
    settled_next writes read sent (drop (i + 1) hosts) first s1 e0 e1 heard r was settled next

-- no host was left
pub none_left : {A : Type 0} (writes : Bool) (read : List ℕ → Option A) (sent : List ℕ) (hosts : List Host) (i : ℕ) (s1 : Asker)
    (e0 e : List Exchange)
    → length hosts ≤ i → Led (asks_hosts writes read sent hosts) s1 e0 [] (asks_hosts writes read sent (drop i hosts)) s1 e
    → Ran (asks_hosts writes read sent hosts) s1 s1 e0 e (Err stop.NoServer)
none_left writes read sent hosts i s1 e0 e high led =
    let first = asks_hosts writes read sent hosts in
    (no_host writes read sent (drop i hosts) first s1 e0 e (drop_all i hosts high) led)
