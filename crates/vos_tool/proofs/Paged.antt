-- Pages of a listing, read one after the other.
use Rattle.std.proofs.Common.{◌≡◌, ℕ, zero, suc, ◌+◌, ◌-◌, ◌<◌, ◌≤◌, Bool, true, false, ltb, cond, List, [], ◌∷◌, ◌++◌, length, Result, Ok, Err, arith, refl, subst, sym}
use Rattle.std.specs.Prelude.{IsErrAnd}
use Rattle.std.proofs.lemmas.Bool.Decides.{nat_tests}
use Rattle.io_base.specs.declared.links.Exchange.{Exchange}
use Rattle.vl_calls.specs.declared.limits.TheConstants.{MAX_PAGE}
use Rattle.vldb_entries.specs.declared.entries.VlEntry.{VlEntry}
use Rattle.tool_base.specs.Course.{◌>>=◌, Asker, Course, gives}
use Rattle.tool_base.specs.Running.{Led, Ran}
use Rattle.tool_base.specs.declared.stops.Stop.{Stop}
use Rattle.tool_base.specs.declared.stops.Stop.TheVariants as stop
use Rattle.tool_base.proofs.Walking.{led_gave, led_on, led_ran, ran_broken, ran_gave, ran_lacks, ran_led}
use Rattle.vos_tool.specs.Asking.{asks_page}
use Rattle.vos_tool.specs.Listing.{last_id, page_call, pages}
use Rattle.vos_tool.specs.declared.listing.Filter.{Filter}

-- what follows a page, where so many more may come
abbrev behind_page : ℕ → Filter → ℕ → List VlEntry → List VlEntry → Course (List VlEntry)
behind_page more filter after found es =
    cond (ltb (length es) MAX_PAGE) (gives (found ++ es)) (pages more filter (last_id after es) (found ++ es))

asked_by : (first : Course (List VlEntry)) (filter : Filter) (s0 s : Asker) (e0 e : List Exchange) (after : ℕ) (found : List VlEntry)
    (more : ℕ)
    → Led first s0 e0 [] (pages (suc more) filter after found) s e
    → Led first s0 e0 [] (asks_page after (page_call filter after) >>= behind_page more filter after found) s e
unfolding pages
asked_by first filter s0 s e0 e after found more led = led

-- the next page is asked for
asked_next : (first : Course (List VlEntry)) (filter : Filter) (s0 s : Asker) (e0 e : List Exchange) (after : ℕ) (found : List VlEntry)
    (most i : ℕ) → i < most
    → Led first s0 e0 [] (pages (most - i) filter after found) s e
    → Led first s0 e0 [] (asks_page after (page_call filter after) >>= behind_page (most - (i + 1)) filter after found) s e
asked_next first filter s0 s e0 e after found most i low led =
    let one : most - i ≡ suc (most - (i + 1)) = omega arith in
    asked_by first filter s0 s e0 e after found (most - (i + 1))
    (subst (λ (k : ℕ). Led first s0 e0 [] (pages k filter after found) s e) one led)

pub page_stops : (first : Course (List VlEntry)) (filter : Filter) (s0 s s1 : Asker) (e0 e e1 : List Exchange) (after : ℕ)
    (found : List VlEntry) (most i : ℕ) (why : Stop)
    (r : Result (List VlEntry) Stop) → i < most → Led first s0 e0 [] (pages (most - i) filter after found) s e
    → Ran (asks_page after (page_call filter after)) s s1 e e1 (Err why) → IsErrAnd r (λ (x : Stop). x ≡ why) → Ran first s0 s1 e0 e1 r
page_stops first filter s0 s s1 e0 e e1 after found most i why r low led ran end =
    led_ran (asked_next first filter s0 s e0 e after found most i low led)
    (ran_broken (behind_page (most - (i + 1)) filter after found) why r end refl ran)

pub page_lacks : (first : Course (List VlEntry)) (filter : Filter) (s0 s s1 : Asker) (e0 e e1 : List Exchange) (after : ℕ)
    (found : List VlEntry) (most i : ℕ) (es : List VlEntry)
    (r : Result (List VlEntry) Stop) → i < most → Led first s0 e0 [] (pages (most - i) filter after found) s e
    → Ran (asks_page after (page_call filter after)) s s1 e e1 (Ok es) → IsErrAnd r (λ (x : Stop). x ≡ stop.NoMemory)
    → Ran first s0 s1 e0 e1 r
page_lacks first filter s0 s s1 e0 e e1 after found most i es r low led ran end =
    led_ran (asked_next first filter s0 s e0 e after found most i low led)
    (ran_lacks (behind_page (most - (i + 1)) filter after found) es r end refl ran)

got_page : (first : Course (List VlEntry)) (filter : Filter) (s0 s s1 : Asker) (e0 e e1 : List Exchange) (after : ℕ)
    (found : List VlEntry) (most i : ℕ) (es : List VlEntry)
    → i < most → Led first s0 e0 [] (pages (most - i) filter after found) s e
    → Ran (asks_page after (page_call filter after)) s s1 e e1 (Ok es)
    → Led first s0 e0 [] (behind_page (most - (i + 1)) filter after found es) s1 e1
got_page first filter s0 s s1 e0 e e1 after found most i es low led ran =
    led_on (asked_next first filter s0 s e0 e after found most i low led)
    (led_gave es (behind_page (most - (i + 1)) filter after found) (ran_led es refl ran))

is_short : (n : ℕ) → n < 100 → ltb n 100 ≡ true
is_short n low = grind (arith, nat_tests)

is_full : (n : ℕ) → 100 ≤ n → ltb n 100 ≡ false
is_full n high = grind (arith, nat_tests)

pub page_last : (first : Course (List VlEntry)) (filter : Filter) (s0 s s1 : Asker) (e0 e e1 : List Exchange) (after : ℕ)
    (found : List VlEntry) (most i : ℕ) (es all : List VlEntry)
    → i < most → Led first s0 e0 [] (pages (most - i) filter after found) s e
    → Ran (asks_page after (page_call filter after)) s s1 e e1 (Ok es)
    → length es < 100 → all ≡ found ++ es → Ran first s0 s1 e0 e1 (Ok all)
page_last first filter s0 s s1 e0 e e1 after found most i es all low led ran few is =
    let more : Bool → Course (List VlEntry) = λ (b : Bool). cond b (gives (found ++ es))
    (pages (most - (i + 1)) filter (last_id after es) (found ++ es)) in
    let last : Led first s0 e0 [] (gives (found ++ es)) s1 e1
    = subst (λ (b : Bool). Led first s0 e0 [] (more b) s1 e1) (is_short (length es) few)
    (got_page first filter s0 s s1 e0 e e1 after found most i es low led ran) in
    subst (λ (xs : List VlEntry). Ran first s0 s1 e0 e1 (Ok xs)) (sym is) (ran_gave (found ++ es) last)

pub page_next : (first : Course (List VlEntry)) (filter : Filter) (s0 s s1 : Asker) (e0 e e1 : List Exchange) (after last : ℕ)
    (found : List VlEntry) (most i : ℕ) (es all : List VlEntry)
    → i < most → Led first s0 e0 [] (pages (most - i) filter after found) s e
    → Ran (asks_page after (page_call filter after)) s s1 e e1 (Ok es)
    → 100 ≤ length es → last ≡ last_id after es → all ≡ found ++ es → Led first s0 e0 [] (pages (most - (i + 1)) filter last all) s1 e1
page_next first filter s0 s s1 e0 e e1 after last found most i es all low led ran many last_is is =
    let more : Bool → Course (List VlEntry) = λ (b : Bool). cond b (gives (found ++ es))
    (pages (most - (i + 1)) filter (last_id after es) (found ++ es)) in
    let there : Led first s0 e0 [] (pages (most - (i + 1)) filter (last_id after es) (found ++ es)) s1 e1
    = subst (λ (b : Bool). Led first s0 e0 [] (more b) s1 e1) (is_full (length es) many)
    (got_page first filter s0 s s1 e0 e e1 after found most i es low led ran) in
    subst (λ (n : ℕ). Led first s0 e0 [] (pages (most - (i + 1)) filter n all) s1 e1) (sym last_is)
    (subst (λ (xs : List VlEntry). Led first s0 e0 [] (pages (most - (i + 1)) filter (last_id after es) xs) s1 e1) (sym is) there)

none_left : (first : Course (List VlEntry)) (filter : Filter) (s0 s : Asker) (e0 e : List Exchange) (after : ℕ) (found : List VlEntry)
    → Led first s0 e0 [] (pages zero filter after found) s e → Ran first s0 s e0 e (Ok found)
unfolding pages
none_left first filter s0 s e0 e after found led = ran_gave found led

pub pages_all : (first : Course (List VlEntry)) (filter : Filter) (s0 s : Asker) (e0 e : List Exchange) (after : ℕ)
    (found : List VlEntry) (most i : ℕ)
    → most ≤ i → Led first s0 e0 [] (pages (most - i) filter after found) s e → Ran first s0 s e0 e (Ok found)
pages_all first filter s0 s e0 e after found most i high led =
    let none : most - i ≡ 0 = omega arith in
    none_left first filter s0 s e0 e after found (subst (λ (k : ℕ). Led first s0 e0 [] (pages k filter after found) s e) none led)
