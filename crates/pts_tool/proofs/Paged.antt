-- Pages that are read, call by call.
use Rattle.std.proofs.Common.{◌≡◌, ℕ, ℤ, ◌+◌, ◌-◌, ◌≤◌, ◌<◌, zero, suc, Bool, true, false, nat_lt, if◌then◌else◌, arith, List, [], ◌∷◌, ◌++◌, length, get_or, Result, Ok, Err, refl, ap, subst, sym}
use Rattle.std.proofs.lemmas.Bool.{lt-ltb, le-ltb}
use Rattle.io_base.specs.declared.links.Exchange.{Exchange}
use Rattle.pt_calls.specs.declared.answers.PtEntry.{PtEntry}
use Rattle.pt_calls.specs.declared.calls.PtCall.{PtCall}
use Rattle.pt_calls.specs.declared.calls.PtCall.TheVariants as call
use Rattle.tool_base.specs.Course.{◌>>=◌, Asker, Course, gives}
use Rattle.tool_base.specs.Running.{Led, Ran}
use Rattle.tool_base.specs.declared.stops.Stop.{Stop}
use Rattle.tool_base.specs.declared.stops.Stop.TheVariants as stop
use Rattle.tool_base.proofs.Walking.{led_gave, led_on, led_ran, led_start, ran_gave, ran_led, ran_short, ran_stops}
use Rattle.pts_tool.specs.Answers.{page_in}
use Rattle.pts_tool.specs.Asking.{asks}
use Rattle.pts_tool.specs.Courses.{lists_pages}
use Rattle.pts_tool.specs.Pages.{last_id}
use Rattle.pts_tool.specs.Texts.{rows}

-- what follows a page
abbrev behind_page : ℕ → ℕ → ℤ → List ℕ → List PtEntry → Course (List ℕ)
behind_page count kinds after text page =
    if nat_lt (length page) 100 then gives (text ++ rows page) else lists_pages count kinds (last_id after page) (text ++ rows page)

one_left : (n i : ℕ) → i < n → n - i ≡ suc (n - (i + 1))
one_left n i lt = omega arith

next_is : (count kinds : ℕ) (after : ℤ) (text : List ℕ) →
    lists_pages (suc count) kinds after text ≡ (asks page_in (call.ListEntries kinds after) >>= behind_page count kinds after text)
unfolding lists_pages
next_is count kinds after text = refl

none_is : (kinds : ℕ) (after : ℤ) (text : List ℕ) → lists_pages zero kinds after text ≡ gives text
unfolding lists_pages
none_is kinds after text = refl

pub pages_start : (n kinds : ℕ) (after : ℤ) (text : List ℕ) (s : Asker) (e : List Exchange)
    → Led (lists_pages n kinds after text) s e [] (lists_pages (n - 0) kinds after text) s e
pages_start n kinds after text s e =
    let all : n ≡ n - 0 = omega arith in
    subst (λ (k : ℕ). Led (lists_pages n kinds after text) s e [] (lists_pages k kinds after text) s e) all
    (led_start (lists_pages n kinds after text) s e)

next_page : (first : Course (List ℕ)) (n i kinds : ℕ) (after : ℤ) (text : List ℕ) (s0 s : Asker) (e0 e : List Exchange) → i < n
    → Led first s0 e0 [] (lists_pages (n - i) kinds after text) s e
    → Led first s0 e0 [] (asks page_in (call.ListEntries kinds after) >>= behind_page (n - (i + 1)) kinds after text) s e
next_page first n i kinds after text s0 s e0 e lt led =
    let at : Led first s0 e0 [] (lists_pages (suc (n - (i + 1))) kinds after text) s e
    = subst (λ (k : ℕ). Led first s0 e0 [] (lists_pages k kinds after text) s e) (one_left n i lt) led in
    subst (λ (c : Course (List ℕ)). Led first s0 e0 [] c s e) (next_is (n - (i + 1)) kinds after text) at

pub page_stop : (first : Course (List ℕ)) (n i kinds : ℕ) (after : ℤ) (text : List ℕ) (s0 s s1 : Asker) (e0 e e1 : List Exchange)
    (why : Stop) (q : PtCall) → i < n
    → Led first s0 e0 [] (lists_pages (n - i) kinds after text) s e → Ran (asks page_in q) s s1 e e1 (Err why)
    → q ≡ call.ListEntries kinds after
    → Ran first s0 s1 e0 e1 (Err why)
page_stop first n i kinds after text s0 s s1 e0 e e1 why q lt led ran is =
    led_ran (next_page first n i kinds after text s0 s e0 e lt led)
    (ran_stops (behind_page (n - (i + 1)) kinds after text) why refl (rw is at ran))

-- a page came, and what follows it is left
came : (first : Course (List ℕ)) (n i kinds : ℕ) (after : ℤ) (text : List ℕ) (s0 s s1 : Asker) (e0 e e1 : List Exchange)
    (page : List PtEntry) → i < n
    → Led first s0 e0 [] (lists_pages (n - i) kinds after text) s e → Ran (asks page_in (call.ListEntries kinds after)) s s1 e e1 (Ok page)
    → Led first s0 e0 [] (behind_page (n - (i + 1)) kinds after text page) s1 e1
came first n i kinds after text s0 s s1 e0 e e1 page lt led ran =
    led_on (next_page first n i kinds after text s0 s e0 e lt led)
    (led_gave page (behind_page (n - (i + 1)) kinds after text) (ran_led page refl ran))

-- memory ran out for its rows
pub page_short : (first : Course (List ℕ)) (n i kinds : ℕ) (after : ℤ) (text : List ℕ) (s0 s s1 : Asker) (e0 e e1 : List Exchange)
    (page : List PtEntry) (q : PtCall) → i < n
    → Led first s0 e0 [] (lists_pages (n - i) kinds after text) s e → Ran (asks page_in q) s s1 e e1 (Ok page)
    → q ≡ call.ListEntries kinds after
    → Ran first s0 s1 e0 e1 (Err stop.NoMemory)
page_short first n i kinds after text s0 s s1 e0 e e1 page q lt led ran asked =
    led_ran (came first n i kinds after text s0 s s1 e0 e e1 page lt led (rw asked at ran))
    (ran_short (behind_page (n - (i + 1)) kinds after text page) s1 e1)

-- a page that is not full is the last
pub page_last : (first : Course (List ℕ)) (n i kinds : ℕ) (after : ℤ) (text now : List ℕ) (s0 s s1 : Asker) (e0 e e1 : List Exchange)
    (page : List PtEntry) (q : PtCall) → i < n
    → length page < 100 → now ≡ text ++ rows page
    → Led first s0 e0 [] (lists_pages (n - i) kinds after text) s e → Ran (asks page_in q) s s1 e e1 (Ok page)
    → q ≡ call.ListEntries kinds after
    → Ran first s0 s1 e0 e1 (Ok now)
page_last first n i kinds after text now s0 s s1 e0 e e1 page q lt few is led ran asked =
    let short : nat_lt (length page) 100 ≡ true = lt-ltb _ _ few in
    let at : Led first s0 e0 [] (gives (text ++ rows page)) s1 e1
    = rw short at (came first n i kinds after text s0 s s1 e0 e e1 page lt led (rw asked at ran)) in
    rw is (ran_gave (text ++ rows page) at)

-- a full one is not
pub page_next : (first : Course (List ℕ)) (n i kinds : ℕ) (after last : ℤ) (text now : List ℕ) (s0 s s1 : Asker)
    (e0 e e1 : List Exchange) (page : List PtEntry) (q : PtCall) → i < n
    → 100 ≤ length page → now ≡ text ++ rows page → last ≡ last_id after page
    → Led first s0 e0 [] (lists_pages (n - i) kinds after text) s e → Ran (asks page_in q) s s1 e e1 (Ok page)
    → q ≡ call.ListEntries kinds after
    → Led first s0 e0 [] (lists_pages (n - (i + 1)) kinds last now) s1 e1
page_next first n i kinds after last text now s0 s s1 e0 e e1 page q lt many is ends led ran asked =
    let full : nat_lt (length page) 100 ≡ false = le-ltb _ _ many in
    rw (is, ends) (rw full at (came first n i kinds after text s0 s s1 e0 e e1 page lt led (rw asked at ran)))

pub pages_all : (first : Course (List ℕ)) (n i kinds : ℕ) (after : ℤ) (text : List ℕ) (s0 s : Asker) (e0 e : List Exchange) → n ≤ i
    → Led first s0 e0 [] (lists_pages (n - i) kinds after text) s e → Ran first s0 s e0 e (Ok text)
pages_all first n i kinds after text s0 s e0 e le led =
    let none : n - i ≡ zero = omega arith in
    let at : Led first s0 e0 [] (lists_pages zero kinds after text) s e
    = subst (λ (k : ℕ). Led first s0 e0 [] (lists_pages k kinds after text) s e) none led in
    ran_gave text (subst (λ (c : Course (List ℕ)). Led first s0 e0 [] c s e) (none_is kinds after text) at)

-- the id of the last entry
pub last_is : (after : ℤ) (entries : List PtEntry) (x : PtEntry) → 1 ≤ length entries → x ≡ get_or entries (length entries - 1) x
    → x.id ≡ last_id after entries
last_is after [] x some is = absurd (omega arith)
last_is after (entry ∷ []) x some is = ap (λ (e : PtEntry). e.id) is
last_is after (entry ∷ next ∷ entries) x some is =
    let one_less : length (entry ∷ next ∷ entries) - 1 ≡ suc (length (next ∷ entries) - 1) = omega arith in
    last_is entry.id (next ∷ entries) x (omega arith) (rw (one_less) at is)
