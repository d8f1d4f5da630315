-- The list of a version begins those of all that go on from it; and lists stay.
use Rattle.std.proofs.Common.{Bool, true, false, cond, ◌≡◌, inl, inr, ℕ, ◌≤◌, List, [], ◌∷◌, ◌++◌}
use Rattle.std.proofs.Common.{refl, sym, ap, subst, ◌∙◌, append_assoc, arith}
use Rattle.std.proofs.lemmas.Bool.Decides.{nat_tests}
use Rattle.std.proofs.lemmas.List.{append-nil}
use Rattle.std.specs.Prelude.{Option, Some, None, unwrap_or}
use Rattle.ubik_types.specs.declared.versions.Version.{Version}
use Rattle.ubik_types.specs.Version.{version_lt, version_eq, zero_version}
use Rattle.cell_model.specs.Book.{Book, BookVersion, Announcement, list_of, list_or_none, with_version, entered, announced}
use Rattle.cell_model.specs.Durable.{Transaction, Reason, Own_relabelling, Committed, Received, version_after}
use Rattle.cell_model.specs.Laws.{Begins, AllBegin, Grows}
use Rattle.cell_model.specs.World.{Happening, Sent, Announced, Replied, Lost, Stops, Halts, Restarts, Stays_down}
use Rattle.cell_model.specs.World.{Entry}
use Rattle.cell_pages.specs.Laws.{IsNew, MadeOnce, KeepsLists}
use Rattle.cell_pages.specs.Pages.{VersionsRise, IsAbove, IsPageOn, PagesFollow, taken}
use Rattle.cell_pages.specs.Parts.{AtMost}
use Rattle.cell_pages.proofs.Once.{differs}
use Rattle.cell_pages.proofs.Versions.{same_of_eq}
use Rattle.cell_orders.specs.Kept.{ListsOf, versions_in}
use Rattle.cell_orders.specs.Orders.{AllAnnounced, IsListed, FollowFrom, AnnouncedRise}
use Rattle.cell_orders.proofs.Orderings.{at_most_not, not_above}

-- ---- lists that begin one another

pub begins_itself : (l : List Transaction) → Begins l l
begins_itself l = ([], sym (append-nil l))

pub begins_more : (a b more : List Transaction) → Begins a b → Begins a (b ++ more)
begins_more a b more is = (is.0 ++ more, ap (λ (l : List Transaction). l ++ more) is.1 ∙ append_assoc a is.0 more)

-- of two versions that differ the one that is not above is below
pub below_of : (u v : Version) → AtMost u v → version_eq v u ≡ false → version_lt u v ≡ true
below_of u v at_most differ = by (version_lt u v) refl
  where
    by : (t : Bool) → version_lt u v ≡ t → version_lt u v ≡ true
    by true is = is
    by false is = absurd (equal at_most (at_most_not u v is))
      where
        equal : AtMost u v → AtMost v u → ⊥
        equal (inl x) (inl y) = omega arith
        equal (inl x) (inr y) = let e : v.epoch ≡ u.epoch = y.0 in omega arith
        equal (inr x) (inl y) = let e : u.epoch ≡ v.epoch = x.0 in omega arith
        equal (inr x) (inr y) =
            let first : u.counter ≤ v.counter = x.1 in
            let second : v.counter ≤ u.counter = y.1 in
            let same : version_eq v u ≡ true = (let e : v.epoch ≡ u.epoch = y.0 in let c : v.counter ≡ u.counter = omega arith in
            grind (arith, nat_tests)) in
            absurd (let is : true ≡ false = sym same ∙ differ in cc)

-- what is listed is below a version that is above all
pub listed_below : (w v : Version) (book : Book) (list : List Transaction) → IsAbove w book → IsNew w book → list_of book v ≡ Some list →
    AtMost w v → ⊥
listed_below w v [] list above is_new listed at_most = none (version_eq zero_version v) refl listed
  where
    none : (t : Bool) → version_eq zero_version v ≡ t → cond t (Some []) None ≡ Some list → ⊥
    none true same is = is_new (zero_only (subst (AtMost w) (sym (same_of_eq zero_version v same)) at_most))
      where
        zero_only : AtMost w zero_version → w ≡ zero_version
        zero_only (inl less) = absurd (omega arith)
        zero_only (inr is) =
            let epoch : w.epoch ≡ 0 = is.0 in
            let counter : w.counter ≡ 0 = (let less : w.counter ≤ 0 = is.1 in omega arith) in
            ap (λ (e : ℕ). record { epoch = e; counter = w.counter }) epoch
            ∙ ap (λ (c : ℕ). record { epoch = 0; counter = c }) counter
    none false same is = absurd (cc)
listed_below w v (b ∷ book) list above is_new listed at_most =
    by (version_eq b.version v) refl listed (λ is. listed_below w v book list above.1 is_new.1 is at_most)
  where
    by : (t : Bool) → version_eq b.version v ≡ t → cond t (Some b.transactions) (list_of book v) ≡ Some list →
        (list_of book v ≡ Some list → ⊥) → ⊥
    by true same is rest = not_above b.version w (subst (AtMost w) (sym (same_of_eq b.version v same)) at_most) above.0
    by false same is rest = rest is

pub same_list : (x y : List Transaction) → Some x ≡ Some y → x ≡ y
same_list x y is = cc

-- the list of a version from which all above it go on begins theirs
pub begins : (book : Book) (u v : Version) (l list : List Transaction) → MadeOnce book → VersionsRise book → PagesFollow book →
    FollowFrom book u → list_of book u ≡ Some l → list_of book v ≡ Some list → AtMost u v → Begins l list
begins [] u v l list once rise pages follow at_u at_v at_most =
    by (version_eq zero_version u) (version_eq zero_version v) at_u at_v
  where
    by : (s t : Bool) → cond s (Some []) None ≡ Some l → cond t (Some []) None ≡ Some list → Begins l list
    by true true is_u is_v =
        let first : [] ≡ l = cc in
        let second : [] ≡ list = cc in
        subst (λ (a : List Transaction). Begins a list) first (subst (Begins []) second (begins_itself []))
    by true false is_u is_v = absurd (cc)
    by false t is_u is_v = absurd (cc)
begins (b ∷ book) u v l list once rise pages follow at_u at_v at_most =
    by (version_eq b.version u) (version_eq b.version v) refl refl at_u at_v
    (λ x more is_u at_x less. begins book u x l more once.1 rise.1 pages.1 follow.1 is_u at_x less)
  where
    by : (s t : Bool) → version_eq b.version u ≡ s → version_eq b.version v ≡ t → cond s (Some b.transactions) (list_of book u) ≡ Some l →
        cond t (Some b.transactions) (list_of book v) ≡ Some list →
        ((x : Version) (more : List Transaction) → list_of book u ≡ Some l → list_of book x ≡ Some more → AtMost u x → Begins l more) →
        Begins l list
    by true true same_u same_v is_u is_v rest =
        subst (λ (a : List Transaction). Begins a list) (same_list b.transactions l is_u)
        (subst (Begins b.transactions) (same_list b.transactions list is_v) (begins_itself b.transactions))
    by true false same_u same_v is_u is_v rest =
        absurd (listed_below b.version v book list rise.0 once.0 is_v
        (subst (λ (x : Version). AtMost x v) (sym (same_of_eq b.version u same_u)) at_most))
    by false true same_u same_v is_u is_v rest =
        let here : b.version ≡ v = same_of_eq b.version v same_v in
        let less : version_lt u b.version ≡ true = below_of u b.version (subst (AtMost u) (sym here) at_most) same_u in
        let page : IsPageOn book b = pages.0 in
        subst (Begins l) (sym page.list_is ∙ same_list b.transactions list is_v)
        (begins_more l page.list (taken b.transaction) (rest b.before page.list is_u page.listed (follow.0 less)))
    by false false same_u same_v is_u is_v rest = rest v list is_u is_v at_most

-- ---- the announcements of a run

pub all_begin : (book : Book) (announcements : List Announcement) (v : Version) (list : List Transaction) → MadeOnce book → VersionsRise book →
    PagesFollow book → list_of book v ≡ Some list → ListsOf book announcements → AllAnnounced (FollowFrom book) (versions_in announcements) →
    AllAnnounced (λ u. AtMost u v) (versions_in announcements) → AllBegin announcements list
all_begin book [] v list once rise pages listed lists follow at_most = tt
all_begin book (a ∷ announcements) v list once rise pages listed lists follow at_most = (
  begins book a.version v a.transactions list once rise pages follow.0 lists.0 listed at_most.0,
  all_begin book announcements v list once rise pages listed lists.1 follow.1 at_most.1,
)

pub grows : (book : Book) (announcements : List Announcement) → MadeOnce book → VersionsRise book → PagesFollow book →
    ListsOf book announcements → AllAnnounced (FollowFrom book) (versions_in announcements) → AnnouncedRise (versions_in announcements) →
    Grows announcements
grows book [] once rise pages lists follow rising = tt
grows book (a ∷ announcements) once rise pages lists follow rising = (
  all_begin book announcements a.version a.transactions once rise pages lists.0 lists.1 follow.1 rising.0,
  grows book announcements once rise pages lists.1 follow.1 rising.1,
)

-- ---- lists stay

pub once_less : (book : Book) (entries : List Entry) → MadeOnce (entered book entries) → MadeOnce book
once_less book [] once = once
once_less book (e ∷ entries) once =
    by e.made.reason (once_less (with_version book e.server e.before (version_after e.made.call) e.made.reason) entries once)
  where
    by : (r : Reason) → MadeOnce (with_version book e.server e.before (version_after e.made.call) r) → MadeOnce book
    by Own_relabelling once = once.1
    by (Committed t) once = once.1
    by Received once = once

pub kept_behind : (b : BookVersion) (book : Book) (v : Version) (list : List Transaction) → IsNew b.version book → list_of book v ≡ Some list →
    list_of (b ∷ book) v ≡ Some list
kept_behind b book v list is_new is =
    ap (λ (t : Bool). cond t (Some b.transactions) (list_of book v)) (differs v b.version book list is_new is) ∙ is

pub keeps_lists : (book : Book) (entries : List Entry) → MadeOnce (entered book entries) → KeepsLists book (entered book entries)
keeps_lists book [] once v list is = is
keeps_lists book (e ∷ entries) once v list is =
    keeps_lists (with_version book e.server e.before (version_after e.made.call) e.made.reason) entries once v list
    (by e.made.reason (once_less (with_version book e.server e.before (version_after e.made.call) e.made.reason) entries once))
  where
    by : (r : Reason) → MadeOnce (with_version book e.server e.before (version_after e.made.call) r) →
        list_of (with_version book e.server e.before (version_after e.made.call) r) v ≡ Some list
    by Own_relabelling once =
        kept_behind
        (record {
          version = version_after e.made.call;
          before = e.before;
          transaction = None;
          maker = e.server;
          transactions = list_or_none book e.before;
        }) book v list once.0 is
    by (Committed t) once =
        kept_behind
        (record {
          version = version_after e.made.call;
          before = e.before;
          transaction = Some t;
          maker = e.server;
          transactions = list_or_none book e.before ++ t ∷ [];
        }) book v list once.0 is
    by Received once = is

pub lists_later : (book later : Book) (announcements : List Announcement) → KeepsLists book later → ListsOf book announcements →
    ListsOf later announcements
lists_later book later [] keeps lists = tt
lists_later book later (a ∷ announcements) keeps lists =
    (keeps a.version a.transactions lists.0, lists_later book later announcements keeps lists.1)

pub listed_or_none : (book : Book) (v : Version) → IsListed book v → list_of book v ≡ Some (list_or_none book v)
listed_or_none book v is =
    is.1 ∙ ap (λ (l : List Transaction). Some l) (sym (ap (λ (o : Option (List Transaction)). unwrap_or o []) is.1))

-- of more announcements those before them
pub all_less : (P : Version → Type 0) (book : Book) (seen : List Happening) (before : List Announcement) →
    AllAnnounced P (versions_in (announced book seen before)) → AllAnnounced P (versions_in before)
all_less P book [] before all = all
all_less P book (Sent number packet ∷ seen) before all = all_less P book seen before all
all_less P book (Announced server version ∷ seen) before all = (all_less P book seen _ all).1
all_less P book (Replied server id r evaluation ∷ seen) before all = all_less P book seen before all
all_less P book (Lost number ∷ seen) before all = all_less P book seen before all
all_less P book (Stops server ∷ seen) before all = all_less P book seen before all
all_less P book (Halts server ∷ seen) before all = all_less P book seen before all
all_less P book (Restarts server version ∷ seen) before all = all_less P book seen before all
all_less P book (Stays_down server ∷ seen) before all = all_less P book seen before all

-- each that is seen has the list of its version
pub lists_seen : (book : Book) (seen : List Happening) (before : List Announcement) → ListsOf book before →
    AllAnnounced (IsListed book) (versions_in (announced book seen before)) → ListsOf book (announced book seen before)
lists_seen book [] before lists all = lists
lists_seen book (Sent number packet ∷ seen) before lists all = lists_seen book seen before lists all
lists_seen book (Announced server version ∷ seen) before lists all =
    lists_seen book seen _ (listed_or_none book version (all_less (IsListed book) book seen _ all).0, lists) all
lists_seen book (Replied server id r evaluation ∷ seen) before lists all = lists_seen book seen before lists all
lists_seen book (Lost number ∷ seen) before lists all = lists_seen book seen before lists all
lists_seen book (Stops server ∷ seen) before lists all = lists_seen book seen before lists all
lists_seen book (Halts server ∷ seen) before lists all = lists_seen book seen before lists all
lists_seen book (Restarts server version ∷ seen) before lists all = lists_seen book seen before lists all
lists_seen book (Stays_down server ∷ seen) before lists all = lists_seen book seen before lists all
