-- Replies that a database gave, one after the other: each is evaluated on the order of its moment, or on a front of it.
use Rattle.std.proofs.Common.{◌≡◌, inl, inr, ℕ, ◌+◌, List, [], ◌∷◌, ◌++◌, refl, sym, ap, subst, ◌∙◌, append_assoc, arith}
use Rattle.std.specs.Prelude.{Option, Some, None, slice_get}
use Rattle.std.specs.List.{AllByRecursion}
use Rattle.ubik_types.specs.declared.versions.Version.{Version}
use Rattle.ubik_calls.specs.declared.replies.Reply.{Reply}
use Rattle.ubik_calls.specs.declared.replies.Reply.TheVariants as reply
use Rattle.db_image.specs.Database.{Database, changes_of}
use Rattle.cell_model.specs.Book.{Acknowledgement}
use Rattle.cell_model.specs.Book.{Book, Announcement, Given, list_of, list_or_none, announced, order_of, order_at, given}
use Rattle.cell_model.specs.Durable.{Transaction}
use Rattle.cell_model.specs.KeptLaws.{ChangesNothing, IsPlaced, version_under, IsReplyOf, order_behind}
use Rattle.cell_model.specs.Laws.{Begins}
use Rattle.cell_model.specs.SingleCopy.{image_after}
use Rattle.cell_model.specs.Step.{Basis, Announced_image, Beacon_image, Commit_on, Evaluation}
use Rattle.cell_model.specs.World.{Happening, Sent, Announced, Replied, Lost, Stops, Halts, Restarts, Stays_down}
use Rattle.cell_model.specs.Writes.{next_version}
use Rattle.cell_model.proofs.BookVersions.{newest, list_is, image_from-append}
use Rattle.cell_model.proofs.BlockChanges.{same_image}
use Rattle.cell_pages.specs.Laws.{MadeOnce, KeepsLists}
use Rattle.cell_pages.specs.Moves.{transaction_of}
use Rattle.cell_pages.specs.Pages.{GoesOnFrom, VersionsRise, IsPageOn, PagesFollow, taken}
use Rattle.cell_pages.specs.Parts.{AtMost}
use Rattle.cell_pages.proofs.Keeping.{one_list}
use Rattle.cell_pages.proofs.Versions.{at_most_same}
use Rattle.cell_orders.specs.Acknowledged.{IsAnnounced, IsMade}
use Rattle.cell_orders.specs.Kept.{ListsOf, versions_in}
use Rattle.cell_orders.specs.Orders.{AllAnnounced, IsListed, FollowFrom, AnnouncedRise, IsLast}
use Rattle.cell_orders.specs.Replies.{LeavesCopy, transaction_in, HasEvaluation, served_list, PrefixesStay}
use Rattle.cell_orders.specs.Replies.{version_in_reply, order_with, IsOrderAt, IsSingleReply, IsAtSync, IsGivenAt, ServedRise}
use Rattle.cell_orders.specs.Served.{LeavesBlocks, EndsIn, Beyond, IsServedOn, IsServedReply}
use Rattle.cell_orders.proofs.Acknowledging.{at_front, announced_get}
use Rattle.cell_orders.proofs.Lists.{kept_behind, begins, listed_or_none, all_less}
use Rattle.cell_orders.proofs.Orderings.{at_most_then, all_at_most}
use Rattle.cell_orders.proofs.Runs.{SeenServed, SeenCalled}
use Rattle.cell_orders.proofs.Serving.{last_told, told_newer, ends_itself, ends_then}

-- the list of the version that was announced last is the order
pub of_last : (book : Book) (announcements : List Announcement) (v : Version) (list : List Transaction) → ListsOf book announcements →
    IsLast (versions_in announcements) v → list_of book v ≡ Some list → list ≡ order_of announcements
of_last book [] v list lists last listed = absurd last
of_last book (a ∷ announcements) v list lists last listed =
    one_list book v list a.transactions listed (subst (λ (u : Version). list_of book u ≡ Some a.transactions) last lists.0)

-- ---- the version that a commit made

next_same : (a b : Version) → next_version a ≡ next_version b → a ≡ b
next_same a b is =
    let epoch : a.epoch ≡ b.epoch = ap (λ (v : Version). v.epoch) is in
    let next : a.counter + 1 ≡ b.counter + 1 = ap (λ (v : Version). v.counter) is in
    let counter : a.counter ≡ b.counter = omega arith in
    ap (λ (e : ℕ). record { epoch = e; counter = a.counter }) epoch ∙ ap (λ (c : ℕ). record { epoch = b.epoch; counter = c }) counter

-- it has the list of the one before, and then its transaction
made_page : (book : Book) (old new : Version) (t : Transaction) → MadeOnce book → PagesFollow book → IsMade book new t →
    new ≡ next_version old → (front : List Transaction) × (list_of book new ≡ Some (front ++ t ∷ [])) × (list_of book old ≡ Some front)
made_page [] old new t once pages is next = absurd is
made_page (b ∷ book) old new t once pages (inl is) next =
    let page : IsPageOn book b = pages.0 in
    let goes : b.version ≡ next_version b.before = subst (λ (o : Option Transaction). GoesOnFrom o b.before b.version) is.1 page.goes_on in
    let before : b.before ≡ old = next_same b.before old (sym goes ∙ is.0 ∙ next) in (
      page.list,
      subst (λ (u : Version). list_of (b ∷ book) u ≡ Some (page.list ++ t ∷ [])) is.0
          (newest b book
          ∙ ap (λ (l : List Transaction). Some l)
          (page.list_is ∙ ap (λ (o : Option Transaction). page.list ++ taken o) is.1)),
      subst (λ (u : Version). list_of (b ∷ book) u ≡ Some page.list) before
          (kept_behind b book b.before page.list once.0 page.listed),
    )
made_page (b ∷ book) old new t once pages (inr is) next =
    let rest = made_page book old new t once.1 pages.1 is next in (
      rest.0,
      kept_behind b book new (rest.0 ++ t ∷ []) once.0 rest.1,
      kept_behind b book old rest.0 once.0 rest.2,
    )

made_on : (book : Book) (old new : Version) (t : Transaction) (list : List Transaction) → MadeOnce book → PagesFollow book →
    IsMade book new t → new ≡ next_version old → list_of book old ≡ Some list → list_of book new ≡ Some (list ++ t ∷ [])
made_on book old new t list once pages is next listed =
    let page = made_page book old new t once pages is next in
    subst (λ (l : List Transaction). list_of book new ≡ Some (l ++ t ∷ [])) (one_list book old page.0 list page.2 listed) page.1

-- ---- announced versions

-- of these the ones before
ends_all : (P : Version → Type 0) (before announced : List Version) → EndsIn before announced → AllAnnounced P announced →
    AllAnnounced P before
ends_all P before announced ends all = by ends.0 (subst (AllAnnounced P) ends.1 all)
  where
    by : (newer : List Version) → AllAnnounced P (newer ++ before) → AllAnnounced P before
    by [] all = all
    by (v ∷ newer) all = by newer all.1

ends_rise : (before announced : List Version) → EndsIn before announced → AnnouncedRise announced → AnnouncedRise before
ends_rise before announced ends rise = by ends.0 (subst AnnouncedRise ends.1 rise)
  where
    by : (newer : List Version) → AnnouncedRise (newer ++ before) → AnnouncedRise before
    by [] rise = rise
    by (v ∷ newer) rise = by newer rise.1

pub ends_told : (before announced : List Version) (v : Version) → EndsIn before announced → IsAnnounced before v → IsAnnounced announced v
ends_told before announced v ends is =
    subst (λ (l : List Version). IsAnnounced l v) (sym ends.1) (told_newer ends.0 before v is)

-- an announced version is at most the last one
told_most : (announced : List Version) (u v : Version) → AnnouncedRise announced → IsLast announced v → IsAnnounced announced u → AtMost u v
told_most [] u v rise last is = absurd last
told_most (newest_one ∷ earlier) u v rise last is =
    subst (AtMost u) last
    (announced_get (λ w. AtMost w newest_one) (newest_one ∷ earlier) u (all_at_most (newest_one ∷ earlier) rise) is)

-- what a reply of a basis served stands for, by the announcements before it
record Stands (book : Book) (ann : List Announcement) (t : Transaction) (list : List Transaction) (b : Basis) : Type 0 where
  at : IsOrderAt b list (order_at b ann)
  told : IsAnnounced (versions_in ann) (version_under b)
  upper : Version
  upper_told : IsAnnounced (versions_in ann) upper
  upper_listed : list_of book upper ≡ Some (order_behind b (order_at b ann) t)

announced_ends : (book : Book) (seen : List Happening) (ann : List Announcement) →
    EndsIn (versions_in ann) (versions_in (announced book seen ann))
announced_ends book [] ann = ends_itself (versions_in ann)
announced_ends book (Sent number packet ∷ seen) ann = announced_ends book seen ann
announced_ends book (Announced server version ∷ seen) ann =
    ends_then (versions_in ann) (version ∷ versions_in ann) _ (version ∷ [], refl)
    (announced_ends book seen (record { server = server; version = version; transactions = list_or_none book version } ∷ ann))
announced_ends book (Replied server id r e ∷ seen) ann = announced_ends book seen ann
announced_ends book (Lost number ∷ seen) ann = announced_ends book seen ann
announced_ends book (Stops server ∷ seen) ann = announced_ends book seen ann
announced_ends book (Halts server ∷ seen) ann = announced_ends book seen ann
announced_ends book (Restarts server version ∷ seen) ann = announced_ends book seen ann
announced_ends book (Stays_down server ∷ seen) ann = announced_ends book seen ann

given_map : (db : Database) (book later : Book) (told after : List Version) (V W : ℕ → Version) (g : Given) → KeepsLists book later →
    ((v : Version) → IsAnnounced told v → IsAnnounced after v) → ((j : ℕ) → AtMost (V j) (W j)) → IsGivenAt db book told V g →
    IsGivenAt db later after W g
given_map db book later told after V W g keeps more rise is = record {
  list = is.list;
  listed = keeps (version_in_reply g) is.list is.listed;
  replied = is.replied;
  at = is.at;
  announced = more (version_in_reply g) is.announced;
  upper = is.upper;
  upper_announced = more is.upper is.upper_announced;
  upper_listed = keeps is.upper (order_with g) is.upper_listed;
  reached = at_most_then (version_in_reply g) (V g.server) (W g.server) is.reached (rise g.server);
  leaves = is.leaves;
}

pub givens_map : (P Q : Given → Type 0) (gs : List Given) → ((g : Given) → P g → Q g) → AllByRecursion P gs → AllByRecursion Q gs
givens_map P Q [] f all = tt
givens_map P Q (g ∷ gs) f all = (f g all.0, givens_map P Q gs f all.1)

pub givens_later : (db : Database) (book later : Book) (told after : List Version) (V W : ℕ → Version) (gs : List Given) →
    KeepsLists book later → ((v : Version) → IsAnnounced told v → IsAnnounced after v) → ((j : ℕ) → AtMost (V j) (W j)) →
    AllByRecursion (IsGivenAt db book told V) gs → AllByRecursion (IsGivenAt db later after W) gs
givens_later db book later told after V W gs keeps more rise all =
    givens_map (IsGivenAt db book told V) (IsGivenAt db later after W) gs
    (λ g is. given_map db book later told after V W g keeps more rise is) all

givens_append : (P : Given → Type 0) (front back : List Given) → AllByRecursion P front → AllByRecursion P back →
    AllByRecursion P (front ++ back)
givens_append P [] back all rest = rest
givens_append P (g ∷ front) back all rest = (all.0, givens_append P front back all.1 rest)

-- the order before an event begins that of each reply of the sync site in it
abbrev pub Behind : List Transaction → Given → Type 0
Behind order g = IsAtSync g.evaluation.basis → Begins order g.order

abbrev pub Newer : List Transaction → List Given → List Given → Type 0
Newer order before later = (new : List Given) × (later ≡ new ++ before) × AllByRecursion (Behind order) new

pub begins_then : (a b c : List Transaction) → Begins a b → Begins b c → Begins a c
begins_then a b c one two =
    (one.0 ++ two.0, two.1 ∙ ap (λ (l : List Transaction). l ++ two.0) one.1 ∙ append_assoc a one.0 two.0)

pub newer_both : (order middle : List Transaction) (first second third : List Given) → Begins order middle → Newer order first second →
    Newer middle second third → Newer order first third
newer_both order middle first second third begins one two = (
  two.0 ++ one.0,
  two.1 ∙ ap (λ (l : List Given). two.0 ++ l) one.1 ∙ sym (append_assoc two.0 one.0 first),
  givens_append (Behind order) two.0 one.0
      (givens_map (Behind middle) (Behind order) two.0 (λ g is sync. begins_then order middle g.order begins (is sync)) two.2) one.2,
)

-- what has its place in an order has it in each that goes on from that
pub placed_on : (order later : List Transaction) (acks : List Acknowledgement) → Begins order later →
    AllByRecursion (IsPlaced order) acks → AllByRecursion (IsPlaced later) acks
placed_on order later [] begins all = tt
placed_on order later (a ∷ acks) begins all = (
  subst (λ (l : List Transaction). slice_get l a.place ≡ Some a.transaction) (sym begins.1)
      (at_front order begins.0 a.place a.transaction all.0),
  placed_on order later acks begins all.1,
)

-- each Ok and each Rule that is seen has an evaluation
pub evaluated : (db : Database) (book : Book) (V : ℕ → Version) (seen : List Happening) (since a : List Version) →
    SeenServed db book V since a seen → AllByRecursion HasEvaluation seen
evaluated db book V [] since a served = tt
evaluated db book V (Announced server version ∷ seen) since a served = (tt, evaluated db book V seen since (version ∷ a) served)
evaluated db book V (Replied server id r None ∷ seen) since a served = (served.0, evaluated db book V seen a a served.1)
evaluated db book V (Replied server id r (Some e) ∷ seen) since a served = (tt, evaluated db book V seen a a served.1)
evaluated db book V (Sent number packet ∷ seen) since a served = (tt, evaluated db book V seen since a served)
evaluated db book V (Lost number ∷ seen) since a served = (tt, evaluated db book V seen since a served)
evaluated db book V (Stops server ∷ seen) since a served = (tt, evaluated db book V seen since a served)
evaluated db book V (Halts server ∷ seen) since a served = (tt, evaluated db book V seen since a served)
evaluated db book V (Restarts server version ∷ seen) since a served = (tt, evaluated db book V seen since a served)
evaluated db book V (Stays_down server ∷ seen) since a served = (tt, evaluated db book V seen since a served)

-- each reply is to a call that was asked
pub givens_called : (Called : ℕ → ℕ → List ℕ → Type 0) (book : Book) (seen : List Happening) (ann : List Announcement)
    (before : List Given) → SeenCalled Called seen → AllByRecursion (λ (g : Given). Called g.server g.id g.evaluation.call) before →
    AllByRecursion (λ (g : Given). Called g.server g.id g.evaluation.call) (given book seen ann before)
givens_called Called book [] ann before called all = all
givens_called Called book (Announced server version ∷ seen) ann before called all =
    givens_called Called book seen (announced book (Announced server version ∷ []) ann) before called all
givens_called Called book (Replied server id r None ∷ seen) ann before called all =
    givens_called Called book seen ann before called.1 all
givens_called Called book (Replied server id r (Some e) ∷ seen) ann before called all =
    givens_called Called book seen ann
    (record { server = server; id = id; reply = r; evaluation = e; order = order_at e.basis ann } ∷ before) called.1 (called.0, all)
givens_called Called book (Sent number packet ∷ seen) ann before called all = givens_called Called book seen ann before called all
givens_called Called book (Lost number ∷ seen) ann before called all = givens_called Called book seen ann before called all
givens_called Called book (Stops server ∷ seen) ann before called all = givens_called Called book seen ann before called all
givens_called Called book (Halts server ∷ seen) ann before called all = givens_called Called book seen ann before called all
givens_called Called book (Restarts server version ∷ seen) ann before called all = givens_called Called book seen ann before called all
givens_called Called book (Stays_down server ∷ seen) ann before called all = givens_called Called book seen ann before called all

-- ---- an Ok that is no commit's

no_change : (db : Database) (image : List ℕ) (list : List Transaction) (t : Transaction) → image ≡ image_after db list →
    changes_of db image (db.call image t.moment t.call).image ≡ [] → ChangesNothing db list t
no_change db image list t is none =
    (unchanged, λ some longer. same_image db.head db.block (image_after db list) (image_after db (list ++ t ∷ [])) unchanged some longer)
  where
    after : (db.call image t.moment t.call).image ≡ image_after db (list ++ t ∷ [])
    after = ap (λ (i : List ℕ). (db.call i t.moment t.call).image) is ∙ sym (image_from-append db [] list (t ∷ []))

    unchanged : changes_of db (image_after db list) (image_after db (list ++ t ∷ [])) ≡ []
    unchanged =
        subst (λ (i : List ℕ). changes_of db (image_after db list) i ≡ []) after
        (subst (λ (i : List ℕ). changes_of db i (db.call image t.moment t.call).image ≡ []) is none)

copy_left : (db : Database) (image : List ℕ) (list : List Transaction) → image ≡ image_after db list → (g : Given) (b : Basis) (r : Reply) →
    LeavesBlocks db image g.evaluation b r → LeavesCopy db list g b r
copy_left db image list is g (Commit_on old new) r leaves = tt
copy_left db image list is g (Announced_image v) (reply.Ok fields) leaves =
    λ writes. no_change db image list (transaction_in g) is (leaves writes)
copy_left db image list is g (Beacon_image v) (reply.Ok fields) leaves =
    λ writes. no_change db image list (transaction_in g) is (leaves writes)
copy_left db image list is g (Announced_image v) _ leaves = tt
copy_left db image list is g (Beacon_image v) _ leaves = tt

-- ---- one reply

module _ (db : Database) (book : Book) (V : ℕ → Version) (once : MadeOnce book) (rises : VersionsRise book) (pages : PagesFollow book) where
  -- the list of an announced version begins that of one that is not below it
  pub begun_by : (told : List Version) (u v : Version) (l list : List Transaction) → AllAnnounced (FollowFrom book) told →
      IsAnnounced told u → list_of book u ≡ Some l → list_of book v ≡ Some list → AtMost u v → Begins l list
  begun_by told u v l list follow is at_u at_v most =
      begins book u v l list once rises pages (announced_get (FollowFrom book) told u follow is) at_u at_v most

  stands : (b : Basis) (ann : List Announcement) (x : Beyond) (since : List Version) (e : Evaluation) (list : List Transaction) →
      x.book ≡ book → ListsOf book ann → AllAnnounced (FollowFrom book) (versions_in ann) → AnnouncedRise (versions_in ann) →
      IsServedOn x since (versions_in ann) e b → list_of book (version_under b) ≡ Some list →
      Stands book ann (transaction_of e.moment e.call) list b
  stands (Announced_image v) ann x since e list same lists follow rise last listed =
      let order : list ≡ order_of ann = of_last book ann v list lists last listed in
      record {
        at = order;
        told = last_told (versions_in ann) v last;
        upper = v;
        upper_told = last_told (versions_in ann) v last;
        upper_listed = listed ∙ ap (λ (l : List Transaction). Some l) order;
      }
  stands (Beacon_image v) [] x since e list same lists follow rise is listed = absurd is.0
  stands (Beacon_image v) (a ∷ ann) x since e list same lists follow rise is listed = record {
    at =
        begun_by (versions_in (a ∷ ann)) v a.version list a.transactions follow is.0 listed lists.0
        (told_most (versions_in (a ∷ ann)) v a.version rise refl is.0);
    told = is.0;
    upper = a.version;
    upper_told = inl refl;
    upper_listed = lists.0;
  }
  stands (Commit_on old new) [] x since e list same lists follow rise is listed =
      let none : [] ≡ new ∷ is.0 = is.1 in absurd (cc)
  stands (Commit_on old new) (a ∷ ann) x since e list same lists follow rise is listed =
      let whole : a.version ∷ versions_in ann ≡ new ∷ is.0 = is.1 in
      let own : a.version ≡ new = cc in
      let rest : versions_in ann ≡ is.0 = cc in
      let last : IsLast (versions_in ann) old = subst (λ (l : List Version). IsLast l old) (sym rest) is.2 in
      let order : list ≡ order_of ann = of_last book ann old list lists.1 last listed in
      record {
        at = order;
        told = inr (last_told (versions_in ann) old last);
        upper = new;
        upper_told = inl own;
        upper_listed =
            made_on book old new (transaction_of e.moment e.call) list once pages
            (subst (λ (g : Book). IsMade g new (transaction_of e.moment e.call)) same is.5) is.4 listed
            ∙ ap (λ (l : List Transaction). Some (l ++ transaction_of e.moment e.call ∷ [])) order;
      }

  -- what was announced before the last reply is at most the version of a reply of the sync site
  sync_most : (b : Basis) (a since : List Version) (x : Beyond) (e : Evaluation) (u : Version) → IsAtSync b → AnnouncedRise a →
      EndsIn since a → IsServedOn x since a e b → IsAnnounced since u → AtMost u (version_under b)
  sync_most (Announced_image v) a since x e u sync rise ends last told =
      told_most a u v rise last (ends_told since a u ends told)
  sync_most (Beacon_image v) a since x e u sync rise ends is told = absurd sync
  sync_most (Commit_on old new) a since x e u sync rise ends is told =
      let before : AnnouncedRise (new ∷ is.0) = subst AnnouncedRise is.1 rise in
      told_most is.0 u old before.1 is.2 (ends_told since is.0 u is.3 told)

  -- no server serves a version below one that it served before
  prior_most : (b : Basis) (a since : List Version) (server : ℕ) (e : Evaluation) (g : Given) → AnnouncedRise a → EndsIn since a →
      IsServedOn (record { book = book; top = V server }) since a e b → IsGivenAt db book since V g → g.server ≡ server →
      AtMost (version_in_reply g) (version_under b)
  prior_most (Announced_image v) a since server e g rise ends is before same =
      sync_most (Announced_image v) a since (record { book = book; top = V server }) e (version_in_reply g) tt rise ends is before.announced
  prior_most (Beacon_image v) a since server e g rise ends is before same =
      at_most_then (version_in_reply g) (V server) v (subst (λ (j : ℕ). AtMost (version_in_reply g) (V j)) same before.reached) is.1
  prior_most (Commit_on old new) a since server e g rise ends is before same =
      sync_most (Commit_on old new) a since (record { book = book; top = V server }) e (version_in_reply g) tt rise ends is before.announced

  module _ (since : List Version) (ann : List Announcement) (lists : ListsOf book ann)
      (follow : AllAnnounced (FollowFrom book) (versions_in ann)) (rise : AnnouncedRise (versions_in ann))
      (ends : EndsIn since (versions_in ann)) (server id : ℕ) (r : Reply) (e : Evaluation)
      (served : IsServedReply db (record { book = book; top = V server }) since (versions_in ann) e r) where
    abbrev one : Given
    one = record { server = server; id = id; reply = r; evaluation = e; order = order_at e.basis ann }

    one_stands : Stands book ann (transaction_of e.moment e.call) served.of.list e.basis
    one_stands =
        stands e.basis ann (record { book = book; top = V server }) since e served.of.list refl lists follow rise served.served_on
        served.of.listed

    one_given : IsGivenAt db book (versions_in ann) V one
    one_given = record {
      list = served.of.list;
      listed = served.of.listed;
      replied = λ good.
          subst (λ (image : List ℕ). IsReplyOf (db.call image e.moment e.call).reply r) (served.of.image_is good) served.replied;
      at = one_stands.at;
      announced = one_stands.told;
      upper = one_stands.upper;
      upper_announced = one_stands.upper_told;
      upper_listed = one_stands.upper_listed;
      reached = served.reached;
      leaves = λ good. copy_left db served.image served.of.list (served.of.image_is good) one e.basis r served.leaves;
    }

    one_rises : (before : List Given) → AllByRecursion (IsGivenAt db book since V) before → ServedRise before → ServedRise (one ∷ before)
    one_rises before all rest = (
      givens_map (IsGivenAt db book since V) (λ g. g.server ≡ server → AtMost (version_in_reply g) (version_under e.basis)) before
          (λ g is same. prior_most e.basis (versions_in ann) since server e g rise ends served.served_on is same) all,
      rest,
    )

    -- the order before the event begins that of a reply of the sync site
    one_begins : (base : List Announcement) → ListsOf book base → EndsIn (versions_in base) since → IsAtSync e.basis →
        Begins (order_of base) (order_at e.basis ann)
    one_begins [] old from sync = (order_at e.basis ann, refl)
    one_begins (a ∷ base) old from sync =
        let told : IsAnnounced since a.version = ends_told (versions_in (a ∷ base)) since a.version from (inl refl) in
        subst (Begins a.transactions) (order_is e.basis sync one_stands.at)
        (begun_by (versions_in ann) a.version (version_under e.basis) a.transactions served.of.list follow
        (ends_told since (versions_in ann) a.version ends told) old.0 served.of.listed
        (sync_most e.basis (versions_in ann) since (record { book = book; top = V server }) e a.version sync rise ends served.served_on told))
      where
        order_is : (b : Basis) → IsAtSync b → IsOrderAt b served.of.list (order_at e.basis ann) → served.of.list ≡ order_at e.basis ann
        order_is (Announced_image v) sync at = at
        order_is (Beacon_image v) sync at = absurd sync
        order_is (Commit_on old new) sync at = at

  -- of an announced version, in the order of a run
  begins_order : (ann : List Announcement) (u : Version) (l : List Transaction) → ListsOf book ann →
      AllAnnounced (FollowFrom book) (versions_in ann) → AnnouncedRise (versions_in ann) → IsAnnounced (versions_in ann) u →
      list_of book u ≡ Some l → Begins l (order_of ann)
  begins_order [] u l lists follow rise told listed = absurd told
  begins_order (a ∷ ann) u l lists follow rise told listed =
      begun_by (versions_in (a ∷ ann)) u a.version l a.transactions follow told listed lists.0
      (told_most (versions_in (a ∷ ann)) u a.version rise refl told)

  pub single_reply : (ann : List Announcement) → ListsOf book ann → AllAnnounced (FollowFrom book) (versions_in ann) →
      AnnouncedRise (versions_in ann) → (g : Given) → IsGivenAt db book (versions_in ann) V g → IsSingleReply db book (order_of ann) g
  single_reply ann lists follow rise g is = record {
    list = is.list;
    listed = is.listed;
    replied = is.replied;
    at = is.at;
    leaves = is.leaves;
    begins = begins_order ann is.upper (order_with g) lists follow rise is.upper_announced is.upper_listed;
  }

  -- the order before an event begins the one after it
  pub order_begins : (seen : List Happening) (ann : List Announcement) → ListsOf book ann → ListsOf book (announced book seen ann) →
      AllAnnounced (FollowFrom book) (versions_in (announced book seen ann)) → AnnouncedRise (versions_in (announced book seen ann)) →
      Begins (order_of ann) (order_of (announced book seen ann))
  order_begins seen [] old lists follow rise = (order_of (announced book seen []), refl)
  order_begins seen (a ∷ ann) old lists follow rise =
      begins_order (announced book seen (a ∷ ann)) a.version a.transactions lists follow rise
      (ends_told (versions_in (a ∷ ann)) (versions_in (announced book seen (a ∷ ann))) a.version (announced_ends book seen (a ∷ ann)) (inl refl))
      old.0

  -- the lists from which one server gave replies begin one another
  pub prefixes_stay : (told : List Version) → AllAnnounced (FollowFrom book) told → (gs : List Given) →
      AllByRecursion (IsGivenAt db book told V) gs → ServedRise gs → PrefixesStay book gs
  prefixes_stay told follow [] all rise = tt
  prefixes_stay told follow (newest_one ∷ gs) all rise = (
    earlier gs all.1 rise.0,
    prefixes_stay told follow gs all.1 rise.1,
  )
    where
      one : (g : Given) → IsGivenAt db book told V g → AtMost (version_in_reply g) (version_in_reply newest_one) →
          Begins (served_list book g) (served_list book newest_one)
      one g is most =
          subst (λ (l : List Transaction). Begins l (served_list book newest_one)) (sym (list_is book (version_in_reply g) is.list is.listed))
          (subst (Begins is.list) (sym (list_is book (version_in_reply newest_one) all.0.list all.0.listed))
          (begun_by told (version_in_reply g) (version_in_reply newest_one) is.list all.0.list follow is.announced is.listed all.0.listed most))

      earlier : (gs : List Given) → AllByRecursion (IsGivenAt db book told V) gs →
          AllByRecursion (λ (g : Given). g.server ≡ newest_one.server → AtMost (version_in_reply g) (version_in_reply newest_one)) gs →
          AllByRecursion (λ (g : Given). g.server ≡ newest_one.server → Begins (served_list book g) (served_list book newest_one)) gs
      earlier [] all most = tt
      earlier (g ∷ gs) all most = ((λ same. one g all.0 (most.0 same)), earlier gs all.1 most.1)

  -- ---- all replies of an event

  abbrev Final : List Happening → List Announcement → List Version
  Final seen ann = versions_in (announced book seen ann)

  pub givens_seen : (seen : List Happening) (since : List Version) (ann : List Announcement) (before : List Given) → ListsOf book ann →
      AllAnnounced (IsListed book) (Final seen ann) → AllAnnounced (FollowFrom book) (Final seen ann) → AnnouncedRise (Final seen ann) →
      EndsIn since (versions_in ann) → SeenServed db book V since (versions_in ann) seen →
      AllByRecursion (IsGivenAt db book since V) before → ServedRise before →
      AllByRecursion (IsGivenAt db book (Final seen ann) V) (given book seen ann before) × ServedRise (given book seen ann before)
  givens_seen [] since ann before lists listed follow rise ends served all up = (
    givens_later db book book since (versions_in ann) V V before (λ v list is. is) (λ v told. ends_told since (versions_in ann) v ends told)
        (λ j. at_most_same (V j)) all,
    up,
  )
  givens_seen (Announced server version ∷ seen) since ann before lists listed follow rise ends served all up =
      let a : Announcement = record { server = server; version = version; transactions = list_or_none book version } in
      givens_seen seen since (a ∷ ann) before
      (listed_or_none book version (all_less (IsListed book) book seen (a ∷ ann) listed).0, lists) listed follow rise
      (version ∷ ends.0, ap (λ (l : List Version). version ∷ l) ends.1) served all up
  givens_seen (Replied server id r None ∷ seen) since ann before lists listed follow rise ends served all up =
      givens_seen seen (versions_in ann) ann before lists listed follow rise (ends_itself (versions_in ann)) served.1
      (givens_later db book book since (versions_in ann) V V before (λ v list is. is) (λ v told. ends_told since (versions_in ann) v ends told)
      (λ j. at_most_same (V j)) all) up
  givens_seen (Replied server id r (Some e) ∷ seen) since ann before lists listed follow rise ends served all up =
      let whole : EndsIn (versions_in ann) (Final seen ann) = announced_ends book seen ann in
      let here : AllAnnounced (FollowFrom book) (versions_in ann) = ends_all (FollowFrom book) (versions_in ann) (Final seen ann) whole follow in
      let rises_here : AnnouncedRise (versions_in ann) = ends_rise (versions_in ann) (Final seen ann) whole rise in
      givens_seen seen (versions_in ann) ann (record { server = server; id = id; reply = r; evaluation = e; order = order_at e.basis ann } ∷ before)
      lists listed follow rise (ends_itself (versions_in ann)) served.1 (
        one_given since ann lists here rises_here ends server id r e served.0,
        givens_later db book book since (versions_in ann) V V before (λ v list is. is)
            (λ v told. ends_told since (versions_in ann) v ends told) (λ j. at_most_same (V j)) all,
      )
      (one_rises since ann lists here rises_here ends server id r e served.0 before all up)
  givens_seen (Sent number packet ∷ seen) since ann before lists listed follow rise ends served all up =
      givens_seen seen since ann before lists listed follow rise ends served all up
  givens_seen (Lost number ∷ seen) since ann before lists listed follow rise ends served all up =
      givens_seen seen since ann before lists listed follow rise ends served all up
  givens_seen (Stops server ∷ seen) since ann before lists listed follow rise ends served all up =
      givens_seen seen since ann before lists listed follow rise ends served all up
  givens_seen (Halts server ∷ seen) since ann before lists listed follow rise ends served all up =
      givens_seen seen since ann before lists listed follow rise ends served all up
  givens_seen (Restarts server version ∷ seen) since ann before lists listed follow rise ends served all up =
      givens_seen seen since ann before lists listed follow rise ends served all up
  givens_seen (Stays_down server ∷ seen) since ann before lists listed follow rise ends served all up =
      givens_seen seen since ann before lists listed follow rise ends served all up

  pub newer_seen : (base : List Announcement) → ListsOf book base → (seen : List Happening) (since : List Version) (ann : List Announcement)
      (before : List Given) → ListsOf book ann → AllAnnounced (IsListed book) (Final seen ann) → AllAnnounced (FollowFrom book) (Final seen ann) →
      AnnouncedRise (Final seen ann) → EndsIn (versions_in base) since → EndsIn since (versions_in ann) →
      SeenServed db book V since (versions_in ann) seen → Newer (order_of base) before (given book seen ann before)
  newer_seen base old [] since ann before lists listed follow rise from ends served = ([], refl, tt)
  newer_seen base old (Announced server version ∷ seen) since ann before lists listed follow rise from ends served =
      let a : Announcement = record { server = server; version = version; transactions = list_or_none book version } in
      newer_seen base old seen since (a ∷ ann) before
      (listed_or_none book version (all_less (IsListed book) book seen (a ∷ ann) listed).0, lists) listed follow rise from
      (version ∷ ends.0, ap (λ (l : List Version). version ∷ l) ends.1) served
  newer_seen base old (Replied server id r None ∷ seen) since ann before lists listed follow rise from ends served =
      newer_seen base old seen (versions_in ann) ann before lists listed follow rise (ends_then (versions_in base) since (versions_in ann) from ends)
      (ends_itself (versions_in ann)) served.1
  newer_seen base old (Replied server id r (Some e) ∷ seen) since ann before lists listed follow rise from ends served =
      let whole : EndsIn (versions_in ann) (Final seen ann) = announced_ends book seen ann in
      let here : AllAnnounced (FollowFrom book) (versions_in ann) = ends_all (FollowFrom book) (versions_in ann) (Final seen ann) whole follow in
      let rises_here : AnnouncedRise (versions_in ann) = ends_rise (versions_in ann) (Final seen ann) whole rise in
      let g : Given = record { server = server; id = id; reply = r; evaluation = e; order = order_at e.basis ann } in
      let rest =
      newer_seen base old seen (versions_in ann) ann (g ∷ before) lists listed follow rise
      (ends_then (versions_in base) since (versions_in ann) from ends) (ends_itself (versions_in ann)) served.1 in (
        rest.0 ++ g ∷ [],
        rest.1 ∙ sym (append_assoc rest.0 (g ∷ []) before),
        givens_append (Behind (order_of base)) rest.0 (g ∷ []) rest.2
            ((λ sync. one_begins since ann lists here rises_here ends server id r e served.0 base old from sync), tt),
      )
  newer_seen base old (Sent number packet ∷ seen) since ann before lists listed follow rise from ends served =
      newer_seen base old seen since ann before lists listed follow rise from ends served
  newer_seen base old (Lost number ∷ seen) since ann before lists listed follow rise from ends served =
      newer_seen base old seen since ann before lists listed follow rise from ends served
  newer_seen base old (Stops server ∷ seen) since ann before lists listed follow rise from ends served =
      newer_seen base old seen since ann before lists listed follow rise from ends served
  newer_seen base old (Halts server ∷ seen) since ann before lists listed follow rise from ends served =
      newer_seen base old seen since ann before lists listed follow rise from ends served
  newer_seen base old (Restarts server version ∷ seen) since ann before lists listed follow rise from ends served =
      newer_seen base old seen since ann before lists listed follow rise from ends served
  newer_seen base old (Stays_down server ∷ seen) since ann before lists listed follow rise from ends served =
      newer_seen base old seen since ann before lists listed follow rise from ends served
