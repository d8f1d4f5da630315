-- What is acknowledged has its place in the list of its version, and stays acknowledged.
use Rattle.std.proofs.Common.{◌≡◌, inl, inr, ℕ, zero, suc, ◌+◌, ◌-◌, List, [], ◌∷◌, ◌++◌, length, get_or}
use Rattle.std.proofs.Common.{refl, sym, ap, subst, ◌∙◌, append_assoc, length-append, arith}
use Rattle.std.proofs.lemmas.List.Elements.{All-contains, Contains-append_right, Contains-get_or, All-from_recursion}
use Rattle.std.specs.Prelude.{Option, Some, None, slice_get, All, Contains}
use Rattle.std.specs.List.{AllByRecursion}
use Rattle.ubik_types.specs.declared.versions.Version.{Version}
use Rattle.ubik_calls.specs.declared.replies.Reply.{Reply}
use Rattle.ubik_calls.specs.declared.replies.Reply.TheVariants as reply
use Rattle.db_image.specs.Database.{Database}
use Rattle.cell_model.specs.declared.events.Output.TheVariants as output
use Rattle.cell_model.specs.Book.{Book, Announcement, Acknowledgement, Run, list_of, list_or_none, announced, order_of}
use Rattle.cell_model.specs.Book.{acknowledged_by, acknowledged_in, acknowledged, run_after, run_through}
use Rattle.cell_model.specs.Durable.{Transaction}
use Rattle.cell_model.specs.KeptLaws.{IsPlaced}
use Rattle.cell_model.specs.Laws.{Begins}
use Rattle.cell_model.specs.Step.{Basis, Announced_image, Beacon_image, Commit_on, Evaluation}
use Rattle.cell_model.specs.World.{Event, Happening, Sent, Announced, Replied, Lost, Stops, Halts, Restarts, Stays_down, happens}
use Rattle.cell_model.proofs.BookVersions.{newest, list_is}
use Rattle.cell_pages.specs.Laws.{MadeOnce, KeepsLists}
use Rattle.cell_pages.specs.Moves.{transaction_of}
use Rattle.cell_pages.specs.Pages.{VersionsRise, IsPageOn, PagesFollow, taken}
use Rattle.cell_pages.specs.Parts.{AtMost}
use Rattle.cell_orders.specs.Acknowledged.{IsAnnounced, IsMade, IsOkBy, IsOk, IsKeptAt, AllKeptAt}
use Rattle.cell_orders.specs.Kept.{ListsOf, versions_in}
use Rattle.cell_orders.specs.Orders.{AllAnnounced, FollowFrom, AnnouncedRise}
use Rattle.cell_orders.proofs.Lists.{kept_behind, begins}
use Rattle.cell_orders.proofs.Orderings.{all_at_most}
use Rattle.cell_orders.proofs.Runs.{OksSeen}

-- ---- places

at_end : (front : List Transaction) (t : Transaction) → slice_get (front ++ t ∷ []) (length front) ≡ Some t
at_end [] t = refl
at_end (u ∷ front) t = at_end front t

before_end : (front : List Transaction) (t : Transaction) → length (front ++ t ∷ []) - 1 ≡ length front
before_end front t =
    let whole : length (front ++ t ∷ []) ≡ length front + 1 = length-append front (t ∷ []) in
    omega arith

pub at_front : (front rest : List Transaction) (place : ℕ) (t : Transaction) → slice_get front place ≡ Some t →
    slice_get (front ++ rest) place ≡ Some t
at_front [] rest place t is = absurd (cc)
at_front (u ∷ front) rest zero t is = is
at_front (u ∷ front) rest (suc place) t is = at_front front rest place t is

-- ---- the list of a version that a transaction made

pub made_list : (book : Book) (v : Version) (t : Transaction) → MadeOnce book → PagesFollow book → IsMade book v t →
    (front : List Transaction) × (list_of book v ≡ Some (front ++ t ∷ []))
made_list [] v t once pages is = absurd is
made_list (b ∷ book) v t once pages (inl is) =
    let page : IsPageOn book b = pages.0 in (
      page.list,
      subst (λ (u : Version). list_of (b ∷ book) u ≡ Some (page.list ++ t ∷ [])) is.0
          (newest b book ∙ ap (λ (l : List Transaction). Some l)
          (page.list_is ∙ ap (λ (o : Option Transaction). page.list ++ taken o) is.1)),
    )
made_list (b ∷ book) v t once pages (inr is) =
    let rest = made_list book v t once.1 pages.1 is in
    (rest.0, kept_behind b book v (rest.0 ++ t ∷ []) once.0 rest.1)

kept_at : (book : Book) (told : List Version) (v : Version) (t : Transaction) → MadeOnce book → PagesFollow book → IsAnnounced told v →
    IsMade book v t → IsKeptAt book told (record { transaction = t; version = v; place = length (list_or_none book v) - 1 })
kept_at book told v t once pages is made =
    let w = made_list book v t once pages made in
    let list : list_or_none book v ≡ w.0 ++ t ∷ [] = list_is book v (w.0 ++ t ∷ []) w.1 in
    record {
      told = is;
      list = w.0 ++ t ∷ [];
      listed = w.1;
      placed =
          subst (λ (place : ℕ). slice_get (w.0 ++ t ∷ []) place ≡ Some t)
          (sym (ap (λ (l : List Transaction). length l - 1) list ∙ before_end w.0 t)) (at_end w.0 t);
    }

-- ---- what is seen of an event

module _ (book : Book) (told : List Version) (once : MadeOnce book) (pages : PagesFollow book) where
  by_basis : (e : Evaluation) (b : Basis) (before : List Acknowledgement) → IsOkBy book told e b → AllKeptAt book told before →
      AllKeptAt book told (acknowledged_by book e b ++ before)
  by_basis e (Announced_image version) before ok all = all
  by_basis e (Beacon_image version) before ok all = all
  by_basis e (Commit_on old new) before ok all = (kept_at book told new (transaction_of e.moment e.call) once pages ok.0 ok.1, all)

  by_reply : (id : ℕ) (r : Reply) (e : Option Evaluation) (before : List Acknowledgement) → IsOk book told (output.Reply id r) e →
      AllKeptAt book told before → AllKeptAt book told (acknowledged_in book r e ++ before)
  by_reply id (reply.Ok answer) None before ok all = all
  by_reply id (reply.Ok answer) (Some e) before ok all = by_basis e e.basis before ok all
  by_reply id _ e before ok all = all

  pub acks_seen : (seen : List Happening) (before : List Acknowledgement) → OksSeen book told seen → AllKeptAt book told before →
      AllKeptAt book told (acknowledged book seen before)
  acks_seen [] before oks all = all
  acks_seen (Sent number packet ∷ seen) before oks all = acks_seen seen before oks all
  acks_seen (Announced server version ∷ seen) before oks all = acks_seen seen before oks all
  acks_seen (Replied server id r e ∷ seen) before oks all =
      acks_seen seen (acknowledged_in book r e ++ before) oks.1 (by_reply id r e before oks.0 all)
  acks_seen (Lost number ∷ seen) before oks all = acks_seen seen before oks all
  acks_seen (Stops server ∷ seen) before oks all = acks_seen seen before oks all
  acks_seen (Halts server ∷ seen) before oks all = acks_seen seen before oks all
  acks_seen (Restarts server version ∷ seen) before oks all = acks_seen seen before oks all
  acks_seen (Stays_down server ∷ seen) before oks all = acks_seen seen before oks all

pub told_more : (book : Book) (seen : List Happening) (before : List Announcement) (v : Version) → IsAnnounced (versions_in before) v →
    IsAnnounced (versions_in (announced book seen before)) v
told_more book [] before v is = is
told_more book (Sent number packet ∷ seen) before v is = told_more book seen before v is
told_more book (Announced server version ∷ seen) before v is =
    told_more book seen (record { server = server; version = version; transactions = list_or_none book version } ∷ before) v (inr is)
told_more book (Replied server id r e ∷ seen) before v is = told_more book seen before v is
told_more book (Lost number ∷ seen) before v is = told_more book seen before v is
told_more book (Stops server ∷ seen) before v is = told_more book seen before v is
told_more book (Halts server ∷ seen) before v is = told_more book seen before v is
told_more book (Restarts server version ∷ seen) before v is = told_more book seen before v is
told_more book (Stays_down server ∷ seen) before v is = told_more book seen before v is

pub acks_later : (book later : Book) (told after : List Version) (acks : List Acknowledgement) → KeepsLists book later →
    ((v : Version) → IsAnnounced told v → IsAnnounced after v) → AllKeptAt book told acks → AllKeptAt later after acks
acks_later book later told after [] keeps more all = tt
acks_later book later told after (a ∷ acks) keeps more all = (
  record {
    told = more a.version all.0.told;
    list = all.0.list;
    listed = keeps a.version all.0.list all.0.listed;
    placed = all.0.placed;
  },
  acks_later book later told after acks keeps more all.1,
)

-- ---- the order

pub announced_get : (P : Version → Type 0) (announced : List Version) (v : Version) → AllAnnounced P announced → IsAnnounced announced v → P v
announced_get P [] v all is = absurd is
announced_get P (u ∷ announced) v all (inl same) = subst P same all.0
announced_get P (u ∷ announced) v all (inr is) = announced_get P announced v all.1 is

-- it is in the order at its place
pub is_placed : (book : Book) (announcements : List Announcement) (a : Acknowledgement) → MadeOnce book → VersionsRise book →
    PagesFollow book → ListsOf book announcements → AllAnnounced (FollowFrom book) (versions_in announcements) →
    AnnouncedRise (versions_in announcements) → IsKeptAt book (versions_in announcements) a → IsPlaced (order_of announcements) a
is_placed book [] a once rise pages lists follow rising is = absurd is.told
is_placed book (newest_one ∷ earlier) a once rise pages lists follow rising is =
    let front : Begins is.list newest_one.transactions =
    begins book a.version newest_one.version is.list newest_one.transactions once rise pages
    (announced_get (FollowFrom book) (versions_in (newest_one ∷ earlier)) a.version follow is.told) is.listed lists.0
    (announced_get (λ u. AtMost u newest_one.version) (versions_in (newest_one ∷ earlier)) a.version
    (all_at_most (versions_in (newest_one ∷ earlier)) rising) is.told) in
    subst (λ (l : List Transaction). slice_get l a.place ≡ Some a.transaction) (sym front.1)
    (at_front is.list front.0 a.place a.transaction is.placed)

pub all_placed : (book : Book) (announcements : List Announcement) (acks : List Acknowledgement) → MadeOnce book → VersionsRise book →
    PagesFollow book → ListsOf book announcements → AllAnnounced (FollowFrom book) (versions_in announcements) →
    AnnouncedRise (versions_in announcements) → AllKeptAt book (versions_in announcements) acks →
    AllByRecursion (IsPlaced (order_of announcements)) acks
all_placed book announcements [] once rise pages lists follow rising all = tt
all_placed book announcements (a ∷ acks) once rise pages lists follow rising all = (
  is_placed book announcements a once rise pages lists follow rising all.0,
  all_placed book announcements acks once rise pages lists follow rising all.1,
)

pub placed : (book : Book) (announcements : List Announcement) (acks : List Acknowledgement) → MadeOnce book → VersionsRise book →
    PagesFollow book → ListsOf book announcements → AllAnnounced (FollowFrom book) (versions_in announcements) →
    AnnouncedRise (versions_in announcements) → AllKeptAt book (versions_in announcements) acks →
    All (IsPlaced (order_of announcements)) acks
placed book announcements acks once rise pages lists follow rising all =
    All-from_recursion (IsPlaced (order_of announcements)) acks
    (all_placed book announcements acks once rise pages lists follow rising all)

-- ---- acknowledgements are added alone

acks_added : (book : Book) (seen : List Happening) (before : List Acknowledgement) →
    (more : List Acknowledgement) × (acknowledged book seen before ≡ more ++ before)
acks_added book [] before = ([], refl)
acks_added book (Sent number packet ∷ seen) before = acks_added book seen before
acks_added book (Announced server version ∷ seen) before = acks_added book seen before
acks_added book (Replied server id r e ∷ seen) before =
    let rest = acks_added book seen (acknowledged_in book r e ++ before) in
    (rest.0 ++ acknowledged_in book r e, rest.1 ∙ sym (append_assoc rest.0 (acknowledged_in book r e) before))
acks_added book (Lost number ∷ seen) before = acks_added book seen before
acks_added book (Stops server ∷ seen) before = acks_added book seen before
acks_added book (Halts server ∷ seen) before = acks_added book seen before
acks_added book (Restarts server version ∷ seen) before = acks_added book seen before
acks_added book (Stays_down server ∷ seen) before = acks_added book seen before

pub run_adds : (db : Database) (r : Run) (events : List Event) →
    (more : List Acknowledgement) × ((run_through db r events).acknowledged ≡ more ++ r.acknowledged)
run_adds db r [] = ([], refl)
run_adds db r (e ∷ events) =
    let first = acks_added (run_after db r e).book (happens db r.world e).seen r.acknowledged in
    let rest = run_adds db (run_after db r e) events in (
      rest.0 ++ first.0,
      rest.1 ∙ ap (λ (l : List Acknowledgement). rest.0 ++ l) first.1 ∙ sym (append_assoc rest.0 first.0 r.acknowledged),
    )

pub all_of_end : (P : Acknowledgement → Type 0) (whole front part : List Acknowledgement) → whole ≡ front ++ part → All P whole →
    All (λ a. Contains whole a × P a) part
all_of_end P whole front part is all k d inside =
    let a = get_or part k d in
    let C : List Acknowledgement → Type 0 = λ l. Contains l a in
    let contains : Contains whole a = subst C (sym is) (Contains-append_right front part a (Contains-get_or part k d inside)) in
    (contains, All-contains P whole a all contains)
