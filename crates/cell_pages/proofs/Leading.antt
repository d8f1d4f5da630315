-- The book grows from step to step, durable calls follow one another, and packets are put out behind one another.
use Rattle.std.proofs.Common.{Bool, true, false, cond, ◌==◌, ◌≡◌, ℕ, zero, suc, ◌+◌, List, [], ◌∷◌, ◌++◌, map, take, refl, sym, ap, subst, ◌∙◌}
use Rattle.std.proofs.Common.{append_assoc}
use Rattle.std.specs.Prelude.{Option, Some, None}
use Rattle.ubik_types.specs.declared.hosts.Host.{Host}
use Rattle.ubik_types.specs.declared.phases.Phase.{Phase}
use Rattle.ubik_types.specs.declared.phases.Applied.TheVariants as applied
use Rattle.ubik_types.specs.declared.versions.Version.{Version}
use Rattle.ubik_calls.specs.declared.packets.Body.{Body}
use Rattle.ubik_calls.specs.declared.replies.Reply.{Reply}
use Rattle.db_image.specs.declared.services.CallReply.{CallReply}
use Rattle.db_image.specs.declared.services.CallReply.TheVariants as call_reply
use Rattle.cell_model.specs.declared.events.Output.{Output}
use Rattle.cell_model.specs.declared.events.Output.TheVariants as output
use Rattle.cell_model.specs.Asks.{read_reply}
use Rattle.cell_model.specs.Book.{BookVersion, Book, entered}
use Rattle.cell_model.specs.Durable.{Durable, DurableCall, Commit, Relabel, Install, Made, durable_after, durable_after_all, version_after}
use Rattle.cell_model.specs.Lapse.{no_quorum, flight_refused, waiting_refused, writes_refused}
use Rattle.cell_model.specs.Node.{Server, Flight, Waiting}
use Rattle.cell_model.specs.Step.{Member, Evaluation, Shown, packet_to, sent, sends_from, sends_to_each}
use Rattle.cell_model.specs.World.{entries_from}
use Rattle.cell_pages.specs.Growth.{IsNext, AreNext, Grew, book_with, Leads}
use Rattle.cell_pages.specs.Moves.{AllBodies}
use Rattle.cell_pages.specs.Says.{OutputSays, AllSay}

-- ---- the book

pub grew_none : (lease : Bool) (k : ℕ) (book : Book) → Grew lease k book book
grew_none lease k book = ([], refl, tt)

next_append : (lease : Bool) (k : ℕ) (book : Book) (newer more : List BookVersion) → AreNext lease k book newer →
    AreNext lease k (newer ++ book) more →
    AreNext lease k book (more ++ newer)
next_append lease k book newer [] first second = first
next_append lease k book newer (b ∷ more) first second = (
  subst (λ (g : Book). IsNext lease k g b) (sym (append_assoc more newer book)) second.0,
  next_append lease k book newer more first second.1,
)

pub grew_then : (lease : Bool) (k : ℕ) (a b c : Book) → Grew lease k a b → Grew lease k b c → Grew lease k a c
grew_then lease k a b c first second = (
  second.0 ++ first.0,
  second.1 ∙ ap (λ (g : Book). second.0 ++ g) first.1 ∙ sym (append_assoc second.0 first.0 a),
  next_append lease k a first.0 second.0 first.2 (subst (λ (g : Book). AreNext lease k g second.0) first.1 second.2),
)

-- what one more version keeps, all that is added keeps
pub grew_keeps : (lease : Bool) (k : ℕ) (Q : Book → Type 0) →
    ((book : Book) (b : BookVersion) → IsNext lease k book b → Q book → Q (b ∷ book)) →
    (book after : Book) → Grew lease k book after → Q book → Q after
grew_keeps lease k Q one book after grew is = subst Q (sym grew.1) (each grew.0 grew.2)
  where
    each : (newer : List BookVersion) → AreNext lease k book newer → Q (newer ++ book)
    each [] all = is
    each (b ∷ newer) all = one (newer ++ book) b all.0 (each newer all.1)

-- ---- durable calls

pub after_version : (d : Durable) (call : DurableCall) → (durable_after d call).version ≡ version_after call
after_version d (Commit version changes image) = refl
after_version d (Relabel version) = refl
after_version d (Install version image) = refl

module _ (D : Book → Durable → Type 0) (lease : Bool) (k : ℕ) where
  pub leads_append : (book middle later : Book) (d e last : Durable) (calls more : List Made) → Leads D lease k book d calls middle e →
      Leads D lease k middle e more later last → Leads D lease k book d (calls ++ more) later last
  leads_append book middle later d e last [] more first second =
      subst (λ (g : Book). Leads D lease k g d more later last) (sym first.0)
      (subst (λ (c : Durable). Leads D lease k middle c more later last) (sym first.1) second)
  leads_append book middle later d e last (made ∷ calls) more first second = (
    first.0,
    leads_append (book_with k book d made) middle later (durable_after d made.call) e last calls more first.1 second,
  )

  -- where they end
  pub leads_to : (book later : Book) (d last : Durable) (calls : List Made) → Leads D lease k book d calls later last →
      (entered book (entries_from k d.version calls) ≡ later) × (durable_after_all d calls ≡ last) × D later last
  leads_to book later d last [] leads = (
    leads.0,
    leads.1,
    subst (λ (g : Book). D g last) leads.0 (subst (λ (c : Durable). D book c) leads.1 leads.2),
  )
  leads_to book later d last (made ∷ calls) leads =
      let rest = leads_to (book_with k book d made) later (durable_after d made.call) last calls leads.1 in (
        ap (λ (v : Version). entered (book_with k book d made) (entries_from k v calls)) (sym (after_version d made.call)) ∙ rest.0,
        rest.1,
        rest.2,
      )

  -- the first of them alone
  pub leads_take : (book later : Book) (d last : Durable) (calls : List Made) (count : ℕ) → Leads D lease k book d calls later last →
      (g : Book) × (c : Durable) × Leads D lease k book d (take count calls) g c
  leads_take book later d last [] zero leads = (book, d, (refl, refl, leads.2))
  leads_take book later d last [] (suc n) leads = (book, d, (refl, refl, leads.2))
  leads_take book later d last (made ∷ calls) zero leads = (book, d, (refl, refl, leads.0.0))
  leads_take book later d last (made ∷ calls) (suc n) leads =
      let w = leads_take (book_with k book d made) later (durable_after d made.call) last calls n leads.1 in (w.0, w.1, (leads.0, w.2))

  -- the book grew
  pub leads_grew : (book later : Book) (d last : Durable) (calls : List Made) → Leads D lease k book d calls later last →
      Grew lease k book later
  leads_grew book later d last [] leads = subst (λ (g : Book). Grew lease k book g) leads.0 (grew_none lease k book)
  leads_grew book later d last (made ∷ calls) leads =
      grew_then lease k book (book_with k book d made) later leads.0.1
      (leads_grew (book_with k book d made) later (durable_after d made.call) last calls leads.1)

-- ---- packets

pub output_more : (P Q : Body → Type 0) (o : Output) → ((b : Body) → P b → Q b) → OutputSays P o → OutputSays Q o
output_more P Q (output.Send packet) f is = f packet.body is
output_more P Q (output.Reply id r) f is = tt
output_more P Q (output.Announce version) f is = tt

pub say_more : (P Q : Body → Type 0) (shown : List Shown) → ((b : Body) → P b → Q b) → AllSay P shown → AllSay Q shown
say_more P Q [] f all = tt
say_more P Q (one ∷ shown) f all = (output_more P Q one.output f all.0, say_more P Q shown f all.1)

module _ (P : Body → Type 0) where
  pub say_append : (shown more : List Shown) → AllSay P shown → AllSay P more → AllSay P (shown ++ more)
  say_append [] more all rest = rest
  say_append (one ∷ shown) more all rest = (all.0, say_append shown more all.1 rest)

  pub bodies_append : (bodies more : List Body) → AllBodies P bodies → AllBodies P more → AllBodies P (bodies ++ more)
  bodies_append [] more all rest = rest
  bodies_append (b ∷ bodies) more all rest = (all.0, bodies_append bodies more all.1 rest)

  sent_says : (m : Member) (host : Host) (bodies : List Body) → AllBodies P bodies →
      AllSay P (map (λ (b : Body). sent (packet_to m host b)) bodies)
  sent_says m host [] all = tt
  sent_says m host (b ∷ bodies) all = (all.0, sent_says m host bodies all.1)

  say_if : (test : Bool) (x y : List Shown) → AllSay P x → AllSay P y → AllSay P (cond test x y)
  say_if true x y first second = first
  say_if false x y first second = second

  pub bodies_if : (test : Bool) (x y : List Body) → AllBodies P x → AllBodies P y → AllBodies P (cond test x y)
  bodies_if true x y first second = first
  bodies_if false x y first second = second

  from_says : (m : Member) (k : ℕ) (hosts : List Host) (bodies : ℕ → List Body) → ((k : ℕ) → AllBodies P (bodies k)) →
      AllSay P (sends_from m k hosts bodies)
  from_says m k [] bodies all = tt
  from_says m k (host ∷ hosts) bodies all =
      say_append (cond (k == m.me) [] (map (λ (b : Body). sent (packet_to m host b)) (bodies k))) (sends_from m (k + 1) hosts bodies)
      (say_if (k == m.me) [] _ tt (sent_says m host (bodies k) (all k)))
      (from_says m (k + 1) hosts bodies all)

  pub each_says : (m : Member) (bodies : ℕ → List Body) → ((k : ℕ) → AllBodies P (bodies k)) → AllSay P (sends_to_each m bodies)
  each_says m bodies all = from_says m 0 m.hosts bodies all

  pub waiting_says : (waiting : List Waiting) (r : Reply) → AllSay P (waiting_refused waiting r)
  waiting_says [] r = tt
  waiting_says (w ∷ waiting) r = (tt, waiting_says waiting r)

  flight_says : (f : Option Flight) (r : Reply) → AllSay P (flight_refused f r)
  flight_says None r = tt
  flight_says (Some f) r = (tt, tt)

  pub refused_says : (m : Member) (s : Server) (now : ℕ) (phase : Phase) → AllSay P (writes_refused m s now phase)
  refused_says m s now phase =
      say_append (flight_refused s.flight (no_quorum m s now phase applied.Unknown)) _ (flight_says s.flight _) (waiting_says s.waiting _)

  pub read_says : (id : ℕ) (e : Evaluation) (r : CallReply) → AllSay P (read_reply id e r ∷ [])
  read_says id e (call_reply.Done answer) = (tt, tt)
  read_says id e (call_reply.Rule number) = (tt, tt)
  read_says id e call_reply.Malformed = (tt, tt)
  read_says id e (call_reply.BadRecord at) = (tt, tt)
