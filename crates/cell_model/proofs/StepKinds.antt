-- What a step can be in a cell of one server: it rests, or it relabels, or it commits; whatever the event. And what a reply
-- tells.
use Rattle.std.proofs.Common.{Bool, true, false, true≢false, cond, ◌==◌, ◌≡◌, ℕ, ◌+◌, List, [], ◌∷◌, ◌++◌, length, refl, sym, ap, subst, ◌∙◌, ◌⊎◌, inl, inr, arith}
use Rattle.std.proofs.lemmas.Bool.{cond_both, and_right}
use Rattle.std.proofs.lemmas.Bool.Decides.{nat_tests}
use Rattle.std.specs.Prelude.{Option, Some, None, ◌&&◌, ◌||◌, nat_lt}
use Rattle.ubik_types.specs.declared.hosts.Host.{Host}
use Rattle.ubik_types.specs.declared.images.Change.{Change}
use Rattle.ubik_types.specs.declared.versions.TheConstants.{MAX_COUNTER}
use Rattle.ubik_types.specs.declared.versions.Version.{Version}
use Rattle.ubik_types.specs.declared.phases.Phase.TheVariants as phases
use Rattle.ubik_types.specs.declared.phases.Applied.TheVariants as applied
use Rattle.ubik_types.specs.Logged.{too_large}
use Rattle.ubik_types.specs.Version.{zero_version, version_lt, version_eq}
use Rattle.ubik_types.specs.Votes.{beacon_is_due, sync_heard}
use Rattle.ubik_types.specs.Phase.{Polled, PhaseRecord, NoPhase, Poll, Fetch, Relabel, Send, Ready}
use Rattle.ubik_calls.specs.declared.replies.Reply.{Reply}
use Rattle.ubik_calls.specs.declared.replies.Reply.TheVariants as reply
use Rattle.db_image.specs.declared.services.CallReply.{CallReply}
use Rattle.db_image.specs.declared.services.CallReply.TheVariants as call_reply
use Rattle.db_image.specs.Database.{Database, changes_of}
use Rattle.cell_model.specs.declared.events.NodeEvent.{NodeEvent}
use Rattle.cell_model.specs.declared.events.NodeEvent.TheVariants as event
use Rattle.cell_model.specs.declared.events.Output.{Output}
use Rattle.cell_model.specs.declared.events.Output.TheVariants as output
use Rattle.cell_model.specs.Asks.{read_reply, read, write_asked, served, allows_reads, not_served, asked_elsewhere, asked_as}
use Rattle.cell_model.specs.Durable.{Transaction}
use Rattle.cell_model.specs.Evaluating.{always}
use Rattle.cell_model.specs.Lapse.{no_quorum, writes_refused, without_writes, write_lapsed, flight_refused, waiting_refused}
use Rattle.cell_model.specs.Node.{Server, Flight, Waiting, ReadyBeacon}
use Rattle.cell_model.specs.NodeRule.{handled, step_of, step_by}
use Rattle.cell_model.specs.Polls.{polling, best_answer}
use Rattle.cell_model.specs.Recovery.{first_of_epoch, own_relabelling, relabelled, polled, poll_begun, recovered, recovery_turn}
use Rattle.cell_model.specs.Step.{Member, Announced_image, Commit_on, Evaluation, Shown, Stepped, quiet, showing, followed, leased, is_ready, told_version, with_phase, announcing, refusing, replying, is_short, short_after}
pub use Rattle.cell_model.specs.Voters.{IsAlonePhase}
use Rattle.cell_model.specs.Writes.{next_version, own_commit, image_before, written_in, written_small, written_within, turned, last_counter}

-- the one server of a cell
abbrev pub one_of : Host → Member
one_of host = record { hosts = host ∷ []; me = 0 }

-- ---- a server that is alone

pub record IsAlone (s : Server) : Type 0 where
  pub flight : s.flight ≡ None
  pub waiting : s.waiting ≡ []
  pub beacon : s.beacon ≡ None
  pub phase : IsAlonePhase s.version s.phase

-- ---- what a reply tells

-- this is what the database answers on the image of a ready server, to a call that is asked under this id
pub record IsAnswer (db : Database) (s : Server) (now : ℕ) (e : NodeEvent) (id : ℕ) (answer : CallReply) : Type 0 where
  pub call : List ℕ
  pub asked : e ≡ event.Ask id call
  pub answer_is : (db.call s.image now call).reply ≡ answer
  pub ready : is_ready s.phase ≡ true

-- and it is evaluated so
pub record IsGiven (db : Database) (s : Server) (now : ℕ) (e : NodeEvent) (id : ℕ) (answer : CallReply) (evaluation : Option Evaluation) : Type 0 where
  pub answered : IsAnswer db s now e id answer
  pub evaluated : evaluation ≡ Some (record { call = answered.call; moment = now; basis = Announced_image s.version })

-- an Ok where nothing is committed: a call that writes makes no change
pub record IsOk (db : Database) (s : Server) (now : ℕ) (e : NodeEvent) (id : ℕ) (fields : List ℕ) (evaluation : Option Evaluation) : Type 0 where
  pub given : IsGiven db s now e id (call_reply.Done fields) evaluation
  pub same : db.writes given.answered.call ≡ Some true → changes_of db s.image (db.call s.image now given.answered.call).image ≡ []

-- what a reply tells of the database is the database's answer
abbrev pub IsTold : Database → Server → ℕ → NodeEvent → ℕ → Reply → Option Evaluation → Type 0
IsTold db s now e id (reply.Ok fields) evaluation = IsOk db s now e id fields evaluation
IsTold db s now e id (reply.Rule number) evaluation = IsGiven db s now e id (call_reply.Rule number) evaluation
IsTold db s now e id (reply.BadRecord at) evaluation = IsAnswer db s now e id (call_reply.BadRecord at) × (evaluation ≡ None)
IsTold db s now e id _ evaluation = evaluation ≡ None

abbrev pub IsToldOutput : Database → Server → ℕ → NodeEvent → Output → Option Evaluation → Type 0
IsToldOutput db s now e (output.Send packet) evaluation = ⊥
IsToldOutput db s now e (output.Reply id r) evaluation = IsTold db s now e id r evaluation
IsToldOutput db s now e (output.Announce version) evaluation = ⊥

-- nothing is announced or sent, and the replies are told
abbrev pub AllTold : Database → Server → ℕ → NodeEvent → List Shown → Type 0
AllTold db s now e [] = Unit {0}
AllTold db s now e (one ∷ shown) = IsToldOutput db s now e one.output one.evaluation × AllTold db s now e shown

-- ---- the kinds

-- nothing durable and nothing to be seen; the server is ready only where it was
pub record Stays (s : Server) (t : Stepped) : Type 0 where
  pub calls : t.calls ≡ []
  pub version : t.server.version ≡ s.version
  pub image_is : t.server.image ≡ s.image
  pub alone : IsAlone t.server
  pub ready : is_ready t.server.phase ≡ true → is_ready s.phase ≡ true
  pub shown : t.shown ≡ []

-- no durable call; the server is ready only where it was
pub record Rests (db : Database) (s : Server) (now : ℕ) (e : NodeEvent) (t : Stepped) : Type 0 where
  pub calls : t.calls ≡ []
  pub version : t.server.version ≡ s.version
  pub image_is : t.server.image ≡ s.image
  pub alone : IsAlone t.server
  pub ready : is_ready t.server.phase ≡ true → is_ready s.phase ≡ true
  pub told : AllTold db s now e t.shown

-- the server's own relabelling, and its announcement
pub record Relabels (s : Server) (t : Stepped) : Type 0 where
  pub new : Version
  pub calls : t.calls ≡ own_relabelling new ∷ []
  pub version : t.server.version ≡ new
  pub image_is : t.server.image ≡ s.image
  pub alone : IsAlone t.server
  pub shown : t.shown ≡ announcing new ∷ []

-- so of a server that had the same image before
relabels_before : (s after : Server) (t : Stepped) → after.image ≡ s.image → Relabels after t → Relabels s t
relabels_before s after t same relabels = record {
  new = relabels.new;
  calls = relabels.calls;
  version = relabels.version;
  image_is = relabels.image_is ∙ same;
  alone = relabels.alone;
  shown = relabels.shown;
}

-- the transaction of a call at a moment
abbrev pub made_at : ℕ → List ℕ → Transaction
made_at now call = record { moment = now; call = call }

-- how the Ok of a commit was evaluated
abbrev pub commit_evaluation : ℕ → List ℕ → Version → Version → Evaluation
commit_evaluation now call old new = record { call = call; moment = now; basis = Commit_on old new }

-- A commit of the call that is asked: the server then has what the database leaves. It is announced and answered.
pub record Commits (db : Database) (s : Server) (now : ℕ) (e : NodeEvent) (t : Stepped) : Type 0 where
  pub new : Version
  pub id : ℕ
  pub answer : List ℕ
  pub changes : List Change
  pub answered : IsAnswer db s now e id (call_reply.Done answer)
  pub fresh : version_eq new s.version ≡ false
  pub calls : t.calls ≡ own_commit new changes (db.call s.image now answered.call).image (made_at now answered.call) ∷ []
  pub version : t.server.version ≡ new
  pub image_is : t.server.image ≡ (db.call s.image now answered.call).image
  pub alone : IsAlone t.server
  pub shown : t.shown ≡ announcing new ∷ replying id (reply.Ok answer) (commit_evaluation now answered.call s.version new) ∷ []

-- a step of a server that is alone
abbrev pub IsStep : Database → Server → ℕ → NodeEvent → Stepped → Type 0
IsStep db s now e t = Rests db s now e t ⊎ (Relabels s t ⊎ Commits db s now e t)

-- no version is below itself, and none is below the first one
pub lt_itself : (v : Version) → version_lt v v ≡ false
lt_itself v =
    let epoch : nat_lt v.epoch v.epoch ≡ false = grind (arith, nat_tests) in
    let counter : nat_lt v.counter v.counter ≡ false = grind (arith, nat_tests) in
    let same : (v.epoch == v.epoch) ≡ true = grind (arith, nat_tests) in
    ap (λ (b : Bool). b || (v.epoch == v.epoch && nat_lt v.counter v.counter)) epoch ∙ ap (λ (b : Bool). b && nat_lt v.counter v.counter) same ∙ counter

pub lt_zero : (v : Version) → version_lt v zero_version ≡ false
lt_zero v =
    let epoch : nat_lt v.epoch 0 ≡ false = grind (arith, nat_tests) in
    let counter : nat_lt v.counter 0 ≡ false = grind (arith, nat_tests) in
    ap (λ (b : Bool). b || (v.epoch == 0 && nat_lt v.counter 0)) epoch ∙ ap (λ (b : Bool). v.epoch == 0 && b) counter ∙ and_right (v.epoch == 0) false refl

-- the next version is another one
next_is_new : (v : Version) → version_eq (next_version v) v ≡ false
next_is_new v =
    let counter : (v.counter + 1 == v.counter) ≡ false = grind (arith, nat_tests) in
    and_right (v.epoch == v.epoch) (v.counter + 1 == v.counter) counter

-- ---- turns

abbrev IsTurn : Server → Stepped → Type 0
IsTurn s t = Stays s t ⊎ Relabels s t

module _ (host : Host) (s : Server) (now : ℕ) (alone : IsAlone s) where
  stays : IsTurn s (quiet s)
  stays = inl (record { calls = refl; version = refl; image_is = refl; alone = alone; ready = λ is. is; shown = refl })

  relabelled_is : (poll : Polled) → IsTurn s (relabelled (one_of host) s poll now)
  relabelled_is poll =
      cond_both (nat_lt s.version.epoch now) _ _ (IsTurn s)
      (λ _. inr (record {
        new = first_of_epoch now;
        calls = refl;
        version = refl;
        image_is = refl;
        alone = record { flight = alone.flight; waiting = alone.waiting; beacon = alone.beacon; phase = refl };
        shown = refl;
      }))
      (λ _. inl (record {
        calls = refl;
        version = refl;
        image_is = refl;
        alone = record { flight = alone.flight; waiting = alone.waiting; beacon = alone.beacon; phase = tt };
        ready = λ is. absurd (true≢false (sym is));
        shown = refl;
      }))

  -- the answers are the own version alone: no better one is fetched
  polled_is : (number : ℕ) (answers : List (Option Version)) → Some s.version ∷ [] ≡ answers → IsTurn s (polled (one_of host) s (record { number = number; answers = answers }) now)
  polled_is number answers is = subst P is own
    where
      P : List (Option Version) → Type 0
      P answers = IsTurn s (polled (one_of host) s (record { number = number; answers = answers }) now)

      no_better : (b : Bool) → version_lt s.version (cond b s.version zero_version) ≡ false
      no_better true = lt_itself s.version
      no_better false = lt_zero s.version

      own : P (Some s.version ∷ [])
      own =
          cond_both (version_lt s.version (best_answer (record { number = number; answers = Some s.version ∷ [] }))) _ _ (IsTurn s)
          (λ better. absurd (true≢false (sym better ∙ no_better (version_lt zero_version s.version))))
          (λ _. relabelled_is (record { number = number; answers = Some s.version ∷ [] }))

-- a poll begins in a server that is alone
begun_alone : (host : Host) (s : Server) (now : ℕ) → IsAlone s → IsAlone (polling (one_of host) s now)
begun_alone host s now alone = record { flight = alone.flight; waiting = alone.waiting; beacon = alone.beacon; phase = refl }

begun_is : (host : Host) (s : Server) (now : ℕ) → IsAlone s → IsTurn s (poll_begun (one_of host) s now)
begun_is host s now alone = from (polled_is host (polling (one_of host) s now) now (begun_alone host s now alone) now (Some s.version ∷ []) refl)
  where
    from : IsTurn (polling (one_of host) s now) (poll_begun (one_of host) s now) → IsTurn s (poll_begun (one_of host) s now)
    from (inl stays) = inl (record {
      calls = stays.calls;
      version = stays.version;
      image_is = stays.image_is;
      alone = stays.alone;
      ready = λ is. absurd (true≢false (sym (stays.ready is)));
      shown = stays.shown;
    })
    from (inr relabels) = inr (relabels_before s (polling (one_of host) s now) (poll_begun (one_of host) s now) refl relabels)

recovered_is : (host : Host) (s : Server) (now : ℕ) (phase : PhaseRecord) → IsAlone s → IsAlonePhase s.version phase → s.phase ≡ phase → IsTurn s (recovered (one_of host) s now phase)
recovered_is host s now NoPhase alone is at =
    cond_both (leased (one_of host) s now) _ _ (IsTurn s) (λ _. begun_is host s now alone) (λ _. stays host s now alone)
recovered_is host s now (Poll poll) alone is at = polled_is host s now alone poll.number poll.answers (sym is)
recovered_is host s now (Fetch poll best from) alone is at = absurd is
recovered_is host s now (Relabel poll) alone is at = relabelled_is host s now alone poll
recovered_is host s now (Send poll spread) alone is at = absurd is
recovered_is host s now (Ready poll spread announced) alone is at = stays host s now alone

-- a turn is a step
turn_is : (db : Database) (s : Server) (now : ℕ) (e : NodeEvent) (t : Stepped) → IsTurn s t → IsStep db s now e t
turn_is db s now e t (inl stays) =
    let P : List Shown → Type 0 = λ shown. AllTold db s now e shown in
    inl (record {
      calls = stays.calls;
      version = stays.version;
      image_is = stays.image_is;
      alone = stays.alone;
      ready = stays.ready;
      told = subst P (sym stays.shown) tt;
    })
turn_is db s now e t (inr relabels) = inr (inl relabels)

-- ---- calls

module _ (db : Database) (host : Host) (s : Server) (now id : ℕ) (call : List ℕ) (alone : IsAlone s) where
  -- one reply
  replies : (r : Reply) (evaluation : Option Evaluation) → IsTold db s now (event.Ask id call) id r evaluation → IsStep db s now (event.Ask id call) (showing s (record { output = output.Reply id r; evaluation = evaluation } ∷ []))
  replies r evaluation told =
      inl (record { calls = refl; version = refl; image_is = refl; alone = alone; ready = λ is. is; told = (told, tt) })

  -- what the database answers
  abbrev answers : (answer : CallReply) → is_ready s.phase ≡ true → (db.call s.image now call).reply ≡ answer → IsAnswer db s now (event.Ask id call) id answer
  answers answer ready is = record { call = call; asked = refl; answer_is = is; ready = ready }

  -- in a ready server the announced version is the own one
  told_own : (phase : PhaseRecord) → IsAlonePhase s.version phase → told_version phase s.version ≡ s.version
  told_own NoPhase is = refl
  told_own (Poll poll) is = refl
  told_own (Fetch poll best from) is = refl
  told_own (Relabel poll) is = refl
  told_own (Send poll spread) is = refl
  told_own (Ready poll spread announced) is = is

  -- it is evaluated on the announced image
  abbrev gives : (answer : CallReply) → is_ready s.phase ≡ true → (db.call s.image now call).reply ≡ answer → IsGiven db s now (event.Ask id call) id answer (Some (record { call = call; moment = now; basis = Announced_image (told_version s.phase s.version) }))
  gives answer ready is = record {
    answered = answers answer ready is;
    evaluated = ap (λ (v : Version). Some (record { call = call; moment = now; basis = Announced_image v })) (told_own s.phase alone.phase);
  }

  -- ---- a write

  committed_is : (answer : List ℕ) (changes : List Change) (phase : PhaseRecord) → is_ready s.phase ≡ true → (db.call s.image now call).reply ≡ call_reply.Done answer → s.phase ≡ phase → IsStep db s now (event.Ask id call) (written_in (one_of host) s now id call answer (db.call s.image now call).image changes phase)
  committed_is answer changes NoPhase ready is at = absurd (true≢false (sym ready ∙ ap is_ready at))
  committed_is answer changes (Poll poll) ready is at = absurd (true≢false (sym ready ∙ ap is_ready at))
  committed_is answer changes (Fetch poll best from) ready is at = absurd (true≢false (sym ready ∙ ap is_ready at))
  committed_is answer changes (Relabel poll) ready is at = absurd (true≢false (sym ready ∙ ap is_ready at))
  committed_is answer changes (Send poll spread) ready is at = absurd (true≢false (sym ready ∙ ap is_ready at))
  committed_is answer changes (Ready poll spread announced) ready is at = inr (inr (record {
    new = next_version s.version;
    id = id;
    answer = answer;
    changes = changes;
    answered = answers (call_reply.Done answer) ready is;
    fresh = next_is_new s.version;
    calls = refl;
    version = refl;
    image_is = refl;
    alone = record { flight = refl; waiting = alone.waiting; beacon = alone.beacon; phase = refl };
    shown = refl;
  }))

  -- the counter is at its end
  last_is : IsStep db s now (event.Ask id call) (last_counter (one_of host) s now id)
  last_is = inl (record {
    calls = refl;
    version = refl;
    image_is = refl;
    alone = record { flight = alone.flight; waiting = refl; beacon = alone.beacon; phase = refl };
    ready = λ is. absurd (true≢false (sym is));
    told = (refl, refused s.waiting alone.waiting);
  })
    where
      refused : (waiting : List Waiting) → waiting ≡ [] → AllTold db s now (event.Ask id call) (waiting_refused waiting (no_quorum (one_of host) s now phases.Poll applied.No))
      refused [] is = tt
      refused (w ∷ waiting) is = absurd (cc)

  small_is : (answer : List ℕ) (changes : List Change) → is_ready s.phase ≡ true → (db.call s.image now call).reply ≡ call_reply.Done answer → changes_of db s.image (db.call s.image now call).image ≡ changes → IsStep db s now (event.Ask id call) (written_small (one_of host) s now id call answer (db.call s.image now call).image changes)
  small_is answer [] ready is none = replies (reply.Ok answer) _ (record { given = gives (call_reply.Done answer) ready is; same = λ _. none })
  small_is answer (change ∷ changes) ready is some =
      cond_both (s.version.counter == MAX_COUNTER) _ _ (IsStep db s now (event.Ask id call)) (λ _. last_is)
      (λ _. committed_is answer (change ∷ changes) s.phase ready is refl)

  within_is : (answer : List ℕ) (passed : Option ℕ) → is_ready s.phase ≡ true → (db.call s.image now call).reply ≡ call_reply.Done answer → IsStep db s now (event.Ask id call) (written_within (one_of host) s now id call answer (db.call s.image now call).image (changes_of db s.image (db.call s.image now call).image) passed)
  within_is answer None ready is = small_is answer (changes_of db s.image (db.call s.image now call).image) ready is refl
  within_is answer (Some bytes) ready is = replies (reply.TooLarge bytes) None refl

  turned_is : (r : CallReply) → is_ready s.phase ≡ true → (db.call s.image now call).reply ≡ r → IsStep db s now (event.Ask id call) (turned db (one_of host) s now id call (db.call s.image now call).image r)
  turned_is (call_reply.Done answer) ready is =
      within_is answer (too_large 0 (length s.image) (changes_of db s.image (db.call s.image now call).image)) ready is
  turned_is (call_reply.Rule number) ready is = replies (reply.Rule number) _ (gives (call_reply.Rule number) ready is)
  turned_is call_reply.Malformed ready is = replies reply.Malformed None refl
  turned_is (call_reply.BadRecord at) ready is = replies (reply.BadRecord at) None (answers (call_reply.BadRecord at) ready is, refl)

  written_is : (short : Bool) (f : Option Flight) → is_ready s.phase ≡ true → f ≡ None → IsStep db s now (event.Ask id call) (write_asked db (one_of host) s now id call short f)
  written_is true None ready is = replies reply.NoMemory None refl
  written_is false None ready is = turned_is (db.call s.image now call).reply ready refl
  written_is short (Some f) ready is = absurd (cc)

  -- ---- a read

  read_is : (r : CallReply) → is_ready s.phase ≡ true → db.writes call ≡ Some false → (db.call s.image now call).reply ≡ r → IsStep db s now (event.Ask id call) (showing s (read_reply id (record { call = call; moment = now; basis = Announced_image (told_version s.phase s.version) }) r ∷ []))
  read_is (call_reply.Done answer) ready reads is =
      replies (reply.Ok answer) _ (record { given = gives (call_reply.Done answer) ready is; same = λ writes. absurd (cc) })
  read_is (call_reply.Rule number) ready reads is = replies (reply.Rule number) _ (gives (call_reply.Rule number) ready is)
  read_is call_reply.Malformed ready reads is = replies reply.Malformed None refl
  read_is (call_reply.BadRecord at) ready reads is = replies (reply.BadRecord at) None (answers (call_reply.BadRecord at) ready is, refl)

  image_read_is : (short : Bool) (f : Option Flight) → is_ready s.phase ≡ true → db.writes call ≡ Some false → f ≡ None → IsStep db s now (event.Ask id call) (read db s now id call (image_before s.image f) (Announced_image (told_version s.phase s.version)) short)
  image_read_is true f ready reads is = replies reply.NoMemory None refl
  image_read_is false None ready reads is = read_is (db.call s.image now call).reply ready reads refl
  image_read_is false (Some f) ready reads is = absurd (cc)

  served_is : (writes short : Bool) → is_ready s.phase ≡ true → db.writes call ≡ Some writes → IsStep db s now (event.Ask id call) (served db (one_of host) s now id call writes short)
  served_is true short ready is = written_is short s.flight ready alone.flight
  served_is false short ready is = image_read_is short s.flight ready is alone.flight

  -- ---- where no call is served

  unserved_is : (heard : Option (ℕ × ℕ)) → IsStep db s now (event.Ask id call) (showing s (refusing id (not_served (one_of host) s now heard) ∷ []))
  unserved_is None = replies _ None refl
  unserved_is (Some heard) =
      cond_both (heard.0 == 0) _ _ (λ r. IsStep db s now (event.Ask id call) (showing s (refusing id r ∷ []))) (λ _. replies _ None refl) (λ _. replies _ None refl)

  elsewhere_is : (writes short : Bool) (kept : Option ReadyBeacon) → kept ≡ None → IsStep db s now (event.Ask id call) (asked_elsewhere db (one_of host) s now id call writes short (allows_reads s.version now kept))
  elsewhere_is true short kept is = unserved_is (sync_heard now s.votes)
  elsewhere_is false short None is = unserved_is (sync_heard now s.votes)
  elsewhere_is false short (Some kept) is = absurd (cc)

  asked_as_is : (short : Bool) (o : Option Bool) → db.writes call ≡ o → IsStep db s now (event.Ask id call) (asked_as db (one_of host) s now id call short o)
  asked_as_is short None is = replies reply.Malformed None refl
  asked_as_is short (Some writes) is =
      cond_both (leased (one_of host) s now) _ _ (IsStep db s now (event.Ask id call))
      (λ _. cond_both (is_ready s.phase) _ _ (IsStep db s now (event.Ask id call)) (λ ready. served_is writes short ready is) (λ _. replies _ None refl))
      (λ _. elsewhere_is writes short s.beacon alone.beacon)

-- ---- a step

-- no packet comes to a server that is alone
abbrev pub IsOwn : NodeEvent → Type 0
IsOwn (event.Packet p) = ⊥
IsOwn _ = Unit {0}

handled_is : (db : Database) (host : Host) (s : Server) (now : ℕ) (e : NodeEvent) (short : List Bool) → IsOwn e → IsAlone s → IsStep db s now e (handled (always db) (one_of host) s now e short)
handled_is db host s now (event.Packet p) short own alone = absurd own
handled_is db host s now event.BeaconTurn short own alone =
    cond_both (beacon_is_due s.votes now 0 (leased (one_of host) s now)) _ _ (IsStep db s now event.BeaconTurn)
    (λ _. inl (record {
      calls = refl;
      version = refl;
      image_is = refl;
      alone = record { flight = alone.flight; waiting = alone.waiting; beacon = alone.beacon; phase = alone.phase };
      ready = λ is. is;
      told = tt;
    }))
    (λ _. turn_is db s now event.BeaconTurn (quiet s) (stays host s now alone))
handled_is db host s now event.RecoverTurn short own alone =
    turn_is db s now event.RecoverTurn (recovery_turn (one_of host) s now) (recovered_is host s now s.phase alone alone.phase refl)
handled_is db host s now (event.Ask id call) short own alone = asked_as_is db host s now id call alone (is_short short) (db.writes call) refl

-- ---- the lapse

-- the server when its phase is dropped
abbrev dropped : Server → Server
dropped s = with_phase (without_writes s) NoPhase

dropped_alone : (s : Server) → IsAlone s → IsAlone (dropped s)
dropped_alone s alone = record { flight = refl; waiting = refl; beacon = alone.beacon; phase = tt }

-- there is no write to drop
pub none_refused : (f : Option Flight) (waiting : List Waiting) (one other : Reply) → f ≡ None → waiting ≡ [] → flight_refused f one ++ waiting_refused waiting other ≡ []
none_refused None [] one other none is = refl
none_refused None (w ∷ waiting) one other none is = absurd (cc)
none_refused (Some f) waiting one other none is = absurd (cc)

module _ (db : Database) (s : Server) (now : ℕ) (e : NodeEvent) where
  -- without a phase nothing is told of the database
  no_answer : {A : Type 0} (id : ℕ) (answer : CallReply) → IsAnswer db (dropped s) now e id answer → A
  no_answer id answer a = absurd (true≢false (sym a.ready))

  told_dropped : (id : ℕ) (r : Reply) (evaluation : Option Evaluation) → IsTold db (dropped s) now e id r evaluation → IsTold db s now e id r evaluation
  told_dropped id (reply.Ok fields) evaluation told = no_answer id (call_reply.Done fields) told.given.answered
  told_dropped id (reply.Rule number) evaluation told = no_answer id (call_reply.Rule number) told.answered
  told_dropped id (reply.BadRecord at) evaluation told = no_answer id (call_reply.BadRecord at) told.0
  told_dropped id _ evaluation told = told

  output_dropped : (o : Output) (evaluation : Option Evaluation) → IsToldOutput db (dropped s) now e o evaluation → IsToldOutput db s now e o evaluation
  output_dropped (output.Send packet) evaluation told = told
  output_dropped (output.Reply id r) evaluation told = told_dropped id r evaluation told
  output_dropped (output.Announce version) evaluation told = told

  all_dropped : (shown : List Shown) → AllTold db (dropped s) now e shown → AllTold db s now e shown
  all_dropped [] told = tt
  all_dropped (one ∷ shown) told = (output_dropped one.output one.evaluation told.0, all_dropped shown told.1)

  step_dropped : (t : Stepped) → IsStep db (dropped s) now e t → IsStep db s now e t
  step_dropped t (inl rests) = inl (record {
    calls = rests.calls;
    version = rests.version;
    image_is = rests.image_is;
    alone = rests.alone;
    ready = λ is. absurd (true≢false (sym (rests.ready is)));
    told = all_dropped t.shown rests.told;
  })
  step_dropped t (inr (inl relabels)) = inr (inl (relabels_before s (dropped s) t refl relabels))
  step_dropped t (inr (inr commits)) = no_answer commits.id (call_reply.Done commits.answer) commits.answered

-- a step of a server that is alone, whatever the event
pub step_is : (db : Database) (host : Host) (s : Server) (now : ℕ) (e : NodeEvent) (short : List Bool) → IsOwn e → IsAlone s → IsStep db s now e (step_of db (one_of host) s now e short)
unfolding step_by
step_is db host s now e short own alone = cond_both (leased (one_of host) s now) _ _ P (λ _. kept s.flight alone.flight) (λ _. lapses)
  where
    P : Stepped → Type 0
    P t = IsStep db s now e (followed t (λ after. handled (always db) (one_of host) after now e (short_after t.shown short)))

    kept : (f : Option Flight) → f ≡ None → P (write_lapsed (one_of host) s now f)
    kept None is = handled_is db host s now e short own alone
    kept (Some f) is = absurd (cc)

    Q : List Shown → Type 0
    Q shown = P (showing (dropped s) shown)

    lapses : Q (writes_refused (one_of host) s now phases.None)
    lapses = subst Q (sym (none_refused s.flight s.waiting _ _ alone.flight alone.waiting))
        (step_dropped db s now e _ (handled_is db host (dropped s) now e short own (dropped_alone s alone)))
