-- The turn of a call that writes, and of those that wait behind a write that is over.
use Rattle.std.proofs.Common.{Bool, true, false, true≢false, cond, ◌==◌, ◌≡◌, ℕ, zero, suc, ◌+◌, ◌/◌, ◌<◌, ◌≤◌, List, [], ◌∷◌, ◌++◌, length}
use Rattle.std.proofs.Common.{refl, sym, ap, subst, ◌∙◌, arith}
use Rattle.std.proofs.lemmas.Bool.{cond_both}
use Rattle.std.proofs.lemmas.Bool.Decides.{nat_tests}
use Rattle.std.proofs.lemmas.List.{append-nil, length-append}
use Rattle.std.proofs.lemmas.List.Sums.{sum_by-cons}
use Rattle.std.proofs.lemmas.Option.{none-some, same_Some}
use Rattle.std.specs.List.{AllByRecursion}
use Rattle.std.specs.Prelude.{Option, Some, None, nat_le, replicate}
use Rattle.ubik_types.specs.declared.images.Change.{Change}
use Rattle.ubik_types.specs.declared.phases.Phase.TheVariants as phases
use Rattle.ubik_types.specs.declared.phases.Applied.TheVariants as applied
use Rattle.ubik_types.specs.declared.versions.TheConstants.{MAX_COUNTER}
use Rattle.ubik_types.specs.declared.versions.Version.{Version}
use Rattle.ubik_types.specs.Logged.{too_large}
use Rattle.ubik_types.specs.Moment.{IsMoment}
use Rattle.ubik_types.specs.Phase.{Polled, Spread, PhaseRecord, NoPhase, Poll, Fetch, Relabel, Send, Ready}
use Rattle.ubik_types.specs.Quorum.{size, is_majority}
use Rattle.ubik_types.specs.Version.{IsVersion}
use Rattle.xdr_base.specs.ChangeText.{text_of}
use Rattle.ubik_calls.specs.declared.replies.Reply.{Reply}
use Rattle.ubik_calls.specs.declared.replies.Reply.TheVariants as reply
use Rattle.db_image.specs.declared.services.CallReply.{CallReply}
use Rattle.db_image.specs.declared.services.CallReply.TheVariants as call_reply
use Rattle.db_image.specs.Database.{Database, Outcome, changes_of}
use Rattle.cell_model.specs.declared.events.Output.TheVariants as output
use Rattle.cell_model.specs.Evaluating.{always}
use Rattle.cell_model.specs.Lapse.{no_quorum, waiting_refused}
use Rattle.cell_model.specs.Node.{Server, Flight, Waiting}
use Rattle.cell_model.specs.Polls.{only_at, only_holder}
use Rattle.cell_model.specs.Recovery.{held_by, holder_added}
use Rattle.cell_model.specs.Step.{Member, cell_size, Commit_on, Evaluation, Stepped, quiet, showing, followed, is_ready, is_fetch}
use Rattle.cell_model.specs.Step.{with_phase, is_short, short_after}
use Rattle.cell_model.specs.Voters.{IsOkOf}
use Rattle.cell_model.specs.Writes.{write_bodies, next_version, own_write_begun, flight_of, ended_write, flight_settled, settled_in, settled}
use Rattle.cell_model.specs.Writes.{last_counter, written_in, written_small, written_within, turned, write_turn, is_free_in, is_free, next_turns}
use Rattle.recovery_laws.specs.HasNoWrite.{IsPhaseOf, IsReceived}
use Rattle.recovery_laws.proofs.Facts.{next_is, next_later}
use Rattle.write_laws.specs.Keeping.{IsInFlight, IsWriting, IsKeeping}
use Rattle.write_laws.specs.Lines.{call_in_flight, unanswered, answers_of, IsGiven, AreAnswersTo}
use Rattle.write_laws.proofs.Facts.{Keeps, keeps, no_flight, phase_received, held_keeps, line_keeps, polling_keeps}
use Rattle.write_laws.proofs.Goes.{AllFine, AllSilent, silent_fine, silent_answers, fine_append, each_silent, Goes, rests, Line, IsIdle, line_of, Serves}
use Rattle.write_laws.proofs.Goes.{Handles, of_silent, serves_then, handles}
use Rattle.write_laws.proofs.Lining.{told_both, waiting_told, without_flight}
use Rattle.write_laws.proofs.Recovering.{write_bounded, sending_goes}

-- ---- majorities

size-cons : (a : Bool) (set : List Bool) → size (a ∷ set) ≡ cond a 1 0 + size set
size-cons a set = sum_by-cons (λ (marked : Bool). cond marked 1 0) a set

none_of : (n : ℕ) → size (replicate n false) ≡ 0
none_of zero = refl
none_of (suc n) = size-cons false (replicate n false) ∙ ap (λ (k : ℕ). 0 + k) (none_of n)

one_of_them : (n me : ℕ) → size (only_at true false n me) ≤ 1
one_of_them zero me = omega arith
one_of_them (suc n) zero =
    let none : size (replicate n false) ≡ 0 = none_of n in
    let first : size (true ∷ replicate n false) ≡ 1 + size (replicate n false) = size-cons true (replicate n false) in omega arith
one_of_them (suc n) (suc me) =
    let rest : size (only_at true false n me) ≤ 1 = one_of_them n me in
    let first : size (false ∷ only_at true false n me) ≡ 0 + size (only_at true false n me) = size-cons false (only_at true false n me) in omega arith

me_there : (n me : ℕ) → me < n → 1 ≤ size (only_at true false n me)
me_there zero me inside = absurd (omega arith)
me_there (suc n) zero inside =
    let first : size (true ∷ replicate n false) ≡ 1 + size (replicate n false) = size-cons true (replicate n false) in omega arith
me_there (suc n) (suc me) inside =
    let rest : 1 ≤ size (only_at true false n me) = me_there n me (omega arith) in
    let first : size (false ∷ only_at true false n me) ≡ 0 + size (only_at true false n me) = size-cons false (only_at true false n me) in omega arith

-- this server alone is no majority of more
not_alone : (m : Member) → 1 < cell_size m → is_majority (cell_size m) (only_holder m) ≡ true → ⊥
not_alone m several most =
    by (cell_size m) (size (only_holder m)) several (one_of_them (cell_size m) m.me) most
  where
    by : (n k : ℕ) → 1 < n → k ≤ 1 → nat_le (n / 2 + 1) k ≡ true → ⊥
    by n k several one most = (let less : n / 2 + 1 ≤ k = grind (arith, nat_tests) in omega arith)

-- and where it is none there are more
more_than_one : (m : Member) → m.me < cell_size m → is_majority (cell_size m) (only_holder m) ≡ false → 1 < cell_size m
more_than_one m inside most =
    by (cell_size m) (size (only_holder m)) (me_there (cell_size m) m.me inside) most
  where
    by : (n k : ℕ) → 1 ≤ k → nat_le (n / 2 + 1) k ≡ false → 1 < n
    by n k one most = (let less : k < n / 2 + 1 = grind (arith, nat_tests) in omega arith)

-- ---- a turn

-- 1 where a call may have its turn, else 0
abbrev pub room : Option Flight → ℕ
room None = 1
room (Some f) = 0

room_left : (f : Option Flight) → 0 + room f ≤ 1
room_left None = omega arith
room_left (Some f) = omega arith

-- The turn of a call before which these wait: where the server is free after it, they wait on; where it is not, and no write is in flight,
-- none waits any more. A server that is not alone makes a durable call only where a write is in flight after it.
pub record Turned (db : Database) (m : Member) (w : Waiting) (s : Server) (t : Stepped) : Type 0 where
  pub serves : Serves db m 1 (w ∷ s.waiting) s t
  pub free : is_free t.server ≡ true → t.server.waiting ≡ s.waiting
  pub stuck : is_free t.server ≡ false → IsIdle (line_of t.server)
  pub few : 1 < cell_size m → length t.calls + room t.server.flight ≤ 1

free_in : (phase : PhaseRecord) (f : Option Flight) → is_ready phase ≡ true → f ≡ None → is_free_in phase f ≡ true
free_in (Ready poll spread announced) None ready none = refl
free_in (Ready poll spread announced) (Some f) ready none = absurd (cc)
free_in NoPhase f ready none = absurd (true≢false (sym ready))
free_in (Poll poll) f ready none = absurd (true≢false (sym ready))
free_in (Fetch poll best host) f ready none = absurd (true≢false (sym ready))
free_in (Relabel poll) f ready none = absurd (true≢false (sym ready))
free_in (Send poll spread) f ready none = absurd (true≢false (sym ready))

pub free_has : (phase : PhaseRecord) (f : Option Flight) → is_free_in phase f ≡ true → (is_ready phase ≡ true) × (f ≡ None)
free_has (Ready poll spread announced) None free = (refl, refl)
free_has (Ready poll spread announced) (Some f) free = absurd (true≢false (sym free))
free_has NoPhase f free = absurd (true≢false (sym free))
free_has (Poll poll) f free = absurd (true≢false (sym free))
free_has (Fetch poll best host) f free = absurd (true≢false (sym free))
free_has (Relabel poll) f free = absurd (true≢false (sym free))
free_has (Send poll spread) f free = absurd (true≢false (sym free))

module _ (db : Database) (m : Member) (now : ℕ) (inside : m.me < cell_size m) (moment : IsMoment now) (s : Server) (good : Keeps db (cell_size m) s)
    (none : s.flight ≡ None) (ready : is_ready s.phase ≡ true) (id : ℕ) (call : List ℕ) (writes : db.writes call ≡ Some true) where
  abbrev w : Waiting
  w = record { id = id; call = call }

  abbrev T : Stepped → Type 0
  T t = Turned db m w s t

  -- it is answered at once
  replied : (r : Reply) (evaluation : Option Evaluation) → IsOkOf call (output.Reply id r) evaluation → IsGiven db r evaluation →
      T (showing s (record { output = output.Reply id r; evaluation = evaluation } ∷ []))
  replied r evaluation fits given = record {
    serves = record {
      server = good;
      shown = (tt, tt);
      fits = tt;
      leads = refl;
      few = omega arith;
      answered = w ∷ [];
      told = (record { id = refl; call = fits; given = given }, tt);
      rest = ap (λ (l : List Waiting). w ∷ l) (sym (without_flight s.flight s.waiting none));
    };
    free = λ _. refl;
    stuck = λ stuck. absurd (true≢false (sym (free_in s.phase s.flight ready none) ∙ stuck));
    few = λ _. room_left s.flight;
  }

  -- the counter is at its end
  last_turned : T (last_counter m s now id)
  last_turned = record {
    serves = record {
      server = polling_keeps db m (record s { waiting = [] }) now none (line_keeps db (cell_size m) s [] tt good);
      shown = (tt, silenced s.waiting);
      fits = tt;
      leads = refl;
      few = omega arith;
      answered = w ∷ s.waiting;
      told = (record { id = refl; call = tt; given = tt }, waiting_told db s.waiting _ ((λ id call. tt), tt));
      rest =
          sym (append-nil (w ∷ s.waiting)) ∙ ap (λ (l : List Waiting). (w ∷ s.waiting) ++ l) (sym (without_flight s.flight [] none));
    };
    free = λ free. absurd (true≢false (sym free));
    stuck = λ _ _. refl;
    few = λ _. room_left s.flight;
  }
    where
      silenced : (waiting : List Waiting) → AllFine m (waiting_refused waiting (no_quorum m s now phases.Poll applied.No))
      silenced [] = tt
      silenced (w ∷ waiting) = (tt, silenced waiting)

  -- ---- a commit

  module _ (answer image : List ℕ) (changes : List Change) (outcome : db.call s.image now call ≡ record { reply = call_reply.Done answer; image = image })
      (of_image : changes ≡ changes_of db s.image image) (small : too_large 0 (length s.image) changes ≡ None)
      (counter : (s.version.counter == MAX_COUNTER) ≡ false) where
    committed : (poll : Polled) (spread : Spread) (announced : Version) → IsPhaseOf (cell_size m) (Ready poll spread announced) →
        T (followed (own_write_begun m s now id call answer image changes poll spread) (settled m))
    committed poll spread announced is =
        cond_both (is_majority (cell_size m) (only_holder m)) (ended_write begun.server f poll (record spread { holders = only_holder m }) s.version)
        (quiet begun.server) (λ (u : Stepped). T (followed begun (λ _. u))) ended flies
      where
        begun : Stepped
        begun = own_write_begun m s now id call answer image changes poll spread

        f : Flight
        f = flight_of s now id call answer changes

        next : IsVersion (next_version s.version)
        next = next_is s.version counter good.version

        sends : AllSilent m begun.shown
        sends =
            each_silent m inside (λ k. write_bodies s.version (next_version s.version) (text_of changes))
            (λ k. write_bounded s.version (next_version s.version) (text_of changes) good.version next)

        texts : IsReceived begun.server.received
        texts = cond_both (is_fetch s.phase) None None IsReceived (λ _. tt) (λ _. tt)

        silent_told : AreAnswersTo db [] (answers_of begun.shown)
        silent_told = subst (AreAnswersTo db []) (sym (silent_answers m begun.shown sends)) tt

        ended : is_majority (cell_size m) (only_holder m) ≡ true →
            T (followed begun (λ _. ended_write begun.server f poll (record spread { holders = only_holder m }) s.version))
        ended most = record {
          serves = record {
            server = record { version = next; phase = (is.0, is.1, next); received = texts; kept = tt; flight = tt; line = good.line };
            shown = fine_append m begun.shown _ (silent_fine m begun.shown sends) (tt, (tt, tt));
            fits = ((record { version = next; later = next_later s.version }, small), tt);
            leads = refl;
            few = omega arith;
            answered = w ∷ [];
            told = told_both db [] (w ∷ []) begun.shown _ silent_told (record { id = refl; call = refl; given = (s.image, ap (λ (o : Outcome). o.reply) outcome) }, tt);
            rest = refl;
          };
          free = λ _. refl;
          stuck = λ stuck. absurd (true≢false stuck);
          few = λ several. absurd (not_alone m several most);
        }

        flies : is_majority (cell_size m) (only_holder m) ≡ false → T (followed begun (λ _. quiet begun.server))
        flies most = record {
          serves = record {
            server = record {
              version = next;
              phase = (is.0, is.1, good.version);
              received = texts;
              kept = tt;
              flight = record {
                several = more_than_one m inside most;
                ready = refl;
                next = refl;
                began = moment;
                writes = writes;
                outcome = outcome;
                changes = of_image;
                small = small;
              };
              line = good.line;
            };
            shown = fine_append m begun.shown [] (silent_fine m begun.shown sends) tt;
            fits = ((record { version = next; later = next_later s.version }, small), tt);
            leads = refl;
            few = omega arith;
            answered = [];
            told = told_both db [] [] begun.shown [] silent_told tt;
            rest = refl;
          };
          free = λ free. absurd (true≢false (sym free));
          stuck = λ _ away. absurd (none-some f (sym away));
          few = λ _. omega arith;
        }

    in_goes : (phase : PhaseRecord) → s.phase ≡ phase → IsPhaseOf (cell_size m) phase →
        T (written_in m s now id call answer image changes phase)
    in_goes NoPhase at is = absurd (true≢false (sym ready ∙ ap is_ready at))
    in_goes (Poll poll) at is = absurd (true≢false (sym ready ∙ ap is_ready at))
    in_goes (Fetch poll best from) at is = absurd (true≢false (sym ready ∙ ap is_ready at))
    in_goes (Relabel poll) at is = absurd (true≢false (sym ready ∙ ap is_ready at))
    in_goes (Send poll spread) at is = absurd (true≢false (sym ready ∙ ap is_ready at))
    in_goes (Ready poll spread announced) at is = committed poll spread announced is

  -- ---- what the database makes of the call

  small_turned : (answer image : List ℕ) (changes : List Change) → db.call s.image now call ≡ record { reply = call_reply.Done answer; image = image } →
      changes ≡ changes_of db s.image image → too_large 0 (length s.image) changes ≡ None →
      T (written_small m s now id call answer image changes)
  small_turned answer image [] outcome of_image small = replied (reply.Ok answer) _ refl (s.image, ap (λ (o : Outcome). o.reply) outcome)
  small_turned answer image (change ∷ changes) outcome of_image small =
      cond_both (s.version.counter == MAX_COUNTER) _ _ T (λ _. last_turned)
      (λ counter. in_goes answer image (change ∷ changes) outcome of_image small counter s.phase refl good.phase)

  within_turned : (answer image : List ℕ) (changes : List Change) (passed : Option ℕ) →
      db.call s.image now call ≡ record { reply = call_reply.Done answer; image = image } →
      changes ≡ changes_of db s.image image → too_large 0 (length s.image) changes ≡ passed →
      T (written_within m s now id call answer image changes passed)
  within_turned answer image changes None outcome of_image is = small_turned answer image changes outcome of_image is
  within_turned answer image changes (Some bytes) outcome of_image is = replied (reply.TooLarge bytes) None tt tt

  turned_turned : (image : List ℕ) (r : CallReply) → db.call s.image now call ≡ record { reply = r; image = image } →
      T (turned db m s now id call image r)
  turned_turned image (call_reply.Done answer) outcome =
      within_turned answer image (changes_of db s.image image) (too_large 0 (length s.image) (changes_of db s.image image)) outcome refl refl
  turned_turned image (call_reply.Rule number) outcome = replied (reply.Rule number) _ tt (s.image, ap (λ (o : Outcome). o.reply) outcome)
  turned_turned image call_reply.Malformed outcome = replied reply.Malformed None tt tt
  turned_turned image (call_reply.BadRecord at) outcome = replied (reply.BadRecord at) None tt tt

  pub write_turned : (short : Bool) → T (write_turn db m s now id call short)
  write_turned true = replied reply.NoMemory None tt tt
  write_turned false = turned_turned (db.call s.image now call).image (db.call s.image now call).reply refl

-- ---- the turns of those that wait

-- Of all calls without an answer the first ones are answered, and none waits without a write in flight. There is a durable call only where a
-- write is in flight after it.
pub record TurnsGo (db : Database) (m : Member) (s : Server) (t : Stepped) : Type 0 where
  pub serves : Serves db m 1 (unanswered s) s t
  pub idle : IsIdle (line_of t.server)
  pub few : length t.calls + room t.server.flight ≤ room s.flight

module _ (db : Database) (m : Member) (now : ℕ) (inside : m.me < cell_size m) (moment : IsMoment now) where
  abbrev Good : Server → Type 0
  Good s = Keeps db (cell_size m) s

  -- no turn
  turns_over : (s : Server) → Good s → IsIdle (line_of s) → TurnsGo db m s (quiet s)
  turns_over s good idle =
      record { serves = of_silent db m 1 s (quiet s) (rests db m 1 s good); idle = idle; few = same (room s.flight) }
    where
      same : (n : ℕ) → 0 + n ≤ n
      same n = omega arith

  -- a turn, and then the next ones
  turn_then : (w : Waiting) (waiting : List Waiting) (s : Server) (t : Stepped) (next : Server → Stepped) → s.flight ≡ None →
      s.waiting ≡ w ∷ waiting → Turned db m w (record s { waiting = waiting }) t → 1 < cell_size m →
      TurnsGo db m t.server (next t.server) → TurnsGo db m s (followed t next)
  turn_then w waiting s t next none at first several then =
      let both : Serves db m 2 (w ∷ waiting) (record s { waiting = waiting }) (followed t next) =
      serves_then db m 1 1 (w ∷ waiting) (record s { waiting = waiting }) t next first.serves then.serves in
      record {
        serves = record {
          server = both.server;
          shown = both.shown;
          fits = both.fits;
          leads = both.leads;
          few = calls (first.few several);
          answered = both.answered;
          told = both.told;
          rest = without_flight s.flight s.waiting none ∙ at ∙ both.rest;
        };
        idle = then.idle;
        few = subst (λ (f : Option Flight). length (followed t next).calls + room (next t.server).server.flight ≤ room f) (sym none) (left (first.few several));
      }
    where
      long : length (t.calls ++ (next t.server).calls) ≡ length t.calls + length (next t.server).calls
      long = length-append t.calls (next t.server).calls

      sums : (n a b c d : ℕ) → n ≡ a + b → a + c ≤ 1 → b + d ≤ c → n + d ≤ 1
      sums n a b c d is one two = omega arith

      left : length t.calls + room t.server.flight ≤ 1 → length (t.calls ++ (next t.server).calls) + room (next t.server).server.flight ≤ 1
      left one =
          sums (length (t.calls ++ (next t.server).calls)) (length t.calls) (length (next t.server).calls) (room t.server.flight)
          (room (next t.server).server.flight) long one then.few

      calls : length t.calls + room t.server.flight ≤ 1 → length (t.calls ++ (next t.server).calls) ≤ 1
      calls one = less (length (t.calls ++ (next t.server).calls)) (room (next t.server).server.flight) (left one)
        where
          less : (n d : ℕ) → n + d ≤ 1 → n ≤ 1
          less n d is = omega arith

  -- Where the server is free these wait; where it is not, and no write is in flight, none does.
  pub next_go : (waiting : List Waiting) (s : Server) (short : List Bool) → 1 < cell_size m → Good s →
      (is_free s ≡ true → s.waiting ≡ waiting) → (is_free s ≡ false → IsIdle (line_of s)) → TurnsGo db m s (next_turns (always db) m now waiting s short)
  next_go [] s short several good free stuck = turns_over s good (by (is_free s) refl)
    where
      by : (t : Bool) → is_free s ≡ t → IsIdle (line_of s)
      by true is = λ _. free is
      by false is = stuck is
  next_go (w ∷ waiting) s short several good free stuck =
      cond_both (is_free s) _ _ (TurnsGo db m s)
      (λ is.
      let has = free_has s.phase s.flight is in
      let at : s.waiting ≡ w ∷ waiting = free is in
      let line : AllByRecursion (IsWriting db) (w ∷ waiting) = subst (AllByRecursion (IsWriting db)) at good.line in
      let u : Server = record s { waiting = waiting } in
      let t : Stepped = write_turn db m u now w.id w.call (is_short short) in
      let first : Turned db m w u t =
      write_turned db m now inside moment u (line_keeps db (cell_size m) s waiting line.1 good) has.1 has.0 w.id w.call line.0 (is_short short) in
      turn_then w waiting s t (λ after. next_turns (always db) m now waiting after (short_after t.shown short)) has.1 at first several
      (next_go waiting t.server (short_after t.shown short) several first.serves.server first.free first.stuck))
      (λ is. turns_over s good (stuck is))

  -- ---- holders

  pub record Settled (s : Server) (t : Stepped) : Type 0 where
    pub serves : Serves db m 0 (unanswered s) s t
    pub stuck : is_free t.server ≡ false → IsIdle (line_of t.server)
    pub waits : t.server.waiting ≡ s.waiting

  still : (s : Server) (t : Stepped) → IsIdle (line_of s) → Goes db m 0 s t → Settled s t
  still s t idle goes = record {
    serves = of_silent db m 0 s t goes;
    stuck = λ _. subst IsIdle (sym goes.same) idle;
    waits = ap (λ (l : Line). l.waiting) goes.same;
  }

  flight_settles : (s : Server) (poll : Polled) (spread : Spread) (announced : Version) (f : Option Flight) → s.flight ≡ f →
      IsPhaseOf (cell_size m) (Ready poll spread announced) → IsIdle (line_of s) → Good s →
      Settled s (flight_settled m s poll spread announced f)
  flight_settles s poll spread announced None at is idle good = still s (quiet s) idle (rests db m 0 s good)
  flight_settles s poll spread announced (Some f) at is idle good =
      cond_both (is_majority (cell_size m) spread.holders) _ _ (Settled s) (λ _. ended) (λ _. still s (quiet s) idle (rests db m 0 s good))
    where
      ended : Settled s (ended_write s f poll spread announced)
      ended = record {
        serves = record {
          server = record {
            version = good.version;
            phase = (is.0, is.1, good.version);
            received = phase_received db (cell_size m) s (Ready poll spread s.version) good.received;
            kept = good.kept;
            flight = tt;
            line = good.line;
          };
          shown = (tt, (tt, tt));
          fits = tt;
          leads = refl;
          few = omega arith;
          answered = record { id = f.id; call = f.call } ∷ [];
          told = (record { id = refl; call = refl; given = outcome s.flight at good.flight }, tt);
          rest = ap (λ (g : Option Flight). call_in_flight g ++ s.waiting) at;
        };
        stuck = λ stuck. absurd (true≢false stuck);
        waits = refl;
      }
        where
          outcome : (g : Option Flight) → g ≡ Some f → IsInFlight db (cell_size m) s.phase s.version s.image g →
              IsGiven db (reply.Ok f.answer) (Some (record { call = f.call; moment = f.began; basis = Commit_on announced s.version }))
          outcome None is flies = absurd (cc)
          outcome (Some g) is flies =
              subst (λ (h : Flight). IsGiven db (reply.Ok h.answer) (Some (record { call = h.call; moment = h.began; basis = Commit_on announced s.version })))
              (same_Some g f is) (g.old_image, ap (λ (o : Outcome). o.reply) flies.outcome)

  settles : (s : Server) (phase : PhaseRecord) → s.phase ≡ phase → IsPhaseOf (cell_size m) phase → IsIdle (line_of s) → Good s →
      Settled s (settled_in m s phase)
  settles s NoPhase at is idle good = still s (quiet s) idle (rests db m 0 s good)
  settles s (Poll poll) at is idle good = still s (quiet s) idle (rests db m 0 s good)
  settles s (Fetch poll best from) at is idle good = still s (quiet s) idle (rests db m 0 s good)
  settles s (Relabel poll) at is idle good = still s (quiet s) idle (rests db m 0 s good)
  settles s (Send poll spread) at is idle good =
      still s (settled_in m s (Send poll spread)) idle
      (sending_goes db m now inside moment s poll spread (no_flight db (cell_size m) s (Send poll spread) at refl good) is.0 is.1 good)
  settles s (Ready poll spread announced) at is idle good = flight_settles s poll spread announced s.flight refl is idle good

  -- the cell has more servers where a write is in flight
  several_there : (s : Server) (f : Flight) → s.flight ≡ Some f → Good s → 1 < cell_size m
  several_there s f at good = by s.flight at good.flight
    where
      by : (g : Option Flight) → g ≡ Some f → IsInFlight db (cell_size m) s.phase s.version s.image g → 1 < cell_size m
      by None is flies = absurd (cc)
      by (Some g) is flies = flies.several

  -- a holder is added, and those that wait have their turns
  pub holder_handles : (s : Server) (k : ℕ) (short : List Bool) → IsKeeping db (cell_size m) s →
      Handles db m 1 [] s (holder_added (always db) m s now k short)
  holder_handles s k short good = by s.flight refl
    where
      u : Server
      u = with_phase s (held_by s.phase k)

      held : Good u
      held = held_keeps db (cell_size m) s k (keeps db (cell_size m) s good)

      t : Stepped
      t = settled m u

      settling : Settled u t
      settling = settles u u.phase refl held.phase good.idle held

      from : Serves db m 1 (unanswered u) u (holder_added (always db) m s now k short) → Serves db m 1 (unanswered s) s (holder_added (always db) m s now k short)
      from is = record {
        server = is.server;
        shown = is.shown;
        fits = is.fits;
        leads = is.leads;
        few = is.few;
        answered = is.answered;
        told = is.told;
        rest = is.rest;
      }

      -- nothing waits
      none_waits : (waiting : List Waiting) → waiting ≡ [] → IsIdle (line_of t.server) →
          TurnsGo db m t.server (next_turns (always db) m now waiting t.server (short_after t.shown short))
      none_waits [] none idle = turns_over t.server settling.serves.server idle
      none_waits (w ∷ waiting) none idle = absurd (cc)

      then_go : TurnsGo db m t.server (next_turns (always db) m now t.server.waiting t.server (short_after t.shown short)) →
          Handles db m 1 [] s (holder_added (always db) m s now k short)
      then_go go =
          handles db m 1 s (holder_added (always db) m s now k short) good
          (from (serves_then db m 0 1 (unanswered u) u t (λ after. next_turns (always db) m now after.waiting after (short_after t.shown short)) settling.serves go.serves))
          go.idle

      -- without a write in flight none waits behind it
      nobody : s.flight ≡ None → t.server.waiting ≡ []
      nobody none = settling.waits ∙ good.idle none

      by : (f : Option Flight) → s.flight ≡ f → Handles db m 1 [] s (holder_added (always db) m s now k short)
      by None none = then_go (none_waits t.server.waiting (nobody none) (λ _. nobody none))
      by (Some f) there =
          then_go (next_go t.server.waiting t.server (short_after t.shown short) (several_there s f there (keeps db (cell_size m) s good))
          settling.serves.server (λ _. refl) settling.stuck)
