-- The choices that count in a step are those that its replies tell.
use Rattle.std.proofs.Common.{Bool, true, false, cond, ◌==◌, ◌≡◌, ◌⊎◌, inl, inr, ℕ, zero, suc, ◌+◌, List, [], ◌∷◌, ◌++◌, length, map, drop, refl, sym, ap}
use Rattle.std.proofs.Common.{subst, ◌∙◌, arith}
use Rattle.std.proofs.lemmas.Bool.{cond_both}
use Rattle.std.proofs.lemmas.List.{append-nil}
use Rattle.std.proofs.lemmas.List.Elements.{Contains-append_right}
use Rattle.std.proofs.lemmas.List.Sums.{sum_by-cons}
use Rattle.std.specs.List.{AllByRecursion}
use Rattle.std.specs.Prelude.{Option, Some, None, Contains, nat_le, count_by}
use Rattle.lock_table.specs.declared.tables.TheConstants.{MAX_WAITING}
use Rattle.ubik_types.specs.declared.hosts.Host.{Host}
use Rattle.ubik_types.specs.declared.images.Change.{Change}
use Rattle.ubik_types.specs.declared.phases.Applied.TheVariants as applied
use Rattle.ubik_types.specs.declared.versions.TheConstants.{MAX_COUNTER}
use Rattle.ubik_types.specs.declared.versions.Version.{Version}
use Rattle.ubik_types.specs.Logged.{too_large}
use Rattle.ubik_types.specs.Phase.{phase_of, Polled, Spread, PhaseRecord, NoPhase, Poll, Fetch, Relabel, Send, Ready}
use Rattle.ubik_types.specs.Quorum.{is_majority}
use Rattle.ubik_types.specs.Version.{version_eq}
use Rattle.xdr_base.specs.ChangeText.{text_of}
use Rattle.ubik_calls.specs.declared.packets.Packet.{Packet}
use Rattle.ubik_calls.specs.declared.packets.Body.{Body}
use Rattle.ubik_calls.specs.declared.packets.Body.TheVariants as body
use Rattle.ubik_calls.specs.declared.replies.Reply.{Reply}
use Rattle.ubik_calls.specs.declared.replies.Reply.TheVariants as reply
use Rattle.db_image.specs.declared.services.CallReply.{CallReply}
use Rattle.db_image.specs.declared.services.CallReply.TheVariants as call_reply
use Rattle.db_image.specs.Database.{Database, changes_of}
use Rattle.cell_model.specs.declared.events.NodeEvent.{NodeEvent}
use Rattle.cell_model.specs.declared.events.NodeEvent.TheVariants as event
use Rattle.cell_model.specs.declared.events.Output.{Output}
use Rattle.cell_model.specs.declared.events.Output.TheVariants as output
use Rattle.cell_model.specs.Asks.{read_reply, read, put_into_line, write_asked, served, asked_elsewhere, asked_as, allows_reads}
use Rattle.cell_model.specs.Evaluating.{always}
use Rattle.cell_model.specs.Lapse.{no_quorum, lapsed}
use Rattle.cell_model.specs.Node.{Server, Flight, Waiting}
use Rattle.cell_model.specs.NodeRule.{place_of, received_from, received_packet, handled, step_of, step_by}
use Rattle.cell_model.specs.Polls.{only_holder}
use Rattle.cell_model.specs.Recovery.{held_by, holder_added, lacking_sent, version_is_received, version_kept_received}
use Rattle.cell_model.specs.Step.{Member, cell_size, Basis, Evaluation, Shown, Stepped, quiet, showing, followed, with_phase, leased, is_ready}
use Rattle.cell_model.specs.Step.{packet_to, sent, sends_from, outputs_of, refusing, is_short, is_reply, short_after}
use Rattle.cell_model.specs.Writes.{write_bodies, own_write_begun, ended_write, settled, written_in, written_small, written_within, turned}
use Rattle.cell_model.specs.Writes.{flight_of, write_turn, is_free_in, is_free, next_turns}
use Rattle.write_laws.specs.Lines.{Answer, answers_of}
use Rattle.write_laws.specs.Memory.{is_no_memory, told_short, AllFound, TellsShort, RepliesTellMemory}
use Rattle.write_laws.proofs.Lining.{answers_append}

-- ---- choices that replies tell

abbrev AreFalse : List Bool → Type 0
AreFalse choices = AllByRecursion (λ (b : Bool). b ≡ false) choices

-- the choices are those that these replies tell, and none behind them is for want of memory
abbrev Tell : List Answer → List Bool → Type 0
Tell [] choices = AreFalse choices
Tell (a ∷ answers) choices = (is_short choices ≡ is_no_memory a.reply) × Tell answers (drop 1 choices)

first_false : (choices : List Bool) → AreFalse choices → is_short choices ≡ false
first_false [] all = refl
first_false (b ∷ choices) all = all.0

-- without the first ones
drop_more : (n : ℕ) (choices : List Bool) → drop n (drop 1 choices) ≡ drop (suc n) choices
drop_more zero [] = refl
drop_more zero (b ∷ choices) = refl
drop_more (suc n) [] = refl
drop_more (suc n) (b ∷ choices) = refl

later_tell : (first answers : List Answer) (choices : List Bool) → Tell (first ++ answers) choices → Tell answers (drop (length first) choices)
later_tell [] answers choices tell = tell
later_tell (a ∷ first) answers choices tell =
    subst (Tell answers) (drop_more (length first) choices) (later_tell first answers (drop 1 choices) tell.1)

-- as many replies as `short_after` counts
count_answers : (shown : List Shown) → count_by (λ (one : Shown). is_reply one.output) shown ≡ length (answers_of shown)
count_answers [] = refl
count_answers (one ∷ shown) = sum_by-cons (λ (one : Shown). cond (is_reply one.output) 1 0) one shown ∙ by one.output one.evaluation (count_answers shown)
  where
    by : (o : Output) (evaluation : Option Evaluation) → count_by (λ (one : Shown). is_reply one.output) shown ≡ length (answers_of shown) →
        cond (is_reply o) 1 0 + count_by (λ (one : Shown). is_reply one.output) shown
        ≡ length (answers_of (record { output = o; evaluation = evaluation } ∷ shown))
    by (output.Send p) evaluation rest = none _ ∙ rest
      where
        none : (n : ℕ) → 0 + n ≡ n
        none n = omega arith
    by (output.Reply id r) evaluation rest = (let same : count_by (λ (one : Shown). is_reply one.output) shown ≡ length (answers_of shown) = rest in omega arith)
    by (output.Announce version) evaluation rest = none _ ∙ rest
      where
        none : (n : ℕ) → 0 + n ≡ n
        none n = omega arith

-- what is told of one part of a step, and then of the next
then_tell : (shown more : List Shown) (choices : List Bool) → Tell (answers_of (shown ++ more)) choices →
    Tell (answers_of more) (short_after shown choices)
then_tell shown more choices tell =
    subst (λ (n : ℕ). Tell (answers_of more) (drop n choices)) (sym (count_answers shown))
    (later_tell (answers_of shown) (answers_of more) choices (subst (λ (l : List Answer). Tell l choices) (answers_append shown more) tell))

-- ---- a first reply that found memory, or none

abbrev HeadFound : List Answer → Type 0
HeadFound [] = Unit {0}
HeadFound (a ∷ answers) = is_no_memory a.reply ≡ false

head_false : (answers : List Answer) (choices : List Bool) → HeadFound answers → Tell answers choices → is_short choices ≡ false
head_false [] choices head tell = first_false choices tell
head_false (a ∷ answers) choices head tell = tell.0 ∙ head

-- packets, and announcements, are no replies
abbrev IsNoReply : Output → Type 0
IsNoReply (output.Reply id r) = ⊥
IsNoReply _ = Unit {0}

abbrev NoReplies : List Shown → Type 0
NoReplies [] = Unit {0}
NoReplies (one ∷ shown) = IsNoReply one.output × NoReplies shown

no_answers : (shown : List Shown) → NoReplies shown → answers_of shown ≡ []
no_answers [] all = refl
no_answers (one ∷ shown) all = by one.output one.evaluation all.0 (no_answers shown all.1)
  where
    by : (o : Output) (evaluation : Option Evaluation) → IsNoReply o → answers_of shown ≡ [] →
        answers_of (record { output = o; evaluation = evaluation } ∷ shown) ≡ []
    by (output.Send p) evaluation is rest = rest
    by (output.Reply id r) evaluation is rest = absurd is
    by (output.Announce version) evaluation is rest = rest

none_append : (shown more : List Shown) → NoReplies shown → NoReplies more → NoReplies (shown ++ more)
none_append [] more first second = second
none_append (one ∷ shown) more first second = (first.0, none_append shown more first.1 second)

sent_none : (m : Member) (host : Host) (bodies : List Body) → NoReplies (map (λ (b : Body). sent (packet_to m host b)) bodies)
sent_none m host [] = tt
sent_none m host (b ∷ bodies) = (tt, sent_none m host bodies)

none_if : (test : Bool) (shown : List Shown) → NoReplies shown → NoReplies (cond test [] shown)
none_if true shown all = tt
none_if false shown all = all

sends_none : (m : Member) (k : ℕ) (hosts : List Host) (bodies : ℕ → List Body) → NoReplies (sends_from m k hosts bodies)
sends_none m k [] bodies = tt
sends_none m k (host ∷ hosts) bodies =
    none_append (cond (k == m.me) [] (map (λ (b : Body). sent (packet_to m host b)) (bodies k))) (sends_from m (k + 1) hosts bodies)
    (none_if (k == m.me) (map (λ (b : Body). sent (packet_to m host b)) (bodies k)) (sent_none m host (bodies k)))
    (sends_none m (k + 1) hosts bodies)

-- ---- a turn

-- The first reply of a turn for which memory was found does not tell otherwise; where there is none, the server is not free after it.
record FindsMemory (t : Stepped) : Type 0 where
  head : HeadFound (answers_of t.shown)
  stuck : answers_of t.shown ≡ [] → is_free t.server ≡ false

some_there : (a : Answer) (answers : List Answer) → a ∷ answers ≡ [] → ⊥
some_there a answers none = cc

one_found : (s : Server) (id : ℕ) (r : Reply) (evaluation : Option Evaluation) → is_no_memory r ≡ false →
    FindsMemory (showing s (record { output = output.Reply id r; evaluation = evaluation } ∷ []))
one_found s id r evaluation is =
    record { head = is; stuck = λ none. absurd (some_there (record { id = id; reply = r; evaluation = evaluation }) [] none) }

module _ (db : Database) (m : Member) (s : Server) (now id : ℕ) (call : List ℕ) where
  begun_found : (answer image : List ℕ) (changes : List Change) (poll : Polled) (spread : Spread) →
      FindsMemory (followed (own_write_begun m s now id call answer image changes poll spread) (settled m))
  begun_found answer image changes poll spread =
      cond_both (is_majority (cell_size m) (only_holder m)) (ended_write begun.server f poll (record spread { holders = only_holder m }) s.version)
      (quiet begun.server) (λ (u : Stepped). FindsMemory (followed begun (λ _. u))) (λ _. ended) (λ _. flies)
    where
      begun : Stepped
      begun = own_write_begun m s now id call answer image changes poll spread

      f : Flight
      f = flight_of s now id call answer changes

      silent : answers_of begun.shown ≡ []
      silent = no_answers begun.shown (sends_none m 0 m.hosts (λ k. write_bodies s.version begun.server.version (text_of changes)))

      behind : (more : List Shown) → answers_of (begun.shown ++ more) ≡ answers_of more
      behind more = answers_append begun.shown more ∙ ap (λ (l : List Answer). l ++ answers_of more) silent

      ended : FindsMemory (followed begun (λ _. ended_write begun.server f poll (record spread { holders = only_holder m }) s.version))
      ended = record { head = subst HeadFound (sym (behind _)) refl; stuck = λ none. absurd (some_there _ [] (sym (behind _) ∙ none)) }

      flies : FindsMemory (followed begun (λ _. quiet begun.server))
      flies = record { head = subst HeadFound (sym (behind [])) tt; stuck = λ _. refl }

  -- the phase is the own one
  in_found : (answer image : List ℕ) (changes : List Change) (phase : PhaseRecord) → s.phase ≡ phase →
      FindsMemory (written_in m s now id call answer image changes phase)
  in_found answer image changes NoPhase at = record { head = tt; stuck = λ _. ap (λ (p : PhaseRecord). is_free_in p s.flight) at }
  in_found answer image changes (Poll poll) at = record { head = tt; stuck = λ _. ap (λ (p : PhaseRecord). is_free_in p s.flight) at }
  in_found answer image changes (Fetch poll best from) at = record { head = tt; stuck = λ _. ap (λ (p : PhaseRecord). is_free_in p s.flight) at }
  in_found answer image changes (Relabel poll) at = record { head = tt; stuck = λ _. ap (λ (p : PhaseRecord). is_free_in p s.flight) at }
  in_found answer image changes (Send poll spread) at = record { head = tt; stuck = λ _. ap (λ (p : PhaseRecord). is_free_in p s.flight) at }
  in_found answer image changes (Ready poll spread announced) at = begun_found answer image changes poll spread

  small_found : (answer image : List ℕ) (changes : List Change) → FindsMemory (written_small m s now id call answer image changes)
  small_found answer image [] = one_found s id (reply.Ok answer) _ refl
  small_found answer image (change ∷ changes) =
      cond_both (s.version.counter == MAX_COUNTER) _ _ FindsMemory (λ _. record { head = refl; stuck = λ _. refl })
      (λ _. in_found answer image (change ∷ changes) s.phase refl)

  within_found : (answer image : List ℕ) (changes : List Change) (passed : Option ℕ) →
      FindsMemory (written_within m s now id call answer image changes passed)
  within_found answer image changes None = small_found answer image changes
  within_found answer image changes (Some bytes) = one_found s id (reply.TooLarge bytes) None refl

  turned_found : (image : List ℕ) (r : CallReply) → FindsMemory (turned db m s now id call image r)
  turned_found image (call_reply.Done answer) =
      within_found answer image (changes_of db s.image image) (too_large 0 (length s.image) (changes_of db s.image image))
  turned_found image (call_reply.Rule number) = one_found s id (reply.Rule number) _ refl
  turned_found image call_reply.Malformed = one_found s id reply.Malformed None refl
  turned_found image (call_reply.BadRecord at) = one_found s id (reply.BadRecord at) None refl

  -- a turn that is told so was made with that choice; `rest` is what is shown behind it
  turn_told : (b : Bool) (rest : List Shown) (choices : List Bool) →
      (is_free (write_turn db m s now id call b).server ≡ false → answers_of rest ≡ []) →
      Tell (answers_of ((write_turn db m s now id call b).shown ++ rest)) choices → is_short choices ≡ b
  turn_told true rest choices over tell = tell.0
  turn_told false rest choices over tell =
      head_false (answers_of (t.shown ++ rest)) choices (subst HeadFound (sym (answers_append t.shown rest)) (by (answers_of t.shown) found.head found.stuck))
      tell
    where
      t : Stepped
      t = write_turn db m s now id call false

      found : FindsMemory t
      found = turned_found (db.call s.image now call).image (db.call s.image now call).reply

      by : (l : List Answer) → HeadFound l → (l ≡ [] → is_free t.server ≡ false) → HeadFound (l ++ answers_of rest)
      by [] head stuck = subst HeadFound (sym (over (stuck refl))) tt
      by (a ∷ l) head stuck = head

  -- ---- calls that are asked

  read_found : (basis : Basis) (r : CallReply) →
      HeadFound (answers_of (read_reply id (record { call = call; moment = now; basis = basis }) r ∷ []))
  read_found basis (call_reply.Done answer) = refl
  read_found basis (call_reply.Rule number) = refl
  read_found basis call_reply.Malformed = refl
  read_found basis (call_reply.BadRecord at) = refl

  read_told : (image : List ℕ) (basis : Basis) (b : Bool) (choices : List Bool) →
      Tell (answers_of (read db s now id call image basis b).shown) choices →
      read db s now id call image basis b ≡ read db s now id call image basis (is_short choices)
  read_told image basis true choices tell = ap (λ (b : Bool). read db s now id call image basis b) (sym tell.0)
  read_told image basis false choices tell =
      ap (λ (b : Bool). read db s now id call image basis b)
      (sym (head_false (answers_of (read db s now id call image basis false).shown) choices (read_found basis (db.call image now call).reply) tell))

  line_told : (full b : Bool) (f : Flight) (choices : List Bool) → nat_le MAX_WAITING (length s.waiting) ≡ full →
      Tell (answers_of (put_into_line s id call b f).shown) choices →
      put_into_line s id call b f ≡ put_into_line s id call (is_short choices) f
  line_told full b f choices at tell = by full at (b_case b tell)
    where
      -- a line that is full takes no memory
      full_same : (c d : Bool) → nat_le MAX_WAITING (length s.waiting) ≡ true → put_into_line s id call c f ≡ put_into_line s id call d f
      full_same c d is = full_is c is ∙ sym (full_is d is)
        where
          full_is : (c : Bool) → nat_le MAX_WAITING (length s.waiting) ≡ true →
              put_into_line s id call c f ≡ showing s (refusing id (reply.LineFull f.id) ∷ [])
          full_is c is =
              ap (λ (t : Bool). cond t (showing s (refusing id (reply.LineFull f.id) ∷ []))
              (cond c (showing s (refusing id reply.NoMemory ∷ [])) (showing (record s { waiting = s.waiting ++ record { id = id; call = call } ∷ [] }) []))) is

      b_case : (b : Bool) → Tell (answers_of (put_into_line s id call b f).shown) choices → nat_le MAX_WAITING (length s.waiting) ≡ false →
          is_short choices ≡ b
      b_case c told room = pick c (subst (λ (t : Bool). Tell (answers_of (cond t (showing s (refusing id (reply.LineFull f.id) ∷ []))
          (cond c (showing s (refusing id reply.NoMemory ∷ [])) (showing (record s { waiting = s.waiting ++ record { id = id; call = call } ∷ [] }) []))).shown)
          choices) room told)
        where
          pick : (c : Bool) → Tell (answers_of (cond c (showing s (refusing id reply.NoMemory ∷ []))
              (showing (record s { waiting = s.waiting ++ record { id = id; call = call } ∷ [] }) [])).shown) choices → is_short choices ≡ c
          pick true told = told.0
          pick false told = first_false choices told

      by : (t : Bool) → nat_le MAX_WAITING (length s.waiting) ≡ t → (nat_le MAX_WAITING (length s.waiting) ≡ false → is_short choices ≡ b) →
          put_into_line s id call b f ≡ put_into_line s id call (is_short choices) f
      by true is told = full_same b (is_short choices) is
      by false is told = ap (λ (c : Bool). put_into_line s id call c f) (sym (told is))

  write_told : (f : Option Flight) (b : Bool) (choices : List Bool) → Tell (answers_of (write_asked db m s now id call b f).shown) choices →
      write_asked db m s now id call b f ≡ write_asked db m s now id call (is_short choices) f
  write_told None b choices tell =
      ap (λ (c : Bool). write_turn db m s now id call c)
      (sym (turn_told b [] choices (λ _. refl)
      (subst (λ (l : List Shown). Tell (answers_of l) choices) (sym (append-nil (write_turn db m s now id call b).shown)) tell)))
  write_told (Some f) b choices tell = line_told (nat_le MAX_WAITING (length s.waiting)) b f choices refl tell

  served_told : (writes b : Bool) (choices : List Bool) → Tell (answers_of (served db m s now id call writes b).shown) choices →
      served db m s now id call writes b ≡ served db m s now id call writes (is_short choices)
  served_told true b choices tell = write_told s.flight b choices tell
  served_told false b choices tell = read_told _ _ b choices tell

  elsewhere_told : (writes b may_read : Bool) (choices : List Bool) →
      Tell (answers_of (asked_elsewhere db m s now id call writes b may_read).shown) choices →
      asked_elsewhere db m s now id call writes b may_read ≡ asked_elsewhere db m s now id call writes (is_short choices) may_read
  elsewhere_told true b may_read choices tell = refl
  elsewhere_told false b true choices tell = read_told _ _ b choices tell
  elsewhere_told false b false choices tell = refl

  as_told : (o : Option Bool) (b : Bool) (choices : List Bool) → Tell (answers_of (asked_as db m s now id call b o).shown) choices →
      asked_as db m s now id call b o ≡ asked_as db m s now id call (is_short choices) o
  as_told None b choices tell = refl
  as_told (Some writes) b choices tell = by (leased m s now) (is_ready s.phase) tell
    where
      refused : Stepped
      refused = showing s (refusing id (no_quorum m s now (phase_of s.phase) applied.No) ∷ [])

      pick : (lease ready c : Bool) → Stepped
      pick lease ready c =
          cond lease (cond ready (served db m s now id call writes c) refused)
          (asked_elsewhere db m s now id call writes c (allows_reads s.version now s.beacon))

      by : (lease ready : Bool) → Tell (answers_of (pick lease ready b).shown) choices → pick lease ready b ≡ pick lease ready (is_short choices)
      by true true told = served_told writes b choices told
      by true false told = refl
      by false ready told = elsewhere_told writes b (allows_reads s.version now s.beacon) choices told

-- ---- calls that wait

module _ (db : Database) (m : Member) (now : ℕ) where
  -- a server that is not free makes no turn
  stuck_shows : (waiting : List Waiting) (s : Server) (short : List Bool) → is_free s ≡ false → (next_turns (always db) m now waiting s short).shown ≡ []
  stuck_shows [] s short is = refl
  stuck_shows (w ∷ waiting) s short is =
      ap (λ (t : Bool). (cond t (followed (write_turn db m (record s { waiting = waiting }) now w.id w.call (is_short short))
      (λ after. next_turns (always db) m now waiting after
      (short_after (write_turn db m (record s { waiting = waiting }) now w.id w.call (is_short short)).shown short))) (quiet s)).shown) is

  next_told : (waiting : List Waiting) (s : Server) (short choices : List Bool) →
      Tell (answers_of (next_turns (always db) m now waiting s short).shown) choices →
      next_turns (always db) m now waiting s short ≡ next_turns (always db) m now waiting s choices
  next_told [] s short choices tell = refl
  next_told (w ∷ waiting) s short choices tell =
      by (is_free s) (λ u short choices tell. next_told waiting u short choices tell) tell
    where
      u : Server
      u = record s { waiting = waiting }

      t : Bool → Stepped
      t b = write_turn db m u now w.id w.call b

      turn : Bool → List Bool → Stepped
      turn b l = followed (t b) (λ after. next_turns (always db) m now waiting after (short_after (t b).shown l))

      by : (free : Bool) → ((u : Server) (short choices : List Bool) → Tell (answers_of (next_turns (always db) m now waiting u short).shown) choices →
          next_turns (always db) m now waiting u short ≡ next_turns (always db) m now waiting u choices) →
          Tell (answers_of (cond free (turn (is_short short) short) (quiet s)).shown) choices →
          cond free (turn (is_short short) short) (quiet s) ≡ cond free (turn (is_short choices) choices) (quiet s)
      by false later told = refl
      by true later told =
          let b : Bool = is_short short in
          let rest : Stepped = next_turns (always db) m now waiting (t b).server (short_after (t b).shown short) in
          let same : is_short choices ≡ b =
          turn_told db m u now w.id w.call b rest.shown choices
          (λ stuck. ap answers_of (stuck_shows waiting (t b).server (short_after (t b).shown short) stuck)) told in
          let after : rest ≡ next_turns (always db) m now waiting (t b).server (short_after (t b).shown choices) =
          later (t b).server (short_after (t b).shown short) (short_after (t b).shown choices) (then_tell (t b).shown rest.shown choices told) in
          ap (λ (x : Stepped). record { server = x.server; calls = (t b).calls ++ x.calls; shown = (t b).shown ++ x.shown }) after
          ∙ ap (λ (c : Bool). turn c choices) (sym same)

  holder_told : (s : Server) (k : ℕ) (short choices : List Bool) → Tell (answers_of (holder_added (always db) m s now k short).shown) choices →
      holder_added (always db) m s now k short ≡ holder_added (always db) m s now k choices
  holder_told s k short choices tell =
      let t : Stepped = settled m (with_phase s (held_by s.phase k)) in
      let rest : Stepped = next_turns (always db) m now t.server.waiting t.server (short_after t.shown short) in
      ap (λ (x : Stepped). record { server = x.server; calls = t.calls ++ x.calls; shown = t.shown ++ x.shown })
      (next_told t.server.waiting t.server (short_after t.shown short) (short_after t.shown choices) (then_tell t.shown rest.shown choices tell))

  -- ---- packets

  kept_told : (s : Server) (k : ℕ) (same : Bool) (other : Stepped) (short choices : List Bool) →
      Tell (answers_of (cond same (holder_added (always db) m s now k short) other).shown) choices →
      cond same (holder_added (always db) m s now k short) other ≡ cond same (holder_added (always db) m s now k choices) other
  kept_told s k true other short choices tell = holder_told s k short choices tell
  kept_told s k false other short choices tell = refl

  spread_told : (s : Server) (host : Host) (k : ℕ) (poll : Polled) (spread : Spread) (number : ℕ) (version : Version) (here : Bool)
      (short choices : List Bool) →
      Tell (answers_of (cond here (cond (version_eq version s.version) (holder_added (always db) m s now k short)
      (lacking_sent m s host poll spread version s.flight)) (quiet s)).shown) choices →
      cond here (cond (version_eq version s.version) (holder_added (always db) m s now k short) (lacking_sent m s host poll spread version s.flight)) (quiet s)
      ≡ cond here (cond (version_eq version s.version) (holder_added (always db) m s now k choices) (lacking_sent m s host poll spread version s.flight)) (quiet s)
  spread_told s host k poll spread number version true short choices tell =
      kept_told s k (version_eq version s.version) (lacking_sent m s host poll spread version s.flight) short choices tell
  spread_told s host k poll spread number version false short choices tell = refl

  version_is_told : (s : Server) (host : Host) (k number : ℕ) (version : Version) (phase : PhaseRecord) (short choices : List Bool) →
      Tell (answers_of (version_is_received (always db) m s now host k number version short phase).shown) choices →
      version_is_received (always db) m s now host k number version short phase ≡ version_is_received (always db) m s now host k number version choices phase
  version_is_told s host k number version NoPhase short choices tell = refl
  version_is_told s host k number version (Poll poll) short choices tell = refl
  version_is_told s host k number version (Fetch poll best from) short choices tell = refl
  version_is_told s host k number version (Relabel poll) short choices tell = refl
  version_is_told s host k number version (Send poll spread) short choices tell =
      spread_told s host k poll spread number version (number == poll.number) short choices tell
  version_is_told s host k number version (Ready poll spread announced) short choices tell =
      spread_told s host k poll spread number version (number == poll.number) short choices tell

  version_kept_told : (s : Server) (k : ℕ) (version : Version) (phase : PhaseRecord) (short choices : List Bool) →
      Tell (answers_of (version_kept_received (always db) m s now k version short phase).shown) choices →
      version_kept_received (always db) m s now k version short phase ≡ version_kept_received (always db) m s now k version choices phase
  version_kept_told s k version NoPhase short choices tell = refl
  version_kept_told s k version (Poll poll) short choices tell = refl
  version_kept_told s k version (Fetch poll best from) short choices tell = refl
  version_kept_told s k version (Relabel poll) short choices tell = refl
  version_kept_told s k version (Send poll spread) short choices tell = kept_told s k (version_eq version s.version) (quiet s) short choices tell
  version_kept_told s k version (Ready poll spread announced) short choices tell =
      kept_told s k (version_eq version s.version) (quiet s) short choices tell

  from_told : (s : Server) (host : Host) (k : ℕ) (b : Body) (short choices : List Bool) →
      Tell (answers_of (received_from (always db) m s now host k b short).shown) choices →
      received_from (always db) m s now host k b short ≡ received_from (always db) m s now host k b choices
  from_told s host k (body.Beacon start claim ready version) short choices tell = refl
  from_told s host k (body.Vote start granted) short choices tell = refl
  from_told s host k (body.GetVersion poll) short choices tell = refl
  from_told s host k (body.VersionIs poll version) short choices tell = version_is_told s host k poll version s.phase short choices tell
  from_told s host k (body.GetPiece poll version offset) short choices tell = refl
  from_told s host k (body.Piece poll version total offset bytes) short choices tell = refl
  from_told s host k (body.SendPiece poll version total offset bytes) short choices tell = refl
  from_told s host k (body.PieceKept poll version next) short choices tell = refl
  from_told s host k (body.SetVersion poll old new) short choices tell = refl
  from_told s host k (body.Begin old new pieces len) short choices tell = refl
  from_told s host k (body.PutPiece new number bytes) short choices tell = refl
  from_told s host k (body.Commit old new) short choices tell = refl
  from_told s host k (body.Abort new) short choices tell = refl
  from_told s host k (body.VersionKept version) short choices tell = version_kept_told s k version s.phase short choices tell

  packet_told : (s : Server) (p : Packet) (place : Option ℕ) (short choices : List Bool) →
      Tell (answers_of (received_packet (always db) m s now p short place).shown) choices →
      received_packet (always db) m s now p short place ≡ received_packet (always db) m s now p choices place
  packet_told s p None short choices tell = refl
  packet_told s p (Some k) short choices tell = from_told s p.from k p.body short choices tell

  handled_told : (s : Server) (e : NodeEvent) (short choices : List Bool) → Tell (answers_of (handled (always db) m s now e short).shown) choices →
      handled (always db) m s now e short ≡ handled (always db) m s now e choices
  handled_told s (event.Packet p) short choices tell = packet_told s p (place_of m.hosts p.from) short choices tell
  handled_told s event.BeaconTurn short choices tell = refl
  handled_told s event.RecoverTurn short choices tell = refl
  handled_told s (event.Ask id call) short choices tell = as_told db m s now id call (db.writes call) (is_short short) choices tell

-- ---- steps

step_told : (db : Database) (m : Member) (s : Server) (now : ℕ) (e : NodeEvent) (short choices : List Bool) →
    Tell (answers_of (step_of db m s now e short).shown) choices → step_of db m s now e short ≡ step_of db m s now e choices
unfolding step_by
step_told db m s now e short choices tell =
    let t : Stepped = lapsed m s now in
    let rest : Stepped = handled (always db) m t.server now e (short_after t.shown short) in
    ap (λ (x : Stepped). record { server = x.server; calls = t.calls ++ x.calls; shown = t.shown ++ x.shown })
    (handled_told db m now t.server e (short_after t.shown short) (short_after t.shown choices) (then_tell t.shown rest.shown choices tell))

-- what replies tell they tell
tell_told : (answers : List Answer) → Tell answers (map (λ (a : Answer). is_no_memory a.reply) answers)
tell_told [] = tt
tell_told (a ∷ answers) = (refl, tell_told answers)

tell_found : (answers : List Answer) → AllByRecursion (λ (a : Answer). is_no_memory a.reply ≡ false) answers → Tell answers []
tell_found [] all = tt
tell_found (a ∷ answers) all = (sym all.0, tell_found answers all.1)

-- all replies found memory, or one tells otherwise
found_or_short : (shown : List Shown) → AllFound shown ⊎ TellsShort shown
found_or_short [] = inl tt
found_or_short (one ∷ shown) = by one.output one.evaluation (found_or_short shown)
  where
    behind : (o : Output) → TellsShort shown → (id : ℕ) × Contains (o ∷ outputs_of shown) (output.Reply id reply.NoMemory)
    behind o short = (short.0, Contains-append_right (o ∷ []) (outputs_of shown) (output.Reply short.0 reply.NoMemory) short.1)

    with_reply : (id : ℕ) (r : Reply) (evaluation : Option Evaluation) → (is_no_memory r ≡ false) ⊎ (r ≡ reply.NoMemory) →
        AllFound shown ⊎ TellsShort shown →
        AllFound (record { output = output.Reply id r; evaluation = evaluation } ∷ shown)
        ⊎ TellsShort (record { output = output.Reply id r; evaluation = evaluation } ∷ shown)
    with_reply id r evaluation (inl found) (inl all) = inl (found, all)
    with_reply id r evaluation (inl found) (inr short) = inr (behind (output.Reply id r) short)
    with_reply id r evaluation (inr none) rest = inr ((id, (0, omega arith, ap (λ (x : Reply). output.Reply id x) none)))

    found : (r : Reply) → (is_no_memory r ≡ false) ⊎ (r ≡ reply.NoMemory)
    found reply.NoMemory = inr refl
    found (reply.Ok answer) = inl refl
    found (reply.Rule number) = inl refl
    found (reply.NoQuorum now until phase applied) = inl refl
    found (reply.NotSync host heard) = inl refl
    found (reply.LineFull holder) = inl refl
    found (reply.TooLarge bytes) = inl refl
    found reply.Malformed = inl refl
    found reply.DiskFault = inl refl
    found (reply.BadRecord place) = inl refl

    by : (o : Output) (evaluation : Option Evaluation) → AllFound shown ⊎ TellsShort shown →
        AllFound (record { output = o; evaluation = evaluation } ∷ shown) ⊎ TellsShort (record { output = o; evaluation = evaluation } ∷ shown)
    by (output.Send p) evaluation (inl all) = inl all
    by (output.Send p) evaluation (inr short) = inr (behind (output.Send p) short)
    by (output.Reply id r) evaluation rest = with_reply id r evaluation (found r) rest
    by (output.Announce version) evaluation (inl all) = inl all
    by (output.Announce version) evaluation (inr short) = inr (behind (output.Announce version) short)

step_found : (db : Database) (m : Member) (s : Server) (now : ℕ) (e : NodeEvent) (short : List Bool) →
    AllFound (step_of db m s now e short).shown → step_of db m s now e short ≡ step_of db m s now e []
step_found db m s now e short all = step_told db m s now e short [] (tell_found (answers_of (step_of db m s now e short).shown) all)

step_either : (db : Database) (m : Member) (s : Server) (now : ℕ) (e : NodeEvent) (short : List Bool) →
    (step_of db m s now e short ≡ step_of db m s now e []) ⊎ TellsShort (step_of db m s now e short).shown
step_either db m s now e short = by (found_or_short (step_of db m s now e short).shown)
  where
    by : AllFound (step_of db m s now e short).shown ⊎ TellsShort (step_of db m s now e short).shown →
        (step_of db m s now e short ≡ step_of db m s now e []) ⊎ TellsShort (step_of db m s now e short).shown
    by (inl all) = inl (step_found db m s now e short all)
    by (inr told) = inr told

pub replies_tell_memory : RepliesTellMemory
replies_tell_memory = record {
  told = λ db m s now e short.
      step_told db m s now e short (told_short (step_of db m s now e short).shown) (tell_told (answers_of (step_of db m s now e short).shown));
  found = step_found;
  either = step_either;
}
