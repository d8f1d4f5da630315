-- The turn of a server in recovery, by the recovery that it has.
use Rattle.std.proofs.Common.{◌≡◌, ◌+◌, ℕ, zero, suc, Bool, true, false, cond, nat_lt, Option, Some, None, List, [], ◌∷◌, map, is_some, length, refl, sym, ap, subst, ◌∙◌}
use Rattle.std.proofs.lemmas.List.{append-nil}
use Rattle.ubik_types.specs.declared.hosts.Host.{Host}
use Rattle.ubik_types.specs.declared.limits.TheConstants.{SMALLTIME}
use Rattle.ubik_types.specs.declared.phases.Phase.{Phase}
use Rattle.ubik_types.specs.declared.phases.Phase.TheVariants as phase
use Rattle.ubik_types.specs.declared.versions.Version.{Version}
use Rattle.ubik_types.specs.Lease.{is_in_lease}
use Rattle.ubik_types.specs.Phase.{Polled}
use Rattle.ubik_types.specs.Quorum.{marked}
use Rattle.ubik_calls.specs.declared.packets.Body.{Body}
use Rattle.ubik_calls.specs.declared.packets.Body.TheVariants as body
use Rattle.cell_model.specs.declared.events.Output.{Output}
use Rattle.cell_model.specs.Durable.{Made}
use Rattle.cell_model.specs.Node.{Server, ReceivedText}
use Rattle.cell_model.specs.Polls.{entry_at, is_marked, new_poll, only_at, polling}
use Rattle.cell_model.specs.Recovery as rule
use Rattle.cell_model.specs.Recovery.{asks_versions, has_answered, poll_asked}
use Rattle.cell_model.specs.Step.{Member, Shown, Stepped, cell_size, leased, quiet, sends_from}
use Rattle.ubik_recovery.specs.Record.{RecoveryRecord, adopted, best_of, host_of, is_fetch, phase_record, poll_begun, polled_of, record_in, with_text}
use Rattle.ubik_recovery.specs.Rules.{recovering}
use Rattle.server_state.specs.declared.state.State.{State}
use Rattle.server_state.specs.State.{ShowsBehind, member_of, server_of}
use Rattle.server_rules.specs.Acts.{GoesOn}

-- ---- what a decision has put out

-- a step that is another one
pub goes_as : {t u v : Stepped} {before after : List Output} → t ≡ u → GoesOn u v before after → GoesOn t v before after
goes_as {t} {u} {v} {before} {after} is goes = subst (λ (x : Stepped). GoesOn x v before after) (sym is) goes

-- nothing
pub rests_on : {t u : Stepped} {out : List Output} → t ≡ u → GoesOn t u out out
rests_on {t} {u} {out} is = record { shown = []; outputs = sym (append-nil out); step = is }

-- all of it
pub shown_on : (t : Stepped) (s : Server) {before after : List Output} → ShowsBehind t s before after → GoesOn t (quiet s) before after
shown_on t s shows = record {
  shown = t.shown;
  outputs = shows.outputs;
  step =
      ap (λ (x : Server). record { server = x; calls = t.calls; shown = t.shown }) shows.server
      ∙ ap (λ (calls : List Made). record { server = s; calls = calls; shown = t.shown }) shows.calls
      ∙ ap (λ (shown : List Shown). record { server = s; calls = []; shown = shown }) (sym (append-nil t.shown));
}

-- ---- the rules

pub sends_same : (m : Member) (k : ℕ) (hosts : List Host) (a b : ℕ → List Body) → ((k : ℕ) → a k ≡ b k) → sends_from m k hosts a ≡ sends_from m k hosts b
sends_same m k [] a b same = refl
sends_same m k (host ∷ hosts) a b same = rw (same k, sends_same m (k + 1) hosts a b same) refl

twice : {A : Type 0} (b : Bool) (x : Option A) → b ≡ false → cond b None (cond b None x) ≡ x
twice b x is = rw is refl

-- a recovery that takes its own place
pub marks_back : (r : RecoveryRecord) → is_fetch r.phase ≡ false → adopted (with_text r None) r ≡ r
marks_back r other = ap (λ (text : Option ReceivedText). with_text r text) (twice (is_fetch r.phase) r.text other)

pub poll_begins : (m : Member) (s : Server) (v : Version) (r : RecoveryRecord) → cell_size m ≡ r.servers → (now : ℕ) → polling m (recovering v r s) now ≡ recovering v (poll_begun r now m.me s.version) s
poll_begins m s v r same now = by_phase r.phase
  where
    by_phase : (p : Phase) → polling m (recovering v (record r { phase = p }) s) now ≡ recovering v (poll_begun (record r { phase = p }) now m.me s.version) s
    by_phase phase.None = rw same
    by_phase other = rw same

-- a poll that begins
pub begun_asked : (m : Member) (s : Server) (v : Version) (r : RecoveryRecord) (now : ℕ) → cell_size m ≡ r.servers
    → rule.poll_begun m (recovering v r s) now
    ≡ poll_asked m (recovering v (adopted (poll_begun (with_text r None) now m.me s.version) r) s) (polled_of (poll_begun (with_text r None) now m.me s.version)) now
begun_asked m s v r now same =
    ap (λ (x : Server). poll_asked m x (new_poll m s now) now) (poll_begins m s v r same now)
    ∙ ap (λ (n : ℕ). poll_asked m (recovering v (poll_begun r now m.me s.version) s) (record { number = now; answers = only_at (Some s.version) None n m.me }) now) same

-- a turn in a phase
pub turn_in : (m : Member) (s : Server) (now : ℕ) (v : Version) (r : RecoveryRecord) (p : Phase) → r.phase ≡ p → rule.recovered m s now (phase_record v r) ≡ rule.recovered m s now (record_in p v r)
turn_in m s now v r p is = ap (λ (q : Phase). rule.recovered m s now (record_in q v r)) is

marked_answer : (xs : List (Option Version)) (k : ℕ) → is_marked (map is_some xs) k ≡ is_some (entry_at xs k)
marked_answer [] k = refl
marked_answer (x ∷ xs) zero = refl
marked_answer (x ∷ xs) (suc k) = marked_answer xs k

-- those that have not answered are asked
pub asks_answered : (m : Member) (poll : Polled) (n servers : ℕ) (set : List Bool) → marked servers set ≡ map is_some poll.answers → servers ≡ n
    → asks_versions m poll.number (is_marked (marked n set)) ≡ asks_versions m poll.number (has_answered poll)
asks_answered m poll n servers set marks same =
    ap (λ (marks : List Bool). asks_versions m poll.number (is_marked marks)) (ap (λ (k : ℕ). marked k set) (sym same) ∙ marks)
    ∙ sends_same m 0 m.hosts (λ k. asked (is_marked (map is_some poll.answers) k)) (λ k. asked (has_answered poll k)) (λ k. ap asked (marked_answer poll.answers k))
  where
    asked : Bool → List Body
    asked answered = cond answered [] (body.GetVersion poll.number ∷ [])

-- the lease of a server
pub leased_here : (st : State) (now : ℕ) (b : Bool) → st.votes.servers ≡ length st.cell → is_in_lease st.votes.servers st.votes.starts now ≡ b → leased (member_of st) (server_of st) now ≡ b
leased_here st now b size is = ap (λ (n : ℕ). is_in_lease n st.votes.starts now) (sym size) ∙ is

-- by the phase
module _ (m : Member) (s : Server) (now : ℕ) (v : Version) (r : RecoveryRecord) where
  pub turn_begins : r.phase ≡ phase.None → leased m s now ≡ true → rule.recovered m s now (phase_record v r) ≡ rule.poll_begun m s now
  turn_begins is held = turn_in m s now v r phase.None is ∙ rw held refl

  pub turn_rests : r.phase ≡ phase.None → leased m s now ≡ false → rule.recovered m s now (phase_record v r) ≡ quiet s
  turn_rests is held = turn_in m s now v r phase.None is ∙ rw held refl

  pub turn_fetch_over : r.phase ≡ phase.Fetch → nat_lt (r.poll + SMALLTIME) now ≡ true → rule.recovered m s now (phase_record v r) ≡ rule.poll_begun m s now
  turn_fetch_over is over = turn_in m s now v r phase.Fetch is ∙ rw over refl

  pub turn_fetches : r.phase ≡ phase.Fetch → nat_lt (r.poll + SMALLTIME) now ≡ false → rule.recovered m s now (phase_record v r) ≡ rule.next_asked m s (polled_of r) (best_of r) (host_of r)
  turn_fetches is over = turn_in m s now v r phase.Fetch is ∙ rw over refl
