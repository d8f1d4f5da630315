-- Steps but for the bytes of images.
use Rattle.std.proofs.Common.{◌≡◌, ◌≤◌, ◌<◌, ◌-◌, ◌++◌, ◌==◌, ◌+◌, ℕ, Bool, true, false, cond, ltb, Option, Some, None, List, [], ◌∷◌, length, map, min, drop, replicate, Result, Ok, Err, OnOk, IfErr, IfOk, IsErrOf, ⊎_elim, ◌≢◌, refl, sym, ap, ◌∙◌, append_assoc, arith, length-take, length-drop}
use Rattle.std.proofs.lemmas.Bool.Decides.{nat_tests}
use Rattle.std.proofs.lemmas.List.{append-nil, map-append}
use Rattle.ubik_types.specs.declared.hosts.Host.{Host}
use Rattle.ubik_types.specs.declared.versions.Version.{Version}
use Rattle.ubik_types.specs.Phase.{Polled}
use Rattle.ubik_types.specs.Version.{version_eq}
use Rattle.ubik_calls.specs.declared.packets.Body.{Body}
use Rattle.ubik_calls.specs.declared.packets.Body.TheVariants as body
use Rattle.disk_base.specs.declared.disks.Disk.{Ghosts}
use Rattle.db_image.specs.declared.services.CallReply.{CallReply}
use Rattle.db_image.specs.declared.services.CallReply.TheVariants as call_reply
use Rattle.db_image.specs.Database.{Database, Outcome}
use Rattle.db_image.specs.Ends.{IsShort, KeepsGrammar, end_of}
use Rattle.cell_model.specs.declared.events.Output.{Output}
use Rattle.cell_model.specs.declared.events.Output.TheVariants as output
use Rattle.cell_model.specs.Asks.{read_reply}
use Rattle.cell_model.specs.Evaluating.{Databases, Evaluated}
use Rattle.cell_model.specs.Node.{Server}
use Rattle.cell_model.specs.Pieces.{piece_from}
use Rattle.cell_model.specs.Polls.{entry_at}
use Rattle.cell_model.specs.Recovery.{spread_answer}
use Rattle.cell_model.specs.Step.{Evaluation, Member, Shown, Stepped, outputs_of, packet_to, sends_from, sends_to, sends_to_each, sent, with_database}
use Rattle.cell_model.specs.Writes.{settled}
use Rattle.state_laws.specs.Over.{over}
use Rattle.state_laws.proofs.Over.{settled_over}
use Rattle.server_state.specs.Spreading.{given_bodies}
use Rattle.server_state.specs.State.{ShowsBehind}
use Rattle.ubik_node.specs.Alike.{ActsAlike, AlikeSo, Frees, IsAlike, ReadsAlike, StepsAlike, blank, blank_body, blank_output, blank_outputs, blanked, free_dbs}
use Rattle.ubik_node.specs.Evaluation.{IsShortReply}
use Rattle.ubik_node.specs.Node.{Closes, Ends, Held, IsMade}
use Rattle.ubik_node.specs.Serving.{IsReadReply}
use Rattle.ubik_node.specs.declared.evaluations.Evaluation as code
use Rattle.ubik_node.specs.declared.nodes.StepEnd.{StepEnd}
use Rattle.ubik_store.specs.declared.faults.StoreFault.{StoreFault}
use Rattle.ubik_store.specs.declared.faults.StoreFault.TheVariants as fault
use Rattle.server_rules.specs.declared.acts.Act.{Act}
use Rattle.server_rules.specs.declared.acts.Act.TheVariants as act
use Rattle.server_rules.specs.Acts.{act_need, own_piece, stepped_by}
use Rattle.ubik_calls.specs.declared.replies.Reply.{Reply}
use Rattle.cell_model.specs.declared.events.NodeEvent.{NodeEvent}
use Rattle.cell_model.specs.Node as model
use Rattle.cell_model.specs.NodeRule.{step_by}
use Rattle.ubik_node.proofs.Closing.{node_at}
use Rattle.ubik_node.proofs.Endings.{disk_or, fault_is, ok_not}
use Rattle.ubik_node.proofs.Evaluated.{told_itself}
use Rattle.state_laws.specs.Waiting.{short_behind}
use Rattle.ubik_node.proofs.Stepping.{halted_if, up_if}
use Rattle.ubik_node.proofs.Relabelled.{alone_sends, given_as, relabel_outputs}

-- ---- choices

-- nothing was chosen
abbrev pub none_free : (db : Database) → Frees db
none_free db = record { short = []; told = []; may = tt }

-- ---- steps that are known

pub blanked_same : (a b : List ℕ) → length a ≡ length b → blanked a ≡ blanked b
blanked_same a b same = ap (λ (n : ℕ). replicate {A = ℕ} n 0) same

pub alike_shows : {t : Stepped} {after : Server} {before out : List Output} → ShowsBehind t after before out → IsAlike t after before out
alike_shows shows = record { server = ap blank shows.server; outputs = ap blank_outputs shows.outputs }

pub alike_made : {D : Type 0} (g : Ghosts D) {t : Stepped} {before out : List Output} {n m : Held D} → IsMade g t before out n m → IsAlike t m.server before out
alike_made g made = record { server = ap blank made.server; outputs = ap blank_outputs made.outputs }

pub alike_same : {t u : Stepped} {after : Server} {before out : List Output} → t ≡ u → IsAlike u after before out → IsAlike t after before out
alike_same {t} {u} {after} {before} {out} is alike = record {
  server = ap (λ (x : Stepped). blank x.server) is ∙ alike.server;
  outputs = alike.outputs ∙ ap (λ (x : Stepped). blank_outputs (before ++ outputs_of x.shown)) (sym is);
}

-- behind what else is shown first
pub alike_behind : {t : Stepped} {after : Server} {before mid out : List Output} (shown : List Shown) → mid ≡ before ++ outputs_of shown → IsAlike t after mid out
    → IsAlike (record { server = t.server; calls = t.calls; shown = shown ++ t.shown }) after before out
alike_behind {t} {after} {before} {mid} {out} shown is alike = record {
  server = alike.server;
  outputs =
      alike.outputs
      ∙ ap blank_outputs (ap (λ (o : List Output). o ++ outputs_of t.shown) is ∙ append_assoc before (outputs_of shown) (outputs_of t.shown)
      ∙ ap (λ (o : List Output). before ++ o) (sym (map-append (λ (one : Shown). one.output) shown t.shown)));
}

-- ---- another image of the same length

pub blank_database : (s : Server) (v : Version) (a b : List ℕ) → length a ≡ length b → blank (with_database s v a) ≡ blank (with_database s v b)
blank_database s v a b same = ap (λ (xs : List ℕ). record (blank (with_database s v a)) { image = xs }) (blanked_same a b same)

pub blank_image : (s : Server) (a b : List ℕ) → length a ≡ length b → blank (record s { image = a }) ≡ blank (record s { image = b })
blank_image s a b same = ap (λ (xs : List ℕ). record (blank s) { image = xs }) (blanked_same a b same)

-- what holders lead to is told of no byte of the image
pub settled_alike : (m : Member) (s : Server) (a b : List ℕ) → length a ≡ length b
    → (let t = settled m (record s { image = a }) in let u = settled m (record s { image = b }) in
    (blank t.server ≡ blank u.server) × (t.shown ≡ u.shown))
settled_alike m s a b same = rw (settled_over m s a, settled_over m s b) (blank_image (settled m s).server a b same, refl)

-- ---- pieces

-- how long a piece of an image is
pub piece_long : (image : List ℕ) (at : ℕ) → length (piece_from image at) ≡ min 8192 (length image - at)
piece_long image at = length-take 8192 (drop at image) ∙ ap (min 8192) (length-drop at image)

abbrev sending : Member → Host → Body → Shown
sending m host b = sent (packet_to m host b)

-- packets to one host
heads : (m : Member) (host : Host) (xs : List Body) → blank_outputs (outputs_of (map (sending m host) xs)) ≡ map (λ (b : Body). output.Send (packet_to m host b)) (map blank_body xs)
heads m host [] = refl
heads m host (x ∷ xs) = ap (λ (rest : List Output). output.Send (packet_to m host (blank_body x)) ∷ rest) (heads m host xs)

split : (xs ys : List Shown) → blank_outputs (outputs_of (xs ++ ys)) ≡ blank_outputs (outputs_of xs) ++ blank_outputs (outputs_of ys)
split xs ys = ap blank_outputs (map-append (λ (one : Shown). one.output) xs ys) ∙ map-append blank_output (outputs_of xs) (outputs_of ys)

-- to each host
sends_blank : (m : Member) (k : ℕ) (hosts : List Host) (a b : ℕ → List Body) → ((k : ℕ) → map blank_body (a k) ≡ map blank_body (b k))
    → blank_outputs (outputs_of (sends_from m k hosts a)) ≡ blank_outputs (outputs_of (sends_from m k hosts b))
sends_blank m k [] a b same = refl
sends_blank m k (host ∷ hosts) a b same =
    let at : (ℕ → List Body) → List Shown = λ c. cond (k == m.me) [] (map (sending m host) (c k)) in
    split (at a) (sends_from m (k + 1) hosts a) ∙ rw (first (k == m.me), sends_blank m (k + 1) hosts a b same) refl
    ∙ sym (split (at b) (sends_from m (k + 1) hosts b))
  where
    first : (c : Bool) → blank_outputs (outputs_of (cond c [] (map (sending m host) (a k)))) ≡ blank_outputs (outputs_of (cond c [] (map (sending m host) (b k))))
    first true = refl
    first false = heads m host (a k) ∙ ap (map (λ (x : Body). output.Send (packet_to m host x))) (same k) ∙ sym (heads m host (b k))

-- what a relabelling gives out, with a piece of the same length
given_blank : (number : ℕ) (old new : Version) (total : ℕ) (p q : List ℕ) → length p ≡ length q → (answer : Option Version)
    → map blank_body (given_bodies (given_as number old new total p) answer) ≡ map blank_body (given_bodies (given_as number old new total q) answer)
given_blank number old new total p q same None = refl
given_blank number old new total p q same (Some v) = by (version_eq v old)
  where
    by : (c : Bool) → map blank_body (cond c (body.SetVersion number old new) (body.SendPiece number new total 0 p) ∷ []) ≡ map blank_body (cond c (body.SetVersion number old new) (body.SendPiece number new total 0 q) ∷ [])
    by true = refl
    by false = ap (λ (xs : List ℕ). body.SendPiece number new total 0 xs ∷ []) (blanked_same p q same)

-- what a relabelling puts out, with a piece of the length that the image has
pub relabel_alike : (m : Member) (poll : Polled) (old : Version) (after : Server) (number total : ℕ) (piece : List ℕ) (first mid last : List Output) (rest : List Shown) → m.me < length m.hosts → number ≡ poll.number
    → total ≡ length after.image → (1 < length m.hosts → length piece ≡ length (piece_from after.image 0))
    → mid ≡ first ++ outputs_of (sends_to_each m (λ k. given_bodies (given_as number old after.version total piece) (entry_at poll.answers k))) → last ≡ mid ++ outputs_of rest
    → blank_outputs last ≡ blank_outputs (first ++ outputs_of (sends_to_each m (λ k. spread_answer after poll old (entry_at poll.answers k)) ++ rest))
relabel_alike m poll old after number total piece first mid last rest inside same long starts given then =
    let own = piece_from after.image 0 in
    let gives : List ℕ → List Output = λ p. outputs_of (sends_to_each m (λ k. given_bodies (given_as number old after.version total p) (entry_at poll.answers k))) in
    let alike : blank_outputs ((first ++ gives piece) ++ outputs_of rest) ≡ blank_outputs ((first ++ gives own) ++ outputs_of rest) =
    simp map-append
    (ap (λ (o : List Output). (blank_outputs first ++ o) ++ blank_outputs (outputs_of rest)) (by (ltb 1 (length m.hosts)) refl)) in
    ap blank_outputs (then ∙ ap (λ (o : List Output). o ++ outputs_of rest) given) ∙ alike
    ∙ ap blank_outputs (relabel_outputs m poll old after number total own first (first ++ gives own) ((first ++ gives own) ++ outputs_of rest) rest inside same long (λ more. refl) refl refl)
  where
    by : (b : Bool) → ltb 1 (length m.hosts) ≡ b
        → blank_outputs (outputs_of (sends_to_each m (λ k. given_bodies (given_as number old after.version total piece) (entry_at poll.answers k))))
        ≡ blank_outputs (outputs_of (sends_to_each m (λ k. given_bodies (given_as number old after.version total (piece_from after.image 0)) (entry_at poll.answers k))))
    by true more =
        sends_blank m 0 m.hosts (λ k. given_bodies (given_as number old after.version total piece) (entry_at poll.answers k))
        (λ k. given_bodies (given_as number old after.version total (piece_from after.image 0)) (entry_at poll.answers k))
        (λ k. given_blank number old after.version total piece (piece_from after.image 0) (starts (grind (arith, nat_tests))) (entry_at poll.answers k))
    by false few =
        let one : length m.hosts ≤ 1 = grind (arith, nat_tests) in
        ap (λ (shown : List Shown). blank_outputs (outputs_of shown)) (alone_sends m _ one inside ∙ sym (alone_sends m _ one inside))

-- ---- acts

-- a packet with other bytes
pub send_alike : (m : Member) (to : Host) (b c : Body) (before : List Output) → blank_body b ≡ blank_body c
    → blank_outputs (before ++ outputs_of (sends_to m to b)) ≡ blank_outputs (before ++ outputs_of (sends_to m to c))
send_alike m to b c before same =
    rw (
      map-append blank_output before (outputs_of (sends_to m to b)),
      map-append blank_output before (outputs_of (sends_to m to c)),
      same,
    ) refl

pub piece_alike : (s : Server) (poll at : ℕ) (asked : Bool) (bytes : List ℕ) → length bytes ≡ length (piece_from s.image at)
    → blank_body (cond asked (body.Piece poll s.version (length s.image) at bytes) (body.SendPiece poll s.version (length s.image) at bytes)) ≡ blank_body (own_piece s poll at asked)
piece_alike s poll at true bytes same = ap (λ (xs : List ℕ). body.Piece poll s.version (length s.image) at xs) (blanked_same bytes (piece_from s.image at) same)
piece_alike s poll at false bytes same = ap (λ (xs : List ℕ). body.SendPiece poll s.version (length s.image) at xs) (blanked_same bytes (piece_from s.image at) same)

-- a rule that shows nothing, behind what stands there
pub quiet_alike : {t : Stepped} {after : Server} (out : List Output) → IsAlike t after [] [] → IsAlike t after out out
quiet_alike {t} out alike = record {
  server = alike.server;
  outputs =
      ap blank_outputs (sym (append-nil out)) ∙ map-append blank_output out [] ∙ ap (λ (o : List Output). blank_outputs out ++ o) alike.outputs
      ∙ sym (map-append blank_output out (outputs_of t.shown));
}

-- what is alike where a rule was made, of another rule
pub on_made : {P Q : Type 0} (r : Result (Unit {0}) StoreFault) → OnOk r P → (P → Q) → OnOk r Q
on_made (Ok x) so map = map so
on_made (Err e) so map = tt

-- a rule over the image that the server has
pub own_alike : (db : Database) (s : Server) (t : Server → Frees db → Stepped) {after : Server} {before out : List Output} (free : Frees db) → IsAlike (t s free) after before out → AlikeSo db s t after before out
own_alike db s t free alike = (s.image, refl, free, alike)

-- what a decision and its act come to
pub act_alike : (db : Database) (m : Member) (now : ℕ) (a : Act) (s mid : Server) (t : Databases → Server → List Bool → Stepped) {after : Server} {before out : List Output} → mid.image ≡ s.image
    → ((dbs : Databases) (short : List Bool) → t dbs s short ≡ stepped_by dbs m now short mid a) → ((image : List ℕ) (dbs : Databases) (short : List Bool) → 2 < act_need a → t dbs (over s image) short ≡ stepped_by dbs m now short (over mid image) a)
    → ActsAlike db m now a mid after before out → AlikeSo db s (λ at free. t (free_dbs db free) at free.short) after before out
act_alike db m now act.Settle s mid t same own holder so =
    (so.0, so.1 ∙ ap length same, so.2, alike_same (holder so.0 (free_dbs db so.2) so.2.short (omega arith)) so.3)
act_alike db m now other s mid t same own holder so =
    own_alike db s (λ at free. t (free_dbs db free) at free.short) (none_free db) (alike_same (own (free_dbs db (none_free db)) []) (so (free_dbs db (none_free db)) []))

-- no call has its turn in a recovery turn
pub no_turn : (db : Database) (m : Member) (now : ℕ) (a : Act) (s : Server) {after : Server} {before out : List Output} → act_need a ≤ 1 → ActsAlike db m now a s after before out
    → (dbs : Databases) (short : List Bool) → IsAlike (stepped_by dbs m now short s a) after before out
no_turn db m now act.Settle s few so = absurd (omega (arith, few))
no_turn db m now other s few so = so

-- ---- calls

pub short_end : (r : CallReply) → IsShortReply r → IsShort (end_of r)
short_end (call_reply.Done answer) short = short
short_end other short = tt

-- a call that reads was answered, or found no memory
pub read_alike : (db : Database) (s : Server) (now id : ℕ) (call image : List ℕ) (before out : List Output) (made : Result code.Evaluation StoreFault) (r : Result (Unit {0}) StoreFault)
    → IfOk made (λ e. KeepsGrammar (db.writes call) (end_of e.reply)) → IfOk made (λ e. IsShortReply e.reply)
    → OnOk r ((told : Reply) × (out ≡ before ++ output.Reply id told ∷ []) × IsReadReply made told) → OnOk r (ReadsAlike db s now id call image s before out)
read_alike db s now id call image before out made (Err e) grammar short replied = tt
read_alike db s now id call image before out (Ok e) (Ok x) grammar short replied =
    let one : Evaluated = record { image = image; moment = now; call = call; outcome = record { reply = e.reply; image = image } } in (
      record { short = []; told = Some one ∷ []; may = (record { grammar = grammar; short = short_end e.reply short; longer = omega arith }, tt) },
      λ basis.
          let on : Evaluation = record { call = call; moment = now; basis = basis } in
          record {
            server = refl;
            outputs =
                ap blank_outputs (replied.1 ∙ ap (λ (o : Output). before ++ o ∷ []) (sym (replied.2 id on))
                ∙ ap (λ (o : Outcome). before ++ (read_reply id on o.reply).output ∷ []) (sym (told_itself db one)));
          },
    )
read_alike db s now id call image before out (Err e) (Ok x) grammar short replied = (
  record { short = true ∷ []; told = []; may = tt },
  λ basis. record { server = refl; outputs = ap blank_outputs (replied.1 ∙ ap (λ (r : Reply). before ++ output.Reply id r ∷ []) replied.2) },
)

-- ---- a step, from the end of its rule

module _ {D : Type 0} (g : Ghosts D) (db : Database) (m : Member) (s back : Server) (e : NodeEvent) (now : ℕ) (shown : List Shown) (t : Server → Frees db → Stepped)
    (first mid last : Held D) (before after : List Output) (end : StepEnd)
    (step : (image : List ℕ) (free : Frees db) → step_by (free_dbs db free) m (over s image) now e (short_behind shown free.short) ≡ t (over first.server image) free) (long : first.server.image ≡ s.image) where
  pub closed_alike : {knows : Type 0} {u : Stepped} (r : Result (Unit {0}) StoreFault) → Ends g knows u [] before first mid r → OnOk r (AlikeSo db first.server t mid.server [] before)
      → IfErr r (λ why. why ≢ fault.DiskFault → back ≡ s) → (IsErrOf r fault.DiskFault → model.halted_from back ≡ model.halted_from s)
      → Closes r e back mid last before after end → StepsAlike db m end e now (model.Up s) (node_at last) after
  closed_alike (Ok x) ends alike returns keeps closed =
      rw (closed.0, closed.1, closed.2) (
        mid.server,
        up_if mid.store.failed (model.halted_from mid.server) mid.server (ends.leaves.runs (λ is. ok_not x is)),
        (alike.0, alike.1 ∙ ap length long, record alike.2 { short = short_behind shown alike.2.short }, alike_same (step alike.0 alike.2) alike.3),
      )
  closed_alike (Err why) ends alike returns keeps closed =
      ⊎_elim (λ is.
      let halts = closed.0 is in
      rw (halts.0, halts.1.1, halts.2) (
        halted_if mid.store.failed (model.halted_from halts.1.0) halts.1.0 (ends.leaves.halts (ap Err is)) ∙ ap model.Halted (halts.1.2 ∙ keeps (ap Err is)),
        refl,
      ))
      (λ other.
      let rests = closed.1 other in
      rw (rests.0, rests.1, rests.2)
      (up_if mid.store.failed (model.halted_from back) back (ends.leaves.runs (λ is. other (fault_is why is))) ∙ ap model.Up (returns other), refl)) (disk_or why)
