-- The turns of those that wait.
use Rattle.std.proofs.Common.{◌≡◌, ◌++◌, ◌⊎◌, inl, ⊎_elim, ℕ, zero, suc, ◌<◌, Bool, true, false, Option}
use Rattle.std.proofs.Common.{Some, None, List, [], ◌∷◌, length, drop, take, slice_get, IsErrAnd, IsErrOf, IsOk, IsSome}
use Rattle.std.proofs.Common.{Result, Ok, Err, refl, sym, ap, subst, ◌∙◌, append_assoc, arith}
use Rattle.std.specs.Option.{option_map}
use Rattle.std.specs.Prelude.{OnErr}
use Rattle.std.proofs.lemmas.Bool.{false≢true}
use Rattle.std.proofs.lemmas.List.{append-nil, map-append, take_all}
use Rattle.ubik_types.specs.Phase.{PhaseRecord, NoPhase}
use Rattle.disk_base.specs.declared.disks.Disk.{Ghosts}
use Rattle.db_image.specs.Database.{Database}
use Rattle.ubik_store.specs.declared.faults.StoreFault.{StoreFault}
use Rattle.ubik_store.specs.declared.faults.StoreFault.TheVariants.{DiskFault}
use Rattle.ubik_store.proofs.Telling.{ok_map}
use Rattle.cell_model.specs.declared.events.Output.{Output}
use Rattle.cell_model.specs.Durable.{Made}
use Rattle.cell_model.specs.Evaluating.{Databases, behind_first}
use Rattle.cell_model.specs.Node.{Server, Waiting, halted_from}
use Rattle.cell_model.specs.Step.{Member, Shown, Stepped, cell_size, outputs_of, quiet}
use Rattle.cell_model.specs.Writes.{is_free, is_free_in, next_turns, write_turn}
use Rattle.state_laws.specs.Over.{replies}
use Rattle.state_laws.specs.Waiting.{first_turn, stepped, with_line}
use Rattle.state_laws.proofs.Turning.{turn_is}
use Rattle.state_laws.proofs.Waiting.{turn_alone, turn_then}
use Rattle.site_writes.specs.OwnWrite.{OwnRecord}
use Rattle.ubik_node.specs.Disk.{FailsIn}
use Rattle.ubik_node.specs.Node.{Ends, Held, IsMade, durable_in}
use Rattle.ubik_node.specs.Serving.{IsRepliedTo}
use Rattle.server_state.specs.State.{ShowsBehind}
use Rattle.server_state.specs.Writing.{without_first}
use Rattle.ubik_node.proofs.Calling.{after_reads, ended, known_so}
use Rattle.ubik_node.proofs.Durables.{fails_none}
use Rattle.ubik_node.proofs.Decided.{decided_ends}
use Rattle.ubik_node.proofs.Endings.{ends_as, never_short, same_ends}

-- no write can begin where one is in flight
pub writes_busy : (p : PhaseRecord) (own : Option OwnRecord) → IsSome own
    → is_free_in p (option_map (λ (write : OwnRecord). write.flight) own) ≡ false
writes_busy p None some = absurd (false≢true some)
writes_busy NoPhase (Some write) some = refl
writes_busy other (Some write) some = refl

-- what was put out before is all that was put out
pub front_whole : (r : Result (Unit {0}) StoreFault) (out : List Output) → OnErr r (take (length out) out ≡ out)
front_whole (Ok done) out = tt
front_whole (Err why) out = take_all (length out) out (omega arith)

-- ---- a rule that begins with a change of the server that a halted one does not tell

module _ {D : Type 0} (g : Ghosts D) {knows : Type 0} {t : Stepped} {before after : List Output} where
  pub went_on : (n : Held D) (s : Server) (place : Member) (m : Held D) (r : Result (Unit {0}) StoreFault)
      → durable_in s ≡ durable_in n.server → (IsErrOf r DiskFault → halted_from s ≡ halted_from n.server) → place ≡ n.member
      → IsErrOf r DiskFault ⊎ IsOk r
      → Ends g knows t before after (record n { server = s; member = place }) m r → Ends g knows t before after n m r
  went_on n s place m r same keeps member fine ends = decided_ends g n s place r refl (λ known. known) same member keeps (never_short r (s ≡ n.server) fine) ends

-- ---- a turn

named : (db : Database) (now : ℕ) (w : Waiting) (b : Bool) (m place : Member) (s t : Server) → place ≡ m → s ≡ t
    → write_turn db m t now w.id w.call b ≡ write_turn db place s now w.id w.call b
named db now w b m place s t at is =
    rw (at, is) refl

-- an end that is known
pub named_as : {D : Type 0} (g : Ghosts D) {knows : Type 0} {t : Stepped} {before after : List Output} {n m : Held D}
    (r q : Result (Unit {0}) StoreFault) → r ≡ q → Ends g knows t before after n m r → Ends g knows t before after n m q
named_as g {knows} {t} {before} {after} {n} {m} r q is ends =
    subst (λ (x : Result (Unit {0}) StoreFault). Ends g knows t before after n m x) is ends

-- a fault that is one of the disk
pub named_fault : {D : Type 0} (g : Ghosts D) {knows : Type 0} {t : Stepped} {before after : List Output} {n m : Held D} (e : StoreFault)
    → e ≡ DiskFault → Ends g knows t before after n m (Err e) → Ends g knows t before after n m (Err DiskFault)
named_fault g {knows} {t} {before} {after} {n} {m} e is ends = subst (λ (x : StoreFault). Ends g knows t before after n m (Err x)) is ends

module _ {D : Type 0} (g : Ghosts D) {knows : Type 0} (dbs : Databases) (now : ℕ) (w : Waiting) (waiting : List Waiting) (b : Bool)
    (before after : List Output) (n : Held D) (free : is_free n.server ≡ true) (others : 1 < cell_size n.member)
    (line : n.server.waiting ≡ w ∷ waiting) (s : Server) (place : Member) (is : s ≡ with_line n.server waiting)
    (at : place ≡ n.member) where
  -- a turn after which no write can begin, or in which the disk failed
  pub turn_over : (last : Held D) (r : Result (Unit {0}) StoreFault) → IsErrOf r DiskFault ⊎ IsOk r
      → (IsOk r → is_free last.server ≡ false)
      → Ends g knows (write_turn (dbs 0) place s now w.id w.call b) before after (record n { server = s; member = place }) last r
      → Ends g knows (next_turns dbs n.member now n.server.waiting n.server (b ∷ [])) before after n last r
  turn_over last r fine busy ends =
      by r fine busy (went_on g n s place last r (ap durable_in is)
      (λ failed. ap halted_from is) at fine (same_ends g (named (dbs 0) now w b n.member place s (with_line n.server waiting) at is) ends))
    where
      by : (r : Result (Unit {0}) StoreFault) → IsErrOf r DiskFault ⊎ IsOk r → (IsOk r → is_free last.server ≡ false)
          → Ends g knows (first_turn dbs n.member now n.server w waiting b) before after n last r
          → Ends g knows (next_turns dbs n.member now n.server.waiting n.server (b ∷ [])) before after n last r
      by (Ok done) fine busy one =
          known_so g (Ok done) (λ known.
          (known, turn_alone dbs n.member n.server now w waiting b free line (ap is_free (one.made known).server ∙ busy refl))) one
      by (Err why) fine busy one =
          ends_as g (λ known. tt) (λ known failed.
          ⊎_elim (λ rests. subst (λ (t : Stepped). FailsIn g (durable_in n.server) n.store.disk last.store.disk t.calls)
          (sym (turn_alone dbs n.member n.server now w waiting b free line rests)) (one.failed known failed))
          (λ rests. fails_none g (durable_in n.server) n.store.disk last.store.disk
          (next_turns dbs n.member now n.server.waiting n.server (b ∷ [])).calls
          (subst (λ (calls : List Made). FailsIn g (durable_in n.server) n.store.disk last.store.disk calls) rests.1
          (one.failed known failed)))
          (turn_is n.member (with_line n.server waiting) now w.id w.call others (dbs 0) b)) one

  -- a turn after which one can, and then those of the others
  pub turn_goes : {more : Type 0} (mid last : Held D) (between : List Output) (short : List Bool) (r : Result (Unit {0}) StoreFault)
      → IsErrOf r DiskFault ⊎ IsOk r → is_free mid.server ≡ true → (knows → more)
      → Ends g knows (write_turn (dbs 0) place s now w.id w.call b) before between (record n { server = s; member = place }) mid (Ok tt)
      → IsRepliedTo g before between (record n { server = s; member = place }) mid
      → Ends g more (next_turns (behind_first dbs) mid.member now mid.server.waiting mid.server short) between after mid last r
      → Ends g knows (next_turns dbs n.member now n.server.waiting n.server (b ∷ short)) before after n last r
  turn_goes {more} mid last between short r fine ready so ends replied later =
      let named_held : Server → ℕ → Member → Held D = λ x l k. record { store = mid.store; server = x; last = l; member = k } in
      let mid_is : mid ≡ record n { store = mid.store; server = s; member = place } =
      ap (λ (x : Server). named_held x mid.last mid.member) replied.server
      ∙ ap (λ (l : ℕ). named_held s l mid.member) ends.last
      ∙ ap (λ (k : Member). named_held s n.last k) ends.member in
      let u = next_turns (behind_first dbs) mid.member now mid.server.waiting mid.server short in
      let same : u ≡ next_turns (behind_first dbs) n.member now waiting (with_line n.server waiting) short =
      ap (λ (k : Member). next_turns (behind_first dbs) k now mid.server.waiting mid.server short) (ends.member ∙ at)
      ∙ ap (λ (x : Server). next_turns (behind_first dbs) n.member now x.waiting x short) (replied.server ∙ is) in
      let t = first_turn dbs n.member now n.server w waiting b in
      let one = went_on g n s place last r (ap durable_in is) (λ failed. ap halted_from is) at fine
      (after_reads g (record n { server = s; member = place }) mid.store last r replied.reads (λ none. none)
      (subst (λ (h : Held D). Ends g more u between after h last r) mid_is later)) in
      let goes : knows → (between ≡ before ++ outputs_of t.shown) ×
      (next_turns dbs n.member now n.server.waiting n.server (b ∷ short) ≡ stepped u.server u.calls (t.shown ++ u.shown)) = λ known.
      (let made = ends.made known in
      let first = same_ends g (named (dbs 0) now w b n.member place s (with_line n.server waiting) at is) ends in
      let shown = (first.made known).outputs in
      let server = (first.made known).server in
      let rests : (t.server ≡ with_line n.server waiting) × (t.calls ≡ []) × (replies t.shown ≡ 1) =
      ⊎_elim (λ busy. absurd (false≢true (sym busy ∙ ap is_free server ∙ ready))) (λ rests. rests)
      (turn_is n.member (with_line n.server waiting) now w.id w.call others (dbs 0) b) in (
        shown,
        turn_then dbs n.member n.server now w waiting b free line short rests.0 rests.1 rests.2
            ∙ ap (λ (x : Stepped). stepped x.server x.calls (t.shown ++ x.shown)) (sym same),
      )) in
      ends_as g (λ known.
      let step = goes known in
      ok_map r (IsMade g u between after n last)
      (IsMade g (next_turns dbs n.member now n.server.waiting n.server (b ∷ short)) before after n last) (one.made (so known))
      (λ made.
      subst (λ (x : Stepped). IsMade g x before after n last) (sym step.1) (record {
        server = made.server;
        outputs =
            made.outputs ∙ ap (λ (o : List Output). o ++ outputs_of u.shown) step.0 ∙ append_assoc before (outputs_of t.shown)
            (outputs_of u.shown)
            ∙ ap (λ (o : List Output). before ++ o) (sym (map-append (λ (one : Shown). one.output) t.shown u.shown));
        disk = made.disk;
      })))
      (λ known failed. subst (λ (x : Stepped). FailsIn g (durable_in n.server) n.store.disk last.store.disk x.calls)
      (sym (goes known).1) (one.failed (so known) failed)) one

-- nobody waits
pub nobody_left : (dbs : Databases) (m : Member) (now : ℕ) (s after : Server) (short : List Bool) (out : List Output) → s.waiting ≡ []
    → after ≡ without_first s → ShowsBehind (next_turns dbs m now s.waiting s short) after out out
nobody_left dbs m now s after short out none is =
    let rests : next_turns dbs m now s.waiting s short ≡ quiet s = ap (λ (those : List Waiting). next_turns dbs m now those s short) none in
    let same : s ≡ after =
    ap (λ (those : List Waiting). with_line s those) (none ∙ sym (ap (λ (those : List Waiting). drop 1 those) none)) ∙ sym is in
    subst (λ (t : Stepped). ShowsBehind t after out out) (sym rests)
    (record { server = same; calls = refl; outputs = sym (append-nil out) })

-- ---- the line

pub line_none : (waiting : List Waiting) → None ≡ slice_get waiting 0 → waiting ≡ []
line_none [] is = refl
line_none (w ∷ waiting) is = absurd cc

pub line_first : (waiting : List Waiting) (w : Waiting) → Some w ≡ slice_get waiting 0 → waiting ≡ w ∷ drop 1 waiting
line_first [] w is = absurd cc
line_first (first ∷ waiting) w is = let same : w ≡ first = cc in ap (λ (x : Waiting). x ∷ waiting) (sym same)

-- where somebody waits there are others
pub several : (n me : ℕ) (w : Waiting) (waiting rest : List Waiting) → me < n → (n ≡ 1 → waiting ≡ []) → waiting ≡ w ∷ rest → 1 < n
several zero me w waiting rest inside alone line = omega (arith, inside)
several (suc zero) me w waiting rest inside alone line = let none : waiting ≡ [] = alone refl in absurd cc
several (suc (suc n)) me w waiting rest inside alone line = omega arith

-- an error that is handed on
pub handed_fine : (r : Result (Unit {0}) StoreFault) (e : StoreFault) → IsErrAnd r (λ x. x ≡ e)
    → IsErrOf (ended e) DiskFault ⊎ IsOk (ended e) → IsErrOf r DiskFault ⊎ IsOk r
handed_fine (Ok done) e is fine = absurd is
handed_fine (Err why) e is fine = ⊎_elim (λ failed. inl (ap ended is ∙ failed)) (λ ok. absurd (false≢true ok)) fine

pub handed_not : {P : Type 0} (r : Result (Unit {0}) StoreFault) (e : StoreFault) → IsErrAnd r (λ x. x ≡ e) → IsOk r → P
handed_not (Ok done) e is ok = absurd is
handed_not (Err why) e is ok = absurd (false≢true ok)
