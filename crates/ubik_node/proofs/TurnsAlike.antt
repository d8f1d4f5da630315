-- Turns of writing calls but for the bytes of images.
use Rattle.std.proofs.Common.{◌≡◌, ◌≤◌, ◌<◌, ◌++◌, inl, inr, ⊎_elim, ℕ, true, false, Option, Some, None, IfSome, List, [], ◌∷◌, length, refl, sym, ap, subst, ◌∙◌, Result, Ok, Err, OnOk}
use Rattle.std.proofs.lemmas.Bool.{false≢true}
use Rattle.ubik_types.specs.declared.images.Change.{Change}
use Rattle.ubik_types.specs.declared.versions.Version.{Version}
use Rattle.ubik_types.specs.Image.{effect}
use Rattle.ubik_types.specs.Logged.{logged}
use Rattle.ubik_types.specs.Phase.{PhaseRecord, Ready}
use Rattle.ubik_calls.specs.declared.replies.Reply.{Reply}
use Rattle.disk_base.specs.declared.disks.Disk.{Ghosts}
use Rattle.db_image.specs.declared.services.CallReply.{CallReply}
use Rattle.db_image.specs.declared.services.CallReply.TheVariants as call_reply
use Rattle.db_image.specs.Database.{Database, Outcome}
use Rattle.db_image.specs.Ends.{end_of, IsShort, KeepsGrammar}
use Rattle.cell_model.specs.declared.events.Output.{Output}
use Rattle.cell_model.specs.declared.events.Output.TheVariants as output
use Rattle.cell_model.specs.Evaluating.{Evaluated, Told, told_at}
use Rattle.cell_model.specs.Node.{Flight, Server, Waiting}
use Rattle.cell_model.specs.Step.{Member, Stepped, cell_size, is_short, with_database}
use Rattle.cell_model.specs.Writes.{flight_of, is_free, is_free_in, last_counter, next_turns, turned, write_turn, written_in}
use Rattle.state_laws.specs.Over.{over, replies}
use Rattle.state_laws.proofs.Turning.{turn_is}
use Rattle.site_writes.specs.OwnWrite.{OwnRecord, own_write}
use Rattle.ubik_recovery.specs.Record.{RecoveryRecord}
use Rattle.ubik_store.specs.declared.faults.StoreFault.{StoreFault}
use Rattle.ubik_store.specs.declared.stores.Store.{Store}
use Rattle.ubik_store.specs.DurableCall.{Commits}
use Rattle.ubik_store.specs.Redo.{len_after}
use Rattle.ubik_store.specs.Store.{IsReady}
use Rattle.ubik_store.proofs.Redone.{length-effect}
use Rattle.std.proofs.lemmas.List.FromFn.{length-map-range_with_len}
use Rattle.ubik_write.specs.Flight.{FlightRecord, IsFlightOf}
use Rattle.ubik_write.specs.Undo.{image_before}
use Rattle.ubik_write.specs.declared.undo.Patch.{Patch}
use Rattle.server_state.specs.Held.{held_image}
use Rattle.server_state.specs.State.{ShowsBehind}
use Rattle.server_state.specs.Writing.{write_begun}
use Rattle.ubik_node.specs.Alike.{AlikeSo, Frees, IsAlike, MayAllBe, MayBe, TurnsAlike, blank, blank_flight, blank_outputs, free_dbs}
use Rattle.ubik_node.specs.Verdict.{IsWritten, JudgesSome}
use Rattle.ubik_node.specs.declared.verdicts.Verdict.TheVariants as verdict
use Rattle.ubik_node.proofs.Alike.{alike_behind, alike_same, blank_image}
use Rattle.ubik_node.proofs.Evaluated.{told_itself}
use Rattle.ubik_node.proofs.HeldImages.{held_length}
use Rattle.state_laws.proofs.Waiting.{turn_alone, turn_then}

-- ---- one turn

same_turn : (db : Database) (m : Member) (s : Server) (now id : ℕ) (call image : List ℕ) (f : List ℕ → ℕ → List ℕ → Outcome) (r : CallReply) → turned (record db { call = f }) m s now id call image r ≡ turned db m s now id call image r
same_turn db m s now id call image f (call_reply.Done answer) = refl
same_turn db m s now id call image f other = refl

module _ (db : Database) (m : Member) (s : Server) (now id : ℕ) (call : List ℕ) (r : CallReply) (grammar : KeepsGrammar (db.writes call) (end_of r)) (short : IsShort (end_of r)) where
  -- what comes of the call over an image, with another one after it
  abbrev told : (old image : List ℕ) → Evaluated
  told old image = record { image = old; moment = now; call = call; outcome = record { reply = r; image = image } }

  abbrev one_free : (old image : List ℕ) → length old ≤ length image → Frees db
  one_free old image longer = record { short = []; told = Some (told old image) ∷ []; may = (record { grammar = grammar; short = short; longer = longer }, tt) }

  comes : (old image : List ℕ) (longer : length old ≤ length image) → write_turn (free_dbs db (one_free old image longer) 0) m (over s old) now id call false ≡ turned db m (over s old) now id call image r
  comes old image longer =
      let f = (free_dbs db (one_free old image longer) 0).call in
      ap (λ (o : Outcome). turned (record db { call = f }) m (over s old) now id call o.image o.reply) (told_itself db (told old image)) ∙ same_turn db m (over s old) now id call image f r

  pub replied_turn : {before out : List Output} (answer : Reply) → JudgesSome db m s now id call r (verdict.Reply answer) → out ≡ before ++ output.Reply id answer ∷ [] → TurnsAlike db m s now id call s before out
  replied_turn {before} {out} answer judged is = inl (
    refl,
    λ old same.
        let so = judged old same in (
          one_free old so.0 so.1,
          subst (λ (t : Stepped). ShowsBehind t (over s old) before out) (sym (comes old so.0 so.1)) (record { server = so.2.server; calls = so.2.calls; outputs = is ∙ ap (λ (o : List Output). before ++ o) (sym so.2.outputs) }),
        ),
  )

  made_turn : {after : Server} {before out : List Output} (old image : List ℕ) → length old ≡ length s.image → length old ≤ length image → (t : Stepped) → turned db m (over s old) now id call image r ≡ t
      → IsAlike t after before out → (1 < cell_size m → is_free after ≡ false) → TurnsAlike db m s now id call after before out
  made_turn old image same longer t is alike busy = inr (busy, (old, same, one_free old image longer, alike_same (comes old image longer ∙ is) alike))

  pub poll_turn : {after : Server} {before out : List Output} → JudgesSome db m s now id call r verdict.NewPoll → ShowsBehind (last_counter m s now id) after before out → TurnsAlike db m s now id call after before out
  poll_turn so shows =
      made_turn so.0 so.1 so.2 so.3 (last_counter m (over s so.0) now id) so.4
      (record { server = blank_image (last_counter m s now id).server so.0 s.image so.2 ∙ ap blank shows.server; outputs = ap blank_outputs shows.outputs }) (λ _. sym (ap is_free shows.server))

  pub commit_turn : (after : Server) (before out : List Output) (answer : List ℕ) (changes : List Change) (q : Result (Unit {0}) StoreFault) → JudgesSome db m s now id call r (verdict.Commit answer changes)
      → ((old image : List ℕ) → length old ≡ length s.image → IsWritten old image changes → OnOk q (IsAlike (written_in m (over s old) now id call answer image changes s.phase) after before out))
      → (1 < cell_size m → OnOk q (is_free after ≡ false)) → OnOk q (TurnsAlike db m s now id call after before out)
  commit_turn after before out answer changes (Ok x) so alike busy = made_turn so.0 so.1 so.2 so.3 _ so.4.1 (alike so.0 so.1 so.2 so.4.0) busy
  commit_turn after before out answer changes (Err e) so alike busy = tt

-- over some image
pub turn_alike : (db : Database) (m : Member) (s : Server) (now id : ℕ) (call : List ℕ) {after : Server} {before out : List Output} → TurnsAlike db m s now id call after before out
    → AlikeSo db s (λ at free. write_turn (free_dbs db free 0) m at now id call (is_short free.short)) after before out
turn_alike db m s now id call turn =
    ⊎_elim (λ replied. let one = replied.1 s.image refl in (s.image, refl, one.0, record { server = ap blank (one.1.server ∙ sym replied.0); outputs = ap blank_outputs one.1.outputs })) (λ made. made.1) turn

-- by other names
pub turn_named : (db : Database) (m place : Member) (s at : Server) (now id : ℕ) (call told : List ℕ) {after : Server} {before out : List Output} → place ≡ m → at ≡ s → told ≡ call → TurnsAlike db place at now id told after before out
    → TurnsAlike db m s now id call after before out
turn_named db m place s at now id call told member server same turn = rw (← member, ← server, ← same) turn

-- ---- those that wait

-- what may be of the first evaluation
first_be : (db : Database) (told : Told) → MayAllBe db told → IfSome (told_at told 0) (MayBe db)
first_be db [] all = tt
first_be db (one ∷ told) all = all.0

-- of the first call what its own turn has, and of those behind it what theirs have
abbrev first_free : (db : Database) (first others : Frees db) → Frees db
first_free db first others = record { short = is_short first.short ∷ others.short; told = told_at first.told 0 ∷ others.told; may = (first_be db first.told first.may, others.may) }

free_blank : (p : PhaseRecord) (o : Option Flight) → is_free_in p (blank_flight o) ≡ is_free_in p o
free_blank p None = refl
free_blank (Ready poll spread announced) (Some f) = refl
free_blank other (Some f) = refl

alike_free : (a b : Server) → blank a ≡ blank b → is_free b ≡ false → is_free a ≡ false
alike_free a b same busy = sym (free_blank a.phase a.flight) ∙ ap is_free same ∙ free_blank b.phase b.flight ∙ busy

-- the turns of those that wait
abbrev pub WaitAlike : Database → Member → ℕ → Server → (after : Server) → (before out : List Output) → Type 0
WaitAlike db m now s after before out = AlikeSo db s (λ at free. next_turns (free_dbs db free) m now at.waiting at free.short) after before out

module _ (db : Database) (m : Member) (s : Server) (now : ℕ) (w : Waiting) (waiting : List Waiting) (free : is_free s ≡ true) (line : s.waiting ≡ w ∷ waiting) (others : 1 < cell_size m)
    {mid : Server} {before between : List Output} (turn : TurnsAlike db m (record s { waiting = waiting }) now w.id w.call mid before between) where
  -- no write can begin after the turn
  pub wait_over : is_free mid ≡ false → WaitAlike db m now s mid before between
  wait_over busy = ⊎_elim (λ replied. absurd (false≢true (sym busy ∙ ap is_free replied.0 ∙ free)))
      (λ made.
      let so = made.1 in
      let o = first_free db so.2 (record { short = []; told = []; may = tt }) in (
        so.0,
        so.1,
        o,
        alike_same (turn_alone (free_dbs db o) m (over s so.0) now w waiting (is_short so.2.short) free line (alike_free _ mid so.3.server busy)) so.3,
      )) turn

  -- one can, and then the others have theirs
  pub wait_goes : {after : Server} {out : List Output} → is_free mid ≡ true → WaitAlike db m now mid after between out → WaitAlike db m now s after before out
  wait_goes {after} {out} ready later = ⊎_elim
      (λ replied.
      let so = subst (λ (x : Server). WaitAlike db m now x after between out) replied.0 later in
      let one = replied.1 so.0 so.1 in
      let o = first_free db one.0 so.2 in
      let at = over (record s { waiting = waiting }) so.0 in
      let t = write_turn (free_dbs db o 0) m at now w.id w.call (is_short one.0.short) in
      let rests : (t.server ≡ at) × (t.calls ≡ []) × (replies t.shown ≡ 1) =
      ⊎_elim (λ busy. absurd (false≢true (sym busy ∙ ap is_free one.1.server ∙ free))) (λ rests. rests) (turn_is m at now w.id w.call others (free_dbs db o 0) (is_short one.0.short)) in (
        so.0,
        so.1,
        o,
        alike_same (turn_then (free_dbs db o) m (over s so.0) now w waiting (is_short one.0.short) free line so.2.short rests.0 rests.1 rests.2) (alike_behind _ one.1.outputs so.3),
      ))
      (λ made. absurd (false≢true (sym (made.0 others) ∙ ready))) turn

-- ---- commits

-- the image after a commit is as long as the one that was known would be
pub committed_long : {D : Type 0} (g : Ghosts D) (old later : Store D) (v : Version) (own : List ℕ) (kept : List Change) → old.len ≡ length own → Commits g kept v old later → IsReady g later
    → (there : List ℕ) → there ≡ held_image (g.files later.disk) later.len → length (effect own kept) ≡ length there
committed_long g old later v own kept same done ready there is =
    length-effect own kept ∙ ap (λ (k : ℕ). len_after k kept) (sym same) ∙ sym done.len ∙ sym (ap length is ∙ held_length g later ready)

-- so is one that the changes lead to from another image
pub written_long : (own old image there : List ℕ) (given : List Change) → length old ≡ length own → IsWritten old image given → length (effect own (logged (length own) given)) ≡ length there → length image ≡ length there
written_long own old image there given same made long =
    sym (ap length made.leads) ∙ length-effect old given ∙ ap (λ (n : ℕ). len_after n given) same
    ∙ ap (len_after (length own)) (sym (ap (λ (n : ℕ). logged n given) (sym same) ∙ made.kept)) ∙ sym (length-effect own (logged (length own) given)) ∙ long

-- the image before a write in flight is as long as it was
pub length_before : (undo : List Patch) (len : ℕ) (after : List ℕ) → length (image_before undo len after) ≡ len
unfolding image_before
length_before undo len after = length-map-range_with_len _ 0 len

-- a write in flight, with another image before it and after it
pub begun_alike : (s : Server) (write : OwnRecord) (f : FlightRecord) (r : RecoveryRecord) (a b v : Version) (now id : ℕ) (call answer old before image there : List ℕ) (given : List Change) → write ≡ own_write f answer call before given
    → IsFlightOf id a b now given f → length old ≡ length before → length image ≡ length there
    → blank (write_begun (record { flight = flight_of (over s old) now id call answer given; kept = write.kept }) r (with_database (over s old) v image)) ≡ blank (write_begun write r (with_database s v there))
begun_alike s write f r a b v now id call answer old before image there given value of same long = rw (value, of.call, of.began, same, long) refl
