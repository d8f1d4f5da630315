use Rattle.std.proofs.Common.{◌≡◌, ◌+◌, ◌∙◌, ◌++◌, ℕ, cond, false, replicate, List, [], None, Err, IsErrOf, IsSome, length, refl, sym, ap, subst, arith}
use Rattle.std.specs.Result.{is_err}
use Rattle.std.proofs.lemmas.Bool.{false≢true}
use Rattle.ubik_types.specs.declared.images.Change.{Change}
use Rattle.ubik_types.specs.declared.versions.Version.{Version}
use Rattle.ubik_types.specs.Image.{effect}
use Rattle.ubik_types.specs.Logged.{logged, too_large}
use Rattle.ubik_types.specs.Version.{IsVersion, version_lt}
use Rattle.xdr_base.specs.ChangeText.{text_of}
use Rattle.cell_model.specs.declared.events.Output.{Output}
use Rattle.cell_model.specs.Durable.{Transaction, label_calls}
use Rattle.cell_model.specs.Node.{Server}
use Rattle.cell_model.specs.Polls.{is_marked}
use Rattle.cell_model.specs.Step.{Member, Shown, outputs_of, sends_to_each, with_database}
use Rattle.cell_model.specs.Writes.{flight_of, own_commit, write_bodies}
use Rattle.site_writes.specs.OwnWrite.{OwnRecord}
use Rattle.ubik_recovery.specs.Record.{RecoveryRecord, held_alone}
use Rattle.ubik_store.specs.declared.faults.StoreFault.TheVariants.{DiskFault}
use Rattle.ubik_store.specs.DurableCall.{Commits, IsDurable, IsNeverLong}
use Rattle.ubik_store.specs.Gaps.{CutsNoPut}
use Rattle.ubik_store.specs.Rewrite.Rewrite.{Changed}
use Rattle.state_laws.specs.Over.{over}
use Rattle.ubik_node.specs.Alike.{blank, blank_outputs}
use Rattle.ubik_node.specs.Node.{held}
use Rattle.ubik_node.proofs.TurnsAlike.{begun_alike, committed_long, length_before, written_long}
use Rattle.server_state.specs.State.{announced, member_of, server_of}
use Rattle.ubik_write.specs.Flight.{IsFlightOf}
use Rattle.ubik_write.specs.Undo.{image_before}
use Rattle.ubik_types.specs.Quorum.{marked}
use Rattle.ubik_node.specs.Verdict.{IsWritten}
use Rattle.server_state.specs.Writing.{write_begun}
use Rattle.ubik_node.proofs.Calling.{commit_ended, ended, held_as, known_call_failed, known_call_made, short_ends_read, unread_ends}
use Rattle.ubik_node.proofs.Committing.{flown, next_is_newer, spread_to_each, undone_here, written_begun}
use Rattle.ubik_node.proofs.Endings.{handed_ends, ok_not, told_still}
use Rattle.ubik_node.proofs.HeldImages.{held_after, held_length, held_there}
use Rattle.state_laws.proofs.Fitting.{short_text}
use Rattle.ubik_node.proofs.Stored.{made_keeps, read_keeps, unmade_keeps}
use Rattle.server_state.specs.Plain.{IsAnswer}
use Rattle.server_state.proofs.Plain.{own_version}
use Rattle.ubik_node.proofs.nodes.Node.begin_write.Goals as goal

pub flight_over-requires-clause-short : goal.flight_over-requires-clause-short
flight_over-requires-clause-short g c = short_text (length c.args.self.now.state.image) c.args.changes.now c.requires.puts c.requires.within

pub returns-in_err-flight-clause-ends : goal.returns-in_err-flight-clause-ends
returns-in_err-flight-clause-ends g c = λ image.
    handed_ends g.D.Disk c.from_residual.result c.in_err-flight.field-0.0 c.from_residual.ensures.1
    (unread_ends g.D.Disk (held c.args.self.now) c.flight_over.new.store c.flight_over.result c.in_err-flight.field-0.0 c.in_err-flight.was c.flight_over.ensures.fault c.args.self.now.stored c.requires.not_halted c.flight_over.ensures.same
    c.flight_over.ensures.failed c.flight_over.ensures.disk)

pub returns-in_err-hold_place-clause-ends : goal.returns-in_err-hold_place-clause-ends
returns-in_err-hold_place-clause-ends g c = λ image.
    let went = λ (failed : _). false≢true (ap is_err failed) in
    let mid = c.hold_place.new.self in
    handed_ends g.D.Disk c.from_residual-in_err-hold_place.result _ c.from_residual-in_err-hold_place.ensures.1
    (held_as g.D.Disk (server_of mid) (member_of mid) c.hold_place.ensures.server c.hold_place.ensures.kept.member
    (short_ends_read g.D.Disk (held c.args.self.now) c.flight_over.new.store c.args.self.now.stored c.requires.not_halted (c.in_ok-flight.ensures.same went) c.in_ok-flight.ensures.disk went))

pub returns-in_err-spread_write-clause-ends : goal.returns-in_err-spread_write-clause-ends
returns-in_err-spread_write-clause-ends g c = λ image.
    let went = λ (failed : _). false≢true (ap is_err failed) in
    let mid = c.hold_place.new.self in
    handed_ends g.D.Disk c.from_residual-in_err-spread_write.result _ c.from_residual-in_err-spread_write.ensures.1
    (held_as g.D.Disk (server_of mid) (member_of mid) c.hold_place.ensures.server c.hold_place.ensures.kept.member
    (short_ends_read g.D.Disk (held c.args.self.now) c.flight_over.new.store c.args.self.now.stored c.requires.not_halted (c.in_ok-flight.ensures.same went) c.in_ok-flight.ensures.disk went))

pub returns-in_err-commit_all-clause-ends : goal.returns-in_err-commit_all-clause-ends
returns-in_err-commit_all-clause-ends g c = λ image.
    let n = c.args.self.now in
    let st = n.state in
    let m = member_of st in
    let v = c.next_version-next.result in
    let given = c.args.changes.now in
    let kept = logged (length st.image) given in
    let went = λ (failed : _). false≢true (ap is_err failed) in
    let first = c.flight_over.new.store in
    let reads = c.in_ok-flight.ensures.disk in
    let stays = c.in_ok-flight.ensures.same went in
    let still = read_keeps g.D.Disk first c.in_ok-flight.ensures.sound n.stored stays reads went in
    let runs = stays.failed ∙ c.requires.not_halted in
    let later = c.commit_all.new.store in
    let mid = c.hold_place.new.self in
    let same : logged first.len c.args.changes.now ≡ kept = ap (λ (k : ℕ). logged k given) (still.len runs) in
    let e = c.in_err-commit_all.field-0.0 in
    let fits : too_large 0 first.len c.args.changes.now ≡ None = ap (λ (k : ℕ). too_large 0 k given) (still.len runs) ∙ c.requires.within in
    let newer = ap (λ (own : Version). version_lt own v) (still.version runs) ∙ ap (version_lt st.version) c.next_version-next.ensures ∙ next_is_newer st.version in
    let own : OwnRecord = record { flight = flight_of (server_of st) c.args.now c.args.id c.args.call.now c.args.answer given; kept = record c.in_ok-flight.flight { old_version = st.version } } in
    let leads = written_begun (server_of st) (announced st) st.recovery c.args.now c.args.id c.args.call.now c.args.answer image given c.requires.serving m own v c.next_version-next.ensures (sym st.of_cell.servers) c.requires.others refl refl in
    handed_ends g.D.Disk c.from_residual-in_err-commit_all.result e c.from_residual-in_err-commit_all.ensures.1
    (held_as g.D.Disk (server_of mid) (member_of mid) c.hold_place.ensures.server c.hold_place.ensures.kept.member
    (known_call_failed g.D.Disk (held n) c.args.self.now.stored c.requires.not_halted first reads went still runs later (Changed kept) v image (own_commit v given image (record { moment = c.args.now; call = c.args.call.now }))
    (λ known. record { leads = ap (effect st.image) known.1.kept ∙ known.1.leads; same = refl; cuts = λ _. subst CutsNoPut (sym known.1.kept) known.1.puts; count = λ labelled. ap (λ (n : ℕ). 13 + n + label_calls labelled) (ap length (sym known.1.kept)); calls = leads.calls }) IsNeverLong e
    (commit_ended g.D.Disk v first later e newer (c.in_err-commit_all.ensures.memory fits) (λ is. c.commit_all.ensures.failed (c.in_err-commit_all.was ∙ ap Err is)) c.in_err-commit_all.ensures.refused)
    newer (λ bytes long. absurd long)
    (subst (λ (cs : List Change). IsDurable g.D.Disk cs v first later (IsErrOf (ended e) DiskFault)) same c.in_err-commit_all.ensures.durable)))

pub returns-clause-ends : goal.returns-clause-ends
returns-clause-ends g c = λ image.
    let n = c.args.self.now in
    let st = n.state in
    let m = member_of st in
    let v = c.next_version-next.result in
    let given = c.args.changes.now in
    let kept = logged (length st.image) given in
    let went = λ (failed : _). false≢true (ap is_err failed) in
    let first = c.flight_over.new.store in
    let reads = c.in_ok-flight.ensures.disk in
    let stays = c.in_ok-flight.ensures.same went in
    let still = read_keeps g.D.Disk first c.in_ok-flight.ensures.sound n.stored stays reads went in
    let runs = stays.failed ∙ c.requires.not_halted in
    let later = c.commit_all.new.store in
    let mid = c.hold_place.new.self in
    let same : logged first.len c.args.changes.now ≡ kept = ap (λ (k : ℕ). logged k given) (still.len runs) in
    let last = c.begin_flight.new.self in
    let flight = c.in_ok-flight.flight in
    let of : IsFlightOf c.args.id st.version v c.args.now given flight = c.in_ok-flight.ensures.flight in
    let write = c.own_write-write.result in
    let done : Commits g.D.Disk kept v first later = subst (λ (cs : List Change). Commits g.D.Disk cs v first later) same c.in_ok-commit_all.ensures.done in
    let t : Transaction = record { moment = c.args.now; call = c.args.call.now } in
    let Known : Type 0 = IsSome (g.D.Disk.files n.store.disk) × IsWritten st.image image given in
    let here : Known → c.of-image.result ≡ image = λ known.
    c.of-image.ensures ∙ held_after (g.D.Disk.files first.disk) (g.D.Disk.files later.disk) later.len kept st.image image (told_still g.D.Disk reads went known.0) (still.image runs) done.image (ap (effect st.image) known.1.kept ∙ known.1.leads) in
    let undoes = λ (known : Known). undone_here (g.D.Disk.files n.store.disk) flight st.image given known.0 (c.args.self.now.stored.image c.requires.not_halted) c.in_ok-flight.ensures.undo in
    let back : Known → image_before flight.undo flight.old_len c.of-image.result ≡ st.image = λ known.
    sym (ap (λ (w : OwnRecord). w.flight.old_image) c.own_write-write.ensures.value) ∙ c.own_write-write.ensures.before st.image (undoes known) (here known ∙ sym known.1.leads) in
    let leads = λ (known : Known). written_begun (server_of st) (announced st) st.recovery c.args.now c.args.id c.args.call.now c.args.answer image given c.requires.serving m write v c.next_version-next.ensures (sym st.of_cell.servers) c.requires.others
    (ap (λ (w : OwnRecord). w.kept.old_version) c.own_write-write.ensures.value ∙ of.old_version)
    (flown write flight (server_of st) c.args.id c.args.now st.version v c.args.call.now c.args.answer (image_before flight.undo flight.old_len c.of-image.result) given c.own_write-write.ensures.value of (back known)) in
    known_call_made g.D.Disk (held n) c.args.self.now.stored c.requires.not_halted first reads went still runs later (Changed kept) v image (own_commit v given image t)
    (λ known. record { leads = ap (effect st.image) known.1.kept ∙ known.1.leads; same = refl; cuts = λ _. subst CutsNoPut (sym known.1.kept) known.1.puts; count = λ labelled. ap (λ (n : ℕ). 13 + n + label_calls labelled) (ap length (sym known.1.kept)); calls = (leads known).calls })
    (server_of last) (member_of last) (c.begin_flight.ensures.place ∙ c.hold_place.ensures.kept.member) done
    (subst (λ (cs : List Change). IsDurable g.D.Disk cs v first later (IsErrOf c.commit_all.result DiskFault)) same c.commit_all.ensures.durable) (λ failed. ok_not c.in_ok-commit_all.field-0 (sym c.in_ok-commit_all.was ∙ failed))
    (λ known. (
      (leads known).server
          ∙ sym (c.begin_flight.ensures.after
          ∙ ap (λ (r : RecoveryRecord). write_begun write (held_alone r mid.me) (with_database (server_of mid) v c.of-image.result)) c.hold_place.ensures.recovery
          ∙ ap (λ (k : Member). write_begun write (held_alone st.recovery k.me) (with_database (server_of mid) v c.of-image.result)) c.hold_place.ensures.kept.member
          ∙ ap (λ (s : Server). write_begun write (held_alone st.recovery m.me) (with_database s v c.of-image.result)) c.hold_place.ensures.server
          ∙ ap (λ (bytes : List ℕ). write_begun write (held_alone st.recovery m.me) (with_database (server_of st) v bytes)) (here known)),
      c.in_ok-spread_write.ensures.sent
          ∙ ap (λ (k : Member). c.args.out.now ++ outputs_of (sends_to_each k (λ j. cond (is_marked (marked (length k.hosts) (replicate 20 false)) j) [] (write_bodies flight.old_version v flight.text)))) c.hold_place.ensures.kept.member
          ∙ ap (λ (shown : List Shown). c.args.out.now ++ outputs_of shown) (spread_to_each m (length st.cell) 20 (replicate 20 false) flight.old_version st.version v flight.text (text_of given) refl of.old_version of.text)
          ∙ ap (λ (o : List Output). c.args.out.now ++ o) (sym (leads known).outputs),
    ))

pub returns-clause-alike : goal.returns-clause-alike
returns-clause-alike g c = λ old image same made.
    let st = c.args.self.now.state in
    let m = member_of st in
    let v = c.next_version-next.result in
    let given = c.args.changes.now in
    let first = c.flight_over.new.store in
    let later = c.commit_all.new.store in
    let mid = c.hold_place.new.self in
    let flight = c.in_ok-flight.flight in
    let of : IsFlightOf c.args.id st.version v c.args.now given flight = c.in_ok-flight.ensures.flight in
    let write = c.own_write-write.result in
    let there = c.of-image.result in
    let stays = c.in_ok-flight.ensures.same (λ failed. false≢true (ap is_err failed)) in
    let own : c.args.self.now.store.len ≡ length st.image = c.args.self.now.stored.len c.requires.not_halted in
    let len : first.len ≡ length st.image = stays.len ∙ own in
    let done = subst (λ (k : ℕ). Commits g.D.Disk (logged k given) v first later) len c.in_ok-commit_all.ensures.done in
    let long = written_long st.image old image there given same made (committed_long g.D.Disk first later v st.image (logged (length st.image) given) len done (c.commit_all.ensures.sound.ready done.failed) there c.of-image.ensures) in
    let before = image_before flight.undo flight.old_len there in
    let begun : OwnRecord = record { flight = flight_of (over (server_of st) old) c.args.now c.args.id c.args.call.now c.args.answer given; kept = write.kept } in
    let leads = written_begun (over (server_of st) old) (announced st) st.recovery c.args.now c.args.id c.args.call.now c.args.answer image given c.requires.serving m begun v c.next_version-next.ensures (sym st.of_cell.servers) c.requires.others
    (ap (λ (w : OwnRecord). w.kept.old_version) c.own_write-write.ensures.value ∙ of.old_version) refl in
    record {
      server =
          ap blank (leads.server) ∙ begun_alike (server_of st) write flight (held_alone st.recovery m.me) st.version v v c.args.now c.args.id c.args.call.now c.args.answer old before image there given c.own_write-write.ensures.value of
          (same ∙ sym own ∙ sym c.in_ok-flight.ensures.len ∙ sym (length_before flight.undo flight.old_len there)) long
          ∙ ap blank (sym (c.begin_flight.ensures.after
          ∙ ap (λ (r : RecoveryRecord). write_begun write (held_alone r mid.me) (with_database (server_of mid) v there)) c.hold_place.ensures.recovery
          ∙ ap (λ (k : Member). write_begun write (held_alone st.recovery k.me) (with_database (server_of mid) v there)) c.hold_place.ensures.kept.member
          ∙ ap (λ (s : Server). write_begun write (held_alone st.recovery m.me) (with_database s v there)) c.hold_place.ensures.server));
      outputs =
          ap blank_outputs (c.in_ok-spread_write.ensures.sent
          ∙ ap (λ (k : Member). c.args.out.now ++ outputs_of (sends_to_each k (λ j. cond (is_marked (marked (length k.hosts) (replicate 20 false)) j) [] (write_bodies flight.old_version v flight.text)))) c.hold_place.ensures.kept.member
          ∙ ap (λ (shown : List Shown). c.args.out.now ++ outputs_of shown) (spread_to_each m (length st.cell) 20 (replicate 20 false) flight.old_version st.version v flight.text (text_of given) refl of.old_version of.text)
          ∙ ap (λ (o : List Output). c.args.out.now ++ o) (sym leads.outputs));
    }

pub invariant_of-self-in-Break-branch-4 : goal.invariant_of-self-in-Break-branch-4
invariant_of-self-in-Break-branch-4 g c =
    let went = λ (failed : _). false≢true (ap is_err failed) in
    let first = c.flight_over.new.store in
    let still = read_keeps g.D.Disk first c.in_ok-flight.ensures.sound c.args.self.now.stored (c.in_ok-flight.ensures.same went)
    c.in_ok-flight.ensures.disk went in
    let e = c.in_err-commit_all.field-0.0 in
    rw (ap (λ (s : Server). s.version) c.hold_place.ensures.server, ap (λ (s : Server). s.image) c.hold_place.ensures.server)
    (record {
      stored = unmade_keeps g.D.Disk c.commit_all.new.store c.in_err-commit_all.ensures.sound e still
          (λ is. c.commit_all.ensures.failed (c.in_err-commit_all.was ∙ ap Err is)) c.in_err-commit_all.ensures.refused;
    })

pub invariant_of-self-2 : goal.invariant_of-self-2
invariant_of-self-2 g c =
    let later = c.commit_all.new.store in
    let image = c.begin_flight.ensures.image ∙ c.of-image.ensures in
    let sound = c.in_ok-commit_all.ensures.sound in
    let done = c.in_ok-commit_all.ensures.done in
    record {
      stored = made_keeps g.D.Disk later sound done c.begin_flight.ensures.version (ap length image ∙ held_length g.D.Disk later (sound.ready done.failed))
          (held_there (g.D.Disk.files later.disk) later.len c.begin_flight.new.self.image image);
    }

pub begin_flight-requires-clause-fits : goal.begin_flight-requires-clause-fits
begin_flight-requires-clause-fits g c =
    let later = c.commit_all.new.store in
    omega (arith, c.commit_all.ensures.sound.len, ap length c.of-image.ensures, held_length g.D.Disk later (c.commit_all.ensures.sound.ready c.in_ok-commit_all.ensures.done.failed))

pub spread_write-requires-clause-before : goal.spread_write-requires-clause-before
spread_write-requires-clause-before g c = subst IsVersion (sym c.in_ok-flight.ensures.flight.old_version) (own_version c.args.self.now.state)

pub spread_write-requires-clause-after : goal.spread_write-requires-clause-after
spread_write-requires-clause-after g c =
    let st = c.args.self.now.state in
    subst IsVersion (sym c.next_version-next.ensures) (record { epoch = omega (arith, st.epoch_fits); counter = omega (arith, c.requires.counter) })

pub begin_flight-requires-clause-plain : goal.begin_flight-requires-clause-plain
begin_flight-requires-clause-plain g c =
    let value = sym c.own_write-write.ensures.value in
    record {
      before = subst (λ (w : OwnRecord). IsVersion w.kept.old_version) value (subst IsVersion (sym c.in_ok-flight.ensures.flight.old_version) (own_version c.args.self.now.state));
      answer = subst (λ (w : OwnRecord). IsAnswer w.flight.answer) value c.requires.answer;
    }
