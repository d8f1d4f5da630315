-- How rules end.
use Rattle.std.proofs.Common.{◌≡◌, ◌≢◌, ◌++◌, ◌⊎◌, ⊎_elim, inl, inr, List, [], true, false, Option, IsSome, Result, Ok, Err, OnOk, IfErr, IsErrAnd, IsErrOf, IsOk, refl, sym, ap, subst, ◌∙◌, append_assoc, arith}
use Rattle.std.proofs.lemmas.List.{append-nil, map-append}
use Rattle.disk_base.specs.declared.disks.Disk.{Ghosts}
use Rattle.disk_base.specs.declared.disks.FileNo.TheVariants.{Database}
use Rattle.disk_base.specs.Files.{Files}
use Rattle.disk_base.specs.Runs.{OnlyReads}
use Rattle.disk_base.proofs.Runs.{reads_change_none, reads_nothing, reads_as as said_as}
use Rattle.ubik_store.specs.declared.faults.StoreFault.{StoreFault}
use Rattle.ubik_store.specs.declared.faults.StoreFault.TheVariants.{DiskFault, NoMemory}
use Rattle.ubik_store.proofs.Applied.{calls_as, calls_of}
use Rattle.ubik_store.proofs.Telling.{ok_map}
use Rattle.cell_model.specs.declared.events.Output.{Output}
use Rattle.cell_model.specs.Durable.{Made}
use Rattle.cell_model.specs.Node.{halted_from}
use Rattle.cell_model.specs.Step.{Shown, Stepped, outputs_of}
use Rattle.server_state.specs.declared.state.State.{State}
use Rattle.ubik_node.specs.Disk.{FailsIn, Serves}
use Rattle.ubik_node.specs.Node.{CallsSo, Ends, Held, IsKept, IsMade, durable_in}
use Rattle.server_state.specs.State.{Keeps, ShowsBehind, member_of, server_of}
use Rattle.ubik_node.proofs.Durables.{fails_reads, serves_reads}

no_fault : ◌≡◌ {A = Result (Unit {0}) StoreFault} (Ok tt) (Err DiskFault) → ⊥
no_fault is = cc

pub fault_is : (e : StoreFault) → ◌≡◌ {A = Result (Unit {0}) StoreFault} (Err e) (Err DiskFault) → e ≡ DiskFault
fault_is e is = cc

pub ok_not : {A : Type 0} (x : A) → ◌≡◌ {A = Result A StoreFault} (Ok x) (Err DiskFault) → ⊥
ok_not x is = cc

-- a rule that never ends for want of memory
pub never_short : (r : Result (Unit {0}) StoreFault) (P : Type 0) → IsErrOf r DiskFault ⊎ IsOk r → IfErr r (λ why. why ≢ DiskFault → P)
never_short (Ok x) P fine = tt
never_short (Err e) P fine = λ other. absurd (⊎_elim (λ is. other (fault_is e is)) (λ is. absurd cc) fine)

-- a fault is one of the disk, or another one
pub disk_or : (why : StoreFault) → (why ≡ DiskFault) ⊎ (why ≢ DiskFault)
disk_or DiskFault = inl refl
disk_or other = inr (λ is. cc)

pub not_short : NoMemory ≡ DiskFault → ⊥
not_short is = cc

module _ {D : Type 0} (g : Ghosts D) where
  pub reads_none : (d : D) → OnlyReads g d d ⊥
  reads_none d = reads_nothing d

  -- a failure that is said in other words
  pub reads_as : {old new : D} {F G : Type 0} → (F → G) → (G → F) → OnlyReads g old new F → OnlyReads g old new G
  reads_as to from reads = said_as to from reads

  -- a disk that was read tells its files as before
  pub told_still : {old new : D} {F : Type 0} → OnlyReads g old new F → ¬ F → IsSome (g.files old) → IsSome (g.files new)
  told_still reads went told = subst (λ (files : Option Files). IsSome files) (sym (reads.files went)) told

  pub reads_so : {old new : D} {F G : Type 0} → OnlyReads g old new F → (F → G) → (G → F) → CallsSo g old new G
  reads_so reads to from = (0, calls_as (omega arith) to from (calls_of (reads_change_none {f = Database} reads)))

  module _ {knows : Type 0} {t : Stepped} {before after : List Output} (n m : Held D) (last : m.last ≡ n.last) (member : m.member ≡ n.member) where
    pub made_ends : CallsSo g n.store.disk m.store.disk ⊥ → m.store.failed ≡ false → (IsSome (g.files n.store.disk) → IsSome (g.files m.store.disk)) → (knows → IsMade g t before after n m) → Ends g knows t before after n m (Ok tt)
    made_ends run runs told made = record {
      made = made;
      failed = λ known failed. absurd (no_fault failed);
      leaves = record {
        short = tt;
        halts = λ failed. absurd (no_fault failed);
        runs = λ _. runs;
        told = λ _. told;
        calls = (run.0, calls_as (omega arith) (λ none. absurd none) (λ failed. no_fault failed) run.1);
      };
      state = tt;
      keeps = λ failed. absurd (no_fault failed);
      last = last;
      member = member;
    }

    -- a rule without a durable call, after reads
    pub known_read_ends : {F : Type 0} → IsKept g n → n.store.failed ≡ false → OnlyReads g n.store.disk m.store.disk F → ¬ F → m.store.failed ≡ false
        → (knows → (t.calls ≡ []) × (t.server ≡ m.server) × (after ≡ before ++ outputs_of t.shown)) → Ends g knows t before after n m (Ok tt)
    known_read_ends was up reads went runs shows =
        made_ends (reads_so reads went (λ failed. absurd failed)) runs (told_still reads went) (λ known.
        let shown = shows known in
        record {
          server = shown.1;
          outputs = shown.2;
          disk = subst (λ (calls : List Made). Serves g (durable_in n.server) n.store.disk m.store.disk calls) (sym shown.0) (serves_reads g n.store (durable_in n.server) (was.sound.ready up) (was.image up) (was.version up) reads);
        })

    pub read_ends : {F : Type 0} → IsKept g n → n.store.failed ≡ false → OnlyReads g n.store.disk m.store.disk F → ¬ F → m.store.failed ≡ false → t.calls ≡ []
        → (knows → (t.server ≡ m.server) × (after ≡ before ++ outputs_of t.shown)) → Ends g knows t before after n m (Ok tt)
    read_ends was up reads went runs none shows = known_read_ends was up reads went runs (λ known. (none, (shows known).0, (shows known).1))

    -- reads that failed, or want of memory
    pub failed_ends : {F : Type 0} (e : StoreFault) → (e ≡ DiskFault) ⊎ (e ≡ NoMemory) → IsKept g n → n.store.failed ≡ false → OnlyReads g n.store.disk m.store.disk F → (F → e ≡ DiskFault) → (e ≡ DiskFault → F)
        → (e ≢ DiskFault → m.store.failed ≡ false) → (e ≡ DiskFault → m.store.failed ≡ true) → m.server ≡ n.server → Ends g knows t before after n m (Err e)
    failed_ends e cause was up reads to from runs halts same = record {
      made = λ _. tt;
      failed = λ known failed. fails_reads g n.store (durable_in n.server) (was.sound.ready up) (was.image up) (was.version up) reads t.calls;
      leaves = record {
        short = λ other. (⊎_elim (λ is. absurd (other is)) (λ is. is) cause, reads_as (λ failed. other (to failed)) (λ none. absurd none) reads);
        halts = λ failed. halts (fault_is e failed);
        runs = λ fine. runs (λ is. fine (ap Err is));
        told = λ fine. told_still reads (λ failed. fine (ap Err (to failed)));
        calls = reads_so reads (λ failed. ap Err (to failed)) (λ failed. from (fault_is e failed));
      };
      state = λ other. same;
      keeps = λ failed. ap halted_from same;
      last = last;
      member = member;
    }

  -- a rule without a durable call that does not touch the store: the place in the cell and the database stay
  pub shown_ends : {knows : Type 0} {t : Stepped} {before after : List Output} (n : Held D) (st now : State) → IsKept g n → n.store.failed ≡ false → n.member ≡ member_of st → Keeps st now
      → ShowsBehind t (server_of now) before after → Ends g knows t before after n (record n { server = server_of now; member = member_of now }) (Ok tt)
  shown_ends n st now stored up member kept shows =
      read_ends n (record n { server = server_of now; member = member_of now }) refl (kept.member ∙ sym member) stored up (reads_none n.store.disk) (λ none. none) up shows.calls (λ _. (shows.server, shows.outputs))

  -- one that changes nothing
  pub rests_ends : {knows : Type 0} {t : Stepped} {before after : List Output} (n : Held D) → IsKept g n → n.store.failed ≡ false → ShowsBehind t n.server before after → Ends g knows t before after n n (Ok tt)
  rests_ends n stored up shows = read_ends n n refl refl stored up (reads_none n.store.disk) (λ none. none) up shows.calls (λ _. (shows.server, shows.outputs))

  -- want of memory, before anything was done
  pub short_ends : {knows : Type 0} {t : Stepped} {before after : List Output} (n : Held D) → IsKept g n → n.store.failed ≡ false → Ends g knows t before after n n (Err NoMemory)
  short_ends n stored up =
      failed_ends n n refl refl NoMemory (inr refl) stored up (reads_none n.store.disk) (λ none. absurd none) (λ is. absurd (not_short is)) (λ _. up) (λ is. absurd (not_short is)) refl

  -- a rule that is another one
  pub same_ends : {knows : Type 0} {t u : Stepped} {before after : List Output} {n m : Held D} {r : Result (Unit {0}) StoreFault} → t ≡ u → Ends g knows u before after n m r → Ends g knows t before after n m r
  same_ends {knows} {t} {u} {before} {after} {n} {m} {r} is ends = subst (λ (x : Stepped). Ends g knows x before after n m r) (sym is) ends

  -- A rule that is made and fails as another one. The rest of how it ends speaks of neither.
  pub ends_as : {knows less : Type 0} {t u : Stepped} {before after first final : List Output} {n m : Held D} {r : Result (Unit {0}) StoreFault} → (less → OnOk r (IsMade g t before after n m))
      → (less → IsErrOf r DiskFault → FailsIn g (durable_in n.server) n.store.disk m.store.disk t.calls) → Ends g knows u first final n m r → Ends g less t before after n m r
  ends_as made failed ends = record { made = made; failed = failed; leaves = ends.leaves; state = ends.state; keeps = ends.keeps; last = ends.last; member = ends.member }

  -- less is asked of the disk
  pub known_ends : {knows less : Type 0} {t : Stepped} {before after : List Output} {n m : Held D} {r : Result (Unit {0}) StoreFault} → (less → knows) → Ends g knows t before after n m r → Ends g less t before after n m r
  known_ends so ends = ends_as (λ known. ends.made (so known)) (λ known. ends.failed (so known)) ends

  -- a rule behind what else is shown first
  pub behind_ends : {knows : Type 0} {t : Stepped} {before mid after : List Output} {n m : Held D} (shown : List Shown) (r : Result (Unit {0}) StoreFault) → mid ≡ before ++ outputs_of shown → Ends g knows t mid after n m r
      → Ends g knows (record { server = t.server; calls = t.calls; shown = shown ++ t.shown }) before after n m r
  behind_ends {knows} {t} {before} {mid} {after} {n} {m} shown r is ends =
      ends_as (λ known.
      ok_map r (IsMade g t mid after n m) (IsMade g (record { server = t.server; calls = t.calls; shown = shown ++ t.shown }) before after n m) (ends.made known) (λ made.
      record {
        server = made.server;
        outputs =
            made.outputs ∙ ap (λ (o : List Output). o ++ outputs_of t.shown) is ∙ append_assoc before (outputs_of shown) (outputs_of t.shown)
            ∙ ap (λ (o : List Output). before ++ o) (sym (map-append (λ (one : Shown). one.output) shown t.shown));
        disk = made.disk;
      })) ends.failed ends

  -- a rule that shows nothing, behind what stands there
  pub quiet_ends : {knows : Type 0} {t : Stepped} {n m : Held D} {r : Result (Unit {0}) StoreFault} (out : List Output)
      → Ends g knows t [] [] n m r → Ends g knows t out out n m r
  quiet_ends {knows} {t} {n} {m} {r} out ends =
      ends_as (λ known.
      ok_map r (IsMade g t [] [] n m) (IsMade g t out out n m) (ends.made known)
      (λ made.
      record { server = made.server; outputs = sym (append-nil out) ∙ ap (λ (o : List Output). out ++ o) made.outputs; disk = made.disk }))
      ends.failed ends

  -- an error that is handed on
  pub handed_ends : {knows : Type 0} {t : Stepped} {before after : List Output} {n m : Held D} (r : Result (Unit {0}) StoreFault) (e : StoreFault) → IsErrAnd r (λ x. x ≡ e) → Ends g knows t before after n m (Err e) → Ends g knows t before after n m r
  handed_ends (Ok x) e is ends = absurd is
  handed_ends {knows} {t} {before} {after} {n} {m} (Err x) e is ends = subst (λ (y : StoreFault). Ends g knows t before after n m (Err y)) (sym is) ends
