-- How rules end that make one durable call, after reads.
use Rattle.std.proofs.Common.{◌≡◌, ◌≢◌, ◌+◌, ◌++◌, ◌⊎◌, ⊎_elim, inr, IfErr, ℕ, true, false, List, [], ◌∷◌, Option, Some, None, IsSome, Result, Ok, Err, IsErrOf, refl, sym, ap, subst, ◌∙◌, arith}
use Rattle.std.specs.Option.{option_map}
use Rattle.std.specs.Prelude.{OnOk}
use Rattle.std.proofs.lemmas.Bool.{false≢true}
use Rattle.ubik_types.specs.declared.versions.Version.{Version}
use Rattle.ubik_types.specs.Version.{version_lt}
use Rattle.disk_base.specs.declared.disks.Disk.{Ghosts}
use Rattle.disk_base.specs.declared.disks.FileNo.TheVariants.{Database}
use Rattle.disk_base.specs.Files.{Files}
use Rattle.disk_base.specs.Runs.{OnlyReads}
use Rattle.disk_base.proofs.Runs.{reads_change_none, reads_joined}
use Rattle.ubik_store.specs.declared.faults.StoreFault.{StoreFault}
use Rattle.ubik_store.specs.declared.faults.StoreFault.TheVariants.{DiskFault, BadLabel, TooLarge, NotNewer, NoMemory}
use Rattle.ubik_store.specs.declared.stores.Store.{Store}
use Rattle.ubik_store.specs.DurableCall.{EndsAs, HasFailed, IsDurableIn, IsNeverLong, Refuses, Rewrites}
use Rattle.ubik_store.specs.Rewrite.{Rewrite, rewritten, most_calls, KeepsPuts}
use Rattle.ubik_store.specs.Store.{StaysAsItWas, image_in}
use Rattle.ubik_store.proofs.Applied.{calls_as, calls_joined, calls_of}
use Rattle.ubik_store.proofs.Telling.{ok_map}
use Rattle.cell_model.specs.declared.events.Output.{Output}
use Rattle.cell_model.specs.Node.{Server}
use Rattle.cell_model.specs.Durable.{Made, durable, durable_after}
use Rattle.cell_model.specs.Step.{Member, Stepped, outputs_of}
use Rattle.ubik_node.specs.Disk.{FailsIn, Serves, TakenCutsNoPut}
use Rattle.ubik_node.specs.Node.{CallsSo, Ends, Held, IsKept, IsMade, LeavesStore, durable_in}
use Rattle.ubik_node.specs.Stored.{IsStoredAs}
use Rattle.ubik_node.proofs.AfterReads.{fails_after, serves_after}
use Rattle.ubik_node.proofs.Durables.{CallsAs, fails_one, serves_one}
use Rattle.ubik_node.proofs.Endings.{ends_as, failed_ends, made_ends, not_short, told_still}

-- a rule that ended with an error
abbrev pub ended : StoreFault → Result (Unit {0}) StoreFault
ended e = Err e

pub told_by : (change : List ℕ → List ℕ) (before after : Option Files) → image_in after ≡ option_map change (image_in before) → IsSome before → IsSome after
told_by change None after is told = absurd (false≢true told)
told_by change (Some fs) None is told = absurd cc
told_by change (Some fs) (Some gs) is told = refl

-- how changes are not made
pub commit_ended : {D : Type 0} (g : Ghosts D) (v : Version) (old new : Store D) (e : StoreFault) → version_lt old.version v ≡ true
    → (e ≡ DiskFault) ⊎ (e ≡ NoMemory) → (e ≡ DiskFault → HasFailed old new) → (e ≢ DiskFault → Refuses g old new)
    → EndsAs g IsNeverLong v old new e
commit_ended g v old new DiskFault newer cause failed refused = failed refl
commit_ended g v old new NoMemory newer cause failed refused = (newer, refused (λ is. absurd cc))
commit_ended g v old new other newer cause failed refused = ⊎_elim (λ is. absurd cc) (λ is. absurd cc) cause

-- what one durable call makes of a server, and that a step makes just that one
pub record IsOneCall (old : Server) (rewrite : Rewrite) (v : Version) (image : List ℕ) (made : Made) (t : Stepped) : Type 0 where
  pub leads : rewritten rewrite old.image ≡ image
  pub same : durable_after (durable_in old) made.call ≡ durable v image
  pub cuts : TakenCutsNoPut made.reason made.call → KeepsPuts rewrite
  pub count : CallsAs made rewrite
  pub calls : t.calls ≡ made ∷ []

module _ {D : Type 0} (g : Ghosts D) where
  -- what a disk left that failed
  pub failed_leaves : {old : D} (new : Store D) → new.failed ≡ true → CallsSo g old new.disk (IsErrOf (ended DiskFault) DiskFault) → LeavesStore g old new (Err DiskFault)
  failed_leaves new halts calls = record { short = λ other. absurd (other refl); halts = λ _. halts; runs = λ fine. absurd (fine refl); told = λ fine. absurd (fine refl); calls = calls }

  -- reads that failed, or that found no memory
  pub unread_ends : {A : Type 0} {knows : Type 0} {t : Stepped} {before after : List Output} (n : Held D) (s : Store D) (r : Result A StoreFault) (e : StoreFault) → r ≡ Err e → IfErr r (λ f. (f ≡ DiskFault) ⊎ (f ≡ NoMemory)) → IsKept g n → n.store.failed ≡ false
      → (¬ IsErrOf r DiskFault → StaysAsItWas n.store s) → (IsErrOf r DiskFault → HasFailed n.store s) → OnlyReads g n.store.disk s.disk (IsErrOf r DiskFault) → Ends g knows t before after n (record n { store = s }) (Err e)
  unread_ends {A} n s r e is cause was up stays failed reads =
      let of_disk : e ≡ DiskFault → IsErrOf r DiskFault = λ same. is ∙ ap Err same in
      let to_disk : IsErrOf r DiskFault → e ≡ DiskFault = λ of. same_fault A e (sym is ∙ of) in
      failed_ends g n (record n { store = s }) refl refl e (subst (λ (x : Result A StoreFault). IfErr x (λ f. (f ≡ DiskFault) ⊎ (f ≡ NoMemory))) is cause) was up reads to_disk of_disk
      (λ other. (stays (λ of. other (to_disk of))).failed ∙ up) (λ same. (failed (of_disk same)).failed) refl
    where
      same_fault : (A : Type 0) (e : StoreFault) → ◌≡◌ {A = Result A StoreFault} (Err e) (Err DiskFault) → e ≡ DiskFault
      same_fault A e same = cc

  -- want of memory after reads that went well
  pub short_ends_read : {knows : Type 0} {t : Stepped} {before after : List Output} (n : Held D) (s : Store D) {F : Type 0} → IsKept g n → n.store.failed ≡ false → StaysAsItWas n.store s → OnlyReads g n.store.disk s.disk F → ¬ F
      → Ends g knows t before after n (record n { store = s }) (Err NoMemory)
  short_ends_read n s was up stays reads went =
      failed_ends g n (record n { store = s }) refl refl NoMemory (inr refl) was up reads (λ failed. absurd (went failed)) (λ is. absurd (not_short is)) (λ _. stays.failed ∙ up) (λ is. absurd (not_short is)) refl

  -- a durable call that is refused without a fault of the disk: only memory can lack
  pub refused : (long : ℕ → Type 0) (v : Version) (s later : Store D) (e : StoreFault) → EndsAs g long v s later e → e ≢ DiskFault → version_lt s.version v ≡ true → ((bytes : ℕ) → long bytes → ⊥) → (e ≡ NoMemory) × Refuses g s later
  refused long v s later DiskFault ends other newer fits = absurd (other refl)
  refused long v s later (BadLabel len head) ends other newer fits = absurd ends
  refused long v s later (TooLarge bytes) ends other newer fits = absurd (fits bytes ends.0)
  refused long v s later (NotNewer own given) ends other newer fits = absurd (false≢true (sym ends.0.not_newer ∙ newer))
  refused long v s later NoMemory ends other newer fits = (refl, ends.1)

  module _ {knows : Type 0} {t : Stepped} {before after : List Output} (n : Held D) (was : IsKept g n) (up : n.store.failed ≡ false) (s : Store D) {F : Type 0} (reads : OnlyReads g n.store.disk s.disk F) (went : ¬ F)
      (still : IsStoredAs g s n.server.version n.server.image) (runs : s.failed ≡ false) (later : Store D) (rewrite : Rewrite) (v : Version) (image : List ℕ) (made : Made) (one : knows → IsOneCall n.server rewrite v image made t) where
    pub known_call_made : {G : Type 0} (server : Server) (place : Member) → place ≡ n.member → Rewrites g rewrite v s later → IsDurableIn g rewrite v s later G → ¬ G → (knows → (t.server ≡ server) × (after ≡ before ++ outputs_of t.shown))
        → Ends g knows t before after n (record n { store = later; server = server; member = place }) (Ok tt)
    known_call_made server place member done durably fine shows =
        made_ends g n (record n { store = later; server = server; member = place }) refl member
        (0 + most_calls rewrite, calls_as (omega arith) (λ failed. fine failed) (λ none. absurd none) (calls_joined (calls_of (reads_change_none {f = Database} reads)) went durably.calls))
        done.failed
        (λ told. told_by (rewritten rewrite) (g.files s.disk) (g.files later.disk) done.image (told_still g reads went told))
        (λ known.
        let shown = shows known in
        let is = one known in
        record {
          server = shown.0;
          outputs = shown.1;
          disk =
              subst (λ (made : List Made). Serves g (durable_in n.server) n.store.disk later.disk made) (sym is.calls)
              (serves_after g n.store.disk s.disk later.disk reads went (durable_in n.server) (made ∷ [])
              (serves_one g s later (durable_in n.server) rewrite v image made (still.image runs) (still.version runs) is.leads is.same is.cuts is.count done.steps durably));
        })

    pub known_call_failed : (long : ℕ → Type 0) (e : StoreFault) → EndsAs g long v s later e → version_lt s.version v ≡ true → ((bytes : ℕ) → long bytes → ⊥) → IsDurableIn g rewrite v s later (IsErrOf (ended e) DiskFault)
        → Ends g knows t before after n (record n { store = later }) (Err e)
    known_call_failed long e ends newer fits durably = by e ends durably
      where
        by_refusal : (e : StoreFault) → e ≢ DiskFault → EndsAs g long v s later e → Ends g knows t before after n (record n { store = later }) (Err e)
        by_refusal e other ends =
            let no = refused long v s later e ends other newer fits in
            let all = reads_joined reads went no.1.disk in
            failed_ends g n (record n { store = later }) refl refl e (inr no.0) was up all (λ none. absurd none) (λ is. other is) (λ _. no.1.store.failed ∙ runs) (λ is. absurd (other is)) refl

        by : (e : StoreFault) → EndsAs g long v s later e → IsDurableIn g rewrite v s later (IsErrOf (ended e) DiskFault) → Ends g knows t before after n (record n { store = later }) (Err e)
        by DiskFault ends durably = record {
          made = λ _. tt;
          failed = λ known _.
              let is = one known in
              subst (λ (made : List Made). FailsIn g (durable_in n.server) n.store.disk later.disk made) (sym is.calls)
              (fails_after g n.store.disk s.disk later.disk reads went (durable_in n.server) (made ∷ [])
              (fails_one g s later (durable_in n.server) rewrite v image made (still.sound.ready runs) (still.image runs) (still.version runs) is.leads is.same is.cuts is.count durably));
          leaves = failed_leaves later ends.failed (0 + most_calls rewrite, calls_as (omega arith) (λ failed. failed) (λ failed. failed) (calls_joined (calls_of (reads_change_none {f = Database} reads)) went durably.calls));
          state = λ other. refl;
          keeps = λ failed. refl;
          last = refl;
          member = refl;
        }
        by other ends durably = by_refusal other (λ is. absurd cc) ends

  -- the same where that is so whatever the disk tells
  module _ {knows : Type 0} {t : Stepped} {before after : List Output} (n : Held D) (was : IsKept g n) (up : n.store.failed ≡ false) (s : Store D) {F : Type 0} (reads : OnlyReads g n.store.disk s.disk F) (went : ¬ F)
      (still : IsStoredAs g s n.server.version n.server.image) (runs : s.failed ≡ false) (later : Store D) (rewrite : Rewrite) (v : Version) (image : List ℕ) (made : Made) (leads : rewritten rewrite n.server.image ≡ image)
      (same : durable_after (durable_in n.server) made.call ≡ durable v image) (cuts : TakenCutsNoPut made.reason made.call → KeepsPuts rewrite) (count : CallsAs made rewrite) (calls : t.calls ≡ made ∷ []) where
    pub call_made : {G : Type 0} (server : Server) (place : Member) → place ≡ n.member → Rewrites g rewrite v s later → IsDurableIn g rewrite v s later G → ¬ G → (knows → (t.server ≡ server) × (after ≡ before ++ outputs_of t.shown))
        → Ends g knows t before after n (record n { store = later; server = server; member = place }) (Ok tt)
    call_made = known_call_made n was up s reads went still runs later rewrite v image made (λ _. record { leads = leads; same = same; cuts = cuts; count = count; calls = calls })

    pub call_failed : (long : ℕ → Type 0) (e : StoreFault) → EndsAs g long v s later e → version_lt s.version v ≡ true → ((bytes : ℕ) → long bytes → ⊥) → IsDurableIn g rewrite v s later (IsErrOf (ended e) DiskFault)
        → Ends g knows t before after n (record n { store = later }) (Err e)
    call_failed = known_call_failed n was up s reads went still runs later rewrite v image made (λ _. record { leads = leads; same = same; cuts = cuts; count = count; calls = calls })

  -- a rule after reads
  pub after_reads : {knows : Type 0} {t : Stepped} {before after : List Output} (n : Held D) (s : Store D) (m : Held D) (r : Result (Unit {0}) StoreFault) {F : Type 0} → OnlyReads g n.store.disk s.disk F → ¬ F
      → Ends g knows t before after (record n { store = s }) m r → Ends g knows t before after n m r
  after_reads {knows} {t} {before} {after} n s m r reads went ends = record {
    made = λ known.
        ok_map r (IsMade g t before after (record n { store = s }) m) (IsMade g t before after n m) (ends.made known)
        (λ made. record { server = made.server; outputs = made.outputs; disk = serves_after g n.store.disk s.disk m.store.disk reads went (durable_in n.server) t.calls made.disk });
    failed = λ known failed. fails_after g n.store.disk s.disk m.store.disk reads went (durable_in n.server) t.calls (ends.failed known failed);
    leaves = record {
      short = err_joined r (λ e short. (short.0, reads_joined reads went short.1)) ends.leaves.short;
      halts = ends.leaves.halts;
      runs = ends.leaves.runs;
      told = λ fine there. ends.leaves.told fine (told_still g reads went there);
      calls = (0 + ends.leaves.calls.0, calls_joined (calls_of (reads_change_none {f = Database} reads)) went ends.leaves.calls.1);
    };
    state = ends.state;
    keeps = ends.keeps;
    last = ends.last;
    member = ends.member;
  }
    where
      err_joined : (r : Result (Unit {0}) StoreFault) → ((e : StoreFault) → (e ≡ NoMemory) × OnlyReads g s.disk m.store.disk ⊥ → (e ≡ NoMemory) × OnlyReads g n.store.disk m.store.disk ⊥)
          → IfErr r (λ why. why ≢ DiskFault → (why ≡ NoMemory) × OnlyReads g s.disk m.store.disk ⊥) → IfErr r (λ why. why ≢ DiskFault → (why ≡ NoMemory) × OnlyReads g n.store.disk m.store.disk ⊥)
      err_joined (Ok x) so short = tt
      err_joined (Err e) so short = λ other. so e (short other)

  -- what is a rule where more is known
  pub known_so : {knows less : Type 0} {t u : Stepped} {before after : List Output} {n m : Held D} (r : Result (Unit {0}) StoreFault) → (less → knows × (t ≡ u)) → Ends g knows u before after n m r → Ends g less t before after n m r
  known_so {knows} {less} {t} {u} {before} {after} {n} {m} r so ends =
      ends_as g (λ known. let is = so known in subst (λ (x : Stepped). OnOk r (IsMade g x before after n m)) (sym is.1) (ends.made is.0))
      (λ known failed. let is = so known in subst (λ (x : Stepped). FailsIn g (durable_in n.server) n.store.disk m.store.disk x.calls) (sym is.1) (ends.failed is.0 failed)) ends

  -- a rule whose server and place are named otherwise
  pub held_as : {knows : Type 0} {t : Stepped} {before after : List Output} {n m : Held D} {r : Result (Unit {0}) StoreFault} (server : Server) (place : Member) → server ≡ m.server → place ≡ m.member → Ends g knows t before after n m r
      → Ends g knows t before after n (record m { server = server; member = place }) r
  held_as {knows} {t} {before} {after} {n} {m} {r} server place is at ends =
      subst (λ (s : Server). Ends g knows t before after n (record m { server = s; member = place }) r) (sym is) (subst (λ (p : Member). Ends g knows t before after n (record m { member = p }) r) (sym at) ends)
