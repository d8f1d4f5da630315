-- The own writes of a server.
use Rattle.std.proofs.Common.{◌≡◌, ℕ, suc, ◌+◌, ◌<◌, ◌≤◌, false, Option, Some, None, is_some, option_map, IsSome, List, [], ◌∷◌, ◌++◌, length, drop, slice_get, refl, sym, ap, subst, ◌∙◌, append_assoc, arith, length-append, length-drop, Result, Ok, Err, OnOk, OnErr, IsErrAnd}
use Rattle.std.proofs.lemmas.Option.{get_or_from_slice_get, slice_get-get_or}
use Rattle.std.proofs.Math.Seq.{drop-cons}
use Rattle.std.proofs.Common.{add-one}
use Rattle.ubik_calls.specs.declared.replies.Reply.{Reply}
use Rattle.cell_model.specs.declared.events.Output.{Output}
use Rattle.cell_model.specs.declared.events.Output.TheVariants as output
use Rattle.cell_model.specs.Lapse.{waiting_refused}
use Rattle.cell_model.specs.Node.{Waiting}
use Rattle.cell_model.specs.Step.{outputs_of}
use Rattle.site_writes.specs.OwnWrite.{OwnRecord}
use Rattle.lock_table.specs.declared.tables.TheConstants.{MAX_WAITING}
use Rattle.site_writes.specs.Site.{LineIsFull, SiteRecord, no_writes, with_place, with_waiting, without_first, without_place}
use Rattle.site_writes.specs.declared.sites.WaitFault.{WaitFault}
use Rattle.ubik_types.specs.declared.memory.NoMemory.{NoMemory}
use Rattle.ubik_recovery.specs.Record.{RecoveryRecord}
use Rattle.server_state.specs.Recovering.{IsServing}
use Rattle.server_state.specs.Writing.{AreOfCell, own_of}

-- no write is in flight where no calls are served
pub resting_free : (writes : Option SiteRecord) (r : RecoveryRecord) → ¬ IsServing r → (IsSome (own_of writes) → IsServing r)
    → own_of writes ≡ None
resting_free writes r rests serving = by (own_of writes) serving
  where
    by : (own : Option OwnRecord) → (IsSome own → IsServing r) → own ≡ None
    by None so = refl
    by (Some write) so = absurd (rests (so refl))

pub no_own : (own : Option OwnRecord) → own ≡ None → option_map (λ (write : OwnRecord). write.flight) own ≡ None
no_own own is = ap (option_map (λ (write : OwnRecord). write.flight)) is

-- where none is in flight the image may be any other
pub written_free : (n : ℕ) (image other : List ℕ) (writes : Option SiteRecord) → own_of writes ≡ None → AreOfCell n image writes
    → AreOfCell n other writes
written_free n image other writes free are = record {
  others = are.others;
  undone = λ write is. let none : ◌≡◌ {A = Option OwnRecord} None (Some write) = sym free ∙ is in absurd cc;
  plain = are.plain;
  room = are.room;
  alone = are.alone;
}

pub written_empty : (n : ℕ) (image : List ℕ) → AreOfCell n image (Some no_writes)
written_empty n image = record {
  others = λ is. absurd cc;
  undone = λ write is. absurd cc;
  plain = λ write is. absurd cc;
  room = omega arith;
  alone = λ one. refl;
}

-- the first one that waits was taken
pub written_next : (n : ℕ) (image : List ℕ) (site : SiteRecord) → AreOfCell n image (Some site)
    → AreOfCell n image (Some (without_first site))
written_next n image site are = record {
  others = are.others;
  undone = are.undone;
  plain = are.plain;
  room = omega (arith, length-drop 1 site.waiting, are.room);
  alone = λ one. ap (drop 1) (are.alone one);
}

-- a call waits, where the line had room for it
pub written_waits : (r : Result (Unit {0}) WaitFault) (n id : ℕ) (call image : List ℕ) (site new : SiteRecord) → IsSome site.own
    → OnOk r (new ≡ with_waiting site id call) → OnErr r (new ≡ site)
    → (MAX_WAITING ≤ length site.waiting → IsErrAnd r (LineIsFull site)) → AreOfCell n image (Some site) → AreOfCell n image (Some new)
written_waits (Ok done) n id call image site new some ok err full are =
    let room : ¬ (MAX_WAITING ≤ length site.waiting) = full in
    subst (λ (s : SiteRecord). AreOfCell n image (Some s)) (sym ok) (record {
      others = are.others;
      undone = are.undone;
      plain = are.plain;
      room = omega (arith, length-append site.waiting (record { id = id; call = call } ∷ []), room);
      alone = λ one. let others : 1 < n = are.others some in absurd (omega arith);
    })
written_waits (Err why) n id call image site new some ok err full are = subst (λ (s : SiteRecord). AreOfCell n image (Some s)) (sym err) are

-- a place is taken, or not
pub written_held : (r : Result (Unit {0}) NoMemory) (n id : ℕ) (image : List ℕ) (site mid new : SiteRecord) → mid ≡ without_place site
    → OnOk r (new ≡ with_place mid id) → OnErr r (new ≡ mid) → AreOfCell n image (Some site) → AreOfCell n image (Some new)
written_held (Ok done) n id image site mid new released ok err are =
    subst (λ (s : SiteRecord). AreOfCell n image (Some s)) (sym (ok ∙ ap (λ (x : SiteRecord). with_place x id) released))
    (record { others = are.others; undone = are.undone; plain = are.plain; room = are.room; alone = are.alone })
written_held (Err why) n id image site mid new released ok err are =
    subst (λ (s : SiteRecord). AreOfCell n image (Some s)) (sym (err ∙ released))
    (record { others = are.others; undone = are.undone; plain = are.plain; room = are.room; alone = are.alone })

pub line_held : (r : Result (Unit {0}) NoMemory) (id : ℕ) (site mid new : SiteRecord) → mid ≡ without_place site
    → OnOk r (new ≡ with_place mid id) → OnErr r (new ≡ mid) → new.waiting ≡ site.waiting
line_held (Ok done) id site mid new released ok err = ap (λ (x : SiteRecord). x.waiting) ok ∙ ap (λ (x : SiteRecord). x.waiting) released
line_held (Err why) id site mid new released ok err = ap (λ (x : SiteRecord). x.waiting) err ∙ ap (λ (x : SiteRecord). x.waiting) released

pub none_in_flight : (own : Option OwnRecord) → is_some own ≡ false → option_map (λ (write : OwnRecord). write.flight) own ≡ None
none_in_flight None is = refl
none_in_flight (Some write) is = absurd cc

-- what is put out for those that wait from a place on
abbrev pub refused_from : List Waiting → ℕ → Reply → List Output
refused_from waiting k r = outputs_of (waiting_refused (drop k waiting) r)

refused-cons : (waiting : List Waiting) (k : ℕ) (w : Waiting) (r : Reply) → k < length waiting → slice_get waiting k ≡ Some w
    → refused_from waiting k r ≡ output.Reply w.id r ∷ refused_from waiting (k + 1) r
refused-cons waiting k w r inside at =
    let same = get_or_from_slice_get waiting k w w at in
    let parted : drop k waiting ≡ w ∷ drop (k + 1) waiting = rw add-one
    (drop-cons waiting k w inside ∙ ap (λ (x : Waiting). x ∷ drop (suc k) waiting) same) in
    ap (λ (those : List Waiting). outputs_of (waiting_refused those r)) parted

-- the one at a place is refused
pub one_refused : (waiting : List Waiting) (k id : ℕ) (r : Reply) (out all : List Output) → k < length waiting
    → option_map (λ (w : Waiting). w.id) (slice_get waiting k) ≡ Some id
    → out ++ refused_from waiting k r ≡ all → (out ++ output.Reply id r ∷ []) ++ refused_from waiting (k + 1) r ≡ all
one_refused waiting k id r out all inside at rest = by (slice_get waiting k) refl at
  where
    by : (there : Option Waiting) → slice_get waiting k ≡ there → option_map (λ (w : Waiting). w.id) there ≡ Some id
        → (out ++ output.Reply id r ∷ []) ++ refused_from waiting (k + 1) r ≡ all
    by None none is = absurd cc
    by (Some w) there is =
        let same : w.id ≡ id = cc in
        append_assoc out (output.Reply id r ∷ []) (refused_from waiting (k + 1) r)
        ∙ ap (λ (i : ℕ). out ++ output.Reply i r ∷ refused_from waiting (k + 1) r) (sym same)
        ∙ ap (λ (more : List Output). out ++ more) (sym (refused-cons waiting k w r inside there)) ∙ rest

-- somebody waits at each place of the line
pub waits_there : (waiting : List Waiting) (k : ℕ) (P : Type 0) → k < length waiting
    → option_map (λ (w : Waiting). w.id) (slice_get waiting k) ≡ None → P
waits_there waiting k P inside none = by (slice_get waiting k) none (got waiting k inside)
  where
    got : (those : List Waiting) (at : ℕ) → at < length those → IsSome (slice_get those at)
    got those at within = ap is_some (slice_get-get_or those at (record { id = 0; call = [] }) within)

    by : (there : Option Waiting) → option_map (λ (w : Waiting). w.id) there ≡ None → IsSome there → P
    by None is some = absurd cc
    by (Some w) is some = absurd cc
