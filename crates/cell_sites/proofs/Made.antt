-- What the model makes of a step of a server that is up.
use Rattle.std.proofs.Common.{if◌then◌else◌, ◌≡◌, ◌≢◌, ◌⊎◌, inl, inr, ◌<◌, ◌+◌, ℕ, zero, suc, Bool, true, false, Option, Some, None, List, [], ◌∷◌, length, map}
use Rattle.std.proofs.Common.{set, sum, take, get_or, refl, sym, ap, subst, ◌∙◌, arith}
use Rattle.std.specs.List.{AllByRecursion}
use Rattle.std.specs.Prelude.{All, IsSome, IsSomeAnd, slice_get}
use Rattle.std.proofs.lemmas.Bool.{eq-eqb, ne_eqb}
use Rattle.std.proofs.lemmas.List.Elements.{All-nil}
use Rattle.disk_base.specs.declared.disks.Disk.{Ghosts}
use Rattle.disk_base.specs.Stops.{IsStopped, after_changes}
use Rattle.ubik_types.specs.declared.hosts.Host.{Host}
use Rattle.ubik_types.specs.Moment.{IsMoment}
use Rattle.cell_model.specs.declared.events.NodeEvent.{NodeEvent}
use Rattle.cell_model.specs.declared.events.NodeEvent.TheVariants as event
use Rattle.cell_model.specs.declared.events.Output.{Output}
use Rattle.cell_model.specs.Durable.{Durable, Made, durable_after_all}
use Rattle.cell_model.specs.Node as model
use Rattle.cell_model.specs.NodeRule.{step_of, refusals}
use Rattle.cell_model.specs.Step.{Member, Shown, Stepped, cell_size, outputs_of}
use Rattle.cell_model.specs.World.{Site as ModelSite, Trigger, Event, Step, Stop, Fault, Happened, Happening, Halts, Stops, SiteHappened, entries_from}
use Rattle.cell_model.specs.World.{happened_at, happens, halted_step, fault_up, step_up, stop_up, occasion, member, packets_of}
use Rattle.cell_model.proofs.WholeWorld.{step_leads}
use Rattle.cell_runs.specs.ScriptDatabase.{ScriptDatabase}
use Rattle.cell_runs.specs.Script.{Armed, Cell, Choice, armed_at, calls_on_all, counted_on, happened, stepped, choice_of}
use Rattle.cell_runs.specs.Trace.{Tells, fault_count}
use Rattle.write_laws.specs.Keeping.{IsBrought, IsCellPacket}
use Rattle.write_laws.specs.Lines.{unanswered}
use Rattle.write_laws.specs.Memory.{RepliesTellMemory}
use Rattle.write_laws.specs.Spreads.{IsWriteStep, WritesSpread}
use Rattle.ubik_store.specs.Calls.{CallsAtMost}
use Rattle.ubik_node.specs.declared.nodes.Node.{Node}
use Rattle.ubik_node.specs.declared.nodes.StepEnd.TheVariants.{Done, Halted}
use Rattle.ubik_node.specs.Disk.{FailsIn, IsRevived, Serves, StandsAs}
use Rattle.ubik_node.specs.Node.{Calls, Makes, Steps, durable_in, node_of, up_server}
use Rattle.cell_sites.specs.declared.cells.OpenCell.{OpenCell}
use Rattle.cell_sites.specs.declared.sites.Server.TheVariants.{Down}
use Rattle.cell_sites.specs.declared.sites.Site.{Site}
use Rattle.cell_sites.specs.declared.steps.SiteEnd.{SiteEnd}
use Rattle.cell_sites.specs.declared.steps.SiteEnd.TheVariants as ended
use Rattle.cell_sites.specs.Counts.{IsCutShort, IsRiseIn, calls_of}
use Rattle.cell_sites.specs.Disks.{IsReadBy, held}
use Rattle.cell_sites.specs.Sites.{AreArmed, IsArmedAs, IsSiteOf, IsModelledBy, StopsAs, site_disk}
use Rattle.cell_sites.specs.Calls.{AnswersOf, AsksOf}
use Rattle.cell_sites.specs.Sound.{IsSoundDisk, IsSoundNode, Keeps}
use Rattle.cell_sites.specs.Stepped.{StaysSound, member_at, up_site}
use Rattle.cell_sites.proofs.Answering.{line_stands}
use Rattle.cell_sites.proofs.Arming.{armed_here, armed_set, armed_still, counts_on, none_stops, whole_before}
use Rattle.cell_sites.proofs.Counting.{calls_other, calls_own, none_cut, sum_on}
use Rattle.cell_sites.proofs.Happening.{up_happens, halted_happens, fault_happens, stop_happens, fails_after, stepped_fails, stepped_halted, stepped_served}
use Rattle.cell_sites.proofs.Happening.{serves_so, stepped_stops, stops_so, with_armed}
use Rattle.cell_sites.proofs.Later.{AllLater, all_later}
use Rattle.cell_sites.proofs.Leading.{step_is, up_line}
use Rattle.cell_sites.proofs.Plainly.{and_some, make_some}
use Rattle.cell_sites.proofs.Serving.{Failed, FilesAt, failed_in, files_at, one_durable, rise_most, runs_still, served_rise}

-- what is seen behind the outputs of a step
abbrev pub end_marks : ℕ → SiteEnd → List Happening
end_marks k ended.Made = []
end_marks k ended.Halts = Halts k ∷ []
end_marks k ended.Stops = Stops k ∷ []
end_marks k ended.NoMemory = []

-- they tell faults of their server alone
pub marks_others : (k j : ℕ) (end : SiteEnd) → j ≢ k → fault_count j (map Tells (end_marks k end)) ≡ 0
marks_others k j ended.Made other = refl
marks_others k j ended.Halts other = ap (λ (b : Bool). (if b then 1 else 0) + 0) (ne_eqb k j (λ e. other (sym e)))
marks_others k j ended.Stops other = ap (λ (b : Bool). (if b then 1 else 0) + 0) (ne_eqb k j (λ e. other (sym e)))
marks_others k j ended.NoMemory other = refl

-- a stop and a halt tell one
pub marks_one : (k : ℕ) → (fault_count k (map Tells (end_marks k ended.Halts)) ≡ 1)
    × (fault_count k (map Tells (end_marks k ended.Stops)) ≡ 1)
marks_one k = (
  ap (λ (b : Bool). (if b then 1 else 0) + 0) (eq-eqb k k refl),
  ap (λ (b : Bool). (if b then 1 else 0) + 0) (eq-eqb k k refl),
)

-- the laws of servers that take writes
pub record Laws : Type 0 where
  pub spreads : WritesSpread
  pub memory : RepliesTellMemory

pub laws_of : WritesSpread → RepliesTellMemory → Laws
laws_of spreads memory = record { spreads = spreads; memory = memory }

-- The event of the world that a step is, with the choices that bring it, and what it makes of the disk. `H` is said of the replies for want
-- of memory in it, where the disk serves it.
pub record StepMade {D V : Type 0} (g : Ghosts D) (script_db : ScriptDatabase) (c : Cell) (running : OpenCell D V g) (k : ℕ)
    (trigger : Trigger)
    (H : List Bool → Type 0) (marks : List Happening) (before after : Site D V g) (out : List Output) : Type 0 where
  pub ev : Event
  pub h : SiteHappened
  pub choices : List Choice
  pub heard : AllByRecursion (λ (choice : Choice). H choice.short) choices
  pub armed : List (Option Armed)
  pub is : stepped script_db c (choice_of choices) trigger ≡ happened (with_armed c armed) ev (happened_at c.run.world k h)
  pub happens_so : happens script_db.database c.run.world ev ≡ happened_at c.run.world k h
  pub outputs : outputs_of h.shown ≡ out
  pub answers : All (AnswersOf running.calls) h.shown
  pub sends : All (IsCellPacket running.hosts.items) (packets_of h.shown)
  pub stood : IsSiteOf after h.site
  pub marked : h.marks ≡ marks
  pub arms : AreArmed g (set running.sites.items k after) armed
  pub reads : IsReadBy h.site (held g (site_disk after))
  pub rises : (more : ℕ) × IsRiseIn script_db.database c.run.world ev k more
      × (g.steps (site_disk after) ≡ g.steps (site_disk before) + more)
  pub rests : (j : ℕ) → j ≢ k → IsRiseIn script_db.database c.run.world ev j 0

-- a refusal is no Ok, and no packet
refusals_answer : (e : NodeEvent) (calls : List (List ℕ)) → All (AnswersOf calls) (refusals e)
refusals_answer (event.Packet p) calls = All-nil _
refusals_answer event.BeaconTurn calls = All-nil _
refusals_answer event.RecoverTurn calls = All-nil _
refusals_answer (event.Ask id other) calls = λ k d lt. one k d lt
  where
    one : (k : ℕ) (d : Shown) → k < 1 → AnswersOf calls (get_or (refusals (event.Ask id other)) k d)
    one zero d lt = tt
    one (suc k) d lt = absurd (omega arith)

refusals_rest : (e : NodeEvent) (hosts : List Host) → All (IsCellPacket hosts) (packets_of (refusals e))
refusals_rest (event.Packet p) hosts = All-nil _
refusals_rest event.BeaconTurn hosts = All-nil _
refusals_rest event.RecoverTurn hosts = All-nil _
refusals_rest (event.Ask id call) hosts = All-nil _

module _ {D V : Type 0} (g : Ghosts D) (script_db : ScriptDatabase) (given : List ℕ) (before : OpenCell D V g) (c : Cell)
    (stands : IsModelledBy g script_db.database given before c) (law : Laws) (k : ℕ) (e : NodeEvent) (trigger : Trigger)
    (o : occasion c.run.world trigger ≡ Some (k, e)) (site : ModelSite) (there : slice_get c.run.world.sites k ≡ Some site) (clock : ℕ)
    (node : Node D V g) (placed : slice_get before.sites.items k ≡ Some (up_site clock node)) (clocks : site.clock ≡ clock)
    (stood : site.node ≡ node_of node)
    (me : k < length before.hosts.items) (moment : IsMoment clock) (keeps : Keeps script_db.database before)
    (brought : IsBrought (member_at before k) e)
    (asks : AsksOf before.calls e) (H : List Bool → Type 0) (none : H [])
    (was : IsSoundNode g (member_at before k) clock node) (disk : IsSoundDisk g node.store.disk)
    (read : IsReadBy site (held g node.store.disk)) where
  -- the server in its cell, as the model has it
  same_member : member c.run.world k ≡ member_at before k
  same_member = ap (λ (hosts : List Host). record { hosts = hosts; me = k }) stands.hosts

  abbrev made_of : model.Server → List Bool → Stepped
  made_of s short = step_of script_db.database (member_at before k) s clock e short

  -- the step as the model has it
  abbrev pub model_of : model.Server → List Bool → Stepped
  model_of s short = step_of script_db.database (member c.run.world k) s site.clock e short

  model_step : (s : model.Server) (short : List Bool) → model_of s short ≡ made_of s short
  model_step s short =
      ap (λ (m : Member). step_of script_db.database m s site.clock e short) same_member
      ∙ ap (λ (now : ℕ). step_of script_db.database (member_at before k) s now e short) clocks

  step_so : (s : model.Server) → node_of node ≡ model.Up s → (short : List Bool)
      → IsWriteStep script_db.database (member_at before k) s e (made_of s short)
  step_so s up short = step_is script_db.database before k clock node keeps placed law.spreads me moment e brought s up short

  -- each durable call leaves a version that is not the first one
  labels : (s : model.Server) → node_of node ≡ model.Up s → (short : List Bool) → AllLater (model_of s short).calls
  labels s up short =
      subst (λ (t : Stepped). AllLater t.calls) (sym (model_step s short))
      (all_later (durable_in s) (made_of s short).calls (step_so s up short).fits)

  -- the files before the step, and their durable state
  files : (s : model.Server) → node_of node ≡ model.Up s → FilesAt g node s
  files s up = files_at g (member_at before k) clock node s was disk up

  durable_is : (s : model.Server) → node_of node ≡ model.Up s → site.durable ≡ durable_in s
  durable_is s up =
      let at = files s up in
      one_durable at.files site.durable (durable_in s)
      (and_some (g.files node.store.disk) at.files (StandsAs site.durable) at.is read) at.stands

  -- the stop of its disk
  stops : (s : model.Server) → node_of node ≡ model.Up s → StopsAs (armed_at c.armed k) (g.stop node.store.disk)
  stops s up =
      subst (λ (n : model.Node). IsArmedAs n (armed_at c.armed k) (g.stop node.store.disk)) up
      (armed_here g before.sites.items c.armed k (up_site clock node) stands.armed placed)

  -- the entries of the step where it is made whole
  entries_are : (s : model.Server) → node_of node ≡ model.Up s → (short : List Bool) (j : ℕ)
      → calls_of j (happens script_db.database c.run.world (Step trigger short)).entries ≡ calls_of j
      (entries_from k s.version (model_of s short).calls)
  entries_are s up short j =
      ap (λ (h : Happened). calls_of j h.entries) (up_happens script_db.database c.run.world trigger k e site o there short s (stood ∙ up))

  entries_none : (s : model.Server) → node_of node ≡ model.Up s → (short : List Bool) (j : ℕ) → j ≢ k
      → calls_of j (happens script_db.database c.run.world (Step trigger short)).entries ≡ []
  entries_none s up short j other = entries_are s up short j ∙ calls_other j k s.version (model_of s short).calls other

  -- a server that was up, and the step that it made
  pub record DoneBy (later : Node D V g) (out : List Output) (b a : D) : Type 0 where
    pub s : model.Server
    pub short : List Bool
    pub up : node_of node ≡ model.Up s
    pub makes : Makes (made_of s short) (node_of later) out (Serves g (durable_in s) b a)

  pub done_by : (later : Node D V g) (out : List Output) (b a : D)
      → Steps g script_db.database (member_at before k) Done e clock (node_of node) (node_of later) out b a → DoneBy later out b a
  done_by later out b a steps = by (node_of node) refl steps
    where
      by : (x : model.Node) → node_of node ≡ x → Steps g script_db.database (member_at before k) Done e clock x (node_of later) out b a
          → DoneBy later out b a
      by model.Down is steps = absurd steps
      by (model.Halted h) is steps = absurd steps
      by (model.Up s) is (short, makes) = record { s = s; short = short; up = is; makes = makes }

  -- ---- a step that the disk served: it is also the one with these replies for want of memory

  module _ (later : Node D V g) (out : List Output) (done : DoneBy later out node.store.disk later.store.disk) (short : List Bool)
      (holds : H short)
      (same : made_of done.s done.short ≡ made_of done.s short) (calls : Calls g node later Done)
      (sound_later : StaysSound g (member_at before k) clock later) where
    abbrev t : Stepped
    t = model_of done.s short

    t_is : made_of done.s done.short ≡ t
    t_is = same ∙ sym (model_step done.s short)

    later_up : node_of later ≡ model.Up t.server
    later_up = done.makes.server ∙ ap (λ (x : Stepped). model.Up x.server) t_is

    rose : g.steps later.store.disk ≡ g.steps node.store.disk + calls_on_all done.s.version t.calls
    rose =
        served_rise g node done.s later.store.disk t.calls (files done.s done.up) (labels done.s done.up short)
        (subst (λ (x : Stepped). Serves g (durable_in done.s) node.store.disk later.store.disk x.calls) t_is done.makes.disk)

    stop_is : g.stop later.store.disk ≡ after_changes (calls_on_all done.s.version t.calls) (g.stop node.store.disk)
    stop_is =
        let advanced = calls.1.advances in
        let n : advanced.calls ≡ calls_on_all done.s.version t.calls = let is = advanced.steps in omega (arith, is, rose) in
        advanced.stop ∙ ap (λ (m : ℕ). after_changes m (g.stop node.store.disk)) n

    runs : IsStopped (after_changes (calls_on_all done.s.version t.calls) (g.stop node.store.disk)) → ⊥
    runs stopped = by (calls.1.stopped (subst IsStopped (sym stop_is) stopped))
      where
        by : IsStopped (g.stop node.store.disk) ⊎ ((Done ≡ Halted) × (node.store.failed ≡ false)) → ⊥
        by (inl before_it) = (files done.s done.up).runs before_it
        by (inr never) = let is : Done ≡ Halted = never.0 in cc

    -- what it shows answers calls of the cell
    answered : All (AnswersOf before.calls) (made_of done.s short).shown
    answered =
        (line_stands script_db.database before.calls (unanswered done.s) e (made_of done.s short).shown
        (unanswered (made_of done.s short).server)
        (up_line script_db.database before k clock node keeps placed done.s done.up) asks (step_so done.s done.up short).line).answers

    pub made_whole : StepMade g script_db c before k trigger H [] (up_site clock node) (up_site clock later) out
    made_whole =
        let s = done.s in
        let armed = armed_at c.armed k in
        let n = calls_on_all s.version t.calls in
        let at_later = files_at g (member_at before k) clock later t.server sound_later.node sound_later.disk later_up in
        let happened_so = up_happens script_db.database c.run.world trigger k e site o there short s (stood ∙ done.up) in
        record {
          ev = Step trigger short;
          h = step_up k site e s.version t;
          choices = serves_so short ∷ [];
          heard = (holds, tt);
          armed = set c.armed k (counted_on n armed);
          is =
              stepped_served script_db c trigger k e site o there s (stood ∙ done.up) short
              (none_stops s.version t.calls armed (g.stop node.store.disk)
              (stops s done.up) runs)
              ∙ ap (happened (with_armed c (set c.armed k (counted_on n armed))) (Step trigger short)) happened_so;
          happens_so = happened_so;
          outputs = sym (done.makes.outputs ∙ ap (λ (x : Stepped). outputs_of x.shown) t_is);
          answers = subst (λ (x : Stepped). All (AnswersOf before.calls) x.shown) (sym (model_step s short)) answered;
          sends = subst (λ (x : Stepped). All (IsCellPacket before.hosts.items) (packets_of x.shown)) (sym (model_step s short))
              (step_so s done.up short).packets;
          stood = record { clock = clocks; node = sym later_up };
          marked = refl;
          arms = armed_set g before.sites.items c.armed k (up_site clock later) (counted_on n armed) stands.armed
              (subst (λ (x : model.Node). IsArmedAs x (counted_on n armed) (g.stop later.store.disk)) (sym later_up)
              (subst (StopsAs (counted_on n armed)) (sym stop_is) (counts_on armed (g.stop node.store.disk) n (stops s done.up) runs)));
          reads = make_some (g.files later.store.disk) at_later.files (StandsAs (durable_after_all site.durable t.calls)) at_later.is
              (subst (λ (d : Durable). StandsAs d at_later.files)
              (sym (step_leads script_db.database (member c.run.world k) s site.clock e short)
              ∙ ap (λ (d : Durable). durable_after_all d t.calls) (sym (durable_is s done.up)))
              at_later.stands);
          rises = (n, sym (ap sum (entries_are s done.up short k ∙ calls_own k s.version t.calls) ∙ sum_on s.version t.calls), rose);
          rests = λ j other. sym (ap sum (entries_none s done.up short j other));
        }

  -- ---- a step of a server that was halted

  pub made_rested : (later : Node D V g) (out : List Output) → node.store.failed ≡ true
      → Steps g script_db.database (member_at before k) Halted e clock (node_of node) (node_of later) out node.store.disk later.store.disk
      → StepMade g script_db c before k trigger H [] (up_site clock node) (up_site clock later) out
  made_rested later out halts steps =
      let h = model.halted_from (up_server node) in
      let halted : node_of node ≡ model.Halted h = ap (λ (b : Bool). if b then model.Halted h else model.Up (up_server node)) halts in
      let is = subst (λ (x : model.Node). Steps g script_db.database (member_at before k) Halted e clock x
      (node_of later) out node.store.disk later.store.disk)
      halted steps in
      let armed = set c.armed k (counted_on 0 (armed_at c.armed k)) in
      let happened_so = halted_happens script_db.database c.run.world trigger k e site o there [] h (stood ∙ halted) in
      record {
        ev = Step trigger [];
        h = halted_step site e;
        choices = [];
        heard = tt;
        armed = armed;
        is = stepped_halted script_db c trigger k e site o there h (stood ∙ halted)
            ∙ ap (happened (with_armed c armed) (Step trigger [])) happened_so;
        happens_so = happened_so;
        outputs = sym is.1;
        answers = refusals_answer e before.calls;
        sends = refusals_rest e before.hosts.items;
        stood = record { clock = clocks; node = stood ∙ halted ∙ sym is.0 };
        marked = refl;
        arms = armed_set g before.sites.items c.armed k (up_site clock later) (counted_on 0 (armed_at c.armed k)) stands.armed
            (subst (λ (x : model.Node). IsArmedAs x (counted_on 0 (armed_at c.armed k)) (g.stop later.store.disk)) (sym is.0) tt);
        reads = subst (λ (d : D). IsSomeAnd (g.files d) (StandsAs site.durable)) (sym is.2) read;
        rises = (0, sym (ap (λ (x : Happened). sum (calls_of k x.entries)) happened_so), ap g.steps is.2 ∙ omega arith);
        rests = λ j other. sym (ap (λ (x : Happened). sum (calls_of j x.entries)) happened_so);
      }

  -- ---- a step in which the disk failed

  module _ (out : List Output) (failed later : D) (up : node.store.failed ≡ false) (after : model.Node)
      (steps : Steps g script_db.database (member_at before k) Halted e clock (node_of node) after out node.store.disk failed)
      (revived : IsRevived g failed later) (told : IsSome (g.files later)) where
    abbrev pub s : model.Server
    s = up_server node

    is_up_here : node_of node ≡ model.Up s
    is_up_here = ap (λ (b : Bool). if b then model.Halted (model.halted_from s) else model.Up s) up

    pub is_so : Steps g script_db.database (member_at before k) Halted e clock (model.Up s) after out node.store.disk failed
    is_so =
        subst (λ (x : model.Node). Steps g script_db.database (member_at before k) Halted e clock x after out node.store.disk failed)
        is_up_here steps

    -- which of its replies were for want of memory; none of them is seen
    abbrev pub unheard : List Bool
    unheard = is_so.2

    abbrev pub u : Stepped
    u = model_of s unheard

    pub fails : FailsIn g (durable_in s) node.store.disk failed u.calls
    fails = subst (λ (x : Stepped). FailsIn g (durable_in s) node.store.disk failed x.calls) (sym (model_step s unheard)) is_so.3

    so : Failed g s node.store.disk later u.calls fails.whole
    so = failed_in g node s failed later u.calls (files s is_up_here) (labels s is_up_here unheard) fails revived told

    -- how many durable calls took place
    abbrev made : ℕ
    made = if so.took then fails.whole + 1 else fails.whole

    reads_so : IsSomeAnd (g.files later) (StandsAs (durable_after_all site.durable (take made u.calls)))
    reads_so =
        subst (λ (d : Durable). IsSomeAnd (g.files later) (StandsAs (durable_after_all d (take made u.calls))))
        (sym (durable_is s is_up_here)) so.stands

    cut_so : IsCutShort (calls_of k (happens script_db.database c.run.world (Step trigger unheard)).entries) made so.rise
    cut_so =
        subst (λ (l : List ℕ). IsCutShort l made so.rise) (sym (entries_are s is_up_here unheard k ∙ calls_own k s.version u.calls)) so.cut

    cut_none : (j : ℕ) → j ≢ k → IsCutShort (calls_of j (happens script_db.database c.run.world (Step trigger unheard)).entries) made 0
    cut_none j other =
        none_cut (calls_of j (happens script_db.database c.run.world (Step trigger unheard)).entries) made
        (entries_none s is_up_here unheard j other)

    -- without a stop: the server is halted
    pub made_fault : (halted : Node D V g) → halted.store.disk ≡ later → node_of halted ≡ after
        → StepMade g script_db c before k trigger H (end_marks k ended.Halts) (up_site clock node) (up_site clock halted) out
    made_fault halted place node_is =
        let happened_so = fault_happens script_db.database c.run.world trigger k e site o there unheard s made (stood ∙ is_up_here) in
        record {
          ev = Fault trigger unheard made;
          h = fault_up k site e s u made;
          choices = fails_after unheard made ∷ [];
          heard = (none, tt);
          armed = c.armed;
          is = stepped_fails script_db c trigger k e site o there s (stood ∙ is_up_here) unheard made
              ∙ ap (happened c (Fault trigger unheard made)) happened_so;
          happens_so = happened_so;
          outputs = sym is_so.1;
          answers = refusals_answer e before.calls;
          sends = refusals_rest e before.hosts.items;
          stood = record { clock = clocks; node = sym (node_is ∙ is_so.0) };
          marked = refl;
          arms = armed_still g before.sites.items c.armed k (up_site clock halted) stands.armed
              (subst (λ (x : model.Node). IsArmedAs x (armed_at c.armed k) (g.stop halted.store.disk)) (sym (node_is ∙ is_so.0)) tt);
          reads = subst (λ (d : D). IsSomeAnd (g.files d) (StandsAs (durable_after_all site.durable (take made u.calls))))
              (sym place) reads_so;
          rises = (so.rise, cut_so, ap g.steps place ∙ so.steps);
          rests = cut_none;
        }

    -- with a stop: it is down, and shows nothing
    pub made_stop : (calls : (most : ℕ) × CallsAtMost g most node.store.disk failed ((Halted ≡ Halted) × (node.store.failed ≡ false)))
        → IsStopped (g.stop failed)
        → StepMade g script_db c before k trigger H (end_marks k ended.Stops) (up_site clock node)
        (record { clock = clock; server = Down later }) []
    made_stop calls stopped =
        let happened_so = stop_happens script_db.database c.run.world trigger k e site o there unheard s made (stood ∙ is_up_here) in
        let advanced = calls.1.advances in
        let rise_is : advanced.calls ≡ so.rise = let is = advanced.steps in let still = revived.steps in let rose = so.steps in omega
        (arith, is, still, rose) in
        let stop_is : g.stop failed ≡ after_changes so.rise (g.stop node.store.disk) = advanced.stop
        ∙ ap (λ (m : ℕ). after_changes m (g.stop node.store.disk)) rise_is in
        let whole = whole_before s.version u.calls (armed_at c.armed k) (g.stop node.store.disk) fails.whole so.rise (stops s is_up_here)
        (runs_still g node s failed later u.calls (files s is_up_here) (labels s is_up_here unheard) fails)
        (subst IsStopped stop_is stopped)
        (rise_most g node s failed later u.calls (files s is_up_here) (labels s is_up_here unheard) fails so.rise
        (sym revived.steps ∙ so.steps)) in
        record {
          ev = Stop trigger unheard made;
          h = stop_up k site s.version u made;
          choices = stops_so unheard so.took ∷ [];
          heard = (none, tt);
          armed = set c.armed k None;
          is =
              stepped_stops script_db c trigger k e site o there s (stood ∙ is_up_here) unheard so.took fails.whole whole
              ∙ ap (happened (with_armed c (set c.armed k None)) (Stop trigger unheard made)) happened_so;
          happens_so = happened_so;
          outputs = refl;
          answers = All-nil _;
          sends = All-nil _;
          stood = record { clock = clocks; node = refl };
          marked = refl;
          arms = armed_set g before.sites.items c.armed k (record { clock = clock; server = Down later }) None stands.armed
              (refl, revived.unarmed);
          reads = reads_so;
          rises = (so.rise, cut_so, so.steps);
          rests = cut_none;
        }
