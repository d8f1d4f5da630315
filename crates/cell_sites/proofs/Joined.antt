-- A step of a server and what was told of it, joined: what a step does in a running cell.
use Rattle.std.proofs.Common.{if◌then◌else◌, ◌≡◌, ◌≢◌, ◌⊎◌, inl, inr, ◌≤◌, ◌+◌, ℕ, Bool, true, false, Option, Some, None, Ok, List, [], ◌∷◌, ◌++◌, length, map, set, refl, sym}
use Rattle.std.proofs.Common.{ap, subst, ◌∙◌, arith}
use Rattle.std.specs.Prelude.{All, IsSomeAnd, filter_map}
use Rattle.std.specs.List.{cons_option}
use Rattle.std.proofs.lemmas.Bool.{false≢true}
use Rattle.std.proofs.lemmas.List.{append-nil, length-set}
use Rattle.std.proofs.lemmas.List.Elements.{All-nil, All-cons, All-head, All-tail}
use Rattle.disk_base.specs.declared.disks.Disk.{Ghosts}
use Rattle.disk_base.specs.Files.{Files}
use Rattle.ubik_types.specs.declared.hosts.Host.{Host}
use Rattle.ubik_calls.specs.declared.packets.Packet.{Packet}
use Rattle.ubik_calls.specs.declared.replies.Reply.TheVariants as reply
use Rattle.cell_model.specs.declared.events.NodeEvent.{NodeEvent}
use Rattle.cell_model.specs.declared.events.NodeEvent.TheVariants as event
use Rattle.cell_model.specs.declared.events.Output.{Output}
use Rattle.cell_model.specs.declared.events.Output.TheVariants as output
use Rattle.cell_model.specs.Node as model
use Rattle.cell_model.specs.NodeRule.{refusals, step_of}
use Rattle.cell_model.specs.Step.{Evaluation, Shown, outputs_of}
use Rattle.cell_model.specs.World.{Trigger, Happened, Happening, happened_at, occasion, packet_in, packet_of, packets_of}
use Rattle.cell_runs.specs.declared.endings.Ending.{Ending}
use Rattle.cell_runs.specs.ScriptDatabase.{ScriptDatabase}
use Rattle.cell_runs.specs.Script.{Cell, Run_or_why, cell_after, first_choice, stepped, Choices}
use Rattle.cell_runs.specs.Trace.{Tells, fault_count, mark_text, trace}
use Rattle.cell_runs.specs.declared.traces.Mark.TheVariants as mark
use Rattle.write_laws.specs.Keeping.{IsBrought, IsCellPacket, IsKeeping}
use Rattle.write_laws.specs.Lines.{unanswered}
use Rattle.write_laws.specs.Memory.{AllFound}
use Rattle.write_laws.specs.Spreads.{WritesSpread}
use Rattle.ubik_node.specs.declared.nodes.StepEnd.{StepEnd}
use Rattle.ubik_node.specs.declared.nodes.StepEnd.TheVariants.{Done, Halted, NoMemory}
use Rattle.ubik_node.specs.Disk.{StandsAs}
use Rattle.ubik_node.specs.Node.{Calls, Steps, node_of, up_server}
use Rattle.cell_sites.specs.declared.cells.OpenCell.{OpenCell}
use Rattle.cell_sites.specs.declared.sites.Server.{Server}
use Rattle.cell_sites.specs.declared.sites.Server.TheVariants.{Down, Up}
use Rattle.cell_sites.specs.declared.sites.Site.{Site}
use Rattle.cell_sites.specs.declared.steps.SiteEnd.{SiteEnd}
use Rattle.cell_sites.specs.declared.steps.SiteEnd.TheVariants as ended
use Rattle.cell_sites.specs.Counts.{HoldRun, IsRiseIn}
use Rattle.cell_sites.specs.Disks.{IsReadBy, AreRises, held}
use Rattle.cell_sites.specs.Sites.{AreArmed, IsModelledBy, helds, server_disk}
use Rattle.cell_sites.specs.Calls.{AllStandUnder, AnswersOf, AsksOf}
use Rattle.cell_sites.specs.Sound.{IsSteady, Keeps, KeepsNode, KeepsServer}
use Rattle.cell_sites.specs.Stepped.{Becomes, IsMade, NodeStepped, SiteStepped, member_at, up_site}
use Rattle.cell_sites.specs.Telling.{IsNotShort, MayBeTold, WholeTold, halt_marks, told_of}
use Rattle.cell_sites.specs.Told.{CellTold, IsShort}
use Rattle.cell_sites.specs.Traffic.{Traffic, sent_all}
use Rattle.cell_sites.proofs.Agreeing.{AreMarks}
use Rattle.cell_sites.proofs.Answering.{line_stands}
use Rattle.cell_sites.proofs.AtPlace.{IsSiteAt, site_at}
use Rattle.cell_sites.proofs.Counting.{hold_more, hold_short, hold_still}
use Rattle.cell_sites.proofs.Ended.{faults_made, stays_sound}
use Rattle.cell_sites.proofs.Happening.{with_armed}
use Rattle.cell_sites.proofs.Keeping.{as_keeps, down_keeps, keeps_set, up_keeps}
use Rattle.cell_sites.proofs.Leading.{step_is, up_keeping, up_line}
use Rattle.cell_sites.proofs.Made.{Laws, StepMade, done_by, end_marks, made_fault, made_rested, made_stop, made_whole, marks_others}
use Rattle.cell_sites.proofs.Nodes.{IsShortStep, halts, is_up, short_step}
use Rattle.cell_sites.proofs.Reading.{read_at}
use Rattle.cell_sites.proofs.Running.{held_at, moved_set, part, reads_both, reads_set, rises_set, short_after, whole}
use Rattle.cell_sites.proofs.Soundly.{IsHere, here, sound_after}

-- ---- outputs

-- the packets among outputs are those among what is shown
pub packets_in : (shown : List Shown) → filter_map packet_in (outputs_of shown) ≡ packets_of shown
packets_in [] = refl
packets_in (one ∷ shown) = ap (λ (l : List Packet). cons_option (packet_of one) l) (packets_in shown)

-- where packets are of the cell, outputs may be told
may_tell : WritesSpread → (o : Output) (hosts : List Host) (more : List Packet)
    → All (IsCellPacket hosts) (cons_option (packet_in o) more) → MayBeTold o
may_tell law (output.Send p) hosts more sends = (law.whole hosts p (All-head (IsCellPacket hosts) p more sends)).short
may_tell law (output.Reply id r) hosts more sends = tt
may_tell law (output.Announce version) hosts more sends = tt

later_sends : (o : Option Packet) (hosts : List Host) (more : List Packet) → All (IsCellPacket hosts) (cons_option o more)
    → All (IsCellPacket hosts)
    more
later_sends None hosts more sends = sends
later_sends (Some p) hosts more sends = All-tail (IsCellPacket hosts) p more sends

pub all_may_tell : WritesSpread → (out : List Output) (hosts : List Host) → All (IsCellPacket hosts) (filter_map packet_in out)
    → All MayBeTold out
all_may_tell law [] hosts sends = All-nil _
all_may_tell law (o ∷ out) hosts sends =
    All-cons MayBeTold o out (may_tell law o hosts (filter_map packet_in out) sends)
    (all_may_tell law out hosts (later_sends (packet_in o) hosts (filter_map packet_in out) sends))

-- where no output is for want of memory, no reply that is shown is
found_reply : (o : Output) (e : Option Evaluation) (shown : List Shown) → IsNotShort o → AllFound shown
    → AllFound (record { output = o; evaluation = e } ∷ shown)
found_reply (output.Send p) e shown found rest = rest
found_reply (output.Announce version) e shown found rest = rest
found_reply (output.Reply id (reply.Ok answer)) e shown found rest = (refl, rest)
found_reply (output.Reply id (reply.Rule number)) e shown found rest = (refl, rest)
found_reply (output.Reply id (reply.NoQuorum now until phase applied)) e shown found rest = (refl, rest)
found_reply (output.Reply id (reply.NotSync host heard)) e shown found rest = (refl, rest)
found_reply (output.Reply id (reply.LineFull holder)) e shown found rest = (refl, rest)
found_reply (output.Reply id (reply.TooLarge bytes)) e shown found rest = (refl, rest)
found_reply (output.Reply id reply.Malformed) e shown found rest = (refl, rest)
found_reply (output.Reply id reply.DiskFault) e shown found rest = (refl, rest)
found_reply (output.Reply id (reply.BadRecord at)) e shown found rest = (refl, rest)
found_reply (output.Reply id reply.NoMemory) e shown found rest = absurd found

found_shown : (shown : List Shown) → All IsNotShort (outputs_of shown) → AllFound shown
found_shown [] found = tt
found_shown (one ∷ shown) found =
    found_reply one.output one.evaluation shown (All-head IsNotShort one.output (outputs_of shown) found)
    (found_shown shown (All-tail IsNotShort one.output (outputs_of shown) found))

-- ---- marks

are_marks : (k : ℕ) (end : SiteEnd) → AreMarks (end_marks k end)
are_marks k ended.Made = tt
are_marks k ended.Halts = tt
are_marks k ended.Stops = tt
are_marks k ended.NoMemory = tt

-- a step that is told by its outputs and whether the server was halted in it
abbrev pub Tells_halt : ℕ → SiteEnd → Bool → Type 0
Tells_halt k end halts = halt_marks k halts ≡ end_marks k end

pub tells_made : (k : ℕ) (end : SiteEnd) → end ≡ ended.Made → Tells_halt k end false
tells_made k end is = sym (ap (end_marks k) is)

pub tells_halts : (k : ℕ) (end : SiteEnd) → end ≡ ended.Halts → Tells_halt k end true
tells_halts k end is = sym (ap (end_marks k) is)

-- a step that ended otherwise found memory
pub found_made : (end : SiteEnd) → end ≡ ended.Made → end ≢ ended.NoMemory
found_made end is short = let never : ended.Made ≡ ended.NoMemory = sym is ∙ short in cc

pub found_halts : (end : SiteEnd) → end ≡ ended.Halts → end ≢ ended.NoMemory
found_halts end is short = let never : ended.Halts ≡ ended.NoMemory = sym is ∙ short in cc

module _ {D V : Type 0} (g : Ghosts D) (script_db : ScriptDatabase) (before mid after : OpenCell D V g) (law : Laws) (k : ℕ)
    (e : NodeEvent) (end : SiteEnd) (bound : ℕ) (sound : IsSteady g bound before) (keeps : Keeps script_db.database before)
    (brought : IsBrought (member_at before k) e) (asks : AsksOf before.calls e)
    (ss : SiteStepped g script_db.database k e end before mid) (hosts : after.hosts.items ≡ mid.hosts.items)
    (sites : after.sites.items ≡ mid.sites.items) where
  at : IsHere g bound before k ss.clock ss.node
  at = here g bound before k ss.clock ss.node sound ss.there

  -- the site after the step
  abbrev pub later_site : Site D V g
  later_site = record { clock = ss.clock; server = ss.server }

  all_sites : after.sites.items ≡ set before.sites.items k later_site
  all_sites = sites ∙ ss.sites

  faults : g.faults ss.node.store.disk + fault_count k (map Tells (end_marks k end)) ≤ g.faults (server_disk ss.server)
  faults =
      faults_made g script_db.database
      (member_at before k) ss.clock e k end ss.node ss.later ss.out ss.server mid.outputs ss.step ss.becomes

  pub rises : AreRises 0 [] (helds g before) (helds g after)
  rises =
      subst (λ (l : List (Site D V g)). AreRises 0 [] (helds g before) (map (held_at {V = V} g) l)) (sym all_sites)
      (rises_set g [] 0 k before.sites.items (up_site ss.clock ss.node) later_site ss.there (let kept = faults in omega (arith, kept))
      (λ j other. refl))

  pub as_many : length after.sites.items ≡ length before.sites.items
  as_many = ap length all_sites ∙ length-set before.sites.items k later_site

  came_short : Steps g script_db.database (member_at before k) NoMemory e ss.clock (node_of ss.node)
      (node_of ss.later) ss.out ss.node.store.disk
      ss.later.store.disk
      → IsShortStep g (node_of ss.node) (node_of ss.later) ss.out ss.node.store.disk ss.later.store.disk
  came_short steps =
      short_step g script_db.database (member_at before k) e ss.clock (node_of ss.node)
      (node_of ss.later) ss.out ss.node.store.disk ss.later.store.disk steps

  -- the packets that are sent are of the cell
  pub all_sent : All (IsCellPacket before.hosts.items) (filter_map packet_in mid.outputs)
  all_sent = by end ss.step ss.becomes
    where
      of_refusals : (x : NodeEvent) → All (IsCellPacket before.hosts.items) (filter_map packet_in (outputs_of (refusals x)))
      of_refusals (event.Packet p) = All-nil _
      of_refusals event.BeaconTurn = All-nil _
      of_refusals event.RecoverTurn = All-nil _
      of_refusals (event.Ask id asked) = All-nil _

      made : (out : List Output) (x y : model.Node) (b a : D) → node_of ss.node ≡ x
          → Steps g script_db.database (member_at before k) Done e ss.clock x y out b a
          → All (IsCellPacket before.hosts.items) (filter_map packet_in out)
      made out model.Down y b a is steps = absurd steps
      made out (model.Halted h) y b a is steps = absurd steps
      made out (model.Up s) y b a is (short, makes) =
          let t = step_of script_db.database (member_at before k) s ss.clock e short in
          let step = step_is script_db.database before k ss.clock ss.node keeps ss.there law.spreads at.me at.moment e brought s is short in
          subst (λ (l : List Packet). All (IsCellPacket before.hosts.items) l)
          (sym (ap (λ (o : List Output). filter_map packet_in o) makes.outputs ∙ packets_in t.shown)) step.packets

      refused : (out : List Output) (x y : model.Node) (b a : D)
          → Steps g script_db.database (member_at before k) Halted e ss.clock x y out b a
          → out ≡ outputs_of (refusals e)
      refused out model.Down y b a steps = absurd steps
      refused out (model.Halted h) y b a steps = steps.1
      refused out (model.Up s) y b a steps = steps.1

      of_refused : (out : List Output) → out ≡ outputs_of (refusals e) → All (IsCellPacket before.hosts.items) (filter_map packet_in out)
      of_refused out is =
          subst (λ (o : List Output). All (IsCellPacket before.hosts.items) (filter_map packet_in o)) (sym is) (of_refusals e)

      of_left : (left : List Output) → mid.outputs ≡ left → All (IsCellPacket before.hosts.items) (filter_map packet_in left)
          → All (IsCellPacket before.hosts.items) (filter_map packet_in mid.outputs)
      of_left left is all = subst (λ (o : List Output). All (IsCellPacket before.hosts.items) (filter_map packet_in o)) (sym is) all

      by : (x : SiteEnd) → NodeStepped g script_db.database (member_at before k) ss.clock e x ss.node ss.later ss.out
          → Becomes g x ss.later ss.out ss.server mid.outputs → All (IsCellPacket before.hosts.items) (filter_map packet_in mid.outputs)
      by ended.Made step becomes = of_left ss.out becomes.1 (ends step.ends)
        where
          ends : (step.end ≡ Done) ⊎ ((step.end ≡ Halted) × (ss.node.store.failed ≡ true))
              → All (IsCellPacket before.hosts.items) (filter_map packet_in ss.out)
          ends (inl done) =
              made ss.out (node_of ss.node) (node_of ss.later) ss.node.store.disk ss.later.store.disk refl
              (subst (λ (x : StepEnd). Steps g script_db.database (member_at before k) x e ss.clock (node_of ss.node)
              (node_of ss.later) ss.out
              ss.node.store.disk ss.later.store.disk) done step.steps)
          ends (inr (halted, was)) =
              of_refused ss.out (refused ss.out (node_of ss.node) (node_of ss.later) ss.node.store.disk ss.later.store.disk
              (subst (λ (x : StepEnd). Steps g script_db.database (member_at before k) x e ss.clock (node_of ss.node)
              (node_of ss.later) ss.out
              ss.node.store.disk ss.later.store.disk) halted step.steps))
      by ended.Halts step becomes =
          of_left ss.out becomes.1
          (of_refused ss.out (refused ss.out (node_of ss.node) (node_of ss.later) ss.node.store.disk step.failed step.steps))
      by ended.Stops step becomes = of_left [] becomes.1 (All-nil _)
      by ended.NoMemory step becomes = of_left ss.out becomes.1 (of_left_none (came_short step.steps).quiet)
        where
          of_left_none : ss.out ≡ [] → All (IsCellPacket before.hosts.items) (filter_map packet_in ss.out)
          of_left_none none = subst (λ (o : List Output). All (IsCellPacket before.hosts.items) (filter_map packet_in o)) (sym none)
              (All-nil _)

  -- where its disk stopped it puts nothing out
  pub stops_quiet : end ≡ ended.Stops → mid.outputs ≡ []
  stops_quiet is = (subst (λ (x : SiteEnd). Becomes g x ss.later ss.out ss.server mid.outputs) is ss.becomes).1

  pub sound_still : after.outputs ≡ [] → (other : ℕ)
      → IsSteady g other before → IsSteady g other after
  sound_still empty other still =
      let kept = stays_sound g script_db.database
      (member_at before k) ss.clock e end ss.node ss.later ss.out ss.server mid.outputs at.disk ss.step
      ss.becomes in
      sound_after g other before after k (up_site ss.clock ss.node) later_site still ss.there refl kept.0 kept.1 all_sites
      (hosts ∙ ss.hosts) empty

  -- the server takes writes still
  server_keeps : KeepsServer script_db.database before.hosts.items before.calls ss.server
  server_keeps = by end ss.step ss.becomes
    where
      as_later : KeepsServer {D = D} {V = V} script_db.database before.hosts.items before.calls (Up ss.later) → ss.server ≡ Up ss.later
          → KeepsServer script_db.database before.hosts.items before.calls ss.server
      as_later keeps is = as_keeps script_db.database before.hosts.items before.calls ss.server (Up ss.later) is keeps

      -- of a halted server nothing is said
      halted_keeps : ss.later.store.failed ≡ true
          → KeepsServer {D = D} {V = V} script_db.database before.hosts.items before.calls (Up ss.later)
      halted_keeps halted =
          up_keeps script_db.database before.hosts.items before.calls ss.later (λ up. absurd (false≢true (sym up ∙ halted)))

      made : (x : model.Node) → node_of ss.node ≡ x
          → Steps g script_db.database (member_at before k) Done e ss.clock x
          (node_of ss.later) ss.out ss.node.store.disk ss.later.store.disk
          → KeepsNode script_db.database before.hosts.items before.calls ss.later
      made model.Down is steps = absurd steps
      made (model.Halted h) is steps = absurd steps
      made (model.Up s) is (short, makes) =
          let t = step_of script_db.database (member_at before k) s ss.clock e short in
          let step = step_is script_db.database before k ss.clock ss.node keeps ss.there law.spreads at.me at.moment e brought s is short in
          let same = (is_up ss.later t.server makes.server).1 in
          let line = line_stands script_db.database before.calls (unanswered s) e t.shown (unanswered t.server)
          (up_line script_db.database before k ss.clock ss.node keeps ss.there s is) asks step.line in
          record {
            takes = subst (IsKeeping script_db.database (length before.hosts.items)) (sym same) step.server;
            line = subst (λ (u : model.Server). AllStandUnder before.calls (unanswered u)) (sym same) line.rest;
          }

      -- a server that stays as it is
      rested : node_of ss.later ≡ node_of ss.node → ss.later.store.failed ≡ false
          → KeepsNode script_db.database before.hosts.items before.calls ss.later
      rested same up =
          let s = up_server ss.later in
          let is : node_of ss.later ≡ model.Up s = ap (λ (b : Bool). if b then model.Halted (model.halted_from s) else model.Up s) up in
          record {
            takes = up_keeping script_db.database before k ss.clock ss.node keeps ss.there s (sym same ∙ is);
            line = up_line script_db.database before k ss.clock ss.node keeps ss.there s (sym same ∙ is);
          }

      by : (x : SiteEnd) → NodeStepped g script_db.database (member_at before k) ss.clock e x ss.node ss.later ss.out
          → Becomes g x ss.later ss.out ss.server mid.outputs → KeepsServer script_db.database before.hosts.items before.calls ss.server
      by ended.Made step becomes = as_later (ends step.ends) becomes.0
        where
          ends : (step.end ≡ Done) ⊎ ((step.end ≡ Halted) × (ss.node.store.failed ≡ true))
              → KeepsServer {D = D} {V = V} script_db.database before.hosts.items before.calls (Up ss.later)
          ends (inl done) =
              up_keeps script_db.database before.hosts.items before.calls ss.later (λ up. made (node_of ss.node) refl
              (subst (λ (x : StepEnd). Steps g script_db.database (member_at before k) x e ss.clock (node_of ss.node)
              (node_of ss.later) ss.out
              ss.node.store.disk ss.later.store.disk) done step.steps))
          ends (inr (halted, was)) =
              halted_keeps (halts g script_db.database (member_at before k) e ss.clock (node_of ss.node) ss.later ss.out ss.node.store.disk
              ss.later.store.disk
              (subst (λ (x : StepEnd). Steps g script_db.database (member_at before k) x e ss.clock (node_of ss.node)
              (node_of ss.later) ss.out
              ss.node.store.disk ss.later.store.disk) halted step.steps))
      by ended.Halts step becomes =
          as_later (halted_keeps
          (halts g script_db.database (member_at before k) e ss.clock (node_of ss.node) ss.later ss.out ss.node.store.disk
          step.failed step.steps)) becomes.0
      by ended.Stops step becomes =
          as_keeps script_db.database before.hosts.items before.calls ss.server (Down becomes.0.0) becomes.0.1
          (down_keeps script_db.database before.hosts.items before.calls becomes.0.0)
      by ended.NoMemory step becomes =
          as_later (up_keeps script_db.database before.hosts.items before.calls ss.later (rested (came_short step.steps).same)) becomes.0

  pub keeps_still : after.packets ≡ sent_all mid.packets (filter_map packet_in mid.outputs) → after.calls ≡ mid.calls
      → Keeps script_db.database after
  keeps_still packets calls =
      keeps_set script_db.database before after keeps (hosts ∙ ss.hosts) k later_site (filter_map packet_in mid.outputs) all_sites
      (calls ∙ ss.calls)
      (packets ∙ ap (λ (t : Traffic). sent_all t (filter_map packet_in mid.outputs)) ss.packets) server_keeps all_sent

  module _ (given : List ℕ) (c : Cell) (stands : IsModelledBy g script_db.database given before c) (trigger : Trigger)
      (o : occasion c.run.world trigger ≡ Some (k, e)) where
    -- the step as a line
    abbrev pub steps_so : Choices → Run_or_why
    steps_so choices = Ok (stepped script_db c (first_choice choices) trigger)

    abbrev pub made_here : (List Bool → Type 0) → Type 0
    made_here H = StepMade g script_db c before k trigger H (end_marks k end) (up_site ss.clock ss.node) later_site mid.outputs

    site : IsSiteAt (up_site {D = D} {V = V} ss.clock ss.node) c.run.world.sites k
    site = site_at before.sites.items c.run.world.sites k (up_site ss.clock ss.node) stands.sites ss.there

    -- what its disk read as
    read : IsReadBy site.s (held g ss.node.store.disk)
    read = read_at g c.run.world.sites before.sites.items k site.s (up_site ss.clock ss.node) stands.disks.read site.there ss.there

    -- A step that was made, as one with replies for want of memory of which this holds; or memory ran out before it was.
    pub data Comes (H : List Bool → Type 0) : Type 0 where
      made : made_here H → Comes H
      rests : end ≡ ended.NoMemory → HoldRun script_db.database given false c (helds g after) → Comes H

    -- a step is also the one with other replies for want of memory
    abbrev Picks : (List Bool → Type 0) → Type 0
    Picks H =
        (s : model.Server) (short : List Bool)
        → mid.outputs ≡ outputs_of (step_of script_db.database (member_at before k) s ss.clock e short).shown
        → (list : List Bool)
        × (step_of script_db.database (member_at before k) s ss.clock e short ≡ step_of script_db.database
        (member_at before k) s ss.clock e list) × H list

    -- the one that it is
    any_pick : Picks (λ list. Unit {0})
    any_pick s short outputs = (short, refl, tt)

    -- where no output is for want of memory, the one in which all was found
    found_pick : All IsNotShort mid.outputs → Picks (λ list. list ≡ [])
    found_pick found s short outputs =
        let t = step_of script_db.database (member_at before k) s ss.clock e short in (
          [],
          law.memory.found script_db.database (member_at before k) s ss.clock e short
              (found_shown t.shown (subst (All IsNotShort) outputs found)),
          refl,
        )

    -- the disks hold what they held
    holds_still : IsReadBy site.s (held g (server_disk ss.server)) → g.steps (server_disk ss.server) ≡ g.steps ss.node.store.disk
        → HoldRun script_db.database given false c (helds g after)
    holds_still is same =
        subst (λ (l : List (Site D V g)). HoldRun script_db.database given false c (map (held_at {V = V} g) l)) (sym all_sites)
        (hold_still script_db.database c given (helds g before) (map (held_at {V = V} g) (set before.sites.items k later_site))
        (reads_set g c.run.world.sites before.sites.items k site.s later_site stands.disks.read site.there is)
        (moved_set g (λ j x y. y.steps ≡ x.steps) 0 k before.sites.items (up_site ss.clock ss.node) later_site ss.there same
        (λ j x other. refl)) stands.disks)

    comes : (H : List Bool → Type 0) → H [] → Picks H → Comes H
    comes H none picks = by end ss.step ss.becomes refl
      where
        as_made : (x : SiteEnd) (server : Server D V g) (left : List Output) → end ≡ x → ss.server ≡ server → mid.outputs ≡ left
            → StepMade g script_db c before k trigger H (end_marks k x) (up_site ss.clock ss.node)
            (record { clock = ss.clock; server = server }) left
            → Comes H
        as_made x server left is same outputs m =
            made (subst (λ (y : SiteEnd). StepMade g script_db c before k trigger H (end_marks k y)
            (up_site ss.clock ss.node) later_site mid.outputs)
            (sym is)
            (subst (λ (y : Server D V g). StepMade g script_db c before k trigger H (end_marks k x) (up_site ss.clock ss.node)
            (record { clock = ss.clock; server = y }) mid.outputs) (sym same)
            (subst (λ (y : List Output). StepMade g script_db c before k trigger H (end_marks k x) (up_site ss.clock ss.node)
            (record { clock = ss.clock; server = server }) y) (sym outputs) m)))

        steps_as : (step : IsMade g script_db.database (member_at before k) ss.clock e ss.node ss.later ss.out) (x : StepEnd) → step.end ≡ x
            → Steps g script_db.database (member_at before k) x e ss.clock (node_of ss.node)
            (node_of ss.later) ss.out ss.node.store.disk ss.later.store.disk
        steps_as step x is =
            subst (λ (y : StepEnd). Steps g script_db.database (member_at before k) y e ss.clock (node_of ss.node)
            (node_of ss.later) ss.out ss.node.store.disk
            ss.later.store.disk) is step.steps

        by : (x : SiteEnd) → NodeStepped g script_db.database (member_at before k) ss.clock e x ss.node ss.later ss.out
            → Becomes g x ss.later ss.out ss.server mid.outputs → end ≡ x → Comes H
        by ended.Made step becomes is = ends step.ends
          where
            ends : (step.end ≡ Done) ⊎ ((step.end ≡ Halted) × (ss.node.store.failed ≡ true)) → Comes H
            ends (inl done) =
                let d = done_by g script_db given before c stands law k e trigger o site.s site.there ss.clock ss.node ss.there
                site.is.clock site.is.node
                at.me at.moment keeps brought asks H none at.sound at.disk read ss.later ss.out ss.node.store.disk ss.later.store.disk
                (steps_as step Done done) in
                let pick = picks d.s d.short (becomes.1 ∙ d.makes.outputs) in
                as_made ended.Made (Up ss.later) ss.out is becomes.0 becomes.1
                (made_whole g script_db given before c stands law k e trigger o site.s site.there ss.clock ss.node ss.there site.is.clock
                site.is.node
                at.me at.moment keeps brought asks H none at.sound at.disk read ss.later ss.out d pick.0 pick.2 pick.1
                (subst (λ (y : StepEnd). Calls g ss.node ss.later y) done step.calls) step.sound)
            ends (inr (halted, was)) =
                as_made ended.Made (Up ss.later) ss.out is becomes.0 becomes.1
                (made_rested g script_db given before c stands law k e trigger o site.s site.there ss.clock ss.node ss.there
                site.is.clock site.is.node
                at.me at.moment keeps brought asks H none at.sound at.disk read ss.later ss.out was (steps_as step Halted halted))
        by ended.Halts step becomes is =
            as_made ended.Halts (Up ss.later) ss.out is becomes.0 becomes.1
            (made_fault g script_db given before c stands law k e trigger o site.s site.there ss.clock ss.node ss.there site.is.clock
            site.is.node at.me
            at.moment keeps brought asks H none at.sound at.disk read ss.out step.failed ss.later.store.disk step.was
            (node_of ss.later) step.steps step.revived
            step.sound.disk.told ss.later refl refl)
        by ended.Stops step becomes is =
            as_made ended.Stops (Down becomes.0.0) [] is becomes.0.1 becomes.1
            (made_stop g script_db given before c stands law k e trigger o site.s site.there ss.clock ss.node ss.there site.is.clock
            site.is.node at.me
            at.moment keeps brought asks H none at.sound at.disk read ss.out ss.later.store.disk becomes.0.0 step.was
            (node_of ss.later) step.steps becomes.0.2
            (becomes.0.2.told (step.calls.1.tells ∙ g.tells_now ss.node.store.disk at.disk.told)) step.calls step.stopped)
        by ended.NoMemory step becomes is =
            let reads = (came_short step.steps).reads in
            let same = reads.files (λ never. never) in
            rests is (holds_still
            (subst (λ (y : Server D V g). IsReadBy site.s (held g (server_disk y))) (sym becomes.0)
            (subst (λ (f : Option Files). IsSomeAnd f (StandsAs site.s.durable)) (sym same) read))
            (ap (λ (y : Server D V g). g.steps (server_disk y)) becomes.0 ∙ reads.steps))

    -- ---- what the step comes to

    -- the cell of the model after it
    abbrev cell_made : (H : List Bool → Type 0) → made_here H → Cell
    cell_made H m = cell_after (with_armed c m.armed) m.ev (happened_at c.run.world k m.h)

    hold_made : (H : List Bool → Type 0) (m : made_here H) → HoldRun script_db.database given false (cell_made H m) (helds g after)
    hold_made H m =
        subst (λ (l : List (Site D V g)). HoldRun script_db.database given false (cell_made H m) (map (held_at {V = V} g) l))
        (sym all_sites)
        (hold_more script_db.database c (cell_made H m) given m.ev (record
        { opening = refl; events = refl; world = ap (λ (h : Happened). h.world) (sym m.happens_so) }) (helds g before)
        (map (held_at {V = V} g) (set before.sites.items k later_site)) stands.disks
        (reads_both g c.run.world.sites before.sites.items k m.h.site later_site stands.disks.read m.reads)
        (moved_set g (λ j x y. (more : ℕ) × IsRiseIn script_db.database c.run.world m.ev j more
        × (y.steps ≡ x.steps + more)) 0 k before.sites.items
        (up_site ss.clock ss.node) later_site ss.there
        (m.rises.0, subst (λ (n : ℕ). IsRiseIn script_db.database c.run.world m.ev n m.rises.0) (zero_add k) m.rises.1, m.rises.2)
        (λ j x other. (0, m.rests j (λ same. other (same ∙ zero_add k)), omega arith))))
      where
        zero_add : (n : ℕ) → n ≡ 0 + n
        zero_add n = omega arith

    seen_marks : (H : List Bool → Type 0) (m : made_here H) → AreMarks m.h.marks
    seen_marks H m = subst AreMarks (sym m.marked) (are_marks k end)

    rises_made : (H : List Bool → Type 0) (m : made_here H)
        → g.faults ss.node.store.disk + fault_count k (map Tells m.h.marks) ≤ g.faults (server_disk ss.server)
    rises_made H m =
        subst (λ (marks : List Happening). g.faults ss.node.store.disk + fault_count k (map Tells marks) ≤ g.faults
        (server_disk ss.server)) (sym m.marked)
        faults

    others_made : (H : List Bool → Type 0) (m : made_here H) (j : ℕ) → j ≢ k → fault_count j (map Tells m.h.marks) ≡ 0
    others_made H m j other = ap (λ (marks : List Happening). fault_count j (map Tells marks)) m.marked ∙ marks_others k j end other

    abbrev Heard : List Bool → Type 0
    Heard list = list ≡ []

    -- all that it shows was told, and what is seen behind that
    all_told : (m : made_here Heard) (tb text ta : List ℕ)
        → told_of script_db before.hosts.items k (record { text = tb; sent = before.packets.sent }) m.h.shown ≡ record
        { after = record { text = text; sent = after.packets.sent }; ending = None }
        → ta ≡ text ++ trace script_db before.hosts.items (map Tells (end_marks k end))
        → after.packets ≡ sent_all mid.packets (filter_map packet_in mid.outputs)
        → CellTold g script_db given steps_so None before after tb ta
    all_told m tb text ta told marked sends =
        whole g script_db given before after c stands k m.ev m.h m.armed steps_so m.choices (ap Ok m.is) (seen_marks Heard m)
        (up_site ss.clock ss.node) later_site
        ss.there all_sites (rises_made Heard m) (others_made Heard m)
        m.heard tb text ta told
        (marked ∙ ap (λ (l : List Happening). text ++ trace script_db before.hosts.items (map Tells l)) (sym m.marked))
        (hosts ∙ ss.hosts)
        (sends ∙ ap (λ (t : Traffic). sent_all t (filter_map packet_in mid.outputs)) ss.packets
        ∙ ap (λ (l : List Packet). sent_all before.packets l)
        (ap (λ (l : List Output). filter_map packet_in l) (sym m.outputs) ∙ packets_in m.h.shown))
        m.stood
        (subst (λ (l : List (Site D V g)). AreArmed g l m.armed) (sym all_sites) m.arms)
        (hold_made Heard m)

    -- the outputs told are those of the model
    pub told_line : (halts : Bool) → Tells_halt k end halts → (text_before text_after : List ℕ)
        → ((shown : List Shown) → outputs_of shown ≡ mid.outputs → All (AnswersOf before.calls) shown
        → WholeTold script_db mid.hosts.items k halts
        (record { text = text_before; sent = mid.packets.sent }) shown text_after after.packets.sent)
        → end ≢ ended.NoMemory → All IsNotShort mid.outputs → after.packets ≡ sent_all mid.packets (filter_map packet_in mid.outputs)
        → CellTold g script_db given steps_so None before after text_before text_after
    told_line halts tells_it tb ta tells other found sends = by (comes Heard refl (found_pick found))
      where
        by : Comes Heard → CellTold g script_db given steps_so None before after tb ta
        by (made m) =
            let at_before : WholeTold script_db before.hosts.items k halts
            (record { text = tb; sent = before.packets.sent }) m.h.shown ta after.packets.sent =
            subst (λ (h : List Host). WholeTold script_db h k halts
            (record { text = tb; sent = before.packets.sent }) m.h.shown ta after.packets.sent) ss.hosts
            (subst (λ (t : Traffic). WholeTold script_db mid.hosts.items k halts
            (record { text = tb; sent = t.sent }) m.h.shown ta after.packets.sent)
            ss.packets (tells m.h.shown m.outputs m.answers)) in
            all_told m tb at_before.text ta at_before.told
            (at_before.marked ∙ ap (λ (l : List Happening). at_before.text ++ trace script_db before.hosts.items (map Tells l)) tells_it)
            sends
        by (rests is hold) = absurd (other is)

    -- its disk stopped, which alone is told
    pub stop_line : end ≡ ended.Stops → (text_before text_after : List ℕ) → text_after ≡ text_before ++ mark_text (mark.Stops k)
        → after.packets ≡ mid.packets
        → CellTold g script_db given steps_so None before after text_before text_after
    stop_line stops tb ta told sends =
        by (comes Heard refl (found_pick (subst (All IsNotShort) (sym none_out) (All-nil IsNotShort))))
      where
        none_out : mid.outputs ≡ []
        none_out = (subst (λ (x : SiteEnd). Becomes g x ss.later ss.out ss.server mid.outputs) stops ss.becomes).1

        none_shown : (shown : List Shown) → outputs_of shown ≡ mid.outputs → shown ≡ []
        none_shown [] is = refl
        none_shown (one ∷ shown) is = let never : one.output ∷ outputs_of shown ≡ [] = is ∙ none_out in cc

        sent : after.packets ≡ sent_all mid.packets (filter_map packet_in mid.outputs)
        sent =
            sends ∙ ap (λ (l : List Packet). record { sent = l; handed = mid.packets.handed }) (sym (append-nil mid.packets.sent))
            ∙ ap (λ (l : List Bool). record { sent = mid.packets.sent ++ []; handed = l }) (sym (append-nil mid.packets.handed))
            ∙ ap (λ (o : List Output). sent_all mid.packets (filter_map packet_in o)) (sym none_out)

        marked : ta ≡ tb ++ trace script_db before.hosts.items (map Tells (end_marks k end))
        marked =
            told ∙ ap (λ (l : List ℕ). tb ++ l) (sym (append-nil (mark_text (mark.Stops k))))
            ∙ ap (λ (x : SiteEnd). tb ++ trace script_db before.hosts.items (map Tells (end_marks k x))) (sym stops)

        by : Comes Heard → CellTold g script_db given steps_so None before after tb ta
        by (made m) =
            all_told m tb tb ta
            (ap (told_of script_db before.hosts.items k (record { text = tb; sent = before.packets.sent })) (none_shown m.h.shown m.outputs)
            ∙ ap (λ (t : Traffic). record { after = record { text = tb; sent = t.sent }; ending = None }) (sym (sends ∙ ss.packets)))
            marked sent
        by (rests is hold) = let never : ended.Stops ≡ ended.NoMemory = sym stops ∙ is in absurd cc

    -- a packet passed a limit
    pub limit_line : (ending : Ending) (text_before text_after : List ℕ)
        → ((shown : List Shown) → outputs_of shown ≡ mid.outputs → All (AnswersOf before.calls) shown
        → told_of script_db mid.hosts.items k (record { text = text_before; sent = mid.packets.sent }) shown ≡ record
        { after = record { text = text_after; sent = after.packets.sent }; ending = Some ending })
        → end ≢ ended.NoMemory → All IsNotShort mid.outputs
        → CellTold g script_db given steps_so (Some ending) before after text_before text_after
    limit_line ending tb ta tells other found = by (comes Heard refl (found_pick found))
      where
        by : Comes Heard → CellTold g script_db given steps_so (Some ending) before after tb ta
        by (made m) =
            let at_before : told_of script_db before.hosts.items k (record { text = tb; sent = before.packets.sent }) m.h.shown ≡ record
            { after = record { text = ta; sent = after.packets.sent }; ending = Some ending } =
            subst (λ (h : List Host). told_of script_db h k (record { text = tb; sent = before.packets.sent }) m.h.shown ≡ record
            { after = record { text = ta; sent = after.packets.sent }; ending = Some ending }) ss.hosts
            (subst (λ (t : Traffic). told_of script_db mid.hosts.items k (record { text = tb; sent = t.sent }) m.h.shown ≡ record
            { after = record { text = ta; sent = after.packets.sent }; ending = Some ending }) ss.packets
            (tells m.h.shown m.outputs m.answers)) in
            part g script_db given before after c stands k m.ev m.h m.armed steps_so m.choices (ap Ok m.is) (seen_marks Heard m)
            (up_site ss.clock ss.node) later_site
            ss.there all_sites (rises_made Heard m) (others_made Heard m)
            m.heard ending tb ta after.packets.sent at_before (hold_made Heard m)
        by (rests is hold) = absurd (other is)

    abbrev Any : List Bool → Type 0
    Any list = Unit {0}

    -- memory ran out
    pub short_line : IsShort g script_db.database given steps_so c before after
    short_line = by (comes Any tt any_pick)
      where
        by : Comes Any → IsShort g script_db.database given steps_so c before after
        by (made m) =
            short_after g script_db given before after c stands k m.ev m.h m.armed steps_so m.choices (ap Ok m.is) (seen_marks Any m)
            (up_site ss.clock ss.node)
            later_site ss.there all_sites (rises_made Any m) (others_made Any m) (hold_made Any m)
        by (rests is hold) = inl (hold_short script_db.database c given (helds g after) hold)
