-- What a step of one server of a running cell tells, and what it leaves.
use Rattle.std.proofs.Common.{◌≡◌, ◌≢◌, inr, ◌<◌, ◌≤◌, ◌+◌, ℕ, zero, suc, Bool, false, Option, Some, None, Ok, List, [], ◌∷◌, ◌++◌, length, replicate, map, set}
use Rattle.std.proofs.Common.{refl, sym, ap, subst, ◌∙◌, arith}
use Rattle.std.specs.List.{AllByRecursion}
use Rattle.std.specs.Prelude.{slice_get}
use Rattle.std.proofs.lemmas.List.{length-append}
use Rattle.disk_base.specs.declared.disks.Disk.{Ghosts}
use Rattle.ubik_calls.specs.declared.packets.Packet.{Packet}
use Rattle.cell_model.specs.World.{Site as ModelSite, Event, SiteHappened, happened_at, packets_of, seen_from}
use Rattle.cell_runs.specs.declared.endings.Ending.{Ending}
use Rattle.cell_runs.specs.declared.limits.TheConstants.{MAX_PACKETS}
use Rattle.cell_runs.specs.ScriptDatabase.{ScriptDatabase}
use Rattle.cell_runs.specs.Script.{Armed, Cell, cell_after, Choice, IsHeard, Run_or_why, Within, within, bytes_of, happened, Choices}
use Rattle.cell_runs.specs.Trace.{TraceItem, Tells, trace, fault_count}
use Rattle.cell_sites.specs.declared.cells.OpenCell.{OpenCell}
use Rattle.cell_sites.specs.declared.sites.Site.{Site}
use Rattle.cell_sites.specs.Disks.{Held, held, IsReadBy, AreReadBy, AreRises}
use Rattle.cell_sites.specs.Counts.{HoldRun}
use Rattle.cell_sites.specs.Sites.{AreArmed, site_disk, helds, AreSitesOf, IsSiteOf, IsModelledBy}
use Rattle.cell_sites.specs.Telling.{Telling, TellingRun, told_of}
use Rattle.cell_sites.specs.Told.{CellTold, IsShort}
use Rattle.cell_sites.specs.Traffic.{Traffic, sent_all}
use Rattle.cell_sites.proofs.AtPlace.{sites_set}
use Rattle.cell_sites.proofs.Counting.{AreMoved, hold_short}
use Rattle.cell_sites.proofs.Happening.{with_armed}
use Rattle.cell_sites.proofs.Agreeing.{AreMarks, agrees, few_faults, seen}

-- ---- disks

module _ {D V : Type 0} (g : Ghosts D) where
  -- what the disk of a site reads as
  abbrev pub held_at : Site D V g → Held
  held_at site = held g (site_disk site)

  pub rises_set : (items : List TraceItem) (p k : ℕ) (sites : List (Site D V g)) (site later : Site D V g) → slice_get sites k ≡ Some site
      → (held_at site).faults + fault_count (p + k) items ≤ (held_at later).faults → ((j : ℕ) → j ≢ p + k → fault_count j items ≡ 0)
      → AreRises p items (map held_at sites) (map held_at (set sites k later))
  rises_set items p k [] site later there rises others = cc
  rises_set items p zero (x ∷ sites) site later there rises others =
      let same : x ≡ site = cc in
      let here : p + 0 ≡ p = omega arith in
      let first : (held_at x).faults ≡ (held_at site).faults = ap (λ (s : Site D V g). (held_at s).faults) same in
      let count : fault_count (p + 0) items ≡ fault_count p items = ap (λ (n : ℕ). fault_count n items) here in
      (omega (arith, rises, first, count), rest (p + 1) sites (omega arith))
    where
      rest : (q : ℕ) (more : List (Site D V g)) → p < q → AreRises q items (map held_at more) (map held_at more)
      rest q [] past = tt
      rest q (s ∷ more) past = (let none = others q (λ e. omega (arith, e)) in omega (arith, none), rest (q + 1) more (omega arith))
  rises_set items p (suc k) (x ∷ sites) site later there rises others =
      let here : p + suc k ≡ p + 1 + k = omega arith in
      let none = others p (λ e. omega (arith, e)) in
      let count : fault_count (p + suc k) items ≡ fault_count (p + 1 + k) items = ap (λ (n : ℕ). fault_count n items) here in (
        omega (arith, none),
        rises_set items (p + 1) k sites site later there (omega (arith, rises, count)) (λ j other. others j (λ e. other (e ∙ here))),
      )

  -- a site that became another one moves its disk alone
  pub moved_set : (R : ℕ → Held → Held → Type 0) (p k : ℕ) (sites : List (Site D V g)) (site later : Site D V g)
      → slice_get sites k ≡ Some site
      → R (p + k) (held_at site) (held_at later) → ((j : ℕ) (x : Held) → j ≢ p + k → R j x x)
      → AreMoved R p (map held_at sites) (map held_at (set sites k later))
  moved_set R p k [] site later there one others = cc
  moved_set R p zero (x ∷ sites) site later there one others =
      let same : site ≡ x = cc in
      let here : p + 0 ≡ p = omega arith in (
        subst (λ (y : Site D V g). R p (held_at y) (held_at later)) same (subst (λ (n : ℕ). R n (held_at site) (held_at later)) here one),
        rest (p + 1) sites
            (omega arith),
      )
    where
      rest : (q : ℕ) (more : List (Site D V g)) → p < q → AreMoved R q (map held_at more) (map held_at more)
      rest q [] past = tt
      rest q (s ∷ more) past = (others q (held_at s) (λ e. omega (arith, e)), rest (q + 1) more (omega arith))
  moved_set R p (suc k) (x ∷ sites) site later there one others =
      let here : p + suc k ≡ p + 1 + k = omega arith in (
        others p (held_at x) (λ e. omega (arith, e)),
        moved_set R (p + 1) k sites site later there (subst (λ (n : ℕ). R n (held_at site) (held_at later)) here one)
            (λ j y other. others j y (λ e. other (e ∙ here))),
      )

  pub reads_set : (ss : List ModelSite) (sites : List (Site D V g)) (k : ℕ) (s : ModelSite) (later : Site D V g)
      → AreReadBy ss (map held_at sites)
      → slice_get ss k ≡ Some s → IsReadBy s (held_at later) → AreReadBy ss (map held_at (set sites k later))
  reads_set [] sites k s later read there is = cc
  reads_set (x ∷ ss) [] k s later read there is = absurd read
  reads_set (x ∷ ss) (y ∷ sites) zero s later read there is =
      let same : s ≡ x = cc in (subst (λ (z : ModelSite). IsReadBy z (held_at later)) same is, read.1)
  reads_set (x ∷ ss) (y ∷ sites) (suc k) s later read there is = (read.0, reads_set ss sites k s later read.1 there is)

  pub reads_both : (ss : List ModelSite) (sites : List (Site D V g)) (k : ℕ) (s : ModelSite) (later : Site D V g)
      → AreReadBy ss (map held_at sites)
      → IsReadBy s (held_at later) → AreReadBy (set ss k s) (map held_at (set sites k later))
  reads_both [] [] k s later read is = tt
  reads_both [] (y ∷ sites) k s later read is = absurd read
  reads_both (x ∷ ss) [] k s later read is = absurd read
  reads_both (x ∷ ss) (y ∷ sites) zero s later read is = (is, read.1)
  reads_both (x ∷ ss) (y ∷ sites) (suc k) s later read is = (read.0, reads_both ss sites k s later read.1 is)

-- ---- a step

-- a line is run to its end with these choices of its steps
abbrev pub whole_choices : List Choice → Choices
whole_choices choices = record { each = choices; most = MAX_PACKETS }

-- a line of a cell whose disks are armed so
module _ {D V : Type 0} (g : Ghosts D) (script_db : ScriptDatabase) (given : List ℕ) (before after : OpenCell D V g) (c : Cell)
    (stands : IsModelledBy g script_db.database given before c) (k : ℕ) (ev : Event) (h : SiteHappened) (armed : List (Option Armed))
    (run : Choices → Run_or_why) (choices : List Choice)
    (is : run (whole_choices choices) ≡ Ok (happened (with_armed c armed) ev (happened_at c.run.world k
    h)))
    (marks : AreMarks h.marks) (site later : Site D V g) (there : slice_get before.sites.items k ≡ Some site)
    (sites : after.sites.items ≡ set before.sites.items k later)
    (rises : g.faults (site_disk site) + fault_count k (map Tells h.marks) ≤ g.faults
    (site_disk later)) (others : (j : ℕ) → j ≢ k → fault_count j (map Tells h.marks) ≡ 0) where
  -- the cell after it
  abbrev pub cell_then : Cell
  cell_then = cell_after (with_armed c armed) ev (happened_at c.run.world k h)

  -- what is seen
  abbrev told_in : Within
  told_in = within (bytes_of c.run.world.packets) (happened_at c.run.world k h).seen

  start : List ℕ → Telling
  start text = record { text = text; sent = before.packets.sent }

  as_seen : told_in ≡ seen script_db before.hosts.items k before.packets.sent h.shown h.marks
  as_seen = ap (λ (packets : List Packet). within (bytes_of packets) (seen_from k (length packets + 1) h.shown ++ h.marks)) stands.sent

  few : (j : ℕ) → fault_count j told_in.items ≤ fault_count j (map Tells h.marks)
  few j = few_faults k j (bytes_of c.run.world.packets) (length c.run.world.packets + 1) h.shown h.marks marks

  pub causes : AreRises 0 told_in.items (helds g before) (helds g after)
  causes =
      let here = few k in
      subst (λ (l : List (Site D V g)). AreRises 0 told_in.items (helds g before) (map (held_at {V = V} g) l)) (sym sites)
      (rises_set g told_in.items 0 k before.sites.items site later there
      (let first : fault_count (0 + k) told_in.items ≡ fault_count k told_in.items = ap (λ (n : ℕ). fault_count n told_in.items)
      (zero_add k) in omega
      (arith, rises, here, first))
      (λ j other. let none = others j (λ e. other (e ∙ sym (zero_add k))) in let less = few j in omega (arith, none, less)))
    where
      zero_add : (n : ℕ) → 0 + n ≡ n
      zero_add n = omega arith

  -- all was told
  pub whole : AllByRecursion IsHeard choices → (text_before text text_after : List ℕ)
      → told_of script_db before.hosts.items k (record { text = text_before; sent = before.packets.sent }) h.shown ≡ record
      { after = record { text = text; sent = after.packets.sent }; ending = None }
      → text_after ≡ text ++ trace script_db before.hosts.items (map Tells h.marks)
      → after.hosts.items ≡ before.hosts.items → after.packets ≡ sent_all before.packets (packets_of h.shown) → IsSiteOf later h.site
      → AreArmed g after.sites.items armed → HoldRun script_db.database given false cell_then (helds g after)
      → CellTold g script_db given run None before after text_before text_after
  whole heard tb text ta told marked hosts packets stood arms hold =
      let agree = agrees script_db before.hosts.items k (record { text = tb; sent = before.packets.sent }) h.shown h.marks marks in
      let ended : (told_of script_db before.hosts.items k (record { text = tb; sent = before.packets.sent }) h.shown).ending ≡ None = ap
      (λ (r : TellingRun). r.ending) told in
      record {
        choices = whole_choices choices;
        whole = record { most = refl; found = heard };
        ran = happened (with_armed c armed) ev (happened_at c.run.world k h);
        is = is;
        ends = ap (λ (w : Within). w.ending) as_seen ∙ agree.ending ∙ ended;
        cell = record {
          hosts = stands.hosts ∙ sym hosts;
          sites = subst (λ (l : List (Site D V g)). AreSitesOf l (set c.run.world.sites k h.site)) (sym sites)
              (sites_set before.sites.items c.run.world.sites k later h.site stands.sites stood);
          sent = ap (λ (l : List Packet). l ++ packets_of h.shown) stands.sent ∙ sym (ap (λ (t : Traffic). t.sent) packets);
          handed =
              ap (λ (n : ℕ). c.handed ++ replicate n false)
              (let len = length-append c.run.world.packets (packets_of h.shown) in omega (arith, len))
              ∙ ap (λ (l : List Bool). l ++ replicate (length (packets_of h.shown)) false) stands.handed
              ∙ sym (ap (λ (t : Traffic). t.handed) packets);
          armed = arms;
          disks = hold;
        };
        told =
            marked ∙ ap (λ (r : TellingRun). r.after.text ++ trace script_db before.hosts.items (map Tells h.marks)) (sym told)
            ∙ agree.whole ended ∙ ap (λ (w : Within). tb ++ trace script_db before.hosts.items w.items) (sym as_seen);
        causes = causes;
      }

  -- a packet passed a limit
  pub part : AllByRecursion IsHeard choices → (ending : Ending) (text_before text_after : List ℕ) (sent : List Packet)
      → told_of script_db before.hosts.items k (record { text = text_before; sent = before.packets.sent }) h.shown ≡ record
      { after = record { text = text_after; sent = sent }; ending = Some ending }
      → HoldRun script_db.database given false cell_then (helds g after)
      → CellTold g script_db given run (Some ending) before after text_before text_after
  part heard ending tb ta sent told hold =
      let agree = agrees script_db before.hosts.items k (record { text = tb; sent = before.packets.sent }) h.shown h.marks marks in
      let ended : (told_of script_db before.hosts.items k (record { text = tb; sent = before.packets.sent }) h.shown).ending ≡ Some
      ending = ap
      (λ (r : TellingRun). r.ending) told in
      record {
        choices = whole_choices choices;
        whole = record { most = refl; found = heard };
        ran = happened (with_armed c armed) ev (happened_at c.run.world k h);
        is = is;
        ends = ap (λ (w : Within). w.ending) as_seen ∙ agree.ending ∙ ended;
        cell = hold;
        told = ap (λ (r : TellingRun). r.after.text) (sym told) ∙ agree.part ending ended
            ∙ ap (λ (w : Within). tb ++ trace script_db before.hosts.items w.items) (sym as_seen);
        causes = causes;
      }

  -- memory ran out once the step was made
  pub short_after : HoldRun script_db.database given false cell_then (helds g after) → IsShort g script_db.database given run c before after
  short_after hold =
      inr (record {
        choices = whole_choices choices;
        ran = happened (with_armed c armed) ev (happened_at c.run.world k h);
        is = is;
        disks = hold_short script_db.database
            cell_then given (helds g after) hold;
        causes = causes;
      })
