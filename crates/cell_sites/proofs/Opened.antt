-- One more server is opened, until all are.
use Rattle.std.proofs.Common.{if◌then◌else◌, ◌≡◌, ◌≢◌, ◌<◌, ◌≤◌, ◌+◌, ◌++◌, ℕ, zero, suc, Bool, true, false, List, [], ◌∷◌, Vec, length, map, get_or, replicate}
use Rattle.std.proofs.Common.{Some, None, Result, Ok, Err, IsSomeAnd, refl, sym, ap, subst, ◌∙◌, arith}
use Rattle.std.specs.Prelude.{All, OnOk, slice_get}
use Rattle.std.proofs.lemmas.List.{append_assoc, length-map, map-append}
use Rattle.std.proofs.lemmas.Grind.{flat_map-append}
use Rattle.std.proofs.lemmas.List.Elements.{All-nil}
use Rattle.std.specs.declared.alloc.Global.{Global}
use Rattle.db_image.specs.Database.{Database}
use Rattle.disk_base.specs.declared.disks.Disk.{Ghosts}
use Rattle.disk_base.specs.Crash.{IsSettled}
use Rattle.disk_base.specs.Files.{Files, no_files}
use Rattle.disk_base.specs.Stops.{DiskStop}
use Rattle.disk_base.specs.Stops.DiskStop.{Unarmed}
use Rattle.ubik_types.specs.declared.hosts.Host.{Host}
use Rattle.ubik_types.specs.Moment.{IsMoment}
use Rattle.ubik_types.specs.Version.{IsVersion}
use Rattle.ubik_store.specs.Gaps.{IsPlain}
use Rattle.ubik_store.specs.Opening.{OpensIn}
use Rattle.ubik_store.proofs.Plain.{empty_is_plain}
use Rattle.cell_model.specs.Durable.{no_database}
use Rattle.cell_model.specs.Node as model
use Rattle.write_laws.specs.Keeping.{IsCellPacket}
use Rattle.write_laws.specs.Spreads.{WritesSpread}
use Rattle.script_laws.specs.CellRuns.{CellsGoOn}
use Rattle.cell_model.specs.World.{Site as ModelSite, are_near, clocks_of, first_seen, first_site}
use Rattle.cell_script.specs.declared.lines.Kind.{Kind}
use Rattle.cell_runs.specs.Script.{Cell, fails_at, hosts_of, opened_cell}
use Rattle.cell_runs.specs.ScriptDatabase.{ScriptDatabase}
use Rattle.cell_runs.specs.Trace.{TraceItem, Tells, item_text, marks_text, trace}
use Rattle.ubik_node.specs.Disk.{StandsAs}
use Rattle.ubik_node.specs.Node.{up_server}
use Rattle.cell_sites.specs.Counts.{AreCountsFrom, OpensFirst}
use Rattle.cell_sites.specs.Disks.{AreReadBy, AreRises, Held, IsReadBy, all_held, held}
use Rattle.cell_sites.specs.Opened.{AreFirstCounts, ArePartOpened, AreUnarmed, HasRoom, IsAdded, IsOpened, counts_of, opening_items}
use Rattle.cell_sites.specs.OpenedServer.{IsEmptied, OpensDisk, ServerOpens, is_cut_short, opened_marks}
use Rattle.cell_sites.specs.Sites.{AreArmed, AreSitesOf, IsArmedAs, IsModelledBy, IsSiteOf, helds, server_disk, server_node, site_disk}
use Rattle.cell_sites.specs.Sound.{AreSound, IsSoundDisk, IsSoundServer, IsSoundSite, KeepsServer}
use Rattle.cell_sites.specs.Traffic.{Traffic}
use Rattle.cell_sites.specs.declared.cells.OpenCell.{OpenCell}
use Rattle.cell_sites.specs.declared.openings.OpenEnd.{OpenEnd}
use Rattle.cell_sites.specs.declared.openings.OpenEnd.TheVariants as opened
use Rattle.cell_sites.specs.declared.sites.Server.{Server}
use Rattle.cell_sites.specs.declared.sites.Server.TheVariants as server
use Rattle.cell_sites.specs.declared.sites.Site.{Site}
use Rattle.cell_sites.proofs.AtPlace.{sites_clocks, sites_length, sites_push, sound_push}
use Rattle.cell_sites.proofs.Hosts.{length-hosts_of}
use Rattle.cell_sites.proofs.Keeping.{closed_keeps, opened_keeps}
use Rattle.cell_sites.proofs.Near.{near_make, near_same}
use Rattle.cell_sites.proofs.Opening.{choices_of, chosen, heard, items_more, rises_more}
use Rattle.cell_sites.proofs.Opens.{if_told, some_told, told_at}
use Rattle.cell_sites.proofs.Standing.{fresh_stands}

length_snoc : {X : Type 0} (xs : List X) (x : X) → length (xs ++ x ∷ []) ≡ length xs + 1
length_snoc [] x = refl
length_snoc (y ∷ xs) x = let rest = length_snoc xs x in omega (arith, rest)

-- as many servers were opened as it was told of
pub opened_length : {D V : Type 0} {g : Ghosts D} (sites : List (Site D V g)) (n clock : ℕ) (failed : List Bool)
    → AreSitesOf sites (map (first_site n clock) failed)
    → length sites ≡ length failed
opened_length sites n clock failed are =
    sym (sites_length sites (map (first_site n clock) failed) are) ∙ length-map failed (first_site n clock)

-- ---- an empty disk

fresh_plain : IsPlain no_files
fresh_plain = empty_is_plain no_files (refl, refl) (λ _. refl)

-- a server can be opened over it
pub fresh_sound : {D : Type 0} (g : Ghosts D) (disk : D) → g.files disk ≡ Some no_files → IsSettled (g.files disk) (g.may_leave disk)
    → IsSoundDisk g disk
fresh_sound {D} g disk empty settled = record {
  told = some_told (g.files disk) no_files empty;
  settled = settled;
  plain = if_told (g.files disk) no_files IsPlain empty fresh_plain;
}

-- it stands for no database
pub fresh_told : {D : Type 0} (g : Ghosts D) (disk : D) → g.files disk ≡ Some no_files → IsSomeAnd (g.files disk) (StandsAs no_database)
fresh_told g disk empty = told_at (g.files disk) no_files (StandsAs no_database) empty fresh_stands

-- ---- one server

-- it was opened on no database, or stays down and tells so
pub record OneOpened {D V : Type 0} (g : Ghosts D) (db : ScriptDatabase) (hosts : List Host) (me clock : ℕ) (disk : D) (s : Server D V g)
    (text_before text_after : List ℕ) : Type 0 where
  pub fails : Bool
  pub node : server_node s ≡ (first_site (length hosts) clock fails).node
  pub sound : IsSoundServer g (record { hosts = hosts; me = me }) clock s
  pub disk_sound : IsSoundDisk g (server_disk s)
  pub stands : IsSomeAnd (g.files (server_disk s)) (StandsAs no_database)
  pub opening : ℕ
  pub opens : OpensFirst fails opening
  pub steps : g.steps (server_disk s) ≡ g.steps disk + opening
  pub unarmed : g.stop (server_disk s) ≡ Unarmed
  pub cause : g.faults disk + (if fails then 1 else 0) ≤ g.faults (server_disk s)
  pub told : text_after ≡ text_before ++ trace db hosts (map Tells (first_seen me (fails ∷ [])))

-- the calls of an opening over empty files
first_calls : {D : Type 0} (g : Ghosts D) (failed : Bool) (disk after : D) → g.files disk ≡ Some no_files
    → (o : OpensDisk g failed disk after)
    → OpensFirst failed o.rise
first_calls g failed disk after empty o =
    let same : Some o.files ≡ Some no_files = sym o.there ∙ empty in
    let is : o.files ≡ no_files = cc in
    (o.calls, subst (λ (fs : Files). OpensIn fs o.calls) is o.opens, o.rises)

never_down : (halted : Bool) (h : model.HaltedServer) (u : model.Server) → (if halted then model.Halted h else model.Up u) ≡ model.Down → ⊥
never_down true h u same = let never : model.Halted h ≡ model.Down = same in cc
never_down false h u same = let never : model.Up u ≡ model.Down = same in cc

down_is : {D V : Type 0} (g : Ghosts D) (hosts : List Host) (me clock : ℕ) (s : Server D V g) → server_node s ≡ model.Down
    → IsSoundServer g (record { hosts = hosts; me = me }) clock s
down_is g hosts me clock (server.Down disk) is = tt
down_is g hosts me clock (server.Up n) is = absurd (never_down n.store.failed (model.halted_from (up_server n)) (up_server n) is)

module _ {D V : Type 0} (g : Ghosts D) (db : ScriptDatabase) (hosts : List Host) (me clock : ℕ) (disk : D) (s : Server D V g)
    (text_before text_after : List ℕ)
    (empty : g.files disk ≡ Some no_files) (unarmed : g.stop disk ≡ Unarmed) where
  pub one_opened : (end : OpenEnd) → ServerOpens g (record { hosts = hosts; me = me }) clock no_database end disk s
      → end ≢ opened.NoMemory
      → text_after ≡ text_before ++ marks_text (opened_marks me end) → OneOpened g db hosts me clock disk s text_before text_after
  one_opened (opened.Up version) one other text = record {
    fails = false;
    node = one.is.0;
    sound = one.is.2;
    disk_sound = one.sound;
    stands = one.stands;
    opening = one.calls.rise;
    opens = first_calls g false disk (server_disk s) empty one.calls;
    steps = one.calls.is;
    unarmed = one.unarmed unarmed;
    cause = let kept = one.never_falls in omega (arith, kept);
    told = text;
  }
  one_opened opened.StaysDown one other text = record {
    fails = true;
    node = one.is.0;
    sound = down_is g hosts me clock s one.is.0;
    disk_sound = one.sound;
    stands = one.stands;
    opening = one.calls.rise;
    opens = first_calls g true disk (server_disk s) empty one.calls;
    steps = one.calls.is;
    unarmed = one.unarmed unarmed;
    cause = let rose = one.is.1 in omega (arith, rose);
    told = text;
  }
  one_opened opened.NoMemory one other text = absurd (other refl)

-- what it adds, however it ended
rises_short : (failed : Bool) (rise : ℕ) → OpensFirst failed rise → OpensFirst true rise
rises_short true rise opens = opens
rises_short false rise opens = let is = opens.2 in (opens.0, opens.1, omega (arith, is))

pub one_emptied : {D V : Type 0} (g : Ghosts D) (hosts : List Host) (me clock : ℕ) (disk : D) (s : Server D V g) (end : OpenEnd)
    → g.files disk ≡ Some no_files
    → ServerOpens g (record { hosts = hosts; me = me }) clock no_database end disk s → IsEmptied g disk (server_disk s)
one_emptied g hosts me clock disk s end empty one = record {
  never_falls = one.never_falls;
  empty = one.stands;
  settled = one.sound.settled;
  few = (
    one.calls.rise,
    rises_short (is_cut_short end) one.calls.rise
        (first_calls g (is_cut_short end) disk (server_disk s) empty one.calls),
    one.calls.is,
  );
}

-- ---- one more

read_push : (ss : List ModelSite) (disks : List Held) (s : ModelSite) (disk : Held) → AreReadBy ss disks → IsReadBy s disk
    → AreReadBy (ss ++ s ∷ []) (disks ++ disk ∷ [])
read_push [] [] s disk are is = (is, tt)
read_push [] (x ∷ disks) s disk are is = absurd are
read_push (t ∷ ss) [] s disk are is = absurd are
read_push (t ∷ ss) (x ∷ disks) s disk are is = (are.0, read_push ss disks s disk are.1 is)

counts_push : (failed : List Bool) (given : List ℕ) (disks : List Held) (fails : Bool) (before : ℕ) (disk : Held)
    → AreFirstCounts failed given disks
    → (opening : ℕ) × OpensFirst fails opening × (disk.steps ≡ before + opening)
    → AreFirstCounts (failed ++ fails ∷ []) (given ++ before ∷ []) (disks ++ disk ∷ [])
counts_push [] [] [] fails before disk are is = (is, tt)
counts_push [] [] (x ∷ disks) fails before disk are is = absurd are
counts_push [] (b ∷ given) disks fails before disk are is = absurd are
counts_push (f ∷ failed) [] disks fails before disk are is = absurd are
counts_push (f ∷ failed) (b ∷ given) [] fails before disk are is = absurd are
counts_push (f ∷ failed) (b ∷ given) (x ∷ disks) fails before disk are is =
    (are.0, counts_push failed given disks fails before disk are.1 is)

unarmed_push : {D V : Type 0} (g : Ghosts D) (sites : List (Site D V g)) (site : Site D V g) → AreUnarmed g sites
    → g.stop (site_disk site) ≡ Unarmed
    → AreUnarmed g (sites ++ site ∷ [])
unarmed_push g [] site are is = (is, tt)
unarmed_push g (x ∷ sites) site are is = (are.0, unarmed_push g sites site are.1 is)

pub next_opened : {D V : Type 0} (g : Ghosts D) (db : ScriptDatabase) (clock : ℕ) (given : List D) (running : OpenCell D V g)
    (before told after : List ℕ) (disk : D) (s : Server D V g) (sites : Vec (Site D V g) Global) → IsMoment clock
    → sites.items ≡ running.sites.items ++ record
    { clock = clock; server = s } ∷ [] → OneOpened g db running.hosts.items (length running.sites.items) clock disk s told after
    → ArePartOpened g
    db clock given running before told → ArePartOpened g db clock (given ++ disk ∷ []) (record running { sites = sites }) before after
next_opened {D} {V} g db clock given running before told after disk s sites moment pushed one p =
    let items = running.sites.items in
    let site : Site D V g = record { clock = clock; server = s } in
    let first = first_site (length running.hosts.items) clock in
    let failed = p.failed in
    let count = opened_length items (length running.hosts.items) clock failed p.sites in
    let each = p.each in
    let hosts = running.hosts.items in
    let more = map Tells (first_seen (length failed) (one.fails ∷ [])) in
    let now : helds g running ++ held g (server_disk s) ∷ [] ≡ helds g (record running { sites = sites }) =
    sym (ap (map (λ (x : Site D V g). held g (site_disk x))) pushed
    ∙ map-append (λ (x : Site D V g). held g (site_disk x)) items (site ∷ [])) in
    record {
      failed = failed ++ one.fails ∷ [];
      each = let x = length_snoc failed one.fails in let y = length_snoc given disk in omega (arith, x, y, each);
      sites = subst (λ (l : List (Site D V g)). AreSitesOf l (map first (failed ++ one.fails ∷ []))) (sym pushed)
          (subst (λ (l : List ModelSite). AreSitesOf (items ++ site ∷ []) l) (sym (map-append first failed (one.fails ∷ [])))
          (sites_push items (map first failed) site (first one.fails) p.sites (record { clock = refl; node = sym one.node })));
      sound = subst (λ (l : List (Site D V g)). AreSound g hosts 0 clock l) (sym pushed)
          (sound_push g hosts 0 clock items site p.sound
          (subst (λ (n : ℕ). IsSoundSite g (record { hosts = hosts; me = n }) clock site) (omega arith)
          (record { moment = moment; within = omega arith; server = one.sound; disk = one.disk_sound })));
      packets = p.packets;
      outputs = p.outputs;
      calls = p.calls;
      told = one.told
          ∙ ap (λ (n : ℕ). told ++ trace db hosts (map Tells (first_seen n (one.fails ∷ [])))) count
          ∙ ap (λ (l : List ℕ). l ++ trace db hosts more) p.told
          ∙ append_assoc before (trace db hosts (opening_items failed)) (trace db hosts more)
          ∙ ap (λ (l : List ℕ). before ++ l) (sym (flat_map-append (item_text db hosts) (opening_items failed) more))
          ∙ ap (λ (l : List TraceItem). before ++ trace db hosts l) (sym (items_more failed one.fails));
      causes =
          subst (λ (l : List Held). AreRises 0 (opening_items (failed ++ one.fails ∷ [])) l (helds g (record running { sites = sites })))
          (sym (map-append (held g) given (disk ∷ [])))
          (subst (λ (l : List Held). AreRises 0 (opening_items (failed ++ one.fails ∷ [])) (all_held g given ++ held g disk ∷ []) l) now
          (rises_more failed one.fails (all_held g given) (helds g running) (held g disk) (held g (server_disk s))
          (each ∙ sym (length-map given (held g))) p.causes one.cause));
      read = subst (λ (l : List Held). AreReadBy (map first (failed ++ one.fails ∷ [])) l) now
          (subst (λ (l : List ModelSite). AreReadBy l (helds g running ++ held g (server_disk s) ∷ []))
          (sym (map-append first failed (one.fails ∷ [])))
          (read_push (map first failed) (helds g running) (first one.fails) (held g (server_disk s)) p.read one.stands));
      counts = subst (λ (l : List Held). AreFirstCounts (failed ++ one.fails ∷ []) (counts_of g (given ++ disk ∷ [])) l) now
          (subst (λ (l : List ℕ). AreFirstCounts (failed ++ one.fails ∷ []) l (helds g running ++ held g (server_disk s) ∷ []))
          (sym (map-append g.steps given (disk ∷ [])))
          (counts_push failed (counts_of g given) (helds g running) one.fails (g.steps disk) (held g (server_disk s)) p.counts
          (one.opening, one.opens, one.steps)));
      unarmed = subst (λ (l : List (Site D V g)). AreUnarmed g l) (sym pushed) (unarmed_push g items site p.unarmed one.unarmed);
      blocks = p.blocks;
    }

pub next_added : {D V : Type 0} (g : Ghosts D) (clock : ℕ) (running : OpenCell D V g) (disk : D) (s : Server D V g)
    (sites : Vec (Site D V g) Global)
    → sites.items ≡ running.sites.items ++ record { clock = clock; server = s } ∷ [] → IsEmptied g disk (server_disk s)
    → IsAdded g disk running (record running { sites = sites })
next_added {D} {V} g clock running disk s sites pushed kept =
    record {
      kept = server_disk s;
      disks = ap (map (λ (x : Site D V g). site_disk x)) pushed ∙ map-append (λ (x : Site D V g). site_disk x) running.sites.items
          (record { clock = clock; server = s } ∷ []);
      emptied = kept;
    }

-- the same where hosts and place are those that were handed over, and the call did not fail
pub next_opened_at : {D V T E : Type 0} (r : Result T E) (g : Ghosts D) (db : ScriptDatabase) (clock : ℕ) (running : OpenCell D V g)
    (told after : List ℕ) (disk : D) (s : Server D V g) (end : OpenEnd) (sites : Vec (Site D V g) Global) (hosts : List Host) (me : ℕ)
    → hosts ≡ running.hosts.items
    → me ≡ length running.sites.items → IsMoment clock → sites.items ≡ running.sites.items ++ record { clock = clock; server = s } ∷ []
    → g.files disk ≡ Some no_files → g.stop disk ≡ Unarmed → ServerOpens g (record { hosts = hosts; me = me }) clock no_database end disk s
    → OnOk r ((end ≢ opened.NoMemory) × (after ≡ told ++ marks_text (opened_marks me end)))
    → OnOk r ((given : List D) (before : List ℕ) → ArePartOpened g db clock given running before told
    → ArePartOpened g db clock (given ++ disk ∷ []) (record running { sites = sites }) before after)
next_opened_at (Err e) g db clock running told after disk s end sites hosts me same place moment pushed empty unarmed one tells = tt
next_opened_at {D} {V} (Ok x) g db clock running told after disk s end sites hosts me same place moment pushed empty unarmed one tells =
    λ given before p.
    next_opened g db clock given running before told after disk s sites moment pushed
    (subst (λ (n : ℕ). OneOpened g db running.hosts.items n clock disk s told after) place
    (subst (λ (l : List Host). OneOpened g db l me clock disk s told after) same
    (one_opened g db hosts me clock disk s told after empty unarmed end one tells.0 tells.1))) p

-- ---- all of them

first_version : IsVersion no_database.version
first_version = record { epoch = omega arith; counter = omega arith }

-- a server that was just opened takes writes, where it does not stay down
module _ {D V : Type 0} {g : Ghosts D} (db : Database) (hosts : List Host) (calls : List (List ℕ)) (law : WritesSpread) (clock : ℕ) where
  one_keeps : (failed : Bool) (site : Site D V g) → IsSiteOf site (first_site (length hosts) clock failed)
      → KeepsServer db hosts calls site.server
  one_keeps true site is = closed_keeps db hosts calls site.server (sym is.node)
  one_keeps false site is = opened_keeps db hosts calls law no_database clock first_version site.server (sym is.node)

  first_keeps : (sites : List (Site D V g)) (failed : List Bool) (j : ℕ) (site : Site D V g)
      → AreSitesOf sites (map (first_site (length hosts) clock) failed)
      → slice_get sites j ≡ Some site → KeepsServer db hosts calls site.server
  first_keeps [] failed j site are there = cc
  first_keeps (x ∷ sites) [] j site are there = absurd are
  first_keeps (x ∷ sites) (f ∷ failed) zero site are there =
      let same : x ≡ site = cc in subst (λ (y : Site D V g). KeepsServer db hosts calls y.server) same (one_keeps f x are.0)
  first_keeps (x ∷ sites) (f ∷ failed) (suc j) site are there = first_keeps sites failed j site are.1 there

first_clock : (n clock : ℕ) (failed : List Bool) (k : ℕ) → k < length (clocks_of (map (first_site n clock) failed))
    → get_or (clocks_of (map (first_site n clock) failed)) k 0 ≡ clock
first_clock n clock [] k less = absurd (omega arith)
first_clock n clock (fails ∷ failed) zero less = refl
first_clock n clock (fails ∷ failed) (suc k) less = first_clock n clock failed k (omega arith)

-- none is to stop
armed_none : (node : model.Node) (stop : DiskStop) → stop ≡ Unarmed → IsArmedAs node None stop
armed_none model.Down stop is = (refl, is)
armed_none (model.Halted h) stop is = tt
armed_none (model.Up s) stop is = is

all_unarmed : {D V : Type 0} (g : Ghosts D) (sites : List (Site D V g)) → AreUnarmed g sites
    → AreArmed g sites (replicate (length sites) None)
all_unarmed g [] are = tt
all_unarmed g (site ∷ sites) are = (armed_none (server_node site.server) (g.stop (site_disk site)) are.0, all_unarmed g sites are.1)

-- no event was yet
first_counts : (db : Database) (c : Cell) (k : ℕ) (failed : List Bool) (given : List ℕ) (disks : List Held) → c.events ≡ []
    → AreFirstCounts failed given disks
    → AreCountsFrom db c false k failed given disks
first_counts db c k [] [] [] none are = tt
first_counts db c k [] [] (x ∷ disks) none are = absurd are
first_counts db c k [] (b ∷ given) disks none are = absurd are
first_counts db c k (f ∷ failed) [] disks none are = absurd are
first_counts db c k (f ∷ failed) (b ∷ given) [] none are = absurd are
first_counts db c k (f ∷ failed) (b ∷ given) (x ∷ disks) none are = (
  record {
    opening = are.0.0;
    opens = are.0.1;
    rise = 0;
    rises = rw none refl;
    surplus = 0;
    over = refl;
    is = let e = are.0.2 in omega (arith, e);
  },
  first_counts db c (k + 1) failed given disks none are.1,
)

pub all_opened : {D V : Type 0} (g : Ghosts D) (db : ScriptDatabase) (clock : ℕ) (k : Kind) (given : List D) (running : OpenCell D V g)
    (before after : List ℕ) → CellsGoOn → WritesSpread → IsMoment clock → HasRoom running → length given ≡ length running.hosts.items
    → ArePartOpened g db clock given running before after → IsOpened g db clock k given running before after
all_opened {D} {V} g db clock k given running before after law spreads moment room same p =
    let items = running.sites.items in
    let hosts = running.hosts.items in
    let failed = p.failed in
    let n = length given in
    let choices = choices_of failed in
    let is : fails_at n choices ≡ failed = ap (λ (m : ℕ). fails_at m choices) (sym p.each) ∙ chosen failed in
    let size : length (hosts_of n) ≡ length hosts = length-hosts_of n ∙ same in
    let ss = map (first_site (length hosts) clock) failed in
    let count : length items ≡ length hosts = opened_length items (length hosts) clock failed p.sites ∙ p.each ∙ same in
    let some = room.some in
    let few = room.few in
    let near : are_near (clocks_of ss) ≡ true = near_make (clocks_of ss)
    (near_same (clocks_of ss) clock (first_clock (length hosts) clock failed)) in
    let opened_so : IsModelledBy g db.database (counts_of g given) running (opened_cell n clock k failed) = record {
      hosts = ap hosts_of same ∙ sym room.hosts;
      sites = subst (λ (m : ℕ). AreSitesOf items (map (first_site m clock) failed)) (sym size) p.sites;
      sent = ap (λ (t : Traffic). t.sent) (sym p.packets);
      handed = ap (λ (t : Traffic). t.handed) (sym p.packets);
      armed = subst (λ (m : ℕ). AreArmed g items (replicate m None)) (count ∙ sym same) (all_unarmed g items p.unarmed);
      disks = record {
        world = refl;
        read = subst (λ (m : ℕ). AreReadBy (map (first_site m clock) failed) (helds g running)) (sym size) p.read;
        counts = first_counts db.database (opened_cell n clock k failed) 0 failed (counts_of g given) (helds g running) refl p.counts;
      };
    } in
    record {
      choices = choices;
      heard = heard failed;
      stands =
          subst (λ (f : List Bool). IsModelledBy g db.database (counts_of g given) running (opened_cell n clock k f)) (sym is) opened_so;
      sound = record {
        steady = record {
          some = omega (arith, some, count);
          few = omega (arith, few, count);
          hosts = room.hosts ∙ ap hosts_of (sym count);
          sites = p.sound;
          near = ap are_near (sym (sites_clocks items ss p.sites)) ∙ near;
          told = p.outputs;
        };
        keeps = record {
          servers = λ j site there.
              first_keeps db.database hosts running.calls spreads clock items failed j site p.sites there;
          packets = subst (λ (t : Traffic). All (IsCellPacket hosts) t.sent) (sym p.packets) (All-nil (IsCellPacket hosts));
        };
        calls = ap length p.calls;
        run = record {
          given = counts_of g given;
          cell = opened_cell n clock k failed;
          stands = opened_so;
          run = law.opened db.database 0 n clock k failed (omega (arith, some, same)) (omega (arith, few, same)) moment p.each;
        };
        blocks = p.blocks;
      };
      told = subst (λ (f : List Bool). after ≡ before ++ trace db hosts (opening_items f)) (sym is) p.told;
      causes = subst (λ (f : List Bool). AreRises 0 (opening_items f) (all_held g given) (helds g running)) (sym is) p.causes;
    }
