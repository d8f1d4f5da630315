-- Packets that are handed over or dropped in a running cell.
use Rattle.std.proofs.Common.{sum, ◌≡◌, inl, inr, ◌<◌, ◌-◌, ℕ, zero, suc, Bool, true, false, Option, Some, None, Ok, List, [], ◌∷◌, ◌++◌, set, refl, sym, ap}
use Rattle.std.proofs.Common.{subst, ◌∙◌, arith}
use Rattle.std.specs.Prelude.{All, slice_get}
use Rattle.std.specs.Option.{option_and_then, option_map}
use Rattle.std.proofs.lemmas.List.{append-nil}
use Rattle.std.proofs.lemmas.Option.{get_or_from_slice_get, slice_get_within}
use Rattle.db_image.specs.Database.{Database}
use Rattle.disk_base.specs.declared.disks.Disk.{Ghosts}
use Rattle.ubik_types.specs.declared.hosts.Host.{Host}
use Rattle.ubik_calls.specs.declared.packets.Packet.{Packet}
use Rattle.cell_model.specs.declared.events.NodeEvent.TheVariants as event
use Rattle.cell_model.specs.NodeRule.{place_of}
use Rattle.write_laws.specs.Keeping.{IsCellPacket}
use Rattle.cell_model.specs.World.{Site as ModelSite, World, Delivery, Step, Lost, Happened, SiteHappened, happened_at, occasion, only_marks}
use Rattle.cell_model.specs.World.{packet_numbered}
use Rattle.cell_model.specs.World as world
use Rattle.cell_runs.specs.declared.endings.Ending.{Ending}
use Rattle.cell_runs.specs.ScriptDatabase.{ScriptDatabase}
use Rattle.cell_runs.specs.Script.{armed_at, cell_after, counted_on, Cell, Run_or_why, first_choice, happened, stepped, Choices}
use Rattle.cell_runs.specs.Trace.{Tells, item_text}
use Rattle.cell_sites.specs.declared.cells.OpenCell.{OpenCell}
use Rattle.cell_sites.specs.declared.sites.Server.TheVariants.{Down}
use Rattle.cell_sites.specs.declared.sites.Site.{Site}
use Rattle.cell_sites.specs.Disks.{AreReadBy}
use Rattle.cell_sites.specs.Places.{IsDownAt}
use Rattle.cell_sites.specs.Counts.{calls_of}
use Rattle.cell_sites.specs.Sent.{no_packet, packet_under}
use Rattle.cell_sites.specs.Sites.{AreArmed, IsModelledBy, helds}
use Rattle.cell_sites.specs.Sound.{IsSteady, Keeps}
use Rattle.cell_sites.specs.Told.{CellTold, IsShort}
use Rattle.cell_sites.specs.Traffic.{Traffic, handed_over}
use Rattle.cell_sites.proofs.AtPlace.{site_at}
use Rattle.cell_sites.proofs.Arming.{armed_here, armed_set}
use Rattle.cell_sites.proofs.Counting.{GoesOn, hold_as, hold_more, moved_same, same_run}
use Rattle.cell_sites.proofs.Happening.{down_happens, stepped_down, with_armed}
use Rattle.cell_sites.proofs.Running.{whole}

-- ---- other packets

-- the cell with other packets
abbrev pub with_packets : {D V : Type 0} {g : Ghosts D} → OpenCell D V g → Traffic → OpenCell D V g
with_packets running p = record running { packets = p }

abbrev pub with_handed : Cell → List Bool → Cell
with_handed c handed = record c { handed = handed }

pub stands_with : {D V : Type 0} {gs : Ghosts D} {database : Database} {given : List ℕ} (running : OpenCell D V gs) (c : Cell)
    (p : Traffic) (handed : List Bool)
    → IsModelledBy gs database given running c → p.sent ≡ running.packets.sent → handed ≡ p.handed
    → IsModelledBy gs database given (with_packets running p) (with_handed c handed)
stands_with running c p handed stands sent is =
    record {
      hosts = stands.hosts;
      sites = stands.sites;
      sent = stands.sent ∙ sym sent;
      handed = is;
      armed = stands.armed;
      disks = hold_as _ c (with_handed c handed) _ false _ (same_run c (with_handed c handed) refl refl refl) stands.disks;
    }

pub sound_with : {D V : Type 0} (g : Ghosts D) (bound : ℕ) (running : OpenCell D V g) (p : Traffic) → IsSteady g bound running
    → IsSteady g bound (with_packets running p)
sound_with g bound running p sound =
    record {
      some = sound.some;
      few = sound.few;
      hosts = sound.hosts;
      sites = sound.sites;
      near = sound.near;
      told = sound.told;
    }

pub keeps_with : {D V : Type 0} {g : Ghosts D} (db : Database) (running : OpenCell D V g) (p : Traffic) → Keeps db running
    → p.sent ≡ running.packets.sent
    → Keeps db (with_packets running p)
keeps_with db running p keeps sent =
    record {
      servers = keeps.servers;
      packets = subst (λ (l : List Packet). All (IsCellPacket running.hosts.items) l) (sym sent) keeps.packets;
    }

-- what is told of the cell with other packets is told of the cell
pub told_before : {D V : Type 0} {given : List ℕ} (g : Ghosts D) (script_db : ScriptDatabase) (running after : OpenCell D V g)
    (p : Traffic) (run : Choices
    → Run_or_why) (ended : Option Ending) (tb ta : List ℕ) → CellTold g script_db given run ended (with_packets running p) after tb ta
    → CellTold g script_db given run ended running after tb ta
told_before g script_db running after p run ended tb ta told =
    record {
      choices = told.choices;
      whole = told.whole;
      ran = told.ran;
      is = told.is;
      ends = told.ends;
      cell = told.cell;
      told = told.told;
      causes = told.causes;
    }

pub short_before : {D V : Type 0} {database : Database} {given : List ℕ} (g : Ghosts D) (running after : OpenCell D V g) (p : Traffic)
    (run : Choices
    → Run_or_why) (c : Cell) (handed : List Bool) → IsShort g database given run (with_handed c handed) (with_packets running p) after
    → IsShort g database given run c running after
short_before g running after p run c handed (inl hold) =
    inl (hold_as _ (with_handed c handed) c _ true _ (same_run (with_handed c handed) c refl refl refl) hold)
short_before g running after p run c handed (inr later) =
    inr (record { choices = later.choices; ran = later.ran; is = later.is; disks = later.disks; causes = later.causes })

-- ---- where a packet goes

pub numbered : (w : World) (number : ℕ) (p : Packet) → 0 < number → slice_get w.packets (number - 1) ≡ Some p
    → packet_numbered w number ≡ Some p
numbered w zero p some there = absurd (omega arith)
numbered w (suc n) p some there = let e : suc n - 1 ≡ n = omega arith in sym (ap (slice_get w.packets) e) ∙ there

pub occasion_of : (w : World) (number k : ℕ) (p : Packet) → packet_numbered w number ≡ Some p → place_of w.hosts p.to ≡ Some k
    → occasion w (Delivery number) ≡ Some (k, event.Packet p)
occasion_of w number k p there place =
    ap (λ (o : Option Packet). option_and_then (world.delivered w.hosts) o) there
    ∙ ap (λ (o : Option ℕ). option_map (λ (j : ℕ). (j, event.Packet p)) o) place

pub all_at : {X : Type 0} (P : X → Type 0) (xs : List X) (i : ℕ) (x : X) → All P xs → slice_get xs i ≡ Some x → P x
all_at P xs i x all there = subst P (get_or_from_slice_get xs i x x there) (all i x (slice_get_within xs i x there))

pub set_same : {X : Type 0} (xs : List X) (k : ℕ) (x : X) → slice_get xs k ≡ Some x → set xs k x ≡ xs
set_same [] k x there = refl
set_same {X} (y ∷ xs) zero x there = let e : y ≡ x = cc in ap (λ (z : X). z ∷ xs) (sym e)
set_same {X} (y ∷ xs) (suc k) x there = ap (λ (l : List X). y ∷ l) (set_same xs k x there)

-- ---- a server that is down loses the packet

pub lost : {D V : Type 0} {given : List ℕ} (g : Ghosts D) (script_db : ScriptDatabase) (running : OpenCell D V g) (c : Cell)
    (number k : ℕ) (p : Packet)
    (text_before text_after : List ℕ) → IsModelledBy g script_db.database given running c → (down : IsDownAt running k)
    → occasion c.run.world (Delivery number) ≡ Some (k, event.Packet p)
    → text_after ≡ text_before ++ item_text script_db running.hosts.items (Tells (Lost number))
    → CellTold g script_db given
    (λ choices. Ok (stepped script_db c (first_choice choices) (Delivery number))) None running running text_before text_after
lost {D} {V} {given} g script_db running c number k p tb ta stands down o told =
    let site : Site D V g = record { clock = down.clock; server = Down down.disk } in
    let m = site_at running.sites.items c.run.world.sites k site stands.sites down.there in
    let h : SiteHappened = only_marks m.s (Lost number ∷ []) in
    let armed = set c.armed k (counted_on 0 (armed_at c.armed k)) in
    let here = armed_here g running.sites.items c.armed k site stands.armed down.there in
    let same : running.sites.items ≡ set running.sites.items k site = sym (set_same running.sites.items k site down.there) in
    let happened_so = down_happens script_db.database c.run.world (Delivery number) k (event.Packet p) m.s o m.there [] m.is.node in
    let goes : GoesOn script_db.database c (cell_after (with_armed c armed) (Step (Delivery number) []) (happened_at c.run.world k h))
    (Step (Delivery number) [] ∷ []) =
    record { opening = refl; events = refl; world = ap (λ (x : Happened). x.world) (sym happened_so) } in
    whole g script_db given running running c stands k (Step (Delivery number) []) h armed
    (λ choices. Ok (stepped script_db c (first_choice choices) (Delivery number))) []
    (ap Ok (stepped_down script_db c (Delivery number) k (event.Packet p) m.s o m.there m.is.node
    ∙ ap (happened (with_armed c armed) (Step (Delivery number) [])) happened_so))
    tt site site down.there same (omega arith) (λ j other. refl)
    tt tb tb ta refl
    (told ∙ ap (λ (l : List ℕ). tb ++ l) (sym (append-nil (item_text script_db running.hosts.items (Tells (Lost number))))))
    refl
    (ap (λ (l : List Packet). record { sent = l; handed = running.packets.handed }) (sym (append-nil running.packets.sent))
    ∙ ap (λ (l : List Bool). record { sent = running.packets.sent ++ []; handed = l }) (sym (append-nil running.packets.handed)))
    m.is
    (subst (λ (l : List (Site D V g)). AreArmed g l armed) (sym same)
    (armed_set g running.sites.items c.armed k site (counted_on 0 (armed_at c.armed k)) stands.armed (ap (counted_on 0) here.0, here.1)))
    (hold_more script_db.database c (cell_after (with_armed c armed) (Step (Delivery number) []) (happened_at c.run.world k h)) given
    (Step (Delivery number) []) goes (helds g running) (helds g running) stands.disks
    (subst (λ (l : List ModelSite). AreReadBy l (helds g running)) (sym (set_same c.run.world.sites k m.s m.there)) stands.disks.read)
    (moved_same _ 0 (helds g running) (λ j x. (0, sym (ap (λ (y : Happened). sum (calls_of j y.entries)) happened_so), omega arith))))

-- ---- a packet that was sent

pub under : (sent : List Packet) (number : ℕ) (packet : Packet) → slice_get sent (number - 1) ≡ Some packet
    → packet_under sent number ≡ packet
under sent number packet there = get_or_from_slice_get sent (number - 1) packet no_packet there

-- the cell from which a packet is handed over, and where it goes
pub record HandedOver {D V : Type 0} (g : Ghosts D) (database : Database) (given : List ℕ) (running : OpenCell D V g) (c : Cell)
    (p : Traffic)
    (number k : ℕ) : Type 0 where
  pub stands : IsModelledBy g database given (with_packets running p) (with_handed c (set c.handed (number - 1) true))
  pub goes : occasion c.run.world (Delivery number) ≡ Some (k, event.Packet (packet_under p.sent number))

pub handed_cell : {D V : Type 0} {gs : Ghosts D} {database : Database} {given : List ℕ} (running : OpenCell D V gs) (c : Cell)
    (p : Traffic) (number k : ℕ)
    (packet : Packet) → IsModelledBy gs database given running c → p ≡ handed_over running.packets number → 0 < number
    → slice_get p.sent (number - 1) ≡ Some packet → place_of running.hosts.items packet.to ≡ Some k
    → HandedOver gs database given running c p number k
handed_cell running c p number k packet stands is some there place =
    record {
      stands = stands_with running c p (set c.handed (number - 1) true) stands (ap (λ (t : Traffic). t.sent) is)
          (ap (λ (h : List Bool). set h (number - 1) true) stands.handed ∙ sym (ap (λ (t : Traffic). t.handed) is));
      goes =
          occasion_of c.run.world number k packet
          (numbered c.run.world number packet some
          (ap (λ (l : List Packet). slice_get l (number - 1)) (stands.sent ∙ sym (ap (λ (t : Traffic). t.sent) is)) ∙ there))
          (ap (λ (h : List Host). place_of h packet.to) stands.hosts ∙ place)
          ∙ ap (λ (q : Packet). Some (k, event.Packet q)) (sym (under p.sent number packet there));
    }
