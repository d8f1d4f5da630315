-- What is shown of a server.
use Rattle.std.proofs.Common.{if◌then◌else◌, ◌≡◌, ◌+◌, ◌++◌, ℕ, Bool, true, false, List, [], ◌∷◌, length, Option, Some, None, Result, Ok, Err, refl, sym, ap}
use Rattle.std.proofs.Common.{subst, ◌∙◌, arith}
use Rattle.std.specs.Prelude.{slice_get, IsErrAnd}
use Rattle.std.proofs.lemmas.List.{append-nil}
use Rattle.db_image.specs.Database.{Database}
use Rattle.disk_base.specs.declared.disks.Disk.{Ghosts}
use Rattle.ubik_types.specs.declared.hosts.Host.{Host}
use Rattle.ubik_types.specs.Lease.{lease_end}
use Rattle.ubik_types.specs.Phase.{phase_of}
use Rattle.cell_model.specs.Node as model
use Rattle.cell_model.specs.Step.{Member, cell_size as member_size}
use Rattle.cell_model.specs.World.{site_of}
use Rattle.cell_runs.specs.declared.traces.Showing.{Showing}
use Rattle.cell_runs.specs.Script.{Cell, Run_or_why, cell_size_of, shown_site, showing_of, sound_choices}
use Rattle.cell_runs.specs.ScriptDatabase.{ScriptDatabase}
use Rattle.cell_runs.specs.Trace.{TraceItem, Shows, item_text, trace}
use Rattle.cell_script.specs.declared.lines.Why.{Why}
use Rattle.cell_sites.specs.declared.faults.LineFault.{LineFault}
use Rattle.cell_sites.specs.declared.faults.LineFault.TheVariants as fault
use Rattle.cell_sites.specs.Disks.{Held, AreRises}
use Rattle.cell_sites.specs.Sites.{IsModelledBy, helds, server_node}
use Rattle.cell_sites.specs.Sound.{IsSteady, IsSoundServer}
use Rattle.cell_sites.specs.Told.{CellTold}
use Rattle.cell_sites.specs.declared.cells.OpenCell.{OpenCell}
use Rattle.cell_sites.specs.declared.sites.Server.{Server}
use Rattle.cell_sites.specs.declared.sites.Server.TheVariants as server
use Rattle.cell_sites.specs.declared.sites.Site.{Site}
use Rattle.ubik_node.specs.declared.nodes.Node.{Node}
use Rattle.ubik_node.specs.Node.{own_member, up_server}
use Rattle.cell_sites.proofs.AtPlace.{site_at, sound_at}

shows_none : (k j clock : ℕ) (showing : Option Showing) (disks : List Held) → AreRises k (Shows j clock showing ∷ []) disks disks
shows_none k j clock showing [] = tt
shows_none k j clock showing (disk ∷ disks) = (omega arith, shows_none (k + 1) j clock showing disks)

shown_is : {D V : Type 0} {gs : Ghosts D} {database : Database} {given : List ℕ} (running : OpenCell D V gs) (c : Cell) (k : ℕ)
    (site : Site D V gs)
    (showing : Option Showing) → IsModelledBy gs database given running c → slice_get running.sites.items k ≡ Some site
    → showing ≡ showing_of (cell_size_of c)
    (server_node site.server) → shown_site (cell_size_of c) k (site_of c.run.world k) ≡ Shows k site.clock showing ∷ []
shown_is running c k site showing stands there is =
    let at = site_at running.sites.items c.run.world.sites k site stands.sites there in
    ap (shown_site (cell_size_of c) k) at.there
    ∙ ap (λ (n : ℕ). Shows k n (showing_of (cell_size_of c) at.s.node) ∷ []) at.is.clock
    ∙ ap (λ (n : model.Node). Shows k site.clock (showing_of (cell_size_of c) n) ∷ []) at.is.node
    ∙ ap (λ (o : Option Showing). Shows k site.clock o ∷ []) (sym is)

pub show_told : {D V : Type 0} {given : List ℕ} (g : Ghosts D) (db : ScriptDatabase) (running : OpenCell D V g) (c : Cell) (k : ℕ)
    (site : Site D V g)
    (showing : Option Showing) (run : Run_or_why) (hosts : List Host) (before after : List ℕ) → IsModelledBy g db.database given running c →
    slice_get running.sites.items k ≡ Some site → hosts ≡ running.hosts.items
    → showing ≡ showing_of (cell_size_of c) (server_node site.server) → run ≡ Ok
    (record { cell = c; items = shown_site (cell_size_of c) k (site_of c.run.world k); ending = None }) → after ≡ before
    ++ item_text db hosts
    (Shows k site.clock showing) → CellTold g db given (λ choices. run) None running running before after
show_told g db running c k site showing run hosts before after stands there same is does told =
    let items = shown_is running c k site showing stands there is in
    record {
      choices = sound_choices;
      whole = record { most = refl; found = tt };
      ran = record { cell = c; items = shown_site (cell_size_of c) k (site_of c.run.world k); ending = None };
      is = does;
      ends = refl;
      cell = stands;
      told = told
          ∙ ap (λ (l : List Host). before ++ item_text db l (Shows k site.clock showing)) same
          ∙ ap (λ (l : List ℕ). before ++ l) (sym (append-nil (item_text db running.hosts.items (Shows k site.clock showing))))
          ∙ ap (λ (l : List TraceItem). before ++ trace db running.hosts.items l) (sym items);
      causes = subst (λ (l : List TraceItem). AreRises 0 l (helds g running) (helds g running)) (sym items)
          (shows_none 0 k site.clock showing (helds g running));
    }

pub showing_down : {D V : Type 0} {g : Ghosts D} (n : ℕ) (s : Server D V g) (disk : D) (showing : Option Showing) → s ≡ server.Down disk
    → showing ≡ None
    → showing ≡ showing_of n (server_node s)
showing_down {D} {V} {g} n s disk showing is none = none ∙ ap (λ (t : Server D V g). showing_of n (server_node t)) (sym is)

showing_up : (halted : Bool) (n : ℕ) (u : model.Server)
    → showing_of n (if halted then model.Halted (model.halted_from u) else model.Up u) ≡ Some
    (record { version = u.version; phase = phase_of u.phase; until = lease_end n u.starts; len = length u.image })
showing_up true n u = refl
showing_up false n u = refl

mine : {D V : Type 0} (g : Ghosts D) (m : Member) (clock : ℕ) (s : Server D V g) (n : Node D V g) → s ≡ server.Up n
    → IsSoundServer g m clock s → own_member n ≡ m
mine {D} {V} g m clock s n is sound = (subst (λ (t : Server D V g). IsSoundServer g m clock t) is sound).member

pub shown_up : {D V : Type 0} {database : Database} {given : List ℕ} (g : Ghosts D) (bound : ℕ) (running : OpenCell D V g) (c : Cell)
    (k : ℕ) (site : Site D V g) (n : Node D V g) (showing : Option Showing) → IsSteady g bound running
    → IsModelledBy g database given running c →
    slice_get running.sites.items k ≡ Some site → site.server ≡ server.Up n → showing ≡ Some
    (record {
      version = (up_server n).version;
      phase = phase_of (up_server n).phase;
      until = lease_end (member_size (own_member n)) (up_server n).starts;
      len =
          length (up_server n).image;
    }) → showing ≡ showing_of (cell_size_of c) (server_node site.server)
shown_up {D} {V} g bound running c k site n showing sound stands there is told =
    let u = up_server n in
    let at = sound_at g running.hosts.items 0 bound running.sites.items k site sound.sites there in
    let own = mine g (record { hosts = running.hosts.items; me = 0 + k }) site.clock site.server n is at.server in
    let size : member_size (own_member n) ≡ cell_size_of c = ap member_size own ∙ ap (λ (l : List Host). length l) (sym stands.hosts) in
    told
    ∙ ap (λ (m : ℕ). Some (record { version = u.version; phase = phase_of u.phase; until = lease_end m u.starts; len = length u.image }))
    size
    ∙ sym (showing_up n.store.failed (cell_size_of c) u)
    ∙ ap (λ (t : Server D V g). showing_of (cell_size_of c) (server_node t)) (sym is)

-- a line is refused for the reason that was found
pub line_refused : {T : Type 0} (r : Result T LineFault) (w w' : Why) → IsErrAnd r (λ e. e ≡ fault.Refused w)
    → r ≡ Err (fault.Refused w') → w ≡ w'
line_refused (Ok x) w w' is is' = absurd is
line_refused (Err e) w w' is is' = cc
