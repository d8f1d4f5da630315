-- A sound cell, at a server that is up; and after its step.
use Rattle.std.proofs.Common.{Bool, ◌≡◌, ◌<◌, ◌≤◌, ◌+◌, ℕ, zero, suc, Some, List, [], ◌∷◌, ◌++◌, length, set, get_or, refl, sym, ap, subst, ◌∙◌, arith}
use Rattle.std.specs.Prelude.{All, slice_get}
use Rattle.std.proofs.lemmas.List.{append-nil, length-set}
use Rattle.std.proofs.lemmas.List.Elements.{All-append}
use Rattle.std.proofs.lemmas.Option.{slice_get_read, slice_get_within}
use Rattle.disk_base.specs.declared.disks.Disk.{Ghosts}
use Rattle.ubik_types.specs.declared.hosts.Host.{Host}
use Rattle.ubik_types.specs.Moment.{IsMoment}
use Rattle.ubik_calls.specs.declared.packets.Packet.{Packet}
use Rattle.cell_model.specs.World.{are_near}
use Rattle.cell_runs.specs.Script.{hosts_of}
use Rattle.ubik_node.specs.declared.nodes.Node.{Node}
use Rattle.cell_sites.specs.declared.cells.OpenCell.{OpenCell}
use Rattle.cell_sites.specs.declared.sites.Server.{Server}
use Rattle.cell_sites.specs.declared.sites.Server.TheVariants.{Down, Up}
use Rattle.cell_sites.specs.declared.sites.Site.{Site}
use Rattle.cell_sites.specs.Places.{IsUpAt}
use Rattle.cell_sites.specs.Sites.{site_disk}
use Rattle.cell_sites.specs.Sound.{AreSound, IsSteady, IsSoundDisk, IsSoundNode, IsSoundServer, IsSoundSite, clocks_in}
use Rattle.cell_sites.specs.Stepped.{member_at, up_site}
use Rattle.cell_sites.specs.Traffic.{Traffic, sent_all}
use Rattle.cell_sites.proofs.AtPlace.{sound_at, sound_set}
use Rattle.cell_sites.proofs.Hosts.{length-hosts_of}

-- as many hosts as sites
pub host_count : {D V : Type 0} (g : Ghosts D) (bound : ℕ) (running : OpenCell D V g) → IsSteady g bound running
    → length running.hosts.items ≡ length running.sites.items
host_count g bound running sound = ap length sound.hosts ∙ length-hosts_of (length running.sites.items)

-- what is known of the server at a place that is up
pub record IsHere {D V : Type 0} (g : Ghosts D) (bound : ℕ) (running : OpenCell D V g) (k clock : ℕ) (node : Node D V g) : Type 0 where
  pub moment : IsMoment clock
  pub within : clock ≤ bound
  pub sound : IsSoundNode g (member_at running k) clock node
  pub disk : IsSoundDisk g node.store.disk
  pub me : k < length running.hosts.items

pub here : {D V : Type 0} (g : Ghosts D) (bound : ℕ) (running : OpenCell D V g) (k clock : ℕ) (node : Node D V g)
    → IsSteady g bound running → slice_get running.sites.items k ≡ Some (up_site clock node) → IsHere g bound running k clock node
here g bound running k clock node sound there =
    let site = sound_at g running.hosts.items 0 bound running.sites.items k (up_site clock node) sound.sites there in
    let lt = slice_get_within running.sites.items k (up_site clock node) there in
    let count = host_count g bound running sound in
    let me : 0 + k ≡ k = omega arith in
    record {
      moment = site.moment;
      within = site.within;
      sound = subst (λ (n : ℕ). IsSoundNode g (record { hosts = running.hosts.items; me = n }) clock node) me site.server;
      disk = site.disk;
      me = omega (arith, lt, count);
    }

-- a clock that stays
pub clocks_set : {D V : Type 0} {g : Ghosts D} (sites : List (Site D V g)) (k : ℕ) (site later : Site D V g)
    → slice_get sites k ≡ Some site → later.clock ≡ site.clock
    → clocks_in (set sites k later) ≡ clocks_in sites
clocks_set [] k site later there same = cc
clocks_set {D} {V} {g} (x ∷ sites) zero site later there same =
    let e : x ≡ site = cc in ap (λ (n : ℕ). n ∷ clocks_in sites) (same ∙ sym (ap (λ (s : Site D V g). s.clock) e))
clocks_set (x ∷ sites) (suc k) site later there same = ap (λ (l : List ℕ). x.clock ∷ l) (clocks_set sites k site later there same)

-- the cell stays sound, where another sound server takes the place of one
pub sound_after : {D V : Type 0} (g : Ghosts D) (bound : ℕ) (before after : OpenCell D V g) (k : ℕ) (site later : Site D V g)
    → IsSteady g bound before → slice_get before.sites.items k ≡ Some site → later.clock ≡ site.clock
    → IsSoundServer g (member_at before k) later.clock later.server → IsSoundDisk g (site_disk later)
    → after.sites.items ≡ set before.sites.items k later → after.hosts.items ≡ before.hosts.items → after.outputs ≡ []
    → IsSteady g bound after
sound_after {D} {V} g bound before after k site later sound there clock is disk sites hosts empty =
    let at = sound_at g before.hosts.items 0 bound before.sites.items k site sound.sites there in
    let many : length after.sites.items ≡ length before.sites.items = ap length sites ∙ length-set before.sites.items k later in
    let me : 0 + k ≡ k = omega arith in
    let within : later.clock ≤ bound = let w = at.within in omega (arith, w, clock) in
    let one : IsSoundSite g (record { hosts = before.hosts.items; me = 0 + k }) bound later =
    subst (λ (n : ℕ). IsSoundSite g (record { hosts = before.hosts.items; me = n }) bound later) (sym me)
    (record { moment = subst IsMoment (sym clock) at.moment; within = within; server = is; disk = disk }) in
    record {
      some = let some = sound.some in omega (arith, some, many);
      few = let few = sound.few in omega (arith, few, many);
      hosts = hosts ∙ sound.hosts ∙ ap hosts_of (sym many);
      sites =
          subst (λ (h : List Host). AreSound g h 0 bound after.sites.items) (sym hosts)
          (subst (λ (l : List (Site D V g)). AreSound g before.hosts.items 0 bound l) (sym sites)
          (sound_set g before.hosts.items 0 bound before.sites.items k later sound.sites one));
      near =
          ap (λ (l : List (Site D V g)). are_near (clocks_in l)) sites
          ∙ ap are_near (clocks_set before.sites.items k site later there clock) ∙ sound.near;
      told = empty;
    }

-- no packet was sent
pub none_sent : (t : Traffic) → t ≡ sent_all t []
none_sent t =
    ap (λ (l : List Packet). record t { sent = l }) (sym (append-nil t.sent))
    ∙ ap (λ (l : List Bool). record { sent = t.sent ++ []; handed = l }) (sym (append-nil t.handed))

-- the disk of a site is sound
pub disk_here : {D V : Type 0} (g : Ghosts D) (bound : ℕ) (running : OpenCell D V g) (k : ℕ) (site : Site D V g)
    → IsSteady g bound running → slice_get running.sites.items k ≡ Some site → IsSoundDisk g (site_disk site)
disk_here g bound running k site sound there = (sound_at g running.hosts.items 0 bound running.sites.items k site sound.sites there).disk

-- the site at a place, as an index reads it
pub found_up : {D V : Type 0} {g : Ghosts D} (running : OpenCell D V g) (k : ℕ) (site : Site D V g) (node : Node D V g)
    → IsUpAt running k → site ≡ get_or running.sites.items k site
    → site.server ≡ Up node → slice_get running.sites.items k ≡ Some (up_site site.clock node)
found_up {D} {V} {g} running k site node up value is =
    let lt = slice_get_within running.sites.items k (up_site up.clock up.node) up.there in
    slice_get_read running.sites.items (length running.sites.items) k site refl lt value
    ∙ ap (λ (s : Server D V g). Some (record { clock = site.clock; server = s })) is

-- it is not down
pub not_down : {D V : Type 0} {g : Ghosts D} (running : OpenCell D V g) (k : ℕ) (site : Site D V g) (disk : D) → IsUpAt running k
    → site ≡ get_or running.sites.items k site
    → site.server ≡ Down disk → ⊥
not_down {D} {V} {g} running k site disk up value is =
    let lt = slice_get_within running.sites.items k (up_site up.clock up.node) up.there in
    let there = slice_get_read running.sites.items (length running.sites.items) k site refl lt value in
    let same : Some site ≡ Some (up_site up.clock up.node) = sym there ∙ up.there in
    let one : site ≡ up_site up.clock up.node = cc in
    let server : Up up.node ≡ Down disk = sym (ap (λ (s : Site D V g). s.server) one) ∙ is in
    cc
