-- Servers that take writes, and packets of the cell: that it stays so.
use Rattle.std.proofs.Common.{if◌then◌else◌, ◌≡◌, ◌⊎◌, inl, inr, ◌++◌, ℕ, zero, suc, Bool, true, false, Some, List, [], ◌∷◌, length, map, set, refl, sym, ap, subst, ◌∙◌}
use Rattle.disk_base.specs.declared.disks.Disk.{Ghosts}
use Rattle.std.specs.Prelude.{All, slice_get}
use Rattle.std.proofs.lemmas.Bool.{false≢true}
use Rattle.std.proofs.lemmas.List.Elements.{All-append, All-nil}
use Rattle.ubik_types.specs.declared.hosts.Host.{Host}
use Rattle.ubik_types.specs.Version.{IsVersion}
use Rattle.ubik_calls.specs.declared.packets.Packet.{Packet}
use Rattle.db_image.specs.Database.{Database}
use Rattle.cell_model.specs.Durable.{Durable}
use Rattle.cell_model.specs.Node as model
use Rattle.write_laws.specs.Keeping.{IsCellPacket, IsKeeping}
use Rattle.write_laws.specs.Lines.{unanswered}
use Rattle.write_laws.specs.Spreads.{WritesSpread}
use Rattle.ubik_node.specs.declared.nodes.Node.{Node}
use Rattle.server_state.specs.declared.state.State.{State}
use Rattle.ubik_node.specs.Node.{node_of, up_server}
use Rattle.server_state.specs.State.{server_of}
use Rattle.cell_sites.specs.declared.cells.OpenCell.{OpenCell}
use Rattle.cell_sites.specs.declared.sites.Server.{Server}
use Rattle.cell_sites.specs.declared.sites.Server.TheVariants.{Down, Up}
use Rattle.cell_sites.specs.declared.sites.Site.{Site}
use Rattle.cell_sites.specs.Calls.{AllStandUnder}
use Rattle.cell_sites.specs.Sites.{server_node}
use Rattle.cell_sites.specs.Sound.{Keeps, KeepsNode, KeepsServer}
use Rattle.cell_sites.specs.Traffic.{Traffic, sent_all}
use Rattle.cell_sites.proofs.Answering.{all_stand_on}
use Rattle.cell_sites.proofs.Nodes.{is_up}

-- ---- lists

got_set : {X : Type 0} (xs : List X) (k : ℕ) (y : X) (j : ℕ) (x : X) → slice_get (set xs k y) j ≡ Some x → (x ≡ y)
    ⊎ (slice_get xs j ≡ Some x)
got_set [] k y j x is = inr is
got_set (z ∷ xs) zero y zero x is = let same : y ≡ x = cc in inl (sym same)
got_set (z ∷ xs) zero y (suc j) x is = inr is
got_set (z ∷ xs) (suc k) y zero x is = inr is
got_set (z ∷ xs) (suc k) y (suc j) x is = got_set xs k y j x is

got_map : {X : Type 0} (f : X → X) (xs : List X) (j : ℕ) (x : X) → slice_get (map f xs) j ≡ Some x → (z : X) × (slice_get xs j ≡ Some z)
    × (x ≡ f z)
got_map f [] j x is = absurd (cc)
got_map f (z ∷ xs) zero x is = let same : f z ≡ x = cc in (z, refl, sym same)
got_map f (z ∷ xs) (suc j) x is = got_map f xs j x is

-- ---- servers

module _ {D V : Type 0} {g : Ghosts D} (db : Database) (hosts : List Host) (calls : List (List ℕ)) where
  -- one that is down
  pub down_keeps : (disk : D) → KeepsServer {D = D} {V = V} {g = g} db hosts calls (Down disk)
  down_keeps disk node is up = let never : Down disk ≡ Up node = is in absurd cc

  -- one that is up
  pub up_keeps : (later : Node D V g) → (later.store.failed ≡ false → KeepsNode db hosts calls later)
      → KeepsServer db hosts calls (Up later)
  up_keeps later keeps node is up =
      let same : later ≡ node = cc in
      subst (KeepsNode db hosts calls) same (keeps (ap (λ (n : Node D V g). n.store.failed) same ∙ up))

  pub as_keeps : (s t : Server D V g) → s ≡ t → KeepsServer db hosts calls t → KeepsServer db hosts calls s
  as_keeps s t is keeps = subst (KeepsServer db hosts calls) (sym is) keeps

  -- one with the same state
  pub same_keeps : (node later : Node D V g) → KeepsServer db hosts calls (Up node) → up_server later ≡ up_server node
      → later.store.failed ≡ node.store.failed
      → KeepsServer db hosts calls (Up later)
  same_keeps node later keeps same halted =
      up_keeps later (λ up.
      let was = keeps node refl (sym halted ∙ up) in
      record {
        takes = subst (IsKeeping db (length hosts)) (sym same) was.takes;
        line = subst (λ (s : model.Server). AllStandUnder calls (unanswered s)) (sym same) was.line;
      })

  -- one that was just opened, or stays down
  pub opened_keeps : WritesSpread → (d : Durable) (clock : ℕ) → IsVersion d.version → (s : Server D V g)
      → server_node s ≡ model.Up (model.opened_server (length hosts) d clock) → KeepsServer db hosts calls s
  opened_keeps law d clock version (Down disk) is = down_keeps disk
  opened_keeps law d clock version (Up later) is =
      up_keeps later (λ up.
      let same = (is_up later (model.opened_server (length hosts) d clock) is).1 in
      record {
        takes = subst (IsKeeping db (length hosts)) (sym same) (law.first db (length hosts) d clock version);
        line = subst (λ (s : model.Server). AllStandUnder calls (unanswered s)) (sym same) tt;
      })

  pub closed_keeps : (s : Server D V g) → server_node s ≡ model.Down → KeepsServer db hosts calls s
  closed_keeps (Down disk) is = down_keeps disk
  closed_keeps (Up later) is = up_keeps later (λ up. absurd (by later.store.failed is))
    where
      by : (h : Bool) → (if h then model.Halted (model.halted_from (up_server later)) else model.Up (up_server later)) ≡ model.Down → ⊥
      by true is = cc
      by false is = cc

-- ---- cells

module _ {D V : Type 0} {g : Ghosts D} (db : Database) (before after : OpenCell D V g) (keeps : Keeps db before)
    (hosts : after.hosts.items ≡ before.hosts.items) where
  packets_on : (new : List Packet) → after.packets ≡ sent_all before.packets new → All (IsCellPacket before.hosts.items) new
      → All (IsCellPacket after.hosts.items) after.packets.sent
  packets_on new sent all =
      subst (λ (h : List Host). All (IsCellPacket h) after.packets.sent) (sym hosts)
      (subst (λ (t : Traffic). All (IsCellPacket before.hosts.items) t.sent) (sym sent)
      (All-append (IsCellPacket before.hosts.items) before.packets.sent new keeps.packets all))

  as_here : (calls : after.calls ≡ before.calls) (s : Server D V g) → KeepsServer db before.hosts.items before.calls s
      → KeepsServer db after.hosts.items after.calls s
  as_here calls s is =
      subst (λ (l : List (List ℕ)). KeepsServer db after.hosts.items l s) (sym calls)
      (subst (λ (h : List Host). KeepsServer db h before.calls s) (sym hosts) is)

  -- another server takes the place of one
  pub keeps_set : (k : ℕ) (later : Site D V g) (new : List Packet) → after.sites.items ≡ set before.sites.items k later
      → after.calls ≡ before.calls → after.packets ≡ sent_all before.packets new
      → KeepsServer db before.hosts.items before.calls later.server → All (IsCellPacket before.hosts.items) new → Keeps db after
  keeps_set k later new sites calls sent server all =
      record {
        servers = λ j site there. as_here calls site.server
            (by j site (got_set before.sites.items k later j site
            (subst (λ (l : List (Site D V g)). slice_get l j ≡ Some site) sites there)));
        packets = packets_on new sent all;
      }
    where
      by : (j : ℕ) (site : Site D V g) → (site ≡ later) ⊎ (slice_get before.sites.items j ≡ Some site)
          → KeepsServer db before.hosts.items before.calls site.server
      by j site (inl same) = subst (λ (s : Site D V g). KeepsServer db before.hosts.items before.calls s.server) (sym same) server
      by j site (inr there) = keeps.servers j site there

  -- each server stays as it is
  pub keeps_map : (f : Site D V g → Site D V g) → ((site : Site D V g) → (f site).server ≡ site.server)
      → after.sites.items ≡ map f before.sites.items
      → after.calls ≡ before.calls → after.packets ≡ before.packets → Keeps db after
  keeps_map f same sites calls packets =
      record {
        servers = λ j site there.
            let was = got_map f before.sites.items j site (subst (λ (l : List (Site D V g)). slice_get l j ≡ Some site) sites there) in
            as_here calls site.server
            (subst (KeepsServer db before.hosts.items before.calls) (sym (ap (λ (s : Site D V g). s.server) was.2 ∙ same was.0))
            (keeps.servers j was.0 was.1));
        packets =
            subst (λ (h : List Host). All (IsCellPacket h) after.packets.sent) (sym hosts)
            (subst (λ (t : Traffic). All (IsCellPacket before.hosts.items) t.sent) (sym packets) keeps.packets);
      }

  -- one more call was kept
  pub keeps_call : (call : List ℕ) → after.sites.items ≡ before.sites.items → after.calls ≡ before.calls ++ call ∷ []
      → after.packets ≡ before.packets → Keeps db after
  keeps_call call sites calls packets =
      record {
        servers = λ j site there node is up.
            let was = keeps.servers j site (subst (λ (l : List (Site D V g)). slice_get l j ≡ Some site) sites there) node is up in
            record {
              takes = subst (λ (h : List Host). IsKeeping db (length h) (up_server node)) (sym hosts) was.takes;
              line = subst (λ (l : List (List ℕ)). AllStandUnder l (unanswered (up_server node))) (sym calls)
                  (all_stand_on before.calls call (unanswered (up_server node)) was.line);
            };
        packets =
            subst (λ (h : List Host). All (IsCellPacket h) after.packets.sent) (sym hosts)
            (subst (λ (t : Traffic). All (IsCellPacket before.hosts.items) t.sent) (sym packets) keeps.packets);
      }
