-- The step of a server in its cell: it stays there, or goes down where its disk stopped.
use Rattle.std.proofs.Common.{◌≡◌, ◌≢◌, ◌<◌, ℕ, zero, suc, Some, List, [], ◌∷◌, length, set, refl, sym, ap, subst, ◌∙◌, arith}
use Rattle.std.specs.Prelude.{slice_get}
use Rattle.std.proofs.lemmas.List.{length-set, set-set}
use Rattle.std.proofs.lemmas.Option.{slice_get_within}
use Rattle.disk_base.specs.declared.disks.Disk.{Ghosts}
use Rattle.db_image.specs.Database.{Database}
use Rattle.cell_model.specs.declared.events.NodeEvent.{NodeEvent}
use Rattle.cell_sites.specs.Sites.{server_disk}
use Rattle.cell_sites.specs.Stepped.{Becomes, SiteStepped, TakenDown, UpStepped, up_site}
use Rattle.cell_sites.specs.declared.cells.OpenCell.{OpenCell}
use Rattle.cell_sites.specs.declared.sites.Server.{Server}
use Rattle.cell_sites.specs.declared.sites.Server.TheVariants.{Down, Up}
use Rattle.cell_sites.specs.declared.sites.Site.{Site}
use Rattle.cell_sites.specs.declared.steps.SiteEnd.{SiteEnd}
use Rattle.cell_sites.specs.declared.steps.SiteEnd.TheVariants as ended
use Rattle.ubik_node.specs.Disk.{IsRevived}

-- what was set is there
get_set : {X : Type 0} (xs : List X) (k : ℕ) (y z : X) → slice_get xs k ≡ Some z → slice_get (set xs k y) k ≡ Some y
get_set [] k y z there = cc
get_set (x ∷ xs) zero y z there = refl
get_set (x ∷ xs) (suc k) y z there = get_set xs k y z there

pub some_same : {X : Type 0} (a b : X) → Some a ≡ Some b → a ≡ b
some_same a b is = cc

module _ {D V : Type 0} (g : Ghosts D) (db : Database) (k : ℕ) (e : NodeEvent) (end : SiteEnd) (before mid : OpenCell D V g)
    (up : UpStepped g db k e end before mid) where
  becomes_up : (x : SiteEnd) → x ≢ ended.Stops → Becomes g x up.later mid.outputs (Up up.later) mid.outputs
  becomes_up ended.Made other = (refl, refl)
  becomes_up ended.Halts other = (refl, refl)
  becomes_up ended.Stops other = absurd (other refl)
  becomes_up ended.NoMemory other = (refl, refl)

  pub stays_up : end ≢ ended.Stops → SiteStepped g db k e end before mid
  stays_up other =
      record {
        clock = up.clock;
        node = up.node;
        there = up.there;
        later = up.later;
        out = mid.outputs;
        step = up.step;
        server = Up up.later;
        becomes = becomes_up end other;
        sites = up.sites;
        hosts = up.hosts;
        packets = up.packets;
        calls = up.calls;
      }

  -- there is a server at its place
  pub placed : k < length mid.sites.items
  placed =
      let there = slice_get_within before.sites.items k (up_site up.clock up.node) up.there in
      let many : length mid.sites.items ≡ length before.sites.items = ap length up.sites
      ∙ length-set before.sites.items k (up_site up.clock up.later) in
      omega (arith, there, many)

  pub goes_down : end ≡ ended.Stops → (quiet after : OpenCell D V g) → quiet.sites.items ≡ mid.sites.items
      → quiet.hosts.items ≡ mid.hosts.items
      → quiet.packets ≡ mid.packets → quiet.calls ≡ mid.calls → quiet.outputs ≡ [] → TakenDown g k quiet after
      → SiteStepped g db k e end before after
  goes_down is quiet after sites hosts packets calls none down =
      let was : Some (up_site up.clock up.later) ≡ Some (record { clock = down.clock; server = down.server }) =
      sym (get_set before.sites.items k (up_site up.clock up.later) (up_site up.clock up.node) up.there)
      ∙ ap (λ (l : List (Site D V g)). slice_get l k) (sym (sites ∙ up.sites)) ∙ down.there in
      let same = some_same (up_site up.clock up.later) (record { clock = down.clock; server = down.server }) was in
      let server : down.server ≡ Up up.later = ap (λ (s : Site D V g). s.server) (sym same) in
      let clock : down.clock ≡ up.clock = ap (λ (s : Site D V g). s.clock) (sym same) in
      record {
        clock = up.clock;
        node = up.node;
        there = up.there;
        later = up.later;
        out = mid.outputs;
        step = up.step;
        server = Down down.disk;
        becomes = subst (λ (x : SiteEnd). Becomes g x up.later mid.outputs (Down down.disk) after.outputs) (sym is) (
          (down.disk, refl, subst (λ (s : Server D V g). IsRevived g (server_disk s) down.disk) server down.revived),
          down.outputs
              ∙ none,
        );
        sites = down.sites ∙ ap (λ (n : ℕ). set quiet.sites.items k (record { clock = n; server = Down down.disk })) clock
            ∙ ap (λ (l : List (Site D V g)). set l k (record { clock = up.clock; server = Down down.disk })) (sites ∙ up.sites)
            ∙ set-set before.sites.items k (up_site up.clock up.later) (record { clock = up.clock; server = Down down.disk });
        hosts = down.hosts ∙ hosts ∙ up.hosts;
        packets = down.packets ∙ packets ∙ up.packets;
        calls = down.calls ∙ calls ∙ up.calls;
      }
