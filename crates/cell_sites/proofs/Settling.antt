-- Nothing is pending on the disks of a sound cell, and after a step or an opening in it, however that ended.
use Rattle.std.proofs.Common.{◌≡◌, ◌∙◌, ◌+◌, ℕ, Option, Some, None, List, [], ◌∷◌, Result, map, set, sym, subst}
use Rattle.std.specs.Prelude.{All, IfSome, IsSomeAnd}
use Rattle.std.proofs.lemmas.List.Elements.{All-cons, All-map, All-nil, All-set}
use Rattle.disk_base.specs.declared.disks.Disk.{Ghosts}
use Rattle.disk_base.specs.Crash.{IsSettled, Only}
use Rattle.disk_base.specs.Files.{Files}
use Rattle.db_image.specs.Database.{Database}
use Rattle.ubik_types.specs.declared.hosts.Host.{Host}
use Rattle.ubik_types.specs.declared.memory.NoMemory.{NoMemory}
use Rattle.cell_model.specs.declared.events.NodeEvent.{NodeEvent}
use Rattle.cell_model.specs.declared.events.Output.{Output}
use Rattle.cell_model.specs.Durable.{Durable}
use Rattle.cell_model.specs.Step.{Member}
use Rattle.cell_runs.specs.ScriptDatabase.{ScriptDatabase}
use Rattle.ubik_node.specs.declared.nodes.Node.{Node}
use Rattle.ubik_node.specs.Disk.{IsRevived, StandsAs}
use Rattle.cell_sites.specs.declared.cells.OpenCell.{OpenCell}
use Rattle.cell_sites.specs.declared.sites.Server.{Server}
use Rattle.cell_sites.specs.declared.sites.Site.{Site}
use Rattle.cell_sites.specs.declared.steps.SiteEnd.{SiteEnd}
use Rattle.cell_sites.specs.declared.steps.SiteEnd.TheVariants as ended
use Rattle.cell_sites.specs.Disks.{AreSettled}
use Rattle.cell_sites.specs.Reopened.{SiteReopened}
use Rattle.cell_sites.specs.Sites.{disks_of, server_disk, site_disk}
use Rattle.cell_sites.specs.Sound.{AreSound, IsSteady}
use Rattle.cell_sites.specs.Stepped.{Becomes, NodeStepped, SiteStepped, member_at}

-- nothing is pending on a disk
abbrev pub AtRest : {D : Type 0} → Ghosts D → D → Type 0
AtRest g disk = IsSettled (g.files disk) (g.may_leave disk)

revived : (left_before left_now : Files → Type 0) (files : Option Files) → IfSome files (λ fs. left_before fs × Only fs left_now)
    → IsSettled files left_now
revived left_before left_now None left = tt
revived left_before left_now (Some fs) left = left.1

module _ {D V : Type 0} (g : Ghosts D) where
  abbrev IsAtRest : Site D V g → Type 0
  IsAtRest site = AtRest g (site_disk site)

  sites_rest : (hosts : List Host) (place bound : ℕ) (sites : List (Site D V g)) → AreSound g hosts place bound sites → All IsAtRest sites
  sites_rest hosts place bound [] sound = All-nil IsAtRest
  sites_rest hosts place bound (site ∷ sites) sound =
      All-cons IsAtRest site sites sound.0.disk.settled (sites_rest hosts (place + 1) bound sites sound.1)

  disks_rest : (sites : List (Site D V g)) → All IsAtRest sites → AreSettled g (map site_disk sites)
  disks_rest sites rest = All-map (AtRest g) site_disk sites rest

  -- a sound cell
  pub sound_settled : (bound : ℕ) (running : OpenCell D V g) → IsSteady g bound running → AreSettled g (disks_of running)
  sound_settled bound running sound =
      disks_rest running.sites.items (sites_rest running.hosts.items 0 bound running.sites.items sound.sites)

  -- another site has the place of one
  placed_settled : (bound : ℕ) (before after : OpenCell D V g) (k : ℕ) (later : Site D V g) → IsSteady g bound before
      → after.sites.items ≡ set before.sites.items k later → IsAtRest later → AreSettled g (disks_of after)
  placed_settled bound before after k later sound sites rest =
      subst (λ (l : List (Site D V g)). AreSettled g (map site_disk l)) (sym sites)
      (disks_rest (set before.sites.items k later)
      (All-set IsAtRest before.sites.items k later rest (sites_rest before.hosts.items 0 bound before.sites.items sound.sites)))

  -- ---- a step

  server_rests : (db : Database) (m : Member) (clock : ℕ) (e : NodeEvent) (end : SiteEnd) (node later : Node D V g) (out left : List Output)
      (server : Server D V g) → NodeStepped g db m clock e end node later out → Becomes g end later out server left
      → AtRest g (server_disk server)
  server_rests db m clock e ended.Made node later out left server step is =
      subst (λ (s : Server D V g). AtRest g (server_disk s)) (sym is.0) step.sound.disk.settled
  server_rests db m clock e ended.Halts node later out left server step is =
      subst (λ (s : Server D V g). AtRest g (server_disk s)) (sym is.0) step.sound.disk.settled
  server_rests db m clock e ended.Stops node later out left server step is =
      let disk : D = is.0.0 in
      subst (λ (s : Server D V g). AtRest g (server_disk s)) (sym is.0.1)
      (revived (g.may_leave later.store.disk) (g.may_leave disk) (g.files disk) is.0.2.left)
  server_rests db m clock e ended.NoMemory node later out left server step is =
      subst (λ (s : Server D V g). AtRest g (server_disk s)) (sym is.0) step.sound.disk.settled

  pub stepped_settled : (db : Database) (k : ℕ) (e : NodeEvent) (end : SiteEnd) (bound : ℕ) (before mid after : OpenCell D V g)
      → IsSteady g bound before → SiteStepped g db k e end before mid → after.sites.items ≡ mid.sites.items → AreSettled g (disks_of after)
  stepped_settled db k e end bound before mid after sound ss sites =
      placed_settled bound before after k (record { clock = ss.clock; server = ss.server }) sound (sites ∙ ss.sites)
      (server_rests db (member_at before k) ss.clock e end ss.node ss.later ss.out mid.outputs ss.server ss.step ss.becomes)

  -- ---- an opening

  pub reopened_settled : (db : ScriptDatabase) (k : ℕ) (result : Result (Unit {0}) NoMemory) (bound : ℕ) (before after : OpenCell D V g)
      (text_before text_after : List ℕ) → IsSteady g bound before → (re : SiteReopened g db k result before after text_before text_after)
      → (d : Durable) × IsSomeAnd (g.files re.disk) (StandsAs d) → AreSettled g (disks_of after)
  reopened_settled db k result bound before after text_before text_after sound re stood =
      placed_settled bound before after k (record { clock = re.clock; server = re.server }) sound re.sites
      (re.opens stood.0 stood.1).sound.settled
