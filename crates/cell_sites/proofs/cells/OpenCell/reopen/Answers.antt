use Rattle.std.proofs.Common.{◌≡◌, ◌∙◌, ℕ, List, Vec, Some, length, ap, subst, sym, arith}
use Rattle.std.specs.Prelude.{insert}
use Rattle.std.specs.declared.alloc.Global.{Global}
use Rattle.std.proofs.lemmas.Option.{slice_get_within}
use Rattle.ubik_types.specs.declared.hosts.Host.{Host}
use Rattle.cell_runs.specs.Script.{hosts_of}
use Rattle.cell_runs.specs.ScriptDatabase.{script_database}
use Rattle.cell_sites.specs.OpenedServer.{ServerOpens}
use Rattle.cell_sites.specs.Sites.{server_disk}
use Rattle.cell_sites.specs.Sound.{IsSoundDisk}
use Rattle.cell_sites.specs.declared.sites.Server.TheVariants.{Down}
use Rattle.cell_sites.specs.declared.sites.Site.{Site}
use Rattle.cell_sites.proofs.AtPlace.{put_back, site_there, sound_at}
use Rattle.cell_sites.proofs.Downtimes.{ok_says}
use Rattle.cell_sites.proofs.Sited.{some_same}
use Rattle.cell_sites.proofs.Soundly.{disk_here, host_count}
use Rattle.cell_sites.proofs.cells.OpenCell.reopen.Goals as goal

pub open_server-server-requires-clause-cell : goal.open_server-server-requires-clause-cell
open_server-server-requires-clause-cell g c =
    let running = c.args.self.now in
    let count = host_count g.D.Disk c.requires.sound.0.clock running c.requires.sound.1.steady in
    subst (λ (h : List Host). h ≡ hosts_of (length h)) (sym c.deref.ensures.value)
    (c.requires.sound.1.steady.hosts ∙ ap hosts_of (sym count))

pub open_server-server-requires-clause-few : goal.open_server-server-requires-clause-few
open_server-server-requires-clause-few g c =
    let count = host_count g.D.Disk c.requires.sound.0.clock c.args.self.now c.requires.sound.1.steady in
    let same = ap (λ (h : List Host). length h) c.deref.ensures.value in
    let few = c.requires.sound.1.steady.few in
    omega (arith, count, same, few)

pub open_server-server-requires-clause-me : goal.open_server-server-requires-clause-me
open_server-server-requires-clause-me g c =
    let count = host_count g.D.Disk c.requires.sound.0.clock c.args.self.now c.requires.sound.1.steady in
    let same = ap (λ (h : List Host). length h) c.deref.ensures.value in
    let within = slice_get_within c.args.self.now.sites.items c.args.k _ c.requires.down.there in
    omega (arith, count, same, within)

pub open_server-server-requires-clause-moment : goal.open_server-server-requires-clause-moment
open_server-server-requires-clause-moment g c =
    let running = c.args.self.now in
    let within = slice_get_within running.sites.items c.args.k _ c.requires.down.there in
    let there = site_there running.sites.items c.args.k c.remove-clock.result within c.remove-clock.ensures.value in
    (sound_at g.D.Disk running.hosts.items 0 c.requires.sound.0.clock running.sites.items c.args.k c.remove-clock.result
    c.requires.sound.1.steady.sites
    there).moment

pub open_server-server-requires-clause-sound : goal.open_server-server-requires-clause-sound
open_server-server-requires-clause-sound g c =
    let running = c.args.self.now in
    let within = slice_get_within running.sites.items c.args.k _ c.requires.down.there in
    let there = site_there running.sites.items c.args.k c.remove-clock.result within c.remove-clock.ensures.value in
    subst (λ (d : _). IsSoundDisk g.D.Disk d) (sym c.close.ensures)
    (disk_here g.D.Disk c.requires.sound.0.clock running c.args.k c.remove-clock.result c.requires.sound.1.steady there)

pub returns : goal.returns
returns g c =
    let running = c.args.self.now in
    let down = c.requires.down in
    let site = c.remove-clock.result in
    let disk = c.close.result in
    let opened = c.open_server-server.result in
    let within = slice_get_within running.sites.items c.args.k _ down.there in
    let at = site_there running.sites.items c.args.k site within c.remove-clock.ensures.value in
    let was : Site _ _ _ = record { clock = down.clock; server = Down down.disk } in
    let same : site ≡ was = some_same site was (sym at ∙ down.there) in
    let clock : site.clock ≡ down.clock = ap (λ (s : Site _ _ _). s.clock) same in
    let held : disk ≡ down.disk = c.close.ensures ∙ ap (λ (s : Site _ _ _). server_disk s.server) same in
    record {
      clock = site.clock;
      disk = disk;
      there = down.there
          ∙ ap (λ (n : ℕ). Some (record { clock = n; server = Down down.disk })) (sym clock)
          ∙ ap (λ (d : _). Some (record { clock = site.clock; server = Down d })) (sym held);
      end = opened.1;
      server = opened.0;
      opens = λ d stands.
          subst (λ (h : List Host). ServerOpens g.D.Disk (record { hosts = h; me = c.args.k }) site.clock d opened.1 disk opened.0)
          c.deref.ensures.value
          (c.open_server-server.ensures d stands);
      sites = c.put_site.ensures.sites
          ∙ ap (λ (l : List (Site _ _ _)). insert l c.args.k (record { clock = site.clock; server = opened.0 }))
          c.remove-clock.ensures.items
          ∙ put_back running.sites.items c.args.k (record { clock = site.clock; server = opened.0 }) within;
      hosts = ap (λ (v : Vec Host Global). v.items) c.put_site.ensures.same.0;
      packets = c.put_site.ensures.same.1;
      outputs = c.put_site.ensures.same.2;
      calls = c.put_site.ensures.same.3;
      told = λ ok. let t = ok_says c.tell_reopened.result ok c.tell_reopened.ensures in
          (t.0, t.1 (script_database g.V.DraftService.standing.database g.V.DraftWords.words) running.hosts.items);
    }
