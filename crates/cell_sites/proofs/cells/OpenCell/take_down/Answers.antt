use Rattle.std.proofs.Common.{◌∙◌, ap, subst, List, Vec}
use Rattle.std.specs.Prelude.{insert}
use Rattle.std.specs.declared.alloc.Global.{Global}
use Rattle.ubik_types.specs.declared.hosts.Host.{Host}
use Rattle.ubik_node.specs.Disk.{IsRevived}
use Rattle.cell_sites.specs.declared.sites.Server.TheVariants.{Down}
use Rattle.cell_sites.specs.declared.sites.Site.{Site}
use Rattle.cell_sites.proofs.AtPlace.{put_back, site_there}
use Rattle.cell_sites.proofs.cells.OpenCell.take_down.Goals as goal

pub returns : goal.returns
returns g c =
    let site = c.remove-clock.result in
    let disk = c.revive.new.self in
    let revived = c.revive.ensures in
    let items = c.args.self.now.sites.items in
    record {
      clock = site.clock;
      server = site.server;
      there = site_there items c.args.k site c.requires.place c.remove-clock.ensures.value;
      disk = disk;
      revived = subst (λ (d : _). IsRevived g.D.Disk d disk) c.close-disk.ensures (record {
        unarmed = revived.unarmed;
        left = revived.left;
        told = revived.tells_files;
        tells = revived.tells;
        steps = revived.steps;
        faults = revived.faults;
      });
      sites = c.put_site.ensures.sites
          ∙ ap (λ (l : List (Site _ _ _)). insert l c.args.k (record { clock = site.clock; server = Down disk }))
          c.remove-clock.ensures.items
          ∙ put_back items c.args.k (record { clock = site.clock; server = Down disk }) c.requires.place;
      hosts = ap (λ (v : Vec Host Global). v.items) c.put_site.ensures.same.0;
      packets = c.put_site.ensures.same.1;
      outputs = c.put_site.ensures.same.2;
      calls = c.put_site.ensures.same.3;
    }
