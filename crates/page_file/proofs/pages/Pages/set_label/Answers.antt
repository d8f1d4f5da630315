use Rattle.std.proofs.Common.{◌≤◌, refl, ap, arith}
use Rattle.disk_base.specs.declared.disks.FileNo.TheVariants.{Database}
use Rattle.page_file.specs.Pages.{Known}
use Rattle.page_file.proofs.Writing.{label_agrees, has_room}
use Rattle.page_file.proofs.pages.Pages.set_label.Goals as goal

pub returns-in-Done-clause-agrees : goal.returns-in-Done-clause-agrees
returns-in-Done-clause-agrees g c =
    label_agrees _ _ _ _ _ _ c.requires.version c.label_bytes.ensures refl (ap (λ (k : Known). k.len) c.self.view_is)
    (ap (λ (k : Known). k.cache) c.self.view_is) c.requires.agrees c.requires.headed c.in-Done.ensures.written

pub write_at-requires-clause-fits : goal.write_at-requires-clause-fits
write_at-requires-clause-fits g c =
    let disk = c.args.disk.now in
    let room : 64 ≤ g.D.Disk.room disk Database = has_room (g.D.Disk.files disk) 64 _ c.requires.fits c.requires.headed
    (g.D.Disk.has_room disk Database) in
    omega arith
