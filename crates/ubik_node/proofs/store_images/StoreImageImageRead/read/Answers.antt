use Rattle.std.proofs.Common.{◌≡◌, refl, subst}
use Rattle.ubik_node.specs.StoreImages.{ComesByReads, Lent, told_image}
use Rattle.ubik_node.proofs.ReadImages.{read_comes, told_stays}
use Rattle.ubik_node.proofs.store_images.StoreImageImageRead.read.Goals as goal

pub returns-then-is_ok-clause-came : goal.returns-then-is_ok-clause-came
returns-then-is_ok-clause-came g c =
    let old : Lent g.row.D.Denot = record { store = c.self.inside.store; faults = c.self.inside.faults } in
    let new : Lent g.row.D.Denot = record { store = record c.self.inside.store { now = c.read.new.self }; faults = c.self.inside.faults } in
    let e = c.read.ensures in
    subst (λ (i : Lent g.row.D.Denot). ComesByReads g.D.Disk i new) c.self.view_is
    (read_comes g.D.Disk old new c.read.result refl
    (record { same = e.same; kept = e.kept; fault = e.fault; rests = e.rests; disk = e.disk }))

pub returns-clause-held : goal.returns-clause-held
returns-clause-held g c =
    let e = c.read.ensures in
    subst (λ (i : Lent g.row.D.Denot). told_image (g.D.Disk.tells c.read.new.self.disk) (g.D.Disk.files c.read.new.self.disk)
    ≡ told_image (g.D.Disk.tells i.store.now.disk) (g.D.Disk.files i.store.now.disk)) c.self.view_is
    (told_stays g.D.Disk c.self.inside.store.now c.read.new.self c.read.result
    (record { same = e.same; kept = e.kept; fault = e.fault; rests = e.rests; disk = e.disk }))

pub returns-clause-came : goal.returns-clause-came
returns-clause-came g c =
    let old : Lent g.row.D.Denot = record { store = c.self.inside.store; faults = c.self.inside.faults } in
    let new : Lent g.row.D.Denot = record { store = record c.self.inside.store { now = c.read.new.self }; faults = c.next.result } in
    let e = c.read.ensures in
    subst (λ (i : Lent g.row.D.Denot). ComesByReads g.D.Disk i new) c.self.view_is
    (read_comes g.D.Disk old new c.read.result refl
    (record { same = e.same; kept = e.kept; fault = e.fault; rests = e.rests; disk = e.disk }))
