-- What the disk of a site reads as, and what it holds where memory ran out.
use Rattle.std.proofs.Common.{◌≡◌, ℕ, zero, suc, List, [], ◌∷◌, map, Some, subst}
use Rattle.std.specs.Prelude.{slice_get, true}
use Rattle.disk_base.specs.declared.disks.Disk.{Ghosts}
use Rattle.db_image.specs.Database.{Database}
use Rattle.cell_model.specs.World.{Site as ModelSite}
use Rattle.cell_runs.specs.Script.{Cell}
use Rattle.cell_sites.specs.Counts.{HoldRun}
use Rattle.cell_sites.specs.Disks.{AreReadBy, IsReadBy, held}
use Rattle.cell_sites.specs.Sites.{IsModelledBy, helds, site_disk}
use Rattle.cell_sites.specs.declared.cells.OpenCell.{OpenCell}
use Rattle.cell_sites.specs.declared.sites.Site.{Site}
use Rattle.cell_sites.proofs.Counting.{hold_short}

pub read_at : {D V : Type 0} (g : Ghosts D) (ss : List ModelSite) (sites : List (Site D V g)) (k : ℕ) (s : ModelSite) (site : Site D V g)
    → AreReadBy ss (map (λ (x : Site D V g). held g (site_disk x)) sites) → slice_get ss k ≡ Some s → slice_get sites k ≡ Some site
    → IsReadBy s (held g (site_disk site))
read_at g [] sites k s site read there placed = cc
read_at g (x ∷ ss) [] k s site read there placed = absurd read
read_at {D} {V} g (x ∷ ss) (y ∷ sites) zero s site read there placed =
    let one : x ≡ s = cc in
    let other : y ≡ site = cc in
    subst (λ (z : Site D V g). IsReadBy s (held g (site_disk z))) other
    (subst (λ (z : ModelSite). IsReadBy z (held g (site_disk y))) one read.0)
read_at g (x ∷ ss) (y ∷ sites) (suc k) s site read there placed = read_at g ss sites k s site read.1 there placed

-- memory ran out before anything was done
pub nothing_done : {D V : Type 0} (g : Ghosts D) (db : Database) (given : List ℕ) (running : OpenCell D V g) (c : Cell)
    → IsModelledBy g db given running c
    → HoldRun db given true c (helds g running)
nothing_done g db given running c stands = hold_short db c given (helds g running) stands.disks
