-- The disks of a run, put back into their list.
use Rattle.std.proofs.Common.{◌≡◌, ◌+◌, suc, List, [], ◌∷◌, ◌++◌, length, map, drop, Option, Some, None, refl, ap, ◌∙◌, arith, length-append}
use Rattle.std.proofs.lemmas.List.{map-append, drop_at}
use Rattle.disk_base.specs.declared.disks.Disk.{Ghosts}
use Rattle.ubik_types.specs.declared.limits.TheConstants.{MAXSERVERS}
use Rattle.cell_sites.specs.Disks.{Held, all_held, held}
use Rattle.cell_sites.specs.Sites.{site_disk}
use Rattle.cell_sites.specs.declared.cells.OpenCell.{OpenCell}
use Rattle.cell_sites.specs.declared.sites.Site.{Site}
use Rattle.ubik_cell.specs.Lines.{cell_disks, cell_helds, sites_in}

module _ {D V : Type 0} (g : Ghosts D) where
  helds_of : (sites : List (Site D V g)) → map (held g) (map site_disk sites) ≡ map (λ (site : Site D V g). held g (site_disk site)) sites
  helds_of [] = refl
  helds_of (site ∷ sites) = ap (λ (l : List Held). held g (site_disk site) ∷ l) (helds_of sites)

  count_of : (sites : List (Site D V g)) → length (map site_disk sites) ≡ length sites
  count_of [] = refl
  count_of (site ∷ sites) = ap suc (count_of sites)

  cell_count : (cell : Option (OpenCell D V g)) → length (cell_disks cell) ≡ sites_in cell
  cell_count None = refl
  cell_count (Some running) = count_of running.sites.items

  cell_held : (cell : Option (OpenCell D V g)) → all_held g (cell_disks cell) ≡ cell_helds g cell
  cell_held None = refl
  cell_held (Some running) = helds_of running.sites.items

  module _ (cell : Option (OpenCell D V g)) (spare disks : List D) (is : disks ≡ cell_disks cell ++ spare) where
    pub closed_helds : all_held g disks ≡ cell_helds g cell ++ all_held g spare
    closed_helds =
        ap (all_held g) is ∙ map-append (held g) (cell_disks cell) spare
        ∙ ap (λ (l : List Held). l ++ all_held g spare) (cell_held cell)

    pub closed_others : drop (sites_in cell) disks ≡ spare
    closed_others = ap (drop (sites_in cell)) is ∙ drop_at (cell_disks cell) spare (sites_in cell) (cell_count cell)

    pub closed_count : sites_in cell + length spare ≡ MAXSERVERS → length disks ≡ MAXSERVERS
    closed_count all =
        omega (arith, all, cell_count cell, length-append (cell_disks cell) spare, ap (λ (l : List D). length l) is)
