-- The opening of a cell over the disks of a run.
use Rattle.std.proofs.Common.{◌≡◌, ℕ, zero, suc, ◌+◌, ◌<◌, List, [], ◌∷◌, ◌++◌, length, get_or, map, refl, sym, ap, subst, ◌∙◌, add-one, arith}
use Rattle.std.proofs.lemmas.List.{get_or-drop, take_more}
use Rattle.std.specs.Prelude.{All, take, drop}
use Rattle.disk_base.specs.declared.disks.Disk.{Ghosts}
use Rattle.cell_sites.specs.declared.cells.OpenCell.{OpenCell}
use Rattle.cell_sites.specs.declared.sites.Site.{Site}
use Rattle.cell_sites.specs.Disks.{Held, all_held, held}
use Rattle.cell_sites.specs.Opened.{IsAdded, counts_of}
use Rattle.cell_sites.specs.Sites.{disks_of, helds, site_disk}
use Rattle.ubik_cell.specs.Lines.{AreUnwritten, IsUnwritten}
use Rattle.ubik_cell.proofs.LineDisks.{unwritten-append}

-- what the disks of a cell read as
sites_held : {D V : Type 0} (g : Ghosts D) (sites : List (Site D V g))
    → map (λ (site : Site D V g). held g (site_disk site)) sites ≡ all_held g (map site_disk sites)
sites_held g [] = refl
sites_held g (site ∷ sites) = ap (λ (l : List Held). held g (site_disk site) ∷ l) (sites_held g sites)

held-append : {D : Type 0} (g : Ghosts D) (a b : List D) → all_held g (a ++ b) ≡ all_held g a ++ all_held g b
held-append g [] b = refl
held-append g (disk ∷ a) b = ap (λ (l : List Held). held g disk ∷ l) (held-append g a b)

-- one more disk stands for no database
pub added_unwritten : {D V : Type 0} (g : Ghosts D) (given : List ℕ) (disk : D) (before after : OpenCell D V g)
    → IsAdded g disk before after
    → AreUnwritten given (helds g before) → AreUnwritten (given ++ g.steps disk ∷ []) (helds g after)
added_unwritten g given disk before after added empty =
    let disks : helds g after ≡ helds g before ++ held g added.kept ∷ [] =
    sites_held g after.sites.items ∙ ap (all_held g) added.disks ∙ held-append g (disks_of before) (added.kept ∷ [])
    ∙ ap (λ (l : List Held). l ++ held g added.kept ∷ []) (sym (sites_held g before.sites.items)) in
    let one : IsUnwritten (g.steps disk) (held g added.kept) =
    record { stands = added.emptied.empty; rise = added.emptied.few.0; few = added.emptied.few.1; steps = added.emptied.few.2 } in
    subst (AreUnwritten (given ++ g.steps disk ∷ [])) (sym disks)
    (unwritten-append given (g.steps disk ∷ []) (helds g before) (held g added.kept ∷ []) empty (one, tt))

pub none_unwritten : {D V : Type 0} (g : Ghosts D) (running : OpenCell D V g) → running.sites.items ≡ [] → AreUnwritten [] (helds g running)
none_unwritten {D} {V} g running none =
    subst (λ (sites : List (Site D V g)). AreUnwritten [] (map (λ site. held g (site_disk site)) sites)) (sym none) tt

-- the counts of one more disk
pub counts-push : {D : Type 0} (g : Ghosts D) (disks : List D) (disk : D) → counts_of g (disks ++ disk ∷ []) ≡ counts_of g disks
    ++ g.steps disk ∷ []
counts-push g [] disk = refl
counts-push g (first ∷ disks) disk = ap (λ (l : List ℕ). g.steps first ∷ l) (counts-push g disks disk)

-- ---- the disks that are taken, one after the other

drop-suc : {X : Type 0} (xs : List X) (i : ℕ) → drop 1 (drop i xs) ≡ drop (suc i) xs
drop-suc [] zero = refl
drop-suc [] (suc i) = refl
drop-suc (x ∷ xs) zero = refl
drop-suc (x ∷ xs) (suc i) = drop-suc xs i

drop-next : {X : Type 0} (xs : List X) (i : ℕ) → drop 1 (drop i xs) ≡ drop (i + 1) xs
drop-next xs i = rw add-one (drop-suc xs i)

module _ {D : Type 0} (given : List D) (i : ℕ) (disk : D) (inside : i < length given) (is : disk ≡ get_or (drop i given) 0 disk) where
  there : get_or given i disk ≡ disk
  there = sym (is ∙ get_or-drop i given 0 disk ∙ ap (λ n. get_or given n disk) (omega arith))

  pub next_taken : take (i + 1) given ≡ take i given ++ disk ∷ []
  next_taken = take_more given i disk inside ∙ ap (λ x. take i given ++ x ∷ []) there

  pub next_is : (P : D → Type 0) → All P given → P disk
  next_is P all = subst P there (all i disk inside)

pub next_left : {D : Type 0} (given left after : List D) (i : ℕ) → left ≡ drop i given → after ≡ take 0 left ++ drop 1 left
    → after ≡ drop (i + 1) given
next_left given left after i is removed = removed ∙ ap (λ l. take 0 l ++ drop 1 l) is ∙ drop-next given i

-- the disks of a closed run
pub closed_held : {D V : Type 0} (g : Ghosts D) (running : OpenCell D V g) (all spare : List D) → all ≡ disks_of running ++ spare
    → all_held g all ≡ helds g running ++ all_held g spare
closed_held g running all spare is =
    ap (all_held g) is ∙ held-append g (disks_of running) spare
    ∙ ap (λ (l : List Held). l ++ all_held g spare) (sym (sites_held g running.sites.items))
