-- Sites that stand for those of a model, one after the other.
use Rattle.std.proofs.Common.{if◌then◌else◌, ◌≡◌, ◌<◌, ◌+◌, ℕ, zero, suc, Bool, true, false, List, [], ◌∷◌, ◌++◌, Option, Some, length, map, set, get_or, refl}
use Rattle.std.proofs.Common.{sym, ap, subst, ◌∙◌, arith}
use Rattle.std.specs.Prelude.{insert, remove, slice_get}
use Rattle.ubik_types.specs.declared.hosts.Host.{Host}
use Rattle.std.proofs.lemmas.Option.{slice_get_read}
use Rattle.db_image.specs.Database.{Database}
use Rattle.disk_base.specs.declared.disks.Disk.{Ghosts}
use Rattle.cell_model.specs.Node as model
use Rattle.cell_model.specs.World.{Site as ModelSite, clocks_of, is_down, tick_at, ticked}
use Rattle.cell_runs.specs.Script.{Cell, cell_size_of, is_down_at, node_in}
use Rattle.ubik_node.specs.declared.nodes.Node.{Node}
use Rattle.ubik_node.specs.Node.{up_server}
use Rattle.cell_sites.proofs.Hosts.{length-hosts_of}
use Rattle.cell_sites.specs.declared.cells.OpenCell.{OpenCell}
use Rattle.cell_sites.specs.declared.sites.Server.{Server}
use Rattle.cell_sites.specs.declared.sites.Server.TheVariants as server
use Rattle.cell_sites.specs.Disks.{Held, AreRises}
use Rattle.cell_sites.specs.Places.{ticked_on}
use Rattle.cell_sites.specs.Sites.{AreSitesOf, IsSiteOf, IsModelledBy, server_node}
use Rattle.cell_sites.specs.Sound.{AreSound, IsSteady, IsSoundSite, clocks_in}
use Rattle.cell_sites.specs.declared.sites.Site.{Site}

pub sites_length : {D V : Type 0} {g : Ghosts D} (sites : List (Site D V g)) (ss : List ModelSite) → AreSitesOf sites ss
    → length ss ≡ length sites
sites_length [] [] are = refl
sites_length [] (s ∷ ss) are = absurd are
sites_length (site ∷ sites) [] are = absurd are
sites_length (site ∷ sites) (s ∷ ss) are = let rest = sites_length sites ss are.1 in omega (arith, rest)

pub sites_clocks : {D V : Type 0} {g : Ghosts D} (sites : List (Site D V g)) (ss : List ModelSite) → AreSitesOf sites ss
    → clocks_of ss ≡ clocks_in sites
sites_clocks [] [] are = refl
sites_clocks [] (s ∷ ss) are = absurd are
sites_clocks (site ∷ sites) [] are = absurd are
sites_clocks (site ∷ sites) (s ∷ ss) are =
    ap (λ (n : ℕ). n ∷ clocks_of ss) are.0.clock ∙ ap (λ (l : List ℕ). site.clock ∷ l) (sites_clocks sites ss are.1)

-- at a place
pub record IsSiteAt {D V : Type 0} {g : Ghosts D} (site : Site D V g) (ss : List ModelSite) (k : ℕ) : Type 0 where
  pub s : ModelSite
  pub there : slice_get ss k ≡ Some s
  pub is : IsSiteOf site s

pub site_at : {D V : Type 0} {g : Ghosts D} (sites : List (Site D V g)) (ss : List ModelSite) (k : ℕ) (site : Site D V g)
    → AreSitesOf sites ss → slice_get sites k ≡ Some site
    → IsSiteAt site ss k
site_at [] ss k site are there = cc
site_at (x ∷ sites) [] k site are there = absurd are
site_at {D} {V} {g} (x ∷ sites) (s ∷ ss) zero site are there =
    let same : x ≡ site = cc in
    record { s = s; there = refl; is = subst (λ (y : Site D V g). IsSiteOf y s) same are.0 }
site_at (x ∷ sites) (s ∷ ss) (suc k) site are there =
    let rest = site_at sites ss k site are.1 there in record { s = rest.s; there = rest.there; is = rest.is }

pub sites_set : {D V : Type 0} {g : Ghosts D} (sites : List (Site D V g)) (ss : List ModelSite) (k : ℕ) (site : Site D V g)
    (s : ModelSite) → AreSitesOf sites ss → IsSiteOf site s
    → AreSitesOf (set sites k site) (set ss k s)
sites_set [] [] k site s are is = tt
sites_set [] (t ∷ ss) k site s are is = absurd are
sites_set (x ∷ sites) [] k site s are is = absurd are
sites_set (x ∷ sites) (t ∷ ss) zero site s are is = (is, are.1)
sites_set (x ∷ sites) (t ∷ ss) (suc k) site s are is = (are.0, sites_set sites ss k site s are.1 is)

pub sites_push : {D V : Type 0} {g : Ghosts D} (sites : List (Site D V g)) (ss : List ModelSite) (site : Site D V g) (s : ModelSite)
    → AreSitesOf sites ss → IsSiteOf site s
    → AreSitesOf (sites ++ site ∷ []) (ss ++ s ∷ [])
sites_push [] [] site s are is = (is, tt)
sites_push [] (t ∷ ss) site s are is = absurd are
sites_push (x ∷ sites) [] site s are is = absurd are
sites_push (x ∷ sites) (t ∷ ss) site s are is = (are.0, sites_push sites ss site s are.1 is)

is_ticked : {D V : Type 0} {g : Ghosts D} (site : Site D V g) (s : ModelSite) (seconds : ℕ) → IsSiteOf site s
    → IsSiteOf (ticked_on seconds site) (ticked seconds s)
is_ticked site s seconds is = record { clock = ap (λ (n : ℕ). n + seconds) is.clock; node = is.node }

pub sites_ticked : {D V : Type 0} {g : Ghosts D} (sites : List (Site D V g)) (ss : List ModelSite) (k seconds : ℕ) (d : Site D V g)
    → AreSitesOf sites ss
    → AreSitesOf (set sites k (ticked_on seconds (get_or sites k d))) (tick_at ss k seconds)
sites_ticked [] [] k seconds d are = tt
sites_ticked [] (s ∷ ss) k seconds d are = absurd are
sites_ticked (x ∷ sites) [] k seconds d are = absurd are
sites_ticked (x ∷ sites) (s ∷ ss) zero seconds d are = (is_ticked x s seconds are.0, are.1)
sites_ticked (x ∷ sites) (s ∷ ss) (suc k) seconds d are = (are.0, sites_ticked sites ss k seconds d are.1)

pub sites_all_ticked : {D V : Type 0} {g : Ghosts D} (sites : List (Site D V g)) (ss : List ModelSite) (seconds : ℕ) → AreSitesOf sites ss
    → AreSitesOf (map (ticked_on seconds) sites) (map (ticked seconds) ss)
sites_all_ticked [] [] seconds are = tt
sites_all_ticked [] (s ∷ ss) seconds are = absurd are
sites_all_ticked (x ∷ sites) [] seconds are = absurd are
sites_all_ticked (x ∷ sites) (s ∷ ss) seconds are = (is_ticked x s seconds are.0, sites_all_ticked sites ss seconds are.1)

-- ---- sound sites

pub sound_at : {D V : Type 0} (g : Ghosts D) (hosts : List Host) (place bound : ℕ) (sites : List (Site D V g)) (k : ℕ) (site : Site D V g)
    → AreSound g hosts place bound sites → slice_get sites k ≡ Some site
    → IsSoundSite g (record { hosts = hosts; me = place + k }) bound site
sound_at {D} {V} g hosts place bound [] k site are there = cc
sound_at {D} {V} g hosts place bound (x ∷ sites) zero site are there =
    let same : x ≡ site = cc in
    let me : place ≡ place + 0 = omega arith in
    subst (λ (n : ℕ). IsSoundSite g (record { hosts = hosts; me = n }) bound site) me
    (subst (λ (y : Site D V g). IsSoundSite g (record { hosts = hosts; me = place }) bound y) same are.0)
sound_at {D} {V} g hosts place bound (x ∷ sites) (suc k) site are there =
    let me : place + 1 + k ≡ place + suc k = omega arith in
    subst (λ (n : ℕ). IsSoundSite g (record { hosts = hosts; me = n }) bound site) me
    (sound_at g hosts (place + 1) bound sites k site are.1 there)

pub sound_set : {D V : Type 0} (g : Ghosts D) (hosts : List Host) (place bound : ℕ) (sites : List (Site D V g)) (k : ℕ) (site : Site D V g)
    → AreSound g hosts place bound sites → IsSoundSite g (record { hosts = hosts; me = place + k }) bound site
    → AreSound g hosts place bound (set sites k site)
sound_set {D} {V} g hosts place bound [] k site are is = tt
sound_set {D} {V} g hosts place bound (x ∷ sites) zero site are is =
    let me : place + 0 ≡ place = omega arith in
    (subst (λ (n : ℕ). IsSoundSite g (record { hosts = hosts; me = n }) bound site) me is, are.1)
sound_set {D} {V} g hosts place bound (x ∷ sites) (suc k) site are is =
    let me : place + suc k ≡ place + 1 + k = omega arith in (
      are.0,
      sound_set g hosts (place + 1) bound sites k site are.1
          (subst (λ (n : ℕ). IsSoundSite g (record { hosts = hosts; me = n }) bound site) me is),
    )

pub sound_push : {D V : Type 0} (g : Ghosts D) (hosts : List Host) (place bound : ℕ) (sites : List (Site D V g)) (site : Site D V g)
    → AreSound g hosts place bound sites → IsSoundSite g (record { hosts = hosts; me = place + length sites }) bound site
    → AreSound g hosts place bound (sites ++ site ∷ [])
sound_push {D} {V} g hosts place bound [] site are is =
    let me : place + 0 ≡ place = omega arith in
    (subst (λ (n : ℕ). IsSoundSite g (record { hosts = hosts; me = n }) bound site) me is, tt)
sound_push {D} {V} g hosts place bound (x ∷ sites) site are is =
    let me : place + length (x ∷ sites) ≡ place + 1 + length sites = omega arith in (
      are.0,
      sound_push g hosts (place + 1) bound sites site are.1
          (subst (λ (n : ℕ). IsSoundSite g (record { hosts = hosts; me = n }) bound site) me is),
    )

-- ---- disks

-- no disk failed meanwhile
pub rises_none : (k : ℕ) (disks : List Held) → AreRises k [] disks disks
rises_none k [] = tt
rises_none k (disk ∷ disks) = (omega arith, rises_none (k + 1) disks)

pub rises_same : (before after : List Held) → after ≡ before → AreRises 0 [] before after
rises_same before after same = subst (λ (l : List Held). AreRises 0 [] before l) (sym same) (rises_none 0 before)

-- ---- a server that was read

pub site_there : {X : Type 0} (xs : List X) (k : ℕ) (x : X) → k < length xs → x ≡ get_or xs k x → slice_get xs k ≡ Some x
site_there xs k x less is = slice_get_read xs (length xs) k x refl less is

pub down_at : {D V : Type 0} {g : Ghosts D} (running : OpenCell D V g) (c : Cell) (k : ℕ) (site : Site D V g) (disk : D)
    → AreSitesOf running.sites.items c.run.world.sites
    → slice_get running.sites.items k ≡ Some site → site.server ≡ server.Down disk → is_down_at c k ≡ true
down_at {D} {V} {g} running c k site disk stands there is =
    let at = site_at running.sites.items c.run.world.sites k site stands there in
    ap (λ (o : Option ModelSite). is_down (node_in o)) at.there ∙ ap is_down (at.is.node ∙ ap (λ (s : Server D V g). server_node s) is)

is_up : (halted : Bool) (u : model.Server) → is_down (if halted then model.Halted (model.halted_from u) else model.Up u) ≡ false
is_up true u = refl
is_up false u = refl

pub up_at : {D V : Type 0} {g : Ghosts D} (running : OpenCell D V g) (c : Cell) (k : ℕ) (site : Site D V g) (n : Node D V g)
    → AreSitesOf running.sites.items c.run.world.sites
    → slice_get running.sites.items k ≡ Some site → site.server ≡ server.Up n → is_down_at c k ≡ false
up_at {D} {V} {g} running c k site n stands there is =
    let at = site_at running.sites.items c.run.world.sites k site stands there in
    ap (λ (o : Option ModelSite). is_down (node_in o)) at.there ∙ ap is_down (at.is.node ∙ ap (λ (s : Server D V g). server_node s) is)
    ∙ is_up n.store.failed (up_server n)

pub cell_size : {D V : Type 0} {database : Database} {given : List ℕ} (g : Ghosts D) (bound : ℕ) (running : OpenCell D V g) (c : Cell)
    → IsSteady g bound running → IsModelledBy g database given running c → cell_size_of c ≡ length running.sites.items
cell_size g bound running c sound stands =
    ap (λ (l : List Host). length l) (stands.hosts ∙ sound.hosts) ∙ length-hosts_of (length running.sites.items)

pub get_set_before : {X : Type 0} (xs : List X) (i k : ℕ) (y : X) → i < k → slice_get (set xs i y) k ≡ slice_get xs k
get_set_before [] i k y less = refl
get_set_before (x ∷ xs) zero zero y less = absurd (omega (arith, less))
get_set_before (x ∷ xs) zero (suc k) y less = refl
get_set_before (x ∷ xs) (suc i) zero y less = absurd (omega (arith, less))
get_set_before (x ∷ xs) (suc i) (suc k) y less = get_set_before xs i k y (omega (arith, less))

-- an element that was taken out and put back changed
pub put_back : {X : Type 0} (xs : List X) (k : ℕ) (y : X) → k < length xs → insert (remove xs k) k y ≡ set xs k y
put_back [] k y less = absurd (omega (arith, less))
put_back (x ∷ xs) zero y less = refl
put_back {X} (x ∷ xs) (suc k) y less = ap (λ (l : List X). x ∷ l) (put_back xs k y (omega (arith, less)))
