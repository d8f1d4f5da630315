-- Worlds that scripts lead to: servers have their places, packets go from host to host of the cell, and ids are of so many calls.
use Rattle.std.proofs.Common.{Bool, true, false, not, ◌==◌, ◌&&◌, ◌≡◌, ℕ, zero, suc, ◌<◌, ◌≤◌, List, [], ◌∷◌, length, slice_get, refl, ap, ◌∙◌, arith}
use Rattle.std.proofs.lemmas.Bool.Decides.{nat_tests}
use Rattle.std.proofs.lemmas.List.{length-set}
use Rattle.std.proofs.lemmas.List.Elements.{All-nil, All-cons, All-head, All-tail, All-weaker, All-append, All-set, All-map}
use Rattle.std.specs.List.{list_all}
use Rattle.std.specs.Prelude.{Some, All, map}
use Rattle.ubik_types.specs.declared.hosts.Host.{Host}
use Rattle.cell_model.specs.declared.events.NodeEvent.{NodeEvent}
use Rattle.cell_model.specs.declared.events.NodeEvent.TheVariants as event
use Rattle.cell_model.specs.Durable.{no_database}
use Rattle.cell_model.specs.World.{Site, World, SiteHappened, packets_of, happened_at, asked_after, is_new_ask, ticked, tick_at, first_site, first_world}
use Rattle.cell_places.specs.Places.{IsBetween, PacketsHavePlaces}
use Rattle.script_laws.specs.CellRuns.{IdsFit, SiteFits, Fits}

-- ---- ids

more_ids : (asks later : ℕ) (ids : List ℕ) → asks ≤ later → IdsFit asks ids → IdsFit later ids
more_ids asks later [] more fit = tt
more_ids asks later (id ∷ ids) more fit = (omega (arith, fit.0), more_ids asks later ids more fit.1)

-- an id that is too great is none of them
not_among : (asks id : ℕ) (ids : List ℕ) → IdsFit asks ids → asks < id → list_all (λ other. not (other == id)) ids ≡ true
not_among asks id [] fit great = refl
not_among asks id (x ∷ ids) fit great =
    let within : x ≤ asks = fit.0 in
    let other : not (x == id) ≡ true = grind (arith, nat_tests, within, great) in
    ap (λ (b : Bool). b && list_all (λ other. not (other == id)) ids) other ∙ not_among asks id ids fit.1 great

-- an event of a server after which so many calls were asked: an ask has a number behind the earlier ones
abbrev pub AskFits : ℕ → ℕ → NodeEvent → Type 0
AskFits asks later (event.Ask id call) = (asks < id) × (id ≤ later)
AskFits asks later _ = Unit {0}

pub asked_fit : (asks later : ℕ) (ids : List ℕ) (e : NodeEvent) → asks ≤ later → AskFits asks later e → IdsFit asks ids
    → IdsFit later (asked_after ids e)
asked_fit asks later ids (event.Packet p) more is fit = more_ids asks later ids more fit
asked_fit asks later ids event.BeaconTurn more is fit = more_ids asks later ids more fit
asked_fit asks later ids event.RecoverTurn more is fit = more_ids asks later ids more fit
asked_fit asks later ids (event.Ask id call) more is fit = (is.1, more_ids asks later ids more fit)

pub new_ask : (asks later : ℕ) (ids : List ℕ) (e : NodeEvent) → AskFits asks later e → IdsFit asks ids → is_new_ask ids e ≡ true
new_ask asks later ids (event.Packet p) is fit = refl
new_ask asks later ids event.BeaconTurn is fit = refl
new_ask asks later ids event.RecoverTurn is fit = refl
new_ask asks later ids (event.Ask id call) is fit = not_among asks id ids fit is.0

-- ---- sites and worlds

pub site_later : (hosts : List Host) (asks later : ℕ) (site : Site) → asks ≤ later → SiteFits hosts asks site → SiteFits hosts later site
site_later hosts asks later site more fit = record { ids = more_ids asks later site.asked more fit.ids; node = fit.node }

pub more_fits : (asks later : ℕ) (w : World) → asks ≤ later → Fits asks w → Fits later w
more_fits asks later w more fits = record {
  each = fits.each;
  sites = All-weaker (SiteFits w.hosts asks) (SiteFits w.hosts later) (λ site. site_later w.hosts asks later site more) w.sites fits.sites;
  packets = fits.packets;
}

-- what stands at a place of a list
pub element_there : {X : Type 0} (P : X → Type 0) (xs : List X) (k : ℕ) → k < length xs → All P xs
    → (x : X) × (slice_get xs k ≡ Some x) × P x
element_there P [] k inside all = absurd (omega arith)
element_there P (x ∷ xs) zero inside all = (x, refl, All-head P x xs all)
element_there P (x ∷ xs) (suc k) inside all = element_there P xs k (omega arith) (All-tail P x xs all)

-- the server of a place of the cell
pub site_there : (asks : ℕ) (w : World) (k : ℕ) → Fits asks w → k < length w.hosts
    → (site : Site) × (slice_get w.sites k ≡ Some site) × SiteFits w.hosts asks site
site_there asks w k fits inside = element_there (SiteFits w.hosts asks) w.sites k (omega (arith, fits.each)) fits.sites

-- what happens at one server
pub fits_at : (asks later : ℕ) (w : World) (k : ℕ) (h : SiteHappened) → asks ≤ later → Fits asks w → SiteFits w.hosts later h.site
    → All (IsBetween w.hosts) (packets_of h.shown) → Fits later (happened_at w k h).world
fits_at asks later w k h more fits site packets = record {
  each = length-set w.sites k h.site ∙ fits.each;
  sites = All-set (SiteFits w.hosts later) w.sites k h.site site (more_fits asks later w more fits).sites;
  packets = All-append (IsBetween w.hosts) w.packets (packets_of h.shown) fits.packets packets;
}

-- ---- ticks

pub length-tick : (sites : List Site) (k seconds : ℕ) → length (tick_at sites k seconds) ≡ length sites
length-tick [] k seconds = refl
length-tick (site ∷ sites) zero seconds = refl
length-tick (site ∷ sites) (suc k) seconds = ap suc (length-tick sites k seconds)

tick_fits : (hosts : List Host) (asks : ℕ) (sites : List Site) (k seconds : ℕ) → All (SiteFits hosts asks) sites
    → All (SiteFits hosts asks) (tick_at sites k seconds)
tick_fits hosts asks [] k seconds all = All-nil (SiteFits hosts asks)
tick_fits hosts asks (site ∷ sites) zero seconds all =
    let first : SiteFits hosts asks site = All-head (SiteFits hosts asks) site sites all in
    All-cons (SiteFits hosts asks) (ticked seconds site) sites (record { ids = first.ids; node = first.node })
    (All-tail (SiteFits hosts asks) site sites all)
tick_fits hosts asks (site ∷ sites) (suc k) seconds all =
    All-cons (SiteFits hosts asks) site (tick_at sites k seconds) (All-head (SiteFits hosts asks) site sites all)
    (tick_fits hosts asks sites k seconds (All-tail (SiteFits hosts asks) site sites all))

pub ticked_fits : (asks : ℕ) (w : World) (k seconds : ℕ) → Fits asks w → Fits asks (record w { sites = tick_at w.sites k seconds })
ticked_fits asks w k seconds fits = record {
  each = length-tick w.sites k seconds ∙ fits.each;
  sites = tick_fits w.hosts asks w.sites k seconds fits.sites;
  packets = fits.packets;
}

length-map : (f : Site → Site) (sites : List Site) → length (map f sites) ≡ length sites
length-map f [] = refl
length-map f (site ∷ sites) = ap suc (length-map f sites)

pub all_ticked_fits : (asks : ℕ) (w : World) (seconds : ℕ) → Fits asks w → Fits asks (record w { sites = map (ticked seconds) w.sites })
all_ticked_fits asks w seconds fits = record {
  each = length-map (ticked seconds) w.sites ∙ fits.each;
  sites = All-map (SiteFits w.hosts asks) (ticked seconds) w.sites
      (All-weaker (SiteFits w.hosts asks) (λ site. SiteFits w.hosts asks (ticked seconds site))
      (λ site fit. record { ids = fit.ids; node = fit.node }) w.sites fits.sites);
  packets = fits.packets;
}

-- ---- the first world

first_site_fits : PacketsHavePlaces → (hosts : List Host) (asks clock : ℕ) (failed : Bool)
    → SiteFits hosts asks (first_site (length hosts) clock failed)
first_site_fits law hosts asks clock true = record { ids = tt; node = tt }
first_site_fits law hosts asks clock false =
    record { ids = tt; node = law.first (length hosts) no_database clock }

length-first : (n clock : ℕ) (failed : List Bool) → length (map (first_site n clock) failed) ≡ length failed
length-first n clock [] = refl
length-first n clock (one ∷ failed) = ap suc (length-first n clock failed)

first_sites_fit : PacketsHavePlaces → (hosts : List Host) (asks clock : ℕ) (failed : List Bool)
    → All (SiteFits hosts asks) (map (first_site (length hosts) clock) failed)
first_sites_fit law hosts asks clock [] = All-nil (SiteFits hosts asks)
first_sites_fit law hosts asks clock (one ∷ failed) =
    All-cons (SiteFits hosts asks) (first_site (length hosts) clock one) (map (first_site (length hosts) clock) failed)
    (first_site_fits law hosts asks clock one)
    (first_sites_fit law hosts asks clock failed)

pub first_fits : PacketsHavePlaces → (hosts : List Host) (asks clock : ℕ) (failed : List Bool) → length failed ≡ length hosts
    → Fits asks (first_world hosts clock failed)
first_fits law hosts asks clock failed each = record {
  each = length-first (length hosts) clock failed ∙ each;
  sites = first_sites_fit law hosts asks clock failed;
  packets = All-nil (IsBetween hosts);
}
