-- Disks that are to stop.
use Rattle.std.proofs.Common.{if◌then◌else◌, ◌≡◌, ◌<◌, ◌≤◌, ◌+◌, ◌-◌, ℕ, zero, suc, Bool, true, false, Option, Some, None, List, [], ◌∷◌, set}
use Rattle.std.proofs.Common.{take, refl, sym, ap, subst, ◌∙◌, arith}
use Rattle.std.specs.Prelude.{nat_lt, slice_get}
use Rattle.std.proofs.lemmas.Bool.{eq-eqb, ne_eqb}
use Rattle.std.proofs.lemmas.Bool.Decides.{nat_tests}
use Rattle.disk_base.specs.declared.disks.Disk.{Ghosts}
use Rattle.disk_base.specs.declared.disks.Fill.{Fill}
use Rattle.disk_base.specs.Stops.{DiskStop, IsStopped, after_change, after_changes}
use Rattle.disk_base.specs.Stops.DiskStop.{Unarmed, Stopped, Armed as ToStop}
use Rattle.ubik_types.specs.declared.versions.Version.{Version}
use Rattle.cell_model.specs.Durable.{Made, version_after}
use Rattle.cell_model.specs.World.{calls_on}
use Rattle.cell_runs.specs.Script.{Armed, armed_at, calls_before_stop, calls_on_all, counted_on, one_more, stops_in}
use Rattle.cell_sites.specs.declared.sites.Site.{Site}
use Rattle.cell_sites.specs.Sites.{AreArmed, IsArmedAs, StopsAs, server_node, site_disk}

-- ---- a stop after so many changing calls

pub never_stops : (n : ℕ) → after_changes n Unarmed ≡ Unarmed
never_stops zero = refl
never_stops (suc n) = ap after_change (never_stops n)

stays_stopped : (n : ℕ) (fill : Fill) → after_changes n (Stopped fill) ≡ Stopped fill
stays_stopped zero fill = refl
stays_stopped (suc n) fill = ap after_change (stays_stopped n fill)

-- an armed disk lets so many pass
pub passes : (n left : ℕ) (fill : Fill) → n ≤ left → after_changes n (ToStop left fill) ≡ ToStop (left - n) fill
passes zero left fill less = ap (λ (m : ℕ). ToStop m fill) (omega arith)
passes (suc n) left fill less =
    ap after_change (passes n left fill (omega arith))
    ∙ ap (λ (b : Bool). if b then Stopped fill else ToStop (left - n - 1) fill) (ne_eqb (left - n) 0 (λ is. omega (arith, is)))
    ∙ ap (λ (m : ℕ). ToStop m fill) (omega arith)

-- and stops in the next one
pub stops_past : (n left : ℕ) (fill : Fill) → left < n → after_changes n (ToStop left fill) ≡ Stopped fill
stops_past zero left fill less = absurd (omega arith)
stops_past (suc n) left fill less = by (nat_lt left n) refl (λ earlier. stops_past n left fill earlier)
  where
    by : (b : Bool) → nat_lt left n ≡ b → (left < n → after_changes n (ToStop left fill) ≡ Stopped fill)
        → after_changes (suc n) (ToStop left fill) ≡ Stopped fill
    by true is before = ap after_change (before (grind (arith, nat_tests)))
    by false is before =
        let same : left ≡ n = grind (arith, nat_tests) in
        ap after_change (passes n left fill (omega arith))
        ∙ ap (λ (b : Bool). if b then Stopped fill else ToStop (left - n - 1) fill) (eq-eqb (left - n) 0 (omega arith))

pub not_past : (n left : ℕ) (fill : Fill) → (IsStopped (after_changes n (ToStop left fill)) → ⊥) → n ≤ left
not_past n left fill runs = by (nat_lt left n) refl
  where
    by : (b : Bool) → nat_lt left n ≡ b → n ≤ left
    by true is = absurd (runs (subst IsStopped (sym (stops_past n left fill (grind (arith, nat_tests)))) tt))
    by false is = grind (arith, nat_tests)

pub is_past : (n left : ℕ) (fill : Fill) → IsStopped (after_changes n (ToStop left fill)) → left < n
is_past n left fill stopped = by (nat_lt left n) refl
  where
    by : (b : Bool) → nat_lt left n ≡ b → left < n
    by true is = grind (arith, nat_tests)
    by false is = absurd (subst IsStopped (passes n left fill (grind (arith, nat_tests))) stopped)

pub unarmed_runs : (n : ℕ) → IsStopped (after_changes n Unarmed) → ⊥
unarmed_runs n stopped = subst IsStopped (never_stops n) stopped

-- ---- where a disk stops that lets so many changing calls pass

pub take_nil : {X : Type 0} (n : ℕ) → take {A = X} n [] ≡ []
take_nil zero = refl
take_nil (suc n) = refl

none_before : (v : Version) (left : ℕ) (calls : List Made) → calls_on_all v calls ≤ left → calls_before_stop v left calls ≡ None
none_before v left [] within = refl
none_before v left (made ∷ calls) within =
    let passes_it : nat_lt left (calls_on v made) ≡ false = grind (arith, nat_tests, within) in
    let rest = none_before (version_after made.call) (left - calls_on v made) calls (omega (arith, within)) in
    ap (λ (b : Bool). if b then Some 0 else one_more (calls_before_stop (version_after made.call) (left - calls_on v made) calls)) passes_it
    ∙ ap one_more rest

at_call : (v : Version) (left : ℕ) (calls : List Made) (w : ℕ) → calls_on_all v (take w calls) ≤ left
    → left < calls_on_all v (take (w + 1) calls)
    → calls_before_stop v left calls ≡ Some w
at_call v left [] w low high = let none = ap (calls_on_all v) (take_nil {X = Made} (w + 1)) in absurd (omega (arith, none, high))
at_call v left (made ∷ calls) zero low high =
    let first : nat_lt left (calls_on v made) ≡ true = grind (arith, nat_tests, high) in
    ap (λ (b : Bool). if b then Some 0 else one_more (calls_before_stop (version_after made.call) (left - calls_on v made) calls)) first
at_call v left (made ∷ calls) (suc w) low high =
    let next : suc w + 1 ≡ suc (w + 1) = omega arith in
    let most = ap (λ (n : ℕ). calls_on_all v (take n (made ∷ calls))) next in
    let passes_it : nat_lt left (calls_on v made) ≡ false = grind (arith, nat_tests, low) in
    let rest =
    at_call (version_after made.call) (left - calls_on v made) calls w (omega (arith, low)) (omega (arith, low, high, most)) in
    let one : w + 1 ≡ suc w = omega arith in
    ap (λ (b : Bool). if b then Some 0 else one_more (calls_before_stop (version_after made.call) (left - calls_on v made) calls)) passes_it
    ∙ ap one_more rest ∙ ap Some one

-- ---- which disk stops in a step

-- a disk that a step does not stop is counted on
pub counts_on : (armed : Option Armed) (before : DiskStop) (calls : ℕ) → StopsAs armed before → (IsStopped (after_changes calls before) → ⊥)
    → StopsAs (counted_on calls armed) (after_changes calls before)
counts_on None before calls stops runs = ap (after_changes calls) stops ∙ never_stops calls
counts_on (Some armed) before calls stops runs =
    let fill = stops.1.0 in
    let left = armed.calls - armed.made in
    let is : after_changes calls before ≡ after_changes calls (ToStop left fill) = ap (after_changes calls) stops.1.1 in
    let few = not_past calls left fill (λ stopped. runs (subst IsStopped (sym is) stopped)) in
    let low = stops.0 in (
      omega (arith, few, low),
      (fill, is ∙ passes calls left fill few ∙ ap (λ (m : ℕ). ToStop m fill) (omega (arith, few, low))),
    )

-- it is not to stop in it
pub none_stops : (v : Version) (calls : List Made) (armed : Option Armed) (before : DiskStop) → StopsAs armed before
    → (IsStopped (after_changes (calls_on_all v calls) before) → ⊥) → stops_in v calls armed ≡ None
none_stops v calls None before stops runs = refl
none_stops v calls (Some armed) before stops runs =
    none_before v (armed.calls - armed.made) calls
    (not_past (calls_on_all v calls) (armed.calls - armed.made) stops.1.0
    (λ stopped. runs (subst (λ (s : DiskStop). IsStopped (after_changes (calls_on_all v calls) s)) (sym stops.1.1) stopped)))

-- the durable call in which it stops
pub whole_before : (v : Version) (calls : List Made) (armed : Option Armed) (before : DiskStop) (whole rise : ℕ) → StopsAs armed before
    → (IsStopped (after_changes (calls_on_all v (take whole calls)) before) → ⊥) → IsStopped (after_changes rise before)
    → rise ≤ calls_on_all v (take (whole + 1) calls) → stops_in v calls armed ≡ Some whole
whole_before v calls None before whole rise stops runs stopped most =
    absurd (unarmed_runs rise (subst (λ (s : DiskStop). IsStopped (after_changes rise s)) stops stopped))
whole_before v calls (Some armed) before whole rise stops runs stopped most =
    at_call v (armed.calls - armed.made) calls whole
    (not_past (calls_on_all v (take whole calls)) (armed.calls - armed.made) stops.1.0
    (λ is. runs (subst (λ (s : DiskStop). IsStopped (after_changes (calls_on_all v (take whole calls)) s)) (sym stops.1.1) is)))
    (let past = is_past rise (armed.calls - armed.made) stops.1.0
    (subst (λ (s : DiskStop). IsStopped (after_changes rise s)) stops.1.1 stopped) in
    omega (arith, past, most))

-- ---- the disks of a cell

module _ {D V : Type 0} (g : Ghosts D) where
  pub armed_here : (sites : List (Site D V g)) (armed : List (Option Armed)) (k : ℕ) (site : Site D V g) → AreArmed g sites armed
      → slice_get sites k ≡ Some site
      → IsArmedAs (server_node site.server) (armed_at armed k) (g.stop (site_disk site))
  armed_here [] armed k site are there = cc
  armed_here (x ∷ sites) [] k site are there = absurd are
  armed_here (x ∷ sites) (a ∷ armed) zero site are there =
      let same : x ≡ site = cc in subst (λ (y : Site D V g). IsArmedAs (server_node y.server) a (g.stop (site_disk y))) same are.0
  armed_here (x ∷ sites) (a ∷ armed) (suc k) site are there = armed_here sites armed k site are.1 there

  -- another server, and another stop of its disk
  pub armed_set : (sites : List (Site D V g)) (armed : List (Option Armed)) (k : ℕ) (later : Site D V g) (stop : Option Armed)
      → AreArmed g sites armed
      → IsArmedAs (server_node later.server) stop (g.stop (site_disk later)) → AreArmed g (set sites k later) (set armed k stop)
  armed_set [] [] k later stop are is = tt
  armed_set [] (a ∷ armed) k later stop are is = absurd are
  armed_set (x ∷ sites) [] k later stop are is = absurd are
  armed_set (x ∷ sites) (a ∷ armed) zero later stop are is = (is, are.1)
  armed_set (x ∷ sites) (a ∷ armed) (suc k) later stop are is = (are.0, armed_set sites armed k later stop are.1 is)

  -- another server alone
  pub armed_still : (sites : List (Site D V g)) (armed : List (Option Armed)) (k : ℕ) (later : Site D V g) → AreArmed g sites armed
      → IsArmedAs (server_node later.server) (armed_at armed k) (g.stop (site_disk later)) → AreArmed g (set sites k later) armed
  armed_still [] [] k later are is = tt
  armed_still [] (a ∷ armed) k later are is = absurd are
  armed_still (x ∷ sites) [] k later are is = absurd are
  armed_still (x ∷ sites) (a ∷ armed) zero later are is = (is, are.1)
  armed_still (x ∷ sites) (a ∷ armed) (suc k) later are is = (are.0, armed_still sites armed k later are.1 is)

-- what is armed at a place stays so where it is set to that
pub set_armed : (armed : List (Option Armed)) (k : ℕ) → set armed k (armed_at armed k) ≡ armed
set_armed [] k = refl
set_armed (a ∷ armed) zero = refl
set_armed (a ∷ armed) (suc k) = ap (λ (l : List (Option Armed)). a ∷ l) (set_armed armed k)
