-- Durable calls that leave a version which is not the first one: behind the first of them the database file has a label.
use Rattle.std.proofs.Common.{◌≡◌, ◌+◌, ℕ, zero, suc, Bool, true, false, List, [], ◌∷◌, take, refl, sym, ap, ◌∙◌}
use Rattle.std.specs.Prelude.{not}
use Rattle.ubik_types.specs.declared.versions.Version.{Version}
use Rattle.ubik_types.specs.Version.{version_eq, zero_version}
use Rattle.cell_model.specs.Durable.{Durable, DurableCall, Commit, Relabel, Install, Made, disk_calls, durable_after, version_after}
use Rattle.cell_model.specs.World.{calls_on}
use Rattle.cell_runs.specs.Script.{calls_on_all}
use Rattle.recovery_laws.specs.Spreads.{AllFit, FitsOver}
use Rattle.ubik_node.specs.Disk.{calls_made}

abbrev pub AllLater : List Made → Type 0
AllLater [] = Unit {0}
AllLater (made ∷ calls) = (version_eq (version_after made.call) zero_version ≡ false) × AllLater calls

call_later : (before : List ℕ) (call : DurableCall) → FitsOver before call → version_eq (version_after call) zero_version ≡ false
call_later before (Commit version changes image) fits = fits.0.later
call_later before (Relabel version) fits = fits.later
call_later before (Install version image) fits = fits.0.later

pub all_later : (d : Durable) (calls : List Made) → AllFit d calls → AllLater calls
all_later d [] fits = tt
all_later d (made ∷ calls) fits = (call_later d.image made.call fits.0, all_later (durable_after d made.call) calls fits.1)

pub take_later : (n : ℕ) (calls : List Made) → AllLater calls → AllLater (take n calls)
take_later zero calls later = tt
take_later (suc n) [] later = tt
take_later (suc n) (made ∷ calls) later = (later.0, take_later n calls later.1)

-- how many changing calls they make
pub made_on : (labelled : Bool) (v : Version) (calls : List Made) → AllLater calls → labelled ≡ not (version_eq v zero_version)
    → calls_made labelled calls ≡ calls_on_all v calls
made_on labelled v [] later same = refl
made_on labelled v (made ∷ calls) later same =
    ap (λ (b : Bool). disk_calls b made.call + calls_made true calls) same
    ∙ ap (λ (n : ℕ). calls_on v made + n) (made_on true (version_after made.call) calls later.1 (sym (ap not later.0)))
