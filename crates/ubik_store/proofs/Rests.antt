-- Files at rest, and the store over them.
use Rattle.std.proofs.Common.{◌≡◌, ℕ, List, length, Option, Some, None, IfSome, refl, sym, ap, subst, ◌∙◌, arith}
use Rattle.ubik_types.specs.declared.versions.Version.{Version}
use Rattle.disk_base.specs.Files.{Files}
use Rattle.page_file.specs.Pages.{Known, image_of}
use Rattle.ubik_log.proofs.Gates.{short_log_is_discarded}
use Rattle.incoming_file.proofs.Opens.{empty_ignored}
use Rattle.ubik_store.specs.Files.{StandsFor}
use Rattle.ubik_store.specs.Files.StandsFor.{by_label}
use Rattle.ubik_store.specs.Rest.{IsAtRest, RestsAs}

-- where the disk tells its files, they are at rest under this version
abbrev pub AllAtRest : Version → Option Files → Type 0
AllAtRest version files = IfSome files (λ fs. IsAtRest version (image_of fs.database) fs)

pub rests_here : (files : Option Files) (version : Version) (image : List ℕ) → RestsAs version image files → AllAtRest version files
rests_here files version image rests =
    let fs = rests.0 in
    let rest = rests.2 in
    let here : IsAtRest version
    (image_of fs.database) fs = record { incoming = rest.incoming; log = rest.log; label = rest.label; content = refl } in
    subst (AllAtRest version) (sym rests.1) here

-- files at rest stand for their version and their image
pub at_rest_stands : (fs : Files) (version : Version) (image : List ℕ) → IsAtRest version image fs → StandsFor fs version image
at_rest_stands fs version image rests =
    let none = short_log_is_discarded fs.log (omega (arith, ap length rests.log)) in
    subst (StandsFor fs version) rests.content (by_label fs version (empty_ignored fs.incoming rests.incoming) none rests.label)

-- files at rest are left, as what the files stood for
abbrev pub Rested : Option Files → Known → Files → Type 0
Rested new pages fs = (version : Version) × (image : List ℕ) × StandsFor fs version image × RestsAs version image new
    × (pages.version ≡ Some version) × (pages.len ≡ length image)

pub opened_rests : (old new : Option Files) (v : Version) (pages : Known) → pages.version ≡ Some v → IfSome old (Rested new pages)
    → (old ≡ None → new ≡ None) → AllAtRest v new
opened_rests None new v pages label stands untold = subst (AllAtRest v) (sym (untold refl)) tt
opened_rests (Some fs) new v pages label stands untold =
    let same : stands.0 ≡ v = cc in
    rests_here new v stands.1 (subst (λ (w : Version). RestsAs w stands.1 new) same stands.3)

-- and of those that stand there after it
abbrev pub StandsAs : Version → ℕ → Option Files → Files → Type 0
StandsAs v len new fs = (image : List ℕ) × StandsFor fs v image × RestsAs v image new × (len ≡ length image)

pub opened_stands : (old new : Option Files) (v : Version) (len : ℕ) (pages : Known) → pages.version ≡ Some v → len ≡ pages.len
    → IfSome old (Rested new pages) → IfSome old (StandsAs v len new)
opened_stands None new v len pages label same stands = tt
opened_stands (Some fs) new v len pages label is stands =
    let same : stands.0 ≡ v = cc in
    let image = stands.1 in (
      image,
      subst (λ (w : Version). StandsFor fs w image) same stands.2,
      subst (λ (w : Version). RestsAs w image new) same stands.3,
      is
          ∙ stands.5,
    )
