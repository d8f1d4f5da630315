-- What a durable call leaves is at rest, and has room for a relabelling.
use Rattle.std.proofs.Common.{◌≡◌, ◌≤◌, inl, inr, ℕ, List, [], ◌∷◌, length, Option, Some, refl, subst, ap, ◌∙◌, arith, length-drop}
use Rattle.std.proofs.lemmas.Bool.{cases_lt}
use Rattle.std.proofs.lemmas.List.Elements.{All-head, All-tail}
use Rattle.std.specs.List.{All}
use Rattle.ubik_types.specs.declared.images.Change.{Change}
use Rattle.ubik_types.specs.declared.images.Change.TheVariants.{Put, Cut}
use Rattle.ubik_types.specs.declared.versions.Version.{Version}
use Rattle.ubik_types.specs.Image.{effect}
use Rattle.disk_base.specs.Files.{Files}
use Rattle.page_file.specs.declared.label.TheConstants.{MAX_DATABASE_LEN}
use Rattle.page_file.specs.Pages.{Known, Agrees, AgreesIn, image_of}
use Rattle.ubik_log.specs.LogGrammar.{IsCommitted, IsTold, IsWithinImage}
use Rattle.ubik_log.proofs.Gates.{short_log_is_discarded}
use Rattle.ubik_store.specs.Moments.{finished, ended, applied, with_head}
use Rattle.ubik_store.specs.Redo.{changed_len, len_after, IsSeamless}
use Rattle.ubik_store.specs.Rest.{EndedAs, IsEnded, RestsAs}
use Rattle.ubik_store.proofs.Ending.{image_finished, version_labelled}
use Rattle.ubik_store.proofs.Redone.{length-effect}
use Rattle.ubik_store.proofs.Telling.{of_told}

len_within : (change : Change) (len : ℕ) → IsWithinImage change → len ≤ 16777216 → changed_len len change ≤ 16777216
len_within (Put at bytes) len within fits = omega (arith, within, fits)
len_within (Cut to) len within fits = omega (arith, within, fits)

-- changes within the longest image leave none that is longer
pub len_after_within : (changes : List Change) (len : ℕ) → All IsWithinImage changes → len ≤ 16777216 → len_after len changes ≤ 16777216
len_after_within [] len within fits = fits
len_after_within (change ∷ changes) len within fits =
    len_after_within changes (changed_len len change) (All-tail IsWithinImage change changes within)
    (len_within change len (All-head IsWithinImage change changes within) fits)

-- how long the image is, by the pages
pub len_of : (pages : Known) (files : Option Files) (fs : Files) → AgreesIn pages files → files ≡ Some fs
    → pages.len ≡ length (image_of fs.database)
len_of pages files fs agrees is = (of_told files fs (λ fs. Agrees pages fs.database) is agrees).len

pub seamless_of : (pages : Known) (files : Option Files) (fs : Files) (changes : List Change) → AgreesIn pages files → files ≡ Some fs
    → IsSeamless pages.len changes
    → IsSeamless (length (image_of fs.database)) changes
seamless_of pages files fs changes agrees is seamless = subst (λ (n : ℕ). IsSeamless n changes) (len_of pages files fs agrees is) seamless

finished_fits : (changes : List Change) (v : Version) (file : List ℕ) → All IsWithinImage changes
    → IsSeamless (length (image_of file)) changes → length (image_of file) ≤ 16777216
    → length (finished changes v file) ≤ MAX_DATABASE_LEN
finished_fits changes v file within seamless fits =
    let image : length (image_of (finished changes v file)) ≡ length (effect (image_of file) changes) = ap length
    (image_finished changes v file seamless) in
    let after = len_after_within changes (length (image_of file)) within fits in
    omega (arith, image, after, length-effect (image_of file) changes, length-drop 64 (finished changes v file))

pub ended_after : (changes : List Change) (v : Version) (fs : Files) → IsTold changes v → IsSeamless (length (image_of fs.database)) changes
    → length (image_of fs.database) ≤ 16777216 → IsEnded v (effect (image_of fs.database) changes) (ended changes v fs)
ended_after changes v fs is seamless fits = record {
  log = refl;
  label =
      version_labelled v (applied changes (with_head fs.database)) is.is_version
      (finished_fits changes v fs.database is.within_image seamless fits);
  content = image_finished changes v fs.database seamless;
}

pub ended_in : (changes : List Change) (v : Version) (fs : Files) (pages : Known) (old new : Option Files) → IsTold changes v
    → AgreesIn pages old → old ≡ Some fs
    → IsSeamless pages.len changes → pages.len ≤ 16777216 → new ≡ Some (ended changes v fs)
    → EndedAs v (effect (image_of fs.database) changes) fs.incoming new
ended_in changes v fs pages old new is agrees here seamless fits there = (
  ended changes v fs,
  there,
  ended_after changes v fs is (seamless_of pages old fs changes agrees here seamless)
      (omega (arith, len_of pages old fs agrees here, fits)),
  refl,
)

-- with an empty incoming file they are at rest
pub at_rest : (v : Version) (image incoming : List ℕ) (files : Option Files) → incoming ≡ [] → EndedAs v image incoming files
    → RestsAs v image files
at_rest v image incoming files empty ends =
    let fs = ends.0 in
    let is = ends.2 in
    (fs, ends.1, record { incoming = ends.3 ∙ empty; log = is.log; label = is.label; content = is.content })

-- a committed log is no shorter than one of no change
pub committed_long : (log : List ℕ) (changes : List Change) (v : Version) → IsCommitted log changes v → 16 ≤ length log
committed_long log changes v committed = elim (cases_lt (length log) 16) [
  | inl short ↦ absurd (short_log_is_discarded log short changes v committed)
  | inr long ↦ long
]
