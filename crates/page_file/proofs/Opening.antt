-- What pages over a database file know of it once they are opened, where the disk tells its files.
use Rattle.std.proofs.Common.{◌≡◌, ◌<◌, ◌≤◌, ◌-◌, ◌∙◌, ℕ, List, length, take, Option, Some, None, IfSome, ap, sym, refl, subst, arith, length-drop}
use Rattle.ubik_types.specs.declared.versions.Version.{Version}
use Rattle.ubik_types.specs.Version.{zero_version}
use Rattle.disk_base.specs.Files.{Files}
use Rattle.page_file.specs.Fault.{Refuses, IsUnlabelled}
use Rattle.page_file.specs.declared.faults.PageFault.TheVariants.{BadLabel}
use Rattle.page_file.specs.Label.{version_of_label, version_by, version_of_database, IsHeadOf}
use Rattle.std.specs.List.{All}
use Rattle.page_file.specs.Kept.{Cached, IsPageIn, no_pages}
use Rattle.page_file.specs.Pages.{LabelledAs, Agrees, AgreesIn, image_of}
use Rattle.page_file.proofs.Bytes.{All-none}
use Rattle.page_file.proofs.Labels.{version_by_label, version_by_head, front_of_head, version_of_empty, version_of_filled}

-- a fact of the files behind two equal disks
pub moved : (P : Files → Type 0) (a b : Option Files) → a ≡ b → IfSome a P → IfSome b P
moved P a b same h = let Q : Option Files → Type 0 = λ fs. IfSome fs P in subst Q same h

-- an empty file has the first version
pub empty_version : (files : Option Files) (len : ℕ) → len ≡ 0 → IfSome files (λ fs. len ≡ length fs.database)
    → IfSome files (λ fs. Some zero_version ≡ version_of_database fs.database)
empty_version None len none told = tt
empty_version (Some fs) len none told = sym (version_of_empty fs.database (omega arith))

read_version : (file head : List ℕ) (len : ℕ) (r : Option Version) → 0 < len → len ≡ length file → IsHeadOf head file
    → version_by len head ≡ r → version_of_database file ≡ r
read_version file head len r some told is read =
    version_of_filled file (omega arith)
    ∙ sym (version_by_head head file is)
    ∙ ap (λ (n : ℕ). version_by n head) (sym told)
    ∙ read

-- any other file has the version that its head has
pub found_version : (files : Option Files) (len : ℕ) (head : List ℕ) (v : Version) → 0 < len
    → IfSome files (λ fs. len ≡ length fs.database) → IfSome files (λ fs. IsHeadOf head fs.database) → version_by len head ≡ Some v
    → IfSome files (λ fs. Some v ≡ version_of_database fs.database)
found_version None len head v some told is read = tt
found_version (Some fs) len head v some told is read = sym (read_version fs.database head len (Some v) some told is read)

-- a file whose head has no version is refused
pub refused_head : (files : Option Files) (len : ℕ) (head : List ℕ) → 0 < len → IfSome files (λ fs. len ≡ length fs.database)
    → IfSome files (λ fs. IsHeadOf head fs.database) → version_by len head ≡ None
    → IfSome files (λ fs. Refuses IsUnlabelled fs.database (BadLabel len head))
refused_head None len head some told is read = tt
refused_head (Some fs) len head some told is read = (read_version fs.database head len None some told is read, told, is)

labelled_as_read : (file : List ℕ) (v : Version) → version_of_label (take 64 file) ≡ Some v → LabelledAs file v
labelled_as_read file v read = let P : Option Version → Type 0 = λ r. IfSome r (λ w. w ≡ v) in subst P (sym read) refl

-- pages with the length and the version of the head agree with the file
pub found_agrees : (before after : Option Files) (len : ℕ) (head : List ℕ) (v : Version) (cached : Cached) → cached ≡ no_pages
    → after ≡ before → 64 ≤ len → len ≤ 16777280 → IfSome before (λ fs. len ≡ length fs.database)
    → IfSome before (λ fs. IsHeadOf head fs.database) → version_by len head ≡ Some v
    → AgreesIn (record { version = Some v; len = len - 64; cache = cached }) after
found_agrees before after len head v cached none stays some most told is read =
    moved (λ fs. Agrees (record { version = Some v; len = len - 64; cache = cached }) fs.database) before after (sym stays)
    (agrees before told is)
  where
    agrees : (files : Option Files) → IfSome files (λ fs. len ≡ length fs.database) → IfSome files (λ fs. IsHeadOf head fs.database)
        → AgreesIn (record { version = Some v; len = len - 64; cache = cached }) files
    agrees None told is = tt
    agrees (Some fs) told is =
        record {
          len = omega (arith, length-drop 64 fs.database);
          version = labelled_as_read fs.database v
              (ap version_of_label (sym (front_of_head head fs.database (omega arith) is)) ∙ sym (version_by_label len head some most) ∙ read);
          kept = subst (λ (c : Cached). All (IsPageIn (image_of fs.database)) c.pages) (sym none)
              (All-none (IsPageIn (image_of fs.database)));
        }

-- pages that read no label agree where their length is that of the image
pub over_agrees : (before after : Option Files) (len n : ℕ) (cached : Cached) → cached ≡ no_pages → after ≡ before → n ≡ len - 64
    → IfSome before (λ fs. len ≡ length fs.database) → AgreesIn (record { version = None; len = n; cache = cached }) after
over_agrees before after len n cached none stays is told =
    moved (λ fs. Agrees (record { version = None; len = n; cache = cached }) fs.database) before after (sym stays) (agrees before told)
  where
    agrees : (files : Option Files) → IfSome files (λ fs. len ≡ length fs.database)
        → AgreesIn (record { version = None; len = n; cache = cached }) files
    agrees None told = tt
    agrees (Some fs) told =
        record {
          len = omega (arith, length-drop 64 fs.database);
          version = tt;
          kept = subst
              (λ (c : Cached). All (IsPageIn (image_of fs.database)) c.pages) (sym none) (All-none (IsPageIn (image_of fs.database)));
        }
