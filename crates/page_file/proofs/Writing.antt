-- What pages know after a change of the database file, where the disk tells its files.
use Rattle.std.proofs.Common.{◌≡◌, ◌≤◌, ◌+◌, ◌-◌, ◌∙◌, ℕ, max, List, length, take, Option, Some, None, IfSome, ap, sym, refl, subst, arith, length-take, length-drop}
use Rattle.std.specs.Option.{option_map}
use Rattle.std.proofs.lemmas.Grind.{common_steps}
use Rattle.ubik_types.specs.declared.versions.Version.{Version}
use Rattle.ubik_types.specs.Version.{IsVersion}
use Rattle.disk_base.specs.Files.{Files, with_file, laid}
use Rattle.disk_base.specs.declared.disks.FileNo.TheVariants.{Database}
use Rattle.page_file.specs.Label.{label, version_of_label}
use Rattle.std.specs.List.{All}
use Rattle.page_file.specs.Kept.{IsPageIn, apart_from}
use Rattle.page_file.specs.Pages.{Known, LabelledAs, Agrees, AgreesIn, image_of}
use Rattle.page_file.proofs.Bytes.{laid_pages, cut_pages, labelled_pages}
use Rattle.page_file.proofs.Labels.{version_of_label_again}

-- a position of the image lies within the file that it belongs to
pub within_image : (files : Option Files) (pages : Known) (n : ℕ) → AgreesIn pages files → n ≤ pages.len
    → IfSome files (λ fs. 64 ≤ length fs.database) → IfSome files (λ fs. 64 + n ≤ length fs.database)
within_image None pages n agrees within headed = tt
within_image (Some fs) pages n agrees within headed = omega (arith, agrees.len, length-drop 64 fs.database)

-- a file that is told has room, and of one that is not the caller knows it
pub has_room : (files : Option Files) (n room : ℕ) → (files ≡ None → n ≤ room) → IfSome files (λ fs. n ≤ length fs.database)
    → IfSome files (λ fs. length fs.database ≤ room) → n ≤ room
has_room None n room untold headed has = untold refl
has_room (Some fs) n room untold headed has = omega (arith, headed, has)

length-laid : (file bytes : List ℕ) (at : ℕ) → at ≤ length file → length (laid file at bytes) ≡ max (length file) (at + length bytes)
length-laid file bytes at within = grind (arith, common_steps)

-- bytes that are laid behind the label leave it
take-laid_behind : (file bytes : List ℕ) (n at : ℕ) → n ≤ at → at ≤ length file → take n (laid file at bytes) ≡ take n file
take-laid_behind file bytes n at behind within = grind (arith, common_steps)

take-take_behind : (file : List ℕ) (n m : ℕ) → n ≤ m → take n (take m file) ≡ take n file
take-take_behind file n m behind = grind (arith, common_steps)

-- bytes that are laid over the front
take-laid_front : (file bytes : List ℕ) (n : ℕ) → length bytes ≡ n → take n (laid file 0 bytes) ≡ bytes
take-laid_front file bytes n same = grind (arith, common_steps)

-- a version is that of each file with the same front
same_label : (file other : List ℕ) (version : Option Version) → take 64 other ≡ take 64 file → IfSome version (LabelledAs file)
    → IfSome version (LabelledAs other)
same_label file other None same read = tt
same_label file other (Some v) same read =
    let P : List ℕ → Type 0 = λ front. IfSome (version_of_label front) (λ w. w ≡ v) in subst P (sym same) read

-- what pages know after a change that leaves the label
changed_behind : (pages known : Known) (file other : List ℕ) → take 64 other ≡ take 64 file → known.version ≡ pages.version
    → known.len ≡ length other - 64 → All (IsPageIn (image_of other)) known.cache.pages → Agrees pages file → Agrees known other
changed_behind pages known file other same version long kept agrees =
    record {
      len = omega (arith, length-drop 64 other);
      version =
          let P : Option Version
          → Type 0 = λ v. IfSome v (LabelledAs other) in subst P (sym version) (same_label file other pages.version same agrees.version);
      kept = kept;
    }

-- after a change of the database file of a disk
changed : (before after : Option Files) (pages known : Known) (change : List ℕ → List ℕ)
    → ((file : List ℕ) → Agrees pages file → 64 ≤ length file → Agrees known (change file)) → AgreesIn pages before
    → IfSome before (λ fs. 64 ≤ length fs.database) → after ≡ option_map (λ fs. with_file fs Database (change fs.database)) before
    → AgreesIn known after
changed None None pages known change keeps agrees headed is = tt
changed None (Some fs) pages known change keeps agrees headed is = absurd cc
changed (Some fs) None pages known change keeps agrees headed is = tt
changed (Some fs) (Some now) pages known change keeps agrees headed is =
    let same : now ≡ with_file fs Database (change fs.database) = cc in
    let P : Files → Type 0 = λ f. Agrees known f.database in subst P (sym same) (keeps fs.database agrees headed)

laid_behind : (pages known : Known) (file bytes : List ℕ) (at : ℕ) → at ≤ pages.len → known.version ≡ pages.version
    → known.len ≡ max pages.len (at + length bytes) → known.cache ≡ apart_from at (at + length bytes) pages.cache → Agrees pages file
    → 64 ≤ length file → Agrees known (laid file (64 + at) bytes)
laid_behind pages known file bytes at begins version longer cached agrees headed =
    let within : 64 + at ≤ length file = omega (arith, agrees.len, length-drop 64 file) in
    changed_behind pages known file (laid file (64 + at) bytes) (take-laid_behind file bytes 64 (64 + at) (omega arith) within) version
    (omega (arith, agrees.len, length-drop 64 file, length-laid file bytes (64 + at) within))
    (laid_pages file bytes at pages.cache known.cache within cached agrees.kept)
    agrees

-- after bytes were laid over the image
pub laid_agrees : (before after : Option Files) (pages known : Known) (at : ℕ) (bytes : List ℕ) → at ≤ pages.len
    → known.version ≡ pages.version → known.len ≡ max pages.len (at + length bytes)
    → known.cache ≡ apart_from at (at + length bytes) pages.cache → AgreesIn pages before → IfSome before (λ fs. 64 ≤ length fs.database)
    → after ≡ option_map (λ fs. with_file fs Database (laid fs.database (64 + at) bytes)) before → AgreesIn known after
laid_agrees before after pages known at bytes begins version longer cached =
    changed before after pages known (λ file. laid file (64 + at) bytes)
    (λ file. laid_behind pages known file bytes at begins version longer cached)

cut_behind : (pages known : Known) (file : List ℕ) (len : ℕ) → len ≤ pages.len → known.version ≡ pages.version → known.len ≡ len
    → known.cache ≡ apart_from len pages.len pages.cache → Agrees pages file → 64 ≤ length file → Agrees known (take (64 + len) file)
cut_behind pages known file len within version shorter cached agrees headed =
    changed_behind pages known file (take (64 + len) file) (take-take_behind file 64 (64 + len) (omega arith)) version
    (omega (arith, agrees.len, length-drop 64 file, length-take (64 + len) file))
    (cut_pages file len pages.len pages.cache known.cache agrees.len cached agrees.kept)
    agrees

-- after the image was cut
pub cut_agrees : (before after : Option Files) (pages known : Known) (len : ℕ) → len ≤ pages.len → known.version ≡ pages.version
    → known.len ≡ len → known.cache ≡ apart_from len pages.len pages.cache → AgreesIn pages before
    → IfSome before (λ fs. 64 ≤ length fs.database)
    → after ≡ option_map (λ fs. with_file fs Database (take (64 + len) fs.database)) before → AgreesIn known after
cut_agrees before after pages known len within version shorter cached =
    changed before after pages known (take (64 + len)) (λ file. cut_behind pages known file len within version shorter cached)

labelled_as_set : (file bytes : List ℕ) (v : Version) → IsVersion v → bytes ≡ label v → LabelledAs (laid file 0 bytes) v
labelled_as_set file bytes v is same =
    let read : version_of_label (take 64 (laid file 0 bytes)) ≡ Some v = ap version_of_label
    (take-laid_front file bytes 64 (ap length same) ∙ same)
    ∙ version_of_label_again v (omega (arith, is.epoch)) (omega (arith, is.counter)) in
    let P : Option Version → Type 0 = λ r. IfSome r (λ w. w ≡ v) in subst P (sym read) refl

labelled : (pages known : Known) (file bytes : List ℕ) (v : Version) → IsVersion v → bytes ≡ label v → known.version ≡ Some v
    → known.len ≡ pages.len → known.cache ≡ pages.cache → Agrees pages file → 64 ≤ length file → Agrees known (laid file 0 bytes)
labelled pages known file bytes v is same version long cached agrees headed =
    let label_long : length bytes ≡ 64 = ap length same in
    record {
      len = omega (arith, agrees.len, length-drop 64 file, length-drop 64 (laid file 0 bytes), length-laid file bytes 0 (omega arith));
      version =
          let P : Option Version
          → Type 0 = λ w. IfSome w (LabelledAs (laid file 0 bytes)) in subst P (sym version) (labelled_as_set file bytes v is same);
      kept = labelled_pages file bytes pages.cache known.cache label_long cached agrees.kept;
    }

-- after a label was set
pub label_agrees : (before after : Option Files) (pages known : Known) (bytes : List ℕ) (v : Version) → IsVersion v → bytes ≡ label v
    → known.version ≡ Some v → known.len ≡ pages.len → known.cache ≡ pages.cache → AgreesIn pages before
    → IfSome before (λ fs. 64 ≤ length fs.database) → after ≡ option_map (λ fs. with_file fs Database (laid fs.database 0 bytes)) before
    → AgreesIn known after
label_agrees before after pages known bytes v is same version long cached =
    changed before after pages known (λ file. laid file 0 bytes) (λ file. labelled pages known file bytes v is same version long cached)
