-- A database file that is cut to nothing and written anew: what pages know of it then, and what a crash leaves meanwhile.
use Rattle.std.proofs.Common.{◌≡◌, ◌-◌, ◌∙◌, ℕ, List, [], length, take, Option, Some, None, IfSome, ⊎_elim, ap, sym, refl, subst, arith, length-take, length-drop}
use Rattle.std.specs.Option.{option_map}
use Rattle.std.specs.List.{All}
use Rattle.std.proofs.lemmas.Grind.{common_steps}
use Rattle.ubik_types.specs.declared.versions.Version.{Version}
use Rattle.ubik_types.specs.Version.{IsVersion}
use Rattle.disk_base.specs.declared.disks.Disk.{Ghosts}
use Rattle.disk_base.specs.declared.disks.FileNo.TheVariants.{Database}
use Rattle.disk_base.specs.Files.{Files, with_file, laid}
use Rattle.disk_base.specs.Crash.{Torn, CutShort, InFile, Follows, LeavesOnly, After}
use Rattle.disk_base.specs.Runs.{Cuts, Writes, ChangesAtMost}
use Rattle.disk_base.proofs.Runs.{any_joined, called, joined, cut_changes, write_changes, changes_joined}
use Rattle.page_file.specs.Label.{label, version_of_label}
use Rattle.page_file.specs.Kept.{IsPageIn}
use Rattle.page_file.specs.Pages.{Known, LabelledAs, Agrees, AgreesIn, IsNoLonger, image_of}
use Rattle.page_file.proofs.Bytes.{All-none}
use Rattle.page_file.proofs.Labels.{version_of_label_again}

labelled_anew : (text : List ℕ) (v : Version) → IsVersion v → take 64 text ≡ label v → LabelledAs text v
labelled_anew text v is front =
    let read : version_of_label (take 64 text) ≡ Some v =
    ap version_of_label front ∙ version_of_label_again v (omega (arith, is.epoch)) (omega (arith, is.counter)) in
    let P : Option Version → Type 0 = λ r. IfSome r (λ w. w ≡ v) in subst P (sym read) refl

-- pages that know a text's version and length, and keep no page, agree with it
anew : (text : List ℕ) (v : Version) (known : Known) → IsVersion v → take 64 text ≡ label v → known.version ≡ Some v
    → known.len ≡ length text - 64 → known.cache.pages ≡ [] → Agrees known text
anew text v known is front version long none = record {
  len = omega (arith, long, length-drop 64 text);
  version = let P : Option Version → Type 0 = λ w. IfSome w (LabelledAs text) in subst P (sym version) (labelled_anew text v is front);
  kept = subst (λ (pages : List (ℕ × List ℕ)). All (IsPageIn (image_of text)) pages) (sym none) (All-none (IsPageIn (image_of text)));
}

laid_alone : (text : List ℕ) → laid [] 0 text ≡ text
laid_alone text = grind (arith, common_steps)

-- what a read gives then
pub files_anew : (before mid after : Option Files) (text : List ℕ)
    → mid ≡ option_map (λ fs. with_file fs Database (take 0 fs.database)) before
    → after ≡ option_map (λ fs. with_file fs Database (laid fs.database 0 text)) mid
    → after ≡ option_map (λ fs. with_file fs Database text) before
files_anew None mid after text cut written = written ∙ ap (option_map (λ fs. with_file fs Database (laid fs.database 0 text))) cut
files_anew (Some fs) mid after text cut written =
    written ∙ ap (option_map (λ fs. with_file fs Database (laid fs.database 0 text))) cut
    ∙ ap (λ (bytes : List ℕ). Some (with_file fs Database bytes)) (laid_alone text)

-- and with a disk whose database file it is
pub anew_agrees : (before after : Option Files) (text : List ℕ) (v : Version) (known : Known) → IsVersion v → take 64 text ≡ label v
    → known.version ≡ Some v → known.len ≡ length text - 64 → known.cache.pages ≡ []
    → after ≡ option_map (λ fs. with_file fs Database text) before → AgreesIn known after
anew_agrees before after text v known is front version long none there =
    let P : Option Files → Type 0 = λ files. AgreesIn known files in subst P (sym there) (agrees before)
  where
    agrees : (files : Option Files) → AgreesIn known (option_map (λ fs. with_file fs Database text) files)
    agrees None = tt
    agrees (Some fs) = anew text v known is front version long none

cut_no_longer : (n : ℕ) (before after : List ℕ) → CutShort 0 before after → IsNoLonger n before after
cut_no_longer n before after cut =
    ⊎_elim (λ same. let long = ap length same in omega (arith, long))
    (λ part. let long = ap length part.1 in omega (arith, long, length-take (length after) before)) cut

-- what a crash leaves during a cut to nothing, and during a write from the front that follows it
module _ (n : ℕ) {before mid : Files → Type 0} (cut : Follows (InFile Database (CutShort 0)) before mid) where
  while_cut : (c : Files) → mid c → After (InFile Database (IsNoLonger n)) before c
  while_cut c left =
      let from = cut c left in
      (from.0, from.1, (from.2.0, cut_no_longer n from.0.database c.database from.2.1))

  while_written : {now : Files → Type 0} → Follows (InFile Database (Torn 0 n)) mid now → (c : Files) → now c
      → After (InFile Database (IsNoLonger n)) before c
  while_written written c left =
      let there = written c left in
      let from = while_cut there.0 there.1 in
      let torn : Torn 0 n there.0.database c.database = there.2.1 in
      (from.0, from.1, (any_joined Database from.0 there.0 c from.2.0 there.2.0, omega (arith, torn.no_longer, from.2.1)))

-- the two calls
module _ {D : Type 0} {g : Ghosts D} {text : List ℕ} {old mid new : D} {F G : Type 0} (cut : Cuts g Database 0 old mid F)
    (written : Writes g Database 0 text mid new G) where
  pub replaced_moments : LeavesOnly g.steps g.left_since old new (After (InFile Database (IsNoLonger (length text))) (g.may_leave old))
  replaced_moments =
      let P = After (InFile Database (IsNoLonger (length text))) (g.may_leave old) in
      joined g.steps g.left_since old mid new P
      (called g.steps g.left_since old mid P (g.may_leave old) (g.may_leave mid) cut.change.steps cut.change.time (g.only_now old)
      (λ c left. (c, left, (refl, omega arith))) (while_cut (length text) cut.crash))
      (called g.steps g.left_since mid new P (g.may_leave mid) (g.may_leave new) written.change.steps written.change.time (g.only_now mid)
      (while_cut (length text) cut.crash) (while_written (length text) cut.crash written.crash))

  pub replaced_changes : ¬ F → ChangesAtMost g Database 2 old new G
  replaced_changes went = changes_joined (cut_changes cut) went (write_changes written)
