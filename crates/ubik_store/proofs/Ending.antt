-- How a committed log comes to its end, and what a crash leaves meanwhile.
use Rattle.std.proofs.Common.{◌≡◌, ◌≤◌, inl, inr, ℕ, ◌+◌, ◌-◌, List, [], ◌∷◌, ◌++◌, length, take, drop, get_or, replicate, Option, Some, None, IfSome, refl, sym, ap, subst, ◌∙◌, arith, length-take, length-drop, length-append}
use Rattle.std.specs.List.{All}
use Rattle.std.specs.Option.{option_map}
use Rattle.std.proofs.lemmas.Grind.{common_steps}
use Rattle.std.proofs.lemmas.Bool.{cases_lt}
use Rattle.std.proofs.lemmas.List.{drop_all, drop-take, drop-drop, take_at, drop_at, take-append-le, drop-append-le}
use Rattle.ubik_types.specs.declared.images.Change.{Change}
use Rattle.ubik_types.specs.declared.images.Change.TheVariants.{Put, Cut}
use Rattle.ubik_types.specs.declared.versions.Version.{Version}
use Rattle.ubik_types.specs.Version.{IsVersion}
use Rattle.ubik_types.specs.Image.{extended, changed, effect}
use Rattle.disk_base.specs.declared.disks.Disk.{Ghosts}
use Rattle.disk_base.specs.declared.disks.FileNo.TheVariants.{Database, Log}
use Rattle.disk_base.specs.Files.{Files, laid}
use Rattle.disk_base.specs.Crash.{Narrows, LeavesOnly, LeavesOthers, OnlyIn, IsSettled, After}
use Rattle.disk_base.proofs.Runs.{widened, joined}
use Rattle.page_file.specs.declared.label.TheConstants.{MAX_DATABASE_LEN}
use Rattle.page_file.specs.Label.{label, version_by, version_of_database}
use Rattle.page_file.specs.Kept.{IsPageIn}
use Rattle.page_file.specs.Pages.{Known, image_of, LabelledAs, Agrees, AgreesIn}
use Rattle.page_file.proofs.Labels.{version_by_again, version_of_filled}
use Rattle.ubik_log.specs.Gate.{IsOpen}
use Rattle.ubik_log.specs.LogFile.{with_log, HasLogOrNone}
use Rattle.ubik_log.specs.LogGrammar.{IsDiscarded}
use Rattle.incoming_file.specs.Incoming.{IsIgnored}
use Rattle.ubik_store.specs.Files.{StandsFor}
use Rattle.ubik_store.specs.Files.StandsFor.{by_log, by_label}
use Rattle.ubik_store.specs.Moments.{MayRedo, LeadsTo, with_database, without_log, with_head, changed_file, applied, labelled, finished, ended}
use Rattle.ubik_store.specs.Redo.{Redoes, changed_len, IsSeam, IsSeamless}
use Rattle.ubik_store.proofs.Closing.{LeavesLog}
use Rattle.ubik_store.proofs.Gaps.{logged_again}
use Rattle.ubik_store.proofs.Heads.{short_head, long_head}
use Rattle.ubik_store.proofs.Redone.{length-changed, redone}
use Rattle.ubik_store.proofs.Redoing.{narrowed}
use Rattle.ubik_store.proofs.Telling.{of_told, of_some}

-- the image of a database file that is shorter than a label is empty, and stays so
pub image_headed : (file : List ℕ) → image_of (with_head file) ≡ image_of file
image_headed file = elim (cases_lt (length file) 64) [
  | inl short ↦ ap (drop 64) (short_head file short) ∙ sym (drop_all 64 file (omega (arith, short)))
  | inr long ↦ ap (drop 64) (long_head file long)
]

pub length-headed : (file : List ℕ) → 64 ≤ length (with_head file)
length-headed file = elim (cases_lt (length file) 64) [
  | inl short ↦ let is : length (with_head file) ≡ 64 = ap length (short_head file short) in omega arith
  | inr long ↦ let is : length (with_head file) ≡ length file = ap length (long_head file long) in omega arith
]

-- zero bytes are no label
no_label : (version : Option Version) → IfSome version (LabelledAs (replicate 64 0))
no_label None = tt
no_label (Some v) = tt

headed_agrees : (pages : Known) (file : List ℕ) → Agrees pages file → Agrees pages (with_head file)
headed_agrees pages file agrees = elim (cases_lt (length file) 64) [
  | inl short ↦
      let is = short_head file short in
      record {
        len = agrees.len ∙ ap length (sym (image_headed file));
        version = let P : List ℕ → Type 0 = λ xs. IfSome pages.version (LabelledAs xs) in subst P (sym is) (no_label pages.version);
        kept = let P : List ℕ → Type 0 = λ image. All (IsPageIn image) pages.cache.pages in subst P (sym (image_headed file)) agrees.kept;
      }
  | inr long ↦ let P : List ℕ → Type 0 = λ xs. Agrees pages xs in subst P (sym (long_head file long)) agrees
]

pub agrees_headed : (before after : Option Files) (pages : Known) → AgreesIn pages before
    → after ≡ option_map (with_database with_head) before → AgreesIn pages after
agrees_headed None after pages agrees is = let P : Option Files → Type 0 = λ o. AgreesIn pages o in subst P (sym is) tt
agrees_headed (Some fs) after pages agrees is =
    let P : Option Files → Type 0 = λ o. AgreesIn pages o in subst P (sym is) (headed_agrees pages fs.database agrees)

-- a change of a database file is one of its image
image_put : (file bytes : List ℕ) (at : ℕ) → at ≤ length (image_of file) → 64 ≤ length file
    → image_of (laid file (64 + at) bytes) ≡ changed (image_of file) (Put at bytes)
image_put file bytes at within headed =
    let front : List ℕ = take (64 + at) file in
    let long : length front ≡ 64 + at = omega (arith, length-take (64 + at) file, length-drop 64 file) in
    let behind : drop (64 + at + length bytes) file ≡ drop (at + length bytes) (drop 64 file) =
    let same : 64 + at + length bytes ≡ 64 + (at + length bytes) = omega arith in
    ap (λ (k : ℕ). drop k file) same ∙ sym (drop-drop (at + length bytes) 64 file) in
    let same_front : take at (extended (image_of file) at) ≡ take at (image_of file) = take-append-le at (image_of file)
    (replicate (at - length (image_of file)) 0) within in
    drop-append-le 64 (front ++ bytes) (drop (64 + at + length bytes) file) (omega (arith, long, length-append front bytes))
    ∙ ap (λ (xs : List ℕ). xs ++ drop (64 + at + length bytes) file)
    (drop-append-le 64 front bytes (omega (arith, long)) ∙ ap (λ (xs : List ℕ). xs ++ bytes) (drop-take 64 at file ∙ sym same_front))
    ∙ ap (λ (xs : List ℕ). take at (extended (image_of file) at) ++ bytes ++ xs) behind

pub image_changed : (change : Change) (file : List ℕ) → 64 ≤ length file → IsSeam (length (image_of file)) change
    → image_of (changed_file change file) ≡ changed (image_of file) change
image_changed (Put at bytes) file headed seam = image_put file bytes at seam headed
image_changed (Cut to) file headed seam = drop-take 64 to file

length-changed_file : (change : Change) (file : List ℕ) → 64 ≤ length file → IsSeam (length (image_of file)) change
    → 64 ≤ length (changed_file change file)
length-changed_file (Put at bytes) file headed seam = grind (arith, common_steps)
length-changed_file (Cut to) file headed seam = omega (arith, length-take (64 + to) file)

pub image_applied : (changes : List Change) (file : List ℕ) → 64 ≤ length file → IsSeamless (length (image_of file)) changes
    → (image_of (applied changes file) ≡ effect (image_of file) changes) × (64 ≤ length (applied changes file))
image_applied [] file headed seamless = (refl, headed)
image_applied (change ∷ changes) file headed seamless =
    let is = image_changed change file headed seamless.0 in
    let long : length (image_of (changed_file change file)) ≡ changed_len (length (image_of file)) change = ap length is
    ∙ length-changed (image_of file) change in
    let rest = image_applied changes (changed_file change file) (length-changed_file change file headed seamless.0)
    (subst (λ (n : ℕ). IsSeamless n changes) (sym long) seamless.1) in
    (rest.0 ∙ ap (λ (image : List ℕ). effect image changes) is, rest.1)

-- a file under a label
image_labelled : (v : Version) (file : List ℕ) → image_of (labelled v file) ≡ image_of file
image_labelled v file = drop_at (label v) (drop 64 file) 64 refl

length-labelled : (v : Version) (file : List ℕ) → 64 ≤ length (labelled v file)
length-labelled v file =
    let is : length (labelled v file) ≡ 64 + length (drop 64 file) = length-append (label v) (drop 64 file) in omega arith

pub version_labelled : (v : Version) (file : List ℕ) → IsVersion v → length (labelled v file) ≤ MAX_DATABASE_LEN
    → version_of_database (labelled v file) ≡ Some v
version_labelled v file is fits =
    let long = length-labelled v file in
    version_of_filled (labelled v file) (omega arith)
    ∙ ap (version_by (length (labelled v file))) (take_at (label v) (drop 64 file) 64 refl)
    ∙ version_by_again v (length (labelled v file)) (omega (arith, is.epoch)) (omega (arith, is.counter)) long fits

pub image_finished : (changes : List Change) (v : Version) (file : List ℕ) → IsSeamless (length (image_of file)) changes
    → image_of (finished changes v file) ≡ effect (image_of file) changes
image_finished changes v file seamless =
    let head = image_headed file in
    image_labelled v (applied changes (with_head file))
    ∙ (image_applied changes (with_head file) (length-headed file)
    (subst (λ (image : List ℕ). IsSeamless (length image) changes) (sym head) seamless)).0
    ∙ ap (λ (image : List ℕ). effect image changes) head

pub finished_files : (changes : List Change) (v : Version) (old one two three : Option Files)
    → one ≡ option_map (with_database with_head) old → two ≡ option_map (with_database (applied changes)) one
    → three ≡ option_map (with_database (labelled v)) two
    → three ≡ option_map (with_database (finished changes v)) old
finished_files changes v None one two three a b c =
    c ∙ ap (option_map (with_database (labelled v))) (b ∙ ap (option_map (with_database (applied changes))) a)
finished_files changes v (Some fs) one two three a b c =
    c ∙ ap (option_map (with_database (labelled v))) (b ∙ ap (option_map (with_database (applied changes))) a)

pub ended_files : (changes : List Change) (v : Version) (old three four : Option Files)
    → three ≡ option_map (with_database (finished changes v)) old
    → four ≡ option_map without_log three → four ≡ option_map (ended changes v) old
ended_files changes v None three four a b = b ∙ ap (option_map without_log) a
ended_files changes v (Some fs) three four a b = b ∙ ap (option_map without_log) a

pub log_there : (n : ℕ) (change : List ℕ → List ℕ) (old new : Option Files) → new ≡ option_map (with_database change) old
    → IfSome old (λ fs. n ≤ length fs.log) → IfSome new (λ fs. n ≤ length fs.log)
log_there n change None new is there = let P : Option Files → Type 0 = λ o. IfSome o (λ fs. n ≤ length fs.log) in subst P (sym is) tt
log_there n change (Some fs) new is there =
    let P : Option Files → Type 0 = λ o. IfSome o (λ fs. n ≤ length fs.log) in subst P (sym is) there

-- where the disk tells its files, a run leaves what stands for what the log leads to
abbrev pub LeavesEffect : {D : Type 0} (g : Ghosts D) (old new : D) (v : Version) (changes : List Change) → Files → Type 0
LeavesEffect g old new v changes fs =
    (told : List Change) → LeadsTo fs told v changes → Narrows (MayRedo fs told) (g.may_leave old)
    → LeavesOnly g.steps g.left_since old new (λ c. StandsFor c v (effect (image_of fs.database) told))

module _ (fs : Files) (told changes : List Change) (v : Version) (leads : LeadsTo fs told v changes) where
  -- with the log there still
  pub stands_by_log : (c : Files) → MayRedo fs told c → StandsFor c v (effect (image_of fs.database) told)
  stands_by_log c may =
      subst (λ (image : List ℕ). StandsFor c v image) (redone told (image_of fs.database) (image_of c.database) may.redoes)
      (by_log c told v (logged_again told v fs c leads.logged may) may.fits)

  -- and by the label, once the changes are made
  stands_by_label : (c d : Files) → IsVersion v → IsSeamless (length (image_of fs.database)) changes → MayRedo fs told d
      → d.database ≡ finished changes v fs.database
      → c ≡ with_log c.log d → IsDiscarded c.log → StandsFor c v (effect (image_of fs.database) told)
  stands_by_label c d is seamless may finished_is same discarded =
      let file : c.database ≡ finished changes v fs.database = ap (λ (f : Files). f.database) same ∙ finished_is in
      let image : image_of c.database ≡ effect (image_of fs.database) told = ap image_of file
      ∙ image_finished changes v fs.database seamless ∙ leads.same in
      let fits : length (finished changes v fs.database) ≤ MAX_DATABASE_LEN = subst
      (λ (xs : List ℕ). length xs ≤ MAX_DATABASE_LEN) finished_is may.fits in
      let version : version_of_database c.database ≡ Some v = ap version_of_database file
      ∙ version_labelled v (applied changes (with_head fs.database)) is fits in
      let beside : c.incoming ≡ fs.incoming = ap (λ (f : Files). f.incoming) same ∙ may.incoming in
      subst (λ (xs : List ℕ). StandsFor c v xs) image (by_label c v (subst IsIgnored (sym beside) leads.logged.ignored) discarded version)

  pub same_log : (c d : Files) → MayRedo fs told d → c ≡ with_log c.log d → c.log ≡ fs.log → MayRedo fs told c
  same_log c d may same log = record {
    log = log;
    incoming = ap (λ (f : Files). f.incoming) same ∙ may.incoming;
    redoes = subst (λ (f : Files). Redoes told (image_of fs.database) (image_of f.database)) (sym same) may.redoes;
    fits = subst (λ (f : Files). length f.database ≤ MAX_DATABASE_LEN) (sym same) may.fits;
  }

  -- while the log is ended
  pub stands_either : (left : Files → Type 0) → IsVersion v → IsSeamless (length (image_of fs.database)) changes
      → Narrows (MayRedo fs told) left → OnlyIn Database (finished changes v fs.database) left
      → (c : Files) → After (HasLogOrNone fs.log) left c → StandsFor c v (effect (image_of fs.database) told)
  stands_either left is seamless may only c from = elim from.2.0 [
    | inl same ↦ stands_by_log c (same_log c from.0 (may from.0 from.1) from.2.1 same)
    | inr discarded ↦ stands_by_label c from.0 is seamless (may from.0 from.1) (only from.0 from.1) from.2.1 discarded
  ]

  pub is_open : IsOpen fs.log
  is_open = ap (λ (log : List ℕ). get_or log 3 0) leads.logged.committed.begins

-- What a crash leaves once the database file is whole and the log empty is what reads give: the files were settled before.
pub settled_end : (changes : List Change) (v : Version) (old end new : Option Files) (before mid now : Files → Type 0)
    → IsSettled old before
    → end ≡ option_map (with_database (finished changes v)) old → new ≡ option_map without_log end
    → LeavesOthers Database before mid → IfSome old (λ fs. OnlyIn Database (finished changes v fs.database) mid)
    → LeavesOthers Log mid now → IfSome end (λ _. OnlyIn Log [] now) → IsSettled new now
unfolding LeavesOthers
settled_end changes v None end new before mid now settled finishes empties others whole last empty =
    let P : Option Files → Type 0 = λ o. IsSettled o now in subst P (sym (empties ∙ ap (option_map without_log) finishes)) tt
settled_end changes v (Some fs) end new before mid now settled finishes empties others whole last empty =
    let file = finished changes v fs.database in
    let cleared : OnlyIn Log [] now = of_some end (with_database (finished changes v) fs) (OnlyIn Log [] now) finishes empty in
    let P : Option Files → Type 0 = λ o. IsSettled o now in
    subst P (sym (empties ∙ ap (option_map without_log) finishes)) (λ c here.
    let d = last.no_more c here in
    let e = others.no_more d.0 d.1 in
    let files_of : List ℕ → List ℕ → Files → Files = λ a b f. record { database = a; log = b; incoming = f.incoming } in
    d.2 ∙ ap (λ (f : Files). files_of d.0.database c.log f) e.2 ∙ ap (files_of d.0.database c.log) (settled e.0 e.1)
    ∙ ap (λ (a : List ℕ). files_of a c.log fs) (whole d.0 d.1) ∙ ap (λ (b : List ℕ). files_of file b fs) (cleared c here))

module _ {D : Type 0} (g : Ghosts D) (fs : Files) (told changes : List Change) (v : Version) (leads : LeadsTo fs told v changes) where
  -- the whole run: its changes are made and labelled, and then its log is ended
  pub run_ended : {old mid new : D} → IsVersion v → IsSeamless (length (image_of fs.database)) changes
      → LeavesOnly g.steps g.left_since old mid (MayRedo fs told)
      → g.files mid ≡ Some (with_database (finished changes v) fs) → OnlyIn Database (finished changes v fs.database) (g.may_leave mid)
      → IfSome (g.files mid) (LeavesLog g mid new)
      → LeavesOnly g.steps g.left_since old new (λ c. StandsFor c v (effect (image_of fs.database) told))
  run_ended {old} {mid} {new} is seamless run files only ends =
      let may = narrowed g run in
      let last = of_told (g.files mid) (with_database (finished changes v) fs) (LeavesLog g mid new) files ends in
      let logs : OnlyIn Log fs.log (g.may_leave mid) = λ c left. (may c left).log in
      let Stands : Files → Type 0 = λ c. StandsFor c v (effect (image_of fs.database) told) in
      joined g.steps g.left_since old mid new Stands
      (widened g.steps g.left_since old mid (MayRedo fs told) Stands (stands_by_log fs told changes v leads) run)
      (widened g.steps g.left_since mid new (After (HasLogOrNone fs.log) (g.may_leave mid)) Stands
      (stands_either fs told changes v leads (g.may_leave mid) is seamless may only)
      (last (is_open fs told changes v leads) logs))
