-- A database file that is shorter than a label gets one of zero bytes.
use Rattle.std.proofs.Common.{◌≡◌, ◌<◌, ◌≤◌, ℕ, ◌+◌, Bool, true, false, List, ◌++◌, length, replicate, Option, Some, None, IfSome, cond, ltb, sym, ap, ◌∙◌, arith}
use Rattle.std.specs.Option.{option_map}
use Rattle.std.proofs.lemmas.Bool.Decides.{nat_tests}
use Rattle.std.proofs.lemmas.List.{drop_all, append-nil}
use Rattle.disk_base.specs.Crash.{RisesAtMost}
use Rattle.disk_base.specs.declared.disks.Disk.{Ghosts}
use Rattle.disk_base.specs.declared.disks.FileNo.TheVariants.{Database}
use Rattle.disk_base.specs.Files.{Files, with_file, laid}
use Rattle.ubik_store.specs.Moments.{with_database, with_head, head_calls}
use Rattle.ubik_store.proofs.Telling.{told, of_told}

laid_over : (file zeros : List ℕ) → length file < 64 → length zeros ≡ 64 → laid file 0 zeros ≡ zeros
laid_over file zeros short long =
    ap (λ (xs : List ℕ). zeros ++ xs) (drop_all (0 + length zeros) file (omega arith)) ∙ append-nil zeros

pub short_head : (file : List ℕ) → length file < 64 → with_head file ≡ replicate 64 0
short_head file short =
    let is : ltb (length file) 64 ≡ true = grind (arith, nat_tests) in ap (λ (b : Bool). cond b (replicate 64 0) file) is

pub long_head : (file : List ℕ) → 64 ≤ length file → with_head file ≡ file
long_head file long =
    let is : ltb (length file) 64 ≡ false = grind (arith, nat_tests) in ap (λ (b : Bool). cond b (replicate 64 0) file) is

pub headed : (old mid new : Option Files) (zeros : List ℕ) (len : ℕ) → mid ≡ old → IfSome old (λ fs. len ≡ length fs.database) → len < 64
    → zeros ≡ replicate 64 0
    → new ≡ option_map (λ fs. with_file fs Database (laid fs.database 0 zeros)) mid → new ≡ option_map (with_database with_head) old
headed None mid new zeros len same told short is written =
    written ∙ ap (option_map (λ fs. with_file fs Database (laid fs.database 0 zeros))) same
headed (Some fs) mid new zeros len same told short is written =
    let below : length fs.database < 64 = omega arith in
    let long : length zeros ≡ 64 = ap length is in
    written ∙ ap (option_map (λ fs. with_file fs Database (laid fs.database 0 zeros))) same
    ∙ ap (λ (xs : List ℕ). Some (with_file fs Database xs))
    (laid_over fs.database zeros below long ∙ is ∙ sym (short_head fs.database below))

-- no call was made, or one where the file is shorter than a label
pub few_none : (files : Option Files) (before after : ℕ) → after ≡ before
    → IfSome files (λ fs. RisesAtMost (head_calls fs.database) before after)
few_none None before after same = tt
few_none (Some fs) before after same = (omega arith, omega arith)

pub few_head : (files : Option Files) (len before after : ℕ) → IfSome files (λ fs. len ≡ length fs.database) → len < 64 → after ≡ before + 1
    → IfSome files (λ fs. RisesAtMost (head_calls fs.database) before after)
few_head None len before after told short more = tt
few_head (Some fs) len before after told short more =
    let below : length fs.database < 64 = omega arith in
    let is : ltb (length fs.database) 64 ≡ true = grind (arith, nat_tests) in
    let one : head_calls fs.database ≡ 1 = ap (λ (b : Bool). cond b 1 0) is in
    (omega (arith, more), omega (arith, more, one))

module _ {D : Type 0} (g : Ghosts D) where
  -- the calls of one run, and then those of another one
  pub rises_joined : (m n : ℕ) (old mid new : D) → RisesAtMost m (g.steps old) (g.steps mid) → RisesAtMost n (g.steps mid) (g.steps new)
      → RisesAtMost (m + n) (g.steps old) (g.steps new)
  rises_joined m n old mid new first second = (omega (arith, first.0, second.0), omega (arith, first.1, second.1))

  -- at most so many, and one more where the file was shorter than a label
  abbrev pub FewWithHead : ℕ → (old new : D) → Files → Type 0
  FewWithHead most old new fs = RisesAtMost (most + head_calls fs.database) (g.steps old) (g.steps new)

  pub few_more : (most n : ℕ) (old mid new : D)
      → IfSome (g.files old) (λ fs. RisesAtMost (head_calls fs.database) (g.steps old) (g.steps mid))
      → RisesAtMost n (g.steps mid) (g.steps new) → n ≤ most → IfSome (g.files old) (FewWithHead most old new)
  few_more most n old mid new head more fits = told (g.files old) (FewWithHead most old new) (λ fs is.
      let first = of_told (g.files old) fs (λ fs. RisesAtMost (head_calls fs.database) (g.steps old) (g.steps mid)) is head in
      (omega (arith, first.0, more.0), omega (arith, first.1, more.1, fits)))

  -- without that one
  pub few_but : (most n : ℕ) (old new : D) → RisesAtMost n (g.steps old) (g.steps new) → n ≤ most
      → IfSome (g.files old) (FewWithHead most old new)
  few_but most n old new rises fits =
      told (g.files old) (FewWithHead most old new) (λ fs is. (omega (arith, rises.0), omega (arith, rises.1, fits)))
