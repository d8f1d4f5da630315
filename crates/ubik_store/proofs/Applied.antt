-- Changes that are made one after the other.
use Rattle.std.proofs.Common.{◌≡◌, ◌≤◌, inl, inr, ⊎_elim, ℕ, ◌+◌, List, [], ◌∷◌, Option, Some, None, refl, sym, ap, ◌∙◌, arith}
use Rattle.std.specs.Option.{option_map}
use Rattle.ubik_types.specs.declared.images.Change.{Change}
use Rattle.disk_base.specs.declared.disks.Disk.{Ghosts}
use Rattle.disk_base.specs.declared.disks.FileNo.{FileNo}
use Rattle.disk_base.specs.Files.{Files}
use Rattle.disk_base.specs.Runs.{ChangesAtMost}
use Rattle.disk_base.proofs.Runs.{reads_change_none, reads_nothing, own_as, own_joined, own_none}
use Rattle.disk_base.proofs.Stopping.{advances_none, advances_joined}
use Rattle.ubik_store.specs.Calls.{CallsAtMost}
use Rattle.ubik_store.specs.Moments.{with_database, changed_file, applied}

-- the files after one more of them
pub applied_more : (changes whole : List Change) (change : Change) (start mid after : Option Files)
    → option_map (with_database (applied (change ∷ changes))) mid ≡ option_map (with_database (applied whole)) start
    → after ≡ option_map (with_database (changed_file change)) mid
    → option_map (with_database (applied changes)) after ≡ option_map (with_database (applied whole)) start
applied_more changes whole change start None after so is = ap (option_map (with_database (applied changes))) is ∙ so
applied_more changes whole change start (Some fs) after so is = ap (option_map (with_database (applied changes))) is ∙ so

applied_none : (files : Option Files) → option_map (with_database (applied [])) files ≡ files
applied_none None = refl
applied_none (Some fs) = refl

-- and after the last
pub applied_all : (rest whole : List Change) (start files : Option Files) → rest ≡ []
    → option_map (with_database (applied rest)) files ≡ option_map (with_database (applied whole)) start
    → files ≡ option_map (with_database (applied whole)) start
applied_all rest whole start files none so =
    sym (applied_none files) ∙ ap (λ (cs : List Change). option_map (with_database (applied cs)) files) (sym none) ∙ so

module _ {D : Type 0} {g : Ghosts D} where
  -- calls of one file are calls
  pub calls_of : {f : FileNo} {n : ℕ} {old new : D} {F : Type 0} → ChangesAtMost g f n old new F → CallsAtMost g n old new F
  calls_of run = record {
    at_most = run.at_most;
    advances = run.advances;
    stopped = run.stopped;
    room = run.room;
    tells = run.tells;
    cause = run.cause;
    own = run.own;
  }

  -- no change of a file
  pub no_changes : (f : FileNo) (disk : D) → ChangesAtMost g f 0 disk disk ⊥
  no_changes f disk =
      reads_change_none (reads_nothing disk)

  -- none at all
  pub no_calls : (disk : D) (F : Type 0) → ¬ F → CallsAtMost g 0 disk disk F
  no_calls disk F not = record {
    at_most = (omega arith, omega arith);
    advances = advances_none refl refl;
    stopped = λ is. inl is;
    room = λ f. omega arith;
    tells = refl;
    cause = record { never_falls = omega arith; rose = λ failed. absurd (not failed) };
    own = own_none (g.own_faults disk) (g.own_faults disk) (g.stop disk) F not refl;
  }

  -- calls of two runs, of which the first did not fail
  pub calls_joined : {m n : ℕ} {old mid new : D} {F G : Type 0} → CallsAtMost g m old mid F → ¬ F → CallsAtMost g n mid new G
      → CallsAtMost g (m + n) old new G
  calls_joined {m} {n} {old} {mid} {new} {F} {G} first went second = record {
    at_most = (omega (arith, first.at_most.0, second.at_most.0), omega (arith, first.at_most.1, second.at_most.1));
    advances = advances_joined first.advances second.advances;
    stopped =
        λ is. ⊎_elim (λ was. ⊎_elim (λ before. inl before) (λ failed. absurd (went failed)) (first.stopped was)) (λ failed. inr failed)
        (second.stopped is);
    room = λ f. let before = first.room f in let after = second.room f in omega (arith, before, after);
    tells = second.tells ∙ first.tells;
    cause = record {
      never_falls = omega (arith, first.cause.never_falls, second.cause.never_falls);
      rose = λ failed. let rose = second.cause.rose failed in omega (arith, first.cause.never_falls, rose);
    };
    own = own_joined (g.own_faults old) (g.own_faults mid) (g.own_faults new) (g.stop mid) (g.stop new) F G first.own went second.own;
  }

  -- fewer of them, and a failure that is said in other words
  pub calls_as : {m n : ℕ} {old new : D} {F G : Type 0} → m ≤ n → (F → G) → (G → F) → CallsAtMost g m old new F → CallsAtMost g n old new G
  calls_as {m} {n} {old} {new} {F} {G} fewer to from run = record {
    at_most = (run.at_most.0, omega (arith, fewer, run.at_most.1));
    advances = run.advances;
    stopped = λ is. ⊎_elim (λ was. inl was) (λ failed. inr (to failed)) (run.stopped is);
    room = run.room;
    tells = run.tells;
    cause = record { never_falls = run.cause.never_falls; rose = λ failed. run.cause.rose (from failed) };
    own = own_as (g.own_faults old) (g.own_faults new) (g.stop new) F G to from run.own;
  }
