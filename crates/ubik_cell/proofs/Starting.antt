-- How a run of a script starts, goes on and ends.
use Rattle.std.proofs.Common.{drop, ◌≡◌, ◌+◌, ◌-◌, ℕ, Bool, false, List, [], length, Option, Some, None, IfSome, inl, refl, sym, ap, subst, ◌∙◌, arith}
use Rattle.std.proofs.lemmas.List.{append-nil, drop-drop, length-drop}
use Rattle.std.proofs.lemmas.List.Elements.{All-nil}
use Rattle.std.specs.Prelude.{All}
use Rattle.disk_base.specs.declared.disks.Disk.{Ghosts}
use Rattle.disk_base.specs.Files.{no_files}
use Rattle.ubik_types.specs.declared.limits.TheConstants.{MAXSERVERS}
use Rattle.cell_runs.specs.Script.{first_told}
use Rattle.cell_runs.specs.ScriptDatabase.{Databases}
use Rattle.cell_sites.specs.Disks.{Held, all_held}
use Rattle.cell_sites.specs.Opened.{counts_of}
use Rattle.script_promises.specs.Databases.{databases}
use Rattle.ubik_cell.specs.declared.cells.CellKind.{CellKind}
use Rattle.ubik_cell.specs.declared.cells.CellKind.TheVariants as kind
use Rattle.ubik_cell.specs.declared.runs.ScriptRun.{ScriptRun}
use Rattle.ubik_cell.specs.Runs.{IsConsumed, Runs}
use Rattle.ubik_cell.specs.ScriptRuns.{StandsAt, script_helds, script_sites, script_spare}
use Rattle.ubik_cell.specs.Turns.{Ran, RanOver, SoFar}
use Rattle.ubik_cell.proofs.LineDisks.{unwritten}

-- a fact of a source and of a sink of which nothing was taken, and to which nothing was given
pub of_both : (Q : List ℕ → Option (List ℕ) → List ℕ → Option (List ℕ) → Type 0) (left written : Option (List ℕ))
    → ((script before : List ℕ) → Q script (Some script) before (Some before))
    → IfSome left (λ script. IfSome written (λ before. Q script left before written))
of_both Q None written all = tt
of_both Q (Some script) None all = tt
of_both Q (Some script) (Some before) all = all script before

-- from one fact of both to another
pub over_both : (A B : List ℕ → List ℕ → Type 0) (left written : Option (List ℕ))
    → IfSome left (λ script. IfSome written (λ before. A script before)) → ((script before : List ℕ) → A script before → B script before)
    → IfSome left (λ script. IfSome written (λ before. B script before))
over_both A B None written is goes = tt
over_both A B (Some script) None is goes = tt
over_both A B (Some script) (Some before) is goes = goes script before is

module _ {D : Type 0} (g : Ghosts D) (dbs : Databases) where
  -- nothing was run
  pub at_once : (k : CellKind) (script : List ℕ) (left : Option (List ℕ)) (before : List ℕ) (after : Option (List ℕ)) (disks : List D)
      → All (λ disk. g.files disk ≡ Some no_files) disks → Runs k dbs [] script left before after
      → RanOver g k dbs script left before after disks disks
  at_once k script left before after disks empty run = record {
    reached = 0;
    ran = record {
      readings = [];
      whole = tt;
      run = run;
      more = [];
      run_or_not = inl refl;
      causes = refl;
      held = record { holds = unwritten g disks empty; causes = refl };
      servers = λ other. refl;
    };
    stay = refl;
  }

  -- memory ran out before the first line
  pub short_at_once : (disks : List D) → All (λ disk. g.files disk ≡ Some no_files) disks → (script before : List ℕ)
      → RanOver g kind.NoMemory dbs script (Some script) before (Some before) disks disks
  short_at_once disks empty script before =
      at_once kind.NoMemory script (Some script) before (Some before) disks empty (record {
        part = record { read = []; rest = script; split = refl; remains = refl };
        more = [];
        all = refl;
        one = omega arith;
        good = refl;
        wrote = ap Some (sym (append-nil before));
      })

module _ {D : Type 0} (g : Ghosts D) where
  -- before the first line
  pub first_so_far : (given : List ℕ) (ended : Bool) (run : ScriptRun D g) → ended ≡ false → StandsAt g given run first_told
      → (script before : List ℕ)
      → SoFar g given script ended (Some script) before (Some before) run
  first_so_far given ended run going at script before =
      let P : Bool → Type 0 = λ b. IsConsumed b script script [] in
      record {
        readings = [];
        whole = tt;
        rest = script;
        remains = refl;
        consumed = subst P (sym going) (refl, All-nil _);
        good = refl;
        at = at;
        wrote = ap Some (sym (append-nil before));
      }

  -- what is told of what a sink holds, where it holds something
  from_sink : (given script : List ℕ) (ended : Bool) (left : Option (List ℕ)) (before : List ℕ) (w : Option (List ℕ)) (run : ScriptRun D g)
      (Q : (given script before : List ℕ) → Type 0)
      → IfSome w (λ written. (given script before : List ℕ) → SoFar g given script ended left before (Some written) run
      → Q given script before)
      → SoFar g given script ended left before w run → Q given script before
  from_sink given script ended left before None run Q goes so = let never = so.wrote in absurd (cc)
  from_sink given script ended left before (Some written) run Q goes so = goes given script before so

  -- one more turn, where disks had these counts before the script
  pub so_far_on : (given : List ℕ) (ended : Bool) (left : Option (List ℕ)) (w : Option (List ℕ)) (run : ScriptRun D g)
      (Q : (given script before : List ℕ) → Type 0) (input out : Option (List ℕ))
      → IfSome input (λ script. IfSome out (λ before. SoFar g given script ended left before w run))
      → IfSome w (λ written. (given script before : List ℕ) → SoFar g given script ended left before (Some written) run
      → Q given script before)
      → IfSome input (λ script. IfSome out (λ before. Q given script before))
  so_far_on given ended left w run Q input out so goes =
      over_both (λ script before. SoFar g given script ended left before w run) (Q given) input out so
      (λ script before is. from_sink given script ended left before w run Q goes is)

  -- how the disks lie that were not reached
  pub unreached : (run next : ScriptRun D g) (disks after : List D) → script_sites run + length (script_spare run) ≡ MAXSERVERS
      → script_sites next + length (script_spare next) ≡ MAXSERVERS → script_spare run ≡ drop (script_sites run) disks
      → script_spare next ≡ drop (script_sites next - script_sites run) (script_spare run)
      → script_spare next ≡ drop (script_sites next) disks
  unreached run next disks after count next_count spare more =
      let rise = script_sites next - script_sites run in
      let same : script_sites run + rise ≡ script_sites next =
      omega (arith, count, next_count, ap (λ (l : List D). length l) more, length-drop rise (script_spare run)) in
      more ∙ ap (drop rise) spare ∙ drop-drop rise (script_sites run) disks ∙ ap (λ (n : ℕ). drop n disks) same

  -- the disks in their places again
  pub closed : (k : CellKind) (script : List ℕ) (left : Option (List ℕ)) (before : List ℕ) (after : Option (List ℕ)) (next : ScriptRun D g)
      (disks disks_after : List D) → all_held g disks_after ≡ script_helds g next
      → drop (script_sites next) disks_after ≡ script_spare next → script_spare next ≡ drop (script_sites next) disks
      → Ran k databases (counts_of g disks) script left before after (script_sites next) (script_helds g next)
      → RanOver g k databases script left before after disks disks_after
  closed k script left before after next disks disks_after held others spare ran = record {
    reached = script_sites next;
    ran = subst (λ (h : List Held). Ran k databases (counts_of g disks) script left before after (script_sites next) h) (sym held) ran;
    stay = others ∙ spare;
  }
