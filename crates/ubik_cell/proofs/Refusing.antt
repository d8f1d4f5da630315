-- The line at which a script ends, told by its reason alone.
use Rattle.std.proofs.Common.{◌≡◌, ◌+◌, ◌<◌, ◌≤◌, ℕ, Bool, true, false, List, ◌++◌, length, Result, Ok, Err, inl, refl, sym, ap, ◌∙◌, arith}
use Rattle.std.specs.Prelude.{nat_le, nat_lt, cond}
use Rattle.std.proofs.lemmas.Bool.Decides.{nat_tests}
use Rattle.disk_base.specs.declared.disks.Disk.{Ghosts}
use Rattle.cell_script.specs.Meaning.{is_idle, line_of, line_of_split}
use Rattle.cell_script.specs.Words.{words_of}
use Rattle.cell_script.specs.declared.lines.Line.{Line}
use Rattle.cell_script.specs.declared.lines.Line.TheVariants.{Nothing}
use Rattle.cell_script.specs.declared.lines.Why.{Why}
use Rattle.cell_script.specs.declared.lines.Why.TheVariants as why
use Rattle.cell_script.specs.declared.readers.TheConstants.{MAX_LINE}
use Rattle.cell_runs.specs.declared.endings.Ending.{Ending}
use Rattle.cell_runs.specs.declared.endings.Ending.TheVariants.{Refused, Limit}
use Rattle.cell_runs.specs.declared.endings.Which.TheVariants.{Lines}
use Rattle.cell_runs.specs.declared.limits.TheConstants.{MAX_LINES}
use Rattle.cell_runs.specs.Script.{LineRead, Stage, Told, line_result, meaning_run, next_line, or_refused, sound_choices, told_with}
use Rattle.cell_runs.specs.ScriptDatabase.{Databases}
use Rattle.cell_runs.specs.Trace.{ending_text}
use Rattle.ubik_cell.specs.declared.scripts.CellRun.{CellRun}
use Rattle.ubik_cell.specs.declared.scripts.RunEnd.TheVariants.{Ended}
use Rattle.ubik_cell.specs.Lines.{IsAt, IsSoundRun, LineShort, LineTold, run_helds}
use Rattle.ubik_cell.proofs.Holding.{count_at, held_at}
use Rattle.ubik_cell.proofs.LineDisks.{stage_short}
use Rattle.db_image.specs.Standing.{Standing}

module _ {D V : Type 0} {standing : Standing} (g : Ghosts D) (dbs : Databases) (given : List ℕ) (run : CellRun D V g) (t : Told)
    (sound : IsSoundRun g standing run) (at : IsAt g dbs given run t) where
  -- the end was told
  pub end_told : (line : List ℕ) (ending : Ending) (text_before text_after : List ℕ)
      → line_result dbs t.stage (record { line = line; choices = sound_choices }) ≡ Err ending
      → text_after ≡ text_before ++ ending_text (run.lines + 1) ending
      → LineTold g dbs given line t (Err (Ended ending)) run text_before text_after
  end_told line ending text_before text_after ends told =
      let held = held_at g dbs given run t sound at in
      let place : run.lines + 1 ≡ t.stage.lines + 1 = omega (arith, at.stage.lines) in
      record {
        choices = sound_choices;
        whole = record { most = refl; found = tt };
        later = told_with dbs t (Err ending);
        is = ap (told_with dbs t) (sym ends);
        ended = refl;
        added = ending_text (t.stage.lines + 1) ending;
        told = told ∙ ap (λ (n : ℕ). text_before ++ ending_text n ending) place;
        text = refl;
        leaves = record { holds = held.holds; causes = held.causes };
        servers = count_at g dbs given run t sound at;
      }

  -- memory ran out before anything was done
  pub end_short : (line : List ℕ) → LineShort g dbs given line t run
  end_short line =
      let held = held_at g dbs given run t sound at in
      record { causes = held.causes; held = inl (stage_short dbs given t.stage.cell (run_helds g run) held.holds) }

-- ---- a line that is too long

past_lines : (dbs : Databases) (st : Stage) (r : LineRead) → MAX_LINES ≤ st.lines → line_result dbs st r ≡ Err (Limit Lines)
past_lines dbs st r past =
    let full : nat_le MAX_LINES st.lines ≡ true = grind (arith, nat_tests) in
    ap (λ (b : Bool). cond b (Err (Limit Lines)) (or_refused (meaning_run dbs (next_line st) r.choices (line_of r.line)))) full

too_long : (line : List ℕ) → MAX_LINE < length line → line_of line ≡ Err why.Syntax
too_long line long =
    let past : nat_lt MAX_LINE (length line) ≡ true = grind (arith, nat_tests) in
    ap (λ (b : Bool). cond b (Err why.Syntax) (cond (is_idle line) (Ok Nothing) (line_of_split (words_of line)))) past

refused_long : (dbs : Databases) (st : Stage) (r : LineRead) → st.lines < MAX_LINES → MAX_LINE < length r.line
    → line_result dbs st r ≡ Err (Refused why.Syntax)
refused_long dbs st r few long =
    let going : nat_le MAX_LINES st.lines ≡ false = grind (arith, nat_tests) in
    ap (λ (b : Bool). cond b (Err (Limit Lines)) (or_refused (meaning_run dbs (next_line st) r.choices (line_of r.line)))) going
    ∙ ap (λ (m : Result Line Why). or_refused (meaning_run dbs (next_line st) r.choices m)) (too_long r.line long)

pub long_full : (dbs : Databases) (st : Stage) (r : LineRead) (lines : ℕ) → st.lines ≡ lines → MAX_LINES ≤ lines
    → line_result dbs st r ≡ Err (Limit Lines)
long_full dbs st r lines same full = past_lines dbs st r (omega (arith, same, full))

pub long_few : (dbs : Databases) (st : Stage) (r : LineRead) (lines : ℕ) → st.lines ≡ lines → lines < MAX_LINES → MAX_LINE < length r.line
    → line_result dbs st r ≡ Err (Refused why.Syntax)
long_few dbs st r lines same few long = refused_long dbs st r (omega (arith, same, few)) long
