-- From a line that was understood to its bytes, and to the end of the script in it.
use Rattle.std.proofs.Common.{Bool, true, false, cond, ◌≡◌, ◌≢◌, ◌⊎◌, inl, inr, ℕ, ◌+◌, ◌<◌, ◌≤◌, nat_le, nat_lt, List, [], ◌++◌, length, refl, sym, ap, subst, ◌∙◌, append_assoc, arith}
use Rattle.std.proofs.lemmas.Bool.Decides.{nat_tests}
use Rattle.std.proofs.lemmas.List.{append-nil}
use Rattle.std.specs.Prelude.{Option, Some, None, Result, Ok, Err}
use Rattle.disk_base.specs.declared.disks.Disk.{Ghosts}
use Rattle.cell_script.specs.Meaning.{line_of}
use Rattle.cell_script.specs.declared.lines.Line.{Line}
use Rattle.cell_script.specs.declared.lines.Why.{Why}
use Rattle.cell_script.specs.declared.lines.Why.TheVariants as why
use Rattle.cell_script.specs.declared.readers.TheConstants.{MAX_LINE}
use Rattle.cell_runs.specs.declared.endings.Ending.{Ending}
use Rattle.cell_runs.specs.declared.endings.Ending.TheVariants as ending
use Rattle.cell_runs.specs.declared.endings.Which.TheVariants.{Lines}
use Rattle.cell_runs.specs.declared.limits.TheConstants.{MAX_LINES}
use Rattle.cell_runs.specs.Script.{Choices, Line_run, Stage, Told, end_text, ended_at, meaning_run, next_line, or_refused, sound_choices, text_in, told_with}
use Rattle.cell_runs.specs.ScriptDatabase.{ScriptDatabase}
use Rattle.cell_runs.specs.Trace.{ending_text}
use Rattle.cell_sites.specs.declared.faults.LineFault.{LineFault}
use Rattle.cell_sites.specs.declared.faults.LineFault.TheVariants.{Refused, Limit, NoMemory}
use Rattle.cell_sites.specs.Disks.{all_held}
use Rattle.ubik_cell.specs.declared.scripts.CellRun.{CellRun}
use Rattle.ubik_cell.specs.declared.scripts.RunEnd.{RunEnd}
use Rattle.ubik_cell.specs.declared.scripts.RunEnd.TheVariants as run_end
use Rattle.ubik_cell.specs.LineRuns.{EndTold, IsEnded, KeepsPlaces, KeepsRun, LineDone, LineEnds, ReadDone, result_of, run_of_line}
use Rattle.ubik_cell.specs.Lines.{AreHeld, HeldAfter, HoldStage, IsAt, IsNear, IsSoundBy, IsSoundRun, LineShort, LineTold, ShortAfter, StageTold, only, run_helds, sites_in}
use Rattle.ubik_cell.proofs.Holding.{count_at, held_at}
use Rattle.ubik_cell.proofs.LineDisks.{stage_short}
use Rattle.ubik_cell.proofs.Lifting.{near_holds, run_causes}
use Rattle.db_image.specs.Standing.{Standing}

-- ---- what the bytes mean

few_lines : (b : Bool) (x y : Result Line_run Ending) → b ≡ false → cond b x y ≡ y
few_lines true x y is = absurd (cc)
few_lines false x y is = refl

all_lines : (b : Bool) (x y : Result Line_run Ending) → b ≡ true → cond b x y ≡ x
all_lines true x y is = refl
all_lines false x y is = absurd (cc)

over_long : (b : Bool) (x y : Result Line Why) → b ≡ true → cond b x y ≡ x
over_long true x y is = refl
over_long false x y is = absurd (cc)

module _ {D V : Type 0} {standing : Standing} (g : Ghosts D) (db : ScriptDatabase) (bytes : List ℕ) (before : CellRun D V g)
    (sound : IsSoundRun g standing before) where
  -- the bytes of a line that stands for this, where lines are left
  result_is : (given : List ℕ) (st : Stage) → IsNear g (only db) given 0 before st → before.lines < MAX_LINES → (m : Result Line Why)
      → line_of bytes ≡ m → (choices : Choices)
      → result_of db bytes st choices ≡ or_refused (meaning_run (only db) (next_line st) choices m)
  result_is given st near room m is choices =
      let more : nat_le MAX_LINES st.lines ≡ false = grind (arith, nat_tests, near.lines) in
      few_lines (nat_le MAX_LINES st.lines) _ _ more
      ∙ ap (λ x. or_refused (meaning_run (only db) (next_line st) choices x)) is

  -- a line that means nothing
  pub ended_meaning : (reason : Why) (text : List ℕ) → before.lines < MAX_LINES → line_of bytes ≡ Err reason
      → IsEnded g db bytes (ending.Refused reason) before before text text
  ended_meaning reason text room is = (refl, refl, λ given st near choices. result_is given st near room (Err reason) is choices)

  -- a line of too many bytes
  pub ended_long : (text : List ℕ) → before.lines < MAX_LINES → MAX_LINE < length bytes
      → IsEnded g db bytes (ending.Refused why.Syntax) before before text text
  ended_long text room long =
      let over : nat_lt MAX_LINE (length bytes) ≡ true = grind (arith, nat_tests) in
      ended_meaning why.Syntax text room (over_long (nat_lt MAX_LINE (length bytes)) _ _ over)

  -- one line too many
  pub ended_lines : (text : List ℕ) → MAX_LINES ≤ before.lines → IsEnded g db bytes (ending.Limit Lines) before before text text
  ended_lines text full = (
    refl,
    refl,
    λ given st near choices.
        let all : nat_le MAX_LINES st.lines ≡ true = grind (arith, nat_tests, near.lines) in
        all_lines (nat_le MAX_LINES st.lines) _ _ all,
  )

  pub short_read : (text : List ℕ) → ReadDone g db bytes (Err NoMemory) before before text text
  short_read text = λ given st near. record {
    causes = λ items causes. run_causes g (only db) given before.cell st.cell items (all_held g before.spare.items) near.cell causes;
    held = inl (stage_short (only db) given st.cell (run_helds g before) (near_holds g (only db) given 0 before st sound near));
  }

  module _ (l : Line) (room : before.lines < MAX_LINES) (is : line_of bytes ≡ Ok l) (after : CellRun D V g)
      (text_before text_after : List ℕ) where
    stage_told : (ended : Option Ending) (given : List ℕ) (st : Stage) → IsNear g (only db) given 0 before st
        → StageTold g (only db) given (run_of_line db l st) ended before after text_before text_after
        → StageTold g (only db) given (result_of db bytes st) ended before after text_before text_after
    stage_told ended given st near t = record {
      choices = t.choices;
      whole = t.whole;
      ran = t.ran;
      is = result_is given st near room (Ok l) is t.choices ∙ ap or_refused t.is;
      ends = t.ends;
      near = t.near;
      servers = t.servers;
      holds = t.holds;
      kept = t.kept;
      told = t.told;
      causes = t.causes;
      held = t.held;
    }

    pub read_done : (result : Result (Unit {0}) LineFault) → LineDone g db l result before after text_before text_after
        → ReadDone g db bytes result before after text_before text_after
    read_done (Ok done) line_done = λ given st near. stage_told None given st near (line_done given st near)
    read_done (Err (Limit which)) line_done =
        inr (λ given st near. stage_told (Some (ending.Limit which)) given st near (line_done given st near))
    read_done (Err (Refused reason)) line_done = (
      line_done.0,
      line_done.1,
      λ given st near choices. result_is given st near room (Ok l) is choices ∙ ap or_refused (line_done.2 given st near choices),
    )
    read_done (Err NoMemory) line_done = λ given st near.
        let short = line_done given st near in record { causes = short.causes; held = by given st near short.held }
      where
        by : (given : List ℕ) (st : Stage) → IsNear g (only db) given 0 before st
            → HoldStage (only db) given true st.cell (run_helds g after) ⊎ ShortAfter g (only db) given (run_of_line db l st) before after
            → HoldStage (only db) given true st.cell (run_helds g after) ⊎ ShortAfter g (only db) given (result_of db bytes st) before after
        by given st near (inl held) = inl held
        by given st near (inr ran) = inr (record {
          choices = ran.choices;
          ran = ran.ran;
          is = result_is given st near room (Ok l) is ran.choices ∙ ap or_refused ran.is;
          holds = ran.holds;
          causes = ran.causes;
        })

-- ---- what is told of it

no_end : (line : ℕ) (e : Option Ending) → e ≡ None → end_text (ended_at line e) ≡ []
no_end line e is = ap (λ x. end_text (ended_at line x)) is

module _ {D V : Type 0} (g : Ghosts D) (db : ScriptDatabase) (bytes : List ℕ) (before : CellRun D V g) where
  -- a line after which the script goes on
  pub line_ok : (after : CellRun D V g) (text_before text_after : List ℕ) → ReadDone g db bytes (Ok tt) before after text_before text_after
      → LineEnds g db bytes (Ok tt) before (record after { lines = after.lines + 1 }) text_before text_after
  line_ok after text_before text_after done = λ given t at good.
      let s = done given t.stage at.stage in
      let near = s.near refl in
      let told = text_in (only db) s.ran.stage.cell s.ran.items in
      let none = no_end (t.stage.lines + 1) s.ran.ending s.ends in
      let later = told_with (only db) t (Ok s.ran) in
      record {
        choices = s.choices;
        whole = s.whole;
        later = later;
        is = ap (told_with (only db) t) (sym s.is);
        ended = ap (ended_at (t.stage.lines + 1)) s.ends;
        added = told;
        told = s.told;
        text = ap (λ l. (t.text ++ told) ++ l) none ∙ append-nil (t.text ++ told);
        servers = s.servers;
        leaves = record {
          stage = record { lines = omega (arith, near.lines); asks = near.asks; cell = near.cell; spare = near.spare };
          causes = s.causes t.items at.causes;
        };
      }

  module _ (given : List ℕ) (t : Told) (at : IsAt g (only db) given before t) where
    -- the number of the line at which the script ends
    line_number : t.stage.lines + 1 ≡ before.lines + 1
    line_number = omega (arith, at.stage.lines)

    -- a line at which it ends before it does anything
    ended_told : {standing : Standing} (e : Ending) (after : CellRun D V g) (text_before middle text_after : List ℕ)
        → IsSoundRun g standing before
        → IsEnded g db bytes e before after text_before middle
        → text_after ≡ middle ++ ending_text (before.lines + 1) e
        → LineTold g (only db) given bytes t (Err (run_end.Ended e)) after text_before text_after
    ended_told e after text_before middle text_after sound ends told =
        let held = held_at g (only db) given before t sound at in
        record {
          choices = sound_choices;
          whole = record { most = refl; found = tt };
          later = told_with (only db) t (Err e);
          is = ap (told_with (only db) t) (sym (ends.2 given t.stage at.stage sound_choices));
          ended = refl;
          added = ending_text (t.stage.lines + 1) e;
          told = told ∙ ap (λ l. l ++ ending_text (before.lines + 1) e) ends.1 ∙ ap (λ n. text_before ++ ending_text n e) (sym line_number);
          text = refl;
          servers = ap (λ (r : CellRun D V g). sites_in r.cell) ends.0 ∙ count_at g (only db) given before t sound at;
          leaves = subst (λ (r : CellRun D V g). AreHeld (only db) given false (told_with (only db) t (Err e)) (run_helds g r)) (sym ends.0)
              (record { holds = held.holds; causes = held.causes });
        }

    -- a line in which packets pass a limit
    limit_told : (e : Ending) (after : CellRun D V g) (text_before middle text_after : List ℕ)
        → StageTold g (only db) given (result_of db bytes t.stage) (Some e) before after text_before middle
        → text_after ≡ middle ++ ending_text (before.lines + 1) e
        → LineTold g (only db) given bytes t (Err (run_end.Ended e)) after text_before text_after
    limit_told e after text_before middle text_after s told =
        let items = text_in (only db) s.ran.stage.cell s.ran.items in
        let line = t.stage.lines + 1 in
        record {
          choices = s.choices;
          whole = s.whole;
          later = told_with (only db) t (Ok s.ran);
          is = ap (told_with (only db) t) (sym s.is);
          ended = ap (ended_at line) s.ends;
          added = items ++ ending_text line e;
          told =
              told ∙ ap (λ l. l ++ ending_text (before.lines + 1) e) s.told
              ∙ ap (λ n. (text_before ++ items) ++ ending_text n e) (sym line_number)
              ∙ append_assoc text_before items (ending_text line e);
          text = ap (λ x. (t.text ++ items) ++ end_text (ended_at line x)) s.ends ∙ append_assoc t.text items (ending_text line e);
          servers = s.servers;
          leaves = record { holds = s.holds; causes = s.held t.items at.causes };
        }

    -- memory ran out in the telling
    limit_short : (e : Ending) (after : CellRun D V g) (text_before middle : List ℕ)
        → StageTold g (only db) given (result_of db bytes t.stage) (Some e) before after text_before middle
        → LineShort g (only db) given bytes t after
    limit_short e after text_before middle s =
        let holds = stage_short (only db) given s.ran.stage.cell (run_helds g after) s.holds in
        record {
          causes = s.kept t.stage.cell t.items at.stage.cell at.causes;
          held = inr (record {
            choices = s.choices;
            held = subst (λ r. AreHeld (only db) given true (told_with (only db) t r) (run_helds g after)) (sym s.is)
                (record { holds = holds; causes = s.held t.items at.causes });
          });
        }

    -- memory ran out in the line
    ran_short : (after : CellRun D V g) → HoldStage (only db) given true t.stage.cell (run_helds g after)
        ⊎ ShortAfter g (only db) given (result_of db bytes t.stage) before after
        → HoldStage (only db) given true t.stage.cell (run_helds g after) ⊎ HeldAfter (only db) given bytes t (run_helds g after)
    ran_short after (inl holds) = inl holds
    ran_short after (inr ran) = inr (record {
      choices = ran.choices;
      held = subst (λ r. AreHeld (only db) given true (told_with (only db) t r) (run_helds g after)) (sym ran.is)
          (record { holds = ran.holds; causes = ran.causes t.items at.causes });
    })

  pub line_ended : {standing : Standing} (e : Ending) (result : Result (Unit {0}) RunEnd) (after : CellRun D V g)
      (text_before middle text_after : List ℕ) → IsSoundRun g standing before
      → IsEnded g db bytes e before after text_before middle → EndTold (before.lines + 1) e result middle text_after
      → LineEnds g db bytes result before after text_before text_after
  line_ended e (Ok done) after text_before middle text_after sound ends told = absurd told
  line_ended e (Err (run_end.Ended other)) after text_before middle text_after sound ends told = λ given t at good.
      subst (λ x. LineTold g (only db) given bytes t (Err (run_end.Ended x)) after text_before text_after) (sym told.0)
      (ended_told given t at e after text_before middle text_after sound ends told.1)
  line_ended e (Err run_end.NoMemory) after text_before middle text_after sound ends told = λ given t at good.
      let held = subst (λ (r : CellRun D V g). AreHeld (only db) given false t (run_helds g r)) (sym ends.0)
      (held_at g (only db) given before t sound at) in
      record { causes = held.causes; held = inl (stage_short (only db) given t.stage.cell (run_helds g after) held.holds) }

  pub line_limited : (e : Ending) (result : Result (Unit {0}) RunEnd) (after : CellRun D V g) (text_before middle text_after : List ℕ)
      → ((given : List ℕ) (st : Stage) → IsNear g (only db) given 0 before st
      → StageTold g (only db) given (result_of db bytes st) (Some e) before after text_before middle)
      → EndTold (before.lines + 1) e result middle text_after → LineEnds g db bytes result before after text_before text_after
  line_limited e (Ok done) after text_before middle text_after ends told = absurd told
  line_limited e (Err (run_end.Ended other)) after text_before middle text_after ends told = λ given t at good.
      subst (λ x. LineTold g (only db) given bytes t (Err (run_end.Ended x)) after text_before text_after) (sym told.0)
      (limit_told given t at e after text_before middle text_after (ends given t.stage at.stage) told.1)
  line_limited e (Err run_end.NoMemory) after text_before middle text_after ends told = λ given t at good.
      limit_short given t at e after text_before middle (ends given t.stage at.stage)

  -- memory ran out in it
  pub line_short : (after : CellRun D V g) (text_before text_after : List ℕ)
      → ReadDone g db bytes (Err NoMemory) before after text_before text_after
      → LineEnds g db bytes (Err run_end.NoMemory) before after text_before text_after
  line_short after text_before text_after short = λ given t at good.
      let is = short given t.stage at.stage in record { causes = is.causes t.items at.causes; held = ran_short given t at after is.held }

-- ---- what stays

pub places_of : {D V : Type 0} {standing : Standing} (g : Ghosts D) (fault : LineFault) (result : Result (Unit {0}) RunEnd)
    (before after : CellRun D V g)
    → KeepsRun g standing (Err fault) before after → (result ≡ Ok tt → ⊥) → KeepsPlaces g standing result before after
places_of g fault result before after keeps never = record {
  disks = keeps.disks;
  spare = keeps.spare;
  sound = λ done. absurd (never done);
  lines = λ done. absurd (never done);
}

pub places_ok : {D V : Type 0} {standing : Standing} (g : Ghosts D) (before after : CellRun D V g)
    → KeepsRun g standing (Ok tt) before after
    → KeepsPlaces g standing (Ok tt) before (record after { lines = after.lines + 1 })
places_ok {D} {V} {standing} g before after keeps =
    let sound = keeps.sound refl in
    record {
      disks = keeps.disks;
      spare = keeps.spare;
      sound = λ done. subst (λ n. IsSoundBy g standing n (record after { lines = after.lines + 1 })) (ap (λ n. n + 1) (sym keeps.lines))
          (record {
            cell = sound.cell;
            spare = sound.spare;
            settled = sound.settled;
            unarmed = sound.unarmed;
            disks = sound.disks;
            asks = sound.asks;
            few = sound.few;
          });
      lines = λ done. ap (λ n. n + 1) keeps.lines;
    }

pub no_ok : (line : ℕ) (e : Ending) (result : Result (Unit {0}) RunEnd) (text_before text_after : List ℕ)
    → EndTold line e result text_before text_after → result ≡ Ok tt → ⊥
no_ok line e (Ok done) text_before text_after told is = told
no_ok line e (Err (run_end.Ended other)) text_before text_after told is = cc
no_ok line e (Err run_end.NoMemory) text_before text_after told is = cc

-- ---- as callers ask for it

same_end : (a b : Ending) → ◌≡◌ {A = Result (Unit {0}) RunEnd} (Err (run_end.Ended a)) (Err (run_end.Ended b)) → a ≡ b
same_end a b is = cc

-- by whether the end was told
pub end_told_of : (line : ℕ) (e : Ending) (result : Result (Unit {0}) RunEnd) (text_before text_after : List ℕ)
    → (result ≢ Err run_end.NoMemory → (result ≡ Err (run_end.Ended e)) × (text_after ≡ text_before ++ ending_text line e)) → result ≢ Ok tt
    → EndTold line e result text_before text_after
end_told_of line e (Ok done) text_before text_after told ends = absurd (ends refl)
end_told_of line e (Err (run_end.Ended other)) text_before text_after told ends =
    let is = told (λ never. cc) in (same_end other e is.0, is.1)
end_told_of line e (Err run_end.NoMemory) text_before text_after told ends = tt

module _ {D V : Type 0} (g : Ghosts D) (db : ScriptDatabase) (bytes : List ℕ) (before after : CellRun D V g)
    (text_before text_after : List ℕ) where
  pub ends_told : (result : Result (Unit {0}) RunEnd) → LineEnds g db bytes result before after text_before text_after
      → result ≢ Err run_end.NoMemory
      → (given : List ℕ) (t : Told) → IsAt g (only db) given before t → t.ended ≡ None
      → LineTold g (only db) given bytes t result after text_before text_after
  ends_told (Ok done) ends other = ends
  ends_told (Err (run_end.Ended e)) ends other = ends
  ends_told (Err run_end.NoMemory) ends other = absurd (other refl)

  pub ends_short : (result : Result (Unit {0}) RunEnd) → LineEnds g db bytes result before after text_before text_after
      → result ≡ Err run_end.NoMemory
      → (given : List ℕ) (t : Told) → IsAt g (only db) given before t → t.ended ≡ None → LineShort g (only db) given bytes t after
  ends_short (Ok done) ends is = absurd (cc)
  ends_short (Err (run_end.Ended e)) ends is = absurd (cc)
  ends_short (Err run_end.NoMemory) ends is = ends
