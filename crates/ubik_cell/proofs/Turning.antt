-- How a run goes on, or ends, at a line.
use Rattle.std.proofs.Common.{◌<◌, take, drop, ◌≡◌, ◌≢◌, ◌≤◌, ◌+◌, ◌⊎◌, inl, inr, ℕ, List, [], ◌∷◌, ◌++◌, length, Bool, true, false, Option, Some, None, IfSome, Result, Ok, Err, refl, sym, ap, subst, ◌∙◌, arith, append_assoc, length-append}
use Rattle.std.proofs.Math.Seq.{take-append_seam}
use Rattle.std.proofs.lemmas.List.{append-nil, take-append-drop, take_all}
use Rattle.disk_base.specs.declared.disks.Disk.{Ghosts}
use Rattle.cell_script.specs.Lines.{TakesLine, TakesPart, lines_of}
use Rattle.cell_script.specs.Write.{AppendsPart}
use Rattle.cell_script.specs.declared.readers.LineEnd.{LineEnd}
use Rattle.cell_script.specs.declared.readers.LineEnd.TheVariants as line_end
use Rattle.cell_script.specs.declared.readers.TheConstants.{MAX_LINE}
use Rattle.cell_runs.specs.declared.endings.Ending.{Ending}
use Rattle.cell_runs.specs.declared.endings.Ending.TheVariants.{Refused, Limit}
use Rattle.cell_runs.specs.Script.{AreWhole, LineRead, Told, servers_of, told}
use Rattle.cell_runs.specs.ScriptDatabase.{Databases}
use Rattle.cell_sites.specs.Disks.{Held}
use Rattle.script_promises.specs.Databases.{databases}
use Rattle.ubik_cell.specs.declared.cells.CellKind.{CellKind}
use Rattle.ubik_cell.specs.declared.cells.CellKind.TheVariants as kind
use Rattle.ubik_cell.specs.declared.runs.ScriptRun.{ScriptRun}
use Rattle.ubik_cell.specs.declared.scripts.RunEnd.{RunEnd}
use Rattle.ubik_cell.specs.declared.scripts.RunEnd.TheVariants.{Ended}
use Rattle.ubik_cell.specs.Lines.{AreHeld, HeldAfter, HeldCauses, HoldStage, ShortLine}
use Rattle.ubik_cell.specs.Runs.{IsConsumed, RanShort, RanUntil, ReadSome, Runs, Wrote, ends_at, kind_at, read_lines}
use Rattle.ubik_cell.specs.ScriptRuns.{IsSoundScript, ScriptLeaves, ScriptTold, StandsAt, script_helds, script_lines, script_sites}
use Rattle.ubik_cell.specs.Turns.{Ran, SoFar, is_short}
use Rattle.ubik_cell.proofs.Consuming.{all_lines, consumed-push, in_line, later_lines, lines_and_part, read_so_far, whole_before}
use Rattle.ubik_cell.proofs.ScriptKinds.{lines_at, script_count_at, script_held_at}
use Rattle.ubik_cell.proofs.Telling.{read_lines-push, same_some, told-push, whole-push}

-- a run before a line of which at most 1025 bytes were read
pub record AtLine {D : Type 0} (g : Ghosts D) (given : List ℕ) (text : List ℕ) (left : Option (List ℕ))
    (before : List ℕ) (after : Option (List ℕ)) (run : ScriptRun D g) (line : List ℕ) : Type 0 where
  pub readings : List LineRead
  pub whole : AreWhole readings
  pub part : ReadSome text left
  pub so_far : lines_of part.read ≡ read_lines readings ++ take 1025 line ∷ []
  pub later : List (List ℕ)
  pub all : lines_of text ≡ read_lines readings ++ line ∷ later
  pub good : (told databases readings).ended ≡ None
  pub at : StandsAt g given run (told databases readings)
  pub wrote : Wrote before after (told databases readings).text

-- ---- the end of a run

module _ (dbs : Databases) (given : List ℕ) (text : List ℕ) (left : Option (List ℕ)) (before : List ℕ) (after : Option (List ℕ))
    (reached : ℕ) (disks : List Held) where
  -- a run all of whose lines were told, and in which memory did not run out
  ran_all : (k : CellKind) (readings : List LineRead) → AreWhole readings → is_short k ≡ false → Runs k dbs readings text left before after
      → AreHeld dbs given false (told dbs readings) disks
      → reached ≡ servers_of (told dbs readings).stage.cell → Ran k dbs given text left before after reached disks
  ran_all k readings whole enough run held servers = record {
    readings = readings;
    whole = whole;
    run = run;
    more = [];
    run_or_not = inl refl;
    causes = held.causes;
    held = subst (λ (short : Bool). AreHeld dbs given short (told dbs (readings ++ [])) disks) (sym enough)
        (subst (λ (l : List LineRead). AreHeld dbs given false (told dbs l) disks) (sym (append-nil readings)) held);
    servers = λ _. servers;
  }

  until_kind : (number : ℕ) (ending : Ending) (readings : List LineRead) → RanUntil number ending dbs readings text left before after
      → Runs (kind_at number ending) dbs readings text left before after
  until_kind number (Refused why) readings run = run
  until_kind number (Limit which) readings run = run

  until_enough : (number : ℕ) (ending : Ending) → is_short (kind_at number ending) ≡ false
  until_enough number (Refused why) = refl
  until_enough number (Limit which) = refl

-- what is known of what was left, where so much is left
of_left : (P : List ℕ → Type 0) (left : Option (List ℕ)) (rest : List ℕ) → left ≡ Some rest → IfSome left P → P rest
of_left P left rest is h = let Q : Option (List ℕ) → Type 0 = λ l. IfSome l P in subst Q is h

-- ---- after a line

module _ {D : Type 0} (g : Ghosts D) (given : List ℕ) where
  leaves_held : (result : Result (Unit {0}) RunEnd) (next : ScriptRun D g) (later : Told) → (result ≡ Ok tt → IsSoundScript g next)
      → ScriptLeaves g given result next later → AreHeld databases given false later (script_helds g next)
  leaves_held (Ok done) next later sound leaves = script_held_at g given next later (sound refl) leaves
  leaves_held (Err e) next later sound leaves = leaves

  module _ (text : List ℕ) (left : Option (List ℕ)) (before written : List ℕ) (after : Option (List ℕ)) (run next : ScriptRun D g)
      (line : List ℕ) (at : AtLine g given text left before (Some written) run line) where
    abbrev t : Told
    t = told databases at.readings

    module _ (result : Result (Unit {0}) RunEnd) (bytes : List ℕ) (of : ScriptTold g given line t result next [] bytes) where
      abbrev last : LineRead
      last = record { line = line; choices = of.choices }

      abbrev readings : List LineRead
      readings = at.readings ++ last ∷ []

      all_whole : AreWhole readings
      all_whole = whole-push at.readings last at.whole of.whole

      more : told databases readings ≡ of.later
      more = told-push databases at.readings last at.good ∙ sym of.is

      abbrev LaterHas : (Told → Type 0) → Type 0
      LaterHas P = P of.later → P (told databases readings)

      later_has : (P : Told → Type 0) → LaterHas P
      later_has P is = subst P (sym more) is

      all_text : (told databases readings).text ≡ t.text ++ bytes
      all_text = ap (λ (d : Told). d.text) more ∙ of.text ∙ ap (λ (b : List ℕ). t.text ++ b) (sym of.told)

      whole_wrote : after ≡ Some (written ++ bytes) → Wrote before after (told databases readings).text
      whole_wrote wrote =
          wrote ∙ ap (λ (w : List ℕ). Some (w ++ bytes)) (same_some at.wrote) ∙ ap Some (append_assoc before t.text bytes)
          ∙ ap (λ (b : List ℕ). Some (before ++ b)) (sym all_text)

      held_later : (result ≡ Ok tt → IsSoundScript g next) → AreHeld databases given false (told databases readings) (script_helds g next)
      held_later sound =
          later_has (λ d. AreHeld databases given false d (script_helds g next)) (leaves_held result next of.later sound of.leaves)

      servers_later : script_sites next ≡ servers_of (told databases readings).stage.cell
      servers_later = later_has (λ d. script_sites next ≡ servers_of d.stage.cell) of.servers

      abbrev RanSo : CellKind → Type 0
      RanSo k = Ran k databases given text left before after (script_sites next) (script_helds g next)

      -- the sink failed in what the line tells
      pub part_told : (result ≡ Ok tt → IsSoundScript g next) → AppendsPart written after bytes → RanSo kind.WriteFault
      part_told sound wrote =
          ran_all databases given text left before after (script_sites next)
          (script_helds g next) kind.WriteFault readings all_whole refl (record {
            earlier = at.readings;
            last = last;
            is = refl;
            part = at.part;
            all = at.so_far;
            good = at.good;
            front = take wrote.count bytes;
            back = drop wrote.count bytes;
            trace = all_text ∙ ap (λ (b : List ℕ). t.text ++ b) (sym (take-append-drop wrote.count bytes))
                ∙ sym (append_assoc t.text (take wrote.count bytes) (drop wrote.count bytes));
            wrote = wrote.written ∙ ap (λ (w : List ℕ). Some (w ++ take wrote.count bytes)) (same_some at.wrote)
                ∙ ap Some (append_assoc before t.text (take wrote.count bytes));
          }) (held_later sound) servers_later

    -- the script ends in the line, which was told
    pub ended_told : (ending : Ending) (bytes : List ℕ) (of : ScriptTold g given line t (Err (Ended ending)) next [] bytes)
        (number : ℕ)
        → number ≡ script_lines run + 1 → after ≡ Some (written ++ bytes)
        → Ran (kind_at number ending) databases given text left before after (script_sites next) (script_helds g next)
    ended_told ending bytes of number is wrote =
        let result : Result (Unit {0}) RunEnd = Err (Ended ending) in
        let all : List LineRead = readings result bytes of in
        let place : t.stage.lines + 1 ≡ number = omega (arith, lines_at g given run t at.at, is) in
        ran_all databases given text left before after (script_sites next) (script_helds g next) (kind_at number ending) all
        (all_whole result bytes of)
        (until_enough databases given text left before after (script_sites next) (script_helds g next) number ending)
        (until_kind databases given text left before after (script_sites next) (script_helds g next) number ending all (record {
          earlier = at.readings;
          last = last result bytes of;
          later = at.later;
          is = refl;
          all = at.all;
          part = at.part;
          so_far = at.so_far;
          good = at.good;
          ended = ap (λ (d : Told). d.ended) (more result bytes of) ∙ of.ended ∙ ap (λ (n : ℕ). Some (ends_at n ending)) place;
          wrote = whole_wrote result bytes of wrote;
        })) (later_has result bytes of (λ d. AreHeld databases given false d (script_helds g next)) of.leaves)
        (servers_later result bytes of)

    -- memory ran out in the line
    abbrev disks : List Held
    disks = script_helds g next

    abbrev ran_short : after ≡ Some written → RanShort databases at.readings text left before after
    ran_short same = record {
      part = at.part;
      more = take 1025 line ∷ [];
      all = at.so_far;
      one = omega arith;
      good = at.good;
      wrote = same ∙ at.wrote;
    }

    short_by : after ≡ Some written → HeldCauses t.stage.cell t.items disks
        → HoldStage databases given true t.stage.cell disks ⊎ HeldAfter databases given (take 1025 line) t disks
        → Ran kind.NoMemory databases given text left before after (script_sites next) disks
    short_by same causes (inl holds) = record {
      readings = at.readings;
      whole = at.whole;
      run = ran_short same;
      more = [];
      run_or_not = inl refl;
      causes = causes;
      held = subst (λ (l : List LineRead). AreHeld databases given true (told databases l) disks) (sym (append-nil at.readings))
          (record { holds = holds; causes = causes });
      servers = λ other. absurd (other refl);
    }
    short_by same causes (inr held) =
        let r : LineRead = record { line = take 1025 line; choices = held.choices } in
        record {
          readings = at.readings;
          whole = at.whole;
          run = ran_short same;
          more = r ∷ [];
          run_or_not = inr refl;
          causes = causes;
          held = subst (λ (d : Told). AreHeld databases given true d disks) (sym (told-push databases at.readings r at.good)) held.held;
          servers = λ other. absurd (other refl);
        }

    pub short_told : ShortLine databases given (take 1025 line) t disks → after ≡ Some written
        → Ran kind.NoMemory databases given text left before after (script_sites next) disks
    short_told short same = short_by same short.causes short.held

  -- ---- before a line

  -- a run before a line that was read whole, with which the source has ended or not
  pub record AtWhole (text : List ℕ) (ended : Bool) (left : Option (List ℕ)) (before : List ℕ) (after : Option (List ℕ))
      (run : ScriptRun D g) (line : List ℕ) : Type 0 where
    pub at : AtLine g given text left before after run line
    pub bound : take 1025 line ≡ line
    pub rest : List ℕ
    pub remains : left ≡ Some rest
    pub consumed : IsConsumed ended text rest (read_lines at.readings ++ line ∷ [])

  -- the line was told whole
  pub going_on : (text : List ℕ) (ended : Bool) (left : Option (List ℕ)) (before written : List ℕ) (after : Option (List ℕ))
      (run next : ScriptRun D g)
      (line bytes : List ℕ) (at : AtWhole text ended left before (Some written) run line)
      → ScriptTold g given line (told databases at.at.readings) (Ok tt) next [] bytes → after ≡ Some (written ++ bytes)
      → SoFar g given text ended left before after next
  going_on text ended left before written after run next line bytes at of wrote =
      let all : List LineRead = readings text left before written after run next line at.at (Ok tt) bytes of in
      let same : told databases all ≡ of.later = more text left before written after run next line at.at (Ok tt) bytes of in
      let r : LineRead = record { line = line; choices = of.choices } in
      record {
        readings = all;
        whole = all_whole text left before written after run next line at.at (Ok tt) bytes of;
        rest = at.rest;
        remains = at.remains;
        consumed = subst (IsConsumed ended text at.rest) (sym (read_lines-push at.at.readings r)) at.consumed;
        good = ap (λ (d : Told). d.ended) same ∙ of.ended;
        at = subst (λ (d : Told). StandsAt g given next d) (sym same) of.leaves;
        wrote = whole_wrote text left before written after run next line at.at (Ok tt) bytes of wrote;
      }

  module _ (script : List ℕ) (was now : Bool) (left later : Option (List ℕ)) (before : List ℕ) (after : Option (List ℕ))
      (run : ScriptRun D g)
      (so : SoFar g given script was left before after run) where
    abbrev lines : List (List ℕ)
    lines = read_lines so.readings

    going : was ≡ false → IsConsumed false script so.rest lines
    going was_false = let P : Bool → Type 0 = λ b. IsConsumed b script so.rest lines in subst P was_false so.consumed

    -- a line was read
    pub at_line : (line : List ℕ) → was ≡ false → IfSome left (λ text. TakesLine text later line now)
        → AtWhole script now later before after run line
    at_line line was_false takes =
        let taken = of_left (λ (text : List ℕ). TakesLine text later line now) left so.rest so.remains takes in
        let more = consumed-push now script so.rest line taken.rest lines taken.no_lf taken.read (going was_false) in
        let is = read_so_far now script taken.rest (lines ++ line ∷ []) more in
        let whole : take 1025 line ≡ line = take_all 1025 line (omega (arith, taken.bound)) in
        let behind = later_lines now script taken.rest (lines ++ line ∷ []) more in
        record {
          at = record {
            readings = so.readings;
            whole = so.whole;
            part = record { read = is.read; rest = taken.rest; split = is.split; remains = taken.left };
            so_far = is.all ∙ ap (λ (l : List ℕ). lines ++ l ∷ []) (sym whole);
            later = behind.0;
            all = behind.1 ∙ append_assoc lines (line ∷ []) behind.0;
            good = so.good;
            at = so.at;
            wrote = so.wrote;
          };
          bound = whole;
          rest = taken.rest;
          remains = taken.left;
          consumed = more;
        }

    -- 1025 bytes of a line were read
    pub record AtLong : Type 0 where
      pub line : List ℕ
      pub long : MAX_LINE < length line
      pub long_part : MAX_LINE < length (take 1025 line)
      pub at : AtLine g given script later before after run line

    abbrev TakesLong : List ℕ → Type 0
    TakesLong text = (now ≡ false) × (taken : TakesPart text later) × (length taken.part ≡ MAX_LINE + 1)

    pub at_long : was ≡ false → IfSome left TakesLong → AtLong
    at_long was_false long =
        let taken = of_left TakesLong left so.rest so.remains long in
        let part : List ℕ = taken.1.part in
        let full : length part ≡ 1025 = taken.2 in
        let is =
        lines_and_part script so.rest part taken.1.rest lines taken.1.no_lf taken.1.read (omega (arith, full)) (going was_false) in
        let line = in_line script so.rest part taken.1.rest lines taken.1.no_lf taken.1.read (omega (arith, full)) (going was_false) in
        let front : take 1025 (part ++ line.more) ≡ part =
        ap (λ (n : ℕ). take n (part ++ line.more)) (sym full) ∙ take-append_seam part line.more in
        record {
          line = part ++ line.more;
          long = omega (arith, length-append part line.more, full);
          long_part = omega (arith, ap (λ (l : List ℕ). length l) front, full);
          at = record {
            readings = so.readings;
            whole = so.whole;
            part = record { read = is.read; rest = taken.1.rest; split = is.split; remains = taken.1.left };
            so_far = is.all ∙ ap (λ (l : List ℕ). lines ++ l ∷ []) (sym front);
            later = line.later;
            all = line.all;
            good = so.good;
            at = so.at;
            wrote = so.wrote;
          };
        }

    -- ---- no line more

    abbrev disks_now : List Held
    disks_now = script_helds g run

    held_now : IsSoundScript g run → AreHeld databases given false (told databases so.readings) disks_now
    held_now sound = script_held_at g given run (told databases so.readings) sound so.at

    -- the script was read to its end, just now or before
    abbrev MeetsEnd : List ℕ → Type 0
    MeetsEnd text = (now ≡ true) × (text ≡ []) × (later ≡ Some [])

    end_of : (was : Bool) → (was ≡ false → IfSome left MeetsEnd) → (was ≡ true → later ≡ left) → IsConsumed was script so.rest lines
        → (so.rest ≡ []) × (later ≡ Some [])
    end_of false ends ended consumed = let end = of_left MeetsEnd left so.rest so.remains (ends refl) in (end.1, end.2)
    end_of true ends ended consumed = (consumed.0, ended refl ∙ so.remains ∙ ap Some consumed.0)

    pub ran_to_the_end : IsSoundScript g run → (was ≡ false → IfSome left MeetsEnd) → (was ≡ true → later ≡ left)
        → Ran kind.Done databases given script later before after (script_sites run) disks_now
    ran_to_the_end sound ends ended =
        let end = end_of was ends ended so.consumed in
        ran_all databases given script later before after (script_sites run) disks_now kind.Done so.readings so.whole refl (record {
          all = sym (all_lines was script so.rest lines so.consumed end.0);
          end = end.1;
          good = so.good;
          wrote = so.wrote;
        }) (held_now sound) (script_count_at g given run (told databases so.readings) sound so.at)

    -- the source failed
    abbrev Fails : List ℕ → Type 0
    Fails text = (now ≡ false) × (taken : TakesPart text later) × (length taken.part ≤ MAX_LINE)

    pub ran_to_fault : IsSoundScript g run → was ≡ false → IfSome left Fails
        → Ran kind.ReadFault databases given script later before after (script_sites run) disks_now
    ran_to_fault sound was_false fails =
        let taken = (of_left Fails left so.rest so.remains fails).1 in
        let whole = whole_before script so.rest taken.part taken.rest lines taken.no_lf taken.read (going was_false) in
        ran_all databases given script later before after (script_sites run) disks_now kind.ReadFault so.readings so.whole refl (record {
          part = record { read = whole.0; rest = taken.rest; split = whole.1; remains = taken.left };
          all = whole.2;
          good = so.good;
          wrote = so.wrote;
        }) (held_now sound) (script_count_at g given run (told databases so.readings) sound so.at)

-- a source that did not end just now had not ended before
pub was_going : (was : Bool) (end : LineEnd) → end ≢ line_end.End → (was ≡ true → end ≡ line_end.End) → was ≡ false
was_going false end other ended = refl
was_going true end other ended = absurd (other (ended refl))
