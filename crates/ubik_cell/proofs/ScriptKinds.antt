-- A run over the database of its cell: what holds of it over whichever.
use Rattle.std.proofs.Common.{◌≡◌, ◌≢◌, ◌+◌, ◌<◌, ◌≤◌, ℕ, Bool, true, false, cond, nat_lt, List, length, Option, Some, None, IfSome, Result, Ok, Err, inl, refl, sym, ap, subst, arith}
use Rattle.std.proofs.lemmas.Bool.Decides.{nat_tests}
use Rattle.disk_base.specs.declared.disks.Disk.{Ghosts}
use Rattle.ubik_types.specs.declared.limits.TheConstants.{MAXSERVERS}
use Rattle.cell_script.specs.Meaning.{line_of}
use Rattle.cell_script.specs.declared.lines.Kind.{Kind}
use Rattle.cell_script.specs.declared.lines.Kind.TheVariants.{Location, Protection}
use Rattle.cell_script.specs.declared.lines.Line.{Line}
use Rattle.cell_script.specs.declared.lines.Why.{Why}
use Rattle.cell_script.specs.declared.lines.Why.TheVariants as why
use Rattle.cell_script.specs.declared.readers.TheConstants.{MAX_LINE}
use Rattle.cell_runs.specs.declared.limits.TheConstants.{MAX_LINES}
use Rattle.cell_runs.specs.Script.{Cell, Told, servers_of}
use Rattle.cell_runs.specs.ScriptDatabase.{Databases}
use Rattle.cell_sites.specs.declared.cells.OpenCell.{OpenCell}
use Rattle.pt_database.specs.declared.service.PtService.{PtService}
use Rattle.vl_database.specs.declared.service.VlService.{VlService}
use Rattle.script_promises.specs.Databases.{databases, standings}
use Rattle.ubik_cell.specs.Lines.{AreHeld, CellStandsFor, IsSoundRun, Leaves, LineTold, ShortLine, ToldLine, only, run_helds, sites_in}
use Rattle.ubik_cell.specs.ScriptRuns.{HasNoCell, IsAtKind, IsOfKind, IsSoundScript, OpensItsKind, ScriptLeaves, ScriptTold, StandsAt, kind_in, kind_opened, script_helds, script_kind_opened, script_lines, script_sites, script_spare}
use Rattle.ubik_cell.specs.declared.runs.ScriptRun.{ScriptRun}
use Rattle.ubik_cell.specs.declared.runs.ScriptRun.TheVariants as over
use Rattle.ubik_cell.specs.declared.scripts.CellRun.{CellRun}
use Rattle.ubik_cell.specs.declared.scripts.RunEnd.{RunEnd}
use Rattle.ubik_cell.proofs.Holding.{count_at, held_at}
use Rattle.ubik_cell.proofs.OneKind.{OpensKind, hold_same, short_line, told_line}
use Rattle.ubik_cell.proofs.LineDisks.{stage_short}

-- ---- facts of a run over one database

module _ {D V : Type 0} (g : Ghosts D) (k : Kind) (given : List ℕ) where
  kind_held : (run : CellRun D V g) (t : Told) → IsSoundRun g (standings k) run → IsAtKind g k given run t
      → AreHeld databases given false t (run_helds g run)
  kind_held run t sound at =
      let held = held_at {standing = standings k} g (only (databases k)) given run t sound at.at in
      record { holds = hold_same k given false t.stage.cell (run_helds g run) at.kind held.holds; causes = held.causes }

  -- what a line left in a run over one database
  kind_leaves : (result : Result (Unit {0}) RunEnd) (after : CellRun D V g) (Goes : Told → Type 0)
      → (result ≡ Ok tt → (later : Told) → IsAtKind g k given after later → Goes later)
      → (result ≢ Ok tt → (later : Told) → AreHeld databases given false later (run_helds g after) → Goes later)
      → (later : Told) → IsOfKind k later.stage.cell → Leaves g (only (databases k)) given result after later → Goes later
  kind_leaves (Ok done) after Goes on ends later kind at = on refl later (record { at = at; kind = kind })
  kind_leaves (Err e) after Goes on ends later kind held =
      ends (λ is. cc) later
      (record { holds = hold_same k given false later.stage.cell (run_helds g after) kind held.holds; causes = held.causes })

  -- a cell stands in a run where one stands in its meaning
  opens_kind : (dbs : Databases) (cell : Option (OpenCell D V g)) (c : Option Cell) (bytes : List ℕ) → CellStandsFor g dbs given cell c
      → IfSome (kind_opened cell bytes) (λ x. x ≡ k) → OpensKind k c bytes
  opens_kind dbs None None bytes stands opens = opens
  opens_kind dbs None (Some c) bytes stands opens = absurd stands
  opens_kind dbs (Some running) None bytes stands opens = absurd stands
  opens_kind dbs (Some running) (Some c) bytes stands opens = tt

-- ---- the same of a run over whichever

module _ {D : Type 0} (g : Ghosts D) (given : List ℕ) where
  pub script_held_at : (run : ScriptRun D g) (t : Told) → IsSoundScript g run → StandsAt g given run t
      → AreHeld databases given false t (script_helds g run)
  script_held_at (over.Protection run) t sound at = kind_held g Protection given run t sound at
  script_held_at (over.Location run) t sound at = kind_held g Location given run t sound at

  pub script_count_at : (run : ScriptRun D g) (t : Told) → IsSoundScript g run → StandsAt g given run t
      → script_sites run ≡ servers_of t.stage.cell
  script_count_at (over.Protection run) t sound at =
      count_at {standing = standings Protection} g (only (databases Protection)) given run t sound at.at
  script_count_at (over.Location run) t sound at =
      count_at {standing = standings Location} g (only (databases Location)) given run t sound at.at

  pub lines_at : (run : ScriptRun D g) (t : Told) → StandsAt g given run t → t.stage.lines ≡ script_lines run
  lines_at (over.Protection run) t at = omega (arith, at.at.stage.lines)
  lines_at (over.Location run) t at = omega (arith, at.at.stage.lines)

  -- memory ran out before a line did anything
  pub script_short_at : (run : ScriptRun D g) (t : Told) (line : List ℕ) → IsSoundScript g run → StandsAt g given run t
      → ShortLine databases given line t (script_helds g run)
  script_short_at run t line sound at =
      let held = script_held_at run t sound at in
      record { causes = held.causes; held = inl (stage_short databases given t.stage.cell (script_helds g run) held.holds) }

module _ {D : Type 0} (g : Ghosts D) where
  pub sound_disks : (run : ScriptRun D g) → IsSoundScript g run → script_sites run + length (script_spare run) ≡ MAXSERVERS
  sound_disks (over.Protection run) sound = sound.disks
  sound_disks (over.Location run) sound = sound.disks

  pub sound_few : (run : ScriptRun D g) → IsSoundScript g run → script_lines run ≤ MAX_LINES
  sound_few (over.Protection run) sound = sound.few
  sound_few (over.Location run) sound = sound.few

  -- a line that is long opens no cell
  long_none : (b : Bool) (x y : Result Line Why) → b ≡ true → kind_in x ≡ None → kind_in (cond b x y) ≡ None
  long_none true x y is none = none
  long_none false x y is none = absurd cc

  pub long_opens : {V : Type 0} (k : Kind) (cell : Option (OpenCell D V g)) (bytes : List ℕ) → MAX_LINE < length bytes
      → IfSome (kind_opened cell bytes) (λ x. x ≡ k)
  long_opens k None bytes long =
      let over_long : nat_lt MAX_LINE (length bytes) ≡ true = grind (arith, nat_tests) in
      let none : kind_in (line_of bytes) ≡ None = long_none (nat_lt MAX_LINE (length bytes)) (Err why.Syntax) _ over_long refl in
      subst (λ (o : Option Kind). IfSome o (λ x. x ≡ k)) (sym none) tt
  long_opens k (Some running) bytes long = tt

-- ---- a line of a run over one database

module _ {D V : Type 0} (g : Ghosts D) (k : Kind) (given line : List ℕ) (t : Told) (before : CellRun D V g)
    (at : IsAtKind g k given before t)
    (opens : IfSome (kind_opened before.cell line) (λ x. x ≡ k)) where
  abbrev may_open : OpensKind k t.stage.cell line
  may_open = opens_kind g k given (only (databases k)) before.cell t.stage.cell line at.at.stage.cell opens

  pub kind_told : (result : Result (Unit {0}) RunEnd) (after : CellRun D V g) (Goes : Told → Type 0) (text_before text_after : List ℕ)
      → (result ≡ Ok tt → (later : Told) → IsAtKind g k given after later → Goes later)
      → (result ≢ Ok tt → (later : Told) → AreHeld databases given false later (run_helds g after) → Goes later)
      → LineTold g (only (databases k)) given line t result after text_before text_after
      → ToldLine databases line t result Goes (sites_in after.cell) text_before text_after
  kind_told result after Goes text_before text_after on ends of =
      told_line k given line t at.kind may_open result (Leaves g (only (databases k)) given result after) Goes
      (sites_in after.cell) text_before text_after
      (kind_leaves g k given result after Goes on ends) of

  pub kind_short : (after : CellRun D V g) → ShortLine (only (databases k)) given line t (run_helds g after)
      → ShortLine databases given line t (run_helds g after)
  kind_short after short = short_line k given line t at.kind may_open (run_helds g after) short

-- ---- a line of a run over whichever database

module _ {D : Type 0} (g : Ghosts D) (given line : List ℕ) (t : Told) where
  leaves_on : (result : Result (Unit {0}) RunEnd) (run : ScriptRun D g) (later : Told) → result ≡ Ok tt → StandsAt g given run later
      → ScriptLeaves g given result run later
  leaves_on (Ok done) run later is at = at
  leaves_on (Err e) run later is at = absurd (cc)

  leaves_ended : (result : Result (Unit {0}) RunEnd) (run : ScriptRun D g) (later : Told) → result ≢ Ok tt
      → AreHeld databases given false later (script_helds g run) → ScriptLeaves g given result run later
  leaves_ended (Ok done) run later other held = absurd (other refl)
  leaves_ended (Err e) run later other held = held

  pub protection_told : (before after : CellRun D PtService g) (result : Result (Unit {0}) RunEnd) (text_before text_after : List ℕ)
      → StandsAt g given (over.Protection before) t → OpensItsKind line (over.Protection before)
      → LineTold g (only (databases Protection)) given line t result after text_before text_after
      → ScriptTold g given line t result (over.Protection after) text_before text_after
  protection_told before after result text_before text_after at opens of =
      let next : ScriptRun D g = over.Protection after in
      kind_told g Protection given line t before at opens result after (ScriptLeaves g given result next) text_before text_after
      (λ is later there. leaves_on result next later is there) (λ other later held. leaves_ended result next later other held) of

  pub location_told : (before after : CellRun D VlService g) (result : Result (Unit {0}) RunEnd) (text_before text_after : List ℕ)
      → StandsAt g given (over.Location before) t → OpensItsKind line (over.Location before)
      → LineTold g (only (databases Location)) given line t result after text_before text_after
      → ScriptTold g given line t result (over.Location after) text_before text_after
  location_told before after result text_before text_after at opens of =
      let next : ScriptRun D g = over.Location after in
      kind_told g Location given line t before at opens result after (ScriptLeaves g given result next) text_before text_after
      (λ is later there. leaves_on result next later is there) (λ other later held. leaves_ended result next later other held) of

  pub protection_short : (before after : CellRun D PtService g) → StandsAt g given (over.Protection before) t
      → OpensItsKind line (over.Protection before)
      → ShortLine (only (databases Protection)) given line t (run_helds g after) → ShortLine databases given line t (run_helds g after)
  protection_short before after at opens short = kind_short g Protection given line t before at opens after short

  pub location_short : (before after : CellRun D VlService g) → StandsAt g given (over.Location before) t
      → OpensItsKind line (over.Location before)
      → ShortLine (only (databases Location)) given line t (run_helds g after) → ShortLine databases given line t (run_helds g after)
  location_short before after at opens short = kind_short g Location given line t before at opens after short

-- ---- a line that is long

module _ {D : Type 0} (g : Ghosts D) where
  pub long_is_own : (line : List ℕ) (run : ScriptRun D g) → MAX_LINE < length line → OpensItsKind line run
  long_is_own line (over.Protection run) long = long_opens g Protection run.cell line long
  long_is_own line (over.Location run) long = long_opens g Location run.cell line long

-- ---- the kind that a line opens

-- where a line opens a cell of a kind no cell stands
none_stands : {D V : Type 0} {g : Ghosts D} (cell : Option (OpenCell D V g)) (line : List ℕ) (k : Kind) → kind_opened cell line ≡ Some k
    → cell ≡ None
none_stands None line k is = refl
none_stands (Some running) line k is = absurd (cc)

module _ {D : Type 0} {g : Ghosts D} where
  pub script_none_stands : (run : ScriptRun D g) (line : List ℕ) (k : Kind) → script_kind_opened run line ≡ Some k → HasNoCell run
  script_none_stands (over.Protection run) line k is = none_stands run.cell line k is
  script_none_stands (over.Location run) line k is = none_stands run.cell line k is

  pub script_no_sites : (run : ScriptRun D g) → HasNoCell run → script_sites run ≡ 0
  script_no_sites (over.Protection run) none = ap (λ (c : Option (OpenCell D PtService g)). sites_in c) none
  script_no_sites (over.Location run) none = ap (λ (c : Option (OpenCell D VlService g)). sites_in c) none

  -- a run that opens no cell opens none of another kind
  pub opens_none : (run : ScriptRun D g) (line : List ℕ) → script_kind_opened run line ≡ None → OpensItsKind line run
  opens_none (over.Protection run) line none = subst (λ (o : Option Kind). IfSome o (λ x. x ≡ Protection)) (sym none) tt
  opens_none (over.Location run) line none = subst (λ (o : Option Kind). IfSome o (λ x. x ≡ Location)) (sym none) tt
