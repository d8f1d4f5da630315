-- What is written of a line, and how a run goes on, or ends, there.
use Rattle.std.proofs.Common.{take, ◌≡◌, ◌≢◌, ◌+◌, ◌⊎◌, inl, inr, ℕ, List, [], ◌++◌, Bool, Option, Some, None, IfSome, Result, Ok, Err, refl, sym, subst, ◌∙◌}
use Rattle.disk_base.specs.declared.disks.Disk.{Ghosts}
use Rattle.cell_script.specs.Write.{AppendsPart}
use Rattle.cell_runs.specs.Script.{Told, told}
use Rattle.script_promises.specs.Databases.{databases}
use Rattle.ubik_cell.specs.declared.cells.CellKind.{CellKind}
use Rattle.ubik_cell.specs.declared.cells.CellKind.TheVariants as kind
use Rattle.ubik_cell.specs.declared.runs.ScriptRun.{ScriptRun}
use Rattle.ubik_cell.specs.declared.scripts.RunEnd.{RunEnd}
use Rattle.ubik_cell.specs.declared.scripts.RunEnd.TheVariants.{Ended, NoMemory}
use Rattle.ubik_cell.specs.Lines.{ShortLine}
use Rattle.ubik_cell.specs.Runs.{kind_at}
use Rattle.ubik_cell.specs.ScriptRuns.{IsSoundScript, ScriptTold, script_helds, script_lines, script_sites}
use Rattle.ubik_cell.specs.Turns.{Ran, SoFar, end_after}
use Rattle.ubik_cell.proofs.Turning.{AtLine, AtWhole, ended_told, going_on, part_told, short_told}

is_fault : (o : Option CellKind) → (o ≡ Some kind.WriteFault) ⊎ (o ≢ Some kind.WriteFault)
is_fault None = inr (λ is. cc)
is_fault (Some kind.Done) = inr (λ is. cc)
is_fault (Some (kind.ScriptRefused line why)) = inr (λ is. cc)
is_fault (Some kind.ReadFault) = inr (λ is. cc)
is_fault (Some kind.WriteFault) = inl refl
is_fault (Some (kind.Limit line which)) = inr (λ is. cc)
is_fault (Some kind.NoMemory) = inr (λ is. cc)
is_fault (Some (kind.Words place)) = inr (λ is. cc)

-- what was written of a line that was told, and how that ended
pub record IsWritten (result : Result (Unit {0}) RunEnd) (number : ℕ) (bytes : List ℕ) (o : Option CellKind) (w after : Option
    (List ℕ)) : Type 0 where
  pub unwritten : result ≡ Err NoMemory → (o ≡ Some kind.NoMemory) × (after ≡ w)
  pub whole : result ≢ Err NoMemory → o ≢ Some kind.WriteFault →
      (o ≡ end_after number result) × IfSome w (λ before. after ≡ Some (before ++ bytes))
  pub part : o ≡ Some kind.WriteFault → (result ≢ Err NoMemory) × IfSome w (λ before. AppendsPart before after bytes)

-- a fact of what a sink holds that nothing was written to
pub as_written : (P : List ℕ → Option (List ℕ) → Type 0) (w : Option (List ℕ)) → ((written : List ℕ) → P written (Some written))
    → IfSome w (λ written. P written w)
as_written P None all = tt
as_written P (Some written) all = all written

module _ {D : Type 0} (g : Ghosts D) (left : Option (List ℕ)) (after : Option (List ℕ)) (run next : ScriptRun D g) where
  -- what a line did to a run before it
  pub record ReadyAt (result : Result (Unit {0}) RunEnd) (bytes given script before written : List ℕ) : Type 0 where
    pub line : List ℕ
    pub at : AtLine g given script left before (Some written) run line
    pub line_told : result ≢ Err NoMemory → ScriptTold g given line (told databases at.readings) result next [] bytes
    pub short : result ≡ Err NoMemory → ShortLine databases given (take 1025 line) (told databases at.readings) (script_helds g next)

  -- what was told, of a text that was cleared before
  pub retold : (given line : List ℕ) (t : Told) (result : Result (Unit {0}) RunEnd) (text_before text_after bytes : List ℕ)
      → text_before ≡ []
      → bytes ≡ text_after → ScriptTold g given line t result next text_before text_after
      → ScriptTold g given line t result next [] bytes
  retold given line t result text_before text_after bytes none same of =
      subst (λ (b : List ℕ). ScriptTold g given line t result next [] b) (sym same)
      (subst (λ (b : List ℕ). ScriptTold g given line t result next b text_after) none of)

  abbrev RanSo : (given script before : List ℕ) → CellKind → Type 0
  RanSo given script before k = Ran k databases given script left before after (script_sites next) (script_helds g next)

  module _ (number : ℕ) (next_number : number ≡ script_lines run + 1) (bytes : List ℕ)
      (P : (given script before written : List ℕ) → Type 0) where
    abbrev AllRan : List ℕ → CellKind → Type 0
    AllRan written k = (given script before : List ℕ) → P given script before written → RanSo given script before k

    abbrev AreReady : Result (Unit {0}) RunEnd → List ℕ → Type 0
    AreReady result written =
        (given script before : List ℕ) → P given script before written → ReadyAt result bytes given script before written

    part_ends : (result : Result (Unit {0}) RunEnd) (written : List ℕ) → result ≢ Err NoMemory
        → (result ≡ Ok tt → IsSoundScript g next) → AreReady result written → AppendsPart written after bytes
        → AllRan written kind.WriteFault
    part_ends result written goes sound ready wrote = λ given script before p.
        let r = ready given script before p in
        part_told g given script left before written after run next r.line r.at result bytes (r.line_told goes) sound wrote

    by_part : (result : Result (Unit {0}) RunEnd) (written : List ℕ) → result ≢ Err NoMemory
        → (result ≡ Ok tt → IsSoundScript g next) → AreReady result written → (o : Option CellKind) → o ≡ Some kind.WriteFault
        → AppendsPart written after bytes → IfSome o (AllRan written)
    by_part result written goes sound ready o is wrote =
        subst (λ (x : Option CellKind). IfSome x (AllRan written)) (sym is) (part_ends result written goes sound ready wrote)

    by_result : (result : Result (Unit {0}) RunEnd) (o : Option CellKind) (written : List ℕ)
        → IsWritten result number bytes o (Some written) after → (result ≡ Ok tt → IsSoundScript g next) → AreReady result written
        → (o ≡ Some kind.WriteFault) ⊎ (o ≢ Some kind.WriteFault) → IfSome o (AllRan written)
    by_result (Err NoMemory) o written is sound ready fault =
        let none = is.unwritten refl in
        subst (λ (x : Option CellKind). IfSome x (AllRan written)) (sym none.0) (λ given script before p.
        let r = ready given script before p in
        short_told g given script left before written after run next r.line r.at (r.short refl) none.1)
    by_result (Ok done) o written is sound ready (inl fault) =
        let part = is.part fault in by_part (Ok done) written part.0 sound ready o fault part.1
    by_result (Ok done) o written is sound ready (inr whole) =
        let result : Result (Unit {0}) RunEnd = Ok done in
        let other : result ≢ Err NoMemory = λ same. cc in
        subst (λ (x : Option CellKind). IfSome x (AllRan written)) (sym (is.whole other whole).0) tt
    by_result (Err (Ended ending)) o written is sound ready (inl fault) =
        let part = is.part fault in by_part (Err (Ended ending)) written part.0 sound ready o fault part.1
    by_result (Err (Ended ending)) o written is sound ready (inr whole) =
        let result : Result (Unit {0}) RunEnd = Err (Ended ending) in
        let other : result ≢ Err NoMemory = λ same. cc in
        let wrote = is.whole other whole in
        subst (λ (x : Option CellKind). IfSome x (AllRan written)) (sym wrote.0) (λ given script before p.
        let r = ready given script before p in
        ended_told g given script left before written after run next r.line r.at ending bytes (r.line_told other) number
        next_number wrote.1)

    none_written : (o : Option CellKind) → IfSome o (λ k. Unit {0})
    none_written None = tt
    none_written (Some k) = tt

    pub ends_line : (result : Result (Unit {0}) RunEnd) (o : Option CellKind) (w : Option (List ℕ))
        → IsWritten result number bytes o w after
        → (result ≡ Ok tt → IsSoundScript g next) → ((written : List ℕ) → AreReady result written)
        → IfSome o (λ k. IfSome w (λ written. AllRan written k))
    ends_line result o None is sound ready = none_written o
    ends_line result o (Some written) is sound ready = by_result result o written is sound (ready written) (is_fault o)

    -- ---- the script goes on

    module _ (ended : Bool) where
      -- what a line that was read whole did
      pub record GoesAt (result : Result (Unit {0}) RunEnd) (given script before written : List ℕ) : Type 0 where
        pub line : List ℕ
        pub at : AtWhole g given script ended left before (Some written) run line
        pub line_told : ScriptTold g given line (told databases at.at.readings) result next [] bytes

      goes_by : (result : Result (Unit {0}) RunEnd) (o : Option CellKind) (w : Option (List ℕ)) → o ≡ None
          → IsWritten result number bytes o w after
          → (result ≡ Ok tt) × IfSome w (λ before. after ≡ Some (before ++ bytes))
      goes_by (Err NoMemory) o w none is = let never : None ≡ Some kind.NoMemory = sym none ∙ (is.unwritten refl).0 in absurd (cc)
      goes_by (Ok done) o w none is =
          (refl, (is.whole (λ same. cc) (λ fault. let never : None ≡ Some kind.WriteFault = sym none ∙ fault in cc)).1)
      goes_by (Err (Ended ending)) o w none is =
          let never : None ≡ Some (kind_at number ending) =
          sym none ∙ (is.whole (λ same. cc) (λ fault. let not : None ≡ Some kind.WriteFault = sym none ∙ fault in cc)).0 in
          absurd (cc)

      pub goes_line : (result : Result (Unit {0}) RunEnd) (o : Option CellKind) (w : Option (List ℕ)) → o ≡ None
          → IsWritten result number bytes o w after
          → (result ≡ Ok tt → (given script before written : List ℕ) → P given script before written
          → GoesAt result given script before written)
          → IfSome w (λ written. (given script before : List ℕ) → P given script before written → SoFar g given script ended left before
          after next)
      goes_line result o None none is ready = tt
      goes_line result o (Some written) none is ready = λ given script before p.
          let by = goes_by result o (Some written) none is in
          let r = ready by.0 given script before written p in
          going_on g given script ended left before written after run next r.line bytes r.at
          (subst (λ (x : Result (Unit {0}) RunEnd). ScriptTold g given r.line (told databases r.at.at.readings) x next [] bytes) by.0
          r.line_told) by.1
