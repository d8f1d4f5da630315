-- A script that no line ends where every disk is sound is run to its end, where no disk failed.
use Rattle.std.proofs.Common.{◌≡◌, ◌≢◌, ◌+◌, ◌<◌, ◌≤◌, ◌⊎◌, inl, inr, ℕ, zero, suc, List, [], ◌∷◌, ◌++◌, length, take, Option, Some, None, refl, sym, ap, subst, ◌∙◌, append_assoc, arith}
use Rattle.std.proofs.lemmas.List.{append-nil}
use Rattle.std.proofs.lemmas.List.Elements.{All-head, All-tail}
use Rattle.std.proofs.lemmas.Bool.Decides.{nat_tests}
use Rattle.std.specs.Prelude.{All, Bool, true, false, nat_lt}
use Rattle.disk_base.specs.declared.disks.Disk.{Ghosts}
use Rattle.cell_model.specs.World.{Site}
use Rattle.cell_script.specs.Lines.{lines_of}
use Rattle.cell_runs.specs.Script.{AreWhole, Cell, LineRead, told}
use Rattle.cell_runs.specs.Trace.{TraceItem, fault_count}
use Rattle.cell_runs.specs.declared.endings.Ending.{Ending}
use Rattle.cell_runs.specs.declared.endings.Ending.TheVariants.{Refused, Limit}
use Rattle.cell_sites.specs.Disks.{AreCauses, AreReadBy, Held, all_held, held}
use Rattle.cell_sites.specs.Opened.{counts_of}
use Rattle.script_laws.specs.Runs.{NamesCalls}
use Rattle.script_laws.specs.Sound.{FaultsHaveServers, HasNoFault, SoundFronts, sound_lines, sites_told}
use Rattle.script_promises.specs.Databases.{databases}
use Rattle.ubik_cell.specs.declared.cells.CellKind.{CellKind}
use Rattle.ubik_cell.specs.declared.cells.CellKind.TheVariants as kind
use Rattle.ubik_cell.specs.Lines.{AreHeld, HeldCauses, HoldStage}
use Rattle.ubik_cell.specs.Runs.{IsDoneOrShort, IsInside, RanUntil, read_lines}
use Rattle.ubik_cell.specs.Turns.{Ran, RanOver}
use Rattle.ubik_cell.proofs.Telling.{read_lines-push}

lt_or_le : (k n : ℕ) → (k < n) ⊎ (n ≤ k)
lt_or_le k n = by (nat_lt k n) refl
  where
    by : (b : Bool) → nat_lt k n ≡ b → (k < n) ⊎ (n ≤ k)
    by true is = inl (grind (arith, nat_tests))
    by false is = inr (grind (arith, nat_tests))

-- ---- disks that never failed

abbrev NoneFailed : List Held → Type 0
NoneFailed [] = Unit {0}
NoneFailed (disk ∷ disks) = (disk.faults ≡ 0) × NoneFailed disks

none_failed : {D : Type 0} (g : Ghosts D) (disks : List D) → All (λ disk. g.faults disk ≡ 0) disks
    → NoneFailed (all_held g disks)
none_failed g [] sound = tt
none_failed g (disk ∷ disks) sound =
    (All-head (λ d. g.faults d ≡ 0) disk disks sound, none_failed g disks (All-tail (λ d. g.faults d ≡ 0) disk disks sound))

-- so many are there as are taken from them
took : {X : Type 0} (n : ℕ) (xs : List X) → length (take n xs) ≡ n → n ≤ length xs
took zero xs is = omega arith
took (suc n) [] is = absurd (omega (arith, is))
took (suc n) (x ∷ xs) is = let more = took n xs (omega (arith, is)) in omega (arith, more)

-- as many disks as servers
as_read : (sites : List Site) (disks : List Held) → AreReadBy sites disks → length sites ≡ length disks
as_read [] [] read = refl
as_read [] (disk ∷ disks) read = absurd read
as_read (site ∷ sites) [] read = absurd read
as_read (site ∷ sites) (disk ∷ disks) read = ap suc (as_read sites disks read.1)

-- each server has a disk
enough : (given : List ℕ) (short : Bool) (c : Cell) (disks : List Held) → HoldStage databases given short (Some c) disks
    → length c.run.world.sites ≤ length disks
enough given short c disks holds =
    let n = length c.run.world.sites in took n disks (sym (as_read c.run.world.sites (take n disks) holds.0.read))

no_fault_at : (k place n : ℕ) (items : List TraceItem) (disks : List Held) → AreCauses place items (take n disks) → NoneFailed disks
    → k < n → n ≤ length disks → fault_count (place + k) items ≡ 0
no_fault_at k place zero items disks causes none inside few = absurd (omega (arith, inside))
no_fault_at k place (suc n) items [] causes none inside few = absurd (omega (arith, few))
no_fault_at zero place (suc n) items (disk ∷ disks) causes none inside few =
    let same : place ≡ place + 0 = omega arith in
    subst (λ (m : ℕ). fault_count m items ≡ 0) same (omega (arith, causes.0, none.0))
no_fault_at (suc k) place (suc n) items (disk ∷ disks) causes none inside few =
    let same : (place + 1) + k ≡ place + suc k = omega arith in
    subst (λ (m : ℕ). fault_count m items ≡ 0) same
    (no_fault_at k (place + 1) n items disks causes.1 none.1 (omega (arith, inside)) (omega (arith, few)))

-- so no fault is told
module _ (law : FaultsHaveServers) (names : NamesCalls databases) (disks : List Held) (none : NoneFailed disks) where
  no_fault : (given : List ℕ) (short : Bool) (readings : List LineRead) (cell : Option Cell) → (told databases readings).stage.cell ≡ cell
      → HeldCauses cell (told databases readings).items disks → HoldStage databases given short cell disks
      → HasNoFault (told databases readings).items
  no_fault given short readings None is causes holds = λ k.
      law databases names readings k (subst (λ (o : Option Cell). sites_told o ≤ k) (sym is) (omega arith))
  no_fault given short readings (Some c) is causes holds = λ k. by k (lt_or_le k (length c.run.world.sites))
    where
      by : (k : ℕ) → (k < length c.run.world.sites) ⊎ (length c.run.world.sites ≤ k) → fault_count k (told databases readings).items ≡ 0
      by k (inl inside) =
          let same : 0 + k ≡ k = omega arith in
          subst (λ (m : ℕ). fault_count m (told databases readings).items ≡ 0) same
          (no_fault_at k 0 (length c.run.world.sites) (told databases readings).items disks causes none inside
          (enough given short c disks holds))
      by k (inr past) = law databases names readings k (subst (λ (o : Option Cell). sites_told o ≤ k) (sym is) past)

-- ---- no line ends the script

no_lines : (readings : List LineRead) → read_lines readings ≡ [] → readings ≡ []
no_lines [] is = refl
no_lines (r ∷ readings) is = absurd (cc)

none_more : (more : List LineRead) → (more ≡ []) ⊎ (read_lines more ≡ []) → more ≡ []
none_more more (inl none) = none
none_more more (inr none) = no_lines more none

module _ (fronts : SoundFronts) (law : FaultsHaveServers) (names : NamesCalls databases) where
  not_until : (number : ℕ) (ending : Ending) (readings : List LineRead) (text : List ℕ) (left : Option (List ℕ)) (before : List ℕ)
      (after : Option (List ℕ)) → AreWhole readings → RanUntil number ending databases readings text left before after
      → HasNoFault (told databases readings).items → IsInside databases text → ⊥
  not_until number ending readings text left before after are_whole run sound inside =
      let lines : read_lines readings ≡ read_lines run.earlier ++ run.last.line ∷ [] =
      ap read_lines run.is ∙ read_lines-push run.earlier run.last in
      let all : lines_of text ≡ read_lines readings ++ run.later =
      run.all ∙ sym (append_assoc (read_lines run.earlier) (run.last.line ∷ []) run.later)
      ∙ ap (λ (l : List (List ℕ)). l ++ run.later) (sym lines) in
      let whole : (told databases (sound_lines (read_lines readings ++ run.later))).ended ≡ None =
      subst (λ (l : List (List ℕ)). (told databases (sound_lines l)).ended ≡ None) all inside in
      let never = sym (fronts databases readings run.later are_whole sound whole) ∙ run.ended in cc

  module _ (given : List ℕ) (text : List ℕ) (left : Option (List ℕ)) (before : List ℕ) (after : Option (List ℕ)) (reached : ℕ)
      (disks : List Held) (none : NoneFailed disks) where
    quiet : (short : Bool) (readings more : List LineRead) → (more ≡ []) ⊎ (read_lines more ≡ [])
        → HeldCauses (told databases readings).stage.cell (told databases readings).items disks
        → AreHeld databases given short (told databases (readings ++ more)) disks → HasNoFault (told databases readings).items
    quiet short readings more only causes held =
        let same : readings ++ more ≡ readings = ap (λ (l : List LineRead). readings ++ l) (none_more more only) ∙ append-nil readings in
        let here = subst (λ (l : List LineRead). AreHeld databases given short (told databases l) disks) same held in
        no_fault law names disks none given short readings (told databases readings).stage.cell refl causes here.holds

    is_complete : (k : CellKind) → Ran k databases given text left before after reached disks → IsInside databases text → k ≢ kind.ReadFault
        → k ≢ kind.WriteFault → ((place : ℕ) → k ≢ kind.Words place) → IsDoneOrShort k
    is_complete kind.Done ran inside read wrote words = tt
    is_complete (kind.ScriptRefused line why) ran inside read wrote words =
        not_until line (Refused why) ran.readings text left before after ran.whole ran.run
        (quiet false ran.readings ran.more ran.run_or_not ran.causes ran.held) inside
    is_complete kind.ReadFault ran inside read wrote words = read refl
    is_complete kind.WriteFault ran inside read wrote words = wrote refl
    is_complete (kind.Limit line which) ran inside read wrote words =
        not_until line (Limit which) ran.readings text left before after ran.whole ran.run
        (quiet false ran.readings ran.more ran.run_or_not ran.causes ran.held) inside
    is_complete kind.NoMemory ran inside read wrote words = tt
    is_complete (kind.Words place) ran inside read wrote words = words place refl

pub complete : SoundFronts → FaultsHaveServers → NamesCalls databases
    → {D : Type 0} (g : Ghosts D) (k : CellKind)
    (script : List ℕ) (left : Option (List ℕ)) (before : List ℕ) (after : Option (List ℕ)) (disks_before disks_after : List D)
    → RanOver g k databases script left before after disks_before disks_after → All (λ disk. g.faults disk ≡ 0) disks_after
    → IsInside databases script → k ≢ kind.ReadFault → k ≢ kind.WriteFault → ((place : ℕ) → k ≢ kind.Words place) → IsDoneOrShort k
complete fronts law names g k script left before after disks_before disks_after over sound inside =
    is_complete fronts law names (counts_of g disks_before) script left before after over.reached (all_held g disks_after)
    (none_failed g disks_after sound) k over.ran inside
