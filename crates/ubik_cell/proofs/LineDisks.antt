-- What the disks of a run hold, those of its cell first.
use Rattle.std.proofs.Common.{◌≡◌, inl, ℕ, zero, suc, ◌+◌, List, [], ◌∷◌, ◌++◌, length, map, refl, sym, ap, subst, ◌∙◌, cond, arith}
use Rattle.std.proofs.lemmas.List.{append-nil}
use Rattle.std.proofs.lemmas.List.Elements.{All-head, All-tail}
use Rattle.std.specs.Prelude.{Bool, true, false, Option, Some, None, IsSomeAnd, All, take, drop}
use Rattle.disk_base.specs.declared.disks.Disk.{Ghosts}
use Rattle.disk_base.specs.Files.{Files, no_files}
use Rattle.db_image.specs.Database.{Database}
use Rattle.incoming_file.proofs.Opens.{empty_ignored}
use Rattle.ubik_log.proofs.Gates.{short_log_is_discarded}
use Rattle.ubik_store.specs.Opening.{OpensIn}
use Rattle.ubik_store.specs.Opening.OpensIn.{treats}
use Rattle.ubik_store.specs.Opening.EndsLogIn.{cuts}
use Rattle.cell_model.specs.Durable.{no_database}
use Rattle.cell_model.specs.World.{Site}
use Rattle.cell_runs.specs.Trace.{TraceItem, Tells, Shows, fault_count, is_fault_of}
use Rattle.cell_runs.specs.Script.{Cell, hosts_from, hosts_of}
use Rattle.cell_runs.specs.ScriptDatabase.{Databases}
use Rattle.cell_sites.specs.declared.sites.Site.{Site as RunningSite}
use Rattle.cell_sites.specs.Counts.{AreCountsFrom, HoldRun}
use Rattle.cell_sites.specs.Disks.{Held, all_held, held, AreReadBy, AreCauses, AreRises}
use Rattle.cell_sites.specs.Opened.{counts_of}
use Rattle.cell_sites.specs.Sites.{site_disk}
use Rattle.cell_sites.proofs.Standing.{fresh_stands}
use Rattle.ubik_cell.specs.Lines.{AreUnwritten, HoldStage, IsUnwritten, database_in}
use Rattle.ubik_node.specs.Disk.{StandsAs}

fault_count-append : (k : ℕ) (items more : List TraceItem) → fault_count k (items ++ more) ≡ fault_count k items + fault_count k more
fault_count-append k [] more = omega arith
fault_count-append k (Tells h ∷ items) more =
    let rest = fault_count-append k items more in
    let one : ℕ = cond (is_fault_of k h) 1 0 in
    ap (λ (n : ℕ). one + n) rest ∙ omega arith
fault_count-append k (Shows server clock showing ∷ items) more = fault_count-append k items more

-- each fault that is told has its cause, also after more is told
pub more_causes : (k : ℕ) (items more : List TraceItem) (before after : List Held) → AreCauses k items before
    → AreRises k more before after → AreCauses k (items ++ more) after
more_causes k items more [] [] causes rises = tt
more_causes k items more [] (new ∷ after) causes rises = absurd rises
more_causes k items more (old ∷ before) [] causes rises = absurd rises
more_causes k items more (old ∷ before) (new ∷ after) causes rises =
    (omega (arith, causes.0, rises.0, fault_count-append k items more), more_causes (k + 1) items more before after causes.1 rises.1)

-- as long as nothing more is told
pub same_causes : (k : ℕ) (items : List TraceItem) (before after : List Held) → AreCauses k items before → AreRises k [] before after
    → AreCauses k items after
same_causes k items before after causes rises =
    subst (λ (l : List TraceItem). AreCauses k l after) (append-nil items) (more_causes k items [] before after causes rises)

-- ---- disks that stand for no database

-- an opening over empty files cuts the log to nothing, and syncs it
opens_none : OpensIn no_files 2
opens_none = treats no_files 2 (empty_ignored [] refl) (cuts no_files (short_log_is_discarded [] (omega arith)) (λ same. cc))

-- an empty disk
pub empty_unwritten : {D : Type 0} (g : Ghosts D) (disk : D) → g.files disk ≡ Some no_files → IsUnwritten (g.steps disk) (held g disk)
empty_unwritten g disk empty = record {
  stands = subst (λ (o : Option Files). IsSomeAnd o (StandsAs no_database)) (sym empty) fresh_stands;
  rise = 0;
  few = (2, opens_none, omega arith);
  steps = omega arith;
}

pub unwritten : {D : Type 0} (g : Ghosts D) (disks : List D) → All (λ disk. g.files disk ≡ Some no_files) disks
    → AreUnwritten (counts_of g disks) (all_held g disks)
unwritten g [] empty = tt
unwritten g (disk ∷ disks) empty = (
  empty_unwritten g disk (All-head (λ disk. g.files disk ≡ Some no_files) disk disks empty),
  unwritten g disks (All-tail (λ disk. g.files disk ≡ Some no_files) disk disks empty),
)

-- those of two runs of disks
pub unwritten-append : (given more : List ℕ) (disks others : List Held) → AreUnwritten given disks → AreUnwritten more others
    → AreUnwritten (given ++ more) (disks ++ others)
unwritten-append [] more [] others first second = second
unwritten-append [] more (disk ∷ disks) others first second = absurd first
unwritten-append (before ∷ given) more [] others first second = absurd first
unwritten-append (before ∷ given) more (disk ∷ disks) others first second =
    (first.0, unwritten-append given more disks others first.1 second)

-- as many disks as servers
pub length-read : (sites : List Site) (disks : List Held) → AreReadBy sites disks → length sites ≡ length disks
length-read [] [] read = refl
length-read [] (disk ∷ disks) read = absurd read
length-read (site ∷ sites) [] read = absurd read
length-read (site ∷ sites) (disk ∷ disks) read = ap suc (length-read sites disks read.1)

pub take-first : {X : Type 0} (xs ys : List X) → take (length xs) (xs ++ ys) ≡ xs
take-first [] ys = refl
take-first (x ∷ xs) ys = ap (λ l. x ∷ l) (take-first xs ys)

pub drop-first : {X : Type 0} (xs ys : List X) → drop (length xs) (xs ++ ys) ≡ ys
drop-first [] ys = refl
drop-first (x ∷ xs) ys = drop-first xs ys

-- the causes of the disks of the servers, which stand first
pub first_causes : (sites : List Site) (items : List TraceItem) (disks others : List Held) → AreReadBy sites disks
    → AreCauses 0 items disks → AreCauses 0 items (take (length sites) (disks ++ others))
first_causes sites items disks others read causes =
    subst (λ (n : ℕ). AreCauses 0 items (take n (disks ++ others))) (sym (length-read sites disks read))
    (subst (λ (l : List Held). AreCauses 0 items l) (sym (take-first disks others)) causes)

-- what was told before holds also where more was told
pub fewer_rises : (k : ℕ) (items : List TraceItem) (before after : List Held) → AreRises k items before after → AreRises k [] before after
fewer_rises k items [] [] rises = tt
fewer_rises k items [] (new ∷ after) rises = absurd rises
fewer_rises k items (old ∷ before) [] rises = absurd rises
fewer_rises k items (old ∷ before) (new ∷ after) rises = (omega (arith, rises.0), fewer_rises (k + 1) items before after rises.1)

-- the causes of as many disks as there are servers
pub counted_causes : (n : ℕ) (items : List TraceItem) (disks others : List Held) → n ≡ length disks → AreCauses 0 items disks
    → AreCauses 0 items (take n (disks ++ others))
counted_causes n items disks others count causes =
    subst (λ n. AreCauses 0 items (take n (disks ++ others))) (sym count)
    (subst (λ (l : List Held). AreCauses 0 items l) (sym (take-first disks others)) causes)

-- as many disks as sites
pub length-helds : {D V : Type 0} (g : Ghosts D) (sites : List (RunningSite D V g))
    → length (map (λ (site : RunningSite D V g). held g (site_disk site)) sites) ≡ length sites
length-helds g [] = refl
length-helds g (site ∷ sites) = ap suc (length-helds g sites)

hosts_counted : (k n : ℕ) → length (hosts_from k n) ≡ n
hosts_counted k zero = refl
hosts_counted k (suc n) = ap suc (hosts_counted (k + 1) n)

pub hosts_count : (n : ℕ) → length (hosts_of n) ≡ n
hosts_count n = hosts_counted 0 n

-- ---- what the disks of a stage hold

-- the disks of a cell's servers, and those behind them
pub hold_cell : (dbs : Databases) (given : List ℕ) (short : Bool) (c : Cell) (n : ℕ) (disks others : List Held) → n ≡ length disks
    → HoldRun (database_in dbs c) (take n given) short c disks → AreUnwritten (drop n given) others
    → HoldStage dbs given short (Some c) (disks ++ others)
hold_cell dbs given short c n disks others count holds behind =
    let as_many : length c.run.world.sites ≡ length disks = length-read c.run.world.sites disks holds.read in
    let there : (take (length disks) (disks ++ others) ≡ disks) × (drop (length disks) (disks ++ others) ≡ others) =
    (take-first disks others, drop-first disks others) in
    let Q : ℕ → List ℕ → List ℕ → Type 0 = λ k front back. HoldRun (database_in dbs c) front short c (take k (disks ++ others))
    × AreUnwritten back (drop k (disks ++ others)) in
    let whole : Q (length disks) (take n given) (drop n given) = (
      subst (λ (l : List Held). HoldRun (database_in dbs c) (take n given) short c l) (sym there.0) holds,
      subst (λ (l : List Held). AreUnwritten (drop n given) l) (sym there.1) behind,
    ) in
    let counted : Q (length disks) (take (length disks) given) (drop (length disks) given) =
    subst (λ (k : ℕ). Q (length disks) (take k given) (drop k given)) count whole in
    subst (λ (k : ℕ). Q k (take k given) (drop k given)) (sym as_many) counted

counts_short : (db : Database) (c : Cell) (k : ℕ) (failed : List Bool) (given : List ℕ) (disks : List Held)
    → AreCountsFrom db c false k failed given disks → AreCountsFrom db c true k failed given disks
counts_short db c k [] [] [] counts = tt
counts_short db c k [] [] (disk ∷ disks) counts = absurd counts
counts_short db c k [] (before ∷ given) disks counts = absurd counts
counts_short db c k (failed ∷ more) [] disks counts = absurd counts
counts_short db c k (failed ∷ more) (before ∷ given) [] counts = absurd counts
counts_short db c k (failed ∷ more) (before ∷ given) (disk ∷ disks) counts =
    let one = counts.0 in (
      record {
        opening = one.opening;
        opens = one.opens;
        rise = one.rise;
        rises = one.rises;
        surplus = one.surplus;
        over = inl one.over;
        is = one.is;
      },
      counts_short db c (k + 1) more given disks counts.1,
    )

-- what disks hold they hold too where memory ran out
pub stage_short : (dbs : Databases) (given : List ℕ) (cell : Option Cell) (disks : List Held) → HoldStage dbs given false cell disks
    → HoldStage dbs given true cell disks
stage_short dbs given None disks holds = holds
stage_short dbs given (Some c) disks holds = (
  record {
    world = holds.0.world;
    read = holds.0.read;
    counts = counts_short (database_in dbs c) c 0 c.opening.failed (take (length c.run.world.sites) given)
        (take (length c.run.world.sites) disks) holds.0.counts;
  },
  holds.1,
)
