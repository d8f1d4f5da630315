-- How many changing calls the disk of each server got, by the events of a run (own).
use Rattle.std.specs.Prelude.{◌≡◌, ◌≤◌, ◌⊎◌, ◌+◌, ◌==◌, ℕ, Bool, true, false, if◌then◌else◌, Option, Some, None, List, [], ◌∷◌, sum, take}
use Rattle.disk_base.specs.Files.{Files, no_files}
use Rattle.ubik_store.specs.Opening.{OpensIn}
use Rattle.db_image.specs.Database.{Database}
use Rattle.cell_model.specs.Durable.{Durable}
use Rattle.cell_model.specs.World.{Entry, Event, Restart, Site, Step, Stop, Fault, World, entry_calls, happens, site_of, world_after}
use Rattle.cell_runs.specs.Script.{Cell, first_of}
use Rattle.cell_sites.specs.Disks.{AreReadBy, Held}
use Rattle.ubik_node.specs.Disk.{StandsAs}

-- of the durable calls among these that server k made, how many changing calls each makes
abbrev pub calls_of : ℕ → List Entry → List ℕ
calls_of k [] = []
calls_of k (entry ∷ entries) = if entry.server == k then entry_calls entry ∷ calls_of k entries else calls_of k entries

-- A disk failed in a step whose durable calls make so many changing calls each, of which the first `made` took place. The whole ones made
-- just these; the one in which it failed, which took place or not, at most its own.
pub record IsCutShort (calls : List ℕ) (made rise : ℕ) : Type 0 where
  pub whole : ℕ
  pub not_more : whole ≤ made
  pub next : made ≤ whole + 1
  pub least : sum (take whole calls) ≤ rise
  pub most : rise ≤ sum (take (whole + 1) calls)

-- an opening makes just its calls, or, where it fails, at most these
abbrev pub RisesAs : (failed : Bool) → (calls rise : ℕ) → Type 0
RisesAs true calls rise = rise ≤ calls
RisesAs false calls rise = rise ≡ calls

-- an opening over files that stand for a durable state
pub record OpensOver (d : Durable) (failed : Bool) (rise : ℕ) : Type 0 where
  pub files : Files
  pub stands : StandsAs d files
  pub calls : ℕ
  pub opens : OpensIn files calls
  pub rises : RisesAs failed calls rise

abbrev pub OpensAt : Option Site → (failed : Bool) → (rise : ℕ) → Type 0
OpensAt None failed rise = rise ≡ 0
OpensAt (Some site) failed rise = OpensOver site.durable failed rise

-- the same where the server is that one; no other is opened
abbrev pub OpensWhere : (there : Bool) → Option Site → (failed : Bool) → (rise : ℕ) → Type 0
OpensWhere true site failed rise = OpensAt site failed rise
OpensWhere false site failed rise = rise ≡ 0

-- what an event adds to the count of server k
abbrev pub IsRiseIn : Database → World → Event → (k rise : ℕ) → Type 0
IsRiseIn db w (Step trigger short) k rise = rise ≡ sum (calls_of k (happens db w (Step trigger short)).entries)
IsRiseIn db w (Stop trigger short made) k rise = IsCutShort (calls_of k (happens db w (Step trigger short)).entries) made rise
IsRiseIn db w (Fault trigger short made) k rise = IsCutShort (calls_of k (happens db w (Step trigger short)).entries) made rise
IsRiseIn db w (Restart server failed) k rise = OpensWhere (server == k) (site_of w k) failed rise
IsRiseIn db w _ k rise = rise ≡ 0

-- what these events add to it, one after the other
abbrev pub IsRiseOver : Database → World → List Event → (k rise : ℕ) → Type 0
IsRiseOver db w [] k rise = rise ≡ 0
IsRiseOver db w (e ∷ events) k rise =
    (first : ℕ) × (rest : ℕ) × IsRiseIn db w e k first × IsRiseOver db (happens db w e).world events k rest × (rise ≡ first + rest)

-- the first opening, over empty files
abbrev pub OpensFirst : (failed : Bool) → (rise : ℕ) → Type 0
OpensFirst failed rise = (calls : ℕ) × OpensIn no_files calls × RisesAs failed calls rise

-- Where memory ran out, one more opening may have been begun that the run does not have.
abbrev pub IsSurplus : (short : Bool) → Option Site → ℕ → Type 0
IsSurplus false site surplus = surplus ≡ 0
IsSurplus true site surplus = (surplus ≡ 0) ⊎ OpensAt site true surplus

-- the count of server k went from one number to another in the run of a cell
pub record IsCountOf (db : Database) (c : Cell) (short : Bool) (k : ℕ) (failed : Bool) (before after : ℕ) : Type 0 where
  pub opening : ℕ
  pub opens : OpensFirst failed opening
  pub rise : ℕ
  pub rises : IsRiseOver db (first_of c) c.events k rise
  pub surplus : ℕ
  pub over : IsSurplus short (site_of c.run.world k) surplus
  pub is : after ≡ before + opening + rise + surplus

-- so each count, from server k on; `failed` says where the first opening failed, `given` what the counts were before it
abbrev pub AreCountsFrom : Database → Cell → (short : Bool) → (k : ℕ) → (failed : List Bool) → (given : List ℕ) → List Held → Type 0
AreCountsFrom db c short k [] [] [] = Unit {0}
AreCountsFrom db c short k (failed ∷ more) (before ∷ given) (disk ∷ disks) =
    IsCountOf db c short k failed before disk.steps × AreCountsFrom db c short (k + 1) more given disks
AreCountsFrom db c short k _ _ _ = ⊥

-- The disks of a cell hold its run: each stands for the durable state of its server, and got the changing calls of the run's events.
pub record HoldRun (db : Database) (given : List ℕ) (short : Bool) (c : Cell) (disks : List Held) : Type 0 where
  pub world : c.run.world ≡ world_after db (first_of c) c.events
  pub read : AreReadBy c.run.world.sites disks
  pub counts : AreCountsFrom db c short 0 c.opening.failed given disks
