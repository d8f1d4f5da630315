-- Where nothing is pending, a crash leaves what reads give.
use Rattle.std.proofs.Common.{ℕ, Bool, length, take, drop, Option, Some, None, List, [], ◌∷◌, sym, subst}
use Rattle.std.specs.Prelude.{All, IsSomeAnd}
use Rattle.std.proofs.lemmas.List.Elements.{All-cons, All-head, All-nil, All-tail}
use Rattle.disk_base.specs.declared.disks.Disk.{Ghosts}
use Rattle.disk_base.specs.Crash.{IsSettled}
use Rattle.disk_base.specs.Files.{Files}
use Rattle.cell_model.specs.Durable.{Durable, no_database}
use Rattle.cell_model.specs.World.{Site}
use Rattle.cell_runs.specs.Script.{Cell}
use Rattle.cell_runs.specs.ScriptDatabase.{Databases}
use Rattle.cell_sites.specs.Disks.{AreReadBy, AreSettled, all_held}
use Rattle.cell_sites.proofs.Settling.{AtRest}
use Rattle.ubik_node.specs.Disk.{StandsAs}
use Rattle.ubik_cell.specs.Lines.{AreUnwritten, HoldStage}
use Rattle.ubik_cell.specs.OnDisk.{AreLeftAs, IsOnDisk, LeavesAs}

one_left : (files : Option Files) (may_leave : Files → Type 0) (d : Durable) → IsSomeAnd files (StandsAs d) → IsSettled files may_leave
    → (fs : Files) → may_leave fs → StandsAs d fs
one_left None may_leave d stands settled fs left = absurd stands
one_left (Some files) may_leave d stands settled fs left = subst (λ (c : Files). StandsAs d c) (sym (settled fs left)) stands

module _ {D : Type 0} (g : Ghosts D) where
  unwritten_left : (given : List ℕ) (disks : List D) → AreUnwritten given (all_held g disks) → AreSettled g disks
      → All (LeavesAs g no_database) disks
  unwritten_left [] [] none settled = All-nil (LeavesAs g no_database)
  unwritten_left [] (disk ∷ disks) none settled = absurd none
  unwritten_left (before ∷ given) [] none settled = absurd none
  unwritten_left (before ∷ given) (disk ∷ disks) none settled =
      All-cons (LeavesAs g no_database) disk disks
      (one_left (g.files disk) (g.may_leave disk) no_database none.0.stands (All-head (AtRest g) disk disks settled))
      (unwritten_left given disks none.1 (All-tail (AtRest g) disk disks settled))

  all_left : (sites : List Site) (given : List ℕ) (disks : List D) → AreReadBy sites (take (length sites) (all_held g disks))
      → AreUnwritten given (drop (length sites) (all_held g disks)) → AreSettled g disks → AreLeftAs g sites disks
  all_left [] given disks read behind settled = unwritten_left given disks behind settled
  all_left (site ∷ sites) given [] read behind settled = absurd read
  all_left (site ∷ sites) given (disk ∷ disks) read behind settled = (
    one_left (g.files disk) (g.may_leave disk) site.durable read.0 (All-head (AtRest g) disk disks settled),
    all_left sites given disks read.1 behind (All-tail (AtRest g) disk disks settled),
  )

  pub on_disk : (dbs : Databases) (given : List ℕ) (short : Bool) (cell : Option Cell) (disks : List D)
      → HoldStage dbs given short cell (all_held g disks) → AreSettled g disks → IsOnDisk g cell disks
  on_disk dbs given short None disks holds settled = unwritten_left given disks holds settled
  on_disk dbs given short (Some c) disks holds settled =
      all_left c.run.world.sites (drop (length c.run.world.sites) given) disks holds.0.read holds.1 settled
