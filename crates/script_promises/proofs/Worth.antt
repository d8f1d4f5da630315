-- The cell that stands after the lines of a script is a run of the world; where it has one server, the laws of such runs are its.
use Rattle.std.proofs.Common.{◌≡◌, Bool, List, [], ◌∷◌, length, Option, Some, None, IfSome, refl, ap, ◌∙◌, arith}
use Rattle.ubik_types.specs.declared.hosts.Host.{Host}
use Rattle.cell_model.specs.KeptLaws.{AcknowledgedStay, OksAreAcknowledged, RepliesAreSingle, SitesAreSingle}
use Rattle.cell_model.specs.Laws.{AnnouncementsGrow}
use Rattle.cell_model.specs.World.{first_world}
use Rattle.db_image.specs.Standing.{Standing}
use Rattle.cell_script.specs.declared.lines.Kind.{Kind}
use Rattle.cell_script.specs.declared.lines.Kind.TheVariants.{Location, Protection}
use Rattle.cell_runs.specs.Script.{Cell, Told, cell_size_of, hosts_of, kind_of_cell, told}
use Rattle.script_laws.specs.Runs.{NamesCalls, IsRunOf, IsRunOfCell, ScriptsAreRuns}
use Rattle.script_promises.specs.Databases.{databases, standing_of, standings}
use Rattle.script_promises.specs.Lawful.{IsLawful}
use Rattle.script_promises.specs.Promises.{KeepsPromises, ScriptsKeepPromises}
use Rattle.script_promises.proofs.Copies.{IsOfOne, kept, one_order, single_replies}

-- the laws of runs of one server, of the databases, and of scripts
pub record Laws : Type 0 where
  pub lawful : (k : Kind) → IsLawful (standings k)
  pub names : NamesCalls databases
  pub order : AnnouncementsGrow
  pub stay : AcknowledgedStay
  pub acknowledged : OksAreAcknowledged
  pub sites : SitesAreSingle
  pub replies : RepliesAreSingle
  pub runs : ScriptsAreRuns

-- what holds of both kinds
pub by_kind : (P : Kind → Type 0) → P Protection → P Location → (k : Kind) → P k
by_kind P protection location Protection = protection
by_kind P protection location Location = location

-- ---- a cell of one server

of_failed : (c : Cell) (failed : List Bool) → c.opening.failed ≡ failed → length failed ≡ 1
    → c.run.world.hosts ≡ hosts_of (length c.opening.failed) → IsOfOne c
of_failed c [] is one hosts = absurd (omega (arith, one))
of_failed c (failed ∷ []) is one hosts = record {
  failed = failed;
  first =
      ap (λ (l : List Host). first_world l c.opening.clock c.opening.failed) hosts
      ∙ ap (λ (l : List Bool). first_world (hosts_of (length l)) c.opening.clock l) is;
}
of_failed c (failed ∷ other ∷ more) is one hosts = absurd (omega (arith, one))

of_one : (t : Told) (c : Cell) → IsRunOf databases t c → cell_size_of c ≡ 1 → IsOfOne c
of_one t c run one = of_failed c c.opening.failed refl (run.first.each ∙ one) run.hosts

-- ---- what it is worth

worth : Laws → (t : Told) (c : Cell) → IsRunOf databases t c → KeepsPromises c
worth laws t c run one =
    let is : IsOfOne c = of_one t c run one in
    let d : Standing = standing_of c in
    let lawful : IsLawful d = laws.lawful (kind_of_cell c) in
    record {
      order = one_order d c is laws.order;
      kept = kept d c is lawful laws.stay laws.sites laws.acknowledged;
      replies = λ found. single_replies d c is lawful laws.replies run.scripted found;
    }

cell_worth : Laws → (t : Told) (cell : Option Cell) → IsRunOfCell databases t cell → IfSome cell KeepsPromises
cell_worth laws t None run = tt
cell_worth laws t (Some c) run = worth laws t c run

pub scripts_keep_promises : Laws → ScriptsKeepPromises
scripts_keep_promises laws readings =
    cell_worth laws (told databases readings) (told databases readings).stage.cell (laws.runs databases laws.names readings)
