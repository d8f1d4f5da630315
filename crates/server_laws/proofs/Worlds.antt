-- What schedules of a cell come to, where in each of its runs each step is the world's.
use Rattle.std.proofs.Common.{Bool, ℕ, List, [], length, refl, subst, sym}
use Rattle.ubik_types.specs.declared.hosts.Host.{Host}
use Rattle.db_image.specs.Standing.{Standing}
use Rattle.cell_model.specs.Durable.{no_database}
use Rattle.cell_model.specs.World.{World, Event, IsRun, first_world, member, world_after}
use Rattle.journal_model.specs.Schedules.{Life, life_from}
use Rattle.server_laws.specs.Laws.{AllMeant, MakesAWorld}
use Rattle.server_laws.proofs.Lives.{AllLives}
use Rattle.server_laws.proofs.Runs.{IsReached, first_replays, front_fits, schedule_fits, schedule_journals, schedule_replays, schedule_runs}
use Rattle.server_laws.proofs.Untold.{all_same, untold_fits}

module _ (d : Standing) (hosts : List Host) (clock : ℕ) (failed : List Bool)
    (meant : (events : List Event) → IsRun d.database (first_world hosts clock failed) events →
    AllMeant d (world_after d.database (first_world hosts clock failed) events)) where
  abbrev start : World
  start = first_world hosts clock failed

  abbrev Reached : World → Type 0
  Reached w = IsReached d.database start w

  abbrev first_lives : ℕ → Life
  first_lives k = life_from (length hosts) no_database clock

  first_reached : Reached start
  first_reached = record { events = []; run = tt; is = refl }

  first_all : AllLives d.database start first_lives
  first_all k site is = first_replays d.database (length hosts) (member start k) clock failed k site is

  pub makes_a_world : MakesAWorld d hosts clock failed
  makes_a_world = record {
    meant = meant;
    run = λ schedule fits. schedule_runs d hosts clock failed meant start schedule first_reached fits;
    replays = λ front rest fits k site there.
        let fit = front_fits d start front rest fits in
        (schedule_replays d hosts clock failed meant start front first_lives first_reached fit first_all k site there).replay;
    fronts = λ front rest fits. front_fits d start front rest fits;
    journals = λ schedule fits.
        schedule_journals d hosts clock failed meant start schedule first_lives first_reached refl first_all fits
        (λ k. record { each = tt; once = refl });
    fits = λ schedule allowed ends.
        schedule_fits d hosts clock failed meant start schedule first_lives first_reached refl first_all allowed
        (λ k front rest split. ends front rest split k);
    silent = λ schedule fits.
        untold_fits d start (λ w reached. subst (AllMeant d) (sym reached.is) (meant reached.events reached.run)) start schedule first_reached fits;
    same = λ schedule. all_same d.database start schedule;
  }
