-- Packets that come late: the runs are computed.
use Rattle.std.proofs.Common.{◌≡◌, refl, sym, ◌∙◌}
use Rattle.std.specs.Prelude.{List, [], ◌∷◌}
use Rattle.xdr_base.specs.Reading.{opaque_at, count_at}
use Rattle.cell_model.specs.Book.{Announcement}
use Rattle.cell_model.specs.NodeRule.{step_by}
use Rattle.cell_examples.specs.Late.{LateCommitIsUndone, PollsOfOneSecond, fetched, late_commit}
use Rattle.cell_examples.specs.Showing.{three, version, announcements_of}

-- the first announcement is the only one until then
abbrev only_first : List Announcement
only_first = record { server = 0; version = version 176 1; transactions = [] } ∷ []

fetched_announced : announcements_of three fetched ≡ only_first
unfolding step_by opaque_at count_at
fetched_announced = refl

late_announced : announcements_of three late_commit ≡ only_first
unfolding step_by opaque_at count_at
late_announced = refl

pub is_undone : LateCommitIsUndone
unfolding step_by opaque_at count_at
is_undone = record {
  run = (refl, (refl, (refl, (refl, (refl, (refl, (refl, (refl, (refl, (refl, (refl, (refl, (refl, (refl, (refl, (refl, (refl, (refl, (refl, (refl, (refl, (refl, (refl, (refl, (refl, (refl, (refl, (refl, (refl, (refl, (refl, tt)))))))))))))))))))))))))))))));
  before = refl;
  changed = refl;
  announced = late_announced ∙ sym fetched_announced;
  receiver = refl;
  later = refl;
}

pub of_one_second : PollsOfOneSecond
unfolding step_by opaque_at count_at
of_one_second = record {
  run = (refl, (refl, (refl, (refl, (refl, (refl, (refl, (refl, (refl, (refl, (refl, (refl, (refl, (refl, (refl, (refl, (refl, (refl, (refl, (refl, (refl, (refl, (refl, tt)))))))))))))))))))))));
  first = refl;
  second = refl;
  counted = refl;
  other_by_then = refl;
  later_run = (refl, (refl, (refl, (refl, (refl, (refl, (refl, (refl, (refl, (refl, (refl, (refl, (refl, (refl, (refl, (refl, (refl, (refl, (refl, (refl, (refl, (refl, (refl, (refl, tt))))))))))))))))))))))));
  not_counted = refl;
}
