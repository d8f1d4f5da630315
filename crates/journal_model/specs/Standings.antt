-- A database by itself, each image of which is a state of its own (own).
use Rattle.std.specs.Prelude.{◌≡◌, ℕ, List, []}
use Rattle.db_image.specs.Database.{Database}
use Rattle.db_image.specs.Standing.{Standing}

-- So of any database: no image is without a state, and each call is evaluated as the database has it.
abbrev pub each_image : Database → Standing
each_image db =
    record {
      State = List ℕ;
      meaning = record {
        first = [];
        call = λ image now call. let o = db.call image now call in record { reply = o.reply; state = o.image };
      };
      StandsFor = λ image s. image ≡ s;
      database = db;
    }
