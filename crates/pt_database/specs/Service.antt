-- The protection database as a service over images (layout of format 1).
use Rattle.std.specs.Option.{option_map}
use Rattle.db_image.specs.Database.{Database}
use Rattle.db_image.specs.Standing.{Standing}
use Rattle.prdb_finds.specs.Records.{whole}
use Rattle.prdb_layout.specs.declared.blocks.TheConstants.{HEAD_LEN}
use Rattle.db_blocks.specs.declared.blocks.TheConstants.{BLOCK_LEN}
use Rattle.pt_calls.specs.Calls.{call_kind}
use Rattle.pt_calls.specs.Writes.{is_write}
use Rattle.pt_service.specs.Meaning.{asked, protection_meaning, reply_by, verdict}
use Rattle.pt_service.specs.State.{State}
use Rattle.pt_looks.specs.States.{HoldsState}
use Rattle.pt_changes.specs.Standing.{image_by}
use Rattle.pt_laws.specs.Told.{state_in}

abbrev pub protection_database : Database
protection_database = record {
  writes = λ bytes. option_map is_write (option_map call_kind (asked bytes));
  call =
      λ image now bytes. let s =
      state_in (whole image) in let v = verdict s (asked bytes) in record { reply = reply_by v; image = image_by v s image };
  head = HEAD_LEN;
  block = BLOCK_LEN;
}

abbrev pub protection_standing : Standing
protection_standing = record {
  State = State;
  meaning = protection_meaning;
  StandsFor = HoldsState;
  database = protection_database;
}
