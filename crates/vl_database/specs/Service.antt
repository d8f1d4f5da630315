-- The location database as a service over images (layout of format 1).
use Rattle.std.specs.Prelude.{ℕ, List, Option, nat_lt, if◌then◌else◌}
use Rattle.std.specs.Option.{option_map}
use Rattle.db_image.specs.Database.{Database}
use Rattle.db_image.specs.Meaning.{Meaning}
use Rattle.db_image.specs.Standing.{Standing}
use Rattle.vldb_entries.specs.Location.{Location}
use Rattle.vldb_entries.specs.Forms.{whole}
use Rattle.vldb_records.specs.Records.{Holds}
use Rattle.vldb_entries.specs.declared.layout.TheConstants.{HEAD_LEN}
use Rattle.db_blocks.specs.declared.blocks.TheConstants.{BLOCK_LEN}
use Rattle.vl_calls.specs.declared.calls.VlCall.{VlCall}
use Rattle.vl_calls.specs.Calls.{call_kind}
use Rattle.vl_calls.specs.Writes.{is_write}
use Rattle.vl_service.specs.Meaning.{asked, reply_by, verdict, vl_meaning}
use Rattle.vl_service.specs.Standing.{image_by}
use Rattle.vl_service.specs.Told.{location_in}

-- a moment as a call has it, which is a word; the clock of no cell is another number
abbrev pub moment_word : ℕ → ℕ
moment_word now = if nat_lt now 4294967296 then now else 0

-- the call that bytes spell
abbrev pub spelled_call : List ℕ → Option VlCall
spelled_call bytes = asked 0 bytes

abbrev pub vl_database : Database
vl_database = record {
  writes = λ bytes. option_map is_write (option_map call_kind (spelled_call bytes));
  call = λ image now bytes.
      let s = location_in (whole image) in
      let v = verdict s (moment_word now) (asked (moment_word now) bytes) in record { reply = reply_by v; image = image_by v s image };
  head = HEAD_LEN;
  block = BLOCK_LEN;
}

-- what the calls mean, at a moment that is a word
abbrev pub location_meaning : Meaning Location
location_meaning = record { first = vl_meaning.first; call = λ s now bytes. vl_meaning.call s (moment_word now) bytes }

abbrev pub vl_standing : Standing
vl_standing = record {
  State = Location;
  meaning = location_meaning;
  StandsFor = Holds;
  database = vl_database;
}
