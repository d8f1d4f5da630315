-- The text of a write in flight, and the pieces that carry it (own).
use Rattle.std.specs.Prelude.{ℕ, ◌*◌, ◌≤◌, List, length}
use Rattle.std.specs.List.{AllByRecursion}
use Rattle.ubik_types.specs.declared.limits.TheConstants.{MAX_CHANGES}
use Rattle.ubik_types.specs.declared.versions.Version.{Version}
use Rattle.ubik_types.specs.Phase.{PhaseRecord}
use Rattle.xdr_base.specs.ChangeText.{HasSpelling, text_of}
use Rattle.ubik_calls.specs.declared.packets.TheConstants.{MAX_PIECES}
use Rattle.db_image.specs.Database.{Database}
use Rattle.cell_model.specs.Node.{Flight}
use Rattle.cell_model.specs.Pieces.{piece_count}
use Rattle.cell_pages.specs.Images.{KeepsImages}
use Rattle.write_laws.specs.Keeping.{IsOwnWrite}

-- Its changes have a spelling, and its text has at most sixteen times as many bytes as changes may have: a word says its length.
pub record HasText (f : Flight) : Type 0 where
  pub spelled : AllByRecursion HasSpelling f.changes
  pub long : length (text_of f.changes) ≤ 16 * MAX_CHANGES

-- So it is over each database that keeps its images. Where the head and the blocks have at least 64 bytes, no write has more pieces than
-- another server takes.
pub record TextsFit : Type 0 where
  pub each : (db : Database) (servers : ℕ) (phase : PhaseRecord) (version : Version) (image : List ℕ) (f : Flight) →
      KeepsImages db → IsOwnWrite db servers phase version image f → HasText f
  pub few : (db : Database) (servers : ℕ) (phase : PhaseRecord) (version : Version) (image : List ℕ) (f : Flight) →
      KeepsImages db → 64 ≤ db.head → 64 ≤ db.block → IsOwnWrite db servers phase version image f →
      piece_count (text_of f.changes) ≤ MAX_PIECES
