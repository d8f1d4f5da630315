-- Replies: on the image of which version each was evaluated, and that this version was announced; and what ready beacons name (own).
use Rattle.std.specs.Prelude.{◌≡◌, ℕ, true, Option, Some, None, List, [], ◌∷◌, ◌++◌}
use Rattle.db_image.specs.Database.{Database, changes_of}
use Rattle.ubik_types.specs.declared.versions.Version.{Version}
use Rattle.ubik_calls.specs.declared.packets.Body.{Body}
use Rattle.ubik_calls.specs.declared.packets.Body.TheVariants as body
use Rattle.ubik_calls.specs.declared.replies.Reply.{Reply}
use Rattle.ubik_calls.specs.declared.replies.Reply.TheVariants as reply
use Rattle.cell_model.specs.declared.events.Output.{Output}
use Rattle.cell_model.specs.declared.events.Output.TheVariants as output
use Rattle.cell_model.specs.Book.{BookVersion, Book}
use Rattle.cell_model.specs.KeptLaws.{version_under, IsReplyOf, IsUngiven}
use Rattle.cell_model.specs.Node.{ReadyBeacon}
use Rattle.cell_model.specs.Step.{Basis, Announced_image, Beacon_image, Commit_on, Evaluation, Shown}
use Rattle.cell_model.specs.Writes.{next_version}
use Rattle.cell_pages.specs.Images.{IsImageOf}
use Rattle.cell_pages.specs.Laws.{MadeOnce}
use Rattle.cell_pages.specs.Moves.{transaction_of}
use Rattle.cell_pages.specs.Parts.{AtMost}
use Rattle.cell_orders.specs.Acknowledged.{IsAnnounced, IsMade}
use Rattle.cell_orders.specs.Histories.{announced_in}
use Rattle.cell_orders.specs.Orders.{IsLast}

-- a beacon that is ready names an announced version
abbrev pub Names : List Version → Body → Type 0
Names announced (body.Beacon start claim ready version) = ready ≡ true → IsAnnounced announced version
Names announced _ = Unit {0}

-- so does the beacon that a server keeps
abbrev pub IsNamed : List Version → Option ReadyBeacon → Type 0
IsNamed announced None = Unit {0}
IsNamed announced (Some kept) = IsAnnounced announced kept.version

-- announced versions, the newest first: some, and then these
abbrev pub EndsIn : List Version → List Version → Type 0
EndsIn earlier announced = (newer : List Version) × (announced ≡ newer ++ earlier)

-- what is behind a step: a book in which no version is made twice, and a version that the server does not pass in it
pub record Beyond : Type 0 where
  pub book : Book
  pub top : Version

pub record IsBeyond (x : Beyond) (book : Book) (v : Version) : Type 0 where
  pub once : MadeOnce x.book
  pub newer : List BookVersion
  pub grew : x.book ≡ newer ++ book
  pub most : AtMost v x.top

-- Of a reply by its basis, and the versions announced before it. `since`: those announced before the reply before it. The sync site
-- serves the version that was announced last; an Ok comes behind the announcement of its own version, and was evaluated on the one
-- before that; another server serves an announced version, which it does not pass in that step.
abbrev pub IsServedOn : Beyond → (since announced : List Version) → Evaluation → Basis → Type 0
IsServedOn x since announced e (Announced_image v) = IsLast announced v
IsServedOn x since announced e (Beacon_image v) = IsAnnounced announced v × AtMost x.top v
IsServedOn x since announced e (Commit_on old new) =
    (before : List Version) × (announced ≡ new ∷ before) × IsLast before old × EndsIn since before × (new ≡ next_version old)
    × IsMade x.book new (transaction_of e.moment e.call)

-- an Ok to a call that writes, which is no commit's, changes no block
abbrev pub LeavesBlocks : Database → List ℕ → Evaluation → Basis → Reply → Type 0
LeavesBlocks db image e (Commit_on old new) r = Unit {0}
LeavesBlocks db image e _ (reply.Ok fields) =
    db.writes e.call ≡ Some true → changes_of db image (db.call image e.moment e.call).image ≡ []
LeavesBlocks db image e _ r = Unit {0}

-- A reply that a database gave: it is what the database replies on the image of the version under it.
pub record IsServedReply (db : Database) (x : Beyond) (since announced : List Version) (e : Evaluation) (r : Reply) : Type 0 where
  pub served_on : IsServedOn x since announced e e.basis
  pub image : List ℕ
  pub of : IsImageOf db x.book (version_under e.basis) image
  pub replied : IsReplyOf (db.call image e.moment e.call).reply r
  pub reached : AtMost (version_under e.basis) x.top
  pub leaves : LeavesBlocks db image e e.basis r

abbrev pub IsServed : Database → Beyond → (since announced : List Version) → Output → Option Evaluation → Type 0
IsServed db x since announced (output.Send packet) e = Names announced packet.body
IsServed db x since announced (output.Announce version) e = Unit {0}
IsServed db x since announced (output.Reply id r) None = IsUngiven r
IsServed db x since announced (output.Reply id r) (Some e) = IsServedReply db x since announced e r

-- the versions announced before the last reply
abbrev pub since_after : Output → (since announced : List Version) → List Version
since_after (output.Reply id r) since announced = announced
since_after _ since announced = since

abbrev pub AllServed : Database → Beyond → (since announced : List Version) → List Shown → Type 0
AllServed db x since announced [] = Unit {0}
AllServed db x since announced (one ∷ shown) =
    IsServed db x since announced one.output one.evaluation
    × AllServed db x (since_after one.output since announced) (announced_in one.output announced) shown
