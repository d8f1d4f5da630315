-- Replies that a database gave in a run: on which list each was evaluated, and how these lists grow (own).
use Rattle.std.specs.Prelude.{◌≡◌, ℕ, true, Some, None, List, [], ◌∷◌}
use Rattle.std.specs.List.{AllByRecursion}
use Rattle.db_image.specs.Database.{Database}
use Rattle.ubik_calls.specs.declared.replies.Reply.{Reply}
use Rattle.ubik_calls.specs.declared.replies.Reply.TheVariants as reply
use Rattle.ubik_types.specs.declared.versions.Version.{Version}
use Rattle.cell_model.specs.Book.{Book, Given, list_of, list_or_none}
use Rattle.cell_model.specs.Durable.{Transaction}
use Rattle.cell_model.specs.KeptLaws.{ChangesNothing, version_under, IsReplyOf, IsUngiven, order_behind}
use Rattle.cell_model.specs.Laws.{Begins}
use Rattle.cell_model.specs.SingleCopy.{reply_after}
use Rattle.cell_model.specs.Step.{Basis, Beacon_image, Commit_on}
use Rattle.cell_model.specs.World.{Happening, Replied}
use Rattle.cell_pages.specs.Images.{KeepsImages}
use Rattle.cell_pages.specs.Moves.{transaction_of}
use Rattle.cell_pages.specs.Parts.{AtMost}
use Rattle.cell_orders.specs.Acknowledged.{IsAnnounced}

-- the transaction that a reply would be, were it a commit's
abbrev pub transaction_in : Given → Transaction
transaction_in g = transaction_of g.evaluation.moment g.evaluation.call

-- the version under which a reply was given
abbrev pub version_in_reply : Given → Version
version_in_reply g = version_under g.evaluation.basis

-- with the transaction that is acknowledged, where it is a commit's
abbrev pub order_with : Given → List Transaction
order_with g = order_behind g.evaluation.basis g.order (transaction_in g)

-- The sync site serves the order of that moment, another server a front of it.
abbrev pub IsOrderAt : Basis → (list order : List Transaction) → Type 0
IsOrderAt (Beacon_image version) list order = Begins list order
IsOrderAt _ list order = list ≡ order

-- an Ok to a call that writes, which is no commit's, changes nothing of the single copy
abbrev pub LeavesCopy : Database → List Transaction → Given → Basis → Reply → Type 0
LeavesCopy db list g (Commit_on old new) r = Unit {0}
LeavesCopy db list g _ (reply.Ok fields) = db.writes g.evaluation.call ≡ Some true → ChangesNothing db list (transaction_in g)
LeavesCopy db list g _ r = Unit {0}

-- A reply that a database gave, in a run with this book and this order: the version under it has a list. What the single copy replies to the
-- call after that list, at the moment of the evaluation, is this reply, where the database keeps its images. At the sync site the list is
-- the order at which it was evaluated, at another server a front of that; and that order is a front of this one, with the transaction of
-- a commit as its next one. Any other Ok to a call that writes changes nothing.
pub record IsSingleReply (db : Database) (book : Book) (order : List Transaction) (g : Given) : Type 0 where
  pub list : List Transaction
  pub listed : list_of book (version_in_reply g) ≡ Some list
  pub replied : KeepsImages db → IsReplyOf (reply_after db list g.evaluation.moment g.evaluation.call) g.reply
  pub at : IsOrderAt g.evaluation.basis list g.order
  pub begins : Begins (order_with g) order
  pub leaves : KeepsImages db → LeavesCopy db list g g.evaluation.basis g.reply

-- it was given at the sync site
abbrev pub IsAtSync : Basis → Type 0
IsAtSync (Beacon_image version) = ⊥
IsAtSync _ = Unit {0}

-- a reply Ok or Rule that is seen is one that a database gave
abbrev pub HasEvaluation : Happening → Type 0
HasEvaluation (Replied server id r None) = IsUngiven r
HasEvaluation _ = Unit {0}

-- the list from which a reply was given
abbrev pub served_list : Book → Given → List Transaction
served_list book g = list_or_none book (version_in_reply g)

-- Replies, the newest first: the list from which a server gave one is a front of that of each later one of its own.
abbrev pub PrefixesStay : Book → List Given → Type 0
PrefixesStay book [] = Unit {0}
PrefixesStay book (newest ∷ earlier) =
    AllByRecursion (λ (g : Given). g.server ≡ newest.server → Begins (served_list book g) (served_list book newest)) earlier
    × PrefixesStay book earlier

-- ---- what every run keeps of them

-- What holds of a reply, by versions that were announced and durable versions: the one under it was announced, and its server has it or one
-- above it. `upper` is the one that was announced last by then; it has the order.
pub record IsGivenAt (db : Database) (book : Book) (told : List Version) (V : ℕ → Version) (g : Given) : Type 0 where
  pub list : List Transaction
  pub listed : list_of book (version_in_reply g) ≡ Some list
  pub replied : KeepsImages db → IsReplyOf (reply_after db list g.evaluation.moment g.evaluation.call) g.reply
  pub at : IsOrderAt g.evaluation.basis list g.order
  pub announced : IsAnnounced told (version_in_reply g)
  pub upper : Version
  pub upper_announced : IsAnnounced told upper
  pub upper_listed : list_of book upper ≡ Some (order_with g)
  pub reached : AtMost (version_in_reply g) (V g.server)
  pub leaves : KeepsImages db → LeavesCopy db list g g.evaluation.basis g.reply

-- replies, the newest first: no server serves a version below one that it served before
abbrev pub ServedRise : List Given → Type 0
ServedRise [] = Unit {0}
ServedRise (newest ∷ earlier) =
    AllByRecursion (λ (g : Given). g.server ≡ newest.server → AtMost (version_in_reply g) (version_in_reply newest)) earlier
    × ServedRise earlier
