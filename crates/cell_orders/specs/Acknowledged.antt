-- Commits that are answered: their versions were announced, and each is that of its transaction (own).
use Rattle.std.specs.Prelude.{◌≡◌, ◌⊎◌, true, Option, Some, None, List, [], ◌∷◌, slice_get}
use Rattle.ubik_types.specs.declared.versions.Version.{Version}
use Rattle.ubik_types.specs.Phase.{PhaseRecord, Ready}
use Rattle.db_image.specs.Database.{Database}
use Rattle.db_image.specs.declared.services.CallReply.TheVariants as call_reply
use Rattle.cell_model.specs.declared.events.Output.{Output}
use Rattle.cell_model.specs.declared.events.Output.TheVariants as output
use Rattle.cell_model.specs.Book.{Book, Acknowledgement, list_of}
use Rattle.cell_model.specs.Durable.{Transaction}
use Rattle.cell_model.specs.Node.{Flight}
use Rattle.cell_model.specs.Step.{Basis, Commit_on, Evaluation, Shown, is_ready}
use Rattle.cell_model.specs.Writes.{next_version}
use Rattle.cell_pages.specs.Images.{IsImageOf}
use Rattle.cell_pages.specs.Moves.{transaction_of}

-- the version was announced
abbrev pub IsAnnounced : List Version → Version → Type 0
IsAnnounced [] v = ⊥
IsAnnounced (u ∷ announced) v = (u ≡ v) ⊎ IsAnnounced announced v

-- the book has a version that this transaction made
abbrev pub IsMade : Book → Version → Transaction → Type 0
IsMade [] v t = ⊥
IsMade (b ∷ book) v t = ((b.version ≡ v) × (b.transaction ≡ Some t)) ⊎ IsMade book v t

-- The write was evaluated on the image of the announced version, which its own one is next to, and its answer is what the database replied.
abbrev pub IsFlown : Database → Book → Version → PhaseRecord → Flight → Type 0
IsFlown db book v (Ready poll spread announced) f =
    (v ≡ next_version announced) × IsImageOf db book announced f.old_image
    × ((db.call f.old_image f.began f.call).reply ≡ call_reply.Done f.answer)
IsFlown db book v _ f = Unit {0}

-- Flights: a write is in flight in Ready alone, and it made the own version.
abbrev pub FlightMade : Database → Book → Version → PhaseRecord → Option Flight → Type 0
FlightMade db book v phase flight =
    (f : Flight) → flight ≡ Some f →
    (is_ready phase ≡ true) × IsMade book v (transaction_of f.began f.call) × IsFlown db book v phase f

-- where no write is in flight, a server that serves has the announced version
abbrev pub IsLevel : Version → PhaseRecord → Option Flight → Type 0
IsLevel v (Ready poll spread announced) None = v ≡ announced
IsLevel v _ flight = Unit {0}

-- an answer to a commit: its version was announced, and is that of its transaction
abbrev pub IsOkBy : Book → List Version → Evaluation → Basis → Type 0
IsOkBy book announced e (Commit_on old new) = IsAnnounced announced new × IsMade book new (transaction_of e.moment e.call)
IsOkBy book announced e _ = Unit {0}

abbrev pub IsOk : Book → List Version → Output → Option Evaluation → Type 0
IsOk book announced (output.Reply id r) (Some e) = IsOkBy book announced e e.basis
IsOk book announced _ e = Unit {0}

abbrev pub AllOks : Book → List Version → List Shown → Type 0
AllOks book announced [] = Unit {0}
AllOks book announced (one ∷ shown) = IsOk book announced one.output one.evaluation × AllOks book announced shown

-- Acknowledged: its version was announced, and has the transaction at its place.
pub record IsKeptAt (book : Book) (announced : List Version) (a : Acknowledgement) : Type 0 where
  pub told : IsAnnounced announced a.version
  pub list : List Transaction
  pub listed : list_of book a.version ≡ Some list
  pub placed : slice_get list a.place ≡ Some a.transaction

abbrev pub AllKeptAt : Book → List Version → List Acknowledgement → Type 0
AllKeptAt book announced [] = Unit {0}
AllKeptAt book announced (a ∷ acknowledged) = IsKeptAt book announced a × AllKeptAt book announced acknowledged
