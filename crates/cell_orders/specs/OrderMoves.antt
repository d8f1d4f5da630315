-- The moves that a step of a server is made of, as far as the order goes: each with what is known where it is made. `I` is said of the
-- history and of how the server stands; where each move keeps it, so does each step (own).
use Rattle.std.specs.Prelude.{◌≡◌, ℕ, ◌<◌, Bool, true, false, Some, None, List, ◌∷◌, map, is_some}
use Rattle.ubik_types.specs.declared.versions.Version.{Version}
use Rattle.ubik_types.specs.Lease.{with_start, vote_counted}
use Rattle.ubik_types.specs.Phase.{Polled, Spread, NoPhase, Poll, Fetch, Relabel, Send, Ready}
use Rattle.ubik_types.specs.Quorum.{is_majority}
use Rattle.ubik_types.specs.Version.{version_lt}
use Rattle.ubik_types.specs.Votes.{beacon_is_due, answered}
use Rattle.cell_model.specs.Book.{with_version}
use Rattle.cell_model.specs.Durable.{Transaction, Own_relabelling, Committed}
use Rattle.cell_model.specs.Polls.{only_at, only_holder, with_answer, best_answer}
use Rattle.cell_model.specs.Receiver.{is_sending}
use Rattle.cell_model.specs.Recovery.{first_of_epoch, held_by}
use Rattle.cell_model.specs.Step.{Member, cell_size, Shown}
use Rattle.cell_model.specs.Writes.{next_version}
use Rattle.cell_pages.specs.Parts.{AtMost}
use Rattle.cell_orders.specs.Histories.{Stand, History, with_book, with_shown, AllFit}
use Rattle.cell_orders.specs.Orders.{IsLast}

-- a poll begins, which knows the own version alone
abbrev pub poll_of : Member → Stand → ℕ → Polled
poll_of m c now = record { number = now; answers = only_at (Some c.version) None (cell_size m) m.me }

-- votes
pub record VoteMoves (m : Member) (now : ℕ) (I : History → Stand → Type 0) : Type 0 where
  pub hears : (h : History) (c : Stand) (k : ℕ) (claim : Bool) → I h c → I h (record c { votes = answered c.votes now k claim })
  pub asks : (h : History) (c : Stand) (claim : Bool) → beacon_is_due c.votes now m.me claim ≡ true → I h c →
      I h (record c { votes = answered c.votes now m.me claim; starts = with_start c.starts m.me now })
  pub counts : (h : History) (c : Stand) (k start : ℕ) (granted : Bool) → I h c →
      I h (record c { starts = vote_counted c.opened m.me c.starts k start granted })

-- polls, in the lease; a phase is dropped out of it
pub record PollMoves (m : Member) (now : ℕ) (lease : Bool) (Answered : ℕ → ℕ → Version → Type 0) (I : History → Stand → Type 0) :
    Type 0 where
  pub drops : (h : History) (c : Stand) → lease ≡ false → I h c → I h (record c { phase = NoPhase })
  pub begins : (h : History) (c : Stand) → lease ≡ true → I h c → I h (record c { phase = Poll (poll_of m c now) })
  pub answers : (h : History) (c : Stand) (poll : Polled) (k : ℕ) (v : Version) → lease ≡ true → c.phase ≡ Poll poll →
      Answered k poll.number v → I h c → I h (record c { phase = Poll (with_answer poll k v) })
  pub fetches : (h : History) (c : Stand) (poll : Polled) (k : ℕ) → lease ≡ true → c.phase ≡ Poll poll →
      is_majority (cell_size m) (map is_some poll.answers) ≡ true → version_lt c.version (best_answer poll) ≡ true → I h c →
      I h (record c { phase = Fetch poll (best_answer poll) k })
  pub suffices : (h : History) (c : Stand) (poll : Polled) → lease ≡ true → c.phase ≡ Poll poll →
      is_majority (cell_size m) (map is_some poll.answers) ≡ true → version_lt c.version (best_answer poll) ≡ false → I h c →
      I h (record c { phase = Relabel poll })
  pub fetched : (h : History) (c : Stand) (poll : Polled) (best : Version) (k : ℕ) → lease ≡ true → c.phase ≡ Fetch poll best k →
      version_lt c.version best ≡ false → I h c → I h (record c { phase = Relabel poll })

-- versions that are made, held and announced, in the lease; and those that are taken over
pub record VersionMoves (m : Member) (now : ℕ) (lease : Bool) (Kept : ℕ → Version → Type 0) (I : History → Stand → Type 0) :
    Type 0 where
  pub rises : (h : History) (c : Stand) (v : Version) → is_sending c.phase ≡ false → version_lt c.version v ≡ true → I h c →
      I h (record c { version = v })
  pub relabels : (h : History) (c : Stand) (poll : Polled) → lease ≡ true → c.phase ≡ Relabel poll → c.version.epoch < now → I h c →
      I (with_book h (with_version h.book m.me c.version (first_of_epoch now) Own_relabelling))
      (record c { version = first_of_epoch now; phase = Send poll (record { old = c.version; holders = only_holder m }) })
  pub commits : (h : History) (c : Stand) (poll : Polled) (spread : Spread) (announced : Version) (t : Transaction) → lease ≡ true →
      c.phase ≡ Ready poll spread announced → c.version ≡ announced → I h c →
      I (with_book h (with_version h.book m.me c.version (next_version c.version) (Committed t)))
      (record c {
        version = next_version c.version;
        phase = Ready poll (record spread { holders = only_holder m }) c.version;
      })
  pub holds : (h : History) (c : Stand) (k : ℕ) → Kept k c.version → I h c → I h (record c { phase = held_by c.phase k })
  pub announces : (h : History) (c : Stand) (poll : Polled) (spread : Spread) → lease ≡ true → c.phase ≡ Send poll spread →
      is_majority (cell_size m) spread.holders ≡ true → I h c →
      I (record h { announced = c.version ∷ h.announced }) (record c { phase = Ready poll spread c.version })
  pub ends : (h : History) (c : Stand) (poll : Polled) (spread : Spread) (announced : Version) → lease ≡ true →
      c.phase ≡ Ready poll spread announced → is_majority (cell_size m) spread.holders ≡ true → I h c →
      I (record h { announced = c.version ∷ h.announced }) (record c { phase = Ready poll spread c.version })

-- all of them; packets are put out, and calls are served
pub record OrderMoves (m : Member) (now : ℕ) (lease : Bool) (Asked : ℕ → ℕ → Type 0) (Answered : ℕ → ℕ → Version → Type 0)
    (Kept : ℕ → Version → Type 0) (I : History → Stand → Type 0) :
    Type 0 where
  pub vote : VoteMoves m now I
  pub poll : PollMoves m now lease Answered I
  pub version : VersionMoves m now lease Kept I
  pub shows : (h : History) (c : Stand) (shown : List Shown) → AllFit m Asked c shown → I h c → I (with_shown h shown) c
  -- who serves has the version that was announced last, or one above it
  pub serves : (h : History) (c : Stand) (poll : Polled) (spread : Spread) (announced : Version) → lease ≡ true →
      c.phase ≡ Ready poll spread announced → I h c → IsLast h.announced announced × AtMost announced c.version
