-- How one server lets the book grow: each version that it adds is new, and of an epoch that is its own (own).
use Rattle.std.specs.Prelude.{◌≡◌, ℕ, Bool, true, ◌⊎◌, List, [], ◌∷◌, ◌++◌}
use Rattle.ubik_types.specs.Version.{version_lt}
use Rattle.cell_model.specs.Book.{BookVersion, Book, with_version}
use Rattle.cell_model.specs.Durable.{Durable, Made, durable, durable_after, version_after}
use Rattle.cell_model.specs.Node.{Server}
use Rattle.cell_laws.specs.Invariant.{AllVersions}
use Rattle.cell_laws.specs.Laws.{AllBelow}
use Rattle.cell_pages.specs.Laws.{IsNew}

-- the epoch is that of some version in the book
abbrev pub HasEpoch : ℕ → Book → Type 0
HasEpoch epoch [] = ⊥
HasEpoch epoch (newest ∷ book) = (newest.version.epoch ≡ epoch) ⊎ HasEpoch epoch book

-- versions of this epoch are of this server
abbrev pub IsMadeBy : ℕ → ℕ → BookVersion → Type 0
IsMadeBy k epoch b = b.version.epoch ≡ epoch → b.maker ≡ k

-- server k made the epoch: it has versions in the book, and they are all of this server
abbrev pub OwnsEpoch : ℕ → Book → ℕ → Type 0
OwnsEpoch k book epoch = HasEpoch epoch book × AllVersions (IsMadeBy k epoch) book

-- what server k may add to the book, in its lease: a new version above all others, of an epoch above theirs or of one that it made
pub record IsNext (lease : Bool) (k : ℕ) (book : Book) (b : BookVersion) : Type 0 where
  pub leased : lease ≡ true
  pub maker : b.maker ≡ k
  pub new : IsNew b.version book
  pub above : AllVersions (λ p. version_lt p.version b.version ≡ true) book
  pub epoch : AllBelow b.version.epoch book ⊎ OwnsEpoch k book b.version.epoch

abbrev pub AreNext : Bool → ℕ → Book → List BookVersion → Type 0
AreNext lease k book [] = Unit {0}
AreNext lease k book (b ∷ newer) = IsNext lease k (newer ++ book) b × AreNext lease k book newer

-- the book after server k added to it
abbrev pub Grew : (lease : Bool) → ℕ → Book → Book → Type 0
Grew lease k book later = (newer : List BookVersion) × (later ≡ newer ++ book) × AreNext lease k book newer

-- the durable state of a server that is up
abbrev pub durable_of : Server → Durable
durable_of s = durable s.version s.image

-- the book after a durable call of server k on this state
abbrev pub book_with : ℕ → Book → Durable → Made → Book
book_with k book d made = with_version book k d.version (version_after made.call) made.reason

-- Durable calls of server k lead from one book and state to another, and so it is between them.
abbrev pub Leads : (Book → Durable → Type 0) → Bool → ℕ → Book → Durable → List Made → Book → Durable → Type 0
Leads D lease k book d [] later last = (book ≡ later) × (d ≡ last) × D book d
Leads D lease k book d (made ∷ calls) later last =
    (D book d × Grew lease k book (book_with k book d made)) × Leads D lease k (book_with k book d made)
    (durable_after d made.call) calls later last
