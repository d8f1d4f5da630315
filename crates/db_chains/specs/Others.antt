-- Chains beside one that changes (own).
use Rattle.std.specs.Prelude.{ℕ, ◌≡◌, ◌≢◌, ◌+◌, ◌*◌, ◌≤◌, ◌⊎◌, List}
use Rattle.std.specs.List.{AllByRecursion}
use Rattle.db_blocks.specs.Blocks.{block_in}
use Rattle.db_chains.specs.declared.links.Links.{Links}
use Rattle.db_chains.specs.Changes.{IsHeadPlace}
use Rattle.db_chains.specs.Links.{block_of}

-- two words of an image have no byte in common
abbrev pub AreApart : (p q : ℕ) → Type 0
AreApart p q = (p + 4 ≤ q) ⊎ (q + 4 ≤ p)

-- The words of chains of two sorts stand at other offsets of their blocks, and the first words of two of them, here and there, are neither
-- one nor words of the other's sort.
pub record AreOtherSorts (l m : Links) (here there : ℕ) : Type 0 where
  pub head : l.head ≡ m.head
  pub next : (l.next + 4 * l.kinds ≤ m.next) ⊎ (m.next + 4 * m.kinds ≤ l.next)
  pub places : AreApart here there
  pub first : IsHeadPlace m here
  pub second : IsHeadPlace l there

-- two lists have no word in common
abbrev pub HaveNoneOf : (ws vs : List ℕ) → Type 0
HaveNoneOf ws vs = AllByRecursion (λ w. AllByRecursion (λ v. v ≢ w) vs) ws

-- the blocks that these words name are the same in both images
abbrev pub NamesSame : Links → (old new : List ℕ) → List ℕ → Type 0
NamesSame l old new ws = AllByRecursion (λ w. block_in l.head new (block_of l w) ≡ block_in l.head old (block_of l w)) ws
