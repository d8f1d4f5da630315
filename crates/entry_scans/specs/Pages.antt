-- The first entries of a registry that meet a test, ascending by id, and the blocks in which they stand (own).
use Rattle.std.specs.Prelude.{ℕ, ℤ, pos, negsuc, zero, suc, ◌≡◌, ◌+◌, ◌-◌, ◌<◌, ◌+ℤ◌, ◌≤ℤ◌, nat_le, Bool, true, false, List, [], ◌∷◌, Some}
use Rattle.prdb_layout.specs.Blocks.{block_count}
use Rattle.db_blocks.specs.Blocks.{word_at, kind_of}
use Rattle.prdb_layout.specs.Records.{block_in, entry_in}
use Rattle.prdb_layout.specs.Registry.{Registry}
use Rattle.prdb_layout.specs.State.{PrEntry}
use Rattle.prdb_layout.specs.declared.blocks.TheConstants.{PAIR_COUNT_AT}

-- ---- entries

-- the least id
abbrev pub least_id : ℤ
least_id = negsuc 2147483646

-- the entry with the least id from one on that meets a test
pub record IsLeast (test : PrEntry → Bool) (r : Registry) (from : ℤ) (e : PrEntry) : Type 0 where
  pub there : r.entry e.id ≡ Some e
  pub above : from ≤ℤ e.id
  pub met : test e ≡ true
  pub least : (id : ℤ) (f : PrEntry) → from ≤ℤ id → r.entry id ≡ Some f → test f ≡ true → e.id ≤ℤ id

-- the first so many from an id on that meet a test: each is the least behind the one before it, and behind the last of fewer is none
abbrev pub AreFirst : (test : PrEntry → Bool) → Registry → (from : ℤ) → (most : ℕ) → List PrEntry → Type 0
AreFirst test r from zero es = es ≡ []
AreFirst test r from (suc n) [] = (id : ℤ) (e : PrEntry) → from ≤ℤ id → r.entry id ≡ Some e → test e ≡ false
AreFirst test r from (suc n) (e ∷ es) = IsLeast test r from e × AreFirst test r (e.id +ℤ pos 1) n es

-- ---- blocks

-- an entry's block of an image
abbrev pub IsOfEntry : List ℕ → List ℕ → Type 0
IsOfEntry image block = (k : ℕ) × (k < block_count image) × (kind_of block ≡ 1) × (block ≡ block_in image k)

-- how many pairs an entry's block tells
abbrev pub pair_count_in : List ℕ → ℕ
pair_count_in block = word_at block PAIR_COUNT_AT

-- a number that ascends with the id
abbrev pub rank_of : ℤ → ℕ
rank_of (pos n) = 2147483648 + n
rank_of (negsuc n) = 2147483647 - n

-- that of the id in an entry's block
abbrev pub rank_in : List ℕ → ℕ
rank_in block = rank_of (entry_in block).id

-- the first word is one of a block
abbrev pub is_kind : List ℕ → Bool
is_kind block = nat_le (kind_of block) 2
