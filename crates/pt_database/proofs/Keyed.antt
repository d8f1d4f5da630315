-- Where an image that holds the database has the chains in which look-ups look.
use Rattle.std.proofs.Common.{◌≡◌, ℕ, zero, suc, ◌%◌, List, [], ◌∷◌, take, drop, refl, ap, arith}
use Rattle.std.specs.Prelude.{ℤ, sum}
use Rattle.std.specs.Int.{from_be_bytes, w32}
use Rattle.std.proofs.lemmas.Nat.{mod_below}
use Rattle.db_blocks.specs.Blocks.{word_at}
use Rattle.db_chains.specs.Chains.{HasChain}
use Rattle.prdb_layout.specs.Bytes.{bits}
use Rattle.prdb_layout.specs.Registry.{Registry}
use Rattle.prdb_lists.specs.Members.{Members}
use Rattle.prdb_finds.specs.Keys.{id_chain, name_chain}
use Rattle.prdb_finds.specs.Places.{id_links, name_links}
use Rattle.prdb_finds.specs.Records.{Holds, whole}

no_bytes : (n : ℕ) → ◌≡◌ {A = List ℕ} (drop n []) []
no_bytes zero = refl
no_bytes (suc n) = refl

-- the empty image has no word but 0
no_word : (at : ℕ) → word_at [] at ≡ 0
no_word at = ap (λ (b : List ℕ). from_be_bytes w32 (take 4 b)) (no_bytes at)

pub name_has_chain : (image : List ℕ) (r : Registry) (m : Members) (name : List ℕ) → Holds image r m
    → (words : List ℕ) × HasChain name_links image (name_chain name) words
unfolding whole
name_has_chain [] r m name holds = ([], no_word (name_chain name))
name_has_chain (b ∷ bytes) r m name holds =
    let v = holds.chains.names (sum name % 256) (mod_below (sum name) 256 (omega arith)) in (v.words, v.chain)

pub id_has_chain : (image : List ℕ) (r : Registry) (m : Members) (id : ℤ) → Holds image r m
    → (words : List ℕ) × HasChain id_links image (id_chain id) words
unfolding whole
id_has_chain [] r m id holds = ([], no_word (id_chain id))
id_has_chain (b ∷ bytes) r m id holds =
    let v = holds.chains.ids (bits id % 256) (mod_below (bits id) 256 (omega arith)) in (v.words, v.chain)
